-- The words of kinds.
use Rattle.std.specs.Prelude.{ℕ, List, codes}
use Rattle.rows.specs.declared.types.TypeKind.{TypeKind}
use Rattle.rows.specs.declared.types.TypeKind.TheVariants.{Level, Chan, Sym, Dec, Enc, Sig, Ver}
use Rattle.rows.specs.declared.process.ProcessKind.{ProcessKind}
use Rattle.rows.specs.declared.process.ProcessKind.TheVariants.{Stop, Out, In, New, Both, Again, If, Sopen, Aopen, Verify}

abbrev pub type_word : TypeKind → List ℕ
type_word Level = codes "level"
type_word Chan = codes "chan"
type_word Sym = codes "sym"
type_word Dec = codes "dec"
type_word Enc = codes "enc"
type_word Sig = codes "sig"
type_word Ver = codes "ver"

abbrev pub process_word : ProcessKind → List ℕ
process_word Stop = codes "stop"
process_word Out = codes "out"
process_word In = codes "in"
process_word New = codes "new"
process_word Both = codes "both"
process_word Again = codes "again"
process_word If = codes "if"
process_word Sopen = codes "sopen"
process_word Aopen = codes "aopen"
process_word Verify = codes "verify"
