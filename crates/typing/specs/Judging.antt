-- What a process row comes to.
use Rattle.std.specs.Prelude.{ℕ, List, [], ◌∷◌, ◌++◌, map, take, drop, Ok, Result}
use Rattle.levels.specs.Meaning.{Meaning}
use Rattle.rows.specs.declared.types.TypeKind.TheVariants.{Chan, Sym, Dec}
use Rattle.rows.specs.declared.types.TypeRow.{TypeRow}
use Rattle.rows.specs.declared.process.ProcessKind.{ProcessKind}
use Rattle.rows.specs.declared.process.ProcessKind.TheVariants.{Stop, Out, In, New, Both, Again, If, Sopen, Aopen, Verify}
use Rattle.rows.specs.declared.process.ProcessRow.{ProcessRow}
use Rattle.rows.specs.declared.term.TermRow.{TermRow}
use Rattle.rows.specs.Types.{type_at}
use Rattle.rows.specs.Processes.{row, adds, operand, run_of}
use Rattle.rows.specs.Tables.{Tables}
use Rattle.typing.specs.declared.misuse.Misuse.{Misuse}
use Rattle.typing.specs.declared.judging.Judgement.{Judgement}
use Rattle.typing.specs.declared.judging.Judgement.TheVariants.{Done, Binds, Splits, Opens, OpensOnce}
use Rattle.typing.specs.Usage.{used, verified, by_use}
use Rattle.typing.specs.Terms.{types_of_run, and_then}

-- type 0 in each new slot
abbrev pub zeros : List ℕ
zeros = 0 ∷ 0 ∷ 0 ∷ 0 ∷ []

-- the type of an operand, from the types of the row's terms
abbrev pub operand_type : List TypeRow → ProcessRow → ℕ → TypeRow
operand_type us p k = type_at us (operand p k)

-- the types of the parts that an output sends
abbrev pub sent_types : List TypeRow → ProcessRow → List TypeRow
sent_types us p = take p.count (map (type_at us) (drop 1 p.operands))

-- the rule of a row's kind, where its terms have the types us
abbrev pub judge : Meaning → List TypeRow → List TypeRow → ProcessRow → ProcessKind → Result Judgement Misuse
judge m ts us p Stop = Ok Done
judge m ts us p Out = by_use (used m ts (operand_type us p 0) Chan p.count (sent_types us p)) (Binds zeros) (Binds zeros)
judge m ts us p In = by_use (used m ts (operand_type us p 0) Chan p.count []) (Binds (operand_type us p 0).payload) (Binds zeros)
judge m ts us p New = Ok (Binds (p.ty ∷ 0 ∷ 0 ∷ 0 ∷ []))
judge m ts us p Both = Ok Splits
judge m ts us p Again = Ok (Binds zeros)
judge m ts us p If = Ok Splits
judge m ts us p Sopen = by_use (used m ts (operand_type us p 1) Sym p.count []) (Binds (operand_type us p 1).payload) (Binds zeros)
judge m ts us p Aopen = by_use (used m ts (operand_type us p 1) Dec p.count []) (Opens (operand_type us p 1).payload) OpensOnce
judge m ts us p Verify = by_use (verified m ts (operand_type us p 1) p.count (operand_type us p 0)) (Binds (operand_type us p 1).payload) (Binds zeros)

-- first the row's terms in order, then the row
abbrev pub reading : Meaning → List TypeRow → List ℕ → List TermRow → ProcessRow → Result Judgement Misuse
reading m ts Γ run p = and_then (types_of_run m ts Γ run []) (λ us. judge m ts us p p.kind)

-- what the row i comes to, where the slots in scope have the type rows Γ
abbrev pub reads : Meaning → Tables → List ℕ → ℕ → Result Judgement Misuse
reads m T Γ i = reading m T.types Γ (run_of T.terms (row T.processes i)) (row T.processes i)

-- the slots after a row, where the new ones have these type rows
abbrev pub extended : ProcessRow → List ℕ → List ℕ → List ℕ
extended p Γ new = Γ ++ take (adds p) new
