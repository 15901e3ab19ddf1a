-- The grammar's own words, which name nothing else.
use Rattle.std.specs.Prelude.{ℕ, Bool, cond, ◌||◌, List, is_some, Some, None, codes, Option}
use Rattle.std.specs.Str.{bytes_eq}
use Rattle.rows.specs.declared.types.TypeKind.{TypeKind}
use Rattle.rows.specs.declared.types.TypeKind.TheVariants.{Level, Chan, Sym, Dec, Enc, Sig, Ver}
use Rattle.rows.specs.declared.term.TermKind.TheVariants.{Ek, Vk, Senc, Aenc, Sign}
use Rattle.rows.specs.declared.process.ProcessKind.{ProcessKind}
use Rattle.rows.specs.declared.process.ProcessKind.TheVariants.{Stop, Out, In, New, Both, Again, If, Sopen, Aopen, Verify}
use Rattle.words.specs.declared.token.Mark.TheVariants.{Open, Bang}
use Rattle.words.specs.declared.token.Span.{Span}
use Rattle.scanning.specs.declared.vocabulary.Head.{Head}
use Rattle.scanning.specs.declared.vocabulary.Head.TheVariants.{Name, KeyOf, Under}
use Rattle.scanning.specs.Spelling.{is_mark, is_word, bytes_of}

-- the kinds of types
abbrev pub type_kind : List ℕ → Option TypeKind
type_kind w =
    cond (bytes_eq w (codes "level")) (Some Level)
    (cond (bytes_eq w (codes "chan")) (Some Chan)
    (cond (bytes_eq w (codes "sym")) (Some Sym)
    (cond (bytes_eq w (codes "dec")) (Some Dec)
    (cond (bytes_eq w (codes "enc")) (Some Enc)
    (cond (bytes_eq w (codes "sig")) (Some Sig)
    (cond (bytes_eq w (codes "ver")) (Some Ver) None))))))

-- what process a word begins, if any
abbrev pub process_word : List ℕ → Option ProcessKind
process_word w =
    cond (bytes_eq w (codes "stop")) (Some Stop)
    (cond (bytes_eq w (codes "new")) (Some New)
    (cond (bytes_eq w (codes "out")) (Some Out)
    (cond (bytes_eq w (codes "in")) (Some In)
    (cond (bytes_eq w (codes "if")) (Some If)
    (cond (bytes_eq w (codes "sopen")) (Some Sopen)
    (cond (bytes_eq w (codes "aopen")) (Some Aopen)
    (cond (bytes_eq w (codes "verify")) (Some Verify) None)))))))

-- the words that begin neither a type, a term nor a process
abbrev pub particle : List ℕ → Bool
particle w = bytes_eq w (codes "type") || bytes_eq w (codes "free") || bytes_eq w (codes "then") || bytes_eq w (codes "else") || bytes_eq w (codes "as") || bytes_eq w (codes "with") || bytes_eq w (codes "open")

-- the grammar's own words that begin no term
abbrev pub reserved : List ℕ → Bool
reserved w = particle w || is_some (type_kind w) || is_some (process_word w)

-- what the first word of a term says, unless it is a word of the grammar that begins no term
abbrev pub head : List ℕ → Option Head
head w =
    cond (bytes_eq w (codes "ek")) (Some (KeyOf Ek))
    (cond (bytes_eq w (codes "vk")) (Some (KeyOf Vk))
    (cond (bytes_eq w (codes "senc")) (Some (Under Senc))
    (cond (bytes_eq w (codes "aenc")) (Some (Under Aenc))
    (cond (bytes_eq w (codes "sign")) (Some (Under Sign))
    (cond (reserved w) None (Some Name))))))

-- which process begins so, if one does
abbrev pub first : List ℕ → Span → Option ProcessKind
first text l =
    cond (is_mark Open l.token) (Some Both)
    (cond (is_mark Bang l.token) (Some Again)
    (cond (is_word l.token) (process_word (bytes_of text l)) None))
