-- The tokens of a text.
use Rattle.std.specs.Prelude.{ℕ, ◌+◌, ◌-◌, ◌*◌, ◌≤◌, Bool, true, false, cond, List, [], ◌∷◌, Some, None, Ok, Err, Option, Result, nat_le, nat_lt}
use Rattle.words.specs.declared.token.Mark.{Mark}
use Rattle.words.specs.declared.token.Mark.TheVariants.{Open, Close, Semicolon, Comma, Dot, Colon, Bar, Bang, Equals}
use Rattle.words.specs.declared.bytes.Class.{Class}
use Rattle.words.specs.declared.bytes.Class.TheVariants.{Separator, Letter, Digit, Single, Other}
use Rattle.words.specs.declared.token.Token.{Token}
use Rattle.words.specs.declared.token.Token.TheVariants.{End, Word, Number, Single as One}
use Rattle.words.specs.declared.token.Span.{Span}
use Rattle.words.specs.declared.word_reader.WordReader.{WordReader}
use Rattle.words.specs.declared.word_reader.WordReader.TheVariants.{Outside, InWord, InNumber}
use Rattle.words.specs.declared.token.WordFault.{WordFault}
use Rattle.words.specs.declared.token.WordFault.TheVariants.{Byte, Long}
use Rattle.words.specs.Bytes.{class}

-- the numbers of the faults, and where they begin
abbrev pub word_number : WordFault → ℕ
word_number (Byte p) = 11
word_number (Long p) = 12

abbrev pub word_place : WordFault → ℕ
word_place (Byte p) = p
word_place (Long p) = p

-- the character of a mark
abbrev pub mark_code : Mark → ℕ
mark_code Open = 40
mark_code Close = 41
mark_code Semicolon = 59
mark_code Comma = 44
mark_code Dot = 46
mark_code Colon = 58
mark_code Bar = 124
mark_code Bang = 33
mark_code Equals = 61

abbrev pub span : Token → ℕ → ℕ → Span
span t from to = record { token = t; start = from; «end» = to }

abbrev pub outside : WordReader
outside = Outside

-- what a byte does: nothing yet, a token that is whole, or a fault; and how the reader then stands
abbrev pub Step : Type 0
Step = Result (Option Span) WordFault × WordReader

-- one more byte of a word that began at s, if there is room
abbrev pub longer : Bool → WordReader → ℕ → Step
longer true w s = (Ok None, w)
longer false w s = (Err (Long s), w)

-- the number that the digit b makes of v, if it fits 16 bits
abbrev pub with_digit : ℕ → ℕ → Option ℕ
with_digit v b = cond (nat_le (v * 10 + (b - 48)) 65535) (Some (v * 10 + (b - 48))) None

-- one more digit of a number that began at s, if there is room
abbrev pub larger : Option ℕ → WordReader → ℕ → Step
larger (Some v) w s = (Ok None, InNumber s v)
larger None w s = (Err (Long s), w)

-- the token that ends at a place
abbrev pub ended : WordReader → ℕ → Span
ended Outside at = span End at at
ended (InWord s) at = span Word s at
ended (InNumber s v) at = span (Number v) s at

-- the state and the class of the byte together decide
abbrev pub move : WordReader → Class → ℕ → ℕ → Step
move Outside Separator at b = (Ok None, Outside)
move Outside Letter at b = (Ok None, InWord at)
move Outside Digit at b = (Ok None, InNumber at (b - 48))
move Outside (Single m) at b = (Ok (Some (span (One m) at (at + 1))), Outside)
move Outside Other at b = (Err (Byte at), Outside)
move (InWord s) Separator at b = (Ok (Some (span Word s at)), InWord s)
move (InWord s) Letter at b = longer (nat_lt (at - s) 32) (InWord s) s
move (InWord s) Digit at b = longer (nat_lt (at - s) 32) (InWord s) s
move (InWord s) (Single m) at b = (Ok (Some (span Word s at)), InWord s)
move (InWord s) Other at b = (Ok (Some (span Word s at)), InWord s)
move (InNumber s v) Separator at b = (Ok (Some (span (Number v) s at)), InNumber s v)
move (InNumber s v) Letter at b = (Ok (Some (span (Number v) s at)), InNumber s v)
move (InNumber s v) Digit at b = larger (with_digit v b) (InNumber s v) s
move (InNumber s v) (Single m) at b = (Ok (Some (span (Number v) s at)), InNumber s v)
move (InNumber s v) Other at b = (Ok (Some (span (Number v) s at)), InNumber s v)

abbrev pub step : WordReader → ℕ → ℕ → Step
step w at b = move w (class b) at b

-- a word or a number that is being read began at a place or before
abbrev pub begun_by : ℕ → WordReader → Type 0
begun_by at Outside = Unit {0}
begun_by at (InWord s) = s ≤ at
begun_by at (InNumber s v) = s ≤ at

-- a step, and then what is left
abbrev pub onward : Step → (WordReader → Result Span WordFault) → Result Span WordFault
onward s rest = elim s.0 [ Err e ↦ Err e | Ok o ↦ elim o [ Some x ↦ Ok x | None ↦ rest s.1 ] ]

-- the next token of the text `bs`, whose first byte has the place `at`
abbrev pub scan : WordReader → ℕ → List ℕ → Result Span WordFault
scan w at [] = Ok (ended w at)
scan w at (b ∷ bs) = onward (step w at b) (λ next. scan next (at + 1) bs)
