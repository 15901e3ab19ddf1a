-- How tokens are told apart.
use Rattle.std.specs.Prelude.{ℕ, ◌-◌, Bool, true, false, List, take, drop, ◌==◌}
use Rattle.std.specs.Str.{bytes_eq}
use Rattle.words.specs.declared.token.Mark.{Mark}
use Rattle.words.specs.declared.token.Token.{Token}
use Rattle.words.specs.declared.token.Token.TheVariants.{End, Word, Number, Single}
use Rattle.words.specs.declared.token.Span.{Span}
use Rattle.words.specs.Scan.{mark_code}

abbrev pub is_mark : Mark → Token → Bool
is_mark m End = false
is_mark m Word = false
is_mark m (Number v) = false
is_mark m (Single k) = mark_code k == mark_code m

abbrev pub is_word : Token → Bool
is_word End = false
is_word Word = true
is_word (Number v) = false
is_word (Single k) = false

abbrev pub is_end : Token → Bool
is_end End = true
is_end Word = false
is_end (Number v) = false
is_end (Single k) = false

-- the bytes of a text from one place up to another
abbrev pub spelt : ℕ → ℕ → List ℕ → List ℕ
spelt from to text = take (to - from) (drop from text)

-- the bytes of a token
abbrev pub bytes_of : List ℕ → Span → List ℕ
bytes_of text l = spelt l.start l.«end» text

-- whether a token is spelt w
abbrev pub spells : List ℕ → Span → List ℕ → Bool
spells text l w = bytes_eq (bytes_of text l) w
