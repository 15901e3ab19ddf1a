-- Single tokens. Each is judged before the next is read.
use Rattle.std.specs.Prelude.{ℕ, Bool, true, false, cond, List, drop, Some, None, Ok, Err, Option, Result, ◌==◌}
use Rattle.std.specs.Str.{bytes_eq}
use Rattle.words.specs.declared.token.Mark.{Mark}
use Rattle.words.specs.declared.token.Mark.TheVariants.{Comma}
use Rattle.words.specs.declared.token.Token.{Token}
use Rattle.words.specs.declared.token.Token.TheVariants.{End, Word, Number, Single}
use Rattle.words.specs.declared.token.Span.{Span}
use Rattle.words.specs.declared.token.WordFault.{WordFault}
use Rattle.words.specs.Scan.{scan, outside}
use Rattle.rows.specs.declared.process.ProcessKind.{ProcessKind}
use Rattle.scanning.specs.declared.fault.ListingFault.TheVariants.{Word as FromWord, Grammar}
use Rattle.scanning.specs.declared.vocabulary.Head.{Head}
use Rattle.scanning.specs.declared.vocabulary.Head.TheVariants.{Name, KeyOf, Under}
use Rattle.scanning.specs.Spelling.{is_mark, is_word, is_end, bytes_of, spells}
use Rattle.scanning.specs.Vocabulary.{head, first}
use Rattle.reader.specs.Cursor.{Reads, ◌>>=◌, done, fail, moved}

-- the token at a place
abbrev pub next : List ℕ → ℕ → Result Span WordFault
next text at = scan outside at (drop at text)

abbrev pub token : Reads Span
token s = elim (next s.text s.at) [ Err e ↦ Err (FromWord e) | Ok l ↦ Ok (l, moved s l.«end») ]

-- the bytes of a token
abbrev pub spelling : Span → Reads (List ℕ)
spelling l s = Ok (bytes_of s.text l, s)

-- the next token, which is read only if it is the word w
unfoldable pub ahead : List ℕ → Reads (Option Span)
ahead w s = elim (next s.text s.at) [ Err e ↦ Err (FromWord e) | Ok l ↦ cond (spells s.text l w) (Ok (Some l, moved s l.«end»)) (Ok (None, s)) ]

abbrev pub is_number : ℕ → Token → Bool
is_number v End = false
is_number v Word = false
is_number v (Number k) = k == v
is_number v (Single k) = false

-- whether a token is the token t
abbrev pub is_token : Token → Token → Bool
is_token End k = is_end k
is_token Word k = is_word k
is_token (Number v) k = is_number v k
is_token (Single m) k = is_mark m k

abbrev pub exactly : Token → Reads Span
exactly t = do
  l ← token
  cond (is_token t l.token) (done l) (fail (Grammar l.start))

abbrev pub word : Reads Span
word = do
  l ← token
  cond (is_word l.token) (done l) (fail (Grammar l.start))

-- the mark m: its place
abbrev pub mark : Mark → Reads ℕ
mark m = do
  l ← token
  cond (is_mark m l.token) (done l.start) (fail (Grammar l.start))

-- the grammar's word w: its place
abbrev pub keyword : List ℕ → Reads ℕ
keyword w = do
  l ← token
  v ← spelling l
  cond (bytes_eq v w) (done l.start) (fail (Grammar l.start))

abbrev pub numeral : Token → ℕ → Reads ℕ
numeral End place = fail (Grammar place)
numeral Word place = fail (Grammar place)
numeral (Number v) place = done v
numeral (Single m) place = fail (Grammar place)

abbrev pub number : Reads ℕ
number = do
  l ← token
  numeral l.token l.start

-- a comma, after which more comes, or the mark that ends a list
unfoldable pub comma : Mark → Reads Bool
comma stop = do
  l ← token
  cond (is_mark stop l.token) (done false) (cond (is_mark Comma l.token) (done true) (fail (Grammar l.start)))

-- what the first word of a term says, unless no term begins with it
abbrev pub said : Option Head → Span → Reads (Head × Span)
said None l = fail (Grammar l.start)
said (Some h) l = done (h, l)

-- the first word of a term, and what it says
unfoldable pub heading : Reads (Head × Span)
heading = do
  l ← word
  w ← spelling l
  said (head w) l

-- which process begins with the token, if one does
abbrev pub begun : Option ProcessKind → Span → Reads (ProcessKind × Span)
begun None l = fail (Grammar l.start)
begun (Some k) l = done (k, l)

-- the first token of a process, and which process begins so
unfoldable pub beginning : Reads (ProcessKind × Span)
beginning = do
  l ← token
  k ← (λ s. Ok (first s.text l, s))
  begun k l

abbrev pub is_name : Head → Bool
is_name Name = true
is_name (KeyOf k) = false
is_name (Under k) = false

-- a word that may be no name is refused
abbrev pub named : Span → Reads (Unit {0})
named l = do
  w ← spelling l
  p ← said (head w) l
  cond (is_name p.0) (done tt) (fail (Grammar l.start))

-- a word that may be a name
unfoldable pub binder : Reads Span
binder = do
  l ← word
  n ← named l
  done l

-- the end of the text
abbrev pub ending : Reads (Unit {0})
ending = do
  l ← token
  cond (is_end l.token) (done tt) (fail (Grammar l.start))
