-- Types. Equal types share a row.
use Rattle.std.specs.Prelude.{ℕ, zero, suc, ◌+◌, cond, ◌&&◌, List, length, is_some, Some, None, Ok, Err, codes, Option, nat_lt, slice_set}
use Rattle.std.specs.Str.{bytes_eq}
use Rattle.words.specs.declared.token.Mark.TheVariants.{Open, Close, Semicolon, Equals}
use Rattle.words.specs.declared.token.Span.{Span}
use Rattle.rows.specs.declared.types.TypeKind.{TypeKind}
use Rattle.rows.specs.declared.types.TypeKind.TheVariants.{Level}
use Rattle.rows.specs.declared.types.TypeRow.{TypeRow}
use Rattle.rows.specs.Types.{same_kind, equal_row}
use Rattle.scanning.specs.declared.fault.ListingFault.TheVariants.{Grammar, Name as Unknown, Limit}
use Rattle.scanning.specs.declared.type_words.TypeWord.{TypeWord}
use Rattle.scanning.specs.Vocabulary.{head, type_kind}
use Rattle.scanning.specs.Names.{row_of}
use Rattle.reader.specs.declared.parts.Parts.{Parts}
use Rattle.reader.specs.Cursor.{Reads, ◌>>=◌, done, fail, doing, with_word, with_types}
use Rattle.reader.specs.Tokens.{spelling, said, is_name, word, mark, number, binder, ahead}
use Rattle.reader.specs.Lists.{series, none, added}

-- the row of the declared type of a spelling
abbrev pub row_named : List ℕ → Reads (Option ℕ)
row_named w s = Ok (row_of s.text s.words w, s)

abbrev pub resolved : Option ℕ → Span → Reads TypeWord
resolved None l = fail (Unknown l.start)
resolved (Some r) l = done (record { word = l; row = r })

-- `open`, which is row 0, or a word declared before
unfoldable pub type_named : Reads TypeWord
type_named = do
  l ← word
  w ← spelling l
  cond (bytes_eq w (codes "open")) (done (record { word = l; row = 0 })) (do
    p ← said (head w) l
    o ← row_named w
    cond (is_name p.0) (resolved o l) (fail (Grammar l.start)))

unfoldable pub payload_type : Reads ℕ
payload_type = do
  t ← type_named
  done t.row

-- a fifth payload type
unfoldable pub fifth_type : Reads Parts
fifth_type = do
  t ← type_named
  fail (Limit t.word.start)

-- `s, open)`
unfoldable pub payload : Reads Parts
payload = series added (λ ps. payload_type) (λ ps. fifth_type) Close 4 none

abbrev pub known : Option TypeKind → ℕ → Reads TypeKind
known None place = fail (Grammar place)
known (Some k) place = done k

unfoldable pub kind : Reads TypeKind
kind = do
  l ← word
  w ← spelling l
  known (type_kind w) l.start

-- what follows the level of a type: nothing at a plain level, else a payload in brackets
unfoldable pub parts_of : TypeKind → Reads Parts
parts_of k =
    cond (same_kind k Level) (done none) (do
      p ← mark Open
      payload)

abbrev pub type_row : TypeKind → ℕ → Parts → TypeRow
type_row k level ps = record { kind = k; level = level; count = ps.count; payload = ps.at }

-- `level 2` or `chan 2 (s, open)`
unfoldable pub described : Reads TypeRow
described = do
  k ← kind
  level ← number
  ps ← parts_of k
  done (type_row k level ps)

-- a type in the next free row
unfoldable pub add_type : TypeRow → ℕ → Reads ℕ
add_type t place s =
    cond (nat_lt s.typed 64 && nat_lt s.typed (length s.types)) (Ok (s.typed, with_types s (slice_set s.types s.typed t) (s.typed + 1))) (Err (Limit place))

abbrev pub shared : Option ℕ → TypeRow → ℕ → Reads ℕ
shared None t place = add_type t place
shared (Some i) t place = done i

-- the row of a type, which is a new one if no row is equal to it
unfoldable pub share : TypeRow → ℕ → Reads ℕ
share t place s = shared (equal_row s.types t s.typed) t place s

-- `q =`: a word that names no type yet
unfoldable pub new_type : Reads Span
new_type = do
  l ← binder
  w ← spelling l
  o ← row_named w
  cond (is_some o) (fail (Grammar l.start)) (do
    p ← mark Equals
    done l)

-- what follows the word `type`, which stands at `place`
unfoldable pub declaration : ℕ → Reads TypeWord
declaration place = do
  l ← new_type
  t ← described
  r ← share t place
  p ← mark Semicolon
  done (record { word = l; row = r })

abbrev pub declared_by : Option Span → (Span → Reads (Unit {0})) → Reads (Unit {0})
declared_by None rest = done tt
declared_by (Some l) rest = rest l

abbrev pub declarations_step : (Span → Reads (Unit {0})) → Reads (Unit {0})
declarations_step rest = do
  o ← ahead (codes "type")
  declared_by o rest

abbrev pub one_declaration : Reads (Unit {0}) → Span → Reads (Unit {0})
one_declaration rest l = do
  t ← declaration l.start
  u ← doing (with_word t)
  rest

-- the declared types, where there is room for that many more words; no text of 32,768 bytes has more than 2,184
unfoldable pub declarations : ℕ → Reads (Unit {0})
declarations zero = declarations_step (λ l. fail (Limit l.start))
declarations (suc room) = declarations_step (one_declaration (declarations room))
