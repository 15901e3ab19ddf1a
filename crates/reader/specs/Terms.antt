-- Terms. They take rows in the order in which they end.
use Rattle.std.specs.Prelude.{ℕ, zero, suc, ◌+◌, ◌-◌, cond, ◌&&◌, List, [], ◌∷◌, length, is_some, Some, None, Ok, Err, Option, ◌==◌, nat_lt, slice_set}
use Rattle.words.specs.declared.token.Mark.{Mark}
use Rattle.words.specs.declared.token.Mark.TheVariants.{Open, Close, Semicolon}
use Rattle.words.specs.declared.token.Span.{Span}
use Rattle.rows.specs.declared.term.TermKind.{TermKind}
use Rattle.rows.specs.declared.term.TermKind.TheVariants.{Slot}
use Rattle.rows.specs.declared.term.TermRow.{TermRow}
use Rattle.scanning.specs.declared.fault.ListingFault.TheVariants.{Name as Unknown, Limit}
use Rattle.scanning.specs.declared.vocabulary.Head.{Head}
use Rattle.scanning.specs.declared.vocabulary.Head.TheVariants.{Name, KeyOf, Under}
use Rattle.scanning.specs.Names.{slot_of}
use Rattle.reader.specs.declared.parts.Parts.{Parts}
use Rattle.reader.specs.Cursor.{Reads, ◌>>=◌, done, fail, with_terms}
use Rattle.reader.specs.Tokens.{spelling, mark, is_name, heading}
use Rattle.reader.specs.Lists.{series, none, added}

-- an opening bracket, where `allow` more may be opened: how many may be opened inside it
abbrev pub bracket : ℕ → Reads ℕ
bracket allow = do
  p ← mark Open
  cond (allow == 0) (fail (Limit p)) (done (allow - 1))

-- a term in the next free row: its number in the present run
unfoldable pub put : TermRow → ℕ → Reads ℕ
put row place s =
    cond (nat_lt s.used 2048 && nat_lt s.used (length s.terms)) (Ok (s.used - s.run, with_terms s (slice_set s.terms s.used row) (s.used + 1))) (Err (Limit place))

abbrev pub slot_row : ℕ → TermRow
slot_row i = record { kind = Slot; slot = i; count = 0; parts = 0 ∷ 0 ∷ 0 ∷ 0 ∷ []; key = 0 }

abbrev pub composite : TermKind → Parts → ℕ → TermRow
composite kind ps key = record { kind = kind; slot = 0; count = ps.count; parts = ps.at; key = key }

-- the slot of the newest name of a spelling
abbrev pub slot_named : List Span → List ℕ → Reads (Option ℕ)
slot_named names w s = Ok (slot_of s.text names w, s)

-- a name that is in scope
abbrev pub named : Option ℕ → ℕ → Reads ℕ
named None place = fail (Unknown place)
named (Some i) place = put (slot_row i) place

abbrev pub name : List Span → Span → Reads ℕ
name names l = do
  w ← spelling l
  o ← slot_named names w
  named o l.start

-- a fifth term is refused at its first word, unless that is at fault itself
abbrev pub refused : Head → List Span → Span → Reads Parts
refused h names l =
    cond (is_name h) (do
      w ← spelling l
      o ← slot_named names w
      cond (is_some o) (fail (Limit l.start)) (fail (Unknown l.start))) (fail (Limit l.start))

unfoldable pub fifth_term : List Span → Reads Parts
fifth_term names = do
  p ← heading
  refused p.0 names p.1

-- a list of terms up to the mark `stop`, each read by `item`
abbrev pub terms_by : List Span → Mark → Reads ℕ → ℕ → Parts → Reads Parts
terms_by names stop item room ps = series added (λ qs. item) (λ qs. fifth_term names) stop room ps

-- a term whose first word is `l`, where `allow` more brackets may be opened and `inner` reads a term inside one
abbrev pub compound : Head → ℕ → List Span → Reads ℕ → Span → Reads ℕ
compound Name allow names inner l = name names l
compound (KeyOf kind) allow names inner l = do
  left ← bracket allow
  key ← inner
  p ← mark Close
  put (composite kind none key) l.start
compound (Under kind) allow names inner l = do
  left ← bracket allow
  ps ← terms_by names Semicolon inner 4 none
  key ← inner
  p ← mark Close
  put (composite kind ps key) l.start

abbrev pub term_by : ℕ → List Span → Reads ℕ → Reads ℕ
term_by allow names inner = do
  p ← heading
  compound p.0 allow names inner p.1

-- a term, where `allow` more brackets may be opened
unfoldable pub term : ℕ → List Span → Reads ℕ
term zero names = term_by zero names (fail (Limit 0))
term (suc d) names = term_by (suc d) names (term d names)

-- one to four terms, up to the mark `stop`
abbrev pub list : ℕ → List Span → Mark → Reads Parts
list allow names stop = terms_by names stop (term allow names) 4 none
