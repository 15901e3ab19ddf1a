-- A reading: what is read and written so far, and what comes of it.
use Rattle.std.specs.Prelude.{◌≡◌, ℕ, ◌+◌, List, ◌∷◌, Ok, Err, Result}
use Rattle.rows.specs.declared.types.TypeRow.{TypeRow}
use Rattle.rows.specs.declared.process.ProcessRow.{ProcessRow}
use Rattle.rows.specs.declared.term.TermRow.{TermRow}
use Rattle.scanning.specs.declared.fault.ListingFault.{ListingFault}
use Rattle.scanning.specs.declared.type_words.TypeWord.{TypeWord}
use Rattle.scanning.specs.Names.{declared}
use Rattle.reader.specs.declared.tables.Reader.{Reader}

-- the text and how far it is read; the declared types, the newest first; the tables, with how many rows are in use; where the present run of terms begins
pub record Cursor : Type 0 where
  pub text : List ℕ
  pub words : List TypeWord
  pub at : ℕ
  pub types : List TypeRow
  pub typed : ℕ
  pub rows : List ProcessRow
  pub places : List ℕ
  pub filled : ℕ
  pub terms : List TermRow
  pub used : ℕ
  pub run : ℕ

abbrev pub state : Reader → Cursor
state r = record { text = r.text.now; words = declared r.words; at = r.at; types = r.types.now; typed = r.typed; rows = r.rows.now; places = r.places.now; filled = r.filled; terms = r.terms.now; used = r.used; run = r.run }

-- that a reader's tables are the ones that it was lent
abbrev pub Lent : Reader → Reader → Type 0
Lent a b = (a.types.ghost_name ≡ b.types.ghost_name) × (a.rows.ghost_name ≡ b.rows.ghost_name) × (a.places.ghost_name ≡ b.places.ghost_name) × (a.terms.ghost_name ≡ b.terms.ghost_name)

-- that no type was declared either
abbrev pub Same : Reader → Reader → Type 0
Same a b = Lent a b × (a.words ≡ b.words)

-- an answer and the state after it, or the first fault
abbrev pub Reads : Type 0 → Type 0
Reads A = Cursor → Result (A × Cursor) ListingFault

abbrev pub ◌>>=◌ : {A B : Type 0} → Reads A → (A → Reads B) → Reads B
◌>>=◌ m k s = elim (m s) [ Err e ↦ Err e | Ok p ↦ k p.0 p.1 ]

abbrev pub done : {A : Type 0} → A → Reads A
done a s = Ok (a, s)

abbrev pub fail : {A : Type 0} → ListingFault → Reads A
fail e s = Err e

-- a step that cannot fail
abbrev pub doing : (Cursor → Cursor) → Reads (Unit {0})
doing f s = Ok (tt, f s)

-- that a function gives what a reading says, and leaves the state that it says
abbrev pub Gives : {A : Type 0} → Result (A × Cursor) ListingFault → Result A ListingFault → Cursor → Type 0
Gives m (Ok a) s = m ≡ Ok (a, s)
Gives m (Err e) s = m ≡ Err e

-- the same, where the answer is left in a table of names
abbrev pub Leaves : {A : Type 0} → Result (A × Cursor) ListingFault → Result (Unit {0}) ListingFault → A → Cursor → Type 0
Leaves m (Ok u) a s = m ≡ Ok (a, s)
Leaves m (Err e) a s = m ≡ Err e

abbrev pub moved : Cursor → ℕ → Cursor
moved s at = record s { at = at }

-- one more declared type
abbrev pub with_word : TypeWord → Cursor → Cursor
with_word w s = record s { words = w ∷ s.words }

abbrev pub with_types : Cursor → List TypeRow → ℕ → Cursor
with_types s types typed = record s { types = types; typed = typed }

abbrev pub with_terms : Cursor → List TermRow → ℕ → Cursor
with_terms s terms used = record s { terms = terms; used = used }

abbrev pub with_rows : Cursor → List ProcessRow → Cursor
with_rows s rows = record s { rows = rows }

-- one more process row, with which a run of terms begins
abbrev pub one_more_row : Cursor → List ProcessRow → List ℕ → Cursor
one_more_row s rows places = record s { rows = rows; places = places; filled = s.filled + 1; run = s.used }
