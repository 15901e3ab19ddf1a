-- A whole listing.
use Rattle.std.specs.Prelude.{◌≡◌, ℕ, ◌-◌, cond, List, [], length, replicate, Ok, Err, Result, nat_lt}
use Rattle.rows.specs.declared.types.TypeRow.{TypeRow}
use Rattle.rows.specs.declared.process.ProcessKind.TheVariants.{Stop}
use Rattle.rows.specs.declared.process.ProcessRow.{ProcessRow}
use Rattle.rows.specs.declared.term.TermRow.{TermRow}
use Rattle.rows.specs.Types.{plain}
use Rattle.scanning.specs.declared.fault.ListingFault.{ListingFault}
use Rattle.scanning.specs.declared.fault.ListingFault.TheVariants.{TooLong}
use Rattle.reader.specs.declared.whole.Counts.{Counts}
use Rattle.reader.specs.Cursor.{Cursor, Reads, ◌>>=◌}
use Rattle.reader.specs.Tokens.{ending}
use Rattle.reader.specs.Terms.{slot_row}
use Rattle.reader.specs.Types.{share, declarations}
use Rattle.reader.specs.Names.{header}
use Rattle.reader.specs.Rows.{operands}
use Rattle.reader.specs.Processes.{process}

-- the rows of empty tables
abbrev pub zero_type : TypeRow
zero_type = plain 0

abbrev pub zero_process : ProcessRow
zero_process = record { kind = Stop; slots = 0; «end» = 0; ty = 0; count = 0; first = 0; terms = 0; operands = operands 0 0 0 0 0 }

abbrev pub zero_term : TermRow
zero_term = slot_row 0

-- the declared types, where there is room for 2,184 words in all
abbrev pub all_declared : Reads (Unit {0})
all_declared s = declarations (2184 - length s.words) s

-- the open level in row 0, and the declared types
unfoldable pub types_read : ℕ → Reads (Unit {0})
types_read level = do
  r ← share (plain level) 0
  all_declared

abbrev pub counts : Reads Counts
counts s = Ok (record { types = s.typed; processes = s.filled; terms = s.used }, s)

-- the free names, one process, and the end of the text
unfoldable pub body : Reads Counts
body = do
  sc ← header
  p ← process 512 32 sc
  e ← ending
  counts

unfoldable pub whole : ℕ → Reads Counts
whole level = do
  u ← types_read level
  body

-- the tables of a listing, and how many rows of each are in use
pub record Tables : Type 0 where
  pub counts : Counts
  pub types : List TypeRow
  pub processes : List ProcessRow
  pub terms : List TermRow
  pub places : List ℕ

-- how many rows each lent table has
pub record Sizes : Type 0 where
  pub types : ℕ
  pub processes : ℕ
  pub terms : ℕ
  pub places : ℕ

abbrev pub sizes_of : List TypeRow → List ProcessRow → List TermRow → List ℕ → Sizes
sizes_of types processes terms places = record { types = length types; processes = length processes; terms = length terms; places = length places }

-- nothing of the text is read, and no row is in use
abbrev pub started : List ℕ → List TypeRow → List ProcessRow → List TermRow → List ℕ → Cursor
started text types processes terms places = record { text = text; words = []; at = 0; types = types; typed = 0; rows = processes; places = places; filled = 0; terms = terms; used = 0; run = 0 }

abbrev pub empty : List ℕ → Sizes → Cursor
empty text n = started text (replicate n.types zero_type) (replicate n.processes zero_process) (replicate n.terms zero_term) (replicate n.places 0)

abbrev pub tables : Result (Counts × Cursor) ListingFault → Result Tables ListingFault
tables m = elim m [ Err e ↦ Err e | Ok p ↦ Ok (record { counts = p.0; types = p.1.types; processes = p.1.rows; terms = p.1.terms; places = p.1.places }) ]

-- a text as a listing, where the open level has the number `level` and the tables the sizes n
unfoldable pub listing : List ℕ → ℕ → Sizes → Result Tables ListingFault
listing text level n = cond (nat_lt 32768 (length text)) (Err TooLong) (tables (whole level (empty text n)))

-- that a function gives what a reading says, and leaves its tables
abbrev pub Told : Result Tables ListingFault → Result Counts ListingFault → List TypeRow → List ProcessRow → List TermRow → List ℕ → Type 0
Told m (Ok n) types processes terms places = m ≡ Ok (record { counts = n; types = types; processes = processes; terms = terms; places = places })
Told m (Err e) types processes terms places = m ≡ Err e

-- that a text is read as it says: the tables and counts, or the first fault and empty tables
abbrev pub ReadAs : List ℕ → ℕ → Sizes → Result Counts ListingFault → List TypeRow → List ProcessRow → List TermRow → List ℕ → Type 0
ReadAs text level n (Ok k) types processes terms places = listing text level n ≡ Ok (record { counts = k; types = types; processes = processes; terms = terms; places = places })
ReadAs text level n (Err e) types processes terms places =
    (listing text level n ≡ Err e)
    × (types ≡ replicate n.types zero_type)
    × (processes ≡ replicate n.processes zero_process)
    × (terms ≡ replicate n.terms zero_term)
    × (places ≡ replicate n.places 0)
