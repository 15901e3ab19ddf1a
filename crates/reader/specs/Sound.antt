-- What holds of every listing that is read.
use Rattle.std.specs.Prelude.{◌≡◌, ℕ, ◌+◌, ◌<◌, ◌≤◌, ◌≢◌, List, length, take, Err, slice_index}
use Rattle.levels.specs.Meaning.{Meaning}
use Rattle.rows.specs.declared.types.TypeRow.{TypeRow}
use Rattle.rows.specs.declared.process.ProcessRow.{ProcessRow}
use Rattle.rows.specs.declared.term.TermRow.{TermRow}
use Rattle.rows.specs.Tables.{Tables}
use Rattle.shape.specs.declared.fault.ShapeFault.{ShapeFault}
use Rattle.shape.specs.Fault.{shape_number}
use Rattle.shape.specs.Whole.{shape}
use Rattle.reader.specs.declared.whole.Counts.{Counts}
use Rattle.reader.specs.Whole.{Sizes}

-- the counts are within the lent tables and the limits, there is a type row and a process row, and the places noted lie in the text and rise with the row
pub record Sound (text : List ℕ) (n : Sizes) (k : Counts) (places : List ℕ) : Type 0 where
  pub types_some : 1 ≤ k.types
  pub types_limit : k.types ≤ 64
  pub types_in : k.types ≤ n.types
  pub processes_some : 1 ≤ k.processes
  pub processes_limit : k.processes ≤ 512
  pub processes_in : k.processes ≤ n.processes
  pub places_in : k.processes ≤ n.places
  pub terms_limit : k.terms ≤ 2048
  pub terms_in : k.terms ≤ n.terms
  pub in_text : (i : ℕ) → i < k.processes → slice_index places i < length text
  pub rising : (i : ℕ) → i + 1 < k.processes → slice_index places i < slice_index places (i + 1)

-- the rows in use
abbrev pub rows_in_use : Counts → List TypeRow → List ProcessRow → List TermRow → Tables
rows_in_use k types processes terms = record { types = take k.types types; processes = take k.processes processes; terms = take k.terms terms }

-- under no scheme are tables out of shape by the number of their rows, which is 20, or by a term row, which is 23
abbrev pub Never20Or23 : Tables → Type 0
Never20Or23 T = (m : Meaning) (e : ShapeFault) → shape m T ≡ Err e → (shape_number e ≢ 20) × (shape_number e ≢ 23)
