-- Process rows: opened where their text begins, filled with what their first line says, and closed where their last child ends.
use Rattle.std.specs.Prelude.{ℕ, ◌+◌, ◌-◌, min, cond, ◌&&◌, List, [], ◌∷◌, length, Ok, Err, nat_lt, slice_index_or, slice_set}
use Rattle.rows.specs.declared.process.ProcessKind.{ProcessKind}
use Rattle.rows.specs.declared.process.ProcessRow.{ProcessRow}
use Rattle.rows.specs.Processes.{no_process}
use Rattle.scanning.specs.declared.fault.ListingFault.TheVariants.{Limit}
use Rattle.reader.specs.Cursor.{Cursor, Reads, with_rows, one_more_row}

abbrev pub operands : ℕ → ℕ → ℕ → ℕ → ℕ → List ℕ
operands a b c d e = a ∷ b ∷ c ∷ d ∷ e ∷ []

abbrev pub opened : ProcessKind → ℕ → ℕ → ℕ → ProcessRow
opened kind slots row first = record { kind = kind; slots = slots; «end» = row + 1; ty = 0; count = 0; first = first; terms = 0; operands = operands 0 0 0 0 0 }

-- a place as it is noted in 16 bits, which are enough for a text of 32,768 bytes
abbrev pub noted : ℕ → ℕ
noted place = min place 65535

-- a new row, where `slots` names are in scope and rows may stand `left` deep
unfoldable pub open_row : ℕ → ProcessKind → ℕ → ℕ → Reads ℕ
open_row left kind slots place s =
    cond (nat_lt 0 left && (nat_lt s.filled 512 && (nat_lt s.filled (length s.rows) && nat_lt s.filled (length s.places))))
    (Ok (s.filled, one_more_row s (slice_set s.rows s.filled (opened kind slots s.filled s.used)) (slice_set s.places s.filled (noted place))))
    (Err (Limit place))

abbrev pub with_contents : ProcessRow → ℕ → ℕ → List ℕ → ℕ → ProcessRow
with_contents p ty count ops used = record { kind = p.kind; slots = p.slots; «end» = p.«end»; ty = ty; count = count; first = p.first; terms = used - p.first; operands = ops }

-- what the row says: its type, its count, and its operands; its run has all terms since it was opened
unfoldable pub fill_row : ℕ → ℕ → ℕ → List ℕ → Cursor → Cursor
fill_row i ty count ops s = with_rows s (slice_set s.rows i (with_contents (slice_index_or s.rows i no_process) ty count ops s.used))

abbrev pub ended : ProcessRow → ℕ → ProcessRow
ended p e = record { kind = p.kind; slots = p.slots; «end» = e; ty = p.ty; count = p.count; first = p.first; terms = p.terms; operands = p.operands }

-- the row ends where the last row so far does
unfoldable pub close_row : ℕ → Cursor → Cursor
close_row i s = with_rows s (slice_set s.rows i (ended (slice_index_or s.rows i no_process) s.filled))

abbrev pub finish : ℕ → Reads ℕ
finish i s = Ok (i, close_row i s)
