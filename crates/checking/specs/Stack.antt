-- Where the rows end that the walk reads now.
use Rattle.std.specs.Prelude.{ℕ, zero, suc, List, length, slice_index}
use Rattle.rows.specs.declared.process.ProcessRow.{ProcessRow}
use Rattle.rows.specs.Processes.{end_of}

-- with none of the aopens on the way down at the table's end, else at the end of the last of the first k
abbrev pub limit_at : List ProcessRow → List ℕ → ℕ → ℕ
limit_at ps aopens zero = length ps
limit_at ps aopens (suc k) = end_of ps (slice_index aopens k)

-- at the end of the last of them
abbrev pub limit_of : List ProcessRow → List ℕ → ℕ
limit_of ps aopens = limit_at ps aopens (length aopens)
