-- How many aopen rows lie on the way down to a row: those whose process has the row in it.
use Rattle.std.specs.Prelude.{ℕ, zero, suc, ◌+◌, Bool, true, false, cond, not, ◌&&◌, ◌||◌, List, length, nat_lt}
use Rattle.rows.specs.declared.process.ProcessKind.{ProcessKind}
use Rattle.rows.specs.declared.process.ProcessKind.TheVariants.{Stop, Out, In, New, Both, Again, If, Sopen, Aopen, Verify}
use Rattle.rows.specs.declared.process.ProcessRow.{ProcessRow}
use Rattle.rows.specs.Processes.{row, end_of}
use Rattle.shape.specs.declared.fault.ShapeFault.{ShapeFault}
use Rattle.shape.specs.declared.fault.ShapeFault.TheVariants.{Depth}
use Rattle.shape.specs.First.{Passes, first_bad}

abbrev pub is_aopen : ProcessKind → Bool
is_aopen Stop = false
is_aopen Out = false
is_aopen In = false
is_aopen New = false
is_aopen Both = false
is_aopen Again = false
is_aopen If = false
is_aopen Sopen = false
is_aopen Aopen = true
is_aopen Verify = false

-- the row t is an aopen whose process has the later row i in it
abbrev pub encloses : List ProcessRow → ℕ → ℕ → Bool
encloses ps i t = is_aopen (row ps t).kind && nat_lt i (end_of ps t)

-- how many of the first n rows do so
abbrev pub enclosing_below : List ProcessRow → ℕ → ℕ → ℕ
enclosing_below ps i zero = 0
enclosing_below ps i (suc t) = enclosing_below ps i t + cond (encloses ps i t) 1 0

-- the aopen rows on the way down to the row i, without i
abbrev pub enclosing : List ProcessRow → ℕ → ℕ
enclosing ps i = enclosing_below ps i i

-- the row i is no seventh aopen
abbrev pub shallow : List ProcessRow → ℕ → Bool
shallow ps i = not (is_aopen (row ps i).kind) || nat_lt (enclosing ps i) 6

abbrev pub depth_shape : List ProcessRow → Passes ShapeFault
depth_shape ps = first_bad (shallow ps) Depth 0 (length ps)
