-- Processes, as rows in the order of the text.
use Rattle.std.specs.Prelude.{ℕ, List, [], take, drop, slice_index, slice_index_or}
use Rattle.rows.specs.declared.process.ProcessKind.{ProcessKind}
use Rattle.rows.specs.declared.process.ProcessKind.TheVariants.{Stop, Out, In, New, Both, Again, If, Sopen, Aopen, Verify}
use Rattle.rows.specs.declared.process.ProcessRow.{ProcessRow}
use Rattle.rows.specs.declared.term.TermRow.{TermRow}

abbrev pub process_kind_number : ProcessKind → ℕ
process_kind_number Stop = 0
process_kind_number Out = 1
process_kind_number In = 2
process_kind_number New = 3
process_kind_number Both = 4
process_kind_number Again = 5
process_kind_number If = 6
process_kind_number Sopen = 7
process_kind_number Aopen = 8
process_kind_number Verify = 9

-- what stands past the end of a table of process rows
abbrev pub no_process : ProcessRow
no_process = record { kind = Stop; slots = 0; «end» = 0; ty = 0; count = 0; first = 0; terms = 0; operands = [] }

abbrev pub row : List ProcessRow → ℕ → ProcessRow
row ps i = slice_index_or ps i no_process

-- where the process of row i ends: the row after its last one
abbrev pub end_of : List ProcessRow → ℕ → ℕ
end_of ps i = (row ps i).«end»

-- the slots in scope at row i
abbrev pub slots_of : List ProcessRow → ℕ → ℕ
slots_of ps i = (row ps i).slots

-- how many slots a row adds: new adds one, in and the openings their count
abbrev pub adds_by : ProcessKind → ℕ → ℕ
adds_by Stop n = 0
adds_by Out n = 0
adds_by In n = n
adds_by New n = 1
adds_by Both n = 0
adds_by Again n = 0
adds_by If n = 0
adds_by Sopen n = n
adds_by Aopen n = n
adds_by Verify n = n

abbrev pub adds : ProcessRow → ℕ
adds p = adds_by p.kind p.count

-- the run of a row's term rows
abbrev pub run_of : List TermRow → ProcessRow → List TermRow
run_of us p = take p.terms (drop p.first us)

-- the operands: at out the channel and then the parts, at in the channel, at if the two sides, at an opening the message and the key
abbrev pub operand : ProcessRow → ℕ → ℕ
operand p k = slice_index p.operands k
