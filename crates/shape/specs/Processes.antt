-- The shape of process rows: each row's own conditions.
use Rattle.std.specs.Prelude.{ℕ, zero, suc, ◌+◌, Bool, true, false, cond, ◌&&◌, List, length, ◌==◌, nat_le, nat_lt}
use Rattle.rows.specs.declared.types.TypeKind.{TypeKind}
use Rattle.rows.specs.declared.types.TypeKind.TheVariants.{Level, Chan, Sym, Dec, Enc, Sig, Ver}
use Rattle.rows.specs.declared.types.TypeRow.{TypeRow}
use Rattle.rows.specs.declared.process.ProcessKind.{ProcessKind}
use Rattle.rows.specs.declared.process.ProcessKind.TheVariants.{Stop, Out, In, New, Both, Again, If, Sopen, Aopen, Verify}
use Rattle.rows.specs.declared.process.ProcessRow.{ProcessRow}
use Rattle.rows.specs.Types.{type_at}
use Rattle.rows.specs.Processes.{row, end_of, slots_of, adds}
use Rattle.rows.specs.Tables.{Tables}
use Rattle.shape.specs.declared.fault.ShapeFault.{ShapeFault}
use Rattle.shape.specs.declared.fault.ShapeFault.TheVariants.{Processes}
use Rattle.shape.specs.Numbers.{numbers_fit, one_to_four}
use Rattle.shape.specs.First.{Passes, first_bad}

-- names may have every kind of type but enc and ver
abbrev pub nameable : TypeKind → Bool
nameable Level = true
nameable Chan = true
nameable Sym = true
nameable Dec = true
nameable Enc = false
nameable Sig = true
nameable Ver = false

-- the type field: new has a row of the table that a name may have, the others zero
abbrev pub ty_ok : List TypeRow → ProcessRow → ProcessKind → Bool
ty_ok ts p Stop = p.ty == 0
ty_ok ts p Out = p.ty == 0
ty_ok ts p In = p.ty == 0
ty_ok ts p New = nat_lt p.ty (length ts) && nameable (type_at ts p.ty).kind
ty_ok ts p Both = p.ty == 0
ty_ok ts p Again = p.ty == 0
ty_ok ts p If = p.ty == 0
ty_ok ts p Sopen = p.ty == 0
ty_ok ts p Aopen = p.ty == 0
ty_ok ts p Verify = p.ty == 0

-- the count field: 1 to 4 at out, in and the openings, else zero
abbrev pub process_count_ok : ℕ → ProcessKind → Bool
process_count_ok n Stop = n == 0
process_count_ok n Out = one_to_four n
process_count_ok n In = one_to_four n
process_count_ok n New = n == 0
process_count_ok n Both = n == 0
process_count_ok n Again = n == 0
process_count_ok n If = n == 0
process_count_ok n Sopen = one_to_four n
process_count_ok n Aopen = one_to_four n
process_count_ok n Verify = one_to_four n

-- how many operands a row has, of count n
abbrev pub operand_count : ℕ → ProcessKind → ℕ
operand_count n Stop = 0
operand_count n Out = n + 1
operand_count n In = 1
operand_count n New = 0
operand_count n Both = 0
operand_count n Again = 0
operand_count n If = 2
operand_count n Sopen = 2
operand_count n Aopen = 2
operand_count n Verify = 2

-- operands are rows of the run
abbrev pub operands_ok : ProcessRow → Bool
operands_ok p = numbers_fit p.terms (operand_count p.count p.kind) p.operands

-- the run begins where the run before it ended
abbrev pub run_start : List ProcessRow → ℕ → ℕ
run_start ps zero = 0
run_start ps (suc i) = (row ps i).first + (row ps i).terms

-- a row without operands has an empty run, and the last run ends where the table does
abbrev pub run_ok : Tables → ℕ → Bool
run_ok T i =
    let p = row T.processes i in
    (p.first == run_start T.processes i)
    && (cond (operand_count p.count p.kind == 0) (p.terms == 0) true
    && cond (i + 1 == length T.processes) (p.first + p.terms == length T.terms) true)

-- row j can be a child of row i: it is there, and has the slots of i and those that i adds
abbrev pub child_ok : List ProcessRow → ℕ → ℕ → Bool
child_ok ps i j = nat_lt j (length ps) && slots_of ps j == slots_of ps i + adds (row ps i)

-- the next row is the only child, and ends where i ends
abbrev pub one_ok : List ProcessRow → ℕ → Bool
one_ok ps i = child_ok ps i (i + 1) && end_of ps (i + 1) == end_of ps i

-- the second child stands at the first one's end, and ends where i ends
abbrev pub two_ok : List ProcessRow → ℕ → Bool
two_ok ps i = child_ok ps i (i + 1) && (child_ok ps i (end_of ps (i + 1)) && end_of ps (end_of ps (i + 1)) == end_of ps i)

abbrev pub family_ok : List ProcessRow → ℕ → ProcessKind → Bool
family_ok ps i Stop = end_of ps i == i + 1
family_ok ps i Out = one_ok ps i
family_ok ps i In = one_ok ps i
family_ok ps i New = one_ok ps i
family_ok ps i Both = two_ok ps i
family_ok ps i Again = one_ok ps i
family_ok ps i If = two_ok ps i
family_ok ps i Sopen = one_ok ps i
family_ok ps i Aopen = one_ok ps i
family_ok ps i Verify = one_ok ps i

-- row i is in shape
abbrev pub process_ok : Tables → ℕ → Bool
process_ok T i =
    let p = row T.processes i in
    ty_ok T.types p p.kind
    && (process_count_ok p.count p.kind
    && (operands_ok p
    && (run_ok T i
    && (nat_le p.slots 32
    && (family_ok T.processes i p.kind
    && cond (i == 0) (p.«end» == length T.processes) true)))))

abbrev pub processes_shape : Tables → Passes ShapeFault
processes_shape T = first_bad (process_ok T) Processes 0 (length T.processes)
