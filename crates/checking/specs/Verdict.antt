-- The verdict on a listing: its shape first, and then the first refusal of the typing rules in reading order.
use Rattle.std.specs.Prelude.{ℕ, zero, suc, ◌+◌, List, length, replicate, Ok, Err, Result}
use Rattle.levels.specs.Meaning.{Meaning}
use Rattle.rows.specs.declared.process.ProcessRow.{ProcessRow}
use Rattle.rows.specs.Processes.{row, end_of, slots_of}
use Rattle.rows.specs.Tables.{Tables}
use Rattle.shape.specs.declared.fault.ShapeFault.{ShapeFault}
use Rattle.shape.specs.First.{Passes, first_of}
use Rattle.shape.specs.Whole.{shape}
use Rattle.typing.specs.declared.misuse.Misuse.{Misuse}
use Rattle.typing.specs.declared.judging.Judgement.{Judgement}
use Rattle.typing.specs.declared.judging.Judgement.TheVariants.{Done, Binds, Splits, Opens, OpensOnce}
use Rattle.typing.specs.Judging.{zeros, reads, extended}
use Rattle.checking.specs.declared.refusal.Refusal.{Refusal}
use Rattle.checking.specs.declared.refusal.Refusal.TheVariants.{Shape, Typing}

-- what is checked after the row i, by `go`: the first child, and then the second or the second reading
abbrev pub follow : List ProcessRow → (List ℕ → ℕ → Passes Refusal) → List ℕ → ℕ → Result Judgement Misuse → Passes Refusal
follow ps go Γ i (Ok Done) = Ok tt
follow ps go Γ i (Ok (Binds new)) = go (extended (row ps i) Γ new) (i + 1)
follow ps go Γ i (Ok Splits) = first_of (go Γ (i + 1)) (go Γ (end_of ps (i + 1)))
follow ps go Γ i (Ok (Opens new)) = first_of (go (extended (row ps i) Γ new) (i + 1)) (go (extended (row ps i) Γ zeros) (i + 1))
follow ps go Γ i (Ok OpensOnce) = go (extended (row ps i) Γ zeros) (i + 1)
follow ps go Γ i (Err e) = Err (Typing e i)

-- the row i and what follows it, at most `depth` rows down
unfoldable pub check_from : Meaning → Tables → ℕ → List ℕ → ℕ → Passes Refusal
check_from m T zero Γ i = Ok tt
check_from m T (suc depth) Γ i = follow T.processes (check_from m T depth) Γ i (reads m T Γ i)

-- the free names are the slots of row 0; each has type 0
abbrev pub free_names : Tables → List ℕ
free_names T = replicate (slots_of T.processes 0) 0

-- no way down is longer than there are rows
abbrev pub rules : Meaning → Tables → Passes Refusal
rules m T = check_from m T (length T.processes) (free_names T) 0

abbrev pub then_rules : Passes ShapeFault → Passes Refusal → Passes Refusal
then_rules (Ok u) v = v
then_rules (Err f) v = Err (Shape f)

abbrev pub verdict : Meaning → Tables → Passes Refusal
verdict m T = then_rules (shape m T) (rules m T)
