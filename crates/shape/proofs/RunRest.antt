-- The search of a run for its first term row at fault, and one more run looked at: what the rest still has to be.
use Rattle.std.proofs.Common.{◌≡◌, ℕ, zero, suc, ◌+◌, ◌<◌, Bool, cond, List, length, get_or, drop, Err, ap, ◌∙◌, arith}
use Rattle.std.proofs.lemmas.List.{at_drop_more, at_drop_all}
use Rattle.rows.specs.declared.process.ProcessRow.{ProcessRow}
use Rattle.rows.specs.declared.term.TermRow.{TermRow}
use Rattle.rows.specs.Processes.{no_process, row, run_of}
use Rattle.rows.specs.Terms.{no_term}
use Rattle.shape.specs.declared.fault.ShapeFault.TheVariants.{Terms}
use Rattle.shape.specs.First.{first_of, first_bad}
use Rattle.shape.specs.Terms.{term_ok, run_shape, terms_shape}

-- whether the row k of a run is in shape
abbrev pub row_ok : ℕ → List TermRow → ℕ → Bool
row_ok s us k = term_ok s k (get_or us k no_term) (get_or us k no_term).kind

run_from : (s f : ℕ) (us : List TermRow) (n j : ℕ) → n + j ≡ length us → run_shape s f j (drop j us) ≡ first_bad (row_ok s us) (λ k. Terms (f + k)) j n
run_from s f us zero j e = at_drop_all (run_shape s f j) us j (omega arith)
run_from s f us (suc n) j e =
    at_drop_more (run_shape s f j) us j no_term (omega arith)
    ∙ ap (λ x. cond (row_ok s us j) x (Err (Terms (f + j)))) (run_from s f us n (j + 1) (omega arith))

pub run_is : (s f : ℕ) (us : List TermRow) → run_shape s f 0 us ≡ first_bad (row_ok s us) (λ k. Terms (f + k)) 0 (length us)
run_is s f us = run_from s f us (length us) 0 (omega arith)

pub runs_step : (us : List TermRow) (ps : List ProcessRow) (k : ℕ) → k < length ps → terms_shape us (drop k ps) ≡ first_of (run_shape (row ps k).slots (row ps k).first 0 (run_of us (row ps k))) (terms_shape us (drop (k + 1) ps))
runs_step us ps k h = at_drop_more (terms_shape us) ps k no_process h
