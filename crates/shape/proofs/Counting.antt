-- The enclosing aopen rows, as a count over the rows above.
use Rattle.std.proofs.Common.{◌≡◌, ℕ, zero, suc, ◌+◌, ◌<◌, ◌≤◌, Bool, cond, ◌&&◌, ltb, List, length, count_by, take, sym, refl, ap, ◌∙◌, add-one, arith}
use Rattle.std.proofs.lemmas.Bool.Decides.{nat_tests}
use Rattle.std.proofs.lemmas.List.Sums.{count_by_more_yes, count_by_more_no}
use Rattle.rows.specs.declared.process.ProcessRow.{ProcessRow}
use Rattle.shape.specs.Depth.{is_aopen, encloses, enclosing_below, enclosing}

-- an aopen whose process has the row i in it
abbrev pub is_around : ℕ → ProcessRow → Bool
is_around i p = is_aopen p.kind && ltb i p.«end»

more : (ps : List ProcessRow) (i t : ℕ) → t < length ps → count_by (is_around i) (take (t + 1) ps) ≡ count_by (is_around i) (take t ps) + cond (encloses ps i t) 1 0
more ps i t h = grind (arith, nat_tests, count_by_more_yes, count_by_more_no)

below_is : (ps : List ProcessRow) (i t : ℕ) → t ≤ length ps → enclosing_below ps i t ≡ count_by (is_around i) (take t ps)
below_is ps i zero h = refl
below_is ps i (suc t) h =
    ap (λ n. n + cond (encloses ps i t) 1 0) (below_is ps i t (omega arith))
    ∙ sym (more ps i t (omega arith))
    ∙ ap (λ n. count_by (is_around i) (take n ps)) (add-one t)

pub enclosing_is : (ps : List ProcessRow) (i : ℕ) → i < length ps → enclosing ps i ≡ count_by (is_around i) (take i ps)
enclosing_is ps i h = below_is ps i i (omega arith)
