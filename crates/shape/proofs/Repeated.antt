-- Whether a type equals one of the first rows, as a test of each of them.
use Rattle.std.proofs.Common.{◌≡◌, ℕ, zero, suc, ◌≤◌, List, length, take, sym, refl, ap, ◌∙◌, add-one, arith}
use Rattle.std.specs.List.{list_any}
use Rattle.std.proofs.lemmas.List.Folds.{list_any_more}
use Rattle.rows.specs.declared.types.TypeRow.{TypeRow}
use Rattle.rows.specs.Types.{same_type, plain}
use Rattle.shape.specs.Types.{repeats}

pub repeats_is : (ts : List TypeRow) (t : TypeRow) (n : ℕ) → n ≤ length ts → list_any (λ u. same_type u t) (take n ts) ≡ repeats ts t n
repeats_is ts t zero h = refl
repeats_is ts t (suc n) h =
    let before = repeats_is ts t n (omega arith) in
    let more = list_any_more (λ u. same_type u t) ts n (plain 0) (omega arith) in
    ap (λ k. list_any (λ u. same_type u t) (take k ts)) (sym (add-one n)) ∙ grind arith
