-- The search for the first row that fails a test: what it finds, and that all rows pass where it finds none.
use Rattle.std.proofs.Common.{◌≡◌, ℕ, zero, suc, ◌+◌, ◌<◌, ◌≤◌, Bool, true, false, Option, None, Some, MatchOption, MatchResult, IsErrAnd, Ok, Err, refl, ap, subst, ◌∙◌, sym, ⊎_elim, arith}
use Rattle.std.proofs.lemmas.Bool.{cond-true, cond-false, cases_lt}
use Rattle.std.proofs.lemmas.Result.{err_from_is_err_and}
use Rattle.shape.specs.First.{Passes, first_bad, MatchFirst}

module _ {E : Type 0} (p : ℕ → Bool) (fault : ℕ → E) where
  -- a test that each of the n rows from i on passes
  none_from : (n i : ℕ) → ((k : ℕ) → i ≤ k → k < i + n → p k ≡ true) → first_bad p fault i n ≡ Ok tt
  none_from zero i all = refl
  none_from (suc n) i all = cond-true (p i) _ _ (all i (omega arith) (omega arith)) ∙ none_from n (i + 1) (λ k a b. all k (omega arith) (omega arith))

  -- a test that the row k of them is the first to fail
  bad_from : (n i k : ℕ) → i ≤ k → k < i + n → p k ≡ false → ((t : ℕ) → t < k → p t ≡ true) → first_bad p fault i n ≡ Err (fault k)
  bad_from zero i k a b bad all = absurd (omega arith)
  bad_from (suc n) i k a b bad all =
      ⊎_elim
      (λ lt. cond-true (p i) _ _ (all i lt) ∙ bad_from n (i + 1) k (omega arith) (omega arith) bad all)
      (λ ge. let e : i ≡ k = omega arith in cond-false (p i) _ _ (ap p e ∙ bad) ∙ ap (λ x. Err (fault x)) e)
      (cases_lt i k)

  module _ {Says : ℕ → Bool → Type 0} {Gives : ℕ → E → Type 0} {n : ℕ} {v : Passes E} where
    -- what a function returns that looks for the first row at fault, and gives its fault
    pub first_is : {r : Passes ℕ} → MatchFirst Says n r → MatchResult r (λ x. v ≡ Ok x) (λ k. IsErrAnd v (Gives k)) → ((i : ℕ) (b : Bool) → Says i b → b ≡ p i) → ((k : ℕ) (e : E) → Gives k e → e ≡ fault k) → v ≡ first_bad p fault 0 n
    first_is {r = Ok u} found was says gives = was ∙ sym (none_from n 0 (λ k a b. sym (says k true (found.passed k (omega arith)))))
    first_is {r = Err k} found was says gives =
        let is = err_from_is_err_and v was in
        is.1
        ∙ ap Err (gives k is.0 is.2)
        ∙ sym (bad_from n 0 k (omega arith) (omega (arith, found.failed.0)) (sym (says k false found.failed.1)) (λ t b. sym (says t true (found.failed.2 t b))))

  good_from : (n i : ℕ) → first_bad p fault i n ≡ Ok tt → (k : ℕ) → i ≤ k → k < i + n → p k ≡ true
  good_from zero i h k a b = absurd (omega arith)
  good_from (suc n) i h k a b =
      let here : p i ≡ true = grind arith in
      let after : first_bad p fault (i + 1) n ≡ Ok tt = grind arith in
      ⊎_elim
      (λ lt. good_from n (i + 1) after k (omega arith) (omega arith))
      (λ ge. let e : k ≡ i = omega arith in ap p e ∙ here)
      (cases_lt i k)

  pub all_good : (n : ℕ) → first_bad p fault 0 n ≡ Ok tt → (k : ℕ) → k < n → p k ≡ true
  all_good n h k b = good_from n 0 h k (omega arith) (omega arith)

-- a search for the lowest row at fault, with Some and None turned round
pub first_found : {Says : ℕ → Bool → Type 0} {n : ℕ} (o : Option ℕ) {r : Passes ℕ} → MatchOption o ((k : ℕ) → 0 ≤ k → k < n → Says k true) (λ i. (0 ≤ i) × (i < n) × Says i false × ((k : ℕ) → 0 ≤ k → k < i → Says k true)) → MatchOption o (r ≡ Ok tt) (λ i. r ≡ Err i) → MatchFirst Says n r
first_found {Says} {n} None found turned = subst (MatchFirst Says n) (sym turned) (record { passed = λ k h. found k (omega arith) h; failed = tt })
first_found {Says} {n} (Some i) found turned =
    subst (MatchFirst Says n) (sym turned) (record { passed = tt; failed = (found.1, found.2, λ k h. found.3 k (omega arith) h) })
