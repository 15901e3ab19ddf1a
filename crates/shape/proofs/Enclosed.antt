-- A child has the aopen rows around it that its parent has, and the parent where that is one.
use Rattle.std.proofs.Common.{◌≡◌, ℕ, zero, suc, ◌+◌, ◌-◌, ◌<◌, ◌≤◌, Bool, true, cond, ◌&&◌, ltb, List, length, refl, ap, ◌∙◌, ap₂, ⊎_elim, add-one, arith}
use Rattle.std.proofs.lemmas.Bool.Decides.{nat_tests}
use Rattle.std.proofs.lemmas.Bool.{lt-ltb, cases_lt}
use Rattle.rows.specs.declared.process.ProcessKind.{ProcessKind}
use Rattle.rows.specs.declared.process.ProcessRow.{ProcessRow}
use Rattle.rows.specs.Processes.{row, end_of}
use Rattle.shape.specs.Depth.{is_aopen, enclosing_below, enclosing}
use Rattle.shape.specs.Tree.{children}
use Rattle.shape.proofs.Shaped.{opens, Kids}
use Rattle.shape.proofs.Ends.{Has, within, nested}

opens_is : (κ : ProcessKind) (b : Bool) → b ≡ true → cond (is_aopen κ && b) 1 0 ≡ opens κ
opens_is κ b e = grind arith

module _ (ps : List ProcessRow) where
  -- two rows that lie in the same of the first n processes
  count_same : (i j n : ℕ) → ((t : ℕ) → t < n → ltb i (end_of ps t) ≡ ltb j (end_of ps t)) → enclosing_below ps i n ≡ enclosing_below ps j n
  count_same i j zero same = refl
  count_same i j (suc n) same =
      ap₂ (λ x y. x + cond (is_aopen (row ps n).kind && y) 1 0) (count_same i j n (λ t h. same t (omega arith))) (same n (omega arith))

  -- rows that end before j do not count
  count_none : (j n k : ℕ) → ((t : ℕ) → n ≤ t → t < n + k → end_of ps t ≤ j) → enclosing_below ps j (n + k) ≡ enclosing_below ps j n
  count_none j n zero none = let e : n + 0 ≡ n = omega arith in ap (enclosing_below ps j) e
  count_none j n (suc k) none =
      let e : n + suc k ≡ suc (n + k) = omega arith in
      let out : end_of ps (n + k) ≤ j = none (n + k) (omega arith) (omega arith) in
      let more : enclosing_below ps j (suc (n + k)) ≡ enclosing_below ps j (n + k) = grind (arith, nat_tests) in
      ap (enclosing_below ps j) e ∙ more ∙ count_none j n k (λ t a b. none t a (omega arith))

module _ (ps : List ProcessRow) (fam : (i : ℕ) → i < length ps → Kids (Has ps) ps i (children (row ps i).kind)) where
  -- seen from a row in the process of i, the rows above i are those seen from i
  same_above : (i j : ℕ) → i < j → j < end_of ps i → i < length ps → (t : ℕ) → t < i → ltb j (end_of ps t) ≡ ltb i (end_of ps t)
  same_above i j a b h t lt =
      let up : i < end_of ps t → end_of ps i ≤ end_of ps t = nested ps fam t i (omega arith) lt in
      grind (arith, nat_tests)

  -- a row of the process of i with no aopen between the two
  depth_below : (i j : ℕ) → i < length ps → i < j → j < end_of ps i → ((t : ℕ) → i + 1 ≤ t → t < j → end_of ps t ≤ j) → enclosing ps j ≡ enclosing ps i + opens (row ps i).kind
  depth_below i j h a b none =
      let k : j ≡ (i + 1) + (j - (i + 1)) = omega arith in
      ap (enclosing_below ps j) k
      ∙ count_none ps j (i + 1) (j - (i + 1)) (λ t x y. none t x (omega arith))
      ∙ ap (enclosing_below ps j) (add-one i)
      ∙ ap₂ (λ x y. x + y)
      (count_same ps j i i (same_above i j a b h))
      (opens_is (row ps i).kind (ltb j (end_of ps i)) (lt-ltb j (end_of ps i) b))

  pub first_depth : (i : ℕ) → i < length ps → i + 1 < end_of ps i → enclosing ps (i + 1) ≡ enclosing ps i + opens (row ps i).kind
  first_depth i h b = depth_below i (i + 1) h (omega arith) b (λ t x y. absurd (omega arith))

  pub second_depth : (i : ℕ) → i < length ps → i + 1 < length ps → end_of ps (i + 1) < end_of ps i → enclosing ps (end_of ps (i + 1)) ≡ enclosing ps i + opens (row ps i).kind
  second_depth i h a b =
      depth_below i (end_of ps (i + 1)) h (omega (arith, (within ps fam (i + 1) a).0)) b
      (λ t x y.
      ⊎_elim
      (λ gt. nested ps fam (i + 1) t a gt y)
      (λ le. let q : t ≡ i + 1 = omega arith in omega (arith, ap (end_of ps) q))
      (cases_lt (i + 1) t))
