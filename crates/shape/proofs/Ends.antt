-- Each row ends after itself and within the table, and the processes of rows lie one in the other.
use Rattle.std.proofs.Common.{◌≡◌, ℕ, zero, suc, ◌+◌, ◌<◌, ◌≤◌, true, List, length, ap, ⊎_elim, arith}
use Rattle.std.proofs.lemmas.Bool.{eqb-true, cases_lt}
use Rattle.std.proofs.lemmas.Bool.Decides.{nat_tests}
use Rattle.rows.specs.declared.process.ProcessKind.{ProcessKind}
use Rattle.rows.specs.declared.process.ProcessKind.TheVariants.{Stop, Out, In, New, Both, Again, If, Sopen, Aopen, Verify}
use Rattle.rows.specs.declared.process.ProcessRow.{ProcessRow}
use Rattle.rows.specs.Processes.{row, end_of, slots_of, adds}
use Rattle.shape.specs.Processes.{child_ok, one_ok, two_ok, family_ok}
use Rattle.shape.specs.Tree.{children}
use Rattle.shape.proofs.Shaped.{OneChild, TwoChildren, Kids}

-- induction from the last row down
pub downward : (P : ℕ → Type 0) (n : ℕ) → ((i : ℕ) → i < n → ((u : ℕ) → i < u → u < n → P u) → P i) → (i : ℕ) → i < n → P i
downward P n step i h = go n i (omega arith) h
  where
    go : (k i : ℕ) → n ≤ i + k → i < n → P i
    go zero i more h = absurd (omega arith)
    go (suc k) i more h = step i h (λ u a b. go k u (omega arith) b)

-- the row j has the slots that a child of the row i has
pub record Has (ps : List ProcessRow) (i j : ℕ) : Type 0 where
  pub inside : j < length ps
  pub slots_are : slots_of ps j ≡ slots_of ps i + adds (row ps i)

has : (ps : List ProcessRow) (i j : ℕ) → child_ok ps i j ≡ true → Has ps i j
has ps i j h = record { inside = grind (arith, nat_tests); slots_are = grind (arith, nat_tests) }

one_kid : (ps : List ProcessRow) (i : ℕ) → one_ok ps i ≡ true → OneChild (Has ps) ps i
one_kid ps i h = record { child = has ps i (i + 1) (grind arith); ends = grind (arith, nat_tests) }

two_kids : (ps : List ProcessRow) (i : ℕ) → two_ok ps i ≡ true → TwoChildren (Has ps) ps i
two_kids ps i h = record { left = has ps i (i + 1) (grind arith); right = has ps i (end_of ps (i + 1)) (grind arith); ends = grind (arith, nat_tests) }

pub kids : (ps : List ProcessRow) (i : ℕ) (κ : ProcessKind) → family_ok ps i κ ≡ true → Kids (Has ps) ps i (children κ)
kids ps i Stop h = eqb-true (end_of ps i) (i + 1) h
kids ps i Out h = one_kid ps i h
kids ps i In h = one_kid ps i h
kids ps i New h = one_kid ps i h
kids ps i Both h = two_kids ps i h
kids ps i Again h = one_kid ps i h
kids ps i If h = two_kids ps i h
kids ps i Sopen h = one_kid ps i h
kids ps i Aopen h = one_kid ps i h
kids ps i Verify h = one_kid ps i h

module _ (ps : List ProcessRow) (fam : (i : ℕ) → i < length ps → Kids (Has ps) ps i (children (row ps i).kind)) where
  Within : ℕ → Type 0
  Within i = (i < end_of ps i) × (end_of ps i ≤ length ps)

  within_by : (i n : ℕ) → i < length ps → Kids (Has ps) ps i n → ((u : ℕ) → i < u → u < length ps → Within u) → Within i
  unfolding Within
  within_by i zero h e ih = (omega arith, omega arith)
  within_by i (suc zero) h o ih =
      let w = ih (i + 1) (omega arith) o.child.inside in
      (omega (arith, w.0, o.ends), omega (arith, w.1, o.ends))
  within_by i (suc (suc n)) h t ih =
      let v = ih (i + 1) (omega arith) t.left.inside in
      let w = ih (end_of ps (i + 1)) (omega (arith, v.0)) t.right.inside in
      (omega (arith, v.0, w.0, t.ends), omega (arith, w.1, t.ends))

  pub within : (i : ℕ) → i < length ps → (i < end_of ps i) × (end_of ps i ≤ length ps)
  unfolding Within
  within = downward Within (length ps) (λ i h ih. within_by i (children (row ps i).kind) h (fam i h) ih)

  Nested : ℕ → ℕ → Type 0
  Nested i t = t < i → i < end_of ps t → end_of ps i ≤ end_of ps t

  -- the same of a row at or above i
  ends_within : (i u : ℕ) → Nested i u → u ≤ i → i < end_of ps u → end_of ps i ≤ end_of ps u
  unfolding Nested
  ends_within i u ih a b =
      ⊎_elim
      (λ lt. ih lt b)
      (λ ge. let q : i ≡ u = omega arith in omega (arith, ap (end_of ps) q))
      (cases_lt u i)

  nested_by : (i t n : ℕ) → Kids (Has ps) ps t n → ((u : ℕ) → t < u → u < length ps → Nested i u) → Nested i t
  unfolding Nested
  nested_by i t zero e ih x y = absurd (omega arith)
  nested_by i t (suc zero) o ih x y =
      omega (arith, o.ends, ends_within i (t + 1) (ih (t + 1) (omega arith) o.child.inside) (omega arith) (omega (arith, o.ends)))
  nested_by i t (suc (suc n)) k ih x y =
      let second = end_of ps (t + 1) in
      let up : second < end_of ps t = omega (arith, k.ends, (within second k.right.inside).0) in
      let from : t + 1 < second = (within (t + 1) k.left.inside).0 in
      ⊎_elim
      (λ lt. omega (arith, ends_within i (t + 1) (ih (t + 1) (omega arith) k.left.inside) (omega arith) lt))
      (λ ge. omega (arith, k.ends, ends_within i second (ih second (omega arith) k.right.inside) ge (omega (arith, k.ends))))
      (cases_lt i second)

  pub nested : (t i : ℕ) → t < length ps → t < i → i < end_of ps t → end_of ps i ≤ end_of ps t
  unfolding Nested
  nested t i h = downward (Nested i) (length ps) (λ u b ih. nested_by i u (children (row ps u).kind) (fam u b) ih) t h
