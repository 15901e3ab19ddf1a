-- Process rows in the form that a walk uses are a tree: each row is reached from row 0, in one way.
use Rattle.std.proofs.Common.{◌≡◌, ℕ, zero, suc, ◌+◌, ◌<◌, ◌≤◌, List, [], ◌∷◌, length, Ok, sym, refl, ap, ◌∙◌, subst, ap₂, ⊎_elim, arith}
use Rattle.std.proofs.lemmas.Bool.{cases_lt}
use Rattle.levels.specs.Meaning.{Meaning}
use Rattle.rows.specs.declared.process.ProcessKind.{ProcessKind}
use Rattle.rows.specs.declared.process.ProcessRow.{ProcessRow}
use Rattle.rows.specs.Processes.{row, end_of, slots_of, adds}
use Rattle.rows.specs.Tables.{Tables}
use Rattle.shape.specs.declared.fault.ShapeFault.{ShapeFault}
use Rattle.shape.specs.First.{Passes}
use Rattle.shape.specs.Depth.{enclosing}
use Rattle.shape.specs.Tree.{children, Child, first, second, Way, here, down, added, aopens, Tree}
use Rattle.shape.specs.Whole.{shape}
use Rattle.shape.proofs.Shaped.{opens, Below, Kids, Shaped}
use Rattle.shape.proofs.Ends.{downward}
use Rattle.shape.proofs.Reached.{shaped}

few_children : (κ : ProcessKind) → children κ ≤ 2
few_children κ = grind arith

module _ (ps : List ProcessRow) (sh : Shaped ps) where
  -- a child lies in its parent's process, and so does its own process
  record Inner (i k : ℕ) : Type 0 where
    below : Below ps i k
    after : i < k
    «end» : end_of ps k ≤ end_of ps i

  first_inner : (i n : ℕ) → 1 ≤ n → Kids (Below ps) ps i n → Inner i (i + 1)
  first_inner i zero c e = absurd (omega arith)
  first_inner i (suc zero) c o = record { below = o.child; after = omega arith; «end» = omega (arith, o.ends) }
  first_inner i (suc (suc n)) c t =
      record { below = t.left; after = omega arith; «end» = omega (arith, sh.above (end_of ps (i + 1)) t.right.inside, t.ends) }

  second_inner : (i n : ℕ) → n ≡ 2 → Kids (Below ps) ps i n → Inner i (end_of ps (i + 1))
  second_inner i zero c e = absurd (omega arith)
  second_inner i (suc zero) c o = absurd (omega arith)
  second_inner i (suc (suc n)) c t =
      record { below = t.right; after = omega (arith, sh.above (i + 1) t.left.inside); «end» = omega (arith, t.ends) }

  inner : (i k : ℕ) → i < length ps → Child ps i k → Inner i k
  inner i k h (first c) = first_inner i (children (row ps i).kind) c (sh.family i h)
  inner i k h (second c) = second_inner i (children (row ps i).kind) c (sh.family i h)

  Reach : ℕ → ℕ → Type 0
  Reach j i = i ≤ j → j < end_of ps i → (ks : List ℕ) × Way ps i j ks

  by_child : (i j k : ℕ) → Child ps i k → Reach j k → k ≤ j → j < end_of ps k → (ks : List ℕ) × Way ps i j ks
  unfolding Reach
  by_child i j k c r a b = let w = r a b in (i ∷ w.0, down c w.1)

  reach_by : (i j n : ℕ) → n ≡ children (row ps i).kind → Kids (Below ps) ps i n → ((u : ℕ) → i < u → u < length ps → Reach j u) → i < j → j < end_of ps i → (ks : List ℕ) × Way ps i j ks
  reach_by i j zero q e ih a b = absurd (omega arith)
  reach_by i j (suc zero) q o ih a b =
      by_child i j (i + 1) (first (omega arith)) (ih (i + 1) (omega arith) o.child.inside) (omega arith) (omega (arith, o.ends))
  reach_by i j (suc (suc n)) q t ih a b =
      let from : i + 1 < end_of ps (i + 1) = sh.above (i + 1) t.left.inside in
      ⊎_elim
      (λ lt. by_child i j (i + 1) (first (omega arith)) (ih (i + 1) (omega arith) t.left.inside) (omega arith) lt)
      (λ ge. by_child i j (end_of ps (i + 1)) (second (omega (arith, q, few_children (row ps i).kind))) (ih (end_of ps (i + 1)) (omega arith) t.right.inside) ge (omega (arith, t.ends)))
      (cases_lt j (end_of ps (i + 1)))

  stays : (i j : ℕ) → i ≡ j → (ks : List ℕ) × Way ps i j ks
  stays i j e = subst (λ x. (ks : List ℕ) × Way ps i x ks) e (i ∷ [], here)

  reach : (j i : ℕ) → i < length ps → Reach j i
  unfolding Reach
  reach j i h =
      downward (Reach j) (length ps)
      (λ i h ih a b.
      ⊎_elim
      (λ lt. reach_by i j (children (row ps i).kind) refl (sh.family i h) ih lt b)
      (λ ge. stays i j (omega arith))
      (cases_lt i j))
      i h

  inside : (i j : ℕ) (ks : List ℕ) → i < length ps → Way ps i j ks → (i ≤ j) × (j < end_of ps i)
  inside i j ks h here = (omega arith, sh.above i h)
  inside i j ks h (down {k = k} {ks = ls} c w) =
      let n = inner i k h c in
      let r = inside k j ls n.below.inside w in
      (omega (arith, n.after, r.0), omega (arith, n.«end», r.1))

  -- the child on the way to j is the one that has j in it
  one_child : (i i' j j' k k' : ℕ) → i ≡ i' → j ≡ j' → Child ps i k → Child ps i' k' → (k ≤ j) × (j < end_of ps k) → (k' ≤ j') × (j' < end_of ps k') → k ≡ k'
  one_child i i' j j' k k' e f (first a) (first b) x y = omega arith
  one_child i i' j j' k k' e f (first a) (second b) x y = absurd (omega (arith, x.1, y.0, ap (λ u. end_of ps (u + 1)) e))
  one_child i i' j j' k k' e f (second a) (first b) x y = absurd (omega (arith, x.0, y.1, ap (λ u. end_of ps (u + 1)) e))
  one_child i i' j j' k k' e f (second a) (second b) x y = ap (λ u. end_of ps (u + 1)) e

  same_way : (i i' j j' : ℕ) (ks ls : List ℕ) → i < length ps → i' < length ps → i ≡ i' → j ≡ j' → Way ps i j ks → Way ps i' j' ls → ks ≡ ls
  same_way i i' j j' ks ls h h' e f here here = ap (λ x. x ∷ []) e
  same_way i i' j j' ks ls h h' e f here (down {k = k} {ks = ls'} c w) =
      let n = inner i' k h' c in
      absurd (omega (arith, n.after, (inside k j' ls' n.below.inside w).0))
  same_way i i' j j' ks ls h h' e f (down {k = k} {ks = ks'} c w) here =
      let n = inner i k h c in
      absurd (omega (arith, n.after, (inside k j ks' n.below.inside w).0))
  same_way i i' j j' ks ls h h' e f (down {k = k} {ks = ks'} c w) (down {k = k'} {ks = ls'} c' w') =
      let a = (inner i k h c).below.inside in
      let b = (inner i' k' h' c').below.inside in
      let q = one_child i i' j j' k k' e f c c' (inside k j ks' a w) (inside k' j' ls' b w') in
      ap₂ (λ x xs. x ∷ xs) e (same_way k k' j j' ks' ls' a b q f w w')

  adding : (i j : ℕ) (ks : List ℕ) → i < length ps → Way ps i j ks → slots_of ps j + adds (row ps j) ≡ slots_of ps i + added ps ks
  adding i j ks h here = omega arith
  adding i j ks h (down {k = k} {ks = ls} c w) =
      let n = inner i k h c in
      omega (arith, n.below.slots_are, adding k j ls n.below.inside w)

  -- six aopens at most around a row and with it
  with_it : (i : ℕ) → i < length ps → enclosing ps i ≤ 6 → (κ : ProcessKind) → (row ps i).kind ≡ κ → enclosing ps i + opens κ ≤ 6
  with_it i h a κ e = grind (arith, sh.deep i h)

  few_aopens : (i j : ℕ) (ks : List ℕ) → i < length ps → enclosing ps i ≤ 6 → Way ps i j ks → enclosing ps i + aopens ps ks ≤ 6
  few_aopens i j ks h a here = omega (arith, with_it i h a (row ps i).kind refl)
  few_aopens i j ks h a (down {k = k} {ks = ls} c w) =
      let n = inner i k h c in
      let d = n.below.depth_is in
      let up = with_it i h a (row ps i).kind refl in
      omega (arith, d, up, few_aopens k j ls n.below.inside (omega (arith, d, up)) w)

  pub rooted : Tree ps
  unfolding Reach
  rooted = record {
    root = sh.some;
    whole = sh.whole;
    subtree_from = λ i j h a b. reach j i h a b;
    subtree_to = inside;
    one_way = λ i j ks ls h v w. same_way i i j j ks ls h h refl refl v w;
    slots_add = adding;
    six = λ j ks w. omega (arith, few_aopens 0 j ks sh.some (omega arith) w);
  }

pub tree_where : (m : Meaning) (T : Tables) (r : Passes ShapeFault) → r ≡ shape m T → r ≡ Ok tt → Tree T.processes
tree_where m T r is e = rooted T.processes (shaped m T (sym is ∙ e))
