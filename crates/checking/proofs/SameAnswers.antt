-- Schemes with the same answers have one meaning, and so one verdict.
use Rattle.std.proofs.Common.{◌≡◌, ℕ, ◌<◌, ◌≤◌, false, ◌&&◌, ◌⊎◌, sym, ap, ◌∙◌, inl, inr, ⊎_elim, arith}
use Rattle.std.proofs.lemmas.Bool.{cases_lt, and_parts, false_from_ne_true}
use Rattle.levels.specs.Meaning.{Meaning, Lawful, SameAnswers}
use Rattle.rows.specs.Tables.{Tables}
use Rattle.shape.specs.First.{Passes}
use Rattle.checking.specs.declared.refusal.Refusal.{Refusal}
use Rattle.checking.specs.Verdict.{verdict}
use Rattle.checking.specs.Theorems.{ByAnswers}

-- a number past sixteen bits is no level, and so nothing is below it or above it
no_level : (m : Meaning) → Lawful m → (a : ℕ) → 65536 ≤ a → m.level a ≡ false
no_level m k a h = false_from_ne_true (m.level a) (λ t. omega (arith, k.bounded a t))

outside : (m : Meaning) → Lawful m → (a b : ℕ) → (65536 ≤ a) ⊎ (65536 ≤ b) → (m.level a && m.level b) ≡ false
outside m k a b far =
    false_from_ne_true (m.level a && m.level b) (λ t. let w = and_parts (m.level a) (m.level b) t in omega (arith, k.bounded a w.0, k.bounded b w.1))

not_below : (m : Meaning) → Lawful m → (a b : ℕ) → (65536 ≤ a) ⊎ (65536 ≤ b) → m.below a b ≡ false
not_below m k a b far = false_from_ne_true (m.below a b) (λ t. let w = k.below_levels a b t in omega (arith, k.bounded a w.0, k.bounded b w.1))

-- two numbers of sixteen bits, or one that is not
near : (a b : ℕ) → ((a < 65536) × (b < 65536)) ⊎ ((65536 ≤ a) ⊎ (65536 ≤ b))
near a b = ⊎_elim (λ h. ⊎_elim (λ k. inl (h, k)) (λ k. inr (inr k)) (cases_lt b 65536)) (λ h. inr (inl h)) (cases_lt a 65536)

module _ (m n : Meaning) (k : Lawful m) (l : Lawful n) (s : SameAnswers m n) where
  level : (a : ℕ) → m.level a ≡ n.level a
  level a = ⊎_elim (s.level a) (λ h. no_level m k a h ∙ sym (no_level n l a h)) (cases_lt a 65536)

  below : (a b : ℕ) → m.below a b ≡ n.below a b
  below a b = ⊎_elim (λ h. s.below a b h.0 h.1) (λ h. not_below m k a b h ∙ sym (not_below n l a b h)) (near a b)

  meet : (a b : ℕ) → m.meet a b ≡ n.meet a b
  meet a b =
      ⊎_elim (λ h. s.meet a b h.0 h.1)
      (λ h. k.meet_outside a b (outside m k a b h) ∙ s.opened ∙ sym (l.meet_outside a b (outside n l a b h))) (near a b)

  same_meaning : m ≡ n
  same_meaning = λ i. record { level = λ a. level a i; below = λ a b. below a b i; meet = λ a b. meet a b i; opened = s.opened i }

pub by_answers : (m : Meaning) → Lawful m → (T : Tables) (r : Passes Refusal) → r ≡ verdict m T → ByAnswers m T r
by_answers m k T r e n l s = e ∙ ap (λ x. verdict x T) (same_meaning m n k l s)
