-- The laws of subsets as masks, by induction on the binary digits.
use Rattle.std.specs.Prelude.{◌≡◌, ℕ, ◌/◌, ◌%◌, min, max, true, bit_and, bit_or, refl}
use Rattle.std.proofs.Common.{sym, ap, ap₂, ◌∙◌, arith}
use Rattle.std.proofs.Math.Arith.{bin_ind}
use Rattle.std.specs.Int.Bits.{and_step, or_step, and_self}
use Rattle.std.proofs.lemmas.Nat.{and_comm, or_comm}
use Rattle.std.proofs.lemmas.Bool.{eqb-true, eq-eqb}
use Rattle.levels.specs.Masks.{within}

and_half : (a b : ℕ) → bit_and a b / 2 ≡ bit_and (a / 2) (b / 2)
and_half a b = omega (arith, and_step a b)

and_digit : (a b : ℕ) → bit_and a b % 2 ≡ min (a % 2) (b % 2)
and_digit a b = omega (arith, and_step a b)

or_half : (a b : ℕ) → bit_or a b / 2 ≡ bit_or (a / 2) (b / 2)
or_half a b = omega (arith, or_step a b)

or_digit : (a b : ℕ) → bit_or a b % 2 ≡ max (a % 2) (b % 2)
or_digit a b = omega (arith, or_step a b)

by_digits : (a b : ℕ) → a / 2 ≡ b / 2 → a % 2 ≡ b % 2 → a ≡ b
by_digits a b p q = omega arith

and_assoc : (a b c : ℕ) → bit_and (bit_and a b) c ≡ bit_and a (bit_and b c)
and_assoc =
    bin_ind (λ (n : ℕ). (b c : ℕ) → bit_and (bit_and n b) c ≡ bit_and n (bit_and b c)) (λ b c. refl)
    (λ n ih b c. by_digits _ _
    (simp and_half (ih (b / 2) (c / 2)))
    (simp and_digit (omega arith)))

and_absorbs : (a b : ℕ) → bit_and a (bit_or a b) ≡ a
and_absorbs =
    bin_ind (λ (n : ℕ). (b : ℕ) → bit_and n (bit_or n b) ≡ n) (λ b. refl)
    (λ n ih b. by_digits _ _
    (simp (and_half, or_half) (ih (b / 2)))
    (simp (and_digit, or_digit) (omega arith)))

or_and : (a b c : ℕ) → bit_and (bit_or a b) c ≡ bit_or (bit_and a c) (bit_and b c)
or_and =
    bin_ind (λ (n : ℕ). (b c : ℕ) → bit_and (bit_or n b) c ≡ bit_or (bit_and n c) (bit_and b c)) (λ b c. refl)
    (λ n ih b c. by_digits _ _
    (simp (and_half, or_half) (ih (b / 2) (c / 2)))
    (simp (and_digit, or_digit) (omega arith)))

pub within_refl : (a : ℕ) → within a a ≡ true
within_refl a = eq-eqb _ _ (and_self a)

pub within_anti : (a b : ℕ) → within a b ≡ true → within b a ≡ true → a ≡ b
within_anti a b p q = sym (eqb-true _ _ p) ∙ and_comm a b ∙ eqb-true _ _ q

pub within_trans : (a b c : ℕ) → within a b ≡ true → within b c ≡ true → within a c ≡ true
within_trans a b c p q =
    let ab = eqb-true _ _ p in
    let bc = eqb-true _ _ q in
    eq-eqb _ _ (ap (λ x. bit_and x c) (sym ab) ∙ and_assoc a b c ∙ ap (bit_and a) bc ∙ ab)

pub and_within_l : (a b : ℕ) → within (bit_and a b) a ≡ true
and_within_l a b =
    eq-eqb _ _ (and_comm (bit_and a b) a ∙ sym (and_assoc a a b) ∙ ap (λ x. bit_and x b) (and_self a))

pub and_within_r : (a b : ℕ) → within (bit_and a b) b ≡ true
and_within_r a b = eq-eqb _ _ (and_assoc a b b ∙ ap (bit_and a) (and_self b))

pub and_greatest : (a b c : ℕ) → within c a ≡ true → within c b ≡ true → within c (bit_and a b) ≡ true
and_greatest a b c p q =
    eq-eqb _ _ (sym (and_assoc c a b) ∙ ap (λ x. bit_and x b) (eqb-true _ _ p) ∙ eqb-true _ _ q)

pub or_within_l : (a b : ℕ) → within a (bit_or a b) ≡ true
or_within_l a b = eq-eqb _ _ (and_absorbs a b)

pub or_within_r : (a b : ℕ) → within b (bit_or a b) ≡ true
or_within_r a b = rw (or_comm a b) (or_within_l b a)

pub or_least : (a b c : ℕ) → within a c ≡ true → within b c ≡ true → within (bit_or a b) c ≡ true
or_least a b c p q = eq-eqb _ _ (or_and a b c ∙ ap₂ bit_or (eqb-true _ _ p) (eqb-true _ _ q))
