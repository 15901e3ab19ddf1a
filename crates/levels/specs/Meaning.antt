-- What a level scheme means, as one value, and the laws that it keeps.
use Rattle.std.specs.Prelude.{◌≡◌, ℕ, ◌<◌, Bool, true, false, cond, not, ◌&&◌}

-- the four answers
pub record Meaning : Type 0 where
  pub level : ℕ → Bool
  pub below : ℕ → ℕ → Bool
  pub meet : ℕ → ℕ → ℕ
  pub opened : ℕ

-- the laws: they are those of the trait, for one meaning
pub record Lawful (m : Meaning) : Type 0 where
  pub bounded : (a : ℕ) → m.level a ≡ true → a < 65536
  pub open_is_level : m.level m.opened ≡ true
  pub below_levels : (a b : ℕ) → m.below a b ≡ true → (m.level a ≡ true) × (m.level b ≡ true)
  pub reflexive : (a : ℕ) → m.level a ≡ true → m.below a a ≡ true
  pub antisymmetric : (a b : ℕ) → m.below a b ≡ true → m.below b a ≡ true → a ≡ b
  pub transitive : (a b c : ℕ) → m.below a b ≡ true → m.below b c ≡ true → m.below a c ≡ true
  pub meet_below : (a b : ℕ) → m.level a ≡ true → m.level b ≡ true → (m.below (m.meet a b) a ≡ true) × (m.below (m.meet a b) b ≡ true)
  pub meet_greatest : (a b c : ℕ) → m.below c a ≡ true → m.below c b ≡ true → m.below c (m.meet a b) ≡ true
  pub meet_outside : (a b : ℕ) → (m.level a && m.level b) ≡ false → m.meet a b ≡ m.opened

-- a level is public if below the open level, tainted if the open level is below it, guarded if neither
abbrev pub public : Meaning → ℕ → Bool
public m a = m.below a m.opened

abbrev pub tainted : Meaning → ℕ → Bool
tainted m a = m.below m.opened a

abbrev pub guarded : Meaning → ℕ → Bool
guarded m a = m.level a && (not (public m a) && not (tainted m a))

-- the meet of a guarded level with the open level is public and not tainted
abbrev pub Lowers : Meaning → Type 0
Lowers m = (a : ℕ) → guarded m a ≡ true → (public m (m.meet a m.opened) ≡ true) × (tainted m (m.meet a m.opened) ≡ false)

-- two schemes give the same four answers to every question that can be asked
pub record SameAnswers (m n : Meaning) : Type 0 where
  pub level : (a : ℕ) → a < 65536 → m.level a ≡ n.level a
  pub below : (a b : ℕ) → a < 65536 → b < 65536 → m.below a b ≡ n.below a b
  pub meet : (a b : ℕ) → a < 65536 → b < 65536 → m.meet a b ≡ n.meet a b
  pub opened : m.opened ≡ n.opened

-- A scheme from an order and a meet that are right on levels: for a number that is no level, below says no and meet says open.
abbrev pub gated : (ℕ → Bool) → (ℕ → ℕ → Bool) → ℕ → ℕ → Bool
gated l r a b = (l a && l b) && r a b

abbrev pub gated_meet : (ℕ → Bool) → (ℕ → ℕ → ℕ) → ℕ → ℕ → ℕ → ℕ
gated_meet l m o a b = cond (l a && l b) (m a b) o
