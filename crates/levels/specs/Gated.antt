-- The laws of a scheme, from those of its order and its meet on the levels.
use Rattle.std.specs.Prelude.{◌≡◌, ℕ, ◌<◌, Bool, true, ◌&&◌}
use Rattle.std.proofs.lemmas.Bool.{and_parts, and_from, cond-true, cond-false}
use Rattle.levels.specs.Meaning.{Meaning, Lawful, gated, gated_meet}

-- an order r and a meet m on the levels l, with the open level o
pub record Ordered (l : ℕ → Bool) (r : ℕ → ℕ → Bool) (m : ℕ → ℕ → ℕ) (o : ℕ) : Type 0 where
  pub small : (a : ℕ) → l a ≡ true → a < 65536
  pub open_in : l o ≡ true
  pub reflects : (a : ℕ) → r a a ≡ true
  pub anti : (a b : ℕ) → r a b ≡ true → r b a ≡ true → a ≡ b
  pub trans : (a b c : ℕ) → r a b ≡ true → r b c ≡ true → r a c ≡ true
  pub m_in : (a b : ℕ) → l a ≡ true → l b ≡ true → l (m a b) ≡ true
  pub m_left : (a b : ℕ) → r (m a b) a ≡ true
  pub m_right : (a b : ℕ) → r (m a b) b ≡ true
  pub m_most : (a b c : ℕ) → r c a ≡ true → r c b ≡ true → r c (m a b) ≡ true

abbrev pub scheme_of : (ℕ → Bool) → (ℕ → ℕ → Bool) → (ℕ → ℕ → ℕ) → ℕ → Meaning
scheme_of l r m o = record { level = l; below = gated l r; meet = gated_meet l m o; opened = o }

module _ (l : ℕ → Bool) (r : ℕ → ℕ → Bool) (m : ℕ → ℕ → ℕ) (o : ℕ) where
  from : (a b : ℕ) → l a ≡ true → l b ≡ true → r a b ≡ true → gated l r a b ≡ true
  from a b p q h = and_from (l a && l b) (r a b) (and_from (l a) (l b) p q) h

  both : (a b : ℕ) → gated l r a b ≡ true → (l a ≡ true) × (l b ≡ true)
  both a b h = and_parts (l a) (l b) (and_parts (l a && l b) (r a b) h).0

  order : (a b : ℕ) → gated l r a b ≡ true → r a b ≡ true
  order a b h = (and_parts (l a && l b) (r a b) h).1

  pub meet_is : (a b : ℕ) → l a ≡ true → l b ≡ true → gated_meet l m o a b ≡ m a b
  meet_is a b p q = cond-true (l a && l b) (m a b) o (and_from (l a) (l b) p q)

  pub lawful : Ordered l r m o → Lawful (scheme_of l r m o)
  lawful k =
      record {
        bounded = k.small;
        open_is_level = k.open_in;
        below_levels = both;
        reflexive = λ a h. from a a h h (k.reflects a);
        antisymmetric = λ a b p q. k.anti a b (order a b p) (order b a q);
        transitive = λ a b c p q. from a c (both a b p).0 (both b c q).1 (k.trans a b c (order a b p) (order b c q));
        meet_below = λ a b p q. (
          rw (meet_is a b p q) (from (m a b) a (k.m_in a b p q) p (k.m_left a b)),
          rw (meet_is a b p q) (from (m a b) b (k.m_in a b p q) q (k.m_right a b)),
        );
        meet_greatest = λ a b c p q.
            let la = (both c a p).1 in
            let lb = (both c b q).1 in
            rw (meet_is a b la lb) (from c (m a b) (both c a p).0 (k.m_in a b la lb) (k.m_most a b c (order c a p) (order c b q)));
        meet_outside = λ a b h. cond-false (l a && l b) (m a b) o h;
      }
