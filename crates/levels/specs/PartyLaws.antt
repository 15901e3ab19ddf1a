-- Sets of parties keep the laws, for every number of parties.
use Rattle.std.specs.Prelude.{◌≡◌, ℕ, ◌+◌, ◌*◌, ◌^◌, ◌<◌, ◌≤◌, true, bit_and, bit_or}
use Rattle.std.proofs.Common.{sym, ap₂, ◌∙◌, arith, pow-add, pow_mono}
use Rattle.std.proofs.lemmas.Nat.{pow_pos, or_lt, shr_split, div-mul-add, mod-mul-add, mod_below, shr_below, mul-add-lt, and_le_l}
use Rattle.std.proofs.lemmas.Bool.{lt-ltb, ltb-true, and_parts, and_from}
use Rattle.levels.specs.Masks.{within}
use Rattle.levels.specs.Meaning.{Lawful}
use Rattle.levels.specs.Party.{party_level, readers, writers, wider, joint, party_open, parties}
use Rattle.levels.specs.Subsets.{within_refl, within_anti, within_trans, and_within_l, and_within_r, and_greatest, or_within_l, or_within_r, or_least}
use Rattle.levels.specs.Gated.{Ordered, lawful}

module _ (n : ℕ) where
  pub joint_low : (a b : ℕ) → bit_and (writers n a) (writers n b) < 2 ^ n
  joint_low a b = omega (arith, and_le_l (writers n a) (writers n b), mod_below a (2 ^ n) (pow_pos n))

  pub joint_readers : (a b : ℕ) → readers n (joint n a b) ≡ bit_or (readers n a) (readers n b)
  joint_readers a b = div-mul-add (bit_or (readers n a) (readers n b)) (2 ^ n) (bit_and (writers n a) (writers n b)) (joint_low a b)

  pub joint_writers : (a b : ℕ) → writers n (joint n a b) ≡ bit_and (writers n a) (writers n b)
  joint_writers a b = mod-mul-add (bit_or (readers n a) (readers n b)) (2 ^ n) (bit_and (writers n a) (writers n b)) (joint_low a b)

  pub readers_lt : (a : ℕ) → party_level n a ≡ true → readers n a < 2 ^ n
  readers_lt a h = shr_below a n n (ltb-true a (2 ^ (n + n)) h)

  pub joint_lt : (a b : ℕ) → party_level n a ≡ true → party_level n b ≡ true → joint n a b < 2 ^ (n + n)
  joint_lt a b p q =
      rw (pow-add 2 n n)
      (mul-add-lt (bit_or (readers n a) (readers n b)) (2 ^ n) (bit_and (writers n a) (writers n b)) (2 ^ n)
      (or_lt n (readers n a) (readers n b) (readers_lt a p) (readers_lt b q)) (joint_low a b))

  wider_from : (a b : ℕ) → within (readers n b) (readers n a) ≡ true → within (writers n a) (writers n b) ≡ true → wider n a b ≡ true
  wider_from a b p q = and_from (within (readers n b) (readers n a)) (within (writers n a) (writers n b)) p q

  wider_readers : (a b : ℕ) → wider n a b ≡ true → within (readers n b) (readers n a) ≡ true
  wider_readers a b h = (and_parts (within (readers n b) (readers n a)) (within (writers n a) (writers n b)) h).0

  wider_writers : (a b : ℕ) → wider n a b ≡ true → within (writers n a) (writers n b) ≡ true
  wider_writers a b h = (and_parts (within (readers n b) (readers n a)) (within (writers n a) (writers n b)) h).1

  sixteen : n ≤ 8 → 2 ^ (n + n) ≤ 65536
  sixteen few = let h : n + n ≤ 16 = omega arith in pow_mono {i = n + n} {j = 16} h

  ordered : n ≤ 8 → Ordered (party_level n) (wider n) (joint n) (party_open n)
  ordered few = record {
    small = λ a h. omega (arith, ltb-true a (2 ^ (n + n)) h, sixteen few);
    open_in = lt-ltb (party_open n) (2 ^ (n + n)) (omega (arith, pow_pos (n + n)));
    reflects = λ a. wider_from a a (within_refl (readers n a)) (within_refl (writers n a));
    anti = λ a b p q.
        sym (shr_split a n)
        ∙ ap₂ (λ x y. x * 2 ^ n + y)
        (within_anti (readers n a) (readers n b) (wider_readers b a q) (wider_readers a b p))
        (within_anti (writers n a) (writers n b) (wider_writers a b p) (wider_writers b a q))
        ∙ shr_split b n;
    trans = λ a b c p q.
        wider_from a c
        (within_trans (readers n c) (readers n b) (readers n a) (wider_readers b c q) (wider_readers a b p))
        (within_trans (writers n a) (writers n b) (writers n c) (wider_writers a b p) (wider_writers b c q));
    m_in = λ a b p q. lt-ltb (joint n a b) (2 ^ (n + n)) (joint_lt a b p q);
    m_left = λ a b.
        wider_from (joint n a b) a
        (rw (joint_readers a b) (or_within_l (readers n a) (readers n b)))
        (rw (joint_writers a b) (and_within_l (writers n a) (writers n b)));
    m_right = λ a b.
        wider_from (joint n a b) b
        (rw (joint_readers a b) (or_within_r (readers n a) (readers n b)))
        (rw (joint_writers a b) (and_within_r (writers n a) (writers n b)));
    m_most = λ a b c p q.
        wider_from c (joint n a b)
        (rw (joint_readers a b) (or_least (readers n a) (readers n b) (readers n c) (wider_readers c a p) (wider_readers c b q)))
        (rw (joint_writers a b) (and_greatest (writers n a) (writers n b) (writers n c) (wider_writers c a p) (wider_writers c b q)));
  }

  pub party_laws : n ≤ 8 → Lawful (parties n)
  party_laws few = lawful (party_level n) (wider n) (joint n) (party_open n) (ordered few)
