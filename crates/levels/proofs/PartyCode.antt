-- What the masks and shifts of the code come to.
use Rattle.std.proofs.Common.{◌≡◌, ℕ, zero, suc, ◌+◌, ◌-◌, ◌*◌, ◌/◌, ◌%◌, ◌^◌, ◌<◌, ◌≤◌, true, eqb, ltb, sym, ◌∙◌, ⊎_elim, suc-mul, arith}
use native.Mathlib.Nat.{div-eq_of_lt}
use lib.Bits.{bit_and, bit_or, or_shifted}
use Rattle.std.proofs.lemmas.Nat.{pow_pos, pow-add, shr-shr, shl_whole, le-div, or_lt}
use Rattle.levels.specs.Party.{party_level, readers, writers, joint, party_meet, party_open}
use Rattle.levels.specs.PartyLaws.{joint_low, readers_lt}
use Rattle.levels.specs.Gated.{meet_is}
use Rattle.levels.specs.Party.{wider}
use Rattle.std.proofs.lemmas.Bool.{cases_lt, lt-ltb, le-ltb, eq-eqb, ne_eqb}

pub none_above : (a k : ℕ) → 0 < k → eqb (a / k) 0 ≡ ltb a k
none_above a k p =
    ⊎_elim
    (λ lt. eq-eqb (a / k) 0 (div-eq_of_lt lt) ∙ sym (lt-ltb a k lt))
    (λ le. ne_eqb (a / k) 0 (λ e. omega (arith, le-div 1 a k p (omega arith))) ∙ sym (le-ltb a k le))
    (cases_lt a k)

pub in_range : (a n : ℕ) → eqb (a / 2 ^ n / 2 ^ n) 0 ≡ ltb a (2 ^ (n + n))
in_range a n = rw (shr-shr a n n) (none_above a (2 ^ (n + n)) (pow_pos (n + n)))

squared : (x : ℕ) → 0 < x → (x - 1) * x + (x - 1) ≡ x * x - 1
squared zero h = omega arith
squared (suc y) h = let e : suc y - 1 ≡ y = omega arith in rw e (omega (arith, suc-mul y (suc y)))

-- a packed pair fits 16 bits
pub packed : (n hi lo : ℕ) → n ≤ 8 → hi < 2 ^ n → lo < 2 ^ n → bit_or ((hi * 2 ^ n) % 65536) lo ≡ hi * 2 ^ n + lo
packed n hi lo few h l = rw (shl_whole hi n n 16 h (omega arith)) (or_shifted hi n lo l)

pub all_packed : (n : ℕ) → (2 ^ n - 1) * 2 ^ n + (2 ^ n - 1) ≡ 2 ^ (n + n) - 1
all_packed n = rw (pow-add 2 n n) (squared (2 ^ n) (pow_pos n))

pub meet_code : (n a b : ℕ) → n ≤ 8 → party_level n a ≡ true → party_level n b ≡ true
    → bit_or ((bit_or (readers n a) (readers n b) * 2 ^ n) % 65536) (bit_and (writers n a) (writers n b)) ≡ party_meet n a b
meet_code n a b few p q =
    packed n (bit_or (readers n a) (readers n b)) (bit_and (writers n a) (writers n b)) few
    (or_lt n (readers n a) (readers n b) (readers_lt n a p) (readers_lt n b q)) (joint_low n a b)
    ∙ sym (meet_is (party_level n) (wider n) (joint n) (party_open n) a b p q)

-- everybody's set beside itself is the open level
pub open_code : (n x y : ℕ) → n ≤ 8 → x ≡ 2 ^ n - 1 → y ≡ 2 ^ n - 1 → bit_or ((x * 2 ^ n) % 65536) y ≡ party_open n
open_code n x y few p q =
    let w = pow_pos n in rw (p, q) (packed n (2 ^ n - 1) (2 ^ n - 1) few (omega arith) (omega arith) ∙ all_packed n)
