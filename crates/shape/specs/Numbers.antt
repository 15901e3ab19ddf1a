-- Lists of row numbers in a row: those in use are there and below a bound, and the others are zero.
use Rattle.std.specs.Prelude.{ℕ, zero, suc, Bool, true, false, ◌&&◌, List, [], ◌∷◌, ◌==◌, nat_le, nat_lt}

-- the first n are there and below the bound b
abbrev pub numbers_fit : ℕ → ℕ → List ℕ → Bool
numbers_fit b zero [] = true
numbers_fit b (suc n) [] = false
numbers_fit b zero (x ∷ xs) = x == 0 && numbers_fit b zero xs
numbers_fit b (suc n) (x ∷ xs) = nat_lt x b && numbers_fit b n xs

abbrev pub one_to_four : ℕ → Bool
one_to_four n = nat_le 1 n && nat_le n 4
