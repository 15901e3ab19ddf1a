-- A list of row numbers, entry by entry: those in use, and the others.
use Rattle.std.proofs.Common.{◌≡◌, ℕ, zero, suc, ◌+◌, ◌<◌, ◌≤◌, Bool, true, false, ◌&&◌, cond, eqb, ltb, List, [], ◌∷◌, length, refl, ap, arith}
use Rattle.std.proofs.lemmas.Bool.Decides.{nat_tests}
use Rattle.std.proofs.lemmas.Bool.{and_right}
use Rattle.std.specs.List.{list_all, enumerate_from}
use Rattle.shape.specs.Numbers.{numbers_fit}

-- an entry with its place
abbrev pub entry_fits : ℕ → ℕ → ℕ × ℕ → Bool
entry_fits b n p = cond (ltb p.0 n) (ltb p.1 b) (eqb p.1 0)

rest_fits : (b n k : ℕ) (xs : List ℕ) → n ≤ k → numbers_fit b zero xs ≡ list_all (entry_fits b n) (enumerate_from k xs)
rest_fits b n k [] h = refl
rest_fits b n k (x ∷ xs) h = let past : ltb k n ≡ false = grind (arith, nat_tests) in rw past (ap (λ y. eqb x 0 && y) (rest_fits b n (k + 1) xs (omega arith)))

fit_from : (b n u k : ℕ) (xs : List ℕ) → u ≤ length xs → k + u ≡ n → numbers_fit b u xs ≡ list_all (entry_fits b n) (enumerate_from k xs)
fit_from b n zero k xs h e = rest_fits b n k xs (omega (arith, e))
fit_from b n (suc u) k [] h e = absurd (omega arith)
fit_from b n (suc u) k (x ∷ xs) h e =
    let below : ltb k n ≡ true = grind (arith, nat_tests) in rw below (ap (λ y. ltb x b && y) (fit_from b n u (k + 1) xs (omega arith) (omega (arith, e))))

pub fit_all : (b n : ℕ) (xs : List ℕ) → n ≤ length xs → numbers_fit b n xs ≡ list_all (entry_fits b n) (enumerate_from 0 xs)
fit_all b n xs h = fit_from b n n 0 xs h (omega arith)

-- a number in use is missing
pub fit_missing : (b n : ℕ) (xs : List ℕ) → length xs < n → numbers_fit b n xs ≡ false
fit_missing b zero xs h = absurd (omega arith)
fit_missing b (suc n) [] h = refl
fit_missing b (suc n) (x ∷ xs) h = and_right (ltb x b) _ (fit_missing b n xs (omega arith))
