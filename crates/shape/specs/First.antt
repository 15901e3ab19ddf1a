-- The first fault of several tests.
use Rattle.std.specs.Prelude.{ℕ, zero, suc, ◌+◌, ◌<◌, Bool, true, false, cond, Ok, Err, Result, IfOk, IfErr}

-- passed, or a fault
abbrev pub Passes : Type 0 → Type 0
Passes E = Result (Unit {0}) E

abbrev pub first_of : {E : Type 0} → Passes E → Passes E → Passes E
first_of (Ok u) v = v
first_of (Err e) v = Err e

-- of the n rows from i on, the first that fails the test p
abbrev pub first_bad : {E : Type 0} → (ℕ → Bool) → (ℕ → E) → ℕ → ℕ → Passes E
first_bad p fault i zero = Ok tt
first_bad p fault i (suc n) = cond (p i) (first_bad p fault (i + 1) n) (Err (fault i))

-- a test says yes of each of the n rows, or the lowest of which it says no is the error
pub record MatchFirst (Says : ℕ → Bool → Type 0) (n : ℕ) (r : Passes ℕ) : Type 0 where
  pub passed : IfOk r (λ _. (i : ℕ) → i < n → Says i true)
  pub failed : IfErr r (λ k. (k < n) × Says k false × ((i : ℕ) → i < k → Says i true))
