-- The first elements of a list, the last of them first.
use Rattle.std.proofs.Common.{◌≡◌, ℕ, zero, suc, ◌+◌, ◌<◌, ◌≤◌, ◌≢◌, List, [], ◌∷◌, length, take, reverse, slice_index_or, set, refl, ap, ◌∙◌, add-one, arith}
use Rattle.std.proofs.lemmas.List.{get_or-set_same, get_or-set_other, reverse-append}
use Rattle.std.proofs.Math.Seq.{take-suc}
use Rattle.scanning.specs.Names.{newest}

module _ {X : Type 0} (none : X) where
  pub length_newest : (xs : List X) (n : ℕ) → length (newest none xs n) ≡ n
  length_newest xs zero = refl
  length_newest xs (suc n) = ap suc (length_newest xs n)

  -- a write at or past n leaves the first n
  pub newest_set : (xs : List X) (n i : ℕ) (v : X) → n ≤ i → newest none (set xs i v) n ≡ newest none xs n
  newest_set xs zero i v h = refl
  newest_set xs (suc n) i v h =
      let ne : n ≢ i = omega arith in
      let a = get_or-set_other xs i n v none ne in
      let b = newest_set xs n i v (omega arith) in
      cc

  pub newest_more : (xs : List X) (n : ℕ) (v : X) → n < length xs → newest none (set xs n v) (n + 1) ≡ v ∷ newest none xs n
  newest_more xs n v h =
      let a = get_or-set_same xs n v none h in
      let b = newest_set xs n n v (omega arith) in
      ap (newest none (set xs n v)) (add-one n) ∙ cc

  pub reverse_front : (xs : List X) (n : ℕ) → n ≤ length xs → reverse (take n xs) ≡ newest none xs n
  reverse_front xs zero h = refl
  reverse_front xs (suc n) h =
      let e = take-suc xs n none (omega arith) in
      let r = reverse_front xs n (omega arith) in
      ap reverse e ∙ reverse-append (take n xs) (slice_index_or xs n none ∷ []) ∙ ap (λ ys. slice_index_or xs n none ∷ ys) r
