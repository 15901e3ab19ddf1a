-- The search of a name's slot from the newest name on.
use Rattle.std.proofs.Common.{◌≡◌, ℕ, zero, suc, ◌<◌, ◌≤◌, true, false, List, length, reverse, Option, Some, None, MatchOption, EachIndex, slice_index_or, refl, sym, ap, subst, ◌∙◌, ⊎_elim, arith}
use Rattle.std.proofs.lemmas.Bool.{cases_lt}
use Rattle.std.proofs.lemmas.List.{take_all}
use Rattle.words.specs.declared.token.Span.{Span}
use Rattle.scanning.specs.Spelling.{spells}
use Rattle.scanning.specs.Names.{newest, no_span, slot_of}
use Rattle.scanning.proofs.Newest.{length_newest, reverse_front}

module _ (text w : List ℕ) (ns : List Span) where
  spelt : ℕ → Type 0
  spelt k = spells text (slice_index_or ns k no_span) w ≡ true

  passed : ℕ → Type 0
  passed k = spells text (slice_index_or ns k no_span) w ≡ false

  nowhere : (n : ℕ) → ((k : ℕ) → k < n → passed k) → slot_of text (newest no_span ns n) w ≡ None
  unfolding passed
  nowhere zero h = refl
  nowhere (suc n) h = let p = h n (omega arith) in let q = nowhere n (λ k l. h k (omega arith)) in rw p q

  newest_at : (n i : ℕ) → i < n → spelt i → ((k : ℕ) → i < k → k < n → passed k) → slot_of text (newest no_span ns n) w ≡ Some i
  unfolding spelt passed
  newest_at zero i l s h = absurd (omega arith)
  newest_at (suc n) i l s h =
      ⊎_elim
      (λ (below : i < n). let p = h n below (omega arith) in let q = newest_at n i below s (λ k a b. h k a (omega arith)) in rw p q)
      (λ (here : n ≤ i). let e : n ≡ i = omega arith in let t = length_newest no_span ns n in let p : spelt n = subst spelt (sym e) s in rw (p, t, e) refl)
      (cases_lt i n)

all_newest : (ns : List Span) → reverse ns ≡ newest no_span ns (length ns)
all_newest ns = ap reverse (sym (take_all (length ns) ns (omega arith))) ∙ reverse_front no_span ns (length ns) (omega arith)

pub slot_is : (text w : List ℕ) (ns : List Span) (r : Option ℕ) → MatchOption r (EachIndex ns (λ k. spells text (slice_index_or ns k no_span) w ≡ false)) (λ i. (i < length ns) × (spells text (slice_index_or ns i no_span) w ≡ true) × ((k : ℕ) → i < k → k < length ns → spells text (slice_index_or ns k no_span) w ≡ false)) → r ≡ slot_of text (reverse ns) w
unfolding spelt passed
slot_is text w ns None h = sym (ap (λ ms. slot_of text ms w) (all_newest ns) ∙ nowhere text w ns (length ns) h)
slot_is text w ns (Some i) h = sym (ap (λ ms. slot_of text ms w) (all_newest ns) ∙ newest_at text w ns (length ns) i h.0 h.1 h.2)
