-- One turn of a list of items.
use Rattle.std.proofs.Common.{◌≡◌, ℕ, suc, ◌-◌, ◌<◌, Bool, true, false, cond, Ok, Err, Result, ap, ◌∙◌, arith}
use Rattle.words.specs.declared.token.Mark.{Mark}
use Rattle.scanning.specs.declared.fault.ListingFault.{ListingFault}
use Rattle.reader.specs.Cursor.{Cursor, Reads, ◌>>=◌, done}
use Rattle.reader.specs.Tokens.{comma}
use Rattle.reader.specs.Lists.{series, series_step}
use Rattle.reader.proofs.Steps.{then_ok, then_err}

module _ {A L : Type 0} (add : L → A → L) (item : L → Reads A) (over : L → Reads L) (stop : Mark) where
  series_at : (room : ℕ) (xs : L) → 0 < room → series add item over stop room xs ≡ series_step add (item xs) stop xs (series add item over stop (room - 1))
  unfolding series
  series_at room xs h = let e : room ≡ suc (room - 1) = omega arith in ap (λ k. series add item over stop k xs) e

  -- no room is left
  pub one_too_many : (room : ℕ) (xs : L) (s : Cursor) → room ≡ 0 → series add item over stop room xs s ≡ over xs s
  unfolding series
  one_too_many room xs s e = ap (λ k. series add item over stop k xs s) e

  module _ (room : ℕ) (xs : L) (some : 0 < room) (whole : Result (L × Cursor) ListingFault) (s : Cursor) (inv : whole ≡ series add item over stop room xs s) where
    ended : A → Bool → Reads L
    ended x more = cond more (series add item over stop (room - 1) (add xs x)) (done (add xs x))

    after_item : A → Reads L
    after_item x = ◌>>=◌ (comma stop) (ended x)

    turned : whole ≡ ◌>>=◌ (item xs) after_item s
    unfolding after_item ended
    turned = inv ∙ ap (λ m. m s) (series_at room xs some)

    pub item_fails : (e : ListingFault) → item xs s ≡ Err e → whole ≡ Err e
    item_fails e h = turned ∙ then_err (item xs) after_item s e h

    module _ (x : A) (a : Cursor) (ok : item xs s ≡ Ok (x, a)) where
      pub comma_fails : (e : ListingFault) → comma stop a ≡ Err e → whole ≡ Err e
      unfolding after_item
      comma_fails e h = turned ∙ then_ok (item xs) after_item s x a ok ∙ then_err (comma stop) (ended x) a e h

      pub list_ends : (b : Cursor) → comma stop a ≡ Ok (false, b) → whole ≡ Ok (add xs x, b)
      unfolding after_item ended
      list_ends b h = turned ∙ then_ok (item xs) after_item s x a ok ∙ then_ok (comma stop) (ended x) a false b h

      pub goes_on : (b : Cursor) → comma stop a ≡ Ok (true, b) → whole ≡ series add item over stop (room - 1) (add xs x) b
      unfolding after_item ended
      goes_on b h = turned ∙ then_ok (item xs) after_item s x a ok ∙ then_ok (comma stop) (ended x) a true b h
