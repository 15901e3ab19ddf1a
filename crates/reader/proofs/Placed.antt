-- Rows in the lent tables.
use Rattle.std.proofs.Common.{◌≡◌, ℕ, zero, suc, ◌<◌, ◌≤◌, Bool, true, false, cond, List, length, take, Some, Ok, Err, Result, sym, refl, ap, ◌∙◌, arith}
use Rattle.std.proofs.lemmas.Bool.{cond-true, cond-false, and_from, lt-ltb}
use Rattle.std.proofs.lemmas.List.{get_or-take, length-take-le}
use Rattle.rows.specs.declared.types.TypeRow.{TypeRow}
use Rattle.rows.specs.Types.{same_type, type_at, plain, equal_row}
use Rattle.scanning.specs.declared.fault.ListingFault.{ListingFault}
use Rattle.reader.specs.Cursor.{Cursor, Gives, with_types}
use Rattle.reader.specs.Appended.{Appended}
use Rattle.reader.specs.Types.{add_type}

-- one more type
pub type_added : (t : TypeRow) (place : ℕ) (s : Cursor) (r : Result ℕ ListingFault) (rows : List TypeRow) (used : ℕ) → Appended 64 t place s.types s.typed r rows used → Gives (add_type t place s) r (with_types s rows used)
unfolding add_type
type_added t place s (Ok n) rows used (a, b, d, e, f) = cond-true _ _ _ (and_from _ _ (lt-ltb s.typed 64 b) (lt-ltb s.typed (length s.types) d)) ∙ cc
type_added t place s (Err e) rows used (a, b, d, f) = cond-false _ _ _ b ∙ ap Err (sym a)

-- the row of an equal type: among the rows in use it is the same as in the whole table
among : (n : ℕ) (ts : List TypeRow) (t : TypeRow) (k : ℕ) → k ≤ n → equal_row (take n ts) t k ≡ equal_row ts t k
among n ts t zero h = refl
among n ts t (suc k) h =
    let a = get_or-take n ts k (plain 0) (omega arith) in
    let b = among n ts t k (omega arith) in
    cc

pub in_use : (n : ℕ) (ts : List TypeRow) (t : TypeRow) → n ≤ length ts → equal_row (take n ts) t (length (take n ts)) ≡ equal_row ts t n
in_use n ts t h = ap (equal_row (take n ts) t) (length-take-le n ts h) ∙ among n ts t n (omega arith)

pub below : (ts : List TypeRow) (t : TypeRow) (n i : ℕ) → equal_row ts t n ≡ Some i → i < n
below ts t zero i h = let z : ◌≡◌ {A = ℕ} 0 1 = cc in absurd (omega arith)
below ts t (suc k) i h = on (same_type (type_at ts k) t) (below ts t k i) h where
  on : (b : Bool) → (equal_row ts t k ≡ Some i → i < k) → cond b (Some k) (equal_row ts t k) ≡ Some i → i < suc k
  on true f q = let e : k ≡ i = cc in omega arith
  on false f q = let l = f q in omega arith
