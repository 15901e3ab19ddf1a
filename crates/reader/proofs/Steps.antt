-- The two ways through one step of a reading.
use Rattle.std.proofs.Common.{◌≡◌, Ok, Err, refl}
use Rattle.scanning.specs.declared.fault.ListingFault.{ListingFault}
use Rattle.reader.specs.Cursor.{Cursor, Reads, ◌>>=◌}

module _ {A B : Type 0} (m : Reads A) (k : A → Reads B) (s : Cursor) where
  pub then_ok : (a : A) (t : Cursor) → m s ≡ Ok (a, t) → ◌>>=◌ m k s ≡ k a t
  then_ok a t h = rw (h, ◌>>=◌) refl

  pub then_err : (e : ListingFault) → m s ≡ Err e → ◌>>=◌ m k s ≡ Err e
  then_err e h = rw (h, ◌>>=◌) refl
