-- What the verdict means.
use Rattle.std.specs.Prelude.{◌≡◌, Ok}
use Rattle.levels.specs.Meaning.{Meaning, Lawful, SameAnswers}
use Rattle.rows.specs.Tables.{Tables}
use Rattle.shape.specs.First.{Passes}
use Rattle.shape.specs.Whole.{shape}
use Rattle.typing.specs.Rules.{Typed}
use Rattle.checking.specs.declared.refusal.Refusal.{Refusal}
use Rattle.checking.specs.Verdict.{free_names, verdict}

-- the listing is in shape, and the typing rules type row 0 with every free name open
pub record WellTyped (m : Meaning) (T : Tables) : Type 0 where
  pub in_shape : shape m T ≡ Ok tt
  pub typed : Typed m T (free_names T) 0

-- a verdict accepts exactly the well-typed listings
pub record Decides (m : Meaning) (T : Tables) (v : Passes Refusal) : Type 0 where
  pub sound : v ≡ Ok tt → WellTyped m T
  pub complete : WellTyped m T → v ≡ Ok tt

-- any scheme with the same four answers gives the same verdict
abbrev pub ByAnswers : Meaning → Tables → Passes Refusal → Type 0
ByAnswers m T v = (n : Meaning) → Lawful n → SameAnswers m n → v ≡ verdict n T
