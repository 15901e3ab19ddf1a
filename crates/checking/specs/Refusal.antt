-- The numbers of refusals, and the rows that they name.
use Rattle.std.specs.Prelude.{ℕ}
use Rattle.shape.specs.Fault.{shape_number, shape_row}
use Rattle.typing.specs.Usage.{misuse_number}
use Rattle.checking.specs.declared.refusal.Refusal.{Refusal}
use Rattle.checking.specs.declared.refusal.Refusal.TheVariants.{Shape, Typing}

abbrev pub refusal_number : Refusal → ℕ
refusal_number (Shape f) = shape_number f
refusal_number (Typing e i) = misuse_number e

abbrev pub refusal_row : Refusal → ℕ
refusal_row (Shape f) = shape_row f
refusal_row (Typing e i) = i
