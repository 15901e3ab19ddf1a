-- The answer that is reported.
use Rattle.std.specs.Prelude.{ℕ, Ok, Err, Result}
use Rattle.shape.specs.declared.fault.ShapeFault.{ShapeFault}
use Rattle.shape.specs.declared.fault.ShapeFault.TheVariants.{Size, Types, Processes, Terms, Depth}
use Rattle.scanning.specs.Faults.{listing_number, listing_place}
use Rattle.checking.specs.declared.refusal.Refusal.{Refusal}
use Rattle.checking.specs.declared.refusal.Refusal.TheVariants.{Shape, Typing}
use Rattle.typing.specs.Usage.{misuse_number}
use Rattle.answers.specs.declared.answer.Answer.{Answer}
use Rattle.answers.specs.declared.answer.Answer.TheVariants.{Accepted, Row, Types as TypeRefused, Text}
use Rattle.checker.specs.declared.fault.CheckFault.{CheckFault}
use Rattle.checker.specs.declared.fault.CheckFault.TheVariants.{Listing as NoListing, Refused}

-- a type is named by its row, and any other row with its place
abbrev pub of_shape : ShapeFault → ℕ → Answer
of_shape Size place = Row 20 0 place
of_shape (Types i) place = TypeRefused 21 i
of_shape (Processes i) place = Row 22 i place
of_shape (Terms i) place = Row 23 i place
of_shape (Depth i) place = Row 24 i place

abbrev pub of_refusal : Refusal → ℕ → Answer
of_refusal (Shape f) place = of_shape f place
of_refusal (Typing e i) place = Row (misuse_number e) i place

abbrev pub of_fault : CheckFault → Answer
of_fault (NoListing f) = Text (listing_number f) (listing_place f)
of_fault (Refused r place) = of_refusal r place

abbrev pub answer : Result ℕ CheckFault → Answer
answer (Ok rows) = Accepted rows
answer (Err f) = of_fault f
