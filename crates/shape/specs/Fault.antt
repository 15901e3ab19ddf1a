-- The numbers of the faults of shape, and the rows that they name.
use Rattle.std.specs.Prelude.{ℕ}
use Rattle.shape.specs.declared.fault.ShapeFault.{ShapeFault}
use Rattle.shape.specs.declared.fault.ShapeFault.TheVariants.{Size, Types, Processes, Terms, Depth}

abbrev pub shape_number : ShapeFault → ℕ
shape_number Size = 20
shape_number (Types i) = 21
shape_number (Processes i) = 22
shape_number (Terms i) = 23
shape_number (Depth i) = 24

abbrev pub shape_row : ShapeFault → ℕ
shape_row Size = 0
shape_row (Types i) = i
shape_row (Processes i) = i
shape_row (Terms i) = i
shape_row (Depth i) = i
