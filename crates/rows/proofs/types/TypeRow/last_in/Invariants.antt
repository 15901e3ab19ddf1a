use Rattle.std.proofs.Common.{◌≡◌}
use Rattle.rows.specs.Types.{equal_row}
use Rattle.rows.proofs.types.TypeRow.last_in.Given as goal

abbrev pub invariant-loop-i : goal.invariant-loop-i
invariant-loop-i l = l.found ≡ equal_row l.table l.self l.i
