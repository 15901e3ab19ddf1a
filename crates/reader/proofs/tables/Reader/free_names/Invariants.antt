use Rattle.std.proofs.Common.{◌≡◌, ◌-◌}
use Rattle.scanning.specs.Names.{scoped}
use Rattle.reader.specs.Cursor.{state, Same}
use Rattle.reader.specs.Names.{free_names}
use Rattle.reader.proofs.tables.Reader.free_names.Given as goal

abbrev pub invariant-loop-scope : goal.invariant-loop-scope
invariant-loop-scope l =
    (free_names (32 - l.initial.scope.count) (scoped l.initial.scope) (state l.initial.self) ≡ free_names (32 - l.scope.count) (scoped l.scope) (state l.self))
    × Same l.self l.initial.self

abbrev pub decreases-loop-scope : goal.decreases-loop-scope
decreases-loop-scope l = 32 - l.scope.count
