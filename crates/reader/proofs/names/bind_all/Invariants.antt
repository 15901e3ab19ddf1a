use Rattle.std.proofs.Common.{◌≡◌, ◌+◌, ◌++◌, take, reverse}
use Rattle.scanning.specs.Names.{scoped}
use Rattle.reader.specs.Names.{Older}
use Rattle.reader.proofs.names.bind_all.Given as goal

abbrev pub invariant-loop-name : goal.invariant-loop-name
invariant-loop-name l =
    (l.scope.count ≡ l.initial.scope.count + l.name-index)
    × ((scoped l.scope).names ≡ reverse (take l.name-index l.names) ++ (scoped l.initial.scope).names)
    × Older l.scope l.initial.scope
