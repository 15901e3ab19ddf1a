use Rattle.std.proofs.Common.{◌≡◌, ◌+◌, ◌-◌, ◌*◌, ◌≤◌}
use Rattle.scanning.specs.Names.{scoped}
use Rattle.reader.specs.Cursor.{state, Same}
use Rattle.reader.specs.Terms.{term, list, terms_by}
use Rattle.reader.proofs.tables.Reader.+list_term.Given as goal

abbrev pub decreases-list : goal.decreases-list
decreases-list l = 2 * l.allow + 1

abbrev pub decreases-term : goal.decreases-term
decreases-term l = 2 * l.allow

-- what is left to read gives what the whole gives
abbrev pub invariant-list-loop-parts : goal.invariant-list-loop-parts
invariant-list-loop-parts l =
    (l.parts.count ≤ 4)
    × (list l.allow (scoped l.scope).names l.stop (state l.initial.self) ≡ terms_by (scoped l.scope).names l.stop (term l.allow (scoped l.scope).names) (4 - l.parts.count) l.parts (state l.self))
    × Same l.self l.initial.self

abbrev pub decreases-list-loop-parts : goal.decreases-list-loop-parts
decreases-list-loop-parts l = 4 - l.parts.count
