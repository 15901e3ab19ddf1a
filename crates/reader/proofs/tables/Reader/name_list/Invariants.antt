use Rattle.std.proofs.Common.{◌≡◌, ◌+◌, ◌-◌, ◌≤◌, length}
use Rattle.words.specs.declared.token.Mark.TheVariants.{Close}
use Rattle.reader.specs.Cursor.{state, Same}
use Rattle.reader.specs.Lists.{series}
use Rattle.reader.specs.Names.{also, new_name, fifth_name, name_list}
use Rattle.reader.proofs.tables.Reader.name_list.Given as goal

abbrev pub invariant-loop-names : goal.invariant-loop-names
invariant-loop-names l =
    (l.slots + length l.names.items ≤ 32)
    × (name_list l.slots (state l.initial.self) ≡ series also (λ ns. new_name (l.slots + length ns.items)) (λ ns. fifth_name) Close (4 - length l.names.items) l.names (state l.self))
    × Same l.self l.initial.self

abbrev pub decreases-loop-names : goal.decreases-loop-names
decreases-loop-names l = 5 - length l.names.items
