use Rattle.std.proofs.Common.{◌≡◌, ◌-◌, length}
use Rattle.reader.specs.Cursor.{state, Lent}
use Rattle.reader.specs.Types.{declarations}
use Rattle.reader.proofs.tables.Reader.declarations.Given as goal

abbrev pub invariant-loop-first : goal.invariant-loop-first
invariant-loop-first l =
    (declarations (2184 - length l.initial.self.words.items) (state l.initial.self) ≡ declarations (2184 - length l.self.words.items) (state l.self))
    × Lent l.self l.initial.self

abbrev pub decreases-loop-first : goal.decreases-loop-first
decreases-loop-first l = 2185 - length l.self.words.items
