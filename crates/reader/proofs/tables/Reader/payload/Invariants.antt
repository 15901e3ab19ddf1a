use Rattle.std.proofs.Common.{◌≡◌, ◌-◌, ◌≤◌}
use Rattle.words.specs.declared.token.Mark.TheVariants.{Close}
use Rattle.reader.specs.Cursor.{state, Same}
use Rattle.reader.specs.Lists.{series, added}
use Rattle.reader.specs.Types.{payload, payload_type, fifth_type}
use Rattle.reader.proofs.tables.Reader.payload.Given as goal

abbrev pub invariant-loop-parts : goal.invariant-loop-parts
invariant-loop-parts l =
    (l.parts.count ≤ 4)
    × (payload (state l.initial.self) ≡ series added (λ ps. payload_type) (λ ps. fifth_type) Close (4 - l.parts.count) l.parts (state l.self))
    × Same l.self l.initial.self

abbrev pub decreases-loop-parts : goal.decreases-loop-parts
decreases-loop-parts l = 4 - l.parts.count
