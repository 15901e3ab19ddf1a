use Rattle.std.proofs.Common.{length}
use Rattle.levels.specs.Means.{means}
use Rattle.rows.specs.Tables.{tables}
use Rattle.checking.specs.Verdict.{rules}
use Rattle.checking.proofs.Entries.{held}
use Rattle.checking.proofs.Turn.{Turn}
use Rattle.checking.proofs.Weight.{weight}
use Rattle.checking.proofs.verdict.walk.Given as goal

abbrev pub invariant-turn : goal.invariant-turn
invariant-turn g l =
    let m = means g.S.Scheme l.s in
    Turn m (tables l.l) l.env l.i l.top l.stack l.due (rules m (tables l.l))

abbrev pub decreases-turn : goal.decreases-turn
decreases-turn g l = weight (length (tables l.l).processes) l.i (held l.top l.stack l.due)
