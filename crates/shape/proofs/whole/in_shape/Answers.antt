use Rattle.std.proofs.Common.{◌≡◌, arith}
use Rattle.std.proofs.lemmas.Grind.{common_steps}
use Rattle.levels.specs.Means.{means}
use Rattle.rows.specs.Tables.{tables}
use Rattle.shape.specs.Whole.{shape}
use Rattle.shape.proofs.Rooted.{tree_where}
use Rattle.shape.proofs.whole.in_shape.Goals as goal

pub returns-clause-tree : goal.returns-clause-tree
unfolding shape
returns-clause-tree g c =
    let m = means g.S.Scheme c.args.s.now in
    let T = tables c.args.l in
    let says : c.depth_in_shape.result ≡ shape m T = grind (arith, common_steps) in
    tree_where m T c.depth_in_shape.result says
