use Rattle.std.proofs.Common.{rules}
use Rattle.shape.proofs.FirstBad.{first_is}
use Rattle.shape.proofs.type_shape.types_in_shape.Goals as goal

pub returns : goal.returns
returns g c = first_is _ _ c.all_fit.ensures c.map_err.ensures.cases (λ i b h. search rules) (λ k e h. search rules)
