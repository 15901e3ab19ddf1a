use Rattle.std.proofs.Common.{true, false, rules}
use Rattle.std.proofs.lemmas.Iterator.{serves_from_Range, first_from_Range}
use Rattle.shape.proofs.FirstBad.{first_found}
use Rattle.shape.proofs.first.all_fit.Goals as goal

pub find-requires-clause-callable : goal.find-requires-clause-callable
find-requires-clause-callable g c = serves_from_Range (λ x q k. search rules) (λ x a b. search rules)

pub returns : goal.returns
returns g c =
    let post = goal.F-post g c.args.fits in
    let found = first_from_Range _ _ _ c.find.result (λ i. post i false) (λ i. post i true) c.find.ensures.ran (λ x q k. search rules) (λ x q k. search rules) in
    first_found c.find.result found (search rules)
