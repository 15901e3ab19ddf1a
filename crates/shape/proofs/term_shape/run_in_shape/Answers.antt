use Rattle.std.proofs.Common.{sym, ap, ◌∙◌, rules}
use Rattle.shape.specs.Terms.{run_shape}
use Rattle.shape.proofs.FirstBad.{first_is}
use Rattle.shape.proofs.RunRest.{run_is}
use Rattle.shape.proofs.term_shape.run_in_shape.Goals as goal

pub returns : goal.returns
returns c =
    first_is _ _ c.all_fit.ensures c.map_err.ensures.cases (λ i b h. search rules) (λ k e h. search rules)
    ∙ sym (run_is c.args.p.slots c.args.p.first c.run-run.result.now)
    ∙ ap (run_shape c.args.p.slots c.args.p.first 0) c.run-run.ensures
