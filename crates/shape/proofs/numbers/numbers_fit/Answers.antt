use Rattle.std.proofs.Common.{◌∙◌, sym, rules, arith, tests}
use Rattle.std.proofs.lemmas.Iterator.{YieldsList-from_slice}
use Rattle.std.proofs.lemmas.Iterator.Consumers.{YieldsList-from_enumerate}
use Rattle.std.proofs.lemmas.Iterator.Search.{all_from_yields_List}
use Rattle.shape.proofs.FitRest.{entry_fits, fit_all}
use Rattle.shape.proofs.numbers.numbers_fit.Goals as goal

pub returns-then-used-numbers : goal.returns-then-used-numbers
returns-then-used-numbers c =
    all_from_yields_List (entry_fits c.args.bound c.args.used) _ _ _ c.all.ensures.ran
    (YieldsList-from_enumerate (YieldsList-from_slice c.args.numbers.now cc) cc) (λ x b q k. search (rules, tests))
    ∙ sym (fit_all c.args.bound c.args.used c.args.numbers.now (omega (arith, c.if-used-numbers.true)))
