use Rattle.std.proofs.Common.{◌≡◌, ap, ◌∙◌}
use Rattle.std.proofs.lemmas.Result.{err_from_is_err_and}
use Rattle.levels.specs.Means.{means}
use Rattle.levels.proofs.Laws.{lawful}
use Rattle.rows.specs.Tables.{tables}
use Rattle.checking.specs.Verdict.{rules, then_rules, verdict}
use Rattle.checking.proofs.Agrees.{decides}
use Rattle.checking.proofs.SameAnswers.{by_answers}
use Rattle.checking.proofs.verdict.check.Goals as goal

pub returns-in_err-in_shape-clause-by_answers : goal.returns-in_err-in_shape-clause-by_answers
returns-in_err-in_shape-clause-by_answers g c =
    let m = means g.S.Scheme c.args.s.now in
    let T = tables c.args.l in
    let p = err_from_is_err_and c.from_residual.result c.from_residual.ensures.1 in
    by_answers m (lawful g.met.S.Scheme c.args.s.now) T c.from_residual.result (rw (p.1, p.2) (ap (λ x. then_rules x (rules m T)) c.in_err-in_shape.ensures.says))

pub returns : goal.returns
returns g c =
    let m = means g.S.Scheme c.args.s.now in
    let T = tables c.args.l in
    let e : c.walk.result ≡ verdict m T = c.walk.ensures ∙ ap (λ x. then_rules x (rules m T)) c.in_ok-in_shape.ensures.says in
    record { says = e; decides = decides m T c.walk.result e; by_answers = by_answers m (lawful g.met.S.Scheme c.args.s.now) T c.walk.result e }
