use Rattle.std.proofs.Common.{◌≡◌, drop}
use Rattle.shape.specs.Terms.{terms_shape}
use Rattle.shape.proofs.term_shape.terms_in_shape.Given as goal

abbrev pub invariant-loop-p : goal.invariant-loop-p
invariant-loop-p v = terms_shape v.l.terms.now v.l.processes.now ≡ terms_shape v.l.terms.now (drop v.p-index v.l.processes.now)
