use Rattle.levels.proofs.Laws.{lawful}
use Rattle.typing.proofs.Chain.{fits_transitive}
use Rattle.typing.proofs.fitting.fits.Goals as goal

-- Kept: one call of one lemma for each exit. Each exit is a goal of its own, and a lemma named on the function itself
-- does not reach the laws of the scheme.
pub returns-then-eq-clause-transitive : goal.returns-then-eq-clause-transitive
returns-then-eq-clause-transitive g c = fits_transitive _ (lawful g.met.S.Scheme c.args.s.now)

pub returns-then-eq-2-clause-transitive : goal.returns-then-eq-2-clause-transitive
returns-then-eq-2-clause-transitive g c = fits_transitive _ (lawful g.met.S.Scheme c.args.s.now)

pub returns-else-eq-2-clause-transitive : goal.returns-else-eq-2-clause-transitive
returns-else-eq-2-clause-transitive g c = fits_transitive _ (lawful g.met.S.Scheme c.args.s.now)
