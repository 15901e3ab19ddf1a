-- Fitting is transitive where the order of the levels is.
use Rattle.std.proofs.Common.{[], sym, subst, inl, inr}
use Rattle.levels.specs.Meaning.{Meaning, Lawful}
use Rattle.rows.specs.declared.types.TypeRow.{TypeRow}
use Rattle.typing.specs.Fits.{Transitive}
use Rattle.typing.specs.Rules.{Fits}
use Rattle.typing.proofs.Relations.{fits_decides}

pub chained : (m : Meaning) → Lawful m → (t u v : TypeRow) → Fits m [] t u → Fits m [] u v → Fits m [] t v
chained m laws t u v (inl e) q = subst (λ (x : TypeRow). Fits m [] x v) (sym e) q
chained m laws t u v (inr p) (inl e) = subst (λ (x : TypeRow). Fits m [] t x) e (inr p)
chained m laws t u v (inr p) (inr q) = inr (q.0, laws.transitive t.level u.level v.level p.1 q.1)

pub fits_transitive : (m : Meaning) → Lawful m → Transitive m
fits_transitive m laws t u v p q = (fits_decides m [] t v).1 (chained m laws t u v ((fits_decides m [] t u).0 p) ((fits_decides m [] u v).0 q))
