use Rattle.std.proofs.Common.{rules}
use Rattle.levels.specs.Means.{means}
use Rattle.checker.proofs.Never.{never_text}
use Rattle.checker.proofs.text.check_text.Goals as goal

pub returns-in-Err-clause-never_20_or_23 : goal.returns-in-Err-clause-never_20_or_23
returns-in-Err-clause-never_20_or_23 g c = never_text (means g.S.Scheme c.args.s.now) c.args.text.now _ (search rules)
