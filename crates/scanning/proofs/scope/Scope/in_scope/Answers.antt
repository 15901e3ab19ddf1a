use Rattle.std.proofs.Common.{arith}
use Rattle.scanning.specs.Names.{no_span}
use Rattle.scanning.proofs.Newest.{reverse_front}
use Rattle.scanning.proofs.scope.Scope.in_scope.Goals as goal

pub returns-clause-names : goal.returns-clause-names
returns-clause-names c = let e = c.from.ensures in rw e (reverse_front no_span c.args.self.now.names c.args.self.now.count (omega arith))
