use Rattle.std.proofs.Common.{◌+◌, ◌<◌, length, refl, arith}
use Rattle.scanning.specs.Names.{no_span}
use Rattle.scanning.proofs.Newest.{newest_set, newest_more}
use Rattle.reader.proofs.names.bind.Goals as goal

pub returns : goal.returns
returns c =
    let l : c.args.scope.now.count < length c.args.scope.now.names = omega arith in
    record {
      bound = λ i. record { count = c.args.scope.now.count + 1; names = newest_more no_span c.args.scope.now.names c.args.scope.now.count c.args.name l i };
      count = refl;
      older = λ k h. newest_set no_span c.args.scope.now.names k c.args.scope.now.count c.args.name h;
    }
