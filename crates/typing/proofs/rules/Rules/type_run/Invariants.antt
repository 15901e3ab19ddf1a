use Rattle.std.proofs.Common.{◌≡◌, [], length, take, drop}
use Rattle.levels.specs.Means.{means}
use Rattle.typing.specs.Terms.{types_of_run, types_before}
use Rattle.typing.proofs.rules.Rules.type_run.Given as goal

abbrev pub invariant-loop-k : goal.invariant-loop-k
invariant-loop-k g l =
    let m = means g.S.Scheme l.self.scheme.now in
    let ts = l.self.types.now in
    record {
      long : length l.seen ≡ length l.initial.seen;
      says : types_of_run m ts l.env l.fitting [] ≡ types_of_run m ts l.env (drop l.k l.fitting) (take l.k l.seen);
      wrote : types_before m ts l.env l.fitting [] ≡ types_before m ts l.env (drop l.k l.fitting) (take l.k l.seen);
      rest : drop l.k l.seen ≡ drop l.k l.initial.seen;
    }
