use Rattle.std.proofs.Common.{◌≡◌, take, rules, ◌∙◌, arith}
use Rattle.std.specs.List.{list_any}
use Rattle.std.proofs.lemmas.Grind.{common_steps}
use Rattle.rows.specs.Types.{same_type}
use Rattle.shape.specs.Types.{repeats}
use Rattle.shape.proofs.TypeRead.{read, read_is}
use Rattle.shape.proofs.Repeated.{repeats_is}
use Rattle.shape.proofs.type_shape.type_fits.Goals as goal

pub returns-then-i-eq0 : goal.returns-then-i-eq0
returns-then-i-eq0 g c =
    let same : c.eq.result ≡ same_type (read c.args.types.now c.args.i) c.plain.result = search rules in
    grind (arith, common_steps, read_is c.args.types.now c.args.i c.requires)

pub returns-then-numbers_fit : goal.returns-then-numbers_fit
returns-then-numbers_fit g c =
    let ts = c.args.types.now in
    let t = read ts c.args.i in
    let found : c.contains.result ≡ list_any (λ u. same_type u t) (take c.args.i ts) = search rules in
    let repeated : c.contains.result ≡ repeats ts t c.args.i = found ∙ repeats_is ts t c.args.i (omega arith) in
    grind (arith, common_steps, read_is ts c.args.i c.requires)
