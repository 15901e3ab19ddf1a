use Rattle.std.proofs.Common.{◌≡◌, rules, ap, ◌∙◌}
use Rattle.scanning.specs.Names.{slot_of}
use Rattle.scanning.proofs.Slots.{slot_is}
use Rattle.scanning.proofs.scope.Scope.slot_of.Goals as goal

pub returns : goal.returns
returns c =
    let same : c.map.result ≡ c.rposition.result = search rules in
    let m = slot_is c.args.text.now c.args.w.now c.in_scope.result.now c.rposition.result (search rules) in
    same ∙ m ∙ ap (λ ns. slot_of c.args.text.now ns c.args.w.now) c.in_scope.ensures.names
