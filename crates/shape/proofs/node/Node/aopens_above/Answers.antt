use Rattle.std.proofs.Common.{◌≡◌, count_by, take, sym, ◌∙◌, rules}
use Rattle.shape.proofs.Counting.{is_around, enclosing_is}
use Rattle.shape.proofs.node.Node.aopens_above.Goals as goal

pub returns : goal.returns
returns c =
    let ps = c.args.self.now.listing.processes.now in
    let i = c.args.self.now.i in
    let counted : c.count.result ≡ count_by (is_around i) (take i ps) = search rules in
    counted ∙ sym (enclosing_is ps i (search rules))
