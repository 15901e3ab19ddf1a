use Rattle.std.proofs.Common.{ap, ◌∙◌}
use lib.Bits.{bit_and, and_mask}
use Rattle.levels.proofs.parties.Parties.writer_mask.Goals as goal

pub returns : goal.returns
returns c = ap (bit_and c.args.a) c.everybody.ensures ∙ and_mask c.args.a c.args.self.now.count
