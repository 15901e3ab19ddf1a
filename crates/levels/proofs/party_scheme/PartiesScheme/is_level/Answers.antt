use Rattle.std.proofs.Common.{arith}
use Rattle.levels.proofs.PartyCode.{in_range}
use Rattle.levels.proofs.party_scheme.PartiesScheme.is_level.Goals as goal

pub returns : goal.returns
returns c = grind (arith, in_range)
