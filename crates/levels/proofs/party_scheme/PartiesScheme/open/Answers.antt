use Rattle.std.proofs.Common.{rules}
use Rattle.levels.proofs.PartyCode.{open_code}
use Rattle.levels.proofs.party_scheme.PartiesScheme.open.Goals as goal

pub returns : goal.returns
returns c = search (rules, open_code)
