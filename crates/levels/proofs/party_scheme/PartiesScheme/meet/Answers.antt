use Rattle.std.proofs.Common.{sym}
use Rattle.levels.proofs.PartyCode.{meet_code}
use Rattle.levels.proofs.party_scheme.PartiesScheme.meet.Goals as goal

pub returns-then-is_level-2 : goal.returns-then-is_level-2
returns-then-is_level-2 c =
    rw (c.reader_mask.ensures, c.reader_mask-then-is_level-2.ensures, c.writer_mask.ensures, c.writer_mask-then-is_level-2.ensures)
    (meet_code c.args.self.now.count c.args.a c.args.b c.args.self.now.few
    (sym c.if-is_level.ensures) (sym c.if-is_level-2.ensures))
