use Rattle.std.proofs.Common.{sym, ◌∙◌, subst}
use Rattle.reader.specs.Cursor.{state, Gives}
use Rattle.reader.specs.Types.{share, shared}
use Rattle.reader.proofs.Placed.{type_added}
use Rattle.reader.proofs.tables.Reader.share.Goals as goal

pub returns-in-None-clause-gives : goal.returns-in-None-clause-gives
unfolding share
returns-in-None-clause-gives c =
    let s = state c.args.self.now in
    subst (λ o. Gives (shared o c.args.t c.args.place s) c.append.result (record s { types = c.append.new.rows; typed = c.append.new.used })) (sym (sym c.row_like.ensures ∙ c.in-None.is))
    (type_added c.args.t c.args.place s c.append.result c.append.new.rows c.append.new.used c.append.ensures)
