use Rattle.std.proofs.Common.{◌≡◌, Some, sym, ◌∙◌, arith, rules}
use Rattle.rows.specs.Types.{equal_row}
use Rattle.reader.proofs.Placed.{in_use, below}
use Rattle.reader.proofs.tables.Reader.row_like.Goals as goal

pub returns-in_err-row : goal.returns-in_err-row
returns-in_err-row c =
    let e = c.last_in.ensures ∙ in_use c.args.self.now.typed c.args.self.now.types.now c.args.t (omega arith) in
    search (rules, e)

pub returns : goal.returns
returns c = c.in_ok-row.ensures ∙ in_use c.args.self.now.typed c.args.self.now.types.now c.args.t (omega arith)

pub overflow_cast-result : goal.overflow_cast-result
overflow_cast-result c =
    let e : Some c.in_ok-row.row ≡ equal_row c.args.self.now.types.now c.args.t c.args.self.now.typed = c.in_ok-row.ensures ∙ in_use c.args.self.now.typed c.args.self.now.types.now c.args.t (omega arith) in
    let l = below c.args.self.now.types.now c.args.t c.args.self.now.typed c.in_ok-row.row (sym e) in
    omega arith
