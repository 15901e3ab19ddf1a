use Rattle.std.proofs.Common.{◌≡◌, ℕ, ◌+◌, get_or, [], Bool, true, false, cond, List, Some, sym, ap, ◌∙◌, add-one, rules}
use Rattle.std.proofs.lemmas.List.{get_or_default}
use Rattle.rows.specs.declared.types.TypeRow.{TypeRow}
use Rattle.rows.specs.declared.types.TypeKind.TheVariants.{Level}
use Rattle.rows.specs.Types.{plain, same_type, type_at, equal_row}
use Rattle.rows.proofs.types.TypeRow.last_in.Goals as goal
use Rattle.rows.proofs.types.TypeRow.last_in.Goals.{then-eq, else-eq}

-- one more row
next_row : (ts : List TypeRow) (t : TypeRow) (i : ℕ) (b : Bool) → same_type (type_at ts i) t ≡ b → equal_row ts t (i + 1) ≡ cond b (Some i) (equal_row ts t i)
next_row ts t i b e = ap (equal_row ts t) (add-one i) ∙ ap (λ b. cond b (Some i) (equal_row ts t i)) e

pub loop-i-preserved : goal.loop-i-preserved
loop-i-preserved c =
    let near : c.eq.result ≡ same_type (get_or c.args.table.now c.loop-i.i (record { kind = Level; level = 0; count = 0; payload = [] })) c.args.self.now = search rules in
    let same : c.eq.result ≡ same_type (type_at c.args.table.now c.loop-i.i) c.args.self.now = near ∙ ap (λ t. same_type t c.args.self.now) (get_or_default c.args.table.now c.loop-i.i _ (plain 0) c.loop-i-test.true) in
    elim c.if-eq.branch [ then-eq w ↦ w.found-is ∙ sym (next_row c.args.table.now c.args.self.now c.loop-i.i true (sym same ∙ w.if-eq.true)) | else-eq w ↦ w.found-is ∙ c.loop-i.invariant ∙ sym (next_row c.args.table.now c.args.self.now c.loop-i.i false (sym same ∙ w.if-eq.false)) ]
