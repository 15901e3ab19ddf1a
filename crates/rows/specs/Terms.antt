-- Terms, as rows.
use Rattle.std.specs.Prelude.{ℕ, []}
use Rattle.rows.specs.declared.term.TermKind.{TermKind}
use Rattle.rows.specs.declared.term.TermKind.TheVariants.{Slot, Ek, Vk, Senc, Aenc, Sign}
use Rattle.rows.specs.declared.term.TermRow.{TermRow}

abbrev pub term_kind_number : TermKind → ℕ
term_kind_number Slot = 0
term_kind_number Ek = 1
term_kind_number Vk = 2
term_kind_number Senc = 3
term_kind_number Aenc = 4
term_kind_number Sign = 5

-- what stands past the end of a table of term rows
abbrev pub no_term : TermRow
no_term = record { kind = Slot; slot = 0; count = 0; parts = []; key = 0 }
