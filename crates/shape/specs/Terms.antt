-- The shape of term rows.
use Rattle.std.specs.Prelude.{ℕ, ◌+◌, Bool, cond, ◌&&◌, List, [], ◌∷◌, Ok, Err, ◌==◌, nat_lt}
use Rattle.rows.specs.declared.term.TermKind.{TermKind}
use Rattle.rows.specs.declared.term.TermKind.TheVariants.{Slot, Ek, Vk, Senc, Aenc, Sign}
use Rattle.rows.specs.declared.term.TermRow.{TermRow}
use Rattle.rows.specs.declared.process.ProcessRow.{ProcessRow}
use Rattle.rows.specs.Processes.{run_of}
use Rattle.shape.specs.declared.fault.ShapeFault.{ShapeFault}
use Rattle.shape.specs.declared.fault.ShapeFault.TheVariants.{Terms}
use Rattle.shape.specs.Numbers.{numbers_fit, one_to_four}
use Rattle.shape.specs.First.{Passes, first_of}

-- a part or a key of the row at place j of its run is an earlier row of the run
abbrev pub part_ok : ℕ → ℕ → Bool
part_ok j x = nat_lt x j && nat_lt x 2048

abbrev pub parts_ok : ℕ → TermRow → Bool
parts_ok j t = one_to_four t.count && (numbers_fit j t.count t.parts && numbers_fit 2048 t.count t.parts)

-- an encryption or a signature: 1 to 4 parts and a key
abbrev pub made_ok : ℕ → TermRow → Bool
made_ok j t = t.slot == 0 && (part_ok j t.key && parts_ok j t)

-- a derived key: a key only
abbrev pub derived_ok : ℕ → TermRow → Bool
derived_ok j t = t.slot == 0 && (t.count == 0 && (part_ok j t.key && numbers_fit 0 0 t.parts))

-- the row at place j of its run is in shape, with s slots in scope
abbrev pub term_ok : ℕ → ℕ → TermRow → TermKind → Bool
term_ok s j t Slot = nat_lt t.slot s && (t.count == 0 && (t.key == 0 && numbers_fit 0 0 t.parts))
term_ok s j t Ek = derived_ok j t
term_ok s j t Vk = derived_ok j t
term_ok s j t Senc = made_ok j t
term_ok s j t Aenc = made_ok j t
term_ok s j t Sign = made_ok j t

-- the rest of a run, from its place j on; the run begins at the row f of the table
abbrev pub run_shape : ℕ → ℕ → ℕ → List TermRow → Passes ShapeFault
run_shape s f j [] = Ok tt
run_shape s f j (t ∷ run) = cond (term_ok s j t t.kind) (run_shape s f (j + 1) run) (Err (Terms (f + j)))

-- run by run; runs lie in the order of the process rows
abbrev pub terms_shape : List TermRow → List ProcessRow → Passes ShapeFault
terms_shape us [] = Ok tt
terms_shape us (p ∷ ps) = first_of (run_shape p.slots p.first 0 (run_of us p)) (terms_shape us ps)
