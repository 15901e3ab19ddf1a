-- What the rules ask after a row, by what the row comes to.
use Rattle.std.proofs.Common.{ℕ, ◌+◌, List, Ok, Err, Result}
use Rattle.levels.specs.Meaning.{Meaning}
use Rattle.rows.specs.Processes.{row, end_of}
use Rattle.rows.specs.Tables.{Tables}
use Rattle.typing.specs.declared.misuse.Misuse.{Misuse}
use Rattle.typing.specs.declared.judging.Judgement.{Judgement}
use Rattle.typing.specs.declared.judging.Judgement.TheVariants.{Done, Binds, Splits, Opens, OpensOnce}
use Rattle.typing.specs.Judging.{zeros}
pub use Rattle.typing.specs.Judging.{reads, extended}
use Rattle.typing.specs.Rules.{Typed}

abbrev pub Premises : Meaning → Tables → List ℕ → ℕ → Result Judgement Misuse → Type 0
Premises m T Γ i (Ok Done) = Unit {0}
Premises m T Γ i (Ok (Binds new)) = Typed m T (extended (row T.processes i) Γ new) (i + 1)
Premises m T Γ i (Ok Splits) = Typed m T Γ (i + 1) × Typed m T Γ (end_of T.processes (i + 1))
Premises m T Γ i (Ok (Opens new)) = Typed m T (extended (row T.processes i) Γ new) (i + 1) × Typed m T (extended (row T.processes i) Γ zeros) (i + 1)
Premises m T Γ i (Ok OpensOnce) = Typed m T (extended (row T.processes i) Γ zeros) (i + 1)
Premises m T Γ i (Err e) = ⊥
