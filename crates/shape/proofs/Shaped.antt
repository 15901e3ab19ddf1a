-- What the shape test gives of the process rows, in the form that a walk over them uses.
use Rattle.std.proofs.Common.{◌≡◌, ℕ, zero, suc, ◌+◌, ◌<◌, ◌≤◌, cond, List, length}
use Rattle.rows.specs.declared.process.ProcessKind.{ProcessKind}
use Rattle.rows.specs.declared.process.ProcessKind.TheVariants.{Aopen}
use Rattle.rows.specs.declared.process.ProcessRow.{ProcessRow}
use Rattle.rows.specs.Processes.{row, end_of, slots_of, adds}
use Rattle.shape.specs.Depth.{is_aopen, enclosing}
use Rattle.shape.specs.Tree.{children}

-- 1 for an aopen
abbrev pub opens : ProcessKind → ℕ
opens k = cond (is_aopen k) 1 0

-- j is a child of i
pub record Below (ps : List ProcessRow) (i j : ℕ) : Type 0 where
  pub inside : j < length ps
  pub slots_are : slots_of ps j ≡ slots_of ps i + adds (row ps i)
  pub depth_is : enclosing ps j ≡ enclosing ps i + opens (row ps i).kind

-- the next row is the only child of i, and ends where i ends
pub record OneChild (C : ℕ → ℕ → Type 0) (ps : List ProcessRow) (i : ℕ) : Type 0 where
  pub child : C i (i + 1)
  pub ends : end_of ps (i + 1) ≡ end_of ps i

-- the second child of i stands at the first one's end, and ends where i ends
pub record TwoChildren (C : ℕ → ℕ → Type 0) (ps : List ProcessRow) (i : ℕ) : Type 0 where
  pub left : C i (i + 1)
  pub right : C i (end_of ps (i + 1))
  pub ends : end_of ps (end_of ps (i + 1)) ≡ end_of ps i

-- the children of a row that has no, one or two, and what holds of each
abbrev pub Kids : (ℕ → ℕ → Type 0) → List ProcessRow → ℕ → ℕ → Type 0
Kids C ps i zero = end_of ps i ≡ i + 1
Kids C ps i (suc zero) = OneChild C ps i
Kids C ps i (suc (suc n)) = TwoChildren C ps i

abbrev pub One : List ProcessRow → ℕ → Type 0
One ps i = OneChild (Below ps) ps i

abbrev pub Two : List ProcessRow → ℕ → Type 0
Two ps i = TwoChildren (Below ps) ps i

abbrev pub Family : List ProcessRow → ℕ → ProcessKind → Type 0
Family ps i κ = Kids (Below ps) ps i (children κ)

pub record Shaped (ps : List ProcessRow) : Type 0 where
  pub some : 0 < length ps
  pub short : length ps ≤ 512
  pub whole : end_of ps 0 ≡ length ps
  pub above : (i : ℕ) → i < length ps → i < end_of ps i
  pub below : (i : ℕ) → i < length ps → end_of ps i ≤ length ps
  pub family : (i : ℕ) → i < length ps → Family ps i (row ps i).kind
  pub room : (i : ℕ) → i < length ps → slots_of ps i ≤ 32
  pub space : (i : ℕ) → i < length ps → slots_of ps i + adds (row ps i) ≤ 32
  pub few : (i : ℕ) → i < length ps → adds (row ps i) ≤ 4
  pub deep : (i : ℕ) → i < length ps → (row ps i).kind ≡ Aopen → enclosing ps i < 6
