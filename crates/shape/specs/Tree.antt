-- The process rows of tables in shape are a tree.
use Rattle.std.specs.Prelude.{◌≡◌, ℕ, ◌+◌, ◌<◌, ◌≤◌, cond, List, [], ◌∷◌, length}
use Rattle.rows.specs.declared.process.ProcessKind.{ProcessKind}
use Rattle.rows.specs.declared.process.ProcessKind.TheVariants.{Stop, Out, In, New, Both, Again, If, Sopen, Aopen, Verify}
use Rattle.rows.specs.declared.process.ProcessRow.{ProcessRow}
use Rattle.rows.specs.Processes.{row, end_of, slots_of, adds}
use Rattle.shape.specs.Depth.{is_aopen}

-- how many children a row has
abbrev pub children : ProcessKind → ℕ
children Stop = 0
children Out = 1
children In = 1
children New = 1
children Both = 2
children Again = 1
children If = 2
children Sopen = 1
children Aopen = 1
children Verify = 1

-- the first child is the next row, and the second stands at the first one's end
pub data Child (ps : List ProcessRow) : ℕ → ℕ → Type 0 where
  first : {i : ℕ} → 1 ≤ children (row ps i).kind → Child ps i (i + 1)
  second : {i : ℕ} → children (row ps i).kind ≡ 2 → Child ps i (end_of ps (i + 1))

-- the way down from i to j, by all rows on it, both ends included
pub data Way (ps : List ProcessRow) : ℕ → ℕ → List ℕ → Type 0 where
  here : {i : ℕ} → Way ps i i (i ∷ [])
  down : {i j k : ℕ} {ks : List ℕ} → Child ps i k → Way ps k j ks → Way ps i j (i ∷ ks)

-- the slots that the rows of a way add
abbrev pub added : List ProcessRow → List ℕ → ℕ
added ps [] = 0
added ps (i ∷ is) = adds (row ps i) + added ps is

-- the aopen rows on a way
abbrev pub aopens : List ProcessRow → List ℕ → ℕ
aopens ps [] = 0
aopens ps (i ∷ is) = cond (is_aopen (row ps i).kind) 1 0 + aopens ps is

pub record Tree (ps : List ProcessRow) : Type 0 where
  -- row 0 is there, and all rows belong to it
  pub root : 0 < length ps
  pub whole : end_of ps 0 ≡ length ps
  -- what belongs to the row i are the rows from i up to its end
  pub subtree_from : (i j : ℕ) → i < length ps → i ≤ j → j < end_of ps i → (ks : List ℕ) × Way ps i j ks
  pub subtree_to : (i j : ℕ) (ks : List ℕ) → i < length ps → Way ps i j ks → (i ≤ j) × (j < end_of ps i)
  -- and there is one way only; so each row is reached from row 0 exactly once
  pub one_way : (i j : ℕ) (ks ls : List ℕ) → i < length ps → Way ps i j ks → Way ps i j ls → ks ≡ ls
  -- the slots add up along the way
  pub slots_add : (i j : ℕ) (ks : List ℕ) → i < length ps → Way ps i j ks → slots_of ps j + adds (row ps j) ≡ slots_of ps i + added ps ks
  -- at most six aopen rows on any way down
  pub six : (j : ℕ) (ks : List ℕ) → Way ps 0 j ks → aopens ps ks ≤ 6
