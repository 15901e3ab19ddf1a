-- The process rows of tables that pass the shape test are in the form that a walk over them uses.
use Rattle.std.proofs.Common.{◌≡◌, ℕ, ◌+◌, ◌<◌, ◌≤◌, true, zero, suc, refl, length, Ok, arith}
use Rattle.std.proofs.lemmas.Bool.{eqb-true}
use Rattle.std.proofs.lemmas.Bool.Decides.{nat_tests}
use Rattle.levels.specs.Meaning.{Meaning}
use Rattle.rows.specs.declared.process.ProcessKind.{ProcessKind}
use Rattle.rows.specs.declared.process.ProcessKind.TheVariants.{Aopen}
use Rattle.rows.specs.Processes.{row, end_of, slots_of, adds, adds_by}
use Rattle.rows.specs.Tables.{Tables}
use Rattle.shape.specs.Processes.{process_count_ok}
use Rattle.shape.specs.Depth.{enclosing}
use Rattle.shape.specs.Tree.{children}
use Rattle.shape.specs.Whole.{shape}
use Rattle.shape.proofs.Shaped.{Below, Kids, Shaped}
use Rattle.shape.proofs.Passed.{Passed, passed, Own, own}
use Rattle.shape.proofs.Ends.{Has, kids, within}
use Rattle.shape.proofs.Enclosed.{first_depth, second_depth}

adds_few : (κ : ProcessKind) (n : ℕ) → process_count_ok n κ ≡ true → adds_by κ n ≤ 4
adds_few κ n h = grind (arith, nat_tests)

-- a row without children adds nothing
adds_none : (κ : ProcessKind) (n : ℕ) → children κ ≡ 0 → adds_by κ n ≡ 0
adds_none κ n e = grind arith

module _ (T : Tables) (ok : Passed T) where
  parts : (i : ℕ) → i < length T.processes → Own T i
  parts = own T ok

  fam : (i : ℕ) → i < length T.processes → Kids (Has T.processes) T.processes i (children (row T.processes i).kind)
  fam i h = kids T.processes i (row T.processes i).kind (parts i h).family

  module _ (i : ℕ) (h : i < length T.processes) where
    below_of : (n : ℕ) → Kids (Has T.processes) T.processes i n → Kids (Below T.processes) T.processes i n
    below_of zero e = e
    below_of (suc zero) o =
        let up : i + 1 < end_of T.processes i = omega (arith, o.ends, (within T.processes fam (i + 1) o.child.inside).0) in
        record {
          child = record { inside = o.child.inside; slots_are = o.child.slots_are; depth_is = first_depth T.processes fam i h up };
          ends = o.ends;
        }
    below_of (suc (suc n)) t =
        let from : i + 1 < end_of T.processes (i + 1) = (within T.processes fam (i + 1) t.left.inside).0 in
        let up : end_of T.processes (i + 1) < end_of T.processes i = omega (arith, t.ends, (within T.processes fam (end_of T.processes (i + 1)) t.right.inside).0) in
        record {
          left = record { inside = t.left.inside; slots_are = t.left.slots_are; depth_is = first_depth T.processes fam i h (omega arith) };
          right = record { inside = t.right.inside; slots_are = t.right.slots_are; depth_is = second_depth T.processes fam i h t.left.inside up };
          ends = t.ends;
        }

    space_of : (n : ℕ) → children (row T.processes i).kind ≡ n → Kids (Has T.processes) T.processes i n → slots_of T.processes i + adds (row T.processes i) ≤ 32
    space_of zero q e = omega (arith, (parts i h).room, adds_none (row T.processes i).kind (row T.processes i).count q)
    space_of (suc zero) q o = omega (arith, (parts (i + 1) o.child.inside).room, o.child.slots_are)
    space_of (suc (suc n)) q t = omega (arith, (parts (i + 1) t.left.inside).room, t.left.slots_are)

    deep_of : (row T.processes i).kind ≡ Aopen → enclosing T.processes i < 6
    deep_of e = let s = ok.all_shallow i h in grind (arith, nat_tests)

  pub shaped_from : Shaped T.processes
  shaped_from = record {
    some = ok.some;
    short = ok.short;
    whole = eqb-true _ _ (parts 0 ok.some).last;
    above = λ i h. (within T.processes fam i h).0;
    below = λ i h. (within T.processes fam i h).1;
    family = λ i h. below_of i h (children (row T.processes i).kind) (fam i h);
    room = λ i h. (parts i h).room;
    space = λ i h. space_of i h (children (row T.processes i).kind) refl (fam i h);
    few = λ i h. adds_few (row T.processes i).kind (row T.processes i).count (parts i h).count;
    deep = λ i h. deep_of i h;
  }

pub shaped : (m : Meaning) (T : Tables) → shape m T ≡ Ok tt → Shaped T.processes
shaped m T h = shaped_from T (passed m T h)
