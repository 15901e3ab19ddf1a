-- What tables that pass the shape test have passed, row by row.
use Rattle.std.proofs.Common.{◌≡◌, ℕ, ◌<◌, ◌≤◌, true, cond, eqb, leb, length, Ok, arith}
use Rattle.std.proofs.lemmas.Bool.{and_parts, leb-true}
use Rattle.std.proofs.lemmas.Bool.Decides.{nat_tests}
use Rattle.levels.specs.Meaning.{Meaning}
use Rattle.rows.specs.Processes.{row, end_of, slots_of}
use Rattle.rows.specs.Tables.{Tables}
use Rattle.shape.specs.declared.fault.ShapeFault.TheVariants.{Processes, Depth}
use Rattle.shape.specs.Processes.{ty_ok, process_count_ok, operands_ok, run_ok, family_ok, process_ok, processes_shape}
use Rattle.shape.specs.Depth.{shallow, depth_shape}
use Rattle.shape.specs.Whole.{sized, shape}
use Rattle.shape.proofs.FirstBad.{all_good}

pub record Passed (T : Tables) : Type 0 where
  pub some : 0 < length T.processes
  pub short : length T.processes ≤ 512
  pub few_terms : length T.terms ≤ 2048
  pub rows_ok : (i : ℕ) → i < length T.processes → process_ok T i ≡ true
  pub all_shallow : (i : ℕ) → i < length T.processes → shallow T.processes i ≡ true

pub passed : (m : Meaning) (T : Tables) → shape m T ≡ Ok tt → Passed T
unfolding shape
passed m T h =
    let sizes : sized T ≡ true = grind arith in
    let rows : processes_shape T ≡ Ok tt = grind arith in
    let depths : depth_shape T.processes ≡ Ok tt = grind arith in
    record {
      some = grind (arith, nat_tests);
      short = grind (arith, nat_tests);
      few_terms = grind (arith, nat_tests);
      rows_ok = all_good (process_ok T) Processes (length T.processes) rows;
      all_shallow = all_good (shallow T.processes) Depth (length T.processes) depths;
    }

-- a row's own conditions, one by one
pub record Own (T : Tables) (i : ℕ) : Type 0 where
  pub count : process_count_ok (row T.processes i).count (row T.processes i).kind ≡ true
  pub room : slots_of T.processes i ≤ 32
  pub family : family_ok T.processes i (row T.processes i).kind ≡ true
  pub last : cond (eqb i 0) (eqb (end_of T.processes i) (length T.processes)) true ≡ true

pub own : (T : Tables) → Passed T → (i : ℕ) → i < length T.processes → Own T i
own T ok i h =
    let p = row T.processes i in
    let a = and_parts (ty_ok T.types p p.kind) _ (ok.rows_ok i h) in
    let b = and_parts (process_count_ok p.count p.kind) _ a.1 in
    let c = and_parts (operands_ok p) _ b.1 in
    let d = and_parts (run_ok T i) _ c.1 in
    let e = and_parts (leb p.slots 32) _ d.1 in
    let f = and_parts (family_ok T.processes i p.kind) _ e.1 in
    record { count = b.0; room = leb-true _ _ e.0; family = f.0; last = f.1 }
