-- One step of a process, and the ways through it.
use Rattle.std.proofs.Common.{◌≡◌, ◌⊎◌, inl, inr, ℕ, zero, suc, ◌-◌, ◌<◌, ◌≤◌, Bool, cond, List, Ok, Err, codes, Result, sym, refl, ap, ◌∙◌, arith}
use Rattle.std.proofs.lemmas.Bool.{eq-eqb, ne_eqb}
use Rattle.words.specs.declared.token.Mark.TheVariants.{Bar, Close}
use Rattle.words.specs.declared.token.Span.{Span}
use Rattle.scanning.specs.declared.fault.ListingFault.{ListingFault}
use Rattle.scanning.specs.declared.fault.ListingFault.TheVariants.{Limit}
use Rattle.rows.specs.declared.process.ProcessKind.{ProcessKind}
use Rattle.rows.specs.declared.process.ProcessKind.TheVariants.{Sopen, Aopen, Verify}
use Rattle.scanning.specs.declared.scope.Scope.{Scope}
use Rattle.scanning.specs.Names.{InScope, scoped, newest, no_span}
use Rattle.reader.specs.Cursor.{Cursor, Reads, ◌>>=◌, done, fail}
use Rattle.reader.specs.Tokens.{beginning, mark, keyword}
use Rattle.reader.specs.Names.{all_bound, Older}
use Rattle.reader.specs.Rows.{open_row, close_row, finish}
use Rattle.reader.specs.Heads.{branched}
use Rattle.reader.specs.Processes.{Inner, Kept, follow, two, closed, parallel, choice, opens_message, begins, opens, process, process_by, deeper}
use Rattle.reader.proofs.Steps.{then_ok, then_err}

-- a bracket or a branch, if one more may be opened
pub branch_limit : (allow place : ℕ) (s : Cursor) → allow ≡ 0 → branched allow place s ≡ Err (Limit place)
branch_limit allow place s e = ap (λ (b : Bool). cond b (fail (Limit place)) (done tt) s) (eq-eqb allow 0 e)

pub branch_open : (allow place : ℕ) (s : Cursor) → (allow ≡ 0 → ⊥) → branched allow place s ≡ Ok (tt, s)
branch_open allow place s e = ap (λ (b : Bool). cond b (fail (Limit place)) (done tt) s) (ne_eqb allow 0 e)

process_at : (d : ℕ) (allow : ℕ) (sc : InScope) → process d allow sc ≡ process_by d allow sc (deeper d)
unfolding process deeper
process_at zero allow sc = refl
process_at (suc d) allow sc = refl

deeper_at : (d : ℕ) → 0 < d → deeper d ≡ process (d - 1)
unfolding deeper
deeper_at d h = let e : d ≡ suc (d - 1) = omega arith in ap deeper e

module _ (left : ℕ) (allow : ℕ) (sc : InScope) (s : Cursor) where
  starts : ProcessKind × Span → Reads ℕ
  starts p = opens left allow sc (deeper left) p

  pub beginning_fails : (e : ListingFault) → beginning s ≡ Err e → process left allow sc s ≡ Err e
  unfolding starts
  beginning_fails e h = ap (λ m. m s) (process_at left allow sc) ∙ then_err beginning starts s e h

  module _ (p : ProcessKind × Span) (a : Cursor) (begun : beginning s ≡ Ok (p, a)) where
    after_row : ℕ → Reads ℕ
    after_row i = begins p.0 i allow sc (deeper left) p.1.start

    opening_row : Reads ℕ
    opening_row = open_row left p.0 sc.count p.1.start

    turned : process left allow sc s ≡ ◌>>=◌ opening_row after_row a
    unfolding starts after_row opening_row
    turned = ap (λ m. m s) (process_at left allow sc) ∙ then_ok beginning starts s p a begun

    pub row_fails : (e : ListingFault) → open_row left p.0 sc.count p.1.start a ≡ Err e → process left allow sc s ≡ Err e
    unfolding opening_row
    row_fails e h = turned ∙ then_err opening_row after_row a e h

    -- the way on which the first token says f
    pub arm : (i : ℕ) (b : Cursor) → open_row left p.0 sc.count p.1.start a ≡ Ok (i, b) → (f : ProcessKind) → p.0 ≡ f → process left allow sc s ≡ begins f i allow sc (deeper left) p.1.start b
    unfolding opening_row after_row
    arm i b h f e = turned ∙ then_ok opening_row after_row a i b h ∙ ap (λ g. begins g i allow sc (deeper left) p.1.start b) e

    -- the way of a process that opens a message
    pub opening_arm : (i : ℕ) (b : Cursor) → open_row left p.0 sc.count p.1.start a ≡ Ok (i, b) → (p.0 ≡ Sopen) ⊎ ((p.0 ≡ Aopen) ⊎ (p.0 ≡ Verify)) → process left allow sc s ≡ opens_message i allow sc (deeper left) b
    opening_arm i b h (inl e) = arm i b h Sopen e
    opening_arm i b h (inr (inl e)) = arm i b h Aopen e
    opening_arm i b h (inr (inr e)) = arm i b h Verify e

module _ (left : ℕ) (allow : ℕ) (sc : InScope) (s : Cursor) (some : 0 < left) where
  module _ (row : ℕ) (names : List Span) where
    beneath : process (left - 1) allow (all_bound names sc) s ≡ deeper left allow (all_bound names sc) s
    beneath = ap (λ f. f allow (all_bound names sc) s) (sym (deeper_at left some))

    pub follow_fails : (e : ListingFault) → process (left - 1) allow (all_bound names sc) s ≡ Err e → follow row names allow sc (deeper left) s ≡ Err e
    unfolding follow
    follow_fails e k = then_err (deeper left allow (all_bound names sc)) (λ p. finish row) s e (sym beneath ∙ k)

    pub follows : (p : ℕ) (b : Cursor) → process (left - 1) allow (all_bound names sc) s ≡ Ok (p, b) → follow row names allow sc (deeper left) s ≡ Ok (row, close_row row b)
    unfolding follow
    follows p b k = then_ok (deeper left allow (all_bound names sc)) (λ q. finish row) s p b (sym beneath ∙ k)

  module _ (row : ℕ) where
    pub parallel_at : parallel row allow sc (deeper left) s ≡ two (mark Bar) (closed row) (allow - 1) sc (process (left - 1)) s
    unfolding parallel
    parallel_at = ap (λ g. two (mark Bar) (closed row) (allow - 1) sc g s) (deeper_at left some)

    pub choice_at : choice row allow sc (deeper left) s ≡ two (keyword (codes "else")) (finish row) (allow - 1) sc (process (left - 1)) s
    unfolding choice
    choice_at = ap (λ g. two (keyword (codes "else")) (finish row) (allow - 1) sc g s) (deeper_at left some)

pub not_closed : (row : ℕ) (s : Cursor) (e : ListingFault) → mark Close s ≡ Err e → closed row s ≡ Err e
not_closed row s e h = then_err (mark Close) (λ p. finish row) s e h

pub closes : (row : ℕ) (s : Cursor) (p : ℕ) (b : Cursor) → mark Close s ≡ Ok (p, b) → closed row s ≡ Ok (row, close_row row b)
closes row s p b h = then_ok (mark Close) (λ p. finish row) s p b h

module _ (middle rest : Reads ℕ) (allow : ℕ) (sc : InScope) (inner : Inner) (s : Cursor) (whole : Result (ℕ × Cursor) ListingFault) (at : whole ≡ two middle rest allow sc inner s) where
  second : Reads ℕ
  second = ◌>>=◌ (inner allow sc) (λ q. rest)

  after_first : Reads ℕ
  after_first = ◌>>=◌ middle (λ b. second)

  begun : whole ≡ ◌>>=◌ (inner allow sc) (λ p. after_first) s
  unfolding two after_first second
  begun = at

  pub first_fails : (e : ListingFault) → inner allow sc s ≡ Err e → whole ≡ Err e
  first_fails e h = begun ∙ then_err (inner allow sc) (λ p. after_first) s e h

  module _ (p : ℕ) (a : Cursor) (ok : inner allow sc s ≡ Ok (p, a)) where
    past : whole ≡ after_first a
    past = begun ∙ then_ok (inner allow sc) (λ p. after_first) s p a ok

    pub middle_fails : (e : ListingFault) → middle a ≡ Err e → whole ≡ Err e
    unfolding after_first
    middle_fails e h = past ∙ then_err middle (λ b. second) a e h

    module _ (m : ℕ) (b : Cursor) (bar : middle a ≡ Ok (m, b)) where
      between : whole ≡ second b
      unfolding after_first
      between = past ∙ then_ok middle (λ x. second) a m b bar

      pub second_fails : (e : ListingFault) → inner allow sc b ≡ Err e → whole ≡ Err e
      unfolding second
      second_fails e h = between ∙ then_err (inner allow sc) (λ q. rest) b e h

      pub both_read : (q : ℕ) (d : Cursor) → inner allow sc b ≡ Ok (q, d) → whole ≡ rest d
      unfolding second
      both_read q d h = between ∙ then_ok (inner allow sc) (λ q. rest) b q d h

-- what is kept
pub older_then : (a b d : Scope) → d.count ≤ b.count → Older a b → Older b d → Older a d
older_then a b d h p q k l = p k (omega arith) ∙ q k l

pub kept_scoped : (a b : Scope) → Kept a b → scoped a ≡ scoped b
kept_scoped a b k =
    let e = ap (newest no_span a.names) k.count ∙ k.older b.count (omega arith) in
    λ i. record { count = k.count i; names = e i }

pub kept_then : (a b d : Scope) → Kept a b → Kept b d → Kept a d
kept_then a b d p q = record { count = p.count ∙ q.count; older = older_then a b d (omega (arith, q.count)) p.older q.older }
