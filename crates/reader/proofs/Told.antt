-- A listing as a reading of empty tables.
use Rattle.std.proofs.Common.{◌≡◌, ℕ, ◌<◌, ◌≤◌, true, false, List, length, replicate, Ok, Err, Result, IfOk, sym, ◌∙◌}
use Rattle.std.specs.Result.{is_err}
use Rattle.std.proofs.lemmas.Bool.{cond-true, cond-false, lt-ltb, le-ltb, true≢false, false≢true}
use Rattle.rows.specs.declared.types.TypeRow.{TypeRow}
use Rattle.rows.specs.declared.process.ProcessRow.{ProcessRow}
use Rattle.rows.specs.declared.term.TermRow.{TermRow}
use Rattle.scanning.specs.declared.fault.ListingFault.{ListingFault}
use Rattle.scanning.specs.declared.fault.ListingFault.TheVariants.{TooLong}
use Rattle.reader.specs.declared.whole.Counts.{Counts}
use Rattle.reader.specs.Whole.{Sizes, tables, listing, whole, started, zero_type, zero_process, zero_term, Told, ReadAs}
use Rattle.reader.specs.Sound.{Sound, rows_in_use, Never20Or23}
use Rattle.reader.proofs.Sounds.{listing_holds}

module _ (text : List ℕ) (level : ℕ) (n : Sizes) where
  pub too_long : 32768 < length text → listing text level n ≡ Err TooLong
  unfolding listing
  too_long h = cond-true _ _ _ (lt-ltb 32768 (length text) h)

  pub fits : length text ≤ 32768 → (ts : List TypeRow) (ps : List ProcessRow) (us : List TermRow) (ns : List ℕ) → ts ≡ replicate n.types zero_type → ps ≡ replicate n.processes zero_process → us ≡ replicate n.terms zero_term → ns ≡ replicate n.places 0 → listing text level n ≡ tables (whole level (started text ts ps us ns))
  unfolding listing
  fits h ts ps us ns a b d e = cond-false _ _ _ (le-ltb 32768 (length text) h) ∙ (λ i. tables (whole level (started text (sym a i) (sym b i) (sym d i) (sym e i))))

  -- what holds of an answer of Ok
  pub accepted : (r : Result Counts ListingFault) (ts : List TypeRow) (ps : List ProcessRow) (us : List TermRow) (ns : List ℕ) → is_err r ≡ false → Told (listing text level n) r ts ps us ns → ReadAs text level n r ts ps us ns × IfOk r (λ k. Sound text n k ns) × IfOk r (λ k. Never20Or23 (rows_in_use k ts ps us))
  accepted (Ok k) ts ps us ns e h = let q = listing_holds text level n _ h in (h, q.0, q.1)
  accepted (Err f) ts ps us ns e h = absurd (true≢false e)

  -- the tables are cleared after an answer of Err
  pub refused : (r : Result Counts ListingFault) (ts : List TypeRow) (ps : List ProcessRow) (us : List TermRow) (ns : List ℕ) → is_err r ≡ true → Told (listing text level n) r ts ps us ns → (ts′ : List TypeRow) (ps′ : List ProcessRow) (us′ : List TermRow) (ns′ : List ℕ) → ts′ ≡ replicate n.types zero_type → ps′ ≡ replicate n.processes zero_process → us′ ≡ replicate n.terms zero_term → ns′ ≡ replicate n.places 0 → ReadAs text level n r ts′ ps′ us′ ns′
  refused (Ok k) ts ps us ns e h ts′ ps′ us′ ns′ a b c d = absurd (false≢true e)
  refused (Err f) ts ps us ns e h ts′ ps′ us′ ns′ a b c d = (h, a, b, c, d)
