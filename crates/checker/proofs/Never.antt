-- No text is refused for the number of its rows, or for a term row.
use Rattle.std.proofs.Common.{◌≡◌, ℕ, zero, suc, ◌+◌, ◌≢◌, List, Ok, Err, Result, sym, refl, subst, arith}
use Rattle.levels.specs.Meaning.{Meaning}
use Rattle.rows.specs.declared.process.ProcessRow.{ProcessRow}
use Rattle.rows.specs.Processes.{row, end_of}
use Rattle.rows.specs.Tables.{Tables}
use Rattle.shape.specs.declared.fault.ShapeFault.{ShapeFault}
use Rattle.shape.specs.First.{Passes, first_of}
use Rattle.shape.specs.Whole.{shape}
use Rattle.typing.specs.declared.misuse.Misuse.{Misuse}
use Rattle.typing.specs.declared.misuse.Misuse.TheVariants.{Kind, Part, Count, Message}
use Rattle.typing.specs.declared.judging.Judgement.{Judgement}
use Rattle.typing.specs.declared.judging.Judgement.TheVariants.{Done, Binds, Splits, Opens, OpensOnce}
use Rattle.typing.specs.Judging.{zeros, reads, extended}
use Rattle.words.specs.declared.token.WordFault.TheVariants.{Byte, Long}
use Rattle.scanning.specs.declared.fault.ListingFault.{ListingFault}
use Rattle.scanning.specs.declared.fault.ListingFault.TheVariants.{TooLong, Word, Grammar, Name, Limit}
use Rattle.checking.specs.declared.refusal.Refusal.{Refusal}
use Rattle.checking.specs.declared.refusal.Refusal.TheVariants.{Typing}
use Rattle.checking.specs.Refusal.{refusal_number}
use Rattle.checking.specs.Verdict.{follow, check_from, free_names, rules, then_rules, verdict}
use Rattle.reader.specs.Whole as reader
use Rattle.reader.specs.Whole.{listing}
use Rattle.reader.specs.Sound as sound
use Rattle.reader.proofs.Sounds.{listing_holds}
use Rattle.checker.specs.declared.fault.CheckFault.{CheckFault}
use Rattle.checker.specs.declared.fault.CheckFault.TheVariants.{Listing as NoListing}
use Rattle.checker.specs.Fault.{fault_number}
use Rattle.checker.specs.Text.{full, in_use, placed, after_reading, text_verdict, Never20Or23}

-- neither 20 nor 23
Another : ℕ → Type 0
Another n = (n ≢ 20) × (n ≢ 23)

misused : (e : Misuse) (i : ℕ) → Another (refusal_number (Typing e i))
unfolding Another
misused Kind i = (λ z. omega arith, λ z. omega arith)
misused Part i = (λ z. omega arith, λ z. omega arith)
misused Count i = (λ z. omega arith, λ z. omega arith)
misused Message i = (λ z. omega arith, λ z. omega arith)

no_listing : (f : ListingFault) → Another (fault_number (NoListing f))
unfolding Another
no_listing TooLong = (λ z. omega arith, λ z. omega arith)
no_listing (Word (Byte p)) = (λ z. omega arith, λ z. omega arith)
no_listing (Word (Long p)) = (λ z. omega arith, λ z. omega arith)
no_listing (Grammar p) = (λ z. omega arith, λ z. omega arith)
no_listing (Name p) = (λ z. omega arith, λ z. omega arith)
no_listing (Limit p) = (λ z. omega arith, λ z. omega arith)

-- that what is refused, if it is, has neither number
Never : {A E : Type 0} → (E → ℕ) → Result A E → Type 0
Never number (Ok a) = Unit {0}
Never number (Err e) = Another (number e)

never_both : (u v : Passes Refusal) → Never refusal_number u → Never refusal_number v → Never refusal_number (first_of u v)
unfolding Never
never_both (Ok x) v p q = q
never_both (Err f) v p q = p

module _ (ps : List ProcessRow) (go : List ℕ → ℕ → Passes Refusal) (p : (Γ : List ℕ) (i : ℕ) → Never refusal_number (go Γ i)) where
  never_follow : (Γ : List ℕ) (i : ℕ) (j : Result Judgement Misuse) → Never refusal_number (follow ps go Γ i j)
  unfolding Never
  never_follow Γ i (Ok Done) = tt
  never_follow Γ i (Ok (Binds new)) = p (extended (row ps i) Γ new) (i + 1)
  never_follow Γ i (Ok Splits) = never_both (go Γ (i + 1)) (go Γ (end_of ps (i + 1))) (p Γ (i + 1)) (p Γ (end_of ps (i + 1)))
  never_follow Γ i (Ok (Opens new)) = never_both (go (extended (row ps i) Γ new) (i + 1)) (go (extended (row ps i) Γ zeros) (i + 1)) (p (extended (row ps i) Γ new) (i + 1)) (p (extended (row ps i) Γ zeros) (i + 1))
  never_follow Γ i (Ok OpensOnce) = p (extended (row ps i) Γ zeros) (i + 1)
  never_follow Γ i (Err e) = misused e i

never_from : (m : Meaning) (T : Tables) (depth : ℕ) (Γ : List ℕ) (i : ℕ) → Never refusal_number (check_from m T depth Γ i)
unfolding check_from Never
never_from m T zero Γ i = tt
never_from m T (suc depth) Γ i = never_follow T.processes (check_from m T depth) (never_from m T depth) Γ i (reads m T Γ i)

never_rules : (m : Meaning) (T : Tables) (v : Passes ShapeFault) → shape m T ≡ v → sound.Never20Or23 T → Never refusal_number (then_rules v (rules m T))
unfolding Never Another
never_rules m T (Ok u) e n = never_from m T _ (free_names T) 0
never_rules m T (Err f) e n = n m f e

never_placed : (t : reader.Tables) (v : Passes Refusal) → Never refusal_number v → Never fault_number (placed t v)
unfolding Never
never_placed t (Ok u) p = tt
never_placed t (Err r) p = p

never_read : (m : Meaning) (text : List ℕ) (x : Result reader.Tables ListingFault) → listing text m.opened full ≡ x → Never fault_number (after_reading m x)
unfolding Never
never_read m text (Ok t) e = never_placed t (verdict m (in_use t)) (never_rules m (in_use t) (shape m (in_use t)) refl (listing_holds text m.opened full t e).1)
never_read m text (Err g) e = no_listing g

never_told : (x : Result ℕ CheckFault) → Never fault_number x → Never20Or23 x
unfolding Never Another
never_told (Ok n) p f h = absurd cc
never_told (Err g) p f h = let same : g ≡ f = cc in subst (λ x. Another (fault_number x)) same p

pub never_text : (m : Meaning) (text : List ℕ) (r : Result ℕ CheckFault) → r ≡ text_verdict m text → Never20Or23 r
never_text m text r e = subst Never20Or23 (sym e) (never_told (text_verdict m text) (never_read m text (listing text m.opened full) refl))
