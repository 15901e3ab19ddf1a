-- One step of the definition of terms, which calls itself.
use Rattle.std.proofs.Common.{◌≡◌, ℕ, zero, suc, ◌+◌, List, Result, sym, refl, ap, ◌∙◌, subst, add-one}
use Rattle.words.specs.declared.token.Span.{Span}
use Rattle.scanning.specs.declared.fault.ListingFault.{ListingFault}
use Rattle.scanning.specs.declared.fault.ListingFault.TheVariants.{Limit}
use Rattle.reader.specs.Cursor.{Cursor, Reads, Gives, fail}
use Rattle.reader.specs.Terms.{term, term_by}

-- what reads a term inside a bracket
pub below : ℕ → List Span → Reads ℕ
below zero names = fail (Limit 0)
below (suc d) names = term d names

pub term_at : (d : ℕ) (names : List Span) → term d names ≡ term_by d names (below d names)
unfolding term below
term_at zero names = refl
term_at (suc d) names = refl

below_at : (n d : ℕ) (names : List Span) → n + 1 ≡ d → below d names ≡ term n names
unfolding below
below_at n d names e = ap (λ k. below k names) (sym e ∙ add-one n)

module _ (d : ℕ) (names : List Span) (s : Cursor) (r : Result ℕ ListingFault) (t : Cursor) where
  pub before_bracket : Gives (term_by d names (below d names) s) r t → Gives (term d names s) r t
  before_bracket h = subst (λ m. Gives (m s) r t) (sym (term_at d names)) h

  pub in_bracket : (n : ℕ) → n + 1 ≡ d → Gives (term_by d names (term n names) s) r t → Gives (term d names s) r t
  in_bracket n e h = before_bracket (subst (λ m. Gives (term_by d names m s) r t) (sym (below_at n d names e)) h)
