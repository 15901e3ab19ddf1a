-- The defaults of lists of numbers.
use Rattle.std.proofs.Common.{◌≡◌, ℕ, ◌<◌, List, replicate, sym, ◌∙◌, arith}
use lib.ListN.{length-replicate}
use Rattle.std.proofs.lemmas.List.{ext_get_or, get_or-replicate}
use Rattle.std.specs.Array.{AllOfLen}
use Rattle.reader.specs.declared.parts.Parts.{Parts}
use Rattle.reader.specs.Lists.{none}

pub zeros : (xs : List ℕ) (n : ℕ) → AllOfLen (λ (y : ℕ). y ≡ 0) xs n → xs ≡ replicate n 0
zeros xs n h = ext_get_or 0 xs (replicate n 0) (h.long ∙ sym (length-replicate n 0)) (λ i l. let m : i < n = omega (arith, h.long) in h.at i 0 m ∙ sym (get_or-replicate n i 0 0 m))

pub no_parts : (p : Parts) → (p.count ≡ 0) × AllOfLen (λ (y : ℕ). y ≡ 0) p.at 4 → p ≡ none
no_parts p h = λ i. record { count = h.0 i; at = zeros p.at 4 h.1 i }
