-- The names in scope and the declared types, by their words in the text.
use Rattle.std.specs.Prelude.{ℕ, zero, suc, cond, List, [], ◌∷◌, length, reverse, Some, None, Option, option_map, slice_index_or}
use Rattle.std.specs.List.{find}
use Rattle.std.specs.Str.{bytes_eq}
use Rattle.words.specs.declared.token.Token.TheVariants.{End}
use Rattle.words.specs.declared.token.Span.{Span}
use Rattle.scanning.specs.declared.scope.Scope.{Scope}
use Rattle.scanning.specs.declared.type_words.TypeWord.{TypeWord}
use Rattle.arrayvec.specs.ArrayVec.{ArrayVec}
use Rattle.scanning.specs.Spelling.{bytes_of, spells}

-- the first n elements of a list, the last of them first
abbrev pub newest : {X : Type 0} → X → List X → ℕ → List X
newest none xs zero = []
newest none xs (suc i) = slice_index_or xs i none ∷ newest none xs i

abbrev pub no_span : Span
no_span = record { token = End; start = 0; «end» = 0 }

-- how many names are in scope, and their words, the newest first
pub record InScope : Type 0 where
  pub count : ℕ
  pub names : List Span

abbrev pub scoped : Scope → InScope
scoped s = record { count = s.count; names = newest no_span s.names s.count }

-- the slot of the newest name that is spelt w: how many names are older
abbrev pub slot_of : List ℕ → List Span → List ℕ → Option ℕ
slot_of text [] w = None
slot_of text (n ∷ ns) w = cond (bytes_eq (bytes_of text n) w) (Some (length ns)) (slot_of text ns w)

-- the declared types, the newest first
abbrev pub declared : ArrayVec TypeWord → List TypeWord
declared t = reverse t.items

-- the row of the newest type whose word is spelt w
abbrev pub row_of : List ℕ → List TypeWord → List ℕ → Option ℕ
row_of text types w = option_map (λ t. t.row) (find (λ t. spells text t.word w) types)
