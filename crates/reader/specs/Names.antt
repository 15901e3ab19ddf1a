-- The words that are bound as names.
use Rattle.std.specs.Prelude.{◌≡◌, ℕ, ◌+◌, ◌≤◌, cond, List, [], ◌∷◌, ◌++◌, length, reverse, is_some, Some, None, codes, Option, nat_lt}
use Rattle.arrayvec.specs.ArrayVec.{ArrayVec}
use Rattle.words.specs.declared.token.Mark.TheVariants.{Open, Close, Semicolon}
use Rattle.words.specs.declared.token.Span.{Span}
use Rattle.scanning.specs.declared.fault.ListingFault.TheVariants.{Grammar, Limit}
use Rattle.scanning.specs.declared.scope.Scope.{Scope}
use Rattle.scanning.specs.Names.{InScope, newest, no_span}
use Rattle.reader.specs.Cursor.{Reads, ◌>>=◌, done, fail}
use Rattle.reader.specs.Tokens.{spelling, mark, binder, ahead}
use Rattle.reader.specs.Lists.{series}
use Rattle.reader.specs.Terms.{slot_named}

-- one more name, which hides an older one of the same word
abbrev pub bound : InScope → Span → InScope
bound sc l = record { count = sc.count + 1; names = l ∷ sc.names }

-- names that are bound together
abbrev pub no_names : ArrayVec Span
no_names = record { items = [] }

abbrev pub also : ArrayVec Span → Span → ArrayVec Span
also ns l = record { items = ns.items ++ l ∷ [] }

-- those names in scope, in their order
abbrev pub all_bound : List Span → InScope → InScope
all_bound ns sc = record { count = sc.count + length ns; names = reverse ns ++ sc.names }

-- a new name, where `slots` names are in scope
unfoldable pub new_name : ℕ → Reads Span
new_name slots = do
  l ← binder
  cond (nat_lt slots 32) (done l) (fail (Limit l.start))

-- a fifth name
unfoldable pub fifth_name : Reads (ArrayVec Span)
fifth_name = do
  l ← binder
  fail (Limit l.start)

-- `a, b)`
unfoldable pub name_list : ℕ → Reads (ArrayVec Span)
name_list slots = series also (λ ns. new_name (slots + length ns.items)) (λ ns. fifth_name) Close 4 no_names

-- `(a, b)`
unfoldable pub variables : ℕ → Reads (ArrayVec Span)
variables slots = do
  p ← mark Open
  name_list slots

-- a word that no free name has yet
unfoldable pub free_name : InScope → Reads Span
free_name sc = do
  l ← binder
  w ← spelling l
  o ← slot_named sc.names w
  cond (is_some o) (fail (Grammar l.start)) (done l)

-- a thirty-third free name
unfoldable pub one_too_many : InScope → Reads InScope
one_too_many sc = do
  l ← free_name sc
  fail (Limit l.start)

-- `c, d;`, where room is left for that many
abbrev pub free_names : ℕ → InScope → Reads InScope
free_names room sc = series bound free_name one_too_many Semicolon room sc

abbrev pub nothing_bound : InScope
nothing_bound = record { count = 0; names = [] }

abbrev pub freed : Option Span → Reads InScope
freed None = done nothing_bound
freed (Some l) = free_names 32 nothing_bound

-- `free c, d;` or nothing
unfoldable pub header : Reads InScope
header = do
  o ← ahead (codes "free")
  freed o

-- that the names that were in scope before are still the oldest
abbrev pub Older : Scope → Scope → Type 0
Older after before = (k : ℕ) → k ≤ before.count → newest no_span after.names k ≡ newest no_span before.names k
