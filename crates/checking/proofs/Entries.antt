-- The stack of the walk, the last entry first.
use Rattle.std.proofs.Common.{◌≡◌, ℕ, zero, suc, ◌+◌, ◌-◌, ◌<◌, ◌≤◌, Bool, true, false, List, [], ◌∷◌, length, get_or, take, set, sym, refl, ap, ◌∙◌, add-one, arith}
use Rattle.std.proofs.lemmas.Grind.{common_steps}
use Rattle.std.proofs.lemmas.List.{get_or-take, length-take-le}
use Rattle.rows.specs.declared.process.ProcessRow.{ProcessRow}
use Rattle.rows.specs.Processes.{end_of}
use Rattle.checking.specs.Stack.{limit_at, limit_of}

-- an aopen on the way down: it is still to be read a second time, or is read for the last time
pub data Entry : Type 0 where
  due : ℕ → Entry
  last : ℕ → Entry

abbrev pub row_of : Entry → ℕ
row_of (due t) = t
row_of (last t) = t

abbrev pub entry : Bool → ℕ → Entry
entry true t = due t
entry false t = last t

-- the first k places of the two arrays
abbrev pub held : ℕ → List ℕ → List Bool → List Entry
held zero xs ds = []
held (suc k) xs ds = entry (get_or ds k false) (get_or xs k 0) ∷ held k xs ds

-- where the innermost aopen ends, or the table
abbrev pub limit : List ProcessRow → List Entry → ℕ
limit ps [] = length ps
limit ps (e ∷ es) = end_of ps (row_of e)

row_of_entry : (b : Bool) (t : ℕ) → row_of (entry b t) ≡ t
row_of_entry true t = refl
row_of_entry false t = refl

limit_held : (ps : List ProcessRow) (k : ℕ) (xs : List ℕ) (ds : List Bool) → limit ps (held k xs ds) ≡ limit_at ps (take k xs) k
limit_held ps zero xs ds = refl
limit_held ps (suc k) xs ds = ap (end_of ps) (row_of_entry (get_or ds k false) (get_or xs k 0) ∙ sym (get_or-take (suc k) xs k 0 (omega arith)))

pub limit_is : (ps : List ProcessRow) (k : ℕ) (xs : List ℕ) (ds : List Bool) → k ≤ length xs → limit ps (held k xs ds) ≡ limit_of ps (take k xs)
limit_is ps k xs ds h = limit_held ps k xs ds ∙ ap (limit_at ps (take k xs)) (sym (length-take-le k xs h))

pub length_held : (k : ℕ) (xs : List ℕ) (ds : List Bool) → length (held k xs ds) ≡ k
length_held zero xs ds = refl
length_held (suc k) xs ds = ap suc (length_held k xs ds)

-- a change at or above the top is not seen
held_set : (k j : ℕ) (xs : List ℕ) (ds : List Bool) (v : ℕ) (b : Bool) → k ≤ j → held k (set xs j v) (set ds j b) ≡ held k xs ds
held_set zero j xs ds v b h = refl
held_set (suc k) j xs ds v b h = grind (arith, common_steps, held_set k j xs ds v b)

pub held_push : (k : ℕ) (xs : List ℕ) (ds : List Bool) (v : ℕ) (b : Bool) → k < length xs → k < length ds → held (k + 1) (set xs k v) (set ds k b) ≡ entry b v ∷ held k xs ds
held_push k xs ds v b h h' = rw (add-one k) (grind (arith, common_steps, held_set k k xs ds v b))

pub held_top : (k : ℕ) (xs : List ℕ) (ds : List Bool) (b : Bool) → 0 < k → get_or ds (k - 1) false ≡ b → held k xs ds ≡ entry b (get_or xs (k - 1) 0) ∷ held (k - 1) xs ds
held_top zero xs ds b h e = absurd (omega arith)
held_top (suc k) xs ds b h e =
    let z : suc k - 1 ≡ k = omega arith in
    rw (z, ← e, z)

held_mark : (k j : ℕ) (xs : List ℕ) (ds : List Bool) (b : Bool) → k ≤ j → held k xs (set ds j b) ≡ held k xs ds
held_mark zero j xs ds b h = refl
held_mark (suc k) j xs ds b h = grind (arith, common_steps, held_mark k j xs ds b)

-- the second reading of the innermost aopen begins
pub held_again : (k : ℕ) (xs : List ℕ) (ds : List Bool) → 0 < k → k ≤ length ds → held k xs (set ds (k - 1) false) ≡ last (get_or xs (k - 1) 0) ∷ held (k - 1) xs ds
held_again k xs ds h l =
    held_top k xs (set ds (k - 1) false) false h (grind (arith, common_steps))
    ∙ ap (λ es. last (get_or xs (k - 1) 0) ∷ es) (held_mark (k - 1) (k - 1) xs ds false (omega arith))
