-- Lists of items with commas between them.
use Rattle.std.specs.Prelude.{ℕ, zero, suc, ◌+◌, cond, [], ◌∷◌, slice_set}
use Rattle.words.specs.declared.token.Mark.{Mark}
use Rattle.reader.specs.declared.parts.Parts.{Parts}
use Rattle.reader.specs.Cursor.{Reads, ◌>>=◌, done}
use Rattle.reader.specs.Tokens.{comma}

-- an item and what ends the list or leads to the `rest`
abbrev pub series_step : {A L : Type 0} → (L → A → L) → Reads A → Mark → L → (L → Reads L) → Reads L
series_step add item stop xs rest = do
  x ← item
  more ← comma stop
  cond more (rest (add xs x)) (done (add xs x))

-- items up to the mark `stop`, after those in xs: `room` more may come, and `over` reads one too many
unfoldable pub series : {A L : Type 0} → (L → A → L) → (L → Reads A) → (L → Reads L) → Mark → ℕ → L → Reads L
series add item over stop zero xs = over xs
series add item over stop (suc room) xs = series_step add (item xs) stop xs (series add item over stop room)

-- up to four rows
abbrev pub none : Parts
none = record { count = 0; at = 0 ∷ 0 ∷ 0 ∷ 0 ∷ [] }

abbrev pub added : Parts → ℕ → Parts
added ps v = record { count = ps.count + 1; at = slice_set ps.at ps.count v }
