-- The four levels: 2 for high confidentiality, plus 1 for low integrity. Level 1 is open.
use Rattle.std.specs.Prelude.{ℕ, Bool, bit_and, nat_lt}
use Rattle.levels.specs.Meaning.{Meaning, gated, gated_meet}
use Rattle.levels.specs.Masks.{within}

abbrev pub four_level : ℕ → Bool
four_level a = nat_lt a 4

-- every bit of a is in b
abbrev pub four_below : ℕ → ℕ → Bool
four_below = gated four_level within

-- the common bits
abbrev pub four_meet : ℕ → ℕ → ℕ
four_meet = gated_meet four_level bit_and 1

abbrev pub four : Meaning
four = record { level = four_level; below = four_below; meet = four_meet; opened = 1 }
