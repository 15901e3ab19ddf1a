-- Levels of n parties: the number is readers * 2 ^ n + writers, each a set of parties, one bit each.
use Rattle.std.specs.Prelude.{◌≡◌, ℕ, ◌+◌, ◌-◌, ◌*◌, ◌/◌, ◌%◌, ◌^◌, ◌<◌, ◌≤◌, Bool, ◌&&◌, ◌⊎◌, Ok, Err, Result, bit_and, bit_or, nat_lt}
use Rattle.levels.specs.Masks.{within}
use Rattle.levels.specs.Meaning.{Meaning, gated, gated_meet}
use Rattle.levels.specs.declared.parties.Parties.{Parties}
use Rattle.levels.specs.declared.parties.SchemeFault.{SchemeFault}
use Rattle.levels.specs.declared.parties.SchemeFault.TheVariants.{PartyCount}

abbrev pub party_level : ℕ → ℕ → Bool
party_level n a = nat_lt a (2 ^ (n + n))

abbrev pub readers : ℕ → ℕ → ℕ
readers n a = a / 2 ^ n

abbrev pub writers : ℕ → ℕ → ℕ
writers n a = a % 2 ^ n

-- b's readers are among a's, and a's writers among b's
abbrev pub wider : ℕ → ℕ → ℕ → Bool
wider n a b = within (readers n b) (readers n a) && within (writers n a) (writers n b)

-- the readers of both together, and the writers that both have
abbrev pub joint : ℕ → ℕ → ℕ → ℕ
joint n a b = bit_or (readers n a) (readers n b) * 2 ^ n + bit_and (writers n a) (writers n b)

abbrev pub party_below : ℕ → ℕ → ℕ → Bool
party_below n = gated (party_level n) (wider n)

-- everybody reads and writes: 4 ^ n - 1
abbrev pub party_open : ℕ → ℕ
party_open n = 2 ^ (n + n) - 1

abbrev pub party_meet : ℕ → ℕ → ℕ → ℕ
party_meet n = gated_meet (party_level n) (joint n) (party_open n)

abbrev pub parties : ℕ → Meaning
parties n = record { level = party_level n; below = party_below n; meet = party_meet n; opened = party_open n }

-- the number of a fault
abbrev pub fault_number : SchemeFault → ℕ
fault_number PartyCount = 20

-- what is made of a number of parties: a scheme of so many for 1 to 8, and else a refusal
abbrev pub MadeOf : ℕ → Result Parties SchemeFault → Type 0
MadeOf n (Ok p) = (p.count ≡ n) × (1 ≤ n) × (n ≤ 8)
MadeOf n (Err e) = (e ≡ PartyCount) × ((n ≡ 0) ⊎ (8 < n))
