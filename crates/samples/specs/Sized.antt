-- The sizes of a sample's tables.
use Rattle.std.specs.Prelude.{◌≡◌, ℕ, ◌<◌, length}
use Rattle.samples.specs.declared.sample.Sample.{Sample}

-- it has a name, and so many types, process rows and term rows
abbrev pub IsSized : Sample → ℕ → ℕ → ℕ → Type 0
IsSized s ts ps us =
    (0 < length s.name.now) × (length s.listing.types.now ≡ ts) × (length s.listing.processes.now ≡ ps) × (length s.listing.terms.now ≡ us)
