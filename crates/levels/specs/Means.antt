-- The meaning of a scheme of the code, from its ghost members.
use Rattle.levels.specs.declared.scheme.Scheme.{Ghosts}
use Rattle.levels.specs.Meaning.{Meaning}

abbrev pub means : {X : Type 0} → Ghosts X → X → Meaning
means d s = record { level = d.levels s; below = d.order s; meet = d.infimum s; opened = d.opened s }
