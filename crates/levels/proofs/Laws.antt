-- The laws that stand in the trait, as one record for the meaning of a scheme.
use contract.Running
use denote.RattleType
use seplogic.Ra.Ura
use mir.Syntax
use prog.Model
use prog.Routine
use Rattle.levels.specs.declared.scheme.Scheme.{Ghosts}
use Rattle.levels.specs.contracts.scheme.Scheme.TheBound.{Met}
use Rattle.levels.specs.Meaning.{Lawful}
use Rattle.levels.specs.Means.{means}
use types.Logic.{Logic}

-- what a bound on the trait gives: in a proof, `lawful g.met.S.Scheme s`
pub lawful : {M : Type 1} {𝓤 : Ura.Ura M} {𝓛 : Logic 𝓤} {𝓜 : Model.Model 𝓤 𝓛.H} {𝓡 : Running.Running 𝓤 𝓛.H 𝓜} {γ : Routine.Env}
    {S : RattleType.RattleType} {d : Ghosts S.Denot} {dict : Syntax.Dict} → Met 𝓛 𝓜 𝓡 γ S d dict → (s : S.Denot) → Lawful (means d s)
lawful met s =
    record {
      bounded = met.bounded s;
      open_is_level = met.open_is_level s;
      below_levels = met.below_levels s;
      reflexive = met.reflexive s;
      antisymmetric = met.antisymmetric s;
      transitive = met.transitive s;
      meet_below = met.meet_below s;
      meet_greatest = met.meet_greatest s;
      meet_outside = met.meet_outside s;
    }
