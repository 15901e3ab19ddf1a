-- The four levels keep the laws.
use Rattle.std.specs.Prelude.{bit_and, refl}
use Rattle.std.proofs.Common.{arith}
use Rattle.std.proofs.lemmas.Nat.{and_le_l}
use Rattle.std.proofs.lemmas.Bool.{lt-ltb, ltb-true}
use Rattle.levels.specs.Masks.{within}
use Rattle.levels.specs.Meaning.{Lawful}
use Rattle.levels.specs.Four.{four_level, four}
use Rattle.levels.specs.Subsets.{within_refl, within_anti, within_trans, and_within_l, and_within_r, and_greatest}
use Rattle.levels.specs.Gated.{Ordered, lawful}

ordered : Ordered four_level within bit_and 1
ordered = record {
  small = λ a h. omega (arith, ltb-true a 4 h);
  open_in = refl;
  reflects = within_refl;
  anti = within_anti;
  trans = within_trans;
  m_in = λ a b p q. lt-ltb (bit_and a b) 4 (omega (arith, and_le_l a b, ltb-true a 4 p));
  m_left = and_within_l;
  m_right = and_within_r;
  m_most = and_greatest;
}

pub four_laws : Lawful four
four_laws = lawful four_level within bit_and 1 ordered
