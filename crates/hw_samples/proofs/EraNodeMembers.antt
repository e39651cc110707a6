-- The nodes of two eras, worked.
use Rattle.std.proofs.Common.{◌≡◌, true, false, List, [], ◌∷◌, Some, Ok, Err, inl, refl, sym, subst, arith}
use Rattle.std.specs.Prelude.{slice_set}
use Rattle.hw_types.specs.declared.answers.Decision.{Decision}
use Rattle.hw_types.specs.declared.answers.Cause.TheVariants as cause
use Rattle.hw_types.specs.declared.answers.Receipt.TheVariants.{Admitted}
use Rattle.hw_types.specs.Below.{Among}
use Rattle.hw_types.specs.Spelling.{digest_of, instance_of}
use Rattle.hw_types.specs.Real.{setting_of, answer_in, after_in}
use Rattle.hw_types.specs.Journal.{named}
use Rattle.hw_core.specs.Decided.{decided_in}
use Rattle.hw_core.specs.Promises.{begun}
use Rattle.hw_eras.specs.Eras.{last_block}
use Rattle.hw_eras.specs.Nodes.{era_of, IsMadeAgain, next_of, IsUnended, AreNodeEras, IsLastUnended}
use Rattle.hw_eras.proofs.NodeLaws.{nodes_eras}
use Rattle.hw_samples.specs.Words.{unfold_answers, unfold_decisions, unfold_names, unfold_reading}
use Rattle.hw_samples.specs.RealNames.{sends}
use Rattle.hw_samples.specs.EraNodes.{brief, brief_instance, brief_name, brief_block, ended_node, block_node, next_brief, two_nodes, EraNodesAreThere}

instance : instance_of brief ≡ brief_instance
unfolding unfold_names
instance = refl

name : digest_of brief_block ≡ brief_name
unfolding unfold_names
name = refl

again : IsMadeAgain ended_node
unfolding unfold_answers unfold_names
again = refl

abbrev its_decision : Decision
its_decision = record { block = brief_name; height = 0; level = 1; quorum = 1; at = 2 }

decided : decided_in ended_node ≡ its_decision ∷ []
unfolding unfold_decisions unfold_names
decided = refl

last : last_block (setting_of brief) (era_of ended_node) ≡ Some (named (setting_of brief) brief_block)
unfolding unfold_decisions unfold_names last_block
last = refl

next : next_of ended_node ≡ Some next_brief
unfolding unfold_decisions unfold_names unfold_reading last_block Rattle.hw_eras.specs.Eras.next_config Rattle.hw_eras.specs.Eras.named_by
next = refl

nothing_decided : decided_in (begun next_brief) ≡ []
unfolding unfold_decisions
nothing_decided = refl

unended : IsUnended (begun next_brief)
unended end d ends m is = let none : Among d [] = subst (λ (ds : List Decision). Among d ds) nothing_decided m in none

eras : AreNodeEras two_nodes
eras = record { some = omega arith; few = omega arith; eras = (refl, again, (next, refl, tt)) }

last_unended : IsLastUnended two_nodes
last_unended core is = let same : begun next_brief ≡ core = cc in subst IsUnended same unended

ended : IsUnended ended_node → ⊥
ended none = none 0 its_decision refl (subst (λ (ds : List Decision). Among its_decision ds) (sym decided) (inl refl)) refl

admitted : answer_in (begun brief) (sends brief_block) true ≡ Ok (Admitted 1)
unfolding unfold_answers unfold_names
admitted = refl

taken : block_node ∷ [] ≡ slice_set (begun brief ∷ []) 0 (after_in (begun brief) (sends brief_block) true)
unfolding unfold_answers unfold_names
taken = refl

refused : answer_in (begun brief) (sends brief_block) false ≡ Err cause.BadSignature
unfolding unfold_answers unfold_names
refused = refl

pub era_nodes_are_there : EraNodesAreThere
era_nodes_are_there = record {
  instance = instance;
  name = name;
  eras = eras;
  are = nodes_eras two_nodes brief eras refl;
  again = again;
  last = (named (setting_of brief) brief_block, last, name);
  next = next;
  unended = unended;
  last_unended = last_unended;
  opened = record { core = ended_node; last = refl; config = next_brief; named = next; number_is = refl; left = refl };
  delivered = record { core = begun brief; its = refl; answer = admitted; left = taken };
  refused = (begun brief, refl, refused);
  unknown = omega arith;
  full = ((λ unended. ended (unended ended_node refl)), refl);
}
