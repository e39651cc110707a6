-- What a unit that keeps the rules of the unit alone is fit for.
use Rattle.std.proofs.Common.{◌≡◌, ◌≤◌, length, None, arith, ◌∙◌, leb-false, eqb-true}
use Rattle.std.specs.Prelude.{nat_lt}
use Rattle.std.proofs.lemmas.Bool.{ltb-false}
use Rattle.hw_types.specs.declared.config.Config.{Config}
use Rattle.hw_types.specs.Limits.{config_fault}
use Rattle.hw_types.specs.Rules.{local_tests}
use Rattle.hw_types.proofs.LimitLaws.{within_limits}
use Rattle.hw_types.proofs.WordsLaws.{AllFalse, none_broken, not_false, or_none}
use Rattle.hw_dag.specs.Dag.{UnitGraph}
use Rattle.hw_dag.specs.Admission.{PreparedUnit, IsFor, IsResolved, IsGraph}
use Rattle.hw_rules.specs.Judged.{IsCase, KeepsLocalRules}

module _ (config : Config) (p : PreparedUnit) (alone : KeepsLocalRules config p.signed.unit) where
  kept : AllFalse (local_tests config alone.0 p.signed.unit)
  kept = none_broken _ alone.1

  pub fits : IsFor (length config.weights) p.signed
  unfolding local_tests
  fits = record { creator_is = leb-false (length config.weights) p.signed.unit.creator kept.1.0; length_is = eqb-true _ _ (not_false _ kept.1.1.0) }

  exponent_within : p.signed.unit.exponent ≤ config.max_exponent
  unfolding local_tests
  exponent_within = ltb-false config.max_exponent p.signed.unit.exponent (or_none (nat_lt p.signed.unit.exponent config.min_exponent) (nat_lt config.max_exponent p.signed.unit.exponent) kept.1.1.1.1.1.0).1

  -- its exponent is one that rounds may have,
  pub exponent_small : config_fault config ≡ None → p.signed.unit.exponent ≤ 40
  exponent_small lawful = let most = (within_limits config lawful).exponents.2 in let within = exponent_within in omega arith

  -- and once it is resolved it can be judged
  pub is_case : (dag : UnitGraph) → length config.weights ≡ dag.validators → IsGraph dag → IsResolved dag p → IsCase dag p
  is_case dag e g r = record { graph_is = g; is_for = record { creator_is = let lt = fits.creator_is in omega arith; length_is = fits.length_is ∙ e }; resolved = r }
