-- A planned unit keeps the rules, so that a graph has what it cites.
use Rattle.std.proofs.Common.{◌≡◌, ℕ, ◌<◌, List, [], length, Option, None, Some, refl, sym, ap, subst, ◌∙◌}
use Rattle.std.specs.Prelude.{IfSome, is_some}
use Rattle.hw_types.specs.declared.answers.Plan.{Plan}
use Rattle.hw_types.specs.declared.answers.PlanKind.{PlanKind}
use Rattle.hw_types.specs.declared.answers.PlanKind.TheVariants.{Propose, Confirm, Witness}
use Rattle.hw_types.specs.declared.config.Config.{Config}
use Rattle.hw_types.specs.declared.unit.Signature.{Signature}
use Rattle.hw_types.specs.declared.unit.WireUnit.{WireUnit}
use Rattle.hw_types.specs.Graph.{Node}
use Rattle.hw_types.specs.Journal.{named}
use Rattle.hw_types.specs.Limits.{config_fault}
use Rattle.hw_types.specs.Real.{CoreState, setting_of, received_in, settled_in}
use Rattle.hw_types.specs.Rules.{state_rule}
use Rattle.hw_types.specs.Spelling.{digest_of}
use Rattle.hw_types.specs.Votes.{fork_of}
use Rattle.hw_dag.specs.declared.numbers.View.{View}
use Rattle.hw_dag.specs.Dag.{UnitGraph, graph, IsPanorama}
use Rattle.hw_dag.specs.Admission.{PreparedUnit, AllKnown, IsFor, IsGraph, IsResolved}
use Rattle.hw_rules.specs.Judged.{KeepsLocalRules}
use Rattle.hw_rules.proofs.LocalLaws as local
use Rattle.hw_admit.proofs.RuleLaws as rule
use Rattle.hw_core.proofs.NeedLaws.{cited_met}
use Rattle.hw_honest.proofs.PlanRuleLaws.{plan_keeps_rules}
use Rattle.hw_c.specs.Due.{IsFit, IsViewOf, name_of, proposed_on, proposal_parent, stands_on, parent_over}
use Rattle.hw_c.specs.Steps.{step_in}

-- the unit of a plan fits the graph
pub plan_fits : (core : CoreState) (dag : UnitGraph) (config : Config) (seen : List View) → IsViewOf core dag config seen → config_fault core.config ≡ None → (me now : ℕ) → me < length core.config.weights
    → (value : List ℕ) (p : Plan) → step_in core me now value ≡ Some p → IsFit dag config p.unit
plan_fits core dag config seen of lawful me now known value p made =
    let s = setting_of core.config in
    let kept = plan_keeps_rules s core.journal me now value p (record { sound = lawful; validator = known; is = made }) in
    record {
      alone = subst (λ (k : Config). KeepsLocalRules k p.unit) (sym of.config_is) (s.instance, kept.alone);
      known = subst (λ (us : List Node). AllKnown us p.unit.panorama) (sym of.settled) (cited_met core.config (received_in core) (settled_in core) (named s p.unit) kept.needs);
      rules = subst (λ (k : Config). state_rule k (graph dag) (named s p.unit) ≡ None) (sym of.config_is) (subst (λ (us : List Node). state_rule core.config us (named s p.unit) ≡ None) (sym of.settled) kept.rules);
    }

-- it is a unit of the graph's validators
pub is_for : (config : Config) (dag : UnitGraph) → length config.weights ≡ dag.validators → (unit : WireUnit) → IsFit dag config unit → (signature : Signature) → IsFor dag.validators (record { unit = unit; signature = signature })
is_for config dag many unit fit signature = subst (λ (n : ℕ). IsFor n (record { unit = unit; signature = signature })) many
    (local.fits config (record { digest = digest_of unit; signed = record { unit = unit; signature = signature }; panorama = [] }) fit.alone)

-- what it cites is in the graph, each unit in its creator's slot
pub panorama_fits : (config : Config) (dag : UnitGraph) → IsGraph dag → length config.weights ≡ dag.validators → (unit : WireUnit) → IsFit dag config unit
    → (p : PreparedUnit) → p.signed.unit ≡ unit → IsResolved dag p → IsPanorama dag p.panorama
panorama_fits config dag g many unit fit p is resolved =
    rule.sound config dag g many (record { digest = digest_of unit; signed = record { unit = unit; signature = p.signed.signature }; panorama = p.panorama }) fit.alone
    (record { known = resolved.known; observes = resolved.observes ∙ ap (λ (u : WireUnit). u.panorama) is }) fit.rules

-- what a proposal stands on over the graph is what it stands on by the journal
pub proposed_is : (core : CoreState) (dag : UnitGraph) (config : Config) (seen : List View) → IsViewOf core dag config seen → (plan : Option Plan) → proposed_on dag config plan ≡ proposal_parent core plan
proposed_is core dag config seen of None = refl
proposed_is core dag config seen of (Some p) = go p.kind
  where
    over : stands_on dag config p.unit.panorama ≡ parent_over core p
    over = ap (λ (k : Config). fork_of k.weights (graph dag) p.unit.panorama) of.config_is ∙ ap (λ (us : List Node). fork_of core.config.weights us p.unit.panorama) of.settled

    go : (kind : PlanKind) → ◌≡◌ {A = Option Node} (elim kind [ Propose ↦ stands_on dag config p.unit.panorama | Confirm ↦ None | Witness ↦ None ]) (elim kind [ Propose ↦ parent_over core p | Confirm ↦ None | Witness ↦ None ])
    go Propose = over
    go Confirm = refl
    go Witness = refl

-- the unit of a plan fits the graph, if there is one
pub plan_fits_if : (core : CoreState) (dag : UnitGraph) (config : Config) (seen : List View) → IsViewOf core dag config seen → config_fault config ≡ None → (me now : ℕ) → me < length core.config.weights
    → (value : List ℕ) (o : Option Plan) → o ≡ step_in core me now value → IfSome o (λ p. IsFit dag config p.unit)
plan_fits_if core dag config seen of lawful me now known value None made = tt
plan_fits_if core dag config seen of lawful me now known value (Some p) made =
    plan_fits core dag config seen of (subst (λ (k : Config). config_fault k ≡ None) of.config_is lawful) me now known value p (sym made)

-- there is a name where there is a unit
pub some_named : (x : Option Node) → is_some (name_of x) ≡ is_some x
some_named None = refl
some_named (Some u) = refl
