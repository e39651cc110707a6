use Rattle.std.proofs.Common.{◌≡◌, ℕ, [], length, Option, sym, ap, ◌∙◌, arith}
use Rattle.std.specs.Prelude.{is_some, ◌==◌, if◌then◌else◌}
use Rattle.hw_types.specs.declared.answers.Plan.{Plan}
use Rattle.hw_types.specs.declared.config.Config.{Config}
use Rattle.hw_types.specs.declared.unit.Digest.{Digest}
use Rattle.hw_types.specs.Rounds.{round_id, leader_of}
use Rattle.hw_validator.proofs.NodeStepLaws.{small_exponent}
use Rattle.hw_c.specs.Answers.{flag, digest_bytes}
use Rattle.hw_c.specs.Due.{kind_of, name_of, proposal_parent}
use Rattle.hw_c.specs.Steps.{step_in}
use Rattle.hw_c.proofs.DueLaws.{due_stays, first_turn, why_is}
use Rattle.hw_c.proofs.DuePlans.{plan_fits_if, proposed_is, some_named}
use Rattle.hw_c.proofs.due.due_over.Goals as goal

pub planned_unit-requires-clause-me : goal.planned_unit-requires-clause-me
planned_unit-requires-clause-me c =
    let same : length c.args.config.now.weights ≡ length c.args.core.now.config.weights = ap (λ (k : Config). length k.weights) c.requires.seen.config_is in
    let many = c.requires.weights.length_is in
    let known = c.requires.me in
    omega arith

pub parent_of_plan-requires-clause-fit : goal.parent_of_plan-requires-clause-fit
parent_of_plan-requires-clause-fit c =
    let same : length c.args.config.now.weights ≡ length c.args.core.now.config.weights = ap (λ (k : Config). length k.weights) c.requires.seen.config_is in
    let many = c.requires.weights.length_is in
    let known = c.requires.me in
    plan_fits_if c.args.core.now c.args.dag.now c.args.config.now c.args.observed.now c.requires.seen c.requires.lawful c.args.me c.args.moment.now.at (omega arith) [] c.in_ok-plan.plan c.in_ok-plan.ensures

pub why_of-requires-clause-exponent : goal.why_of-requires-clause-exponent
why_of-requires-clause-exponent c = small_exponent c.args.config.now c.requires.lawful

pub next_moment-requires-clause-exponent : goal.next_moment-requires-clause-exponent
next_moment-requires-clause-exponent c = small_exponent c.args.config.now c.requires.lawful

pub returns : goal.returns
returns c =
    let core = c.args.core.now in
    let config = c.args.config.now in
    let m = c.args.moment.now in
    let of = c.requires.seen in
    let made : c.in_ok-plan.plan ≡ step_in core c.args.me m.at [] = c.in_ok-plan.ensures in
    let kind : c.kind_of-kind.result ≡ kind_of (step_in core c.args.me m.at []) = c.kind_of-kind.ensures ∙ ap kind_of made in
    let round : m.round ≡ round_id m.at core.config.min_exponent = c.requires.moment.round_is ∙ ap (λ (k : Config). round_id m.at k.min_exponent) of.config_is in
    let found : c.in_ok-found.found ≡ name_of (proposal_parent core (step_in core c.args.me m.at [])) =
    c.in_ok-found.ensures ∙ ap name_of (proposed_is core c.args.dag.now config c.args.observed.now of c.in_ok-plan.plan) ∙ ap (λ (o : Option Plan). name_of (proposal_parent core o)) made in
    record {
      same = λ value t after before. due_stays core c.args.dag.now config c.args.observed.now of c.args.me m.at c.next_moment.result c.next_moment.ensures [] value t after before ∙ sym kind;
      later = c.next_moment.ensures.later;
      next_is = first_turn core c.args.dag.now config c.args.observed.now of c.args.me m.at c.next_moment.result c.next_moment.ensures;
      why_is = c.why_of.ensures ∙ ap (λ (w : ℕ). if c.kind_of-kind.result == 3 then w else 0) (why_is core c.args.dag.now config c.args.observed.now of c.args.me m.at);
      round_is = round;
      leader_is = c.requires.moment.leader_is ∙ ap (λ (k : Config). leader_of k m.round) of.config_is;
      has_parent_is = c.flag.ensures ∙ ap flag (c.is_some.ensures ∙ ap (λ (o : Option Digest). is_some o) found ∙ some_named (proposal_parent core (step_in core c.args.me m.at [])));
      parent_is = c.digest_bytes-parent.ensures ∙ ap digest_bytes found;
    }
