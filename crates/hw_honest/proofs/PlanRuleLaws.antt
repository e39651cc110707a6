-- What the unit of a plan keeps, and where it stands.
use Rattle.std.proofs.Common.{◌≡◌, ℕ, ◌^◌, ◌≤◌, ◌<◌, ◌⊎◌, inl, inr, true, false, List, [], length, Option, Some, None, refl, sym, ap, subst, ◌∙◌, arith, leb-true}
use Rattle.std.specs.Prelude.{IfSome}
use Rattle.hw_types.specs.declared.unit.Obs.{Obs}
use Rattle.hw_types.specs.declared.unit.Obs.TheVariants.{Absent, Correct}
use Rattle.hw_types.specs.declared.unit.Vertex.{Vertex}
use Rattle.hw_types.specs.declared.unit.WireUnit.{WireUnit}
use Rattle.hw_types.specs.declared.answers.Plan.{Plan}
use Rattle.hw_types.specs.Graph.{Node, is_faulty_mark, observed, previous, slot, is_on_lane}
use Rattle.hw_types.specs.Below.{Among}
use Rattle.hw_types.specs.Rules.{local_rule, state_rule}
use Rattle.hw_types.specs.Settled.{panorama_of, missing_of}
use Rattle.hw_types.specs.Spelling.{Fits}
use Rattle.hw_types.specs.Journal.{Setting, named, received_of}
use Rattle.hw_types.specs.laws.StateLaws.{OneTip}
use Rattle.hw_types.specs.Step.{step, next_seq}
use Rattle.hw_honest.specs.Plans.{settled_in, IsPlannedOver, IsPlanned, PlannedIsOverSettled, KeepsRules, StepKeepsRules, PlanKeepsRules, OwnListFits, StepFits}
use Rattle.hw_types.proofs.WordsLaws.{either, never_both}
use Rattle.hw_types.proofs.LimitLaws.{IsWithinLimits, within_limits}
use Rattle.hw_types.proofs.UnionLaws.{one_of_name}
use Rattle.hw_types.proofs.TipLaws.{one_tip, other_slots}
use Rattle.hw_honest.proofs.KeptLaws.{KeptGraph, settled_are_kept, settled, faulty, state, lawful}
use Rattle.hw_honest.proofs.ChosenLaws.{own, OwnCase, first, next, own_case}
use Rattle.hw_honest.proofs.NeedLaws.{none_missing}
use Rattle.hw_honest.proofs.RuleLaws.{made_unit, keeps_alone, keeps_rules}
use Rattle.hw_honest.proofs.StepLaws.{time, chosen, IsMade, step_made}

-- ---- its rules

module _ (s : Setting) (graph : KeptGraph s) (me now : ℕ) (value : List ℕ) (p : Plan) (planned : IsPlannedOver s graph.received graph.units me now value p) where
  abbrev at_time : ℕ
  at_time = time s graph me now

  -- the chosen panorama
  abbrev cites : List Obs
  cites = chosen s graph me now

  limits_over : IsWithinLimits s.config
  limits_over = within_limits s.config planned.sound

  made : IsMade s graph me now value p
  made = step_made s graph me now value p planned.is

  -- the unit keeps all rules
  pub over_keeps : KeepsRules s graph.received graph.units p
  over_keeps = record {
    alone = subst (λ u. local_rule s.config s.instance u ≡ None) made.is
        (keeps_alone s graph me now at_time cites made.content limits_over planned.validator made.usable made.may made.case);
    needs = subst (λ u. missing_of s.config graph.received graph.units (named s u) ≡ []) made.is
        (none_missing s graph me at_time (named s (made_unit s graph me at_time cites made.content)) made.usable refl);
    rules = subst (λ u. state_rule s.config graph.units (named s u) ≡ None) made.is
        (keeps_rules s graph me now at_time cites made.content limits_over planned.validator made.usable made.may made.case);
  }

  -- ---- its limits

  -- and the limits of its format
  pub over_fits : OwnListFits s graph.received graph.units me → now < 2 ^ 63 → length value ≤ 4096 → Fits p.unit
  over_fits lists soon short = subst Fits made.is (record {
    time = (let le = made.case.no_later in omega arith);
    panorama = (let long = made.usable.long in let few = limits_over.few in omega arith);
    value = content_short made.content made.which;
    endorsed = leb-true _ _ (made.usable.few lists);
  })
    where
      content_short : (o : Option (List ℕ)) → ((o ≡ None) ⊎ (o ≡ Some value)) → IfSome o (λ bytes. length bytes ≤ 4096)
      content_short o (inl e) = subst (λ q. IfSome q (λ bytes. length bytes ≤ 4096)) (sym e) tt
      content_short o (inr e) = subst (λ q. IfSome q (λ bytes. length bytes ≤ 4096)) (sym e) short

  -- ---- its place

  -- the validator is not faulty
  pub own_honest : faulty s graph me ≡ false
  own_honest = elim (either (faulty s graph me)) [
    | inr good ↦ good
    | inl bad ↦ absurd (never_both _ (ap is_faulty_mark ((other_slots s.config (faulty s graph) (settled s graph) (lawful s graph)).marked me planned.validator bad)) made.may.honest)
  ]

  -- it has no unit, or a last one
  pub own_is : OwnCase s graph me
  own_is = own_case s graph me made.may.honest

  -- a settled unit of the validator is on the lane of its last one
  pub on_last_lane : (x : Node) → Among x (settled s graph) → x.unit.creator ≡ me → (t : Node) × (own s graph me ≡ Some t) × Among t (settled s graph) × (is_on_lane (settled s graph) x t ≡ true)
  on_last_lane x m c = go own_is
    where
      tip : OneTip s.config (faulty s graph) (settled s graph) me
      tip = one_tip s.config (faulty s graph) (settled s graph) (lawful s graph) me x own_honest m c

      go : OwnCase s graph me → (t : Node) × (own s graph me ≡ Some t) × Among t (settled s graph) × (is_on_lane (settled s graph) x t ≡ true)
      go (first none absent) = absurd (let no : Absent ≡ Correct tip.tip.digest = sym absent ∙ tip.slot_is in cc)
      go (next q is mq at e) =
          let named_twice : Correct q.digest ≡ Correct tip.tip.digest = sym e ∙ tip.slot_is in
          let same : tip.tip ≡ q = one_of_name s.config.weights (faulty s graph) (settled s graph) (lawful s graph) tip.tip q tip.is_tip.member mq (let d : tip.tip.digest ≡ q.digest = cc in d) in
          (q, is, mq, subst (λ z. is_on_lane (settled s graph) x z ≡ true) same (tip.is_tip.lane x m c))

  -- the number is one above the last unit's
  pub plan_number : p.unit.seq ≡ next_seq (own s graph me)
  plan_number = ap (λ (u : WireUnit). u.seq) (sym made.is)

  -- the unit is the validator's
  pub plan_creator : p.unit.creator ≡ me
  plan_creator = ap (λ (u : WireUnit). u.creator) (sym made.is)

  -- its own slot is the state's
  pub plan_observes : slot p.unit.panorama me ≡ slot (state s graph) me
  plan_observes = ap (λ (u : WireUnit). slot u.panorama me) (sym made.is) ∙ made.usable.own

  -- and so its previous unit is the last one
  pub plan_previous : previous (settled s graph) (named s p.unit) ≡ own s graph me
  plan_previous = ap (λ (u : WireUnit). previous (settled s graph) (named s u)) (sym made.is) ∙ ap (observed (settled s graph)) made.usable.own

-- ---- the laws

planned_over : (s : Setting) (journal : List Vertex) (me now : ℕ) (value : List ℕ) (p : Plan) → IsPlanned s journal me now value p → IsPlannedOver s (received_of s journal) (settled_in s journal) me now value p
unfolding step panorama_of
planned_over s journal me now value p planned = record { sound = planned.sound; validator = planned.validator; is = planned.is }

pub planned_is_over_settled : PlannedIsOverSettled
planned_is_over_settled s journal me now value p planned = (settled_are_kept s journal, planned_over s journal me now value p planned)

pub step_keeps_rules : StepKeepsRules
step_keeps_rules s received units me now value p kept planned = over_keeps s (record { received = received; units = units; kept = kept }) me now value p planned

pub plan_keeps_rules : PlanKeepsRules
plan_keeps_rules s journal me now value p planned =
    let over = planned_is_over_settled s journal me now value p planned in
    step_keeps_rules s (received_of s journal) (settled_in s journal) me now value p over.0 over.1

pub step_fits : StepFits
step_fits s received units me now value p kept planned = over_fits s (record { received = received; units = units; kept = kept }) me now value p planned
