-- What a step makes, case by case.
use Rattle.std.proofs.Common.{◌≡◌, ℕ, ◌/◌, ◌^◌, ◌≤◌, ◌<◌, ◌⊎◌, inl, inr, Bool, true, false, cond, not, List, Option, Some, None, refl, sym, ap, ◌∙◌, arith, eqb-true, ltb-true}
use Rattle.std.specs.Prelude.{◌&&◌, ◌==◌, nat_lt}
use Rattle.std.specs.List.{list_any}
use Rattle.hw_types.specs.declared.unit.Obs.{Obs}
use Rattle.hw_types.specs.declared.answers.Plan.{Plan}
use Rattle.hw_types.specs.declared.answers.PlanKind.{PlanKind}
use Rattle.hw_types.specs.declared.answers.PlanKind.TheVariants.{Propose, Confirm, Witness}
use Rattle.hw_types.specs.Graph.{Node, digest_eq, is_correct, observes, cites, unit_cites, slot, latest, past}
use Rattle.hw_types.specs.Below.{Among}
use Rattle.hw_types.specs.Rounds.{round_id, witness_time, leader_of}
use Rattle.hw_types.specs.Journal.{Setting}
use Rattle.hw_types.specs.Step.{chosen_panorama, may_not_step, is_earlier, is_at_end, is_propose, is_confirm, is_witness, plan, step_in}
use Rattle.hw_types.proofs.PastLaws.{some_of, any_of, reach_keeps}
use Rattle.hw_types.proofs.StableLaws.{and_parts, and_whole}
use Rattle.hw_types.proofs.SettledLaws.{named_by}
use Rattle.hw_types.proofs.WordsLaws.{not_true, passes_some}
use Rattle.hw_honest.proofs.KeptLaws.{KeptGraph, known, settled, state}
use Rattle.hw_honest.proofs.ChosenLaws.{own, IsUsable, chosen_usable}
use Rattle.hw_honest.proofs.RoundLaws.{round_begins, round_before, MayStep, may_step}
use Rattle.hw_honest.proofs.RuleLaws.{IsCase, made_unit}

-- a choice of at most one of three
three : {A : Type 0} (a b c d : Bool) (x y z p : A) → cond a None (cond b (Some x) (cond c (Some y) (cond d (Some z) None))) ≡ Some p
    → (a ≡ false) × (((b ≡ true) × (x ≡ p)) ⊎ (((c ≡ true) × (y ≡ p)) ⊎ ((d ≡ true) × (z ≡ p))))
three true b c d x y z p h = absurd cc
three false true c d x y z p h = (refl, inl (refl, cc))
three false false true d x y z p h = (refl, inr (inl (refl, cc)))
three false false false true x y z p h = (refl, inr (inr (refl, cc)))
three false false false false x y z p h = absurd cc

-- a panorama with something below it has a Correct slot
pub something_cited : (units : List Node) (os : List Obs) (x : Node) → Among x (past units os) → list_any is_correct os ≡ true
something_cited units os = reach_keeps unit_cites (cites os) units (λ x. list_any is_correct os ≡ true)
    (λ x m c. let o = some_of (λ p. observes p x.digest) os c in any_of is_correct o.0 os o.1 (ap is_correct (named_by o.0 x.digest o.2)))
    (λ x y h m c. h)

earlier_than : (last : Option Node) (time : ℕ) → is_earlier last time ≡ true → (p : Node) → last ≡ Some p → p.unit.time < time
earlier_than last time h p e = ltb-true p.unit.time time (sym (ap (λ o. is_earlier o time) e) ∙ h)

module _ (s : Setting) (graph : KeptGraph s) (me now : ℕ) where
  abbrev round : ℕ
  round = round_id now s.config.min_exponent

  -- the validator leads the round, before its witness time
  abbrev early : Bool
  early = (me == leader_of s.config round) && nat_lt now (witness_time round s.config.min_exponent)

  -- the time of the unit
  abbrev pub time : ℕ
  time = cond early round now

  -- the validator's last unit
  abbrev last : Option Node
  last = own s graph me

  -- the chosen panorama
  abbrev pub chosen : List Obs
  chosen = chosen_panorama s (known s graph) (settled s graph) time me (state s graph) last

  time_in_round : time / 2 ^ s.config.min_exponent ≡ now / 2 ^ s.config.min_exponent
  time_in_round = go early
    where
      go : (b : Bool) → cond b round now / 2 ^ s.config.min_exponent ≡ now / 2 ^ s.config.min_exponent
      go true = round_begins now s.config.min_exponent
      go false = refl

  time_not_later : time ≤ now
  time_not_later = go early
    where
      go : (b : Bool) → cond b round now ≤ now
      go true = round_before now s.config.min_exponent
      go false = omega arith

  block_case : (value : List ℕ) → is_propose s (settled s graph) chosen last me now ≡ true → IsCase s (settled s graph) chosen last me now time (Some value)
  block_case value h = record {
    in_round = time_in_round;
    no_later = time_not_later;
    cites = λ no. absurd cc;
    begins = λ _. ap (λ b. cond b round now) (and_whole _ _ third.1 second.0);
    leads = λ _. eqb-true me _ third.1;
    after = λ _ p e. earlier_than last round second.1 p e;
    not_ended = λ _. not_true _ whole.1;
  }
    where
      whole : ((nat_lt now (witness_time round s.config.min_exponent) && is_earlier last round && (me == leader_of s.config round)) ≡ true) × (not (is_at_end s (settled s graph) chosen) ≡ true)
      whole = and_parts _ _ h

      third : ((nat_lt now (witness_time round s.config.min_exponent) && is_earlier last round) ≡ true) × ((me == leader_of s.config round) ≡ true)
      third = and_parts _ _ whole.0

      second : (nat_lt now (witness_time round s.config.min_exponent) ≡ true) × (is_earlier last round ≡ true)
      second = and_parts _ _ third.0

  no_block_case : list_any is_correct chosen ≡ true → IsCase s (settled s graph) chosen last me now time None
  no_block_case h = record {
    in_round = time_in_round;
    no_later = time_not_later;
    cites = λ _. h;
    begins = λ no. absurd cc;
    leads = λ no. absurd cc;
    after = λ no. absurd cc;
    not_ended = λ no. absurd cc;
  }

  confirm_cites : is_confirm s (settled s graph) (state s graph) chosen last me now ≡ true → list_any is_correct chosen ≡ true
  confirm_cites h =
      let l = passes_some _ (latest (settled s graph) (state s graph) (leader_of s.config round)) (and_parts _ _ h).1 in
      let b = some_of _ (settled s graph) l.2 in
      let x = some_of (λ y. digest_eq y.digest b.0.digest) (past (settled s graph) chosen) (and_parts _ _ b.2).1 in
      something_cited (settled s graph) chosen x.0 x.1

  -- what is made
  pub record IsMade (value : List ℕ) (p : Plan) : Type 0 where
    pub content : Option (List ℕ)
    pub which : (content ≡ None) ⊎ (content ≡ Some value)
    pub may : MayStep (settled s graph) (slot (state s graph) me) last time round s.config.min_exponent
    pub usable : IsUsable s graph me time chosen
    pub case : IsCase s (settled s graph) chosen last me now time content
    pub is : made_unit s graph me time chosen content ≡ p.unit

  -- the plan of a kind with this content
  abbrev a_plan : PlanKind → Option (List ℕ) → Plan
  a_plan kind content = plan s (known s graph) (settled s graph) kind me time chosen last content

  step_is : (value : List ℕ) → step_in s (known s graph) (settled s graph) (state s graph) me now value
      ≡ cond (may_not_step (settled s graph) (slot (state s graph) me) last time round s.config.min_exponent) None
      (cond (is_propose s (settled s graph) chosen last me now) (Some (a_plan Propose (Some value)))
      (cond (is_confirm s (settled s graph) (state s graph) chosen last me now) (Some (a_plan Confirm None))
      (cond (is_witness s chosen last now) (Some (a_plan Witness None)) None)))
  unfolding step_in
  step_is value = refl

  -- what a step makes is so made
  pub step_made : (value : List ℕ) (p : Plan) → step_in s (known s graph) (settled s graph) (state s graph) me now value ≡ Some p → IsMade value p
  step_made value p h =
      let t = three (may_not_step (settled s graph) (slot (state s graph) me) last time round s.config.min_exponent)
      (is_propose s (settled s graph) chosen last me now) (is_confirm s (settled s graph) (state s graph) chosen last me now) (is_witness s chosen last now)
      (a_plan Propose (Some value)) (a_plan Confirm None) (a_plan Witness None) p (sym (step_is value) ∙ h) in
      let may = may_step (settled s graph) (slot (state s graph) me) last time round s.config.min_exponent t.0 in
      let usable = chosen_usable s graph me time may.honest may.before in
      elim t.1 [
        | inl a ↦ record { content = Some value; which = inr refl; may = may; usable = usable; case = block_case value a.0; is = ap (λ (q : Plan). q.unit) a.1 }
        | inr b ↦ elim b [
          | inl c ↦ record { content = None; which = inl refl; may = may; usable = usable; case = no_block_case (confirm_cites c.0); is = ap (λ (q : Plan). q.unit) c.1 }
          | inr d ↦ record { content = None; which = inl refl; may = may; usable = usable; case = no_block_case (and_parts _ _ d.0).1; is = ap (λ (q : Plan). q.unit) d.1 }
        ]
      ]
