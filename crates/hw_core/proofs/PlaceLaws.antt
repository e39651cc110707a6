-- A new unit finds its place.
use Rattle.std.proofs.Common.{◌≡◌, ◌≢◌, ℕ, ◌+◌, ◌<◌, ◌≤◌, List, [], ◌∷◌, ◌++◌, length, Some, None, refl, sym, ap, subst, ◌∙◌, arith, All}
use Rattle.std.specs.Prelude.{Result, Ok, Err, OnOk}
use Rattle.std.proofs.lemmas.List.{length-append}
use Rattle.hw_types.specs.declared.unit.Digest.{Digest}
use Rattle.hw_types.specs.declared.unit.Need.{Need}
use Rattle.hw_types.specs.declared.unit.SignedUnit.{SignedUnit}
use Rattle.hw_types.specs.declared.unit.Vertex.{Vertex}
use Rattle.hw_types.specs.declared.unit.Vertex.TheVariants as vertex
use Rattle.hw_types.specs.declared.config.Config.{Config}
use Rattle.hw_types.specs.declared.answers.Rule.{Rule}
use Rattle.hw_types.specs.declared.answers.Receipt.{Receipt}
use Rattle.hw_types.specs.declared.answers.Receipt.TheVariants as receipt
use Rattle.hw_types.specs.Rules.{state_rule}
use Rattle.hw_types.specs.Settled.{missing_of}
use Rattle.hw_types.specs.Journal.{Setting, receipt_of}
use Rattle.hw_types.specs.Real.{setting_of}
use Rattle.hw_types.proofs.OrderLaws.{Accepted}
use Rattle.hw_dag.specs.Dag.{graph}
use Rattle.hw_dag.specs.Admission.{PreparedUnit, node_prepared}
use Rattle.hw_admit.specs.State.{NodeState}
use Rattle.hw_park.specs.Parked.{Parked, Waiting}
use Rattle.hw_core.specs.Settle.{known_in, CanSettle, HasSettled, HasNoted, HasMoreRoom}
use Rattle.hw_core.specs.Keeps.{HasTaken, IsNode, AreRules}
use Rattle.hw_core.specs.Deliver.{answer_to, IsTaken}
use Rattle.hw_core.specs.Units.{IsNewUnit, IsPlaced}
use Rattle.hw_core.proofs.AnswerLaws.{answer_taken}
use Rattle.hw_core.proofs.RoomLaws.{settled_room}
use Rattle.hw_core.proofs.RuleLaws.{noted_none}
use Rattle.hw_core.proofs.SettleLaws.{settled_none, grows_itself, grows_then, grows_roomy}
use Rattle.hw_core.proofs.TakeLaws.{node_after, rules_after, newly_is}
use Rattle.hw_core.proofs.UnitBoundLaws.{accepted_met, accepted_parked, unit_taken}
use Rattle.hw_core.proofs.UnitEndLaws.{new_taken, can_parked, none_parked, receipt_parked, receipt_dropped, receipt_admitted}

-- ---- a state of which at most the room changed

same_room : (s later : NodeState) → later ≡ s → HasMoreRoom s later
same_room s later same = subst (λ (t : NodeState). HasMoreRoom s t) (sym same) (record { kept = omega arith; unchanged = refl })

more_then : (s between later : NodeState) → HasMoreRoom s between → HasMoreRoom between later → HasMoreRoom s later
more_then s between later first second =
    let a = first.kept in
    let b = second.kept in
    record {
      kept = omega arith;
      unchanged = second.unchanged ∙ ap (λ (t : NodeState). record t { spare = later.spare; dag = record t.dag { spare = later.dag.spare } }) first.unchanged;
    }

-- ---- the place of a new unit

module _ (journal : List Vertex) (park : Parked PreparedUnit) (state : NodeState) (node : IsNode journal park state) (p : PreparedUnit) (new : IsNewUnit state.config journal p.signed p.digest) where
  abbrev s : Setting
  s = setting_of state.config

  abbrev v : Vertex
  v = vertex.Unit p.signed

  -- it misses nothing, and settled or was dropped
  module _ (met : missing_of state.config (known_in state) (graph state.dag) (node_prepared p) ≡ []) (later : NodeState) (after : Parked PreparedUnit) (limit : after.limit ≡ park.limit)
      (settled : HasSettled state (park.waiting ++ record { needs = []; item = p } ∷ []) later after.waiting) (can : CanSettle later after.waiting) (none : All (λ w. w.needs ≢ []) after.waiting)
      (rules noted : List (Digest × Rule)) (are : AreRules s journal rules) (notes : HasNoted state (park.waiting ++ record { needs = []; item = p } ∷ []) rules later after.waiting noted) where
    abbrev start : List (Waiting PreparedUnit)
    start = park.waiting ++ record { needs = []; item = p } ∷ []

    ok : Accepted s journal v
    ok = accepted_met journal park state node p.signed p.digest new [] (sym met) refl

    is_taken : IsTaken state.config journal v
    is_taken = unit_taken state.config journal p.signed ok

    taken : HasTaken s journal v state start
    taken = new_taken journal park state node p.signed p.digest new p refl refl [] state refl

    placed : (r : Receipt) → receipt_of s journal v ≡ r → (((n : ℕ) → r ≢ receipt.Admitted n) → HasMoreRoom state later) → IsPlaced state (length park.waiting) journal p.signed later after noted r
    placed r e still = record {
      node = node_after journal park state node v is_taken state start taken later after limit settled can none;
      rules_are = rules_after journal park state node v is_taken state start taken later after limit settled can none rules noted are notes;
      config = settled.same.config;
      grows = settled.same.grows;
      still = still;
      room = let most = settled_room state start later after.waiting can settled in let long = length-append park.waiting (record { needs = []; item = p } ∷ []) in omega arith;
      taken = is_taken;
      answer = answer_taken s journal v ok ∙ ap Ok e;
    }

    pub placed_settled : state_rule state.config (graph state.dag) (node_prepared p) ≡ None → (n : ℕ) → length (graph state.dag) + n ≡ length (graph later.dag)
        → IsPlaced state (length park.waiting) journal p.signed later after noted (receipt.Admitted n)
    placed_settled kept n count = placed (receipt.Admitted n) (receipt_admitted journal park state node p.signed p.digest new p refl refl [] (sym met) ok refl kept n
        (newly_is journal park state node v is_taken state start taken later after limit settled can none n count)) (λ other. absurd (other n refl))

    pub placed_dropped : (rule : Rule) → state_rule state.config (graph state.dag) (node_prepared p) ≡ Some rule → later ≡ state → IsPlaced state (length park.waiting) journal p.signed later after noted (receipt.Dropped rule)
    placed_dropped rule broken same = placed (receipt.Dropped rule) (receipt_dropped journal park state node p.signed p.digest new p refl refl [] (sym met) ok refl rule broken) (λ other. same_room state later same)

  -- it misses something, and waits
  module _ (needs : List Need) (needs_are : needs ≡ missing_of state.config (known_in state) (graph state.dag) (node_prepared p)) (some : needs ≢ []) (room : length park.waiting < park.limit)
      (fits : length park.waiting + 1 ≤ state.spare) where
    abbrev waits : List (Waiting PreparedUnit)
    waits = park.waiting ++ record { needs = needs; item = p } ∷ []

    accepted : Accepted s journal v
    accepted = accepted_parked journal park state node p.signed p.digest new needs needs_are room

    pub placed_parked : (rules : List (Digest × Rule)) → AreRules s journal rules → IsPlaced state (length park.waiting) journal p.signed state (record park { waiting = waits }) rules (receipt.Parked (length needs))
    placed_parked rules are =
        let after : Parked PreparedUnit = record park { waiting = waits } in
        let is_taken = unit_taken state.config journal p.signed accepted in
        let taken = new_taken journal park state node p.signed p.digest new p refl refl needs state refl in
        let can = can_parked journal park state node p.signed p.digest new p refl refl needs needs_are state refl fits in
        let none = none_parked journal park state node p.signed p.digest new p refl refl needs needs_are some in
        record {
          node = node_after journal park state node v is_taken state waits taken state after refl (settled_none state waits) can none;
          rules_are = rules_after journal park state node v is_taken state waits taken state after refl (settled_none state waits) can none rules rules are (noted_none state waits rules);
          config = refl;
          grows = grows_itself state.dag;
          still = λ other. same_room state state refl;
          room = let long = length-append park.waiting (record { needs = needs; item = p } ∷ []) in omega arith;
          taken = is_taken;
          answer = answer_taken s journal v accepted ∙ ap Ok (receipt_parked journal park state node p.signed p.digest new p refl refl needs needs_are accepted some);
        }

-- what has its place in a state with more room has it in the state
pub placed_roomy : (state roomy : NodeState) → HasMoreRoom state roomy → (waiting : ℕ) (journal : List Vertex) (unit : SignedUnit) (later : NodeState) (after : Parked PreparedUnit) (rules : List (Digest × Rule)) (r : Receipt)
    → IsPlaced roomy waiting journal unit later after rules r → IsPlaced state waiting journal unit later after rules r
placed_roomy state roomy more waiting journal unit later after rules r is =
    let same : roomy.config ≡ state.config = ap (λ (t : NodeState). t.config) more.unchanged in
    let graphs = ap (λ (t : NodeState). length (graph t.dag)) more.unchanged in
    let room = is.room in
    record {
      node = is.node;
      rules_are = subst (λ (g : Config). AreRules (setting_of g) (journal ++ vertex.Unit unit ∷ []) rules) same is.rules_are;
      config = is.config ∙ same;
      grows = grows_then state.dag roomy.dag later.dag (grows_roomy state roomy more) is.grows;
      still = λ other. more_then state roomy later more (is.still other);
      room = omega arith;
      taken = subst (λ (g : Config). IsTaken g journal (vertex.Unit unit)) same is.taken;
      answer = subst (λ (g : Config). answer_to g journal (vertex.Unit unit) ≡ Ok r) same is.answer;
    }

pub always_ok : {A E P : Type 0} (r : Result A E) → P → OnOk r P
always_ok (Ok a) p = p
always_ok (Err e) p = tt
