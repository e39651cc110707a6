-- The decided blocks of a node as its journal grows.
use Rattle.std.proofs.Common.{◌≡◌, inl, inr, ℕ, zero, suc, ◌+◌, ◌≤◌, List, [], ◌∷◌, ◌++◌, length, map, take, Some, None, refl, sym, ap, subst, ◌∙◌, arith}
use Rattle.std.specs.Prelude.{◌||◌, slice_get}
use Rattle.std.proofs.lemmas.Bool.{cases_lt}
use Rattle.std.proofs.lemmas.Option.{slice_get_past}
use Rattle.hw_types.specs.declared.unit.Vertex.{Vertex}
use Rattle.hw_types.specs.declared.answers.Decision.{Decision}
use Rattle.hw_types.specs.declared.config.Config.{Config}
use Rattle.hw_types.specs.Below.{Among}
use Rattle.hw_types.specs.Decisions.{AreDecisions}
use Rattle.hw_types.specs.Settled.{Received, settled_of, equivocates, panorama_of, panorama_over, faulty_weight}
use Rattle.hw_types.specs.Journal.{Setting, received_of}
use Rattle.hw_types.specs.Votes.{weight_of}
use Rattle.hw_types.specs.Real.{setting_of}
use Rattle.hw_types.proofs.DecisionLaws.{decisions_one}
use Rattle.hw_safety.specs.Decided.{decisions_of}
use Rattle.hw_safety.proofs.HeightLaws.{one_block_each}
use Rattle.hw_safety.proofs.DecidedLaws.{decisions_are}
use Rattle.hw_dag.specs.declared.numbers.View.{View}
use Rattle.hw_dag.specs.Dag.{SettledUnit, UnitGraph, GrowsTo, graph, observations}
use Rattle.hw_dag.specs.Admission.{PreparedUnit, IsGraph}
use Rattle.hw_admit.specs.State.{NodeState, is_faulty_in, observed_in}
use Rattle.hw_horizon.specs.declared.found.Found.{Found}
use Rattle.hw_horizon.specs.Detected.{DetectorState, IsTrueOf, HasRun, decision_of, decisions_of as found_in}
use Rattle.hw_horizon.specs.DetectorLaws.{IsMoment, DecidesOn}
use Rattle.hw_horizon.proofs.StayLaws.{detector_stays}
use Rattle.hw_horizon.proofs.NumberLaws.{stays}
use Rattle.hw_park.specs.Parked.{Parked}
use Rattle.hw_safety.proofs.DetectorLaws.{quiet, nothing_at_first}
use Rattle.hw_core.specs.Settle.{HasMoreRoom}
use Rattle.hw_core.specs.Keeps.{IsNode}
use Rattle.hw_core.proofs.CountLaws.{graph_length}
use Rattle.hw_core.proofs.SettleLaws.{grows_roomy}
use Rattle.hw_core.proofs.StillLaws.{HasSameUnits}
use Rattle.hw_core.specs.Decided.{DecidedState, IsToldOf, HasRoomFor, HasOnlyRoom, IsDecided}

-- ---- lists

pub get_mapped : {A B : Type 0} (f : A → B) (xs : List A) (n : ℕ) (x : A) → slice_get xs n ≡ Some x → slice_get (map f xs) n ≡ Some (f x)
get_mapped f [] n x h = absurd (let none : None ≡ Some x = sym (slice_get_past [] n (omega arith)) ∙ h in cc)
get_mapped f (y ∷ ys) zero x h = let same : y ≡ x = (let e : Some y ≡ Some x = h in cc) in ap (λ (z : _). Some (f z)) same
get_mapped f (y ∷ ys) (suc n) x h = get_mapped f ys n x h

pub take_all : {A : Type 0} (xs : List A) (n : ℕ) → length xs ≤ n → take n xs ≡ xs
take_all [] zero le = refl
take_all [] (suc n) le = refl
take_all (x ∷ xs) zero le = absurd (omega arith)
take_all (x ∷ xs) (suc n) le = ap (λ (ys : List _). x ∷ ys) (take_all xs n (omega arith))

take_first : {A : Type 0} (xs ys : List A) → take (length xs) (xs ++ ys) ≡ xs
take_first [] ys = refl
take_first (x ∷ xs) ys = ap (λ (zs : List _). x ∷ zs) (take_first xs ys)

map_append : {A B : Type 0} (f : A → B) (xs ys : List A) → map f (xs ++ ys) ≡ map f xs ++ map f ys
map_append f [] ys = refl
map_append f (x ∷ xs) ys = ap (λ (zs : List _). f x ∷ zs) (map_append f xs ys)

append_nothing : {A : Type 0} (xs : List A) → xs ≡ xs ++ []
append_nothing [] = refl
append_nothing (x ∷ xs) = ap (λ (ys : List _). x ∷ ys) (append_nothing xs)

pub found_at : {A : Type 0} (xs : List A) (n : ℕ) (x : A) → slice_get xs n ≡ Some x → Among x xs
found_at [] n x h = absurd (let none : None ≡ Some x = sym (slice_get_past [] n (omega arith)) ∙ h in cc)
found_at (y ∷ ys) zero x h = inl (let e : Some y ≡ Some x = h in cc)
found_at (y ∷ ys) (suc n) x h = inr (found_at ys n x h)

-- ---- a run

-- what was found goes behind what was found before
behind : (config : Config) (dag : UnitGraph) (panorama : List View) (fork : _) (faulty at : ℕ) (before after : List Found) → HasRun config dag panorama fork faulty at before after → (fresh : List Found) × (after ≡ before ++ fresh)
behind config dag panorama fork faulty at before after run = elim (cases_lt config.ftt faulty) [
  | inl many ↦ ([], run.exceeded many ∙ append_nothing before)
  | inr few ↦ (let searched = run.few few in (searched.fresh, searched.behind))
]

-- so the records of before are the first of those that there are now
pub run_prefix : (config : Config) (dag : UnitGraph) (panorama : List View) (fork : _) (faulty at : ℕ) (before after : List Found) → HasRun config dag panorama fork faulty at before after
    → (decisions : List Decision) → decisions ≡ found_in dag before → decisions ≡ take (length decisions) (found_in dag after)
run_prefix config dag panorama fork faulty at before after run decisions listed =
    let more = behind config dag panorama fork faulty at before after run in
    let all : found_in dag after ≡ decisions ++ found_in dag more.0 = ap (found_in dag) more.1 ∙ map_append (decision_of dag) before more.0 ∙ ap (λ (ds : List Decision). ds ++ found_in dag more.0) (sym listed) in
    sym (ap (λ (ds : List Decision). take (length decisions) ds) all ∙ take_first decisions (found_in dag more.0))

pub run_longer : (config : Config) (dag : UnitGraph) (panorama : List View) (fork : _) (faulty at : ℕ) (before after : List Found) → HasRun config dag panorama fork faulty at before after → length before ≤ length after
run_longer config dag panorama fork faulty at before after run =
    let more = behind config dag panorama fork faulty at before after run in
    let long = ap (λ (fs : List Found). length fs) more.1 in
    let sum = appended before more.0 in
    omega arith
  where
    appended : (xs ys : List Found) → length (xs ++ ys) ≡ length xs + length ys
    appended [] ys = omega arith
    appended (x ∷ xs) ys = let rest = appended xs ys in omega arith

pub mapped_length : (dag : UnitGraph) (fs : List Found) → length (found_in dag fs) ≡ length fs
mapped_length dag [] = refl
mapped_length dag (f ∷ fs) = ap suc (mapped_length dag fs)

-- ---- the list of a node

-- the decided blocks of a journal are one list
pub decided_is : (config : Config) (journal : List Vertex) (ds : List Decision) → AreDecisions (setting_of config) journal ds → ds ≡ decisions_of (setting_of config) journal
decided_is config journal ds are = decisions_one (setting_of config) journal ds (decisions_of (setting_of config) journal) are (decisions_are (setting_of config) journal (one_block_each (setting_of config) journal))

pub room_less : (d : DecidedState) (m n : ℕ) → m ≤ n → HasRoomFor d n → HasRoomFor d m
room_less d m n le room = let found = room.found in let listed = room.listed in record { found = omega arith; listed = omega arith }

pub no_room_more : (d : DecidedState) → HasOnlyRoom d d
no_room_more d = record { detector = refl; decisions = refl; spare = omega arith; room = omega arith }

module _ (d later : DecidedState) (more : HasOnlyRoom d later) where
  pub same_found : later.detector.found ≡ d.detector.found
  same_found = ap (λ (t : DetectorState). t.found) more.detector

  pub told_roomy : (state : NodeState) → IsToldOf d state → IsToldOf later state
  told_roomy state told = record {
    config = ap (λ (t : DetectorState). t.config) more.detector ∙ told.config;
    true_of = subst (λ (t : DetectorState). IsTrueOf t state.dag) (sym more.detector) (record { walks = told.true_of.walks; bounds = told.true_of.bounds; known = told.true_of.known; few = told.true_of.few });
    listed = more.decisions ∙ told.listed ∙ ap (found_in state.dag) (sym same_found);
  }

  pub room_roomy : (n : ℕ) → HasRoomFor d n → HasRoomFor later n
  room_roomy n room =
      let found = room.found in
      let listed = room.listed in
      let same = ap (λ (fs : List Found). length fs) same_found in
      let spare = more.spare in
      let longer = more.room in
      record { found = omega arith; listed = omega arith }

  -- more room changes nothing
  pub decided_roomy : (s : Setting) (journal : List Vertex) (state : NodeState) (waiting : ℕ) → IsDecided s journal state waiting d → IsDecided s journal state waiting later
  decided_roomy s journal state waiting is = record {
    told = told_roomy state is.told;
    are = subst (λ (fs : List Found). AreDecisions s journal (found_in state.dag fs)) (sym same_found) is.are;
    room = room_roomy (length (graph state.dag) + waiting) is.room;
  }

-- what was told stays true while the graph grows
pub told_stays : (d : DecidedState) (state later : NodeState) → IsGraph state.dag → IsGraph later.dag → later.config ≡ state.config → GrowsTo state.dag later.dag → IsToldOf d state → IsToldOf d later
told_stays d state later g h config grows told = record {
  config = told.config ∙ sym config;
  true_of = detector_stays d.detector state.dag later.dag g h grows told.true_of;
  listed = told.listed ∙ sym (stays state.dag later.dag d.detector.found grows told.true_of.known);
}

-- more room in the state changes nothing either
pub decided_still : (s : Setting) (journal : List Vertex) (state later : NodeState) (waiting left : ℕ) (d : DecidedState) → IsGraph state.dag → IsGraph later.dag → HasMoreRoom state later → left ≡ waiting
    → IsDecided s journal state waiting d → IsDecided s journal later left d
decided_still s journal state later waiting left d g h more same is =
    let grows = grows_roomy state later more in
    let graphs = ap (λ (t : NodeState). length (graph t.dag)) more.unchanged in
    record {
      told = told_stays d state later g h (ap (λ (t : NodeState). t.config) more.unchanged) grows is.told;
      are = subst (λ (ds : List Decision). AreDecisions s journal ds) (sym (stays state.dag later.dag d.detector.found grows is.told.true_of.known)) is.are;
      room = room_less d (length (graph later.dag) + left) (length (graph state.dag) + waiting) (omega arith) is.room;
    }

-- ---- after a delivery

module _ (journal : List Vertex) (park : Parked PreparedUnit) (state : NodeState) (node : IsNode journal park state) where
  abbrev k : Received
  k = received_of (setting_of state.config) journal

  pub node_panorama : observed_in state.config state.marked (graph state.dag) ≡ panorama_of state.config k
  unfolding panorama_of
  node_panorama = λ i. panorama_over state.config (λ v. node.is_of.knows.evidence v i || equivocates (node.is_of.settled i) v) (node.is_of.settled i)

  node_weight : weight_of state.config.weights (is_faulty_in state.marked (graph state.dag)) ≡ faulty_weight state.config k
  unfolding faulty_weight
  node_weight = λ i. weight_of state.config.weights (λ v. node.is_of.knows.evidence v i || equivocates (node.is_of.settled i) v)

  pub node_moment : observations state.dag state.panorama ≡ observed_in state.config state.marked (graph state.dag) → (at : ℕ) → at ≡ length journal
      → IsMoment (setting_of state.config) journal state.dag state.panorama (weight_of state.config.weights (is_faulty_in state.marked (graph state.dag))) at
  node_moment observed at long = record { settled = node.is_of.settled; observed = observed ∙ node_panorama; weight = node_weight; long = long }

module _ (journal : List Vertex) (v : Vertex) (state later : NodeState) (waiting : ℕ) (after : Parked PreparedUnit) (d roomy done : DecidedState) (is : IsDecided (setting_of state.config) journal state waiting d)
    (more : HasOnlyRoom d roomy) (node : IsNode (journal ++ v ∷ []) after later) (config : later.config ≡ state.config) (f : IsGraph state.dag) (g : IsGraph later.dag) (grows : GrowsTo state.dag later.dag)
    (room : HasRoomFor roomy (length (graph later.dag) + length after.waiting)) where
  -- what a run asks for
  pub run_told : IsToldOf roomy later
  run_told = told_stays roomy state later f g config grows (told_roomy d roomy more state is.told)

  pub run_room : HasRoomFor roomy (length (graph later.dag))
  run_room = room_less roomy (length (graph later.dag)) (length (graph later.dag) + length after.waiting) (omega arith) room

  were : AreDecisions (setting_of later.config) journal (found_in later.dag roomy.detector.found)
  were = subst (λ (c : Config). AreDecisions (setting_of c) journal (found_in later.dag roomy.detector.found)) (sym config)
      (subst (λ (ds : List Decision). AreDecisions (setting_of state.config) journal ds) (sym (stays state.dag later.dag roomy.detector.found grows (told_roomy d roomy more state is.told).true_of.known))
      (subst (λ (fs : List Found). AreDecisions (setting_of state.config) journal (found_in state.dag fs)) (sym (same_found d roomy more)) is.are))

  -- after it the records are the decided blocks of the longer journal
  pub decided_after : (at : ℕ) → at ≡ length (journal ++ v ∷ []) → observations later.dag later.panorama ≡ observed_in later.config later.marked (graph later.dag)
      → DecidesOn later.config later.dag later.panorama (weight_of later.config.weights (is_faulty_in later.marked (graph later.dag))) at roomy.detector.found done.detector.found
      → IsToldOf done later → length done.detector.found + done.detector.spare ≡ length roomy.detector.found + roomy.detector.spare → roomy.room ≤ done.room
      → IsDecided (setting_of later.config) (journal ++ v ∷ []) later (length after.waiting) done
  decided_after at long observed decides told spare longer = record {
    told = told;
    are = decides (setting_of later.config) journal v refl (node_moment (journal ++ v ∷ []) after later node observed at long) were;
    room = (let found = room.found in let listed = room.listed in record { found = omega arith; listed = omega arith });
  }

-- ---- after a delivery of which nothing settled

module _ (journal : List Vertex) (v : Vertex) (park after : Parked PreparedUnit) (state later : NodeState) (d roomy : DecidedState) (node : IsNode journal park state) (is : IsDecided (setting_of state.config) journal state (length park.waiting) d)
    (more : HasOnlyRoom d roomy) (longer : IsNode (journal ++ v ∷ []) after later) (f : IsGraph state.dag) (g : IsGraph later.dag) (still : HasSameUnits state later)
    (room : HasRoomFor roomy (length (graph later.dag) + length after.waiting)) where
  abbrev s : Setting
  s = setting_of later.config

  config_still : later.config ≡ state.config
  config_still = ap (λ (t : NodeState). t.config) still

  grows_still : GrowsTo state.dag later.dag
  grows_still = subst (λ (t : NodeState). GrowsTo state.dag t.dag) (sym still) (record { validators_are = refl; more = []; units_are = append_nothing state.dag.units })

  settled_still : settled_of s.config (received_of s (journal ++ v ∷ [])) ≡ settled_of s.config (received_of s journal)
  settled_still = sym longer.is_of.settled ∙ ap (λ (t : NodeState). graph t.dag) still ∙ node.is_of.settled ∙ ap (λ (c : Config). settled_of c (received_of (setting_of c) journal)) (sym config_still)

  panorama_still : panorama_of s.config (received_of s (journal ++ v ∷ [])) ≡ panorama_of s.config (received_of s journal)
  panorama_still =
      sym (node_panorama (journal ++ v ∷ []) after later longer) ∙ ap (λ (t : NodeState). observed_in t.config t.marked (graph t.dag)) still
      ∙ node_panorama journal park state node ∙ ap (λ (c : Config). panorama_of c (received_of (setting_of c) journal)) (sym config_still)

  -- the records are the decided blocks of the longer journal as they stand
  pub decided_quiet : IsDecided s (journal ++ v ∷ []) later (length after.waiting) roomy
  decided_quiet = record {
    told = run_told journal v state later (length park.waiting) after d roomy roomy is more longer config_still f g grows_still room;
    are = quiet s journal v (found_in later.dag roomy.detector.found)
        (were journal v state later (length park.waiting) after d roomy roomy is more longer config_still f g grows_still room) settled_still panorama_still;
    room = room;
  }

-- ---- at the start

pub decided_start : (config : Config) (state : NodeState) (d : DecidedState) (journal : List Vertex) (waiting : ℕ) → state.config ≡ config → IsGraph state.dag → state.dag.units ≡ [] → journal ≡ [] → waiting ≡ 0
    → d.detector.config ≡ config → d.detector.found ≡ [] → d.decisions ≡ [] → ((dag : UnitGraph) → IsTrueOf d.detector dag) → IsDecided (setting_of state.config) journal state waiting d
decided_start config state d journal waiting same g units empty none is_config found listed true_of = record {
  told = record { config = is_config ∙ sym same; true_of = true_of state.dag; listed = listed ∙ ap (found_in state.dag) (sym found) };
  are = subst (λ (vs : List Vertex). AreDecisions (setting_of state.config) vs (found_in state.dag d.detector.found)) (sym empty)
      (subst (λ (fs : List Found). AreDecisions (setting_of state.config) [] (found_in state.dag fs)) (sym found) (nothing_at_first (setting_of state.config)));
  room = (let long = graph_length state.dag g in let count = ap (λ (us : List SettledUnit). length us) units in record { found = omega arith; listed = omega arith });
}
