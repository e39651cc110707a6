-- How many units there are, and what a new unit is answered.
use Rattle.std.proofs.Common.{◌≡◌, ◌≢◌, inl, inr, ℕ, zero, suc, ◌+◌, ◌<◌, ◌≤◌, Bool, true, false, not, cond, List, [], ◌∷◌, ◌++◌, length, map, filter, Option, Some, None, refl, sym, ap, subst, ◌∙◌, arith, eq-eqb, eqb-true}
use Rattle.std.specs.Prelude.{◌==◌, ◌&&◌, nat_le, nat_lt, filter_map, Ok, Err}
use Rattle.std.specs.List.{range_with_len}
use Rattle.std.proofs.lemmas.Bool.Decides.{nat_tests}
use Rattle.std.proofs.lemmas.List.{length-map}
use Rattle.hw_types.specs.declared.unit.Digest.{Digest}
use Rattle.hw_types.specs.declared.unit.Need.{Need}
use Rattle.hw_types.specs.declared.unit.Need.TheVariants as need
use Rattle.hw_types.specs.declared.unit.SignedUnit.{SignedUnit}
use Rattle.hw_types.specs.declared.unit.Vertex.{Vertex}
use Rattle.hw_types.specs.declared.unit.Vertex.TheVariants as vertex
use Rattle.hw_types.specs.declared.config.Config.{Config}
use Rattle.hw_types.specs.declared.answers.Cause.TheVariants as cause
use Rattle.hw_types.specs.declared.answers.Rule.{Rule}
use Rattle.hw_types.specs.declared.answers.Receipt.{Receipt}
use Rattle.hw_types.specs.declared.answers.Receipt.TheVariants as receipt
use Rattle.hw_types.specs.Rules.{state_rule}
use Rattle.hw_types.specs.Graph.{Node, slot, slots, is_faulty_mark}
use Rattle.hw_types.specs.Below.{Among}
use Rattle.hw_types.specs.ByName.{IsRising}
use Rattle.hw_types.specs.Limits.{config_fault}
use Rattle.hw_types.specs.Spelling.{Fits}
use Rattle.hw_types.specs.Settled.{Received, need_eq, distinct, needs_of, unit_need, unit_needs, evidence_needs, is_need_met, missing_of, settled_of, parked_of}
use Rattle.hw_types.specs.laws.StateLaws.{units_in}
use Rattle.hw_types.specs.Journal.{Setting, named, received_of, unit_of_vertex, is_park_full, is_accepted, newly_settled}
use Rattle.hw_types.specs.Real.{setting_of}
use Rattle.hw_types.proofs.LimitLaws.{within_limits}
use Rattle.hw_types.proofs.ClosureLaws.{Within}
use Rattle.hw_types.proofs.RisingLaws.{rising_filter}
use Rattle.hw_types.proofs.JournalLaws.{received_rising}
use Rattle.hw_types.proofs.LawfulLaws.{settled_admits}
use Rattle.hw_types.proofs.OrderLaws.{Accepted, received_in}
use Rattle.hw_types.proofs.StepLaws.{parked_is}
use Rattle.hw_types.proofs.BoundLaws.{rising_length}
use Rattle.hw_dag.specs.Dag.{graph, count_of}
use Rattle.hw_dag.specs.Admission.{PreparedUnit, IsGraph, node_prepared}
use Rattle.hw_dag.proofs.NodeLaws.{graph_rising}
use Rattle.hw_admit.specs.State.{NodeState}
use Rattle.hw_park.specs.Parked.{Parked, Waiting}
use Rattle.hw_core.specs.Settle.{known_in, waiting_nodes, AreApart}
use Rattle.hw_core.specs.Keeps.{IsNode}
use Rattle.hw_core.specs.Deliver.{answer_to, IsTaken}
use Rattle.hw_core.specs.Units.{IsNewUnit}
use Rattle.hw_core.proofs.AnswerLaws.{answer_parked, answer_taken}
use Rattle.hw_core.proofs.CountLaws.{graph_length}
use Rattle.hw_core.proofs.EndLaws.{same_missing}
use Rattle.hw_core.proofs.WaitLaws.{no_needs}
use Rattle.hw_types.proofs.DistinctLaws.{without}

-- ---- lengths

mapped_length : {A B : Type 0} (h : A → Option B) (xs : List A) → length (filter_map h xs) ≤ length xs
mapped_length h [] = omega arith
mapped_length {A} {B} h (x ∷ xs) = go (h x) refl (mapped_length h xs)
  where
    go : (o : Option B) → h x ≡ o → length (filter_map h xs) ≤ length xs → length (filter_map h (x ∷ xs)) ≤ suc (length xs)
    go None e le = let same : filter_map h (x ∷ xs) ≡ filter_map h xs = rw e refl in let long = ap length same in omega arith
    go (Some y) e le = let same : filter_map h (x ∷ xs) ≡ y ∷ filter_map h xs = rw e refl in let long = ap length same in omega arith

filter_length : {A : Type 0} (p : A → Bool) (xs : List A) → length (filter p xs) ≤ length xs
filter_length p [] = omega arith
filter_length p (x ∷ xs) = go (p x) (filter_length p xs)
  where
    go : (b : Bool) → length (filter p xs) ≤ length xs → length (cond b (x ∷ filter p xs) (filter p xs)) ≤ suc (length xs)
    go true le = omega arith
    go false le = omega arith

range_length : (a n : ℕ) → length (range_with_len a n) ≡ n
range_length a zero = refl
range_length a (suc n) = ap suc (range_length (a + 1) n)

appended_length : {A : Type 0} (xs ys : List A) → length (xs ++ ys) ≡ length xs + length ys
appended_length [] ys = omega arith
appended_length (x ∷ xs) ys = let rest = appended_length xs ys in omega arith

distinct_length : (ns : List Need) → length (distinct ns) ≤ length ns
distinct_length [] = omega arith
distinct_length (n ∷ ns) = let le = filter_length (λ m. not (need_eq n m)) (distinct ns) in let rest = distinct_length ns in omega arith

-- a unit that keeps the limits of its format misses no more than these
pub few_missing : (config : Config) (known : Received) (units : List Node) (u : Node) → Fits u.unit → length (missing_of config known units u) ≤ 2304
unfolding missing_of needs_of
few_missing config known units u fits =
    let cited = unit_needs u.unit.panorama in
    let marked = evidence_needs u.unit.panorama in
    let listed = map need.Endorsed u.unit.endorsed in
    let a = filter_length (λ n. not (is_need_met config known units n)) (distinct (cited ++ marked ++ listed)) in
    let b = distinct_length (cited ++ marked ++ listed) in
    let c = appended_length (cited ++ marked) listed in
    let d = appended_length cited marked in
    let e = mapped_length unit_need u.unit.panorama in
    let f = length-map (filter (λ v. is_faulty_mark (slot u.unit.panorama v)) (slots u.unit.panorama)) need.Evidence in
    let g = filter_length (λ v. is_faulty_mark (slot u.unit.panorama v)) (slots u.unit.panorama) in
    let h = range_length 0 (length u.unit.panorama) in
    let k = length-map u.unit.endorsed need.Endorsed in
    let panorama = fits.panorama in
    let endorsed = fits.endorsed in
    omega arith

pub is_none : (needs : List Need) (len : ℕ) → length needs ≡ len → (b : Bool) → b ≡ (len == 0) → b ≡ true → needs ≡ []
is_none needs len long b e t = let z = eqb-true len 0 (sym e ∙ t) in no_needs needs (eq-eqb (length needs) 0 (omega arith))

pub not_empty : (needs : List Need) (len : ℕ) → length needs ≡ len → (b : Bool) → b ≡ (len == 0) → b ≡ false → 0 < length needs
not_empty [] len long b e f = absurd (let z = eq-eqb len 0 (omega arith) in cc (sym f ∙ e ∙ z))
not_empty (n ∷ ns) len long b e f = omega arith

pub some_left : (needs : List Need) (len : ℕ) → length needs ≡ len → (b : Bool) → b ≡ (len == 0) → b ≡ false → needs ≢ []
some_left needs len long b e f none = let z = eq-eqb len 0 (let l = ap (λ (ns : List Need). length ns) none in omega arith) in cc (sym f ∙ e ∙ z)

-- an accepted unit is taken
pub unit_taken : (config : Config) (journal : List Vertex) (u : SignedUnit) → Accepted (setting_of config) journal (vertex.Unit u) → IsTaken config journal (vertex.Unit u)
unit_taken config journal u ok = ap is_accepted (answer_taken s journal (vertex.Unit u) ok) ∙ go (nat_lt 0 n) (state_rule config (settled_of config l) (named s u.unit))
  where
    s : Setting
    s = setting_of config

    l : Received
    l = received_of s (journal ++ vertex.Unit u ∷ [])

    n : ℕ
    n = length (missing_of config l (settled_of config l) (named s u.unit))

    go : (b : Bool) (o : Option Rule) → is_accepted (Ok (cond b (receipt.Parked n) (elim o as (λ z. Receipt) [ Some rule ↦ receipt.Dropped rule | None ↦ receipt.Admitted (newly_settled s journal (vertex.Unit u)) ]))) ≡ true
    go true o = refl
    go false None = refl
    go false (Some rule) = refl

-- those that wait under names apart are no more than the units that they are among
apart_length : (ws : List (Waiting PreparedUnit)) (ys : List Node) → AreApart ws → Within (waiting_nodes ws) ys → length ws ≤ length ys
apart_length [] ys apart inside = omega arith
apart_length (w ∷ ws) ys apart inside =
    let out = without (node_prepared w.item) ys (inside (node_prepared w.item) (inl refl)) in
    let fewer = out.fewer in
    let rest = apart_length ws out.rest apart.1 (λ x m. elim (out.kept x (inside x (inr m))) [
      | inl e ↦ absurd (other x m e)
      | inr k ↦ k
    ]) in
    omega arith
  where
    unlike : (vs : List (Waiting PreparedUnit)) → ((v : Waiting PreparedUnit) → Among v vs → v.item.digest ≢ w.item.digest) → (x : Node) → Among x (waiting_nodes vs) → node_prepared w.item ≡ x → ⊥
    unlike [] un x m e = absurd m
    unlike (v ∷ vs) un x (inl f) e = un v (inl refl) (ap (λ (y : Node). y.digest) (f ∙ sym e))
    unlike (v ∷ vs) un x (inr m) e = unlike vs (λ z n. un z (inr n)) x m e

    other : (x : Node) → Among x (waiting_nodes ws) → node_prepared w.item ≡ x → ⊥
    other x m e = unlike ws apart.0 x m e

module _ (journal : List Vertex) (park : Parked PreparedUnit) (state : NodeState) (node : IsNode journal park state) where
  abbrev s : Setting
  s = setting_of state.config

  abbrev k : Received
  k = received_of s journal

  -- the units are no more than the journal is long
  pub units_few : length k.units ≤ length journal
  units_few =
      let some = rising_length k.units (units_in s journal) (received_rising s journal) (λ x m. received_in s journal x m) in
      let most = mapped_length (unit_of_vertex s) journal in
      omega arith

  parked_rising : IsRising (parked_of state.config k)
  unfolding parked_of
  parked_rising = rising_filter _ k.units (received_rising s journal)

  -- as many wait as are parked
  pub waits_as_parked : length park.waiting ≡ length (parked_of state.config k)
  waits_as_parked =
      let most = apart_length park.waiting (parked_of state.config k) node.is_of.can.are.apart node.is_of.parked.to in
      let least = rising_length (parked_of state.config k) (waiting_nodes park.waiting) parked_rising node.is_of.parked.back in
      let mapped = length-map park.waiting (λ w. node_prepared w.item) in
      omega arith

  pub waits_few : length park.waiting ≤ length journal
  waits_few =
      let few = units_few in
      let most = apart_length park.waiting k.units node.is_of.can.are.apart (λ x m. (parked_is state.config k (received_rising s journal) x (node.is_of.parked.to x m)).0) in
      omega arith

  pub settled_few : IsGraph state.dag → count_of state.dag ≤ length journal
  settled_few g =
      let few = units_few in
      let count = graph_length state.dag g in
      let most = rising_length (graph state.dag) k.units (graph_rising state.dag) (λ x m. (settled_admits state.config k (received_rising s journal) x (subst (λ (units : List Node). Among x units) node.is_of.settled m)).0) in
      omega arith

  pub journal_few : config_fault state.config ≡ None → length journal ≤ 131072
  journal_few lawful = let most = (within_limits state.config lawful).records in let records = most.1 in let bounded = node.bounded in omega arith

  -- what is missing in the state is what is missing by the journal
  pub missing_is : (x : Node) → missing_of state.config (known_in state) (graph state.dag) x ≡ missing_of state.config k (settled_of state.config k) x
  missing_is x = same_missing state.config k state node.is_of.knows (graph state.dag) x ∙ ap (λ (units : List Node). missing_of state.config k units x) node.is_of.settled

  module _ (u : SignedUnit) (name : Digest) (new : IsNewUnit state.config journal u name) (needs : List Need) (needs_are : needs ≡ missing_of state.config (known_in state) (graph state.dag) (record { digest = name; unit = u.unit })) where
    abbrev x : Node
    x = named s u.unit

    pub missing_here : needs ≡ missing_of state.config k (settled_of state.config k) x
    missing_here = needs_are ∙ missing_is (record { digest = name; unit = u.unit }) ∙ ap (λ (d : Digest). missing_of state.config k (settled_of state.config k) (record { digest = d; unit = u.unit })) new.name_is

    -- it would be parked, and as many are as may be
    pub new_full : 0 < length needs → length park.waiting ≡ state.config.max_parked → answer_to state.config journal (vertex.Unit u) ≡ Err cause.ParkFull
    new_full misses full = answer_parked s journal (vertex.Unit u) new.not_refused new.not_repeat new.room both
      where
        some : nat_lt 0 (length (missing_of state.config k (settled_of state.config k) x)) ≡ true
        some = let long = ap length missing_here in grind (arith, nat_tests)

        many : nat_le state.config.max_parked (length (parked_of state.config k)) ≡ true
        many = let same = waits_as_parked in grind (arith, nat_tests)

        both : is_park_full s journal (vertex.Unit u) ≡ true
        both = ap (λ (b : Bool). b && nat_le state.config.max_parked (length (parked_of state.config k))) some ∙ many

    accepted_where : is_park_full s journal (vertex.Unit u) ≡ false → Accepted s journal (vertex.Unit u)
    accepted_where room = record { not_refused = new.not_refused; not_repeat = new.not_repeat; room = new.room; park_room = room }

    -- it misses nothing, or there is room where it would be parked
    pub accepted_met : needs ≡ [] → Accepted s journal (vertex.Unit u)
    accepted_met none = accepted_where (ap (λ (b : Bool). b && nat_le state.config.max_parked (length (parked_of state.config k))) met)
      where
        met : nat_lt 0 (length (missing_of state.config k (settled_of state.config k) x)) ≡ false
        met = ap (λ (ns : List Need). nat_lt 0 (length ns)) (sym missing_here ∙ none)

    pub accepted_parked : length park.waiting < park.limit → Accepted s journal (vertex.Unit u)
    accepted_parked lt = accepted_where (few (nat_lt 0 (length (missing_of state.config k (settled_of state.config k) x))) (nat_le state.config.max_parked (length (parked_of state.config k))) fits)
      where
        fits : nat_le state.config.max_parked (length (parked_of state.config k)) ≡ false
        fits = let same = waits_as_parked in let limit = node.limit in grind (arith, nat_tests)

        few : (a b : Bool) → b ≡ false → (a && b) ≡ false
        few true b e = e
        few false b e = refl
