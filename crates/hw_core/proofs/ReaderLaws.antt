-- What a node tells of its journal is what the definitions say.
use Rattle.std.proofs.Common.{◌≡◌, inl, inr, ℕ, zero, suc, ◌<◌, ◌≤◌, Bool, true, false, cond, List, [], ◌∷◌, length, find, Option, Some, None, refl, sym, ap, subst, ◌∙◌, arith}
use Rattle.std.specs.Prelude.{◌||◌, ◌==◌, slice_get, filter_map, IfSome, IfNone}
use Rattle.std.specs.Borrow.{Bor}
use Rattle.std.specs.Option.{option_map, option_copied}
use Rattle.std.specs.Map.{lookup}
use Rattle.std.proofs.lemmas.Option.{slice_get_past, slice_get_within, slice_get-get_or}
use Rattle.std.proofs.lemmas.List.{length-map}
use Rattle.hw_types.specs.declared.unit.Digest.{Digest}
use Rattle.hw_types.specs.declared.unit.Need.{Need}
use Rattle.hw_types.specs.declared.unit.SignedUnit.{SignedUnit}
use Rattle.hw_types.specs.declared.unit.Vertex.{Vertex}
use Rattle.hw_types.specs.declared.unit.Vertex.TheVariants as vertex
use Rattle.hw_types.specs.declared.answers.Rule.{Rule}
use Rattle.hw_types.specs.declared.unit.Obs.{Obs}
use Rattle.hw_types.specs.Graph.{Node, digest_eq, cites}
use Rattle.hw_types.specs.Below.{Among}
use Rattle.hw_types.specs.Rules.{state_rule}
use Rattle.hw_types.specs.Spelling.{instance_of, digest_of, Fits}
use Rattle.hw_types.specs.Settled.{Received, equivocates, missing_of, settled_of, dropped_of, panorama_of, panorama_over, fork_choice}
use Rattle.hw_types.specs.Votes.{fork_of}
use Rattle.hw_types.specs.Journal.{Setting, named, received_of, unit_of_vertex}
use Rattle.hw_types.specs.Real.{CoreState, setting_of}
use Rattle.hw_types.specs.laws.StateLaws.{units_in}
use Rattle.hw_types.proofs.SettledLaws.{digest_same, digest_self}
use Rattle.hw_types.proofs.EntryLaws.{mapped_among}
use Rattle.hw_types.proofs.JournalLaws.{received_rising, received_local}
use Rattle.hw_types.proofs.LawfulLaws.{settled_admits}
use Rattle.hw_types.proofs.OrderLaws.{unit_vertex, in_known, received_in}
use Rattle.hw_types.specs.ByName.{IsRising}
use Rattle.hw_types.proofs.RisingLaws.{rising_filter}
use Rattle.hw_types.proofs.BoundLaws.{rising_length}
use Rattle.hw_types.proofs.StepLaws.{split, parked_is, dropped_is}
use Rattle.hw_dag.specs.declared.numbers.UnitNo.{UnitNo}
use Rattle.hw_dag.specs.Dag.{stand_in, graph, count_of, unit_at, node_of, node_at, by_name_of, observations}
use Rattle.hw_dag.specs.Admission.{PreparedUnit, IsGraph, IsNew, IsFor}
use Rattle.hw_dag.proofs.NodeLaws.{node_among, among_node}
use Rattle.hw_dag.proofs.LawfulLaws.{observed_earlier}
use Rattle.hw_rules.proofs.LocalLaws.{fits}
use Rattle.hw_admit.specs.State.{NodeState, observed_in}
use Rattle.hw_park.specs.Parked.{Parked}
use Rattle.hw_core.specs.declared.place.Place.TheVariants as place
use Rattle.hw_core.specs.declared.unmet.SearchEnd.TheVariants as search
use Rattle.hw_core.specs.Settle.{known_in, admitted_in, rule_in}
use Rattle.hw_horizon.specs.Detected.{decisions_of as found_in}
use Rattle.hw_core.specs.Decided.{DecidedState, decided_in}
use Rattle.hw_core.proofs.DecidedLaws.{decided_is, get_mapped}
use Rattle.hw_core.specs.Shown.{ShownState}
use Rattle.hw_core.specs.Keeps.{IsKept}
use Rattle.hw_core.specs.Missing.{IsFoundIn}
use Rattle.hw_core.specs.Readers.{signed_unit, unit_in, node_in, missed_by, missing_needs, IsOrder, IsPlace, IsUnsettled, fork_in}
use Rattle.hw_core.proofs.CountLaws.{graph_length}
use Rattle.hw_core.proofs.UnitBoundLaws.{few_missing, missing_is, units_few}
use Rattle.hw_core.proofs.WaitLaws.{no_needs}

-- ---- the unit of a name

found_first : (p : SignedUnit → Bool) (journal : List Vertex) (n : ℕ) (u : SignedUnit) → slice_get journal n ≡ Some (vertex.Unit u) → p u ≡ true
    → ((m : ℕ) (w : SignedUnit) → slice_get journal m ≡ Some (vertex.Unit w) → p w ≡ true → m ≡ n) → find p (filter_map signed_unit journal) ≡ Some u
found_first p [] n u h t only = absurd (let none : None ≡ Some (vertex.Unit u) = sym (slice_get_past [] n (omega arith)) ∙ h in cc)
found_first p (v ∷ vs) zero u h t only =
    let same : v ≡ vertex.Unit u = (let e : Some v ≡ Some (vertex.Unit u) = h in cc) in
    subst (λ (x : Vertex). find p (filter_map signed_unit (x ∷ vs)) ≡ Some u) (sym same) (ap (λ (b : Bool). cond b (Some u) (find p (filter_map signed_unit vs))) t)
found_first p (vertex.Unit w ∷ vs) (suc n) u h t only = go (p w) refl (found_first p vs n u h t (λ m x g r. (let e = only (suc m) x g r in omega arith)))
  where
    go : (b : Bool) → p w ≡ b → find p (filter_map signed_unit vs) ≡ Some u → cond b (Some w) (find p (filter_map signed_unit vs)) ≡ Some u
    go false e rest = rest
    go true e rest = absurd (let z = only 0 w refl e in omega arith)
found_first p (vertex.Evidence e ∷ vs) (suc n) u h t only = found_first p vs n u h t (λ m x g r. (let e = only (suc m) x g r in omega arith))
found_first p (vertex.Endorsement e ∷ vs) (suc n) u h t only = found_first p vs n u h t (λ m x g r. (let e = only (suc m) x g r in omega arith))

found_none : (p : SignedUnit → Bool) (journal : List Vertex) → ((m : ℕ) (w : SignedUnit) → slice_get journal m ≡ Some (vertex.Unit w) → p w ≡ true → ⊥) → find p (filter_map signed_unit journal) ≡ None
found_none p [] none = refl
found_none p (vertex.Unit w ∷ vs) none = go (p w) refl (found_none p vs (λ m x g r. none (suc m) x g r))
  where
    go : (b : Bool) → p w ≡ b → find p (filter_map signed_unit vs) ≡ None → cond b (Some w) (find p (filter_map signed_unit vs)) ≡ None
    go false e rest = rest
    go true e rest = absurd (none 0 w refl e)
found_none p (vertex.Evidence e ∷ vs) none = found_none p vs (λ m x g r. none (suc m) x g r)
found_none p (vertex.Endorsement e ∷ vs) none = found_none p vs (λ m x g r. none (suc m) x g r)

among_place : (v : Vertex) (vs : List Vertex) → Among v vs → (n : ℕ) × (slice_get vs n ≡ Some v)
among_place v [] m = absurd m
among_place v (w ∷ ws) (inl e) = (0, ap Some e)
among_place v (w ∷ ws) (inr m) = let rest = among_place v ws m in (suc rest.0, rest.1)

pub place_among : (v : Vertex) (vs : List Vertex) (n : ℕ) → slice_get vs n ≡ Some v → Among v vs
place_among v [] n h = absurd (let none : None ≡ Some v = sym (slice_get_past [] n (omega arith)) ∙ h in cc)
place_among v (w ∷ ws) zero h = inl (let e : Some w ≡ Some v = h in cc)
place_among v (w ∷ ws) (suc n) h = inr (place_among v ws n h)

no_length : (ns : List Need) → length ns ≡ 0 → ns ≡ []
no_length [] e = refl
no_length (n ∷ ns) e = absurd (omega arith)

some_length : (ns : List Need) → ((length ns == 0) ≡ true → ⊥) → 0 < length ns
some_length [] some = absurd (some refl)
some_length (n ∷ ns) some = omega arith

pub within_get : (ns : List Need) (n : ℕ) (x : Need) → slice_get ns n ≡ Some x → n < length ns
within_get [] n x h = absurd (let none : None ≡ Some x = sym (slice_get_past [] n (omega arith)) ∙ h in cc)
within_get (y ∷ ys) zero x h = omega arith
within_get (y ∷ ys) (suc n) x h = let rest = within_get ys n x h in omega arith

-- what a look-up by name gives
abbrev pub Given : List (Digest × ℕ) → List Vertex → Option (Bor SignedUnit) → Digest → Type 0
Given names vs r d = IfSome r (λ known. (n : ℕ) × (lookup (digest_eq d) names ≡ Some n) × (slice_get vs n ≡ Some (vertex.Unit known.now)))

abbrev pub NoneGiven : List (Digest × ℕ) → List Vertex → Option (Bor SignedUnit) → Digest → Type 0
NoneGiven names vs r d = IfNone r ((n : ℕ) (u : SignedUnit) → lookup (digest_eq d) names ≡ Some n → slice_get vs n ≡ Some (vertex.Unit u) → ⊥)

map_twice : {A B C : Type 0} (g : B → C) (f : A → B) (o : Option A) → option_map g (option_map f o) ≡ option_map (λ a. g (f a)) o
map_twice g f None = refl
map_twice g f (Some a) = refl

module _ (instance : Digest) (journal : List Vertex) (names : List (Digest × ℕ)) (park : Parked PreparedUnit) (rules : List (Digest × Rule)) (room : ℕ) (state : NodeState) (fork : Option UnitNo) (decided : DecidedState) (shown : ShownState)
    (kept : IsKept instance journal park state (record { names = names; rules = rules; room = room }) (record { fork = fork; decided = decided; shown = shown })) where
  abbrev pub core : CoreState
  core = record { config = state.config; journal = journal; asked = shown.asked }

  abbrev s : Setting
  s = setting_of state.config

  abbrev k : Received
  k = received_of s journal

  -- ---- the state

  pub panorama_is : observed_in state.config state.marked (graph state.dag) ≡ panorama_of state.config k
  unfolding panorama_of
  panorama_is = λ i. panorama_over state.config (λ v. kept.node.is_of.knows.evidence v i || equivocates (kept.node.is_of.settled i) v) (kept.node.is_of.settled i)

  pub fork_is : observations state.dag state.panorama ≡ observed_in state.config state.marked (graph state.dag) → option_map (λ (n : UnitNo). (unit_at state.dag n.0).digest) fork ≡ fork_in core
  unfolding fork_choice
  fork_is observed =
      sym (map_twice (λ (x : Node). x.digest) (λ (n : UnitNo). node_at state.dag n.0) fork)
      ∙ ap (λ (o : Option Node). option_map (λ (x : Node). x.digest) o)
      (kept.fork_is.choice ∙ ap (λ (p : List Obs). fork_of state.config.weights (graph state.dag) p) (observed ∙ panorama_is)
      ∙ ap (λ (units : List Node). fork_of state.config.weights units (panorama_of state.config k)) kept.node.is_of.settled)

  -- ---- a unit of the journal

  -- the journal's unit of this name is this one
  pub record IsKnown (d : Digest) (u : SignedUnit) : Type 0 where
    pub is : unit_in core d ≡ Some u
    pub name : s.name u.unit ≡ d
    pub among : Among (named s u.unit) k.units
    pub fit : Fits u.unit

  pub unit_found : (d : Digest) (u : SignedUnit) (n : ℕ) → lookup (digest_eq d) names ≡ Some n → slice_get journal n ≡ Some (vertex.Unit u) → IsKnown d u
  unfolding unit_in
  unit_found d u n at there =
      let t = kept.table.known d n at in
      let same : t.0 ≡ u = (let e : Some (vertex.Unit t.0) ≡ Some (vertex.Unit u) = sym t.1 ∙ there in cc) in
      let name : s.name u.unit ≡ d = ap (λ (x : SignedUnit). s.name x.unit) (sym same) ∙ t.2 in
      record {
        is = found_first (λ (w : SignedUnit). digest_eq d (digest_of w.unit)) journal n u there (subst (λ (e : Digest). digest_eq d e ≡ true) (sym name) (digest_self d))
            (λ m w h r. let other : lookup (digest_eq d) names ≡ Some m = subst (λ (e : Digest). lookup (digest_eq e) names ≡ Some m) (sym (digest_same d (s.name w.unit) r)) (kept.table.placed m w h) in
            let both : Some m ≡ Some n = sym other ∙ at in cc);
        name = name;
        among = in_known s journal kept.node.apart (named s u.unit) (subst (λ (x : SignedUnit). Among (named s x.unit) (units_in s journal)) same t.3);
        fit = kept.fit (vertex.Unit u) (place_among (vertex.Unit u) journal n there);
      }

  pub unit_none : (d : Digest) → ((n : ℕ) (u : SignedUnit) → lookup (digest_eq d) names ≡ Some n → slice_get journal n ≡ Some (vertex.Unit u) → ⊥) → unit_in core d ≡ None
  unfolding unit_in
  unit_none d none = found_none (λ (w : SignedUnit). digest_eq d (digest_of w.unit)) journal
      (λ m w h r. none m w (subst (λ (e : Digest). lookup (digest_eq e) names ≡ Some m) (sym (digest_same d (s.name w.unit) r)) (kept.table.placed m w h)) h)

  pub unit_known : (d : Digest) (u : SignedUnit) → unit_in core d ≡ Some u → IsKnown d u
  unit_known d u is = go (lookup (digest_eq d) names) refl
    where
      go : (o : Option ℕ) → lookup (digest_eq d) names ≡ o → IsKnown d u
      go None e = absurd (let none : unit_in core d ≡ None = unit_none d (λ n w at there. (let both : Some n ≡ None = sym at ∙ e in cc)) in let both : Some u ≡ None = sym is ∙ none in cc)
      go (Some n) e =
          let t = kept.table.known d n e in
          let known = unit_found d t.0 n e t.1 in
          let same : t.0 ≡ u = (let both : Some t.0 ≡ Some u = sym known.is ∙ is in cc) in
          subst (λ (w : SignedUnit). IsKnown d w) same known

  -- a known unit by its name
  node_found : (x : Node) → Among x k.units → (u : SignedUnit) × IsKnown x.digest u × (named s u.unit ≡ x)
  node_found x m =
      let from = mapped_among (unit_of_vertex s) x journal (received_in s journal x m) in
      let w = unit_vertex s from.0 x from.2 in
      let at = among_place from.0 journal from.1 in
      let there : slice_get journal at.0 ≡ Some (vertex.Unit w.0) = at.1 ∙ ap Some w.1 in
      (w.0, subst (λ (d : Digest). IsKnown d w.0) (sym (ap (λ (y : Node). y.digest) w.2)) (unit_found (s.name w.0.unit) w.0 at.0 (kept.table.placed at.0 w.0 there) there), sym w.2)

  pub known_for : (d : Digest) (u : SignedUnit) → IsKnown d u → IsFor (length state.config.weights) u
  known_for d u known = fits state.config (record { digest = d; signed = u; panorama = [] }) (instance_of state.config, received_local s journal (named s u.unit) known.among)

  -- ---- what it misses

  pub missed_is : (d : Digest) (u : SignedUnit) → IsKnown d u → missing_of state.config (known_in state) (graph state.dag) (record { digest = d; unit = u.unit }) ≡ missing_needs core d
  missed_is d u known =
      missing_is journal park state kept.node (record { digest = d; unit = u.unit })
      ∙ ap (λ (e : Digest). missing_of state.config k (settled_of state.config k) (record { digest = e; unit = u.unit })) (sym known.name)
      ∙ ap (λ (o : Option SignedUnit). missed_by core o) (sym known.is)

  pub missed_none : (d : Digest) → unit_in core d ≡ None → (place : ℕ) → None ≡ slice_get (missing_needs core d) place
  missed_none d none place = sym (slice_get_past [] place (omega arith)) ∙ ap (λ (o : Option SignedUnit). slice_get (missed_by core o) place) (sym none)

  pub missed_past : (d : Digest) (u : SignedUnit) → IsKnown d u → (place count : ℕ) → IsFoundIn (missing_of state.config (known_in state) (graph state.dag) (record { digest = d; unit = u.unit })) place (search.Passed count)
      → None ≡ slice_get (missing_needs core d) place
  missed_past d u known place count passed =
      let long = passed.0 in
      let most = passed.1 in
      sym (slice_get_past (missing_of state.config (known_in state) (graph state.dag) (record { digest = d; unit = u.unit })) place (omega arith)) ∙ ap (λ (ns : List Need). slice_get ns place) (missed_is d u known)

  pub never_so_many : (d : Digest) (u : SignedUnit) → IsKnown d u → (n : Need) (place : ℕ) → 2304 ≤ place → slice_get (missing_of state.config (known_in state) (graph state.dag) (record { digest = d; unit = u.unit })) place ≡ Some n → ⊥
  never_so_many d u known n place far at =
      let few = few_missing state.config (known_in state) (graph state.dag) (record { digest = d; unit = u.unit }) known.fit in
      let within = within_get (missing_of state.config (known_in state) (graph state.dag) (record { digest = d; unit = u.unit })) place n at in
      absurd (omega arith)

  -- ---- where it stands

  -- the state's numbers are an order
  admitted_at : (n : ℕ) (x : Node) → slice_get (admitted_in state) n ≡ Some x → (n < count_of state.dag) × (node_at state.dag n ≡ x)
  admitted_at n x at =
      let lt : n < count_of state.dag = (let within = slice_get_within (admitted_in state) n x at in let many = length-map state.dag.units node_of in omega arith) in
      let both : Some (node_at state.dag n) ≡ Some x = sym (get_mapped node_of state.dag.units n (unit_at state.dag n) (slice_get-get_or state.dag.units n stand_in lt)) ∙ at in
      (lt, cc)

  admitted_order : IsGraph state.dag → IsOrder core (admitted_in state)
  unfolding by_name_of
  admitted_order g = record {
    all = kept.node.is_of.settled;
    once = length-map state.dag.units node_of ∙ sym (graph_length state.dag g) ∙ ap (λ (units : List Node). length units) kept.node.is_of.settled;
    earlier = λ m n x y ax ay t.
        let p = admitted_at m x ax in
        let q = admitted_at n y ay in
        observed_earlier state.dag g m n p.0 q.0 (subst (λ (z : Node). cites (unit_at state.dag n).signed.unit.panorama z ≡ true) (sym p.1) (subst (λ (z : Node). cites z.unit.panorama x ≡ true) (sym q.1) t));
  }

  pub settled_place : (d : Digest) (number : UnitNo) → IsGraph state.dag → number.0 < count_of state.dag → (unit_at state.dag number.0).digest ≡ d → IsPlace core d (place.Settled number)
  settled_place d number g lt name =
      let x = node_at state.dag number.0 in
      let settled : Among x (settled_of state.config k) = subst (λ (units : List Node). Among x units) kept.node.is_of.settled (node_among state.dag g number.0 lt) in
      let found = node_found x (settled_admits state.config k (received_rising s journal) x settled).0 in
      let long = graph_length state.dag g in
      let same = ap (λ (units : List Node). length units) kept.node.is_of.settled in (
        found.0,
        ap (unit_in core) (sym name) ∙ found.1.is,
        subst (λ (y : Node). Among y (settled_of state.config k)) (sym found.2) settled,
        omega arith,
        (
          subst (IsOrder core) kept.node.is_of.in_order (admitted_order g),
          subst (λ (order : List Node). slice_get order number.0 ≡ Some (node_in core found.0)) kept.node.is_of.in_order
              (subst (λ (y : Node). slice_get (admitted_in state) number.0 ≡ Some y) (sym found.2) (get_mapped node_of state.dag.units number.0 (unit_at state.dag number.0) (slice_get-get_or state.dag.units number.0 stand_in lt))),
        ),
      )

  pub dropped_place : (d : Digest) (rule : Rule) → rule_in rules d ≡ Some rule → IsPlace core d (place.Dropped rule)
  dropped_place d rule at =
      let x = kept.rules_are.known d rule at in
      let is = dropped_is state.config k (received_rising s journal) x.0 x.1 in
      let found = node_found x.0 is.0 in
      let unit : unit_in core d ≡ Some found.0 = ap (unit_in core) (sym x.2) ∙ found.1.is in (
        found.0,
        unit,
        ap (λ (o : Option SignedUnit). missed_by core o) unit ∙ ap (λ (y : Node). missing_of state.config k (settled_of state.config k) y) found.2 ∙ no_needs (missing_of state.config k (settled_of state.config k) x.0) is.1,
        ap (λ (y : Node). state_rule state.config (settled_of state.config k) y) found.2 ∙ x.3,
      )

  -- a known unit that is neither settled nor dropped misses something
  pub unsettled : (d : Digest) → IsNew state.dag d → None ≡ rule_in rules d → IsUnsettled core d
  unsettled d fresh none u is = elim (split state.config k (received_rising s journal) x known.among) [
    | inl settled ↦ absurd (not_settled settled)
    | inr rest ↦ elim rest [
      | inl parked ↦
          (let positive = some_length (missing_of state.config k (settled_of state.config k) x) (parked_is state.config k (received_rising s journal) x parked).1 in
          let same = ap (λ (o : Option SignedUnit). length (missed_by core o)) known.is in
          omega arith)
      | inr dropped ↦ absurd (not_dropped dropped)
    ]
  ]
    where
      known : IsKnown d u
      known = unit_known d u is

      x : Node
      x = named s u.unit

      not_settled : Among x (settled_of state.config k) → ⊥
      not_settled m =
          let n = among_node state.dag x (subst (λ (units : List Node). Among x units) (sym kept.node.is_of.settled) m) in
          fresh n.0 n.1 (ap (λ (y : Node). y.digest) n.2 ∙ known.name)

      not_dropped : Among x (dropped_of state.config k) → ⊥
      not_dropped m =
          let rule = kept.rules_are.all x m in
          let there : Some rule.0 ≡ None = sym (subst (λ (e : Digest). rule_in rules e ≡ Some rule.0) known.name rule.1) ∙ sym none in
          absurd cc

  pub parked_place : (d : Digest) (u : SignedUnit) → IsKnown d u → IsUnsettled core d → (count most : ℕ)
      → IsFoundIn (missing_of state.config (known_in state) (graph state.dag) (record { digest = d; unit = u.unit })) most (search.Passed count) → IsPlace core d (place.Parked count)
  parked_place d u known misses count most passed =
      let many : length (missing_needs core d) ≡ count = ap (λ (ns : List Need). length ns) (sym (missed_is d u known)) ∙ passed.0 in
      let some = misses u known.is in
      (omega arith, many)

  -- ---- how many were dropped

  dropped_rising : IsRising (dropped_of state.config k)
  unfolding dropped_of
  dropped_rising = rising_filter _ k.units (received_rising s journal)

  pub dropped_few : length (dropped_of state.config k) ≤ length journal
  dropped_few =
      let few = units_few journal park state kept.node in
      let most = rising_length (dropped_of state.config k) k.units dropped_rising (λ x m. (dropped_is state.config k (received_rising s journal) x m).0) in
      omega arith

  -- ---- what a look-up gives

  pub given_is : (r : Option (Bor SignedUnit)) (d : Digest) → Given names journal r d → NoneGiven names journal r d → option_copied r ≡ unit_in core d
  given_is (Some known) d found none = sym (unit_found d known.now found.0 found.1 found.2).is
  given_is None d found none = sym (unit_none d none)

  pub given_fits : (r : Option (Bor SignedUnit)) (d : Digest) → Given names journal r d → IfSome r (λ known. Fits known.now.unit)
  given_fits (Some known) d found = (unit_found d known.now found.0 found.1 found.2).fit
  given_fits None d found = tt

  -- ---- decided blocks

  pub decisions_is : decided.decisions ≡ decided_in core
  decisions_is =
      kept.decided_is.told.listed ∙ decided_is state.config journal (found_in state.dag decided.detector.found) kept.decided_is.are
