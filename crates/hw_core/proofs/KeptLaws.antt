-- What a node keeps as its journal grows.
use Rattle.std.proofs.Common.{◌≡◌, ◌⊎◌, inl, inr, ℕ, zero, suc, List, [], ◌∷◌, ◌++◌, ◌≤◌, length, Option, Some, None, refl, sym, ap, subst, ◌∙◌, arith}
use Rattle.std.specs.Prelude.{◌||◌, map, filter_map, slice_get}
use Rattle.std.proofs.lemmas.Option.{slice_get_past}
use Rattle.std.proofs.lemmas.List.{map-append, append-nil}
use Rattle.std.proofs.lemmas.List.Elements.{filter_map-append}
use Rattle.hw_types.specs.declared.unit.Digest.{Digest}
use Rattle.hw_types.specs.declared.unit.SignedUnit.{SignedUnit}
use Rattle.hw_types.specs.declared.unit.Vertex.{Vertex}
use Rattle.hw_types.specs.declared.unit.Vertex.TheVariants as vertex
use Rattle.hw_types.specs.declared.answers.Rule.{Rule}
use Rattle.hw_types.specs.declared.config.Config.{Config}
use Rattle.hw_types.specs.Graph.{Node}
use Rattle.hw_types.specs.Below.{Among}
use Rattle.hw_types.specs.Settled.{Received, faulty_weight, settled_of, equivocates}
use Rattle.hw_types.specs.laws.StateLaws.{units_in}
use Rattle.hw_types.specs.Votes.{weight_of}
use Rattle.hw_types.specs.Journal.{Setting, named, received_of, unit_of_vertex, refusal, clash_among, evidence_fault}
use Rattle.hw_types.specs.declared.unit.Evidence.{Evidence}
use Rattle.hw_types.specs.declared.answers.PairFault.{PairFault}
use Rattle.hw_types.specs.declared.answers.Cause.{Cause}
use Rattle.hw_types.specs.declared.answers.Cause.TheVariants as cause
use Rattle.hw_safety.specs.Safety.{HasPairs}
use Rattle.hw_types.specs.Real.{setting_of}
use Rattle.hw_types.specs.Spelling.{instance_of, VertexFits}
use Rattle.hw_types.proofs.UnionLaws.{from_left}
use Rattle.hw_types.proofs.EntryLaws.{append_cases}
use Rattle.hw_dag.specs.declared.numbers.UnitNo.{UnitNo}
use Rattle.hw_dag.specs.Dag.{graph}
use Rattle.hw_dag.specs.Admission.{PreparedUnit}
use Rattle.hw_admit.specs.State.{NodeState, is_faulty_in}
use Rattle.hw_park.specs.Parked.{Parked}
use Rattle.hw_core.specs.Decided.{DecidedState, IsDecided}
use Rattle.hw_core.specs.Shown.{ShownState, IsShown}
use Rattle.hw_core.specs.Readers.{signed_unit}
use Rattle.hw_core.specs.Keeps.{IsNode, IsTable, AreRules, IsChoice, IsKept}

pub get_append : {A : Type 0} (xs ys : List A) (n : ℕ) (x : A) → slice_get xs n ≡ Some x → slice_get (xs ++ ys) n ≡ Some x
get_append [] ys n x h = absurd (let none : None ≡ Some x = sym (slice_get_past [] n (omega arith)) ∙ h in cc)
get_append (z ∷ zs) ys zero x h = h
get_append (z ∷ zs) ys (suc n) x h = get_append zs ys n x h

-- what stands at a place of a list with one more at its end
pub get_last_or : {A : Type 0} (xs : List A) (y : A) (n : ℕ) (x : A) → slice_get (xs ++ y ∷ []) n ≡ Some x → (slice_get xs n ≡ Some x) ⊎ ((n ≡ length xs) × (y ≡ x))
get_last_or [] y zero x h = inr (refl, (let same : Some y ≡ Some x = h in cc))
get_last_or [] y (suc n) x h = absurd (let none : None ≡ Some x = sym (slice_get_past [] n (omega arith)) ∙ h in cc)
get_last_or (z ∷ zs) y zero x h = inl h
get_last_or (z ∷ zs) y (suc n) x h = elim (get_last_or zs y n x h) [ inl k ↦ inl k | inr k ↦ inr (ap suc k.0, k.1) ]

-- one vertex more, and what is read of it
pub units_more : (journal : List Vertex) (v : Vertex) (name : SignedUnit → Digest) → map name (filter_map signed_unit (journal ++ v ∷ [])) ≡ map name (filter_map signed_unit journal) ++ map name (filter_map signed_unit (v ∷ []))
units_more journal v name =
    ap (λ (us : List SignedUnit). map name us) (filter_map-append signed_unit journal (v ∷ []))
    ∙ map-append name (filter_map signed_unit journal) (filter_map signed_unit (v ∷ []))

-- what is no unit has no unit
none_signed : (v : Vertex) → ((u : SignedUnit) → v ≡ vertex.Unit u → ⊥) → filter_map signed_unit (v ∷ []) ≡ []
none_signed (vertex.Unit u) other = absurd (other u refl)
none_signed (vertex.Evidence e) other = refl
none_signed (vertex.Endorsement e) other = refl

-- a vertex that is no unit leaves the table as it was
pub table_other : (s : Setting) (journal : List Vertex) (names : List (Digest × ℕ)) (v : Vertex) → units_in s (v ∷ []) ≡ [] → ((u : SignedUnit) → v ≡ vertex.Unit u → ⊥) → IsTable s journal names
    → IsTable s (journal ++ v ∷ []) names
table_other s journal names v none other table = record {
  placed = λ n u h. elim (get_last_or journal v n (vertex.Unit u) h) [ inl old ↦ table.placed n u old | inr new ↦ absurd (other u new.1) ];
  ordered = table.ordered ∙ sym (units_more journal v name ∙ ap (λ (us : List SignedUnit). map name (filter_map signed_unit journal) ++ map name us) (none_signed v other) ∙ append-nil (map name (filter_map signed_unit journal)));
  known = λ d n h. let k = table.known d n h in (k.0, get_append journal (v ∷ []) n (vertex.Unit k.0) k.1, k.2, subst (λ (xs : List Node). Among (named s k.0.unit) xs) (sym units) (from_left (named s k.0.unit) (units_in s journal) (units_in s (v ∷ [])) k.3));
  unknown = λ d h x m. elim (append_cases x (units_in s journal) (units_in s (v ∷ [])) (subst (λ (xs : List Node). Among x xs) units m)) [
    | inl old ↦ table.unknown d h x old
    | inr new ↦ absurd (subst (λ (xs : List Node). Among x xs) none new)
  ];
}
  where
    name : SignedUnit → Digest
    name u = s.name u.unit

    units : units_in s (journal ++ v ∷ []) ≡ units_in s journal ++ units_in s (v ∷ [])
    units = filter_map-append (unit_of_vertex s) journal (v ∷ [])

-- evidence that isn't refused is a pair
pub pair_taken : (s : Setting) (journal : List Vertex) (e : Evidence) → refusal s journal (vertex.Evidence e) ≡ None → evidence_fault s e ≡ None
pair_taken s journal e h = go (evidence_fault s e) h
  where
    go : (o : Option PairFault) → elim o as (λ z. Option Cause) [ Some f ↦ Some (cause.Pair f) | None ↦ elim (clash_among s (named s e.left.unit ∷ []) e.right.unit) as (λ z. Option Cause) [ Some d ↦ Some (cause.Clash d) | None ↦ None ] ] ≡ None → o ≡ None
    go None k = refl
    go (Some f) k = absurd cc

module _ (instance : Digest) (journal : List Vertex) (names : List (Digest × ℕ)) (park : Parked PreparedUnit) (rules : List (Digest × Rule)) (room : ℕ) (state : NodeState) (fork : Option UnitNo) (decided : DecidedState) (shown : ShownState)
    (kept : IsKept instance journal park state (record { names = names; rules = rules; room = room }) (record { fork = fork; decided = decided; shown = shown })) where
  -- what a node keeps after a delivery, of the same configuration
  pub kept_with : (vs : List Vertex) (names' : List (Digest × ℕ)) (after : Parked PreparedUnit) (rules' : List (Digest × Rule)) (room' : ℕ) (later : NodeState) (fork' : Option UnitNo) (decided' : DecidedState) (shown' : ShownState)
      → later.config ≡ state.config → IsTable (setting_of state.config) vs names' → AreRules (setting_of state.config) vs rules' → length after.waiting ≤ room' → ((v : Vertex) → Among v vs → VertexFits v) → HasPairs (setting_of state.config) vs → IsNode vs after later → IsChoice later fork' → IsDecided (setting_of later.config) vs later (length after.waiting) decided' → IsShown (record { config = later.config; journal = vs; asked = shown'.asked }) later shown'
      → IsKept instance vs after later (record { names = names'; rules = rules'; room = room' }) (record { fork = fork'; decided = decided'; shown = shown' })
  kept_with vs names' after rules' room' later fork' decided' shown' same table rules_are places fit pairs node choice is_decided is_shown = record {
    instance_is = kept.instance_is ∙ ap (λ (c : Config). instance_of c) (sym same);
    table = subst (λ (c : Config). IsTable (setting_of c) vs names') (sym same) table;
    rules_are = subst (λ (c : Config). AreRules (setting_of c) vs rules') (sym same) rules_are;
    places = places;
    fit = fit;
    pairs = subst (λ (c : Config). HasPairs (setting_of c) vs) (sym same) pairs;
    node = node;
    fork_is = choice;
    decided_is = is_decided;
    shown_is = is_shown;
  }

  -- one vertex more that fits
  pub fit_more : (v : Vertex) → VertexFits v → (w : Vertex) → Among w (journal ++ v ∷ []) → VertexFits w
  fit_more v fits w m = elim (append_cases w journal (v ∷ []) m) [
    | inl old ↦ kept.fit w old
    | inr new ↦ elim new [ inl e ↦ subst VertexFits e fits | inr none ↦ absurd none ]
  ]

  -- one vertex more that is no evidence, or one that is a pair
  pub pairs_more : (v : Vertex) → ((e : Evidence) → v ≡ vertex.Evidence e → evidence_fault (setting_of state.config) e ≡ None) → HasPairs (setting_of state.config) (journal ++ v ∷ [])
  pairs_more v pair e m = elim (append_cases (vertex.Evidence e) journal (v ∷ []) m) [
    | inl old ↦ kept.pairs e old
    | inr new ↦ elim new [ inl is ↦ pair e is | inr none ↦ absurd none ]
  ]

  abbrev k : Received
  k = received_of (setting_of state.config) journal

  pub settled_is : graph state.dag ≡ settled_of state.config k
  settled_is = kept.node.is_of.settled

  -- the faulty are those of the journal
  pub weight_is : weight_of state.config.weights (is_faulty_in state.marked (graph state.dag)) ≡ faulty_weight state.config k
  unfolding faulty_weight
  weight_is = λ i. weight_of state.config.weights (λ v. kept.node.is_of.knows.evidence v i || equivocates (settled_is i) v)
