-- The units under a summit, of a node and of its state.
use Rattle.std.proofs.Common.{◌≡◌, ℕ, zero, suc, ◌+◌, ◌<◌, ◌≤◌, inl, inr, Bool, true, List, [], ◌∷◌, ◌++◌, length, map, Option, Some, None, sym, ap, subst, ◌∙◌, arith}
use Rattle.std.specs.Prelude.{◌↔◌, filter, IsTrue, IfSome, IfNone, slice_get}
use Rattle.std.specs.List.{range_with_len}
use Rattle.std.proofs.lemmas.Bool.{cases_lt}
use Rattle.std.proofs.lemmas.List.{length-map}
use Rattle.hw_types.specs.declared.unit.Obs.{Obs}
use Rattle.hw_types.specs.declared.unit.Vertex.{Vertex}
use Rattle.hw_types.specs.declared.config.Config.{Config}
use Rattle.hw_types.specs.declared.answers.Decision.{Decision}
use Rattle.hw_types.specs.Graph.{Node, cites}
use Rattle.hw_types.specs.Below.{Among}
use Rattle.hw_types.specs.Summit.{Committees, HasSummit, IsGreatest}
use Rattle.hw_types.specs.Real.{CoreState, settled_in, panorama_in}
use Rattle.hw_types.proofs.EntryLaws.{map_among, among_map}
use Rattle.hw_types.proofs.UnionLaws.{from_left, from_right}
use Rattle.hw_types.proofs.WordsLaws.{range_in, range_below}
use Rattle.hw_dag.specs.declared.numbers.UnitNo.{UnitNo}
use Rattle.hw_dag.specs.declared.numbers.View.{View}
use Rattle.hw_dag.specs.Dag.{UnitGraph, graph, count_of, unit_at, node_of, node_at, observations}
use Rattle.hw_dag.specs.Admission.{IsNew}
use Rattle.hw_dag.proofs.NodeLaws.{among_node, node_among}
use Rattle.hw_dag.proofs.LawfulLaws.{observed_earlier}
use Rattle.hw_admit.specs.State.{NodeState}
use Rattle.hw_core.proofs.CountLaws.{graph_length}
use Rattle.hw_core.specs.Decided.{decided_in}
use Rattle.hw_core.specs.Readers.{exceeded_in}
use Rattle.hw_core.specs.Shown.{IsDecidedBlock, HasSummitNow}
use Rattle.hw_light.specs.declared.certificate.Certificate.{Certificate}
use Rattle.hw_light.specs.declared.answers.Certified.{Certified}
use Rattle.hw_light.specs.declared.answers.Certified.TheVariants.{Made, NotNow, TooLong}
use Rattle.hw_light.specs.Standing.{IsStateOf}
use Rattle.hw_light.specs.Extract.{is_under, ComeAfterCited, IsSettlingOrder, vertices_for}
use Rattle.hw_light.specs.Certify.{IsGreatestNow, AreVerticesOf, IsCertifiedAs, IsCounted}
use Rattle.hw_light.specs.Under.{nodes_at, AreUnder}
use Rattle.hw_light.proofs.StandingLaws.{same_unit, summit_here, summit_there}
use Rattle.hw_light.proofs.UnderLaws.{units_by_number}

-- ---- the order in which units settled

module _ (core : CoreState) (state : NodeState) (of : IsStateOf core state) where
  abbrev dag : UnitGraph
  dag = state.dag

  abbrev order : List Node
  order = map node_of dag.units

  in_settled : (x : Node) → Among x order → Among x (settled_in core)
  in_settled x m =
      let n = map_among (node_at dag) x (range_with_len 0 (count_of dag)) (subst (λ (xs : List Node). Among x xs) (sym (units_by_number dag)) m) in
      let within = range_below 0 (count_of dag) n.0 n.1 in
      subst (λ (xs : List Node). Among x xs) of.settled (subst (λ (y : Node). Among y (graph dag)) n.2 (node_among dag of.graph_is n.0 (omega (arith, within.1))))

  in_order : (x : Node) → Among x (settled_in core) → Among x order
  in_order x m =
      let n = among_node dag x (subst (λ (xs : List Node). Among x xs) (sym of.settled) m) in
      subst (λ (xs : List Node). Among x xs) (units_by_number dag) (subst (λ (y : Node). Among y (map (node_at dag) (range_with_len 0 (count_of dag)))) n.2 (among_map (node_at dag) n.0 (range_with_len 0 (count_of dag)) (range_in 0 (count_of dag) n.0 (omega arith) (omega (arith, n.1)))))

  -- from a number on
  come_from : (n a : ℕ) (before : List Node) → a + n ≡ count_of dag → ((k : ℕ) → k < a → Among (node_at dag k) before) → ComeAfterCited (settled_in core) before (map (node_at dag) (range_with_len a n))
  come_from zero a before is there = tt
  come_from (suc n) a before is there = (
    λ y m h.
        let k = among_node dag y (subst (λ (xs : List Node). Among y xs) (sym of.settled) m) in
        let earlier = observed_earlier dag of.graph_is k.0 a k.1 (omega arith) (subst (λ (z : Node). cites (unit_at dag a).signed.unit.panorama z ≡ true) (sym k.2) h) in
        subst (λ (z : Node). Among z before) k.2 (there k.0 earlier),
    come_from n (a + 1) (before ++ node_at dag a ∷ []) (omega arith) (λ k lt. elim (cases_lt k a) [
      | inl less ↦ from_left (node_at dag k) before (node_at dag a ∷ []) (there k less)
      | inr last ↦ from_right (node_at dag k) before (node_at dag a ∷ []) (inl (ap (node_at dag) (let same : a ≡ k = omega arith in same)))
    ]),
  )

  pub order_is : IsSettlingOrder core order
  order_is = record {
    is = of.order;
    same = record { to = in_settled; back = in_order };
    once = (let long : length order ≡ count_of dag = simp length-map in long) ∙ sym (graph_length dag of.graph_is) ∙ ap (λ (xs : List Node). length xs) of.settled;
    in_order = subst (λ (xs : List Node). ComeAfterCited (settled_in core) [] xs) (units_by_number dag) (come_from (count_of dag) 0 [] (omega arith) (λ k lt. absurd (omega arith)));
  }

  -- ---- the summit

  -- the units of the graph under it are those of the node
  pub under_is : (c : Committees) (numbers : List UnitNo) → nodes_at dag numbers ≡ filter (is_under (graph dag) (observations dag state.panorama) c) order
      → nodes_at dag numbers ≡ filter (is_under (settled_in core) (panorama_in core) c) order
  under_is c numbers e =
      subst (λ (p : List Obs). nodes_at dag numbers ≡ filter (is_under (settled_in core) p c) order) of.panorama
      (subst (λ (xs : List Node). nodes_at dag numbers ≡ filter (is_under xs (observations dag state.panorama) c) order) of.settled e)

  -- what is said of parts of the state is said of the state
  of_parts : (P : Config → UnitGraph → List View → Type 0) (config : Config) (given : UnitGraph) (panorama : List View) → config ≡ state.config → given ≡ dag → panorama ≡ state.panorama → P config given panorama → P state.config dag state.panorama
  of_parts P config given panorama e f g said =
      subst (λ (p : List View). P state.config dag p) g (subst (λ (h : UnitGraph). P state.config h panorama) f (subst (λ (k : Config). P k given panorama) e said))

  module _ (index : ℕ) (d : Decision) (at : slice_get (decided_in core) index ≡ Some d) where
    one_decision : (now : HasSummitNow core index) → now.decision ≡ d
    one_decision now = let both : Some now.decision ≡ Some d = sym now.is.at ∙ at in cc

    block_named : (now : HasSummitNow core index) → now.block.digest ≡ d.block
    block_named now = now.is.name ∙ ap (λ (e : Decision). e.block) (one_decision now)

    -- a block that isn't in the graph has no summit
    pub block_known : IsNew dag d.block → HasSummitNow core index → ⊥
    block_known new now =
        let m = among_node dag now.block (subst (λ (xs : List Node). Among now.block xs) (sym of.settled) now.is.settled) in
        new m.0 m.1 (ap (λ (y : Node). y.digest) m.2 ∙ block_named now)

    abbrev SummitBy : ℕ → Config → UnitGraph → List View → Type 0
    SummitBy n config given panorama = HasSummit config.weights (graph given) (observations given panorama) (node_at given n) d.level d.quorum

    abbrev GreatestBy : Committees → ℕ → Config → UnitGraph → List View → Type 0
    GreatestBy c n config given panorama = IsGreatest config.weights (graph given) (observations given panorama) (node_at given n) d.level d.quorum c

    module _ (n : ℕ) (lt : n < count_of dag) (name : (unit_at dag n).digest ≡ d.block) where
      -- the unit of that number is the decided block
      is_block : IsDecidedBlock core index d (node_at dag n)
      is_block = record {
        at = at;
        settled = subst (λ (xs : List Node). Among (node_at dag n) xs) of.settled (node_among dag of.graph_is n lt);
        name = name;
      }

      -- it has a summit there where the decided block has one now
      summit_in_state : HasSummitNow core index → SummitBy n state.config dag state.panorama
      summit_in_state now =
          let same = same_unit core state of d.block n lt name now.block now.is.settled (block_named now) in
          subst (λ (x : Node). HasSummit state.config.weights (graph dag) (observations dag state.panorama) x d.level d.quorum) (sym same)
          (summit_here core state of d.block now.block d.level d.quorum (subst (λ (e : Decision). HasSummit core.config.weights (settled_in core) (panorama_in core) now.block e.level e.quorum) (one_decision now) now.summit))

      -- and only there
      summit_in_core : SummitBy n state.config dag state.panorama → HasSummitNow core index
      summit_in_core summit = record { decision = d; block = node_at dag n; is = is_block; summit = summit_there core state of d.block (node_at dag n) d.level d.quorum summit }

      -- whose greatest is the node's
      greatest_in_core : (c : Committees) → GreatestBy c n state.config dag state.panorama → IsGreatestNow core index d c
      greatest_in_core c g = record {
        block = node_at dag n;
        is = is_block;
        greatest = subst (λ (k : Config). IsGreatest k.weights (settled_in core) (panorama_in core) (node_at dag n) d.level d.quorum c) of.config
            (subst (λ (p : List Obs). IsGreatest state.config.weights (settled_in core) p (node_at dag n) d.level d.quorum c) of.panorama
            (subst (λ (xs : List Node). IsGreatest state.config.weights xs (observations dag state.panorama) (node_at dag n) d.level d.quorum c) of.settled g));
      }

    -- what a search answers, over parts of the state
    module _ (config : Config) (given : UnitGraph) (panorama : List View) (e : config ≡ state.config) (f : given ≡ dag) (g : panorama ≡ state.panorama) (n : ℕ) (lt : n < count_of given) (name : (unit_at given n).digest ≡ d.block) (found : Bool) where
      within : n < count_of dag
      within = subst (λ (h : UnitGraph). n < count_of h) f lt

      named : (unit_at dag n).digest ≡ d.block
      named = subst (λ (h : UnitGraph). (unit_at h n).digest ≡ d.block) f name

      pub found_exact : (IsTrue found ↔ SummitBy n config given panorama) → IsTrue found ↔ HasSummitNow core index
      found_exact exact =
          let here : IsTrue found ↔ SummitBy n state.config dag state.panorama = of_parts (λ (k : Config) (h : UnitGraph) (p : List View). IsTrue found ↔ SummitBy n k h p) config given panorama e f g exact in
          (λ held. summit_in_core n within named (here.0 held), λ now. here.1 (summit_in_state n within named now))

      pub found_greatest : (c : Committees) → (IsTrue found → GreatestBy c n config given panorama) → IsTrue found → IsGreatestNow core index d c
      found_greatest c kept held = greatest_in_core n within named c (of_parts (GreatestBy c n) config given panorama e f g (kept held))

  -- ---- the answer

  are_vertices : (index : ℕ) (d : Decision) (numbers : List UnitNo) (vertices : List Vertex) → exceeded_in core ≡ None → AreUnder core index d dag numbers → vertices ≡ vertices_for core (nodes_at dag numbers)
      → AreVerticesOf core index d vertices
  are_vertices index d numbers vertices few under are = record {
    few_faulty = few;
    committees = under.committees;
    greatest = under.greatest;
    order = order;
    order_is = order_is;
    vertices_are = are ∙ ap (vertices_for core) under.units_are;
  }

  -- vertices for the units under the summit, counted
  pub answer_of : (index : ℕ) (d : Decision) (numbers : List UnitNo) (vertices : List Vertex) (config : Config) (certified : Certified) → exceeded_in core ≡ None → AreUnder core index d dag numbers
      → vertices ≡ vertices_for core (nodes_at dag numbers) → config ≡ core.config → IsCounted config d.block vertices certified → IsCertifiedAs core index certified
  answer_of index d numbers vertices config NotNow few under are same counted = absurd counted
  answer_of index d numbers vertices config (TooLong count) few under are same counted = record {
    decision = d;
    vertices = vertices;
    are = are_vertices index d numbers vertices few under are;
    count_is = counted.0;
    more = subst (λ (k : Config). k.max_records < count) same counted.1;
  }
  answer_of index d numbers vertices config (Made made) few under are same counted = record {
    decision = d;
    config = ap (λ (m : Certificate). m.config) counted.0 ∙ same;
    block = ap (λ (m : Certificate). m.block) counted.0;
    are = are_vertices index d numbers made.vertices few under (ap (λ (m : Certificate). m.vertices) counted.0 ∙ are);
    room = subst (λ (k : Config). length made.vertices ≤ k.max_records) same (subst (λ (vs : List Vertex). length vs ≤ config.max_records) (sym (ap (λ (m : Certificate). m.vertices) counted.0)) counted.1);
  }

-- what is said of what was found
pub some_is : {T : Type 0} (found : Option T) (x : T) (P : T → Type 0) → found ≡ Some x → IfSome found P → P x
some_is found x P e said = subst (λ o. IfSome o P) e said

pub none_is : {T : Type 0} (found : Option T) (P : Type 0) → found ≡ None → IfNone found P → P
none_is found P e said = subst (λ o. IfNone o P) e said
