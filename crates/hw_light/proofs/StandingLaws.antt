-- A block stands for a node where the unit of its number has a summit of some level.
use Rattle.std.proofs.Common.{◌≡◌, ℕ, ◌+◌, ◌<◌, ◌≤◌, inl, inr, List, sym, ap, subst, ◌∙◌, arith}
use Rattle.std.specs.Prelude.{sum, ◌↔◌}
use Rattle.std.proofs.lemmas.Bool.{cases_lt}
use Rattle.hw_types.specs.declared.config.Config.{Config}
use Rattle.hw_types.specs.declared.unit.Digest.{Digest}
use Rattle.hw_types.specs.declared.unit.Obs.{Obs}
use Rattle.hw_types.specs.Graph.{Node}
use Rattle.hw_types.specs.Below.{Among}
use Rattle.hw_types.specs.Quorum.{IsQuorum}
use Rattle.hw_types.specs.Summit.{HasSummit}
use Rattle.hw_types.specs.Real.{CoreState, settled_in, panorama_in}
use Rattle.hw_dag.specs.Dag.{UnitGraph, graph, count_of, unit_at, node_at, observations}
use Rattle.hw_dag.specs.declared.numbers.View.{View}
use Rattle.hw_dag.specs.Admission.{IsNew}
use Rattle.hw_dag.proofs.NodeLaws.{among_node, node_among}
use Rattle.hw_admit.specs.State.{NodeState}
use Rattle.hw_horizon.proofs.LevelLaws.{quorum_same}
use Rattle.hw_light.specs.Standing.{BlockStands, IsStateOf, HasLevelWithin}

module _ (core : CoreState) (state : NodeState) (of : IsStateOf core state) (block : Digest) where
  -- the unit of that name is the one of the number
  pub same_unit : (n : ℕ) → n < count_of state.dag → (unit_at state.dag n).digest ≡ block → (x : Node) → Among x (settled_in core) → x.digest ≡ block → node_at state.dag n ≡ x
  same_unit n lt name x inside named =
      let m = among_node state.dag x (subst (λ (xs : List Node). Among x xs) (sym of.settled) inside) in
      let apart = of.graph_is.distinct n m.0 lt m.1 (name ∙ sym named ∙ sym (ap (λ (y : Node). y.digest) m.2)) in
      ap (node_at state.dag) apart ∙ m.2

  pub summit_there : (x : Node) (level quorum : ℕ) → HasSummit state.config.weights (graph state.dag) (observations state.dag state.panorama) x level quorum → HasSummit core.config.weights (settled_in core) (panorama_in core) x level quorum
  summit_there x level quorum summit =
      subst (λ (k : Config). HasSummit k.weights (settled_in core) (panorama_in core) x level quorum) of.config
      (subst (λ (p : List Obs). HasSummit state.config.weights (settled_in core) p x level quorum) of.panorama
      (subst (λ (xs : List Node). HasSummit state.config.weights xs (observations state.dag state.panorama) x level quorum) of.settled summit))

  pub summit_here : (x : Node) (level quorum : ℕ) → HasSummit core.config.weights (settled_in core) (panorama_in core) x level quorum → HasSummit state.config.weights (graph state.dag) (observations state.dag state.panorama) x level quorum
  summit_here x level quorum summit =
      subst (λ (xs : List Node). HasSummit state.config.weights xs (observations state.dag state.panorama) x level quorum) (sym of.settled)
      (subst (λ (p : List Obs). HasSummit state.config.weights (settled_in core) p x level quorum) (sym of.panorama)
      (subst (λ (k : Config). HasSummit k.weights (settled_in core) (panorama_in core) x level quorum) (sym of.config) summit))

  pub level_is_standing : (n : ℕ) → n < count_of state.dag → (unit_at state.dag n).digest ≡ block → HasLevelWithin state n state.config.levels ↔ BlockStands core block
  level_is_standing n lt name = (
    λ h. record {
      unit = node_at state.dag n;
      inside = subst (λ (xs : List Node). Among (node_at state.dag n) xs) of.settled (node_among state.dag of.graph_is n lt);
      named = name;
      level = h.level;
      quorum = h.quorum;
      stands = record {
        low = h.low;
        high = subst (λ (k : Config). h.level ≤ k.levels) of.config h.high;
        is_quorum = subst (λ (k : Config). IsQuorum (sum k.weights) k.ftt h.level h.quorum) of.config h.is_quorum;
        summit = summit_there (node_at state.dag n) h.level h.quorum h.summit;
      };
    },
    λ b.
        let is = same_unit n lt name b.unit b.inside b.named in
        let st = b.stands in
        record {
          level = b.level;
          quorum = b.quorum;
          low = st.low;
          high = subst (λ (k : Config). b.level ≤ k.levels) (sym of.config) st.high;
          is_quorum = subst (λ (k : Config). IsQuorum (sum k.weights) k.ftt b.level b.quorum) (sym of.config) st.is_quorum;
          summit = subst (λ (x : Node). HasSummit state.config.weights (graph state.dag) (observations state.dag state.panorama) x b.level b.quorum) (sym is) (summit_here b.unit b.level b.quorum st.summit);
        },
  )

  -- a name that isn't in the graph doesn't stand
  pub unknown_stands_not : IsNew state.dag block → BlockStands core block → ⊥
  unknown_stands_not new b =
      let m = among_node state.dag b.unit (subst (λ (xs : List Node). Among b.unit xs) (sym of.settled) b.inside) in
      new m.0 m.1 (ap (λ (y : Node). y.digest) m.2 ∙ b.named)

-- ---- level by level

module _ (state : NodeState) (block : ℕ) where
  abbrev SummitOf : ℕ → ℕ → Type 0
  SummitOf level quorum = HasSummit state.config.weights (graph state.dag) (observations state.dag state.panorama) (node_at state.dag block) level quorum

  pub none_at_first : HasLevelWithin state block 0 → ⊥
  none_at_first h = omega (arith, h.low, h.high)

  pub none_more : (below quorum : ℕ) → IsQuorum (sum state.config.weights) state.config.ftt (below + 1) quorum → (HasLevelWithin state block below → ⊥) → (SummitOf (below + 1) quorum → ⊥) → HasLevelWithin state block (below + 1) → ⊥
  none_more below quorum needed none lacks h = elim (cases_lt h.level (below + 1)) [
    | inl less ↦ none (record { level = h.level; quorum = h.quorum; low = h.low; high = omega arith; is_quorum = h.is_quorum; summit = h.summit })
    | inr le ↦
        (let top = h.high in
        let same : h.level ≡ below + 1 = omega arith in
        let is = subst (λ (l : ℕ). IsQuorum (sum state.config.weights) state.config.ftt l h.quorum) same h.is_quorum in
        let one = quorum_same (sum state.config.weights) state.config.ftt (below + 1) h.quorum quorum is needed in
        lacks (subst (λ (q : ℕ). SummitOf (below + 1) q) one (subst (λ (l : ℕ). SummitOf l h.quorum) same h.summit)))
  ]

  pub level_found : (below quorum top : ℕ) → below + 1 ≤ top → IsQuorum (sum state.config.weights) state.config.ftt (below + 1) quorum → SummitOf (below + 1) quorum → HasLevelWithin state block top
  level_found below quorum top le needed summit = record { level = below + 1; quorum = quorum; low = omega arith; high = le; is_quorum = needed; summit = summit }

  -- what the parts of the state have no summit of
  pub lacks_of : (config : Config) (dag : UnitGraph) (panorama : List View) → config ≡ state.config → dag ≡ state.dag → panorama ≡ state.panorama → (level quorum : ℕ)
      → (HasSummit config.weights (graph dag) (observations dag panorama) (node_at dag block) level quorum → ⊥) → SummitOf level quorum → ⊥
  lacks_of config dag panorama e f g level quorum lacks summit = lacks (
      subst (λ (k : Config). HasSummit k.weights (graph dag) (observations dag panorama) (node_at dag block) level quorum) (sym e)
      (subst (λ (d : UnitGraph). HasSummit state.config.weights (graph d) (observations d panorama) (node_at d block) level quorum) (sym f)
      (subst (λ (p : List View). HasSummit state.config.weights (graph state.dag) (observations state.dag p) (node_at state.dag block) level quorum) (sym g) summit))
      )

  pub quorum_of_state : (config : Config) → config ≡ state.config → (total level quorum : ℕ) → total ≡ sum config.weights → IsQuorum total config.ftt level quorum → IsQuorum (sum state.config.weights) state.config.ftt level quorum
  quorum_of_state config e total level quorum is q = subst (λ (k : Config). IsQuorum (sum k.weights) k.ftt level quorum) e (subst (λ (t : ℕ). IsQuorum t config.ftt level quorum) is q)
