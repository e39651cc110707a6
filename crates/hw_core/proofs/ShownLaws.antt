-- The summit of a decided block in the present state.
use Rattle.std.proofs.Common.{◌≡◌, ℕ, ◌<◌, ◌≤◌, Bool, true, false, List, cond, length, Some, refl, sym, ap, subst, subst₂, ◌∙◌, eqb-true, eq-eqb, arith}
use Rattle.std.proofs.lemmas.Bool.{leb-true}
use Rattle.std.specs.Prelude.{◌↔◌, ◌==◌, IsTrue, nat_le, slice_get, Option, None, is_some, IfSome, IfNone}
use Rattle.hw_types.specs.declared.unit.Digest.{Digest}
use Rattle.hw_types.specs.declared.unit.Obs.{Obs}
use Rattle.hw_types.specs.declared.unit.Vertex.{Vertex}
use Rattle.hw_types.specs.declared.answers.Decision.{Decision}
use Rattle.hw_types.specs.declared.answers.LastQuestion.{LastQuestion}
use Rattle.hw_types.specs.declared.config.Config.{Config}
use Rattle.hw_types.specs.Graph.{Node, digest_eq}
use Rattle.hw_types.specs.Below.{Among}
use Rattle.hw_types.specs.Summit.{HasSummit, IsGreatest}
use Rattle.hw_types.specs.Decisions.{IsRecord}
use Rattle.hw_types.specs.Real.{CoreState, setting_of, settled_in, panorama_in}
use Rattle.hw_types.proofs.GraphLaws.{rising_one_name}
use Rattle.hw_types.proofs.SettledLaws.{digest_self}
use Rattle.hw_dag.specs.Dag.{UnitGraph, GrowsTo, graph, count_of, node_at, observations}
use Rattle.hw_dag.specs.Admission.{IsGraph, PreparedUnit}
use Rattle.hw_dag.proofs.NodeLaws.{node_among, graph_rising}
use Rattle.hw_admit.specs.State.{NodeState, observed_in}
use Rattle.hw_park.specs.Parked.{Parked}
use Rattle.hw_horizon.specs.Kept.{AreKept}
use Rattle.hw_horizon.specs.Search.{Search, table_of, start_of, committees_of}
use Rattle.hw_horizon.specs.Tables.{entry}
use Rattle.hw_safety.specs.Pruned.{or_zero}
use Rattle.hw_horizon.proofs.WalkLaws.{walks_stay}
use Rattle.hw_horizon.specs.declared.found.Found.{Found}
use Rattle.hw_horizon.specs.Detected.{decision_of, decisions_of as found_in}
use Rattle.hw_core.specs.Settle.{HasMoreRoom}
use Rattle.hw_core.specs.Keeps.{IsNode}
use Rattle.hw_core.specs.Decided.{DecidedState, IsDecided}
use Rattle.hw_core.specs.Shown.{IsDecidedBlock, HasSummitNow, IsStartNow, IsStartOf, ShownState, IsSearchOf, IsAnswer, IsAnswerOf, IsShown, is_about}
use Rattle.hw_core.proofs.SettleLaws.{grows_roomy}
use Rattle.hw_core.proofs.SettleLaws.{all_at}
use Rattle.hw_core.proofs.DecidedLaws.{decided_is, get_mapped, found_at, node_panorama}

-- ---- while the graph grows

pub search_stays : (q : Search) (state later : NodeState) → IsGraph state.dag → IsGraph later.dag → later.config ≡ state.config → GrowsTo state.dag later.dag → IsSearchOf q state → IsSearchOf q later
search_stays q state later g h config grows is = record {
  validators = is.validators ∙ sym grows.validators_are;
  levels = is.levels ∙ ap (λ (c : Config). c.levels) (sym config);
  walks = walks_stay state.dag later.dag g h grows q.walks is.walks;
}

-- nothing was asked for
pub shown_none : (c : CoreState) (state : NodeState) (shown : ShownState) → shown.asked ≡ None → IsSearchOf shown.search state → IsShown c state shown
shown_none c state shown none is = record {
  search = is;
  within = λ q e. absurd (let both : None ≡ Some q = sym none ∙ e in cc);
  asked = λ q e. absurd (let both : None ≡ Some q = sym none ∙ e in cc);
}

-- a vertex came, so that the last question is about a shorter journal
pub shown_after : (before after : CoreState) (state later : NodeState) (shown : ShownState) → IsGraph state.dag → IsGraph later.dag → later.config ≡ state.config → GrowsTo state.dag later.dag → length before.journal < length after.journal
    → IsShown before state shown → IsShown after later shown
shown_after before after state later shown g h config grows longer shows = record {
  search = search_stays shown.search state later g h config grows shows.search;
  within = λ q e. (let few = shows.within q e in omega arith);
  asked = λ q e now. absurd (let few = shows.within q e in omega arith);
}

-- more room in the state changes nothing
pub shown_still : (c : CoreState) (state later : NodeState) (shown : ShownState) → IsGraph state.dag → IsGraph later.dag → HasMoreRoom state later → IsShown c state shown → IsShown c later shown
shown_still c state later shown g h more is = record {
  search = search_stays shown.search state later g h (ap (λ (t : NodeState). t.config) more.unchanged) (grows_roomy state later more) is.search;
  within = is.within;
  asked = is.asked;
}

pub shown_start : (c : CoreState) (state : NodeState) (shown : ShownState) (validators : ℕ) → state.dag.validators ≡ validators → shown.search.validators ≡ validators → shown.search.levels ≡ state.config.levels
    → ((dag : UnitGraph) → AreKept dag shown.search.walks) → shown.asked ≡ None → IsShown c state shown
shown_start c state shown validators same many levels walks none = shown_none c state shown none (record { validators = many ∙ sym same; levels = levels; walks = walks state.dag })

-- ---- what is told

-- a search answers
pub answered : (weights : List ℕ) (units : List Node) (panorama : List Obs) (block : Node) (level quorum : ℕ) (q : Search) (b : Bool) → IsTrue b ↔ HasSummit weights units panorama block level quorum
    → (IsTrue b → IsGreatest weights units panorama block level quorum (committees_of q)) → (IsTrue b → q.found ≡ Some level) → (b ≡ false → q.found ≡ None) → IsAnswer weights units panorama block level quorum q
answered weights units panorama block level quorum q true exact greatest found none = record {
  level_is = λ top e. (let both : Some top ≡ Some level = sym e ∙ found refl in cc);
  greatest = λ t. greatest refl;
  none = λ h. ap is_some (found refl);
}
answered weights units panorama block level quorum q false exact greatest found none = record {
  level_is = λ top e. absurd (let both : Some top ≡ None = sym e ∙ none refl in cc);
  greatest = λ t. absurd (let both : false ≡ true = sym (ap is_some (none refl)) ∙ t in cc);
  none = λ h. absurd (let both : false ≡ true = exact.1 h in cc);
}

-- a start that was found is that of a level of the search
found_within : (q : Search) (level validator n : ℕ) → start_of q level validator ≡ Some n → (top : ℕ) × (q.found ≡ Some top) × (level ≤ top)
found_within q level validator n at = go q.found refl
  where
    told : Option ℕ → Option ℕ
    told o = elim o as (λ _. Option ℕ) [ None ↦ None | Some top ↦ cond (nat_le level top) (entry (table_of q.tables level) validator) None ]

    go : (o : Option ℕ) → q.found ≡ o → (top : ℕ) × (q.found ≡ Some top) × (level ≤ top)
    go None e = absurd (let none : Some n ≡ None = sym at ∙ ap told e in cc)
    go (Some top) e = (top, e, below (nat_le level top) refl)
      where
        below : (b : Bool) → nat_le level top ≡ b → level ≤ top
        below true t = leb-true level top t
        below false f = absurd (let none : Some n ≡ None = sym at ∙ ap told e ∙ ap (λ (b : Bool). cond b (entry (table_of q.tables level) validator) None) f in cc)

module _ (c : CoreState) (index : ℕ) (q : Search) (asked : IsAnswerOf c index q) (level validator : ℕ) where
  -- what is found is a start
  pub start_is_of : (n : ℕ) → start_of q level validator ≡ Some n → IsStartOf c index level validator n
  start_is_of n at =
      let found = found_within q level validator n at in
      let top = asked.answer.level_is found.0 found.1 in
      let low = found.2 in
      record {
        decision = asked.decision;
        block = asked.block;
        is = asked.is;
        committees = committees_of q;
        greatest = asked.answer.greatest (ap is_some found.1);
        within = omega arith;
        member = ap is_some at;
        start_is = ap or_zero at;
      }

  -- and where nothing is, there is none
  pub start_is_none : start_of q level validator ≡ None → ((d : Decision) (x : Node) → IsDecidedBlock c index d x → (d ≡ asked.decision) × (x ≡ asked.block)) → (n : ℕ) → IsStartOf c index level validator n → ⊥
  start_is_none at one n s =
      let same = one s.decision s.block s.is in
      let greatest : IsGreatest c.config.weights (settled_in c) (panorama_in c) asked.block asked.decision.level asked.decision.quorum s.committees =
      subst₂ (λ (x : Node) (d : Decision). IsGreatest c.config.weights (settled_in c) (panorama_in c) x d.level d.quorum s.committees) same.1 same.0 s.greatest in
      let found = asked.answer.greatest (asked.answer.none (s.committees, greatest.summit)) in
      let within : level ≤ asked.decision.level = subst (λ (d : Decision). level ≤ d.level) same.0 s.within in
      let member = found.greatest s.committees greatest.summit level validator within s.member in
      absurd (let both : false ≡ true = sym (ap is_some at) ∙ member.0 in cc)

  pub told_some : (r : Option ℕ) → r ≡ start_of q level validator → IfSome r (IsStartOf c index level validator)
  told_some None e = tt
  told_some (Some n) e = start_is_of n (sym e)

  pub told_none : ((d : Decision) (x : Node) → IsDecidedBlock c index d x → (d ≡ asked.decision) × (x ≡ asked.block)) → (r : Option ℕ) → r ≡ start_of q level validator → IfNone r ((n : ℕ) → IsStartOf c index level validator n → ⊥)
  told_none one None e = start_is_none (sym e) one
  told_none one (Some n) e = tt

-- a place of the decided blocks is that of one block alone
one_decided : (c : CoreState) (state : NodeState) → graph state.dag ≡ settled_in c → (index : ℕ) (d e : Decision) (x y : Node) → IsDecidedBlock c index d x → IsDecidedBlock c index e y → (d ≡ e) × (x ≡ y)
one_decided c state settled index d e x y is other =
    let one : d ≡ e = (let both : Some d ≡ Some e = sym is.at ∙ other.at in cc) in
    let name : x.digest ≡ y.digest = is.name ∙ ap (λ (t : Decision). t.block) one ∙ sym other.name in
    let back : (z : Node) → Among z (settled_in c) → Among z (graph state.dag) = λ z m. subst (λ (xs : List Node). Among z xs) (sym settled) m in (
      one,
      rising_one_name (graph state.dag) (graph_rising state.dag) x y x.digest (back x is.settled) (back y other.settled) (digest_self x.digest)
          (subst (λ (t : Digest). digest_eq t x.digest ≡ true) name (digest_self x.digest)),
    )

module _ (c : CoreState) (state : NodeState) (shown : ShownState) (is : IsShown c state shown) (same : c.asked ≡ shown.asked) (level validator : ℕ) where
  abbrev told_at : Option LastQuestion → Option ℕ
  told_at o = cond (is_about o (length c.journal)) (start_of shown.search level validator) None

  -- the question is about the journal as it is
  now_at : (q : LastQuestion) (b : Bool) → (q.at == length c.journal) ≡ b → (n : ℕ) → Some n ≡ cond b (start_of shown.search level validator) None → (q.at ≡ length c.journal) × (start_of shown.search level validator ≡ Some n)
  now_at q true f n e = (eqb-true q.at (length c.journal) f, sym e)
  now_at q false f n e = absurd (let none : Some n ≡ None = e in cc)

  pub start_some : (r : Option ℕ) → r ≡ told_at shown.asked → IfSome r (IsStartNow c level validator)
  start_some None e = tt
  start_some (Some n) e = go shown.asked refl
    where
      go : (o : Option LastQuestion) → shown.asked ≡ o → IsStartNow c level validator n
      go None f = absurd (let none : Some n ≡ None = e ∙ ap told_at f in cc)
      go (Some q) f =
          let now = now_at q (q.at == length c.journal) refl n (e ∙ ap told_at f) in
          record { question = q; asked = same ∙ f; now = now.0; is = start_is_of c q.decision shown.search (is.asked q f now.0) level validator n now.1 }

  pub start_none : graph state.dag ≡ settled_in c → (r : Option ℕ) → r ≡ told_at shown.asked → IfNone r ((n : ℕ) → IsStartNow c level validator n → ⊥)
  start_none settled (Some n) e = tt
  start_none settled None e = λ n s.
      let asked : shown.asked ≡ Some s.question = sym same ∙ s.asked in
      let answer = is.asked s.question asked s.now in
      let about : (s.question.at == length c.journal) ≡ true = eq-eqb s.question.at (length c.journal) s.now in
      let none : start_of shown.search level validator ≡ None = sym (e ∙ ap told_at asked ∙ ap (λ (b : Bool). cond b (start_of shown.search level validator) None) about) in
      start_is_none c s.question.decision shown.search answer level validator none
      (λ d x m. one_decided c state settled s.question.decision d answer.decision x answer.block m answer.is) n s.is

module _ (journal : List Vertex) (park : Parked PreparedUnit) (state : NodeState) (node : IsNode journal park state) (d : DecidedState) (waiting : ℕ) (decided : IsDecided (setting_of state.config) journal state waiting d)
    (asked : Option LastQuestion) (index : ℕ) (told : Decision) (there : slice_get d.decisions index ≡ Some told) (f : Found) (at : slice_get d.detector.found index ≡ Some f) where
  abbrev core : CoreState
  core = record { config = state.config; journal = journal; asked = asked }

  record_is : told ≡ decision_of state.dag f
  record_is =
      let both : Some told ≡ Some (decision_of state.dag f) = sym there ∙ ap (λ (ds : List Decision). slice_get ds index) decided.told.listed ∙ get_mapped (decision_of state.dag) d.detector.found index f at in
      cc

  pub block_known : f.block.0 < count_of state.dag
  block_known = decided.told.true_of.known f (found_at d.detector.found index f at)

  pub level_high : told.level ≤ state.config.levels
  level_high =
      let listed : Among told (found_in state.dag d.detector.found) = subst (λ (ds : List Decision). Among told ds) decided.told.listed (found_at d.decisions index told there) in
      (all_at (IsRecord (setting_of state.config) journal) (found_in state.dag d.detector.found) decided.are.each told listed).stood.stands.high

  abbrev block : Node
  block = node_at state.dag f.block.0

  module _ (g : IsGraph state.dag) where
    settled : Among block (settled_in core)
    settled = subst (λ (xs : List Node). Among block xs) node.is_of.settled (node_among state.dag g f.block.0 block_known)

    pub is_block : IsDecidedBlock core index told block
    is_block = record {
      at = ap (λ (ds : List Decision). slice_get ds index) (sym (decided.told.listed ∙ decided_is state.config journal (found_in state.dag d.detector.found) decided.are)) ∙ there;
      settled = settled;
      name = sym (ap (λ (e : Decision). e.block) record_is);
    }

    -- and no other is
    pub one_block : (d : Decision) (x : Node) → IsDecidedBlock core index d x → (d ≡ told) × (x ≡ block)
    one_block d x is = one_decided core state node.is_of.settled index d told x block is is_block

    module _ (observed : observations state.dag state.panorama ≡ observed_in state.config state.marked (graph state.dag)) where
      panorama_same : observations state.dag state.panorama ≡ panorama_in core
      panorama_same = observed ∙ node_panorama journal park state node

      pub answer_to : (q : Search) → IsAnswer state.config.weights (graph state.dag) (observations state.dag state.panorama) block told.level told.quorum q → IsAnswerOf core index q
      answer_to q is = record {
        decision = told;
        block = block;
        is = is_block;
        answer = subst₂ (λ (units : List Node) (p : List Obs). IsAnswer state.config.weights units p block told.level told.quorum q) node.is_of.settled panorama_same is;
      }

      pub answer_back : (q : Search) → IsAnswerOf core index q → IsAnswer state.config.weights (graph state.dag) (observations state.dag state.panorama) block told.level told.quorum q
      answer_back q is =
          let one = one_block is.decision is.block is.is in
          let moved = subst₂ (λ (units : List Node) (p : List Obs). IsAnswer state.config.weights units p is.block is.decision.level is.decision.quorum q) (sym node.is_of.settled) (sym panorama_same) is.answer in
          subst₂ (λ (x : Node) (d : Decision). IsAnswer state.config.weights (graph state.dag) (observations state.dag state.panorama) x d.level d.quorum q) one.1 one.0 moved

      pub summit_to : HasSummit state.config.weights (graph state.dag) (observations state.dag state.panorama) block told.level told.quorum → HasSummitNow core index
      summit_to summit = record {
        decision = told;
        block = block;
        is = is_block;
        summit = subst₂ (λ (units : List Node) (p : List Obs). HasSummit state.config.weights units p block told.level told.quorum) node.is_of.settled panorama_same summit;
      }

      pub summit_back : HasSummitNow core index → HasSummit state.config.weights (graph state.dag) (observations state.dag state.panorama) block told.level told.quorum
      summit_back h =
          let one = one_block h.decision h.block h.is in
          let moved = subst₂ (λ (units : List Node) (p : List Obs). HasSummit state.config.weights units p h.block h.decision.level h.decision.quorum) (sym node.is_of.settled) (sym panorama_same) h.summit in
          subst₂ (λ (b : Node) (e : Decision). HasSummit state.config.weights (graph state.dag) (observations state.dag state.panorama) b e.level e.quorum) one.1 one.0 moved
