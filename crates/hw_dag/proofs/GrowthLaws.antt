-- What stays as a graph grows.
use Rattle.std.proofs.Common.{◌≡◌, ℕ, suc, ◌<◌, ◌≤◌, true, List, [], ◌∷◌, refl, sym, ap, subst, ◌∙◌, arith, length-append}
use Rattle.std.specs.Prelude.{◌||◌}
use Rattle.std.proofs.lemmas.List.{get_or_append_left}
use Rattle.hw_types.specs.declared.unit.Obs.{Obs}
use Rattle.hw_types.specs.declared.unit.Obs.TheVariants.{Correct}
use Rattle.hw_types.specs.Graph.{Node, node_eq, slot, cites, past, follows, lane_of, is_on_lane, is_below, is_among}
use Rattle.hw_types.specs.Below.{Among}
use Rattle.hw_types.specs.Votes.{fork_of, unit_fork}
use Rattle.hw_types.proofs.ClosureLaws.{Within}
use Rattle.hw_types.proofs.ForkLaws.{fork_stable}
use Rattle.hw_types.proofs.RisingLaws.{past_stable, rising_same, rising_reach}
use Rattle.hw_types.proofs.PastLaws.{reach_grows, reach_stays}
use Rattle.hw_types.proofs.SettledLaws.{digest_self, named_by}
use Rattle.hw_types.proofs.WordsLaws.{slot_cites}
use Rattle.hw_dag.specs.declared.numbers.UnitNo.{UnitNo}
use Rattle.hw_dag.specs.declared.numbers.View.{View}
use Rattle.hw_dag.specs.declared.numbers.View.TheVariants as view
use Rattle.hw_dag.specs.Dag.{SettledUnit, UnitGraph, stand_in, unit_at, count_of, node_at, graph, obs_of, observations, GrowsTo}
use Rattle.hw_dag.specs.Admission.{IsGraph}
use Rattle.hw_dag.specs.Lanes.{is_seen, is_lane_below}
pub use Rattle.hw_dag.specs.Tables.{IsKnown}
use Rattle.hw_dag.proofs.NodeLaws.{AreApart, graph_rising, graph_one_name, among_node, apart_among, node_among}
use Rattle.hw_dag.proofs.SlotLaws.{cited_name}

module _ (dag later : UnitGraph) (grows : GrowsTo dag later) where
  pub count_grows : count_of dag ≤ count_of later
  count_grows = rw (grows.units_are, length-append) (omega arith)

  pub unit_stays : (n : ℕ) → n < count_of dag → unit_at later n ≡ unit_at dag n
  unit_stays n lt = rw grows.units_are (get_or_append_left dag.units grows.more stand_in n lt)

  pub node_stays : (n : ℕ) → n < count_of dag → node_at later n ≡ node_at dag n
  node_stays n lt = λ i. record { digest = (unit_stays n lt i).digest; unit = (unit_stays n lt i).signed.unit }

  obs_stays : (w : View) → ((number : UnitNo) → w ≡ view.Correct number → number.0 < count_of dag) → obs_of later w ≡ obs_of dag w
  obs_stays view.Absent known = refl
  obs_stays view.Faulty known = refl
  obs_stays (view.Correct number) known = ap (λ (u : SettledUnit). Correct u.digest) (unit_stays number.0 (known number refl))

  -- a panorama of numbers that were known stands for the same observations
  pub observations_stay : (panorama : List View) → IsKnown dag panorama → observations later panorama ≡ observations dag panorama
  observations_stay [] known = refl
  observations_stay (w ∷ ws) known =
      let here = obs_stays w (λ number e. known 0 number e) in
      let there = observations_stay ws (λ v number e. known (suc v) number e) in
      λ i. here i ∷ there i

  module _ (g : IsGraph dag) (apart : AreApart later) where
    pub graph_part : Within (graph dag) (graph later)
    graph_part x m =
        let n = among_node dag x m in
        subst (λ (y : Node). Among y (graph later)) (node_stays n.0 n.1 ∙ n.2) (apart_among later apart n.0 (let more = count_grows in omega (arith, n.1)))

    -- what a known panorama observes was there
    pub cites_known : (panorama : List View) → IsKnown dag panorama → (x : Node) → Among x (graph later) → cites (observations dag panorama) x ≡ true → Among x (graph dag)
    cites_known panorama known x m t =
        let k = cited_name dag panorama x t in
        let n = among_node later x m in
        let lt = known k.0 k.1 k.2 in
        let more = count_grows in
        let name : (unit_at later k.1.0).digest ≡ (unit_at later n.0).digest = ap (λ (u : SettledUnit). u.digest) (unit_stays k.1.0 lt) ∙ k.3 ∙ sym (ap (λ (y : Node). y.digest) n.2) in
        let same : k.1.0 ≡ n.0 = apart k.1.0 n.0 (omega arith) n.1 name in
        subst (λ (y : Node). Among y (graph dag)) (sym (node_stays k.1.0 lt) ∙ ap (λ (i : ℕ). node_at later i) same ∙ n.2) (node_among dag g k.1.0 lt)

    -- and so is what a unit of the graph observes
    pub graph_closed : (x y : Node) → Among y (graph dag) → Among x (graph later) → cites y.unit.panorama x ≡ true → Among x (graph dag)
    graph_closed x y my mx t =
        let n = among_node dag y my in
        let u = g.settled n.0 n.1 in
        cites_known (unit_at dag n.0).panorama u.panorama_is.known x mx
        (subst (λ (os : List Obs). cites os x ≡ true) (sym u.observes) (subst (λ (z : Node). cites z.unit.panorama x ≡ true) (sym n.2) t))

    -- the past of a known panorama, and its fork choice
    pub past_stays : (panorama : List View) → IsKnown dag panorama → past (graph later) (observations dag panorama) ≡ past (graph dag) (observations dag panorama)
    past_stays panorama known = past_stable (graph dag) (graph later) (graph_rising dag) (graph_rising later) graph_part graph_closed (observations dag panorama) (cites_known panorama known)

    pub fork_stays : (weights : List ℕ) (panorama : List View) → IsKnown dag panorama → fork_of weights (graph later) (observations dag panorama) ≡ fork_of weights (graph dag) (observations dag panorama)
    fork_stays weights panorama known = fork_stable weights (graph dag) (graph later) (graph_rising dag) (graph_rising later) graph_part graph_closed (observations dag panorama) (cites_known panorama known)

    -- the past of a unit of the graph, and its fork choice
    pub past_of_stays : (n : ℕ) → n < count_of dag → past (graph later) (unit_at dag n).signed.unit.panorama ≡ past (graph dag) (unit_at dag n).signed.unit.panorama
    past_of_stays n lt =
        let u = g.settled n lt in
        subst (λ (os : List Obs). past (graph later) os ≡ past (graph dag) os) u.observes (past_stays (unit_at dag n).panorama u.panorama_is.known)

    pub fork_at_stays : (weights : List ℕ) (n : ℕ) → n < count_of dag → unit_fork weights (graph later) (node_at later n) ≡ unit_fork weights (graph dag) (node_at dag n)
    fork_at_stays weights n lt =
        let u = g.settled n lt in
        ap (λ (x : Node). unit_fork weights (graph later) x) (node_stays n lt)
        ∙ subst (λ (os : List Obs). fork_of weights (graph later) os ≡ fork_of weights (graph dag) os) u.observes (fork_stays weights (unit_at dag n).panorama u.panorama_is.known)

    -- what is below a unit, and on its lane
    pub is_below_stays : (x : Node) (n : ℕ) → n < count_of dag → is_below (graph later) x (node_at dag n) ≡ is_below (graph dag) x (node_at dag n)
    is_below_stays x n lt = ap (λ (below : List Node). node_eq x (node_at dag n) || is_among below x) (past_of_stays n lt)

    pub is_seen_stays : (low high : ℕ) → low < count_of dag → high < count_of dag → is_seen later low high ≡ is_seen dag low high
    is_seen_stays low high lo hi =
        ap (λ (y : Node). is_below (graph later) (node_at later low) y) (node_stays high hi) ∙ ap (λ (x : Node). is_below (graph later) x (node_at dag high)) (node_stays low lo) ∙ is_below_stays (node_at dag low) high hi

    follows_closed : (x y : Node) → Among y (graph dag) → Among x (graph later) → follows y x ≡ true → Among x (graph dag)
    follows_closed x y my mx t = graph_closed x y my mx (slot_cites y.unit.panorama y.unit.creator x.digest x (named_by (slot y.unit.panorama y.unit.creator) x.digest t) refl)

    -- the lane of a unit of the graph
    pub lane_stays : (n : ℕ) → n < count_of dag → lane_of (graph later) (node_at dag n) ≡ lane_of (graph dag) (node_at dag n)
    lane_stays n lt =
        let own : (x : Node) → Among x (graph later) → node_eq x (node_at dag n) ≡ true → Among x (graph dag) =
        λ x m t. subst (λ (y : Node). Among y (graph dag)) (sym (graph_one_name later x (node_at dag n) (node_at dag n).digest m (graph_part (node_at dag n) (node_among dag g n lt)) t (digest_self (node_at dag n).digest))) (node_among dag g n lt) in
        rising_same (lane_of (graph later) (node_at dag n)) (lane_of (graph dag) (node_at dag n))
        (rising_reach follows (λ x. node_eq x (node_at dag n)) (graph later) (graph_rising later)) (rising_reach follows (λ x. node_eq x (node_at dag n)) (graph dag) (graph_rising dag))
        (reach_stays follows (λ x. node_eq x (node_at dag n)) (graph dag) (graph later) graph_part follows_closed own)
        (reach_grows follows (λ x. node_eq x (node_at dag n)) (graph dag) (graph later) graph_part follows_closed own)

    pub is_lane_below_stays : (low high : ℕ) → low < count_of dag → high < count_of dag → is_lane_below later low high ≡ is_lane_below dag low high
    is_lane_below_stays low high lo hi =
        ap (λ (y : Node). is_on_lane (graph later) (node_at later low) y) (node_stays high hi) ∙ ap (λ (x : Node). is_on_lane (graph later) x (node_at dag high)) (node_stays low lo)
        ∙ ap (λ (lane : List Node). is_among lane (node_at dag low)) (lane_stays high hi)
