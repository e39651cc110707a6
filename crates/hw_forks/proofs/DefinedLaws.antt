-- The walk by number is the walk of the definitions.
use Rattle.std.proofs.Common.{◌≡◌, ℕ, zero, suc, ◌+◌, ◌≤◌, ◌<◌, ◌⊎◌, inl, inr, Bool, true, false, List, [], length, Option, Some, None, refl, sym, ap, subst, ◌∙◌, arith, zero-add}
use Rattle.std.specs.Prelude.{◌&&◌, sum_by, slice_index, if◌then◌else◌}
use Rattle.std.specs.Option.{option_map}
use Rattle.std.specs.List.{range_with_len}
use Rattle.std.proofs.lemmas.List.Sums.{sum_by-cons, sum_by-append}
use Rattle.hw_types.specs.declared.unit.Obs.{Obs}
use Rattle.hw_types.specs.Graph.{Node, node_eq, is_some_and, observed, latest, cites, unit_cites, past}
use Rattle.hw_types.specs.Below.{Among}
use Rattle.hw_types.specs.Votes.{ForkAt, is_block, vote_of, is_ancestor_within, votes_for, score_of, is_at, children_of, best_child, walk, fork_of, unit_fork}
use Rattle.hw_types.proofs.ClosureLaws.{Within, Among-filter, filter-Among}
use Rattle.hw_types.proofs.PastLaws.{or_cases, or_left, or_right, reach_first, reach_within}
use Rattle.hw_types.proofs.StableLaws.{OneName, both_ways, and_parts, and_whole}
use Rattle.hw_types.proofs.SettledLaws.{digest_self}
use Rattle.hw_types.proofs.WordsLaws.{passes_some, found_node}
use Rattle.hw_types.proofs.ChoiceLaws as choice
use Rattle.hw_types.proofs.ChoiceLaws.{past_fewer, past_below, ghost_walk_in, fork_is_walk}
use Rattle.hw_types.proofs.UnionLaws.{no_cycle}
use Rattle.hw_types.proofs.EntryLaws.{append_cases}
use Rattle.hw_dag.specs.declared.numbers.UnitNo.{UnitNo}
use Rattle.hw_dag.specs.declared.numbers.View.{View}
use Rattle.hw_dag.specs.declared.numbers.View.TheVariants as view
use Rattle.hw_dag.specs.Dag.{UnitGraph, unit_at, count_of, node_at, graph, view_at, obs_of, observations, IsPanorama}
use Rattle.hw_dag.specs.Admission.{IsGraph, fork_given}
use Rattle.hw_dag.specs.Lanes.{IsAncestor, itself, further, AreWeights}
use Rattle.hw_dag.proofs.NodeLaws.{graph_rising, graph_one_name, among_node, node_among, same_number}
use Rattle.hw_dag.proofs.SlotLaws.{slot_of, number_cites}
use Rattle.hw_dag.proofs.LaneLaws.{even_weights, all_faulty, lawful}
use Rattle.hw_dag.proofs.DepthLaws.{parent_earlier, parent_is_block}
use Rattle.hw_forks.specs.declared.votes.Vote.{Vote}
use Rattle.hw_forks.specs.Votes.{votes_of, vote_in}
use Rattle.hw_forks.specs.Walk.{is_over, score_in, IsChild, IsBest, HasNoSupport, WalksTo, stops, goes}
use Rattle.hw_forks.proofs.AncestorLaws.{over_anc, anc_over}
use Rattle.hw_forks.proofs.ScoreLaws.{share, score_some}
use Rattle.hw_forks.proofs.BestLaws.{Falls, best_is, none_is, walk_goes, walk_stops, walk_whole}
use Rattle.hw_types.proofs.HeightLaws.{chosen_below}

-- a number as the definitions see it
abbrev pub node_for : UnitGraph → Option UnitNo → Option Node
node_for dag o = option_map (λ (number : UnitNo). node_at dag number.0) o

pub node_for_some : (dag : UnitGraph) (o : Option UnitNo) (x : Node) → node_for dag o ≡ Some x → (p : UnitNo) × (o ≡ Some p) × (node_at dag p.0 ≡ x)
node_for_some dag None x e = absurd cc
node_for_some dag (Some p) x e = (p, refl, cc)

range_push : (f : ℕ → ℕ) (n a : ℕ) → sum_by f (range_with_len a (suc n)) ≡ sum_by f (range_with_len a n) + f (a + n)
range_push f zero a = let e : a + 0 ≡ a = omega arith in let same = ap f e in omega (arith, sum_by-cons f a [])
range_push f (suc n) a =
    let rest = range_push f n (a + 1) in
    let e : a + 1 + n ≡ a + suc n = omega arith in
    let same = ap f e in
    omega (arith, sum_by-cons f a (range_with_len (a + 1) (suc n)), sum_by-cons f a (range_with_len (a + 1) n))

module _ (weights : List ℕ) (dag : UnitGraph) (g : IsGraph dag) (aw : AreWeights weights dag) where
  abbrev pub units : List Node
  units = graph dag

  abbrev pub fork_at : ForkAt
  fork_at = unit_fork weights units

  pub acyclic : choice.IsGraph units
  acyclic = record { in_order = graph_rising dag; one_name = graph_one_name dag; no_cycle = no_cycle (even_weights dag) all_faulty units (lawful dag g) }

  abbrev pub size : ℕ → ℕ
  size n = length (past units (unit_at dag n).signed.unit.panorama)

  -- ---- parents and votes

  given_at : (n : ℕ) → n < count_of dag → node_for dag (fork_given (unit_at dag n)) ≡ fork_at (node_at dag n)
  given_at n lt = aw.votes n lt

  pub parent_at : (n : ℕ) → n < count_of dag → is_block (node_at dag n) ≡ true → fork_at (node_at dag n) ≡ node_for dag (unit_at dag n).parent
  parent_at n lt t = sym (given_at n lt) ∙ ap (λ (b : Bool). node_for dag (if b then (unit_at dag n).parent else Some (unit_at dag n).vote)) t

  -- a unit's vote is a block, which is itself or below it
  pub record IsVoteOf (n : ℕ) : Type 0 where
    pub known : (unit_at dag n).vote.0 < count_of dag
    pub block : is_block (node_at dag (unit_at dag n).vote.0) ≡ true
    pub vote_is : vote_of fork_at (node_at dag n) ≡ Some (node_at dag (unit_at dag n).vote.0)
    pub where_is : (n ≡ (unit_at dag n).vote.0) ⊎ (fork_at (node_at dag n) ≡ Some (node_at dag (unit_at dag n).vote.0))

  pub vote_at : (n : ℕ) → n < count_of dag → IsVoteOf n
  vote_at n lt = go (is_block (node_at dag n)) refl
    where
      go : (b : Bool) → is_block (node_at dag n) ≡ b → IsVoteOf n
      go true t =
          let own = (g.settled n lt).own_vote t in
          let same : n ≡ (unit_at dag n).vote.0 = omega arith in
          record {
            known = omega arith;
            block = subst (λ (m : ℕ). is_block (node_at dag m) ≡ true) same t;
            vote_is = ap (λ (b : Bool). if b then Some (node_at dag n) else fork_at (node_at dag n)) t ∙ ap (λ (m : ℕ). Some (node_at dag m)) same;
            where_is = inl same;
          }
      go false f =
          let given : fork_given (unit_at dag n) ≡ Some (unit_at dag n).vote = ap (λ (b : Bool). if b then (unit_at dag n).parent else Some (unit_at dag n).vote) f in
          let chosen : fork_at (node_at dag n) ≡ Some (node_at dag (unit_at dag n).vote.0) = sym (given_at n lt) ∙ ap (node_for dag) given in
          record {
            known = (g.settled n lt).fork.known (unit_at dag n).vote given;
            block = (g.settled n lt).fork.block (unit_at dag n).vote given;
            vote_is = ap (λ (b : Bool). if b then Some (node_at dag n) else fork_at (node_at dag n)) f ∙ chosen;
            where_is = inr chosen;
          }

  -- a unit's own choice is below it
  pub own_below : (y p : Node) → fork_at y ≡ Some p → Among p (past units y.unit.panorama)
  own_below y p e = chosen_below weights units y.unit.panorama p e

  pub parent_below : (n : ℕ) (p : UnitNo) → n < count_of dag → is_block (node_at dag n) ≡ true → (unit_at dag n).parent ≡ Some p → Among (node_at dag p.0) (past units (unit_at dag n).signed.unit.panorama)
  parent_below n p lt t e = own_below (node_at dag n) (node_at dag p.0) (parent_at n lt t ∙ ap (node_for dag) e)

  -- ---- the test of ancestors

  pub defined_anc : (n c b : ℕ) → c < count_of dag → b < count_of dag → is_block (node_at dag b) ≡ true → is_ancestor_within n fork_at (node_at dag c) (node_at dag b) ≡ true → IsAncestor dag c b
  unfolding is_ancestor_within
  defined_anc zero c b lc lb t h = subst (λ (x : ℕ). IsAncestor dag c x) (same_number dag g c b lc lb h) itself
  defined_anc (suc n) c b lc lb t h = elim (or_cases (node_eq (node_at dag c) (node_at dag b)) (is_some_and (is_ancestor_within n fork_at (node_at dag c)) (fork_at (node_at dag b))) h) [
    | inl here ↦ subst (λ (x : ℕ). IsAncestor dag c x) (same_number dag g c b lc lb here) itself
    | inr up ↦ (
        let x = passes_some (is_ancestor_within n fork_at (node_at dag c)) (fork_at (node_at dag b)) up in
        let p = node_for_some dag (unit_at dag b).parent x.0 (sym (parent_at b lb t) ∙ x.1) in
        let less = parent_earlier dag g b p.0 lb p.1 in
        let test : is_ancestor_within n fork_at (node_at dag c) (node_at dag p.0.0) ≡ true = subst (λ (z : Node). is_ancestor_within n fork_at (node_at dag c) z ≡ true) (sym p.2) x.2 in
        further b p.0 p.1 (defined_anc n c p.0.0 lc (omega arith) (parent_is_block dag g b p.0 lb p.1) test))
  ]

  pub defined_self : (n c : ℕ) → is_ancestor_within n fork_at (node_at dag c) (node_at dag c) ≡ true
  unfolding is_ancestor_within
  defined_self zero c = digest_self (unit_at dag c).digest
  defined_self (suc n) c = or_left (node_eq (node_at dag c) (node_at dag c)) (is_some_and (is_ancestor_within n fork_at (node_at dag c)) (fork_at (node_at dag c))) (digest_self (unit_at dag c).digest)

  pub anc_defined : (c n b : ℕ) → b < count_of dag → is_block (node_at dag b) ≡ true → size b ≤ n → IsAncestor dag c b → is_ancestor_within n fork_at (node_at dag c) (node_at dag b) ≡ true
  unfolding is_ancestor_within
  anc_defined c n _ lb t le itself = defined_self n c
  anc_defined c zero _ lb t le (further high parent e k) =
      absurd (let fewer = past_fewer units acyclic (unit_at dag high).signed.unit.panorama (node_at dag parent.0) (parent_below high parent lb t e) in omega arith)
  anc_defined c (suc n) _ lb t le (further high parent e k) =
      let less = parent_earlier dag g high parent lb e in
      let fewer = past_fewer units acyclic (unit_at dag high).signed.unit.panorama (node_at dag parent.0) (parent_below high parent lb t e) in
      or_right (node_eq (node_at dag c) (node_at dag high)) (is_some_and (is_ancestor_within n fork_at (node_at dag c)) (fork_at (node_at dag high)))
      (ap (is_some_and (is_ancestor_within n fork_at (node_at dag c))) (parent_at high lb t ∙ ap (node_for dag) e)
      ∙ anc_defined c n parent.0 (omega arith) (parent_is_block dag g high parent lb e) (omega arith) k)

  same_test : (n c b : ℕ) → c < count_of dag → b < count_of dag → is_block (node_at dag b) ≡ true → size b ≤ n → is_ancestor_within n fork_at (node_at dag c) (node_at dag b) ≡ is_over dag c b
  same_test n c b lc lb t le = both_ways (is_ancestor_within n fork_at (node_at dag c) (node_at dag b)) (is_over dag c b)
      (λ h. anc_over dag g c b lb (defined_anc n c b lc lb t h))
      (λ h. anc_defined c n b lb t le (over_anc dag g (count_of dag) c b h))

  -- ---- a panorama

  module _ (panorama : List View) (ip : IsPanorama dag panorama) where
    abbrev pub seen : List Obs
    seen = observations dag panorama

    abbrev pub below : List Node
    below = past units seen

    below_in : Within below units
    below_in = reach_within unit_cites (cites seen) units

    below_one_name : OneName below
    below_one_name x y d m n s t = graph_one_name dag x y d (below_in x m) (below_in y n) s t

    cited_below : (v : ℕ) (number : UnitNo) → view_at panorama v ≡ view.Correct number → Among (node_at dag number.0) below
    cited_below v number e = reach_first unit_cites (cites seen) units (node_at dag number.0) (node_among dag g number.0 (ip.known v number e)) (number_cites dag g panorama v number e)

    latest_at : (v : ℕ) (number : UnitNo) → view_at panorama v ≡ view.Correct number → latest below seen v ≡ Some (node_at dag number.0)
    latest_at v number e = ap (observed below) (slot_of dag panorama v ∙ ap (obs_of dag) e) ∙ found_node below (node_at dag number.0) (unit_at dag number.0).digest below_one_name (cited_below v number e) refl

    -- votes are below the panorama
    pub vote_below : (v : ℕ) (number : UnitNo) → view_at panorama v ≡ view.Correct number → Among (node_at dag (unit_at dag number.0).vote.0) below
    vote_below v number e =
        let m = cited_below v number e in
        elim (vote_at number.0 (ip.known v number e)).where_is [
          | inl same ↦ subst (λ (n : ℕ). Among (node_at dag n) below) same m
          | inr chosen ↦ past_below units acyclic seen (node_at dag number.0) m (node_at dag (unit_at dag number.0).vote.0) (own_below (node_at dag number.0) (node_at dag (unit_at dag number.0).vote.0) chosen)
        ]

    -- and so are their ancestors
    pub anc_below : (c b : ℕ) → b < count_of dag → is_block (node_at dag b) ≡ true → Among (node_at dag b) below → IsAncestor dag c b → Among (node_at dag c) below
    anc_below c _ lb t m itself = m
    anc_below c _ lb t m (further high parent e k) =
        let less = parent_earlier dag g high parent lb e in
        anc_below c parent.0 (omega arith) (parent_is_block dag g high parent lb e) (past_below units acyclic seen (node_at dag high) m (node_at dag parent.0) (parent_below high parent lb t e)) k

    -- ---- scores

    abbrev part : ℕ → ℕ → ℕ
    part c v = if is_some_and (votes_for (length below) fork_at (node_at dag c)) (latest below seen v) then slice_index weights v else 0

    part_is : (c v : ℕ) → c < count_of dag → part c v ≡ score_in dag (vote_in dag (view_at panorama v) (slice_index weights v)) c
    unfolding score_in votes_for
    part_is c v lc = go (view_at panorama v) refl
      where
        none : latest below seen v ≡ None → part c v ≡ 0
        none e = ap (λ (o : Option Node). if is_some_and (votes_for (length below) fork_at (node_at dag c)) o then slice_index weights v else 0) e

        go : (w : View) → view_at panorama v ≡ w → part c v ≡ score_in dag (vote_in dag w (slice_index weights v)) c
        go view.Absent e = none (ap (observed below) (slot_of dag panorama v ∙ ap (obs_of dag) e))
        go view.Faulty e = none (ap (observed below) (slot_of dag panorama v ∙ ap (obs_of dag) e))
        go (view.Correct number) e =
            let vote = vote_at number.0 (ip.known v number e) in
            let fewer = past_fewer units acyclic seen (node_at dag (unit_at dag number.0).vote.0) (vote_below v number e) in
            let test : is_some_and (votes_for (length below) fork_at (node_at dag c)) (latest below seen v) ≡ is_over dag c (unit_at dag number.0).vote.0 =
            ap (is_some_and (votes_for (length below) fork_at (node_at dag c))) (latest_at v number e)
            ∙ ap (is_some_and (is_ancestor_within (length below) fork_at (node_at dag c))) vote.vote_is
            ∙ same_test (length below) c (unit_at dag number.0).vote.0 lc vote.known vote.block (omega arith) in
            ap (λ (b : Bool). if b then slice_index weights v else 0) test ∙ sym (zero-add (share dag c (record { block = (unit_at dag number.0).vote; height = 0; weight = slice_index weights v })))

    parts_are : (c n : ℕ) → c < count_of dag → sum_by (part c) (range_with_len 0 n) ≡ score_in dag (votes_of dag weights panorama n) c
    unfolding score_in votes_of
    parts_are c zero lc = refl
    parts_are c (suc n) lc =
        let e : 0 + n ≡ n = omega arith in
        let here : part c (0 + n) ≡ part c n = ap (part c) e in
        let rest = parts_are c n lc in
        let last = part_is c n lc in
        omega (arith, range_push (part c) n 0, sum_by-append (share dag c) (votes_of dag weights panorama n) (vote_in dag (view_at panorama n) (slice_index weights n)))

    abbrev pub votes : List Vote
    votes = votes_of dag weights panorama dag.validators

    -- scores by votes are the scores of the definitions
    pub score_is : (c : ℕ) → c < count_of dag → score_of weights below fork_at seen (node_at dag c) ≡ score_in dag votes c
    unfolding score_of
    score_is c lc = parts_are c (length weights) lc ∙ ap (λ (n : ℕ). score_in dag (votes_of dag weights panorama n) c) aw.length_is

    -- ---- children

    abbrev place_known : Option UnitNo → Type 0
    place_known None = Unit {0}
    place_known (Some p) = p.0 < count_of dag

    same_place : (o place : Option UnitNo) → place_known o → place_known place → is_at (node_for dag o) (node_for dag place) ≡ true → o ≡ place
    same_place None None ko kp t = refl
    same_place None (Some q) ko kp t = absurd cc
    same_place (Some p) None ko kp t = absurd cc
    same_place (Some p) (Some q) ko kp t = let same : p.0 ≡ q.0 = same_number dag g p.0 q.0 ko kp t in let P : ℕ → Option UnitNo = λ n. Some (record { 0 = n }) in ap P same

    at_itself : (o : Option Node) → is_at o o ≡ true
    at_itself None = refl
    at_itself (Some x) = digest_self x.digest

    parent_known : (n : ℕ) (o : Option UnitNo) → n < count_of dag → (unit_at dag n).parent ≡ o → place_known o
    parent_known n None lt e = tt
    parent_known n (Some p) lt e = let less = parent_earlier dag g n p lt e in omega arith

    abbrev children : Option UnitNo → List Node
    children place = children_of below fork_at (node_for dag place)

    -- a child of the definitions has a number
    child_number : (place : Option UnitNo) → place_known place → (d : Node) → Among d (children place) → (n : ℕ) × (IsChild dag place n) × (node_at dag n ≡ d)
    child_number place known d m =
        let k = Among-filter (λ b. is_block b && is_at (fork_at b) (node_for dag place)) d below m in
        let parts = and_parts (is_block d) (is_at (fork_at d) (node_for dag place)) k.1 in
        let n = among_node dag d (below_in d k.0) in
        let block : is_block (node_at dag n.0) ≡ true = subst (λ (z : Node). is_block z ≡ true) (sym n.2) parts.0 in
        let test : is_at (node_for dag (unit_at dag n.0).parent) (node_for dag place) ≡ true =
        subst (λ (o : Option Node). is_at o (node_for dag place) ≡ true) (parent_at n.0 n.1 block) (subst (λ (z : Node). is_at (fork_at z) (node_for dag place) ≡ true) (sym n.2) parts.1) in
        (n.0, record { known = n.1; block = block; parent = same_place (unit_at dag n.0).parent place (parent_known n.0 (unit_at dag n.0).parent n.1 refl) known test }, n.2)

    -- and a child by number that is below the panorama is a child of the definitions
    child_among : (place : Option UnitNo) (c : ℕ) → IsChild dag place c → Among (node_at dag c) below → Among (node_at dag c) (children place)
    child_among place c k m = filter-Among (λ b. is_block b && is_at (fork_at b) (node_for dag place)) (node_at dag c) below m
        (and_whole (is_block (node_at dag c)) (is_at (fork_at (node_at dag c)) (node_for dag place)) k.block
        (subst (λ (o : Option Node). is_at o (node_for dag place) ≡ true) (sym (parent_at c k.known k.block ∙ ap (node_for dag) k.parent)) (at_itself (node_for dag place))))

    abbrev scored : ℕ → ℕ
    scored c = score_of weights below fork_at seen (node_at dag c)

    -- what votes name is below
    pub voted_below : (n : ℕ) (vote : Vote) → Among vote (votes_of dag weights panorama n) → (vote.block.0 < count_of dag) × (is_block (node_at dag vote.block.0) ≡ true) × Among (node_at dag vote.block.0) below
    unfolding votes_of
    voted_below zero vote m = absurd m
    voted_below (suc n) vote m = elim (append_cases vote (votes_of dag weights panorama n) (vote_in dag (view_at panorama n) (slice_index weights n)) m) [
      | inl before ↦ voted_below n vote before
      | inr last ↦ go (view_at panorama n) refl last
    ]
      where
        go : (w : View) → view_at panorama n ≡ w → Among vote (vote_in dag w (slice_index weights n)) → (vote.block.0 < count_of dag) × (is_block (node_at dag vote.block.0) ≡ true) × Among (node_at dag vote.block.0) below
        go view.Absent e h = absurd h
        go view.Faulty e h = absurd h
        go (view.Correct number) e (inr h) = absurd h
        go (view.Correct number) e (inl h) =
            let own = vote_at number.0 (ip.known n number e) in
            let name = ap (λ (v : Vote). v.block.0) h in (
              subst (λ (b : ℕ). b < count_of dag) name own.known,
              subst (λ (b : ℕ). is_block (node_at dag b) ≡ true) name own.block,
              subst (λ (b : ℕ). Among (node_at dag b) below) name (vote_below n number e),
            )

    supported_below : (c : ℕ) → 0 < score_in dag votes c → Among (node_at dag c) below
    supported_below c some =
        let v = score_some dag g votes c some in
        let b = voted_below dag.validators v.0 v.1 in
        anc_below c v.0.block.0 b.0 b.1 b.2 v.2

    best_defined : (place : Option UnitNo) (c : ℕ) → place_known place → IsBest dag votes place c → best_child weights below fork_at seen (node_for dag place) ≡ Some (scored c, node_at dag c)
    best_defined place c known b = best_is weights below fork_at seen (node_for dag place) (node_at dag c) (child_among place c b.child (supported_below c b.some))
        (let same = score_is c b.child.known in let some = b.some in omega arith)
        (λ d m. let n = child_number place known d m in
        subst (λ (z : Node). (z ≡ node_at dag c) ⊎ Falls (score_of weights below fork_at seen z, z) (scored c, node_at dag c)) n.2
        (elim (b.others n.0 n.1) [
          | inl same ↦ inl (ap (λ (k : ℕ). node_at dag k) same)
          | inr (inl less) ↦ inr (inl (let sn = score_is n.0 n.1.known in let sc = score_is c b.child.known in omega arith))
          | inr (inr tie) ↦ inr (inr (score_is n.0 n.1.known ∙ tie.0 ∙ sym (score_is c b.child.known), tie.1))
        ]))

    none_defined : (place : Option UnitNo) → place_known place → HasNoSupport dag votes place → best_child weights below fork_at seen (node_for dag place) ≡ None
    none_defined place known none = none_is weights below fork_at seen (node_for dag place)
        (λ d m. let n = child_number place known d m in
        subst (λ (z : Node). score_of weights below fork_at seen z ≡ 0) n.2 (score_is n.0 n.1.known ∙ none n.0 n.1))

    -- ---- the walk

    abbrev depth : Option UnitNo → ℕ
    depth None = 0
    depth (Some p) = size p.0 + 1

    -- from the place the walk comes to its end, however many steps more it may take
    abbrev Ends : Option UnitNo → Option UnitNo → Type 0
    Ends place end = (n : ℕ) → length below ≤ n + depth place → walk n weights below fork_at seen (node_for dag place) ≡ node_for dag end

    child_deeper : (place : Option UnitNo) (c : ℕ) → IsChild dag place c → Among (node_at dag c) below → (depth place ≤ size c) × (size c < length below)
    child_deeper place c k m = (go place k.parent, past_fewer units acyclic seen (node_at dag c) m)
      where
        go : (o : Option UnitNo) → (unit_at dag c).parent ≡ o → depth o ≤ size c
        go None e = omega arith
        go (Some p) e = let fewer = past_fewer units acyclic (unit_at dag c).signed.unit.panorama (node_at dag p.0) (parent_below c p k.known k.block e) in omega arith

    walk_ends : (end place : Option UnitNo) → place_known place → WalksTo dag votes end place → Ends place end
    walk_ends end _ known (stops place e none) n le = walk_stops weights below fork_at seen n (node_for dag place) (none_defined place known none) ∙ ap (node_for dag) (sym e)
    walk_ends end _ known (goes place c best next) n le = step n le (walk_ends end (Some c) best.child.known next)
      where
        step : (n : ℕ) → length below ≤ n + depth place → Ends (Some c) end → walk n weights below fork_at seen (node_for dag place) ≡ node_for dag end
        step zero le later = absurd (let d = child_deeper place c.0 best.child (supported_below c.0 best.some) in let a = d.0 in let b = d.1 in omega arith)
        step (suc n) le later = walk_goes weights below fork_at seen n (node_for dag place) (scored c.0, node_at dag c.0) (best_defined place c.0 known best)
            ∙ later n (let d = child_deeper place c.0 best.child (supported_below c.0 best.some) in let a = d.0 in omega arith)

    -- The walk by number ends where the fork choice is.
    pub walk_is_fork : (end : Option UnitNo) → WalksTo dag votes end None → node_for dag end ≡ fork_of weights units seen
    walk_is_fork end h = sym (fork_is_walk weights units acyclic seen ∙ walk_whole weights below fork_at seen ∙ walk_ends end None tt h (length below) (omega arith))
