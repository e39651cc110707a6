-- What a journal settles is a graph of the page.
use Rattle.std.proofs.Common.{◌≡◌, ℕ, ◌-◌, ◌≤◌, ◌<◌, inl, inr, Bool, true, false, cond, List, [], ◌++◌, length, Some, None, refl, sym, ap, subst, ◌∙◌, arith}
use Rattle.std.specs.Prelude.{◌&&◌, ◌↔◌}
use Rattle.std.proofs.lemmas.List.FromFn.{length-map-range_with_len}
use Rattle.hw_types.specs.declared.unit.Obs.{Obs}
use Rattle.hw_types.specs.declared.unit.Obs.TheVariants.{Absent, Correct, Faulty}
use Rattle.hw_types.specs.declared.config.Config.{Config}
use Rattle.hw_types.specs.Graph.{Node, node_eq, is_some_and, is_faulty_mark, observes, observed, slot, cites, unit_cites, past, previous, follows, lane_of, is_on_lane, obs_at_most, find_node}
use Rattle.hw_types.specs.Below.{Among}
use Rattle.hw_types.specs.ByName.{by_name, IsRising}
use Rattle.hw_types.specs.Votes.{ForkAt, weight_of, votes_for, fork_of, unit_fork}
use Rattle.hw_types.specs.Settled.{settled_of, is_faulty, tip_of, correct_or_absent, panorama_over, panorama_of, fork_choice, faulty_weight}
use Rattle.hw_types.specs.Summit.{Committees, sees_from, HasSummit}
use Rattle.hw_types.specs.Lawful.{IsLawful, settled_in_either, faulty_in_either}
use Rattle.hw_types.specs.Journal.{Setting, named, received_of}
use Rattle.hw_types.specs.SomeBlock.{one_validator, by_number, its_block, block_and_next}
use Rattle.hw_types.proofs.SomeBlock.{a_block_stands}
use Rattle.hw_types.proofs.PastLaws.{reach_first, reach_further, reach_keeps, reach_within}
use Rattle.hw_types.proofs.StableLaws.{OneName, and_parts, and_whole}
use Rattle.hw_types.proofs.SettledLaws.{digest_self, named_by}
use Rattle.hw_types.proofs.WordsLaws.{either, never_both, passes_some, named_eq, named_among, found_node, find_node_is, slot_cites}
use Rattle.hw_types.proofs.GraphLaws.{rising_one_name}
use Rattle.hw_types.proofs.RunLaws.{by_name_rising}
use Rattle.hw_types.proofs.LawfulLaws.{faulty_is, settled_lawful}
use Rattle.hw_types.proofs.LaneLaws.{equivocates_of, past_at_most}
use Rattle.hw_types.proofs.HeightLaws.{chosen_below}
use Rattle.hw_types.proofs.TipLaws.{tip_or_none, other_slots, slot_over}
use Rattle.hw_types.proofs.JournalLaws.{received_rising, received_local, longer_extends}
use Rattle.hw_types.proofs.GrowsLaws.{received_grows}
use Rattle.hw_types.proofs.UnionLaws.{either_lawful}
use Rattle.hw_safety.proofs.LaneLaws.{lawful_graph, latest_is}
use Rattle.hw_page.specs.Page.{Below, cited, further, OnLane, last, back, Covers, IsLawfulGraph, IsSlot, IsPanorama, Choice, Weigh, IsChoice, SeesFrom, Summit}
use Rattle.hw_page.specs.OfJournals.{LawfulIsAPage, PageIsOfJournals, PageIsOfTwoJournals, BlocksOfJournals, SomeBlockIsFinal}
use Rattle.hw_page.proofs.PageLaws.{into, to_lane, slot_to, slot_from, sees_to, sees_of, vote_from, has_summit, choice_there}

-- ---- a lawful graph, in words

module _ (weights : List ℕ) (faulty : ℕ → Bool) (units : List Node) (lawful : IsLawful weights faulty units) where
  one : OneName units
  one = rising_one_name units lawful.in_order

  below_past : (panorama : List Obs) (x : Node) → Below units panorama x → Among x (past units panorama)
  below_past panorama _ (cited x m c) = reach_first unit_cites (cites panorama) units x m (slot_cites panorama c.0 x.digest x c.1 refl)
  below_past panorama _ (further x y b m c) = reach_further unit_cites (cites panorama) units x y (below_past panorama y b) m (slot_cites y.unit.panorama c.0 x.digest x c.1 refl)

  lane_on : (u x : Node) → Among u units → Among x (lane_of units u) → OnLane units u x
  lane_on u x m h = reach_keeps follows (λ z. node_eq z u) units (OnLane units u)
      (λ y k t. subst (OnLane units u) (sym (one y u u.digest k m t (digest_self u.digest))) last)
      (λ z y l k t. back z y l k (named_by (slot y.unit.panorama y.unit.creator) z.digest t)) x h

  on_lane : (u x : Node) → Among u units → Among x units → is_on_lane units x u ≡ true → OnLane units u x
  on_lane u x m k h = lane_on u x m (named_among units (lane_of units u) x one (reach_within follows (λ z. node_eq z u) units) k h)

  never_marked : (u : Node) → Among u units → slot u.unit.panorama u.unit.creator ≡ Faulty → ⊥
  never_marked u m e = never_both (is_faulty_mark (slot u.unit.panorama u.unit.creator)) (ap is_faulty_mark e) (lawful.unmarked u m)

  none_cited : (u : Node) → Among u units → previous units u ≡ None → slot u.unit.panorama u.unit.creator ≡ Absent
  none_cited u m h = go (slot u.unit.panorama u.unit.creator) refl
    where
      go : (o : Obs) → slot u.unit.panorama u.unit.creator ≡ o → slot u.unit.panorama u.unit.creator ≡ Absent
      go Absent e = e
      go Faulty e = absurd (never_marked u m e)
      go (Correct d) e =
          let x = lawful.closed u u.unit.creator d m e in
          let f : previous units u ≡ Some x.0 = ap (observed units) e ∙ found_node units x.0 d one x.1 x.2 in
          absurd (let no : None ≡ Some x.0 = sym h ∙ f in cc)

  some_cited : (u p : Node) → previous units u ≡ Some p → Among p units × (slot u.unit.panorama u.unit.creator ≡ Correct p.digest)
  some_cited u p h =
      let s = latest_is units u.unit.panorama u.unit.creator p h in
      let f = find_node_is units p s.0 s.2 in
      (f.0, s.1 ∙ ap Correct (sym f.1))

  at_most_covers : (o p : Obs) → obs_at_most units o p ≡ true → Covers units o p
  at_most_covers Absent p h = tt
  at_most_covers Faulty p h = faulty_is p h
  at_most_covers (Correct d) Absent h = absurd cc
  at_most_covers (Correct d) Faulty h = tt
  at_most_covers (Correct d) (Correct e) h =
      let y = passes_some (λ y. is_some_and (λ x. is_on_lane units x y) (find_node units d)) (find_node units e) h in
      let x = passes_some (λ x. is_on_lane units x y.0) (find_node units d) y.2 in
      let fy = find_node_is units y.0 e y.1 in
      let fx = find_node_is units x.0 d x.1 in
      (y.0, fy.0, fy.1, x.0, on_lane y.0 x.0 fy.0 fx.0 x.2, fx.1)

  pub page_graph : IsLawfulGraph (length weights) faulty units
  page_graph = record {
    names = λ x y m k e. one x y y.digest m k (named_eq x y e) (digest_self y.digest);
    size = λ u m. lawful.length_is u m;
    creator = λ u m. lawful.creator_is u m;
    closed = λ u v d m e. lawful.closed u v d m e;
    no_cycle = λ u m b. (lawful_graph weights faulty units lawful).no_cycle u m (below_past u.unit.panorama u b);
    unmarked = λ u m e. never_marked u m e;
    numbered = λ u m. elim (lawful.numbered u m) [
      | inl first ↦ inl (none_cited u m first.0, first.1)
      | inr p ↦ (let c = some_cited u p.0 p.1 in inr (p.0, c.0, c.1, p.2))
    ];
    covers = λ u w m k c v. at_most_covers (slot w.unit.panorama v) (slot u.unit.panorama v)
        (past_at_most weights faulty units lawful u w m (below_past u.unit.panorama w (cited w k c)) v);
    marks = λ u v m e. lawful.marks u v m (ap is_faulty_mark e);
    forks = λ x y m k c e. elim (either (node_eq x y)) [
      | inl same ↦ inl (one x y y.digest m k same (digest_self y.digest))
      | inr other ↦ inr (lawful.forks x.unit.creator (equivocates_of weights faulty units lawful x.unit.creator x y m k refl (sym c) e other))
    ];
  }

module _ (config : Config) (faulty : ℕ → Bool) (units : List Node) (lawful : IsLawful config.weights faulty units) where
  pub page_panorama : IsPanorama (length config.weights) faulty units (panorama_over config faulty units)
  page_panorama = record {
    size = length-map-range_with_len (λ w. cond (faulty w) Faulty (correct_or_absent (tip_of units w))) 0 (length config.weights);
    each = λ v lt. go v lt (faulty v) refl;
  }
    where
      go : (v : ℕ) → v < length config.weights → (b : Bool) → faulty v ≡ b → IsSlot faulty units v (slot (panorama_over config faulty units) v)
      go v lt true e = inl (e, (other_slots config faulty units lawful).marked v lt e)
      go v lt false e = elim (tip_or_none config.weights faulty units lawful v e) [
        | inl none ↦ inr (inl (e, (other_slots config faulty units lawful).none v e none.0, none.0))
        | inr t ↦ inr (inr (
          e,
          t.0,
          slot_over config faulty units v lt ∙ ap (λ b. cond b Faulty (correct_or_absent (tip_of units v))) e ∙ ap correct_or_absent t.2,
          t.1.member,
          t.1.creator,
          λ x m c. on_lane config.weights faulty units lawful t.0 x t.1.member m (t.1.lane x m c),
        ))
      ]

-- ---- summits

module _ (weights : List ℕ) (faulty : ℕ → Bool) (units : List Node) (lawful : IsLawfulGraph (length weights) faulty units) where
  abbrev all : List Node
  all = by_name units

  abbrev choice : Choice
  choice = fork_of weights all

  abbrev is : IsChoice weights units choice
  is = choice_there weights faulty units lawful

  abbrev inside : (panorama : List Obs) (c : Node) → choice panorama ≡ Some c → Among c (past all panorama)
  inside = λ panorama c e. chosen_below weights all panorama c e

  module _ (panorama : List Obs) (block : Node) (known : Among block units) (level quorum : ℕ) where
    from_seen : (c : Committees) (j : ℕ) (x : Node) → quorum ≤ weight_of weights (λ w. c.member j w && sees_from all x w (c.start (j - 1) w))
        → (n : ℕ) × Weigh weights (λ w. (c.member j w ≡ true) × SeesFrom units x w (c.start (j - 1) w)) n × (quorum ≤ n)
    from_seen c j x le = (
      weight_of weights (λ w. c.member j w && sees_from all x w (c.start (j - 1) w)),
      (
        λ w. c.member j w && sees_from all x w (c.start (j - 1) w),
        λ w. (
          λ t. let p = and_parts (c.member j w) (sees_from all x w (c.start (j - 1) w)) t in (p.0, sees_of weights faulty units lawful choice inside is x w (c.start (j - 1) w) p.1),
          λ p. and_whole (c.member j w) (sees_from all x w (c.start (j - 1) w)) p.0 (sees_to weights faulty units lawful choice inside is x w (c.start (j - 1) w) p.1),
        ),
        refl,
      ),
      le,
    )

    to_page : HasSummit weights all panorama block level quorum → Summit weights units choice panorama block level quorum
    to_page (c, s) = record {
      member = c.member;
      start = c.start;
      correct_slot = λ v h. let r = s.correct_slot v h in (r.0, r.1, slot_from weights faulty units lawful choice inside is panorama v r.1 r.2);
      nested = λ j v lt h. s.nested j v lt h;
      not_empty = s.not_empty;
      start_in_lane = λ j v u le h l. s.start_in_lane j v u le h (slot_to weights faulty units lawful choice inside is panorama v u l);
      votes = λ v u x h l on from.
          let m = to_lane weights faulty units lawful u x l.0 on in
          vote_from weights faulty units lawful choice inside (length all) block x (into weights faulty units lawful block known) (reach_within follows (λ z. node_eq z u) all x m)
          (s.votes v u h (slot_to weights faulty units lawful choice inside is panorama v u l) x m from);
      quorums = λ j v u x lo hi h l on from.
          from_seen c j x (s.quorums j v u lo hi h (slot_to weights faulty units lawful choice inside is panorama v u l) x (to_lane weights faulty units lawful u x l.0 on) from);
    }

    from_page : Summit weights units choice panorama block level quorum → HasSummit weights all panorama block level quorum
    from_page s = has_summit weights faulty units lawful choice inside is panorama block level quorum s

-- ---- the page

pub lawful_page : LawfulIsAPage
lawful_page config faulty units lawful =
    let graph = page_graph config.weights faulty units lawful in
    let same : by_name units ≡ units = by_name_rising units lawful.in_order in
    let w = config.weights in
    record {
      graph = graph;
      choice_is = subst (λ (us : List Node). IsChoice w units (fork_of w us)) same (choice_there w faulty units graph);
      panorama_is = page_panorama config faulty units lawful;
      summits = λ block level quorum m.
          subst (λ (us : List Node). HasSummit w us (panorama_over config faulty units) block level quorum ↔ Summit w units (fork_of w us) (panorama_over config faulty units) block level quorum) same
          (to_page w faulty units graph (panorama_over config faulty units) block m level quorum, from_page w faulty units graph (panorama_over config faulty units) block m level quorum);
    }

pub page_of_journals : PageIsOfJournals
unfolding panorama_of fork_choice
page_of_journals s journal =
    let k = received_of s journal in
    (lawful_page s.config (is_faulty k (settled_of s.config k)) (settled_of s.config k) (settled_lawful s.config k (received_rising s journal) s.instance (received_local s journal)), refl)

pub of_two_journals : PageIsOfTwoJournals
of_two_journals s left right apart =
    let k = received_of s left in
    let l = received_of s right in
    lawful_page s.config (faulty_in_either s.config k l) (settled_in_either s.config k l)
    (either_lawful s.config k l (received_rising s left) (received_rising s right) apart (settled_lawful s.config k (received_rising s left) s.instance (received_local s left)) (settled_lawful s.config l (received_rising s right) s.instance (received_local s right)))

pub blocks_of_journals : BlocksOfJournals
blocks_of_journals s journal more block level quorum m low half summit =
    let k = received_of s journal in
    let l = received_of s (journal ++ more) in
    let grows = received_grows s.config k l (received_rising s journal) (received_rising s (journal ++ more)) (longer_extends s journal more) in
    let before = (page_of_journals s journal).0 in
    record {
      part = settled_of s.config k;
      part_faulty = is_faulty k (settled_of s.config k);
      part_choice = fork_of s.config.weights (settled_of s.config k);
      part_panorama = panorama_of s.config k;
      lawful = before.graph;
      within = grows.settled;
      fewer = grows.faulty;
      choice_is = before.choice_is;
      panorama_is = before.panorama_is;
      known = m;
      low = low;
      majority = half;
      summit = summit;
    }

-- ---- some block

abbrev its : List Node
its = settled_of one_validator (received_of by_number block_and_next)

-- what unfolds here
unfoldable unfold_state : Type 0
unfolding Rattle.hw_types.specs.Closure.closure Rattle.hw_types.specs.Closure.closure_after Rattle.hw_types.specs.Graph.reach Rattle.hw_types.specs.Graph.is_at_most Rattle.hw_types.specs.Graph.is_consistent Rattle.hw_types.specs.Votes.is_ancestor_within Rattle.hw_types.specs.Votes.votes_for Rattle.hw_types.specs.Votes.height_within Rattle.hw_types.specs.Votes.height_of Rattle.hw_types.specs.Votes.score_of Rattle.hw_types.specs.Votes.best_child Rattle.hw_types.specs.Votes.walk Rattle.hw_types.specs.Votes.ghost_walk Rattle.hw_types.specs.Votes.choices_after Rattle.hw_types.specs.Votes.fork_over Rattle.hw_types.specs.Rules.is_after_terminal Rattle.hw_types.specs.Rules.local_tests Rattle.hw_types.specs.Rules.has_naive_fork Rattle.hw_types.specs.Rules.state_tests Rattle.hw_types.specs.Rounds.leader_of Rattle.hw_types.specs.Settled.equivocates Rattle.hw_types.specs.Settled.is_endorsed Rattle.hw_types.specs.Settled.needs_of Rattle.hw_types.specs.Settled.missing_of Rattle.hw_types.specs.Settled.settled_of Rattle.hw_types.specs.Settled.tip_of Rattle.hw_types.specs.Settled.panorama_of Rattle.hw_types.specs.ByName.by_name Rattle.hw_types.specs.Journal.received_of
unfold_state = Unit {0}

block_there : Among (named by_number its_block) its
unfolding unfold_state
block_there = inl refl

pub some_block : SomeBlockIsFinal
some_block =
    let page = (page_of_journals by_number block_and_next).0 in
    let summit = (page.summits (named by_number its_block) 1 1 block_there).0 a_block_stands.summit in
    blocks_of_journals by_number block_and_next [] (named by_number its_block) 1 1 block_there (omega arith) (omega arith) summit
