-- Where a block has a summit, each of its ancestors has one, with the same committees.
use Rattle.std.proofs.Common.{◌≡◌, ℕ, zero, suc, ◌≤◌, inl, inr, Bool, true, false, cond, List, length, Some, ap, subst, ◌∙◌, arith}
use Rattle.hw_types.specs.declared.unit.Obs.{Obs}
use Rattle.hw_types.specs.declared.unit.Vertex.{Vertex}
use Rattle.hw_types.specs.Graph.{Node, node_eq, is_some_and, past, cites, unit_cites, follows}
use Rattle.hw_types.specs.Below.{Among}
use Rattle.hw_types.specs.Votes.{ForkAt, is_block, vote_of, is_ancestor_within, votes_for, unit_fork}
use Rattle.hw_types.specs.Settled.{settled_of}
use Rattle.hw_types.specs.Journal.{Setting, received_of}
use Rattle.hw_types.specs.Summit.{HasSummit, Stands}
use Rattle.hw_types.proofs.PastLaws.{or_cases, or_left, or_right, reach_within}
use Rattle.hw_types.proofs.SettledLaws.{digest_self}
use Rattle.hw_types.proofs.ChoiceLaws.{IsGraph, past_fewer}
use Rattle.hw_types.proofs.WalkLaws.{settled_graph}
use Rattle.hw_types.proofs.JournalLaws.{received_rising}
use Rattle.hw_types.proofs.HeightLaws.{past_short, chosen_below}
use Rattle.hw_types.proofs.WordsLaws.{passes_some}
use Rattle.hw_types.proofs.GraphLaws.{rising_one_name}
use Rattle.hw_safety.specs.SummitLaws.{AncestorsHaveSummits}

named_ancestor : (n : ℕ) (fork_at : ForkAt) (a b : Node) → node_eq a b ≡ true → is_ancestor_within n fork_at a b ≡ true
unfolding is_ancestor_within
named_ancestor zero fork_at a b h = h
named_ancestor (suc n) fork_at a b h = or_left (node_eq a b) (is_some_and (is_ancestor_within n fork_at a) (fork_at b)) h

module _ (weights : List ℕ) (units : List Node) (graph : IsGraph units) where
  abbrev fork_at : ForkAt
  fork_at = unit_fork weights units

  abbrev rank : Node → ℕ
  rank y = length (past units y.unit.panorama)

  pub inside : (y p : Node) → Among p (past units y.unit.panorama) → Among p units
  inside y p m = reach_within unit_cites (cites y.unit.panorama) units p m

  -- as many parents as there are units below are enough
  pub enough_parents : (n m : ℕ) (a y : Node) → Among y units → rank y ≤ n → is_ancestor_within m fork_at a y ≡ true → is_ancestor_within n fork_at a y ≡ true
  unfolding is_ancestor_within
  enough_parents n zero a y k le h = named_ancestor n fork_at a y h
  enough_parents zero (suc m) a y k le h = elim (or_cases (node_eq a y) (is_some_and (is_ancestor_within m fork_at a) (fork_at y)) h) [
    | inl here ↦ here
    | inr up ↦ (let p = passes_some (is_ancestor_within m fork_at a) (fork_at y) up in let fewer = past_fewer units graph y.unit.panorama p.0 (chosen_below weights units y.unit.panorama p.0 p.1) in absurd (omega arith))
  ]
  enough_parents (suc n) (suc m) a y k le h = elim (or_cases (node_eq a y) (is_some_and (is_ancestor_within m fork_at a) (fork_at y)) h) [
    | inl here ↦ or_left (node_eq a y) (is_some_and (is_ancestor_within n fork_at a) (fork_at y)) here
    | inr up ↦ (let p = passes_some (is_ancestor_within m fork_at a) (fork_at y) up in
        let b = chosen_below weights units y.unit.panorama p.0 p.1 in
        let fewer = past_fewer units graph y.unit.panorama p.0 b in
        let rest = enough_parents n m a p.0 (inside y p.0 b) (omega arith) p.2 in
        or_right (node_eq a y) (is_some_and (is_ancestor_within n fork_at a) (fork_at y)) (ap (is_some_and (is_ancestor_within n fork_at a)) p.1 ∙ rest))
  ]

  -- an ancestor of an ancestor
  chain : (n m : ℕ) (a b y : Node) → Among b units → Among y units → is_ancestor_within m fork_at a b ≡ true → is_ancestor_within n fork_at b y ≡ true → (k : ℕ) × (is_ancestor_within k fork_at a y ≡ true)
  unfolding is_ancestor_within
  chain zero m a b y j k h t = (m, subst (λ z. is_ancestor_within m fork_at a z ≡ true) (graph.one_name b y y.digest j k t (digest_self y.digest)) h)
  chain (suc n) m a b y j k h t = elim (or_cases (node_eq b y) (is_some_and (is_ancestor_within n fork_at b) (fork_at y)) t) [
    | inl here ↦ (m, subst (λ z. is_ancestor_within m fork_at a z ≡ true) (graph.one_name b y y.digest j k here (digest_self y.digest)) h)
    | inr up ↦ (let p = passes_some (is_ancestor_within n fork_at b) (fork_at y) up in
        let rest = chain n m a b p.0 j (inside y p.0 (chosen_below weights units y.unit.panorama p.0 p.1)) h p.2 in
        (suc rest.0, or_right (node_eq a y) (is_some_and (is_ancestor_within rest.0 fork_at a) (fork_at y)) (ap (is_some_and (is_ancestor_within rest.0 fork_at a)) p.1 ∙ rest.1)))
  ]

  -- the vote of a unit is one of the units
  pub vote_in : (x w : Node) → Among x units → vote_of fork_at x ≡ Some w → Among w units
  vote_in x w m e = go (is_block x) e
    where
      go : (b : Bool) → cond b (Some x) (fork_at x) ≡ Some w → Among w units
      go true h = (let same : x ≡ w = cc in subst (λ z. Among z units) same m)
      go false h = inside x w (chosen_below weights units x.unit.panorama w h)

  -- a unit that votes for a block votes for its ancestors
  pub votes_up : (m : ℕ) (a b x : Node) → Among b units → Among x units → is_ancestor_within m fork_at a b ≡ true → votes_for (length units) fork_at b x ≡ true → votes_for (length units) fork_at a x ≡ true
  unfolding votes_for
  votes_up m a b x j k h t =
      let w = passes_some (is_ancestor_within (length units) fork_at b) (vote_of fork_at x) t in
      let i = vote_in x w.0 k w.1 in
      let c = chain (length units) m a b w.0 j i h w.2 in
      ap (is_some_and (is_ancestor_within (length units) fork_at a)) w.1 ∙ enough_parents (length units) c.0 a w.0 i (past_short units w.0.unit.panorama) c.1

  -- and so its ancestors have the block's summits
  pub ancestor_summit : (panorama : List Obs) (m : ℕ) (a b : Node) (level quorum : ℕ) → Among b units → is_ancestor_within m fork_at a b ≡ true
      → HasSummit weights units panorama b level quorum → HasSummit weights units panorama a level quorum
  ancestor_summit panorama m a b level quorum j h s = (
    s.0,
    record {
      correct_slot = s.1.correct_slot;
      nested = s.1.nested;
      not_empty = s.1.not_empty;
      start_in_lane = s.1.start_in_lane;
      quorums = s.1.quorums;
      votes = λ v u k e x n from. votes_up m a b x j (reach_within follows (λ z. node_eq z u) units x n) h (s.1.votes v u k e x n from);
    },
  )

pub ancestors_have_summits : AncestorsHaveSummits
ancestors_have_summits weights units rising acyclic panorama m a b level quorum = ancestor_summit weights units (record { in_order = rising; one_name = rising_one_name units rising; no_cycle = acyclic }) panorama m a b level quorum

-- An ancestor of a block that stands in a journal stands too, with the same level and quorum.
pub ancestor_stands : (s : Setting) (journal : List Vertex) (m : ℕ) (a b : Node) (level quorum : ℕ) → Among b (settled_of s.config (received_of s journal))
    → is_ancestor_within m (unit_fork s.config.weights (settled_of s.config (received_of s journal))) a b ≡ true
    → Stands s.config (received_of s journal) b level quorum → Stands s.config (received_of s journal) a level quorum
ancestor_stands s journal m a b level quorum j h t = record {
  low = t.low;
  high = t.high;
  is_quorum = t.is_quorum;
  summit = ancestor_summit s.config.weights (settled_of s.config (received_of s journal)) (settled_graph s.config (received_of s journal) (received_rising s journal)) _ m a b level quorum j h t.summit;
}
