-- By accountable safety the blocks that stand at a moment are the fork choice and its ancestors, one for each height.
use Rattle.std.specs.Prelude.{take, sum}
use Rattle.std.proofs.Common.{◌≡◌, ℕ, zero, suc, ◌⊎◌, ◌≤◌, inl, inr, Bool, true, false, List, length, Some, refl, sym, ap, subst, arith}
use Rattle.hw_types.specs.declared.unit.Vertex.{Vertex}
use Rattle.hw_types.specs.declared.unit.Obs.{Obs}
use Rattle.hw_types.specs.Graph.{Node, node_eq, is_some_and, past, digest_eq, bytes_cmp}
use Rattle.hw_types.specs.Below.{Among}
use Rattle.hw_types.specs.Votes.{ForkAt, unit_fork, is_ancestor_within, height_of, fork_of, fork_over, choice_of, choices_after, weight_of}
use Rattle.hw_types.specs.Settled.{Received, settled_of, panorama_of, faulty_weight, is_faulty, panorama_over}
use Rattle.hw_types.specs.Journal.{Setting}
use Rattle.hw_types.specs.Decisions.{received_at}
use Rattle.hw_safety.specs.Decided.{OneBlockEach}
use Rattle.hw_types.specs.Lawful.{keeps}
use Rattle.hw_types.proofs.PastLaws.{or_cases, reach_within}
use Rattle.hw_types.proofs.SettledLaws.{digest_self}
use Rattle.hw_types.proofs.ChoiceLaws.{IsGraph, ghost_walk_in}
use Rattle.hw_types.proofs.WalkLaws.{settled_graph}
use Rattle.hw_types.proofs.JournalLaws.{received_rising}
use Rattle.hw_safety.proofs.AncestorLaws.{inside}
use Rattle.hw_types.proofs.HeightLaws.{chosen_below, parent_height}
use Rattle.hw_types.proofs.WordsLaws.{passes_some}
use Rattle.hw_safety.specs.SummitLaws.{SummitsAreKept, StandingIsKept}
use Rattle.hw_safety.proofs.SafetyLaws.{graph_safety}
use Rattle.hw_safety.proofs.AccountLaws.{quorum_above, above_threshold, lawful_journal}

-- ---- heights along a chain

module _ (weights : List ℕ) (units : List Node) (graph : IsGraph units) where
  abbrev fork_at : ForkAt
  fork_at = unit_fork weights units

  abbrev rank : Node → ℕ
  rank y = length (past units y.unit.panorama)

  abbrev height : Node → ℕ
  height y = height_of weights units y

  ancestor_lower : (n : ℕ) (c y : Node) → Among c units → Among y units → is_ancestor_within n fork_at c y ≡ true → height c ≤ height y
  unfolding is_ancestor_within
  ancestor_lower zero c y j k h = let same = graph.one_name c y y.digest j k h (digest_self y.digest) in subst (λ (z : Node). height c ≤ height z) same (omega arith)
  ancestor_lower (suc n) c y j k h = elim (or_cases (node_eq c y) (is_some_and (is_ancestor_within n fork_at c) (fork_at y)) h) [
    | inl here ↦ (let same = graph.one_name c y y.digest j k here (digest_self y.digest) in subst (λ (z : Node). height c ≤ height z) same (omega arith))
    | inr up ↦ (let p = passes_some (is_ancestor_within n fork_at c) (fork_at y) up in
        let i = inside weights units graph y p.0 (chosen_below weights units y.unit.panorama p.0 p.1) in
        let rest = ancestor_lower n c p.0 j i p.2 in let step = parent_height weights units graph y p.0 p.1 in omega arith)
  ]

  -- two ancestors of one block at one height are one
  pub one_ancestor : (n : ℕ) (b c y : Node) → Among b units → Among c units → Among y units → is_ancestor_within n fork_at b y ≡ true → is_ancestor_within n fork_at c y ≡ true → height b ≡ height c → b ≡ c
  unfolding is_ancestor_within
  one_ancestor zero b c y i j k h t e = graph.one_name b c y.digest i j h t
  one_ancestor (suc n) b c y i j k h t e = go (or_cases (node_eq b y) (is_some_and (is_ancestor_within n fork_at b) (fork_at y)) h) (or_cases (node_eq c y) (is_some_and (is_ancestor_within n fork_at c) (fork_at y)) t)
      (λ p m s u. one_ancestor n b c p i j m s u e)
    where
      above : (z w : Node) → Among z units → Among w units → node_eq z y ≡ true → is_some_and (is_ancestor_within n fork_at w) (fork_at y) ≡ true → height z ≡ height w → ⊥
      above z w mz mw here up same =
          let p = passes_some (is_ancestor_within n fork_at w) (fork_at y) up in
          let m = inside weights units graph y p.0 (chosen_below weights units y.unit.panorama p.0 p.1) in
          let low = ancestor_lower n w p.0 mw m p.2 in
          let step = parent_height weights units graph y p.0 p.1 in
          let is : height z ≡ height y = ap height (graph.one_name z y y.digest mz k here (digest_self y.digest)) in
          omega arith

      go : ((node_eq b y ≡ true) ⊎ (is_some_and (is_ancestor_within n fork_at b) (fork_at y) ≡ true)) → ((node_eq c y ≡ true) ⊎ (is_some_and (is_ancestor_within n fork_at c) (fork_at y) ≡ true))
          → ((p : Node) → Among p units → is_ancestor_within n fork_at b p ≡ true → is_ancestor_within n fork_at c p ≡ true → b ≡ c) → b ≡ c
      go (inl a) (inl d) later = graph.one_name b c y.digest i j a d
      go (inl a) (inr d) later = absurd (above b c i j a d e)
      go (inr a) (inl d) later = absurd (above c b j i d a (sym e))
      go (inr a) (inr d) later =
          let p = passes_some (is_ancestor_within n fork_at b) (fork_at y) a in
          let m = inside weights units graph y p.0 (chosen_below weights units y.unit.panorama p.0 p.1) in
          later p.0 m p.2 (subst (λ o. is_some_and (is_ancestor_within n fork_at c) o ≡ true) p.1 d)

  fork_in : (panorama : List Obs) (y : Node) → fork_of weights units panorama ≡ Some y → Among y units
  unfolding fork_over
  fork_in panorama y e = reach_within Rattle.hw_types.specs.Graph.unit_cites (Rattle.hw_types.specs.Graph.cites panorama) units y
      (ghost_walk_in weights (past units panorama) (choice_of (choices_after (length (past units panorama)) weights (past units panorama))) panorama y e)

-- ---- what stands is on the way to the fork choice

-- In a lawful graph with few faulty a block that has a summit is the fork choice or an ancestor of it.
pub summits_are_kept : SummitsAreKept
summits_are_kept config faulty units lawful few block level quorum low is_quorum summit = go (keeps config.weights units (panorama_over config faulty units) block) refl
  where
    go : (b : Bool) → keeps config.weights units (panorama_over config faulty units) block ≡ b → b ≡ true
    go true e = refl
    go false e =
        let safe = graph_safety config faulty faulty units units block level quorum lawful lawful (λ x m. m) (λ v h. h) low (quorum_above (sum config.weights) config.ftt level quorum is_quorum) summit e in
        let over = above_threshold (sum config.weights) config.ftt level quorum (weight_of config.weights faulty) is_quorum safe in
        absurd (omega arith)

-- So it is at each moment of a journal with few faulty.
pub stood_is_kept : StandingIsKept
unfolding panorama_of faulty_weight
stood_is_kept s journal block level quorum at t =
    let k : Received = received_at s journal at in
    summits_are_kept s.config (is_faulty k (settled_of s.config k)) (settled_of s.config k) (lawful_journal s (take at journal)) t.few_faulty block level quorum t.stands.low t.stands.is_quorum t.stands.summit

-- So of the blocks that stand at a moment there is one for each height.
pub one_block_each : (s : Setting) (journal : List Vertex) → OneBlockEach s journal
one_block_each s journal at level other quorum other_quorum b c m n x y e =
    let k : Received = received_at s journal at in
    let graph = settled_graph s.config k (received_rising s _) in
    let left = passes_some (is_ancestor_within (length (settled_of s.config k)) (unit_fork s.config.weights (settled_of s.config k)) b) (fork_of s.config.weights (settled_of s.config k) (panorama_of s.config k)) (stood_is_kept s journal b level quorum at x) in
    let right = subst (λ o. is_some_and (is_ancestor_within (length (settled_of s.config k)) (unit_fork s.config.weights (settled_of s.config k)) c) o ≡ true) left.1 (stood_is_kept s journal c other other_quorum at y) in
    ap (λ (z : Node). z.digest) (one_ancestor s.config.weights (settled_of s.config k) graph (length (settled_of s.config k)) b c left.0 m n (fork_in s.config.weights (settled_of s.config k) graph (panorama_of s.config k) left.0 left.1) left.2 right e)
