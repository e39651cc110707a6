-- Standing is decided by pruning at the level's own quorum, and depends on the block's name alone.
use Rattle.std.proofs.Common.{◌≡◌, ℕ, zero, suc, ◌≤◌, inl, inr, true, List, length, Some, sym, ap, subst, ◌∙◌, arith}
use Rattle.std.specs.Prelude.{◌||◌, ◌==◌, nat_le, ◌↔◌, sum}
use Rattle.std.specs.List.{range_with_len}
use Rattle.std.proofs.lemmas.Bool.{leb-true, le-leb, eqb-true, eq-eqb}
use Rattle.hw_types.specs.declared.unit.Obs.{Obs}
use Rattle.hw_types.specs.declared.unit.Obs.TheVariants.{Absent, Correct, Faulty}
use Rattle.hw_types.specs.declared.config.Config.{Config}
use Rattle.hw_types.specs.Graph.{Node, digest_eq, node_eq, is_some_and, observed, slot, latest, follows}
use Rattle.hw_types.specs.Below.{Among}
use Rattle.hw_types.specs.Votes.{ForkAt, vote_of, is_ancestor_within, votes_for, unit_fork}
use Rattle.hw_types.specs.Quorum.{IsQuorum}
use Rattle.hw_types.specs.Settled.{Received, settled_of, panorama_of}
use Rattle.hw_types.specs.Summit.{Committees, IsSummit, HasSummit, Stands}
use Rattle.hw_safety.specs.Pruned.{begun, choose, settle, members, quorum_start, pruned}
use Rattle.hw_safety.specs.Decided.{quorum_of, quorum_at, stands}
use Rattle.hw_types.proofs.PastLaws.{or_cases, reach_first}
use Rattle.hw_types.proofs.StableLaws.{and_parts, and_whole, found_one}
use Rattle.hw_types.proofs.SettledLaws.{digest_self}
use Rattle.hw_types.proofs.ChoiceLaws.{IsGraph}
use Rattle.hw_types.proofs.QuorumLaws.{quotient_is_quorum}
use Rattle.hw_safety.proofs.AncestorLaws.{inside, vote_in}
use Rattle.hw_safety.proofs.PrunedLaws.{member_zero, summit_is_left}
use Rattle.hw_types.proofs.HeightLaws.{chosen_below}
use Rattle.hw_types.proofs.WordsLaws.{passes_some}

-- ---- one quorum for a level

pub quorum_is_one : (total ftt level quorum : ℕ) → 1 ≤ level → IsQuorum total ftt level quorum → quorum ≡ quorum_of total ftt level
quorum_is_one total ftt level quorum low q =
    let r = quotient_is_quorum total ftt level low in
    let up = q.least (quorum_of total ftt level) r.enough in
    let down = r.least quorum q.enough in
    omega arith

-- A block stands exactly where the test says so.
pub stands_is_test : (config : Config) (received : Received) (block : Node) (level quorum : ℕ) → Stands config received block level quorum ↔ (stands config received block level quorum ≡ true)
stands_is_test config received block level quorum = (
  λ h. and_whole (nat_le 1 level) _ (le-leb 1 level h.low)
      (and_whole (nat_le level config.levels) _ (le-leb level config.levels h.high)
      (and_whole (quorum == quorum_at config level) _ (eq-eqb quorum (quorum_at config level) (quorum_is_one (sum config.weights) config.ftt level quorum h.low h.is_quorum))
      ((summit_is_left config.weights (settled_of config received) (panorama_of config received) block quorum level).0 h.summit))),
  λ h.
      let a = and_parts (nat_le 1 level) _ h in
      let b = and_parts (nat_le level config.levels) _ a.1 in
      let c = and_parts (quorum == quorum_at config level) _ b.1 in
      let low : 1 ≤ level = leb-true 1 level a.0 in
      let same : quorum ≡ quorum_at config level = eqb-true quorum (quorum_at config level) c.0 in
      record {
        low = low;
        high = leb-true level config.levels b.0;
        is_quorum = subst (λ q. IsQuorum (sum config.weights) config.ftt level q) (sym same) (quotient_is_quorum (sum config.weights) config.ftt level low);
        summit = (summit_is_left config.weights (settled_of config received) (panorama_of config received) block quorum level).1 c.1;
      },
)

-- ---- the block's name alone counts

ancestor_by_name : (n : ℕ) (fork_at : ForkAt) (a b y : Node) → a.digest ≡ b.digest → is_ancestor_within n fork_at a y ≡ is_ancestor_within n fork_at b y
unfolding is_ancestor_within
ancestor_by_name zero fork_at a b y e = ap (λ d. digest_eq d y.digest) e
ancestor_by_name (suc n) fork_at a b y e =
    ap (λ d. digest_eq d y.digest || is_some_and (is_ancestor_within n fork_at a) (fork_at y)) e
    ∙ ap (λ t. node_eq b y || is_some_and t (fork_at y)) (λ i z. ancestor_by_name n fork_at a b z e i)

votes_by_name : (n : ℕ) (fork_at : ForkAt) (a b : Node) → a.digest ≡ b.digest → votes_for n fork_at a ≡ votes_for n fork_at b
unfolding votes_for
votes_by_name n fork_at a b e = λ i x. is_some_and (λ z. ancestor_by_name n fork_at a b z e i) (vote_of fork_at x)

pub pruned_by_name : (weights : List ℕ) (units : List Node) (panorama : List Obs) (a b : Node) (quorum level : ℕ) → a.digest ≡ b.digest → pruned weights units panorama a quorum level ≡ pruned weights units panorama b quorum level
unfolding pruned
pruned_by_name weights units panorama a b quorum zero e = ap (λ t. choose (λ v. begun units 0 t (latest units panorama v)) (range_with_len 0 (length weights))) (votes_by_name (length units) (unit_fork weights units) a b e)
pruned_by_name weights units panorama a b quorum (suc level) e = ap (λ lower. settle (quorum_start weights units panorama quorum lower) (members lower)) (pruned_by_name weights units panorama a b quorum level e)

-- ---- what stands is one of the units, by name

latest_in : (units : List Node) (o : Obs) (u : Node) → observed units o ≡ Some u → Among u units
latest_in units Absent u e = absurd cc
latest_in units Faulty u e = absurd cc
latest_in units (Correct d) u e = (found_one (λ x. digest_eq x.digest d) u units e).0

module _ (weights : List ℕ) (units : List Node) (graph : IsGraph units) where
  named_in : (n : ℕ) (a y : Node) → Among y units → is_ancestor_within n (unit_fork weights units) a y ≡ true → (b : Node) × Among b units × (node_eq a b ≡ true)
  unfolding is_ancestor_within
  named_in zero a y k h = (y, k, h)
  named_in (suc n) a y k h = elim (or_cases (node_eq a y) (is_some_and (is_ancestor_within n (unit_fork weights units) a) (unit_fork weights units y)) h) [
    | inl here ↦ (y, k, here)
    | inr up ↦ (let p = passes_some (is_ancestor_within n (unit_fork weights units) a) (unit_fork weights units y) up in
        named_in n a p.0 (inside weights units graph y p.0 (chosen_below weights units y.unit.panorama p.0 p.1)) p.2)
  ]

  voted_in : (block x : Node) → Among x units → votes_for (length units) (unit_fork weights units) block x ≡ true → (b : Node) × Among b units × (node_eq block b ≡ true)
  unfolding votes_for
  voted_in block x k h =
      let w = passes_some (is_ancestor_within (length units) (unit_fork weights units) block) (vote_of (unit_fork weights units) x) h in
      named_in (length units) block w.0 (vote_in weights units graph x w.0 k w.1) w.2

  pub summit_block : (panorama : List Obs) (block : Node) (level quorum : ℕ) → HasSummit weights units panorama block level quorum → (b : Node) × Among b units × (node_eq block b ≡ true)
  summit_block panorama block level quorum h =
      let c : Committees = h.0 in let s : IsSummit weights units panorama block level quorum c = h.1 in let v : ℕ = s.not_empty.0 in
      let has = member_zero weights units panorama block quorum level c s v level (omega arith) s.not_empty.1 in
      let k = s.correct_slot v has in
      let m : Among k.1 units = latest_in units (slot panorama v) k.1 k.2 in
      voted_in block k.1 m (s.votes v k.1 has k.2 k.1 (reach_first follows (λ z. node_eq z k.1) units k.1 m (digest_self k.1.digest)) (s.start_in_lane 0 v k.1 (omega arith) has k.2))
