-- What is kept of walks is true of the graph, and stays so while it grows.
use Rattle.std.proofs.Common.{◌≡◌, ℕ, ◌<◌, inl, inr, true, List, length, set, Option, Some, None, refl, sym, ap, subst, ◌∙◌, arith, get_or, get_or-set_other, get_or-set_same}
use Rattle.std.proofs.lemmas.Bool.{cases_eq}
use Rattle.hw_types.specs.Graph.{Node, lane_of}
use Rattle.hw_types.specs.Below.{Among}
use Rattle.hw_types.specs.Votes.{is_block}
use Rattle.hw_types.proofs.StableLaws.{both_ways}
use Rattle.hw_dag.specs.declared.numbers.UnitNo.{UnitNo}
use Rattle.hw_dag.specs.Dag.{SettledUnit, UnitGraph, unit_at, count_of, node_at, graph, seq_of, GrowsTo}
use Rattle.hw_dag.specs.Admission.{IsGraph}
use Rattle.hw_dag.specs.Lanes.{IsAncestor, itself, further, is_lane_below}
use Rattle.hw_dag.proofs.NodeLaws.{among_node, same_node}
use Rattle.hw_dag.proofs.DepthLaws.{parent_earlier}
use Rattle.hw_dag.proofs.LaneLaws.{lane_in, on_lane_among}
use Rattle.hw_dag.proofs.GrowthLaws.{count_grows, unit_stays, node_stays, lane_stays, is_lane_below_stays}
use Rattle.hw_forks.specs.Walk.{is_over}
use Rattle.hw_forks.proofs.AncestorLaws.{over_anc, anc_over}
use Rattle.hw_horizon.specs.declared.kept.Walk.{Walk}
use Rattle.hw_horizon.specs.declared.fences.Fence.{Fence}
use Rattle.hw_horizon.specs.Starts.{IsStart, IsWalked, votes_over}
use Rattle.hw_horizon.specs.Kept.{AskedWalks, walk_of, walk_from, IsWalk, AreWalks, IsFence}
use Rattle.hw_horizon.specs.Laws.{WalksStay}
use Rattle.hw_horizon.proofs.VoteLaws.{vote_known}

-- a walk that ended is true
from_start : (dag : UnitGraph) (block : ℕ) (tip : UnitNo) (o : Option ℕ) → tip.0 < count_of dag → IsStart dag tip.0 0 (votes_over dag block) o → (walk : Walk) → walk_from tip o ≡ Some walk → IsWalk dag block walk
from_start dag block tip None lt s walk e = absurd cc
from_start dag block tip (Some start) lt s walk e =
    let same : record { tip = tip; start = start } ≡ walk = cc in
    subst (λ (w : Walk). IsWalk dag block w) same (record { known = lt; start_is = s })

-- a walk more
pub walks_more : (dag : UnitGraph) (block : ℕ) (old new : AskedWalks) (v : ℕ) (tip : UnitNo) (o : Option ℕ) → v < length old.walks → AreWalks dag block old → new.walks ≡ set old.walks v (walk_from tip o)
    → tip.0 < count_of dag → IsStart dag tip.0 0 (votes_over dag block) o → AreWalks dag block new
walks_more dag block old new v tip o lt are put known s w walk e = elim (cases_eq w v) [
  | inl same ↦ from_start dag block tip o known s walk
      (sym (ap (λ (ws : List (Option Walk)). get_or ws v None) put ∙ rw get_or-set_same refl) ∙ ap (λ (i : ℕ). walk_of new i) (sym same) ∙ e)
  | inr other ↦ are w walk (sym (ap (λ (ws : List (Option Walk)). get_or ws w None) put ∙ rw get_or-set_other refl) ∙ e)
]

module _ (dag later : UnitGraph) (g : IsGraph dag) (h : IsGraph later) (grows : GrowsTo dag later) where
  anc_stays : (c b : ℕ) → b < count_of dag → IsAncestor dag c b → IsAncestor later c b
  anc_stays c _ lt itself = itself
  anc_stays c _ lt (further high parent e k) =
      let less = parent_earlier dag g high parent lt e in
      further high parent (ap (λ (u : SettledUnit). u.parent) (unit_stays dag later grows high lt) ∙ e) (anc_stays c parent.0 (omega arith) k)

  anc_was : (c b : ℕ) → b < count_of dag → IsAncestor later c b → IsAncestor dag c b
  anc_was c _ lt itself = itself
  anc_was c _ lt (further high parent e k) =
      let before : (unit_at dag high).parent ≡ Some parent = sym (ap (λ (u : SettledUnit). u.parent) (unit_stays dag later grows high lt)) ∙ e in
      let less = parent_earlier dag g high parent lt before in
      further high parent before (anc_was c parent.0 (omega arith) k)

  over_stays : (c b : ℕ) → b < count_of dag → is_over later c b ≡ is_over dag c b
  over_stays c b lt =
      let more = count_grows dag later grows in
      both_ways (is_over later c b) (is_over dag c b)
      (λ t. anc_over dag g c b lt (anc_was c b lt (over_anc later h (count_of later) c b t)))
      (λ t. anc_over later h c b (omega arith) (anc_stays c b lt (over_anc dag g (count_of dag) c b t)))

  pub votes_stay : (block n : ℕ) → n < count_of dag → votes_over later block n ≡ votes_over dag block n
  votes_stay block n lt =
      ap (λ (u : SettledUnit). is_over later block u.vote.0) (unit_stays dag later grows n lt) ∙ over_stays block (unit_at dag n).vote.0 (vote_known dag g n lt)

  seq_stays : (n : ℕ) → n < count_of dag → seq_of (unit_at later n) ≡ seq_of (unit_at dag n)
  seq_stays n lt = ap (λ (u : SettledUnit). seq_of u) (unit_stays dag later grows n lt)

  -- what is on the lane of a unit was there when it came in
  pub lane_was : (tip n : ℕ) → tip < count_of dag → n < count_of later → is_lane_below later n tip ≡ true → n < count_of dag
  lane_was tip n lt ln t =
      let on : Among (node_at later n) (lane_of (graph later) (node_at later tip)) = on_lane_among later h n tip ln t in
      let there : Among (node_at later n) (lane_of (graph dag) (node_at dag tip)) =
      subst (λ (ns : List Node). Among (node_at later n) ns) (ap (λ (z : Node). lane_of (graph later) z) (node_stays dag later grows tip lt) ∙ lane_stays dag later grows g h.distinct tip lt) on in
      let m = among_node dag (node_at later n) (lane_in dag g tip (node_at later n) there) in
      let more = count_grows dag later grows in
      let same : m.0 ≡ n = same_node later h m.0 n (omega (arith, m.1)) ln (node_stays dag later grows m.0 m.1 ∙ m.2) in
      omega (arith, m.1)

  walk_stays : (block : ℕ) (walk : Walk) → IsWalk dag block walk → IsWalk later block walk
  walk_stays block walk k =
      let more = count_grows dag later grows in
      let known = k.known in
      let s = k.start_is in
      let last = seq_stays walk.tip.0 known in
      let low = s.reached in
      record {
        known = omega arith;
        start_is = record {
          above = omega arith;
          reached = omega arith;
          each = λ n ln t le.
              let was = lane_was walk.tip.0 n known ln t in
              let same = seq_stays n was in
              votes_stay block n was ∙ s.each n was (sym (is_lane_below_stays dag later grows g h.distinct n walk.tip.0 was known) ∙ t) (omega arith);
          least = elim s.least [
            | inl e ↦ inl e
            | inr n ↦
                let same = seq_stays n.0 n.1 in
                let e = n.4 in
                inr (n.0, omega (arith, n.1), is_lane_below_stays dag later grows g h.distinct n.0 walk.tip.0 n.1 known ∙ n.2, votes_stay block n.0 n.1 ∙ n.3, omega arith)
          ];
        };
      }

  walked_stays : (tip block first : ℕ) → tip < count_of dag → IsWalked dag tip (votes_over dag block) first → IsWalked later tip (votes_over later block) first
  walked_stays tip block first lt w =
      let more = count_grows dag later grows in
      let known = w.known in
      let up = w.up_to in
      let low = seq_stays first known in
      let last = seq_stays tip lt in
      record {
        known = omega arith;
        on_lane = is_lane_below_stays dag later grows g h.distinct first tip known lt ∙ w.on_lane;
        up_to = omega arith;
        each = λ n ln t le.
            let was = lane_was tip n lt ln t in
            let same = seq_stays n was in
            votes_stay block n was ∙ w.each n was (sym (is_lane_below_stays dag later grows g h.distinct n tip was lt) ∙ t) (omega arith);
      }

  fence_stays : (fence : Fence) → IsFence dag fence → IsFence later fence
  fence_stays fence k =
      let more = count_grows dag later grows in
      let known = k.known in
      let block = k.block_known in
      record {
        known = omega arith;
        block_known = omega arith;
        block = ap (λ (z : Node). is_block z) (node_stays dag later grows fence.block.0 block) ∙ k.block;
        walked = walked_stays fence.tip.0 fence.block.0 fence.first.0 known k.walked;
      }

pub walks_stay : WalksStay
walks_stay dag later g h grows kept are = record {
  walks = λ block e v walk w. walk_stays dag later g h grows block.0 walk (are.walks block e v walk w);
  fences = λ k fence e. fence_stays dag later g h grows fence (are.fences k fence e);
}
