-- The bisection for the start of a lane.
use Rattle.std.proofs.Common.{◌≡◌, ℕ, ◌+◌, ◌≤◌, ◌<◌, ◌⊎◌, inl, inr, Bool, true, false, Some, arith}
use Rattle.hw_dag.specs.Dag.{UnitGraph, unit_at, count_of, seq_of}
use Rattle.hw_dag.specs.Admission.{IsGraph}
use Rattle.hw_dag.specs.Lanes.{is_lane_below, IsLaneAt}
use Rattle.hw_horizon.specs.Starts.{IsStart, IsSuffix}
use Rattle.hw_horizon.proofs.LaneLaws.{lane_self}

-- the start is between these two
pub record IsNarrowed (dag : UnitGraph) (tip floor : ℕ) (passes : ℕ → Bool) (low high : ℕ) : Type 0 where
  pub above : floor ≤ low
  pub ordered : low ≤ high
  pub reached : high ≤ seq_of (unit_at dag tip)
  pub each : (n : ℕ) → n < count_of dag → is_lane_below dag n tip ≡ true → high ≤ seq_of (unit_at dag n) → passes n ≡ true
  pub least : (low ≡ floor) ⊎ ((n : ℕ) × (n < count_of dag) × (is_lane_below dag n tip ≡ true) × (passes n ≡ false) × (seq_of (unit_at dag n) + 1 ≡ low))

-- the start is between these two, if there is one, and there is one where an earlier unit than the last passes
pub record IsSearched (dag : UnitGraph) (tip floor : ℕ) (passes : ℕ → Bool) (low high : ℕ) : Type 0 where
  pub above : floor ≤ low
  pub ordered : low ≤ high
  pub reached : high ≤ seq_of (unit_at dag tip)
  pub tip_passes : high < seq_of (unit_at dag tip) → passes tip ≡ true
  pub narrowed : passes tip ≡ true → IsNarrowed dag tip floor passes low high

module _ (dag : UnitGraph) (g : IsGraph dag) (tip floor : ℕ) (lt : tip < count_of dag) (passes : ℕ → Bool) (suffix : IsSuffix dag tip passes) where
  pub narrowed_first : (low high : ℕ) → low ≡ floor → high ≡ seq_of (unit_at dag tip) → floor ≤ high → passes tip ≡ true → IsNarrowed dag tip floor passes low high
  narrowed_first low high e last le p = record {
    above = omega arith;
    ordered = omega arith;
    reached = omega arith;
    each = λ n ln t from. suffix tip n lt ln (lane_self dag g tip lt) t (omega arith) p;
    least = inl e;
  }

  pub narrowed_down : (low high middle found : ℕ) → IsNarrowed dag tip floor passes low high → low ≤ middle → middle < high → IsLaneAt dag tip middle found → passes found ≡ true → IsNarrowed dag tip floor passes low middle
  narrowed_down low high middle found w le less f p =
      let r = w.reached in
      let a = w.above in
      let e = f.seq_is in
      record {
        above = a;
        ordered = le;
        reached = omega arith;
        each = λ n ln t from. suffix found n f.known ln f.on_lane t (omega arith) p;
        least = w.least;
      }

  pub narrowed_up : (low high middle found next : ℕ) → IsNarrowed dag tip floor passes low high → low ≤ middle → middle < high → IsLaneAt dag tip middle found → passes found ≡ false → next ≡ middle + 1 → IsNarrowed dag tip floor passes next high
  narrowed_up low high middle found next w le less f p one =
      let a = w.above in
      let e = f.seq_is in
      record {
        above = omega arith;
        ordered = omega arith;
        reached = w.reached;
        each = w.each;
        least = inr (found, f.known, f.on_lane, p, omega arith);
      }

  pub searched_first : (low high : ℕ) → low ≡ floor → high ≡ seq_of (unit_at dag tip) → floor ≤ high → IsSearched dag tip floor passes low high
  searched_first low high e last le = record {
    above = omega arith;
    ordered = omega arith;
    reached = omega arith;
    tip_passes = λ less. absurd (omega arith);
    narrowed = λ p. narrowed_first low high e last le p;
  }

  pub searched_down : (low high middle found : ℕ) → IsSearched dag tip floor passes low high → low ≤ middle → middle < high → IsLaneAt dag tip middle found → passes found ≡ true → IsSearched dag tip floor passes low middle
  searched_down low high middle found s le less f p =
      let r = s.reached in
      let e = f.seq_is in
      record {
        above = s.above;
        ordered = le;
        reached = omega arith;
        tip_passes = λ before. suffix found tip f.known lt f.on_lane (lane_self dag g tip lt) (omega arith) p;
        narrowed = λ q. narrowed_down low high middle found (s.narrowed q) le less f p;
      }

  pub searched_up : (low high middle found next : ℕ) → IsSearched dag tip floor passes low high → low ≤ middle → middle < high → IsLaneAt dag tip middle found → passes found ≡ false → next ≡ middle + 1 → IsSearched dag tip floor passes next high
  searched_up low high middle found next s le less f p one =
      let a = s.above in record {
        above = omega arith;
        ordered = omega arith;
        reached = s.reached;
        tip_passes = s.tip_passes;
        narrowed = λ q. narrowed_up low high middle found next (s.narrowed q) le less f p one;
      }

  pub narrowed_start : (low high : ℕ) → IsNarrowed dag tip floor passes low high → high ≤ low → IsStart dag tip floor passes (Some low)
  narrowed_start low high w le =
      let o = w.ordered in
      let r = w.reached in
      record {
        above = w.above;
        reached = omega arith;
        each = λ n ln t from. w.each n ln t (omega arith);
        least = w.least;
      }

  -- the search ends
  pub searched_before : (low high : ℕ) → IsSearched dag tip floor passes low high → high ≤ low → high < seq_of (unit_at dag tip) → IsStart dag tip floor passes (Some low)
  searched_before low high s le less = narrowed_start low high (s.narrowed (s.tip_passes less)) le

  pub searched_last : (low high : ℕ) → IsSearched dag tip floor passes low high → high ≤ low → passes tip ≡ true → IsStart dag tip floor passes (Some low)
  searched_last low high s le p = narrowed_start low high (s.narrowed p) le
