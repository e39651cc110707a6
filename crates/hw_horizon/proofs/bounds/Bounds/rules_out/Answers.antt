use Rattle.std.proofs.Common.{◌≡◌, ◌≤◌, ℕ, inl, inr, List, [], nat_le, length, sym, ap, subst, arith}
use Rattle.std.proofs.lemmas.Bool.{cases_lt}
use Rattle.std.proofs.lemmas.List.{get_or_read}
use Rattle.hw_types.specs.Votes.{weight_of}
use Rattle.hw_horizon.specs.Bounds.{LevelBound, AskedBounds, bound_of, support_of, IsRuledOut}
use Rattle.hw_horizon.proofs.bounds.Bounds.rules_out.Goals as goal
use Rattle.hw_horizon.proofs.bounds.Bounds.rules_out.Goals.{else-below-level-via-then-below-level+else-supporters-quorum, else-below-level-via-else-below-level}

pub loop-below-preserved : goal.loop-below-preserved
loop-below-preserved c = λ j lt lv. elim (cases_lt j c.loop-below.below) [
  | inl less ↦ c.loop-below.invariant j less lv
  | inr le ↦
      let same : c.loop-below.below ≡ j = omega arith in
      elim c.else-below-level.branch [
        | else-below-level-via-then-below-level+else-supporters-quorum w ↦
            (let read : c.bound-item.result ≡ bound_of c.deref-bound-items.result.now c.loop-below.below =
            get_or_read c.deref-bound-items.result.now c.loop-below.below c.bound-item.result c.loop-below-test.true c.bound-item.is (record { firsts = []; support = [] }) in
            let heavy : c.args.quorum ≤ weight_of w.as_slice.result.now (λ v. nat_le c.args.quorum (support_of c.bound-item.result v)) = subst (λ n. c.args.quorum ≤ n) w.supporters.ensures w.if-supporters-quorum.false in
            let over : c.args.quorum ≤ weight_of c.args.weights.now (λ v. nat_le c.args.quorum (support_of c.bound-item.result v)) =
            subst (λ (ws : List ℕ). c.args.quorum ≤ weight_of ws (λ v. nat_le c.args.quorum (support_of c.bound-item.result v))) w.as_slice.ensures heavy in
            let here : c.args.quorum ≤ weight_of c.args.weights.now (λ v. nat_le c.args.quorum (support_of (bound_of c.deref-bound-items.result.now c.loop-below.below) v)) =
            subst (λ (b : LevelBound). c.args.quorum ≤ weight_of c.args.weights.now (λ v. nat_le c.args.quorum (support_of b v))) read over in
            subst (λ (k : ℕ). c.args.quorum ≤ weight_of c.args.weights.now (λ v. nat_le c.args.quorum (support_of (bound_of c.deref-bound-items.result.now k) v))) same here)
        | else-below-level-via-else-below-level w ↦ (let far = w.if-below-level.false in absurd (omega arith))
      ]
]

pub returns : goal.returns
returns c = (
  λ h. absurd cc,
  λ out.
      let there = subst (λ (k : AskedBounds). IsRuledOut c.args.weights.now k c.args.level c.args.quorum) (sym c.self.view_is) out in
      let items = c.deref-bound-items.ensures.value in
      let many = ap length items in
      let end = c.loop-below-test.false in
      let known = there.known in
      let light = there.light in
      let heavy : c.args.quorum ≤ weight_of c.args.weights.now (λ v. nat_le c.args.quorum (support_of (bound_of c.self.inside.levels.items there.at) v)) =
      subst (λ (ls : List LevelBound). c.args.quorum ≤ weight_of c.args.weights.now (λ v. nat_le c.args.quorum (support_of (bound_of ls there.at) v))) items
      (c.loop-below.invariant there.at (omega arith) there.below) in
      absurd (omega arith),
)
