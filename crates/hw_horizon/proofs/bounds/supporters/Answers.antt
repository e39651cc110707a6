use Rattle.std.proofs.Common.{◌≡◌, ◌≤◌, ◌<◌, ℕ, ◌+◌, Bool, true, false, List, get_or, length, nat_le, ap, subst, arith}
use Rattle.std.proofs.lemmas.Bool.{le-leb, lt-leb}
use Rattle.hw_horizon.specs.Bounds.{support_of}
use Rattle.hw_horizon.proofs.WeightLaws.{one_more, so_far_most}
use Rattle.hw_horizon.proofs.bounds.supporters.Goals as goal
use Rattle.hw_horizon.proofs.bounds.supporters.Goals.{then-quorum-support, else-quorum-support}

pub overflow_add-total : goal.overflow_add-total
overflow_add-total c =
    let test : ℕ → Bool = λ v. nat_le c.args.quorum (support_of c.args.bound.now v) in
    let passes : test c.loop-slot.slot ≡ true = le-leb c.args.quorum (support_of c.args.bound.now c.loop-slot.slot) (subst (λ (ns : List ℕ). c.args.quorum ≤ get_or ns c.loop-slot.slot 0) c.supports-support-items.ensures c.if-quorum-support.true) in
    let more = one_more c.args.weights.now test c.loop-slot.slot true passes in
    let many = c.requires.weights.length_is in
    let wide = c.requires.wide in
    let supports = ap length c.supports-support-items.ensures in
    let within = c.loop-slot-test.true in
    let most = so_far_most c.args.weights.now test (c.loop-slot.slot + 1) (omega arith) in
    let bound = c.requires.weights.bounded in
    omega arith

pub loop-slot-preserved : goal.loop-slot-preserved
loop-slot-preserved c =
    let test : ℕ → Bool = λ v. nat_le c.args.quorum (support_of c.args.bound.now v) in
    elim c.if-quorum-support.branch [
      | then-quorum-support w ↦
          (let h : test c.loop-slot.slot ≡ true = le-leb c.args.quorum (support_of c.args.bound.now c.loop-slot.slot) (subst (λ (ns : List ℕ). c.args.quorum ≤ get_or ns c.loop-slot.slot 0) c.supports-support-items.ensures w.if-quorum-support.true) in
          let more = one_more c.args.weights.now test c.loop-slot.slot true h in
          omega arith)
      | else-quorum-support w ↦
          (let h : test c.loop-slot.slot ≡ false = lt-leb c.args.quorum (support_of c.args.bound.now c.loop-slot.slot) (subst (λ (ns : List ℕ). get_or ns c.loop-slot.slot 0 < c.args.quorum) c.supports-support-items.ensures w.if-quorum-support.false) in
          let more = one_more c.args.weights.now test c.loop-slot.slot false h in
          omega arith)
    ]
