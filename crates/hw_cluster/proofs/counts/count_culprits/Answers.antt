use Rattle.std.proofs.Common.{◌≡◌, ◌+◌, ℕ, List, length, take, cond, ap, sym, ◌∙◌, arith}
use Rattle.std.specs.Prelude.{filter}
use Rattle.std.specs.List.{range_with_len}
use Rattle.hw_cluster.specs.Counts.{equivocates_in}
use Rattle.hw_cluster.proofs.CountLaws.{count_more, count_all, culprits_are}
use Rattle.hw_cluster.proofs.ApartLaws.{count_none}
use Rattle.hw_cluster.proofs.counts.count_culprits.Goals.{then-equivocates_in, else-equivocates_in}
use Rattle.hw_cluster.proofs.counts.count_culprits.Goals as goal

pub loop-validator-init : goal.loop-validator-init
loop-validator-init c =
    let none = count_none (equivocates_in c.args.sent.now) (length c.args.config.now.weights) (length c.args.nodes.now) c.requires.nodes c.requires.apart in
    (sym none, omega arith)

pub loop-validator-preserved : goal.loop-validator-preserved
loop-validator-preserved c =
    let test = equivocates_in c.args.sent.now in
    let n = length c.args.config.now.weights in
    let i = c.loop-validator.validator in
    let so_far = length (filter test (take i (range_with_len 0 n))) in
    let more = count_more test n i (let lt = c.loop-validator-test.true in omega arith) in
    let is = c.equivocates_in.ensures in
    let le = c.loop-validator.invariant.1 in
    elim c.if-equivocates_in.branch [
      | then-equivocates_in w ↦ (w.count-is ∙ ap (λ k. k + 1) c.loop-validator.invariant.0 ∙ sym (more ∙ ap (λ b. so_far + cond b 1 0) (sym is ∙ w.if-equivocates_in.true)), (let e = w.count-is in omega arith))
      | else-equivocates_in w ↦ (w.count-is ∙ c.loop-validator.invariant.0 ∙ sym (more ∙ ap (λ b. so_far + cond b 1 0) (sym is ∙ w.if-equivocates_in.false) ∙ (let z : so_far + 0 ≡ so_far = omega arith in z)), (let e = w.count-is in omega arith))
    ]

pub returns : goal.returns
returns c =
    c.loop-validator.invariant.0
    ∙ count_all (equivocates_in c.args.sent.now) (length c.args.config.now.weights) c.loop-validator.validator (let le = c.loop-validator-test.false in omega arith)
    ∙ ap (λ (vs : List ℕ). length vs) (sym (culprits_are c.args.config.now c.args.sent.now))
