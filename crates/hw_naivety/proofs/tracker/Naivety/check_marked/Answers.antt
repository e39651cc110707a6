use Rattle.std.proofs.Common.{refl, ◌≡◌, ◌<◌, ◌⊎◌, ℕ, inl, inr, List, true, sym, ap, subst, ◌∙◌, arith}
use Rattle.std.proofs.lemmas.Bool.{cases_lt}
use Rattle.hw_types.specs.declared.unit.Digest.{Digest}
use Rattle.hw_dag.specs.Dag.{view_at}
use Rattle.hw_dag.specs.Lanes.{is_lane_below}
use Rattle.hw_naivety.specs.Tips.{IsNaive}
use Rattle.hw_naivety.specs.Forks.{IsNaiveFork}
use Rattle.hw_naivety.specs.Naivety.{NaiveTips, IsNoted}
use Rattle.hw_naivety.proofs.ForkLaws.{with_list, fork_unordered, forkless_ordered, ordered_forkless, least_fork, lane_ordered, beyond_ordered}
use Rattle.hw_naivety.proofs.NotedLaws.{has_tips}
use Rattle.hw_naivety.proofs.ConsistentLaws.{marked_or_not, unmarked_ordered}
use Rattle.hw_naivety.proofs.TipLaws.{found_order}
use Rattle.hw_naivety.proofs.tracker.Naivety.check_marked.Goals as goal

pub tip_over-requires-clause-tips : goal.tip_over-requires-clause-tips
tip_over-requires-clause-tips c =
    let noted = subst (λ (t : NaiveTips). IsNoted t c.args.dag.now) (sym c.self.view_is) c.requires.noted in
    let all = ap (λ (t : NaiveTips). t.count) c.self.view_is ∙ c.requires.all in
    has_tips c.args.dag.now c.args.panorama.now c.self.inside.count c.self.inside.tips noted.tips_are c.self.invariant.1.count_within
    (λ slot cited e. subst (λ (k : ℕ). cited.0 < k) (sym all) (c.requires.panorama.known slot cited e))

pub shared-shared-requires-clause-tips : goal.shared-shared-requires-clause-tips
shared-shared-requires-clause-tips c =
    let noted = subst (λ (t : NaiveTips). IsNoted t c.args.dag.now) (sym c.self.view_is) c.requires.noted in
    let all = ap (λ (t : NaiveTips). t.count) c.self.view_is ∙ c.requires.all in
    has_tips c.args.dag.now c.args.panorama.now c.self.inside.count c.self.inside.tips noted.tips_are c.self.invariant.1.count_within
    (λ slot cited e. subst (λ (k : ℕ). cited.0 < k) (sym all) (c.requires.panorama.known slot cited e))

pub returns-in-Err-clause-none : goal.returns-in-Err-clause-none
returns-in-Err-clause-none c = λ u h.
    let fork = subst (λ (ds : List Digest). IsNaiveFork c.args.dag.now c.args.panorama.now ds c.loop-creator.creator c.in-Err.fork) h.endorsed_is c.in-Err.ensures.fork in (
      (λ t. absurd cc),
      (λ n. absurd (fork_unordered c.args.dag.now c.recall_graph.ensures c.args.panorama.now c.requires.panorama u h.observes c.loop-creator.creator c.in-Err.fork fork
          (forkless_ordered c.args.dag.now c.recall_graph.ensures c.args.panorama.now c.requires.panorama u h.observes n c.loop-creator.creator))),
    )

pub returns-in-Err-clause-least : goal.returns-in-Err-clause-least
returns-in-Err-clause-least c = λ u h.
    let fork = subst (λ (ds : List Digest). IsNaiveFork c.args.dag.now c.args.panorama.now ds c.loop-creator.creator c.in-Err.fork) h.endorsed_is c.in-Err.ensures.fork in
    let ordered = subst (λ (ds : List Digest). (v m n : ℕ) → v < c.loop-creator.creator → IsNaive c.args.dag.now c.args.panorama.now ds v m → IsNaive c.args.dag.now c.args.panorama.now ds v n
    → (is_lane_below c.args.dag.now m n ≡ true) ⊎ (is_lane_below c.args.dag.now n m ≡ true)) h.endorsed_is c.loop-creator.invariant.0 in
    least_fork c.args.dag.now c.recall_graph.ensures c.args.panorama.now c.requires.panorama u h.observes c.loop-creator.creator c.in-Err.fork fork
    (λ w less m n hm hn. ordered w m n less hm hn)

pub loop-creator-preserved-then-not-may_fork : goal.loop-creator-preserved-then-not-may_fork
loop-creator-preserved-then-not-may_fork c = (
  (λ v m n lt hm hn. elim (cases_lt v c.loop-creator.creator) [
    | inl less ↦ c.loop-creator.invariant.0 v m n less hm hn
    | inr above ↦
        let same : v ≡ c.loop-creator.creator = omega arith in
        let at_m = subst (λ (k : ℕ). IsNaive c.args.dag.now c.args.panorama.now c.args.endorsed.now k m) same hm in
        let at_n = subst (λ (k : ℕ). IsNaive c.args.dag.now c.args.panorama.now c.args.endorsed.now k n) same hn in
        let calm = c.may_fork.ensures c.if-not-may_fork.true in
        elim (marked_or_not (view_at c.self.inside.lanes c.loop-creator.creator)) [
          | inl forked ↦
              unmarked_ordered c.args.dag.now c.recall_graph.ensures c.args.panorama.now c.requires.panorama c.requires.consistent c.args.endorsed.now c.loop-creator.creator m n (calm forked) at_m at_n
          | inr alone ↦
              let noted = subst (λ (t : NaiveTips). IsNoted t c.args.dag.now) (sym c.self.view_is) c.requires.noted in
              let all = ap (λ (t : NaiveTips). t.count) c.self.view_is ∙ c.requires.all in
              lane_ordered c.args.dag.now c.recall_graph.ensures c.args.panorama.now c.requires.panorama (with_list c.args.dag.now c.args.panorama.now c.args.endorsed.now) refl c.self.inside.lanes c.self.inside.count c.loop-creator.creator
              noted.lanes_are all alone m n at_m at_n
        ]
  ]),
  c.loop-creator.invariant.1,
)

pub loop-creator-preserved : goal.loop-creator-preserved
loop-creator-preserved c = (
  (λ v m n lt hm hn. elim (cases_lt v c.loop-creator.creator) [
    | inl less ↦ c.loop-creator.invariant.0 v m n less hm hn
    | inr above ↦
        let same : v ≡ c.loop-creator.creator = omega arith in
        let at_m = subst (λ (k : ℕ). IsNaive c.args.dag.now c.args.panorama.now c.args.endorsed.now k m) same hm in
        let at_n = subst (λ (k : ℕ). IsNaive c.args.dag.now c.args.panorama.now c.args.endorsed.now k n) same hn in
        found_order c.args.dag.now c.recall_graph.ensures c.args.panorama.now c.requires.panorama c.args.endorsed.now c.loop-creator.creator c.tip_over.result
        c.tip_over.ensures.tip c.in_default.not-Err m n at_m at_n
  ]),
  c.tip_over.ensures.room ∙ c.loop-creator.invariant.1,
)

pub returns-clause-none : goal.returns-clause-none
returns-clause-none c = λ u h. (
  (λ t. ordered_forkless c.args.dag.now c.recall_graph.ensures c.args.panorama.now c.requires.panorama u h.observes (λ v. elim (cases_lt v c.self.inside.validators) [
    | inl less ↦ subst (λ (ds : List Digest). (m n : ℕ) → IsNaive c.args.dag.now c.args.panorama.now ds v m → IsNaive c.args.dag.now c.args.panorama.now ds v n
        → (is_lane_below c.args.dag.now m n ≡ true) ⊎ (is_lane_below c.args.dag.now n m ≡ true)) h.endorsed_is (λ m n hm hn. c.loop-creator.invariant.0 v m n (let over = c.loop-creator-test.false in omega arith) hm hn)
    | inr above ↦
        let same = ap (λ (t : NaiveTips). t.validators) c.self.view_is ∙ c.requires.noted.validators_are in
        beyond_ordered c.args.dag.now c.recall_graph.ensures c.args.panorama.now c.requires.panorama u h.observes v (omega arith)
  ])),
  (λ n. refl),
)
