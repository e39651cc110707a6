-- There is no unit, or the units that the newest one observes too are met, and the others are.
use Rattle.std.proofs.Common.{◌<◌, ◌-◌, List, inl, inr, sym, ap, subst, ◌∙◌, arith}
use Rattle.hw_types.proofs.WordsLaws.{either}
use Rattle.hw_dag.specs.declared.numbers.View.{View}
use Rattle.hw_dag.specs.Dag.{SettledUnit, count_of, IsPanorama}
use Rattle.hw_dag.proofs.OrderLaws.{cited_below_consistent}
use Rattle.hw_dag.proofs.SharedLaws.{both_met}
use Rattle.hw_dag.proofs.consistency.consistent.Goals as goal

pub returns-then-count-eq0 : goal.returns-then-count-eq0
returns-then-count-eq0 c =
    let none = c.if-count-eq0.true in
    let count = c.count-count.ensures.count in
    sym (cited_below_consistent c.args.dag.now c.count-count.ensures.graph c.args.panorama.now c.requires (λ v lt number e. absurd (let less = c.requires.known v number e in omega arith)))

pub returns-then-are_shared_met : goal.returns-then-are_shared_met
returns-then-are_shared_met c =
    let g = c.count-count.ensures.graph in
    let count = c.count-count.ensures.count in
    let some = c.if-count-eq0.false in
    let last : c.count-count.result - 1 < count_of c.args.dag.now = omega arith in
    let known = c.panorama-known.ensures ∙ ap (λ (u : SettledUnit). u.panorama) c.unit.ensures in
    let hk : IsPanorama c.args.dag.now c.panorama-known.result.now = subst (λ (p : List View). IsPanorama c.args.dag.now p) (sym known) (g.settled (c.count-count.result - 1) last).panorama_is in
    elim (either c.are_others_met.result) [
      | inl t ↦ t ∙ sym (both_met c.args.dag.now g c.panorama-known.result.now c.args.panorama.now hk c.requires (c.are_shared_met.ensures.met c.if-are_shared_met.true) (c.are_others_met.ensures.met t))
      | inr f ↦ f ∙ sym (c.are_others_met.ensures.unmet f)
    ]
