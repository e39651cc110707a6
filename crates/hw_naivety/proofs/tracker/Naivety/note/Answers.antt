use Rattle.std.proofs.Common.{◌<◌, ◌+◌, ℕ, List, sym, ap, subst, ◌∙◌}
use Rattle.hw_types.specs.declared.unit.SignedUnit.{SignedUnit}
use Rattle.hw_dag.specs.declared.numbers.View.{View}
use Rattle.hw_dag.specs.Dag.{SettledUnit, unit_at, node_at}
use Rattle.hw_naivety.specs.Tips.{IsTip, tip_at, HasTips, HasLists}
use Rattle.hw_naivety.specs.Forks.{IsForkless}
use Rattle.hw_naivety.specs.Naivety.{NaiveTips, IsNoted}
use Rattle.hw_naivety.proofs.BelowLaws.{lists_kept}
use Rattle.hw_naivety.proofs.ForkLaws.{forkless_by_number}
use Rattle.hw_naivety.proofs.NotedLaws.{moved, has_tips, noted_next}
use Rattle.hw_naivety.proofs.tracker.Naivety.note.Goals as goal

pub fill-requires-clause-tips : goal.fill-requires-clause-tips
fill-requires-clause-tips c =
    let u = c.recall_graph.ensures.settled c.args.no.0 c.requires.known in
    let panorama = c.panorama.ensures ∙ ap (λ (s : SettledUnit). s.panorama) c.unit-unit.ensures in
    let noted = subst (λ (t : NaiveTips). IsNoted t c.args.dag.now) (sym c.self.view_is) c.requires.noted in
    let count = ap (λ (t : NaiveTips). t.count) c.self.view_is ∙ c.requires.next in
    subst (λ (ws : List View). HasTips c.args.dag.now ws c.self.inside.tips) (sym panorama)
    (has_tips c.args.dag.now (unit_at c.args.dag.now c.args.no.0).panorama c.self.inside.count c.self.inside.tips noted.tips_are c.self.invariant.1.count_within
    (λ slot cited e. subst (λ (k : ℕ). cited.0 < k) (sym count) (u.earlier slot cited e)))

pub fill-requires-clause-lists : goal.fill-requires-clause-lists
fill-requires-clause-lists c =
    let g = c.recall_graph.ensures in
    let u = g.settled c.args.no.0 c.requires.known in
    moved (λ ws ds. HasLists c.args.dag.now ws ds) (unit_at c.args.dag.now c.args.no.0).panorama c.panorama.result.now (unit_at c.args.dag.now c.args.no.0).signed.unit.endorsed c.as_slice.result.now
    (sym (c.panorama.ensures ∙ ap (λ (s : SettledUnit). s.panorama) c.unit-unit.ensures))
    (sym (c.as_slice.ensures ∙ ap (λ (s : SignedUnit). s.unit.endorsed) c.signed.ensures ∙ ap (λ (s : SettledUnit). s.signed.unit.endorsed) c.unit-unit.ensures))
    (lists_kept c.args.dag.now g (unit_at c.args.dag.now c.args.no.0).panorama u.panorama_is.known (node_at c.args.dag.now c.args.no.0) u.observes c.requires.endorsed)

pub fill-requires-clause-forkless : goal.fill-requires-clause-forkless
fill-requires-clause-forkless c =
    let g = c.recall_graph.ensures in
    let u = g.settled c.args.no.0 c.requires.known in
    moved (λ ws ds. IsForkless c.args.dag.now ws ds) (unit_at c.args.dag.now c.args.no.0).panorama c.panorama.result.now (unit_at c.args.dag.now c.args.no.0).signed.unit.endorsed c.as_slice.result.now
    (sym (c.panorama.ensures ∙ ap (λ (s : SettledUnit). s.panorama) c.unit-unit.ensures))
    (sym (c.as_slice.ensures ∙ ap (λ (s : SignedUnit). s.unit.endorsed) c.signed.ensures ∙ ap (λ (s : SettledUnit). s.signed.unit.endorsed) c.unit-unit.ensures))
    (forkless_by_number c.args.dag.now g (unit_at c.args.dag.now c.args.no.0).panorama u.panorama_is (node_at c.args.dag.now c.args.no.0) u.observes c.requires.forkless)

pub returns-clause-noted : goal.returns-clause-noted
returns-clause-noted c =
    let validators = ap (λ (t : NaiveTips). t.validators) c.self.view_is in
    let count = ap (λ (t : NaiveTips). t.count) c.self.view_is ∙ c.requires.next in
    noted_next c.args.dag.now c.args.self.now _ c.args.no.0 c.requires.noted c.requires.next c.requires.known c.requires.endorsed c.requires.forkless validators (ap (λ (k : ℕ). k + 1) count)
    (λ v small. moved (λ ws ds. IsTip c.args.dag.now ws ds v (tip_at c.args.dag.now c.fill.new.self c.args.no.0 v)) c.panorama.result.now (unit_at c.args.dag.now c.args.no.0).panorama c.as_slice.result.now (unit_at c.args.dag.now c.args.no.0).signed.unit.endorsed
    (c.panorama.ensures ∙ ap (λ (s : SettledUnit). s.panorama) c.unit-unit.ensures)
    (c.as_slice.ensures ∙ ap (λ (s : SignedUnit). s.unit.endorsed) c.signed.ensures ∙ ap (λ (s : SettledUnit). s.signed.unit.endorsed) c.unit-unit.ensures)
    (c.fill.ensures.filled v (subst (λ (k : ℕ). v < k) (sym (validators ∙ c.requires.noted.validators_are)) small)))
    (λ n v other small. c.fill.ensures.kept n v other (subst (λ (k : ℕ). v < k) (sym (validators ∙ c.requires.noted.validators_are)) small) ∙ ap (λ (t : NaiveTips). tip_at c.args.dag.now t.tips n v) c.self.view_is)
    c.follow.ensures.lanes
