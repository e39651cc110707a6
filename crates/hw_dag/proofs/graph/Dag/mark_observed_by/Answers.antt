use Rattle.std.proofs.Common.{◌≡◌, ℕ, sym, subst, ◌∙◌, arith, inl, inr}
use Rattle.std.proofs.lemmas.Bool.{cases_lt}
use Rattle.std.proofs.lemmas.List.{get_or_read}
use Rattle.hw_dag.specs.declared.numbers.View.TheVariants as view
use Rattle.hw_dag.specs.Dag.{view_at}
use Rattle.hw_dag.specs.Walks.{Cites}
use Rattle.hw_dag.proofs.SlotLaws.{slot_inside}
use Rattle.hw_dag.proofs.graph.Dag.mark_observed_by.Goals as goal
use Rattle.hw_dag.proofs.graph.Dag.mark_observed_by.Goals.{in-Correct, in_default}

pub mark_observed-requires-clause-known : goal.mark_observed-requires-clause-known
mark_observed-requires-clause-known c =
    let seen = c.view.ensures ∙ get_or_read c.args.slots.now c.loop-slot.slot-index c.slot-item.result c.loop-slot-test.true c.slot-item.is view.Absent in
    c.requires.known c.loop-slot.slot-index c.in-Correct.no (sym seen ∙ c.in-Correct.is)

pub mark_observed-requires-clause-room : goal.mark_observed-requires-clause-room
mark_observed-requires-clause-room c =
    let seen = c.view.ensures ∙ get_or_read c.args.slots.now c.loop-slot.slot-index c.slot-item.result c.loop-slot-test.true c.slot-item.is view.Absent in
    let kept = c.loop-slot.auto.marked in
    let room = c.requires.room c.loop-slot.slot-index c.in-Correct.no (sym seen ∙ c.in-Correct.is) in
    omega arith

pub loop-slot-preserved : goal.loop-slot-preserved
loop-slot-preserved c =
    let seen = c.view.ensures ∙ get_or_read c.args.slots.now c.loop-slot.slot-index c.slot-item.result c.loop-slot-test.true c.slot-item.is view.Absent in
    let i = c.loop-slot.invariant in
    elim c.match-view.branch [
      | in-Correct w ↦
          let made = w.mark_observed.ensures in
          rw w.marked-is (
            (λ v number m lt e ci le. elim (cases_lt v c.loop-slot.slot-index) [
              | inl less ↦ made.kept m (i.0 v number m less e ci le)
              | inr above ↦
                  let same : v ≡ c.loop-slot.slot-index = omega arith in
                  let there : view.Correct w.in-Correct.no ≡ view.Correct number = sym w.in-Correct.is ∙ seen ∙ subst (λ (n : ℕ). view_at c.args.slots.now n ≡ view.Correct number) same e in
                  let one : number ≡ w.in-Correct.no = cc in
                  made.all m (subst (λ k. Cites c.args.self.now k.0 m) one ci) le
            ]),
            (λ m t. elim (made.only m t) [
              | inl before ↦ i.1 m before
              | inr cited ↦ inr (record { slot = c.loop-slot.slot-index; number = w.in-Correct.no; named = sym seen ∙ w.in-Correct.is; cites = cited })
            ]),
          )
      | in_default w ↦ rw w.marked-is (
        (λ v number m lt e ci le. elim (cases_lt v c.loop-slot.slot-index) [
          | inl less ↦ i.0 v number m less e ci le
          | inr above ↦ absurd (w.in_default.not-Correct number (seen ∙ subst (λ (n : ℕ). view_at c.args.slots.now n ≡ view.Correct number) (let same : v ≡ c.loop-slot.slot-index = omega arith in same) e))
        ]),
        i.1,
      )
    ]

pub returns-clause-all : goal.returns-clause-all
returns-clause-all c = λ m s le. c.loop-slot.invariant.0 s.slot s.number m (let lt = slot_inside c.args.slots.now s.slot s.number s.named in let over = c.loop-slot-test.false in omega arith) s.named s.cites le
