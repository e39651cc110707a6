use Rattle.std.proofs.Common.{◌≡◌, ◌<◌, ℕ, inl, inr, Option, sym, ap, subst, ◌∙◌, arith}
use Rattle.std.proofs.lemmas.Bool.{cases_lt}
use Rattle.hw_dag.specs.declared.numbers.UnitNo.{UnitNo}
use Rattle.hw_dag.specs.declared.numbers.View.{View}
use Rattle.hw_dag.specs.Dag.{view_at}
use Rattle.hw_naivety.specs.Rows.{row_slot}
use Rattle.hw_naivety.specs.Tips.{IsTip, said_tip}
use Rattle.hw_naivety.proofs.RowLaws.{kept_put, rows_own, row_put_here, row_put_beside, tips_kept}
use Rattle.hw_naivety.proofs.TipLaws.{tips_stay}
use Rattle.hw_naivety.proofs.tips.Tips.fill_row.Goals as goal

pub tip_of-tip-requires-clause-tips : goal.tip_of-tip-requires-clause-tips
tip_of-tip-requires-clause-tips c =
    let s = c.requires.sight in
    let k = c.loop-creator.invariant.1 in
    tips_stay c.args.sight.now.dag.now s.graph_is c.args.sight.now.panorama.now s.panorama_is c.args.sight.now.endorsed.now c.args.self.now c.loop-creator.self c.requires.tips k.places_are
    (λ n v small. tips_kept c.args.sight.now.dag.now c.args.self.now c.loop-creator.self (rows_own c.args.sight.now.validators c.args.self.now c.requires.rows) k n v
    (subst (λ (m : ℕ). v < m) (sym (c.requires.rows.validators_are ∙ s.validators_are)) small))

pub loop-creator-preserved : goal.loop-creator-preserved
loop-creator-preserved c =
    let i = c.loop-creator.invariant in
    let sight = c.args.sight.now in
    let next = c.put.new.self in
    let own : c.loop-creator.creator < c.args.self.now.rows.validators = subst (λ (m : ℕ). c.loop-creator.creator < m) (sym c.requires.rows.validators_are) c.loop-creator-test.true in
    let here = row_put_here c.args.self.now c.loop-creator.self next c.loop-creator.creator c.said.result own c.requires.spare i.1 c.put.ensures.taken c.put.ensures.rows in
    let tip = ap (λ (w : View). said_tip (view_at sight.panorama.now c.loop-creator.creator) w) here ∙ ap (λ (w : View). said_tip w c.said.result) (sym c.get.ensures) ∙ c.said.ensures.said in (
      (λ v lt. elim (cases_lt v c.loop-creator.creator) [
        | inl less ↦ subst (λ (w : View). IsTip sight.dag.now sight.panorama.now sight.endorsed.now v (said_tip (view_at sight.panorama.now v) w))
            (sym (row_put_beside c.args.self.now c.loop-creator.self next c.loop-creator.creator c.said.result own c.requires.spare i.1 c.put.ensures.taken c.put.ensures.rows v (λ e. absurd (omega arith)))) (i.0 v less)
        | inr above ↦ (let same : c.loop-creator.creator ≡ v = omega arith in
            subst (λ (k : ℕ). IsTip sight.dag.now sight.panorama.now sight.endorsed.now k (said_tip (view_at sight.panorama.now k) (row_slot next.rows next.taken k))) same
            (subst (λ (o : Option UnitNo). IsTip sight.dag.now sight.panorama.now sight.endorsed.now c.loop-creator.creator o) (sym tip) c.tip_of-tip.ensures.tip))
      ]),
      kept_put c.args.self.now c.loop-creator.self next c.loop-creator.creator c.said.result own c.requires.spare i.1 c.put.ensures.taken c.put.ensures.rows c.put.ensures.places,
      c.tip_of-tip.ensures.room ∙ i.2,
    )
