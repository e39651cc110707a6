use Rattle.std.proofs.Common.{◌≡◌, ◌<◌, inr, false, Option, refl, sym, subst, ◌∙◌, arith}
use Rattle.std.specs.Prelude.{IfSome}
use Rattle.std.proofs.lemmas.Bool.{lt-ltb}
use Rattle.hw_types.specs.Graph.{digest_lt}
use Rattle.hw_types.proofs.WordsLaws.{never_both}
use Rattle.hw_dag.specs.Dag.{unit_at, count_of}
use Rattle.hw_forks.specs.declared.tallies.Share.{Share}
use Rattle.hw_forks.specs.Walk.{IsHeavier}
use Rattle.hw_forks.proofs.ShareLaws.{stays_best}
use Rattle.hw_forks.proofs.tallies.heavier.Goals as goal
use Rattle.hw_forks.proofs.tallies.heavier.Goals.{then-best-tally, else-best-tally+then-best-tally-2, else-best-tally+else-best-tally-2}

pub returns-else-comes_before : goal.returns-else-comes_before
returns-else-comes_before c =
    let best = c.in-Some.best in
    let known : best.child.0 < count_of c.args.dag.now = subst (λ (o : Option Share). IfSome o (λ held. held.child.0 < count_of c.args.dag.now)) c.in-Some.is c.requires.best_known in
    subst (λ (o : Option Share). IsHeavier c.args.dag.now o c.args.tally best) (sym c.in-Some.is) (inr (
      refl,
      elim c.if-best-tally.branch [
        | then-best-tally w ↦ absurd (let more = w.if-best-tally.true in never_both c.if-best-tally.value (w.value-is ∙ lt-ltb _ _ more) c.if-comes_before.false)
        | else-best-tally+then-best-tally-2 w ↦
            let test : digest_lt (unit_at c.args.dag.now best.child.0).digest (unit_at c.args.dag.now c.args.tally.child.0).digest ≡ false = sym w.comes_before.ensures ∙ sym w.value-is ∙ c.if-comes_before.false in
            stays_best c.args.dag.now c.requires.graph best c.args.tally known c.requires.tally_known (let no_more = w.if-best-tally.false in omega arith) (λ e. test)
        | else-best-tally+else-best-tally-2 w ↦
            stays_best c.args.dag.now c.requires.graph best c.args.tally known c.requires.tally_known (let no_more = w.if-best-tally.false in omega arith)
            (λ e. absurd (let no_tie = w.if-best-tally-2.false in no_tie e))
      ],
    ))
