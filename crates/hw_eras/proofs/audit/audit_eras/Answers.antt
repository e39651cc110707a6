use Rattle.std.proofs.Common.{◌≡◌, ℕ, sym, arith}
use Rattle.std.proofs.lemmas.Result.{err_from_is_err_and}
use Rattle.hw_safety.specs.declared.verdict.Verdict.TheVariants as verdict
use Rattle.hw_eras.proofs.AuditLaws.{fault_is, more, at_instances, at_verdict, at_eras, at_accounted, end_verdict, end_eras, end_accounted}
use Rattle.hw_eras.proofs.audit.audit_eras.Goals as goal

pub returns-in_err-verdict-clause-instances : goal.returns-in_err-verdict-clause-instances
returns-in_err-verdict-clause-instances c =
    let p = err_from_is_err_and c.from_residual.result c.from_residual.ensures.1 in
    rw (p.1, p.2) (fault_is c.args.left.now c.args.right.now c.count.ensures.eras c.count-2.ensures.eras c.loop-era.era c.loop-era.common c.loop-era.invariant
    c.in-Some-Some.first.now c.in-Some-Some.second.now (sym c.in-Some-Some.ensures) (sym c.in-Some-Some.ensures') c.in_err-verdict.field-0.0 c.in_err-verdict.ensures.instances)

pub returns-in_default-verdict : goal.returns-in_default-verdict
returns-in_default-verdict c =
    let cs = c.args.left.now in
    let ds = c.args.right.now in
    let left = c.count.ensures.eras in
    let right = c.count-2.ensures.eras in
    let i = sym c.in-Some-Some.ensures in
    let j = sym c.in-Some-Some.ensures' in
    let v = c.in_ok-verdict.verdict in
    let other : (here : ℕ) → v ≡ verdict.Agree here → ⊥ = λ here e. c.in_default-verdict.not-Agree here e in
    record {
      instances = at_instances cs ds left right c.loop-era.era c.loop-era.common c.loop-era.invariant c.in-Some-Some.first.now c.in-Some-Some.second.now i j v c.in_ok-verdict.ensures.instances c.in_ok-verdict.ensures.verdict other;
      verdict = at_verdict cs ds left right c.loop-era.era c.loop-era.common c.loop-era.invariant c.in-Some-Some.first.now c.in-Some-Some.second.now i j v c.in_ok-verdict.ensures.instances c.in_ok-verdict.ensures.verdict other;
      by_eras = at_eras cs ds left right c.loop-era.era c.loop-era.common c.loop-era.invariant c.in-Some-Some.first.now c.in-Some-Some.second.now i j v c.in_ok-verdict.ensures.instances c.in_ok-verdict.ensures.verdict other c.in_ok-verdict.ensures.first;
      accounted = at_accounted cs ds left right c.loop-era.era c.loop-era.common c.loop-era.invariant c.in-Some-Some.first.now c.in-Some-Some.second.now i j v c.in_ok-verdict.ensures.instances c.in_ok-verdict.ensures.verdict other;
    }

pub loop-era-preserved : goal.loop-era-preserved
loop-era-preserved c =
    more c.args.left.now c.args.right.now c.count.ensures.eras c.count-2.ensures.eras c.loop-era.era c.loop-era.common c.loop-era.invariant
    c.in-Some-Some.first.now c.in-Some-Some.second.now (sym c.in-Some-Some.ensures) (sym c.in-Some-Some.ensures') c.in_ok-verdict.verdict c.in_ok-verdict.ensures.instances c.in_ok-verdict.ensures.verdict
    c.in-Agree.here c.in-Agree.is c.in_ok-verdict.ensures.short

pub returns-clause-verdict : goal.returns-clause-verdict
returns-clause-verdict c = end_verdict c.args.left.now c.args.right.now c.count.ensures.eras c.count-2.ensures.eras c.loop-era.era c.loop-era.common c.loop-era.invariant (omega arith)

pub returns-clause-accounted : goal.returns-clause-accounted
returns-clause-accounted c = end_accounted c.args.left.now c.args.right.now c.count.ensures.eras c.count-2.ensures.eras c.loop-era.era c.loop-era.common c.loop-era.invariant (omega arith)

pub returns-clause-by_eras : goal.returns-clause-by_eras
returns-clause-by_eras c = end_eras c.args.left.now c.args.right.now c.count.ensures.eras c.count-2.ensures.eras c.loop-era.era c.loop-era.common c.loop-era.invariant (omega arith) (omega arith)
