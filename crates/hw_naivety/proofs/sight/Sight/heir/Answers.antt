use Rattle.std.proofs.Common.{sym, ap, ◌∙◌}
use Rattle.hw_types.specs.declared.unit.SignedUnit.{SignedUnit}
use Rattle.hw_types.proofs.Equal.{digest_list_exact}
use Rattle.hw_dag.specs.Dag.{SettledUnit, unit_at}
use Rattle.hw_naivety.specs.Heirs.{HasListBelow}
use Rattle.hw_naivety.proofs.NotedLaws.{moved}
use Rattle.hw_naivety.proofs.sight.Sight.heir.Goals as goal

pub returns-then-has_list-clause-heir : goal.returns-then-has_list-clause-heir
returns-then-has_list-clause-heir c =
    let dag = c.args.self.now.dag.now in
    let listed = c.as_slice-endorsed.ensures ∙ ap (λ (s : SignedUnit). s.unit.endorsed) c.signed.ensures ∙ ap (λ (s : SettledUnit). s.signed.unit.endorsed) c.unit-unit.ensures in
    let same = (digest_list_exact c.as_slice-endorsed.result.now c.args.self.now.endorsed.now).0 (sym c.if-eq.ensures) in
    record {
      slot = c.args.creator;
      observed = sym c.get.ensures ∙ c.in-Correct.is;
      list_is = sym listed ∙ same;
      list_below = moved (λ ws ds. HasListBelow dag ws ds) c.panorama.result.now (unit_at dag c.in-Correct.last.0).panorama c.as_slice-endorsed.result.now c.args.self.now.endorsed.now
          (c.panorama.ensures ∙ ap (λ (s : SettledUnit). s.panorama) c.unit-unit.ensures) same (c.has_list.ensures.below c.if-has_list.true);
    }
