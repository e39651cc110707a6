use Rattle.std.proofs.Common.{◌≡◌, sym, ap, ◌∙◌, arith}
use Rattle.hw_types.specs.declared.unit.SignedUnit.{SignedUnit}
use Rattle.hw_dag.proofs.JumpLaws.{jump_count-arrived}
use Rattle.hw_dag.specs.Dag.{SettledUnit, seq_of, unit_at}
use Rattle.hw_core_cases.proofs.graph.lanes.no_jump.Goals as goal

pub returns-clause-steps : goal.returns-clause-steps
returns-clause-steps g c =
    let seq : c.signed.result.now.unit.seq ≡ seq_of (unit_at c.args.dag.now c.args.no.0) = ap (λ (s : SignedUnit). s.unit.seq) (c.signed.ensures ∙ ap (λ (u : SettledUnit). u.signed) c.unit.ensures) in
    let none = jump_count-arrived (seq_of (unit_at c.args.dag.now c.args.no.0)) c.signed.result.now.unit.seq (sym seq) in
    let jumps = c.lane_at.ensures.jumps in
    omega arith
