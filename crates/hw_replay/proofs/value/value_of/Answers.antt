use Rattle.std.proofs.Common.{◌∙◌, sym, ap, refl}
use Rattle.hw_dag.specs.Dag.{SettledUnit}
use Rattle.hw_replay.specs.Chain.{value_bytes}
use Rattle.hw_replay.proofs.ValueLaws.{known_value, unknown_value}
use Rattle.hw_replay.proofs.value.value_of.Goals as goal

pub returns-in-Some-value : goal.returns-in-Some-value
returns-in-Some-value c =
    c.as_slice.ensures ∙ sym (ap value_bytes c.in-Some-value.is)
    ∙ known_value c.dag-dag.result.now _ c.in-Some.no.0 _ c.signed.result.now c.dag-dag.ensures.dag c.dag-dag.ensures.graph c.in-Some.ensures.found.0 c.in-Some.ensures.found.1 (c.signed.ensures ∙ ap (λ (s : SettledUnit). s.signed) c.unit.ensures)

pub returns-in-None-value : goal.returns-in-None-value
returns-in-None-value c =
    sym (ap value_bytes c.in-None-value.is)
    ∙ known_value c.dag-dag.result.now _ c.in-Some.no.0 _ c.signed.result.now c.dag-dag.ensures.dag c.dag-dag.ensures.graph c.in-Some.ensures.found.0 c.in-Some.ensures.found.1 (c.signed.ensures ∙ ap (λ (s : SettledUnit). s.signed) c.unit.ensures)

pub returns-in-None : goal.returns-in-None
returns-in-None c = unknown_value c.dag-dag.result.now _ _ c.dag-dag.ensures.dag (c.in-None.ensures.none.0 refl)
