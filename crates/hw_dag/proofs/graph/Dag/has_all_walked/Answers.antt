use Rattle.std.proofs.Common.{◌<◌, [], refl, subst, arith}
use Rattle.hw_types.specs.declared.unit.Digest.{Digest}
use Rattle.hw_types.proofs.WordsLaws.{never_both}
use Rattle.hw_dag.specs.Lists.{NamesBelow}
use Rattle.hw_dag.proofs.PlaceLaws.{among_place, place_is_among}
use Rattle.hw_dag.proofs.graph.Dag.has_all_walked.Goals as goal

pub was_walked-requires-clause-before : goal.was_walked-requires-clause-before
was_walked-requires-clause-before c = c.requires.before _ (place_is_among (record { 0 = [] }) c.args.names.now c.loop-name.name-index c.loop-name-test.true)

pub returns-then-not-was_walked : goal.returns-then-not-was_walked
returns-then-not-was_walked c = (
  λ t. absurd cc,
  λ all. absurd (never_both c.was_walked.result (c.was_walked.ensures.1 (all _ (place_is_among (record { 0 = [] }) c.args.names.now c.loop-name.name-index c.loop-name-test.true))) c.if-not-was_walked.true),
)

pub returns : goal.returns
returns c = (
  λ t name m.
      let k = among_place (record { 0 = [] }) name c.args.names.now m in
      let within : k.0 < c.loop-name.name-index = (let lt = k.1 in let over = c.loop-name-test.false in omega arith) in
      subst (λ (d : Digest). NamesBelow c.args.self.now c.args.slots.now d) k.2 (c.loop-name.invariant k.0 within),
  λ all. refl,
)
