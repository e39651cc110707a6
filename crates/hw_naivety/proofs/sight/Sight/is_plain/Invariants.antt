use Rattle.std.proofs.Common.{◌≡◌, ◌<◌, ℕ}
use Rattle.hw_dag.specs.declared.numbers.View.TheVariants as view
use Rattle.hw_dag.specs.Dag.{view_at}
use Rattle.hw_naivety.proofs.sight.Sight.is_plain.Given as goal

-- no slot so far is marked
abbrev pub invariant-loop-slot : goal.invariant-loop-slot
invariant-loop-slot l = (v : ℕ) → v < l.slot-index → view_at l.self.panorama.now v ≡ view.Faulty → ⊥
