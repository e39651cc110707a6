use Rattle.std.proofs.Common.{◌≡◌, ◌<◌, ℕ, [], get_or}
use Rattle.hw_naivety.specs.Tips.{IsBelowNamed}
use Rattle.hw_naivety.proofs.sight.Sight.is_below_one_by_one.Given as goal

-- it is below none of the units named so far
abbrev pub invariant-loop-name : goal.invariant-loop-name
invariant-loop-name l =
    ((k : ℕ) → k < l.name-index → IsBelowNamed l.self.dag.now l.self.panorama.now (get_or l.name-items k (record { 0 = [] })) l.no.0 → ⊥) × (l.marks ≡ l.initial.marks)
