-- The faulty weight is that of the marks in the panorama.
use Rattle.std.proofs.Common.{◌≡◌, ℕ, Bool, true, false, cond, Option, Some, None, refl, sym, ap, ◌∙◌, le_antisymm}
use Rattle.hw_types.specs.declared.unit.Obs.TheVariants.{Faulty}
use Rattle.hw_types.specs.Graph.{Node, slot, is_faulty_mark}
use Rattle.hw_types.specs.Settled.{settled_of, is_faulty, tip_of, correct_or_absent, panorama_of, faulty_weight}
use Rattle.hw_types.proofs.TipLaws.{slot_over}
use Rattle.hw_safety.proofs.WeightLaws.{weight_within}
use Rattle.hw_safety.specs.ChainLaws.{FaultyAreMarked}

mark_is : (b : Bool) (o : Option Node) → is_faulty_mark (cond b Faulty (correct_or_absent o)) ≡ b
mark_is true o = refl
mark_is false None = refl
mark_is false (Some x) = refl

pub marked : FaultyAreMarked
unfolding faulty_weight panorama_of
marked config received =
    let units = settled_of config received in
    let faulty : ℕ → Bool = is_faulty received units in
    let marks : ℕ → Bool = λ v. is_faulty_mark (slot (panorama_of config received) v) in
    le_antisymm
    (weight_within config.weights faulty marks (λ v lt h. ap is_faulty_mark (slot_over config faulty units v lt) ∙ mark_is (faulty v) (tip_of units v) ∙ h))
    (weight_within config.weights marks faulty (λ v lt h. sym (ap is_faulty_mark (slot_over config faulty units v lt) ∙ mark_is (faulty v) (tip_of units v)) ∙ h))
