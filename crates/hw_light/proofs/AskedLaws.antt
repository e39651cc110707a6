-- A certificate that was answered yes has a decided block.
use Rattle.std.proofs.Common.{◌≡◌, ℕ, suc, inl, inr, List, [], ◌∷◌, Some, ap}
use Rattle.std.specs.Prelude.{slice_get}
use Rattle.hw_types.specs.declared.answers.Decision.{Decision}
use Rattle.hw_types.specs.Below.{Among}
use Rattle.hw_types.specs.Real.{CoreState}
use Rattle.hw_types.proofs.OrderedLaws.{any_is}
use Rattle.hw_core.specs.Decided.{decided_in}
use Rattle.hw_light.specs.declared.certificate.Certificate.{Certificate}
use Rattle.hw_light.specs.Checked.{IsCertified}
use Rattle.hw_light.proofs.YesLaws.{decided}
use Rattle.hw_light.specs.Asked.{HasNoDecision}

among_at : {A : Type 0} (x : A) (xs : List A) → Among x xs → (i : ℕ) × (slice_get xs i ≡ Some x)
among_at x [] m = absurd m
among_at x (y ∷ ys) (inl e) = (0, ap Some e)
among_at x (y ∷ ys) (inr m) = let r = among_at x ys m in (suc r.0, r.1)

pub has_decision : (c : Certificate) (core : CoreState) → IsCertified c core → HasNoDecision core c.block → ⊥
has_decision c core is none =
    let d = any_is (λ (d : Decision). d.block ≡ c.block) (decided_in core) (decided c core is) in
    let at = among_at d.0 (decided_in core) d.1 in
    none at.0 d.0 at.1 d.2
