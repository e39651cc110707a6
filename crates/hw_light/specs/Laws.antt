-- What a certificate that was answered yes shows: the statements.
-- Source: ours.
use Rattle.std.specs.Prelude.{◌≡◌, Any}
use Rattle.hw_types.specs.declared.answers.Decision.{Decision}
use Rattle.hw_types.specs.Below.{Among}
use Rattle.hw_types.specs.Real.{CoreState, setting_of}
use Rattle.hw_core.specs.Decided.{decided_in}
use Rattle.hw_safety.specs.Safety.{HasPairs}
use Rattle.hw_safety.specs.declared.verdict.Verdict.{Verdict}
use Rattle.hw_safety.specs.Verdicts.{IsVerdict, IsAccountable}
use Rattle.hw_light.specs.declared.certificate.Certificate.{Certificate}
use Rattle.hw_light.specs.Checked.{IsCertified}

-- The node of a yes decided the certificate's block.
abbrev pub YesIsDecided : Type 0
YesIsDecided = (c : Certificate) (core : CoreState) → IsCertified c core → Any (λ (d : Decision). d.block ≡ c.block) (decided_in core)

-- Let a node of that configuration, whose evidence are pairs, have decided another block of that height. Then the
-- verdict on the two is a conflict whose culprits weigh more than the threshold, or a clash.
abbrev pub YesIsAccountable : Type 0
YesIsAccountable = (c : Certificate) (core other : CoreState) (e : Decision) (v : Verdict) → IsCertified c core
    → other.config ≡ c.config → HasPairs (setting_of c.config) other.journal → Among e (decided_in other)
    → Any (λ (d : Decision). (d.block ≡ c.block) × (d.height ≡ e.height)) (decided_in core) → (e.block ≡ c.block → ⊥)
    → IsVerdict (setting_of c.config) core.journal other.journal (decided_in core) (decided_in other) v → IsAccountable c.config.ftt v
