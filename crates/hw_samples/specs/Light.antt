-- A certificate that is answered yes, beside a node that decided another block of that height.
-- Source: ours.
use Rattle.std.specs.Prelude.{◌≡◌, ◌≢◌, List, None, Any}
use Rattle.hw_types.specs.declared.unit.Vertex.{Vertex}
use Rattle.hw_types.specs.declared.answers.Decision.{Decision}
use Rattle.hw_types.specs.Below.{Among}
use Rattle.hw_types.specs.Real.{CoreState, setting_of}
use Rattle.hw_core.specs.Decided.{decided_in}
use Rattle.hw_safety.specs.Safety.{HasPairs}
use Rattle.hw_safety.specs.declared.verdict.Verdict.{Verdict}
use Rattle.hw_safety.specs.Verdicts.{IsVerdict, IsAccountable}
use Rattle.hw_light.specs.declared.certificate.Certificate.{Certificate}
use Rattle.hw_light.specs.Checked.{IsCertified}
use Rattle.hw_samples.specs.Words.{equal_three}
use Rattle.hw_samples.specs.RealNames.{a0_name, c0_name, real_in_order, real_other_side}

-- four units certify the block of validator 0
abbrev pub four_certify : Certificate
four_certify = record { config = equal_three; block = a0_name; vertices = real_in_order }

abbrev pub node_of : List Vertex → CoreState
node_of journal = record { config = equal_three; journal = journal; asked = None }

-- four others decide that of validator 2
abbrev pub other_decision : Decision
other_decision = record { block = c0_name; height = 0; level = 1; quorum = 2; at = 4 }

pub record YesMeetsAnother : Type 0 where
  pub certified : IsCertified four_certify (node_of real_in_order)
  pub pairs : HasPairs (setting_of equal_three) real_other_side
  pub other : Among other_decision (decided_in (node_of real_other_side))
  pub same_height : Any (λ (d : Decision). (d.block ≡ a0_name) × (d.height ≡ other_decision.height)) (decided_in (node_of real_in_order))
  pub differ : other_decision.block ≢ a0_name
  -- so the law holds of the verdict on the two
  pub verdict : Verdict
  pub is : IsVerdict (setting_of equal_three) real_in_order real_other_side (decided_in (node_of real_in_order)) (decided_in (node_of real_other_side)) verdict
  pub accountable : IsAccountable equal_three.ftt verdict
