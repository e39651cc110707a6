-- Tests of observations in code are those of the definitions.
use Rattle.std.proofs.Common.{◌≡◌, Bool, refl, ap}
use Rattle.hw_types.specs.declared.unit.Digest.{Digest}
use Rattle.hw_types.specs.declared.unit.Obs.{Obs}
use Rattle.hw_types.specs.declared.unit.Obs.TheVariants.{Absent, Correct, Faulty}
use Rattle.hw_types.specs.contracts.unit.ObsPartialEq.TheImpl as obs
use Rattle.hw_types.specs.Same.{obs_eq}

pub obs_tested : (o p : Obs) → obs.eq-value.it o p ≡ obs_eq o p
obs_tested Absent Absent = refl
obs_tested Absent (Correct e) = refl
obs_tested Absent Faulty = refl
obs_tested (Correct d) Absent = refl
obs_tested (Correct d) (Correct e) = refl
obs_tested (Correct d) Faulty = refl
obs_tested Faulty Absent = refl
obs_tested Faulty (Correct e) = refl
obs_tested Faulty Faulty = refl
