use Rattle.std.proofs.Common.{◌≡◌, ◌++◌}
use Rattle.hw_types.specs.Real.{panorama_in}
use Rattle.hw_script.proofs.ShowLaws.{first_texts}
use Rattle.hw_script.proofs.shows.put_observations.Given as goal

abbrev pub invariant-loop-validator : goal.invariant-loop-validator
invariant-loop-validator l = l.out ≡ l.initial.out ++ first_texts l.names (panorama_in l.core) l.validator
