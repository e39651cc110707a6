use Rattle.std.proofs.Common.{◌≡◌, take}
use Rattle.hw_script_grammar.specs.Acts.{endorsements_of}
use Rattle.hw_script_grammar.proofs.adds.endorsements_of.Given as goal

abbrev pub invariant-loop-validator : goal.invariant-loop-validator
invariant-loop-validator l = l.acts ≡ endorsements_of l.name l.digest (take l.validator-index l.validators)
