-- What a test of rules answers.
use Rattle.std.specs.Prelude.{Option, Some, None, Result, Ok, Err}
use Rattle.hw_types.specs.declared.answers.Rule.{Rule}

-- a rule that is broken is an error
abbrev pub verdict_of : Option Rule → Result (Unit {0}) Rule
verdict_of None = Ok tt
verdict_of (Some rule) = Err rule
