use Rattle.std.proofs.Common.{ap, inl}
use Rattle.std.specs.Prelude.{Ok}
use Rattle.hw_keys.proofs.TextLaws.{text_has_no_fault, no_first_fault, text_tells_one}
use Rattle.hw_keys.proofs.keys.Keys.read.Goals as goal

pub returns-in-Some-clause-read : goal.returns-in-Some-clause-read
returns-in-Some-clause-read c = λ keys is.
    absurd (no_first_fault c.args.validators c.args.text.now c.in-Some.place (text_has_no_fault c.args.validators c.args.text.now keys is) c.in-Some.ensures)

pub returns-in_ok-in_lines-in-None-clause-read : goal.returns-in_ok-in_lines-in-None-clause-read
returns-in_ok-in_lines-in-None-clause-read c = λ keys is. inl (ap Ok (text_tells_one c.args.validators c.args.text.now c.in_ok-in_lines-in-None.field-0 keys c.in_ok-in_lines-in-None.ensures is))
