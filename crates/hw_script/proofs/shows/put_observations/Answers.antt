use Rattle.std.proofs.Common.{◌++◌, ap, ◌∙◌, arith}
use Rattle.hw_script.specs.Shows.{observation_text}
use Rattle.hw_script.proofs.ShowLaws.{goes_on, is_done}
use Rattle.hw_script.proofs.shows.put_observations.Goals as goal

pub loop-validator-preserved : goal.loop-validator-preserved
loop-validator-preserved c =
    let l = c.loop-validator in
    goes_on c.args.names.now c.args.core.now c.args.out.now l.out c.put_word.new.out c.put_observation.new.out l.validator (omega arith) l.invariant c.in_ok-put_word.ensures.ok
    (c.in_ok-put_observation.ensures ∙ ap (λ o. c.put_word.new.out ++ observation_text c.args.names.now o) c.observation.ensures)

pub returns : goal.returns
returns c =
    let l = c.loop-validator in
    is_done c.args.names.now c.args.core.now c.args.out.now l.out l.validator (omega arith) l.invariant
