use Rattle.std.proofs.Common.{[], Option, ap, ◌∙◌}
use Rattle.std.specs.Option.{option_map_or}
use Rattle.hw_endorse.specs.declared.tally.Endorsers.{Endorsers}
use Rattle.hw_endorse.specs.Kept.{is_one}
use Rattle.hw_endorse.proofs.KeyLaws.{looked_up}
use Rattle.hw_endorse.proofs.tally.has.Goals as goal

pub returns-in-None : goal.returns-in-None
returns-in-None c =
    ap (λ (o : Option Endorsers). is_one (option_map_or (λ e. e.who.items) o []) c.args.endorser) (c.in-None.ensures.value ∙ looked_up c.args.tallies.now.entries c.args.unit.now)

pub returns-in-Some : goal.returns-in-Some
returns-in-Some c =
    c.has.ensures
    ∙ ap (λ (o : Option Endorsers). is_one (option_map_or (λ e. e.who.items) o []) c.args.endorser) (c.in-Some.ensures.value ∙ looked_up c.args.tallies.now.entries c.args.unit.now)
