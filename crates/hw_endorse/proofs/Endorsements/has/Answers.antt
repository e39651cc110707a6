use Rattle.std.proofs.Common.{ap, sym, ◌∙◌}
use Rattle.hw_endorse.specs.Told.{Told, is_told}
use Rattle.hw_endorse.specs.Kept.{pairs_in}
use Rattle.hw_endorse.proofs.TallyLaws.{told_at}
use Rattle.hw_endorse.proofs.PairLaws.{told_in_order}
use Rattle.hw_endorse.proofs.Endorsements.has.Goals as goal

pub returns : goal.returns
returns c =
    c.has.ensures
    ∙ sym (told_at c.self.inside.tallies.entries c.args.unit.now c.args.endorser)
    ∙ sym (told_in_order (pairs_in c.self.inside.tallies.entries) c.args.unit.now c.args.endorser)
    ∙ ap (λ (t : Told). is_told t.pairs c.args.unit.now c.args.endorser) c.self.view_is
