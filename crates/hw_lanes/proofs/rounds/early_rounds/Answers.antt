use Rattle.std.proofs.Common.{ap, ◌∙◌, arith}
use Rattle.sha2.specs.Sha256.{rounds, schedule}
use Rattle.hw_lanes.proofs.rounds.early_rounds.Goals as goal

pub returns : goal.returns
returns c j lane b h window at0 =
    let upto = rounds h (schedule b 48) in
    let at1 = c.early_round-v.ensures j lane b h window at0 in
    let at2 = c.early_round-v-2.ensures j lane b h window at1 in
    let at3 = c.early_round-v-3.ensures j lane b h window (at2 ∙ ap upto (omega arith)) in
    let at4 = c.early_round-v-4.ensures j lane b h window (at3 ∙ ap upto (omega arith)) in
    let at5 = c.early_round-v-5.ensures j lane b h window (at4 ∙ ap upto (omega arith)) in
    let at6 = c.early_round-v-6.ensures j lane b h window (at5 ∙ ap upto (omega arith)) in
    let at7 = c.early_round-v-7.ensures j lane b h window (at6 ∙ ap upto (omega arith)) in
    c.early_round.ensures j lane b h window (at7 ∙ ap upto (omega arith)) ∙ ap upto (omega arith)
