use Rattle.std.proofs.Common.{◌≡◌, ℕ, List, ap, ◌∙◌}
use Rattle.hw_honest.specs.Simulated.{Numbers}
use Rattle.hw_cluster.specs.Numbers.{numbers_of}
use Rattle.hw_cluster.specs.Worked.{sim_numbers}
use Rattle.hw_cluster.proofs.WorkedLaws.{numbers_are}
use Rattle.hw_commands.specs.declared.ended.Ended.{Ended}
use Rattle.hw_commands.specs.Workloads.{sim_line}
use Rattle.hw_commands.proofs.workloads.simulated.Goals as goal

-- the whole text, with status 0
abbrev done_with : List ℕ → Ended
done_with text = record { status = 0; text = text }

pub returns-clause-said : goal.returns-clause-said
returns-clause-said c =
    let n = numbers_of c.in_ok-summary.summary in
    let are : n ≡ sim_numbers c.args.number c.args.nodes c.args.steps = numbers_are c.args.number c.args.nodes c.args.steps n c.requires.some c.in_ok-summary.ensures.numbers in
    ap done_with (c.in_ok-text.ensures ∙ ap (λ (m : Numbers). sim_line c.args.nodes c.args.steps m) are)
