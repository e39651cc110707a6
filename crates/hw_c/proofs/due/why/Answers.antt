use Rattle.std.proofs.Common.{◌∙◌}
use Rattle.hw_c.proofs.DueLaws.{why_found}
use Rattle.hw_c.proofs.due.why.Goals as goal

pub returns : goal.returns
returns c =
    c.why_by.ensures
    ∙ why_found c.args.config.now c.args.moment.now c.requires.moment c.args.dag.now c.args.observed.now c.args.me c.get-own.result c.part.result c.time.result
    c.is_faulty.result c.is_held-held.result c.is_early.result c.get-own.ensures c.part.ensures c.time.ensures (c.is_faulty.ensures c.args.dag.now) c.is_held-held.ensures c.is_early.ensures
