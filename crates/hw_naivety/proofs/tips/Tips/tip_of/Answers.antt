use Rattle.std.proofs.Common.{sym, ◌∙◌}
use Rattle.hw_naivety.proofs.TipLaws.{absent_tip}
use Rattle.hw_naivety.proofs.tips.Tips.tip_of.Goals as goal

pub returns-in-Absent-clause-tip : goal.returns-in-Absent-clause-tip
returns-in-Absent-clause-tip c =
    let s = c.requires.sight in
    absent_tip c.args.sight.now.dag.now s.graph_is c.args.sight.now.panorama.now s.panorama_is c.args.sight.now.endorsed.now c.args.no.0 c.requires.unit c.args.creator (sym c.get.ensures ∙ c.in-Absent.is)

pub unreachable-requires : goal.unreachable-requires
unreachable-requires c = c.requires.forkless c.args.creator c.in-Err.field-0 c.in-Err.ensures.fork
