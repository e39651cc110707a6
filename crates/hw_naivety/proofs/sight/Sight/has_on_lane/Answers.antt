use Rattle.std.proofs.Common.{sym, ◌∙◌}
use Rattle.hw_dag.proofs.LaneLaws.{lane_is_seen}
use Rattle.hw_naivety.proofs.sight.Sight.has_on_lane.Goals as goal

pub returns-in-Correct : goal.returns-in-Correct
returns-in-Correct c = λ t.
    let s = c.requires.sight in
    let e = sym c.get.ensures ∙ c.in-Correct.is in
    record {
      slot = c.signed.result.now.unit.creator;
      cited = c.in-Correct.cited;
      observed = e;
      seen = lane_is_seen c.args.self.now.dag.now s.graph_is c.args.no.0 c.in-Correct.cited.0 c.requires.known (s.panorama_is.known c.signed.result.now.unit.creator c.in-Correct.cited e) (sym c.on_lane.ensures ∙ t);
    }
