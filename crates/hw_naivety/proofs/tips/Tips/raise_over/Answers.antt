use Rattle.std.proofs.Common.{Some, sym, ◌∙◌}
use Rattle.hw_naivety.proofs.TipLaws.{candidate_known, raised_result, raised_none}
use Rattle.hw_naivety.proofs.tips.Tips.raise_over.Goals as goal

pub raise-requires-clause-known : goal.raise-requires-clause-known
raise-requires-clause-known c =
    let s = c.requires.sight in
    (candidate_known c.args.sight.now.dag.now s.graph_is c.args.sight.now.panorama.now s.panorama_is c.args.sight.now.endorsed.now c.args.sight.now.validators s.validators_are c.args.self.now c.requires.tips c.requires.lists
    c.args.slot c.in-Correct.cited c.args.creator (sym c.get.ensures ∙ c.in-Correct.is) c.requires.creator c.in-Some.candidate (sym c.candidate.ensures ∙ c.in-Some.is)).0

pub raise-requires-clause-creator : goal.raise-requires-clause-creator
raise-requires-clause-creator c =
    let s = c.requires.sight in
    (candidate_known c.args.sight.now.dag.now s.graph_is c.args.sight.now.panorama.now s.panorama_is c.args.sight.now.endorsed.now c.args.sight.now.validators s.validators_are c.args.self.now c.requires.tips c.requires.lists
    c.args.slot c.in-Correct.cited c.args.creator (sym c.get.ensures ∙ c.in-Correct.is) c.requires.creator c.in-Some.candidate (sym c.candidate.ensures ∙ c.in-Some.is)).1

pub raise-requires-clause-below : goal.raise-requires-clause-below
raise-requires-clause-below c =
    let s = c.requires.sight in
    (candidate_known c.args.sight.now.dag.now s.graph_is c.args.sight.now.panorama.now s.panorama_is c.args.sight.now.endorsed.now c.args.sight.now.validators s.validators_are c.args.self.now c.requires.tips c.requires.lists
    c.args.slot c.in-Correct.cited c.args.creator (sym c.get.ensures ∙ c.in-Correct.is) c.requires.creator c.in-Some.candidate (sym c.candidate.ensures ∙ c.in-Some.is)).2

pub returns-in-Some-clause-raised : goal.returns-in-Some-clause-raised
returns-in-Some-clause-raised c =
    let s = c.requires.sight in
    raised_result c.args.sight.now.dag.now s.graph_is c.args.sight.now.panorama.now s.panorama_is c.args.sight.now.endorsed.now c.args.sight.now.validators s.validators_are c.args.self.now c.requires.tips c.requires.lists
    c.args.slot c.in-Correct.cited c.args.creator (sym c.get.ensures ∙ c.in-Correct.is) c.requires.creator c.args.tip (Some c.in-Some.candidate) c.raise.result (sym c.candidate.ensures ∙ c.in-Some.is) c.raise.ensures.raised

pub returns-in-None-clause-raised : goal.returns-in-None-clause-raised
returns-in-None-clause-raised c =
    let s = c.requires.sight in
    raised_none c.args.sight.now.dag.now s.graph_is c.args.sight.now.panorama.now s.panorama_is c.args.sight.now.endorsed.now c.args.sight.now.validators s.validators_are c.args.self.now c.requires.tips c.requires.lists
    c.args.slot c.in-Correct.cited c.args.creator (sym c.get.ensures ∙ c.in-Correct.is) c.requires.creator c.args.tip (sym c.candidate.ensures ∙ c.in-None.is) c.requires.tip
