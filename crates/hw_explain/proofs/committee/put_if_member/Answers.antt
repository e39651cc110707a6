use Rattle.std.proofs.Common.{sym, ◌∙◌}
use Rattle.hw_explain.proofs.CommitteeLaws.{part_some, part_none, on_ok}
use Rattle.hw_explain.proofs.committee.put_if_member.Goals as goal

pub returns-in-Some : goal.returns-in-Some
returns-in-Some c = on_ok c.put_member.result (λ wrote. wrote ∙ part_some c.args.search.now c.args.level c.args.validator c.in-Some.field-0 c.args.text.now (sym c.start.ensures ∙ c.in-Some.is)) c.put_member.ensures

pub returns-in-None : goal.returns-in-None
returns-in-None c = part_none c.args.search.now c.args.level c.args.validator c.args.text.now (sym c.start.ensures ∙ c.in-None.is)
