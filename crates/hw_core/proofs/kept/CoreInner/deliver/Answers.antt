use Rattle.std.proofs.Common.{◌≡◌, Bool, false, sym, ap, subst, ◌∙◌}
use Rattle.hw_types.specs.Real.{answer_in, setting_of}
use Rattle.hw_core.specs.declared.kept.Refused.{Refused}
use Rattle.hw_core.specs.Deliver.{IsRefusal}
use Rattle.hw_core.proofs.AnswerLaws.{answer_unsigned}
use Rattle.hw_core.proofs.kept.CoreInner.deliver.Goals as goal

pub returns-then-not-verdict-clause-refused : goal.returns-then-not-verdict-clause-refused
returns-then-not-verdict-clause-refused c =
    let wrong : c.args.verdict ≡ false = c.if-not-verdict.true in
    subst (λ (r : Refused). IsRefusal r.cause (answer_in c.args.self.now c.args.vertex c.args.verdict)) (sym c.sent_back.ensures)
    (ap (λ (b : Bool). answer_in c.args.self.now c.args.vertex b) wrong ∙ answer_unsigned (setting_of c.args.self.now.config) c.args.self.now.journal c.args.vertex)
