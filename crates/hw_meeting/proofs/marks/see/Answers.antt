use Rattle.std.proofs.Common.{◌≡◌, ◌∷◌, [], ◌++◌, List, None, sym, ap, ◌∙◌, subst}
use Rattle.hw_types.specs.declared.unit.Digest.{Digest}
use Rattle.hw_types.specs.declared.unit.Vertex.{Vertex}
use Rattle.hw_types.specs.Graph.{Node}
use Rattle.hw_types.specs.Rules.{local_rule}
use Rattle.hw_types.specs.Journal.{named}
use Rattle.hw_types.specs.Real.{setting_of}
use Rattle.hw_types.specs.Spelling.{digest_of}
use Rattle.hw_types.specs.laws.StateLaws.{units_in}
use Rattle.hw_meeting.specs.Lanes.{AreMarks}
use Rattle.hw_meeting.proofs.LocalLaws.{keeps_rules, creator_below, one_unit}
use Rattle.hw_meeting.proofs.marks.see.Goals as goal

pub see_unit-requires-clause-creator : goal.see_unit-requires-clause-creator
see_unit-requires-clause-creator c =
    let keeps = keeps_rules (local_rule c.args.config.now c.args.instance.now c.in-Unit.signed.unit) c.local.result c.local.ensures (sym c.is_ok.ensures.value ∙ c.if-is_ok.true) in
    rw c.requires.validators (creator_below c.args.config.now c.args.instance.now c.in-Unit.signed.unit keeps)

pub returns-then-is_ok : goal.returns-then-is_ok
returns-then-is_ok c = λ units are.
    let s = setting_of c.args.config.now in
    let u = c.in-Unit.signed in
    let keeps = keeps_rules (local_rule c.args.config.now c.args.instance.now u.unit) c.local.result c.local.ensures (sym c.is_ok.ensures.value ∙ c.if-is_ok.true) in
    let here : local_rule s.config s.instance u.unit ≡ None = subst (λ (i : Digest). local_rule c.args.config.now i u.unit ≡ None) c.requires.instance keeps in
    let one : units_in s (c.args.vertex.now ∷ []) ≡ named s u.unit ∷ [] = ap (λ (v : Vertex). units_in s (v ∷ [])) c.in-Unit.is ∙ one_unit s u here in
    subst (λ (us : List Node). AreMarks c.args.dag.now c.args.tips.now (units ++ us) c.see_unit.new.marks) (sym one) (c.see_unit.ensures units (digest_of u.unit) are)
