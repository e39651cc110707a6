use Rattle.std.proofs.Common.{◌≡◌, Some, None, sym, ap, ◌∙◌}
use Rattle.std.specs.Option.{option_copied}
use Rattle.hw_types.specs.declared.unit.Vertex.{Vertex}
use Rattle.hw_types.specs.declared.unit.Vertex.TheVariants as vertex
use Rattle.hw_types.specs.Real.{CoreState}
use Rattle.hw_core.specs.Readers.{evidence_of}
use Rattle.hw_core.proofs.ToldLaws.{evidence_given, evidence_none, evidence_among}
use Rattle.hw_core.proofs.kept.CoreInner.evidence_against.Goals as goal

pub returns-in-Some-Evidence-clause-evidence : goal.returns-in-Some-Evidence-clause-evidence
returns-in-Some-Evidence-clause-evidence c =
    let core = c.self.inside in
    let k : CoreState = record { config = core.state.config; journal = core.journal.items; asked = core.shown.asked } in
    let w = c.in-Some-Evidence in
    evidence_given k c.args.validator (option_copied c.told_at.result) c.told_at.ensures w.evidence (ap (λ o. option_copied o) w.is ∙ ap (λ (v : Vertex). Some v) w.field-0-is)
    ∙ ap (λ (x : CoreState). evidence_of x c.args.validator) c.self.view_is

pub returns-in-Some-Evidence-clause-fits : goal.returns-in-Some-Evidence-clause-fits
returns-in-Some-Evidence-clause-fits c =
    let core = c.self.inside in
    let k : CoreState = record { config = core.state.config; journal = core.journal.items; asked = core.shown.asked } in
    let w = c.in-Some-Evidence in
    c.self.invariant.fit (vertex.Evidence w.evidence)
    (evidence_among k c.args.validator (option_copied c.told_at.result) c.told_at.ensures w.evidence (ap (λ o. option_copied o) w.is ∙ ap (λ (v : Vertex). Some v) w.field-0-is))

pub returns-in-Some-Unit-clause-evidence : goal.returns-in-Some-Unit-clause-evidence
returns-in-Some-Unit-clause-evidence c =
    let core = c.self.inside in
    let k : CoreState = record { config = core.state.config; journal = core.journal.items; asked = core.shown.asked } in
    let w = c.in-Some-Unit in
    let is : option_copied c.told_at.result ≡ Some (vertex.Unit w.field-0-0) = ap (λ o. option_copied o) w.is ∙ ap (λ (v : Vertex). Some v) w.field-0-is in
    evidence_none k c.args.validator (option_copied c.told_at.result) c.told_at.ensures (λ e h. (let both : Some (vertex.Unit w.field-0-0) ≡ Some (vertex.Evidence e) = sym is ∙ h in absurd cc))
    ∙ ap (λ (x : CoreState). evidence_of x c.args.validator) c.self.view_is

pub returns-in-Some-Endorsement-clause-evidence : goal.returns-in-Some-Endorsement-clause-evidence
returns-in-Some-Endorsement-clause-evidence c =
    let core = c.self.inside in
    let k : CoreState = record { config = core.state.config; journal = core.journal.items; asked = core.shown.asked } in
    let w = c.in-Some-Endorsement in
    let is : option_copied c.told_at.result ≡ Some (vertex.Endorsement w.field-0-0) = ap (λ o. option_copied o) w.is ∙ ap (λ (v : Vertex). Some v) w.field-0-is in
    evidence_none k c.args.validator (option_copied c.told_at.result) c.told_at.ensures (λ e h. (let both : Some (vertex.Endorsement w.field-0-0) ≡ Some (vertex.Evidence e) = sym is ∙ h in absurd cc))
    ∙ ap (λ (x : CoreState). evidence_of x c.args.validator) c.self.view_is

pub returns-in-None-clause-evidence : goal.returns-in-None-clause-evidence
returns-in-None-clause-evidence c =
    let core = c.self.inside in
    let k : CoreState = record { config = core.state.config; journal = core.journal.items; asked = core.shown.asked } in
    let is : option_copied c.told_at.result ≡ None = ap (λ o. option_copied o) c.in-None.is in
    evidence_none k c.args.validator (option_copied c.told_at.result) c.told_at.ensures (λ e h. (let both : None ≡ Some (vertex.Evidence e) = sym is ∙ h in absurd cc))
    ∙ ap (λ (x : CoreState). evidence_of x c.args.validator) c.self.view_is
