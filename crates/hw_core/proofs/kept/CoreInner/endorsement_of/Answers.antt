use Rattle.std.proofs.Common.{◌≡◌, Some, None, sym, ap, ◌∙◌}
use Rattle.std.specs.Prelude.{slice_get}
use Rattle.std.specs.Option.{option_copied}
use Rattle.hw_types.specs.declared.unit.Vertex.{Vertex}
use Rattle.hw_types.specs.declared.unit.Vertex.TheVariants as vertex
use Rattle.hw_types.specs.Real.{CoreState}
use Rattle.hw_core.specs.Readers.{endorsements_of}
use Rattle.hw_core.proofs.ToldLaws.{endorsement_given, endorsement_none}
use Rattle.hw_core.proofs.kept.CoreInner.endorsement_of.Goals as goal

pub returns-in-Some-Endorsement : goal.returns-in-Some-Endorsement
returns-in-Some-Endorsement c =
    let core = c.self.inside in
    let k : CoreState = record { config = core.state.config; journal = core.journal.items; asked = core.shown.asked } in
    let w = c.in-Some-Endorsement in
    endorsement_given k c.args.unit.now c.args.place (option_copied c.told_at.result) c.told_at.ensures w.endorsement (ap (λ o. option_copied o) w.is ∙ ap (λ (v : Vertex). Some v) w.field-0-is)
    ∙ ap (λ (x : CoreState). slice_get (endorsements_of x c.args.unit.now) c.args.place) c.self.view_is

pub returns-in-Some-Unit : goal.returns-in-Some-Unit
returns-in-Some-Unit c =
    let core = c.self.inside in
    let k : CoreState = record { config = core.state.config; journal = core.journal.items; asked = core.shown.asked } in
    let w = c.in-Some-Unit in
    let is : option_copied c.told_at.result ≡ Some (vertex.Unit w.field-0-0) = ap (λ o. option_copied o) w.is ∙ ap (λ (v : Vertex). Some v) w.field-0-is in
    endorsement_none k c.args.unit.now c.args.place (option_copied c.told_at.result) c.told_at.ensures (λ e h. (let both : Some (vertex.Unit w.field-0-0) ≡ Some (vertex.Endorsement e) = sym is ∙ h in absurd cc))
    ∙ ap (λ (x : CoreState). slice_get (endorsements_of x c.args.unit.now) c.args.place) c.self.view_is

pub returns-in-Some-Evidence : goal.returns-in-Some-Evidence
returns-in-Some-Evidence c =
    let core = c.self.inside in
    let k : CoreState = record { config = core.state.config; journal = core.journal.items; asked = core.shown.asked } in
    let w = c.in-Some-Evidence in
    let is : option_copied c.told_at.result ≡ Some (vertex.Evidence w.field-0-0) = ap (λ o. option_copied o) w.is ∙ ap (λ (v : Vertex). Some v) w.field-0-is in
    endorsement_none k c.args.unit.now c.args.place (option_copied c.told_at.result) c.told_at.ensures (λ e h. (let both : Some (vertex.Evidence w.field-0-0) ≡ Some (vertex.Endorsement e) = sym is ∙ h in absurd cc))
    ∙ ap (λ (x : CoreState). slice_get (endorsements_of x c.args.unit.now) c.args.place) c.self.view_is

pub returns-in-None : goal.returns-in-None
returns-in-None c =
    let core = c.self.inside in
    let k : CoreState = record { config = core.state.config; journal = core.journal.items; asked = core.shown.asked } in
    let is : option_copied c.told_at.result ≡ None = ap (λ o. option_copied o) c.in-None.is in
    endorsement_none k c.args.unit.now c.args.place (option_copied c.told_at.result) c.told_at.ensures (λ e h. (let both : None ≡ Some (vertex.Endorsement e) = sym is ∙ h in absurd cc))
    ∙ ap (λ (x : CoreState). slice_get (endorsements_of x c.args.unit.now) c.args.place) c.self.view_is
