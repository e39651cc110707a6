-- A validator's host keeps its line.
use Rattle.std.proofs.Common.{◌≡◌, ℕ, ◌<◌, Bool, true, List, length, Some, None, refl, sym, subst}
use Rattle.hw_types.specs.declared.answers.Plan.{Plan}
use Rattle.hw_types.specs.declared.unit.Signature.{Signature}
use Rattle.hw_types.specs.declared.unit.SignedUnit.{SignedUnit}
use Rattle.hw_types.specs.declared.unit.Vertex.{Vertex}
use Rattle.hw_types.specs.declared.unit.Vertex.TheVariants as vertex
use Rattle.hw_types.specs.Limits.{config_fault}
use Rattle.hw_types.specs.Journal.{received_of, journal_after}
use Rattle.hw_types.specs.Real.{CoreState, setting_of, received_in, after_in}
use Rattle.hw_types.specs.Step.{step}
use Rattle.hw_core.specs.Deliver.{HasCome}
use Rattle.hw_honest.specs.OneLine.{OneLine, BringsNoNew}
use Rattle.hw_honest.specs.Laws.{StepKeepsOneLine, DeliveryKeepsOneLine}

pub planned_keeps : StepKeepsOneLine → (c : CoreState) (me now : ℕ) (value : List ℕ) (p : Plan) (signature : Signature) → HasCome c.config c.journal → config_fault c.config ≡ None → me < length c.config.weights
    → OneLine (setting_of c.config) c.journal me → step (setting_of c.config) (received_in c) me now value ≡ Some p
    → OneLine (setting_of c.config) (after_in c (vertex.Unit (record { unit = p.unit; signature = signature })) true).journal me
planned_keeps keeps c me now value p signature come lawful validator line is =
    let s = setting_of c.config in
    let u : SignedUnit = record { unit = p.unit; signature = signature } in
    let P : List Vertex → Type 0 = λ journal. OneLine s journal me → step s (received_of s journal) me now value ≡ Some p → OneLine s (journal_after s journal (vertex.Unit u, true)) me in
    subst P (sym come.1) (λ l e. keeps s come.0 me now value p u true lawful validator l e refl) line is

pub heard_keeps : DeliveryKeepsOneLine → (c : CoreState) (me : ℕ) (v : Vertex) (verdict : Bool) → HasCome c.config c.journal
    → OneLine (setting_of c.config) c.journal me → BringsNoNew (setting_of c.config) c.journal me v → OneLine (setting_of c.config) (after_in c v verdict).journal me
heard_keeps keeps c me v verdict come line fair =
    let s = setting_of c.config in
    let P : List Vertex → Type 0 = λ journal. OneLine s journal me → BringsNoNew s journal me v → OneLine s (journal_after s journal (v, verdict)) me in
    subst P (sym come.1) (λ l f. keeps s come.0 me v verdict l f) line fair
