use Rattle.std.proofs.Common.{cond, Some, Option, is_some, ap, ◌∙◌}
use Rattle.std.specs.Map.{lookup}
use Rattle.hw_audit.specs.declared.twins.LanePlace.{LanePlace}
use Rattle.hw_audit.specs.Held.{HeldUnit}
use Rattle.hw_audit.specs.Twins.{place_of, place_eq, shown_at}
use Rattle.hw_audit.proofs.NotedLaws.{twins_step, two_told, copied_some}
use Rattle.hw_audit.proofs.twins.note_twins.Goals as goal

pub returns-clause-twins : goal.returns-clause-twins
returns-clause-twins c units table =
    twins_step units c.args.unit.now c.requires c.args.twins.now.entries _ c.in_ok-known.known table c.in_ok-known.ensures
    (λ p. c.in_ok-insert.ensures.updates.0 p ∙ ap (λ (q : LanePlace). cond (place_eq q p) (Some c.in_ok-known.known) (lookup (place_eq p) c.args.twins.now.entries)) c.place.ensures)

pub returns-clause-two : goal.returns-clause-two
returns-clause-two c units table =
    two_told units c.args.unit.now c.requires c.in_ok-known.known c.is_some-two.result
    (c.is_some-two.ensures ∙ copied_some (λ h. h.now) c.second.result ∙ ap (λ (o : Option HeldUnit). is_some o) c.second.ensures)
    (c.in_ok-known.ensures (shown_at (place_of c.args.unit.now) units) (table (place_of c.args.unit.now)))
