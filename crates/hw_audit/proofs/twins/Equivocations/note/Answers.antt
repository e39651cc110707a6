use Rattle.std.proofs.Common.{sym, subst, ◌∙◌}
use Rattle.hw_types.proofs.WordsLaws.{never_both}
use Rattle.hw_audit.specs.declared.twins.LanePlace.{LanePlace}
use Rattle.hw_audit.specs.Twins.{IsLowered}
use Rattle.hw_audit.proofs.NotedLaws.{least_kept, least_step, noted_hidden}
use Rattle.hw_audit.proofs.twins.Equivocations.note.Goals as goal

pub returns-then-not-is_shown-clause-noted : goal.returns-then-not-is_shown-clause-noted
returns-then-not-is_shown-clause-noted c units noted = noted_hidden units c.args.unit.now (sym c.is_shown.ensures ∙ c.if-not-is_shown.true) c.args.self.now.twins.entries c.args.self.now.least.items noted

pub returns-then-branch-clause-noted : goal.returns-then-branch-clause-noted
returns-then-branch-clause-noted c units noted = record {
  twins = c.in_ok-note_twins.ensures.twins units noted.twins;
  least_are =
      least_step units c.args.unit.now c.args.self.now.least.items c.lower.new.least.items ((c.in_ok-note_twins.ensures.two units noted.twins).0 c.if-branch.true)
      (subst (λ (p : LanePlace). IsLowered c.args.self.now.least.items c.lower.new.least.items p.creator p.seq) c.place-place.ensures c.lower.ensures) noted.least_are;
}

pub returns-else-branch-clause-noted : goal.returns-else-branch-clause-noted
returns-else-branch-clause-noted c units noted = record {
  twins = c.in_ok-note_twins.ensures.twins units noted.twins;
  least_are = least_kept units c.args.unit.now c.args.self.now.least.items (λ f. never_both c.in_ok-note_twins.field-0 ((c.in_ok-note_twins.ensures.two units noted.twins).1 f) c.if-branch.false) noted.least_are;
}
