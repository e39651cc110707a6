use Rattle.std.proofs.Common.{inl, inr, sym, ◌∙◌, arith}
use Rattle.hw_c.proofs.DueLaws.{moment_begins, moment_ends, moment_ends_later}
use Rattle.hw_c.proofs.due.next_moment.Goals as goal

pub end-end-requires-clause-round : goal.end-end-requires-clause-round
end-end-requires-clause-round c = let begins = moment_begins c.args.config.now c.args.moment.now c.requires.moment in let now = c.requires.now in omega arith

pub first_later-requires : goal.first_later-requires
first_later-requires c = moment_ends_later c.args.config.now c.args.moment.now c.requires.moment c.end-end.result c.end-end.ensures

pub returns-then-is_for_nothing : goal.returns-then-is_for_nothing
returns-then-is_for_nothing c =
    let m = c.args.moment.now in
    let ends = c.end-end.ensures ∙ moment_ends c.args.config.now m c.requires.moment in
    record {
      later = moment_ends_later c.args.config.now m c.requires.moment c.end-end.result c.end-end.ensures;
      within = omega (arith, ends);
      quiet = inl (sym c.is_for_nothing.ensures ∙ c.if-is_for_nothing.true);
      is = inl ends;
    }

pub returns-else-is_for_nothing : goal.returns-else-is_for_nothing
returns-else-is_for_nothing c =
    let m = c.args.moment.now in
    let ends = c.end-end.ensures ∙ moment_ends c.args.config.now m c.requires.moment in
    let within = c.first_later.ensures.within in
    record {
      later = c.first_later.ensures.later;
      within = omega (arith, ends);
      quiet = inr c.first_later.ensures.free;
      is = elim c.first_later.ensures.is [ inl end ↦ inl (end ∙ ends) | inr time ↦ inr (sym c.is_for_nothing.ensures ∙ c.if-is_for_nothing.false, time) ];
    }
