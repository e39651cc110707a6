use Rattle.std.proofs.Common.{List, ◌∷◌, [], inl, inr, refl, ap, subst, sym, ◌∙◌, length, map, arith, append-nil}
use Rattle.std.proofs.lemmas.Grind.{common_steps}
use Rattle.std.proofs.lemmas.List.Sums.{fold-append}
use Rattle.sha2.specs.Sha256.{sha256}
use Rattle.hw_types.specs.Spelling.{unit_bytes}
use Rattle.hw_types.specs.declared.unit.WireUnit.{WireUnit}
use Rattle.hw_types.specs.Below.{Among}
use Rattle.hw_cluster.specs.Lanes.{LanesState, with_unit}
use Rattle.hw_cluster.specs.Made.{AreOurs}
use Rattle.hw_cluster.proofs.MadeLaws.{hash_of, notes_length, name_is, next_of}
use Rattle.hw_cluster.proofs.made.send_all.Goals as goal

pub digests_of-requires : goal.digests_of-requires
digests_of-requires c = λ u m. (c.requires u (subst (λ (us : List WireUnit). Among u us) c.as_slice.ensures.value m)).0

pub loop-unit-init : goal.loop-unit-init
loop-unit-init c = record {
  noted = refl;
  sent = sym (append-nil c.args.sent.now.items);
  ours = subst (λ (us : List WireUnit). AreOurs (length c.args.lanes.now.last) us) (sym c.into_iter-unit-iterator.ensures.into_iter_gives.0) c.requires;
  digests = c.in_ok-digests.ensures
      ∙ ap (map (λ (u : WireUnit). sha256 (unit_bytes u))) (c.as_slice.ensures.value ∙ sym c.into_iter-unit-iterator.ensures.into_iter_gives.0);
}

pub note-requires-clause-creator : goal.note-requires-clause-creator
note-requires-clause-creator c =
    let below = (c.loop-unit.invariant.ours c.in-Some.unit (subst (λ (us : List WireUnit). Among c.in-Some.unit us) (sym c.in-Some.ensures.steps.0) (inl refl))).1 in
    let same = ap (λ (l : LanesState). length l.last) c.loop-unit.invariant.noted ∙ notes_length c.args.lanes.now c.loop-unit.yielded in
    omega arith

pub note-requires-clause-name : goal.note-requires-clause-name
note-requires-clause-name c =
    let next = next_of c.in_ok-digests.digests.items c.loop-unit.place c.in-Some.unit c.next.new.self.rest.items (c.loop-unit.invariant.digests ∙ ap (map hash_of) c.in-Some.ensures.steps.0) in
    name_is c.in-Some.unit c.index.result.now (c.index.ensures ∙ next.1 c.index.result.now)

pub made-requires : goal.made-requires
made-requires c =
    let next = next_of c.in_ok-digests.digests.items c.loop-unit.place c.in-Some.unit c.next.new.self.rest.items (c.loop-unit.invariant.digests ∙ ap (map hash_of) c.in-Some.ensures.steps.0) in
    name_is c.in-Some.unit c.index.result.now (c.index.ensures ∙ next.1 c.index.result.now)

pub loop-unit-preserved : goal.loop-unit-preserved
loop-unit-preserved c = record {
  noted = c.note.ensures.noted ∙ ap (λ (l : LanesState). with_unit l c.in-Some.unit) c.loop-unit.invariant.noted ∙ sym (fold-append with_unit c.args.lanes.now c.loop-unit.yielded (c.in-Some.unit ∷ []));
  sent = grind (arith, common_steps, c.loop-unit.invariant.sent);
  ours = λ u m. c.loop-unit.invariant.ours u (subst (λ (us : List WireUnit). Among u us) (sym c.in-Some.ensures.steps.0) (inr m));
  digests = (next_of c.in_ok-digests.digests.items c.loop-unit.place c.in-Some.unit c.next.new.self.rest.items (c.loop-unit.invariant.digests ∙ ap (map hash_of) c.in-Some.ensures.steps.0)).2;
}
