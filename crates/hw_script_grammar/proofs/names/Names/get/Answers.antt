use Rattle.std.proofs.Common.{ℕ, ◌<◌, List, length, refl, subst, Some, sym, ap, ◌∙◌}
use Rattle.std.specs.Option.{option_copied}
use Rattle.std.proofs.lemmas.Option.{slice_get_read}
use Rattle.hw_script_grammar.specs.declared.named.Named.{Named}
use Rattle.hw_script_grammar.specs.Names.{named_as}
use Rattle.hw_script_grammar.proofs.FitLaws.{fit_as}
use Rattle.hw_script_grammar.proofs.PlaceLaws.{named_there, named_nowhere}
use Rattle.hw_script_grammar.proofs.names.Names.get.Goals as goal

pub returns-in_err-place-clause-named : goal.returns-in_err-place-clause-named
returns-in_err-place-clause-named c =
    ap option_copied c.from_residual.ensures
    ∙ sym (named_nowhere c.self.inside.by_name.entries c.self.inside.items.items c.args.name.now c.self.invariant.1 (sym c.in_err-place.ensures.value))
    ∙ ap (λ (ns : List Named). named_as ns c.args.name.now) c.self.view_is

pub index-requires : goal.index-requires
index-requires c =
    subst (λ (n : ℕ). c.in_ok-place.place.now < n) (sym c.self.inside.items.ok.0)
    (named_there c.self.inside.by_name.entries c.self.inside.items.items c.args.name.now c.in_ok-place.place.now c.self.invariant.1 (sym c.in_ok-place.ensures.value)).0

pub returns-clause-named : goal.returns-clause-named
returns-clause-named c =
    let there = named_there c.self.inside.by_name.entries c.self.inside.items.items c.args.name.now c.in_ok-place.place.now c.self.invariant.1 (sym c.in_ok-place.ensures.value) in
    sym (there.1 ∙ slice_get_read c.self.inside.items.items (length c.self.inside.items.items) c.in_ok-place.place.now c.index.result.now refl there.0 c.index.ensures)
    ∙ ap (λ (ns : List Named). named_as ns c.args.name.now) c.self.view_is

pub returns-clause-fits : goal.returns-clause-fits
returns-clause-fits c =
    let there = named_there c.self.inside.by_name.entries c.self.inside.items.items c.args.name.now c.in_ok-place.place.now c.self.invariant.1 (sym c.in_ok-place.ensures.value) in
    fit_as c.self.inside.items.items c.args.name.now (Some c.index.result) c.self.invariant.0
    (sym (there.1 ∙ slice_get_read c.self.inside.items.items (length c.self.inside.items.items) c.in_ok-place.place.now c.index.result.now refl there.0 c.index.ensures))
