use Rattle.std.proofs.Common.{ℕ, ◌<◌, List, length, refl, subst, sym, ap, ◌∙◌}
use Rattle.std.proofs.lemmas.Option.{slice_get_read}
use Rattle.hw_script_grammar.specs.declared.named.Named.{Named}
use Rattle.hw_script_grammar.specs.Names.{name_of, name_or_nothing}
use Rattle.hw_script_grammar.proofs.PlaceLaws.{digest_there, digest_nowhere}
use Rattle.hw_script_grammar.proofs.names.Names.name_of.Goals as goal

pub index-requires : goal.index-requires
index-requires c =
    subst (λ (n : ℕ). c.in-Some.place.now < n) (sym c.self.inside.items.ok.0)
    (digest_there c.self.inside.by_digest.entries c.self.inside.items.items c.args.digest.now c.in-Some.place.now c.self.invariant.2 (sym c.in-Some.ensures.value)).0

pub returns-in-None : goal.returns-in-None
returns-in-None c =
    sym (digest_nowhere c.self.inside.by_digest.entries c.self.inside.items.items c.args.digest.now c.self.invariant.2 (sym c.in-None.ensures.value))
    ∙ ap (λ (ns : List Named). name_of ns c.args.digest.now) c.self.view_is

pub returns-in-Some : goal.returns-in-Some
returns-in-Some c =
    let there = digest_there c.self.inside.by_digest.entries c.self.inside.items.items c.args.digest.now c.in-Some.place.now c.self.invariant.2 (sym c.in-Some.ensures.value) in
    c.as_slice.ensures
    ∙ sym (there.1 ∙ ap name_or_nothing (slice_get_read c.self.inside.items.items (length c.self.inside.items.items) c.in-Some.place.now c.index.result.now refl there.0 c.index.ensures))
    ∙ ap (λ (ns : List Named). name_of ns c.args.digest.now) c.self.view_is
