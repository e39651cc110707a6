use Rattle.std.proofs.Common.{◌≡◌, ℕ, Some, sym, ap, subst, ◌∙◌, arith}
use Rattle.std.specs.Prelude.{slice_get, Err}
use Rattle.std.specs.Map.{lookup}
use Rattle.std.proofs.lemmas.Bool.{false≢true}
use Rattle.hw_types.specs.declared.config.Config.{Config}
use Rattle.hw_types.specs.declared.unit.Digest.{Digest}
use Rattle.hw_types.specs.declared.unit.SignedUnit.{SignedUnit}
use Rattle.hw_types.specs.declared.unit.Vertex.TheVariants as vertex
use Rattle.hw_types.specs.declared.answers.Cause.TheVariants as cause
use Rattle.hw_types.specs.Graph.{digest_eq}
use Rattle.hw_core.proofs.UnitLaws.{unit_clashes, unit_repeats, unit_full, new_unit}
use Rattle.hw_core.proofs.units.test_named.Goals as goal

pub returns-then-is_same_unit-clause-repeat : goal.returns-then-is_same_unit-clause-repeat
returns-then-is_same_unit-clause-repeat c _ =
    let found = c.in-Some.ensures.found in
    let at = subst (λ (d : Digest). lookup (digest_eq d) c.args.names.now.entries ≡ Some found.0) c.requires.name found.1 in
    unit_repeats c.args.journal.now c.requires.node.0 c.args.state.now c.requires.node.1 c.args.names.now.entries c.requires.table c.args.unit.now c.requires.local c.in-Some.known.now found.0 at found.2 (c.is_same_unit.ensures.same.0 c.if-is_same_unit.true)

pub returns-in-Some-clause-refused : goal.returns-in-Some-clause-refused
returns-in-Some-clause-refused c =
    let found = c.in-Some.ensures.found in
    let at = subst (λ (d : Digest). lookup (digest_eq d) c.args.names.now.entries ≡ Some found.0) c.requires.name found.1 in
    unit_clashes c.args.journal.now c.requires.node.0 c.args.state.now c.requires.node.1 c.args.names.now.entries c.requires.table c.args.unit.now c.requires.local c.in-Some.known.now found.0 at found.2 (λ same. false≢true (sym c.if-is_same_unit.false ∙ c.is_same_unit.ensures.same.1 same))
    ∙ ap (λ (d : Digest). Err (cause.Clash d)) (sym c.requires.name)

pub returns-then-journal-config-clause-refused : goal.returns-then-journal-config-clause-refused
returns-then-journal-config-clause-refused c =
    let none = subst (λ (d : Digest). (n : ℕ) (w : SignedUnit) → lookup (digest_eq d) c.args.names.now.entries ≡ Some n → slice_get c.args.journal.now n ≡ Some (vertex.Unit w) → ⊥) c.requires.name c.in-None.ensures.none in
    let most = ap (λ (config : Config). config.max_records) c.config.ensures.config in
    let full = c.if-journal-config.true in
    unit_full c.args.journal.now c.requires.node.0 c.args.state.now c.requires.node.1 c.args.names.now.entries c.requires.table c.args.unit.now c.requires.local none (omega arith)

pub returns-clause-new : goal.returns-clause-new
returns-clause-new c _ =
    let none = subst (λ (d : Digest). (n : ℕ) (w : SignedUnit) → lookup (digest_eq d) c.args.names.now.entries ≡ Some n → slice_get c.args.journal.now n ≡ Some (vertex.Unit w) → ⊥) c.requires.name c.in-None.ensures.none in
    let most = ap (λ (config : Config). config.max_records) c.config.ensures.config in
    let room = c.if-journal-config.false in
    new_unit c.args.journal.now c.requires.node.0 c.args.state.now c.requires.node.1 c.args.names.now.entries c.requires.table c.args.unit.now c.requires.local none c.args.name.now c.requires.name (omega arith)
