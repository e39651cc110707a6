use Rattle.std.proofs.Common.{◌≡◌, ◌≢◌, ℕ, refl, List, [], ◌∷◌, ◌++◌, length, sym, ap, subst, subst₂, ◌∙◌, arith}
use Rattle.std.proofs.lemmas.List.{length-append}
use Rattle.hw_types.specs.declared.config.Config.{Config}
use Rattle.hw_types.specs.declared.unit.Need.{Need}
use Rattle.hw_types.specs.declared.unit.SignedUnit.{SignedUnit}
use Rattle.hw_types.specs.declared.answers.Receipt.TheVariants as receipt
use Rattle.hw_types.specs.Settled.{missing_of}
use Rattle.hw_dag.specs.Dag.{graph}
use Rattle.hw_dag.specs.Admission.{PreparedUnit, node_prepared}
use Rattle.hw_park.specs.Parked.{Parked}
use Rattle.hw_core.specs.Settle.{known_in}
use Rattle.hw_core.specs.Units.{IsPlaced}
use Rattle.hw_core.proofs.PlaceLaws.{placed_parked}
use Rattle.hw_core.proofs.UnitTakeLaws.{new_fits, new_memory}
use Rattle.hw_core.proofs.UnitBoundLaws.{few_missing, new_full}
use Rattle.hw_core.proofs.WholeLaws.{more_than_none}
use Rattle.hw_core.proofs.fresh.park_unit.Goals as goal

pub returns-then-count-config-clause-refused : goal.returns-then-count-config-clause-refused
returns-then-count-config-clause-refused c =
    let s = c.args.state.now in
    let p = c.args.prepared in
    let count = c.count.ensures in
    let same = c.if-count-config.true in
    let most = ap (λ (g : Config). g.max_parked) c.config.ensures.config in
    new_full c.args.journal.now c.args.park.now s c.requires.node p.signed p.digest c.requires.new (missing_of s.config (known_in s) (graph s.dag) (node_prepared p)) refl (more_than_none _ c.requires.misses) (omega arith)

pub missing-requires : goal.missing-requires
missing-requires c =
    let s = c.args.state.now in
    let p = c.args.prepared in
    subst (λ (u : SignedUnit). length u.unit.panorama ≡ length s.config.weights) (sym c.signed.ensures) (new_fits c.args.journal.now c.args.park.now s c.requires.node p.signed p.digest c.requires.new).length_is

pub returns-in_default-clause-refused : goal.returns-in_default-clause-refused
returns-in_default-clause-refused c = new_memory c.args.journal.now c.args.park.now c.args.state.now c.requires.node c.args.prepared.signed c.args.prepared.digest c.requires.new

pub returns-in-Ok-park-clause-placed : goal.returns-in-Ok-park-clause-placed
returns-in-Ok-park-clause-placed c rules are =
    let s = c.args.state.now in
    let p = c.args.prepared in
    let park = c.args.park.now in
    let needs = c.in-Ok.needs.items in
    let needs_are = c.in-Ok.ensures p.digest ∙ ap (λ (u : SignedUnit). missing_of s.config (known_in s) (graph s.dag) (record { digest = p.digest; unit = u.unit })) c.signed.ensures in
    let some : needs ≢ [] = λ none. c.requires.misses (sym needs_are ∙ none) in
    let parked = c.in-Ok-park.ensures.parked ∙ ap (λ (ns : List Need). record park { waiting = park.waiting ++ record { needs = ns; item = p } ∷ [] }) c.deref.ensures.value in
    let long = c.in-Ok.needs.ok in
    let many = c.len.ensures in
    let same : length needs ≡ c.len.result = omega arith in
    subst₂ (λ (k : Parked PreparedUnit) (n : ℕ). IsPlaced s (length park.waiting) c.args.journal.now p.signed s k rules (receipt.Parked n)) (sym parked) same
    (placed_parked c.args.journal.now park s c.requires.node p c.requires.new needs needs_are some c.in-Ok-park.ensures.room c.requires.room rules are)

pub returns-in-Ok-park-clause-longer : goal.returns-in-Ok-park-clause-longer
returns-in-Ok-park-clause-longer c =
    let parked = ap (λ (k : Parked PreparedUnit). length k.waiting) c.in-Ok-park.ensures.parked in
    let long = length-append c.args.park.now.waiting (record { needs = c.deref.result.now; item = c.args.prepared } ∷ []) in
    omega arith

pub returns-clause-refused : goal.returns-clause-refused
returns-clause-refused c = new_memory c.args.journal.now c.args.park.now c.args.state.now c.requires.node c.args.prepared.signed c.args.prepared.digest c.requires.new

pub overflow_cast-result : goal.overflow_cast-result
overflow_cast-result c =
    let s = c.args.state.now in
    let p = c.args.prepared in
    let few = few_missing s.config (known_in s) (graph s.dag) (node_prepared p) c.requires.fits in
    let needs_are = c.in-Ok.ensures p.digest ∙ ap (λ (u : SignedUnit). missing_of s.config (known_in s) (graph s.dag) (record { digest = p.digest; unit = u.unit })) c.signed.ensures in
    let same = ap (λ (ns : List Need). length ns) needs_are in
    let long = c.len.ensures in
    let ok = c.in-Ok.needs.ok in
    omega arith
