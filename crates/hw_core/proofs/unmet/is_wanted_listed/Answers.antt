use Rattle.std.proofs.Common.{◌≡◌, Bool, true, false, not, map, refl, sym, ap, ◌∙◌}
use Rattle.std.specs.Prelude.{◌||◌}
use Rattle.std.specs.List.{list_any}
use Rattle.hw_types.specs.declared.unit.Need.TheVariants as need
use Rattle.hw_types.specs.Settled.{need_eq}
use Rattle.hw_types.specs.contracts.unit.DigestPartialEq.TheImpl as digest
use Rattle.hw_core.specs.Missing.{is_met_in}
use Rattle.hw_core.proofs.UnmetLaws.{listed_any}
use Rattle.hw_core.proofs.unmet.is_wanted_listed.Goals as goal

or_false : (b : Bool) → (b || false) ≡ b
or_false true = refl
or_false false = refl

or_true : (b : Bool) → not (b || true) ≡ false
or_true true = refl
or_true false = refl

pub returns-then-not-is_met : goal.returns-then-not-is_met
returns-then-not-is_met c =
    let d = c.args.digest in
    let listed = list_any (λ m. need_eq m (need.Endorsed d)) (map need.Endorsed c.args.before.now) in
    let seen : c.contains.result ≡ list_any (λ m. need_eq m (need.Endorsed d)) (map need.Endorsed c.args.before.now) = c.contains.ensures.value ∙ listed_any digest.eq-value.it (λ a b. refl) d c.args.before.now in
    let unmet : is_met_in c.args.state.now (need.Endorsed d) ≡ false = sym c.is_met.ensures ∙ c.if-not-is_met.true in
    ap not (seen ∙ sym (or_false listed)) ∙ ap (λ (b : Bool). not (listed || b)) (sym unmet)

pub returns-else-not-is_met : goal.returns-else-not-is_met
returns-else-not-is_met c =
    let d = c.args.digest in
    let listed = list_any (λ m. need_eq m (need.Endorsed d)) (map need.Endorsed c.args.before.now) in
    let met : is_met_in c.args.state.now (need.Endorsed d) ≡ true = sym c.is_met.ensures ∙ c.if-not-is_met.false in
    ap not c.if-not-is_met.false ∙ sym (or_true listed) ∙ ap (λ (b : Bool). not (listed || b)) (sym met)
