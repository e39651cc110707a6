use Rattle.std.proofs.Common.{◌≡◌, ◌<◌, ◌≤◌, ℕ, [], get_or, sym, subst, ◌∙◌, inl, inr, arith}
use Rattle.std.proofs.lemmas.Bool.{cases_lt}
use Rattle.std.proofs.lemmas.Bool.Decides.{nat_tests}
use Rattle.std.specs.Ordering.{ord_max, nat_cmp}
use Rattle.hw_dag.specs.Dag.{unit_at}
use Rattle.hw_dag.specs.Lists.{HasNameAmong}
use Rattle.hw_dag.proofs.PlaceLaws.{among_place, place_is_among}
use Rattle.hw_dag.proofs.graph.Dag.open_top.Goals as goal

max_left : (a b : ℕ) → b ≤ a → ord_max nat_cmp a b ≡ a
max_left a b le = grind (arith, nat_tests)

max_right : (a b : ℕ) → a < b → ord_max nat_cmp a b ≡ b
max_right a b less = grind (arith, nat_tests)

no_less : (a b : ℕ) → (a ≤ ord_max nat_cmp a b) × (b ≤ ord_max nat_cmp a b)
no_less a b = (grind (arith, nat_tests), grind (arith, nat_tests))

pub returns-in_err-open_above-clause-told : goal.returns-in_err-open_above-clause-told
returns-in_err-open_above-clause-told c =
    let told = c.in_err-open_above.ensures.told in
    rw c.from_residual.ensures (record {
      name = get_or c.args.names.now c.loop-name.name-index (record { 0 = [] });
      among = place_is_among (record { 0 = [] }) c.args.names.now c.loop-name.name-index c.loop-name-test.true;
      number = told.0;
      known = told.1;
      named = told.2;
      seen = told.3;
    })

pub loop-name-preserved : goal.loop-name-preserved
loop-name-preserved c =
    let i = c.loop-name.invariant in
    let next = c.in_ok-open_above.field-0 in
    let above = c.in_ok-open_above.ensures.open in
    let item = place_is_among (record { 0 = [] }) c.args.names.now c.loop-name.name-index c.loop-name-test.true in
    let kept : c.loop-name.top ≤ c.max-top.result = subst (λ (t : ℕ). c.loop-name.top ≤ t) (sym c.max-top.ensures) (no_less c.loop-name.top next).0 in
    let more : next ≤ c.max-top.result = subst (λ (t : ℕ). next ≤ t) (sym c.max-top.ensures) (no_less c.loop-name.top next).1 in (
      (λ k n lt known e s. elim (cases_lt k c.loop-name.name-index) [
        | inl less ↦
            let within = i.0 k n less known e s in
            let end = within.1 in
            (within.0, omega arith)
        | inr later ↦
            let at : k ≡ c.loop-name.name-index = omega arith in
            let within = above.within n known (subst (λ (j : ℕ). (unit_at c.args.self.now n).digest ≡ get_or c.args.names.now j (record { 0 = [] })) at e) s in
            let end = within.1 in
            (within.0, omega arith)
      ]),
      (λ some. elim (cases_lt c.loop-name.top next) [
        | inl less ↦
            let one = above.one (omega arith) in
            subst (λ (t : ℕ). HasNameAmong c.args.self.now c.args.names.now t) (sym (c.max-top.ensures ∙ max_right c.loop-name.top next less)) (record { name = _; among = item; known = one.0; named = one.1 })
        | inr no_more ↦
            let same : c.max-top.result ≡ c.loop-name.top = c.max-top.ensures ∙ max_left c.loop-name.top next no_more in
            subst (λ (t : ℕ). HasNameAmong c.args.self.now c.args.names.now t) (sym same) (i.1 (omega arith))
      ]),
    )

pub returns-clause-open : goal.returns-clause-open
returns-clause-open c = record {
  within = λ n h s.
      let k = among_place (record { 0 = [] }) h.name c.args.names.now h.among in
      let within : k.0 < c.loop-name.name-index = (let lt = k.1 in let over = c.loop-name-test.false in omega arith) in
      c.loop-name.invariant.0 k.0 n within h.known (h.named ∙ sym k.2) s;
  one = c.loop-name.invariant.1;
}
