use Rattle.std.proofs.Common.{◌≡◌, ◌<◌, ℕ, [], get_or, sym, subst, ◌∙◌, inl, inr, arith}
use Rattle.std.proofs.lemmas.Bool.{cases_lt}
use Rattle.hw_dag.specs.Dag.{unit_at}
use Rattle.hw_dag.specs.Walks.{Cites}
use Rattle.hw_dag.proofs.PlaceLaws.{among_place, place_is_among}
use Rattle.hw_dag.proofs.graph.Dag.mark_observed_by_named.Goals.{in-Some, in_default}
use Rattle.hw_dag.proofs.graph.Dag.mark_observed_by_named.Goals as goal

pub mark_observed-requires-clause-room : goal.mark_observed-requires-clause-room
mark_observed-requires-clause-room c =
    let found = c.in-Some.ensures.found in
    let kept = c.loop-name.auto.marked in
    let room = c.requires.room c.in-Some.no.0 (record { name = _; among = place_is_among (record { 0 = [] }) c.args.names.now c.loop-name.name-index c.loop-name-test.true; known = found.0; named = found.1 }) in
    omega arith

pub loop-name-preserved : goal.loop-name-preserved
loop-name-preserved c =
    let i = c.loop-name.invariant in
    let item = place_is_among (record { 0 = [] }) c.args.names.now c.loop-name.name-index c.loop-name-test.true in
    elim c.match-named_above.branch [
      | in-Some w ↦
          let made = w.mark_observed.ensures in
          let found = w.in-Some.ensures.found in
          rw w.marked-is (
            (λ k n m lt known e s ci le. elim (cases_lt k c.loop-name.name-index) [
              | inl less ↦ made.kept m (i.0 k n m less known e s ci le)
              | inr above ↦
                  let at : k ≡ c.loop-name.name-index = omega arith in
                  let own = subst (λ (j : ℕ). (unit_at c.args.self.now n).digest ≡ get_or c.args.names.now j (record { 0 = [] })) at e in
                  let same = c.recall_graph.ensures.distinct n w.in-Some.no.0 known found.0 (own ∙ sym found.1) in
                  made.all m (subst (λ (j : ℕ). Cites c.args.self.now j m) same ci) le
            ]),
            (λ m t. elim (made.only m t) [
              | inl before ↦ i.1 m before
              | inr cited ↦ inr (w.in-Some.no.0, record { name = _; among = item; known = found.0; named = found.1 }, cited)
            ]),
          )
      | in_default w ↦ rw w.marked-is (
        (λ k n m lt known e s ci le. elim (cases_lt k c.loop-name.name-index) [
          | inl less ↦ i.0 k n m less known e s ci le
          | inr above ↦
              let at : k ≡ c.loop-name.name-index = omega arith in
              absurd (w.in_default.ensures.none n known (subst (λ (j : ℕ). (unit_at c.args.self.now n).digest ≡ get_or c.args.names.now j (record { 0 = [] })) at e) s)
        ]),
        i.1,
      )
    ]

pub returns-clause-all : goal.returns-clause-all
returns-clause-all c = λ n m h s ci le.
    let k = among_place (record { 0 = [] }) h.name c.args.names.now h.among in
    let within : k.0 < c.loop-name.name-index = (let lt = k.1 in let over = c.loop-name-test.false in omega arith) in
    c.loop-name.invariant.0 k.0 n m within h.known (h.named ∙ sym k.2) s ci le
