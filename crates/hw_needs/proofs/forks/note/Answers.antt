use Rattle.std.proofs.Common.{◌≡◌, ℕ, ◌+◌, true, false, sym, ap, subst, ◌∙◌}
use Rattle.std.specs.List.{list_any}
use Rattle.std.specs.Ordering.{is_eq, nat_cmp}
use Rattle.hw_types.specs.declared.unit.SignedUnit.{SignedUnit}
use Rattle.hw_types.proofs.WordsLaws.{not_true, not_false}
use Rattle.hw_dag.specs.Dag.{SettledUnit, unit_at, seq_of}
use Rattle.hw_needs.proofs.NotedLaws.{HasOneMore, noted_other, noted_new, noted_again, noted_told}
use Rattle.hw_needs.proofs.forks.note.Goals as goal

pub returns-then-unit-creator : goal.returns-then-unit-creator
returns-then-unit-creator c =
    let is : c.signed.result.now ≡ (unit_at c.args.dag.now c.args.no.0).signed = c.signed.ensures ∙ ap (λ (u : SettledUnit). u.signed) c.unit.ensures in
    λ noted. noted_other c.args.dag.now c.args.no.0 c.args.creator c.args.noted.now.numbers.keys c.args.noted.now.least noted
    (λ own. c.if-unit-creator.true (ap (λ (u : SignedUnit). u.unit.creator) is ∙ own))

pub returns-then-branch : goal.returns-then-branch
returns-then-branch c =
    let is : c.signed.result.now ≡ (unit_at c.args.dag.now c.args.no.0).signed = c.signed.ensures ∙ ap (λ (u : SettledUnit). u.signed) c.unit.ensures in
    let seq : c.signed.result.now.unit.seq ≡ seq_of (unit_at c.args.dag.now c.args.no.0) = ap (λ (u : SignedUnit). u.unit.seq) is in
    λ noted. noted_new c.args.dag.now c.args.no.0 c.args.creator c.args.noted.now.numbers.keys c.args.noted.now.least noted
    (sym (ap (λ (u : SignedUnit). u.unit.creator) is) ∙ c.if-unit-creator.false) c.insert.new.self.keys
    (subst (λ (n : ℕ). HasOneMore c.args.noted.now.numbers.keys c.insert.new.self.keys n) seq c.in_ok-insert.ensures.updates.0)
    (subst (λ (n : ℕ). list_any (λ m. is_eq (nat_cmp n m)) c.args.noted.now.numbers.keys ≡ false) seq (not_true _ (sym c.in_ok-insert.ensures.added ∙ c.if-branch.true)))

pub returns : goal.returns
returns c =
    let is : c.signed.result.now ≡ (unit_at c.args.dag.now c.args.no.0).signed = c.signed.ensures ∙ ap (λ (u : SettledUnit). u.signed) c.unit.ensures in
    let seq : c.signed.result.now.unit.seq ≡ seq_of (unit_at c.args.dag.now c.args.no.0) = ap (λ (u : SignedUnit). u.unit.seq) is in
    λ noted. noted_told c.args.dag.now (c.args.no.0 + 1) c.args.creator c.insert.new.self.keys c.args.noted.now.least c.signed.result.now.unit.seq c.lesser.result (seq_of (unit_at c.args.dag.now c.args.no.0)) seq c.lesser.ensures
    (noted_again c.args.dag.now c.args.no.0 c.args.creator c.args.noted.now.numbers.keys c.args.noted.now.least noted
    (sym (ap (λ (u : SignedUnit). u.unit.creator) is) ∙ c.if-unit-creator.false) c.insert.new.self.keys
    (subst (λ (n : ℕ). HasOneMore c.args.noted.now.numbers.keys c.insert.new.self.keys n) seq c.in_ok-insert.ensures.updates.0)
    (subst (λ (n : ℕ). list_any (λ m. is_eq (nat_cmp n m)) c.args.noted.now.numbers.keys ≡ true) seq (not_false _ (sym c.in_ok-insert.ensures.added ∙ c.if-branch.false))))
