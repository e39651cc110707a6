use Rattle.std.proofs.Common.{◌≡◌, ℕ, ◌≤◌, ◌<◌, Bool, cond, Option, Some, None, refl, sym, ap, ◌∙◌}
use Rattle.std.specs.Prelude.{is_some, nat_le, ◌&&◌, unwrap_or}
use Rattle.std.proofs.lemmas.Bool.{le-leb, lt-leb}
use Rattle.hw_safety.specs.Pruned.{or_zero}
use Rattle.hw_dag.specs.declared.numbers.View.TheVariants as view
use Rattle.hw_dag.specs.Dag.{SettledUnit, graph, observations, view_at, unit_at, seq_of}
use Rattle.hw_horizon.specs.Tables.{entry, start_over}
use Rattle.hw_horizon.specs.Firsts.{weight_after, has_quorum}
use Rattle.hw_horizon.proofs.FirstLaws.{tip_decides_after}
use Rattle.hw_horizon.proofs.rounds.remains.Goals as goal

zero_where_none : (o : Option ℕ) → unwrap_or o 0 ≡ or_zero o
zero_where_none None = refl
zero_where_none (Some n) = refl

-- where the latest unit isn't before the start below, the count decides
by_count : (floor seq quorum count : ℕ) (b : Bool) → b ≡ (nat_le floor seq && nat_le quorum count) → floor ≤ seq → nat_le quorum count ≡ b
by_count floor seq quorum count b e le = sym (e ∙ ap (λ (k : Bool). k && nat_le quorum count) (le-leb floor seq le))

-- and where it is, it isn't asked
too_low : (floor seq quorum count : ℕ) (b : Bool) → b ≡ (nat_le floor seq && nat_le quorum count) → seq < floor → nat_le floor seq ≡ b
too_low floor seq quorum count b e lt = lt-leb floor seq lt ∙ sym (e ∙ ap (λ (k : Bool). k && nat_le quorum count) (lt-leb floor seq lt))

pub returns-then-unwrap_or-signed : goal.returns-then-unwrap_or-signed
returns-then-unwrap_or-signed c =
    let slot : view_at c.args.question.now.panorama.now c.args.validator ≡ view.Correct c.in-Correct.tip = sym c.get.ensures ∙ c.in-Correct.is in
    let floor : c.unwrap_or.result ≡ or_zero (entry c.args.lower.now c.args.validator) = c.unwrap_or.ensures ∙ zero_where_none c.get-in-Correct.result ∙ ap or_zero c.get-in-Correct.ensures in
    let seq : c.signed.result.now.unit.seq ≡ seq_of (unit_at c.args.question.now.dag.now c.in-Correct.tip.0) = ap (λ s. s.unit.seq) (c.signed.ensures ∙ ap (λ (u : SettledUnit). u.signed) c.unit.ensures) in
    let count = c.requires.counts.each c.args.validator c.in-Correct.tip c.requires.present slot ∙ sym c.get-then-unwrap_or-signed.ensures in
    by_count c.unwrap_or.result c.signed.result.now.unit.seq c.args.question.now.quorum c.get-then-unwrap_or-signed.result _
    (ap (λ (b : Bool). is_some (cond b (start_over c.args.question.now.weights.now (graph c.args.question.now.dag.now) (observations c.args.question.now.dag.now c.args.question.now.panorama.now) c.args.question.now.quorum c.args.lower.now c.args.present.now c.args.validator) None)) c.requires.present
    ∙ tip_decides_after c.args.question.now.dag.now c.args.question.now.asked.graph_is c.args.question.now.panorama.now c.args.question.now.asked.panorama_is c.requires.consistent c.args.question.now.weights.now c.args.question.now.quorum c.args.lower.now c.args.present.now c.requires.slots c.args.firsts.now c.requires.firsts c.args.validator c.in-Correct.tip slot
    ∙ ap (λ (n : ℕ). nat_le n (seq_of (unit_at c.args.question.now.dag.now c.in-Correct.tip.0)) && has_quorum c.args.question.now.weights.now c.args.question.now.dag.now c.args.question.now.quorum c.args.firsts.now c.in-Correct.tip.0) (sym floor)
    ∙ ap (λ (n : ℕ). nat_le c.unwrap_or.result n && has_quorum c.args.question.now.weights.now c.args.question.now.dag.now c.args.question.now.quorum c.args.firsts.now c.in-Correct.tip.0) (sym seq)
    ∙ ap (λ (n : ℕ). nat_le c.unwrap_or.result c.signed.result.now.unit.seq && nat_le c.args.question.now.quorum n) count)
    c.if-unwrap_or-signed.true

pub returns-else-unwrap_or-signed : goal.returns-else-unwrap_or-signed
returns-else-unwrap_or-signed c =
    let slot : view_at c.args.question.now.panorama.now c.args.validator ≡ view.Correct c.in-Correct.tip = sym c.get.ensures ∙ c.in-Correct.is in
    let floor : c.unwrap_or.result ≡ or_zero (entry c.args.lower.now c.args.validator) = c.unwrap_or.ensures ∙ zero_where_none c.get-in-Correct.result ∙ ap or_zero c.get-in-Correct.ensures in
    let seq : c.signed.result.now.unit.seq ≡ seq_of (unit_at c.args.question.now.dag.now c.in-Correct.tip.0) = ap (λ s. s.unit.seq) (c.signed.ensures ∙ ap (λ (u : SettledUnit). u.signed) c.unit.ensures) in
    too_low c.unwrap_or.result c.signed.result.now.unit.seq c.args.question.now.quorum (weight_after c.args.question.now.weights.now c.args.question.now.dag.now c.args.firsts.now c.in-Correct.tip.0) _
    (ap (λ (b : Bool). is_some (cond b (start_over c.args.question.now.weights.now (graph c.args.question.now.dag.now) (observations c.args.question.now.dag.now c.args.question.now.panorama.now) c.args.question.now.quorum c.args.lower.now c.args.present.now c.args.validator) None)) c.requires.present
    ∙ tip_decides_after c.args.question.now.dag.now c.args.question.now.asked.graph_is c.args.question.now.panorama.now c.args.question.now.asked.panorama_is c.requires.consistent c.args.question.now.weights.now c.args.question.now.quorum c.args.lower.now c.args.present.now c.requires.slots c.args.firsts.now c.requires.firsts c.args.validator c.in-Correct.tip slot
    ∙ ap (λ (n : ℕ). nat_le n (seq_of (unit_at c.args.question.now.dag.now c.in-Correct.tip.0)) && has_quorum c.args.question.now.weights.now c.args.question.now.dag.now c.args.question.now.quorum c.args.firsts.now c.in-Correct.tip.0) (sym floor)
    ∙ ap (λ (n : ℕ). nat_le c.unwrap_or.result n && has_quorum c.args.question.now.weights.now c.args.question.now.dag.now c.args.question.now.quorum c.args.firsts.now c.in-Correct.tip.0) (sym seq))
    c.if-unwrap_or-signed.false
