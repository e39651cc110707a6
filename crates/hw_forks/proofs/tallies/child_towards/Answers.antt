use Rattle.std.proofs.Common.{◌≡◌, ℕ, Option, Some, None, true, false, refl, eq-eqb, sym, ap, subst, ◌∙◌, arith}
use Rattle.std.specs.Prelude.{unwrap_or}
use Rattle.std.specs.Option.{option_eq}
use Rattle.hw_types.proofs.WordsLaws.{never_both}
use Rattle.hw_dag.specs.contracts.numbers.UnitNoPartialEq.TheImpl.{eq-value}
use Rattle.hw_dag.specs.declared.numbers.UnitNo.{UnitNo}
use Rattle.hw_dag.specs.Dag.{SettledUnit, unit_at}
use Rattle.hw_forks.specs.Votes.{height_at}
use Rattle.hw_forks.proofs.AncestorLaws.{anc_height, anc_line, child_height}
use Rattle.hw_forks.proofs.tallies.child_towards.Goals as goal

equal_itself : (o : Option UnitNo) → option_eq eq-value.it o o ≡ true
equal_itself None = refl
equal_itself (Some p) = eq-eqb p.0 p.0 refl

pub returns-then-vote-height-clause-none : goal.returns-then-vote-height-clause-none
returns-then-vote-height-clause-none c = λ child k above.
    let le = anc_height c.args.dag.now c.requires.graph child c.args.vote.now.block.0 c.requires.vote.known above in
    let own = child_height c.args.dag.now c.requires.graph c.args.place child k in
    let height = c.requires.vote.height_is in
    let less = c.if-vote-height.true in
    let same = c.requires.height in
    absurd (omega arith)

pub returns-else-eq-clause-none : goal.returns-else-eq-clause-none
returns-else-eq-clause-none c = λ child k above.
    let found = c.ancestor-child.ensures in
    let reached : height_at c.args.dag.now c.ancestor-child.result.0 ≡ c.args.height = ap (λ (o : Option ℕ). unwrap_or o 0) found.height_is in
    let own : height_at c.args.dag.now child ≡ c.args.height = child_height c.args.dag.now c.requires.graph c.args.place child k ∙ sym c.requires.height in
    let one = anc_line c.args.dag.now c.requires.graph child c.ancestor-child.result.0 c.args.vote.now.block.0 c.requires.vote.known above found.ancestor (own ∙ sym reached) in
    let parent : (unit_at c.args.dag.now c.ancestor-child.result.0).parent ≡ c.args.place = subst (λ (n : ℕ). (unit_at c.args.dag.now n).parent ≡ c.args.place) one k.parent in
    let read : c.parent.result ≡ (unit_at c.args.dag.now c.ancestor-child.result.0).parent = c.parent.ensures ∙ ap (λ (u : SettledUnit). u.parent) c.unit.ensures in
    let differ : option_eq eq-value.it c.args.place c.args.place ≡ false = sym (ap (λ (o : Option UnitNo). option_eq eq-value.it o c.args.place) (read ∙ parent)) ∙ sym c.eq.ensures ∙ c.if-eq.false in
    absurd (never_both (option_eq eq-value.it c.args.place c.args.place) (equal_itself c.args.place) differ)
