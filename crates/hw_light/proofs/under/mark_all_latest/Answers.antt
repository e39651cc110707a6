use Rattle.std.proofs.Common.{◌≡◌, ℕ, subst, ◌∙◌, arith, inl, inr}
use Rattle.std.proofs.lemmas.Bool.{cases_lt}
use Rattle.std.specs.Prelude.{IsTrue}
use Rattle.hw_dag.specs.declared.numbers.View.TheVariants as view
use Rattle.hw_dag.specs.Dag.{view_at}
use Rattle.hw_horizon.specs.Search.{committees_of}
use Rattle.hw_light.proofs.UnderLaws.{view_within}
use Rattle.hw_light.proofs.under.mark_all_latest.Goals as goal

pub loop-validator-preserved : goal.loop-validator-preserved
loop-validator-preserved c =
    let i = c.loop-validator.invariant in
    let made = c.mark_latest.ensures in
    record {
      length_is = made.length ∙ i.length_is;
      all = λ v number less member e. elim (cases_lt v c.loop-validator.validator) [
        | inl before ↦ made.kept number.0 (i.all v number before member e)
        | inr above ↦
            (let same : v ≡ c.loop-validator.validator = omega arith in
            made.all number (subst (λ (n : ℕ). IsTrue ((committees_of c.args.search.now).member 0 n)) same member) (subst (λ (n : ℕ). view_at c.args.panorama.now n ≡ view.Correct number) same e))
      ];
      only = λ n t. elim (made.only n t) [ inl before ↦ i.only n before | inr latest ↦ inr latest ];
    }

pub returns-clause-all : goal.returns-clause-all
returns-clause-all c n latest =
    let within = view_within c.args.panorama.now latest.validator (record { 0 = n }) latest.latest in
    let long = c.requires.panorama.length_is in
    let over = c.loop-validator-test.false in
    let count = c.validators-validator-end.ensures.validators in
    c.loop-validator.invariant.all latest.validator (record { 0 = n }) (omega arith) latest.member latest.latest
