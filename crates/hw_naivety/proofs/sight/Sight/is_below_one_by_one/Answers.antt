use Rattle.std.proofs.Common.{[], get_or, refl, sym, subst, arith}
use Rattle.hw_types.specs.declared.unit.Digest.{Digest}
use Rattle.hw_dag.proofs.PlaceLaws.{among_place, place_is_among}
use Rattle.hw_naivety.specs.Tips.{IsBelowNamed}
use Rattle.hw_naivety.proofs.sight.Sight.is_below_one_by_one.Goals as goal

pub returns-then-is_below_named-clause-below : goal.returns-then-is_below_named-clause-below
returns-then-is_below_named-clause-below c = (
  λ t. record {
    name = get_or c.args.self.now.endorsed.now c.loop-name.name-index (record { 0 = [] });
    among = place_is_among (record { 0 = [] }) c.args.self.now.endorsed.now c.loop-name.name-index c.loop-name-test.true;
    below = c.is_below_named.ensures.below.0 c.if-is_below_named.true;
  },
  λ b. refl,
)

pub returns-clause-below : goal.returns-clause-below
returns-clause-below c = (
  λ t. absurd cc,
  λ b. absurd (
      let k = among_place (record { 0 = [] }) b.name c.args.self.now.endorsed.now b.among in
      c.loop-name.invariant.0 k.0 (let lt = k.1 in let over = c.loop-name-test.false in omega arith)
      (subst (λ (d : Digest). IsBelowNamed c.args.self.now.dag.now c.args.self.now.panorama.now d c.args.no.0) (sym k.2) b.below)
      ),
)
