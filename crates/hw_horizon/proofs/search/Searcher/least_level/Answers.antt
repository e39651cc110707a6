use Rattle.std.proofs.Common.{◌≡◌, ◌+◌, true, false, ℕ, List, length, get_or, sym, ap, subst, ◌∙◌, arith}
use Rattle.std.proofs.lemmas.List.{get_or_read}
use Rattle.hw_types.specs.declared.config.Config.{Config}
use Rattle.hw_horizon.specs.Bounds.{AskedBounds, AreBounds, AreTips}
use Rattle.hw_horizon.specs.Detected.{HasSummitAt, IsLeastLevel}
use Rattle.hw_horizon.proofs.LevelLaws.{none_more, is_first}
use Rattle.hw_horizon.proofs.search.Searcher.least_level.Goals as goal

pub loop-below-preserved : goal.loop-below-preserved
loop-below-preserved c =
    let i = c.loop-below.invariant in
    let s = c.has_summit.ensures in
    let less = c.loop-below-test.true in
    let from = c.from-below-end.ensures in
    let are = c.args.self.now.fits.quorums_are in
    let long = are.length_is in
    let many = ap length i.quorums in
    let is : c.index-quorum.result.now ≡ get_or c.args.self.now.quorums.items c.loop-below.below 0 =
    get_or_read c.loop-below.self.quorums.items c.loop-below.below c.index-quorum.result.now (omega arith) c.index-quorum.ensures 0 ∙ ap (λ (qs : List ℕ). get_or qs c.loop-below.below 0) i.quorums in
    record {
      none = none_more c.args.self.now.config c.args.dag.now c.args.panorama.now c.args.block.0 c.args.self.now.quorums.items are c.loop-below.below (omega arith) i.none
          (λ t.
          let there = subst (λ (k : Config). HasSummitAt k c.args.dag.now c.args.panorama.now c.args.block.0 (c.loop-below.below + 1) (get_or c.args.self.now.quorums.items c.loop-below.below 0)) (sym i.config) t in
          let here = s.exact.1 (subst (λ n. HasSummitAt c.loop-below.self.config c.args.dag.now c.args.panorama.now c.args.block.0 (c.loop-below.below + 1) n) (sym is) there) in
          absurd (let bad : false ≡ true = sym c.if-has_summit.false ∙ here in cc));
      walks = s.walks;
      bounds = subst (λ (b : AskedBounds). AreBounds c.has_summit.new.self.config.weights c.args.dag.now b) (sym s.bounds)
          (subst (λ (k : Config). AreBounds k.weights c.args.dag.now c.loop-below.self.bounds) (sym s.config) i.bounds);
      tips = subst (λ (b : AskedBounds). AreTips c.args.panorama.now b) (sym s.bounds) i.tips;
      asked = ap (λ (b : AskedBounds). b.block) s.bounds ∙ i.asked;
      config = s.config ∙ i.config;
      quorums = s.quorums ∙ i.quorums;
    }

pub returns-then-has_summit-clause-level : goal.returns-then-has_summit-clause-level
returns-then-has_summit-clause-level c =
    let i = c.loop-below.invariant in
    let s = c.has_summit.ensures in
    let less = c.loop-below-test.true in
    let from = c.from-below-end.ensures in
    let are = c.args.self.now.fits.quorums_are in
    let long = are.length_is in
    let many = ap length i.quorums in
    let is : c.index-quorum.result.now ≡ get_or c.args.self.now.quorums.items c.loop-below.below 0 =
    get_or_read c.loop-below.self.quorums.items c.loop-below.below c.index-quorum.result.now (omega arith) c.index-quorum.ensures 0 ∙ ap (λ (qs : List ℕ). get_or qs c.loop-below.below 0) i.quorums in
    let there = subst (λ (k : Config). HasSummitAt k c.args.dag.now c.args.panorama.now c.args.block.0 (c.loop-below.below + 1) c.index-quorum.result.now) i.config (s.exact.0 c.if-has_summit.true) in
    let here = subst (λ n. HasSummitAt c.args.self.now.config c.args.dag.now c.args.panorama.now c.args.block.0 (c.loop-below.below + 1) n) is there in
    subst (λ n. IsLeastLevel c.args.self.now.config c.args.dag.now c.args.panorama.now c.args.block.0 (c.loop-below.below + 1) n) (sym is)
    (is_first c.args.self.now.config c.args.dag.now c.args.panorama.now c.args.block.0 c.args.self.now.quorums.items are c.loop-below.below (omega arith) i.none here)

pub returns-then-has_summit-clause-kept : goal.returns-then-has_summit-clause-kept
returns-then-has_summit-clause-kept c =
    let i = c.loop-below.invariant in
    let s = c.has_summit.ensures in
    record {
      walks_are = s.walks;
      bounds_are = subst (λ (b : AskedBounds). AreBounds c.has_summit.new.self.config.weights c.args.dag.now b) (sym s.bounds)
          (subst (λ (k : Config). AreBounds k.weights c.args.dag.now c.loop-below.self.bounds) (sym s.config) i.bounds);
    }
