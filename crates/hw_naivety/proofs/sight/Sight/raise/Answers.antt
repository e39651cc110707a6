use Rattle.std.proofs.Common.{◌≡◌, Option, sym, subst, ◌∙◌}
use Rattle.hw_dag.specs.declared.numbers.UnitNo.{UnitNo}
use Rattle.hw_types.proofs.WordsLaws.{never_both}
use Rattle.hw_naivety.specs.Tips.{IsNaive, IsUnder}
use Rattle.hw_naivety.proofs.BelowLaws.{lane_trans}
use Rattle.hw_naivety.proofs.TipLaws.{none_under}
use Rattle.hw_naivety.proofs.sight.Sight.raise.Goals.{then-on_lane-via-then-on_lane, then-on_lane-via-else-on_lane+then-is_covered-2}
use Rattle.hw_naivety.proofs.sight.Sight.raise.Goals as goal

pub returns-then-is_covered-clause-raised : goal.returns-then-is_covered-clause-raised
returns-then-is_covered-clause-raised c =
    let s = c.requires.sight in
    record {
      naive = λ t e. absurd cc;
      kept = λ n lt u. subst (λ (o : Option UnitNo). IsUnder c.args.self.now.dag.now n o) c.in_default.is u;
      more = λ n h u. absurd (none_under c.args.self.now.dag.now s.graph_is c.args.self.now.panorama.now s.panorama_is c.args.self.now.endorsed.now c.args.creator c.args.candidate.0 n c.requires.known
          (c.is_covered.ensures.below.0 c.if-is_covered.true) h u);
    }

pub on_lane-requires-clause-high_known : goal.on_lane-requires-clause-high_known
on_lane-requires-clause-high_known c = (c.requires.tip c.in-Some.low c.in-Some.is).known

pub returns-then-on_lane-clause-raised : goal.returns-then-on_lane-clause-raised
returns-then-on_lane-clause-raised c =
    let s = c.requires.sight in
    let low = c.requires.tip c.in-Some.low c.in-Some.is in
    record {
      naive = λ t e. c.requires.tip t (c.in-Some.is ∙ e);
      kept = λ n lt u. subst (λ (o : Option UnitNo). IsUnder c.args.self.now.dag.now n o) c.in-Some.is u;
      more = λ n h u. elim c.then-on_lane.branch [
        | then-on_lane-via-then-on_lane w ↦ lane_trans c.args.self.now.dag.now s.graph_is n c.args.candidate.0 c.in-Some.low.0 h.known c.requires.known low.known u (sym c.on_lane.ensures ∙ w.if-on_lane.true)
        | then-on_lane-via-else-on_lane+then-is_covered-2 w ↦ absurd (none_under c.args.self.now.dag.now s.graph_is c.args.self.now.panorama.now s.panorama_is c.args.self.now.endorsed.now c.args.creator c.args.candidate.0 n
            c.requires.known (w.is_covered-else-on_lane.ensures.below.0 w.if-is_covered-2.true) h u)
      ];
    }

pub returns-then-on_lane-2-clause-raised : goal.returns-then-on_lane-2-clause-raised
returns-then-on_lane-2-clause-raised c =
    let s = c.requires.sight in
    let low = c.requires.tip c.in-Some.low c.in-Some.is in
    let dag = c.args.self.now.dag.now in
    record {
      naive = λ t e.
          let same : c.args.candidate ≡ t = cc in
          subst (λ (k : UnitNo). IsNaive c.args.self.now.dag.now c.args.self.now.panorama.now c.args.self.now.endorsed.now c.args.creator k.0) same
          (record { known = c.requires.known; creator_is = c.requires.creator; below = c.requires.below; free = λ b. never_both _ (c.is_covered-else-on_lane.ensures.below.1 b) c.if-is_covered-2.false });
      kept = λ n lt u. lane_trans c.args.self.now.dag.now s.graph_is n c.in-Some.low.0 c.args.candidate.0 lt low.known c.requires.known (subst (λ (o : Option UnitNo). IsUnder c.args.self.now.dag.now n o) c.in-Some.is u)
          (sym c.on_lane-2.ensures ∙ c.if-on_lane-2.true);
      more = λ n h u. u;
    }
