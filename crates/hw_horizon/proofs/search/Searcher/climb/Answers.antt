use Rattle.std.proofs.Common.{◌≡◌, ◌+◌, List, [], ◌∷◌, length, Option, Some, ℕ, sym, ap, subst, ◌∙◌, arith, length-append}
use Rattle.std.specs.Prelude.{unwrap_or}
use Rattle.hw_types.specs.declared.config.Config.{Config}
use Rattle.hw_dag.specs.Dag.{SettledUnit, unit_at}
use Rattle.hw_horizon.specs.declared.found.Found.{Found}
use Rattle.hw_horizon.specs.Detected.{IsSearched, IsFoundAt, StandsNot}
use Rattle.hw_horizon.proofs.WayLaws.{HasGoneUp, top_low, gone_more, ended, above}
use Rattle.hw_horizon.proofs.search.Searcher.climb.Goals as goal

pub find_at-requires-clause-searched : goal.find_at-requires-clause-searched
find_at-requires-clause-searched c = subst (λ (k : Config). IsSearched k c.args.dag.now c.args.panorama.now (Some c.args.fork)) (sym c.loop-fork.invariant.config) c.requires.searched

pub push-requires : goal.push-requires
push-requires c =
    let top : c.unwrap_or-top.result ≡ unwrap_or (unit_at c.args.dag.now c.args.fork.0).height 0 = c.unwrap_or-top.ensures ∙ ap (λ (o : Option ℕ). unwrap_or o 0) (c.height.ensures ∙ ap (λ (u : SettledUnit). u.height) c.unit.ensures) in
    let low = top_low c.args.self.now.config c.args.dag.now c.args.panorama.now c.args.fork c.args.at c.requires.searched in
    let is = c.loop-fork-test.true in
    let from = c.from.ensures in
    let count = c.count.ensures.count in
    let room = c.loop-fork.invariant.room in
    let enough = c.requires.room in
    omega arith

pub loop-fork-preserved : goal.loop-fork-preserved
loop-fork-preserved c =
    let i = c.loop-fork.invariant in
    let before = i.more in
    let room = i.room in
    let push = c.push.ensures.room in
    let long : length c.push.new.self.blocks ≡ length c.loop-fork.found.blocks + 1 = ap length c.push.ensures.blocks ∙ length-append c.loop-fork.found.blocks (c.in-Some.block ∷ []) in
    let is = subst (λ (k : Config). IsFoundAt k c.args.dag.now c.args.panorama.now c.args.fork c.args.at (length c.loop-fork.found.blocks) c.in-Some.block) i.config
    (subst (λ n. IsFoundAt c.loop-fork.self.config c.args.dag.now c.args.panorama.now c.args.fork c.args.at n c.in-Some.block) (c.from-height.ensures ∙ c.count-in-loop-fork.ensures.count) c.in-Some.ensures.found) in
    record {
      gone = subst (λ (fs : List Found). HasGoneUp c.args.self.now.config c.args.dag.now c.args.panorama.now c.args.fork c.args.at c.args.found.now.blocks fs) (sym c.push.ensures.blocks)
          (gone_more c.args.self.now.config c.args.dag.now c.args.panorama.now c.args.fork c.args.at c.requires.searched c.args.found.now.blocks c.loop-fork.found.blocks c.in-Some.block i.gone is);
      more = omega arith;
      room = omega arith;
      kept = c.find_at.ensures.kept;
      config = c.find_at.ensures.config ∙ i.config;
    }

pub returns-in-None-clause-found : goal.returns-in-None-clause-found
returns-in-None-clause-found c =
    let i = c.loop-fork.invariant in
    ended c.args.self.now.config c.args.dag.now c.args.panorama.now c.args.fork c.args.at c.requires.searched c.args.found.now.blocks c.loop-fork.found.blocks i.gone
    (subst (λ (k : Config). StandsNot k c.args.dag.now c.args.panorama.now c.args.fork (length c.loop-fork.found.blocks)) i.config
    (subst (λ n. StandsNot c.loop-fork.self.config c.args.dag.now c.args.panorama.now c.args.fork n) (c.from-height.ensures ∙ c.count-in-loop-fork.ensures.count) c.in-None.ensures.none))

pub returns-clause-found : goal.returns-clause-found
returns-clause-found c =
    let top : c.unwrap_or-top.result ≡ unwrap_or (unit_at c.args.dag.now c.args.fork.0).height 0 = c.unwrap_or-top.ensures ∙ ap (λ (o : Option ℕ). unwrap_or o 0) (c.height.ensures ∙ ap (λ (u : SettledUnit). u.height) c.unit.ensures) in
    let is = c.loop-fork-test.false in
    let from = c.from.ensures in
    let count = c.count.ensures.count in
    above c.args.self.now.config c.args.dag.now c.args.panorama.now c.args.fork c.args.at c.requires.searched c.args.found.now.blocks c.loop-fork.found.blocks c.loop-fork.invariant.gone (omega arith)
