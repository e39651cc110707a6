use Rattle.std.proofs.Common.{◌<◌, ℕ, Option, sym, subst}
use Rattle.hw_types.proofs.WordsLaws.{never_both}
use Rattle.hw_dag.specs.Dag.{unit_at}
use Rattle.hw_naivety.specs.Tips.{IsTip}
use Rattle.hw_naivety.proofs.TipLaws.{inherited_tip, endorsed_tip, last_tip}
use Rattle.hw_naivety.proofs.tips.Tips.tip_on.Goals as goal

pub is_seen_by-requires-clause-known : goal.is_seen_by-requires-clause-known
is_seen_by-requires-clause-known c =
    let b = c.requires.listed.heir c.in-Some.before c.in-Some.is in
    c.requires.sight.panorama_is.known b.slot c.in-Some.before b.observed

pub at-requires-clause-known : goal.at-requires-clause-known
at-requires-clause-known c =
    let b = c.requires.listed.heir c.in-Some.before c.in-Some.is in
    c.requires.sight.panorama_is.known b.slot c.in-Some.before b.observed

pub at-requires-clause-noted : goal.at-requires-clause-noted
at-requires-clause-noted c =
    let b = c.requires.listed.heir c.in-Some.before c.in-Some.is in
    c.requires.tips.kept b.slot c.in-Some.before b.observed

pub returns-in-Some-clause-tip : goal.returns-in-Some-clause-tip
returns-in-Some-clause-tip c =
    let s = c.requires.sight in
    let dag = c.args.sight.now.dag.now in
    let b = c.requires.listed.heir c.in-Some.before c.in-Some.is in
    let small = subst (λ (k : ℕ). c.args.creator < k) s.validators_are c.requires.creator in
    inherited_tip dag s.graph_is c.args.sight.now.panorama.now s.panorama_is c.args.sight.now.endorsed.now c.args.no.0 c.requires.unit c.requires.lists c.in-Some.before b c.args.creator c.args.last c.at.result
    c.requires.last (c.is_seen_by.ensures c.if-is_seen_by.true)
    (subst (λ (o : Option _). IsTip dag (unit_at dag c.in-Some.before.0).panorama (unit_at dag c.in-Some.before.0).signed.unit.endorsed c.args.creator o) (sym c.at.ensures) (c.requires.tips.right b.slot c.in-Some.before c.args.creator b.observed small))

pub returns-in_default-clause-tip : goal.returns-in_default-clause-tip
returns-in_default-clause-tip c =
    let s = c.requires.sight in
    endorsed_tip c.args.sight.now.dag.now s.graph_is c.args.sight.now.panorama.now s.panorama_is c.args.sight.now.endorsed.now c.args.no.0 c.requires.unit c.args.creator c.args.last c.requires.last
    (c.is_covered.ensures.below.0 c.if-is_covered.true)

pub returns-in_default-2-clause-tip : goal.returns-in_default-2-clause-tip
returns-in_default-2-clause-tip c =
    let s = c.requires.sight in
    last_tip c.args.sight.now.dag.now s.graph_is c.args.sight.now.panorama.now s.panorama_is c.args.sight.now.endorsed.now c.args.no.0 c.requires.unit c.args.creator c.args.last c.requires.last
    (λ b. never_both _ (c.is_covered.ensures.below.1 b) c.if-is_covered.false)
