use Rattle.std.proofs.Common.{rules, List, ℕ, ◌++◌, length, sum, ap, sym, ◌∙◌, arith}
use Rattle.hw_types.specs.declared.config.Config.{Config}
use Rattle.hw_types.proofs.LimitLaws.{within_limits}
use Rattle.hw_audit.specs.Held.{HeldUnit}
use Rattle.hw_audit.specs.Read.{units_of}
use Rattle.hw_audit.proofs.TwinLaws.{ok_so}
use Rattle.hw_audit.proofs.TopLaws.{read_is}
use Rattle.hw_audit.proofs.nodes.verdict_on.Goals as goal

pub verdict-requires-clause-many : goal.verdict-requires-clause-many
verdict-requires-clause-many c =
    let limits = within_limits c.state.result.now.config c.config.ensures.lawful in
    let few = limits.few in
    let same = ap (λ (ws : List ℕ). length ws) (c.as_slice-weights.ensures ∙ ap (λ (g : Config). g.weights) c.config.ensures.config) in
    omega arith

pub verdict-requires-clause-fits : goal.verdict-requires-clause-fits
verdict-requires-clause-fits c =
    let limits = within_limits c.state.result.now.config c.config.ensures.lawful in
    let total = limits.total in
    let same = ap (λ (ws : List ℕ). sum ws) (c.as_slice-weights.ensures ∙ ap (λ (g : Config). g.weights) c.config.ensures.config) in
    omega arith

pub returns : goal.returns
returns c =
    ok_so c.verdict.result c.verdict.ensures (λ v told dl dr l r. told c.args.left.now.config c.args.left.now.journal c.args.right.now.journal dl dr
    (read_is c.args.left.now.config c.args.left.now.journal c.args.right.now.journal dl dr c.as_slice-weights.result.now c.put_journal.new.units.items c.deref.result.now c.len-middle.result c.args.left_chain.now c.args.right_chain.now
    (c.as_slice-weights.ensures ∙ ap (λ (g : Config). g.weights) (c.config.ensures.config ∙ c.state.ensures.config))
    (c.in_ok-put_journal.ensures ∙ ap (λ (hs : List HeldUnit). hs ++ units_of c.args.left.now.config c.args.left.now.journal) c.new-units.ensures.items)
    (c.deref.ensures.value ∙ c.in_ok-put_journal-2.ensures ∙ ap (λ (g : Config). c.put_journal.new.units.items ++ units_of g c.args.right.now.journal) (sym c.requires))
    (search rules) l r))
