use Rattle.std.proofs.Common.{List, ℕ, [], ◌∷◌, ◌++◌, map, ap, ◌∙◌, rules}
use Rattle.hw_lanes.specs.Pieces.{part_of}
use Rattle.hw_lanes.proofs.MessageLaws.{more_same, pushed_is, on_any}
use Rattle.hw_lanes.proofs.messages.Messages.push.Goals as goal

pub returns-clause-ok : goal.returns-clause-ok
returns-clause-ok c =
    let inside = c.self.inside in
    pushed_is inside.bytes.items c.args.message.now c.extend_from_slice.new.self.items inside.parts.items c.self.invariant c.in_ok-extend_from_slice.ensures.items
    c.push.new.self.items c.len-start.result c.len-end.result c.in_ok-push.ensures.items (search rules) (search rules)
    ∙ ap (λ (ms : List (List ℕ)). ms ++ c.args.message.now ∷ []) c.self.view_is

pub returns-in_err-push-clause-err : goal.returns-in_err-push-clause-err
returns-in_err-push-clause-err c =
    let inside = c.self.inside in
    on_any c.from_residual-in_err-push.result _
    (ap (map (part_of c.extend_from_slice.new.self.items)) c.in_err-push.ensures.items
    ∙ more_same inside.bytes.items c.args.message.now c.extend_from_slice.new.self.items inside.parts.items c.self.invariant c.in_ok-extend_from_slice.ensures.items
    ∙ c.self.view_is)
