use Rattle.std.proofs.Common.{map}
use Rattle.std.specs.Prelude.{string_bytes}
use Rattle.std.proofs.lemmas.Result.{err_from_is_err_and}
use Rattle.hw_eras.proofs.StopLaws.{named_left, named_right, about_then}
use Rattle.hw_eras.proofs.AgainstLaws.{right_stops, audit_is, audit_said}
use Rattle.hw_eras.proofs.TurnLaws.{left_in_turn, right_in_turn}
use Rattle.hw_eras.proofs.audits.audit_logs.Goals as goal

pub returns-in_err-left-clause-named : goal.returns-in_err-left-clause-named
returns-in_err-left-clause-named g c =
    let p = err_from_is_err_and c.from_residual.result c.from_residual.ensures.1 in
    rw (p.1, p.2) (named_left (map string_bytes c.args.left.now) (map string_bytes c.args.right.now) c.in_err-left.field-0.0 c.in_err-left.ensures.named)

pub returns-in_err-right-clause-said : goal.returns-in_err-right-clause-said
returns-in_err-right-clause-said g c =
    let p = err_from_is_err_and c.from_residual-in_err-right.result c.from_residual-in_err-right.ensures.1 in
    λ tells. rw (p.1, p.2)
    (right_stops (g.F.Files.held c.args.files.now) (map string_bytes c.args.left.now) (map string_bytes c.args.right.now) c.in_ok-left.left (c.in_ok-left.ensures.said tells) c.first_core.result.now c.first_core.ensures
    (g.F.Files.held c.of_logs.new.files) c.in_ok-left.ensures.files c.in_err-right.field-0.0 (c.in_err-right.ensures.said tells))

pub returns-in_err-right-clause-named : goal.returns-in_err-right-clause-named
returns-in_err-right-clause-named g c =
    let p = err_from_is_err_and c.from_residual-in_err-right.result c.from_residual-in_err-right.ensures.1 in
    rw (p.1, p.2) (named_right (map string_bytes c.args.left.now) (map string_bytes c.args.right.now) c.in_err-right.field-0.0 c.in_err-right.ensures.named)

pub returns-clause-said : goal.returns-clause-said
returns-clause-said g c = λ tells.
    let held = g.F.Files.held c.args.files.now in
    let left = map string_bytes c.args.left.now in
    let right = map string_bytes c.args.right.now in
    audit_said held left right c.in_ok-audited.field-0
    (audit_is held left right c.in_ok-left.left (c.in_ok-left.ensures.said tells) c.first_core.result.now c.first_core.ensures (g.F.Files.held c.of_logs.new.files) c.in_ok-left.ensures.files c.in_ok-right.right c.in_ok-audited.field-0
    (c.in_ok-right.ensures.said tells) c.in_ok-audited.ensures.audit)

pub returns-clause-audit : goal.returns-clause-audit
returns-clause-audit g c = λ tells.
    audit_is (g.F.Files.held c.args.files.now) (map string_bytes c.args.left.now) (map string_bytes c.args.right.now) c.in_ok-left.left (c.in_ok-left.ensures.said tells) c.first_core.result.now c.first_core.ensures
    (g.F.Files.held c.of_logs.new.files) c.in_ok-left.ensures.files c.in_ok-right.right c.in_ok-audited.field-0 (c.in_ok-right.ensures.said tells) c.in_ok-audited.ensures.audit

pub returns-in_err-right-clause-about : goal.returns-in_err-right-clause-about
returns-in_err-right-clause-about g c =
    let p = err_from_is_err_and c.from_residual-in_err-right.result c.from_residual-in_err-right.ensures.1 in
    λ tells. rw (p.1, p.2)
    (about_then (g.F.Files.held c.args.files.now) (g.F.Files.held c.of_logs.new.files) _ _ _ c.in_err-right.field-0.0 c.in_ok-left.ensures.files (c.in_ok-left.ensures.about tells) (c.in_err-right.ensures.about tells))

pub returns-in_err-left-clause-turn : goal.returns-in_err-left-clause-turn
returns-in_err-left-clause-turn g c =
    let p = err_from_is_err_and c.from_residual.result c.from_residual.ensures.1 in
    λ tells. rw (p.1, p.2)
    (left_in_turn (g.F.Files.held c.args.files.now) (map string_bytes c.args.left.now) (map string_bytes c.args.right.now) c.in_err-left.field-0.0 (c.in_err-left.ensures.turn tells))

pub returns-in_err-right-clause-turn : goal.returns-in_err-right-clause-turn
returns-in_err-right-clause-turn g c =
    let p = err_from_is_err_and c.from_residual-in_err-right.result c.from_residual-in_err-right.ensures.1 in
    λ tells. rw (p.1, p.2)
    (right_in_turn (g.F.Files.held c.args.files.now) (map string_bytes c.args.left.now) (map string_bytes c.args.right.now) c.in_ok-left.left c.first_core.result.now (g.F.Files.held c.of_logs.new.files) c.in_err-right.field-0.0
    (c.in_ok-left.ensures.said tells) c.first_core.ensures c.in_ok-left.ensures.files (c.in_err-right.ensures.turn tells))
