use Rattle.std.proofs.Common.{◌-◌, List, ℕ, length, take, drop, map, Some, sym, ap, subst, ◌∙◌}
use Rattle.std.specs.Prelude.{string_bytes}
use Rattle.std.proofs.lemmas.Result.{err_from_is_err_and}
use Rattle.hw_eras.specs.Logs.{eras_of}
use Rattle.hw_eras.specs.Stops.{StopsSo}
use Rattle.hw_eras.proofs.StopLaws.{names_first, begun_eras, stopped_eras, about_then}
use Rattle.hw_eras.proofs.TurnLaws.{first_in_turn, behind_first}
use Rattle.hw_eras.proofs.filled.Filled.of_logs_like.Goals as goal

pub returns-in_err-filled-clause-said : goal.returns-in_err-filled-clause-said
returns-in_err-filled-clause-said g c =
    let p = err_from_is_err_and c.from_residual.result c.from_residual.ensures.1 in
    let held = g.F.Files.held c.args.files.now in
    let rest : List (List ℕ) = map string_bytes (take (length c.args.logs.now - 1) (drop 1 c.args.logs.now)) in
    let names = names_first string_bytes c.args.logs.now c.index-logs-0.result c.as_str.result.now c.requires.some c.index-logs-0.is c.as_str.ensures.value in
    let e = c.in_err-filled.field-0.0 in
    λ tells. rw (p.1, p.2) (subst (StopsSo e) (sym (ap (eras_of held (Some c.args.core.now.config)) names)) (stopped_eras held (Some c.args.core.now.config) c.as_str.result.now rest e (c.in_err-filled.ensures.said tells)))

pub returns-in_err-take_all-clause-said : goal.returns-in_err-take_all-clause-said
returns-in_err-take_all-clause-said g c =
    let p = err_from_is_err_and c.from_residual-in_err-take_all.result c.from_residual-in_err-take_all.ensures.1 in
    let held = g.F.Files.held c.args.files.now in
    let rest : List (List ℕ) = map string_bytes (take (length c.args.logs.now - 1) (drop 1 c.args.logs.now)) in
    let names = names_first string_bytes c.args.logs.now c.index-logs-0.result c.as_str.result.now c.requires.some c.index-logs-0.is c.as_str.ensures.value in
    λ tells.
    let is = ap (eras_of held (Some c.args.core.now.config)) names ∙ begun_eras held (Some c.args.core.now.config) c.as_str.result.now rest (g.F.Files.held c.begin_like.new.files) c.in_ok-filled.filled c.in_ok-filled.ensures.files (c.in_ok-filled.ensures.said tells) in
    rw (p.1, p.2) (subst (StopsSo c.in_err-take_all.field-0.0) (sym is) (c.in_err-take_all.ensures.said tells))

pub returns-clause-said : goal.returns-clause-said
returns-clause-said g c = λ tells.
    let held = g.F.Files.held c.args.files.now in
    let rest : List (List ℕ) = map string_bytes (take (length c.args.logs.now - 1) (drop 1 c.args.logs.now)) in
    let names = names_first string_bytes c.args.logs.now c.index-logs-0.result c.as_str.result.now c.requires.some c.index-logs-0.is c.as_str.ensures.value in
    ap (eras_of held (Some c.args.core.now.config)) names
    ∙ begun_eras held (Some c.args.core.now.config) c.as_str.result.now rest (g.F.Files.held c.begin_like.new.files) c.in_ok-filled.filled c.in_ok-filled.ensures.files (c.in_ok-filled.ensures.said tells)
    ∙ c.in_ok-take_all.ensures.said tells

pub returns-in_err-take_all-clause-about : goal.returns-in_err-take_all-clause-about
returns-in_err-take_all-clause-about g c =
    let p = err_from_is_err_and c.from_residual-in_err-take_all.result c.from_residual-in_err-take_all.ensures.1 in
    λ tells. rw (p.1, p.2)
    (about_then (g.F.Files.held c.args.files.now) (g.F.Files.held c.begin_like.new.files) _ _ _ c.in_err-take_all.field-0.0 c.in_ok-filled.ensures.files (c.in_ok-filled.ensures.about tells) (c.in_err-take_all.ensures.about tells))

pub returns-in_err-filled-clause-turn : goal.returns-in_err-filled-clause-turn
returns-in_err-filled-clause-turn g c =
    let p = err_from_is_err_and c.from_residual.result c.from_residual.ensures.1 in
    let rest : List (List ℕ) = map string_bytes (take (length c.args.logs.now - 1) (drop 1 c.args.logs.now)) in
    let names = names_first string_bytes c.args.logs.now c.index-logs-0.result c.as_str.result.now c.requires.some c.index-logs-0.is c.as_str.ensures.value in
    λ tells. rw (p.1, p.2) (first_in_turn (g.F.Files.held c.args.files.now) (Some c.args.core.now.config) (map string_bytes c.args.logs.now) c.as_str.result.now rest c.in_err-filled.field-0.0 names c.in_err-filled.ensures.named)

pub returns-in_err-take_all-clause-turn : goal.returns-in_err-take_all-clause-turn
returns-in_err-take_all-clause-turn g c =
    let p = err_from_is_err_and c.from_residual-in_err-take_all.result c.from_residual-in_err-take_all.ensures.1 in
    let rest : List (List ℕ) = map string_bytes (take (length c.args.logs.now - 1) (drop 1 c.args.logs.now)) in
    let names = names_first string_bytes c.args.logs.now c.index-logs-0.result c.as_str.result.now c.requires.some c.index-logs-0.is c.as_str.ensures.value in
    λ tells. rw (p.1, p.2)
    (behind_first (g.F.Files.held c.args.files.now) (g.F.Files.held c.begin_like.new.files) (Some c.args.core.now.config) (map string_bytes c.args.logs.now) c.as_str.result.now rest c.in_ok-filled.filled c.in_err-take_all.field-0.0 c.in_ok-filled.ensures.files names
    (c.in_ok-filled.ensures.said tells) (c.in_err-take_all.ensures.turn tells))
