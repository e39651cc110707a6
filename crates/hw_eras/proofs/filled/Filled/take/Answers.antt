use Rattle.std.proofs.Common.{sym, ap, ◌∙◌, arith}
use Rattle.std.specs.Option.{option_copied}
use Rattle.std.proofs.lemmas.Result.{err_from_is_err_and}
use Rattle.hw_replay.specs.Replay.{taken_in}
use Rattle.hw_eras.proofs.FilledLaws.{its, next_is, is_there, like_last, next_none, none_ahead, ahead_same, still_filled, still_first}
use Rattle.hw_eras.proofs.StopLaws.{stopped_ahead}
use Rattle.hw_eras.proofs.TurnLaws.{in_turn, turn_on}
use Rattle.hw_eras.proofs.filled.Filled.take.Goals as goal

pub returns-in_default-clause-said : goal.returns-in_default-clause-said
returns-in_default-clause-said g c = λ tells logs.
    none_ahead (g.F.Files.held c.args.files.now) c.args.self.now c.args.log.now logs (next_none c.args.self.now c.len.result (omega (arith, c.len.ensures)) (sym c.core.ensures ∙ ap option_copied c.in_default.is))

pub put-requires-clause-there : goal.put-requires-clause-there
put-requires-clause-there g c = is_there c.args.self.now c.requires.filled c.len.result (omega (arith, c.len.ensures)) c.in-Some.core.now (sym c.core.ensures ∙ ap option_copied c.in-Some.is)

pub put-requires-clause-config : goal.put-requires-clause-config
put-requires-clause-config g c =
    like_last c.args.self.now c.requires.filled c.len.result (omega (arith, c.len.ensures)) c.in-Some.core.now (sym c.core.ensures ∙ ap option_copied c.in-Some.is) c.in_ok-replay.replay.core.config c.in_ok-replay.ensures.like

pub returns-in_err-replay-clause-said : goal.returns-in_err-replay-clause-said
returns-in_err-replay-clause-said g c =
    let p = err_from_is_err_and c.from_residual.result c.from_residual.ensures.1 in
    let next = next_is c.args.self.now c.requires.filled c.len.result (omega (arith, c.len.ensures)) c.in-Some.core.now (sym c.core.ensures ∙ ap option_copied c.in-Some.is) in
    λ tells. rw (p.1, p.2) (λ logs. stopped_ahead (g.F.Files.held c.args.files.now) c.args.self.now c.args.log.now logs c.in-Some.core.now.config c.in_err-replay.field-0.0 next (c.in_err-replay.ensures.said tells))

pub returns-clause-said : goal.returns-clause-said
returns-clause-said g c = λ tells logs room.
    let next = next_is c.args.self.now c.requires.filled c.len.result (omega (arith, c.len.ensures)) c.in-Some.core.now (sym c.core.ensures ∙ ap option_copied c.in-Some.is) in
    ahead_same c.args.self.now c.put.new.self (taken_in c.in_ok-replay.replay) c.requires.room c.requires.filled c.in_ok-put.ensures.taken (g.F.Files.held c.args.files.now) c.args.log.now logs c.in-Some.core.now.config next
    (c.in_ok-replay.ensures.said tells) room

pub returns-clause-filled : goal.returns-clause-filled
returns-clause-filled g c = still_filled c.args.self.now c.put.new.self (taken_in c.in_ok-replay.replay) c.requires.room c.requires.filled c.in_ok-put.ensures.taken

pub returns-clause-first : goal.returns-clause-first
returns-clause-first g c =
    still_first c.args.self.now c.put.new.self (taken_in c.in_ok-replay.replay) c.requires.room c.requires.filled c.in_ok-put.ensures.taken c.in-Some.core.now
    (its c.args.self.now c.requires.filled c.len.result (omega (arith, c.len.ensures)) c.in-Some.core.now (sym c.core.ensures ∙ ap option_copied c.in-Some.is)) c.in_ok-replay.ensures.like

pub returns-in_err-replay-clause-turn : goal.returns-in_err-replay-clause-turn
returns-in_err-replay-clause-turn g c =
    let p = err_from_is_err_and c.from_residual.result c.from_residual.ensures.1 in
    let next = next_is c.args.self.now c.requires.filled c.len.result (omega (arith, c.len.ensures)) c.in-Some.core.now (sym c.core.ensures ∙ ap option_copied c.in-Some.is) in
    λ tells. rw (p.1, p.2) (λ logs. in_turn (g.F.Files.held c.args.files.now) c.args.self.now c.args.log.now logs c.in-Some.core.now.config c.in_err-replay.field-0.0 next c.in_err-replay.ensures.named)

pub returns-clause-turn : goal.returns-clause-turn
returns-clause-turn g c = λ tells.
    let next = next_is c.args.self.now c.requires.filled c.len.result (omega (arith, c.len.ensures)) c.in-Some.core.now (sym c.core.ensures ∙ ap option_copied c.in-Some.is) in
    turn_on (g.F.Files.held c.args.files.now) c.args.self.now c.put.new.self (taken_in c.in_ok-replay.replay) c.args.log.now c.in-Some.core.now.config c.requires.room c.requires.filled c.in_ok-put.ensures.taken next (c.in_ok-replay.ensures.said tells)
