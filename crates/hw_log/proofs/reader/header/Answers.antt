use Rattle.std.proofs.Common.{◌∙◌}
use Rattle.std.proofs.lemmas.Result.{err_from_is_err_and}
use Rattle.hw_log.proofs.HeadLaws.{header_fails, header_said}
use Rattle.hw_log.proofs.reader.header.Goals as goal

pub returns-clause-said : goal.returns-clause-said
returns-clause-said g c = λ tells.
    let config = rw c.as_slice.ensures.bytes at c.in_ok-config.ensures.said in
    header_said _ c.need.new.buffer (g.F.Files.unread c.need.new.files) c.in_ok-front.front c.in_ok-config.config c.len.result c.in_ok-lasts.lasts c.consume.new.self
    (c.in_ok-front.ensures.said tells) (c.in_ok-need.ensures.left tells ∙ c.in_ok-front.ensures.rest tells) c.in_ok-need.ensures.held config c.len.ensures c.in_ok-lasts.ensures c.consume.ensures.rest

pub returns-in_err-config-clause-said : goal.returns-in_err-config-clause-said
returns-in_err-config-clause-said g c =
    let p = err_from_is_err_and c.from_residual-in_err-config.result c.from_residual-in_err-config.ensures.1 in
    λ tells.
    let fails = rw c.as_slice.ensures.bytes at c.in_err-config.ensures.said in
    rw (p.1, p.2)
    (header_fails _ c.need.new.buffer (g.F.Files.unread c.need.new.files) c.in_ok-front.front _ (c.in_ok-front.ensures.said tells)
    (c.in_ok-need.ensures.left tells ∙ c.in_ok-front.ensures.rest tells) c.in_ok-need.ensures.held fails)
