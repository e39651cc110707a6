use Rattle.std.proofs.lemmas.Result.{err_from_is_err_and}
use Rattle.hw_service.proofs.LineLaws.{done_told, line_told, cut_told}
use Rattle.hw_service.proofs.lines.tell_end.Goals as goal

pub returns-in-Done-clause-told : goal.returns-in-Done-clause-told
returns-in-Done-clause-told g c = rw c.in-Done.is (done_told c.args.who.now c.args.number c.args.node.now (g.S.Sink.taken c.args.out.now))

pub returns-in_ok-write_end-in_default : goal.returns-in_ok-write_end-in_default
returns-in_ok-write_end-in_default g c =
    let n = c.in_default in
    record {
      told = rw c.is_link_fault.ensures (line_told c.args.who.now c.args.number c.args.node.now _ _ c.args.end n.not-Done n.not-AppendFault n.not-Clash n.not-OutOfMemory c.in_ok-write_end-in_default.ensures.written);
      writes = c.in_ok-write_end-in_default.ensures.writes;
    }

pub returns-in_err-write_end-in_default : goal.returns-in_err-write_end-in_default
returns-in_err-write_end-in_default g c =
    let n = c.in_default in
    let p = err_from_is_err_and c.from_residual.result c.from_residual.ensures.1 in
    rw (p.1, p.2) (record {
      told = cut_told c.args.who.now c.args.number c.args.node.now _ _ c.args.end n.not-Done n.not-AppendFault n.not-Clash n.not-OutOfMemory c.in_err-write_end-in_default.field-0.0 c.in_err-write_end-in_default.ensures.fault c.in_err-write_end-in_default.ensures.written;
      writes = c.in_err-write_end-in_default.ensures.writes;
    })
