use Rattle.std.proofs.lemmas.Result.{err_from_is_err_and}
use Rattle.hw_replay.specs.declared.fault.StartFault.TheVariants as fault
use Rattle.hw_session.proofs.AppendLaws.{as_err}
use Rattle.hw_session.proofs.StartLaws.{config_fits, unwritten, header_counted, whole_before}
use Rattle.hw_session.proofs.node.Node.begin.Goals as goal

pub append_header-requires-clause-config : goal.append_header-requires-clause-config
append_header-requires-clause-config g c = config_fits c.args.config c.requires.lawful

pub returns-in-Err-clause-error : goal.returns-in-Err-clause-error
returns-in-Err-clause-error g c = rw c.fault_of_log.ensures (unwritten _ _ _ c.in-Err.error c.in-Err.ensures.cause)

pub returns-in-Err-clause-log : goal.returns-in-Err-clause-log
returns-in-Err-clause-log g c = λ tells. as_err _ _ _ _ c.in-Err.error c.fault_of_log.result (c.in-Err.ensures.bytes tells)

pub returns-in-Err-clause-cause : goal.returns-in-Err-clause-cause
returns-in-Err-clause-cause g c = rw c.fault_of_log.ensures (header_counted _ _ _ c.in-Err.error c.in-Err.ensures.cause)

pub returns-in_err-new_node-in-Ok-clause-log : goal.returns-in_err-new_node-in-Ok-clause-log
returns-in_err-new_node-in-Ok-clause-log g c = λ tells.
    let p = err_from_is_err_and c.from_residual.result c.from_residual.ensures.1 in
    rw (p.1, p.2) (whole_before _ _ _ _ tt fault.OutOfMemory (c.in-Ok.ensures.bytes tells))
