use Rattle.std.proofs.Common.{subst}
use Rattle.hw_replay.specs.Causes.{IsFaultCounted}
use Rattle.hw_commands.proofs.FaultLaws.{read_of_log, said_other, said_clash, said_records, said_parked}
use Rattle.hw_commands.proofs.faults.stopped.Goals as goal

pub returns-in-Log-clause-cause : goal.returns-in-Log-clause-cause
returns-in-Log-clause-cause c = λ before now counted. c.unread.ensures.cause before now (subst (IsFaultCounted before now) c.in-Log.is counted)

pub returns-in-Log-clause-read : goal.returns-in-Log-clause-read
returns-in-Log-clause-read c = read_of_log c.args.fault _ c.unread.result c.in-Log.is c.unread.ensures.read

pub returns-in_ok-other_config-in-OtherConfig-clause-said : goal.returns-in_ok-other_config-in-OtherConfig-clause-said
returns-in_ok-other_config-in-OtherConfig-clause-said c = said_other c.args.name.now c.args.fault _ c.in-OtherConfig.is c.in_ok-other_config-in-OtherConfig.ensures

pub returns-in_ok-clash-in-Clash-clause-said : goal.returns-in_ok-clash-in-Clash-clause-said
returns-in_ok-clash-in-Clash-clause-said c = said_clash c.args.name.now c.args.fault _ _ _ c.in-Clash.is c.in_ok-clash-in-Clash.ensures

pub returns-in_ok-limit-in-RecordsFull-clause-said : goal.returns-in_ok-limit-in-RecordsFull-clause-said
returns-in_ok-limit-in-RecordsFull-clause-said c = said_records c.args.name.now c.args.fault _ _ c.in-RecordsFull.is c.in_ok-limit-in-RecordsFull.ensures

pub returns-in_ok-limit-in-ParkFull-clause-said : goal.returns-in_ok-limit-in-ParkFull-clause-said
returns-in_ok-limit-in-ParkFull-clause-said c = said_parked c.args.name.now c.args.fault _ _ c.in-ParkFull.is c.in_ok-limit-in-ParkFull.ensures
