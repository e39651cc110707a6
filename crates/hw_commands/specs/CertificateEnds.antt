-- How the runs of `certify` and `check` end.
-- Source: ours.
use Rattle.hw_light.specs.declared.answers.CheckFault.{CheckFault}
use Rattle.hw_light.specs.Asked.{Outcome, HasCertificate}
use Rattle.hw_light.specs.Texts.{told_line, fault_line}
use Rattle.hw_commands.specs.declared.ended.Ended.{Ended}

-- the end of `certify`: 0 where a certificate is made, and else 10, with its line
abbrev pub certify_ended : Outcome → Ended
certify_ended (HasCertificate count) = record { status = 0; text = told_line (HasCertificate count) }
certify_ended told = record { status = 10; text = told_line told }

-- the end of `check` where the certificate shows nothing: 10, with the line of the fault
abbrev pub refused_ended : CheckFault → Ended
refused_ended fault = record { status = 10; text = fault_line fault }
