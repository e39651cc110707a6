use Rattle.std.proofs.Common.{codes, Ok, inl, inr, ap, ◌∙◌}
use Rattle.hw_commands.specs.declared.ended.Ended.{Ended}
use Rattle.hw_commands.proofs.FaultLaws.{input_status}
use Rattle.hw_commands.proofs.CertifyLaws.{same_files, there_not_done}
use Rattle.hw_commands.proofs.certify.certified.Goals as goal

pub returns-then-branch-clause-status : goal.returns-then-branch-clause-status
returns-then-branch-clause-status g c = inr (inr (inl (ap (λ (e : Ended). e.status) c.in_ok-there.ensures ∙ input_status c.args.new.now (codes "exists"))))

pub returns-then-branch-clause-files : goal.returns-then-branch-clause-files
returns-then-branch-clause-files g c = λ tells.
    same_files (g.F.Files.held c.args.files.now) c.args.log.now c.args.block.now c.args.new.now _ _ (there_not_done c.args.new.now (Ok c.in_ok-there.field-0) c.in_ok-there.ensures) c.in_ok-is_there.ensures.files
