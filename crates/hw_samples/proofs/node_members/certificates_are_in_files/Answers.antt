use Rattle.hw_samples.proofs.FileMembers.{certificates_are_in_files}
use Rattle.hw_samples.proofs.node_members.certificates_are_in_files.Goals as goal

pub returns : goal.returns
returns c = certificates_are_in_files
