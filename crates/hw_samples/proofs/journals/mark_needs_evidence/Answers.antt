use Rattle.hw_samples.proofs.JournalSamples.{mark_needs_evidence}
use Rattle.hw_samples.proofs.journals.mark_needs_evidence.Goals as goal

pub returns : goal.returns
returns c = mark_needs_evidence
