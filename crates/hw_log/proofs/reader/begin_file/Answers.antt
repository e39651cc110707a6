use Rattle.hw_io.proofs.About.{begun-subject}
use Rattle.hw_log.proofs.reader.begin_file.Goals as goal

pub returns-in-Ok-clause-subject : goal.returns-in-Ok-clause-subject
returns-in-Ok-clause-subject g c = λ tells. begun-subject _ _ _ _ (c.in-Ok.ensures.whole tells)
