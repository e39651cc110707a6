use Rattle.hw_commands.proofs.CertifyLaws.{written_of, answered_of}
use Rattle.hw_commands.specs.Certified.{IsAnswered, IsCertificateOf}
use Rattle.hw_commands.proofs.certify.certify_node.Goals as goal

pub returns-clause-files : goal.returns-clause-files
returns-clause-files g c = λ tells.
    written_of (IsAnswered c.in_ok-asked.asked) (IsCertificateOf c.args.core.now c.args.block.now) (answered_of c.args.core.now c.args.block.now c.in_ok-asked.asked c.in_ok-asked.ensures.answer c.in_ok-asked.ensures.fits)
    c.args.new.now _ _ _ (c.write_asked.ensures.files tells)
