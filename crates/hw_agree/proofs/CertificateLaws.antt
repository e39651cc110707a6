-- What a certificate shows.
use Rattle.std.proofs.Common.{◌≡◌, length, sym, ◌∙◌}
use Rattle.hw_types.specs.declared.answers.Decision.{Decision}
use Rattle.hw_safety.proofs.DetectorLaws.{over_of, last_stood}
use Rattle.hw_safety.proofs.VerdictHeightLaws.{one_height}
use Rattle.hw_agree.specs.Certificates.{delivered, journal_from}
use Rattle.hw_agree.specs.CertificateLaws.{CertifiedIsDecided, CertificateIsAccountable}
use Rattle.hw_types.proofs.OrderedLaws.{any_among, any_is}

pub decided : CertifiedIsDecided
decided s vertices block ds c made =
    let journal = journal_from s vertices in
    let d = any_is (λ (d : Decision). d.block ≡ c.unit.digest) ds (made.complete c.unit c.level c.quorum (length journal) (last_stood s journal c.unit c.level c.quorum c.few_faulty (over_of s journal c.unit c.level c.quorum c.stands))) in
    any_among (λ (d : Decision). d.block ≡ block) ds d.0 d.1 (d.2 ∙ c.named)

pub accountable : CertificateIsAccountable
accountable s vertices block ds deliveries es e v c made others m at other verdict =
    let d = any_is (λ (d : Decision). (d.block ≡ block) × (d.height ≡ e.height)) ds at in
    one_height s (delivered vertices) deliveries ds es d.0 e v made others d.1 m d.2.1 (λ same. other (sym same ∙ d.2.0)) verdict
