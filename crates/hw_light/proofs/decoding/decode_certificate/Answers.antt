use Rattle.std.proofs.Common.{arith}
use Rattle.hw_codec.proofs.Fields.{bytes_are}
use Rattle.hw_light.proofs.Spelled.{found, spelled_reads, given_is_read}
use Rattle.hw_light.proofs.decoding.decode_certificate.Goals as goal

pub returns-clause-ok : goal.returns-clause-ok
returns-clause-ok c = found c.args.bytes.now _ (bytes_are _ (λ i. omega (arith, c.type_inv.bytes i))) c.whole_certificate.ensures.said

pub returns-clause-read : goal.returns-clause-read
returns-clause-read c = λ x in_range spells. given_is_read _ _ x c.whole_certificate.ensures.said (spelled_reads c.args.bytes.now x in_range spells)
