use Rattle.std.proofs.Common.{arith}
use Rattle.hw_codec.proofs.Decoded.{given_is_read}
use Rattle.hw_codec.proofs.Fields.{bytes_are}
use Rattle.hw_codec.proofs.CompactLaws.{after_found, after_reads}
use Rattle.hw_codec.proofs.compact.decode_vertex_after.Goals as goal

pub returns-clause-ok : goal.returns-clause-ok
returns-clause-ok c = after_found c.args.lasts.now c.args.bytes.now _ (bytes_are _ (λ i. omega (arith, c.type_inv.bytes i))) c.whole_after.ensures.read c.whole_after.ensures.limit

pub returns-clause-read : goal.returns-clause-read
returns-clause-read c = λ x in_range spells. given_is_read _ _ x c.whole_after.ensures.read (after_reads c.args.lasts.now c.args.bytes.now x in_range spells)
