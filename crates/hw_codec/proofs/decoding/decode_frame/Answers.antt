use Rattle.std.proofs.Common.{arith}
use Rattle.hw_codec.proofs.Decoded.{given_is_read}
use Rattle.hw_codec.proofs.Fields.{bytes_are}
use Rattle.hw_codec.proofs.Spelled.{frame_found, frame_spelled_reads}
use Rattle.hw_codec.proofs.decoding.decode_frame.Goals as goal

pub returns-clause-ok : goal.returns-clause-ok
returns-clause-ok c = frame_found c.args.body.now _ (bytes_are _ (λ i. omega (arith, c.type_inv.body i))) c.whole_frame.ensures

pub returns-clause-read : goal.returns-clause-read
returns-clause-read c = λ x in_range spells. given_is_read _ _ x c.whole_frame.ensures (frame_spelled_reads c.args.body.now x in_range spells)
