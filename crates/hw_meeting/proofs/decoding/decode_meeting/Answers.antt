use Rattle.std.proofs.Common.{Ok, Err, inl, inr, sym, ap, ◌∙◌, arith}
use Rattle.hw_codec.proofs.Fields.{bytes_are}
use Rattle.hw_codec.proofs.Readings.{ok_is}
use Rattle.hw_meeting.proofs.FrameLaws.{meeting_takes, found, wants, misses}
use Rattle.hw_meeting.proofs.decoding.decode_meeting.Goals as goal

pub returns-in-Ok-clause-ok : goal.returns-in-Ok-clause-ok
returns-in-Ok-clause-ok c = meeting_takes c.args.validators c.ranges.validators.fits c.args.body.now c.in-Ok.frame (bytes_are _ (λ i. omega (arith, c.type_inv.body i))) c.in-Ok.ensures

pub returns-in-Ok-clause-read : goal.returns-in-Ok-clause-read
returns-in-Ok-clause-read c = λ f in_range spells. inl (ap Ok (ok_is c.in-Ok.frame f (sym c.in-Ok.ensures ∙ found c.args.validators c.ranges.validators.fits c.args.body.now f spells in_range)))

pub returns-in-Err : goal.returns-in-Err
returns-in-Err c = record {
  ok = tt;
  value = tt;
  form = λ is. misses c.in-Err.error _ c.in-Err.ensures (sym c.fault_of.ensures ∙ is);
  read = λ f in_range spells. inr (ap Err (c.fault_of.ensures ∙ wants c.in-Err.error _ f c.in-Err.ensures (found c.args.validators c.ranges.validators.fits c.args.body.now f spells in_range)));
}
