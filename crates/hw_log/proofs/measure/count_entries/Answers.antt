use Rattle.std.proofs.Common.{◌∙◌, arith}
use Rattle.hw_log.proofs.MeasureLaws.{one_more, none_more, error_more}
use Rattle.hw_log.proofs.measure.count_entries.Goals as goal

pub entries-preserved : goal.entries-preserved
entries-preserved g c = record {
  stands = λ tells bytes first.
      one_more bytes c.entries.count c.entries.reader c.skip.new.reader (g.F.Files.unread c.entries.files) (g.F.Files.unread c.skip.new.files) c.in-Ok.more (c.entries.invariant.stands tells bytes first) c.if-not-more.false (c.in-Ok.ensures.said tells) c.in-Ok.ensures.config;
  places = c.in-Ok.ensures.places;
  few = omega (arith, c.entries.invariant.few, c.in-Ok.ensures.nearer);
  counted = c.in-Ok.ensures.cause.failed ∙ c.entries.invariant.counted;
  about = c.in-Ok.ensures.about ∙ c.entries.invariant.about;
  begun = c.in-Ok.ensures.begun ∙ c.entries.invariant.begun;
  files = λ name. c.in-Ok.ensures.files name ∙ c.entries.invariant.files name;
  appends = c.in-Ok.ensures.appends ∙ c.entries.invariant.appends;
}

pub returns-then-not-more-clause-said : goal.returns-then-not-more-clause-said
returns-then-not-more-clause-said g c = λ tells bytes first.
    rw c.ended.ensures (none_more bytes c.entries.count c.entries.reader (g.F.Files.unread c.entries.files) _ c.in-Ok.more (c.entries.invariant.stands tells bytes first) c.if-not-more.true (c.in-Ok.ensures.said tells))

pub returns-in-Err-clause-said : goal.returns-in-Err-clause-said
returns-in-Err-clause-said g c = λ tells bytes first.
    error_more bytes c.entries.count c.entries.reader (g.F.Files.unread c.entries.files) c.in-Err.error c.ended-in-Err.result (c.entries.invariant.stands tells bytes first) (c.in-Err.ensures.said tells) c.ended-in-Err.ensures
