use Rattle.std.proofs.Common.{refl}
use Rattle.std.proofs.lemmas.Result.{err_from_is_err_and}
use Rattle.hw_service.proofs.CloseLaws.{still_whole}
use Rattle.hw_service.proofs.LineLaws.{prefix_none}
use Rattle.hw_service.proofs.close.close_host.Goals as goal

pub returns-clause-whole : goal.returns-clause-whole
returns-clause-whole g c = λ count so. still_whole _ _ _ _ _ _ _ c.finish.ensures.finished so

pub returns-in_err-write_bytes-clause-whole : goal.returns-in_err-write_bytes-clause-whole
returns-in_err-write_bytes-clause-whole g c = λ count so. still_whole _ _ _ _ _ _ _ c.finish.ensures.finished so

pub returns-in_err-text-clause-reports : goal.returns-in_err-text-clause-reports
returns-in_err-text-clause-reports g c = λ files door.
    let p = err_from_is_err_and c.from_residual.result c.from_residual.ensures.1 in
    rw (p.1, p.2) (record {
      kept = c.finish.new.self;
      closes = record { finished = c.finish.ensures.finished; files = refl; door = refl };
      written = prefix_none _ _;
    })

pub returns-in_err-text-clause-whole : goal.returns-in_err-text-clause-whole
returns-in_err-text-clause-whole g c = λ count so. still_whole _ _ _ _ _ _ _ c.finish.ensures.finished so
