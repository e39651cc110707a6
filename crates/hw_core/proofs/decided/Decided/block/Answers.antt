use Rattle.std.proofs.Common.{refl, sym, ap, ◌∙◌}
use Rattle.std.specs.Prelude.{slice_get}
use Rattle.hw_core.specs.Decided.{DecidedState}
use Rattle.hw_core.proofs.decided.Decided.block.Goals as goal

pub returns : goal.returns
returns c = (c.found_at.result.now, ap (λ (d : DecidedState). slice_get d.detector.found c.args.index) (sym c.self.view_is) ∙ sym c.found_at.ensures, refl)
