use Rattle.std.proofs.Common.{◌≡◌, ◌++◌, []}
use Rattle.hw_types.specs.Real.{setting_of}
use Rattle.hw_script.specs.Told.{HasTold}
use Rattle.hw_script.specs.Output.{acts_text}
use Rattle.hw_script.proofs.RunLaws.{with_rest}
use Rattle.hw_script.proofs.steps.act_all.Given as goal

abbrev pub invariant-loop-place : goal.invariant-loop-place
invariant-loop-place l =
    let first = l.initial.core.config in
    record {
      told : HasTold l.names l.finals l.core;
      config : l.core.config ≡ first;
      printed : with_rest l.names (setting_of first) l.out l.core.journal l.acts l.place ≡ l.initial.out ++ acts_text l.names (setting_of first) [] l.acts;
    }
