use Rattle.std.proofs.Common.{◌≡◌, [], subst}
use Rattle.std.specs.Prelude.{IfOk}
use Rattle.hw_types.specs.declared.config.Config.{Config}
use Rattle.hw_types.specs.Real.{setting_of}
use Rattle.hw_script.specs.Output.{acts_text}
use Rattle.hw_script.proofs.run.run.Goals as goal

pub returns-in-Ok : goal.returns-in-Ok
returns-in-Ok c = subst (λ (k : Config). IfOk c.printed.result (λ output. output ≡ acts_text c.args.names.now (setting_of k) [] c.args.acts.now)) c.in-Ok.ensures.config c.printed.ensures
