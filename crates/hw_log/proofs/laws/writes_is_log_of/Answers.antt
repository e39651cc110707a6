use Rattle.std.proofs.Common.{sym, subst, ◌∙◌}
use Rattle.hw_log.specs.Log.{log_of}
use Rattle.hw_log.specs.Grammar.{Says}
use Rattle.hw_log.proofs.GrammarLaws.{explain, there}
use Rattle.hw_log.proofs.laws.writes_is_log_of.Goals as goal

pub returns : goal.returns
returns c = record {
  read = λ bytes said fits. (λ e. subst (Says bytes) e (explain bytes fits), there bytes said);
  one = λ bytes a b x y. sym (there bytes a x) ∙ there bytes b y;
  all = λ bytes fits. (log_of bytes, explain bytes fits);
}
