use Rattle.std.proofs.Common.{◌≡◌, ◌++◌, ◌+◌, refl, ap, ◌∙◌}
use Rattle.hw_types.specs.declared.config.Config.{Config}
use Rattle.hw_types.specs.Journal.{Setting}
use Rattle.hw_types.specs.Real.{CoreState, setting_of}
use Rattle.hw_script.specs.Output.{act_text, acts_text, journal_behind}
use Rattle.hw_script.proofs.ToldLaws.{told_nothing}
use Rattle.hw_script.proofs.RunLaws.{with_rest, one_step}
use Rattle.hw_script.proofs.steps.act_all.Goals as goal

pub loop-place-init : goal.loop-place-init
loop-place-init c =
    let core = c.args.core.now in
    record {
      told = told_nothing c.args.names.now core c.new-finals.result c.requires c.new-finals.ensures;
      config = refl;
      printed = ap (λ journal. c.args.out.now ++ acts_text c.args.names.now (setting_of core.config) journal c.args.acts.now) c.requires;
    }

pub loop-place-preserved : goal.loop-place-preserved
loop-place-preserved c =
    let l = c.loop-place in
    let names = c.args.names.now in
    let acts = c.args.acts.now in
    let s = setting_of c.args.core.now.config in
    let act = c.get.result.now in
    let setting : setting_of l.core.config ≡ s = ap (λ (k : Config). setting_of k) l.invariant.config in
    let out : c.act.new.out ≡ l.out ++ act_text names s l.core.journal act = c.in_ok-act.ensures.out ∙ ap (λ (k : Setting). l.out ++ act_text names k l.core.journal act) setting in
    let journal : c.act.new.core.journal ≡ journal_behind s l.core.journal act =
    ap (λ (k : CoreState). k.journal) c.in_ok-act.ensures.core ∙ ap (λ (k : Setting). journal_behind k l.core.journal act) setting in
    record {
      told = c.in_ok-act.ensures.told;
      config = ap (λ (k : CoreState). k.config) c.in_ok-act.ensures.core ∙ l.invariant.config;
      printed = (λ i. with_rest names s (out i) (journal i) acts (l.place + 1)) ∙ one_step names s l.out l.core.journal acts l.place act c.get.ensures.act ∙ l.invariant.printed;
    }
