use Rattle.std.proofs.Common.{Err, inl, refl, ap, ◌∙◌}
use Rattle.std.proofs.lemmas.Result.{err_from_is_err_and}
use Rattle.hw_types.specs.declared.config.Config.{Config}
use Rattle.hw_types.specs.Real.{CoreState, setting_of}
use Rattle.hw_honest.specs.Cluster.{value_at}
use Rattle.hw_session.specs.declared.fault.MakeFault.TheVariants as make
use Rattle.hw_service.proofs.OwnLaws.{value_same}
use Rattle.hw_service.proofs.own.make_unit.Goals as goal

pub returns-clause-makes : goal.returns-clause-makes
returns-clause-makes g c = λ door.
    let config = c.config.ensures.config ∙ c.state.ensures.config ∙ ap (λ (k : CoreState). k.config) c.core.ensures in
    value_same _ _ _ _ _ _ _ _ _ (c.as_slice.ensures ∙ c.in_ok-value.ensures.value ∙ ap (λ (k : Config). value_at (setting_of k) c.args.me c.args.moment) config) (c.make_with.ensures.makes door)

pub returns-in_err-value-clause-makes : goal.returns-in_err-value-clause-makes
returns-in_err-value-clause-makes g c = λ door.
    let p = err_from_is_err_and c.from_residual.result c.from_residual.ensures.1 in
    rw (p.1, p.2) (record {
      made = Err make.OutOfMemory;
      makes = inl refl;
      log = λ tells. inl (refl, λ name. refl);
      told = (refl, record { kept = refl; consumers = refl; written = refl });
      door = refl;
    })
