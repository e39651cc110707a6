use Rattle.std.proofs.Common.{ℕ, List}
use Rattle.std.proofs.lemmas.Result.{err_from_is_err_and}
use Rattle.hw_types.specs.declared.config.Config.{Config}
use Rattle.hw_service.specs.Begin.{names_of}
use Rattle.hw_service.proofs.BeginLaws.{about_config, about_keys}
use Rattle.hw_service.proofs.begin.read_sources.Goals as goal

pub returns-in_err-config-clause-about : goal.returns-in_err-config-clause-about
returns-in_err-config-clause-about g c =
    let p = err_from_is_err_and c.from_residual.result c.from_residual.ensures.1 in
    λ tells. rw (p.1, p.2) (about_config Config Config (names_of c.args.sources) c.args.me (g.F.Files.held c.args.files.now) _ _ _ (c.in_err-config.ensures.about tells))

pub returns-in_err-keys-clause-about : goal.returns-in_err-keys-clause-about
returns-in_err-keys-clause-about g c =
    let p = err_from_is_err_and c.from_residual-in_err-keys.result c.from_residual-in_err-keys.ensures.1 in
    λ tells. rw (p.1, p.2)
    (about_keys (List (List ℕ)) Config (names_of c.args.sources) c.args.me (g.F.Files.held c.args.files.now) (g.F.Files.held c.read_config.new.files) _ _ _ c.in_ok-config.config (c.in_ok-config.ensures.said tells) c.in_ok-test_validator.ensures.is
    c.in_ok-config.ensures.files (c.in_ok-config.ensures.about tells) _ (c.in_err-keys.ensures.about tells))
