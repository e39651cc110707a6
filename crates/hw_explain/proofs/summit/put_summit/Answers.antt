use Rattle.std.proofs.Common.{◌++◌, ◌∙◌, ap, ℕ, List}
use Rattle.std.specs.List.{flat_map}
use Rattle.hw_text.specs.Lines.{spaced}
use Rattle.hw_explain.specs.Searched.{words_in}
use Rattle.hw_explain.proofs.GreatestLaws.{committee_is}
use Rattle.hw_explain.proofs.CommitteeLaws.{on_ok}
use Rattle.hw_explain.proofs.summit.put_summit.Goals as goal

pub returns : goal.returns
returns c =
    let search = c.find.new.search in
    let d = c.args.decision.now in
    on_ok c.put_committee.result
    (λ wrote. wrote ∙ ap (λ (n : ℕ). c.args.text.now ++ flat_map spaced (words_in search d.level n)) c.validators.ensures
    ∙ ap (λ (ws : List (List ℕ)). c.args.text.now ++ flat_map spaced ws) (committee_is c.args.core.now d search c.requires c.find.ensures))
    c.put_committee.ensures
