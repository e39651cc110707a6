use Rattle.std.proofs.Common.{◌≡◌, ℕ, Some, None, refl, ap, sym, ◌∙◌}
use Rattle.std.specs.Map.{lookup}
use Rattle.hw_audit.specs.Twins.{place_eq, pair_in}
use Rattle.hw_audit.proofs.PairLaws.{pair_noted}
use Rattle.hw_safety.proofs.CulpritPairLaws.{read_as}
use Rattle.hw_audit.proofs.twins.Equivocations.pair_of.Goals as goal

pub returns-in-Some : goal.returns-in-Some
returns-in-Some c units nodes noted shown =
    pair_noted c.args.self.now.twins.entries c.args.self.now.least.items units nodes noted shown c.args.validator c.requires (Some c.in-Some.seq) c.pair_at.result (read_as c.args.self.now.least.items c.args.validator None c.index.result.now c.requires ∙ sym c.index.ensures ∙ c.in-Some.is)
    (λ n e. c.pair_at.ensures ∙ ap (λ (k : ℕ). pair_in (lookup (place_eq (record { creator = c.args.validator; seq = k })) c.args.self.now.twins.entries)) (let same : c.in-Some.seq ≡ n = cc in same))
    (λ e. absurd cc)

pub returns-in-None : goal.returns-in-None
returns-in-None c units nodes noted shown =
    pair_noted c.args.self.now.twins.entries c.args.self.now.least.items units nodes noted shown c.args.validator c.requires None None (read_as c.args.self.now.least.items c.args.validator None c.index.result.now c.requires ∙ sym c.index.ensures ∙ c.in-None.is) (λ n e. absurd cc) (λ e. refl)
