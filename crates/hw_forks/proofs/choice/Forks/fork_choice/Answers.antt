use Rattle.std.proofs.Common.{◌≡◌, ℕ, List, [], None, take, sym, ap, subst, ◌∙◌}
use Rattle.hw_forks.specs.declared.votes.Vote.{Vote}
use Rattle.hw_forks.specs.Votes.{votes_of, AreVotes}
use Rattle.hw_forks.specs.Walk.{WalksTo}
use Rattle.hw_forks.proofs.DefinedLaws.{walk_is_fork}
use Rattle.hw_forks.proofs.ForkLaws.{end_is_fork, no_votes_walk}
use Rattle.hw_forks.proofs.choice.Forks.fork_choice.Goals as goal

pub returns-then-count-eq0-clause-fork : goal.returns-then-count-eq0-clause-fork
returns-then-count-eq0-clause-fork c =
    let votes : take c.gather-count.result c.gather-count.new.votes ≡ votes_of c.args.dag.now c.args.weights.now c.args.panorama.now c.args.dag.now.validators = c.gather-count.ensures.votes ∙ ap (λ (ws : List ℕ). votes_of c.args.dag.now ws c.args.panorama.now c.args.dag.now.validators) c.as_slice.ensures in
    let none : [] ≡ votes_of c.args.dag.now c.args.weights.now c.args.panorama.now c.args.dag.now.validators = ap (λ (k : ℕ). take k c.gather-count.new.votes) (sym c.if-count-eq0.true) ∙ votes in
    walk_is_fork c.args.weights.now c.args.dag.now c.gather-count.ensures.are.graph c.requires.weights c.args.panorama.now c.requires.panorama None
    (subst (λ (vs : List Vote). WalksTo c.args.dag.now vs None None) none (no_votes_walk c.args.dag.now))

pub returns-then-count-eq0-clause-is_fork : goal.returns-then-count-eq0-clause-is_fork
returns-then-count-eq0-clause-is_fork c =
    let votes : take c.gather-count.result c.gather-count.new.votes ≡ votes_of c.args.dag.now c.args.weights.now c.args.panorama.now c.args.dag.now.validators = c.gather-count.ensures.votes ∙ ap (λ (ws : List ℕ). votes_of c.args.dag.now ws c.args.panorama.now c.args.dag.now.validators) c.as_slice.ensures in
    let none : [] ≡ votes_of c.args.dag.now c.args.weights.now c.args.panorama.now c.args.dag.now.validators = ap (λ (k : ℕ). take k c.gather-count.new.votes) (sym c.if-count-eq0.true) ∙ votes in
    end_is_fork c.args.dag.now c.args.weights.now c.args.panorama.now c.gather-count.ensures.are.graph c.requires.panorama (subst (AreVotes c.args.dag.now) votes c.gather-count.ensures.are) None
    (subst (λ (vs : List Vote). WalksTo c.args.dag.now vs None None) none (no_votes_walk c.args.dag.now))

pub returns-clause-fork : goal.returns-clause-fork
returns-clause-fork c =
    let votes : take c.gather-count.result c.gather-count.new.votes ≡ votes_of c.args.dag.now c.args.weights.now c.args.panorama.now c.args.dag.now.validators = c.gather-count.ensures.votes ∙ ap (λ (ws : List ℕ). votes_of c.args.dag.now ws c.args.panorama.now c.args.dag.now.validators) c.as_slice.ensures in
    let walked : WalksTo c.args.dag.now (votes_of c.args.dag.now c.args.weights.now c.args.panorama.now c.args.dag.now.validators) c.walk.result None = subst (λ (vs : List Vote). WalksTo c.args.dag.now vs c.walk.result None) votes c.walk.ensures in
    walk_is_fork c.args.weights.now c.args.dag.now c.gather-count.ensures.are.graph c.requires.weights c.args.panorama.now c.requires.panorama c.walk.result walked

pub returns-clause-is_fork : goal.returns-clause-is_fork
returns-clause-is_fork c =
    let votes : take c.gather-count.result c.gather-count.new.votes ≡ votes_of c.args.dag.now c.args.weights.now c.args.panorama.now c.args.dag.now.validators = c.gather-count.ensures.votes ∙ ap (λ (ws : List ℕ). votes_of c.args.dag.now ws c.args.panorama.now c.args.dag.now.validators) c.as_slice.ensures in
    let walked : WalksTo c.args.dag.now (votes_of c.args.dag.now c.args.weights.now c.args.panorama.now c.args.dag.now.validators) c.walk.result None = subst (λ (vs : List Vote). WalksTo c.args.dag.now vs c.walk.result None) votes c.walk.ensures in
    end_is_fork c.args.dag.now c.args.weights.now c.args.panorama.now c.gather-count.ensures.are.graph c.requires.panorama (subst (AreVotes c.args.dag.now) votes c.gather-count.ensures.are) c.walk.result walked
