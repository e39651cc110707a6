use Rattle.std.proofs.Common.{List, sym, subst}
use Rattle.hw_types.specs.declared.unit.Digest.{Digest}
use Rattle.hw_endorse.specs.Told.{Told, HaveMajority}
use Rattle.std.specs.List.Sorted.{IsStrictlySortedBy}
use Rattle.hw_endorse.specs.Kept.{told_by, pairs_in}
use Rattle.hw_endorse.proofs.KeyLaws.{order}
use Rattle.hw_endorse.proofs.KeptLaws.{listed_majority, keys_rise}
use Rattle.hw_endorse.proofs.Endorsements.endorsed_units.Goals as goal

pub returns-clause-majority : goal.returns-clause-majority
returns-clause-majority c =
    subst (λ (t : Told). HaveMajority t c.iter.result) c.self.view_is
    (subst (λ (units : List Digest). HaveMajority (told_by c.self.inside.weights (pairs_in c.self.inside.tallies.entries)) units) (sym c.iter.ensures.rest)
    (listed_majority c.self.inside.weights c.self.inside.total (pairs_in c.self.inside.tallies.entries) c.self.inside.tallies.entries c.self.inside.endorsed.keys c.self.invariant))

pub returns-clause-rising : goal.returns-clause-rising
returns-clause-rising c = keys_rise c.iter.result (subst (IsStrictlySortedBy order) (sym c.iter.ensures.rest) c.iter.ensures.ordered)
