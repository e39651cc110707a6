-- Endorsed lists that have names of units below alone.
use Rattle.std.proofs.Common.{◌≡◌, ℕ, ◌<◌, true, List, [], ◌∷◌, length, sym, ap, subst, ◌∙◌, arith}
use Rattle.hw_types.specs.declared.unit.Digest.{Digest}
use Rattle.hw_types.specs.declared.unit.Obs.{Obs}
use Rattle.hw_types.specs.Graph.{Node, digest_eq, cites, unit_cites, past}
use Rattle.hw_types.specs.Below.{Among}
use Rattle.hw_types.specs.Rules.{state_tests}
use Rattle.hw_types.proofs.PastLaws.{some_of, reach_within}
use Rattle.hw_types.proofs.SettledLaws.{digest_same}
use Rattle.hw_types.proofs.WordsLaws.{all_of, not_false, none_broken}
use Rattle.hw_dag.specs.declared.numbers.UnitNo.{UnitNo}
use Rattle.hw_dag.specs.declared.numbers.View.{View}
use Rattle.hw_dag.specs.declared.numbers.View.TheVariants as view
use Rattle.hw_dag.specs.Dag.{SettledUnit, UnitGraph, unit_at, count_of, node_at, graph, view_at, GrowsTo}
use Rattle.hw_dag.specs.Admission.{PreparedUnit, IsGraph, IsResolved}
use Rattle.hw_dag.specs.Lanes.{IsBelow, is_seen}
use Rattle.hw_dag.specs.Lists.{NamesBelow, AllNameBelow}
use Rattle.hw_dag.proofs.GrowthLaws.{IsKnown, count_grows, unit_stays, is_seen_stays}
use Rattle.hw_dag.proofs.LaneLaws.{past_seen}
use Rattle.hw_dag.proofs.NodeLaws.{AreApart, among_node}
use Rattle.hw_naivety.proofs.BelowLaws.{below_under, under_below}
use Rattle.hw_rules.specs.Laws.{EndorsedIsSeen}
use Rattle.hw_rules.specs.Judged.{below_of, has_named}

-- ---- a unit that breaks no rule

-- a name that a unit below has is one of a unit below, by number
pub named_below : (dag : UnitGraph) → IsGraph dag → (p : PreparedUnit) → IsResolved dag p → (name : Digest) → has_named (below_of dag p) name ≡ true → NamesBelow dag p.panorama name
named_below dag g p resolved name t =
    let x = some_of (λ x. digest_eq x.digest name) (below_of dag p) t in
    let n = among_node dag x.0 (reach_within unit_cites (cites p.signed.unit.panorama) (graph dag) x.0 x.1) in
    record {
      number = n.0;
      known = n.1;
      named = ap (λ (y : Node). y.digest) n.2 ∙ digest_same x.0.digest name x.2;
      below = under_below dag g p.panorama resolved.known n.0 n.1
          (subst (λ (os : List Obs). Among (node_at dag n.0) (past (graph dag) os)) (sym resolved.observes) (subst (λ (y : Node). Among y (below_of dag p)) (sym n.2) x.1));
    }

pub endorsed_is_seen : EndorsedIsSeen
unfolding state_tests
endorsed_is_seen config dag g p resolved kept name m =
    let all = none_broken (state_tests config (below_of dag p) (record { digest = p.digest; unit = p.signed.unit })) kept in
    named_below dag g p resolved name (all_of (has_named (below_of dag p)) p.signed.unit.endorsed (not_false _ all.1.1.1.1.1.1.1.1.0) name m)

-- ---- a unit with the list of one that it cites

-- what is below a unit's panorama is below the unit
below_seen : (dag : UnitGraph) (g : IsGraph dag) (n high : ℕ) → n < count_of dag → high < count_of dag → IsBelow dag (unit_at dag high).panorama n → is_seen dag n high ≡ true
below_seen dag g n high ln lh b =
    let s = g.settled high lh in
    past_seen dag g n high (subst (λ (os : List Obs). Among (node_at dag n) (past (graph dag) os)) s.observes (below_under dag g (unit_at dag high).panorama s.panorama_is.known n ln b))

-- so names of units below a cited unit are those of units below
pub cited_names : (dag : UnitGraph) (g : IsGraph dag) (panorama : List View) (v : ℕ) (number : UnitNo) (names : List Digest) → view_at panorama v ≡ view.Correct number → number.0 < count_of dag
    → AllNameBelow dag (unit_at dag number.0).panorama names → AllNameBelow dag panorama names
cited_names dag g panorama v number names e lt all name m =
    let b = all name m in
    record {
      number = b.number;
      known = b.known;
      named = b.named;
      below = record { slot = v; cited = number; observed = e; seen = below_seen dag g b.number number.0 b.known lt b.below };
    }

-- an empty list has no name
pub no_names : (dag : UnitGraph) (panorama : List View) (names : List Digest) → length names ≡ 0 → AllNameBelow dag panorama names
no_names dag panorama [] e name m = absurd m
no_names dag panorama (d ∷ ds) e name m = absurd (omega arith)

-- ---- a graph that grew

module _ (dag later : UnitGraph) (grows : GrowsTo dag later) (g : IsGraph dag) (apart : AreApart later) where
  pub names_stay : (panorama : List View) (names : List Digest) → IsKnown dag panorama → AllNameBelow dag panorama names → AllNameBelow later panorama names
  names_stay panorama names known all name m =
      let b = all name m in
      record {
        number = b.number;
        known = let more = count_grows dag later grows in let less = b.known in omega arith;
        named = ap (λ (u : SettledUnit). u.digest) (unit_stays dag later grows b.number b.known) ∙ b.named;
        below = record {
          slot = b.below.slot;
          cited = b.below.cited;
          observed = b.below.observed;
          seen = is_seen_stays dag later grows g apart b.number b.below.cited.0 b.known (known b.below.slot b.below.cited b.below.observed) ∙ b.below.seen;
        };
      }

  -- an earlier unit's list has names of units below it as before
  pub list_stays : (n : ℕ) → n < count_of dag → AllNameBelow dag (unit_at dag n).panorama (unit_at dag n).signed.unit.endorsed → AllNameBelow later (unit_at later n).panorama (unit_at later n).signed.unit.endorsed
  list_stays n lt all = subst (λ (u : SettledUnit). AllNameBelow later u.panorama u.signed.unit.endorsed) (sym (unit_stays dag later grows n lt))
      (names_stay (unit_at dag n).panorama (unit_at dag n).signed.unit.endorsed (g.settled n lt).panorama_is.known all)
