-- What was noted stays so as a graph grows.
use Rattle.std.proofs.Common.{◌≡◌, ℕ, ◌<◌, ◌≤◌, true, List, Option, Some, None, refl, sym, ap, subst, ◌∙◌, arith, get_or}
use Rattle.hw_types.specs.declared.unit.Digest.{Digest}
use Rattle.hw_types.specs.Graph.{Node}
use Rattle.hw_types.specs.Rules.{has_naive_fork}
use Rattle.hw_dag.specs.declared.numbers.UnitNo.{UnitNo}
use Rattle.hw_dag.specs.declared.numbers.View.{View}
use Rattle.hw_dag.specs.declared.numbers.View.TheVariants as view
use Rattle.hw_dag.specs.Dag.{SettledUnit, UnitGraph, unit_at, count_of, node_at, graph, creator_of, view_at, GrowsTo}
use Rattle.hw_dag.specs.Admission.{IsGraph}
use Rattle.hw_dag.specs.Lanes.{is_seen}
use Rattle.hw_dag.specs.Tables.{IsKnown}
use Rattle.hw_dag.proofs.NodeLaws.{node_among}
use Rattle.hw_dag.proofs.GrowthLaws as growth
use Rattle.hw_dag.proofs.MarkLaws.{seen_earlier}
use Rattle.hw_naivety.specs.Tips.{IsBelow, IsBelowEndorsed, IsNaive, IsUnder, IsNaiveTip, IsTip, IsOnLaneOf, LanesAre, placed_tip, tip_at}
use Rattle.hw_naivety.specs.Naivety.{NaiveTips, KeepsEndorsed, HasNoNaiveFork, IsNoted}
use Rattle.hw_naivety.specs.Laws.{NotedStays}

module _ (dag later : UnitGraph) (g : IsGraph dag) (h : IsGraph later) (grows : GrowsTo dag later) where
  count_grows : count_of dag ≤ count_of later
  count_grows = growth.count_grows dag later grows

  unit_stays : (n : ℕ) → n < count_of dag → unit_at later n ≡ unit_at dag n
  unit_stays n lt = growth.unit_stays dag later grows n lt

  node_stays : (n : ℕ) → n < count_of dag → node_at later n ≡ node_at dag n
  node_stays n lt = growth.node_stays dag later grows n lt

  seen_stays : (low high : ℕ) → low < count_of dag → high < count_of dag → is_seen later low high ≡ is_seen dag low high
  seen_stays low high lo hi = growth.is_seen_stays dag later grows g h.distinct low high lo hi

  -- what an earlier unit has below it was there before
  seen_known : (low high : ℕ) → low < count_of later → high < count_of dag → is_seen later low high ≡ true → low < count_of dag
  seen_known low high lo hi t =
      let more = count_grows in
      let earlier = seen_earlier later h low high lo (omega arith) t in
      omega arith

  -- ---- what an earlier unit cites, and what it has below it

  endorsed_stays : (n : ℕ) → n < count_of dag → KeepsEndorsed (graph dag) (node_at dag n) → KeepsEndorsed (graph later) (node_at later n)
  endorsed_stays n lt keeps = subst (λ (u : Node). KeepsEndorsed (graph later) u) (sym (node_stays n lt))
      (λ w m t. keeps w (growth.graph_closed dag later grows g h.distinct w (node_at dag n) (node_among dag g n lt) m t) t)

  forkless_stays : (n : ℕ) → n < count_of dag → HasNoNaiveFork (graph dag) (node_at dag n) → HasNoNaiveFork (graph later) (node_at later n)
  forkless_stays n lt forkless = subst (λ (u : Node). HasNoNaiveFork (graph later) u) (sym (node_stays n lt))
      (ap (λ (below : List Node). has_naive_fork below (unit_at dag n).signed.unit.endorsed) (growth.past_of_stays dag later grows g h.distinct n lt) ∙ forkless)

  -- ---- below a panorama of earlier units

  module _ (panorama : List View) (known : IsKnown dag panorama) where
    below_known : (n : ℕ) → n < count_of later → IsBelow later panorama n → n < count_of dag
    below_known n lt b = seen_known n b.cited.0 lt (known b.slot b.cited b.observed) b.seen

    below_stays : (n : ℕ) → n < count_of dag → IsBelow dag panorama n → IsBelow later panorama n
    below_stays n lt b = record {
      slot = b.slot;
      cited = b.cited;
      observed = b.observed;
      seen = seen_stays n b.cited.0 lt (known b.slot b.cited b.observed) ∙ b.seen;
    }

    below_before : (n : ℕ) → n < count_of dag → IsBelow later panorama n → IsBelow dag panorama n
    below_before n lt b = record {
      slot = b.slot;
      cited = b.cited;
      observed = b.observed;
      seen = sym (seen_stays n b.cited.0 lt (known b.slot b.cited b.observed)) ∙ b.seen;
    }

    module _ (endorsed : List Digest) where
      listed_stays : (n : ℕ) → n < count_of dag → IsBelowEndorsed dag panorama endorsed n → IsBelowEndorsed later panorama endorsed n
      listed_stays n lt b =
          let named = b.below in
          record {
            name = b.name;
            among = b.among;
            below = record {
              named = named.named;
              known = let more = count_grows in let less = named.known in omega arith;
              name_is = ap (λ (u : SettledUnit). u.digest) (unit_stays named.named named.known) ∙ named.name_is;
              found = below_stays named.named named.known named.found;
              seen = seen_stays n named.named lt named.known ∙ named.seen;
            };
          }

      listed_before : (n : ℕ) → n < count_of dag → IsBelowEndorsed later panorama endorsed n → IsBelowEndorsed dag panorama endorsed n
      listed_before n lt b =
          let named = b.below in
          let less = below_known named.named named.known named.found in
          record {
            name = b.name;
            among = b.among;
            below = record {
              named = named.named;
              known = less;
              name_is = sym (ap (λ (u : SettledUnit). u.digest) (unit_stays named.named less)) ∙ named.name_is;
              found = below_before named.named less named.found;
              seen = sym (seen_stays n named.named lt less) ∙ named.seen;
            };
          }

      naive_stays : (v n : ℕ) → IsNaive dag panorama endorsed v n → IsNaive later panorama endorsed v n
      naive_stays v n naive = record {
        known = let more = count_grows in let less = naive.known in omega arith;
        creator_is = ap (λ (u : SettledUnit). creator_of u) (unit_stays n naive.known) ∙ naive.creator_is;
        below = below_stays n naive.known naive.below;
        free = λ b. naive.free (listed_before n naive.known b);
      }

      naive_before : (v n : ℕ) → IsNaive later panorama endorsed v n → IsNaive dag panorama endorsed v n
      naive_before v n naive =
          let less = below_known n naive.known naive.below in
          record {
            known = less;
            creator_is = sym (ap (λ (u : SettledUnit). creator_of u) (unit_stays n less)) ∙ naive.creator_is;
            below = below_before n less naive.below;
            free = λ b. naive.free (listed_stays n less b);
          }

      under_stays : (v n : ℕ) (tip : Option UnitNo) → n < count_of dag → IsNaiveTip dag panorama endorsed v tip → IsUnder dag n tip → IsUnder later n tip
      under_stays v n None lt naive under = under
      under_stays v n (Some tip) lt naive under = growth.is_lane_below_stays dag later grows g h.distinct n tip.0 lt (naive tip refl).known ∙ under

      tip_stays : (v : ℕ) (tip : Option UnitNo) → IsTip dag panorama endorsed v tip → IsTip later panorama endorsed v tip
      tip_stays v tip is = record {
        naive = λ t e. naive_stays v t.0 (is.naive t e);
        all = λ n naive. let before = naive_before v n naive in under_stays v n tip before.known is.naive (is.all n before);
      }

  -- the tip that is kept of an earlier unit
  tip_of_stays : (n v : ℕ) (tip : Option UnitNo) → n < count_of dag → IsTip dag (unit_at dag n).panorama (unit_at dag n).signed.unit.endorsed v tip
      → IsTip later (unit_at later n).panorama (unit_at later n).signed.unit.endorsed v tip
  tip_of_stays n v tip lt is = subst (λ (u : SettledUnit). IsTip later u.panorama u.signed.unit.endorsed v tip) (sym (unit_stays n lt))
      (tip_stays (unit_at dag n).panorama (g.settled n lt).panorama_is.known (unit_at dag n).signed.unit.endorsed v tip is)

  -- ---- lanes

  on_lane_stays : (n : ℕ) (lane : View) → n < count_of dag → ((last : UnitNo) → lane ≡ view.Correct last → last.0 < count_of dag) → IsOnLaneOf dag n lane → IsOnLaneOf later n lane
  on_lane_stays n view.Absent lt known on = on
  on_lane_stays n view.Faulty lt known on = on
  on_lane_stays n (view.Correct last) lt known on = growth.is_lane_below_stays dag later grows g h.distinct n last.0 lt (known last refl) ∙ on

  lanes_stay : (count : ℕ) (lanes : List View) → count ≤ count_of dag → LanesAre dag count lanes → LanesAre later count lanes
  lanes_stay count lanes within are = record {
    known = λ v last e. let more = count_grows in let less = are.known v last e in omega arith;
    on_lane = λ n lt.
        let less : n < count_of dag = omega arith in
        subst (λ (u : SettledUnit). IsOnLaneOf later n (view_at lanes (creator_of u))) (sym (unit_stays n less))
        (on_lane_stays n (view_at lanes (creator_of (unit_at dag n))) less (are.known (creator_of (unit_at dag n))) (are.on_lane n lt));
  }

  -- ---- all that is kept

  noted_grows : (tips : NaiveTips) → IsNoted tips dag → IsNoted tips later
  noted_grows tips noted = record {
    validators_are = noted.validators_are ∙ sym grows.validators_are;
    within = let more = count_grows in let less = noted.within in omega arith;
    endorsed = λ n lt. endorsed_stays n (earlier n lt) (noted.endorsed n lt);
    forkless = λ n lt. forkless_stays n (earlier n lt) (noted.forkless n lt);
    tips_are = λ n v lt small.
        subst (λ (u : SettledUnit). IsTip later (unit_at later n).panorama (unit_at later n).signed.unit.endorsed v (placed_tip tips.tips.rows (view_at u.panorama v) v (get_or tips.tips.places n 0))) (sym (unit_stays n (earlier n lt)))
        (tip_of_stays n v (tip_at dag tips.tips n v) (earlier n lt) (noted.tips_are n v lt (subst (λ (k : ℕ). v < k) grows.validators_are small)));
    lanes_are = lanes_stay tips.count tips.lanes noted.within noted.lanes_are;
  }
    where
      earlier : (n : ℕ) → n < tips.count → n < count_of dag
      earlier n lt = let within = noted.within in omega arith

pub noted_stays : NotedStays
noted_stays dag later g h grows tips noted = noted_grows dag later g h grows tips noted
