-- Times along the lanes of settled units.
use Rattle.std.proofs.Common.{◌≡◌, ◌≢◌, ℕ, ◌≤◌, ◌<◌, ◌⊎◌, inl, inr, true, false, List, [], ◌∷◌, length, Some, refl, sym, ap, subst, ◌∙◌, arith, eqb-true, eq-eqb, leb-true, le-leb}
use Rattle.std.proofs.lemmas.Bool.{cases_lt}
use Rattle.std.specs.Prelude.{◌&&◌, ◌==◌, nat_le, filter}
use Rattle.hw_types.specs.Graph.{Node, node_eq, is_some_and, cites, unit_cites, past, slot, previous, follows, lane_of, is_on_lane}
use Rattle.hw_types.specs.Below.{Among}
use Rattle.hw_types.specs.Votes.{is_block}
use Rattle.hw_types.specs.Rounds.{round_id}
use Rattle.hw_types.specs.Rules.{state_tests}
use Rattle.hw_types.specs.Journal.{Setting}
use Rattle.hw_types.specs.Step.{lane_units_in}
use Rattle.hw_honest.specs.LaneTimes.{TimesRiseOnLanes, is_in_round, TwoInRoundAreTheLast}
use Rattle.hw_types.proofs.ClosureLaws.{Among-filter}
use Rattle.hw_types.proofs.PastLaws.{reach_first, reach_further, reach_keeps}
use Rattle.hw_types.specs.ByName.{Before, IsRising}
use Rattle.hw_types.proofs.RisingLaws.{never_itself, rising_filter}
use Rattle.hw_types.proofs.StableLaws.{both_ways, and_parts, and_whole}
use Rattle.hw_types.proofs.SettledLaws.{digest_self, named_by}
use Rattle.hw_types.proofs.GraphLaws.{rising_one_name}
use Rattle.hw_types.proofs.WordsLaws.{either, never_both, and_none, or_none, passes_some, among_is, named_among, found_node, latest_is}
use Rattle.hw_types.proofs.LaneLaws.{followed_previous, followed_cited, followed_seq, previous_followed, on_own_lane, lane_within}
use Rattle.hw_honest.proofs.KeptLaws.{KeptGraph, settled, faulty, lawful, in_order, keeps, time_rises}
use Rattle.hw_honest.proofs.NaiveLaws.{below_rising}
use Rattle.hw_honest.proofs.RoundLaws.{round_rises, two_in_round}

module _ (s : Setting) (graph : KeptGraph s) where
  abbrev units : List Node
  units = settled s graph

  on_own : (u : Node) → Among u units → Among u (lane_of units u)
  on_own = on_own_lane s.config.weights (faulty s graph) units (lawful s graph)

  within : (u x : Node) → Among x (lane_of units u) → Among x units
  within u = lane_within s.config.weights (faulty s graph) units (lawful s graph) u

  named_one : (x u : Node) → Among x units → Among u units → node_eq x u ≡ true → x ≡ u
  named_one x u m n t = rising_one_name units (in_order s graph) x u u.digest m n t (digest_self u.digest)

  -- a unit of a lane is the last, or on the lane of the one before it
  lane_split : (u x : Node) → Among u units → Among x (lane_of units u) → (x ≡ u) ⊎ ((g : Node) × Among g units × (follows u g ≡ true) × Among x (lane_of units g))
  lane_split u x m = reach_keeps follows (λ y. node_eq y u) units (λ y. (y ≡ u) ⊎ ((g : Node) × Among g units × (follows u g ≡ true) × Among y (lane_of units g)))
      (λ y n t. inl (named_one y u n m t))
      (λ y z p n t. inr (next y z p n t)) x
    where
      next : (y z : Node) → ((z ≡ u) ⊎ ((g : Node) × Among g units × (follows u g ≡ true) × Among z (lane_of units g))) → Among y units → follows z y ≡ true
          → (g : Node) × Among g units × (follows u g ≡ true) × Among y (lane_of units g)
      next y z (inl e) n t = (y, n, subst (λ w. follows w y ≡ true) e t, on_own y n)
      next y z (inr g) n t = (g.0, g.1, g.2, reach_further follows (λ a. node_eq a g.0) units y z g.3 n t)

  -- one step down
  step_down : (u g : Node) → Among u units → Among g units → follows u g ≡ true → g.unit.time ≤ u.unit.time
  step_down u g m n t = time_rises s graph u g m n (followed_cited s.config.weights (faulty s graph) units (lawful s graph) u g t)

  -- no unit of a lane is later than its last
  pub lane_rises : (u x : Node) → Among u units → Among x (lane_of units u) → x.unit.time ≤ u.unit.time
  lane_rises u x m h = (reach_keeps follows (λ y. node_eq y u) units (λ y. Among y units × (y.unit.time ≤ u.unit.time))
      (λ y n t. (n, (let same = ap (λ (z : Node). z.unit.time) (named_one y u n m t) in omega arith)))
      (λ y z p n t. (n, (let low = step_down z y p.0 n t in let high = p.1 in omega arith))) x h).1

  -- a block's time is new on its lane
  block_after : (u g : Node) → Among u units → Among g units → follows u g ≡ true → is_block u ≡ true → g.unit.time < u.unit.time
  unfolding state_tests
  block_after u g m n t b =
      let low = step_down u g m n t in
      let below = reach_first unit_cites (cites u.unit.panorama) units g n (followed_cited s.config.weights (faulty s graph) units (lawful s graph) u g t) in
      let found = found_node (past units u.unit.panorama) g g.digest (rising_one_name (past units u.unit.panorama) (below_rising units (in_order s graph) u.unit.panorama)) below refl in
      let before : previous (past units u.unit.panorama) u ≡ Some g = latest_is (past units u.unit.panorama) u.unit.panorama u.unit.creator g.digest g (named_by (slot u.unit.panorama u.unit.creator) g.digest t) found in
      let rule = and_none (is_block u) _ (keeps s graph u m).1.1.1.1.1.1.0 b in
      let differs = (or_none _ (is_some_and (λ p. p.unit.time == u.unit.time) (previous (past units u.unit.panorama) u)) rule).1 in
      let apart : (g.unit.time == u.unit.time) ≡ false = sym (ap (is_some_and (λ p. p.unit.time == u.unit.time)) before) ∙ differs in
      strictly g.unit.time u.unit.time low apart
    where
      strictly : (a c : ℕ) → a ≤ c → (a == c) ≡ false → a < c
      strictly a c le ne = elim (cases_lt a c) [
        | inl lt ↦ lt
        | inr ge ↦ absurd (never_both _ (eq-eqb a c (omega arith)) ne)
      ]

  -- a block is later than all below it on its lane
  pub block_later : (u x : Node) → Among u units → Among x (lane_of units u) → is_block u ≡ true → x ≢ u → x.unit.time < u.unit.time
  block_later u x m h b other = elim (lane_split u x m h) [
    | inl same ↦ absurd (other same)
    | inr g ↦ (let low = lane_rises g.0 x g.1 g.3 in let lt = block_after u g.0 m g.1 g.2 b in omega arith)
  ]

  -- ---- two in a round

  -- two members of a long list in order differ
  two_of : (xs : List Node) → IsRising xs → 2 ≤ length xs → (x : Node) × (y : Node) × Among x xs × Among y xs × (x ≢ y)
  two_of [] r le = absurd (omega arith)
  two_of (x ∷ []) r le = absurd (omega arith)
  two_of (x ∷ y ∷ rest) r le = (x, y, inl refl, inr (inl refl), λ e. never_itself x (subst (λ z. Before x z) (sym e) (r.0 y (inl refl))))

  module _ (last : Node) (moment e : ℕ) (m : Among last units) (le : last.unit.time ≤ moment) where
    abbrev round : ℕ
    round = round_id moment e

    -- between two moments of the round all is in the round
    in_between : (a b : ℕ) → round_id a e ≡ round → a ≤ b → b ≤ moment → round_id b e ≡ round
    in_between a b same low high =
        let below = round_rises a b e low in
        let above = round_rises b moment e high in
        omega arith

    last_two : 2 ≤ lane_units_in units last round e → (is_in_round round e last && is_some_and (is_in_round round e) (previous units last)) ≡ true
    unfolding lane_units_in
    last_two many =
        let test = λ (x : Node). is_on_lane units x last && (round_id x.unit.time e == round) in
        let two = two_of (filter test units) (rising_filter test units (in_order s graph)) many in
        go two.0 two.1 (Among-filter test two.0 units two.2) (Among-filter test two.1 units two.3) two.4
      where
        on_it : (x : Node) → Among x units → is_on_lane units x last ≡ true → Among x (lane_of units last)
        on_it x n h = named_among units (lane_of units last) x (rising_one_name units (in_order s graph)) (within last) n h

        -- a lower one of the round
        lower : (x : Node) → Among x units → (is_on_lane units x last && (round_id x.unit.time e == round)) ≡ true → (x ≡ last → ⊥) → (is_in_round round e last && is_some_and (is_in_round round e) (previous units last)) ≡ true
        lower x n h other =
            let parts = and_parts (is_on_lane units x last) (round_id x.unit.time e == round) h in
            let here = eqb-true (round_id x.unit.time e) round parts.1 in
            elim (lane_split last x m (on_it x n parts.0)) [
              | inl same ↦ absurd (other same)
              | inr g ↦ (
                  let down = lane_rises g.0 x g.1 g.3 in
                  let step = step_down last g.0 m g.1 g.2 in
                  let before = followed_previous s.config.weights (faulty s graph) units (lawful s graph) last g.0 m g.1 g.2 in
                  and_whole (is_in_round round e last) _
                  (eq-eqb (round_id last.unit.time e) round (in_between x.unit.time last.unit.time here (omega arith) le))
                  (ap (is_some_and (is_in_round round e)) before ∙ eq-eqb (round_id g.0.unit.time e) round (in_between x.unit.time g.0.unit.time here down (omega arith)))
                  )
            ]

        go : (x y : Node) → (Among x units × ((is_on_lane units x last && (round_id x.unit.time e == round)) ≡ true)) → (Among y units × ((is_on_lane units y last && (round_id y.unit.time e == round)) ≡ true)) → x ≢ y
            → (is_in_round round e last && is_some_and (is_in_round round e) (previous units last)) ≡ true
        go x y fx fy ne = elim (either (node_eq x last)) [
          | inr other ↦ lower x fx.0 fx.1 (λ same. never_both _ (subst (λ z. node_eq x z ≡ true) same (digest_self x.digest)) other)
          | inl same ↦ lower y fy.0 fy.1 (λ also. ne (named_one x last fx.0 m same ∙ sym also))
        ]

    two_last : (is_in_round round e last && is_some_and (is_in_round round e) (previous units last)) ≡ true → 2 ≤ lane_units_in units last round e
    two_last h =
        let parts = and_parts (is_in_round round e last) _ h in
        let g = passes_some (is_in_round round e) (previous units last) parts.1 in
        let f = previous_followed s.config.weights (faulty s graph) units (lawful s graph) last g.0 g.1 in
        let number = followed_seq s.config.weights (faulty s graph) units (lawful s graph) last g.0 m f.0 f.1 in
        two_in_round units last last g.0 round e m f.0
        (among_is last (lane_of units last) (on_own last m))
        (among_is g.0 (lane_of units last) (reach_further follows (λ a. node_eq a last) units g.0 last (on_own last m) f.0 f.1))
        (eqb-true (round_id last.unit.time e) round parts.0) (eqb-true (round_id g.0.unit.time e) round g.2)
        (λ eq. let n = ap (λ (z : Node). z.unit.seq) eq in absurd (omega arith))

    pub two_are_last : nat_le 2 (lane_units_in units last round e) ≡ (is_in_round round e last && is_some_and (is_in_round round e) (previous units last))
    two_are_last = both_ways (nat_le 2 (lane_units_in units last round e)) (is_in_round round e last && is_some_and (is_in_round round e) (previous units last))
        (λ h. last_two (leb-true 2 (lane_units_in units last round e) h))
        (λ h. le-leb 2 (lane_units_in units last round e) (two_last h))

pub times_rise_on_lanes : TimesRiseOnLanes
times_rise_on_lanes s received units kept x u m h =
    let graph : KeptGraph s = record { received = received; units = units; kept = kept } in
    (lane_rises s graph u x m h, block_later s graph u x m h)

pub two_in_round_are_the_last : TwoInRoundAreTheLast
two_in_round_are_the_last s received units kept last moment exponent m le = two_are_last s (record { received = received; units = units; kept = kept }) last moment exponent m le
