-- A unit with the chosen panorama keeps all rules.
use Rattle.std.proofs.Common.{◌≡◌, ℕ, ◌+◌, ◌/◌, ◌^◌, ◌≤◌, ◌<◌, Bool, true, false, not, List, length, Option, Some, None, refl, sym, ap, ◌∙◌, arith, eq-eqb, le-ltb}
use Rattle.std.specs.Prelude.{◌&&◌, ◌||◌, ◌==◌, nat_lt, is_some, is_none}
use Rattle.std.proofs.lemmas.Bool.{lt-leb, ne_eqb}
use Rattle.std.specs.List.{list_any}
use Rattle.hw_types.specs.declared.unit.Obs.{Obs}
use Rattle.hw_types.specs.declared.unit.WireUnit.{WireUnit}
use Rattle.hw_types.specs.Graph.{Node, is_some_and, is_faulty_mark, is_absent, is_correct, slot, previous, past}
use Rattle.hw_types.specs.Votes.{is_block, fork_over, fork_of, height_of}
use Rattle.hw_types.specs.Rounds.{round_id, leader_of}
use Rattle.hw_types.specs.Rules.{local_rule, local_tests, state_rule, state_tests, is_after_terminal}
use Rattle.hw_types.specs.Journal.{Setting, named}
use Rattle.hw_types.specs.Step.{list_of, next_seq, is_at_end}
use Rattle.hw_types.proofs.SettledLaws.{digest_self}
use Rattle.hw_types.proofs.WordsLaws.{none_broken_of}
use Rattle.hw_types.proofs.LimitLaws.{IsWithinLimits}
use Rattle.hw_types.proofs.GraphLaws.{rising_one_name}
use Rattle.hw_types.proofs.ChoiceLaws.{IsGraph}
use Rattle.hw_types.proofs.UnionLaws.{no_cycle}
use Rattle.hw_honest.proofs.ListLaws.{list_rises}
use Rattle.hw_honest.proofs.KeptLaws.{KeptGraph, known, settled, faulty, state, lawful, in_order}
use Rattle.hw_honest.proofs.ChosenLaws.{IsUsable, OwnCase, first, next, own, own_case}
use Rattle.hw_honest.proofs.BelowLaws.{none_and, own_creators, consistent, none_later, none_shrinks, all_seen}
use Rattle.hw_honest.proofs.HeightLaws.{same_height}
use Rattle.hw_honest.proofs.RoundLaws.{MayStep, round_of_round, previous_last, no_third, no_change}
use Rattle.hw_types.proofs.HeightLaws.{chosen_below}

-- what a unit is for: a block at the begin of a round that the validator leads, or a unit that cites something
pub record IsCase (s : Setting) (units : List Node) (os : List Obs) (last : Option Node) (me now time : ℕ) (value : Option (List ℕ)) : Type 0 where
  pub in_round : time / 2 ^ s.config.min_exponent ≡ now / 2 ^ s.config.min_exponent
  pub no_later : time ≤ now
  pub cites : is_none value ≡ true → list_any is_correct os ≡ true
  pub begins : is_some value ≡ true → time ≡ round_id now s.config.min_exponent
  pub leads : is_some value ≡ true → me ≡ leader_of s.config (round_id now s.config.min_exponent)
  pub after : is_some value ≡ true → (p : Node) → last ≡ Some p → p.unit.time < round_id now s.config.min_exponent
  pub not_ended : is_some value ≡ true → is_at_end s units os ≡ false

-- the unit that is made
abbrev pub made_unit : (s : Setting) → KeptGraph s → ℕ → ℕ → List Obs → Option (List ℕ) → WireUnit
made_unit s graph me time os value = record {
  instance = s.instance;
  creator = me;
  seq = next_seq (own s graph me);
  time = time;
  exponent = s.config.min_exponent;
  panorama = os;
  value = value;
  endorsed = list_of s (known s graph) (settled s graph) os;
}

module _ (s : Setting) (graph : KeptGraph s) (me now time : ℕ) (os : List Obs) (value : Option (List ℕ)) (limits : IsWithinLimits s.config) (validator : me < length s.config.weights)
    (usable : IsUsable s graph me time os)
    (may : MayStep (settled s graph) (slot (state s graph) me) (own s graph me) time (round_id now s.config.min_exponent) s.config.min_exponent)
    (case : IsCase s (settled s graph) os (own s graph me) me now time value) where
  abbrev made : WireUnit
  made = made_unit s graph me time os value

  -- with its name
  abbrev u : Node
  u = named s made

  -- ---- the rules of the unit alone

  first_number : ((is_absent (slot os me) && not (made.seq == 0)) || (is_correct (slot os me) && (made.seq == 0))) ≡ false
  first_number = go (own_case s graph me may.honest)
    where
      go : OwnCase s graph me → ((is_absent (slot os me) && not (made.seq == 0)) || (is_correct (slot os me) && (made.seq == 0))) ≡ false
      go (first none absent) = ap (λ o. (is_absent o && not (made.seq == 0)) || (is_correct o && (made.seq == 0))) (usable.own ∙ absent) ∙ ap (λ p. not (next_seq p == 0) || false) none
      go (next p is m at e) = ap (λ o. (is_absent o && not (made.seq == 0)) || (is_correct o && (made.seq == 0))) (usable.own ∙ e) ∙ ap (λ o. next_seq o == 0) is ∙ above p.unit.seq
        where
          above : (n : ℕ) → (n + 1 == 0) ≡ false
          above n = ne_eqb (n + 1) 0 (λ z. absurd (omega arith))

  unmarked : is_faulty_mark (slot os me) ≡ false
  unmarked = ap is_faulty_mark usable.own ∙ may.honest

  exponents : (nat_lt s.config.min_exponent s.config.min_exponent || nat_lt s.config.max_exponent s.config.min_exponent) ≡ false
  exponents =
      let low = le-ltb s.config.min_exponent s.config.min_exponent (omega arith) in
      let high = le-ltb s.config.max_exponent s.config.min_exponent limits.exponents.1 in
      rw (low, high) refl

  some_block : (is_none value && not (list_any is_correct os)) ≡ false
  some_block = go (is_none value) refl
    where
      go : (b : Bool) → is_none value ≡ b → (b && not (list_any is_correct os)) ≡ false
      go true e = ap not (case.cites e)
      go false e = refl

  -- it keeps the rules of the unit alone
  pub keeps_alone : local_rule s.config s.instance made ≡ None
  unfolding local_tests
  keeps_alone = none_broken_of (local_tests s.config s.instance made) (
    ap not (digest_self s.instance),
    (
      lt-leb (length s.config.weights) me validator,
      (
        ap not (eq-eqb _ _ usable.long),
        (
          unmarked,
          (
            first_number,
            (
              exponents,
              (
                ap not (list_rises s (known s graph) (settled s graph) os),
                (
                  some_block,
                  tt,
                ),
              ),
            ),
          ),
        ),
      ),
    ),
  )

  -- ---- the rules over the units below

  -- the units below its panorama
  abbrev below : List Node
  below = past (settled s graph) os

  last_is : (p : Node) → previous below u ≡ Some p → own s graph me ≡ Some p
  last_is = previous_last s graph me now time os usable may case.in_round u refl refl refl refl

  next_number : is_some_and (λ p. not (made.seq == p.unit.seq + 1)) (previous below u) ≡ false
  next_number = none_and _ (previous below u) (λ p h. ap not (eq-eqb _ _ (ap next_seq (last_is p h))))

  leader_rule : (is_block u && (not (time == round_id time s.config.min_exponent) || not (me == leader_of s.config (round_id time s.config.min_exponent)) || is_some_and (λ p. p.unit.time == time) (previous below u))) ≡ false
  leader_rule = go (is_some value) refl
    where
      round : is_some value ≡ true → time ≡ round_id time s.config.min_exponent
      round e = case.begins e ∙ sym (round_of_round now s.config.min_exponent) ∙ ap (λ n. round_id n s.config.min_exponent) (sym (case.begins e))

      leader : is_some value ≡ true → me ≡ leader_of s.config (round_id time s.config.min_exponent)
      leader e = case.leads e ∙ ap (leader_of s.config) (sym (case.begins e) ∙ round e)

      new_time : is_some value ≡ true → is_some_and (λ p. p.unit.time == time) (previous below u) ≡ false
      new_time e = none_and (λ p. p.unit.time == time) (previous below u) (λ p h. ne_eqb p.unit.time time (λ same. let lt = case.after e p (last_is p h) in let at = case.begins e in absurd (omega arith)))

      go : (b : Bool) → is_some value ≡ b → (b && (not (time == round_id time s.config.min_exponent) || not (me == leader_of s.config (round_id time s.config.min_exponent)) || is_some_and (λ p. p.unit.time == time) (previous below u))) ≡ false
      go true e =
          let a = ap not (eq-eqb _ _ (round e)) in
          let b = ap not (eq-eqb _ _ (leader e)) in
          let c = new_time e in
          rw (a, b, c) refl
      go false e = refl

  is_graph : IsGraph (settled s graph)
  is_graph = record {
    in_order = in_order s graph;
    one_name = rising_one_name (settled s graph) (in_order s graph);
    no_cycle = no_cycle s.config.weights (faulty s graph) (settled s graph) (lawful s graph);
  }

  ended : is_after_terminal s.config below u ≡ false
  unfolding is_after_terminal
  ended = go (is_some value) refl
    where
      at_end : (height : ℕ) → is_some_and (λ b. height_of s.config.weights below b == height) (fork_over s.config.weights below os) ≡ is_some_and (λ b. height_of s.config.weights (settled s graph) b == height) (fork_of s.config.weights (settled s graph) os)
      at_end height = by_fork (fork_of s.config.weights (settled s graph) os) refl
        where
          by_fork : (o : Option Node) → fork_of s.config.weights (settled s graph) os ≡ o
              → is_some_and (λ b. height_of s.config.weights below b == height) o ≡ is_some_and (λ b. height_of s.config.weights (settled s graph) b == height) o
          by_fork None e = refl
          by_fork (Some b) e = ap (λ h. h == height) (same_height s.config.weights (settled s graph) is_graph os b
              (chosen_below s.config.weights (settled s graph) os b e))

      by_end : (o : Option ℕ) → is_some_and (λ height. is_some_and (λ b. height_of s.config.weights (settled s graph) b == height) (fork_of s.config.weights (settled s graph) os)) o ≡ false
          → is_some_and (λ height. is_some_and (λ b. height_of s.config.weights below b == height) (fork_over s.config.weights below os)) o ≡ false
      by_end None h = refl
      by_end (Some height) h = at_end height ∙ h

      go : (b : Bool) → is_some value ≡ b → (b && is_some_and (λ height. is_some_and (λ c. height_of s.config.weights below c == height) (fork_over s.config.weights below os)) s.config.end) ≡ false
      go true e = by_end s.config.end (case.not_ended e)
      go false e = refl

  -- it keeps the rules over them
  pub keeps_rules : state_rule s.config (settled s graph) u ≡ None
  unfolding state_tests
  keeps_rules = none_broken_of (state_tests s.config below u) (
    own_creators s graph me time os usable,
    (
      next_number,
      (
        ap not (consistent s graph me time os usable),
        (
          none_later s graph me time os usable u refl,
          (
            no_change s graph me now time os usable may case.in_round u refl refl refl refl,
            (
              no_third s graph me now time os usable may case.in_round u refl refl refl refl,
              (
                leader_rule,
                (
                  none_shrinks s graph me time os usable u refl,
                  (
                    ap not (all_seen s graph me time os usable),
                    (
                      usable.no_fork,
                      (
                        ended,
                        tt,
                      ),
                    ),
                  ),
                ),
              ),
            ),
          ),
        ),
      ),
    ),
  )
