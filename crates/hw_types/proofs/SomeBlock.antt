-- A block stands: one validator's block and its next unit make a summit.
use Rattle.std.proofs.Common.{◌≡◌, ℕ, ◌<◌, ◌≤◌, inl, inr, List, [], ◌∷◌, length, Some, refl, sym, subst, ◌∙◌, arith, eqb-true}
use Rattle.std.specs.Prelude.{◌==◌, IsTrue}
use Rattle.hw_types.specs.declared.unit.Obs.{Obs}
use Rattle.hw_types.specs.Graph.{Node, latest}
use Rattle.hw_types.specs.Below.{Among}
use Rattle.hw_types.specs.Votes.{unit_fork, votes_for}
use Rattle.hw_types.specs.Settled.{settled_of, panorama_of}
use Rattle.hw_types.specs.Journal.{named, received_of}
use Rattle.hw_types.specs.Quorum.{IsQuorum, IsEnough}
use Rattle.hw_types.specs.Summit.{Committees, seen_weight, EachFrom, IsSummit}
use Rattle.hw_types.specs.SomeBlock.{one_validator, by_number, its_block, its_next_unit, block_and_next, SomeBlockStands}

-- a line that names this unfolds what the journal's state is made of
unfoldable unfold_state : Type 0
unfolding Rattle.hw_types.specs.Closure.closure Rattle.hw_types.specs.Closure.closure_after Rattle.hw_types.specs.Graph.reach Rattle.hw_types.specs.Graph.is_at_most Rattle.hw_types.specs.Graph.is_consistent Rattle.hw_types.specs.Votes.is_ancestor_within Rattle.hw_types.specs.Votes.votes_for Rattle.hw_types.specs.Votes.height_within Rattle.hw_types.specs.Votes.height_of Rattle.hw_types.specs.Votes.score_of Rattle.hw_types.specs.Votes.best_child Rattle.hw_types.specs.Votes.walk Rattle.hw_types.specs.Votes.ghost_walk Rattle.hw_types.specs.Votes.choices_after Rattle.hw_types.specs.Votes.fork_over Rattle.hw_types.specs.Rules.is_after_terminal Rattle.hw_types.specs.Rules.local_tests Rattle.hw_types.specs.Rules.has_naive_fork Rattle.hw_types.specs.Rules.state_tests Rattle.hw_types.specs.Rounds.leader_of Rattle.hw_types.specs.Settled.equivocates Rattle.hw_types.specs.Settled.is_endorsed Rattle.hw_types.specs.Settled.needs_of Rattle.hw_types.specs.Settled.missing_of Rattle.hw_types.specs.Settled.settled_of Rattle.hw_types.specs.Settled.tip_of Rattle.hw_types.specs.Settled.panorama_of Rattle.hw_types.specs.ByName.by_name Rattle.hw_types.specs.Journal.received_of
unfold_state = Unit {0}

abbrev first : Node
first = named by_number its_block

abbrev second : Node
second = named by_number its_next_unit

abbrev units : List Node
units = settled_of one_validator (received_of by_number block_and_next)

abbrev panorama : List Obs
panorama = panorama_of one_validator (received_of by_number block_and_next)

-- the validator, from its block on at level 0, and from its next unit on at level 1
abbrev committees : Committees
committees = record { member = λ j v. v == 0; start = λ j v. j }

latest_is_second : latest units panorama 0 ≡ Some second
unfolding unfold_state
latest_is_second = refl

-- what holds of both units holds of each on the lane
on_lane : (P : Node → Type 0) (from : ℕ) → (from ≤ 0 → P first) → P second → (x : Node) → Among x (first ∷ second ∷ []) → from ≤ x.unit.seq → P x
on_lane P from one two x (inl e) le = subst P e (one (subst (λ y. from ≤ y.unit.seq) (sym e) le))
on_lane P from one two x (inr (inl e)) le = subst P e two
on_lane P from one two x (inr (inr none)) le = absurd none

least : (p : ℕ) → IsEnough 1 0 1 p → 1 ≤ p
least p h = omega arith

is_quorum : IsQuorum 1 0 1 1
is_quorum = record { enough = omega arith; least = λ p h. least p h }

-- the only latest unit is the second
is_zero : (v : ℕ) → IsTrue (v == 0) → v ≡ 0
is_zero v h = eqb-true v 0 h

is_second : (v : ℕ) (u : Node) → IsTrue (v == 0) → latest units panorama v ≡ Some u → second ≡ u
is_second v u h e = one second u (sym latest_is_second ∙ subst (λ w. latest units panorama w ≡ Some u) (is_zero v h) e)
  where
    one : (x y : Node) → Some x ≡ Some y → x ≡ y
    one x y f = cc

-- each unit of its lane votes for the block
abbrev votes : Node → Type 0
votes x = IsTrue (votes_for (length units) (unit_fork (1 ∷ []) units) first x)

-- and from the next unit on each sees a quorum
abbrev sees : ℕ → Node → Type 0
sees j x = 1 ≤ seen_weight (1 ∷ []) units committees j x

each_votes : EachFrom units second 0 votes
unfolding unfold_state
each_votes = λ x on le. on_lane votes 0 (λ low. refl) refl x on le

each_sees : EachFrom units second 1 (sees 1)
unfolding unfold_state
each_sees = λ x on le. on_lane (sees 1) 1 (λ low. omega arith) (omega arith) x on le

is_summit : IsSummit (1 ∷ []) units panorama first 1 1 committees
is_summit = record {
  correct_slot = λ v h. let e = is_zero v h in (omega arith, second, subst (λ w. latest units panorama w ≡ Some second) (sym e) latest_is_second);
  nested = λ j v lt h. (h, omega arith);
  not_empty = (0, refl);
  start_in_lane = λ j v u le h e. subst (λ w. j ≤ w.unit.seq) (is_second v u h e) le;
  votes = λ v u h e. subst (λ w. EachFrom units w 0 votes) (is_second v u h e) each_votes;
  quorums = λ j v u some le h e. subst (λ w. EachFrom units w j (sees j)) (is_second v u h e)
      (subst (λ i. EachFrom units second i (sees i)) (level_one j some le) each_sees);
}
  where
    level_one : (j : ℕ) → 0 < j → j ≤ 1 → 1 ≡ j
    level_one j some le = omega arith

pub a_block_stands : SomeBlockStands
a_block_stands = record { low = omega arith; high = omega arith; is_quorum = is_quorum; summit = (committees, is_summit) }
