-- The rules that a unit keeps.
-- Source: casper-node in outline; order, numbers and the reading of naivety are ours.
use Rattle.std.specs.Prelude.{◌+◌, ◌/◌, ◌^◌, Bool, true, ◌&&◌, ◌||◌, not, nat_lt, nat_le, ◌==◌, List, [], ◌∷◌, length, filter, Option, is_none}
use Rattle.std.specs.List.{list_any, list_all}
use Rattle.hw_types.specs.declared.unit.Digest.{Digest}
use Rattle.hw_types.specs.declared.unit.Obs.{Obs}
use Rattle.hw_types.specs.declared.unit.WireUnit.{WireUnit}
use Rattle.hw_types.specs.declared.config.Config.{Config}
use Rattle.hw_types.specs.declared.answers.Rule.{Rule}
use Rattle.hw_types.specs.declared.answers.Rule.TheVariants.{WrongInstance, UnknownCreator, PanoramaLength, FaultySelf, FirstSequence, RoundExponent, EndorsedOrder, NoBlock, SlotCreator, SequenceNumber, Inconsistent, TimeGoesBack, RoundChange, ThirdInRound, NotLeader, EndorsedShrinks, EndorsedUnseen, Naive, AfterTerminal}
use Rattle.hw_types.specs.Tests.{Tests, first_broken}
use Rattle.hw_types.specs.Graph.{Node, digest_eq, is_some_and, is_faulty_mark, is_absent, is_correct, slot, slots, find_node, latest, cites, past, is_below, are_comparable, previous, is_consistent, digest_lt}
use Rattle.hw_types.specs.Votes.{is_block, fork_over, height_of}
use Rattle.hw_types.specs.Rounds.{round_id, changes_lawfully, leader_of}

-- ---- rules of the unit alone

-- the unit's observation of its own creator
abbrev pub own_slot : WireUnit → Obs
own_slot u = slot u.panorama u.creator

-- these rise, and each is above the first
abbrev pub is_rising_after : Digest → List Digest → Bool
is_rising_after d [] = true
is_rising_after d (e ∷ es) = digest_lt d e && is_rising_after e es

-- each digest is above the one before
abbrev pub is_rising : List Digest → Bool
is_rising [] = true
is_rising (d ∷ ds) = is_rising_after d ds

-- rules 1 to 8, in their order, each true where it is broken
unfoldable pub local_tests : Config → Digest → WireUnit → Tests Rule
local_tests config instance u =
    (WrongInstance, not (digest_eq u.instance instance))
    ∷ (UnknownCreator, nat_le (length config.weights) u.creator)
    ∷ (PanoramaLength, not (length u.panorama == length config.weights))
    ∷ (FaultySelf, is_faulty_mark (own_slot u))
    ∷ (FirstSequence, (is_absent (own_slot u) && not (u.seq == 0)) || (is_correct (own_slot u) && (u.seq == 0)))
    ∷ (RoundExponent, nat_lt u.exponent config.min_exponent || nat_lt config.max_exponent u.exponent)
    ∷ (EndorsedOrder, not (is_rising u.endorsed))
    ∷ (NoBlock, is_none u.value && not (list_any is_correct u.panorama))
    ∷ []

-- the first rule of the unit alone that it breaks
abbrev pub local_rule : Config → Digest → WireUnit → Option Rule
local_rule config instance u = first_broken (local_tests config instance u)

-- ---- rules over the units below

-- a unit below u that is below no unit of this endorsed list
abbrev pub is_naive : List Node → List Digest → Node → Bool
is_naive below endorsed x = not (list_any (λ d. is_some_and (is_below below x) (find_node below d)) endorsed)

-- all units that are naive
abbrev pub naive_of : List Node → List Digest → List Node
naive_of below endorsed = filter (is_naive below endorsed) below

-- two naive units of one creator are not comparable
unfoldable pub has_naive_fork : List Node → List Digest → Bool
has_naive_fork below endorsed =
    list_any (λ x. list_any (λ y. (x.unit.creator == y.unit.creator) && not (are_comparable below x y)) (naive_of below endorsed)) (naive_of below endorsed)

-- some cited unit passes
abbrev pub some_cited : List Node → Node → (Node → Bool) → Bool
some_cited units u test = list_any (λ w. cites u.unit.panorama w && test w) units

-- the digest is in the list
abbrev pub has_digest : List Digest → Digest → Bool
has_digest ds d = list_any (digest_eq d) ds

-- the two are in one round, by the exponent of the second
abbrev pub same_round : Node → Node → Bool
same_round x u = (x.unit.time / 2 ^ u.unit.exponent == u.unit.time / 2 ^ u.unit.exponent)

-- the rule of terminal blocks, which reads the fork choice of the unit's own panorama
unfoldable pub is_after_terminal : Config → List Node → Node → Bool
is_after_terminal config below u =
    is_block u && is_some_and (λ end. is_some_and (λ b. height_of config.weights below b == end) (fork_over config.weights below u.unit.panorama)) config.end

-- rules 9 to 19, in their order, each true where it is broken
unfoldable pub state_tests : Config → List Node → Node → Tests Rule
state_tests config below u =
    (SlotCreator, list_any (λ v. is_some_and (λ x. not (x.unit.creator == v)) (latest below u.unit.panorama v)) (slots u.unit.panorama))
    ∷ (SequenceNumber, is_some_and (λ p. not (u.unit.seq == p.unit.seq + 1)) (previous below u))
    ∷ (Inconsistent, not (is_consistent below u.unit.panorama))
    ∷ (TimeGoesBack, some_cited below u (λ w. nat_lt u.unit.time w.unit.time))
    ∷ (RoundChange, is_some_and (λ p. not (changes_lawfully p.unit.time p.unit.exponent u.unit.time u.unit.exponent)) (previous below u))
    ∷ (ThirdInRound, is_some_and (λ p. is_some_and (λ g. same_round g u) (previous below p)) (previous below u))
    ∷ (
      NotLeader,
      is_block u && (not (u.unit.time == round_id u.unit.time u.unit.exponent)
          || not (u.unit.creator == leader_of config (round_id u.unit.time u.unit.exponent))
          || is_some_and (λ p. p.unit.time == u.unit.time) (previous below u)),
    )
    ∷ (EndorsedShrinks, some_cited below u (λ w. not (list_all (has_digest u.unit.endorsed) w.unit.endorsed)))
    ∷ (EndorsedUnseen, not (list_all (λ d. list_any (λ x. digest_eq x.digest d) below) u.unit.endorsed))
    ∷ (Naive, has_naive_fork below u.unit.endorsed)
    ∷ (AfterTerminal, is_after_terminal config below u)
    ∷ []

-- It reads the unit and the units below it alone.
abbrev pub state_rule : Config → List Node → Node → Option Rule
state_rule config units u = first_broken (state_tests config (past units u.unit.panorama) u)
