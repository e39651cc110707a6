-- What is judged: a unit over the units below it, by groups of rules.
use Rattle.std.specs.Prelude.{◌≡◌, ℕ, ◌+◌, ◌<◌, ◌&&◌, ◌||◌, ◌==◌, Bool, not, nat_lt, List, [], ◌∷◌, Option, None}
use Rattle.std.specs.List.{list_any, list_all}
use Rattle.std.specs.Option.{option_map}
use Rattle.hw_types.specs.declared.answers.Rule.{Rule}
use Rattle.hw_types.specs.declared.answers.Rule.TheVariants.{SlotCreator, SequenceNumber, Inconsistent, TimeGoesBack, RoundChange, ThirdInRound, NotLeader, EndorsedShrinks, EndorsedUnseen, Naive, AfterTerminal}
use Rattle.hw_types.specs.declared.config.Config.{Config}
use Rattle.hw_types.specs.declared.unit.Digest.{Digest}
use Rattle.hw_types.specs.declared.unit.WireUnit.{WireUnit}
use Rattle.hw_types.specs.Tests.{Tests}
use Rattle.hw_types.specs.Graph.{Node, digest_eq, is_some_and, slots, latest, past, previous, is_consistent}
use Rattle.hw_types.specs.Votes.{is_block, height_of, fork_over, fork_of}
use Rattle.hw_types.specs.Rounds.{round_id, changes_lawfully, leader_of}
use Rattle.hw_types.specs.Rules.{local_rule, some_cited, has_digest, same_round, has_naive_fork, is_after_terminal}
use Rattle.hw_dag.specs.declared.numbers.UnitNo.{UnitNo}
use Rattle.hw_dag.specs.declared.numbers.View.{View}
use Rattle.hw_dag.specs.declared.numbers.View.TheVariants as view
use Rattle.hw_dag.specs.Dag.{UnitGraph, count_of, unit_at, node_at, graph, view_at}
use Rattle.hw_dag.specs.Lists.{AllNameBelow}
use Rattle.hw_dag.specs.Tables.{number_of}
use Rattle.hw_dag.specs.Admission.{PreparedUnit, IsFor, IsResolved, IsGraph}
use Rattle.hw_naivety.specs.Naivety.{KeepsEndorsed}

-- a resolved unit for the validators of a graph
pub record IsCase (dag : UnitGraph) (p : PreparedUnit) : Type 0 where
  pub graph_is : IsGraph dag
  pub is_for : IsFor dag.validators p.signed
  pub resolved : IsResolved dag p

-- it breaks no rule of the unit alone, in some instance
abbrev pub KeepsLocalRules : Config → WireUnit → Type 0
KeepsLocalRules config u = (instance : Digest) × (local_rule config instance u ≡ None)

-- the units below it
abbrev pub below_of : UnitGraph → PreparedUnit → List Node
below_of dag p = past (graph dag) p.signed.unit.panorama

-- the number of the unit that it cites of its own creator
abbrev pub before_of : PreparedUnit → Option UnitNo
before_of p = number_of (view_at p.panorama p.signed.unit.creator)

-- this holds of each unit that the slots name, beside the validator of its slot
abbrev pub EachNamed : List View → (ℕ → UnitNo → Type 0) → Type 0
EachNamed slots fact = (v : ℕ) (no : UnitNo) → view_at slots v ≡ view.Correct no → fact v no

-- each unit's endorsed list has those of the units that it cites
abbrev pub AllKeepEndorsed : UnitGraph → Type 0
AllKeepEndorsed dag = (n : ℕ) → n < count_of dag → KeepsEndorsed (graph dag) (node_at dag n)

-- each unit's endorsed list has names of units below it alone
abbrev pub AllEndorseSeen : UnitGraph → Type 0
AllEndorseSeen dag = (n : ℕ) → n < count_of dag → AllNameBelow dag (unit_at dag n).panorama (unit_at dag n).signed.unit.endorsed

-- ---- each rule, true where it is broken

-- a unit in a slot is by another validator
abbrev pub has_foreign_slot : List Node → Node → Bool
has_foreign_slot below u = list_any (λ v. is_some_and (λ x. not (x.unit.creator == v)) (latest below u.unit.panorama v)) (slots u.unit.panorama)

-- its number isn't the next on its lane
abbrev pub skips_number : List Node → Node → Bool
skips_number below u = is_some_and (λ p. not (u.unit.seq == p.unit.seq + 1)) (previous below u)

-- a cited unit is later
abbrev pub goes_back : List Node → Node → Bool
goes_back below u = some_cited below u (λ w. nat_lt u.unit.time w.unit.time)

-- its exponent changes within a round
abbrev pub changes_round : List Node → Node → Bool
changes_round below u = is_some_and (λ p. not (changes_lawfully p.unit.time p.unit.exponent u.unit.time u.unit.exponent)) (previous below u)

-- the unit before the unit before is in its round
abbrev pub is_third : List Node → Node → Bool
is_third below u = is_some_and (λ p. is_some_and (λ g. same_round g u) (previous below p)) (previous below u)

-- the unit before it has its time
abbrev pub repeats_time : List Node → Node → Bool
repeats_time below u = is_some_and (λ p. p.unit.time == u.unit.time) (previous below u)

-- it is a block, and isn't its leader's block at its round's beginning
abbrev pub is_unled : Config → List Node → Node → Bool
is_unled config below u =
    is_block u && (not (u.unit.time == round_id u.unit.time u.unit.exponent)
    || not (u.unit.creator == leader_of config (round_id u.unit.time u.unit.exponent))
    || repeats_time below u)

-- a cited unit's list has a digest that its own hasn't
abbrev pub drops_endorsed : List Node → Node → Bool
drops_endorsed below u = some_cited below u (λ w. not (list_all (has_digest u.unit.endorsed) w.unit.endorsed))

-- a unit below has this name
abbrev pub has_named : List Node → Digest → Bool
has_named below d = list_any (λ x. digest_eq x.digest d) below

-- its list has a digest of no unit below
abbrev pub endorses_unseen : List Node → Node → Bool
endorses_unseen below u = not (list_all (has_named below) u.unit.endorsed)

-- the fork choice of its panorama has this height
abbrev pub stands_at : List ℕ → List Node → Node → ℕ → Bool
stands_at weights below u height = is_some_and (λ b. height_of weights below b == height) (fork_over weights below u.unit.panorama)

-- the fork choice of the unit's panorama
abbrev pub IsForkOf : List ℕ → UnitGraph → PreparedUnit → Option UnitNo → Type 0
IsForkOf weights dag p fork = option_map (λ (no : UnitNo). node_at dag no.0) fork ≡ fork_of weights (graph dag) p.signed.unit.panorama

-- ---- the rules in groups

-- rules 9 to 12, of what it cites
abbrev pub citation_tests : List Node → Node → Tests Rule
citation_tests below u =
    (SlotCreator, has_foreign_slot below u)
    ∷ (SequenceNumber, skips_number below u)
    ∷ (Inconsistent, not (is_consistent below u.unit.panorama))
    ∷ (TimeGoesBack, goes_back below u)
    ∷ []

-- rules 13 to 15, of its round
abbrev pub round_tests : Config → List Node → Node → Tests Rule
round_tests config below u =
    (RoundChange, changes_round below u)
    ∷ (ThirdInRound, is_third below u)
    ∷ (NotLeader, is_unled config below u)
    ∷ []

-- rules 16 to 18, of its endorsed list
abbrev pub endorsed_tests : List Node → Node → Tests Rule
endorsed_tests below u =
    (EndorsedShrinks, drops_endorsed below u)
    ∷ (EndorsedUnseen, endorses_unseen below u)
    ∷ (Naive, has_naive_fork below u.unit.endorsed)
    ∷ []

-- rule 19, of terminal blocks
abbrev pub terminal_tests : Config → List Node → Node → Tests Rule
terminal_tests config below u = (AfterTerminal, is_after_terminal config below u) ∷ []
