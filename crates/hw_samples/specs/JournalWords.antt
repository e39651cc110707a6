-- Words for the samples of journals.
use Rattle.std.specs.Prelude.{ℕ, zero, suc, ◌+◌, ◌-◌, ◌*◌, ◌%◌, Bool, true, not, nat_le, nat_lt, ◌==◌, ◌&&◌, ◌||◌, if◌then◌else◌, slice_index_or, List, [], ◌∷◌, length, map, filter, sum, Option, Some, None}
use Rattle.hw_types.specs.declared.unit.Digest.{Digest}
use Rattle.hw_types.specs.declared.unit.Obs.{Obs}
use Rattle.hw_types.specs.declared.unit.WireUnit.{WireUnit}
use Rattle.hw_types.specs.declared.unit.Vertex.{Vertex}
use Rattle.hw_types.specs.declared.unit.Vertex.TheVariants as vertex
use Rattle.hw_types.specs.declared.config.Config.{Config}
use Rattle.std.specs.List.{list_any, list_all}
use Rattle.hw_types.specs.Graph.{Node, is_some_and, latest, is_on_lane}
use Rattle.hw_types.specs.Summit.{Committees, seen_weight}
use Rattle.hw_types.specs.Votes.{unit_fork, vote_of, height_of, is_block, votes_for}
use Rattle.hw_types.specs.Journal.{Setting}
use Rattle.hw_samples.specs.Words.{name_of, unfold_steps}

abbrev pub dg : List ℕ → Digest
dg bytes = record { 0 = bytes }

abbrev pub sent_as : List ℕ → WireUnit → Vertex
sent_as by u = vertex.Unit (record { unit = u; signature = record { 0 = by } })

abbrev pub both_as : List ℕ → WireUnit → List ℕ → WireUnit → Vertex
both_as by u other v = vertex.Evidence (record { left = record { unit = u; signature = record { 0 = by } }; right = record { unit = v; signature = record { 0 = other } } })

abbrev pub backs : Digest → ℕ → Vertex
backs u v = vertex.Endorsement (record { unit = u; endorser = v; signature = record { 0 = [] } })

abbrev pub value_code : Option (List ℕ) → ℕ
value_code None = 0
value_code (Some value) = 17 + sum value

-- a name that rarely meets another
abbrev pub mixed : WireUnit → Digest
mixed u = dg ((u.creator * 7 + u.seq * 5 + u.time * 11 + u.exponent * 3 + length u.panorama + value_code u.value + length u.endorsed * 13) % 97 ∷ u.creator ∷ u.seq ∷ u.time ∷ [])

-- a name that often does
abbrev pub narrow : WireUnit → Digest
narrow u = dg ((u.time + u.seq * 3 + value_code u.value) % 5 ∷ u.creator ∷ 0 ∷ 0 ∷ [])

abbrev pub named_by : (WireUnit → Digest) → Config → Setting
named_by name config = record { config = config; instance = dg (0 ∷ 0 ∷ 0 ∷ 0 ∷ []); name = name }

abbrev pub votes_in : Config → List Node → List (Option Digest)
votes_in c units = map (λ u. name_of (vote_of (unit_fork c.weights units) u)) units

abbrev pub parents_in : Config → List Node → List (Option Digest × ℕ)
parents_in c units = map (λ u. (name_of (unit_fork c.weights units u), height_of c.weights units u)) (filter is_block units)

-- ---- the words of a summit as a test, for committees given as tables of members and starts

abbrev pub StartTables : Type 0
StartTables = List (List (ℕ × ℕ))

abbrev pub level_of : StartTables → ℕ → List (ℕ × ℕ)
level_of table j = slice_index_or table j []

abbrev pub start_in : List (ℕ × ℕ) → ℕ → ℕ
start_in [] v = 0
start_in (p ∷ ps) v = if p.0 == v then p.1 else start_in ps v

abbrev pub committees_of : StartTables → Committees
committees_of table = record { member = λ j v. list_any (λ p. p.0 == v) (level_of table j); start = λ j v. start_in (level_of table j) v }

-- each level from 1 to this one
abbrev pub each_level : ℕ → (ℕ → Bool) → Bool
each_level zero test = true
each_level (suc n) test = each_level n test && test (suc n)

abbrev pub from_start : List Node → Option Node → ℕ → (Node → Bool) → Bool
from_start units last from test =
    is_some_and (λ u. nat_le from u.unit.seq && list_all (λ x. not (is_on_lane units x u && nat_le from x.unit.seq) || test x) units) last

unfoldable pub committee_test : List ℕ → List Node → List Obs → Node → ℕ → ℕ → StartTables → Bool
committee_test weights units panorama block level quorum table =
    let c = committees_of table in
    list_all (λ p. nat_lt p.0 (length weights)) (level_of table 0)
    && (list_any (λ p. true) (level_of table level)
    && (list_all (λ p. from_start units (latest units panorama p.0) p.1 (λ x. votes_for (length units) (unit_fork weights units) block x)) (level_of table 0)
    && (each_level level (λ j. list_all (λ p. c.member (j - 1) p.0 && nat_le (c.start (j - 1) p.0) p.1) (level_of table j))
    && each_level level (λ j. list_all (λ p. from_start units (latest units panorama p.0) p.1 (λ x. nat_le quorum (seen_weight weights units c j x))) (level_of table j)))))

unfoldable pub unfold_all : Type 0
unfolding unfold_steps committee_test Rattle.hw_types.specs.Rounds.drawn_number
unfold_all = Unit {0}
