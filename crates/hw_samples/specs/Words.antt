-- Words of the worked samples: units in short, deliveries, and what they leave.
use Rattle.std.specs.Prelude.{ℕ, Bool, true, List, [], ◌∷◌, length, map, filter, Option, Some, None, Result}
use Rattle.hw_types.specs.declared.unit.Digest.{Digest}
use Rattle.hw_types.specs.declared.unit.Obs.{Obs}
use Rattle.hw_types.specs.declared.unit.Obs.TheVariants.{Correct}
use Rattle.hw_types.specs.declared.unit.WireUnit.{WireUnit}
use Rattle.hw_types.specs.declared.unit.Signature.{Signature}
use Rattle.hw_types.specs.declared.unit.SignedUnit.{SignedUnit}
use Rattle.hw_types.specs.declared.unit.Vertex.{Vertex}
use Rattle.hw_types.specs.declared.unit.Vertex.TheVariants as vertex
use Rattle.hw_types.specs.declared.config.Config.{Config}
use Rattle.hw_types.specs.declared.config.Leaders.TheVariants.{Table}
use Rattle.hw_types.specs.declared.answers.Receipt.{Receipt}
use Rattle.hw_types.specs.declared.answers.Cause.{Cause}
use Rattle.hw_types.specs.declared.answers.Decision.{Decision}
use Rattle.hw_types.specs.Graph.{Node}
use Rattle.hw_types.specs.Settled.{validators, is_faulty, settled_of, panorama_of, faulty_weight, fork_choice}
use Rattle.hw_types.specs.Journal.{Setting, named, received_of, journal_of, answers_from}
use Rattle.hw_safety.specs.Pruned.{Starts, pruned}
use Rattle.hw_safety.specs.Decided.{decisions_of}

abbrev pub digest : List ℕ → Digest
digest bytes = record { 0 = bytes }

-- ---- settings

-- three validators of weight 1, and leaders by a table of three rounds
abbrev pub equal_three : Config
equal_three = record { weights = 1 ∷ 1 ∷ 1 ∷ []; ftt = 0; levels = 1; min_exponent = 4; max_exponent = 8; leaders = Table (0 ∷ 0 ∷ 2 ∷ []); max_records = 131072; max_parked = 4096; end = None }

-- one validator
abbrev pub alone : Config
alone = record equal_three { weights = 1 ∷ []; leaders = Table (0 ∷ []) }

-- four validators of weight 1, of which one may be faulty
abbrev pub equal_four : Config
equal_four = record equal_three { weights = 1 ∷ 1 ∷ 1 ∷ 1 ∷ []; ftt = 1; leaders = Table (0 ∷ []) }

-- a short name, made of a unit's numbers
abbrev pub short_name : WireUnit → Digest
short_name u = digest (u.creator ∷ u.seq ∷ u.time ∷ length u.endorsed ∷ [])

abbrev pub in_short : Config → Setting
in_short config = record { config = config; instance = digest []; name = short_name }

abbrev pub three : Setting
three = in_short equal_three

abbrev pub four : Setting
four = in_short equal_four

-- ---- units and vertices

-- by its creator, its number, its time, its citations and its value, of exponent 4
abbrev pub unit : ℕ → ℕ → ℕ → List Obs → Option (List ℕ) → WireUnit
unit creator seq time panorama value = record { instance = digest []; creator = creator; seq = seq; time = time; exponent = 4; panorama = panorama; value = value; endorsed = [] }

abbrev pub at : WireUnit → Obs
at u = Correct (short_name u)

abbrev pub unsigned : Signature
unsigned = record { 0 = [] }

abbrev pub unsigned_as : WireUnit → SignedUnit
unsigned_as u = record { unit = u; signature = unsigned }

abbrev pub sent : WireUnit → Vertex
sent u = vertex.Unit (unsigned_as u)

abbrev pub both : WireUnit → WireUnit → Vertex
both u v = vertex.Evidence (record { left = record { unit = u; signature = unsigned }; right = record { unit = v; signature = unsigned } })

abbrev pub endorses : WireUnit → ℕ → Vertex
endorses u v = vertex.Endorsement (record { unit = short_name u; endorser = v; signature = unsigned })

-- ---- what deliveries leave

-- each with a true verdict
abbrev pub deliver : List Vertex → List (Vertex × Bool)
deliver vs = map (λ v. (v, true)) vs

abbrev pub Answers : Type 0
Answers = List (Result Receipt Cause)

abbrev pub answers_to : Setting → List Vertex → Answers
answers_to s vs = answers_from s [] (deliver vs)

abbrev pub after : Setting → List Vertex → List Vertex
after s vs = journal_of s (deliver vs)

abbrev pub names_of : List Node → List Digest
names_of xs = map (λ x. x.digest) xs

abbrev pub name_of : Option Node → Option Digest
name_of None = None
name_of (Some x) = Some x.digest

abbrev pub settled_in : Setting → List Vertex → List Node
settled_in s journal = settled_of s.config (received_of s journal)

abbrev pub is_faulty_in : Setting → List Vertex → ℕ → Bool
is_faulty_in s journal = is_faulty (received_of s journal) (settled_of s.config (received_of s journal))

abbrev pub settled_names : Setting → List Vertex → List Digest
settled_names s journal = names_of (settled_of s.config (received_of s journal))

abbrev pub panorama_in : Setting → List Vertex → List Obs
panorama_in s journal = panorama_of s.config (received_of s journal)

abbrev pub faulty_in : Setting → List Vertex → List ℕ
faulty_in s journal = filter (is_faulty (received_of s journal) (settled_of s.config (received_of s journal))) (validators s.config)

abbrev pub weight_in : Setting → List Vertex → ℕ
weight_in s journal = faulty_weight s.config (received_of s journal)

abbrev pub fork_in : Setting → List Vertex → Option Digest
fork_in s journal = name_of (fork_choice s.config (received_of s journal))

-- who is in the greatest summit's committee of a level, each with the start there
abbrev pub committee_in : Setting → List Vertex → WireUnit → ℕ → ℕ → Starts
committee_in s journal block quorum level = pruned s.config.weights (settled_of s.config (received_of s journal)) (panorama_of s.config (received_of s journal)) (named s block) quorum level

-- the decisions, where each delivery has the answers above
abbrev pub decisions_after : Setting → List Vertex → List Decision
decisions_after s vs = decisions_of s (after s vs)

-- a record of a block by its height, level, quorum and moment
abbrev pub decided : WireUnit → ℕ → ℕ → ℕ → ℕ → Decision
decided block height level quorum at = record { block = short_name block; height = height; level = level; quorum = quorum; at = at }

-- ---- what a sample unfolds: a line that names one of these unfolds all of its definitions

unfoldable pub unfold_state : Type 0
unfolding Rattle.hw_types.specs.Graph.reach Rattle.hw_types.specs.Closure.closure_after Rattle.hw_types.specs.Closure.closure Rattle.hw_types.specs.Graph.is_at_most Rattle.hw_types.specs.Graph.is_consistent Rattle.hw_types.specs.Votes.is_ancestor_within Rattle.hw_types.specs.Votes.votes_for Rattle.hw_types.specs.Votes.height_within Rattle.hw_types.specs.Votes.height_of Rattle.hw_types.specs.Votes.score_of Rattle.hw_types.specs.Votes.best_child Rattle.hw_types.specs.Votes.walk Rattle.hw_types.specs.Votes.ghost_walk Rattle.hw_types.specs.Rules.is_after_terminal Rattle.hw_types.specs.Votes.choices_after Rattle.hw_types.specs.Votes.fork_over Rattle.hw_types.specs.Rounds.leader_of Rattle.hw_types.specs.Rules.local_tests Rattle.hw_types.specs.Rules.has_naive_fork Rattle.hw_types.specs.Rules.state_tests Rattle.hw_types.specs.Settled.equivocates Rattle.hw_types.specs.Settled.is_endorsed Rattle.hw_types.specs.Settled.needs_of Rattle.hw_types.specs.Settled.missing_of Rattle.hw_types.specs.Settled.settled_of Rattle.hw_types.specs.Settled.parked_of Rattle.hw_types.specs.Settled.dropped_of Rattle.hw_types.specs.Settled.tip_of Rattle.hw_types.specs.Settled.panorama_of Rattle.hw_types.specs.Settled.faulty_weight Rattle.hw_types.specs.Settled.fork_choice
unfold_state = Unit {0}

unfoldable pub unfold_answers : Type 0
unfolding unfold_state Rattle.hw_types.specs.ByName.by_name Rattle.hw_types.specs.Journal.received_of Rattle.hw_types.specs.Journal.answer Rattle.hw_types.specs.Journal.answers_from Rattle.hw_types.specs.Culprits.pair_of Rattle.hw_types.specs.Culprits.culprits_of
unfold_answers = Unit {0}

unfoldable pub unfold_steps : Type 0
unfolding unfold_answers Rattle.hw_types.specs.Step.step Rattle.hw_types.specs.Step.step_in Rattle.hw_types.specs.Step.list_of Rattle.hw_types.specs.Step.is_fit Rattle.hw_types.specs.Step.chosen_panorama Rattle.hw_types.specs.Step.lane_units_in
unfold_steps = Unit {0}

unfoldable pub unfold_decisions : Type 0
unfolding unfold_answers Rattle.hw_safety.specs.Pruned.least_from Rattle.hw_safety.specs.Pruned.begun Rattle.hw_safety.specs.Pruned.start_in Rattle.hw_safety.specs.Pruned.choose Rattle.hw_safety.specs.Pruned.left_after Rattle.hw_safety.specs.Pruned.settle Rattle.hw_safety.specs.Pruned.seen_in Rattle.hw_safety.specs.Pruned.pruned Rattle.hw_safety.specs.Decided.decisions_of Rattle.hw_safety.specs.Decided.newly_decided Rattle.hw_safety.specs.Decided.fresh_at Rattle.hw_safety.specs.Decided.decided_at Rattle.hw_safety.specs.Decided.least_level Rattle.hw_safety.specs.Decided.moment_of
unfold_decisions = Unit {0}

unfoldable pub unfold_reading : Type 0
unfolding Rattle.hw_types.specs.Reading.whole Rattle.hw_types.specs.Reading.unit_at Rattle.hw_types.specs.Reading.signed_at Rattle.hw_types.specs.Reading.vertex_at Rattle.hw_types.specs.Reading.value_at Rattle.hw_types.specs.Reading.obs_at Rattle.hw_types.specs.Reading.counted_at Rattle.hw_types.specs.Reading.many_at Rattle.hw_types.specs.Reading.config_at Rattle.hw_types.specs.Reading.need_at Rattle.hw_types.specs.Reading.frame_at
unfold_reading = Unit {0}

unfoldable pub unfold_names : Type 0
unfolding Rattle.hw_types.specs.Spelling.digest_of Rattle.hw_types.specs.Spelling.instance_of Rattle.sha2.specs.Sha256.sha256 Rattle.sha2.specs.Sha256.first_words Rattle.sha2.specs.Sha256.schedule Rattle.sha2.specs.Sha256.rounds Rattle.sha2.specs.Sha256.compress Rattle.sha2.specs.Sha256.hash_after Rattle.sha2.specs.Sha256.digest_bytes
unfold_names = Unit {0}

unfoldable pub unfold_draws : Type 0
unfolding Rattle.hw_types.specs.Rounds.leader_of Rattle.hw_types.specs.Rounds.drawn_number Rattle.rand_core.specs.Steps.u32_at Rattle.rand_chacha.specs.Block.block_word Rattle.rand_chacha.specs.Block.double_rounds Rattle.rand_chacha.specs.Block.diagonal_round Rattle.rand_chacha.specs.Block.column_round Rattle.rand_chacha.specs.Block.quarter_round
unfold_draws = Unit {0}
