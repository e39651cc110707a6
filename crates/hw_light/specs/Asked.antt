-- What is answered where the certificate of a block is asked for.
-- Source: ours.
use Rattle.std.specs.Prelude.{◌≡◌, ◌≢◌, ℕ, ◌<◌, nat_lt, ◌&&◌, List, length, filter, find, Option, Some, None, slice_get, if◌then◌else◌}
use Rattle.hw_types.specs.declared.unit.Digest.{Digest}
use Rattle.hw_types.specs.declared.config.Config.{Config}
use Rattle.hw_types.specs.declared.answers.Decision.{Decision}
use Rattle.hw_types.specs.Graph.{Node, digest_eq}
use Rattle.hw_types.specs.Real.{CoreState, settled_in, panorama_in}
use Rattle.hw_safety.specs.Pruned.{pruned_committees, has_summit}
use Rattle.hw_core.specs.Decided.{decided_in}
use Rattle.hw_core.specs.Readers.{exceeded_in}
use Rattle.hw_light.specs.declared.certificate.Certificate.{Certificate}
use Rattle.hw_light.specs.declared.answers.Certified.TheVariants.{Made, NotNow, TooLong}
use Rattle.hw_light.specs.Extract.{is_under, vertices_for}
use Rattle.hw_light.specs.Certify.{IsCertifiedAs, IfMade}
use Rattle.hw_light.specs.declared.asked.Asked.{Asked}
use Rattle.hw_light.specs.declared.asked.Asked.TheVariants as asked

-- ---- the answer

-- the decided block of that place has this digest, and none before it does
pub record IsDecisionOf (core : CoreState) (block : Digest) (index : ℕ) : Type 0 where
  pub decision : Decision
  pub at : slice_get (decided_in core) index ≡ Some decision
  pub block_is : decision.block ≡ block
  pub first : (k : ℕ) (d : Decision) → k < index → slice_get (decided_in core) k ≡ Some d → d.block ≢ block

-- no decided block has it
abbrev pub HasNoDecision : CoreState → Digest → Type 0
HasNoDecision core block = (index : ℕ) (d : Decision) → slice_get (decided_in core) index ≡ Some d → d.block ≢ block

-- no decision has the block, or it is the answer at the place of the one that has
abbrev pub IsAskedOf : CoreState → Digest → Asked → Type 0
IsAskedOf core block asked.NoDecision = HasNoDecision core block
IsAskedOf core block (asked.Answered certified) = (index : ℕ) × IsDecisionOf core block index × IsCertifiedAs core index certified

-- where a certificate was made
abbrev pub IfAnswered : (Certificate → Type 0) → Asked → Type 0
IfAnswered P asked.NoDecision = Unit {0}
IfAnswered P (asked.Answered certified) = IfMade P certified

-- ---- what is reported of it

-- No decided block has the digest. Or the block has no summit now. Or its certificate would have this many vertices,
-- too many. Or it has this many.
pub data Outcome : Type 0 where
  NoDecision : Outcome
  NoStanding : Outcome
  NoLength : ℕ → Outcome
  HasCertificate : ℕ → Outcome

-- of an answer
abbrev pub told_in : Asked → Outcome
told_in asked.NoDecision = NoDecision
told_in (asked.Answered NotNow) = NoStanding
told_in (asked.Answered (TooLong count)) = NoLength count
told_in (asked.Answered (Made made)) = HasCertificate (length made.vertices)

-- ---- worked out

-- the decided block of this digest
unfoldable pub decided_block : CoreState → Digest → Option Decision
decided_block core block = find (λ (d : Decision). digest_eq d.block block) (decided_in core)

-- the settled unit of its name, where it has a summit now, of the level and the quorum of its decision
abbrev pub standing_block : CoreState → Decision → Option Node
standing_block core d = find (λ (x : Node). digest_eq x.digest d.block && has_summit core.config.weights (settled_in core) (panorama_in core) x d.level d.quorum) (settled_in core)

-- the units under the greatest summit for a block with this quorum
abbrev pub units_under : CoreState → ℕ → Node → List Node
units_under core quorum block = let weights = core.config.weights in let units = settled_in core in let panorama = panorama_in core in
    filter (is_under units panorama (pruned_committees weights units panorama block quorum)) units

-- this many vertices, no more than a journal may have
abbrev pub told_count : Config → ℕ → Outcome
told_count config count = if nat_lt config.max_records count then NoLength count else HasCertificate count

-- of a decided block, by the unit that has a summit now
abbrev pub told_standing : CoreState → Decision → Option Node → Outcome
told_standing core d None = NoStanding
told_standing core d (Some block) = told_count core.config (length (vertices_for core (units_under core d.quorum block)))

-- of a decided block, where the faulty don't weigh too much
abbrev pub told_decision : CoreState → Decision → Option ℕ → Outcome
told_decision core d None = told_standing core d (standing_block core d)
told_decision core d (Some weight) = NoStanding

-- What is reported when a node is asked for the certificate of the block of this digest.
unfoldable pub told_of : CoreState → Digest → Outcome
told_of core block = elim (decided_block core block) [ None ↦ NoDecision | Some d ↦ told_decision core d (exceeded_in core) ]
