-- Laws of verdicts: the statements.
use Rattle.std.specs.Prelude.{◌≡◌, ℕ, ◌<◌, Bool, true, false, List, length, min, take, sum_by, slice_index, ◌↔◌}
use Rattle.std.specs.List.{AllAdjacentBelow}
use Rattle.hw_types.specs.declared.unit.Digest.{Digest}
use Rattle.hw_types.specs.declared.unit.Vertex.{Vertex}
use Rattle.hw_types.specs.declared.answers.Decision.{Decision}
use Rattle.hw_types.specs.declared.answers.Culprit.{Culprit}
use Rattle.hw_types.specs.Below.{Among}
use Rattle.hw_types.specs.Journal.{Setting, received_of, journal_of}
use Rattle.hw_types.specs.Decisions.{AreDecisions}
use Rattle.hw_types.specs.Culprits.{culprits_of, AreCulprits}
use Rattle.hw_types.specs.Lawful.{NoClash}
use Rattle.hw_safety.specs.Safety.{HasPairs}
use Rattle.hw_safety.specs.Chain.{Begins}
use Rattle.hw_safety.specs.declared.verdict.Verdict.{Verdict}
use Rattle.hw_safety.specs.declared.verdict.Verdict.TheVariants as verdict
use Rattle.hw_safety.specs.Verdicts.{journals_clash, IsClash, chain_of, AreInAgreement, DifferAt, culprit_weight, IsVerdict, IsAccountable, ShowAllTheSame, SayTheSame}

-- Each evidence of a journal that deliveries made is a pair.
abbrev pub DeliveredHavePairs : Type 0
DeliveredHavePairs = (s : Setting) (deliveries : List (Vertex × Bool)) → HasPairs s (journal_of s deliveries)

-- Each vertex of such a journal was delivered with a true verdict on its signatures.
abbrev pub DeliveredAreSigned : Type 0
DeliveredAreSigned = (s : Setting) (deliveries : List (Vertex × Bool)) (v : Vertex) → Among v (journal_of s deliveries) → Among (v, true) deliveries

-- ---- clashes

-- The test finds a clash exactly where there is one,
abbrev pub ClashIsATest : Type 0
ClashIsATest = (s : Setting) (left right : List Vertex) → (journals_clash s left right ≡ true) ↔ ((first : List ℕ) × (second : List ℕ) × IsClash s left right first second)

-- and where it finds none, units of the two journals that have one digest are one unit.
abbrev pub NoClashByTest : Type 0
NoClashByTest = (s : Setting) (left right : List Vertex) → journals_clash s left right ≡ false → NoClash (received_of s left).units (received_of s right).units

-- ---- culprits

-- Each culprit of two journals has its pair and the signatures,
abbrev pub CulpritsAreFound : Type 0
CulpritsAreFound = (s : Setting) (left right : List Vertex) → (cs : List Culprit) × AreCulprits s left right cs

-- and whoever shows the culprits shows the same pairs.
abbrev pub CulpritsAreOne : Type 0
CulpritsAreOne = (s : Setting) (left right : List Vertex) (cs ds : List Culprit) → AreCulprits s left right cs → AreCulprits s left right ds → ShowAllTheSame s left right cs ds

-- The culprits stand in rising order,
abbrev pub CulpritsRise : Type 0
CulpritsRise = (s : Setting) (left right : List Vertex) → AllAdjacentBelow (λ v w. v < w) (culprits_of s left right) (length (culprits_of s left right))

-- and weigh what each of them weighs.
abbrev pub CulpritsWeigh : Type 0
CulpritsWeigh = (s : Setting) (left right : List Vertex) → culprit_weight s left right ≡ sum_by (λ v. slice_index s.config.weights v) (culprits_of s left right)

-- ---- verdicts

-- Two journals have a verdict,
abbrev pub VerdictIsFound : Type 0
VerdictIsFound = (s : Setting) (left right : List Vertex) (dl dr : List Decision) → (v : Verdict) × IsVerdict s left right dl dr v

-- and all their verdicts say the same.
abbrev pub VerdictIsOne : Type 0
VerdictIsOne = (s : Setting) (left right : List Vertex) (dl dr : List Decision) (v w : Verdict) → IsVerdict s left right dl dr v → IsVerdict s left right dl dr w → SayTheSame s left right v w

-- One chain begins the other exactly where they are the same as far as the shorter one goes.
abbrev pub AgreementIsATest : Type 0
AgreementIsATest = (dl dr : List Decision) → AreInAgreement dl dr (min (length dl) (length dr)) ↔ (take (min (length dl) (length dr)) (chain_of dl) ≡ take (min (length dl) (length dr)) (chain_of dr))

-- ---- accountability

-- Where the decided blocks of two journals without a clash differ, the culprits weigh more than the threshold.
abbrev pub DifferenceIsAccountable : Type 0
DifferenceIsAccountable = (s : Setting) (left right : List Vertex) (dl dr : List Decision) (height : ℕ) (a b : Digest)
    → HasPairs s left → HasPairs s right → journals_clash s left right ≡ false → AreDecisions s left dl → AreDecisions s right dr
    → DifferAt dl dr height a b → s.config.ftt < culprit_weight s left right

-- So the culprits of a conflict of two nodes weigh more than the threshold.
abbrev pub ConflictIsAccountable : Type 0
ConflictIsAccountable = (s : Setting) (left right : List (Vertex × Bool)) (dl dr : List Decision) (height : ℕ) (a b : Digest) (culprits : List Culprit) (weight : ℕ)
    → AreDecisions s (journal_of s left) dl → AreDecisions s (journal_of s right) dr
    → IsVerdict s (journal_of s left) (journal_of s right) dl dr (verdict.Conflict height a b culprits weight) → s.config.ftt < weight

-- Two nodes that decided different blocks of one height are in a conflict whose culprits weigh more than the threshold, or they clash.
abbrev pub OneHeightIsAccountable : Type 0
OneHeightIsAccountable = (s : Setting) (left right : List (Vertex × Bool)) (dl dr : List Decision) (d e : Decision) (v : Verdict)
    → AreDecisions s (journal_of s left) dl → AreDecisions s (journal_of s right) dr → Among d dl → Among e dr → d.height ≡ e.height → (d.block ≡ e.block → ⊥)
    → IsVerdict s (journal_of s left) (journal_of s right) dl dr v → IsAccountable s.config.ftt v

-- So are two nodes neither of whose decided chains begins the other's.
abbrev pub ConflictingChainsAreAccountable : Type 0
ConflictingChainsAreAccountable = (s : Setting) (left right : List (Vertex × Bool)) (dl dr : List Decision) (v : Verdict) → AreDecisions s (journal_of s left) dl → AreDecisions s (journal_of s right) dr
    → (Begins (chain_of dl) (chain_of dr) → ⊥) → (Begins (chain_of dr) (chain_of dl) → ⊥)
    → IsVerdict s (journal_of s left) (journal_of s right) dl dr v → IsAccountable s.config.ftt v
