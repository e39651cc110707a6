-- Laws of the state that a journal leaves.
-- Source: ours.
use Rattle.std.specs.Prelude.{◌≡◌, ◌≢◌, ℕ, List, [], ◌∷◌, length, ◌++◌, Bool, filter_map, ◌↔◌, true, false, ◌<◌, ◌≤◌, suc, Some, ◌⊎◌, slice_set, if◌then◌else◌}
use Rattle.hw_types.specs.declared.unit.Digest.{Digest}
use Rattle.hw_types.specs.declared.unit.Obs.TheVariants.{Absent, Correct, Faulty}
use Rattle.hw_types.specs.declared.unit.Vertex.{Vertex}
use Rattle.hw_types.specs.declared.unit.Vertex.TheVariants as vertex
use Rattle.hw_types.specs.declared.unit.SignedUnit.{SignedUnit}
use Rattle.hw_types.specs.declared.answers.Rule.{Rule}
use Rattle.hw_types.specs.declared.answers.Receipt.TheVariants as receipt
use Rattle.hw_types.specs.declared.config.Config.{Config}
use Rattle.hw_types.specs.Graph.{Node, is_faulty_mark, slot, past, is_on_lane, lane_of, are_comparable, node_eq, obs_at_most, is_at_most, is_consistent}
use Rattle.hw_types.specs.Below.{Among}
use Rattle.hw_types.specs.Settled.{Received, settled_of, parked_of, dropped_of, missing_of, is_faulty, panorama_of, fork_choice, faulty_weight, settles, tip_of, panorama_over, has_evidence, is_endorsed}
use Rattle.hw_types.specs.Rules.{state_rule}
use Rattle.hw_types.specs.declared.unit.Need.{Need}
use Rattle.hw_types.specs.laws.GraphLaws.{IsAcyclic}
use Rattle.hw_types.specs.Votes.{unit_fork, ghost_walk}
use Rattle.hw_types.specs.Summit.{Stands}
use Rattle.hw_types.specs.declared.answers.Decision.{Decision}
use Rattle.hw_types.specs.Decisions.{AreDecisions}
use Rattle.hw_types.specs.Lawful.{IsLawful, NoClash, settled_in_either, faulty_in_either}
use Rattle.hw_types.specs.Journal.{Setting, unit_of_vertex, evidence_in, endorsement_in, received_of, journal_of, answer, is_accepted, named, receipt_of}
use Rattle.hw_types.specs.ByName.{by_name}

-- What a journal settles is a lawful graph.
abbrev pub SettledIsLawful : Type 0
SettledIsLawful = (s : Setting) (journal : List Vertex)
    → IsLawful s.config.weights (is_faulty (received_of s journal) (settled_of s.config (received_of s journal))) (settled_of s.config (received_of s journal))

-- ---- the order of a journal doesn't count

-- the units of a journal that keep the rules of the unit alone, with their names
abbrev pub units_in : Setting → List Vertex → List Node
units_in s journal = filter_map (unit_of_vertex s) journal

-- each has the other's members
pub record HasSame {A : Type 0} (xs ys : List A) : Type 0 where
  pub to : (x : A) → Among x xs → Among x ys
  pub back : (x : A) → Among x ys → Among x xs

-- the same units, evidence against the same validators, and the same pairs of unit and endorser
pub record SaysTheSame (s : Setting) (left right : List Vertex) : Type 0 where
  pub units : HasSame (units_in s left) (units_in s right)
  pub with_evidence : HasSame (filter_map evidence_in left) (filter_map evidence_in right)
  pub pairs : HasSame (filter_map endorsement_in left) (filter_map endorsement_in right)

-- no two units have one name
abbrev pub NamesApart : List Node → Type 0
NamesApart units = (x y : Node) → Among x units → Among y units → x.digest ≡ y.digest → x ≡ y

-- the two leave the same state
pub record HasSameState (config : Config) (k l : Received) : Type 0 where
  pub settled : settled_of config k ≡ settled_of config l
  pub faulty : (v : ℕ) → is_faulty k (settled_of config k) v ≡ is_faulty l (settled_of config l) v
  pub weight : faulty_weight config k ≡ faulty_weight config l
  pub panorama : panorama_of config k ≡ panorama_of config l
  pub fork : fork_choice config k ≡ fork_choice config l
  pub stands : (block : Node) (level quorum : ℕ) → Stands config k block level quorum ↔ Stands config l block level quorum

-- Journals that say the same, in whatever order, leave the same state.
abbrev pub OrderDoesNotCount : Type 0
OrderDoesNotCount = (s : Setting) (left right : List Vertex) → NamesApart (units_in s left) → SaysTheSame s left right
    → (received_of s left ≡ received_of s right) × HasSameState s.config (received_of s left) (received_of s right)

-- so journals that deliveries made, and that say the same, leave the same state
abbrev pub DeliveredOrderDoesNotCount : Type 0
DeliveredOrderDoesNotCount = (s : Setting) (left right : List (Vertex × Bool)) → SaysTheSame s (journal_of s left) (journal_of s right)
    → HasSameState s.config (received_of s (journal_of s left)) (received_of s (journal_of s right))

-- and no two units of a journal that deliveries made have one name
abbrev pub JournalNamesApart : Type 0
JournalNamesApart = (s : Setting) (deliveries : List (Vertex × Bool)) → NamesApart (units_in s (journal_of s deliveries))

-- ---- longer journals, and two journals together

-- what is known later, compared with what was known before
pub record Grows (config : Config) (k l : Received) : Type 0 where
  -- what is settled stays settled, and who is faulty stays faulty
  pub settled : (x : Node) → Among x (settled_of config k) → Among x (settled_of config l)
  pub faulty : (v : ℕ) → is_faulty k (settled_of config k) v ≡ true → is_faulty l (settled_of config l) v ≡ true
  pub weight : faulty_weight config k ≤ faulty_weight config l
  -- where nothing is missing, nothing will be, and the past and the verdict stay
  pub ready : (u : Node) → length (missing_of config k (settled_of config k) u) ≡ 0 → length (missing_of config l (settled_of config l) u) ≡ 0
  pub past_stays : (u : Node) → length (missing_of config k (settled_of config k) u) ≡ 0 → past (settled_of config l) u.unit.panorama ≡ past (settled_of config k) u.unit.panorama
  pub verdict_stays : (u : Node) → length (missing_of config k (settled_of config k) u) ≡ 0 → state_rule config (settled_of config l) u ≡ state_rule config (settled_of config k) u
  pub choice_stays : (u : Node) → length (missing_of config k (settled_of config k) u) ≡ 0 → unit_fork config.weights (settled_of config l) u ≡ unit_fork config.weights (settled_of config k) u
  -- missing needs only go
  pub missing : (u : Node) (n : Need) → Among n (missing_of config l (settled_of config l) u) → Among n (missing_of config k (settled_of config k) u)
  pub fewer : (u : Node) → length (missing_of config l (settled_of config l) u) ≤ length (missing_of config k (settled_of config k) u)
  -- what is dropped stays dropped, by the same rule
  pub dropped : (u : Node) → Among u (dropped_of config k) → Among u (dropped_of config l) × (state_rule config (settled_of config l) u ≡ state_rule config (settled_of config k) u)

-- A longer journal leaves more.
abbrev pub LongerJournalGrows : Type 0
LongerJournalGrows = (s : Setting) (journal more : List Vertex) → Grows s.config (received_of s journal) (received_of s (journal ++ more))

-- What two journals without a clash settle is a lawful graph, and has the units and the faulty of each.
pub record IsLawfulUnion (config : Config) (k l : Received) : Type 0 where
  pub lawful : IsLawful config.weights (faulty_in_either config k l) (settled_in_either config k l)
  pub left : (x : Node) → Among x (settled_of config k) → Among x (settled_in_either config k l)
  pub right : (x : Node) → Among x (settled_of config l) → Among x (settled_in_either config k l)
  pub no_other : (x : Node) → Among x (settled_in_either config k l) → Among x (settled_of config k) ⊎ Among x (settled_of config l)
  pub left_faulty : (v : ℕ) → is_faulty k (settled_of config k) v ≡ true → faulty_in_either config k l v ≡ true
  pub right_faulty : (v : ℕ) → is_faulty l (settled_of config l) v ≡ true → faulty_in_either config k l v ≡ true

-- and where no name is that of two units, the two together are lawful
abbrev pub UnionIsLawful : Type 0
UnionIsLawful = (s : Setting) (left right : List Vertex) → NoClash (received_of s left).units (received_of s right).units → IsLawfulUnion s.config (received_of s left) (received_of s right)

-- What either of two journals settles is settled by both together.
abbrev pub EitherIsInBoth : Type 0
EitherIsInBoth = (s : Setting) (left right : List Vertex) → NamesApart (units_in s (left ++ right))
    → (x : Node) → Among x (settled_in_either s.config (received_of s left) (received_of s right)) → Among x (settled_of s.config (received_of s (left ++ right)))

-- ---- one vertex more

-- Admissions one after the other, from a list of candidates, each of a unit that settles over those that are
-- there. The units stand in the order of admission, and the definitions read them by name.
pub data Admits (config : Config) (received : Received) (from start : List Node) : List Node → Type 0 where
  begin : Admits config received from start start
  admit : (x : Node) (found : List Node) → Admits config received from start found → Among x from → settles config received (by_name found) x ≡ true → Admits config received from start (found ++ x ∷ [])

-- what holds of each moment of such a run, and of its end
pub record LeadsToSettled (config : Config) (received : Received) (from found : List Node) : Type 0 where
  -- all that is admitted is settled
  pub within : (x : Node) → Among x (by_name found) → Among x (settled_of config received)
  -- where nothing is missing, the verdict is the last one
  pub judged : (u : Node) → length (missing_of config received (by_name found) u) ≡ 0
      → (length (missing_of config received (settled_of config received) u) ≡ 0) × (state_rule config (settled_of config received) u ≡ state_rule config (by_name found) u)
  -- and what is missing at last is missing now
  pub missing : (u : Node) (n : Need) → Among n (missing_of config received (settled_of config received) u) → Among n (missing_of config received (by_name found) u)
  -- when no candidate settles any more, the settled units are there
  pub over : ((x : Node) → Among x from → settles config received (by_name found) x ≡ true → Among x found) → by_name found ≡ settled_of config received

-- the parked units, and the vertex's own
abbrev pub candidates : Setting → List Vertex → Vertex → List Node
candidates s journal v = parked_of s.config (received_of s journal) ++ units_in s (v ∷ [])

-- After an accepted vertex, from the settled units of before, admissions among the parked ones and the new one lead to the settled units.
abbrev pub StepIsSettled : Type 0
StepIsSettled = (s : Setting) (journal : List Vertex) (v : Vertex) (verdict : Bool) (start found : List Node)
    → NamesApart (units_in s journal) → is_accepted (answer s journal v verdict) ≡ true
    → by_name start ≡ settled_of s.config (received_of s journal)
    → Admits s.config (received_of s (journal ++ v ∷ [])) (candidates s journal v) start found
    → LeadsToSettled s.config (received_of s (journal ++ v ∷ [])) (candidates s journal v) found

-- each unit is settled, parked or dropped, and no two of these
pub record IsSplit (config : Config) (received : Received) : Type 0 where
  pub one : (x : Node) → Among x received.units → Among x (settled_of config received) ⊎ (Among x (parked_of config received) ⊎ Among x (dropped_of config received))
  pub settled_parked : (x : Node) → Among x (settled_of config received) → Among x (parked_of config received) → ⊥
  pub settled_dropped : (x : Node) → Among x (settled_of config received) → Among x (dropped_of config received) → ⊥
  pub parked_dropped : (x : Node) → Among x (parked_of config received) → Among x (dropped_of config received) → ⊥

-- Each unit of a journal is settled, parked or dropped, and no two of these.
abbrev pub JournalIsSplit : Type 0
JournalIsSplit = (s : Setting) (journal : List Vertex) → IsSplit s.config (received_of s journal)

-- what is known after one vertex more: units are known from before or new, and what is parked was parked or is new
pub record IsStep (config : Config) (k l : Received) (fresh : List Node) : Type 0 where
  pub units : (x : Node) → Among x l.units → Among x k.units ⊎ Among x fresh
  pub new : (x : Node) → Among x fresh → Among x l.units
  pub parked : (x : Node) → Among x (parked_of config l) → Among x (parked_of config k) ⊎ Among x fresh
  pub dropped : (x : Node) → Among x (dropped_of config l) → Among x (dropped_of config k) ⊎ (Among x (parked_of config k) ⊎ Among x fresh)

-- An accepted vertex is such a step.
abbrev pub AcceptedIsStep : Type 0
AcceptedIsStep = (s : Setting) (journal : List Vertex) (v : Vertex) (verdict : Bool) → NamesApart (units_in s journal) → is_accepted (answer s journal v verdict) ≡ true
    → IsStep s.config (received_of s journal) (received_of s (journal ++ v ∷ [])) (units_in s (v ∷ []))

-- and the units known are those of before with the new one, by name
abbrev pub UnitsAreStep : Type 0
UnitsAreStep = (s : Setting) (journal : List Vertex) (v : Vertex) (verdict : Bool) → NamesApart (units_in s journal) → is_accepted (answer s journal v verdict) ≡ true
    → (received_of s (journal ++ v ∷ [])).units ≡ by_name ((received_of s journal).units ++ units_in s (v ∷ []))

-- ---- tips

-- the unit of a validator on whose lane all its units lie
pub record IsTip (units : List Node) (v : ℕ) (t : Node) : Type 0 where
  pub member : Among t units
  pub creator : t.unit.creator ≡ v
  pub lane : (x : Node) → Among x units → x.unit.creator ≡ v → is_on_lane units x t ≡ true

-- it has one, and its slot names it
pub record OneTip (config : Config) (faulty : ℕ → Bool) (units : List Node) (v : ℕ) : Type 0 where
  pub tip : Node
  pub is_tip : IsTip units v tip
  pub only : (u : Node) → IsTip units v u → u ≡ tip
  pub found : tip_of units v ≡ Some tip
  pub slot_is : slot (panorama_over config faulty units) v ≡ Correct tip.digest

-- In a lawful graph, a validator that isn't faulty and has a unit has exactly one tip.
abbrev pub TipIsOne : Type 0
TipIsOne = (config : Config) (faulty : ℕ → Bool) (units : List Node) → IsLawful config.weights faulty units → (v : ℕ) (x : Node) → faulty v ≡ false → Among x units → x.unit.creator ≡ v → OneTip config faulty units v

-- one that isn't faulty and has no unit has the slot Absent, and one that is faulty is marked
pub record OtherSlots (config : Config) (faulty : ℕ → Bool) (units : List Node) : Type 0 where
  pub none : (v : ℕ) → faulty v ≡ false → ((x : Node) → Among x units → x.unit.creator ≡ v → ⊥) → slot (panorama_over config faulty units) v ≡ Absent
  pub marked : (v : ℕ) → v < length config.weights → faulty v ≡ true → slot (panorama_over config faulty units) v ≡ Faulty

-- The other slots are those.
abbrev pub SlotsAreThose : Type 0
SlotsAreThose = (config : Config) (faulty : ℕ → Bool) (units : List Node) → IsLawful config.weights faulty units → OtherSlots config faulty units

-- these have one unit more than those
pub record HasOneMore (units more : List Node) (x : Node) : Type 0 where
  pub part : (y : Node) → Among y units → Among y more
  pub new : Among x more
  pub was_not : Among x units → ⊥
  pub no_other : (y : Node) → Among y more → Among y units ⊎ (y ≡ x)

-- no slot moves but that of the new unit's creator
pub record MovesOwnSlot (config : Config) (f g : ℕ → Bool) (units more : List Node) (x : Node) : Type 0 where
  pub others : (v : ℕ) → v ≢ x.unit.creator → slot (panorama_over config g more) v ≡ slot (panorama_over config f units) v
  pub own : g x.unit.creator ≡ false → slot (panorama_over config g more) x.unit.creator ≡ Correct x.digest
  pub marked : g x.unit.creator ≡ true → slot (panorama_over config g more) x.unit.creator ≡ Faulty

-- One unit more in a lawful graph moves no slot but its creator's, which then names it, or is marked.
abbrev pub OnlyOwnSlotMoves : Type 0
OnlyOwnSlotMoves = (config : Config) (f g : ℕ → Bool) (units more : List Node) (x : Node) → IsLawful config.weights f units → IsLawful config.weights g more
    → HasOneMore units more x → ((v : ℕ) → v ≢ x.unit.creator → g v ≡ f v) → MovesOwnSlot config f g units more x

-- and of who is faulty by evidence and forks no one but its creator changes
abbrev pub OnlyOwnFaultMoves : Type 0
OnlyOwnFaultMoves = (received : Received) (units more : List Node) (x : Node) → HasOneMore units more x → (v : ℕ) → v ≢ x.unit.creator → is_faulty received more v ≡ is_faulty received units v

-- ---- lanes

-- In a lawful graph, a unit below another of the same creator is on its lane.
abbrev pub BelowIsOnLane : Type 0
BelowIsOnLane = (weights : List ℕ) (faulty : ℕ → Bool) (units : List Node) → IsLawful weights faulty units → (u x : Node) → Among u units
    → x.unit.creator ≡ u.unit.creator → Among x (past units u.unit.panorama) → Among x (lane_of units u)

-- Units of one creator that aren't comparable give two different ones of one number.
abbrev pub IncomparableIsFork : Type 0
IncomparableIsFork = (weights : List ℕ) (faulty : ℕ → Bool) (units : List Node) → IsLawful weights faulty units → (x y : Node) → Among x units → Among y units
    → x.unit.creator ≡ y.unit.creator → are_comparable units x y ≡ false
    → (a : Node) × (b : Node) × Among a units × Among b units × (a.unit.creator ≡ x.unit.creator) × (b.unit.creator ≡ x.unit.creator) × (a.unit.seq ≡ b.unit.seq) × (node_eq a b ≡ false)

-- What a unit has strictly below it of a creator is on the lane of its entry for that creator, or the entry is Faulty.
abbrev pub BelowIsOnEntryLane : Type 0
BelowIsOnEntryLane = (weights : List ℕ) (faulty : ℕ → Bool) (units : List Node) → IsLawful weights faulty units → (u x : Node) → Among u units → Among x (past units u.unit.panorama)
    → (slot u.unit.panorama x.unit.creator ≡ Faulty) ⊎ ((y : Node) × Among y units × (slot u.unit.panorama x.unit.creator ≡ Correct y.digest) × Among x (lane_of units y))

-- ---- decisions

-- The decisions of a journal are one list.
abbrev pub DecisionsAreOne : Type 0
DecisionsAreOne = (s : Setting) (journal : List Vertex) (ds es : List Decision) → AreDecisions s journal ds → AreDecisions s journal es → ds ≡ es

-- ---- each moment of a step

-- Each moment of a step is a lawful graph, and each admission of a unit that isn't there moves its creator's slot alone.
pub record IsLawfulRun (config : Config) (received : Received) (from found : List Node) : Type 0 where
  pub lawful : IsLawful config.weights (is_faulty received (by_name found)) (by_name found)
  pub one_more : (x : Node) → Among x from → settles config received (by_name found) x ≡ true → (Among x found → ⊥) → HasOneMore (by_name found) (by_name (found ++ x ∷ [])) x
  pub moves : (x : Node) → Among x from → settles config received (by_name found) x ≡ true → (Among x found → ⊥)
      → MovesOwnSlot config (is_faulty received (by_name found)) (is_faulty received (by_name (found ++ x ∷ []))) (by_name found) (by_name (found ++ x ∷ [])) x

-- Each moment of the step is lawful.
abbrev pub StepIsLawful : Type 0
StepIsLawful = (s : Setting) (journal : List Vertex) (v : Vertex) (verdict : Bool) (start found : List Node)
    → NamesApart (units_in s journal) → is_accepted (answer s journal v verdict) ≡ true
    → by_name start ≡ settled_of s.config (received_of s journal)
    → Admits s.config (received_of s (journal ++ v ∷ [])) (candidates s journal v) start found
    → IsLawfulRun s.config (received_of s (journal ++ v ∷ [])) (candidates s journal v) found

-- how one unit more changes the panorama, and how its fork is seen
pub record IsSeenStep (config : Config) (received : Received) (units more : List Node) (x : Node) : Type 0 where
  pub panorama : panorama_over config (is_faulty received more) more
      ≡ slice_set (panorama_over config (is_faulty received units) units) x.unit.creator (if is_faulty received more x.unit.creator then Faulty else Correct x.digest)
  -- where its creator was not faulty, the unit is no fork exactly where its own slot is the panorama's
  pub no_fork : is_faulty received units x.unit.creator ≡ false → is_faulty_mark (slot x.unit.panorama x.unit.creator) ≡ false
      → (is_faulty received more x.unit.creator ≡ false) ↔ (slot x.unit.panorama x.unit.creator ≡ slot (panorama_over config (is_faulty received units) units) x.unit.creator)

-- In lawful graphs, one unit more sets its creator's slot, and is a fork exactly where it doesn't name what the panorama names.
abbrev pub ForkIsSeen : Type 0
ForkIsSeen = (config : Config) (received : Received) (units more : List Node) (x : Node) → IsLawful config.weights (is_faulty received units) units → IsLawful config.weights (is_faulty received more) more
    → HasOneMore units more x → IsSeenStep config received units more x

-- ---- the panorama

-- the panorama meets each unit, is over each unit's own and consistent, and names tips
pub record IsOverAll (config : Config) (faulty : ℕ → Bool) (units : List Node) : Type 0 where
  pub met : (x : Node) → Among x units → obs_at_most units (Correct x.digest) (slot (panorama_over config faulty units) x.unit.creator) ≡ true
  pub above : (w : Node) → Among w units → is_at_most units w.unit.panorama (panorama_over config faulty units) ≡ true
  pub consistent : is_consistent units (panorama_over config faulty units) ≡ true
  pub closed : (v : ℕ) (d : Digest) → slot (panorama_over config faulty units) v ≡ Correct d → (t : Node) × IsTip units v t × (t.digest ≡ d)

-- In a lawful graph, the panorama is over all units.
abbrev pub PanoramaIsOverAll : Type 0
PanoramaIsOverAll = (config : Config) (faulty : ℕ → Bool) (units : List Node) → IsLawful config.weights faulty units → IsOverAll config faulty units

-- No settled unit is below itself, and the fork choice is the walk over the units' own choices.
abbrev pub SettledForkIsTheWalk : Type 0
SettledForkIsTheWalk = (s : Setting) (journal : List Vertex) → IsAcyclic (settled_of s.config (received_of s journal))
    × (fork_choice s.config (received_of s journal) ≡ ghost_walk s.config.weights (past (settled_of s.config (received_of s journal)) (panorama_of s.config (received_of s journal))) (unit_fork s.config.weights (settled_of s.config (received_of s journal))) (panorama_of s.config (received_of s journal)))

-- ---- bounds

-- A journal that deliveries made is no longer than allowed, and no more of its units are parked than allowed.
abbrev pub JournalIsBounded : Type 0
JournalIsBounded = (s : Setting) (deliveries : List (Vertex × Bool))
    → (length (journal_of s deliveries) ≤ s.config.max_records) × (length (parked_of s.config (received_of s (journal_of s deliveries))) ≤ s.config.max_parked)

-- What is settled is no less later, and an admission of a unit that isn't there is one more.
abbrev pub SettledIsNoLess : Type 0
SettledIsNoLess = (s : Setting) (journal more : List Vertex) → length (settled_of s.config (received_of s journal)) ≤ length (settled_of s.config (received_of s (journal ++ more)))

-- and so it grows by one each time
abbrev pub OneMoreIsLonger : Type 0
OneMoreIsLonger = (found : List Node) (x : Node) → HasOneMore (by_name found) (by_name (found ++ x ∷ [])) x → length (by_name (found ++ x ∷ [])) ≡ suc (length (by_name found))

-- ---- a step can always be made, and what its vertex changes by itself

-- what is settled stands in the order of names
abbrev pub SettledIsByName : Type 0
SettledIsByName = (s : Setting) (journal : List Vertex) → by_name (settled_of s.config (received_of s journal)) ≡ settled_of s.config (received_of s journal)

-- Whatever was admitted, more admissions lead to the settled units.
abbrev pub StepHasEnd : Type 0
StepHasEnd = (s : Setting) (journal : List Vertex) (v : Vertex) (verdict : Bool) (start found : List Node)
    → NamesApart (units_in s journal) → is_accepted (answer s journal v verdict) ≡ true
    → by_name start ≡ settled_of s.config (received_of s journal)
    → Admits s.config (received_of s (journal ++ v ∷ [])) (candidates s journal v) start found
    → (last : List Node) × Admits s.config (received_of s (journal ++ v ∷ [])) (candidates s journal v) start last × (by_name last ≡ settled_of s.config (received_of s (journal ++ v ∷ [])))

-- one vertex changes who has evidence against it at its own validator, and what is endorsed at its own digest, and nowhere else
pub record IsOneChange (s : Setting) (journal : List Vertex) (v : Vertex) : Type 0 where
  pub with_evidence : (w : ℕ) → (evidence_in v ≡ Some w → ⊥) → has_evidence (received_of s (journal ++ v ∷ [])).with_evidence w ≡ has_evidence (received_of s journal).with_evidence w
  pub endorsed : (d : Digest) → ((w : ℕ) → endorsement_in v ≡ Some (d, w) → ⊥) → is_endorsed s.config (received_of s (journal ++ v ∷ [])) d ≡ is_endorsed s.config (received_of s journal) d
  pub slots : (units : List Node) (w : ℕ) → (evidence_in v ≡ Some w → ⊥)
      → slot (panorama_over s.config (is_faulty (received_of s (journal ++ v ∷ [])) units) units) w ≡ slot (panorama_over s.config (is_faulty (received_of s journal) units) units) w

-- Each vertex is such a change.
abbrev pub VertexIsOneChange : Type 0
VertexIsOneChange = (s : Setting) (journal : List Vertex) (v : Vertex) → IsOneChange s journal v

-- ---- receipts

-- where the unit of an accepted vertex is, as its receipt says
pub record TellsWhere (s : Setting) (journal : List Vertex) (u : SignedUnit) : Type 0 where
  pub parked : (n : ℕ) → receipt_of s journal (vertex.Unit u) ≡ receipt.Parked n → Among (named s u.unit) (parked_of s.config (received_of s (journal ++ vertex.Unit u ∷ [])))
  pub dropped : (r : Rule) → receipt_of s journal (vertex.Unit u) ≡ receipt.Dropped r
      → Among (named s u.unit) (dropped_of s.config (received_of s (journal ++ vertex.Unit u ∷ []))) × (state_rule s.config (settled_of s.config (received_of s (journal ++ vertex.Unit u ∷ []))) (named s u.unit) ≡ Some r)
  pub admitted : (n : ℕ) → receipt_of s journal (vertex.Unit u) ≡ receipt.Admitted n → Among (named s u.unit) (settled_of s.config (received_of s (journal ++ vertex.Unit u ∷ [])))
  -- what it misses is what it missed before, and where it misses something nothing settles
  pub missing_agrees : missing_of s.config (received_of s (journal ++ vertex.Unit u ∷ [])) (settled_of s.config (received_of s (journal ++ vertex.Unit u ∷ []))) (named s u.unit)
      ≡ missing_of s.config (received_of s journal) (settled_of s.config (received_of s journal)) (named s u.unit)
  pub none_settles : (length (missing_of s.config (received_of s journal) (settled_of s.config (received_of s journal)) (named s u.unit)) ≡ 0 → ⊥)
      → settled_of s.config (received_of s (journal ++ vertex.Unit u ∷ [])) ≡ settled_of s.config (received_of s journal)

-- A receipt tells where the unit of an accepted vertex is.
abbrev pub ReceiptTellsWhere : Type 0
ReceiptTellsWhere = (s : Setting) (journal : List Vertex) (u : SignedUnit) (verdict : Bool) → NamesApart (units_in s journal) → is_accepted (answer s journal (vertex.Unit u) verdict) ≡ true → TellsWhere s journal u
