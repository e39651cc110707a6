-- What kept units keep, as the settled units of a journal.
use Rattle.std.proofs.Common.{◌≡◌, ℕ, ◌≤◌, Bool, true, false, not, List, sym, subst, ltb-false}
use Rattle.std.specs.Prelude.{◌&&◌, ◌++◌, map, nat_lt}
use Rattle.std.specs.List.{list_any, list_all}
use Rattle.hw_types.specs.declared.unit.Digest.{Digest}
use Rattle.hw_types.specs.declared.unit.Need.TheVariants as need
use Rattle.hw_types.specs.declared.unit.Obs.{Obs}
use Rattle.hw_types.specs.declared.unit.Vertex.{Vertex}
use Rattle.hw_types.specs.Graph.{Node, digest_eq, cites, unit_cites, past}
use Rattle.hw_types.specs.Below.{Among}
use Rattle.hw_types.specs.ByName.{IsRising}
use Rattle.hw_types.specs.Lawful.{IsLawful}
use Rattle.hw_types.specs.Rules.{state_rule, state_tests, has_digest, has_naive_fork}
use Rattle.hw_types.specs.Settled.{Received, settles, settled_of, needs_of, unit_needs, evidence_needs, is_faulty, is_endorsed, panorama_over}
use Rattle.hw_types.specs.Journal.{Setting, received_of}
use Rattle.hw_honest.specs.Kept.{IsKept, SettledAreKept}
use Rattle.hw_types.proofs.PastLaws.{some_of, reach_first}
use Rattle.hw_types.proofs.StableLaws.{and_parts}
use Rattle.hw_types.proofs.SettledLaws.{digest_same, distinct_has, IsPart}
use Rattle.hw_types.proofs.WordsLaws.{none_broken, AllFalse, any_none, and_none, all_of, not_false}
use Rattle.hw_types.proofs.LawfulLaws.{one_name_known, settled_part, settled_admits, settled_lawful, part_met, none_is}
use Rattle.hw_types.proofs.EntryLaws.{among_map}
use Rattle.hw_types.proofs.UnionLaws.{from_right}
use Rattle.hw_types.proofs.JournalLaws.{received_rising, received_local}

-- a digest that the list has is one of it
pub digest_among : (d : Digest) (ds : List Digest) → has_digest ds d ≡ true → Among d ds
digest_among d ds h = let e = some_of (digest_eq d) ds h in subst (λ c. Among c ds) (sym (digest_same d e.0 e.2)) e.1

-- ---- what a journal settles

module _ (s : Setting) (journal : List Vertex) where
  abbrev known_of : Received
  known_of = received_of s journal

  -- the settled units of the journal
  abbrev units_of : List Node
  units_of = settled_of s.config (received_of s journal)

  part : IsPart s.config known_of (received_rising s journal) (one_name_known s.config known_of (received_rising s journal)) units_of
  part = settled_part s.config known_of (received_rising s journal)

  admits : (x : Node) → Among x units_of → settles s.config known_of units_of x ≡ true
  admits x m = (settled_admits s.config known_of (received_rising s journal) x m).1

  list_need : (u : Node) (d : Digest) → Among d u.unit.endorsed → Among (need.Endorsed d) (needs_of u)
  unfolding needs_of
  list_need u d h = distinct_has (need.Endorsed d) _ (from_right (need.Endorsed d) (unit_needs u.unit.panorama ++ evidence_needs u.unit.panorama) (map need.Endorsed u.unit.endorsed) (among_map need.Endorsed d u.unit.endorsed h))

  -- they are kept
  pub settled_kept : IsKept s known_of units_of
  settled_kept = record {
    lawful = settled_lawful s.config known_of (received_rising s journal) s.instance (received_local s journal);
    rules = λ u m. none_is (state_rule s.config units_of u) (and_parts _ _ (admits u m)).1;
    endorsed = λ u d m h. part_met s.config known_of (received_rising s journal) units_of part admits u m (need.Endorsed d) (list_need u d h);
  }

pub settled_are_kept : SettledAreKept
settled_are_kept = settled_kept

-- ---- kept units

-- units that are kept, with what else is known
pub record KeptGraph (s : Setting) : Type 0 where
  pub received : Received
  pub units : List Node
  pub kept : IsKept s received units

-- the settled units of a journal
abbrev pub graph_of : (s : Setting) → List Vertex → KeptGraph s
graph_of s journal = record { received = received_of s journal; units = settled_of s.config (received_of s journal); kept = settled_kept s journal }

module _ (s : Setting) (graph : KeptGraph s) where
  abbrev pub known : Received
  known = graph.received

  -- the units
  abbrev pub settled : List Node
  settled = graph.units

  -- who is faulty over them
  abbrev pub faulty : ℕ → Bool
  faulty = is_faulty known settled

  -- what a node observes over these units
  abbrev pub state : List Obs
  state = panorama_over s.config faulty settled

  -- they make a lawful graph
  abbrev pub lawful : IsLawful s.config.weights faulty settled
  lawful = graph.kept.lawful

  -- they stand in the order of their names
  pub in_order : IsRising settled
  in_order = lawful.in_order

  -- each keeps the rules over the units below it
  pub keeps : (u : Node) → Among u settled → AllFalse (state_tests s.config (past settled u.unit.panorama) u)
  keeps u m = none_broken _ (graph.kept.rules u m)

  below : (u w : Node) → Among w settled → cites u.unit.panorama w ≡ true → Among w (past settled u.unit.panorama)
  below u w n c = reach_first unit_cites (cites u.unit.panorama) settled w n c

  -- no cited unit is later
  pub time_rises : (u w : Node) → Among u settled → Among w settled → cites u.unit.panorama w ≡ true → w.unit.time ≤ u.unit.time
  unfolding state_tests
  time_rises u w m n c = ltb-false u.unit.time w.unit.time
      (and_none (cites u.unit.panorama w) _ (any_none (λ x. cites u.unit.panorama x && nat_lt u.unit.time x.unit.time) (past settled u.unit.panorama) (keeps u m).1.1.1.0 w (below u w n c)) c)

  -- its list has the lists of the cited units
  pub list_kept : (u w : Node) → Among u settled → Among w settled → cites u.unit.panorama w ≡ true → (d : Digest) → Among d w.unit.endorsed → Among d u.unit.endorsed
  unfolding state_tests
  list_kept u w m n c d h =
      let test = λ (x : Node). not (list_all (has_digest u.unit.endorsed) x.unit.endorsed) in
      let none = any_none (λ x. cites u.unit.panorama x && test x) (past settled u.unit.panorama) (keeps u m).1.1.1.1.1.1.1.0 w (below u w n c) in
      digest_among d u.unit.endorsed (all_of (has_digest u.unit.endorsed) w.unit.endorsed (not_false _ (and_none (cites u.unit.panorama w) (test w) none c)) d h)

  -- each digest of its list is a unit below it
  pub list_seen : (u : Node) → Among u settled → (d : Digest) → Among d u.unit.endorsed → (x : Node) × Among x (past settled u.unit.panorama) × (x.digest ≡ d)
  unfolding state_tests
  list_seen u m d h =
      let all = not_false _ (keeps u m).1.1.1.1.1.1.1.1.0 in
      let x = some_of (λ x. digest_eq x.digest d) (past settled u.unit.panorama) (all_of (λ e. list_any (λ x. digest_eq x.digest e) (past settled u.unit.panorama)) u.unit.endorsed all d h) in
      (x.0, x.1, digest_same x.0.digest d x.2)

  -- no unit has a naive fork below it
  pub quiet : (u : Node) → Among u settled → has_naive_fork (past settled u.unit.panorama) u.unit.endorsed ≡ false
  unfolding state_tests
  quiet u m = (keeps u m).1.1.1.1.1.1.1.1.1.0

  -- each digest of its list is endorsed
  pub list_endorsed : (u : Node) → Among u settled → (d : Digest) → Among d u.unit.endorsed → is_endorsed s.config known d ≡ true
  list_endorsed u m d h = graph.kept.endorsed u d m h
