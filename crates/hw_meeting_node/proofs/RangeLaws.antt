-- What a node says in a meeting is in the ranges of its types, where its journal is.
use Rattle.std.proofs.Common.{◌≡◌, inl, inr, ℕ, zero, suc, ◌+◌, ◌<◌, ◌≤◌, ◌^◌, Bool, true, false, cond, List, [], ◌∷◌, ◌++◌, length, map, get_or, Option, Some, None, refl, sym, ap, subst, arith, ltb-true}
use Rattle.std.specs.Prelude.{filter, filter_map, find, nat_lt, ◌==◌}
use Rattle.std.specs.Int.{w32, to_be_bytes}
use Rattle.std.specs.List.{All, AllByRecursion, list_all}
use Rattle.std.proofs.lemmas.List.Elements.{All-append, All-from_recursion, All-map}
use Rattle.sha2.specs.Sha256.{sha256, digest_bytes}
use Rattle.sha2.proofs.Facts256.{length-sha256}
use Rattle.hw_types.specs.declared.config.Config.{Config}
use Rattle.hw_types.specs.declared.unit.Vertex.{Vertex}
use Rattle.hw_types.specs.declared.unit.WireUnit.{WireUnit}
use Rattle.hw_types.specs.Below.{Among}
use Rattle.hw_types.specs.Graph.{Node}
use Rattle.hw_types.specs.Journal.{Setting, unit_of_vertex, received_of}
use Rattle.hw_types.specs.Real.{CoreState, setting_of}
use Rattle.hw_types.specs.Settled.{settled_of, validators}
use Rattle.hw_types.specs.Spelling.{unit_bytes, config_bytes, digest_of, instance_of}
use Rattle.hw_types.specs.laws.StateLaws.{units_in}
use Rattle.hw_types.proofs.BoundLaws.{rising_length}
use Rattle.hw_types.proofs.ClosureLaws.{Among-filter, length-filter}
use Rattle.hw_types.proofs.EntryLaws.{mapped_among}
use Rattle.hw_types.proofs.JournalLaws.{received_rising}
use Rattle.hw_types.proofs.LimitLaws.{within_limits}
use Rattle.hw_types.proofs.OrderLaws.{received_in, unit_vertex}
use Rattle.hw_types.proofs.StableLaws.{and_parts, found_one}
use Rattle.hw_codec.specs.Ranges.{AreBytes, AreBytesOf, DigestInRange, VertexInRange}
use Rattle.hw_codec.proofs.Fields.{wide32}
use Rattle.hw_core.proofs.EndLaws.{all_at}
use Rattle.hw_agree.specs.declared.summary.LaneSummary.{LaneSummary}
use Rattle.hw_agree.specs.declared.summary.LaneSummary.TheVariants.{Nothing, Line, Tangled}
use Rattle.hw_agree.specs.Converge.{units_by, is_line_of, summary_of, summaries, part, is_torn, is_due}
use Rattle.hw_meeting.specs.declared.frame.MeetingFrame.{MeetingFrame}
use Rattle.hw_meeting.specs.declared.frame.MeetingFrame.TheVariants as frame
use Rattle.hw_meeting.specs.Frames.{rise_from, PartInRange, MeetingInRange}
use Rattle.hw_meeting.proofs.TornLaws.{passing_are_validators}
use Rattle.hw_meeting_node.specs.Meeting.{told_of, torn_by, owed_by}
use Rattle.hw_meeting_node.specs.Laws.{all_words, MeetingsSayInRange}
use Rattle.hw_meeting_node.proofs.DoneLaws.{done}

-- ---- digests

digest_bytes_are : (h : List ℕ) (n : ℕ) → AreBytes (digest_bytes h n)
unfolding digest_bytes
digest_bytes_are h zero = All-from_recursion (λ (b : ℕ). b < 2 ^ 8) [] tt
digest_bytes_are h (suc n) = All-append (λ (b : ℕ). b < 2 ^ 8) (digest_bytes h n) (to_be_bytes w32 (get_or h n 0)) (digest_bytes_are h n) (wide32.each (get_or h n 0))

hash_is : (bytes : List ℕ) → AreBytes (sha256 bytes)
unfolding sha256
hash_is bytes = digest_bytes_are _ 8

pub hash_in_range : (bytes : List ℕ) → AreBytesOf 32 (sha256 bytes)
hash_in_range bytes = record { size = length-sha256 bytes; each = hash_is bytes }

pub name_in_range : (u : WireUnit) → DigestInRange (digest_of u)
unfolding digest_of
name_in_range u = hash_in_range (unit_bytes u)

pub instance_in_range : (c : Config) → DigestInRange (instance_of c)
unfolding instance_of
instance_in_range c = hash_in_range (config_bytes c)

-- ---- the units of a journal

mapped_length : {A B : Type 0} (h : A → Option B) (xs : List A) → length (filter_map h xs) ≤ length xs
mapped_length h [] = omega arith
mapped_length {A} {B} h (x ∷ xs) = go (h x) refl (mapped_length h xs)
  where
    go : (o : Option B) → h x ≡ o → length (filter_map h xs) ≤ length xs → length (filter_map h (x ∷ xs)) ≤ suc (length xs)
    go None e le = let same : filter_map h (x ∷ xs) ≡ filter_map h xs = rw e refl in let long = ap length same in omega arith
    go (Some y) e le = let same : filter_map h (x ∷ xs) ≡ y ∷ filter_map h xs = rw e refl in let long = ap length same in omega arith

numbers_in_range : (n : ℕ) → n ≤ 1024 → (vs : List ℕ) → list_all (λ v. nat_lt v n) vs ≡ true → AllByRecursion (λ (v : ℕ). v < 2 ^ 32) vs
numbers_in_range n few [] below = tt
numbers_in_range n few (v ∷ vs) below =
    let b = and_parts (nat_lt v n) (list_all (λ w. nat_lt w n) vs) below in
    let less = ltb-true v n b.0 in
    (omega arith, numbers_in_range n few vs b.1)

module _ (c : CoreState) where
  abbrev s : Setting
  s = setting_of c.config

  known_named : (x : Node) → Among x (received_of s c.journal).units → DigestInRange x.digest
  known_named x m =
      let z = mapped_among (unit_of_vertex s) x c.journal (received_in s c.journal x m) in
      let w = unit_vertex s z.0 x z.2 in
      subst (λ (y : Node). DigestInRange y.digest) (sym w.2) (name_in_range w.0.unit)

  few_known : length (received_of s c.journal).units ≤ length c.journal
  few_known =
      let rising = rising_length (received_of s c.journal).units (units_in s c.journal) (received_rising s c.journal) (received_in s c.journal) in
      let mapped = mapped_length (unit_of_vertex s) c.journal in
      omega arith

  few_by : (v : ℕ) → length (units_by s c.journal v) ≤ length c.journal
  few_by v =
      let some = length-filter (λ (x : Node). x.unit.creator == v) (received_of s c.journal).units in
      let all = few_known in
      omega arith

  -- ---- its words

  module _ (short : length c.journal < 2 ^ 64) where
    part_in_range : (v : ℕ) → PartInRange (summary_of s c.journal v)
    unfolding summary_of
    part_in_range v = go (length (units_by s c.journal v) == 0)
      where
        found : (o : Option Node) → find (is_line_of s c.journal v) (units_by s c.journal v) ≡ o → PartInRange (elim o as (λ z. LaneSummary) [ None ↦ Tangled | Some t ↦ Line (length (units_by s c.journal v)) t.digest ])
        found None e = tt
        found (Some t) e =
            let there = found_one (is_line_of s c.journal v) t (units_by s c.journal v) e in
            let known = Among-filter (λ (x : Node). x.unit.creator == v) t (received_of s c.journal).units there.0 in
            let few = few_by v in
            let most = short in
            (omega arith, known_named t known.0)

        go : (b : Bool) → PartInRange (cond b Nothing (elim (find (is_line_of s c.journal v) (units_by s c.journal v)) as (λ z. LaneSummary) [ None ↦ Tangled | Some t ↦ Line (length (units_by s c.journal v)) t.digest ]))
        go true = tt
        go false = found (find (is_line_of s c.journal v) (units_by s c.journal v)) refl

    told_in_range : All PartInRange (told_of c)
    told_in_range = All-map PartInRange (summary_of s c.journal) (validators c.config) (λ k d lt. part_in_range _)

    module _ (few : length c.config.weights ≤ 1024) (each : (v : Vertex) → Among v c.journal → VertexInRange v) where
      torn_in_range : (theirs : List LaneSummary) → All (λ (v : ℕ). v < 2 ^ 32) (torn_by c theirs)
      torn_in_range theirs =
          let n = length c.config.weights in
          let test : ℕ → Bool = λ v. is_torn (settled_of c.config (received_of s c.journal)) (part (summaries s c.journal) v) (part theirs v) in
          let below = and_parts (rise_from 0 (torn_by c theirs)) (list_all (λ v. nat_lt v n) (torn_by c theirs)) (passing_are_validators test n) in
          All-from_recursion (λ (v : ℕ). v < 2 ^ 32) (torn_by c theirs) (numbers_in_range n few (torn_by c theirs) below.1)

      due_in_range : (vs : List Vertex) → ((v : Vertex) → Among v vs → VertexInRange v) → AllByRecursion MeetingInRange (map frame.Vertex vs ++ frame.Done ∷ [])
      due_in_range [] ranges = (tt, tt)
      due_in_range (v ∷ vs) ranges = (ranges v (inl refl), due_in_range vs (λ w m. ranges w (inr m)))

      words_in_range : (theirs : List LaneSummary) (torn : List ℕ) → AllByRecursion MeetingInRange (all_words c theirs torn)
      words_in_range theirs torn = (
        instance_in_range c.config,
        (
          told_in_range,
          (
            torn_in_range theirs,
            due_in_range (owed_by c theirs torn)
                (λ v m. each v (Among-filter (is_due (torn_by c theirs ++ torn) (told_of c) theirs) v c.journal m).0),
          ),
        ),
      )

pub said_in_range : MeetingsSayInRange
said_in_range side c judge bytes lawful short vertices is =
    let was = done side c judge bytes is in
    let few = (within_limits c.config lawful).few in
    let words = words_in_range c short few (λ v m. all_at VertexInRange c.journal vertices v m) was.theirs was.torn in
    subst (λ (fs : List MeetingFrame). All MeetingInRange fs) (sym was.said) (All-from_recursion MeetingInRange (all_words c was.theirs was.torn) words)
