-- What keeps a validator's units on one line.
use Rattle.std.proofs.Common.{◌≡◌, ℕ, ◌+◌, ◌≤◌, ◌<◌, ◌⊎◌, inl, inr, Bool, true, false, cond, not, List, [], ◌∷◌, ◌++◌, length, Option, Some, None, Result, Ok, Err, refl, sym, ap, subst, ◌∙◌, arith, eqb-true, eq-eqb}
use Rattle.std.specs.Prelude.{◌&&◌, ◌||◌, ◌==◌, nat_le, filter, filter_map, map, fold, is_none}
use Rattle.std.specs.List.{list_any, range_with_len}
use Rattle.std.proofs.lemmas.List.{length-map}
use Rattle.std.proofs.lemmas.List.Elements.{filter_map-append}
use Rattle.std.proofs.lemmas.List.FromFn.{length-range_with_len}
use Rattle.hw_types.specs.declared.unit.Obs.TheVariants.{Faulty}
use Rattle.hw_types.specs.declared.unit.Need.{Need}
use Rattle.hw_types.specs.declared.unit.WireUnit.{WireUnit}
use Rattle.hw_types.specs.declared.unit.SignedUnit.{SignedUnit}
use Rattle.hw_types.specs.declared.unit.Evidence.{Evidence}
use Rattle.hw_types.specs.declared.unit.Vertex.{Vertex}
use Rattle.hw_types.specs.declared.unit.Vertex.TheVariants as vertex
use Rattle.hw_types.specs.declared.answers.PairFault.TheVariants as fault
use Rattle.hw_types.specs.declared.answers.Receipt.{Receipt}
use Rattle.hw_types.specs.declared.answers.Receipt.TheVariants as receipt
use Rattle.hw_types.specs.declared.answers.Cause.{Cause}
use Rattle.hw_types.specs.declared.answers.Cause.TheVariants as cause
use Rattle.hw_types.specs.Graph.{Node, node_eq, digest_eq, latest, observed, follows, lane_of, are_different}
use Rattle.hw_types.specs.Below.{Among}
use Rattle.hw_types.specs.Same.{unit_eq}
use Rattle.hw_types.specs.Lawful.{IsLawful}
use Rattle.hw_types.specs.Rules.{state_rule}
use Rattle.hw_types.specs.Settled.{Received, settled_of, panorama_of, missing_of, is_faulty, has_evidence, equivocates, validators, tip_of, correct_or_absent}
use Rattle.hw_types.specs.Journal.{Setting, named, unit_of_vertex, evidence_in, received_of, refusal, clash_among, is_repeat, is_park_full, receipt_of, answer, is_accepted, journal_after}
use Rattle.hw_types.specs.Culprits.{signed_in}
use Rattle.hw_types.specs.Step.{next_seq}
use Rattle.hw_types.specs.laws.StateLaws.{units_in, NamesApart, IsTip}
use Rattle.hw_types.proofs.ClosureLaws.{Within, Among-filter, filter-Among}
use Rattle.hw_types.proofs.PastLaws.{some_of, or_cases}
use Rattle.hw_types.proofs.StableLaws.{and_parts, and_whole}
use Rattle.hw_types.proofs.GraphLaws.{rising_one_name}
use Rattle.hw_types.proofs.RisingLaws.{rising_filter}
use Rattle.hw_types.proofs.WordsLaws.{either, never_both, not_true, not_false, or_none, named_among, named_eq, found_node, latest_is, reach_more, range_in, range_below}
use Rattle.hw_types.proofs.LawfulLaws.{settled_part, settled_has, settled_lawful}
use Rattle.hw_types.proofs.EntryLaws.{map_among, among_map, append_cases, among_mapped}
use Rattle.hw_types.proofs.JournalLaws.{received_rising, received_local, longer_extends}
use Rattle.hw_types.proofs.GrowsLaws.{received_grows, settled_grows}
use Rattle.hw_types.proofs.OrderLaws.{Accepted, accepted, apart_after, unit_vertex, one_vertex, received_in, unit_self}
use Rattle.hw_types.proofs.LaneLaws.{lane_within, lane_creator, lane_number}
use Rattle.hw_types.proofs.TipLaws.{tip_top, top_is_tip, tip_or_none, slot_over, other_slots}
use Rattle.hw_types.proofs.StepLaws.{new_known, old_or_new}
use Rattle.hw_honest.specs.OneLine.{OneLine, BringsNoNew, units_by}
use Rattle.hw_honest.proofs.LineLaws.{one_on_lane}
use Rattle.hw_types.proofs.DistinctLaws.{distinct_length, rising_distinct, map_distinct, range_distinct}
use Rattle.hw_types.proofs.ReceiptLaws.{local_none}
use Rattle.hw_honest.specs.Plans.{settled_in}

-- ---- small facts

pub empty_of : {A : Type 0} (xs : List A) → Within xs [] → xs ≡ []
empty_of [] w = refl
empty_of (x ∷ xs) w = absurd (w x (inl refl))

-- two different settled units of one number, where a validator equivocates
pub record IsFork (units : List Node) (v : ℕ) : Type 0 where
  pub one : Node
  pub other : Node
  pub one_in : Among one units
  pub other_in : Among other units
  pub one_by : one.unit.creator ≡ v
  pub other_by : other.unit.creator ≡ v
  pub number : one.unit.seq ≡ other.unit.seq
  pub differ : node_eq one other ≡ false

pub fork_of_two : (units : List Node) (v : ℕ) → equivocates units v ≡ true → IsFork units v
unfolding equivocates
fork_of_two units v h =
    let x = some_of (λ x. (x.unit.creator == v) && list_any (λ y. (y.unit.creator == v) && (y.unit.seq == x.unit.seq) && are_different x y) units) units h in
    let p = and_parts _ _ x.2 in
    let y = some_of (λ y. (y.unit.creator == v) && (y.unit.seq == x.0.unit.seq) && are_different x.0 y) units p.1 in
    let q = and_parts _ _ y.2 in
    let r = and_parts _ _ q.0 in record {
      one = x.0;
      other = y.0;
      one_in = x.1;
      other_in = y.1;
      one_by = eqb-true _ _ p.0;
      other_by = eqb-true _ _ r.0;
      number = sym (eqb-true _ _ r.1);
      differ = not_true _ q.1;
    }

-- what is known of evidence stands in the journal
pub evidence_stands : (s : Setting) (journal : List Vertex) (v : ℕ) → has_evidence (received_of s journal).with_evidence v ≡ true → Among v (filter_map evidence_in journal)
unfolding received_of
evidence_stands s journal v h =
    let w = some_of (λ u. u == v) (filter (has_evidence (filter_map evidence_in journal)) (validators s.config)) h in
    let p = Among-filter (has_evidence (filter_map evidence_in journal)) w.0 (validators s.config) w.1 in
    let z = some_of (λ u. u == w.0) (filter_map evidence_in journal) p.1 in
    subst (λ a. Among a (filter_map evidence_in journal)) (eqb-true _ _ z.2 ∙ eqb-true _ _ w.2) z.1

-- evidence that isn't refused is two different units of one creator and one number
pub record IsPair (e : Evidence) : Type 0 where
  pub creator : e.left.unit.creator ≡ e.right.unit.creator
  pub number : e.left.unit.seq ≡ e.right.unit.seq
  pub differ : unit_eq e.left.unit e.right.unit ≡ false

pub pair_stands : (s : Setting) (journal : List Vertex) (e : Evidence) → refusal s journal (vertex.Evidence e) ≡ None → IsPair e
pair_stands s journal e h =
    let f = go (not (e.left.unit.creator == e.right.unit.creator) || nat_le (length s.config.weights) e.left.unit.creator) (not (e.left.unit.seq == e.right.unit.seq))
    (not (digest_eq e.left.unit.instance s.instance && digest_eq e.right.unit.instance s.instance)) (unit_eq e.left.unit e.right.unit)
    (elim (clash_among s (named s e.left.unit ∷ []) e.right.unit) as (λ z. Option Cause) [ Some d ↦ Some (cause.Clash d) | None ↦ None ]) h in record {
      creator = eqb-true _ _ (not_false _ (or_none _ _ f.0).0);
      number = eqb-true _ _ (not_false _ f.1);
      differ = f.2;
    }
  where
    go : (a b c d : Bool) (o : Option Cause)
        → elim (cond a (Some fault.Creator) (cond b (Some fault.Sequence) (cond c (Some fault.Instance) (cond d (Some fault.Same) None)))) as (λ z. Option Cause) [ Some f ↦ Some (cause.Pair f) | None ↦ o ] ≡ None
        → (a ≡ false) × (b ≡ false) × (d ≡ false)
    go true b c d o k = absurd cc
    go false true c d o k = absurd cc
    go false false true d o k = absurd cc
    go false false false true o k = absurd cc
    go false false false false o k = (refl, refl, refl)

abbrev seq_of : Node → ℕ
seq_of x = x.unit.seq

-- ---- one journal

module _ (s : Setting) (journal : List Vertex) (me : ℕ) where
  abbrev k : Received
  k = received_of s journal

  abbrev S : List Node
  S = settled_of s.config k

  pub lawful : IsLawful s.config.weights (is_faulty k S) S
  lawful = settled_lawful s.config k (received_rising s journal) s.instance (received_local s journal)

  pub is_by : (x : Node) → Among x (units_by s journal me) → Among x k.units × (x.unit.creator ≡ me)
  is_by x m = let p = Among-filter (λ x. x.unit.creator == me) x k.units m in (p.0, eqb-true _ _ p.1)

  pub by_has : (x : Node) → Among x k.units → x.unit.creator ≡ me → Among x (units_by s journal me)
  by_has x m c = filter-Among (λ x. x.unit.creator == me) x k.units m (eq-eqb _ _ c)

  pub settled_has_by : (x : Node) → Among x S → x.unit.creator ≡ me → Among x (units_by s journal me)
  settled_has_by x m c = by_has x ((settled_part s.config k (received_rising s journal)).part x m) c

  -- who has no evidence against it, and one settled unit of each number, isn't faulty
  pub unfaulty : (Among me (filter_map evidence_in journal) → ⊥) → ((x y : Node) → Among x S → Among y S → x.unit.creator ≡ me → y.unit.creator ≡ me → x.unit.seq ≡ y.unit.seq → x ≡ y) → is_faulty k S me ≡ false
  unfaulty none one = go (either (is_faulty k S me))
    where
      forked : IsFork S me → ⊥
      forked f = never_both _ (named_eq f.one f.other (ap (λ (z : Node). z.digest) (one f.one f.other f.one_in f.other_in f.one_by f.other_by f.number))) f.differ

      go : ((is_faulty k S me ≡ true) ⊎ (is_faulty k S me ≡ false)) → is_faulty k S me ≡ false
      go (inr h) = h
      go (inl h) = elim (or_cases (has_evidence k.with_evidence me) (equivocates S me) h) [
        | inl e ↦ absurd (none (evidence_stands s journal me e))
        | inr e ↦ absurd (forked (fork_of_two S me e))
      ]

  pub numbers_apart : OneLine s journal me → (x y : Node) → Among x (units_by s journal me) → Among y (units_by s journal me) → x.unit.seq ≡ y.unit.seq → x ≡ y
  numbers_apart one x y m n e = elim one.line [
    | inl none ↦ absurd (subst (λ zs. Among x zs) none m)
    | inr t ↦ one_on_lane s.config.weights (is_faulty k S) S lawful t.0 x y (one.settled t.0 t.1) (one.settled x m) (one.settled y n) (t.2 x m) (t.2 y n) e
  ]

  pub line_unfaulty : OneLine s journal me → is_faulty k S me ≡ false
  line_unfaulty one = unfaulty one.no_evidence (λ x y m n c d e. numbers_apart one x y (settled_has_by x m c) (settled_has_by y n d) e)

  -- the last unit, or none, is what the state observes
  pub own_tip : is_faulty k S me ≡ false
      → (((x : Node) → Among x S → x.unit.creator ≡ me → ⊥) × (latest S (panorama_of s.config k) me ≡ None)) ⊎ ((t : Node) × IsTip S me t × (latest S (panorama_of s.config k) me ≡ Some t))
  unfolding panorama_of
  own_tip ok = elim (tip_or_none s.config.weights (is_faulty k S) S lawful me ok) [
    | inl none ↦ inl (none.0, ap (observed S) ((other_slots s.config (is_faulty k S) S lawful).none me ok none.0))
    | inr t ↦ inr (
      t.0,
      t.1,
      latest_is S (panorama_of s.config k) me t.0.digest t.0
          (slot_over s.config (is_faulty k S) S me (subst (λ w. w < length s.config.weights) t.1.creator (lawful.creator_is t.0 t.1.member)) ∙ ap (λ b. cond b Faulty (correct_or_absent (tip_of S me))) ok ∙ ap correct_or_absent t.2)
          (found_node S t.0 t.0.digest (rising_one_name S lawful.in_order) t.1.member refl),
    )
  ]

  -- each settled unit has a lower number than the next
  pub below_next : is_faulty k S me ≡ false → (y : Node) → Among y S → y.unit.creator ≡ me → y.unit.seq < next_seq (latest S (panorama_of s.config k) me)
  below_next ok y m c = elim (own_tip ok) [
    | inl none ↦ absurd (none.0 y m c)
    | inr t ↦ (
        let next : next_seq (latest S (panorama_of s.config k) me) ≡ t.0.unit.seq + 1 = ap next_seq t.2 in
        elim (tip_top s.config.weights (is_faulty k S) S lawful me t.0 t.1 y m c) [
          | inl e ↦ (let same = ap (λ (z : Node). z.unit.seq) e in omega arith)
          | inr lt ↦ omega arith
        ])
  ]

  -- and that is how many there are
  pub next_is_count : OneLine s journal me → next_seq (latest S (panorama_of s.config k) me) ≡ length (units_by s journal me)
  next_is_count one = elim (own_tip (line_unfaulty one)) [
    | inl none ↦ ap next_seq none.1 ∙ sym (ap (λ (zs : List Node). length zs) (empty_of (units_by s journal me) (λ x m. none.0 x (one.settled x m) (is_by x m).1)))
    | inr t ↦ ap next_seq t.2 ∙ count t.0 t.1
  ]
    where
      lower : (t : Node) → IsTip S me t → (x : Node) → Among x (units_by s journal me) → x.unit.seq < t.unit.seq + 1
      lower t tip x m = elim (tip_top s.config.weights (is_faulty k S) S lawful me t tip x (one.settled x m) (is_by x m).1) [
        | inl e ↦ (let same = ap (λ (z : Node). z.unit.seq) e in omega arith)
        | inr lt ↦ omega arith
      ]

      numbered : (t : Node) → IsTip S me t → (n : ℕ) → n < t.unit.seq + 1 → Among n (map seq_of (units_by s journal me))
      numbered t tip n lt =
          let z = lane_number s.config.weights (is_faulty k S) S lawful t n tip.member (omega arith) in
          let c = lane_creator s.config.weights (is_faulty k S) S lawful t z.0 tip.member z.1 ∙ tip.creator in
          subst (λ a. Among a (map seq_of (units_by s journal me))) z.2 (among_map seq_of z.0 (units_by s journal me) (settled_has_by z.0 (lane_within s.config.weights (is_faulty k S) S lawful t z.0 z.1) c))

      count : (t : Node) → IsTip S me t → t.unit.seq + 1 ≡ length (units_by s journal me)
      count t tip =
          let most = distinct_length (map seq_of (units_by s journal me)) (range_with_len 0 (t.unit.seq + 1))
          (map_distinct seq_of (units_by s journal me) (λ x y m n e. numbers_apart one x y m n e) (rising_distinct (units_by s journal me) (rising_filter (λ x. x.unit.creator == me) k.units (received_rising s journal))))
          (λ n m. let x = mapped n m in range_in 0 (t.unit.seq + 1) n (omega arith) (let lt = lower t tip x.0 x.1 in let same = x.2 in omega arith)) in
          let least = distinct_length (range_with_len 0 (t.unit.seq + 1)) (map seq_of (units_by s journal me)) (range_distinct 0 (t.unit.seq + 1))
          (λ n m. numbered t tip n (let r = range_under n m in omega arith)) in
          let long = length-map (units_by s journal me) seq_of in
          let wide = length-range_with_len 0 (t.unit.seq + 1) in
          omega arith
        where
          mapped : (n : ℕ) → Among n (map seq_of (units_by s journal me)) → (x : Node) × Among x (units_by s journal me) × (seq_of x ≡ n)
          mapped n m = map_among seq_of n (units_by s journal me) m

          range_under : (n : ℕ) → Among n (range_with_len 0 (t.unit.seq + 1)) → n < t.unit.seq + 1
          range_under n m = let r = (range_below 0 (t.unit.seq + 1) n m).1 in omega arith

-- nothing was received
pub begins : (s : Setting) (me : ℕ) → OneLine s [] me
begins s me = record { settled = λ x m. absurd (none x (is_by s [] me x m).0); line = inl (empty_of (units_by s [] me) (λ x m. none x (is_by s [] me x m).0)); no_evidence = λ m. m }
  where
    none : (x : Node) → Among x (received_of s []).units → ⊥
    none x m = received_in s [] x m

-- ---- one unit more by the validator

module _ (s : Setting) (journal : List Vertex) (me : ℕ) (apart : NamesApart (units_in s journal)) (one : OneLine s journal me) (u : SignedUnit) (own : u.unit.creator ≡ me)
    (number : u.unit.seq ≡ next_seq (latest (settled_in s journal) (panorama_of s.config (received_of s journal)) me))
    (ok : Accepted s journal (vertex.Unit u)) (there : Among (named s u.unit) (settled_in s (journal ++ vertex.Unit u ∷ []))) where
  abbrev later : List Vertex
  later = journal ++ vertex.Unit u ∷ []

  abbrev x : Node
  x = named s u.unit

  abbrev Sl : List Node
  Sl = settled_in s later

  old_or_x : (y : Node) → Among y (units_by s later me) → Among y (units_by s journal me) ⊎ (y ≡ x)
  old_or_x y m =
      let p = is_by s later me y m in
      elim (old_or_new s journal (vertex.Unit u) apart ok y p.0) [ inl h ↦ inl (by_has s journal me y h p.1) | inr h ↦ inr (is_x h) ]
    where
      is_x : Among y (units_in s (vertex.Unit u ∷ [])) → y ≡ x
      is_x h =
          let w = unit_vertex s (vertex.Unit u) y (one_vertex s (vertex.Unit u) y h) in
          let e : vertex.Unit u ≡ vertex.Unit w.0 = w.1 in
          w.2 ∙ ap (λ (z : SignedUnit). named s z.unit) (let same : w.0 ≡ u = cc in same)

  grows : (y : Node) → Among y (settled_in s journal) → Among y Sl
  grows = settled_grows s.config (received_of s journal) (received_rising s journal) (received_of s later) (received_rising s later) (longer_extends s journal (vertex.Unit u ∷ []))

  all_settled : (y : Node) → Among y (units_by s later me) → Among y Sl
  all_settled y m = elim (old_or_x y m) [ inl h ↦ grows y (one.settled y h) | inr e ↦ subst (λ z. Among z Sl) (sym e) there ]

  under : (y : Node) → Among y (units_by s journal me) → y.unit.seq < u.unit.seq
  under y m = let lt = below_next s journal me (line_unfaulty s journal me one) y (one.settled y m) (is_by s journal me y m).1 in omega arith

  no_evidence_later : Among me (filter_map evidence_in later) → ⊥
  no_evidence_later m = elim (append_cases me (filter_map evidence_in journal) (filter_map evidence_in (vertex.Unit u ∷ [])) (subst (λ vs. Among me vs) (filter_map-append evidence_in journal (vertex.Unit u ∷ [])) m)) [
    | inl h ↦ one.no_evidence h
    | inr h ↦ absurd h
  ]

  apart_later : (y z : Node) → Among y Sl → Among z Sl → y.unit.creator ≡ me → z.unit.creator ≡ me → y.unit.seq ≡ z.unit.seq → y ≡ z
  apart_later y z m n c d e = go (old_or_x y (settled_has_by s later me y m c)) (old_or_x z (settled_has_by s later me z n d))
    where
      go : (Among y (units_by s journal me) ⊎ (y ≡ x)) → (Among z (units_by s journal me) ⊎ (z ≡ x)) → y ≡ z
      go (inl h) (inl k) = numbers_apart s journal me one y z h k e
      go (inl h) (inr k) = let lt = under y h in let same = ap (λ (w : Node). w.unit.seq) k in absurd (omega arith)
      go (inr h) (inl k) = let lt = under z k in let same = ap (λ (w : Node). w.unit.seq) h in absurd (omega arith)
      go (inr h) (inr k) = h ∙ sym k

  unfaulty_later : is_faulty (received_of s later) Sl me ≡ false
  unfaulty_later = unfaulty s later me no_evidence_later apart_later

  x_is_tip : IsTip Sl me x
  x_is_tip = top_is_tip s.config.weights (is_faulty (received_of s later) Sl) Sl (lawful s later me) me x unfaulty_later there own (λ y m c. top y (old_or_x y (settled_has_by s later me y m c)))
    where
      top : (y : Node) → (Among y (units_by s journal me) ⊎ (y ≡ x)) → y.unit.seq ≤ u.unit.seq
      top y (inl h) = let lt = under y h in omega arith
      top y (inr e) = let same = ap (λ (w : Node). w.unit.seq) e in omega arith

  -- the line goes on
  pub one_more : OneLine s later me
  one_more = record {
    settled = all_settled;
    line = inr (
      x,
      settled_has_by s later me x there own,
      λ y m. named_among Sl (lane_of Sl x) y (rising_one_name Sl (lawful s later me).in_order)
          (lane_within s.config.weights (is_faulty (received_of s later) Sl) Sl (lawful s later me) x) (all_settled y m) (x_is_tip.lane y (all_settled y m) (is_by s later me y m).1),
    );
    no_evidence = no_evidence_later;
  }

-- ---- a vertex that brings no new unit by the validator

module _ (s : Setting) (journal : List Vertex) (me : ℕ) (apart : NamesApart (units_in s journal)) (one : OneLine s journal me) (v : Vertex) (ok : Accepted s journal v) (known : BringsNoNew s journal me v) where
  abbrev then : List Vertex
  then = journal ++ v ∷ []

  old_by : (y : Node) → Among y (units_by s then me) → Among y (units_by s journal me)
  old_by y m =
      let p = is_by s then me y m in
      elim (old_or_new s journal v apart ok y p.0) [ inl h ↦ by_has s journal me y h p.1 | inr h ↦ from_vertex y p.1 (unit_vertex s v y (one_vertex s v y h)) ]
    where
      from_vertex : (y : Node) → y.unit.creator ≡ me → ((u : SignedUnit) × (v ≡ vertex.Unit u) × (y ≡ named s u.unit)) → Among y (units_by s journal me)
      from_vertex y c w = subst (λ z. Among z (units_by s journal me)) (sym w.2)
          (known w.0 (subst (λ z. Among w.0 (signed_in z)) (sym w.1) (inl refl)) (sym (ap (λ (z : Node). z.unit.creator) w.2) ∙ c))

  still_by : (y : Node) → Among y (units_by s journal me) → Among y (units_by s then me)
  still_by y m = let p = is_by s journal me y m in by_has s then me y ((longer_extends s journal (v ∷ [])).units y p.0) p.1

  still_settled : (y : Node) → Among y (settled_in s journal) → Among y (settled_in s then)
  still_settled = settled_grows s.config (received_of s journal) (received_rising s journal) (received_of s then) (received_rising s then) (longer_extends s journal (v ∷ []))

  no_new_evidence : (w : Vertex) → v ≡ w → Among me (filter_map evidence_in (w ∷ [])) → ⊥
  no_new_evidence (vertex.Unit u) e m = absurd m
  no_new_evidence (vertex.Endorsement n) e m = absurd m
  no_new_evidence (vertex.Evidence w) e (inr m) = absurd m
  no_new_evidence (vertex.Evidence w) e (inl c) =
      let pair = pair_stands s journal w (subst (λ z. refusal s journal z ≡ None) e ok.not_refused) in
      let left = known w.left (subst (λ z. Among w.left (signed_in z)) (sym e) (inl refl)) c in
      let right = known w.right (subst (λ z. Among w.right (signed_in z)) (sym e) (inr (inl refl))) (sym pair.creator ∙ c) in
      let same : w.left.unit ≡ w.right.unit = ap (λ (z : Node). z.unit) (numbers_apart s journal me one (named s w.left.unit) (named s w.right.unit) left right pair.number) in
      absurd (never_both _ (subst (λ z. unit_eq w.left.unit z ≡ true) same (unit_self w.left.unit)) pair.differ)

  -- the line is as it was
  pub no_more : OneLine s then me
  no_more = record {
    settled = λ y m. still_settled y (one.settled y (old_by y m));
    line = elim one.line [
      | inl none ↦ inl (empty_of (units_by s then me) (λ y m. subst (λ zs. Among y zs) none (old_by y m)))
      | inr t ↦ inr (t.0, still_by t.0 t.1, λ y m. reach_more follows (λ a. node_eq a t.0) (settled_in s journal) (settled_in s then) still_settled y (t.2 y (old_by y m)))
    ];
    no_evidence = λ m. elim (append_cases me (filter_map evidence_in journal) (filter_map evidence_in (v ∷ [])) (subst (λ vs. Among me vs) (filter_map-append evidence_in journal (v ∷ [])) m)) [
      | inl h ↦ one.no_evidence h
      | inr h ↦ no_new_evidence v refl h
    ];
  }

-- ---- whatever the answer

-- the unit lacks nothing and breaks no rule of the state where the journal stands
abbrev pub Settles : Setting → List Vertex → WireUnit → Type 0
Settles s journal u = (missing_of s.config (received_of s journal) (settled_in s journal) (named s u) ≡ []) × (state_rule s.config (settled_in s journal) (named s u) ≡ None)

-- an accepted unit that does so is settled
pub settles_later : (s : Setting) (journal : List Vertex) (u : SignedUnit) → NamesApart (units_in s journal) → Accepted s journal (vertex.Unit u) → Settles s journal u.unit → Among (named s u.unit) (settled_in s (journal ++ vertex.Unit u ∷ []))
settles_later s journal u apart ok h =
    let later = journal ++ vertex.Unit u ∷ [] in
    let none = ap (λ (ns : List Need). length ns) h.0 in
    let more = received_grows s.config (received_of s journal) (received_of s later) (received_rising s journal) (received_rising s later) (longer_extends s journal (vertex.Unit u ∷ [])) in
    settled_has s.config (received_of s later) (received_rising s later) (named s u.unit)
    (new_known s journal (vertex.Unit u) apart ok (named s u.unit) (among_mapped (unit_of_vertex s) (vertex.Unit u) (named s u.unit) (vertex.Unit u ∷ []) (inl refl) (local_none s journal u ok.not_refused)))
    (and_whole _ _ (eq-eqb _ _ (more.ready (named s u.unit) none)) (ap is_none (more.verdict_stays (named s u.unit) none ∙ h.1)))

-- what is answered of an accepted vertex is what became of it
pub answer_is : (s : Setting) (journal : List Vertex) (v : Vertex) (verdict : Bool) (r : Receipt) → answer s journal v verdict ≡ Ok r → is_accepted (Ok r) ≡ true → receipt_of s journal v ≡ r
unfolding answer
answer_is s journal v verdict r e h = go verdict (refusal s journal v) (is_repeat s journal v) (nat_le s.config.max_records (length journal)) (is_park_full s journal v) (receipt_of s journal v) e
  where
    go : (ok : Bool) (o : Option Cause) (again full park : Bool) (given : Receipt)
        → cond (not ok) (Err cause.BadSignature) (elim o as (λ z. Result Receipt Cause) [ Some c ↦ Err c | None ↦ cond again (Ok receipt.Repeat) (cond full (Err cause.RecordsFull) (cond park (Err cause.ParkFull) (Ok given))) ]) ≡ Ok r
        → given ≡ r
    go false o again full park given k = absurd cc
    go true (Some c) again full park given k = absurd cc
    go true None true full park given k = absurd (let same : receipt.Repeat ≡ r = cc in let no : false ≡ true = ap (λ q. is_accepted (Ok q)) same ∙ h in cc)
    go true None false true park given k = absurd cc
    go true None false false true given k = absurd cc
    go true None false false false given k = cc

pub line_after : (s : Setting) (journal : List Vertex) (me : ℕ) (v : Vertex) (verdict : Bool) → OneLine s journal me → (is_accepted (answer s journal v verdict) ≡ true → OneLine s (journal ++ v ∷ []) me) → OneLine s (journal_after s journal (v, verdict)) me
line_after s journal me v verdict one step = go (is_accepted (answer s journal v verdict)) refl
  where
    go : (b : Bool) → is_accepted (answer s journal v verdict) ≡ b → OneLine s (cond b (journal ++ v ∷ []) journal) me
    go false h = one
    go true h = step h

-- a vertex that brings nothing new
pub delivery_keeps : (s : Setting) (journal : List Vertex) (me : ℕ) (v : Vertex) (verdict : Bool) → NamesApart (units_in s journal) → OneLine s journal me → BringsNoNew s journal me v → OneLine s (journal_after s journal (v, verdict)) me
delivery_keeps s journal me v verdict apart one known = line_after s journal me v verdict one (λ h. no_more s journal me apart one v (accepted s journal v verdict h) known)

apart_more : (s : Setting) (journal : List Vertex) (d : Vertex × Bool) → NamesApart (units_in s journal) → NamesApart (units_in s (journal_after s journal d))
apart_more s journal d apart = go (is_accepted (answer s journal d.0 d.1)) refl
  where
    go : (b : Bool) → is_accepted (answer s journal d.0 d.1) ≡ b → NamesApart (units_in s (cond b (journal ++ d.0 ∷ []) journal))
    go true e = apart_after s journal d.0 apart (accepted s journal d.0 d.1 e)
    go false e = apart

-- several vertices that bring nothing new
pub deliveries_keep : (s : Setting) (journal : List Vertex) (me : ℕ) (more : List (Vertex × Bool)) → NamesApart (units_in s journal) → OneLine s journal me
    → ((d : Vertex × Bool) → Among d more → BringsNoNew s journal me d.0) → OneLine s (fold (journal_after s) journal more) me
deliveries_keep s journal me [] apart one known = one
deliveries_keep s journal me (d ∷ more) apart one known =
    deliveries_keep s (journal_after s journal d) me more (apart_more s journal d apart) (delivery_keeps s journal me d.0 d.1 apart one (known d (inl refl))) (λ e m u n by. still (named s u.unit) (is_accepted (answer s journal d.0 d.1)) (known e (inr m) u n by))
  where
    still : (x : Node) (b : Bool) → Among x (units_by s journal me) → Among x (units_by s (cond b (journal ++ d.0 ∷ []) journal) me)
    still x false m = m
    still x true m = let p = is_by s journal me x m in by_has s (journal ++ d.0 ∷ []) me x ((longer_extends s journal (d.0 ∷ [])).units x p.0) p.1
