-- What a summary tells of a lane: its count and its tip.
use Rattle.std.proofs.Common.{◌≡◌, ℕ, zero, suc, ◌⊎◌, ◌+◌, ◌≤◌, ◌<◌, inl, inr, Bool, true, false, cond, List, [], ◌∷◌, length, map, Option, Some, None, refl, sym, ap, subst, ◌∙◌, arith, eqb-true, eq-eqb}
use Rattle.std.specs.Prelude.{◌==◌, find, slice_index_or}
use Rattle.std.proofs.lemmas.List.{length-map}
use Rattle.std.specs.List.{range_with_len}
use Rattle.hw_types.specs.declared.unit.Vertex.{Vertex}
use Rattle.hw_types.specs.Graph.{Node, is_on_lane, is_among, lane_of}
use Rattle.hw_types.specs.Below.{Among}
use Rattle.hw_types.specs.ByName.{IsRising}
use Rattle.hw_types.specs.Settled.{settled_of, is_faulty}
use Rattle.hw_types.specs.Journal.{Setting, received_of}
use Rattle.hw_types.specs.Lawful.{IsLawful}
use Rattle.hw_types.proofs.ClosureLaws.{Within, Among-filter, filter-Among}
use Rattle.hw_types.proofs.StableLaws.{and_parts, found_one}
use Rattle.hw_types.proofs.WordsLaws.{all_of, range_in, range_below, named_among}
use Rattle.hw_types.proofs.GraphLaws.{rising_one_name}
use Rattle.hw_types.proofs.RisingLaws.{rising_filter, never_itself}
use Rattle.hw_types.proofs.JournalLaws.{received_rising}
use Rattle.hw_types.proofs.EntryLaws.{map_among, among_map}
use Rattle.hw_types.proofs.LaneLaws as lanes
use Rattle.hw_safety.proofs.ChainLaws.{IsUp, up_line, up_split}
use Rattle.hw_safety.proofs.AccountLaws.{lawful_journal, in_journal}
use Rattle.hw_safety.proofs.LaneLaws.{lane-up, up-lane, lane_before, prev_is}
use Rattle.hw_agree.specs.declared.summary.LaneSummary.{LaneSummary}
use Rattle.hw_agree.specs.declared.summary.LaneSummary.TheVariants.{Nothing, Line, Tangled}
use Rattle.hw_agree.specs.Converge.{units_by, is_settled_below, is_line_of, summary_of, summaries, part}
use Rattle.hw_types.proofs.DistinctLaws.{IsDistinct, distinct_length, rising_distinct, map_distinct, range_length, range_distinct}

-- ---- what is told of a validator

part_from : {A : Type 0} (f : ℕ → A) (d : A) (a n k : ℕ) → k < n → slice_index_or (map f (range_with_len a n)) k d ≡ f (a + k)
part_from f d a zero k lt = absurd (omega arith)
part_from f d a (suc n) zero lt = (let e : a ≡ a + 0 = omega arith in ap f e)
part_from f d a (suc n) (suc k) lt = part_from f d (a + 1) n k (omega arith) ∙ (let e : a + 1 + k ≡ a + suc k = omega arith in ap f e)

pub part_is : (s : Setting) (journal : List Vertex) (v : ℕ) → v < length s.config.weights → part (summaries s journal) v ≡ summary_of s journal v
part_is s journal v lt = part_from (summary_of s journal) Nothing 0 (length s.config.weights) v lt ∙ (let e : 0 + v ≡ v = omega arith in ap (summary_of s journal) e)

module _ (s : Setting) (journal : List Vertex) where
  abbrev pub settled : List Node
  settled = settled_of s.config (received_of s journal)

  abbrev lawful : IsLawful s.config.weights (is_faulty (received_of s journal) settled) settled
  lawful = lawful_journal s journal

  -- the units of a validator are a line up to a tip
  pub record IsLine (v : ℕ) (tip : Node) : Type 0 where
    pub inside : Among tip settled
    pub made : tip.unit.creator ≡ v
    pub each : (x : Node) → Among x (units_by s journal v) → Among x settled × (is_on_lane settled x tip ≡ true)

  abbrev pub Tells : ℕ → LaneSummary → Type 0
  Tells v Nothing = (x : Node) → Among x (units_by s journal v) → ⊥
  Tells v Tangled = Unit {0}
  Tells v (Line count tip) = (t : Node) × IsLine v t × (tip ≡ t.digest) × (count ≡ length (units_by s journal v))

  none_there : (xs : List Node) → (length xs == 0) ≡ true → (x : Node) → Among x xs → ⊥
  none_there [] e x m = m
  none_there (y ∷ ys) e x m = absurd (let bad : suc (length ys) ≡ 0 = eqb-true (suc (length ys)) 0 e in omega arith)

  line_of : (v : ℕ) (t : Node) → find (is_line_of s journal v) (units_by s journal v) ≡ Some t → IsLine v t
  line_of v t e =
      let f = found_one (is_line_of s journal v) t (units_by s journal v) e in
      let each : (x : Node) → Among x (units_by s journal v) → Among x settled × (is_on_lane settled x t ≡ true) =
      λ x m.
      let p = and_parts (is_among settled x) (is_on_lane settled x t) (all_of (is_settled_below settled t) (units_by s journal v) f.1 x m) in
      (named_among (received_of s journal).units settled x (rising_one_name (received_of s journal).units (received_rising s journal)) (in_journal s journal) (Among-filter (λ y. y.unit.creator == v) x (received_of s journal).units m).0 p.0, p.1) in
      record {
        inside = (each t f.0).0;
        made = eqb-true t.unit.creator v (Among-filter (λ y. y.unit.creator == v) t (received_of s journal).units f.0).1;
        each = each;
      }

  -- a summary is true
  pub tells : (v : ℕ) → Tells v (summary_of s journal v)
  unfolding summary_of
  tells v = go (length (units_by s journal v) == 0) refl
    where
      found : (o : Option Node) → find (is_line_of s journal v) (units_by s journal v) ≡ o → Tells v (elim o as (λ z. LaneSummary) [ None ↦ Tangled | Some t ↦ Line (length (units_by s journal v)) t.digest ])
      found None e = tt
      found (Some t) e = (t, line_of v t e, refl, refl)

      go : (b : Bool) → (length (units_by s journal v) == 0) ≡ b
          → Tells v (cond b Nothing (elim (find (is_line_of s journal v) (units_by s journal v)) as (λ z. LaneSummary) [ None ↦ Tangled | Some t ↦ Line (length (units_by s journal v)) t.digest ]))
      go true e = none_there (units_by s journal v) e
      go false e = found (find (is_line_of s journal v) (units_by s journal v)) refl

  -- ---- along a line

  abbrev prev : Node → Option Node
  prev x = Rattle.hw_types.specs.Graph.previous settled x

  known_by : (v : ℕ) (x : Node) → Among x settled → x.unit.creator ≡ v → Among x (units_by s journal v)
  known_by v x m e = filter-Among (λ y. y.unit.creator == v) x (received_of s journal).units (in_journal s journal x m) (eq-eqb x.unit.creator v e)

  up_lower : (x y : Node) → Among y settled → IsUp prev x y → y.unit.seq ≤ x.unit.seq → x ≡ y
  up_lower x y m h le = go (up_split prev x y h)
    where
      go : ((x ≡ y) ⊎ ((p : Node) × (prev y ≡ Some p) × IsUp prev x p)) → x ≡ y
      go (inl e) = e
      go (inr p) = absurd (
          let q = prev_is s.config.weights (is_faulty (received_of s journal) settled) settled lawful y p.0 m p.1 in
          let before = (lane_before s.config.weights (is_faulty (received_of s journal) settled) settled lawful x p.0 q.0 p.2).2 in
          let step = q.2 in
          omega arith)

  module _ (v : ℕ) (t : Node) (line : IsLine v t) where
    up_to_tip : (x : Node) → Among x (units_by s journal v) → IsUp prev x t
    up_to_tip x m = lane-up s.config.weights (is_faulty (received_of s journal) settled) settled lawful x t (line.each x m).0 line.inside (line.each x m).1

    -- of two units the one of the lower number is on the lane of the other
    pub lower_below : (x y : Node) → Among x (units_by s journal v) → Among y (units_by s journal v) → x.unit.seq ≤ y.unit.seq → is_on_lane settled x y ≡ true
    lower_below x y m n le =
        let on_lane = λ (h : IsUp prev x y). up-lane s.config.weights (is_faulty (received_of s journal) settled) settled lawful x y (line.each y n).0 h in
        elim (up_line prev x y t (up_to_tip x m) (up_to_tip y n)) [
          | inl h ↦ on_lane h
          | inr h ↦ (let is = up_lower y x (line.each x m).0 h le in on_lane (subst (λ z. IsUp prev x z) (sym is) (Rattle.hw_safety.proofs.ChainLaws.up_self prev x)))
        ]

    one_of_number : (x y : Node) → Among x (units_by s journal v) → Among y (units_by s journal v) → x.unit.seq ≡ y.unit.seq → x ≡ y
    one_of_number x y m n e = elim (up_line prev x y t (up_to_tip x m) (up_to_tip y n)) [
      | inl h ↦ up_lower x y (line.each y n).0 h (omega arith)
      | inr h ↦ sym (up_lower y x (line.each x m).0 h (omega arith))
    ]

    pub no_higher : (x : Node) → Among x (units_by s journal v) → x.unit.seq ≤ t.unit.seq
    no_higher x m = (lane_before s.config.weights (is_faulty (received_of s journal) settled) settled lawful x t line.inside (up_to_tip x m)).2

    -- there are as many as the tip's number says
    pub count_is : length (units_by s journal v) ≡ t.unit.seq + 1
    count_is =
        let units = units_by s journal v in
        let number : Node → ℕ = λ x. x.unit.seq in
        let range = range_with_len 0 (t.unit.seq + 1) in
        let distinct = rising_distinct units (rising_filter (λ y. y.unit.creator == v) (received_of s journal).units (received_rising s journal)) in
        let most = distinct_length (map number units) range (map_distinct number units one_of_number distinct)
        (λ k m. let x = map_among number k units m in let low = no_higher x.0 x.1 in let is = x.2 in range_in 0 (t.unit.seq + 1) k (omega arith) (omega arith)) in
        let least = distinct_length range (map number units) (range_distinct 0 (t.unit.seq + 1))
        (λ k m.
        let high = (range_below 0 (t.unit.seq + 1) k m).1 in
        let z = lanes.lane_number s.config.weights (is_faulty (received_of s journal) settled) settled lawful t k line.inside (omega arith) in
        let made = lanes.lane_creator s.config.weights (is_faulty (received_of s journal) settled) settled lawful t z.0 line.inside z.1 in
        let inside = lanes.lane_within s.config.weights (is_faulty (received_of s journal) settled) settled lawful t z.0 z.1 in
        subst (λ n. Among n (map number units)) z.2 (among_map number z.0 units (known_by v z.0 inside (made ∙ line.made)))) in
        let one = length-map units number in
        let other = range_length 0 (t.unit.seq + 1) in
        omega arith
