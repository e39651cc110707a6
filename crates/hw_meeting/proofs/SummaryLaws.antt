-- What the highest units and the marks tell is the summary.
use Rattle.std.proofs.Common.{◌≡◌, ℕ, ◌+◌, ◌<◌, ◌≤◌, inl, inr, Bool, true, false, cond, List, [], ◌∷◌, length, Option, Some, None, refl, sym, ap, subst, ◌∙◌, arith, eqb-true, eq-eqb}
use Rattle.std.specs.Prelude.{◌==◌, find, map}
use Rattle.std.specs.List.{range_with_len}
use Rattle.hw_types.specs.declared.unit.WireUnit.{WireUnit}
use Rattle.hw_types.specs.declared.unit.Vertex.{Vertex}
use Rattle.hw_types.specs.Graph.{Node, is_among, is_on_lane, lane_of}
use Rattle.hw_types.specs.Below.{Among}
use Rattle.hw_types.specs.Settled.{is_faulty}
use Rattle.hw_types.specs.Journal.{Setting, named, unit_of_vertex, received_of}
use Rattle.hw_types.specs.laws.StateLaws.{units_in, NamesApart}
use Rattle.hw_types.proofs.ClosureLaws.{Among-filter, filter-Among}
use Rattle.hw_types.proofs.StableLaws.{and_parts, and_whole, find_one, found_one}
use Rattle.hw_types.proofs.WordsLaws.{all_of, each_all, among_is, named_among, range_below}
use Rattle.hw_types.proofs.GraphLaws.{rising_one_name}
use Rattle.hw_types.proofs.JournalLaws.{received_rising}
use Rattle.hw_types.proofs.EntryLaws.{mapped_among}
use Rattle.hw_types.proofs.OrderLaws.{unit_vertex, in_known, received_in}
use Rattle.hw_types.proofs.LaneLaws as lanes
use Rattle.hw_safety.proofs.AccountLaws.{lawful_journal, in_journal}
use Rattle.hw_dag.specs.declared.numbers.UnitNo.{UnitNo}
use Rattle.hw_dag.specs.Dag.{UnitGraph, unit_at, count_of, seq_of, node_at, graph}
use Rattle.hw_dag.specs.Admission.{IsGraph}
use Rattle.hw_dag.specs.Lanes.{is_lane_below}
use Rattle.hw_dag.proofs.NodeLaws.{among_node, node_among}
use Rattle.hw_agree.specs.declared.summary.LaneSummary.{LaneSummary}
use Rattle.hw_agree.specs.declared.summary.LaneSummary.TheVariants.{Nothing, Line, Tangled}
use Rattle.hw_agree.specs.Converge.{units_by, is_settled_below, is_line_of, summary_of, summaries}
use Rattle.hw_agree.proofs.LineLaws.{IsLine, settled, count_is, no_higher}
use Rattle.hw_meeting.specs.declared.mark.Mark.{Mark}
use Rattle.hw_meeting.specs.declared.mark.Mark.TheVariants as mark
use Rattle.hw_meeting.specs.Lanes.{IsHighest, IsOnTip, HasOther, IsMark, lane_summary, AreHighest, AreMarks, tip_at, mark_at}

-- units of a journal are named by what they are
named_so : (s : Setting) (journal : List Vertex) (x : Node) → Among x (units_in s journal) → x ≡ named s x.unit
named_so s journal x m =
    let w = mapped_among (unit_of_vertex s) x journal m in
    let u = unit_vertex s w.0 x w.2 in
    u.2 ∙ ap (λ (z : WireUnit). named s z) (sym (ap (λ (y : Node). y.unit) u.2))

-- the summary, by its parts
abbrev summary_by : Bool → Option Node → ℕ → LaneSummary
summary_by empty line count = cond empty Nothing (elim line as (λ z. LaneSummary) [ None ↦ Tangled | Some t ↦ Line count t.digest ])

none_has : (xs : List Node) → ((x : Node) → Among x xs → ⊥) → (length xs == 0) ≡ true
none_has [] none = refl
none_has (x ∷ xs) none = absurd (none x (inl refl))

some_has : (xs : List Node) (x : Node) → Among x xs → (length xs == 0) ≡ false
some_has xs x m = go (length xs == 0) refl
  where
    empty : (ys : List Node) → length ys ≡ 0 → Among x ys → ⊥
    empty [] e k = k
    empty (y ∷ ys) e k = omega arith

    go : (b : Bool) → (length xs == 0) ≡ b → b ≡ false
    go true e = absurd (empty xs (eqb-true (length xs) 0 e) m)
    go false e = refl

module _ (s : Setting) (journal : List Vertex) (dag : UnitGraph) (g : IsGraph dag) (same : graph dag ≡ settled s journal) (apart : NamesApart (units_in s journal)) (v : ℕ) where
  abbrev units : List Node
  units = units_by s journal v

  by_creator : (x : Node) → Among x units → Among x (units_in s journal) × (x.unit.creator ≡ v)
  by_creator x m =
      let f = Among-filter (λ y. y.unit.creator == v) x (received_of s journal).units m in
      (received_in s journal x f.0, eqb-true x.unit.creator v f.1)

  of_creator : (x : Node) → Among x (units_in s journal) → x.unit.creator ≡ v → Among x units
  of_creator x m e = filter-Among (λ y. y.unit.creator == v) x (received_of s journal).units (in_known s journal apart x m) (eq-eqb x.unit.creator v e)

  -- a number's unit is settled
  number_settled : (n : ℕ) → n < count_of dag → Among (node_at dag n) (settled s journal)
  number_settled n lt = subst (λ (us : List Node). Among (node_at dag n) us) same (node_among dag g n lt)

  number_known : (n : ℕ) → n < count_of dag → Among (node_at dag n) (units_in s journal)
  number_known n lt = received_in s journal (node_at dag n) (in_journal s journal (node_at dag n) (number_settled n lt))

  -- a unit of the journal that a number has is that number's
  number_is : (n : ℕ) (x : Node) → n < count_of dag → Among x (units_in s journal) → (unit_at dag n).signed.unit ≡ x.unit → node_at dag n ≡ x
  number_is n x lt m e =
      named_so s journal (node_at dag n) (number_known n lt) ∙ ap (λ (u : WireUnit). named s u) e ∙ sym (named_so s journal x m)

  settled_number : (x : Node) → Among x (settled s journal) → (n : ℕ) × (n < count_of dag) × (node_at dag n ≡ x)
  settled_number x m = among_node dag x (subst (λ (us : List Node). Among x us) (sym same) m)

  lane_settled : (m n : ℕ) → is_lane_below dag m n ≡ is_on_lane (settled s journal) (node_at dag m) (node_at dag n)
  lane_settled m n = ap (λ (us : List Node). is_on_lane us (node_at dag m) (node_at dag n)) same

  -- what the test says of a line
  line_has : (t x : Node) → is_line_of s journal v t ≡ true → Among x units → Among x (settled s journal) × (is_on_lane (settled s journal) x t ≡ true)
  line_has t x is m =
      let p = and_parts (is_among (settled s journal) x) (is_on_lane (settled s journal) x t) (all_of (is_settled_below (settled s journal) t) units is x m) in (
        named_among (received_of s journal).units (settled s journal) x (rising_one_name (received_of s journal).units (received_rising s journal)) (in_journal s journal)
            (Among-filter (λ y. y.unit.creator == v) x (received_of s journal).units m).0 p.0,
        p.1,
      )

  -- a line has one tip, which is the highest
  one_tip : (t x : Node) → is_line_of s journal v t ≡ true → Among t units → Among x units → t.unit.seq ≤ x.unit.seq → x ≡ t
  one_tip t x is mt mx high =
      let low = line_has t x is mx in
      let top = (line_has t t is mt).0 in
      let lane = named_among (settled s journal) (lane_of (settled s journal) t) x (rising_one_name (settled s journal) (lawful_journal s journal).in_order)
      (lanes.lane_within s.config.weights (is_faulty (received_of s journal) (settled s journal)) (settled s journal) (lawful_journal s journal) t) low.0 low.1 in
      elim (lanes.lane_seq s.config.weights (is_faulty (received_of s journal) (settled s journal)) (settled s journal) (lawful_journal s journal) t x top lane) [
        | inl e ↦ e
        | inr lower ↦ absurd (omega (arith, lower, high))
      ]

  summary_is : (b : Bool) (o : Option Node) → (length units == 0) ≡ b → find (is_line_of s journal v) units ≡ o → summary_of s journal v ≡ summary_by b o (length units)
  unfolding summary_of
  summary_is b o e f = ap (λ c. summary_by c (find (is_line_of s journal v) units) (length units)) e ∙ ap (λ p. summary_by b p (length units)) f

  -- no unit
  unseen_told : ((x : Node) → Among x (units_in s journal) → x.unit.creator ≡ v → ⊥) → Nothing ≡ summary_of s journal v
  unseen_told none = sym (summary_is true (find (is_line_of s journal v) units) (none_has units (λ x m. let p = by_creator x m in none x p.0 p.1)) refl)

  -- all on the lane of the highest one
  whole_told : (tip : UnitNo) → IsHighest dag (count_of dag) v (Some tip) → IsMark (IsOnTip dag (Some tip)) v (units_in s journal) mark.Whole
      → Line (seq_of (unit_at dag tip.0) + 1) (unit_at dag tip.0).digest ≡ summary_of s journal v
  whole_told tip high whole =
      let t = node_at dag tip.0 in
      let inside = number_settled tip.0 high.0 in
      let made = of_creator t (number_known tip.0 high.0) high.1 in
      let each : (x : Node) → Among x units → Among x (settled s journal) × (is_on_lane (settled s journal) x t ≡ true) = λ x m.
      let p = by_creator x m in
      let on = whole.1 x p.0 p.1 in
      let is : node_at dag on.number ≡ x = number_is on.number x on.known p.0 on.is in (
        subst (λ (y : Node). Among y (settled s journal)) is (number_settled on.number on.known),
        subst (λ (y : Node). is_on_lane (settled s journal) y t ≡ true) is (sym (lane_settled on.number tip.0) ∙ on.on_lane),
      ) in
      let line : IsLine s journal v t = record { inside = inside; made = high.1; each = each } in
      let test : is_line_of s journal v t ≡ true = each_all (is_settled_below (settled s journal) t) units (λ x m. let p = each x m in and_whole (is_among (settled s journal) x) (is_on_lane (settled s journal) x t) (among_is x (settled s journal) p.0) p.1) in
      let only : (y : Node) → Among y units → is_line_of s journal v y ≡ true → y ≡ t = λ y m is. sym (one_tip y t is m made (no_higher s journal v t line y m)) in
      let found : find (is_line_of s journal v) units ≡ Some t = find_one (is_line_of s journal v) t units made test only in
      let count : seq_of (unit_at dag tip.0) + 1 ≡ length units = sym (count_is s journal v t line) in
      ap (λ n. Line n t.digest) count ∙ sym (summary_is false (Some t) (some_has units t made) found)

  -- none of which all are on its lane
  no_line : (tip : Option UnitNo) → IsHighest dag (count_of dag) v tip → HasOther (IsOnTip dag tip) v (units_in s journal) → (t : Node) → Among t units → is_line_of s journal v t ≡ true → ⊥
  no_line None high other t m is =
      let n = settled_number t (line_has t t is m).0 in
      high n.0 n.1 (ap (λ (y : Node). y.unit.creator) n.2 ∙ (by_creator t m).1)
  no_line (Some tip) high other t m is =
      let h = node_at dag tip.0 in
      let made = of_creator h (number_known tip.0 high.0) high.1 in
      let n = settled_number t (line_has t t is m).0 in
      let seq : seq_of (unit_at dag n.0) ≡ t.unit.seq = ap (λ (y : Node). y.unit.seq) n.2 in
      let most = high.2 n.0 n.1 (ap (λ (y : Node). y.unit.creator) n.2 ∙ (by_creator t m).1) in
      let top : h ≡ t = one_tip t h is m made (omega (arith, seq, most)) in
      let x = other.unit in
      let on = line_has t x is (of_creator x other.among other.creator_is) in
      let k = settled_number x on.0 in
      let lane : is_lane_below dag k.0 tip.0 ≡ true = lane_settled k.0 tip.0
      ∙ subst (λ (y : Node). is_on_lane (settled s journal) y h ≡ true) (sym k.2) (subst (λ (y : Node). is_on_lane (settled s journal) x y ≡ true) (sym top) on.1) in
      other.other (record { number = k.0; known = k.1; on_lane = lane; is = ap (λ (y : Node). y.unit) k.2 })

  broken_told : (tip : Option UnitNo) → IsHighest dag (count_of dag) v tip → HasOther (IsOnTip dag tip) v (units_in s journal) → Tangled ≡ summary_of s journal v
  broken_told tip high other = go (find (is_line_of s journal v) units) refl
    where
      go : (o : Option Node) → find (is_line_of s journal v) units ≡ o → Tangled ≡ summary_of s journal v
      go None e = sym (summary_is false None (some_has units other.unit (of_creator other.unit other.among other.creator_is)) e)
      go (Some t) e = absurd (let f = found_one (is_line_of s journal v) t units e in no_line tip high other t f.0 f.1)

  -- what is told of a validator is its summary
  pub told_is : (tip : Option UnitNo) (m : Mark) → IsHighest dag (count_of dag) v tip → IsMark (IsOnTip dag tip) v (units_in s journal) m → lane_summary dag tip m ≡ summary_of s journal v
  told_is tip mark.Unseen high none = unseen_told none
  told_is (Some tip) mark.Whole high whole = whole_told tip high whole
  told_is None mark.Whole high whole = absurd (whole.1 whole.0.unit whole.0.among whole.0.creator_is)
  told_is (Some tip) mark.Broken high other = broken_told (Some tip) high other
  told_is None mark.Broken high other = broken_told None high other

-- ---- all validators

map_same : {A : Type 0} (f g : ℕ → A) (xs : List ℕ) → ((v : ℕ) → Among v xs → f v ≡ g v) → map f xs ≡ map g xs
map_same f g [] same = refl
map_same f g (x ∷ xs) same = ap (λ y. y ∷ map f xs) (same x (inl refl)) ∙ ap (λ ys. g x ∷ ys) (map_same f g xs (λ v m. same v (inr m)))

pub summaries_are : (s : Setting) (journal : List Vertex) (dag : UnitGraph) → IsGraph dag → graph dag ≡ settled s journal → NamesApart (units_in s journal) → dag.validators ≡ length s.config.weights
    → (tips : List (Option UnitNo)) (marks : List Mark) → AreHighest dag (count_of dag) tips → AreMarks dag tips (units_in s journal) marks
    → map (λ v. lane_summary dag (tip_at tips v) (mark_at marks v)) (range_with_len 0 dag.validators) ≡ summaries s journal
summaries_are s journal dag g same apart size tips marks high are =
    map_same (λ v. lane_summary dag (tip_at tips v) (mark_at marks v)) (summary_of s journal) (range_with_len 0 dag.validators)
    (λ v m. let lt = (range_below 0 dag.validators v m).1 in told_is s journal dag g same apart v (tip_at tips v) (mark_at marks v) (high.each v (omega arith)) (are.each v (omega arith)))
    ∙ ap (λ n. map (summary_of s journal) (range_with_len 0 n)) size
