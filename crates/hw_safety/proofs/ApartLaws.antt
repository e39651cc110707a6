-- Where the decided blocks of two journals differ, the culprits weigh more than the threshold.
use Rattle.std.proofs.Common.{◌≡◌, ℕ, zero, suc, ◌+◌, ◌≤◌, ◌<◌, inl, inr, Bool, true, List, [], ◌∷◌, ◌++◌, length, take, drop, map, Some, refl, sym, ap, subst, ◌∙◌, arith}
use Rattle.std.specs.Prelude.{◌&&◌, ◌==◌, not, slice_get, filter}
use Rattle.std.specs.List.{list_any, range_with_len}
use Rattle.std.proofs.lemmas.List.{take-append-drop}
use Rattle.hw_types.specs.declared.unit.Digest.{Digest}
use Rattle.hw_types.specs.declared.unit.Vertex.{Vertex}
use Rattle.hw_types.specs.declared.unit.Vertex.TheVariants as vertex
use Rattle.hw_types.specs.declared.answers.Decision.{Decision}
use Rattle.hw_types.specs.Graph.{Node}
use Rattle.hw_types.specs.Below.{Among}
use Rattle.hw_types.specs.Same.{unit_eq}
use Rattle.hw_types.specs.Votes.{weight_of, height_of, unit_fork, fork_over, is_ancestor_within}
use Rattle.hw_types.specs.Settled.{validators}
use Rattle.hw_types.specs.Journal.{Setting, received_of, journal_of}
use Rattle.hw_types.specs.Decisions.{IsRecord}
use Rattle.hw_types.specs.Lawful.{IsLawful, NoClash, settled_in_either, faulty_in_either}
use Rattle.hw_types.specs.Culprits.{evidence_units, shown_in, shown_in_either, equivocations_of, culprits_of}
use Rattle.hw_types.proofs.ClosureLaws.{Within, Among-filter, filter-Among}
use Rattle.hw_types.proofs.PastLaws.{some_of, any_of, any_within}
use Rattle.hw_types.proofs.StableLaws.{and_parts, and_whole}
use Rattle.hw_types.proofs.ChoiceLaws.{IsGraph}
use Rattle.hw_types.proofs.GraphLaws.{rising_one_name}
use Rattle.hw_types.proofs.RisingLaws.{past_stable}
use Rattle.hw_types.proofs.EntryLaws.{append_cases}
use Rattle.hw_types.proofs.UnionLaws.{cited_inside, from_left, from_right}
use Rattle.hw_types.proofs.JournalLaws.{longer_extends}
use Rattle.hw_safety.specs.Safety.{HasPairs, OnOneChain}
use Rattle.hw_safety.proofs.LaneLaws.{lawful_graph}
use Rattle.hw_safety.proofs.MajorityLaws.{anc_in, anc_up, same}
use Rattle.hw_safety.proofs.ChainLaws.{IsUp}
use Rattle.hw_safety.proofs.WeightLaws.{weight_within}
use Rattle.hw_safety.proofs.AccountLaws.{lawful_journal, lawful_either, left_part, right_part}
use Rattle.hw_safety.proofs.CulpritLaws.{culprits_safety}
use Rattle.hw_safety.proofs.ChainHeightLaws.{height_stays, line_same}
use Rattle.hw_safety.proofs.StoodLaws.{settled_in, stays, record_stood, record_name, record_in}
use Rattle.hw_safety.proofs.DecidedChainLaws.{heights}
use Rattle.hw_safety.specs.Verdicts.{chain_of, culprit_weight}
use Rattle.hw_safety.specs.VerdictLaws.{DifferenceIsAccountable, ConflictIsAccountable}
use Rattle.hw_safety.proofs.PairLaws.{pairs_front, delivered_pairs}
use Rattle.hw_safety.proofs.ClashLaws.{no_clash}

-- ---- the decided block of a height

-- the decision at a place has this height
pub at_place : (ds : List Decision) (n height : ℕ) (block : Digest) → map (λ (d : Decision). d.height) ds ≡ range_with_len n (length ds) → slice_get (chain_of ds) height ≡ Some block
    → (d : Decision) × Among d ds × (d.block ≡ block) × (d.height ≡ n + height)
at_place [] n height block e f = absurd cc
at_place (d ∷ ds) n zero block e f = (d, inl refl, (let is : d.block ≡ block = cc in is), (let first : d.height ≡ n = cc in omega arith))
at_place (d ∷ ds) n (suc k) block e f =
    let rest : map (λ (c : Decision). c.height) ds ≡ range_with_len (n + 1) (length ds) = cc in
    let later = at_place ds (n + 1) k block rest f in
    (later.0, inr later.1, later.2, (let is = later.3 in omega arith))

-- ---- two fronts show no more than the whole journals

module _ (s : Setting) (journal : List Vertex) (n : ℕ) where
  front_settled : Within (settled_in s (take n journal)) (settled_in s journal)
  front_settled x m = subst (λ j. Among x (settled_in s j)) (take-append-drop n journal) (stays s (take n journal) (drop n journal) x m)

  front_units : Within (received_of s (take n journal)).units (received_of s journal).units
  front_units x m = subst (λ j. Among x (received_of s j).units) (take-append-drop n journal) ((longer_extends s (take n journal) (drop n journal)).units x m)

  evidence_more : (some more : List Vertex) → Within (evidence_units s some) (evidence_units s (some ++ more))
  evidence_more [] more x m = absurd m
  evidence_more (vertex.Evidence e ∷ vs) more x (inl is) = inl is
  evidence_more (vertex.Evidence e ∷ vs) more x (inr (inl is)) = inr (inl is)
  evidence_more (vertex.Evidence e ∷ vs) more x (inr (inr m)) = inr (inr (evidence_more vs more x m))
  evidence_more (vertex.Unit u ∷ vs) more x m = evidence_more vs more x m
  evidence_more (vertex.Endorsement e ∷ vs) more x m = evidence_more vs more x m

  front_evidence : Within (evidence_units s (take n journal)) (evidence_units s journal)
  front_evidence x m = subst (λ j. Among x (evidence_units s j)) (take-append-drop n journal) (evidence_more (take n journal) (drop n journal) x m)

  pub front_shown : Within (shown_in s (take n journal)) (shown_in s journal)
  front_shown x m = elim (append_cases x (settled_in s (take n journal)) (evidence_units s (take n journal)) m) [
    | inl k ↦ from_left x (settled_in s journal) (evidence_units s journal) (front_settled x k)
    | inr k ↦ from_right x (settled_in s journal) (evidence_units s journal) (front_evidence x k)
  ]

-- who equivocates among some units does among more
more_equivocations : (xs ys : List Node) (v : ℕ) → Within xs ys → list_any (λ x. true) (equivocations_of xs v) ≡ true → list_any (λ x. true) (equivocations_of ys v) ≡ true
more_equivocations xs ys v w h =
    let other : Node → Node → Bool = λ x y. (y.unit.creator == v) && (y.unit.seq == x.unit.seq) && not (unit_eq x.unit y.unit) in
    let small : Node → Bool = λ x. (x.unit.creator == v) && list_any (other x) xs in
    let large : Node → Bool = λ x. (x.unit.creator == v) && list_any (other x) ys in
    let x = some_of (λ x. true) (equivocations_of xs v) h in
    let p = Among-filter small x.0 xs x.1 in
    let q = and_parts (x.0.unit.creator == v) (list_any (other x.0) xs) p.1 in
    any_of (λ x. true) x.0 (equivocations_of ys v)
    (filter-Among large x.0 ys (w x.0 p.0) (and_whole (x.0.unit.creator == v) (list_any (other x.0) ys) q.0 (any_within (other x.0) xs ys w q.1))) refl

module _ (s : Setting) (left right : List Vertex) (m n : ℕ) where
  front_either : Within (shown_in_either s (take m left) (take n right)) (shown_in_either s left right)
  front_either x k = elim (append_cases x (shown_in s (take m left)) (shown_in s (take n right)) k) [
    | inl l ↦ from_left x (shown_in s left) (shown_in s right) (front_shown s left m x l)
    | inr r ↦ from_right x (shown_in s left) (shown_in s right) (front_shown s right n x r)
  ]

  front_culprit : (v : ℕ) → list_any (λ w. w == v) (culprits_of s (take m left) (take n right)) ≡ true → list_any (λ w. w == v) (culprits_of s left right) ≡ true
  unfolding culprits_of
  front_culprit v h =
      let small : ℕ → Bool = λ v. list_any (λ x. true) (equivocations_of (shown_in_either s (take m left) (take n right)) v) in
      let large : ℕ → Bool = λ v. list_any (λ x. true) (equivocations_of (shown_in_either s left right) v) in
      let w = some_of (λ w. w == v) (filter small (validators s.config)) h in
      let p = Among-filter small w.0 (validators s.config) w.1 in
      any_of (λ w. w == v) w.0 (filter large (validators s.config))
      (filter-Among large w.0 (validators s.config) p.0 (more_equivocations (shown_in_either s (take m left) (take n right)) (shown_in_either s left right) w.0 front_either p.1)) w.2

  -- so the culprits of the fronts weigh no more
  pub front_weighs : weight_of s.config.weights (λ v. list_any (λ w. w == v) (culprits_of s (take m left) (take n right))) ≤ culprit_weight s left right
  unfolding culprit_weight
  front_weighs = weight_within s.config.weights (λ v. list_any (λ w. w == v) (culprits_of s (take m left) (take n right))) (λ v. list_any (λ w. w == v) (culprits_of s left right)) (λ v lt h. front_culprit v h)

-- ---- heights in the union

module _ (weights : List ℕ) (part_faulty faulty : ℕ → Bool) (part units : List Node) (lawful_part : IsLawful weights part_faulty part) (lawful : IsLawful weights faulty units) (within : Within part units) where
  parent_same : (x : Node) → Among x part → unit_fork weights units x ≡ unit_fork weights part x
  parent_same x m = ap (λ below. fork_over weights below x.unit.panorama)
      (past_stable part units lawful_part.in_order lawful.in_order within
      (λ y z h k c. cited_inside weights part_faulty part lawful_part units within (rising_one_name units lawful.in_order) z h y k c)
      x.unit.panorama (λ y k c. cited_inside weights part_faulty part lawful_part units within (rising_one_name units lawful.in_order) x m y k c))

  pub height_in_union : (x : Node) → Among x part → height_of weights units x ≡ height_of weights part x
  height_in_union = height_stays weights part units (lawful_graph weights part_faulty part lawful_part) (lawful_graph weights faulty units lawful) parent_same

-- a test of an ancestor, as a chain of parents
ancestor_up : (weights : List ℕ) (units : List Node) → IsGraph units → (x y : Node) → Among x units → Among y units → is_ancestor_within (length units) (unit_fork weights units) x y ≡ true → IsUp (unit_fork weights units) x y
ancestor_up weights units graph x y k l t =
    let u = anc_up weights units graph (length units) x y t in
    subst (λ z. IsUp (unit_fork weights units) z y) (sym (same weights units graph x u.0 k (anc_in weights units graph u.0 y l u.2).0 u.1)) u.2

-- two different blocks of one height are on no one chain
apart_at : (weights : List ℕ) (units : List Node) → IsGraph units → (a b : Node) → Among a units → Among b units → height_of weights units a ≡ height_of weights units b → (a ≡ b → ⊥) → OnOneChain weights units a b → ⊥
apart_at weights units graph a b m n tall differ (inl h) = differ (line_same weights units graph a b (inl (ancestor_up weights units graph a b m n h)) tall)
apart_at weights units graph a b m n tall differ (inr h) = differ (line_same weights units graph a b (inr (ancestor_up weights units graph b a n m h)) tall)

-- ---- accountability

-- two different blocks that were decided at one height
module _ (s : Setting) (left right : List Vertex) (left_pairs : HasPairs s left) (right_pairs : HasPairs s right) (apart : NoClash (received_of s left).units (received_of s right).units)
    (d e : Decision) (p : IsRecord s left d) (q : IsRecord s right e) (one_height : d.height ≡ e.height) (differ : d.block ≡ e.block → ⊥) where
  abbrev l : List Vertex
  l = take d.at left

  abbrev r : List Vertex
  r = take e.at right

  fronts_apart : NoClash (received_of s l).units (received_of s r).units
  fronts_apart x y m n same_name = apart x y (front_units s left d.at x m) (front_units s right e.at y n) same_name

  abbrev units : List Node
  units = settled_in_either s.config (received_of s l) (received_of s r)

  lawful : IsLawful s.config.weights (faulty_in_either s.config (received_of s l) (received_of s r)) units
  lawful = lawful_either s l r fronts_apart

  a_in : Among p.block units
  a_in = left_part s l r fronts_apart p.block (record_stood s left d p).inside

  b_in : Among q.block units
  b_in = right_part s l r fronts_apart q.block (record_stood s right e q).inside

  tall : height_of s.config.weights units p.block ≡ height_of s.config.weights units q.block
  tall =
      height_in_union s.config.weights _ _ (settled_in s l) units (lawful_journal s l) lawful (left_part s l r fronts_apart) p.block (record_stood s left d p).inside
      ∙ sym p.height ∙ one_height ∙ q.height
      ∙ sym (height_in_union s.config.weights _ _ (settled_in s r) units (lawful_journal s r) lawful (right_part s l r fronts_apart) q.block (record_stood s right e q).inside)

  two_blocks : p.block ≡ q.block → ⊥
  two_blocks is = differ (sym (record_name s left d p) ∙ ap (λ (z : Node). z.digest) is ∙ record_name s right e q)

  pub weighs_more : s.config.ftt < culprit_weight s left right
  weighs_more =
      let over = culprits_safety s l r p.block q.block d.level e.level d.quorum e.quorum (pairs_front s left d.at left_pairs) (pairs_front s right e.at right_pairs) fronts_apart p.stood.stands q.stood.stands a_in b_in
      (apart_at s.config.weights units (lawful_graph s.config.weights (faulty_in_either s.config (received_of s l) (received_of s r)) units lawful) p.block q.block a_in b_in tall two_blocks) in
      let le = front_weighs s left right d.at e.at in
      omega arith

pub difference : DifferenceIsAccountable
difference s left right dl dr height a b left_pairs right_pairs none decided_left decided_right h =
    let d = at_place dl 0 height a (heights s left dl decided_left) h.left_is in
    let e = at_place dr 0 height b (heights s right dr decided_right) h.right_is in
    weighs_more s left right left_pairs right_pairs (no_clash s left right none) d.0 e.0 (record_in s left dl decided_left d.0 d.1) (record_in s right dr decided_right e.0 e.1)
    (d.3 ∙ sym e.3) (λ is. h.differ (sym d.2 ∙ is ∙ e.2))

pub conflict : ConflictIsAccountable
conflict s left right dl dr height a b culprits weight decided_left decided_right v =
    let is = v.1.weight_is in
    let more = difference s (journal_of s left) (journal_of s right) dl dr height a b (delivered_pairs s left) (delivered_pairs s right) v.0 decided_left decided_right v.1.blocks in
    omega arith
