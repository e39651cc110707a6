-- A journal's decisions are one list.
use Rattle.std.proofs.Common.{◌≡◌, ℕ, suc, ◌⊎◌, inl, inr, true, List, [], ◌∷◌, length, take, drop, All, refl, sym, ap, subst, ◌∙◌, arith, le_antisymm, take-append-drop}
use Rattle.std.specs.Prelude.{sum}
use Rattle.std.specs.List.{AllAdjacentBelow}
use Rattle.hw_types.specs.declared.unit.Vertex.{Vertex}
use Rattle.hw_types.specs.declared.unit.Digest.{Digest}
use Rattle.hw_types.specs.declared.answers.Decision.{Decision}
use Rattle.hw_types.specs.Graph.{Node, digest_eq}
use Rattle.hw_types.specs.Below.{Among}
use Rattle.hw_types.specs.Quorum.{IsQuorum}
use Rattle.hw_types.specs.Votes.{height_of}
use Rattle.hw_types.specs.Settled.{settled_of}
use Rattle.hw_types.specs.Journal.{Setting, received_of}
use Rattle.hw_types.specs.Decisions.{received_at, StoodAt, IsRecord, ComesBefore, AreDecisions}
use Rattle.hw_types.proofs.ClosureLaws.{Within}
use Rattle.hw_types.proofs.GraphLaws.{rising_one_name}
use Rattle.hw_types.proofs.SettledLaws.{digest_self}
use Rattle.hw_types.proofs.WordsLaws.{place_among, find_node_is}
use Rattle.hw_types.proofs.LawfulLaws.{settled_part}
use Rattle.hw_types.proofs.JournalLaws.{received_rising, longer_extends}
use Rattle.hw_types.proofs.OrderedLaws.{IsOrdered, ordered_of}

-- ---- ordered lists with the same members

module _ {A : Type 0} (R : A → A → Type 0) (never : (x : A) → R x x → ⊥) (trans : (x y z : A) → R x y → R y z → R x z) where
  head_same : (x y : A) (xs ys : List A) → ((z : A) → Among z xs → R x z) → ((z : A) → Among z ys → R y z) → ((y ≡ x) ⊎ Among x ys) → ((x ≡ y) ⊎ Among y xs) → x ≡ y
  head_same x y xs ys bx by (inl e) q = sym e
  head_same x y xs ys bx by (inr m) (inl e) = e
  head_same x y xs ys bx by (inr m) (inr n) = absurd (never x (trans x y x (bx y n) (by x m)))

  tail_within : (x y : A) (xs ys : List A) → x ≡ y → ((z : A) → Among z xs → R x z) → Within (x ∷ xs) (y ∷ ys) → Within xs ys
  tail_within x y xs ys same bx w z m = go (w z (inr m))
    where
      go : ((y ≡ z) ⊎ Among z ys) → Among z ys
      go (inl e) = absurd (never x (subst (λ v. R x v) (sym (same ∙ e)) (bx z m)))
      go (inr n) = n

  ordered_same : (xs ys : List A) → IsOrdered R xs → IsOrdered R ys → Within xs ys → Within ys xs → xs ≡ ys
  ordered_same [] [] r s w v = refl
  ordered_same [] (y ∷ ys) r s w v = absurd (v y (inl refl))
  ordered_same (x ∷ xs) [] r s w v = absurd (w x (inl refl))
  ordered_same (x ∷ xs) (y ∷ ys) r s w v =
      let same = head_same x y xs ys r.0 s.0 (w x (inl refl)) (v y (inl refl)) in
      let tails = ordered_same xs ys r.1 s.1 (tail_within x y xs ys same r.0 w) (tail_within y x ys xs (sym same) s.0 v) in
      λ i. same i ∷ tails i

  pub adjacent_same : (xs ys : List A) → AllAdjacentBelow R xs (length xs) → AllAdjacentBelow R ys (length ys) → Within xs ys → Within ys xs → xs ≡ ys
  adjacent_same xs ys r s = ordered_same xs ys (ordered_of R trans xs r) (ordered_of R trans ys s)

-- ---- the order of records

pub never_before : (d : Decision) → ComesBefore d d → ⊥
never_before d (inl h) = absurd (omega arith)
never_before d (inr h) = let lt = h.1 in absurd (omega arith)

pub before_trans : (d e f : Decision) → ComesBefore d e → ComesBefore e f → ComesBefore d f
before_trans d e f (inl h) (inl k) = inl (omega arith)
before_trans d e f (inl h) (inr k) = let same = k.0 in inl (omega arith)
before_trans d e f (inr h) (inl k) = let same = h.0 in inl (omega arith)
before_trans d e f (inr h) (inr k) = let a = h.1 in let b = k.1 in inr (h.0 ∙ k.0, omega arith)

-- ---- a block has one record

module _ (s : Setting) (journal : List Vertex) where
  -- what was known at a moment is known at the end
  received_later : (at : ℕ) (x : Node) → Among x (received_at s journal at).units → Among x (received_of s journal).units
  received_later at x m = subst (λ j. Among x (received_of s j).units) (take-append-drop at journal) ((longer_extends s (take at journal) (drop at journal)).units x m)

  found_known : (at : ℕ) (d : Digest) (x : Node) → Among x (settled_of s.config (received_at s journal at)) → Among x (received_of s journal).units
  found_known at d x m = received_later at x ((settled_part s.config (received_at s journal at) (received_rising s (take at journal))).part x m)

  same_block : (d e : Decision) (r : IsRecord s journal d) (q : IsRecord s journal e) → d.block ≡ e.block → r.block ≡ q.block
  same_block d e r q same =
      let f = find_node_is (settled_of s.config (received_at s journal d.at)) r.block d.block r.found in
      let g = find_node_is (settled_of s.config (received_at s journal e.at)) q.block e.block q.found in
      let name : r.block.digest ≡ q.block.digest = f.1 ∙ same ∙ sym g.1 in
      rising_one_name (received_of s journal).units (received_rising s journal) r.block q.block q.block.digest (found_known d.at d.block r.block f.0) (found_known e.at e.block q.block g.0)
      (subst (λ n. digest_eq r.block.digest n ≡ true) name (digest_self r.block.digest)) (digest_self q.block.digest)

  one_quorum : (level p q : ℕ) → IsQuorum (sum s.config.weights) s.config.ftt level p → IsQuorum (sum s.config.weights) s.config.ftt level q → p ≡ q
  one_quorum level p q a b = le_antisymm (a.least q b.enough) (b.least p a.enough)

  -- A block has one record.
  pub record_one : (d e : Decision) → IsRecord s journal d → IsRecord s journal e → d.block ≡ e.block → d ≡ e
  record_one d e r q name =
      let block = same_block d e r q name in
      let q_stood : StoodAt s journal r.block e.level e.quorum e.at = subst (λ b. StoodAt s journal b e.level e.quorum e.at) (sym block) q.stood in
      let r_stood : StoodAt s journal q.block d.level d.quorum d.at = subst (λ b. StoodAt s journal b d.level d.quorum d.at) block r.stood in
      let at : d.at ≡ e.at = le_antisymm (r.first e.at e.level e.quorum q_stood) (q.first d.at d.level d.quorum r_stood) in
      let level : d.level ≡ e.level = le_antisymm (r.least_level e.level e.quorum (subst (λ n. StoodAt s journal r.block e.level e.quorum n) (sym at) q_stood)) (q.least_level d.level d.quorum (subst (λ n. StoodAt s journal q.block d.level d.quorum n) at r_stood)) in
      let quorum : d.quorum ≡ e.quorum = one_quorum e.level d.quorum e.quorum (subst (λ n. IsQuorum (sum s.config.weights) s.config.ftt n d.quorum) level r.stood.stands.is_quorum) q.stood.stands.is_quorum in
      let height : d.height ≡ e.height = r.height ∙ ap (λ n. height_of s.config.weights (settled_of s.config (received_at s journal n)) r.block) at ∙ ap (height_of s.config.weights (settled_of s.config (received_at s journal e.at))) block ∙ sym q.height in
      λ i. record { block = name i; height = height i; level = level i; quorum = quorum i; at = at i }

  all_among : (P : Decision → Type 0) (ds : List Decision) → All P ds → (d : Decision) → Among d ds → P d
  all_among P [] h d m = absurd m
  all_among P (e ∷ es) h d (inl same) = subst P same (h 0 e (omega arith))
  all_among P (e ∷ es) h d (inr m) = all_among P es (λ k f lt. h (suc k) f (omega arith)) d m

  decided_within : (ds es : List Decision) → AreDecisions s journal ds → AreDecisions s journal es → Within ds es
  decided_within ds es a b d m =
      let r = all_among (IsRecord s journal) ds a.each d m in
      let any = b.complete r.block d.level d.quorum d.at r.stood in
      let e = any.1 in
      let n : Among e es = place_among e es any.0 any.2 any.3 in
      let q = all_among (IsRecord s journal) es b.each e n in
      let name : d.block ≡ e.block = sym (find_node_is (settled_of s.config (received_at s journal d.at)) r.block d.block r.found).1 ∙ sym any.4 in
      subst (λ f. Among f es) (sym (record_one d e r q name)) n

  -- The decisions of a journal are one list.
  pub decisions_one : (ds es : List Decision) → AreDecisions s journal ds → AreDecisions s journal es → ds ≡ es
  decisions_one ds es a b = adjacent_same ComesBefore never_before before_trans ds es a.ordered b.ordered (decided_within ds es a b) (decided_within es ds b a)
