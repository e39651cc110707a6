-- The decided blocks of a journal are one chain.
use Rattle.std.proofs.Common.{◌≡◌, ℕ, suc, ◌+◌, ◌≤◌, ◌<◌, inl, inr, List, [], ◌∷◌, length, map, Option, Some, None, refl, sym, ap, subst, ◌∙◌, arith}
use Rattle.std.specs.List.{range_with_len}
use Rattle.std.proofs.lemmas.Bool.{cases_lt}
use Rattle.hw_types.specs.declared.unit.Vertex.{Vertex}
use Rattle.hw_types.specs.declared.answers.Decision.{Decision}
use Rattle.hw_types.specs.Graph.{Node}
use Rattle.hw_types.specs.Below.{Among}
use Rattle.hw_types.specs.Votes.{unit_fork}
use Rattle.hw_types.specs.Journal.{Setting}
use Rattle.hw_types.specs.Decisions.{IsRecord, ComesBefore, AreDecisions}
use Rattle.hw_types.proofs.ClosureLaws.{Within}
use Rattle.hw_types.proofs.WordsLaws.{found_node}
use Rattle.hw_types.proofs.DecisionLaws.{record_one, never_before, before_trans}
use Rattle.hw_safety.proofs.ChainLaws.{up, up_self}
use Rattle.hw_safety.specs.Chain.{FollowFrom, IsDecidedChain}
use Rattle.hw_safety.specs.ChainLaws.{DecidedChain}
use Rattle.hw_safety.proofs.ListLaws.{no_gap}
use Rattle.hw_safety.proofs.ChainHeightLaws.{up_same, line_same}
use Rattle.hw_safety.proofs.StoodLaws.{settled_in, graph_in, Stood, tall, settled_later, ancestor_stood, stood_line, stood_block, record_stood, record_name, record_height, record_in, recorded}
use Rattle.hw_types.proofs.OrderedLaws.{IsOrdered, ordered_of, ordered_weaker}
use Rattle.hw_types.proofs.HeightLaws.{parent_height, root_height}

module _ (s : Setting) (journal : List Vertex) (ds : List Decision) (decided : AreDecisions s journal ds) where
  abbrev units : List Node
  units = settled_in s journal

  abbrev fork_at : Node → Option Node
  fork_at = unit_fork s.config.weights (settled_in s journal)

  rec : (d : Decision) → Among d ds → IsRecord s journal d
  rec = record_in s journal ds decided

  -- the later of two decided blocks is the higher
  rises : (d e : Decision) → Among d ds → Among e ds → ComesBefore d e → d.height < e.height
  rises d e m n before =
      let p = rec d m in
      let q = rec e n in
      let a : Node = p.block in
      let b : Node = q.block in
      let hd = record_height s journal d p in
      let he = record_height s journal e q in
      elim (stood_line s journal d.at e.at a b (record_stood s journal d p) (record_stood s journal e q)) [
        | inl h ↦ elim (cases_lt (tall s journal a) (tall s journal b)) [
          | inl lt ↦ omega arith
          | inr le ↦ absurd (
              let is : a ≡ b = up_same s.config.weights units (graph_in s journal) a b h le in
              let one : d ≡ e = record_one s journal d e p q (sym (record_name s journal d p) ∙ ap (λ (z : Node). z.digest) is ∙ record_name s journal e q) in
              never_before e (subst (λ z. ComesBefore z e) one before))
        ]
        | inr h ↦ (let t = ancestor_stood s journal d.at b a (record_stood s journal d p) h in
            let first = q.first d.at t.level t.quorum t.stood in
            after first before)
      ]
    where
      after : e.at ≤ d.at → ComesBefore d e → d.height < e.height
      after le (inl lt) = absurd (omega arith)
      after le (inr both) = both.1

  -- the parent of a decided block is decided, at the height below
  has_below : (d : Decision) (n : ℕ) → Among d ds → d.height ≡ suc n → 0 ≤ n → (e : Decision) × Among e ds × (e.height ≡ n)
  has_below d n m e low =
      let r = rec d m in
      go (fork_at r.block) refl
    where
      go : (o : Option Node) → fork_at (rec d m).block ≡ o → (c : Decision) × Among c ds × (c.height ≡ n)
      go None k = absurd (
          let is = record_height s journal d (rec d m) in
          let none = root_height s.config.weights units (graph_in s journal) (rec d m).block k in
          omega arith)
      go (Some p) k =
          let r = rec d m in
          let is = record_height s journal d r in
          let step = parent_height s.config.weights units (graph_in s journal) r.block p k in
          let t = ancestor_stood s journal d.at p r.block (record_stood s journal d r) (up p r.block k (up_self fork_at p)) in
          let c = recorded s journal ds decided d.at p t in
          let there = record_height s journal c.0 c.1 in
          let same_tall : tall s journal c.1.block ≡ tall s journal p = ap (tall s journal) c.3 in
          (c.0, c.2, omega arith)

  pub rising : IsOrdered (λ (d : Decision) (e : Decision). d.height < e.height) ds
  rising = ordered_weaker ComesBefore (λ (d : Decision) (e : Decision). d.height < e.height) ds rises (ordered_of ComesBefore before_trans ds decided.ordered)

  -- The heights are 0, 1, 2 and so on.
  pub heights : map (λ (d : Decision). d.height) ds ≡ range_with_len 0 (length ds)
  heights = no_gap (λ (d : Decision). d.height) 0 ds rising (λ d m. omega arith) has_below

  -- ---- parents

  -- the place is there, and one below the height
  abbrev IsPlace : ℕ → Option Node → Type 0
  IsPlace a None = a ≡ 0
  IsPlace a (Some q) = (a ≡ 1 + tall s journal q) × (m : ℕ) × Stood s journal m q

  parent_is : (d : Decision) (m : Among d ds) (place o : Option Node) → IsPlace d.height place → fork_at (rec d m).block ≡ o → o ≡ place
  parent_is d m None None h e = refl
  parent_is d m None (Some p) h e = absurd (
      let is = record_height s journal d (rec d m) in
      let step = parent_height s.config.weights units (graph_in s journal) (rec d m).block p e in
      omega arith)
  parent_is d m (Some q) None h e = absurd (
      let is = record_height s journal d (rec d m) in
      let none = root_height s.config.weights units (graph_in s journal) (rec d m).block e in
      let high = h.0 in
      omega arith)
  parent_is d m (Some q) (Some p) h e =
      let r = rec d m in
      let is = record_height s journal d r in
      let step = parent_height s.config.weights units (graph_in s journal) r.block p e in
      let high = h.0 in
      let t = ancestor_stood s journal d.at p r.block (record_stood s journal d r) (up p r.block e (up_self fork_at p)) in
      ap Some (line_same s.config.weights units (graph_in s journal) p q (stood_line s journal d.at h.1 p q t h.2) (omega arith))

  follow_from : (a : ℕ) (place : Option Node) (es : List Decision) → Within es ds → map (λ (d : Decision). d.height) es ≡ range_with_len a (length es) → IsPlace a place
      → FollowFrom s.config.weights units place es
  follow_from a place [] within e h = tt
  follow_from a place (d ∷ es) within e h =
      let m : Among d ds = within d (inl refl) in
      let r = rec d m in
      let t = record_stood s journal d r in
      let first : d.height ≡ a = cc in
      let rest : map (λ (c : Decision). c.height) es ≡ range_with_len (a + 1) (length es) = cc in
      let is = record_height s journal d r in
      let next : a + 1 ≡ 1 + tall s journal r.block = omega arith in (
        r.block,
        found_node units r.block d.block (graph_in s journal).one_name (settled_later s journal d.at r.block t.inside) (record_name s journal d r),
        stood_block s journal d.at r.block t,
        parent_is d m place (fork_at r.block) (subst (λ n. IsPlace n place) (sym first) h) refl,
        follow_from (a + 1) (Some r.block) es (λ c k. within c (inr k)) rest (next, d.at, t),
      )

  pub decided_chain : IsDecidedChain s journal ds
  decided_chain = record { heights = heights; follow = follow_from 0 None ds (λ d m. m) heights refl }

pub chain : DecidedChain
chain s journal ds decided = decided_chain s journal ds decided
