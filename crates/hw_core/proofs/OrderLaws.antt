-- Laws of what parked units miss, in the order of parking.
use Rattle.std.proofs.Common.{◌≡◌, ◌⊎◌, inl, inr, ℕ, zero, suc, Bool, true, false, List, [], ◌∷◌, ◌++◌, length, Option, Some, None, refl, sym, ap, subst, ◌∙◌, arith, eqb-true}
use Rattle.std.specs.Prelude.{◌==◌, slice_get, is_none, if◌then◌else◌}
use Rattle.std.specs.List.{cons_option, flat_map}
use Rattle.std.specs.Map.{lookup}
use Rattle.hw_types.specs.declared.answers.LastQuestion.{LastQuestion}
use Rattle.hw_types.specs.declared.unit.Digest.{Digest}
use Rattle.hw_types.specs.declared.unit.Need.{Need}
use Rattle.hw_types.specs.declared.unit.SignedUnit.{SignedUnit}
use Rattle.hw_types.specs.declared.unit.Vertex.{Vertex}
use Rattle.hw_types.specs.declared.unit.Vertex.TheVariants as vertex
use Rattle.hw_types.specs.Graph.{Node, digest_eq}
use Rattle.hw_types.specs.Below.{Among}
use Rattle.hw_types.specs.Rules.{local_rule}
use Rattle.hw_types.specs.Settled.{Received, distinct, missing_of, settled_of}
use Rattle.hw_types.specs.Journal.{Setting, named, received_of}
use Rattle.hw_types.specs.Real.{setting_of}
use Rattle.hw_types.specs.laws.StateLaws.{units_in}
use Rattle.hw_types.proofs.WordsLaws.{either}
use Rattle.hw_types.proofs.JournalLaws.{received_rising}
use Rattle.hw_types.proofs.OrderLaws.{in_known}
use Rattle.hw_types.proofs.StepLaws.{parked_has}
use Rattle.hw_dag.specs.Admission.{PreparedUnit, node_prepared}
use Rattle.hw_admit.specs.State.{NodeState}
use Rattle.hw_park.specs.Parked.{Parked, Waiting, awaited}
use Rattle.hw_core.specs.Settle.{IsOnce, waiting_nodes}
use Rattle.hw_core.specs.Keeps.{IsNode, IsTable}
use Rattle.hw_core.specs.Readers.{unmet_in}
use Rattle.hw_core.proofs.PartLaws.{part_gives}
use Rattle.hw_core.proofs.UnitBoundLaws.{missing_is}

-- ---- no unit stands twice in a journal

-- units of one name stand at one place
abbrev AreApart : Setting → List Vertex → Type 0
AreApart s journal = (n m : ℕ) (u w : SignedUnit) → slice_get journal n ≡ Some (vertex.Unit u) → slice_get journal m ≡ Some (vertex.Unit w) → s.name u.unit ≡ s.name w.unit → n ≡ m

-- a unit of the journal stands at some place
place_of_unit : (s : Setting) (journal : List Vertex) (x : Node) → Among x (units_in s journal) → (n : ℕ) × ((u : SignedUnit) × (slice_get journal n ≡ Some (vertex.Unit u)) × (s.name u.unit ≡ x.digest))
place_of_unit s [] x m = absurd m
place_of_unit s (vertex.Evidence e ∷ vs) x m = let p = place_of_unit s vs x m in (suc p.0, p.1)
place_of_unit s (vertex.Endorsement e ∷ vs) x m = let p = place_of_unit s vs x m in (suc p.0, p.1)
place_of_unit s (vertex.Unit u ∷ vs) x m = go (is_none (local_rule s.config s.instance u.unit)) refl (λ n. place_of_unit s vs x n)
  where
    later : (n : ℕ) × ((w : SignedUnit) × (slice_get vs n ≡ Some (vertex.Unit w)) × (s.name w.unit ≡ x.digest)) → (n : ℕ) × ((w : SignedUnit) × (slice_get (vertex.Unit u ∷ vs) n ≡ Some (vertex.Unit w)) × (s.name w.unit ≡ x.digest))
    later p = (suc p.0, p.1)

    among : (b : Bool) → is_none (local_rule s.config s.instance u.unit) ≡ b → Among x (units_in s (vertex.Unit u ∷ vs)) → Among x (cons_option (if b then Some (named s u.unit) else None) (units_in s vs))
    among b e n = subst (λ (c : Bool). Among x (cons_option (if c then Some (named s u.unit) else None) (units_in s vs))) e n

    go : (b : Bool) → is_none (local_rule s.config s.instance u.unit) ≡ b
        → (Among x (units_in s vs) → (n : ℕ) × ((w : SignedUnit) × (slice_get vs n ≡ Some (vertex.Unit w)) × (s.name w.unit ≡ x.digest)))
        → (n : ℕ) × ((w : SignedUnit) × (slice_get (vertex.Unit u ∷ vs) n ≡ Some (vertex.Unit w)) × (s.name w.unit ≡ x.digest))
    go true e rest = elim (among true e m) [
      | inl same ↦ (0, (u, refl, ap (λ (y : Node). y.digest) same))
      | inr n ↦ later (rest n)
    ]
    go false e rest = later (rest (among false e m))

abbrev pred_of : ℕ → ℕ
pred_of zero = 0
pred_of (suc k) = k

once_in : (s : Setting) (journal : List Vertex) → AreApart s journal → IsOnce (units_in s journal)
once_in s [] apart = tt
once_in s (vertex.Evidence e ∷ vs) apart = once_in s vs (λ n m u w a b c. ap pred_of (apart (suc n) (suc m) u w a b c))
once_in s (vertex.Endorsement e ∷ vs) apart = once_in s vs (λ n m u w a b c. ap pred_of (apart (suc n) (suc m) u w a b c))
once_in s (vertex.Unit u ∷ vs) apart = go (is_none (local_rule s.config s.instance u.unit)) refl (once_in s vs (λ n m u w a b c. ap pred_of (apart (suc n) (suc m) u w a b c)))
  where
    alone : Among (named s u.unit) (units_in s vs) → ⊥
    alone m =
        let p = place_of_unit s vs (named s u.unit) m in
        let same : 0 ≡ suc p.0 = apart 0 (suc p.0) u p.1.0 refl p.1.1 (sym p.1.2) in
        absurd cc

    go : (b : Bool) → is_none (local_rule s.config s.instance u.unit) ≡ b → IsOnce (units_in s vs) → IsOnce (units_in s (vertex.Unit u ∷ vs))
    go true e rest = rw e (alone, rest)
    go false e rest = rw e rest

-- ---- the needs of those that wait

given_by : (f : Node → List Need) (ws : List (Waiting PreparedUnit)) → ((w : Waiting PreparedUnit) → Among w ws → w.needs ≡ f (node_prepared w.item)) → flat_map (λ w. w.needs) ws ≡ flat_map f (waiting_nodes ws)
given_by f [] each = refl
given_by f (w ∷ ws) each =
    ap (λ (ns : List Need). ns ++ flat_map (λ (v : Waiting PreparedUnit). v.needs) ws) (each w (inl refl))
    ∙ ap (λ (ns : List Need). f (node_prepared w.item) ++ ns) (given_by f ws (λ v m. each v (inr m)))

no_needs : (ns : List Need) → (length ns == 0) ≡ true → ns ≡ []
no_needs [] e = refl
no_needs (n ∷ ns) e = absurd (let z = eqb-true (length (n ∷ ns)) 0 e in omega arith)

module _ (journal : List Vertex) (park : Parked PreparedUnit) (state : NodeState) (node : IsNode journal park state) (names : List (Digest × ℕ)) (table : IsTable (setting_of state.config) journal names) where
  abbrev s : Setting
  s = setting_of state.config

  abbrev k : Received
  k = received_of s journal

  abbrev missed : Node → List Need
  missed x = missing_of state.config k (settled_of state.config k) x

  apart : AreApart s journal
  apart n m u w a b same =
      let first = table.placed n u a in
      let second = table.placed m w b in
      let both : Some n ≡ Some m = sym first ∙ ap (λ (d : Digest). lookup (digest_eq d) names) same ∙ second in
      cc

  waits_or_whole : (x : Node) → Among x (units_in s journal) → Among x (waiting_nodes park.waiting) ⊎ (missed x ≡ [])
  waits_or_whole x m = elim (either (length (missed x) == 0)) [
    | inl whole ↦ inr (no_needs (missed x) whole)
    | inr misses ↦ inl (node.is_of.parked.back x (parked_has state.config k (received_rising s journal) x (in_known s journal node.apart x m) misses))
  ]

  -- what those that wait need is what the units of the journal miss, in its order
  pub awaited_is : (asked : Option LastQuestion) → awaited park.waiting ≡ unmet_in (record { config = state.config; journal = journal; asked = asked })
  unfolding unmet_in
  awaited_is asked = ap distinct (given_by missed park.waiting (λ w m. (node.is_of.can.are.each w m).needs_are ∙ missing_is journal park state node (node_prepared w.item))
      ∙ part_gives missed (waiting_nodes park.waiting) (units_in s journal) node.is_of.order (once_in s journal apart) waits_or_whole)
