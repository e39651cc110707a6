-- Along a lane what is below grows, so the units of a lane that see a quorum are its last ones.
use Rattle.hw_types.proofs.LaneLaws.{followed_seq}
use Rattle.hw_types.specs.Journal.{received_of}
use Rattle.hw_types.specs.Settled.{settled_of, is_faulty}
use Rattle.std.proofs.Common.{◌≡◌, ℕ, zero, suc, ◌⊎◌, ◌+◌, ◌≤◌, ◌<◌, inl, inr, true, List, [], ◌∷◌, refl, sym, subst, arith}
use Rattle.std.specs.Prelude.{◌&&◌, nat_le, ◌==◌}
use Rattle.std.specs.List.{list_any}
use Rattle.std.proofs.lemmas.Bool.{leb-true, le-leb}
use Rattle.hw_types.specs.declared.unit.Digest.{Digest}
use Rattle.hw_types.specs.declared.unit.Obs.{Obs}
use Rattle.hw_types.specs.declared.unit.Obs.TheVariants.{Absent, Correct, Faulty}
use Rattle.hw_types.specs.Graph.{Node, digest_eq, node_eq, observes, slot, cites, unit_cites, past, follows, lane_of}
use Rattle.hw_types.specs.Below.{Among}
use Rattle.hw_safety.specs.Pruned.{least_from, Starts, start_in, or_zero, is_in, seen_in}
use Rattle.hw_types.proofs.ClosureLaws.{Within}
use Rattle.hw_types.proofs.PastLaws.{any_of, any_within, reach_first, reach_further, reach_keeps, reach_within}
use Rattle.hw_types.proofs.StableLaws.{OneName, and_parts, and_whole}
use Rattle.hw_types.proofs.SettledLaws.{digest_same, digest_self}
use Rattle.hw_types.proofs.SummitLaws.{weight_le}
use Rattle.hw_safety.proofs.PrunedLaws.{from_least}
use Rattle.hw_types.proofs.GraphLaws.{rising_one_name}
use Rattle.hw_safety.specs.SummitLaws.{QuorumIsASuffix, SettledQuorumIsASuffix}
use Rattle.hw_safety.proofs.AccountLaws.{lawful_journal}

-- what a slot names, the panorama cites
slot_cited : (os : List Obs) (v : ℕ) (d : Digest) → observes (slot os v) d ≡ true → list_any (λ o. observes o d) os ≡ true
slot_cited [] v d h = absurd cc
slot_cited (o ∷ os) zero d h = any_of (λ p. observes p d) o (o ∷ os) (inl refl) h
slot_cited (o ∷ os) (suc v) d h = any_within (λ p. observes p d) os (o ∷ os) (λ p m. inr m) (slot_cited os v d h)

pub follows_cites : (y x : Node) → follows y x ≡ true → unit_cites y x ≡ true
follows_cites y x h = slot_cited y.unit.panorama y.unit.creator x.digest h

module _ (units : List Node) (one_name : OneName units) where
  -- units of one name are one
  same_unit : (x y : Node) → Among x units → Among y units → node_eq x y ≡ true → x ≡ y
  same_unit x y m n h = one_name x y y.digest m n h (digest_self y.digest)

  past_below : (panorama : List Obs) (y : Node) → Among y (past units panorama) → Within (past units y.unit.panorama) (past units panorama)
  past_below panorama y m = reach_keeps unit_cites (cites y.unit.panorama) units (λ x. Among x (past units panorama))
      (λ x k c. reach_further unit_cites (cites panorama) units x y m k c)
      (λ x z h k c. reach_further unit_cites (cites panorama) units x z h k c)

  lane_within : (u x : Node) → Among x (lane_of units u) → Among x units
  lane_within u = reach_within follows (λ x. node_eq x u) units

  -- what a unit of a lane has below it, each later unit of the lane has too
  pub lane_past : (y : Node) → Among y units → (x : Node) → Among x (lane_of units y) → Within (past units x.unit.panorama) (past units y.unit.panorama)
  lane_past y n = reach_keeps follows (λ x. node_eq x y) units (λ x. Within (past units x.unit.panorama) (past units y.unit.panorama))
      (λ x m c. subst (λ (z : Node). Within (past units z.unit.panorama) (past units y.unit.panorama)) (sym (same_unit x y m n c)) (λ z h. h))
      (λ x z w m c. λ v h. w v (past_below z.unit.panorama x (reach_first unit_cites (cites z.unit.panorama) units x m (follows_cites z x c)) v h))

  seen_grows : (weights : List ℕ) (some more : List Node) (lower : Starts) (present : List ℕ) → Within some more → seen_in weights some lower present ≤ seen_in weights more lower present
  unfolding seen_in
  seen_grows weights some more lower present w =
      let test = λ (v : ℕ) (y : Node). (y.unit.creator == v) && nat_le (or_zero (start_in lower v)) y.unit.seq in
      weight_le weights (λ v. is_in present v && list_any (test v) some) (λ v. is_in present v && list_any (test v) more)
      (λ v h. let parts = and_parts (is_in present v) (list_any (test v) some) h in
      and_whole (is_in present v) (list_any (test v) more) parts.0 (any_within (test v) some more w parts.1))

  -- a quorum that a unit sees, each later unit of its lane sees
  pub quorum_stays : (weights : List ℕ) (lower : Starts) (present : List ℕ) (quorum : ℕ) (y : Node) → Among y units → (x : Node) → Among x (lane_of units y)
      → nat_le quorum (seen_in weights (past units x.unit.panorama) lower present) ≡ true → nat_le quorum (seen_in weights (past units y.unit.panorama) lower present) ≡ true
  quorum_stays weights lower present quorum y n x m h =
      let low : quorum ≤ seen_in weights (past units x.unit.panorama) lower present = leb-true _ _ h in
      let grows = seen_grows weights (past units x.unit.panorama) (past units y.unit.panorama) lower present (lane_past y n x m) in
      le-leb _ _ (omega arith)

  -- ---- numbers along a lane

  -- x is on the lane of y: it is y, or on the lane of a unit that y follows
  abbrev IsFurther : Node → Node → Type 0
  IsFurther y x = (x ≡ y) ⊎ ((w : Node) × Among w units × (follows y w ≡ true) × Among x (lane_of units w))

  lane_step : (y : Node) → Among y units → (x : Node) → Among x (lane_of units y) → Among x units × IsFurther y x
  lane_step y n = reach_keeps follows (λ x. node_eq x y) units (λ x. Among x units × IsFurther y x)
      (λ x m c. (m, inl (same_unit x y m n c)))
      (λ x z p m c. (
        m,
        elim p.1 [
          | inl same ↦ inr (x, m, subst (λ v. follows v x ≡ true) same c, reach_first follows (λ v. node_eq v x) units x m (digest_self x.digest))
          | inr w ↦ inr (w.0, w.1, w.2, reach_further follows (λ v. node_eq v w.0) units x z w.3 m c)
        ],
      ))

  -- a slot names one unit
  named_once : (o : Obs) (x y : Node) → Among x units → Among y units → observes o x.digest ≡ true → observes o y.digest ≡ true → x ≡ y
  named_once Absent x y m n h k = absurd cc
  named_once Faulty x y m n h k = absurd cc
  named_once (Correct d) x y m n h k = one_name x y d m n (turned x.digest h) (turned y.digest k)
    where
      turned : (e : Digest) → digest_eq d e ≡ true → digest_eq e d ≡ true
      turned e t = subst (λ (f : Digest). digest_eq f d ≡ true) (digest_same d e t) (digest_self d)

  module _ (numbered : (y x : Node) → Among y units → Among x units → follows y x ≡ true → y.unit.seq ≡ x.unit.seq + 1) where
    -- of two units of one lane, one is on the lane of the other
    abbrev InOrder : Node → Node → Type 0
    InOrder y x = Among x (lane_of units y) ⊎ (Among y (lane_of units x) × (y.unit.seq < x.unit.seq))

    order_step : (y z : Node) → Among y units → Among z units → follows y z ≡ true → (x : Node) → Among x units → InOrder y x → InOrder z x
    order_step y z n k c x m (inr o) = let e = numbered y z n k c in inr (reach_further follows (λ v. node_eq v x) units z y o.0 k c, omega (arith, o.1))
    order_step y z n k c x m (inl l) = elim (lane_step y n x l).1 [
      | inl same ↦ inr (
        reach_further follows (λ v. node_eq v x) units z x (reach_first follows (λ v. node_eq v x) units x m (digest_self x.digest)) k (subst (λ v. follows v z ≡ true) (sym same) c),
        (let e = numbered y z n k c in subst (λ (v : Node). z.unit.seq < v.unit.seq) (sym same) (omega arith)),
      )
      | inr w ↦ inl (subst (λ v. Among x (lane_of units v)) (named_once (slot y.unit.panorama y.unit.creator) w.0 z w.1 k w.2 c) w.3)
    ]

    pub lane_order : (u : Node) → Among u units → (y : Node) → Among y (lane_of units u) → Among y units × ((x : Node) → Among x (lane_of units u) → InOrder y x)
    lane_order u n = reach_keeps follows (λ x. node_eq x u) units (λ y. Among y units × ((x : Node) → Among x (lane_of units u) → InOrder y x))
        (λ y m c. (m, λ x l. inl (subst (λ v. Among x (lane_of units v)) (sym (same_unit y u m n c)) l)))
        (λ z y p m c. (m, λ x l. order_step y z p.0 m c x (lane_within u x l) (p.1 x l)))

    -- The units of a lane that have a quorum strictly below them are a suffix of the lane.
    pub quorum_suffix : (weights : List ℕ) (lower : Starts) (present : List ℕ) (quorum : ℕ) (u : Node) → Among u units → (x y : Node) → Among x (lane_of units u) → Among y (lane_of units u)
        → x.unit.seq ≤ y.unit.seq → nat_le quorum (seen_in weights (past units x.unit.panorama) lower present) ≡ true → nat_le quorum (seen_in weights (past units y.unit.panorama) lower present) ≡ true
    quorum_suffix weights lower present quorum u n x y l k le h =
        let o = lane_order u n y k in
        elim (o.1 x l) [
          | inl below ↦ quorum_stays weights lower present quorum y o.0 x below h
          | inr above ↦ absurd (omega (arith, above.1))
        ]

    -- So the lane goes over at the number of any unit that passes, or before: bisection finds its start.
    pub suffix_start : (weights : List ℕ) (lower : Starts) (present : List ℕ) (quorum : ℕ) (u : Node) → Among u units → (x : Node) → Among x (lane_of units u)
        → nat_le quorum (seen_in weights (past units x.unit.panorama) lower present) ≡ true
        → least_from (λ y. nat_le quorum (seen_in weights (past units y.unit.panorama) lower present)) (lane_of units u) ≤ x.unit.seq
    suffix_start weights lower present quorum u n x l h = from_least (λ y. nat_le quorum (seen_in weights (past units y.unit.panorama) lower present)) (lane_of units u) x.unit.seq
        (λ y k le. quorum_suffix weights lower present quorum u n x y l k le h)

-- So it is in each lawful graph,
pub lawful_suffix : QuorumIsASuffix
lawful_suffix weights faulty units lawful shares lower present quorum u x y m k l le h =
    leb-true _ _ (quorum_suffix units (rising_one_name units lawful.in_order) (followed_seq weights faulty units lawful) shares lower present quorum u m x y k l le (le-leb _ _ h))

-- and among what a journal settles.
pub settled_suffix : SettledQuorumIsASuffix
settled_suffix s journal = lawful_suffix s.config.weights (is_faulty (received_of s journal) (settled_of s.config (received_of s journal))) (settled_of s.config (received_of s journal)) (lawful_journal s journal)
