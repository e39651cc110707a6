-- The units that an audit reads are those of the journals.
use Rattle.std.proofs.Common.{◌≡◌, ℕ, zero, suc, ◌+◌, take, drop, arith, inl, inr, true, List, [], ◌∷◌, ◌++◌, Some, refl, sym, ap, subst, ◌∙◌}
use Rattle.std.specs.Prelude.{◌&&◌, map, slice_get}
use Rattle.std.proofs.lemmas.List.{map-append, append-nil}
use Rattle.std.proofs.Math.Seq.{drop-cons}
use Rattle.std.proofs.lemmas.Option.{slice_get_within, get_or_from_slice_get}
use Rattle.std.proofs.lemmas.Grind.{flat_map-append}
use Rattle.hw_types.specs.declared.unit.WireUnit.{WireUnit}
use Rattle.hw_types.specs.declared.unit.SignedUnit.{SignedUnit}
use Rattle.hw_types.specs.declared.unit.Evidence.{Evidence}
use Rattle.hw_types.specs.declared.unit.Vertex.{Vertex}
use Rattle.hw_types.specs.declared.unit.Vertex.TheVariants as vertex
use Rattle.hw_types.specs.declared.config.Config.{Config}
use Rattle.hw_types.specs.Graph.{Node, digest_eq}
use Rattle.hw_types.specs.Below.{Among}
use Rattle.hw_types.specs.Same.{unit_eq}
use Rattle.hw_types.specs.Spelling.{digest_of}
use Rattle.hw_types.specs.Settled.{settled_of}
use Rattle.hw_types.specs.Journal.{named, unit_of_vertex, received_of}
use Rattle.hw_types.specs.Real.{setting_of}
use Rattle.hw_types.specs.Culprits.{signed_in, evidence_units, shown_in, shown_in_either}
use Rattle.hw_types.proofs.PastLaws.{some_of, any_of}
use Rattle.hw_types.proofs.StableLaws.{and_parts, and_whole}
use Rattle.hw_types.proofs.SettledLaws.{digest_same, digest_self}
use Rattle.hw_types.proofs.EntryLaws.{append_cases, mapped_among}
use Rattle.hw_types.proofs.UnionLaws.{from_left, from_right}
use Rattle.hw_types.proofs.OrderLaws.{unit_same, unit_vertex, received_in, unit_self}
use Rattle.hw_safety.proofs.AccountLaws.{in_journal}
use Rattle.hw_safety.specs.Verdicts.{held_in}
use Rattle.hw_safety.proofs.FrontLaws.{front_more}
use Rattle.hw_safety.proofs.ClashLaws.{among_held, held_among}
use Rattle.hw_audit.specs.Held.{HeldUnit, node_held, is_settled, held_as, held_by, held_units}
use Rattle.hw_audit.specs.Twins.{AreShown}
use Rattle.hw_audit.specs.Read.{units_of}

-- ---- lists of lists

flat_among : (settled : List Node) (h : HeldUnit) (journal : List Vertex) → Among h (held_units settled journal) → (v : Vertex) × Among v journal × Among h (held_by settled v)
flat_among settled h [] m = absurd m
flat_among settled h (v ∷ journal) m = elim (append_cases h (held_by settled v) (held_units settled journal) m) [
  | inl k ↦ (v, inl refl, k)
  | inr k ↦ let rest = flat_among settled h journal k in (rest.0, inr rest.1, rest.2)
]

among_flat : (settled : List Node) (h : HeldUnit) (v : Vertex) (journal : List Vertex) → Among v journal → Among h (held_by settled v) → Among h (held_units settled journal)
among_flat settled h v [] m k = absurd m
among_flat settled h v (w ∷ journal) (inl e) k = from_left h (held_by settled w) (held_units settled journal) (subst (λ (z : Vertex). Among h (held_by settled z)) (sym e) k)
among_flat settled h v (w ∷ journal) (inr m) k = from_right h (held_by settled w) (held_units settled journal) (among_flat settled h v journal m k)

-- ---- signed units

by_signed : (settled : List Node) (h : HeldUnit) (v : Vertex) → Among h (held_by settled v) → Among h.signed (signed_in v) × (h.name ≡ digest_of h.signed.unit)
by_signed settled h (vertex.Unit u) (inl e) = (inl (ap (λ (g : HeldUnit). g.signed) e), subst (λ (g : HeldUnit). g.name ≡ digest_of g.signed.unit) e refl)
by_signed settled h (vertex.Unit u) (inr never) = absurd never
by_signed settled h (vertex.Evidence p) (inl e) = (inl (ap (λ (g : HeldUnit). g.signed) e), subst (λ (g : HeldUnit). g.name ≡ digest_of g.signed.unit) e refl)
by_signed settled h (vertex.Evidence p) (inr (inl e)) = (inr (inl (ap (λ (g : HeldUnit). g.signed) e)), subst (λ (g : HeldUnit). g.name ≡ digest_of g.signed.unit) e refl)
by_signed settled h (vertex.Evidence p) (inr (inr never)) = absurd never
by_signed settled h (vertex.Endorsement n) m = absurd m

signed_by : (settled : List Node) (u : SignedUnit) (v : Vertex) → Among u (signed_in v) → (h : HeldUnit) × Among h (held_by settled v) × (h.signed ≡ u)
signed_by settled u (vertex.Unit w) (inl e) = (held_as (is_settled settled w.unit) w, inl refl, e)
signed_by settled u (vertex.Unit w) (inr never) = absurd never
signed_by settled u (vertex.Evidence p) (inl e) = (held_as true p.left, inl refl, e)
signed_by settled u (vertex.Evidence p) (inr (inl e)) = (held_as true p.right, inr (inl refl), e)
signed_by settled u (vertex.Evidence p) (inr (inr never)) = absurd never
signed_by settled u (vertex.Endorsement n) m = absurd m

-- each unit that is read stands in the journal under its name,
pub held_signed : (settled : List Node) (h : HeldUnit) (journal : List Vertex) → Among h (held_units settled journal) → Among h.signed (held_in journal) × (h.name ≡ digest_of h.signed.unit)
held_signed settled h journal m =
    let v = flat_among settled h journal m in
    let s = by_signed settled h v.0 v.2 in
    (among_held h.signed v.0 journal v.1 s.0, s.1)

-- and each unit that stands in it is read
pub signed_held : (settled : List Node) (u : SignedUnit) (journal : List Vertex) → Among u (held_in journal) → (h : HeldUnit) × Among h (held_units settled journal) × (h.signed ≡ u)
signed_held settled u journal m =
    let v = held_among u journal m in
    let h = signed_by settled u v.0 v.2 in
    (h.0, among_flat settled h.0 v.0 journal v.1 h.1, h.2)

-- what comes from a place on begins with what stands there
pub rest_more : {A : Type 0} (xs : List A) (n : ℕ) (x : A) → Some x ≡ slice_get xs n → drop n xs ≡ x ∷ drop (n + 1) xs
rest_more xs n x e =
    drop-cons xs n x (slice_get_within xs n x (sym e))
    ∙ (λ i. get_or_from_slice_get xs n x x (sym e) i ∷ drop (suc n) xs)
    ∙ (let next : suc n ≡ n + 1 = omega arith in ap (λ k. x ∷ drop k xs) next)

-- in the same order
pub signed_units : (settled : List Node) (journal : List Vertex) → map (λ (h : HeldUnit). h.signed) (held_units settled journal) ≡ held_in journal
signed_units settled [] = refl
signed_units settled (v ∷ journal) =
    map-append (λ (h : HeldUnit). h.signed) (held_by settled v) (held_units settled journal) ∙ ap (λ (us : List SignedUnit). map (λ (h : HeldUnit). h.signed) (held_by settled v) ++ us) (signed_units settled journal)
    ∙ ap (λ (us : List SignedUnit). us ++ held_in journal) (of_one v)
  where
    of_one : (v : Vertex) → map (λ (h : HeldUnit). h.signed) (held_by settled v) ≡ signed_in v
    of_one (vertex.Unit u) = refl
    of_one (vertex.Evidence e) = refl
    of_one (vertex.Endorsement n) = refl

-- ---- units that are shown

-- the test of a settled unit
settled_one : (settled : List Node) (u : WireUnit) → is_settled settled u ≡ true → Among (record { digest = digest_of u; unit = u }) settled
unfolding is_settled
settled_one settled u h =
    let x = some_of (λ (x : Node). digest_eq x.digest (digest_of u) && unit_eq x.unit u) settled h in
    let p = and_parts (digest_eq x.0.digest (digest_of u)) (unit_eq x.0.unit u) x.2 in
    let name = digest_same x.0.digest (digest_of u) p.0 in
    let unit = unit_same x.0.unit u p.1 in
    let is : x.0 ≡ record { digest = digest_of u; unit = u } = λ i. record { digest = name i; unit = unit i } in
    subst (λ (y : Node). Among y settled) is x.1

one_settled : (settled : List Node) (u : WireUnit) → Among (record { digest = digest_of u; unit = u }) settled → is_settled settled u ≡ true
unfolding is_settled
one_settled settled u m =
    any_of (λ (x : Node). digest_eq x.digest (digest_of u) && unit_eq x.unit u) (record { digest = digest_of u; unit = u }) settled m
    (and_whole (digest_eq (digest_of u) (digest_of u)) (unit_eq u u) (digest_self (digest_of u)) (unit_self u))

module _ (config : Config) (journal : List Vertex) where
  abbrev settled : List Node
  settled = settled_of config (received_of (setting_of config) journal)

  evidence_in : (js : List Vertex) (e : Evidence) → Among (vertex.Evidence e) js → Among (named (setting_of config) e.left.unit) (evidence_units (setting_of config) js) × Among (named (setting_of config) e.right.unit) (evidence_units (setting_of config) js)
  evidence_in [] e m = absurd m
  evidence_in (vertex.Evidence f ∷ js) e (inl is) =
      let same : f ≡ e = cc in
      (inl (ap (λ (g : Evidence). named (setting_of config) g.left.unit) same), inr (inl (ap (λ (g : Evidence). named (setting_of config) g.right.unit) same)))
  evidence_in (vertex.Evidence f ∷ js) e (inr m) = let rest = evidence_in js e m in (inr (inr rest.0), inr (inr rest.1))
  evidence_in (vertex.Unit u ∷ js) e (inl is) = absurd cc
  evidence_in (vertex.Unit u ∷ js) e (inr m) = evidence_in js e m
  evidence_in (vertex.Endorsement n ∷ js) e (inl is) = absurd cc
  evidence_in (vertex.Endorsement n ∷ js) e (inr m) = evidence_in js e m

  evidence_back : (js : List Vertex) (x : Node) → Among x (evidence_units (setting_of config) js) → (h : HeldUnit) × Among h (held_units settled js) × (h.is_shown ≡ true) × (node_held h ≡ x)
  evidence_back [] x m = absurd m
  evidence_back (vertex.Evidence e ∷ js) x (inl is) = (held_as true e.left, inl refl, refl, is)
  evidence_back (vertex.Evidence e ∷ js) x (inr (inl is)) = (held_as true e.right, inr (inl refl), refl, is)
  evidence_back (vertex.Evidence e ∷ js) x (inr (inr m)) = let rest = evidence_back js x m in (rest.0, inr (inr rest.1), rest.2, rest.3)
  evidence_back (vertex.Unit u ∷ js) x m = let rest = evidence_back js x m in (rest.0, inr rest.1, rest.2, rest.3)
  evidence_back (vertex.Endorsement n ∷ js) x m = evidence_back js x m

  shown_by : (h : HeldUnit) (v : Vertex) → Among v journal → Among h (held_by settled v) → h.is_shown ≡ true → Among (node_held h) (shown_in (setting_of config) journal)
  shown_by h (vertex.Unit u) m (inl e) shown =
      from_left (node_held h) settled (evidence_units (setting_of config) journal)
      (subst (λ (g : HeldUnit). Among (node_held g) settled) e (settled_one settled u.unit (ap (λ (g : HeldUnit). g.is_shown) e ∙ shown)))
  shown_by h (vertex.Unit u) m (inr never) shown = absurd never
  shown_by h (vertex.Evidence e) m (inl is) shown =
      from_right (node_held h) settled (evidence_units (setting_of config) journal)
      (subst (λ (g : HeldUnit). Among (node_held g) (evidence_units (setting_of config) journal)) is (evidence_in journal e m).0)
  shown_by h (vertex.Evidence e) m (inr (inl is)) shown =
      from_right (node_held h) settled (evidence_units (setting_of config) journal)
      (subst (λ (g : HeldUnit). Among (node_held g) (evidence_units (setting_of config) journal)) is (evidence_in journal e m).1)
  shown_by h (vertex.Evidence e) m (inr (inr never)) shown = absurd never
  shown_by h (vertex.Endorsement n) m k shown = absurd k

  shown_each : (h : HeldUnit) → Among h (units_of config journal) → h.is_shown ≡ true → Among (node_held h) (shown_in (setting_of config) journal)
  shown_each h m shown = let v = flat_among settled h journal m in shown_by h v.0 v.1 v.2 shown

  shown_back : (x : Node) → Among x (shown_in (setting_of config) journal) → (h : HeldUnit) × Among h (units_of config journal) × (h.is_shown ≡ true) × (node_held h ≡ x)
  shown_back x m = elim (append_cases x settled (evidence_units (setting_of config) journal) m) [
    | inl k ↦ (
        let v = mapped_among (unit_of_vertex (setting_of config)) x journal (received_in (setting_of config) journal x (in_journal (setting_of config) journal x k)) in
        let u = unit_vertex (setting_of config) v.0 x v.2 in
        let h : HeldUnit = held_as (is_settled settled u.0.unit) u.0 in
        let here : Among h (held_by settled v.0) = subst (λ (w : Vertex). Among h (held_by settled w)) (sym u.1) (inl refl) in
        (h, among_flat settled h v.0 journal v.1 here, one_settled settled u.0.unit (subst (λ (y : Node). Among y settled) u.2 k), sym u.2)
        )
    | inr k ↦ evidence_back journal x k
  ]

module _ (config : Config) (left right : List Vertex) where
  -- the units that are shown are those that one of the journals shows
  pub both_shown : AreShown (units_of config left ++ units_of config right) (shown_in_either (setting_of config) left right)
  both_shown = record {
    each = λ h m shown. elim (append_cases h (units_of config left) (units_of config right) m) [
      | inl k ↦ from_left (node_held h) (shown_in (setting_of config) left) (shown_in (setting_of config) right) (shown_each config left h k shown)
      | inr k ↦ from_right (node_held h) (shown_in (setting_of config) left) (shown_in (setting_of config) right) (shown_each config right h k shown)
    ];
    back = λ x m. elim (append_cases x (shown_in (setting_of config) left) (shown_in (setting_of config) right) m) [
      | inl k ↦ (let h = shown_back config left x k in (h.0, from_left h.0 (units_of config left) (units_of config right) h.1, h.2, h.3))
      | inr k ↦ (let h = shown_back config right x k in (h.0, from_right h.0 (units_of config left) (units_of config right) h.1, h.2, h.3))
    ];
  }

  -- each unit that is read stands in one of the journals
  pub both_signed : (h : HeldUnit) → Among h (units_of config left ++ units_of config right) → Among h.signed (held_in (left ++ right))
  both_signed h m = elim (append_cases h (units_of config left) (units_of config right) m) [
    | inl k ↦ (let v = held_among h.signed left (held_signed (settled_of config (received_of (setting_of config) left)) h left k).0 in among_held h.signed v.0 (left ++ right) (from_left v.0 left right v.1) v.2)
    | inr k ↦ (let v = held_among h.signed right (held_signed (settled_of config (received_of (setting_of config) right)) h right k).0 in among_held h.signed v.0 (left ++ right) (from_right v.0 left right v.1) v.2)
  ]

-- ---- the journal, place by place

-- one vertex more
pub held_more : (settled : List Node) (journal : List Vertex) (n : ℕ) (v : Vertex) → Some v ≡ slice_get journal n → held_units settled (take (n + 1) journal) ≡ held_units settled (take n journal) ++ held_by settled v
held_more settled journal n v e = ap (λ (vs : List Vertex). held_units settled vs) (front_more journal n v e) ∙ flat_map-append (held_by settled) (take n journal) (v ∷ []) ∙ ap (λ (hs : List HeldUnit). held_units settled (take n journal) ++ hs) (append-nil (held_by settled v))
