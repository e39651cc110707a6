-- The vertices for the units under a summit come in turn.
use Rattle.std.proofs.Common.{◌≡◌, ℕ, ◌<◌, ◌≤◌, inl, inr, Bool, true, false, cond, List, [], ◌∷◌, ◌++◌, length, Option, Some, None, refl, sym, ap, subst, ◌∙◌, arith, append_assoc}
use Rattle.std.specs.Prelude.{map, filter_map, filter, ◌&&◌, ◌==◌, ◌*◌, nat_lt, sum}
use Rattle.std.specs.List.{list_any, flat_map}
use Rattle.std.proofs.lemmas.Bool.{ltb-true, lt-ltb}
use Rattle.std.proofs.lemmas.List.{append-nil}
use Rattle.std.proofs.lemmas.List.Elements.{filter_map-append}
use Rattle.hw_types.specs.declared.unit.Digest.{Digest}
use Rattle.hw_types.specs.declared.unit.Obs.{Obs}
use Rattle.hw_types.specs.declared.unit.Obs.TheVariants.{Absent, Correct, Faulty}
use Rattle.hw_types.specs.declared.unit.Need.{Need}
use Rattle.hw_types.specs.declared.unit.Need.TheVariants as need
use Rattle.hw_types.specs.declared.unit.SignedUnit.{SignedUnit}
use Rattle.hw_types.specs.declared.unit.Evidence.{Evidence}
use Rattle.hw_types.specs.declared.unit.Vertex.{Vertex}
use Rattle.hw_types.specs.declared.unit.Vertex.TheVariants as vertex
use Rattle.hw_types.specs.Graph.{Node, digest_eq, is_some_and, is_faulty_mark, slot, slots, observed, latest, cites, unit_cites, past, is_among, is_below, node_eq}
use Rattle.hw_types.specs.Below.{Among}
use Rattle.hw_types.specs.Rules.{has_digest}
use Rattle.hw_types.specs.Votes.{weight_of}
use Rattle.hw_types.specs.Settled.{Received, settles, missing_of, needs_of, unit_needs, evidence_needs, is_need_met, is_faulty, is_endorsed, validators}
use Rattle.hw_types.specs.Summit.{Committees}
use Rattle.hw_types.specs.Journal.{Setting, named, unit_of_vertex, evidence_in, endorsement_in, received_of, refusal, journal_of}
use Rattle.hw_types.specs.Real.{CoreState, setting_of, received_in, settled_in, panorama_in}
use Rattle.hw_types.specs.laws.StateLaws.{units_in}
use Rattle.hw_types.proofs.ClosureLaws.{Within, Among-filter, filter-Among}
use Rattle.hw_types.proofs.EntryLaws.{among_map, append_cases, mapped_among, among_mapped}
use Rattle.hw_types.proofs.JournalLaws.{received_rising, longer_extends, weight_of_le, in_pairs, pairs_in}
use Rattle.hw_types.proofs.LawfulLaws.{settled_admits}
use Rattle.hw_types.proofs.PastLaws.{some_of, any_of, or_cases, or_left, or_right, reach_first, reach_further, reach_within}
use Rattle.hw_types.proofs.SettledLaws.{digest_self, digest_same, distinct_has, each_met}
use Rattle.hw_types.proofs.StableLaws.{and_parts, and_whole}
use Rattle.hw_types.proofs.UnionLaws.{from_left, from_right}
use Rattle.hw_types.proofs.WordsLaws.{among_is, named_among, passes_some, slot_in, slots_in, find_node_is, range_in, range_below}
use Rattle.hw_safety.proofs.AccountLaws.{lawful_journal}
use Rattle.hw_safety.proofs.StoodLaws.{graph_in}
use Rattle.hw_agree.specs.Certificates.{HasItsNeeds, ComesNext, ComeInTurn, IsExtract}
use Rattle.hw_core.specs.Readers.{unit_in}
use Rattle.hw_needs.specs.Needs.{evidence_against, unit_vertices, evidence_vertices}
use Rattle.hw_light.specs.Extract.{is_under, ComeAfterCited, IsSettlingOrder, is_marked_by, is_listed_by, is_endorsement_of, evidence_part, endorsement_part, unit_part, vertices_for}
use Rattle.hw_light.proofs.DeliveredLaws.{taken, in_units, local_of, signed_there}
use Rattle.hw_light.proofs.EvidenceLaws.{IsGood, evidence_there, evidence_good}

-- ---- lists

in_flat : {A B : Type 0} (f : A → List B) (y : B) (xs : List A) → Among y (flat_map f xs) → (x : A) × Among x xs × Among y (f x)
in_flat f y [] m = absurd m
in_flat f y (x ∷ xs) m = elim (append_cases y (f x) (flat_map f xs) m) [
  | inl here ↦ (x, inl refl, here)
  | inr later ↦ (let r = in_flat f y xs later in (r.0, inr r.1, r.2))
]

flat_in : {A B : Type 0} (f : A → List B) (x : A) (y : B) (xs : List A) → Among x xs → Among y (f x) → Among y (flat_map f xs)
flat_in f x y [] m n = absurd m
flat_in f x y (z ∷ zs) (inl is) n = from_left y (f z) (flat_map f zs) (subst (λ w. Among y (f w)) (sym is) n)
flat_in f x y (z ∷ zs) (inr m) n = from_right y (f z) (flat_map f zs) (flat_in f x y zs m n)

in_filtered : {A B : Type 0} (h : A → Option B) (before after : List A) (y : B) → Among y (filter_map h before) → Among y (filter_map h (before ++ after))
in_filtered h before after y m = subst (λ xs. Among y xs) (sym (filter_map-append h before after)) (from_left y (filter_map h before) (filter_map h after) m)

module _ (s : Setting) (whole : List Vertex) where
  -- those that may come at any time come in turn,
  any_time : (before vs : List Vertex) → ((v : Vertex) → Among v vs → (b : List Vertex) → ComesNext s whole b v) → ComeInTurn s whole before vs
  any_time before [] next = tt
  any_time before (v ∷ vs) next = (next v (inl refl) before, any_time (before ++ v ∷ []) vs (λ w m. next w (inr m)))

  -- and others after them
  then_turn : (before xs ys : List Vertex) → ComeInTurn s whole before xs → ComeInTurn s whole (before ++ xs) ys → ComeInTurn s whole before (xs ++ ys)
  then_turn before [] ys first second = subst (λ b. ComeInTurn s whole b ys) (append-nil before) second
  then_turn before (x ∷ xs) ys first second = (first.0, then_turn (before ++ x ∷ []) xs ys first.1 (subst (λ b. ComeInTurn s whole b ys) (sym (append_assoc before (x ∷ []) xs)) second))

-- an observed unit has the name in the slot, and is one of the units
observed_name : (units : List Node) (o : Obs) (x : Node) → observed units o ≡ Some x → (d : Digest) × (o ≡ Correct d)
observed_name units Absent x e = absurd (let bad : None ≡ Some x = e in cc)
observed_name units Faulty x e = absurd (let bad : None ≡ Some x = e in cc)
observed_name units (Correct d) x e = (d, refl)

observed_in : (units : List Node) (o : Obs) (x : Node) → observed units o ≡ Some x → Among x units
observed_in units Absent x e = absurd (let bad : None ≡ Some x = e in cc)
observed_in units Faulty x e = absurd (let bad : None ≡ Some x = e in cc)
observed_in units (Correct d) x e = (find_node_is units x d e).0

latest_in : (units : List Node) (panorama : List Obs) (v : ℕ) (x : Node) → latest units panorama v ≡ Some x → Among x units
latest_in units panorama v x e = observed_in units (slot panorama v) x e

module _ (core : CoreState) (deliveries : List (Vertex × Bool)) (from : core.journal ≡ journal_of (setting_of core.config) deliveries) where
  abbrev s : Setting
  s = setting_of core.config

  abbrev large : List Node
  large = settled_in core

  -- ---- the needs of settled units are met

  admits : (x : Node) → Among x large → settles core.config (received_in core) large x ≡ true
  admits x m = (settled_admits core.config (received_in core) (received_rising s core.journal) x m).1

  each_need : (x : Node) → Among x large → (n : Need) → Among n (needs_of x) → is_need_met core.config (received_in core) large n ≡ true
  unfolding missing_of
  each_need x m n there = each_met (is_need_met core.config (received_in core) large) (needs_of x) (and_parts (length (missing_of core.config (received_in core) large x) == 0) _ (admits x m)).0 n there

  mark_met : (x : Node) (v : ℕ) → Among x large → is_faulty_mark (slot x.unit.panorama v) ≡ true → is_faulty (received_in core) large v ≡ true
  unfolding needs_of
  mark_met x v m h =
      let inside = (slot_in x.unit.panorama v (slot x.unit.panorama v) refl (λ absent. let bad : is_faulty_mark Absent ≡ true = subst (λ o. is_faulty_mark o ≡ true) absent h in cc)).1 in
      let there = among_map need.Evidence v (filter (λ v. is_faulty_mark (slot x.unit.panorama v)) (slots x.unit.panorama)) (filter-Among (λ v. is_faulty_mark (slot x.unit.panorama v)) v (slots x.unit.panorama) (slots_in x.unit.panorama v inside) h) in
      each_need x m (need.Evidence v) (distinct_has (need.Evidence v) (unit_needs x.unit.panorama ++ evidence_needs x.unit.panorama ++ map need.Endorsed x.unit.endorsed) (from_left (need.Evidence v) (unit_needs x.unit.panorama ++ evidence_needs x.unit.panorama) (map need.Endorsed x.unit.endorsed) (from_right (need.Evidence v) (unit_needs x.unit.panorama) (evidence_needs x.unit.panorama) there)))

  listed_met : (x : Node) (d : Digest) → Among x large → Among d x.unit.endorsed → is_endorsed core.config (received_in core) d ≡ true
  unfolding needs_of
  listed_met x d m h =
      each_need x m (need.Endorsed d) (distinct_has (need.Endorsed d) (unit_needs x.unit.panorama ++ evidence_needs x.unit.panorama ++ map need.Endorsed x.unit.endorsed) (from_right (need.Endorsed d) (unit_needs x.unit.panorama ++ evidence_needs x.unit.panorama) (map need.Endorsed x.unit.endorsed) (among_map need.Endorsed d x.unit.endorsed h)))

  mark_known : (x : Node) (v : ℕ) → Among x large → is_faulty_mark (slot x.unit.panorama v) ≡ true → v < length core.config.weights
  mark_known x v m h =
      let long = (lawful_journal s core.journal).length_is x m in
      let inside = (slot_in x.unit.panorama v (slot x.unit.panorama v) refl (λ absent. let bad : is_faulty_mark Absent ≡ true = subst (λ o. is_faulty_mark o ≡ true) absent h in cc)).1 in
      omega arith

  -- ---- what the units under a summit cite is under it

  module _ (c : Committees) where
    abbrev under : Node → Bool
    under = is_under large (panorama_in core) c

    -- what a unit at or below another cites is below that
    cited_below : (x y u : Node) → Among u large → Among y large → is_below large x u ≡ true → cites x.unit.panorama y ≡ true → Among x large → Among y (past large u.unit.panorama)
    cited_below x y u m n b h k = elim (or_cases (node_eq x u) (is_among (past large u.unit.panorama) x) b) [
      | inl same ↦
          (let is : x ≡ u = (graph_in s core.journal).one_name x u u.digest k m same (digest_self u.digest) in
          reach_first unit_cites (cites u.unit.panorama) large y n (subst (λ (z : Node). cites z.unit.panorama y ≡ true) is h))
      | inr lower ↦
          (let there = named_among large (past large u.unit.panorama) x (graph_in s core.journal).one_name (reach_within unit_cites (cites u.unit.panorama) large) k lower in
          reach_further unit_cites (cites u.unit.panorama) large y x there n h)
    ]

    under_cited : (x y : Node) → Among x large → Among y large → under x ≡ true → cites x.unit.panorama y ≡ true → under y ≡ true
    under_cited x y m n t h =
        let v = some_of (λ v. c.member 0 v && is_some_and (is_below large x) (latest large (panorama_in core) v)) (slots (panorama_in core)) t in
        let parts = and_parts (c.member 0 v.0) (is_some_and (is_below large x) (latest large (panorama_in core) v.0)) v.2 in
        let u = passes_some (is_below large x) (latest large (panorama_in core) v.0) parts.1 in
        let inside : Among u.0 large = latest_in large (panorama_in core) v.0 u.0 u.1 in
        let lower : is_below large y u.0 ≡ true = or_right (node_eq y u.0) (is_among (past large u.0.unit.panorama) y) (among_is y (past large u.0.unit.panorama) (cited_below x y u.0 inside n u.2 h m)) in
        any_of (λ v. c.member 0 v && is_some_and (is_below large y) (latest large (panorama_in core) v)) v.0 (slots (panorama_in core)) v.1
        (and_whole (c.member 0 v.0) (is_some_and (is_below large y) (latest large (panorama_in core) v.0)) parts.0 (ap (is_some_and (is_below large y)) u.1 ∙ lower))

    -- the latest unit of a member is under it
    under_latest : (v : ℕ) (u : Node) → c.member 0 v ≡ true → latest large (panorama_in core) v ≡ Some u → under u ≡ true
    under_latest v u member seen =
        let d = observed_name large (slot (panorama_in core) v) u seen in
        let within = (slot_in (panorama_in core) v (Correct d.0) d.1 (λ absent. let bad : Correct d.0 ≡ Absent = absent in cc)).1 in
        any_of (λ v. c.member 0 v && is_some_and (is_below large u) (latest large (panorama_in core) v)) v (slots (panorama_in core)) (slots_in (panorama_in core) v within)
        (and_whole (c.member 0 v) (is_some_and (is_below large u) (latest large (panorama_in core) v)) member
        (ap (is_some_and (is_below large u)) seen ∙ or_left (node_eq u u) (is_among (past large u.unit.panorama) u) (digest_self u.digest)))

    -- ---- the vertices for the units under it

    module _ (order : List Node) (is : IsSettlingOrder core order) where
      abbrev units : List Node
      units = filter under order

      in_large : (x : Node) → Among x units → Among x large
      in_large x m = is.same.to x (Among-filter under x order m).0

      is_unit : (x : Node) → Among x large → under x ≡ true → Among x units
      is_unit x m t = filter-Among under x order (is.same.back x m) t

      -- evidence and endorsements may come at any time

      evidence_next : (v : Vertex) → Among v (evidence_part core units) → (b : List Vertex) → ComesNext s core.journal b v
      evidence_next v m b =
          let w = in_flat (λ (w : ℕ). evidence_vertices (evidence_against core w)) v (filter (is_marked_by units) (validators core.config)) m in
          let p = Among-filter (is_marked_by units) w.0 (validators core.config) w.1 in
          let x = some_of (λ (x : Node). is_faulty_mark (slot x.unit.panorama w.0)) units p.1 in
          go w.0 (let within = range_below 0 (length core.config.weights) w.0 p.0 in omega (arith, within.1)) (mark_met x.0 w.0 (in_large x.0 x.1) x.2) (evidence_against core w.0) refl w.2
        where
          good : (w : ℕ) → is_faulty (received_in core) large w ≡ true → (e : Evidence) → IsGood core deliveries from w e → ComesNext s core.journal b (vertex.Evidence e)
          good w bad e g = (g.not_refused, subst (λ (n : ℕ). is_faulty (received_in core) large n ≡ true) (sym g.creator) bad)

          go : (w : ℕ) → w < length core.config.weights → is_faulty (received_in core) large w ≡ true → (o : Option Evidence) → evidence_against core w ≡ o → Among v (evidence_vertices o) → ComesNext s core.journal b v
          go w lt bad None e n = absurd n
          go w lt bad (Some x) e n = elim n [
            | inl same ↦ subst (λ (z : Vertex). ComesNext s core.journal b z) same (good w bad x (evidence_good core deliveries from w x lt e))
            | inr never ↦ absurd never
          ]

      endorsement_next : (v : Vertex) → Among v (endorsement_part core units) → (b : List Vertex) → ComesNext s core.journal b v
      endorsement_next v m b = let p = Among-filter (is_endorsement_of (is_listed_by units)) v core.journal m in go v (taken core deliveries from v p.0) p.1
        where
          go : (v : Vertex) → (before : List Vertex) × (refusal s before v ≡ None) → is_endorsement_of (is_listed_by units) v ≡ true → ComesNext s core.journal b v
          go (vertex.Unit u) t p = absurd (let bad : false ≡ true = p in cc)
          go (vertex.Evidence e) t p = absurd (let bad : false ≡ true = p in cc)
          go (vertex.Endorsement e) t p = t.1

      -- ---- behind them each unit finds what it needs

      pub record HasParts (b : List Vertex) : Type 0 where
        pub marks : (x : Node) (v : ℕ) → Among x large → under x ≡ true → is_faulty_mark (slot x.unit.panorama v) ≡ true → Among v (filter_map evidence_in b)
        pub endorsed : (x : Node) (d : Digest) → Among x large → under x ≡ true → Among d x.unit.endorsed → is_endorsed core.config (received_of s b) d ≡ true

      parts_more : (b more : List Vertex) → HasParts b → HasParts (b ++ more)
      parts_more b more h = record {
        marks = λ x v m t k. in_filtered evidence_in b more v (h.marks x v m t k);
        endorsed = λ x d m t k. (longer_extends s b more).endorsed d (h.endorsed x d m t k);
      }

      marks_there : (x : Node) (v : ℕ) → Among x large → under x ≡ true → is_faulty_mark (slot x.unit.panorama v) ≡ true → Among v (filter_map evidence_in (evidence_part core units))
      marks_there x v m t k =
          let lt = mark_known x v m k in
          let e = evidence_there core deliveries from v (mark_met x v m k) in
          let g = evidence_good core deliveries from v e.0 lt e.1 in
          let marked = filter-Among (is_marked_by units) v (validators core.config) (range_in 0 (length core.config.weights) v (omega arith) (omega arith)) (any_of (λ (x : Node). is_faulty_mark (slot x.unit.panorama v)) x units (is_unit x m t) k) in
          let there = flat_in (λ (w : ℕ). evidence_vertices (evidence_against core w)) v (vertex.Evidence e.0) (filter (is_marked_by units) (validators core.config)) marked
          (subst (λ (o : Option Evidence). Among (vertex.Evidence e.0) (evidence_vertices o)) (sym e.1) (inl refl)) in
          among_mapped evidence_in (vertex.Evidence e.0) v (evidence_part core units) there (ap Some g.creator)

      -- each endorsement of a listed digest is there
      pair_there : (b : List Vertex) → Within (endorsement_part core units) b → (d : Digest) → is_listed_by units d ≡ true → (p : Digest × ℕ) → p.0 ≡ d → Among p (received_in core).endorsements → Among p (received_of s b).endorsements
      unfolding received_of
      pair_there b inside d listed p is_d m =
          let w = mapped_among endorsement_in p core.journal (pairs_in (filter_map endorsement_in core.journal) p m) in
          in_pairs (filter_map endorsement_in b) p (go w.0 w.1 w.2)
        where
          go : (v : Vertex) → Among v core.journal → endorsement_in v ≡ Some p → Among p (filter_map endorsement_in b)
          go (vertex.Unit u) n e = absurd (let bad : None ≡ Some p = e in cc)
          go (vertex.Evidence u) n e = absurd (let bad : None ≡ Some p = e in cc)
          go (vertex.Endorsement x) n e =
              let same : (x.unit, x.endorser) ≡ p = cc in
              let unit : x.unit ≡ d = ap (λ (q : Digest × ℕ). q.0) same ∙ is_d in
              let passes : is_listed_by units x.unit ≡ true = subst (λ (i : Digest). is_listed_by units i ≡ true) (sym unit) listed in
              let there = inside (vertex.Endorsement x) (filter-Among (is_endorsement_of (is_listed_by units)) (vertex.Endorsement x) core.journal n passes) in
              among_mapped endorsement_in (vertex.Endorsement x) p b there e

      endorsed_there : (b : List Vertex) → Within (endorsement_part core units) b → (x : Node) (d : Digest) → Among x large → under x ≡ true → Among d x.unit.endorsed → is_endorsed core.config (received_of s b) d ≡ true
      unfolding is_endorsed
      endorsed_there b inside x d m t k =
          let listed = any_of (λ (x : Node). has_digest x.unit.endorsed d) x units (is_unit x m t) (any_of (digest_eq d) d x.unit.endorsed k (digest_self d)) in
          more (weight_of_le core.config.weights (counted (received_in core)) (counted (received_of s b)) (λ v h. still v listed h)) (listed_met x d m k)
        where
          counted : Received → ℕ → Bool
          counted r v = list_any (λ p. digest_eq p.0 d && (p.1 == v)) r.endorsements

          still : (v : ℕ) → is_listed_by units d ≡ true → counted (received_in core) v ≡ true → counted (received_of s b) v ≡ true
          still v listed h =
              let p = some_of (λ (p : Digest × ℕ). digest_eq p.0 d && (p.1 == v)) (received_in core).endorsements h in
              let name = digest_same p.0.0 d (and_parts (digest_eq p.0.0 d) (p.0.1 == v) p.2).0 in
              any_of (λ (p : Digest × ℕ). digest_eq p.0 d && (p.1 == v)) p.0 (received_of s b).endorsements (pair_there b inside d listed p.0 name p.1) p.2

          more : weight_of core.config.weights (counted (received_in core)) ≤ weight_of core.config.weights (counted (received_of s b))
              → nat_lt (sum core.config.weights) (2 * weight_of core.config.weights (counted (received_in core))) ≡ true → nat_lt (sum core.config.weights) (2 * weight_of core.config.weights (counted (received_of s b))) ≡ true
          more le h = let less = ltb-true (sum core.config.weights) (2 * weight_of core.config.weights (counted (received_in core))) h in lt-ltb (sum core.config.weights) (2 * weight_of core.config.weights (counted (received_of s b))) (omega arith)

      -- ---- the units come in turn

      unit_needs_met : (done : List Node) (b : List Vertex) (x : Node) → HasParts b → Among x large → under x ≡ true → ((y : Node) → Among y large → cites x.unit.panorama y ≡ true → Among y done)
          → ((y : Node) → Among y done → under y ≡ true → Among y (units_in s b)) → HasItsNeeds s core.journal b x
      unit_needs_met done b x parts m t cited so_far = record {
        settled = m;
        cited = λ y n h. so_far y (cited y n h) (under_cited x y m n t h);
        marks = λ v h. parts.marks x v m t h;
        endorsed = λ d h. parts.endorsed x d m t h;
      }

      units_turn : (done rest : List Node) (b : List Vertex) → HasParts b → Within rest large → ComeAfterCited large done rest
          → ((y : Node) → Among y done → under y ≡ true → Among y (units_in s b)) → ComeInTurn s core.journal b (unit_part core (filter under rest))
      units_turn done [] b parts inside after so_far = tt
      units_turn done (x ∷ rest) b parts inside after so_far = go (under x) refl
          (λ f. units_turn (done ++ x ∷ []) rest b parts (λ y m. inside y (inr m)) after.1 (λ y m t. elim (append_cases y done (x ∷ []) m) [ inl old ↦ so_far y old t | inr new ↦ skipped f y new t ]))
          (λ t u is_x stands. units_turn (done ++ x ∷ []) rest (b ++ vertex.Unit u ∷ []) (parts_more b (vertex.Unit u ∷ []) parts) (λ y m. inside y (inr m)) after.1
          (λ y m t. elim (append_cases y done (x ∷ []) m) [ inl old ↦ in_filtered (unit_of_vertex s) b (vertex.Unit u ∷ []) y (so_far y old t) | inr new ↦ added u is_x stands y new ]))
        where
          skipped : under x ≡ false → (y : Node) → Among y (x ∷ []) → under y ≡ true → Among y (units_in s b)
          skipped f y (inl is) t = absurd (let bad : true ≡ false = sym t ∙ ap under (sym is) ∙ f in cc)
          skipped f y (inr never) t = absurd never

          added : (u : SignedUnit) → named s u.unit ≡ x → Among (vertex.Unit u) core.journal → (y : Node) → Among y (x ∷ []) → Among y (units_in s (b ++ vertex.Unit u ∷ []))
          added u is_x stands y (inl is) =
              let was = taken core deliveries from (vertex.Unit u) stands in
              subst (λ (z : Node). Among z (units_in s (b ++ vertex.Unit u ∷ []))) (is_x ∙ is) (in_units s (b ++ vertex.Unit u ∷ []) u (from_right (vertex.Unit u) b (vertex.Unit u ∷ []) (inl refl)) (local_of s was.0 u was.1))
          added u is_x stands y (inr never) = absurd never

          one : (u : SignedUnit) (o : Option SignedUnit) → o ≡ Some u → HasItsNeeds s core.journal b (named s u.unit) → ComeInTurn s core.journal (b ++ vertex.Unit u ∷ []) (unit_part core (filter under rest))
              → ComeInTurn s core.journal b (unit_vertices o ++ unit_part core (filter under rest))
          one u o e needs later = subst (λ (o : Option SignedUnit). ComeInTurn s core.journal b (unit_vertices o ++ unit_part core (filter under rest))) (sym e) (needs, later)

          go : (t : Bool) → under x ≡ t → (under x ≡ false → ComeInTurn s core.journal b (unit_part core (filter under rest)))
              → (under x ≡ true → (u : SignedUnit) → named s u.unit ≡ x → Among (vertex.Unit u) core.journal → ComeInTurn s core.journal (b ++ vertex.Unit u ∷ []) (unit_part core (filter under rest)))
              → ComeInTurn s core.journal b (unit_part core (cond t (x ∷ filter under rest) (filter under rest)))
          go false f skip take = skip f
          go true t skip take =
              let m = inside x (inl refl) in
              let u = signed_there core deliveries from x m in
              one u.0 (unit_in core x.digest) u.1
              (subst (λ (z : Node). HasItsNeeds s core.journal b z) (sym u.2) (unit_needs_met done b x parts m t (λ y n h. after.0 y n h) so_far))
              (take t u.0 u.2 u.3)

      pub extract : length (vertices_for core units) ≤ core.config.max_records → IsExtract s core.journal c (vertices_for core units)
      extract room = record {
        in_turn = then_turn s core.journal [] (evidence_part core units ++ endorsement_part core units) (unit_part core units) first second;
        latest_in = λ v u member seen.
            let m = latest_in large (panorama_in core) v u seen in
            let signed = signed_there core deliveries from u m in
            let there = flat_in (λ (x : Node). unit_vertices (unit_in core x.digest)) u (vertex.Unit signed.0) units (is_unit u m (under_latest v u member seen))
            (subst (λ (o : Option SignedUnit). Among (vertex.Unit signed.0) (unit_vertices o)) (sym signed.1) (inl refl)) in
            let was = taken core deliveries from (vertex.Unit signed.0) signed.3 in
            subst (λ (z : Node). Among z (units_in s (vertices_for core units))) signed.2
            (in_units s (vertices_for core units) signed.0 (from_right (vertex.Unit signed.0) (evidence_part core units ++ endorsement_part core units) (unit_part core units) there) (local_of s was.0 signed.0 was.1));
        room = room;
      }
        where
          first : ComeInTurn s core.journal [] (evidence_part core units ++ endorsement_part core units)
          first = any_time s core.journal [] (evidence_part core units ++ endorsement_part core units) (λ v m b. elim (append_cases v (evidence_part core units) (endorsement_part core units) m) [
            | inl e ↦ evidence_next v e b
            | inr e ↦ endorsement_next v e b
          ])

          both : HasParts (evidence_part core units ++ endorsement_part core units)
          both = record {
            marks = λ x v m t k. in_filtered evidence_in (evidence_part core units) (endorsement_part core units) v (marks_there x v m t k);
            endorsed = λ x d m t k. endorsed_there (evidence_part core units ++ endorsement_part core units) (λ v n. from_right v (evidence_part core units) (endorsement_part core units) n) x d m t k;
          }

          second : ComeInTurn s core.journal (evidence_part core units ++ endorsement_part core units) (unit_part core units)
          second = units_turn [] order (evidence_part core units ++ endorsement_part core units) both (λ y m. is.same.to y m) is.in_order (λ y m t. absurd m)
