-- Panoramas that are joined stay consistent.
use Rattle.std.proofs.Common.{◌≡◌, ◌≢◌, ℕ, zero, suc, ◌≤◌, ◌<◌, ◌⊎◌, inl, inr, Bool, true, false, cond, not, List, [], ◌∷◌, ◌++◌, length, replicate, Option, Some, None, refl, sym, ap, subst, ◌∙◌, arith, eqb-true, eq-eqb, length-set, get_or-set_other, get_or-set_same}
use Rattle.std.specs.Prelude.{◌||◌, ◌==◌}
use Rattle.std.specs.List.{list_all}
use Rattle.std.proofs.lemmas.Bool.{cases_lt}
use Rattle.std.proofs.lemmas.List.FromFn.{length-map-range_with_len}
use Rattle.hw_types.specs.declared.unit.Digest.{Digest}
use Rattle.hw_types.specs.declared.unit.Obs.{Obs}
use Rattle.hw_types.specs.declared.unit.Obs.TheVariants.{Absent, Correct, Faulty}
use Rattle.hw_types.specs.declared.config.Config.{Config}
use Rattle.hw_types.specs.Graph.{is_consistent, is_at_most, slots, Node, node_eq, is_faulty_mark, slot, cites, unit_cites, observes, observed, follows, latest, obs_at_most}
use Rattle.hw_types.specs.Below.{Among}
use Rattle.hw_types.specs.Settled.{tip_of, correct_or_absent, panorama_over}
use Rattle.hw_types.specs.Lawful.{IsLawful}
use Rattle.hw_types.specs.laws.StateLaws.{IsOverAll}
use Rattle.hw_types.specs.Step.{join_obs, join_from, with_own, joining}
use Rattle.hw_types.proofs.PastLaws.{reach_first, reach_further}
use Rattle.hw_types.proofs.SettledLaws.{digest_self}
use Rattle.hw_types.proofs.WordsLaws.{each_all, either, never_both, slot_cites, find_node_is}
use Rattle.hw_types.proofs.UnionLaws.{one_of_name}
use Rattle.hw_types.proofs.LaneLaws.{on_own_lane, past_at_most}
use Rattle.hw_types.proofs.TipLaws.{slot_over, slot_past}
use Rattle.hw_types.proofs.PanoramaLaws.{over_all}
use Rattle.hw_honest.proofs.MetLaws.{IsOf, JoinCase, later, earlier, beside, join_case, join_nothing, each_at_most, cited_at, on_lane_met, met_self, met_trans, join_is_of, join_over_first, join_over_second, join_mark}

-- ---- slots

-- a panorama that observes nothing has Absent slots
pub slot_nothing : (n v : ℕ) → slot (replicate n Absent) v ≡ Absent
slot_nothing zero v = refl
slot_nothing (suc n) zero = refl
slot_nothing (suc n) (suc v) = slot_nothing n v

-- the panorama with the mark of one validator alone
abbrev pub mark_of : ℕ → List Obs
mark_of v = replicate v Absent ++ Faulty ∷ []

pub slot_mark : (v w : ℕ) → ((w ≡ v) × (slot (mark_of v) w ≡ Faulty)) ⊎ ((w ≢ v) × (slot (mark_of v) w ≡ Absent))
slot_mark zero zero = inl (refl, refl)
slot_mark zero (suc w) = inr (λ e. (let lt : suc w ≡ 0 = e in absurd (omega arith)), refl)
slot_mark (suc v) zero = inr (λ e. (let lt : 0 ≡ suc v = e in absurd (omega arith)), refl)
slot_mark (suc v) (suc w) = elim (slot_mark v w) [
  | inl h ↦ inl (ap suc h.0, h.1)
  | inr h ↦ inr (λ e. h.0 (let s : suc w ≡ suc v = e in omega arith), h.1)
]

pub length_mark : (v : ℕ) → length (mark_of v) ≡ suc v
length_mark zero = refl
length_mark (suc v) = ap suc (length_mark v)

-- the own slot names the unit
pub slot_own : (u : Node) → u.unit.creator < length u.unit.panorama → slot (with_own u) u.unit.creator ≡ Correct u.digest
slot_own u lt = get_or-set_same u.unit.panorama u.unit.creator (Correct u.digest) Absent lt

-- the other slots are those of its panorama
pub slot_other : (u : Node) (v : ℕ) → v ≢ u.unit.creator → slot (with_own u) v ≡ slot u.unit.panorama v
slot_other u v ne = get_or-set_other u.unit.panorama u.unit.creator v (Correct u.digest) Absent ne

-- a join is as long as what is joined to
pub length_join : (units : List Node) (ps qs : List Obs) → length qs ≤ length ps → length (join_from units ps qs) ≡ length ps
length_join units [] qs le = refl
length_join units (p ∷ ps) [] le = ap suc (length_join units ps [] (omega arith))
length_join units (p ∷ ps) (q ∷ qs) le = ap suc (length_join units ps qs (omega arith))

-- a slot of a join joins the two slots
pub slot_join : (units : List Node) (ps qs : List Obs) → length qs ≤ length ps → (v : ℕ) → slot (join_from units ps qs) v ≡ join_obs units (slot ps v) (slot qs v)
slot_join units [] [] le v = refl
slot_join units [] (q ∷ qs) le v = absurd (omega arith)
slot_join units (p ∷ ps) [] le zero = join_nothing units p
slot_join units (p ∷ ps) [] le (suc v) = slot_join units ps [] (omega arith) v
slot_join units (p ∷ ps) (q ∷ qs) le zero = refl
slot_join units (p ∷ ps) (q ∷ qs) le (suc v) = slot_join units ps qs (omega arith) v

module _ (weights : List ℕ) (faulty : ℕ → Bool) (units : List Node) (lawful : IsLawful weights faulty units) where
  -- ---- sound panoramas

  -- each slot names a unit of its validator, each mark is of a faulty one, and each cited unit's panorama is at most this one
  pub record IsSound (os : List Obs) : Type 0 where
    pub names : (v : ℕ) → IsOf weights faulty units lawful v (slot os v)
    pub marks : (v : ℕ) → slot os v ≡ Faulty → faulty v ≡ true
    pub over : (w : Node) → Among w units → cites os w ≡ true → (v : ℕ) → obs_at_most units (slot w.unit.panorama v) (slot os v) ≡ true

  unit_names : (u : Node) → Among u units → (v : ℕ) → IsOf weights faulty units lawful v (slot u.unit.panorama v)
  unit_names u m v d e = lawful.closed u v d m e

  -- a unit's panorama has a slot for its creator
  pub inside : (u : Node) → Among u units → u.unit.creator < length u.unit.panorama
  inside u m = subst (λ n. u.unit.creator < n) (sym (lawful.length_is u m)) (lawful.creator_is u m)

  -- ---- a unit's panorama with the unit in its slot

  -- it is over the unit's own
  own_over : (u : Node) → Among u units → (v : ℕ) → obs_at_most units (slot u.unit.panorama v) (slot (with_own u) v) ≡ true
  own_over u m v = elim (either (v == u.unit.creator)) [
    | inl same ↦ at_own (eqb-true v u.unit.creator same)
    | inr other ↦ (let ne : v ≢ u.unit.creator = λ e. never_both _ (eq-eqb v u.unit.creator e) other in
        subst (λ o. obs_at_most units (slot u.unit.panorama v) o ≡ true) (sym (slot_other u v ne)) (met_self weights faulty units lawful v (slot u.unit.panorama v) (unit_names u m v)))
  ]
    where
      before : (o : Obs) → slot u.unit.panorama u.unit.creator ≡ o → obs_at_most units o (Correct u.digest) ≡ true
      before Absent e = refl
      before Faulty e = absurd (never_both _ (ap is_faulty_mark e) (lawful.unmarked u m))
      before (Correct d) e =
          let x = lawful.closed u u.unit.creator d m e in
          let named : slot u.unit.panorama u.unit.creator ≡ Correct x.0.digest = e ∙ ap Correct (sym x.2) in
          let step : follows u x.0 ≡ true = ap (λ o. observes o x.0.digest) named ∙ digest_self x.0.digest in
          subst (λ c. obs_at_most units (Correct c) (Correct u.digest) ≡ true) x.2
          (on_lane_met weights faulty units lawful x.0 u x.1 m (reach_further follows (λ a. node_eq a u) units x.0 u (on_own_lane weights faulty units lawful u m) x.1 step))

      at_own : v ≡ u.unit.creator → obs_at_most units (slot u.unit.panorama v) (slot (with_own u) v) ≡ true
      at_own e = subst (λ w. obs_at_most units (slot u.unit.panorama w) (slot (with_own u) w) ≡ true) (sym e)
          (subst (λ o. obs_at_most units (slot u.unit.panorama u.unit.creator) o ≡ true) (sym (slot_own u (inside u m))) (before (slot u.unit.panorama u.unit.creator) refl))

  own_names : (u : Node) → Among u units → (v : ℕ) → IsOf weights faulty units lawful v (slot (with_own u) v)
  own_names u m v d e = elim (either (v == u.unit.creator)) [
    | inl same ↦ (let at = eqb-true v u.unit.creator same in
        let named : Correct u.digest ≡ Correct d = sym (slot_own u (inside u m)) ∙ ap (slot (with_own u)) (sym at) ∙ e in
        (u, m, (let is : u.digest ≡ d = cc in is), sym at))
    | inr other ↦ lawful.closed u v d m (sym (slot_other u v (λ q. never_both _ (eq-eqb v u.unit.creator q) other)) ∙ e)
  ]

  -- it cites the unit and what the unit cites
  pub own_split : (u x : Node) → Among u units → Among x units → cites (with_own u) x ≡ true → (x ≡ u) ⊎ (cites u.unit.panorama x ≡ true)
  own_split u x m n c =
      let i = cited_at (with_own u) x c in
      elim (either (i.0 == u.unit.creator)) [
        | inl same ↦ (let at = eqb-true i.0 u.unit.creator same in
            let named : Correct u.digest ≡ Correct x.digest = sym (slot_own u (inside u m)) ∙ ap (slot (with_own u)) (sym at) ∙ i.1 in
            inl (one_of_name weights faulty units lawful x u n m (let e : x.digest ≡ u.digest = cc in e)))
        | inr other ↦ inr (slot_cites u.unit.panorama i.0 x.digest x (sym (slot_other u i.0 (λ q. never_both _ (eq-eqb i.0 u.unit.creator q) other)) ∙ i.1) refl)
      ]

  -- it is sound
  pub own_sound : (u : Node) → Among u units → IsSound (with_own u)
  own_sound u m = record {
    names = own_names u m;
    marks = λ v e. elim (either (v == u.unit.creator)) [
      | inl same ↦ (let at = eqb-true v u.unit.creator same in absurd (let no : Correct u.digest ≡ Faulty = sym (slot_own u (inside u m)) ∙ ap (slot (with_own u)) (sym at) ∙ e in cc))
      | inr other ↦ lawful.marks u v m (ap is_faulty_mark (sym (slot_other u v (λ q. never_both _ (eq-eqb v u.unit.creator q) other)) ∙ e))
    ];
    over = λ w n c v. elim (own_split u w m n c) [
      | inl e ↦ subst (λ z. obs_at_most units (slot z.unit.panorama v) (slot (with_own u) v) ≡ true) (sym e) (own_over u m v)
      | inr k ↦ up w n k v
    ];
  }
    where
      up : (w : Node) → Among w units → cites u.unit.panorama w ≡ true → (v : ℕ) → obs_at_most units (slot w.unit.panorama v) (slot (with_own u) v) ≡ true
      up w n c v = met_trans weights faulty units lawful v (slot w.unit.panorama v) (slot u.unit.panorama v) (slot (with_own u) v) (unit_names w n v) (unit_names u m v) (own_names u m v)
          (past_at_most weights faulty units lawful u w m (reach_first unit_cites (cites u.unit.panorama) units w n c) v) (own_over u m v)

  -- ---- nothing, and a mark alone

  not_cited : (os : List Obs) → ((v : ℕ) (d : Digest) → slot os v ≡ Correct d → ⊥) → (w : Node) → cites os w ≡ true → ⊥
  not_cited os none w c = let i = cited_at os w c in none i.0 w.digest i.1

  none_sound : (os : List Obs) → ((v : ℕ) (d : Digest) → slot os v ≡ Correct d → ⊥) → ((v : ℕ) → slot os v ≡ Faulty → faulty v ≡ true) → IsSound os
  none_sound os none marks = record {
    names = λ v d e. absurd (none v d e);
    marks = marks;
    over = λ w n c v. absurd (not_cited os none w c);
  }

  -- who observes nothing cites nothing
  pub nothing_cited : (n : ℕ) (w : Node) → cites (replicate n Absent) w ≡ true → ⊥
  nothing_cited n = not_cited (replicate n Absent) (λ v d e. let no : Absent ≡ Correct d = sym (slot_nothing n v) ∙ e in cc)

  -- and such a panorama is sound
  pub nothing_sound : (n : ℕ) → IsSound (replicate n Absent)
  nothing_sound n = none_sound (replicate n Absent) (λ v d e. let no : Absent ≡ Correct d = sym (slot_nothing n v) ∙ e in cc) (λ v e. let no : Absent ≡ Faulty = sym (slot_nothing n v) ∙ e in cc)

  mark_sound : (v : ℕ) → faulty v ≡ true → IsSound (mark_of v)
  mark_sound v bad = none_sound (mark_of v)
      (λ w d e. elim (slot_mark v w) [ inl h ↦ (let no : Faulty ≡ Correct d = sym h.1 ∙ e in cc) | inr h ↦ (let no : Absent ≡ Correct d = sym h.1 ∙ e in cc) ])
      (λ w e. elim (slot_mark v w) [ inl h ↦ ap faulty h.0 ∙ bad | inr h ↦ absurd (let no : Absent ≡ Faulty = sym h.1 ∙ e in cc) ])

  -- a sound panorama is consistent
  pub sound_consistent : (os : List Obs) → IsSound os → is_consistent units os ≡ true
  unfolding is_consistent is_at_most
  sound_consistent os sound = each_all _ units (λ w m. go w m (cites os w) refl)
    where
      go : (w : Node) → Among w units → (b : Bool) → cites os w ≡ b → (not b || list_all (λ v. obs_at_most units (slot w.unit.panorama v) (slot os v)) (slots w.unit.panorama)) ≡ true
      go w m false e = refl
      go w m true e = each_all _ (slots w.unit.panorama) (λ v n. sound.over w m e v)

  -- ---- joins

  -- the join of two sound panoramas is sound
  pub join_sound : (ps qs : List Obs) → length qs ≤ length ps → IsSound ps → IsSound qs → IsSound (join_from units ps qs)
  join_sound ps qs le a b = record {
    names = names;
    marks = λ v e. join_mark weights faulty units lawful v (slot ps v) (slot qs v) (a.names v) (b.names v) (a.marks v) (b.marks v) (sym (slot_join units ps qs le v) ∙ e);
    over = λ w n c v. cited_over w n (cited_at (join_from units ps qs) w c) v;
  }
    where
      names : (v : ℕ) → IsOf weights faulty units lawful v (slot (join_from units ps qs) v)
      names v d e = join_is_of weights faulty units lawful v (slot ps v) (slot qs v) (a.names v) (b.names v) d (sym (slot_join units ps qs le v) ∙ e)

      first : (w : Node) → Among w units → cites ps w ≡ true → (v : ℕ) → obs_at_most units (slot w.unit.panorama v) (slot (join_from units ps qs) v) ≡ true
      first w n c v = met_trans weights faulty units lawful v (slot w.unit.panorama v) (slot ps v) (slot (join_from units ps qs) v) (unit_names w n v) (a.names v) (names v) (a.over w n c v)
          (subst (λ o. obs_at_most units (slot ps v) o ≡ true) (sym (slot_join units ps qs le v)) (join_over_first weights faulty units lawful v (slot ps v) (slot qs v) (a.names v)))

      second : (w : Node) → Among w units → cites qs w ≡ true → (v : ℕ) → obs_at_most units (slot w.unit.panorama v) (slot (join_from units ps qs) v) ≡ true
      second w n c v = met_trans weights faulty units lawful v (slot w.unit.panorama v) (slot qs v) (slot (join_from units ps qs) v) (unit_names w n v) (b.names v) (names v) (b.over w n c v)
          (subst (λ o. obs_at_most units (slot qs v) o ≡ true) (sym (slot_join units ps qs le v)) (join_over_second weights faulty units lawful v (slot ps v) (slot qs v) (b.names v)))

      cited_over : (w : Node) → Among w units → ((i : ℕ) × (slot (join_from units ps qs) i ≡ Correct w.digest)) → (v : ℕ) → obs_at_most units (slot w.unit.panorama v) (slot (join_from units ps qs) v) ≡ true
      cited_over w n i v = go (join_case units (slot ps i.0) (slot qs i.0))
        where
          named : join_obs units (slot ps i.0) (slot qs i.0) ≡ Correct w.digest
          named = sym (slot_join units ps qs le i.0) ∙ i.1

          go : JoinCase units (slot ps i.0) (slot qs i.0) → obs_at_most units (slot w.unit.panorama v) (slot (join_from units ps qs) v) ≡ true
          go (later h j) = second w n (slot_cites qs i.0 w.digest w (sym j ∙ named) refl) v
          go (earlier h k j) = first w n (slot_cites ps i.0 w.digest w (sym j ∙ named) refl) v
          go (beside h k j) = absurd (let no : Faulty ≡ Correct w.digest = sym j ∙ named in cc)

-- ---- the state's panorama, and what joins of it

module _ (config : Config) (faulty : ℕ → Bool) (units : List Node) (lawful : IsLawful config.weights faulty units) where
  abbrev pub state : List Obs
  state = panorama_over config faulty units

  -- the state's panorama has a slot for each validator
  pub state_length : length state ≡ length config.weights
  state_length = length-map-range_with_len (λ w. cond (faulty w) Faulty (correct_or_absent (tip_of units w))) 0 (length config.weights)

  -- the state's panorama is over all units
  abbrev over : IsOverAll config faulty units
  over = over_all config faulty units lawful

  -- each unit's panorama is at most the state's
  pub state_above : (w : Node) → Among w units → (v : ℕ) → obs_at_most units (slot w.unit.panorama v) (slot state v) ≡ true
  state_above w n v = each_at_most units w.unit.panorama state (over.above w n) v

  -- the state's panorama is sound
  pub state_sound : IsSound config.weights faulty units lawful state
  state_sound = record {
    names = λ v d e. let t = over.closed v d e in (t.0, t.1.member, t.2, t.1.creator);
    marks = λ v e. elim (cases_lt v (length config.weights)) [
      | inl lt ↦ marked (tip_of units v) (faulty v) refl (sym (slot_over config faulty units v lt) ∙ e)
      | inr le ↦ absurd (let no : Absent ≡ Faulty = sym (slot_past config faulty units v le) ∙ e in cc)
    ];
    over = λ w n c v. state_above w n v;
  }
    where
      marked : {v : ℕ} (o : Option Node) (b : Bool) → faulty v ≡ b → cond b Faulty (correct_or_absent o) ≡ Faulty → faulty v ≡ true
      marked o true e h = e
      marked None false e h = absurd cc
      marked (Some t) false e h = absurd cc

  -- what joins of one validator
  pub record IsJoining (v : ℕ) (os : List Obs) : Type 0 where
    pub sound : IsSound config.weights faulty units lawful os
    pub short : length os ≤ length config.weights
    pub less : (w : ℕ) → w ≢ v → obs_at_most units (slot os w) (slot state w) ≡ true

  -- what joins of a validator is such
  pub joining_is : (v : ℕ) → v < length config.weights → IsJoining v (joining units v state)
  joining_is v lt = by_slot (slot state v) refl
    where
      empty : IsJoining v []
      empty = record { sound = nothing_sound config.weights faulty units lawful 0; short = omega arith; less = λ w ne. refl }

      by_unit : (o : Option Node) → latest units state v ≡ o → IsJoining v (elim o as (λ z. List Obs) [ None ↦ [] | Some u ↦ with_own u ])
      by_unit None e = empty
      by_unit (Some u) e = go (slot state v) refl
        where
          joined : (d : Digest) → slot state v ≡ Correct d → IsJoining v (with_own u)
          joined d s =
              let f = find_node_is units u d (sym (ap (observed units) s) ∙ e) in
              let t = over.closed v d s in
              let same = one_of_name config.weights faulty units lawful u t.0 f.0 t.1.member (f.1 ∙ sym t.2) in
              let at : u.unit.creator ≡ v = ap (λ (z : Node). z.unit.creator) same ∙ t.1.creator in
              record {
                sound = own_sound config.weights faulty units lawful u f.0;
                short = (let long = length-set u.unit.panorama u.unit.creator (Correct u.digest) ∙ lawful.length_is u f.0 in omega arith);
                less = λ w ne. subst (λ o. obs_at_most units o (slot state w) ≡ true) (sym (slot_other u w (λ q. ne (q ∙ at)))) (state_above u f.0 w);
              }

          go : (o : Obs) → slot state v ≡ o → IsJoining v (with_own u)
          go Absent s = absurd (let no : None ≡ Some u = sym (ap (observed units) s) ∙ e in cc)
          go Faulty s = absurd (let no : None ≡ Some u = sym (ap (observed units) s) ∙ e in cc)
          go (Correct d) s = joined d s

      by_slot : (o : Obs) → slot state v ≡ o → IsJoining v (elim o as (λ z. List Obs) [ Absent ↦ [] | Faulty ↦ mark_of v | Correct d ↦ elim (latest units state v) as (λ z. List Obs) [ None ↦ [] | Some u ↦ with_own u ] ])
      by_slot Absent e = empty
      by_slot Faulty e = record {
        sound = mark_sound config.weights faulty units lawful v (state_sound.marks v e);
        short = (let long = length_mark v in omega arith);
        less = λ w ne. elim (slot_mark v w) [ inl h ↦ absurd (ne h.0) | inr h ↦ subst (λ o. obs_at_most units o (slot state w) ≡ true) (sym h.1) refl ];
      }
      by_slot (Correct d) e = by_unit (latest units state v) refl
