-- The chosen panorama.
use Rattle.std.proofs.Common.{◌≡◌, ◌≢◌, ℕ, ◌≤◌, ◌<◌, ◌⊎◌, inl, inr, Bool, true, false, cond, not, List, [], ◌∷◌, length, replicate, Option, Some, None, refl, sym, ap, subst, ◌∙◌, arith, eq-eqb, leb-true, length-set}
use Rattle.std.specs.Prelude.{◌==◌, nat_le, filter, fold}
use Rattle.std.proofs.lemmas.List.{length-replicate}
use Rattle.hw_types.specs.declared.unit.Digest.{Digest}
use Rattle.hw_types.specs.declared.unit.Obs.{Obs}
use Rattle.hw_types.specs.declared.unit.Obs.TheVariants.{Absent, Correct, Faulty}
use Rattle.hw_types.specs.declared.unit.WireUnit.{WireUnit}
use Rattle.hw_types.specs.Graph.{Node, is_faulty_mark, cites, unit_cites, past, slot, latest, observed, obs_at_most}
use Rattle.hw_types.specs.Below.{Among}
use Rattle.hw_types.specs.Rules.{has_naive_fork}
use Rattle.hw_types.specs.Settled.{validators}
use Rattle.hw_types.specs.Journal.{Setting}
use Rattle.hw_types.specs.Step.{join_obs, join_from, with_own, cited_units, list_of, is_fit, joining, joined_where_fit, first_base, chosen_panorama}
use Rattle.hw_types.proofs.ClosureLaws.{Among-filter, filter-Among}
use Rattle.hw_types.proofs.PastLaws.{reach_keeps}
use Rattle.hw_types.proofs.StableLaws.{and_parts}
use Rattle.hw_types.proofs.GraphLaws.{rising_one_name}
use Rattle.hw_types.proofs.WordsLaws.{either, never_both, not_true, all_of, found_node, slot_cites, latest_is, range_below}
use Rattle.hw_honest.proofs.MetLaws.{join_less}
use Rattle.hw_honest.proofs.JoinLaws.{slot_nothing, slot_own, length_join, slot_join, IsSound, inside, own_sound, own_split, nothing_cited, nothing_sound, join_sound, state_length, state_sound, IsJoining, joining_is}
use Rattle.hw_honest.proofs.ListLaws.{list_has, list_short}
use Rattle.hw_honest.proofs.NaiveLaws.{naive_fork_is, quiet_own}
use Rattle.hw_honest.proofs.KeptLaws.{KeptGraph, known, settled, faulty, state, lawful, in_order, time_rises, list_kept, quiet}

module _ (s : Setting) (graph : KeptGraph s) (me : ℕ) where
  -- the validator's last unit, as the state observes it
  abbrev pub own : Option Node
  own = latest (settled s graph) (state s graph) me

  -- there is none, or it is the validator's, and the state names it
  pub data OwnCase : Type 0 where
    first : own ≡ None → slot (state s graph) me ≡ Absent → OwnCase
    next : (p : Node) → own ≡ Some p → Among p (settled s graph) → p.unit.creator ≡ me → slot (state s graph) me ≡ Correct p.digest → OwnCase

  -- where the own slot is no mark, it is one of the two
  pub own_case : is_faulty_mark (slot (state s graph) me) ≡ false → OwnCase
  own_case honest = go (slot (state s graph) me) refl
    where
      go : (o : Obs) → slot (state s graph) me ≡ o → OwnCase
      go Absent e = first (ap (observed (settled s graph)) e) e
      go Faulty e = absurd (never_both _ (ap is_faulty_mark e) honest)
      go (Correct d) e =
          let t = (state_sound s.config (faulty s graph) (settled s graph) (lawful s graph)).names me d e in
          next t.0 (latest_is (settled s graph) (state s graph) me d t.0 e (found_node (settled s graph) t.0 d (rising_one_name (settled s graph) (in_order s graph)) t.1 t.2)) t.1 t.3 (e ∙ ap Correct (sym t.2))

  -- the list of the last unit is as short as its format wants
  abbrev pub OwnListFits : Type 0
  OwnListFits = (p : Node) → own ≡ Some p → length p.unit.endorsed ≤ 256

module _ (s : Setting) (graph : KeptGraph s) (me time : ℕ) where
  abbrev last : Option Node
  last = own s graph me

  -- a panorama is sound over the units of the graph
  abbrev pub Sound : List Obs → Type 0
  Sound = IsSound s.config.weights (faulty s graph) (settled s graph) (lawful s graph)

  -- the endorsed list of a panorama
  abbrev list : List Obs → List Digest
  list os = list_of s (known s graph) (settled s graph) os

  -- a panorama that a unit at this time may have
  pub record IsUsable (os : List Obs) : Type 0 where
    pub sound : Sound os
    pub long : length os ≡ length s.config.weights
    pub own : slot os me ≡ slot (state s graph) me
    pub earlier : (w : Node) → Among w (settled s graph) → cites os w ≡ true → w.unit.time ≤ time
    pub no_fork : has_naive_fork (past (settled s graph) os) (list os) ≡ false
    pub few : OwnListFits s graph me → nat_le (length (list os)) 256 ≡ true

  fit_usable : (os : List Obs) → Sound os → length os ≡ length s.config.weights → slot os me ≡ slot (state s graph) me → is_fit s (known s graph) (settled s graph) time os ≡ true → IsUsable os
  unfolding is_fit
  fit_usable os sound long own fit =
      let parts = and_parts _ _ fit in
      let first = and_parts _ _ parts.0 in
      record {
        sound = sound;
        long = long;
        own = own;
        earlier = λ w m c. leb-true w.unit.time time (all_of (λ x. nat_le x.unit.time time) (cited_units (settled s graph) os) first.0 w (filter-Among (cites os) w (settled s graph) m c));
        no_fork = not_true _ parts.1;
        few = λ fits. first.1;
      }

  -- ---- where joining begins

  -- the panorama that observes nothing
  abbrev nothing : List Obs
  nothing = replicate (length s.config.weights) Absent

  none_below : (x : Node) → Among x (past (settled s graph) nothing) → ⊥
  none_below = reach_keeps unit_cites (cites nothing) (settled s graph) (λ x. ⊥)
      (λ x m c. nothing_cited s.config.weights (faulty s graph) (settled s graph) (lawful s graph) (length s.config.weights) x c)
      (λ x y no m c. no)

  -- a unit with an empty list
  abbrev bare : WireUnit
  bare = record { instance = s.instance; creator = 0; seq = 0; time = 0; exponent = 0; panorama = []; value = None; endorsed = [] }

  nothing_usable : slot (state s graph) me ≡ Absent → IsUsable nothing
  nothing_usable absent = record {
    sound = nothing_sound s.config.weights (faulty s graph) (settled s graph) (lawful s graph) (length s.config.weights);
    long = length-replicate (length s.config.weights) Absent;
    own = slot_nothing (length s.config.weights) me ∙ sym absent;
    earlier = λ w m c. absurd (not_here w c);
    no_fork = elim (either (has_naive_fork (past (settled s graph) nothing) (list nothing))) [
      | inr none ↦ none
      | inl fork ↦ (let f = naive_fork_is (past (settled s graph) nothing) (list nothing) fork in absurd (none_below f.0 f.2.first))
    ];
    few = λ fits. list_short s (known s graph) (settled s graph) nothing bare (omega arith) (λ d i. absurd (not_here i.0 i.2));
  }
    where
      not_here : (w : Node) → cites nothing w ≡ true → ⊥
      not_here = nothing_cited s.config.weights (faulty s graph) (settled s graph) (lawful s graph) (length s.config.weights)

  -- the own last unit's panorama with the unit in its slot
  own_usable : (p : Node) → last ≡ Some p → Among p (settled s graph) → p.unit.creator ≡ me → slot (state s graph) me ≡ Correct p.digest → p.unit.time ≤ time → IsUsable (with_own p)
  own_usable p is m at e le = record {
    sound = own_sound s.config.weights (faulty s graph) (settled s graph) (lawful s graph) p m;
    long = length-set p.unit.panorama p.unit.creator (Correct p.digest) ∙ (lawful s graph).length_is p m;
    own = ap (slot (with_own p)) (sym at) ∙ named ∙ sym e;
    earlier = λ w n c. elim (split w n c) [
      | inl same ↦ subst (λ (z : Node). z.unit.time ≤ time) (sym same) le
      | inr k ↦ (let before = time_rises s graph p w m n k in omega arith)
    ];
    no_fork = quiet_own (settled s graph) (in_order s graph) p m named split (list (with_own p))
        (λ d h. list_has s (known s graph) (settled s graph) (with_own p) d p m (slot_cites (with_own p) p.unit.creator p.digest p named refl) h)
        (quiet s graph p m);
    few = λ fits. list_short s (known s graph) (settled s graph) (with_own p) p.unit (fits p is) (λ d i. elim (split i.0 i.1 i.2) [
      | inl same ↦ subst (λ (z : Node). Among d z.unit.endorsed) same i.3
      | inr k ↦ list_kept s graph p i.0 m i.1 k d i.3
    ]);
  }
    where
      named : slot (with_own p) p.unit.creator ≡ Correct p.digest
      named = slot_own p (inside s.config.weights (faulty s graph) (settled s graph) (lawful s graph) p m)

      split : (x : Node) → Among x (settled s graph) → cites (with_own p) x ≡ true → (x ≡ p) ⊎ (cites p.unit.panorama x ≡ true)
      split x n c = own_split s.config.weights (faulty s graph) (settled s graph) (lawful s graph) p x m n c

  base_usable : OwnCase s graph me → ((p : Node) → last ≡ Some p → p.unit.time ≤ time) → IsUsable (first_base s last)
  base_usable (first none absent) before = subst (λ o. IsUsable (first_base s o)) (sym none) (nothing_usable absent)
  base_usable (next p is m at e) before = subst (λ o. IsUsable (first_base s o)) (sym is) (own_usable p is m at e (before p is))

  -- ---- joins where they fit

  -- what joins for a validator
  abbrev part : ℕ → List Obs
  part v = joining (settled s graph) v (state s graph)

  -- a panorama with a validator joined
  abbrev joined : List Obs → ℕ → List Obs
  joined base v = join_from (settled s graph) base (part v)

  joined_usable : (base : List Obs) (v : ℕ) → IsUsable base → v < length s.config.weights → v ≢ me → is_fit s (known s graph) (settled s graph) time (joined base v) ≡ true → IsUsable (joined base v)
  joined_usable base v usable lt other fit = fit_usable (joined base v)
      (join_sound s.config.weights (faulty s graph) (settled s graph) (lawful s graph) base (part v) short usable.sound j.sound)
      (length_join (settled s graph) base (part v) short ∙ usable.long)
      (slot_join (settled s graph) base (part v) short me ∙ kept)
      fit
    where
      j : IsJoining s.config (faulty s graph) (settled s graph) (lawful s graph) v (part v)
      j = joining_is s.config (faulty s graph) (settled s graph) (lawful s graph) v lt

      short : length (part v) ≤ length base
      short = let le = j.short in let long = usable.long in omega arith

      kept : join_obs (settled s graph) (slot base me) (slot (part v) me) ≡ slot (state s graph) me
      kept = join_less s.config.weights (faulty s graph) (settled s graph) (lawful s graph) me (slot base me) (slot (part v) me) (usable.sound.names me) (j.sound.names me)
          (subst (λ o. obs_at_most (settled s graph) (slot (part v) me) o ≡ true) (sym usable.own) (j.less me (λ e. other (sym e)))) ∙ usable.own

  one_joined : (base : List Obs) (v : ℕ) → IsUsable base → v < length s.config.weights → v ≢ me → IsUsable (joined_where_fit s (known s graph) (settled s graph) time (state s graph) base v)
  one_joined base v usable lt other = go (is_fit s (known s graph) (settled s graph) time (joined base v)) refl
    where
      go : (b : Bool) → is_fit s (known s graph) (settled s graph) time (joined base v) ≡ b → IsUsable (cond b (joined base v) base)
      go true e = joined_usable base v usable lt other e
      go false e = usable

  all_joined : (vs : List ℕ) (base : List Obs) → ((v : ℕ) → Among v vs → (v < length s.config.weights) × (v ≢ me)) → IsUsable base
      → IsUsable (fold (joined_where_fit s (known s graph) (settled s graph) time (state s graph)) base vs)
  all_joined [] base all usable = usable
  all_joined (v ∷ vs) base all usable =
      let here = all v (inl refl) in
      all_joined vs (joined_where_fit s (known s graph) (settled s graph) time (state s graph) base v) (λ w m. all w (inr m)) (one_joined base v usable here.0 here.1)

  others : (v : ℕ) → Among v (filter (λ w. not (w == me)) (validators s.config)) → (v < length s.config.weights) × (v ≢ me)
  others v m =
      let f = Among-filter (λ w. not (w == me)) v (validators s.config) m in
      let r = range_below 0 (length s.config.weights) v f.0 in
      (omega (arith, r.1), λ e. never_both _ (eq-eqb v me e) (not_true _ f.1))

  -- The chosen panorama is usable.
  pub chosen_usable : is_faulty_mark (slot (state s graph) me) ≡ false → ((p : Node) → last ≡ Some p → p.unit.time ≤ time)
      → IsUsable (chosen_panorama s (known s graph) (settled s graph) time me (state s graph) last)
  unfolding chosen_panorama
  chosen_usable honest before = go (is_fit s (known s graph) (settled s graph) time (state s graph)) refl
    where
      go : (b : Bool) → is_fit s (known s graph) (settled s graph) time (state s graph) ≡ b
          → IsUsable (cond b (state s graph) (fold (joined_where_fit s (known s graph) (settled s graph) time (state s graph)) (first_base s last) (filter (λ w. not (w == me)) (validators s.config))))
      go true e = fit_usable (state s graph) (state_sound s.config (faulty s graph) (settled s graph) (lawful s graph)) (state_length s.config (faulty s graph) (settled s graph) (lawful s graph)) refl e
      go false e = all_joined (filter (λ w. not (w == me)) (validators s.config)) (first_base s last) others (base_usable (own_case s graph me honest) before)
