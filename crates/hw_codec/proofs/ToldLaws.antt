-- A panorama told by its changes: what is told is read, and what is read was told so.
use Rattle.std.proofs.Common.{◌≡◌, ◌≢◌, ℕ, zero, suc, ◌-◌, ◌+◌, ◌^◌, ◌<◌, ◌≤◌, Bool, true, false, not, ◌&&◌, ◌||◌, ◌==◌, nat_le, nat_lt, List, [], ◌∷◌, ◌++◌, length, take, drop, set, get_or, Ok, inl, inr, refl, sym, ap, subst, ◌∙◌, append_assoc, arith, length-append}
use Rattle.std.specs.List.{flat_map, AllByRecursion}
use Rattle.std.proofs.lemmas.Bool.{eqb-true, eq-eqb, ne_eqb, le-leb, leb-true, lt-ltb, ltb-true, or_cases, or_parts}
use Rattle.std.proofs.lemmas.List.{append-nil, take-append-drop, length-take-le}
use Rattle.std.proofs.Math.Seq.{drop-cons, get_or-append_seam, set-append_seam}
use Rattle.hw_types.specs.declared.answers.CodecError.TheVariants as error
use Rattle.hw_types.specs.declared.unit.Obs.{Obs}
use Rattle.hw_types.specs.declared.unit.Obs.TheVariants.{Absent}
use Rattle.hw_types.specs.Same.{obs_eq}
use Rattle.hw_types.specs.Spelling.{u32_bytes, obs_bytes}
use Rattle.hw_types.specs.Reading.{Rest, Read, ◌>>=◌}
use Rattle.hw_types.proofs.Equal.{obs_eq_exact}
use Rattle.hw_codec.specs.declared.compact.Change.{Change}
use Rattle.hw_codec.specs.Compact.{change_in, changes_from, change_bytes, is_slot, slot_at, other_at, change_at, changed_at}
use Rattle.hw_codec.specs.Ranges.{AreBytes, ObsInRange}
use Rattle.hw_codec.proofs.Readings.{at, done, Takes, Takes-then, IsReading, Any, seq, said, tested, unrefused, end, bind_ok, ok_is}
use Rattle.hw_codec.proofs.Fields.{u32_reading}
use Rattle.hw_codec.proofs.Units.{obs_reading}
use Rattle.hw_codec.proofs.LastLaws.{obs_tested}

-- ---- observations

pub obs_exact : (o p : Obs) → obs_eq o p ≡ true → o ≡ p
obs_exact o p e = (obs_eq_exact o p).0 (obs_tested o p ∙ e)

pub obs_self : (o : Obs) → obs_eq o o ≡ true
obs_self o = sym (obs_tested o o) ∙ (obs_eq_exact o o).1 refl

-- ---- one change

-- a change in the range of its type
pub record ChangeInRange (c : Change) : Type 0 where
  pub slot : c.slot < 2 ^ 32
  pub obs : ObsInRange c.obs

-- it can stand here
record IsChange (creator from : ℕ) (panorama : List Obs) (c : Change) : Type 0 where
  in_range : ChangeInRange c
  slot : is_slot creator from panorama c.slot ≡ true
  other : obs_eq c.obs (get_or panorama c.slot Absent) ≡ false

slot_reading : (creator from : ℕ) (panorama : List Obs) → IsReading (slot_at creator from panorama) Any u32_bytes (λ n. (n < 2 ^ 32) × (is_slot creator from panorama n ≡ true))
slot_reading creator from panorama = tested (is_slot creator from panorama) error.OutOfRange (λ n. is_slot creator from panorama n ≡ true) u32_reading (λ n g e. e) (λ n g p. p)

other_reading : (before : Obs) → IsReading (other_at before) Any obs_bytes (λ o. ObsInRange o × (obs_eq o before ≡ false))
other_reading before = unrefused (λ o. obs_eq o before) error.OutOfRange (λ o. obs_eq o before ≡ false) obs_reading (λ o e. e) (λ o p. p)

abbrev IsOther : List Obs → Change → Type 0
IsOther panorama c = ObsInRange c.obs × (obs_eq c.obs (get_or panorama c.slot Absent) ≡ false)

abbrev obs_behind_slot : List Obs → ℕ → Rest → Read Change
obs_behind_slot panorama slot r = other_at (get_or panorama slot Absent) r >>= λ o. Ok (record { slot = slot; obs = o.0 }, o.1)

obs_behind_slot_reading : (panorama : List Obs) (slot : ℕ) → IsReading (obs_behind_slot panorama slot) (λ (c : Change). Any c × (c.slot ≡ slot)) (λ (c : Change). obs_bytes c.obs) (IsOther panorama)
obs_behind_slot_reading panorama slot = said
    (seq {Known = λ (c : Change). c.slot ≡ slot} (λ (c : Change). c.obs) (other_reading (get_or panorama slot Absent)) λ _ obs.
    end (record { slot = slot; obs = obs }) _ (refl, refl) (λ c k i. record { slot = sym k.0 i; obs = sym k.1 i }))
    (λ c k. (tt, k)) (λ c k. k.1) (λ c k. append-nil (obs_bytes c.obs))
    (λ c k g. (g.0.0, subst (λ (n : ℕ). obs_eq c.obs (get_or panorama n Absent) ≡ false) (sym k.1) g.0.1))
    (λ c k g. ((g.0, subst (λ (n : ℕ). obs_eq c.obs (get_or panorama n Absent) ≡ false) k.1 g.1), tt))

change_reading : (creator from : ℕ) (panorama : List Obs) → IsReading (change_at creator from panorama) Any change_bytes (IsChange creator from panorama)
unfolding change_at
change_reading creator from panorama = said
    (seq {Known = Any} (λ (c : Change). c.slot) (slot_reading creator from panorama) λ _ slot. obs_behind_slot_reading panorama slot)
    (λ c k. k) (λ c k. k) (λ c k. refl)
    (λ c k g. record { in_range = record { slot = g.0.0; obs = g.1.0 }; slot = g.0.1; other = g.1.1 })
    (λ c k g. ((g.in_range.slot, g.slot), (g.in_range.obs, g.other)))

three : (a b c : Bool) → (a && b && c) ≡ true → (a ≡ true) × (b ≡ true) × (c ≡ true)
three true true true e = (refl, refl, refl)
three true true false e = absurd cc
three true false c e = absurd cc
three false b c e = absurd cc

is_false : (b : Bool) → not b ≡ true → b ≡ false
is_false true e = absurd cc
is_false false e = refl

-- where a slot is
record IsSlot (creator from size slot : ℕ) : Type 0 where
  low : from ≤ slot
  within : slot < size
  other : slot ≢ creator

slot_is : (creator from : ℕ) (panorama : List Obs) (slot : ℕ) → is_slot creator from panorama slot ≡ true → IsSlot creator from (length panorama) slot
slot_is creator from panorama slot e =
    let parts = three (nat_le from slot) (nat_lt slot (length panorama)) (not (slot == creator)) e in
    let apart = is_false (slot == creator) parts.2 in
    record { low = leb-true from slot parts.0; within = ltb-true slot (length panorama) parts.1; other = λ same. absurd (let is : (slot == creator) ≡ true = eq-eqb slot creator same in cc) }

is_slot_of : (creator from : ℕ) (panorama : List Obs) (slot : ℕ) → from ≤ slot → slot < length panorama → (slot == creator) ≡ false → is_slot creator from panorama slot ≡ true
is_slot_of creator from panorama slot low within other = rw (le-leb from slot low, lt-ltb slot (length panorama) within, other) refl

-- ---- changes told

or_true : (b : Bool) → (b || true) ≡ true
or_true true = refl
or_true false = refl

no_change : (creator slot : ℕ) (o : Obs) → change_in creator slot o o ≡ []
no_change creator slot o = rw (obs_self o, or_true (slot == creator)) refl

one_change : (creator slot : ℕ) (b o : Obs) → (slot == creator) ≡ false → obs_eq o b ≡ false → change_in creator slot b o ≡ record { slot = slot; obs = o } ∷ []
one_change creator slot b o apart other = rw (apart, other) refl

pub changes_none : (creator slot : ℕ) (now : List Obs) → changes_from creator slot now now ≡ []
changes_none creator slot [] = refl
changes_none creator slot (o ∷ now) = ap (λ (l : List Change). l ++ changes_from creator (suc slot) now now) (no_change creator slot o) ∙ changes_none creator (suc slot) now

-- what is the same in front has no change
changes_same : (creator slot : ℕ) (front before now : List Obs) → changes_from creator slot (front ++ before) (front ++ now) ≡ changes_from creator (slot + length front) before now
changes_same creator slot [] before now = ap (λ (n : ℕ). changes_from creator n before now) (let is : slot ≡ slot + 0 = omega arith in is)
changes_same creator slot (x ∷ front) before now =
    ap (λ (l : List Change). l ++ changes_from creator (suc slot) (front ++ before) (front ++ now)) (no_change creator slot x)
    ∙ changes_same creator (suc slot) front before now
    ∙ ap (λ (n : ℕ). changes_from creator n before now) (let is : suc slot + length front ≡ slot + suc (length front) = omega arith in is)

-- a change behind what is the same
changes_hit : (creator from : ℕ) (front : List Obs) (b o : Obs) (before now : List Obs) → ((from + length front) == creator) ≡ false → obs_eq o b ≡ false
    → changes_from creator from (front ++ b ∷ before) (front ++ o ∷ now) ≡ record { slot = from + length front; obs = o } ∷ changes_from creator (suc (from + length front)) before now
changes_hit creator from front b o before now apart other =
    changes_same creator from front (b ∷ before) (o ∷ now)
    ∙ ap (λ (l : List Change). l ++ changes_from creator (suc (from + length front)) before now) (one_change creator (from + length front) b o apart other)

-- ---- what is read was told

-- what was read, of the slots from this one on
pub record Told (creator n from : ℕ) (before now : List Obs) (r after : Rest) : Type 0 where
  pub size : length now ≡ length before
  pub count : length (changes_from creator from before now) ≡ n
  pub takes : Takes r (flat_map change_bytes (changes_from creator from before now)) after
  pub each : AllByRecursion ChangeInRange (changes_from creator from before now)
  pub own : (j : ℕ) → from + j ≡ creator → get_or now j Absent ≡ get_or before j Absent

own_more : (from creator : ℕ) (front : List Obs) (b o : Obs) (before now : List Obs) → from + length front ≢ creator
    → ((i : ℕ) → suc (from + length front) + i ≡ creator → get_or now i Absent ≡ get_or before i Absent)
    → (j : ℕ) → from + j ≡ creator → get_or (front ++ o ∷ now) j Absent ≡ get_or (front ++ b ∷ before) j Absent
own_more from creator [] b o before now ne rest zero is = absurd (ne (omega arith))
own_more from creator [] b o before now ne rest (suc j) is = rest j (omega arith)
own_more from creator (x ∷ front) b o before now ne rest zero is = refl
own_more from creator (x ∷ front) b o before now ne rest (suc j) is =
    own_more (suc from) creator front b o before now (λ (e : suc from + length front ≡ creator). ne (omega arith)) (λ i (e : suc (suc from + length front) + i ≡ creator). rest i (omega arith)) j (omega arith)

told_more : (creator n from : ℕ) (front : List Obs) (b o : Obs) (before now : List Obs) (r between after : Rest)
    → from + length front ≢ creator → obs_eq o b ≡ false → ChangeInRange (record { slot = from + length front; obs = o })
    → Takes r (change_bytes (record { slot = from + length front; obs = o })) between → Told creator n (suc (from + length front)) before now between after
    → Told creator (suc n) from (front ++ b ∷ before) (front ++ o ∷ now) r after
told_more creator n from front b o before now r between after apart other in_range takes told =
    let slot = from + length front in
    let c : Change = record { slot = slot; obs = o } in
    let hit = sym (changes_hit creator from front b o before now (ne_eqb slot creator apart) other) in
    record {
      size = omega (arith, told.size, length-append front (o ∷ now), length-append front (b ∷ before));
      count = subst (λ (l : List Change). length l ≡ suc n) hit (ap suc told.count);
      takes = subst (λ (l : List Change). Takes r (flat_map change_bytes l) after) hit (Takes-then r (change_bytes c) between (flat_map change_bytes (changes_from creator (suc slot) before now)) after takes told.takes);
      each = subst (AllByRecursion ChangeInRange) hit (in_range, told.each);
      own = own_more from creator front b o before now apart told.own;
    }

cut_at : (list : List Obs) (j : ℕ) → j < length list → list ≡ take j list ++ (get_or list j Absent ∷ drop (suc j) list)
cut_at list j lt = sym (take-append-drop j list) ∙ ap (λ (l : List Obs). take j list ++ l) (drop-cons list j Absent lt)

set_there : (front : List Obs) (b o : Obs) (behind : List Obs) (slot : ℕ) → slot ≡ length front → set (front ++ b ∷ behind) slot o ≡ (front ++ o ∷ []) ++ behind
set_there front b o behind slot is = ap (λ (n : ℕ). set (front ++ b ∷ behind) n o) is ∙ set-append_seam front b behind o ∙ sym (append_assoc front (o ∷ []) behind)

get_there : (front : List Obs) (b : Obs) (behind : List Obs) (slot : ℕ) → slot ≡ length front → get_or (front ++ b ∷ behind) slot Absent ≡ b
get_there front b behind slot is = ap (λ (n : ℕ). get_or (front ++ b ∷ behind) n Absent) is ∙ get_or-append_seam front b behind Absent

-- so many changes are read only where they are told
pub changes_take : (creator n from : ℕ) (front before : List Obs) (r : Rest) (now : List Obs) (after : Rest) → length front ≡ from → AreBytes r.bytes
    → changed_at creator n from (front ++ before) r ≡ Ok (now, after) → (behind : List Obs) × (now ≡ front ++ behind) × Told creator n from before behind r after
unfolding changed_at
changes_take creator zero from front before r now after is_front fits e =
    let is = ok_is (front ++ before, r) (now, after) e in
    let rest : r ≡ after = ap (λ (x : List Obs × Rest). x.1) is in
    let none = sym (changes_none creator from before) in
    let takes : Takes r [] after = record { parts = ap (λ (x : Rest). x.bytes) rest; place = sym (ap (λ (x : Rest). x.place) rest) ∙ omega arith; bytes = subst (λ (x : Rest). AreBytes x.bytes) rest fits } in (
      before,
      sym (ap (λ (x : List Obs × Rest). x.0) is),
      record {
        size = refl;
        count = subst (λ (l : List Change). length l ≡ 0) none refl;
        takes = subst (λ (l : List Change). Takes r (flat_map change_bytes l) after) none takes;
        each = subst (AllByRecursion ChangeInRange) none tt;
        own = λ j at. refl;
      },
    )
changes_take creator (suc n) from front before r now after is_front fits e =
    let m = bind_ok (change_at creator from (front ++ before) r) (λ (c : Change × Rest). changed_at creator n (c.0.slot + 1) (set (front ++ before) c.0.slot c.0.obs) c.1) (now, after) e in
    let c = m.0.0 in
    let t = (change_reading creator from (front ++ before)).takes r c m.0.1 fits m.1 in
    let s = slot_is creator from (front ++ before) c.slot t.2.slot in
    let low : from ≤ c.slot = s.low in
    let within : c.slot < length (front ++ before) = s.within in
    let total = length-append front before in
    let j : ℕ = c.slot - from in
    let there : j < length before = omega arith in
    step creator n from front (take j before) (get_or before j Absent) c (drop (suc j) before) before r m.0.1 now after is_front (cut_at before j there)
    (let long = length-take-le j before (omega arith) in omega arith) t m.2
    (λ (front' : List Obs) (is : length front' ≡ c.slot + 1) (so_far : changed_at creator n (c.slot + 1) (front' ++ drop (suc j) before) m.0.1 ≡ Ok (now, after)).
    changes_take creator n (c.slot + 1) front' (drop (suc j) before) m.0.1 now after is t.0.bytes so_far)
  where
    step : (creator n from : ℕ) (front same : List Obs) (b : Obs) (c : Change) (others before : List Obs) (r between : Rest) (now : List Obs) (after : Rest) → length front ≡ from
        → before ≡ same ++ b ∷ others → c.slot ≡ from + length same
        → Takes r (change_bytes c) between × Any c × IsChange creator from (front ++ before) c
        → changed_at creator n (c.slot + 1) (set (front ++ before) c.slot c.obs) between ≡ Ok (now, after)
        → ((front' : List Obs) → length front' ≡ c.slot + 1 → changed_at creator n (c.slot + 1) (front' ++ others) between ≡ Ok (now, after) → (behind : List Obs) × (now ≡ front' ++ behind) × Told creator n (c.slot + 1) others behind between after)
        → (behind : List Obs) × (now ≡ front ++ behind) × Told creator (suc n) from before behind r after
    step creator n from front same b c others before r between now after is_front cut slot t so_far others_told =
        let whole : front ++ before ≡ (front ++ same) ++ b ∷ others = ap (λ (l : List Obs). front ++ l) cut ∙ sym (append_assoc front same (b ∷ others)) in
        let place : c.slot ≡ length (front ++ same) = omega (arith, length-append front same) in
        let made : set (front ++ before) c.slot c.obs ≡ ((front ++ same) ++ c.obs ∷ []) ++ others = ap (λ (l : List Obs). set l c.slot c.obs) whole ∙ set_there (front ++ same) b c.obs others c.slot place in
        let there : get_or (front ++ before) c.slot Absent ≡ b = ap (λ (l : List Obs). get_or l c.slot Absent) whole ∙ get_there (front ++ same) b others c.slot place in
        let is = slot_is creator from (front ++ before) c.slot t.2.slot in
        let apart : from + length same ≢ creator = λ (e : from + length same ≡ creator). is.other (slot ∙ e) in
        let other : obs_eq c.obs b ≡ false = subst (λ (o : Obs). obs_eq c.obs o ≡ false) there t.2.other in
        let same_change : c ≡ record { slot = from + length same; obs = c.obs } = ap (λ (n : ℕ). record { slot = n; obs = c.obs }) slot in
        let long : length ((front ++ same) ++ c.obs ∷ []) ≡ c.slot + 1 = omega (arith, length-append (front ++ same) (c.obs ∷ [])) in
        let told = others_told ((front ++ same) ++ c.obs ∷ []) long (subst (λ (l : List Obs). changed_at creator n (c.slot + 1) l between ≡ Ok (now, after)) made so_far) in
        let next : c.slot + 1 ≡ suc (from + length same) = omega arith in
        let behind : Told creator n (suc (from + length same)) others told.0 between after = subst (λ (m : ℕ). Told creator n m others told.0 between after) next told.2 in (
          same ++ c.obs ∷ told.0,
          told.1 ∙ append_assoc (front ++ same) (c.obs ∷ []) told.0 ∙ append_assoc front same (c.obs ∷ told.0),
          subst (λ (l : List Obs). Told creator (suc n) from l (same ++ c.obs ∷ told.0) r after) (sym cut)
              (told_more creator n from same b c.obs others told.0 r between after apart other (subst ChangeInRange same_change t.2.in_range) (subst (λ (d : Change). Takes r (change_bytes d) between) same_change t.0) behind),
        )

-- ---- what is told is read

-- these changes, read in front of the rest, make the panorama
abbrev Again : ℕ → ℕ → List Obs → List Obs → ℕ → List ℕ → List Change → Type 0
Again creator from before now place rest changes =
    changed_at creator (length changes) from before (at place (flat_map change_bytes changes ++ rest)) ≡ Ok (now, at (place + length (flat_map change_bytes changes)) rest)

one_again : (creator from slot : ℕ) (front : List Obs) (b o : Obs) (before now : List Obs) (place : ℕ) (rest : List ℕ) (others : List Change) → slot ≡ length front → from ≤ slot
    → (slot == creator) ≡ false → obs_eq o b ≡ false → ChangeInRange (record { slot = slot; obs = o })
    → ((place' : ℕ) → Again creator (slot + 1) ((front ++ o ∷ []) ++ before) ((front ++ o ∷ []) ++ now) place' rest others)
    → Again creator from (front ++ b ∷ before) (front ++ o ∷ now) place rest (record { slot = slot; obs = o } ∷ others)
unfolding changed_at
one_again creator from slot front b o before now place rest others is low apart other in_range next =
    let c : Change = record { slot = slot; obs = o } in
    let text = flat_map change_bytes others in
    let stands : IsChange creator from (front ++ b ∷ before) c = record {
      in_range = in_range;
      slot = is_slot_of creator from (front ++ b ∷ before) slot low (omega (arith, length-append front (b ∷ before))) apart;
      other = subst (λ (x : Obs). obs_eq o x ≡ false) (sym (get_there front b before slot is)) other;
    } in
    let go : Change × Rest → Read (List Obs) = λ (x : Change × Rest). changed_at creator (length others) (x.0.slot + 1) (set (front ++ b ∷ before) x.0.slot x.0.obs) x.1 in
    ap (λ (bytes : List ℕ). change_at creator from (front ++ b ∷ before) (at place bytes) >>= go) (append_assoc (change_bytes c) text rest)
    ∙ ap (λ (m : Read Change). m >>= go) ((change_reading creator from (front ++ b ∷ before)).again c place (text ++ rest) tt stands)
    ∙ ap (λ (l : List Obs). changed_at creator (length others) (slot + 1) l (at (place + length (change_bytes c)) (text ++ rest))) (set_there front b o before slot is)
    ∙ next (place + length (change_bytes c))
    ∙ ap (λ (l : List Obs). done (l, at (place + length (change_bytes c) + length text) rest)) (append_assoc front (o ∷ []) now)
    ∙ ap (λ (p : ℕ). done (front ++ o ∷ now, at p rest)) (let far : place + length (change_bytes c) + length text ≡ place + length (change_bytes c ++ text) = omega (arith, length-append (change_bytes c) text) in far)

-- one slot more
again_step : (creator from slot : ℕ) (front : List Obs) (b o : Obs) (before now : List Obs) (place : ℕ) (rest : List ℕ) → slot ≡ length front → from ≤ slot
    → (slot ≡ creator → o ≡ b) → AllByRecursion ChangeInRange (changes_from creator slot (b ∷ before) (o ∷ now))
    → ((from' : ℕ) (front' : List Obs) (place' : ℕ) → suc slot ≡ length front' → from' ≤ suc slot → AllByRecursion ChangeInRange (changes_from creator (suc slot) before now)
    → Again creator from' (front' ++ before) (front' ++ now) place' rest (changes_from creator (suc slot) before now))
    → (none : Bool) → ((slot == creator) || obs_eq o b) ≡ none → Again creator from (front ++ b ∷ before) (front ++ o ∷ now) place rest (changes_from creator slot (b ∷ before) (o ∷ now))
again_step creator from slot front b o before now place rest is low own each next true none =
    let others = changes_from creator (suc slot) before now in
    let nothing : change_in creator slot b o ≡ [] = rw none refl in
    let all : changes_from creator slot (b ∷ before) (o ∷ now) ≡ others = ap (λ (l : List Change). l ++ others) nothing in
    let kept : b ≡ o = elim (or_cases (slot == creator) (obs_eq o b) none) [
      | inl own_slot ↦ sym (own (eqb-true slot creator own_slot))
      | inr equal ↦ sym (obs_exact o b equal)
    ] in
    let left : (front ++ b ∷ []) ++ before ≡ front ++ b ∷ before = append_assoc front (b ∷ []) before in
    let right : (front ++ b ∷ []) ++ now ≡ front ++ o ∷ now = append_assoc front (b ∷ []) now ∙ ap (λ (x : Obs). front ++ x ∷ now) kept in
    let each' : AllByRecursion ChangeInRange others = subst (AllByRecursion ChangeInRange) all each in
    let then = next from (front ++ b ∷ []) place (omega (arith, length-append front (b ∷ []))) (omega arith) each' in
    subst (Again creator from (front ++ b ∷ before) (front ++ o ∷ now) place rest) (sym all)
    (subst (λ (l : List Obs). Again creator from (front ++ b ∷ before) l place rest others) right
    (subst (λ (l : List Obs). Again creator from l ((front ++ b ∷ []) ++ now) place rest others) left then))
again_step creator from slot front b o before now place rest is low own each next false none =
    let others = changes_from creator (suc slot) before now in
    let parts = or_parts (slot == creator) (obs_eq o b) none in
    let hit : changes_from creator slot (b ∷ before) (o ∷ now) ≡ record { slot = slot; obs = o } ∷ others = ap (λ (l : List Change). l ++ others) (one_change creator slot b o parts.0 parts.1) in
    let each' : AllByRecursion ChangeInRange (record { slot = slot; obs = o } ∷ others) = subst (AllByRecursion ChangeInRange) hit each in
    subst (Again creator from (front ++ b ∷ before) (front ++ o ∷ now) place rest) (sym hit)
    (one_again creator from slot front b o before now place rest others is low parts.0 parts.1 each'.0
    (λ (place' : ℕ). next (slot + 1) (front ++ o ∷ []) place' (omega (arith, length-append front (o ∷ []))) (omega arith) each'.1))

-- the changes that are told make the panorama
pub changes_again : (creator from slot : ℕ) (front before now : List Obs) (place : ℕ) (rest : List ℕ) → slot ≡ length front → from ≤ slot → length now ≡ length before
    → ((j : ℕ) → slot + j ≡ creator → get_or now j Absent ≡ get_or before j Absent) → AllByRecursion ChangeInRange (changes_from creator slot before now)
    → Again creator from (front ++ before) (front ++ now) place rest (changes_from creator slot before now)
unfolding changed_at
changes_again creator from slot front [] [] place rest is low size own each = ap (λ (p : ℕ). done (front ++ [], at p rest)) (let same : place ≡ place + 0 = omega arith in same)
changes_again creator from slot front [] (o ∷ now) place rest is low size own each = absurd (omega arith)
changes_again creator from slot front (b ∷ before) [] place rest is low size own each = absurd (omega arith)
changes_again creator from slot front (b ∷ before) (o ∷ now) place rest is low size own each =
    again_step creator from slot front b o before now place rest is low (λ (e : slot ≡ creator). own 0 (omega arith)) each
    (λ (from' : ℕ) (front' : List Obs) (place' : ℕ) (is' : suc slot ≡ length front') (low' : from' ≤ suc slot) (each' : AllByRecursion ChangeInRange (changes_from creator (suc slot) before now)).
    changes_again creator from' (suc slot) front' before now place' rest is' low' (omega arith) (λ j (e : suc slot + j ≡ creator). own (suc j) (omega arith)) each')
    ((slot == creator) || obs_eq o b) refl
