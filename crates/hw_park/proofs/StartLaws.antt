-- Laws of the beginning.
use Rattle.std.proofs.Common.{◌≡◌, ℕ, Bool, List, [], Option, Some, None, refl, ap, sym, ◌∙◌, subst, arith, if◌then◌else◌}
use Rattle.std.specs.declared.cmp.Reverse.{Reverse}
use Rattle.hw_types.specs.declared.unit.Need.{Need}
use Rattle.hw_park.specs.declared.waiter.Waiter.{Waiter}
use Rattle.hw_park.specs.Numbers.{has_number}
use Rattle.hw_park.specs.Held.{Held, slot_at, ready_at}
use Rattle.hw_park.specs.Kept.{listed, is_so, tally_of, IsQueue, IsKept, AreNoted}

none_there : {T : Type 0} (place : ℕ) (w : Waiter T) → slot_at [] place ≡ Some w → ⊥
none_there place w there = cc there

-- no place is noted at first
noted_none : {T : Type 0} (notes : Need → List ℕ) → ((n : Need) → notes n ≡ []) → AreNoted {T = T} [] notes
noted_none {T} notes none = record {
  empty = λ place n e. ap (λ (ns : List ℕ). has_number ns place) (none n);
  wholly = λ place w n there has. absurd (none_there place w there);
  counted = λ place w there. absurd (none_there place w there);
}

-- nothing is parked at first
pub kept_none : {T : Type 0} (limit : ℕ) (h : Held T) (notes : Need → List ℕ) (ready : List (Reverse ℕ)) (len room : ℕ)
    → h.places ≡ [] → h.slots ≡ [] → ((n : Need) → notes n ≡ []) → ready ≡ [] → IsQueue ready → len ≡ 0 → IsKept limit 0 0 h notes ready len room
unfolding listed
kept_none {T} limit h notes ready len room no_places no_slots no_notes empty ordered len_is = record {
  counted = refl;
  within = omega arith;
  noted = subst (λ (slots : List (Option (Waiter T))). AreNoted slots notes) (sym no_slots) (noted_none notes no_notes);
  queue = record {
    ordered = ordered;
    once = λ k. ap (λ (rs : List (Reverse ℕ)). tally_of rs k) empty ∙ sym (ap {B = ℕ} (λ (o : Option Bool). if is_so o then 1 else 0) (none k));
    many = len_is;
    fits = omega arith;
    below = λ k high. none k;
  };
}
  where
    none : (k : ℕ) → ready_at h k ≡ None
    none k = ap (λ (places : List (ℕ × ℕ)). ready_at (record { places = places; slots = h.slots }) k) no_places
