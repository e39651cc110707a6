-- Endorsed lists that are below as a whole.
use Rattle.std.proofs.Common.{◌≡◌, ◌≤◌, inl, inr, true, ℕ, List, refl, sym, subst, ◌∙◌, arith}
use Rattle.hw_types.specs.declared.unit.Digest.{Digest}
use Rattle.hw_dag.specs.declared.numbers.UnitNo.{UnitNo}
use Rattle.hw_dag.specs.declared.numbers.View.{View}
use Rattle.hw_types.specs.Below.{Among}
use Rattle.hw_dag.specs.Dag.{UnitGraph, unit_at}
use Rattle.hw_dag.specs.Lanes.{is_seen}
use Rattle.hw_dag.specs.Admission.{IsGraph}
use Rattle.hw_dag.specs.Tables.{IsKnown}
use Rattle.hw_dag.specs.Walks.{HasRoom}
use Rattle.hw_dag.specs.Lists.{IsBelowSomeNamed, HasRoomForNamed}
use Rattle.hw_dag.proofs.MarkLaws.{seen_earlier, seen_through}
use Rattle.hw_naivety.specs.Tips.{IsBelowEndorsed}
use Rattle.hw_naivety.specs.Heirs.{HasListBelow, IsBequeathed, IsOnly}

module _ (dag : UnitGraph) (g : IsGraph dag) (panorama : List View) (known : IsKnown dag panorama) (endorsed : List Digest) where
  -- a list that is below an observed unit is below
  pub list_through : (before : UnitNo) → IsBequeathed dag panorama endorsed before → HasListBelow dag panorama endorsed
  list_through before b name m n lt e =
      let lower = b.list_below name m n lt e in
      record {
        slot = b.slot;
        cited = before;
        observed = b.observed;
        seen = seen_through dag g n lower.cited.0 before.0 lt (known b.slot before b.observed) lower.seen (record { slot = lower.slot; number = lower.cited; seen = lower.observed; is = refl });
      }

  -- marks that serve for the observed units serve for those of the list
  pub list_room : (room : ℕ) → HasListBelow dag panorama endorsed → HasRoom panorama room → HasRoomForNamed dag endorsed room
  list_room room list serves n h =
      let b = list h.name h.among n h.known h.named in
      let less = seen_earlier dag g n b.cited.0 h.known (known b.slot b.cited b.observed) b.seen in
      let up = serves b.slot b.cited b.observed in
      omega arith

  -- and what is below a unit with a name of the list is below one that is below
  pub named_listed : (n : ℕ) → HasListBelow dag panorama endorsed → IsBelowSomeNamed dag endorsed n → IsBelowEndorsed dag panorama endorsed n
  named_listed n list b = record {
    name = b.name;
    among = b.among;
    below = record { named = b.number; known = b.known; name_is = b.named; found = list b.name b.among b.number b.known b.named; seen = b.seen };
  }

  pub listed_named : (n : ℕ) → IsBelowEndorsed dag panorama endorsed n → IsBelowSomeNamed dag endorsed n
  listed_named n b = record { name = b.name; among = b.among; number = b.below.named; known = b.below.known; named = b.below.name_is; seen = b.below.seen }

  -- where the list has one name alone, to be below it is to be below its unit
  pub only_listed : (only : UnitNo) → IsOnly dag endorsed only → (n : ℕ) → HasListBelow dag panorama endorsed → is_seen dag n only.0 ≡ true → IsBelowEndorsed dag panorama endorsed n
  only_listed only is n list seen =
      let among : Among (unit_at dag only.0).digest endorsed = subst (λ (ds : List Digest). Among (unit_at dag only.0).digest ds) (sym is.list_is) (inl refl) in
      record {
        name = (unit_at dag only.0).digest;
        among = among;
        below = record { named = only.0; known = is.known; name_is = refl; found = list (unit_at dag only.0).digest among only.0 is.known refl; seen = seen };
      }

  pub listed_only : (only : UnitNo) → IsOnly dag endorsed only → (n : ℕ) → IsBelowEndorsed dag panorama endorsed n → is_seen dag n only.0 ≡ true
  listed_only only is n b = elim (subst (λ (ds : List Digest). Among b.name ds) is.list_is b.among) [
    | inl named ↦
        let same : b.below.named ≡ only.0 = g.distinct b.below.named only.0 b.below.known is.known (b.below.name_is ∙ sym named) in
        subst (λ (k : ℕ). is_seen dag n k ≡ true) same b.below.seen
    | inr none ↦ absurd none
  ]

  -- marks that serve for the observed units serve for it
  pub only_room : (room : ℕ) (only : UnitNo) → IsOnly dag endorsed only → HasListBelow dag panorama endorsed → HasRoom panorama room → only.0 ≤ room
  only_room room only is list serves =
      let b = list (unit_at dag only.0).digest (subst (λ (ds : List Digest). Among (unit_at dag only.0).digest ds) (sym is.list_is) (inl refl)) only.0 is.known refl in
      let less = seen_earlier dag g only.0 b.cited.0 is.known (known b.slot b.cited b.observed) b.seen in
      let up = serves b.slot b.cited b.observed in
      omega arith
