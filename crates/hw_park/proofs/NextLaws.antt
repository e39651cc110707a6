-- Laws of handing out.
use Rattle.std.proofs.Common.{◌≡◌, ◌≢◌, ◌⊎◌, inl, inr, ℕ, ◌+◌, ◌-◌, ◌<◌, Bool, true, false, ◌||◌, nat_eq, List, [], ◌∷◌, length, Option, Some, None, refl, ap, sym, ◌∙◌, arith, All, eqb-true, if◌then◌else◌}
use Rattle.std.specs.List.{count_by, list_any}
use Rattle.std.specs.List.Sorted.{IsPermutation}
use Rattle.std.specs.Map.{lookup}
use Rattle.std.specs.Option.{option_map, option_and_then}
use Rattle.std.specs.Ordering.{nat_cmp}
use Rattle.std.specs.BinaryHeap.{IsUpperBound}
use Rattle.std.specs.declared.cmp.Reverse.{Reverse}
use Rattle.hw_types.specs.declared.unit.Need.{Need}
use Rattle.hw_types.specs.Settled.{need_eq}
use Rattle.hw_park.specs.declared.waiter.Waiter.{Waiter}
use Rattle.hw_park.specs.Numbers.{has_number}
use Rattle.hw_park.specs.Held.{Held, slot_at, left_of, found, seen, held, is_over, ready_at}
use Rattle.hw_park.specs.Parked.{Waiting, is_ready, next_item, without_next}
use Rattle.hw_park.specs.Kept.{listed, is_so, is_ready_at, IsQueue, IsQueueOf, IsKept, AreNoted}
use Rattle.hw_park.proofs.KeyLaws.{need_same}
use Rattle.hw_park.proofs.HeldLaws.{at_known, found_at}
use Rattle.hw_park.proofs.ListedLaws.{worth, count-step, count-all}
use Rattle.hw_park.proofs.NoteLaws.{times-some, need-there}
use Rattle.hw_park.proofs.ReadyLaws.{quiet, quiet-needs, needs-quiet, take_out}
use Rattle.hw_park.proofs.QueueLaws.{first_ready, none_earlier, ready_below, queue-popped}
use Rattle.hw_park.proofs.StruckLaws.{so_ready, count_ready}
use Rattle.hw_park.proofs.WaiterLaws.{IsSet, waiting-set, waiting-other}

-- nothing is handed out where no number is ready
pub record IsQuiet {T : Type 0} (ws : List (Waiting T)) : Type 0 where
  pub none : next_item ws ≡ None
  pub same : without_next ws ≡ ws
  pub needs : All (λ w. w.needs ≢ []) ws

pub nothing_ready : {T : Type 0} (limit count n : ℕ) (h : Held T) (notes : Need → List ℕ) (ready : List (Reverse ℕ)) (len room : ℕ)
    → IsKept limit count n h notes ready len room → len ≡ 0 → IsQuiet (listed (held h notes) n)
nothing_ready {T} limit count n h notes ready len room kept empty =
    let none : count_by is_ready (listed (held h notes) n) ≡ 0 = omega (arith, kept.queue.many, empty, count_ready h notes kept.noted n) in
    record {
      none = ap (λ (o : Option (Waiting T)). option_map (λ w. w.item) o) (quiet (listed (held h notes) n) none).0;
      same = (quiet (listed (held h notes) n) none).1;
      needs = quiet-needs (listed (held h notes) n) none;
    }

-- a waiter was taken out of its place
pub record IsTakenOut {T : Type 0} (old new : Held T) (notes : Need → List ℕ) (k : ℕ) (w : Waiter T) : Type 0 where
  pub item : found old k ≡ Some w
  pub ready : IsSet (ready_at old) (ready_at new) k None
  pub items : IsSet (held old notes) (held new notes) k None
  pub slots : (q : ℕ) → (slot_at new.slots q ≡ slot_at old.slots q) ⊎ ((slot_at new.slots q ≡ None) × (slot_at old.slots q ≡ Some w))

-- what is handed out, and what is left
pub record IsHandedOut {T : Type 0} (limit count n : ℕ) (old new : Held T) (notes : Need → List ℕ) (rest : List (Reverse ℕ)) (less room : ℕ) (item : T) : Type 0 where
  pub kept : IsKept limit (count - 1) n new notes rest less room
  pub item_is : Some item ≡ next_item (listed (held old notes) n)
  pub others : listed (held new notes) n ≡ without_next (listed (held old notes) n)
  pub counted : 0 < count

-- the place of a waiter without a need left is noted for no need
unnoted : {T : Type 0} (slots : List (Option (Waiter T))) (notes : Need → List ℕ) → AreNoted slots notes → (q : ℕ) (w : Waiter T) → slot_at slots q ≡ Some w → w.left ≡ 0
    → (m : Need) → has_number (notes m) q ≡ false
unnoted slots notes noted q w there over m = go (has_number (notes m) q) refl
  where
    none_left : (ns : List Need) → length (left_of notes q ns) ≡ 0 → list_any (need_eq m) ns ≡ true → has_number (notes m) q ≡ true → ⊥
    none_left [] none has mine = absurd cc
    none_left (k ∷ ks) none has mine = by (need_eq m k) refl (has_number (notes k) q) refl (λ less there. none_left ks less there mine)
      where
        by : (a : Bool) → need_eq m k ≡ a → (b : Bool) → has_number (notes k) q ≡ b → (length (left_of notes q ks) ≡ 0 → list_any (need_eq m) ks ≡ true → ⊥) → ⊥
        by true e true f rest =
            let long : length (left_of notes q (k ∷ ks)) ≡ length (k ∷ left_of notes q ks) = ap (λ (b : Bool). length (if b then k ∷ left_of notes q ks else left_of notes q ks)) f in
            absurd (omega (arith, none, long))
        by true e false f rest = absurd (cc (sym f ∙ ap (λ (x : Need). has_number (notes x) q) (sym (need_same m k e)) ∙ mine))
        by false e true f rest =
            let long : length (left_of notes q (k ∷ ks)) ≡ length (k ∷ left_of notes q ks) = ap (λ (b : Bool). length (if b then k ∷ left_of notes q ks else left_of notes q ks)) f in
            absurd (omega (arith, none, long))
        by false e false f rest =
            rest (sym (ap (λ (b : Bool). length (if b then k ∷ left_of notes q ks else left_of notes q ks)) f) ∙ none)
            (sym (ap (λ (b : Bool). b || list_any (need_eq m) ks) e) ∙ has)

    go : (b : Bool) → has_number (notes m) q ≡ b → has_number (notes m) q ≡ false
    go false e = e
    go true e =
        let some = times-some (notes m) q e in
        let often = noted.wholly q w m there e in
        let has : list_any (need_eq m) w.needs.items ≡ true = need-there m w.needs.items (omega (arith, some, often)) in
        let none : length (left_of notes q w.needs.items) ≡ 0 = sym (noted.counted q w there) ∙ over in
        absurd (none_left w.needs.items none has e)

-- once it is gone, the places are noted as they should
noted_taken : {T : Type 0} (old new : Held T) (notes : Need → List ℕ) (k : ℕ) (w : Waiter T) → AreNoted old.slots notes → IsTakenOut old new notes k w → w.left ≡ 0 → AreNoted new.slots notes
noted_taken {T} old new notes k w noted out over = record {
  empty = λ q m none. empty q m none (out.slots q);
  wholly = λ q v m there has. noted.wholly q v m (was q v there (out.slots q)) has;
  counted = λ q v there. noted.counted q v (was q v there (out.slots q));
}
  where
    was : (q : ℕ) (v : Waiter T) → slot_at new.slots q ≡ Some v → ((slot_at new.slots q ≡ slot_at old.slots q) ⊎ ((slot_at new.slots q ≡ None) × (slot_at old.slots q ≡ Some w))) → slot_at old.slots q ≡ Some v
    was q v there (inl same) = sym same ∙ there
    was q v there (inr gone) = absurd (cc (sym there ∙ gone.0))

    empty : (q : ℕ) (m : Need) → slot_at new.slots q ≡ None → ((slot_at new.slots q ≡ slot_at old.slots q) ⊎ ((slot_at new.slots q ≡ None) × (slot_at old.slots q ≡ Some w))) → has_number (notes m) q ≡ false
    empty q m none (inl same) = noted.empty q m (sym same ∙ none)
    empty q m none (inr gone) = unnoted old.slots notes noted q w gone.1 over m

pub handed_out : {T : Type 0} (limit count n : ℕ) (old new : Held T) (notes : Need → List ℕ) (ready rest : List (Reverse ℕ)) (len less room : ℕ) (r : Reverse ℕ) (w : Waiter T)
    → IsKept limit count n old notes ready len room → IsPermutation ready (r ∷ rest) → IsUpperBound (λ x y. nat_cmp y.0 x.0) r rest → IsQueue rest → less + 1 ≡ len
    → IsTakenOut old new notes r.0 w
    → IsHandedOut limit count n old new notes rest less room w.item
handed_out {T} limit count n old new notes ready rest len less room r w kept moved bound ordered fewer taken =
    let said = first_ready (ready_at old) n ready rest len room r kept.queue moved in
    let place = found_at old r.0 w taken.item in
    let v : Waiting T = seen notes place.0 w in
    let now : held old notes r.0 ≡ Some v = at_known (seen notes) old r.0 place.0 w place.1 place.2 in
    let over : ready_at old r.0 ≡ Some (is_over w) = at_known (λ _ x. is_over x) old r.0 place.0 w place.1 place.2 in
    let none_left : w.left ≡ 0 = eqb-true w.left 0 (sym (ap is_so over) ∙ said) in
    let is : is_ready v ≡ true = sym (ap is_ready_at now) ∙ sym (so_ready old notes kept.noted r.0) ∙ said in
    let low = ready_below (ready_at old) n ready len room r.0 kept.queue said in
    let gone = waiting-set (held old notes) (held new notes) r.0 None taken.items in
    let others = waiting-other (held old notes) (held new notes) r.0 None taken.items in
    let earlier : (j : ℕ) → j < r.0 → is_ready_at (held old notes j) ≡ false =
    λ j below. sym (so_ready old notes kept.noted j) ∙ none_earlier (ready_at old) n ready rest len room r kept.queue moved bound j below in
    let out = take_out (held old notes) (held new notes) n r.0 v low now is earlier gone others in
    let step = count-step (λ _. true) (held old notes) (held new notes) n r.0 others (λ high. absurd (omega arith)) in
    let one = ap (worth (λ _. true)) now in
    let none = ap (worth (λ _. true)) gone in
    let fall : length (listed (held new notes) n) + 1 ≡ length (listed (held old notes) n) = omega (arith, step, one, none, count-all (listed (held old notes) n), count-all (listed (held new notes) n)) in
    record {
      kept = record {
        counted = omega (arith, kept.counted, fall);
        within = omega (arith, kept.within);
        noted = noted_taken old new notes r.0 w kept.noted taken none_left;
        queue = queue-popped (ready_at old) (ready_at new) n ready rest len less room r kept.queue moved ordered fewer
            (waiting-set (ready_at old) (ready_at new) r.0 None taken.ready) (waiting-other (ready_at old) (ready_at new) r.0 None taken.ready);
      };
      item_is = sym (ap (λ (o : Option (Waiting T)). option_map (λ v. v.item) o) out.0);
      others = out.1;
      counted = omega (arith, kept.counted, fall);
    }

-- what is handed out doesn't have a need left
pub none_waits : {T : Type 0} (ws : List (Waiting T)) → All (λ w. w.needs ≢ []) ws → (item : T) → Some item ≡ next_item ws → ⊥
none_waits {T} ws all item found = cc (found ∙ ap (λ (o : Option (Waiting T)). option_map (λ w. w.item) o) (needs-quiet ws all))

-- a number of which it is said that it is ready has a waiter
none_found : {T : Type 0} (h : Held T) (k : ℕ) → None ≡ found h k → is_so (ready_at h k) ≡ true → ⊥
none_found {T} h k gone said = go (lookup (nat_eq k) h.places) gone said
  where
    at : (p : ℕ) (s : Option (Waiter T)) → None ≡ s → is_so (option_map is_over s) ≡ true → ⊥
    at p None gone said = absurd cc
    at p (Some w) gone said = absurd cc

    go : (o : Option ℕ) → None ≡ option_and_then (λ place. slot_at h.slots place) o → is_so (option_and_then (λ place. option_map is_over (slot_at h.slots place)) o) ≡ true → ⊥
    go None gone said = absurd cc
    go (Some p) gone said = at p (slot_at h.slots p) gone said

-- who is ready hasn't gone
pub never_gone : {T : Type 0} (h : Held T) (n : ℕ) (ready rest : List (Reverse ℕ)) (len room : ℕ) (r : Reverse ℕ)
    → IsQueueOf (ready_at h) n ready len room → IsPermutation ready (r ∷ rest) → None ≡ found h r.0 → ⊥
never_gone h n ready rest len room r queue moved gone =
    let said = first_ready (ready_at h) n ready rest len room r queue moved in
    none_found h r.0 gone said
