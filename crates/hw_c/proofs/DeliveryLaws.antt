-- Deliveries one after the other.
use Rattle.std.proofs.Common.{◌≡◌, ℕ, suc, ◌+◌, ◌-◌, ◌<◌, ◌≤◌, List, [], ◌∷◌, ◌++◌, length, take, drop, set, slice_index_or, slice_range, Result, refl, sym, ap, subst, subst₂, ◌∙◌, arith}
use Rattle.std.proofs.lemmas.List.{take_more, take_more_set, length-take-le, length-drop}
use Rattle.std.proofs.lemmas.Slice.{take-put_mid}
use Rattle.std.proofs.Math.Seq.{take-add}
use borrow.Rule.Slice.PartMut.{put_mid, same_len_mid}
use Rattle.hw_types.specs.declared.answers.Receipt.{Receipt}
use Rattle.hw_types.specs.Real.{CoreState}
use Rattle.hw_c.specs.declared.codes.Fault.{Fault}
use Rattle.hw_c.specs.declared.sent.Sent.{Sent}
use Rattle.hw_c.specs.declared.sent.Delivered.{Delivered}
use Rattle.hw_c.specs.Deliveries.{IsDeliveryOf, AreDeliveries, delivered_of}

-- those of two lists
pub in_turn : (old : CoreState) (bytes : List ℕ) (sent more : List Sent) (told then : List Delivered) (next new : CoreState)
    → AreDeliveries old bytes sent told next → AreDeliveries next bytes more then new → AreDeliveries old bytes (sent ++ more) (told ++ then) new
in_turn old bytes [] more [] then next new first second = subst (λ (c : CoreState). AreDeliveries c bytes more then new) first second
in_turn old bytes (s ∷ sent) more (d ∷ told) then next new first second =
    (first.0, first.1, (first.2.0, first.2.1, in_turn first.2.0 bytes sent more told then next new first.2.2 second))
in_turn old bytes [] more (d ∷ told) then next new first second = absurd first
in_turn old bytes (s ∷ sent) more [] then next new first second = absurd first

-- each vertex is answered
pub as_many : (old : CoreState) (bytes : List ℕ) (sent : List Sent) (told : List Delivered) (new : CoreState) → AreDeliveries old bytes sent told new → length told ≡ length sent
as_many old bytes [] [] new are = refl
as_many old bytes (s ∷ sent) (d ∷ told) new are = ap suc (as_many are.2.0 bytes sent told new are.2.2)
as_many old bytes [] (d ∷ told) new are = absurd are
as_many old bytes (s ∷ sent) [] new are = absurd are

-- one more, behind those before it
pub one_more : (old : CoreState) (bytes : List ℕ) (sent : List Sent) (told : List Delivered) (k : ℕ) (s : Sent) (d : Delivered) (r : Result Receipt Fault) (next new : CoreState)
    → k < length sent → length told ≡ length sent → AreDeliveries old bytes (take k sent) (take k told) next → IsDeliveryOf next bytes (slice_index_or sent k s) r new → d ≡ delivered_of r
    → AreDeliveries old bytes (take (k + 1) sent) (take (k + 1) (set told k d)) new
one_more old bytes sent told k s d r next new low room before is answered =
    subst₂ (λ (xs : List Sent) (ds : List Delivered). AreDeliveries old bytes xs ds new) (sym (take_more sent k s low)) (sym (take_more_set told k d (omega arith)))
    (in_turn old bytes (take k sent) (slice_index_or sent k s ∷ []) (take k told) (d ∷ []) next new before (r, answered, (new, is, refl)))

-- so many of a list from a place on
part_length : {X : Type 0} (xs : List X) (at end : ℕ) → end ≤ length xs → length (take (end - at) (drop at xs)) ≡ end - at
part_length xs at end within = length-take-le (end - at) (drop at xs) (omega (arith, length-drop at xs))

-- the answers to some vertices take the place of as many
pub as_long : (next : CoreState) (bytes : List ℕ) (sent : List Sent) (told answers : List Delivered) (at end : ℕ) (new : CoreState) → end ≤ length sent → length told ≡ length sent
    → AreDeliveries next bytes (slice_range sent at end) answers new → length (put_mid at (end - at) told answers) ≡ length told
as_long next bytes sent told answers at end new within room are =
    same_len_mid at (end - at) told answers
    (as_many next bytes (slice_range sent at end) answers new are ∙ part_length sent at end within ∙ sym (part_length told at end (omega arith)))

-- some more, behind those before them
pub some_more : (old : CoreState) (bytes : List ℕ) (sent : List Sent) (told answers : List Delivered) (at end : ℕ) (next new : CoreState)
    → at ≤ end → end ≤ length sent → length told ≡ length sent → AreDeliveries old bytes (take at sent) (take at told) next
    → AreDeliveries next bytes (slice_range sent at end) answers new → AreDeliveries old bytes (take end sent) (take end (put_mid at (end - at) told answers)) new
some_more old bytes sent told answers at end next new ordered within room before are =
    let whole : at + (end - at) ≡ end = omega arith in
    let part : length (slice_range sent at end) ≡ end - at = part_length sent at end within in
    let sent_is : take end sent ≡ take at sent ++ slice_range sent at end = ap (λ (n : ℕ). take n sent) (sym whole) ∙ take-add at (end - at) sent in
    let told_is : take end (put_mid at (end - at) told answers) ≡ take at told ++ answers =
    take-put_mid at (end - at) told answers end (omega (arith, as_many next bytes (slice_range sent at end) answers new are)) (omega arith) in
    subst₂ (λ (xs : List Sent) (ds : List Delivered). AreDeliveries old bytes xs ds new) (sym sent_is) (sym told_is)
    (in_turn old bytes (take at sent) (slice_range sent at end) (take at told) answers next new before are)
