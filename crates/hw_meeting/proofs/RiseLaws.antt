-- Whether numbers rise, as a loop tells it.
use Rattle.std.proofs.Common.{◌≡◌, ℕ, ◌+◌, ◌<◌, ◌≤◌, ◌&&◌, nat_le, true, false, List, length, get_or, drop, sym, ap, ◌∙◌, add-one, drop-cons}
use Rattle.std.proofs.lemmas.List.{drop_all}
use Rattle.std.proofs.lemmas.Bool.{le-leb, lt-leb}
use Rattle.hw_meeting.specs.Frames.{rise_from}

opened : (least i : ℕ) (ns : List ℕ) → i < length ns → rise_from least (drop i ns) ≡ (nat_le least (get_or ns i 0) && rise_from (get_or ns i 0 + 1) (drop (i + 1) ns))
unfolding rise_from
opened least i ns within = ap (rise_from least) (drop-cons ns i 0 within) ∙ ap (λ j. nat_le least (get_or ns i 0) && rise_from (get_or ns i 0 + 1) (drop j ns)) (sym (add-one i))

-- a number that is high enough
pub goes_on : (least i : ℕ) (ns : List ℕ) → i < length ns → least ≤ get_or ns i 0 → rise_from least (drop i ns) ≡ rise_from (get_or ns i 0 + 1) (drop (i + 1) ns)
goes_on least i ns within high = opened least i ns within ∙ ap (λ b. b && rise_from (get_or ns i 0 + 1) (drop (i + 1) ns)) (le-leb least (get_or ns i 0) high)

-- one that isn't
pub stops : (least i : ℕ) (ns : List ℕ) → i < length ns → get_or ns i 0 < least → rise_from least (drop i ns) ≡ false
stops least i ns within low = opened least i ns within ∙ ap (λ b. b && rise_from (get_or ns i 0 + 1) (drop (i + 1) ns)) (lt-leb least (get_or ns i 0) low)

-- all of them rise
pub is_done : (least i : ℕ) (ns : List ℕ) → length ns ≤ i → rise_from least (drop i ns) ≡ true
unfolding rise_from
is_done least i ns past = ap (rise_from least) (drop_all i ns past)
