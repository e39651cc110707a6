-- Windows of a list, and what a read puts behind one.
use Rattle.std.proofs.Common.{◌≡◌, ℕ, ◌+◌, ◌-◌, ◌≤◌, List, ◌++◌, length, take, drop, slice_range, sym, ap, ◌∙◌, append_assoc, arith}
use Rattle.std.proofs.Math.Seq.{take-append-add}
use borrow.Rule.Slice.PartMut.{put_mid, post_of}
use Rattle.std.proofs.lemmas.List.{drop-drop, drop-take, length-append, length-take-le, take-append-le}

-- a window without its first bytes
pub window-rest : (xs : List ℕ) (start end count : ℕ) → start + count ≤ end → slice_range xs (start + count) end ≡ drop count (slice_range xs start end)
window-rest xs start end count within =
    let rest = end - (start + count) in
    let all : count + rest ≡ end - start = omega arith in
    ap (take rest) (sym (drop-drop count start xs))
    ∙ sym (drop-take count rest (drop start xs))
    ∙ ap (λ n. drop count (take n (drop start xs))) all

-- the bytes behind the first a after a read of n bytes into what stands there
pub take-read_behind : (a k n : ℕ) (xs ys : List ℕ) → a ≤ length xs → n ≤ length ys → take (a + n) (put_mid a k xs ys) ≡ take a xs ++ take n ys
take-read_behind a k n xs ys within count =
    let back = ys ++ post_of a k xs in
    ap (λ m. take (m + n) (take a xs ++ back)) (sym (length-take-le a xs within))
    ∙ take-append-add (take a xs) back n
    ∙ ap (λ l. take a xs ++ l) (take-append-le n ys (post_of a k xs) count)

-- what a read moved from what is unread to what is held
pub moved : (held got unread rest all : List ℕ) → held ++ unread ≡ all → unread ≡ got ++ rest → (held ++ got) ++ rest ≡ all
moved held got unread rest all was gave = append_assoc held got rest ∙ ap (λ l. held ++ l) (sym gave) ∙ was

pub length-read_behind : (a k n : ℕ) (xs ys : List ℕ) → a ≤ length xs → n ≤ length ys → a + n ≤ length (put_mid a k xs ys)
length-read_behind a k n xs ys within count =
    omega (arith, length-append (take a xs) (ys ++ post_of a k xs), length-append ys (post_of a k xs), length-take-le a xs within, count)
