-- The words of a committee, part by part.
use Rattle.std.proofs.Common.{◌≡◌, ℕ, zero, suc, ◌+◌, Bool, true, false, cond, List, [], ◌∷◌, ◌++◌, map, codes, Some, None, refl, sym, ap, ◌∙◌, arith, append-nil, append_assoc}
use Rattle.std.specs.Prelude.{filter, is_some, Result, Ok, Err, OnOk}
use Rattle.std.specs.List.{flat_map, range_with_len, join_with_byte}
use Rattle.std.proofs.lemmas.List.{map-id}
use Rattle.std.proofs.lemmas.List.FromFn.{map-range_with_len_more}
use Rattle.std.proofs.lemmas.Grind.{flat_map-append}
use Rattle.hw_text.specs.Text.{number_text}
use Rattle.hw_text.specs.Lines.{spaced}
use Rattle.hw_horizon.specs.Search.{Search, start_of}
use Rattle.hw_explain.specs.Greatest.{member_text}
use Rattle.hw_explain.specs.Searched.{start_or_zero, starts_in, words_in, part_in}

-- ---- numbers in a row

range_more : (n : ℕ) → range_with_len 0 (n + 1) ≡ range_with_len 0 n ++ n ∷ []
range_more n =
    let at : 0 + n ≡ n = omega arith in
    sym (map-id (range_with_len 0 (n + 1))) ∙ map-range_with_len_more (λ (x : ℕ). x) 0 n n at ∙ ap (λ l. l ++ n ∷ []) (map-id (range_with_len 0 n))

-- one more part
pub part_more : (f : ℕ → List ℕ) (old : List ℕ) (n : ℕ) → old ++ flat_map f (range_with_len 0 n) ++ f n ≡ old ++ flat_map f (range_with_len 0 (n + 1))
part_more f old n =
    append_assoc old (flat_map f (range_with_len 0 n)) (f n)
    ∙ ap (λ l. old ++ l) (sym (ap (flat_map f) (range_more n) ∙ flat_map-append f (range_with_len 0 n) (n ∷ []) ∙ ap (λ l. flat_map f (range_with_len 0 n) ++ l) (append-nil (f n))))

-- ---- a member

joined : (w : List ℕ) (ws : List (List ℕ)) → join_with_byte 44 (w ∷ ws) ≡ w ++ flat_map (λ x. 44 ∷ x) ws
joined w [] = sym (append-nil w)
joined w (v ∷ vs) = ap (λ l. w ++ (44 ∷ l)) (joined v vs)

commas : (start : ℕ → ℕ) (a n : ℕ) → flat_map (λ x. 44 ∷ x) (map number_text (map start (range_with_len (a + 1) n))) ≡ flat_map (λ j. 44 ∷ number_text (start (j + 1))) (range_with_len a n)
commas start a zero = refl
commas start a (suc n) = ap (λ l. (44 ∷ number_text (start (a + 1))) ++ l) (commas start (a + 1) n)

starts_text : (start : ℕ → ℕ) (level : ℕ) → number_text (start 0) ++ flat_map (λ j. 44 ∷ number_text (start (j + 1))) (range_with_len 0 level) ≡ join_with_byte 44 (map number_text (map start (range_with_len 0 (level + 1))))
starts_text start level =
    let more : suc level ≡ level + 1 = omega arith in
    ap (λ l. number_text (start 0) ++ l) (sym (commas start 0 level))
    ∙ sym (joined (number_text (start 0)) (map number_text (map start (range_with_len (0 + 1) level))))
    ∙ ap (λ n. join_with_byte 44 (map number_text (map start (range_with_len 0 n)))) more

-- a member and its starts, part by part
pub member_is : (old : List ℕ) (search : Search) (level v : ℕ)
    → old ++ (codes " " ++ number_text v) ++ (codes ":" ++ number_text (start_or_zero search 0 v)) ++ flat_map (λ j. 44 ∷ number_text (start_or_zero search (j + 1) v)) (range_with_len 0 level)
    ≡ old ++ spaced (member_text v (starts_in search level v))
member_is old search level v =
    let first = number_text (start_or_zero search 0 v) in
    let others = flat_map (λ j. 44 ∷ number_text (start_or_zero search (j + 1) v)) (range_with_len 0 level) in
    append_assoc (old ++ (codes " " ++ number_text v)) (codes ":" ++ first) others
    ∙ append_assoc old (codes " " ++ number_text v) (codes ":" ++ first ++ others)
    ∙ ap (λ l. old ++ (codes " " ++ number_text v ++ (codes ":" ++ l))) (starts_text (λ j. start_or_zero search j v) level)
    ∙ ap (λ l. old ++ (32 ∷ l)) (sym (append_assoc (number_text v) (codes ":") (join_with_byte 44 (map number_text (starts_in search level v)))))

-- ---- all members

parts_are : (search : Search) (level : ℕ) (vs : List ℕ)
    → flat_map (part_in search level) vs ≡ flat_map spaced (map (λ v. member_text v (starts_in search level v)) (filter (λ v. is_some (start_of search level v)) vs))
parts_are search level [] = refl
parts_are search level (v ∷ vs) = go (is_some (start_of search level v)) (parts_are search level vs)
  where
    go : (b : Bool) → flat_map (part_in search level) vs ≡ flat_map spaced (map (λ w. member_text w (starts_in search level w)) (filter (λ w. is_some (start_of search level w)) vs))
        → cond b (spaced (member_text v (starts_in search level v))) [] ++ flat_map (part_in search level) vs
        ≡ flat_map spaced (map (λ w. member_text w (starts_in search level w)) (cond b (v ∷ filter (λ w. is_some (start_of search level w)) vs) (filter (λ w. is_some (start_of search level w)) vs)))
    go true later = ap (λ l. spaced (member_text v (starts_in search level v)) ++ l) later
    go false later = later

-- the words of the committee, part by part
pub words_are : (old : List ℕ) (search : Search) (level n : ℕ) → old ++ codes " committee" ++ flat_map (part_in search level) (range_with_len 0 n) ≡ old ++ flat_map spaced (words_in search level n)
words_are old search level n =
    append_assoc old (codes " committee") (flat_map (part_in search level) (range_with_len 0 n))
    ∙ ap (λ l. old ++ (codes " committee" ++ l)) (parts_are search level (range_with_len 0 n))

-- a member is a part, and another validator none
pub part_some : (search : Search) (level v s : ℕ) (old : List ℕ) → start_of search level v ≡ Some s → old ++ spaced (member_text v (starts_in search level v)) ≡ old ++ part_in search level v
part_some search level v s old is = ap (λ o. old ++ cond (is_some o) (spaced (member_text v (starts_in search level v))) []) (sym is)

pub part_none : (search : Search) (level v : ℕ) (old : List ℕ) → start_of search level v ≡ None → old ≡ old ++ part_in search level v
part_none search level v old is = sym (append-nil old) ∙ ap (λ o. old ++ cond (is_some o) (spaced (member_text v (starts_in search level v))) []) (sym is)

-- what follows from an answer's fact, where it is Ok
pub on_ok : {T E : Type 0} {A B : Type 0} (r : Result T E) → (A → B) → OnOk r A → OnOk r B
on_ok (Ok x) f a = f a
on_ok (Err e) f a = tt
