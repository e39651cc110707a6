-- The votes of a panorama.
use Rattle.std.proofs.Common.{◌≡◌, ℕ, zero, suc, ◌+◌, ◌<◌, ◌≤◌, inl, inr, List, [], ◌∷◌, ◌++◌, length, get_or, take, refl, sym, ap, subst, ◌∙◌, arith, length-append}
use Rattle.std.specs.Prelude.{sum_by, slice_index, slice_set}
use Rattle.std.specs.List.{range_with_len}
use Rattle.std.proofs.lemmas.List.{take_more_set, length-take-le, length-set, length_push, append-nil}
use Rattle.std.proofs.lemmas.List.Elements.{All-get_or}
use Rattle.std.proofs.lemmas.List.Sums.{sum_by_push, sum_by_more, sum_by-take-le}
use Rattle.hw_types.specs.Below.{Among}
use Rattle.hw_types.proofs.DistinctLaws.{IsDistinct, distinct_length, range_length}
use Rattle.hw_types.proofs.EntryLaws.{append_cases}
use Rattle.hw_types.proofs.WordsLaws.{range_in}
use Rattle.hw_dag.specs.declared.numbers.UnitNo.{UnitNo}
use Rattle.hw_dag.specs.declared.numbers.View.{View}
use Rattle.hw_dag.specs.declared.numbers.View.TheVariants as view
use Rattle.hw_dag.specs.Dag.{UnitGraph, unit_at, count_of, creator_of, view_at, IsPanorama}
use Rattle.hw_dag.specs.Admission.{IsGraph}
use Rattle.hw_dag.specs.Lanes.{AreWeights}
use Rattle.hw_forks.specs.declared.votes.Vote.{Vote}
use Rattle.hw_forks.specs.Votes.{votes_of, vote_of, vote_in, IsVote, AreVotes, IsRoomFor}
use Rattle.hw_forks.proofs.DefinedLaws.{vote_at}

module _ (dag : UnitGraph) (weights : List ℕ) (panorama : List View) where
  pub votes_none : votes_of dag weights panorama 0 ≡ []
  unfolding votes_of
  votes_none = refl

  pub votes_more : (n : ℕ) → votes_of dag weights panorama (n + 1) ≡ votes_of dag weights panorama n ++ vote_in dag (view_at panorama n) (slice_index weights n)
  unfolding votes_of
  votes_more n = let e : n + 1 ≡ suc n = omega arith in ap (votes_of dag weights panorama) e

  -- a slot that names a unit has one vote more
  pub votes_with : (n : ℕ) (number : UnitNo) → view_at panorama n ≡ view.Correct number → votes_of dag weights panorama (n + 1) ≡ votes_of dag weights panorama n ++ vote_of dag number (slice_index weights n) ∷ []
  votes_with n number e = votes_more n ∙ ap (λ (w : View). votes_of dag weights panorama n ++ vote_in dag w (slice_index weights n)) e

  -- and any other has none
  pub votes_without : (n : ℕ) → ((number : UnitNo) → view_at panorama n ≡ view.Correct number → ⊥) → votes_of dag weights panorama (n + 1) ≡ votes_of dag weights panorama n
  votes_without n never = votes_more n ∙ go (view_at panorama n) refl
    where
      go : (w : View) → view_at panorama n ≡ w → votes_of dag weights panorama n ++ vote_in dag w (slice_index weights n) ≡ votes_of dag weights panorama n
      go view.Absent e = append-nil (votes_of dag weights panorama n)
      go view.Faulty e = append-nil (votes_of dag weights panorama n)
      go (view.Correct number) e = absurd (never number e)

  -- ---- there are no more votes than slots

  in_fit : (w : View) (weight : ℕ) → length (vote_in dag w weight) ≤ 1
  in_fit view.Absent weight = omega arith
  in_fit view.Faulty weight = omega arith
  in_fit (view.Correct number) weight = omega arith

  votes_fit : (n : ℕ) → length (votes_of dag weights panorama n) ≤ n
  unfolding votes_of
  votes_fit zero = omega arith
  votes_fit (suc n) =
      let before = votes_fit n in
      let last = in_fit (view_at panorama n) (slice_index weights n) in
      simp length-append (omega arith)

  module _ (ip : IsPanorama dag panorama) where
    -- ---- and no more than units, since each Correct slot names one of its own

    -- the units of the first n slots
    abbrev unit_in : View → List ℕ
    unit_in view.Absent = []
    unit_in (view.Correct number) = number.0 ∷ []
    unit_in view.Faulty = []

    units_of : ℕ → List ℕ
    units_of zero = []
    units_of (suc n) = unit_in (view_at panorama n) ++ units_of n

    as_many : (w : View) (weight : ℕ) → length (unit_in w) ≡ length (vote_in dag w weight)
    as_many view.Absent weight = refl
    as_many (view.Correct number) weight = refl
    as_many view.Faulty weight = refl

    units_many : (n : ℕ) → length (units_of n) ≡ length (votes_of dag weights panorama n)
    unfolding votes_of units_of
    units_many zero = refl
    units_many (suc n) =
        let before = units_many n in
        let last = as_many (view_at panorama n) (slice_index weights n) in
        simp length-append (omega arith)

    -- such a unit is one of the graph, by one of these validators
    unit_known : (n number : ℕ) → Among number (units_of n) → (number < count_of dag) × (creator_of (unit_at dag number) < n)
    unfolding units_of
    unit_known zero number m = absurd m
    unit_known (suc n) number m = elim (append_cases number (unit_in (view_at panorama n)) (units_of n) m) [
      | inl last ↦ go (view_at panorama n) refl last
      | inr before ↦ let known = unit_known n number before in let lt = known.1 in (known.0, omega arith)
    ]
      where
        go : (w : View) → view_at panorama n ≡ w → Among number (unit_in w) → (number < count_of dag) × (creator_of (unit_at dag number) < suc n)
        go view.Absent e h = absurd h
        go view.Faulty e h = absurd h
        go (view.Correct own) e (inr h) = absurd h
        go (view.Correct own) e (inl h) =
            let by = ip.creator_is n own e in
            subst (λ (k : ℕ). (k < count_of dag) × (creator_of (unit_at dag k) < suc n)) h (ip.known n own e, omega arith)

    units_apart : (n : ℕ) → IsDistinct (units_of n)
    unfolding units_of
    units_apart zero = tt
    units_apart (suc n) = go (view_at panorama n) refl (units_apart n)
      where
        go : (w : View) → view_at panorama n ≡ w → IsDistinct (units_of n) → IsDistinct (unit_in w ++ units_of n)
        go view.Absent e d = d
        go view.Faulty e d = d
        go (view.Correct own) e d = (λ m. let by = ip.creator_is n own e in let low = (unit_known n own.0 m).1 in absurd (omega arith), d)

    units_few : (n : ℕ) → length (votes_of dag weights panorama n) ≤ count_of dag
    units_few n =
        let within = distinct_length (units_of n) (range_with_len 0 (count_of dag)) (units_apart n) (λ number m. range_in 0 (count_of dag) number (omega arith) (let lt = (unit_known n number m).0 in omega arith)) in
        let many = units_many n in
        let all = range_length 0 (count_of dag) in
        omega arith

    -- so there is room for the vote of each Correct slot
    pub count_room : (votes : List Vote) (count n : ℕ) (number : UnitNo) → count ≤ length votes → take count votes ≡ votes_of dag weights panorama n → view_at panorama n ≡ view.Correct number
        → n < dag.validators → IsRoomFor dag (length votes) → count < length votes
    count_room votes count n number le front here lt room =
        let many : count ≡ length (votes_of dag weights panorama n) = sym (length-take-le count votes le) ∙ ap length front in
        let more : length (votes_of dag weights panorama (n + 1)) ≡ length (votes_of dag weights panorama n) + 1 = ap length (votes_with n number here) ∙ length_push (votes_of dag weights panorama n) (vote_of dag number (slice_index weights n)) in
        let units = units_few (n + 1) in
        let slots = votes_fit (n + 1) in
        elim room [ inl enough ↦ omega arith | inr enough ↦ omega arith ]

    -- ---- what holds of the votes

    module _ (g : IsGraph dag) (aw : AreWeights weights dag) where
      each_is : (n : ℕ) → n ≤ dag.validators → (vote : Vote) → Among vote (votes_of dag weights panorama n) → IsVote dag vote
      unfolding votes_of
      each_is zero le vote m = absurd m
      each_is (suc n) le vote m = elim (append_cases vote (votes_of dag weights panorama n) (vote_in dag (view_at panorama n) (slice_index weights n)) m) [
        | inl before ↦ each_is n (omega arith) vote before
        | inr last ↦ go (view_at panorama n) refl last
      ]
        where
          go : (w : View) → view_at panorama n ≡ w → Among vote (vote_in dag w (slice_index weights n)) → IsVote dag vote
          go view.Absent e h = absurd h
          go view.Faulty e h = absurd h
          go (view.Correct number) e (inr h) = absurd h
          go (view.Correct number) e (inl h) =
              let own = vote_at weights dag g aw number.0 (ip.known n number e) in
              let many = aw.length_is in
              subst (IsVote dag) h (record { known = own.known; block = own.block; height_is = refl; some = All-get_or (λ w. 0 < w) weights n 0 (omega arith) aw.positive })

      weigh_most : (n : ℕ) → n ≤ dag.validators → sum_by (λ (vote : Vote). vote.weight) (votes_of dag weights panorama n) ≤ sum_by (λ (w : ℕ). w) (take n weights)
      unfolding votes_of
      weigh_most zero le = omega arith
      weigh_most (suc n) le = go (view_at panorama n) refl (weigh_most n (omega arith))
        where
          more : sum_by (λ (w : ℕ). w) (take (suc n) weights) ≡ sum_by (λ (w : ℕ). w) (take n weights) + get_or weights n 0
          more = (let e : suc n ≡ n + 1 = omega arith in ap (λ k. sum_by (λ (w : ℕ). w) (take k weights)) e) ∙ sum_by_more (λ (w : ℕ). w) weights n 0 (let many = aw.length_is in omega arith)

          go : (w : View) → view_at panorama n ≡ w → sum_by (λ (vote : Vote). vote.weight) (votes_of dag weights panorama n) ≤ sum_by (λ (w : ℕ). w) (take n weights)
              → sum_by (λ (vote : Vote). vote.weight) (votes_of dag weights panorama n ++ vote_in dag w (slice_index weights n)) ≤ sum_by (λ (w : ℕ). w) (take (suc n) weights)
          go view.Absent e h = rw (append-nil (votes_of dag weights panorama n)) (let m = more in omega arith)
          go view.Faulty e h = rw (append-nil (votes_of dag weights panorama n)) (let m = more in omega arith)
          go (view.Correct number) e h = rw (sum_by_push (λ (vote : Vote). vote.weight) (votes_of dag weights panorama n) (vote_of dag number (slice_index weights n))) (let m = more in omega arith)

      pub votes_are : AreVotes dag (votes_of dag weights panorama dag.validators)
      votes_are = record {
        graph = g;
        each = each_is dag.validators (omega arith);
        bounded = (let le = weigh_most dag.validators (omega arith) in let part = sum_by-take-le (λ (w : ℕ). w) weights dag.validators in let all = aw.bounded in omega arith);
      }

-- one vote more is put last
pub put_last : (votes after front : List Vote) (count more : ℕ) (vote : Vote) → count < length votes → take count votes ≡ front → after ≡ slice_set votes count vote → more ≡ count + 1
    → (more ≤ length after) × (take more after ≡ front ++ vote ∷ [])
put_last votes after front count more vote lt same put one =
    let long : length after ≡ length votes = ap length put ∙ (simp length-set) in
    (omega arith, ap (λ (k : ℕ). take k after) one ∙ ap (λ (xs : List Vote). take (count + 1) xs) put ∙ take_more_set votes count vote lt ∙ ap (λ (xs : List Vote). xs ++ vote ∷ []) same)
