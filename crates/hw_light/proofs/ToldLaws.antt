-- What is told of an answer is what is worked out.
use Rattle.std.proofs.Common.{◌≡◌, ◌≢◌, ℕ, ◌+◌, ◌<◌, ◌≤◌, inl, inr, Bool, true, false, cond, List, [], ◌∷◌, ◌++◌, length, is_some, Option, Some, None, refl, sym, ap, subst, ◌∙◌, arith, length-append}
use Rattle.std.specs.Prelude.{◌⊎◌, ◌&&◌, not, filter, filter_map, nat_lt, slice_get, if◌then◌else◌}
use Rattle.std.specs.List.{list_any, flat_map}
use Rattle.std.proofs.lemmas.Bool.{lt-ltb, leb-true}
use Rattle.hw_types.specs.declared.unit.Digest.{Digest}
use Rattle.hw_types.specs.declared.unit.SignedUnit.{SignedUnit}
use Rattle.hw_types.specs.declared.unit.Vertex.{Vertex}
use Rattle.hw_types.specs.declared.answers.Decision.{Decision}
use Rattle.hw_types.specs.Graph.{Node, digest_eq, is_some_and, is_faulty_mark, slot, slots, latest, is_below}
use Rattle.hw_types.specs.Below.{Among}
use Rattle.hw_types.specs.Rules.{has_digest}
use Rattle.hw_types.specs.Settled.{validators}
use Rattle.hw_types.specs.Spelling.{digest_of}
use Rattle.hw_types.specs.Summit.{Committees, IsGreatest}
use Rattle.hw_types.specs.Journal.{unit_of_vertex, received_of}
use Rattle.hw_types.specs.ByName.{IsRising}
use Rattle.hw_types.specs.Real.{CoreState, setting_of, settled_in, panorama_in}
use Rattle.hw_types.specs.laws.StateLaws.{HasSame}
use Rattle.hw_types.proofs.ClosureLaws.{Within, Among-filter, filter-Among}
use Rattle.hw_types.proofs.DistinctLaws.{IsDistinct, distinct_length, rising_distinct}
use Rattle.hw_types.proofs.EntryLaws.{mapped_among, among_mapped}
use Rattle.hw_types.proofs.JournalLaws.{received_rising}
use Rattle.hw_types.proofs.LawfulLaws.{settled_part}
use Rattle.hw_types.proofs.OrderLaws.{unit_vertex, received_in}
use Rattle.hw_types.proofs.PastLaws.{some_of, any_of}
use Rattle.hw_types.proofs.SettledLaws.{digest_self, digest_same}
use Rattle.hw_types.proofs.StableLaws.{both_ways, and_parts, and_whole}
use Rattle.hw_safety.proofs.AccountLaws.{in_journal}
use Rattle.hw_safety.specs.Pruned.{start_in, pruned_committees, has_summit}
use Rattle.hw_safety.proofs.PrunedLaws.{summit_is_left, pruned_is_greatest}
use Rattle.hw_safety.proofs.StandLaws.{pruned_by_name}
use Rattle.hw_core.specs.Decided.{decided_in}
use Rattle.hw_core.specs.Readers.{signed_unit, unit_in, exceeded_in}
use Rattle.hw_core.specs.Shown.{HasSummitNow}
use Rattle.hw_needs.specs.Needs.{unit_vertices, evidence_vertices, evidence_against}
use Rattle.hw_light.specs.declared.answers.Certified.TheVariants.{Made, NotNow, TooLong}
use Rattle.hw_light.specs.Extract.{is_under, IsSettlingOrder, is_endorsement_of, evidence_part, endorsement_part, unit_part, vertices_for}
use Rattle.hw_light.specs.Certify.{AreVerticesOf}
use Rattle.hw_light.proofs.DeliveredLaws.{found, found_is}
use Rattle.hw_light.specs.declared.asked.Asked.{Asked}
use Rattle.hw_light.specs.declared.asked.Asked.TheVariants as asked
use Rattle.hw_light.specs.Asked.{IsDecisionOf, HasNoDecision, IsAskedOf, Outcome, NoDecision, NoStanding, NoLength, HasCertificate, told_in, decided_block, standing_block, told_count, told_standing, told_decision, told_of}
use Rattle.hw_light.proofs.FindLaws.{find_first, find_none}

-- ---- the decided block

named_so : (block : Digest) (d : Decision) → d.block ≡ block → digest_eq d.block block ≡ true
named_so block d same = subst (λ (e : Digest). digest_eq d.block e ≡ true) same (digest_self d.block)

named_not : (block : Digest) (d : Decision) → d.block ≢ block → digest_eq d.block block ≡ false
named_not block d differs = go (digest_eq d.block block) refl
  where
    go : (b : Bool) → digest_eq d.block block ≡ b → b ≡ false
    go true e = absurd (differs (digest_same d.block block e))
    go false e = refl

pub decided_is : (core : CoreState) (block : Digest) (index : ℕ) (told : IsDecisionOf core block index) → decided_block core block ≡ Some told.decision
unfolding decided_block
decided_is core block index told =
    find_first (λ (d : Decision). digest_eq d.block block) (decided_in core) index told.decision told.at (named_so block told.decision told.block_is) (λ k d lt there. named_not block d (told.first k d lt there))

pub decided_none : (core : CoreState) (block : Digest) → HasNoDecision core block → decided_block core block ≡ None
unfolding decided_block
decided_none core block none = find_none (λ (d : Decision). digest_eq d.block block) (decided_in core) (λ k d there. named_not block d (none k d there))

-- ---- it doesn't stand

module _ (core : CoreState) (d : Decision) where
  abbrev stands_now : Node → Bool
  stands_now x = digest_eq x.digest d.block && has_summit core.config.weights (settled_in core) (panorama_in core) x d.level d.quorum

  not_now : (index : ℕ) → slice_get (decided_in core) index ≡ Some d → (exceeded_in core ≢ None) ⊎ (HasSummitNow core index → ⊥) → NoStanding ≡ told_decision core d (exceeded_in core)
  not_now index here why = by_weight (exceeded_in core) refl
    where
      summit : (x : Node) → Among x (settled_in core) × (stands_now x ≡ true) → HasSummitNow core index
      summit x m =
          let p = and_parts (digest_eq x.digest d.block) (has_summit core.config.weights (settled_in core) (panorama_in core) x d.level d.quorum) m.1 in
          record {
            decision = d;
            block = x;
            is = record { at = here; settled = m.0; name = digest_same x.digest d.block p.0 };
            summit = (summit_is_left core.config.weights (settled_in core) (panorama_in core) x d.quorum d.level).1 p.1;
          }

      by_block : (exceeded_in core ≡ None) → (o : Option Node) → standing_block core d ≡ o → NoStanding ≡ told_standing core d o
      by_block few None e = refl
      by_block few (Some x) e = absurd (elim why [ inl over ↦ over few | inr none ↦ none (summit x (found_is stands_now x (settled_in core) e)) ])

      by_weight : (o : Option ℕ) → exceeded_in core ≡ o → NoStanding ≡ told_decision core d o
      by_weight (Some w) e = refl
      by_weight None e = by_block e (standing_block core d) refl

-- ---- how many vertices there are, in whatever order the units settled

filter_distinct : {A : Type 0} (p : A → Bool) (xs : List A) → IsDistinct xs → IsDistinct (filter p xs)
filter_distinct p [] apart = tt
filter_distinct {A} p (x ∷ xs) apart = go (p x) (filter_distinct p xs apart.1)
  where
    go : (b : Bool) → IsDistinct (filter p xs) → IsDistinct (cond b (x ∷ filter p xs) (filter p xs))
    go true others = (λ m. apart.0 (Among-filter p x xs m).0, others)
    go false others = others

split_length : {A : Type 0} (p : A → Bool) (xs : List A) → length (filter p xs) + length (filter (λ x. not (p x)) xs) ≡ length xs
split_length p [] = refl
split_length p (x ∷ xs) = go (p x) (split_length p xs)
  where
    go : (b : Bool) → length (filter p xs) + length (filter (λ y. not (p y)) xs) ≡ length xs
        → length (cond b (x ∷ filter p xs) (filter p xs)) + length (cond (not b) (x ∷ filter (λ y. not (p y)) xs) (filter (λ y. not (p y)) xs)) ≡ length (x ∷ xs)
    go true e = omega arith
    go false e = omega arith

fewer : {A : Type 0} (p : A → Bool) (xs ys : List A) → IsDistinct ys → Within ys xs → length (filter p ys) ≤ length (filter p xs)
fewer p xs ys apart within =
    distinct_length (filter p ys) (filter p xs) (filter_distinct p ys apart) (λ y m. let k = Among-filter p y ys m in filter-Among p y xs (within y k.0) k.1)

-- of a list without repeats, and one of its length that has its members, as many pass a test
same_count : {A : Type 0} (p : A → Bool) (xs ys : List A) → IsDistinct ys → Within ys xs → length xs ≡ length ys → length (filter p xs) ≡ length (filter p ys)
same_count p xs ys apart within long =
    let pass = fewer p xs ys apart within in
    let fail = fewer (λ x. not (p x)) xs ys apart within in
    let all_xs = split_length p xs in
    let all_ys = split_length p ys in
    omega arith

any_same : {A : Type 0} (p : A → Bool) (xs ys : List A) → HasSame xs ys → list_any p xs ≡ list_any p ys
any_same p xs ys same = both_ways (list_any p xs) (list_any p ys)
    (λ t. let x = some_of p xs t in any_of p x.0 ys (same.to x.0 x.1) x.2)
    (λ t. let y = some_of p ys t in any_of p y.0 xs (same.back y.0 y.1) y.2)

ones_length : {A B : Type 0} (f : A → List B) (xs : List A) → ((x : A) → Among x xs → length (f x) ≡ 1) → length (flat_map f xs) ≡ length xs
ones_length f [] one = refl
ones_length f (x ∷ xs) one = let here = one x (inl refl) in let rest = ones_length f xs (λ y m. one y (inr m)) in let both = length-append (f x) (flat_map f xs) in omega arith

module _ (core : CoreState) where
  settled_rising : IsRising (settled_in core)
  settled_rising = let s = setting_of core.config in (settled_part s.config (received_of s core.journal) (received_rising s core.journal)).in_order

  -- a settled unit stands in the journal
  unit_there : (x : Node) → Among x (settled_in core) → (u : SignedUnit) × (unit_in core x.digest ≡ Some u)
  unfolding unit_in
  unit_there x m =
      let s = setting_of core.config in
      let there = received_in s core.journal x (in_journal s core.journal x m) in
      let v = mapped_among (unit_of_vertex s) x core.journal there in
      let w = unit_vertex s v.0 x v.2 in
      let inside = among_mapped signed_unit v.0 w.0 core.journal v.1 (ap signed_unit w.1) in
      let name : digest_eq x.digest (digest_of w.0.unit) ≡ true = subst (λ (d : Digest). digest_eq x.digest d ≡ true) (ap (λ (z : Node). z.digest) w.2) (digest_self x.digest) in
      let f = found (λ (u : SignedUnit). digest_eq x.digest (digest_of u.unit)) w.0 (filter_map signed_unit core.journal) inside name in
      (f.0, f.1)

  unit_once : (x : Node) → Among x (settled_in core) → length (unit_vertices (unit_in core x.digest)) ≡ 1
  unit_once x m = let u = unit_there x m in ap (λ (o : Option SignedUnit). length (unit_vertices o)) u.1

  units_length : (us : List Node) → Within us (settled_in core) → length (unit_part core us) ≡ length us
  units_length us within = ones_length (λ (x : Node). unit_vertices (unit_in core x.digest)) us (λ x m. unit_once x (within x m))

  module _ (us vs : List Node) (same : HasSame us vs) where
    evidence_same : evidence_part core us ≡ evidence_part core vs
    evidence_same = ap (λ (t : ℕ → Bool). flat_map (λ v. evidence_vertices (evidence_against core v)) (filter t (validators core.config)))
        (λ i v. any_same (λ (x : Node). is_faulty_mark (slot x.unit.panorama v)) us vs same i)

    endorsements_same : endorsement_part core us ≡ endorsement_part core vs
    endorsements_same = ap (λ (t : Digest → Bool). filter (is_endorsement_of t) core.journal) (λ i d. any_same (λ (x : Node). has_digest x.unit.endorsed d) us vs same i)

    vertices_length : Within us (settled_in core) → Within vs (settled_in core) → length us ≡ length vs → length (vertices_for core us) ≡ length (vertices_for core vs)
    vertices_length from_us from_vs long =
        let a = units_length us from_us in
        let b = units_length vs from_vs in
        let e = ap (λ (ws : List Vertex). length ws) evidence_same in
        let n = ap (λ (ws : List Vertex). length ws) endorsements_same in
        let first = length-append (evidence_part core us ++ endorsement_part core us) (unit_part core us) in
        let second = length-append (evidence_part core us) (endorsement_part core us) in
        let third = length-append (evidence_part core vs ++ endorsement_part core vs) (unit_part core vs) in
        let fourth = length-append (evidence_part core vs) (endorsement_part core vs) in
        omega arith

  in_any_order : (order : List Node) → IsSettlingOrder core order → (p : Node → Bool) → length (vertices_for core (filter p order)) ≡ length (vertices_for core (filter p (settled_in core)))
  in_any_order order settling p =
      vertices_length (filter p order) (filter p (settled_in core))
      (record {
        to = λ x m. let k = Among-filter p x order m in filter-Among p x (settled_in core) (settling.same.to x k.0) k.1;
        back = λ x m. let k = Among-filter p x (settled_in core) m in filter-Among p x order (settling.same.back x k.0) k.1;
      })
      (λ x m. settling.same.to x (Among-filter p x order m).0)
      (λ x m. (Among-filter p x (settled_in core) m).0)
      (same_count p order (settled_in core) (rising_distinct (settled_in core) settled_rising) settling.same.back settling.once)

-- ---- two greatest summits have the same first committee

module _ (core : CoreState) (d : Decision) (c : Committees) (block x : Node) (one_name : block.digest ≡ x.digest)
    (greatest : IsGreatest core.config.weights (settled_in core) (panorama_in core) block d.level d.quorum c) where
  abbrev worked : Node → Committees
  worked y = pruned_committees core.config.weights (settled_in core) (panorama_in core) y d.quorum

  worked_greatest : IsGreatest core.config.weights (settled_in core) (panorama_in core) block d.level d.quorum (worked block)
  worked_greatest = pruned_is_greatest core.config.weights (settled_in core) (panorama_in core) block d.quorum d.level
      ((summit_is_left core.config.weights (settled_in core) (panorama_in core) block d.quorum d.level).0 (c, greatest.summit))

  same_member : (v : ℕ) → c.member 0 v ≡ (worked x).member 0 v
  same_member v =
      both_ways (c.member 0 v) ((worked block).member 0 v)
      (λ h. (worked_greatest.greatest c greatest.summit 0 v (omega arith) h).0)
      (λ h. (greatest.greatest (worked block) worked_greatest.summit 0 v (omega arith) h).0)
      ∙ ap (λ ps. is_some (start_in ps v)) (pruned_by_name core.config.weights (settled_in core) (panorama_in core) block x d.quorum 0 one_name)

  pub same_under : is_under (settled_in core) (panorama_in core) c ≡ is_under (settled_in core) (panorama_in core) (worked x)
  same_under = λ i y. list_any (λ v. same_member v i && is_some_and (is_below (settled_in core) y) (latest (settled_in core) (panorama_in core) v)) (slots (panorama_in core))

-- ---- how many vertices are told

module _ (core : CoreState) (index : ℕ) (d : Decision) (vertices : List Vertex) (are : AreVerticesOf core index d vertices) where
  abbrev block : Node
  block = are.greatest.block

  abbrev name : block.digest ≡ d.block
  name = are.greatest.is.name

  block_stands : stands_now core d block ≡ true
  block_stands =
      and_whole (digest_eq block.digest d.block) _ (subst (λ (e : Digest). digest_eq block.digest e ≡ true) name (digest_self block.digest))
      ((summit_is_left core.config.weights (settled_in core) (panorama_in core) block d.quorum d.level).0 (are.committees, are.greatest.greatest.summit))

  pub counted_told : told_decision core d (exceeded_in core) ≡ told_count core.config (length vertices)
  counted_told =
      let x = found (stands_now core d) block (settled_in core) are.greatest.is.settled block_stands in
      let other = digest_same x.0.digest d.block (and_parts (digest_eq x.0.digest d.block) _ x.3).0 in
      ap (told_decision core d) are.few_faulty
      ∙ ap (told_standing core d) x.1
      ∙ ap (told_count core.config) (sym (
      ap (λ (vs : List Vertex). length vs) are.vertices_are
      ∙ ap (λ (t : Node → Bool). length (vertices_for core (filter t are.order))) (same_under core d are.committees block x.0 (name ∙ sym other) are.greatest.greatest)
      ∙ in_any_order core are.order are.order_is (is_under (settled_in core) (panorama_in core) (pruned_committees core.config.weights (settled_in core) (panorama_in core) x.0 d.quorum))
      ))

-- ---- an answer

too_many : (most count : ℕ) → most < count → nat_lt most count ≡ true
too_many most count lt = lt-ltb most count lt

not_too_many : (most count : ℕ) → count ≤ most → nat_lt most count ≡ false
not_too_many most count le = go (nat_lt most count) refl
  where
    go : (b : Bool) → nat_lt most count ≡ b → b ≡ false
    go true e = absurd (let lt = Rattle.std.proofs.lemmas.Bool.ltb-true most count e in omega arith)
    go false e = refl

module _ (core : CoreState) (block : Digest) where
  -- of the decided block
  by_decision : (index : ℕ) (told : IsDecisionOf core block index) → told_of core block ≡ told_decision core told.decision (exceeded_in core)
  unfolding told_of
  by_decision index told = ap (λ (o : Option Decision). elim o as (λ z. Outcome) [ None ↦ NoDecision | Some d ↦ told_decision core d (exceeded_in core) ]) (decided_is core block index told)

  one_decision : (index : ℕ) (told : IsDecisionOf core block index) (d : Decision) → slice_get (decided_in core) index ≡ Some d → told.decision ≡ d
  one_decision index told d there = let both : Some told.decision ≡ Some d = sym told.at ∙ there in cc

  pub told_is : (a : Asked) → IsAskedOf core block a → told_in a ≡ told_of core block
  unfolding told_of
  told_is asked.NoDecision none = sym (ap (λ (o : Option Decision). elim o as (λ z. Outcome) [ None ↦ NoDecision | Some d ↦ told_decision core d (exceeded_in core) ]) (decided_none core block none))
  told_is (asked.Answered NotNow) (index, told, why) = not_now core told.decision index told.at why ∙ sym (by_decision index told)
  told_is (asked.Answered (TooLong count)) (index, told, long) =
      let d = one_decision index told long.decision long.are.greatest.is.at in
      sym (
      by_decision index told ∙ ap (λ (e : Decision). told_decision core e (exceeded_in core)) d ∙ counted_told core index long.decision long.vertices long.are
      ∙ ap (told_count core.config) long.count_is ∙ ap (λ (b : Bool). if b then NoLength count else HasCertificate count) (too_many core.config.max_records count long.more)
      )
  told_is (asked.Answered (Made made)) (index, told, m) =
      let d = one_decision index told m.decision m.are.greatest.is.at in
      sym (
      by_decision index told ∙ ap (λ (e : Decision). told_decision core e (exceeded_in core)) d ∙ counted_told core index m.decision made.vertices m.are
      ∙ ap (λ (b : Bool). if b then NoLength (length made.vertices) else HasCertificate (length made.vertices)) (not_too_many core.config.max_records (length made.vertices) m.room)
      )
