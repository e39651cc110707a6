-- What says enough of a journal makes the block stand.
use Rattle.std.proofs.Common.{◌≡◌, ℕ, zero, suc, ◌⊎◌, ◌-◌, ◌≤◌, ◌<◌, inl, inr, Bool, true, false, cond, List, ◌++◌, length, map, Some, refl, sym, ap, subst, ◌∙◌, arith}
use Rattle.std.specs.Prelude.{filter, ◌&&◌, ◌==◌, nat_le, is_none}
use Rattle.std.specs.List.{list_any}
use Rattle.hw_types.specs.declared.unit.Digest.{Digest}
use Rattle.hw_types.specs.declared.unit.Obs.{Obs}
use Rattle.hw_types.specs.declared.unit.Obs.TheVariants.{Absent, Correct, Faulty}
use Rattle.hw_types.specs.declared.unit.Need.{Need}
use Rattle.hw_types.specs.declared.unit.Need.TheVariants as need
use Rattle.hw_types.specs.declared.unit.Vertex.{Vertex}
use Rattle.hw_types.specs.Graph.{Node, digest_eq, node_eq, slot, slots, latest, cites, past, follows, lane_of, is_faulty_mark}
use Rattle.hw_types.specs.Below.{Among}
use Rattle.hw_types.specs.Rules.{state_rule}
use Rattle.hw_types.specs.Votes.{weight_of, is_block, unit_fork, fork_over, votes_for}
use Rattle.hw_types.specs.Settled.{Received, panorama_of, settles, missing_of, needs_of, unit_need, unit_needs, evidence_needs, is_need_met, is_faulty, has_evidence, equivocates, is_endorsed, correct_or_absent, tip_of, faulty_weight}
use Rattle.hw_types.specs.Summit.{Committees, IsSummit}
use Rattle.hw_types.specs.Journal.{Setting, received_of}
use Rattle.hw_types.specs.Lawful.{IsLawful}
use Rattle.hw_types.specs.laws.StateLaws.{IsTip}
use Rattle.hw_types.proofs.ClosureLaws.{Within, Among-filter}
use Rattle.hw_types.proofs.PastLaws.{any_of, or_cases, or_left, or_right, reach_stays}
use Rattle.hw_types.proofs.StableLaws.{and_parts, and_whole}
use Rattle.hw_types.proofs.SettledLaws.{digest_self, none_left, more_equivocate, distinct_from}
use Rattle.hw_types.proofs.WordsLaws.{among_slot, slot_cites, among_is, named_among, named_eq, never_both, find_node_is, found_node, reach_more, latest_is}
use Rattle.hw_types.proofs.EntryLaws.{append_cases, mapped_among, map_among}
use Rattle.hw_types.proofs.GraphLaws.{rising_one_name}
use Rattle.hw_types.proofs.RisingLaws.{past_stable, state_rule_stable}
use Rattle.hw_types.proofs.JournalLaws.{received_rising, weight_of_le}
use Rattle.hw_types.proofs.LawfulLaws.{settled_part, settled_admits, settled_has}
use Rattle.hw_types.proofs.LaneLaws.{followed_cited, lane_within}
use Rattle.hw_types.proofs.PanoramaLaws.{panorama_closed}
use Rattle.hw_types.proofs.TipLaws.{slot_over, one_tip}
use Rattle.hw_safety.proofs.AccountLaws.{lawful_journal}
use Rattle.hw_safety.proofs.LaneLaws as chains
use Rattle.hw_safety.proofs.MajorityLaws.{past_size, votes_up, up_votes}
use Rattle.hw_safety.proofs.AncestorLaws.{vote_in}
use Rattle.hw_safety.proofs.PrunedLaws.{member_zero}
use Rattle.hw_safety.proofs.ChainHeightLaws.{up_was}
use Rattle.hw_safety.proofs.StoodLaws.{settled_in, graph_in}
use Rattle.hw_agree.specs.Certificates.{IsClosedPart}
use Rattle.hw_agree.specs.CertificateLaws.{EnoughIsEnough}

-- ---- the needs of a unit, one by one

unit_need_is : (o : Obs) (n : Need) → unit_need o ≡ Some n → (d : Digest) × (o ≡ Correct d) × (n ≡ need.Unit d)
unit_need_is Absent n e = absurd cc
unit_need_is Faulty n e = absurd cc
unit_need_is (Correct d) n e = (d, refl, let same : need.Unit d ≡ n = cc in sym same)

-- one of three lists
one_of_three : {A : Type 0} (x : A) (xs ys zs : List A) → Among x (xs ++ ys ++ zs) → Among x xs ⊎ (Among x ys ⊎ Among x zs)
one_of_three x xs ys zs m = elim (append_cases x (xs ++ ys) zs m) [
  | inr c ↦ inr (inr c)
  | inl k ↦ elim (append_cases x xs ys k) [ inl a ↦ inl a | inr b ↦ inr (inl b) ]
]

module _ (s : Setting) (whole part : List Vertex) (is_part : IsClosedPart s.config (received_of s whole) (received_of s part)) where
  abbrev k : Received
  k = received_of s whole

  abbrev l : Received
  l = received_of s part

  abbrev large : List Node
  large = settled_in s whole

  abbrev small : List Node
  small = settled_in s part

  abbrev lawful : IsLawful s.config.weights (is_faulty k large) large
  lawful = lawful_journal s whole

  abbrev lawful_part : IsLawful s.config.weights (is_faulty l small) small
  lawful_part = lawful_journal s part

  inside : Within small large
  inside x m = is_part.within x ((settled_part s.config l (received_rising s part)).part x m)

  closed : (x y : Node) → Among y small → Among x large → cites y.unit.panorama x ≡ true → Among x small
  closed x y m n h =
      let p = settled_part s.config l (received_rising s part) in
      p.closed x y m (is_part.below x y (p.part y m) n h) h

  -- ---- all of the part settles

  -- a settled unit of the whole whose needs the part meets
  module _ (x : Node) (m : Among x large) (cited : (y : Node) → Among y large → cites x.unit.panorama y ≡ true → Among y small)
      (marked : (v : ℕ) → is_faulty_mark (slot x.unit.panorama v) ≡ true → has_evidence l.with_evidence v ≡ true) (listed : (d : Digest) → Among d x.unit.endorsed → is_endorsed s.config l d ≡ true) where
    need_met : (n : Need) → Among n (needs_of x) → is_need_met s.config l small n ≡ true
    unfolding needs_of
    need_met n h = elim (one_of_three n (unit_needs x.unit.panorama) (evidence_needs x.unit.panorama) (map need.Endorsed x.unit.endorsed) (distinct_from n _ h)) [
      | inl a ↦ (
          let o = mapped_among unit_need n x.unit.panorama a in
          let d = unit_need_is o.0 n o.2 in
          let v = among_slot x.unit.panorama o.0 o.1 in
          let z = lawful.closed x v.0 d.0 m (v.2 ∙ d.1) in
          let there = cited z.0 z.1 (slot_cites x.unit.panorama v.0 d.0 z.0 (v.2 ∙ d.1) z.2) in
          subst (λ i. is_need_met s.config l small i ≡ true) (sym d.2)
          (any_of (λ y. digest_eq y.digest d.0) z.0 small there (subst (λ i. digest_eq z.0.digest i ≡ true) z.2 (digest_self z.0.digest))))
      | inr rest ↦ elim rest [
        | inl b ↦ (
            let v = map_among need.Evidence n (filter (λ v. is_faulty_mark (slot x.unit.panorama v)) (slots x.unit.panorama)) b in
            let mark = (Among-filter (λ v. is_faulty_mark (slot x.unit.panorama v)) v.0 (slots x.unit.panorama) v.1).1 in
            subst (λ i. is_need_met s.config l small i ≡ true) v.2 (or_left (has_evidence l.with_evidence v.0) (equivocates small v.0) (marked v.0 mark)))
        | inr e ↦ (
            let d = map_among need.Endorsed n x.unit.endorsed e in
            subst (λ i. is_need_met s.config l small i ≡ true) d.2 (listed d.0 d.1))
      ]
    ]

    rule_kept : is_none (state_rule s.config small x) ≡ true
    rule_kept =
        let stable = state_rule_stable small large lawful_part.in_order lawful.in_order inside (λ a b h i j. closed a b h i j) s.config x (λ y n j. cited y n j) in
        let admits = (settled_admits s.config k (received_rising s whole) x m).1 in
        ap is_none (sym stable) ∙ (and_parts (length (missing_of s.config k large x) == 0) (is_none (state_rule s.config large x)) admits).1

    pub none_missing : (length (missing_of s.config l small x) == 0) ≡ true
    unfolding missing_of
    none_missing = none_left (is_need_met s.config l small) (needs_of x) need_met

    settles_here : settles s.config l small x ≡ true
    settles_here = and_whole (length (missing_of s.config l small x) == 0) (is_none (state_rule s.config small x)) none_missing rule_kept

  all_settle : (fuel : ℕ) (x : Node) → lawful.rank x < fuel → Among x l.units → Among x small
  all_settle zero x lt m = absurd (omega arith)
  all_settle (suc fuel) x lt m = settled_has s.config l (received_rising s part) x m
      (settles_here x (is_part.within x m) (λ y n h. let lower = lawful.falls y x n (is_part.within x m) h in all_settle fuel y (omega arith) (is_part.below y x m n h))
      (λ v h. is_part.marks x v m h) (λ d h. is_part.endorsed x d m h))

  pub there : (x : Node) → Among x l.units → Among x small
  there x m = all_settle (suc (lawful.rank x)) x (omega arith) m

  -- ---- what is below a unit is the same

  past_same : (x : Node) → Among x small → past large x.unit.panorama ≡ past small x.unit.panorama
  past_same x m = past_stable small large lawful_part.in_order lawful.in_order inside (λ a b h i j. closed a b h i j) x.unit.panorama (λ y n h. closed y x m n h)

  parent_same : (x : Node) → Among x small → unit_fork s.config.weights large x ≡ unit_fork s.config.weights small x
  parent_same x m = ap (λ below. fork_over s.config.weights below x.unit.panorama) (past_same x m)

  lane_out : (u : Node) → Within (lane_of small u) (lane_of large u)
  lane_out u = reach_more follows (λ x. node_eq x u) small large inside

  lane_in : (u : Node) → Among u small → Within (lane_of large u) (lane_of small u)
  lane_in u m = reach_stays follows (λ x. node_eq x u) small large inside
      (λ x y h n f. closed x y h n (followed_cited s.config.weights (is_faulty k large) large lawful y x f))
      (λ x n e. subst (λ z. Among z small) (sym (rising_one_name large lawful.in_order x u u.digest n (inside u m) e (digest_self u.digest))) m)

  -- ---- who is faulty, and the latest units

  no_more_faulty : (v : ℕ) → is_faulty l small v ≡ true → is_faulty k large v ≡ true
  no_more_faulty v h = elim (or_cases (has_evidence l.with_evidence v) (equivocates small v) h) [
    | inl e ↦ is_part.no_other v e
    | inr f ↦ or_right (has_evidence k.with_evidence v) (equivocates large v) (more_equivocate s.config k (received_rising s whole) (rising_one_name k.units (received_rising s whole)) small large v inside f)
  ]

  module _ (v : ℕ) (u : Node) (lt : v < length s.config.weights) (known : Among u l.units) (seen : latest large (panorama_of s.config k) v ≡ Some u) where
    slot_is : (d : Digest) × (slot (panorama_of s.config k) v ≡ Correct d) × Among u large × (u.digest ≡ d)
    slot_is = let h = chains.latest_is large (panorama_of s.config k) v u seen in let f = find_node_is large u h.0 h.2 in (h.0, h.1, f.0, f.1)

    tip : IsTip large v u
    unfolding panorama_of
    tip =
        let t = panorama_closed s.config (is_faulty k large) large lawful v slot_is.0 slot_is.1 in
        let is : t.0 ≡ u = rising_one_name large lawful.in_order t.0 u u.digest t.1.member slot_is.2 (named_eq t.0 u (t.2 ∙ sym slot_is.3)) (digest_self u.digest) in
        subst (λ z. IsTip large v z) is t.1

    not_faulty : is_faulty k large v ≡ false
    unfolding panorama_of
    not_faulty = go (is_faulty k large v) refl
      where
        go : (b : Bool) → is_faulty k large v ≡ b → b ≡ false
        go false e = refl
        go true e = absurd (
            let marked : slot (panorama_of s.config k) v ≡ Faulty = slot_over s.config (is_faulty k large) large v lt ∙ ap (λ b. cond b Faulty (correct_or_absent (tip_of large v))) e in
            let bad : Faulty ≡ Correct slot_is.0 = sym marked ∙ slot_is.1 in
            cc)

    not_faulty_there : is_faulty l small v ≡ false
    not_faulty_there = go (is_faulty l small v) refl
      where
        go : (b : Bool) → is_faulty l small v ≡ b → b ≡ false
        go false e = refl
        go true e = absurd (never_both (is_faulty k large v) (no_more_faulty v e) not_faulty)

    u_in : Among u small
    u_in = there u known

    tip_there : IsTip small v u
    tip_there = record {
      member = u_in;
      creator = tip.creator;
      lane = λ x m e.
          let on = named_among large (lane_of large u) x (rising_one_name large lawful.in_order) (lane_within s.config.weights (is_faulty k large) large lawful u) (inside x m) (tip.lane x (inside x m) e) in
          among_is x (lane_of small u) (lane_in u u_in x on);
    }

    seen_there : latest small (panorama_of s.config l) v ≡ Some u
    unfolding panorama_of
    seen_there =
        let one = one_tip s.config (is_faulty l small) small lawful_part v u not_faulty_there u_in tip.creator in
        let is : u ≡ one.tip = one.only u tip_there in
        latest_is small (panorama_of s.config l) v u.digest u (one.slot_is ∙ ap (λ (z : Node). Correct z.digest) (sym is)) (found_node small u u.digest (rising_one_name small lawful_part.in_order) u_in refl)

  -- ---- votes

  vote_kept : (block x : Node) → Among x small → votes_for (length large) (unit_fork s.config.weights large) block x ≡ true → votes_for (length small) (unit_fork s.config.weights small) block x ≡ true
  vote_kept block x m h =
      let w = s.config.weights in
      let v = votes_up w large (graph_in s whole) (length large) block x h in
      let chosen = sym (ap (λ o. cond (is_block x) (Some x) o) (parent_same x m)) ∙ v.chosen in
      let choice_in = vote_in w small (graph_in s part) x v.choice m chosen in
      up_votes w small (graph_in s part) (length small) block x (record {
        choice = v.choice;
        ancestor = v.ancestor;
        chosen = chosen;
        named = v.named;
        above = up_was w small large (graph_in s part) (graph_in s whole) parent_same v.ancestor v.choice choice_in v.above;
      }) (past_size w small (graph_in s part) v.choice.unit.panorama)

  -- ---- the summit

  module _ (c : Committees) (latest_in : (v : ℕ) (u : Node) → c.member 0 v ≡ true → latest large (panorama_of s.config k) v ≡ Some u → Among u l.units) (block : Node) (level quorum : ℕ) (summit : IsSummit s.config.weights large (panorama_of s.config k) block level quorum c) where
    -- the latest unit of a member is that of the whole
    same_latest : (j v : ℕ) (u : Node) → j ≤ level → c.member j v ≡ true → latest small (panorama_of s.config l) v ≡ Some u → latest large (panorama_of s.config k) v ≡ Some u
    same_latest j v u le member seen =
        let first = member_zero s.config.weights large (panorama_of s.config k) block quorum level c summit v j le member in
        let x = summit.correct_slot v first in
        let one : Some x.1 ≡ Some u = sym (seen_there v x.1 x.0 (latest_in v x.1 first x.2) x.2) ∙ seen in
        x.2 ∙ one

    kept_summit : IsSummit s.config.weights small (panorama_of s.config l) block level quorum c
    kept_summit = record {
      correct_slot = λ v member. let x = summit.correct_slot v member in (x.0, x.1, seen_there v x.1 x.0 (latest_in v x.1 member x.2) x.2);
      nested = summit.nested;
      not_empty = summit.not_empty;
      start_in_lane = λ j v u le member seen. summit.start_in_lane j v u le member (same_latest j v u le member seen);
      votes = λ v u member seen x n from.
          vote_kept block x (lane_within s.config.weights (is_faulty l small) small lawful_part u x n) (summit.votes v u member (same_latest 0 v u (omega arith) member seen) x (lane_out u x n) from);
      quorums = λ j v u low le member seen x n from.
          subst (λ below. quorum ≤ weight_of s.config.weights (λ w. c.member j w && list_any (λ y. (y.unit.creator == w) && nat_le (c.start (j - 1) w) y.unit.seq) below))
          (past_same x (lane_within s.config.weights (is_faulty l small) small lawful_part u x n))
          (summit.quorums j v u low le member (same_latest j v u le member seen) x (lane_out u x n) from);
    }

  weighs_no_more : faulty_weight s.config l ≤ faulty_weight s.config k
  unfolding faulty_weight
  weighs_no_more = weight_of_le s.config.weights (is_faulty l small) (is_faulty k large) no_more_faulty

pub is_enough : EnoughIsEnough
is_enough s whole part block level quorum c low high is_quorum summit h = (
  record { low = low; high = high; is_quorum = is_quorum; summit = (c, kept_summit s whole part h.closed c h.latest_in block level quorum summit) },
  weighs_no_more s whole part h.closed,
)
