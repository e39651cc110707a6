-- The tips of cited units lead to the tip of the unit that cites them.
use Rattle.std.specs.Prelude.{◌==◌, if◌then◌else◌, slice_set}
use Rattle.std.proofs.lemmas.List.{get_or-set_same, get_or-set_other}
use Rattle.std.proofs.lemmas.Bool.{cases_lt}
use Rattle.std.proofs.Common.{Result, Ok, Err, IfOk, eqb-true, eq-eqb, cond, ◌≡◌, ℕ, ◌+◌, ◌<◌, ◌⊎◌, inl, inr, Bool, true, false, List, length, Option, Some, None, refl, sym, ap, subst, ◌∙◌, arith}
use Rattle.hw_types.specs.declared.unit.Digest.{Digest}
use Rattle.hw_types.specs.declared.unit.Obs.{Obs}
use Rattle.hw_types.specs.Graph.{past}
use Rattle.hw_types.specs.Below.{Among}
use Rattle.hw_types.proofs.WordsLaws.{either, never_both}
use Rattle.hw_dag.specs.declared.numbers.UnitNo.{UnitNo}
use Rattle.hw_dag.specs.declared.numbers.View.{View}
use Rattle.hw_dag.specs.declared.numbers.View.TheVariants as view
use Rattle.hw_dag.specs.Dag.{UnitGraph, unit_at, count_of, node_at, graph, creator_of, view_at, IsPanorama}
use Rattle.hw_dag.specs.Admission.{IsGraph}
use Rattle.hw_dag.specs.Lanes.{is_lane_below, is_seen}
use Rattle.hw_dag.proofs.LaneLaws.{seen_cases, past_seen, seen_itself, lane_is_seen, seen_on_lane, seen_entry}
use Rattle.hw_naivety.specs.Tips.{IsBelow, IsBelowEndorsed, IsNaive, IsUnder, IsNaiveTip, IsTip, HasLists, IsSightOf, IsRaised, IsRaisedOver, IsOnLaneOf, LanesAre, HasTips, TipTable, IsPlain, slot_tip, tip_at}
use Rattle.hw_naivety.specs.Heirs.{IsBequeathed}
use Rattle.hw_naivety.specs.declared.fork.NaiveFork.{NaiveFork}
use Rattle.hw_naivety.proofs.BelowLaws.{seen_trans, lane_trans, lane_order, lane_itself, under_below, below_under}

module _ (dag : UnitGraph) (g : IsGraph dag) where
  -- a unit below a unit of the list is there for all that is below it
  pub endorsed_lower : (panorama : List View) (endorsed : List Digest) (n m : ℕ) → n < count_of dag → m < count_of dag → is_seen dag n m ≡ true → IsBelowEndorsed dag panorama endorsed m → IsBelowEndorsed dag panorama endorsed n
  endorsed_lower panorama endorsed n m ln lm s b = record {
    name = b.name;
    among = b.among;
    below = record {
      named = b.below.named;
      known = b.below.known;
      name_is = b.below.name_is;
      found = b.below.found;
      seen = seen_trans dag g n m b.below.named ln lm b.below.known s b.below.seen;
    };
  }

  -- what a unit of the graph observes, and what it has strictly below it
  pub below_seen : (n m : ℕ) → n < count_of dag → m < count_of dag → IsBelow dag (unit_at dag m).panorama n → is_seen dag n m ≡ true
  below_seen n m ln lm b =
      let u = g.settled m lm in
      past_seen dag g n m (subst (λ (os : List Obs). Among (node_at dag n) (past (graph dag) os)) u.observes (below_under dag g (unit_at dag m).panorama u.panorama_is.known n ln b))

  pub seen_below : (n m : ℕ) → n < count_of dag → m < count_of dag → is_seen dag n m ≡ true → (n ≡ m) ⊎ IsBelow dag (unit_at dag m).panorama n
  seen_below n m ln lm s = elim (seen_cases dag g n m ln lm s) [
    | inl e ↦ inl e
    | inr h ↦
        let u = g.settled m lm in
        inr (under_below dag g (unit_at dag m).panorama u.panorama_is.known n ln (subst (λ (os : List Obs). Among (node_at dag n) (past (graph dag) os)) (sym u.observes) h))
  ]

  module _ (panorama : List View) (panorama_is : IsPanorama dag panorama) (endorsed : List Digest) where
    -- what is naive and strictly below an observed unit is naive for that unit
    pub naive_lower : HasLists dag panorama endorsed → (slot : ℕ) (cited : UnitNo) (v n : ℕ) → view_at panorama slot ≡ view.Correct cited → IsNaive dag panorama endorsed v n
        → IsBelow dag (unit_at dag cited.0).panorama n → IsNaive dag (unit_at dag cited.0).panorama (unit_at dag cited.0).signed.unit.endorsed v n
    naive_lower lists slot cited v n e h b = record {
      known = h.known;
      creator_is = h.creator_is;
      below = b;
      free = λ f. h.free (record {
        name = f.name;
        among = lists slot cited e f.name f.among;
        below = record {
          named = f.below.named;
          known = f.below.known;
          name_is = f.below.name_is;
          found = record {
            slot = slot;
            cited = cited;
            observed = e;
            seen = below_seen f.below.named cited.0 f.below.known (panorama_is.known slot cited e) f.below.found;
          };
          seen = f.below.seen;
        };
      });
    }

    -- ---- one slot

    -- the slot of the creator: its unit is the candidate
    pub own_candidate : (slot : ℕ) (cited : UnitNo) (n : ℕ) → view_at panorama slot ≡ view.Correct cited → IsNaive dag panorama endorsed slot n → is_seen dag n cited.0 ≡ true → IsUnder dag n (Some cited)
    own_candidate slot cited n e h s = seen_on_lane dag g n cited.0 h.known (panorama_is.known slot cited e) (h.creator_is ∙ sym (panorama_is.creator_is slot cited e)) s

    -- another slot: its unit's tip is the candidate
    pub tip_candidate : HasLists dag panorama endorsed → (slot : ℕ) (cited : UnitNo) (v n : ℕ) (tip : Option UnitNo) → view_at panorama slot ≡ view.Correct cited → (slot ≡ v → ⊥)
        → IsTip dag (unit_at dag cited.0).panorama (unit_at dag cited.0).signed.unit.endorsed v tip
        → IsNaive dag panorama endorsed v n → is_seen dag n cited.0 ≡ true → IsUnder dag n tip
    tip_candidate lists slot cited v n tip e other t h s = elim (seen_below n cited.0 h.known (panorama_is.known slot cited e) s) [
      | inl same ↦ absurd (other (sym (panorama_is.creator_is slot cited e) ∙ ap (λ (k : ℕ). creator_of (unit_at dag k)) (sym same) ∙ h.creator_is))
      | inr b ↦ t.all n (naive_lower lists slot cited v n e h b)
    ]

    pub tip_below : (slot : ℕ) (cited : UnitNo) (v : ℕ) (t : UnitNo) → view_at panorama slot ≡ view.Correct cited
        → IsNaive dag (unit_at dag cited.0).panorama (unit_at dag cited.0).signed.unit.endorsed v t.0 → IsBelow dag panorama t.0
    tip_below slot cited v t e h = record {
      slot = slot;
      cited = cited;
      observed = e;
      seen = below_seen t.0 cited.0 h.known (panorama_is.known slot cited e) h.below;
    }

    -- ---- the step

    -- no naive unit is on the lane of one that is below the list
    pub none_under : (v candidate n : ℕ) → candidate < count_of dag → IsBelowEndorsed dag panorama endorsed candidate → IsNaive dag panorama endorsed v n → is_lane_below dag n candidate ≡ true → ⊥
    none_under v candidate n lc b h s = h.free (endorsed_lower panorama endorsed n candidate h.known lc (lane_is_seen dag g n candidate h.known lc s) b)

    -- ---- the whole

    -- two naive units on one tip's lane are comparable
    pub tip_order : (v : ℕ) (tip : Option UnitNo) → IsTip dag panorama endorsed v tip → (m n : ℕ) → IsNaive dag panorama endorsed v m → IsNaive dag panorama endorsed v n
        → (is_lane_below dag m n ≡ true) ⊎ (is_lane_below dag n m ≡ true)
    tip_order v None t m n hm hn = absurd (t.all m hm)
    tip_order v (Some tip) t m n hm hn = lane_order dag g tip.0 m n (t.naive tip refl).known hm.known hn.known (t.all m hm) (t.all n hn)

    pub found_order : (v : ℕ) (r : Result (Option UnitNo) NaiveFork) → IfOk r (IsTip dag panorama endorsed v) → ((fork : NaiveFork) → r ≡ Err fork → ⊥) → (m n : ℕ) → IsNaive dag panorama endorsed v m → IsNaive dag panorama endorsed v n
        → (is_lane_below dag m n ≡ true) ⊎ (is_lane_below dag n m ≡ true)
    found_order v (Ok tip) t other = tip_order v tip t
    found_order v (Err fork) t other = absurd (other fork refl)

    -- ---- what a slot's candidate is

    module _ (validators : ℕ) (same : validators ≡ dag.validators) (tips : TipTable) (has : HasTips dag panorama tips) (lists : HasLists dag panorama endorsed)
        (slot : ℕ) (cited : UnitNo) (v : ℕ) (e : view_at panorama slot ≡ view.Correct cited) (small : v < validators) where
      abbrev pub candidate_of : Option UnitNo
      candidate_of = if slot == v then Some cited else tip_at dag tips cited.0 v

      right : IsTip dag (unit_at dag cited.0).panorama (unit_at dag cited.0).signed.unit.endorsed v (tip_at dag tips cited.0 v)
      right = has.right slot cited v e (subst (λ (k : ℕ). v < k) same small)

      pub candidate_known : (t : UnitNo) → candidate_of ≡ Some t → (t.0 < count_of dag) × (creator_of (unit_at dag t.0) ≡ v) × IsBelow dag panorama t.0
      candidate_known t is = go (slot == v) refl is
        where
          go : (b : Bool) → (slot == v) ≡ b → cond b (Some cited) (tip_at dag tips cited.0 v) ≡ Some t → (t.0 < count_of dag) × (creator_of (unit_at dag t.0) ≡ v) × IsBelow dag panorama t.0
          go true at i =
              let it : cited ≡ t = cc in
              subst (λ (k : UnitNo). (k.0 < count_of dag) × (creator_of (unit_at dag k.0) ≡ v) × IsBelow dag panorama k.0) it (
                panorama_is.known slot cited e,
                panorama_is.creator_is slot cited e ∙ eqb-true slot v at,
                record { slot = slot; cited = cited; observed = e; seen = seen_itself dag g cited.0 },
              )
          go false at i = let h = right.naive t i in (h.known, h.creator_is, tip_below slot cited v t e h)

      pub candidate_all : (n : ℕ) → IsNaive dag panorama endorsed v n → is_seen dag n cited.0 ≡ true → IsUnder dag n candidate_of
      candidate_all n h s = go (slot == v) refl
        where
          go : (b : Bool) → (slot == v) ≡ b → IsUnder dag n (cond b (Some cited) (tip_at dag tips cited.0 v))
          go true at = own_candidate slot cited n e (subst (λ (k : ℕ). IsNaive dag panorama endorsed k n) (sym (eqb-true slot v at)) h) s
          go false at = tip_candidate lists slot cited v n (tip_at dag tips cited.0 v) e (λ is. never_both (slot == v) (eq-eqb slot v is) at) right h s

      -- raised over the candidate, it is raised over the slot
      pub raised_over : (tip candidate raised : Option UnitNo) → candidate_of ≡ candidate → IsRaised dag panorama endorsed v tip candidate raised → IsRaisedOver dag panorama endorsed v slot tip raised
      raised_over tip candidate raised is r = record {
        naive = r.naive;
        kept = r.kept;
        more = λ other n at h s.
            let same : other ≡ cited = (let k : view.Correct other ≡ view.Correct cited = sym at ∙ e in cc) in
            r.more n h (subst (λ (o : Option UnitNo). IsUnder dag n o) is (candidate_all n h (subst (λ (k : UnitNo). is_seen dag n k.0 ≡ true) same s)));
      }

      pub raised_result : (tip candidate : Option UnitNo) (r : Result (Option UnitNo) NaiveFork) → candidate_of ≡ candidate → IfOk r (IsRaised dag panorama endorsed v tip candidate) → IfOk r (IsRaisedOver dag panorama endorsed v slot tip)
      raised_result tip candidate (Ok raised) is h = raised_over tip candidate raised is h
      raised_result tip candidate (Err fork) is h = tt

      pub raised_none : (tip : Option UnitNo) → candidate_of ≡ None → IsNaiveTip dag panorama endorsed v tip → IsRaisedOver dag panorama endorsed v slot tip tip
      raised_none tip is naive = raised_over tip None tip is (record { naive = naive; kept = λ n lt u. u; more = λ n h u. absurd u })

    -- a slot without a unit changes nothing
    pub raised_nothing : (slot v : ℕ) (tip : Option UnitNo) → ((cited : UnitNo) → view_at panorama slot ≡ view.Correct cited → ⊥) → IsNaiveTip dag panorama endorsed v tip → IsRaisedOver dag panorama endorsed v slot tip tip
    raised_nothing slot v tip nothing naive = record { naive = naive; kept = λ n lt u. u; more = λ cited n e h s. absurd (nothing cited e) }

    -- ---- a settled unit

    module _ (no : ℕ) (sight : IsSightOf dag no panorama endorsed) where
      own_entry : (v n : ℕ) → IsNaive dag panorama endorsed v n → (view_at panorama v ≡ view.Faulty) ⊎ ((last : UnitNo) × (view_at panorama v ≡ view.Correct last) × (is_lane_below dag n last.0 ≡ true))
      own_entry v n h =
          let u = g.settled no sight.known in
          let below = subst (λ (ws : List View). IsBelow dag ws n) sight.panorama_is h.below in
          let old = subst (λ (os : List Obs). Among (node_at dag n) (past (graph dag) os)) u.observes (below_under dag g (unit_at dag no).panorama u.panorama_is.known n h.known below) in
          let entry = seen_entry dag g n no h.known sight.known old in
          let here : view_at (unit_at dag no).panorama (creator_of (unit_at dag n)) ≡ view_at panorama v = ap (λ (ws : List View). view_at ws (creator_of (unit_at dag n))) (sym sight.panorama_is) ∙ ap (λ (k : ℕ). view_at panorama k) h.creator_is in
          elim entry [
            | inl marked ↦ inl (sym here ∙ marked)
            | inr last ↦ inr (last.0, sym here ∙ last.1, last.2)
          ]

      entry_last : (v n : ℕ) (last : UnitNo) → view_at panorama v ≡ view.Correct last → IsNaive dag panorama endorsed v n → is_lane_below dag n last.0 ≡ true
      entry_last v n last e h = elim (own_entry v n h) [
        | inl marked ↦ absurd (let s : view.Correct last ≡ view.Faulty = sym e ∙ marked in cc)
        | inr k ↦ (let same : k.0 ≡ last = (let s : view.Correct k.0 ≡ view.Correct last = sym k.1 ∙ e in cc) in subst (λ (m : UnitNo). is_lane_below dag n m.0 ≡ true) same k.2)
      ]

      pub absent_tip : (v : ℕ) → view_at panorama v ≡ view.Absent → IsTip dag panorama endorsed v None
      absent_tip v e = record {
        naive = λ t is. absurd cc;
        all = λ n h. elim (own_entry v n h) [
          | inl marked ↦ absurd (let s : view.Absent ≡ view.Faulty = sym e ∙ marked in cc)
          | inr k ↦ absurd (let s : view.Absent ≡ view.Correct k.0 = sym e ∙ k.1 in cc)
        ];
      }

      pub endorsed_tip : (v : ℕ) (last : UnitNo) → view_at panorama v ≡ view.Correct last → IsBelowEndorsed dag panorama endorsed last.0 → IsTip dag panorama endorsed v None
      endorsed_tip v last e b = record {
        naive = λ t is. absurd cc;
        all = λ n h. none_under v last.0 n (panorama_is.known v last e) b h (entry_last v n last e h);
      }

      pub last_tip : (v : ℕ) (last : UnitNo) → view_at panorama v ≡ view.Correct last → (IsBelowEndorsed dag panorama endorsed last.0 → ⊥) → IsTip dag panorama endorsed v (Some last)
      last_tip v last e free = record {
        naive = λ t is.
            let same : last ≡ t = cc in
            subst (λ (k : UnitNo). IsNaive dag panorama endorsed v k.0) same
            (record { known = panorama_is.known v last e; creator_is = panorama_is.creator_is v last e; below = record { slot = v; cited = last; observed = e; seen = seen_itself dag g last.0 }; free = free });
        all = λ n h. entry_last v n last e h;
      }

      -- the tip of an observed unit with this very list, all of it below, where the two observe one unit of the creator
      pub inherited_tip : HasLists dag panorama endorsed → (before : UnitNo) → IsBequeathed dag panorama endorsed before → (v : ℕ) (last : UnitNo) (tip : Option UnitNo) → view_at panorama v ≡ view.Correct last
          → view_at (unit_at dag before.0).panorama v ≡ view.Correct last → IsTip dag (unit_at dag before.0).panorama (unit_at dag before.0).signed.unit.endorsed v tip → IsTip dag panorama endorsed v tip
      inherited_tip lists before b v last tip e o t = record {
        naive = λ k is.
            let h = t.naive k is in
            record {
              known = h.known;
              creator_is = h.creator_is;
              below = tip_below b.slot before v k b.observed h;
              free = λ f. h.free (record {
                name = f.name;
                among = subst (λ (ds : List Digest). Among f.name ds) (sym b.list_is) f.among;
                below = record {
                  named = f.below.named;
                  known = f.below.known;
                  name_is = f.below.name_is;
                  found = b.list_below f.name f.among f.below.named f.below.known f.below.name_is;
                  seen = f.below.seen;
                };
              });
            };
        all = λ n h. t.all n (naive_lower lists b.slot before v n b.observed h (record {
          slot = v;
          cited = last;
          observed = o;
          seen = lane_is_seen dag g n last.0 h.known (panorama_is.known v last e) (entry_last v n last e h);
        }));
      }

      -- a unit that marks nobody and endorses nothing: its slots are its tips
      pub plain_tip : IsPlain panorama endorsed → (v : ℕ) → IsTip dag panorama endorsed v (slot_tip (view_at panorama v))
      plain_tip plain v = go (view_at panorama v) refl
        where
          go : (slot : View) → view_at panorama v ≡ slot → IsTip dag panorama endorsed v (slot_tip slot)
          go view.Absent e = absent_tip v e
          go (view.Correct last) e = last_tip v last e (λ b. subst (λ (ds : List Digest). Among b.name ds) plain.unlisted b.among)
          go view.Faulty e = absurd (plain.unmarked v e)

    pub tips_stay : (old new : TipTable) → HasTips dag panorama old → new.places ≡ old.places → ((n v : ℕ) → v < dag.validators → tip_at dag new n v ≡ tip_at dag old n v) → HasTips dag panorama new
    tips_stay old new has same stay = record {
      kept = λ slot cited e. subst (λ (ps : List ℕ). cited.0 < length ps) (sym same) (has.kept slot cited e);
      right = λ slot cited v e small.
          subst (λ (o : Option UnitNo). IsTip dag (unit_at dag cited.0).panorama (unit_at dag cited.0).signed.unit.endorsed v o) (sym (stay cited.0 v small)) (has.right slot cited v e small);
    }

  -- ---- lanes

  module _ (lanes : List View) (no : UnitNo) (known : no.0 < count_of dag) (room : creator_of (unit_at dag no.0) < length lanes) (are : LanesAre dag no.0 lanes) where
    abbrev it : ℕ
    it = creator_of (unit_at dag no.0)

    -- the new lane of the creator: its unit's, where the earlier ones are on it
    abbrev pub IsFollowed : View → Type 0
    IsFollowed view.Absent = ⊥
    IsFollowed (view.Correct last) = (last ≡ no) × ((n : ℕ) → n < no.0 → IsOnLaneOf dag n (view_at lanes it) → is_lane_below dag n no.0 ≡ true)
    IsFollowed view.Faulty = Unit {0}

    pub follow_first : view_at lanes it ≡ view.Absent → IsFollowed (view.Correct no)
    follow_first e = (refl, λ n lt on. absurd (subst (λ (w : View). IsOnLaneOf dag n w) e on))

    pub follow_next : (last : UnitNo) → view_at lanes it ≡ view.Correct last → is_lane_below dag last.0 no.0 ≡ true → IsFollowed (view.Correct no)
    follow_next last e t = (refl, λ n lt on. lane_trans dag g n last.0 no.0 (omega arith) (are.known it last e) known (subst (λ (w : View). IsOnLaneOf dag n w) e on) t)

    followed_on : (n : ℕ) (lane : View) → IsFollowed lane → n < no.0 + 1 → IsOnLaneOf dag n (view_at lanes it) ⊎ (n ≡ no.0) → IsOnLaneOf dag n lane
    followed_on n view.Absent f less h = absurd f
    followed_on n view.Faulty f less h = tt
    followed_on n (view.Correct last) f less (inr e) = subst (λ (k : UnitNo). is_lane_below dag n k.0 ≡ true) (sym f.0) (subst (λ (k : ℕ). is_lane_below dag k no.0 ≡ true) (sym e) (lane_itself dag g no.0 known))
    followed_on n (view.Correct last) f less (inl h) = elim (cases_lt n no.0) [
      | inl lt ↦ subst (λ (k : UnitNo). is_lane_below dag n k.0 ≡ true) (sym f.0) (f.1 n lt h)
      | inr above ↦ subst (λ (k : UnitNo). is_lane_below dag n k.0 ≡ true) (sym f.0) (let e : no.0 ≡ n = omega arith in subst (λ (k : ℕ). is_lane_below dag k no.0 ≡ true) e (lane_itself dag g no.0 known))
    ]

    followed_known : (lane : View) (last : UnitNo) → IsFollowed lane → lane ≡ view.Correct last → last.0 < count_of dag
    followed_known view.Absent last f e = absurd f
    followed_known view.Faulty last f e = absurd cc
    followed_known (view.Correct k) last f e = let same : no ≡ last = (let s : k ≡ last = cc in sym f.0 ∙ s) in subst (λ (m : UnitNo). m.0 < count_of dag) same known

    pub lanes_follow : (lane : View) → IsFollowed lane → LanesAre dag (no.0 + 1) (slice_set lanes it lane)
    lanes_follow lane f = record { known = known_at; on_lane = lane_at }
      where
        set_at : (v : ℕ) → (v ≡ it) → view_at (slice_set lanes it lane) v ≡ lane
        set_at v e = subst (λ (k : ℕ). view_at (slice_set lanes it lane) k ≡ lane) (sym e) (get_or-set_same lanes it lane view.Absent room)

        other_at : (v : ℕ) → (v ≡ it → ⊥) → view_at (slice_set lanes it lane) v ≡ view_at lanes v
        other_at v e = get_or-set_other lanes it v lane view.Absent e

        known_at : (v : ℕ) (last : UnitNo) → view_at (slice_set lanes it lane) v ≡ view.Correct last → last.0 < count_of dag
        known_at v last e = elim (either (v == it)) [
          | inl t ↦ followed_known lane last f (sym (set_at v (eqb-true v it t)) ∙ e)
          | inr d ↦ are.known v last (sym (other_at v (λ s. never_both (v == it) (eq-eqb v it s) d)) ∙ e)
        ]

        lane_at : (n : ℕ) → n < no.0 + 1 → IsOnLaneOf dag n (view_at (slice_set lanes it lane) (creator_of (unit_at dag n)))
        lane_at n less = elim (either (creator_of (unit_at dag n) == it)) [
          | inl t ↦
              let same = eqb-true (creator_of (unit_at dag n)) it t in
              subst (λ (w : View). IsOnLaneOf dag n w) (sym (set_at (creator_of (unit_at dag n)) same)) (followed_on n lane f less (before n less same))
          | inr d ↦
              let other : creator_of (unit_at dag n) ≡ it → ⊥ = λ s. never_both (creator_of (unit_at dag n) == it) (eq-eqb (creator_of (unit_at dag n)) it s) d in
              subst (λ (w : View). IsOnLaneOf dag n w) (sym (other_at (creator_of (unit_at dag n)) other)) (are.on_lane n (lower n less other))
        ]
          where
            before : (n : ℕ) → n < no.0 + 1 → creator_of (unit_at dag n) ≡ it → IsOnLaneOf dag n (view_at lanes it) ⊎ (n ≡ no.0)
            before n less same = elim (cases_lt n no.0) [
              | inl lt ↦ inl (subst (λ (k : ℕ). IsOnLaneOf dag n (view_at lanes k)) same (are.on_lane n lt))
              | inr above ↦ inr (omega arith)
            ]

            lower : (n : ℕ) → n < no.0 + 1 → (creator_of (unit_at dag n) ≡ it → ⊥) → n < no.0
            lower n less other = elim (cases_lt n no.0) [
              | inl lt ↦ lt
              | inr above ↦ absurd (other (let e : n ≡ no.0 = omega arith in ap (λ (k : ℕ). creator_of (unit_at dag k)) e))
            ]
