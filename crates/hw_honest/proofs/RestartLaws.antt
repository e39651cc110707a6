-- A node that starts again from its log keeps its line.
use Rattle.std.specs.Prelude.{fold, filter_map}
use Rattle.std.proofs.Common.{◌≡◌, ℕ, ◌<◌, Bool, true, false, cond, List, [], ◌∷◌, ◌++◌, length, Option, Some, None, refl, sym, ap, subst, ◌∙◌, inl, inr}
use Rattle.hw_types.specs.declared.unit.SignedUnit.{SignedUnit}
use Rattle.hw_types.specs.declared.unit.Evidence.{Evidence}
use Rattle.hw_types.specs.declared.unit.Vertex.{Vertex}
use Rattle.hw_types.specs.declared.unit.Vertex.TheVariants as vertex
use Rattle.hw_types.specs.Graph.{Node}
use Rattle.hw_types.specs.declared.answers.Plan.{Plan}
use Rattle.hw_types.specs.Below.{Among}
use Rattle.hw_types.specs.Limits.{config_fault}
use Rattle.hw_types.specs.Journal.{Setting, named, evidence_in, received_of, refusal, answer, is_accepted, journal_after, journal_of}
use Rattle.hw_types.specs.Step.{step}
use Rattle.hw_types.specs.laws.StateLaws.{units_in, NamesApart}
use Rattle.hw_types.specs.Culprits.{signed_in}
use Rattle.hw_types.proofs.EntryLaws.{append_cases, among_mapped}
use Rattle.hw_types.proofs.UnionLaws.{from_left}
use Rattle.hw_types.proofs.OrderLaws.{accepted, journal_apart}
use Rattle.hw_honest.specs.OneLine.{OneLine, units_by}
use Rattle.hw_honest.specs.Restart.{Logged, Event, make, take, restart, logged, trusted, signed_by, after_event, life_of, IsFair, AreFair, MayGoOut}
use Rattle.hw_honest.specs.Laws.{IsSafeToStart}
use Rattle.hw_honest.proofs.OneLineLaws.{IsPair, pair_stands, Settles, by_has, numbers_apart, no_more, line_after}
use Rattle.hw_honest.proofs.OwnUnitLaws.{step_keeps, plan_settles}
use Rattle.hw_honest.proofs.ClusterLaws.{unit_known}
use Rattle.hw_honest.proofs.ReplayLaws.{journal_more, replay_gives_back}

module _ (s : Setting) (me : ℕ) where
  apart_of : (n : Logged) → IsSafeToStart s me n → NamesApart (units_in s n.journal)
  apart_of n kept = subst (λ journal. NamesApart (units_in s journal)) (sym kept.journal) (journal_apart s kept.deliveries)

  -- a vertex that keeps the line, and goes last in the log where it goes last in the journal
  kept_more : (n : Logged) → IsSafeToStart s me n → (v : Vertex) (verdict : Bool) → OneLine s (journal_after s n.journal (v, verdict)) me → IsSafeToStart s me (logged s n v verdict)
  kept_more n kept v verdict line = record {
    deliveries = kept.deliveries ++ (v, verdict) ∷ [];
    journal = ap (λ journal. journal_after s journal (v, verdict)) kept.journal ∙ sym (journal_more s kept.deliveries (v, verdict));
    log = ap (λ log. cond (is_accepted (answer s n.journal v verdict)) (log ++ v ∷ []) log) kept.log;
    line = line;
  }

  kept_restart : (n : Logged) → IsSafeToStart s me n → IsSafeToStart s me (record { journal = journal_of s (trusted n.log); log = n.log })
  kept_restart n kept =
      let back : journal_of s (trusted n.log) ≡ n.journal = ap (λ journal. journal_of s (trusted journal)) (kept.log ∙ kept.journal) ∙ replay_gives_back s kept.deliveries ∙ sym kept.journal in
      record { deliveries = kept.deliveries; journal = back ∙ kept.journal; log = kept.log ∙ sym back; line = subst (λ journal. OneLine s journal me) (sym back) kept.line }

  -- the log keeps its entries
  log_stays : (n : Logged) (e : Event) (v : Vertex) → Among v n.log → Among v (after_event s me n e).log
  unfolding after_event
  log_stays n (make now value signature) v m = go (step s (received_of s n.journal) me now value)
    where
      more : (w : Vertex) (b : Bool) → Among v (cond b (n.log ++ w ∷ []) n.log)
      more w true = from_left v n.log (w ∷ []) m
      more w false = m

      go : (o : Option Plan) → Among v (elim o as (λ z. Logged) [ None ↦ n | Some p ↦ logged s n (signed_by signature p.unit) true ]).log
      go None = m
      go (Some p) = more (signed_by signature p.unit) (is_accepted (answer s n.journal (signed_by signature p.unit) true))
  log_stays n (take w verdict) v m = go (is_accepted (answer s n.journal w verdict))
    where
      go : (b : Bool) → Among v (cond b (n.log ++ w ∷ []) n.log)
      go true = from_left v n.log (w ∷ []) m
      go false = m
  log_stays n restart v m = m

  pub log_grows : (n : Logged) (events : List Event) (v : Vertex) → Among v n.log → Among v (life_of s me n events).log
  log_grows n [] v m = m
  log_grows n (e ∷ more) v m = log_grows (after_event s me n e) more v (log_stays n e v m)

  module _ (sound : config_fault s.config ≡ None) (validator : me < length s.config.weights) where
    kept_event : (n : Logged) → IsSafeToStart s me n → (e : Event) → IsFair s me n e → IsSafeToStart s me (after_event s me n e)
    unfolding after_event
    kept_event n kept (make now value signature) fair = go (step s (received_of s n.journal) me now value) refl
      where
        settles : (p : Plan) → step s (received_of s n.journal) me now value ≡ Some p → Settles s n.journal p.unit
        settles p e = plan_settles s n.journal me now value p sound validator e

        unit : Plan → SignedUnit
        unit p = record { unit = p.unit; signature = signature }

        go : (o : Option Plan) → step s (received_of s n.journal) me now value ≡ o → IsSafeToStart s me (elim o as (λ z. Logged) [ None ↦ n | Some p ↦ logged s n (signed_by signature p.unit) true ])
        go None e = kept
        go (Some p) e = kept_more n kept (signed_by signature p.unit) true (step_keeps s n.journal me now value p kept.line e (apart_of n kept) (unit p) refl (settles p e) true)
    kept_event n kept (take v verdict) fair = kept_more n kept v verdict (line_after s n.journal me v verdict kept.line (λ h. no_more s n.journal me (apart_of n kept) kept.line v (accepted s n.journal v verdict h) (fair h)))
    kept_event n kept restart fair = kept_restart n kept

    pub kept_life : (n : Logged) (events : List Event) → IsSafeToStart s me n → AreFair s me n events → IsSafeToStart s me (life_of s me n events)
    kept_life n [] kept fair = kept
    kept_life n (e ∷ more) kept fair = kept_life (after_event s me n e) more (kept_event n kept e fair.0) fair.1

pub logged_apart : (s : Setting) (me : ℕ) (n : Logged) → IsSafeToStart s me n → (u w : SignedUnit) → Among (vertex.Unit u) n.log → Among (vertex.Unit w) n.log → u.unit.creator ≡ me → w.unit.creator ≡ me → u.unit.seq ≡ w.unit.seq → u.unit ≡ w.unit
logged_apart s me n kept u w m k by other number = ap (λ (z : Node). z.unit) (numbers_apart s n.journal me kept.line (named s u.unit) (named s w.unit) (known u m by) (known w k other) number)
  where
    known : (x : SignedUnit) → Among (vertex.Unit x) n.log → x.unit.creator ≡ me → Among (named s x.unit) (units_by s n.journal me)
    known x h made = by_has s n.journal me (named s x.unit)
        (subst (λ journal. Among (named s x.unit) (received_of s journal).units) (sym kept.journal) (unit_known s kept.deliveries x (subst (λ journal. Among (vertex.Unit x) journal) (kept.log ∙ kept.journal) h))) made

-- ---- what goes out

-- evidence of a journal that deliveries made is two units of one creator
pairs_from : (s : Setting) (journal : List Vertex) (deliveries : List (Vertex × Bool)) → ((e : Evidence) → Among (vertex.Evidence e) journal → IsPair e) → (e : Evidence) → Among (vertex.Evidence e) (fold (journal_after s) journal deliveries) → IsPair e
pairs_from s journal [] h = h
pairs_from s journal (d ∷ ds) h = pairs_from s (journal_after s journal d) ds (go (is_accepted (answer s journal d.0 d.1)) refl)
  where
    only_one : (x y : Vertex) → Among x (y ∷ []) → y ≡ x
    only_one x y (inl e) = e
    only_one x y (inr never) = absurd never

    go : (b : Bool) → is_accepted (answer s journal d.0 d.1) ≡ b → (e : Evidence) → Among (vertex.Evidence e) (cond b (journal ++ d.0 ∷ []) journal) → IsPair e
    go false k = h
    go true k = λ e m. elim (append_cases (vertex.Evidence e) journal (d.0 ∷ []) m) [
      | inl old ↦ h e old
      | inr new ↦ pair_stands s journal e (subst (λ w. refusal s journal w ≡ None) (only_one (vertex.Evidence e) d.0 new) (accepted s journal d.0 d.1 k).not_refused)
    ]

module _ (s : Setting) (me : ℕ) (n : Logged) (kept : IsSafeToStart s me n) where
  -- no evidence of the log holds a unit by the node
  no_own_evidence : (e : Evidence) (x : SignedUnit) → Among (vertex.Evidence e) n.log → Among x (signed_in (vertex.Evidence e)) → x.unit.creator ≡ me → ⊥
  no_own_evidence e x m k by = kept.line.no_evidence (subst (λ v. Among v (filter_map evidence_in n.journal)) (left_by k) (among_mapped evidence_in (vertex.Evidence e) e.left.unit.creator n.journal there refl))
    where
      there : Among (vertex.Evidence e) n.journal
      there = subst (λ journal. Among (vertex.Evidence e) journal) kept.log m

      pair : IsPair e
      pair = pairs_from s [] kept.deliveries (λ f h. absurd h) e (subst (λ journal. Among (vertex.Evidence e) journal) kept.journal there)

      left_by : Among x (signed_in (vertex.Evidence e)) → e.left.unit.creator ≡ me
      left_by (inl same) = ap (λ (z : SignedUnit). z.unit.creator) same ∙ by
      left_by (inr (inl same)) = pair.creator ∙ ap (λ (z : SignedUnit). z.unit.creator) same ∙ by
      left_by (inr (inr never)) = absurd never

  -- a unit by the node that goes out stands in the log
  logged_unit : (v : Vertex) → MayGoOut n v → (x : SignedUnit) → Among x (signed_in v) → x.unit.creator ≡ me → Among (vertex.Unit x) n.log
  logged_unit (vertex.Unit u) (inl m) x (inl e) by = subst (λ (z : SignedUnit). Among (vertex.Unit z) n.log) e m
  logged_unit (vertex.Unit u) (inl m) x (inr never) by = absurd never
  logged_unit (vertex.Unit u) (inr e) x k by = absurd (let no : vertex.Unit u ≡ vertex.Evidence e.0 = e.1 in cc)
  logged_unit (vertex.Evidence e) (inl m) x k by = absurd (no_own_evidence e x m k by)
  logged_unit (vertex.Evidence e) (inr f) x k by = out f k
    where
      out : ((g : Evidence) × (vertex.Evidence e ≡ vertex.Evidence g) × Among (vertex.Unit g.left) n.log × Among (vertex.Unit g.right) n.log) → Among x (signed_in (vertex.Evidence e)) → Among (vertex.Unit x) n.log
      out g (inr (inr never)) = absurd never
      out g (inl same) = let is : e ≡ g.0 = (let h : vertex.Evidence e ≡ vertex.Evidence g.0 = g.1 in cc) in subst (λ (z : SignedUnit). Among (vertex.Unit z) n.log) (ap (λ (h : Evidence). h.left) (sym is) ∙ same) g.2
      out g (inr (inl same)) = let is : e ≡ g.0 = (let h : vertex.Evidence e ≡ vertex.Evidence g.0 = g.1 in cc) in subst (λ (z : SignedUnit). Among (vertex.Unit z) n.log) (ap (λ (h : Evidence). h.right) (sym is) ∙ same) g.3
  logged_unit (vertex.Endorsement e) h x k by = absurd k

  pub out_apart : (v w : Vertex) → MayGoOut n v → MayGoOut n w → (x y : SignedUnit) → Among x (signed_in v) → Among y (signed_in w) → x.unit.creator ≡ me → y.unit.creator ≡ me → x.unit.seq ≡ y.unit.seq → x.unit ≡ y.unit
  out_apart v w h k x y m o by also number = logged_apart s me n kept x y (logged_unit v h x m by) (logged_unit w k y o also) by also number
