-- Lists of units that wait.
use Rattle.std.proofs.Common.{◌≡◌, ◌≢◌, ◌⊎◌, inl, inr, suc, Bool, true, false, not, cond, List, [], ◌∷◌, ◌++◌, length, find, Some, None, refl, sym, ap, subst, ◌∙◌, eqb-true}
use Rattle.std.specs.Prelude.{◌==◌, ◌||◌}
use Rattle.std.specs.Option.{option_map}
use Rattle.hw_types.specs.declared.unit.Digest.{Digest}
use Rattle.hw_types.specs.declared.unit.Need.{Need}
use Rattle.hw_types.specs.declared.unit.Need.TheVariants as need
use Rattle.hw_types.specs.declared.config.Config.{Config}
use Rattle.hw_types.specs.Graph.{Node}
use Rattle.hw_types.specs.Below.{Among}
use Rattle.hw_types.specs.Settled.{Received, is_faulty, is_need_met, need_eq, needs_of, missing_of}
use Rattle.hw_types.specs.laws.StateLaws.{HasOneMore}
use Rattle.hw_types.proofs.ClosureLaws.{Within}
use Rattle.hw_types.proofs.EntryLaws.{map_among}
use Rattle.hw_dag.specs.Admission.{PreparedUnit, node_prepared}
use Rattle.hw_park.specs.Parked.{Waiting, without_need, relieved, struck, is_ready, next_item, without_next}
use Rattle.hw_core.specs.Settle.{IsPart, IsUnknown, IsUnawaited, AreApart, Awaits, AreWaiting, waiting_nodes}
use Rattle.hw_types.proofs.JournalLaws.{filter_alike}
use Rattle.hw_core.proofs.NeedLaws.{filter_struck, missing_unit, missing_both}
use Rattle.hw_core.proofs.PartLaws.{part_self, part_skip, part_keep}

-- ---- a need is struck

pub nodes_struck : (n : Need) (ws : List (Waiting PreparedUnit)) → waiting_nodes (struck n ws) ≡ waiting_nodes ws
nodes_struck n [] = refl
nodes_struck n (w ∷ ws) = ap (λ (xs : List Node). node_prepared w.item ∷ xs) (nodes_struck n ws)

pub length_struck : (n : Need) (ws : List (Waiting PreparedUnit)) → length (struck n ws) ≡ length ws
length_struck n [] = refl
length_struck n (w ∷ ws) = ap suc (length_struck n ws)

unawaited_struck : (n : Need) (d : Digest) (ws : List (Waiting PreparedUnit)) → IsUnawaited d ws → IsUnawaited d (struck n ws)
unawaited_struck n d ws un v m e = let w = map_among (relieved n) v ws m in un w.0 w.1 (ap (λ (x : Waiting PreparedUnit). x.item.digest) w.2 ∙ e)

apart_struck : (n : Need) (ws : List (Waiting PreparedUnit)) → AreApart ws → AreApart (struck n ws)
apart_struck n [] apart = apart
apart_struck n (w ∷ ws) apart = (unawaited_struck n w.item.digest ws apart.0, apart_struck n ws apart.1)

-- ---- one unit more is settled

module _ (config : Config) (known : Received) (units more : List Node) (x : Node) (one : HasOneMore units more x) (waiting : List (Waiting PreparedUnit)) (are : AreWaiting config known units waiting)
    (un : IsUnawaited x.digest waiting) where
  unknown_more : (w : Waiting PreparedUnit) → Among w waiting → IsUnknown more w.item.digest
  unknown_more w m y n e = elim (one.no_other y n) [
    | inl old ↦ (are.each w m).unknown y old e
    | inr same ↦ un w m (sym e ∙ ap (λ (z : Node). z.digest) same)
  ]

  awaits_unit : is_faulty known more x.unit.creator ≡ false → (w : Waiting PreparedUnit) → Among w waiting → Awaits config known more (relieved (need.Unit x.digest) w)
  awaits_unit good w m = record {
    needs_are = ap (without_need (need.Unit x.digest)) (are.each w m).needs_are ∙ sym (missing_unit config known units more x one good (node_prepared w.item));
    local = (are.each w m).local;
    unknown = unknown_more w m;
  }

  awaits_both : is_faulty known more x.unit.creator ≡ true → (w : Waiting PreparedUnit) → Among w waiting → Awaits config known more (relieved (need.Evidence x.unit.creator) (relieved (need.Unit x.digest) w))
  awaits_both bad w m = record {
    needs_are = ap (λ (ns : List Need). without_need (need.Evidence x.unit.creator) (without_need (need.Unit x.digest) ns)) (are.each w m).needs_are ∙ sym (missing_both config known units more x one bad (node_prepared w.item));
    local = (are.each w m).local;
    unknown = unknown_more w m;
  }

  pub waiting_unit : is_faulty known more x.unit.creator ≡ false → AreWaiting config known more (struck (need.Unit x.digest) waiting)
  waiting_unit good = record {
    each = λ v m. let w = map_among (relieved (need.Unit x.digest)) v waiting m in subst (λ (u : Waiting PreparedUnit). Awaits config known more u) w.2 (awaits_unit good w.0 w.1);
    apart = apart_struck (need.Unit x.digest) waiting are.apart;
  }

  pub waiting_both : is_faulty known more x.unit.creator ≡ true → AreWaiting config known more (struck (need.Evidence x.unit.creator) (struck (need.Unit x.digest) waiting))
  waiting_both bad = record {
    each = λ v m.
        let w = map_among (relieved (need.Evidence x.unit.creator)) v (struck (need.Unit x.digest) waiting) m in
        let z = map_among (relieved (need.Unit x.digest)) w.0 waiting w.1 in
        subst (λ (u : Waiting PreparedUnit). Awaits config known more u) (ap (λ (y : Waiting PreparedUnit). relieved (need.Evidence x.unit.creator) y) z.2 ∙ w.2) (awaits_both bad z.0 z.1);
    apart = apart_struck (need.Evidence x.unit.creator) (struck (need.Unit x.digest) waiting) (apart_struck (need.Unit x.digest) waiting are.apart);
  }

-- ---- more is known

module _ (config : Config) (known more_known : Received) (units : List Node) (waiting : List (Waiting PreparedUnit)) (are : AreWaiting config known units waiting) where
  missing_alike : ((n : Need) → is_need_met config more_known units n ≡ is_need_met config known units n) → (u : Node) → missing_of config known units u ≡ missing_of config more_known units u
  unfolding missing_of
  missing_alike same u = filter_alike (λ n. not (is_need_met config known units n)) (λ n. not (is_need_met config more_known units n)) (needs_of u) (λ n. ap not (sym (same n)))

  missing_struck : (k : Need) → ((n : Need) → is_need_met config more_known units n ≡ (is_need_met config known units n || need_eq k n)) → (u : Node)
      → missing_of config more_known units u ≡ without_need k (missing_of config known units u)
  unfolding missing_of
  missing_struck k more u = filter_struck (is_need_met config known units) (is_need_met config more_known units) k more (needs_of u)

  -- no need more is met
  pub waiting_same : ((n : Need) → is_need_met config more_known units n ≡ is_need_met config known units n) → AreWaiting config more_known units waiting
  waiting_same same = record {
    each = λ w m. record { needs_are = (are.each w m).needs_are ∙ missing_alike same (node_prepared w.item); local = (are.each w m).local; unknown = (are.each w m).unknown };
    apart = are.apart;
  }

  -- one need more is met
  pub waiting_struck : (k : Need) → ((n : Need) → is_need_met config more_known units n ≡ (is_need_met config known units n || need_eq k n)) → AreWaiting config more_known units (struck k waiting)
  waiting_struck k more = record {
    each = λ v m. let w = map_among (relieved k) v waiting m in subst (λ (u : Waiting PreparedUnit). Awaits config more_known units u) w.2 (awaits_struck w.0 w.1);
    apart = apart_struck k waiting are.apart;
  }
    where
      awaits_struck : (w : Waiting PreparedUnit) → Among w waiting → Awaits config more_known units (relieved k w)
      awaits_struck w m = record {
        needs_are = ap (without_need k) (are.each w m).needs_are ∙ sym (missing_struck k more (node_prepared w.item));
        local = (are.each w m).local;
        unknown = (are.each w m).unknown;
      }

-- ---- one is handed out

-- the item had no need left, and the others still wait
pub record IsHandedOut (waiting left : List (Waiting PreparedUnit)) (p : PreparedUnit) : Type 0 where
  pub from : Waiting PreparedUnit
  pub was : Among from waiting
  pub item_is : from.item ≡ p
  pub ready : from.needs ≡ []
  pub rest : Within left waiting
  pub others : (w : Waiting PreparedUnit) → Among w waiting → (from ≡ w) ⊎ Among w left
  pub unawaited : IsUnawaited p.digest left
  pub apart : AreApart left
  pub fewer : length waiting ≡ suc (length left)
  pub order : IsPart left waiting
  -- those before it miss something
  pub before : List (Waiting PreparedUnit)
  pub after : List (Waiting PreparedUnit)
  pub waiting_is : waiting ≡ before ++ from ∷ after
  pub left_is : left ≡ before ++ after
  pub first : (w : Waiting PreparedUnit) → Among w before → w.needs ≢ []

pub no_needs : (ns : List Need) → (length ns == 0) ≡ true → ns ≡ []
no_needs [] e = refl
no_needs (n ∷ ns) e = absurd (let z : suc (length ns) ≡ 0 = eqb-true _ _ e in cc)

pub handed_out : (waiting : List (Waiting PreparedUnit)) → AreApart waiting → (p : PreparedUnit) → Some p ≡ next_item waiting → IsHandedOut waiting (without_next waiting) p
handed_out [] apart p found = absurd (let no : Some p ≡ None = found in cc)
handed_out (w ∷ ws) apart p found = go (is_ready w) refl (λ h. handed_out ws apart.1 p h)
  where
    go : (b : Bool) → is_ready w ≡ b → (Some p ≡ next_item ws → IsHandedOut ws (without_next ws) p) → IsHandedOut (w ∷ ws) (without_next (w ∷ ws)) p
    go true e rest =
        let here : Some p ≡ Some w.item = found ∙ ap (λ (b : Bool). option_map (λ (v : Waiting PreparedUnit). v.item) (cond b (Some w) (find is_ready ws))) e in
        let item : w.item ≡ p = sym cc in
        rw e record {
          from = w;
          was = inl refl;
          item_is = item;
          ready = no_needs w.needs e;
          rest = λ v m. inr m;
          others = λ v m. m;
          unawaited = λ v m s. apart.0 v m (s ∙ ap (λ (q : PreparedUnit). q.digest) (sym item));
          apart = apart.1;
          fewer = refl;
          order = part_skip w ws ws (part_self ws);
          before = [];
          after = ws;
          waiting_is = refl;
          left_is = refl;
          first = λ v m. absurd m;
        }
    go false e rest =
        let later : Some p ≡ next_item ws = found ∙ ap (λ (b : Bool). option_map (λ (v : Waiting PreparedUnit). v.item) (cond b (Some w) (find is_ready ws))) e in
        let h = rest later in
        rw e record {
          from = h.from;
          was = inr h.was;
          item_is = h.item_is;
          ready = h.ready;
          rest = λ v m. elim m [ inl s ↦ inl s | inr n ↦ inr (h.rest v n) ];
          others = λ v m. elim m [ inl s ↦ inr (inl s) | inr n ↦ elim (h.others v n) [ inl t ↦ inl t | inr t ↦ inr (inr t) ] ];
          unawaited = λ v m s. elim m [
            | inl t ↦ apart.0 h.from h.was (ap (λ (q : PreparedUnit). q.digest) h.item_is ∙ sym s ∙ ap (λ (u : Waiting PreparedUnit). u.item.digest) (sym t))
            | inr n ↦ h.unawaited v n s
          ];
          apart = (λ v m. apart.0 v (h.rest v m), h.apart);
          fewer = ap suc h.fewer;
          order = part_keep w (without_next ws) ws h.order;
          before = w ∷ h.before;
          after = h.after;
          waiting_is = ap (λ (vs : List (Waiting PreparedUnit)). w ∷ vs) h.waiting_is;
          left_is = ap (λ (vs : List (Waiting PreparedUnit)). w ∷ vs) h.left_is;
          first = λ v m. elim m [
            | inl same ↦ (λ none. absurd (let yes : true ≡ false = sym (ap (λ (ns : List Need). length ns == 0) (ap (λ (u : Waiting PreparedUnit). u.needs) same ∙ none)) ∙ e in cc))
            | inr n ↦ h.first v n
          ];
        }

pub length_nodes : (ws : List (Waiting PreparedUnit)) → length (waiting_nodes ws) ≡ length ws
length_nodes [] = refl
length_nodes (w ∷ ws) = ap suc (length_nodes ws)
