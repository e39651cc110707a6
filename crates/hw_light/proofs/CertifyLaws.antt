-- A certificate that was made is answered yes.
use Rattle.std.proofs.Common.{◌≡◌, ℕ, zero, suc, ◌+◌, ◌≤◌, Bool, true, false, cond, List, [], ◌∷◌, length, map, get_or, Option, Some, None, Result, Ok, Err, refl, sym, ap, subst, ◌∙◌, arith}
use Rattle.std.specs.Prelude.{fold, is_ok, nat_lt, All, IsOk, slice_get}
use Rattle.std.specs.List.{zip}
use Rattle.std.proofs.lemmas.Bool.{ltb-true}
use Rattle.std.proofs.lemmas.Option.{slice_get_past, slice_get_within}
use Rattle.hw_types.specs.declared.unit.Digest.{Digest}
use Rattle.hw_types.specs.declared.unit.Vertex.{Vertex}
use Rattle.hw_types.specs.declared.config.Config.{Config}
use Rattle.hw_types.specs.declared.config.ConfigFault.{ConfigFault}
use Rattle.hw_types.specs.declared.answers.Cause.{Cause}
use Rattle.hw_types.specs.declared.answers.Decision.{Decision}
use Rattle.hw_types.specs.declared.answers.Receipt.{Receipt}
use Rattle.hw_types.specs.Limits.{config_fault}
use Rattle.hw_types.specs.Decisions.{IsRecord}
use Rattle.hw_types.specs.Journal.{Setting, answer, journal_after, answers_from, journal_of}
use Rattle.hw_types.specs.Real.{CoreState, setting_of, weight_in}
use Rattle.hw_safety.proofs.DecidedLaws.{decisions_are}
use Rattle.hw_safety.proofs.HeightLaws.{one_block_each}
use Rattle.hw_agree.specs.Certificates.{delivered, journal_from, IsExtract, Certifies}
use Rattle.hw_agree.proofs.ExtractLaws.{certifies}
use Rattle.hw_core.specs.Decided.{decided_in}
use Rattle.hw_core.specs.Readers.{exceeded_in}
use Rattle.hw_light.specs.declared.certificate.Certificate.{Certificate}
use Rattle.hw_light.specs.declared.answers.Checked.TheVariants.{Yes, No}
use Rattle.hw_light.specs.declared.answers.CheckFault.TheVariants.{Config as BadConfig, Refused, Exceeded, Unstood}
use Rattle.hw_light.specs.Standing.{BlockStands}
use Rattle.hw_light.specs.Checked.{RefusedAt, taken_from, taken_of, node_with, IsTaken}
use Rattle.hw_light.specs.declared.answers.Certified.{Certified}
use Rattle.hw_light.specs.declared.answers.Certified.TheVariants.{Made, NotNow, TooLong}
use Rattle.hw_light.specs.Certify.{IsMade, IsCertifiedAs, IfMade, IsYesFor}
use Rattle.hw_light.proofs.CheckLaws.{few_faulty, same_core}
use Rattle.hw_light.proofs.MadeLaws.{extract}
use Rattle.hw_core.specs.Deliver.{HasCome}

-- ---- deliveries of which none is refused

taken_all : (s : Setting) (i : ℕ) (journal : List Vertex) (ds : List (Vertex × Bool)) → All (λ a. IsOk a) (answers_from s journal ds) → taken_from s i journal ds ≡ Ok (fold (journal_after s) journal ds)
unfolding taken_from answers_from
taken_all s i journal [] all = refl
taken_all s i journal (d ∷ ds) all = go (answer s journal d.0 d.1) refl (all 0 (answer s journal d.0 d.1) (omega arith)) (taken_all s (i + 1) (journal_after s journal d) ds (λ k e lt. all (suc k) e (omega arith)))
  where
    go : (a : Result Receipt Cause) → answer s journal d.0 d.1 ≡ a → is_ok (answer s journal d.0 d.1) ≡ true
        → taken_from s (i + 1) (journal_after s journal d) ds ≡ Ok (fold (journal_after s) (journal_after s journal d) ds)
        → elim a as (λ z. Result (List Vertex) RefusedAt) [ Err cause ↦ Err (record { place = i; cause = cause }) | Ok receipt ↦ taken_from s (i + 1) (journal_after s journal d) ds ] ≡ Ok (fold (journal_after s) (journal_after s journal d) ds)
    go (Ok r) e ok rest = rest
    go (Err why) e ok rest = absurd (let bad : false ≡ true = sym (ap is_ok e) ∙ ok in cc)

zip_true : (vs : List Vertex) → zip vs (map (λ (v : Vertex). true) vs) ≡ delivered vs
zip_true [] = refl
zip_true (v ∷ vs) = ap (λ (ds : List (Vertex × Bool)). (v, true) ∷ ds) (zip_true vs)

no_fault : (o : Option ConfigFault) (x : ConfigFault) → o ≡ None → o ≡ Some x → ⊥
no_fault None x e f = absurd cc
no_fault (Some y) x e f = absurd cc

no_refusal : (r : Result (List Vertex) RefusedAt) (x : RefusedAt) (journal : List Vertex) → r ≡ Err x → r ≡ Ok journal → ⊥
no_refusal (Ok k) x journal e f = absurd cc
no_refusal (Err y) x journal e f = absurd cc

-- ---- what certifies is answered yes

module _ (made : Certificate) (lawful : config_fault made.config ≡ None) (is : Certifies (setting_of made.config) made.vertices made.block) where
  abbrev trues : List Bool
  trues = map (λ (v : Vertex). true) made.vertices

  abbrev node : CoreState
  node = node_with made (journal_from (setting_of made.config) made.vertices)

  all_taken : taken_of made trues ≡ Ok node.journal
  all_taken = ap (taken_from (setting_of made.config) 0 []) (zip_true made.vertices) ∙ taken_all (setting_of made.config) 0 [] (delivered made.vertices) is.taken

  node_is : (core : CoreState) → IsTaken made trues core → core ≡ node
  node_is core t =
      let both : Ok core.journal ≡ Ok node.journal = sym t.journal ∙ all_taken in
      let journal : core.journal ≡ node.journal = cc in
      same_core core made.config node.journal t.config journal t.asked

  none_exceeded : (w : ℕ) → exceeded_in node ≡ Some w → ⊥
  none_exceeded w e = go (nat_lt made.config.ftt (weight_in node)) refl e
    where
      go : (b : Bool) → nat_lt made.config.ftt (weight_in node) ≡ b → cond b (Some (weight_in node)) None ≡ Some w → ⊥
      go true t h = let over = ltb-true made.config.ftt (weight_in node) t in let few = is.few_faulty in absurd (omega arith)
      go false f h = absurd cc

  node_stands : BlockStands node made.block
  node_stands = record { unit = is.unit; inside = is.inside; named = is.named; level = is.level; quorum = is.quorum; stands = is.stands }

  yes_for : IsYesFor made
  yes_for (Yes core) a = tt
  yes_for (No (BadConfig fault)) a = no_fault (config_fault made.config) fault lawful a
  yes_for (No (Refused i why)) a = no_refusal (taken_of made trues) (record { place = i; cause = why }) node.journal a.1 all_taken
  yes_for (No (Exceeded w)) a = none_exceeded w (subst (λ (k : CoreState). exceeded_in k ≡ Some w) (node_is a.core a.taken) a.weight_is)
  yes_for (No Unstood) a = a.unstood (subst (λ (k : CoreState). BlockStands k made.block) (sym (node_is a.core a.taken)) node_stands)

-- ---- what was made certifies

-- the element at a place
at_place : {A : Type 0} (xs : List A) (i : ℕ) (x : A) → slice_get xs i ≡ Some x → get_or xs i x ≡ x
at_place [] i x e = absurd (let bad : None ≡ Some x = sym (slice_get_past [] i (omega arith)) ∙ e in cc)
at_place (y ∷ ys) zero x e = cc
at_place (y ∷ ys) (suc i) x e = at_place ys i x e

-- what is told of a decided block
pub decided_record : (core : CoreState) (index : ℕ) (d : Decision) → slice_get (decided_in core) index ≡ Some d → IsRecord (setting_of core.config) core.journal d
decided_record core index d at =
    let are = decisions_are (setting_of core.config) core.journal (one_block_each (setting_of core.config) core.journal) in
    subst (λ (e : Decision). IsRecord (setting_of core.config) core.journal e) (at_place (decided_in core) index d at) (are.each index d (slice_get_within (decided_in core) index d at))

pub made_is_yes : (core : CoreState) (index : ℕ) (made : Certificate) → config_fault core.config ≡ None → IsMade core index made
    → (deliveries : List (Vertex × Bool)) → core.journal ≡ journal_of (setting_of core.config) deliveries → IsYesFor made
made_is_yes core index made lawful m deliveries from =
    let g = m.are.greatest in
    let told = decided_record core index m.decision g.is.at in
    let stood = told.stood.stands in
    let s = setting_of core.config in
    let c = m.are.committees in
    let units_room = subst (λ (vs : List Vertex). length vs ≤ core.config.max_records) m.are.vertices_are m.room in
    let taken = subst (λ (vs : List Vertex). IsExtract s core.journal c vs) (sym m.are.vertices_are) (extract core deliveries from c m.are.order m.are.order_is units_room) in
    let whole = certifies s core.journal made.vertices g.block m.decision.level m.decision.quorum c stood.low stood.high stood.is_quorum g.greatest.summit (few_faulty core m.are.few_faulty) taken in
    let named = subst (λ (d : Digest). Certifies s made.vertices d) (g.is.name ∙ sym m.block) whole in
    yes_for made (subst (λ (k : Config). config_fault k ≡ None) (sym m.config) lawful) (subst (λ (k : Config). Certifies (setting_of k) made.vertices made.block) (sym m.config) named)

-- where it was
pub if_made_yes : (core : CoreState) (index : ℕ) (certified : Certified) → config_fault core.config ≡ None → HasCome core.config core.journal → IsCertifiedAs core index certified → IfMade IsYesFor certified
if_made_yes core index (Made made) lawful come is = made_is_yes core index made lawful is come.0 come.1
if_made_yes core index NotNow lawful come is = tt
if_made_yes core index (TooLong count) lawful come is = tt
