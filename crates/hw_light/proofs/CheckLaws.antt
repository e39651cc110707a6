-- The vertices of a certificate in turn, and what a yes shows.
use Rattle.std.proofs.Common.{◌≡◌, ◌≢◌, ℕ, ◌+◌, ◌<◌, ◌≤◌, Bool, true, false, cond, ltb, List, [], ◌∷◌, length, get_or, drop, fold, Option, Some, None, Result, Ok, Err, refl, sym, ap, subst, ◌∙◌, arith}
use Rattle.std.specs.Prelude.{All, IsOk, IfOk}
use Rattle.std.specs.List.{AllByRecursion, zip}
use Rattle.std.proofs.lemmas.Bool.{ltb-false}
use Rattle.std.proofs.lemmas.List.{drop_more, drop_all}
use Rattle.std.proofs.lemmas.List.Elements.{All-from_recursion}
use Rattle.std.proofs.lemmas.Slice.Zip.{get_or-zip, length-zip}
use Rattle.hw_types.specs.declared.config.Config.{Config}
use Rattle.hw_types.specs.declared.unit.Vertex.{Vertex}
use Rattle.hw_types.specs.declared.answers.Receipt.{Receipt}
use Rattle.hw_types.specs.declared.answers.Cause.{Cause}
use Rattle.hw_types.specs.declared.answers.Cause.TheVariants as cause
use Rattle.hw_types.specs.Limits.{config_fault}
use Rattle.hw_types.specs.Journal.{Setting, answer, journal_after, journal_of, answers_from}
use Rattle.hw_types.specs.Real.{CoreState, setting_of, weight_in, answer_in, after_in}
use Rattle.hw_core.specs.Deliver.{IsRefusal}
use Rattle.hw_core.specs.Readers.{exceeded_in}
use Rattle.hw_agree.specs.Certificates.{delivered, journal_from}
use Rattle.hw_light.specs.declared.certificate.Certificate.{Certificate}
use Rattle.hw_light.specs.declared.answers.Checked.{Checked}
use Rattle.hw_light.specs.declared.answers.Checked.TheVariants.{Yes, No}
use Rattle.hw_light.specs.Standing.{BlockStands}
use Rattle.hw_light.specs.declared.answers.CheckFault.{CheckFault}
use Rattle.hw_light.specs.declared.answers.CheckFault.TheVariants.{Config as BadConfig, Refused, Exceeded, Unstood}
use Rattle.hw_light.specs.Checked.{RefusedAt, taken_from, taken_of, node_with, IsTaken, IsStanding, IsAnswer, IsCertified, IfYes, IsTakenAs, IsNodeFault, with_node}

-- ---- one delivery after the other

-- the next vertex with its verdict
zip_step : (vs : List Vertex) (bs : List Bool) (i : ℕ) (v : Vertex) (b : Bool) → i < length vs → i < length bs
    → drop i (zip vs bs) ≡ (get_or vs i v, get_or bs i b) ∷ drop (i + 1) (zip vs bs)
zip_step vs bs i v b lt lt' =
    let long = length-zip vs bs in
    let within : i < length (zip vs bs) = omega (arith, long, lt, lt') in
    drop_more (zip vs bs) i (v, b) within ∙ ap (λ (d : Vertex × Bool). d ∷ drop (i + 1) (zip vs bs)) (get_or-zip vs bs i (v, b) lt lt')

zip_end : (vs : List Vertex) (bs : List Bool) (i : ℕ) → length vs ≤ i → drop i (zip vs bs) ≡ []
zip_end vs bs i le = drop_all i (zip vs bs) (let long = length-zip vs bs in omega arith)

refusal_is : (why : Cause) (given : Result Receipt Cause) → IsRefusal why given → why ≢ cause.OutOfMemory → given ≡ Err why
refusal_is cause.OutOfMemory given is other = absurd (other refl)
refusal_is cause.BadSignature given is other = is
refusal_is (cause.Local rule) given is other = is
refusal_is (cause.Pair fault) given is other = is
refusal_is (cause.Clash d) given is other = is
refusal_is cause.RecordsFull given is other = is
refusal_is cause.ParkFull given is other = is

abbrev refused_here : ℕ → Cause → Result (List Vertex) RefusedAt
refused_here i why = Err (record { place = i; cause = why })

step_ok : (i : ℕ) (a : Result Receipt Cause) (r : Receipt) (rest : Result (List Vertex) RefusedAt) → a ≡ Ok r
    → elim a as (λ (z : Result Receipt Cause). Result (List Vertex) RefusedAt) [ Err why ↦ Err (record { place = i; cause = why }) | Ok receipt ↦ rest ] ≡ rest
step_ok i (Ok q) r rest is = refl
step_ok i (Err why) r rest is = absurd cc

step_err : (i : ℕ) (a : Result Receipt Cause) (why : Cause) (rest : Result (List Vertex) RefusedAt) → a ≡ Err why
    → elim a as (λ (z : Result Receipt Cause). Result (List Vertex) RefusedAt) [ Err c ↦ Err (record { place = i; cause = c }) | Ok receipt ↦ rest ] ≡ Err (record { place = i; cause = why })
step_err i (Ok q) why rest is = absurd cc
step_err i (Err c) why rest is = (let same : c ≡ why = cc in ap (λ (x : Cause). refused_here i x) same)

module _ (s : Setting) where
  taken_next : (i : ℕ) (journal : List Vertex) (d : Vertex × Bool) (ds : List (Vertex × Bool)) (r : Receipt) → answer s journal d.0 d.1 ≡ Ok r
      → taken_from s i journal (d ∷ ds) ≡ taken_from s (i + 1) (journal_after s journal d) ds
  unfolding taken_from
  taken_next i journal d ds r is = step_ok i (answer s journal d.0 d.1) r (taken_from s (i + 1) (journal_after s journal d) ds) is

  taken_stop : (i : ℕ) (journal : List Vertex) (d : Vertex × Bool) (ds : List (Vertex × Bool)) (why : Cause) → answer s journal d.0 d.1 ≡ Err why
      → taken_from s i journal (d ∷ ds) ≡ Err (record { place = i; cause = why })
  unfolding taken_from
  taken_stop i journal d ds why is = step_err i (answer s journal d.0 d.1) why (taken_from s (i + 1) (journal_after s journal d) ds) is

  -- ---- what is taken to the end

  abbrev HasTrue : Vertex × Bool → Type 0
  HasTrue d = d.1 ≡ true

  -- no delivery was refused, each verdict was true, and this is their journal
  record WasTaken (journal : List Vertex) (ds : List (Vertex × Bool)) (final : List Vertex) : Type 0 where
    answers : AllByRecursion (λ (a : Result Receipt Cause). IsOk a) (answers_from s journal ds)
    verdicts : AllByRecursion HasTrue ds
    is : fold (journal_after s) journal ds ≡ final

  false_refused : (journal : List Vertex) (v : Vertex) → answer s journal v false ≡ Err cause.BadSignature
  unfolding answer
  false_refused journal v = refl

  verdict_true : (journal : List Vertex) (v : Vertex) (b : Bool) (r : Receipt) → answer s journal v b ≡ Ok r → b ≡ true
  verdict_true journal v true r is = refl
  verdict_true journal v false r is = absurd (let bad = sym is ∙ false_refused journal v in cc)

  was_taken : (i : ℕ) (journal : List Vertex) (ds : List (Vertex × Bool)) (final : List Vertex) → taken_from s i journal ds ≡ Ok final → WasTaken journal ds final
  unfolding taken_from answers_from
  was_taken i journal [] final e = record { answers = tt; verdicts = tt; is = cc }
  was_taken i journal (d ∷ ds) final e = go (answer s journal d.0 d.1) refl (λ h. was_taken (i + 1) (journal_after s journal d) ds final h)
    where
      go : (a : Result Receipt Cause) → answer s journal d.0 d.1 ≡ a
          → (taken_from s (i + 1) (journal_after s journal d) ds ≡ Ok final → WasTaken (journal_after s journal d) ds final) → WasTaken journal (d ∷ ds) final
      go (Ok r) is later =
          let rest = later (sym (taken_next i journal d ds r is) ∙ e) in
          record {
            answers = (subst (λ (b : Result Receipt Cause). IsOk b) (sym is) refl, rest.answers);
            verdicts = (verdict_true journal d.0 d.1 r is, rest.verdicts);
            is = rest.is;
          }
      go (Err why) is later = absurd (let bad = sym (taken_stop i journal d ds why is) ∙ e in cc)

-- ---- so far, in a loop

-- the next vertex with its verdict
next_is : (vs : List Vertex) (bs : List Bool) (i : ℕ) (v : Vertex) (b : Bool) → i < length vs → i < length bs → v ≡ get_or vs i v
    → drop i (zip vs bs) ≡ (v, get_or bs i b) ∷ drop (i + 1) (zip vs bs)
next_is vs bs i v b lt lt' is_v = zip_step vs bs i v b lt lt' ∙ ap (λ (w : Vertex). (w, get_or bs i b) ∷ drop (i + 1) (zip vs bs)) (sym is_v)

module _ (config : Config) (vs : List Vertex) (bs : List Bool) (total : Result (List Vertex) RefusedAt) where
  -- what is taken from here on is what is taken in all
  abbrev pub GoesOn : ℕ → CoreState → Type 0
  GoesOn i core = taken_from (setting_of config) i core.journal (drop i (zip vs bs)) ≡ total

  pub one_taken : (i : ℕ) (core later : CoreState) (v : Vertex) (b : Bool) (r : Receipt) → i < length vs → i < length bs → v ≡ get_or vs i v → core.config ≡ config
      → answer_in core v (get_or bs i b) ≡ Ok r → later ≡ after_in core v (get_or bs i b) → GoesOn i core → (later.config ≡ config) × GoesOn (i + 1) later
  one_taken i core later v b r lt lt' is_v same given moved so_far =
      let s = setting_of config in
      let d : Vertex × Bool = (v, get_or bs i b) in
      let rest = drop (i + 1) (zip vs bs) in
      let taken : answer s core.journal v (get_or bs i b) ≡ Ok r = subst (λ (k : Config). answer (setting_of k) core.journal v (get_or bs i b) ≡ Ok r) same given in
      let journal : later.journal ≡ journal_after s core.journal d = ap (λ (n : CoreState). n.journal) moved ∙ ap (λ (k : Config). journal_after (setting_of k) core.journal d) same in
      let here : taken_from s (i + 1) (journal_after s core.journal d) rest ≡ total =
      sym (taken_next s i core.journal d rest r taken) ∙ ap (taken_from s i core.journal) (sym (next_is vs bs i v b lt lt' is_v)) ∙ so_far in
      (ap (λ (n : CoreState). n.config) moved ∙ same, ap (λ (j : List Vertex). taken_from s (i + 1) j rest) journal ∙ here)

  pub one_refused : (i : ℕ) (core : CoreState) (v : Vertex) (b : Bool) (why : Cause) → i < length vs → i < length bs → v ≡ get_or vs i v → core.config ≡ config
      → IsRefusal why (answer_in core v (get_or bs i b)) → why ≢ cause.OutOfMemory → GoesOn i core → total ≡ Err (record { place = i; cause = why })
  one_refused i core v b why lt lt' is_v same given other so_far =
      let s = setting_of config in
      let d : Vertex × Bool = (v, get_or bs i b) in
      let refused = subst (λ (k : Config). answer (setting_of k) core.journal v (get_or bs i b) ≡ Err why) same (refusal_is why (answer_in core v (get_or bs i b)) given other) in
      sym so_far ∙ ap (taken_from s i core.journal) (next_is vs bs i v b lt lt' is_v) ∙ taken_stop s i core.journal d (drop (i + 1) (zip vs bs)) why refused

  pub all_taken : (i : ℕ) (core : CoreState) → length vs ≤ i → GoesOn i core → total ≡ Ok core.journal
  unfolding taken_from
  all_taken i core le so_far = sym so_far ∙ ap (taken_from (setting_of config) i core.journal) (zip_end vs bs i le)

-- with true verdicts the deliveries are those of the certificate
true_deliveries : (vs : List Vertex) (bs : List Bool) → length bs ≡ length vs → AllByRecursion (λ (d : Vertex × Bool). d.1 ≡ true) (zip vs bs) → zip vs bs ≡ delivered vs
true_deliveries [] bs size each = refl
true_deliveries (v ∷ vs) [] size each = absurd (omega arith)
true_deliveries (v ∷ vs) (b ∷ bs) size each =
    ap (λ (w : Bool). (v, w) ∷ zip vs bs) each.0 ∙ ap (λ (ds : List (Vertex × Bool)). (v, true) ∷ ds) (true_deliveries vs bs (omega arith) each.1)

-- ---- the answer

-- where a vertex is refused
refused_answer : (c : Certificate) (bs : List Bool) (core : CoreState) (fault : CheckFault) → config_fault c.config ≡ None → IsTakenAs (taken_of c bs) core (Some fault) → IsAnswer c bs (No fault)
refused_answer c bs core (Refused i why) lawful is = (lawful, is)
refused_answer c bs core (BadConfig fault) lawful is = absurd is
refused_answer c bs core (Exceeded weight) lawful is = absurd is
refused_answer c bs core Unstood lawful is = absurd is

-- where none is
node_answer : (c : Certificate) (bs : List Bool) (core : CoreState) (fault : Option CheckFault) → IsTaken c bs core → IsNodeFault core c.block fault → IsAnswer c bs (with_node core fault)
node_answer c bs core None taken is = record { taken = taken; few_faulty = is.0; stands = is.1 }
node_answer c bs core (Some (Exceeded weight)) taken is = record { core = core; taken = taken; weight_is = is }
node_answer c bs core (Some Unstood) taken is = record { core = core; taken = taken; few_faulty = is.0; unstood = is.1 }
node_answer c bs core (Some (BadConfig fault)) taken is = absurd is
node_answer c bs core (Some (Refused i why)) taken is = absurd is

pub node_answers : {E : Type 0} (c : Certificate) (bs : List Bool) (core : CoreState) (result : Result (Option CheckFault) E) → IsTaken c bs core → IfOk result (IsNodeFault core c.block) → IfOk result (λ fault. IsAnswer c bs (with_node core fault))
node_answers c bs core (Ok fault) taken is = node_answer c bs core fault taken is
node_answers c bs core (Err e) taken is = tt

-- a node that began with the certificate's configuration took all vertices
pub taken_is : (c : Certificate) (bs : List Bool) (first later : CoreState) → config_fault c.config ≡ None → first.config ≡ c.config → first.journal ≡ [] → later.config ≡ first.config → later.asked ≡ None
    → taken_from (setting_of first.config) 0 first.journal (zip c.vertices bs) ≡ Ok later.journal → IsTaken c bs later
taken_is c bs first later lawful config empty same unasked is = record {
  lawful = lawful;
  config = same ∙ config;
  journal = ap (λ (j : List Vertex). taken_from (setting_of c.config) 0 j (zip c.vertices bs)) (sym empty) ∙ ap (λ (k : Config). taken_from (setting_of k) 0 first.journal (zip c.vertices bs)) (sym config) ∙ is;
  asked = unasked;
}

-- or one was refused
pub refused_is : (c : Certificate) (bs : List Bool) (first later : CoreState) (fault : CheckFault) → config_fault c.config ≡ None → first.config ≡ c.config → first.journal ≡ []
    → IsTakenAs (taken_from (setting_of first.config) 0 first.journal (zip c.vertices bs)) later (Some fault) → IsAnswer c bs (No fault)
refused_is c bs first later fault lawful config empty is = refused_answer c bs later fault lawful (
    subst (λ (j : List Vertex). IsTakenAs (taken_from (setting_of c.config) 0 j (zip c.vertices bs)) later (Some fault)) empty
    (subst (λ (k : Config). IsTakenAs (taken_from (setting_of k) 0 first.journal (zip c.vertices bs)) later (Some fault)) config is)
    )

-- ---- a yes

pub few_faulty : (core : CoreState) → exceeded_in core ≡ None → weight_in core ≤ core.config.ftt
few_faulty core is = go (ltb core.config.ftt (weight_in core)) refl is
  where
    go : (b : Bool) → ltb core.config.ftt (weight_in core) ≡ b → cond b (Some (weight_in core)) None ≡ None → weight_in core ≤ core.config.ftt
    go true over is' = absurd cc
    go false within is' = ltb-false _ _ within

pub same_core : (core : CoreState) (config : Config) (journal : List Vertex) → core.config ≡ config → core.journal ≡ journal → core.asked ≡ None → core ≡ record { config = config; journal = journal; asked = None }
same_core core config journal e f g = λ i. record { config = e i; journal = f i; asked = g i }

certified : (c : Certificate) (bs : List Bool) (core : CoreState) → length bs ≡ length c.vertices → IsStanding c bs core → IsCertified c core
certified c bs core size standing =
    let s = setting_of c.config in
    let ds = delivered c.vertices in
    let was = was_taken s 0 [] (zip c.vertices bs) core.journal standing.taken.journal in
    let are = true_deliveries c.vertices bs size was.verdicts in
    let journal : core.journal ≡ journal_from s c.vertices = sym was.is ∙ ap (λ (l : List (Vertex × Bool)). journal_of s l) are in
    let node : CoreState = node_with c (journal_from s c.vertices) in
    let same : core ≡ node = same_core core c.config (journal_from s c.vertices) standing.taken.config journal standing.taken.asked in
    let stands = subst (λ (k : CoreState). BlockStands k c.block) same standing.stands in
    record {
      config = standing.taken.config;
      journal = journal;
      certifies = record {
        taken = All-from_recursion (λ (a : Result Receipt Cause). IsOk a) (answers_from s [] ds) (subst (λ (l : List (Vertex × Bool)). AllByRecursion (λ (a : Result Receipt Cause). IsOk a) (answers_from s [] l)) are was.answers);
        few_faulty = few_faulty node (subst (λ (k : CoreState). exceeded_in k ≡ None) same standing.few_faulty);
        unit = stands.unit;
        inside = stands.inside;
        named = stands.named;
        level = stands.level;
        quorum = stands.quorum;
        stands = stands.stands;
      };
    }

yes_of : (c : Certificate) (bs : List Bool) (checked : Checked) → length bs ≡ length c.vertices → IsAnswer c bs checked → IfYes (IsCertified c) checked
yes_of c bs (Yes core) size is = certified c bs core size is
yes_of c bs (No fault) size is = tt

-- so a yes shows that the vertices certify the block
pub yes_certifies : {E : Type 0} (c : Certificate) (bs : List Bool) (result : Result Checked E) → length bs ≡ length c.vertices → IfOk result (IsAnswer c bs) → IfOk result (IfYes (IsCertified c))
yes_certifies c bs (Ok checked) size is = yes_of c bs checked size is
yes_certifies c bs (Err e) size is = tt

-- and each verdict is true
all_true : (vs : List Vertex) (bs : List Bool) → length bs ≡ length vs → AllByRecursion (λ (d : Vertex × Bool). d.1 ≡ true) (zip vs bs) → AllByRecursion (λ (b : Bool). b ≡ true) bs
all_true vs [] size each = tt
all_true [] (b ∷ bs) size each = absurd (omega arith)
all_true (v ∷ vs) (b ∷ bs) size each = (each.0, all_true vs bs (omega arith) each.1)

signed_of : (c : Certificate) (bs : List Bool) (checked : Checked) → length bs ≡ length c.vertices → IsAnswer c bs checked → IfYes (λ core. All (λ (b : Bool). b ≡ true) bs) checked
signed_of c bs (Yes core) size is =
    All-from_recursion (λ (b : Bool). b ≡ true) bs (all_true c.vertices bs size (was_taken (setting_of c.config) 0 [] (zip c.vertices bs) core.journal is.taken.journal).verdicts)
signed_of c bs (No fault) size is = tt

pub yes_signed : {E : Type 0} (c : Certificate) (bs : List Bool) (result : Result Checked E) → length bs ≡ length c.vertices → IfOk result (IsAnswer c bs) → IfOk result (IfYes (λ core. All (λ (b : Bool). b ≡ true) bs))
yes_signed c bs (Ok checked) size is = signed_of c bs checked size is
yes_signed c bs (Err e) size is = tt
