-- What is told of final blocks, vertex by vertex.
use Rattle.std.proofs.Common.{◌≡◌, ◌⊎◌, inl, inr, ℕ, ◌+◌, ◌≤◌, ◌==◌, Bool, true, false, cond, List, [], ◌∷◌, ◌++◌, length, take, codes, Some, refl, sym, ap, subst, ◌∙◌, arith, length-append}
use Rattle.std.specs.Prelude.{slice_get}
use Rattle.std.specs.List.{flat_map}
use Rattle.std.proofs.lemmas.List.{take_all, take-append-le}
use Rattle.std.proofs.lemmas.Option.{slice_get_within}
use Rattle.hw_types.specs.declared.unit.Vertex.{Vertex}
use Rattle.hw_types.specs.declared.answers.Decision.{Decision}
use Rattle.hw_types.specs.Below.{Among}
use Rattle.hw_types.specs.Settled.{Received}
use Rattle.hw_types.specs.Journal.{is_accepted}
use Rattle.hw_types.specs.Real.{CoreState, setting_of, received_in, answer_in, after_in}
use Rattle.hw_safety.specs.Decided.{decisions_of, newly_decided as decided_at}
use Rattle.hw_safety.proofs.DetectorLaws.{nothing_at_first}
use Rattle.hw_core.specs.Decided.{decided_in}
use Rattle.hw_core.proofs.DecidedLaws.{decided_is}
use Rattle.hw_explain.specs.Report.{exceeded_line, exceeded_in}
use Rattle.hw_explain.specs.Searched.{IsDecidedNow}
use Rattle.hw_explain.specs.Told.{AreNewFrom}
use Rattle.hw_explain.proofs.ReportLaws.{one_more}
use Rattle.hw_explain.proofs.GreatestLaws.{moment_now}
use Rattle.hw_explain.proofs.GrowLaws.{same_received, decisions_more, at_moment, at_within, behind}
use Rattle.hw_script_grammar.specs.declared.named.Named.{Named}
use Rattle.hw_script.specs.declared.finals.Finals.{Finals}
use Rattle.hw_script.specs.Shows.{named_line, final_lines, finals_text}
use Rattle.hw_script.specs.Told.{line_in, HasLines, HasTold, IsBehind}

-- ---- at first

none_decided : (c : CoreState) → c.journal ≡ [] → decided_in c ≡ []
none_decided c none = ap (decisions_of (setting_of c.config)) none ∙ sym (decided_is c.config [] [] (nothing_at_first (setting_of c.config)))

-- a node that has received nothing decided nothing
pub told_nothing : (names : List Named) (c : CoreState) (finals : Finals) → c.journal ≡ [] → finals ≡ record { text = []; count = 0 } → HasTold names finals c
told_nothing names c finals none new = record {
  count = ap (λ (f : Finals). f.count) new ∙ sym (ap (λ (ds : List Decision). length ds) (none_decided c none));
  lines = ap (λ (f : Finals). f.text) new ∙ sym (ap (flat_map (line_in names c)) (none_decided c none));
}

-- ---- one vertex more

flat_on : {A : Type 0} (f g : A → List ℕ) (xs : List A) → ((x : A) → Among x xs → f x ≡ g x) → flat_map f xs ≡ flat_map g xs
flat_on f g [] same = refl
flat_on f g (x ∷ xs) same = ap (λ l. l ++ flat_map f xs) (same x (inl refl)) ∙ ap (λ l. g x ++ l) (flat_on f g xs (λ y m. same y (inr m)))

take_front : {A : Type 0} (xs ys : List A) → take (length xs) (xs ++ ys) ≡ xs
take_front xs ys = take-append-le (length xs) xs ys (omega arith) ∙ take_all (length xs) xs (omega arith)

-- the node after a vertex
abbrev after : CoreState → Vertex → CoreState
after c v = record c { journal = c.journal ++ v ∷ [] }

same_lines : (names : List Named) (c : CoreState) (v : Vertex) → flat_map (line_in names (after c v)) (decided_in c) ≡ flat_map (line_in names c) (decided_in c)
same_lines names c v = flat_on (line_in names (after c v)) (line_in names c) (decided_in c)
    (λ d m. ap (λ (k : Received). named_line names c.config k d) (same_received (setting_of c.config) c.journal (v ∷ []) d.at (at_within (setting_of c.config) c.journal d m)))

grown : (c : CoreState) (v : Vertex) → decided_in (after c v) ≡ decided_in c ++ decided_at (setting_of c.config) (c.journal ++ v ∷ []) (length (c.journal ++ v ∷ []))
grown c v = decisions_more (setting_of c.config) c.journal v

all_told : (names : List Named) (finals : Finals) (c : CoreState) → HasTold names finals c → HasLines names finals c finals.count
all_told names finals c h =
    h.lines ∙ ap (flat_map (line_in names c)) (sym (take_all (length (decided_in c)) (decided_in c) (omega arith))) ∙ ap (λ n. flat_map (line_in names c) (take n (decided_in c))) (sym h.count)

begun : (names : List Named) (finals : Finals) (c : CoreState) (v : Vertex) → HasTold names finals c → HasLines names finals (after c v) finals.count
begun names finals c v h =
    h.lines
    ∙ sym (same_lines names c v)
    ∙ ap (flat_map (line_in names (after c v))) (sym (take_front (decided_in c) (decided_at (setting_of c.config) (c.journal ++ v ∷ []) (length (c.journal ++ v ∷ [])))))
    ∙ ap (λ ds. flat_map (line_in names (after c v)) (take (length (decided_in c)) ds)) (sym (grown c v))
    ∙ ap (λ n. flat_map (line_in names (after c v)) (take n (decided_in (after c v)))) (sym h.count)

new_behind : (names : List Named) (finals : Finals) (c : CoreState) (v : Vertex) → HasTold names finals c → AreNewFrom (after c v) finals.count
new_behind names finals c v h = λ index d le is.
    let count = h.count in
    at_moment (setting_of c.config) (c.journal ++ v ∷ []) (length (c.journal ++ v ∷ [])) d
    (behind (decided_in c) _ index d (omega arith) (ap (λ ds. slice_get ds index) (sym (grown c v)) ∙ is))

within_more : (names : List Named) (finals : Finals) (c : CoreState) (v : Vertex) → HasTold names finals c → finals.count ≤ length (decided_in (after c v))
within_more names finals c v h =
    let count = h.count in
    let long = ap (λ (ds : List Decision). length ds) (grown c v) ∙ length-append (decided_in c) _ in
    omega arith

-- a delivery leaves the node as it was, or with the vertex last in its journal
grows_by : (c : CoreState) (v : Vertex) (taken : Bool) → is_accepted (answer_in c v true) ≡ taken → (after_in c v true ≡ c) ⊎ ((w : Vertex) × (after_in c v true ≡ record c { journal = c.journal ++ w ∷ [] }))
grows_by c v true is = inr (v, ap (λ b. record c { journal = cond b (c.journal ++ v ∷ []) c.journal }) is)
grows_by c v false is = inl (ap (λ b. record c { journal = cond b (c.journal ++ v ∷ []) c.journal }) is)

pub behind_after : (names : List Named) (finals : Finals) (c later : CoreState) (v : Vertex) → HasTold names finals c → later ≡ after_in c v true → IsBehind names finals later
behind_after names finals c later v told is = record {
  before = c;
  told_before = told;
  grows = subst (λ (k : CoreState). (k ≡ c) ⊎ ((w : Vertex) × (k ≡ record c { journal = c.journal ++ w ∷ [] }))) (sym is) (grows_by c v (is_accepted (answer_in c v true)) refl);
}

-- what was told is the begin of what there is to tell
pub behind_lines : (names : List Named) (finals : Finals) (c : CoreState) → IsBehind names finals c → HasLines names finals c finals.count
behind_lines names finals c b = elim b.grows as (λ z. HasLines names finals c finals.count) [
  | inl same ↦ subst (λ (k : CoreState). HasLines names finals k finals.count) (sym same) (all_told names finals b.before b.told_before)
  | inr more ↦ subst (λ (k : CoreState). HasLines names finals k finals.count) (sym more.1) (begun names finals b.before more.0 b.told_before)
]

-- what comes behind was decided by the last vertex
pub behind_new : (names : List Named) (finals : Finals) (c : CoreState) → IsBehind names finals c → AreNewFrom c finals.count
behind_new names finals c b = elim b.grows as (λ z. AreNewFrom c finals.count) [
  | inl same ↦ λ index d le is.
      let count = b.told_before.count in
      let few : length (decided_in c) ≡ length (decided_in b.before) = ap (λ (k : CoreState). length (decided_in k)) same in
      let within = slice_get_within (decided_in c) index d is in
      absurd (omega arith)
  | inr more ↦ subst (λ (k : CoreState). AreNewFrom k finals.count) (sym more.1) (new_behind names finals b.before more.0 b.told_before)
]

pub behind_within : (names : List Named) (finals : Finals) (c : CoreState) → IsBehind names finals c → finals.count ≤ length (decided_in c)
behind_within names finals c b = elim b.grows as (λ z. finals.count ≤ length (decided_in c)) [
  | inl same ↦ (
      let count = b.told_before.count in
      let few : length (decided_in c) ≡ length (decided_in b.before) = ap (λ (k : CoreState). length (decided_in k)) same in
      omega arith)
  | inr more ↦ subst (λ (k : CoreState). finals.count ≤ length (decided_in k)) (sym more.1) (within_more names finals b.before more.0 b.told_before)
]

-- all lines are there
pub told_all : (names : List Named) (finals : Finals) (c : CoreState) (count : ℕ) → finals.text ≡ flat_map (line_in names c) (take count (decided_in c)) → count ≡ length (decided_in c) → finals.count ≡ count → HasTold names finals c
told_all names finals c count lines is told = record {
  count = told ∙ is;
  lines = lines ∙ ap (flat_map (line_in names c)) (take_all count (decided_in c) (omega (arith, is)));
}

-- ---- one line

-- the line of a decision that is made now goes behind the others
pub line_more : (names : List Named) (c : CoreState) (index : ℕ) (d : Decision) → IsDecidedNow c d → Some d ≡ slice_get (decided_in c) index
    → flat_map (line_in names c) (take index (decided_in c)) ++ named_line names c.config (received_in c) d ≡ flat_map (line_in names c) (take (index + 1) (decided_in c))
line_more names c index d now is =
    ap (λ (k : Received). flat_map (line_in names c) (take index (decided_in c)) ++ named_line names c.config k d) (sym (moment_now c d now))
    ∙ one_more (line_in names c) (decided_in c) index d is

-- ---- the whole

some_lines : (names : List Named) (c : CoreState) (ds : List Decision) → (length ds == 0) ≡ false → flat_map (line_in names c) ds ≡ final_lines names (setting_of c.config) c.journal ds
some_lines names c [] some = absurd cc
some_lines names c (d ∷ ds) some = refl

no_lines : (names : List Named) (c : CoreState) (ds : List Decision) → length ds ≡ 0 → codes "final -\n" ≡ final_lines names (setting_of c.config) c.journal ds
no_lines names c [] none = refl
no_lines names c (d ∷ ds) none = absurd (omega (arith, none))

-- there are final blocks
pub shown_some : (names : List Named) (finals : Finals) (c : CoreState) → HasTold names finals c → (finals.count == 0) ≡ false
    → finals.text ++ exceeded_line (exceeded_in c.config (received_in c)) ≡ finals_text names (setting_of c.config) c.journal
unfolding finals_text
shown_some names finals c h some = ap (λ l. l ++ exceeded_line (exceeded_in c.config (received_in c))) (h.lines ∙ some_lines names c (decided_in c) (ap (λ n. n == 0) (sym h.count) ∙ some))

-- there are none
pub shown_none : (names : List Named) (finals : Finals) (c : CoreState) → HasTold names finals c → finals.count ≡ 0
    → codes "final -\n" ++ exceeded_line (exceeded_in c.config (received_in c)) ≡ finals_text names (setting_of c.config) c.journal
unfolding finals_text
shown_none names finals c h none = ap (λ l. l ++ exceeded_line (exceeded_in c.config (received_in c))) (no_lines names c (decided_in c) (sym h.count ∙ none))
