-- What is told, vertex by vertex.
use Rattle.std.proofs.Common.{◌≡◌, inl, inr, ℕ, ◌+◌, ◌≤◌, List, [], ◌∷◌, ◌++◌, length, take, codes, Some, refl, sym, ap, subst, ◌∙◌, arith, length-append}
use Rattle.std.specs.Prelude.{slice_get}
use Rattle.std.specs.List.{flat_map}
use Rattle.std.proofs.lemmas.List.{take_all, take-append-le}
use Rattle.std.proofs.lemmas.Option.{slice_get_within}
use Rattle.hw_types.specs.declared.unit.Vertex.{Vertex}
use Rattle.hw_types.specs.declared.answers.Decision.{Decision}
use Rattle.hw_types.specs.Below.{Among}
use Rattle.hw_types.specs.Settled.{Received}
use Rattle.hw_types.specs.Real.{CoreState, setting_of, received_in}
use Rattle.hw_safety.specs.Decided.{decisions_of, newly_decided as decided_at}
use Rattle.hw_text.specs.Lines.{line_of}
use Rattle.hw_safety.proofs.DetectorLaws.{nothing_at_first}
use Rattle.hw_core.specs.Decided.{decided_in}
use Rattle.hw_core.proofs.DecidedLaws.{decided_is, found_at}
use Rattle.hw_explain.specs.declared.told.DecisionLines.{DecisionLines}
use Rattle.hw_explain.specs.Report.{exceeded_line, exceeded_in}
use Rattle.hw_explain.specs.Explain.{explained_line, explained_lines, explained_text, explained_in}
use Rattle.hw_explain.specs.Searched.{IsDecidedNow}
use Rattle.hw_explain.specs.Told.{line_in, HasLines, HasTold, IsBehind, AreNewFrom}
use Rattle.hw_explain.proofs.ReportLaws.{one_more}
use Rattle.hw_explain.proofs.GreatestLaws.{moment_now}
use Rattle.hw_explain.proofs.GrowLaws.{same_received, decisions_more, at_moment, at_within, behind}

-- ---- at first

-- a node that has received nothing decided nothing
none_decided : (c : CoreState) → c.journal ≡ [] → decided_in c ≡ []
none_decided c none = ap (decisions_of (setting_of c.config)) none ∙ sym (decided_is c.config [] [] (nothing_at_first (setting_of c.config)))

pub told_nothing : (c : CoreState) (told : DecisionLines) → c.journal ≡ [] → told.text ≡ [] → told.count ≡ 0 → HasTold told c
told_nothing c told none text count = record {
  count = count ∙ sym (ap (λ (ds : List Decision). length ds) (none_decided c none));
  lines = record { lines = text ∙ sym (ap (λ n. flat_map (line_in c) (take n (decided_in c))) count) };
}

-- ---- one vertex more

flat_on : {A : Type 0} (f g : A → List ℕ) (xs : List A) → ((x : A) → Among x xs → f x ≡ g x) → flat_map f xs ≡ flat_map g xs
flat_on f g [] same = refl
flat_on f g (x ∷ xs) same = ap (λ l. l ++ flat_map f xs) (same x (inl refl)) ∙ ap (λ l. g x ++ l) (flat_on f g xs (λ y m. same y (inr m)))

take_front : {A : Type 0} (xs ys : List A) → take (length xs) (xs ++ ys) ≡ xs
take_front xs ys = take-append-le (length xs) xs ys (omega arith) ∙ take_all (length xs) xs (omega arith)

-- the node after a vertex
abbrev after : CoreState → Vertex → CoreState
after c v = record c { journal = c.journal ++ v ∷ [] }

-- what was decided before has the lines that it had
same_lines : (c : CoreState) (v : Vertex) → flat_map (line_in (after c v)) (decided_in c) ≡ flat_map (line_in c) (decided_in c)
same_lines c v = flat_on (line_in (after c v)) (line_in c) (decided_in c)
    (λ d m. ap (λ (k : Received). explained_line c.config k d) (same_received (setting_of c.config) c.journal (v ∷ []) d.at (at_within (setting_of c.config) c.journal d m)))

grown : (c : CoreState) (v : Vertex) → decided_in (after c v) ≡ decided_in c ++ decided_at (setting_of c.config) (c.journal ++ v ∷ []) (length (c.journal ++ v ∷ []))
grown c v = decisions_more (setting_of c.config) c.journal v

-- so what was told is the begin of what there is to tell
begun : (told : DecisionLines) (c : CoreState) (v : Vertex) → HasTold told c → HasLines told (after c v) told.count
begun told c v h = record {
  lines = h.lines.lines
      ∙ ap (λ n. flat_map (line_in c) (take n (decided_in c))) h.count
      ∙ ap (flat_map (line_in c)) (take_all (length (decided_in c)) (decided_in c) (omega arith))
      ∙ sym (same_lines c v)
      ∙ ap (flat_map (line_in (after c v))) (sym (take_front (decided_in c) (decided_at (setting_of c.config) (c.journal ++ v ∷ []) (length (c.journal ++ v ∷ [])))))
      ∙ ap (λ ds. flat_map (line_in (after c v)) (take (length (decided_in c)) ds)) (sym (grown c v))
      ∙ ap (λ n. flat_map (line_in (after c v)) (take n (decided_in (after c v)))) (sym h.count);
}

-- and what comes behind was decided by the vertex
new_behind : (told : DecisionLines) (c : CoreState) (v : Vertex) → HasTold told c → AreNewFrom (after c v) told.count
new_behind told c v h = λ index d le is.
    let count = h.count in
    at_moment (setting_of c.config) (c.journal ++ v ∷ []) (length (c.journal ++ v ∷ [])) d
    (behind (decided_in c) _ index d (omega arith) (ap (λ ds. slice_get ds index) (sym (grown c v)) ∙ is))

within_more : (told : DecisionLines) (c : CoreState) (v : Vertex) → HasTold told c → told.count ≤ length (decided_in (after c v))
within_more told c v h =
    let count = h.count in
    let long = ap (λ (ds : List Decision). length ds) (grown c v) ∙ length-append (decided_in c) _ in
    omega arith

pub behind_lines : (told : DecisionLines) (c : CoreState) → IsBehind told c → HasLines told c told.count
behind_lines told c b = elim b.grows as (λ z. HasLines told c told.count) [
  | inl same ↦ subst (λ (k : CoreState). HasLines told k told.count) (sym same) b.told_before.lines
  | inr more ↦ subst (λ (k : CoreState). HasLines told k told.count) (sym more.1) (begun told b.before more.0 b.told_before)
]

pub behind_new : (told : DecisionLines) (c : CoreState) → IsBehind told c → AreNewFrom c told.count
behind_new told c b = elim b.grows as (λ z. AreNewFrom c told.count) [
  | inl same ↦ λ index d le is.
      let count = b.told_before.count in
      let few : length (decided_in c) ≡ length (decided_in b.before) = ap (λ (k : CoreState). length (decided_in k)) same in
      let within = slice_get_within (decided_in c) index d is in
      absurd (omega arith)
  | inr more ↦ subst (λ (k : CoreState). AreNewFrom k told.count) (sym more.1) (new_behind told b.before more.0 b.told_before)
]

pub behind_within : (told : DecisionLines) (c : CoreState) → IsBehind told c → told.count ≤ length (decided_in c)
behind_within told c b = elim b.grows as (λ z. told.count ≤ length (decided_in c)) [
  | inl same ↦ (
      let count = b.told_before.count in
      let few : length (decided_in c) ≡ length (decided_in b.before) = ap (λ (k : CoreState). length (decided_in k)) same in
      omega arith)
  | inr more ↦ subst (λ (k : CoreState). told.count ≤ length (decided_in k)) (sym more.1) (within_more told b.before more.0 b.told_before)
]

-- ---- one line

-- a decision that was made by the last vertex is decided now
pub now_at : (c : CoreState) (index : ℕ) (d : Decision) → AreNewFrom c index → Some d ≡ slice_get (decided_in c) index → IsDecidedNow c d
now_at c index d new is = record { decided = found_at (decided_in c) index d (sym is); at = new index d (omega arith) (sym is) }

-- its line, behind the others
pub line_more : (c : CoreState) (index : ℕ) (d : Decision) → IsDecidedNow c d → Some d ≡ slice_get (decided_in c) index
    → flat_map (line_in c) (take index (decided_in c)) ++ explained_line c.config (received_in c) d ≡ flat_map (line_in c) (take (index + 1) (decided_in c))
line_more c index d now is =
    ap (λ (k : Received). flat_map (line_in c) (take index (decided_in c)) ++ explained_line c.config k d) (sym (moment_now c d now))
    ∙ one_more (line_in c) (decided_in c) index d is

-- ---- the whole

-- where there are decisions, their lines are the text
some_lines : (c : CoreState) (ds : List Decision) (n : ℕ) → n ≡ length ds → (n ≡ 0 → ⊥) → flat_map (line_in c) (take n ds) ≡ explained_lines (setting_of c.config) c.journal ds
some_lines c [] n is some = absurd (some is)
some_lines c (d ∷ ds) n is some = ap (flat_map (line_in c)) (take_all n (d ∷ ds) (omega (arith, is)))

no_lines : (c : CoreState) (ds : List Decision) (n : ℕ) → n ≡ length ds → n ≡ 0 → flat_map (line_in c) (take n ds) ++ codes "final -\n" ≡ explained_lines (setting_of c.config) c.journal ds
unfolding line_of
no_lines c [] n is none = ap (λ k. flat_map (line_in c) (take k []) ++ codes "final -\n") is
no_lines c (d ∷ ds) n is none = absurd (omega (arith, is, none))

abbrev ended : CoreState → List ℕ → List ℕ
ended c lines = lines ++ exceeded_line (exceeded_in c.config (received_in c))

whole : (c : CoreState) → ended c (explained_lines (setting_of c.config) c.journal (decided_in c)) ≡ explained_in c
unfolding explained_text
whole c = refl

pub told_some : (c : CoreState) (told : DecisionLines) → HasTold told c → (told.count ≡ 0 → ⊥) → told.text ++ exceeded_line (exceeded_in c.config (received_in c)) ≡ explained_in c
told_some c told h some = ap (ended c) (h.lines.lines ∙ some_lines c (decided_in c) told.count h.count some) ∙ whole c

pub told_none : (c : CoreState) (told : DecisionLines) → HasTold told c → told.count ≡ 0 → told.text ++ codes "final -\n" ++ exceeded_line (exceeded_in c.config (received_in c)) ≡ explained_in c
told_none c told h none = ap (ended c) (ap (λ l. l ++ codes "final -\n") h.lines.lines ∙ no_lines c (decided_in c) told.count h.count none) ∙ whole c
