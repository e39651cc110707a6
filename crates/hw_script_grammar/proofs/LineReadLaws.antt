-- Lines behind the settings, as the grammar has them and as they are read.
use Rattle.std.proofs.Common.{◌≡◌, inl, inr, ◌^◌, List, [], ◌∷◌, codes, Some, None, refl, sym, ap, ◌∙◌, subst}
use Rattle.hw_types.specs.declared.unit.WireUnit.{WireUnit}
use Rattle.hw_types.specs.declared.unit.Vertex.TheVariants as vertex
use Rattle.hw_types.specs.Journal.{Setting}
use Rattle.hw_script_grammar.specs.declared.lines.Line.{Line}
use Rattle.hw_script_grammar.specs.declared.named.Named.{Named}
use Rattle.hw_script_grammar.specs.declared.acts.Act.{Act}
use Rattle.hw_script_grammar.specs.declared.adds.Adds.{Adds}
use Rattle.hw_script_grammar.specs.declared.adds.Adds.TheVariants as adds
use Rattle.hw_script_grammar.specs.declared.adds.LineKind.{LineKind}
use Rattle.hw_script_grammar.specs.declared.adds.LineKind.TheVariants as kind
use Rattle.hw_script_grammar.specs.declared.body.Said.{Said}
use Rattle.hw_text.specs.Numbers.{number_below}
use Rattle.hw_script_grammar.specs.Words.{Word, ◌>>=◌, next_word, keyword, one_or_more, nothing_more}
use Rattle.hw_script_grammar.specs.Names.{unit_as, digest_as, unsigned}
use Rattle.hw_script_grammar.specs.Units.{new_name, unit_line, next_unit, evidence_line}
use Rattle.hw_script_grammar.specs.Acts.{deliver_line, endorsements_of, endorse_line, shown_by, show_line, line_kind, adds_behind, line_adds}
use Rattle.hw_script_grammar.specs.Body.{with_more, with_line}
use Rattle.hw_script_grammar.specs.Grammar.{SaysEvidence, SaysEndorse, SaysShow, Says, SaysMore}
use Rattle.hw_script_grammar.proofs.BindLaws.{bind_some, bound, inside, next_word_is, keyword_is, keyword_there, end_is, one_word_is, one_word_there}
use Rattle.hw_script_grammar.proofs.SettingLaws.{by_word}
use Rattle.hw_script_grammar.proofs.UnitReadLaws.{new_is, new_there, unit_is, unit_there}

-- ---- evidence

unit_next : (names : List Named) (ws : List Word) (x : WireUnit × List Word) → next_unit names ws ≡ Some x → (w : Word) × (ws ≡ w ∷ x.1) × (unit_as names w ≡ Some x.0)
unfolding next_unit
unit_next names ws x e = one_word_is (unit_as names) ws x e

next_there : (names : List Named) (w : Word) (ws : List Word) (u : WireUnit) → unit_as names w ≡ Some u → next_unit names (w ∷ ws) ≡ Some (u, ws)
unfolding next_unit
next_there names w ws u e = one_word_there (unit_as names) w ws u e

evidence_is : (names : List Named) (ws : List Word) (n : Named) → evidence_line names ws ≡ Some n → SaysEvidence names (codes "evidence" ∷ ws) n
unfolding evidence_line
evidence_is names ws n e =
    let name = bind_some (new_name names ws) _ n e in
    let of = bind_some (keyword (codes "of") name.0.1) _ n name.2 in
    let left = bind_some (next_unit names of.0) _ n of.2 in
    let right = bind_some (next_unit names left.0.1) _ n left.2 in
    let end = bind_some (nothing_more right.0.1) _ n right.2 in
    let new = new_is names ws name.0 name.1 in
    let first = unit_next names of.0 left.0 left.1 in
    let second = unit_next names left.0.1 right.0 right.1 in
    let made : Named = record { name = name.0.0; vertex = vertex.Evidence (record { left = unsigned left.0.0; right = unsigned right.0.0 }); digest = None } in
    record {
      name = name.0.0;
      first = first.0;
      second = second.0;
      words = ap (λ vs. codes "evidence" ∷ vs) (new.0 ∙ ap (λ vs. name.0.0 ∷ vs) (keyword_is (codes "of") name.0.1 of.0 of.1 ∙ ap (λ vs. codes "of" ∷ vs)
          (first.1 ∙ ap (λ vs. first.0 ∷ vs) (second.1 ∙ ap (λ vs. second.0 ∷ vs) (end_is right.0.1 end.0 end.1)))));
      is_new = new.1;
      left = left.0.0;
      right = right.0.0;
      is_left = first.2;
      is_right = second.2;
      named = sym (inside made n end.2);
    }

evidence_there : (names : List Named) (ws : List Word) (n : Named) (says : SaysEvidence names ws n) → evidence_line names (says.name ∷ codes "of" ∷ says.first ∷ says.second ∷ []) ≡ Some n
unfolding evidence_line
evidence_there names ws n says =
    bound _ _ (says.name, codes "of" ∷ says.first ∷ says.second ∷ []) _ (new_there names says.name (codes "of" ∷ says.first ∷ says.second ∷ []) says.is_new)
    (bound _ _ (says.first ∷ says.second ∷ []) _ (keyword_there (codes "of") (says.first ∷ says.second ∷ []))
    (bound _ _ (says.left, says.second ∷ []) _ (next_there names says.first (says.second ∷ []) says.left says.is_left)
    (bound _ _ (says.right, []) _ (next_there names says.second [] says.right says.is_right)
    (ap Some (sym says.named)))))

-- ---- what is done

endorse_is : (names : List Named) (ws : List Word) (acts : List Act) → endorse_line names ws ≡ Some acts → SaysEndorse names (codes "endorse" ∷ ws) acts
unfolding endorse_line
endorse_is names ws acts e =
    let name = bind_some (next_word ws) _ acts e in
    let d = bind_some (digest_as names name.0.0) _ acts name.2 in
    let by = bind_some (keyword (codes "by") name.0.1) _ acts d.2 in
    let vs = bind_some (one_or_more (number_below (2 ^ 32)) by.0) _ acts by.2 in
    record {
      name = name.0.0;
      by = by.0;
      words = ap (λ us. codes "endorse" ∷ us) (next_word_is ws name.0 name.1 ∙ ap (λ us. name.0.0 ∷ us) (keyword_is (codes "by") name.0.1 by.0 by.1));
      digest = d.0;
      is_unit = d.1;
      validators = vs.0;
      are = vs.1;
      all = sym (inside (endorsements_of name.0.0 d.0 vs.0) acts vs.2);
    }

endorse_there : (names : List Named) (ws : List Word) (acts : List Act) (says : SaysEndorse names ws acts) → endorse_line names (says.name ∷ codes "by" ∷ says.by) ≡ Some acts
unfolding endorse_line
endorse_there names ws acts says =
    bound _ _ says.digest _ says.is_unit
    (bound _ _ says.by _ (keyword_there (codes "by") says.by)
    (bound _ _ says.validators _ says.are
    (ap Some (sym says.all))))

show_is : (ws : List Word) (acts : List Act) → show_line ws ≡ Some acts → SaysShow (codes "show" ∷ ws) acts
unfolding show_line
show_is ws acts e =
    let w = bind_some (next_word ws) _ acts e in
    let a = bind_some (shown_by w.0.0) _ acts w.2 in
    let end = bind_some (nothing_more w.0.1) _ acts a.2 in
    (w.0.0, a.0, ap (λ vs. codes "show" ∷ vs) (next_word_is ws w.0 w.1 ∙ ap (λ vs. w.0.0 ∷ vs) (end_is w.0.1 end.0 end.1)), a.1, sym (inside (a.0 ∷ []) acts end.2))

show_there : (w : Word) (a : Act) → shown_by w ≡ Some a → show_line (w ∷ []) ≡ Some (a ∷ [])
unfolding show_line
show_there w a is = ap (λ o. o >>= λ b. Some (b ∷ [])) is

-- ---- a line of any kind

-- the word that begins it
abbrev line_word : LineKind → Word
line_word kind.Unit = codes "unit"
line_word kind.Evidence = codes "evidence"
line_word kind.Deliver = codes "deliver"
line_word kind.Endorse = codes "endorse"
line_word kind.Show = codes "show"

kind_is : (w : Word) (k : LineKind) → line_kind w ≡ Some k → w ≡ line_word k
unfolding line_kind
kind_is w k e =
    by_word line_word w kind.Unit _ k e λ e1.
    by_word line_word w kind.Evidence _ k e1 λ e2.
    by_word line_word w kind.Deliver _ k e2 λ e3.
    by_word line_word w kind.Endorse _ k e3 λ e4.
    by_word line_word w kind.Show _ k e4 λ e5. absurd cc

behind_is : (s : Setting) (names : List Named) (k : LineKind) (ws : List Word) (a : Adds) → adds_behind s names k ws ≡ Some a → Says s names (line_word k ∷ ws) a
unfolding adds_behind
behind_is s names kind.Unit ws a e =
    let n = bind_some (unit_line s names ws) (λ n. Some (adds.Definition n)) a e in
    subst (Says s names (codes "unit" ∷ ws)) (inside (adds.Definition n.0) a n.2) (inl (unit_is s names ws n.0 n.1))
behind_is s names kind.Evidence ws a e =
    let n = bind_some (evidence_line names ws) (λ n. Some (adds.Definition n)) a e in
    subst (Says s names (codes "evidence" ∷ ws)) (inside (adds.Definition n.0) a n.2) (inr (evidence_is names ws n.0 n.1))
behind_is s names kind.Deliver ws a e =
    let n = bind_some (deliver_line names ws) (λ steps. Some (adds.Steps steps)) a e in
    subst (Says s names (codes "deliver" ∷ ws)) (inside (adds.Steps n.0) a n.2) (inl (ws, refl, n.1))
behind_is s names kind.Endorse ws a e =
    let n = bind_some (endorse_line names ws) (λ steps. Some (adds.Steps steps)) a e in
    subst (Says s names (codes "endorse" ∷ ws)) (inside (adds.Steps n.0) a n.2) (inr (inl (endorse_is names ws n.0 n.1)))
behind_is s names kind.Show ws a e =
    let n = bind_some (show_line ws) (λ steps. Some (adds.Steps steps)) a e in
    subst (Says s names (codes "show" ∷ ws)) (inside (adds.Steps n.0) a n.2) (inr (inr (show_is ws n.0 n.1)))

line_is : (s : Setting) (names : List Named) (ws : List Word) (a : Adds) → line_adds s names ws ≡ Some a → Says s names ws a
unfolding line_adds
line_is s names ws a e =
    let w = bind_some (next_word ws) (λ w. line_kind w.0 >>= λ k. adds_behind s names k w.1) a e in
    let k = bind_some (line_kind w.0.0) (λ k. adds_behind s names k w.0.1) a w.2 in
    let at : ws ≡ line_word k.0 ∷ w.0.1 = next_word_is ws w.0 w.1 ∙ ap (λ v. v ∷ w.0.1) (kind_is w.0.0 k.0 k.1) in
    subst (λ vs. Says s names vs a) (sym at) (behind_is s names k.0 w.0.1 a k.2)

line_there : (s : Setting) (names : List Named) (ws : List Word) (a : Adds) → Says s names ws a → line_adds s names ws ≡ Some a
unfolding line_adds line_kind adds_behind
line_there s names ws (adds.Definition n) (inl says) = ap (line_adds s names) says.words ∙ ap (λ o. o >>= λ n. Some (adds.Definition n)) (unit_there s names ws n says)
line_there s names ws (adds.Definition n) (inr says) = ap (line_adds s names) says.words ∙ ap (λ o. o >>= λ n. Some (adds.Definition n)) (evidence_there names ws n says)
line_there s names ws (adds.Steps acts) (inl says) = ap (line_adds s names) says.1 ∙ ap (λ o. o >>= λ steps. Some (adds.Steps steps)) says.2
line_there s names ws (adds.Steps acts) (inr (inl says)) = ap (line_adds s names) says.words ∙ ap (λ o. o >>= λ steps. Some (adds.Steps steps)) (endorse_there names ws acts says)
line_there s names ws (adds.Steps acts) (inr (inr says)) =
    ap (line_adds s names) says.2 ∙ ap (λ o. o >>= λ steps. Some (adds.Steps steps)) (show_there says.0 says.1 says.3) ∙ ap (λ (steps : List Act). Some (adds.Steps steps)) (sym says.4)

-- what is said after one more line
pub more_is : (s : Setting) (said : Said) (l : Line) (next : Said) → with_line s said l.words ≡ Some next → SaysMore s said l next
unfolding with_line
more_is s said l next e =
    let a = bind_some (line_adds s said.names l.words) (λ more. Some (with_more said more)) next e in
    (a.0, line_is s said.names l.words a.0 a.1, sym (inside (with_more said a.0) next a.2))

pub more_there : (s : Setting) (said : Said) (l : Line) (next : Said) → SaysMore s said l next → with_line s said l.words ≡ Some next
unfolding with_line
more_there s said l next says = bound (line_adds s said.names l.words) (λ more. Some (with_more said more)) says.0 (Some next) (line_there s said.names l.words says.0 says.1) (ap Some (sym says.2))
