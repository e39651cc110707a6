-- An audit tells the verdict on the two nodes.
use Rattle.std.proofs.Common.{◌≡◌, ℕ, inl, inr, Bool, true, false, cond, not, List, [], ◌∷◌, Option, Some, None, Result, Ok, Err, refl, sym, ap, subst, ◌∙◌}
use Rattle.std.specs.Prelude.{find}
use Rattle.std.specs.Option.{option_map, option_or}
use Rattle.hw_types.specs.declared.unit.SignedUnit.{SignedUnit}
use Rattle.hw_types.specs.declared.unit.Vertex.{Vertex}
use Rattle.hw_types.specs.declared.config.Config.{Config}
use Rattle.hw_types.specs.declared.answers.Decision.{Decision}
use Rattle.hw_types.specs.Graph.{digest_eq}
use Rattle.hw_types.specs.Below.{Among}
use Rattle.hw_types.specs.Same.{unit_eq}
use Rattle.hw_types.specs.Spelling.{unit_bytes}
use Rattle.hw_types.specs.Journal.{Setting, named, clashes}
use Rattle.hw_types.specs.Decisions.{AreDecisions}
use Rattle.hw_types.specs.Real.{setting_of}
use Rattle.hw_types.proofs.DecisionLaws.{decisions_one}
use Rattle.hw_types.proofs.SettledLaws.{digest_self, digest_same}
use Rattle.hw_types.proofs.StableLaws.{and_parts, and_whole}
use Rattle.hw_types.proofs.WordsLaws.{not_true}
use Rattle.hw_safety.specs.Decided.{decisions_of}
use Rattle.hw_safety.specs.declared.verdict.Verdict.{Verdict}
use Rattle.hw_safety.specs.declared.verdict.Verdict.TheVariants as verdict
use Rattle.hw_safety.specs.Verdicts.{held_in, IsClash, IsVerdict}
use Rattle.hw_safety.proofs.DecidedLaws.{decisions_are}
use Rattle.hw_safety.proofs.HeightLaws.{one_block_each}
use Rattle.hw_safety.proofs.VerdictLaws.{found}
use Rattle.hw_audit.specs.Clashes.{UnitPair, clash_with}
use Rattle.hw_audit.specs.First.{first_among, first_of, ShowsFirstClash}
use Rattle.hw_replay.specs.declared.fault.StartFault.{StartFault}
use Rattle.hw_replay.specs.Taken.{Taken}
use Rattle.hw_replay.specs.Replay.{replay_of}
use Rattle.hw_replay.proofs.DeliveredLaws.{replay_delivers}
use Rattle.hw_commands.specs.declared.ended.Ended.{Ended}
use Rattle.hw_commands.specs.Commands.{Word}
use Rattle.hw_commands.specs.Texts.{read_fault_ended}
use Rattle.hw_commands.specs.Audited.{audit_ended}
use Rattle.hw_commands.specs.Program.{◌>>=◌, Held, Part, or_stopped, log_replayed, audited_against}
use Rattle.hw_commands.specs.Laws.{AuditIsTheVerdict, VerdictIsThere}
use Rattle.hw_commands.proofs.MadeLaws.{both_signed}
use Rattle.hw_commands.proofs.VerdictLaws.{verdict_told}

-- ---- the first clash is one, and is there where there is one

-- the two are a clash, in this order
record AreClash (s : Setting) (ls us : List SignedUnit) (p : UnitPair) : Type 0 where
  left : SignedUnit
  right : SignedUnit
  in_left : Among left ls
  in_right : Among right us
  clash : clashes s left.unit (named s right.unit) ≡ true
  left_is : left.unit ≡ p.left
  right_is : right.unit ≡ p.right

found_some : {A : Type 0} (p : A → Bool) (xs : List A) (x : A) → find p xs ≡ Some x → Among x xs × (p x ≡ true)
found_some p [] x e = absurd cc
found_some p (y ∷ ys) x e = go (p y) refl (found_some p ys x) e
  where
    go : (b : Bool) → p y ≡ b → (find p ys ≡ Some x → Among x ys × (p x ≡ true)) → cond b (Some y) (find p ys) ≡ Some x → Among x (y ∷ ys) × (p x ≡ true)
    go true is later e = let same : y ≡ x = cc in (inl same, subst (λ z. p z ≡ true) same is)
    go false is later e = let rest = later e in (inr rest.0, rest.1)

found_none : {A : Type 0} (p : A → Bool) (xs : List A) → find p xs ≡ None → (x : A) → Among x xs → p x ≡ true → ⊥
found_none p [] e x m passes = m
found_none p (y ∷ ys) e x m passes = go (p y) refl (λ none k. found_none p ys none x k passes) e m
  where
    go : (b : Bool) → p y ≡ b → (find p ys ≡ None → Among x ys → ⊥) → cond b (Some y) (find p ys) ≡ None → Among x (y ∷ ys) → ⊥
    go true is later e m = absurd cc
    go false is later e (inl same) = absurd (let no : true ≡ false = sym passes ∙ ap p (sym same) ∙ is in cc)
    go false is later e (inr m) = later e m

module _ (s : Setting) (ls : List SignedUnit) where
  abbrev test : SignedUnit → SignedUnit → Bool
  test u v = clashes s v.unit (named s u.unit)

  abbrev first_by : SignedUnit → List SignedUnit → Option SignedUnit → Option UnitPair
  first_by u us o = option_or (clash_with (option_map (λ (v : SignedUnit). v.unit) o) u.unit) (first_among s ls us)

  first_clashes : (us : List SignedUnit) (p : UnitPair) → first_among s ls us ≡ Some p → AreClash s ls us p
  first_clashes [] p e = absurd cc
  first_clashes (u ∷ us) p e = go (find (test u) ls) refl (first_clashes us p) e
    where
      go : (o : Option SignedUnit) → find (test u) ls ≡ o → (first_among s ls us ≡ Some p → AreClash s ls us p) → first_by u us o ≡ Some p → AreClash s ls (u ∷ us) p
      go None is later e =
          let rest = later e in
          record { left = rest.left; right = rest.right; in_left = rest.in_left; in_right = inr rest.in_right; clash = rest.clash; left_is = rest.left_is; right_is = rest.right_is }
      go (Some v) is later e =
          let f = found_some (test u) ls v is in
          let same : record { left = v.unit; right = u.unit } ≡ p = cc in
          record { left = v; right = u; in_left = f.0; in_right = inl refl; clash = f.1; left_is = ap (λ (q : UnitPair). q.left) same; right_is = ap (λ (q : UnitPair). q.right) same }

  first_none : (us : List SignedUnit) → first_among s ls us ≡ None → (u v : SignedUnit) → Among u us → Among v ls → test u v ≡ true → ⊥
  first_none [] e u v m k passes = m
  first_none (w ∷ us) e u v m k passes = go (find (test w) ls) refl (λ none n. first_none us none u v n k passes) e m
    where
      go : (o : Option SignedUnit) → find (test w) ls ≡ o → (first_among s ls us ≡ None → Among u us → ⊥) → first_by w us o ≡ None → Among u (w ∷ us) → ⊥
      go (Some x) is later e m = absurd cc
      go None is later e (inl same) = found_none (test w) ls is v k (subst (λ z. test z v ≡ true) (sym same) passes)
      go None is later e (inr m) = later e m

-- ---- there is a verdict

module _ (s : Setting) (left right : List Vertex) (dl dr : List Decision) where
  abbrev Shown : Type 0
  Shown = (v : Verdict) × IsVerdict s left right dl dr v × ShowsFirstClash s left right v

  of_pair : (p : UnitPair) → first_of s left right ≡ Some p → Shown
  of_pair p is =
      let c = first_clashes s (held_in left) (held_in right) p is in
      let parts = and_parts (digest_eq (s.name c.left.unit) (s.name c.right.unit)) (not (unit_eq c.left.unit c.right.unit)) c.clash in (
        verdict.Clash (unit_bytes p.left) (unit_bytes p.right),
        record {
          first_unit = c.left;
          second_unit = c.right;
          in_left = c.in_left;
          in_right = c.in_right;
          one_name = digest_same (s.name c.left.unit) (s.name c.right.unit) parts.0;
          differ = not_true (unit_eq c.left.unit c.right.unit) parts.1;
          first_bytes = ap unit_bytes (sym c.left_is);
          second_bytes = ap unit_bytes (sym c.right_is);
        },
        record { pair = p; pair_is = is; first_bytes = refl; second_bytes = refl },
      )

  no_pair : first_of s left right ≡ None → (a b : List ℕ) → IsClash s left right a b → ⊥
  no_pair is a b c =
      first_none s (held_in left) (held_in right) is c.second_unit c.first_unit c.in_right c.in_left
      (and_whole (digest_eq (s.name c.first_unit.unit) (s.name c.second_unit.unit)) (not (unit_eq c.first_unit.unit c.second_unit.unit))
      (subst (λ d. digest_eq (s.name c.first_unit.unit) d ≡ true) c.one_name (digest_self (s.name c.first_unit.unit))) (ap not c.differ))

  of_verdict : (v : Verdict) → IsVerdict s left right dl dr v → Shown
  of_verdict (verdict.Agree common) is = (verdict.Agree common, is, tt)
  of_verdict (verdict.Conflict height a b culprits weight) is = (verdict.Conflict height a b culprits weight, is, tt)
  of_verdict (verdict.Clash a b) is = go (first_of s left right) refl
    where
      go : (o : Option UnitPair) → first_of s left right ≡ o → Shown
      go None none = absurd (no_pair none a b is)
      go (Some p) some = of_pair p some

pub verdict_is_there : VerdictIsThere
verdict_is_there s left right dl dr = let v = found s left right dl dr in of_verdict s left right dl dr v.0 v.1

-- ---- what a log's replay is

replay_is : (held : Held) (wanted : Option Config) (name : Word) (t : Taken) → log_replayed held wanted name ≡ Ok t → (bytes : List ℕ) × (replay_of wanted bytes ≡ Ok t)
replay_is held wanted name t e = go (held name) e
  where
    of_file : Option (List ℕ) → Part Taken
    of_file file = elim file as (λ z. Part (List ℕ)) [ None ↦ Err read_fault_ended | Some bytes ↦ Ok bytes ] >>= λ bytes. or_stopped name (replay_of wanted bytes)

    stopped : (bytes : List ℕ) (r : Result Taken StartFault) → replay_of wanted bytes ≡ r → or_stopped name r ≡ Ok t → (b : List ℕ) × (replay_of wanted b ≡ Ok t)
    stopped bytes (Ok u) is e = (bytes, is ∙ ap Ok (let same : u ≡ t = cc in same))
    stopped bytes (Err fault) is e = absurd cc

    go : (file : Option (List ℕ)) → of_file file ≡ Ok t → (bytes : List ℕ) × (replay_of wanted bytes ≡ Ok t)
    go None e = absurd cc
    go (Some bytes) e = stopped bytes (replay_of wanted bytes) refl e

-- ---- the audit

decisions_same : (s : Setting) (journal : List Vertex) (ds : List Decision) → AreDecisions s journal ds → ds ≡ decisions_of s journal
decisions_same s journal ds are = decisions_one s journal ds (decisions_of s journal) are (decisions_are s journal (one_block_each s journal))

pub audit_is_the_verdict : AuditIsTheVerdict
audit_is_the_verdict held left right first second dl dr v first_is second_is are_left are_right is shows =
    let c = first.core.config in
    let s = setting_of c in
    let before = replay_is held None left first first_is in
    let after = replay_is held (Some c) right second second_is in
    let signed = both_signed None (Some c) before.0 after.0 first second (replay_delivers None before.0 first before.1) (replay_delivers (Some c) after.0 second after.1) in
    let is_left = subst (λ (ds : List Decision). IsVerdict s first.core.journal second.core.journal ds dr v) (decisions_same s first.core.journal dl are_left) is in
    let is_both = subst (λ (ds : List Decision). IsVerdict s first.core.journal second.core.journal (decisions_of s first.core.journal) ds v) (decisions_same s second.core.journal dr are_right) is_left in
    ap (λ (p : Part Taken). p >>= λ l. audited_against held l.core right) first_is
    ∙ ap (λ (p : Part Taken). p >>= λ t. Ok (audit_ended s first.core.journal t.core.journal)) second_is
    ∙ ap (λ (e : Ended). Ok e) (sym (verdict_told c first.core.journal second.core.journal signed v is_both shows))
