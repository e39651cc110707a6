-- What files hold, and what stands in a journal, behind a vertex that a node was given.
use Rattle.std.specs.Prelude.{IsSome, bytes_eq, IfSome, IfErr, nat_le, length}
use Rattle.std.proofs.Common.{◌≡◌, ◌≢◌, ℕ, Bool, true, false, cond, not, List, [], ◌∷◌, ◌++◌, Option, Some, None, Result, Ok, Err, inl, inr, refl, sym, ap, subst}
use lib.Pointwise.{bytes_decides}
use Rattle.hw_types.specs.declared.unit.Digest.{Digest}
use Rattle.hw_types.specs.declared.unit.Vertex.{Vertex}
use Rattle.hw_types.specs.declared.unit.Vertex.TheVariants as vertex
use Rattle.hw_types.specs.declared.answers.Receipt.{Receipt}
use Rattle.hw_types.specs.declared.answers.Receipt.TheVariants as receipt
use Rattle.hw_types.specs.declared.answers.Cause.{Cause}
use Rattle.hw_types.specs.declared.answers.Cause.TheVariants as cause
use Rattle.hw_types.specs.declared.answers.Rule.{Rule}
use Rattle.hw_types.specs.declared.answers.Rule.TheVariants.{UnknownCreator}
use Rattle.hw_types.specs.declared.answers.PairFault.{PairFault}
use Rattle.hw_types.specs.Below.{Among}
use Rattle.hw_types.specs.Journal.{Setting, named, received_of, evidence_fault, clash_among, refusal, is_repeat, is_park_full, receipt_of, answer, is_accepted}
use Rattle.hw_types.specs.Rules.{local_rule}
use Rattle.hw_types.specs.Real.{setting_of}
use Rattle.hw_types.proofs.EntryLaws.{append_cases}
use Rattle.hw_keys.specs.Signed.{verdict_of}
use Rattle.hw_io.specs.Files.{bytes_of, Appended}
use Rattle.hw_session.specs.declared.fault.AcceptFault.{AcceptFault}
use Rattle.hw_session.specs.Node.{NodeState}
use Rattle.hw_session.specs.Make.{entry_for}
use Rattle.hw_session.specs.Accept.{given_to, taken_by, IsOfNode, WritesAccepted}

-- ---- files

-- these files, with other bytes under this name
abbrev pub put : (List ℕ → Option (List ℕ)) → List ℕ → List ℕ → List ℕ → Option (List ℕ)
put held name bytes other = cond (bytes_eq other name) (Some bytes) (held other)

module _ (held : List ℕ → Option (List ℕ)) (name bytes : List ℕ) where
  pub put_there : put held name bytes name ≡ Some bytes
  put_there = ap (λ (b : Bool). cond b (Some bytes) (held name)) ((bytes_decides name name).1 refl)

  pub put_others : (other : List ℕ) → other ≢ name → put held name bytes other ≡ held other
  put_others other differs = go (bytes_eq other name) refl
    where
      go : (b : Bool) → bytes_eq other name ≡ b → cond b (Some bytes) (held other) ≡ held other
      go true is = absurd (differs ((bytes_decides other name).0 is))
      go false is = refl

pub put_appends : {T E : Type 0} (held : List ℕ → Option (List ℕ)) (name bytes : List ℕ) (x : T) → Appended {T = T} {E = E} held (put held name (bytes_of (held name) ++ bytes)) name bytes (Ok x)
put_appends held name bytes x = record {
  whole = put_there held name (bytes_of (held name) ++ bytes);
  cut = tt;
  stays = λ there. subst (λ (file : Option (List ℕ)). IsSome file) (sym (put_there held name (bytes_of (held name) ++ bytes))) refl;
  others = put_others held name (bytes_of (held name) ++ bytes);
}

-- the files behind a vertex that had this answer: its entry goes last in the log where it is accepted
abbrev pub files_after : NodeState → Vertex → (List ℕ → Option (List ℕ)) → Bool → List ℕ → Option (List ℕ)
files_after n v held accepted = cond accepted (put held n.log (bytes_of (held n.log) ++ entry_for n v)) held

module _ (n : NodeState) (v : Vertex) (held : List ℕ → Option (List ℕ)) where
  -- so it is written
  pub receipt_writes : (r : Receipt) → WritesAccepted n v (taken_by n v (Ok r)) held (files_after n v held (is_accepted (Ok r))) (Ok r)
  receipt_writes receipt.Repeat = λ name. refl
  receipt_writes (receipt.Admitted k) = put_appends {E = AcceptFault} held n.log (entry_for n v) (receipt.Admitted k)
  receipt_writes (receipt.Parked k) = put_appends {E = AcceptFault} held n.log (entry_for n v) (receipt.Parked k)
  receipt_writes (receipt.Dropped rule) = put_appends {E = AcceptFault} held n.log (entry_for n v) (receipt.Dropped rule)

-- ---- what stands in its journal

module _ (n : NodeState) (v : Vertex) (P : Vertex → Type 0) (old : (w : Vertex) → Among w n.core.journal → P w) (new : P v) where
  each_entry : (w : Vertex) → Among w (n.core.journal ++ v ∷ []) → P w
  each_entry w m = elim (append_cases w n.core.journal (v ∷ []) m) [
    | inl before ↦ old w before
    | inr (inl is) ↦ subst P is new
    | inr (inr never) ↦ absurd never
  ]

  pub each_by : (a : Result Receipt Cause) (w : Vertex) → Among w (taken_by n v a).core.journal → P w
  each_by (Ok (receipt.Admitted k)) = each_entry
  each_by (Ok (receipt.Parked k)) = each_entry
  each_by (Ok (receipt.Dropped rule)) = each_entry
  each_by (Ok receipt.Repeat) = old
  each_by (Err cause.BadSignature) = old
  each_by (Err (cause.Local rule)) = old
  each_by (Err (cause.Pair f)) = old
  each_by (Err (cause.Clash d)) = old
  each_by (Err cause.RecordsFull) = old
  each_by (Err cause.ParkFull) = old
  each_by (Err cause.OutOfMemory) = old

-- ---- causes

-- no definition refuses for want of memory
abbrev IsKnown : Option Cause → Type 0
IsKnown r = IfSome r IsOfNode

refusal_known : (s : Setting) (journal : List Vertex) (v : Vertex) → IsKnown (refusal s journal v)
refusal_known s journal (vertex.Unit u) = go (local_rule s.config s.instance u.unit) (clash_among s (received_of s journal).units u.unit)
  where
    go : (o : Option Rule) (c : Option Digest) → IsKnown (elim o as (λ z. Option Cause) [ Some rule ↦ Some (cause.Local rule) | None ↦ elim c as (λ z. Option Cause) [ Some d ↦ Some (cause.Clash d) | None ↦ None ] ])
    go (Some rule) c = tt
    go None (Some d) = tt
    go None None = tt
refusal_known s journal (vertex.Evidence e) = go (evidence_fault s e) (clash_among s (named s e.left.unit ∷ []) e.right.unit)
  where
    go : (o : Option PairFault) (c : Option Digest) → IsKnown (elim o as (λ z. Option Cause) [ Some f ↦ Some (cause.Pair f) | None ↦ elim c as (λ z. Option Cause) [ Some d ↦ Some (cause.Clash d) | None ↦ None ] ])
    go (Some f) c = tt
    go None (Some d) = tt
    go None None = tt
refusal_known s journal (vertex.Endorsement e) = go (nat_le (length s.config.weights) e.endorser)
  where
    go : (b : Bool) → IsKnown (cond b (Some (cause.Local UnknownCreator)) None)
    go true = tt
    go false = tt

answer_known : (s : Setting) (journal : List Vertex) (v : Vertex) (verdict : Bool) → IfErr (answer s journal v verdict) IsOfNode
unfolding answer
answer_known s journal v verdict = go verdict (refusal s journal v) (is_repeat s journal v) (nat_le s.config.max_records (length journal)) (is_park_full s journal v) (refusal_known s journal v)
  where
    go : (ok : Bool) (r : Option Cause) (again full park : Bool) → IsKnown r
        → IfErr (cond (not ok) (Err cause.BadSignature) (elim r as (λ z. Result Receipt Cause) [ Some c ↦ Err c | None ↦ cond again (Ok receipt.Repeat) (cond full (Err cause.RecordsFull) (cond park (Err cause.ParkFull) (Ok (receipt_of s journal v)))) ])) IsOfNode
    go false r again full park known = tt
    go true (Some c) again full park known = known
    go true None true full park known = tt
    go true None false true park known = tt
    go true None false false true known = tt
    go true None false false false known = tt

pub given_known : (n : NodeState) (v : Vertex) → IfErr (given_to n v) IsOfNode
given_known n v = answer_known (setting_of n.core.config) n.core.journal v (verdict_of n.keys v)
