-- What a run writes that came to its text, and what it leaves of the consumers.
use Rattle.std.proofs.Common.{◌≡◌, ℕ, List, Bool, true, false, Option, Some, None, refl, sym, ap, subst, ◌∙◌, inl, inr, arith}
use Rattle.std.specs.Prelude.{◌⊎◌, ◌==◌, ◌||◌, if◌then◌else◌}
use Rattle.std.specs.Io.KnownBytes.{Appends}
use Rattle.hw_replay.specs.Fates.{Sight}
use Rattle.hw_commands.specs.declared.ended.Ended.{Ended}
use Rattle.hw_commands.specs.Commands.{Request, Replay, Explain, Audit, Script, Mend, Migrate, Certify, Check, Gen, Sim, Eras, EraAudit}
use Rattle.hw_commands.specs.Program.{Held}
use Rattle.hw_commands.specs.Faults.{IsReadEnd, IsAuditEnd, IsEndOf}
use Rattle.hw_commands.specs.Run.{Output, IsDone, IsRefusal, Finishes, WritesLine, WritesToNoMemory}
use Rattle.hw_commands.specs.Fed.{IsReplayTold, ConsumersAfter, IsTextFor}
use Rattle.hw_commands.proofs.EndLaws.{IsKept, finished, without_memory}

-- ---- the consumers

-- a status that is answered where a write failed stands for that of a whole text
kept_five : (status : ℕ) (text : List ℕ) (result : ℕ) (old new : Output) → (status ≡ 3 → ⊥) → Finishes status text result old new → result ≡ 5 → (status ≡ 0) ⊎ (status ≡ 5)
kept_five status text result old new three (inl whole) five = inr (sym whole.0 ∙ five)
kept_five status text result old new three (inr (inr want)) five = absurd (let seven = want.0 in omega (arith, seven, five))
kept_five status text result old new three (inr (inl cut)) five = go (status == 0) (status == 3) refl refl cut.0
  where
    go : (a b : Bool) → (status == 0) ≡ a → (status == 3) ≡ b → result ≡ (if a || b then 5 else status) → (status ≡ 0) ⊎ (status ≡ 5)
    go true b is other e = inl (grind (arith, is))
    go false true is other e = absurd (three (grind (arith, other)))
    go false false is other e = inr (sym e ∙ five)

told_after : {B K : Type 0} (sight : Sight B K) (tells : Bool) (log : Option (List ℕ)) (status result : ℕ) (old new : List B) → IsKept status result → (result ≡ 5 → (status ≡ 0) ⊎ (status ≡ 5))
    → IsReplayTold sight tells log status old new → IsReplayTold sight tells log result old new
told_after sight tells log status result old new kept five t = record {
  all = λ h. t.all (elim h [ inl zero ↦ inl (kept 0 zero (λ h. omega (arith, h)) (λ h. omega (arith, h))) | inr is ↦ five is ]);
  some = λ h.
      let same : status ≡ result = elim h [
        | inl two ↦ kept 2 two (λ h. omega (arith, h)) (λ h. omega (arith, h)) ∙ sym two
        | inr (inl four) ↦ kept 4 four (λ h. omega (arith, h)) (λ h. omega (arith, h)) ∙ sym four
        | inr (inr (inl eight)) ↦ kept 8 eight (λ h. omega (arith, h)) (λ h. omega (arith, h)) ∙ sym eight
        | inr (inr (inr nine)) ↦ kept 9 nine (λ h. omega (arith, h)) (λ h. omega (arith, h)) ∙ sym nine
      ] in
      let cut = t.some (subst (λ n. (n ≡ 2) ⊎ (n ≡ 4) ⊎ (n ≡ 8) ⊎ (n ≡ 9)) (sym same) h) in
      (cut.0, λ out. sym same ∙ cut.1 out, cut.2);
  any = t.any;
}

-- a replay ends by no conflict
read_end_three : (n : ℕ) → IsReadEnd n → n ≡ 3 → ⊥
read_end_three n (inl e) three = omega (arith, e, three)
read_end_three n (inr (inl e)) three = omega (arith, e, three)
read_end_three n (inr (inr (inl e))) three = omega (arith, e, three)
read_end_three n (inr (inr (inr e))) three = omega (arith, e, three)

pub memory_consumers : {B K : Type 0} (sight : Sight B K) (tells : Bool) (held : Held) (old new : List B) (request : Option Request) (status result : ℕ) → result ≡ 7
    → ConsumersAfter sight tells request held status old new → ConsumersAfter sight tells request held result old new
memory_consumers sight tells held old new (Some (Replay log)) status result seven c =
    told_after sight tells (held log) status result old new (without_memory status result seven) (λ five. absurd (omega (arith, five, seven))) c
memory_consumers sight tells held old new request status result seven c = c

module _ {B K : Type 0} (sight : Sight B K) (tells : Bool) (held : Held) (o n : Output) (old new : List B) where
  -- where the status is one with which a replay ends, or that of a fault
  pub fault_consumers : (request : Option Request) (status : ℕ) (text : List ℕ) (result : ℕ) → (status ≡ 3 → ⊥) → Finishes status text result o n
      → ConsumersAfter sight tells request held status old new → ConsumersAfter sight tells request held result old new
  fault_consumers (Some (Replay log)) status text result three fin c =
      told_after sight tells (held log) status result old new (finished status text result o n fin) (kept_five status text result o n three fin) c
  fault_consumers request status text result three fin c = c

  pub end_consumers : (request : Option Request) (e : Ended) (result : ℕ) → IsEndOf request e → Finishes e.status e.text result o n
      → ConsumersAfter sight tells request held e.status old new → ConsumersAfter sight tells request held result old new
  end_consumers (Some (Replay log)) e result end fin c =
      told_after sight tells (held log) e.status result old new (finished e.status e.text result o n fin) (kept_five e.status e.text result o n (read_end_three e.status end) fin) c
  end_consumers request e result end fin c = c

  -- ---- the text

  -- without a report the text is the one that the bytes say
  text_plain : (request : Option Request) (said : Ended) (text : List ℕ) → IsTextFor sight tells request held said old new text → (said.status ≡ 0 → ⊥) → text ≡ said.text
  text_plain (Some (Replay log)) said text is not = is.other not
  text_plain request said text is not = is

  pub line_written : (request : Option Request) (said e : Ended) (result : ℕ) → e.status ≡ said.status → IsTextFor sight tells request held said old new e.text → Finishes e.status e.text result o n → IsRefusal result
      → WritesLine o.taken n.taken said.text o.faults n.faults
  line_written request said e result status is fin refused = go fin
    where
      plain : e.status ≡ result → e.text ≡ said.text
      plain kept = text_plain request said e.text is (λ zero. let z : result ≡ 0 = sym kept ∙ status ∙ zero in no_zero result z refused)
        where
          no_zero : (r : ℕ) → r ≡ 0 → IsRefusal r → ⊥
          no_zero r z (inl h) = omega (arith, z, h)
          no_zero r z (inr (inl h)) = omega (arith, z, h)
          no_zero r z (inr (inr (inl h))) = omega (arith, z, h)
          no_zero r z (inr (inr (inr (inl h)))) = omega (arith, z, h)
          no_zero r z (inr (inr (inr (inr h)))) = omega (arith, z, h)

      lines : e.status ≡ result → WritesLine o.taken n.taken e.text o.faults n.faults → WritesLine o.taken n.taken said.text o.faults n.faults
      lines kept wrote = subst (λ t. WritesLine o.taken n.taken t o.faults n.faults) (plain kept) wrote

      cut : (b : Bool) → result ≡ (if b then 5 else e.status) → WritesLine o.taken n.taken e.text o.faults n.faults → WritesLine o.taken n.taken said.text o.faults n.faults
      cut true five wrote = absurd (no_five result five refused)
        where
          no_five : (r : ℕ) → r ≡ 5 → IsRefusal r → ⊥
          no_five r z (inl h) = omega (arith, z, h)
          no_five r z (inr (inl h)) = omega (arith, z, h)
          no_five r z (inr (inr (inl h))) = omega (arith, z, h)
          no_five r z (inr (inr (inr (inl h)))) = omega (arith, z, h)
          no_five r z (inr (inr (inr (inr h)))) = omega (arith, z, h)
      cut false kept wrote = lines (sym kept) wrote

      go : Finishes e.status e.text result o n → WritesLine o.taken n.taken said.text o.faults n.faults
      go (inl whole) = lines (sym whole.0) (inl whole.1)
      go (inr (inl part)) = cut ((e.status == 0) || (e.status == 3)) part.0 (inr (part.1, part.2))
      go (inr (inr want)) = absurd (no_seven result want.0 refused)
        where
          no_seven : (r : ℕ) → r ≡ 7 → IsRefusal r → ⊥
          no_seven r z (inl h) = omega (arith, z, h)
          no_seven r z (inr (inl h)) = omega (arith, z, h)
          no_seven r z (inr (inr (inl h))) = omega (arith, z, h)
          no_seven r z (inr (inr (inr (inl h)))) = omega (arith, z, h)
          no_seven r z (inr (inr (inr (inr h)))) = omega (arith, z, h)

-- with a whole text the status is that of one
pub text_written : (status : ℕ) (text : List ℕ) (result : ℕ) (old new : Output) → Finishes status text result old new → IsDone result → Appends old.taken new.taken text
text_written status text result old new (inl whole) is = whole.1
text_written status text result old new (inr (inr want)) is = absurd (never want.0 is)
  where
    never : result ≡ 7 → IsDone result → ⊥
    never seven (inl zero) = omega (arith, seven, zero)
    never seven (inr three) = omega (arith, seven, three)
text_written status text result old new (inr (inl cut)) is = absurd (go ((status == 0) || (status == 3)) refl cut.0 is)
  where
    go : (b : Bool) → ((status == 0) || (status == 3)) ≡ b → result ≡ (if b then 5 else status) → IsDone result → ⊥
    go true said five (inl zero) = omega (arith, five, zero)
    go true said five (inr three) = omega (arith, five, three)
    go false said kept (inl zero) = let P : ℕ → Type 0 = λ k. ((k == 0) || (k == 3)) ≡ false in let never : true ≡ false = subst P (sym kept ∙ zero) said in cc
    go false said kept (inr three) = let P : ℕ → Type 0 = λ k. ((k == 0) || (k == 3)) ≡ false in let never : true ≡ false = subst P (sym kept ∙ three) said in cc

-- ---- no memory for a write

audit_end_seven : (n : ℕ) → IsAuditEnd n → n ≡ 7 → ⊥
audit_end_seven n (inl e) seven = omega (arith, e, seven)
audit_end_seven n (inr (inl e)) seven = omega (arith, e, seven)
audit_end_seven n (inr (inr (inl e))) seven = omega (arith, e, seven)
audit_end_seven n (inr (inr (inr (inl e)))) seven = omega (arith, e, seven)
audit_end_seven n (inr (inr (inr (inr e)))) seven = omega (arith, e, seven)

end_not_seven : (request : Option Request) (e : Ended) → IsEndOf request e → e.status ≡ 7 → ⊥
end_not_seven None e end seven = let one : e.status ≡ 1 = ap (λ (x : Ended). x.status) end in omega (arith, one, seven)
end_not_seven (Some (Replay log)) e end seven = audit_end_seven e.status (inr end) seven
end_not_seven (Some (Explain log)) e end seven = audit_end_seven e.status (inr end) seven
end_not_seven (Some (Audit left right)) e end seven = audit_end_seven e.status end seven
end_not_seven (Some (Script file)) e end seven = audit_end_seven e.status (inr end) seven
end_not_seven (Some (Mend log new)) e end seven = audit_end_seven e.status (inr end) seven
end_not_seven (Some (Migrate log new)) e end seven = audit_end_seven e.status (inr end) seven
end_not_seven (Some (Certify log block new)) e (inl end) seven = omega (arith, end, seven)
end_not_seven (Some (Certify log block new)) e (inr end) seven = audit_end_seven e.status (inr end) seven
end_not_seven (Some (Check file keys log)) e (inl end) seven = omega (arith, end, seven)
end_not_seven (Some (Check file keys log)) e (inr end) seven = audit_end_seven e.status end seven
end_not_seven (Some (Gen number rounds)) e end seven = omega (arith, end, seven)
end_not_seven (Some (Sim number nodes steps)) e end seven = omega (arith, end, seven)
end_not_seven (Some (Eras logs)) e end seven = audit_end_seven e.status (inr end) seven
end_not_seven (Some (EraAudit left right)) e end seven = audit_end_seven e.status end seven

pub want_written : (request : Option Request) (e : Ended) (result : ℕ) (old new : Output) → IsEndOf request e → Finishes e.status e.text result old new → result ≡ 7 → WritesToNoMemory old new e.text
want_written request e result old new end (inl whole) seven = absurd (end_not_seven request e end (sym whole.0 ∙ seven))
want_written request e result old new end (inr (inr want)) seven = want.1
want_written request e result old new end (inr (inl cut)) seven = absurd (go ((e.status == 0) || (e.status == 3)) cut.0)
  where
    go : (b : Bool) → result ≡ (if b then 5 else e.status) → ⊥
    go true five = omega (arith, five, seven)
    go false kept = end_not_seven request e end (sym kept ∙ seven)
