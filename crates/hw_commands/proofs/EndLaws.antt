-- How a run ends that came to its text, or to a fault: its status, what it leaves of the files, and where it is done.
use Rattle.std.proofs.Common.{◌≡◌, ℕ, List, Bool, true, false, codes, Option, Some, None, Result, refl, sym, ap, subst, ◌∙◌, inl, inr, arith}
use Rattle.std.specs.Prelude.{◌⊎◌, ◌==◌, ◌||◌, if◌then◌else◌}
use Rattle.hw_io.specs.Faults.{Rose}
use Rattle.hw_io.specs.Sinks.{AppendsPrefix}
use Rattle.hw_log.specs.declared.error.LogError.{LogError}
use Rattle.hw_log.specs.declared.rewritten.Rewritten.{Rewritten}
use Rattle.hw_log.specs.Rewritten.{mended_of, migrated_of}
use Rattle.hw_commands.specs.declared.ended.Ended.{Ended}
use Rattle.hw_commands.specs.Commands.{Word, Request, Replay, Explain, Audit, Script, Mend, Migrate, Certify, Check, Gen, Sim, Eras, EraAudit, request_of}
use Rattle.hw_commands.specs.Program.{Held, ended, request_said, rewrite_said, run_of}
use Rattle.hw_types.specs.declared.unit.Digest.{Digest}
use Rattle.hw_commands.specs.Faults.{IsAuditEnd, IsCheckEnd, IsEndOf}
use Rattle.hw_commands.specs.Certified.{IsCertified}
use Rattle.hw_commands.specs.Files.{IsRewrite, FilesAfter, MayBeWritten, IsAllowed}
use Rattle.hw_commands.specs.Texts.{append_fault_line}
use Rattle.hw_commands.specs.Run.{Output, Finishes, WritesLine, EndsAppending}
use Rattle.hw_commands.specs.Shown.{IsShown, IfChecks, ShowsCertificate}
use Rattle.hw_commands.proofs.RewriteLaws.{said_done}
use Rattle.hw_commands.proofs.ShownLaws.{shows}

-- ---- the status

-- Each status but 5 and 7 is the one with which the run came to its text.
abbrev pub IsKept : ℕ → ℕ → Type 0
IsKept status result = (k : ℕ) → result ≡ k → (k ≡ 5 → ⊥) → (k ≡ 7 → ⊥) → status ≡ k

pub finished : (status : ℕ) (text : List ℕ) (result : ℕ) (old new : Output) → Finishes status text result old new → IsKept status result
finished status text result old new (inl whole) k is five seven = sym whole.0 ∙ is
finished status text result old new (inr (inl cut)) k is five seven = go ((status == 0) || (status == 3)) cut.0
  where
    go : (b : Bool) → result ≡ (if b then 5 else status) → status ≡ k
    go true e = absurd (five (sym is ∙ e))
    go false e = sym e ∙ is
finished status text result old new (inr (inr want)) k is five seven = absurd (seven (sym is ∙ want.0))

pub without_memory : (status result : ℕ) → result ≡ 7 → IsKept status result
without_memory status result memory k is five seven = absurd (seven (sym is ∙ memory))

-- ---- the files

rewrite_after : (rewritten_of : List ℕ → Result Rewritten LogError) (log new : Word) (status result : ℕ) (before now : Held) → IsKept status result
    → IsRewrite rewritten_of log new status before now → IsRewrite rewritten_of log new result before now
rewrite_after rewritten_of log new status result before now kept w = record {
  done = λ zero. w.done (kept 0 zero (λ h. omega (arith, h)) (λ h. omega (arith, h)));
  unwritten = λ h. w.unwritten (elim h [ inl two ↦ inl (kept 2 two (λ h. omega (arith, h)) (λ h. omega (arith, h))) | inr four ↦ inr (kept 4 four (λ h. omega (arith, h)) (λ h. omega (arith, h))) ]);
  cut = w.cut;
  others = w.others;
}

certified_after : (log : Word) (block : Digest) (new : Word) (status result : ℕ) (before now : Held) → IsKept status result → IsCertified log block new status before now → IsCertified log block new result before now
certified_after log block new status result before now kept c = record {
  done = λ zero. c.done (kept 0 zero (λ h. omega (arith, h)) (λ h. omega (arith, h)));
  unwritten = λ zero five seven. let same = kept result refl five seven in c.unwritten (λ h. zero (sym same ∙ h)) (λ h. five (sym same ∙ h)) (λ h. seven (sym same ∙ h));
  cut = c.cut;
  others = c.others;
}

files_after : (request : Option Request) (status result : ℕ) (before now : Held) → IsKept status result → FilesAfter request status before now → FilesAfter request result before now
files_after None status result before now kept same = same
files_after (Some (Replay log)) status result before now kept same = same
files_after (Some (Explain log)) status result before now kept same = same
files_after (Some (Audit left right)) status result before now kept same = same
files_after (Some (Script file)) status result before now kept same = same
files_after (Some (Mend log new)) status result before now kept w = rewrite_after mended_of log new status result before now kept w
files_after (Some (Migrate log new)) status result before now kept w =
    (rewrite_after migrated_of log new status result before now kept w.0, λ zero. w.1 (kept 0 zero (λ h. omega (arith, h)) (λ h. omega (arith, h))))
files_after (Some (Certify log block new)) status result before now kept c = certified_after log block new status result before now kept c
files_after (Some (Check file keys log)) status result before now kept same = same
files_after (Some (Gen number rounds)) status result before now kept same = same
files_after (Some (Sim number nodes steps)) status result before now kept same = same
files_after (Some (Eras logs)) status result before now kept same = same
files_after (Some (EraAudit left right)) status result before now kept same = same

-- what a run leaves whose text, or whose line of a fault, was written as far as the output took it
pub finished_files : (request : Option Request) (status : ℕ) (text : List ℕ) (result : ℕ) (old new : Output) (before now : Held) → Finishes status text result old new
    → FilesAfter request status before now → FilesAfter request result before now
finished_files request status text result old new before now finishes = files_after request status result before now (finished status text result old new finishes)

pub memory_files : (request : Option Request) (status result : ℕ) (before now : Held) → result ≡ 7 → FilesAfter request status before now → FilesAfter request result before now
memory_files request status result before now memory = files_after request status result before now (without_memory status result memory)

-- ---- what is allowed is done

rewrite_status : (rewritten_of : List ℕ → Result Rewritten LogError) (word : List ℕ) (held : Held) (log new : Word) → MayBeWritten rewritten_of held log new → (ended (rewrite_said rewritten_of word held log new)).status ≡ 0
rewrite_status rewritten_of word held log new may =
    ap (λ (e : Ended). e.status) (said_done rewritten_of word held log new may.rewritten.count (Some may.rewritten.bytes)
    (record { bytes = may.bytes; there = may.there; new = may.absent; rewritten = may.rewritten; says = may.says; count_is = refl; holds = refl }))

request_status : (held : Held) (request : Option Request) → IsAllowed request held → (ended (request_said held request)).status ≡ 0
request_status held (Some (Mend log new)) may = rewrite_status mended_of (codes "mended") held log new may
request_status held (Some (Migrate log new)) may = rewrite_status migrated_of (codes "migrated") held log new may
request_status held None may = absurd may
request_status held (Some (Replay log)) may = absurd may
request_status held (Some (Explain log)) may = absurd may
request_status held (Some (Audit left right)) may = absurd may
request_status held (Some (Script file)) may = absurd may
request_status held (Some (Certify log block new)) may = absurd may
request_status held (Some (Check file keys log)) may = absurd may
request_status held (Some (Gen number rounds)) may = absurd may
request_status held (Some (Sim number nodes steps)) may = absurd may
request_status held (Some (Eras logs)) may = absurd may
request_status held (Some (EraAudit left right)) may = absurd may

pub allowed_run : (words : List Word) (held : Held) → IsAllowed (request_of words) held → (run_of words held).status ≡ 0
unfolding run_of
allowed_run words held may = request_status held (request_of words) may

pub allowed_end : (status : ℕ) (text : List ℕ) (result : ℕ) (old new : Output) → Finishes status text result old new → status ≡ 0 → (Rose old.faults new.faults → ⊥) → (result ≡ 0) ⊎ (result ≡ 7)
allowed_end status text result old new (inl whole) zero none = inl (whole.0 ∙ zero)
allowed_end status text result old new (inr (inl cut)) zero none = absurd (none cut.1)
allowed_end status text result old new (inr (inr want)) zero none = inr want.0

-- ---- a run that came to its text ends with 5 only where a write failed

not_five : (n : ℕ) → IsAuditEnd n → n ≡ 5 → ⊥
not_five n (inl e) five = omega (arith, e, five)
not_five n (inr (inl e)) five = omega (arith, e, five)
not_five n (inr (inr (inl e))) five = omega (arith, e, five)
not_five n (inr (inr (inr (inl e)))) five = omega (arith, e, five)
not_five n (inr (inr (inr (inr e)))) five = omega (arith, e, five)

not_five_checked : (n : ℕ) → IsCheckEnd n → n ≡ 5 → ⊥
not_five_checked n (inl e) five = omega (arith, e, five)
not_five_checked n (inr e) five = not_five n e five

end_not_five : (request : Option Request) (e : Ended) → IsEndOf request e → e.status ≡ 5 → ⊥
end_not_five None e end five = let one : e.status ≡ 1 = ap (λ (x : Ended). x.status) end in omega (arith, one, five)
end_not_five (Some (Replay log)) e end five = not_five e.status (inr end) five
end_not_five (Some (Explain log)) e end five = not_five e.status (inr end) five
end_not_five (Some (Audit left right)) e end five = not_five e.status end five
end_not_five (Some (Script file)) e end five = not_five e.status (inr end) five
end_not_five (Some (Mend log new)) e end five = not_five e.status (inr end) five
end_not_five (Some (Migrate log new)) e end five = not_five e.status (inr end) five
end_not_five (Some (Certify log block new)) e (inl end) five = omega (arith, end, five)
end_not_five (Some (Certify log block new)) e (inr end) five = not_five e.status (inr end) five
end_not_five (Some (Check file keys log)) e end five = not_five_checked e.status end five
end_not_five (Some (Gen number rounds)) e end five = omega (arith, end, five)
end_not_five (Some (Sim number nodes steps)) e end five = omega (arith, end, five)
end_not_five (Some (Eras logs)) e end five = not_five e.status (inr end) five
end_not_five (Some (EraAudit left right)) e end five = not_five e.status end five

pub write_failed : (request : Option Request) (e said : Ended) (result : ℕ) (old new : Output) → IsEndOf request e → e ≡ said → Finishes e.status e.text result old new → result ≡ 5
    → Rose old.faults new.faults × AppendsPrefix old.taken new.taken said.text
write_failed request e said result old new end is (inl whole) five = absurd (end_not_five request e end (sym whole.0 ∙ five))
write_failed request e said result old new end is (inr (inl cut)) five = (cut.1, subst (λ (x : Ended). AppendsPrefix old.taken new.taken x.text) is cut.2)
write_failed request e said result old new end is (inr (inr want)) five = absurd (let seven = want.0 in omega (arith, seven, five))

-- ---- a failed append, of which the line was written as far as the output took it

pub append_told : (result : ℕ) (old new : Output) (before now : ℕ) → Finishes 5 append_fault_line result old new → Rose before now → result ≡ 5
    → Rose before now × WritesLine old.taken new.taken append_fault_line old.faults new.faults
append_told result old new before now (inl whole) rose five = (rose, inl whole.1)
append_told result old new before now (inr (inl cut)) rose five = (rose, inr (cut.1, cut.2))
append_told result old new before now (inr (inr want)) rose five = absurd (let seven = want.0 in omega (arith, seven, five))

pub append_untold : (is_text : List ℕ → Type 0) (result : ℕ) (old new : Output) (before now : ℕ) → Finishes 5 append_fault_line result old new → Rose before now → result ≡ 7 → EndsAppending old new is_text before now
append_untold is_text result old new before now (inl whole) rose seven = absurd (let five = whole.0 in omega (arith, five, seven))
append_untold is_text result old new before now (inr (inl cut)) rose seven = absurd (let five : result ≡ 5 = cut.0 in omega (arith, five, seven))
append_untold is_text result old new before now (inr (inr want)) rose seven = inr (rose, want.1)

-- ---- a check that shows something

shown_as : (words : List Word) (held : Held) (status result : ℕ) → IsKept status result → status ≡ (run_of words held).status → IsShown result → IfChecks (ShowsCertificate held) (request_of words)
shown_as words held status result kept is (inl zero) = shows words held (inl (sym is ∙ kept 0 zero (λ h. omega (arith, h)) (λ h. omega (arith, h))))
shown_as words held status result kept is (inr (inl three)) = shows words held (inr (inl (sym is ∙ kept 3 three (λ h. omega (arith, h)) (λ h. omega (arith, h)))))
shown_as words held status result kept is (inr (inr nine)) = shows words held (inr (inr (sym is ∙ kept 9 nine (λ h. omega (arith, h)) (λ h. omega (arith, h)))))

pub finished_shown : (words : List Word) (held : Held) (e : Ended) (result : ℕ) (old new : Output) → Finishes e.status e.text result old new → e.status ≡ (run_of words held).status → IsShown result → IfChecks (ShowsCertificate held) (request_of words)
finished_shown words held e result old new finishes is = shown_as words held e.status result (finished e.status e.text result old new finishes) is

-- a fault has a status that shows nothing
not_kept : {P : Type 0} (status result n : ℕ) → IsKept status result → status ≡ n → (n ≡ 0 → ⊥) → (n ≡ 3 → ⊥) → (n ≡ 9 → ⊥) → IsShown result → P
not_kept status result n kept is zero three nine (inl h) = absurd (zero (sym is ∙ kept 0 h (λ k. omega (arith, k)) (λ k. omega (arith, k))))
not_kept status result n kept is zero three nine (inr (inl h)) = absurd (three (sym is ∙ kept 3 h (λ k. omega (arith, k)) (λ k. omega (arith, k))))
not_kept status result n kept is zero three nine (inr (inr h)) = absurd (nine (sym is ∙ kept 9 h (λ k. omega (arith, k)) (λ k. omega (arith, k))))

pub four_shows_nothing : {P : Type 0} (text : List ℕ) (result : ℕ) (old new : Output) → Finishes 4 text result old new → IsShown result → P
four_shows_nothing text result old new finishes = not_kept 4 result 4 (finished 4 text result old new finishes) refl (λ h. omega (arith, h)) (λ h. omega (arith, h)) (λ h. omega (arith, h))

pub five_shows_nothing : {P : Type 0} (text : List ℕ) (result : ℕ) (old new : Output) → Finishes 5 text result old new → IsShown result → P
five_shows_nothing text result old new finishes = not_kept 5 result 5 (finished 5 text result old new finishes) refl (λ h. omega (arith, h)) (λ h. omega (arith, h)) (λ h. omega (arith, h))

pub seven_shows_nothing : {P : Type 0} (result : ℕ) → result ≡ 7 → IsShown result → P
seven_shows_nothing result seven (inl h) = absurd (omega (arith, seven, h))
seven_shows_nothing result seven (inr (inl h)) = absurd (omega (arith, seven, h))
seven_shows_nothing result seven (inr (inr h)) = absurd (omega (arith, seven, h))
