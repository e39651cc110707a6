-- One era's report after the other.
use Rattle.std.proofs.Common.{◌≡◌, ℕ, zero, suc, ◌+◌, ◌<◌, List, [], ◌∷◌, ◌++◌, length, take, Some, None, refl, sym, ap, ◌∙◌, arith, append_assoc}
use Rattle.std.specs.Prelude.{slice_get}
use Rattle.hw_types.specs.Real.{CoreState}
use Rattle.hw_replay.specs.Taken.{Taken}
use Rattle.hw_eras.specs.declared.filled.EraCounts.{EraCounts}
use Rattle.hw_eras.specs.Filled.{counted, counts_at}
use Rattle.hw_eras.specs.Reports.{era_report, reports_from}

-- what the reports are of
pub counted_at : (ns : List CoreState) (cs : List EraCounts) (i : ℕ) (n : CoreState) → slice_get ns i ≡ Some n
    → slice_get (counted ns cs) i ≡ Some (record { core = n; refused = (counts_at cs i).refused; repeats = (counts_at cs i).repeats })
counted_at [] cs i n e = absurd cc
counted_at (m ∷ ms) [] zero n e = (let same : m ≡ n = cc in ap (λ (k : CoreState). Some (record { core = k; refused = 0; repeats = 0 })) same)
counted_at (m ∷ ms) [] (suc i) n e = counted_at ms [] i n e
counted_at (m ∷ ms) (c ∷ cs) zero n e = (let same : m ≡ n = cc in ap (λ (k : CoreState). Some (record { core = k; refused = c.refused; repeats = c.repeats })) same)
counted_at (m ∷ ms) (c ∷ cs) (suc i) n e = counted_at ms cs i n e

-- one more report
report_more : (start : ℕ) (ts : List Taken) (i : ℕ) (t : Taken) → slice_get ts i ≡ Some t → reports_from start (take (suc i) ts) ≡ reports_from start (take i ts) ++ era_report (start + i) t
unfolding reports_from
report_more start [] i t e = absurd cc
report_more start (u ∷ us) zero t e =
    let same : u ≡ t = cc in
    let at : start ≡ start + 0 = omega arith in
    first (era_report start u) ∙ ap (era_report start) same ∙ ap (λ (n : ℕ). era_report n t) at
  where
    first : (xs : List ℕ) → xs ++ [] ≡ [] ++ xs
    first xs = nil xs
      where
        nil : (ys : List ℕ) → ys ++ [] ≡ ys
        nil [] = refl
        nil (y ∷ ys) = ap (λ (zs : List ℕ). y ∷ zs) (nil ys)
report_more start (u ∷ us) (suc i) t e =
    let at : start + 1 + i ≡ start + suc i = omega arith in
    ap (λ (text : List ℕ). era_report start u ++ text) (report_more (start + 1) us i t e)
    ∙ sym (append_assoc (era_report start u) (reports_from (start + 1) (take i us)) (era_report (start + 1 + i) t))
    ∙ ap (λ (n : ℕ). (era_report start u ++ reports_from (start + 1) (take i us)) ++ era_report n t) at

pub one_more : (ts : List Taken) (i : ℕ) (t : Taken) → slice_get ts i ≡ Some t → reports_from 0 (take (i + 1) ts) ≡ reports_from 0 (take i ts) ++ era_report i t
one_more ts i t e =
    let next : i + 1 ≡ suc i = omega arith in
    let at : 0 + i ≡ i = omega arith in
    ap (λ (n : ℕ). reports_from 0 (take n ts)) next ∙ report_more 0 ts i t e ∙ ap (λ (n : ℕ). reports_from 0 (take i ts) ++ era_report n t) at

-- an era below the count is there
pub is_some : (cs : List CoreState) (i : ℕ) → i < length cs → slice_get cs i ≡ None → ⊥
is_some [] i lt e = absurd (omega arith)
is_some (c ∷ cs) zero lt e = absurd cc
is_some (c ∷ cs) (suc i) lt e = is_some cs i (omega arith) e
