-- Slots that are tested one after the other.
use Rattle.std.proofs.Common.{◌≡◌, ℕ, ◌+◌, ◌<◌, ◌≤◌, List, length, inl, inr, sym, subst, arith}
use Rattle.std.proofs.lemmas.Bool.{cases_lt}
use Rattle.hw_types.specs.declared.unit.Digest.{Digest}
use Rattle.hw_types.specs.Below.{Among}
use Rattle.hw_types.specs.Graph.{digest_eq}
use Rattle.hw_types.specs.Rules.{has_digest}
use Rattle.hw_types.proofs.PastLaws.{some_of}
use Rattle.hw_types.proofs.SettledLaws.{digest_same}
use Rattle.hw_types.proofs.WordsLaws.{all_of}
use Rattle.hw_dag.specs.declared.numbers.View.{View}
use Rattle.hw_dag.specs.Dag.{UnitGraph, unit_at, view_at, IsPanorama}
use Rattle.hw_naivety.specs.Tips.{HasLists}
use Rattle.hw_dag.proofs.OrderLaws.{correct_inside}
use Rattle.hw_core_cases.specs.Slots.{IsBy, HasListOf}

-- one number more
pub each_more : (P : ℕ → Type 0) (n : ℕ) → ((v : ℕ) → v < n → P v) → P n → (v : ℕ) → v < n + 1 → P v
each_more P n before here v lt = elim (cases_lt v n) [
  | inl less ↦ before v less
  | inr above ↦ (let same : n ≡ v = omega arith in subst P same here)
]

-- the units of the first slots are by their validators
abbrev pub AreBy : UnitGraph → List View → ℕ → Type 0
AreBy dag panorama count = (v : ℕ) → v < count → IsBy dag (view_at panorama v) v

pub are_by_all : (dag : UnitGraph) (panorama : List View) (count : ℕ) → length panorama ≡ dag.validators → dag.validators ≤ count → AreBy dag panorama count → IsPanorama dag panorama
are_by_all dag panorama count long le by = record {
  length_is = long;
  known = λ v number e. (by v (let inside = correct_inside panorama v number e in omega arith) number e).0;
  creator_is = λ v number e. (by v (let inside = correct_inside panorama v number e in omega arith) number e).1;
}

-- the list has those of the first slots
abbrev pub HaveLists : UnitGraph → List View → List Digest → ℕ → Type 0
HaveLists dag panorama endorsed count = (v : ℕ) → v < count → HasListOf dag (view_at panorama v) endorsed

pub lists_all : (dag : UnitGraph) (panorama : List View) (endorsed : List Digest) (count : ℕ) → length panorama ≡ dag.validators → dag.validators ≤ count → HaveLists dag panorama endorsed count → HasLists dag panorama endorsed
lists_all dag panorama endorsed count long le have = λ v number e name m.
    let all = have v (let inside = correct_inside panorama v number e in omega arith) number e in
    let found = some_of (digest_eq name) endorsed (all_of (has_digest endorsed) (unit_at dag number.0).signed.unit.endorsed all name m) in
    subst (λ (d : Digest). Among d endorsed) (sym (digest_same name found.0 found.2)) found.1
