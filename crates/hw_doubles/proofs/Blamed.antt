-- The names of the files about which calls failed.
use Rattle.std.proofs.Common.{◌≡◌, ◌≢◌, ℕ, ◌+◌, Bool, true, false, cond, List, [], ◌∷◌, ◌++◌, Some, refl, sym, ap, ◌∙◌, arith}
use Rattle.std.specs.Str.{bytes_eq}
use Rattle.std.specs.declared.vec.Vec.{Vec}
use Rattle.std.specs.declared.alloc.Global.{Global}
use Rattle.std.proofs.lemmas.List.Sums.{sum_by-append}
use Rattle.std.proofs.lemmas.Slice.Eq.{bytes_eq-Decides}
use Rattle.hw_io.specs.Faults.{FailsAbout, OnlyAbout}
use Rattle.hw_doubles.specs.Shelves.{faults_in}

-- how often one name is another
abbrev once : List ℕ → Vec ℕ Global → ℕ
once name n = cond (bytes_eq n.items name) 1 0

faults-more : (blamed : List (Vec ℕ Global)) (n : Vec ℕ Global) (name : List ℕ) → faults_in (blamed ++ n ∷ []) name ≡ faults_in blamed name + (0 + once name n)
faults-more blamed n name = sum_by-append (once name) blamed (n ∷ [])

once-same : (n : Vec ℕ Global) (name : List ℕ) → n.items ≡ name → once name n ≡ 1
once-same n name same = ap (λ (b : Bool). cond b 1 0) ((bytes_eq-Decides n.items name).1 same)

once-other : (n : Vec ℕ Global) (name other : List ℕ) → n.items ≡ name → other ≢ name → once other n ≡ 0
once-other n name other same differs = go (bytes_eq n.items other) refl where
  go : (b : Bool) → bytes_eq n.items other ≡ b → ◌≡◌ {A = ℕ} (cond b 1 0) 0
  go true is = absurd (differs (sym ((bytes_eq-Decides n.items other).0 is) ∙ same))
  go false is = refl

pub blamed-fails : (blamed all : List (Vec ℕ Global)) (n : Vec ℕ Global) (name : List ℕ) → n.items ≡ name → all ≡ blamed ++ n ∷ [] → FailsAbout (Some name) (faults_in blamed) (faults_in all)
blamed-fails blamed all n name same more =
    omega (arith, ap (λ (l : List (Vec ℕ Global)). faults_in l name) more, faults-more blamed n name, once-same n name same)

pub blamed-only : (blamed all : List (Vec ℕ Global)) (n : Vec ℕ Global) (name : List ℕ) → n.items ≡ name → all ≡ blamed ++ n ∷ [] → OnlyAbout (Some name) (faults_in blamed) (faults_in all)
blamed-only blamed all n name same more = record {
  stays = λ other differs. omega (arith, ap (λ (l : List (Vec ℕ Global)). faults_in l other) more, faults-more blamed n other, once-other n name other same differs);
}
