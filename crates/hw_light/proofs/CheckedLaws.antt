-- Verdicts by keys that are all true.
use Rattle.std.proofs.Common.{◌≡◌, ℕ, zero, suc, ◌<◌, Bool, true, List, [], ◌∷◌, length, map, get_or, subst, ap, ◌∙◌, arith}
use Rattle.std.specs.Prelude.{All, IfOk, IsTrue, Result, Ok, Err}
use Rattle.std.proofs.lemmas.List.{length-map}
use Rattle.hw_types.specs.declared.unit.Vertex.{Vertex}
use Rattle.hw_types.specs.Real.{CoreState}
use Rattle.hw_light.specs.declared.answers.Checked.{Checked}
use Rattle.hw_light.specs.declared.answers.Checked.TheVariants.{Yes, No}
use Rattle.hw_light.specs.declared.certificate.Certificate.{Certificate}
use Rattle.hw_light.specs.Checked.{IfYes, IsAnswer, IsCertified}
use Rattle.hw_keys.specs.Signed.{verdict_of}
use Rattle.hw_light.proofs.CheckLaws.{yes_certifies, yes_signed}
use Rattle.hw_light.specs.CheckedTexts.{verdicts_by, checked_of}
use Rattle.hw_light.proofs.AnswerLaws.{answer_is, standing_of}

all_mapped : (f : Vertex → Bool) (vs : List Vertex) → All (λ b. IsTrue b) (map f vs) → All (λ v. IsTrue (f v)) vs
all_mapped f [] all = λ k d lt. absurd (omega arith)
all_mapped f (v ∷ vs) all = λ k d lt. each k d lt (all_mapped f vs (λ j b less. all (suc j) b (omega arith)))
  where
    each : (k : ℕ) (d : Vertex) → k < length (v ∷ vs) → All (λ w. IsTrue (f w)) vs → IsTrue (f (get_or (v ∷ vs) k d))
    each zero d lt rest = all 0 true (omega arith)
    each (suc k) d lt rest = rest k d (omega arith)

yes_weaker : (P Q : CoreState → Type 0) → ((core : CoreState) → P core → Q core) → (checked : Checked) → IfYes P checked → IfYes Q checked
yes_weaker P Q f (Yes core) p = f core p
yes_weaker P Q f (No fault) p = tt

-- where the answer is yes
pub signed_by : {E : Type 0} (f : Vertex → Bool) (vs : List Vertex) (bs : List Bool) (result : Result Checked E) → bs ≡ map f vs → IfOk result (IfYes (λ core. All (λ b. IsTrue b) bs)) → IfOk result (IfYes (λ core. All (λ v. IsTrue (f v)) vs))
signed_by f vs bs (Ok checked) e is = yes_weaker (λ core. All (λ b. IsTrue b) bs) (λ core. All (λ v. IsTrue (f v)) vs) (λ core all. all_mapped f vs (subst (λ (cs : List Bool). All (λ b. IsTrue b) cs) e all)) checked is
signed_by f vs bs (Err x) e is = tt

-- the answer is what is worked out
pub answered : {E : Type 0} (c : Certificate) (bs cs : List Bool) (result : Result Checked E) → bs ≡ cs → IfOk result (IsAnswer c bs) → IfOk result (λ a. a ≡ checked_of c cs)
answered c bs cs (Ok a) same is = answer_is c bs a is ∙ ap (checked_of c) same
answered c bs cs (Err x) same is = tt

-- a worked-out yes by keys shows that the vertices certify the block, and each is signed by them
pub yes_shows : (c : Certificate) (keys : List (List ℕ)) (core : CoreState) → checked_of c (verdicts_by keys c.vertices) ≡ Yes core → IsCertified c core × All (λ v. IsTrue (verdict_of keys v)) c.vertices
yes_shows c keys core given =
    let bs = verdicts_by keys c.vertices in
    let size : length bs ≡ length c.vertices = simp length-map in
    let standing : Result Checked ℕ = Ok (Yes core) in
    let is = standing_of c bs core given in
    (yes_certifies {E = ℕ} c bs standing size is, all_mapped (verdict_of keys) c.vertices (yes_signed {E = ℕ} c bs standing size is))
