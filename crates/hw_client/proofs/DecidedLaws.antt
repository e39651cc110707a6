-- What is decided stays decided.
use Rattle.std.proofs.Common.{◌≡◌, Bool, true, false, cond, [], ◌∷◌, ◌++◌, sym, subst}
use Rattle.std.specs.Prelude.{Result, Ok, Err, OnOk, OnErr}
use Rattle.std.proofs.lemmas.List.{append-nil}
use Rattle.hw_types.specs.declared.unit.Vertex.{Vertex}
use Rattle.hw_types.specs.Journal.{answer, is_accepted}
use Rattle.hw_types.specs.Real.{CoreState, setting_of, after_in}
use Rattle.hw_safety.specs.Chain.{Begins}
use Rattle.hw_safety.specs.ChainLaws.{DecisionsOnlyGrow}
use Rattle.hw_safety.specs.SummitLaws.{SafetyDecides}
use Rattle.hw_core.specs.Decided.{decided_in}

pub stays : (c : CoreState) → Begins (decided_in c) (decided_in c)
stays c = ([], sym (append-nil (decided_in c)))

pub goes_on : DecisionsOnlyGrow → SafetyDecides → (c : CoreState) (v : Vertex) (verdict : Bool) → Begins (decided_in c) (decided_in (after_in c v verdict))
goes_on grow decides c v verdict = go (is_accepted (answer (setting_of c.config) c.journal v verdict))
  where
    go : (b : Bool) → Begins (decided_in c) (decided_in (record c { journal = cond b (c.journal ++ v ∷ []) c.journal }))
    go true = grow (setting_of c.config) c.journal (v ∷ []) _ _ (decides (setting_of c.config) c.journal) (decides (setting_of c.config) (c.journal ++ v ∷ []))
    go false = stays c

-- what holds before a delivery and after an accepted one holds after any
pub either_way : {R E : Type 0} (P : CoreState → Type 0) (r : Result R E) (old after new : CoreState) → OnOk r (new ≡ after) → OnErr r (new ≡ old) → P old → P after → P new
either_way P (Ok x) old after new j u po pa = subst P (sym j) pa
either_way P (Err e) old after new j u po pa = subst P (sym u) po
