-- Validators that lived, and copies of a log.
use Rattle.std.proofs.Common.{◌≡◌, ℕ, inl, inr, List, [], ◌∷◌, ◌++◌, Some, refl, sym, subst, eqb-true, arith}
use Rattle.std.specs.Prelude.{◌==◌, codes}
use Rattle.hw_types.specs.declared.unit.SignedUnit.{SignedUnit}
use Rattle.hw_types.specs.declared.unit.Vertex.{Vertex}
use Rattle.hw_types.specs.Below.{Among}
use Rattle.hw_types.specs.Real.{setting_of}
use Rattle.hw_types.specs.Culprits.{signed_in}
use Rattle.hw_types.proofs.EntryLaws.{append_cases}
use Rattle.hw_safety.specs.Verdicts.{held_in}
use Rattle.hw_commands.specs.Commands.{Audit, request_of}
use Rattle.hw_run_laws.proofs.MemberLaws.{lives_there}
use Rattle.hw_agreement.specs.Lives.{Life, HasLived, AreHonest}
use Rattle.hw_agreement.specs.Members.{LivesBegin, OwnJournalsAreLived, copies_of, audit_words, CopiesAreThere, OneIsHeavy}
use Rattle.hw_agreement.proofs.LogLaws.{lives_agree}

-- ---- what a journal holds

-- a unit that a journal holds is of one of its vertices
from_flat : (x : SignedUnit) (vs : List Vertex) → Among x (held_in vs) → (v : Vertex) × Among v vs × Among x (signed_in v)
from_flat x [] m = absurd m
from_flat x (v ∷ vs) m = elim (append_cases x (signed_in v) (held_in vs) m) [
  | inl k ↦ (v, inl refl, k)
  | inr k ↦ (let rest = from_flat x vs k in (rest.0, inr rest.1, rest.2))
]

-- ---- lives

pub lives_begin : LivesBegin
lives_begin me a turns validator sound ready may =
    let l = lives_there me a turns validator sound ready may in
    (record { first = a; more = l.0; validator = validator; sound = sound; ready = ready; calls = l.1 }, refl, l.2)

pub own_lived : OwnJournalsAreLived
own_lived me life b m = record {
  life = life;
  own = λ x h by.
      let v = from_flat x b.node.core.journal h in
      (b, m, (v.0, inl v.1, x, v.2, refl));
}

-- ---- two logs

unfoldable unfold_words : Type 0
unfolding request_of Rattle.hw_commands.specs.Commands.of_few Rattle.hw_commands.specs.Commands.of_two Rattle.hw_commands.specs.Commands.of_three Rattle.hw_commands.specs.Commands.digest_in_word Rattle.hex.specs.Hex.decode_pairs
unfold_words = Unit {0}

asked : request_of audit_words ≡ Some (Audit (codes "left") (codes "right"))
unfolding unfold_words
asked = refl

-- what two copies of a journal hold, the journal holds
twice : (journal : List Vertex) (x : SignedUnit) → Among x (held_in (journal ++ journal)) → Among x (held_in journal)
twice journal x m =
    let v = from_flat x (journal ++ journal) m in
    elim (append_cases v.0 journal journal v.1) [ inl k ↦ to_flat journal v.0 k v.2 | inr k ↦ to_flat journal v.0 k v.2 ]
  where
    front : (ys zs : List SignedUnit) → Among x ys → Among x (ys ++ zs)
    front [] zs m = absurd m
    front (y ∷ ys) zs (inl e) = inl e
    front (y ∷ ys) zs (inr m) = inr (front ys zs m)

    behind : (ys zs : List SignedUnit) → Among x zs → Among x (ys ++ zs)
    behind [] zs m = m
    behind (y ∷ ys) zs m = inr (behind ys zs m)

    to_flat : (vs : List Vertex) (v : Vertex) → Among v vs → Among x (signed_in v) → Among x (held_in vs)
    to_flat [] v k m = absurd k
    to_flat (w ∷ vs) v (inl e) m = front (signed_in w) (held_in vs) (subst (λ (z : Vertex). Among x (signed_in z)) (sym e) m)
    to_flat (w ∷ vs) v (inr k) m = behind (signed_in w) (held_in vs) (to_flat vs v k m)

pub copies_are_there : CopiesAreThere
copies_are_there me life b m few =
    let one = own_lived me life b m in
    let lived : HasLived (b.node.core.journal ++ b.node.core.journal) me = record { life = one.life; own = λ x h by. one.own x (twice b.node.core.journal x h) by } in
    let honest : AreHonest (setting_of b.node.core.config) (b.node.core.journal ++ b.node.core.journal) (λ v. v == me) =
    record { lived = λ v e. subst (HasLived (b.node.core.journal ++ b.node.core.journal)) (sym (eqb-true v me e)) lived; few = few } in
    record {
      asked = asked;
      left = record { moment = m; copied = refl };
      right = record { moment = m; copied = refl };
      honest = honest;
      told = lives_agree audit_words (copies_of b) (codes "left") (codes "right") me me life life b b (λ v. v == me) asked (record { moment = m; copied = refl }) (record { moment = m; copied = refl }) refl honest;
    }

pub one_is_heavy : OneIsHeavy
one_is_heavy = omega arith
