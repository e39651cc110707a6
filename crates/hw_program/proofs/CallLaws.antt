-- What a run of a node was handed, and what it called.
use Rattle.std.proofs.Common.{◌≡◌, ℕ, arith, ◌+◌, ◌<◌, ◌≤◌, List, [], ◌∷◌, ◌++◌, length, take, Result, Ok, Err, refl, sym, ap, subst, ◌∙◌}
use Rattle.std.specs.Prelude.{map, OnOk, string_bytes}
use Rattle.std.proofs.Math.ListN.{get_or}
use Rattle.std.proofs.Math.Seq.{take_all}
use Rattle.std.proofs.lemmas.List.{length-map}
use Rattle.std.proofs.lemmas.List.Elements.{All-nil, All-push}
use Rattle.hw_service.specs.declared.peer.Peer.{Peer}
use Rattle.hw_commands.specs.Commands.{Word}
use Rattle.hw_program.specs.Served.{AreNew, no_mark}

-- what holds behind a report, and what holds at any end
pub with_rest : {T E B : Type 0} (A : Type 0) (r : Result T E) → OnOk r A → B → OnOk r (A × B)
with_rest A (Ok x) a b = (a, b)
with_rest A (Err e) a b = tt

-- there is a peer for each address
pub peers_count : (addresses : List Word) (peers : List Peer) → AreNew addresses peers → length peers ≡ length addresses
peers_count addresses peers are = sym (length-map peers (λ (p : Peer). string_bytes p.address)) ∙ ap length are.addresses_are

-- ---- peers that are made one after the other

pub no_peers : (peers : List Peer) → peers ≡ [] → AreNew [] peers
no_peers peers is = subst (λ (ps : List Peer). AreNew [] ps) (sym is) (record { addresses_are = refl; marks = All-nil (λ (p : Peer). p.mark ≡ no_mark) })

map_push : {A B : Type 0} (f : A → B) (xs : List A) (x : A) → map f (xs ++ x ∷ []) ≡ map f xs ++ f x ∷ []
map_push f [] x = refl
map_push f (y ∷ ys) x = ap (λ zs. f y ∷ zs) (map_push f ys x)

take_more : {A : Type 0} (xs : List A) (i : ℕ) (d : A) → i < length xs → take (i + 1) xs ≡ take i xs ++ get_or xs i d ∷ []
take_more xs i d less = grind (arith, Rattle.std.proofs.lemmas.Grind.common_steps)

-- one more is made
pub new_peer : {T : Type 0} (f : T → Word) (slice : List T) (i : ℕ) (x : T) (peers : List Peer) (p : Peer) → i < length slice → x ≡ get_or slice i x → string_bytes p.address ≡ f x → p.mark ≡ no_mark
    → AreNew (map f (take i slice)) peers → AreNew (map f (take (i + 1) slice)) (peers ++ p ∷ [])
new_peer {T = T} f slice i x peers p few is_at is unmarked are = record {
  addresses_are = map_push (λ (q : Peer). string_bytes q.address) peers p
      ∙ ap (λ (l : List Word). l ++ string_bytes p.address ∷ []) are.addresses_are
      ∙ ap (λ (a : Word). map f (take i slice) ++ a ∷ []) (is ∙ ap f is_at)
      ∙ sym (map_push f (take i slice) (get_or slice i x))
      ∙ sym (ap (λ (xs : List T). map f xs) (take_more slice i x few));
  marks = All-push (λ (q : Peer). q.mark ≡ no_mark) peers p are.marks unmarked;
}

-- all are
pub all_peers : {T : Type 0} (f : T → Word) (slice : List T) (i : ℕ) (peers : List Peer) → length slice ≤ i → AreNew (map f (take i slice)) peers → AreNew (map f slice) peers
all_peers {T = T} f slice i peers end are = subst (λ (xs : List T). AreNew (map f xs) peers) (take_all i slice end) are
