-- The calls of `read` that a door tells.
use Rattle.std.proofs.Common.{◌≡◌, List, [], ◌∷◌, ◌++◌, Some, sym, ap, subst, refl, ◌∙◌}
use Rattle.std.proofs.lemmas.List.{append_assoc, append-nil}
use Rattle.std.proofs.lemmas.List.Elements.{All-nil, All-append, All-weaker}
use Rattle.hw_io.specs.Doors.{Session, Ask, ask_in, ask_of, AsksMore}

-- no more are told
pub asks_none : (P : Ask → Type 0) (asks : List Ask) → AsksMore P asks asks
asks_none P asks = record { more = []; told = sym (append-nil asks); each = All-nil P }

-- what holds of each of them
pub asks_as : (P Q : Ask → Type 0) → ((ask : Ask) → P ask → Q ask) → (old new : List Ask) → AsksMore P old new → AsksMore Q old new
asks_as P Q so old new asks = record { more = asks.more; told = asks.told; each = All-weaker P Q so asks.more asks.each }

-- more, and then more
pub asks_then : (P : Ask → Type 0) (old mid new : List Ask) → AsksMore P old mid → AsksMore P mid new → AsksMore P old new
asks_then P old mid new first then = record {
  more = first.more ++ then.more;
  told = then.told ∙ ap (λ (asks : List Ask). asks ++ then.more) first.told ∙ append_assoc old first.more then.more;
  each = All-append P first.more then.more first.each then.each;
}

-- more, and then none
pub asks_still : (P : Ask → Type 0) (old mid new : List Ask) → AsksMore P old mid → new ≡ mid → AsksMore P old new
asks_still P old mid new asks same = subst (λ (told : List Ask). AsksMore P old told) (sym same) asks

-- the last of some sessions
pub ask_of-last : (session : Session) (sessions : List Session) → ask_of (sessions ++ session ∷ []) ≡ Some (ask_in session)
ask_of-last session [] = refl
ask_of-last session (s ∷ []) = refl
ask_of-last session (s ∷ t ∷ rest) = ask_of-last session (t ∷ rest)
