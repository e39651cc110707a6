-- A vertex of the other.
use Rattle.std.proofs.Common.{◌≡◌, ◌⊎◌, ℕ, zero, suc, ◌+◌, ◌<◌, Bool, true, false, cond, List, [], ◌∷◌, ◌++◌, length, Option, Some, None, Result, Ok, Err, inl, inr, refl, sym, ap, subst, ◌∙◌, arith, length-append}
use Rattle.std.specs.Prelude.{slice_get, filter_map}
use Rattle.std.specs.List.{All, AllByRecursion, cons_option}
use Rattle.std.proofs.lemmas.List.Elements.{recursion_from_All, All-from_recursion}
use Rattle.hw_types.specs.declared.unit.Vertex.{Vertex}
use Rattle.hw_types.specs.declared.answers.Receipt.{Receipt}
use Rattle.hw_types.specs.declared.answers.Cause.{Cause}
use Rattle.hw_types.specs.declared.answers.Cause.TheVariants as cause
use Rattle.hw_types.specs.Journal.{is_accepted}
use Rattle.hw_types.specs.Real.{CoreState, answer_in, after_in}
use Rattle.hw_io.specs.Doors.{Session}
use Rattle.hw_link.specs.declared.end.SessionEnd.{SessionEnd}
use Rattle.hw_link.specs.declared.end.SessionEnd.TheVariants as end
use Rattle.hw_link.specs.Links.{after_part}
use Rattle.hw_meeting_node.specs.Frames.{sent_bytes}
use Rattle.hw_meeting_node.specs.declared.taker.TakeFault.{TakeFault}
use Rattle.hw_meeting_node.specs.declared.taker.TakeFault.TheVariants as fault
use Rattle.hw_meeting_node.specs.declared.meeter.Meeter.{Meeter}
use Rattle.hw_meeting_node.specs.declared.meeter.Stage.TheVariants as stage
use Rattle.hw_io.specs.Faults.{raised}
use Rattle.hw_meeting_node.specs.Talk.{Reaction}
use Rattle.hw_meeting_node.specs.Taker.{Takes}
use Rattle.hw_meeting_node.specs.Meeting.{Meeting, with_refused, answered, given_vertex}
use Rattle.hw_meeting_node.specs.Handling.{meeting_of, IsKept, Reacts}
use Rattle.hw_meeting_node.proofs.ReactLaws.{none_sent}

-- ---- places of a journal that grew

get_before : {A : Type 0} (xs ys : List A) (i : ℕ) → i < length xs → slice_get (xs ++ ys) i ≡ slice_get xs i
get_before [] ys i less = absurd (omega arith)
get_before (x ∷ xs) ys zero less = refl
get_before (x ∷ xs) ys (suc i) less = get_before xs ys i (omega arith)

places_stay : (journal more : List Vertex) (places : List ℕ) → AllByRecursion (λ place. place < length journal) places → filter_map (slice_get (journal ++ more)) places ≡ filter_map (slice_get journal) places
places_stay journal more [] all = refl
places_stay journal more (p ∷ ps) all =
    ap (λ (o : Option Vertex). cons_option o (filter_map (slice_get (journal ++ more)) ps)) (get_before journal more p all.0)
    ∙ ap (cons_option (slice_get journal p)) (places_stay journal more ps all.1)

within_more : (journal more : List Vertex) (places : List ℕ) → AllByRecursion (λ place. place < length journal) places → AllByRecursion (λ place. place < length (journal ++ more)) places
within_more journal more [] all = tt
within_more journal more (p ∷ ps) all = (let size = length-append journal more in let first = all.0 in omega arith, within_more journal more ps all.1)

module _ (c : CoreState) (v : Vertex) (verdict : Bool) (places : List ℕ) (within : All (λ place. place < length c.journal) places) where
  each : AllByRecursion (λ place. place < length c.journal) places
  each = recursion_from_All (λ place. place < length c.journal) places within

  due_stays : filter_map (slice_get (after_in c v verdict).journal) places ≡ filter_map (slice_get c.journal) places
  due_stays = go (is_accepted (answer_in c v verdict))
    where
      go : (b : Bool) → filter_map (slice_get (cond b (c.journal ++ v ∷ []) c.journal)) places ≡ filter_map (slice_get c.journal) places
      go true = places_stay c.journal (v ∷ []) places each
      go false = refl

  within_stays : All (λ place. place < length (after_in c v verdict).journal) places
  within_stays = go (is_accepted (answer_in c v verdict))
    where
      go : (b : Bool) → All (λ place. place < length (cond b (c.journal ++ v ∷ []) c.journal)) places
      go true = All-from_recursion (λ place. place < length (c.journal ++ v ∷ [])) places (within_more c.journal (v ∷ []) places each)
      go false = within

-- what isn't taken leaves the core
refused_stays : (c : CoreState) (v : Vertex) (verdict : Bool) (why : Cause) → answer_in c v verdict ≡ Err why → after_in c v verdict ≡ c
refused_stays c v verdict why is = ap (λ (a : Result Receipt Cause). record c { journal = cond (is_accepted a) (c.journal ++ v ∷ []) c.journal }) is

-- ---- what became of it

-- a node that takes vertices
abbrev pub with_count : Meeter → ℕ → Meeter
with_count k n = record k { refused = n }

module _ (c : CoreState) (v : Vertex) (judge : Vertex → Bool) (k : Meeter) (kept : IsKept k c) (m : CoreState) (sessions : Option (List Session)) where
  abbrev Reacted : Meeter → Result (Unit {0}) SessionEnd → Type 0
  Reacted now result = Reacts {T = Unit {0}} c (given_vertex judge (meeting_of k c) v) (meeting_of now m) sessions sessions result

  abbrev after : CoreState
  after = after_in c v (judge v)

  abbrev next : Meeting
  next = record (meeting_of k c) { core = after }

  -- what is kept after it
  stands : m ≡ after → meeting_of k m ≡ next
  stands is = ap (meeting_of k) is ∙ ap (λ (due : List Vertex). record { stage = k.stage; core = after; refused = k.refused; theirs = k.theirs; due = due }) (due_stays c v (judge v) k.due kept.within)

  by_answer : (a : Result Receipt Cause) → answer_in c v (judge v) ≡ a → given_vertex judge (meeting_of k c) v ≡ answered next a
  by_answer a is = ap (answered next) is

  pub takes_vertex : (r : Receipt) → Takes c v (judge v) m (Ok r) → Reacted k (Ok tt)
  takes_vertex r t = subst (λ (x : Reaction Meeting). Reacts {T = Unit {0}} c x (meeting_of k m) sessions sessions (Ok tt)) (sym (by_answer (Ok r) t.0)) (refl, stands t.1, none_sent sessions)

  counted : (why : Cause) → Takes c v (judge v) m (Err (fault.Refused why)) → meeting_of (with_count k (raised k.refused)) m ≡ with_refused next
  counted why t = ap with_refused (stands (t.1 ∙ sym (refused_stays c v (judge v) why t.0)))

  pub clash_ends : (known : Rattle.hw_types.specs.declared.unit.Digest.Digest) → Takes c v (judge v) m (Err (fault.Refused (cause.Clash known))) → Reacted (with_count k (raised k.refused)) (Err end.Clash)
  clash_ends known t =
      subst (λ (x : Reaction Meeting). Reacts {T = Unit {0}} c x (meeting_of (with_count k (raised k.refused)) m) sessions sessions (Err end.Clash)) (sym (by_answer (Err (cause.Clash known)) t.0)) (refl, counted (cause.Clash known) t, none_sent sessions)

  pub refused_goes : (why : Cause) → ((known : Rattle.hw_types.specs.declared.unit.Digest.Digest) → why ≡ cause.Clash known → ⊥) → Takes c v (judge v) m (Err (fault.Refused why)) → Reacted (with_count k (raised k.refused)) (Ok tt)
  refused_goes why other t =
      subst (λ (x : Reaction Meeting). Reacts {T = Unit {0}} c x (meeting_of (with_count k (raised k.refused)) m) sessions sessions (Ok tt)) (sym (by_answer (Err why) t.0 ∙ no_clash why other)) (refl, counted why t, none_sent sessions)
    where
      no_clash : (why : Cause) → ((known : Rattle.hw_types.specs.declared.unit.Digest.Digest) → why ≡ cause.Clash known → ⊥) → answered next (Err why) ≡ Rattle.hw_meeting_node.specs.Talk.goes_on (with_refused next) []
      no_clash cause.BadSignature other = refl
      no_clash (cause.Local rule) other = refl
      no_clash (cause.Pair f) other = refl
      no_clash (cause.Clash known) other = absurd (other known refl)
      no_clash cause.RecordsFull other = refl
      no_clash cause.ParkFull other = refl
      no_clash cause.OutOfMemory other = refl

  -- whatever the answer, the core is the one behind the vertex, and nothing is said
  answered_core : (x : Meeting) (a : Result Receipt Cause) → (answered x a).state.core ≡ x.core
  answered_core x (Ok r) = refl
  answered_core x (Err cause.BadSignature) = refl
  answered_core x (Err (cause.Local rule)) = refl
  answered_core x (Err (cause.Pair f)) = refl
  answered_core x (Err (cause.Clash known)) = refl
  answered_core x (Err cause.RecordsFull) = refl
  answered_core x (Err cause.ParkFull) = refl
  answered_core x (Err cause.OutOfMemory) = refl

  answered_says : (x : Meeting) (a : Result Receipt Cause) → (answered x a).says ≡ []
  answered_says x (Ok r) = refl
  answered_says x (Err cause.BadSignature) = refl
  answered_says x (Err (cause.Local rule)) = refl
  answered_says x (Err (cause.Pair f)) = refl
  answered_says x (Err (cause.Clash known)) = refl
  answered_says x (Err cause.RecordsFull) = refl
  answered_says x (Err cause.ParkFull) = refl
  answered_says x (Err cause.OutOfMemory) = refl

  behind : m ≡ after → m ≡ (given_vertex judge (meeting_of k c) v).state.core
  behind is = is ∙ sym (answered_core next (answer_in c v (judge v)))

  pub append_failed : Takes c v (judge v) m (Err fault.AppendFault) → Reacted k (Err end.AppendFault)
  append_failed t = (behind t.1, none_sent sessions ∙ ap (λ (says : List _). after_part [] (sent_bytes says) false sessions) (sym (answered_says next (answer_in c v (judge v)))))

  pub memory_wanted : Takes c v (judge v) m (Err fault.OutOfMemory) → Reacted k (Err end.OutOfMemory)
  memory_wanted t = (elim t [ inl same ↦ inl same | inr is ↦ inr (behind is) ], [], (0, take_none (sent_bytes (given_vertex judge (meeting_of k c) v).says)), none_sent sessions)
    where
      take_none : (xs : List ℕ) → [] ≡ Rattle.std.proofs.Common.take 0 xs
      take_none [] = refl
      take_none (x ∷ xs) = refl

-- ---- what is kept

pub config_stays : (c : CoreState) (v : Vertex) (verdict : Bool) (m : CoreState) (result : Result Receipt TakeFault) → Takes c v verdict m result → m.config ≡ c.config
config_stays c v verdict m (Ok r) t = ap (λ (x : CoreState). x.config) t.1
config_stays c v verdict m (Err (fault.Refused why)) t = ap (λ (x : CoreState). x.config) t.1
config_stays c v verdict m (Err fault.AppendFault) t = ap (λ (x : CoreState). x.config) t.1
config_stays c v verdict m (Err fault.OutOfMemory) t = elim t [ inl is ↦ ap (λ (x : CoreState). x.config) is | inr is ↦ ap (λ (x : CoreState). x.config) is ]

module _ (c : CoreState) (v : Vertex) (verdict : Bool) (m : CoreState) (k now : Meeter) (taking : k.stage ≡ stage.Taking) (same : now.stage ≡ k.stage) (due : now.due ≡ k.due) (kept : IsKept k c) where
  pub kept_after : m ≡ after_in c v verdict → IsKept now m
  kept_after is = record {
    told = subst (λ (s : _). Rattle.hw_meeting_node.specs.Handling.IsTold s now.mine m) (sym (same ∙ taking)) tt;
    within = subst (λ (places : List ℕ). All (λ place. place < length m.journal) places) (sym due) (subst (λ (x : CoreState). All (λ place. place < length x.journal) k.due) (sym is) (within_stays c v verdict k.due kept.within));
  }

  pub kept_refused : (why : Cause) → Takes c v verdict m (Err (fault.Refused why)) → IsKept now m
  kept_refused why t = kept_after (t.1 ∙ sym (refused_stays c v verdict why t.0))
