-- What a session leaves is a life of the node.
use Rattle.std.specs.Prelude.{◌==◌, map}
use Rattle.std.proofs.Common.{◌≡◌, ℕ, Bool, true, false, cond, List, [], ◌∷◌, ◌++◌, length, Option, Some, None, Result, Ok, Err, refl, sym, ap, subst, ◌∙◌, arith}
use Rattle.std.proofs.lemmas.List.{take_all}
use Rattle.hw_types.specs.declared.config.Config.{Config}
use Rattle.hw_types.specs.declared.unit.Vertex.{Vertex}
use Rattle.hw_types.specs.declared.answers.Frame.{Frame}
use Rattle.hw_types.specs.declared.answers.Frame.TheVariants as frame
use Rattle.hw_types.specs.declared.answers.Receipt.{Receipt}
use Rattle.hw_types.specs.declared.answers.Receipt.TheVariants as receipt
use Rattle.hw_types.specs.declared.answers.Cause.{Cause}
use Rattle.hw_types.specs.declared.answers.Cause.TheVariants as cause
use Rattle.hw_types.specs.Graph.{digest_eq}
use Rattle.hw_types.specs.Spelling.{instance_of}
use Rattle.hw_types.specs.Journal.{Setting, is_accepted}
use Rattle.hw_types.specs.Real.{setting_of}
use Rattle.hw_keys.specs.Signed.{verdict_of}
use Rattle.hw_honest.specs.Restart.{Logged, Event, take as arrives, after_event, life_of}
use Rattle.hw_link.specs.declared.end.SessionEnd.{SessionEnd}
use Rattle.hw_link.specs.declared.end.SessionEnd.TheVariants as end
use Rattle.hw_link.specs.Frames.{Placed, frames_of}
use Rattle.hw_link.specs.Talk.{Reaction, goes_on, ends, with_reaction, talk}
use Rattle.hw_session.specs.Node.{NodeState}
use Rattle.hw_session.specs.Restart.{logged_of}
use Rattle.hw_session.specs.Accept.{given_to, taken_by}
use Rattle.hw_session.specs.Serving.{is_clash, answer_to_vertex, serve_first, serve_frame, serve_step, served}
use Rattle.hw_session.specs.Sessions.{Leaves, Serves}
use Rattle.hw_session.specs.Standing.{standing}
use Rattle.hw_session.proofs.ConfigLaws.{taken_config}
use Rattle.hw_service.specs.Meets.{after_vertex, after_all}
use Rattle.hw_run_laws.specs.Restart.{vertex_in, vertices_sent, arrivals, LivesOn, TakesSome, ServedIsALife, IsLogged, ServesIsALife}
use Rattle.hw_run_laws.specs.Taken.{behind, taken_last, taken_then, taken_over, taken_served, ServedTakesThese}
use Rattle.hw_run_laws.proofs.TakingLaws.{taken_first, takes_more}

-- ---- one life after the other

pub life_both : (s : Setting) (me : ℕ) (l : Logged) (es fs : List Event) → life_of s me l (es ++ fs) ≡ life_of s me (life_of s me l es) fs
life_both s me l [] fs = refl
life_both s me l (e ∷ es) fs = life_both s me (after_event s me l e) es fs

pub lives_nothing : (me : ℕ) (n : NodeState) → LivesOn me n [] n
lives_nothing me n = record { config = refl; keys = refl; name = refl; life = refl }

pub lives_then : (me : ℕ) (a b c : NodeState) (es fs : List Event) → LivesOn me a es b → LivesOn me b fs c → LivesOn me a (es ++ fs) c
lives_then me a b c es fs first then = record {
  config = then.config ∙ first.config;
  keys = then.keys ∙ first.keys;
  name = then.name ∙ first.name;
  life =
      then.life
      ∙ ap (λ (k : Config). life_of (setting_of k) me (logged_of b) fs) first.config
      ∙ ap (λ (l : Logged). life_of (setting_of a.core.config) me l fs) first.life
      ∙ sym (life_both (setting_of a.core.config) me (logged_of a) es fs);
}

-- ---- a vertex of the peer

taken_keys : (n : NodeState) (v : Vertex) (a : Result Receipt Cause) → (taken_by n v a).keys ≡ n.keys
taken_keys n v (Ok receipt.Repeat) = refl
taken_keys n v (Ok (receipt.Admitted k)) = refl
taken_keys n v (Ok (receipt.Parked k)) = refl
taken_keys n v (Ok (receipt.Dropped rule)) = refl
taken_keys n v (Err cause.BadSignature) = refl
taken_keys n v (Err (cause.Local rule)) = refl
taken_keys n v (Err (cause.Pair f)) = refl
taken_keys n v (Err (cause.Clash d)) = refl
taken_keys n v (Err cause.RecordsFull) = refl
taken_keys n v (Err cause.ParkFull) = refl
taken_keys n v (Err cause.OutOfMemory) = refl

taken_name : (n : NodeState) (v : Vertex) (a : Result Receipt Cause) → (taken_by n v a).log ≡ n.log
taken_name n v (Ok receipt.Repeat) = refl
taken_name n v (Ok (receipt.Admitted k)) = refl
taken_name n v (Ok (receipt.Parked k)) = refl
taken_name n v (Ok (receipt.Dropped rule)) = refl
taken_name n v (Err cause.BadSignature) = refl
taken_name n v (Err (cause.Local rule)) = refl
taken_name n v (Err (cause.Pair f)) = refl
taken_name n v (Err (cause.Clash d)) = refl
taken_name n v (Err cause.RecordsFull) = refl
taken_name n v (Err cause.ParkFull) = refl
taken_name n v (Err cause.OutOfMemory) = refl

-- an accepted vertex goes last, and no other does
abbrev with_accepted : Bool → List Vertex → Vertex → Logged
with_accepted b journal v = record { journal = cond b (journal ++ v ∷ []) journal; log = cond b (journal ++ v ∷ []) journal }

taken_logged : (n : NodeState) (v : Vertex) (a : Result Receipt Cause) → logged_of (taken_by n v a) ≡ with_accepted (is_accepted a) n.core.journal v
taken_logged n v (Ok receipt.Repeat) = refl
taken_logged n v (Ok (receipt.Admitted k)) = refl
taken_logged n v (Ok (receipt.Parked k)) = refl
taken_logged n v (Ok (receipt.Dropped rule)) = refl
taken_logged n v (Err cause.BadSignature) = refl
taken_logged n v (Err (cause.Local rule)) = refl
taken_logged n v (Err (cause.Pair f)) = refl
taken_logged n v (Err (cause.Clash d)) = refl
taken_logged n v (Err cause.RecordsFull) = refl
taken_logged n v (Err cause.ParkFull) = refl
taken_logged n v (Err cause.OutOfMemory) = refl

lives_one : (me : ℕ) (n : NodeState) (v : Vertex) → LivesOn me n (arrivals n (v ∷ [])) (taken_by n v (given_to n v))
unfolding after_event
lives_one me n v = record { config = taken_config n v (given_to n v); keys = taken_keys n v (given_to n v); name = taken_name n v (given_to n v); life = taken_logged n v (given_to n v) }

-- ---- the first of some vertices

pub takes_none : (n : NodeState) (vs : List Vertex) → TakesSome n vs n
takes_none n vs = (0, λ me. lives_nothing me n)

pub lives_taken : (me : ℕ) (n m : NodeState) (v : Vertex) → m ≡ taken_by n v (given_to n v) → LivesOn me n (arrivals n (v ∷ [])) m
lives_taken me n m v is = subst (λ (k : NodeState). LivesOn me n (arrivals n (v ∷ [])) k) (sym is) (lives_one me n v)

pub takes_one : (n m : NodeState) (v : Vertex) (vs : List Vertex) → m ≡ taken_by n v (given_to n v) → TakesSome n (v ∷ vs) m
takes_one n m v vs is = (1, λ me. lives_taken me n m v is)

-- ---- all of some vertices

-- each reaches the node in its turn, with the verdict of its keys
pub all_live : (me : ℕ) (n : NodeState) (vs : List Vertex) → LivesOn me n (arrivals n vs) (after_all n vs)
all_live me n [] = lives_nothing me n
all_live me n (v ∷ vs) =
    let m = after_vertex n v in
    let first = lives_taken me n m v refl in
    let P : List (List ℕ) → Type 0 = λ keys. LivesOn me m (map (λ (w : Vertex). arrives w (verdict_of keys w)) vs) (after_all m vs) in
    lives_then me n m (after_all m vs) (arrivals n (v ∷ [])) (arrivals n vs) first (subst P first.keys (all_live me m vs))

pub takes_all : (n m : NodeState) (vs : List Vertex) → m ≡ after_all n vs → TakesSome n vs m
takes_all n m vs is = (
  length vs,
  λ me.
      let all = subst (λ (k : NodeState). LivesOn me n (arrivals n vs) k) (sym is) (all_live me n vs) in
      subst (λ (ws : List Vertex). LivesOn me n (arrivals n ws) m) (sym (take_all (length vs) vs (omega arith))) all,
)

-- ---- frame by frame

-- the node behind a vertex, if there is one
abbrev pub after_one : NodeState → Option Vertex → NodeState
after_one n None = n
after_one n (Some v) = after_vertex n v

-- what is taken of the frame is what leads from the one node to the other
abbrev pub Leads : NodeState → Frame → NodeState → Option SessionEnd → Type 0
Leads n f m None = m ≡ after_one n (vertex_in f)
Leads n f m (Some e) = m ≡ after_all n (taken_last f e)

after_both : (n : NodeState) (o : Option Vertex) (vs : List Vertex) → after_all (after_one n o) vs ≡ after_all n (behind o vs)
after_both n None vs = refl
after_both n (Some v) vs = refl

module _ {S : Type 0} (IsState : S → Type 0) (node : S → NodeState) (step : S → Placed → Reaction S) (states : (s : S) (f : Placed) → IsState s → IsState (step s f).state) (leads : (s : S) (f : Placed) → IsState s → Leads (node s) f.frame (node (step s f).state) (step s f).end) where
  pub talk_leads : (end : SessionEnd) (s : S) (fs : List Placed) → IsState s → node (talk step end s fs).state ≡ after_all (node s) (taken_over step s fs)
  unfolding talk taken_over
  talk_leads end s [] is = refl
  talk_leads end s (f ∷ fs) is = go (talk_leads end (step s f).state fs (states s f is)) (step s f).end (leads s f is)
    where
      rest : List Vertex
      rest = taken_over step (step s f).state fs

      go : node (talk step end (step s f).state fs).state ≡ after_all (node (step s f).state) rest → (o : Option SessionEnd) → Leads (node s) f.frame (node (step s f).state) o
          → node (with_reaction (record { state = (step s f).state; says = (step s f).says; end = o }) (λ t. talk step end t fs)).state ≡ after_all (node s) (taken_then f.frame o rest)
      go others (Some e) lead = lead
      go others None lead = others ∙ ap (λ (k : NodeState). after_all k rest) lead ∙ after_both (node s) (vertex_in f.frame) rest

-- ---- serving

answer_leads : (n : NodeState) (v : Vertex) (a : Result Receipt Cause) → Leads n (frame.Vertex v) (answer_to_vertex (after_vertex n v) v a).state (answer_to_vertex (after_vertex n v) v a).end
answer_leads n v (Ok r) = refl
answer_leads n v (Err c) = go (is_clash c)
  where
    either : Bool → Reaction NodeState
    either b = cond b (ends (after_vertex n v) [] end.Clash) (goes_on (after_vertex n v) (frame.Want [] ∷ []))

    go : (b : Bool) → Leads n (frame.Vertex v) (either b).state (either b).end
    go true = refl
    go false = refl

first_leads : (n : NodeState) (f : Frame) → Leads n f (serve_first n f).state (serve_first n f).end
first_leads n (frame.Hello instance) = go (digest_eq instance (instance_of n.core.config))
  where
    either : Bool → Reaction NodeState
    either b = cond b (goes_on n (frame.Hello (instance_of n.core.config) ∷ [])) (ends n [] end.WrongInstance)

    go : (b : Bool) → Leads n (frame.Hello instance) (either b).state (either b).end
    go true = refl
    go false = refl
first_leads n (frame.Vertex v) = refl
first_leads n (frame.Have place) = refl
first_leads n (frame.Want needs) = refl
first_leads n frame.Done = refl
first_leads n (frame.Missing need) = refl

frame_leads : (n : NodeState) (at : ℕ) (f : Frame) → Leads n f (serve_frame n at f).state (serve_frame n at f).end
frame_leads n at (frame.Hello instance) = refl
frame_leads n at (frame.Vertex v) = answer_leads n v (given_to n v)
frame_leads n at (frame.Have place) = refl
frame_leads n at (frame.Want needs) = refl
frame_leads n at (frame.Missing need) = refl
frame_leads n at frame.Done = refl

serve_leads : (n : NodeState) (f : Placed) → Leads n f.frame (serve_step n f).state (serve_step n f).end
unfolding serve_step
serve_leads n f = go (f.at == 0)
  where
    go : (b : Bool) → Leads n f.frame (cond b (serve_first n f.frame) (serve_frame n f.at f.frame)).state (cond b (serve_first n f.frame) (serve_frame n f.at f.frame)).end
    go true = first_leads n f.frame
    go false = frame_leads n f.at f.frame

-- the vertices that it takes are handed to it, and they are the first
pub served_these : ServedTakesThese
served_these n bytes = (
  talk_leads (λ (m : NodeState). Unit {0}) (λ (m : NodeState). m) serve_step (λ m f is. tt) (λ m f is. serve_leads m f) (frames_of bytes).end n (frames_of bytes).given tt,
  taken_first serve_step n (frames_of bytes).given,
)

pub served_takes : (n : NodeState) (bytes : List ℕ) → TakesSome n (taken_served n bytes) (served n bytes).state
served_takes n bytes = takes_all n (served n bytes).state (taken_served n bytes) (served_these n bytes).0

pub served_life : ServedIsALife
served_life n bytes = takes_more n (served n bytes).state (taken_served n bytes) (vertices_sent bytes) (served_these n bytes).1 (served_takes n bytes)

-- ---- sessions that took place

pub serves_takes : (n m : NodeState) (read written : List ℕ) (tells : Bool) (held_old held_new : List ℕ → Option (List ℕ)) (ends_old ends_new : ℕ) (e : SessionEnd)
    → Serves tells (standing n held_old) read written (standing m held_new) ends_old ends_new e → IsLogged e → TakesSome n (taken_served n read) m
serves_takes n m read written tells held_old held_new ends_old ends_new e s logged = go e logged s.left
  where
    whole : m ≡ (served n read).state → TakesSome n (taken_served n read) m
    whole is = subst (λ (k : NodeState). TakesSome n (taken_served n read) k) (sym is) (served_takes n read)

    go : (e : SessionEnd) → IsLogged e → Leaves e tells (standing n held_old) read written (standing m held_new) → TakesSome n (taken_served n read) m
    go end.Done logged left = whole left.0
    go end.EndOfInput logged left = whole left.0
    go end.WrongInstance logged left = whole left.0
    go (end.BadFrame at) logged left = whole left.0
    go end.LinkFault logged left = whole left.0
    go end.ByteLimit logged left = whole left.0
    go end.Clash logged left = whole left.0
    go end.AppendFault logged left = absurd logged
    go end.OutOfMemory logged left = absurd logged

pub serves_life : ServesIsALife
serves_life n m read written tells held_old held_new ends_old ends_new e s logged =
    takes_more n m (taken_served n read) (vertices_sent read) (served_these n read).1 (serves_takes n m read written tells held_old held_new ends_old ends_new e s logged)
