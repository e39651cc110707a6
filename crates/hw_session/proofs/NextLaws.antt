-- A frame of a session, and what a node does at it.
use Rattle.std.specs.Prelude.{◌==◌}
use Rattle.std.proofs.Common.{◌≡◌, ◌≢◌, ℕ, Bool, true, false, cond, List, [], ◌∷◌, Option, Some, None, Result, Ok, Err, refl, sym, ap, subst, ◌∙◌, eq-eqb}
use Rattle.std.proofs.lemmas.Bool.{ne_eqb}
use Rattle.hw_types.specs.declared.unit.Digest.{Digest}
use Rattle.hw_types.specs.declared.unit.Need.{Need}
use Rattle.hw_types.specs.Real.{CoreState}
use Rattle.hw_types.specs.declared.answers.Frame.{Frame}
use Rattle.hw_types.specs.declared.answers.Frame.TheVariants as frame
use Rattle.hw_types.specs.Graph.{digest_eq}
use Rattle.hw_types.specs.Spelling.{instance_of}
use Rattle.hw_io.specs.Doors.{Session}
use Rattle.hw_link.specs.declared.end.SessionEnd.{SessionEnd}
use Rattle.hw_link.specs.declared.end.SessionEnd.TheVariants as end
use Rattle.hw_link.specs.declared.read.Heard.{Heard}
use Rattle.hw_link.specs.Frames.{framed, sent_bytes}
use Rattle.hw_link.specs.Talk.{Reaction, goes_on, ends}
use Rattle.hw_link.specs.Links.{after_part}
use Rattle.hw_link.specs.Heard.{Hears, IsHeard}
use Rattle.hw_link.specs.Sent.{Sends}
use Rattle.hw_link.specs.Told.{door_told}
use Rattle.hw_session.specs.Node.{NodeState}
use Rattle.hw_session.specs.Serving.{answer_to_have, answer_to_want, serve_first, serve_frame, serve_step}
use Rattle.hw_session.specs.Handling.{Reacts, Answers, IsOfOther, hello_of, Handles}
use Rattle.hw_session.specs.Standing.{standing}
use Rattle.hw_session.proofs.ReactLaws.{one_sent, none_sent, sends_answers, sends_ends, stays_reacts}

-- ---- a frame that was read, and then answered

-- an end is the same whatever the value would be
pub reacts_alike : (A B : Type 0) (n : NodeState) (f : Frame) (r : Reaction NodeState) (m : NodeState) (tells : Bool) (held_old held_new : List ℕ → Option (List ℕ)) (old new : Option (List Session)) (e : SessionEnd)
    → Reacts {T = A} tells (standing n held_old) f r (standing m held_new) old new (Err e) → Reacts {T = B} tells (standing n held_old) f r (standing m held_new) old new (Err e)
reacts_alike A B n f r m tells held_old held_new old new end.Done x = x
reacts_alike A B n f r m tells held_old held_new old new end.EndOfInput x = x
reacts_alike A B n f r m tells held_old held_new old new end.WrongInstance x = x
reacts_alike A B n f r m tells held_old held_new old new (end.BadFrame at) x = x
reacts_alike A B n f r m tells held_old held_new old new end.LinkFault x = x
reacts_alike A B n f r m tells held_old held_new old new end.AppendFault x = x
reacts_alike A B n f r m tells held_old held_new old new end.ByteLimit x = x
reacts_alike A B n f r m tells held_old held_new old new end.Clash x = x
reacts_alike A B n f r m tells held_old held_new old new end.OutOfMemory x = x

module _ (n : NodeState) (place : ℕ) (m : NodeState) (tells : Bool) (held_old held_new : List ℕ → Option (List ℕ)) (old mid new : Option (List Session)) (ends_old ends_mid ends_new : ℕ) (h : Heard)
    (heard : Hears {T = Heard} IsHeard place [] old mid ends_old ends_mid (Ok h)) (same : ends_new ≡ ends_mid) where
  abbrev reaction : Reaction NodeState
  reaction = serve_step n (record { at = place; frame = h.frame })

  pub handles_whole : Reacts {T = Unit {0}} tells (standing n held_old) h.frame reaction (standing m held_new) mid new (Ok tt) → Handles tells (standing n held_old) place (standing m held_new) (door_told old ends_old) (door_told new ends_new) (Ok h.next)
  handles_whole reacts = record {
    part = heard.part;
    frame = h.frame;
    has = heard.says.0;
    within = heard.within;
    ends = same ∙ heard.ended;
    next = heard.says.1;
    reacts = subst (λ (o : Option (List Session)). Reacts {T = ℕ} tells (standing n held_old) h.frame reaction (standing m held_new) o new (Ok h.next)) heard.heard reacts;
  }

  pub handles_end : (e : SessionEnd) → Reacts {T = Unit {0}} tells (standing n held_old) h.frame reaction (standing m held_new) mid new (Err e) → Handles tells (standing n held_old) place (standing m held_new) (door_told old ends_old) (door_told new ends_new) (Err e)
  handles_end e reacts = record {
    part = heard.part;
    frame = h.frame;
    has = heard.says.0;
    within = heard.within;
    ends = same ∙ heard.ended;
    next = tt;
    reacts = subst (λ (o : Option (List Session)). Reacts {T = ℕ} tells (standing n held_old) h.frame reaction (standing m held_new) o new (Err e)) heard.heard (reacts_alike (Unit {0}) ℕ n h.frame reaction m tells held_old held_new mid new e reacts);
  }

-- ---- the first frame and the others

step_by : (n : NodeState) (place : ℕ) (f : Frame) (b : Bool) → (place == 0) ≡ b → serve_step n (record { at = place; frame = f }) ≡ cond b (serve_first n f) (serve_frame n place f)
unfolding serve_step
step_by n place f b is = ap (λ (x : Bool). cond x (serve_first n f) (serve_frame n place f)) is

hello_by : (n : NodeState) (instance : Digest) (b : Bool) → digest_eq instance (instance_of n.core.config) ≡ b
    → serve_first n (frame.Hello instance) ≡ cond b (goes_on n (frame.Hello (instance_of n.core.config) ∷ [])) (ends n [] end.WrongInstance)
hello_by n instance b is = ap (λ (x : Bool). cond x (goes_on n (frame.Hello (instance_of n.core.config) ∷ [])) (ends n [] end.WrongInstance)) is

first_stays : (n : NodeState) (f : Frame) → n ≡ (serve_first n f).state
first_stays n (frame.Hello instance) = go (digest_eq instance (instance_of n.core.config)) refl
  where
    go : (b : Bool) → digest_eq instance (instance_of n.core.config) ≡ b → n ≡ (serve_first n (frame.Hello instance)).state
    go true is = sym (ap (λ (r : Reaction NodeState). r.state) (hello_by n instance true is))
    go false is = sym (ap (λ (r : Reaction NodeState). r.state) (hello_by n instance false is))
first_stays n (frame.Vertex v) = refl
first_stays n (frame.Have place) = refl
first_stays n (frame.Want needs) = refl
first_stays n frame.Done = refl
first_stays n (frame.Missing need) = refl

module _ (n : NodeState) (place : ℕ) (f : Frame) (tells : Bool) (held_old held_new : List ℕ → Option (List ℕ)) (old new : Option (List Session)) (result : Result (Unit {0}) SessionEnd) where
  abbrev step : Reaction NodeState
  step = serve_step n (record { at = place; frame = f })

  -- what is answered to the first frame
  pub first_reacts : place ≡ 0 → Answers {T = Unit {0}} (serve_first n f) old new result → Reacts {T = Unit {0}} tells (standing n held_old) f step (standing n held_old) old new result
  first_reacts first a =
      subst (λ (r : Reaction NodeState). Reacts {T = Unit {0}} tells (standing n held_old) f r (standing n held_old) old new result) (sym (step_by n place f true (eq-eqb place 0 first)))
      (stays_reacts (Unit {0}) n f (serve_first n f) tells held_old old new result (first_stays n f) a)

  -- and to another
  pub later_reacts : (m : NodeState) → place ≢ 0 → Reacts {T = Unit {0}} tells (standing n held_old) f (serve_frame n place f) (standing m held_new) old new result → Reacts {T = Unit {0}} tells (standing n held_old) f step (standing m held_new) old new result
  later_reacts m later a =
      subst (λ (r : Reaction NodeState). Reacts {T = Unit {0}} tells (standing n held_old) f r (standing m held_new) old new result) (sym (step_by n place f false (ne_eqb place 0 later))) a

-- ---- a Hello

pub hello_answers : (n : NodeState) (instance : Digest) (old new : Option (List Session)) (result : Result (Unit {0}) SessionEnd) → digest_eq instance (instance_of n.core.config) ≡ true → Sends {T = Unit {0}} (framed (frame.Hello (instance_of n.core.config))) old new result
    → Answers {T = Unit {0}} (serve_first n (frame.Hello instance)) old new result
hello_answers n instance old new result is s =
    subst (λ (r : Reaction NodeState). Answers {T = Unit {0}} r old new result) (sym (hello_by n instance true is))
    (sends_answers (goes_on n (frame.Hello (instance_of n.core.config) ∷ [])) old new result refl
    (subst (λ (bytes : List ℕ). Sends {T = Unit {0}} bytes old new result) (one_sent (frame.Hello (instance_of n.core.config))) s))

-- nothing is answered to a peer of another instance, or without memory
pub other_ends : (n : NodeState) (peers : Digest) (old : Option (List Session)) (e : SessionEnd) → IsOfOther n peers e → Answers {T = Unit {0}} (serve_first n (frame.Hello peers)) old old (Err e)
other_ends n peers old end.WrongInstance other = subst (λ (r : Reaction NodeState). Answers {T = Unit {0}} r old old (Err end.WrongInstance)) (sym (hello_by n peers false other)) (refl, none_sent old)
other_ends n peers old end.OutOfMemory other = ([], (0, refl), none_sent old)
other_ends n peers old end.Done other = absurd other
other_ends n peers old end.EndOfInput other = absurd other
other_ends n peers old (end.BadFrame at) other = absurd other
other_ends n peers old end.LinkFault other = absurd other
other_ends n peers old end.AppendFault other = absurd other
other_ends n peers old end.ByteLimit other = absurd other
other_ends n peers old end.Clash other = absurd other

-- ---- Done

pub done_sent : (n : NodeState) (place : ℕ) (old new : Option (List Session)) → Sends {T = Unit {0}} (framed frame.Done) old new (Ok tt) → Answers {T = Unit {0}} (serve_frame n place frame.Done) old new (Err end.Done)
done_sent n place old new s = (refl, s.told ∙ ap (λ (part : List ℕ). after_part [] part false old) (s.whole ∙ one_sent frame.Done))

pub done_unsent : (n : NodeState) (place : ℕ) (old new : Option (List Session)) (e : SessionEnd) → Sends {T = Unit {0}} (framed frame.Done) old new (Err e) → Answers {T = Unit {0}} (serve_frame n place frame.Done) old new (Err e)
done_unsent n place old new e s =
    sends_ends (Unit {0}) (serve_frame n place frame.Done) old new e (subst (λ (bytes : List ℕ). Sends {T = Unit {0}} bytes old new (Err e)) (one_sent frame.Done) s)

-- ---- the other frames

module _ (n : NodeState) (place : ℕ) (tells : Bool) (held : List ℕ → Option (List ℕ)) where
  pub hello_refused : (instance : Digest) (old : Option (List Session)) → Reacts {T = Unit {0}} tells (standing n held) (frame.Hello instance) (serve_frame n place (frame.Hello instance)) (standing n held) old old (Err (end.BadFrame place))
  hello_refused instance old = stays_reacts (Unit {0}) n (frame.Hello instance) (serve_frame n place (frame.Hello instance)) tells held old old (Err (end.BadFrame place)) refl (refl, none_sent old)

  pub missing_passed : (need : Need) (old : Option (List Session)) → Reacts {T = Unit {0}} tells (standing n held) (frame.Missing need) (serve_frame n place (frame.Missing need)) (standing n held) old old (Ok tt)
  missing_passed need old = stays_reacts (Unit {0}) n (frame.Missing need) (serve_frame n place (frame.Missing need)) tells held old old (Ok tt) refl (refl, none_sent old)

  pub have_reacts : (c : CoreState) (from : ℕ) (old new : Option (List Session)) (result : Result (Unit {0}) SessionEnd) → c ≡ n.core → Sends {T = Unit {0}} (sent_bytes (answer_to_have c.journal from)) old new result
      → Reacts {T = Unit {0}} tells (standing n held) (frame.Have from) (serve_frame n place (frame.Have from)) (standing n held) old new result
  have_reacts c from old new result same s =
      stays_reacts (Unit {0}) n (frame.Have from) (serve_frame n place (frame.Have from)) tells held old new result refl
      (sends_answers (serve_frame n place (frame.Have from)) old new result refl (subst (λ (k : CoreState). Sends {T = Unit {0}} (sent_bytes (answer_to_have k.journal from)) old new result) same s))

  pub want_reacts : (c : CoreState) (needs : List Need) (old new : Option (List Session)) (result : Result (Unit {0}) SessionEnd) → c ≡ n.core → Sends {T = Unit {0}} (sent_bytes (answer_to_want c needs)) old new result
      → Reacts {T = Unit {0}} tells (standing n held) (frame.Want needs) (serve_frame n place (frame.Want needs)) (standing n held) old new result
  want_reacts c needs old new result same s =
      stays_reacts (Unit {0}) n (frame.Want needs) (serve_frame n place (frame.Want needs)) tells held old new result refl
      (sends_answers (serve_frame n place (frame.Want needs)) old new result refl (subst (λ (k : CoreState). Sends {T = Unit {0}} (sent_bytes (answer_to_want k needs)) old new result) same s))

  pub done_reacts : (old new : Option (List Session)) (result : Result (Unit {0}) SessionEnd) → Answers {T = Unit {0}} (serve_frame n 1 frame.Done) old new result → Reacts {T = Unit {0}} tells (standing n held) frame.Done (serve_frame n place frame.Done) (standing n held) old new result
  done_reacts old new result a = stays_reacts (Unit {0}) n frame.Done (serve_frame n place frame.Done) tells held old new result refl a

-- ---- a first frame, by the instance of a Hello

pub some_hello : (n : NodeState) (f : Frame) (instance : Digest) (old new : Option (List Session)) (result : Result (Unit {0}) SessionEnd) → hello_of f ≡ Some instance → Answers {T = Unit {0}} (serve_first n (frame.Hello instance)) old new result
    → Answers {T = Unit {0}} (serve_first n f) old new result
some_hello n (frame.Hello i) instance old new result is a = let same : i ≡ instance = cc in subst (λ (x : Digest). Answers {T = Unit {0}} (serve_first n (frame.Hello x)) old new result) (sym same) a
some_hello n (frame.Vertex v) instance old new result is a = absurd cc
some_hello n (frame.Have place) instance old new result is a = absurd cc
some_hello n (frame.Want needs) instance old new result is a = absurd cc
some_hello n frame.Done instance old new result is a = absurd cc
some_hello n (frame.Missing need) instance old new result is a = absurd cc

pub no_hello : (n : NodeState) (f : Frame) (old : Option (List Session)) → hello_of f ≡ None → Answers {T = Unit {0}} (serve_first n f) old old (Err (end.BadFrame 0))
no_hello n (frame.Hello i) old is = absurd cc
no_hello n (frame.Vertex v) old is = (refl, none_sent old)
no_hello n (frame.Have place) old is = (refl, none_sent old)
no_hello n (frame.Want needs) old is = (refl, none_sent old)
no_hello n frame.Done old is = (refl, none_sent old)
no_hello n (frame.Missing need) old is = (refl, none_sent old)
