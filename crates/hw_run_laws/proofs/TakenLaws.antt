-- A peer's vertex that a node takes.
use Rattle.std.specs.Prelude.{IsSome}
use Rattle.std.proofs.Common.{◌≡◌, ℕ, ◌<◌, ◌≤◌, Bool, true, false, cond, List, [], ◌∷◌, ◌++◌, length, Option, Result, Ok, Err, refl, sym, ap, subst, ◌∙◌, arith}
use Rattle.std.proofs.lemmas.List.{append-nil}
use Rattle.hw_types.specs.declared.unit.Vertex.{Vertex}
use Rattle.hw_types.specs.declared.answers.Frame.{Frame}
use Rattle.hw_types.specs.declared.answers.Frame.TheVariants as frame
use Rattle.hw_types.specs.declared.answers.Receipt.{Receipt}
use Rattle.hw_types.specs.declared.answers.Receipt.TheVariants as receipt
use Rattle.hw_types.specs.declared.answers.Cause.{Cause}
use Rattle.hw_types.specs.declared.answers.Cause.TheVariants as cause
use Rattle.hw_types.specs.Below.{Among}
use Rattle.hw_types.specs.Journal.{is_accepted}
use Rattle.hw_types.specs.Real.{setting_of}
use Rattle.hw_types.specs.Spelling.{frame_bytes, VertexFits}
use Rattle.hw_codec.specs.Ranges.{VertexInRange}
use Rattle.hw_io.specs.Faults.{raised}
use Rattle.hw_io.specs.Files.{bytes_of}
use Rattle.hw_honest.specs.Restart.{AreFair}
use Rattle.hw_link.specs.declared.end.SessionEnd.{SessionEnd}
use Rattle.hw_link.specs.declared.end.SessionEnd.TheVariants as end
use Rattle.hw_link.specs.Frames.{framed, byte_limit}
use Rattle.hw_link.specs.Talk.{Reaction, Talk, goes_on, ends, said_bytes}
use Rattle.hw_link.specs.UnderWay.{HasHeard, placed_behind}
use Rattle.hw_link.proofs.HeardLaws.{reads_frame_by_frame}
use Rattle.hw_session.specs.Node.{NodeState, IsSound}
use Rattle.hw_session.specs.Make.{entry_for, with_entry}
use Rattle.hw_session.specs.Accept.{given_to, refused_by, taken_by}
use Rattle.hw_session.specs.Grows.{Gains, Logs}
use Rattle.hw_session.specs.Restart.{logged_of}
use Rattle.hw_session.specs.Serving.{wanted_by, is_clash, answer_to_vertex, serve_step, served}
use Rattle.hw_session.specs.Sessions.{Serves}
use Rattle.hw_session.specs.Standing.{Standing, standing}
use Rattle.hw_session.proofs.GrowsLaws.{gains_one, logs_counts}
use Rattle.hw_run_laws.specs.Calls.{serves, IsFairServed, IsReady}
use Rattle.hw_run_laws.specs.Members.{HoldsNone, IsTaken, VerticesAreTaken}
use Rattle.hw_run_laws.specs.Restart.{arrivals, IsLogged}
use Rattle.hw_run_laws.specs.Taken.{taken_served}
use Rattle.hw_run_laws.proofs.AttemptLaws.{takes_fairly, lives_soundly}
use Rattle.hw_run_laws.proofs.LifeLaws.{serves_takes}
use Rattle.hw_run_laws.proofs.GivenLaws.{put_there, put_others, files_after, each_by}
use Rattle.hw_run_laws.proofs.ShortLaws.{hello, heard_hello, read, long, has_second, further_second, second, sent, ends_here, serves_so}
use Rattle.hw_run_laws.proofs.StartLaws.{each_fits}
use Rattle.hw_run_laws.proofs.TakingLaws.{fair_served}

-- ---- what is left

module _ (n : NodeState) (v : Vertex) (held : List ℕ → Option (List ℕ)) where
  abbrev Left : Result Receipt Cause → Type 0
  Left a = Logs n (taken_by n v a) true held (files_after n v held (is_accepted a))

  pub logs_entry : Logs n (with_entry n v) true held (files_after n v held true)
  logs_entry = record {
    vertices = v ∷ [];
    gains = gains_one n v;
    log = λ told. record {
      holds = ap bytes_of (put_there held n.log (bytes_of (held n.log) ++ entry_for n v)) ∙ ap (λ (bytes : List ℕ). bytes_of (held n.log) ++ bytes) (sym (append-nil (entry_for n v)));
      stays = λ there. subst (λ (file : Option (List ℕ)). IsSome file) (sym (put_there held n.log (bytes_of (held n.log) ++ entry_for n v))) refl;
      others = put_others held n.log (bytes_of (held n.log) ++ entry_for n v);
    };
  }

  logs_none : (m : NodeState) → Gains n [] m → Logs n m true held held
  logs_none m gains = logs_counts true n m held held gains (λ told name. refl)

  left_by : (a : Result Receipt Cause) → Left a
  left_by (Ok (receipt.Admitted k)) = logs_entry
  left_by (Ok (receipt.Parked k)) = logs_entry
  left_by (Ok (receipt.Dropped rule)) = logs_entry
  left_by (Ok receipt.Repeat) = logs_none (record n { repeats = raised n.repeats }) (record { journal = sym (append-nil n.core.journal); lasts = refl; name = refl })
  left_by (Err cause.BadSignature) = logs_none (refused_by n v cause.BadSignature) (record { journal = sym (append-nil n.core.journal); lasts = refl; name = refl })
  left_by (Err (cause.Local rule)) = logs_none (refused_by n v (cause.Local rule)) (record { journal = sym (append-nil n.core.journal); lasts = refl; name = refl })
  left_by (Err (cause.Pair f)) = logs_none (refused_by n v (cause.Pair f)) (record { journal = sym (append-nil n.core.journal); lasts = refl; name = refl })
  left_by (Err (cause.Clash d)) = logs_none (refused_by n v (cause.Clash d)) (record { journal = sym (append-nil n.core.journal); lasts = refl; name = refl })
  left_by (Err cause.RecordsFull) = logs_none (refused_by n v cause.RecordsFull) (record { journal = sym (append-nil n.core.journal); lasts = refl; name = refl })
  left_by (Err cause.ParkFull) = logs_none (refused_by n v cause.ParkFull) (record { journal = sym (append-nil n.core.journal); lasts = refl; name = refl })
  left_by (Err cause.OutOfMemory) = logs_none (refused_by n v cause.OutOfMemory) (record { journal = sym (append-nil n.core.journal); lasts = refl; name = refl })

-- ---- the session

module _ (me : ℕ) (a : Standing) (v : Vertex) (range : VertexInRange v) (fits : VertexFits v) (few : length (frame_bytes (frame.Vertex v)) ≤ 1048576) (apart : HoldsNone me v) where
  abbrev n : NodeState
  n = a.node

  abbrev f : Frame
  f = frame.Vertex v

  some : 1 ≤ length (frame_bytes f)
  some = omega arith

  abbrev bytes : List ℕ
  bytes = read n f range fits some few

  abbrev given : Result Receipt Cause
  given = given_to n v

  abbrev m : NodeState
  m = taken_by n v given

  abbrev held : List ℕ → Option (List ℕ)
  held = files_after n v a.held (is_accepted given)

  logs : Logs n m true a.held held
  logs = left_by n v a.held given

  fair : IsFairServed me n bytes
  fair = fair_served me n bytes (subst (λ (vs : List Vertex). AreFair (setting_of n.core.config) me (logged_of n) (arrivals n vs)) (sym (sent n f range fits some few)) (λ accepted x there own. absurd (apart x there own), tt))

  abbrev Is : Type 0
  Is = IsTaken me a v

  short : length bytes ≤ 1048617
  short = long n f range fits some few

  -- each vertex behind it is in range and fits
  each : IsSound n → (w : Vertex) → Among w m.core.journal → VertexInRange w × VertexFits w
  each sound = each_by n v (λ (w : Vertex). VertexInRange w × VertexFits w) (each_fits n sound) (range, fits) given

  sound_behind : (written : List ℕ) (ends : ℕ) (e : SessionEnd) → Serves true (standing n a.held) bytes written (standing m held) 0 ends e → IsLogged e → me < length n.core.config.weights → IsSound n → IsReady me a → IsSound m
  sound_behind written ends e does logged validator sound ready =
      lives_soundly me n sound validator ready.line m (takes_fairly me n m (taken_served n bytes) fair (serves_takes n m bytes written true a.held held 0 ends e does logged)) (each sound)

  -- the session goes on, and the peer hangs up
  goes : (says : List Frame) → serve_step n (placed_behind (framed (hello n)) f) ≡ goes_on m says → Is
  goes says is =
      let size = short in
      let said = [] ∷ (hello n ∷ []) ∷ says ∷ [] in
      let heard = subst (λ (r : Reaction NodeState). HasHeard [] serve_step n bytes ([] ∷ (hello n ∷ []) ∷ r.says ∷ []) r.state) is
      ((reads_frame_by_frame NodeState).leads_on serve_step [] n (framed (hello n)) ([] ∷ (hello n ∷ []) ∷ []) n (framed f) f (heard_hello n) (has_second n f range fits some few) (ap (λ (r : Reaction NodeState). r.end) is)) in
      let whole : served n bytes ≡ record { state = m; said = said; end = end.EndOfInput } =
      ap (served n) (sym (append-nil bytes))
      ∙ (reads_frame_by_frame NodeState).no_frame_ends serve_step [] n bytes said m [] end.EndOfInput heard (ends_here (length bytes) (omega (arith, size)))
      (subst (λ (b : List ℕ). length b ≤ byte_limit) (sym (append-nil bytes)) (omega (arith, size))) in
      let does = serves_so n m a.held held bytes said (raised 0) end.EndOfInput whole tt (omega (arith, size)) refl (further_second n f range fits some few) (ap (λ (t : Talk NodeState). t.state) (sym whole), logs) in
      record {
        next = record { node = m; held = held };
        attempt = serves bytes (said_bytes said) 0 (raised 0) end.EndOfInput does fair;
        whole = tt;
        takes = refl;
        sound = sound_behind (said_bytes said) (raised 0) end.EndOfInput does tt;
      }

  -- or it ends by a clash
  clashes : serve_step n (placed_behind (framed (hello n)) f) ≡ ends m [] end.Clash → Is
  clashes is =
      let size = short in
      let said = [] ∷ (hello n ∷ []) ∷ [] ∷ [] in
      let over = (reads_frame_by_frame NodeState).frame_ends serve_step [] n (framed (hello n)) ([] ∷ (hello n ∷ []) ∷ []) n (framed f) f end.Clash (heard_hello n) (has_second n f range fits some few)
      (ap (λ (r : Reaction NodeState). r.end) is) [] (subst (λ (part : List ℕ). length (framed (hello n) ++ part) ≤ byte_limit) (sym (append-nil (framed f))) (omega (arith, size))) in
      let whole : served n bytes ≡ record { state = m; said = said; end = end.Clash } =
      ap (λ (part : List ℕ). served n (framed (hello n) ++ part)) (sym (append-nil (framed f)))
      ∙ over
      ∙ ap (λ (r : Reaction NodeState). record { state = r.state; said = [] ∷ (hello n ∷ []) ∷ r.says ∷ []; end = end.Clash }) is in
      let does = serves_so n m a.held held bytes said 0 end.Clash whole tt (omega (arith, size)) tt (further_second n f range fits some few) (ap (λ (t : Talk NodeState). t.state) (sym whole), logs) in
      record {
        next = record { node = m; held = held };
        attempt = serves bytes (said_bytes said) 0 0 end.Clash does fair;
        whole = tt;
        takes = refl;
        sound = sound_behind (said_bytes said) 0 end.Clash does tt;
      }

  by_answer : (x : Result Receipt Cause) → serve_step n (placed_behind (framed (hello n)) f) ≡ answer_to_vertex m v x → Is
  by_answer (Ok r) is = goes (frame.Want (wanted_by m.core r v) ∷ []) is
  by_answer (Err c) is = go (is_clash c) is
    where
      go : (b : Bool) → serve_step n (placed_behind (framed (hello n)) f) ≡ cond b (ends m [] end.Clash) (goes_on m (frame.Want [] ∷ [])) → Is
      go true same = clashes same
      go false same = goes (frame.Want [] ∷ []) same

  is_taken : Is
  is_taken = by_answer given (second n f range fits some few)

pub vertices_taken : VerticesAreTaken
vertices_taken = is_taken
