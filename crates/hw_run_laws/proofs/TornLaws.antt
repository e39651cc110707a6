-- A vertex whose append fails, and a start from the log mended.
use Rattle.std.specs.Prelude.{IsSome}
use Rattle.std.proofs.Common.{◌≡◌, ℕ, true, List, ◌++◌, take, Option, Some, None, Err, inl, inr, refl, sym, ap, subst, ◌∙◌}
use Rattle.hw_types.specs.declared.unit.Vertex.{Vertex}
use Rattle.hw_types.specs.declared.config.Config.{Config}
use Rattle.hw_types.specs.declared.answers.Plan.{Plan}
use Rattle.hw_types.specs.declared.answers.Receipt.{Receipt}
use Rattle.hw_types.specs.Journal.{is_accepted}
use Rattle.hw_types.specs.Real.{answer_in}
use Rattle.hw_types.specs.Spelling.{VertexFits}
use Rattle.hw_io.specs.Files.{bytes_of, Appended}
use Rattle.hw_codec.specs.Ranges.{VertexInRange}
use Rattle.hw_replay.specs.Replay.{replay_of}
use Rattle.hw_replay.specs.Ends.{lasts_of_file}
use Rattle.hw_session.specs.declared.fault.MakeFault.{MakeFault}
use Rattle.hw_session.specs.declared.fault.MakeFault.TheVariants as make_fault
use Rattle.hw_session.specs.declared.fault.AcceptFault.{AcceptFault}
use Rattle.hw_session.specs.declared.fault.AcceptFault.TheVariants as accept_fault
use Rattle.hw_session.specs.Node.{NodeState, IsSound}
use Rattle.hw_session.specs.Make.{own_vertex, entry_for, with_vertex, with_entry}
use Rattle.hw_session.specs.Restart.{journal_log, journal_lasts}
use Rattle.hw_session.specs.Standing.{Standing}
use Rattle.hw_session.proofs.MakeLaws.{own_accepted}
use Rattle.hw_run_laws.specs.Calls.{Attempt, makes, accepts, StartsAgain, IsReady, MendsTo}
use Rattle.hw_run_laws.specs.Restart.{HasCutLog}
use Rattle.hw_run_laws.specs.Members.{IsTorn, TornLogsAreThere, TornAcceptsAreThere}
use Rattle.hw_run_laws.proofs.CutLaws.{taken_true}
use Rattle.hw_run_laws.proofs.GivenLaws.{put, put_there, put_others}
use Rattle.hw_run_laws.proofs.MemberLaws.{is_planned, fits, in_range, made_sound, fair, entry_sound}
use Rattle.hw_run_laws.proofs.MendLaws.{cut_mended}
use Rattle.hw_run_laws.proofs.StartLaws.{unasked, reached_again, gives_back, same_some}

-- an append that fails behind so many bytes
put_cut : {T E : Type 0} (held : List ℕ → Option (List ℕ)) (name whole bytes : List ℕ) (count : ℕ) (e : E) → held name ≡ Some whole → Appended {T = T} {E = E} held (put held name (whole ++ take count bytes)) name bytes (Err e)
put_cut held name whole bytes count e is = record {
  whole = tt;
  cut = (count, ap bytes_of (put_there held name (whole ++ take count bytes)) ∙ ap (λ (file : Option (List ℕ)). bytes_of file ++ take count bytes) (sym is));
  stays = λ there. subst (λ (file : Option (List ℕ)). IsSome file) (sym (put_there held name (whole ++ take count bytes))) refl;
  others = put_others held name (whole ++ take count bytes);
}

-- a standing behind a start from a torn log
record Mended (c : Standing) : Type 0 where
  next : Standing
  again : StartsAgain c next
  sound : IsSound next.node

-- it starts as the node to whose log the file mends
module _ (c : Standing) (k : NodeState) (sound : IsSound k) (config : k.core.config ≡ c.node.core.config) (keys : k.keys ≡ c.node.keys) (mends : MendsTo k (c.held c.node.log)) where
  abbrev text : List ℕ
  text = journal_log mends.log.version k.core.config k.core.journal

  abbrev started : Standing
  started = record {
    node = record {
      core = unasked k.core;
      keys = k.keys;
      log = c.node.log;
      lasts = journal_lasts mends.log.version k.core.config k.core.journal;
      refused = 0;
      repeats = 0;
      limited = 0;
      clash = None;
    };
    held = put c.held c.node.log mends.mended.bytes;
  }

  bytes_are : mends.mended.bytes ≡ text
  bytes_are = same_some (Some mends.mended.bytes) mends.mended.bytes text refl mends.log.holds

  starts_mended : Mended c
  starts_mended =
      let back = gives_back k sound mends.log.version mends.log.known in
      record {
        next = started;
        again = record {
          bytes = mends.mended.bytes;
          from = inr (mends.mended, mends.is, refl);
          there = put_there c.held c.node.log mends.mended.bytes;
          on = record {
            taken = ap (λ (wanted : Config). replay_of (Some wanted) mends.mended.bytes) (sym config) ∙ ap (λ (bytes : List ℕ). replay_of (Some k.core.config) bytes) bytes_are ∙ back.taken;
            lasts = ap (λ (bytes : List ℕ). lasts_of_file (Some bytes)) bytes_are ∙ back.lasts;
            config_is = config;
            keys_are = keys;
            log_is = refl;
            limited = refl;
            clash = refl;
          };
        };
        sound = record { kept = record { lawful = sound.kept.lawful; keys = sound.kept.keys; reached = reached_again k sound }; config = sound.config; vertices = sound.vertices };
      }

-- the bytes of the log
abbrev whole_log : (me : ℕ) (a : Standing) → IsReady me a → List ℕ
whole_log me a ready = journal_log ready.log.version a.node.core.config a.node.core.journal

-- a vertex that is accepted, and whose append fails behind so many bytes
module _ (me : ℕ) (a : Standing) (v : Vertex) (count : ℕ) (sound : IsSound a.node) (ready : IsReady me a) (accepted : is_accepted (answer_in a.node.core v true) ≡ true) (range : VertexInRange v) (v_fits : VertexFits v) (behind : IsSound (with_entry a.node v)) where
  abbrev whole : List ℕ
  whole = whole_log me a ready

  abbrev torn : Standing
  torn = record { node = with_vertex a.node v; held = put a.held a.node.log (whole ++ take count (entry_for a.node v)) }

  there : torn.held torn.node.log ≡ Some (whole ++ take count (entry_for a.node v))
  there = put_there a.held a.node.log (whole ++ take count (entry_for a.node v))

  abbrev cut : HasCutLog a.node v (torn.held torn.node.log)
  cut = record {
    whole = whole;
    count = count;
    has = record { version = ready.log.version; known = ready.log.known; holds = refl; lasts = ready.log.lasts };
    accepted = accepted;
    holds = there;
  }

  torn_sound : IsSound torn.node
  torn_sound = record { kept = record { lawful = sound.kept.lawful; keys = sound.kept.keys; reached = behind.kept.reached }; config = sound.config; vertices = behind.vertices }

  mended : Mended torn
  mended = elim (cut_mended a.node v (torn.held torn.node.log) sound cut range v_fits) [
    | inl mends ↦ starts_mended torn a.node sound refl refl mends
    | inr mends ↦ starts_mended torn (with_entry a.node v) behind refl refl mends
  ]

  torn_by : Attempt me a torn → IsTorn me a v count
  torn_by attempt = record {
    torn = torn;
    attempt = attempt;
    sound = torn_sound;
    cut = cut;
    place = refl;
    range = range;
    fits = v_fits;
    next = mended.next;
    again = mended.again;
    goes = mended.sound;
  }

-- the node's own unit
pub logs_torn : TornLogsAreThere
logs_torn me a now value p count validator sound ready may made =
    let own = own_vertex a.node p in
    let accepted = own_accepted a.node p sound.kept.reached (me, now, value, is_planned me a validator sound ready now value may p made.is) made.apart made.room in
    torn_by me a own count sound ready accepted (in_range me a validator sound ready now value may p made.is made.room) (fits me a validator sound ready now value may p made.is) (made_sound me a validator sound ready now value may p made)
    (makes now value (Err make_fault.AppendFault)
    (p, made, refl) (p, made.is, put_cut {T = Plan} {E = MakeFault} a.held a.node.log (whole_log me a ready) (entry_for a.node own) count make_fault.AppendFault ready.log.holds))

-- a vertex that is handed over
pub accepts_torn : TornAcceptsAreThere
unfolding torn_by
accepts_torn me a v count validator sound ready may accepted = (
  torn_by me a v count sound ready (taken_true a.node v accepted) may.0 may.1 (entry_sound me a validator sound ready v may accepted)
      (accepts v (Err accept_fault.AppendFault) (accepted, refl) (put_cut {T = Receipt} {E = AcceptFault} a.held a.node.log (whole_log me a ready) (entry_for a.node v) count accept_fault.AppendFault ready.log.holds)
      (fair me a validator sound ready v may)),
  refl,
)
