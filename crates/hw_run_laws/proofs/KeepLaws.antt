-- A session keeps the log of the node's journal.
use Rattle.std.specs.Prelude.{IsSome}
use Rattle.std.proofs.Common.{◌≡◌, ℕ, Bool, true, false, List, [], ◌∷◌, ◌++◌, length, Option, Some, None, IsTrue, refl, sym, ap, subst, ◌∙◌}
use Rattle.std.proofs.lemmas.List.{append_assoc}
use Rattle.hw_types.specs.declared.config.Config.{Config}
use Rattle.hw_types.specs.declared.unit.Vertex.{Vertex}
use Rattle.hw_io.specs.Files.{bytes_of}
use Rattle.hw_log.specs.Lasts.{LastUnits, no_lasts, lasts_after}
use Rattle.hw_log.specs.Log.{header_bytes, entry_bytes, entries_bytes, lasts_behind}
use Rattle.hw_link.specs.declared.end.SessionEnd.{SessionEnd}
use Rattle.hw_link.specs.declared.end.SessionEnd.TheVariants as end
use Rattle.hw_session.specs.Node.{NodeState}
use Rattle.hw_session.specs.Restart.{true_entries, journal_log, journal_lasts, HasLog}
use Rattle.hw_session.specs.Grows.{GrowsBy, entries_for, Gains, Logs}
use Rattle.hw_session.specs.Serving.{served}
use Rattle.hw_session.specs.Sessions.{Leaves}
use Rattle.hw_session.specs.Driving.{driven}
use Rattle.hw_session.specs.Drives.{LeavesDriven}
use Rattle.hw_session.specs.Standing.{standing, driver_standing}
use Rattle.hw_session.proofs.ConfigLaws.{driven_config}
use Rattle.hw_service.proofs.GrowLaws.{served_config}
use Rattle.hw_run_laws.specs.Restart.{IsLogged, ServesKeepsLog, DrivesKeepsLog}

-- ---- the log of a longer journal

entries_both : (lasts : LastUnits) (vs ws : List Vertex) → entries_bytes lasts (true_entries (vs ++ ws)) ≡ entries_bytes lasts (true_entries vs) ++ entries_bytes (lasts_behind lasts (true_entries vs)) (true_entries ws)
entries_both lasts [] ws = refl
entries_both lasts (v ∷ vs) ws =
    ap (λ (b : List ℕ). entry_bytes lasts true v ++ b) (entries_both (lasts_after lasts v) vs ws)
    ∙ sym (append_assoc (entry_bytes lasts true v) (entries_bytes (lasts_after lasts v) (true_entries vs)) (entries_bytes (lasts_behind (lasts_after lasts v) (true_entries vs)) (true_entries ws)))

lasts_both : (lasts : LastUnits) (vs ws : List Vertex) → lasts_behind lasts (true_entries (vs ++ ws)) ≡ lasts_behind (lasts_behind lasts (true_entries vs)) (true_entries ws)
lasts_both lasts [] ws = refl
lasts_both lasts (v ∷ vs) ws = lasts_both (lasts_after lasts v) vs ws

log_both : (version : ℕ) (config : Config) (vs ws : List Vertex) → journal_log version config (vs ++ ws) ≡ journal_log version config vs ++ entries_bytes (journal_lasts version config vs) (true_entries ws)
log_both version config vs ws =
    let none = no_lasts version (length config.weights) in
    ap (λ (bytes : List ℕ). header_bytes version config ++ bytes) (entries_both none vs ws)
    ∙ sym (append_assoc (header_bytes version config) (entries_bytes none (true_entries vs)) (entries_bytes (journal_lasts version config vs) (true_entries ws)))

-- ---- a node that gained vertices

-- a file that is there is what it holds
pub file_is : (file : Option (List ℕ)) → IsSome file → file ≡ Some (bytes_of file)
file_is (Some bytes) there = refl
file_is None there = absurd (let no : false ≡ true = there in cc)

-- a file that grew by these bytes
pub file_grew : (old new : List ℕ → Option (List ℕ)) (name bytes held : List ℕ) → GrowsBy old new name bytes → old name ≡ Some held → new name ≡ Some (held ++ bytes)
file_grew old new name bytes held grows is =
    file_is (new name) (grows.stays (subst (λ (f : Option (List ℕ)). IsSome f) (sym is) refl))
    ∙ ap Some (grows.holds ∙ ap (λ (f : Option (List ℕ)). bytes_of f ++ bytes) is)

-- the log with the entries of these vertices, in the node's own words
pub log_with : (n : NodeState) (file : Option (List ℕ)) (has : HasLog n file) (vs : List Vertex) → journal_log has.version n.core.config n.core.journal ++ entries_for n vs ≡ journal_log has.version n.core.config (n.core.journal ++ vs)
log_with n file has vs =
    ap (λ (l : LastUnits). journal_log has.version n.core.config n.core.journal ++ entries_bytes l (true_entries vs)) has.lasts
    ∙ sym (log_both has.version n.core.config n.core.journal vs)

pub gained_log : (n m : NodeState) (vs : List Vertex) (file new : Option (List ℕ)) → m.core.config ≡ n.core.config → Gains n vs m → (has : HasLog n file)
    → new ≡ Some (journal_log has.version n.core.config n.core.journal ++ entries_for n vs) → HasLog m new
gained_log n m vs file new config gains has wrote = record {
  version = has.version;
  known = has.known;
  holds =
      wrote
      ∙ ap Some (log_with n file has vs)
      ∙ ap (λ (j : List Vertex). Some (journal_log has.version n.core.config j)) (sym gains.journal)
      ∙ ap (λ (k : Config). Some (journal_log has.version k m.core.journal)) (sym config);
  lasts =
      gains.lasts
      ∙ ap (λ (l : LastUnits). lasts_behind l (true_entries vs)) has.lasts
      ∙ sym (lasts_both (no_lasts has.version (length n.core.config.weights)) n.core.journal vs)
      ∙ ap (λ (j : List Vertex). journal_lasts has.version n.core.config j) (sym gains.journal)
      ∙ ap (λ (k : Config). journal_lasts has.version k m.core.journal) (sym config);
}

pub logs_keep : (n m : NodeState) (tells : Bool) (old new : List ℕ → Option (List ℕ)) → m.core.config ≡ n.core.config → Logs n m tells old new → IsTrue tells → HasLog n (old n.log) → HasLog m (new m.log)
logs_keep n m tells old new config logs told has =
    let grew = file_grew old new n.log (entries_for n logs.vertices) (journal_log has.version n.core.config n.core.journal) (logs.log told) has.holds in
    gained_log n m logs.vertices (old n.log) (new m.log) config logs.gains has (ap new logs.gains.name ∙ grew)

-- ---- sessions

pub serves_keep : ServesKeepsLog
serves_keep n m read written tells held_old held_new ends_old ends_new e s logged told has = go e logged s.left
  where
    whole : (m ≡ (served n read).state) × Logs n m tells held_old held_new → HasLog m (held_new m.log)
    whole left = logs_keep n m tells held_old held_new (ap (λ (k : NodeState). k.core.config) left.0 ∙ served_config n read) left.1 told has

    go : (e : SessionEnd) → IsLogged e → Leaves e tells (standing n held_old) read written (standing m held_new) → HasLog m (held_new m.log)
    go end.Done logged left = whole left
    go end.EndOfInput logged left = whole left
    go end.WrongInstance logged left = whole left
    go (end.BadFrame at) logged left = whole left
    go end.LinkFault logged left = whole left
    go end.ByteLimit logged left = whole left
    go end.Clash logged left = whole left
    go end.AppendFault logged left = absurd logged
    go end.OutOfMemory logged left = absurd logged

pub drives_keep : DrivesKeepsLog
drives_keep n m mark now read written tells held_old held_new ends_old ends_new e s logged told has = go e logged s.left
  where
    whole : (m ≡ (driven n mark read).state.node) × Logs n m tells held_old held_new → HasLog m (held_new m.log)
    whole left = logs_keep n m tells held_old held_new (ap (λ (k : NodeState). k.core.config) left.0 ∙ driven_config n mark read) left.1 told has

    go : (e : SessionEnd) → IsLogged e → LeavesDriven e tells (driver_standing n mark held_old) read written (driver_standing m now held_new) → HasLog m (held_new m.log)
    go end.Done logged left = whole left
    go end.EndOfInput logged left = whole left
    go end.WrongInstance logged left = whole left
    go (end.BadFrame at) logged left = whole left
    go end.LinkFault logged left = whole left
    go end.ByteLimit logged left = whole left
    go end.Clash logged left = whole left
    go end.AppendFault logged left = absurd logged
    go end.OutOfMemory logged left = absurd logged
