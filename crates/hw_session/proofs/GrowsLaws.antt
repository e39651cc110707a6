-- What a node and its log gain, one after the other.
use Rattle.std.specs.Prelude.{IsSome}
use Rattle.std.proofs.Common.{◌≡◌, ℕ, Bool, true, List, [], ◌∷◌, ◌++◌, take, Option, Ok, Err, IsTrue, refl, sym, ap, subst, ◌∙◌}
use Rattle.std.proofs.lemmas.List.{append_assoc, append-nil}
use Rattle.hw_types.specs.declared.unit.Vertex.{Vertex}
use Rattle.hw_io.specs.Files.{bytes_of, SameFiles, Appended}
use Rattle.hw_log.specs.Lasts.{LastUnits, lasts_after}
use Rattle.hw_log.specs.Log.{entry_bytes, entries_bytes, lasts_behind}
use Rattle.hw_session.specs.Node.{NodeState}
use Rattle.hw_session.specs.Restart.{true_entries}
use Rattle.hw_session.specs.Make.{entry_for, with_entry}
use Rattle.hw_session.specs.Grows.{GrowsBy, entries_for, Gains, Logs, LogsAllBut}

-- ---- entries one after the other

entries_both : (lasts : LastUnits) (vs ws : List Vertex) → entries_bytes lasts (true_entries (vs ++ ws)) ≡ entries_bytes lasts (true_entries vs) ++ entries_bytes (lasts_behind lasts (true_entries vs)) (true_entries ws)
entries_both lasts [] ws = refl
entries_both lasts (v ∷ vs) ws =
    ap (λ (b : List ℕ). entry_bytes lasts true v ++ b) (entries_both (lasts_after lasts v) vs ws)
    ∙ sym (append_assoc (entry_bytes lasts true v) (entries_bytes (lasts_after lasts v) (true_entries vs)) (entries_bytes (lasts_behind (lasts_after lasts v) (true_entries vs)) (true_entries ws)))

lasts_both : (lasts : LastUnits) (vs ws : List Vertex) → lasts_behind lasts (true_entries (vs ++ ws)) ≡ lasts_behind (lasts_behind lasts (true_entries vs)) (true_entries ws)
lasts_both lasts [] ws = refl
lasts_both lasts (v ∷ vs) ws = lasts_both (lasts_after lasts v) vs ws

-- ---- files

-- nothing was written
pub grows_nothing : (old new : List ℕ → Option (List ℕ)) (name : List ℕ) → SameFiles old new → GrowsBy old new name []
grows_nothing old new name same = record {
  holds = ap bytes_of (same name) ∙ sym (append-nil (bytes_of (old name)));
  stays = λ there. subst (λ (f : Option (List ℕ)). IsSome f) (sym (same name)) there;
  others = λ other apart. same other;
}

-- an append that succeeded
pub grows_whole : {T E : Type 0} (old new : List ℕ → Option (List ℕ)) (name bytes : List ℕ) (x : T) → Appended {T = T} {E = E} old new name bytes (Ok x) → GrowsBy old new name bytes
grows_whole old new name bytes x a = record { holds = ap bytes_of a.whole; stays = a.stays; others = a.others }

-- an append that failed
pub grows_cut : {T E : Type 0} (old new : List ℕ → Option (List ℕ)) (name bytes : List ℕ) (e : E) → Appended {T = T} {E = E} old new name bytes (Err e) → (k : ℕ) × GrowsBy old new name (take k bytes)
grows_cut old new name bytes e a = (a.cut.0, record { holds = a.cut.1; stays = a.stays; others = a.others })

-- one after the other
pub grows_then : (old mid new : List ℕ → Option (List ℕ)) (name first then : List ℕ) → GrowsBy old mid name first → GrowsBy mid new name then → GrowsBy old new name (first ++ then)
grows_then old mid new name first then a b = record {
  holds = b.holds ∙ ap (λ (x : List ℕ). x ++ then) a.holds ∙ append_assoc (bytes_of (old name)) first then;
  stays = λ there. b.stays (a.stays there);
  others = λ other apart. b.others other apart ∙ a.others other apart;
}

-- ---- nodes

-- it gained nothing
pub gains_nothing : (n : NodeState) → Gains n [] n
gains_nothing n = record { journal = sym (append-nil n.core.journal); lasts = refl; name = refl }

-- or one vertex
pub gains_one : (n : NodeState) (v : Vertex) → Gains n (v ∷ []) (with_entry n v)
gains_one n v = record { journal = refl; lasts = refl; name = refl }

pub gains_then : (a b c : NodeState) (vs ws : List Vertex) → Gains a vs b → Gains b ws c → Gains a (vs ++ ws) c
gains_then a b c vs ws first then = record {
  journal = then.journal ∙ ap (λ (j : List Vertex). j ++ ws) first.journal ∙ append_assoc a.core.journal vs ws;
  lasts = then.lasts ∙ ap (λ (l : LastUnits). lasts_behind l (true_entries ws)) first.lasts ∙ sym (lasts_both a.lasts vs ws);
  name = then.name ∙ first.name;
}

-- the entries of both
entries_then : (a b : NodeState) (vs ws : List Vertex) → Gains a vs b → entries_for a (vs ++ ws) ≡ entries_for a vs ++ entries_for b ws
entries_then a b vs ws gains = entries_both a.lasts vs ws ∙ ap (λ (l : LastUnits). entries_for a vs ++ entries_bytes l (true_entries ws)) (sym gains.lasts)

-- ---- both

module _ (tells : Bool) where
  -- the log stays
  pub logs_nothing : (n : NodeState) (old new : List ℕ → Option (List ℕ)) → (IsTrue tells → SameFiles old new) → Logs n n tells old new
  logs_nothing n old new same = record { vertices = []; gains = gains_nothing n; log = λ t. grows_nothing old new n.log (same t) }

  -- a node that gained nothing that the log would have
  pub logs_counts : (n m : NodeState) (old new : List ℕ → Option (List ℕ)) → Gains n [] m → (IsTrue tells → SameFiles old new) → Logs n m tells old new
  logs_counts n m old new gains same = record { vertices = []; gains = gains; log = λ t. grows_nothing old new n.log (same t) }

  pub logs_then : (a b c : NodeState) (old mid new : List ℕ → Option (List ℕ)) → Logs a b tells old mid → Logs b c tells mid new → Logs a c tells old new
  logs_then a b c old mid new first then = record {
    vertices = first.vertices ++ then.vertices;
    gains = gains_then a b c first.vertices then.vertices first.gains then.gains;
    log = λ t.
        subst (λ (bytes : List ℕ). GrowsBy old new a.log bytes) (sym (entries_then a b first.vertices then.vertices first.gains))
        (grows_then old mid new a.log (entries_for a first.vertices) (entries_for b then.vertices) (first.log t)
        (subst (λ (name : List ℕ). GrowsBy mid new name (entries_for b then.vertices)) first.gains.name (then.log t)));
  }

  pub logs_but : (a b c : NodeState) (v : Vertex) (m : NodeState) (old mid new : List ℕ → Option (List ℕ)) → Logs a b tells old mid → LogsAllBut b c v m tells mid new → LogsAllBut a c v m tells old new
  logs_but a b c v m old mid new first then = record {
    vertices = first.vertices ++ then.vertices;
    gains = gains_then a b c first.vertices then.vertices first.gains then.gains;
    unlogged = then.unlogged;
    log = λ t.
        let cut = then.log t in
        let last : List ℕ = take cut.0 (entry_for c v) in (
          cut.0,
          subst (λ (bytes : List ℕ). GrowsBy old new a.log bytes) (sym (append_assoc (entries_for a first.vertices) (entries_for b then.vertices) last) ∙ ap (λ (bytes : List ℕ). bytes ++ last) (sym (entries_then a b first.vertices then.vertices first.gains)))
              (grows_then old mid new a.log (entries_for a first.vertices) (entries_for b then.vertices ++ last) (first.log t)
              (subst (λ (name : List ℕ). GrowsBy mid new name (entries_for b then.vertices ++ last)) first.gains.name cut.1)),
        );
  }
