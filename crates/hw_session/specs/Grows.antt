-- What a node and its log gained.
-- Source: ours.
use Rattle.std.specs.Prelude.{◌≡◌, ◌≢◌, ℕ, Bool, IsTrue, List, ◌++◌, take, Option, IsSome}
use Rattle.hw_types.specs.declared.unit.Vertex.{Vertex}
use Rattle.hw_io.specs.Files.{bytes_of}
use Rattle.hw_log.specs.Log.{entries_bytes, lasts_behind}
use Rattle.hw_session.specs.Node.{NodeState}
use Rattle.hw_session.specs.Restart.{true_entries}
use Rattle.hw_session.specs.Make.{entry_for}
use Rattle.hw_session.specs.Accept.{IsUnlogged}

-- bytes went last in the file of this name, and nothing else changed
pub record GrowsBy (old new : List ℕ → Option (List ℕ)) (name bytes : List ℕ) : Type 0 where
  pub holds : bytes_of (new name) ≡ bytes_of (old name) ++ bytes
  pub stays : IsSome (old name) → IsSome (new name)
  pub others : (other : List ℕ) → other ≢ name → new other ≡ old other

-- the entries of these vertices after the node's last units, each with a true verdict
abbrev pub entries_for : NodeState → List Vertex → List ℕ
entries_for n vs = entries_bytes n.lasts (true_entries vs)

-- These vertices went last in the journal, and the last units are those after them.
pub record Gains (n : NodeState) (vs : List Vertex) (m : NodeState) : Type 0 where
  pub journal : m.core.journal ≡ n.core.journal ++ vs
  pub lasts : m.lasts ≡ lasts_behind n.lasts (true_entries vs)
  pub name : m.log ≡ n.log

-- What went last in the journal went last in the log too, in the same order. Nothing else is written.
pub record Logs (n m : NodeState) (tells : Bool) (old new : List ℕ → Option (List ℕ)) : Type 0 where
  pub vertices : List Vertex
  pub gains : Gains n vertices m
  pub log : IsTrue tells → GrowsBy old new n.log (entries_for n vertices)

-- The same up to this node, which accepted one more vertex. That is in the journal, and the log may hold a first part
-- of its entry.
pub record LogsAllBut (n before : NodeState) (v : Vertex) (m : NodeState) (tells : Bool) (old new : List ℕ → Option (List ℕ)) : Type 0 where
  pub vertices : List Vertex
  pub gains : Gains n vertices before
  pub unlogged : IsUnlogged before v m
  pub log : IsTrue tells → (k : ℕ) × GrowsBy old new n.log (entries_for n vertices ++ take k (entry_for before v))
