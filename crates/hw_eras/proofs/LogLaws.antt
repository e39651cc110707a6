-- What the log of an era leaves.
use Rattle.std.proofs.Common.{◌≡◌, ℕ, zero, suc, ◌⊎◌, inl, inr, Bool, true, false, List, [], ◌∷◌, ◌++◌, length, take, fold, Option, Some, None, Result, Ok, Err, refl, sym, ap, subst}
use Rattle.std.specs.Prelude.{not, nat_le}
use Rattle.std.specs.List.{list_any}
use Rattle.std.proofs.lemmas.Bool.{leb-true}
use lib.Pointwise.{bytes_decides}
use Rattle.hw_types.specs.declared.unit.Vertex.{Vertex}
use Rattle.hw_types.specs.declared.config.Config.{Config}
use Rattle.hw_types.specs.declared.config.Leaders.{Leaders}
use Rattle.hw_types.specs.declared.config.Leaders.TheVariants.{Table, Drawn}
use Rattle.hw_types.specs.Below.{Among}
use Rattle.hw_types.specs.Limits.{config_fault, is_within, is_bad_table}
use Rattle.hw_types.specs.Spelling.{config_bytes, ConfigFits, LeadersFit}
use Rattle.hw_types.specs.Real.{CoreState, after_in}
use Rattle.hw_types.proofs.LimitLaws.{within_limits}
use Rattle.hw_types.proofs.StableLaws.{and_parts}
use Rattle.hw_types.proofs.WordsLaws.{not_false, or_none}
use Rattle.hw_types.proofs.EntryLaws.{append_cases}
use Rattle.hw_codec.specs.Ranges.{ConfigInRange}
use Rattle.hw_codec.proofs.KindLaws.{config_kind, each_spells_one}
use Rattle.hw_core.specs.Promises.{begun}
use Rattle.hw_safety.proofs.ClashLaws.{held_among}
use Rattle.hw_audit.proofs.ToldLaws.{AreSigned}
use Rattle.hw_eras.specs.Nodes.{IsMadeAgain, next_of}
use Rattle.hw_eras.proofs.NodeLaws.{made_begun, made_after}
use Rattle.hw_replay.specs.declared.fault.StartFault.{StartFault}
use Rattle.hw_replay.specs.declared.replay.Replay.{Replay}
use Rattle.hw_replay.specs.Taken.{Taken, nothing_taken}
use Rattle.hw_replay.specs.Replay.{same_config, replay_of, taken_in, IsOutside, Replays}
use Rattle.hw_replay.specs.Ends.{IsReached}
use Rattle.hw_replay.specs.Laws.{IsSigned}
use Rattle.hw_replay.proofs.DeliveredLaws.{replay_delivers}
use Rattle.hw_eras.specs.Logs.{Held, LogStop, ◌>>=◌, file_left, or_stopped, log_left, eras_from, eras_of, nodes_of}

-- ---- the file was replayed

pub took_file : (wanted : Option Config) (file : Option (List ℕ)) (r : Replay) → Replays wanted file (Ok r) → file_left wanted file ≡ Ok (taken_in r)
took_file wanted (Some bytes) r took = took
took_file wanted None r took = absurd took

-- or not
pub stopped_file : (wanted : Option Config) (file : Option (List ℕ)) (e : StartFault) → Replays wanted file (Err e) → IsOutside e ⊎ (file_left wanted file ≡ Err e)
stopped_file wanted (Some bytes) e stops = stops
stopped_file wanted None e out = inl out

-- ---- its node

made_by : (c : CoreState) (ds : List (Vertex × Bool)) → IsMadeAgain c → IsMadeAgain (fold (λ (k : CoreState) (d : Vertex × Bool). after_in k d.0 d.1) c ds)
made_by c [] made = made
made_by c (d ∷ ds) made = made_by (after_in c d.0 d.1) ds (made_after c d.0 d.1 made)

-- deliveries made it, so its journal makes it again
pub made_again : (c : CoreState) → IsReached c → IsMadeAgain c
made_again c r = subst IsMadeAgain (sym r.made) (made_by (begun c.config) r.deliveries (made_begun c.config))

-- ---- its configuration

leaders_fit : (validators : ℕ) (leaders : Leaders) → is_bad_table validators leaders ≡ false → LeadersFit leaders
leaders_fit validators (Drawn key) e = tt
leaders_fit validators (Table entries) e =
    let within = not_false (is_within 1 4096 (length entries)) (or_none (not (is_within 1 4096 (length entries))) (list_any (λ (v : ℕ). nat_le validators v) entries) e).0 in
    leb-true (length entries) 4096 (and_parts (nat_le 1 (length entries)) (nat_le (length entries) 4096) within).1

-- a configuration that keeps all limits keeps those of its format
pub config_fits : (c : Config) → config_fault c ≡ None → ConfigFits c
config_fits c lawful = let limits = within_limits c lawful in record { weights = limits.few; leaders = leaders_fit (length c.weights) c.leaders limits.table }

-- two that are spelled alike are one
pub one_config : (c d : Config) → ConfigInRange c → ConfigInRange d → config_fault c ≡ None → config_fault d ≡ None → same_config c d ≡ true → d ≡ c
one_config c d c_in d_in c_lawful d_lawful same =
    sym (each_spells_one config_kind (config_bytes c) c d c_in d_in (record { limits = config_fits c c_lawful; is = refl }) (record { limits = config_fits d d_lawful; is = (bytes_decides (config_bytes c) (config_bytes d)).0 same }))

-- ---- its signatures

-- each unit of the node's journal has a signature of 32 bytes
abbrev pub IsSignedNode : CoreState → Type 0
IsSignedNode c = (v : Vertex) → Among v c.journal → IsSigned v

pub both_signed : (c d : CoreState) → IsSignedNode c → IsSignedNode d → AreSigned (c.journal ++ d.journal)
both_signed c d left right s m =
    let held = held_among s (c.journal ++ d.journal) m in
    elim (append_cases held.0 c.journal d.journal held.1) [
      | inl k ↦ left held.0 k s held.2
      | inr k ↦ right held.0 k s held.2
    ]

-- of each of these nodes
abbrev pub AreSignedNodes : List CoreState → Type 0
AreSignedNodes [] = Unit {0}
AreSignedNodes (c ∷ cs) = IsSignedNode c × AreSignedNodes cs

first_signed : (n : ℕ) (ts : List Taken) → AreSignedNodes (nodes_of ts) → AreSignedNodes (nodes_of (take n ts))
first_signed zero ts are = tt
first_signed (suc n) [] are = tt
first_signed (suc n) (t ∷ ts) are = (are.0, first_signed n ts are.1)

left_signed : (held : Held) (wanted : Option Config) (log : List ℕ) (t : Taken) → log_left held wanted log ≡ Ok t → IsSignedNode t.core
left_signed held wanted log t = go (held log)
  where
    go : (file : Option (List ℕ)) → or_stopped log (file_left wanted file) ≡ Ok t → IsSignedNode t.core
    go None e = absurd cc
    go (Some bytes) e = (replay_delivers wanted bytes t (back (replay_of wanted bytes) e)).signed
      where
        back : (r : Result Taken StartFault) → or_stopped log r ≡ Ok t → r ≡ Ok t
        back (Ok u) is = (let same : u ≡ t = cc in ap (λ (x : Taken). Ok x) same)
        back (Err f) is = absurd cc

-- what went on was there
pub bound : {A B : Type 0} (r : Result A LogStop) (f : A → Result B LogStop) (b : B) → (r >>= f) ≡ Ok b → (a : A) × (r ≡ Ok a) × (f a ≡ Ok b)
bound (Ok a) f b e = (a, refl, e)
bound (Err s) f b e = absurd cc

from_signed : (held : Held) (next : Option Config) (logs : List (List ℕ)) (ts : List Taken) → eras_from held next logs ≡ Ok ts → AreSignedNodes (nodes_of ts)
unfolding eras_from
from_signed held None [] ts e = (let is : [] ≡ ts = cc in subst (λ (us : List Taken). AreSignedNodes (nodes_of us)) is tt)
from_signed held (Some config) [] ts e = (let is : nothing_taken config ∷ [] ≡ ts = cc in subst (λ (us : List Taken). AreSignedNodes (nodes_of us)) is (λ v m. absurd m, tt))
from_signed held None (log ∷ logs) ts e = absurd cc
from_signed held (Some config) (log ∷ logs) ts e =
    let b = bound (log_left held (Some config) log) (λ t. eras_from held (next_of t.core) logs >>= λ us. Ok (t ∷ us)) ts e in
    let d = bound (eras_from held (next_of b.0.core) logs) (λ us. Ok (b.0 ∷ us)) ts b.2 in
    let is : b.0 ∷ d.0 ≡ ts = (let both = d.2 in cc) in
    subst (λ (us : List Taken). AreSignedNodes (nodes_of us)) is (left_signed held (Some config) log b.0 b.1, from_signed held (next_of b.0.core) logs d.0 d.1)

pub eras_signed : (held : Held) (wanted : Option Config) (logs : List (List ℕ)) (ts : List Taken) → eras_of held wanted logs ≡ Ok ts → AreSignedNodes (nodes_of ts)
unfolding eras_of
eras_signed held wanted [] ts e = (let is : [] ≡ ts = cc in subst (λ (us : List Taken). AreSignedNodes (nodes_of us)) is tt)
eras_signed held wanted (log ∷ logs) ts e =
    let b = bound (log_left held wanted log) (λ t. eras_from held (next_of t.core) logs >>= λ us. Ok (take 64 (t ∷ us))) ts e in
    let d = bound (eras_from held (next_of b.0.core) logs) (λ us. Ok (take 64 (b.0 ∷ us))) ts b.2 in
    let is : take 64 (b.0 ∷ d.0) ≡ ts = (let both = d.2 in cc) in
    subst (λ (us : List Taken). AreSignedNodes (nodes_of us)) is (first_signed 64 (b.0 ∷ d.0) (left_signed held wanted log b.0 b.1, from_signed held (next_of b.0.core) logs d.0 d.1))
