-- What a replay counts.
use Rattle.std.proofs.Common.{◌≡◌, ℕ, ◌+◌, ◌⊎◌, inl, inr, Bool, true, false, cond, List, [], ◌∷◌, ◌++◌, length, Option, Some, None, Result, Ok, Err, refl, sym, ap, subst, ◌∙◌, arith}
use Rattle.std.specs.Prelude.{◌||◌, filter, fold}
use Rattle.std.specs.List.{list_any}
use Rattle.hw_types.specs.declared.unit.Vertex.{Vertex}
use Rattle.hw_types.specs.declared.config.Config.{Config}
use Rattle.hw_types.specs.declared.answers.Receipt.{Receipt}
use Rattle.hw_types.specs.declared.answers.Receipt.TheVariants as receipt
use Rattle.hw_types.specs.declared.answers.Cause.{Cause}
use Rattle.hw_types.specs.declared.answers.Cause.TheVariants as cause
use Rattle.hw_types.specs.Journal.{answer}
use Rattle.hw_types.specs.Real.{CoreState, answer_in, after_in}
use Rattle.hw_core.specs.Promises.{begun, answers_to}
use Rattle.hw_core.proofs.PromiseLaws.{deliveries_are}
use Rattle.hw_log.specs.declared.entry.LogEntry.{LogEntry}
use Rattle.hw_log.specs.declared.error.LogError.{LogError}
use Rattle.hw_log.specs.Log.{Entries, log_of}
use Rattle.hw_replay.specs.declared.fault.StartFault.{StartFault}
use Rattle.hw_replay.specs.declared.fault.StartFault.TheVariants as fault
use Rattle.hw_replay.specs.Taken.{◌>>=◌, Taken, nothing_taken, clash_with, stop_of, counted_or_stopped, taken_or_stopped, entry_taken, entries_taken, or_fault, rest_taken}
use Rattle.hw_replay.specs.Replay.{is_wanted, said_replayed, replay_of}
use Rattle.hw_replay.specs.Laws.{deliveries_of}
use Rattle.hw_replay.proofs.TakeLaws.{core_by}
use Rattle.hw_theorem.specs.Counts.{is_refused, is_again, is_stop, count, answers_of, node_of, tally_of, EntriesAreTaken, StopsAt, EntriesStop, IsAnswered, ReplayIsAnswered, StopsFor, no_log, other_config, at_entry, behind, ReplayStops}

-- ---- counts

abbrev one : Bool → ℕ
one true = 1
one false = 0

counted : {A : Type 0} (p : A → Bool) (x : A) (xs : List A) → count p (x ∷ xs) ≡ one (p x) + count p xs
counted {A} p x xs = go (p x)
  where
    go : (b : Bool) → length (cond b (x ∷ filter p xs) (filter p xs)) ≡ one b + count p xs
    go true = omega arith
    go false = omega arith

either : (b : Bool) → (b ≡ true) ⊎ (b ≡ false)
either true = inl refl
either false = inr refl

or_parts : (a b : Bool) → (a || b) ≡ false → (a ≡ false) × (b ≡ false)
or_parts true b h = absurd cc
or_parts false b h = (refl, h)

-- ---- one entry

took : Taken → Result Taken StartFault
took t = Ok t

stopped : StartFault → Result Taken StartFault
stopped f = Err f

taken_is : (t u : Taken) → took t ≡ took u → t ≡ u
unfolding took
taken_is t u e = cc

fault_is : (f g : StartFault) → stopped f ≡ stopped g → f ≡ g
unfolding stopped
fault_is f g e = cc

never : (t : Taken) (f : StartFault) → took t ≡ stopped f → ⊥
unfolding took stopped
never t f e = absurd cc

-- what is taken with this node, and so many more
abbrev more : Taken → CoreState → ℕ → ℕ → Taken
more t core m n = record { core = core; refused = t.refused + m; repeats = t.repeats + n }

kept : (t : Taken) (core : CoreState) → (record { core = core; refused = t.refused; repeats = t.repeats }) ≡ more t core 0 0
kept t core =
    let a : t.refused ≡ t.refused + 0 = omega arith in
    let b : t.repeats ≡ t.repeats + 0 = omega arith in
    let f : ℕ → ℕ → Taken = λ m n. record { core = core; refused = m; repeats = n } in
    ap (λ m. f m t.repeats) a ∙ ap (f (t.refused + 0)) b

refused_more : (t : Taken) → (record { core = t.core; refused = t.refused + 1; repeats = t.repeats }) ≡ more t t.core 1 0
refused_more t = let b : t.repeats ≡ t.repeats + 0 = omega arith in let f : ℕ → Taken = λ n. record { core = t.core; refused = t.refused + 1; repeats = n } in ap f b

again_more : (t : Taken) → (record { core = t.core; refused = t.refused; repeats = t.repeats + 1 }) ≡ more t t.core 0 1
again_more t = let b : t.refused ≡ t.refused + 0 = omega arith in let f : ℕ → Taken = λ n. record { core = t.core; refused = n; repeats = t.repeats + 1 } in ap f b

goes : (t : Taken) (e : LogEntry) (r : Result Receipt Cause) → is_stop r ≡ false → taken_or_stopped t e r ≡ took (more t (core_by t.core e.vertex r) (one (is_refused r)) (one (is_again r)))
unfolding took
goes t e (Err cause.RecordsFull) h = absurd cc
goes t e (Err cause.ParkFull) h = absurd cc
goes t e (Err (cause.Clash d)) h = absurd cc
goes t e (Err cause.BadSignature) h = ap took (refused_more t)
goes t e (Err (cause.Local rule)) h = ap took (refused_more t)
goes t e (Err (cause.Pair f)) h = ap took (refused_more t)
goes t e (Err cause.OutOfMemory) h = ap took (refused_more t)
goes t e (Ok receipt.Repeat) h = ap took (again_more t)
goes t e (Ok (receipt.Admitted n)) h = ap took (kept t (core_by t.core e.vertex (Ok (receipt.Admitted n))))
goes t e (Ok (receipt.Parked n)) h = ap took (kept t (core_by t.core e.vertex (Ok (receipt.Parked n))))
goes t e (Ok (receipt.Dropped r)) h = ap took (kept t (core_by t.core e.vertex (Ok (receipt.Dropped r))))

-- the cause that stops
record Stop (t : Taken) (e : LogEntry) (r : Result Receipt Cause) : Type 0 where
  cause : Cause
  fault : StartFault
  answer_is : r ≡ Err cause
  stop_is : stop_of t.core e.at e.vertex cause ≡ Some fault
  left : taken_or_stopped t e r ≡ stopped fault

stops : (t : Taken) (e : LogEntry) (r : Result Receipt Cause) → is_stop r ≡ true → Stop t e r
unfolding stopped
stops t e (Err cause.RecordsFull) h = record { cause = cause.RecordsFull; fault = fault.RecordsFull e.at; answer_is = refl; stop_is = refl; left = refl }
stops t e (Err cause.ParkFull) h = record { cause = cause.ParkFull; fault = fault.ParkFull e.at; answer_is = refl; stop_is = refl; left = refl }
stops t e (Err (cause.Clash d)) h = record { cause = cause.Clash d; fault = clash_with t.core e.vertex d; answer_is = refl; stop_is = refl; left = refl }
stops t e (Err cause.BadSignature) h = absurd cc
stops t e (Err (cause.Local rule)) h = absurd cc
stops t e (Err (cause.Pair f)) h = absurd cc
stops t e (Err cause.OutOfMemory) h = absurd cc
stops t e (Ok r) h = absurd cc

-- the answer to the next entry
abbrev next : CoreState → LogEntry → Result Receipt Cause
next c e = answer_in c e.vertex e.verdict

abbrev then : CoreState → LogEntry → CoreState
then c e = after_in c e.vertex e.verdict

entry_goes : (t : Taken) (e : LogEntry) → is_stop (next t.core e) ≡ false → entry_taken t e ≡ took (more t (then t.core e) (one (is_refused (next t.core e))) (one (is_again (next t.core e))))
unfolding entry_taken
entry_goes t e h = goes t e (next t.core e) h

entry_stops : (t : Taken) (e : LogEntry) → is_stop (next t.core e) ≡ true → Stop t e (next t.core e)
entry_stops t e h = stops t e (next t.core e) h

-- ---- all entries

abbrev answers : CoreState → List LogEntry → List (Result Receipt Cause)
answers c es = answers_to c (deliveries_of es)

abbrev end : CoreState → List LogEntry → CoreState
end c es = fold (λ (k : CoreState) (d : Vertex × Bool). after_in k d.0 d.1) c (deliveries_of es)

abbrev all_of : Taken → List LogEntry → Taken
all_of t es = more t (end t.core es) (count is_refused (answers t.core es)) (count is_again (answers t.core es))

both : (t : Taken) (core : CoreState) (a b m n x y : ℕ) → x ≡ a + m → y ≡ b + n → more (more t core a b) core m n ≡ more t core x y
both t core a b m n x y e f =
    let p : t.refused + a + m ≡ t.refused + x = omega (arith, e) in
    let q : t.repeats + b + n ≡ t.repeats + y = omega (arith, f) in
    let g : ℕ → ℕ → Taken = λ i j. record { core = core; refused = i; repeats = j } in
    ap (λ i. g i (t.repeats + b + n)) p ∙ ap (g (t.refused + x)) q

all_go : (t : Taken) (es : List LogEntry) → list_any is_stop (answers t.core es) ≡ false → entries_taken t es ≡ took (all_of t es)
unfolding entries_taken took
all_go t [] h = ap took (kept t t.core)
all_go t (e ∷ es) h =
    let parts = or_parts (is_stop (next t.core e)) (list_any is_stop (answers (then t.core e) es)) h in
    let u : Taken = more t (then t.core e) (one (is_refused (next t.core e))) (one (is_again (next t.core e))) in
    ap (λ (r : Result Taken StartFault). r >>= λ w. entries_taken w es) (entry_goes t e parts.0)
    ∙ all_go u es parts.1
    ∙ ap took (both t (end (then t.core e) es) (one (is_refused (next t.core e))) (one (is_again (next t.core e))) (count is_refused (answers (then t.core e) es)) (count is_again (answers (then t.core e) es))
    (count is_refused (answers t.core (e ∷ es))) (count is_again (answers t.core (e ∷ es)))
    (counted is_refused (next t.core e) (answers (then t.core e) es)) (counted is_again (next t.core e) (answers (then t.core e) es)))

-- the first entry that stops
record First (c : CoreState) (es : List LogEntry) (f : StartFault) : Type 0 where
  before : List LogEntry
  entry : LogEntry
  after : List LogEntry
  split : es ≡ before ++ entry ∷ after
  none_before : list_any is_stop (answers c before) ≡ false
  cause : Cause
  answer_is : next (end c before) entry ≡ Err cause
  stop_is : stop_of (end c before) entry.at entry.vertex cause ≡ Some f

entry_left : (t : Taken) (e : LogEntry) (s : Stop t e (next t.core e)) → entry_taken t e ≡ stopped s.fault
unfolding entry_taken
entry_left t e s = s.left

abbrev go_on : List LogEntry → Result Taken StartFault → Result Taken StartFault
go_on es r = r >>= λ w. entries_taken w es

first_stops : (t : Taken) (es : List LogEntry) → list_any is_stop (answers t.core es) ≡ true → (f : StartFault) × (entries_taken t es ≡ stopped f) × First t.core es f
unfolding entries_taken stopped took
first_stops t [] h = absurd cc
first_stops t (e ∷ es) h = elim (either (is_stop (next t.core e))) [
  | inl now ↦ (let s = entry_stops t e now in
      (s.fault, ap (go_on es) (entry_left t e s), record { before = []; entry = e; after = es; split = refl; none_before = refl; cause = s.cause; answer_is = s.answer_is; stop_is = s.stop_is }))
  | inr later ↦ (
      let u : Taken = more t (then t.core e) (one (is_refused (next t.core e))) (one (is_again (next t.core e))) in
      let r = first_stops u es (sym (ap (λ b. b || list_any is_stop (answers (then t.core e) es)) later) ∙ h) in
      let g = r.2 in (
        r.0,
        ap (go_on es) (entry_goes t e later) ∙ r.1,
        record {
          before = e ∷ g.before;
          entry = g.entry;
          after = g.after;
          split = ap (λ (xs : List LogEntry). e ∷ xs) g.split;
          none_before = ap (λ b. b || list_any is_stop (answers (then t.core e) g.before)) later ∙ g.none_before;
          cause = g.cause;
          answer_is = g.answer_is;
          stop_is = g.stop_is;
        },
      )
      )
]

-- the entries before are taken, and then it is the next one's turn
turn : (t : Taken) (before : List LogEntry) (e : LogEntry) (after : List LogEntry) → list_any is_stop (answers t.core before) ≡ false
    → (u : Taken) × (u.core ≡ end t.core before) × (entries_taken t (before ++ e ∷ after) ≡ go_on after (entry_taken u e))
unfolding entries_taken took
turn t [] e after h = (t, refl, refl)
turn t (d ∷ before) e after h =
    let parts = or_parts (is_stop (next t.core d)) (list_any is_stop (answers (then t.core d) before)) h in
    let u : Taken = more t (then t.core d) (one (is_refused (next t.core d))) (one (is_again (next t.core d))) in
    let r = turn u before e after parts.1 in
    (r.0, r.1, ap (go_on (before ++ e ∷ after)) (entry_goes t d parts.0) ∙ r.2)

turned : (u : Taken) (e : LogEntry) (c : CoreState) (k : Cause) (f : StartFault) → u.core ≡ c → next c e ≡ Err k → stop_of c e.at e.vertex k ≡ Some f → entry_taken u e ≡ stopped f
unfolding entry_taken stopped
turned u e c k f is answer stop =
    let a : next u.core e ≡ Err k = ap (λ (d : CoreState). next d e) is ∙ answer in
    let s : stop_of u.core e.at e.vertex k ≡ Some f = ap (λ (d : CoreState). stop_of d e.at e.vertex k) is ∙ stop in
    ap (taken_or_stopped u e) a ∙ ap (counted_or_stopped u) s

-- ---- from nothing on

module _ (config : Config) where
  abbrev first : Taken
  first = nothing_taken config

  answers_same : (es : List LogEntry) → answers (begun config) es ≡ answers_of config es
  answers_same es = (deliveries_are config (deliveries_of es)).1

  node_same : (es : List LogEntry) → end (begun config) es ≡ node_of config es
  node_same es = (deliveries_are config (deliveries_of es)).0

  plain : (core : CoreState) (m n : ℕ) → more first core m n ≡ record { core = core; refused = m; repeats = n }
  plain core m n =
      let f : ℕ → ℕ → Taken = λ i j. record { core = core; refused = i; repeats = j } in
      let p : 0 + m ≡ m = omega arith in
      let q : 0 + n ≡ n = omega arith in
      ap (λ i. f i (0 + n)) p ∙ ap (f m) q

  tally_same : (es : List LogEntry) → all_of first es ≡ tally_of config es
  tally_same es =
      let f : CoreState → List (Result Receipt Cause) → Taken = λ c rs. record { core = c; refused = count is_refused rs; repeats = count is_again rs } in
      plain (end (begun config) es) (count is_refused (answers (begun config) es)) (count is_again (answers (begun config) es))
      ∙ ap (λ c. f c (answers (begun config) es)) (node_same es) ∙ ap (f (node_of config es)) (answers_same es)

  any_same : (es : List LogEntry) → list_any is_stop (answers (begun config) es) ≡ list_any is_stop (answers_of config es)
  any_same es = ap (λ (rs : List (Result Receipt Cause)). list_any is_stop rs) (answers_same es)

  goes_on : (es : List LogEntry) → list_any is_stop (answers_of config es) ≡ false → entries_taken first es ≡ took (tally_of config es)
  goes_on es h = all_go first es (any_same es ∙ h) ∙ ap took (tally_same es)

  stops_at : (es : List LogEntry) → list_any is_stop (answers_of config es) ≡ true → (f : StartFault) × (entries_taken first es ≡ stopped f) × StopsAt config es f
  stops_at es h =
      let r = first_stops first es (any_same es ∙ h) in
      let g = r.2 in (
        r.0,
        r.1,
        record {
          before = g.before;
          entry = g.entry;
          after = g.after;
          split = g.split;
          none_before = sym (any_same g.before) ∙ g.none_before;
          cause = g.cause;
          answer_is = sym (ap (λ (c : CoreState). next c g.entry) (node_same g.before)) ∙ g.answer_is;
          fault_is = sym (ap (λ (c : CoreState). stop_of c g.entry.at g.entry.vertex g.cause) (node_same g.before)) ∙ g.stop_is;
        },
      )

  stop_left : (es : List LogEntry) (f : StartFault) → StopsAt config es f → entries_taken first es ≡ stopped f
  unfolding stopped
  stop_left es f s =
      let r = turn first s.before s.entry s.after (any_same s.before ∙ s.none_before) in
      ap (entries_taken first) s.split ∙ r.2
      ∙ ap (go_on s.after) (turned r.0 s.entry (node_of config s.before) s.cause f (r.1 ∙ node_same s.before) s.answer_is s.fault_is)

  taken_to : (es : List LogEntry) (t : Taken) → entries_taken first es ≡ took t → (list_any is_stop (answers_of config es) ≡ false) × (t ≡ tally_of config es)
  taken_to es t e = elim (either (list_any is_stop (answers_of config es))) [
    | inl h ↦ (let r = stops_at es h in absurd (never t r.0 (sym e ∙ r.1)))
    | inr h ↦ (h, taken_is t (tally_of config es) (sym e ∙ goes_on es h))
  ]

  stop_to : (es : List LogEntry) (f : StartFault) → entries_taken first es ≡ stopped f → StopsAt config es f
  stop_to es f e = elim (either (list_any is_stop (answers_of config es))) [
    | inl h ↦ (let r = stops_at es h in subst (λ g. StopsAt config es g) (fault_is r.0 f (sym r.1 ∙ e)) r.2)
    | inr h ↦ absurd (never (tally_of config es) f (sym (goes_on es h) ∙ e))
  ]

pub are_taken : EntriesAreTaken
unfolding took
are_taken config es t = (taken_to config es t, λ h. goes_on config es h.0 ∙ ap took (sym h.1))

pub entries_stop : EntriesStop
unfolding stopped
entries_stop config es f = (stop_to config es f, stop_left config es f)

-- ---- a whole log

module _ (wanted : Option Config) (bytes : List ℕ) where
  answered : (t : Taken) (r : Result (Config × Entries) LogError) → log_of bytes ≡ r → said_replayed wanted r ≡ took t → IsAnswered wanted bytes t
  unfolding took
  answered t (Err d) is f = absurd cc
  answered t (Ok said) is f = go (is_wanted wanted said.0) refl f
    where
      rest : is_wanted wanted said.0 ≡ true → (r : Result Taken StartFault) → entries_taken (nothing_taken said.0) said.1.given ≡ r → (o : Option LogError) → said.1.fault ≡ o → (r >>= λ u. or_fault u o) ≡ took t → IsAnswered wanted bytes t
      rest w (Ok u) e None none g =
          let same : u ≡ t = taken_is u t g in
          let h = taken_to said.0 said.1.given u e in
          record {
            config = said.0;
            entries = said.1.given;
            log = is ∙ ap (λ (o : Option LogError). Ok (said.0, record { given = said.1.given; fault = o })) none;
            is_wanted = w;
            goes_on = h.0;
            taken_is = sym same ∙ h.1;
          }
      rest w (Ok u) e (Some d) some g = absurd cc
      rest w (Err d) e o some g = absurd cc

      go : (b : Bool) → is_wanted wanted said.0 ≡ b → cond b (rest_taken (nothing_taken said.0) said.1) (Err fault.OtherConfig) ≡ took t → IsAnswered wanted bytes t
      go false other g = absurd cc
      go true w g = rest w (entries_taken (nothing_taken said.0) said.1.given) refl said.1.fault refl g

  -- what a log of the wanted configuration leaves
  wanted_rest : (config : Config) (entries : Entries) → log_of bytes ≡ Ok (config, entries) → is_wanted wanted config ≡ true → replay_of wanted bytes ≡ rest_taken (nothing_taken config) entries
  unfolding replay_of
  wanted_rest config entries log w = ap (said_replayed wanted) log ∙ ap (λ b. cond b (rest_taken (nothing_taken config) entries) (Err fault.OtherConfig)) w

  leaves : (t : Taken) → IsAnswered wanted bytes t → replay_of wanted bytes ≡ took t
  unfolding took
  leaves t h =
      wanted_rest h.config (record { given = h.entries; fault = None }) h.log h.is_wanted
      ∙ ap (λ (r : Result Taken StartFault). r >>= λ u. or_fault u None) (goes_on h.config h.entries h.goes_on)
      ∙ ap took (sym h.taken_is)

  stopped_for : (f : StartFault) (r : Result (Config × Entries) LogError) → log_of bytes ≡ r → said_replayed wanted r ≡ stopped f → StopsFor wanted bytes f
  unfolding stopped took
  stopped_for f (Err d) is g = subst (λ k. StopsFor wanted bytes k) (fault_is (fault.Log d) f g) (no_log d is)
  stopped_for f (Ok said) is g = go (is_wanted wanted said.0) refl g
    where
      rest : is_wanted wanted said.0 ≡ true → (r : Result Taken StartFault) → entries_taken (nothing_taken said.0) said.1.given ≡ r → (o : Option LogError) → said.1.fault ≡ o → (r >>= λ u. or_fault u o) ≡ stopped f → StopsFor wanted bytes f
      rest w (Ok u) e None none k = absurd cc
      rest w (Ok u) e (Some d) some k = subst (λ z. StopsFor wanted bytes z) (fault_is (fault.Log d) f k) (behind said.0 said.1 d is w (taken_to said.0 said.1.given u e).0 some)
      rest w (Err d) e o some k = at_entry said.0 said.1 f is w (stop_to said.0 said.1.given f (e ∙ k))

      go : (b : Bool) → is_wanted wanted said.0 ≡ b → cond b (rest_taken (nothing_taken said.0) said.1) (Err fault.OtherConfig) ≡ stopped f → StopsFor wanted bytes f
      go false other k = subst (λ z. StopsFor wanted bytes z) (fault_is fault.OtherConfig f k) (other_config said.0 said.1 is other)
      go true w k = rest w (entries_taken (nothing_taken said.0) said.1.given) refl said.1.fault refl k

  stop_is : (f : StartFault) → StopsFor wanted bytes f → replay_of wanted bytes ≡ stopped f
  unfolding stopped replay_of took
  stop_is _ (no_log e log) = ap (said_replayed wanted) log
  stop_is _ (other_config config entries log other) = ap (said_replayed wanted) log ∙ ap (λ b. cond b (rest_taken (nothing_taken config) entries) (Err fault.OtherConfig)) other
  stop_is _ (at_entry config entries f log w s) = wanted_rest config entries log w ∙ ap (λ (r : Result Taken StartFault). r >>= λ u. or_fault u entries.fault) (stop_left config entries.given f s)
  stop_is _ (behind config entries e log w none some) =
      wanted_rest config entries log w
      ∙ ap (λ (r : Result Taken StartFault). r >>= λ u. or_fault u entries.fault) (goes_on config entries.given none)
      ∙ ap (or_fault (tally_of config entries.given)) some

pub replay_answered : ReplayIsAnswered
unfolding replay_of took
replay_answered wanted bytes t = (answered wanted bytes t (log_of bytes) refl, leaves wanted bytes t)

pub replay_stops : ReplayStops
unfolding replay_of stopped
replay_stops wanted bytes f = (stopped_for wanted bytes f (log_of bytes) refl, stop_is wanted bytes f)
