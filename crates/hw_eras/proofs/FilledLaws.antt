-- The eras of a node, as logs fill them.
use Rattle.std.proofs.Common.{◌≡◌, ◌⊎◌, inl, inr, ℕ, zero, suc, ◌+◌, ◌-◌, ◌≤◌, ◌<◌, ◌↔◌, Bool, true, false, cond, List, [], ◌∷◌, ◌++◌, length, take, Option, Some, None, Result, Ok, Err, IfSome, OnOk, refl, sym, ap, subst, ◌∙◌, arith, append_assoc}
use Rattle.std.proofs.Math.ListN.{set, length-set}
use Rattle.std.proofs.Math.Seq.{take-append-add}
use Rattle.std.specs.Prelude.{◌==◌, slice_get}
use Rattle.std.specs.Option.{option_map}
use Rattle.std.proofs.lemmas.Bool.{eqb-true, eqb-false}
use Rattle.std.proofs.lemmas.List.{take_all, length-take-le, length-append, append-nil}
use Rattle.std.proofs.lemmas.Option.{slice_get_past, slice_get_within}
use Rattle.hw_types.specs.declared.config.Config.{Config}
use Rattle.hw_types.specs.Real.{CoreState}
use Rattle.hw_core.specs.Promises.{begun}
use Rattle.hw_eras.specs.declared.answers.EraOpen.{EraOpen}
use Rattle.hw_eras.specs.Nodes.{next_of, first_config, last_core, AreNodeEras, IsLastUnended, HasOpened}
use Rattle.hw_eras.proofs.EndedLaws.{ended_names, last_made}
use Rattle.hw_replay.specs.Taken.{Taken, nothing_taken}
use Rattle.hw_eras.specs.Logs.{Held, LogStop, NoEra, ◌>>=◌, log_left, without_log, eras_from, eras_of, nodes_of}
use Rattle.hw_eras.specs.declared.filled.EraCounts.{EraCounts}
use Rattle.hw_eras.specs.declared.filled.Filled.{Filled}
use Rattle.hw_eras.specs.Filled.{counted, eras_in, logs_in, next_in, ahead_in, IsFilled, opened, HasTaken, HasFirst}

-- ---- lists

-- another last one
pub set_last : (cs : List CoreState) (k : ℕ) (x : CoreState) → length cs ≡ k + 1 → set cs k x ≡ take k cs ++ x ∷ []
set_last [] k x long = absurd (omega arith)
set_last (c ∷ []) zero x long = refl
set_last (c ∷ d ∷ ds) zero x long = absurd (omega arith)
set_last (c ∷ cs) (suc k) x long = ap (λ (ds : List CoreState). c ∷ ds) (set_last cs k x (omega arith))

pub last_set : (cs : List CoreState) (k : ℕ) (x : CoreState) → length cs ≡ k + 1 → slice_get (set cs k x) k ≡ Some x
last_set [] k x long = absurd (omega arith)
last_set (c ∷ []) zero x long = refl
last_set (c ∷ d ∷ ds) zero x long = absurd (omega arith)
last_set (c ∷ cs) (suc k) x long = last_set cs k x (omega arith)

-- the first configuration stays
first_kept : (cs os : List CoreState) (k : ℕ) (c x : CoreState) → slice_get cs k ≡ Some c → x.config ≡ c.config → first_config (take k cs ++ x ∷ os) ≡ first_config cs
first_kept [] os k c x e config = absurd cc
first_kept (d ∷ ds) os zero c x e config = (let same : d ≡ c = cc in ap Some (config ∙ ap (λ (k : CoreState). k.config) (sym same)))
first_kept (d ∷ ds) os (suc k) c x e config = refl

-- what stands behind one of them
get_behind : (xs ys : List CoreState) (x : CoreState) (k : ℕ) → k ≡ length xs + 1 → slice_get (xs ++ x ∷ ys) k ≡ slice_get ys 0
get_behind [] ys x zero e = absurd (omega arith)
get_behind [] ys x (suc k) e = (let none : k ≡ 0 = omega arith in ap (slice_get ys) none)
get_behind (z ∷ zs) ys x zero e = absurd (omega arith)
get_behind (z ∷ zs) ys x (suc k) e = get_behind zs ys x k (omega arith)

-- ---- eras and counts

-- what an era has
abbrev with_counts : CoreState → EraCounts → Taken
with_counts n c = record { core = n; refused = c.refused; repeats = c.repeats }

-- each node is there
pub counted_nodes : (ns : List CoreState) (cs : List EraCounts) → nodes_of (counted ns cs) ≡ ns
counted_nodes [] cs = refl
counted_nodes (n ∷ ns) [] = ap (λ (ms : List CoreState). n ∷ ms) (counted_nodes ns [])
counted_nodes (n ∷ ns) (c ∷ cs) = ap (λ (ms : List CoreState). n ∷ ms) (counted_nodes ns cs)

pub counted_length : (ns : List CoreState) (cs : List EraCounts) → length (counted ns cs) ≡ length ns
counted_length [] cs = refl
counted_length (n ∷ ns) [] = ap suc (counted_length ns [])
counted_length (n ∷ ns) (c ∷ cs) = ap suc (counted_length ns cs)

-- one more log
counted_more : (ns os : List CoreState) (n : CoreState) (cs : List EraCounts) (c : EraCounts) → length cs ≤ length ns
    → counted (take (length cs) ns ++ n ∷ os) (cs ++ c ∷ []) ≡ take (length cs) (counted ns cs) ++ with_counts n c ∷ counted os []
counted_more ns os n [] c le = refl
counted_more [] os n (d ∷ ds) c le = absurd (omega arith)
counted_more (m ∷ ms) os n (d ∷ ds) c le = ap (λ (ts : List Taken). with_counts m d ∷ ts) (counted_more ms os n ds c (omega arith))

-- the last one has no log
counted_last : (ns : List CoreState) (cs : List EraCounts) (n : CoreState) → length ns ≡ length cs + 1 → slice_get ns (length cs) ≡ Some n
    → counted ns cs ≡ take (length cs) (counted ns cs) ++ record { core = n; refused = 0; repeats = 0 } ∷ []
counted_last [] cs n long e = absurd (omega arith)
counted_last (m ∷ []) [] n long e = (let same : m ≡ n = cc in ap (λ (k : CoreState). record { core = k; refused = 0; repeats = 0 } ∷ []) same)
counted_last (m ∷ l ∷ ls) [] n long e = absurd (omega arith)
counted_last (m ∷ ms) (c ∷ cs) n long e = ap (λ (ts : List Taken). with_counts m c ∷ ts) (counted_last ms cs n (omega arith) e)

-- a number is another one
pub not_equal : (m : ℕ) → (m ≡ 64 → ⊥) → (m == 64) ≡ false
not_equal m differ = go (m == 64) refl
  where
    go : (b : Bool) → (m == 64) ≡ b → b ≡ false
    go true e = absurd (differ (eqb-true m 64 e))
    go false e = refl

-- what is answered where the next era is to be opened
abbrev pub answer : Option ℕ → Result (Option ℕ) EraOpen
answer o = Ok o

-- ---- the era isn't there

pub none_ahead : (held : Held) (f : Filled) (log : List ℕ) (logs : List (List ℕ)) → next_in f ≡ None → ahead_in held f (log ∷ logs) ≡ Err (NoEra log)
unfolding eras_from
none_ahead held f log logs none = ap (λ (o : Option Config). eras_from held o (log ∷ logs) >>= λ ts. Ok (take 64 (take (logs_in f) (eras_in f) ++ ts))) none

-- ---- the era of the next log

module _ (f : Filled) (filled : IsFilled f) (n : ℕ) (count : n ≡ logs_in f) (core : CoreState) (there : slice_get f.eras n ≡ Some core) where
  abbrev pub its : slice_get f.eras (logs_in f) ≡ Some core
  its = subst (λ (k : ℕ). slice_get f.eras k ≡ Some core) count there

  pub next_is : next_in f ≡ Some core.config
  next_is = ap (option_map (λ (c : CoreState). c.config)) its

  pub is_there : logs_in f < length f.eras
  is_there = slice_get_within f.eras (logs_in f) core its

  pub like_last : (config : Config) → config ≡ core.config → IfSome (last_core f.eras) (λ last. config ≡ last.config)
  like_last config same =
      let end : length f.eras - 1 ≡ logs_in f = (let most = filled.no_more in let below = is_there in omega arith) in
      subst (λ (o : Option CoreState). IfSome o (λ last. config ≡ last.config)) (sym (ap (slice_get f.eras) end ∙ its)) same

-- it isn't there
pub next_none : (f : Filled) (n : ℕ) → n ≡ logs_in f → slice_get f.eras n ≡ None → next_in f ≡ None
next_none f n count none = ap (option_map (λ (c : CoreState). c.config)) (ap (slice_get f.eras) (sym count) ∙ none)

-- ---- a log was taken

module _ (f g : Filled) (t : Taken) (few : logs_in f < 64) (filled : IsFilled f) (has : HasTaken f g t) where
  -- the next era, if it is opened
  abbrev os : List CoreState
  os = cond (logs_in g == 64) [] (opened (next_of t.core))

  one : logs_in g ≡ logs_in f + 1
  one = ap length has.counts ∙ length-append f.counts.items (record { refused = t.refused; repeats = t.repeats } ∷ [])

  front : length (take (logs_in f) f.eras) ≡ logs_in f
  front = length-take-le (logs_in f) f.eras filled.there

  long : length g.eras ≡ logs_in f + 1 + length os
  long = ap length has.eras ∙ (let sum = length-append (take (logs_in f) f.eras) (t.core ∷ os) in omega (arith, sum, front))

  behind : slice_get g.eras (logs_in g) ≡ slice_get os 0
  behind =
      ap (λ (cs : List CoreState). slice_get cs (logs_in g)) has.eras
      ∙ get_behind (take (logs_in f) f.eras) os t.core (logs_in g) (omega (arith, one, front))

  few_opened : (o : Option Config) → length (opened o) ≤ 1
  few_opened None = omega arith
  few_opened (Some config) = omega arith

  few_os : (logs_in f + 1 + length os ≤ 64) × (length os ≤ 1)
  few_os = go (logs_in g == 64) refl
    where
      go : (b : Bool) → (logs_in g == 64) ≡ b → (logs_in f + 1 + length (cond b [] (opened (next_of t.core))) ≤ 64) × (length (cond b [] (opened (next_of t.core))) ≤ 1)
      go true e = (omega arith, omega arith)
      go false e =
          let other = eqb-false (logs_in g) 64 e in
          let less : logs_in f < 63 = omega (arith, other, one) in
          (let one_more = few_opened (next_of t.core) in omega arith, few_opened (next_of t.core))

  begun_first : (o : Option Config) (c : CoreState) → slice_get (opened o) 0 ≡ Some c → c ≡ begun c.config
  begun_first None c e = absurd cc
  begun_first (Some config) c e = (let same : begun config ≡ c = cc in sym same ∙ ap (λ (k : CoreState). begun k.config) same)

  empty_os : (b : Bool) (c : CoreState) → slice_get (cond b [] (opened (next_of t.core))) 0 ≡ Some c → c ≡ begun c.config
  empty_os true c e = absurd cc
  empty_os false c e = begun_first (next_of t.core) c e

  pub still_filled : IsFilled g
  still_filled = record {
    few = omega (arith, one);
    few_eras = (let sum = few_os.0 in omega (arith, long));
    there = omega (arith, one, long);
    no_more = (let most = few_os.1 in omega (arith, one, long));
    empty = λ c e. empty_os (logs_in g == 64) c (sym behind ∙ e);
  }

  pub still_first : (core : CoreState) → slice_get f.eras (logs_in f) ≡ Some core → t.core.config ≡ core.config → first_config g.eras ≡ first_config f.eras
  still_first core there same = ap first_config has.eras ∙ first_kept f.eras os (logs_in f) core t.core there same

  -- the eras that got their logs
  taken_more : take (logs_in g) (eras_in g) ≡ take (logs_in f) (eras_in f) ++ t ∷ []
  taken_more =
      let k = logs_in f in
      let xs : List Taken = take k (eras_in f) in
      let at : length xs ≡ k = length-take-le k (eras_in f) (let count = counted_length f.eras f.counts.items in let there = filled.there in omega arith) in
      let is : eras_in g ≡ xs ++ t ∷ counted os [] =
      ap (λ (cs : List CoreState). counted cs g.counts.items) has.eras
      ∙ ap (λ (cs : List EraCounts). counted (take k f.eras ++ t.core ∷ os) cs) has.counts
      ∙ counted_more f.eras os t.core f.counts.items (record { refused = t.refused; repeats = t.repeats }) filled.there in
      ap (λ (n : ℕ). take n (eras_in g)) one ∙ ap (take (k + 1)) is ∙ ap (λ (n : ℕ). take (n + 1) (xs ++ t ∷ counted os [])) (sym at) ∙ take-append-add xs (t ∷ counted os []) 1

  first_opened : (o : Option Config) → option_map (λ (c : CoreState). c.config) (slice_get (opened o) 0) ≡ o
  first_opened None = refl
  first_opened (Some config) = refl

  -- the next era is the one that was named, or there is none behind the 64th log
  pub next_taken : (next_in g ≡ None) ⊎ (next_in g ≡ next_of t.core)
  next_taken = go (logs_in g == 64) refl
    where
      go : (b : Bool) → (logs_in g == 64) ≡ b → (next_in g ≡ None) ⊎ (next_in g ≡ next_of t.core)
      go true e = inl (ap (option_map (λ (c : CoreState). c.config)) (behind ∙ ap (λ (b : Bool). slice_get (cond b [] (opened (next_of t.core))) 0) e))
      go false e = inr (ap (option_map (λ (c : CoreState). c.config)) (behind ∙ ap (λ (b : Bool). slice_get (cond b [] (opened (next_of t.core))) 0) e) ∙ first_opened (next_of t.core))

  -- so the eras that will be there are the same
  pub ahead_same : (held : Held) (log : List ℕ) (logs : List (List ℕ)) (config : Config) → next_in f ≡ Some config → log_left held (Some config) log ≡ Ok t → logs_in f + 1 + length logs ≤ 64
      → ahead_in held f (log ∷ logs) ≡ ahead_in held g logs
  unfolding eras_from
  ahead_same held log logs config next left room =
      let xs : List Taken = take (logs_in f) (eras_in f) in
      let step : ahead_in held f (log ∷ logs) ≡ ((eras_from held (next_of t.core) logs >>= λ ts. Ok (t ∷ ts)) >>= λ ts. Ok (take 64 (xs ++ ts))) =
      ap (λ (o : Option Config). eras_from held o (log ∷ logs) >>= λ ts. Ok (take 64 (xs ++ ts))) next
      ∙ ap (λ (r : Result Taken LogStop). (r >>= λ u. eras_from held (next_of u.core) logs >>= λ ts. Ok (u ∷ ts)) >>= λ ts. Ok (take 64 (xs ++ ts))) left in
      step ∙ go (logs_in g == 64) refl
    where
      rest : (r : Result (List Taken) LogStop) → ((r >>= λ ts. Ok (t ∷ ts)) >>= λ ts. Ok (take 64 (take (logs_in f) (eras_in f) ++ ts))) ≡ (r >>= λ ts. Ok (take 64 (take (logs_in g) (eras_in g) ++ ts)))
      rest (Ok ts) = ap (λ (us : List Taken). Ok (take 64 us)) (sym (append_assoc (take (logs_in f) (eras_in f)) (t ∷ []) ts)) ∙ ap (λ (us : List Taken). Ok (take 64 (us ++ ts))) (sym taken_more)
      rest (Err e) = refl

      -- behind the 64th log
      last : (ls : List (List ℕ)) → length ls ≡ 0 → logs_in f ≡ 63 → next_in g ≡ None
          → ((eras_from held (next_of t.core) ls >>= λ ts. Ok (t ∷ ts)) >>= λ ts. Ok (take 64 (take (logs_in f) (eras_in f) ++ ts))) ≡ (eras_from held (next_in g) ls >>= λ ts. Ok (take 64 (take (logs_in g) (eras_in g) ++ ts)))
      last [] short at none =
          let size : length (take (logs_in f) (eras_in f)) ≡ 63 = length-take-le (logs_in f) (eras_in f) (let count = counted_length f.eras f.counts.items in let there = filled.there in omega arith) ∙ at in
          let ends : take 64 (take (logs_in f) (eras_in f) ++ t ∷ without_log (next_of t.core)) ≡ take (logs_in f) (eras_in f) ++ t ∷ [] =
          ap (λ (n : ℕ). take (n + 1) (take (logs_in f) (eras_in f) ++ t ∷ without_log (next_of t.core))) (sym size) ∙ take-append-add (take (logs_in f) (eras_in f)) (t ∷ without_log (next_of t.core)) 1 in
          let long_ys : length (take (logs_in f) (eras_in f) ++ t ∷ []) ≡ 64 = length-append (take (logs_in f) (eras_in f)) (t ∷ []) ∙ ap (λ (n : ℕ). n + 1) size in
          let whole : take 64 (take (logs_in g) (eras_in g) ++ []) ≡ take (logs_in f) (eras_in f) ++ t ∷ [] =
          ap (take 64) (append-nil (take (logs_in g) (eras_in g)) ∙ taken_more) ∙ take_all 64 (take (logs_in f) (eras_in f) ++ t ∷ []) (omega (arith, long_ys)) in
          ap (λ (us : List Taken). Ok us) (ends ∙ sym whole) ∙ ap (λ (o : Option Config). eras_from held o [] >>= λ ts. Ok (take 64 (take (logs_in g) (eras_in g) ++ ts))) (sym none)
      last (l ∷ ls) short at none = absurd (omega arith)

      go : (b : Bool) → (logs_in g == 64) ≡ b
          → ((eras_from held (next_of t.core) logs >>= λ ts. Ok (t ∷ ts)) >>= λ ts. Ok (take 64 (take (logs_in f) (eras_in f) ++ ts))) ≡ ahead_in held g logs
      go true e =
          let at : logs_in f ≡ 63 = (let so = eqb-true (logs_in g) 64 e in omega (arith, so, one)) in
          last logs (omega (arith, at)) at (ap (option_map (λ (c : CoreState). c.config)) (behind ∙ ap (λ (b : Bool). slice_get (cond b [] (opened (next_of t.core))) 0) e))
      go false e =
          let next_is : next_in g ≡ next_of t.core =
          ap (option_map (λ (c : CoreState). c.config)) (behind ∙ ap (λ (b : Bool). slice_get (cond b [] (opened (next_of t.core))) 0) e) ∙ first_opened (next_of t.core) in
          rest (eras_from held (next_of t.core) logs) ∙ ap (λ (o : Option Config). eras_from held o logs >>= λ ts. Ok (take 64 (take (logs_in g) (eras_in g) ++ ts))) (sym next_is)

-- ---- a log is put into the last era

-- where the next era is to be opened
pub opens : (cores after : List CoreState) (k : ℕ) (o : Option ℕ) → (k ≡ 64 → ⊥) → (answer o ≡ answer None) ↔ IsLastUnended cores → (answer o ≡ answer None → after ≡ cores) → IfSome o (HasOpened cores after) → AreNodeEras after
    → (core : CoreState) → last_core cores ≡ Some core → after ≡ cores ++ cond (k == 64) [] (opened (next_of core))
opens cores after k None other none still has are core last =
    let same = still refl in
    let made = last_made after core are (ap last_core same ∙ last) in
    let unnamed : next_of core ≡ None = (ended_names core made).1 (none.0 refl core last) in
    same ∙ sym (append-nil cores) ∙ ap (λ (o : Option Config). cores ++ opened o) (sym unnamed) ∙ ap (λ (b : Bool). cores ++ cond b [] (opened (next_of core))) (sym (not_equal k other))
opens cores after k (Some number) other none still has are core last =
    let same : has.core ≡ core = (let both : Some has.core ≡ Some core = sym has.last ∙ last in cc) in
    let named : next_of core ≡ Some has.config = subst (λ (x : CoreState). next_of x ≡ Some has.config) same has.named in
    has.left ∙ ap (λ (o : Option Config). cores ++ opened o) (sym named) ∙ ap (λ (b : Bool). cores ++ cond b [] (opened (next_of core))) (sym (not_equal k other))

pub put_taken : {E : Type 0} (f x g : Filled) (t : Taken) (r : Result (Unit {0}) E) → IsFilled f → logs_in f < length f.eras → x.eras ≡ set f.eras (length f.eras - 1) t.core
    → x.counts.items ≡ f.counts.items ++ record { refused = t.refused; repeats = t.repeats } ∷ []
    → OnOk r ((core : CoreState) → last_core x.eras ≡ Some core → g.eras ≡ x.eras ++ cond (logs_in x == 64) [] (opened (next_of core))) → g.counts ≡ x.counts → OnOk r (HasTaken f g t)
put_taken f x g t (Err e) filled lt put pushed opened_so same = tt
put_taken f x g t (Ok u) filled lt put pushed opened_so same =
    let k = logs_in f in
    let long : length f.eras ≡ k + 1 = (let most = filled.no_more in omega arith) in
    let at : length f.eras - 1 ≡ k = omega arith in
    let is : x.eras ≡ take k f.eras ++ t.core ∷ [] = put ∙ ap (λ (n : ℕ). set f.eras n t.core) at ∙ set_last f.eras k t.core long in
    let count : length x.eras ≡ k + 1 = ap length put ∙ length-set f.eras (length f.eras - 1) t.core ∙ long in
    let end : length x.eras - 1 ≡ k = omega arith in
    let last : last_core x.eras ≡ Some t.core =
    ap (slice_get x.eras) end ∙ ap (λ (cs : List CoreState). slice_get cs k) put ∙ ap (λ (n : ℕ). slice_get (set f.eras n t.core) k) at ∙ last_set f.eras k t.core long in
    record {
      eras = opened_so t.core last
          ∙ ap (λ (cs : List CoreState). cs ++ cond (logs_in x == 64) [] (opened (next_of t.core))) is
          ∙ append_assoc (take k f.eras) (t.core ∷ []) (cond (logs_in x == 64) [] (opened (next_of t.core)))
          ∙ ap (λ (n : ℕ). take k f.eras ++ t.core ∷ cond (n == 64) [] (opened (next_of t.core))) (sym (ap (λ v. length v.items) same));
      counts = ap (λ v. v.items) same ∙ pushed;
    }

-- ---- the first log was taken

module _ (f : Filled) (t : Taken) (has : HasFirst f t) where
  pub one_log : logs_in f ≡ 1
  one_log = ap length has.counts

  pub first_filled : IsFilled f
  first_filled = go (next_of t.core) has.eras
    where
      go : (o : Option Config) → f.eras ≡ t.core ∷ opened o → IsFilled f
      go None e =
          let long = ap length e in
          let no : slice_get f.eras (logs_in f) ≡ None = slice_get_past f.eras (logs_in f) (omega (arith, one_log, long)) in
          record {
            few = omega (arith, one_log);
            few_eras = omega (arith, long);
            there = omega (arith, one_log, long);
            no_more = omega (arith, one_log, long);
            empty = λ c is. absurd (let bad : None ≡ Some c = sym no ∙ is in cc);
          }
      go (Some config) e =
          let long = ap length e in
          let at : slice_get f.eras (logs_in f) ≡ Some (begun config) = ap (λ (cs : List CoreState). slice_get cs (logs_in f)) e ∙ ap (slice_get (t.core ∷ begun config ∷ [])) one_log in
          record {
            few = omega (arith, one_log);
            few_eras = omega (arith, long);
            there = omega (arith, one_log, long);
            no_more = omega (arith, one_log, long);
            empty = λ c is. (let both : Some (begun config) ≡ Some c = sym at ∙ is in let same : begun config ≡ c = cc in sym same ∙ ap (λ (k : CoreState). begun k.config) same);
          }

  -- the next era is the one that was named
  pub next_first : next_in f ≡ next_of t.core
  next_first =
      ap (λ (cs : List CoreState). option_map (λ (c : CoreState). c.config) (slice_get cs (logs_in f))) has.eras
      ∙ ap (λ (n : ℕ). option_map (λ (c : CoreState). c.config) (slice_get (t.core ∷ opened (next_of t.core)) n)) one_log
      ∙ next_opened (next_of t.core)
    where
      next_opened : (o : Option Config) → option_map (λ (c : CoreState). c.config) (slice_get (t.core ∷ opened o) 1) ≡ o
      next_opened None = refl
      next_opened (Some config) = refl

  pub begun_ahead : (held : Held) (wanted : Option Config) (log : List ℕ) (logs : List (List ℕ)) → log_left held wanted log ≡ Ok t → eras_of held wanted (log ∷ logs) ≡ ahead_in held f logs
  unfolding eras_of
  begun_ahead held wanted log logs left =
      let first : take (logs_in f) (eras_in f) ≡ t ∷ [] =
      ap (λ (n : ℕ). take n (eras_in f)) one_log
      ∙ ap (λ (cs : List CoreState). take 1 (counted cs f.counts.items)) has.eras
      ∙ ap (λ (cs : List EraCounts). take 1 (counted (t.core ∷ opened (next_of t.core)) cs)) has.counts in
      ap (λ (r : Result Taken LogStop). r >>= λ u. eras_from held (next_of u.core) logs >>= λ ts. Ok (take 64 (u ∷ ts))) left
      ∙ ap (λ (us : List Taken). eras_from held (next_of t.core) logs >>= λ ts. Ok (take 64 (us ++ ts))) (sym first)
      ∙ ap (λ (o : Option Config). eras_from held o logs >>= λ ts. Ok (take 64 (take (logs_in f) (eras_in f) ++ ts))) (sym next_first)

-- ---- all logs were taken

module _ (f : Filled) (filled : IsFilled f) where
  size : length (eras_in f) ≡ length f.eras
  size = counted_length f.eras f.counts.items

  whole : take 64 (eras_in f) ≡ eras_in f
  whole = take_all 64 (eras_in f) (let few = filled.few_eras in omega (arith, size))

  pub nothing_ahead : (held : Held) → ahead_in held f [] ≡ Ok (eras_in f)
  unfolding eras_from
  nothing_ahead held = go (slice_get f.eras (logs_in f)) refl
    where
      go : (o : Option CoreState) → slice_get f.eras (logs_in f) ≡ o → ahead_in held f [] ≡ Ok (eras_in f)
      go None e =
          let past : length f.eras ≤ logs_in f = none_past f.eras (logs_in f) e in
          let all : take (logs_in f) (eras_in f) ≡ eras_in f = take_all (logs_in f) (eras_in f) (omega (arith, size)) in
          ap (λ (o : Option CoreState). eras_from held (option_map (λ (c : CoreState). c.config) o) [] >>= λ ts. Ok (take 64 (take (logs_in f) (eras_in f) ++ ts))) e
          ∙ ap (λ (us : List Taken). Ok (take 64 us)) (append-nil (take (logs_in f) (eras_in f)) ∙ all) ∙ ap (λ (us : List Taken). Ok us) whole
        where
          none_past : (xs : List CoreState) (k : ℕ) → slice_get xs k ≡ None → length xs ≤ k
          none_past [] k is = omega arith
          none_past (x ∷ xs) zero is = absurd cc
          none_past (x ∷ xs) (suc k) is = (let le = none_past xs k is in omega arith)
      go (Some c) e =
          let long : length f.eras ≡ logs_in f + 1 = (let below = slice_get_within f.eras (logs_in f) c e in let most = filled.no_more in omega arith) in
          let empty : record { core = c; refused = 0; repeats = 0 } ≡ nothing_taken c.config = ap (λ (k : CoreState). record { core = k; refused = 0; repeats = 0 }) (filled.empty c e) in
          let last : take (logs_in f) (eras_in f) ++ nothing_taken c.config ∷ [] ≡ eras_in f =
          ap (λ (t : Taken). take (logs_in f) (eras_in f) ++ t ∷ []) (sym empty) ∙ sym (counted_last f.eras f.counts.items c long e) in
          ap (λ (o : Option CoreState). eras_from held (option_map (λ (k : CoreState). k.config) o) [] >>= λ ts. Ok (take 64 (take (logs_in f) (eras_in f) ++ ts))) e
          ∙ ap (λ (us : List Taken). Ok (take 64 us)) last ∙ ap (λ (us : List Taken). Ok us) whole
