-- The units of a round.
use Rattle.std.proofs.Common.{◌≡◌, ℕ, zero, suc, ◌+◌, ◌*◌, ◌^◌, ◌<◌, ◌≤◌, ◌==◌, not, inl, inr, Bool, cond, List, [], ◌∷◌, ◌++◌, length, map, drop, get_or, Option, Some, None, refl, sym, ap, subst, ◌∙◌, arith, append_assoc, eq-eqb}
use Rattle.std.specs.Prelude.{fold, filter, IfSome}
use Rattle.std.specs.Option.{option_map}
use Rattle.std.specs.List.{range_with_len}
use Rattle.std.proofs.Math.ListN.{length-set}
use Rattle.std.proofs.lemmas.List.{length-map, map-append, drop_all}
use Rattle.std.proofs.lemmas.Bool.{cases_eq, ne_eqb}
use Rattle.std.proofs.lemmas.List.FromFn.{length-range_with_len}
use Rattle.std.proofs.lemmas.Simd.{map-map}
use Rattle.hw_types.specs.declared.config.Config.{Config}
use Rattle.hw_types.specs.declared.unit.Digest.{Digest}
use Rattle.hw_types.specs.declared.unit.WireUnit.{WireUnit}
use Rattle.hw_types.specs.declared.unit.Vertex.{Vertex}
use Rattle.hw_types.specs.Below.{Among}
use Rattle.hw_types.specs.Graph.{Node}
use Rattle.hw_types.specs.Real.{setting_of}
use Rattle.hw_types.specs.Rounds.{leader_of}
use Rattle.hw_types.specs.Settled.{validators}
use Rattle.sha2.specs.Sha256.{sha256}
use Rattle.hw_types.specs.Spelling.{u32_bytes, unit_bytes, digest_of, Fits, VertexFits}
use Rattle.hw_types.proofs.ClosureLaws.{Among-filter}
use Rattle.hw_types.proofs.EntryLaws.{map_among, append_cases}
use Rattle.hw_types.proofs.WordsLaws.{range_below}
use Rattle.hw_honest.specs.Cluster.{signed}
use Rattle.hw_honest.specs.Generated.{next_unit, units_of_round}
use Rattle.hw_cluster.specs.Lanes.{LanesState, highest, observed, unit_over, with_unit}
use Rattle.hw_cluster.specs.Made.{lanes_of, made_over, vertices_of, AreBelow, AreOurs}
use Rattle.hw_cluster.specs.Nodes.{AllFit}
use Rattle.hw_cluster.proofs.LanesLaws.{highest_at, highest_set, lanes_length, lanes_all, next_is, AreUnits}

-- the digest of the unit's spelling
abbrev pub hash_of : WireUnit → List ℕ
hash_of u = sha256 (unit_bytes u)

pub name_is : (u : WireUnit) (digest : List ℕ) → digest ≡ hash_of u → (let name : Digest = record { 0 = digest } in name ≡ digest_of u)
unfolding digest_of
name_is u digest e = ap (λ (d : List ℕ). record { 0 = d }) e

-- ---- notes

pub notes_length : (lanes : LanesState) (units : List WireUnit) → length (fold with_unit lanes units).last ≡ length lanes.last
notes_length lanes [] = refl
notes_length lanes (u ∷ us) = notes_length (with_unit lanes u) us ∙ length-set lanes.last u.creator _

pub notes_low : (lanes : LanesState) (units : List WireUnit) (m : ℕ) → highest lanes.last ≤ m → ((u : WireUnit) → Among u units → u.seq + 1 ≤ m) → highest (fold with_unit lanes units).last ≤ m
notes_low lanes [] m low each = low
notes_low lanes (u ∷ us) m low each = notes_low (with_unit lanes u) us m (highest_set lanes.last u.creator _ m low (each u (inl refl))) (λ w n. each w (inr n))

-- the digest in a place, where those from there on are of these units
pub next_of : (digests : List (List ℕ)) (k : ℕ) (u : WireUnit) (us : List WireUnit) → drop k digests ≡ hash_of u ∷ map hash_of us
    → (k < length digests) × ((d : List ℕ) → get_or digests k d ≡ hash_of u) × (drop (k + 1) digests ≡ map hash_of us)
next_of [] k u us e = (let none = sym (drop_all k [] (omega arith)) ∙ e in absurd cc)
next_of (d ∷ ds) zero u us e = (omega arith, λ other. cc, cc)
next_of (d ∷ ds) (suc k) u us e =
    let rest = next_of ds k u us e in
    let behind : suc k + 1 ≡ suc (k + 1) = omega arith in
    (omega (arith, rest.0), rest.1, ap (λ (n : ℕ). drop n (d ∷ ds)) behind ∙ rest.2)

-- ---- the units of some makers

module _ (lanes : LanesState) (time : ℕ) (value : Option ℕ) where
  abbrev pub over : ℕ → WireUnit
  over v = unit_over lanes v time (option_map u32_bytes value)

  short : (o : Option ℕ) → IfSome (option_map u32_bytes o) (λ bytes. length bytes ≤ 4096)
  short None = tt
  short (Some n) = omega arith

  pub over_ours : (makers : List ℕ) → length lanes.last ≤ 1024 → time < 2 ^ 63 → AreBelow (length lanes.last) makers → AreOurs (length lanes.last) (map over makers)
  over_ours makers few early below u m =
      let v = map_among over u makers m in
      let same = length-map lanes.last observed in
      let fits : Fits (over v.0) = record { time = early; panorama = omega arith; value = short value; endorsed = omega arith } in
      subst (λ (w : WireUnit). Fits w × (w.creator < length lanes.last)) v.2 (fits, below v.0 v.1)

  pub over_low : (makers : List ℕ) → highest (fold with_unit lanes (map over makers)).last ≤ highest lanes.last + 1
  over_low makers = notes_low lanes (map over makers) (highest lanes.last + 1) (omega arith) each
    where
      each : (u : WireUnit) → Among u (map over makers) → u.seq + 1 ≤ highest lanes.last + 1
      each u m =
          let v = map_among over u makers m in
          let low = highest_at lanes.last v.0 in
          subst (λ (w : WireUnit). w.seq + 1 ≤ highest lanes.last + 1) v.2 (omega arith)

pub vertices_fit : (n : ℕ) (vs : List Vertex) (units : List WireUnit) → AreOurs n units → AllFit vs → AllFit (vs ++ map signed units)
vertices_fit n vs units ours fit v m = elim (append_cases v vs (map signed units) m) [
  | inl old ↦ fit v old
  | inr new ↦ (let u = map_among signed v units new in subst VertexFits u.2 (ours u.0 u.1).0)
]

module _ (config : Config) (made : List Node) (makers : List ℕ) (time : ℕ) (value : Option ℕ) where
  abbrev new_ones : List Node
  new_ones = made_over config made makers time value

  new_are : AreBelow (length config.weights) makers → AreUnits config new_ones
  new_are below x m =
      let v = map_among (λ w. next_unit (setting_of config) made w time (option_map u32_bytes value)) x makers m in
      subst (λ (y : Node). (y.digest ≡ digest_of y.unit) × (y.unit.creator < length config.weights)) v.2 (refl, below v.0 v.1)

  -- what is made over the kept lanes are the new units
  over_is : (vs : List ℕ) → AreBelow (length config.weights) vs → map (over (lanes_of config made) time value) vs ≡ map (λ (x : Node). x.unit) (made_over config made vs time value)
  over_is [] below = refl
  over_is (v ∷ vs) below = (let e = next_is config made v (below v (inl refl)) time (option_map u32_bytes value) in let f = over_is vs (λ w m. below w (inr m)) in λ i. e i ∷ f i)

  below_is : (lanes : LanesState) → lanes ≡ lanes_of config made → AreBelow (length lanes.last) makers → AreBelow (length config.weights) makers
  below_is lanes is below v m = (let lt = below v m in let e = ap (λ (l : LanesState). length l.last) is ∙ lanes_length config made in omega arith)

  units_are : (lanes : LanesState) → lanes ≡ lanes_of config made → AreBelow (length lanes.last) makers → map (over lanes time value) makers ≡ map (λ (x : Node). x.unit) new_ones
  units_are lanes is below = ap (λ (l : LanesState). map (over l time value) makers) is ∙ over_is makers (below_is lanes is below)

  pub made_sent : (lanes : LanesState) (sent : List Vertex) → lanes ≡ lanes_of config made → AreBelow (length lanes.last) makers → sent ++ map signed (map (over lanes time value) makers) ≡ sent ++ vertices_of new_ones
  made_sent lanes sent is below = ap (λ (us : List WireUnit). sent ++ map signed us) (units_are lanes is below) ∙ ap (λ (vs : List Vertex). sent ++ vs) (map-map signed (λ (x : Node). x.unit) new_ones)

  pub made_lanes : (lanes : LanesState) → lanes ≡ lanes_of config made → AreBelow (length lanes.last) makers → fold with_unit lanes (map (over lanes time value) makers) ≡ lanes_of config (made ++ new_ones)
  made_lanes lanes is below =
      ap (λ (us : List WireUnit). fold with_unit lanes us) (units_are lanes is below)
      ∙ ap (λ (l : LanesState). fold with_unit l (map (λ (x : Node). x.unit) new_ones)) is
      ∙ sym (lanes_all config made new_ones (new_are (below_is lanes is below)))

-- ---- a round

-- what one step of making leaves: the new units are sent, and noted
abbrev pub Makes : LanesState → LanesState → List Vertex → List Vertex → List ℕ → ℕ → Option ℕ → Type 0
Makes before after sent then makers time value =
    (config : Config) (made : List Node) → before ≡ lanes_of config made
    → (then ≡ sent ++ vertices_of (made_over config made makers time value)) × (after ≡ lanes_of config (made ++ made_over config made makers time value))

-- the units of three steps, one after the other
abbrev pub round_over : Config → List Node → ℕ → List ℕ → List ℕ → ℕ → ℕ → List Node
round_over config made leader others everybody t j =
    let block = made_over config made (leader ∷ []) t (Some j) in
    let confirms = made_over config (made ++ block) others (t + 1) None in
    block ++ (confirms ++ made_over config ((made ++ block) ++ confirms) everybody (t + 10) None)

pub round_is : (config : Config) (made : List Node) (j : ℕ) → (let leader = leader_of config (16 * j) in
    round_over config made leader (filter (λ v. not (v == leader)) (validators config)) (validators config) (16 * j) j ≡ units_of_round (setting_of config) made j)
round_is config made j = refl

module _ (config : Config) (made : List Node) (l0 l1 l2 l3 : LanesState) (s0 s1 s2 s3 : List Vertex) (leader : ℕ) (others everybody : List ℕ) (t j : ℕ) where
  abbrev all_made : List Node
  all_made = round_over config made leader others everybody t j

  pub steps_made : s0 ≡ [] → Makes l0 l1 s0 s1 (leader ∷ []) t (Some j) → Makes l1 l2 s1 s2 others (t + 1) None → Makes l2 l3 s2 s3 everybody (t + 10) None
      → l0 ≡ lanes_of config made → (s3 ≡ vertices_of all_made) × (l3 ≡ lanes_of config (made ++ all_made))
  steps_made none first second third e =
      let block = made_over config made (leader ∷ []) t (Some j) in
      let confirms = made_over config (made ++ block) others (t + 1) None in
      let witnesses = made_over config ((made ++ block) ++ confirms) everybody (t + 10) None in
      let a = first config made e in
      let b = second config (made ++ block) a.1 in
      let c = third config ((made ++ block) ++ confirms) b.1 in (
        c.0 ∙ ap (λ (vs : List Vertex). vs ++ vertices_of witnesses) (b.0 ∙ ap (λ (vs : List Vertex). vs ++ vertices_of confirms) (a.0 ∙ ap (λ (vs : List Vertex). vs ++ vertices_of block) none))
            ∙ append_assoc (vertices_of block) (vertices_of confirms) (vertices_of witnesses)
            ∙ ap (λ (vs : List Vertex). vertices_of block ++ vs) (sym (map-append (λ (x : Node). signed x.unit) confirms witnesses))
            ∙ sym (map-append (λ (x : Node). signed x.unit) block (confirms ++ witnesses)),
        c.1 ∙ ap (λ (xs : List Node). lanes_of config xs) (append_assoc (made ++ block) confirms witnesses ∙ append_assoc made block (confirms ++ witnesses)),
      )

-- three steps make the units of a round
pub round_made : (config : Config) (made : List Node) (l0 l1 l2 l3 : LanesState) (s0 s1 s2 s3 : List Vertex) (leader : ℕ) (others everybody : List ℕ) (t j : ℕ)
    → t ≡ 16 * j → everybody ≡ range_with_len 0 (length l0.last) → others ≡ filter (λ v. not (v == leader)) everybody
    → s0 ≡ [] → Makes l0 l1 s0 s1 (leader ∷ []) t (Some j) → Makes l1 l2 s1 s2 others (t + 1) None → Makes l2 l3 s2 s3 everybody (t + 10) None
    → l0 ≡ lanes_of config made → leader ≡ leader_of config (16 * j)
    → (s3 ≡ vertices_of (units_of_round (setting_of config) made j)) × (l3 ≡ lanes_of config (made ++ units_of_round (setting_of config) made j))
round_made config made l0 l1 l2 l3 s0 s1 s2 s3 leader others everybody t j time all rest none first second third e leads =
    let vs = all ∙ ap (range_with_len 0) (ap (λ (l : LanesState). length l.last) e ∙ lanes_length config made) in
    let is : round_over config made leader others everybody t j ≡ units_of_round (setting_of config) made j =
    ap (λ os. round_over config made leader os everybody t j) rest
    ∙ ap (λ es. round_over config made leader (filter (λ v. not (v == leader)) es) es t j) vs
    ∙ ap (λ v. round_over config made v (filter (λ w. not (w == v)) (validators config)) (validators config) t j) leads
    ∙ ap (λ u. round_over config made (leader_of config (16 * j)) (filter (λ w. not (w == leader_of config (16 * j))) (validators config)) (validators config) u j) time
    ∙ round_is config made j in
    let done = steps_made config made l0 l1 l2 l3 s0 s1 s2 s3 leader others everybody t j none first second third e in
    (done.0 ∙ ap vertices_of is, done.1 ∙ ap (λ (xs : List Node). lanes_of config (made ++ xs)) is)

-- ---- who makes them

pub all_below : (n m : ℕ) (vs : List ℕ) → vs ≡ range_with_len 0 n → n ≡ m → AreBelow m vs
all_below n m vs e same v there = (let lt = (range_below 0 n v (subst (λ (ws : List ℕ). Among v ws) e there)).1 in omega arith)

pub others_below : (m leader : ℕ) (vs others : List ℕ) → others ≡ filter (λ v. not (v == leader)) vs → AreBelow m vs → AreBelow m others
others_below m leader vs others e below v there = below v (Among-filter (λ w. not (w == leader)) v vs (subst (λ (ws : List ℕ). Among v ws) e there)).0

-- ---- how many there are

abbrev but : ℕ → ℕ → Bool
but leader v = not (v == leader)

later_stay : (n a leader : ℕ) → leader < a → filter (but leader) (range_with_len a n) ≡ range_with_len a n
later_stay zero a leader lt = refl
later_stay (suc n) a leader lt =
    ap (λ b. cond (not b) (a ∷ filter (but leader) (range_with_len (a + 1) n)) (filter (but leader) (range_with_len (a + 1) n))) (ne_eqb a leader (omega arith))
    ∙ ap (λ (vs : List ℕ). a ∷ vs) (later_stay n (a + 1) leader (omega arith))

-- one of them is left out
left_out : (n a leader : ℕ) → a ≤ leader → leader < a + n → length (filter (but leader) (range_with_len a n)) + 1 ≡ n
left_out zero a leader le lt = absurd (omega arith)
left_out (suc n) a leader le lt = elim (cases_eq a leader) [
  | inl here ↦ (
      let e = ap (λ b. cond (not b) (a ∷ filter (but leader) (range_with_len (a + 1) n)) (filter (but leader) (range_with_len (a + 1) n))) (eq-eqb a leader here) ∙ later_stay n (a + 1) leader (omega arith) in
      let same = ap (λ (vs : List ℕ). length vs) e ∙ length-range_with_len (a + 1) n in
      omega arith)
  | inr other ↦ (
      let e = ap (λ b. cond (not b) (a ∷ filter (but leader) (range_with_len (a + 1) n)) (filter (but leader) (range_with_len (a + 1) n))) (ne_eqb a leader other) in
      let same = ap (λ (vs : List ℕ). length vs) e in
      let rest = left_out n (a + 1) leader (omega arith) (omega arith) in
      omega arith)
]

pub round_count : (n leader none first second third : ℕ) (others everybody : List ℕ) → leader < n → everybody ≡ range_with_len 0 n → others ≡ filter (but leader) everybody
    → none ≡ 0 → first ≡ none + 1 → second ≡ first + length others → third ≡ second + length everybody → third ≡ 2 * n
round_count n leader none first second third others everybody lt all rest z a b c =
    let whole = ap (λ (vs : List ℕ). length vs) all ∙ length-range_with_len 0 n in
    let few = ap (λ (vs : List ℕ). length vs) (rest ∙ ap (filter (but leader)) all) in
    let out = left_out n 0 leader (omega arith) (omega arith) in
    omega arith
