-- What a node says in a session is of its log.
use Rattle.std.specs.Prelude.{◌==◌, ◌+◌, filter_map, take, drop, map, length}
use Rattle.std.specs.List.{flat_map}
use Rattle.std.specs.Option.{option_or, option_and_then}
use Rattle.std.proofs.Common.{◌≡◌, ℕ, zero, suc, Bool, true, false, cond, List, [], ◌∷◌, ◌++◌, Option, Some, None, Result, Ok, Err, inl, inr, refl, sym, ap, subst, ◌∙◌}
use Rattle.hw_types.specs.declared.unit.Digest.{Digest}
use Rattle.hw_types.specs.declared.unit.SignedUnit.{SignedUnit}
use Rattle.hw_types.specs.declared.unit.Evidence.{Evidence}
use Rattle.hw_types.specs.declared.unit.Endorsement.{Endorsement}
use Rattle.hw_types.specs.declared.unit.Vertex.{Vertex}
use Rattle.hw_types.specs.declared.unit.Vertex.TheVariants as vertex
use Rattle.hw_types.specs.declared.unit.Need.{Need}
use Rattle.hw_types.specs.declared.unit.Need.TheVariants as need
use Rattle.hw_types.specs.declared.answers.Frame.{Frame}
use Rattle.hw_types.specs.declared.answers.Frame.TheVariants as frame
use Rattle.hw_types.specs.declared.answers.Receipt.{Receipt}
use Rattle.hw_types.specs.declared.answers.Receipt.TheVariants as receipt
use Rattle.hw_types.specs.declared.answers.Cause.{Cause}
use Rattle.hw_types.specs.declared.answers.Cause.TheVariants as cause
use Rattle.hw_types.specs.Graph.{Node, digest_eq}
use Rattle.hw_types.specs.Below.{Among}
use Rattle.hw_types.specs.Culprits.{pair_of}
use Rattle.hw_types.specs.Spelling.{digest_of, instance_of}
use Rattle.hw_types.specs.Real.{CoreState, settled_in}
use Rattle.hw_types.proofs.ClosureLaws.{Among-filter}
use Rattle.hw_types.proofs.StableLaws.{found_one}
use Rattle.hw_types.proofs.EntryLaws.{map_among, mapped_among, append_cases}
use Rattle.hw_types.proofs.UnionLaws.{from_left}
use Rattle.hw_core.specs.Readers.{signed_unit, unit_in, signed_evidence, evidence_of, signed_endorsement, endorsements_of}
use Rattle.hw_needs.specs.Needs.{evidence_between, evidence_of_pair, settled_evidence, evidence_against, unit_vertices, evidence_vertices, vertices_of}
use Rattle.hw_honest.specs.Restart.{MayGoOut}
use Rattle.hw_link.specs.declared.end.SessionEnd.{SessionEnd}
use Rattle.hw_link.specs.declared.end.SessionEnd.TheVariants as end
use Rattle.hw_link.specs.Frames.{Placed, frames_of}
use Rattle.hw_link.specs.Talk.{Reaction, Talk, goes_on, ends, with_reaction, talk}
use Rattle.hw_session.specs.Node.{NodeState}
use Rattle.hw_session.specs.Restart.{logged_of}
use Rattle.hw_session.specs.Accept.{given_to, taken_by}
use Rattle.hw_session.specs.Serving.{is_clash, wanted_by, part_from, answer_to_have, answer_to_vertex, sent_for, answer_to_want, serve_first, serve_frame, serve_step, served}
use Rattle.hw_session.specs.Sessions.{Leaves}
use Rattle.hw_session.specs.Standing.{standing}
use Rattle.hw_session.proofs.ConfigLaws.{talk_keeps}
use Rattle.hw_run_laws.specs.Restart.{vertex_in, SaysOfLog, ServedSaysOfLog, IsLogged, ServesSaysOfLog}

-- ---- members

among_take : {A : Type 0} (x : A) (n : ℕ) (xs : List A) → Among x (take n xs) → Among x xs
among_take x zero [] m = absurd m
among_take x (suc n) [] m = absurd m
among_take x zero (y ∷ ys) m = absurd m
among_take x (suc n) (y ∷ ys) (inl e) = inl e
among_take x (suc n) (y ∷ ys) (inr m) = inr (among_take x n ys m)

pub among_drop : {A : Type 0} (x : A) (n : ℕ) (xs : List A) → Among x (drop n xs) → Among x xs
among_drop x zero xs m = m
among_drop x (suc n) [] m = absurd m
among_drop x (suc n) (y ∷ ys) m = inr (among_drop x n ys m)

-- frames without a vertex
abbrev pub IsQuiet : List Frame → Type 0
IsQuiet [] = Unit {0}
IsQuiet (f ∷ fs) = (vertex_in f ≡ None) × IsQuiet fs

-- ---- what the node has for a need

module _ (c : CoreState) where
  abbrev Goes : Vertex → Type 0
  Goes v = MayGoOut (record { journal = c.journal; log = c.journal }) v

  unit_stands : (d : Digest) (u : SignedUnit) → unit_in c d ≡ Some u → Among (vertex.Unit u) c.journal
  unfolding unit_in
  unit_stands d u is = from (mapped_among signed_unit u c.journal (found_one (λ u. digest_eq d (digest_of u.unit)) u (filter_map signed_unit c.journal) is).0)
    where
      same : (x : Vertex) → signed_unit x ≡ Some u → x ≡ vertex.Unit u
      same (vertex.Unit w) e = let is : w ≡ u = cc in ap vertex.Unit is
      same (vertex.Evidence e) k = absurd cc
      same (vertex.Endorsement e) k = absurd cc

      from : ((x : Vertex) × Among x c.journal × (signed_unit x ≡ Some u)) → Among (vertex.Unit u) c.journal
      from (x, m, e) = subst (λ (w : Vertex). Among w c.journal) (same x e) m

  evidence_stands : (v : ℕ) (e : Evidence) → evidence_of c v ≡ Some e → Among (vertex.Evidence e) c.journal
  unfolding evidence_of
  evidence_stands v e is = from (mapped_among signed_evidence e c.journal (found_one (λ (f : Evidence). v == f.left.unit.creator) e (filter_map signed_evidence c.journal) is).0)
    where
      same : (x : Vertex) → signed_evidence x ≡ Some e → x ≡ vertex.Evidence e
      same (vertex.Unit w) k = absurd cc
      same (vertex.Evidence f) k = let is : f ≡ e = cc in ap vertex.Evidence is
      same (vertex.Endorsement f) k = absurd cc

      from : ((x : Vertex) × Among x c.journal × (signed_evidence x ≡ Some e)) → Among (vertex.Evidence e) c.journal
      from (x, m, k) = subst (λ (w : Vertex). Among w c.journal) (same x k) m

  endorsement_stands : (d : Digest) (e : Endorsement) → Among e (endorsements_of c d) → Among (vertex.Endorsement e) c.journal
  unfolding endorsements_of
  endorsement_stands d e m = from (mapped_among signed_endorsement e c.journal (Among-filter (λ (f : Endorsement). digest_eq d f.unit) e (filter_map signed_endorsement c.journal) m).0)
    where
      same : (x : Vertex) → signed_endorsement x ≡ Some e → x ≡ vertex.Endorsement e
      same (vertex.Unit w) k = absurd cc
      same (vertex.Evidence f) k = absurd cc
      same (vertex.Endorsement f) k = let is : f ≡ e = cc in ap vertex.Endorsement is

      from : ((x : Vertex) × Among x c.journal × (signed_endorsement x ≡ Some e)) → Among (vertex.Endorsement e) c.journal
      from (x, m, k) = subst (λ (w : Vertex). Among w c.journal) (same x k) m

  -- evidence of two units of the journal
  between_goes : (l r : Option SignedUnit) (e : Evidence) → ((u : SignedUnit) → l ≡ Some u → Among (vertex.Unit u) c.journal) → ((u : SignedUnit) → r ≡ Some u → Among (vertex.Unit u) c.journal) → evidence_between l r ≡ Some e → Goes (vertex.Evidence e)
  between_goes None r e left right is = absurd cc
  between_goes (Some l) None e left right is = absurd cc
  between_goes (Some l) (Some r) e left right is =
      let pair : record { left = l; right = r } ≡ e = cc in
      inr (e, refl, subst (λ (f : Evidence). Among (vertex.Unit f.left) c.journal) pair (left l refl), subst (λ (f : Evidence). Among (vertex.Unit f.right) c.journal) pair (right r refl))

  settled_goes : (o : Option (Node × Node)) (e : Evidence) → option_and_then (evidence_of_pair c) o ≡ Some e → Goes (vertex.Evidence e)
  settled_goes None e is = absurd cc
  settled_goes (Some pair) e is = between_goes (unit_in c pair.0.digest) (unit_in c pair.1.digest) e (unit_stands pair.0.digest) (unit_stands pair.1.digest) is

  against_goes : (v : ℕ) (e : Evidence) → evidence_against c v ≡ Some e → Goes (vertex.Evidence e)
  unfolding evidence_against
  against_goes v e is = go (evidence_of c v) refl is
    where
      go : (o : Option Evidence) → evidence_of c v ≡ o → option_or o (settled_evidence c v) ≡ Some e → Goes (vertex.Evidence e)
      go None none k = settled_goes (pair_of (settled_in c) v) e k
      go (Some f) some k = inl (evidence_stands v e (some ∙ k))

  has_goes : (n : Need) (v : Vertex) → Among v (vertices_of c n) → Goes v
  has_goes (need.Unit d) v m = go (unit_in c d) refl m
    where
      go : (o : Option SignedUnit) → unit_in c d ≡ o → Among v (unit_vertices o) → Goes v
      go None e k = absurd k
      go (Some u) e (inl is) = subst Goes is (inl (unit_stands d u e))
      go (Some u) e (inr never) = absurd never
  has_goes (need.Evidence w) v m = go (evidence_against c w) refl m
    where
      go : (o : Option Evidence) → evidence_against c w ≡ o → Among v (evidence_vertices o) → Goes v
      go None e k = absurd k
      go (Some f) e (inl is) = subst Goes is (against_goes w f e)
      go (Some f) e (inr never) = absurd never
  has_goes (need.Endorsed d) v m = let e = map_among vertex.Endorsement v (endorsements_of c d) m in subst Goes e.2 (inl (endorsement_stands d e.0 e.1))

  -- ---- the answers

  -- each vertex of these frames may go out
  abbrev pub OfLog : List Frame → Type 0
  OfLog frames = (v : Vertex) → Among (frame.Vertex v) frames → Goes v

  pub quiet : (frames : List Frame) → IsQuiet frames → OfLog frames
  quiet [] q v m = absurd m
  quiet (f ∷ fs) q v (inl e) = absurd (let no : None ≡ Some v = sym q.0 ∙ ap vertex_in e in cc)
  quiet (f ∷ fs) q v (inr m) = quiet fs q.1 v m

  -- some frames and then others
  both_of : (fs gs : List Frame) → OfLog fs → OfLog gs → OfLog (fs ++ gs)
  both_of fs gs p q v m = elim (append_cases (frame.Vertex v) fs gs m) [ inl k ↦ p v k | inr k ↦ q v k ]

  -- the frames of vertices that may go out
  vertex_frames : (vs : List Vertex) → ((v : Vertex) → Among v vs → Goes v) → OfLog (map frame.Vertex vs)
  vertex_frames vs goes v m = let x = map_among frame.Vertex (frame.Vertex v) vs m in let same : x.0 ≡ v = (let e : frame.Vertex x.0 ≡ frame.Vertex v = x.2 in cc) in subst Goes same (goes x.0 x.1)

  have_of : (place : ℕ) → OfLog (answer_to_have c.journal place)
  have_of place =
      both_of (map frame.Vertex (part_from c.journal place)) (frame.Have (place + length (part_from c.journal place)) ∷ [])
      (vertex_frames (part_from c.journal place) (λ v m. inl (among_drop v place c.journal (among_take v 256 (drop place c.journal) m))))
      (quiet (frame.Have (place + length (part_from c.journal place)) ∷ []) (refl, tt))

  sent_of : (n : Need) (vs : List Vertex) → ((v : Vertex) → Among v vs → Goes v) → OfLog (sent_for n vs)
  sent_of n [] goes = quiet (frame.Missing n ∷ []) (refl, tt)
  sent_of n (v ∷ vs) goes = vertex_frames (v ∷ vs) goes

  wanted_of : (needs : List Need) → OfLog (flat_map (λ (n : Need). sent_for n (vertices_of c n)) needs)
  wanted_of [] = quiet [] tt
  wanted_of (n ∷ ns) = both_of (sent_for n (vertices_of c n)) (flat_map (λ (n : Need). sent_for n (vertices_of c n)) ns) (sent_of n (vertices_of c n) (has_goes n)) (wanted_of ns)

  want_of : (needs : List Need) → OfLog (answer_to_want c needs)
  want_of needs = both_of (flat_map (λ (n : Need). sent_for n (vertices_of c n)) needs) (frame.Have (length c.journal) ∷ []) (wanted_of needs) (quiet (frame.Have (length c.journal) ∷ []) (refl, tt))

-- ---- journals that grow

-- each vertex of the first journal is one of the second
abbrev pub Grows : NodeState → NodeState → Type 0
Grows n m = (v : Vertex) → Among v n.core.journal → Among v m.core.journal

pub goes_later : (n m : NodeState) → Grows n m → (v : Vertex) → MayGoOut (logged_of n) v → MayGoOut (logged_of m) v
goes_later n m grows v (inl k) = inl (grows v k)
goes_later n m grows v (inr (e, is, left, right)) = inr (e, is, grows (vertex.Unit e.left) left, grows (vertex.Unit e.right) right)

pub taken_grows : (n : NodeState) (v : Vertex) (a : Result Receipt Cause) → Grows n (taken_by n v a)
taken_grows n v (Ok receipt.Repeat) w m = m
taken_grows n v (Ok (receipt.Admitted k)) w m = from_left w n.core.journal (v ∷ []) m
taken_grows n v (Ok (receipt.Parked k)) w m = from_left w n.core.journal (v ∷ []) m
taken_grows n v (Ok (receipt.Dropped rule)) w m = from_left w n.core.journal (v ∷ []) m
taken_grows n v (Err cause.BadSignature) w m = m
taken_grows n v (Err (cause.Local rule)) w m = m
taken_grows n v (Err (cause.Pair f)) w m = m
taken_grows n v (Err (cause.Clash d)) w m = m
taken_grows n v (Err cause.RecordsFull) w m = m
taken_grows n v (Err cause.ParkFull) w m = m
taken_grows n v (Err cause.OutOfMemory) w m = m

-- ---- talks

-- the node grew, and what it says is of what it is then
pub record Speaks (n : NodeState) (says : List Frame) (m : NodeState) : Type 0 where
  pub grows : Grows n m
  pub of_log : OfLog m.core says

-- it stays as it is
pub stays_speaks : (n m : NodeState) (says : List Frame) → m ≡ n → OfLog n.core says → Speaks n says m
stays_speaks n m says is of = subst (λ (k : NodeState). Speaks n says k) (sym is) (record { grows = λ v m. m; of_log = of })

module _ {S : Type 0} (IsState : S → Type 0) (node : S → NodeState) (step : S → Placed → Reaction S) (states : (s : S) (f : Placed) → IsState s → IsState (step s f).state) (speaks : (s : S) (f : Placed) → IsState s → Speaks (node s) (step s f).says (node (step s f).state)) where
  talk_grows : (end : SessionEnd) (s : S) (fs : List Placed) → IsState s → Grows (node s) (node (talk step end s fs).state)
  talk_grows end s fs is =
      let P : S → Type 0 = λ t. IsState t × Grows (node s) (node t) in
      (talk_keeps P step (λ t f p. (states t f p.0, λ v m. (speaks t f p.0).grows v (p.1 v m))) end s fs (is, λ v m. m)).1

  pub talk_says : (end : SessionEnd) (s : S) (fs : List Placed) → IsState s → SaysOfLog (logged_of (node (talk step end s fs).state)) (talk step end s fs).said
  unfolding talk
  talk_says end s [] is = λ says v m k. absurd m
  talk_says end s (f ∷ fs) is = go (talk_says end (step s f).state fs (states s f is)) (step s f).end
    where
      now : (says : List Frame) (v : Vertex) → (step s f).says ≡ says → Among (frame.Vertex v) says → MayGoOut (logged_of (node (step s f).state)) v
      now says v same k = (speaks s f is).of_log v (subst (λ (fs : List Frame). Among (frame.Vertex v) fs) (sym same) k)

      go : SaysOfLog (logged_of (node (talk step end (step s f).state fs).state)) (talk step end (step s f).state fs).said → (o : Option SessionEnd) → SaysOfLog (logged_of (node (with_reaction (record { state = (step s f).state; says = (step s f).says; end = o }) (λ t. talk step end t fs)).state)) (with_reaction (record { state = (step s f).state; says = (step s f).says; end = o }) (λ t. talk step end t fs)).said
      go rest (Some e) says v (inl same) k = now says v same k
      go rest (Some e) says v (inr never) k = absurd never
      go rest None says v (inl same) k = goes_later (node (step s f).state) (node (talk step end (step s f).state fs).state) (talk_grows end (step s f).state fs (states s f is)) v (now says v same k)
      go rest None says v (inr m) k = rest says v m k

-- ---- serving

-- to a vertex a Want is said, or nothing
answer_speaks : (n m : NodeState) (v : Vertex) (a : Result Receipt Cause) → Grows n m → Speaks n (answer_to_vertex m v a).says (answer_to_vertex m v a).state
answer_speaks n m v (Ok r) grows = record { grows = grows; of_log = quiet m.core (frame.Want (wanted_by m.core r v) ∷ []) (refl, tt) }
answer_speaks n m v (Err c) grows = go (is_clash c)
  where
    either : Bool → Reaction NodeState
    either b = cond b (ends m [] end.Clash) (goes_on m (frame.Want [] ∷ []))

    go : (b : Bool) → Speaks n (either b).says (either b).state
    go true = record { grows = grows; of_log = quiet m.core [] tt }
    go false = record { grows = grows; of_log = quiet m.core (frame.Want [] ∷ []) (refl, tt) }

-- nothing with a vertex is said
pub quiet_speaks : (n : NodeState) (says : List Frame) → IsQuiet says → Speaks n says n
quiet_speaks n says q = record { grows = λ v m. m; of_log = quiet n.core says q }

first_speaks : (n : NodeState) (f : Frame) → Speaks n (serve_first n f).says (serve_first n f).state
first_speaks n (frame.Hello instance) = go (digest_eq instance (instance_of n.core.config))
  where
    either : Bool → Reaction NodeState
    either b = cond b (goes_on n (frame.Hello (instance_of n.core.config) ∷ [])) (ends n [] end.WrongInstance)

    go : (b : Bool) → Speaks n (either b).says (either b).state
    go true = quiet_speaks n (frame.Hello (instance_of n.core.config) ∷ []) (refl, tt)
    go false = quiet_speaks n [] tt
first_speaks n (frame.Vertex v) = quiet_speaks n [] tt
first_speaks n (frame.Have place) = quiet_speaks n [] tt
first_speaks n (frame.Want needs) = quiet_speaks n [] tt
first_speaks n frame.Done = quiet_speaks n [] tt
first_speaks n (frame.Missing need) = quiet_speaks n [] tt

frame_speaks : (n : NodeState) (at : ℕ) (f : Frame) → Speaks n (serve_frame n at f).says (serve_frame n at f).state
frame_speaks n at (frame.Hello instance) = quiet_speaks n [] tt
frame_speaks n at (frame.Vertex v) = answer_speaks n (taken_by n v (given_to n v)) v (given_to n v) (taken_grows n v (given_to n v))
frame_speaks n at (frame.Have place) = record { grows = λ v m. m; of_log = have_of n.core place }
frame_speaks n at (frame.Want needs) = record { grows = λ v m. m; of_log = want_of n.core needs }
frame_speaks n at (frame.Missing need) = quiet_speaks n [] tt
frame_speaks n at frame.Done = quiet_speaks n (frame.Done ∷ []) (refl, tt)

serve_speaks : (n : NodeState) (f : Placed) → Speaks n (serve_step n f).says (serve_step n f).state
unfolding serve_step
serve_speaks n f = go (f.at == 0)
  where
    either : Bool → Reaction NodeState
    either b = cond b (serve_first n f.frame) (serve_frame n f.at f.frame)

    go : (b : Bool) → Speaks n (either b).says (either b).state
    go true = first_speaks n f.frame
    go false = frame_speaks n f.at f.frame

-- the first word, and then the talk
pub said_first : (n : NodeState) (first : List Frame) (said : List (List Frame)) → IsQuiet first → SaysOfLog (logged_of n) said → SaysOfLog (logged_of n) (first ∷ said)
said_first n first said q rest says v (inl is) k = quiet n.core first q v (subst (λ (fs : List Frame). Among (frame.Vertex v) fs) (sym is) k)
said_first n first said q rest says v (inr m) k = rest says v m k

pub served_says : ServedSaysOfLog
served_says n bytes =
    let t : Talk NodeState = talk serve_step (frames_of bytes).end n (frames_of bytes).given in
    said_first t.state [] t.said tt
    (talk_says (λ (m : NodeState). Unit {0}) (λ (m : NodeState). m) serve_step (λ m f is. tt) (λ m f is. serve_speaks m f) (frames_of bytes).end n (frames_of bytes).given tt)

-- ---- sessions that took place

pub serves_says : ServesSaysOfLog
serves_says n m read written tells held_old held_new ends_old ends_new e s logged = go e logged s.left
  where
    whole : m ≡ (served n read).state → SaysOfLog (logged_of m) (served n read).said
    whole is = subst (λ (k : NodeState). SaysOfLog (logged_of k) (served n read).said) (sym is) (served_says n read)

    go : (e : SessionEnd) → IsLogged e → Leaves e tells (standing n held_old) read written (standing m held_new) → SaysOfLog (logged_of m) (served n read).said
    go end.Done logged left = whole left.0
    go end.EndOfInput logged left = whole left.0
    go end.WrongInstance logged left = whole left.0
    go (end.BadFrame at) logged left = whole left.0
    go end.LinkFault logged left = whole left.0
    go end.ByteLimit logged left = whole left.0
    go end.Clash logged left = whole left.0
    go end.AppendFault logged left = absurd logged
    go end.OutOfMemory logged left = absurd logged
