-- The parts of a report.
use Rattle.std.proofs.Common.{◌≡◌, ℕ, ◌+◌, Bool, true, false, cond, List, [], ◌∷◌, ◌++◌, map, Some, refl, sym, ap, ◌∙◌, arith, append-nil}
use Rattle.std.proofs.lemmas.List.FromFn.{filter_of_map_range_with_len_more}
use Rattle.std.specs.Prelude.{filter, ◌||◌}
use Rattle.std.specs.List.{flat_map, range_with_len}
use Rattle.std.specs.Prelude.{take, slice_get}
use Rattle.std.proofs.lemmas.List.{take_more}
use Rattle.std.proofs.lemmas.Option.{slice_get_within, get_or_from_slice_get}
use Rattle.std.proofs.lemmas.Grind.{flat_map-append}
use Rattle.hw_safety.specs.Decided.{decisions_of}
use Rattle.hw_types.specs.declared.unit.Vertex.{Vertex}
use Rattle.hw_types.specs.Graph.{Node}
use Rattle.hw_types.specs.Settled.{has_evidence, equivocates, is_faulty}
use Rattle.hw_types.specs.Journal.{Setting, received_of}
use Rattle.hw_types.specs.Real.{CoreState, received_in, settled_in}
use Rattle.hw_dag.specs.Dag.{graph}
use Rattle.hw_admit.specs.State.{NodeState, is_marked, is_faulty_in}
use Rattle.hw_explain.specs.Report.{counts_line, faulty_line, fork_line, final_line, exceeded_line, counts_of, faulty_in, fork_in, exceeded_in, report_with, report_text}

-- the report, line by line
pub report_parts : (s : Setting) (journal : List Vertex) (refused repeats : ℕ)
    → counts_line (counts_of s.config (received_of s journal) refused repeats) ++ faulty_line (faulty_in s.config (received_of s journal)) ++ fork_line (fork_in s.config (received_of s journal)) ++ flat_map final_line (decisions_of s journal) ++ exceeded_line (exceeded_in s.config (received_of s journal))
    ≡ report_text s journal refused repeats
unfolding report_with
report_parts s journal refused repeats = refl

-- one more line
pub one_more : {X : Type 0} (f : X → List ℕ) (xs : List X) (i : ℕ) (x : X) → Some x ≡ slice_get xs i → flat_map f (take i xs) ++ f x ≡ flat_map f (take (i + 1) xs)
one_more f xs i x is =
    let within = slice_get_within xs i x (sym is) in
    sym (ap (flat_map f) (take_more xs i x within ∙ ap (λ y. take i xs ++ y ∷ []) (get_or_from_slice_get xs i x x (sym is))) ∙ flat_map-append f (take i xs) (x ∷ []) ∙ ap (λ l. flat_map f (take i xs) ++ l) (append-nil (f x)))

-- Who is faulty in a state is so in a node of the same settled units, where the state marks just those against whom the node has evidence.
pub faulty_is : (c : CoreState) (s : NodeState) (v : ℕ) → graph s.dag ≡ settled_in c → ((w : ℕ) → is_marked s.marked w ≡ has_evidence (received_in c).with_evidence w)
    → is_faulty_in s.marked (graph s.dag) v ≡ is_faulty (received_in c) (settled_in c) v
faulty_is c s v settled evidence =
    ap (λ (b : Bool). b || equivocates (graph s.dag) v) (evidence v)
    ∙ ap (λ (units : List Node). has_evidence (received_in c).with_evidence v || equivocates units v) settled

same_list : {X : Type 0} (xs : List X) → map (λ x. x) xs ≡ xs
same_list [] = refl
same_list (x ∷ xs) = ap (λ ys. x ∷ ys) (same_list xs)

-- one more number, where it passes
pub filter_more : (p : ℕ → Bool) (n : ℕ) → filter p (range_with_len 0 (n + 1)) ≡ filter p (range_with_len 0 n) ++ cond (p n) (n ∷ []) []
filter_more p n =
    let at : 0 + n ≡ n = omega arith in
    ap (filter p) (sym (same_list (range_with_len 0 (n + 1)))) ∙ filter_of_map_range_with_len_more p (λ x. x) 0 n n at
    ∙ ap (λ l. filter p l ++ cond (p n) (n ∷ []) []) (same_list (range_with_len 0 n))

-- it passes, or it doesn't
pub filter_passed : (p : ℕ → Bool) (n : ℕ) → p n ≡ true → filter p (range_with_len 0 n) ++ n ∷ [] ≡ filter p (range_with_len 0 (n + 1))
filter_passed p n passes = sym (filter_more p n ∙ ap (λ b. filter p (range_with_len 0 n) ++ cond b (n ∷ []) []) passes)

pub filter_left : (p : ℕ → Bool) (n : ℕ) → p n ≡ false → filter p (range_with_len 0 n) ≡ filter p (range_with_len 0 (n + 1))
filter_left p n no_ = sym (filter_more p n ∙ ap (λ b. filter p (range_with_len 0 n) ++ cond b (n ∷ []) []) no_ ∙ append-nil (filter p (range_with_len 0 n)))
