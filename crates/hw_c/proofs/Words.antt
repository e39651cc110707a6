-- The names that the walks of this crate share.
pub use mathlib.Core.Path.{◌≡◌, refl, sym, subst, ap, ◌∙◌}
pub use mathlib.Core.List.{List, [], ◌∷◌, ◌++◌}
pub use mathlib.Core.Bool.{Bool, true, false, not}
pub use lib.Dec.{T, lit<}
pub use mir.Syntax.{Args, Body, Fn, a_type, dcons, dnil, w8, w64}
pub use mir.MapTy.{inst_fn}
pub use mir.Val.{Val, vbool, vint, vnull, vptr, vstruct, vcons, vnil, of_list, has_ty, WT}
pub use base.Logic.{SProp, ent, emp, never, id⊢, fst∗}
pub use base.Fml.{Fml, ftrue, fsep, flft}
pub use contract.BorrowLft.{◌⊑◌}
pub use contract.Monad.{fact, fact_i}
pub use contract.Running.{tables}
pub use prog.Wp.{WpFn}
pub use types.Logic.{Logic, sem}
pub use types.Kit.{Item, Seq, Sq, at_ret, ‵, raw, ◌⊛◌, some, later, prop, ◌$◌, ◌∵◌, !, qed, by, move, keep, drop, use0, use1, join, split, split3, pick, await, rewrite, fsplit, fjoin, fpick, fpack, feq_i, feq_l, suffices, done}
pub use types.Match.{live}
pub use types.Part.{whole, sub, agg}
pub use types.Run.{stop, fld, lit, bin, no_more, and_then, of_opd, returns, returns_within, enter, first, blocks, branches, skips, exec}
pub use types.ByLocal.{alloc_all, pass_all, free_all, look_at, get, get_in, sets, is, lands_as, lands_last, env}
pub use denote.Exit.{yes, no}
pub use denote.RattleType.{RattleType}
pub use denote.Param.{bounded, layout}
pub use denote.RawPtr.{Ptr, RawPtr, block_ptr, null_ptr, ptr_val, in_a_block, tests_null}
pub use denote.Signature.{plain, type_at}
pub use denote.Steps.{heard, nothing, only}
pub use denote.Struct.Tuple.{Tuple}
pub use denote.Triple.Call.{calls_at, calls_at_last}
pub use denote.Triple.Clauses.{Lasts, lasts}
pub use denote.Triple.Spec.{triple_of}
pub use denote.Triple.Table.{framed}
pub use denote.Triple.Walked.{Stays, stay_dropped, walk_of, Goes-dropped}
pub use Rattle.core.proofs.alloc.Calls.{token, handle_tells, Fits, Goes-blank}
pub use Rattle.std_alloc.specs.Box.Ownership.{box_owns}
pub use Rattle.std_alloc.proofs.BoxSteps.Form.{Bx, D, R, P, B, τ, handle, word, box_typed}
pub use Rattle.std_alloc.proofs.BoxSteps.Steps.{box_out, box_in}
pub use Rattle.std.proofs.raw_atomic.Walks.{proved_at, leaves}
