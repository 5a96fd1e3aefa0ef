use Rattle.std.proofs.Common.{◌≡◌, ◌++◌, drop}
use Rattle.ec_ctypes.specs.views.Exprs.{exprs_view, inits_view, declarators_view, decls_view, dims_view}
use Rattle.ec_writing_defs.specs.Chunks.{text_of}
use Rattle.ec_writing_defs.specs.Expressions.{list_chunks, inits_chunks, declarators_chunks, members_chunks, dims_chunks}
use Rattle.ec_cwrite.proofs.Remains.{exprs_from, inits_from, declarators_from}
use Rattle.ec_cwrite.proofs.expressions.+exprs.Given as goal

abbrev pub invariant-push_list-loop-at : goal.invariant-push_list-loop-at
invariant-push_list-loop-at l =
    l.out ++ text_of (exprs_from l.at (exprs_view (drop l.at l.exprs))) ≡ l.initial.out ++ text_of (list_chunks (exprs_view l.exprs))

abbrev pub invariant-push_inits-loop-at : goal.invariant-push_inits-loop-at
invariant-push_inits-loop-at l =
    l.out ++ text_of (inits_from l.at (inits_view (drop l.at l.inits))) ≡ l.initial.out ++ text_of (inits_chunks (inits_view l.inits))

abbrev pub invariant-push_declarators-loop-at : goal.invariant-push_declarators-loop-at
invariant-push_declarators-loop-at l =
    l.out ++ text_of (declarators_from l.at (declarators_view (drop l.at l.items))) ≡ l.initial.out ++ text_of (declarators_chunks (declarators_view l.items))

abbrev pub invariant-push_members-loop-member : goal.invariant-push_members-loop-member
invariant-push_members-loop-member l =
    l.out ++ text_of (members_chunks (decls_view (drop l.member-index l.members))) ≡ l.initial.out ++ text_of (members_chunks (decls_view l.members))

abbrev pub invariant-push_dims-loop-dim : goal.invariant-push_dims-loop-dim
invariant-push_dims-loop-dim l =
    l.out ++ text_of (dims_chunks (dims_view (drop l.dim-index l.dims))) ≡ l.initial.out ++ text_of (dims_chunks (dims_view l.dims))
