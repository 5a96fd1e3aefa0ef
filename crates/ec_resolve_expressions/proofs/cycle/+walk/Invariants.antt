use Rattle.std.proofs.Common.{◌≡◌, ◌+◌, ◌*◌, List, [], ◌++◌, length, drop, map}
use Rattle.ec_ctypes.specs.views.Exprs.{expr_view, exprs_view, dims_view, inits_view, decl_view, decls_view, declarators_view}
use Rattle.ec_resolve_forms.specs.Seen.{found_view, from, mapped}
use Rattle.ec_known.specs.Forms.{arguments_view}
use Rattle.ec_resolving_defs.specs.Expressions.{expr, args, lengths, members, member_decl, member_items, all_init_exprs}
use Rattle.ec_resolving_defs.specs.Storage.{chain}
use Rattle.ec_scopes.specs.Entries.{place_view, named_view, type_view}
use Rattle.ec_walk.proofs.Leanings.{leaning, spine_view}
use Rattle.ec_resolve_expressions.specs.Behind.{risen}
use Rattle.ec_resolve_expressions.proofs.cycle.+walk.Given as goal

abbrev pub decreases-expr_within : goal.decreases-expr_within
decreases-expr_within l = 10 * l.levels

abbrev pub decreases-base_within : goal.decreases-base_within
decreases-base_within l = 10 * l.levels

abbrev pub decreases-init_list : goal.decreases-init_list
decreases-init_list l = 10 * l.levels + 1

abbrev pub decreases-argument : goal.decreases-argument
decreases-argument l = 10 * l.levels + 1

abbrev pub decreases-lengths_within : goal.decreases-lengths_within
decreases-lengths_within l = 10 * l.levels + 2

abbrev pub decreases-init_exprs : goal.decreases-init_exprs
decreases-init_exprs l = 10 * l.levels + 2

abbrev pub decreases-length_at : goal.decreases-length_at
decreases-length_at l = 10 * l.levels + 1

abbrev pub decreases-last_length_within : goal.decreases-last_length_within
decreases-last_length_within l = 10 * l.levels + 3

abbrev pub decreases-outer_lengths_within : goal.decreases-outer_lengths_within
decreases-outer_lengths_within l = 10 * l.levels + 3

abbrev pub decreases-call_within : goal.decreases-call_within
decreases-call_within l = 10 * l.levels + 3

abbrev pub decreases-args : goal.decreases-args
decreases-args l = 10 * l.levels + 2

abbrev pub decreases-init_parts : goal.decreases-init_parts
decreases-init_parts l = 10 * l.levels + 3

abbrev pub decreases-assigned : goal.decreases-assigned
decreases-assigned l = 10 * l.levels + 1

abbrev pub decreases-other_call : goal.decreases-other_call
decreases-other_call l = 10 * l.levels + 3

abbrev pub decreases-leaf : goal.decreases-leaf
decreases-leaf l = 10 * l.levels + 4

abbrev pub decreases-behind : goal.decreases-behind
decreases-behind l = 10 * l.levels + 4

abbrev pub decreases-varchar_item : goal.decreases-varchar_item
decreases-varchar_item l = 10 * l.levels + 5

abbrev pub decreases-member_item : goal.decreases-member_item
decreases-member_item l = 10 * l.levels + 6

abbrev pub decreases-member_decl : goal.decreases-member_decl
decreases-member_decl l = 10 * l.levels + 7

abbrev pub decreases-members : goal.decreases-members
decreases-members l = 10 * l.levels + 8

abbrev pub invariant-expr_within-loop-left : goal.invariant-expr_within-loop-left
invariant-expr_within-loop-left l = from (expr (place_view l.at) (expr_view l.e)) l.resolver ≡ from (chain (expr (place_view l.at) (expr_view l.first)) (risen (place_view l.at) (spine_view l.above))) l.resolver

abbrev pub decreases-expr_within-loop-left : goal.decreases-expr_within-loop-left
decreases-expr_within-loop-left l = leaning (expr_view l.first)

abbrev pub invariant-expr_within-loop-next : goal.invariant-expr_within-loop-next
invariant-expr_within-loop-next l = from (expr (place_view l.at) (expr_view l.fn.e)) l.fn.resolver ≡ from (risen (place_view l.at) (spine_view l.above) (found_view l.f)) l.resolver

abbrev pub decreases-expr_within-loop-next : goal.decreases-expr_within-loop-next
decreases-expr_within-loop-next l = length l.above

abbrev pub invariant-args-loop-e : goal.invariant-args-loop-e
invariant-args-loop-e l = from (args (place_view l.at) (arguments_view l.fn.forms) (exprs_view l.es)) l.fn.resolver ≡ mapped (λ rest. map found_view l.fs ++ rest) (from (args (place_view l.at) (arguments_view l.forms) (exprs_view (drop l.e-index l.es))) l.resolver)

abbrev pub invariant-lengths_within-loop-dim : goal.invariant-lengths_within-loop-dim
invariant-lengths_within-loop-dim l = from (lengths (place_view l.at) (dims_view l.dims)) l.fn.resolver ≡ mapped (λ rest. l.lengths ++ rest) (from (lengths (place_view l.at) (dims_view (drop l.dim-index l.dims))) l.resolver)

abbrev pub invariant-members-loop-d : goal.invariant-members-loop-d
invariant-members-loop-d l = from (members (decls_view l.ds) []) l.fn.resolver ≡ from (members (decls_view (drop l.d-index l.ds)) (named_view type_view l.members)) l.resolver

abbrev pub invariant-member_decl-loop-item : goal.invariant-member_decl-loop-item
invariant-member_decl-loop-item l = from (member_decl (decl_view l.fn.d) (named_view type_view l.fn.members)) l.fn.resolver ≡ from (member_items (place_view l.at) l.varchar (type_view l.ty) (declarators_view (drop l.item-index l.item-items)) (named_view type_view l.members)) l.resolver

abbrev pub invariant-init_list-loop-init : goal.invariant-init_list-loop-init
invariant-init_list-loop-init l = from (all_init_exprs (place_view l.at) (inits_view l.inits)) l.fn.resolver ≡ from (all_init_exprs (place_view l.at) (inits_view (drop l.init-index l.inits))) l.resolver
