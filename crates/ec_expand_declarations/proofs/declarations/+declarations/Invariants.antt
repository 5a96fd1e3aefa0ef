use Rattle.std.proofs.Common.{◌≡◌, drop}
use Rattle.ec_ctypes.specs.views.Exprs.{expr_view, init_view, declarator_view, expr_option_view, decls_view, declarators_view}
use Rattle.ec_expansion_defs.specs.Declarations as written
use Rattle.ec_expansion_defs.specs.Declarations.{joined_decls}
use Rattle.ec_expand_declarations.proofs.Members.{Whole}
use Rattle.ec_expand_declarations.proofs.declarations.+declarations.Given as goal

abbrev pub invariant-written_exprs-loop-expr : goal.invariant-written_exprs-loop-expr
invariant-written_exprs-loop-expr l = Whole expr_view (written.written_expr l.line.0) l.list (drop l.expr-index l.expr-items) l.exprs

abbrev pub invariant-written_inits-loop-init : goal.invariant-written_inits-loop-init
invariant-written_inits-loop-init l = Whole init_view (written.written_init l.line.0) l.list (drop l.init-index l.init-items) l.inits

abbrev pub invariant-written_declarators-loop-item : goal.invariant-written_declarators-loop-item
invariant-written_declarators-loop-item l = Whole declarator_view (written.written_declarator l.line.0) l.list (drop l.item-index l.item-items) l.items

abbrev pub invariant-written_dims-loop-dim : goal.invariant-written_dims-loop-dim
invariant-written_dims-loop-dim l = Whole expr_option_view (written.written_option l.line.0) l.list (drop l.dim-index l.dim-items) l.dims

abbrev pub invariant-written_members-loop-member : goal.invariant-written_members-loop-member
invariant-written_members-loop-member l = joined_decls (decls_view l.list) (written.written_members l.line.0 (decls_view (drop l.member-index l.member-items))) ≡ written.written_members l.line.0 (decls_view l.members)

abbrev pub invariant-push_varchars-loop-item : goal.invariant-push_varchars-loop-item
invariant-push_varchars-loop-item l = joined_decls (decls_view l.list) (written.varchar_members_of l.line.0 (declarators_view (drop l.item-index l.item-items))) ≡ joined_decls (decls_view l.initial.list) (written.varchar_members_of l.line.0 (declarators_view l.items))
