use Rattle.std.proofs.Common.{◌≡◌, ◌++◌, drop}
use Rattle.ec_ctypes.proofs.copies.exprs.+copies.Given as goal

abbrev pub invariant-copy_exprs-loop-expr : goal.invariant-copy_exprs-loop-expr
invariant-copy_exprs-loop-expr l = l.copy ++ drop l.expr-index l.expr-items ≡ l.exprs

abbrev pub invariant-copy_decls-loop-decl : goal.invariant-copy_decls-loop-decl
invariant-copy_decls-loop-decl l = l.copy ++ drop l.decl-index l.decl-items ≡ l.decls

abbrev pub invariant-copy_declarators-loop-declarator : goal.invariant-copy_declarators-loop-declarator
invariant-copy_declarators-loop-declarator l = l.copy ++ drop l.declarator-index l.declarator-items ≡ l.declarators

abbrev pub invariant-copy_dims-loop-dim : goal.invariant-copy_dims-loop-dim
invariant-copy_dims-loop-dim l = l.copy ++ drop l.dim-index l.dim-items ≡ l.dims

abbrev pub invariant-copy_inits-loop-init : goal.invariant-copy_inits-loop-init
invariant-copy_inits-loop-init l = l.copy ++ drop l.init-index l.init-items ≡ l.inits
