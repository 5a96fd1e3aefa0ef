-- That children of one type stand in a tree's data in the order in which they stand in the tree.
use Rattle.std.specs.Prelude.{◌≡◌, Option, Some, option_map}
use Rattle.ec_ctypes.specs.declared.embedded.emb.EmbKind.TheVariants as emb_kind
use Rattle.ec_ctypes.specs.declared.embedded.host.TextArg.{TextArg}
use Rattle.ec_ctypes.specs.declared.embedded.host.TextArg.TheVariants as text_arg
use Rattle.ec_ctypes.specs.declared.tree.decl.Base.TheOpen.{Expr-F}
use Rattle.ec_ctypes.specs.declared.tree.expr.Expr.{Expr}
use Rattle.ec_ctypes.specs.declared.tree.stmt.ForParts.{ForParts}
use Rattle.ec_ctypes.specs.declared.tree.stmt.StmtKind.TheOpen.{StmtKind-F}
use Rattle.ec_ctypes.specs.trees.Exprs.{BaseData, InitData, ExprData, DeclData, DeclaratorData}
use Rattle.ec_ctypes.specs.trees.Stmts.{StmtData, if_stmt, for_stmt, some_stmt}
use Rattle.ec_ctypes.specs.trees.Embedded.{connect, host_with_indicator}
use Rattle.ec_ctypes.specs.views.Exprs.{expr_view, expr_option_view, expr_step}
use Rattle.ec_ctypes.specs.views.Stmts.{kind_step}
use Rattle.ec_ctypes.specs.views.Embedded.{text_arg_view, emb_kind_view}

-- an expression round two others is seen as this data of the two
abbrev pub Holds :
    (ExprData → ExprData → Expr-F BaseData InitData ExprData DeclData DeclaratorData) →
    (ExprData → ExprData → ExprData) → Type 0
Holds around together = (a b : ExprData) → expr_step (around a b) ≡ together a b

-- an `if` with its statement and the one behind `else`
abbrev pub HoldsBranches : Expr → StmtData → StmtData → Type 0
HoldsBranches condition then_part else_part =
    kind_step (StmtKind-F.If condition then_part (Some else_part))
    ≡ if_stmt (expr_view condition) then_part (some_stmt else_part)

-- a `for` with its three expressions, each of which may be missing
abbrev pub HoldsParts : ForParts → StmtData → Type 0
HoldsParts parts body =
    kind_step (StmtKind-F.For parts body)
    ≡ for_stmt (expr_option_view parts.first)
    (expr_option_view parts.condition) (expr_option_view parts.step) body

-- a host with its indicator
abbrev pub HoldsIndicator : Expr → Expr → Type 0
HoldsIndicator host indicator =
    text_arg_view (text_arg.HostWithIndicator host indicator)
    ≡ host_with_indicator (expr_view host) (expr_view indicator)

-- CONNECT with its target, the connection's name, the user and the password
abbrev pub HoldsArguments : TextArg → Option TextArg → Option TextArg → Option TextArg → Type 0
HoldsArguments target name user password =
    emb_kind_view (emb_kind.Connect target name user password)
    ≡ connect (text_arg_view target) (option_map text_arg_view name)
    (option_map text_arg_view user) (option_map text_arg_view password)
