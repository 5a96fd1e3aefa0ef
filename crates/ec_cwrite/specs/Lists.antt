-- Parts of what is written: what stands before an element of a list, an array length, the head of an `if`.
use Rattle.std.specs.Prelude.{Bool, true, false, [], ◌∷◌, ◌++◌, codes, Option}
use Rattle.ec_ctypes.specs.declared.text.token.Punct.TheVariants as p
use Rattle.ec_ctypes.specs.declared.tree.expr.Expr.{Expr}
use Rattle.ec_ctypes.specs.trees.Exprs.{ExprData}
use Rattle.ec_ctypes.specs.views.Exprs.{dim_of, expr_option_view}
use Rattle.ec_writing_defs.specs.Chunks.{blank, line_end, Chunks}
use Rattle.ec_writing_defs.specs.Expressions.{mark, word, in_parens, expr_chunks, dim_chunks}

-- the comma before an element that is not the first
abbrev pub comma_chunks : Bool → Chunks
comma_chunks true = mark p.Comma ∷ blank ∷ []
comma_chunks false = []

-- a blank before the first declarator, a comma and a blank before the others
abbrev pub lead_chunks : Bool → Chunks
lead_chunks true = mark p.Comma ∷ blank ∷ []
lead_chunks false = blank ∷ []

-- an array length in its brackets
abbrev pub dim_part : Option Expr → Chunks
dim_part x =
    mark p.LeftBracket ∷ dim_chunks (dim_of (expr_option_view x)) ++ mark p.RightBracket ∷ []

-- `if (e)` and the end of its line
abbrev pub if_head : ExprData → Chunks
if_head e = word (codes "if") ∷ blank ∷ in_parens (expr_chunks e) ++ line_end ∷ []
