-- What is read goes by its form.
use Rattle.std.proofs.Common.{◌≡◌, ℕ, refl}
use Rattle.ec_ctypes.specs.declared.text.token.Punct.TheVariants as p
use Rattle.ec_language.specs.Productions.{Start, start_of}
use Rattle.ec_language.specs.Syntax.{limits}
use Rattle.ec_grammar.specs.declared.kind.Kind.{Kind}
use Rattle.ec_grammar.specs.declared.kind.Kind.TheVariants as k
use Rattle.ec_grammar.specs.Input.{State, kind_at, kind_next}
use Rattle.ec_grammar.specs.ReadDeclarations.{nested}
use Rattle.ec_grammar.specs.ReadStatements.{statement, statement_by, block_item, block_item_by, item, item_by, external, nested_statements}
use Rattle.ec_csyntax.specs.declared.forms.ItemForm.TheVariants as form
use Rattle.ec_csyntax.specs.declared.forms.TopForm.TheVariants as top
use Rattle.ec_csyntax.specs.Forms.{statement_form, item_form, top_form}
use Rattle.ec_csyntax.specs.Arms.{statement_of, block_item_of, item_of}
use Rattle.ec_csyntax.specs.Tops.{top_inner, top_deeper}

by_statement : (levels : ℕ) (x : Start) (j l : Kind) (i : State)
    → statement_by limits (nested limits levels) (nested_statements limits levels) x j l i ≡ statement_of levels x (statement_form j l) i
unfolding statement_of
by_statement levels x (k.Mark p.Semicolon) l i = refl
by_statement levels x (k.Mark p.LeftBrace) l i = refl
by_statement levels x (k.Mark _) l i = refl
by_statement levels x k.Name (k.Mark p.Colon) i = refl
by_statement levels x k.Name (k.Mark _) i = refl
by_statement levels x k.Name _ i = refl
by_statement levels x _ l i = refl

pub statement_goes : (levels : ℕ) (i : State)
    → statement limits (nested limits levels) (nested_statements limits levels) i ≡ statement_of levels (start_of i.tokens) (statement_form (kind_at i.tokens) (kind_next i.tokens)) i
unfolding statement
statement_goes levels i = by_statement levels (start_of i.tokens) (kind_at i.tokens) (kind_next i.tokens) i

by_block_item : (levels : ℕ) (x : Start) (j : Kind) (i : State)
    → block_item_by limits (nested limits levels) (nested_statements limits levels) x j i ≡ block_item_of levels x (item_form j) i
unfolding block_item_of
by_block_item levels x k.Const i = refl
by_block_item levels x _ i = refl

pub block_item_goes : (levels : ℕ) (i : State)
    → block_item limits (nested limits levels) (nested_statements limits levels) i ≡ block_item_of levels (start_of i.tokens) (item_form (kind_at i.tokens)) i
unfolding block_item
block_item_goes levels i = by_block_item levels (start_of i.tokens) (kind_at i.tokens) i

by_item : (x : Start) (j : Kind) (i : State) → item_by limits top_inner top_deeper x j i ≡ item_of x (top_form j) i
unfolding item_of
by_item x k.Static i = refl
by_item x _ i = refl

pub item_goes : (i : State) → item limits top_inner top_deeper i ≡ item_of (start_of i.tokens) (top_form (kind_at i.tokens)) i
unfolding item
item_goes i = by_item (start_of i.tokens) (kind_at i.tokens) i

pub item_statement : (levels : ℕ) (x : Start) (i : State) → block_item_of levels x form.Statement i ≡ statement limits (nested limits levels) (nested_statements limits levels) i
unfolding block_item_of
item_statement levels x i = refl

pub item_external : (x : Start) (i : State) → item_of x top.External i ≡ external limits top_inner top_deeper x i
unfolding item_of
item_external x i = refl
