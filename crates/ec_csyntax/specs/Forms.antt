-- What stands before a place, by the kinds of the next tokens, and kinds that stand for each form.
use Rattle.ec_ctypes.specs.declared.text.token.Punct.{Punct}
use Rattle.ec_ctypes.specs.declared.text.token.Punct.TheVariants as p
use Rattle.ec_grammar.specs.declared.kind.Kind.{Kind}
use Rattle.ec_grammar.specs.declared.kind.Kind.TheVariants as k
use Rattle.ec_csyntax.specs.declared.forms.Form.{Form}
use Rattle.ec_csyntax.specs.declared.forms.Form.TheVariants as f
use Rattle.ec_csyntax.specs.declared.forms.ItemForm.{ItemForm}
use Rattle.ec_csyntax.specs.declared.forms.ItemForm.TheVariants as i
use Rattle.ec_csyntax.specs.declared.forms.TopForm.{TopForm}
use Rattle.ec_csyntax.specs.declared.forms.TopForm.TheVariants as t

abbrev pub mark_form : Punct → Form
mark_form p.Semicolon = f.Empty
mark_form p.LeftBrace = f.Block
mark_form _ = f.Expression

abbrev pub name_form : Kind → Form
name_form (k.Mark p.Colon) = f.Label
name_form _ = f.Expression

-- of a statement that begins with no name
abbrev pub first_form : Kind → Form
first_form (k.Mark m) = mark_form m
first_form k.Executable = f.Executable
first_form k.Directive = f.Directive
first_form k.If = f.If
first_form k.While = f.While
first_form k.Do = f.Do
first_form k.For = f.For
first_form k.Break = f.Break
first_form k.Continue = f.Continue
first_form k.Return = f.Return
first_form k.Goto = f.Goto
first_form _ = f.Expression

abbrev pub statement_form : Kind → Kind → Form
statement_form k.Name l = name_form l
statement_form j l = first_form j

abbrev pub item_form : Kind → ItemForm
item_form k.Opening = i.Opening
item_form k.Closing = i.Closing
item_form k.Const = i.Declaration
item_form k.TypeWord = i.Declaration
item_form k.Varchar = i.Declaration
item_form k.Struct = i.Declaration
item_form _ = i.Statement

abbrev pub top_form : Kind → TopForm
top_form k.Include = t.Include
top_form k.Directive = t.Directive
top_form k.Opening = t.Opening
top_form k.Closing = t.Closing
top_form k.Static = t.Static
top_form _ = t.External

-- a kind of token that such a statement begins with
abbrev pub first_kind : Form → Kind
first_kind f.Empty = k.Mark p.Semicolon
first_kind f.Block = k.Mark p.LeftBrace
first_kind f.Executable = k.Executable
first_kind f.Directive = k.Directive
first_kind f.If = k.If
first_kind f.While = k.While
first_kind f.Do = k.Do
first_kind f.For = k.For
first_kind f.Break = k.Break
first_kind f.Continue = k.Continue
first_kind f.Return = k.Return
first_kind f.Goto = k.Goto
first_kind f.Label = k.Name
first_kind f.Expression = k.Integer

-- and one that may stand behind it
abbrev pub second_kind : Form → Kind
second_kind f.Label = k.Mark p.Colon
second_kind _ = k.End

abbrev pub item_kind : ItemForm → Kind
item_kind i.Opening = k.Opening
item_kind i.Closing = k.Closing
item_kind i.Declaration = k.Const
item_kind i.Statement = k.If

abbrev pub top_kind : TopForm → Kind
top_kind t.Include = k.Include
top_kind t.Directive = k.Directive
top_kind t.Opening = k.Opening
top_kind t.Closing = k.Closing
top_kind t.Static = k.Static
top_kind t.External = k.Const
