-- WHENEVER and INCLUDE, and how DECLARE of a cursor begins (PostgreSQL manual, "Error Handling" and "Embedded SQL Commands"), as shapes, with what each makes.
use Rattle.std.specs.Prelude.{[], ◌∷◌, codes, ℤ, pos, Option, Some, None}
use Rattle.std.proofs.Common.{inl, inr}
use Rattle.ec_ctypes.specs.declared.embedded.emb.Cond.{Cond}
use Rattle.ec_ctypes.specs.declared.embedded.emb.Cond.TheVariants as cond
use Rattle.ec_ctypes.specs.trees.Embedded.{ActionData, continue_action, goto_action, print_action, stop_action, break_action, next_action, call_action, EmbKindData, whenever, include_sqlca}
use Rattle.ec_ctypes.specs.trees.Exprs.{ExprData, character, ExprList, no_exprs}
use Rattle.ec_ctypes.specs.views.Exprs.{exprs_of}
use Rattle.ec_embedded.specs.shapes.Shapes.{one, both, either}
use Rattle.ec_language.specs.Constants.{character_value}
use Rattle.ec_language.specs.Letters.{Text}
use Rattle.ec_language.specs.Productions as c
use Rattle.ec_embedded.specs.Terminals.{any_word, other_word, fitting_number, character_constant, sign}
use Rattle.ec_embedded.specs.References.{Form, Of, row, choice, optional, listed, gathered, word, decimal_constant}

-- ---- WHENEVER

unfoldable pub condition_form : Form
condition_form = choice (word (codes "SQLERROR"))
    (word (codes "SQLWARNING") ∷ both (word (codes "NOT")) (word (codes "FOUND")) ∷ [])

abbrev pub condition_of : Of condition_form → Cond
unfolding condition_form
condition_of (inl v) = cond.Error
condition_of (inr (inl v)) = cond.Warning
condition_of (inr (inr v)) = cond.NotFound

-- a name, which is read as in an expression of C, a number or a character constant
unfoldable pub argument_form : Form
argument_form = choice (one any_word) (one fitting_number ∷ one character_constant ∷ [])

abbrev pub character_in : Option ℤ → ℤ
character_in (Some c) = c
character_in None = pos 0

abbrev pub argument_of : Of argument_form → ExprData
unfolding argument_form
argument_of (inl t) = (c.named t.bytes).expression
argument_of (inr (inl t)) = decimal_constant t.bytes
argument_of (inr (inr t)) = character (character_in (character_value t.bytes))

unfoldable pub arguments_form : Form
arguments_form =
    row (one (sign (codes "(")) ∷ optional (listed argument_form) ∷ one (sign (codes ")")) ∷ [])

abbrev pub arguments_of : Of arguments_form → ExprList
unfolding arguments_form
arguments_of (p, (inl v, q)) = exprs_of (gathered argument_of v.0 v.1)
arguments_of (p, (inr v, q)) = no_exprs

-- `DO BREAK` and `DO CONTINUE`, or the call of a function
unfoldable pub do_form : Form
do_form = choice (both (word (codes "BREAK")) (optional arguments_form)) (
    both (word (codes "CONTINUE")) (optional arguments_form)
    ∷ both (one (other_word (codes "BREAK" ∷ codes "CONTINUE" ∷ []))) arguments_form ∷ []
    )

abbrev pub do_of : Of do_form → ActionData
unfolding do_form
do_of (inl (t, inl v)) = call_action t.bytes (arguments_of v)
do_of (inl (t, inr v)) = break_action
do_of (inr (inl (t, inl v))) = call_action t.bytes (arguments_of v)
do_of (inr (inl (t, inr v))) = next_action
do_of (inr (inr v)) = call_action v.0.bytes (arguments_of v.1)

unfoldable pub action_form : Form
action_form = choice (word (codes "CONTINUE")) (
    word (codes "SQLPRINT")
    ∷ word (codes "STOP")
    ∷ both (word (codes "GOTO")) (one any_word)
    ∷ row (word (codes "GO") ∷ word (codes "TO") ∷ one any_word ∷ [])
    ∷ row (word (codes "CALL") ∷ one any_word ∷ arguments_form ∷ [])
    ∷ both (word (codes "DO")) do_form
    ∷ []
    )

abbrev pub action_of : Of action_form → ActionData
unfolding action_form
action_of (inl v) = continue_action
action_of (inr (inl v)) = print_action
action_of (inr (inr (inl v))) = stop_action
action_of (inr (inr (inr (inl v)))) = goto_action v.1.bytes
action_of (inr (inr (inr (inr (inl v))))) = goto_action v.1.1.bytes
action_of (inr (inr (inr (inr (inr (inl v)))))) = call_action v.1.0.bytes (arguments_of v.1.1)
action_of (inr (inr (inr (inr (inr (inr v)))))) = do_of v.1

unfoldable pub whenever_form : Form
whenever_form = row (word (codes "WHENEVER") ∷ condition_form ∷ action_form ∷ [])

abbrev pub whenever_of : Of whenever_form → EmbKindData
unfolding whenever_form
whenever_of v = whenever (condition_of v.1.0) (action_of v.1.1)

-- ---- INCLUDE

unfoldable pub include_form : Form
include_form = both (word (codes "INCLUDE")) (word (codes "sqlca"))

abbrev pub include_of : Of include_form → EmbKindData
include_of v = include_sqlca

-- ---- DECLARE, up to FOR

unfoldable pub cursor_form : Form
cursor_form = row (word (codes "DECLARE")
    ∷ one any_word
    ∷ optional
    (choice (word (codes "INSENSITIVE")) (word (codes "ASENSITIVE")
    ∷ word (codes "SCROLL") ∷ row (word (codes "NO") ∷ word (codes "SCROLL") ∷ []) ∷ []))
    ∷ word (codes "CURSOR")
    ∷ optional (both (either (word (codes "WITH")) (word (codes "WITHOUT"))) (word (codes "HOLD")))
    ∷ word (codes "FOR")
    ∷ [])

abbrev pub cursor_name : Of cursor_form → Text
unfolding cursor_form
cursor_name v = v.1.0.bytes
