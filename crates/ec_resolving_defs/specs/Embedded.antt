-- The resolved parts of embedded statements: the places that their references are, and the actions that hold at them (PostgreSQL manual, "Using Host Variables" and "Setting Callbacks").
use Rattle.std.specs.Prelude.{ℕ, true, false, List, [], ◌∷◌, Option, Some, None}
use Rattle.ec_ctypes.specs.declared.embedded.emb.Cond.TheVariants.{NotFound, Warning, Error}
use Rattle.ec_ctypes.specs.trees.Exprs.{ExprData, call}
use Rattle.ec_ctypes.specs.trees.Embedded.{ActionData, continue_action, goto_action, print_action, stop_action, break_action, next_action, call_action, EmbData}
use Rattle.ec_typing_defs.specs.statement_parts.Handlers.{is_directive, handler}
use Rattle.ec_typing_defs.specs.statement_parts.References.{References, references}
use Rattle.ec_typing_defs.specs.Tables.{Named}
use Rattle.ec_typing_defs.specs.Worlds.{Place}
use Rattle.ec_typing_defs.specs.Embedded.{is_function_name, denote, variables_of}
use Rattle.ec_meaning_defs.specs.resolved.Resolved.{Exp}
use Rattle.ec_resolving_defs.specs.Storage.{ReferenceForm, ActionForm, goes_on, jumps, prints, stops, leaves, continues, calls_function, ActionForms, no_actions, with_statement, Resolving, ◌>>=◌, ◌>>◌, pure, checks, ask, arrange}
use Rattle.ec_resolving_defs.specs.Operands.{Found, no_expression, place_in, done_alone}
use Rattle.ec_resolving_defs.specs.Expressions.{expr}

-- ---- references

abbrev pub reference_rule : Place → ExprData → Resolving Found
reference_rule at e = do
  alone ← ask (λ w. is_function_name w e)
  elim alone [ true ↦ pure no_expression | false ↦ expr at e ]

-- the type of a reference, and its address
abbrev pub reference_of : Found → ReferenceForm
reference_of f = record { type = f.operand.type; place = f.exp }

-- in the order of the statement's tree
abbrev pub references_rule : Place → References → Resolving (List ReferenceForm)
references_rule at [] = pure []
references_rule at (r ∷ rs) = do
  f ← reference_rule at r.value
  more ← references_rule at rs
  pure (reference_of f ∷ more)

-- ---- actions

-- a call, whose value isn't used
abbrev pub called_alone : Place → ExprData → Resolving Exp
called_alone at e = do
  f ← expr at e
  ask (λ w. done_alone w e f)

-- Names are those where the statement stands, and labels those of its function
abbrev pub action_rule : Named (Unit {0}) → Place → Option ActionData → Resolving ActionForm
action_rule labels at None = pure goes_on
action_rule labels at (Some continue_action) = pure goes_on
action_rule labels at (Some (goto_action l)) = pure (jumps (place_in l labels))
action_rule labels at (Some print_action) = pure prints
action_rule labels at (Some stop_action) = pure stops
action_rule labels at (Some break_action) = pure leaves
action_rule labels at (Some next_action) = pure continues
action_rule labels at (Some (call_action f es)) = do
  e ← called_alone at (call f es)
  pure (calls_function e)

-- the actions that hold at a statement, in the order in which they are tested
abbrev pub actions_rule : List EmbData → Named (Unit {0}) → Place → EmbData → Resolving ActionForms
actions_rule es labels at e = do
  none_found ← action_rule labels at (handler es e.place NotFound)
  warning ← action_rule labels at (handler es e.place Warning)
  error ← action_rule labels at (handler es e.place Error)
  pure (record { none_found = none_found; warning = warning; error = error })

abbrev pub handlers_rule : List EmbData → Named (Unit {0}) → Place → EmbData → Resolving ActionForms
handlers_rule es labels at e = elim (is_directive e) [
  | true ↦ pure no_actions
  | false ↦ actions_rule es labels at e
]

-- An embedded statement of this number, with its parts as they are where it stands
abbrev pub embedded_rule : List EmbData → Named (Unit {0}) → Place → ℕ → EmbData
    → Resolving (Unit {0})
embedded_rule es labels at n e = do
  rs ← references_rule at (references e)
  checks (denote (variables_of es n e))
  actions ← handlers_rule es labels at e
  arrange (with_statement (record { number = n; references = rs; actions = actions }))
