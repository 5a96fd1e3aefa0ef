-- What is found out about embedded statements: the variables in their hosts, how many members a struct stands for, and the actions that hold at them (PostgreSQL manual, "Using Host Variables" and "Setting Callbacks").
use Rattle.std.specs.Prelude.{ℕ, ◌+◌, Bool, true, false, not, ◌&&◌, ◌||◌, nat_le, List, [], ◌∷◌, ◌++◌, map, Option, Some, None, is_some}
use Rattle.ec_base.specs.declared.fault.FaultKind.TheVariants.{F29, F30}
use Rattle.ec_base.specs.declared.fault.LimitKind.TheVariants.{L5}
use Rattle.ec_ctypes.specs.declared.embedded.emb.Cond.TheVariants.{NotFound, Warning, Error}
use Rattle.ec_ctypes.specs.trees.Types.{TyData, void, arithmetic, pointer, array, structure}
use Rattle.ec_ctypes.specs.trees.Exprs.{ExprData, identifier, call}
use Rattle.ec_ctypes.specs.trees.Embedded.{ActionData, continue_action, goto_action, print_action, stop_action, break_action, next_action, call_action, EmbData}
use Rattle.ec_language.specs.Letters.{Text}
use Rattle.ec_typing_defs.specs.statement_parts.Cursors.{declare_opened}
use Rattle.ec_typing_defs.specs.statement_parts.Handlers.{is_directive, handler}
use Rattle.ec_typing_defs.specs.statement_parts.References.{ReferenceData, References, references, names_of, names_of_option}
use Rattle.ec_typing_defs.specs.Tables.{Named, find}
use Rattle.ec_typing_defs.specs.Known.{known_function}
use Rattle.ec_typing_defs.specs.Worlds.{Place, EntryData, object, function, World, Rule, ◌>>=◌, ◌>>◌, pure, ask, change, demand, keep_within, instead, look_up}
use Rattle.ec_typing_defs.specs.Operands.{OperandData, unknown}
use Rattle.ec_typing_defs.specs.Expressions.{expr, stands_for}

-- ---- references

abbrev pub is_function_entry : Text → Option EntryData → Bool
is_function_entry name (Some (object k global t)) = false
is_function_entry name (Some (function k done r ps)) = true
is_function_entry name None = is_some (known_function name)

-- the name of a function, and nothing else
abbrev pub is_function_name : World → ExprData → Bool
is_function_name w (identifier x) = is_function_entry x (look_up x w)
is_function_name w _ = false

-- A reference is an expression. Of a function's name alone nothing is said here: as a host it is refused with the hosts.
unfoldable pub reference_rule : Place → ExprData → Rule OperandData
reference_rule at e = do
  alone ← ask (λ w. is_function_name w e)
  elim alone [ true ↦ pure unknown | false ↦ expr at e ]

-- the greatest number of members that a host stands for
abbrev pub max_members : ℕ
max_members = 1000

-- how many members a host of this type stands for; an array of structs for those of one of them
abbrev pub members_in : World → Option TyData → ℕ
members_in w None = 0
members_in w (Some (array t n)) = stands_for w.structs t
members_in w (Some t) = stands_for w.structs t

-- L5: a host stands for so many members at most.
unfoldable pub members_rule : Place → Bool → Option TyData → Rule (Unit {0})
members_rule at is_host ty = do
  few ← ask (λ w. nat_le (members_in w ty) max_members)
  keep_within at L5 (not is_host || few)

abbrev pub references_rule : Place → References → Rule (Unit {0})
references_rule at [] = pure tt
references_rule at (r ∷ rs) = do
  o ← reference_rule at r.value
  members_rule at r.is_host o.type
  references_rule at rs

-- ---- actions

-- F30: a label of this function, a loop round the statement, or a call that may stand here. Names are those where the statement stands.
abbrev pub action_rule : Bool → Named (Unit {0}) → Place → Option ActionData → Rule (Unit {0})
action_rule in_loop labels at None = pure tt
action_rule in_loop labels at (Some continue_action) = pure tt
action_rule in_loop labels at (Some (goto_action l)) = demand at F30 (is_some (find l labels))
action_rule in_loop labels at (Some print_action) = pure tt
action_rule in_loop labels at (Some stop_action) = pure tt
action_rule in_loop labels at (Some break_action) = demand at F30 in_loop
action_rule in_loop labels at (Some next_action) = demand at F30 in_loop
action_rule in_loop labels at (Some (call_action f es)) =
    instead at F30 (expr at (call f es) >> pure tt)

-- the actions that hold at a statement; a directive is not executed
abbrev pub actions_rule : List EmbData → Bool → Named (Unit {0}) → Place → EmbData → Rule (Unit {0})
actions_rule es in_loop labels at e =
    action_rule in_loop labels at (handler es e.place NotFound)
    >> (action_rule in_loop labels at (handler es e.place Warning)
    >> action_rule in_loop labels at (handler es e.place Error))

abbrev pub handlers_rule : List EmbData → Bool →
    Named (Unit {0}) → Place → EmbData → Rule (Unit {0})
handlers_rule es in_loop labels at e =
    elim (is_directive e) [ true ↦ pure tt | false ↦ actions_rule es in_loop labels at e ]

-- ---- what the variables denote

-- the number of the declaration
abbrev pub denoted_by : Option EntryData → Option ℕ
denoted_by None = None
denoted_by (Some (object k global t)) = Some k
denoted_by (Some (function k done r ps)) = Some k

abbrev pub denoted_in : World → List Text → List (Option ℕ)
denoted_in w names = map (λ x. denoted_by (look_up x w)) names

-- The variables of the statement, and behind them those of the cursor that it opens, each by the declaration that the name denotes here.
unfoldable pub denote : List Text → Rule (Unit {0})
denote names = change (λ w. record w { denoted = w.denoted ++ denoted_in w names ∷ [] })

abbrev pub variables_of : List EmbData → ℕ → EmbData → List Text
variables_of es n e = names_of e ++ names_of_option (declare_opened es n e)

-- ---- statements

-- An embedded statement of this number. F29: a directive is no body of `if`, `else`, a loop or a label.
abbrev pub embedded_rule : List EmbData → Bool → Bool →
    Named (Unit {0}) → Place → ℕ → EmbData → Rule (Unit {0})
embedded_rule es is_body in_loop labels at n e = do
  demand at F29 (not (is_body && is_directive e))
  references_rule at (references e)
  denote (variables_of es n e)
  handlers_rule es in_loop labels at e
