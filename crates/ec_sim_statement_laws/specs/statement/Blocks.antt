-- The block that is written for a statement, as it is resolved: its call, and the tests behind it. All have the line of the statement.
use Rattle.std.specs.Prelude.{ℕ, Bool, true, false, ◌||◌, []}
use Rattle.ec_meaning_defs.specs.resolved.Resolved.{Exp, object, slot, member, constant, load, whole, store, copy, put, update, convert, negate, flip, not, operate, both, either, choice, call, known, library_call, faulty, Exps, no_exps, exps, Stm, on_line, evaluate, block, stms}
use Rattle.ec_resolving_defs.specs.Storage.{ActionForm, goes_on, jumps, prints, stops, leaves, continues, calls_function, ActionForms}
use Rattle.ec_sim_statement_laws.specs.statement.Tests.{tests_stms}

-- the call of this number among those of the library
abbrev pub call_stm : ℕ → ℕ → Stm
call_stm line k = on_line line (evaluate (library_call k no_exps))

abbrev pub block_stm : ℕ → ℕ → ActionForms → Stm
block_stm line k actions = block [] (stms (call_stm line k) (tests_stms line actions))

-- ---- expressions without a call of the library

abbrev mutual
  pub has_call : Exp → Bool
  has_call (object n) = false
  has_call (slot i) = false
  has_call (member offset e) = has_call e
  has_call (constant v) = false
  has_call (load kind e) = has_call e
  has_call (whole size e) = has_call e
  has_call (store kind e a) = has_call e || has_call a
  has_call (copy size e a) = has_call e || has_call a
  has_call (put bytes e) = has_call e
  has_call (update n e a) = has_call e || has_call a
  has_call (convert from to e) = has_call e
  has_call (negate type e) = has_call e
  has_call (flip type e) = has_call e
  has_call (not e) = has_call e
  has_call (operate op a b) = has_call a || has_call b
  has_call (both a b) = has_call a || has_call b
  has_call (either a b) = has_call a || has_call b
  has_call (choice e a b) = has_call e || (has_call a || has_call b)
  has_call (call f used es) = have_call es
  has_call (known f es) = have_call es
  has_call (library_call n es) = true
  has_call faulty = false

  pub have_call : Exps → Bool
  have_call no_exps = false
  have_call (exps e es) = has_call e || have_call es

abbrev pub calls_library : ActionForm → Bool
calls_library goes_on = false
calls_library (jumps l) = false
calls_library prints = false
calls_library stops = false
calls_library leaves = false
calls_library continues = false
calls_library (calls_function e) = has_call e

-- no action of a source calls the library
abbrev pub any_calls_library : ActionForms → Bool
any_calls_library actions =
    calls_library actions.none_found
    || (calls_library actions.warning || calls_library actions.error)
