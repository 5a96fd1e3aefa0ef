-- The tests behind the call of a statement, as they are resolved: for each condition that has an action an `if` over a member of `sqlca`, which is object 1 (PostgreSQL manual, 36.8.1).
use Rattle.std.specs.Prelude.{ℕ, pos}
use Rattle.ec_ctypes.specs.declared.embedded.emb.Cond.{Cond}
use Rattle.ec_ctypes.specs.declared.embedded.emb.Cond.TheVariants.{NotFound, Warning, Error}
use Rattle.ec_ctypes.specs.declared.types.arith.Arith.TheVariants.{Int, Long, Char}
use Rattle.ec_meaning_defs.specs.functions.Functions.{exit, sqlprint}
use Rattle.ec_memory_defs.specs.Memory.{number, integer_type}
use Rattle.ec_meaning_defs.specs.resolved.Operations.{equal, less, compare, pointer_plus}
use Rattle.ec_meaning_defs.specs.resolved.Resolved.{Exp, object, member, constant, load, convert, operate, known, no_exps, exps, Stm, on_line, nothing, evaluate, choose, leave, next, goto, Stms, no_stms, stms}
use Rattle.ec_resolving_defs.specs.Storage.{ActionForm, goes_on, jumps, prints, stops, leaves, continues, calls_function, ActionForms}

-- `sqlca.sqlcode`, and an int constant beside it
abbrev pub code_exp : Exp
code_exp = load (integer_type Long) (member 16 (object 1))

abbrev pub long_exp : ℕ → Exp
long_exp n = convert (integer_type Int) (integer_type Long) (constant (number (pos n)))

-- `sqlca.sqlwarn[0]`
abbrev pub warning_exp : Exp
warning_exp =
    load (integer_type Char)
    (operate (pointer_plus 1) (member 240 (object 1)) (constant (number (pos 0))))

-- `sqlca.sqlcode == 100`, `sqlca.sqlwarn[0] == 'W'` and `sqlca.sqlcode < 0`
abbrev pub condition_exp : Cond → Exp
condition_exp NotFound = operate (compare equal) code_exp (long_exp 100)
condition_exp Warning =
    operate (compare equal) (convert (integer_type Char) (integer_type Int) warning_exp)
    (constant (number (pos 87)))
condition_exp Error = operate (compare less) code_exp (long_exp 0)

-- the statement that an action is
abbrev pub action_stm : ActionForm → Stm
action_stm goes_on = nothing
action_stm (jumps l) = goto l
action_stm prints = evaluate (known sqlprint no_exps)
action_stm stops = evaluate (known exit (exps (constant (number (pos 1))) no_exps))
action_stm leaves = leave
action_stm continues = next
action_stm (calls_function e) = evaluate e

-- an `if` on this line
abbrev pub test_stm : ℕ → Cond → ActionForm → Stm
test_stm n condition a =
    on_line n (choose (condition_exp condition) (on_line n (action_stm a)) nothing)

-- before other statements. There is no test for an action that does nothing
abbrev pub test_before : ℕ → Cond → ActionForm → Stms → Stms
test_before n condition goes_on rest = rest
test_before n condition a rest = stms (test_stm n condition a) rest

-- the tests of a statement, in their order
abbrev pub tests_stms : ℕ → ActionForms → Stms
tests_stms n actions =
    test_before n NotFound actions.none_found (test_before n Warning actions.warning
    (test_before n Error actions.error no_stms))
