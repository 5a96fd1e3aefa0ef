-- Programs as examples write them.
use Rattle.std.specs.Prelude.{ℕ, pos, negsuc, Bool, true, false, List, [], ◌∷◌, ◌++◌, Some, None, codes}
use Rattle.ec_ctypes.specs.declared.types.arith.Arith.TheVariants.{Bool as Boolean, Char, Short, Int, UInt}
use Rattle.ec_meaning_defs.specs.functions.Formats.{Field, absent, plain, integer, signed_decimal}
use Rattle.ec_meaning_defs.specs.functions.Functions.{standard_output, print, putchar}
use Rattle.ec_link.specs.declared.reply.Reply.TheVariants.{Broken}
use Rattle.ec_link.specs.declared.request.Request.TheVariants.{Close}
use Rattle.ec_memory_defs.specs.Memory.{Memory, number, address, ScalarType, integer_type}
use Rattle.ec_meaning_defs.specs.resolved.Operations.{Operation, plus, divided, compare, less, integers, pointer_plus}
use Rattle.ec_meaning_defs.specs.resolved.Programs.{Function, Program}
use Rattle.ec_meaning_defs.specs.resolved.Resolved.{Exp, object, constant, load, store, update, convert, operate, known, library_call, Exps, no_exps, exps, Mark, case, Stm, on_line, evaluate, block, loop, return, Stms, no_stms, stms}
use Rattle.ec_meaning_defs.specs.evaluation.State.{Answer, State, Ending, waits}
use Rattle.ec_meaning_defs.specs.evaluation.Results.{Res, on, broke, over, turn}
use Rattle.ec_meaning_defs.specs.evaluation.Evaluate.{Step}
use Rattle.ec_meaning_defs.specs.evaluation.Whole.{Observed, program_meaning, without_atoms}

-- ---- expressions

abbrev pub int : ScalarType
int = integer_type Int

abbrev pub lit : ℕ → Exp
lit n = constant (number (pos n))

-- -(n + 1)
abbrev pub below : ℕ → Exp
below n = constant (number (negsuc n))

abbrev pub get : Exp → Exp
get e = load int e

abbrev pub set : Exp → Exp → Exp
set e a = store int e a

abbrev pub add : Exp → Exp → Exp
add a b = operate (integers Int plus) a b

abbrev pub divide : Exp → Exp → Exp
divide a b = operate (integers Int divided) a b

abbrev pub is_less : Exp → Exp → Exp
is_less a b = operate (compare less) a b

-- `e += a` of an int
abbrev pub increase : Exp → Exp → Exp
increase e a =
    update (record {
      kind = int;
      widened = int;
      operation = integers Int plus;
      gives_old = false;
    }) e a

-- `++` and `--` of a type, whose operands are converted to another; whether the old value is the answer
abbrev pub bump : ScalarType → ScalarType → Operation → Bool → Exp → Exp
bump kind widened op old e =
    update (record { kind = kind; widened = widened; operation = op; gives_old = old }) e (lit 1)

-- the value at a place as an int
abbrev pub read_as : ScalarType → Exp → Exp
read_as kind e = convert kind int (load kind e)

-- a number stored at a place
abbrev pub set_as : ScalarType → Exp → ℕ → Exp
set_as kind e n = store kind e (convert int kind (lit n))

abbrev pub char : ScalarType
char = integer_type Char

abbrev pub short : ScalarType
short = integer_type Short

abbrev pub unsigned : ScalarType
unsigned = integer_type UInt

abbrev pub bool : ScalarType
bool = integer_type Boolean

abbrev pub null : Exp
null = constant (address 0)

-- an element of ints
abbrev pub element : Exp → Exp → Exp
element p i = operate (pointer_plus 4) p i

abbrev pub args : List Exp → Exps
args [] = no_exps
args (e ∷ es) = exps e (args es)

-- the value of a byte, which is put
abbrev pub put : ℕ → Exp
put b = known putchar (args (lit b ∷ []))

-- a directive without flags and width
abbrev pub plain_field : Field
plain_field = record { minus = false; zeros = false; width = absent }

abbrev pub print_int : Exp → Exp
print_int e =
    known (print standard_output
    (integer plain_field false signed_decimal ∷ plain (codes ";") ∷ []))
    (args (e ∷ []))

-- ---- statements

abbrev pub all : List Stm → Stms
all [] = no_stms
all (s ∷ ss) = stms s (all ss)

-- a statement on a line
abbrev pub at : ℕ → Exp → Stm
at n e = on_line n (evaluate e)

abbrev pub does : Exp → Stm
does e = evaluate e

abbrev pub gives : Exp → Stm
gives e = return (Some e)

-- `while (e) s`
abbrev pub while : Exp → Stm → Stm
while e s = loop true (Some e) None s

-- a block without objects
abbrev pub braces : List Stm → Stm
braces ss = block [] (all ss)

-- a case of a `switch`
abbrev pub when : ℕ → Mark
when z = case (pos z)

-- ---- programs

abbrev pub main_with : List ℕ → List Stm → Function
main_with sizes ss = record {
  parameters = [];
  objects = sizes;
  body = all ss;
  otherwise = Some (number (pos 0));
}

abbrev pub function : List ScalarType → List ℕ → List Stm → Function
function kinds sizes ss = record {
  parameters = kinds;
  objects = sizes;
  body = all ss;
  otherwise = None;
}

-- `main` with objects of these sizes, and one global int, which is object 2
abbrev pub program : List ℕ → List Stm → Program
program sizes ss = record {
  globals = record { size = 4; values = [] } ∷ [];
  literals = [];
  functions = main_with sizes ss ∷ [];
  main = 0;
}

-- with further functions, from number 1 on
abbrev pub with_functions : List Function → Program → Program
with_functions fs p = record p { functions = p.functions ++ fs }

abbrev pub global : Exp
global = object 2

-- ---- runs

abbrev pub run_of : Program → ℕ → Observed
run_of p turns = program_meaning without_atoms p turns None []

-- what is printed, and how it ends
abbrev pub shows : ℕ → Program → List ℕ × Ending
shows turns p = ((run_of p turns).output, (run_of p turns).ending)

-- how it ends
abbrev pub ends : ℕ → Program → Ending
ends turns p = (run_of p turns).ending

-- the objects behind `sqlca` and the global
abbrev pub behind_two : Memory → Memory
behind_two [] = []
behind_two (a ∷ []) = []
behind_two (a ∷ b ∷ m) = m

abbrev pub leaves : ℕ → Program → Memory
leaves turns p = behind_two (run_of p turns).memory

-- ---- a step that asks

abbrev pub asks : List Answer → State → Res
asks [] s = over (waits None Close) s
asks (a ∷ more) s =
    on (record s {
      answers = more;
      output = s.output;
      conversation = s.conversation ++ record { slot = a.0; request = Close; reply = a.1 } ∷ [];
    })

-- each of its statements takes a turn, makes one request and takes its answer
abbrev pub asking : Step
asking w c a s = turn s (λ t. asks t.answers t)

abbrev pub broken : Answer
broken = (None, Broken)

abbrev pub asking_run : Program → ℕ → List Answer → Observed
asking_run p turns answers = program_meaning asking p turns None answers

-- each of its statements takes a turn, and then ends what is round it, or goes on
abbrev pub breaking : Step
breaking w c a s = turn s (λ t. broke t)

abbrev pub passing : Step
passing w c a s = turn s (λ t. on t)

abbrev pub ends_with : Step → ℕ → Program → Ending
ends_with step turns p = (program_meaning step p turns None []).ending

-- an embedded statement as a call of the library
abbrev pub as_call : ℕ → Stm
as_call n = evaluate (library_call n no_exps)
