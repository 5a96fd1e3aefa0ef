-- What is left of a program once its names and types have done their work (ISO/IEC 9899:1999, 6.2.1, 6.3, 6.5, 6.7 and 6.8). An expression that is a place gives the address of its first byte, and so does one whose type is a struct or an array. A conversion is written out wherever there is one, and a type is there only as far as an access or an operation needs it.
use Rattle.std.specs.Prelude.{ℕ, ℤ, Bool, List, Option}
use Rattle.ec_ctypes.specs.declared.types.arith.Arith.{Arith}
use Rattle.ec_meaning_defs.specs.functions.Functions.{Known}
use Rattle.ec_memory_defs.specs.Memory.{ScalarType, ValueData}
use Rattle.ec_meaning_defs.specs.resolved.Operations.{Operation}

-- `a op= b`, `++` and `--`: the type of the place, the type to which its old value is converted, the operation, and whether the old value is the answer. The result is converted to the type of the place
pub record Update : Type 0 where
  pub kind : ScalarType
  pub widened : ScalarType
  pub operation : Operation
  pub gives_old : Bool

mutual
  pub data Exp : Type 0 where
    -- ---- places
    -- the object of this number: a global, a string literal or `sqlca`
    object : ℕ → Exp
    -- the object of the function that stands at this place among those in scope, parameters first
    slot : ℕ → Exp
    -- a member, by its offset and the place of its struct
    member : ℕ → Exp → Exp
    -- ---- values
    constant : ValueData → Exp
    -- the value at a place
    load : ScalarType → Exp → Exp
    -- a struct as a value, by its size: an access to all of it
    whole : ℕ → Exp → Exp
    -- to a place, of a value
    store : ScalarType → Exp → Exp → Exp
    -- to a place, of so many cells of another
    copy : ℕ → Exp → Exp → Exp
    -- bytes at a place, as the initializer of a char array puts them
    put : List ℕ → Exp → Exp
    update : Update → Exp → Exp → Exp
    -- from one type to another
    convert : ScalarType → ScalarType → Exp → Exp
    negate : Arith → Exp → Exp
    flip : Arith → Exp → Exp
    not : Exp → Exp
    operate : Operation → Exp → Exp → Exp
    -- `&&` and `||`
    both : Exp → Exp → Exp
    either : Exp → Exp → Exp
    -- `a ? b : c`, whose second and third operand have the type of the whole (6.5.15)
    choice : Exp → Exp → Exp → Exp
    -- of the function of this number, and whether its value is used
    call : ℕ → Bool → Exps → Exp
    known : Known → Exps → Exp
    -- of the library, which only a step knows, by its number among such calls. These of its pointers are evaluated before it, in their order. It has no value
    library_call : ℕ → Exps → Exp
    -- what stands for an expression with a fault
    faulty : Exp

  pub data Exps : Type 0 where
    no_exps : Exps
    exps : Exp → Exps → Exps

-- what only a step knows, by its number among its kind: an embedded statement, or a call of the library, whose first pointers have these values
pub data Atom : Type 0 where
  embedded : ℕ → Atom
  library : ℕ → List ValueData → Atom

-- what a statement is marked with, and what is looked for (6.8.1): a label, by its number; `case`, with its value of the type of the operand; `default`
pub data Mark : Type 0 where
  named : ℕ → Mark
  case : ℤ → Mark
  default : Mark

mutual
  pub data Stm : Type 0 where
    -- the statement stands on this line
    on_line : ℕ → Stm → Stm
    nothing : Stm
    evaluate : Exp → Stm
    -- a declaration without an initializer: the slot, and the object's size
    declare : ℕ → ℕ → Stm
    -- a declaration with an initializer: the stores of its values, in order
    initialize : ℕ → ℕ → Exps → Stm
    -- the sizes of its objects, in order
    block : List ℕ → Stms → Stm
    choose : Exp → Stm → Stm → Stm
    -- whether the first body is tested for, the test, what is evaluated behind each body, and the body
    loop : Bool → Option Exp → Option Exp → Stm → Stm
    leave : Stm
    next : Stm
    return : Option Exp → Stm
    goto : ℕ → Stm
    label : Mark → Stm → Stm
    -- `switch`: the operand, of its promoted type, and the body (6.8.4.2)
    select : Exp → Stm → Stm
    -- an embedded statement, which only a step knows, by its number among these
    embedded_statement : ℕ → Stm

  pub data Stms : Type 0 where
    no_stms : Stms
    stms : Stm → Stms → Stms
