-- The arguments of a call, evaluated.
use Rattle.std.specs.Prelude.{◌≡◌, ℕ, Bool, List, ◌∷◌, map, Option, Some, None, option_map, Result, Ok, Err}
use Rattle.std.proofs.Common.{Bor}
use Rattle.ec_arguments.specs.Arguments.{Arg, pointer}
use Rattle.ec_bytes.specs.declared.scalar.address.Ptr.{Ptr}
use Rattle.ec_call_defs.specs.Steps.{arguments_given, given_first, no_step}
use Rattle.ec_cut.specs.Views as cut
use Rattle.ec_cut.specs.declared.arguments.Argument.{Argument as Given}
use Rattle.ec_meaning_defs.specs.evaluation.Evaluate.{World}
use Rattle.ec_meaning_defs.specs.evaluation.Results.{Res, over}
use Rattle.ec_meaning_defs.specs.evaluation.State.{State}
use Rattle.ec_memory_defs.specs.Memory.{Memory, ValueData}
use Rattle.ec_plain.specs.Answered.{at, context, ending_of}
use Rattle.ec_meaning_defs.specs.resolved.Resolved.{Exp, constant}
use Rattle.ec_values.specs.Words.{word_view}
use Rattle.ec_values.specs.declared.word.Stop.{Stop}
use Rattle.ec_values.specs.declared.word.Word.{Word}
use Rattle.ec_calling.specs.declared.address.Address.{Address}

-- ---- what is given

abbrev pub bytes_of : Bor (List ℕ) → List ℕ
bytes_of literal = literal.now

-- where an address leads
abbrev pub number_of : Address → ℕ
number_of address = (address.0).0

-- an argument as a call has it, over the literals of the program
abbrev pub GivenArgument : Type 0
GivenArgument = Given (Bor (List ℕ)) Address

abbrev pub seen : GivenArgument → Arg ℕ
seen x = cut.argument_view bytes_of number_of x

abbrev pub all_seen : List GivenArgument → List (Arg ℕ)
all_seen xs = cut.arguments_view bytes_of number_of xs

-- what goes on with the arguments that were given
abbrev pub Next : Type 0
Next = List (Arg ℕ) → State → Res

-- arguments of a call on a line, evaluated over the objects in scope, and what goes on with them
abbrev pub evaluated : List Ptr → List (Arg Exp) → World → ℕ → Bool → State → Next → Res
evaluated scope arguments w line first s go =
    arguments_given no_step w (context line scope first) arguments s go

-- ---- one argument

-- what goes on with it, or the end of the run on this line
abbrev pub one_given : ℕ → Result GivenArgument Stop → State → (Arg ℕ → State → Res) → Res
one_given line (Ok x) t go = go (seen x) t
one_given line (Err why) t go = over (ending_of line why) t

-- whatever arguments stand behind it, and whatever goes on: it is given first, with the second memory, or it stops the run
abbrev pub GivesOne : List Ptr → Arg Exp → Memory → Memory → Result GivenArgument Stop → Type 0
GivesOne scope argument old new result =
    (w : World) (line : ℕ) (first : Bool) (s : State) (rest : List (Arg Exp)) (go : Next)
    → evaluated scope (argument ∷ rest) w line first (at s old) go
    ≡ one_given line result (at s new)
    (λ x t. evaluated scope rest w line first t (λ given u. go (x ∷ given) u))

-- ---- values that are there before

-- an argument, whose pointer may have a value
abbrev pub with_value : Option ValueData → Arg Exp → Arg Exp
with_value (Some v) (pointer e) = pointer (constant v)
with_value _ argument = argument

-- where an argument is the first, it has this value, if any, and the others have these
abbrev pub TakesValue : List Word → Arg Exp → Option Word → List Word → Type 0
TakesValue given argument value left =
    (rest : List (Arg Exp)) → given_first (map word_view given) (argument ∷ rest)
    ≡ with_value (option_map word_view value) argument ∷ given_first (map word_view left) rest

-- ---- all of them

module _ (scope : List Ptr) (arguments : List (Arg Exp)) (old new : Memory) where
  -- whatever goes on with them, and whatever the tasks are: these are given, with the second memory
  abbrev pub Evaluated : List (Arg ℕ) → Type 0
  Evaluated given =
      (w : World) (line : ℕ) (first : Bool) (s : State) (go : Next)
      → evaluated scope arguments w line first (at s old) go
      ≡ go given (at s new)

  -- they stop the run
  abbrev pub Halted : Stop → Type 0
  Halted why =
      (w : World) (line : ℕ) (first : Bool) (s : State) (go : Next)
      → evaluated scope arguments w line first (at s old) go
      ≡ over (ending_of line why) (at s new)

  -- without memory for them they are evaluated all the same
  abbrev pub Gives : Result (Option (List GivenArgument)) Stop → Type 0
  Gives (Ok (Some given)) = Evaluated (all_seen given)
  Gives (Ok None) = (given : List (Arg ℕ)) × Evaluated given
  Gives (Err why) = Halted why
