-- What a part of a program leads to, and how the parts round it go on from there.
use Rattle.std.specs.Prelude.{ℕ, zero, suc, pos, ℤ, Bool, true, false, List, [], ◌∷◌, ◌++◌, Option, Some, None, Result, Ok, Err}
use Rattle.ec_base.specs.declared.stop.Trap.{Trap}
use Rattle.ec_base.specs.declared.stop.Trap.TheVariants.{NoValue}
use Rattle.ec_meaning_defs.specs.functions.Functions.{Effect, answers, traps as traps_there, ends, misfit as no_call, status_of}
use Rattle.ec_memory_defs.specs.Memory.{Memory, ValueData, number, address, number_of, ScalarType, end_to, make, store}
use Rattle.ec_meaning_defs.specs.resolved.Operations.{Worked, gives, traps, misfit}
use Rattle.ec_meaning_defs.specs.evaluation.State.{State, Ending, exited, trapped, turns_spent, stuck}

-- an expression gives a value; a statement goes on, breaks its loop or `switch`, continues its loop, goes to a label, or returns; either may end the run
pub data Res : Type 0 where
  value : ValueData → State → Res
  on : State → Res
  broke : State → Res
  continued : State → Res
  went : ℕ → State → Res
  back : Option ValueData → State → Res
  over : Ending → State → Res

-- what stands for the value of a void expression. Nothing reads it
abbrev pub no_value : ValueData
no_value = number (pos 0)

-- ---- going on

-- behind an expression
abbrev pub on_value : Res → (ValueData → State → Res) → Res
on_value (value v s) k = k v s
on_value (on s) k = on s
on_value (broke s) k = broke s
on_value (continued s) k = continued s
on_value (went l s) k = went l s
on_value (back v s) k = back v s
on_value (over e s) k = over e s

-- behind a statement
abbrev pub on_done : Res → (State → Res) → Res
on_done (value v s) k = value v s
on_done (on s) k = k s
on_done (broke s) k = broke s
on_done (continued s) k = continued s
on_done (went l s) k = went l s
on_done (back v s) k = back v s
on_done (over e s) k = over e s

-- behind the body of a loop
abbrev pub after_body : Res → (State → Res) → Res
after_body (value v s) k = value v s
after_body (on s) k = k s
after_body (broke s) k = on s
after_body (continued s) k = k s
after_body (went l s) k = went l s
after_body (back v s) k = back v s
after_body (over e s) k = over e s

-- behind the body of a `switch` (6.8.6.3)
abbrev pub after_switch : Res → Res
after_switch (value v s) = value v s
after_switch (on s) = on s
after_switch (broke s) = on s
after_switch (continued s) = continued s
after_switch (went l s) = went l s
after_switch (back v s) = back v s
after_switch (over e s) = over e s

-- what memory gives, at a line
abbrev pub tried : {A : Type 0} → ℕ → Result A Trap → State → (A → Res) → Res
tried line (Ok a) s k = k a
tried line (Err trap) s k = over (trapped trap line) s

-- what memory becomes, at a line
abbrev pub changed : ℕ → Result Memory Trap → State → (State → Res) → Res
changed line r s k = tried line r s (λ m. k (record s { memory = m }))

-- what an operation gives, at a line
abbrev pub worked_out : ℕ → Worked → State → (ValueData → Res) → Res
worked_out line (gives v) s k = k v
worked_out line (traps trap) s k = over (trapped trap line) s
worked_out line misfit s k = over stuck s

abbrev pub at_address : ValueData → State → (ℕ → Res) → Res
at_address (address p) s k = k p
at_address (number z) s k = over stuck s

abbrev pub on_number : ValueData → State → (ℤ → Res) → Res
on_number (number z) s k = k z
on_number (address p) s k = over stuck s

abbrev pub present : {A : Type 0} → Option A → State → (A → Res) → Res
present (Some a) s k = k a
present None s k = over stuck s

abbrev pub or_no_value : Option ValueData → ValueData
or_no_value (Some v) = v
or_no_value None = no_value

-- what a known function does, at a line
abbrev pub done_there : ℕ → Effect → State → Res
done_there line (answers v m output errors) s =
    value (or_no_value v) (record s {
      memory = m;
      output = s.output ++ output;
      errors = s.errors ++ errors;
    })
done_there line (traps_there trap) s = over (trapped trap line) s
done_there line (ends status) s = over (exited status) s
done_there line no_call s = over stuck s

-- what a call of the library does: it has no value
abbrev pub without_answer : Res → Res
without_answer (value v s) = over stuck s
without_answer (on s) = value no_value s
without_answer (broke s) = over stuck s
without_answer (continued s) = over stuck s
without_answer (went l s) = over stuck s
without_answer (back v s) = over stuck s
without_answer (over e s) = over e s

-- one turn is taken
abbrev pub turn : State → (State → Res) → Res
turn s k = elim s.turns [ zero ↦ over turns_spent s | suc n ↦ k (record s { turns = n }) ]

-- ---- objects of blocks and functions

-- objects of these sizes are made, in order, and their pointers stand behind others
abbrev pub made : ℕ → List ℕ → List ℕ → State → (List ℕ → State → Res) → Res
made line [] objects s k = k objects s
made line (size ∷ sizes) objects s k =
    tried line (make s.memory size) s (λ r.
    made line sizes (objects ++ r.0 ∷ []) (record s { memory = r.1 }) k)

-- arguments are stored in parameters of these types, in order
abbrev pub given : ℕ → List ScalarType → List ℕ → List ValueData → State → (State → Res) → Res
given line [] [] [] s k = k s
given line (kind ∷ kinds) (p ∷ ps) (v ∷ vs) s k =
    changed line (store s.memory p kind v) s (λ t. given line kinds ps vs t k)
given line _ _ _ s k = over stuck s

-- every object behind the first n ends
abbrev pub ended_to : ℕ → State → State
ended_to n s = record s { memory = end_to s.memory n }

-- what is left ends its objects. A run that is over leaves them as they are
abbrev pub closing : ℕ → Res → Res
closing n (value v s) = value v s
closing n (on s) = on (ended_to n s)
closing n (broke s) = broke (ended_to n s)
closing n (continued s) = continued (ended_to n s)
closing n (went l s) = went l (ended_to n s)
closing n (back v s) = back v (ended_to n s)
closing n (over e s) = over e s

-- ---- functions

-- the end of a function's body without `return`
abbrev pub function_end : Option ValueData → Res → Res
function_end otherwise (value v s) = over stuck s
function_end otherwise (on s) = back otherwise s
function_end otherwise (broke s) = over stuck s
function_end otherwise (continued s) = over stuck s
function_end otherwise (went l s) = over stuck s
function_end otherwise (back v s) = back v s
function_end otherwise (over e s) = over e s

-- a call's value, where it has none
abbrev pub without_value : ℕ → Bool → State → Res
without_value line used s =
    elim used [ true ↦ over (trapped NoValue line) s | false ↦ value no_value s ]

-- the value of a call, from what the function led to: where it is used there has to be one (6.9.1, 12)
abbrev pub answered : ℕ → Bool → Res → Res
answered line used (value v s) = over stuck s
answered line used (on s) = over stuck s
answered line used (broke s) = over stuck s
answered line used (continued s) = over stuck s
answered line used (went l s) = over stuck s
answered line used (back None s) = without_value line used s
answered line used (back (Some v) s) = value v s
answered line used (over e s) = over e s

-- the first `main` ends the run, as `exit` does
abbrev pub exits_with : Option ValueData → State → Res
exits_with (Some v) s = over (exited (status_of (number_of v))) s
exits_with None s = over stuck s

abbrev pub returned : Bool → Option ValueData → State → Res
returned first v s = elim first [ true ↦ exits_with v s | false ↦ back v s ]

abbrev pub finished : Option ValueData → Res → Res
finished otherwise (value v s) = over stuck s
finished otherwise (on s) = exits_with otherwise s
finished otherwise (broke s) = over stuck s
finished otherwise (continued s) = over stuck s
finished otherwise (went l s) = over stuck s
finished otherwise (back v s) = over stuck s
finished otherwise (over e s) = over e s
