-- The functions that a program may call without defining them, and what a call of one does. Its arguments are values; it reads and writes memory, and puts bytes on the two outputs.
use Rattle.std.specs.Prelude.{ℕ, ◌-◌, ◌^◌, min, if◌then◌else◌, ℤ, pos, unsigned_abs, int_lt, List, [], ◌∷◌, ◌++◌, length, Option, Some, None, Result, Ok, Err, codes}
use Rattle.std.specs.Int.{int_rem_euclid}
use Rattle.ec_base.specs.declared.stop.Trap.{Trap}
use Rattle.ec_ctypes.specs.declared.types.arith.Arith.TheVariants.{UChar, Int}
use Rattle.ec_ctypes.specs.Arithmetic.{converted}
use Rattle.ec_memory_defs.specs.Memory.{Memory, ValueData, number, address, number_of, integer_type, pointer_to, load, span, text_at}
use Rattle.ec_meaning_defs.specs.functions.Formats.{Part}
use Rattle.ec_meaning_defs.specs.functions.Printing.{printed}
use Rattle.ec_meaning_defs.specs.functions.Strings.{text_length, texts_compared, fronts_compared, bytes_compared, text_copied, front_copied, text_appended, bytes_copied, bytes_filled}

pub data Channel : Type 0 where
  standard_output : Channel
  standard_error : Channel

-- printf and fprintf have their format taken apart, and the other arguments are values
pub data Known : Type 0 where
  print : Channel → List Part → Known
  puts : Known
  putchar : Known
  strlen : Known
  strcmp : Known
  strncmp : Known
  memcmp : Known
  strcpy : Known
  strncpy : Known
  strcat : Known
  memcpy : Known
  memset : Known
  exit : Known
  sqlprint : Known

-- what a call does: it answers, and leaves a memory and puts bytes on standard output and on standard error; or it traps; or it ends the run with a status; or its arguments are not those that the function takes
pub data Effect : Type 0 where
  answers : Option ValueData → Memory → List ℕ → List ℕ → Effect
  traps : Trap → Effect
  ends : ℕ → Effect
  misfit : Effect

abbrev pub tried : {A : Type 0} → Result A Trap → (A → Effect) → Effect
tried (Ok a) k = k a
tried (Err trap) k = traps trap

abbrev pub answers_number : Memory → ℤ → Effect
answers_number m z = answers (Some (number z)) m [] []

-- bytes are put on one of the outputs
abbrev pub puts_bytes : Channel → Option ValueData → Memory → List ℕ → Effect
puts_bytes standard_output answer m bytes = answers answer m bytes []
puts_bytes standard_error answer m bytes = answers answer m [] bytes

-- the number of bytes, as far as an int can say it
abbrev pub count_of : List ℕ → ValueData
count_of bytes = number (pos (min (length bytes) (2 ^ 31 - 1)))

abbrev pub printing : Channel → Memory → Option (Result (List ℕ) Trap) → Effect
printing channel m None = misfit
printing channel m (Some (Err trap)) = traps trap
printing channel m (Some (Ok bytes)) = puts_bytes channel (Some (count_of bytes)) m bytes

-- the low 8 bits
abbrev pub status_of : ℤ → ℕ
status_of z = unsigned_abs (int_rem_euclid z (pos 256))

abbrev pub byte_of : ℤ → ℕ
byte_of z = unsigned_abs (converted UChar z)

-- functions by what they take
abbrev pub taking_nothing : Effect → List ValueData → Effect
taking_nothing effect [] = effect
taking_nothing effect (v ∷ vs) = misfit

abbrev pub taking_number : (ℤ → Effect) → List ValueData → Effect
taking_number k (number z ∷ []) = k z
taking_number k _ = misfit

abbrev pub taking_address : (ℕ → Effect) → List ValueData → Effect
taking_address k (address p ∷ []) = k p
taking_address k _ = misfit

abbrev pub taking_addresses : (ℕ → ℕ → Effect) → List ValueData → Effect
taking_addresses k (address p ∷ rest) = taking_address (k p) rest
taking_addresses k _ = misfit

abbrev pub taking_sizes : (ℕ → ℕ → ℕ → Effect) → List ValueData → Effect
taking_sizes k (address p ∷ address q ∷ rest) = taking_number (λ n. k p q (unsigned_abs n)) rest
taking_sizes k _ = misfit

abbrev pub taking_byte : (ℕ → ℕ → ℕ → Effect) → List ValueData → Effect
taking_byte k (address p ∷ number c ∷ rest) =
    taking_number (λ n. k p (byte_of c) (unsigned_abs n)) rest
taking_byte k _ = misfit

-- a function that answers its first argument
abbrev pub writing : ℕ → Result Memory Trap → Effect
writing p r = tried r (λ m. answers (Some (address p)) m [] [])

-- where the length and the bytes of the last error's message stand in the first object, `sqlca`
abbrev pub message_length : ℕ
message_length = pointer_to 1 24

abbrev pub message_bytes : ℕ
message_bytes = pointer_to 1 28

-- a length below 0 counts as 0, and one above 149 as 149
abbrev pub message_size : ValueData → ℕ
message_size v = if int_lt (number_of v) (pos 0) then 0 else min (unsigned_abs (number_of v)) 149

abbrev pub error_printed : Memory → Effect
error_printed m =
    tried (load m message_length (integer_type Int)) (λ v.
    tried (span m message_bytes (message_size v)) (λ bytes.
    answers None m [] (codes "SQL error: " ++ bytes ++ 10 ∷ [])))

-- what a call of a known function does
abbrev pub effect_of : Known → Memory → List ValueData → Effect
effect_of (print channel parts) m vs = printing channel m (printed m parts vs)
effect_of puts m vs =
    taking_address (λ p. tried (text_at m p) (λ bytes.
    answers (Some (number (pos 1))) m (bytes ++ 10 ∷ []) [])) vs
effect_of putchar m vs =
    taking_number (λ z. answers (Some (number (pos (byte_of z)))) m (byte_of z ∷ []) []) vs
effect_of strlen m vs = taking_address (λ p. tried (text_length m p) (answers_number m)) vs
effect_of strcmp m vs = taking_addresses (λ p q. tried (texts_compared m p q) (answers_number m)) vs
effect_of strncmp m vs =
    taking_sizes (λ p q n. tried (fronts_compared m p q n) (answers_number m)) vs
effect_of memcmp m vs = taking_sizes (λ p q n. tried (bytes_compared m p q n) (answers_number m)) vs
effect_of strcpy m vs = taking_addresses (λ p q. writing p (text_copied m p q)) vs
effect_of strncpy m vs = taking_sizes (λ p q n. writing p (front_copied m p q n)) vs
effect_of strcat m vs = taking_addresses (λ p q. writing p (text_appended m p q)) vs
effect_of memcpy m vs = taking_sizes (λ p q n. writing p (bytes_copied m p q n)) vs
effect_of memset m vs = taking_byte (λ p c n. writing p (bytes_filled m p c n)) vs
effect_of exit m vs = taking_number (λ z. ends (status_of z)) vs
effect_of sqlprint m vs = taking_nothing (error_printed m) vs
