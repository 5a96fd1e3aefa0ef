-- Sound parts are never stuck: the induction over expressions, statements and turns, for every step that serves.
use Rattle.std.proofs.Common.{◌≡◌, ℕ, zero, suc, ◌+◌, ◌<◌, inl, inr, List, [], ◌∷◌, ◌++◌, map, length, Option, Some, None, Bool, true, false, Result, Ok, Err, refl, sym, ap, subst, arith, length-append, append-nil, append_assoc}
use Rattle.std.proofs.lemmas.List.{length-map}
use Rattle.std.specs.Prelude.{not as negation, slice_get, replicate, nat_eq, pos, ℤ, codes}
use Rattle.ec_base.specs.declared.stop.Trap.{Trap}
use Rattle.ec_meaning_defs.specs.functions.Formats.{Amount, absent, given as fixed_amount, from_argument, Part, plain, integer, character, text}
use Rattle.ec_meaning_defs.specs.functions.Functions.{Known, print, puts, putchar, strlen, strcmp, strncmp, memcmp, strcpy, strncpy, strcat, memcpy, memset, exit, sqlprint, Effect, answers, traps as traps_there, ends, misfit as no_call, effect_of, status_of, byte_of, Channel, standard_output, standard_error, printing, writing, answers_number, error_printed, tried as tried_there, taking_number, taking_address, taking_addresses, taking_sizes, taking_byte, taking_nothing, message_length, message_bytes, message_size}
use Rattle.ec_meaning_defs.specs.functions.Printing.{Put, with_number, with_address, with_amount, part_put, printed, joined}
use Rattle.ec_meaning_defs.specs.functions.Strings.{text_length, texts_compared, fronts_compared, bytes_compared, text_copied, front_copied, text_appended, bytes_copied, bytes_filled}
use Rattle.ec_ctypes.specs.declared.types.arith.Arith.TheVariants.{Int}
use Rattle.ec_memory_defs.specs.Cells.{set_cells}
use Rattle.ec_memory_defs.specs.Memory.{Memory, ValueData, number, address, ScalarType, integer_type, pointer_type, scalar_size, last_number, make, moved, difference, cells_at, span, decoded, and_then, load as loaded, store as stored, copy as copied, put as put_bytes, unset, fill, with_object, text_at, pointer_to}
use Rattle.ec_meaning_defs.specs.resolved.Labels.{same as same_mark, holds, holds_any}
use Rattle.ec_meaning_defs.specs.resolved.Operations.{is_true, truth, value_as, negated, flipped, number_worked, address_worked, Worked, gives, traps, misfit, worked, compared, pointers_worked, on_numbers, on_pointer, Operation, integers, shift_left, shift_right, compare, pointer_plus, plus_pointer, pointer_minus, pointers_apart, Comparison}
use Rattle.ec_meaning_defs.specs.resolved.Programs.{Function, Program, opening_objects}
use Rattle.ec_meaning_defs.specs.resolved.Resolved.{Update, Exp, object, slot, member, constant, load, whole as all_of, store, copy, put, update, convert, negate, flip, not, operate, both, either, choice, call, known, library_call, faulty, Exps, no_exps, exps, library, Mark, named, case, default, Stm, on_line, nothing, evaluate, declare, initialize, block, choose, loop, leave, next, return, goto, label, select, embedded_statement, Stms, no_stms, stms}
use Rattle.ec_meaning_defs.specs.evaluation.State.{Answer, State, Ending, trapped, turns_spent}
use Rattle.ec_meaning_defs.specs.evaluation.Results.{no_value, or_no_value, Res, value, on, broke, continued, went, back, over, on_value, on_done, after_body, after_switch, tried, changed, worked_out, at_address, on_number, present, done_there, turn, made, given, closing, function_end, without_answer, answered, exits_with, returned, finished}
use Rattle.ec_meaning_defs.specs.evaluation.Evaluate.{Context, calls, turn_of, look_for, World, Step, updated, eval, collect}
use Rattle.ec_meaning_defs.specs.evaluation.Execute.{tested, again, settle, inside, enter, declared, initialized, returning, run, run_all, look, look_all, body_run, in_function, called, act, meaning}
use Rattle.ec_meaning_defs.specs.evaluation.Whole.{opened, main_run, whole_within, observed, opening_state, program_meaning}
use Rattle.ec_sound_defs.specs.Sorts.{Sort, number_sort, address_sort, any_sort, OfSort, OfSorts, Takes, sort_of, sort_of_value, left_of, right_of, result_sort, amount_needs, part_needs, parts_need, known_takes, known_gives}
use Rattle.ec_sound_defs.specs.Sound.{Signature, Around, Atoms, call_gives, looping, switching, within, MayReturn, MayEnd, Called, count_of, IsComparison, Has, HasEach, HasOption, Returns, Sound, SoundAll, in_body, SoundFunction, SoundFunctions, main_signature, EndsWithValue, SoundProgram}
use Rattle.ec_sound_defs.specs.Outcomes.{IsNotStuck, Gives, Answers, Goes, Leads, Settled, Stands, CallsAnswer, LibrariesGo, SoundWorld, Serves}

-- ---- sorts

taken : (k j : Sort) → Takes k j → (v : ValueData) → OfSort j v → OfSort k v
taken any_sort j t v h = tt
taken number_sort number_sort t v h = h
taken number_sort address_sort t v h = absurd t
taken number_sort any_sort t v h = absurd t
taken address_sort number_sort t v h = absurd t
taken address_sort address_sort t v h = h
taken address_sort any_sort t v h = absurd t

of_itself : (v : ValueData) → OfSort (sort_of_value v) v
of_itself (number z) = tt
of_itself (address p) = tt

as_sort : (kind : ScalarType) (v : ValueData) → OfSort (sort_of kind) (value_as kind v)
as_sort (integer_type t) v = tt
as_sort pointer_type (number z) = tt
as_sort pointer_type (address p) = tt

decoded_sort : (kind : ScalarType) (bytes : List ℕ) → OfSort (sort_of kind) (decoded kind bytes)
decoded_sort (integer_type t) bytes = tt
decoded_sort pointer_type bytes = tt

truth_sort : (b : Bool) → OfSort number_sort (truth b)
truth_sort true = tt
truth_sort false = tt

as_many : (n : ℕ) (k : Sort) (vs : List ValueData) → OfSorts (replicate n k) vs → length vs ≡ n
as_many zero k [] h = refl
as_many zero k (v ∷ vs) h = absurd h
as_many (suc n) k [] h = absurd h
as_many (suc n) k (v ∷ vs) h = let e = as_many n k vs h.1 in ap suc e

-- values behind values
sorts_behind : (ks : List Sort) (vs : List ValueData) (js : List Sort) (us : List ValueData) → OfSorts ks vs → OfSorts js us → OfSorts (ks ++ js) (vs ++ us)
sorts_behind [] [] js us h g = g
sorts_behind [] (v ∷ vs) js us h g = absurd h
sorts_behind (k ∷ ks) [] js us h g = absurd h
sorts_behind (k ∷ ks) (v ∷ vs) js us h g = (h.0, sorts_behind ks vs js us h.1 g)

-- ---- operations

abbrev WorkOf : Sort → Worked → Type 0
WorkOf k (gives v) = OfSort k v
WorkOf k (traps t) = Unit {0}
WorkOf k misfit = ⊥

numbers_work : (r : Result ℤ Trap) → WorkOf number_sort (number_worked r)
numbers_work (Ok z) = tt
numbers_work (Err trap) = tt

addresses_work : (r : Result ℕ Trap) → WorkOf address_sort (address_worked r)
addresses_work (Ok p) = tt
addresses_work (Err trap) = tt

on_numbers_works : (k : ℤ → ℤ → Worked) → ((a b : ℤ) → WorkOf number_sort (k a b)) → (x y : ValueData) → OfSort number_sort x → OfSort number_sort y → WorkOf number_sort (on_numbers k x y)
on_numbers_works k w (number a) (number b) h g = w a b
on_numbers_works k w (number a) (address q) h g = absurd g
on_numbers_works k w (address p) y h g = absurd h

on_pointer_works : (k : ℕ → ℤ → Worked) → ((p : ℕ) (n : ℤ) → WorkOf address_sort (k p n)) → (x y : ValueData) → OfSort address_sort x → OfSort number_sort y → WorkOf address_sort (on_pointer k x y)
on_pointer_works k w (address p) (number n) h g = w p n
on_pointer_works k w (address p) (address q) h g = absurd g
on_pointer_works k w (number n) y h g = absurd h

compares_numbers : (c : Comparison) (x y : ValueData) → OfSort number_sort x → OfSort number_sort y → WorkOf number_sort (compared c x y)
compares_numbers c (number a) (number b) h g = truth_sort _
compares_numbers c (number a) (address q) h g = absurd g
compares_numbers c (address p) y h g = absurd h

compares_addresses : (c : Comparison) (x y : ValueData) → OfSort address_sort x → OfSort address_sort y → WorkOf number_sort (compared c x y)
compares_addresses c (address p) (address q) h g = truth_sort _
compares_addresses c (address p) (number b) h g = absurd g
compares_addresses c (number a) y h g = absurd h

apart_works : (size : ℕ) (x y : ValueData) → OfSort address_sort x → OfSort address_sort y → WorkOf number_sort (pointers_worked size x y)
apart_works size (address p) (address q) h g = numbers_work (difference p q size)
apart_works size (address p) (number b) h g = absurd g
apart_works size (number a) y h g = absurd h

works : (op : Operation) (m : Memory) (x y : ValueData) → OfSort (left_of op) x → OfSort (right_of op) y → WorkOf (result_sort op) (worked op m x y)
works (integers t op) m x y h g = on_numbers_works _ (λ a b. numbers_work _) x y h g
works (shift_left t) m x y h g = on_numbers_works _ (λ a b. numbers_work _) x y h g
works (shift_right t) m x y h g = on_numbers_works _ (λ a b. numbers_work _) x y h g
works (compare c) m x y h g = compares_numbers c x y h g
works (pointer_plus size) m x y h g = on_pointer_works _ (λ p n. addresses_work _) x y h g
works (plus_pointer size) m x y h g = on_pointer_works _ (λ p n. addresses_work _) y x g h
works (pointer_minus size) m x y h g = on_pointer_works _ (λ p n. addresses_work _) x y h g
works (pointers_apart size) m x y h g = apart_works size x y h g

works_on_addresses : (op : Operation) (m : Memory) (x y : ValueData) → IsComparison op → OfSort address_sort x → OfSort address_sort y → WorkOf (result_sort op) (worked op m x y)
works_on_addresses (integers t op) m x y e h g = absurd e
works_on_addresses (shift_left t) m x y e h g = absurd e
works_on_addresses (shift_right t) m x y e h g = absurd e
works_on_addresses (compare c) m x y e h g = compares_addresses c x y h g
works_on_addresses (pointer_plus size) m x y e h g = absurd e
works_on_addresses (plus_pointer size) m x y e h g = absurd e
works_on_addresses (pointer_minus size) m x y e h g = absurd e
works_on_addresses (pointers_apart size) m x y e h g = absurd e

-- ---- known functions

abbrev PutFits : List Sort → Put → Type 0
PutFits rest None = ⊥
PutFits rest (Some done) = OfSorts rest done.1

number_fits : (rest js : List Sort) (vs : List ValueData) (k : ℤ → List ValueData → Put) → OfSorts (number_sort ∷ rest) vs → ((z : ℤ) (us : List ValueData) → OfSorts rest us → PutFits js (k z us)) → PutFits js (with_number vs k)
number_fits rest js [] k h go = absurd h
number_fits rest js (number z ∷ vs) k h go = go z vs h.1
number_fits rest js (address p ∷ vs) k h go = absurd h.0

address_fits : (rest js : List Sort) (vs : List ValueData) (k : ℕ → List ValueData → Put) → OfSorts (address_sort ∷ rest) vs → ((p : ℕ) (us : List ValueData) → OfSorts rest us → PutFits js (k p us)) → PutFits js (with_address vs k)
address_fits rest js [] k h go = absurd h
address_fits rest js (number z ∷ vs) k h go = absurd h.0
address_fits rest js (address p ∷ vs) k h go = go p vs h.1

amount_fits : (amount : Amount) (rest js : List Sort) (otherwise : ℤ) (vs : List ValueData) (k : ℤ → List ValueData → Put) → OfSorts (amount_needs amount rest) vs → ((z : ℤ) (us : List ValueData) → OfSorts rest us → PutFits js (k z us)) → PutFits js (with_amount amount otherwise vs k)
amount_fits absent rest js otherwise vs k h go = go otherwise vs h
amount_fits (fixed_amount n) rest js otherwise vs k h go = go (pos n) vs h
amount_fits from_argument rest js otherwise vs k h go = number_fits rest js vs k h go

part_fits : (m : Memory) (part : Part) (rest : List Sort) (vs : List ValueData) → OfSorts (part_needs part rest) vs → PutFits rest (part_put m part vs)
part_fits m (plain bytes) rest vs h = h
part_fits m (integer field wide style) rest vs h =
    amount_fits field.width (number_sort ∷ rest) rest _ vs _ h (λ width us g. number_fits rest rest us _ g (λ z ws f. f))
part_fits m (character field) rest vs h =
    amount_fits field.width (number_sort ∷ rest) rest _ vs _ h (λ width us g. number_fits rest rest us _ g (λ z ws f. f))
part_fits m (text field precision) rest vs h =
    amount_fits field.width (amount_needs precision (address_sort ∷ rest)) rest _ vs _ h (λ width us g.
    amount_fits precision (address_sort ∷ rest) rest _ us _ g (λ most ts e.
    address_fits rest rest ts _ e (λ p ws f. f)))

abbrev IsPrinted : Option (Result (List ℕ) Trap) → Type 0
IsPrinted None = ⊥
IsPrinted (Some r) = Unit {0}

joined_printed : (r : Result (List ℕ) Trap) (rest : Option (Result (List ℕ) Trap)) → IsPrinted rest → IsPrinted (joined r rest)
joined_printed (Err trap) rest h = tt
joined_printed (Ok bytes) None h = absurd h
joined_printed (Ok bytes) (Some (Err trap)) h = tt
joined_printed (Ok bytes) (Some (Ok more)) h = tt

printed_on : (m : Memory) (parts : List Part) (done : Put) → PutFits (parts_need parts) done → ((vs : List ValueData) → OfSorts (parts_need parts) vs → IsPrinted (printed m parts vs)) → IsPrinted (elim done [ None ↦ None | Some d ↦ joined d.0 (printed m parts d.1) ])
printed_on m parts None h go = absurd h
printed_on m parts (Some done) h go = joined_printed done.0 (printed m parts done.1) (go done.1 h)

all_printed : (m : Memory) (parts : List Part) (vs : List ValueData) → OfSorts (parts_need parts) vs → IsPrinted (printed m parts vs)
all_printed m [] [] h = tt
all_printed m [] (v ∷ vs) h = absurd h
all_printed m (part ∷ parts) vs h =
    printed_on m parts (part_put m part vs) (part_fits m part (parts_need parts) vs h) (λ us g. all_printed m parts us g)

abbrev EffectOf : Sort → Effect → Type 0
EffectOf k (answers v m output errors) = OfSort k (or_no_value v)
EffectOf k (traps_there trap) = Unit {0}
EffectOf k (ends status) = Unit {0}
EffectOf k no_call = ⊥

print_works : (channel : Channel) (m : Memory) (r : Option (Result (List ℕ) Trap)) → IsPrinted r → EffectOf number_sort (printing channel m r)
print_works channel m None h = absurd h
print_works channel m (Some (Err trap)) h = tt
print_works standard_output m (Some (Ok bytes)) h = tt
print_works standard_error m (Some (Ok bytes)) h = tt

tried_works : {A : Type 0} (j : Sort) (r : Result A Trap) (k : A → Effect) → ((a : A) → EffectOf j (k a)) → EffectOf j (tried_there r k)
tried_works j (Ok a) k h = h a
tried_works j (Err trap) k h = tt

number_taken : (j : Sort) (k : ℤ → Effect) (vs : List ValueData) → OfSorts (number_sort ∷ []) vs → ((z : ℤ) → EffectOf j (k z)) → EffectOf j (taking_number k vs)
number_taken j k [] h go = absurd h
number_taken j k (number z ∷ []) h go = go z
number_taken j k (number z ∷ v ∷ vs) h go = absurd h.1
number_taken j k (address p ∷ vs) h go = absurd h.0

address_taken : (j : Sort) (k : ℕ → Effect) (vs : List ValueData) → OfSorts (address_sort ∷ []) vs → ((p : ℕ) → EffectOf j (k p)) → EffectOf j (taking_address k vs)
address_taken j k [] h go = absurd h
address_taken j k (address p ∷ []) h go = go p
address_taken j k (address p ∷ v ∷ vs) h go = absurd h.1
address_taken j k (number z ∷ vs) h go = absurd h.0

addresses_taken : (j : Sort) (k : ℕ → ℕ → Effect) (vs : List ValueData) → OfSorts (address_sort ∷ address_sort ∷ []) vs → ((p q : ℕ) → EffectOf j (k p q)) → EffectOf j (taking_addresses k vs)
addresses_taken j k [] h go = absurd h
addresses_taken j k (address p ∷ vs) h go = address_taken j (k p) vs h.1 (go p)
addresses_taken j k (number z ∷ vs) h go = absurd h.0

sizes_taken : (j : Sort) (k : ℕ → ℕ → ℕ → Effect) (vs : List ValueData) → OfSorts (address_sort ∷ address_sort ∷ number_sort ∷ []) vs → ((p q n : ℕ) → EffectOf j (k p q n)) → EffectOf j (taking_sizes k vs)
sizes_taken j k [] h go = absurd h
sizes_taken j k (number z ∷ vs) h go = absurd h.0
sizes_taken j k (address p ∷ []) h go = absurd h.1
sizes_taken j k (address p ∷ number z ∷ vs) h go = absurd h.1.0
sizes_taken j k (address p ∷ address q ∷ vs) h go = number_taken j _ vs h.1.1 (λ z. go p q _)

byte_taken : (j : Sort) (k : ℕ → ℕ → ℕ → Effect) (vs : List ValueData) → OfSorts (address_sort ∷ number_sort ∷ number_sort ∷ []) vs → ((p b n : ℕ) → EffectOf j (k p b n)) → EffectOf j (taking_byte k vs)
byte_taken j k [] h go = absurd h
byte_taken j k (number z ∷ vs) h go = absurd h.0
byte_taken j k (address p ∷ []) h go = absurd h.1
byte_taken j k (address p ∷ address q ∷ vs) h go = absurd h.1.0
byte_taken j k (address p ∷ number c ∷ vs) h go = number_taken j _ vs h.1.1 (λ z. go p _ _)

nothing_taken : (j : Sort) (e : Effect) (vs : List ValueData) → OfSorts [] vs → EffectOf j e → EffectOf j (taking_nothing e vs)
nothing_taken j e [] h g = g
nothing_taken j e (v ∷ vs) h g = absurd h

written_there : (p : ℕ) (r : Result Memory Trap) → EffectOf address_sort (writing p r)
written_there p (Ok m) = tt
written_there p (Err trap) = tt

number_tried : (m : Memory) (r : Result ℤ Trap) → EffectOf number_sort (tried_there r (answers_number m))
number_tried m (Ok z) = tt
number_tried m (Err trap) = tt

text_put : (m : Memory) (r : Result (List ℕ) Trap) → EffectOf number_sort (tried_there r (λ bytes. answers (Some (number (pos 1))) m (bytes ++ 10 ∷ []) []))
text_put m (Ok bytes) = tt
text_put m (Err trap) = tt

error_span : (m : Memory) (r : Result (List ℕ) Trap) → EffectOf any_sort (tried_there r (λ bytes. answers None m [] (codes "SQL error: " ++ bytes ++ 10 ∷ [])))
error_span m (Ok bytes) = tt
error_span m (Err trap) = tt

error_works : (m : Memory) (r : Result ValueData Trap) → EffectOf any_sort (tried_there r (λ v. tried_there (span m message_bytes (message_size v)) (λ bytes. answers None m [] (codes "SQL error: " ++ bytes ++ 10 ∷ []))))
error_works m (Ok v) = error_span m (span m message_bytes (message_size v))
error_works m (Err trap) = tt

known_works : (f : Known) (m : Memory) (vs : List ValueData) → OfSorts (known_takes f) vs → EffectOf (known_gives f) (effect_of f m vs)
known_works (print channel parts) m vs h = print_works channel m (printed m parts vs) (all_printed m parts vs h)
known_works puts m vs h =
    address_taken number_sort (λ p. tried_there (text_at m p) (λ bytes. answers (Some (number (pos 1))) m (bytes ++ 10 ∷ []) [])) vs h (λ p. text_put m (text_at m p))
known_works putchar m vs h =
    number_taken number_sort (λ z. answers (Some (number (pos (byte_of z)))) m (byte_of z ∷ []) []) vs h (λ z. tt)
known_works strlen m vs h =
    address_taken number_sort (λ p. tried_there (text_length m p) (answers_number m)) vs h (λ p. number_tried m (text_length m p))
known_works strcmp m vs h =
    addresses_taken number_sort (λ p q. tried_there (texts_compared m p q) (answers_number m)) vs h (λ p q. number_tried m (texts_compared m p q))
known_works strncmp m vs h =
    sizes_taken number_sort (λ p q n. tried_there (fronts_compared m p q n) (answers_number m)) vs h (λ p q n. number_tried m (fronts_compared m p q n))
known_works memcmp m vs h =
    sizes_taken number_sort (λ p q n. tried_there (bytes_compared m p q n) (answers_number m)) vs h (λ p q n. number_tried m (bytes_compared m p q n))
known_works strcpy m vs h = addresses_taken address_sort (λ p q. writing p (text_copied m p q)) vs h (λ p q. written_there p (text_copied m p q))
known_works strncpy m vs h =
    sizes_taken address_sort (λ p q n. writing p (front_copied m p q n)) vs h (λ p q n. written_there p (front_copied m p q n))
known_works strcat m vs h = addresses_taken address_sort (λ p q. writing p (text_appended m p q)) vs h (λ p q. written_there p (text_appended m p q))
known_works memcpy m vs h =
    sizes_taken address_sort (λ p q n. writing p (bytes_copied m p q n)) vs h (λ p q n. written_there p (bytes_copied m p q n))
known_works memset m vs h =
    byte_taken address_sort (λ p b n. writing p (bytes_filled m p b n)) vs h (λ p b n. written_there p (bytes_filled m p b n))
known_works exit m vs h = number_taken any_sort (λ z. ends (status_of z)) vs h (λ z. tt)
known_works sqlprint m vs h =
    nothing_taken any_sort (error_printed m) vs h (error_works m (loaded m message_length (integer_type Int)))

-- ---- going on

-- a property that each run keeps which is over and not stuck
abbrev pub Over : (Res → Type 0) → Type 0
Over P = (e : Ending) (s : State) → IsNotStuck e → P (over e s)

module _ (P : Res → Type 0) (ended : Over P) where
  pub value_in : (k : Sort) (r : Res) → Gives k r → (f : ValueData → State → Res) → ((v : ValueData) (s : State) → OfSort k v → P (f v s)) → P (on_value r f)
  value_in k (value v s) h f go = go v s h
  value_in k (on s) h f go = absurd h
  value_in k (broke s) h f go = absurd h
  value_in k (continued s) h f go = absurd h
  value_in k (went l s) h f go = absurd h
  value_in k (back v s) h f go = absurd h
  value_in k (over e s) h f go = ended e s h

  tried_in : {A : Type 0} (line : ℕ) (r : Result A Trap) (s : State) (f : A → Res) → ((a : A) → P (f a)) → P (tried line r s f)
  tried_in line (Ok a) s f go = go a
  tried_in line (Err trap) s f go = ended (trapped trap line) s tt

  loaded_in : (line : ℕ) (kind : ScalarType) (r : Result (List ℕ) Trap) (s : State) (f : ValueData → Res) → ((v : ValueData) → OfSort (sort_of kind) v → P (f v)) → P (tried line (and_then r (λ bytes. Ok (decoded kind bytes))) s f)
  loaded_in line kind (Ok bytes) s f go = go (decoded kind bytes) (decoded_sort kind bytes)
  loaded_in line kind (Err trap) s f go = ended (trapped trap line) s tt

  changed_in : (line : ℕ) (r : Result Memory Trap) (s : State) (f : State → Res) → ((t : State) → P (f t)) → P (changed line r s f)
  changed_in line (Ok m) s f go = go (record s { memory = m })
  changed_in line (Err trap) s f go = ended (trapped trap line) s tt

  work_in : (line : ℕ) (k : Sort) (r : Worked) → WorkOf k r → (s : State) (f : ValueData → Res) → ((v : ValueData) → OfSort k v → P (f v)) → P (worked_out line r s f)
  work_in line k (gives v) h s f go = go v h
  work_in line k (traps trap) h s f go = ended (trapped trap line) s tt
  work_in line k misfit h s f go = absurd h

  pub address_in : (v : ValueData) → OfSort address_sort v → (s : State) (f : ℕ → Res) → ((p : ℕ) → P (f p)) → P (at_address v s f)
  address_in (address p) h s f go = go p
  address_in (number z) h s f go = absurd h

  number_in : (v : ValueData) → OfSort number_sort v → (s : State) (f : ℤ → Res) → ((z : ℤ) → P (f z)) → P (on_number v s f)
  number_in (number z) h s f go = go z
  number_in (address p) h s f go = absurd h

  -- an object in scope
  there_in : (xs : List ℕ) (i : ℕ) → i < length xs → (s : State) (f : ℕ → Res) → ((p : ℕ) → P (f p)) → P (present (slice_get xs i) s f)
  there_in [] i h s f go = absurd (omega (arith, h))
  there_in (x ∷ xs) zero h s f go = go x
  there_in (x ∷ xs) (suc i) h s f go = there_in xs i (omega (arith, h)) s f go

  pub turn_in : (s : State) (f : State → Res) → ((t : State) → P (f t)) → P (turn s f)
  turn_in s f go = by s.turns
    where
      by : (n : ℕ) → P (elim n [ zero ↦ over turns_spent s | suc m ↦ f (record s { turns = m }) ])
      by zero = ended turns_spent s tt
      by (suc m) = go (record s { turns = m })

  made_in : (line : ℕ) (sizes objects : List ℕ) (s : State) (f : List ℕ → State → Res) → ((more : List ℕ) (t : State) → length more ≡ length objects + length sizes → P (f more t)) → P (made line sizes objects s f)
  made_in line [] objects s f go = go objects s (omega (arith))
  made_in line (size ∷ sizes) objects s f go =
      tried_in line (make s.memory size) s (λ r. made line sizes (objects ++ r.0 ∷ []) (record s { memory = r.1 }) f) (λ r.
      made_in line sizes (objects ++ r.0 ∷ []) (record s { memory = r.1 }) f (λ more t e. go more t (omega (arith, e, length-append objects (r.0 ∷ [])))))

  given_in : (line : ℕ) (kinds : List ScalarType) (ps : List ℕ) (vs : List ValueData) → length ps ≡ length kinds → length vs ≡ length kinds → (s : State) (f : State → Res) → ((t : State) → P (f t)) → P (given line kinds ps vs s f)
  given_in line [] [] [] h g s f go = go s
  given_in line [] [] (v ∷ vs) h g s f go = absurd (omega (arith, g))
  given_in line [] (p ∷ ps) vs h g s f go = absurd (omega (arith, h))
  given_in line (kind ∷ kinds) [] vs h g s f go = absurd (omega (arith, h))
  given_in line (kind ∷ kinds) (p ∷ ps) [] h g s f go = absurd (omega (arith, g))
  given_in line (kind ∷ kinds) (p ∷ ps) (v ∷ vs) h g s f go =
      changed_in line (stored s.memory p kind v) s (λ t. given line kinds ps vs t f) (λ t.
      given_in line kinds ps vs (omega (arith, h)) (omega (arith, g)) t f go)

  opened_in : (objects : List (List ℕ)) (s : State) (f : State → Res) → ((t : State) → P (f t)) → P (opened objects s f)
  opened_in [] s f go = go s
  opened_in (bytes ∷ objects) s f go =
      tried_in 1 (with_object s.memory (set_cells bytes)) s (λ r. opened objects (record s { memory = r.1 }) f) (λ r.
      opened_in objects (record s { memory = r.1 }) f go)

-- ---- expressions

-- those that the parts round an expression ask for: a run that is over is over there too
pub gives_over : (k : Sort) → Over (Gives k)
gives_over k e s h = h

pub goes_over : Over Goes
goes_over e s h = h

leads_over : (first : Bool) (a : Around) → Over (Leads first a)
leads_over first a e s h = h

settled_over : (first : Bool) (a : Around) (b : Stms) → Over (Settled first a b)
settled_over first a b e s h = h

answers_over : (k : Sort) → Over (Answers k)
answers_over k e s h = h

effect_in : (k j : Sort) → Takes k j → (line : ℕ) (e : Effect) → EffectOf j e → (s : State) → Gives k (done_there line e s)
effect_in k j t line (answers v m output errors) h s = taken k j t (or_no_value v) h
effect_in k j t line (traps_there trap) h s = tt
effect_in k j t line (ends status) h s = tt
effect_in k j t line no_call h s = absurd h

answered_in : (k : Sort) (line : ℕ) (used : Bool) (g : Signature) → Takes k (call_gives used g) → (r : Res) → Answers g.gives r → Gives k (answered line used r)
answered_in k line used g t (value v s) h = absurd h
answered_in k line used g t (on s) h = absurd h
answered_in k line used g t (broke s) h = absurd h
answered_in k line used g t (continued s) h = absurd h
answered_in k line used g t (went l s) h = absurd h
answered_in k line true g t (back None s) h = tt
answered_in k line false g t (back None s) h = taken k any_sort t no_value tt
answered_in k line true g t (back (Some v) s) h = taken k g.gives t v h
answered_in k line false g t (back (Some v) s) h = taken k any_sort t v tt
answered_in k line used g t (over e s) h = h

silent_in : (k : Sort) → k ≡ any_sort → (r : Res) → Goes r → Gives k (without_answer r)
silent_in k e (value v s) h = absurd h
silent_in k e (on s) h = subst (λ j. OfSort j no_value) (sym e) tt
silent_in k e (broke s) h = absurd h
silent_in k e (continued s) h = absurd h
silent_in k e (went l s) h = absurd h
silent_in k e (back v s) h = absurd h
silent_in k e (over x s) h = h

old_or_new : (k : Sort) (kind : ScalarType) → Takes k (sort_of kind) → (b : Bool) (old new : ValueData) → OfSort (sort_of kind) old → OfSort k (elim b [ true ↦ old | false ↦ value_as kind new ])
old_or_new k kind t true old new h = taken k (sort_of kind) t old h
old_or_new k kind t false old new h = taken k (sort_of kind) t (value_as kind new) (as_sort kind new)

updated_in : (k : Sort) (line : ℕ) (u : Update) → Takes k (sort_of u.kind) → (p : ℕ) (old new : ValueData) → OfSort (sort_of u.kind) old → (s : State) → Gives k (updated line u p old new s)
updated_in k line u t p old new h s =
    changed_in (Gives k) (gives_over k) line (stored s.memory p u.kind (value_as u.kind new)) s
    (λ r. value (elim u.gives_old [ true ↦ old | false ↦ value_as u.kind new ]) r) (λ r. old_or_new k u.kind t u.gives_old old new h)

pick_in : (P : Res → Type 0) (b : Bool) (x y : Res) → P x → P y → P (elim b [ true ↦ x | false ↦ y ])
pick_in P true x y h g = h
pick_in P false x y h g = g

-- each of the expressions is of its sort, wherever it is evaluated
abbrev EachGives : Step → World → Context → List Sort → Exps → Type 0
EachGives step w c [] no_exps = Unit {0}
EachGives step w c [] (exps e es) = ⊥
EachGives step w c (k ∷ ks) no_exps = ⊥
EachGives step w c (k ∷ ks) (exps e es) = ((s : State) → Gives k (eval step w c e s)) × EachGives step w c ks es

collect_in : (P : Res → Type 0) → Over P → (step : Step) (w : World) (c : Context) (ks : List Sort) (es : Exps) → EachGives step w c ks es → (js : List Sort) (vs : List ValueData) → OfSorts js vs → (s : State) (f : List ValueData → State → Res) → ((us : List ValueData) (t : State) → OfSorts (js ++ ks) us → P (f us t)) → P (collect step w c vs es s f)
collect_in P o step w c [] no_exps h js vs g s f go = go vs s (subst (λ x. OfSorts x vs) (sym (append-nil js)) g)
collect_in P o step w c [] (exps e es) h js vs g s f go = absurd h
collect_in P o step w c (k ∷ ks) no_exps h js vs g s f go = absurd h
collect_in P o step w c (k ∷ ks) (exps e es) h js vs g s f go =
    value_in P o k (eval step w c e s) (h.0 s) (λ v t. collect step w c (vs ++ v ∷ []) es t f) (λ v t d.
    collect_in P o step w c ks es h.1 (js ++ k ∷ []) (vs ++ v ∷ []) (sorts_behind js vs (k ∷ []) (v ∷ []) g (d, tt)) t f (λ us u x.
    go us u (subst (λ y. OfSorts y us) (append_assoc js (k ∷ []) ks) x)))

module _ (signatures : List Signature) (atoms : Atoms) (step : Step) where
  module _ (w : World) (calls_answer : CallsAnswer signatures w) (libraries_go : LibrariesGo atoms step w) where
    called_in : (k : Sort) (line f : ℕ) (used : Bool) (n : ℕ) (o : Option Signature) → slice_get signatures f ≡ o → Called signatures atoms o used n k → (vs : List ValueData) → OfSorts (replicate n any_sort) vs → (s : State) → Gives k (answered line used (w (calls line f vs) s))
    called_in k line f used n None e h vs g s = absurd h
    called_in k line f used n (Some x) e h vs g s =
        answered_in k line used x h.1 (w (calls line f vs) s) (calls_answer line f x vs e (let a = as_many n any_sort vs g in let b = h.0 in cc (a, b)) s)

    mutual
      pub eval_in : (c : Context) (k : Sort) (e : Exp) → Has signatures atoms (length c.objects) k e → (s : State) → Gives k (eval step w c e s)
      eval_in c k (object n) h s = taken k address_sort h (address (pointer_to n 0)) tt
      eval_in c k (slot i) h s =
          there_in (Gives k) (gives_over k) c.objects i h.1 s (λ p. value (address p) s) (λ p. taken k address_sort h.0 (address p) tt)
      eval_in c k (member offset e) h s =
          value_in (Gives k) (gives_over k) address_sort (eval step w c e s) (eval_in c address_sort e h.1 s)
          (λ v t. at_address v t (λ p. tried c.line (moved t.memory p (pos offset) 1) t (λ q. value (address q) t))) (λ v t g.
          address_in (Gives k) (gives_over k) v g t (λ p. tried c.line (moved t.memory p (pos offset) 1) t (λ q. value (address q) t)) (λ p.
          tried_in (Gives k) (gives_over k) c.line (moved t.memory p (pos offset) 1) t (λ q. value (address q) t) (λ q.
          taken k address_sort h.0 (address q) tt)))
      eval_in c k (constant v) h s = taken k (sort_of_value v) h v (of_itself v)
      eval_in c k (load kind e) h s =
          value_in (Gives k) (gives_over k) address_sort (eval step w c e s) (eval_in c address_sort e h.1 s)
          (λ v t. at_address v t (λ p. tried c.line (loaded t.memory p kind) t (λ x. value x t))) (λ v t g.
          address_in (Gives k) (gives_over k) v g t (λ p. tried c.line (loaded t.memory p kind) t (λ x. value x t)) (λ p.
          loaded_in (Gives k) (gives_over k) c.line kind (span t.memory p (scalar_size kind)) t (λ x. value x t) (λ x f.
          taken k (sort_of kind) h.0 x f)))
      eval_in c k (all_of size e) h s =
          value_in (Gives k) (gives_over k) address_sort (eval step w c e s) (eval_in c address_sort e h.1 s)
          (λ v t. at_address v t (λ p. tried c.line (cells_at t.memory p size) t (λ x. value (address p) t))) (λ v t g.
          address_in (Gives k) (gives_over k) v g t (λ p. tried c.line (cells_at t.memory p size) t (λ x. value (address p) t)) (λ p.
          tried_in (Gives k) (gives_over k) c.line (cells_at t.memory p size) t (λ x. value (address p) t) (λ x.
          taken k address_sort h.0 (address p) tt)))
      eval_in c k (store kind e a) h s =
          value_in (Gives k) (gives_over k) address_sort (eval step w c e s) (eval_in c address_sort e h.0 s)
          (λ v t. on_value (eval step w c a t) (λ x u. at_address v u (λ p. changed c.line (stored u.memory p kind x) u (λ r. value x r)))) (λ v t g.
          value_in (Gives k) (gives_over k) k (eval step w c a t) (eval_in c k a h.1 t)
          (λ x u. at_address v u (λ p. changed c.line (stored u.memory p kind x) u (λ r. value x r))) (λ x u f.
          address_in (Gives k) (gives_over k) v g u (λ p. changed c.line (stored u.memory p kind x) u (λ r. value x r)) (λ p.
          changed_in (Gives k) (gives_over k) c.line (stored u.memory p kind x) u (λ r. value x r) (λ r. f))))
      eval_in c k (copy size e a) h s =
          value_in (Gives k) (gives_over k) address_sort (eval step w c e s) (eval_in c address_sort e h.1 s)
          (λ v t. on_value (eval step w c a t) (λ x u. at_address v u (λ p. at_address x u (λ q. changed c.line (copied u.memory p q size) u (λ r. value (address p) r))))) (λ v t g.
          value_in (Gives k) (gives_over k) address_sort (eval step w c a t) (eval_in c address_sort a h.2 t)
          (λ x u. at_address v u (λ p. at_address x u (λ q. changed c.line (copied u.memory p q size) u (λ r. value (address p) r)))) (λ x u f.
          address_in (Gives k) (gives_over k) v g u (λ p. at_address x u (λ q. changed c.line (copied u.memory p q size) u (λ r. value (address p) r))) (λ p.
          address_in (Gives k) (gives_over k) x f u (λ q. changed c.line (copied u.memory p q size) u (λ r. value (address p) r)) (λ q.
          changed_in (Gives k) (gives_over k) c.line (copied u.memory p q size) u (λ r. value (address p) r) (λ r. taken k address_sort h.0 (address p) tt)))))
      eval_in c k (put bytes e) h s =
          value_in (Gives k) (gives_over k) address_sort (eval step w c e s) (eval_in c address_sort e h.1 s)
          (λ v t. at_address v t (λ p. changed c.line (put_bytes t.memory p bytes) t (λ u. value (address p) u))) (λ v t g.
          address_in (Gives k) (gives_over k) v g t (λ p. changed c.line (put_bytes t.memory p bytes) t (λ u. value (address p) u)) (λ p.
          changed_in (Gives k) (gives_over k) c.line (put_bytes t.memory p bytes) t (λ u. value (address p) u) (λ r.
          taken k address_sort h.0 (address p) tt)))
      eval_in c k (update n e a) h s =
          value_in (Gives k) (gives_over k) address_sort (eval step w c e s) (eval_in c address_sort e h.2 s)
          (λ v t. at_address v t (λ p. tried c.line (loaded t.memory p n.kind) t (λ old. on_value (eval step w c a t) (λ x u.
          worked_out c.line (worked n.operation u.memory (value_as n.widened old) x) u (λ new. updated c.line n p old new u))))) (λ v t g.
          address_in (Gives k) (gives_over k) v g t
          (λ p. tried c.line (loaded t.memory p n.kind) t (λ old. on_value (eval step w c a t) (λ x u.
          worked_out c.line (worked n.operation u.memory (value_as n.widened old) x) u (λ new. updated c.line n p old new u)))) (λ p.
          loaded_in (Gives k) (gives_over k) c.line n.kind (span t.memory p (scalar_size n.kind)) t
          (λ old. on_value (eval step w c a t) (λ x u.
          worked_out c.line (worked n.operation u.memory (value_as n.widened old) x) u (λ new. updated c.line n p old new u))) (λ old y.
          value_in (Gives k) (gives_over k) (right_of n.operation) (eval step w c a t) (eval_in c (right_of n.operation) a h.3 t)
          (λ x u. worked_out c.line (worked n.operation u.memory (value_as n.widened old) x) u (λ new. updated c.line n p old new u)) (λ x u f.
          work_in (Gives k) (gives_over k) c.line (result_sort n.operation) (worked n.operation u.memory (value_as n.widened old) x)
          (works n.operation u.memory (value_as n.widened old) x (subst (λ j. OfSort j (value_as n.widened old)) h.1 (as_sort n.widened old)) f) u
          (λ new. updated c.line n p old new u) (λ new z. updated_in k c.line n h.0 p old new y u)))))
      eval_in c k (convert from to e) h s =
          value_in (Gives k) (gives_over k) any_sort (eval step w c e s) (eval_in c any_sort e h.1 s) (λ v t. value (value_as to v) t) (λ v t g.
          taken k (sort_of to) h.0 (value_as to v) (as_sort to v))
      eval_in c k (negate type e) h s =
          value_in (Gives k) (gives_over k) number_sort (eval step w c e s) (eval_in c number_sort e h.1 s)
          (λ v t. on_number v t (λ z. worked_out c.line (number_worked (negated type z)) t (λ x. value x t))) (λ v t g.
          number_in (Gives k) (gives_over k) v g t (λ z. worked_out c.line (number_worked (negated type z)) t (λ x. value x t)) (λ z.
          work_in (Gives k) (gives_over k) c.line number_sort (number_worked (negated type z)) (numbers_work (negated type z)) t (λ x. value x t) (λ x f.
          taken k number_sort h.0 x f)))
      eval_in c k (flip type e) h s =
          value_in (Gives k) (gives_over k) number_sort (eval step w c e s) (eval_in c number_sort e h.1 s)
          (λ v t. on_number v t (λ z. value (number (flipped type z)) t)) (λ v t g.
          number_in (Gives k) (gives_over k) v g t (λ z. value (number (flipped type z)) t) (λ z. taken k number_sort h.0 (number (flipped type z)) tt))
      eval_in c k (not e) h s =
          value_in (Gives k) (gives_over k) any_sort (eval step w c e s) (eval_in c any_sort e h.1 s) (λ v t. value (truth (negation (is_true v))) t) (λ v t g.
          taken k number_sort h.0 (truth (negation (is_true v))) (truth_sort (negation (is_true v))))
      eval_in c k (operate op a b) h s = elim h.1 [
        | inl g ↦ value_in (Gives k) (gives_over k) (left_of op) (eval step w c a s) (eval_in c (left_of op) a g.0 s)
            (λ x t. on_value (eval step w c b t) (λ y u. worked_out c.line (worked op u.memory x y) u (λ z. value z u))) (λ x t d.
            value_in (Gives k) (gives_over k) (right_of op) (eval step w c b t) (eval_in c (right_of op) b g.1 t)
            (λ y u. worked_out c.line (worked op u.memory x y) u (λ z. value z u)) (λ y u f.
            work_in (Gives k) (gives_over k) c.line (result_sort op) (worked op u.memory x y) (works op u.memory x y d f) u (λ z. value z u) (λ z e. taken k (result_sort op) h.0 z e)))
        | inr g ↦ value_in (Gives k) (gives_over k) address_sort (eval step w c a s) (eval_in c address_sort a g.1 s)
            (λ x t. on_value (eval step w c b t) (λ y u. worked_out c.line (worked op u.memory x y) u (λ z. value z u))) (λ x t d.
            value_in (Gives k) (gives_over k) address_sort (eval step w c b t) (eval_in c address_sort b g.2 t)
            (λ y u. worked_out c.line (worked op u.memory x y) u (λ z. value z u)) (λ y u f.
            work_in (Gives k) (gives_over k) c.line (result_sort op) (worked op u.memory x y) (works_on_addresses op u.memory x y g.0 d f) u (λ z. value z u) (λ z e. taken k (result_sort op) h.0 z e)))
      ]
      eval_in c k (both a b) h s =
          value_in (Gives k) (gives_over k) any_sort (eval step w c a s) (eval_in c any_sort a h.1 s)
          (λ x t. elim (is_true x) [ true ↦ on_value (eval step w c b t) (λ y u. value (truth (is_true y)) u) | false ↦ value (truth false) t ]) (λ x t g.
          pick_in (Gives k) (is_true x) (on_value (eval step w c b t) (λ y u. value (truth (is_true y)) u)) (value (truth false) t)
          (value_in (Gives k) (gives_over k) any_sort (eval step w c b t) (eval_in c any_sort b h.2 t) (λ y u. value (truth (is_true y)) u) (λ y u f.
          taken k number_sort h.0 (truth (is_true y)) (truth_sort (is_true y))))
          (taken k number_sort h.0 (truth false) tt))
      eval_in c k (either a b) h s =
          value_in (Gives k) (gives_over k) any_sort (eval step w c a s) (eval_in c any_sort a h.1 s)
          (λ x t. elim (is_true x) [ true ↦ value (truth true) t | false ↦ on_value (eval step w c b t) (λ y u. value (truth (is_true y)) u) ]) (λ x t g.
          pick_in (Gives k) (is_true x) (value (truth true) t) (on_value (eval step w c b t) (λ y u. value (truth (is_true y)) u))
          (taken k number_sort h.0 (truth true) tt)
          (value_in (Gives k) (gives_over k) any_sort (eval step w c b t) (eval_in c any_sort b h.2 t) (λ y u. value (truth (is_true y)) u) (λ y u f.
          taken k number_sort h.0 (truth (is_true y)) (truth_sort (is_true y)))))
      eval_in c k (choice e a b) h s =
          value_in (Gives k) (gives_over k) any_sort (eval step w c e s) (eval_in c any_sort e h.0 s)
          (λ x t. elim (is_true x) [ true ↦ eval step w c a t | false ↦ eval step w c b t ]) (λ x t g.
          pick_in (Gives k) (is_true x) (eval step w c a t) (eval step w c b t) (eval_in c k a h.1 t) (eval_in c k b h.2 t))
      eval_in c k (call f used es) h s =
          collect_in (Gives k) (gives_over k) step w c (replicate (count_of es) any_sort) es (each_in c (replicate (count_of es) any_sort) es h.1) [] [] tt s (λ vs t. answered c.line used (w (calls c.line f vs) t)) (λ vs t g.
          called_in k c.line f used (count_of es) (slice_get signatures f) refl h.0 vs g t)
      eval_in c k (known f es) h s =
          collect_in (Gives k) (gives_over k) step w c (known_takes f) es (each_in c (known_takes f) es h.1) [] [] tt s (λ vs t. done_there c.line (effect_of f t.memory vs) t) (λ vs t g.
          effect_in k (known_gives f) h.0 c.line (effect_of f t.memory vs) (known_works f t.memory vs g) t)
      eval_in c k (library_call n es) h s =
          collect_in (Gives k) (gives_over k) step w c (replicate (count_of es) address_sort) es (each_in c (replicate (count_of es) address_sort) es h.2) [] [] tt s (λ vs t. without_answer (step w c (library n vs) t)) (λ vs t g.
          silent_in k h.0 (step w c (library n vs) t) (libraries_go c n (count_of es) h.1 vs g t))
      eval_in c k faulty h s = absurd h

      pub each_in : (c : Context) (ks : List Sort) (es : Exps) → HasEach signatures atoms (length c.objects) ks es → EachGives step w c ks es
      each_in c [] no_exps h = tt
      each_in c [] (exps e es) h = absurd h
      each_in c (k ∷ ks) no_exps h = absurd h
      each_in c (k ∷ ks) (exps e es) h = (λ s. eval_in c k e h.0 s, each_in c ks es h.1)

-- ---- statements

settled_leads : (first : Bool) (a : Around) (b : Stms) (r : Res) → Settled first a b r → Leads first a r
settled_leads first a b (value v s) h = absurd h
settled_leads first a b (on s) h = tt
settled_leads first a b (broke s) h = h
settled_leads first a b (continued s) h = h
settled_leads first a b (went l s) h = h.0
settled_leads first a b (back v s) h = h
settled_leads first a b (over e s) h = h

closing_in : (first : Bool) (a : Around) (n : ℕ) (r : Res) → Leads first a r → Leads first a (closing n r)
closing_in first a n (value v s) h = absurd h
closing_in first a n (on s) h = tt
closing_in first a n (broke s) h = h
closing_in first a n (continued s) h = h
closing_in first a n (went l s) h = h
closing_in first a n (back v s) h = h
closing_in first a n (over e s) h = h

done_in : (first : Bool) (a : Around) (r : Res) → Leads first a r → (f : State → Res) → ((t : State) → Leads first a (f t)) → Leads first a (on_done r f)
done_in first a (value v s) h f go = absurd h
done_in first a (on s) h f go = go s
done_in first a (broke s) h f go = h
done_in first a (continued s) h f go = h
done_in first a (went l s) h f go = h
done_in first a (back v s) h f go = h
done_in first a (over e s) h f go = h

body_then : (first : Bool) (a : Around) (r : Res) → Leads first (looping a) r → (f : State → Res) → ((t : State) → Leads first a (f t)) → Leads first a (after_body r f)
body_then first a (value v s) h f go = absurd h
body_then first a (on s) h f go = go s
body_then first a (broke s) h f go = tt
body_then first a (continued s) h f go = go s
body_then first a (went l s) h f go = h
body_then first a (back v s) h f go = h
body_then first a (over e s) h f go = h

switch_then : (first : Bool) (a : Around) (r : Res) → Leads first (switching a) r → Leads first a (after_switch r)
switch_then first a (value v s) h = absurd h
switch_then first a (on s) h = tt
switch_then first a (broke s) h = tt
switch_then first a (continued s) h = h
switch_then first a (went l s) h = h
switch_then first a (back v s) h = h
switch_then first a (over e s) h = h

nothing_returned : (first : Bool) (a : Around) → (first ≡ true → a.gives ≡ number_sort) → a.gives ≡ any_sort → (s : State) → Leads first a (returned first None s)
nothing_returned true a n h s = let e = n refl in cc (e, h)
nothing_returned false a n h s = (refl, h)

value_returned : (first : Bool) (a : Around) (v : ValueData) → OfSort a.gives v → (s : State) → Leads first a (returned first (Some v) s)
value_returned true a v h s = tt
value_returned false a v h s = (refl, h)

in_loop : (c : Context) (a : Around) → Stands c a → Stands c (looping a)
in_loop c a st = record { objects = st.objects; first = st.first }

in_switch : (c : Context) (a : Around) → Stands c a → Stands c (switching a)
in_switch c a st = record { objects = st.objects; first = st.first }

module _ (signatures : List Signature) (atoms : Atoms) (step : Step) (serves : Serves signatures atoms step) where
  module _ (w : World) (sound : SoundWorld signatures atoms w) where
    eval_at : (c : Context) (a : Around) → Stands c a → (k : Sort) (e : Exp) → Has signatures atoms a.count k e → (s : State) → Gives k (eval step w c e s)
    eval_at c a st k e h s = eval_in signatures atoms step w sound.called (serves.libraries w sound) c k e (subst (λ n. Has signatures atoms n k e) (sym st.objects) h) s

    each_at : (c : Context) (a : Around) → Stands c a → (ks : List Sort) (es : Exps) → HasEach signatures atoms a.count ks es → EachGives step w c ks es
    each_at c a st ks es h = each_in signatures atoms step w sound.called (serves.libraries w sound) c ks es (subst (λ n. HasEach signatures atoms n ks es) (sym st.objects) h)

    tested_in : (c : Context) (a : Around) → Stands c a → (test behind : Option Exp) (x : Stm) → HasOption signatures atoms a.count test → HasOption signatures atoms a.count behind → Sound signatures atoms (looping a) x → (s : State) → Leads c.first a (tested step w c test behind x s)
    tested_in c a st None behind x h g f s = sound.looped a c st None behind x h g f s
    tested_in c a st (Some e) behind x h g f s =
        value_in (Leads c.first a) (leads_over c.first a) any_sort (eval step w c e s) (eval_at c a st any_sort e h s)
        (λ v t. elim (is_true v) [ true ↦ w (turn_of c (Some e) behind x) t | false ↦ on t ]) (λ v t d.
        pick_in (Leads c.first a) (is_true v) (w (turn_of c (Some e) behind x) t) (on t) (sound.looped a c st (Some e) behind x h g f t) tt)

    again_in : (c : Context) (a : Around) → Stands c a → (test behind : Option Exp) (x : Stm) → HasOption signatures atoms a.count test → HasOption signatures atoms a.count behind → Sound signatures atoms (looping a) x → (s : State) → Leads c.first a (again step w c test behind x s)
    again_in c a st test None x h g f s = tested_in c a st test None x h g f s
    again_in c a st test (Some e) x h g f s =
        value_in (Leads c.first a) (leads_over c.first a) any_sort (eval step w c e s) (eval_at c a st any_sort e g s)
        (λ v t. tested step w c test (Some e) x t) (λ v t d. tested_in c a st test (Some e) x h g f t)

    jump_in : (c : Context) (a : Around) → Stands c a → (b : Stms) → SoundAll signatures atoms a b → (l : ℕ) → holds_any (named l) a.body ≡ true → (s : State) (t : Bool) → holds_any (named l) b ≡ t → Settled c.first a b (elim t [ true ↦ w (look_for c l b) s | false ↦ went l s ])
    jump_in c a st b h l e s true f = sound.looked a c st l b h s
    jump_in c a st b h l e s false f = (e, f)

    settle_in : (c : Context) (a : Around) → Stands c a → (b : Stms) → SoundAll signatures atoms a b → (r : Res) → Leads c.first a r → Settled c.first a b (settle w c b r)
    settle_in c a st b h (value v s) g = absurd g
    settle_in c a st b h (on s) g = tt
    settle_in c a st b h (broke s) g = g
    settle_in c a st b h (continued s) g = g
    settle_in c a st b h (went l s) g = jump_in c a st b h l g s (holds_any (named l) b) refl
    settle_in c a st b h (back v s) g = g
    settle_in c a st b h (over e s) g = g

    stands_inside : (c : Context) (a : Around) → Stands c a → (sizes more : List ℕ) → length more ≡ length c.objects + length sizes → Stands (inside c more) (within a sizes)
    stands_inside c a st sizes more e = record { objects = omega (arith, e, st.objects); first = st.first }

    enter_in : (c : Context) (a : Around) → Stands c a → (sizes : List ℕ) (b : Stms) → SoundAll signatures atoms (within a sizes) b → (go : Context → State → Res) → ((d : Context) → Stands d (within a sizes) → (t : State) → Leads d.first (within a sizes) (go d t)) → (s : State) → Leads c.first a (enter w c sizes b go s)
    enter_in c a st sizes b h go f s =
        closing_in c.first a (last_number s.memory) (made c.line sizes c.objects s (λ objects t. settle w (inside c objects) b (go (inside c objects) t)))
        (made_in (Leads c.first a) (leads_over c.first a) c.line sizes c.objects s (λ objects t. settle w (inside c objects) b (go (inside c objects) t)) (λ more t e.
        settled_leads c.first (within a sizes) b (settle w (inside c more) b (go (inside c more) t))
        (settle_in (inside c more) (within a sizes) (stands_inside c a st sizes more e) b h (go (inside c more) t) (f (inside c more) (stands_inside c a st sizes more e) t))))

    declared_in : (c : Context) (a : Around) → Stands c a → (i size : ℕ) → i < a.count → (s : State) → Leads c.first a (declared c i size s)
    declared_in c a st i size h s =
        there_in (Leads c.first a) (leads_over c.first a) c.objects i (subst (λ n. i < n) (sym st.objects) h) s
        (λ p. changed c.line (unset s.memory p size) s (λ t. on t)) (λ p.
        changed_in (Leads c.first a) (leads_over c.first a) c.line (unset s.memory p size) s (λ t. on t) (λ t. tt))

    initialized_in : (c : Context) (a : Around) → Stands c a → (i size : ℕ) (es : Exps) → i < a.count → HasEach signatures atoms a.count (replicate (count_of es) any_sort) es → (s : State) → Leads c.first a (initialized step w c i size es s)
    initialized_in c a st i size es h g s =
        there_in (Leads c.first a) (leads_over c.first a) c.objects i (subst (λ n. i < n) (sym st.objects) h) s
        (λ p. changed c.line (fill s.memory p size 0) s (λ t. collect step w c [] es t (λ vs u. on u))) (λ p.
        changed_in (Leads c.first a) (leads_over c.first a) c.line (fill s.memory p size 0) s (λ t. collect step w c [] es t (λ vs u. on u)) (λ t.
        collect_in (Leads c.first a) (leads_over c.first a) step w c (replicate (count_of es) any_sort) es (each_at c a st (replicate (count_of es) any_sort) es g) [] [] tt t (λ vs u. on u) (λ vs u d. tt)))

    returning_in : (c : Context) (a : Around) → Stands c a → (e : Option Exp) → Returns signatures atoms a e → (s : State) → Leads c.first a (returning step w c e s)
    returning_in c a st None h s = nothing_returned c.first a st.first h s
    returning_in c a st (Some e) h s =
        value_in (Leads c.first a) (leads_over c.first a) a.gives (eval step w c e s) (eval_at c a st a.gives e h s) (λ v t. returned c.first (Some v) t) (λ v t d.
        value_returned c.first a v d t)

    on_this_line : (c : Context) (a : Around) → Stands c a → (n : ℕ) → Stands (record c { line = n }) a
    on_this_line c a st n = record { objects = st.objects; first = st.first }

    mutual
      pub run_in : (x : Stm) (c : Context) (a : Around) → Stands c a → Sound signatures atoms a x → (s : State) → Leads c.first a (run step w c x s)
      run_in (on_line n x) c a st h s = run_in x (record c { line = n }) a (on_this_line c a st n) h s
      run_in nothing c a st h s = tt
      run_in (evaluate e) c a st h s =
          value_in (Leads c.first a) (leads_over c.first a) any_sort (eval step w c e s) (eval_at c a st any_sort e h s) (λ v t. on t) (λ v t d. tt)
      run_in (declare i size) c a st h s = declared_in c a st i size h s
      run_in (initialize i size es) c a st h s = initialized_in c a st i size es h.0 h.1 s
      run_in (block sizes b) c a st h s =
          enter_in c a st sizes b h (λ d t. run_all step w d b t) (λ d sd t. run_all_in b d (within a sizes) sd h t) s
      run_in (choose e x y) c a st h s =
          value_in (Leads c.first a) (leads_over c.first a) any_sort (eval step w c e s) (eval_at c a st any_sort e h.0 s)
          (λ v t. elim (is_true v) [ true ↦ run step w c x t | false ↦ run step w c y t ]) (λ v t d.
          pick_in (Leads c.first a) (is_true v) (run step w c x t) (run step w c y t) (run_in x c a st h.1 t) (run_in y c a st h.2 t))
      run_in (loop first test behind x) c a st h s =
          pick_in (Leads c.first a) first (tested step w c test behind x s) (w (turn_of c test behind x) s)
          (tested_in c a st test behind x h.0 h.1 h.2 s) (sound.looped a c st test behind x h.0 h.1 h.2 s)
      run_in leave c a st h s = h
      run_in next c a st h s = h
      run_in (return e) c a st h s = returning_in c a st e h s
      run_in (goto l) c a st h s = turn_in (Leads c.first a) (leads_over c.first a) s (λ t. went l t) (λ t. h)
      run_in (label l x) c a st h s = run_in x c a st h s
      run_in (select e x) c a st h s =
          value_in (Leads c.first a) (leads_over c.first a) number_sort (eval step w c e s) (eval_at c a st number_sort e h.0 s)
          (λ v t. on_number v t (λ z. elim (holds (case z) x) [ true ↦ after_switch (look step w (case z) c x t) | false ↦ elim (holds default x) [ true ↦ after_switch (look step w default c x t) | false ↦ on t ] ])) (λ v t d.
          number_in (Leads c.first a) (leads_over c.first a) v d t
          (λ z. elim (holds (case z) x) [ true ↦ after_switch (look step w (case z) c x t) | false ↦ elim (holds default x) [ true ↦ after_switch (look step w default c x t) | false ↦ on t ] ]) (λ z.
          pick_in (Leads c.first a) (holds (case z) x) (after_switch (look step w (case z) c x t)) (elim (holds default x) [ true ↦ after_switch (look step w default c x t) | false ↦ on t ])
          (switch_then c.first a (look step w (case z) c x t) (look_in x (case z) c (switching a) (in_switch c a st) h.1 t))
          (pick_in (Leads c.first a) (holds default x) (after_switch (look step w default c x t)) (on t)
          (switch_then c.first a (look step w default c x t) (look_in x default c (switching a) (in_switch c a st) h.1 t)) tt)))
      run_in (embedded_statement n) c a st h s = serves.embeds w sound a c st n h s

      pub run_all_in : (b : Stms) (c : Context) (a : Around) → Stands c a → SoundAll signatures atoms a b → (s : State) → Leads c.first a (run_all step w c b s)
      run_all_in no_stms c a st h s = tt
      run_all_in (stms x xs) c a st h s =
          done_in c.first a (run step w c x s) (run_in x c a st h.0 s) (λ t. run_all step w c xs t) (λ t. run_all_in xs c a st h.1 t)

      pub look_in : (x : Stm) (l : Mark) (c : Context) (a : Around) → Stands c a → Sound signatures atoms a x → (s : State) → Leads c.first a (look step w l c x s)
      look_in (on_line n x) l c a st h s = look_in x l (record c { line = n }) a (on_this_line c a st n) h s
      look_in nothing l c a st h s = tt
      look_in (evaluate e) l c a st h s = tt
      look_in (declare i size) l c a st h s = tt
      look_in (initialize i size es) l c a st h s = tt
      look_in (block sizes b) l c a st h s =
          enter_in c a st sizes b h (λ d t. look_all step w l d b t) (λ d sd t. look_all_in b l d (within a sizes) sd h t) s
      look_in (choose e x y) l c a st h s =
          pick_in (Leads c.first a) (holds l x) (look step w l c x s) (look step w l c y s) (look_in x l c a st h.1 s) (look_in y l c a st h.2 s)
      look_in (loop first test behind x) l c a st h s =
          body_then c.first a (look step w l c x s) (look_in x l c (looping a) (in_loop c a st) h.2 s) (λ t. again step w c test behind x t) (λ t.
          again_in c a st test behind x h.0 h.1 h.2 t)
      look_in leave l c a st h s = tt
      look_in next l c a st h s = tt
      look_in (return e) l c a st h s = tt
      look_in (goto m) l c a st h s = tt
      look_in (label m x) l c a st h s =
          pick_in (Leads c.first a) (same_mark m l) (run step w c x s) (look step w l c x s) (run_in x c a st h s) (look_in x l c a st h s)
      look_in (select e x) l c a st h s =
          switch_then c.first a (look step w l c x s) (look_in x l c (switching a) (in_switch c a st) h.1 s)
      look_in (embedded_statement n) l c a st h s = tt

      pub look_all_in : (b : Stms) (l : Mark) (c : Context) (a : Around) → Stands c a → SoundAll signatures atoms a b → (s : State) → Leads c.first a (look_all step w l c b s)
      look_all_in no_stms l c a st h s = tt
      look_all_in (stms x xs) l c a st h s =
          pick_in (Leads c.first a) (holds l x) (on_done (look step w l c x s) (λ t. run_all step w c xs t)) (look_all step w l c xs s)
          (done_in c.first a (look step w l c x s) (look_in x l c a st h.0 s) (λ t. run_all step w c xs t) (λ t. run_all_in xs c a st h.1 t))
          (look_all_in xs l c a st h.1 s)

-- ---- functions and whole runs

-- what the body of a function leads to
abbrev Ends : Sort → Res → Type 0
Ends k (value v s) = ⊥
Ends k (on s) = Unit {0}
Ends k (broke s) = ⊥
Ends k (continued s) = ⊥
Ends k (went l s) = ⊥
Ends k (back v s) = MayReturn k v
Ends k (over e s) = IsNotStuck e

ends_over : (k : Sort) → Over (Ends k)
ends_over k e s h = h

ends_closed : (k : Sort) (n : ℕ) (r : Res) → Ends k r → Ends k (closing n r)
ends_closed k n (value v s) h = absurd h
ends_closed k n (on s) h = tt
ends_closed k n (broke s) h = absurd h
ends_closed k n (continued s) h = absurd h
ends_closed k n (went l s) h = absurd h
ends_closed k n (back v s) h = h
ends_closed k n (over e s) h = h

-- a jump to a label of the body is answered there
body_ends : (first : Bool) (a : Around) → a.loops ≡ false → a.breaks ≡ false → (r : Res) → Settled first a a.body r → Ends a.gives r
body_ends first a n b (value v s) h = absurd h
body_ends first a n b (on s) h = tt
body_ends first a n b (broke s) h = cc (b, h)
body_ends first a n b (continued s) h = cc (n, h)
body_ends first a n b (went l s) h = let f = h.0 in let g = h.1 in cc (f, g)
body_ends first a n b (back v s) h = h.1
body_ends first a n b (over e s) h = h

back_ends : (k : Sort) (v : Option ValueData) → MayReturn k v → MayEnd k v
back_ends k None h = tt
back_ends k (Some v) h = h

function_answers : (k : Sort) (otherwise : Option ValueData) → MayEnd k otherwise → (r : Res) → Ends k r → Answers k (function_end otherwise r)
function_answers k otherwise m (value v s) h = absurd h
function_answers k otherwise m (on s) h = m
function_answers k otherwise m (broke s) h = absurd h
function_answers k otherwise m (continued s) h = absurd h
function_answers k otherwise m (went l s) h = absurd h
function_answers k otherwise m (back v s) h = back_ends k v h
function_answers k otherwise m (over e s) h = h

-- what the first `main` leads to
abbrev Finishes : Res → Type 0
Finishes (value v s) = ⊥
Finishes (on s) = Unit {0}
Finishes (broke s) = ⊥
Finishes (continued s) = ⊥
Finishes (went l s) = ⊥
Finishes (back v s) = ⊥
Finishes (over e s) = IsNotStuck e

finishes_over : Over Finishes
finishes_over e s h = h

main_finishes : (a : Around) → a.loops ≡ false → a.breaks ≡ false → (r : Res) → Settled true a a.body r → Finishes r
main_finishes a n b (value v s) h = absurd h
main_finishes a n b (on s) h = tt
main_finishes a n b (broke s) h = cc (b, h)
main_finishes a n b (continued s) h = cc (n, h)
main_finishes a n b (went l s) h = let f = h.0 in let g = h.1 in cc (f, g)
main_finishes a n b (back v s) h = let f = h.0 in cc f
main_finishes a n b (over e s) h = h

-- a whole run
abbrev IsOver : Res → Type 0
IsOver (value v s) = ⊥
IsOver (on s) = ⊥
IsOver (broke s) = ⊥
IsOver (continued s) = ⊥
IsOver (went l s) = ⊥
IsOver (back v s) = ⊥
IsOver (over e s) = IsNotStuck e

is_over : Over IsOver
is_over e s h = h

exits_over : (otherwise : Option ValueData) (v : ValueData) → otherwise ≡ Some v → (s : State) → IsOver (exits_with otherwise s)
exits_over None v e s = cc e
exits_over (Some w) v e s = tt

finished_over : (otherwise : Option ValueData) (v : ValueData) → otherwise ≡ Some v → (r : Res) → Finishes r → IsOver (finished otherwise r)
finished_over otherwise v e (value x s) h = absurd h
finished_over otherwise v e (on s) h = exits_over otherwise v e s
finished_over otherwise v e (broke s) h = absurd h
finished_over otherwise v e (continued s) h = absurd h
finished_over otherwise v e (went l s) h = absurd h
finished_over otherwise v e (back x s) h = absurd h
finished_over otherwise v e (over x s) h = h

observed_over : (r : Res) → IsOver r → IsNotStuck (observed r).ending
observed_over (value v s) h = absurd h
observed_over (on s) h = absurd h
observed_over (broke s) h = absurd h
observed_over (continued s) h = absurd h
observed_over (went l s) h = absurd h
observed_over (back v s) h = absurd h
observed_over (over e s) h = h

-- the first function of a list with a signature first
some_equal : {A : Type 0} (a b : A) → Some a ≡ Some b → a ≡ b
some_equal a b e = cc e

module _ (signatures : List Signature) (atoms : Atoms) where
  -- a function that is there, with its signature
  abbrev There : Signature → Option Function → Type 0
  There g None = ⊥
  There g (Some f) = SoundFunction signatures atoms g f

  function_there : (gs : List Signature) (fs : List Function) → SoundFunctions signatures atoms gs fs → (n : ℕ) (g : Signature) → slice_get gs n ≡ Some g → There g (slice_get fs n)
  function_there [] [] h n g e = cc e
  function_there [] (f ∷ fs) h n g e = absurd h
  function_there (x ∷ gs) [] h n g e = absurd h
  function_there (x ∷ gs) (f ∷ fs) h zero g e = subst (λ y. SoundFunction signatures atoms y f) (some_equal x g e) h.0
  function_there (x ∷ gs) (f ∷ fs) h (suc n) g e = function_there gs fs h.1 n g e

  module _ (step : Step) (serves : Serves signatures atoms step) where
    module _ (w : World) (sound : SoundWorld signatures atoms w) where
      body_settled : (c : Context) (g : Signature) (f : Function) → Stands c (in_body g f) → SoundAll signatures atoms (in_body g f) f.body → (s : State) → Settled c.first (in_body g f) f.body (body_run step w c f s)
      body_settled c g f st h s =
          settle_in signatures atoms step serves w sound c (in_body g f) st f.body h (run_all step w c f.body s) (run_all_in signatures atoms step serves w sound f.body c (in_body g f) st h s)

      called_ends : (line : ℕ) (g : Signature) (f : Function) → SoundFunction signatures atoms g f → (vs : List ValueData) → length vs ≡ g.takes → (s : State)
          → Ends g.gives (made line (map scalar_size f.parameters) [] s (λ ps t. given line f.parameters ps vs t (λ u. made line f.objects ps u (λ objects r. body_run step w (in_function line objects false) f r))))
      called_ends line g f h vs e s =
          made_in (Ends g.gives) (ends_over g.gives) line (map scalar_size f.parameters) [] s (λ ps t. given line f.parameters ps vs t (λ u. made line f.objects ps u (λ objects r. body_run step w (in_function line objects false) f r))) (λ ps t d.
          given_in (Ends g.gives) (ends_over g.gives) line f.parameters ps vs (many ps d) (let x = h.takes in cc (e, x)) t (λ u. made line f.objects ps u (λ objects r. body_run step w (in_function line objects false) f r)) (λ u.
          made_in (Ends g.gives) (ends_over g.gives) line f.objects ps u (λ objects r. body_run step w (in_function line objects false) f r) (λ objects r y.
          body_ends false (in_body g f) refl refl (body_run step w (in_function line objects false) f r)
          (body_settled (in_function line objects false) g f (stands ps objects (many ps d) y) h.body r))))
        where
          many : (ps : List ℕ) → length ps ≡ length {A = ℕ} [] + length (map scalar_size f.parameters) → length ps ≡ length f.parameters
          many ps d = omega (arith, d, length-map f.parameters scalar_size)

          stands : (ps objects : List ℕ) → length ps ≡ length f.parameters → length objects ≡ length ps + length f.objects → Stands (in_function line objects false) (in_body g f)
          stands ps objects d y = record { objects = omega (arith, d, y); first = λ x. cc x }

      called_answers : (line : ℕ) (g : Signature) (o : Option Function) → There g o → (vs : List ValueData) → length vs ≡ g.takes → (s : State) → Answers g.gives (called step w line o vs s)
      called_answers line g None h vs e s = absurd h
      called_answers line g (Some f) h vs e s =
          function_answers g.gives f.otherwise h.at_end
          (closing (last_number s.memory) (made line (map scalar_size f.parameters) [] s (λ ps t. given line f.parameters ps vs t (λ u. made line f.objects ps u (λ objects r. body_run step w (in_function line objects false) f r)))))
          (ends_closed g.gives (last_number s.memory) (made line (map scalar_size f.parameters) [] s (λ ps t. given line f.parameters ps vs t (λ u. made line f.objects ps u (λ objects r. body_run step w (in_function line objects false) f r))))
          (called_ends line g f h vs e s))

      main_over : (o : Option Function) → There main_signature o → EndsWithValue o → (s : State) → IsOver (main_run step w o s)
      main_over None h x s = absurd h
      main_over (Some f) h x s =
          finished_over f.otherwise x.0 x.1 (made 1 f.objects [] s (λ objects t. body_run step w (in_function 1 objects true) f t))
          (made_in Finishes finishes_over 1 f.objects [] s (λ objects t. body_run step w (in_function 1 objects true) f t) (λ objects t e.
          main_finishes (in_body main_signature f) refl refl (body_run step w (in_function 1 objects true) f t)
          (body_settled (in_function 1 objects true) main_signature f (stands objects e) h.body t)))
        where
          stands : (objects : List ℕ) → length objects ≡ length {A = ℕ} [] + length f.objects → Stands (in_function 1 objects true) (in_body main_signature f)
          stands objects e = record { objects = let d : length f.parameters ≡ 0 = h.takes in omega (arith, d, e); first = λ y. refl }

    module _ (fs : List Function) (functions : SoundFunctions signatures atoms signatures fs) where
      -- every task leads where it should, if every task does with a turn less
      next_sound : (n : ℕ) → SoundWorld signatures atoms (meaning step fs n) → SoundWorld signatures atoms (meaning step fs (suc n))
      next_sound n sound = record {
        called = λ line f g vs e d s.
            turn_in (Answers g.gives) (answers_over g.gives) s (λ t. act step fs (meaning step fs n) (calls line f vs) t) (λ t.
            called_answers (meaning step fs n) sound line g (slice_get fs f) (function_there signatures fs functions f g e) vs d t);
        looped = λ a c st test behind x h g f s.
            turn_in (Leads c.first a) (leads_over c.first a) s (λ t. act step fs (meaning step fs n) (turn_of c test behind x) t) (λ t.
            body_then c.first a (run step (meaning step fs n) c x t) (run_in signatures atoms step serves (meaning step fs n) sound x c (looping a) (in_loop c a st) f t)
            (λ u. again step (meaning step fs n) c test behind x u)
            (λ u. again_in signatures atoms step serves (meaning step fs n) sound c a st test behind x h g f u));
        looked = λ a c st l b h s.
            settle_in signatures atoms step serves (meaning step fs n) sound c a st b h (look_all step (meaning step fs n) (named l) c b s)
            (look_all_in signatures atoms step serves (meaning step fs n) sound b (named l) c a st h s);
      }

      tasks_sound : (n : ℕ) → SoundWorld signatures atoms (meaning step fs n)
      tasks_sound zero = record {
        called = λ line f g vs e d s. tt;
        looped = λ a c st test behind x h g f s. tt;
        looked = λ a c st l b h s. tt;
      }
      tasks_sound (suc n) = next_sound n (tasks_sound n)

    pub never_stuck : (p : Program) → SoundProgram signatures atoms p → (turns : ℕ) (ready : Option (ℕ × List ℕ)) (replies : List Answer) → IsNotStuck (program_meaning step p turns ready replies).ending
    never_stuck p sound turns ready replies =
        observed_over (whole_within step p turns (opening_state ready replies turns))
        (opened_in IsOver is_over (opening_objects p) (opening_state ready replies turns) (λ t. main_run step (meaning step p.functions turns) (slice_get p.functions p.main) t) (λ t.
        main_over (meaning step p.functions turns) (tasks_sound p.functions sound.functions turns) (slice_get p.functions p.main)
        (function_there signatures p.functions sound.functions p.main main_signature sound.main) sound.main_ends t))
