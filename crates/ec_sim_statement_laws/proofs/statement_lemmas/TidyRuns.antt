-- What a program makes has ended where it goes on behind it: by induction over the trees and the turns.
use Rattle.std.proofs.Common.{◌≡◌, ℕ, zero, suc, Bool, true, false, ℤ, List, [], ◌∷◌, ◌++◌, length, map, Option, Some, None, Result, Ok, Err, codes, refl}
use Rattle.ec_ctypes.specs.declared.types.arith.Arith.TheVariants.{Int}
use Rattle.std.specs.Prelude.{pos, slice_get, unsigned_abs, ◌+◌}
use Rattle.ec_base.specs.declared.stop.Trap.{Trap}
use Rattle.ec_meaning_defs.specs.functions.Functions.{Channel, standard_output, standard_error, Known, print, puts, putchar, strlen, strcmp, strncmp, memcmp, strcpy, strncpy, strcat, memcpy, memset, exit, sqlprint, Effect, answers, traps as traps_there, ends, misfit as no_call, effect_of, tried as tried_effect, puts_bytes, printing, taking_nothing, taking_number, taking_address, taking_addresses, taking_sizes, taking_byte, writing, answers_number, error_printed, message_length, message_bytes, message_size, byte_of}
use Rattle.ec_memory_defs.specs.Memory.{Memory, ValueData, number, address, ScalarType, integer_type, span, scalar_size, moved, cells_at, load as loaded, store as stored, copy as copied, put as put_bytes, fill, unset, text_at, text_up_to, last_number, make}
use Rattle.ec_memory_defs.specs.Cells.{set_cells, filled_cells, unset_cells}
use Rattle.ec_meaning_defs.specs.resolved.Operations.{Worked, gives, traps, misfit, is_true, value_as, negated, number_worked, worked}
use Rattle.ec_meaning_defs.specs.resolved.Labels.{same, holds, holds_any}
use Rattle.ec_meaning_defs.specs.resolved.Programs.{Function}
use Rattle.ec_meaning_defs.specs.resolved.Resolved.{Mark, named, case, default, Exp, object, slot, member, constant, load, whole, store, copy, put, update, convert, negate, flip, not, operate, both, either, choice, call, known, library_call, faulty, Exps, no_exps, exps, embedded, library, Stm, on_line, nothing, evaluate, declare, initialize, block, choose, loop, leave, next, return, goto, label, select, embedded_statement, Stms, no_stms, stms}
use Rattle.ec_meaning_defs.specs.evaluation.State.{State, turns_spent}
use Rattle.ec_meaning_defs.specs.evaluation.Results.{Res, value, on, broke, continued, went, back, over, on_value, on_done, after_body, after_switch, tried, changed, worked_out, at_address, on_number, present, done_there, without_answer, answered, without_value, turn, made, given, closing, function_end, returned, exits_with}
use Rattle.ec_meaning_defs.specs.evaluation.Evaluate.{World, Context, Step, Task, calls, turn_of, look_for, eval, collect}
use Rattle.ec_meaning_defs.specs.evaluation.Execute.{tested, again, settle, inside, enter, declared, initialized, returning, run, run_all, look, look_all, in_function, called, act, meaning}
use Rattle.ec_meaning_defs.specs.functions.Strings.{text_length, texts_compared, fronts_compared, bytes_compared, text_copied, front_copied, text_appended, bytes_copied, bytes_filled}
use Rattle.ec_sim_statement_laws.specs.statement.Lives.{Tidy, Grown, Leaves, LeavesTidy, TidyWorld, TidyStep}
use Rattle.ec_sim_statement_laws.proofs.statement_lemmas.Memories.{tidy_same, tidy_then, grown_then, tidy_grows, grown_ended, tidy_ended, OkIs, ok_then, with_cells_tidy, store_tidy, copy_tidy, make_grown}

-- ---- going on

pub leaves_then : (m n : Memory) (r : Res) → Tidy m n → LeavesTidy n r → LeavesTidy m r
leaves_then m n (value v s) h l = tt
leaves_then m n (on s) h l = tidy_then m n s.memory h l
leaves_then m n (broke s) h l = tidy_then m n s.memory h l
leaves_then m n (continued s) h l = tidy_then m n s.memory h l
leaves_then m n (went x s) h l = tidy_then m n s.memory h l
leaves_then m n (back v s) h l = tidy_then m n s.memory h l
leaves_then m n (over e s) h l = tt

grows_then : (m n : Memory) (r : Res) → Grown m n → Leaves Grown n r → Leaves Grown m r
grows_then m n (value v s) h l = tt
grows_then m n (on s) h l = grown_then m n s.memory h l
grows_then m n (broke s) h l = grown_then m n s.memory h l
grows_then m n (continued s) h l = grown_then m n s.memory h l
grows_then m n (went x s) h l = grown_then m n s.memory h l
grows_then m n (back v s) h l = grown_then m n s.memory h l
grows_then m n (over e s) h l = tt

leaves_grow : (m : Memory) (r : Res) → LeavesTidy m r → Leaves Grown m r
leaves_grow m (value v s) l = tt
leaves_grow m (on s) l = tidy_grows m s.memory l
leaves_grow m (broke s) l = tidy_grows m s.memory l
leaves_grow m (continued s) l = tidy_grows m s.memory l
leaves_grow m (went x s) l = tidy_grows m s.memory l
leaves_grow m (back v s) l = tidy_grows m s.memory l
leaves_grow m (over e s) l = tt

-- what has ended already isn't ended again
pub closed_already : (m : Memory) (r : Res) → LeavesTidy m r → closing (last_number m) r ≡ r
closed_already m (value v s) h = refl
closed_already m (on s) h = λ j. on (record s { memory = tidy_ended m s.memory h j })
closed_already m (broke s) h = λ j. broke (record s { memory = tidy_ended m s.memory h j })
closed_already m (continued s) h = λ j. continued (record s { memory = tidy_ended m s.memory h j })
closed_already m (went l s) h = λ j. went l (record s { memory = tidy_ended m s.memory h j })
closed_already m (back v s) h = λ j. back v (record s { memory = tidy_ended m s.memory h j })
closed_already m (over e s) h = refl

closing_leaves : (m : Memory) (r : Res) → Leaves Grown m r → LeavesTidy m (closing (last_number m) r)
closing_leaves m (value v s) l = tt
closing_leaves m (on s) l = grown_ended m s.memory l
closing_leaves m (broke s) l = grown_ended m s.memory l
closing_leaves m (continued s) l = grown_ended m s.memory l
closing_leaves m (went x s) l = grown_ended m s.memory l
closing_leaves m (back v s) l = grown_ended m s.memory l
closing_leaves m (over e s) l = tt

-- an expression gives a value, and the objects that were made since have ended
abbrev pub Gives : Memory → Res → Type 0
Gives m (value v s) = Tidy m s.memory
Gives m (on s) = ⊥
Gives m (broke s) = ⊥
Gives m (continued s) = ⊥
Gives m (went l s) = ⊥
Gives m (back v s) = ⊥
Gives m (over e s) = Unit {0}

gives_then : (m n : Memory) (r : Res) → Tidy m n → Gives n r → Gives m r
gives_then m n (value v s) h l = tidy_then m n s.memory h l
gives_then m n (on s) h l = l
gives_then m n (broke s) h l = l
gives_then m n (continued s) h l = l
gives_then m n (went x s) h l = l
gives_then m n (back v s) h l = l
gives_then m n (over e s) h l = tt

value_gives : (m : Memory) (o : Res) (k : ValueData → State → Res) → Gives m o → ((v : ValueData) (t : State) → Gives t.memory (k v t)) → Gives m (on_value o k)
value_gives m (value v s) k h f = gives_then m s.memory (k v s) h (f v s)
value_gives m (on s) k h f = absurd h
value_gives m (broke s) k h f = absurd h
value_gives m (continued s) k h f = absurd h
value_gives m (went l s) k h f = absurd h
value_gives m (back v s) k h f = absurd h
value_gives m (over e s) k h f = tt

pub value_leaves : (m : Memory) (o : Res) (k : ValueData → State → Res) → Gives m o → ((v : ValueData) (t : State) → LeavesTidy t.memory (k v t)) → LeavesTidy m (on_value o k)
value_leaves m (value v s) k h f = leaves_then m s.memory (k v s) h (f v s)
value_leaves m (on s) k h f = absurd h
value_leaves m (broke s) k h f = absurd h
value_leaves m (continued s) k h f = absurd h
value_leaves m (went l s) k h f = absurd h
value_leaves m (back v s) k h f = absurd h
value_leaves m (over e s) k h f = tt

at_gives : (m : Memory) (v : ValueData) (s : State) (k : ℕ → Res) → ((p : ℕ) → Gives m (k p)) → Gives m (at_address v s k)
at_gives m (address p) s k f = f p
at_gives m (number z) s k f = tt

number_gives : (m : Memory) (v : ValueData) (s : State) (k : ℤ → Res) → ((z : ℤ) → Gives m (k z)) → Gives m (on_number v s k)
number_gives m (number z) s k f = f z
number_gives m (address p) s k f = tt

tried_gives : {A : Type 0} (m : Memory) (line : ℕ) (r : Result A Trap) (s : State) (k : A → Res) → ((a : A) → Gives m (k a)) → Gives m (tried line r s k)
tried_gives m line (Ok a) s k f = f a
tried_gives m line (Err trap) s k f = tt

worked_gives : (m : Memory) (line : ℕ) (r : Worked) (s : State) (k : ValueData → Res) → ((v : ValueData) → Gives m (k v)) → Gives m (worked_out line r s k)
worked_gives m line (gives v) s k f = f v
worked_gives m line (traps trap) s k f = tt
worked_gives m line misfit s k f = tt

present_gives : {A : Type 0} (m : Memory) (x : Option A) (s : State) (k : A → Res) → ((a : A) → Gives m (k a)) → Gives m (present x s k)
present_gives m (Some a) s k f = f a
present_gives m None s k f = tt

test_gives : (m : Memory) (b : Bool) (x y : Res) → Gives m x → Gives m y → Gives m (elim b [ true ↦ x | false ↦ y ])
test_gives m true x y p q = p
test_gives m false x y p q = q

changed_gives : (line : ℕ) (r : Result Memory Trap) (s : State) (k : State → Res) → OkIs (λ n. Tidy s.memory n) r
    → ((n : Memory) → Gives n (k (record s { memory = n }))) → Gives s.memory (changed line r s k)
changed_gives line (Ok n) s k h f = gives_then s.memory n (k (record s { memory = n })) h (f n)
changed_gives line (Err trap) s k h f = tt

pub done_leaves : (m : Memory) (o : Res) (k : State → Res) → LeavesTidy m o → ((t : State) → LeavesTidy t.memory (k t)) → LeavesTidy m (on_done o k)
done_leaves m (value v s) k h f = tt
done_leaves m (on s) k h f = leaves_then m s.memory (k s) h (f s)
done_leaves m (broke s) k h f = h
done_leaves m (continued s) k h f = h
done_leaves m (went l s) k h f = h
done_leaves m (back v s) k h f = h
done_leaves m (over e s) k h f = tt

body_leaves : (m : Memory) (o : Res) (k : State → Res) → LeavesTidy m o → ((t : State) → LeavesTidy t.memory (k t)) → LeavesTidy m (after_body o k)
body_leaves m (value v s) k h f = tt
body_leaves m (on s) k h f = leaves_then m s.memory (k s) h (f s)
body_leaves m (broke s) k h f = h
body_leaves m (continued s) k h f = leaves_then m s.memory (k s) h (f s)
body_leaves m (went l s) k h f = h
body_leaves m (back v s) k h f = h
body_leaves m (over e s) k h f = tt

switch_leaves : (m : Memory) (o : Res) → LeavesTidy m o → LeavesTidy m (after_switch o)
switch_leaves m (value v s) h = tt
switch_leaves m (on s) h = h
switch_leaves m (broke s) h = h
switch_leaves m (continued s) h = h
switch_leaves m (went l s) h = h
switch_leaves m (back v s) h = h
switch_leaves m (over e s) h = tt

number_leaves : (m : Memory) (v : ValueData) (s : State) (k : ℤ → Res) → ((z : ℤ) → LeavesTidy m (k z)) → LeavesTidy m (on_number v s k)
number_leaves m (number z) s k f = f z
number_leaves m (address p) s k f = tt

pub at_leaves : (m : Memory) (v : ValueData) (s : State) (k : ℕ → Res) → ((p : ℕ) → LeavesTidy m (k p)) → LeavesTidy m (at_address v s k)
at_leaves m (address p) s k f = f p
at_leaves m (number z) s k f = tt

pub tried_leaves : {A : Type 0} (m : Memory) (line : ℕ) (r : Result A Trap) (s : State) (k : A → Res) → ((a : A) → LeavesTidy m (k a)) → LeavesTidy m (tried line r s k)
tried_leaves m line (Ok a) s k f = f a
tried_leaves m line (Err trap) s k f = tt

present_leaves : {A : Type 0} (m : Memory) (x : Option A) (s : State) (k : A → Res) → ((a : A) → LeavesTidy m (k a)) → LeavesTidy m (present x s k)
present_leaves m (Some a) s k f = f a
present_leaves m None s k f = tt

pub test_leaves : (m : Memory) (b : Bool) (x y : Res) → LeavesTidy m x → LeavesTidy m y → LeavesTidy m (elim b [ true ↦ x | false ↦ y ])
test_leaves m true x y p q = p
test_leaves m false x y p q = q

changed_leaves : (line : ℕ) (r : Result Memory Trap) (s : State) (k : State → Res) → OkIs (λ n. Tidy s.memory n) r
    → ((n : Memory) → LeavesTidy n (k (record s { memory = n }))) → LeavesTidy s.memory (changed line r s k)
changed_leaves line (Ok n) s k h f = leaves_then s.memory n (k (record s { memory = n })) h (f n)
changed_leaves line (Err trap) s k h f = tt

silent_gives : (m : Memory) (o : Res) → LeavesTidy m o → Gives m (without_answer o)
silent_gives m (value v s) h = tt
silent_gives m (on s) h = h
silent_gives m (broke s) h = tt
silent_gives m (continued s) h = tt
silent_gives m (went l s) h = tt
silent_gives m (back v s) h = tt
silent_gives m (over e s) h = tt

unused_gives : (m : Memory) (line : ℕ) (used : Bool) (s : State) → Tidy m s.memory → Gives m (without_value line used s)
unused_gives m line true s h = tt
unused_gives m line false s h = h

answered_gives : (m : Memory) (line : ℕ) (used : Bool) (o : Res) → LeavesTidy m o → Gives m (answered line used o)
answered_gives m line used (value v s) h = tt
answered_gives m line used (on s) h = tt
answered_gives m line used (broke s) h = tt
answered_gives m line used (continued s) h = tt
answered_gives m line used (went l s) h = tt
answered_gives m line used (back None s) h = unused_gives m line used s h
answered_gives m line used (back (Some v) s) h = h
answered_gives m line used (over e s) h = tt

pub turn_leaves : (s : State) (k : State → Res) → ((n : ℕ) → LeavesTidy s.memory (k (record s { turns = n }))) → LeavesTidy s.memory (turn s k)
turn_leaves s k f = go s.turns
  where
    go : (n : ℕ) → LeavesTidy s.memory (elim n [ zero ↦ over turns_spent s | suc i ↦ k (record s { turns = i }) ])
    go zero = tt
    go (suc i) = f i

-- ---- known functions

abbrev EffectTidy : Memory → Effect → Type 0
EffectTidy m (answers v n output errors) = Tidy m n
EffectTidy m (traps_there trap) = Unit {0}
EffectTidy m (ends status) = Unit {0}
EffectTidy m no_call = Unit {0}

tried_tidy : {A : Type 0} (m : Memory) (r : Result A Trap) (k : A → Effect) → ((a : A) → EffectTidy m (k a)) → EffectTidy m (tried_effect r k)
tried_tidy m (Ok a) k f = f a
tried_tidy m (Err trap) k f = tt

puts_tidy : (m : Memory) (channel : Channel) (v : Option ValueData) (bytes : List ℕ) → EffectTidy m (puts_bytes channel v m bytes)
puts_tidy m standard_output v bytes = tidy_same m
puts_tidy m standard_error v bytes = tidy_same m

printing_tidy : (m : Memory) (channel : Channel) (r : Option (Result (List ℕ) Trap)) → EffectTidy m (printing channel m r)
printing_tidy m channel None = tt
printing_tidy m channel (Some (Err trap)) = tt
printing_tidy m channel (Some (Ok bytes)) = puts_tidy m channel _ bytes

nothing_tidy : (m : Memory) (effect : Effect) → EffectTidy m effect → (vs : List ValueData) → EffectTidy m (taking_nothing effect vs)
nothing_tidy m effect h [] = h
nothing_tidy m effect h (v ∷ vs) = tt

number_tidy : (m : Memory) (k : ℤ → Effect) → ((z : ℤ) → EffectTidy m (k z)) → (vs : List ValueData) → EffectTidy m (taking_number k vs)
number_tidy m k f [] = tt
number_tidy m k f (number z ∷ []) = f z
number_tidy m k f (number z ∷ v ∷ vs) = tt
number_tidy m k f (address p ∷ vs) = tt

address_tidy : (m : Memory) (k : ℕ → Effect) → ((p : ℕ) → EffectTidy m (k p)) → (vs : List ValueData) → EffectTidy m (taking_address k vs)
address_tidy m k f [] = tt
address_tidy m k f (address p ∷ []) = f p
address_tidy m k f (address p ∷ v ∷ vs) = tt
address_tidy m k f (number z ∷ vs) = tt

addresses_tidy : (m : Memory) (k : ℕ → ℕ → Effect) → ((p q : ℕ) → EffectTidy m (k p q)) → (vs : List ValueData) → EffectTidy m (taking_addresses k vs)
addresses_tidy m k f [] = tt
addresses_tidy m k f (address p ∷ vs) = address_tidy m (k p) (f p) vs
addresses_tidy m k f (number z ∷ vs) = tt

sizes_tidy : (m : Memory) (k : ℕ → ℕ → ℕ → Effect) → ((p q n : ℕ) → EffectTidy m (k p q n)) → (vs : List ValueData) → EffectTidy m (taking_sizes k vs)
sizes_tidy m k f [] = tt
sizes_tidy m k f (address p ∷ []) = tt
sizes_tidy m k f (address p ∷ address q ∷ vs) = number_tidy m (λ n. k p q (unsigned_abs n)) (λ n. f p q (unsigned_abs n)) vs
sizes_tidy m k f (address p ∷ number z ∷ vs) = tt
sizes_tidy m k f (number z ∷ vs) = tt

byte_tidy : (m : Memory) (k : ℕ → ℕ → ℕ → Effect) → ((p b n : ℕ) → EffectTidy m (k p b n)) → (vs : List ValueData) → EffectTidy m (taking_byte k vs)
byte_tidy m k f [] = tt
byte_tidy m k f (address p ∷ []) = tt
byte_tidy m k f (address p ∷ number c ∷ vs) = number_tidy m (λ n. k p (byte_of c) (unsigned_abs n)) (λ n. f p (byte_of c) (unsigned_abs n)) vs
byte_tidy m k f (address p ∷ address q ∷ vs) = tt
byte_tidy m k f (number z ∷ vs) = tt

writing_tidy : (m : Memory) (p : ℕ) (r : Result Memory Trap) → OkIs (λ n. Tidy m n) r → EffectTidy m (writing p r)
writing_tidy m p (Ok n) h = h
writing_tidy m p (Err trap) h = tt

put_tidy : (m : Memory) (p : ℕ) (bytes : List ℕ) → OkIs (λ n. Tidy m n) (put_bytes m p bytes)
put_tidy m p bytes = with_cells_tidy m p (set_cells bytes)

effect_tidy : (f : Known) (m : Memory) (vs : List ValueData) → EffectTidy m (effect_of f m vs)
effect_tidy (print channel parts) m vs = printing_tidy m channel _
effect_tidy puts m vs = address_tidy m _ (λ p. tried_tidy m (text_at m p) _ (λ bytes. tidy_same m)) vs
effect_tidy putchar m vs = number_tidy m _ (λ z. tidy_same m) vs
effect_tidy strlen m vs = address_tidy m (λ p. tried_effect (text_length m p) (answers_number m)) (λ p. tried_tidy m (text_length m p) (answers_number m) (λ z. tidy_same m)) vs
effect_tidy strcmp m vs = addresses_tidy m (λ p q. tried_effect (texts_compared m p q) (answers_number m)) (λ p q. tried_tidy m (texts_compared m p q) (answers_number m) (λ z. tidy_same m)) vs
effect_tidy strncmp m vs = sizes_tidy m (λ p q n. tried_effect (fronts_compared m p q n) (answers_number m)) (λ p q n. tried_tidy m (fronts_compared m p q n) (answers_number m) (λ z. tidy_same m)) vs
effect_tidy memcmp m vs = sizes_tidy m (λ p q n. tried_effect (bytes_compared m p q n) (answers_number m)) (λ p q n. tried_tidy m (bytes_compared m p q n) (answers_number m) (λ z. tidy_same m)) vs
effect_tidy strcpy m vs = addresses_tidy m _ (λ p q. writing_tidy m p (text_copied m p q) (ok_then (λ n. Tidy m n) (text_at m q) _ (λ bytes. put_tidy m p _))) vs
effect_tidy strncpy m vs = sizes_tidy m _ (λ p q n. writing_tidy m p (front_copied m p q n) (ok_then (λ n. Tidy m n) (text_up_to m q n) _ (λ bytes. put_tidy m p _))) vs
effect_tidy strcat m vs = addresses_tidy m _ (λ p q. writing_tidy m p (text_appended m p q) (ok_then (λ n. Tidy m n) (text_at m p) _ (λ front. ok_then (λ n. Tidy m n) (text_at m q) _ (λ bytes. put_tidy m (p + length front) _)))) vs
effect_tidy memcpy m vs = sizes_tidy m _ (λ p q n. writing_tidy m p (bytes_copied m p q n) (copy_tidy m p q n)) vs
effect_tidy memset m vs = byte_tidy m _ (λ p c n. writing_tidy m p (bytes_filled m p c n) (with_cells_tidy m p (filled_cells n c))) vs
effect_tidy exit m vs = number_tidy m _ (λ z. tt) vs
effect_tidy sqlprint m vs =
    nothing_tidy m (error_printed m)
    (tried_tidy m (loaded m message_length (integer_type Int)) (λ v. tried_effect (span m message_bytes (message_size v)) (λ bytes. answers None m [] (codes "SQL error: " ++ bytes ++ 10 ∷ [])))
    (λ v. tried_tidy m (span m message_bytes (message_size v)) (λ bytes. answers None m [] (codes "SQL error: " ++ bytes ++ 10 ∷ [])) (λ bytes. tidy_same m)))
    vs

effect_gives : (line : ℕ) (effect : Effect) (s : State) → EffectTidy s.memory effect → Gives s.memory (done_there line effect s)
effect_gives line (answers v n output errors) s h = h
effect_gives line (traps_there trap) s h = tt
effect_gives line (ends status) s h = tt
effect_gives line no_call s h = tt

-- ---- objects

tried_grows : {A : Type 0} (m : Memory) (P : A → Type 0) (line : ℕ) (r : Result A Trap) (s : State) (k : A → Res) → OkIs P r → ((a : A) → P a → Leaves Grown m (k a)) → Leaves Grown m (tried line r s k)
tried_grows m P line (Ok a) s k h f = f a h
tried_grows m P line (Err trap) s k h f = tt

made_grows : (line : ℕ) (sizes objects : List ℕ) (s : State) (k : List ℕ → State → Res) → ((os : List ℕ) (t : State) → Leaves Grown t.memory (k os t)) → Leaves Grown s.memory (made line sizes objects s k)
made_grows line [] objects s k f = f objects s
made_grows line (size ∷ sizes) objects s k f =
    tried_grows s.memory (λ (x : ℕ × Memory). Grown s.memory x.1) line (make s.memory size) s
    (λ x. made line sizes (objects ++ x.0 ∷ []) (record s { memory = x.1 }) k) (make_grown s.memory size) (λ x h.
    grows_then s.memory x.1 (made line sizes (objects ++ x.0 ∷ []) (record s { memory = x.1 }) k) h (made_grows line sizes (objects ++ x.0 ∷ []) (record s { memory = x.1 }) k f))

given_grows : (line : ℕ) (kinds : List ScalarType) (ps : List ℕ) (vs : List ValueData) (s : State) (k : State → Res) → ((t : State) → Leaves Grown t.memory (k t)) → Leaves Grown s.memory (given line kinds ps vs s k)
given_grows line [] [] [] s k f = f s
given_grows line [] [] (v ∷ vs) s k f = tt
given_grows line [] (p ∷ ps) vs s k f = tt
given_grows line (kind ∷ kinds) [] vs s k f = tt
given_grows line (kind ∷ kinds) (p ∷ ps) [] s k f = tt
given_grows line (kind ∷ kinds) (p ∷ ps) (v ∷ vs) s k f =
    tried_grows s.memory (λ n. Tidy s.memory n) line (stored s.memory p kind v) s
    (λ n. given line kinds ps vs (record s { memory = n }) k) (store_tidy s.memory p kind v) (λ n h.
    grows_then s.memory n (given line kinds ps vs (record s { memory = n }) k) (tidy_grows s.memory n h) (given_grows line kinds ps vs (record s { memory = n }) k f))

end_leaves : (m : Memory) (otherwise : Option ValueData) (o : Res) → LeavesTidy m o → LeavesTidy m (function_end otherwise o)
end_leaves m otherwise (value v s) h = tt
end_leaves m otherwise (on s) h = h
end_leaves m otherwise (broke s) h = tt
end_leaves m otherwise (continued s) h = tt
end_leaves m otherwise (went l s) h = tt
end_leaves m otherwise (back v s) h = h
end_leaves m otherwise (over e s) h = tt

exits_leaves : (m : Memory) (v : Option ValueData) (s : State) → LeavesTidy m (exits_with v s)
exits_leaves m (Some v) s = tt
exits_leaves m None s = tt

returned_leaves : (m : Memory) (first : Bool) (v : Option ValueData) (s : State) → Tidy m s.memory → LeavesTidy m (returned first v s)
returned_leaves m true v s h = exits_leaves m v s
returned_leaves m false v s h = h

-- ---- expressions and statements

module _ (step : Step) (tidy_step : TidyStep step) (w : World) (tidy : TidyWorld w) where
  module _ (c : Context) where
    mutual
      pub eval_gives : (e : Exp) (s : State) → Gives s.memory (eval step w c e s)
      eval_gives (object n) s = tidy_same s.memory
      eval_gives (slot i) s = present_gives s.memory (slice_get c.objects i) s (λ p. value (address p) s) (λ p. tidy_same s.memory)
      eval_gives (member offset e) s =
          value_gives s.memory (eval step w c e s) _ (eval_gives e s) (λ v t. at_gives t.memory v t _ (λ p.
          tried_gives t.memory c.line (moved t.memory p (pos offset) 1) t _ (λ q. tidy_same t.memory)))
      eval_gives (constant v) s = tidy_same s.memory
      eval_gives (load kind e) s =
          value_gives s.memory (eval step w c e s) _ (eval_gives e s) (λ v t. at_gives t.memory v t _ (λ p.
          tried_gives t.memory c.line (loaded t.memory p kind) t _ (λ x. tidy_same t.memory)))
      eval_gives (whole size e) s =
          value_gives s.memory (eval step w c e s) _ (eval_gives e s) (λ v t. at_gives t.memory v t _ (λ p.
          tried_gives t.memory c.line (cells_at t.memory p size) t _ (λ cells. tidy_same t.memory)))
      eval_gives (store kind e a) s =
          value_gives s.memory (eval step w c e s) _ (eval_gives e s) (λ v t. value_gives t.memory (eval step w c a t) _ (eval_gives a t) (λ x u.
          at_gives u.memory v u _ (λ p. changed_gives c.line (stored u.memory p kind x) u (λ r. value x r) (store_tidy u.memory p kind x) (λ n. tidy_same n))))
      eval_gives (copy size e a) s =
          value_gives s.memory (eval step w c e s) _ (eval_gives e s) (λ v t. value_gives t.memory (eval step w c a t) _ (eval_gives a t) (λ x u.
          at_gives u.memory v u _ (λ p. at_gives u.memory x u _ (λ q. changed_gives c.line (copied u.memory p q size) u (λ r. value (address p) r) (copy_tidy u.memory p q size) (λ n. tidy_same n)))))
      eval_gives (put bytes e) s =
          value_gives s.memory (eval step w c e s) _ (eval_gives e s) (λ v t. at_gives t.memory v t _ (λ p.
          changed_gives c.line (put_bytes t.memory p bytes) t (λ u. value (address p) u) (put_tidy t.memory p bytes) (λ n. tidy_same n)))
      eval_gives (update n e a) s =
          value_gives s.memory (eval step w c e s) _ (eval_gives e s) (λ v t. at_gives t.memory v t _ (λ p.
          tried_gives t.memory c.line (loaded t.memory p n.kind) t _ (λ old.
          value_gives t.memory (eval step w c a t) _ (eval_gives a t) (λ x u.
          worked_gives u.memory c.line (worked n.operation u.memory (value_as n.widened old) x) u _ (λ new.
          changed_gives c.line (stored u.memory p n.kind (value_as n.kind new)) u (λ r. value (elim n.gives_old [ true ↦ old | false ↦ value_as n.kind new ]) r) (store_tidy u.memory p n.kind (value_as n.kind new)) (λ r. tidy_same r))))))
      eval_gives (convert from to e) s = value_gives s.memory (eval step w c e s) _ (eval_gives e s) (λ v t. tidy_same t.memory)
      eval_gives (negate type e) s =
          value_gives s.memory (eval step w c e s) _ (eval_gives e s) (λ v t. number_gives t.memory v t _ (λ z.
          worked_gives t.memory c.line (number_worked (negated type z)) t _ (λ x. tidy_same t.memory)))
      eval_gives (flip type e) s = value_gives s.memory (eval step w c e s) _ (eval_gives e s) (λ v t. number_gives t.memory v t _ (λ z. tidy_same t.memory))
      eval_gives (not e) s = value_gives s.memory (eval step w c e s) _ (eval_gives e s) (λ v t. tidy_same t.memory)
      eval_gives (operate op a b) s =
          value_gives s.memory (eval step w c a s) _ (eval_gives a s) (λ x t. value_gives t.memory (eval step w c b t) _ (eval_gives b t) (λ y u.
          worked_gives u.memory c.line (worked op u.memory x y) u _ (λ z. tidy_same u.memory)))
      eval_gives (both a b) s =
          value_gives s.memory (eval step w c a s) _ (eval_gives a s) (λ x t.
          test_gives t.memory (is_true x) _ _ (value_gives t.memory (eval step w c b t) _ (eval_gives b t) (λ y u. tidy_same u.memory)) (tidy_same t.memory))
      eval_gives (either a b) s =
          value_gives s.memory (eval step w c a s) _ (eval_gives a s) (λ x t.
          test_gives t.memory (is_true x) _ _ (tidy_same t.memory) (value_gives t.memory (eval step w c b t) _ (eval_gives b t) (λ y u. tidy_same u.memory)))
      eval_gives (choice e a b) s =
          value_gives s.memory (eval step w c e s) _ (eval_gives e s) (λ x t.
          test_gives t.memory (is_true x) _ _ (eval_gives a t) (eval_gives b t))
      eval_gives (call f used es) s = collect_gives [] es s _ (λ vs t. answered_gives t.memory c.line used (w (calls c.line f vs) t) (tidy (calls c.line f vs) t))
      eval_gives (known f es) s = collect_gives [] es s _ (λ vs t. effect_gives c.line (effect_of f t.memory vs) t (effect_tidy f t.memory vs))
      eval_gives (library_call n es) s = collect_gives [] es s _ (λ vs t. silent_gives t.memory (step w c (library n vs) t) (tidy_step w tidy c (library n vs) t))
      eval_gives faulty s = tt

      pub collect_gives : (vs : List ValueData) (es : Exps) (s : State) (k : List ValueData → State → Res)
          → ((xs : List ValueData) (t : State) → Gives t.memory (k xs t)) → Gives s.memory (collect step w c vs es s k)
      collect_gives vs no_exps s k f = f vs s
      collect_gives vs (exps e es) s k f = value_gives s.memory (eval step w c e s) _ (eval_gives e s) (λ v t. collect_gives (vs ++ v ∷ []) es t k f)

    collect_leaves : (vs : List ValueData) (es : Exps) (s : State) (k : List ValueData → State → Res)
        → ((xs : List ValueData) (t : State) → LeavesTidy t.memory (k xs t)) → LeavesTidy s.memory (collect step w c vs es s k)
    collect_leaves vs no_exps s k f = f vs s
    collect_leaves vs (exps e es) s k f = value_leaves s.memory (eval step w c e s) _ (eval_gives e s) (λ v t. collect_leaves (vs ++ v ∷ []) es t k f)

    tested_leaves : (test behind : Option Exp) (x : Stm) (s : State) → LeavesTidy s.memory (tested step w c test behind x s)
    tested_leaves None behind x s = tidy (turn_of c None behind x) s
    tested_leaves (Some e) behind x s =
        value_leaves s.memory (eval step w c e s) _ (eval_gives e s) (λ v t. test_leaves t.memory (is_true v) _ _ (tidy (turn_of c (Some e) behind x) t) (tidy_same t.memory))

    again_leaves : (test behind : Option Exp) (x : Stm) (s : State) → LeavesTidy s.memory (again step w c test behind x s)
    again_leaves test None x s = tested_leaves test None x s
    again_leaves test (Some e) x s = value_leaves s.memory (eval step w c e s) _ (eval_gives e s) (λ v t. tested_leaves test (Some e) x t)

    returning_leaves : (e : Option Exp) (s : State) → LeavesTidy s.memory (returning step w c e s)
    returning_leaves None s = returned_leaves s.memory c.first None s (tidy_same s.memory)
    returning_leaves (Some e) s = value_leaves s.memory (eval step w c e s) _ (eval_gives e s) (λ v t. returned_leaves t.memory c.first (Some v) t (tidy_same t.memory))

    settle_leaves : (b : Stms) (m : Memory) (o : Res) → LeavesTidy m o → LeavesTidy m (settle w c b o)
    settle_leaves b m (value v s) h = tt
    settle_leaves b m (on s) h = h
    settle_leaves b m (broke s) h = h
    settle_leaves b m (continued s) h = h
    settle_leaves b m (went l s) h = test_leaves m (holds_any (named l) b) _ _ (leaves_then m s.memory (w (look_for c l b) s) h (tidy (look_for c l b) s)) h
    settle_leaves b m (back v s) h = h
    settle_leaves b m (over e s) h = tt

    declared_leaves : (i size : ℕ) (s : State) → LeavesTidy s.memory (declared c i size s)
    declared_leaves i size s =
        present_leaves s.memory (slice_get c.objects i) s _ (λ p. changed_leaves c.line (unset s.memory p size) s (λ t. on t) (with_cells_tidy s.memory p (unset_cells size)) (λ n. tidy_same n))

    initialized_leaves : (i size : ℕ) (es : Exps) (s : State) → LeavesTidy s.memory (initialized step w c i size es s)
    initialized_leaves i size es s =
        present_leaves s.memory (slice_get c.objects i) s _ (λ p. changed_leaves c.line (fill s.memory p size 0) s (λ t. collect step w c [] es t (λ vs u. on u)) (with_cells_tidy s.memory p (filled_cells size 0)) (λ n.
        collect_leaves [] es (record s { memory = n }) (λ vs u. on u) (λ vs u. tidy_same u.memory)))

  enter_leaves : (c : Context) (sizes : List ℕ) (b : Stms) (go : Context → State → Res) → ((d : Context) (t : State) → LeavesTidy t.memory (go d t)) → (s : State) → LeavesTidy s.memory (enter w c sizes b go s)
  enter_leaves c sizes b go f s =
      closing_leaves s.memory _ (made_grows c.line sizes c.objects s _ (λ objects t.
      leaves_grow t.memory _ (settle_leaves (inside c objects) b t.memory (go (inside c objects) t) (f (inside c objects) t))))

  mutual
    pub run_leaves : (c : Context) (x : Stm) (s : State) → LeavesTidy s.memory (run step w c x s)
    run_leaves c (on_line n x) s = run_leaves (record c { line = n }) x s
    run_leaves c nothing s = tidy_same s.memory
    run_leaves c (evaluate e) s = value_leaves s.memory (eval step w c e s) _ (eval_gives c e s) (λ v t. tidy_same t.memory)
    run_leaves c (declare i size) s = declared_leaves c i size s
    run_leaves c (initialize i size es) s = initialized_leaves c i size es s
    run_leaves c (block sizes b) s = enter_leaves c sizes b (λ d t. run_all step w d b t) (λ d t. all_leave d b t) s
    run_leaves c (choose e a b) s =
        value_leaves s.memory (eval step w c e s) _ (eval_gives c e s) (λ v t. test_leaves t.memory (is_true v) _ _ (run_leaves c a t) (run_leaves c b t))
    run_leaves c (loop first test behind x) s =
        test_leaves s.memory first _ _ (tested_leaves c test behind x s) (tidy (turn_of c test behind x) s)
    run_leaves c leave s = tidy_same s.memory
    run_leaves c next s = tidy_same s.memory
    run_leaves c (return e) s = returning_leaves c e s
    run_leaves c (goto l) s = turn_leaves s (λ t. went l t) (λ n. tidy_same s.memory)
    run_leaves c (label l x) s = run_leaves c x s
    run_leaves c (select e x) s =
        value_leaves s.memory (eval step w c e s) _ (eval_gives c e s) (λ v t. number_leaves t.memory v t _ (λ z.
        test_leaves t.memory (holds (case z) x) _ _ (switch_leaves t.memory (look step w (case z) c x t) (look_leaves (case z) c x t))
        (test_leaves t.memory (holds default x) _ _ (switch_leaves t.memory (look step w default c x t) (look_leaves default c x t)) (tidy_same t.memory))))
    run_leaves c (embedded_statement n) s = tidy_step w tidy c (embedded n) s

    pub all_leave : (c : Context) (b : Stms) (s : State) → LeavesTidy s.memory (run_all step w c b s)
    all_leave c no_stms s = tidy_same s.memory
    all_leave c (stms a b) s = done_leaves s.memory (run step w c a s) _ (run_leaves c a s) (λ t. all_leave c b t)

    look_leaves : (l : Mark) (c : Context) (x : Stm) (s : State) → LeavesTidy s.memory (look step w l c x s)
    look_leaves l c (on_line n x) s = look_leaves l (record c { line = n }) x s
    look_leaves l c nothing s = tidy_same s.memory
    look_leaves l c (evaluate e) s = tidy_same s.memory
    look_leaves l c (declare i size) s = tidy_same s.memory
    look_leaves l c (initialize i size es) s = tidy_same s.memory
    look_leaves l c (block sizes b) s = enter_leaves c sizes b (λ d t. look_all step w l d b t) (λ d t. all_looked l d b t) s
    look_leaves l c (choose e a b) s = test_leaves s.memory (holds l a) _ _ (look_leaves l c a s) (look_leaves l c b s)
    look_leaves l c (loop first test behind x) s = body_leaves s.memory (look step w l c x s) _ (look_leaves l c x s) (λ t. again_leaves c test behind x t)
    look_leaves l c leave s = tidy_same s.memory
    look_leaves l c next s = tidy_same s.memory
    look_leaves l c (return e) s = tidy_same s.memory
    look_leaves l c (goto m) s = tidy_same s.memory
    look_leaves l c (label m x) s = test_leaves s.memory (same m l) _ _ (run_leaves c x s) (look_leaves l c x s)
    look_leaves l c (select e x) s = switch_leaves s.memory (look step w l c x s) (look_leaves l c x s)
    look_leaves l c (embedded_statement n) s = tidy_same s.memory

    all_looked : (l : Mark) (c : Context) (b : Stms) (s : State) → LeavesTidy s.memory (look_all step w l c b s)
    all_looked l c no_stms s = tidy_same s.memory
    all_looked l c (stms a b) s =
        test_leaves s.memory (holds l a) _ _ (done_leaves s.memory (look step w l c a s) _ (look_leaves l c a s) (λ t. all_leave c b t)) (all_looked l c b s)

  -- ---- tasks

  called_leaves : (line : ℕ) (f : Option Function) (vs : List ValueData) (s : State) → LeavesTidy s.memory (called step w line f vs s)
  called_leaves line None vs s = tt
  called_leaves line (Some f) vs s =
      end_leaves s.memory f.otherwise _ (closing_leaves s.memory _ (made_grows line (map scalar_size f.parameters) [] s _ (λ ps t.
      given_grows line f.parameters ps vs t _ (λ u. made_grows line f.objects ps u _ (λ objects r.
      leaves_grow r.memory _ (settle_leaves (in_function line objects false) f.body r.memory _ (all_leave (in_function line objects false) f.body r)))))))

  act_leaves : (fs : List Function) (t : Task) (s : State) → LeavesTidy s.memory (act step fs w t s)
  act_leaves fs (calls line f vs) s = called_leaves line (slice_get fs f) vs s
  act_leaves fs (turn_of c test behind x) s = body_leaves s.memory (run step w c x s) _ (run_leaves c x s) (λ t. again_leaves c test behind x t)
  act_leaves fs (look_for c l b) s = settle_leaves c b s.memory (look_all step w (named l) c b s) (all_looked (named l) c b s)

pub meaning_tidy : (step : Step) → TidyStep step → (fs : List Function) (k : ℕ) → TidyWorld (meaning step fs k)
meaning_tidy step h fs zero t s = tt
meaning_tidy step h fs (suc k) (calls line f vs) s = turn_leaves s (λ u. act step fs (meaning step fs k) (calls line f vs) u) (λ n. act_leaves step h (meaning step fs k) (meaning_tidy step h fs k) fs (calls line f vs) (record s { turns = n }))
meaning_tidy step h fs (suc k) (turn_of c test behind x) s = turn_leaves s (λ u. act step fs (meaning step fs k) (turn_of c test behind x) u) (λ n. act_leaves step h (meaning step fs k) (meaning_tidy step h fs k) fs (turn_of c test behind x) (record s { turns = n }))
meaning_tidy step h fs (suc k) (look_for c l b) s = act_leaves step h (meaning step fs k) (meaning_tidy step h fs k) fs (look_for c l b) s
