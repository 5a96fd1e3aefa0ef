-- The written tests do what the handlers of a statement do, in every memory.
use Rattle.std.proofs.Common.{◌≡◌, ◌∙◌, ℕ, ◌+◌, Bool, true, false, ℤ, pos, ◌+ℤ◌, ◌*ℤ◌, List, [], length, drop, take, Option, Some, None, Result, Ok, Err, refl, sym, arith, int_le}
use Rattle.std.specs.Prelude.{nat_le, ◌&&◌, slice_get, if◌then◌else◌, ◌≢◌}
use Rattle.std.proofs.lemmas.Int.{ints}
use Rattle.std.proofs.lemmas.Grind.{common_steps}
use Rattle.std.proofs.lemmas.Bool.Decides.{nat_tests}
use Rattle.ec_base.specs.declared.stop.Trap.{Trap}
use Rattle.ec_base.specs.declared.stop.Trap.TheVariants.{Outside}
use Rattle.ec_ctypes.specs.declared.embedded.emb.Cond.{Cond}
use Rattle.ec_ctypes.specs.declared.embedded.emb.Cond.TheVariants.{NotFound, Warning, Error}
use Rattle.ec_ctypes.specs.declared.types.arith.Arith.TheVariants.{Int, Long, Char}
use Rattle.ec_ctypes.specs.Arithmetic.{IsValue, converted, Converts}
use Rattle.ec_ctypes.specs.Arithmetic.Converts.{wraps}
use Rattle.ec_ctypes.proofs.Conversions.{follows_rule, one_result}
use Rattle.ec_memory_defs.specs.Cells.{Cell, bytes_of}
use Rattle.ec_memory_defs.specs.Memory.{Memory, ObjectData, alive, ended, ValueData, number, address, number_of, ScalarType, integer_type, scalar_size, and_then, cells_found, or_unset, little_endian, decoded, span, moved, load as loaded, pointer_to}
use Rattle.ec_meaning_defs.specs.resolved.Operations.{Comparison, equal, less, compare, compares, truth, is_true, value_as, pointer_plus, address_worked, worked}
use Rattle.ec_meaning_defs.specs.resolved.Resolved.{Exp, Stm, on_line, nothing, choose, Stms, no_stms, stms}
use Rattle.ec_resolving_defs.specs.Storage.{ActionForm, goes_on, jumps, prints, stops, leaves, continues, calls_function, ActionForms}
use Rattle.ec_meaning_defs.specs.evaluation.State.{State}
use Rattle.ec_meaning_defs.specs.evaluation.Results.{Res, value, on, broke, continued, went, back, over, on_value, on_done, tried, worked_out, at_address}
use Rattle.ec_meaning_defs.specs.evaluation.Evaluate.{World, Context, Step, eval}
use Rattle.ec_meaning_defs.specs.evaluation.Execute.{run, run_all}
use Rattle.ec_direct_defs.specs.Handling.{code_place, warning_place, is_number, when, acted, tested, handled}
use Rattle.ec_sim_statement_laws.specs.statement.Tests.{code_exp, warning_exp, condition_exp, action_stm, test_stm, test_before, tests_stms}

-- ---- reading the communication area

past : (n a b : ℕ) → a + b ≡ b + a → nat_le a n ≡ false → nat_le (a + b) n ≡ false
past n a b c e = grind (arith, nat_tests, common_steps)

module _ (m : Memory) where
  -- taking the member and loading it is loading it where it is, with the same traps
  code_member : and_then (moved m (pointer_to 1 0) (pos 16) 1) (λ p. loaded m p (integer_type Long)) ≡ loaded m (pointer_to 1 16) (integer_type Long)
  code_member = go (slice_get m 0) refl
    where
      rest : List Cell → Result ValueData Trap
      rest cells = and_then (and_then (if nat_le 24 (length cells) then Ok (take 8 (drop 16 cells)) else Err Outside) (λ cs. or_unset (bytes_of cs))) (λ bytes. Ok (decoded (integer_type Long) bytes))

      by_test : (cells : List Cell) → slice_get m 0 ≡ Some (alive cells) → (b : Bool) → nat_le 16 (length cells) ≡ b → and_then (if b then Ok (pointer_to 1 16) else Err Outside) (λ p. loaded m p (integer_type Long)) ≡ rest cells
      by_test cells is true e = λ j. and_then (and_then (and_then (cells_found (is j)) (λ cs. if nat_le 24 (length cs) then Ok (take 8 (drop 16 cs)) else Err Outside)) (λ cs. or_unset (bytes_of cs))) (λ bytes. Ok (decoded (integer_type Long) bytes))
      by_test cells is false e = sym (λ j. and_then (and_then (if past (length cells) 16 8 refl e j then Ok (take 8 (drop 16 cells)) else Err Outside) (λ cs. or_unset (bytes_of cs))) (λ bytes. Ok (decoded (integer_type Long) bytes)))

      go : (o : Option ObjectData) → slice_get m 0 ≡ o
          → and_then (and_then (cells_found o) (λ cells. if int_le (pos 0) (pos 16) && int_le (pos 16) (pos (length cells)) then Ok (pointer_to 1 16) else Err Outside)) (λ p. loaded m p (integer_type Long))
          ≡ and_then (and_then (and_then (cells_found o) (λ cells. if nat_le 24 (length cells) then Ok (take 8 (drop 16 cells)) else Err Outside)) (λ cs. or_unset (bytes_of cs))) (λ bytes. Ok (decoded (integer_type Long) bytes))
      go None is = refl
      go (Some ended) is = refl
      go (Some (alive cells)) is = by_test cells is (nat_le 16 (length cells)) refl

  -- the same of the first of several characters
  warning_member : and_then (moved m (pointer_to 1 0) (pos 240) 1) (λ p. and_then (moved m p (pos 0) 1) (λ q. loaded m q (integer_type Char))) ≡ loaded m (pointer_to 1 240) (integer_type Char)
  warning_member = go (slice_get m 0) refl
    where
      rest : List Cell → Result ValueData Trap
      rest cells = and_then (and_then (if nat_le 241 (length cells) then Ok (take 1 (drop 240 cells)) else Err Outside) (λ cs. or_unset (bytes_of cs))) (λ bytes. Ok (decoded (integer_type Char) bytes))

      at_first : Result ℕ Trap → Result ValueData Trap
      at_first r = and_then r (λ p. and_then (moved m p (pos 0) 1) (λ q. loaded m q (integer_type Char)))

      by_test : (cells : List Cell) → slice_get m 0 ≡ Some (alive cells) → (b : Bool) → nat_le 240 (length cells) ≡ b → at_first (if b then Ok (pointer_to 1 240) else Err Outside) ≡ rest cells
      by_test cells is true e =
          (λ j. and_then (and_then (cells_found (is j)) (λ cs. if int_le (pos 0) (pos 240) && int_le (pos 240) (pos (length cs)) then Ok (pointer_to 1 240) else Err Outside)) (λ q. loaded m q (integer_type Char)))
          ∙ (λ j. and_then (if e j then Ok (pointer_to 1 240) else Err Outside) (λ q. loaded m q (integer_type Char)))
          ∙ (λ j. and_then (and_then (and_then (cells_found (is j)) (λ cs. if nat_le 241 (length cs) then Ok (take 1 (drop 240 cs)) else Err Outside)) (λ cs. or_unset (bytes_of cs))) (λ bytes. Ok (decoded (integer_type Char) bytes)))
      by_test cells is false e = sym (λ j. and_then (and_then (if past (length cells) 240 1 refl e j then Ok (take 1 (drop 240 cells)) else Err Outside) (λ cs. or_unset (bytes_of cs))) (λ bytes. Ok (decoded (integer_type Char) bytes)))

      go : (o : Option ObjectData) → slice_get m 0 ≡ o
          → at_first (and_then (cells_found o) (λ cells. if int_le (pos 0) (pos 240) && int_le (pos 240) (pos (length cells)) then Ok (pointer_to 1 240) else Err Outside))
          ≡ and_then (and_then (and_then (cells_found o) (λ cells. if nat_le 241 (length cells) then Ok (take 1 (drop 240 cells)) else Err Outside)) (λ cs. or_unset (bytes_of cs))) (λ bytes. Ok (decoded (integer_type Char) bytes))
      go None is = refl
      go (Some ended) is = refl
      go (Some (alive cells)) is = by_test cells is (nat_le 240 (length cells)) refl

-- ---- a character as an int

char_value : (z r : ℤ) → Converts Char z r → IsValue Char r
char_value z r (wraps ne v times is) = v

char_is_int : (z : ℤ) → IsValue Char z → converted Int z ≡ z
char_is_int z h = sym (one_result Int z z (wraps (λ e. cc) (omega (arith, ints, h.0), omega (arith, ints, h.1)) (pos 0) (omega (arith, ints))))

char_kept : (z : ℤ) → converted Int (converted Char z) ≡ converted Char z
char_kept z = char_is_int (converted Char z) (char_value z (converted Char z) (follows_rule Char z))

-- ---- evaluating it

on_nothing : (r : Res) → on_done r (λ t. on t) ≡ r
on_nothing (value v s) = refl
on_nothing (on s) = refl
on_nothing (broke s) = refl
on_nothing (continued s) = refl
on_nothing (went l s) = refl
on_nothing (back v s) = refl
on_nothing (over e s) = refl

module _ (line : ℕ) where
  -- an address, and what is loaded there
  abbrev loaded_there : (Memory → ℕ → Result ValueData Trap) → Res → Res
  loaded_there f o = on_value o (λ v t. at_address v t (λ p. tried line (f t.memory p) t (λ x. value x t)))

  place_loaded : (r : Result ℕ Trap) (s : State) (f : Memory → ℕ → Result ValueData Trap)
      → loaded_there f (tried line r s (λ q. value (address q) s)) ≡ tried line (and_then r (f s.memory)) s (λ x. value x s)
  place_loaded (Ok q) s f = refl
  place_loaded (Err trap) s f = refl

  -- the same of its first element
  first_loaded : (r : Result ℕ Trap) (s : State) (f : Memory → ℕ → Result ValueData Trap)
      → loaded_there f (on_value (tried line r s (λ q. value (address q) s)) (λ x t. worked_out line (worked (pointer_plus 1) t.memory x (number (pos 0))) t (λ z. value z t)))
      ≡ tried line (and_then r (λ q. and_then (moved s.memory q (pos 0) 1) (f s.memory))) s (λ x. value x s)
  first_loaded (Err trap) s f = refl
  first_loaded (Ok q) s f = go (moved s.memory q (pos 0) 1)
    where
      go : (r : Result ℕ Trap)
          → loaded_there f (worked_out line (address_worked r) s (λ z. value z s)) ≡ tried line (and_then r (f s.memory)) s (λ x. value x s)
      go (Ok p) = refl
      go (Err trap) = refl

module _ (step : Step) (w : World) (c : Context) where
  code_read : (s : State) → eval step w c code_exp s ≡ tried c.line (loaded s.memory code_place (integer_type Long)) s (λ x. value x s)
  code_read s =
      place_loaded c.line (moved s.memory (pointer_to 1 0) (pos 16) 1) s (λ m p. loaded m p (integer_type Long))
      ∙ (λ j. tried c.line (code_member s.memory j) s (λ x. value x s))

  warning_read : (s : State) → eval step w c warning_exp s ≡ tried c.line (loaded s.memory warning_place (integer_type Char)) s (λ x. value x s)
  warning_read s =
      first_loaded c.line (moved s.memory (pointer_to 1 0) (pos 240) 1) s (λ m p. loaded m p (integer_type Char))
      ∙ (λ j. tried c.line (warning_member s.memory j) s (λ x. value x s))

  abbrev chosen : Stm → ValueData → State → Res
  chosen a v t = elim (is_true v) [ true ↦ run step w c a t | false ↦ on t ]

  by_truth : (a : Stm) (s : State) (b : Bool) → chosen a (truth b) s ≡ elim b [ true ↦ run step w c a s | false ↦ on s ]
  by_truth a s true = refl
  by_truth a s false = refl

  -- a value, compared with a number
  abbrev against : Comparison → ℤ → Res → Res
  against op k o = on_value o (λ x t. worked_out c.line (worked (compare op) t.memory x (number k)) t (λ z. value z t))

  code_compared : (op : Comparison) (k : ℤ) (a : Stm) (s : State) (r : Result (List ℕ) Trap)
      → on_value (against op k (tried c.line (and_then r (λ bytes. Ok (decoded (integer_type Long) bytes))) s (λ x. value x s))) (chosen a)
      ≡ tried c.line (and_then r (λ bytes. Ok (decoded (integer_type Long) bytes))) s (λ v. elim (compares op (number_of v) k) [ true ↦ run step w c a s | false ↦ on s ])
  code_compared op k a s (Ok bytes) = by_truth a s (compares op (converted Long (pos (little_endian bytes))) k)
  code_compared op k a s (Err trap) = refl

  warning_compared : (k : ℤ) (a : Stm) (s : State) (r : Result (List ℕ) Trap)
      → on_value (against equal k (on_value (tried c.line (and_then r (λ bytes. Ok (decoded (integer_type Char) bytes))) s (λ x. value x s)) (λ v t. value (value_as (integer_type Int) v) t))) (chosen a)
      ≡ tried c.line (and_then r (λ bytes. Ok (decoded (integer_type Char) bytes))) s (λ v. elim (is_number (number_of v) k) [ true ↦ run step w c a s | false ↦ on s ])
  warning_compared k a s (Ok bytes) =
      (λ j. chosen a (truth (compares equal (char_kept (pos (little_endian bytes)) j) k)) s)
      ∙ by_truth a s (compares equal (converted Char (pos (little_endian bytes))) k)
  warning_compared k a s (Err trap) = refl

  -- the `if` of a condition
  condition_holds : (condition : Cond) (a : Stm) (s : State)
      → run step w c (choose (condition_exp condition) a nothing) s
      ≡ when c.line condition s (λ holds. elim holds [ true ↦ run step w c a s | false ↦ on s ])
  condition_holds NotFound a s =
      (λ j. on_value (against equal (pos 100) (code_read s j)) (chosen a))
      ∙ code_compared equal (pos 100) a s (span s.memory code_place (scalar_size (integer_type Long)))
  condition_holds Warning a s =
      (λ j. on_value (against equal (pos 87) (on_value (warning_read s j) (λ v t. value (value_as (integer_type Int) v) t))) (chosen a))
      ∙ warning_compared (pos 87) a s (span s.memory warning_place (scalar_size (integer_type Char)))
  condition_holds Error a s =
      (λ j. on_value (against less (pos 0) (code_read s j)) (chosen a))
      ∙ code_compared less (pos 0) a s (span s.memory code_place (scalar_size (integer_type Long)))

  action_same : (a : ActionForm) (s : State) → run step w c (action_stm a) s ≡ acted step w c a s
  action_same goes_on s = refl
  action_same (jumps l) s = refl
  action_same prints s = refl
  action_same stops s = refl
  action_same leaves s = refl
  action_same continues s = refl
  action_same (calls_function e) s = refl

module _ (step : Step) (w : World) (c : Context) (n : ℕ) where
  abbrev at_line : Context
  at_line = record c { line = n }

  -- a test that is written
  test_same : (condition : Cond) (a : ActionForm) (s : State)
      → run step w c (test_stm n condition a) s
      ≡ when n condition s (λ holds. elim holds [ true ↦ acted step w at_line a s | false ↦ on s ])
  test_same condition a s =
      condition_holds step w at_line condition (on_line n (action_stm a)) s
      ∙ (λ j. when n condition s (λ holds. elim holds [ true ↦ action_same step w at_line a s j | false ↦ on s ]))

  -- a test before other statements
  before_same : (condition : Cond) (a : ActionForm) (rest : Stms) (s : State)
      → run_all step w c (test_before n condition a rest) s
      ≡ on_done (tested step w at_line condition a s) (λ t. run_all step w c rest t)
  before_same condition goes_on rest s = refl
  before_same condition (jumps l) rest s = λ j. on_done (test_same condition (jumps l) s j) (λ t. run_all step w c rest t)
  before_same condition prints rest s = λ j. on_done (test_same condition prints s j) (λ t. run_all step w c rest t)
  before_same condition stops rest s = λ j. on_done (test_same condition stops s j) (λ t. run_all step w c rest t)
  before_same condition leaves rest s = λ j. on_done (test_same condition leaves s j) (λ t. run_all step w c rest t)
  before_same condition continues rest s = λ j. on_done (test_same condition continues s j) (λ t. run_all step w c rest t)
  before_same condition (calls_function e) rest s = λ j. on_done (test_same condition (calls_function e) s j) (λ t. run_all step w c rest t)

  pub tests_same : (actions : ActionForms) (s : State)
      → run_all step w c (tests_stms n actions) s ≡ handled step w at_line actions s
  tests_same actions s =
      before_same NotFound actions.none_found behind_first s
      ∙ (λ j. on_done (tested step w at_line NotFound actions.none_found s) (λ t. before_same Warning actions.warning behind_second t j))
      ∙ (λ j. on_done (tested step w at_line NotFound actions.none_found s) (λ t.
      on_done (tested step w at_line Warning actions.warning t) (λ u. before_same Error actions.error no_stms u j)))
      ∙ (λ j. on_done (tested step w at_line NotFound actions.none_found s) (λ t.
      on_done (tested step w at_line Warning actions.warning t) (λ u. on_nothing (tested step w at_line Error actions.error u) j)))
    where
      behind_second : Stms
      behind_second = test_before n Error actions.error no_stms

      behind_first : Stms
      behind_first = test_before n Warning actions.warning behind_second
