-- The same as tests, for programs with nothing that only a step knows: so it can be computed whether a program is sound.
use Rattle.std.specs.Prelude.{ℕ, ◌&&◌, ◌||◌, nat_lt, nat_eq, Bool, true, false, List, [], ◌∷◌, length, replicate, slice_get, Option, Some, None}
use Rattle.ec_memory_defs.specs.Memory.{ValueData, number, address}
use Rattle.ec_meaning_defs.specs.resolved.Labels.{holds_any}
use Rattle.ec_meaning_defs.specs.resolved.Operations.{Operation, integers, shift_left, shift_right, compare, pointer_plus, plus_pointer, pointer_minus, pointers_apart}
use Rattle.ec_meaning_defs.specs.resolved.Programs.{Function, Program}
use Rattle.ec_meaning_defs.specs.resolved.Resolved.{Exp, object, slot, member, constant, load, whole, store, copy, put, update, convert, negate, flip, not, operate, both, either, choice, call, known, library_call, faulty, Exps, no_exps, exps, Stm, on_line, nothing, evaluate, declare, initialize, block, choose, loop, leave, next, return, goto, label, named, select, embedded_statement, Stms, no_stms, stms}
use Rattle.ec_sound_defs.specs.Sorts.{Sort, number_sort, address_sort, any_sort, sort_of, sort_of_value, left_of, right_of, result_sort, known_takes, known_gives}
use Rattle.ec_sound_defs.specs.Sound.{Signature, Around, call_gives, count_of, looping, switching, within, in_body}

abbrev pub takes : Sort → Sort → Bool
takes any_sort k = true
takes number_sort number_sort = true
takes number_sort address_sort = false
takes number_sort any_sort = false
takes address_sort number_sort = false
takes address_sort address_sort = true
takes address_sort any_sort = false

abbrev pub same_sort : Sort → Sort → Bool
same_sort number_sort number_sort = true
same_sort address_sort address_sort = true
same_sort any_sort any_sort = true
same_sort _ _ = false

abbrev pub is_comparison : Operation → Bool
is_comparison (integers t op) = false
is_comparison (shift_left t) = false
is_comparison (shift_right t) = false
is_comparison (compare c) = true
is_comparison (pointer_plus size) = false
is_comparison (plus_pointer size) = false
is_comparison (pointer_minus size) = false
is_comparison (pointers_apart size) = false

abbrev pub of_sort : Sort → ValueData → Bool
of_sort number_sort (number z) = true
of_sort number_sort (address p) = false
of_sort address_sort (number z) = false
of_sort address_sort (address p) = true
of_sort any_sort v = true

abbrev pub may_end : Sort → Option ValueData → Bool
may_end k None = true
may_end k (Some v) = of_sort k v

module _ (signatures : List Signature) where
  abbrev pub is_called : Option Signature → Bool → ℕ → Sort → Bool
  is_called None used n k = false
  is_called (Some g) used n k = nat_eq n g.takes && takes k (call_gives used g)

  abbrev mutual
    pub has : ℕ → Sort → Exp → Bool
    has n k (object i) = takes k address_sort
    has n k (slot i) = takes k address_sort && nat_lt i n
    has n k (member offset e) = takes k address_sort && has n address_sort e
    has n k (constant v) = takes k (sort_of_value v)
    has n k (load kind e) = takes k (sort_of kind) && has n address_sort e
    has n k (whole size e) = takes k address_sort && has n address_sort e
    has n k (store kind e a) = has n address_sort e && has n k a
    has n k (copy size e a) = takes k address_sort && (has n address_sort e && has n address_sort a)
    has n k (put bytes e) = takes k address_sort && has n address_sort e
    has n k (update u e a) =
        takes k (sort_of u.kind) && (same_sort (sort_of u.widened) (left_of u.operation)
        && (has n address_sort e && has n (right_of u.operation) a))
    has n k (convert from to e) = takes k (sort_of to) && has n any_sort e
    has n k (negate type e) = takes k number_sort && has n number_sort e
    has n k (flip type e) = takes k number_sort && has n number_sort e
    has n k (not e) = takes k number_sort && has n any_sort e
    has n k (operate op a b) =
        takes k (result_sort op) && ((has n (left_of op) a && has n (right_of op) b)
        || (is_comparison op && (has n address_sort a && has n address_sort b)))
    has n k (both a b) = takes k number_sort && (has n any_sort a && has n any_sort b)
    has n k (either a b) = takes k number_sort && (has n any_sort a && has n any_sort b)
    has n k (choice e a b) = has n any_sort e && (has n k a && has n k b)
    has n k (call f used es) =
        is_called (slice_get signatures f) used (count_of es) k
        && has_each n (replicate (count_of es) any_sort) es
    has n k (known f es) = takes k (known_gives f) && has_each n (known_takes f) es
    has n k (library_call i es) = false
    has n k faulty = false

    pub has_each : ℕ → List Sort → Exps → Bool
    has_each n [] no_exps = true
    has_each n [] (exps e es) = false
    has_each n (k ∷ ks) no_exps = false
    has_each n (k ∷ ks) (exps e es) = has n k e && has_each n ks es

  abbrev pub has_option : ℕ → Option Exp → Bool
  has_option n None = true
  has_option n (Some e) = has n any_sort e

  abbrev pub may_return : Around → Option Exp → Bool
  may_return a None = same_sort a.gives any_sort
  may_return a (Some e) = has a.count a.gives e

  abbrev mutual
    pub is_sound : Around → Stm → Bool
    is_sound a (on_line n x) = is_sound a x
    is_sound a nothing = true
    is_sound a (evaluate e) = has a.count any_sort e
    is_sound a (declare i size) = nat_lt i a.count
    is_sound a (initialize i size es) =
        nat_lt i a.count && has_each a.count (replicate (count_of es) any_sort) es
    is_sound a (block sizes b) = all_sound (within a sizes) b
    is_sound a (choose e x y) = has a.count any_sort e && (is_sound a x && is_sound a y)
    is_sound a (loop first test behind x) =
        has_option a.count test && (has_option a.count behind && is_sound (looping a) x)
    is_sound a leave = a.breaks
    is_sound a next = a.loops
    is_sound a (return e) = may_return a e
    is_sound a (goto l) = holds_any (named l) a.body
    is_sound a (label l x) = is_sound a x
    is_sound a (select e x) = has a.count number_sort e && is_sound (switching a) x
    is_sound a (embedded_statement n) = false

    pub all_sound : Around → Stms → Bool
    all_sound a no_stms = true
    all_sound a (stms x xs) = is_sound a x && all_sound a xs

  abbrev pub is_sound_function : Signature → Function → Bool
  is_sound_function g f =
      nat_eq (length f.parameters) g.takes
      && (all_sound (in_body g f) f.body && may_end g.gives f.otherwise)

  abbrev pub are_sound : List Signature → List Function → Bool
  are_sound [] [] = true
  are_sound [] (f ∷ fs) = false
  are_sound (g ∷ gs) [] = false
  are_sound (g ∷ gs) (f ∷ fs) = is_sound_function g f && are_sound gs fs

abbrev pub is_main : Option Signature → Bool
is_main None = false
is_main (Some g) = nat_eq g.takes 0 && same_sort g.gives number_sort

abbrev pub ends_with_value : Option Function → Bool
ends_with_value None = false
ends_with_value (Some f) = elim f.otherwise [ None ↦ false | Some v ↦ true ]

abbrev pub is_sound_program : List Signature → Program → Bool
is_sound_program signatures p =
    are_sound signatures signatures p.functions
    && (is_main (slice_get signatures p.main) && ends_with_value (slice_get p.functions p.main))
