-- What is computed to be sound is sound.
use Rattle.std.proofs.Common.{◌≡◌, ℕ, ◌<◌, List, [], ◌∷◌, length, Option, Some, None, Bool, true, false, refl, inl, inr, arith}
use Rattle.std.proofs.lemmas.Bool.Decides.{nat_tests}
use Rattle.std.specs.Prelude.{◌&&◌, ◌||◌, ◌⊎◌, nat_lt, nat_eq, slice_get, replicate}
use Rattle.ec_memory_defs.specs.Memory.{ValueData, number, address}
use Rattle.ec_meaning_defs.specs.resolved.Operations.{Operation, integers, shift_left, shift_right, compare, pointer_plus, plus_pointer, pointer_minus, pointers_apart}
use Rattle.ec_meaning_defs.specs.resolved.Programs.{Function, Program}
use Rattle.ec_meaning_defs.specs.resolved.Resolved.{Exp, object, slot, member, constant, load, whole, store, copy, put, update, convert, negate, flip, not, operate, both, either, choice, call, known, library_call, faulty, Exps, no_exps, exps, Stm, on_line, nothing, evaluate, declare, initialize, block, choose, loop, leave, next, return, goto, label, select, embedded_statement, Stms, no_stms, stms}
use Rattle.ec_sound_defs.specs.Sorts.{Sort, number_sort, address_sort, any_sort, Takes, sort_of, sort_of_value, left_of, right_of, result_sort, known_takes, known_gives}
use Rattle.ec_sound_defs.specs.Sound.{Signature, Around, call_gives, looping, switching, within, MayEnd, Called, count_of, IsComparison, Has, HasEach, HasOption, Returns, Sound, SoundAll, in_body, SoundFunction, SoundFunctions, main_signature, EndsWithValue, SoundProgram, no_atoms}
use Rattle.ec_sound_defs.specs.Computed.{takes, same_sort, is_comparison, may_end, is_called, has, has_each, has_option, may_return, is_sound, all_sound, is_sound_function, are_sound, is_main, ends_with_value, is_sound_program}

no : {A : Type 0} → false ≡ true → A
no e = cc e

left : (a b : Bool) → (a && b) ≡ true → a ≡ true
left true b e = refl
left false b e = cc e

right : (a b : Bool) → (a && b) ≡ true → b ≡ true
right true b e = e
right false b e = cc e

one_of : (a b : Bool) → (a || b) ≡ true → (a ≡ true) ⊎ (b ≡ true)
one_of true b e = inl refl
one_of false b e = inr e

taken : (k j : Sort) → takes k j ≡ true → Takes k j
taken any_sort j e = tt
taken number_sort number_sort e = tt
taken number_sort address_sort e = no e
taken number_sort any_sort e = no e
taken address_sort number_sort e = no e
taken address_sort address_sort e = tt
taken address_sort any_sort e = no e

same : (k j : Sort) → same_sort k j ≡ true → k ≡ j
same number_sort number_sort e = refl
same number_sort address_sort e = no e
same number_sort any_sort e = no e
same address_sort number_sort e = no e
same address_sort address_sort e = refl
same address_sort any_sort e = no e
same any_sort number_sort e = no e
same any_sort address_sort e = no e
same any_sort any_sort e = refl

compares : (op : Operation) → is_comparison op ≡ true → IsComparison op
compares (integers t op) e = no e
compares (shift_left t) e = no e
compares (shift_right t) e = no e
compares (compare c) e = tt
compares (pointer_plus size) e = no e
compares (plus_pointer size) e = no e
compares (pointer_minus size) e = no e
compares (pointers_apart size) e = no e

below : (i n : ℕ) → nat_lt i n ≡ true → i < n
below i n e = grind (arith, nat_tests, e)

equal : (m n : ℕ) → nat_eq m n ≡ true → m ≡ n
equal m n e = grind (arith, nat_tests, e)

ends_so : (k : Sort) (v : Option ValueData) → may_end k v ≡ true → MayEnd k v
ends_so k None e = tt
ends_so number_sort (Some (number z)) e = tt
ends_so number_sort (Some (address p)) e = no e
ends_so address_sort (Some (number z)) e = no e
ends_so address_sort (Some (address p)) e = tt
ends_so any_sort (Some v) e = tt

module _ (signatures : List Signature) where
  called_so : (o : Option Signature) (used : Bool) (n : ℕ) (k : Sort) → is_called signatures o used n k ≡ true → Called signatures no_atoms o used n k
  called_so None used n k e = no e
  called_so (Some g) used n k e =
      (equal n g.takes (left (nat_eq n g.takes) (takes k (call_gives used g)) e), taken k (call_gives used g) (right (nat_eq n g.takes) (takes k (call_gives used g)) e))

  mutual
    has_so : (n : ℕ) (k : Sort) (x : Exp) → has signatures n k x ≡ true → Has signatures no_atoms n k x
    has_so n k (object i) e = taken k address_sort e
    has_so n k (slot i) e = (taken k address_sort (left (takes k address_sort) (nat_lt i n) e), below i n (right (takes k address_sort) (nat_lt i n) e))
    has_so n k (member offset x) e = (taken k address_sort (left (takes k address_sort) (has signatures n address_sort x) e), has_so n address_sort x (right (takes k address_sort) (has signatures n address_sort x) e))
    has_so n k (constant v) e = taken k (sort_of_value v) e
    has_so n k (load kind x) e = (taken k (sort_of kind) (left (takes k (sort_of kind)) (has signatures n address_sort x) e), has_so n address_sort x (right (takes k (sort_of kind)) (has signatures n address_sort x) e))
    has_so n k (whole size x) e = (taken k address_sort (left (takes k address_sort) (has signatures n address_sort x) e), has_so n address_sort x (right (takes k address_sort) (has signatures n address_sort x) e))
    has_so n k (store kind x y) e = (has_so n address_sort x (left (has signatures n address_sort x) (has signatures n k y) e), has_so n k y (right (has signatures n address_sort x) (has signatures n k y) e))
    has_so n k (copy size x y) e =
        let f = right (takes k address_sort) (has signatures n address_sort x && has signatures n address_sort y) e in (
          taken k address_sort (left (takes k address_sort) (has signatures n address_sort x && has signatures n address_sort y) e),
          has_so n address_sort x (left (has signatures n address_sort x) (has signatures n address_sort y) f),
          has_so n address_sort y (right (has signatures n address_sort x) (has signatures n address_sort y) f),
        )
    has_so n k (put bytes x) e = (taken k address_sort (left (takes k address_sort) (has signatures n address_sort x) e), has_so n address_sort x (right (takes k address_sort) (has signatures n address_sort x) e))
    has_so n k (update u x y) e =
        let a = has signatures n address_sort x in let b = has signatures n (right_of u.operation) y in
        let f = right (takes k (sort_of u.kind)) (same_sort (sort_of u.widened) (left_of u.operation) && (a && b)) e in
        let g = right (same_sort (sort_of u.widened) (left_of u.operation)) (a && b) f in (
          taken k (sort_of u.kind) (left (takes k (sort_of u.kind)) (same_sort (sort_of u.widened) (left_of u.operation) && (a && b)) e),
          same (sort_of u.widened) (left_of u.operation) (left (same_sort (sort_of u.widened) (left_of u.operation)) (a && b) f),
          has_so n address_sort x (left a b g),
          has_so n (right_of u.operation) y (right a b g),
        )
    has_so n k (convert from to x) e = (taken k (sort_of to) (left (takes k (sort_of to)) (has signatures n any_sort x) e), has_so n any_sort x (right (takes k (sort_of to)) (has signatures n any_sort x) e))
    has_so n k (negate type x) e = (taken k number_sort (left (takes k number_sort) (has signatures n number_sort x) e), has_so n number_sort x (right (takes k number_sort) (has signatures n number_sort x) e))
    has_so n k (flip type x) e = (taken k number_sort (left (takes k number_sort) (has signatures n number_sort x) e), has_so n number_sort x (right (takes k number_sort) (has signatures n number_sort x) e))
    has_so n k (not x) e = (taken k number_sort (left (takes k number_sort) (has signatures n any_sort x) e), has_so n any_sort x (right (takes k number_sort) (has signatures n any_sort x) e))
    has_so n k (operate op x y) e =
        let a = has signatures n (left_of op) x in let b = has signatures n (right_of op) y in
        let c = has signatures n address_sort x in let d = has signatures n address_sort y in
        let f = right (takes k (result_sort op)) ((a && b) || (is_comparison op && (c && d))) e in (
          taken k (result_sort op) (left (takes k (result_sort op)) ((a && b) || (is_comparison op && (c && d))) e),
          elim (one_of (a && b) (is_comparison op && (c && d)) f) [
            | inl g ↦ inl (has_so n (left_of op) x (left a b g), has_so n (right_of op) y (right a b g))
            | inr g ↦ inr (compares op (left (is_comparison op) (c && d) g), has_so n address_sort x (left c d (right (is_comparison op) (c && d) g)), has_so n address_sort y (right c d (right (is_comparison op) (c && d) g)))
          ],
        )
    has_so n k (both x y) e =
        let a = has signatures n any_sort x in let b = has signatures n any_sort y in
        let f = right (takes k number_sort) (a && b) e in
        (taken k number_sort (left (takes k number_sort) (a && b) e), has_so n any_sort x (left a b f), has_so n any_sort y (right a b f))
    has_so n k (either x y) e =
        let a = has signatures n any_sort x in let b = has signatures n any_sort y in
        let f = right (takes k number_sort) (a && b) e in
        (taken k number_sort (left (takes k number_sort) (a && b) e), has_so n any_sort x (left a b f), has_so n any_sort y (right a b f))
    has_so n k (choice x y z) e =
        let a = has signatures n any_sort x in let b = has signatures n k y in let c = has signatures n k z in
        let f = right a (b && c) e in
        (has_so n any_sort x (left a (b && c) e), has_so n k y (left b c f), has_so n k z (right b c f))
    has_so n k (call f used es) e =
        let a = is_called signatures (slice_get signatures f) used (count_of es) k in let b = has_each signatures n (replicate (count_of es) any_sort) es in
        (called_so (slice_get signatures f) used (count_of es) k (left a b e), each_so n (replicate (count_of es) any_sort) es (right a b e))
    has_so n k (known f es) e =
        let a = takes k (known_gives f) in let b = has_each signatures n (known_takes f) es in
        (taken k (known_gives f) (left a b e), each_so n (known_takes f) es (right a b e))
    has_so n k (library_call i es) e = no e
    has_so n k faulty e = no e

    each_so : (n : ℕ) (ks : List Sort) (es : Exps) → has_each signatures n ks es ≡ true → HasEach signatures no_atoms n ks es
    each_so n [] no_exps e = tt
    each_so n [] (exps x es) e = no e
    each_so n (k ∷ ks) no_exps e = no e
    each_so n (k ∷ ks) (exps x es) e =
        (has_so n k x (left (has signatures n k x) (has_each signatures n ks es) e), each_so n ks es (right (has signatures n k x) (has_each signatures n ks es) e))

  option_so : (n : ℕ) (x : Option Exp) → has_option signatures n x ≡ true → HasOption signatures no_atoms n x
  option_so n None e = tt
  option_so n (Some x) e = has_so n any_sort x e

  returns_so : (a : Around) (x : Option Exp) → may_return signatures a x ≡ true → Returns signatures no_atoms a x
  returns_so a None e = same a.gives any_sort e
  returns_so a (Some x) e = has_so a.count a.gives x e

  mutual
    sound_so : (x : Stm) (a : Around) → is_sound signatures a x ≡ true → Sound signatures no_atoms a x
    sound_so (on_line n x) a e = sound_so x a e
    sound_so nothing a e = tt
    sound_so (evaluate x) a e = has_so a.count any_sort x e
    sound_so (declare i size) a e = below i a.count e
    sound_so (initialize i size es) a e =
        let c = nat_lt i a.count in let d = has_each signatures a.count (replicate (count_of es) any_sort) es in
        (below i a.count (left c d e), each_so a.count (replicate (count_of es) any_sort) es (right c d e))
    sound_so (block sizes b) a e = all_so b (within a sizes) e
    sound_so (choose x y z) a e =
        let b = has signatures a.count any_sort x in let c = is_sound signatures a y in let d = is_sound signatures a z in
        let f = right b (c && d) e in
        (has_so a.count any_sort x (left b (c && d) e), sound_so y a (left c d f), sound_so z a (right c d f))
    sound_so (loop first test behind x) a e =
        let b = has_option signatures a.count test in let c = has_option signatures a.count behind in let d = is_sound signatures (looping a) x in
        let f = right b (c && d) e in
        (option_so a.count test (left b (c && d) e), option_so a.count behind (left c d f), sound_so x (looping a) (right c d f))
    sound_so leave a e = e
    sound_so next a e = e
    sound_so (return x) a e = returns_so a x e
    sound_so (goto l) a e = e
    sound_so (label l x) a e = sound_so x a e
    sound_so (select x y) a e =
        let b = has signatures a.count number_sort x in let c = is_sound signatures (switching a) y in
        (has_so a.count number_sort x (left b c e), sound_so y (switching a) (right b c e))
    sound_so (embedded_statement n) a e = no e

    all_so : (b : Stms) (a : Around) → all_sound signatures a b ≡ true → SoundAll signatures no_atoms a b
    all_so no_stms a e = tt
    all_so (stms x xs) a e = (sound_so x a (left (is_sound signatures a x) (all_sound signatures a xs) e), all_so xs a (right (is_sound signatures a x) (all_sound signatures a xs) e))

  function_so : (g : Signature) (f : Function) → is_sound_function signatures g f ≡ true → SoundFunction signatures no_atoms g f
  function_so g f e =
      let a = nat_eq (length f.parameters) g.takes in let b = all_sound signatures (in_body g f) f.body in let c = may_end g.gives f.otherwise in
      let d = right a (b && c) e in
      record { takes = equal (length f.parameters) g.takes (left a (b && c) e); body = all_so f.body (in_body g f) (left b c d); at_end = ends_so g.gives f.otherwise (right b c d) }

  functions_so : (gs : List Signature) (fs : List Function) → are_sound signatures gs fs ≡ true → SoundFunctions signatures no_atoms gs fs
  functions_so [] [] e = tt
  functions_so [] (f ∷ fs) e = no e
  functions_so (g ∷ gs) [] e = no e
  functions_so (g ∷ gs) (f ∷ fs) e =
      (function_so g f (left (is_sound_function signatures g f) (are_sound signatures gs fs) e), functions_so gs fs (right (is_sound_function signatures g f) (are_sound signatures gs fs) e))

main_so : (o : Option Signature) → is_main o ≡ true → o ≡ Some main_signature
main_so None e = no e
main_so (Some g) e =
    let f = equal g.takes 0 (left (nat_eq g.takes 0) (same_sort g.gives number_sort) e) in
    let h = same g.gives number_sort (right (nat_eq g.takes 0) (same_sort g.gives number_sort) e) in
    λ i. Some (record { takes = f i; gives = h i })

value_so : (o : Option Function) → ends_with_value o ≡ true → EndsWithValue o
value_so None e = no e
value_so (Some f) e = by f.otherwise refl e
  where
    by : (v : Option ValueData) → f.otherwise ≡ v → (elim v as (λ x. Bool) [ None ↦ false | Some x ↦ true ]) ≡ true → EndsWithValue (Some f)
    by None p h = no h
    by (Some v) p h = (v, p)

pub program_so : (signatures : List Signature) (p : Program) → is_sound_program signatures p ≡ true → SoundProgram signatures no_atoms p
program_so signatures p e =
    let a = are_sound signatures signatures p.functions in let b = is_main (slice_get signatures p.main) in let c = ends_with_value (slice_get p.functions p.main) in
    let f = right a (b && c) e in
    record { functions = functions_so signatures signatures p.functions (left a (b && c) e); main = main_so (slice_get signatures p.main) (left b c f); main_ends = value_so (slice_get p.functions p.main) (right b c f) }
