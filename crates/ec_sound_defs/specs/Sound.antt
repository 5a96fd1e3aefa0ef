-- Sound programs: those in which each part has the sort that the part round it wants, each slot is in scope, each function and each label is there, and what leaves a loop or a `switch` stands in one. Nothing faulty is in them. Every program that is accepted is resolved to a sound one.
use Rattle.std.specs.Prelude.{◌≡◌, ◌⊎◌, ◌<◌, ◌+◌, ℕ, suc, Bool, true, false, List, [], ◌∷◌, length, replicate, slice_get, Option, Some, None}
use Rattle.ec_memory_defs.specs.Memory.{ValueData}
use Rattle.ec_meaning_defs.specs.resolved.Labels.{holds_any}
use Rattle.ec_meaning_defs.specs.resolved.Operations.{Operation, integers, shift_left, shift_right, compare, pointer_plus, plus_pointer, pointer_minus, pointers_apart}
use Rattle.ec_meaning_defs.specs.resolved.Programs.{Function, Program}
use Rattle.ec_meaning_defs.specs.resolved.Resolved.{Exp, object, slot, member, constant, load, whole, store, copy, put, update, convert, negate, flip, not, operate, both, either, choice, call, known, library_call, faulty, Exps, no_exps, exps, Stm, on_line, nothing, evaluate, declare, initialize, block, choose, loop, leave, next, return, goto, label, named, select, embedded_statement, Stms, no_stms, stms}
use Rattle.ec_sound_defs.specs.Sorts.{Sort, number_sort, address_sort, any_sort, OfSort, Takes, sort_of, sort_of_value, left_of, right_of, result_sort, known_takes, known_gives}

-- a function as calls see it: how many arguments it takes, and the sort of its value. One without a result gives any
pub record Signature : Type 0 where
  pub takes : ℕ
  pub gives : Sort

-- where a statement stands: how many objects are in scope, whether in a loop, whether in what `break` ends (a loop or a `switch`), the body of its function, and the sort of the function's value
pub record Around : Type 0 where
  pub count : ℕ
  pub loops : Bool
  pub breaks : Bool
  pub body : Stms
  pub gives : Sort

-- what only a step knows, as far as it serves: embedded statements where they stand, and calls of the library by their numbers, with so many objects in scope and so many pointers that are evaluated before them
pub record Atoms : Type 1 where
  pub embeds : Around → ℕ → Type 0
  pub calls : ℕ → ℕ → ℕ → Type 0

-- the value of a call, where one is used
abbrev pub call_gives : Bool → Signature → Sort
call_gives true g = g.gives
call_gives false g = any_sort

abbrev pub looping : Around → Around
looping a = record a { loops = true; breaks = true }

abbrev pub switching : Around → Around
switching a = record a { breaks = true }

abbrev pub within : Around → List ℕ → Around
within a sizes = record a { count = a.count + length sizes }

-- what a return gives: a function without a result may give nothing
abbrev pub MayReturn : Sort → Option ValueData → Type 0
MayReturn k None = k ≡ any_sort
MayReturn k (Some v) = OfSort k v

-- what is given where the body ends: it may be nothing
abbrev pub MayEnd : Sort → Option ValueData → Type 0
MayEnd k None = Unit {0}
MayEnd k (Some v) = OfSort k v

-- the body of a function
abbrev pub in_body : Signature → Function → Around
in_body g f = record {
  count = length f.parameters + length f.objects;
  loops = false;
  breaks = false;
  body = f.body;
  gives = g.gives;
}

-- two pointers are compared too
abbrev pub IsComparison : Operation → Type 0
IsComparison (integers t op) = ⊥
IsComparison (shift_left t) = ⊥
IsComparison (shift_right t) = ⊥
IsComparison (compare c) = Unit {0}
IsComparison (pointer_plus size) = ⊥
IsComparison (plus_pointer size) = ⊥
IsComparison (pointer_minus size) = ⊥
IsComparison (pointers_apart size) = ⊥

abbrev pub count_of : Exps → ℕ
count_of no_exps = 0
count_of (exps e es) = suc (count_of es)

module _ (signatures : List Signature) (atoms : Atoms) where
  -- the function of this number is there, takes so many arguments, and gives a value that serves
  abbrev pub Called : Option Signature → Bool → ℕ → Sort → Type 0
  Called None used n k = ⊥
  Called (Some g) used n k = (n ≡ g.takes) × Takes k (call_gives used g)

  -- With so many objects in scope, the expression serves where a value of this sort is wanted
  abbrev mutual
    pub Has : ℕ → Sort → Exp → Type 0
    Has n k (object i) = Takes k address_sort
    Has n k (slot i) = Takes k address_sort × (i < n)
    Has n k (member offset e) = Takes k address_sort × Has n address_sort e
    Has n k (constant v) = Takes k (sort_of_value v)
    Has n k (load kind e) = Takes k (sort_of kind) × Has n address_sort e
    Has n k (whole size e) = Takes k address_sort × Has n address_sort e
    Has n k (store kind e a) = Has n address_sort e × Has n k a
    Has n k (copy size e a) =
        Takes k address_sort × Has n address_sort e × Has n address_sort a
    Has n k (put bytes e) = Takes k address_sort × Has n address_sort e
    Has n k (update u e a) =
        Takes k (sort_of u.kind) × (sort_of u.widened ≡ left_of u.operation)
        × Has n address_sort e × Has n (right_of u.operation) a
    Has n k (convert from to e) = Takes k (sort_of to) × Has n any_sort e
    Has n k (negate type e) = Takes k number_sort × Has n number_sort e
    Has n k (flip type e) = Takes k number_sort × Has n number_sort e
    Has n k (not e) = Takes k number_sort × Has n any_sort e
    Has n k (operate op a b) =
        Takes k (result_sort op)
        × ((Has n (left_of op) a × Has n (right_of op) b)
        ⊎ (IsComparison op × Has n address_sort a × Has n address_sort b))
    Has n k (both a b) = Takes k number_sort × Has n any_sort a × Has n any_sort b
    Has n k (either a b) = Takes k number_sort × Has n any_sort a × Has n any_sort b
    Has n k (choice e a b) = Has n any_sort e × Has n k a × Has n k b
    Has n k (call f used es) =
        Called (slice_get signatures f) used (count_of es) k
        × HasEach n (replicate (count_of es) any_sort) es
    Has n k (known f es) = Takes k (known_gives f) × HasEach n (known_takes f) es
    Has n k (library_call i es) =
        (k ≡ any_sort) × atoms.calls n i (count_of es)
        × HasEach n (replicate (count_of es) address_sort) es
    Has n k faulty = ⊥

    -- as many expressions as sorts, each of its sort
    pub HasEach : ℕ → List Sort → Exps → Type 0
    HasEach n [] no_exps = Unit {0}
    HasEach n [] (exps e es) = ⊥
    HasEach n (k ∷ ks) no_exps = ⊥
    HasEach n (k ∷ ks) (exps e es) = Has n k e × HasEach n ks es

  abbrev pub HasOption : ℕ → Option Exp → Type 0
  HasOption n None = Unit {0}
  HasOption n (Some e) = Has n any_sort e

  abbrev pub Returns : Around → Option Exp → Type 0
  Returns a None = a.gives ≡ any_sort
  Returns a (Some e) = Has a.count a.gives e

  abbrev mutual
    pub Sound : Around → Stm → Type 0
    Sound a (on_line n x) = Sound a x
    Sound a nothing = Unit {0}
    Sound a (evaluate e) = Has a.count any_sort e
    Sound a (declare i size) = i < a.count
    Sound a (initialize i size es) =
        (i < a.count) × HasEach a.count (replicate (count_of es) any_sort) es
    Sound a (block sizes b) = SoundAll (within a sizes) b
    Sound a (choose e x y) = Has a.count any_sort e × Sound a x × Sound a y
    Sound a (loop first test behind x) =
        HasOption a.count test × HasOption a.count behind × Sound (looping a) x
    Sound a leave = a.breaks ≡ true
    Sound a next = a.loops ≡ true
    Sound a (return e) = Returns a e
    Sound a (goto l) = holds_any (named l) a.body ≡ true
    Sound a (label l x) = Sound a x
    Sound a (select e x) = Has a.count number_sort e × Sound (switching a) x
    Sound a (embedded_statement n) = atoms.embeds a n

    pub SoundAll : Around → Stms → Type 0
    SoundAll a no_stms = Unit {0}
    SoundAll a (stms x xs) = Sound a x × SoundAll a xs

  pub record SoundFunction (g : Signature) (f : Function) : Type 0 where
    pub takes : length f.parameters ≡ g.takes
    pub body : SoundAll (in_body g f) f.body
    pub at_end : MayEnd g.gives f.otherwise

  -- each function has its signature
  abbrev pub SoundFunctions : List Signature → List Function → Type 0
  SoundFunctions [] [] = Unit {0}
  SoundFunctions [] (f ∷ fs) = ⊥
  SoundFunctions (g ∷ gs) [] = ⊥
  SoundFunctions (g ∷ gs) (f ∷ fs) = SoundFunction g f × SoundFunctions gs fs

-- the signature of `main`: it takes nothing, and gives a number
abbrev pub main_signature : Signature
main_signature = record { takes = 0; gives = number_sort }

abbrev pub EndsWithValue : Option Function → Type 0
EndsWithValue None = ⊥
EndsWithValue (Some f) = (v : ValueData) × (f.otherwise ≡ Some v)

-- A program is sound by the signatures of its functions.
pub record SoundProgram (signatures : List Signature) (atoms : Atoms) (p : Program) : Type 0 where
  pub functions : SoundFunctions signatures atoms signatures p.functions
  pub main : slice_get signatures p.main ≡ Some main_signature
  pub main_ends : EndsWithValue (slice_get p.functions p.main)

-- none of what only a step knows
abbrev pub no_atoms : Atoms
no_atoms = record { embeds = λ a n. ⊥; calls = λ count n m. ⊥ }
