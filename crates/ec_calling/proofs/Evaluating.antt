-- Arguments are evaluated one by one.
use Rattle.std.proofs.Common.{◌≡◌, ◌∙◌, ℕ, suc, ◌+◌, ◌<◌, Bool, true, List, [], ◌∷◌, ◌++◌, length, get_or, drop, drop-cons, add-one, map, Option, Some, None, Ok, Err, refl, sym, ap, append_assoc, append-nil}
use Rattle.std.specs.Prelude.{option_map}
use Rattle.ec_arguments.specs.Arguments.{Arg}
use Rattle.ec_bytes.specs.declared.scalar.address.Ptr.{Ptr}
use Rattle.ec_call_defs.specs.Steps.{given_first}
use Rattle.ec_meaning_defs.specs.evaluation.Evaluate.{World}
use Rattle.ec_meaning_defs.specs.evaluation.State.{State}
use Rattle.ec_memory_defs.specs.Memory.{Memory, ValueData}
use Rattle.ec_plain.specs.Answered.{at}
use Rattle.ec_meaning_defs.specs.resolved.Resolved.{Exp}
use Rattle.ec_values.specs.Words.{word_view}
use Rattle.ec_values.specs.declared.word.Stop.{Stop}
use Rattle.ec_values.specs.declared.word.Word.{Word}
use Rattle.ec_calling.specs.declared.call.Argument.{Argument}
use Rattle.ec_calling.specs.Giving.{Evaluated, GivenArgument, Gives, GivesOne, Halted, Next, TakesValue, all_seen, evaluated, seen, with_value}
use Rattle.ec_calling.specs.Views.{argument_view}

-- the item at an index, and what stands behind it
pub drop_item : {A : Type 0} (xs : List A) (i : ℕ) (x : A) → i < length xs → x ≡ get_or xs i x → drop i xs ≡ x ∷ drop (i + 1) xs
drop_item xs i x h e = drop-cons xs i x h ∙ ap (λ y. y ∷ drop (suc i) xs) (sym e) ∙ ap (λ n. x ∷ drop n xs) (sym (add-one i))

-- what is left to be evaluated: arguments whose first pointers have these values
abbrev pub still : List Word → List Argument → List (Arg Exp)
still values left = given_first (map word_view values) (map argument_view left)

module _ (scope : List Ptr) where
  module _ (all : List (Arg Exp)) (old : Memory) where
    -- these are still to be evaluated; what the others gave is kept, or there was no memory for it
    pub record Onward (now : Memory) (given : List GivenArgument) (kept : Bool) (left : List (Arg Exp)) : Type 0 where
      pub front : List (Arg ℕ)
      pub is : kept ≡ true → front ≡ all_seen given
      pub goes : (w : World) (line : ℕ) (first : Bool) (s : State) (go : Next)
          → evaluated scope all w line first (at s old) go
          ≡ evaluated scope left w line first (at s now) (λ more t. go (front ++ more) t)

    pub begins : (kept : Bool) → Onward old [] kept all
    begins kept = record { front = []; is = λ e. refl; goes = λ w line first s go. refl }

    at_one : (now : Memory) (given : List GivenArgument) (kept : Bool) (xs : List (Arg Exp)) (a : Arg Exp) (left : List (Arg Exp)) → xs ≡ a ∷ left
        → (h : Onward now given kept xs) → (w : World) (line : ℕ) (first : Bool) (s : State) (go : Next)
        → evaluated scope all w line first (at s old) go
        ≡ evaluated scope (a ∷ left) w line first (at s now) (λ more t. go (h.front ++ more) t)
    at_one now given kept xs a left e h w line first s go =
        h.goes w line first s go
        ∙ ap (λ ys. evaluated scope ys w line first (at s now) (λ more t. go (h.front ++ more) t)) e

    pub goes_on : (now new : Memory) (given given' : List GivenArgument) (kept kept' : Bool) (xs : List (Arg Exp)) (a : Arg Exp) (left : List (Arg Exp)) (x : GivenArgument)
        → xs ≡ a ∷ left → GivesOne scope a now new (Ok x) → (kept' ≡ true → kept ≡ true) → (kept' ≡ true → all_seen given' ≡ all_seen given ++ seen x ∷ [])
        → Onward now given kept xs → Onward new given' kept' left
    goes_on now new given given' kept kept' xs a left x e one before behind h = record {
      front = h.front ++ seen x ∷ [];
      is = λ k. ap (λ ys. ys ++ seen x ∷ []) (h.is (before k)) ∙ sym (behind k);
      goes = λ w line first s go.
          at_one now given kept xs a left e h w line first s go
          ∙ one w line first s left (λ more t. go (h.front ++ more) t)
          ∙ (λ j. evaluated scope left w line first (at s new) (λ more t. go (sym (append_assoc h.front (seen x ∷ []) more) j) t));
    }

    pub halts : (now new : Memory) (given : List GivenArgument) (kept : Bool) (xs : List (Arg Exp)) (a : Arg Exp) (left : List (Arg Exp)) (why : Stop)
        → xs ≡ a ∷ left → GivesOne scope a now new (Err why) → Onward now given kept xs → Halted scope all old new why
    halts now new given kept xs a left why e one h = λ w line first s go.
        at_one now given kept xs a left e h w line first s go
        ∙ one w line first s left (λ more t. go (h.front ++ more) t)

    ends : (now : Memory) (given : List GivenArgument) (kept : Bool) (xs : List (Arg Exp)) → xs ≡ []
        → (h : Onward now given kept xs) → Evaluated scope all old now h.front
    ends now given kept xs e h = λ w line first s go.
        h.goes w line first s go
        ∙ ap (λ ys. evaluated scope ys w line first (at s now) (λ more t. go (h.front ++ more) t)) e
        ∙ ap (λ ys. go ys (at s now)) (append-nil h.front)

    pub all_kept : (now : Memory) (given : List GivenArgument) (kept : Bool) (xs : List (Arg Exp)) → xs ≡ [] → kept ≡ true
        → Onward now given kept xs → Gives scope all old now (Ok (Some given))
    all_kept now given kept xs e k h = λ w line first s go.
        ends now given kept xs e h w line first s go ∙ ap (λ ys. go ys (at s now)) (h.is k)

    pub none_kept : (now : Memory) (given : List GivenArgument) (kept : Bool) (xs : List (Arg Exp)) → xs ≡ []
        → Onward now given kept xs → Gives scope all old now (Ok None)
    none_kept now given kept xs e h = (h.front, ends now given kept xs e h)

-- ---- with the values of the first pointers

-- the next argument has this value, if any
pub next_still : (values behind : List Word) (value : Option Word) (xs left : List Argument) (a : Argument) → xs ≡ a ∷ left → TakesValue values (argument_view a) value behind
    → still values xs ≡ with_value (option_map word_view value) (argument_view a) ∷ still behind left
next_still values behind value xs left a e h = ap (still values) e ∙ h (map argument_view left)

pub none_still : (values : List Word) (xs : List Argument) → xs ≡ [] → still values xs ≡ []
none_still values xs e = ap (still values) e ∙ nothing (map word_view values)
  where
    nothing : (vs : List ValueData) → given_first vs [] ≡ []
    nothing [] = refl
    nothing (v ∷ vs) = refl
