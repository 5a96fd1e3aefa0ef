-- What sound parts lead to, and steps that serve.
use Rattle.std.specs.Prelude.{◌≡◌, ℕ, Bool, true, false, List, length, replicate, slice_get, Option, Some}
use Rattle.ec_memory_defs.specs.Memory.{ValueData}
use Rattle.ec_meaning_defs.specs.resolved.Labels.{holds_any}
use Rattle.ec_meaning_defs.specs.resolved.Resolved.{Exp, embedded, library, named, Stm, Stms}
use Rattle.ec_meaning_defs.specs.evaluation.State.{State, Ending, exited, trapped, turns_spent, waits, stuck}
use Rattle.ec_meaning_defs.specs.evaluation.Results.{Res, value, on, broke, continued, went, back, over}
use Rattle.ec_meaning_defs.specs.evaluation.Evaluate.{Context, calls, turn_of, look_for, World, Step}
use Rattle.ec_sound_defs.specs.Sorts.{Sort, number_sort, address_sort, OfSort, OfSorts}
use Rattle.ec_sound_defs.specs.Sound.{Signature, Around, Atoms, MayReturn, MayEnd, HasOption, Sound, SoundAll, looping}

abbrev pub IsNotStuck : Ending → Type 0
IsNotStuck (exited n) = Unit {0}
IsNotStuck (trapped t line) = Unit {0}
IsNotStuck turns_spent = Unit {0}
IsNotStuck (waits slot request) = Unit {0}
IsNotStuck stuck = ⊥

-- what an expression of this sort leads to
abbrev pub Gives : Sort → Res → Type 0
Gives k (value v s) = OfSort k v
Gives k (on s) = ⊥
Gives k (broke s) = ⊥
Gives k (continued s) = ⊥
Gives k (went l s) = ⊥
Gives k (back v s) = ⊥
Gives k (over e s) = IsNotStuck e

-- what a call of a function leads to
abbrev pub Answers : Sort → Res → Type 0
Answers k (value v s) = ⊥
Answers k (on s) = ⊥
Answers k (broke s) = ⊥
Answers k (continued s) = ⊥
Answers k (went l s) = ⊥
Answers k (back v s) = MayEnd k v
Answers k (over e s) = IsNotStuck e

-- what a call of the library leads to
abbrev pub Goes : Res → Type 0
Goes (value v s) = ⊥
Goes (on s) = Unit {0}
Goes (broke s) = ⊥
Goes (continued s) = ⊥
Goes (went l s) = ⊥
Goes (back v s) = ⊥
Goes (over e s) = IsNotStuck e

-- what a statement leads to. The first `main` never goes back
abbrev pub Leads : Bool → Around → Res → Type 0
Leads first a (value v s) = ⊥
Leads first a (on s) = Unit {0}
Leads first a (broke s) = a.breaks ≡ true
Leads first a (continued s) = a.loops ≡ true
Leads first a (went l s) = holds_any (named l) a.body ≡ true
Leads first a (back v s) = (first ≡ false) × MayReturn a.gives v
Leads first a (over e s) = IsNotStuck e

-- what statements lead to that answer each jump to a label in them
abbrev pub Settled : Bool → Around → Stms → Res → Type 0
Settled first a b (value v s) = ⊥
Settled first a b (on s) = Unit {0}
Settled first a b (broke s) = a.breaks ≡ true
Settled first a b (continued s) = a.loops ≡ true
Settled first a b (went l s) = (holds_any (named l) a.body ≡ true) × (holds_any (named l) b ≡ false)
Settled first a b (back v s) = (first ≡ false) × MayReturn a.gives v
Settled first a b (over e s) = IsNotStuck e

-- the objects in scope are as many as there should be, and the first `main` gives a number
pub record Stands (c : Context) (a : Around) : Type 0 where
  pub objects : length c.objects ≡ a.count
  pub first : c.first ≡ true → a.gives ≡ number_sort

-- each call of a function that is there, with as many arguments as it takes, gives what it should
abbrev pub CallsAnswer : List Signature → World → Type 0
CallsAnswer signatures w =
    (line f : ℕ) (g : Signature) (vs : List ValueData) → slice_get signatures f ≡ Some g
    → length vs ≡ g.takes → (s : State) → Answers g.gives (w (calls line f vs) s)

-- each call of the library goes on, or is over
abbrev pub LibrariesGo : Atoms → Step → World → Type 0
LibrariesGo atoms step w =
    (c : Context) (n m : ℕ) → atoms.calls (length c.objects) n m → (vs : List ValueData)
    → OfSorts (replicate m address_sort) vs → (s : State) → Goes (step w c (library n vs) s)

module _ (signatures : List Signature) (atoms : Atoms) where
  -- each task leads where it should
  pub record SoundWorld (w : World) : Type 0 where
    pub called : CallsAnswer signatures w
    pub looped : (a : Around) (c : Context) → Stands c a → (test behind : Option Exp) (x : Stm)
        → HasOption signatures atoms a.count test → HasOption signatures atoms a.count behind
        → Sound signatures atoms (looping a) x → (s : State)
        → Leads c.first a (w (turn_of c test behind x) s)
    pub looked : (a : Around) (c : Context) → Stands c a → (l : ℕ) (b : Stms)
        → SoundAll signatures atoms a b → (s : State)
        → Settled c.first a b (w (look_for c l b) s)

  -- A step serves that is never stuck where the atoms stand, whenever no task is
  pub record Serves (step : Step) : Type 0 where
    pub embeds : (w : World) → SoundWorld w → (a : Around) (c : Context) → Stands c a
        → (n : ℕ) → atoms.embeds a n → (s : State)
        → Leads c.first a (step w c (embedded n) s)
    pub libraries : (w : World) → SoundWorld w → LibrariesGo atoms step w
