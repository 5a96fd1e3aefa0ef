-- Parameters that are made with their values.
use Rattle.std.specs.Prelude.{◌≡◌, ◌+◌, ℕ, ℤ, [], ◌∷◌, ◌++◌, List, map, length, drop, Result, Ok}
use Rattle.ec_bytes.specs.declared.scalar.address.Ptr.{Ptr}
use Rattle.ec_meaning_defs.specs.evaluation.Results.{Res, given, made}
use Rattle.ec_meaning_defs.specs.evaluation.State.{State}
use Rattle.ec_memory.specs.Room.{int_cells}
use Rattle.ec_memory_defs.specs.Kinds.{kind_type}
use Rattle.ec_memory_defs.specs.declared.kind.Kind.{Kind}
use Rattle.ec_memory_defs.specs.declared.kind.Kind.TheVariants as kind
use Rattle.ec_memory_defs.specs.Memory.{Fits, Memory, ValueData, number, scalar_size, with_object}
use Rattle.ec_plain.specs.Answered.{at, scope_view}
use Rattle.ec_values.specs.declared.word.Word.{Word}
use Rattle.ec_values.specs.declared.word.Word.TheVariants as word
use Rattle.ec_machine.specs.Frames.{objects_of}
use Rattle.ec_machine.specs.Goes.{Passes}
use Rattle.ec_machine.specs.declared.scope.Scope.{Scope}
use Rattle.ec_machine.specs.declared.stop.Stop.{Stop}

-- objects of these types are made behind others, and these values are stored in them
abbrev pub with_arguments : ℕ → List Kind → List ValueData → List ℕ → State →
    (List ℕ → State → Res) → Res
with_arguments line kinds values objects s go =
    made line (map scalar_size (map kind_type kinds)) objects s (λ ps t.
    given line (map kind_type kinds) (drop (length objects) ps) values t (λ u. go ps u))

-- the type is int, and the value is a signed number that int has
pub record IsInt (k : Kind) (v : Word) (z : ℤ) : Type 0 where
  pub int : k ≡ kind.Int
  pub signed : v ≡ word.Signed z
  pub fits : Fits (kind_type kind.Int) (number z)

-- Parameters of these types are made behind the objects of a scope, with these values: what is run behind them goes on over the new scope and memory. Else the run is over as it would be there, or there was no memory.
abbrev pub MakesArguments : ℕ → List Kind → List ValueData → Result (Unit {0}) Stop →
    Memory → Scope → Memory → Scope → Type 0
MakesArguments line kinds values result store scope store_new scope_new =
    (s : State) (go : List ℕ → State → Res) → Passes result
    (with_arguments line kinds values (scope_view (objects_of scope)) (at s store) go)
    (go (scope_view (objects_of scope_new)) (at s store_new)) (at s store_new)

-- an int was made with this value, and its pointer stands behind the others
pub record HasMade (z : ℤ) (old : Memory) (before : Scope) (new : Memory) (behind : Scope) : Type 0 where
  pub pointer : Ptr
  pub made : with_object old (int_cells z) ≡ Ok (pointer.0, new)
  pub put : behind ≡ record { pointers = before.pointers ++ pointer ∷ []; count = before.count + 1 }
