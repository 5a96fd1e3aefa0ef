-- Arguments as the worked examples write them: a pointer is a number, and those below 100 are pointers to chars.
use Rattle.std.specs.Prelude.{ℕ, nat_lt, Bool, List, [], ◌∷◌, Option, Some, None, codes}
use Rattle.ec_ctypes.specs.declared.checked.library.Sym.{Sym}
use Rattle.ec_ctypes.specs.declared.checked.library.Sym.TheVariants as sym
use Rattle.ec_ctypes.specs.declared.checked.library.LibName.{LibName}
use Rattle.ec_ctypes.specs.declared.checked.library.LibName.TheVariants as library
use Rattle.ec_arguments.specs.Arguments.{Arg, symbol, literal, null, int_constant, long_constant, pointer, absent, Member, host, normal, Call, run, Cut}
use Rattle.ec_arguments.specs.Rules.{cut}

abbrev pub is_chars : ℕ → Bool
is_chars p = nat_lt p 100

-- a call that is cut
abbrev pub cut_of : LibName → List (Arg ℕ) → Option (Cut ℕ)
cut_of name args = cut is_chars name args

-- ten values: a symbol, a pointer, a length, a count and a distance, without indicators
abbrev pub ten : Sym → ℕ → ℕ → ℕ → ℕ → List (Arg ℕ) → List (Arg ℕ)
ten s p size count step rest =
    symbol s ∷ pointer p ∷ long_constant size ∷ long_constant count ∷ long_constant step
    ∷ symbol sym.NoIndicator ∷ null ∷ long_constant 0 ∷ long_constant 0 ∷ long_constant 0 ∷ rest

-- an int at 500, with these indicators at 700
abbrev pub told : ℕ → Sym → ℕ → ℕ → List (Arg ℕ) → List (Arg ℕ)
told count s indicators step rest =
    symbol sym.Int ∷ pointer 500 ∷ long_constant 0 ∷ long_constant count ∷ long_constant 4
    ∷ symbol s ∷ pointer 700 ∷ long_constant 0
    ∷ long_constant indicators ∷ long_constant step ∷ rest

-- a constant, and a descriptor of this name, with these three numbers
abbrev pub const : List ℕ → ℕ → ℕ → ℕ → List (Arg ℕ) → List (Arg ℕ)
const bytes size count step rest =
    symbol sym.Const ∷ literal bytes ∷ long_constant size ∷ long_constant count ∷ long_constant step
    ∷ symbol sym.NoIndicator ∷ null ∷ long_constant 0 ∷ long_constant 0 ∷ long_constant 0 ∷ rest

abbrev pub area : Arg ℕ → List (Arg ℕ) → List (Arg ℕ)
area name rest =
    symbol sym.Descriptor ∷ name ∷ long_constant 1 ∷ long_constant 1 ∷ long_constant 1
    ∷ symbol sym.NoIndicator ∷ null ∷ long_constant 0 ∷ long_constant 0 ∷ long_constant 0 ∷ rest

-- ECPGdo on line 3 over the current connection, from its inputs on
abbrev pub select : List (Arg ℕ) → Option (Cut ℕ)
select rest = cut_of library.Do
    (int_constant 3 ∷ null ∷ symbol sym.StatementNormal ∷ literal (codes "s") ∷ rest)

abbrev pub ends_inputs : List (Arg ℕ) → List (Arg ℕ)
ends_inputs rest = symbol sym.EndOfInputs ∷ rest

abbrev pub ends_outputs : List (Arg ℕ)
ends_outputs = symbol sym.EndOfOutputs ∷ []

-- with these inputs, and with these outputs
abbrev pub with_inputs : (List (Arg ℕ) → List (Arg ℕ)) → Option (Cut ℕ)
with_inputs ins = select (ins (ends_inputs ends_outputs))

abbrev pub with_outputs : (List (Arg ℕ) → List (Arg ℕ)) → Option (Cut ℕ)
with_outputs outs = select (ends_inputs (outs ends_outputs))

-- what these are cut into
abbrev pub selects : List (Member ℕ) → List (Member ℕ) → Option (Cut ℕ)
selects ins outs = Some (record { line = 3; call = run absent (normal (codes "s")) ins outs })

abbrev pub alone : Sym → ℕ → ℕ → ℕ → ℕ → Member ℕ
alone s p size count step =
    host (record { sym = s; value = p; size = size; count = count; step = step; ind = None })

abbrev pub beside : ℕ → Sym → ℕ → ℕ → Member ℕ
beside count s indicators step =
    host (record {
      sym = sym.Int;
      value = 500;
      size = 0;
      count = count;
      step = 4;
      ind = Some (record { sym = s; value = 700; count = indicators; step = step });
    })

-- a call on line 7
abbrev pub on_7 : LibName → List (Arg ℕ) → Option (Cut ℕ)
on_7 name args = cut_of name (int_constant 7 ∷ args)

abbrev pub gives_7 : Call ℕ → Option (Cut ℕ)
gives_7 call = Some (record { line = 7; call = call })
