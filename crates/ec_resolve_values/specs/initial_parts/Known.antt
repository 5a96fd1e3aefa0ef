-- What is known of values before the program runs, step by step.
use Rattle.std.specs.Prelude.{ℕ, ◌*◌, ◌^◌, List, [], ◌∷◌, Option, None, option_map, pos, ℤ, unsigned_abs}
use Rattle.std.specs.Int.{int_rem_euclid}
use Rattle.ec_code.specs.Trees.{Step, one, two}
use Rattle.ec_code.specs.declared.step.Unary.{Unary}
use Rattle.ec_code.specs.declared.step.Unary.TheVariants as unary
use Rattle.ec_memory_defs.specs.Kinds.{kind_type}
use Rattle.ec_memory_defs.specs.Memory.{ValueData, ScalarType, scalar_size}
use Rattle.ec_meaning_defs.specs.resolved.Operations.{value_as}

-- the value behind a step: a conversion keeps it known
abbrev pub known_behind : Option ValueData → Unary → Option ValueData
known_behind v (unary.Member offset) = None
known_behind v (unary.Load kind) = None
known_behind v (unary.Whole size) = None
known_behind v (unary.Put bytes) = None
known_behind v (unary.Convert from to) = option_map (value_as (kind_type to)) v
known_behind v (unary.Negate t) = None
known_behind v (unary.Flip t) = None
known_behind v unary.Not = None

abbrev pub known_stepped : Option ValueData → Step → Option ValueData
known_stepped v (one u) = known_behind v u
known_stepped v (two b a) = None

abbrev pub known_walked : Option ValueData → List Step → Option ValueData
known_walked v [] = v
known_walked v (s ∷ ss) = known_walked (known_stepped v s) ss

-- the number that the low bytes of a number are, as many as the type has
abbrev pub low_part : ScalarType → ℤ → ℕ
low_part s z = unsigned_abs (int_rem_euclid z (pos (2 ^ (8 * scalar_size s))))
