-- What is known of sizes.
use Rattle.std.specs.Prelude.{◌<◌, ◌≤◌, ◌^◌, Bool, true, false, Option, Some, None, option_map, option_and_then, nat_le, if◌then◌else◌}
use Rattle.std.specs.Int.{next_multiple_of}
use Rattle.ec_ctypes.specs.declared.types.sizes.Shape.{Shape}
use Rattle.ec_ctypes.specs.Layout.{with_member}
use Rattle.ec_typing_defs.specs.Worlds.{max_size}
use Rattle.ec_scopes.specs.declared.measures.Measure.{Measure}
use Rattle.ec_scopes.specs.declared.measures.Measure.TheVariants.{Unknown, Within, TooLarge}

-- what is known of a size
abbrev pub measured : Option Shape → Measure
measured None = Unknown
measured (Some s) = if nat_le s.size max_size then Within s else TooLarge

-- a shape within the limit, with an alignment that some type has
pub record IsFit (s : Shape) : Type 0 where
  pub size : s.size ≤ 2 ^ 24
  pub positive : 0 < s.align
  pub align : s.align ≤ 8

abbrev pub IsSmallMeasure : Measure → Type 0
IsSmallMeasure Unknown = Unit {0}
IsSmallMeasure (Within s) = IsFit s
IsSmallMeasure TooLarge = Unit {0}

-- it is no larger than the limit, as far as is known
abbrev pub is_small : Measure → Bool
is_small Unknown = true
is_small (Within s) = true
is_small TooLarge = false

-- a shape whose size is rounded up to its alignment
abbrev pub rounded : Shape → Shape
rounded s = record { size = next_multiple_of s.size s.align; align = s.align }

-- the members so far, and one more behind them
abbrev pub joined_shape : Option Shape → Option Shape → Option Shape
joined_shape o p = option_and_then (λ before. option_map (with_member before) p) o
