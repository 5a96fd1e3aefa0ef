-- Comparing a format with the types of its arguments while it is read.
use Rattle.std.specs.Prelude.{ℕ, Bool, false, List, [], ◌∷◌, ◌++◌, map, Option, Some, None, option_map, option_and_then, if◌then◌else◌}
use Rattle.ec_ctypes.specs.declared.types.ty.Ty.{Ty}
use Rattle.ec_ctypes.specs.trees.Types.{TyData}
use Rattle.ec_ctypes.specs.views.Types.{ty_view}
use Rattle.ec_language.specs.Letters.{Text}
use Rattle.ec_typing_defs.specs.Formats.{NeedData, Needs, meets, meet_all, conversion, needs_within}
use Rattle.ec_known_calls.specs.declared.formats.Reading.{Reading}
use Rattle.ec_known_calls.specs.declared.formats.Step.{Step}
use Rattle.ec_known_calls.specs.declared.formats.Step.TheVariants.{Done, Next}

-- the types of arguments, of which some have none
abbrev pub Types : Type 0
Types = List (Option TyData)

abbrev pub types_view : List (Option Ty) → Types
types_view ts = map (option_map ty_view) ts

-- what is left behind an argument that is needed, if the first is one
abbrev pub taken_one : NeedData → Types → Option Types
taken_one n [] = None
taken_one n (None ∷ ts) = Some ts
taken_one n (Some t ∷ ts) = if meets n t then Some ts else None

-- what is left behind all that are needed
abbrev pub taken : Needs → Types → Option Types
taken [] ts = Some ts
taken (n ∷ ns) ts = option_and_then (taken ns) (taken_one n ts)

-- whether these types are what is needed
abbrev pub met_by : Types → Option Needs → Bool
met_by ts None = false
met_by ts (Some ns) = meet_all ns ts

-- the needs of what stands behind a `%`, of at most so many bytes behind its conversion
abbrev pub conversion_needs : ℕ → Text → Option Needs
conversion_needs n bs =
    option_and_then (λ p. option_map (λ more. p.0 ++ more) (needs_within n p.1)) (conversion bs)

-- whether the rest of a format, of at most so many bytes, needs the types that are left
abbrev pub is_met : ℕ → Reading → Bool
is_met n r = met_by (types_view r.types.now) (needs_within n r.format.now)

-- what a step answers, or what is so behind it
abbrev pub stepped : (Reading → Bool) → Step → Bool
stepped behind (Done answer) = answer
stepped behind (Next r) = behind r
