-- Parts that are gathered from the front.
use Rattle.std.specs.Prelude.{ℕ, List, [], ◌∷◌, ◌++◌, map, Option, Some, None, option_map, option_and_then}
use Rattle.ec_meaning_defs.specs.functions.Formats as of
use Rattle.ec_printf.specs.formats.Known.{part_view}
use Rattle.ec_printf.specs.declared.gathered.Gathered.{Gathered}
use Rattle.ec_printf.specs.declared.parts.Step.{Step}
use Rattle.ec_printf.specs.declared.parts.Step.TheVariants.{Ends, Fails, Next}

-- bytes that stand for themselves before these parts, if there are any
abbrev pub plain_before : List ℕ → List of.Part → List of.Part
plain_before [] ps = ps
plain_before (b ∷ bs) ps = of.before_parts (of.plain (b ∷ bs)) ps

-- a part that is no bytes that stand for themselves
abbrev pub IsDirective : of.Part → Type 0
IsDirective (of.plain bs) = ⊥
IsDirective (of.integer f wide style) = Unit {0}
IsDirective (of.character f) = Unit {0}
IsDirective (of.text f precision) = Unit {0}

-- what is there so far before these parts
abbrev pub gathered : Gathered → List of.Part → List of.Part
gathered g ps = map part_view g.parts ++ plain_before g.plain ps

-- what is there so far
abbrev pub front_of : Gathered → List of.Part
front_of g = gathered g []

-- the parts of a directive behind its `%` and of the rest of a format, of at most so many bytes
abbrev pub directed : (List of.Part → List of.Part) → ℕ → List ℕ → Option (List of.Part)
directed front n text =
    option_map front (option_and_then (λ d.
    option_map (of.before_parts d.0) (of.parts_within n d.1)) (of.directive_at text))

-- what a step leaves: the rest has at most so many bytes
abbrev pub stepped : (List of.Part → List of.Part) → ℕ → Step → Option (List of.Part)
stepped front n Ends = Some (front [])
stepped front n Fails = None
stepped front n (Next rest) = option_map front (of.parts_within n rest.now)
