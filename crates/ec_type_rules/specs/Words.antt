-- Type words by how often each stands in a list.
use Rattle.std.specs.Prelude.{ℕ, nat_eq, List, [], ◌∷◌, map, Option, Some, None, if◌then◌else◌}
use Rattle.std.specs.Cmp.Lexicographic.{pointwise}
use Rattle.ec_ctypes.specs.trees.Types.{TyData, void, arithmetic}
use Rattle.ec_language.specs.Letters.{Text}
use Rattle.ec_type_rules.specs.declared.types.words.Named.{Named}
use Rattle.ec_type_rules.specs.declared.types.words.Named.TheVariants.{Nothing, Integer}
use Rattle.ec_typing_defs.specs.Types.{occurrences, type_words}

-- how often each type word stands in a list
abbrev pub counts_in : List Text → List ℕ
counts_in ws = map (λ w. occurrences w ws) type_words

-- the type that a row of the table names
abbrev pub named_view : Named → TyData
named_view Nothing = void
named_view (Integer a) = arithmetic a

-- the first row with these counts
abbrev pub type_by_counts : List (List ℕ × Named) → List ℕ → Option TyData
type_by_counts [] counts = None
type_by_counts (r ∷ rs) counts = if pointwise nat_eq r.0 counts then Some (named_view r.1)
    else type_by_counts rs counts
