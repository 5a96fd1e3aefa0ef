-- What holds of the objects of VARCHARs, whose structs have tags, and of their array lengths but for the last.
use Rattle.std.specs.Prelude.{◌≡◌, ℕ, true, Some}
use Rattle.ec_ctypes.specs.trees.Exprs.{DimList}
use Rattle.ec_expansion_defs.specs.Declarations.{varchar_tag, varchar_struct, last_dim, outer_dims, written_dims}
use Rattle.ec_language.specs.Letters.{Text}
use Rattle.ec_host_defs.specs.sections.Lengths.{ends_in_length}
use Rattle.ec_typing_defs.specs.Worlds.{Place, chain as check_chain}
use Rattle.ec_typing_defs.specs.Expressions as checked
use Rattle.ec_typing_defs.specs.Expressions.{varchar_object}
use Rattle.ec_resolving_defs.specs.Agreement.{itself}
use Rattle.ec_resolving_defs.specs.Expressions.{base, lengths, last_length, outer_lengths}
use Rattle.ec_resolving_defs.specs.Storage.{chain, checks}
use Rattle.ec_sim_statement_laws.specs.expression.Alike.{IsAlike}
use Rattle.ec_sim_statement_laws.specs.expression.Lengths.{DimsHaveLengths}
use Rattle.ec_sim_statement_laws.specs.expression.Silent.{Nothing}

-- The struct of a VARCHAR of this name is the type that its declaration begins with where it is written.
abbrev pub VarcharObjectsAreAlike : Type 0
VarcharObjectsAreAlike = (at there : Place) (n : ℕ) (name : Text) (ds : DimList)
    → ends_in_length ds ≡ true
    → IsAlike Nothing itself
    (check_chain (checked.last_length at ds) (λ c. varchar_object at name c))
    (checked.base there (varchar_struct n (Some (varchar_tag name)) (last_dim (written_dims n ds))))
    (chain (last_length at ds) (λ c. checks (varchar_object at name c)))
    (base there (varchar_struct n (Some (varchar_tag name)) (last_dim (written_dims n ds))))

abbrev pub OuterLengthsAreAlike : Type 0
OuterLengthsAreAlike = (at there : Place) (n : ℕ) (ds : DimList) → DimsHaveLengths ds
    → IsAlike Nothing itself (checked.outer_lengths at ds)
    (checked.lengths there (outer_dims (written_dims n ds)))
    (outer_lengths at ds) (lengths there (outer_dims (written_dims n ds)))
