-- Whether two requests are one and the same.
use Rattle.std.specs.Prelude.{ℕ, ◌&&◌, nat_eq, Bool, true, false, List, Option}
use Rattle.std.specs.Option.{option_eq}
use Rattle.std.specs.Cmp.Lexicographic.{pointwise}
use Rattle.ec_link.specs.declared.request.Request.{Request}
use Rattle.ec_link.specs.declared.request.Request.TheVariants.{Connect, Text, Prepare, Exec, Deallocate, Close}

-- byte for byte
abbrev pub same_text : List ℕ → List ℕ → Bool
same_text = pointwise nat_eq

-- both absent, or both the same text
abbrev pub same_field : Option (List ℕ) → Option (List ℕ) → Bool
same_field = option_eq same_text

-- field by field
abbrev pub same_fields : List (Option (List ℕ)) → List (Option (List ℕ)) → Bool
same_fields = pointwise same_field

-- requests of one kind, part by part
abbrev pub is_same : Request → Request → Bool
is_same (Connect target user password) (Connect other name word) =
    same_text target other && (same_field user name && same_field password word)
is_same (Text text params) (Text other fields) = same_text text other && same_fields params fields
is_same (Prepare name text) (Prepare other words) = same_text name other && same_text text words
is_same (Exec name params) (Exec other fields) = same_text name other && same_fields params fields
is_same (Deallocate name) (Deallocate other) = same_text name other
is_same Close Close = true
is_same _ _ = false
