-- The loop over the types of parameters.
use Rattle.std.proofs.Common.{◌≡◌, ◌∙◌, ℕ, ◌+◌, ◌<◌, List, [], ◌∷◌, ◌++◌, length, take, map, get_or, Option, sym, ap}
use Rattle.std.proofs.lemmas.List.{map_more, map-append}
use Rattle.ec_ctypes.specs.declared.types.ty.Ty.{Ty}
use Rattle.ec_memory_defs.specs.declared.kind.Kind.{Kind}
use Rattle.ec_memory_defs.specs.Kinds.{kind_type}
use Rattle.ec_resolving_defs.specs.Programs.{parameter_kind}
use Rattle.ec_scopes.specs.Entries.{type_view}

-- one parameter more, by its scalar type
pub kinds_step : (ks more : List Kind) (k : Kind) (ts : List (Option Ty)) (i : ℕ) (t : Option Ty) → i < length ts → t ≡ get_or ts i t → more ≡ ks ++ (k ∷ []) → kind_type k ≡ parameter_kind (type_view t)
    → map kind_type ks ≡ map parameter_kind (map type_view (take i ts)) → map kind_type more ≡ map parameter_kind (map type_view (take (i + 1) ts))
kinds_step ks more k ts i t lt is put e g =
    ap (map kind_type) put ∙ map-append kind_type ks (k ∷ [])
    ∙ (λ j. g j ++ (e j ∷ []))
    ∙ ap (λ y. map parameter_kind (map type_view (take i ts)) ++ (parameter_kind (type_view y) ∷ [])) is
    ∙ sym (map-append parameter_kind (map type_view (take i ts)) (type_view (get_or ts i t) ∷ []))
    ∙ ap (map parameter_kind) (sym (map_more type_view ts i t lt))
