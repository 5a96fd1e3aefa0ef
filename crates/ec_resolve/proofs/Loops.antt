-- Loops over parameters and over what stands at the top level.
use Rattle.std.proofs.Common.{◌≡◌, ◌∙◌, ℕ, ◌+◌, ◌<◌, Bool, List, [], ◌∷◌, ◌++◌, append-nil, length, drop, map, get_or, Option, refl, sym, ap}
use Rattle.ec_ctypes.specs.declared.tree.unit.Param.{Param}
use Rattle.ec_ctypes.specs.declared.tree.unit.Top.{Top}
use Rattle.ec_ctypes.specs.declared.types.ty.Ty.{Ty}
use Rattle.ec_ctypes.specs.trees.Types.{TyData}
use Rattle.ec_ctypes.specs.views.Units.{param_view, top_view}
use Rattle.ec_resolve_forms.specs.declared.resolver.Resolver.{Resolver}
use Rattle.ec_resolve_forms.specs.Seen.{from, mapped, IsReached}
use Rattle.ec_resolve_forms.proofs.Following.{follow, gather, reached_as}
use Rattle.ec_resolving_defs.specs.Programs.{param, params, top_rule, tops_rule}
use Rattle.ec_resolving_defs.specs.Storage.{Reached, pure}
use Rattle.ec_scopes.specs.Entries.{type_view}
use Rattle.ec_scopes.proofs.Loops.{drop_item, one_done}
use Rattle.ec_typing_defs.specs.Worlds.{Place}

-- the same state, with another answer
mapped_as : {A B : Type 0} (f h : A → B) (r : Reached A) → f r.answer ≡ h r.answer → mapped f r ≡ mapped h r
mapped_as f h r e = λ i. record { answer = e i; storage = r.storage; world = r.world }

pub params_step : {whole : Reached (List (Option TyData))} (now : Resolver) {next : Resolver} (at : Place) (defined : Bool) (ps : List Param) (i : ℕ) (p : Param) (ts more : List (Option Ty)) (t : Option Ty)
    → i < length ps → p ≡ get_or ps i p → more ≡ ts ++ (t ∷ [])
    → whole ≡ mapped (λ rest. map type_view ts ++ rest) (from (params at defined (map param_view (drop i ps))) now)
    → IsReached (from (param at defined (param_view p)) now) next (type_view t)
    → whole ≡ mapped (λ rest. map type_view more ++ rest) (from (params at defined (map param_view (drop (i + 1) ps))) next)
params_step {whole} now {next} at defined ps i p ts more t lt is put g r =
    let rest = from (params at defined (map param_view (drop (i + 1) ps))) next in
    g ∙ ap (λ xs. mapped (λ b. map type_view ts ++ b) (from (params at defined (map param_view xs)) now)) (drop_item ps i p lt is)
    ∙ ap (mapped (λ b. map type_view ts ++ b)) (gather (param at defined (param_view p)) (λ _. params at defined (map param_view (drop (i + 1) ps))) (λ a b. a ∷ b) now r)
    ∙ mapped_as (λ b. map type_view ts ++ (type_view t ∷ b)) (λ b. map type_view more ++ b) rest (one_done type_view ts more t put rest.answer)

pub params_end : {whole : Reached (List (Option TyData))} {now : Resolver} (at : Place) (defined : Bool) (left : List Param) (ts : List (Option Ty)) → left ≡ []
    → whole ≡ mapped (λ rest. map type_view ts ++ rest) (from (params at defined (map param_view left)) now) → IsReached whole now (map type_view ts)
unfolding pure
params_end {whole} {now} at defined left ts e g =
    reached_as (sym (g ∙ ap (λ xs. mapped (λ rest. map type_view ts ++ rest) (from (params at defined (map param_view xs)) now)) e))
    (record { answer_is = sym (append-nil (map type_view ts)); storage_is = refl; world_is = refl })

pub tops_step : {whole : Reached (Unit {0})} (now : Resolver) {next : Resolver} (ts : List Top) (i : ℕ) (t : Top)
    → i < length ts → t ≡ get_or ts i t
    → whole ≡ from (tops_rule [] (map top_view (drop i ts))) now
    → IsReached (from (top_rule [] (top_view t)) now) next tt
    → whole ≡ from (tops_rule [] (map top_view (drop (i + 1) ts))) next
tops_step {whole} now {next} ts i t lt is g r =
    g ∙ ap (λ xs. from (tops_rule [] (map top_view xs)) now) (drop_item ts i t lt is)
    ∙ follow (top_rule [] (top_view t)) (λ _. tops_rule [] (map top_view (drop (i + 1) ts))) now r

pub tops_end : {whole : Reached (Unit {0})} {now : Resolver} (left : List Top) → left ≡ []
    → whole ≡ from (tops_rule [] (map top_view left)) now → IsReached whole now tt
unfolding pure
tops_end {whole} {now} left e g =
    reached_as (sym (g ∙ ap (λ xs. from (tops_rule [] (map top_view xs)) now) e)) (record { answer_is = refl; storage_is = refl; world_is = refl })
