-- Loops over declarators.
use Rattle.std.proofs.Common.{◌≡◌, ◌∙◌, ℕ, ◌+◌, ◌<◌, Bool, List, ◌++◌, length, drop, get_or, Option, sym, ap, append_assoc}
use Rattle.ec_code.specs.declared.statement.Statement.{Statement}
use Rattle.ec_ctypes.specs.declared.tree.decl.Declarator.{Declarator}
use Rattle.ec_ctypes.specs.trees.Types.{TyData}
use Rattle.ec_ctypes.specs.views.Exprs.{declarator_view, declarators_view}
use Rattle.ec_resolve_expressions.proofs.Steps.{mapped_as}
use Rattle.ec_resolve_forms.specs.declared.resolver.Resolver.{Resolver}
use Rattle.ec_resolve_forms.specs.Seen.{from, mapped, IsReached}
use Rattle.ec_resolve_forms.proofs.Following.{gather}
use Rattle.ec_meaning_defs.specs.resolved.Resolved.{Stm}
use Rattle.ec_resolving_defs.specs.Statements.{object_item, object_items}
use Rattle.ec_resolving_defs.specs.Storage.{Reached}
use Rattle.ec_scopes.proofs.Loops.{drop_item}
use Rattle.ec_typing_defs.specs.Worlds.{Place}
use Rattle.ec_resolve_parts.specs.Made.{listed_view, made_view}

pub items_step : {whole : Reached (List Stm)} (now : Resolver) {next : Resolver} (at : Place) (global v : Bool) (ty : Option TyData) (ds : List Declarator) (i : ℕ) (d : Declarator) (ss more : List Statement) (x : Option Statement)
    → i < length ds → d ≡ get_or ds i d → listed_view more ≡ listed_view ss ++ made_view x
    → whole ≡ mapped (λ rest. listed_view ss ++ rest) (from (object_items at global v ty (declarators_view (drop i ds))) now)
    → IsReached (from (object_item at global v ty (declarator_view d)) now) next (made_view x)
    → whole ≡ mapped (λ rest. listed_view more ++ rest) (from (object_items at global v ty (declarators_view (drop (i + 1) ds))) next)
items_step {whole} now {next} at global v ty ds i d ss more x lt is put g p =
    let rest = from (object_items at global v ty (declarators_view (drop (i + 1) ds))) next in
    g ∙ ap (λ xs. mapped (λ b. listed_view ss ++ b) (from (object_items at global v ty (declarators_view xs)) now)) (drop_item ds i d lt is)
    ∙ ap (mapped (λ b. listed_view ss ++ b)) (gather (object_item at global v ty (declarator_view d)) (λ _. object_items at global v ty (declarators_view (drop (i + 1) ds))) (λ a b. a ++ b) now p)
    ∙ mapped_as (λ b. listed_view ss ++ (made_view x ++ b)) (λ b. listed_view more ++ b) rest (sym (ap (λ l. l ++ rest.answer) put ∙ append_assoc (listed_view ss) (made_view x) rest.answer))
