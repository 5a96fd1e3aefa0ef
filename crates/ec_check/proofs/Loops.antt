-- Loops over declarators, statements, parameters and the top level.
use Rattle.std.proofs.Common.{◌≡◌, ℕ, ◌+◌, ◌<◌, Bool, List, [], ◌∷◌, ◌++◌, length, drop, map, get_or, Option, ap}
use Rattle.ec_ctypes.specs.declared.tree.decl.Declarator.{Declarator}
use Rattle.ec_ctypes.specs.declared.tree.stmt.Stmt.{Stmt}
use Rattle.ec_ctypes.specs.declared.tree.unit.Param.{Param}
use Rattle.ec_ctypes.specs.declared.tree.unit.Top.{Top}
use Rattle.ec_ctypes.specs.declared.types.ty.Ty.{Ty}
use Rattle.ec_ctypes.specs.trees.Types.{TyData}
use Rattle.ec_ctypes.specs.trees.Embedded.{EmbData}
use Rattle.ec_ctypes.specs.views.Exprs.{declarator_view, declarators_view}
use Rattle.ec_ctypes.specs.views.Stmts.{stmt_view, stmts_view}
use Rattle.ec_ctypes.specs.views.Units.{param_view, top_view}
use Rattle.ec_language.specs.First.{Violation}
use Rattle.ec_typing_defs.specs.Worlds.{Place, Out}
use Rattle.ec_typing_defs.specs.Statements.{Around, object_item, object_items, statement, statements}
use Rattle.ec_typing_defs.specs.Programs.{param, params, top_rule, tops_rule}
use Rattle.ec_scopes.specs.declared.state.Checker.{Checker}
use Rattle.ec_scopes.specs.Entries.{type_view}
use Rattle.ec_scopes.specs.Seen.{world_of, notes_of, IsDone}
use Rattle.ec_scopes.proofs.Loops.{drop_item, one_done}
use Rattle.ec_scopes.proofs.Steps.{Goes, goes_step, goes_gather, goes_from, goes_as}

pub objects_step : {whole : Out (Unit {0})} {old : Option Violation} {now next : Checker} (at : Place) (global is_varchar : Bool) (ty : Option TyData) (ds : List Declarator) (i : ℕ) (d : Declarator)
    → i < length ds → d ≡ get_or ds i d
    → Goes whole old (object_items at global is_varchar ty (declarators_view (drop i ds)) (world_of now)) (notes_of now) (λ u. u)
    → IsDone (object_item at global is_varchar ty (declarator_view d) (world_of now)) now next tt
    → Goes whole old (object_items at global is_varchar ty (declarators_view (drop (i + 1) ds)) (world_of next)) (notes_of next) (λ u. u)
objects_step {whole} {old} {now} at global is_varchar ty ds i d lt is g p =
    goes_step _ (λ _. object_items at global is_varchar ty (declarators_view (drop (i + 1) ds))) _ (goes_from (ap (λ xs. object_items at global is_varchar ty (declarators_view xs) (world_of now)) (drop_item ds i d lt is)) g) p

pub stmts_step : {whole : Out (Unit {0})} {old : Option Violation} {now next : Checker} (a : Around) (ss : List Stmt) (i : ℕ) (s : Stmt)
    → i < length ss → s ≡ get_or ss i s
    → Goes whole old (statements a (stmts_view (drop i ss)) (world_of now)) (notes_of now) (λ u. u)
    → IsDone (statement a (stmt_view s) (world_of now)) now next tt
    → Goes whole old (statements a (stmts_view (drop (i + 1) ss)) (world_of next)) (notes_of next) (λ u. u)
stmts_step {whole} {old} {now} a ss i s lt is g p =
    goes_step _ (λ _. statements a (stmts_view (drop (i + 1) ss))) _ (goes_from (ap (λ xs. statements a (stmts_view xs) (world_of now)) (drop_item ss i s lt is)) g) p

pub params_step : {whole : Out (List (Option TyData))} {old : Option Violation} {now next : Checker} (at : Place) (defined : Bool) (ps : List Param) (i : ℕ) (p : Param) (ts more : List (Option Ty)) (t : Option Ty)
    → i < length ps → p ≡ get_or ps i p → more ≡ ts ++ (t ∷ [])
    → Goes whole old (params at defined (map param_view (drop i ps)) (world_of now)) (notes_of now) (λ rest. map type_view ts ++ rest)
    → IsDone (param at defined (param_view p) (world_of now)) now next (type_view t)
    → Goes whole old (params at defined (map param_view (drop (i + 1) ps)) (world_of next)) (notes_of next) (λ rest. map type_view more ++ rest)
params_step {whole} {old} {now} at defined ps i p ts more t lt is put g h =
    goes_as _ _ _ (one_done type_view ts more t put) (goes_gather _ (λ _. params at defined (map param_view (drop (i + 1) ps))) (λ a b. a ∷ b) _
    (goes_from (ap (λ xs. params at defined (map param_view xs) (world_of now)) (drop_item ps i p lt is)) g) h)

pub tops_step : {whole : Out (Unit {0})} {old : Option Violation} {now next : Checker} (es : List EmbData) (ts : List Top) (i : ℕ) (t : Top)
    → i < length ts → t ≡ get_or ts i t
    → Goes whole old (tops_rule es (map top_view (drop i ts)) (world_of now)) (notes_of now) (λ u. u)
    → IsDone (top_rule es (top_view t) (world_of now)) now next tt
    → Goes whole old (tops_rule es (map top_view (drop (i + 1) ts)) (world_of next)) (notes_of next) (λ u. u)
tops_step {whole} {old} {now} es ts i t lt is g h =
    goes_step _ (λ _. tops_rule es (map top_view (drop (i + 1) ts))) _ (goes_from (ap (λ xs. tops_rule es (map top_view xs) (world_of now)) (drop_item ts i t lt is)) g) h
