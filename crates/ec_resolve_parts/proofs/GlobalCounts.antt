-- How many globals a program declares, and its functions.
use Rattle.std.proofs.Common.{◌≡◌, ◌∙◌, arith, ℕ, ◌+◌, ◌<◌, List, ◌∷◌, length, drop, map, get_or, refl, sym, ap}
use Rattle.ec_ctypes.specs.declared.tree.decl.Decl.{Decl}
use Rattle.ec_ctypes.specs.declared.tree.decl.Decl as tree
use Rattle.ec_ctypes.specs.declared.tree.unit.Top.{Top}
use Rattle.ec_ctypes.specs.trees.Units.{TopData, include_top, directive_top, decl_top, func_top, mark_top}
use Rattle.ec_ctypes.specs.views.Exprs.{decl_view}
use Rattle.ec_ctypes.specs.views.Units.{top_view}
use Rattle.ec_resolving_defs.specs.Programs.{globals_in, globals_of_decl}
use Rattle.ec_scopes.proofs.Loops.{drop_item}
use Rattle.ec_walk.proofs.Trees.{decl_seen}
use Rattle.ec_resolve_parts.specs.Counting.{globals_of}
use Rattle.ec_resolve_parts.proofs.Lengths.{declarators_counted}

-- the declarators of a declaration
pub decl_counted : (d : Decl) → length (tree.out-Decl d).items ≡ globals_of_decl (decl_view d)
decl_counted d = declarators_counted (tree.out-Decl d).items ∙ ap globals_of_decl (sym (decl_seen d))

first_counted : (t : TopData) (ts : List TopData) → globals_in (t ∷ ts) ≡ globals_of t + globals_in ts
first_counted (include_top bytes) ts = omega arith
first_counted (directive_top n) ts = omega arith
first_counted (decl_top d) ts = refl
first_counted (func_top f) ts = omega arith
first_counted (mark_top opens line) ts = omega arith

-- one of them is counted
pub one_counted : (ts : List Top) (i : ℕ) (t : Top) (n m whole : ℕ) → i < length ts → t ≡ get_or ts i t → m ≡ globals_of (top_view t)
    → n + globals_in (map top_view (drop i ts)) ≡ whole → (n + m) + globals_in (map top_view (drop (i + 1) ts)) ≡ whole
one_counted ts i t n m whole lt is e g =
    let step : globals_in (map top_view (drop i ts)) ≡ globals_of (top_view t) + globals_in (map top_view (drop (i + 1) ts)) =
    ap (λ xs. globals_in (map top_view xs)) (drop_item ts i t lt is) ∙ first_counted (top_view t) (map top_view (drop (i + 1) ts)) in
    omega (arith, step, e, g)
