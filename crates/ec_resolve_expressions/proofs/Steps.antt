-- Loops over the parts of trees.
use Rattle.std.proofs.Common.{◌≡◌, ◌∙◌, ℕ, ◌+◌, ◌-◌, ◌<◌, ◌≤◌, Bool, List, [], ◌∷◌, ◌++◌, length, take, drop, map, get_or, Option, suc, refl, sym, ap, subst, arith}
use Rattle.std.proofs.lemmas.List.{append-nil, drop_all}
use Rattle.ec_ctypes.specs.declared.tree.decl.Decl.{Decl}
use Rattle.ec_ctypes.specs.declared.tree.decl.Declarator.{Declarator}
use Rattle.ec_ctypes.specs.declared.tree.decl.Init.{Init}
use Rattle.ec_ctypes.specs.declared.tree.expr.Expr.{Expr}
use Rattle.ec_ctypes.specs.trees.Types.{TyData}
use Rattle.ec_ctypes.specs.views.Exprs.{expr_view, exprs_view, dim_of, dims_view, expr_option_view, inits_view, init_view, decl_view, decls_view, declarator_view, declarators_view}
use Rattle.ec_resolve_forms.specs.declared.found.Found.{Found}
use Rattle.ec_resolve_forms.specs.declared.resolver.Resolver.{Resolver}
use Rattle.ec_resolve_forms.specs.Seen.{found_view, from, mapped, IsReached}
use Rattle.ec_resolve_forms.proofs.Following.{follow, gather, reached_as}
use Rattle.ec_resolving_defs.specs.Expressions.{args, lengths, length_at, last_length, outer_lengths, members, member_decl, member_items, member_item, init_exprs, all_init_exprs}
use Rattle.ec_resolving_defs.specs.Operands as of
use Rattle.ec_resolving_defs.specs.Storage.{Reached, Resolving, chain, pure, checks}
use Rattle.ec_scopes.specs.Seen.{world_of, IsDone}
use Rattle.ec_resolve_values.specs.storage.Stored.{storage_of}
use Rattle.ec_scopes.proofs.Loops.{drop_item, one_done, one_more}
use Rattle.ec_typing_defs.specs.Expressions.{Members}
use Rattle.ec_typing_defs.specs.Known.{ArgumentsData, behind_first_argument}
use Rattle.ec_typing_defs.specs.Worlds.{Place, Rule}
use Rattle.ec_walk.specs.Dims.{last_length_of}
use Rattle.ec_resolve_expressions.specs.Behind.{argument}

-- the same state, with another answer
pub mapped_as : {A B : Type 0} (f h : A → B) (r : Reached A) → f r.answer ≡ h r.answer → mapped f r ≡ mapped h r
mapped_as f h r e = λ i. record { answer = e i; storage = r.storage; world = r.world }

-- nothing is left
ended : {A : Type 0} {whole : Reached A} {now : Resolver} (x : A) → whole ≡ from (pure x) now → IsReached whole now x
unfolding pure
ended x e = reached_as (sym e) (record { answer_is = refl; storage_is = refl; world_is = refl })

all_gathered : {A : Type 0} {whole : Reached (List A)} {now : Resolver} (xs : List A) → whole ≡ mapped (λ rest. xs ++ rest) (from (pure []) now) → IsReached whole now xs
unfolding pure
all_gathered xs e = reached_as (sym e) (record { answer_is = sym (append-nil xs); storage_is = refl; world_is = refl })

-- a rule of the checks was followed
pub checks_reached : {A : Type 0} (m : Rule A) (old new : Resolver) {x : A} → IsDone (m (world_of old.checker)) old.checker new.checker x → storage_of new.storage ≡ storage_of old.storage → IsReached (from (checks m) old) new x
unfolding checks
checks_reached m old new d e = record { answer_is = d.answer_is; storage_is = e; world_is = d.world_is }

pub args_step : {whole : Reached (List of.Found)} (now : Resolver) {next : Resolver} (at : Place) (forms after : ArgumentsData) (es : List Expr) (i : ℕ) (e : Expr) (fs more : List Found) (x : Found)
    → i < length es → e ≡ get_or es i e → more ≡ fs ++ (x ∷ []) → after ≡ behind_first_argument forms
    → whole ≡ mapped (λ rest. map found_view fs ++ rest) (from (args at forms (exprs_view (drop i es))) now)
    → IsReached (from (argument at forms (expr_view e)) now) next (found_view x)
    → whole ≡ mapped (λ rest. map found_view more ++ rest) (from (args at after (exprs_view (drop (i + 1) es))) next)
args_step {whole} now {next} at forms after es i e fs more x lt is put f g p =
    let rest = from (args at (behind_first_argument forms) (exprs_view (drop (i + 1) es))) next in
    g ∙ ap (λ xs. mapped (λ b. map found_view fs ++ b) (from (args at forms (exprs_view xs)) now)) (drop_item es i e lt is)
    ∙ ap (mapped (λ b. map found_view fs ++ b)) (gather (argument at forms (expr_view e)) (λ _. args at (behind_first_argument forms) (exprs_view (drop (i + 1) es))) (λ a b. a ∷ b) now p)
    ∙ mapped_as (λ b. map found_view fs ++ (found_view x ∷ b)) (λ b. map found_view more ++ b) rest (one_done found_view fs more x put rest.answer)
    ∙ ap (λ a. mapped (λ b. map found_view more ++ b) (from (args at a (exprs_view (drop (i + 1) es))) next)) (sym f)

pub lengths_step : {whole : Reached (List (Option ℕ))} (now : Resolver) {next : Resolver} (at : Place) (ds : List (Option Expr)) (i : ℕ) (d : Option Expr) (ns more : List (Option ℕ)) (n : Option ℕ)
    → i < length ds → d ≡ get_or ds i d → more ≡ ns ++ (n ∷ [])
    → whole ≡ mapped (λ rest. ns ++ rest) (from (lengths at (dims_view (drop i ds))) now)
    → IsReached (from (length_at at (dim_of (expr_option_view d))) now) next n
    → whole ≡ mapped (λ rest. more ++ rest) (from (lengths at (dims_view (drop (i + 1) ds))) next)
lengths_step {whole} now {next} at ds i d ns more n lt is put g p =
    let rest = from (lengths at (dims_view (drop (i + 1) ds))) next in
    g ∙ ap (λ xs. mapped (λ b. ns ++ b) (from (lengths at (dims_view xs)) now)) (drop_item ds i d lt is)
    ∙ ap (mapped (λ b. ns ++ b)) (gather (length_at at (dim_of (expr_option_view d))) (λ _. lengths at (dims_view (drop (i + 1) ds))) (λ a b. a ∷ b) now p)
    ∙ mapped_as (λ b. ns ++ (n ∷ b)) (λ b. more ++ b) rest (one_more ns more n put rest.answer)

pub members_step : {whole : Reached Members} (now : Resolver) {next : Resolver} (ds : List Decl) (i : ℕ) (d : Decl) (ms : Members) {more : Members}
    → i < length ds → d ≡ get_or ds i d
    → whole ≡ from (members (decls_view (drop i ds)) ms) now
    → IsReached (from (member_decl (decl_view d) ms) now) next more
    → whole ≡ from (members (decls_view (drop (i + 1) ds)) more) next
members_step {whole} now ds i d ms lt is g p =
    g ∙ ap (λ xs. from (members (decls_view xs) ms) now) (drop_item ds i d lt is) ∙ follow (member_decl (decl_view d) ms) (members (decls_view (drop (i + 1) ds))) now p

pub items_step : {whole : Reached Members} (now : Resolver) {next : Resolver} (at : Place) (v : Bool) (ty : Option TyData) (ds : List Declarator) (i : ℕ) (d : Declarator) (ms : Members) {more : Members}
    → i < length ds → d ≡ get_or ds i d
    → whole ≡ from (member_items at v ty (declarators_view (drop i ds)) ms) now
    → IsReached (from (member_item at v ty (declarator_view d) ms) now) next more
    → whole ≡ from (member_items at v ty (declarators_view (drop (i + 1) ds)) more) next
items_step {whole} now at v ty ds i d ms lt is g p =
    g ∙ ap (λ xs. from (member_items at v ty (declarators_view xs) ms) now) (drop_item ds i d lt is) ∙ follow (member_item at v ty (declarator_view d) ms) (member_items at v ty (declarators_view (drop (i + 1) ds))) now p

pub inits_step : {whole : Reached (Unit {0})} (now : Resolver) {next : Resolver} (at : Place) (is : List Init) (i : ℕ) (x : Init)
    → i < length is → x ≡ get_or is i x
    → whole ≡ from (all_init_exprs at (inits_view (drop i is))) now
    → IsReached (from (init_exprs at (init_view x)) now) next tt
    → whole ≡ from (all_init_exprs at (inits_view (drop (i + 1) is))) next
inits_step {whole} now at is i x lt e g p =
    g ∙ ap (λ xs. from (all_init_exprs at (inits_view xs)) now) (drop_item is i x lt e) ∙ follow (init_exprs at (init_view x)) (λ _. all_init_exprs at (inits_view (drop (i + 1) is))) now p

-- ---- nothing is left of them

pub args_end : {whole : Reached (List of.Found)} {now : Resolver} (at : Place) (forms : ArgumentsData) (es : List Expr) (i : ℕ) (fs : List Found) → length es ≤ i
    → whole ≡ mapped (λ rest. map found_view fs ++ rest) (from (args at forms (exprs_view (drop i es))) now) → IsReached whole now (map found_view fs)
args_end {whole} {now} at forms es i fs le g = all_gathered (map found_view fs) (g ∙ ap (λ xs. mapped (λ rest. map found_view fs ++ rest) (from (args at forms (exprs_view xs)) now)) (drop_all i es le))

pub lengths_end : {whole : Reached (List (Option ℕ))} {now : Resolver} (at : Place) (ds : List (Option Expr)) (i : ℕ) (ns : List (Option ℕ)) → length ds ≤ i
    → whole ≡ mapped (λ rest. ns ++ rest) (from (lengths at (dims_view (drop i ds))) now) → IsReached whole now ns
lengths_end {whole} {now} at ds i ns le g = all_gathered ns (g ∙ ap (λ xs. mapped (λ rest. ns ++ rest) (from (lengths at (dims_view xs)) now)) (drop_all i ds le))

pub members_end : {whole : Reached Members} {now : Resolver} (ds : List Decl) (i : ℕ) (ms : Members) → length ds ≤ i
    → whole ≡ from (members (decls_view (drop i ds)) ms) now → IsReached whole now ms
members_end {whole} {now} ds i ms le g = ended ms (g ∙ ap (λ xs. from (members (decls_view xs) ms) now) (drop_all i ds le))

pub items_end : {whole : Reached Members} {now : Resolver} (at : Place) (v : Bool) (ty : Option TyData) (ds : List Declarator) (i : ℕ) (ms : Members) → length ds ≤ i
    → whole ≡ from (member_items at v ty (declarators_view (drop i ds)) ms) now → IsReached whole now ms
items_end {whole} {now} at v ty ds i ms le g = ended ms (g ∙ ap (λ xs. from (member_items at v ty (declarators_view xs) ms) now) (drop_all i ds le))

pub inits_end : {whole : Reached (Unit {0})} {now : Resolver} (at : Place) (is : List Init) (i : ℕ) → length is ≤ i
    → whole ≡ from (all_init_exprs at (inits_view (drop i is))) now → IsReached whole now tt
inits_end {whole} {now} at is i le g = ended tt (g ∙ ap (λ xs. from (all_init_exprs at (inits_view xs)) now) (drop_all i is le))

-- ---- the last length apart from the others

but-last : {A : Type 0} (x y : A) (xs : List A) → take (length (x ∷ y ∷ xs) - 1) (x ∷ y ∷ xs) ≡ x ∷ take (length (y ∷ xs) - 1) (y ∷ xs)
but-last x y xs = let e : length (x ∷ y ∷ xs) - 1 ≡ suc (length (y ∷ xs) - 1) = omega arith in ap (λ n. take n (x ∷ y ∷ xs)) e

only-last : {A : Type 0} (x y : A) (xs : List A) → drop (length (x ∷ y ∷ xs) - 1) (x ∷ y ∷ xs) ≡ drop (length (y ∷ xs) - 1) (y ∷ xs)
only-last x y xs = let e : length (x ∷ y ∷ xs) - 1 ≡ suc (length (y ∷ xs) - 1) = omega arith in ap (λ n. drop n (x ∷ y ∷ xs)) e

pub outer-law : (at : Place) (ds : List (Option Expr)) → lengths at (dims_view (take (length ds - 1) ds)) ≡ outer_lengths at (dims_view ds)
outer-law at [] = refl
outer-law at (d ∷ []) = refl
outer-law at (d ∷ e ∷ ds) = ap (λ l. lengths at (dims_view l)) (but-last d e ds) ∙ ap (λ r. chain (length_at at (dim_of (expr_option_view d))) (λ n. chain r (λ ns. pure (n ∷ ns)))) (outer-law at (e ∷ ds))

one-length : (at : Place) (d : Option Expr) (old : Resolver) {new : Resolver} {ns : List (Option ℕ)} → IsReached (from (lengths at (dims_view (d ∷ []))) old) new ns → IsReached (from (length_at at (dim_of (expr_option_view d))) old) new (last_length_of ns)
unfolding chain pure
one-length at d old h = record { answer_is = ap last_length_of h.answer_is; storage_is = h.storage_is; world_is = h.world_is }

pub last-law : (at : Place) (ds : List (Option Expr)) (old : Resolver) {new : Resolver} {ns : List (Option ℕ)} → IsReached (from (lengths at (dims_view (drop (length ds - 1) ds))) old) new ns → IsReached (from (last_length at (dims_view ds)) old) new (last_length_of ns)
unfolding pure
last-law at [] old h = record { answer_is = ap last_length_of h.answer_is; storage_is = h.storage_is; world_is = h.world_is }
last-law at (d ∷ []) old h = one-length at d old h
last-law at (d ∷ e ∷ ds) old {new} {ns} h = last-law at (e ∷ ds) old (subst (λ l. IsReached (from (lengths at (dims_view l)) old) new ns) (only-last d e ds) h)
