-- Loops over the parts of trees.
use Rattle.std.proofs.Common.{◌≡◌, ◌∙◌, ℕ, zero, suc, ◌+◌, ◌-◌, ◌<◌, Bool, List, [], ◌∷◌, ◌++◌, length, take, drop, map, get_or, Option, Some, None, refl, sym, ap, subst, arith}
use Rattle.ec_ctypes.specs.declared.tree.decl.Decl.{Decl}
use Rattle.ec_ctypes.specs.declared.tree.decl.Declarator.{Declarator}
use Rattle.ec_ctypes.specs.declared.tree.decl.Init.{Init}
use Rattle.ec_ctypes.specs.declared.tree.expr.Expr.{Expr}
use Rattle.ec_ctypes.specs.trees.Types.{TyData}
use Rattle.ec_ctypes.specs.trees.Exprs.{dims, no_dims}
use Rattle.ec_ctypes.specs.views.Exprs.{expr_view, exprs_view, dim_of, dims_view, expr_option_view, inits_view, init_view, decl_view, decls_view, declarator_view, declarators_view}
use Rattle.ec_language.specs.First.{Violation}
use Rattle.ec_typing_defs.specs.Known.{ArgumentsData, behind_first_argument}
use Rattle.ec_typing_defs.specs.Worlds.{Place, World, Out, Rule, chain, pure}
use Rattle.ec_typing_defs.specs.Operands.{OperandData}
use Rattle.ec_typing_defs.specs.Expressions.{Members, args, lengths, length_at, last_length, outer_lengths, members, member_decl, member_items, member_item, init_exprs, all_init_exprs}
use Rattle.ec_scopes.specs.declared.state.Checker.{Checker}
use Rattle.ec_scopes.specs.Seen.{world_of, notes_of, noted, IsDone}
use Rattle.ec_scopes.proofs.Loops.{drop_item, one_done, one_more}
use Rattle.ec_scopes.proofs.Steps.{Goes, goes_step, goes_gather, goes_as, goes_from, noted-append}
use Rattle.ec_rules.specs.declared.operand.Operand.{Operand}
use Rattle.ec_rules.specs.Seen.{operand_view}
use Rattle.ec_walk.specs.Dims.{last_length_of}
use Rattle.ec_walk.specs.Spines.{argument}

pub args_step : {whole : Out (List OperandData)} {old : Option Violation} {now next : Checker} (at : Place) (forms after : ArgumentsData) (es : List Expr) (i : ℕ) (e : Expr) (os more : List Operand) (x : Operand)
    → i < length es → e ≡ get_or es i e → more ≡ os ++ (x ∷ []) → after ≡ behind_first_argument forms
    → Goes whole old (args at forms (exprs_view (drop i es)) (world_of now)) (notes_of now) (λ rest. map operand_view os ++ rest)
    → IsDone (argument at forms (expr_view e) (world_of now)) now next (operand_view x)
    → Goes whole old (args at after (exprs_view (drop (i + 1) es)) (world_of next)) (notes_of next) (λ rest. map operand_view more ++ rest)
args_step {whole} {old} {now} {next} at forms after es i e os more x lt is put f g p =
    goes_from (ap (λ a. args at a (exprs_view (drop (i + 1) es)) (world_of next)) (sym f))
    (goes_as _ _ _ (one_done operand_view os more x put) (goes_gather _ (λ _. args at (behind_first_argument forms) (exprs_view (drop (i + 1) es))) (λ a b. a ∷ b) _
    (goes_from (ap (λ xs. args at forms (exprs_view xs) (world_of now)) (drop_item es i e lt is)) g) p))

pub lengths_step : {whole : Out (List (Option ℕ))} {old : Option Violation} {now next : Checker} (at : Place) (ds : List (Option Expr)) (i : ℕ) (d : Option Expr) (ns more : List (Option ℕ)) (n : Option ℕ)
    → i < length ds → d ≡ get_or ds i d → more ≡ ns ++ (n ∷ [])
    → Goes whole old (lengths at (dims_view (drop i ds)) (world_of now)) (notes_of now) (λ rest. ns ++ rest)
    → IsDone (length_at at (dim_of (expr_option_view d)) (world_of now)) now next n
    → Goes whole old (lengths at (dims_view (drop (i + 1) ds)) (world_of next)) (notes_of next) (λ rest. more ++ rest)
lengths_step {whole} {old} {now} {next} at ds i d ns more n lt is put g p =
    goes_as _ _ _ (one_more ns more n put) (goes_gather _ (λ _. lengths at (dims_view (drop (i + 1) ds))) (λ a b. a ∷ b) _
    (goes_from (ap (λ xs. lengths at (dims_view xs) (world_of now)) (drop_item ds i d lt is)) g) p)

pub members_step : {whole : Out Members} {old : Option Violation} {now next : Checker} (ds : List Decl) (i : ℕ) (d : Decl) (ms : Members) {more : Members}
    → i < length ds → d ≡ get_or ds i d
    → Goes whole old (members (decls_view (drop i ds)) ms (world_of now)) (notes_of now) (λ rest. rest)
    → IsDone (member_decl (decl_view d) ms (world_of now)) now next more
    → Goes whole old (members (decls_view (drop (i + 1) ds)) more (world_of next)) (notes_of next) (λ rest. rest)
members_step {whole} {old} {now} ds i d ms lt is g p = goes_step _ (members (decls_view (drop (i + 1) ds))) _ (goes_from (ap (λ xs. members (decls_view xs) ms (world_of now)) (drop_item ds i d lt is)) g) p

pub items_step : {whole : Out Members} {old : Option Violation} {now next : Checker} (at : Place) (v : Bool) (ty : Option TyData) (ds : List Declarator) (i : ℕ) (d : Declarator) (ms : Members) {more : Members}
    → i < length ds → d ≡ get_or ds i d
    → Goes whole old (member_items at v ty (declarators_view (drop i ds)) ms (world_of now)) (notes_of now) (λ rest. rest)
    → IsDone (member_item at v ty (declarator_view d) ms (world_of now)) now next more
    → Goes whole old (member_items at v ty (declarators_view (drop (i + 1) ds)) more (world_of next)) (notes_of next) (λ rest. rest)
items_step {whole} {old} {now} at v ty ds i d ms lt is g p = goes_step _ (member_items at v ty (declarators_view (drop (i + 1) ds))) _ (goes_from (ap (λ xs. member_items at v ty (declarators_view xs) ms (world_of now)) (drop_item ds i d lt is)) g) p

pub inits_step : {whole : Out (Unit {0})} {old : Option Violation} {now next : Checker} (at : Place) (is : List Init) (i : ℕ) (x : Init)
    → i < length is → x ≡ get_or is i x
    → Goes whole old (all_init_exprs at (inits_view (drop i is)) (world_of now)) (notes_of now) (λ u. u)
    → IsDone (init_exprs at (init_view x) (world_of now)) now next tt
    → Goes whole old (all_init_exprs at (inits_view (drop (i + 1) is)) (world_of next)) (notes_of next) (λ u. u)
inits_step {whole} {old} {now} at is i x lt e g p = goes_step _ (λ _. all_init_exprs at (inits_view (drop (i + 1) is))) _ (goes_from (ap (λ xs. all_init_exprs at (inits_view xs) (world_of now)) (drop_item is i x lt e)) g) p

-- ---- the last length apart from the others

but-last : {A : Type 0} (x y : A) (xs : List A) → take (length (x ∷ y ∷ xs) - 1) (x ∷ y ∷ xs) ≡ x ∷ take (length (y ∷ xs) - 1) (y ∷ xs)
but-last x y xs = let e : length (x ∷ y ∷ xs) - 1 ≡ suc (length (y ∷ xs) - 1) = omega arith in ap (λ n. take n (x ∷ y ∷ xs)) e

only-last : {A : Type 0} (x y : A) (xs : List A) → drop (length (x ∷ y ∷ xs) - 1) (x ∷ y ∷ xs) ≡ drop (length (y ∷ xs) - 1) (y ∷ xs)
only-last x y xs = let e : length (x ∷ y ∷ xs) - 1 ≡ suc (length (y ∷ xs) - 1) = omega arith in ap (λ n. drop n (x ∷ y ∷ xs)) e

pub outer-law : (at : Place) (ds : List (Option Expr)) → lengths at (dims_view (take (length ds - 1) ds)) ≡ outer_lengths at (dims_view ds)
outer-law at [] = refl
outer-law at (d ∷ []) = refl
outer-law at (d ∷ e ∷ ds) = ap (λ l. lengths at (dims_view l)) (but-last d e ds) ∙ ap (λ r. chain (length_at at (dim_of (expr_option_view d))) (λ n. chain r (λ ns. pure (n ∷ ns)))) (outer-law at (e ∷ ds))

one-length : (at : Place) (d : Option Expr) {old new : Checker} {ns : List (Option ℕ)} → IsDone (lengths at (dims_view (d ∷ [])) (world_of old)) old new ns → IsDone (length_at at (dim_of (expr_option_view d)) (world_of old)) old new (last_length_of ns)
unfolding chain pure
one-length at d {old} h = record {
  answer_is = ap last_length_of h.answer_is;
  world_is = h.world_is;
  notes_is = h.notes_is ∙ noted-append (length_at at (dim_of (expr_option_view d)) (world_of old)).found [] (notes_of old);
}

pub last-law : (at : Place) (ds : List (Option Expr)) {old new : Checker} {ns : List (Option ℕ)} → IsDone (lengths at (dims_view (drop (length ds - 1) ds)) (world_of old)) old new ns → IsDone (last_length at (dims_view ds) (world_of old)) old new (last_length_of ns)
unfolding pure
last-law at [] h = record { answer_is = ap last_length_of h.answer_is; world_is = h.world_is; notes_is = h.notes_is }
last-law at (d ∷ []) h = one-length at d h
last-law at (d ∷ e ∷ ds) {old} {new} {ns} h = last-law at (e ∷ ds) (subst (λ l. IsDone (lengths at (dims_view l) (world_of old)) old new ns) (only-last d e ds) h)
