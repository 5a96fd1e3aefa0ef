-- Declarations and statements have types where nothing is wrong.
use Rattle.std.proofs.Common.{◌≡◌, ℕ, zero, suc, Bool, true, false, ◌&&◌, Option, Some, None, sym, subst}
use Rattle.std.proofs.lemmas.Bool.{false≢true}
use Rattle.ec_ctypes.specs.trees.Types.{TyData, void, arithmetic, pointer, array, structure}
use Rattle.ec_ctypes.specs.trees.Exprs.{ExprData, BaseData, words, varchar, tagged, struct_base, DimList, InitOption, no_init, some_init, DeclaratorData, declarator, DeclaratorList, no_declarators, declarators, DeclData, decl}
use Rattle.ec_language.specs.Letters.{Text}
use Rattle.ec_typing_defs.specs.Operands.{OperandData}
use Rattle.ec_typing_defs.specs.Worlds.{Place, object, Rule, World, chain, is_complete}
use Rattle.ec_typing_defs.specs.Expressions.{base, is_varchar, has_init}
use Rattle.ec_typing_defs.specs.Statements.{type_or_void, waits_for_length, object_rule, initial, object_type, object_item, object_items, declared_tag, tag_alone, declaration, condition_rule, condition, optional, optional_condition, return_rule, return_nothing, return_by}
use Rattle.ec_sim_world_laws.specs.closing.Closing.{IsTyped}
use Rattle.ec_sim_program_laws.specs.types.Flat.{dims_count}
use Rattle.ec_sim_program_laws.specs.types.Types.{max_nesting}
use Rattle.ec_sim_program_laws.proofs.types_lemmas.Fits.{Fits, FitsBase, FitsDecl, FitItems, FitsItem, FitsInit, FitsOption}
use Rattle.ec_sim_program_laws.proofs.types_lemmas.Structs.{IsFlatType, whole_complete}
use Rattle.ec_sim_program_laws.proofs.types_lemmas.Rules.{Any, NoMore, Typing, chained, from, to, beside, carried, constant, pure_types, asked, asked_any, demand_types, place_types, chosen, if_some, free_tag_types, declare_types, better_types, number_types}
use Rattle.ec_sim_program_laws.proofs.types_lemmas.Operands.{WholeIn, within_kept, elements_kept, complete_kept}
use Rattle.ec_sim_program_laws.proofs.types_lemmas.Expressions.{IsAtom, IsBase, IsWithin, declared_flat, tagged_sound, object_varchar, valued, expr_has, base_has, lengths_have, last_is, outer_have}
use Rattle.ec_sim_program_laws.proofs.types_lemmas.Initializers.{Open, OpenIn, whole_open, open_in_stays, open_typed, initializer_types}

-- ---- declarations

-- a type that is complete, or whose length is to come
open_of : (w : World) (t s : Option TyData) → s ≡ t → WholeIn w.structs s → IsWithin max_nesting t → OpenIn w.structs s
open_of w t None e h l = h
open_of w t (Some s) e h l = (whole_open w.structs s h, subst (IsWithin max_nesting) (sym e) l)

waits_open : (w : World) (has : Bool) (t : TyData) → waits_for_length has t w ≡ true → Open w.structs t
waits_open w has (array t zero) e = whole_complete w t (second has (is_complete w t) e)
  where
    second : (a b : Bool) → (a && b) ≡ true → b ≡ true
    second true b e = e
    second false b e = absurd (false≢true e)
waits_open w has (array t (suc n)) e = absurd (false≢true e)
waits_open w has void e = absurd (false≢true e)
waits_open w has (arithmetic a) e = tt
waits_open w has (pointer t) e = tt
waits_open w has (structure k) e = absurd (false≢true e)

pub object_open : (at : Place) (has : Bool) (t : Option TyData) → Typing (λ w. IsWithin max_nesting t) (λ w s. OpenIn w.structs s) (object_rule at has t)
unfolding object_rule
object_open at has None = pure_types None (λ w r. absurd r)
object_open at has (Some t) = asked _ _ (λ w waits. (waits ≡ true → Open w.structs t) × IsFlatType t) (λ w sound r. (waits_open w has t, r)) (λ waits.
    chosen waits (pure_types (Some t) (λ w r. (r.1.0 r.0, r.1.1))) (to (λ w s r. open_of w (Some t) s r.0 r.1.0 r.1.1) (from (λ w r. (tt, r.1.1)) (complete_kept at (Some t)))))

pub initial_types : (at : Place) (global : Bool) (t : Option TyData) (i : InitOption) → FitsInit i → Typing (λ w. OpenIn w.structs t) (λ w s. IsTyped s) (initial at global t i)
initial_types at global t no_init h = pure_types t (λ w r. open_typed w.structs t r)
initial_types at global t (some_init i) h = initializer_types at global t i h

object_flat : (at : Place) (v : Bool) (t : Option TyData) (stars : ℕ) (name : Text) (ns : DimList) (init : InitOption) → FitsItem v (declarator stars name ns init)
    → Typing (λ w. IsBase v t) (λ w s. IsWithin max_nesting s) (object_type at v t stars name ns)
object_flat at false t stars name ns init h =
    chained (carried (λ w. IsAtom t) (constant (IsAtom t)) (lengths_have at ns h.2)) (λ sizes. chained (elements_kept at t stars sizes) (λ u. pure_types _ (λ w r. declared_flat t stars (dims_count ns) sizes r.0 r.1 h.1)))
object_flat at true t stars name ns init h =
    chained (from (λ w r. tt) (last_is at ns h.0 h.2)) (λ n. chained (object_varchar at name n) (λ own. chained (carried (λ w. IsAtom own) (constant (IsAtom own)) (outer_have at ns h.2)) (λ sizes.
    chained (elements_kept at own stars sizes) (λ u. pure_types _ (λ w r. declared_flat own stars (dims_count ns) sizes r.0 r.1 h.1)))))

item_types : (at : Place) (global v : Bool) (t : Option TyData) (d : DeclaratorData) → FitsItem v d → Typing (λ w. IsBase v t) NoMore (object_item at global v t d)
item_types at global v t (declarator stars name ns init) h =
    chained (object_flat at v t stars name ns init h) (λ whole. chained (within_kept at whole) (λ u. chained (object_open at (has_init init) whole) (λ before. asked_any _ _ (λ k.
    chained (from (λ w r. (r, open_typed w.structs before r)) (to (λ w a r. r.0) (beside (λ w. OpenIn w.structs before) (open_in_stays before) (declare_types at name (object k global before))))) (λ a.
    chained (initial_types at global before init h.3) (λ ty. chained (within_kept at ty) (λ b. chained (better_types name (object k global ty)) (λ c. from (λ w r. tt) (number_types (type_or_void ty))))))))))

items_types : (at : Place) (global v : Bool) (t : Option TyData) (ds : DeclaratorList) → FitItems v ds → Typing (λ w. IsBase v t) NoMore (object_items at global v t ds)
items_types at global v t no_declarators h = pure_types tt (λ w r. tt)
items_types at global v t (declarators d ds) h =
    chained (to (λ w a r. r.0) (from (λ w r. (r, r)) (beside (λ w. IsBase v t) (constant (IsBase v t)) (item_types at global v t d h.0)))) (λ a. items_types at global v t ds h.1)

declared_types : (tag : Text) (k : Option ℕ) → Typing Any NoMore (declared_tag tag k)
declared_types tag None = chained (tagged_sound tag) (λ a. pure_types _ (λ w r. tt))
declared_types tag (Some k) = pure_types _ (λ w r. tt)

pub alone_types : (at : Place) (tag : Text) → Typing Any NoMore (tag_alone at tag)
unfolding tag_alone
alone_types at tag = chained (free_tag_types at tag) (λ a. asked_any _ _ (λ known. declared_types tag known))

based : (global : Bool) (b : BaseData) (ds : DeclaratorList) → FitsBase b → FitItems (is_varchar b) ds → (at : Place) → Typing Any NoMore (chain (base at b) (λ t. object_items at global (is_varchar b) t ds))
based global b ds h g at = chained (base_has at b h) (λ t. items_types at global (is_varchar b) t ds g)

pub declaration_types : (global : Bool) (d : DeclData) → FitsDecl d → Typing Any NoMore (declaration global d)
declaration_types global (decl (tagged tag) no_declarators section line) h = chained (place_types line) (λ at. chained (alone_types at tag) (λ t. pure_types tt (λ w r. tt)))
declaration_types global (decl (tagged tag) (declarators d ds) section line) h = chained (place_types line) (λ at. based global (tagged tag) (declarators d ds) h.0 h.1 at)
declaration_types global (decl (words ws) ds section line) h = chained (place_types line) (λ at. based global (words ws) ds h.0 h.1 at)
declaration_types global (decl varchar ds section line) h = chained (place_types line) (λ at. based global varchar ds h.0 h.1 at)
declaration_types global (decl (struct_base t ms) ds section line) h = chained (place_types line) (λ at. based global (struct_base t ms) ds h.0 h.1 at)

-- ---- parts of statements

-- nothing is said of the answer
pub unsaid : {A : Type 0} {R : World → Type 0} {P : World → A → Type 0} {m : Rule A} → Typing R P m → Typing R NoMore m
unsaid h = to (λ w a r. tt) h

scalar_types : (at : Place) (o : OperandData) → Typing (λ w. IsTyped o.type) NoMore (condition_rule at o)
unfolding condition_rule
scalar_types at o = if_some o.type (λ e. pure_types tt (λ w r. tt)) (λ t e. unsaid (demand_types _ _ _))

pub condition_types : (at : Place) (e : ExprData) → Fits e → Typing Any NoMore (condition at e)
condition_types at e h = chained (valued at (expr_has at e h)) (λ o. scalar_types at o)

pub optional_types : (at : Place) (e : Option ExprData) → FitsOption e → Typing Any NoMore (optional at e)
optional_types at None h = pure_types tt (λ w r. tt)
optional_types at (Some e) h = chained (expr_has at e h) (λ o. pure_types tt (λ w r. tt))

pub optional_condition_types : (at : Place) (e : Option ExprData) → FitsOption e → Typing Any NoMore (optional_condition at e)
optional_condition_types at None h = pure_types tt (λ w r. tt)
optional_condition_types at (Some e) h = condition_types at e h

value_types : (at : Place) (r : Option TyData) (o : OperandData) → Typing (λ w. IsTyped o.type) NoMore (return_rule at r o)
unfolding return_rule
value_types at None o = pure_types tt (λ w r. tt)
value_types at (Some s) o = if_some o.type (λ e. pure_types tt (λ w r. tt)) (λ t e. unsaid (demand_types _ _ _))

nothing_types : (at : Place) (r : Option TyData) → Typing Any NoMore (return_nothing at r)
unfolding return_nothing
nothing_types at None = pure_types tt (λ w r. tt)
nothing_types at (Some s) = unsaid (demand_types _ _ _)

pub return_types : (at : Place) (r : Option TyData) (e : Option ExprData) → FitsOption e → Typing Any NoMore (return_by at r e)
return_types at r None h = nothing_types at r
return_types at r (Some e) h = chained (valued at (expr_has at e h)) (λ o. value_types at r o)
