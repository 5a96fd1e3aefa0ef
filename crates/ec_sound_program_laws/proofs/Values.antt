-- Values that statements want: conditions, what is done alone, and what is returned.
use Rattle.std.proofs.Common.{◌≡◌, ◌∙◌, inl, inr, ℕ, Bool, true, false, List, Option, Some, None, refl, sym, subst}
use Rattle.ec_ctypes.specs.trees.Types.{TyData, void}
use Rattle.ec_ctypes.specs.trees.Exprs.{ExprData}
use Rattle.ec_typing_defs.specs.Operands.{OperandData}
use Rattle.ec_typing_defs.specs.Operands as checked_operands
use Rattle.ec_typing_defs.specs.Expressions as checked_parts
use Rattle.ec_typing_defs.specs.Statements as checked
use Rattle.ec_typing_defs.specs.Statements.{condition_rule, return_rule, return_nothing}
use Rattle.ec_typing_defs.specs.Worlds.{Place, chain as check_chain, pure as check_pure}
use Rattle.ec_meaning_defs.specs.resolved.Resolved.{Exp, return}
use Rattle.ec_resolving_defs.specs.Agreement.{operand_of, nothing_of}
use Rattle.ec_resolving_defs.specs.Conversions.{as_known_type}
use Rattle.ec_resolving_defs.specs.Operands.{Found, value_rule}
use Rattle.ec_resolving_defs.specs.Expressions.{expr}
use Rattle.ec_resolving_defs.specs.Statements.{condition, alone, optional, optional_condition, return_by}
use Rattle.ec_resolving_defs.specs.Storage.{LibraryCall, chain}
use Rattle.ec_sim_world_laws.specs.closing.Closing.{IsTyped}
use Rattle.ec_sim_world_laws.proofs.known_lemmas.SitesIdle.{Idle, pure_idle, demand_idle, if_some}
use Rattle.ec_sim_program_laws.proofs.types_lemmas.Fits as tree
use Rattle.ec_sound_defs.specs.Sorts.{address_sort, any_sort}
use Rattle.ec_sound_defs.specs.Sound.{Signature, Atoms, Has, HasOption, Around, Sound, no_atoms}
use Rattle.ec_sound_defs.specs.Types.{type_sort}
use Rattle.ec_sound_defs.specs.Written.{library_atoms}
use Rattle.ec_sound_form_laws.specs.Names.{gives_of}
use Rattle.ec_sound_form_laws.specs.Fits.{IsValue, FormFits, FoundFits}
use Rattle.ec_sound_form_laws.proofs.Forms.{as_any}
use Rattle.ec_sound_form_laws.proofs.Found.{alone_is}
use Rattle.ec_sound_expression_laws.specs.Plain.{IsPlain}
use Rattle.ec_sound_expression_laws.specs.Standing.{Serves, ServesAsValue}
use Rattle.ec_sound_expression_laws.proofs.Basics.{clash, both_false, with_atoms}
use Rattle.ec_sound_expression_laws.proofs.Expressions.{expr_walks}
use Rattle.ec_sound_expression_laws.proofs.Leaves.{value_walks}
use Rattle.ec_sound_expression_laws.proofs.Walks.{Walk, chained, pure_walks}
use Rattle.ec_sound_statement_laws.proofs.Values.{nothing_returned, returned_is}
use Rattle.ec_sound_program_laws.specs.Plain.{OptionIsPlain}
use Rattle.ec_sound_program_laws.proofs.Sides.{idle_pure, idle_ask, then_answer}

condition_idle : (at : Place) (o : OperandData) → Idle (condition_rule at o)
unfolding condition_rule
condition_idle at o = if_some o.type (pure_idle tt) (λ t. demand_idle _ _ _)

return_idle : (at : Place) (r : Option TyData) (o : OperandData) → Idle (return_rule at r o)
unfolding return_rule
return_idle at None o = pure_idle tt
return_idle at (Some s) o = if_some o.type (pure_idle tt) (λ t. demand_idle _ _ _)

nothing_idle : (at : Place) (r : Option TyData) → Idle (return_nothing at r)
unfolding return_nothing
nothing_idle at None = pure_idle tt
nothing_idle at (Some s) = demand_idle _ _ _

module _ (gs : List Signature) (calls : List LibraryCall) (n : ℕ) (written : Bool) where
  abbrev Library : Atoms
  Library = library_atoms gs calls

  abbrev Any : Exp → Type 0
  Any e = Has gs Library n any_sort e

  -- ---- with calls of the library

  form_fits : (b : Bool) (t : TyData) (e : Exp) → FormFits gs no_atoms n b t e → FormFits gs Library n b t e
  form_fits true t e h = with_atoms gs Library n e address_sort h
  form_fits false t e h = with_atoms gs Library n e (type_sort t) h

  done_form : (b : Bool) (e : Exp) → b ≡ false → Has gs Library n any_sort e → FormFits gs Library n b void e
  done_form true e f h = clash (sym f)
  done_form false e f h = h

  pub served_fits : (f : Found) → Serves gs calls n f → FoundFits gs Library n f
  served_fits f (inl h) = record { type = h.type; is = h.is; form = form_fits f.is_address h.type f.exp h.form; place = λ p. with_atoms gs Library n f.exp address_sort (h.place p) }
  served_fits f (inr d) =
      record { type = void; is = d.type; form = done_form f.is_address f.exp d.no_address d.form; place = λ p. clash (sym (both_false f.operand.is_place f.operand.is_target d.no_place d.no_target) ∙ p) }

  pub value_is : (f : Found) → ServesAsValue gs calls n f → IsValue gs Library n f
  value_is f (inl h) = record { type = h.type; is = h.is; form = with_atoms gs Library n f.exp (type_sort h.type) h.form }
  value_is f (inr d) = record { type = void; is = d.type; form = d.form }

  value_any : (f : Found) → ServesAsValue gs calls n f → Any f.exp
  value_any f h = let v = value_is f h in as_any gs Library n f.exp (type_sort v.type) v.form

  -- ---- the parts of statements

  pub value_of : (at : Place) (e : ExprData) → tree.Fits e → IsPlain e
      → Walk gs calls n written operand_of (Unit {0}) (ServesAsValue gs calls n) (chain (expr at e) (value_rule at)) (check_chain (checked_parts.expr at e) (checked_operands.value_rule at))
  value_of at e h p = chained gs calls n written _ (expr_walks gs calls n written at e h p) (λ f. value_walks gs calls n written at f)

  pub condition_walks : (at : Place) (e : ExprData) → tree.Fits e → IsPlain e → Walk gs calls n written nothing_of (Unit {0}) Any (condition at e) (checked.condition at e)
  condition_walks at e h p = chained gs calls n written _ (value_of at e h p) (λ f. idle_pure gs calls n written f.exp _ (condition_idle at f.operand) (λ w. refl) (λ w r found. value_any f r))

  pub alone_walks : (at : Place) (e : ExprData) → tree.Fits e → IsPlain e → Walk gs calls n written nothing_of (Unit {0}) Any (alone at e) (check_chain (checked_parts.expr at e) (λ o. check_pure tt))
  alone_walks at e h p = chained gs calls n written _ (expr_walks gs calls n written at e h p) (λ f. idle_ask gs calls n written _ _ (pure_idle tt) (λ w. refl) (λ w r found. alone_is gs Library n w e f (served_fits f r)))

  abbrev AnyOption : Option Exp → Type 0
  AnyOption e = HasOption gs Library n e

  pub optional_walks : (at : Place) (e : Option ExprData) → tree.FitsOption e → OptionIsPlain e → Walk gs calls n written nothing_of (Unit {0}) AnyOption (optional at e) (checked.optional at e)
  optional_walks at None h p = pure_walks gs calls n written None (λ r. tt)
  optional_walks at (Some e) h p = then_answer gs calls n written (λ x. Some x) (λ x. refl) (λ x r. r) (alone_walks at e h p)

  pub optional_condition_walks : (at : Place) (e : Option ExprData) → tree.FitsOption e → OptionIsPlain e → Walk gs calls n written nothing_of (Unit {0}) AnyOption (optional_condition at e) (checked.optional_condition at e)
  optional_condition_walks at None h p = pure_walks gs calls n written None (λ r. tt)
  optional_condition_walks at (Some e) h p = then_answer gs calls n written (λ x. Some x) (λ x. refl) (λ x r. r) (condition_walks at e h p)

-- what is returned, as the value of its function
pub return_walks : (gs : List Signature) (calls : List LibraryCall) (written : Bool) (a : Around) (at : Place) (r : Option TyData) (e : Option ExprData) → IsTyped r → a.gives ≡ gives_of r → tree.FitsOption e → OptionIsPlain e
    → Walk gs calls a.count written nothing_of (Unit {0}) (λ x. Sound gs (library_atoms gs calls) a x) (return_by at r e) (checked.return_by at r e)
return_walks gs calls written a at None e typed gives h p = absurd typed
return_walks gs calls written a at (Some s) None typed gives h p = idle_pure gs calls a.count written (return None) _ (nothing_idle at (Some s)) (λ w. refl) (λ w r found. gives ∙ nothing_returned w at s found)
return_walks gs calls written a at (Some s) (Some e) typed gives h p =
    chained gs calls a.count written _ (value_of gs calls a.count written at e h p) (λ f. idle_pure gs calls a.count written _ _ (return_idle at (Some s) f.operand) (λ w. refl) (λ w r found.
    subst (λ k. Has gs (library_atoms gs calls) a.count k (as_known_type f.operand.type (Some s) f.exp)) (sym gives)
    (returned_is gs (library_atoms gs calls) a.count w at s f (value_is gs calls a.count written f r) found)))
