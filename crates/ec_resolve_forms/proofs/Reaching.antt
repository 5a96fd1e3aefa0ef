-- How a form is put beside what the checks find.
use Rattle.std.proofs.Common.{◌≡◌, ◌≢◌, ◌∙◌, Bool, Option, Some, None, Result, Ok, Err, IfOk, pos, refl, sym, ap}
use Rattle.ec_base.specs.declared.stop.OutOfMemory.{OutOfMemory}
use Rattle.ec_ctypes.specs.declared.tree.expr.UnOp.{UnOp}
use Rattle.ec_ctypes.specs.declared.tree.expr.UnOp.TheVariants.{Addr, Deref, Plus, Minus, Not, Flip}
use Rattle.ec_ctypes.specs.trees.Types.{TyData}
use Rattle.ec_resolve_values.specs.conversions.Scalars.{bumped_of, scalar_in}
use Rattle.ec_resolve_values.proofs.conversions_lemmas.Cases.{bumped}
use Rattle.ec_memory_defs.specs.Memory.{number}
use Rattle.ec_meaning_defs.specs.resolved.Resolved.{Exp, constant}
use Rattle.ec_resolving_defs.specs.Conversions as form
use Rattle.ec_resolving_defs.specs.Operands as of
use Rattle.ec_resolving_defs.specs.Operands.{as_value, over_type, unary_found, with_form}
use Rattle.ec_resolving_defs.specs.Storage.{Reached, chain, pure, checks, ask}
use Rattle.ec_scopes.specs.Seen.{world_of, IsDone}
use Rattle.ec_resolve_values.specs.storage.Stored.{storage_of}
use Rattle.ec_typing_defs.specs.Operands.{OperandData}
use Rattle.ec_typing_defs.specs.Worlds.{World, Rule}
use Rattle.ec_resolve_forms.specs.declared.found.Found.{Found}
use Rattle.ec_resolve_forms.specs.declared.resolver.Resolver.{Resolver}
use Rattle.ec_resolve_forms.specs.Seen.{found_view, IsReached}

-- the checks find an operand, and a form is made for it
pub form_reached : (result : Result Found OutOfMemory) (k : OperandData → of.Found) (m : Rule OperandData) (old new : Resolver) {o : OperandData} {f : of.Found}
    → IfOk result (λ b. found_view b ≡ f) → f ≡ k o → IsDone (m (world_of old.checker)) old.checker new.checker o → storage_of new.storage ≡ storage_of old.storage
    → IfOk result (λ b. IsReached (with_form k m (storage_of old.storage) (world_of old.checker)) new (found_view b))
unfolding chain pure checks
form_reached (Ok b) k m old new h e d s = record { answer_is = h ∙ e ∙ ap k d.answer_is; storage_is = s; world_is = d.world_is }
form_reached (Err x) k m old new h e d s = h

-- the same, where what is known is asked for before
pub asked_reached : {A : Type 0} (result : Result Found OutOfMemory) (g : World → A) (k : A → OperandData → of.Found) (m : Rule OperandData) (old new : Resolver) {o : OperandData} {f : of.Found}
    → IfOk result (λ b. found_view b ≡ f) → f ≡ k (g (world_of old.checker)) o → IsDone (m (world_of old.checker)) old.checker new.checker o → storage_of new.storage ≡ storage_of old.storage
    → IfOk result (λ b. IsReached (chain (ask g) (λ a. with_form (k a) m) (storage_of old.storage) (world_of old.checker)) new (found_view b))
unfolding chain pure checks ask
asked_reached (Ok b) g k m old new h e d s = record { answer_is = h ∙ e ∙ ap (k (g (world_of old.checker))) d.answer_is; storage_is = s; world_is = d.world_is }
asked_reached (Err x) g k m old new h e d s = h

-- a unary operator but `*` gives a value
pub value_found : (op : UnOp) (f : of.Found) (o : OperandData) → op ≢ Deref → as_value (over_type f.operand.type (λ t. form.unary_exp op t f.exp)) o ≡ unary_found op f o
value_found Addr f o n = refl
value_found Deref f o n = absurd (n refl)
value_found Plus f o n = refl
value_found Minus f o n = refl
value_found Not f o n = refl
value_found Flip f o n = refl

-- a step by an int 1
pub bumped_over : (w : World) (before up : Bool) (ty : Option TyData) (x : Exp)
    → over_type ty (λ t. bumped_of before up (scalar_in w t) x (constant (number (pos 1)))) ≡ over_type ty (λ t. form.bumped w before up t x)
bumped_over w before up None x = refl
bumped_over w before up (Some t) x = sym (bumped w before up t x)
