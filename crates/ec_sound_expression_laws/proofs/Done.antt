-- What the rules of operands tell where a part is done without a value: but for a cast to void, each finds something wrong.
use Rattle.std.proofs.Common.{◌≡◌, ◌∙◌, inl, inr, ℕ, Bool, true, false, ◌&&◌, List, Some, None, refl, sym, subst}
use Rattle.std.specs.Prelude.{if◌then◌else◌}
use Rattle.ec_ctypes.specs.declared.tree.expr.BinOp.{BinOp}
use Rattle.ec_ctypes.specs.declared.tree.expr.UnOp.{UnOp}
use Rattle.ec_ctypes.specs.declared.tree.expr.UnOp.TheVariants.{Addr, Deref, Plus, Minus, Not, Flip}
use Rattle.ec_ctypes.specs.trees.Types.{TyData, void, arithmetic, pointer, array, structure}
use Rattle.ec_typing_defs.specs.Types.{is_void, is_structure, is_assignable, binary_type, is_compound, element_type, may_be_cast}
use Rattle.ec_typing_defs.specs.Operands as checked
use Rattle.ec_typing_defs.specs.Operands.{OperandData, is_null, unary_type}
use Rattle.ec_typing_defs.specs.Worlds.{Place, World, is_complete}
use Rattle.ec_meaning_defs.specs.resolved.Resolved.{whole, faulty}
use Rattle.ec_resolving_defs.specs.Conversions as of
use Rattle.ec_resolving_defs.specs.Operands.{Found, found, value_exp, over_type, over_types, discarded, cast_form}
use Rattle.ec_resolving_defs.specs.Storage.{LibraryCall}
use Rattle.ec_sound_defs.specs.Sorts.{any_sort}
use Rattle.ec_sound_defs.specs.Sound.{Signature, Has, no_atoms}
use Rattle.ec_sound_defs.specs.Written.{library_atoms}
use Rattle.ec_sound_form_laws.specs.Laws.{assigns, gives_value}
use Rattle.ec_sound_form_laws.proofs.Answered.{Tells, told, IsCast, value_tells, address_tells, target_tells, sign_tells, binary_tells, index_tells, assign_tells, compound_tells, bump_tells, cast_tells}
use Rattle.ec_sound_form_laws.proofs.Found.{value_is, address_is, target_is, sign_is, both_is, index_is, set_is, compounded_is, bump_is, cast_fits}
use Rattle.ec_sound_expression_laws.specs.Standing.{IsDone, Serves, ServesAsValue}
use Rattle.ec_sound_expression_laws.proofs.Basics.{clash, none_not, both_false}

-- ---- nothing is done with void

no_unary : {C : Type 0} (op : UnOp) (t : TyData) → unary_type op void ≡ Some t → C
no_unary Addr t e = none_not e
no_unary Deref t e = none_not e
no_unary Plus t e = none_not e
no_unary Minus t e = none_not e
no_unary Not t e = none_not e
no_unary Flip t e = none_not e

no_left : {C : Type 0} (complete : TyData → Bool) (op : BinOp) (t r : TyData) (a b : Bool) → binary_type complete op void a t b ≡ Some r → C
no_left complete op t r a b e = none_not e

no_right : {C : Type 0} (complete : TyData → Bool) (op : BinOp) (s r : TyData) (a b : Bool) → binary_type complete op s a void b ≡ Some r → C
no_right complete op void r a b e = none_not e
no_right complete op (arithmetic x) r a b e = none_not e
no_right complete op (pointer s) r a b e = none_not e
no_right complete op (array s n) r a b e = none_not e
no_right complete op (structure k) r a b e = none_not e

no_element_left : {C : Type 0} (complete : TyData → Bool) (t r : TyData) → element_type complete void t ≡ Some r → C
no_element_left complete t r e = none_not e

no_element_right : {C : Type 0} (complete : TyData → Bool) (s r : TyData) → element_type complete s void ≡ Some r → C
no_element_right complete void r e = none_not e
no_element_right complete (arithmetic x) r e = none_not e
no_element_right complete (pointer s) r e = none_not e
no_element_right complete (array s n) r e = none_not e
no_element_right complete (structure k) r e = none_not e

pub no_assignable : {C : Type 0} (s : TyData) (null : Bool) → is_assignable s void null ≡ true → C
no_assignable void null e = clash e
no_assignable (arithmetic a) null e = clash e
no_assignable (pointer t) null e = clash e
no_assignable (array t n) null e = clash e
no_assignable (structure k) null e = clash e

no_compound : {C : Type 0} (complete : TyData → Bool) (op : BinOp) (s : TyData) → is_compound complete op s void ≡ true → C
no_compound complete op void e = clash e
no_compound complete op (arithmetic a) e = clash e
no_compound complete op (pointer t) e = clash e
no_compound complete op (array t n) e = clash e
no_compound complete op (structure k) e = clash e

no_cast : {C : Type 0} (s : TyData) → is_void s ≡ false → may_be_cast s void ≡ true → C
no_cast void v e = clash (sym v)
no_cast (arithmetic a) v e = clash e
no_cast (pointer t) v e = clash e
no_cast (array t n) v e = clash e
no_cast (structure k) v e = clash e

-- ---- the rules

module _ (gs : List Signature) (calls : List LibraryCall) (n : ℕ) where
  abbrev Done : Found → Type 0
  Done f = IsDone gs calls n f

  abbrev Served : Found → Type 0
  Served f = Serves gs calls n f

  abbrev Value : Found → Type 0
  Value f = ServesAsValue gs calls n f

  -- its form, as a value
  done_value : (f : Found) → Done f → Has gs (library_atoms gs calls) n any_sort (value_exp f)
  done_value f d = subst (λ b. Has gs (library_atoms gs calls) n any_sort (if b then over_type f.operand.type (λ t. of.read_at t f.exp) else f.exp)) (sym d.no_address) d.form

  done_discarded : (w : World) (f : Found) → Done f → Has gs (library_atoms gs calls) n any_sort (discarded w f)
  done_discarded w f d = subst (λ x. Has gs (library_atoms gs calls) n any_sort (elim x [ None ↦ faulty | Some t ↦ if is_structure t && (f.operand.is_place && is_complete w t) then whole (of.size_in w t) f.exp else value_exp f ])) (sym d.type) (done_value f d)

  pub value_serves : (w : World) (at : Place) (f : Found) → Served f → Tells w (λ o. Value (found o (value_exp f) false)) (checked.value_rule at f.operand)
  value_serves w at f (inl h) = told w (λ o t. inl (value_is gs no_atoms n f h o t)) (value_tells w at f.operand h.type h.is)
  value_serves w at f (inr d) =
      told w (λ o t. inr (record { type = t.type; no_place = t.no_place; no_target = t.no_target; no_address = refl; form = done_value f d })) (value_tells w at f.operand void d.type)

  pub address_serves : (w : World) (at : Place) (f : Found) → Served f → Tells w (λ o. Served (found o f.exp false)) (checked.address_rule at f.operand)
  address_serves w at f (inl h) = told w (λ o t. inl (address_is gs no_atoms n f h o t.0 t.1)) (address_tells w at f.operand h.type h.is)
  address_serves w at f (inr d) = told w (λ o t. clash (sym (both_false f.operand.is_place f.operand.is_target d.no_place d.no_target) ∙ t.0)) (address_tells w at f.operand void d.type)

  pub target_serves : (w : World) (at : Place) (f : Found) → Value f → Tells w (λ o. Served (found o f.exp true)) (checked.target_rule at f.operand)
  target_serves w at f (inl h) = told w (λ o t. inl (target_is gs no_atoms n f h o t)) (target_tells w at f.operand h.type h.is)
  target_serves w at f (inr d) = told w (λ o t. none_not t.is) (target_tells w at f.operand void d.type)

  pub sign_serves : (w : World) (at : Place) (op : UnOp) (f : Found) → gives_value op ≡ true → Value f
      → Tells w (λ o. Served (found o (over_type f.operand.type (λ t. of.unary_exp op t f.exp)) false)) (checked.sign_rule at op f.operand)
  sign_serves w at op f g (inl h) = told w (λ o t. inl (sign_is gs no_atoms n op f h o g t)) (sign_tells w at op f.operand h.type h.is)
  sign_serves w at op f g (inr d) = told w (λ o t. no_unary op t.type t.is) (sign_tells w at op f.operand void d.type)

  pub binary_serves : (w : World) (at : Place) (op : BinOp) (a b : Found) → Value a → Value b
      → Tells w (λ o. Served (found o (over_types a.operand.type b.operand.type (λ s t. of.binary_exp w op s a.exp t b.exp)) false)) (checked.binary_rule at op a.operand b.operand)
  binary_serves w at op a b (inl h) (inl g) = told w (λ o t. inl (both_is gs no_atoms n w op a b h g o t)) (binary_tells w at op a.operand b.operand h.type g.type h.is g.is)
  binary_serves w at op a b (inl h) (inr d) = told w (λ o t. no_right (is_complete w) op h.type t.type (is_null a.operand) (is_null b.operand) t.is) (binary_tells w at op a.operand b.operand h.type void h.is d.type)
  binary_serves w at op a b (inr d) (inl g) = told w (λ o t. no_left (is_complete w) op g.type t.type (is_null a.operand) (is_null b.operand) t.is) (binary_tells w at op a.operand b.operand void g.type d.type g.is)
  binary_serves w at op a b (inr d) (inr c) = told w (λ o t. no_left (is_complete w) op void t.type (is_null a.operand) (is_null b.operand) t.is) (binary_tells w at op a.operand b.operand void void d.type c.type)

  pub index_serves : (w : World) (at : Place) (a b : Found) → Value a → Value b
      → Tells w (λ o. Served (found o (over_types a.operand.type b.operand.type (λ s t. of.element_exp w s a.exp t b.exp)) true)) (checked.index_rule at a.operand b.operand)
  index_serves w at a b (inl h) (inl g) = told w (λ o t. inl (index_is gs no_atoms n w a b h g o t)) (index_tells w at a.operand b.operand h.type g.type h.is g.is)
  index_serves w at a b (inl h) (inr d) = told w (λ o t. no_element_right (is_complete w) h.type t.type t.is) (index_tells w at a.operand b.operand h.type void h.is d.type)
  index_serves w at a b (inr d) (inl g) = told w (λ o t. no_element_left (is_complete w) g.type t.type t.is) (index_tells w at a.operand b.operand void g.type d.type g.is)
  index_serves w at a b (inr d) (inr c) = told w (λ o t. no_element_left (is_complete w) void t.type t.is) (index_tells w at a.operand b.operand void void d.type c.type)

  pub assign_serves : (w : World) (at : Place) (a b : Found) → Served a → Value b
      → Tells w (λ o. Served (found o (over_types a.operand.type b.operand.type (λ s t. of.assigned w s a.exp t b.exp)) false)) (checked.assign_rule at a.operand b.operand)
  assign_serves w at a b (inl h) (inl g) = told w (λ o t. inl (set_is gs no_atoms n w a b h g o t)) (assign_tells w at a.operand b.operand h.type g.type h.is g.is)
  assign_serves w at a b (inl h) (inr d) = told w (λ o t. no_assignable h.type (is_null b.operand) t.is_allowed) (assign_tells w at a.operand b.operand h.type void h.is d.type)
  assign_serves w at a b (inr d) (inl g) = told w (λ o t. clash (sym d.no_place ∙ t.is_place)) (assign_tells w at a.operand b.operand void g.type d.type g.is)
  assign_serves w at a b (inr d) (inr c) = told w (λ o t. clash (sym d.no_place ∙ t.is_place)) (assign_tells w at a.operand b.operand void void d.type c.type)

  pub compound_serves : (w : World) (at : Place) (op : BinOp) (a b : Found) → assigns op ≡ true → Served a → Value b
      → Tells w (λ o. Served (found o (over_types a.operand.type b.operand.type (λ s t. of.compound w op false s a.exp t b.exp)) false)) (checked.compound_rule at op a.operand b.operand)
  compound_serves w at op a b q (inl h) (inl g) = told w (λ o t. inl (compounded_is gs no_atoms n w op a b h g o q t)) (compound_tells w at op a.operand b.operand h.type g.type h.is g.is)
  compound_serves w at op a b q (inl h) (inr d) = told w (λ o t. no_compound (is_complete w) op h.type t.is_allowed) (compound_tells w at op a.operand b.operand h.type void h.is d.type)
  compound_serves w at op a b q (inr d) (inl g) = told w (λ o t. clash (sym d.no_place ∙ t.is_place)) (compound_tells w at op a.operand b.operand void g.type d.type g.is)
  compound_serves w at op a b q (inr d) (inr c) = told w (λ o t. clash (sym d.no_place ∙ t.is_place)) (compound_tells w at op a.operand b.operand void void d.type c.type)

  pub bump_serves : (w : World) (at : Place) (before up : Bool) (f : Found) → Served f
      → Tells w (λ o. Served (found o (over_type f.operand.type (λ t. of.bumped w before up t f.exp)) false)) (checked.bump_rule at f.operand)
  bump_serves w at before up f (inl h) = told w (λ o t. inl (bump_is gs no_atoms n w before up f h o t)) (bump_tells w at f.operand h.type h.is)
  bump_serves w at before up f (inr d) = told w (λ o t. clash (sym d.no_place ∙ t.is_place)) (bump_tells w at f.operand void d.type)

  -- a cast to void takes it
  cast_done : (w : World) (f : Found) (s : TyData) (o : OperandData) → Done f → IsCast s void o → Served (found o (cast_form w (Some s) f) false)
  cast_done w f void o d t = inr (record { type = t.of.type; no_place = t.of.no_place; no_target = t.of.no_target; no_address = refl; form = done_discarded w f d })
  cast_done w f (arithmetic a) o d t = no_cast (arithmetic a) refl (t.scalars refl)
  cast_done w f (pointer s) o d t = no_cast (pointer s) refl (t.scalars refl)
  cast_done w f (array s m) o d t = no_cast (array s m) refl (t.scalars refl)
  cast_done w f (structure k) o d t = no_cast (structure k) refl (t.scalars refl)

  pub cast_serves : (w : World) (at : Place) (s : TyData) (f : Found) → Served f → Tells w (λ o. Served (found o (cast_form w (Some s) f) false)) (checked.cast_rule at (Some s) f.operand)
  cast_serves w at s f (inl h) = told w (λ o t. inl (cast_fits gs no_atoms n w f h s o t)) (cast_tells w at (Some s) f.operand s h.type refl h.is)
  cast_serves w at s f (inr d) = told w (λ o t. cast_done w f s o d t) (cast_tells w at (Some s) f.operand s void refl d.type)
