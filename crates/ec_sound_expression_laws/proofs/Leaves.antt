-- What rules find out about operands, beside their forms.
use Rattle.std.proofs.Common.{◌≡◌, inl, inr, ℕ, Bool, true, false, List, length, Option, Some, None, refl, sym, subst, slice_get, codes}
use Rattle.std.specs.Prelude.{is_some, option_and_then, pos, if◌then◌else◌}
use Rattle.ec_base.specs.declared.fault.FaultKind.TheVariants.{F11, F14}
use Rattle.ec_ctypes.specs.declared.tree.expr.BinOp.{BinOp}
use Rattle.ec_ctypes.specs.declared.tree.expr.UnOp.{UnOp}
use Rattle.ec_ctypes.specs.declared.tree.expr.UnOp.TheVariants.{Addr, Deref, Plus, Minus, Not, Flip}
use Rattle.ec_ctypes.specs.trees.Types.{TyData, void, pointer, structure}
use Rattle.ec_language.specs.Letters.{Text, same_text}
use Rattle.ec_typing_defs.specs.Known.{known_function}
use Rattle.ec_typing_defs.specs.Types.{int_type, struct_number, pointed_to}
use Rattle.ec_typing_defs.specs.Operands as checked
use Rattle.ec_typing_defs.specs.Operands.{OperandData, unknown, object_operand, null_operand, integer_operand, literal_operand, size_operand, named_by, predefined}
use Rattle.ec_typing_defs.specs.Worlds.{Place, EntryData, object as object_entry, function as function_entry, World, Rule, look_up, members_of, shape_in, chain as check_chain, pure as check_pure, note}
use Rattle.ec_memory_defs.specs.Memory.{number, address}
use Rattle.ec_meaning_defs.specs.resolved.Resolved.{constant, faulty}
use Rattle.ec_resolving_defs.specs.Agreement.{operand_of}
use Rattle.ec_resolving_defs.specs.Conversions as of
use Rattle.ec_resolving_defs.specs.Operands.{Found, found, named_exp, predefined_exp, name_rule, literal_rule, value_exp, value_rule, address_rule, unary_rule, binary_rule, index_rule, assign_rule, compound_rule, bump_rule, over_type, over_types, member_exp, member_rule, target_struct, arrow_rule, cast_form, cast_rule, size_exp, size_rule}
use Rattle.ec_resolving_defs.specs.Storage.{Storage, Site, numbered, slotted, nowhere, site_exp, sqlca, literal_object, LibraryCall, Resolving, chain, pure, checks, ask, stored, arrange}
use Rattle.ec_sim_world_laws.proofs.growth_lemmas.Rules.{grows_itself, begins_itself}
use Rattle.ec_sim_world_laws.proofs.growth_lemmas.Operands.{name_grows, value_grows, address_grows, unary_grows, binary_grows, index_grows, assign_grows, compound_grows, bump_grows, member_grows, arrow_grows, cast_grows, size_grows}
use Rattle.ec_sim_world_laws.specs.closing.Closing.{IsTyped}
use Rattle.ec_sim_program_laws.proofs.types_lemmas.Rules.{EntryIn, name_typed}
use Rattle.ec_sim_program_laws.proofs.types_lemmas.Structs.{whole_complete, type_shaped}
use Rattle.ec_sound_defs.specs.Sorts.{address_sort}
use Rattle.ec_sound_defs.specs.Sound.{Signature, Has, no_atoms}
use Rattle.ec_sound_form_laws.specs.Names.{SiteStands}
use Rattle.ec_sound_form_laws.specs.Fits.{IsValue, FoundFits}
use Rattle.ec_sound_form_laws.specs.Laws.{assigns, gives_value}
use Rattle.ec_sound_form_laws.proofs.Answered.{Tells, told, pure_tells, asked, fault, member_tells, arrow_tells, size_tells}
use Rattle.ec_sound_form_laws.proofs.Found.{computed_is, place_is, member_is, arrow_is, size_is}
use Rattle.ec_sound_expression_laws.specs.Standing.{Serves, ServesAsValue}
use Rattle.ec_sound_expression_laws.proofs.Basics.{clash, none_not}
use Rattle.ec_sound_expression_laws.proofs.Done.{value_serves, address_serves, target_serves, sign_serves, binary_serves, index_serves, assign_serves, compound_serves, bump_serves, cast_serves}
use Rattle.ec_sound_expression_laws.proofs.Offsets.{has_offset, member_typed, is_there}
use Rattle.ec_sound_expression_laws.proofs.Walks.{Stands, Walk, leaf}

module _ (gs : List Signature) (calls : List LibraryCall) (n : ℕ) (written : Bool) where
  abbrev Served : Found → Type 0
  Served f = Serves gs calls n f

  abbrev Value : Found → Type 0
  Value f = ServesAsValue gs calls n f

  abbrev Walks : Type 0 → Resolving Found → Rule OperandData → Type 0
  Walks R m c = Walk gs calls n written operand_of R Served m c

  abbrev Standing : Storage → World → Type 0
  Standing s w = Stands gs calls n written s w

  -- ---- names

  site_is : (o : Option Site) → SiteStands n o → Has gs no_atoms n address_sort (site_exp o)
  site_is None h = absurd h
  site_is (Some (numbered k)) h = tt
  site_is (Some (slotted i)) h = (tt, h)
  site_is (Some nowhere) h = absurd h

  object_is : (global : Bool) (t : Option TyData) (o : Option Site) → IsTyped t → SiteStands n o → Served (found (object_operand global t) (site_exp o) true)
  object_is global None o typed h = absurd typed
  object_is global (Some t) o typed h = inl (place_is gs no_atoms n t (object_operand global (Some t)) (site_exp o) refl (site_is o h))

  predefined_tells : (w : World) (at : Place) (name : Text) → Tells w (λ o. Served (found o (predefined_exp name) o.is_place)) (predefined at name)
  predefined_tells w at name = by_name (same_text name (codes "sqlca")) (same_text name (codes "NULL")) (same_text name (codes "true")) (same_text name (codes "false")) (is_some (known_function name))
    where
      by_name : (a b c d e : Bool) → Tells w (λ o. Served (found o (if a then sqlca else (if b then constant (address 0) else (if c then constant (number (pos 1)) else (if d then constant (number (pos 0)) else faulty)))) o.is_place))
          (if a then check_pure (object_operand true (Some (structure 1))) else (if b then check_pure null_operand else (if c then check_pure (integer_operand int_type (pos 1))
          else (if d then check_pure (integer_operand int_type (pos 0)) else (if e then check_chain (note at F14) (λ u. check_pure unknown) else check_chain (note at F11) (λ u. check_pure unknown))))))
      by_name true b c d e = pure_tells w _ (inl (place_is gs no_atoms n (structure 1) (object_operand true (Some (structure 1))) sqlca refl tt))
      by_name false true c d e = pure_tells w _ (inl (computed_is gs no_atoms n (pointer void) null_operand (constant (address 0)) (record { type = refl; no_place = refl; no_target = refl }) tt))
      by_name false false true d e = pure_tells w _ (inl (computed_is gs no_atoms n int_type (integer_operand int_type (pos 1)) (constant (number (pos 1))) (record { type = refl; no_place = refl; no_target = refl }) tt))
      by_name false false false true e = pure_tells w _ (inl (computed_is gs no_atoms n int_type (integer_operand int_type (pos 0)) (constant (number (pos 0))) (record { type = refl; no_place = refl; no_target = refl }) tt))
      by_name false false false false true = fault w at F14 unknown
      by_name false false false false false = fault w at F11 unknown

  named_tells : (s : Storage) (w : World) → Standing s w → (at : Place) (name : Text) (entry : Option EntryData) → look_up name w ≡ entry
      → Tells w (λ o. Served (found o (named_exp s.sites name entry) o.is_place)) (named_by at name entry)
  unfolding named_by
  named_tells s w stands at name (Some (object_entry k global t)) is =
      pure_tells w _ (object_is global t (slice_get s.sites k) (subst EntryIn is (name_typed name w stands.sound)) (stands.names.stand name (object_entry k global t) is))
  named_tells s w stands at name (Some (function_entry k done r ps)) is = fault w at F14 unknown
  named_tells s w stands at name None is = predefined_tells w at name

  name_tells : (s : Storage) (w : World) → Standing s w → (at : Place) (name : Text) → Tells w (λ o. Served (found o (named_exp s.sites name (look_up name w)) o.is_place)) (checked.name_rule at name)
  unfolding checked.name_rule
  name_tells s w stands at name = asked w _ _ (named_tells s w stands at name (look_up name w) refl)

  pub name_walks : {R : Type 0} (at : Place) (name : Text) → Walks R (name_rule at name) (checked.name_rule at name)
  unfolding chain ask stored checks pure
  name_walks at name = leaf gs calls n written _ _ (λ s w o. found o (named_exp s.sites name (look_up name w)) o.is_place) (λ s w. refl) (λ s w o. refl) (name_grows at name) (λ s w stands r. name_tells s w stands at name)

  pub literal_walks : {R : Type 0} (text : Text) → Walks R (literal_rule text) (check_pure (literal_operand (length text)))
  unfolding chain stored arrange pure check_pure
  literal_walks text = record {
    steps = λ s w. record {
      answer = refl;
      world = refl;
      grows = grows_itself w;
      calls_grow = begins_itself s.calls;
      fits = λ stands r found shallow front. (
        record { is_written = stands.is_written; sound = stands.sound; names = stands.names },
        inl (place_is gs no_atoms n _ (literal_operand (length text)) (literal_object s) refl tt),
      );
    };
  }

  -- ---- operators

  pub value_walks : (at : Place) (f : Found) → Walk gs calls n written operand_of (Served f) Value (value_rule at f) (checked.value_rule at f.operand)
  unfolding chain checks pure
  value_walks at f = leaf gs calls n written _ _ (λ s w o. found o (value_exp f) false) (λ s w. refl) (λ s w o. refl) (value_grows at f.operand) (λ s w stands r. value_serves gs calls n w at f r)

  pub address_walks : (at : Place) (f : Found) → Walks (Served f) (address_rule at f) (checked.address_rule at f.operand)
  unfolding chain checks pure
  address_walks at f = leaf gs calls n written _ _ (λ s w o. found o f.exp false) (λ s w. refl) (λ s w o. refl) (address_grows at f.operand) (λ s w stands r. address_serves gs calls n w at f r)

  pub target_walks : (at : Place) (f : Found) → Walks (Value f) (unary_rule at Deref f) (checked.unary_rule at Deref f.operand)
  unfolding chain checks pure
  target_walks at f = leaf gs calls n written _ _ (λ s w o. found o f.exp true) (λ s w. refl) (λ s w o. refl) (unary_grows at Deref f.operand) (λ s w stands r. target_serves gs calls n w at f r)

  pub sign_walks : (at : Place) (op : UnOp) → gives_value op ≡ true → (f : Found) → Walks (Value f) (unary_rule at op f) (checked.unary_rule at op f.operand)
  unfolding chain checks pure
  sign_walks at Plus g f = leaf gs calls n written _ _ (λ s w o. found o (over_type f.operand.type (λ t. of.unary_exp Plus t f.exp)) false) (λ s w. refl) (λ s w o. refl) (unary_grows at Plus f.operand) (λ s w stands r. sign_serves gs calls n w at Plus f refl r)
  sign_walks at Minus g f = leaf gs calls n written _ _ (λ s w o. found o (over_type f.operand.type (λ t. of.unary_exp Minus t f.exp)) false) (λ s w. refl) (λ s w o. refl) (unary_grows at Minus f.operand) (λ s w stands r. sign_serves gs calls n w at Minus f refl r)
  sign_walks at Not g f = leaf gs calls n written _ _ (λ s w o. found o (over_type f.operand.type (λ t. of.unary_exp Not t f.exp)) false) (λ s w. refl) (λ s w o. refl) (unary_grows at Not f.operand) (λ s w stands r. sign_serves gs calls n w at Not f refl r)
  sign_walks at Flip g f = leaf gs calls n written _ _ (λ s w o. found o (over_type f.operand.type (λ t. of.unary_exp Flip t f.exp)) false) (λ s w. refl) (λ s w o. refl) (unary_grows at Flip f.operand) (λ s w stands r. sign_serves gs calls n w at Flip f refl r)
  sign_walks at Addr g f = clash g
  sign_walks at Deref g f = clash g

  pub binary_walks : (at : Place) (op : BinOp) (a b : Found) → Walks (Value a × Value b) (binary_rule at op a b) (checked.binary_rule at op a.operand b.operand)
  unfolding chain ask checks pure
  binary_walks at op a b = leaf gs calls n written _ _ (λ s w o. found o (over_types a.operand.type b.operand.type (λ s t. of.binary_exp w op s a.exp t b.exp)) false) (λ s w. refl) (λ s w o. refl) (binary_grows at op a.operand b.operand) (λ s w stands r. binary_serves gs calls n w at op a b r.0 r.1)

  pub index_walks : (at : Place) (a b : Found) → Walks (Value a × Value b) (index_rule at a b) (checked.index_rule at a.operand b.operand)
  unfolding chain ask checks pure
  index_walks at a b = leaf gs calls n written _ _ (λ s w o. found o (over_types a.operand.type b.operand.type (λ s t. of.element_exp w s a.exp t b.exp)) true) (λ s w. refl) (λ s w o. refl) (index_grows at a.operand b.operand) (λ s w stands r. index_serves gs calls n w at a b r.0 r.1)

  pub assign_walks : (at : Place) (a b : Found) → Walks (Served a × Value b) (assign_rule at a b) (checked.assign_rule at a.operand b.operand)
  unfolding chain ask checks pure
  assign_walks at a b = leaf gs calls n written _ _ (λ s w o. found o (over_types a.operand.type b.operand.type (λ s t. of.assigned w s a.exp t b.exp)) false) (λ s w. refl) (λ s w o. refl) (assign_grows at a.operand b.operand) (λ s w stands r. assign_serves gs calls n w at a b r.0 r.1)

  pub compound_walks : (at : Place) (op : BinOp) → assigns op ≡ true → (a b : Found) → Walks (Served a × Value b) (compound_rule at op a b) (checked.compound_rule at op a.operand b.operand)
  unfolding chain ask checks pure
  compound_walks at op q a b = leaf gs calls n written _ _ (λ s w o. found o (over_types a.operand.type b.operand.type (λ s t. of.compound w op false s a.exp t b.exp)) false) (λ s w. refl) (λ s w o. refl) (compound_grows at op a.operand b.operand) (λ s w stands r. compound_serves gs calls n w at op a b q r.0 r.1)

  pub bump_walks : (at : Place) (before up : Bool) (f : Found) → Walks (Served f) (bump_rule at before up f) (checked.bump_rule at f.operand)
  unfolding chain ask checks pure
  bump_walks at before up f = leaf gs calls n written _ _ (λ s w o. found o (over_type f.operand.type (λ t. of.bumped w before up t f.exp)) false) (λ s w. refl) (λ s w o. refl) (bump_grows at f.operand) (λ s w stands r. bump_serves gs calls n w at before up f r)

  -- ---- members

  member_found : (s : Storage) (w : World) → Standing s w → (at : Place) (f : Found) (h : FoundFits gs no_atoms n f) (m : Text) (o : OperandData) (t : Option TyData) (k : ℕ) → struct_number h.type ≡ Some k
      → checked.member_type m (members_of k w) ≡ Some t → o.type ≡ t → Served (found o (member_exp w (option_and_then struct_number f.operand.type) m f.exp) true)
  member_found s w stands at f h m o None k is e g = absurd (member_typed w stands.sound k m None e)
  member_found s w stands at f h m o (Some t) k is e g = inl (member_is gs no_atoms n w f h k m o t is (has_offset w stands.sound k m (Some t) e) g)

  member_serves : (s : Storage) (w : World) → Standing s w → (at : Place) (f : Found) (m : Text) → Served f → Tells w (λ o. Served (found o (member_exp w (option_and_then struct_number f.operand.type) m f.exp) true)) (checked.member_rule at f.operand m)
  member_serves s w stands at f m (inl h) = told w (λ o t. member_found s w stands at f h m o t.type t.number t.is t.found t.of) (member_tells w at f.operand m h.type h.is)
  member_serves s w stands at f m (inr d) = told w (λ o t. none_not t.is) (member_tells w at f.operand m void d.type)

  arrow_found : (s : Storage) (w : World) → Standing s w → (at : Place) (f : Found) (h : IsValue gs no_atoms n f) (m : Text) (o : OperandData) (t : Option TyData) (k : ℕ) → option_and_then struct_number (pointed_to h.type) ≡ Some k
      → checked.member_type m (members_of k w) ≡ Some t → o.type ≡ t → Served (found o (member_exp w (target_struct f.operand.type) m f.exp) true)
  arrow_found s w stands at f h m o None k is e g = absurd (member_typed w stands.sound k m None e)
  arrow_found s w stands at f h m o (Some t) k is e g = inl (arrow_is gs no_atoms n w f h k m o t is (has_offset w stands.sound k m (Some t) e) g)

  arrow_serves : (s : Storage) (w : World) → Standing s w → (at : Place) (f : Found) (m : Text) → Value f → Tells w (λ o. Served (found o (member_exp w (target_struct f.operand.type) m f.exp) true)) (checked.arrow_rule at f.operand m)
  arrow_serves s w stands at f m (inl h) = told w (λ o t. arrow_found s w stands at f h m o t.type t.number t.is t.found t.of) (arrow_tells w at f.operand m h.type h.is)
  arrow_serves s w stands at f m (inr d) = told w (λ o t. none_not t.is) (arrow_tells w at f.operand m void d.type)

  pub member_walks : (at : Place) (f : Found) (m : Text) → Walks (Served f) (member_rule at f m) (checked.member_rule at f.operand m)
  unfolding chain ask checks pure
  member_walks at f m = leaf gs calls n written _ _ (λ s w o. found o (member_exp w (option_and_then struct_number f.operand.type) m f.exp) true) (λ s w. refl) (λ s w o. refl) (member_grows at f.operand m) (λ s w stands r. member_serves s w stands at f m r)

  pub arrow_walks : (at : Place) (f : Found) (m : Text) → Walks (Value f) (arrow_rule at f m) (checked.arrow_rule at f.operand m)
  unfolding chain ask checks pure
  arrow_walks at f m = leaf gs calls n written _ _ (λ s w o. found o (member_exp w (target_struct f.operand.type) m f.exp) true) (λ s w. refl) (λ s w o. refl) (arrow_grows at f.operand m) (λ s w stands r. arrow_serves s w stands at f m r)

  -- ---- casts and sizes

  pub cast_walks : (at : Place) (to : Option TyData) (f : Found) → Walks (IsTyped to × Served f) (cast_rule at to f) (checked.cast_rule at to f.operand)
  unfolding chain ask checks pure
  cast_walks at None f = leaf gs calls n written _ _ (λ s w o. found o (cast_form w None f) false) (λ s w. refl) (λ s w o. refl) (cast_grows at None f.operand) (λ s w stands r. absurd r.0)
  cast_walks at (Some t) f = leaf gs calls n written _ _ (λ s w o. found o (cast_form w (Some t) f) false) (λ s w. refl) (λ s w o. refl) (cast_grows at (Some t) f.operand) (λ s w stands r. cast_serves gs calls n w at t f r.1)

  size_serves : (s : Storage) (w : World) → Standing s w → (at : Place) (t : TyData) → Tells w (λ o. Served (found o (size_exp w (Some t)) false)) (checked.size_rule at (Some t))
  size_serves s w stands at t = told w (λ o h.
      let shape = is_there (shape_in w t) (type_shaped w.structs stands.sound.structs t (whole_complete w t h.0)) in
      inl (size_is gs no_atoms n w (Some t) t shape.value o refl shape.is h.1)) (size_tells w at (Some t) t refl)

  pub size_walks : (at : Place) (to : Option TyData) → Walks (IsTyped to) (size_rule at to) (checked.size_rule at to)
  unfolding chain ask checks pure
  size_walks at None = leaf gs calls n written _ _ (λ s w o. found o (size_exp w None) false) (λ s w. refl) (λ s w o. refl) (size_grows at None) (λ s w stands r. absurd r)
  size_walks at (Some t) = leaf gs calls n written _ _ (λ s w o. found o (size_exp w (Some t)) false) (λ s w. refl) (λ s w o. refl) (size_grows at (Some t)) (λ s w stands r. size_serves s w stands at t)

  pub served_type : (f : Found) → Served f → IsTyped f.operand.type
  served_type f (inl h) = subst IsTyped (sym h.is) tt
  served_type f (inr d) = subst IsTyped (sym d.type) tt
