-- What the checks take for a call of the library is one, whatever its pointers are.
use Rattle.std.proofs.Common.{◌≡◌, ◌∙◌, ℕ, List, [], ◌∷◌, Option, Some, None, Bool, true, false, refl, sym, ap, subst, inl, inr}
use Rattle.std.specs.Prelude.{◌&&◌, is_some, option_map, codes, ◌⊎◌, if◌then◌else◌}
use Rattle.ec_arguments.specs.Arguments.{Arg, null, TextArg, absent, word, held, Member, host, constant, descriptor, Statement, normal, prepared, immediate, opening, Call, run, connect, disconnect, set_connection, set_autocommit, control, prepare, deallocate, allocate_descriptor, deallocate_descriptor, get_count, set_count, get_items, set_items, Cut}
use Rattle.ec_arguments.specs.Reading.{read}
use Rattle.ec_arguments.specs.Rules.{is_single, is_value, is_target, are_targets, are_settings, is_optional_text, is_given_text, are_inputs, are_outputs, is_statement, is_call, ruled, cut}
use Rattle.ec_arguments.proofs.Told.{no_clash, left_true, right_true}
use Rattle.ec_ctypes.specs.declared.checked.library.LibName.{LibName}
use Rattle.ec_ctypes.specs.declared.checked.library.Sym.{Sym}
use Rattle.ec_ctypes.specs.declared.types.arith.Arith.TheVariants.{Int, Long}
use Rattle.ec_ctypes.specs.trees.Types.{TyData, void, arithmetic, pointer, array, structure}
use Rattle.ec_ctypes.specs.trees.Exprs.{ExprData, integer, string, identifier, ExprList, no_exprs, exprs}
use Rattle.ec_ctypes.specs.Texts.{symbol_text}
use Rattle.ec_language.specs.Letters.{Text, same_text}
use Rattle.ec_typing_defs.specs.Known.{symbols}
use Rattle.ec_typing_defs.specs.Library as checked
use Rattle.ec_typing_defs.specs.Library.{named_among, leads_to_text, cuts}
use Rattle.ec_typing_defs.specs.Operands.{types_of}
use Rattle.ec_meaning_defs.specs.resolved.Resolved.{Exp}
use Rattle.ec_resolving_defs.specs.Operands as form
use Rattle.ec_resolving_defs.specs.Operands.{Found, operands_of}
use Rattle.ec_sound_defs.specs.Written.{without_pointer, shape, any}
use Rattle.ec_sound_defs.proofs.Shapes.{cut_shape, call_shape, read_by, call_same}
use Rattle.ec_sound_form_laws.specs.Laws.{names_symbol, AllTyped, CutsAreCalls}

-- ---- the rules ask less where any pointer may lead to a text

abbrev nothing : Option (Cut (Unit {0}))
nothing = None

two : (a b : Bool) → a ≡ true → b ≡ true → (a && b) ≡ true
two true b e f = f
two false b e f = no_clash e

module _ {A : Type 0} (is_text : A → Bool) where
  any_optional : (t : TextArg A) → is_optional_text any t ≡ true
  any_optional absent = refl
  any_optional (word bytes) = refl
  any_optional (held a) = refl

  any_given : (t : TextArg A) → is_given_text is_text t ≡ true → is_given_text any t ≡ true
  any_given absent e = no_clash e
  any_given (word bytes) e = refl
  any_given (held a) e = refl

  any_inputs : (ms : List (Member A)) → are_inputs is_text ms ≡ true → are_inputs any ms ≡ true
  any_inputs [] e = refl
  any_inputs (host p ∷ ms) e = two (is_single p) (are_inputs any ms) (left_true (is_single p) (are_inputs is_text ms) e) (any_inputs ms (right_true (is_single p) (are_inputs is_text ms) e))
  any_inputs (constant bytes ∷ ms) e = any_inputs ms e
  any_inputs (descriptor name ∷ []) e = any_given name e
  any_inputs (descriptor name ∷ m ∷ ms) e = no_clash e

  any_outputs : (ms : List (Member A)) → are_outputs is_text ms ≡ true → are_outputs any ms ≡ true
  any_outputs [] e = refl
  any_outputs (host p ∷ ms) e = e
  any_outputs (constant bytes ∷ ms) e = e
  any_outputs (descriptor name ∷ []) e = any_given name e
  any_outputs (descriptor name ∷ m ∷ ms) e = e

  any_statement : (x : Statement A) → is_statement is_text x ≡ true → is_statement any x ≡ true
  any_statement (normal text) e = refl
  any_statement (prepared name) e = refl
  any_statement (immediate text) e = any_given text e
  any_statement (opening head name) e = refl

  any_call : (c : Call A) → is_call is_text c ≡ true → is_call any c ≡ true
  any_call (run connection x ins outs) e =
      let a = is_optional_text is_text connection in let b = is_statement is_text x in let c = are_inputs is_text ins in let d = are_outputs is_text outs in
      let f = left_true (a && b && c) d e in
      two (is_optional_text any connection && is_statement any x && are_inputs any ins) (are_outputs any outs)
      (two (is_optional_text any connection && is_statement any x) (are_inputs any ins)
      (two (is_optional_text any connection) (is_statement any x) (any_optional connection) (any_statement x (right_true a b (left_true (a && b) c f))))
      (any_inputs ins (right_true (a && b) c f)))
      (any_outputs outs (right_true (a && b && c) d e))
  any_call (connect target user password name) e =
      let a = is_given_text is_text target in let b = is_optional_text is_text user in let c = is_optional_text is_text password in let d = is_optional_text is_text name in
      two (is_given_text any target && is_optional_text any user && is_optional_text any password) (is_optional_text any name)
      (two (is_given_text any target && is_optional_text any user) (is_optional_text any password)
      (two (is_given_text any target) (is_optional_text any user) (any_given target (left_true a b (left_true (a && b) c (left_true (a && b && c) d e)))) (any_optional user))
      (any_optional password))
      (any_optional name)
  any_call (disconnect name) e = any_given name e
  any_call (set_connection name) e = any_given name e
  any_call (set_autocommit on connection) e = any_optional connection
  any_call (control connection text) e = any_optional connection
  any_call (prepare connection name text) e =
      two (is_optional_text any connection) (is_given_text any text) (any_optional connection) (any_given text (right_true (is_optional_text is_text connection) (is_given_text is_text text) e))
  any_call (deallocate connection name) e = any_optional connection
  any_call (allocate_descriptor name) e = any_given name e
  any_call (deallocate_descriptor name) e = any_given name e
  any_call (get_count name target) e =
      two (is_given_text any name) (is_target target) (any_given name (left_true (is_given_text is_text name) (is_target target) e)) (right_true (is_given_text is_text name) (is_target target) e)
  any_call (set_count name value) e =
      two (is_given_text any name) (is_value value) (any_given name (left_true (is_given_text is_text name) (is_value value) e)) (right_true (is_given_text is_text name) (is_value value) e)
  any_call (get_items name index items) e =
      let a = is_given_text is_text name in let b = is_value index in let c = are_targets items in
      let f = left_true (a && b) c e in
      two (is_given_text any name && b) c (two (is_given_text any name) b (any_given name (left_true a b f)) (right_true a b f)) (right_true (a && b) c e)
  any_call (set_items name index items) e =
      let a = is_given_text is_text name in let b = is_value index in let c = are_settings items in
      let f = left_true (a && b) c e in
      two (is_given_text any name && b) c (two (is_given_text any name) b (any_given name (left_true a b f)) (right_true a b f)) (right_true (a && b) c e)

  abbrev none : Option (Cut A)
  none = None

  kept : (c : Cut A) (t : Bool) → is_call is_text c.call ≡ t → is_some (elim t [ true ↦ Some c | false ↦ none ]) ≡ true → is_call is_text c.call ≡ true
  kept c true e h = e
  kept c false e h = no_clash h

  ruled_shape : (o : Option (Cut A)) → is_some (ruled is_text o) ≡ true → is_some (ruled any (option_map cut_shape o)) ≡ true
  ruled_shape None h = no_clash h
  ruled_shape (Some c) h =
      let e : is_call any (call_shape c.call) ≡ true = call_same c.call ∙ any_call c.call (kept c (is_call is_text c.call) refl h) in
      ap (λ t. is_some (elim t [ true ↦ Some (cut_shape c) | false ↦ nothing ])) e

  cut_is : (name : LibName) (args : List (Arg A)) → is_some (cut is_text name args) ≡ true → is_some (cut any name (shape args)) ≡ true
  cut_is name args h = subst (λ o. is_some (ruled any o) ≡ true) (sym (read_by name args)) (ruled_shape (read name args) h)

-- ---- the arguments that the checks see have the shape of those that are resolved

pointer_shape : (t : TyData) (e : Exp) → without_pointer (form.pointer_argument (Some t) e) ≡ without_pointer (checked.pointer_argument (Some t))
pointer_shape void e = refl
pointer_shape (arithmetic a) e = refl
pointer_shape (pointer t) e = refl
pointer_shape (array t n) e = refl
pointer_shape (structure k) e = refl

typed_shape : (t : Option TyData) (e : Exp) → ((s : TyData) × (t ≡ Some s)) → without_pointer (form.pointer_argument t e) ≡ without_pointer (checked.pointer_argument t)
typed_shape t e h = subst (λ u. without_pointer (form.pointer_argument u e) ≡ without_pointer (checked.pointer_argument u)) (sym h.1) (pointer_shape h.0 e)

null_or : (b : Bool) (t : Option TyData) (e : Exp) → ((s : TyData) × (t ≡ Some s)) → without_pointer (if b then null else form.pointer_argument t e) ≡ without_pointer (if b then null else checked.pointer_argument t)
null_or true t e h = refl
null_or false t e h = typed_shape t e h

name_shape : (x : Text) (o : Option Sym) (f : Found) → ((is_some o ≡ true) ⊎ ((s : TyData) × (f.operand.type ≡ Some s))) → without_pointer (form.name_argument x o f) ≡ without_pointer (checked.name_argument x o f.operand.type)
name_shape x (Some s) f h = refl
name_shape x None f (inl e) = no_clash e
name_shape x None f (inr h) = null_or (same_text x (codes "NULL")) f.operand.type f.exp h

constant_shape : (n : ℕ) (t : TyData) → without_pointer (form.constant_argument n t) ≡ without_pointer (checked.constant_argument n t)
constant_shape n (arithmetic Int) = refl
constant_shape n (arithmetic Long) = refl
constant_shape n _ = refl

argument_shape : (e : ExprData) (f : Found) → ((names_symbol e ≡ true) ⊎ ((s : TyData) × (f.operand.type ≡ Some s))) → without_pointer (form.argument_of e f) ≡ without_pointer (checked.argument_of e f.operand.type)
argument_shape (identifier x) f h = name_shape x (named_among symbol_text x symbols) f h
argument_shape (string s) f h = refl
argument_shape (integer n t) f h = constant_shape n t
argument_shape _ f (inl e) = no_clash e
argument_shape _ f (inr h) = typed_shape f.operand.type f.exp h

arguments_shape : (es : ExprList) (fs : List Found) → AllTyped es fs → shape (form.arguments_of_call es fs) ≡ shape (checked.arguments_of_call es (types_of (operands_of fs)))
arguments_shape no_exprs fs h = refl
arguments_shape (exprs e es) [] h = refl
arguments_shape (exprs e es) (f ∷ fs) h = let a = argument_shape e f h.0 in let b = arguments_shape es fs h.1 in λ i. a i ∷ b i

pub cuts_are_calls : CutsAreCalls
cuts_are_calls name es fs h e =
    subst (λ args. is_some (cut any name args) ≡ true) (sym (arguments_shape es fs h)) (cut_is leads_to_text name (checked.arguments_of_call es (types_of (operands_of fs))) e)
