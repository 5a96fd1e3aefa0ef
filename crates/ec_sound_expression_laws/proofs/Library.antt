-- A call of the library serves where it is evaluated: its list is a call, and its pointers lead to addresses.
use Rattle.std.proofs.Common.{◌≡◌, ◌∙◌, ◌⊎◌, inl, inr, ℕ, zero, Bool, true, false, ◌&&◌, ◌||◌, List, [], ◌∷◌, ◌++◌, length, map, replicate, Option, Some, None, refl, sym, ap, subst, slice_get, codes}
use Rattle.std.specs.Prelude.{is_some, if◌then◌else◌}
use Rattle.ec_arguments.specs.Arguments.{Arg, symbol, literal, null, int_constant, long_constant, pointer as pointer_arg, stray}
use Rattle.ec_arguments.specs.Rules.{cut}
use Rattle.ec_ctypes.specs.declared.checked.library.LibName.{LibName}
use Rattle.ec_ctypes.specs.declared.checked.library.Sym.{Sym}
use Rattle.ec_ctypes.specs.declared.types.arith.Arith.TheVariants.{Int, Long}
use Rattle.ec_ctypes.specs.trees.Types.{TyData, void, arithmetic, pointer, array, structure}
use Rattle.ec_ctypes.specs.trees.Exprs.{ExprData, integer, character, string, identifier, unary, binary, assign, bump, call, call_other, index, member, arrow, cast, size_type, size_expr, ExprList, no_exprs, exprs}
use Rattle.ec_ctypes.specs.Texts.{symbol_text}
use Rattle.ec_language.specs.Letters.{Text, same_text}
use Rattle.ec_typing_defs.specs.Tables.{is_one_of}
use Rattle.ec_typing_defs.specs.Known.{symbols, library_symbols, is_symbol, takes_stream, library_calls, ArgumentsData, all_expressions, stream_first, with_symbols, arguments_of, is_no_expression, behind_first_argument}
use Rattle.ec_typing_defs.specs.Library.{named_among, cuts}
use Rattle.ec_typing_defs.specs.Operands.{types_of}
use Rattle.ec_meaning_defs.specs.observed.Run.{IsFront}
use Rattle.ec_meaning_defs.specs.resolved.Resolved.{Exp, library_call as library_exp_call}
use Rattle.ec_resolving_defs.specs.Calling.{any_calls_function}
use Rattle.ec_resolving_defs.specs.Operands.{Found, operands_of, is_library_literal, pointer_argument, constant_argument, name_argument, argument_of, arguments_of_call, pointers_of, evaluated_before, without_pointer, left_of}
use Rattle.ec_resolving_defs.specs.Storage.{LibraryCall}
use Rattle.ec_sim_world_laws.proofs.closing_lemmas.Lists.{get_front, get_last}
use Rattle.ec_sound_defs.specs.Sorts.{address_sort, any_sort}
use Rattle.ec_sound_defs.specs.Sound.{Signature, Has, HasEach, count_of, no_atoms}
use Rattle.ec_sound_defs.specs.Types.{type_sort}
use Rattle.ec_sound_defs.specs.Written.{shape, IsCall, Serve, CallServes, library_atoms}
use Rattle.ec_sound_form_laws.specs.Laws.{names_symbol, AllTyped}
use Rattle.ec_sound_form_laws.proofs.Lists.{cuts_are_calls}
use Rattle.ec_sound_expression_laws.specs.Arguments.{ArgumentServes, ArgumentsServe}
use Rattle.ec_sound_expression_laws.specs.Standing.{ServesAsValue}
use Rattle.ec_sound_expression_laws.proofs.Basics.{clash, with_atoms}
use Rattle.ec_sound_expression_laws.proofs.Names.{same_text_sym}
use Rattle.ec_sound_expression_laws.proofs.Strays.{NoStray, call_has_none}

-- ---- the forms of arguments

-- no stream among them
abbrev pub HasNoStream : ArgumentsData → Type 0
HasNoStream all_expressions = Unit {0}
HasNoStream stream_first = ⊥
HasNoStream with_symbols = Unit {0}

pub no_stream : (x : Text) (b : Bool) → takes_stream x ≡ false → HasNoStream (arguments_of b x)
no_stream x b e = by_tests (takes_stream x) (b && is_one_of library_calls x) e
  where
    by_tests : (t c : Bool) → t ≡ false → HasNoStream (if t then stream_first else (if c then with_symbols else all_expressions))
    by_tests true c e = clash (sym e)
    by_tests false true e = tt
    by_tests false false e = tt

-- ---- symbols

symbol_among : (x : Text) (ss : List Sym) → is_one_of (map symbol_text ss) x ≡ true → is_some (named_among symbol_text x ss) ≡ true
symbol_among x [] e = clash e
symbol_among x (s ∷ ss) e = go (same_text x (symbol_text s)) refl e (λ f. symbol_among x ss f)
  where
    go : (b : Bool) → same_text x (symbol_text s) ≡ b → (same_text (symbol_text s) x || is_one_of (map symbol_text ss) x) ≡ true
        → (is_one_of (map symbol_text ss) x ≡ true → is_some (named_among symbol_text x ss) ≡ true) → is_some (if b then Some s else named_among symbol_text x ss) ≡ true
    go true is e rest = refl
    go false is e rest = rest ((λ j. sym (same_text_sym (symbol_text s) x ∙ is) j || is_one_of (map symbol_text ss) x) ∙ e)

no_symbol_among : (x : Text) → named_among symbol_text x symbols ≡ None → is_one_of library_symbols x ≡ false
no_symbol_among x e = go (is_one_of library_symbols x) refl
  where
    go : (b : Bool) → is_one_of library_symbols x ≡ b → b ≡ false
    go true is = clash (sym (ap is_some e) ∙ symbol_among x symbols is)
    go false is = refl

symbol_named : (e : ExprData) → is_symbol e ≡ true → names_symbol e ≡ true
symbol_named (identifier x) h = symbol_among x symbols h
symbol_named (integer n t) h = clash h
symbol_named (character c) h = clash h
symbol_named (string s) h = clash h
symbol_named (unary op e) h = clash h
symbol_named (binary op a b) h = clash h
symbol_named (assign op a b) h = clash h
symbol_named (bump before up e) h = clash h
symbol_named (call f es) h = clash h
symbol_named (call_other f es) h = clash h
symbol_named (index a b) h = clash h
symbol_named (member e m) h = clash h
symbol_named (arrow e m) h = clash h
symbol_named (cast b stars e) h = clash h
symbol_named (size_type b stars) h = clash h
symbol_named (size_expr e) h = clash h

-- ---- pointers of a list

-- behind as many as are evaluated before
left_over : (gs : List Signature) (n : ℕ) (args : List (Arg Exp)) → NoStray args → Serve gs n (count_of (pointers_of args)) (map without_pointer args)
left_over gs n [] h = tt
left_over gs n (symbol s ∷ args) h = left_over gs n args h
left_over gs n (literal bytes ∷ args) h = left_over gs n args h
left_over gs n (null ∷ args) h = left_over gs n args h
left_over gs n (int_constant z ∷ args) h = left_over gs n args h
left_over gs n (long_constant z ∷ args) h = left_over gs n args h
left_over gs n (pointer_arg e ∷ args) h = left_over gs n args h
left_over gs n (stray ∷ args) h = absurd h

same_shape : (args : List (Arg Exp)) → shape (map without_pointer args) ≡ shape args
same_shape [] = refl
same_shape (symbol s ∷ args) = ap (λ xs. symbol s ∷ xs) (same_shape args)
same_shape (literal bytes ∷ args) = ap (λ xs. literal bytes ∷ xs) (same_shape args)
same_shape (null ∷ args) = ap (λ xs. null ∷ xs) (same_shape args)
same_shape (int_constant z ∷ args) = ap (λ xs. int_constant z ∷ xs) (same_shape args)
same_shape (long_constant z ∷ args) = ap (λ xs. long_constant z ∷ xs) (same_shape args)
same_shape (pointer_arg e ∷ args) = ap (λ xs. pointer_arg tt ∷ xs) (same_shape args)
same_shape (stray ∷ args) = ap (λ xs. stray ∷ xs) (same_shape args)

left_call : (b : Bool) (name : LibName) (args : List (Arg Exp)) → IsCall name args → IsCall name (left_of b args)
left_call true name args h = (λ j. is_some (cut (λ a. true) name (same_shape args j))) ∙ h
left_call false name args h = h

module _ (gs : List Signature) (calls : List LibraryCall) (n : ℕ) where
  -- each leads to an address
  abbrev PointersLead : List (Arg Exp) → Type 0
  PointersLead [] = Unit {0}
  PointersLead (symbol s ∷ args) = PointersLead args
  PointersLead (literal bytes ∷ args) = PointersLead args
  PointersLead (null ∷ args) = PointersLead args
  PointersLead (int_constant z ∷ args) = PointersLead args
  PointersLead (long_constant z ∷ args) = PointersLead args
  PointersLead (pointer_arg e ∷ args) = Has gs no_atoms n address_sort e × PointersLead args
  PointersLead (stray ∷ args) = PointersLead args

  all_left : (args : List (Arg Exp)) → NoStray args → PointersLead args → Serve gs n zero args
  all_left [] h p = tt
  all_left (symbol s ∷ args) h p = all_left args h p
  all_left (literal bytes ∷ args) h p = all_left args h p
  all_left (null ∷ args) h p = all_left args h p
  all_left (int_constant z ∷ args) h p = all_left args h p
  all_left (long_constant z ∷ args) h p = all_left args h p
  all_left (pointer_arg e ∷ args) h p = (p.0, all_left args h p.1)
  all_left (stray ∷ args) h p = absurd h

  pointers_before : (args : List (Arg Exp)) → PointersLead args → HasEach gs (library_atoms gs calls) n (replicate (count_of (pointers_of args)) address_sort) (pointers_of args)
  pointers_before [] p = tt
  pointers_before (symbol s ∷ args) p = pointers_before args p
  pointers_before (literal bytes ∷ args) p = pointers_before args p
  pointers_before (null ∷ args) p = pointers_before args p
  pointers_before (int_constant z ∷ args) p = pointers_before args p
  pointers_before (long_constant z ∷ args) p = pointers_before args p
  pointers_before (pointer_arg e ∷ args) p = (with_atoms gs (library_atoms gs calls) n e address_sort p.0, pointers_before args p.1)
  pointers_before (stray ∷ args) p = pointers_before args p

  -- one argument
  abbrev Leads : Arg Exp → Type 0
  Leads (symbol s) = Unit {0}
  Leads (literal bytes) = Unit {0}
  Leads null = Unit {0}
  Leads (int_constant z) = Unit {0}
  Leads (long_constant z) = Unit {0}
  Leads (pointer_arg e) = Has gs no_atoms n address_sort e
  Leads stray = Unit {0}

  and_others : (a : Arg Exp) (args : List (Arg Exp)) → Leads a → PointersLead args → PointersLead (a ∷ args)
  and_others (symbol s) args h p = p
  and_others (literal bytes) args h p = p
  and_others null args h p = p
  and_others (int_constant z) args h p = p
  and_others (long_constant z) args h p = p
  and_others (pointer_arg e) args h p = (h, p)
  and_others stray args h p = p

  typed_leads : (t : TyData) (e : Exp) → Has gs no_atoms n (type_sort t) e → Leads (pointer_argument (Some t) e)
  typed_leads void e h = tt
  typed_leads (arithmetic a) e h = tt
  typed_leads (pointer t) e h = h
  typed_leads (array t k) e h = tt
  typed_leads (structure k) e h = tt

  value_leads : (f : Found) → ServesAsValue gs calls n f → Leads (pointer_argument f.operand.type f.exp)
  value_leads f (inl h) = subst (λ x. Leads (pointer_argument x f.exp)) (sym h.is) (typed_leads h.type f.exp h.form)
  value_leads f (inr d) = subst (λ x. Leads (pointer_argument x f.exp)) (sym d.type) tt

  constant_leads : (k : ℕ) (t : TyData) → Leads (constant_argument k t)
  constant_leads k void = tt
  constant_leads k (arithmetic Int) = tt
  constant_leads k (arithmetic Long) = tt
  constant_leads k (arithmetic _) = tt
  constant_leads k (pointer t) = tt
  constant_leads k (array t j) = tt
  constant_leads k (structure j) = tt

  name_leads : (x : Text) (s : Option Sym) (f : Found) → (s ≡ None → ServesAsValue gs calls n f) → Leads (name_argument x s f)
  name_leads x (Some s) f h = tt
  name_leads x None f h = by_null (same_text x (codes "NULL"))
    where
      by_null : (b : Bool) → Leads (if b then null else pointer_argument f.operand.type f.exp)
      by_null true = tt
      by_null false = value_leads f (h refl)

  -- a name that is no symbol is an expression
  name_value : (forms : ArgumentsData) (x : Text) (f : Found) → HasNoStream forms → ArgumentServes gs calls n (is_no_expression forms (identifier x)) (is_library_literal forms (identifier x)) f
      → named_among symbol_text x symbols ≡ None → ServesAsValue gs calls n f
  name_value all_expressions x f g h e = h
  name_value stream_first x f g h e = absurd g
  name_value with_symbols x f g h e = subst (λ b. ArgumentServes gs calls n b false f) (no_symbol_among x e) h

  other_value : (forms : ArgumentsData) (e : ExprData) (f : Found) → HasNoStream forms → is_symbol e ≡ false → is_library_literal with_symbols e ≡ false
      → ArgumentServes gs calls n (is_no_expression forms e) (is_library_literal forms e) f → ServesAsValue gs calls n f
  other_value all_expressions e f g a b h = h
  other_value stream_first e f g a b h = absurd g
  other_value with_symbols e f g a b h = subst (λ c. ArgumentServes gs calls n false c f) b (subst (λ c. ArgumentServes gs calls n c (is_library_literal with_symbols e) f) a h)

  argument_leads : (forms : ArgumentsData) (e : ExprData) (f : Found) → HasNoStream forms → ArgumentServes gs calls n (is_no_expression forms e) (is_library_literal forms e) f → Leads (argument_of e f)
  argument_leads forms (identifier x) f g h = name_leads x (named_among symbol_text x symbols) f (λ e. name_value forms x f g h e)
  argument_leads forms (string s) f g h = tt
  argument_leads forms (integer k t) f g h = constant_leads k t
  argument_leads forms (character c) f g h = value_leads f (other_value forms (character c) f g refl refl h)
  argument_leads forms (unary op e) f g h = value_leads f (other_value forms (unary op e) f g refl refl h)
  argument_leads forms (binary op a b) f g h = value_leads f (other_value forms (binary op a b) f g refl refl h)
  argument_leads forms (assign op a b) f g h = value_leads f (other_value forms (assign op a b) f g refl refl h)
  argument_leads forms (bump before up e) f g h = value_leads f (other_value forms (bump before up e) f g refl refl h)
  argument_leads forms (call x es) f g h = value_leads f (other_value forms (call x es) f g refl refl h)
  argument_leads forms (call_other x es) f g h = value_leads f (other_value forms (call_other x es) f g refl refl h)
  argument_leads forms (index a b) f g h = value_leads f (other_value forms (index a b) f g refl refl h)
  argument_leads forms (member e m) f g h = value_leads f (other_value forms (member e m) f g refl refl h)
  argument_leads forms (arrow e m) f g h = value_leads f (other_value forms (arrow e m) f g refl refl h)
  argument_leads forms (cast b stars e) f g h = value_leads f (other_value forms (cast b stars e) f g refl refl h)
  argument_leads forms (size_type b stars) f g h = value_leads f (other_value forms (size_type b stars) f g refl refl h)
  argument_leads forms (size_expr e) f g h = value_leads f (other_value forms (size_expr e) f g refl refl h)

  -- behind the first the forms are the same
  same_forms : (forms : ArgumentsData) (es : ExprList) (fs : List Found) → HasNoStream forms → ArgumentsServe gs calls n (behind_first_argument forms) es fs → ArgumentsServe gs calls n forms es fs
  same_forms all_expressions es fs g h = h
  same_forms stream_first es fs g h = absurd g
  same_forms with_symbols es fs g h = h

  arguments_lead : (forms : ArgumentsData) (es : ExprList) (fs : List Found) → HasNoStream forms → ArgumentsServe gs calls n forms es fs → PointersLead (arguments_of_call es fs)
  arguments_lead forms no_exprs fs g h = tt
  arguments_lead forms (exprs e es) [] g h = absurd h
  arguments_lead forms (exprs e es) (f ∷ fs) g h =
      and_others (argument_of e f) (arguments_of_call es fs) (argument_leads forms e f g h.0) (arguments_lead forms es fs g (same_forms forms es fs g h.1))

  -- ---- types

  value_typed : (f : Found) → ServesAsValue gs calls n f → (t : TyData) × (f.operand.type ≡ Some t)
  value_typed f (inl h) = (h.type, h.is)
  value_typed f (inr d) = (void, d.type)

  symbol_or_typed : (e : ExprData) (f : Found) (a b : Bool) → is_symbol e ≡ a → ArgumentServes gs calls n a b f → (names_symbol e ≡ true) ⊎ ((t : TyData) × (f.operand.type ≡ Some t))
  symbol_or_typed e f true b is h = inl (symbol_named e is)
  symbol_or_typed e f false true is h = inr h
  symbol_or_typed e f false false is h = inr (value_typed f h)

  one_typed : (forms : ArgumentsData) (e : ExprData) (f : Found) → HasNoStream forms → ArgumentServes gs calls n (is_no_expression forms e) (is_library_literal forms e) f
      → (names_symbol e ≡ true) ⊎ ((t : TyData) × (f.operand.type ≡ Some t))
  one_typed all_expressions e f g h = inr (value_typed f h)
  one_typed stream_first e f g h = absurd g
  one_typed with_symbols e f g h = symbol_or_typed e f (is_symbol e) (is_library_literal with_symbols e) refl h

  all_typed : (forms : ArgumentsData) (es : ExprList) (fs : List Found) → HasNoStream forms → ArgumentsServe gs calls n forms es fs → AllTyped es fs
  all_typed forms no_exprs fs g h = tt
  all_typed forms (exprs e es) [] g h = tt
  all_typed forms (exprs e es) (f ∷ fs) g h = (one_typed forms e f g h.0, all_typed forms es fs g (same_forms forms es fs g h.1))

  -- ---- the call

  left_serves : (b : Bool) (args : List (Arg Exp)) → NoStray args → PointersLead args → Serve gs n (count_of (evaluated_before b args)) (left_of b args)
  left_serves true args h p = left_over gs n args h
  left_serves false args h p = all_left args h p

  before_serve : (b : Bool) (args : List (Arg Exp)) → PointersLead args → HasEach gs (library_atoms gs calls) n (replicate (count_of (evaluated_before b args)) address_sort) (evaluated_before b args)
  before_serve true args p = pointers_before args p
  before_serve false args p = tt

  -- it is the next of the calls
  next_call : (before : List LibraryCall) (c : LibraryCall) → IsFront (before ++ c ∷ []) calls → slice_get calls (length before) ≡ Some c
  next_call before c front = ap (λ cs. slice_get cs (length before)) front.same ∙ get_front (before ++ c ∷ []) front.rest (length before) (get_last before c)

  pub library_serves : (name : LibName) (forms : ArgumentsData) (es : ExprList) (fs : List Found) → HasNoStream forms → ArgumentsServe gs calls n forms es fs → cuts name es (types_of (operands_of fs)) ≡ true
      → (before : List LibraryCall) → IsFront (before ++ (name, left_of (any_calls_function es) (arguments_of_call es fs)) ∷ []) calls
      → Has gs (library_atoms gs calls) n any_sort (library_exp_call (length before) (evaluated_before (any_calls_function es) (arguments_of_call es fs)))
  library_serves name forms es fs g h e before front =
      let is_call = cuts_are_calls name es fs (all_typed forms es fs g h) e in
      let lead = arguments_lead forms es fs g h in
      let none = call_has_none name (arguments_of_call es fs) is_call in
      let b = any_calls_function es in (
        refl,
        subst (λ c. CallServes gs n (count_of (evaluated_before b (arguments_of_call es fs))) c) (sym (next_call before (name, left_of b (arguments_of_call es fs)) front))
            (left_call b name (arguments_of_call es fs) is_call, left_serves b (arguments_of_call es fs) none lead),
        before_serve b (arguments_of_call es fs) lead,
      )
