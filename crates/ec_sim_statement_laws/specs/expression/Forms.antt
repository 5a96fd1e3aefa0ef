-- Resolved forms that are made of what calls no library call none, and are the same in what is written.
use Rattle.std.specs.Prelude.{◌≡◌, ℕ, pos, zero, suc, ◌+◌, Bool, true, false, ◌&&◌, ◌||◌, List, [], ◌∷◌, map, drop, slice_get, Option, Some, None, option_map, option_and_then, if◌then◌else◌, codes}
use Rattle.std.proofs.Common.{◌∙◌, refl}
use Rattle.ec_ctypes.specs.declared.types.arith.Arith.{Arith}
use Rattle.ec_ctypes.specs.Arithmetic.{promoted}
use Rattle.ec_ctypes.specs.declared.tree.expr.BinOp.{BinOp}
use Rattle.ec_ctypes.specs.declared.tree.expr.BinOp.TheVariants.{Or, And, Add, Sub}
use Rattle.ec_ctypes.specs.declared.tree.expr.UnOp.{UnOp}
use Rattle.ec_ctypes.specs.declared.tree.expr.UnOp.TheVariants.{Addr, Deref, Plus, Minus, Not, Flip}
use Rattle.ec_ctypes.specs.trees.Types.{TyData, void, arithmetic, pointer, array, structure}
use Rattle.ec_ctypes.specs.trees.Exprs.{ExprData, ExprList}
use Rattle.ec_meaning_defs.specs.functions.Formats.{Part, format_parts}
use Rattle.ec_meaning_defs.specs.functions.Functions.{Channel, Known}
use Rattle.ec_language.specs.Letters.{Text, same_text}
use Rattle.ec_memory_defs.specs.Memory.{number, ScalarType, integer_type, pointer_type, scalar_type}
use Rattle.ec_meaning_defs.specs.resolved.Operations.{Comparison, Operation, pointer_plus, plus_pointer}
use Rattle.ec_meaning_defs.specs.resolved.Resolved.{Exp, constant, copy, operate, whole, convert, faulty}
use Rattle.ec_resolving_defs.specs.Conversions.{same_kind, converted_to, between, as_type, as_known_type, promoted_value, read_at, operation_in, comparison_of, left_type, right_type, operated, integers_exp, compared, pointers_exp, pointer_exp, reversed_exp, binary_exp, element_exp, sign_exp, unary_exp, stored_scalar, assigned, updated, pointer_step, compound, bumped, size_in, as_arith, as_pointer}
use Rattle.ec_resolving_defs.specs.Operands.{Found, over_types, over_type, predefined_exp, named_exp, value_exp, discarded, member_at, member_exp, offset_among, cast_form, size_exp, exps_of, passed, own_call, plain_functions, plain_call, printing, known_call, call_exp, place_in, channel_of, unary_found, is_call_alone, without_use, done_alone}
use Rattle.ec_resolving_defs.specs.Storage.{Site, numbered, slotted, nowhere, site_exp}
use Rattle.ec_sim_statement_laws.specs.statement.Blocks.{have_call}
use Rattle.ec_sim_statement_laws.specs.statement.Clean.{CallsNone}
use Rattle.ec_typing_defs.specs.Tables.{Named, find}
use Rattle.ec_typing_defs.specs.Known.{KnownData, plain, formatted, known_function, literal_at}
use Rattle.ec_typing_defs.specs.Types.{is_void, is_structure, decayed}
use Rattle.ec_typing_defs.specs.Worlds.{EntryData, object, function, World, is_complete, members_of}
use Rattle.ec_typing_defs.specs.Operands.{OperandData}
use Rattle.ec_sim_statement_laws.specs.expression.Known.{size_same, complete_same, members_same, offset_same}
use Rattle.ec_sim_statement_laws.specs.expression.Silent.{FoundCallsNone, AllCallNone}
use Rattle.ec_sim_statement_laws.specs.expression.Worlds.{AreAlike}

-- ---- no call

pub neither_calls : {a b : Bool} → a ≡ false → b ≡ false → (a || b) ≡ false
neither_calls p q = λ i. p i || q i

pub chosen_silent : (b : Bool) (x y : Exp) → CallsNone x → CallsNone y
    → CallsNone (if b then x else y)
chosen_silent true x y p q = p
chosen_silent false x y p q = q

converted_silent : (from to : ScalarType) (e : Exp) → CallsNone e
    → CallsNone (converted_to from to e)
converted_silent from to e p = chosen_silent (same_kind from to) e (convert from to e) p p

arith_silent : (from to : Arith) (e : Exp) → CallsNone e → CallsNone (as_arith from to e)
arith_silent from to e p = converted_silent (integer_type from) (integer_type to) e p

between_silent : (from to : Option ScalarType) (e : Exp) → CallsNone e
    → CallsNone (between from to e)
between_silent (Some from) (Some to) e p = converted_silent from to e p
between_silent (Some from) None e p = p
between_silent None to e p = p

pub as_known_silent : (from to : Option TyData) (e : Exp) → CallsNone e
    → CallsNone (as_known_type from to e)
as_known_silent (Some from) (Some to) e p = between_silent (scalar_type from) (scalar_type to) e p
as_known_silent (Some from) None e p = refl
as_known_silent None to e p = refl

promoted_silent : (t : Option TyData) (e : Exp) → CallsNone e → CallsNone (promoted_value t e)
promoted_silent (Some (arithmetic a)) e p = arith_silent a (promoted a) e p
promoted_silent _ e p = p

pub read_silent : (t : TyData) (e : Exp) → CallsNone e → CallsNone (read_at t e)
read_silent void e p = p
read_silent (arithmetic a) e p = p
read_silent (pointer t) e p = p
read_silent (array t n) e p = p
read_silent (structure k) e p = p

-- ---- operators

operated_silent : (o : Option Operation) (x y : Exp) → CallsNone x → CallsNone y
    → CallsNone (operated o x y)
operated_silent None x y p q = refl
operated_silent (Some o) x y p q = neither_calls p q

compared_silent : (c : Option Comparison) (x y : Exp) → CallsNone x → CallsNone y
    → CallsNone (compared c x y)
compared_silent None x y p q = refl
compared_silent (Some c) x y p q = neither_calls p q

integers_silent : (op : BinOp) (a : Arith) (x : Exp) (b : Arith) (y : Exp)
    → CallsNone x → CallsNone y → CallsNone (integers_exp op a x b y)
integers_silent And a x b y p q = neither_calls p q
integers_silent Or a x b y p q = neither_calls p q
integers_silent op a x b y p q = operated_silent (operation_in op (left_type op a b))
    (as_arith a (left_type op a b) x) (as_arith b (right_type op a b) y)
    (arith_silent a (left_type op a b) x p) (arith_silent b (right_type op a b) y q)

pointers_silent : (op : BinOp) (size : ℕ) (x y : Exp) → CallsNone x → CallsNone y
    → CallsNone (pointers_exp op size x y)
pointers_silent And size x y p q = neither_calls p q
pointers_silent Or size x y p q = neither_calls p q
pointers_silent Sub size x y p q = neither_calls p q
pointers_silent op size x y p q = compared_silent (comparison_of op) x y p q

pointer_silent : (op : BinOp) (size : ℕ) (x : Exp) (b : Arith) (y : Exp)
    → CallsNone x → CallsNone y → CallsNone (pointer_exp op size x b y)
pointer_silent And size x b y p q = neither_calls p q
pointer_silent Or size x b y p q = neither_calls p q
pointer_silent Add size x b y p q = neither_calls p q
pointer_silent Sub size x b y p q = neither_calls p q
pointer_silent op size x b y p q = compared_silent (comparison_of op) x (as_pointer b y) p q

reversed_silent : (op : BinOp) (size : ℕ) (a : Arith) (x y : Exp)
    → CallsNone x → CallsNone y → CallsNone (reversed_exp op size a x y)
reversed_silent And size a x y p q = neither_calls p q
reversed_silent Or size a x y p q = neither_calls p q
reversed_silent Add size a x y p q = neither_calls p q
reversed_silent op size a x y p q = compared_silent (comparison_of op) (as_pointer a x) y p q

pub binary_silent : (w : World) (op : BinOp) (s : TyData) (x : Exp) (t : TyData) (y : Exp)
    → CallsNone x → CallsNone y → CallsNone (binary_exp w op s x t y)
binary_silent w op (arithmetic a) x (arithmetic b) y p q = integers_silent op a x b y p q
binary_silent w op (pointer s) x (pointer t) y p q = pointers_silent op (size_in w s) x y p q
binary_silent w op (pointer s) x (arithmetic b) y p q = pointer_silent op (size_in w s) x b y p q
binary_silent w op (arithmetic a) x (pointer t) y p q = reversed_silent op (size_in w t) a x y p q
binary_silent w op _ x _ y p q = refl

pub element_silent : (w : World) (s : TyData) (x : Exp) (t : TyData) (y : Exp)
    → CallsNone x → CallsNone y → CallsNone (element_exp w s x t y)
element_silent w (pointer s) x (arithmetic b) y p q = neither_calls p q
element_silent w (arithmetic a) x (pointer t) y p q = neither_calls p q
element_silent w _ x _ y p q = refl

sign_silent : (op : UnOp) (a : Arith) (e : Exp) → CallsNone e → CallsNone (sign_exp op a e)
sign_silent Plus a e p = arith_silent a (promoted a) e p
sign_silent Minus a e p = arith_silent a (promoted a) e p
sign_silent Flip a e p = arith_silent a (promoted a) e p
sign_silent Not a e p = p
sign_silent Addr a e p = refl
sign_silent Deref a e p = refl

pub unary_silent : (op : UnOp) (t : TyData) (e : Exp) → CallsNone e → CallsNone (unary_exp op t e)
unary_silent op (arithmetic a) e p = sign_silent op a e p
unary_silent Not (pointer t) e p = p
unary_silent _ _ e p = refl

-- ---- assignments

stored_silent : (k : Option ScalarType) (place e : Exp) → CallsNone place → CallsNone e
    → CallsNone (stored_scalar k place e)
stored_silent None place e p q = refl
stored_silent (Some kind) place e p q = neither_calls p q

pub assigned_silent : (w : World) (s : TyData) (place : Exp) (t : TyData) (e : Exp)
    → CallsNone place → CallsNone e → CallsNone (assigned w s place t e)
assigned_silent w (structure k) place t e p q = neither_calls p q
assigned_silent w s place t e p q = stored_silent (scalar_type s) place (as_type t s e) p
    (between_silent (scalar_type t) (scalar_type s) e q)

updated_silent : (kind widened : ScalarType) (o : Option Operation) (old : Bool) (place e : Exp)
    → CallsNone place → CallsNone e → CallsNone (updated kind widened o old place e)
updated_silent kind widened None old place e p q = refl
updated_silent kind widened (Some o) old place e p q = neither_calls p q

pub compound_silent : (w : World) (op : BinOp) (old : Bool) (s : TyData) (place : Exp) (t : TyData)
    (e : Exp) → CallsNone place → CallsNone e → CallsNone (compound w op old s place t e)
compound_silent w op old (arithmetic a) place (arithmetic b) e p q =
    updated_silent _ _ (operation_in op (left_type op a b)) old place
    (as_arith b (right_type op a b) e) p (arith_silent b (right_type op a b) e q)
compound_silent w op old (pointer s) place (arithmetic b) e p q =
    updated_silent _ _ (pointer_step op (size_in w s)) old place e p q
compound_silent w op old _ place _ e p q = refl

-- ---- names, values and members

pub over_types_silent : (s t : Option TyData) (f : TyData → TyData → Exp)
    → ((s t : TyData) → CallsNone (f s t)) → CallsNone (over_types s t f)
over_types_silent (Some s) (Some t) f p = p s t
over_types_silent (Some s) None f p = refl
over_types_silent None t f p = refl

pub over_type_silent : (t : Option TyData) (f : TyData → Exp)
    → ((t : TyData) → CallsNone (f t)) → CallsNone (over_type t f)
over_type_silent (Some t) f p = p t
over_type_silent None f p = refl

site_silent : (s : Option Site) → CallsNone (site_exp s)
site_silent None = refl
site_silent (Some (numbered n)) = refl
site_silent (Some (slotted i)) = refl
site_silent (Some nowhere) = refl

predefined_silent : (name : Text) → CallsNone (predefined_exp name)
predefined_silent name = chosen_silent (same_text name (codes "sqlca")) _ _ refl
    (chosen_silent (same_text name (codes "NULL")) _ _ refl
    (chosen_silent (same_text name (codes "true")) _ _ refl
    (chosen_silent (same_text name (codes "false")) _ _ refl refl)))

pub named_silent : (sites : List Site) (name : Text) (entry : Option EntryData)
    → CallsNone (named_exp sites name entry)
named_silent sites name (Some (object k global t)) = site_silent (slice_get sites k)
named_silent sites name (Some (function k done r ps)) = refl
named_silent sites name None = predefined_silent name

pub value_silent : (f : Found) → FoundCallsNone f → CallsNone (value_exp f)
value_silent f p = chosen_silent f.is_address _ _
    (over_type_silent f.operand.type (λ t. read_at t f.exp) (λ t. read_silent t f.exp p)) p

discarded_by : (w : World) (f : Found) → FoundCallsNone f → (t : Option TyData)
    → CallsNone (elim t [
      | None ↦ faulty
      | Some t ↦
          if is_structure t && (f.operand.is_place && is_complete w t)
          then whole (size_in w t) f.exp
          else value_exp f
    ])
discarded_by w f p None = refl
discarded_by w f p (Some t) =
    chosen_silent (is_structure t && (f.operand.is_place && is_complete w t)) _ _ p
    (value_silent f p)

pub discarded_silent : (w : World) (f : Found) → FoundCallsNone f → CallsNone (discarded w f)
discarded_silent w f p = discarded_by w f p f.operand.type

pub unary_found_silent : (op : UnOp) (f : Found) → FoundCallsNone f → (o : OperandData)
    → FoundCallsNone (unary_found op f o)
unary_found_silent Deref f p o = p
unary_found_silent Addr f p o = over_type_silent f.operand.type _ (λ t. unary_silent Addr t f.exp p)
unary_found_silent Plus f p o = over_type_silent f.operand.type _ (λ t. unary_silent Plus t f.exp p)
unary_found_silent Minus f p o =
    over_type_silent f.operand.type _ (λ t. unary_silent Minus t f.exp p)
unary_found_silent Not f p o = over_type_silent f.operand.type _ (λ t. unary_silent Not t f.exp p)
unary_found_silent Flip f p o = over_type_silent f.operand.type _ (λ t. unary_silent Flip t f.exp p)

member_at_silent : (e : Exp) (offset : Option ℕ) → CallsNone e → CallsNone (member_at e offset)
member_at_silent e None p = refl
member_at_silent e (Some offset) p = p

pub member_silent : (w : World) (k : Option ℕ) (m : Text) (e : Exp) → CallsNone e
    → CallsNone (member_exp w k m e)
member_silent w None m e p = refl
member_silent w (Some k) m e p = member_at_silent e (offset_among w m (members_of k w)) p

pub cast_silent : (w : World) (to : Option TyData) (f : Found) → FoundCallsNone f
    → CallsNone (cast_form w to f)
cast_silent w None f p = refl
cast_silent w (Some t) f p = chosen_silent (is_void t) _ _ (discarded_silent w f p)
    (as_known_silent (option_map decayed f.operand.type) (Some t) (value_exp f) (value_silent f p))

pub size_silent : (w : World) (t : Option TyData) → CallsNone (size_exp w t)
size_silent w None = refl
size_silent w (Some t) = refl

-- ---- calls

pub passed_silent : (ps : List (Option TyData)) (fs : List Found) → AllCallNone fs
    → have_call (passed ps fs) ≡ false
passed_silent [] fs p = refl
passed_silent (t ∷ ts) [] p = refl
passed_silent (t ∷ ts) (f ∷ fs) p =
    neither_calls (as_known_silent f.operand.type t f.exp p.0) (passed_silent ts fs p.1)

promoted_all_silent : (fs : List Found) → AllCallNone fs
    → have_call (exps_of (map (λ f. promoted_value f.operand.type f.exp) fs)) ≡ false
promoted_all_silent [] p = refl
promoted_all_silent (f ∷ fs) p =
    neither_calls (promoted_silent f.operand.type f.exp p.0) (promoted_all_silent fs p.1)

behind_silent : (n : ℕ) (fs : List Found) → AllCallNone fs → AllCallNone (drop n fs)
behind_silent zero fs p = p
behind_silent (suc n) [] p = p
behind_silent (suc n) (f ∷ fs) p = behind_silent n fs p.1

own_silent : (n : ℕ) (r : Option TyData) (ps : Option (List (Option TyData))) (fs : List Found)
    → AllCallNone fs → CallsNone (own_call n r ps fs)
own_silent n r None fs p = refl
own_silent n r (Some ps) fs p = passed_silent ps fs p

plain_silent : (k : Option Known) (ps : List TyData) (fs : List Found) → AllCallNone fs
    → CallsNone (plain_call k ps fs)
plain_silent None ps fs p = refl
plain_silent (Some k) ps fs p = passed_silent (map Some ps) fs p

printing_silent : (c : Channel) (parts : Option (List Part)) (fs : List Found) → AllCallNone fs
    → CallsNone (printing c parts fs)
printing_silent c None fs p = refl
printing_silent c (Some parts) fs p = promoted_all_silent fs p

known_silent : (name : Text) (es : ExprList) (fs : List Found) (k : Option KnownData)
    → AllCallNone fs → CallsNone (known_call name es fs k)
known_silent name es fs None p = refl
known_silent name es fs (Some (plain r ps)) p = plain_silent (find name plain_functions) ps fs p
known_silent name es fs (Some (formatted n)) p =
    printing_silent (channel_of n es) (option_and_then format_parts (literal_at n es))
    (drop (n + 1) fs) (behind_silent (n + 1) fs p)

pub call_silent : (defined : Named (Unit {0})) (name : Text) (es : ExprList) (fs : List Found)
    (entry : Option EntryData) → AllCallNone fs → CallsNone (call_exp defined name es fs entry)
call_silent defined name es fs (Some (object k global t)) p = refl
call_silent defined name es fs (Some (function k done r ps)) p =
    own_silent (place_in name defined) r ps fs p
call_silent defined name es fs None p = known_silent name es fs (known_function name) p

-- ---- the same in what is written

module _ (w v : World) (alike : AreAlike w v) where
  pub binary_same : (op : BinOp) (s : TyData) (x : Exp) (t : TyData) (y : Exp)
      → binary_exp v op s x t y ≡ binary_exp w op s x t y
  binary_same op (arithmetic a) x (arithmetic b) y = refl
  binary_same op (pointer s) x (pointer t) y =
      λ i. pointers_exp op (size_same w v alike s i) x y
  binary_same op (pointer s) x (arithmetic b) y =
      λ i. pointer_exp op (size_same w v alike s i) x b y
  binary_same op (arithmetic a) x (pointer t) y =
      λ i. reversed_exp op (size_same w v alike t i) a x y
  binary_same op _ x _ y = refl

  pub element_same : (s : TyData) (x : Exp) (t : TyData) (y : Exp)
      → element_exp v s x t y ≡ element_exp w s x t y
  element_same (pointer s) x (arithmetic b) y =
      λ i. operate (pointer_plus (size_same w v alike s i)) x y
  element_same (arithmetic a) x (pointer t) y =
      λ i. operate (plus_pointer (size_same w v alike t i)) x y
  element_same _ x _ y = refl

  pub assigned_same : (s : TyData) (place : Exp) (t : TyData) (e : Exp)
      → assigned v s place t e ≡ assigned w s place t e
  assigned_same (structure k) place t e = λ i. copy (size_same w v alike (structure k) i) place e
  assigned_same s place t e = refl

  pub compound_same : (op : BinOp) (old : Bool) (s : TyData) (place : Exp) (t : TyData) (e : Exp)
      → compound v op old s place t e ≡ compound w op old s place t e
  compound_same op old (arithmetic a) place (arithmetic b) e = refl
  compound_same op old (pointer s) place (arithmetic b) e = λ i.
      updated pointer_type pointer_type (pointer_step op (size_same w v alike s i)) old place e
  compound_same op old _ place _ e = refl

  pub bumped_same : (before up : Bool) (t : TyData) (place : Exp)
      → bumped v before up t place ≡ bumped w before up t place
  bumped_same before up t place = compound_same _ _ t place _ _

  pub discarded_same : (f : Found) → discarded v f ≡ discarded w f
  discarded_same f = λ i. elim f.operand.type [
    | None ↦ faulty
    | Some t ↦
        if is_structure t && (f.operand.is_place && complete_same w v alike t i)
        then whole (size_same w v alike t i) f.exp
        else value_exp f
  ]

  pub done_same : (e : ExprData) (f : Found) → done_alone v e f ≡ done_alone w e f
  done_same e f = λ i. if is_call_alone e f.operand.type
      then without_use (discarded_same f i) else discarded_same f i

  pub member_exp_same : (k : Option ℕ) (m : Text) (e : Exp)
      → member_exp v k m e ≡ member_exp w k m e
  member_exp_same None m e = refl
  member_exp_same (Some k) m e = (λ i. member_at e (offset_among v m (members_same w v alike k i)))
      ∙ (λ i. member_at e (offset_same w v alike m (members_of k w) i))

  pub cast_same : (to : Option TyData) (f : Found) → cast_form v to f ≡ cast_form w to f
  cast_same None f = refl
  cast_same (Some t) f = λ i. if is_void t then discarded_same f i
      else as_known_type (option_map decayed f.operand.type) (Some t) (value_exp f)

  pub size_exp_same : (t : Option TyData) → size_exp v t ≡ size_exp w t
  size_exp_same None = refl
  size_exp_same (Some t) = λ i. constant (number (pos (size_same w v alike t i)))
