-- What each rule of operands answers fits, where its parts do.
use Rattle.std.proofs.Common.{◌≡◌, ◌∙◌, ℕ, suc, Bool, true, false, not as negation, ◌&&◌, ◌||◌, List, [], ◌∷◌, length, map, replicate, Option, Some, None, refl, sym, ap, subst, slice_get, arith}
use Rattle.std.specs.Prelude.{pos, option_map, option_and_then, if◌then◌else◌}
use Rattle.std.proofs.lemmas.Bool.{false≢true}
use Rattle.ec_ctypes.specs.declared.types.arith.Arith.TheVariants.{Int}
use Rattle.ec_ctypes.specs.declared.types.sizes.Shape.{Shape}
use Rattle.ec_ctypes.specs.declared.tree.expr.BinOp.{BinOp}
use Rattle.ec_ctypes.specs.declared.tree.expr.BinOp.TheVariants.{Add, Sub}
use Rattle.ec_ctypes.specs.declared.tree.expr.UnOp.{UnOp}
use Rattle.ec_ctypes.specs.Arithmetic.{promoted}
use Rattle.ec_ctypes.specs.trees.Types.{TyData, void, arithmetic, pointer, array, structure}
use Rattle.ec_ctypes.specs.trees.Exprs.{ExprData}
use Rattle.ec_language.specs.Letters.{Text}
use Rattle.ec_typing_defs.specs.Types.{size_type, is_void, is_scalar, is_structure, decayed, pointed_to, struct_number, is_assignable, binary_type, is_compound, is_counter, element_type, may_be_cast}
use Rattle.ec_typing_defs.specs.Formats.{NeedData, exact_int, short_integer, long_integer, text_need, Needs, meets, meet_all}
use Rattle.ec_typing_defs.specs.Operands.{OperandData, address, size_operand, is_null, all_fit, types_of, unary_type}
use Rattle.ec_typing_defs.specs.Worlds.{World, is_complete, shape_in, members_of}
use Rattle.ec_memory_defs.specs.Memory.{number}
use Rattle.ec_meaning_defs.specs.resolved.Resolved.{Exp, member, constant, whole, call, known, faulty, object, slot, load, store, copy, put, update, convert, negate, flip, not, operate, both, either, choice, library_call}
use Rattle.ec_resolving_defs.specs.Conversions.{binary_exp, element_exp, unary_exp, assigned, compound, bumped, as_known_type, promoted_value, read_at, size_in}
use Rattle.ec_resolving_defs.specs.Operands.{Found, found, value_exp, over_type, over_types, discarded, member_at, member_exp, offset_among, target_struct, cast_form, size_exp, exps_of, passed, operands_of, is_call_alone, without_use, done_alone}
use Rattle.ec_sound_defs.specs.Sorts.{Sort, number_sort, address_sort, any_sort}
use Rattle.ec_sound_defs.specs.Sound.{Signature, Atoms, Has, HasEach, Called, count_of}
use Rattle.ec_sound_defs.specs.Types.{type_sort}
use Rattle.ec_sound_form_laws.specs.Laws.{assigns, gives_value}
use Rattle.ec_sound_form_laws.specs.Fits.{IsValue, AreValues, FormFits, FoundFits}
use Rattle.ec_sound_form_laws.specs.Formats.{need_sort}
use Rattle.ec_sound_form_laws.proofs.Forms.{as_any, arith_is, binary_is, element_is, assigned_is, read_is, unary_is, cast_is, assignment_is, compound_is, integers_updated}
use Rattle.ec_sound_form_laws.proofs.Answered.{IsOf, IsTyped, IsTarget, IsElement, IsSet, IsCast}

no : {C : Type 0} → false ≡ true → C
no e = absurd (false≢true e)

none_no : {A C : Type 0} {a : A} → None ≡ Some a → C
none_no e = absurd (cc)

both_false : (a b : Bool) → a ≡ false → b ≡ false → (a || b) ≡ false
both_false true b e f = no (sym e)
both_false false b e f = f

-- ---- sorts of types

decayed_sort : (t : TyData) → type_sort (decayed t) ≡ type_sort t
decayed_sort void = refl
decayed_sort (arithmetic a) = refl
decayed_sort (pointer t) = refl
decayed_sort (array t n) = refl
decayed_sort (structure k) = refl

pointed_sort : (t s : TyData) → pointed_to t ≡ Some s → type_sort t ≡ address_sort
pointed_sort void s e = none_no e
pointed_sort (arithmetic a) s e = none_no e
pointed_sort (pointer t) s e = refl
pointed_sort (array t n) s e = refl
pointed_sort (structure k) s e = refl

struct_sort : (t : TyData) (k : ℕ) → struct_number t ≡ Some k → type_sort t ≡ address_sort
struct_sort void k e = none_no e
struct_sort (arithmetic a) k e = none_no e
struct_sort (pointer t) k e = refl
struct_sort (array t n) k e = refl
struct_sort (structure j) k e = refl

void_sort : (t : TyData) → is_void t ≡ true → type_sort t ≡ any_sort
void_sort void e = refl
void_sort (arithmetic a) e = no e
void_sort (pointer t) e = no e
void_sort (array t n) e = no e
void_sort (structure k) e = no e

-- a cast that isn't to void is between scalars
scalars : (s t : TyData) → is_void s ≡ false → may_be_cast s t ≡ true → (is_scalar s ≡ true) × (is_scalar t ≡ true)
scalars s t v e = go (is_void s) (is_scalar s) (is_scalar t) v e
  where
    go : (v a b : Bool) → v ≡ false → (v || (a && b)) ≡ true → (a ≡ true) × (b ≡ true)
    go true a b v e = no (sym v)
    go false true b v e = (refl, e)
    go false false b v e = no e

-- the offset of a member that is there
pub record HasOffset (w : World) (k : ℕ) (m : Text) : Type 0 where
  pub offset : ℕ
  pub is : offset_among w m (members_of k w) ≡ Some offset

abbrev pub AreAllSome : List (Option TyData) → Type 0
AreAllSome [] = Unit {0}
AreAllSome (t ∷ ts) = ((s : TyData) × (t ≡ Some s)) × AreAllSome ts

module _ (signatures : List Signature) (atoms : Atoms) (n : ℕ) where
  abbrev Is : Sort → Exp → Type 0
  Is k e = Has signatures atoms n k e

  abbrev Value : Found → Type 0
  Value f = IsValue signatures atoms n f

  abbrev Fits : Found → Type 0
  Fits f = FoundFits signatures atoms n f

  -- ---- values

  pub value_exp_is : (f : Found) (h : Fits f) → Is (type_sort h.type) (value_exp f)
  value_exp_is f h = go f.is_address h.form
    where
      go : (b : Bool) → FormFits signatures atoms n b h.type f.exp → Is (type_sort h.type) (if b then over_type f.operand.type (λ t. read_at t f.exp) else f.exp)
      go true g = subst (λ o. Is (type_sort h.type) (over_type o (λ t. read_at t f.exp))) (sym h.is) (read_is signatures atoms n h.type f.exp g)
      go false g = g

  pub value_is : (f : Found) (h : Fits f) (o : OperandData) → IsOf (decayed h.type) o → Value (found o (value_exp f) false)
  value_is f h o of = record { type = decayed h.type; is = of.type; form = subst (λ k. Is k (value_exp f)) (sym (decayed_sort h.type)) (value_exp_is f h) }

  -- a value that is no place
  pub computed_is : (t : TyData) (o : OperandData) (e : Exp) → IsOf t o → Is (type_sort t) e → Fits (found o e false)
  computed_is t o e of h = record { type = t; is = of.type; form = h; place = λ p. no (sym (both_false o.is_place o.is_target of.no_place of.no_target) ∙ p) }

  pub place_is : (t : TyData) (o : OperandData) (e : Exp) → o.type ≡ Some t → Is address_sort e → Fits (found o e true)
  place_is t o e is h = record { type = t; is = is; form = h; place = λ p. h }

  pub address_is : (f : Found) (h : Fits f) (o : OperandData) → (f.operand.is_place || f.operand.is_target) ≡ true → o ≡ address f.operand h.type → Fits (found o f.exp false)
  address_is f h o p e = computed_is (pointer h.type) o f.exp (subst (IsOf (pointer h.type)) (sym e) (record { type = refl; no_place = refl; no_target = refl })) (h.place p)

  pub target_is : (f : Found) (h : Value f) (o : OperandData) → IsTarget h.type o → Fits (found o f.exp true)
  target_is f h o t = place_is t.type o f.exp t.of (subst (λ k. Is k f.exp) (pointed_sort h.type t.type t.is) h.form)

  pub sign_is : (op : UnOp) (f : Found) (h : Value f) (o : OperandData) → gives_value op ≡ true → IsTyped (unary_type op h.type) o → Fits (found o (over_type f.operand.type (λ t. unary_exp op t f.exp)) false)
  sign_is op f h o g t =
      computed_is t.type o _ t.of (subst (λ x. Is (type_sort t.type) (over_type x (λ s. unary_exp op s f.exp))) (sym h.is) (unary_is signatures atoms n op h.type t.type f.exp g h.form t.is))

  -- ---- over two operands

  over : (k : Sort) (a b : Option TyData) (s t : TyData) (f : TyData → TyData → Exp) → a ≡ Some s → b ≡ Some t → Is k (f s t) → Is k (over_types a b f)
  over k a b s t f e g h = subst (λ x. Is k (over_types x b f)) (sym e) (subst (λ y. Is k (over_types (Some s) y f)) (sym g) h)

  pub both_is : (w : World) (op : BinOp) (a b : Found) (h : Value a) (g : Value b) (o : OperandData) → IsTyped (binary_type (is_complete w) op h.type (is_null a.operand) g.type (is_null b.operand)) o
      → Fits (found o (over_types a.operand.type b.operand.type (λ s t. binary_exp w op s a.exp t b.exp)) false)
  both_is w op a b h g o t =
      computed_is t.type o _ t.of (over (type_sort t.type) a.operand.type b.operand.type h.type g.type (λ s t. binary_exp w op s a.exp t b.exp) h.is g.is
      (binary_is signatures atoms n w (is_complete w) op h.type g.type t.type (is_null a.operand) (is_null b.operand) a.exp b.exp h.form g.form t.is))

  pub index_is : (w : World) (a b : Found) (h : Value a) (g : Value b) (o : OperandData) → IsElement (element_type (is_complete w) h.type g.type) o
      → Fits (found o (over_types a.operand.type b.operand.type (λ s t. element_exp w s a.exp t b.exp)) true)
  index_is w a b h g o t =
      place_is t.type o _ t.of (over address_sort a.operand.type b.operand.type h.type g.type (λ s t. element_exp w s a.exp t b.exp) h.is g.is
      (element_is signatures atoms n w (is_complete w) h.type g.type t.type a.exp b.exp h.form g.form t.is))

  is_either : (a b : Bool) → a ≡ true → (a || b) ≡ true
  is_either true b e = refl
  is_either false b e = no e

  pub set_is : (w : World) (a b : Found) (h : Fits a) (g : Value b) (o : OperandData) → IsSet a.operand h.type (is_assignable h.type g.type (is_null b.operand)) o
      → Fits (found o (over_types a.operand.type b.operand.type (λ s t. assigned w s a.exp t b.exp)) false)
  set_is w a b h g o t =
      computed_is h.type o _ t.of (over (type_sort h.type) a.operand.type b.operand.type h.type g.type (λ s t. assigned w s a.exp t b.exp) h.is g.is
      (assignment_is signatures atoms n w h.type g.type (is_null b.operand) a.exp b.exp (h.place (is_either a.operand.is_place a.operand.is_target t.is_place)) g.form t.is_allowed))

  pub compounded_is : (w : World) (op : BinOp) (a b : Found) (h : Fits a) (g : Value b) (o : OperandData) → assigns op ≡ true → IsSet a.operand h.type (is_compound (is_complete w) op h.type g.type) o
      → Fits (found o (over_types a.operand.type b.operand.type (λ s t. compound w op false s a.exp t b.exp)) false)
  compounded_is w op a b h g o p t =
      computed_is h.type o _ t.of (over (type_sort h.type) a.operand.type b.operand.type h.type g.type (λ s t. compound w op false s a.exp t b.exp) h.is g.is
      (compound_is signatures atoms n w (is_complete w) op false h.type g.type a.exp b.exp p (h.place (is_either a.operand.is_place a.operand.is_target t.is_place)) g.form t.is_allowed))

  -- by one, up or down
  moved_is : (w : World) (up before : Bool) (t : TyData) (e : Exp) → is_counter (is_complete w) t ≡ true → Is address_sort e → Is (type_sort t) (bumped w before up t e)
  moved_is w true before (arithmetic a) e c h = integers_updated signatures atoms n w Add (negation before) a Int e (constant (number (pos 1))) refl h tt
  moved_is w false before (arithmetic a) e c h = integers_updated signatures atoms n w Sub (negation before) a Int e (constant (number (pos 1))) refl h tt
  moved_is w true before (pointer t) e c h = (tt, refl, h, tt)
  moved_is w false before (pointer t) e c h = (tt, refl, h, tt)
  moved_is w up before void e c h = no c
  moved_is w up before (array t m) e c h = no c
  moved_is w up before (structure k) e c h = no c

  pub bump_is : (w : World) (before up : Bool) (f : Found) (h : Fits f) (o : OperandData) → IsSet f.operand h.type (is_counter (is_complete w) h.type) o → Fits (found o (over_type f.operand.type (λ t. bumped w before up t f.exp)) false)
  bump_is w before up f h o t =
      computed_is h.type o _ t.of (subst (λ x. Is (type_sort h.type) (over_type x (λ s. bumped w before up s f.exp))) (sym h.is)
      (moved_is w up before h.type f.exp t.is_allowed (h.place (is_either f.operand.is_place f.operand.is_target t.is_place))))

  -- ---- members

  form_address : (b : Bool) (t : TyData) (e : Exp) (k : ℕ) → struct_number t ≡ Some k → FormFits signatures atoms n b t e → Is address_sort e
  form_address true t e k s h = h
  form_address false t e k s h = subst (λ x. Is x e) (struct_sort t k s) h

  member_exp_is : (w : World) (o : Option ℕ) (k : ℕ) (m : Text) (e : Exp) → o ≡ Some k → HasOffset w k m → Is address_sort e → Is address_sort (member_exp w o m e)
  member_exp_is w o k m e s h g = subst (λ x. Is address_sort (member_exp w x m e)) (sym s) (subst (λ x. Is address_sort (member_at e x)) (sym h.is) (tt, g))

  pub member_is : (w : World) (f : Found) (h : Fits f) (k : ℕ) (m : Text) (o : OperandData) (t : TyData) → struct_number h.type ≡ Some k → HasOffset w k m → o.type ≡ Some t
      → Fits (found o (member_exp w (option_and_then struct_number f.operand.type) m f.exp) true)
  member_is w f h k m o t s g e =
      place_is t o _ e (member_exp_is w (option_and_then struct_number f.operand.type) k m f.exp (ap (λ x. option_and_then struct_number x) h.is ∙ s) g (form_address f.is_address h.type f.exp k s h.form))

  pointed_struct : (t : TyData) (k : ℕ) → option_and_then struct_number (pointed_to t) ≡ Some k → type_sort t ≡ address_sort
  pointed_struct void k e = none_no e
  pointed_struct (arithmetic a) k e = none_no e
  pointed_struct (pointer t) k e = refl
  pointed_struct (array t m) k e = none_no e
  pointed_struct (structure j) k e = none_no e

  pub arrow_is : (w : World) (f : Found) (h : Value f) (k : ℕ) (m : Text) (o : OperandData) (t : TyData) → option_and_then struct_number (pointed_to h.type) ≡ Some k → HasOffset w k m → o.type ≡ Some t
      → Fits (found o (member_exp w (target_struct f.operand.type) m f.exp) true)
  arrow_is w f h k m o t s g e =
      place_is t o _ e (member_exp_is w (target_struct f.operand.type) k m f.exp (ap (λ x. target_struct x) h.is ∙ s) g (subst (λ x. Is x f.exp) (pointed_struct h.type k s) h.form))

  -- ---- casts and sizes

  pub discarded_is : (w : World) (f : Found) → Fits f → Is any_sort (discarded w f)
  discarded_is w f h = subst (λ x. Is any_sort (elim x [ None ↦ faulty | Some t ↦ if is_structure t && (f.operand.is_place && is_complete w t) then whole (size_in w t) f.exp else value_exp f ])) (sym h.is)
      (by_place (is_structure h.type) f.operand.is_place (is_complete w h.type) refl)
    where
      by_place : (a b c : Bool) → f.operand.is_place ≡ b → Is any_sort (if a && (b && c) then whole (size_in w h.type) f.exp else value_exp f)
      by_place true true true p = (tt, h.place (is_either f.operand.is_place f.operand.is_target p))
      by_place true true false p = as_any signatures atoms n (value_exp f) (type_sort h.type) (value_exp_is f h)
      by_place true false c p = as_any signatures atoms n (value_exp f) (type_sort h.type) (value_exp_is f h)
      by_place false b c p = as_any signatures atoms n (value_exp f) (type_sort h.type) (value_exp_is f h)

  pub cast_fits : (w : World) (f : Found) (h : Fits f) (s : TyData) (o : OperandData) → IsCast s h.type o → Fits (found o (cast_form w (Some s) f) false)
  cast_fits w f h s o c = computed_is s o _ c.of (go (is_void s) refl)
    where
      go : (v : Bool) → is_void s ≡ v → Is (type_sort s) (if v then discarded w f else as_known_type (option_map decayed f.operand.type) (Some s) (value_exp f))
      go true v = subst (λ k. Is k (discarded w f)) (sym (void_sort s v)) (discarded_is w f h)
      go false v =
          let p = scalars s (decayed h.type) v (c.scalars v) in
          subst (λ x. Is (type_sort s) (as_known_type (option_map decayed x) (Some s) (value_exp f))) (sym h.is)
          (cast_is signatures atoms n s (decayed h.type) (value_exp f) p.0 p.1 (subst (λ k. Is k (value_exp f)) (sym (decayed_sort h.type)) (value_exp_is f h)))

  pub size_is : (w : World) (to : Option TyData) (t : TyData) (shape : Shape) (o : OperandData) → to ≡ Some t → shape_in w t ≡ Some shape → o ≡ size_operand (shape_in w t) → Fits (found o (size_exp w to) false)
  size_is w to t shape o e s is =
      computed_is size_type o (size_exp w to) (subst (IsOf size_type) (sym (is ∙ ap size_operand s)) (record { type = refl; no_place = refl; no_target = refl })) (subst (λ x. Is number_sort (size_exp w x)) (sym e) tt)

  -- ---- calls whose values aren't used

  unused_is : (e : Exp) → Is any_sort e → Is any_sort (without_use e)
  unused_is (call f used es) h = (unused_call (slice_get signatures f) used (count_of es) h.0, h.1)
    where
      unused_call : (g : Option Signature) (used : Bool) (m : ℕ) → Called signatures atoms g used m any_sort → Called signatures atoms g false m any_sort
      unused_call None used m c = c
      unused_call (Some g) used m c = (c.0, tt)
  unused_is (object i) h = h
  unused_is (slot i) h = h
  unused_is (member offset e) h = h
  unused_is (constant v) h = h
  unused_is (load kind e) h = h
  unused_is (whole size e) h = h
  unused_is (store kind e a) h = h
  unused_is (copy size e a) h = h
  unused_is (put bytes e) h = h
  unused_is (update u e a) h = h
  unused_is (convert from to e) h = h
  unused_is (negate type e) h = h
  unused_is (flip type e) h = h
  unused_is (not e) h = h
  unused_is (operate op a b) h = h
  unused_is (both a b) h = h
  unused_is (either a b) h = h
  unused_is (choice e a b) h = h
  unused_is (known f es) h = h
  unused_is (library_call i es) h = h
  unused_is faulty h = h

  pub alone_is : (w : World) (e : ExprData) (f : Found) → Fits f → Is any_sort (done_alone w e f)
  alone_is w e f h = go (is_call_alone e f.operand.type)
    where
      go : (b : Bool) → Is any_sort (if b then without_use (discarded w f) else discarded w f)
      go true = unused_is (discarded w f) (discarded_is w f h)
      go false = discarded_is w f h

  -- ---- arguments

  -- an argument as its parameter takes it
  passed_one : (f : Found) (h : Value f) (s : TyData) → (elim f.operand.type [ None ↦ true | Some t ↦ is_assignable s t (is_null f.operand) ]) ≡ true → Is (type_sort s) (as_known_type f.operand.type (Some s) f.exp)
  passed_one f h s e =
      subst (λ x. Is (type_sort s) (as_known_type x (Some s) f.exp)) (sym h.is)
      (assigned_is signatures atoms n s h.type (is_null f.operand) f.exp h.form (subst (λ x. (elim x [ None ↦ true | Some t ↦ is_assignable s t (is_null f.operand) ]) ≡ true) h.is e))

  left : (a b : Bool) → (a && b) ≡ true → a ≡ true
  left true b e = refl
  left false b e = no e

  right : (a b : Bool) → (a && b) ≡ true → b ≡ true
  right true b e = e
  right false b e = no e

  fits_one : (f : Found) (p : Option TyData) (s : TyData) → p ≡ Some s → (elim p [ None ↦ true | Some s ↦ elim f.operand.type [ None ↦ true | Some t ↦ is_assignable s t (is_null f.operand) ] ]) ≡ true
      → (elim f.operand.type [ None ↦ true | Some t ↦ is_assignable s t (is_null f.operand) ]) ≡ true
  fits_one f p s e h = subst (λ x. (elim x [ None ↦ true | Some s ↦ elim f.operand.type [ None ↦ true | Some t ↦ is_assignable s t (is_null f.operand) ] ]) ≡ true) e h

  pub passed_any : (ps : List (Option TyData)) (fs : List Found) → AreAllSome ps → AreValues signatures atoms n fs → all_fit ps (operands_of fs) ≡ true
      → HasEach signatures atoms n (replicate (count_of (passed ps fs)) any_sort) (passed ps fs)
  passed_any [] fs t h e = tt
  passed_any (p ∷ ps) [] t h e = tt
  passed_any (None ∷ ps) (f ∷ fs) t h e = none_no t.0.1
  passed_any (Some s ∷ ps) (f ∷ fs) t h e =
      let first : Bool = elim f.operand.type [ None ↦ true | Some t ↦ is_assignable s t (is_null f.operand) ] in
      let p = passed_one f h.0 s (left first (all_fit ps (operands_of fs)) e) in
      (as_any signatures atoms n (as_known_type f.operand.type (Some s) f.exp) (type_sort s) p, passed_any ps fs t.1 h.1 (right first (all_fit ps (operands_of fs)) e))

  pub passed_each : (ps : List TyData) (fs : List Found) → AreValues signatures atoms n fs → length fs ≡ length ps → all_fit (map Some ps) (operands_of fs) ≡ true → HasEach signatures atoms n (map type_sort ps) (passed (map Some ps) fs)
  passed_each [] fs h l e = tt
  passed_each (s ∷ ps) [] h l e = absurd (omega (arith, l))
  passed_each (s ∷ ps) (f ∷ fs) h l e =
      let first : Bool = elim f.operand.type [ None ↦ true | Some t ↦ is_assignable s t (is_null f.operand) ] in
      (passed_one f h.0 s (left first (all_fit (map Some ps) (operands_of fs)) e), passed_each ps fs h.1 (omega (arith, l)) (right first (all_fit (map Some ps) (operands_of fs)) e))

  pub passed_count : (ps : List (Option TyData)) (fs : List Found) → length fs ≡ length ps → count_of (passed ps fs) ≡ length ps
  passed_count [] fs l = refl
  passed_count (p ∷ ps) [] l = absurd (omega (arith, l))
  passed_count (p ∷ ps) (f ∷ fs) l = ap (λ k. suc k) (passed_count ps fs (omega (arith, l)))

  pub operands_count : (fs : List Found) → length (operands_of fs) ≡ length fs
  operands_count [] = refl
  operands_count (f ∷ fs) = ap (λ k. suc k) (operands_count fs)

  -- ---- arguments of formats

  promoted_is : (need : NeedData) (t : TyData) (e : Exp) → Is (type_sort t) e → meets need t ≡ true → Is (need_sort need) (promoted_value (Some t) e)
  promoted_is exact_int (arithmetic a) e h m = arith_is signatures atoms n a (promoted a) e h
  promoted_is short_integer (arithmetic a) e h m = arith_is signatures atoms n a (promoted a) e h
  promoted_is long_integer (arithmetic a) e h m = arith_is signatures atoms n a (promoted a) e h
  promoted_is text_need (pointer t) e h m = h
  promoted_is text_need (arithmetic a) e h m = no m
  promoted_is exact_int (pointer t) e h m = no m
  promoted_is short_integer (pointer t) e h m = no m
  promoted_is long_integer (pointer t) e h m = no m
  promoted_is exact_int void e h m = no m
  promoted_is short_integer void e h m = no m
  promoted_is long_integer void e h m = no m
  promoted_is text_need void e h m = no m
  promoted_is exact_int (array t k) e h m = no m
  promoted_is short_integer (array t k) e h m = no m
  promoted_is long_integer (array t k) e h m = no m
  promoted_is text_need (array t k) e h m = no m
  promoted_is exact_int (structure k) e h m = no m
  promoted_is short_integer (structure k) e h m = no m
  promoted_is long_integer (structure k) e h m = no m
  promoted_is text_need (structure k) e h m = no m

  pub formatted_each : (ns : Needs) (fs : List Found) → AreValues signatures atoms n fs → meet_all ns (types_of (operands_of fs)) ≡ true
      → HasEach signatures atoms n (map need_sort ns) (exps_of (map (λ f. promoted_value f.operand.type f.exp) fs))
  formatted_each [] [] h e = tt
  formatted_each [] (f ∷ fs) h e = no e
  formatted_each (need ∷ ns) [] h e = no e
  formatted_each (need ∷ ns) (f ∷ fs) h e =
      let m = subst (λ x. meet_all (need ∷ ns) (x ∷ types_of (operands_of fs)) ≡ true) h.0.is e in (
        subst (λ x. Is (need_sort need) (promoted_value x f.exp)) (sym h.0.is) (promoted_is need h.0.type f.exp h.0.form (left (meets need h.0.type) (meet_all ns (types_of (operands_of fs))) m)),
        formatted_each ns fs h.1 (right (meets need h.0.type) (meet_all ns (types_of (operands_of fs))) m),
      )
