-- Forms over values whose types are known.
use Rattle.std.proofs.Common.{◌≡◌, ℕ, List, Option, Some, None, Bool, true, false, refl, subst, inl, inr}
use Rattle.std.specs.Prelude.{slice_get, if◌then◌else◌}
use Rattle.ec_ctypes.specs.declared.types.arith.Arith.{Arith}
use Rattle.ec_ctypes.specs.declared.types.arith.Arith.TheVariants.{Long}
use Rattle.ec_ctypes.specs.declared.tree.expr.BinOp.{BinOp}
use Rattle.ec_ctypes.specs.declared.tree.expr.BinOp.TheVariants.{Or, And, BitOr, BitXor, BitAnd, Eq, Ne, Lt, Gt, Le, Ge, Shl, Shr, Add, Sub, Mul, Div, Rem}
use Rattle.ec_ctypes.specs.declared.tree.expr.UnOp.TheVariants.{Addr, Deref, Plus, Minus, Not, Flip}
use Rattle.ec_ctypes.specs.Arithmetic.{promoted}
use Rattle.ec_ctypes.specs.trees.Types.{TyData, void, arithmetic, pointer, array, structure}
use Rattle.ec_typing_defs.specs.Types.{only_if, integer_operation, pointers_operation, pointer_operation, reversed_operation, int_type, is_compound}
use Rattle.ec_typing_defs.specs.Worlds.{World}
use Rattle.ec_memory_defs.specs.Memory.{ScalarType, integer_type, pointer_type}
use Rattle.ec_meaning_defs.specs.resolved.Resolved.{Exp, object, slot, member, constant, load, whole, store, copy, put, update, convert, negate, flip, not, operate, both, either, choice, call, known, library_call, faulty}
use Rattle.ec_resolving_defs.specs.Conversions.{same_kind, converted_to, as_arith, as_pointer, left_type, right_type, integers_exp, pointers_exp, pointer_exp, reversed_exp, size_in, unary_exp, compound}
use Rattle.ec_sound_defs.specs.Sorts.{Sort, number_sort, address_sort, any_sort, sort_of, Takes}
use Rattle.ec_sound_defs.specs.Sound.{Signature, Atoms, Has, Called, count_of}
use Rattle.ec_sound_defs.specs.Types.{type_sort}
use Rattle.ec_sound_form_laws.specs.Laws.{BinaryIsTyped, ElementIsPlace, AssignedIsTyped, assigns, ReadIsTyped, UnaryIsTyped, CastIsTyped, AssignmentIsTyped, CompoundIsTyped}

only_is : (b : Bool) (t r : TyData) → only_if b t ≡ Some r → t ≡ r
only_is true t r e = cc e
only_is false t r e = cc e

module _ (signatures : List Signature) (atoms : Atoms) (n : ℕ) where
  abbrev Is : Sort → Exp → Type 0
  Is k e = Has signatures atoms n k e

  -- what serves for some sort serves where nothing is read
  called_any : (o : Option Signature) (used : Bool) (m : ℕ) (k : Sort) → Called signatures atoms o used m k → Called signatures atoms o used m any_sort
  called_any None used m k h = h
  called_any (Some g) used m k h = (h.0, tt)

  pub as_any : (e : Exp) (k : Sort) → Is k e → Is any_sort e
  as_any (object i) k h = tt
  as_any (slot i) k h = (tt, h.1)
  as_any (member offset e) k h = (tt, h.1)
  as_any (constant v) k h = tt
  as_any (load kind e) k h = (tt, h.1)
  as_any (whole size e) k h = (tt, h.1)
  as_any (store kind e a) k h = (h.0, as_any a k h.1)
  as_any (copy size e a) k h = (tt, h.1, h.2)
  as_any (put bytes e) k h = (tt, h.1)
  as_any (update u e a) k h = (tt, h.1, h.2, h.3)
  as_any (convert from to e) k h = (tt, h.1)
  as_any (negate type e) k h = (tt, h.1)
  as_any (flip type e) k h = (tt, h.1)
  as_any (not e) k h = (tt, h.1)
  as_any (operate op a b) k h = (tt, h.1)
  as_any (both a b) k h = (tt, h.1, h.2)
  as_any (either a b) k h = (tt, h.1, h.2)
  as_any (choice e a b) k h = (h.0, as_any a k h.1, as_any b k h.2)
  as_any (call f used es) k h = (called_any (slice_get signatures f) used (count_of es) k h.0, h.1)
  as_any (known f es) k h = (tt, h.1)
  as_any (library_call i es) k h = (refl, h.1, h.2)
  as_any faulty k h = h

  -- ---- conversions

  pick : (P : Exp → Type 0) (b : Bool) (x y : Exp) → (b ≡ true → P x) → P y → P (if b then x else y)
  pick P true x y h g = h refl
  pick P false x y h g = g

  same_sort : (from to : ScalarType) → same_kind from to ≡ true → sort_of from ≡ sort_of to
  same_sort (integer_type a) (integer_type b) e = refl
  same_sort (integer_type a) pointer_type e = cc e
  same_sort pointer_type (integer_type b) e = cc e
  same_sort pointer_type pointer_type e = refl

  pub to_itself : (k : Sort) → Takes k k
  to_itself number_sort = tt
  to_itself address_sort = tt
  to_itself any_sort = tt

  converted_is : (from to : ScalarType) (e : Exp) → Is (sort_of from) e → Is (sort_of to) (converted_to from to e)
  converted_is from to e h =
      pick (Is (sort_of to)) (same_kind from to) e (convert from to e) (λ t. subst (λ k. Is k e) (same_sort from to t) h)
      (to_itself (sort_of to), as_any e (sort_of from) h)

  pub arith_is : (from to : Arith) (e : Exp) → Is number_sort e → Is number_sort (as_arith from to e)
  arith_is from to e h = converted_is (integer_type from) (integer_type to) e h

  pointer_is : (from : Arith) (e : Exp) → Is number_sort e → Is address_sort (as_pointer from e)
  pointer_is from e h = (tt, as_any e number_sort h)

  -- ---- integers

  two : (x y : Exp) → Is number_sort x → Is number_sort y → Is any_sort x × Is any_sort y
  two x y h g = (as_any x number_sort h, as_any y number_sort g)

  integers_is : (op : BinOp) (a : Arith) (x : Exp) (b : Arith) (y : Exp) → Is number_sort x → Is number_sort y → Is number_sort (integers_exp op a x b y)
  integers_is And a x b y h g = (tt, as_any x number_sort h, as_any y number_sort g)
  integers_is Or a x b y h g = (tt, as_any x number_sort h, as_any y number_sort g)
  integers_is BitOr a x b y h g = (tt, inl (arith_is a (left_type BitOr a b) x h, arith_is b (right_type BitOr a b) y g))
  integers_is BitXor a x b y h g = (tt, inl (arith_is a (left_type BitXor a b) x h, arith_is b (right_type BitXor a b) y g))
  integers_is BitAnd a x b y h g = (tt, inl (arith_is a (left_type BitAnd a b) x h, arith_is b (right_type BitAnd a b) y g))
  integers_is Eq a x b y h g = (tt, inl (arith_is a (left_type Eq a b) x h, arith_is b (right_type Eq a b) y g))
  integers_is Ne a x b y h g = (tt, inl (arith_is a (left_type Ne a b) x h, arith_is b (right_type Ne a b) y g))
  integers_is Lt a x b y h g = (tt, inl (arith_is a (left_type Lt a b) x h, arith_is b (right_type Lt a b) y g))
  integers_is Gt a x b y h g = (tt, inl (arith_is a (left_type Gt a b) x h, arith_is b (right_type Gt a b) y g))
  integers_is Le a x b y h g = (tt, inl (arith_is a (left_type Le a b) x h, arith_is b (right_type Le a b) y g))
  integers_is Ge a x b y h g = (tt, inl (arith_is a (left_type Ge a b) x h, arith_is b (right_type Ge a b) y g))
  integers_is Shl a x b y h g = (tt, inl (arith_is a (left_type Shl a b) x h, arith_is b (right_type Shl a b) y g))
  integers_is Shr a x b y h g = (tt, inl (arith_is a (left_type Shr a b) x h, arith_is b (right_type Shr a b) y g))
  integers_is Add a x b y h g = (tt, inl (arith_is a (left_type Add a b) x h, arith_is b (right_type Add a b) y g))
  integers_is Sub a x b y h g = (tt, inl (arith_is a (left_type Sub a b) x h, arith_is b (right_type Sub a b) y g))
  integers_is Mul a x b y h g = (tt, inl (arith_is a (left_type Mul a b) x h, arith_is b (right_type Mul a b) y g))
  integers_is Div a x b y h g = (tt, inl (arith_is a (left_type Div a b) x h, arith_is b (right_type Div a b) y g))
  integers_is Rem a x b y h g = (tt, inl (arith_is a (left_type Rem a b) x h, arith_is b (right_type Rem a b) y g))

  -- ---- pointers

  along : (t r : TyData) (e : Exp) → t ≡ r → Is (type_sort t) e → Is (type_sort r) e
  along t r e p h = subst (λ x. Is (type_sort x) e) p h

  pointers_is : (complete : TyData → Bool) (op : BinOp) (s t r : TyData) (size : ℕ) (x y : Exp) → Is address_sort x → Is address_sort y
      → pointers_operation complete op s t ≡ Some r → Is (type_sort r) (pointers_exp op size x y)
  pointers_is complete And s t r size x y h g e = along int_type r (both x y) (cc e) (tt, as_any x address_sort h, as_any y address_sort g)
  pointers_is complete Or s t r size x y h g e = along int_type r (either x y) (cc e) (tt, as_any x address_sort h, as_any y address_sort g)
  pointers_is complete BitOr s t r size x y h g e = cc e
  pointers_is complete BitXor s t r size x y h g e = cc e
  pointers_is complete BitAnd s t r size x y h g e = cc e
  pointers_is complete Eq s t r size x y h g e = along int_type r (pointers_exp Eq size x y) (only_is _ int_type r e) (tt, inr (tt, h, g))
  pointers_is complete Ne s t r size x y h g e = along int_type r (pointers_exp Ne size x y) (only_is _ int_type r e) (tt, inr (tt, h, g))
  pointers_is complete Lt s t r size x y h g e = along int_type r (pointers_exp Lt size x y) (only_is _ int_type r e) (tt, inr (tt, h, g))
  pointers_is complete Gt s t r size x y h g e = along int_type r (pointers_exp Gt size x y) (only_is _ int_type r e) (tt, inr (tt, h, g))
  pointers_is complete Le s t r size x y h g e = along int_type r (pointers_exp Le size x y) (only_is _ int_type r e) (tt, inr (tt, h, g))
  pointers_is complete Ge s t r size x y h g e = along int_type r (pointers_exp Ge size x y) (only_is _ int_type r e) (tt, inr (tt, h, g))
  pointers_is complete Shl s t r size x y h g e = cc e
  pointers_is complete Shr s t r size x y h g e = cc e
  pointers_is complete Add s t r size x y h g e = cc e
  pointers_is complete Sub s t r size x y h g e = along (arithmetic Long) r (pointers_exp Sub size x y) (only_is _ (arithmetic Long) r e) (tt, inl (h, g))
  pointers_is complete Mul s t r size x y h g e = cc e
  pointers_is complete Div s t r size x y h g e = cc e
  pointers_is complete Rem s t r size x y h g e = cc e

  mixed_is : (complete : TyData → Bool) (op : BinOp) (s r : TyData) (null : Bool) (size : ℕ) (x : Exp) (b : Arith) (y : Exp) → Is address_sort x → Is number_sort y
      → pointer_operation complete op s null ≡ Some r → Is (type_sort r) (pointer_exp op size x b y)
  mixed_is complete And s r null size x b y h g e = along int_type r (both x y) (cc e) (tt, as_any x address_sort h, as_any y number_sort g)
  mixed_is complete Or s r null size x b y h g e = along int_type r (either x y) (cc e) (tt, as_any x address_sort h, as_any y number_sort g)
  mixed_is complete BitOr s r null size x b y h g e = cc e
  mixed_is complete BitXor s r null size x b y h g e = cc e
  mixed_is complete BitAnd s r null size x b y h g e = cc e
  mixed_is complete Eq s r null size x b y h g e = along int_type r (pointer_exp Eq size x b y) (only_is null int_type r e) (tt, inr (tt, h, pointer_is b y g))
  mixed_is complete Ne s r null size x b y h g e = along int_type r (pointer_exp Ne size x b y) (only_is null int_type r e) (tt, inr (tt, h, pointer_is b y g))
  mixed_is complete Lt s r null size x b y h g e = cc e
  mixed_is complete Gt s r null size x b y h g e = cc e
  mixed_is complete Le s r null size x b y h g e = cc e
  mixed_is complete Ge s r null size x b y h g e = cc e
  mixed_is complete Shl s r null size x b y h g e = cc e
  mixed_is complete Shr s r null size x b y h g e = cc e
  mixed_is complete Add s r null size x b y h g e = along (pointer s) r (pointer_exp Add size x b y) (only_is (complete s) (pointer s) r e) (tt, inl (h, g))
  mixed_is complete Sub s r null size x b y h g e = along (pointer s) r (pointer_exp Sub size x b y) (only_is (complete s) (pointer s) r e) (tt, inl (h, g))
  mixed_is complete Mul s r null size x b y h g e = cc e
  mixed_is complete Div s r null size x b y h g e = cc e
  mixed_is complete Rem s r null size x b y h g e = cc e

  reversed_is : (complete : TyData → Bool) (op : BinOp) (null : Bool) (t r : TyData) (size : ℕ) (a : Arith) (x y : Exp) → Is number_sort x → Is address_sort y
      → reversed_operation complete op null t ≡ Some r → Is (type_sort r) (reversed_exp op size a x y)
  reversed_is complete And null t r size a x y h g e = along int_type r (both x y) (cc e) (tt, as_any x number_sort h, as_any y address_sort g)
  reversed_is complete Or null t r size a x y h g e = along int_type r (either x y) (cc e) (tt, as_any x number_sort h, as_any y address_sort g)
  reversed_is complete BitOr null t r size a x y h g e = cc e
  reversed_is complete BitXor null t r size a x y h g e = cc e
  reversed_is complete BitAnd null t r size a x y h g e = cc e
  reversed_is complete Eq null t r size a x y h g e = along int_type r (reversed_exp Eq size a x y) (only_is null int_type r e) (tt, inr (tt, pointer_is a x h, g))
  reversed_is complete Ne null t r size a x y h g e = along int_type r (reversed_exp Ne size a x y) (only_is null int_type r e) (tt, inr (tt, pointer_is a x h, g))
  reversed_is complete Lt null t r size a x y h g e = cc e
  reversed_is complete Gt null t r size a x y h g e = cc e
  reversed_is complete Le null t r size a x y h g e = cc e
  reversed_is complete Ge null t r size a x y h g e = cc e
  reversed_is complete Shl null t r size a x y h g e = cc e
  reversed_is complete Shr null t r size a x y h g e = cc e
  reversed_is complete Add null t r size a x y h g e = along (pointer t) r (reversed_exp Add size a x y) (only_is (complete t) (pointer t) r e) (tt, inl (h, g))
  reversed_is complete Sub null t r size a x y h g e = cc e
  reversed_is complete Mul null t r size a x y h g e = cc e
  reversed_is complete Div null t r size a x y h g e = cc e
  reversed_is complete Rem null t r size a x y h g e = cc e

  pub binary_is : BinaryIsTyped signatures atoms n
  binary_is w complete op (arithmetic a) (arithmetic b) r p q x y h g e =
      along (arithmetic (integer_operation op a b)) r (integers_exp op a x b y) (cc e) (integers_is op a x b y h g)
  binary_is w complete op (pointer s) (pointer t) r p q x y h g e = pointers_is complete op s t r (size_in w s) x y h g e
  binary_is w complete op (pointer s) (arithmetic b) r p q x y h g e = mixed_is complete op s r q (size_in w s) x b y h g e
  binary_is w complete op (arithmetic a) (pointer t) r p q x y h g e = reversed_is complete op p t r (size_in w t) a x y h g e
  binary_is w complete op void t r p q x y h g e = cc e
  binary_is w complete op (array s m) t r p q x y h g e = cc e
  binary_is w complete op (structure k) t r p q x y h g e = cc e
  binary_is w complete op (arithmetic a) void r p q x y h g e = cc e
  binary_is w complete op (arithmetic a) (array t m) r p q x y h g e = cc e
  binary_is w complete op (arithmetic a) (structure k) r p q x y h g e = cc e
  binary_is w complete op (pointer s) void r p q x y h g e = cc e
  binary_is w complete op (pointer s) (array t m) r p q x y h g e = cc e
  binary_is w complete op (pointer s) (structure k) r p q x y h g e = cc e

  pub element_is : ElementIsPlace signatures atoms n
  element_is w complete (pointer s) (arithmetic b) r x y h g e = (tt, inl (h, g))
  element_is w complete (arithmetic a) (pointer t) r x y h g e = (tt, inl (h, g))
  element_is w complete void t r x y h g e = cc e
  element_is w complete (array s m) t r x y h g e = cc e
  element_is w complete (structure k) t r x y h g e = cc e
  element_is w complete (arithmetic a) void r x y h g e = cc e
  element_is w complete (arithmetic a) (arithmetic b) r x y h g e = cc e
  element_is w complete (arithmetic a) (array t m) r x y h g e = cc e
  element_is w complete (arithmetic a) (structure k) r x y h g e = cc e
  element_is w complete (pointer s) void r x y h g e = cc e
  element_is w complete (pointer s) (pointer t) r x y h g e = cc e
  element_is w complete (pointer s) (array t m) r x y h g e = cc e
  element_is w complete (pointer s) (structure k) r x y h g e = cc e

  pub assigned_is : AssignedIsTyped signatures atoms n
  assigned_is (arithmetic a) (arithmetic b) null e h t = converted_is (integer_type b) (integer_type a) e h
  assigned_is (arithmetic a) (pointer t) null e h u = converted_is pointer_type (integer_type a) e h
  assigned_is (pointer s) (pointer t) null e h u = converted_is pointer_type pointer_type e h
  assigned_is (pointer s) (arithmetic b) null e h u = converted_is (integer_type b) pointer_type e h
  assigned_is (structure j) (structure k) null e h u = h
  assigned_is void t null e h u = cc u
  assigned_is (array s m) t null e h u = cc u
  assigned_is (arithmetic a) void null e h u = cc u
  assigned_is (arithmetic a) (array t m) null e h u = cc u
  assigned_is (arithmetic a) (structure k) null e h u = cc u
  assigned_is (pointer s) void null e h u = cc u
  assigned_is (pointer s) (array t m) null e h u = cc u
  assigned_is (pointer s) (structure k) null e h u = cc u
  assigned_is (structure j) void null e h u = cc u
  assigned_is (structure j) (arithmetic a) null e h u = cc u
  assigned_is (structure j) (pointer t) null e h u = cc u
  assigned_is (structure j) (array t m) null e h u = cc u

  pub read_is : ReadIsTyped signatures atoms n
  read_is void e h = as_any e address_sort h
  read_is (arithmetic a) e h = (tt, h)
  read_is (pointer t) e h = (tt, h)
  read_is (array t m) e h = h
  read_is (structure k) e h = h

  pub unary_is : UnaryIsTyped signatures atoms n
  unary_is Addr t r e g h p = cc g
  unary_is Deref t r e g h p = cc g
  unary_is Plus (arithmetic a) r e g h p = along (arithmetic (promoted a)) r (unary_exp Plus (arithmetic a) e) (cc p) (arith_is a (promoted a) e h)
  unary_is Minus (arithmetic a) r e g h p = along (arithmetic (promoted a)) r (unary_exp Minus (arithmetic a) e) (cc p) (tt, arith_is a (promoted a) e h)
  unary_is Flip (arithmetic a) r e g h p = along (arithmetic (promoted a)) r (unary_exp Flip (arithmetic a) e) (cc p) (tt, arith_is a (promoted a) e h)
  unary_is Not (arithmetic a) r e g h p = along int_type r (unary_exp Not (arithmetic a) e) (cc p) (tt, as_any e number_sort h)
  unary_is Not (pointer t) r e g h p = along int_type r (unary_exp Not (pointer t) e) (cc p) (tt, as_any e address_sort h)
  unary_is Not void r e g h p = cc p
  unary_is Not (array t m) r e g h p = cc p
  unary_is Not (structure k) r e g h p = cc p
  unary_is Plus void r e g h p = cc p
  unary_is Plus (pointer t) r e g h p = cc p
  unary_is Plus (array t m) r e g h p = cc p
  unary_is Plus (structure k) r e g h p = cc p
  unary_is Minus void r e g h p = cc p
  unary_is Minus (pointer t) r e g h p = cc p
  unary_is Minus (array t m) r e g h p = cc p
  unary_is Minus (structure k) r e g h p = cc p
  unary_is Flip void r e g h p = cc p
  unary_is Flip (pointer t) r e g h p = cc p
  unary_is Flip (array t m) r e g h p = cc p
  unary_is Flip (structure k) r e g h p = cc p

  pub cast_is : CastIsTyped signatures atoms n
  cast_is (arithmetic a) (arithmetic b) e g f h = converted_is (integer_type b) (integer_type a) e h
  cast_is (arithmetic a) (pointer t) e g f h = converted_is pointer_type (integer_type a) e h
  cast_is (pointer s) (arithmetic b) e g f h = converted_is (integer_type b) pointer_type e h
  cast_is (pointer s) (pointer t) e g f h = converted_is pointer_type pointer_type e h
  cast_is void t e g f h = cc g
  cast_is (array s m) t e g f h = cc g
  cast_is (structure k) t e g f h = cc g
  cast_is (arithmetic a) void e g f h = cc f
  cast_is (arithmetic a) (array t m) e g f h = cc f
  cast_is (arithmetic a) (structure k) e g f h = cc f
  cast_is (pointer s) void e g f h = cc f
  cast_is (pointer s) (array t m) e g f h = cc f
  cast_is (pointer s) (structure k) e g f h = cc f

  pub assignment_is : AssignmentIsTyped signatures atoms n
  assignment_is w (structure j) (structure k) null place e g h p = (tt, g, h)
  assignment_is w (structure j) void null place e g h p = cc p
  assignment_is w (structure j) (arithmetic a) null place e g h p = cc p
  assignment_is w (structure j) (pointer t) null place e g h p = cc p
  assignment_is w (structure j) (array t m) null place e g h p = cc p
  assignment_is w (arithmetic a) t null place e g h p = (g, assigned_is (arithmetic a) t null e h p)
  assignment_is w (pointer s) t null place e g h p = (g, assigned_is (pointer s) t null e h p)
  assignment_is w void t null place e g h p = cc p
  assignment_is w (array s m) t null place e g h p = cc p

  pub integers_updated : (w : World) (op : BinOp) (old : Bool) (a b : Arith) (place e : Exp) → assigns op ≡ true → Is address_sort place → Is number_sort e → Is number_sort (compound w op old (arithmetic a) place (arithmetic b) e)
  integers_updated w Add old a b place e p g h = (tt, refl, g, arith_is b (right_type Add a b) e h)
  integers_updated w Sub old a b place e p g h = (tt, refl, g, arith_is b (right_type Sub a b) e h)
  integers_updated w Mul old a b place e p g h = (tt, refl, g, arith_is b (right_type Mul a b) e h)
  integers_updated w Div old a b place e p g h = (tt, refl, g, arith_is b (right_type Div a b) e h)
  integers_updated w Rem old a b place e p g h = (tt, refl, g, arith_is b (right_type Rem a b) e h)
  integers_updated w Shl old a b place e p g h = (tt, refl, g, arith_is b (right_type Shl a b) e h)
  integers_updated w Shr old a b place e p g h = (tt, refl, g, arith_is b (right_type Shr a b) e h)
  integers_updated w BitAnd old a b place e p g h = (tt, refl, g, arith_is b (right_type BitAnd a b) e h)
  integers_updated w BitXor old a b place e p g h = (tt, refl, g, arith_is b (right_type BitXor a b) e h)
  integers_updated w BitOr old a b place e p g h = (tt, refl, g, arith_is b (right_type BitOr a b) e h)
  integers_updated w _ old a b place e p g h = cc p

  pointer_updated : (w : World) (complete : TyData → Bool) (op : BinOp) (old : Bool) (s : TyData) (b : Arith) (place e : Exp) → Is address_sort place → Is number_sort e → is_compound complete op (pointer s) (arithmetic b) ≡ true → Is address_sort (compound w op old (pointer s) place (arithmetic b) e)
  pointer_updated w complete Add old s b place e g h p = (tt, refl, g, h)
  pointer_updated w complete Sub old s b place e g h p = (tt, refl, g, h)
  pointer_updated w complete _ old s b place e g h p = cc p

  pub compound_is : CompoundIsTyped signatures atoms n
  compound_is w complete op old (arithmetic a) (arithmetic b) place e q g h p = integers_updated w op old a b place e q g h
  compound_is w complete op old (pointer s) (arithmetic b) place e q g h p = pointer_updated w complete op old s b place e g h p
  compound_is w complete op old void t place e q g h p = cc p
  compound_is w complete op old (array s m) t place e q g h p = cc p
  compound_is w complete op old (structure k) t place e q g h p = cc p
  compound_is w complete op old (arithmetic a) void place e q g h p = cc p
  compound_is w complete op old (arithmetic a) (pointer t) place e q g h p = cc p
  compound_is w complete op old (arithmetic a) (array t m) place e q g h p = cc p
  compound_is w complete op old (arithmetic a) (structure k) place e q g h p = cc p
  compound_is w complete op old (pointer s) void place e q g h p = cc p
  compound_is w complete op old (pointer s) (pointer t) place e q g h p = cc p
  compound_is w complete op old (pointer s) (array t m) place e q g h p = cc p
  compound_is w complete op old (pointer s) (structure k) place e q g h p = cc p
