-- What the rules of operands answer where nothing is wrong, and where the types of their parts are known.
use Rattle.std.proofs.Common.{◌≡◌, ◌∙◌, ℕ, ◌+◌, Bool, true, false, not, ◌&&◌, ◌||◌, List, [], ◌∷◌, ◌++◌, length, map, drop, Option, Some, None, refl, sym, ap, subst}
use Rattle.std.specs.Prelude.{◌==◌, nat_le, is_some, option_map, option_and_then, if◌then◌else◌}
use Rattle.std.proofs.lemmas.Bool.{false≢true}
use Rattle.ec_base.specs.declared.fault.FaultKind.{FaultKind}
use Rattle.ec_base.specs.declared.fault.FaultKind.TheVariants.{F11, F14, F15, F16, F17}
use Rattle.ec_ctypes.specs.declared.checked.library.LibName.{LibName}
use Rattle.ec_ctypes.specs.declared.tree.expr.BinOp.{BinOp}
use Rattle.ec_ctypes.specs.declared.tree.expr.UnOp.{UnOp}
use Rattle.ec_ctypes.specs.trees.Types.{TyData, void}
use Rattle.ec_ctypes.specs.trees.Exprs.{ExprList}
use Rattle.ec_language.specs.Letters.{Text}
use Rattle.ec_typing_defs.specs.Tables.{find}
use Rattle.ec_typing_defs.specs.Types.{int_type, is_void, is_array, is_structure, decayed, pointed_to, struct_number, is_assignable, binary_type, is_compound, is_counter, element_type, may_be_cast}
use Rattle.ec_typing_defs.specs.Known.{KnownData, plain, formatted, known_function, takes_stream, literal_at}
use Rattle.ec_typing_defs.specs.Library.{library_call, cuts}
use Rattle.ec_typing_defs.specs.Formats.{is_format_of}
use Rattle.ec_typing_defs.specs.Operands.{OperandData, computed, unknown, object_operand, given, typed, valued, value_rule, address, address_rule, found_or_types, target, target_rule, unary_type, sign_rule, is_null, binary_rule, element_by, index_rule, may_be_set, allowed, assigned, assign_rule, compound_rule, bump_rule, all_fit, arguments_rule, types_of, is_stream_or_typeless, format_rule, known_rule, library_rule, undeclared_call, call_by, call_rule, member_type, member_by, member_in, member_rule, arrow_rule, cast_value, scalar_cast, cast_to, cast_rule, size_operand, size_rule}
use Rattle.ec_typing_defs.specs.Worlds.{Place, EntryData, object, function, World, Rule, chain, pure, ask, note, demand, look_up, members_of, shape_in, is_complete}

no : {C : Type 0} → false ≡ true → C
no e = absurd (false≢true e)

none_no : {A C : Type 0} {a : A} → None ≡ Some a → C
none_no e = absurd (cc)

-- ---- rules that leave what is known as it is

-- where nothing is wrong by the rule, this holds of its answer
pub record Tells {A : Type 0} (w : World) (P : A → Type 0) (m : Rule A) : Type 0 where
  pub same : (m w).world ≡ w
  pub tells : (m w).found ≡ [] → P (m w).answer

pub both_none : {A : Type 0} (vs us : List A) → vs ++ us ≡ [] → (vs ≡ []) × (us ≡ [])
both_none [] us e = (refl, e)
both_none (v ∷ vs) us e = absurd (cc)

-- ---- what is answered

-- a value of this type
pub record IsOf (t : TyData) (o : OperandData) : Type 0 where
  pub type : o.type ≡ Some t
  pub no_place : o.is_place ≡ false
  pub no_target : o.is_target ≡ false

pub computed_of : (t : TyData) → IsOf t (computed (Some t))
computed_of t = record { type = refl; no_place = refl; no_target = refl }

-- where there is one
pub record IsTyped (t : Option TyData) (o : OperandData) : Type 0 where
  pub type : TyData
  pub is : t ≡ Some type
  pub of : IsOf type o

pub record IsTarget (t : TyData) (a : OperandData) : Type 0 where
  pub type : TyData
  pub is : pointed_to t ≡ Some type
  pub of : a.type ≡ Some type

pub record IsElement (t : Option TyData) (a : OperandData) : Type 0 where
  pub type : TyData
  pub is : t ≡ Some type
  pub of : a.type ≡ Some type

-- a place that may be set, to what the test allows
pub record IsSet (place : OperandData) (t : TyData) (allows : Bool) (a : OperandData) : Type 0 where
  pub is_place : place.is_place ≡ true
  pub is_allowed : allows ≡ true
  pub of : IsOf t a

-- to void, or between scalars
pub record IsCast (s t : TyData) (a : OperandData) : Type 0 where
  pub of : IsOf s a
  pub scalars : is_void s ≡ false → may_be_cast s (decayed t) ≡ true

-- as many arguments as parameters, and each fits
pub record AreArguments (ps : List (Option TyData)) (os : List OperandData) : Type 0 where
  pub count : (length os == length ps) ≡ true
  pub fit : all_fit ps os ≡ true

abbrev pub FitParameters : Option (List (Option TyData)) → List OperandData → Type 0
FitParameters None os = Unit {0}
FitParameters (Some ps) os = AreArguments ps os

pub record IsFormatted (n : ℕ) (es : ExprList) (os : List OperandData) : Type 0 where
  pub count : nat_le (n + 1) (length os) ≡ true
  pub format : is_format_of (literal_at n es) (types_of (drop (n + 1) os)) ≡ true

-- a call of a known function
abbrev pub IsKnownCall : ExprList → List OperandData → Option KnownData → OperandData → Type 0
IsKnownCall es os None a = ⊥
IsKnownCall es os (Some (plain r ps)) a = AreArguments (map Some ps) os × IsOf r a
IsKnownCall es os (Some (formatted n)) a = IsFormatted n es os × IsOf int_type a

-- by what the name stands for
abbrev pub IsUndeclaredCall : Text → ExprList → List OperandData → Option LibName → OperandData → Type 0
IsUndeclaredCall name es os (Some call) a = (cuts call es (types_of os) ≡ true) × IsOf void a
IsUndeclaredCall name es os None a = IsKnownCall es os (known_function name) a

-- ---- by rules, where this is known

module _ (w : World) where
  pub told : {A : Type 0} {P Q : A → Type 0} {m : Rule A} → ((a : A) → P a → Q a) → Tells w P m → Tells w Q m
  told {m = m} f h = record { same = h.same; tells = λ found. f (m w).answer (h.tells found) }

  pub chained : {A B : Type 0} {P : A → Type 0} {Q : B → Type 0} {m : Rule A} {f : A → Rule B} → Tells w P m → ((a : A) → Tells w (λ b. P a → Q b) (f a)) → Tells w Q (chain m f)
  unfolding chain
  chained {A} {B} {P} {Q} {m} {f} h k = record {
    same = (λ i. (f (m w).answer (h.same i)).world) ∙ (k (m w).answer).same;
    tells = λ found.
        let e = both_none (m w).found (f (m w).answer (m w).world).found found in
        behind (m w).answer (m w).world h.same (h.tells e.0) e.1;
  }
    where
      at_once : (a : A) → P a → (f a w).found ≡ [] → Q (f a w).answer
      at_once a p e = (k a).tells e p

      behind : (a : A) (z : World) → z ≡ w → P a → (f a z).found ≡ [] → Q (f a z).answer
      behind a z e p = subst (λ y. (f a y).found ≡ [] → Q (f a y).answer) (sym e) (at_once a p)

  pub pure_tells : {A : Type 0} {P : A → Type 0} (a : A) → P a → Tells w P (pure a)
  unfolding pure
  pure_tells a p = record { same = refl; tells = λ found. p }

  pub asked : {A B : Type 0} {Q : B → Type 0} (g : World → A) (f : A → Rule B) → Tells w Q (f (g w)) → Tells w Q (chain (ask g) f)
  unfolding chain ask
  asked g f h = record { same = h.same; tells = h.tells }

  pub fault : {A : Type 0} {P : A → Type 0} (at : Place) (kind : FaultKind) (a : A) → Tells w P (chain (note at kind) (λ u. pure a))
  unfolding chain note pure
  fault at kind a = record { same = refl; tells = λ found. absurd (cc) }

  pub demanded : {B : Type 0} {Q : B → Type 0} (at : Place) (kind : FaultKind) (b : Bool) {f : Unit {0} → Rule B} → ((u : Unit {0}) → Tells w (λ x. b ≡ true → Q x) (f u)) → Tells w Q (chain (demand at kind b) f)
  unfolding chain demand note pure
  demanded at kind true {f} k = record { same = (k tt).same; tells = λ found. (k tt).tells found refl }
  demanded at kind false {f} k = record { same = (k tt).same; tells = λ found. absurd (cc) }

  pub demand_tells : (at : Place) (kind : FaultKind) (b : Bool) → Tells w (λ u. b ≡ true) (demand at kind b)
  unfolding demand note pure
  demand_tells at kind true = record { same = refl; tells = λ found. refl }
  demand_tells at kind false = record { same = refl; tells = λ found. absurd (cc) }

  pub chosen : {A : Type 0} {P : A → Type 0} (b : Bool) {x y : Rule A} → Tells w (λ a. b ≡ true → P a) x → Tells w (λ a. b ≡ false → P a) y → Tells w P (elim b [ true ↦ x | false ↦ y ])
  chosen true h k = told (λ a f. f refl) h
  chosen false h k = told (λ a f. f refl) k

  pub decided : {A : Type 0} {P : A → Type 0} (b : Bool) {x y : Rule A} → Tells w (λ a. b ≡ true → P a) x → Tells w (λ a. b ≡ false → P a) y → Tells w P (if b then x else y)
  decided true h k = told (λ a f. f refl) h
  decided false h k = told (λ a f. f refl) k

  -- the type is known
  pub given_is : {P : OperandData → Type 0} (t : Option TyData) (s : TyData) (f : TyData → Rule OperandData) → t ≡ Some s → Tells w P (f s) → Tells w P (given t f)
  given_is {P} t s f e h = subst (λ o. Tells w P (given o f)) (sym e) h

  -- ---- types

  pub typed_tells : (at : Place) (t : Option TyData) → Tells w (IsTyped t) (typed at t)
  unfolding typed
  typed_tells at (Some t) = pure_tells (computed (Some t)) (record { type = t; is = refl; of = computed_of t })
  typed_tells at None = fault at F14 unknown

  -- ---- values and places

  pub value_tells : (at : Place) (o : OperandData) (t : TyData) → o.type ≡ Some t → Tells w (IsOf (decayed t)) (value_rule at o)
  unfolding value_rule
  value_tells at o t e =
      given_is o.type t _ e (asked _ _ (chosen (is_structure t && not (is_complete w t)) (fault at F14 unknown)
      (pure_tells (valued o t) (λ x. record { type = refl; no_place = refl; no_target = refl }))))

  pub address_tells : (at : Place) (o : OperandData) (t : TyData) → o.type ≡ Some t → Tells w (λ a. ((o.is_place || o.is_target) ≡ true) × (a ≡ address o t)) (address_rule at o)
  unfolding address_rule
  address_tells at o t e =
      given_is o.type t _ e (chosen (o.is_place || o.is_target) (pure_tells (address o t) (λ x. (x, refl))) (fault at F15 unknown))

  pub target_tells : (at : Place) (o : OperandData) (t : TyData) → o.type ≡ Some t → Tells w (IsTarget t) (target_rule at o)
  unfolding target_rule
  target_tells at o t e = given_is o.type t _ e (go (pointed_to t) refl)
    where
      go : (s : Option TyData) → pointed_to t ≡ s → Tells w (IsTarget t) (found_or_types at (option_map (target o.is_fixed) s))
      go (Some s) is = pure_tells (target o.is_fixed s) (record { type = s; is = is; of = refl })
      go None is = fault at F14 unknown

  pub sign_tells : (at : Place) (op : UnOp) (o : OperandData) (t : TyData) → o.type ≡ Some t → Tells w (IsTyped (unary_type op t)) (sign_rule at op o)
  unfolding sign_rule
  sign_tells at op o t e =
      given_is o.type t _ e (chained (typed_tells at (unary_type op t)) (λ a. pure_tells _ (λ h. record { type = h.type; is = h.is; of = record { type = h.of.type; no_place = h.of.no_place; no_target = h.of.no_target } })))

  pub binary_tells : (at : Place) (op : BinOp) (a b : OperandData) (s t : TyData) → a.type ≡ Some s → b.type ≡ Some t → Tells w (IsTyped (binary_type (is_complete w) op s (is_null a) t (is_null b))) (binary_rule at op a b)
  unfolding binary_rule
  binary_tells at op a b s t e f =
      given_is a.type s _ e (given_is b.type t _ f (asked _ _ (chained (typed_tells at _) (λ x. pure_tells _ (λ h. record { type = h.type; is = h.is; of = record { type = h.of.type; no_place = h.of.no_place; no_target = h.of.no_target } })))))

  element_tells : (at : Place) (t : Option TyData) → Tells w (IsElement t) (element_by at t)
  element_tells at (Some t) = pure_tells (object_operand false (Some t)) (record { type = t; is = refl; of = refl })
  element_tells at None = fault at F14 unknown

  pub index_tells : (at : Place) (a b : OperandData) (s t : TyData) → a.type ≡ Some s → b.type ≡ Some t → Tells w (IsElement (element_type (is_complete w) s t)) (index_rule at a b)
  unfolding index_rule
  index_tells at a b s t e f = given_is a.type s _ e (given_is b.type t _ f (asked _ _ (element_tells at _)))

  -- ---- assignments

  left : (a b : Bool) → (a && b) ≡ true → a ≡ true
  left true b e = refl
  left false b e = no e

  right_not : (a b : Bool) → (a && not b) ≡ true → b ≡ false
  right_not true true e = no e
  right_not true false e = refl
  right_not false b e = no e

  allowed_some : (b : Bool) (s t : TyData) → allowed b s ≡ Some t → (b ≡ true) × (s ≡ t)
  allowed_some true s t e = (refl, λ i. type_or s (e i))
    where
      type_or : TyData → Option TyData → TyData
      type_or d None = d
      type_or d (Some x) = x
  allowed_some false s t e = none_no e

  assigned_tells : (at : Place) (place : OperandData) (s : TyData) (allows : Bool) → may_be_set place s ≡ true → Tells w (IsSet place s allows) (assigned at allows s)
  assigned_tells at place s allows m =
      chosen (is_array s) (pure_tells unknown (λ e. no (sym (right_not place.is_place (is_array s) m) ∙ e)))
      (told (λ a h e. let p = allowed_some allows s h.type h.is in record { is_place = left place.is_place (not (is_array s)) m; is_allowed = p.0; of = subst (λ t. IsOf t a) (sym p.1) h.of }) (typed_tells at (allowed allows s)))

  set_or_not : (at : Place) (place : OperandData) (s : TyData) (allows : Bool) → Tells w (λ x. may_be_set place s ≡ true → IsSet place s allows x) (assigned at allows s)
  set_or_not at place s allows = go (may_be_set place s) refl
    where
      go : (m : Bool) → may_be_set place s ≡ m → Tells w (λ x. may_be_set place s ≡ true → IsSet place s allows x) (assigned at allows s)
      go true m = told (λ x h y. h) (assigned_tells at place s allows m)
      go false m = chosen (is_array s) (pure_tells unknown (λ x y. no (sym m ∙ y))) (told (λ x h y z. no (sym m ∙ z)) (typed_tells at (allowed allows s)))

  pub assign_tells : (at : Place) (a b : OperandData) (s t : TyData) → a.type ≡ Some s → b.type ≡ Some t → Tells w (IsSet a s (is_assignable s t (is_null b))) (assign_rule at a b)
  unfolding assign_rule
  assign_tells at a b s t e f = given_is a.type s _ e (demanded at F15 (may_be_set a s) (λ u. given_is b.type t _ f (set_or_not at a s _)))

  pub compound_tells : (at : Place) (op : BinOp) (a b : OperandData) (s t : TyData) → a.type ≡ Some s → b.type ≡ Some t → Tells w (IsSet a s (is_compound (is_complete w) op s t)) (compound_rule at op a b)
  unfolding compound_rule
  compound_tells at op a b s t e f = given_is a.type s _ e (demanded at F15 (may_be_set a s) (λ u. given_is b.type t _ f (asked _ _ (set_or_not at a s _))))

  pub bump_tells : (at : Place) (o : OperandData) (t : TyData) → o.type ≡ Some t → Tells w (IsSet o t (is_counter (is_complete w) t)) (bump_rule at o)
  unfolding bump_rule
  bump_tells at o t e = given_is o.type t _ e (demanded at F15 (may_be_set o t) (λ u. asked _ _ (set_or_not at o t _)))

  -- ---- members

  pub record IsMember (k : Option ℕ) (m : Text) (of_place : Bool) (a : OperandData) : Type 0 where
    pub number : ℕ
    pub is : k ≡ Some number
    pub type : Option TyData
    pub found : member_type m (members_of number w) ≡ Some type
    pub of : a.type ≡ type
    pub place : a.is_place ≡ of_place
    pub no_target : a.is_target ≡ false

  member_by_tells : (at : Place) (of_place : Bool) (m : Text) (k : ℕ) (t : Option (Option TyData)) → member_type m (members_of k w) ≡ t → Tells w (IsMember (Some k) m of_place) (member_by at of_place t)
  member_by_tells at of_place m k (Some t) e = pure_tells _ (record { number = k; is = refl; type = t; found = e; of = refl; place = refl; no_target = refl })
  member_by_tells at of_place m k None e = fault at F11 unknown

  member_in_tells : (at : Place) (of_place : Bool) (m : Text) (k : Option ℕ) → Tells w (IsMember k m of_place) (member_in at of_place m k)
  member_in_tells at of_place m None = fault at F14 unknown
  member_in_tells at of_place m (Some k) = asked _ _ (member_by_tells at of_place m k (member_type m (members_of k w)) refl)

  pub member_tells : (at : Place) (o : OperandData) (m : Text) (t : TyData) → o.type ≡ Some t → Tells w (IsMember (struct_number t) m o.is_place) (member_rule at o m)
  unfolding member_rule
  member_tells at o m t e = given_is o.type t _ e (member_in_tells at o.is_place m (struct_number t))

  pub arrow_tells : (at : Place) (o : OperandData) (m : Text) (t : TyData) → o.type ≡ Some t → Tells w (IsMember (option_and_then struct_number (pointed_to t)) m true) (arrow_rule at o m)
  unfolding arrow_rule
  arrow_tells at o m t e = given_is o.type t _ e (member_in_tells at true m _)

  -- ---- casts and sizes

  scalar_tells : (at : Place) (s : TyData) (o : OperandData) (t : TyData) → o.type ≡ Some t → Tells w (λ a. (may_be_cast s t ≡ true) × IsOf s a) (scalar_cast at s o)
  unfolding scalar_cast
  scalar_tells at s o t e = given_is o.type t _ e (chained (typed_tells at (allowed (may_be_cast s t) s)) (λ x. pure_tells _ (λ h.
      let p = allowed_some (may_be_cast s t) s h.type h.is in
      (p.0, record { type = h.of.type ∙ ap (λ y. Some y) (sym p.1); no_place = h.of.no_place; no_target = h.of.no_target }))))

  is_void_one : (s : TyData) → is_void s ≡ true → computed (Some void) ≡ computed (Some s)
  is_void_one void e = refl
  is_void_one s e = no e

  to_tells : (at : Place) (o : OperandData) (s t : TyData) → o.type ≡ Some t → Tells w (IsCast s t) (cast_to at o s)
  unfolding scalar_cast
  to_tells at o s t e =
      chosen (is_void s) (given_is o.type t _ e (pure_tells (computed (Some void)) (λ v. record { of = subst (λ a. IsOf s a) (sym (is_void_one s v)) (computed_of s); scalars = λ x. no (sym x ∙ v) })))
      (chained (value_tells at o t e) (λ x. by_type x x.type refl))
    where
      type_is : (a b : TyData) → Some a ≡ Some b → a ≡ b
      type_is a b e = λ i. type_or (e i)
        where
          type_or : Option TyData → TyData
          type_or None = a
          type_or (Some x) = x

      by_type : (x : OperandData) (u : Option TyData) → x.type ≡ u → Tells w (λ a. IsOf (decayed t) x → is_void s ≡ false → IsCast s t a) (scalar_cast at s x)
      by_type x None is = subst (λ u. Tells w (λ a. IsOf (decayed t) x → is_void s ≡ false → IsCast s t a) (given u (λ t. chain (typed at (allowed (may_be_cast s t) s)) (λ answer. pure (record answer { constant = cast_value s x.constant t })))))
          (sym is) (pure_tells unknown (λ h v. none_no (sym is ∙ h.type)))
      by_type x (Some u) is = told (λ a p h v. record { of = p.1; scalars = λ y. subst (λ r. may_be_cast s r ≡ true) (type_is u (decayed t) (sym is ∙ h.type)) p.0 }) (scalar_tells at s x u is)

  pub cast_tells : (at : Place) (to : Option TyData) (o : OperandData) (s t : TyData) → to ≡ Some s → o.type ≡ Some t → Tells w (IsCast s t) (cast_rule at to o)
  unfolding cast_rule
  cast_tells at to o s t d e = given_is to s _ d (to_tells at o s t e)

  pub size_tells : (at : Place) (to : Option TyData) (t : TyData) → to ≡ Some t → Tells w (λ a. (is_complete w t ≡ true) × (a ≡ size_operand (shape_in w t))) (size_rule at to)
  unfolding size_rule
  size_tells at to t e = given_is to t _ e (asked _ _ (asked _ _ (chosen (is_complete w t) (pure_tells _ (λ c. (c, refl))) (fault at F14 unknown))))

  -- ---- calls

  arguments_tell : (at : Place) (ps : Option (List (Option TyData))) (os : List OperandData) → Tells w (λ u. FitParameters ps os) (arguments_rule at ps os)
  arguments_tell at None os = pure_tells tt tt
  arguments_tell at (Some ps) os = demanded at F16 (length os == length ps) (λ u. told (λ x f c. record { count = c; fit = f }) (demand_tells at F14 (all_fit ps os)))

  format_tells : (at : Place) (n : ℕ) (name : Text) (es : ExprList) (os : List OperandData) → Tells w (λ a. IsFormatted n es os × IsOf int_type a) (format_rule at n name es os)
  format_tells at n name es os =
      chosen (nat_le (n + 1) (length os)) (demanded at F14 (not (takes_stream name) || is_stream_or_typeless es os) (λ u. demanded at F17 (is_format_of (literal_at n es) (types_of (drop (n + 1) os))) (λ v.
      pure_tells (computed (Some int_type)) (λ f s c. (record { count = c; format = f }, computed_of int_type)))))
      (fault at F16 (computed (Some int_type)))

  known_tells : (at : Place) (name : Text) (es : ExprList) (os : List OperandData) (k : Option KnownData) → Tells w (IsKnownCall es os k) (known_rule at name es os k)
  known_tells at name es os None = fault at F16 unknown
  known_tells at name es os (Some (plain r ps)) = chained (arguments_tell at (Some (map Some ps)) os) (λ u. pure_tells (computed (Some r)) (λ f. (f, computed_of r)))
  known_tells at name es os (Some (formatted n)) = format_tells at n name es os

  library_tells : (at : Place) (call : LibName) (es : ExprList) (os : List OperandData) → Tells w (λ a. (cuts call es (types_of os) ≡ true) × IsOf void a) (library_rule at call es os)
  library_tells at call es os = chosen (cuts call es (types_of os)) (pure_tells (computed (Some void)) (λ c. (c, computed_of void))) (fault at F16 unknown)

  undeclared_tells : (at : Place) (name : Text) (es : ExprList) (os : List OperandData) (call : Option LibName) → Tells w (IsUndeclaredCall name es os call) (undeclared_call at name es os call)
  undeclared_tells at name es os (Some call) = library_tells at call es os
  undeclared_tells at name es os None = known_tells at name es os (known_function name)

  abbrev pub IsCallBy : Text → ExprList → List OperandData → Option EntryData → OperandData → Type 0
  IsCallBy name es os (Some (object k global t)) a = ⊥
  IsCallBy name es os (Some (function k done r ps)) a =
      (is_some (find name w.defined) ≡ true) × FitParameters ps os × (a ≡ computed r)
  IsCallBy name es os None a = IsUndeclaredCall name es os (library_call w.written name) a

  call_by_tells : (at : Place) (name : Text) (es : ExprList) (os : List OperandData) (e : Option EntryData) → Tells w (IsCallBy name es os e) (call_by at name es os e)
  unfolding call_by
  call_by_tells at name es os (Some (object k global t)) = fault at F16 unknown
  call_by_tells at name es os (Some (function k done r ps)) =
      asked _ _ (demanded at F16 (is_some (find name w.defined)) (λ u. chained (arguments_tell at ps os) (λ v. pure_tells (computed r) (λ f d. (d, f, refl)))))
  call_by_tells at name es os None = asked _ _ (undeclared_tells at name es os (library_call w.written name))

  pub call_tells : (at : Place) (name : Text) (es : ExprList) (os : List OperandData) → Tells w (IsCallBy name es os (look_up name w)) (call_rule at name es os)
  unfolding call_rule
  call_tells at name es os = asked _ _ (call_by_tells at name es os (look_up name w))
