-- An initializer is alike wherever expressions are: by induction over it.
use Rattle.std.proofs.Common.{◌≡◌, ◌∙◌, ℕ, zero, suc, ◌-◌, Bool, true, false, not, ◌&&◌, ◌||◌, List, [], ◌∷◌, ◌++◌, length, take, Option, Some, None, refl}
use Rattle.std.specs.Prelude.{if◌then◌else◌}
use Rattle.ec_base.specs.declared.fault.FaultKind.TheVariants.{F14, F19}
use Rattle.ec_ctypes.specs.trees.Types.{TyData, void, arithmetic, pointer, array, structure}
use Rattle.ec_ctypes.specs.trees.Exprs.{ExprData, string, InitData, one, many, InitList, no_inits, inits, InitOption, no_init, some_init}
use Rattle.ec_expansion_defs.specs.Declarations.{written_expr, written_init, written_inits, written_initializer}
use Rattle.ec_memory_defs.specs.Memory.{ScalarType, scalar_type}
use Rattle.ec_meaning_defs.specs.resolved.Resolved.{Exp}
use Rattle.ec_typing_defs.specs.Known.{literal_in}
use Rattle.ec_typing_defs.specs.Types.{is_scalar, is_char_array}
use Rattle.ec_typing_defs.specs.Constants.{ConstData, variable, trapping, known}
use Rattle.ec_typing_defs.specs.Worlds.{Place, World, Rule, chain as check_chain, pure as check_pure, demand}
use Rattle.ec_typing_defs.specs.Operands.{OperandData}
use Rattle.ec_typing_defs.specs.Initializers as checked
use Rattle.ec_typing_defs.specs.Initializers.{FrameData, elements_left, any_elements, members_left, Frames, Slot, next_part, parts_of, member_types, first_part, first_type, behind_first, going_in, max_depth, is_whole, is_text_for, is_literal, is_text_alone, has_inner_braces, literal_length, elements_begun, with_length, completed, completed_in_braces, completed_by, braced_frames, is_fixed_value}
use Rattle.ec_typing_defs.specs.Statements as statements
use Rattle.ec_resolving_defs.specs.Agreement.{nothing_of, operand_of, type_of}
use Rattle.ec_resolving_defs.specs.Conversions.{within_limit, as_known_type}
use Rattle.ec_resolving_defs.specs.Storage.{Storage, Resolving, chain, pure, ask, arrange, without_last_literal}
use Rattle.ec_resolving_defs.specs.Operands.{Found}
use Rattle.ec_resolving_defs.specs.Initializers.{PartData, scalar_part, text_part, struct_part, scalar_stored, value_stored, stored_at, text_for, known_exp, fixed_exp, init_value, Spot, spot_at, spot_behind, take_spot, behind_spot, shape_or_none, part_shape, next_spot, spots_behind_first, spots_in, Left, left, next_in, goal_type, goal_by, goal_of, Filled, initializer, fill, fill_part, place_in_object, part_stored, parts_stored}
use Rattle.ec_resolving_defs.specs.Statements.{initial}
use Rattle.ec_sim_statement_laws.specs.statement.Blocks.{have_call}
use Rattle.ec_sim_statement_laws.specs.statement.Clean.{CallsNone}
use Rattle.ec_sim_statement_laws.specs.expression.Worlds.{AreAlike}
use Rattle.ec_sim_statement_laws.specs.expression.Alike.{SameStorage, AddsNone, FindAlike, IsAlike}
use Rattle.ec_sim_statement_laws.specs.expression.Lengths.{HaveLengths, InitHasLengths, PartHasLengths, PartsHaveLengths}
use Rattle.ec_sim_statement_laws.specs.expression.Laws.{ExpressionsAreAlike}
use Rattle.ec_sim_statement_laws.specs.expression.Silent.{Nothing, FoundCallsNone, PartCallsNone, PartsCallNone, InitializerCallsNone}
use Rattle.ec_sim_statement_laws.specs.expression.Rules.{CheckAlike, check_chain_alike, check_pure_alike, check_ask_alike, noted_first, demand_alike, none_before, QuietAlike, pure_quietly, demand_quietly, chain_alike, pure_alike, checks_alike, ask_alike, ask_first, arrange_first, quiet_first, adds_nothing}
use Rattle.ec_sim_statement_laws.specs.expression.Known.{members_same, shape_same, size_same}
use Rattle.ec_sim_statement_laws.specs.expression.Forms.{neither_calls, as_known_silent}
use Rattle.ec_sim_statement_laws.specs.expression.Walks.{value_found}

-- ---- what is known of structs and shapes

module _ (w v : World) (alike : AreAlike w v) where
  part_shape_same : (t : Option TyData) → part_shape v t ≡ part_shape w t
  part_shape_same None = refl
  part_shape_same (Some t) = λ i. shape_or_none (within_limit (shape_same w v alike t i))

  parts_same : (t : TyData) → parts_of v t ≡ parts_of w t
  parts_same void = refl
  parts_same (arithmetic a) = refl
  parts_same (pointer t) = refl
  parts_same (array t zero) = refl
  parts_same (array t (suc n)) = refl
  parts_same (structure k) = λ i. members_left (member_types (members_same w v alike k i)) ∷ []

  first_same : (t : TyData) → first_part v t ≡ first_part w t
  first_same void = refl
  first_same (arithmetic a) = refl
  first_same (pointer t) = refl
  first_same (array t n) = refl
  first_same (structure k) = λ i. first_type (member_types (members_same w v alike k i))

  going_same : (n : ℕ) (o : OperandData) (t : TyData) (fs : Frames) → going_in n v o t fs ≡ going_in n w o t fs
  going_same zero o t fs = refl
  going_same (suc n) o t fs = λ i. elim (is_whole o t) [
    | true ↦ Some (t, fs)
    | false ↦ elim (first_same t i) [
      | None ↦ None
      | Some inner ↦ ((λ j. going_in n v o inner (behind_first (parts_same t j) ++ fs)) ∙ going_same n o inner (behind_first (parts_of w t) ++ fs)) i
    ]
  ]

  behind_first_same : (offset : ℕ) (p : Option (Option TyData × Frames)) → spots_behind_first v offset p ≡ spots_behind_first w offset p
  behind_first_same offset None = refl
  behind_first_same offset (Some p) = λ i. spot_behind (spot_at offset) (part_shape_same p.0 i) ∷ []

  spots_same : (n : ℕ) (o : OperandData) (offset : ℕ) (t : TyData) (ss : List Spot) → spots_in n v o offset t ss ≡ spots_in n w o offset t ss
  spots_same zero o offset t ss = refl
  spots_same (suc n) o offset t ss = λ i. elim (is_whole o t) [
    | true ↦ ss
    | false ↦ elim (first_same t i) [
      | None ↦ ss
      | Some inner ↦ (((λ j. spots_in n v o offset inner (spots_behind_first v offset (next_part (parts_same t j)) ++ ss))
          ∙ (λ j. spots_in n v o offset inner (behind_first_same offset (next_part (parts_of w t)) j ++ ss)))
          ∙ spots_same n o offset inner (spots_behind_first w offset (next_part (parts_of w t)) ++ ss)) i
    ]
  ]

  next_spot_same : (fs : Frames) (ss : List Spot) → next_spot v fs ss ≡ next_spot w fs ss
  next_spot_same [] ss = refl
  next_spot_same (elements_left t zero ∷ fs) ss = next_spot_same fs (behind_spot ss)
  next_spot_same (elements_left t (suc n) ∷ fs) ss = λ i. take_spot (part_shape_same (Some t) i) ss
  next_spot_same (any_elements t n ∷ fs) ss = λ i. take_spot (part_shape_same (Some t) i) ss
  next_spot_same (members_left [] ∷ fs) ss = next_spot_same fs (behind_spot ss)
  next_spot_same (members_left (m ∷ ms) ∷ fs) ss = λ i. take_spot (part_shape_same m i) ss

  next_same : (fs : Option Frames) (ss : List Spot) → next_in v fs ss ≡ next_in w fs ss
  next_same None ss = refl
  next_same (Some fs) ss = next_spot_same fs ss

  goal_by_same : (o : OperandData) (next : ℕ × List Spot) (p : Option (Option TyData × Frames)) → goal_by v o next p ≡ goal_by w o next p
  goal_by_same o next None = refl
  goal_by_same o next (Some p) = by_type p.0
    where
      by_type : (t : Option TyData) → goal_by v o next (Some (t, p.1)) ≡ goal_by w o next (Some (t, p.1))
      by_type None = refl
      by_type (Some t) = λ i. record {
        type = goal_type (going_same max_depth o t p.1 i);
        offset = next.0;
        behind = spots_same max_depth o next.0 t next.1 i;
      }

  goal_same : (o : OperandData) (l : Left) → goal_of o l v ≡ goal_of o l w
  goal_same o l = by_frames l.frames
    where
      by_frames : (fs : Option Frames) → goal_of o (left fs l.spots) v ≡ goal_of o (left fs l.spots) w
      by_frames None = refl
      by_frames (Some fs) = (λ i. goal_by v o (next_spot_same fs l.spots i) (next_part fs)) ∙ goal_by_same o (next_spot w fs l.spots) (next_part fs)

  value_stored_same : (offset : ℕ) (t : TyData) (f : Found) → value_stored v offset t f ≡ value_stored w offset t f
  value_stored_same offset void f = refl
  value_stored_same offset (arithmetic a) f = refl
  value_stored_same offset (pointer t) f = refl
  value_stored_same offset (array t n) f = refl
  value_stored_same offset (structure k) f = λ i. struct_part offset (size_same w v alike (structure k) i) f.exp ∷ []

-- ---- what is looked at in the tree itself

module _ (n : ℕ) where
  literal_same : (e : ExprData) → is_literal (written_expr n e) ≡ is_literal e
  literal_same (string s) = refl
  literal_same _ = refl

  literal_in_same : (e : ExprData) → literal_in (written_expr n e) ≡ literal_in e
  literal_in_same (string s) = refl
  literal_in_same _ = refl

  text_alone_same : (is : InitList) → is_text_alone (written_inits n is) ≡ is_text_alone is
  text_alone_same no_inits = refl
  text_alone_same (inits (one e) no_inits) = literal_same e
  text_alone_same (inits (one e) (inits i is)) = refl
  text_alone_same (inits (many js) is) = refl

  inner_braces_same : (is : InitList) → has_inner_braces (written_inits n is) ≡ has_inner_braces is
  inner_braces_same no_inits = refl
  inner_braces_same (inits (one e) is) = refl
  inner_braces_same (inits (many js) is) = refl

  first_length_same : (e : ExprData) (is : InitList) → literal_length (inits (one (written_expr n e)) (written_inits n is)) ≡ literal_length (inits (one e) is)
  first_length_same (string s) is = refl
  first_length_same _ is = refl

  length_same : (is : InitList) → literal_length (written_inits n is) ≡ literal_length is
  length_same no_inits = refl
  length_same (inits (one e) is) = first_length_same e is
  length_same (inits (many js) is) = refl

  with_length_same : (t : TyData) (is : InitList) (fs : Option Frames) → with_length t (written_inits n is) fs ≡ with_length t is fs
  with_length_same t is None = refl
  with_length_same t is (Some fs) = λ i. Some (array t (if is_char_array (array t 0) && text_alone_same is i then length_same is i else elements_begun fs))

  completed_same : (t : TyData) (is : InitList) (fs : Option Frames) → completed t (written_inits n is) fs ≡ completed t is fs
  completed_same void is fs = refl
  completed_same (arithmetic a) is fs = refl
  completed_same (pointer t) is fs = refl
  completed_same (array t zero) is fs = with_length_same t is fs
  completed_same (array t (suc m)) is fs = refl
  completed_same (structure k) is fs = refl

  in_braces_same : (t : Option TyData) (is : InitList) (fs : Option Frames) → completed_in_braces t (written_inits n is) fs ≡ completed_in_braces t is fs
  in_braces_same None is fs = refl
  in_braces_same (Some t) is fs = completed_same t is fs

  braced_same : (t : Option TyData) (is : InitList) (w v : World) → AreAlike w v → braced_frames t (written_inits n is) v ≡ braced_frames t is w
  braced_same None is w v alike = refl
  braced_same (Some t) is w v alike = λ i. Some (if is_char_array t && text_alone_same is i then elements_left t 1 ∷ [] else parts_same w v alike t i)

-- ---- what is stored calls no library

parts_joined : (ps qs : List PartData) → PartsCallNone ps → PartsCallNone qs → PartsCallNone (ps ++ qs)
parts_joined [] qs h j = j
parts_joined (p ∷ ps) qs h j = (h.0, parts_joined ps qs h.1 j)

scalar_silent : (offset : ℕ) (kind : Option ScalarType) (e : Exp) → CallsNone e → PartsCallNone (scalar_stored offset kind e)
scalar_silent offset None e h = tt
scalar_silent offset (Some kind) e h = (h, tt)

value_silent : (w : World) (offset : ℕ) (t : TyData) (f : Found) → FoundCallsNone f → PartsCallNone (value_stored w offset t f)
value_silent w offset void f h = scalar_silent offset (scalar_type void) (as_known_type f.operand.type (Some void) f.exp) (as_known_silent f.operand.type (Some void) f.exp h)
value_silent w offset (arithmetic a) f h = scalar_silent offset (scalar_type (arithmetic a)) (as_known_type f.operand.type (Some (arithmetic a)) f.exp) (as_known_silent f.operand.type (Some (arithmetic a)) f.exp h)
value_silent w offset (pointer t) f h = scalar_silent offset (scalar_type (pointer t)) (as_known_type f.operand.type (Some (pointer t)) f.exp) (as_known_silent f.operand.type (Some (pointer t)) f.exp h)
value_silent w offset (array t n) f h = scalar_silent offset (scalar_type (array t n)) (as_known_type f.operand.type (Some (array t n)) f.exp) (as_known_silent f.operand.type (Some (array t n)) f.exp h)
value_silent w offset (structure k) f h = (h, tt)

known_silent : (c : ConstData) (e : Exp) → CallsNone e → CallsNone (known_exp c e)
known_silent variable e h = h
known_silent trapping e h = h
known_silent (known z) e h = refl

fixed_silent : (global : Bool) (f : Found) → FoundCallsNone f → FoundCallsNone (fixed_exp global f)
fixed_silent true f h = known_silent f.operand.constant f.exp h
fixed_silent false f h = h

module _ (at : Exp) (h : CallsNone at) where
  place_silent : (offset : ℕ) → CallsNone (place_in_object offset at)
  place_silent zero = h
  place_silent (suc n) = h

  part_stored_silent : (p : PartData) → PartCallsNone p → CallsNone (part_stored at p)
  part_stored_silent (scalar_part offset kind e) j = neither_calls (place_silent offset) j
  part_stored_silent (text_part offset text) j = place_silent offset
  part_stored_silent (struct_part offset size e) j = neither_calls (place_silent offset) j

  pub parts_stored_silent : (ps : List PartData) → PartsCallNone ps → have_call (parts_stored at ps) ≡ false
  parts_stored_silent [] j = refl
  parts_stored_silent (p ∷ ps) j = neither_calls (part_stored_silent p j.0) (parts_stored_silent ps j.1)

-- ---- rules, and steps behind them that find nothing

-- nothing is wrong where nothing follows
unit_last : {A B : Type 0} {P : A → Type 0} {seen : A → B} (c d : Rule B) (m n : Resolving A)
    → IsAlike P seen (check_chain c (λ b. check_pure b)) (check_chain d (λ b. check_pure b)) m n → IsAlike P seen c d m n
unfolding check_chain check_pure
unit_last {P = P} {seen = seen} c d m n p = record {
  finds = λ s t w v same alike e.
      let x : FindAlike P seen s t (check_chain c (λ b. check_pure b) w) (check_chain d (λ b. check_pure b) v) (m s w) (n t v) = p.finds s t w v same alike (λ i. e i ++ []) in
      record {
        answer = x.answer;
        silent = x.silent;
        worlds = x.worlds;
        storages = x.storages;
        adds_none = x.adds_none;
        adds_none_there = x.adds_none_there;
        checked = x.checked;
        checked_world = x.checked_world;
        checked_there = x.checked_there;
        checked_world_there = x.checked_world_there;
        without_fault = none_before (d v).found [] x.without_fault;
      };
}

-- a rule, and then an answer of its own
then_alike : {A B C : Type 0} {P : A → Type 0} {Q : C → Type 0} {seen : A → B} {seen' : C → B} (c d : Rule B) (m n : Resolving A) (k l : A → Resolving C)
    → IsAlike P seen c d m n → ((a : A) → P a → IsAlike Q seen' (check_pure (seen a)) (check_pure (seen a)) (k a) (l a)) → IsAlike Q seen' c d (chain m k) (chain n l)
then_alike c d m n k l p q = unit_last c d _ _ (chain_alike c d (λ b. check_pure b) (λ b. check_pure b) m n k l p q)

-- what the checks do nothing for, and then a rule
silent_first : {A B C : Type 0} {P : A → Type 0} {Q : C → Type 0} {seen : C → B} (c d : Rule B) (m n : Resolving A) (k l : A → Resolving C)
    → IsAlike P nothing_of (check_pure tt) (check_pure tt) m n → ((a : A) → P a → IsAlike Q seen c d (k a) (l a)) → IsAlike Q seen c d (chain m k) (chain n l)
unfolding check_chain check_pure
silent_first c d m n k l p q = chain_alike (check_pure tt) (check_pure tt) (λ _. c) (λ _. d) m n k l p q

-- what is asked for what is stored
asks_alike : {A : Type 0} {P : A → Type 0} (f g : World → A) → ((w v : World) → AreAlike w v → g v ≡ f w) → ((w : World) → P (f w))
    → IsAlike P nothing_of (check_pure tt) (check_pure tt) (ask f) (ask g)
unfolding ask check_pure
asks_alike f g same silent = record {
  finds = λ s t w v sames alike e. record {
    answer = same w v alike;
    silent = silent w;
    worlds = alike;
    storages = sames;
    adds_none = adds_nothing s;
    adds_none_there = adds_nothing t;
    checked = refl;
    checked_world = refl;
    checked_there = refl;
    checked_world_there = refl;
    without_fault = refl;
  };
}

-- the same answer, though it is told in another way
told_alike : {A B : Type 0} {P : A → Type 0} (seen : A → B) (a b : A) → b ≡ a → P a → IsAlike P seen (check_pure (seen a)) (check_pure (seen b)) (pure a) (pure b)
unfolding pure check_pure
told_alike seen a b same p = record {
  finds = λ s t w v sames alike e. record {
    answer = same;
    silent = p;
    worlds = alike;
    storages = sames;
    adds_none = adds_nothing s;
    adds_none_there = adds_nothing t;
    checked = refl;
    checked_world = refl;
    checked_there = λ i. seen (same i);
    checked_world_there = refl;
    without_fault = refl;
  };
}

-- ---- one expression

without_last_same : (s t : Storage) → SameStorage s t → SameStorage (without_last_literal s) (without_last_literal t)
without_last_same s t h = record {
  defined = h.defined;
  before_literals = h.before_literals;
  sites = h.sites;
  globals = h.globals;
  literals = λ i. take (length (h.literals i) - 1) (h.literals i);
  block = h.block;
}

without_last_adds : (s : Storage) → AddsNone s (without_last_literal s)
without_last_adds s = record { functions = refl; calls = refl; statements = refl }

module _ (n : ℕ) (e : ExprData) (f : Found) (h : FoundCallsNone f) where
  stored_alike : (offset : ℕ) (t : Option TyData)
      → IsAlike PartsCallNone nothing_of (check_pure tt) (check_pure tt) (stored_at offset t e f) (stored_at offset t (written_expr n e) f)
  unfolding stored_at
  stored_alike offset None = pure_alike nothing_of [] tt
  stored_alike offset (Some t) = by_text (is_text_for f.operand t)
    where
      by_text : (is_text : Bool) → IsAlike PartsCallNone nothing_of (check_pure tt) (check_pure tt)
          (elim is_text [
            | true ↦ chain (arrange without_last_literal) (λ _. pure (text_part offset (text_for t (literal_in e)) ∷ []))
            | false ↦ ask (λ w. value_stored w offset t f)
          ])
          (elim is_text [
            | true ↦ chain (arrange without_last_literal) (λ _. pure (text_part offset (text_for t (literal_in (written_expr n e))) ∷ []))
            | false ↦ ask (λ w. value_stored w offset t f)
          ])
      by_text true =
          arrange_first _ _ _ _ _ _ without_last_same without_last_adds without_last_adds
          (told_alike nothing_of (text_part offset (text_for t (literal_in e)) ∷ []) (text_part offset (text_for t (literal_in (written_expr n e))) ∷ [])
          (λ i. text_part offset (text_for t (literal_in_same n e i)) ∷ []) (tt, tt))
      by_text false = asks_alike _ _ (λ w v alike. value_stored_same w v alike offset t f) (λ w. value_silent w offset t f h)

-- ---- the rules of the checks

module _ (at there : Place) where
  fixed_alike : (global : Bool) (o : OperandData) → CheckAlike (checked.fixed_rule at global o) (checked.fixed_rule there global o)
  unfolding checked.fixed_rule
  fixed_alike global o = by_type o.type
    where
      by_type : (t : Option TyData) → CheckAlike {A = Unit {0}}
          (elim t [ None ↦ check_pure tt | Some t ↦ demand at F19 (not global || is_fixed_value o) ])
          (elim t [ None ↦ check_pure tt | Some t ↦ demand there F19 (not global || is_fixed_value o) ])
      by_type None = check_pure_alike tt
      by_type (Some t) = demand_alike at there F19 _ _ (λ x. x)

  suits_alike : (o : OperandData) (t : TyData) → CheckAlike (checked.suits_rule at o t) (checked.suits_rule there o t)
  unfolding checked.suits_rule
  suits_alike o t = by_type o.type
    where
      by_type : (s : Option TyData) → CheckAlike {A = Unit {0}}
          (elim s [ None ↦ check_pure tt | Some s ↦ demand at F14 (checked.suits o t s) ])
          (elim s [ None ↦ check_pure tt | Some s ↦ demand there F14 (checked.suits o t s) ])
      by_type None = check_pure_alike tt
      by_type (Some s) = demand_alike at there F14 _ _ (λ x. x)

  single_alike : (t : Option TyData) (o : OperandData) → CheckAlike (checked.single_by at t o) (checked.single_by there t o)
  single_alike None o = check_pure_alike None
  single_alike (Some t) o = check_chain_alike _ _ _ _ (suits_alike o t) (λ _. check_pure_alike (completed_by t o))

  go_by_alike : (o : OperandData) (p : Option (TyData × Frames)) → CheckAlike (checked.go_by at o p) (checked.go_by there o p)
  go_by_alike o None = check_pure_alike None
  go_by_alike o (Some p) = check_chain_alike _ _ _ _ (suits_alike o p.0) (λ _. check_pure_alike (Some p.1))

  go_to_alike : (o : OperandData) (p : Option (Option TyData × Frames)) → CheckAlike (checked.go_to at o p) (checked.go_to there o p)
  go_to_alike o None = noted_first at F14 _ _
  go_to_alike o (Some p) = by_type p.0
    where
      by_type : (t : Option TyData) → CheckAlike (checked.go_to at o (Some (t, p.1))) (checked.go_to there o (Some (t, p.1)))
      by_type None = check_pure_alike None
      by_type (Some t) =
          check_chain_alike _ _ _ _ (check_ask_alike _ _ (λ w v alike. going_same w v alike max_depth o t p.1)) (λ found. go_by_alike o found)

  part_alike : (fs : Option Frames) (o : OperandData) → CheckAlike (checked.part_rule at fs o) (checked.part_rule there fs o)
  unfolding checked.part_rule
  part_alike None o = check_pure_alike None
  part_alike (Some fs) o = by_type o.type
    where
      by_type : (s : Option TyData) → CheckAlike {A = Option Frames}
          (elim s [ None ↦ check_pure None | Some s ↦ checked.go_to at o (next_part fs) ])
          (elim s [ None ↦ check_pure None | Some s ↦ checked.go_to there o (next_part fs) ])
      by_type None = check_pure_alike None
      by_type (Some s) = go_to_alike o (next_part fs)

  slot_of_alike : (p : Option (Option TyData × Frames)) → CheckAlike (checked.slot_of at p) (checked.slot_of there p)
  slot_of_alike None = noted_first at F14 _ _
  slot_of_alike (Some p) = by_type p.0
    where
      by_type : (t : Option TyData) → CheckAlike (checked.slot_of at (Some (t, p.1))) (checked.slot_of there (Some (t, p.1)))
      by_type None = check_pure_alike (None, None)
      by_type (Some t) = check_pure_alike (Some t, Some p.1)

  slot_alike : (fs : Option Frames) → CheckAlike (checked.slot_rule at fs) (checked.slot_rule there fs)
  unfolding checked.slot_rule
  slot_alike None = check_pure_alike (None, None)
  slot_alike (Some fs) = slot_of_alike (next_part fs)

  braces_quiet : (n : ℕ) (t : Option TyData) (is : InitList) → QuietAlike (checked.braces_rule at t is) (checked.braces_rule there t (written_inits n is))
  unfolding checked.braces_rule
  braces_quiet n None is = pure_quietly
  braces_quiet n (Some t) is = demand_quietly at there F14 _ _ (λ x. (λ i. not (is_scalar t && inner_braces_same n is i)) ∙ x)

-- ---- initializers in their order

abbrev frames_of : Filled → Option Frames
frames_of r = r.0.frames

abbrev FilledCallsNone : Filled → Type 0
FilledCallsNone r = PartsCallNone r.1

module _ (expressions : ExpressionsAreAlike) (at there : Place) (n : ℕ) (global : Bool) where
  init_value_alike : (e : ExprData) → HaveLengths e
      → IsAlike FoundCallsNone operand_of (checked.init_value at global e) (checked.init_value there global (written_expr n e)) (init_value at global e) (init_value there global (written_expr n e))
  init_value_alike e h =
      chain_alike _ _ _ _ _ _ _ _ (chain_alike _ _ _ _ _ _ _ _ (expressions at there n e h) (λ f silent. value_found at there f silent)) (λ f silent.
      chain_alike _ _ _ _ _ _ _ _ (checks_alike _ _ (fixed_alike at there global f.operand)) (λ _ _. by_place global f silent))
    where
      by_place : (global : Bool) (f : Found) → FoundCallsNone f → IsAlike FoundCallsNone operand_of (check_pure f.operand) (check_pure f.operand) (pure (fixed_exp global f)) (pure (fixed_exp global f))
      by_place true f silent = pure_alike operand_of (fixed_exp true f) (fixed_silent true f silent)
      by_place false f silent = pure_alike operand_of (fixed_exp false f) silent

  mutual
    pub initializer_alike : (t : Option TyData) (i : InitData) → PartHasLengths i
        → IsAlike InitializerCallsNone type_of (checked.initializer at global t i) (checked.initializer there global t (written_init n i)) (initializer at global t i) (initializer there global t (written_init n i))
    initializer_alike t (one e) h =
        chain_alike _ _ _ _ _ _ _ _ (init_value_alike e h) (λ f silent.
        then_alike _ _ _ _ _ _ (checks_alike _ _ (single_alike at there t f.operand)) (λ ty _.
        silent_first _ _ _ _ _ _ (stored_alike n e f silent 0 t) (λ parts none. pure_alike type_of (ty, parts) none)))
    initializer_alike t (many is) h =
        quiet_first _ _ _ _ _ _ (braces_quiet at there n t is)
        (chain_alike _ _ _ _ _ _ _ _ (ask_alike {P = Nothing} _ _ (braced_same n t is) (λ w. tt)) (λ fs _.
        chain_alike _ _ _ _ _ _ _ _ (fill_alike (left fs (spot_at 0 ∷ [])) is h) (λ filled none.
        told_alike type_of (completed_in_braces t is filled.0.frames, filled.1) (completed_in_braces t (written_inits n is) filled.0.frames, filled.1) (λ i. (in_braces_same n t is filled.0.frames i, filled.1)) none)))

    fill_alike : (l : Left) (is : InitList) → PartsHaveLengths is
        → IsAlike FilledCallsNone frames_of (checked.fill at global l.frames is) (checked.fill there global l.frames (written_inits n is)) (fill at global l is) (fill there global l (written_inits n is))
    fill_alike l no_inits h = pure_alike frames_of (l, []) tt
    fill_alike l (inits i is) h =
        chain_alike _ _ _ _ _ _ _ _ (fill_part_alike l i h.0) (λ part first.
        then_alike _ _ _ _ _ _ (fill_alike part.0 is h.1) (λ more none. pure_alike frames_of (more.0, part.1 ++ more.1) (parts_joined part.1 more.1 first none)))

    fill_part_alike : (l : Left) (i : InitData) → PartHasLengths i
        → IsAlike FilledCallsNone frames_of (checked.fill_part at global l.frames i) (checked.fill_part there global l.frames (written_init n i)) (fill_part at global l i) (fill_part there global l (written_init n i))
    fill_part_alike l (one e) h =
        chain_alike _ _ _ _ _ _ _ _ (init_value_alike e h) (λ f silent.
        ask_first Nothing _ _ _ _ _ _ (λ w v alike. goal_same w v alike f.operand l) (λ w. tt) (λ goal _.
        then_alike _ _ _ _ _ _ (checks_alike _ _ (part_alike at there l.frames f.operand)) (λ fs _.
        silent_first _ _ _ _ _ _ (stored_alike n e f silent goal.offset goal.type) (λ parts none. pure_alike frames_of (left fs goal.behind, parts) none))))
    fill_part_alike l (many is) h =
        ask_first Nothing _ _ _ _ _ _ (λ w v alike. next_same w v alike l.frames l.spots) (λ w. tt) (λ next _.
        chain_alike _ _ _ _ _ _ _ _ (checks_alike _ _ (slot_alike at there l.frames)) (λ slot _.
        quiet_first _ _ _ _ _ _ (braces_quiet at there n slot.0 is)
        (chain_alike _ _ _ _ _ _ _ _ (ask_alike {P = Nothing} _ _ (braced_same n slot.0 is) (λ w. tt)) (λ gs _.
        chain_alike _ _ _ _ _ _ _ _ (fill_alike (left gs (spot_at next.0 ∷ [])) is h) (λ inner none.
        pure_alike frames_of (left slot.1 next.1, inner.1) none)))))

  pub initial_alike : (t : Option TyData) (i : InitOption) → InitHasLengths i
      → IsAlike InitializerCallsNone type_of (statements.initial at global t i) (statements.initial there global t (written_initializer n i)) (initial at global t i) (initial there global t (written_initializer n i))
  initial_alike t no_init h = pure_alike type_of (t, []) tt
  initial_alike t (some_init i) h = initializer_alike t i h
