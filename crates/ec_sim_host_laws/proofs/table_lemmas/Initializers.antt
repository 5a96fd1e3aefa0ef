-- Tables stay as they are to be by initializers.
use Rattle.std.proofs.Common.{refl, sym, subst, ◌+◌, ◌<◌, ◌&&◌, [], ◌∷◌, length, arith, ◌≡◌, ℕ, zero, suc, Bool, true, false, List, Option, Some, None, if◌then◌else◌}
use Rattle.ec_ctypes.specs.trees.Types.{TyData, void, arithmetic, pointer, array, structure}
use Rattle.ec_ctypes.specs.trees.Exprs.{ExprData, integer, character, string, identifier, unary, binary, assign, bump, call, call_other, index, member, arrow, cast, size_type, size_expr, InitData, one, many, InitList, no_inits, inits, some_init}
use Rattle.ec_typing_defs.specs.Operands.{OperandData}
use Rattle.ec_typing_defs.specs.Types.{is_char_array}
use Rattle.ec_typing_defs.specs.Worlds.{Place, StructInfo, World, chain, pure, ask}
use Rattle.ec_sim_world_laws.specs.place.Structs.{EachStruct}
use Rattle.ec_typing_defs.specs.Initializers.{elements_left, any_elements, is_literal, is_text_alone, literal_length, elements_begun, with_length, literal_array, completed_by, braced_frames, completed_in_braces, Frames, fixed_rule, init_value, suits_rule, go_by, go_to, next_part, part_rule, slot_of, slot_rule, single_by, braces_rule, initializer, fill, fill_part}
use Rattle.ec_sim_world_laws.specs.closing.Closing.{IsSized}
use Rattle.ec_sim_world_laws.proofs.closing_lemmas.Lists.{false_not}
use Rattle.ec_sim_host_laws.proofs.table_lemmas.Fitting.{second_true, is_plain, Listed}
use Rattle.ec_sim_host_laws.proofs.table_lemmas.Frames.{EndsIn, HasNext, HaveNext, further, start_next, fill_some_ends, ends_begun}
use Rattle.ec_sim_host_laws.proofs.table_lemmas.Full.{IsFullInit}
use Rattle.ec_sim_host_laws.proofs.table_lemmas.Rules.{Keeping, chained, asked, pure_keeps, fault, demand_keeps, if_some}
use Rattle.ec_sim_host_laws.proofs.table_lemmas.Expressions.{valued, expr_keeps}

fixed_keeps : {quiet : Bool} (at : Place) (global : Bool) (o : OperandData) → Keeping quiet (fixed_rule at global o)
unfolding fixed_rule
fixed_keeps at global o = if_some o.type (pure_keeps _) (λ t. demand_keeps _ _ _)

value_keeps : {quiet : Bool} (at : Place) (global : Bool) (e : ExprData) → Keeping quiet (init_value at global e)
value_keeps at global e = chained (valued at (expr_keeps at e)) (λ o. chained (fixed_keeps at global o) (λ a. pure_keeps _))

suits_keeps : {quiet : Bool} (at : Place) (o : OperandData) (t : TyData) → Keeping quiet (suits_rule at o t)
unfolding suits_rule
suits_keeps at o t = if_some o.type (pure_keeps _) (λ s. demand_keeps _ _ _)

go_by_keeps : {quiet : Bool} (at : Place) (o : OperandData) (p : Option (TyData × Frames)) → Keeping quiet (go_by at o p)
go_by_keeps at o None = pure_keeps _
go_by_keeps at o (Some p) = chained (suits_keeps at o p.0) (λ a. pure_keeps _)

go_to_keeps : {quiet : Bool} (at : Place) (o : OperandData) (p : Option (Option TyData × Frames)) → Keeping quiet (go_to at o p)
go_to_keeps at o None = fault _ _ _
go_to_keeps at o (Some p) = if_some p.0 (pure_keeps _) (λ t. asked _ _ (λ known. go_by_keeps at o _))

expression_part_keeps : {quiet : Bool} (at : Place) (fs : Option Frames) (o : OperandData) → Keeping quiet (part_rule at fs o)
unfolding part_rule
expression_part_keeps at None o = pure_keeps _
expression_part_keeps at (Some fs) o = if_some o.type (pure_keeps _) (λ s. go_to_keeps at o (next_part fs))

slot_of_keeps : {quiet : Bool} (at : Place) (p : Option (Option TyData × Frames)) → Keeping quiet (slot_of at p)
slot_of_keeps at None = fault _ _ _
slot_of_keeps at (Some p) = if_some p.0 (pure_keeps _) (λ t. pure_keeps _)

slot_keeps : {quiet : Bool} (at : Place) (fs : Option Frames) → Keeping quiet (slot_rule at fs)
unfolding slot_rule
slot_keeps at None = pure_keeps _
slot_keeps at (Some fs) = slot_of_keeps at (next_part fs)

single_keeps : {quiet : Bool} (at : Place) (t : Option TyData) (o : OperandData) → Keeping quiet (single_by at t o)
single_keeps at None o = pure_keeps _
single_keeps at (Some t) o = chained (suits_keeps at o t) (λ a. pure_keeps _)

braces_keeps : {quiet : Bool} (at : Place) (t : Option TyData) (is : InitList) → Keeping quiet (braces_rule at t is)
unfolding braces_rule
braces_keeps at None is = pure_keeps _
braces_keeps at (Some t) is = demand_keeps _ _ _

mutual
  pub initializer_keeps : {quiet : Bool} (at : Place) (global : Bool) (t : Option TyData) (i : InitData) → Keeping quiet (initializer at global t i)
  initializer_keeps at global t (one e) = chained (value_keeps at global e) (λ o. single_keeps at t o)
  initializer_keeps at global t (many is) = chained (braces_keeps at t is) (λ a. asked _ _ (λ known. chained (fill_keeps at global _ is) (λ rest. pure_keeps _)))

  fill_keeps : {quiet : Bool} (at : Place) (global : Bool) (fs : Option Frames) (is : InitList) → Keeping quiet (fill at global fs is)
  fill_keeps at global fs no_inits = pure_keeps _
  fill_keeps at global fs (inits i is) = chained (part_keeps at global fs i) (λ rest. fill_keeps at global rest is)

  part_keeps : {quiet : Bool} (at : Place) (global : Bool) (fs : Option Frames) (i : InitData) → Keeping quiet (fill_part at global fs i)
  part_keeps at global fs (one e) = chained (value_keeps at global e) (λ o. expression_part_keeps at fs o)
  part_keeps at global fs (many is) = chained (slot_keeps at fs) (λ slot. chained (braces_keeps at slot.0 is) (λ a. asked _ _ (λ known. chained (fill_keeps at global _ is) (λ rest. pure_keeps _))))

-- ---- the type of what is initialized

-- It has a size, but for the length of an array.
abbrev pub IsOpen : TyData → Type 0
IsOpen void = ⊥
IsOpen (arithmetic a) = Unit {0}
IsOpen (pointer t) = Unit {0}
IsOpen (array t n) = IsSized t
IsOpen (structure k) = Unit {0}

pub sized_open : (t : TyData) → IsSized t → IsOpen t
sized_open void s = absurd s
sized_open (arithmetic a) s = tt
sized_open (pointer t) s = tt
sized_open (array t zero) s = absurd s
sized_open (array t (suc n)) s = s
sized_open (structure k) s = tt

-- a type as a declarator makes it, of structs that are listed
abbrev pub MadeIn : List StructInfo → Option TyData → Type 0
MadeIn ss None = Unit {0}
MadeIn ss (Some t) = (is_plain t ≡ true) × (EachStruct (Listed ss) t × IsSized t)

-- the same before its initializer tells its length
abbrev pub BeforeIn : List StructInfo → Option TyData → Type 0
BeforeIn ss None = Unit {0}
BeforeIn ss (Some t) = (is_plain t ≡ true) × (EachStruct (Listed ss) t × IsOpen t)

length_made : (ss : List StructInfo) (t : TyData) (n : ℕ) → 0 < n → BeforeIn ss (Some (array t 0)) → MadeIn ss (Some (array t n))
length_made ss t zero p h = absurd (none_below p)
  where
    none_below : 0 < 0 → ⊥
    none_below p = omega (arith, p)
length_made ss t (suc n) p h = h

literal_positive : (x : ExprData) → is_literal x ≡ true → 0 < literal_length (inits (one x) no_inits)
literal_positive (integer n t) e = false_not e
literal_positive (character c) e = false_not e
literal_positive (string s) e = further (length s)
literal_positive (identifier x) e = false_not e
literal_positive (unary op a) e = false_not e
literal_positive (binary op a b) e = false_not e
literal_positive (assign op a b) e = false_not e
literal_positive (bump before up a) e = false_not e
literal_positive (call f es) e = false_not e
literal_positive (call_other f es) e = false_not e
literal_positive (index a b) e = false_not e
literal_positive (member a m) e = false_not e
literal_positive (arrow a m) e = false_not e
literal_positive (cast b stars a) e = false_not e
literal_positive (size_type b stars) e = false_not e
literal_positive (size_expr a) e = false_not e

text_positive : (is : InitList) → is_text_alone is ≡ true → 0 < literal_length is
text_positive no_inits e = false_not e
text_positive (inits (one x) no_inits) e = literal_positive x e
text_positive (inits (one x) (inits j js)) e = false_not e
text_positive (inits (many js) no_inits) e = false_not e
text_positive (inits (many js) (inits i is)) e = false_not e

abbrev is_text : TyData → InitList → Bool
is_text t is = is_char_array (array t 0) && is_text_alone is

length_by_made : (ss : List StructInfo) (t : TyData) (is : InitList) (fs : Option Frames) → (is_text t is ≡ false → EndsIn fs) → BeforeIn ss (Some (array t 0)) → MadeIn ss (with_length t is fs)
length_by_made ss t is None ends h = tt
length_by_made ss t is (Some fs) ends h = length_made ss t (if is_text t is then literal_length is else elements_begun fs) (by_test (is_text t is) refl) h
  where
    by_test : (b : Bool) → is_text t is ≡ b → 0 < (if b then literal_length is else elements_begun fs)
    by_test true e = text_positive is (second_true (is_char_array (array t 0)) (is_text_alone is) e)
    by_test false e = ends_begun fs (ends e)

braces_made : (ss : List StructInfo) (t : Option TyData) (is : InitList) (fs : Option Frames) → ((s : TyData) → t ≡ Some (array s 0) → is_text s is ≡ false → EndsIn fs) → BeforeIn ss t → MadeIn ss (completed_in_braces t is fs)
braces_made ss None is fs ends h = tt
braces_made ss (Some void) is fs ends h = h
braces_made ss (Some (arithmetic a)) is fs ends h = h
braces_made ss (Some (pointer t)) is fs ends h = h
braces_made ss (Some (array t zero)) is fs ends h = length_by_made ss t is fs (ends t refl) h
braces_made ss (Some (array t (suc n))) is fs ends h = h
braces_made ss (Some (structure k)) is fs ends h = h

literal_made : (ss : List StructInfo) (t : TyData) (n : Option ℕ) → BeforeIn ss (Some (array t 0)) → MadeIn ss (literal_array t n)
literal_made ss t None h = tt
literal_made ss t (Some n) h = length_made ss t (n + 1) (further n) h

by_made : (ss : List StructInfo) (t : TyData) (o : OperandData) → BeforeIn ss (Some t) → MadeIn ss (completed_by t o)
by_made ss void o h = h
by_made ss (arithmetic a) o h = h
by_made ss (pointer t) o h = h
by_made ss (array t zero) o h = by_test (is_char_array (array t zero))
  where
    by_test : (b : Bool) → MadeIn ss (if b then literal_array t o.literal else None)
    by_test true = literal_made ss t o.literal h
    by_test false = tt
by_made ss (array t (suc n)) o h = h
by_made ss (structure k) o h = h

single_made : (ss : List StructInfo) (at : Place) (t : Option TyData) (o : OperandData) → BeforeIn ss t → (w : World) → MadeIn ss (single_by at t o w).answer
unfolding chain pure
single_made ss at None o h w = tt
single_made ss at (Some t) o h w = by_made ss t o h

-- what an array without a length is filled from
frames_next : (w : World) (t : TyData) (is : InitList) → is_text t is ≡ false → HaveNext (braced_frames (Some (array t 0)) is w)
frames_next w t is e = subst (λ b. HasNext (if b then elements_left (array t 0) 1 ∷ [] else any_elements t 0 ∷ [])) (sym e) (start_next t)

next_by : (w : World) (t : Option TyData) (is : InitList) (s : TyData) → t ≡ Some (array s 0) → is_text s is ≡ false → HaveNext (braced_frames t is w)
next_by w t is s same e = subst (λ o. HaveNext (braced_frames o is w)) (sym same) (frames_next w s is e)

pub initializer_made : (ss : List StructInfo) (at : Place) (global : Bool) (t : Option TyData) (i : InitData) → IsFullInit (some_init i) → BeforeIn ss t → (w : World) → MadeIn ss (initializer at global t i w).answer
unfolding chain pure ask
initializer_made ss at global t (one e) full h w = single_made ss at t _ h _
initializer_made ss at global t (many no_inits) full h w = absurd full
initializer_made ss at global t (many (inits i is)) full h w =
    braces_made ss t (inits i is) _ (λ s same no_text. fill_some_ends at global _ i is (next_by _ t (inits i is) s same no_text) _) h
