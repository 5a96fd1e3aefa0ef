-- What is found out of types where the same structs are known.
use Rattle.std.proofs.Common.{◌≡◌, ◌∙◌, ℕ, zero, suc, Bool, true, false, ◌&&◌, List, [], ◌∷◌, map, refl, ap, Option, Some, None, if◌then◌else◌}
use Rattle.std.specs.Prelude.{option_map, option_and_then, slice_get}
use Rattle.ec_ctypes.specs.Layout.{shape_among, no_members, member_behind}
use Rattle.ec_ctypes.specs.trees.Types.{TyData, void, arithmetic, pointer, array, structure}
use Rattle.ec_ctypes.specs.trees.Exprs.{ExprData}
use Rattle.ec_language.specs.Letters.{Text}
use Rattle.ec_typing_defs.specs.Expressions.{typed_members}
use Rattle.ec_typing_defs.specs.Types.{is_structure}
use Rattle.ec_typing_defs.specs.Worlds.{MembersData, unlisted, begun, listed, StructInfo, World, entered, members_of, shapes_in, is_listed, is_complete}
use Rattle.ec_meaning_defs.specs.resolved.Operations.{pointer_plus, plus_pointer}
use Rattle.ec_meaning_defs.specs.resolved.Resolved.{Exp, whole, operate, call, faulty}
use Rattle.ec_resolving_defs.specs.Conversions.{size_in, size_or_none, within_limit, read_at, element_exp}
use Rattle.ec_resolving_defs.specs.Operands.{Found, value_exp, over_type, discarded, is_call_alone, without_use, done_alone, offset_among, member_exp, member_at}
use Rattle.ec_sim_statement_laws.specs.statement.Blocks.{has_call}
use Rattle.ec_sim_statement_laws.specs.expression.Worlds.{SameStructs, AreAlike}

pub record SameLayout (w z : World) : Type 0 where
  pub shapes : shapes_in z ≡ shapes_in w
  pub members : (k : ℕ) → members_of k z ≡ members_of k w

pub inside_layout : (w : World) → SameLayout w (entered w)
inside_layout w = record { shapes = refl; members = λ k. refl }

same_shapes : (ss ts : List StructInfo) → SameStructs ss ts → map (λ s. s.shape) ts ≡ map (λ s. s.shape) ss
same_shapes [] [] h = refl
same_shapes [] (t ∷ ts) h = absurd h
same_shapes (s ∷ ss) [] h = absurd h
same_shapes (s ∷ ss) (t ∷ ts) h = λ i. h.0.shape i ∷ same_shapes ss ts h.1 i

same_members : (ss ts : List StructInfo) (k : ℕ) → SameStructs ss ts → option_map (λ s. s.members) (slice_get ts k) ≡ option_map (λ s. s.members) (slice_get ss k)
same_members [] [] k h = refl
same_members [] (t ∷ ts) k h = absurd h
same_members (s ∷ ss) [] k h = absurd h
same_members (s ∷ ss) (t ∷ ts) zero h = λ i. Some (h.0.members i)
same_members (s ∷ ss) (t ∷ ts) (suc k) h = same_members ss ts k h.1

pub alike_layout : {w z : World} → AreAlike w z → SameLayout w z
alike_layout {w} {z} h = record {
  shapes = same_shapes w.structs z.structs h.structs;
  members = λ k. same_members w.structs z.structs k h.structs;
}

-- ---- types

pub complete_same : {w z : World} → SameLayout w z → (t : TyData) → is_complete z t ≡ is_complete w t
complete_same l void = refl
complete_same l (arithmetic a) = refl
complete_same l (pointer t) = refl
complete_same l (array t zero) = refl
complete_same l (array t (suc n)) = complete_same l t
complete_same l (structure k) = ap is_listed (l.members k)

pub size_same : {w z : World} → SameLayout w z → (t : TyData) → size_in z t ≡ size_in w t
size_same l t = λ i. size_or_none (within_limit (shape_among (l.shapes i) t))

-- ---- forms

pub element_same : {w z : World} → SameLayout w z → (s : TyData) (x : Exp) (t : TyData) (y : Exp) → element_exp z s x t y ≡ element_exp w s x t y
element_same l (pointer s) x (arithmetic b) y = λ i. operate (pointer_plus (size_same l s i)) x y
element_same l (arithmetic a) x (pointer t) y = λ i. operate (plus_pointer (size_same l t i)) x y
element_same l _ x _ y = refl

pub offset_same : {w z : World} → SameLayout w z → (m : Text) (o : Option MembersData) → offset_among z m o ≡ offset_among w m o
offset_same l m None = refl
offset_same l m (Some unlisted) = refl
offset_same l m (Some begun) = refl
offset_same l m (Some (listed ms)) = λ i. option_and_then (λ ds. option_map (λ d. d.0) (member_behind (l.shapes i) no_members m ds)) (typed_members ms)

pub member_same : {w z : World} → SameLayout w z → (k : Option ℕ) (m : Text) (e : Exp) → member_exp z k m e ≡ member_exp w k m e
member_same l None m e = refl
member_same {w} {z} l (Some k) m e = (λ i. member_at e (offset_among z m (l.members k i))) ∙ (λ i. member_at e (offset_same l m (members_of k w) i))

by_type : (o : Option TyData) (x : Exp) (f g : TyData → Exp) → ((t : TyData) → f t ≡ g t) → elim o as (λ u. Exp) [ None ↦ x | Some t ↦ f t ] ≡ elim o as (λ u. Exp) [ None ↦ x | Some t ↦ g t ]
by_type None x f g h = refl
by_type (Some t) x f g h = h t

discarded_same : {w z : World} → SameLayout w z → (f : Found) → discarded z f ≡ discarded w f
discarded_same l f = by_type f.operand.type faulty _ _ (λ t i. if is_structure t && (f.operand.is_place && complete_same l t i) then whole (size_same l t i) f.exp else value_exp f)

pub done_same : {w z : World} → SameLayout w z → (e : ExprData) (f : Found) → done_alone z e f ≡ done_alone w e f
done_same l e f = λ i. if is_call_alone e f.operand.type then without_use (discarded_same l f i) else discarded_same l f i

-- ---- what is done calls no library

read_none : (t : TyData) (e : Exp) → has_call e ≡ false → has_call (read_at t e) ≡ false
read_none void e h = h
read_none (arithmetic a) e h = h
read_none (pointer t) e h = h
read_none (array t n) e h = h
read_none (structure k) e h = h

value_none : (is_address : Bool) (o : Option TyData) (e : Exp) → has_call e ≡ false → has_call (if is_address then over_type o (λ t. read_at t e) else e) ≡ false
value_none true None e h = refl
value_none true (Some t) e h = read_none t e h
value_none false o e h = h

whole_none : (b : Bool) (n : ℕ) (e v : Exp) → has_call e ≡ false → has_call v ≡ false → has_call (if b then whole n e else v) ≡ false
whole_none true n e v h k = h
whole_none false n e v h k = k

none_by : (o : Option TyData) (b : TyData → Bool) (n : TyData → ℕ) (e v : Exp) → has_call e ≡ false → has_call v ≡ false
    → has_call (elim o as (λ u. Exp) [ None ↦ faulty | Some t ↦ if b t then whole (n t) e else v ]) ≡ false
none_by None b n e v h k = refl
none_by (Some t) b n e v h k = whole_none (b t) (n t) e v h k

unused_none : (e : Exp) → has_call e ≡ false → has_call (without_use e) ≡ false
unused_none (call f used es) h = h
unused_none _ h = h

either_none : (b : Bool) (x y : Exp) → has_call x ≡ false → has_call y ≡ false → has_call (if b then x else y) ≡ false
either_none true x y h k = h
either_none false x y h k = k

pub done_none : (w : World) (e : ExprData) (f : Found) → has_call f.exp ≡ false → has_call (done_alone w e f) ≡ false
done_none w e f h = either_none (is_call_alone e f.operand.type) _ _ (unused_none (discarded w f) there) there
  where
    there : has_call (discarded w f) ≡ false
    there = none_by f.operand.type (λ t. is_structure t && (f.operand.is_place && is_complete w t)) (λ t. size_in w t) f.exp (value_exp f) h (value_none f.is_address f.operand.type f.exp h)
