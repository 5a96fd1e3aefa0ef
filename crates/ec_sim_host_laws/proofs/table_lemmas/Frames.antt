-- The number of elements that an initializer gives an array without a length is one or more.
use Rattle.std.proofs.Common.{◌≡◌, ◌+◌, ◌<◌, ℕ, zero, suc, Bool, true, false, [], ◌∷◌, ◌++◌, Option, Some, None, refl, sym, subst, arith}
use Rattle.ec_ctypes.specs.trees.Types.{TyData}
use Rattle.ec_ctypes.specs.trees.Exprs.{InitData, one, many, InitList, no_inits, inits}
use Rattle.ec_typing_defs.specs.Operands.{OperandData}
use Rattle.ec_typing_defs.specs.Worlds.{Place, World, Rule, chain, pure, ask}
use Rattle.ec_typing_defs.specs.Initializers.{FrameData, elements_left, any_elements, members_left, Frames, next_part, parts_of, behind_first, is_whole, first_part, going_in, max_depth, go_by, go_to, part_rule, slot_of, slot_rule, fill, fill_part, elements_begun}

-- the outermost part is any number of elements, of which some were begun
abbrev pub IsCounted : FrameData → Type 0
IsCounted (elements_left t n) = ⊥
IsCounted (any_elements t n) = 0 < n
IsCounted (members_left ts) = ⊥

abbrev pub Ends : Frames → Type 0
Ends [] = ⊥
Ends (f ∷ []) = IsCounted f
Ends (f ∷ (g ∷ fs)) = Ends (g ∷ fs)

abbrev pub EndsIn : Option Frames → Type 0
EndsIn None = Unit {0}
EndsIn (Some fs) = Ends fs

-- there is a next part, behind which this holds
pub record HasNext (fs : Frames) : Type 0 where
  pub part : Option TyData
  pub rest : Frames
  pub is : next_part fs ≡ Some (part, rest)
  pub ends : Ends rest

abbrev pub HaveNext : Option Frames → Type 0
HaveNext None = Unit {0}
HaveNext (Some fs) = HasNext fs

ends_behind : (f : FrameData) (fs : Frames) → Ends fs → Ends (f ∷ fs)
ends_behind f [] e = absurd e
ends_behind f (g ∷ fs) e = e

ends_append : (xs fs : Frames) → Ends fs → Ends (xs ++ fs)
ends_append [] fs e = e
ends_append (x ∷ xs) fs e = ends_behind x (xs ++ fs) (ends_append xs fs e)

pub further : (n : ℕ) → 0 < n + 1
further n = omega arith

ends_next : (fs : Frames) → Ends fs → HasNext fs
ends_next [] e = absurd e
ends_next (elements_left t n ∷ []) e = absurd e
ends_next (members_left ts ∷ []) e = absurd e
ends_next (any_elements t n ∷ []) e = record { part = Some t; rest = any_elements t (n + 1) ∷ []; is = refl; ends = further n }
ends_next (elements_left t zero ∷ (g ∷ fs)) e = let p = ends_next (g ∷ fs) e in record { part = p.part; rest = p.rest; is = p.is; ends = p.ends }
ends_next (elements_left t (suc n) ∷ (g ∷ fs)) e = record { part = Some t; rest = elements_left t n ∷ (g ∷ fs); is = refl; ends = e }
ends_next (any_elements t n ∷ (g ∷ fs)) e = record { part = Some t; rest = any_elements t (n + 1) ∷ (g ∷ fs); is = refl; ends = e }
ends_next (members_left [] ∷ (g ∷ fs)) e = let p = ends_next (g ∷ fs) e in record { part = p.part; rest = p.rest; is = p.is; ends = p.ends }
ends_next (members_left (m ∷ ms) ∷ (g ∷ fs)) e = record { part = m; rest = members_left ms ∷ (g ∷ fs); is = refl; ends = e }

-- where nothing was begun
pub start_next : (t : TyData) → HasNext (any_elements t 0 ∷ [])
start_next t = record { part = Some t; rest = any_elements t (0 + 1) ∷ []; is = refl; ends = further 0 }

pub have_next : (o : Option Frames) → EndsIn o → HaveNext o
have_next None e = tt
have_next (Some fs) e = ends_next fs e

-- ---- one part

abbrev PartEnds : Option (TyData × Frames) → Type 0
PartEnds None = Unit {0}
PartEnds (Some p) = Ends p.1

by_first : (f : TyData → Option (TyData × Frames)) (p : Option TyData) → ((inner : TyData) → PartEnds (f inner)) → PartEnds (elim p [ None ↦ None | Some inner ↦ f inner ])
by_first f None h = tt
by_first f (Some inner) h = h inner

going_ends : (n : ℕ) (w : World) (o : OperandData) (t : TyData) (fs : Frames) → Ends fs → PartEnds (going_in n w o t fs)
going_ends zero w o t fs e = tt
going_ends (suc n) w o t fs e =
    by_whole (is_whole o t) (λ inner. going_ends n w o inner (behind_first (parts_of w t) ++ fs) (ends_append (behind_first (parts_of w t)) fs e))
  where
    by_whole : (b : Bool) → ((inner : TyData) → PartEnds (going_in n w o inner (behind_first (parts_of w t) ++ fs)))
        → PartEnds (elim b [ true ↦ Some (t, fs) | false ↦ elim (first_part w t) [ None ↦ None | Some inner ↦ going_in n w o inner (behind_first (parts_of w t) ++ fs) ] ])
    by_whole true more = e
    by_whole false more = by_first (λ inner. going_in n w o inner (behind_first (parts_of w t) ++ fs)) (first_part w t) more

go_by_ends : (at : Place) (o : OperandData) (p : Option (TyData × Frames)) → PartEnds p → (w : World) → EndsIn (go_by at o p w).answer
unfolding chain pure
go_by_ends at o None e w = tt
go_by_ends at o (Some p) e w = e

go_some_ends : (at : Place) (o : OperandData) (part : Option TyData) (rest : Frames) → Ends rest → (w : World) → EndsIn (go_to at o (Some (part, rest)) w).answer
unfolding chain pure ask
go_some_ends at o None rest e w = tt
go_some_ends at o (Some t) rest e w = go_by_ends at o (going_in max_depth w o t rest) (going_ends max_depth w o t rest e) w

part_ends : (at : Place) (fs : Option Frames) (o : OperandData) → HaveNext fs → (w : World) → EndsIn (part_rule at fs o w).answer
unfolding part_rule pure
part_ends at None o h w = tt
part_ends at (Some fs) o h w = by_type o.type
  where
    by_type : (t : Option TyData) → EndsIn (elim t as (λ _. Rule (Option Frames)) [ None ↦ pure None | Some s ↦ go_to at o (next_part fs) ] w).answer
    by_type None = tt
    by_type (Some s) = subst (λ p. EndsIn (go_to at o p w).answer) (sym h.is) (go_some_ends at o h.part h.rest h.ends w)

slot_some_ends : (at : Place) (part : Option TyData) (rest : Frames) → Ends rest → (w : World) → EndsIn (slot_of at (Some (part, rest)) w).answer.1
unfolding pure
slot_some_ends at None rest e w = tt
slot_some_ends at (Some t) rest e w = e

slot_ends : (at : Place) (fs : Option Frames) → HaveNext fs → (w : World) → EndsIn (slot_rule at fs w).answer.1
unfolding slot_rule pure
slot_ends at None h w = tt
slot_ends at (Some fs) h w = subst (λ p. EndsIn (slot_of at p w).answer.1) (sym h.is) (slot_some_ends at h.part h.rest h.ends w)

fill_part_ends : (at : Place) (global : Bool) (fs : Option Frames) (i : InitData) → HaveNext fs → (w : World) → EndsIn (fill_part at global fs i w).answer
unfolding chain pure ask
fill_part_ends at global fs (one e) h w = part_ends at fs _ h _
fill_part_ends at global fs (many is) h w = slot_ends at fs h w

-- ---- all parts

pub fill_ends : (at : Place) (global : Bool) (is : InitList) (fs : Option Frames) → EndsIn fs → (w : World) → EndsIn (fill at global fs is w).answer
unfolding chain pure
fill_ends at global no_inits fs e w = e
fill_ends at global (inits i is) fs e w = fill_ends at global is _ (fill_part_ends at global fs i (have_next fs e) w) _

-- one or more
pub fill_some_ends : (at : Place) (global : Bool) (fs : Option Frames) (i : InitData) (is : InitList) → HaveNext fs → (w : World) → EndsIn (fill at global fs (inits i is) w).answer
unfolding chain
fill_some_ends at global fs i is h w = fill_ends at global is _ (fill_part_ends at global fs i h w) _

pub ends_begun : (fs : Frames) → Ends fs → 0 < elements_begun fs
ends_begun [] e = absurd e
ends_begun (elements_left t n ∷ []) e = absurd e
ends_begun (members_left ts ∷ []) e = absurd e
ends_begun (any_elements t n ∷ []) e = e
ends_begun (elements_left t n ∷ (g ∷ fs)) e = ends_begun (g ∷ fs) e
ends_begun (any_elements t n ∷ (g ∷ fs)) e = ends_begun (g ∷ fs) e
ends_begun (members_left ts ∷ (g ∷ fs)) e = ends_begun (g ∷ fs) e
