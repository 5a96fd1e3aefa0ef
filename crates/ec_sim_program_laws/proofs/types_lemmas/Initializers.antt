-- Initializers complete the types of what they initialize where nothing is wrong.
use Rattle.std.proofs.Common.{◌≡◌, ◌∙◌, ℕ, zero, suc, ◌+◌, ◌≤◌, Bool, true, false, ◌&&◌, List, [], ◌∷◌, ◌++◌, map, length, Option, Some, None, refl, sym, ap, subst, slice_get, option_map, arith, if◌then◌else◌}
use Rattle.std.specs.Prelude.{is_some}
use Rattle.std.proofs.lemmas.Bool.{false≢true}
use Rattle.ec_base.specs.declared.fault.FaultKind.TheVariants.{F14}
use Rattle.ec_ctypes.specs.trees.Types.{TyData, void, arithmetic, pointer, array, structure}
use Rattle.ec_ctypes.specs.trees.Exprs.{ExprData, InitData, one, many, InitList, no_inits, inits}
use Rattle.ec_typing_defs.specs.Types.{is_char_array}
use Rattle.ec_typing_defs.specs.Operands.{OperandData}
use Rattle.ec_typing_defs.specs.Initializers.{FrameData, elements_left, any_elements, members_left, Frames, next_part, member_types, parts_of, behind_first, is_whole, first_type, first_part, going_in, max_depth, has_room, suits, fixed_rule, init_value, suits_rule, go_by, go_to, part_rule, Slot, slot_of, slot_rule, is_text_alone, braced_parts, literal_array, completed_by, single_by, braces_rule, braced_frames, completed_in_braces, initializer, fill, fill_part}
use Rattle.ec_typing_defs.specs.Worlds.{Place, listed, StructInfo, World, Rule, chain, ask, pure, members_of, is_listed}
use Rattle.ec_typing_defs.specs.Expressions.{Members, first_types, first_of_members}
use Rattle.ec_sim_world_laws.proofs.growth_lemmas.Rules as growth
use Rattle.ec_sim_world_laws.specs.closing.Closing.{IsTyped, members_at}
use Rattle.ec_sim_world_laws.proofs.closing_lemmas.Lists.{none_not, some_is}
use Rattle.ec_sim_world_laws.proofs.closing_lemmas.Orders.{ListedStay}
use Rattle.ec_sim_program_laws.specs.types.Types.{max_nesting}
use Rattle.ec_sim_program_laws.proofs.types_lemmas.Fits.{Fits, FitsPart, FitParts}
use Rattle.ec_sim_program_laws.proofs.types_lemmas.Structs.{Whole, depth, IsFlatType, GoodIn, AllGood, GoodStructs, GoodStruct, some_all, whole_stays, Listed, listed_at, first_in, first_is}
use Rattle.ec_sim_program_laws.proofs.types_lemmas.Rules.{Sound, Shallow, stays_by, shallow_before, Any, Typing, chained, from, to, Stays, beside, carried, constant, pure_types, asked, fault, demand_types, demand_known, if_some}
use Rattle.ec_sim_program_laws.proofs.types_lemmas.Operands.{HasType}
use Rattle.ec_sim_program_laws.proofs.types_lemmas.Expressions.{valued, expr_has}

-- ---- objects that are begun: complete, or arrays whose length is told here

abbrev pub Open : List StructInfo → TyData → Type 0
Open ss (array t zero) = Whole ss t
Open ss void = ⊥
Open ss (arithmetic a) = Unit {0}
Open ss (pointer t) = Unit {0}
Open ss (array t (suc n)) = Whole ss t
Open ss (structure k) = is_listed (members_at ss k) ≡ true

abbrev pub OpenIn : List StructInfo → Option TyData → Type 0
OpenIn ss None = ⊥
OpenIn ss (Some t) = Open ss t × IsFlatType t

pub whole_open : (ss : List StructInfo) (t : TyData) → Whole ss t → Open ss t
whole_open ss void h = absurd h
whole_open ss (arithmetic a) h = tt
whole_open ss (pointer t) h = tt
whole_open ss (array t zero) h = absurd h
whole_open ss (array t (suc n)) h = h
whole_open ss (structure k) h = h

pub open_stays : (ss ts : List StructInfo) (stay : ListedStay ss ts) (t : TyData) → Open ss t → Open ts t
open_stays ss ts stay void h = absurd h
open_stays ss ts stay (arithmetic a) h = tt
open_stays ss ts stay (pointer t) h = tt
open_stays ss ts stay (array t zero) h = whole_stays ss ts stay t h
open_stays ss ts stay (array t (suc n)) h = whole_stays ss ts stay t h
open_stays ss ts stay (structure k) h = whole_stays ss ts stay (structure k) h

pub good_open : (ss : List StructInfo) (o : Option TyData) → GoodIn ss o → OpenIn ss o
good_open ss None h = h
good_open ss (Some t) h = (whole_open ss t h.0, h.1)

open_both : (ss ts : List StructInfo) → ListedStay ss ts → (o : Option TyData) → OpenIn ss o → OpenIn ts o
open_both ss ts stay None h = h
open_both ss ts stay (Some t) h = (open_stays ss ts stay t h.0, h.1)

pub open_in_stays : (o : Option TyData) → Stays (λ w. OpenIn w.structs o)
open_in_stays None w z g h = absurd h
open_in_stays (Some t) w z g h = (open_stays w.structs z.structs (stays_by g) t h.0, h.1)

-- ---- what is left to be initialized

-- the types of members that are left
abbrev pub AllGoodIn : List StructInfo → List (Option TyData) → Type 0
AllGoodIn ss [] = Unit {0}
AllGoodIn ss (t ∷ ts) = OpenIn ss t × AllGoodIn ss ts

abbrev pub GoodFrame : List StructInfo → FrameData → Type 0
GoodFrame ss (elements_left t n) = OpenIn ss (Some t)
GoodFrame ss (any_elements t n) = OpenIn ss (Some t)
GoodFrame ss (members_left ts) = AllGoodIn ss ts

abbrev pub GoodFrames : List StructInfo → Frames → Type 0
GoodFrames ss [] = Unit {0}
GoodFrames ss (f ∷ fs) = GoodFrame ss f × GoodFrames ss fs

-- it is known what is left
abbrev pub FramesIn : List StructInfo → Option Frames → Type 0
FramesIn ss None = ⊥
FramesIn ss (Some fs) = GoodFrames ss fs

-- the next part, and what is left behind it
abbrev pub GoodPart : List StructInfo → Option (Option TyData × Frames) → Type 0
GoodPart ss None = Unit {0}
GoodPart ss (Some p) = OpenIn ss p.0 × GoodFrames ss p.1

module _ (ss : List StructInfo) where
  next_good : (fs : Frames) → GoodFrames ss fs → GoodPart ss (next_part fs)
  next_good [] h = tt
  next_good (elements_left t zero ∷ fs) h = next_good fs h.1
  next_good (elements_left t (suc n) ∷ fs) h = (h.0, (h.0, h.1))
  next_good (any_elements t n ∷ fs) h = (h.0, (h.0, h.1))
  next_good (members_left [] ∷ fs) h = next_good fs h.1
  next_good (members_left (m ∷ ms) ∷ fs) h = (h.0.0, (h.0.1, h.1))

  rest_good : (o : Option (Option TyData × Frames)) → GoodPart ss o → GoodFrames ss (elim o [ None ↦ [] | Some p ↦ p.1 ])
  rest_good None h = tt
  rest_good (Some p) h = h.1

  behind_good : (fs : Frames) → GoodFrames ss fs → GoodFrames ss (behind_first fs)
  behind_good fs h = rest_good (next_part fs) (next_good fs h)

  join_good : (fs gs : Frames) → GoodFrames ss fs → GoodFrames ss gs → GoodFrames ss (fs ++ gs)
  join_good [] gs p q = q
  join_good (f ∷ fs) gs p q = (p.0, join_good fs gs p.1 q)

  types_good : (ms : Members) → AllGood ss ms → AllGoodIn ss (map (λ m. m.1) ms)
  types_good [] h = tt
  types_good (m ∷ ms) h = (good_open ss m.1 h.0, types_good ms h.1)

module _ (ss ts : List StructInfo) (stay : ListedStay ss ts) where
  all_in_stay : (os : List (Option TyData)) → AllGoodIn ss os → AllGoodIn ts os
  all_in_stay [] h = tt
  all_in_stay (o ∷ os) h = (open_both ss ts stay o h.0, all_in_stay os h.1)

  frame_stays : (f : FrameData) → GoodFrame ss f → GoodFrame ts f
  frame_stays (elements_left t n) h = open_both ss ts stay (Some t) h
  frame_stays (any_elements t n) h = open_both ss ts stay (Some t) h
  frame_stays (members_left os) h = all_in_stay os h

  frames_stay : (fs : Frames) → GoodFrames ss fs → GoodFrames ts fs
  frames_stay [] h = tt
  frames_stay (f ∷ fs) h = (frame_stays f h.0, frames_stay fs h.1)

  frames_in_stay : (o : Option Frames) → FramesIn ss o → FramesIn ts o
  frames_in_stay None h = h
  frames_in_stay (Some fs) h = frames_stay fs h

-- what is known to be left
abbrev pub AreLeft : Option Frames → World → Type 0
AreLeft fs w = FramesIn w.structs fs

left_stay : (fs : Option Frames) → Stays (AreLeft fs)
left_stay fs w z g h = frames_in_stay w.structs z.structs (stays_by g) fs h

-- one array less
less_flat : (t : TyData) (n : ℕ) → IsFlatType (array t n) → IsFlatType t
less_flat t n h = omega (arith, h)

listed_types : (ss : List StructInfo) (k : ℕ) (l : Listed ss k) → member_types (option_map (λ s. s.members) (slice_get ss k)) ≡ map (λ m. m.1) l.ms
listed_types ss k l = ap (λ o. member_types (option_map (λ s. s.members) o)) l.is ∙ ap (λ m. member_types (Some m)) l.are

struct_parts : (w : World) → GoodStructs w.structs → (k : ℕ) → Listed w.structs k → AllGoodIn w.structs (member_types (members_of k w))
struct_parts w structs k l =
    subst (AllGoodIn w.structs) (sym (listed_types w.structs k l)) (types_good w.structs l.ms (some_all w.structs l.ms (structs k l.info l.ms l.is l.are).good))

parts_good : (w : World) → GoodStructs w.structs → (t : TyData) → Open w.structs t → IsFlatType t → GoodFrames w.structs (parts_of w t)
parts_good w structs (array t zero) h f = ((whole_open w.structs t h, less_flat t zero f), tt)
parts_good w structs (array t (suc n)) h f = ((whole_open w.structs t h, less_flat t (suc n) f), tt)
parts_good w structs (structure k) h f = (struct_parts w structs k (listed_at w.structs k h), tt)
parts_good w structs void h f = absurd h
parts_good w structs (arithmetic a) h f = ((tt, f), tt)
parts_good w structs (pointer t) h f = ((tt, f), tt)

-- ---- going in

-- it is known where an expression goes
abbrev pub GoesIn : List StructInfo → Option (TyData × Frames) → Type 0
GoesIn ss None = ⊥
GoesIn ss (Some p) = GoodFrames ss p.1

-- its first part
record HasFirst (w : World) (t : TyData) : Type 0 where
  inner : TyData
  is : first_part w t ≡ Some inner
  good : OpenIn w.structs (Some inner)
  firsts : length (first_types w.structs t) ≡ suc (length (first_types w.structs inner))

struct_first : (w : World) → GoodStructs w.structs → (k : ℕ) → Listed w.structs k → HasFirst w (structure k)
struct_first w structs k l = by_members l.ms l.are (structs k l.info l.ms l.is l.are)
  where
    by_type : (x : _) (o : Option TyData) (ms : Members) → l.info.members ≡ listed ((x, o) ∷ ms) → GoodIn w.structs o → l.info.first ≡ first_of_members w.structs ((x, o) ∷ ms) → HasFirst w (structure k)
    by_type x None ms are g first = absurd g
    by_type x (Some t) ms are g first = record {
      inner = t;
      is = ap first_type (listed_types w.structs k (record { info = l.info; is = l.is; ms = (x, Some t) ∷ ms; are = are }));
      good = (whole_open w.structs t g.0, g.1);
      firsts = ap length (first_is w.structs k ∙ ap (λ o. structure k ∷ first_in o) l.is ∙ ap (λ ts. structure k ∷ ts) first);
    }

    by_members : (ms : Members) → l.info.members ≡ listed ms → GoodStruct w.structs l.info ms → HasFirst w (structure k)
    by_members [] are s = absurd s.good
    by_members (m ∷ ms) are s = by_type m.0 m.1 ms are s.good.0 s.first

has_first : (w : World) → GoodStructs w.structs → (o : OperandData) (t : TyData) → Open w.structs t → IsFlatType t → is_whole o t ≡ false → HasFirst w t
has_first w structs o void h f e = absurd h
has_first w structs o (arithmetic a) h f e = absurd (false≢true (sym e))
has_first w structs o (pointer t) h f e = absurd (false≢true (sym e))
has_first w structs o (array t zero) h f e = record { inner = t; is = refl; good = (whole_open w.structs t h, less_flat t zero f); firsts = refl }
has_first w structs o (array t (suc n)) h f e = record { inner = t; is = refl; good = (whole_open w.structs t h, less_flat t (suc n) f); firsts = refl }
has_first w structs o (structure k) h f e = struct_first w structs k (listed_at w.structs k h)

first_some : (ss : List StructInfo) (t : TyData) → 1 ≤ length (first_types ss t)
first_some ss void = omega arith
first_some ss (arithmetic a) = omega arith
first_some ss (pointer t) = omega arith
first_some ss (array t n) = omega arith
first_some ss (structure k) = omega (arith, ap length (first_is ss k))

goes_in : (n : ℕ) (w : World) → GoodStructs w.structs → (o : OperandData) (t : TyData) (fs : Frames) → OpenIn w.structs (Some t) → length (first_types w.structs t) ≤ n
    → GoodFrames w.structs fs → GoesIn w.structs (going_in n w o t fs)
goes_in zero w structs o t fs h l g = absurd (omega (arith, l, first_some w.structs t))
goes_in (suc n) w structs o t fs h l g = by_whole (is_whole o t) refl (λ inner k m gs. goes_in n w structs o inner (behind_first (parts_of w t) ++ fs) k m gs)
  where
    Deeper : Type 0
    Deeper = (inner : TyData) → OpenIn w.structs (Some inner) → length (first_types w.structs inner) ≤ n → GoodFrames w.structs (behind_first (parts_of w t) ++ fs)
        → GoesIn w.structs (going_in n w o inner (behind_first (parts_of w t) ++ fs))

    by_first : Deeper → (q : Option TyData) → first_part w t ≡ q → HasFirst w t
        → GoesIn w.structs (elim q [ None ↦ None | Some inner ↦ going_in n w o inner (behind_first (parts_of w t) ++ fs) ])
    by_first deeper None e p = none_not (sym e ∙ p.is)
    by_first deeper (Some inner) e p =
        let same : p.inner ≡ inner = some_is (sym p.is ∙ e) in
        deeper inner (subst (λ x. OpenIn w.structs (Some x)) same p.good)
        (let m : length (first_types w.structs inner) ≡ length (first_types w.structs p.inner) = ap (λ x. length (first_types w.structs x)) (sym same) in omega (arith, l, p.firsts, m))
        (join_good w.structs (behind_first (parts_of w t)) fs (behind_good w.structs (parts_of w t) (parts_good w structs t h.0 h.1)) g)

    by_whole : (b : Bool) → is_whole o t ≡ b → Deeper → GoesIn w.structs (elim b [
      | true ↦ Some (t, fs)
      | false ↦ elim (first_part w t) [ None ↦ None | Some inner ↦ going_in n w o inner (behind_first (parts_of w t) ++ fs) ]
    ])
    by_whole true e deeper = g
    by_whole false e deeper = by_first deeper (first_part w t) refl (has_first w structs o t h.0 h.1 e)

-- ---- how deep

struct_firsts : (w : World) → Shallow w → (k : ℕ) → Listed w.structs k → length (first_types w.structs (structure k)) ≤ suc max_nesting
struct_firsts w shallow k l =
    let e : length (first_types w.structs (structure k)) ≡ suc (length l.info.first) = ap length (first_is w.structs k ∙ ap (λ o. structure k ∷ first_in o) l.is) in
    let s = shallow k l.info l.is (ap (λ m. is_listed (Some m)) l.are) in
    omega (arith, e, s)

firsts_within : (w : World) → Shallow w → (t : TyData) → Whole w.structs t → length (first_types w.structs t) ≤ depth t + suc max_nesting
firsts_within w shallow void h = absurd h
firsts_within w shallow (arithmetic a) h = omega arith
firsts_within w shallow (pointer t) h = omega arith
firsts_within w shallow (array t zero) h = absurd h
firsts_within w shallow (array t (suc n)) h = let l = firsts_within w shallow t h in omega (arith, l)
firsts_within w shallow (structure k) h = struct_firsts w shallow k (listed_at w.structs k h)

open_within : (w : World) → Shallow w → (t : TyData) → Open w.structs t → length (first_types w.structs t) ≤ depth t + suc max_nesting
open_within w shallow void h = absurd h
open_within w shallow (arithmetic a) h = omega arith
open_within w shallow (pointer t) h = omega arith
open_within w shallow (array t zero) h = let l = firsts_within w shallow t h in omega (arith, l)
open_within w shallow (array t (suc n)) h = let l = firsts_within w shallow t h in omega (arith, l)
open_within w shallow (structure k) h = struct_firsts w shallow k (listed_at w.structs k h)

deep_enough : (w : World) → Shallow w → (t : TyData) → Open w.structs t → IsFlatType t → length (first_types w.structs t) ≤ max_depth
deep_enough w shallow t h f = let l = open_within w shallow t h in omega (arith, l, f)

found_in : (w : World) → Sound w → Shallow w → (o : OperandData) (t : TyData) (fs : Frames) → OpenIn w.structs (Some t) → GoodFrames w.structs fs → GoesIn w.structs (going_in max_depth w o t fs)
found_in w sound shallow o t fs h g = goes_in max_depth w sound.structs o t fs h (deep_enough w shallow t h.0 h.1) g

-- ---- one expression

-- what is asked may rest on what begins with few types
asked_deep : {A B : Type 0} {R : World → Type 0} {Q : World → B → Type 0} (g : World → A) (f : A → Rule B) (X : World → A → Type 0)
    → ((w : World) → Sound w → Shallow w → R w → X w (g w)) → ((a : A) → Typing (λ w. X w a) Q (f a)) → Typing R Q (chain (ask g) f)
unfolding chain ask
asked_deep g f X x k = record {
  growing = growth.asked g f (λ a. (k a).growing);
  rows = λ w. (k (g w)).rows w;
  types = λ w sound r found shallow.
      (k (g w)).types w sound (x w sound (shallow_before ((k (g w)).growing.grows w) shallow) r) found shallow;
}

fixed_kept : (at : Place) (global : Bool) (o : OperandData) → Typing (λ w. IsTyped o.type) (λ w u. IsTyped o.type) (fixed_rule at global o)
unfolding fixed_rule
fixed_kept at global o = if_some o.type (λ e. from (λ w r. absurd (subst IsTyped e r)) (pure_types {R = λ w. ⊥} tt (λ w r. absurd r))) (λ t e. demand_types _ _ _)

value_init : (at : Place) (global : Bool) (e : ExprData) → Fits e → Typing Any HasType (init_value at global e)
value_init at global e h = chained (valued at (expr_has at e h)) (λ o. chained (fixed_kept at global o) (λ u. pure_types o (λ w r. r)))

-- where it may initialize it
abbrev Suits : OperandData → TyData → Type 0
Suits o t = (s : TyData) → o.type ≡ Some s → suits o t s ≡ true

same_some : (o : OperandData) (t s x : TyData) → o.type ≡ Some s → suits o t s ≡ true → o.type ≡ Some x → suits o t x ≡ true
same_some o t s x e h f = ap (suits o t) (some_is (sym f ∙ e)) ∙ h

suits_kept : {R : World → Type 0} (at : Place) (o : OperandData) (t : TyData) → Typing (λ w. IsTyped o.type × R w) (λ w u. Suits o t × R w) (suits_rule at o t)
unfolding suits_rule
suits_kept at o t = if_some o.type (λ e. from (λ w r. absurd (subst IsTyped e r.0)) (pure_types {R = λ w. ⊥} tt (λ w r. absurd r))) (λ s e.
    to (λ w u r. (λ x f. same_some o t s x e r.0 f, r.1.1)) (demand_known at F14 (suits o t s)))

-- ---- lists in braces

nothing_there : {A : Type 0} {R : World → Type 0} {P : World → A → Type 0} (a : A) → ((w : World) → R w → ⊥) → Typing R P (pure a)
nothing_there a g = pure_types a (λ w r. absurd (g w r))

go_by_in : (at : Place) (o : OperandData) (p : Option (TyData × Frames)) → Typing (λ w. IsTyped o.type × GoesIn w.structs p) (λ w fs. FramesIn w.structs fs) (go_by at o p)
go_by_in at o None = nothing_there None (λ w r. r.1)
go_by_in at o (Some p) = chained (suits_kept at o p.0) (λ u. pure_types (Some p.1) (λ w r. r.1))

go_to_in : (at : Place) (o : OperandData) (p : Option (Option TyData × Frames)) → Typing (λ w. IsTyped o.type × GoodPart w.structs p) (λ w fs. FramesIn w.structs fs) (go_to at o p)
go_to_in at o None = fault at F14 (Some [])
go_to_in at o (Some p) = if_some p.0 (λ e. nothing_there None (λ w r. subst (OpenIn w.structs) e r.1.0)) (λ t e.
    asked_deep _ _ (λ w found. IsTyped o.type × GoesIn w.structs found) (λ w sound shallow r. (r.0, found_in w sound shallow o t p.1 (subst (OpenIn w.structs) e r.1.0) r.1.1)) (λ found. go_by_in at o found))

part_in : (at : Place) (fs : Option Frames) (o : OperandData) → Typing (λ w. IsTyped o.type × FramesIn w.structs fs) (λ w rest. FramesIn w.structs rest) (part_rule at fs o)
unfolding part_rule
part_in at None o = nothing_there None (λ w r. r.1)
part_in at (Some fs) o = if_some o.type (λ e. nothing_there None (λ w r. subst IsTyped e r.0)) (λ s e. from (λ w r. (r.0, next_good w.structs fs r.1)) (go_to_in at o (next_part fs)))

-- the part that braces initialize, and what is left behind it
abbrev GoodSlot : World → Slot → Type 0
GoodSlot w s = OpenIn w.structs s.0 × FramesIn w.structs s.1

slot_of_in : (at : Place) (p : Option (Option TyData × Frames)) → Typing (λ w. GoodPart w.structs p) GoodSlot (slot_of at p)
slot_of_in at None = fault at F14 (None, Some [])
slot_of_in at (Some p) = if_some p.0 (λ e. nothing_there (None, None) (λ w r. subst (OpenIn w.structs) e r.0)) (λ t e. pure_types (Some t, Some p.1) (λ w r. (subst (OpenIn w.structs) e r.0, r.1)))

slot_in : (at : Place) (fs : Option Frames) → Typing (AreLeft fs) GoodSlot (slot_rule at fs)
unfolding slot_rule
slot_in at None = nothing_there (None, None) (λ w r. r)
slot_in at (Some fs) = from (λ w r. next_good w.structs fs r) (slot_of_in at (next_part fs))

braces_kept : {R : World → Type 0} (at : Place) (t : Option TyData) (is : InitList) → Typing R (λ w u. R w) (braces_rule at t is)
unfolding braces_rule
braces_kept at None is = pure_types tt (λ w r. r)
braces_kept at (Some t) is = demand_types _ _ _

braced_good : (w : World) → GoodStructs w.structs → (t : TyData) (is : InitList) → OpenIn w.structs (Some t) → GoodFrames w.structs (braced_parts w t is)
braced_good w structs t is h = go (is_char_array t && is_text_alone is)
  where
    go : (b : Bool) → GoodFrames w.structs (if b then elements_left t 1 ∷ [] else parts_of w t)
    go true = (h, tt)
    go false = parts_good w structs t h.0 h.1

braced_in : (w : World) → Sound w → (t : Option TyData) (is : InitList) → OpenIn w.structs t → FramesIn w.structs (braced_frames t is w)
braced_in w sound None is h = h
braced_in w sound (Some t) is h = braced_good w sound.structs t is h

-- ---- the whole

literal_typed : (t : TyData) (lit : Option ℕ) (c : Bool) → ((is_some lit && c) && has_room zero lit) ≡ true → IsTyped (if c then literal_array t lit else None)
literal_typed t None c e = absurd (false≢true e)
literal_typed t (Some n) true e = tt
literal_typed t (Some n) false e = absurd (false≢true e)

completed_typed : (t : TyData) (o : OperandData) (s : TyData) → suits o t s ≡ true → IsTyped (completed_by t o)
completed_typed (array t zero) o s e = literal_typed t o.literal (is_char_array (array t zero)) e
completed_typed (array t (suc n)) o s e = tt
completed_typed void o s e = tt
completed_typed (arithmetic a) o s e = tt
completed_typed (pointer t) o s e = tt
completed_typed (structure k) o s e = tt

by_operand : (t : TyData) (o : OperandData) → IsTyped o.type → Suits o t → IsTyped (completed_by t o)
by_operand t o h suit = go o.type refl h
  where
    go : (q : Option TyData) → o.type ≡ q → IsTyped q → IsTyped (completed_by t o)
    go None e h = absurd h
    go (Some s) e h = completed_typed t o s (suit s e)

single_in : (at : Place) (t : Option TyData) (o : OperandData) → Typing (λ w. IsTyped t × IsTyped o.type) (λ w s. IsTyped s) (single_by at t o)
single_in at None o = nothing_there None (λ w r. r.0)
single_in at (Some t) o = chained (from (λ w r. (r.1, r.1)) (suits_kept at o t)) (λ u. pure_types (completed_by t o) (λ w r. by_operand t o r.1 r.0))

in_braces_typed : (ss : List StructInfo) (t : Option TyData) (is : InitList) (rest : Option Frames) → IsTyped t → FramesIn ss rest → IsTyped (completed_in_braces t is rest)
in_braces_typed ss None is rest h g = h
in_braces_typed ss (Some t) is None h g = absurd g
in_braces_typed ss (Some (array t zero)) is (Some fs) h g = tt
in_braces_typed ss (Some (array t (suc n))) is (Some fs) h g = tt
in_braces_typed ss (Some void) is (Some fs) h g = tt
in_braces_typed ss (Some (arithmetic a)) is (Some fs) h g = tt
in_braces_typed ss (Some (pointer t)) is (Some fs) h g = tt
in_braces_typed ss (Some (structure k)) is (Some fs) h g = tt

pub open_typed : (ss : List StructInfo) (t : Option TyData) → OpenIn ss t → IsTyped t
open_typed ss None h = h
open_typed ss (Some t) h = tt

mutual
  pub initializer_types : (at : Place) (global : Bool) (t : Option TyData) (i : InitData) → FitsPart i → Typing (λ w. OpenIn w.structs t) (λ w s. IsTyped s) (initializer at global t i)
  initializer_types at global t (one e) h = chained (carried (λ w. OpenIn w.structs t) (open_in_stays t) (value_init at global e h)) (λ o. from (λ w r. (open_typed w.structs t r.0, r.1)) (single_in at t o))
  initializer_types at global t (many is) h =
      chained (braces_kept at t is) (λ u. asked _ _ (λ w fs. IsTyped t × FramesIn w.structs fs) (λ w sound r. (open_typed w.structs t r, braced_in w sound t is r)) (λ fs.
      chained (beside (λ w. IsTyped t) (constant (IsTyped t)) (fill_types at global fs is h)) (λ rest. pure_types (completed_in_braces t is rest) (λ w r. in_braces_typed w.structs t is rest r.0 r.1))))

  fill_types : (at : Place) (global : Bool) (fs : Option Frames) (is : InitList) → FitParts is → Typing (AreLeft fs) (λ w rest. FramesIn w.structs rest) (fill at global fs is)
  fill_types at global fs no_inits h = pure_types fs (λ w r. r)
  fill_types at global fs (inits i is) h = chained (fill_part_types at global fs i h.0) (λ rest. fill_types at global rest is h.1)

  fill_part_types : (at : Place) (global : Bool) (fs : Option Frames) (i : InitData) → FitsPart i → Typing (AreLeft fs) (λ w rest. FramesIn w.structs rest) (fill_part at global fs i)
  fill_part_types at global fs (one e) h = chained (carried (AreLeft fs) (left_stay fs) (value_init at global e h)) (λ o. from (λ w r. (r.1, r.0)) (part_in at fs o))
  fill_part_types at global fs (many is) h =
      chained (slot_in at fs) (λ slot. chained (braces_kept at slot.0 is) (λ u. asked _ _ (λ w gs. AreLeft slot.1 w × FramesIn w.structs gs) (λ w sound r. (r.1, braced_in w sound slot.0 is r.0)) (λ gs.
      chained (beside (AreLeft slot.1) (left_stay slot.1) (fill_types at global gs is h)) (λ rest. pure_types slot.1 (λ w r. r.0)))))
