-- Where the parts stand that are left, part by part.
use Rattle.std.proofs.Common.{◌≡◌, ◌∙◌, ℕ, zero, suc, ◌<◌, ◌-◌, Bool, true, false, List, [], ◌∷◌, ◌++◌, map, reverse, Option, Some, None, MatchOption, refl, sym, ap, arith}
use Rattle.std.proofs.lemmas.List.{map-append, reverse-append}
use Rattle.ec_ctypes.specs.declared.types.sizes.Shape.{Shape}
use Rattle.ec_ctypes.specs.declared.types.ty.Ty.{Ty}
use Rattle.ec_ctypes.specs.trees.Types.{TyData, void, arithmetic, pointer, array, structure}
use Rattle.ec_ctypes.specs.views.Types.{ty_view}
use Rattle.ec_resolving_defs.specs.Initializers as of
use Rattle.ec_resolving_defs.specs.Initializers.{spot_at, spot_behind, next_offset, part_shape, take_spot, behind_spot, next_spot, spots_behind_first, spots_in}
use Rattle.ec_scopes.specs.Entries.{type_view}
use Rattle.ec_typing_defs.specs.Initializers.{FrameData, elements_left, any_elements, members_left, Frames, next_part, member_types, parts_of, first_type, first_part, is_whole}
use Rattle.ec_typing_defs.specs.Operands.{OperandData}
use Rattle.ec_typing_defs.specs.Worlds.{World, members_of}
use Rattle.ec_initializers.proofs.FrameLemmas.{pushed, next_in}
use Rattle.ec_initializers.specs.declared.frames.Frame.{Frame}
use Rattle.ec_initializers.specs.declared.frames.Taken.{Taken}
use Rattle.ec_resolve_initials.specs.declared.spots.Spot.{Spot}
use Rattle.ec_initializers.specs.Frames.{frame_view, frames_view, frame_taken}
use Rattle.ec_resolve_initials.specs.Left.{opened_spots}
use Rattle.ec_resolve_initials.specs.Spots.{next_place, spot_view, spots_view}

-- that of the innermost part is the last
pub pushed_spot : (ss : List Spot) (s : Spot) → spots_view (ss ++ s ∷ []) ≡ spot_view s ∷ spots_view ss
pushed_spot ss s = ap reverse (map-append spot_view ss (s ∷ [])) ∙ reverse-append (map spot_view ss) (spot_view s ∷ [])

spot_in : (w : World) (f : FrameData) (fs : Frames) (ss : List of.Spot) → next_spot w (f ∷ fs) ss ≡ (elim (frame_taken f) [ None ↦ next_spot w fs (behind_spot ss) | Some p ↦ take_spot (part_shape w p.0) ss ])
spot_in w (elements_left t zero) fs ss = refl
spot_in w (elements_left t (suc n)) fs ss = refl
spot_in w (any_elements t n) fs ss = refl
spot_in w (members_left []) fs ss = refl
spot_in w (members_left (m ∷ ms)) fs ss = refl

-- ---- spots one by one

pub none_taken : (old new : List Spot) (part : Shape) → old ≡ [] → new ≡ [] → next_place 0 (spots_view new) ≡ take_spot part (spots_view old)
none_taken old new part e f = ap (λ l. next_place 0 (spots_view l)) f ∙ sym (ap (λ l. take_spot part (spots_view l)) e)

pub spot_taken : (old before new : List Spot) (s behind : Spot) (part : Shape) (offset : ℕ) → old ≡ before ++ s ∷ [] → new ≡ before ++ behind ∷ [] → spot_view behind ≡ spot_behind (spot_view s) part → offset ≡ next_offset (spot_view s) part
    → next_place offset (spots_view new) ≡ take_spot part (spots_view old)
spot_taken old before new s behind part offset popped put is there =
    ap (λ l. next_place offset (spots_view l)) put ∙ ap (next_place offset) (pushed_spot before behind) ∙ (λ i. next_place (there i) (is i ∷ spots_view before))
    ∙ sym (ap (λ l. take_spot part (spots_view l)) popped ∙ ap (take_spot part) (pushed_spot before s))

pub spot_dropped : (o : Option Spot) (old new : List Spot) → MatchOption o ((old ≡ []) × (new ≡ [])) (λ last. old ≡ new ++ last ∷ []) → spots_view new ≡ behind_spot (spots_view old)
spot_dropped None old new h = ap spots_view h.1 ∙ sym (ap (λ l. behind_spot (spots_view l)) h.0)
spot_dropped (Some s) old new h = sym (ap (λ l. behind_spot (spots_view l)) h ∙ ap behind_spot (pushed_spot new s))

-- ---- the innermost part has nothing left, or something

pub none_next : (before fs : List Frame) (f : Frame) → fs ≡ before ++ f ∷ [] → None ≡ frame_taken (frame_view f) → next_part (frames_view fs) ≡ next_part (frames_view before)
none_next before fs f put none =
    ap (λ l. next_part (frames_view l)) put ∙ ap next_part (pushed before f) ∙ next_in (frame_view f) (frames_view before)
    ∙ ap (λ (o : Option (Option TyData × FrameData)). elim o [ None ↦ next_part (frames_view before) | Some p ↦ Some (p.0, p.1 ∷ frames_view before) ]) (sym none)

pub some_next : (before fs : List Frame) (f : Frame) (t : Taken) → fs ≡ before ++ f ∷ [] → Some (type_view t.part, frame_view t.rest) ≡ frame_taken (frame_view f)
    → next_part (frames_view fs) ≡ Some (type_view t.part, frame_view t.rest ∷ frames_view before)
some_next before fs f t put some =
    ap (λ l. next_part (frames_view l)) put ∙ ap next_part (pushed before f) ∙ next_in (frame_view f) (frames_view before)
    ∙ ap (λ (o : Option (Option TyData × FrameData)). elim o [ None ↦ next_part (frames_view before) | Some p ↦ Some (p.0, p.1 ∷ frames_view before) ]) (sym some)

pub none_spot : (w : World) (before fs : List Frame) (f : Frame) (ss : List of.Spot) → fs ≡ before ++ f ∷ [] → None ≡ frame_taken (frame_view f)
    → next_spot w (frames_view fs) ss ≡ next_spot w (frames_view before) (behind_spot ss)
none_spot w before fs f ss put none =
    ap (λ l. next_spot w (frames_view l) ss) put ∙ ap (λ l. next_spot w l ss) (pushed before f) ∙ spot_in w (frame_view f) (frames_view before) ss
    ∙ ap (λ (o : Option (Option TyData × FrameData)). elim o [ None ↦ next_spot w (frames_view before) (behind_spot ss) | Some p ↦ take_spot (part_shape w p.0) ss ]) (sym none)

pub some_spot : (w : World) (before fs : List Frame) (f : Frame) (t : Taken) (ss : List of.Spot) → fs ≡ before ++ f ∷ [] → Some (type_view t.part, frame_view t.rest) ≡ frame_taken (frame_view f)
    → next_spot w (frames_view fs) ss ≡ take_spot (part_shape w (type_view t.part)) ss
some_spot w before fs f t ss put some =
    ap (λ l. next_spot w (frames_view l) ss) put ∙ ap (λ l. next_spot w l ss) (pushed before f) ∙ spot_in w (frame_view f) (frames_view before) ss
    ∙ ap (λ (o : Option (Option TyData × FrameData)). elim o [ None ↦ next_spot w (frames_view before) (behind_spot ss) | Some p ↦ take_spot (part_shape w p.0) ss ]) (sym some)

-- ---- going in

first_members : (w : World) (offset : ℕ) (ms : List (Option TyData)) (inner : TyData) → Some inner ≡ first_type ms → spots_behind_first w offset (next_part (members_left ms ∷ [])) ≡ spot_behind (spot_at offset) (part_shape w (Some inner)) ∷ []
first_members w offset [] inner e = cc
first_members w offset (m ∷ ms) inner e = ap (λ (p : Option TyData). spot_behind (spot_at offset) (part_shape w p) ∷ []) (sym e)

behind_is : (w : World) (offset : ℕ) (t inner : TyData) → Some inner ≡ first_part w t → spots_behind_first w offset (next_part (parts_of w t)) ≡ spot_behind (spot_at offset) (part_shape w (Some inner)) ∷ []
behind_is w offset void inner e = cc
behind_is w offset (arithmetic a) inner e = cc
behind_is w offset (pointer t) inner e = cc
behind_is w offset (array t zero) inner e = ap (λ (p : Option TyData). spot_behind (spot_at offset) (part_shape w p) ∷ []) (sym e)
behind_is w offset (array t (suc n)) inner e = ap (λ (p : Option TyData). spot_behind (spot_at offset) (part_shape w p) ∷ []) (sym e)
behind_is w offset (structure k) inner e = first_members w offset (member_types (members_of k w)) inner e

pub spots_whole : (n : ℕ) (w : World) (o : OperandData) (offset : ℕ) (t : TyData) (ss : List of.Spot) → 0 < n → is_whole o t ≡ true → ss ≡ spots_in n w o offset t ss
spots_whole zero w o offset t ss lt e = absurd (omega arith)
spots_whole (suc n) w o offset t ss lt e =
    ap (λ (b : Bool). elim b [ true ↦ ss | false ↦ elim (first_part w t) [ None ↦ ss | Some inner ↦ spots_in n w o offset inner (spots_behind_first w offset (next_part (parts_of w t)) ++ ss) ] ]) (sym e)

not_whole : (n : ℕ) (w : World) (o : OperandData) (offset : ℕ) (t : TyData) (ss : List of.Spot) → is_whole o t ≡ false
    → spots_in (suc n) w o offset t ss ≡ (elim (first_part w t) [ None ↦ ss | Some inner ↦ spots_in n w o offset inner (spots_behind_first w offset (next_part (parts_of w t)) ++ ss) ])
not_whole n w o offset t ss e =
    ap (λ (b : Bool). elim b [ true ↦ ss | false ↦ elim (first_part w t) [ None ↦ ss | Some inner ↦ spots_in n w o offset inner (spots_behind_first w offset (next_part (parts_of w t)) ++ ss) ] ]) e

pub spots_nowhere : (n : ℕ) (w : World) (o : OperandData) (offset : ℕ) (t : TyData) (ss : List of.Spot) → 0 < n → is_whole o t ≡ false → None ≡ first_part w t → ss ≡ spots_in n w o offset t ss
spots_nowhere zero w o offset t ss lt e none = absurd (omega arith)
spots_nowhere (suc n) w o offset t ss lt e none =
    sym (not_whole n w o offset t ss e ∙ ap (λ (p : Option TyData). elim p [ None ↦ ss | Some inner ↦ spots_in n w o offset inner (spots_behind_first w offset (next_part (parts_of w t)) ++ ss) ]) (sym none))

pub spots_on : (n : ℕ) (w : World) (o : OperandData) (offset : ℕ) (t inner : TyData) (ss new : List of.Spot) → 0 < n → is_whole o t ≡ false → Some inner ≡ first_part w t → new ≡ opened_spots w offset (Some inner) ss
    → spots_in n w o offset t ss ≡ spots_in (n - 1) w o offset inner new
spots_on zero w o offset t inner ss new lt e some put = absurd (omega arith)
spots_on (suc n) w o offset t inner ss new lt e some put =
    let less : suc n - 1 ≡ n = omega arith in
    not_whole n w o offset t ss e
    ∙ ap (λ (p : Option TyData). elim p [ None ↦ ss | Some i ↦ spots_in n w o offset i (spots_behind_first w offset (next_part (parts_of w t)) ++ ss) ]) (sym some)
    ∙ ap (λ l. spots_in n w o offset inner (l ++ ss)) (behind_is w offset t inner some)
    ∙ ap (λ l. spots_in n w o offset inner l) (sym put)
    ∙ ap (λ m. spots_in m w o offset inner new) (sym less)

-- a first part that is gone into
pub spotted_on : (w : World) (offset : ℕ) (before after : List of.Spot) (found : Option Ty) (first : Ty) → after ≡ opened_spots w offset (type_view found) before → found ≡ Some first → after ≡ opened_spots w offset (Some (ty_view first)) before
spotted_on w offset before after found first put e = put ∙ ap (λ (f : Option Ty). opened_spots w offset (type_view f) before) e
