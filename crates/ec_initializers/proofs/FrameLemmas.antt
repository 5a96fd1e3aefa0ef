-- What is left to be initialized, part by part.
use Rattle.std.proofs.Common.{◌≡◌, ◌∙◌, ℕ, zero, suc, ◌+◌, ◌<◌, ◌≤◌, ◌-◌, Bool, true, false, get_or, List, [], ◌∷◌, ◌++◌, map, reverse, drop, length, Option, Some, None, option_map, slice_get, refl, sym, ap, rules, arith, add-one, append_assoc}
use Rattle.std.proofs.lemmas.List.{map-append, reverse-append}
use Rattle.ec_ctypes.specs.declared.types.ty.Ty.{Ty}
use Rattle.ec_ctypes.specs.trees.Types.{TyData, void, arithmetic, pointer, array, structure}
use Rattle.ec_ctypes.specs.views.Types.{ty_view}
use Rattle.ec_language.specs.Letters.{Text}
use Rattle.ec_typing_defs.specs.Tables.{Named}
use Rattle.ec_typing_defs.specs.Worlds.{World}
use Rattle.ec_typing_defs.specs.Operands.{OperandData}
use Rattle.ec_typing_defs.specs.Initializers.{FrameData, elements_left, any_elements, members_left, Frames, next_part, elements_begun, behind_first, first_type, first_part, parts_of, is_whole, going_in, is_text_alone}
use Rattle.ec_ctypes.specs.declared.tree.decl.Init.{Init}
use Rattle.ec_ctypes.specs.trees.Exprs.{InitData, one, many, InitList, inits}
use Rattle.ec_ctypes.specs.views.Exprs.{init_view, inits_view}
use Rattle.ec_scopes.specs.Entries.{type_view, named_view}
use Rattle.ec_initializers.specs.declared.frames.Frame.{Frame}
use Rattle.ec_initializers.specs.Frames.{shared_members, frame_view, frames_view, frame_taken, frame_begun, next_by, Opens}

-- the last of the list is the innermost part
pub pushed : (fs : List Frame) (f : Frame) → frames_view (fs ++ f ∷ []) ≡ frame_view f ∷ frames_view fs
pushed fs f = ap reverse (map-append frame_view fs (f ∷ [])) ∙ reverse-append (map frame_view fs) (frame_view f ∷ [])

begun_last : (fs : Frames) (f : FrameData) → elements_begun (fs ++ f ∷ []) ≡ frame_begun f
begun_last [] (elements_left t n) = refl
begun_last [] (any_elements t n) = refl
begun_last [] (members_left ms) = refl
begun_last (elements_left t n ∷ fs) f = begun_last fs f
begun_last (members_left ms ∷ fs) f = begun_last fs f
begun_last (any_elements t n ∷ []) f = begun_last [] f
begun_last (any_elements t n ∷ g ∷ fs) f = begun_last (g ∷ fs) f

pub outermost : (f : Frame) (fs : List Frame) → elements_begun (frames_view (f ∷ fs)) ≡ frame_begun (frame_view f)
outermost f fs = ap elements_begun (reverse-append (frame_view f ∷ []) (map frame_view fs)) ∙ begun_last (frames_view fs) (frame_view f)

pub outermost_of : (fs : List Frame) (f : Frame) → 1 ≤ length fs → f ≡ get_or fs 0 f → frame_begun (frame_view f) ≡ elements_begun (frames_view fs)
outermost_of [] f lt e = absurd (omega arith)
outermost_of (g ∷ fs) f lt e = ap (λ x. frame_begun (frame_view x)) e ∙ sym (outermost g fs)

-- what comes next is what comes next in the innermost part that has something left
pub next_in : (f : FrameData) (fs : Frames) → next_part (f ∷ fs) ≡ (elim (frame_taken f) [ None ↦ next_part fs | Some p ↦ Some (p.0, p.1 ∷ fs) ])
next_in (elements_left t zero) fs = refl
next_in (elements_left t (suc n)) fs = refl
next_in (any_elements t n) fs = refl
next_in (members_left []) fs = refl
next_in (members_left (m ∷ ms)) fs = refl

pub member_taken : (ms : Named (Option Ty)) (at : ℕ) → frame_taken (shared_members ms at) ≡ option_map (λ ty. (type_view ty, shared_members ms (at + 1))) (option_map (λ e. e.1) (slice_get ms at))
member_taken ms at = step ms at ∙ ap (λ n. option_map (λ ty. (type_view ty, shared_members ms n)) (option_map (λ e. e.1) (slice_get ms at))) (sym (add-one at))
  where
    step : (ms : Named (Option Ty)) (at : ℕ) → frame_taken (shared_members ms at) ≡ option_map (λ ty. (type_view ty, shared_members ms (suc at))) (option_map (λ e. e.1) (slice_get ms at))
    step [] zero = refl
    step [] (suc at) = refl
    step (m ∷ ms) zero = refl
    step (m ∷ ms) (suc at) = step ms at

abbrev pub first_by : Option (Option Ty) → Option TyData
first_by None = None
first_by (Some t) = type_view t

first_value : (ms : Named (Option Ty)) → first_type (map (λ m. m.1) (named_view type_view ms)) ≡ first_by (option_map (λ e. e.1) (slice_get ms 0))
first_value [] = refl
first_value (m ∷ ms) = refl

-- the first member, read
pub first_read : (ms gs : Named (Option Ty)) (o : Option (Option Ty)) → gs ≡ ms → o ≡ option_map (λ e. e.1) (slice_get gs 0) → first_by o ≡ first_type (map (λ m. m.1) (named_view type_view ms))
first_read ms gs o same read = sym (first_value ms ∙ ap (λ xs. first_by (option_map (λ e. e.1) (slice_get xs 0))) (sym same) ∙ ap first_by (sym read))

two_texts : (i j : InitData) (rest : InitList) → false ≡ is_text_alone (inits i (inits j rest))
two_texts (one e) j rest = refl
two_texts (many is) j rest = refl

-- two initializers are no literal alone
pub not_alone : (list : List Init) → 2 ≤ length list → false ≡ is_text_alone (inits_view list)
not_alone [] lt = absurd (omega arith)
not_alone (i ∷ []) lt = absurd (omega arith)
not_alone (i ∷ j ∷ rest) lt = two_texts (init_view i) (init_view j) (inits_view rest)

behind_some : (ms : Named (Option Ty)) (t : Option Ty) → Some t ≡ option_map (λ e. e.1) (slice_get ms 0) → shared_members ms 1 ∷ [] ≡ behind_first (shared_members ms 0 ∷ [])
behind_some [] t e = cc
behind_some (m ∷ ms) t e = refl

-- the members behind the first, pushed
pub pushed_members : (ms gs : Named (Option Ty)) (t : Option Ty) (fs new : List Frame) (f : Frame) → gs ≡ ms → Some t ≡ option_map (λ e. e.1) (slice_get gs 0) → frame_view f ≡ shared_members ms 1 → new ≡ fs ++ f ∷ [] → frames_view new ≡ behind_first (shared_members ms 0 ∷ []) ++ frames_view fs
pushed_members ms gs t fs new f same read is put =
    ap frames_view put ∙ pushed fs f ∙ ap (λ x. x ∷ frames_view fs) is ∙ ap (λ xs. xs ++ frames_view fs) (behind_some ms t (read ∙ ap (λ xs. option_map (λ e. e.1) (slice_get xs 0)) same))

-- ---- going in

pub gone_whole : (n : ℕ) (w : World) (o : OperandData) (t : TyData) (fs : Frames) → 0 < n → is_whole o t ≡ true → Some (t, fs) ≡ going_in n w o t fs
gone_whole zero w o t fs lt e = absurd (omega arith)
gone_whole (suc n) w o t fs lt e = ap (λ (b : Bool). elim b [ true ↦ Some (t, fs) | false ↦ elim (first_part w t) [ None ↦ None | Some inner ↦ going_in n w o inner (behind_first (parts_of w t) ++ fs) ] ]) (sym e)

not_whole : (n : ℕ) (w : World) (o : OperandData) (t : TyData) (fs : Frames) → is_whole o t ≡ false → going_in (suc n) w o t fs ≡ (elim (first_part w t) [ None ↦ None | Some inner ↦ going_in n w o inner (behind_first (parts_of w t) ++ fs) ])
not_whole n w o t fs e = ap (λ (b : Bool). elim b [ true ↦ Some (t, fs) | false ↦ elim (first_part w t) [ None ↦ None | Some inner ↦ going_in n w o inner (behind_first (parts_of w t) ++ fs) ] ]) e

pub gone_nowhere : (n : ℕ) (w : World) (o : OperandData) (t : TyData) (fs : Frames) → 0 < n → is_whole o t ≡ false → None ≡ first_part w t → None ≡ going_in n w o t fs
gone_nowhere zero w o t fs lt e none = absurd (omega arith)
gone_nowhere (suc n) w o t fs lt e none = sym (not_whole n w o t fs e ∙ ap (λ (p : Option TyData). elim p [ None ↦ None | Some inner ↦ going_in n w o inner (behind_first (parts_of w t) ++ fs) ]) (sym none))

pub gone_on : (n : ℕ) (w : World) (o : OperandData) (t inner : TyData) (fs new : Frames) → 0 < n → is_whole o t ≡ false → Some inner ≡ first_part w t → new ≡ behind_first (parts_of w t) ++ fs → going_in n w o t fs ≡ going_in (n - 1) w o inner new
gone_on zero w o t inner fs new lt e some put = absurd (omega arith)
gone_on (suc n) w o t inner fs new lt e some put =
    let less : suc n - 1 ≡ n = omega arith in
    not_whole n w o t fs e ∙ ap (λ (p : Option TyData). elim p [ None ↦ None | Some i ↦ going_in n w o i (behind_first (parts_of w t) ++ fs) ]) (sym some)
    ∙ ap (λ gs. going_in n w o inner gs) (sym put) ∙ ap (λ m. going_in m w o inner new) (sym less)

pub taken_none : (ms gs : Named (Option Ty)) (at : ℕ) → gs ≡ ms → None ≡ option_map (λ e. e.1) (slice_get gs at) → None ≡ frame_taken (shared_members ms at)
taken_none ms gs at same none =
    sym (member_taken ms at ∙ ap (option_map (λ ty. (type_view ty, shared_members ms (at + 1)))) (ap (λ xs. option_map (λ e. e.1) (slice_get xs at)) (sym same) ∙ sym none))

pub taken_some : (ms gs : Named (Option Ty)) (at : ℕ) (ty part : Option Ty) → gs ≡ ms → Some ty ≡ option_map (λ e. e.1) (slice_get gs at) → part ≡ ty → Some (type_view part, shared_members ms (at + 1)) ≡ frame_taken (shared_members ms at)
taken_some ms gs at ty part same some copied =
    sym (member_taken ms at ∙ ap (option_map (λ t. (type_view t, shared_members ms (at + 1)))) (ap (λ xs. option_map (λ e. e.1) (slice_get xs at)) (sym same) ∙ sym some) ∙ ap (λ t. Some (type_view t, shared_members ms (at + 1))) (sym copied))

-- a first part that is gone into
pub opened_on : (w : World) (t : TyData) (before after : Frames) (found : Option Ty) (first : Ty) → Opens w t before found after → found ≡ Some first → (Some (ty_view first) ≡ first_part w t) × (after ≡ behind_first (parts_of w t) ++ before)
opened_on w t before after None first h e = (cc, cc)
opened_on w t before after (Some x) first h e = let same : x ≡ first = cc in (ap (λ y. Some (ty_view y)) (sym same) ∙ h.0, h.1)
