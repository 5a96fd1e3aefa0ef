-- How the walk goes on: what it passes by of the checks' rules, and each of its steps.
use Rattle.std.proofs.Common.{◌≡◌, ◌∙◌, ℕ, ◌+◌, ◌<◌, ◌≤◌, Bool, true, false, not, ◌||◌, List, [], ◌∷◌, length, drop, get_or, Option, Some, None, option_map, Result, Ok, Err, IfOk, refl, sym, ap, append_assoc, subst}
use Rattle.std.proofs.lemmas.List.{append-nil, drop_all}
use Rattle.ec_base.specs.declared.fault.FaultKind.{FaultKind}
use Rattle.ec_base.specs.declared.fault.FaultKind.TheVariants.{F14, F19}
use Rattle.ec_base.specs.declared.stop.OutOfMemory.{OutOfMemory}
use Rattle.ec_ctypes.specs.declared.tree.decl.Init.{Init}
use Rattle.ec_ctypes.specs.trees.Exprs.{ExprData, one, many, InitData, InitList}
use Rattle.ec_ctypes.specs.trees.Types.{TyData}
use Rattle.ec_ctypes.specs.views.Exprs.{init_view, inits_view}
use Rattle.ec_resolve_forms.proofs.Following.{follow, then_reached, reached_as}
use Rattle.ec_resolve_forms.specs.declared.found.Found.{Found as CodeFound}
use Rattle.ec_resolve_forms.specs.declared.resolver.Resolver.{Resolver}
use Rattle.ec_resolve_forms.specs.Seen.{found_view, from, mapped, IsReached}
use Rattle.ec_resolving_defs.specs.Expressions.{expr}
use Rattle.ec_resolving_defs.specs.Initializers.{PartData, Spot, spot_at, Left, left, Filled, Goal, goal_of, next_in, stored_at, fixed_exp, init_value, initializer, fill, fill_part}
use Rattle.ec_resolving_defs.specs.Operands.{Found, value_rule}
use Rattle.ec_resolving_defs.specs.Storage.{Storage, Reached, reached, followed, Resolving, chain, pure, checks, ask}
use Rattle.ec_scopes.proofs.Loops.{drop_item}
use Rattle.ec_scopes.specs.Seen.{world_of}
use Rattle.ec_resolve_values.specs.storage.Stored.{storage_of}
use Rattle.ec_typing_defs.specs.Initializers.{Frames, next_part, going_in, max_depth, suits, suits_rule, is_fixed_value, fixed_rule, go_by, go_to, part_rule, slot_of, slot_rule, single_by, completed_by, braced_frames, completed_in_braces}
use Rattle.ec_typing_defs.specs.Operands.{OperandData}
use Rattle.ec_typing_defs.specs.Worlds.{Place, World, Rule, note, demand, chain as rule_chain, pure as rule_pure, ask as rule_ask}
use Rattle.ec_resolve_initials.specs.Filled.{parts_behind}
use Rattle.ec_resolve_statements.specs.Filled.{filled_behind, single_type}
use Rattle.ec_resolve_initials.specs.Left.{frames_by, typed_frames, frames_behind, slot_at, slot_in}

-- ---- what the checks' rules find, and that they leave what is known

demand_world : (at : Place) (kind : FaultKind) (b : Bool) (w : World) → (demand at kind b w).world ≡ w
unfolding demand note rule_pure
demand_world at kind true w = refl
demand_world at kind false w = refl

suits_world : (at : Place) (o : OperandData) (t : TyData) (w : World) → (suits_rule at o t w).world ≡ w
unfolding suits_rule rule_pure
suits_world at o t w = by o.type
  where
    by : (ty : Option TyData) → ((elim ty as (λ _. Rule (Unit {0})) [ None ↦ rule_pure tt | Some s ↦ demand at F14 (suits o t s) ]) w).world ≡ w
    by None = refl
    by (Some s) = demand_world at F14 (suits o t s) w

fixed_world : (at : Place) (global : Bool) (o : OperandData) (w : World) → (fixed_rule at global o w).world ≡ w
unfolding fixed_rule rule_pure
fixed_world at global o w = by o.type
  where
    by : (ty : Option TyData) → ((elim ty as (λ _. Rule (Unit {0})) [ None ↦ rule_pure tt | Some t ↦ demand at F19 (not global || is_fixed_value o) ]) w).world ≡ w
    by None = refl
    by (Some t) = demand_world at F19 (not global || is_fixed_value o) w

gone : (at : Place) (o : OperandData) (q : Option (TyData × Frames)) (w : World) (s : Storage) → checks (go_by at o q) s w ≡ reached (option_map (λ r. r.1) q) s w
unfolding checks rule_chain rule_pure
gone at o None w s = refl
gone at o (Some q) w s = λ i. reached (Some q.1) s (suits_world at o q.0 w i)

went : (at : Place) (o : OperandData) (p : Option (Option TyData × Frames)) (w : World) (s : Storage) → checks (go_to at o p) s w ≡ reached (frames_by w o p) s w
unfolding checks rule_chain rule_pure rule_ask note
went at o None w s = refl
went at o (Some (None, fs)) w s = refl
went at o (Some (Some t, fs)) w s = gone at o (going_in max_depth w o t fs) w s

pub part_is : (at : Place) (fs : Option Frames) (o : OperandData) (w : World) (s : Storage) → checks (part_rule at fs o) s w ≡ reached (frames_behind o fs w) s w
unfolding checks part_rule rule_pure
part_is at None o w s = refl
part_is at (Some fs) o w s = by o.type
  where
    by : (ty : Option TyData) → checks (elim ty as (λ _. Rule (Option Frames)) [ None ↦ rule_pure None | Some t ↦ go_to at o (next_part fs) ]) s w ≡ reached (typed_frames ty (frames_by w o (next_part fs))) s w
    by None = refl
    by (Some t) = went at o (next_part fs) w s

slotted : (at : Place) (p : Option (Option TyData × Frames)) (w : World) (s : Storage) → checks (slot_of at p) s w ≡ reached (slot_at p) s w
unfolding checks rule_chain rule_pure note
slotted at None w s = refl
slotted at (Some (None, fs)) w s = refl
slotted at (Some (Some t, fs)) w s = refl

pub slot_is : (at : Place) (fs : Option Frames) (w : World) (s : Storage) → checks (slot_rule at fs) s w ≡ reached (slot_in fs) s w
unfolding checks slot_rule rule_pure
slot_is at None w s = refl
slot_is at (Some fs) w s = slotted at (next_part fs) w s

pub single_is : (at : Place) (t : Option TyData) (o : OperandData) (w : World) (s : Storage) → checks (single_by at t o) s w ≡ reached (single_type t o) s w
unfolding checks rule_chain rule_pure
single_is at None o w s = refl
single_is at (Some t) o w s = λ i. reached (completed_by t o) s (suits_world at o t w i)

-- ---- the steps of the walk

pub value_reached : (at : Place) (global : Bool) (e : ExprData) (old : Resolver) {mid new : Resolver} {x y f : Found}
    → IsReached (from (expr at e) old) mid x → IsReached (from (value_rule at x) mid) new y → f ≡ fixed_exp global y → IsReached (from (init_value at global e) old) new f
unfolding chain pure checks
value_reached at global e old {mid} {new} {x} {y} p q is =
    then_reached (chain (expr at e) (value_rule at)) (λ f. chain (checks (fixed_rule at global f.operand)) (λ _. pure (fixed_exp global f))) old
    (then_reached (expr at e) (value_rule at) old p q)
    (record { answer_is = is; storage_is = refl; world_is = sym (fixed_world at global y.operand (world_of new.checker)) })

pub value_reaches : (at : Place) (global : Bool) (e : ExprData) (old : Resolver) {mid new : Resolver} {x y : Found} (result : Result CodeFound OutOfMemory)
    → IsReached (from (expr at e) old) mid x → IsReached (from (value_rule at x) mid) new y → IfOk result (λ f. found_view f ≡ fixed_exp global y) → IfOk result (λ f. IsReached (from (init_value at global e) old) new (found_view f))
value_reaches at global e old (Ok f) p q is = value_reached at global e old p q is
value_reaches at global e old (Err x) p q is = is

-- what is stored for an expression that goes there
abbrev one_filled : ExprData → Found → Resolver → Goal → Option Frames → Reached Filled
one_filled e f now goal fs = followed (from (stored_at goal.offset goal.type e f) now) (λ parts. pure (left fs goal.behind, parts))

pub one_reached : (at : Place) (global : Bool) (l : Left) (e : ExprData) (before : List PartData) (old : Resolver) {mid new : Resolver} {f : Found} {goal : Goal} {fs : Option Frames} {parts : List PartData}
    → IsReached (from (init_value at global e) old) mid f
    → goal ≡ goal_of f.operand l (world_of mid.checker)
    → fs ≡ frames_behind f.operand l.frames (world_of mid.checker)
    → IsReached (mapped (parts_behind before) (from (stored_at goal.offset goal.type e f) mid)) new parts
    → IsReached (mapped (filled_behind before) (from (fill_part at global l (one e)) old)) new (left fs goal.behind, parts)
unfolding chain pure ask
one_reached at global l e before old {mid} {new} {f} {goal} {fs} {parts} p aimed rest h =
    let w = world_of mid.checker in
    let s = storage_of mid.storage in
    let next = goal_of f.operand l w in
    let k : Found → Resolving Filled = λ f. chain (ask (goal_of f.operand l)) (λ goal. chain (checks (part_rule at l.frames f.operand)) (λ fs. chain (stored_at goal.offset goal.type e f) (λ parts. pure (left fs goal.behind, parts)))) in
    let stored : Option Frames → Resolving Filled = λ fs. chain (stored_at next.offset next.type e f) (λ parts. pure (left fs next.behind, parts)) in
    let whole : from (fill_part at global l (one e)) old ≡ one_filled e f mid goal fs =
    follow (init_value at global e) k old p ∙ (λ i. followed (part_is at l.frames f.operand w s i) stored) ∙ (λ i. one_filled e f mid (sym aimed i) (sym rest i)) in
    reached_as (ap (mapped (filled_behind before)) (sym whole)) (record { answer_is = λ i. (left fs goal.behind, h.answer_is i); storage_is = h.storage_is; world_is = h.world_is })

-- what is stored for a list in braces that initializes these parts
abbrev many_filled : Place → Bool → InitList → Resolver → Left → Option Frames → List Spot → Reached Filled
many_filled at global is now begun rest behind = followed (from (fill at global begun is) now) (λ inner. pure (left rest behind, inner.1))

pub many_reached : (at : Place) (global : Bool) (l : Left) (list is : InitList) (before : List PartData) (old : Resolver) {new : Resolver} {slot : Option TyData × Option Frames} {next : ℕ × List Spot} {gs : Option Frames} {begun inner : Left} {parts : List PartData}
    → list ≡ is
    → slot ≡ slot_in l.frames
    → next ≡ next_in (world_of old.checker) l.frames l.spots
    → gs ≡ braced_frames slot.0 list (world_of old.checker)
    → begun ≡ left gs (spot_at next.0 ∷ [])
    → IsReached (mapped (filled_behind before) (from (fill at global begun list) old)) new (inner, parts)
    → IsReached (mapped (filled_behind before) (from (fill_part at global l (many is)) old)) new (left slot.1 next.1, parts)
unfolding chain pure ask
many_reached at global l list is before old {new} {slot} {next} {gs} {begun} {inner} {parts} same slots nexts braced begins h =
    let w = world_of old.checker in
    let s = storage_of old.storage in
    let there = next_in w l.frames l.spots in
    let k : Option TyData × Option Frames → Resolving Filled = λ slot. chain (ask (braced_frames slot.0 is)) (λ gs. chain (fill at global (left gs (spot_at there.0 ∷ [])) is) (λ inner. pure (left slot.1 there.1, inner.1))) in
    let whole : from (fill_part at global l (many is)) old ≡ many_filled at global list old begun slot.1 next.1 =
    (λ i. followed (slot_is at l.frames w s i) k)
    ∙ (λ i. many_filled at global is old (left (braced_frames (sym slots i).0 is w) (spot_at there.0 ∷ [])) (sym slots i).1 there.1)
    ∙ (λ i. many_filled at global is old (left (braced_frames slot.0 is w) (spot_at (sym nexts i).0 ∷ [])) slot.1 (sym nexts i).1)
    ∙ (λ i. many_filled at global (sym same i) old (left (braced_frames slot.0 (sym same i) w) (spot_at next.0 ∷ [])) slot.1 next.1)
    ∙ (λ i. many_filled at global list old (left (sym braced i) (spot_at next.0 ∷ [])) slot.1 next.1)
    ∙ (λ i. many_filled at global list old (sym begins i) slot.1 next.1) in
    reached_as (ap (mapped (filled_behind before)) (sym whole)) (record { answer_is = λ i. (left slot.1 next.1, (h.answer_is i).1); storage_is = h.storage_is; world_is = h.world_is })

-- the same of an initializer that is a list in braces
pub many_reached_as : (at : Place) (global : Bool) (l : Left) (x : InitData) (list is : InitList) (before : List PartData) (old : Resolver) {new : Resolver} {slot : Option TyData × Option Frames} {next : ℕ × List Spot} {gs : Option Frames} {begun inner : Left} {parts : List PartData}
    → x ≡ many is
    → list ≡ is
    → slot ≡ slot_in l.frames
    → next ≡ next_in (world_of old.checker) l.frames l.spots
    → gs ≡ braced_frames slot.0 list (world_of old.checker)
    → begun ≡ left gs (spot_at next.0 ∷ [])
    → IsReached (mapped (filled_behind before) (from (fill at global begun list) old)) new (inner, parts)
    → IsReached (mapped (filled_behind before) (from (fill_part at global l x) old)) new (left slot.1 next.1, parts)
many_reached_as at global l x list is before old {new} {slot} {next} {gs} {begun} {inner} {parts} e same slots nexts braced begins h =
    subst (λ (y : InitData). IsReached (mapped (filled_behind before) (from (fill_part at global l y) old)) new (left slot.1 next.1, parts)) (sym e)
    (many_reached at global l list is before old same slots nexts braced begins h)

abbrev filled_as : Left → List PartData → Storage → World → Reached Filled
filled_as l parts s w = reached (l, parts) s w

-- one initializer of a list is done
pub fill_step : {whole : Reached Filled} (now : Resolver) {next : Resolver} (at : Place) (global : Bool) (list : List Init) (i : ℕ) (x : Init) (l : Left) (before : List PartData) {more : Left} {parts : List PartData}
    → i < length list → x ≡ get_or list i x
    → whole ≡ mapped (filled_behind before) (from (fill at global l (inits_view (drop i list))) now)
    → IsReached (mapped (filled_behind before) (from (fill_part at global l (init_view x)) now)) next (more, parts)
    → whole ≡ mapped (filled_behind parts) (from (fill at global more (inits_view (drop (i + 1) list))) next)
unfolding chain pure
fill_step {whole} now {next} at global list i x l before {more} {parts} lt is g p =
    let rest = inits_view (drop (i + 1) list) in
    let first = from (fill_part at global l (init_view x)) now in
    let tail : Left → Storage → World → Reached Filled = λ l s w. fill at global l rest s w in
    let r = tail first.answer.0 first.storage first.world in
    g ∙ ap (λ xs. mapped (filled_behind before) (from (fill at global l (inits_view xs)) now)) (drop_item list i x lt is)
    ∙ (λ i. filled_as r.answer.0 (sym (append_assoc before first.answer.1 r.answer.1) i) r.storage r.world)
    ∙ (λ i. mapped (filled_behind (sym p.answer_is i).1) (tail (sym p.answer_is i).0 (sym p.storage_is i) (sym p.world_is i)))

-- the list is at its end
pub fill_end : {whole : Reached Filled} (now : Resolver) (at : Place) (global : Bool) (list : List Init) (i : ℕ) (l : Left) (before : List PartData)
    → length list ≤ i → whole ≡ mapped (filled_behind before) (from (fill at global l (inits_view (drop i list))) now) → IsReached whole now (l, before)
unfolding pure
fill_end now at global list i l before le g =
    reached_as (sym (g ∙ ap (λ xs. mapped (filled_behind before) (from (fill at global l (inits_view xs)) now)) (drop_all i list le)))
    (record { answer_is = λ i. (l, sym (append-nil before) i); storage_is = refl; world_is = refl })

-- ---- whole initializers

pub single_reached : (at : Place) (global : Bool) (t : Option TyData) (e : ExprData) (before : List PartData) (old : Resolver) {mid new : Resolver} {f : Found} {type : Option TyData} {parts : List PartData}
    → before ≡ []
    → IsReached (from (init_value at global e) old) mid f
    → type ≡ single_type t f.operand
    → IsReached (mapped (parts_behind before) (from (stored_at 0 t e f) mid)) new parts
    → IsReached (from (initializer at global t (one e)) old) new (type, parts)
unfolding chain pure
single_reached at global t e before old {mid} {new} {f} {type} {parts} none p is h =
    let k : Found → Resolving (Option TyData × List PartData) = λ f. chain (checks (single_by at t f.operand)) (λ ty. chain (stored_at 0 t e f) (λ parts. pure (ty, parts))) in
    let stored : Option TyData → Resolving (Option TyData × List PartData) = λ ty. chain (stored_at 0 t e f) (λ parts. pure (ty, parts)) in
    let whole : from (initializer at global t (one e)) old ≡ from (stored type) mid =
    follow (init_value at global e) k old p ∙ (λ i. followed (single_is at t f.operand (world_of mid.checker) (storage_of mid.storage) i) stored) ∙ (λ i. from (stored (sym is i)) mid) in
    let r = from (stored_at 0 t e f) mid in
    let done : parts ≡ r.answer = h.answer_is ∙ ap (λ ps. parts_behind ps r.answer) none in
    reached_as (sym whole) (record { answer_is = λ i. (type, done i); storage_is = h.storage_is; world_is = h.world_is })

pub braced_reached : (at : Place) (global : Bool) (t : Option TyData) (is : InitList) (before : List PartData) (old : Resolver) {new : Resolver} {gs : Option Frames} {begun rest : Left} {type : Option TyData} {parts : List PartData}
    → before ≡ []
    → gs ≡ braced_frames t is (world_of old.checker)
    → begun ≡ left gs (spot_at 0 ∷ [])
    → IsReached (mapped (filled_behind before) (from (fill at global begun is) old)) new (rest, parts)
    → type ≡ completed_in_braces t is rest.frames
    → IsReached (from (initializer at global t (many is)) old) new (type, parts)
unfolding chain pure ask
braced_reached at global t is before old {new} {gs} {begun} {rest} {type} {parts} none braced begins h completed =
    let k : Filled → Resolving (Option TyData × List PartData) = λ filled. pure (completed_in_braces t is filled.0.frames, filled.1) in
    let r = from (fill at global begun is) old in
    let whole : from (initializer at global t (many is)) old ≡ followed r k =
    (λ i. followed (from (fill at global (left (sym braced i) (spot_at 0 ∷ [])) is) old) k) ∙ (λ i. followed (from (fill at global (sym begins i) is) old) k) in
    let answer : Filled = (rest, parts) in
    let done : answer ≡ r.answer = h.answer_is ∙ ap (λ ps. filled_behind ps r.answer) none in
    reached_as (sym whole) (record { answer_is = λ i. ((completed ∙ ap (λ (l : Left × List PartData). completed_in_braces t is l.0.frames) done) i, (done i).1); storage_is = h.storage_is; world_is = h.world_is })
