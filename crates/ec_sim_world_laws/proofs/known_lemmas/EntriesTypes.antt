-- The types of objects and parameters: the structs in them are listed, and they are not void.
use Rattle.std.proofs.Common.{◌≡◌, ℕ, zero, suc, Bool, true, false, ◌&&◌, List, [], ◌∷◌, Option, Some, None, refl, if◌then◌else◌}
use Rattle.std.specs.Prelude.{slice_get, option_map}
use Rattle.ec_base.specs.declared.fault.FaultKind.TheVariants.{F14}
use Rattle.ec_ctypes.specs.trees.Types.{TyData, void, arithmetic, pointer, array, structure}
use Rattle.ec_ctypes.specs.trees.Exprs.{BaseData, words, varchar, tagged, struct_base, one, many, InitList, InitOption, no_init, some_init}
use Rattle.ec_language.specs.Letters.{Text}
use Rattle.ec_typing_defs.specs.Expressions.{base, type_or_fault, tag_type, tag_rule, end_struct}
use Rattle.ec_typing_defs.specs.Initializers.{Frames, init_value, braces_rule, braced_frames, fill, with_length, completed, literal_array, completed_by, single_by, completed_in_braces}
use Rattle.ec_typing_defs.specs.Operands.{OperandData, pointers, declared_type, within_rule, complete_rule}
use Rattle.ec_typing_defs.specs.Programs.{kept, may_be_param, plain_param, pointer_to, array_param, param_type}
use Rattle.ec_typing_defs.specs.Statements.{waits_for_length, object_rule, initial}
use Rattle.ec_typing_defs.specs.Types.{words_type, word_types, type_in_rows, is_char_array, same_words}
use Rattle.ec_typing_defs.specs.Worlds.{Place, MembersData, unlisted, begun, listed, is_listed, StructInfo, World, Rule, chain, pure, ask, note, members_of, is_complete, tag_up}
use Rattle.ec_sim_world_laws.specs.place.Structs.{IsListed, EachStruct, EachStructIn}
use Rattle.ec_sim_world_laws.specs.place.References.{IsNoVoid}
use Rattle.ec_sim_world_laws.proofs.closing_lemmas.Lists.{false_not}

-- this holds of the structs in a type, and it is not void
abbrev pub IsObject : (ℕ → Type 0) → Option TyData → Type 0
IsObject P t = EachStructIn P t × IsNoVoid t

-- one rule or the other
abbrev pick : Bool → Rule (Option TyData) → Rule (Option TyData) → Rule (Option TyData)
pick b m n = elim b [ true ↦ m | false ↦ n ]

-- ---- complete types

listed_by : (w : World) (k : ℕ) → is_listed (members_of k w) ≡ true → IsListed w k
listed_by w k h = go (slice_get w.structs k) refl h
  where
    by_members : (info : StructInfo) → slice_get w.structs k ≡ Some info → (m : MembersData) → info.members ≡ m → is_listed (Some m) ≡ true → IsListed w k
    by_members info e unlisted same h = false_not h
    by_members info e begun same h = false_not h
    by_members info e (listed ms) same h = record { info = info; is = e; members = ms; are = same }

    go : (o : Option StructInfo) → slice_get w.structs k ≡ o → is_listed (option_map (λ s. s.members) o) ≡ true → IsListed w k
    go None e h = false_not h
    go (Some info) e h = by_members info e info.members refl h

pub complete_object : (w : World) (t : TyData) → is_complete w t ≡ true → IsObject (IsListed w) (Some t)
complete_object w void e = false_not e
complete_object w (arithmetic a) e = (tt, refl)
complete_object w (pointer t) e = (tt, refl)
complete_object w (array t zero) e = false_not e
complete_object w (array t (suc n)) e = ((complete_object w t e).0, refl)
complete_object w (structure k) e = (listed_by w k e, refl)

pub complete_gives : (at : Place) (t : Option TyData) (w : World) → IsObject (IsListed w) (complete_rule at t w).answer
unfolding complete_rule chain pure ask note
complete_gives at None w = (tt, tt)
complete_gives at (Some t) w = go (is_complete w t) refl
  where
    go : (b : Bool) → is_complete w t ≡ b → IsObject (IsListed w) (pick b (pure (Some t)) (chain (note at F14) (λ _. pure None)) w).answer
    go true e = complete_object w t e
    go false e = (tt, tt)

waiting_object : (has : Bool) (t : TyData) (w : World) → waits_for_length has t w ≡ true → IsObject (IsListed w) (Some t)
waiting_object has void w e = false_not e
waiting_object has (arithmetic a) w e = false_not e
waiting_object has (pointer t) w e = false_not e
waiting_object false (array t zero) w e = false_not e
waiting_object true (array t zero) w e = ((complete_object w t e).0, refl)
waiting_object has (array t (suc n)) w e = false_not e
waiting_object has (structure k) w e = false_not e

pub object_gives : (at : Place) (has : Bool) (t : Option TyData) (w : World) → IsObject (IsListed w) (object_rule at has t w).answer
unfolding object_rule chain pure ask
object_gives at has None w = (tt, tt)
object_gives at has (Some t) w = go (waits_for_length has t w) refl
  where
    go : (b : Bool) → waits_for_length has t w ≡ b → IsObject (IsListed w) (pick b (pure (Some t)) (complete_rule at (Some t)) w).answer
    go true e = waiting_object has t w e
    go false e = complete_gives at (Some t) w

-- ---- initializers

literal_gives : (P : ℕ → Type 0) (t : TyData) (n : Option ℕ) → EachStruct P t → IsObject P (literal_array t n)
literal_gives P t None h = (tt, tt)
literal_gives P t (Some n) h = (h, refl)

completed_by_gives : (P : ℕ → Type 0) (t : TyData) (o : OperandData) → IsObject P (Some t) → IsObject P (completed_by t o)
completed_by_gives P void o h = h
completed_by_gives P (arithmetic a) o h = h
completed_by_gives P (pointer t) o h = h
completed_by_gives P (array t zero) o h = go (is_char_array (array t zero))
  where
    go : (b : Bool) → IsObject P (if b then literal_array t o.literal else None)
    go true = literal_gives P t o.literal h.0
    go false = (tt, tt)
completed_by_gives P (array t (suc n)) o h = h
completed_by_gives P (structure k) o h = h

length_gives : (P : ℕ → Type 0) (t : TyData) (is : InitList) (fs : Option Frames) → EachStruct P t → IsObject P (with_length t is fs)
length_gives P t is None h = (tt, tt)
length_gives P t is (Some fs) h = (h, refl)

completed_gives : (P : ℕ → Type 0) (t : TyData) (is : InitList) (fs : Option Frames) → IsObject P (Some t) → IsObject P (completed t is fs)
completed_gives P void is fs h = h
completed_gives P (arithmetic a) is fs h = h
completed_gives P (pointer t) is fs h = h
completed_gives P (array t zero) is fs h = length_gives P t is fs h.0
completed_gives P (array t (suc n)) is fs h = h
completed_gives P (structure k) is fs h = h

single_gives : (P : ℕ → Type 0) (at : Place) (t : Option TyData) (o : OperandData) (w : World) → IsObject P t → IsObject P (single_by at t o w).answer
unfolding chain pure
single_gives P at None o w h = (tt, tt)
single_gives P at (Some t) o w h = completed_by_gives P t o h

braces_gives : (P : ℕ → Type 0) (t : Option TyData) (is : InitList) (fs : Option Frames) → IsObject P t → IsObject P (completed_in_braces t is fs)
braces_gives P None is fs h = (tt, tt)
braces_gives P (Some t) is fs h = completed_gives P t is fs h

-- the type that an initializer tells is that of the object, but for a length
pub initial_gives : (P : ℕ → Type 0) (at : Place) (global : Bool) (t : Option TyData) (i : InitOption) (w : World) → IsObject P t → IsObject P (initial at global t i w).answer
unfolding chain pure ask
initial_gives P at global t no_init w h = h
initial_gives P at global t (some_init (one e)) w h = single_gives P at t (init_value at global e w).answer (init_value at global e w).world h
initial_gives P at global t (some_init (many is)) w h =
    let v = (braces_rule at t is w).world in
    braces_gives P t is (fill at global (braced_frames t is v) is v).answer h

-- ---- parameters

-- a type that a declaration begins with is no array
abbrev pub is_no_array : TyData → Bool
is_no_array void = true
is_no_array (arithmetic a) = true
is_no_array (pointer t) = true
is_no_array (array t n) = false
is_no_array (structure k) = true

abbrev pub IsNoArray : Option TyData → Type 0
IsNoArray None = Unit {0}
IsNoArray (Some t) = is_no_array t ≡ true

abbrev are_no_arrays : List (List Text × TyData) → Bool
are_no_arrays [] = true
are_no_arrays (r ∷ rs) = is_no_array r.1 && are_no_arrays rs

rows_give : (rs : List (List Text × TyData)) (ws : List Text) → are_no_arrays rs ≡ true → IsNoArray (type_in_rows rs ws)
rows_give [] ws e = tt
rows_give (r ∷ rs) ws e = go (is_no_array r.1) refl e (λ e. rows_give rs ws e)
  where
    by_words : (b : Bool) → is_no_array r.1 ≡ true → IsNoArray (type_in_rows rs ws) → IsNoArray (if b then Some r.1 else type_in_rows rs ws)
    by_words true e rest = e
    by_words false e rest = rest

    go : (b : Bool) → is_no_array r.1 ≡ b → (b && are_no_arrays rs) ≡ true → (are_no_arrays rs ≡ true → IsNoArray (type_in_rows rs ws)) → IsNoArray (if same_words r.0 ws then Some r.1 else type_in_rows rs ws)
    go true is e rest = by_words (same_words r.0 ws) is (rest e)
    go false is e rest = false_not e

words_give : (ws : List Text) → IsNoArray (words_type ws)
words_give ws = rows_give word_types ws refl

or_fault_gives : (at : Place) (t : Option TyData) (w : World) → IsNoArray t → IsNoArray (type_or_fault at t w).answer
unfolding type_or_fault chain pure note
or_fault_gives at None w h = tt
or_fault_gives at (Some t) w h = h

tag_type_gives : (at : Place) (k : Option ℕ) (w : World) → IsNoArray (tag_type at k w).answer
unfolding chain pure note
tag_type_gives at None w = tt
tag_type_gives at (Some k) w = refl

pub base_gives : (at : Place) (b : BaseData) (w : World) → IsNoArray (base at b w).answer
unfolding chain pure ask tag_rule end_struct
base_gives at (words ws) w = or_fault_gives at (words_type ws) w (words_give ws)
base_gives at varchar w = tt
base_gives at (tagged tag) w = tag_type_gives at (tag_up tag w) w
base_gives at (struct_base tag ds) w = refl

no_array_behind : (stars : ℕ) (t : TyData) → is_no_array t ≡ true → is_no_array (pointers stars t) ≡ true
no_array_behind zero t h = h
no_array_behind (suc n) t h = no_array_behind n (pointer t) refl

kept_gives : (P : ℕ → Type 0) (t : TyData) → is_no_array t ≡ true → IsObject P (kept (Some t) (may_be_param (Some t)))
kept_gives P void h = (tt, tt)
kept_gives P (arithmetic a) h = (tt, refl)
kept_gives P (pointer t) h = (tt, refl)
kept_gives P (array t n) h = false_not h
kept_gives P (structure k) h = (tt, tt)

plain_gives : (P : ℕ → Type 0) (at : Place) (t : Option TyData) (stars : ℕ) (w : World) → IsNoArray t → IsObject P (plain_param at (declared_type t stars []) w).answer
unfolding plain_param chain pure
plain_gives P at None stars w h = (tt, tt)
plain_gives P at (Some t) stars w h = kept_gives P (pointers stars t) (no_array_behind stars t h)

pointer_gives : (P : ℕ → Type 0) (t : Option TyData) → IsObject P (pointer_to t)
pointer_gives P None = (tt, tt)
pointer_gives P (Some t) = (tt, refl)

array_gives : (P : ℕ → Type 0) (at : Place) (t : Option TyData) (w : World) → IsObject P (array_param at t w).answer
unfolding chain pure
array_gives P at t w = pointer_gives P (complete_rule at t (within_rule at t w).world).answer

pub param_gives : (P : ℕ → Type 0) (at : Place) (t : Option TyData) (stars : ℕ) (ns : List (Option ℕ)) (w : World) → IsNoArray t → IsObject P (param_type at t stars ns w).answer
param_gives P at t stars [] w h = plain_gives P at t stars w h
param_gives P at t stars (n ∷ ns) w h = array_gives P at (declared_type t stars ns) w
