-- The answer of the checks, from what is known behind a program.
use Rattle.std.proofs.Common.{◌≡◌, ◌∙◌, ℕ, zero, suc, Bool, List, [], ◌∷◌, map, Option, Some, None, option_map, Ok, Err, refl, sym, ap, slice_get, slice_set}
use Rattle.ec_base.specs.declared.stop.Stop.{Stop}
use Rattle.ec_base.specs.declared.stop.Stop.TheVariants.{Refused, Limit, OutOfMemory}
use Rattle.ec_ctypes.specs.declared.types.ty.Ty.{Ty}
use Rattle.ec_ctypes.specs.declared.types.ty.StructDef.{StructDef}
use Rattle.ec_ctypes.specs.trees.Types.{StructData}
use Rattle.ec_ctypes.specs.trees.Units.{UnitData}
use Rattle.ec_ctypes.specs.trees.Checked.{MarkData}
use Rattle.ec_ctypes.specs.views.Types.{ty_view, structs_view}
use Rattle.ec_typing_defs.specs.Worlds.{MembersData, unlisted, begun, listed, StructInfo, World}
use Rattle.ec_typing_defs.specs.Answers.{checked, violations, stop_of_unit, answer_by, check_answer}
use Rattle.ec_scopes.specs.declared.structs.StructRow.{StructRow}
use Rattle.ec_scopes.specs.Structs.{members_view, opened, infos, closings, close_at, close_as, listed_of}
use Rattle.ec_check.specs.typed.Orders.{plain_struct, names_view, Stands, IsNumbered}
use Rattle.ec_check.specs.Answers.{Checks}
use Rattle.ec_check.proofs.Firsts.{noted_first}
use Rattle.ec_language.specs.First.{stop_at}
use Rattle.ec_typing_defs.specs.Tables.{Named}
use Rattle.ec_typing_defs.specs.Programs.{defined_in, unit_rule, start}
use Rattle.ec_scopes.specs.declared.state.Checker.{Checker}
use Rattle.ec_scopes.specs.Seen.{world_of, notes_of, noted, IsDone}
use Rattle.ec_scopes.specs.Starts.{fresh}

-- ---- the structs as they were met

map_map : {A B C : Type 0} (f : A → B) (g : B → C) (xs : List A) → map g (map f xs) ≡ map (λ x. g (f x)) xs
map_map f g [] = refl
map_map f g (x ∷ xs) = ap (λ ys. g (f x) ∷ ys) (map_map f g xs)

set_map : {A B : Type 0} (f : A → B) (xs : List A) (k : ℕ) (y : A) → map f (slice_set xs k y) ≡ slice_set (map f xs) k (f y)
set_map f [] k y = refl
set_map f (x ∷ xs) zero y = refl
set_map f (x ∷ xs) (suc k) y = ap (λ ys. f x ∷ ys) (set_map f xs k y)

set_there : {A : Type 0} (xs : List A) (k : ℕ) (y : A) → slice_get xs k ≡ Some y → slice_set xs k y ≡ xs
set_there [] k y e = refl
set_there (x ∷ xs) zero y e = let same : x ≡ y = cc in ap (λ z. z ∷ xs) (sym same)
set_there (x ∷ xs) (suc k) y e = ap (λ ys. x ∷ ys) (set_there xs k y e)

get_map : {A B : Type 0} (f : A → B) (xs : List A) (k : ℕ) → slice_get (map f xs) k ≡ option_map f (slice_get xs k)
get_map f [] k = refl
get_map f (x ∷ xs) zero = refl
get_map f (x ∷ xs) (suc k) = get_map f xs k

abbrev plain_rows : List StructRow → List StructData
plain_rows rows = map (λ r. plain_struct (opened r)) rows

close_plain : (rows : List StructRow) (k : ℕ) (is : List StructInfo) → map plain_struct is ≡ plain_rows rows → map plain_struct (close_at (slice_get rows k) k is) ≡ plain_rows rows
close_plain rows k is h = by (slice_get rows k) refl
  where
    listed_by : (r : StructRow) (m : MembersData) → slice_get rows k ≡ Some r → members_view r.members ≡ m → map plain_struct (close_as r k (listed_of m) is) ≡ plain_rows rows
    listed_by r unlisted e f = h
    listed_by r begun e f = h
    listed_by r (listed ms) e f =
        set_map plain_struct is k _ ∙ (λ i. slice_set (h i) k (plain_struct (record (opened r) { members = sym f i })))
        ∙ set_there (plain_rows rows) k (plain_struct (opened r)) (get_map (λ x. plain_struct (opened x)) rows k ∙ ap (option_map (λ x. plain_struct (opened x))) e)

    by : (o : Option StructRow) → slice_get rows k ≡ o → map plain_struct (close_at o k is) ≡ plain_rows rows
    by None e = h
    by (Some r) e = listed_by r (members_view r.members) e refl

closings_plain : (rows : List StructRow) (ks : List ℕ) (is : List StructInfo) → map plain_struct is ≡ plain_rows rows → map plain_struct (closings rows ks is) ≡ plain_rows rows
closings_plain rows [] is h = h
closings_plain rows (k ∷ ks) is h = closings_plain rows ks (close_at (slice_get rows k) k is) (close_plain rows k is h)

infos_plain : (rows : List StructRow) (ks : List ℕ) → map plain_struct (infos rows ks) ≡ plain_rows rows
infos_plain rows ks = closings_plain rows ks (map opened rows) (map_map opened plain_struct rows)

pub stands : (w : World) (rows : List StructRow) (structs : List StructDef) (closed : List ℕ) (types : List Ty) → infos rows w.closed ≡ w.structs → structs_view structs ≡ map (λ r. plain_struct (opened r)) rows → closed ≡ w.closed → map ty_view types ≡ w.types → Stands structs closed types w
stands w rows structs closed types r s c t = record {
  structs_are = s ∙ sym (infos_plain rows w.closed) ∙ ap (map plain_struct) r;
  closed_are = c;
  types_are = t;
}

-- ---- the answer

pub told_stop : (written : Bool) (u : UnitData) (hosts : List ℕ) (handlers : List MarkData) (stop : Stop) → Some stop ≡ stop_of_unit written u → Checks written u hosts handlers (Err stop)
told_stop written u hosts handlers (Refused kind line) e = ap (answer_by u hosts handlers (checked written u).world) (sym e)
told_stop written u hosts handlers (Limit kind) e = ap (answer_by u hosts handlers (checked written u).world) (sym e)
told_stop written u hosts handlers OutOfMemory e = tt

pub told_ok : (written : Bool) (u : UnitData) (hosts : List ℕ) (handlers : List MarkData) (w : World) (structs : List StructDef) (names : List (ℕ × Ty)) (denoted : List (List (Option ℕ)))
    → None ≡ stop_of_unit written u → w ≡ (checked written u).world → IsNumbered structs names w → denoted ≡ w.denoted
    → check_answer written u hosts handlers ≡ Ok (record { unit = u; structs = structs_view structs; names = names_view names; hosts = hosts; handlers = handlers; denoted = denoted })
told_ok written u hosts handlers w structs names denoted none world numbered denotes =
    ap (answer_by u hosts handlers (checked written u).world) (sym none)
    ∙ ap (λ v. answer_by u hosts handlers v None) (sym world)
    ∙ (λ i. Ok (record { unit = u; structs = sym numbered.structs_are i; names = sym numbered.names_are i; hosts = hosts; handlers = handlers; denoted = sym denotes i }))

-- what is kept behind a program is the first of its violations
pub told_first : (written : Bool) (u : UnitData) (d : Named (Unit {0})) (old new : Checker) → world_of old ≡ fresh written d → notes_of old ≡ None → d ≡ defined_in u.tops [] → IsDone (unit_rule u (world_of old)) old new tt
    → stop_at (notes_of new) ≡ stop_of_unit written u
told_first written u d old new world notes defined p =
    let begins : world_of old ≡ start written u = world ∙ ap (fresh written) defined in
    ap stop_at (p.notes_is ∙ (λ i. noted (unit_rule u (begins i)).found (notes i)) ∙ noted_first (violations written u))
