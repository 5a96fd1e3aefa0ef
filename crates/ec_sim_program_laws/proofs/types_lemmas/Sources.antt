-- Sources in which nothing is wrong have types.
use Rattle.std.proofs.Common.{◌≡◌, ◌∙◌, ℕ, zero, suc, ◌+◌, Bool, true, false, not, ◌&&◌, List, [], ◌∷◌, length, take, drop, Option, Some, None, Ok, refl, sym, ap, subst, slice_get, arith}
use Rattle.std.specs.List.{list_all}
use Rattle.std.proofs.lemmas.Bool.{false≢true}
use Rattle.ec_written_laws.specs.bound.Numbers.{tops_numbers, numbers_from}
use Rattle.ec_ctypes.specs.trees.Checked.{MarkData}
use Rattle.ec_ctypes.specs.trees.Embedded.{EmbData}
use Rattle.ec_ctypes.specs.trees.Types.{TyData, void, arithmetic, pointer, array, structure}
use Rattle.ec_ctypes.specs.trees.Units.{UnitData}
use Rattle.ec_host_defs.specs.Programs.{Denoted, names_count}
use Rattle.ec_host_defs.specs.sections.Answers.{hosts_answer}
use Rattle.ec_written_laws.specs.source.SourceShape.{is_source_shape}
use Rattle.ec_typing_defs.specs.statement_parts.References.{References, references}
use Rattle.ec_typing_defs.specs.Answers.{checked, violations, typed_of, renumbered, numbered_from, struct_order, names_of}
use Rattle.ec_typing_defs.specs.Expressions.{Members}
use Rattle.ec_typing_defs.specs.Programs.{start}
use Rattle.ec_typing_defs.specs.Types.{is_void}
use Rattle.ec_typing_defs.specs.Worlds.{MembersData, unlisted, begun, listed, StructInfo, World}
use Rattle.ec_sim_world_laws.proofs.closing_lemmas.Lists.{none_not, some_is}
use Rattle.ec_sim_world_laws.proofs.known_lemmas.PositionsPassed.{starts_before_all}
use Rattle.ec_sim_host_laws.specs.reference.Rows.{is_typed_name, indexes_are_typed, IndexesAreTyped}
use Rattle.ec_sim_program_laws.specs.types.Flat.{TopsAreFlat}
use Rattle.ec_sim_program_laws.specs.types.Types.{StructsAreShallow, AllAreSimple, SourcesHaveTypes}
use Rattle.ec_sim_program_laws.proofs.types_lemmas.Fitting.{unit_fits}
use Rattle.ec_sim_program_laws.proofs.types_lemmas.Structs.{GoodStruct, GoodStructs, have_types}
use Rattle.ec_sim_program_laws.proofs.types_lemmas.Walking.{IsTypedAt, AreTypedAt, RowIsTyped, RowsAreTyped, Known}
use Rattle.ec_sim_program_laws.proofs.types_lemmas.Programs.{unit_walks}

-- ---- at the start

listed_is : {ms ns : Members} → listed ms ≡ listed ns → ms ≡ ns
listed_is {ms} {ns} e = λ j. members_or (e j)
  where
    members_or : MembersData → Members
    members_or unlisted = ms
    members_or begun = ms
    members_or (listed os) = os

-- this struct and no other
same_struct : (ss : List StructInfo) (info other : StructInfo) (ms ns : Members) → info ≡ other → info.members ≡ listed ms → other.members ≡ listed ns → GoodStruct ss info ms → GoodStruct ss other ns
same_struct ss info other ms ns same are also h = subst (λ xs. GoodStruct ss other xs) (listed_is (sym are ∙ ap (λ s. s.members) same ∙ also)) (subst (λ s. GoodStruct ss s ms) same h)

starts_good : (u : UnitData) → GoodStructs (start false u).structs
starts_good u zero info ms is are = same_struct (start false u).structs _ info _ ms (some_is is) refl are (record { good = ((tt, omega arith), ((tt, omega arith), tt)); first = refl; shape = record { shape = _; is = refl } })
starts_good u (suc zero) info ms is are = same_struct (start false u).structs _ info _ ms (some_is is) refl are (record {
  good = ((tt, omega arith), ((tt, omega arith), ((tt, omega arith), ((refl, omega arith), ((tt, omega arith), ((tt, omega arith), ((tt, omega arith), ((tt, omega arith), tt))))))));
  first = refl;
  shape = record { shape = _; is = refl };
})
starts_good u (suc (suc k)) info ms is are = none_not is

no_rows : (es : List EmbData) (u : UnitData) → RowsAreTyped es (start false u)
no_rows es u n row e is is_emb = none_not is

numbers_none : (u : UnitData) (count : ℕ) → zero + count ≡ count
numbers_none u count = omega arith

starts_known : (u : UnitData) → tops_numbers u.tops [] ≡ numbers_from 0 (length u.embs) → Known u (tops_numbers u.tops []) (start false u)
starts_known u numbers = record {
  sound = record { here = λ x entry e. none_not e; outer = tt; structs = starts_good u };
  entries = record { here = λ x entry e. none_not e; outer = tt };
  rows = no_rows u.embs u;
  to_come = record { count = length u.embs; are = numbers; all = numbers_none u (length u.embs) };
}

-- ---- behind the whole

pub unit_known : (u : UnitData) (hosts : List ℕ) → hosts_answer u ≡ Ok hosts → violations false u ≡ [] → is_source_shape u ≡ true → tops_numbers u.tops [] ≡ numbers_from 0 (length u.embs)
    → AllAreSimple u.embs → TopsAreFlat u.tops → StructsAreShallow (checked false u).world → Known u [] (checked false u).world
unit_known u hosts answer none shape numbers simple flat shallow =
    ((unit_walks u simple (unit_fits u hosts answer shape flat)).walks (start false u) (starts_known u numbers) (starts_before_all false u) none (λ k info is e. shallow k info is)).0

-- ---- the table of declarations

same_void : (order : List ℕ) (t : TyData) → is_void (renumbered order t) ≡ is_void t
same_void order void = refl
same_void order (arithmetic a) = refl
same_void order (pointer t) = refl
same_void order (array t n) = refl
same_void order (structure k) = refl

name_there : (order : List ℕ) (m k : ℕ) (ts : List TyData) (t : TyData) → slice_get ts k ≡ Some t → is_void t ≡ false → is_typed_name (numbered_from m order ts) (Some k) ≡ true
name_there order m k [] t is no_void = none_not is
name_there order m zero (x ∷ ts) t is no_void = ap not (same_void order x ∙ ap is_void (some_is is) ∙ no_void)
name_there order m (suc k) (x ∷ ts) t is no_void = name_there order (m + 1) k ts t is no_void

one_there : (z : World) (d : Option ℕ) → IsTypedAt z d → is_typed_name (names_of z) d ≡ true
one_there z None h = refl
one_there z (Some k) h = name_there (struct_order z) 0 k z.types h.type h.is h.no_void

join : (a b : Bool) → a ≡ true → b ≡ true → (a && b) ≡ true
join true b p q = q
join false b p q = absurd (false≢true p)

all_there : (z : World) (ds : Denoted) → AreTypedAt z ds → list_all (is_typed_name (names_of z)) ds ≡ true
all_there z [] h = refl
all_there z (d ∷ ds) h = join (is_typed_name (names_of z) d) (list_all (is_typed_name (names_of z)) ds) (one_there z d h.0) (all_there z ds h.1)

row_there : (z : World) (rs : References) (ds : Denoted) → RowIsTyped z rs ds → indexes_are_typed (names_of z) rs ds ≡ true
row_there z [] ds h = refl
row_there z (r ∷ rs) ds h =
    join (list_all (is_typed_name (names_of z)) (drop 1 (take (names_count r.value) ds))) (indexes_are_typed (names_of z) rs (drop (names_count r.value) ds))
    (all_there z (drop 1 (take (names_count r.value) ds)) h.0) (row_there z rs (drop (names_count r.value) ds) h.1)

-- lists of one length have elements at the same places
both_there : {A B : Type 0} {C : Type 0} (xs : List A) (ys : List B) (n : ℕ) (y : B) → length xs ≡ length ys → slice_get ys n ≡ Some y → slice_get xs n ≡ None → C
both_there xs [] n y l e none = none_not e
both_there [] (y ∷ ys) n z l e none = absurd (omega (arith, l))
both_there (x ∷ xs) (y ∷ ys) zero z l e none = none_not (sym none)
both_there (x ∷ xs) (y ∷ ys) (suc n) z l e none = both_there xs ys n z (omega (arith, l)) e none

all_come : (count k whole : ℕ) → [] ≡ numbers_from k count → k + count ≡ whole → k ≡ whole
all_come zero k whole e a = omega (arith, a)
all_come (suc c) k whole e a = absurd (cc)

indexes_typed : (u : UnitData) (hosts : List ℕ) (handlers : List MarkData) (z : World) → Known u [] z → IndexesAreTyped (typed_of u hosts handlers z)
indexes_typed u hosts handlers z known n e is = go (slice_get z.denoted n) refl
  where
    go : (o : Option Denoted) → slice_get z.denoted n ≡ o → indexes_are_typed (names_of z) (references e) (elim o [ None ↦ [] | Some ds ↦ ds ]) ≡ true
    go None none = both_there z.denoted u.embs n e (all_come known.to_come.count (length z.denoted) (length u.embs) known.to_come.are known.to_come.all) is none
    go (Some row) there = row_there z (references e) row (known.rows n row e there is)

pub all_have_types : SourcesHaveTypes
all_have_types u hosts handlers answer none shape numbers simple flat shallow =
    let known = unit_known u hosts answer none shape numbers simple flat shallow in
    record { structs = have_types (checked false u).world known.sound.structs; indexes = indexes_typed u hosts handlers (checked false u).world known }
