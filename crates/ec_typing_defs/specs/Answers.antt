-- The answer of the checks.
use Rattle.std.specs.Prelude.{ℕ, suc, ◌+◌, ◌==◌, Bool, true, false, List, [], ◌∷◌, ◌++◌, map, Option, Some, None, Result, Ok, Err, if◌then◌else◌, slice_get}
use Rattle.ec_base.specs.declared.stop.Stop.{Stop}
use Rattle.ec_ctypes.specs.trees.Types.{TyData, void, arithmetic, pointer, array, structure, MemberData, StructData}
use Rattle.ec_ctypes.specs.trees.Units.{UnitData}
use Rattle.ec_ctypes.specs.trees.Checked.{MarkData, TypedData}
use Rattle.ec_language.specs.First.{Violation, first_of, stop_at}
use Rattle.ec_typing_defs.specs.Worlds.{MembersData, unlisted, begun, listed, StructInfo, World, Out}
use Rattle.ec_typing_defs.specs.Expressions.{Members}
use Rattle.ec_typing_defs.specs.Statements.{type_or_void}
use Rattle.ec_typing_defs.specs.Programs.{unit_rule, start}

-- ---- violations

abbrev pub checked : Bool → UnitData → Out (Unit {0})
checked written u = unit_rule u (start written u)

-- all violations of a program, as written C or not
abbrev pub violations : Bool → UnitData → List Violation
violations written u = (checked written u).found

-- the fault or limit that the program is refused for
abbrev pub stop_of_unit : Bool → UnitData → Option Stop
stop_of_unit written u = stop_at (first_of (violations written u))

-- ---- structs by the places where their members close

abbrev pub is_member : ℕ → List ℕ → Bool
is_member k [] = false
is_member k (j ∷ js) = if j == k then true else is_member k js

-- the structs from number k on, one for each of the list, that are not closed
abbrev pub unclosed : List ℕ → ℕ → List StructInfo → List ℕ
unclosed closed k [] = []
unclosed closed k (s ∷ ss) = if is_member k closed then unclosed closed (k + 1) ss
    else k ∷ unclosed closed (k + 1) ss

-- the structs in the order of the places where their members close, and then those whose members never do, in the order of the text
abbrev pub struct_order : World → List ℕ
struct_order w = w.closed ++ unclosed w.closed 0 w.structs

-- the place of a number in a list
abbrev pub place_of : ℕ → List ℕ → ℕ
place_of k [] = 0
place_of k (j ∷ js) = if j == k then 0 else suc (place_of k js)

-- a type with structs by these numbers
abbrev pub renumbered : List ℕ → TyData → TyData
renumbered order void = void
renumbered order (arithmetic a) = arithmetic a
renumbered order (pointer t) = pointer (renumbered order t)
renumbered order (array t n) = array (renumbered order t) n
renumbered order (structure k) = structure (place_of k order)

abbrev pub struct_members : List ℕ → Members → List MemberData
struct_members order ms = map (λ m. (m.0, renumbered order (type_or_void m.1))) ms

abbrev pub listed_members : List ℕ → MembersData → List MemberData
listed_members order unlisted = []
listed_members order begun = []
listed_members order (listed ms) = struct_members order ms

abbrev pub struct_data : List ℕ → Option StructInfo → StructData
struct_data order None = record { tag = None; varchar = false; members = [] }
struct_data order (Some s) =
    record { tag = s.tag; varchar = s.varchar; members = listed_members order s.members }

abbrev pub structs_of : World → List StructData
structs_of w = map (λ k. struct_data (struct_order w) (slice_get w.structs k)) (struct_order w)

-- the types with their numbers, from this one on
abbrev pub numbered_from : ℕ → List ℕ → List TyData → List (ℕ × TyData)
numbered_from k order [] = []
numbered_from k order (t ∷ ts) = (k, renumbered order t) ∷ numbered_from (k + 1) order ts

abbrev pub names_of : World → List (ℕ × TyData)
names_of w = numbered_from 0 (struct_order w) w.types

-- what was found out about a program that has no violation
abbrev pub typed_of : UnitData → List ℕ → List MarkData → World → TypedData
typed_of u hosts handlers w = record {
  unit = u;
  structs = structs_of w;
  names = names_of w;
  hosts = hosts;
  handlers = handlers;
  denoted = w.denoted;
}

-- the answer of the checks: the first violation, or the program with its types
abbrev pub answer_by : UnitData → List ℕ → List MarkData →
    World → Option Stop → Result TypedData Stop
answer_by u hosts handlers w None = Ok (typed_of u hosts handlers w)
answer_by u hosts handlers w (Some stop) = Err stop

abbrev pub check_answer : Bool → UnitData → List ℕ → List MarkData → Result TypedData Stop
check_answer written u hosts handlers =
    answer_by u hosts handlers (checked written u).world (stop_of_unit written u)
