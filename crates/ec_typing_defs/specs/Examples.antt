-- Programs, as examples write them, and their violations.
use Rattle.std.specs.Prelude.{ℕ, Bool, true, false, List, [], ◌++◌, codes, Option, Some, None, Result, Ok, Err}
use Prim.Native.String.{String}
use Rattle.ec_base.specs.declared.fault.FaultKind.{FaultKind}
use Rattle.ec_base.specs.declared.fault.LimitKind.{LimitKind}
use Rattle.ec_base.specs.declared.stop.Stop.{Stop}
use Rattle.ec_base.specs.declared.stop.Stop.TheVariants.{Refused, Limit}
use Rattle.ec_ctypes.specs.trees.Types.{TyData, MemberData, StructData}
use Rattle.ec_ctypes.specs.trees.Units.{UnitData}
use Rattle.ec_language.specs.Letters.{Text}
use Rattle.ec_language.specs.First.{Violation}
use Rattle.ec_language.specs.ReadText.{read_text}
use Rattle.ec_typing_defs.specs.Answers.{violations, stop_of_unit, checked, structs_of, names_of}

-- what the checks say of a text that has a tree: what it is refused for, or none. A text that has no tree gives the error of its reading
abbrev pub Verdict : Type 0
Verdict = Result (Option Stop) Stop

abbrev pub verdict_by : Bool → Result UnitData Stop → Verdict
verdict_by written (Ok u) = Ok (stop_of_unit written u)
verdict_by written (Err stop) = Err stop

abbrev pub verdict : String → Verdict
verdict text = verdict_by false (read_text false (codes text))

-- of a text with an empty main behind it
abbrev pub with_main : String → Verdict
with_main text = verdict_by false (read_text false (codes text ++ codes " int main(void) { }"))

-- of statements, as the body of main
abbrev pub in_main : String → Verdict
in_main text =
    verdict_by false (read_text false (codes "int main(void) { " ++ codes text ++ codes " }"))

-- of statements behind these declarations
abbrev pub verdict_behind : String → String → Verdict
verdict_behind declarations text =
    verdict_by false (read_text false (codes declarations ++ codes text ++ codes " }"))

-- of statements among objects of the types of C
abbrev pub among_declarations : String → Verdict
among_declarations text =
    verdict_behind
    "int main(void) { int i; int *p; char *c; void *v; int a[3]; struct s { int m; struct s *n; } x, *q; struct u; struct u *w; " text

-- of statements where functions are declared and defined
abbrev pub among_functions : String → Verdict
among_functions text =
    verdict_behind
    "int f(int a, char *b) { return a; } void g(void) { } int h(long); int main(void) { int i; long l; char *c; unsigned char *u; void *v; struct s { int m; } x; " text

-- what they say of a text of written C
abbrev pub written_verdict : String → Verdict
written_verdict text = verdict_by true (read_text true (codes text))

-- of a text of written C behind these declarations
abbrev pub written_behind : Text → Verdict
written_behind text =
    verdict_by true
    (read_text true
    (codes "int main(void) { int i; char *c; unsigned char *u; char a[3]; struct varchar_v { int len; char arr[5]; } v; " ++ text ++ codes " }"))

-- of statements of written C
abbrev pub among_written : String → Verdict
among_written text = written_behind (codes text)

-- of a statement that stores one column in a host of these five values, without an indicator
abbrev pub storing_in : String → Verdict
storing_in host = written_behind (codes "ECPGdo(1, NULL, ECPGst_normal, \"x\", ECPGt_EOIT, "
    ++ codes host ++ codes ", ECPGt_NO_INDICATOR, NULL, 0L, 0L, 0L, ECPGt_EORT);")

abbrev pub refused : FaultKind → ℕ → Verdict
refused kind line = Ok (Some (Refused kind (record { 0 = line })))

abbrev pub limited : LimitKind → Verdict
limited kind = Ok (Some (Limit kind))

-- no fault and no limit
abbrev pub fine : Verdict
fine = Ok None

-- the violations of a text that has a tree
abbrev pub violations_by : Result UnitData Stop → List Violation
violations_by (Ok u) = violations false u
violations_by (Err stop) = []

abbrev pub violations_in : String → List Violation
violations_in text = violations_by (read_text false (codes text))

abbrev pub fault_at : ℕ → FaultKind → ℕ → Violation
fault_at place kind line = record { place = place; stop = Refused kind (record { 0 = line }) }

abbrev pub limit_at : ℕ → LimitKind → Violation
limit_at place kind = record { place = place; stop = Limit kind }

-- the structs and the types of the declarations of a text
abbrev pub typed_by : Result UnitData Stop → List StructData × List (ℕ × TyData)
typed_by (Ok u) = (structs_of (checked false u).world, names_of (checked false u).world)
typed_by (Err stop) = ([], [])

abbrev pub typed_in : String → List StructData × List (ℕ × TyData)
typed_in text = typed_by (read_text false (codes text))

-- a struct with this tag and these members
abbrev pub tagged_struct : String → List MemberData → StructData
tagged_struct tag members = record { tag = Some (codes tag); varchar = false; members = members }
