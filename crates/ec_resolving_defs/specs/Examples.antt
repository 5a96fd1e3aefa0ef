-- Programs as examples write them, resolved and run.
use Rattle.std.specs.Prelude.{ℕ, Bool, true, false, List, [], ◌∷◌, ◌++◌, codes, length, map, slice_get, Option, Some, None, Result, Ok, Err}
use Prim.Native.String.{String}
use Rattle.ec_base.specs.declared.stop.Stop.{Stop}
use Rattle.ec_ctypes.specs.declared.embedded.emb.Cond.TheVariants.{NotFound, Warning, Error}
use Rattle.ec_ctypes.specs.trees.Embedded.{HostData, ActionData, EmbData, EmbKindData, include_sqlca, trans, whenever, server_text, listed_outs, stop_action, goto_action, call_action}
use Rattle.ec_ctypes.specs.trees.Exprs.{ExprData, identifier, no_exprs, exprs}
use Rattle.ec_typing_defs.specs.statement_parts.Handlers.{last_of}
use Rattle.ec_ctypes.specs.trees.Units.{UnitData}
use Rattle.ec_language.specs.ReadText.{read_text}
use Rattle.ec_ctypes.specs.declared.types.arith.Arith.TheVariants.{UChar, Long, ULong, LLong}
use Rattle.ec_meaning_defs.specs.functions.Formats.{Field, absent}
use Rattle.ec_memory_defs.specs.Memory.{ScalarType, ValueData, integer_type, pointer_type}
use Rattle.ec_meaning_defs.specs.resolved.Programs.{Function, Global, Program}
use Rattle.ec_meaning_defs.specs.resolved.Resolved.{Exp, object, load, convert, faulty, Exps, no_exps, exps, Stm, on_line, evaluate, Stms, no_stms, stms}
use Rattle.ec_meaning_defs.specs.evaluation.State.{Ending}
use Rattle.ec_meaning_defs.specs.evaluation.Whole.{Observed, program_meaning, without_atoms}
use Rattle.ec_resolving_defs.specs.Programs.{stuck_program, resolve, walked, library_calls_of, embedded_statements_of}
use Rattle.ec_resolving_defs.specs.Storage.{LibraryCall, StatementForm}
use Rattle.ec_meaning_defs.specs.evaluation.Examples.{char}

abbrev pub resolved_by : Bool → Result UnitData Stop → Program
resolved_by written (Ok u) = resolve written u
resolved_by written (Err stop) = stuck_program

-- the resolved program of a text
abbrev pub resolved : String → Program
resolved text = resolved_by false (read_text false (codes text))

-- the functions that are defined, in order
abbrev pub functions_in : String → List Function
functions_in text = (resolved text).functions

abbrev pub statements_in : Stms → List Stm
statements_in no_stms = []
statements_in (stms s ss) = s ∷ statements_in ss

abbrev pub body_of : Option Function → List Stm
body_of None = []
body_of (Some f) = statements_in f.body

-- ---- forms of expressions, among objects of the types of C

abbrev pub declarations : List ℕ
declarations =
    codes "int i; char c; long l; unsigned u; bool b; int *p; char *q; void *v; int a[3]; "
    ++ codes "struct s { char k; int m; int t[2]; } x, y, *r; "
    ++ codes "unsigned char d; short h; unsigned long n; long long o; "
    ++ codes "int f(char k, long m) { return 1; } void g(void) { } struct w; struct w *w;"

-- statements of main behind these
abbrev pub among_objects : String → Result UnitData Stop
among_objects text =
    read_text false (declarations ++ codes " int main(void) { " ++ codes text ++ codes " }")

-- main is the third function
abbrev pub main_of : Result UnitData Stop → List Stm
main_of unit = body_of (slice_get (resolved_by false unit).functions 2)

abbrev pub i : Exp
i = object 2

abbrev pub c : Exp
c = object 3

abbrev pub l : Exp
l = object 4

abbrev pub u : Exp
u = object 5

abbrev pub b : Exp
b = object 6

abbrev pub p : Exp
p = object 7

abbrev pub q : Exp
q = object 8

abbrev pub v : Exp
v = object 9

abbrev pub a : Exp
a = object 10

abbrev pub x : Exp
x = object 11

abbrev pub y : Exp
y = object 12

abbrev pub r : Exp
r = object 13

abbrev pub d : Exp
d = object 14

abbrev pub h : Exp
h = object 15

abbrev pub n : Exp
n = object 16

abbrev pub o : Exp
o = object 17

abbrev pub w : Exp
w = object 18

-- the first literal
abbrev pub literal : Exp
literal = object 19

abbrev pub expression_of : Stm → Exp
expression_of (on_line line (evaluate e)) = e
expression_of _ = faulty

-- the expressions of statements
abbrev pub forms : String → List Exp
forms text =
    map expression_of (main_of (among_objects text))

-- of one
abbrev pub form : String → Exp
form text = first_of (forms text)
  where
    first_of : List Exp → Exp
    first_of [] = faulty
    first_of (e ∷ es) = e

abbrev pub uchar : ScalarType
uchar = integer_type UChar

abbrev pub long : ScalarType
long = integer_type Long

abbrev pub ulong : ScalarType
ulong = integer_type ULong

abbrev pub llong : ScalarType
llong = integer_type LLong

abbrev pub pointer : ScalarType
pointer = pointer_type

-- a directive without flags and width
abbrev pub field : Field
field = record { minus = false; zeros = false; width = absent }

-- the value of a place as a value of another type
abbrev pub as_read : ScalarType → ScalarType → Exp → Exp
as_read from to e = convert from to (load from e)

-- the arguments `c, l` of f
abbrev pub cl : Exps
cl = exps (load char c) (exps (load long l) no_exps)

-- ---- forms of statements, and parts of programs

-- statements of main, among the same objects
abbrev pub statements_of : String → List Stm
statements_of text =
    main_of (among_objects text)

-- with these embedded statements, which the plain reading of a text leaves out
abbrev pub with_embedded : List EmbData → Result UnitData Stop → Result UnitData Stop
with_embedded es (Ok unit) = Ok (record unit { embs = es })
with_embedded es (Err stop) = Err stop

abbrev pub statements_with : List EmbData → String → List Stm
statements_with es text =
    main_of (with_embedded es (among_objects text))

abbrev pub embedded_on_1 : ℕ → EmbKindData → EmbData
embedded_on_1 k kind = record { line = record { 0 = 1 }; place = k; at = None; kind = kind }

-- INCLUDE, COMMIT, WHENEVER and ROLLBACK
abbrev pub embedded : List EmbData
embedded =
    embedded_on_1 0 include_sqlca
    ∷ embedded_on_1 1 (trans (codes "COMMIT"))
    ∷ embedded_on_1 2 (whenever Error stop_action)
    ∷ embedded_on_1 3 (trans (codes "ROLLBACK")) ∷ []

abbrev pub name_of : String → ExprData
name_of word = identifier (codes word)

-- the call `f(c, l)`
abbrev pub call_f : ActionData
call_f = call_action (codes "f") (exprs (name_of "c") (exprs (name_of "l") no_exprs))

-- `:i:h`
abbrev pub host_i : HostData
host_i = record { value = name_of "i"; indicator = Some (name_of "h") }

-- WHENEVER for each condition, and a SELECT into a variable with an indicator
abbrev pub handled : List EmbData
handled =
    embedded_on_1 0 (whenever NotFound (goto_action (codes "e")))
    ∷ embedded_on_1 1 (whenever Error call_f)
    ∷ embedded_on_1 2 (whenever Warning stop_action)
    ∷ embedded_on_1 3 (server_text [] (listed_outs (host_i ∷ [])))
    ∷ []

abbrev pub forms_by : Result UnitData Stop → List StatementForm
forms_by (Ok unit) = embedded_statements_of false unit
forms_by (Err stop) = []

-- the last embedded statement of a text with these statements
abbrev pub last_form : List EmbData → String → Option StatementForm
last_form es text = last_of (forms_by (with_embedded es (among_objects text)))

-- the parts of a function, by its number
abbrev pub body_in : ℕ → String → List Stm
body_in k text = body_of (slice_get (functions_in text) k)

abbrev pub sizes_in : ℕ → String → List ℕ
sizes_in k text = elim (slice_get (functions_in text) k) [ None ↦ [] | Some f ↦ f.objects ]

abbrev pub parameters_in : ℕ → String → List ScalarType
parameters_in k text = elim (slice_get (functions_in text) k) [ None ↦ [] | Some f ↦ f.parameters ]

abbrev pub at_end : ℕ → String → Option ValueData
at_end k text = elim (slice_get (functions_in text) k) [ None ↦ None | Some f ↦ f.otherwise ]

abbrev pub globals_in_text : String → List Global
globals_in_text text = (resolved text).globals

abbrev pub literals_in_text : String → List (List ℕ)
literals_in_text text = (resolved text).literals

-- how many functions there are, and the number of main
abbrev pub shape_of : String → ℕ × ℕ
shape_of text = (length (functions_in text), (resolved text).main)

-- the calls of the library in written C, and the literals that make an object, whatever the checks say
abbrev pub called_by : Result UnitData Stop → List LibraryCall × List (List ℕ)
called_by (Ok unit) = (library_calls_of true unit, (walked true unit).storage.literals)
called_by (Err stop) = ([], [])

abbrev pub called_in : String → List LibraryCall × List (List ℕ)
called_in text = called_by (read_text true (codes text))

-- the statements of main in written C
abbrev pub written_by : Result UnitData Stop → List Stm
written_by (Ok unit) =
    body_of (slice_get (resolve true unit).functions (resolve true unit).main)
written_by (Err stop) = []

abbrev pub written_main : String → List Stm
written_main text = written_by (read_text true (codes text))

-- ---- runs

abbrev pub run_of : ℕ → String → Observed
run_of turns text = program_meaning without_atoms (resolved text) turns None []

-- what is printed, and how it ends
abbrev pub shows : ℕ → String → List ℕ × Ending
shows turns text = ((run_of turns text).output, (run_of turns text).ending)
