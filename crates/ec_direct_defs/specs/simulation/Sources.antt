-- Sources with forms that stand beside plain statements: connections, transactions, prepared statements, cursors for them, descriptors; and what the server answers them.
use Rattle.std.specs.Prelude.{List, [], ◌∷◌, codes, Option, Some, None}
use Prim.Native.String.{String}
use Rattle.ec_link.specs.declared.reply.Reply.{Reply}
use Rattle.ec_link.specs.declared.reply.Reply.TheVariants.{Connected}
use Rattle.ec_meaning_defs.specs.evaluation.State.{Answer}
use Rattle.ec_call_defs.specs.Outcomes.{Text}
use Rattle.ec_call_defs.specs.Examples.{from, column, rows_of, done, denied}

-- what is seen of an exchange that isn't of a text
abbrev pub unseen : Text × List (Option Text)
unseen = ([], [])

-- two connections, one of them named by a host
abbrev pub two_connections : String
two_connections =
    "EXEC SQL char here[4] = \"b\"; EXEC SQL int x;\nint main(void) {\nEXEC SQL CONNECT TO one AS a USER clerk;\nEXEC SQL CONNECT TO 'two' AS :here USER 'k' IDENTIFIED BY 's';\nEXEC SQL AT a SELECT 1 INTO :x;\nEXEC SQL AT :here INSERT INTO t VALUES (:x);\nEXEC SQL SET CONNECTION a;\nEXEC SQL DISCONNECT :here;\nEXEC SQL DELETE FROM t;\nEXEC SQL DISCONNECT ALL;\nreturn x;\n}\n"

abbrev pub connected : List Answer
connected =
    from 0 Connected ∷ from 1 Connected
    ∷ from 0 (done None) ∷ from 0 (column (codes "1" ∷ []))
    ∷ from 1 (done None) ∷ from 1 (done (Some 1)) ∷ from 1 (done None)
    ∷ from 0 (done None) ∷ from 0 (done (Some 2)) ∷ from 0 (done None) ∷ []

-- a transaction that begins by itself, and its end
abbrev pub transaction : String
transaction =
    "EXEC SQL int x = 3;\nint main(void) {\nEXEC SQL SET AUTOCOMMIT TO OFF;\nEXEC SQL INSERT INTO t VALUES (:x);\nprintf(\"%ld\\n\", sqlca.sqlerrd[2]);\nEXEC SQL COMMIT;\nEXEC SQL ROLLBACK;\nreturn 0;\n}\n"

abbrev pub begun : List Reply
begun = done None ∷ done (Some 1) ∷ done None ∷ done None ∷ []

-- a prepared statement with inputs and outputs
abbrev pub prepared : String
prepared =
    "EXEC SQL char s[20] = \"SELECT ?\"; EXEC SQL int x = 5; EXEC SQL int y;\nint main(void) {\nEXEC SQL PREPARE p FROM :s;\nEXEC SQL EXECUTE p INTO :y USING :x;\nEXEC SQL DEALLOCATE PREPARE p;\nprintf(\"%d\\n\", y);\nreturn 0;\n}\n"

-- a text that is known when it runs
abbrev pub immediate : String
immediate =
    "EXEC SQL VARCHAR v[20]; EXEC SQL char *p;\nint main(void) {\nstrcpy(v.arr, \"DELETE\"); v.len = 6;\nEXEC SQL EXECUTE IMMEDIATE :v;\np = v.arr;\nEXEC SQL EXECUTE IMMEDIATE :p;\nreturn 0;\n}\n"

-- a cursor for a prepared statement
abbrev pub cursor_for_prepared : String
cursor_for_prepared =
    "EXEC SQL int x = 2; EXEC SQL int y; EXEC SQL short i;\nint main(void) {\nEXEC SQL PREPARE p FROM 'SELECT ?';\nEXEC SQL DECLARE c CURSOR FOR p;\nEXEC SQL OPEN c USING :x;\nEXEC SQL FETCH c INTO :y :i;\nprintf(\"%d %d\\n\", y, i);\nEXEC SQL CLOSE c;\nreturn 0;\n}\n"

abbrev pub fetched_none : List Reply
fetched_none = done None ∷ done None ∷ rows_of (codes "a" ∷ []) ((None ∷ []) ∷ []) ∷ done None ∷ []

-- a descriptor that is filled by a query, read and set
abbrev pub area : String
area = "EXEC SQL int n; EXEC SQL char name[5]; EXEC SQL int x; EXEC SQL short i;\nint main(void) {\nEXEC SQL ALLOCATE DESCRIPTOR d;\nEXEC SQL PREPARE q FROM 'SELECT a, b';\nEXEC SQL EXECUTE q INTO SQL DESCRIPTOR d;\nEXEC SQL GET DESCRIPTOR d :n = COUNT;\nEXEC SQL GET DESCRIPTOR d VALUE :n :name = NAME, :x = DATA, :i = INDICATOR;\nprintf(\"%d %s %d %d\\n\", n, name, x, i);\nEXEC SQL SET DESCRIPTOR d COUNT = 1;\nEXEC SQL SET DESCRIPTOR d VALUE 1 DATA = :x;\nEXEC SQL EXECUTE q USING SQL DESCRIPTOR d;\nEXEC SQL DEALLOCATE DESCRIPTOR d;\nreturn 0;\n}\n"

abbrev pub two_columns : List Reply
two_columns =
    done None
    ∷ rows_of (codes "a" ∷ codes "bc" ∷ []) ((Some (codes "4") ∷ Some (codes "5") ∷ []) ∷ [])
    ∷ done (Some 1) ∷ []

-- structs with a struct of indicators
abbrev pub struct_indicators : String
struct_indicators =
    "int main(void) {\nEXEC SQL struct p { char c; int n; } a = {'z', 1};\nEXEC SQL struct q { short c; short n; } i;\nEXEC SQL SELECT c, n FROM t INTO :a :i;\nEXEC SQL INSERT INTO t VALUES (:a:i);\nreturn 0;\n}\n"

abbrev pub one_pair : List Reply
one_pair =
    rows_of (codes "c" ∷ codes "n" ∷ []) ((Some (codes "x") ∷ None ∷ []) ∷ [])
    ∷ done (Some 1) ∷ []

-- hosts by pointers and members, and an action with an argument
abbrev pub pointers : String
pointers =
    "EXEC SQL struct p { int n; char *s; } one; EXEC SQL struct p *at; EXEC SQL char room[4];\nvoid told(int n) { printf(\"t%d\\n\", n); }\nEXEC SQL WHENEVER NOT FOUND DO told(7);\nEXEC SQL WHENEVER SQLERROR CONTINUE;\nint main(void) {\none.s = room; at = &one;\nEXEC SQL SELECT n, s FROM t INTO :at->n, :one.s;\nprintf(\"%d %s\\n\", one.n, room);\nreturn 0;\n}\n"

abbrev pub one_text : List Reply
one_text =
    rows_of (codes "n" ∷ codes "s" ∷ []) ((Some (codes "3") ∷ Some (codes "abc") ∷ []) ∷ []) ∷ []

-- handlers that leave a loop, go on in it, and return
abbrev pub loop_handlers : String
loop_handlers =
    "EXEC SQL int x; EXEC SQL int n;\nint main(void) {\nEXEC SQL WHENEVER NOT FOUND DO BREAK;\nEXEC SQL WHENEVER SQLERROR DO CONTINUE;\nfor (n = 0; n < 9; n++) { EXEC SQL FETCH c INTO :x; printf(\"%d\\n\", x); }\nEXEC SQL WHENEVER NOT FOUND STOP;\nEXEC SQL WHENEVER SQLERROR CONTINUE;\nEXEC SQL DELETE FROM t;\nprintf(\"%d\\n\", n);\nreturn 0;\n}\n"

abbrev pub loop_replies : List Reply
loop_replies =
    column (codes "1" ∷ []) ∷ denied (codes "1") (codes "e") ∷ column (codes "2" ∷ [])
    ∷ column [] ∷ done (Some 0) ∷ []
