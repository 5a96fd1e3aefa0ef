-- The sources of the examples.
use Prim.Native.String.{String}

-- a row is printed
abbrev pub one_row : String
one_row =
    "EXEC SQL int x;\nint main(void) {\nEXEC SQL SELECT a FROM t INTO :x;\nprintf(\"%d\\n\", x);\nreturn 0;\n}\n"

-- its code and the host
abbrev pub code_and_host : String
code_and_host =
    "EXEC SQL int x;\nint main(void) {\nEXEC SQL SELECT a FROM t INTO :x;\nprintf(\"%ld %d\\n\", sqlca.sqlcode, x);\nreturn 0;\n}\n"

-- the same with an indicator
abbrev pub with_indicator : String
with_indicator =
    "EXEC SQL short i;\nEXEC SQL int x;\nint main(void) {\nEXEC SQL SELECT a FROM t INTO :x :i;\nprintf(\"%ld %d %d\\n\", sqlca.sqlcode, x, i);\nreturn 0;\n}\n"

-- a VARCHAR with a zero byte in it
abbrev pub counted_text : String
counted_text =
    "EXEC SQL VARCHAR v[5];\nint main(void) {\nv.len = 4; v.arr[0] = 'a'; v.arr[1] = 'b'; v.arr[2] = 0; v.arr[3] = 'd';\nEXEC SQL INSERT INTO t VALUES (:v);\nreturn 0;\n}\n"

-- a VARCHAR whose length is above its capacity
abbrev pub too_long_text : String
too_long_text =
    "EXEC SQL VARCHAR v[5];\nint main(void) {\nv.len = 6; v.arr[0] = 'a'; v.arr[1] = 'b'; v.arr[2] = 0; v.arr[3] = 'd';\nEXEC SQL INSERT INTO t VALUES (:v);\nreturn 0;\n}\n"

-- an array of three characters with its indicator
abbrev pub three_chars : String
three_chars =
    "EXEC SQL char s[3] = \"xyz\"; EXEC SQL short i;\nint main(void) {\nEXEC SQL SELECT a FROM t INTO :s :i;\nprintf(\"%c%c%d %d %d %d\\n\", s[0], s[1], s[2], i, sqlca.sqlwarn[0], sqlca.sqlwarn[1]);\nreturn sqlca.sqlcode;\n}\n"

-- a statement under `if`, with a jump where nothing is found
abbrev pub none_found_goes : String
none_found_goes =
    "int a = 1; int b;\nEXEC SQL WHENEVER NOT FOUND GOTO done;\nint main(void) {\nif (a) EXEC SQL DELETE FROM t; else b = 1;\nprintf(\"%d\\n\", b);\ndone: return b + 3;\n}\n"

-- the same where the statement is not reached
abbrev pub no_statement : String
no_statement =
    "int a = 0; int b;\nEXEC SQL WHENEVER NOT FOUND GOTO done;\nint main(void) {\nif (a) EXEC SQL DELETE FROM t; else b = 1;\nprintf(\"%d\\n\", b);\ndone: return b + 3;\n}\n"

-- a WHENEVER that is never passed holds below it in the text
abbrev pub whenever_is_text : String
whenever_is_text =
    "int main(void) { if (0) { EXEC SQL WHENEVER SQLERROR STOP; } EXEC SQL DELETE FROM t; return 0; }"

-- the warning's handler comes before the error's
abbrev pub two_handlers : String
two_handlers =
    "EXEC SQL char s[2]; EXEC SQL short i; EXEC SQL int n;\nvoid w(void) { printf(\"w\"); }\nvoid e(void) { printf(\"e\"); }\nEXEC SQL WHENEVER SQLWARNING DO w();\nEXEC SQL WHENEVER SQLERROR DO e();\nint main(void) {\nEXEC SQL SELECT a, b FROM t INTO :s :i, :n;\nreturn s[0] + i + n;\n}\n"

-- rows go into an array, unless there are more of them
abbrev pub array_of_three : String
array_of_three =
    "EXEC SQL int a[3] = {9, 9, 9};\nint main(void) {\nEXEC SQL SELECT a FROM t INTO :a;\nprintf(\"%ld %d %d %d %d\\n\", sqlca.sqlcode, a[0], a[1], a[2], (int) sqlca.sqlerrd[2]);\nreturn 0;\n}\n"

-- the host of a cursor is read at OPEN
abbrev pub read_at_open : String
read_at_open =
    "EXEC SQL int k;\nint main(void) {\nk = 1;\nEXEC SQL DECLARE c CURSOR FOR SELECT a FROM t WHERE b = :k;\nk = 2;\nEXEC SQL OPEN c;\nreturn 0;\n}\n"

-- rows are fetched until there is none
abbrev pub fetch_loop : String
fetch_loop =
    "EXEC SQL int x; EXEC SQL int n;\nEXEC SQL WHENEVER NOT FOUND GOTO done;\nint main(void) {\nwhile (1) { EXEC SQL FETCH c INTO :x; n = n + 1; }\ndone: printf(\"%d %d\\n\", x, n); return 0;\n}\n"

-- an array of structs
abbrev pub structs : String
structs =
    "int main(void) {\nEXEC SQL struct p { char c; int n; } a[2];\nEXEC SQL SELECT c, n FROM t INTO :a;\nprintf(\"%c%d%c%d\\n\", a[0].c, a[0].n, a[1].c, a[1].n);\nreturn 0;\n}\n"
