-- The generated program of a number. It connects, asks a question for each number from 1 to its own, adds the answers that
-- came, and prints the sum.
use Rattle.std.specs.Prelude.{ℕ, zero, suc, List, [], ◌++◌, codes, decimal}

-- the question of a number, and what is done with its answer
abbrev pub question : ℕ → List ℕ
question j = codes "EXEC SQL SELECT " ++ decimal j
    ++ codes " + 1 INTO :k :i;\nif (sqlca.sqlcode == 0 && i == 0) s = s + k;\n"

-- those of the numbers from 1 to this one, in rising order
abbrev pub questions : ℕ → List ℕ
questions zero = []
questions (suc n) = questions n ++ question (suc n)

-- what stands before the questions, and behind them
abbrev pub opening : List ℕ
opening = codes "EXEC SQL BEGIN DECLARE SECTION;\nint k;\nshort i;\nEXEC SQL END DECLARE SECTION;\n"
    ++ codes "int main(void) {\nlong s = 0;\nEXEC SQL CONNECT TO gen;\n"

abbrev pub closing : List ℕ
closing = codes "EXEC SQL DISCONNECT ALL;\nprintf(\"%ld\\n\", s);\nreturn 0;\n}\n"

abbrev pub generated : ℕ → List ℕ
generated n = opening ++ questions n ++ closing
