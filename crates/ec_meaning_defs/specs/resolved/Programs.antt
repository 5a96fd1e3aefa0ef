-- Resolved programs, and the objects that are there when one is opened.
use Rattle.std.specs.Prelude.{ℕ, ◌∷◌, [], ◌++◌, List, map, replicate, Option, codes}
use Rattle.ec_memory_defs.specs.Cells.{written}
use Rattle.ec_memory_defs.specs.Memory.{ScalarType, ValueData, little_endian_bytes}
use Rattle.ec_meaning_defs.specs.resolved.Resolved.{Stms}

-- a function: the types of its parameters, the sizes of the objects of its body's block, its body, and what a call gives where the body ends without `return`. Only `main` has that (5.1.2.2.3)
pub record Function : Type 0 where
  pub parameters : List ScalarType
  pub objects : List ℕ
  pub body : Stms
  pub otherwise : Option ValueData

-- a global: its size, and the bytes of its initializer with their offsets
pub record Global : Type 0 where
  pub size : ℕ
  pub values : List (ℕ × List ℕ)

-- the globals and the string literals that make an object, in order of the text; the functions that are defined; and the number of `main` among them
pub record Program : Type 0 where
  pub globals : List Global
  pub literals : List (List ℕ)
  pub functions : List Function
  pub main : ℕ

abbrev pub with_values : List ℕ → List (ℕ × List ℕ) → List ℕ
with_values bytes [] = bytes
with_values bytes (v ∷ vs) = with_values (written bytes v.0 v.1) vs

-- the bytes of a global when the program is opened: zeros, where its initializer says nothing else (6.7.8)
abbrev pub global_bytes : Global → List ℕ
global_bytes g = with_values (replicate g.size 0) g.values

-- the bytes of a string literal, with its zero byte (6.4.5)
abbrev pub literal_bytes : List ℕ → List ℕ
literal_bytes bytes = bytes ++ 0 ∷ []

-- the bytes of `sqlca` when a program is opened (PostgreSQL manual, 36.8.2): sqlcaid, sqlabc, sqlcode, sqlerrml and sqlerrmc, two bytes of padding, sqlerrp, four bytes of padding, sqlerrd, sqlwarn, sqlstate, three bytes of padding
abbrev pub sqlca_bytes : List ℕ
sqlca_bytes =
    codes "SQLCA   " ++ little_endian_bytes 8 256 ++ replicate 8 0
    ++ replicate 154 0 ++ replicate 2 0 ++ codes "NOT SET " ++ replicate 4 0
    ++ replicate 48 0 ++ replicate 8 0 ++ codes "00000" ++ replicate 3 0

-- the objects of a program when it is opened, in order: `sqlca`, the globals, the literals
abbrev pub opening_objects : Program → List (List ℕ)
opening_objects p = sqlca_bytes ∷ map global_bytes p.globals ++ map literal_bytes p.literals
