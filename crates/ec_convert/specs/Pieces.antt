-- The bytes that a field stores, by how many of its own are taken.
use Rattle.std.specs.Prelude.{ℕ, ◌≤◌, ◌<◌, ◌^◌, ℤ, pos, List, ◌++◌, length, take, replicate, Option, Some, None, Result, Ok, Err, if◌then◌else◌}
use Rattle.ec_convert.specs.declared.piece.Piece.{Piece}
use Rattle.ec_convert.specs.declared.piece.Piece.TheVariants as piece
use Rattle.ec_ctypes.specs.declared.types.arith.Arith.{Arith}
use Rattle.ec_ctypes.specs.declared.types.arith.Arith.TheVariants.{Int}
use Rattle.ec_ctypes.specs.Arithmetic.{IsValue}
use Rattle.ec_transfer_defs.specs.declared.finding.Finding.{Finding}
use Rattle.ec_transfer_defs.specs.Conversion.{integer_bytes, fits}
use Rattle.ec_transfer_defs.specs.Hosts.{Holding, integer, truth, characters, pointed, counted}

-- the bytes that are stored
abbrev pub piece_bytes : List ℕ → Piece → List ℕ
piece_bytes field (piece.Number t z) = integer_bytes t z
piece_bytes field (piece.Text taken zeros) = take taken field ++ replicate zeros 0
piece_bytes field (piece.Counted taken zeros) =
    integer_bytes Int (pos taken) ++ take taken field ++ replicate zeros 0

-- what is taken is there, numbers fit, and zero bytes are as few as a VARCHAR has
abbrev pub IsPiece : List ℕ → Piece → Type 0
IsPiece field (piece.Number t z) = IsValue t z
IsPiece field (piece.Text taken zeros) = (taken ≤ length field) × (zeros ≤ 2 ^ 24)
IsPiece field (piece.Counted taken zeros) =
    (taken ≤ length field) × (taken < 2 ^ 31) × (zeros ≤ 2 ^ 24)

-- the bytes, or what is wrong
abbrev pub bytes_or : List ℕ → Result Piece Finding → Result (List ℕ) Finding
bytes_or field (Ok it) = Ok (piece_bytes field it)
bytes_or field (Err finding) = Err finding

-- a number of the type, or none
abbrev pub fitting : Arith → Option ℤ → Option ℤ
fitting t None = None
fitting t (Some z) = if fits t z then Some z else None

-- a VARCHAR has at most 2 ^ 24 bytes
abbrev pub IsBounded : Holding → Type 0
IsBounded (integer t) = Unit {0}
IsBounded truth = Unit {0}
IsBounded (characters n) = Unit {0}
IsBounded pointed = Unit {0}
IsBounded (counted n) = n ≤ 2 ^ 24
