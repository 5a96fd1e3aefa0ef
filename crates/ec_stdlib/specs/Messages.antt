-- The message of the last error.
use Rattle.std.specs.Prelude.{ℕ, [], ◌∷◌, ◌++◌, None, codes}
use Rattle.ec_meaning_defs.specs.functions.Functions.{Effect, answers, message_bytes, tried}
use Rattle.ec_memory_defs.specs.Memory.{Memory, span}

-- what `sqlprint` does once it knows the length
abbrev pub message_told : Memory → ℕ → Effect
message_told m size = tried (span m message_bytes size)
    (λ bytes. answers None m [] (codes "SQL error: " ++ bytes ++ 10 ∷ []))
