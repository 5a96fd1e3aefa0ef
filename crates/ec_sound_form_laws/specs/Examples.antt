-- Programs as texts, and whether they are computed to be sound.
use Prim.Native.String.{String}
use Rattle.std.specs.Prelude.{ℕ, ◌&&◌, Bool, true, List, [], ◌∷◌, is_some, length}
use Rattle.ec_arguments.specs.Rules.{cut}
use Rattle.ec_resolving_defs.specs.Examples.{resolved, called_in}
use Rattle.ec_resolving_defs.specs.Storage.{LibraryCall}
use Rattle.ec_sound_defs.specs.Sorts.{Sort}
use Rattle.ec_sound_defs.specs.Sound.{Signature}
use Rattle.ec_sound_defs.specs.Computed.{is_sound_program}
use Rattle.ec_sound_defs.specs.Written.{any, shape}

-- a function of so many parameters, whose value is of this sort
abbrev pub taking : ℕ → Sort → Signature
taking n k = record { takes = n; gives = k }

abbrev pub is_sound_text : List Signature → String → Bool
is_sound_text signatures text = is_sound_program signatures (resolved text)

-- whether each call of the library in written C is one whatever its pointers are, and how many there are
abbrev pub are_calls : List LibraryCall → Bool
are_calls [] = true
are_calls (call ∷ calls) = is_some (cut any call.0 (shape call.1)) && are_calls calls

abbrev pub calls_of_text : String → ℕ × Bool
calls_of_text text = (length (called_in text).0, are_calls (called_in text).0)
