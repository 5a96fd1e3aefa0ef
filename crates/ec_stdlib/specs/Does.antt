-- What a call of a known function answers, against what the definition says that it does.
use Rattle.std.specs.Prelude.{◌≡◌, ℕ, List, map, Option, Some, None, Result, Ok, Err}
use Rattle.std.specs.Borrow.{Bor}
use Rattle.std.specs.Option.{option_map}
use Rattle.ec_base.specs.declared.stop.Trap.{Trap}
use Rattle.ec_meaning_defs.specs.functions.Functions.{Effect, traps, ends, misfit, puts_bytes}
use Rattle.ec_meaning_defs.specs.functions.Printing.{Put}
use Rattle.ec_memory_defs.specs.Memory.{Memory}
use Rattle.ec_values.specs.Words.{word_view}
use Rattle.ec_values.specs.declared.word.Word.{Word}
use Rattle.ec_printf.specs.formats.Known.{channel_view}
use Rattle.ec_stdlib.specs.Parts.{behind, put_result}
use Rattle.ec_stdlib.specs.declared.refusal.Answer.{Answer}
use Rattle.ec_stdlib.specs.declared.refusal.Refusal.{Refusal}
use Rattle.ec_stdlib.specs.declared.refusal.Refusal.TheVariants as refusal

-- a part was put behind what was there, and these arguments are left
abbrev pub Lent : Type 0
Lent = Bor (List Word)

abbrev pub PutsPart : Result Lent Refusal → List ℕ → List ℕ → Put → Type 0
PutsPart (Ok rest) old new put = behind old put ≡ Some (Ok new, map word_view rest.now)
PutsPart (Err (refusal.Trap t)) old new put = put_result put ≡ Some (Err t)
PutsPart (Err (refusal.Exit n)) old new put = ⊥
PutsPart (Err refusal.Misfit) old new put = put ≡ None
PutsPart (Err refusal.OutOfMemory) old new put = Unit {0}

-- all was put
abbrev pub Prints : Result (Unit {0}) Refusal → List ℕ → Option (Result (List ℕ) Trap) → Type 0
Prints (Ok v) new all = all ≡ Some (Ok new)
Prints (Err (refusal.Trap t)) new all = all ≡ Some (Err t)
Prints (Err (refusal.Exit n)) new all = ⊥
Prints (Err refusal.Misfit) new all = all ≡ None
Prints (Err refusal.OutOfMemory) new all = Unit {0}

-- the call did this: it answers with this memory and these bytes to be put, or it does not
abbrev pub Does : Result Answer Refusal → Memory → List ℕ → Effect → Type 0
Does (Ok a) m bytes effect =
    effect ≡ puts_bytes (channel_view a.channel) (option_map word_view a.value) m bytes
Does (Err (refusal.Trap t)) m bytes effect = effect ≡ traps t
Does (Err (refusal.Exit n)) m bytes effect = effect ≡ ends n
Does (Err refusal.Misfit) m bytes effect = effect ≡ misfit
Does (Err refusal.OutOfMemory) m bytes effect = Unit {0}
