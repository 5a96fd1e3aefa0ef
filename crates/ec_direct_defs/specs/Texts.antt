-- The texts that a statement names: a word of its own, or bytes to the first zero byte.
use Rattle.std.specs.Prelude.{ℕ, Option, Some, None}
use Rattle.ec_arguments.specs.Arguments.{TextArg, absent, word, held}
use Rattle.ec_memory_defs.specs.Memory.{text_at}
use Rattle.ec_meaning_defs.specs.evaluation.State.{State}
use Rattle.ec_call_defs.specs.Outcomes.{Text, stuck, Outcome, gives, over, next, trying}

-- a text that has to be named
abbrev pub text_wanted : TextArg ℕ → State → Outcome Text
text_wanted (word bytes) s = gives bytes s
text_wanted (held place) s = trying (text_at s.memory place) s
text_wanted absent s = over stuck s

-- one that needn't
abbrev pub text_got : TextArg ℕ → State → Outcome (Option Text)
text_got (word bytes) s = gives (Some bytes) s
text_got (held place) s = next (trying (text_at s.memory place) s) (λ bytes t. gives (Some bytes) t)
text_got absent s = gives None s
