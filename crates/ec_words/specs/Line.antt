-- The command line that `clap` reads the words by: two options with a value, of which each use is kept, and words that are
-- no options. It has no `--help`.
use Rattle.std.specs.Prelude.{codes, true, Some}
use Rattle.clap.specs.Words.{App, Rule, Text, new_app, new_rule, with_rule}
use Rattle.clap.specs.Simple.{on_top}
use Rattle.clap.specs.declared.builder.ArgAction.TheVariants.{Append}

-- an option with a value
abbrev pub option_rule : Text → Rule
option_rule name = record (new_rule name) { long = Some name; action = Some Append }

-- the words that are no options
abbrev pub plain_rule : Rule
plain_rule = record (new_rule (codes "plain")) { action = Some Append }

abbrev pub app : App
app = with_rule (with_rule (with_rule
    (on_top (λ s. record s { disable_help_flag = true }) (new_app (codes "ecpgc")))
    (option_rule (codes "turns"))) (option_rule (codes "replay"))) plain_rule
