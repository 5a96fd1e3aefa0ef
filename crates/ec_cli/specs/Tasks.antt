-- What the words ask the tool for.
use Rattle.std.specs.Prelude.{◌≡◌, ℕ, Bool, true, false, not, ◌&&◌, if◌then◌else◌, List, [], map, Option, Some, None, option_map, String}
use Rattle.std.specs.String.{string_bytes}
use Rattle.std.specs.declared.alloc.Global.{Global as Allocator}
use Rattle.ec_words.specs.Words.{asked, usual_turns}
use Rattle.ec_words.specs.declared.words.Command.{Command}
use Rattle.ec_words.specs.declared.words.Command.TheVariants as commands
use Rattle.ec_cli.specs.Ending.{is_whole, last_line}
use Rattle.ec_cli.specs.declared.ending.Ending.{Ending}
use Rattle.ec_cli.specs.declared.form.Form.{Form}
use Rattle.ec_cli.specs.declared.form.Form.TheVariants.{Source, Written, Recorded, Generated}
use Rattle.ec_cli.specs.declared.task.Task.{Task}
use Rattle.ec_cli.specs.declared.task.Task.TheVariants.{Translate, Run}

-- What a command asks for. A generated program has as many turns as any run where none are given.
abbrev pub task_of : Command → Task
task_of commands.Translate = Translate
task_of (commands.Exec run) = Run Written run.turns
task_of (commands.Run run) = Run Source run.turns
task_of (commands.Record run) = Run Recorded run.turns
task_of (commands.Gen gen) = Run (Generated gen.number) usual_turns

-- what the words ask for, or none where they name no command
abbrev pub task : List (String Allocator) → Option Task
task words = option_map task_of (asked (map string_bytes words))

-- they name no command
abbrev pub IsUnnamed : List (String Allocator) → Type 0
IsUnnamed words = task words ≡ None

-- they name a translation
abbrev pub IsTranslating : List (String Allocator) → Type 0
IsTranslating words = task words ≡ Some Translate

-- they name a run of such a text, for so many turns
abbrev pub HasTurns : List (String Allocator) → Form → ℕ → Type 0
HasTurns words form turns = task words ≡ Some (Run form turns)

-- whether what is asked for is a recording
abbrev pub is_recorded : Form → Bool
is_recorded Source = false
is_recorded Written = false
is_recorded Recorded = true
is_recorded (Generated number) = false

abbrev pub is_recording : Option Task → Bool
is_recording None = false
is_recording (Some Translate) = false
is_recording (Some (Run form turns)) = is_recorded form

-- Whether an ending is told by its last line, if it has one. That of a recording that came to its end isn't: its transcript
-- stands alone.
abbrev pub is_told : List (String Allocator) → Ending → Bool
is_told words ending = not (is_whole ending && is_recording (task words))

-- the last line of a call
abbrev pub line_for : List (String Allocator) → Ending → List ℕ
line_for words ending = if is_told words ending then last_line ending else []
