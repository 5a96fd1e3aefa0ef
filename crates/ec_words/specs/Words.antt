-- What the words behind the program's name ask for.
--
-- The first word is the command's. Behind it stand options and other words, in any order. An option's value is the
-- next word, or joined to it by `=`. The first `--` is passed over, and no word behind it is an option.
--
-- First stands what each word is, the value of an option or no option (`parts`); then what is asked by that (`asked`).
use Rattle.std.specs.Prelude.{ℕ, suc, ◌+◌, ◌-◌, ◌*◌, ◌==◌, nat_le, nat_eq, Bool, true, false, not, ◌&&◌, if◌then◌else◌, List, [], ◌∷◌, ◌++◌, codes, take, drop, Option, Some, None, option_and_then, option_map, position}
use Rattle.std.specs.List.{before_first, after_first, list_any, list_all}
use Rattle.std.specs.Char.{is_ascii_digit}
use Rattle.std.specs.Cmp.Lexicographic.{pointwise}
use Rattle.ec_words.specs.declared.links.LinkSpec.{LinkSpec}
use Rattle.ec_words.specs.declared.links.LinkSpec.TheVariants.{Memory, File, Replay}
use Rattle.ec_words.specs.declared.words.RunWords.{RunWords}
use Rattle.ec_words.specs.declared.words.GenWords.{GenWords}
use Rattle.ec_words.specs.declared.words.Command.{Command}
use Rattle.ec_words.specs.declared.words.Command.TheVariants.{Translate, Exec, Run, Record, Gen}

abbrev pub Word : Type 0
Word = List ℕ

-- the word is that one
abbrev pub is_word : Word → Word → Bool
is_word word it = pointwise nat_eq word it

-- what stands behind that front of a text, if it has it
abbrev pub text_behind : List ℕ → List ℕ → Option (List ℕ)
text_behind [] text = Some text
text_behind (b ∷ front) [] = None
text_behind (b ∷ front) (c ∷ text) = if b == c then text_behind front text else None

-- ---- what stands in words

-- what a word is: the value of an option, a word that is no option, or an option that isn't there or has no value
pub data Part : Type 0 where
  unknown : Part
  turns_text : Word → Part
  replay_text : Word → Part
  plain_text : Word → Part

-- what a word may be: an option or another word, the value of the option before it, or, behind `--`, no option
pub data Expected : Type 0 where
  anything : Expected
  turns_value : Expected
  replay_value : Expected
  no_option : Expected

abbrev pub Read : Type 0
Read = Option Part × Expected

-- a word behind a first `-`
abbrev pub behind_dash : Word → Option Word
behind_dash [] = None
behind_dash (b ∷ word) = if b == 45 then Some word else None

-- the name of an option and the value that is joined to it by the first `=`
abbrev pub is_equals : ℕ → Bool
is_equals b = b == 61

abbrev pub name_and_value : Word → Word × Option Word
name_and_value text = (
  before_first is_equals text,
  if list_any is_equals text then Some (after_first is_equals text) else None,
)

abbrev pub long_behind : Word → Option (Word × Option Word)
long_behind [] = None
long_behind (b ∷ text) = Some (name_and_value (b ∷ text))

-- `--NAME` and `--NAME=VALUE`
abbrev pub long_of : Word → Option (Word × Option Word)
long_of word = option_and_then long_behind (option_and_then behind_dash (behind_dash word))

abbrev pub short_behind : Word → Option Word
short_behind [] = None
short_behind (b ∷ text) = if b == 45 then None else Some (b ∷ text)

-- `-x`, which no option is
abbrev pub short_of : Word → Option Word
short_of word = option_and_then short_behind (behind_dash word)

-- the options that there are, by whether the name is that of the first and that of the second
abbrev pub option_part : Bool → Bool → Option Word → Read
option_part true is_replay None = (None, turns_value)
option_part true is_replay (Some text) = (Some (turns_text text), anything)
option_part false true None = (None, replay_value)
option_part false true (Some text) = (Some (replay_text text), anything)
option_part false false text = (Some unknown, anything)

abbrev pub long_part : Word × Option Word → Read
long_part p = option_part (is_word (codes "turns") p.0) (is_word (codes "replay") p.0) p.1

abbrev pub other_part : Option Word → Word → Read
other_part None word = (Some (plain_text word), anything)
other_part (Some flags) word = (Some unknown, anything)

abbrev pub open_part : Option (Word × Option Word) → Option Word → Word → Read
open_part (Some p) short word = long_part p
open_part None short word = other_part short word

-- what a word is, and what the next one may be
abbrev pub reads : Expected → Word → Read
reads anything word = if is_word word (codes "--") then (None, no_option)
    else open_part (long_of word) (short_of word) word
reads turns_value word = (Some (turns_text word), anything)
reads replay_value word = (Some (replay_text word), anything)
reads no_option word = (Some (plain_text word), no_option)

-- at the end a value may be missing
abbrev pub at_end : Expected → List Part
at_end anything = []
at_end no_option = []
at_end _ = unknown ∷ []

abbrev pub with_part : Option Part → List Part → List Part
with_part None more = more
with_part (Some it) more = it ∷ more

-- what stands in the words
abbrev pub parts : Expected → List Word → List Part
parts it [] = at_end it
parts it (word ∷ words) = with_part (reads it word).0 (parts (reads it word).1 words)

abbrev pub turns_in : List Part → List Word
turns_in [] = []
turns_in (turns_text t ∷ more) = t ∷ turns_in more
turns_in (_ ∷ more) = turns_in more

abbrev pub replays_in : List Part → List Word
replays_in [] = []
replays_in (replay_text t ∷ more) = t ∷ replays_in more
replays_in (_ ∷ more) = replays_in more

abbrev pub plain_in : List Part → List Word
plain_in [] = []
plain_in (plain_text t ∷ more) = t ∷ plain_in more
plain_in (_ ∷ more) = plain_in more

-- A value that begins with `-` is neither a number nor a path, so nothing is asked by it. A part is fair where it is no
-- such value and no unknown option.
abbrev pub is_dashed : Word → Bool
is_dashed [] = false
is_dashed (b ∷ word) = b == 45

abbrev pub is_fair : Part → Bool
is_fair unknown = false
is_fair (turns_text t) = not (is_dashed t)
is_fair (replay_text t) = not (is_dashed t)
is_fair (plain_text t) = true

abbrev pub is_known : Part → Bool
is_known unknown = false
is_known _ = true

abbrev pub all_known : List Part → Bool
all_known = list_all is_known

abbrev pub all_fair : List Part → Bool
all_fair = list_all is_fair

-- whether a word is the option of a transcript, alone or with its value
abbrev pub is_replay : Option Word → Bool
is_replay None = false
is_replay (Some text) = is_word (codes "replay") (before_first is_equals text)

abbrev pub names_replay : Word → Bool
names_replay word = is_replay (option_and_then behind_dash (behind_dash word))

-- how many words stand before that option
abbrev pub replay_at : List Word → ℕ
replay_at [] = 0
replay_at (word ∷ words) = if names_replay word then 0 else suc (replay_at words)

-- what stands in the words behind the command's
abbrev pub parts_behind : List Word → List Part
parts_behind words = parts anything (drop 1 words)

-- what stands in the words behind the command's and before that option
abbrev pub words_before : List Word → List Part
words_before words = parts anything (take (replay_at (drop 1 words)) (drop 1 words))

-- how many words that are no options stand before the transcript
abbrev pub before_replay : List Part → ℕ
before_replay [] = 0
before_replay (replay_text t ∷ more) = 0
before_replay (plain_text t ∷ more) = suc (before_replay more)
before_replay (_ ∷ more) = before_replay more

-- ---- numbers

-- The number of a text of decimal digits, which go on a number, where it and each number before it is at most `most`.
-- (A number never falls by a further digit.)
abbrev pub number_from : ℕ → ℕ → List ℕ → Option ℕ
number_from most n [] = Some n
number_from most n (d ∷ digits) =
    if is_ascii_digit d && nat_le (10 * n + (d - 48)) most
    then number_from most (10 * n + (d - 48)) digits else None

-- the number of one or more decimal digits
abbrev pub number_of : ℕ → List ℕ → Option ℕ
number_of most [] = None
number_of most (d ∷ digits) = number_from most 0 (d ∷ digits)

abbrev pub most_turns : ℕ
most_turns = 1000000000

abbrev pub usual_turns : ℕ
usual_turns = 1000000

abbrev pub most_programs : ℕ
most_programs = 4294967295

-- the turns of a run, where the option stands at most once
abbrev pub turns_by : List Word → Option ℕ
turns_by [] = Some usual_turns
turns_by (t ∷ []) = number_of most_turns t
turns_by (t ∷ u ∷ more) = None

-- ---- links

-- what stands behind the name and the `=` of a link: `memory`, or `file:` and a path of one or more bytes
abbrev pub file_of : Bool → Word → Option (List ℕ) → Option LinkSpec
file_of ready target None = None
file_of ready target (Some []) = None
file_of ready target (Some (b ∷ path)) = Some (File ready target (b ∷ path))

abbrev pub place_of : Bool → Word → List ℕ → Option LinkSpec
place_of ready target place =
    if is_word place (codes "memory") then Some (Memory ready target)
    else file_of ready target (text_behind (codes "file:") place)

-- the name, which is one or more bytes without `=`, and what stands behind it
abbrev pub named_link : Bool → Word → List ℕ → Option LinkSpec
named_link ready [] place = None
named_link ready (b ∷ name) place = place_of ready (b ∷ name) place

abbrev pub unmarked_link : Bool → Word → Option LinkSpec
unmarked_link ready word = option_and_then
    (λ n. named_link ready (take n word) (drop (n + 1) word)) (position is_equals word)

-- The link that a word names: `NAME=memory` or `NAME=file:PATH`, with `+` before it for a connection that is ready at
-- the start. A `+` at the head is always this mark. No such word begins with `-`.
abbrev pub link_of : Word → Option LinkSpec
link_of [] = None
link_of (b ∷ word) = if b == 45 then None
    else (if b == 43 then unmarked_link true word else unmarked_link false (b ∷ word))

-- the transcript at a path of one or more bytes that doesn't begin with `-`
abbrev pub transcript_of : Word → Option LinkSpec
transcript_of [] = None
transcript_of (b ∷ path) = if b == 45 then None else Some (Replay (b ∷ path))

-- one more place, if it is one
abbrev pub place_then : Option LinkSpec → Option (List LinkSpec) → Option (List LinkSpec)
place_then None more = None
place_then (Some it) None = None
place_then (Some it) (Some more) = Some (it ∷ more)

-- the LINK and replay words, in order
abbrev pub places_of : List Part → Option (List LinkSpec)
places_of [] = Some []
places_of (unknown ∷ more) = None
places_of (turns_text t ∷ more) = places_of more
places_of (replay_text t ∷ more) = place_then (transcript_of t) (places_of more)
places_of (plain_text t ∷ more) = place_then (link_of t) (places_of more)

-- ---- commands

abbrev pub at_most_one : List Word → Bool
at_most_one [] = true
at_most_one (t ∷ []) = true
at_most_one (t ∷ u ∷ more) = false

-- the links of words that are no options
abbrev pub links_by : List Word → Option (List LinkSpec)
links_by [] = Some []
links_by (t ∷ more) = place_then (link_of t) (links_by more)

-- links and those that follow
abbrev pub links_then : Option (List LinkSpec) → Option (List LinkSpec) → Option (List LinkSpec)
links_then None more = None
links_then (Some links) None = None
links_then (Some links) (Some more) = Some (links ++ more)

-- the links of words of which so many stand before the transcript, if there is one
abbrev pub places_by : List Word → List Word → ℕ → Option (List LinkSpec)
places_by [] plain before = links_by plain
places_by (t ∷ u ∷ more) plain before = None
places_by (t ∷ []) plain before = links_then (links_by (take before plain))
    (place_then (transcript_of t) (links_by (drop before plain)))

abbrev pub run_with : Option ℕ → Bool → Option (List LinkSpec) → Option RunWords
run_with (Some turns) true (Some links) = Some (record { turns = turns; links = links })
run_with _ _ _ = None

-- what a run is asked for by the texts of its words
abbrev pub run_by : List Word → List Word → List Word → ℕ → Option RunWords
run_by turns replay plain before =
    run_with (turns_by turns) (at_most_one replay) (places_by replay plain before)

-- what a run is asked for: each option stands at most once
abbrev pub run_of : List Part → Option RunWords
run_of ps = run_with (turns_by (turns_in ps)) (at_most_one (replays_in ps)) (places_of ps)

abbrev pub gen_with : Option ℕ → Option (List LinkSpec) → Option GenWords
gen_with (Some (suc n)) (Some links) = Some (record { number = suc n; links = links })
gen_with _ _ = None

abbrev pub gen_by : List Word → List Word → List Word → Option GenWords
gen_by [] [] (n ∷ plain) = gen_with (number_of most_programs n) (links_by plain)
gen_by _ _ _ = None

-- what a generated program is asked for: its number stands before its links, and it has no option
abbrev pub gen_of : List Part → Option GenWords
gen_of ps = if all_known ps then gen_by (turns_in ps) (replays_in ps) (plain_in ps) else None

-- nothing but a `--` stands behind it
abbrev pub translate_of : List Part → Option Command
translate_of [] = Some Translate
translate_of (it ∷ more) = None

abbrev pub command_of : Word → List Part → Option Command
command_of word ps =
    if is_word word (codes "translate") then translate_of ps
    else (if is_word word (codes "exec") then option_map Exec (run_of ps)
    else (if is_word word (codes "run") then option_map Run (run_of ps)
    else (if is_word word (codes "record") then option_map Record (run_of ps)
    else (if is_word word (codes "gen") then option_map Gen (gen_of ps)
    else None))))

-- the command that the words name, or none
abbrev pub asked : List Word → Option Command
asked [] = None
asked (word ∷ words) = command_of word (parts anything words)
