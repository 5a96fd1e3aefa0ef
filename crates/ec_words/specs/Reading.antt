-- What the code keeps of the words, and what it stands for.
use Rattle.std.specs.Prelude.{◌≡◌, ℕ, Bool, true, List, [], codes, Option, Some, None, map, unwrap_or, option_map}
use Rattle.clap.specs.Words.{found_of, matched_of, raw_values}
use Rattle.clap.specs.declared.parser.matches.ArgMatches.{ArgMatches}
use Rattle.ec_words.specs.declared.links.LinkSpec.{LinkSpec}
use Rattle.ec_words.specs.declared.links.LinkSpec.TheVariants.{Memory, File}
use Rattle.ec_words.specs.declared.links.LinkWord.{LinkWord}
use Rattle.ec_words.specs.declared.words.Texts.{Texts}
use Rattle.ec_words.specs.Words.{Word, Part, all_known, turns_in, replays_in, plain_in}

-- the link of a word
abbrev pub spec_by : Bool → List ℕ → Option (List ℕ) → LinkSpec
spec_by ready target None = Memory ready target
spec_by ready target (Some path) = File ready target path

-- what a text that may be there holds
abbrev pub told : {A B : Type 0} → (A → B) → Option A → Option B
told f None = None
told f (Some a) = Some (f a)

abbrev pub spec_of : LinkWord → LinkSpec
spec_of w = spec_by w.is_ready w.target.now (told (λ it. it.now) w.path)

-- the texts of an argument
abbrev pub texts_found : ArgMatches → List ℕ → List Word
texts_found m id = unwrap_or (option_map raw_values (matched_of (found_of m) id)) []

-- what was found is what stands in the words
pub record Holds (m : ArgMatches) (ps : List Part) : Type 0 where
  pub known : all_known ps ≡ true
  pub turns : texts_found m (codes "turns") ≡ turns_in ps
  pub replays : texts_found m (codes "replay") ≡ replays_in ps
  pub plain : texts_found m (codes "plain") ≡ plain_in ps

-- the same, of the texts taken out
pub record HasTexts (texts : Texts) (ps : List Part) : Type 0 where
  pub known : all_known ps ≡ true
  pub turns : map (λ t. t.now) texts.turns.items ≡ turns_in ps
  pub replays : map (λ t. t.now) texts.replay.items ≡ replays_in ps
  pub plain : map (λ t. t.now) texts.plain.items ≡ plain_in ps
