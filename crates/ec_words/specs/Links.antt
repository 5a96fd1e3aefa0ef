-- The links that words name.
use Rattle.std.specs.Prelude.{List, [], Option, Some, None}
use Rattle.ec_words.specs.declared.links.LinkSpec.{LinkSpec}
use Rattle.ec_words.specs.declared.words.Command.{Command}
use Rattle.ec_words.specs.declared.words.Command.TheVariants.{Translate, Exec, Run, Record, Gen}

-- the links that a command names, in order
abbrev pub links_in : Command → List LinkSpec
links_in Translate = []
links_in (Exec run) = run.links
links_in (Run run) = run.links
links_in (Record run) = run.links
links_in (Gen gen) = gen.links

-- those of the command that the words name, and none where they name none
abbrev pub links_of : Option Command → List LinkSpec
links_of None = []
links_of (Some it) = links_in it
