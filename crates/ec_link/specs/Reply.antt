-- What a reply says.
use Rattle.std.specs.Prelude.{Bool, true, false}
use Rattle.ec_link.specs.declared.reply.Reply.{Reply}
use Rattle.ec_link.specs.declared.reply.Reply.TheVariants.{Connected, Broken}

-- whether the connection is open
abbrev pub is_connected : Reply → Bool
is_connected Connected = true
is_connected _ = false

-- whether the connection broke
abbrev pub is_broken : Reply → Bool
is_broken Broken = true
is_broken _ = false
