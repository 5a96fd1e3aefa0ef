-- What a link tells that tells no talk.
use Rattle.std.specs.Prelude.{Option, None}
use Rattle.ec_link.specs.Logged.{Talk}

abbrev pub untold : Option Talk
untold = None
