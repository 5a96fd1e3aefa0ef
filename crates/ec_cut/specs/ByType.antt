-- What is known of a pointer by its type alone.
use Rattle.std.specs.Prelude.{Bool}

-- whether it leads to characters
abbrev pub itself : Bool → Bool
itself leads = leads
