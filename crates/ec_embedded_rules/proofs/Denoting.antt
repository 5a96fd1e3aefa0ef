-- What names denote, one after the other.
use Rattle.std.proofs.Common.{◌≡◌, ◌∙◌, Option, List, ◌++◌, ℕ, ap, sym, append_assoc}
use Rattle.std.proofs.lemmas.List.{map-append}
use Rattle.ec_language.specs.Letters.{Text}
use Rattle.ec_typing_defs.specs.Worlds.{World, look_up}
use Rattle.ec_typing_defs.specs.Embedded.{denoted_by, denoted_in}

-- first these, then those
pub denoted_both : (w : World) (ns : List (Option ℕ)) (a b : List Text) → (ns ++ denoted_in w a) ++ denoted_in w b ≡ ns ++ denoted_in w (a ++ b)
denoted_both w ns a b = append_assoc ns (denoted_in w a) (denoted_in w b) ∙ ap (λ l. ns ++ l) (sym (map-append (λ x. denoted_by (look_up x w)) a b))

pub ruleset denoting = (denoted_both)
