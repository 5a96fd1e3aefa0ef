-- The table of the words of C that are left out.
use Rattle.std.proofs.Common.{◌≡◌, false, List, [], ◌∷◌, length, refl}
use Rattle.std.specs.Prelude.{codes, ◌==◌}
use Rattle.ec_language.specs.Letters.{Text, same_text}
use Rattle.ec_language.specs.Keywords.{left_out_words}
use Rattle.ec_language.specs.Tokens.{is_left_out_word}
use Rattle.ec_split.specs.WordTables.{word_in}
use Rattle.ec_split.proofs.WordTables.{looked_up}

abbrev pub left_out_table : List Text
left_out_table = codes "double" ∷ [] ∷ codes "default" ∷ [] ∷ [] ∷ [] ∷ [] ∷ codes "inline" ∷ [] ∷ codes "case" ∷ codes "volatile" ∷ codes "extern" ∷ [] ∷ [] ∷ codes "restrict" ∷ [] ∷ [] ∷ codes "union" ∷ codes "typedef" ∷ codes "auto" ∷ codes "float" ∷ codes "switch" ∷ codes "register" ∷ codes "enum" ∷ []

pub left_out_word : (w : Text) → (length w == 0) ≡ false → same_text (word_in left_out_table w) w ≡ is_left_out_word w
left_out_word w e = looked_up left_out_words left_out_table (record { has_all = refl; has_only = refl }) w e
