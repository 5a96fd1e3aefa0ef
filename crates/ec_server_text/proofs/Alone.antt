-- What is written where no part is done yet.
use Rattle.std.proofs.Common.{◌≡◌, List, [], ◌∷◌, refl, sym, ap, ◌∙◌}
use Rattle.ec_ctypes.specs.trees.Embedded.{PartData}
use Rattle.ec_language.specs.Letters.{Text}
use Rattle.ec_embedded.specs.ServerText.{bytes_in}
use Rattle.ec_server_text.specs.Readers.{with_bytes}

alone : (bytes : Text) → bytes_in (with_bytes [] bytes) ≡ bytes
alone [] = refl
alone (b ∷ bytes) = refl

pub only_bytes : (parts : List PartData) (bytes : Text) → parts ≡ [] → bytes ≡ bytes_in (with_bytes parts bytes)
only_bytes parts bytes e = sym (ap (λ ps. bytes_in (with_bytes ps bytes)) e ∙ alone bytes)
