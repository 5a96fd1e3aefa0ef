-- Each text has a tree, or something in it is refused.
use Rattle.std.proofs.Common.{◌≡◌, ◌≤◌, ℕ, Bool, true, false, List, length, nat_lt, Result, Ok, Err, refl, subst}
use Rattle.std.proofs.lemmas.Bool.{ltb-true, ltb-false}
use Rattle.ec_base.specs.declared.fault.FaultKind.{FaultKind}
use Rattle.ec_base.specs.declared.fault.LimitKind.TheVariants.{L6}
use Rattle.ec_base.specs.declared.stop.Stop.{Stop}
use Rattle.ec_base.specs.declared.stop.Stop.TheVariants.{Refused, Limit}
use Rattle.ec_ctypes.specs.declared.text.piece.Piece.{Piece}
use Rattle.ec_ctypes.specs.trees.Tokens.{TokenData}
use Rattle.ec_ctypes.specs.trees.Units.{UnitData}
use Rattle.ec_language.specs.Letters.{Text}
use Rattle.ec_language.specs.Pieces.{Pieces}
use Rattle.ec_language.specs.Tokens.{TokensOrStop}
use Rattle.ec_language.specs.First.{Reads, too_long, unclosed, no_tokens, tokens, max_text}
use Rattle.ec_language.specs.ReadPieces.{read_pieces}
use Rattle.ec_language.specs.ReadTokens.{read_tokens}
use Rattle.ec_language.specs.ReadText.{read_text}
use Rattle.ec_language.specs.SyntaxAnswer.{read_syntax}
use Rattle.ec_language.proofs.LastToken.{OkEndsOnce, tokens_end_once}
use Rattle.ec_language.proofs.PieceParts.{tokens_sound}
use Rattle.ec_language.proofs.ReadLaws.{pieces_back, faults_back}
use Rattle.ec_language.proofs.SyntaxAnswers.{answered}

abbrev Answer : Type 0
Answer = Result UnitData Stop

from_tokens : (written : Bool) (text : Text) → length text ≤ max_text → (pieces : List Piece) → Pieces text pieces → (r : Result (List TokenData) Stop)
    → TokensOrStop written pieces r → OkEndsOnce r → Reads written text (elim r [ Err stop ↦ Err stop | Ok ts ↦ read_syntax ts ])
from_tokens written text fits pieces are (Err stop) is once = no_tokens pieces stop fits are is
from_tokens written text fits pieces are (Ok ts) is once = tokens pieces ts (read_syntax ts) fits are is (answered ts once)

from_pieces : (written : Bool) (text : Text) → length text ≤ max_text → (r : Result (List Piece) (FaultKind × ℕ)) → read_pieces text ≡ r
    → Reads written text (elim r [
      | Err fault ↦ Err (Refused fault.0 (record { 0 = fault.1 }))
      | Ok pieces ↦ elim (read_tokens written pieces) [ Err stop ↦ Err stop | Ok ts ↦ read_syntax ts ]
    ])
from_pieces written text fits (Err fault) is = unclosed fault.0 fault.1 fits (faults_back text fault.0 fault.1 is)
from_pieces written text fits (Ok pieces) is =
    let are = pieces_back text pieces is in
    from_tokens written text fits pieces are (read_tokens written pieces) (tokens_sound written text pieces are) (tokens_end_once written pieces)

from_length : (written : Bool) (text : Text) (t : Bool) → nat_lt max_text (length text) ≡ t
    → Reads written text (elim t [
      | true ↦ Err (Limit L6)
      | false ↦
          elim (read_pieces text) [
            | Err fault ↦ Err (Refused fault.0 (record { 0 = fault.1 }))
            | Ok pieces ↦ elim (read_tokens written pieces) [ Err stop ↦ Err stop | Ok ts ↦ read_syntax ts ]
          ]
    ])
from_length written text true is = too_long (ltb-true max_text (length text) is)
from_length written text false is = from_pieces written text (ltb-false max_text (length text) is) (read_pieces text) refl

pub text_reads : (written : Bool) (text : Text) → Reads written text (read_text written text)
text_reads written text = from_length written text (nat_lt max_text (length text)) refl

-- a row: what a text is computed to be
pub text_is : {written : Bool} {text : Text} {answer : Answer} → read_text written text ≡ answer → Reads written text answer
text_is {written} {text} {answer} same = subst (Reads written text) same (text_reads written text)
