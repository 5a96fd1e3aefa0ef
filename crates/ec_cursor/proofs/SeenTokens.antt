-- The tokens of a cursor, as the plain reading has them.
use Rattle.std.proofs.Common.{◌≡◌, Bool, List, [], ◌∷◌, length, refl, ap, suc}
use Rattle.ec_ctypes.specs.declared.text.token.Token.{Token}
use Rattle.ec_ctypes.specs.views.Tokens.{tok_view, tokens_view}
use Rattle.ec_language.specs.Productions.{placed_from, section_behind}

pub placed_length : (section : Bool) (ts : List Token) → length (placed_from section (tokens_view ts)) ≡ length ts
placed_length section [] = refl
placed_length section (t ∷ ts) = ap suc (placed_length (section_behind section (tok_view t.tok)) ts)
