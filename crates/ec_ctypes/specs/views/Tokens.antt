-- The data of tokens.
use Rattle.std.specs.Prelude.{List, map}
use Rattle.ec_ctypes.specs.declared.text.token.Tok.{Tok}
use Rattle.ec_ctypes.specs.declared.text.token.Tok.TheVariants as tok
use Rattle.ec_ctypes.specs.declared.text.token.Token.{Token}
use Rattle.ec_ctypes.specs.trees.Tokens.{TokData, word_token, integer_token, character_token, string_token, punct_token, include_token, emb_token, section_start, section_end, end_token, TokenData}
use Rattle.ec_ctypes.specs.views.Types.{ty_view}

abbrev pub tok_view : Tok → TokData
tok_view (tok.Word w) = word_token w
tok_view (tok.Int n t) = integer_token n (ty_view t)
tok_view (tok.Char c) = character_token c
tok_view (tok.Str s) = string_token s
tok_view (tok.Punct p) = punct_token p
tok_view (tok.Include b) = include_token b
tok_view (tok.Emb n executable) = emb_token n executable
tok_view tok.SectionStart = section_start
tok_view tok.SectionEnd = section_end
tok_view tok.End = end_token

abbrev pub token_view : Token → TokenData
token_view t = record { tok = tok_view t.tok; line = t.line; place = t.place }

abbrev pub tokens_view : List Token → List TokenData
tokens_view = map token_view
