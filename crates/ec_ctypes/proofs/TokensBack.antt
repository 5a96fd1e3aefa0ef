-- Tokens from their data.
use Rattle.std.proofs.Common.{◌≡◌, refl, List, map}
use Rattle.ec_ctypes.specs.declared.text.token.Tok.{Tok}
use Rattle.ec_ctypes.specs.declared.text.token.Tok.TheVariants as tok
use Rattle.ec_ctypes.specs.declared.text.token.Token.{Token}
use Rattle.ec_ctypes.specs.trees.Tokens.{TokData, word_token, integer_token, character_token, string_token, punct_token, include_token, emb_token, section_start, section_end, end_token, TokenData}
use Rattle.ec_ctypes.specs.views.Tokens.{tok_view, token_view, tokens_view}
use Rattle.ec_ctypes.proofs.Undone.{map_undone, undone_same}
use Rattle.ec_ctypes.proofs.TypesBack.{ty_back, ty_undone}

-- the token that has this data, and that the data has no other
abbrev pub tok_back : TokData → Tok
tok_back (word_token w) = tok.Word w
tok_back (integer_token n t) = tok.Int n (ty_back t)
tok_back (character_token c) = tok.Char c
tok_back (string_token s) = tok.Str s
tok_back (punct_token p) = tok.Punct p
tok_back (include_token b) = tok.Include b
tok_back (emb_token n executable) = tok.Emb n executable
tok_back section_start = tok.SectionStart
tok_back section_end = tok.SectionEnd
tok_back end_token = tok.End

pub tok_undone : (t : Tok) → tok_back (tok_view t) ≡ t
tok_undone (tok.Word w) = refl
tok_undone (tok.Int n t) = λ i. tok.Int n (ty_undone t i)
tok_undone (tok.Char c) = refl
tok_undone (tok.Str s) = refl
tok_undone (tok.Punct p) = refl
tok_undone (tok.Include b) = refl
tok_undone (tok.Emb n executable) = refl
tok_undone tok.SectionStart = refl
tok_undone tok.SectionEnd = refl
tok_undone tok.End = refl

abbrev pub token_back : TokenData → Token
token_back t = record { tok = tok_back t.tok; line = t.line; place = t.place }

pub token_undone : (t : Token) → token_back (token_view t) ≡ t
token_undone t = λ i. record { tok = tok_undone t.tok i; line = t.line; place = t.place }

-- where two have one view, they are one
pub same_tok : (a : Tok) → (b : Tok) → tok_view a ≡ tok_view b → a ≡ b
same_tok = undone_same tok_view tok_back tok_undone

pub same_token : (a : Token) → (b : Token) → token_view a ≡ token_view b → a ≡ b
same_token = undone_same token_view token_back token_undone

pub same_tokens : (a : List Token) → (b : List Token) → tokens_view a ≡ tokens_view b → a ≡ b
same_tokens = undone_same tokens_view (map token_back) (map_undone token_view token_back token_undone)
