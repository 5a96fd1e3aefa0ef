-- Tokens, as plain data.
use Rattle.std.specs.Prelude.{ℕ, ℤ, Bool, List}
use Rattle.ec_base.specs.declared.line.Line.{Line}
use Rattle.ec_ctypes.specs.declared.text.token.Punct.{Punct}
use Rattle.ec_ctypes.specs.trees.Types.{TyData}

pub data TokData : Type 0 where
  word_token : List ℕ → TokData
  -- an integer constant: its value and its type
  integer_token : ℕ → TyData → TokData
  character_token : ℤ → TokData
  string_token : List ℕ → TokData
  punct_token : Punct → TokData
  -- the bytes of an `#include` line
  include_token : List ℕ → TokData
  -- an embedded statement: its number, and whether it is executable
  emb_token : ℕ → Bool → TokData
  section_start : TokData
  section_end : TokData
  end_token : TokData

-- a token, with its line and how many stand before it
pub record TokenData : Type 0 where
  pub tok : TokData
  pub line : Line
  pub place : ℕ
