-- What holds of trees that are read as written C.
use Rattle.std.specs.Prelude.{◌≡◌, ℕ, true, List, Ok}
use Rattle.ec_ctypes.specs.trees.Exprs.{DeclData}
use Rattle.ec_ctypes.specs.trees.Stmts.{StmtList}
use Rattle.ec_ctypes.specs.declared.text.piece.Piece.{Piece}
use Rattle.ec_ctypes.specs.trees.Tokens.{TokenData}
use Rattle.ec_ctypes.specs.trees.Units.{TopData, UnitData}
use Rattle.ec_language.specs.Syntax.{TreeOrStop}
use Rattle.ec_language.specs.Tokens.{Tokens}
use Rattle.ec_host_defs.specs.sections.Answers.{hosts_answer}
use Rattle.ec_sim_program_laws.specs.types.Flat.{TopsAreFlat}
use Rattle.ec_sim_program_laws.proofs.types_lemmas.Fits.{FitTops}
use Rattle.ec_sound_program_laws.specs.Plain.{DeclIsPlain, StmtsArePlain, TopsArePlain}
use Rattle.ec_sound_text_laws.specs.Read.{are_read_tokens, ReadDecl, ReadStmts, ReadTops}

abbrev pub TreesAreRead : Type 0
TreesAreRead = (ts : List TokenData) (u : UnitData) → are_read_tokens ts ≡ true
    → TreeOrStop ts (Ok u) → ReadTops u.tops

abbrev pub TokensAreRead : Type 0
TokensAreRead = (pieces : List Piece) (ts : List TokenData) → Tokens true pieces ts
    → are_read_tokens ts ≡ true

abbrev pub DeclarationsArePlain : Type 0
DeclarationsArePlain = (d : DeclData) → ReadDecl d → DeclIsPlain d

abbrev pub StatementsArePlain : Type 0
StatementsArePlain = (ss : StmtList) → ReadStmts ss → StmtsArePlain ss

abbrev pub TopsThatAreReadArePlain : Type 0
TopsThatAreReadArePlain = (ts : List TopData) → ReadTops ts → TopsArePlain ts

-- where the phase of declare sections finds no fault
abbrev pub ProgramsFit : Type 0
ProgramsFit = (u : UnitData) (hosts : List ℕ) → hosts_answer u ≡ Ok hosts → ReadTops u.tops
    → TopsAreFlat u.tops → FitTops u.tops
