-- The embedded statements of a source: which pieces and tokens they are, and how they are put beside its tree.
use Rattle.std.specs.Prelude.{ℕ, Bool, true, false, List, [], ◌∷◌, Result, Ok, Err}
use Rattle.ec_base.specs.declared.stop.Stop.{Stop}
use Rattle.ec_ctypes.specs.declared.text.piece.PieceKind.{PieceKind}
use Rattle.ec_ctypes.specs.declared.text.piece.PieceKind.TheVariants.{Emb}
use Rattle.ec_ctypes.specs.trees.Tokens.{emb_token, TokenData}
use Rattle.ec_ctypes.specs.trees.Embedded.{EmbData}
use Rattle.ec_ctypes.specs.trees.Units.{UnitData}

abbrev pub is_statement : PieceKind → Bool
is_statement Emb = true
is_statement _ = false

abbrev pub place_of : TokenData → List ℕ → List ℕ
place_of t ns = elim t.tok [ emb_token n executable ↦ t.place ∷ ns | _ ↦ ns ]

-- the places of the statements
abbrev pub statement_places : List TokenData → List ℕ
statement_places [] = []
statement_places (t ∷ ts) = place_of t (statement_places ts)

abbrev pub with_statement : Result EmbData Stop →
    Result (List EmbData) Stop → Result (List EmbData) Stop
with_statement (Ok e) (Ok es) = Ok (e ∷ es)
with_statement (Ok e) (Err stop) = Err stop
with_statement (Err stop) es = Err stop

abbrev pub with_statements : UnitData → Result (List EmbData) Stop → Result UnitData Stop
with_statements u (Ok es) = Ok (record u { embs = es })
with_statements u (Err stop) = Err stop
