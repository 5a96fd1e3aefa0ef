-- What the phases before the statements answer.
use Rattle.std.proofs.Common.{◌≡◌, ◌≤◌, ◌<◌, ℕ, suc, ◌+◌, ◌^◌, Bool, true, false, List, [], ◌∷◌, length, Result, Ok, Err, if◌then◌else◌, ◌==◌, refl, sym, ap, ◌∙◌, subst, length-append, arith}
use Rattle.ec_base.specs.declared.fault.LimitKind.{LimitKind}
use Rattle.ec_base.specs.declared.fault.LimitKind.TheVariants.{L6}
use Rattle.ec_base.specs.declared.stop.Stop.{Stop}
use Rattle.ec_base.specs.declared.stop.Stop.TheVariants.{Refused, Limit, OutOfMemory}
use Rattle.ec_ctypes.specs.declared.text.piece.Piece.{Piece}
use Rattle.ec_ctypes.specs.declared.tree.unit.Unit.{Unit as Program}
use Rattle.ec_ctypes.specs.trees.Tokens.{TokenData}
use Rattle.ec_ctypes.specs.trees.Embedded.{EmbData}
use Rattle.ec_ctypes.specs.trees.Units.{UnitData}
use Rattle.ec_ctypes.specs.views.Units.{unit_view}
use Rattle.ec_language.specs.First.{Reads}
use Rattle.ec_language.specs.Letters.{Text, newline}
use Rattle.ec_language.specs.Line.{newlines}
use Rattle.ec_language.specs.Pieces.{Pieces, PiecesUpTo}
use Rattle.ec_language.specs.Syntax.{TreeOrStop}
use Rattle.ec_language.specs.Tokens.{Tokens}
use Rattle.ec_host_defs.specs.Statements.{statement_places, with_statements}
use Rattle.ec_phases_defs.specs.Sources.{ReadsStatements, ReadsTree}
use Rattle.ec_split.specs.Answers as split
use Rattle.ec_clex.specs.Answers as lexer
use Rattle.ec_front.specs.source.Answers.{HaveLines, Tells, seen, TreeOfPieces, TellsPieces, TellsTree}

-- ---- lines

few_newlines : (bytes : Text) → newlines bytes ≤ length bytes
few_newlines [] = omega arith
few_newlines (b ∷ bytes) = go (b == newline) (few_newlines bytes)
  where
    go : (c : Bool) → newlines bytes ≤ length bytes → (if c then 1 else 0) + newlines bytes ≤ suc (length bytes)
    go true h = omega (arith, h)
    go false h = omega (arith, h)

lines_up_to : (line : ℕ) (text : Text) (pieces : List Piece) → line + length text < 2 ^ 32 → PiecesUpTo line text pieces [] → HaveLines pieces
lines_up_to line text [] h are = tt
lines_up_to line text (p ∷ ps) h are =
    let behind : Text = are.0 in
    let long : length text ≡ length p.bytes + length behind = ap (λ t. length t) are.1 ∙ length-append p.bytes behind in
    let few = few_newlines p.bytes in
    let at = are.2 in
    (omega (arith, h, long, at), lines_up_to (line + newlines p.bytes) behind ps (omega (arith, h, long, few)) are.4)

pub have_lines : (text : Text) (pieces : List Piece) → length text ≤ 2 ^ 24 → Pieces text pieces → HaveLines pieces
have_lines text pieces h are = lines_up_to 1 text pieces (omega (arith, h)) are

-- ---- statements

-- what statements of pieces make of a tree
statements_told : (pieces : List Piece) (ts : List TokenData) (u : UnitData) (es : Result (List EmbData) Stop) (answer : Result UnitData Stop)
    → Tokens false pieces ts → TreeOrStop ts (Ok u) → ReadsStatements pieces (statement_places ts) es → answer ≡ with_statements u es → TreeOfPieces pieces answer
statements_told pieces ts u es answer lexed derived h e = TreeOfPieces.tree ts u es answer lexed derived h e

-- the tree of tokens with the statements that were read, or why there are none
pub tree_told : {S : Type 0} (pieces : List Piece) (ts : List TokenData) (u : UnitData) (view : List S → List EmbData) (statements : Result (List S) Stop) (answer : Result Program Stop)
    → Tokens false pieces ts → TreeOrStop ts (Ok u) → Tells view (ReadsStatements pieces (statement_places ts)) statements
    → seen unit_view answer ≡ with_statements u (seen view statements) → TellsPieces pieces answer
tree_told pieces ts u view (Ok es) (Ok unit) lexed derived h e = TreeOfPieces.tree ts u (Ok (view es)) _ lexed derived h e
tree_told pieces ts u view (Ok es) (Err stop) lexed derived h e = absurd (cc (e))
tree_told pieces ts u view (Err stop) (Ok unit) lexed derived h e = absurd (cc (e))
tree_told pieces ts u view (Err stop) (Err other) lexed derived h e = go stop other h (let k : ◌≡◌ {A = Result UnitData Stop} (Err other) (Err stop) = e in cc)
  where
    go : (stop other : Stop) → Tells view (ReadsStatements pieces (statement_places ts)) (Err stop) → other ≡ stop → TellsPieces pieces (Err other)
    go (Refused kind line) other h same = subst (λ s. TellsPieces pieces (Err s)) (sym same) (TreeOfPieces.tree ts u (Err (Refused kind line)) _ lexed derived h refl)
    go (Limit limit) other h same = subst (λ s. TellsPieces pieces (Err s)) (sym same) (TreeOfPieces.tree ts u (Err (Limit limit)) _ lexed derived h refl)
    go OutOfMemory other h same = subst (λ s. TellsPieces pieces (Err s)) (sym same) tt

-- where tokens have no tree
pub no_tree_told : (pieces : List Piece) (ts : List TokenData) (stop : Stop) → Tokens false pieces ts
    → ((told : Stop) → ◌≡◌ {A = Result Program Stop} (Err stop) (Err told) → (told ≡ OutOfMemory → ⊥) → TreeOrStop ts (Err told)) → TellsPieces pieces (Err stop)
no_tree_told pieces ts (Refused kind line) lexed stops = TreeOfPieces.no_tree ts _ lexed (stops _ refl (λ p. cc p))
no_tree_told pieces ts (Limit limit) lexed stops = TreeOfPieces.no_tree ts _ lexed (stops _ refl (λ p. cc p))
no_tree_told pieces ts OutOfMemory lexed stops = tt

-- where pieces have no tokens
pub no_tokens_told : (pieces : List Piece) (stop : Stop) → lexer.TellsStop false pieces (Err stop) → TellsPieces pieces (Err stop)
no_tokens_told pieces (Refused kind line) tells = TreeOfPieces.no_tokens _ (tells _ refl (λ p. cc p))
no_tokens_told pieces (Limit limit) tells = TreeOfPieces.no_tokens _ (tells _ refl (λ p. cc p))
no_tokens_told pieces OutOfMemory tells = tt

-- ---- texts

-- what the splitter answers where it stops
abbrev stopped : Stop → Result (List Piece) Stop
stopped stop = Err stop

-- where a text isn't cut into pieces
pub no_pieces_told : (text : Text) (stop : Stop) → length text ≤ 2 ^ 24 → split.FindsFault text (stopped stop)
    → ((limit : LimitKind) → stopped stop ≡ Err (Limit limit) → ⊥) → TellsTree text (Err stop)
no_pieces_told text (Refused kind line) small fault none = ReadsTree.refused _ (Reads.unclosed kind line.0 small (fault kind line.0 refl))
no_pieces_told text (Limit limit) small fault none = absurd (none limit refl)
no_pieces_told text OutOfMemory small fault none = tt

module _ (text : Text) (pieces : List Piece) (small : length text ≤ 2 ^ 24) (cut : Pieces text pieces) where
  of_pieces : (answer : Result UnitData Stop) → TreeOfPieces pieces answer → ReadsTree text answer
  of_pieces _ (TreeOfPieces.no_tokens stop t) = ReadsTree.refused stop (Reads.no_tokens pieces stop small cut t)
  of_pieces _ (TreeOfPieces.no_tree ts stop lexed derived) = ReadsTree.refused stop (Reads.tokens pieces ts (Err stop) small cut lexed derived)
  of_pieces answer (TreeOfPieces.tree ts u es _ lexed derived h e) = ReadsTree.statements pieces ts u es answer small cut lexed derived h e

  -- what the pieces of a text are read as
  pub pieces_told : (answer : Result Program Stop) → TellsPieces pieces answer → TellsTree text answer
  pieces_told (Ok unit) told = of_pieces _ told
  pieces_told (Err (Refused kind line)) told = of_pieces _ told
  pieces_told (Err (Limit limit)) told = of_pieces _ told
  pieces_told (Err OutOfMemory) told = tt

pub too_long_told : (text : Text) → 2 ^ 24 < length text → TellsTree text (Err (Limit L6))
too_long_told text h = ReadsTree.refused _ (Reads.too_long h)

-- ---- one answer

-- what is told of something that has one answer is that answer
pub only : {A B : Type 0} (view : A → B) (P : Result B Stop → Type 0) (one : (a b : Result B Stop) → P a → P b → a ≡ b)
    (answer : Result A Stop) → Tells view P answer → (wanted : Result B Stop) → P wanted → Tells view (λ told. told ≡ wanted) answer
only view P one (Ok a) told wanted h = one _ _ told h
only view P one (Err (Refused kind line)) told wanted h = one _ _ told h
only view P one (Err (Limit limit)) told wanted h = one _ _ told h
only view P one (Err OutOfMemory) told wanted h = tt
