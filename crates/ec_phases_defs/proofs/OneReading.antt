-- Each source is read in one way.
use Rattle.std.proofs.Common.{◌≡◌, ◌≤◌, ℕ, suc, Bool, true, false, List, [], ◌∷◌, length, Result, Ok, Err, refl, sym, ap, ◌∙◌, subst, arith}
use Rattle.ec_base.specs.declared.stop.Stop.{Stop}
use Rattle.ec_ctypes.specs.declared.text.piece.PieceKind.{PieceKind}
use Rattle.ec_ctypes.specs.declared.text.piece.PieceKind.TheVariants.{C, Emb, InPlace, SectionStart, SectionEnd}
use Rattle.ec_ctypes.specs.declared.text.piece.Piece.{Piece}
use Rattle.ec_ctypes.specs.trees.Tokens.{TokenData}
use Rattle.ec_ctypes.specs.trees.Embedded.{EmbData}
use Rattle.ec_ctypes.specs.trees.Checked.{TypedData}
use Rattle.ec_ctypes.specs.trees.Units.{UnitData}
use Rattle.ec_language.specs.First.{Reads, too_long, unclosed, no_tokens, tokens, max_text}
use Rattle.ec_language.specs.Letters.{Text}
use Rattle.ec_language.specs.Pieces.{Pieces}
use Rattle.ec_language.specs.ReadText.{read_text}
use Rattle.ec_language.specs.Syntax.{TreeOrStop}
use Rattle.ec_language.specs.Tokens.{Tokens, HaveSqlTokens, HasSqlTokens}
use Rattle.ec_language.proofs.PieceParts.{one_answer}
use Rattle.ec_language.proofs.ReadLaws.{one_list}
use Rattle.ec_language.proofs.StatementTokens.{statements_have_tokens}
use Rattle.ec_language.proofs.TextReads.{text_reads}
use Rattle.ec_embedded.specs.Answers.{StatementOrStop}
use Rattle.ec_embedded.proofs.OneAnswer.{piece_answered, one_of_piece}
use Rattle.ec_host_defs.specs.Statements.{is_statement, statement_places, with_statement, with_statements}
use Rattle.ec_phases_defs.specs.Laws.{statement_count}
use Rattle.ec_phases_defs.specs.Sources.{ReadsStatements, end, other, stops, statement, ReadsTree, refused, statements, checked_tree, ReadsChecked, BoundProgram, bound_program, ReadsSource}
use Rattle.ec_phases_defs.proofs.Places.{are_numbered}

abbrev Statements : Type 0
Statements = Result (List EmbData) Stop

-- ---- one list of statements

no_other : (p : Piece) → is_statement p.kind ≡ false → is_statement p.kind ≡ true → ⊥
no_other p a b = cc (a, b)

both_stop : (a b : Stop) → ◌≡◌ {A = Result EmbData Stop} (Err a) (Err b) → ◌≡◌ {A = Statements} (Err a) (Err b)
both_stop a b e = ap (λ r. with_statement r (Ok [])) e

pub one_list_of_statements : (ps : List Piece) (ns : List ℕ) (a b : Statements) → ReadsStatements ps ns a → ReadsStatements ps ns b → a ≡ b
one_list_of_statements _ _ _ _ (end ns) (end _) = refl
one_list_of_statements _ _ _ _ (other p ps ns a isnt h) (other _ _ _ b _ k) = one_list_of_statements ps ns a b h k
one_list_of_statements _ _ _ _ (other p ps _ a isnt h) (stops _ _ n ns stop is x) = absurd (no_other p isnt is)
one_list_of_statements _ _ _ _ (other p ps _ a isnt h) (statement _ _ n ns e others b is x k same) = absurd (no_other p isnt is)
one_list_of_statements _ _ _ _ (stops p ps n ns stop is x) (other _ _ _ b isnt k) = absurd (no_other p isnt is)
one_list_of_statements _ _ _ _ (stops p ps n ns stop is x) (stops _ _ _ _ stop' _ y) = both_stop stop stop' (one_of_piece p n (Err stop) (Err stop') x y)
one_list_of_statements _ _ _ _ (stops p ps n ns stop is x) (statement _ _ _ _ e others b _ y k same) = let w : ◌≡◌ {A = Result EmbData Stop} (Err stop) (Ok e) = one_of_piece p n (Err stop) (Ok e) x y in absurd (cc (w))
one_list_of_statements _ _ _ _ (statement p ps n ns e others a is x h same) (other _ _ _ b isnt k) = absurd (no_other p isnt is)
one_list_of_statements _ _ _ _ (statement p ps n ns e others a is x h same) (stops _ _ _ _ stop _ y) = let w : ◌≡◌ {A = Result EmbData Stop} (Ok e) (Err stop) = one_of_piece p n (Ok e) (Err stop) x y in absurd (cc (w))
one_list_of_statements _ _ _ _ (statement p ps n ns e others a is x h same) (statement _ _ _ _ f others' b _ y k same') =
    same ∙ (λ i. with_statement (one_of_piece p n (Ok e) (Ok f) x y i) (one_list_of_statements ps ns others others' h k i)) ∙ sym same'

-- ---- there is one

kind_of_statement : (kind : PieceKind) → is_statement kind ≡ true → kind ≡ Emb
kind_of_statement Emb e = refl
kind_of_statement C e = absurd (cc (e))
kind_of_statement InPlace e = absurd (cc (e))
kind_of_statement SectionStart e = absurd (cc (e))
kind_of_statement SectionEnd e = absurd (cc (e))

abbrev Some_statements : List Piece → List ℕ → Type 0
Some_statements ps ns = (es : Statements) × ReadsStatements ps ns es

some_first : (p : Piece) (ps : List Piece) (n : ℕ) (ms : List ℕ) → is_statement p.kind ≡ true → Some_statements ps ms → (r : Result EmbData Stop) → StatementOrStop p n r → Some_statements (p ∷ ps) (n ∷ ms)
some_first p ps n ms is rest (Ok s) x = (with_statement (Ok s) rest.0, statement p ps n ms s rest.0 _ is x rest.1 refl)
some_first p ps n ms is rest (Err stop) x = (Err stop, stops p ps n ms stop is x)

-- where the rest has some, whatever the places
abbrev Rest : List Piece → Type 0
Rest ps = (ms : List ℕ) → length ms ≡ statement_count ps → Some_statements ps ms

some_behind : (p : Piece) (ps : List Piece) (ns : List ℕ) → (p.kind ≡ Emb → HasSqlTokens p.bytes) → Rest ps → is_statement p.kind ≡ true → length ns ≡ suc (statement_count ps) → Some_statements (p ∷ ps) ns
some_behind p ps [] have rest is e = absurd (omega (arith, e))
some_behind p ps (n ∷ ms) have rest is e =
    let answered = piece_answered p n (have (kind_of_statement p.kind is)) in
    some_first p ps n ms is (rest ms (omega (arith, e))) answered.0 answered.1

some_with : (p : Piece) (ps : List Piece) (ns : List ℕ) → (p.kind ≡ Emb → HasSqlTokens p.bytes) → Rest ps
    → (b : Bool) → is_statement p.kind ≡ b → length ns ≡ elim b as (λ _. ℕ) [ true ↦ suc (statement_count ps) | false ↦ statement_count ps ] → Some_statements (p ∷ ps) ns
some_with p ps ns have rest true is e = some_behind p ps ns have rest is e
some_with p ps ns have rest false isnt e = let r = rest ns e in (r.0, other p ps ns r.0 isnt r.1)

pub there_are_statements : (ps : List Piece) (ns : List ℕ) → HaveSqlTokens ps → length ns ≡ statement_count ps → Some_statements ps ns
there_are_statements [] ns have e = (Ok [], end ns)
there_are_statements (p ∷ ps) ns have e = some_with p ps ns have.0 (λ ms same. there_are_statements ps ms have.1 same) (is_statement p.kind) refl e

-- ---- trees

same_tree : (u v : UnitData) → ◌≡◌ {A = Result UnitData Stop} (Ok u) (Ok v) → u ≡ v
same_tree u v e = cc

-- the law that a text has one reading up to its syntax
abbrev pub OneReading : Type 0
OneReading = (written : Bool) (text : Text) (a other : Result UnitData Stop) → Reads written text a → Reads written text other → a ≡ other

pub one_tree : (one_reading : OneReading) (text : Text) (a b : Result UnitData Stop) → ReadsTree text a → ReadsTree text b → a ≡ b
one_tree one_reading text _ _ (refused stop x) (refused stop' y) = one_reading false text (Err stop) (Err stop') x y
one_tree one_reading text _ _ (refused stop x) (statements pieces ts u es b small cut lexed derived k same) =
    let w : ◌≡◌ {A = Result UnitData Stop} (Err stop) (Ok u) = one_reading false text (Err stop) (Ok u) x (tokens pieces ts (Ok u) small cut lexed derived) in
    absurd (cc (w))
one_tree one_reading text _ _ (statements pieces ts u es a small cut lexed derived h same) (refused stop y) =
    let w : ◌≡◌ {A = Result UnitData Stop} (Ok u) (Err stop) = one_reading false text (Ok u) (Err stop) (tokens pieces ts (Ok u) small cut lexed derived) y in
    absurd (cc (w))
one_tree one_reading text _ _ (statements pieces ts u es a small cut lexed derived h same) (statements others us v fs b small' cut' lexed' derived' k same') =
    let p : others ≡ pieces = one_list text others pieces cut' cut in
    let ok : ◌≡◌ {A = Result (List TokenData) Stop} (Ok us) (Ok ts) = one_answer false pieces (Ok us) (Ok ts) (subst (λ q. Tokens false q us) p lexed') lexed in
    let t : us ≡ ts = cc in
    let w : u ≡ v = same_tree u v (one_reading false text (Ok u) (Ok v) (tokens pieces ts (Ok u) small cut lexed derived) (tokens others us (Ok v) small' cut' lexed' derived')) in
    let moved = subst (λ q. ReadsStatements q (statement_places ts) fs) p (subst (λ q. ReadsStatements others (statement_places q) fs) t k) in
    same ∙ (λ i. with_statements (w i) (one_list_of_statements pieces (statement_places ts) es fs h moved i)) ∙ sym same'

abbrev Some_tree : Text → Type 0
Some_tree text = (answer : Result UnitData Stop) × ReadsTree text answer

of_tokens : (text : Text) (pieces : List Piece) (ts : List TokenData) (answer : Result UnitData Stop) → length text ≤ max_text → Pieces text pieces → Tokens false pieces ts → TreeOrStop ts answer → Some_tree text
of_tokens text pieces ts (Err stop) small cut lexed derived = (Err stop, refused stop (tokens pieces ts (Err stop) small cut lexed derived))
of_tokens text pieces ts (Ok u) small cut lexed derived =
    let some = there_are_statements pieces (statement_places ts) (statements_have_tokens pieces ts lexed) (are_numbered pieces ts lexed).0 in
    (with_statements u some.0, statements pieces ts u some.0 _ small cut lexed derived some.1 refl)

by_reading : (text : Text) (answer : Result UnitData Stop) → Reads false text answer → Some_tree text
by_reading text _ (too_long l) = (Err _, refused _ (too_long l))
by_reading text _ (unclosed kind line small f) = (Err _, refused _ (unclosed kind line small f))
by_reading text _ (no_tokens pieces stop small cut t) = (Err stop, refused stop (no_tokens pieces stop small cut t))
by_reading text answer (tokens pieces ts _ small cut lexed derived) = of_tokens text pieces ts answer small cut lexed derived

pub there_is_a_tree : (text : Text) → Some_tree text
there_is_a_tree text = by_reading text (read_text false text) (text_reads false text)

-- ---- what is found out about them

pub one_check : (one_reading : OneReading) (text : Text) (a b : Result TypedData Stop) → ReadsChecked text a → ReadsChecked text b → a ≡ b
one_check one_reading text a b h k = h.2 ∙ ap checked_tree (one_tree one_reading text h.0 k.0 h.1 k.1) ∙ sym k.2

pub one_source : (one_reading : OneReading) (text : Text) (a b : Result BoundProgram Stop) → ReadsSource text a → ReadsSource text b → a ≡ b
one_source one_reading text a b h k = h.2 ∙ ap bound_program (one_check one_reading text h.0 k.0 h.1 k.1) ∙ sym k.2

pub there_is_a_reading : (text : Text) → (answer : Result BoundProgram Stop) × ReadsSource text answer
there_is_a_reading text =
    let tree = there_is_a_tree text in
    let checked : ReadsChecked text (checked_tree tree.0) = (tree.0, tree.1, refl) in
    (bound_program (checked_tree tree.0), (checked_tree tree.0, checked, refl))
