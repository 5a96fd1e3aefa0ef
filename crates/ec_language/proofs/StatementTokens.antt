-- The tokens of embedded statements: there is one list or one fault, and the statements of pieces with tokens have tokens.
use Rattle.std.proofs.Common.{◌≡◌, ℕ, suc, ◌+◌, Bool, true, false, List, [], ◌∷◌, ◌++◌, Option, Some, None, Result, Ok, Err, if◌then◌else◌, refl, sym, ap, ◌∙◌, subst}
use Rattle.std.specs.Prelude.{⊤}
use Rattle.std.specs.List.{concat}
use Rattle.ec_base.specs.declared.fault.FaultKind.{FaultKind}
use Rattle.ec_base.specs.declared.fault.FaultKind.TheVariants.{F4}
use Rattle.ec_base.specs.declared.fault.LimitKind.TheVariants.{L2}
use Rattle.ec_base.specs.declared.stop.Stop.{Stop}
use Rattle.ec_base.specs.declared.stop.Stop.TheVariants.{Limit}
use Rattle.ec_ctypes.specs.declared.text.piece.PieceKind.TheVariants.{Emb}
use Rattle.ec_ctypes.specs.declared.text.piece.Piece.{Piece}
use Rattle.ec_ctypes.specs.trees.Tokens.{TokData, string_token, TokenData}
use Rattle.ec_language.specs.Letters.{Text}
use Rattle.ec_language.specs.Line.{newlines}
use Rattle.ec_language.specs.Lexemes.{is_fresh_after}
use Rattle.ec_language.specs.SqlTokens.{SqlToken, sql_tokens_from, is_bad_unit, first_bad_line}
use Rattle.ec_language.specs.Tokens.{Part, PieceParts, c_text, statement, opening, closing, declaration, embedded, fault_at, lines_before, statements_behind, AllParts, join_two, join_first, join_strings, without_head, token, with_token, max_tokens, is_full, part_within, numbered_within, Tokens, refused_at, sql_answer, SqlTokensOrStop, SqlTokens, HasSqlTokens, HaveSqlTokens}
use Rattle.ec_language.proofs.PieceParts.{statement_units_complete}

-- ---- one answer

abbrev Answer : Type 0
Answer = Result (List SqlToken) Stop

abbrev answer_of : ℕ → Text → List Text → Answer
answer_of line bytes units = sql_answer (line + lines_before bytes (concat units)) units

pub one_sql_answer : (line : ℕ) (bytes : Text) (a b : Answer) → SqlTokensOrStop line bytes a → SqlTokensOrStop line bytes b → a ≡ b
one_sql_answer line bytes a b x y =
    x.2 ∙ ap (answer_of line bytes) (sym (statement_units_complete bytes x.0 x.1) ∙ statement_units_complete bytes y.0 y.1) ∙ sym y.2

-- the line of the first byte that begins nothing is there wherever the units begin, or nowhere
none_bad : (units : List Text) (a b : ℕ) → first_bad_line a units ≡ None → first_bad_line b units ≡ None
none_bad [] a b e = refl
none_bad (u ∷ us) a b e = go (is_bad_unit u) e (none_bad us (a + newlines u) (b + newlines u))
  where
    go : (bad : Bool) → elim bad as (λ _. Option ℕ) [ true ↦ Some a | false ↦ first_bad_line (a + newlines u) us ] ≡ None
        → (first_bad_line (a + newlines u) us ≡ None → first_bad_line (b + newlines u) us ≡ None)
        → elim bad as (λ _. Option ℕ) [ true ↦ Some b | false ↦ first_bad_line (b + newlines u) us ] ≡ None
    go true e ih = absurd (cc)
    go false e ih = ih e

pub has_tokens : (line : ℕ) (bytes : Text) → HasSqlTokens bytes → (tokens : List SqlToken) × SqlTokens line bytes tokens
has_tokens line bytes h =
    let first : ℕ = line + lines_before bytes (concat h.0) in
    (sql_tokens_from false first h.0, (h.0, h.1, sym (ap (λ o. refused_at o (sql_tokens_from false first h.0)) (none_bad h.0 0 first h.2))))

-- ---- parts without a fault

abbrev NoFault : Result TokData FaultKind → Type 0
NoFault (Ok tok) = ⊤
NoFault (Err kind) = ⊥

abbrev NoFaults : List Part → Type 0
NoFaults [] = ⊤
NoFaults (p ∷ parts) = NoFault p.tok × NoFaults parts

both_parts : (parts others : List Part) → NoFaults (parts ++ others) → NoFaults parts × NoFaults others
both_parts [] others h = (tt, h)
both_parts (p ∷ parts) others h = let b = both_parts parts others h.1 in ((h.0, b.0), b.1)

two_join : (p q : Part) (parts : List Part) (a b : Result TokData FaultKind) → p.tok ≡ a → q.tok ≡ b → NoFaults (join_two p a q b parts) → NoFault a × NoFaults (q ∷ parts)
two_join p q parts (Ok (string_token s)) (Ok (string_token t)) e f h = (tt, (subst NoFault (sym f) tt, h.1))
two_join p q parts a b e f h = (subst NoFault e h.0, h.1)

first_joins : (p : Part) (parts : List Part) → NoFaults (join_first p parts) → NoFault p.tok × NoFaults parts
first_joins p [] h = h
first_joins p (q ∷ parts) h = two_join p q parts p.tok q.tok refl refl h

all_join : (parts : List Part) → NoFaults (join_strings parts) → NoFaults parts
all_join [] h = h
all_join (p ∷ parts) h = let b = first_joins p (join_strings parts) h in (b.0, all_join parts b.1)

no_head : (parts : List Part) → without_head false parts ≡ parts
no_head [] = refl
no_head (p ∷ []) = refl
no_head (p ∷ q ∷ parts) = refl

rest_ok : (t : TokenData) (r : Result (List TokenData) Stop) (ts : List TokenData) → with_token t r ≡ Ok ts → (us : List TokenData) × (r ≡ Ok us)
rest_ok t (Ok us) ts e = (us, refl)
rest_ok t (Err stop) ts e = absurd (cc)

all_ok : (most : Option ℕ) (place last : ℕ) (parts : List Part) (ts : List TokenData) → numbered_within most place last parts ≡ Ok ts → NoFaults parts
all_ok most place last [] ts e = tt
all_ok most place last (p ∷ parts) ts e = on p.tok e (all_ok most (suc place) last parts)
  where
    on : (tok : Result TokData FaultKind) → part_within most place p.line tok (numbered_within most (suc place) last parts) ≡ Ok ts
        → ((us : List TokenData) → numbered_within most (suc place) last parts ≡ Ok us → NoFaults parts) → NoFault tok × NoFaults parts
    on (Err kind) e ih = absurd (cc)
    on (Ok tok) e ih = test (is_full most place) e
      where
        test : (full : Bool) → (if full then Err (Limit L2) else with_token (token tok p.line place) (numbered_within most (suc place) last parts)) ≡ Ok ts → NoFault (Ok tok) × NoFaults parts
        test true e = absurd (cc)
        test false e = let r = rest_ok (token tok p.line place) (numbered_within most (suc place) last parts) ts e in (tt, ih r.0 r.1)

-- ---- statements among pieces

no_fault_there : (o : Option ℕ) → NoFaults (fault_at o F4) → o ≡ None
no_fault_there None h = refl
no_fault_there (Some line) h = absurd h.0

is_statement : (line : ℕ) (fresh : Bool) (statements : ℕ) (p : Piece) (parts : List Part) (last : ℕ) → PieceParts false line fresh statements p parts last
    → NoFaults parts → p.kind ≡ Emb → HasSqlTokens p.bytes
is_statement line fresh statements p parts last (c_text ps l kind are) h k = absurd (cc)
is_statement line fresh statements p parts last (statement units ps l kind w are e f) h k =
    let first : ℕ = line + lines_before p.bytes (concat units) in
    (units, are, none_bad units first 0 (no_fault_there (first_bad_line first units) (subst NoFaults e h).1))
is_statement line fresh statements p parts last (opening ps l kind w e f) h k = absurd (cc)
is_statement line fresh statements p parts last (closing ps l kind w e f) h k = absurd (cc)
is_statement line fresh statements p parts last (declaration found ps inner l kind w are e) h k = absurd (cc)
is_statement line fresh statements p parts last (embedded ps l kind w e f) h k = absurd (cc)

are_statements : (line : ℕ) (fresh : Bool) (statements : ℕ) (pieces : List Piece) (parts : List Part) (last : ℕ) → AllParts false line fresh statements pieces parts last
    → NoFaults parts → HaveSqlTokens pieces
are_statements line fresh statements [] parts last are h = tt
are_statements line fresh statements (p ∷ ps) parts last are h =
    let b = both_parts are.0 are.1 (subst NoFaults are.3 h) in (
      is_statement line fresh statements p are.0 are.2 are.4 b.0,
      are_statements are.2 (is_fresh_after fresh p.bytes) (statements_behind statements p.kind) ps are.1 last are.5 b.1,
    )

-- Where the pieces of a source have tokens, each of its statements has.
pub statements_have_tokens : (pieces : List Piece) (ts : List TokenData) → Tokens false pieces ts → HaveSqlTokens pieces
statements_have_tokens pieces ts are =
    let ok = all_ok (Some max_tokens) 0 are.1 (without_head false (join_strings are.0)) ts (sym are.3) in
    are_statements 1 true 0 pieces are.0 are.1 are.2 (all_join are.0 (subst NoFaults (no_head (join_strings are.0)) ok))
