-- Reading the statements of pieces, one after the other.
use Rattle.std.proofs.Common.{◌≡◌, ◌<◌, ◌≤◌, ℕ, zero, suc, ◌+◌, true, false, List, [], ◌∷◌, ◌++◌, length, map, drop, get_or, Result, Ok, Err, refl, sym, ap, ◌∙◌, subst, append_assoc, append-nil, add-one, drop-cons, length-drop, arith}
use Rattle.std.proofs.lemmas.List.{map-append}
use Rattle.ec_base.specs.declared.stop.Stop.{Stop}
use Rattle.ec_base.specs.declared.stop.Stop.TheVariants.{Refused, Limit, OutOfMemory}
use Rattle.ec_ctypes.specs.declared.text.piece.Piece.{Piece}
use Rattle.ec_ctypes.specs.declared.embedded.emb.Emb.{Emb as Statement}
use Rattle.ec_ctypes.specs.trees.Embedded.{EmbData}
use Rattle.ec_ctypes.specs.trees.Tokens.{TokData, emb_token, TokenData}
use Rattle.ec_ctypes.specs.views.Embedded.{emb_view}
use Rattle.ec_language.specs.Tokens.{HaveSqlTokens}
use Rattle.ec_embedded.specs.Answers.{StatementOrStop}
use Rattle.ec_host_defs.specs.Statements.{is_statement, place_of, with_statement}
use Rattle.ec_phases_defs.specs.Laws.{statement_count}
use Rattle.ec_phases_defs.specs.Sources.{ReadsStatements, end, other, stops, statement}
use Rattle.ec_read_statement.specs.Answers.{IsRead}
use Rattle.ec_front.specs.source.Answers.{HaveLines, IsNext, AddsStatement, TellsStatements}

-- ---- places

pub place_first : (t : TokenData) (ns : List ℕ) → place_of t ns ≡ place_of t [] ++ ns
place_first t ns = go t.tok
  where
    go : (k : TokData) → elim k as (λ _. List ℕ) [ emb_token n executable ↦ t.place ∷ ns | _ ↦ ns ] ≡ elim k as (λ _. List ℕ) [ emb_token n executable ↦ t.place ∷ [] | _ ↦ [] ] ++ ns
    go (emb_token n executable) = refl
    go _ = refl

-- ---- statements

abbrev Answer : Type 0
Answer = Result (List EmbData) Stop

abbrev pub before : List EmbData → Answer → Answer
before es (Ok fs) = Ok (es ++ fs)
before es (Err stop) = Err stop

before_none : (a : Answer) → before [] a ≡ a
before_none (Ok fs) = refl
before_none (Err stop) = refl

before_one : (es : List EmbData) (e : EmbData) (a : Answer) → before es (with_statement (Ok e) a) ≡ before (es ++ e ∷ []) a
before_one es e (Ok fs) = ap (λ gs. Ok gs) (sym (append_assoc es (e ∷ []) fs))
before_one es e (Err stop) = refl

-- So far these statements were read; these pieces are left, and the places from this one on.
pub record IsReading (pieces : List Piece) (places : List ℕ) (left : List Piece) (next : ℕ) (statements : List Statement) : Type 0 where
  pub fit : HaveLines left
  pub tokens : HaveSqlTokens left
  pub count : length (drop next places) ≡ statement_count left
  pub goes_on : (answer : Answer) → ReadsStatements left (drop next places) answer → ReadsStatements pieces places (before (map emb_view statements) answer)

pub at_start : (pieces : List Piece) (places : List ℕ) → HaveLines pieces → HaveSqlTokens pieces → length places ≡ statement_count pieces → IsReading pieces places pieces 0 []
at_start pieces places f t e = record { fit = f; tokens = t; count = e; goes_on = (λ answer h. subst (ReadsStatements pieces places) (sym (before_none answer)) h) }

count_other : (p : Piece) (ps : List Piece) → is_statement p.kind ≡ false → statement_count (p ∷ ps) ≡ statement_count ps
count_other p ps e = ap (λ b. elim b as (λ _. ℕ) [ true ↦ suc (statement_count ps) | false ↦ statement_count ps ]) e

count_statement : (p : Piece) (ps : List Piece) → is_statement p.kind ≡ true → statement_count (p ∷ ps) ≡ suc (statement_count ps)
count_statement p ps e = ap (λ b. elim b as (λ _. ℕ) [ true ↦ suc (statement_count ps) | false ↦ statement_count ps ]) e

pub past_other : (pieces : List Piece) (places : List ℕ) (p : Piece) (left : List Piece) (next : ℕ) (statements : List Statement) → is_statement p.kind ≡ false
    → IsReading pieces places (p ∷ left) next statements → IsReading pieces places left next statements
past_other pieces places p left next statements isnt r = record {
  fit = r.fit.1;
  tokens = r.tokens.1;
  count = r.count ∙ count_other p left isnt;
  goes_on = (λ answer h. r.goes_on answer (other p left (drop next places) answer isnt h));
}

-- a place is left for a statement
pub has_place : (pieces : List Piece) (places : List ℕ) (p : Piece) (left : List Piece) (next : ℕ) (statements : List Statement) → is_statement p.kind ≡ true
    → IsReading pieces places (p ∷ left) next statements → next < length places
has_place pieces places p left next statements is r =
    let e = r.count ∙ count_statement p left is in
    let d = length-drop next places in
    omega (arith, e, d)

places_at : (places : List ℕ) (next : ℕ) → next < length places → drop next places ≡ get_or places next 0 ∷ drop (suc next) places
places_at places next h = drop-cons places next 0 h

pub past_statement : (pieces : List Piece) (places : List ℕ) (p : Piece) (left : List Piece) (next : ℕ) (old new : List Statement) → is_statement p.kind ≡ true
    → IsNext p (get_or places next 0) old new → IsReading pieces places (p ∷ left) next old → IsReading pieces places left (suc next) new
past_statement pieces places p left next old new is n r =
    let d = places_at places next (has_place pieces places p left next old is r) in
    let e : length (get_or places next 0 ∷ drop (suc next) places) ≡ suc (statement_count left) = sym (ap (λ ns. length ns) d) ∙ r.count ∙ count_statement p left is in
    let s = emb_view n.statement in
    let grown : map emb_view old ++ s ∷ [] ≡ map emb_view new = sym (map-append emb_view old (n.statement ∷ [])) ∙ ap (map emb_view) (sym n.behind) in
    record {
      fit = r.fit.1;
      tokens = r.tokens.1;
      count = omega (arith, e);
      goes_on = (λ answer h.
          let here = statement p left (get_or places next 0) (drop (suc next) places) s answer (with_statement (Ok s) answer) is n.is h refl in
          let before_it = r.goes_on (with_statement (Ok s) answer) (subst (λ ns. ReadsStatements (p ∷ left) ns (with_statement (Ok s) answer)) (sym d) here) in
          subst (ReadsStatements pieces places) (before_one (map emb_view old) s answer ∙ ap (λ es. before es answer) grown) before_it);
    }

pub at_stop : (pieces : List Piece) (places : List ℕ) (p : Piece) (left : List Piece) (next : ℕ) (statements : List Statement) (stop : Stop) → is_statement p.kind ≡ true
    → StatementOrStop p (get_or places next 0) (Err stop) → IsReading pieces places (p ∷ left) next statements → ReadsStatements pieces places (Err stop)
at_stop pieces places p left next statements stop is x r =
    let d = places_at places next (has_place pieces places p left next statements is r) in
    r.goes_on (Err stop) (subst (λ ns. ReadsStatements (p ∷ left) ns (Err stop)) (sym d) (stops p left (get_or places next 0) (drop (suc next) places) stop is x))

pub at_end : (pieces : List Piece) (places : List ℕ) (next : ℕ) (statements : List Statement) → IsReading pieces places [] next statements → ReadsStatements pieces places (Ok (map emb_view statements))
at_end pieces places next statements r = subst (ReadsStatements pieces places) (ap (λ es. Ok es) (append-nil (map emb_view statements))) (r.goes_on (Ok []) (end (drop next places)))

-- ---- one statement

pub adds_stop : (p : Piece) (place : ℕ) (old new : List Statement) (stop : Stop) → IsRead p place (Err stop) → AddsStatement p place old new (Err stop)
adds_stop p place old new (Refused kind line) h = h
adds_stop p place old new (Limit limit) h = h
adds_stop p place old new OutOfMemory h = tt

-- ---- the loop

piece_at : (ps : List Piece) (i : ℕ) (p : Piece) → i < length ps → p ≡ get_or ps i p → drop i ps ≡ p ∷ drop (i + 1) ps
piece_at ps i p h e = drop-cons ps i p h ∙ (λ k. sym e k ∷ drop (sym (add-one i) k) ps)

module _ (pieces : List Piece) (places : List ℕ) (i : ℕ) (p : Piece) (h : i < length pieces) (e : p ≡ get_or pieces i p) (next : ℕ) (old : List Statement) (r : IsReading pieces places (drop i pieces) next old) where
  at_piece : IsReading pieces places (p ∷ drop (i + 1) pieces) next old
  at_piece = subst (λ l. IsReading pieces places l next old) (piece_at pieces i p h e) r

  pub kept_other : is_statement p.kind ≡ false → IsReading pieces places (drop (i + 1) pieces) next old
  kept_other isnt = past_other pieces places p (drop (i + 1) pieces) next old isnt at_piece

  pub kept_statement : (new : List Statement) → is_statement p.kind ≡ true → IsNext p (get_or places next 0) old new → IsReading pieces places (drop (i + 1) pieces) (next + 1) new
  kept_statement new is n = subst (λ k. IsReading pieces places (drop (i + 1) pieces) k new) (sym (add-one next)) (past_statement pieces places p (drop (i + 1) pieces) next old new is n at_piece)

  pub stopped_at : (new : List Statement) (stop : Stop) → is_statement p.kind ≡ true → AddsStatement p (get_or places next 0) old new (Err stop) → TellsStatements pieces places (Err stop)
  stopped_at new (Refused kind line) is x = at_stop pieces places p (drop (i + 1) pieces) next old (Refused kind line) is x at_piece
  stopped_at new (Limit limit) is x = at_stop pieces places p (drop (i + 1) pieces) next old (Limit limit) is x at_piece
  stopped_at new OutOfMemory is x = tt

none_left : (ps : List Piece) (i : ℕ) → length ps ≤ i → drop i ps ≡ []
none_left [] zero h = refl
none_left [] (suc i) h = refl
none_left (p ∷ ps) zero h = absurd (omega (arith, h))
none_left (p ∷ ps) (suc i) h = none_left ps i (omega (arith, h))

pub ended_at : (pieces : List Piece) (places : List ℕ) (i : ℕ) (next : ℕ) (statements : List Statement) → length pieces ≤ i → IsReading pieces places (drop i pieces) next statements → ReadsStatements pieces places (Ok (map emb_view statements))
ended_at pieces places i next statements h r = at_end pieces places next statements (subst (λ l. IsReading pieces places l next statements) (none_left pieces i h) r)
