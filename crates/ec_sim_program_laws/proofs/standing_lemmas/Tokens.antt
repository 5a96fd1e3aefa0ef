-- Each embedded token of a source has the number and the line of a statement of the source, and one that isn't executed is that of a directive.
use Rattle.std.proofs.Common.{◌≡◌, ℕ, zero, suc, ◌+◌, Bool, true, false, not, ◌&&◌, List, [], ◌∷◌, ◌++◌, take, drop, refl, sym, ap, ◌∙◌, subst, Option, Some, None, Result, Ok, Err, arith}
use Rattle.std.specs.Prelude.{codes, slice_get, if◌then◌else◌}
use Rattle.std.specs.List.{concat}
use Rattle.std.proofs.lemmas.Bool.{false≢true}
use Rattle.ec_base.specs.declared.fault.FaultKind.{FaultKind}
use Rattle.ec_base.specs.declared.fault.FaultKind.TheVariants.{F4, F9}
use Rattle.ec_base.specs.declared.fault.LimitKind.TheVariants.{L2}
use Rattle.ec_base.specs.declared.line.Line.{Line}
use Rattle.ec_base.specs.declared.stop.Stop.{Stop}
use Rattle.ec_base.specs.declared.stop.Stop.TheVariants.{Limit}
use Rattle.ec_ctypes.specs.declared.text.piece.Piece.{Piece}
use Rattle.ec_ctypes.specs.declared.text.piece.PieceKind.{PieceKind}
use Rattle.ec_ctypes.specs.declared.text.piece.PieceKind.TheVariants.{Emb}
use Rattle.ec_ctypes.specs.declared.types.arith.Arith.{Arith}
use Rattle.ec_ctypes.specs.trees.Tokens.{TokData, emb_token, string_token, section_end, TokenData}
use Rattle.ec_ctypes.specs.trees.Embedded.{EmbData}
use Rattle.ec_ctypes.specs.trees.Units.{UnitData}
use Rattle.ec_language.specs.CText.{CUnits}
use Rattle.ec_language.specs.Constants.{integer_constant, character_value, string_value}
use Rattle.ec_language.specs.Letters.{Text, is_blank, is_word_byte, begins, skip_blanks, same_word}
use Rattle.ec_language.specs.Lexemes.{Class, word, number, character, string, punct, left_out, comment, is_fresh_after}
use Rattle.ec_language.specs.Line.{newlines}
use Rattle.ec_language.specs.Pieces.{behind_start, Declared, PiecesUpTo, Pieces}
use Rattle.ec_language.specs.SqlTokens.{StatementUnits, is_executable}
use Rattle.ec_language.specs.Tokens.{Part, Item, blank, match, include, directive, last_directive, Step, CParts, end, item, bad, line_behind, part_at, is_left_out_word, integer_tok, character_tok, string_tok, token_of, PieceParts, c_text, statement, opening, closing, declaration, embedded, fault_at, lines_before, statements_behind, AllParts, join_two, join_first, join_strings, without_head, token, with_token, max_tokens, is_full, part_within, numbered_within, Tokens}
use Rattle.ec_language.proofs.ReadLaws.{newlines-append}
use Rattle.ec_host_defs.specs.Statements.{is_statement, statement_places, with_statement, with_statements}
use Rattle.ec_phases_defs.specs.Sources as source
use Rattle.ec_phases_defs.specs.Sources.{ReadsStatements, ReadsTree}
use Rattle.ec_sim_program_laws.specs.standing.There.{TopsAreThere}
use Rattle.ec_sim_program_laws.proofs.standing_lemmas.Directives.{told_there}
use Rattle.ec_sim_program_laws.proofs.standing_lemmas.Trees.{TokenIsThere, TokensAreThere, tree_is}

-- ---- faults and lines

abbrev IsToken : Result TokData FaultKind → Type 0
IsToken (Ok k) = Unit {0}
IsToken (Err kind) = ⊥

abbrev NoFault : List Part → Type 0
NoFault [] = Unit {0}
NoFault (p ∷ parts) = IsToken p.tok × NoFault parts

last_faultless : (parts others : List Part) → NoFault (parts ++ others) → NoFault others
last_faultless [] others h = h
last_faultless (p ∷ parts) others h = last_faultless parts others h.1

item_lines : (line : ℕ) (fresh : Bool) (u rest : Text) (k : Option (Result TokData FaultKind)) (step : Step) → Item false fresh u rest k step → line_behind line u step ≡ line + newlines u
item_lines line fresh u rest k step (blank f t r l b) = refl
item_lines line fresh u rest k step (match f t r class j long e) = refl
item_lines line fresh u rest k step (include f t r e l) = refl
item_lines line fresh u rest k step (directive f t l r e w a b) = absurd (false≢true w)
item_lines line fresh u rest k step (last_directive f t r e w a b) = absurd (false≢true w)

-- the line at the end of C text
c_lines : (line : ℕ) (fresh : Bool) (text : Text) (parts : List Part) (last : ℕ) → CParts false line fresh text parts last → NoFault parts → last ≡ line + newlines text
c_lines line fresh text parts last (end l f) n = omega arith
c_lines line fresh text parts last (item l f t u rest k step ps others e a i are h) n =
    let n' : NoFault others = last_faultless (part_at line k) others (subst NoFault h n) in
    let behind : last ≡ line_behind line u step + newlines rest = c_lines _ _ _ _ _ are n' in
    let here = item_lines line _ u rest k step i in
    let whole : newlines text ≡ newlines u + newlines rest = ap newlines a ∙ newlines-append u rest in
    behind ∙ ap (λ x. x + newlines rest) here ∙ omega (arith, whole)
c_lines line fresh text parts last (bad l f t ps e nothing h) n = let k = subst NoFault h n in absurd (k.0)

-- a text with that which stands at its end
abbrev EndsIn : Text → Text → Type 0
EndsIn t u = (before : ℕ) × (newlines t ≡ before + newlines u)

dropped : (n : ℕ) (t : Text) → EndsIn t (drop n t)
dropped zero t = (0, omega arith)
dropped (suc n) [] = (0, omega arith)
dropped (suc n) (b ∷ t) = let p = dropped n t in ((newlines (b ∷ []) + p.0), omega (arith, p.1))

skipped : (t : Text) → EndsIn t (skip_blanks t)
skipped [] = (0, omega arith)
skipped (b ∷ t) = go (is_blank b) (skipped t)
  where
    go : (x : Bool) → EndsIn t (skip_blanks t) → EndsIn (b ∷ t) (elim x [ true ↦ skip_blanks t | false ↦ b ∷ t ])
    go true p = ((newlines (b ∷ []) + p.0), omega (arith, p.1))
    go false p = (0, omega arith)

start_ends : (t u : Text) → behind_start t ≡ Some u → EndsIn t u
start_ends t u e =
    go (same_word (take 4 t) (codes "EXEC") && begins is_blank (drop 4 t) && same_word (take 3 (skip_blanks (drop 4 t))) (codes "SQL") && not (begins is_word_byte (drop 3 (skip_blanks (drop 4 t))))) e
  where
    go : (x : Bool) → (if x then Some (drop 3 (skip_blanks (drop 4 t))) else None) ≡ Some u → EndsIn t u
    go true k =
        let same : drop 3 (skip_blanks (drop 4 t)) ≡ u = cc in
        let p = dropped 4 t in
        let q = skipped (drop 4 t) in
        let r = dropped 3 (skip_blanks (drop 4 t)) in
        subst (EndsIn t) same (p.0 + q.0 + r.0, omega (arith, p.1, q.1, r.1))
    go false k = absurd (cc)

declared_lines : (line : ℕ) (bytes : Text) (found : Declared CUnits bytes []) → line + lines_before bytes (concat (found.first ∷ found.others)) + newlines (concat (found.first ∷ found.others)) ≡ line + newlines bytes
declared_lines line bytes found =
    let text = concat (found.first ∷ found.others) in
    let p = start_ends (bytes ++ []) (concat found.gap ++ text ++ []) found.start in
    let a = newlines-append bytes [] in
    let b = newlines-append (concat found.gap ++ text) [] in
    let c = newlines-append (concat found.gap) text in
    omega (arith, p.1, a, b, c)

piece_lines : (line : ℕ) (fresh : Bool) (n : ℕ) (p : Piece) (parts : List Part) (last : ℕ) → PieceParts false line fresh n p parts last → NoFault parts → last ≡ line + newlines p.bytes
piece_lines line fresh n p parts last (c_text ps l kind are) f = c_lines _ _ _ _ _ are f
piece_lines line fresh n p parts last (statement units ps l kind w are e k) f = k
piece_lines line fresh n p parts last (opening ps l kind w e k) f = k
piece_lines line fresh n p parts last (closing ps l kind w e k) f = k
piece_lines line fresh n p parts last (declaration found ps inner l kind w are e) f =
    let g = subst NoFault e f in
    c_lines _ _ _ _ _ are (front inner _ g.1) ∙ declared_lines line p.bytes found
  where
    front : (parts others : List Part) → NoFault (parts ++ others) → NoFault parts
    front [] others h = tt
    front (p ∷ parts) others h = (h.0, front parts others h.1)
piece_lines line fresh n p parts last (embedded ps l kind w e k) f = k

-- by the embedded statements of the program
module _ (es : List EmbData) where
  -- ---- parts

  -- what stands on a line, and if it is no fault, what follows it
  abbrev Then : ℕ → Result TokData FaultKind → Type 0 → Type 0
  Then line (Ok k) X = TokenIsThere es (record { 0 = line }) k × X
  Then line (Err kind) X = Unit {0}

  abbrev PartsAreThere : List Part → Type 0
  PartsAreThere [] = Unit {0}
  PartsAreThere (p ∷ parts) = Then p.line p.tok (PartsAreThere parts)

  both_there : (parts others : List Part) → PartsAreThere parts → (NoFault parts → PartsAreThere others) → PartsAreThere (parts ++ others)
  both_there [] others h k = k tt
  both_there (p ∷ parts) others h k = on p.tok h (λ one more. both_there parts others more (λ all. k (one, all)))
    where
      on : (r : Result TokData FaultKind) → Then p.line r (PartsAreThere parts) → (IsToken r → PartsAreThere parts → PartsAreThere (parts ++ others)) → Then p.line r (PartsAreThere (parts ++ others))
      on (Ok x) h go = (h.0, go tt h.1)
      on (Err kind) h go = tt

  no_token : (line : ℕ) (class : Class) (text : Text) → PartsAreThere (part_at line (token_of class text))
  no_token line word text = go (is_left_out_word text)
    where
      go : (b : Bool) → PartsAreThere (part_at line (Some (if b then Err F9 else Ok (TokData.word_token text))))
      go true = tt
      go false = (tt, tt)
  no_token line number text = go (integer_constant text)
    where
      go : (o : Option (ℕ × Arith)) → PartsAreThere (part_at line (Some (integer_tok o)))
      go None = tt
      go (Some p) = (tt, tt)
  no_token line character text = go (character_value text)
    where
      go : (o : _) → PartsAreThere (part_at line (Some (character_tok o)))
      go None = tt
      go (Some p) = (tt, tt)
  no_token line string text = go (string_value text)
    where
      go : (o : Option Text) → PartsAreThere (part_at line (Some (string_tok o)))
      go None = tt
      go (Some p) = (tt, tt)
  no_token line (punct p) text = (tt, tt)
  no_token line left_out text = tt
  no_token line comment text = tt

  no_item : (line : ℕ) (fresh : Bool) (u rest : Text) (k : Option (Result TokData FaultKind)) (step : Step) → Item false fresh u rest k step → PartsAreThere (part_at line k)
  no_item line fresh u rest k step (blank f t r l b) = tt
  no_item line fresh u rest k step (match f t r class j long e) = subst (λ o. PartsAreThere (part_at line o)) (sym e) (no_token line class u)
  no_item line fresh u rest k step (include f t r e l) = (tt, tt)
  no_item line fresh u rest k step (directive f t l r e w a b) = tt
  no_item line fresh u rest k step (last_directive f t r e w a b) = tt

  c_there : (line : ℕ) (fresh : Bool) (text : Text) (parts : List Part) (last : ℕ) → CParts false line fresh text parts last → PartsAreThere parts
  c_there line fresh text parts last (end l f) = tt
  c_there line fresh text parts last (item l f t u rest k step ps others e a i are h) =
      let more = c_there _ _ _ _ _ are in
      subst (λ x. PartsAreThere x) (sym h) (both_there (part_at line k) others (no_item line _ u rest k step i) (λ n. more))
  c_there line fresh text parts last (bad l f t ps e n h) = subst (λ x. PartsAreThere x) (sym h) tt

  fault_there : (o : Option ℕ) → PartsAreThere (fault_at o F4)
  fault_there None = tt
  fault_there (Some line) = tt

  -- what is known of the statement of a piece
  abbrev IsTold : Line → ℕ → Piece → Type 0
  IsTold line n p = p.kind ≡ Emb → (units : List Text) → StatementUnits p.bytes units → TokenIsThere es line (emb_token n (is_executable units))

  piece_there : (line : ℕ) (fresh : Bool) (n : ℕ) (p : Piece) (parts : List Part) (last : ℕ) → PieceParts false line fresh n p parts last → IsTold (record { 0 = line }) n p → PartsAreThere parts
  piece_there line fresh n p parts last (c_text ps l kind are) told = c_there _ _ _ _ _ are
  piece_there line fresh n p parts last (statement units ps l kind w are e f) told = subst (λ x. PartsAreThere x) (sym e) (told kind units are, fault_there _)
  piece_there line fresh n p parts last (opening ps l kind w e f) told = subst (λ x. PartsAreThere x) (sym e) (tt, tt)
  piece_there line fresh n p parts last (closing ps l kind w e f) told = subst (λ x. PartsAreThere x) (sym e) (tt, tt)
  piece_there line fresh n p parts last (declaration found ps inner l kind w are e) told =
      subst (λ x. PartsAreThere x) (sym e) (tt, both_there inner (record { line = last; tok = Ok section_end } ∷ []) (c_there _ _ _ _ _ are) (λ k. (tt, tt)))
  piece_there line fresh n p parts last (embedded ps l kind w e f) told = absurd (false≢true w)

  -- ---- pieces

  -- the statements from this number on
  abbrev ListedFrom : ℕ → Result (List EmbData) Stop → Type 0
  ListedFrom n (Ok fs) = (m : ℕ) → slice_get es (n + m) ≡ slice_get fs m
  ListedFrom n (Err stop) = ⊥

  first_listed : (n : ℕ) (e : EmbData) (others : Result (List EmbData) Stop) → ListedFrom n (with_statement (Ok e) others) → slice_get es n ≡ Some e
  first_listed n e (Ok fs) l = let same : n ≡ n + 0 = omega arith in ap (slice_get es) same ∙ l 0
  first_listed n e (Err stop) l = absurd l

  next_listed : (n : ℕ) (e : EmbData) (others : Result (List EmbData) Stop) → ListedFrom n (with_statement (Ok e) others) → ListedFrom (suc n) others
  next_listed n e (Ok fs) l = λ m. let same : suc n + m ≡ n + suc m = omega arith in ap (slice_get es) same ∙ l (suc m)
  next_listed n e (Err stop) l = absurd l

  behind_other : (k : PieceKind) (n : ℕ) → is_statement k ≡ false → n ≡ statements_behind n k
  behind_other Emb n e = absurd (false≢true (sym e))
  behind_other _ n e = refl

  behind_one : (k : PieceKind) (n : ℕ) → is_statement k ≡ true → suc n ≡ statements_behind n k
  behind_one Emb n e = refl
  behind_one _ n e = absurd (false≢true e)

  all_there : (line : ℕ) (fresh : Bool) (n : ℕ) (pieces : List Piece) (parts : List Part) (last : ℕ) → AllParts false line fresh n pieces parts last
      → (text rest : Text) → PiecesUpTo line text pieces rest → (places : List ℕ) (answer : Result (List EmbData) Stop) → ReadsStatements pieces places answer → ListedFrom n answer → PartsAreThere parts
  all_there line fresh n [] parts last are text rest c places answer r l = subst (λ x. PartsAreThere x) (sym are.0) tt
  all_there line fresh n (p ∷ pieces) parts last are text rest c places answer (source.other q qs ms b k r) l =
      let told : IsTold (record { 0 = line }) n p = λ kind. absurd (false≢true (sym k ∙ ap is_statement kind)) in
      let more : NoFault are.0 → PartsAreThere are.1 = λ ok. all_there are.2 (is_fresh_after fresh p.bytes) (statements_behind n p.kind) pieces are.1 last are.5 c.0 rest
      (subst (λ x. PiecesUpTo x c.0 pieces rest) (sym (piece_lines line fresh n p are.0 are.2 are.4 ok)) c.4) places answer r (subst (λ x. ListedFrom x answer) (behind_other p.kind n k) l) in
      subst (λ x. PartsAreThere x) (sym are.3) (both_there are.0 are.1 (piece_there line fresh n p are.0 are.2 are.4 told) more)
  all_there line fresh n (p ∷ pieces) parts last are text rest c (m ∷ places) answer (source.stops q qs i ms stop k s) l = absurd l
  all_there line fresh n (p ∷ pieces) parts last are text rest c (m ∷ places) answer (source.statement q qs i ms e others b k s r is) l =
      let listed = subst (ListedFrom n) is l in
      let told : IsTold (record { 0 = line }) n p = λ kind units have. subst (λ (x : ℕ). TokenIsThere es (record { 0 = x }) (emb_token n (is_executable units))) c.2 (told_there es n p m e s (first_listed n e others listed) units have) in
      let more : NoFault are.0 → PartsAreThere are.1 = λ ok. all_there are.2 (is_fresh_after fresh p.bytes) (statements_behind n p.kind) pieces are.1 last are.5 c.0 rest
      (subst (λ x. PiecesUpTo x c.0 pieces rest) (sym (piece_lines line fresh n p are.0 are.2 are.4 ok)) c.4) places others r (subst (λ x. ListedFrom x others) (behind_one p.kind n k) (next_listed n e others listed)) in
      subst (λ x. PartsAreThere x) (sym are.3) (both_there are.0 are.1 (piece_there line fresh n p are.0 are.2 are.4 told) more)

  -- ---- joined strings

  two_join : (p q : Part) (parts : List Part) (a b : Result TokData FaultKind) → p.tok ≡ a → q.tok ≡ b → Then p.line a (Then q.line b (PartsAreThere parts)) → PartsAreThere (join_two p a q b parts)
  two_join p q parts (Ok (string_token s)) (Ok (string_token t)) e f h = (tt, h.1.1)
  two_join p q parts a b e f h =
      subst (λ x. Then p.line x (Then q.line q.tok (PartsAreThere parts))) (sym e) (subst (λ x. Then p.line a (Then q.line x (PartsAreThere parts))) (sym f) h)

  first_joins : (p : Part) (parts : List Part) → Then p.line p.tok (PartsAreThere parts) → PartsAreThere (join_first p parts)
  first_joins p [] h = h
  first_joins p (q ∷ parts) h = two_join p q parts p.tok q.tok refl refl h

  then_more : (line : ℕ) (r : Result TokData FaultKind) (X Y : Type 0) → (X → Y) → Then line r X → Then line r Y
  then_more line (Ok k) X Y f h = (h.0, f h.1)
  then_more line (Err kind) X Y f h = tt

  all_join : (parts : List Part) → PartsAreThere parts → PartsAreThere (join_strings parts)
  all_join [] h = tt
  all_join (p ∷ parts) h = first_joins p (join_strings parts) (then_more p.line p.tok (PartsAreThere parts) (PartsAreThere (join_strings parts)) (λ k. all_join parts k) h)

  -- ---- tokens

  rest_ok : (t : TokenData) (r : Result (List TokenData) Stop) (ts : List TokenData) → with_token t r ≡ Ok ts → (us : List TokenData) × (r ≡ Ok us) × (ts ≡ t ∷ us)
  rest_ok t (Ok us) ts e = let same : t ∷ us ≡ ts = cc in (us, refl, sym same)
  rest_ok t (Err stop) ts e = absurd (cc)

  numbered_there : (most : Option ℕ) (place last : ℕ) (parts : List Part) (ts : List TokenData) → numbered_within most place last parts ≡ Ok ts → PartsAreThere parts → TokensAreThere es ts
  numbered_there most place last [] ts e h = let same : token TokData.end_token last place ∷ [] ≡ ts = cc in subst (λ x. TokensAreThere es x) same (tt, tt)
  numbered_there most place last (p ∷ parts) ts e h = on p.tok e h (numbered_there most (suc place) last parts)
    where
      on : (k : Result TokData FaultKind) → part_within most place p.line k (numbered_within most (suc place) last parts) ≡ Ok ts → Then p.line k (PartsAreThere parts)
          → ((us : List TokenData) → numbered_within most (suc place) last parts ≡ Ok us → PartsAreThere parts → TokensAreThere es us)
          → TokensAreThere es ts
      on (Err kind) e h ih = absurd (cc)
      on (Ok k) e h ih = test (is_full most place) e
        where
          test : (full : Bool) → (if full then Err (Limit L2) else with_token (token k p.line place) (numbered_within most (suc place) last parts)) ≡ Ok ts → TokensAreThere es ts
          test true e = absurd (cc)
          test false e =
              let r = rest_ok (token k p.line place) (numbered_within most (suc place) last parts) ts e in
              subst (λ x. TokensAreThere es x) (sym r.2) (h.0, ih r.0 r.1 h.1)

  no_head : (parts : List Part) → PartsAreThere parts → PartsAreThere (without_head false parts)
  no_head [] h = h
  no_head (p ∷ []) h = h
  no_head (p ∷ q ∷ parts) h = h

  tokens_there : (text : Text) (pieces : List Piece) (ts : List TokenData) (places : List ℕ) (answer : Result (List EmbData) Stop) → Pieces text pieces → Tokens false pieces ts → ReadsStatements pieces places answer → ListedFrom 0 answer → TokensAreThere es ts
  tokens_there text pieces ts places answer c are r l =
      numbered_there (Some max_tokens) 0 are.1 (without_head false (join_strings are.0)) ts (sym are.3)
      (no_head (join_strings are.0) (all_join are.0 (all_there 1 true 0 pieces are.0 are.1 are.2 text [] c places answer r l)))

-- ---- sources

abbrev list_of : Result (List EmbData) Stop → List EmbData
list_of (Ok es) = es
list_of (Err stop) = []

record IsWith (u v : UnitData) (es : Result (List EmbData) Stop) : Type 0 where
  embs : es ≡ Ok v.embs
  tops : u.tops ≡ v.tops

is_with : (u v : UnitData) (es : Result (List EmbData) Stop) → Ok v ≡ with_statements u es → IsWith u v es
is_with u v (Ok es) e = let same : record u { embs = es } ≡ v = cc in record { embs = ap (λ (x : UnitData). Ok x.embs) same; tops = ap (λ (x : UnitData). x.tops) same }
is_with u v (Err stop) e = absurd (cc)

-- The statements that stand in the tree of a source are there.
pub source_there : (text : Text) (v : UnitData) → ReadsTree text (Ok v) → TopsAreThere v.embs v.tops
source_there text v (source.statements pieces ts u es answer l c x is r e) =
    let w = is_with u v es e in
    let listed : ListedFrom v.embs 0 es = subst (ListedFrom v.embs 0) (sym w.embs) (λ m. let same : 0 + m ≡ m = omega arith in ap (slice_get v.embs) same) in
    subst (TopsAreThere v.embs) w.tops (tree_is v.embs ts u (tokens_there v.embs text pieces ts (statement_places ts) es c x r listed) is)
