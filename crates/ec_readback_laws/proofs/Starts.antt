-- What the chunks of a tree begin with: a token, so that no line `#line` stands there and the tree knows where it starts.
use Rattle.std.proofs.Common.{◌≡◌, ℕ, zero, suc, Bool, true, false, [], ◌∷◌, ◌++◌, refl, ap, ◌∙◌, Some, None, append_assoc}
use Rattle.std.specs.Prelude.{not, nat_lt}
use Rattle.std.proofs.lemmas.Bool.{false≢true}
use Rattle.ec_ctypes.specs.declared.text.token.Punct.TheVariants as p
use Rattle.ec_ctypes.specs.trees.Exprs.{ExprData, integer, character, string, identifier, unary, binary, assign, bump, call, call_other, index, member, arrow, cast, size_type, size_expr, BaseData, words, varchar, tagged, struct_base, InitData, one, many, DeclaratorData, declarator}
use Rattle.ec_language.specs.Letters.{Text}
use Rattle.ec_language.specs.Productions.{or_rank, Start, start_of}
use Rattle.ec_writing_defs.specs.Chunks.{the, blank, line_end, line_mark, Chunks, At, tokens_from}
use Rattle.ec_writing_defs.specs.Expressions.{Level, ranked, postfixed, height, tighter, rank_of, level, binary_mark, assign_mark, bump_mark, mark, word, in_parens, at_place, before_dot, star_chunks, bumped_chunks, expr_chunks, list_chunks, base_chunks, dims_chunks, init_chunks, initializer_chunks, declarator_chunks}
use Rattle.ec_writing_defs.specs.Shapes.{is_written_base}
use Rattle.ec_language.proofs.Classes.{turn_not}
use Rattle.ec_readback_laws.proofs.Lexing.{is_first}
use Rattle.ec_readback_laws.proofs.Parts.{begins_line}

-- a token stands here that needn't be first on its line
abbrev pub begins_token : Chunks → Bool
begins_token (the x ∷ cs) = not (is_first x)
begins_token _ = false

pub no_line : (cs : Chunks) → begins_token cs ≡ true → begins_line cs ≡ false
no_line [] h = refl
no_line (the x ∷ cs) h = turn_not (is_first x) h
no_line (blank ∷ cs) h = refl
no_line (line_end ∷ cs) h = refl
no_line (line_mark n ∷ cs) h = absurd (false≢true h)

token_in_place : (m : Level) (e : ExprData) (cs rest : Chunks) → begins_token (cs ++ rest) ≡ true → begins_token (at_place m e cs ++ rest) ≡ true
token_in_place m e cs rest h = go (nat_lt (height (level e)) (height m))
  where
    go : (t : Bool) → begins_token ((elim t [ true ↦ in_parens cs | false ↦ cs ]) ++ rest) ≡ true
    go true = refl
    go false = h

pub token_before : (xs ys rest : Chunks) → begins_token (xs ++ (ys ++ rest)) ≡ true → begins_token ((xs ++ ys) ++ rest) ≡ true
token_before xs ys rest h = ap begins_token (append_assoc xs ys rest) ∙ h

token_dotted : (e : ExprData) (cs rest : Chunks) → begins_token (cs ++ rest) ≡ true → begins_token (before_dot e cs ++ rest) ≡ true
token_dotted (integer n t) cs rest h = refl
token_dotted (character n) cs rest h = token_in_place postfixed (character n) cs rest h
token_dotted e cs rest h = token_in_place postfixed e cs rest h

token_bumped : (before up : Bool) (cs rest : Chunks) → ((r : Chunks) → begins_token (cs ++ r) ≡ true) → begins_token (bumped_chunks before up cs ++ rest) ≡ true
token_bumped true up cs rest h = refl
token_bumped false up cs rest h = token_before cs (mark (bump_mark up) ∷ []) rest (h (mark (bump_mark up) ∷ rest))

pub expr_token : (e : ExprData) (rest : Chunks) → begins_token (expr_chunks e ++ rest) ≡ true
expr_token (integer n t) rest = refl
expr_token (character c) rest = refl
expr_token (string s) rest = refl
expr_token (identifier x) rest = refl
expr_token (unary op a) rest = refl
expr_token (binary op a b) rest =
    let ys = blank ∷ mark (binary_mark op) ∷ blank ∷ at_place (tighter (rank_of op)) b (expr_chunks b) in
    token_before (at_place (ranked (rank_of op)) a (expr_chunks a)) ys rest (token_in_place (ranked (rank_of op)) a (expr_chunks a) (ys ++ rest) (expr_token a (ys ++ rest)))
expr_token (assign o a b) rest =
    let ys = blank ∷ mark (assign_mark o) ∷ blank ∷ expr_chunks b in
    token_before (at_place (ranked or_rank) a (expr_chunks a)) ys rest (token_in_place (ranked or_rank) a (expr_chunks a) (ys ++ rest) (expr_token a (ys ++ rest)))
expr_token (bump before up a) rest = token_bumped before up (at_place postfixed a (expr_chunks a)) rest (λ r. token_in_place postfixed a (expr_chunks a) r (expr_token a r))
expr_token (call f es) rest = refl
expr_token (call_other f es) rest =
    let ys = mark p.LeftParen ∷ list_chunks es ++ mark p.RightParen ∷ [] in
    token_before (at_place postfixed f (expr_chunks f)) ys rest (token_in_place postfixed f (expr_chunks f) (ys ++ rest) (expr_token f (ys ++ rest)))
expr_token (index a b) rest =
    let ys = mark p.LeftBracket ∷ expr_chunks b ++ mark p.RightBracket ∷ [] in
    token_before (at_place postfixed a (expr_chunks a)) ys rest (token_in_place postfixed a (expr_chunks a) (ys ++ rest) (expr_token a (ys ++ rest)))
expr_token (member a m) rest =
    let ys = mark p.Dot ∷ word m ∷ [] in
    token_before (before_dot a (expr_chunks a)) ys rest (token_dotted a (expr_chunks a) (ys ++ rest) (expr_token a (ys ++ rest)))
expr_token (arrow a m) rest =
    let ys = mark p.Arrow ∷ word m ∷ [] in
    token_before (at_place postfixed a (expr_chunks a)) ys rest (token_in_place postfixed a (expr_chunks a) (ys ++ rest) (expr_token a (ys ++ rest)))
expr_token (cast b stars a) rest = refl
expr_token (size_type b stars) rest = refl
expr_token (size_expr a) rest = refl

pub place_token_first : (m : Level) (e : ExprData) (rest : Chunks) → begins_token (at_place m e (expr_chunks e) ++ rest) ≡ true
place_token_first m e rest = token_in_place m e (expr_chunks e) rest (expr_token e rest)

pub expr_line : (e : ExprData) (rest : Chunks) → begins_line (expr_chunks e ++ rest) ≡ false
expr_line e rest = no_line (expr_chunks e ++ rest) (expr_token e rest)

pub place_line : (m : Level) (e : ExprData) (rest : Chunks) → begins_line (at_place m e (expr_chunks e) ++ rest) ≡ false
place_line m e rest = no_line (at_place m e (expr_chunks e) ++ rest) (place_token_first m e rest)

pub line_before : (xs ys rest : Chunks) → begins_line (xs ++ (ys ++ rest)) ≡ false → begins_line ((xs ++ ys) ++ rest) ≡ false
line_before xs ys rest h = ap begins_line (append_assoc xs ys rest) ∙ h

pub base_token : (n : ℕ) (b : BaseData) (rest : Chunks) → is_written_base n b ≡ true → begins_token (base_chunks b ++ rest) ≡ true
base_token n (words []) r h = absurd (false≢true h)
base_token n (words (w ∷ ws)) r h = refl
base_token n (tagged t) r h = refl
base_token n varchar r h = absurd (false≢true h)
base_token n (struct_base None ms) r h = refl
base_token n (struct_base (Some t) ms) r h = refl

pub init_token : (i : InitData) (rest : Chunks) → begins_token (init_chunks i ++ rest) ≡ true
init_token (one e) rest = expr_token e rest
init_token (many is) rest = refl

pub stars_token : (n : ℕ) (x : Text) (rest : Chunks) → begins_token (star_chunks n ++ word x ∷ rest) ≡ true
stars_token zero x rest = refl
stars_token (suc n) x rest = refl

pub declarator_token : (d : DeclaratorData) (rest : Chunks) → begins_token (declarator_chunks d ++ rest) ≡ true
declarator_token (declarator stars name ds i) rest =
    token_before (star_chunks stars) (word name ∷ dims_chunks ds ++ initializer_chunks i) rest (stars_token stars name ((dims_chunks ds ++ initializer_chunks i) ++ rest))

-- what is derived from there knows this line
pub starts_at : (cs : Chunks) (at : At) → begins_token cs ≡ true → ◌≡◌ {A = Start} (start_of (tokens_from at cs)) (record { line = record { 0 = at.line }; section = false })
starts_at [] at h = absurd (false≢true h)
starts_at (the x ∷ cs) at h = refl
starts_at (blank ∷ cs) at h = absurd (false≢true h)
starts_at (line_end ∷ cs) at h = absurd (false≢true h)
starts_at (line_mark n ∷ cs) at h = absurd (false≢true h)
