-- The chunks of expressions, and of the declarations that may stand in them, stand apart: from one another and from what follows.
use Rattle.std.proofs.Common.{◌≡◌, ℕ, zero, suc, ◌<◌, Bool, true, false, not, ◌&&◌, List, [], ◌∷◌, ◌++◌, length, refl, inl, inr, ap, sym, ◌∙◌, subst, arith, Option, Some, None, append_assoc}
use Rattle.std.specs.Prelude.{codes, nat_lt, ◌==◌, ◌||◌}
use Rattle.std.specs.Fmt.{decimal}
use Rattle.std.specs.List.{list_all}
use Rattle.std.proofs.lemmas.Bool.{false≢true}
use Rattle.std.proofs.lemmas.Bool.Decides.{nat_tests}
use Rattle.std.proofs.lemmas.Fmt.{decimal_nonempty}
use Rattle.ec_ctypes.specs.declared.text.token.Punct.{Punct}
use Rattle.ec_ctypes.specs.declared.text.token.Punct.TheVariants as p
use Rattle.ec_ctypes.specs.declared.tree.expr.UnOp.{UnOp}
use Rattle.ec_ctypes.specs.trees.Types.{TyData}
use Rattle.ec_ctypes.specs.trees.Exprs.{ExprData, integer, character, string, identifier, unary, binary, assign, bump, call, call_other, index, member, arrow, cast, size_type, size_expr, ExprList, no_exprs, exprs, BaseData, words, varchar, tagged, struct_base, DimData, open_dim, dim, DimList, no_dims, dims, InitData, one, many, InitList, no_inits, inits, InitOption, no_init, some_init, DeclaratorData, declarator, DeclaratorList, no_declarators, declarators, DeclData, decl, DeclList, no_decls, decls}
use Rattle.ec_language.specs.Letters.{Text, is_digit, is_word_start, is_word_byte, is_number_byte, begins, each, same_text, same_word, is_among}
use Rattle.ec_language.specs.CText.{is_word}
use Rattle.ec_language.specs.Keywords.{is_name, type_words}
use Rattle.ec_language.specs.Productions.{Rank, or_rank}
use Rattle.ec_language.specs.Tokens.{is_left_out_word}
use Rattle.ec_language.proofs.Ends.{both}
use Rattle.ec_language.proofs.Classes.{either}
use Rattle.ec_language.proofs.Marks.{same_text_is}
use Rattle.ec_writing_defs.specs.Chunks.{blank, Chunks, text_of, suffix}
use Rattle.ec_writing_defs.specs.Expressions.{Level, ranked, postfixed, height, tighter, rank_of, level, binary_mark, assign_mark, unary_mark, bump_mark, mark, word, in_parens, at_place, before_dot, more_word_chunks, word_chunks, star_chunks, stars_behind, struct_head, bumped_chunks, expr_chunks, list_chunks, more_chunks, base_chunks, members_chunks, type_chunks, dim_chunks, dims_chunks, init_chunks, inits_chunks, more_inits_chunks, initializer_chunks, declarator_chunks, more_declarators_chunks, declarators_chunks, decl_chunks}
use Rattle.ec_writing_defs.specs.Shapes.{is_no_name, is_plain_name, is_area_word, is_free_name, is_tag, is_tag_option, is_assignable, are_type_words, fits_type, is_written_expr, are_written_exprs, is_written_base, are_written_members, is_written_member, is_written_dim, are_written_dims, is_written_init, are_some_inits, are_written_inits, is_written_initializer, is_written_declarator, are_written_declarators}
use Rattle.ec_readback_laws.proofs.Numbers.{decimal_is, fits_small}
use Rattle.ec_readback_laws.proofs.Marks.{is_tail, is_closed, is_apart}
use Rattle.ec_readback_laws.proofs.Lexing.{begins_sql}
use Rattle.ec_readback_laws.proofs.Parts.{begins_line, begins_string, Fits, AllFit}
use Rattle.ec_readback_laws.proofs.Starts.{begins_token, no_line, token_before, line_before, expr_line, place_line, base_token, init_token, declarator_token}

-- ---- one after the other

-- the chunks stand apart, before these others
abbrev pub Fine : Chunks → Chunks → Type 0
Fine [] rest = Unit {0}
Fine (c ∷ cs) rest = Fits c (cs ++ rest) × Fine cs rest

pub fine_append : (xs ys rest : Chunks) → Fine xs (ys ++ rest) → Fine ys rest → Fine (xs ++ ys) rest
fine_append [] ys rest a b = b
fine_append (x ∷ xs) ys rest a b = (subst (Fits x) (sym (append_assoc xs ys rest)) a.0, fine_append xs ys rest a.1 b)

pub fine_all : (cs rest : Chunks) → Fine cs rest → AllFit rest → AllFit (cs ++ rest)
fine_all [] rest a b = b
fine_all (c ∷ cs) rest a b = (a.0, fine_all cs rest a.1 b)

-- ---- what follows an expression

-- What stands behind an expression: no word, no number and no string that it would be one with. Before `.` an integer does not stand.
pub record Closing (loose : Bool) (rest : Chunks) : Type 0 where
  pub word : begins is_word_byte (text_of rest) ≡ false
  pub sql : begins_sql (text_of rest) ≡ false
  pub line : begins_line rest ≡ false
  pub strings : begins_string rest ≡ false
  pub number : loose ≡ true → begins is_number_byte (text_of rest) ≡ false

pub weaker : (b : Bool) (rest : Chunks) → Closing true rest → Closing b rest
weaker b rest c = record { word = c.word; sql = c.sql; line = c.line; strings = c.strings; number = λ e. c.number refl }

-- behind a blank a mark
pub blank_mark : (m : Punct) (cs : Chunks) → Closing true (blank ∷ mark m ∷ cs)
blank_mark p.Arrow cs = record { word = refl; sql = refl; line = refl; strings = refl; number = λ e. refl }
blank_mark _ cs = record { word = refl; sql = refl; line = refl; strings = refl; number = λ e. refl }

-- a mark that is no `.`
abbrev pub is_dot : Punct → Bool
is_dot p.Dot = true
is_dot _ = false

pub a_mark : (m : Punct) (cs : Chunks) → is_dot m ≡ false → Closing true (mark m ∷ cs)
a_mark p.Dot cs h = absurd (false≢true (sym h))
a_mark _ cs h = record { word = refl; sql = refl; line = refl; strings = refl; number = λ e. refl }

pub a_dot : (cs : Chunks) → Closing false (mark p.Dot ∷ cs)
a_dot cs = record { word = refl; sql = refl; line = refl; strings = refl; number = λ e. absurd (false≢true e) }

and_false : (b c : Bool) → c ≡ false → (b && c) ≡ false
and_false true c e = e
and_false false c e = refl

pub word_fits : (x : Text) (rest : Chunks) → is_plain_name x ≡ true → begins is_word_byte (text_of rest) ≡ false → begins_sql (text_of rest) ≡ false → begins_line rest ≡ false → Fits (word x) rest
word_fits x rest h w s l =
    let k = both (is_word x) (not (is_left_out_word x) && is_name x) h in
    let j = both (not (is_left_out_word x)) (is_name x) k.1 in
    ((k.0, not_back (is_left_out_word x) j.0, w, and_false (same_word x (codes "EXEC")) (begins_sql (text_of rest)) s), l, refl)
  where
    not_back : (b : Bool) → not b ≡ true → b ≡ false
    not_back true h = absurd (false≢true h)
    not_back false h = refl

pub name_fits : (x : Text) (b : Bool) (rest : Chunks) → is_plain_name x ≡ true → Closing b rest → Fits (word x) rest
name_fits x b rest h c = word_fits x rest h c.word c.sql c.line

-- before a blank any mark, and before all a mark that nothing goes on with
pub mark_before_blank : (m : Punct) (cs : Chunks) → Fits (mark m) (blank ∷ cs)
mark_before_blank p.Arrow cs = (refl, refl, refl)
mark_before_blank _ cs = (refl, refl, refl)

pub plain_start : (x : Text) (t : Text) → is_plain_name x ≡ true → begins is_tail (x ++ t) ≡ false
plain_start [] t h = absurd (false≢true h)
plain_start (b ∷ x) t h = let k = both (is_word (b ∷ x)) (not (is_left_out_word (b ∷ x)) && is_name (b ∷ x)) h in letter b ((both (is_word_start b) (each is_word_byte x) k.0).0)
  where
    letter : (b : ℕ) → is_word_start b ≡ true → is_tail b ≡ false
    letter b h = grind (arith, nat_tests)

pub plain : (x : Text) → is_free_name x ≡ true → is_plain_name x ≡ true
plain x h = (both (is_plain_name x) (not (is_area_word x)) h).0

-- ---- postfix expressions begin with no mark but `(`

abbrev Soft : Chunks → Type 0
Soft cs = begins is_tail (text_of cs) ≡ false

soft_before : (xs ys rest : Chunks) → Soft (xs ++ (ys ++ rest)) → Soft ((xs ++ ys) ++ rest)
soft_before xs ys rest h = ap (λ cs. begins is_tail (text_of cs)) (append_assoc xs ys rest) ∙ h

digit_soft : (n : ℕ) (t : TyData) (r : Text) → fits_type n t ≡ true → begins is_tail ((decimal n ++ suffix t) ++ r) ≡ false
digit_soft n t r h = go (decimal n) (decimal_is n (fits_small n t h)).digits (decimal_nonempty n (fits_small n t h))
  where
    plain : (b : ℕ) → is_digit b ≡ true → is_tail b ≡ false
    plain b h = grind (arith, nat_tests)

    go : (ds : Text) → each is_digit ds ≡ true → 0 < length ds → begins is_tail ((ds ++ suffix t) ++ r) ≡ false
    go [] e l = absurd (omega arith)
    go (b ∷ ds) e l = plain b ((both (is_digit b) (each is_digit ds) e).0)

-- ---- types

passes : (P : Text → Bool) (ts : List Text) (u : Text) → list_all P ts ≡ true → is_among ts u ≡ true → P u ≡ true
passes P [] u a e = absurd (false≢true e)
passes P (t ∷ ts) u a e =
    let k = both (P t) (list_all P ts) a in
    elim (either (same_text t u) (is_among ts u) e) [ inl h ↦ subst (λ x. P x ≡ true) (same_text_is t u h) k.0 | inr h ↦ passes P ts u k.1 h ]

abbrev is_safe_word : Text → Bool
is_safe_word w = is_word w && (not (is_left_out_word w) && not (same_word w (codes "EXEC")))

pub type_word_fits : (w : Text) (rest : Chunks) → is_among type_words w ≡ true → begins is_word_byte (text_of rest) ≡ false → begins_line rest ≡ false → Fits (word w) rest
type_word_fits w rest h b l =
    let k = both (is_word w) (not (is_left_out_word w) && not (same_word w (codes "EXEC"))) (passes is_safe_word type_words w refl h) in
    let j = both (not (is_left_out_word w)) (not (same_word w (codes "EXEC"))) k.1 in
    ((k.0, back (is_left_out_word w) j.0, b, (λ i. back (same_word w (codes "EXEC")) j.1 i && begins_sql (text_of rest))), l, refl)
  where
    back : (b : Bool) → not b ≡ true → b ≡ false
    back true h = absurd (false≢true h)
    back false h = refl

pub tag_fits : (t : Text) (rest : Chunks) → is_tag t ≡ true → begins is_word_byte (text_of rest) ≡ false → begins_line rest ≡ false → Fits (word t) rest
tag_fits t rest h b l =
    let k = both (is_plain_name t) (not (same_word t (codes "EXEC"))) h in
    let i = both (is_word t) (not (is_left_out_word t) && is_name t) k.0 in
    let j = both (not (is_left_out_word t)) (is_name t) i.1 in
    ((i.0, back (is_left_out_word t) j.0, b, (λ n. back (same_word t (codes "EXEC")) k.1 n && begins_sql (text_of rest))), l, refl)
  where
    back : (b : Bool) → not b ≡ true → b ≡ false
    back true h = absurd (false≢true h)
    back false h = refl

words_fine : (w : Text) (ws : List Text) (rest : Chunks) → are_type_words (w ∷ ws) ≡ true → begins is_word_byte (text_of rest) ≡ false → begins_line rest ≡ false → Fine (word_chunks (w ∷ ws)) rest
words_fine w [] rest h b l = (type_word_fits w rest ((both _ _ h).0) b l, tt)
words_fine w (v ∷ ws) rest h b l = let k = both (is_among type_words w) (are_type_words (v ∷ ws)) h in
    (type_word_fits w (more_word_chunks (v ∷ ws) ++ rest) k.0 refl refl, (refl, words_fine v ws rest k.1 b l))

stars_apart : (n : ℕ) (rest : Chunks) → Soft rest → is_apart p.Star (text_of (star_chunks n ++ rest)) ≡ true
stars_apart zero rest s = λ i. elim (s i) [ true ↦ begins (λ b. b == 42) (text_of rest) | false ↦ true ]
stars_apart (suc n) rest s = refl

stars_line : (n : ℕ) (rest : Chunks) → begins_line rest ≡ false → begins_line (star_chunks n ++ rest) ≡ false
stars_line zero rest l = l
stars_line (suc n) rest l = refl

pub stars_fine : (n : ℕ) (rest : Chunks) → Soft rest → begins_line rest ≡ false → Fine (star_chunks n) rest
stars_fine zero rest s l = tt
stars_fine (suc n) rest s l = ((stars_apart n rest s, stars_line n rest l, refl), stars_fine n rest s l)

-- ---- declarations

dim_line : (d : DimData) (rest : Chunks) → begins_line rest ≡ false → begins_line (dim_chunks d ++ rest) ≡ false
dim_line open_dim rest l = l
dim_line (dim e) rest l = place_line (ranked or_rank) e rest

pub dims_line : (ds : DimList) (rest : Chunks) → begins_line rest ≡ false → begins_line (dims_chunks ds ++ rest) ≡ false
dims_line no_dims rest l = l
dims_line (dims d ds) rest l = refl

pub dims_closing : (ds : DimList) (rest : Chunks) → Closing true rest → Closing true (dims_chunks ds ++ rest)
dims_closing no_dims rest c = c
dims_closing (dims d ds) rest c = a_mark p.LeftBracket (((dim_chunks d ++ mark p.RightBracket ∷ []) ++ dims_chunks ds) ++ rest) refl

more_inits_closing : (is : InitList) (rest : Chunks) → Closing true (more_inits_chunks is ++ mark p.RightBrace ∷ rest)
more_inits_closing no_inits rest = a_mark p.RightBrace rest refl
more_inits_closing (inits i is) rest = a_mark p.Comma ((blank ∷ init_chunks i ++ more_inits_chunks is) ++ mark p.RightBrace ∷ rest) refl

initializer_closing : (i : InitOption) (rest : Chunks) → Closing true rest → Closing true (initializer_chunks i ++ rest)
initializer_closing no_init rest c = c
initializer_closing (some_init i) rest c = blank_mark p.Assign ((blank ∷ init_chunks i) ++ rest)

-- stars, and a name
pub named_fine : (n : ℕ) (x : Text) (rest : Chunks) → is_plain_name x ≡ true → Closing true rest → Fine (star_chunks n ++ word x ∷ []) rest
named_fine n x rest h c = fine_append (star_chunks n) (word x ∷ []) rest (stars_fine n (word x ∷ rest) (plain_start x (text_of rest) h) refl) (word_fits x rest h c.word c.sql c.line, tt)

more_declarators_closing : (ds : DeclaratorList) (rest : Chunks) → Closing true (more_declarators_chunks ds ++ mark p.Semicolon ∷ rest)
more_declarators_closing no_declarators rest = a_mark p.Semicolon rest refl
more_declarators_closing (declarators d ds) rest = a_mark p.Comma ((blank ∷ declarator_chunks d ++ more_declarators_chunks ds) ++ mark p.Semicolon ∷ rest) refl

-- whether an expression may end in a number
abbrev pub is_loose : ExprData → Bool
is_loose (character c) = false
is_loose (string s) = false
is_loose (identifier x) = false
is_loose (bump false up a) = false
is_loose (call f es) = false
is_loose (call_other f es) = false
is_loose (index a b) = false
is_loose (member a m) = false
is_loose (arrow a m) = false
is_loose _ = true

module _ (n : ℕ) where
  -- an expression at the level of postfix expressions, whatever its own
  pub place_soft : (e : ExprData) → is_written_expr n e ≡ true → (rest : Chunks) → Soft (at_place postfixed e (expr_chunks e) ++ rest)
  place_soft (integer v t) h rest = digit_soft v t (text_of rest) h
  place_soft (character c) h rest = refl
  place_soft (string s) h rest = refl
  place_soft (identifier x) h rest = plain_start x (text_of rest) (plain x h)
  place_soft (unary op a) h rest = refl
  place_soft (binary op a b) h rest = below (rank_of op)
    where
      below : (r : Rank) → Soft ((elim (nat_lt (height (ranked r)) 13) [ true ↦ in_parens (expr_chunks (binary op a b)) | false ↦ expr_chunks (binary op a b) ]) ++ rest)
      below or_rank = refl
      below _ = refl
  place_soft (assign o a b) h rest = refl
  place_soft (bump true up a) h rest = refl
  place_soft (bump false up a) h rest = soft_before (at_place postfixed a (expr_chunks a)) (mark (bump_mark up) ∷ []) rest (place_soft a h (mark (bump_mark up) ∷ rest))
  place_soft (call f es) h rest = plain_start f _ (plain f (both (is_free_name f) (are_written_exprs n es) h).0)
  place_soft (call_other f es) h rest =
      let ys = mark p.LeftParen ∷ list_chunks es ++ mark p.RightParen ∷ [] in
      let k = both (is_no_name f) (is_written_expr n f && are_written_exprs n es) h in
      soft_before (at_place postfixed f (expr_chunks f)) ys rest (place_soft f (both (is_written_expr n f) (are_written_exprs n es) k.1).0 (ys ++ rest))
  place_soft (index a b) h rest =
      let ys = mark p.LeftBracket ∷ expr_chunks b ++ mark p.RightBracket ∷ [] in
      soft_before (at_place postfixed a (expr_chunks a)) ys rest (place_soft a ((both (is_written_expr n a) (is_written_expr n b) h).0) (ys ++ rest))
  place_soft (member a m) h rest =
      let ys = mark p.Dot ∷ word m ∷ [] in
      soft_before (before_dot a (expr_chunks a)) ys rest (dotted a (expr_chunks a) (ys ++ rest) (place_soft a ((both (is_plain_name m) (is_written_expr n a) h).1) (ys ++ rest)))
    where
      dotted : (e : ExprData) (cs r : Chunks) → Soft (at_place postfixed e cs ++ r) → Soft (before_dot e cs ++ r)
      dotted (integer v t) cs r h = refl
      dotted (character v) cs r h = h
      dotted e cs r h = h
  place_soft (arrow a m) h rest =
      let ys = mark p.Arrow ∷ word m ∷ [] in
      soft_before (at_place postfixed a (expr_chunks a)) ys rest (place_soft a ((both (is_plain_name m) (is_written_expr n a) h).1) (ys ++ rest))
  place_soft (cast b stars a) h rest = refl
  place_soft (size_type b stars) h rest = refl
  place_soft (size_expr a) h rest = refl

  -- what is known of a base: it stands apart from what follows
  abbrev FineBase : BaseData → Type 0
  FineBase b = (rest : Chunks) → begins is_word_byte (text_of rest) ≡ false → begins_line rest ≡ false → Fine (base_chunks b) rest

  type_fine : (b : BaseData) (stars : ℕ) (rest : Chunks) → is_written_base n b ≡ true → FineBase b → begins_line rest ≡ false → Fine (type_chunks b stars) rest
  type_fine b stars rest h f l =
      let ys = stars_behind stars ++ mark p.RightParen ∷ [] in
      ((refl, line_before (base_chunks b) ys rest (no_line (base_chunks b ++ (ys ++ rest)) (base_token n b (ys ++ rest) h)), refl), fine_append (base_chunks b) ys rest (f (ys ++ rest) (free stars) (line stars)) (behind stars))
    where
      free : (k : ℕ) → begins is_word_byte (text_of ((stars_behind k ++ mark p.RightParen ∷ []) ++ rest)) ≡ false
      free zero = refl
      free (suc k) = refl

      line : (k : ℕ) → begins_line ((stars_behind k ++ mark p.RightParen ∷ []) ++ rest) ≡ false
      line zero = refl
      line (suc k) = refl

      behind : (k : ℕ) → Fine (stars_behind k ++ mark p.RightParen ∷ []) rest
      behind zero = ((refl, l, refl), tt)
      behind (suc k) = (refl, fine_append (star_chunks (suc k)) (mark p.RightParen ∷ []) rest (stars_fine (suc k) (mark p.RightParen ∷ rest) refl refl) ((refl, l, refl), tt))

  -- ---- expressions

  abbrev FineExpr : ExprData → Type 0
  FineExpr e = (rest : Chunks) → Closing (is_loose e) rest → Fine (expr_chunks e) rest

  pub parens_fine : (e : ExprData) → FineExpr e → (rest : Chunks) → begins_line rest ≡ false → Fine (in_parens (expr_chunks e)) rest
  parens_fine e f rest l = (
    (refl, line_before (expr_chunks e) (mark p.RightParen ∷ []) rest (expr_line e (mark p.RightParen ∷ rest)), refl),
    fine_append (expr_chunks e) (mark p.RightParen ∷ []) rest (f (mark p.RightParen ∷ rest) (weaker (is_loose e) (mark p.RightParen ∷ rest) (a_mark p.RightParen rest refl))) ((refl, l, refl), tt),
  )

  pub place_fine : (m : Level) (e : ExprData) → FineExpr e → (rest : Chunks) → Closing true rest → Fine (at_place m e (expr_chunks e)) rest
  place_fine m e f rest c = go (nat_lt (height (level e)) (height m))
    where
      go : (t : Bool) → Fine (elim t [ true ↦ in_parens (expr_chunks e) | false ↦ expr_chunks e ]) rest
      go true = parens_fine e f rest c.line
      go false = f rest (weaker (is_loose e) rest c)

  dot_fine : (e : ExprData) → FineExpr e → (rest : Chunks) → Fine (before_dot e (expr_chunks e)) (mark p.Dot ∷ rest)
  dot_fine (integer v t) f rest = parens_fine (integer v t) f (mark p.Dot ∷ rest) refl
  dot_fine (character v) f rest = f (mark p.Dot ∷ rest) (a_dot rest)
  dot_fine (string v) f rest = f (mark p.Dot ∷ rest) (a_dot rest)
  dot_fine (identifier v) f rest = f (mark p.Dot ∷ rest) (a_dot rest)
  dot_fine (bump false up a) f rest = f (mark p.Dot ∷ rest) (a_dot rest)
  dot_fine (bump true up a) f rest = parens_fine (bump true up a) f (mark p.Dot ∷ rest) refl
  dot_fine (call g es) f rest = f (mark p.Dot ∷ rest) (a_dot rest)
  dot_fine (index a b) f rest = f (mark p.Dot ∷ rest) (a_dot rest)
  dot_fine (member a b) f rest = f (mark p.Dot ∷ rest) (a_dot rest)
  dot_fine (arrow a b) f rest = f (mark p.Dot ∷ rest) (a_dot rest)
  dot_fine (call_other g es) f rest = f (mark p.Dot ∷ rest) (a_dot rest)
  dot_fine (unary op a) f rest = parens_fine (unary op a) f (mark p.Dot ∷ rest) refl
  dot_fine (binary op a b) f rest = below (rank_of op)
    where
      below : (r : Rank) → Fine (elim (nat_lt (height (ranked r)) 13) [ true ↦ in_parens (expr_chunks (binary op a b)) | false ↦ expr_chunks (binary op a b) ]) (mark p.Dot ∷ rest)
      below or_rank = parens_fine (binary op a b) f (mark p.Dot ∷ rest) refl
      below _ = parens_fine (binary op a b) f (mark p.Dot ∷ rest) refl
  dot_fine (assign o a b) f rest = parens_fine (assign o a b) f (mark p.Dot ∷ rest) refl
  dot_fine (cast b k a) f rest = parens_fine (cast b k a) f (mark p.Dot ∷ rest) refl
  dot_fine (size_type b k) f rest = parens_fine (size_type b k) f (mark p.Dot ∷ rest) refl
  dot_fine (size_expr a) f rest = parens_fine (size_expr a) f (mark p.Dot ∷ rest) refl

  -- an operator with its blanks, and the right operand
  operator_fine : (m : Punct) (cs rest : Chunks) → begins_line (cs ++ rest) ≡ false → Fine cs rest → Fine (blank ∷ mark m ∷ blank ∷ cs) rest
  operator_fine m cs rest l f = (refl, (mark_before_blank m (cs ++ rest), (l, f)))

  unary_fits : (op : UnOp) (cs : Chunks) → Soft cs → begins_line cs ≡ false → Fits (mark (unary_mark op)) cs
  unary_fits op cs s l = (soft_apart (unary_mark op) (text_of cs) s, l, refl)
    where
      soft_apart : (m : Punct) (t : Text) → begins is_tail t ≡ false → is_apart m t ≡ true
      soft_apart p.Star t s = λ i. elim (s i) [ true ↦ begins (λ b. b == 42) t | false ↦ true ]
      soft_apart p.Arrow t s = refl
      soft_apart m t s = soft m (begins is_tail t) s
        where
          soft : (m : Punct) (b : Bool) → b ≡ false → (is_closed m || not b) ≡ true
          soft m b e = ap (λ x. is_closed m || not x) e ∙ last (is_closed m)
            where
              last : (c : Bool) → (c || true) ≡ true
              last true = refl
              last false = refl

  bump_closed : (up : Bool) (cs : Chunks) → begins_line cs ≡ false → Fits (mark (bump_mark up)) cs
  bump_closed true cs l = (refl, l, refl)
  bump_closed false cs l = (refl, l, refl)

  bumped_fine : (before up : Bool) (a : ExprData) → FineExpr a → (rest : Chunks) → begins_line rest ≡ false → (before ≡ true → Closing true rest) → Fine (bumped_chunks before up (at_place postfixed a (expr_chunks a))) rest
  bumped_fine true up a f rest l c = (bump_closed up (at_place postfixed a (expr_chunks a) ++ rest) (place_line postfixed a rest), place_fine postfixed a f rest (c refl))
  bumped_fine false up a f rest l c =
      fine_append (at_place postfixed a (expr_chunks a)) (mark (bump_mark up) ∷ []) rest (place_fine postfixed a f (mark (bump_mark up) ∷ rest) (bump_closing up rest)) (bump_closed up rest l, tt)
    where
      bump_closing : (up : Bool) (rest : Chunks) → Closing true (mark (bump_mark up) ∷ rest)
      bump_closing true rest = a_mark p.PlusPlus rest refl
      bump_closing false rest = a_mark p.MinusMinus rest refl

  list_line : (es : ExprList) (rest : Chunks) → begins_line rest ≡ false → begins_line (list_chunks es ++ rest) ≡ false
  list_line no_exprs rest l = l
  list_line (exprs e es) rest l = line_before (expr_chunks e) (more_chunks es) rest (expr_line e (more_chunks es ++ rest))

  more_closing : (es : ExprList) (rest : Chunks) → Closing true (more_chunks es ++ mark p.RightParen ∷ rest)
  more_closing no_exprs rest = a_mark p.RightParen rest refl
  more_closing (exprs e es) rest = a_mark p.Comma (blank ∷ (expr_chunks e ++ more_chunks es) ++ mark p.RightParen ∷ rest) refl

  dot_apart : (m t : Text) → is_plain_name m ≡ true → is_apart p.Dot (m ++ t) ≡ true
  dot_apart m t h = ap (λ b. false || not b) (plain_start m t h)

  one_declarator_fine : (d : DeclaratorData) (ds : DeclaratorList) (rest : Chunks) → ((r : Chunks) → Closing true r → Fine (declarator_chunks d) r) → Fine (more_declarators_chunks ds) (mark p.Semicolon ∷ rest) → Fine (blank ∷ declarator_chunks d ++ more_declarators_chunks ds) (mark p.Semicolon ∷ rest)
  one_declarator_fine d ds rest f g =
      let more = more_declarators_chunks ds ++ mark p.Semicolon ∷ rest in (
        line_before (declarator_chunks d) (more_declarators_chunks ds) (mark p.Semicolon ∷ rest) (no_line (declarator_chunks d ++ more) (declarator_token d more)),
        fine_append (declarator_chunks d) (more_declarators_chunks ds) (mark p.Semicolon ∷ rest) (f more (more_declarators_closing ds rest)) g,
      )

  -- a declaration, by its parts
  pub decl_parts_fine : (b : BaseData) (ds : DeclaratorList) (rest : Chunks) → begins_line rest ≡ false → FineBase b → Fine (declarators_chunks ds) (mark p.Semicolon ∷ rest)
      → Fine (base_chunks b ++ (declarators_chunks ds ++ mark p.Semicolon ∷ [])) rest
  decl_parts_fine b ds rest l f g =
      let ys = declarators_chunks ds ++ mark p.Semicolon ∷ [] in
      fine_append (base_chunks b) ys rest (f (ys ++ rest) (free ds) (no_mark_line ds))
      (fine_append (declarators_chunks ds) (mark p.Semicolon ∷ []) rest g ((refl, l, refl), tt))
    where
      free : (ds : DeclaratorList) → begins is_word_byte (text_of ((declarators_chunks ds ++ mark p.Semicolon ∷ []) ++ rest)) ≡ false
      free no_declarators = refl
      free (declarators d ds) = refl

      no_mark_line : (ds : DeclaratorList) → begins_line ((declarators_chunks ds ++ mark p.Semicolon ∷ []) ++ rest) ≡ false
      no_mark_line no_declarators = refl
      no_mark_line (declarators d ds) = refl

  members_line : (ms : DeclList) (rest : Chunks) → begins_line rest ≡ false → begins_line (members_chunks ms ++ rest) ≡ false
  members_line no_decls rest l = l
  members_line (decls m ms) rest l = member_line m (members_chunks ms ++ rest)
    where
      member_line : (m : DeclData) (r : Chunks) → begins_line (blank ∷ r) ≡ false
      member_line m r = refl

  -- `struct` and its tag, before a blank
  head_fine : (t : Option Text) (rest : Chunks) → is_tag_option t ≡ true → Fine (struct_head t) (blank ∷ rest)
  head_fine None rest h = (((refl, refl, refl, refl), refl, refl), tt)
  head_fine (Some t) rest h = (((refl, refl, refl, refl), refl, refl), (refl, (tag_fits t (blank ∷ rest) h refl refl, tt)))

  -- members in their braces, behind a blank
  braced_fine : (m : DeclData) (ms : DeclList) (rest : Chunks) → begins_line rest ≡ false → Fine (members_chunks (decls m ms)) (blank ∷ mark p.RightBrace ∷ rest)
      → Fine (blank ∷ mark p.LeftBrace ∷ members_chunks (decls m ms) ++ (blank ∷ mark p.RightBrace ∷ [])) rest
  braced_fine m ms rest l f =
      (refl, ((refl, refl, refl), fine_append (members_chunks (decls m ms)) (blank ∷ mark p.RightBrace ∷ []) rest f (refl, ((refl, l, refl), tt))))

  -- a member stands apart, and begins with a token
  abbrev MemberFine : DeclData → Chunks → Type 0
  MemberFine m rest = (begins_token (decl_chunks m ++ rest) ≡ true) × Fine (decl_chunks m) rest

  one_member_fine : (m : DeclData) (ms : DeclList) (rest : Chunks) → MemberFine m (members_chunks ms ++ rest) → Fine (members_chunks ms) rest → Fine (members_chunks (decls m ms)) rest
  one_member_fine m ms rest f g =
      (line_before (decl_chunks m) (members_chunks ms) rest (no_line (decl_chunks m ++ (members_chunks ms ++ rest)) f.0), fine_append (decl_chunks m) (members_chunks ms) rest f.1 g)

  mutual
    pub expr_fine : (e : ExprData) → is_written_expr n e ≡ true → FineExpr e
    expr_fine (integer v t) h rest c = (((h, c.number refl), c.line, refl), tt)
    expr_fine (character x) h rest c = ((h, c.line, refl), tt)
    expr_fine (string s) h rest c = ((h, c.line, c.strings), tt)
    expr_fine (identifier x) h rest c = (name_fits x false rest (plain x h) c, tt)
    expr_fine (unary op a) h rest c =
        (unary_fits op (at_place postfixed a (expr_chunks a) ++ rest) (place_soft a h rest) (place_line postfixed a rest), place_fine postfixed a (expr_fine a h) rest c)
    expr_fine (binary op a b) h rest c =
        let k = both (is_written_expr n a) (is_written_expr n b) h in
        let bs = at_place (tighter (rank_of op)) b (expr_chunks b) in
        fine_append (at_place (ranked (rank_of op)) a (expr_chunks a)) (blank ∷ mark (binary_mark op) ∷ blank ∷ bs) rest
        (place_fine (ranked (rank_of op)) a (expr_fine a k.0) (blank ∷ mark (binary_mark op) ∷ blank ∷ bs ++ rest) (blank_mark (binary_mark op) (blank ∷ bs ++ rest)))
        (operator_fine (binary_mark op) bs rest (place_line (tighter (rank_of op)) b rest) (place_fine (tighter (rank_of op)) b (expr_fine b k.1) rest c))
    expr_fine (assign o a b) h rest c =
        let j = both (is_assignable o) (is_written_expr n a && is_written_expr n b) h in
        let k = both (is_written_expr n a) (is_written_expr n b) j.1 in
        let bs = expr_chunks b in
        fine_append (at_place (ranked or_rank) a (expr_chunks a)) (blank ∷ mark (assign_mark o) ∷ blank ∷ bs) rest
        (place_fine (ranked or_rank) a (expr_fine a k.0) (blank ∷ mark (assign_mark o) ∷ blank ∷ bs ++ rest) (blank_mark (assign_mark o) (blank ∷ bs ++ rest)))
        (operator_fine (assign_mark o) bs rest (expr_line b rest) (expr_fine b k.1 rest (weaker (is_loose b) rest c)))
    expr_fine (bump true up a) h rest c = bumped_fine true up a (expr_fine a h) rest c.line (λ e. c)
    expr_fine (bump false up a) h rest c = bumped_fine false up a (expr_fine a h) rest c.line (λ e. absurd (false≢true e))
    expr_fine (call f es) h rest c =
        let k = both (is_free_name f) (are_written_exprs n es) h in (
          word_fits f (mark p.LeftParen ∷ (list_chunks es ++ mark p.RightParen ∷ []) ++ rest) (plain f k.0) refl refl refl,
          (
            (refl, line_before (list_chunks es) (mark p.RightParen ∷ []) rest (list_line es (mark p.RightParen ∷ rest) refl), refl),
            fine_append (list_chunks es) (mark p.RightParen ∷ []) rest (list_fine es k.1 rest) ((refl, c.line, refl), tt),
          ),
        )
    expr_fine (call_other f es) h rest c =
        let i = both (is_no_name f) (is_written_expr n f && are_written_exprs n es) h in
        let k = both (is_written_expr n f) (are_written_exprs n es) i.1 in
        let ys = mark p.LeftParen ∷ list_chunks es ++ mark p.RightParen ∷ [] in
        fine_append (at_place postfixed f (expr_chunks f)) ys rest (place_fine postfixed f (expr_fine f k.0) (ys ++ rest) (a_mark p.LeftParen ((list_chunks es ++ mark p.RightParen ∷ []) ++ rest) refl)) (
          (refl, line_before (list_chunks es) (mark p.RightParen ∷ []) rest (list_line es (mark p.RightParen ∷ rest) refl), refl),
          fine_append (list_chunks es) (mark p.RightParen ∷ []) rest (list_fine es k.1 rest) ((refl, c.line, refl), tt),
        )
    expr_fine (index a b) h rest c =
        let k = both (is_written_expr n a) (is_written_expr n b) h in
        let ys = mark p.LeftBracket ∷ expr_chunks b ++ mark p.RightBracket ∷ [] in
        fine_append (at_place postfixed a (expr_chunks a)) ys rest (place_fine postfixed a (expr_fine a k.0) (ys ++ rest) (a_mark p.LeftBracket ((expr_chunks b ++ mark p.RightBracket ∷ []) ++ rest) refl)) (
          (refl, line_before (expr_chunks b) (mark p.RightBracket ∷ []) rest (expr_line b (mark p.RightBracket ∷ rest)), refl),
          fine_append (expr_chunks b) (mark p.RightBracket ∷ []) rest (expr_fine b k.1 (mark p.RightBracket ∷ rest) (weaker (is_loose b) (mark p.RightBracket ∷ rest) (a_mark p.RightBracket rest refl))) ((refl, c.line, refl), tt),
        )
    expr_fine (member a m) h rest c =
        let k = both (is_plain_name m) (is_written_expr n a) h in
        fine_append (before_dot a (expr_chunks a)) (mark p.Dot ∷ word m ∷ []) rest (dot_fine a (expr_fine a k.1) (word m ∷ rest))
        ((dot_apart m (text_of rest) k.0, refl, refl), (name_fits m false rest k.0 c, tt))
    expr_fine (arrow a m) h rest c =
        let k = both (is_plain_name m) (is_written_expr n a) h in
        fine_append (at_place postfixed a (expr_chunks a)) (mark p.Arrow ∷ word m ∷ []) rest (place_fine postfixed a (expr_fine a k.1) (mark p.Arrow ∷ word m ∷ rest) (a_mark p.Arrow (word m ∷ rest) refl))
        ((refl, refl, refl), (name_fits m false rest k.0 c, tt))
    expr_fine (cast b stars a) h rest c =
        let k = both (is_written_base n b) (is_written_expr n a) h in
        fine_append (type_chunks b stars) (at_place postfixed a (expr_chunks a)) rest (type_fine b stars (at_place postfixed a (expr_chunks a) ++ rest) k.0 (base_fine b k.0) (place_line postfixed a rest)) (place_fine postfixed a (expr_fine a k.1) rest c)
    expr_fine (size_type b stars) h rest c = (((refl, refl, refl, refl), refl, refl), type_fine b stars rest h (base_fine b h) c.line)
    expr_fine (size_expr a) h rest c = (((refl, refl, refl, refl), refl, refl), (place_line postfixed a rest, place_fine postfixed a (expr_fine a h) rest c))

    pub list_fine : (es : ExprList) → are_written_exprs n es ≡ true → (rest : Chunks) → Fine (list_chunks es) (mark p.RightParen ∷ rest)
    list_fine no_exprs h rest = tt
    list_fine (exprs e es) h rest = let k = both (is_written_expr n e) (are_written_exprs n es) h in
        fine_append (expr_chunks e) (more_chunks es) (mark p.RightParen ∷ rest) (expr_fine e k.0 (more_chunks es ++ mark p.RightParen ∷ rest) (weaker (is_loose e) (more_chunks es ++ mark p.RightParen ∷ rest) (more_closing es rest))) (more_fine es k.1 rest)

    pub more_fine : (es : ExprList) → are_written_exprs n es ≡ true → (rest : Chunks) → Fine (more_chunks es) (mark p.RightParen ∷ rest)
    more_fine no_exprs h rest = tt
    more_fine (exprs e es) h rest = let k = both (is_written_expr n e) (are_written_exprs n es) h in (
      (refl, refl, refl),
      (
        line_before (expr_chunks e) (more_chunks es) (mark p.RightParen ∷ rest) (expr_line e (more_chunks es ++ mark p.RightParen ∷ rest)),
        fine_append (expr_chunks e) (more_chunks es) (mark p.RightParen ∷ rest) (expr_fine e k.0 (more_chunks es ++ mark p.RightParen ∷ rest) (weaker (is_loose e) (more_chunks es ++ mark p.RightParen ∷ rest) (more_closing es rest))) (more_fine es k.1 rest),
      ),
    )

    pub base_fine : (b : BaseData) → is_written_base n b ≡ true → FineBase b
    base_fine (words []) h rest b l = tt
    base_fine (words (w ∷ ws)) h rest b l = words_fine w ws rest h b l
    base_fine (tagged t) h rest b l = (((refl, refl, refl, refl), refl, refl), (refl, (tag_fits t rest h b l, tt)))
    base_fine varchar h rest b l = absurd (false≢true h)
    base_fine (struct_base t no_decls) h rest b l = absurd (false≢true h)
    base_fine (struct_base t (decls m ms)) h rest b l =
        let k = both (is_tag_option t) (is_written_member n m && are_written_members n ms) h in
        let j = both (is_written_member n m) (are_written_members n ms) k.1 in
        let body = mark p.LeftBrace ∷ members_chunks (decls m ms) ++ (blank ∷ mark p.RightBrace ∷ []) in
        let end = blank ∷ mark p.RightBrace ∷ rest in
        fine_append (struct_head t) (blank ∷ body) rest (head_fine t (body ++ rest) k.0)
        (braced_fine m ms rest l (one_member_fine m ms end (member_fine m j.0 (members_chunks ms ++ end) (members_line ms end refl)) (members_fine ms j.1 rest)))

    members_fine : (ms : DeclList) → are_written_members n ms ≡ true → (rest : Chunks) → Fine (members_chunks ms) (blank ∷ mark p.RightBrace ∷ rest)
    members_fine no_decls h rest = tt
    members_fine (decls m ms) h rest =
        let k = both (is_written_member n m) (are_written_members n ms) h in
        let end = blank ∷ mark p.RightBrace ∷ rest in
        one_member_fine m ms end (member_fine m k.0 (members_chunks ms ++ end) (members_line ms end refl)) (members_fine ms k.1 rest)

    member_fine : (m : DeclData) → is_written_member n m ≡ true → (rest : Chunks) → begins_line rest ≡ false → MemberFine m rest
    member_fine (decl b no_declarators section line) h rest l = absurd (false≢true h)
    member_fine (decl b (declarators d ds) section line) h rest l =
        let k = both (not section && line.0 == n) (is_written_base n b && (is_written_declarator n d && are_written_declarators n ds)) h in
        let j = both (is_written_base n b) (is_written_declarator n d && are_written_declarators n ds) k.1 in
        let i = both (is_written_declarator n d) (are_written_declarators n ds) j.1 in (
          token_before (base_chunks b) (declarators_chunks (declarators d ds) ++ mark p.Semicolon ∷ []) rest (base_token n b ((declarators_chunks (declarators d ds) ++ mark p.Semicolon ∷ []) ++ rest) j.0),
          decl_parts_fine b (declarators d ds) rest l (base_fine b j.0) (one_declarator_fine d ds rest (declarator_fine d i.0) (more_declarators_fine ds rest i.1)),
        )

    dim_fine : (d : DimData) (rest : Chunks) → is_written_dim n d ≡ true → Fine (dim_chunks d) (mark p.RightBracket ∷ rest)
    dim_fine open_dim rest h = tt
    dim_fine (dim e) rest h = place_fine (ranked or_rank) e (expr_fine e h) (mark p.RightBracket ∷ rest) (a_mark p.RightBracket rest refl)

    pub dims_fine : (ds : DimList) (rest : Chunks) → are_written_dims n ds ≡ true → begins_line rest ≡ false → Fine (dims_chunks ds) rest
    dims_fine no_dims rest h l = tt
    dims_fine (dims d ds) rest h l =
        let k = both (is_written_dim n d) (are_written_dims n ds) h in
        let more = dims_chunks ds ++ rest in
        fine_append (mark p.LeftBracket ∷ dim_chunks d ++ mark p.RightBracket ∷ []) (dims_chunks ds) rest (
          (refl, line_before (dim_chunks d) (mark p.RightBracket ∷ []) more (dim_line d (mark p.RightBracket ∷ more) refl), refl),
          fine_append (dim_chunks d) (mark p.RightBracket ∷ []) more (dim_fine d more k.0) ((refl, dims_line ds rest l, refl), tt),
        )
        (dims_fine ds rest k.1 l)

    pub init_fine : (i : InitData) → is_written_init n i ≡ true → (rest : Chunks) → Closing true rest → Fine (init_chunks i) rest
    init_fine (one e) h rest c = expr_fine e h rest (weaker (is_loose e) rest c)
    init_fine (many is) h rest c = braces_fine is h rest c.line

    braces_fine : (is : InitList) → are_some_inits n is ≡ true → (rest : Chunks) → begins_line rest ≡ false → Fine (mark p.LeftBrace ∷ inits_chunks is ++ mark p.RightBrace ∷ []) rest
    braces_fine no_inits h rest l = absurd (false≢true h)
    braces_fine (inits i is) h rest l =
        let k = both (is_written_init n i) (are_written_inits n is) h in
        let ys = mark p.RightBrace ∷ [] in
        let more = more_inits_chunks is ++ mark p.RightBrace ∷ rest in (
          (refl, no_line (((init_chunks i ++ more_inits_chunks is) ++ ys) ++ rest) (token_before (init_chunks i ++ more_inits_chunks is) ys rest (token_before (init_chunks i) (more_inits_chunks is) (ys ++ rest) (init_token i more))), refl),
          fine_append (init_chunks i ++ more_inits_chunks is) ys rest
              (fine_append (init_chunks i) (more_inits_chunks is) (ys ++ rest) (init_fine i k.0 more (more_inits_closing is rest)) (more_inits_fine is k.1 rest)) ((refl, l, refl), tt),
        )

    more_inits_fine : (is : InitList) → are_written_inits n is ≡ true → (rest : Chunks) → Fine (more_inits_chunks is) (mark p.RightBrace ∷ rest)
    more_inits_fine no_inits h rest = tt
    more_inits_fine (inits i is) h rest =
        let k = both (is_written_init n i) (are_written_inits n is) h in
        let more = more_inits_chunks is ++ mark p.RightBrace ∷ rest in (
          (refl, refl, refl),
          (
            line_before (init_chunks i) (more_inits_chunks is) (mark p.RightBrace ∷ rest) (no_line (init_chunks i ++ more) (init_token i more)),
            fine_append (init_chunks i) (more_inits_chunks is) (mark p.RightBrace ∷ rest) (init_fine i k.0 more (more_inits_closing is rest)) (more_inits_fine is k.1 rest),
          ),
        )

    pub initializer_fine : (i : InitOption) (rest : Chunks) → is_written_initializer n i ≡ true → Closing true rest → Fine (initializer_chunks i) rest
    initializer_fine no_init rest h c = tt
    initializer_fine (some_init i) rest h c = (refl, ((refl, refl, refl), (no_line (init_chunks i ++ rest) (init_token i rest), init_fine i h rest c)))

    pub declarator_fine : (d : DeclaratorData) → is_written_declarator n d ≡ true → (rest : Chunks) → Closing true rest → Fine (declarator_chunks d) rest
    declarator_fine (declarator stars name ds i) h rest c =
        let k = both (is_plain_name name) (are_written_dims n ds && is_written_initializer n i) h in
        let j = both (are_written_dims n ds) (is_written_initializer n i) k.1 in
        let tail = initializer_chunks i ++ rest in
        let t : Closing true tail = initializer_closing i rest c in
        let b : Closing true (dims_chunks ds ++ tail) = dims_closing ds tail t in
        let e : (dims_chunks ds ++ initializer_chunks i) ++ rest ≡ dims_chunks ds ++ tail = append_assoc (dims_chunks ds) (initializer_chunks i) rest in
        fine_append (star_chunks stars) (word name ∷ dims_chunks ds ++ initializer_chunks i) rest
        (stars_fine stars ((word name ∷ dims_chunks ds ++ initializer_chunks i) ++ rest) (plain_start name _ k.0) refl) (
          subst (Fits (word name)) (sym e) (word_fits name (dims_chunks ds ++ tail) k.0 b.word b.sql b.line),
          fine_append (dims_chunks ds) (initializer_chunks i) rest (dims_fine ds tail j.0 t.line) (initializer_fine i rest j.1 c),
        )

    pub more_declarators_fine : (ds : DeclaratorList) (rest : Chunks) → are_written_declarators n ds ≡ true → Fine (more_declarators_chunks ds) (mark p.Semicolon ∷ rest)
    more_declarators_fine no_declarators rest h = tt
    more_declarators_fine (declarators d ds) rest h = let k = both (is_written_declarator n d) (are_written_declarators n ds) h in
        ((refl, refl, refl), one_declarator_fine d ds rest (declarator_fine d k.0) (more_declarators_fine ds rest k.1))

  -- all declarators of a declaration
  pub declarators_fine : (ds : DeclaratorList) (rest : Chunks) → are_written_declarators n ds ≡ true → Fine (declarators_chunks ds) (mark p.Semicolon ∷ rest)
  declarators_fine no_declarators rest h = tt
  declarators_fine (declarators d ds) rest h = let k = both (is_written_declarator n d) (are_written_declarators n ds) h in
      one_declarator_fine d ds rest (declarator_fine d k.0) (more_declarators_fine ds rest k.1)
