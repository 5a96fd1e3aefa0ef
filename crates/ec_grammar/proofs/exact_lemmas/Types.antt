-- Types: their words, members and stars.
use Rattle.std.proofs.Common.{◌≡◌, ℕ, zero, suc, ◌+◌, ◌≤◌, ◌<◌, true, false, List, [], ◌∷◌, ◌++◌, length, refl, ap, sym, arith, append_assoc, Option, Some, None}
use Rattle.std.proofs.lemmas.List.{append-nil}
use Rattle.ec_ctypes.specs.declared.text.token.Punct.TheVariants as p
use Rattle.ec_ctypes.specs.trees.Exprs.{BaseData, struct_base, DeclData, DeclList}
use Rattle.ec_language.specs.Letters.{Text}
use Rattle.ec_language.specs.Productions.{derivations, sym as ofs, nest, own, text_of}
use Rattle.ec_language.specs.Productions as g
use Rattle.ec_language.specs.Grammar.{PlacedTokens, Limits, Counts, in_declarator}
use Rattle.ec_grammar.specs.declared.kind.Kind.{Kind}
use Rattle.ec_grammar.specs.declared.kind.Kind.TheVariants as k
use Rattle.ec_grammar.specs.Input.{State, state, Parser, kind_at, kind_next}
use Rattle.ec_grammar.specs.Nested.{Nested}
use Rattle.ec_grammar.specs.Starts.{is_const, is_star, is_left_brace}
use Rattle.ec_grammar.specs.ReadDeclarations as read
use Rattle.ec_grammar.proofs.exact_lemmas.Exact.{Reads, then_row, last_row, end_row, shorter, no_longer}
use Rattle.ec_grammar.proofs.exact_lemmas.Choose.{side, choose, none, when, choose_if}
use Rattle.ec_grammar.proofs.exact_lemmas.Nests.{expect_reads, counted_reads, own_reads}
use Rattle.ec_grammar.proofs.exact_lemmas.Joins.{also}
use Rattle.ec_grammar.proofs.exact_lemmas.Lists.{decls_in, decls_back}
use Rattle.ec_grammar.proofs.exact_lemmas.Inner.{Reading, ReadsInner}

abbrev pub some_decls : Option DeclList → Option (List DeclData)
some_decls None = None
some_decls (Some ds) = Some (decls_in ds)

same_base : (tag : Text) (ms : Option DeclList) → read.tag_base tag (some_decls ms) ≡ g.tag_base tag ms
same_base tag None = refl
same_base tag (Some ms) = ap (struct_base (Some tag)) (decls_back ms)

module _ (most : Limits) (levels : ℕ) where
  -- ---- words and stars

  constants_read : (m : ℕ) (w : PlacedTokens) (c : Counts) → length w ≤ m → Reads most levels c (ofs g.constants) (Unit {0}) (λ v. v) w (read.constants_from m (state w c))
  unfolding read.constants_from
  constants_read zero [] c le = choose g.constants 0 (λ v. v) [] _ k.End k.End refl refl refl ((λ x y. refl), end_row refl)
  constants_read zero (t ∷ w) c le = absurd (omega arith)
  constants_read (suc m) w c le = when (is_const (kind_at w)) _ _
      (λ yes. choose_if g.constants 1 (λ v. v) w is_const true yes refl (
        refl,
        then_row (side refl (λ _. refl)) _ (expect_reads k.Const (state w c)) (λ t st a. last_row (side refl (λ _. refl)) (λ v. refl)
            (constants_read m st.tokens st.counts (let lt : length st.tokens < length w = shorter refl a in omega arith))),
      ))
      (λ no. choose_if g.constants 0 (λ v. v) w is_const false no refl ((λ x y. refl), end_row refl))

  pub constants_reads : Reading most levels (ofs g.constants) (λ v. v) read.constants
  unfolding read.constants
  constants_reads st = constants_read (length st.tokens) st.tokens st.counts (omega arith)

  words_by : (more : List Text → Parser (List Text)) (found : List Text) (j : Kind) (st : State) → kind_at st.tokens ≡ j
      → ((found : List Text) (mid : State) → length mid.tokens < length st.tokens → Reads most levels mid.counts (ofs g.more_words) (List Text) (λ v. found ++ v) mid.tokens (more found mid))
      → Reads most levels st.counts (ofs g.more_words) (List Text) (λ v. found ++ v) st.tokens (read.more_words_by more found j st)
  words_by more found k.Const st at again = choose g.more_words 1 (λ v. found ++ v) st.tokens _ k.Const (kind_next st.tokens) at refl refl
      (refl, then_row (side refl (λ _. refl)) _ (expect_reads k.Const st) (λ t mid a. last_row (side refl (λ _. refl)) (λ v. refl) (again found mid (shorter refl a))))
  words_by more found k.TypeWord st at again = choose g.more_words 2 (λ v. found ++ v) st.tokens _ k.TypeWord (kind_next st.tokens) at refl refl
      (refl, then_row (side refl (λ _. refl)) _ (expect_reads k.TypeWord st) (λ t mid a. last_row (side refl (λ _. refl)) (λ v. append_assoc found (text_of t ∷ []) v) (again (found ++ text_of t ∷ []) mid (shorter refl a))))
  words_by more found _ st at again = choose g.more_words 0 (λ v. found ++ v) st.tokens _ _ (kind_next st.tokens) at refl refl ((λ x y. refl), end_row (sym (append-nil found)))

  words_read : (m : ℕ) (found : List Text) (w : PlacedTokens) (c : Counts) → length w ≤ m → Reads most levels c (ofs g.more_words) (List Text) (λ v. found ++ v) w (read.more_words_from m found (state w c))
  unfolding read.more_words_from
  words_read zero found [] c le = choose g.more_words 0 (λ v. found ++ v) [] _ k.End k.End refl refl refl ((λ x y. refl), end_row (sym (append-nil found)))
  words_read zero found (t ∷ w) c le = absurd (omega arith)
  words_read (suc m) found w c le = words_by (read.more_words_from m) found (kind_at w) (state w c) refl (λ found mid lt. words_read m found mid.tokens mid.counts (omega arith))

  stars_read : (m n : ℕ) (w : PlacedTokens) (c : Counts) → length w ≤ m → Reads most levels c (ofs g.stars) ℕ (λ v. n + v) w (read.stars_from most m n (state w c))
  unfolding read.stars_from
  stars_read zero n [] c le = choose g.stars 0 (λ v. n + v) [] _ k.End k.End refl refl refl ((λ x y. refl), end_row (omega arith))
  stars_read zero n (t ∷ w) c le = absurd (omega arith)
  stars_read (suc m) n w c le = when (is_star (kind_at w)) _ _
      (λ yes. choose_if g.stars 1 (λ v. n + v) w is_star true yes refl (
        refl,
        then_row (side refl (λ _. refl)) _ (counted_reads derivations (k.Mark p.Star) (state w c)) (λ t st a. then_row (side refl (λ _. refl)) _ (constants_reads st)
            (λ u mid b. last_row (side refl (λ _. refl)) (λ v. omega arith)
            (stars_read m (n + 1) mid.tokens mid.counts (let lt : length st.tokens < length w = shorter refl a in let le2 : length mid.tokens ≤ length st.tokens = no_longer b in omega arith)))),
      ))
      (λ no. choose_if g.stars 0 (λ v. n + v) w is_star false no refl ((λ x y. refl), end_row (omega arith)))

  pub stars_reads : Reading most levels (ofs g.stars) (λ v. v) (read.stars most)
  unfolding read.stars
  stars_reads st = also (λ v. omega arith) (stars_read (length st.tokens) 0 st.tokens st.counts (omega arith))

module _ (most : Limits) (levels : ℕ) (inner : Nested) (f : ReadsInner most levels inner) where
  -- ---- types

  members_option_reads : Reading most levels (ofs g.members_option) some_decls (read.members_option most inner)
  unfolding read.members_option
  members_option_reads st = when (is_left_brace (kind_at st.tokens)) _ _
      (λ yes. choose_if g.members_option 1 some_decls st.tokens is_left_brace true yes refl (refl, then_row (side refl (λ _. refl)) _ (f.members st) (λ ms mid _. end_row refl)))
      (λ no. choose_if g.members_option 0 some_decls st.tokens is_left_brace false no refl ((λ x y. refl), end_row refl))

  tag_by : (j : Kind) (st : State) → kind_at st.tokens ≡ j → Reads most levels st.counts (ofs g.tag_or_members) BaseData (λ v. v) st.tokens (read.tag_or_members_by most inner j st)
  tag_by k.Name st at = choose g.tag_or_members 0 (λ v. v) st.tokens _ k.Name (kind_next st.tokens) at refl refl
      (refl, then_row (side refl (λ _. refl)) _ (expect_reads k.Name st) (λ t mid _. then_row (side refl (λ _. refl)) _ (members_option_reads mid) (λ ms mid _. end_row (same_base (text_of t) ms))))
  tag_by (k.Mark p.LeftBrace) st at = choose g.tag_or_members 1 (λ v. v) st.tokens _ (k.Mark p.LeftBrace) (kind_next st.tokens) at refl refl
      (refl, then_row (side refl (λ _. refl)) _ (f.members st) (λ ms mid _. end_row (ap (struct_base None) (decls_back ms))))
  tag_by _ st at = none g.tag_or_members (λ v. v) st _ (kind_next st.tokens) at refl refl refl

  tag_reads : Reading most levels (ofs g.tag_or_members) (λ v. v) (read.tag_or_members most inner)
  unfolding read.tag_or_members
  tag_reads st = tag_by (kind_at st.tokens) st refl

  base_by : (j : Kind) (st : State) → kind_at st.tokens ≡ j → Reads most levels st.counts (ofs g.base) BaseData (λ v. v) st.tokens (read.base_by most inner j st)
  unfolding read.more_words
  base_by k.TypeWord st at = choose g.base 0 (λ v. v) st.tokens _ k.TypeWord (kind_next st.tokens) at refl refl
      (refl, then_row (side refl (λ _. refl)) _ (expect_reads k.TypeWord st) (λ t mid _. then_row (side refl (λ _. refl)) _ (words_read most levels (length mid.tokens) (text_of t ∷ []) mid.tokens mid.counts (omega arith)) (λ ws mid _. end_row refl)))
  base_by k.Varchar st at = choose g.base 1 (λ v. v) st.tokens _ k.Varchar (kind_next st.tokens) at refl refl
      (refl, then_row (side refl (λ _. refl)) _ (expect_reads k.Varchar st) (λ t mid _. then_row (side refl (λ _. refl)) _ (constants_reads most levels mid) (λ u mid _. end_row refl)))
  base_by k.Struct st at = choose g.base 2 (λ v. v) st.tokens _ k.Struct (kind_next st.tokens) at refl refl
      (refl, then_row (side refl (λ _. refl)) _ (expect_reads k.Struct st) (λ t mid _. then_row (side refl (λ _. refl)) _ (tag_reads mid) (λ b mid _. then_row (side refl (λ _. refl)) _ (constants_reads most levels mid) (λ u mid _. end_row refl))))
  base_by _ st at = none g.base (λ v. v) st _ (kind_next st.tokens) at refl refl refl

  base_reads : Reading most levels (ofs g.base) (λ v. v) (read.base most inner)
  unfolding read.base
  base_reads st = base_by (kind_at st.tokens) st refl

  pub specifiers_reads : Reading most levels (ofs g.specifiers) (λ v. v) (read.specifiers most inner)
  unfolding read.specifiers
  specifiers_reads st = choose g.specifiers 0 (λ v. v) st.tokens _ (kind_at st.tokens) (kind_next st.tokens) refl refl refl
      (refl, then_row (side refl (λ _. refl)) _ (constants_reads most levels st) (λ u mid _. last_row (side refl (λ _. refl)) (λ v. refl) (base_reads mid)))

  type_name_reads : Reading most levels (ofs g.type_name) (λ v. v) (read.type_name most inner)
  unfolding read.type_name
  type_name_reads st = choose g.type_name 0 (λ v. v) st.tokens _ (kind_at st.tokens) (kind_next st.tokens) refl refl refl
      (refl, then_row (side refl (λ _. refl)) _ (specifiers_reads st) (λ b mid _. then_row (side refl (λ _. refl)) _ (stars_reads most levels mid) (λ n mid _. end_row refl)))

  pub type_reads : Reading most levels (ofs g.type_in_parentheses) (λ v. v) (read.type_in_parentheses most inner)
  unfolding read.type_in_parentheses
  type_reads st = choose g.type_in_parentheses 0 (λ v. v) st.tokens _ (kind_at st.tokens) (kind_next st.tokens) refl refl refl (
    refl,
    then_row (side refl (λ _. refl)) _ (expect_reads (k.Mark p.LeftParen) st)
        (λ t mid _. then_row (side refl (λ _. refl)) _ (own_reads (read.type_name most inner) mid (type_name_reads (state mid.tokens (in_declarator mid.counts))))
        (λ x mid _. then_row (side refl (λ _. refl)) _ (expect_reads (k.Mark p.RightParen) mid) (λ u mid _. end_row refl))),
  )
