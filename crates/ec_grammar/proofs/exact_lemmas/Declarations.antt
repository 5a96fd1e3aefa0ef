-- Declarators, declarations and parameters.
use Rattle.std.proofs.Common.{◌≡◌, ℕ, zero, suc, ◌≤◌, ◌<◌, Bool, true, false, List, [], ◌∷◌, ◌++◌, length, refl, ap, sym, subst, arith, append_assoc, Option}
use Rattle.std.specs.Prelude.{if◌then◌else◌}
use Rattle.std.proofs.lemmas.List.{append-nil}
use Rattle.std.proofs.lemmas.Bool.{false≢true}
use Rattle.ec_ctypes.specs.declared.text.token.Punct.TheVariants as p
use Rattle.ec_ctypes.specs.trees.Exprs.{ExprData, InitData, many, DeclaratorData, declarator, declarators, DeclData}
use Rattle.ec_ctypes.specs.trees.Units.{ParamData}
use Rattle.ec_language.specs.Productions.{start_of, derivations, tok, sym as ofs, nest, whole, own, or_rank, text_of, mark, declared, for_expression, for_declaration, productions}
use Rattle.ec_language.specs.Productions as g
use Rattle.ec_language.specs.Grammar.{PlacedTokens, Limits, Counts, in_declarator, in_expression}
use Rattle.ec_grammar.specs.declared.kind.Kind.{Kind}
use Rattle.ec_grammar.specs.declared.kind.Kind.TheVariants as k
use Rattle.ec_grammar.specs.Input.{State, state, Parser, ◌>>=◌, ◌>>◌, pure, kind_at, kind_next, expect}
use Rattle.ec_grammar.specs.Input as taken
use Rattle.ec_grammar.specs.Lists.{separated, separated_from}
use Rattle.ec_grammar.specs.Nested.{Nested}
use Rattle.ec_grammar.specs.Starts.{is_comma, is_name, is_assign, is_left_bracket, begins_type, begins_expression, begins_initializer, begins_declarator}
use Rattle.ec_grammar.specs.ReadExpressions.{operators}
use Rattle.ec_grammar.specs.ReadDeclarations as read
use Rattle.ec_grammar.proofs.exact_lemmas.Exact.{Reads, ReadsRow, then_row, last_row, end_row, shorter, no_longer}
use Rattle.ec_grammar.proofs.exact_lemmas.Choose.{side, at_each, choose, when, choose_if, others, lost, row_at}
use Rattle.ec_grammar.proofs.exact_lemmas.Nests.{expect_reads, counted_reads, whole_reads, own_reads}
use Rattle.ec_grammar.proofs.exact_lemmas.Joins.{row_seen}
use Rattle.ec_grammar.proofs.exact_lemmas.Lists.{dim_in, dims_in, dims_back, inits_in, inits_back, init_in, init_back, declarators_in, declarators_back, decls_in}
use Rattle.ec_grammar.proofs.exact_lemmas.Inner.{Reading, ReadsInner}
use Rattle.ec_grammar.proofs.exact_lemmas.Operators.{operators_reads}
use Rattle.ec_grammar.proofs.exact_lemmas.Assignments.{expression_reads, option_reads}
use Rattle.ec_grammar.proofs.exact_lemmas.Types.{stars_reads, specifiers_reads}

pub comma_is : (j : Kind) → is_comma j ≡ true → j ≡ k.Mark p.Comma
comma_is (k.Mark p.Comma) e = refl
comma_is _ e = absurd (false≢true e)

-- behind a comma, an initializer or the end of the list
abbrev begun : Bool → Kind → Bool
begun true l = elim (begins_initializer l) [ true ↦ others (lost g.more_initializers (row_at (productions g.more_initializers) 2) (k.Mark p.Comma) l) (productions g.more_initializers) 2 | false ↦ true ]
begun false l = elim (begins_initializer l) [ true ↦ true | false ↦ others (lost g.more_initializers (row_at (productions g.more_initializers) 1) (k.Mark p.Comma) l) (productions g.more_initializers) 1 ]

with_more : (l : Kind) → begins_initializer l ≡ true → others (lost g.more_initializers (row_at (productions g.more_initializers) 2) (k.Mark p.Comma) l) (productions g.more_initializers) 2 ≡ true
with_more l e = subst (λ b. elim b [ true ↦ others (lost g.more_initializers (row_at (productions g.more_initializers) 2) (k.Mark p.Comma) l) (productions g.more_initializers) 2 | false ↦ true ] ≡ true) e (at_each (begun true) refl l)

without_more : (l : Kind) → begins_initializer l ≡ false → others (lost g.more_initializers (row_at (productions g.more_initializers) 1) (k.Mark p.Comma) l) (productions g.more_initializers) 1 ≡ true
without_more l e = subst (λ b. elim b [ true ↦ true | false ↦ others (lost g.more_initializers (row_at (productions g.more_initializers) 1) (k.Mark p.Comma) l) (productions g.more_initializers) 1 ] ≡ true) e (at_each (begun false) refl l)

module _ (most : Limits) (levels : ℕ) (inner : Nested) (f : ReadsInner most levels inner) where
  -- ---- array lengths

  length_option_reads : Reading most levels (ofs g.length_option) dim_in (read.length_option most inner)
  unfolding read.length_option
  length_option_reads st = when (begins_expression (kind_at st.tokens)) _ _
      (λ yes. choose_if g.length_option 1 dim_in st.tokens begins_expression true yes refl
      (refl, then_row (side refl (λ _. refl)) _ (whole_reads (operators most inner or_rank) st (operators_reads most levels inner f (state st.tokens (in_expression st.counts)))) (λ e mid _. end_row refl)))
      (λ no. choose_if g.length_option 0 dim_in st.tokens begins_expression false no refl ((λ x y. refl), end_row refl))

  pub length_reads : Reading most levels (ofs g.length_part) dim_in (read.length_part most inner)
  unfolding read.length_part
  length_reads st = choose g.length_part 0 dim_in st.tokens _ (kind_at st.tokens) (kind_next st.tokens) refl refl refl (
    refl,
    then_row (side refl (λ _. refl)) _ (counted_reads derivations (k.Mark p.LeftBracket) st) (λ t mid _. then_row (side refl (λ _. refl)) _ (length_option_reads mid)
        (λ d mid _. then_row (side refl (λ _. refl)) _ (expect_reads (k.Mark p.RightBracket) mid) (λ u mid _. end_row refl))),
  )

  lengths_read : (m : ℕ) (found : List (Option ExprData)) (w : PlacedTokens) (c : Counts) → length w ≤ m → Reads most levels c (ofs g.lengths) (List (Option ExprData)) (λ v. found ++ dims_in v) w (read.lengths_from most inner m found (state w c))
  unfolding read.lengths_from
  lengths_read zero found [] c le = choose g.lengths 0 (λ v. found ++ dims_in v) [] _ k.End k.End refl refl refl ((λ x y. refl), end_row (sym (append-nil found)))
  lengths_read zero found (t ∷ w) c le = absurd (omega arith)
  lengths_read (suc m) found w c le = when (is_left_bracket (kind_at w)) _ _
      (λ yes. choose_if g.lengths 1 (λ v. found ++ dims_in v) w is_left_bracket true yes refl (
        refl,
        then_row (side refl (λ _. refl)) _ (f.length_part (state w c)) (λ d st a. last_row (side refl (λ _. refl)) (λ v. append_assoc found (dim_in d ∷ []) (dims_in v))
            (lengths_read m (found ++ dim_in d ∷ []) st.tokens st.counts (let lt : length st.tokens < length w = shorter refl a in omega arith))),
      ))
      (λ no. choose_if g.lengths 0 (λ v. found ++ dims_in v) w is_left_bracket false no refl ((λ x y. refl), end_row (sym (append-nil found))))

  pub lengths_reads : Reading most levels (ofs g.lengths) dims_in (read.lengths most inner)
  unfolding read.lengths
  lengths_reads st = lengths_read (length st.tokens) [] st.tokens st.counts (omega arith)

  -- ---- initializers

  initializer_by : (j : Kind) (st : State) → kind_at st.tokens ≡ j → Reads most levels st.counts (ofs g.initializer) InitData (λ v. v) st.tokens (read.initializer_by most inner j st)
  initializer_by (k.Mark p.LeftBrace) st at = choose g.initializer 1 (λ v. v) st.tokens _ (k.Mark p.LeftBrace) (kind_next st.tokens) at refl refl
      (refl, then_row (side refl (λ _. refl)) _ (f.initializer_list st) (λ xs mid _. end_row (ap many (inits_back xs))))
  initializer_by _ st at = choose g.initializer 0 (λ v. v) st.tokens _ _ (kind_next st.tokens) at refl refl
      (refl, then_row (side refl (λ _. refl)) _ (expression_reads most levels inner f st) (λ e mid _. end_row refl))

  initializer_reads : Reading most levels (ofs g.initializer) (λ v. v) (read.initializer most inner)
  unfolding read.initializer
  initializer_reads st = initializer_by (kind_at st.tokens) st refl

  one_more_reads : (more : List InitData → Parser (List InitData)) (found : List InitData) (st : State) → is_comma (kind_at st.tokens) ≡ true
      → ((found : List InitData) (mid : State) → length mid.tokens < length st.tokens → Reads most levels mid.counts (ofs g.more_initializers) (List InitData) (λ v. found ++ inits_in v) mid.tokens (more found mid))
      → (b : Bool) → begins_initializer (kind_next st.tokens) ≡ b
      → Reads most levels st.counts (ofs g.more_initializers) (List InitData) (λ v. found ++ inits_in v) st.tokens ((expect (k.Mark p.Comma) >> (if b then (read.initializer most inner >>= (λ x. more (found ++ x ∷ []))) else pure found)) st)
  one_more_reads more found st comma again true e = choose g.more_initializers 2 (λ v. found ++ inits_in v) st.tokens _ (k.Mark p.Comma) (kind_next st.tokens) (comma_is (kind_at st.tokens) comma) refl (with_more (kind_next st.tokens) e) (
    refl,
    then_row (side refl (λ _. refl)) _ (expect_reads (k.Mark p.Comma) st) (λ t mid a. then_row (side refl (λ _. refl)) _ (initializer_reads mid)
        (λ x last b. last_row (side refl (λ _. refl)) (λ v. append_assoc found (x ∷ []) (inits_in v))
        (again (found ++ x ∷ []) last (let l1 : length mid.tokens < length st.tokens = shorter refl a in let l2 : length last.tokens ≤ length mid.tokens = no_longer b in omega arith)))),
  )
  one_more_reads more found st comma again false e = choose g.more_initializers 1 (λ v. found ++ inits_in v) st.tokens _ (k.Mark p.Comma) (kind_next st.tokens) (comma_is (kind_at st.tokens) comma) refl (without_more (kind_next st.tokens) e)
      (refl, then_row (side refl (λ _. refl)) _ (expect_reads (k.Mark p.Comma) st) (λ t mid a. end_row (sym (append-nil found))))

  more_initializers_read : (m : ℕ) (found : List InitData) (w : PlacedTokens) (c : Counts) → length w ≤ m → Reads most levels c (ofs g.more_initializers) (List InitData) (λ v. found ++ inits_in v) w (read.more_initializers_from most inner m found (state w c))
  unfolding read.more_initializers_from
  more_initializers_read zero found [] c le = choose g.more_initializers 0 (λ v. found ++ inits_in v) [] _ k.End k.End refl refl refl ((λ x y. refl), end_row (sym (append-nil found)))
  more_initializers_read zero found (t ∷ w) c le = absurd (omega arith)
  more_initializers_read (suc m) found w c le = when (is_comma (kind_at w)) _ _
      (λ yes. one_more_reads (read.more_initializers_from most inner m) found (state w c) yes (λ found mid lt. more_initializers_read m found mid.tokens mid.counts (omega arith)) (begins_initializer (kind_next w)) refl)
      (λ no. choose_if g.more_initializers 0 (λ v. found ++ inits_in v) w is_comma false no refl ((λ x y. refl), end_row (sym (append-nil found))))

  pub initializer_list_reads : Reading most levels (ofs g.initializer_list) inits_in (read.initializer_list most inner)
  unfolding read.initializer_list read.more_initializers
  initializer_list_reads st = choose g.initializer_list 0 inits_in st.tokens _ (kind_at st.tokens) (kind_next st.tokens) refl refl refl (
    refl,
    then_row (side refl (λ _. refl)) _ (expect_reads (k.Mark p.LeftBrace) st) (λ t mid _. then_row (side refl (λ _. refl)) _ (initializer_reads mid)
        (λ x mid _. then_row (side refl (λ _. refl)) _ (more_initializers_read (length mid.tokens) (x ∷ []) mid.tokens mid.counts (omega arith))
        (λ xs mid _. then_row (side refl (λ _. refl)) _ (expect_reads (k.Mark p.RightBrace) mid) (λ u mid _. end_row refl)))),
  )

  pub initializer_option_reads : Reading most levels (ofs g.initializer_option) init_in (read.initializer_option most inner)
  unfolding read.initializer_option
  initializer_option_reads st = when (is_assign (kind_at st.tokens)) _ _
      (λ yes. choose_if g.initializer_option 1 init_in st.tokens is_assign true yes refl
      (refl, then_row (side refl (λ _. refl)) _ (expect_reads (k.Mark p.Assign) st) (λ t mid _. then_row (side refl (λ _. refl)) _ (initializer_reads mid) (λ x mid _. end_row refl))))
      (λ no. choose_if g.initializer_option 0 init_in st.tokens is_assign false no refl ((λ x y. refl), end_row refl))

  -- ---- declarators

  declarator_reads : Reading most levels (ofs g.declarator_part) (λ v. v) (read.declarator_part most inner)
  unfolding read.declarator_part
  declarator_reads st = choose g.declarator_part 0 (λ v. v) st.tokens _ (kind_at st.tokens) (kind_next st.tokens) refl refl refl (
    refl,
    then_row (side refl (λ _. refl)) _ (stars_reads most levels st) (λ n mid _. then_row (side refl (λ _. refl)) _ (expect_reads k.Name mid)
        (λ t mid _. then_row (side refl (λ _. refl)) _ (lengths_reads mid) (λ ds mid _. then_row (side refl (λ _. refl)) _ (initializer_option_reads mid)
        (λ x mid _. end_row (λ i. declarator n (text_of t) (dims_back ds i) (init_back x i)))))),
  )

  own_declarator_reads : (st : State) → Reads most levels st.counts (own g.declarator_part) DeclaratorData (λ v. v) st.tokens (taken.own (read.declarator_part most inner) st)
  own_declarator_reads st = own_reads (read.declarator_part most inner) st (declarator_reads (state st.tokens (in_declarator st.counts)))

  more_declarators_read : (m : ℕ) (found : List DeclaratorData) (w : PlacedTokens) (c : Counts) → length w ≤ m → Reads most levels c (ofs g.more_declarators) (List DeclaratorData) (λ v. found ++ declarators_in v) w (separated_from (taken.own (read.declarator_part most inner)) m found (state w c))
  unfolding separated_from
  more_declarators_read zero found [] c le = choose g.more_declarators 0 (λ v. found ++ declarators_in v) [] _ k.End k.End refl refl refl ((λ x y. refl), end_row (sym (append-nil found)))
  more_declarators_read zero found (t ∷ w) c le = absurd (omega arith)
  more_declarators_read (suc m) found w c le = when (is_comma (kind_at w)) _ _
      (λ yes. choose_if g.more_declarators 1 (λ v. found ++ declarators_in v) w is_comma true yes refl (
        refl,
        then_row (side refl (λ _. refl)) _ (expect_reads (k.Mark p.Comma) (state w c)) (λ t st a. then_row (side refl (λ _. refl)) _ (own_declarator_reads st)
            (λ x mid b. last_row (side refl (λ _. refl)) (λ v. append_assoc found (x ∷ []) (declarators_in v))
            (more_declarators_read m (found ++ x ∷ []) mid.tokens mid.counts (let l1 : length st.tokens < length w = shorter refl a in let l2 : length mid.tokens ≤ length st.tokens = no_longer b in omega arith)))),
      ))
      (λ no. choose_if g.more_declarators 0 (λ v. found ++ declarators_in v) w is_comma false no refl ((λ x y. refl), end_row (sym (append-nil found))))

  pub more_declarators_reads : (found : List DeclaratorData) → Reading most levels (ofs g.more_declarators) (λ v. found ++ declarators_in v) (read.more_declarators most inner found)
  unfolding separated
  more_declarators_reads found st = more_declarators_read (length st.tokens) found st.tokens st.counts (omega arith)

  declarators_option_reads : Reading most levels (ofs g.declarators_option) declarators_in (read.declarators_option most inner)
  unfolding read.declarators_option
  declarators_option_reads st = when (begins_declarator (kind_at st.tokens)) _ _
      (λ yes. choose_if g.declarators_option 1 declarators_in st.tokens begins_declarator true yes refl
      (refl, then_row (side refl (λ _. refl)) _ (own_declarator_reads st) (λ x mid _. last_row (side refl (λ _. refl)) (λ v. refl) (more_declarators_reads (x ∷ []) mid))))
      (λ no. choose_if g.declarators_option 0 declarators_in st.tokens begins_declarator false no refl ((λ x y. refl), end_row refl))

  -- ---- declarations

  pub declaration_reads : Reading most levels (ofs g.declaration) (λ v. v) (read.declaration most inner)
  unfolding read.declaration
  declaration_reads st = choose g.declaration 0 (λ v. v) st.tokens _ (kind_at st.tokens) (kind_next st.tokens) refl refl refl (
    refl,
    then_row (side refl (λ _. refl)) _ (specifiers_reads most levels inner f st) (λ b mid _. then_row (side refl (λ _. refl)) _ (declarators_option_reads mid)
        (λ xs mid _. then_row (side refl (λ _. refl)) _ (expect_reads (k.Mark p.Semicolon) mid) (λ u mid _. end_row (ap (declared (start_of st.tokens) b) (declarators_back xs))))),
  )

  -- the row of a declaration with one declarator at least
  member_row : (st : State) → ReadsRow most levels st.counts g.member_declaration (λ i v. true) (ofs g.specifiers ∷ own g.declarator_part ∷ ofs g.more_declarators ∷ tok (mark p.Semicolon) ∷ []) (λ x. declared (start_of st.tokens) x.0 (declarators x.1.0 x.1.1.0)) DeclData
      (λ x. declared (start_of st.tokens) x.0 (declarators x.1.0 x.1.1.0)) st.tokens (read.member_declaration most inner st)
  unfolding read.member_declaration
  member_row st = then_row (side refl (λ _. refl)) _ (specifiers_reads most levels inner f st) (λ b mid _. then_row (side refl (λ _. refl)) _ (own_declarator_reads mid)
      (λ x mid _. then_row (side refl (λ _. refl)) _ (more_declarators_reads (x ∷ []) mid)
      (λ xs mid _. then_row (side refl (λ _. refl)) _ (expect_reads (k.Mark p.Semicolon) mid) (λ u mid _. end_row (ap (λ v. declared (start_of st.tokens) b (declarators x v)) (declarators_back xs))))))

  member_reads : Reading most levels (ofs g.member_declaration) (λ v. v) (read.member_declaration most inner)
  member_reads st = choose g.member_declaration 0 (λ v. v) st.tokens _ (kind_at st.tokens) (kind_next st.tokens) refl refl refl (refl, member_row st)

  more_members_read : (m : ℕ) (found : List DeclData) (w : PlacedTokens) (c : Counts) → length w ≤ m → Reads most levels c (ofs g.more_members) (List DeclData) (λ v. found ++ decls_in v) w (read.more_members_from most inner m found (state w c))
  unfolding read.more_members_from
  more_members_read zero found [] c le = choose g.more_members 0 (λ v. found ++ decls_in v) [] _ k.End k.End refl refl refl ((λ x y. refl), end_row (sym (append-nil found)))
  more_members_read zero found (t ∷ w) c le = absurd (omega arith)
  more_members_read (suc m) found w c le = when (begins_type (kind_at w)) _ _
      (λ yes. choose_if g.more_members 1 (λ v. found ++ decls_in v) w begins_type true yes refl (
        refl,
        then_row (side refl (λ _. refl)) _ (member_reads (state w c)) (λ x st a. last_row (side refl (λ _. refl)) (λ v. append_assoc found (x ∷ []) (decls_in v))
            (more_members_read m (found ++ x ∷ []) st.tokens st.counts (let lt : length st.tokens < length w = shorter refl a in omega arith))),
      ))
      (λ no. choose_if g.more_members 0 (λ v. found ++ decls_in v) w begins_type false no refl ((λ x y. refl), end_row (sym (append-nil found))))

  pub members_reads : Reading most levels (ofs g.members) decls_in (read.members most inner)
  unfolding read.members read.more_members
  members_reads st = choose g.members 0 decls_in st.tokens _ (kind_at st.tokens) (kind_next st.tokens) refl refl refl (
    refl,
    then_row (side refl (λ _. refl)) _ (expect_reads (k.Mark p.LeftBrace) st) (λ t mid _. then_row (side refl (λ _. refl)) _ (member_reads mid)
        (λ x mid _. then_row (side refl (λ _. refl)) _ (more_members_read (length mid.tokens) (x ∷ []) mid.tokens mid.counts (omega arith))
        (λ xs mid _. then_row (side refl (λ _. refl)) _ (expect_reads (k.Mark p.RightBrace) mid) (λ u mid _. end_row refl)))),
  )

  -- ---- parameters

  parameter_name_reads : Reading most levels (ofs g.parameter_name) (λ v. v) (read.parameter_name most inner)
  unfolding read.parameter_name
  parameter_name_reads st = when (is_name (kind_at st.tokens)) _ _
      (λ yes. choose_if g.parameter_name 1 (λ v. v) st.tokens is_name true yes refl (refl, then_row (side refl (λ _. refl)) _ (expect_reads k.Name st) (λ t mid _. end_row refl)))
      (λ no. choose_if g.parameter_name 0 (λ v. v) st.tokens is_name false no refl ((λ x y. refl), end_row refl))

  parameter_reads : Reading most levels (ofs g.parameter) (λ v. v) (read.parameter most inner)
  unfolding read.parameter
  parameter_reads st = choose g.parameter 0 (λ v. v) st.tokens _ (kind_at st.tokens) (kind_next st.tokens) refl refl refl (
    refl,
    then_row (side refl (λ _. refl)) _ (specifiers_reads most levels inner f st) (λ b mid _. then_row (side refl (λ _. refl)) _ (stars_reads most levels mid)
        (λ n mid _. then_row (side refl (λ _. refl)) _ (parameter_name_reads mid) (λ name mid _. then_row (side refl (λ _. refl)) _ (lengths_reads mid)
        (λ ds mid _. end_row (ap (λ v. record { base = b; stars = n; name = name; dims = v; section = (start_of st.tokens).section }) (dims_back ds)))))),
  )

  own_parameter_reads : (st : State) → Reads most levels st.counts (own g.parameter) ParamData (λ v. v) st.tokens (taken.own (read.parameter most inner) st)
  own_parameter_reads st = own_reads (read.parameter most inner) st (parameter_reads (state st.tokens (in_declarator st.counts)))

  more_parameters_read : (m : ℕ) (found : List ParamData) (w : PlacedTokens) (c : Counts) → length w ≤ m → Reads most levels c (ofs g.more_parameters) (List ParamData) (λ v. found ++ v) w (separated_from (taken.own (read.parameter most inner)) m found (state w c))
  unfolding separated_from
  more_parameters_read zero found [] c le = choose g.more_parameters 0 (λ v. found ++ v) [] _ k.End k.End refl refl refl ((λ x y. refl), end_row (sym (append-nil found)))
  more_parameters_read zero found (t ∷ w) c le = absurd (omega arith)
  more_parameters_read (suc m) found w c le = when (is_comma (kind_at w)) _ _
      (λ yes. choose_if g.more_parameters 1 (λ v. found ++ v) w is_comma true yes refl (
        refl,
        then_row (side refl (λ _. refl)) _ (expect_reads (k.Mark p.Comma) (state w c)) (λ t st a. then_row (side refl (λ _. refl)) _ (own_parameter_reads st)
            (λ x mid b. last_row (side refl (λ _. refl)) (λ v. append_assoc found (x ∷ []) v)
            (more_parameters_read m (found ++ x ∷ []) mid.tokens mid.counts (let l1 : length st.tokens < length w = shorter refl a in let l2 : length mid.tokens ≤ length st.tokens = no_longer b in omega arith)))),
      ))
      (λ no. choose_if g.more_parameters 0 (λ v. found ++ v) w is_comma false no refl ((λ x y. refl), end_row (sym (append-nil found))))

  parameters_reads : Reading most levels (ofs g.parameters) (λ v. v) (read.parameters most inner)
  unfolding read.parameters separated
  parameters_reads st = when (begins_type (kind_at st.tokens)) _ _
      (λ yes. choose_if g.parameters 1 (λ v. v) st.tokens begins_type true yes refl
      (refl, then_row (side refl (λ _. refl)) _ (own_parameter_reads st) (λ x mid _. last_row (side refl (λ _. refl)) (λ v. refl) (more_parameters_read (length mid.tokens) (x ∷ []) mid.tokens mid.counts (omega arith)))))
      (λ no. choose_if g.parameters 0 (λ v. v) st.tokens begins_type false no refl ((λ x y. refl), end_row refl))

  pub parameter_part_reads : Reading most levels (ofs g.parameter_part) (λ v. v) (read.parameter_part most inner)
  unfolding read.parameter_part
  parameter_part_reads st = choose g.parameter_part 0 (λ v. v) st.tokens _ (kind_at st.tokens) (kind_next st.tokens) refl refl refl (
    refl,
    then_row (side refl (λ _. refl)) _ (expect_reads (k.Mark p.LeftParen) st) (λ t mid _. then_row (side refl (λ _. refl)) _ (parameters_reads mid)
        (λ xs mid _. then_row (side refl (λ _. refl)) _ (expect_reads (k.Mark p.RightParen) mid) (λ u mid _. end_row refl))),
  )

  -- ---- the head of a `for`

  for_start_reads : Reading most levels (ofs g.for_start) (λ v. v) (read.for_start most inner)
  unfolding read.for_start
  for_start_reads st = when (begins_type (kind_at st.tokens)) _ _
      (λ yes. choose_if g.for_start 1 (λ v. v) st.tokens begins_type true yes refl (refl, row_seen (λ vs j e. absurd (false≢true e)) for_declaration (member_row st)))
      (λ no. choose_if g.for_start 0 (λ v. v) st.tokens begins_type false no refl
      (refl, then_row (side refl (λ _. refl)) _ (option_reads most levels inner f st) (λ e mid _. then_row (side refl (λ _. refl)) _ (expect_reads (k.Mark p.Semicolon) mid) (λ u mid _. end_row refl))))

  pub for_head_reads : Reading most levels (ofs g.for_head) (λ v. v) (read.for_head most inner)
  unfolding read.for_head
  for_head_reads st = choose g.for_head 0 (λ v. v) st.tokens _ (kind_at st.tokens) (kind_next st.tokens) refl refl refl (
    refl,
    then_row (side refl (λ _. refl)) _ (expect_reads (k.Mark p.LeftParen) st) (λ t mid _. then_row (side refl (λ _. refl)) _ (for_start_reads mid)
        (λ first mid _. then_row (side refl (λ _. refl)) _ (option_reads most levels inner f mid) (λ condition mid _. then_row (side refl (λ _. refl)) _ (expect_reads (k.Mark p.Semicolon) mid)
        (λ u mid _. then_row (side refl (λ _. refl)) _ (option_reads most levels inner f mid) (λ step mid _. then_row (side refl (λ _. refl)) _ (expect_reads (k.Mark p.RightParen) mid) (λ u mid _. end_row refl)))))),
  )
