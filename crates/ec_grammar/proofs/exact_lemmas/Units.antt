-- Whole programs.
use Rattle.std.proofs.Common.{◌≡◌, ℕ, zero, suc, ◌≤◌, ◌<◌, true, false, List, [], ◌∷◌, ◌++◌, length, refl, ap, sym, arith, append_assoc, Option, Some, None}
use Rattle.std.proofs.lemmas.List.{append-nil}
use Rattle.ec_ctypes.specs.declared.text.token.Punct.TheVariants as p
use Rattle.ec_ctypes.specs.trees.Stmts.{StmtData, StmtList}
use Rattle.ec_ctypes.specs.trees.Units.{TopData}
use Rattle.ec_language.specs.Letters.{Text}
use Rattle.ec_language.specs.Productions.{Start, start_of, sym as ofs, nest, own, BehindName, function, object, external_top, text_of}
use Rattle.ec_language.specs.Productions as g
use Rattle.ec_language.specs.Grammar.{PlacedTokens, Limits, Counts, in_declarator}
use Rattle.ec_grammar.specs.declared.kind.Kind.{Kind}
use Rattle.ec_grammar.specs.declared.kind.Kind.TheVariants as k
use Rattle.ec_grammar.specs.Input.{State, state, kind_at, kind_next}
use Rattle.ec_grammar.specs.Nested.{Nested, NestedStatements}
use Rattle.ec_grammar.specs.Starts.{begins_item}
use Rattle.ec_grammar.specs.ReadStatements as read
use Rattle.ec_grammar.proofs.exact_lemmas.Exact.{Reads, then_row, last_row, end_row, shorter}
use Rattle.ec_grammar.proofs.exact_lemmas.Choose.{side, choose, none, choose_if, when}
use Rattle.ec_grammar.proofs.exact_lemmas.Nests.{expect_reads, own_reads}
use Rattle.ec_grammar.proofs.exact_lemmas.Lists.{stmts_in, stmts_back, dims_back, init_back, declarators_back}
use Rattle.ec_grammar.proofs.exact_lemmas.Inner.{Reading, ReadsInner, ReadsDeeper}
use Rattle.ec_grammar.proofs.exact_lemmas.Types.{stars_reads, specifiers_reads}
use Rattle.ec_grammar.proofs.exact_lemmas.Declarations.{lengths_reads, initializer_option_reads, more_declarators_reads}

abbrev pub some_stmts : Option StmtList → Option (List StmtData)
some_stmts None = None
some_stmts (Some ss) = Some (stmts_in ss)

module _ (most : Limits) (levels : ℕ) (inner : Nested) (deeper : NestedStatements) (f : ReadsInner most levels inner) (d : ReadsDeeper most levels deeper) where
  same_body : (b : Option StmtList) → read.body_of most inner deeper (some_stmts b) ≡ b
  same_body None = refl
  same_body (Some ss) = ap (λ v. Some v) (stmts_back ss)

  body_by : (j : Kind) (st : State) → kind_at st.tokens ≡ j → Reads most levels st.counts (ofs g.body) (Option (List StmtData)) some_stmts st.tokens (read.body_by most inner deeper j st)
  body_by (k.Mark p.Semicolon) st at = choose g.body 0 some_stmts st.tokens _ (k.Mark p.Semicolon) (kind_next st.tokens) at refl refl (refl, then_row (side refl (λ _. refl)) _ (expect_reads (k.Mark p.Semicolon) st) (λ t mid _. end_row refl))
  body_by (k.Mark p.LeftBrace) st at = choose g.body 1 some_stmts st.tokens _ (k.Mark p.LeftBrace) (kind_next st.tokens) at refl refl (refl, then_row (side refl (λ _. refl)) _ (d.block st) (λ ss mid _. end_row refl))
  body_by _ st at = none g.body some_stmts st _ (kind_next st.tokens) at refl refl refl

  body_reads : Reading most levels (ofs g.body) some_stmts (read.body most inner deeper)
  unfolding read.body
  body_reads st = body_by (kind_at st.tokens) st refl

  behind_by : (j : Kind) (st : State) → kind_at st.tokens ≡ j → Reads most levels st.counts (ofs g.behind_name) BehindName (λ v. v) st.tokens (read.behind_name_by most inner deeper j st)
  behind_by (k.Mark p.LeftParen) st at = choose g.behind_name 0 (λ v. v) st.tokens _ (k.Mark p.LeftParen) (kind_next st.tokens) at refl refl
      (refl, then_row (side refl (λ _. refl)) _ (f.parameter_part st) (λ ps mid _. then_row (side refl (λ _. refl)) _ (body_reads mid) (λ b mid _. end_row (ap (function ps) (same_body b)))))
  behind_by _ st at = choose g.behind_name 1 (λ v. v) st.tokens _ _ (kind_next st.tokens) at refl refl (
    refl,
    then_row (side refl (λ _. refl)) _ (lengths_reads most levels inner f st) (λ ds mid _. then_row (side refl (λ _. refl)) _ (initializer_option_reads most levels inner f mid)
        (λ x mid _. then_row (side refl (λ _. refl)) _ (more_declarators_reads most levels inner f [] mid) (λ xs mid _. then_row (side refl (λ _. refl)) _ (expect_reads (k.Mark p.Semicolon) mid)
        (λ u mid _. end_row (λ i. object (dims_back ds i) (init_back x i) (declarators_back xs i)))))),
  )

  behind_reads : Reading most levels (ofs g.behind_name) (λ v. v) (read.behind_name most inner deeper)
  unfolding read.behind_name
  behind_reads st = behind_by (kind_at st.tokens) st refl

  tail_by : (j : Kind) (st : State) → kind_at st.tokens ≡ j → Reads most levels st.counts (ofs g.external_tail) (Option (ℕ × Text × BehindName)) (λ v. v) st.tokens (read.external_tail_by most inner deeper j st)
  tail_by (k.Mark p.Semicolon) st at = choose g.external_tail 0 (λ v. v) st.tokens _ (k.Mark p.Semicolon) (kind_next st.tokens) at refl refl (refl, then_row (side refl (λ _. refl)) _ (expect_reads (k.Mark p.Semicolon) st) (λ t mid _. end_row refl))
  tail_by _ st at = choose g.external_tail 1 (λ v. v) st.tokens _ _ (kind_next st.tokens) at refl refl
      (refl, then_row (side refl (λ _. refl)) _ (stars_reads most levels st) (λ n mid _. then_row (side refl (λ _. refl)) _ (expect_reads k.Name mid) (λ t mid _. then_row (side refl (λ _. refl)) _ (behind_reads mid) (λ x mid _. end_row refl))))

  tail_reads : Reading most levels (ofs g.external_tail) (λ v. v) (read.external_tail most inner deeper)
  unfolding read.external_tail
  tail_reads st = tail_by (kind_at st.tokens) st refl

  external_reads : (x : Start) → Reading most levels (ofs g.external) (λ v. external_top x v.base v.tail) (read.external most inner deeper x)
  unfolding read.external
  external_reads x st = choose g.external 0 (λ v. external_top x v.base v.tail) st.tokens _ (kind_at st.tokens) (kind_next st.tokens) refl refl refl (
    refl,
    then_row (side refl (λ _. refl)) _ (specifiers_reads most levels inner f st)
        (λ b mid _. then_row (side refl (λ _. refl)) _ (own_reads (read.external_tail most inner deeper) mid (tail_reads (state mid.tokens (in_declarator mid.counts)))) (λ t mid _. end_row refl)),
  )

  item_by : (j : Kind) (st : State) → kind_at st.tokens ≡ j → Reads most levels st.counts (ofs g.item) TopData (λ v. v) st.tokens (read.item_by most inner deeper (start_of st.tokens) j st)
  item_by k.Include st at = choose g.item 0 (λ v. v) st.tokens _ k.Include (kind_next st.tokens) at refl refl (refl, then_row (side refl (λ _. refl)) _ (expect_reads k.Include st) (λ t mid _. end_row refl))
  item_by k.Directive st at = choose g.item 1 (λ v. v) st.tokens _ k.Directive (kind_next st.tokens) at refl refl (refl, then_row (side refl (λ _. refl)) _ (expect_reads k.Directive st) (λ t mid _. end_row refl))
  item_by k.Opening st at = choose g.item 2 (λ v. v) st.tokens _ k.Opening (kind_next st.tokens) at refl refl (refl, then_row (side refl (λ _. refl)) _ (expect_reads k.Opening st) (λ t mid _. end_row refl))
  item_by k.Closing st at = choose g.item 3 (λ v. v) st.tokens _ k.Closing (kind_next st.tokens) at refl refl (refl, then_row (side refl (λ _. refl)) _ (expect_reads k.Closing st) (λ t mid _. end_row refl))
  item_by k.Static st at = choose g.item 5 (λ v. v) st.tokens _ k.Static (kind_next st.tokens) at refl refl
      (refl, then_row (side refl (λ _. refl)) _ (expect_reads k.Static st) (λ t mid _. last_row (side refl (λ _. refl)) (λ v. refl) (external_reads (start_of st.tokens) mid)))
  item_by _ st at = choose g.item 4 (λ v. v) st.tokens _ _ (kind_next st.tokens) at refl refl (refl, last_row (side refl (λ _. refl)) (λ v. refl) (external_reads (start_of st.tokens) st))

  item_reads : Reading most levels (ofs g.item) (λ v. v) (read.item most inner deeper)
  unfolding read.item
  item_reads st = item_by (kind_at st.tokens) st refl

  items_read : (m : ℕ) (found : List TopData) (w : PlacedTokens) (c : Counts) → length w ≤ m → Reads most levels c (ofs g.items) (List TopData) (λ v. found ++ v) w (read.items_from most inner deeper m found (state w c))
  unfolding read.items_from
  items_read zero found [] c le = choose g.items 0 (λ v. found ++ v) [] _ k.End k.End refl refl refl ((λ x y. refl), end_row (sym (append-nil found)))
  items_read zero found (t ∷ w) c le = absurd (omega arith)
  items_read (suc m) found w c le = when (begins_item (kind_at w)) _ _
      (λ yes. choose_if g.items 1 (λ v. found ++ v) w begins_item true yes refl (
        refl,
        then_row (side refl (λ _. refl)) _ (item_reads (state w c)) (λ x st a. last_row (side refl (λ _. refl)) (λ v. append_assoc found (x ∷ []) v)
            (items_read m (found ++ x ∷ []) st.tokens st.counts (let lt : length st.tokens < length w = shorter refl a in omega arith))),
      ))
      (λ no. choose_if g.items 0 (λ v. found ++ v) w begins_item false no refl ((λ x y. refl), end_row (sym (append-nil found))))

  pub unit_reads : Reading most levels (ofs g.unit) (λ v. v) (read.unit most inner deeper)
  unfolding read.unit read.items
  unit_reads st = choose g.unit 0 (λ v. v) st.tokens _ (kind_at st.tokens) (kind_next st.tokens) refl refl refl
      (refl, then_row (side refl (λ _. refl)) _ (items_read (length st.tokens) [] st.tokens st.counts (omega arith)) (λ xs mid _. then_row (side refl (λ _. refl)) _ (expect_reads k.End mid) (λ t mid _. end_row refl)))
