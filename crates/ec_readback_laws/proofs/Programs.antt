-- Functions and programs are derived from what they are written as.
use Rattle.std.proofs.Common.{◌≡◌, ℕ, zero, suc, ◌+◌, true, false, not, ◌&&◌, List, [], ◌∷◌, ◌++◌, refl, inl, inr, ap, sym, ◌∙◌, subst, arith, Option, Some, None, append_assoc}
use Rattle.std.specs.Prelude.{codes, if◌then◌else◌}
use Rattle.std.proofs.lemmas.Bool.{false≢true}
use Rattle.ec_ctypes.specs.declared.text.token.Punct.TheVariants as p
use Rattle.ec_ctypes.specs.trees.Exprs.{BaseData, words, DimList, no_dims, declarator, DeclaratorList, no_declarators, declarators, DeclData, decl}
use Rattle.ec_ctypes.specs.trees.Stmts.{StmtList}
use Rattle.ec_ctypes.specs.trees.Units.{ParamData, FuncData, TopData, include_top, directive_top, decl_top, func_top, mark_top, UnitData}
use Rattle.ec_ctypes.specs.trees.Tokens.{word_token, punct_token, include_token, end_token, TokenData}
use Rattle.ec_language.specs.Letters.{Text}
use Rattle.ec_language.specs.Productions.{is, Start, start_of, BehindName, object, without_void, line_of, Placed}
use Rattle.ec_language.specs.Productions as g
use Rattle.ec_language.specs.Grammar.{Derives}
use Rattle.ec_language.proofs.Ends.{both}
use Rattle.ec_language.proofs.Unlimited.{made as derived_by, unlimited_derives}
use Rattle.ec_writing_defs.specs.Chunks.{Chunk, blank, line_end, line_mark, Chunks, At, tokens_from, behind, line_behind}
use Rattle.ec_writing_defs.specs.Expressions.{mark, word, star_chunks, base_chunks, dims_chunks, initializer_chunks, more_declarators_chunks, declarators_chunks}
use Rattle.ec_writing_defs.specs.Programs.{param_name, param_chunks, more_params_chunks, params_chunks, body_chunks, top_chunks, tops_chunks}
use Rattle.ec_writing_defs.specs.Shapes.{is_plain_name, is_line, is_written_base, are_written_dims, is_written_initializer, are_written_declarators, is_written_decl, is_written_name, is_written_param, are_written_params, is_void_list, is_written_body, is_written_func, is_written_top, are_written_tops}
use Rattle.ec_readback_laws.proofs.Derivations.{Written, On, settled, done, token, counts, gap, new_line, marked, part, inner, its_own, last_part, last_inner, last_own, here, next, made, same_chunks, same_tree}
use Rattle.ec_readback_laws.proofs.Expressions.{name_in_grammar, base_written, stars_written, no_constants, dims_written, initializer_written, more_declarators_written, off}
use Rattle.ec_readback_laws.proofs.Starts.{token_before, base_token, starts_at}
use Rattle.ec_readback_laws.proofs.Statements.{on_line, items_written, block_of}

module _ (n : ℕ) where
  stars_blank : (k : ℕ) → On n g.stars (blank ∷ star_chunks k) k
  stars_blank zero = made _ here (gap done) (λ at. refl)
  stars_blank (suc k) = let same : suc k ≡ k + 1 = omega arith in
      made _ (next here) (gap (counts (punct_token p.Star) refl (λ at. refl) (part (no_constants n) refl (last_part (stars_written n k))))) (λ at. same)

  -- ---- parameters

  param_of : (b : BaseData) (k : ℕ) (x : Option Text) (ds : DimList) → is_written_base n b ≡ true → (ns : Chunks) (xs : Chunks) → On n g.stars ns k → On n g.parameter_name xs x → are_written_dims n ds ≡ true
      → On n g.parameter (base_chunks b ++ (ns ++ (xs ++ dims_chunks ds))) (record { base = b; stars = k; name = x; dims = ds; section = false })
  param_of b k x ds h ns xs d e l = made _ here (part (base_written n b h) refl (part d refl (part e refl (last_part (dims_written n ds l)))))
      (λ at. ap (λ (s : Start). record { base = b; stars = k; name = x; dims = ds; section = s.section }) (sym (starts_at (base_chunks b ++ (ns ++ (xs ++ dims_chunks ds))) at (base_token n b (ns ++ (xs ++ dims_chunks ds)) h))))

  no_param_name : On n g.parameter_name [] None
  no_param_name = made _ here done (λ at. refl)

  param_written : (q : ParamData) → is_written_param n q ≡ true → On n g.parameter (param_chunks q) q
  param_written q h =
      let k = both (not q.section && is_written_base n q.base) (is_written_name q.name && are_written_dims n q.dims) h in
      let i = both (not q.section) (is_written_base n q.base) k.0 in
      let j = both (is_written_name q.name) (are_written_dims n q.dims) k.1 in
      same_tree (record { base = q.base; stars = q.stars; name = q.name; dims = q.dims; section = false }) q (λ x. record { base = q.base; stars = q.stars; name = q.name; dims = q.dims; section = sym (off q.section i.0) x })
      (go q.base q.stars q.name q.dims i.1 j.0 j.1)
    where
      named : (b : BaseData) (k : ℕ) (x : Text) (ds : DimList) → is_written_base n b ≡ true → is_plain_name x ≡ true → are_written_dims n ds ≡ true
          → On n g.parameter (base_chunks b ++ ((blank ∷ star_chunks k ++ word x ∷ []) ++ dims_chunks ds)) (record { base = b; stars = k; name = Some x; dims = ds; section = false })
      named b k x ds h j l =
          same_chunks (base_chunks b ++ ((blank ∷ star_chunks k) ++ (word x ∷ dims_chunks ds))) (base_chunks b ++ ((blank ∷ star_chunks k ++ word x ∷ []) ++ dims_chunks ds))
          (ap (λ cs. base_chunks b ++ blank ∷ cs) (sym (append_assoc (star_chunks k) (word x ∷ []) (dims_chunks ds))))
          (param_of b k (Some x) ds h (blank ∷ star_chunks k) (word x ∷ []) (stars_blank k) (made _ (next here) (token (word_token x) (name_in_grammar n x j) (λ at. refl) done) (λ at. refl)) l)

      go : (b : BaseData) (k : ℕ) (x : Option Text) (ds : DimList) → is_written_base n b ≡ true → is_written_name x ≡ true → are_written_dims n ds ≡ true
          → On n g.parameter (base_chunks b ++ (param_name k x ++ dims_chunks ds)) (record { base = b; stars = k; name = x; dims = ds; section = false })
      go b zero None ds h j l = param_of b 0 None ds h [] [] (stars_written n 0) no_param_name l
      go b (suc k) None ds h j l = param_of b (suc k) None ds h (blank ∷ star_chunks (suc k)) [] (stars_blank (suc k)) no_param_name l
      go b zero (Some x) ds h j l = named b zero x ds h j l
      go b (suc k) (Some x) ds h j l = named b (suc k) x ds h j l

  more_params_written : (qs : List ParamData) → are_written_params n qs ≡ true → On n g.more_parameters (more_params_chunks qs) qs
  more_params_written [] h = made _ here done (λ at. refl)
  more_params_written (q ∷ qs) h = let k = both (is_written_param n q) (are_written_params n qs) h in
      made _ (next here) (token (punct_token p.Comma) refl (λ at. refl) (gap (its_own (param_written q k.0) refl (last_part (more_params_written qs k.1))))) (λ at. refl)

  some_left : (qs : List ParamData) → is_void_list qs ≡ false → without_void qs ≡ qs
  some_left [] h = refl
  some_left (q ∷ []) h = λ i. if h i then [] else q ∷ []
  some_left (q ∷ r ∷ qs) h = refl

  void_param : On n g.parameters (word (codes "void") ∷ []) (record { base = words (codes "void" ∷ []); stars = 0; name = None; dims = no_dims; section = false } ∷ [])
  void_param = made _ (next here) (its_own (param_of (words (codes "void" ∷ [])) 0 None no_dims refl [] [] (stars_written n 0) no_param_name refl) refl (last_part (made _ here done (λ at. refl)))) (λ at. refl)

  params_written : (qs : List ParamData) → are_written_params n qs ≡ true → is_void_list qs ≡ false → On n g.parameter_part (params_chunks qs) qs
  params_written [] h v = made _ here (token (punct_token p.LeftParen) refl (λ at. refl) (part void_param refl (token (punct_token p.RightParen) refl (λ at. refl) done))) (λ at. refl)
  params_written (q ∷ qs) h v = let k = both (is_written_param n q) (are_written_params n qs) h in
      made _ here (token (punct_token p.LeftParen) refl (λ at. refl) (part (made _ (next here) (its_own (param_written q k.0) refl (last_part (more_params_written qs k.1))) (λ at. refl)) refl (token (punct_token p.RightParen) refl (λ at. refl) done)))
      (λ at. sym (some_left (q ∷ qs) v))

-- ---- functions

body_written : (n : ℕ) (b : Option StmtList) → is_written_body b ≡ true → Written n (line_behind n (body_chunks b)) g.body (body_chunks b) b
body_written n None h = made _ here (token (punct_token p.Semicolon) refl (λ at. refl) done) (λ at. refl)
body_written n (Some ss) h = settled (made _ (next here) (new_line (last_inner (block_of (suc n) _ ss (items_written ss h (suc (suc n)))))) (λ at. refl))

func_on : (n : ℕ) (b : BaseData) (stars : ℕ) (x : Text) (qs : List ParamData) (body : Option StmtList) → is_written_base n b ≡ true → is_plain_name x ≡ true → On n g.parameter_part (params_chunks qs) qs → {m : ℕ} → Written n m g.body (body_chunks body) body
    → (i : ℕ) → Written i (suc m) g.item (line_mark n ∷ (base_chunks b ++ (blank ∷ star_chunks stars ++ (word x ∷ params_chunks qs ++ body_chunks body))) ++ line_end ∷ [])
    (func_top (record { base = b; stars = stars; name = x; params = qs; body = body; section = false; line = record { 0 = n } }))
func_on n b stars x qs body h k d e i =
    let ys = blank ∷ star_chunks stars ++ (word x ∷ params_chunks qs ++ body_chunks body) in
    made _ (next (next (next (next here))))
    (marked n (part (made _ here (part (base_written n b h) refl (last_own (made _ (next here) (part (stars_blank n stars) refl (token (word_token x) (name_in_grammar n x k) (λ at. refl) (last_part (made _ here (inner d refl (last_part e)) (λ at. refl))))) (λ at. refl)))) (λ at. refl)) refl
    (new_line done)))
    (λ at. ap (λ (s : Start). func_top (record { base = b; stars = stars; name = x; params = qs; body = body; section = s.section; line = s.line }))
    (sym (starts_at ((base_chunks b ++ ys) ++ line_end ∷ []) (behind at (line_mark n)) (token_before (base_chunks b) ys (line_end ∷ []) (base_token n b (ys ++ line_end ∷ []) h)))))

func_written : (f : FuncData) → is_written_func f ≡ true → (i : ℕ) → Written i (line_behind i (top_chunks (func_top f))) g.item (top_chunks (func_top f)) (func_top f)
func_written f h i =
    let k = both (not f.section && is_line f.line.0) ((is_written_base f.line.0 f.base && is_plain_name f.name) && ((are_written_params f.line.0 f.params && not (is_void_list f.params)) && is_written_body f.body)) h in
    let a = both (not f.section) (is_line f.line.0) k.0 in
    let o = both (is_written_base f.line.0 f.base && is_plain_name f.name) ((are_written_params f.line.0 f.params && not (is_void_list f.params)) && is_written_body f.body) k.1 in
    let j = both (is_written_base f.line.0 f.base) (is_plain_name f.name) o.0 in
    let l = both (are_written_params f.line.0 f.params && not (is_void_list f.params)) (is_written_body f.body) o.1 in
    let m = both (are_written_params f.line.0 f.params) (not (is_void_list f.params)) l.0 in
    settled (same_tree (func_top (record { base = f.base; stars = f.stars; name = f.name; params = f.params; body = f.body; section = false; line = record { 0 = f.line.0 } })) (func_top f)
    (λ x. func_top (record { base = f.base; stars = f.stars; name = f.name; params = f.params; body = f.body; section = sym (off f.section a.0) x; line = f.line }))
    (func_on f.line.0 f.base f.stars f.name f.params f.body j.0 j.1 (params_written f.line.0 f.params m.0 (off (is_void_list f.params) m.1)) (body_written f.line.0 f.body l.1) i))

-- ---- declarations

tail_written : (n : ℕ) (ds : DeclaratorList) → are_written_declarators n ds ≡ true → (b : BaseData)
    → (x : Option (ℕ × Text × BehindName)) × On n g.external_tail (declarators_chunks ds ++ mark p.Semicolon ∷ []) x
    × ((s : Start) → g.external_top s b x ≡ decl_top (decl b ds s.section s.line))
tail_written n no_declarators h b = (None, made _ here (token (punct_token p.Semicolon) refl (λ at. refl) done) (λ at. refl), λ s. refl)
tail_written n (declarators (declarator stars name ds i) others) h b =
    let k = both (is_plain_name name && (are_written_dims n ds && is_written_initializer n i)) (are_written_declarators n others) h in
    let j = both (is_plain_name name) (are_written_dims n ds && is_written_initializer n i) k.0 in
    let l = both (are_written_dims n ds) (is_written_initializer n i) j.1 in
    let m = more_declarators_chunks others in
    let rest = dims_chunks ds ++ (initializer_chunks i ++ (m ++ mark p.Semicolon ∷ [])) in (
      Some (stars, name, object ds i others),
      same_chunks ((blank ∷ star_chunks stars) ++ (word name ∷ rest)) ((blank ∷ (star_chunks stars ++ (word name ∷ dims_chunks ds ++ initializer_chunks i)) ++ m) ++ mark p.Semicolon ∷ []) (grouped (star_chunks stars) (word name) (dims_chunks ds) (initializer_chunks i) m (mark p.Semicolon ∷ []))
          (made _ (next here) (part (stars_blank n stars) refl (token (word_token name) (name_in_grammar n name j.0) (λ at. refl) (last_part
          (made _ (next here) (part (dims_written n ds l.0) refl (part (initializer_written n i l.1) refl (part (more_declarators_written n others k.1) refl (token (punct_token p.Semicolon) refl (λ at. refl) done)))) (λ at. refl))))) (λ at. refl)),
      λ s. refl,
    )
  where
    grouped : (a : Chunks) (w : Chunk) (b c d e : Chunks) → blank ∷ a ++ (w ∷ b ++ (c ++ (d ++ e))) ≡ (blank ∷ (a ++ (w ∷ b ++ c)) ++ d) ++ e
    grouped a w b c d e = ap (λ x. blank ∷ x)
        (sym (append_assoc (a ++ (w ∷ b ++ c)) d e ∙ append_assoc a (w ∷ b ++ c) (d ++ e) ∙ ap (λ x. a ++ (w ∷ x)) (append_assoc b c (d ++ e))))

decl_on : (n : ℕ) (b : BaseData) (ds : DeclaratorList) → is_written_base n b ≡ true → are_written_declarators n ds ≡ true
    → (i : ℕ) → Written i (suc n) g.item (line_mark n ∷ (base_chunks b ++ (declarators_chunks ds ++ mark p.Semicolon ∷ [])) ++ line_end ∷ []) (decl_top (decl b ds false (record { 0 = n })))
decl_on n b ds h k i =
    let t = tail_written n ds k b in
    let ys = declarators_chunks ds ++ mark p.Semicolon ∷ [] in
    made _ (next (next (next (next here)))) (marked n (part (made _ here (part (base_written n b h) refl (last_own t.1)) (λ at. refl)) refl (new_line done)))
    (λ at. ap (λ (s : Start). decl_top (decl b ds s.section s.line)) (sym (starts_at ((base_chunks b ++ ys) ++ line_end ∷ []) (behind at (line_mark n)) (token_before (base_chunks b) ys (line_end ∷ []) (base_token n b (ys ++ line_end ∷ []) h))))
    ∙ sym (t.2 (start_of (tokens_from (behind at (line_mark n)) ((base_chunks b ++ ys) ++ line_end ∷ [])))))

-- what stands at the top level, wherever it stands
abbrev TopWritten : TopData → Type 0
TopWritten t = (i : ℕ) → Written i (line_behind i (top_chunks t)) g.item (top_chunks t) t

decl_top_written : (d : DeclData) → is_written_decl (line_of d).0 d ≡ true → TopWritten (decl_top d)
decl_top_written (decl b ds section line) h = let o = on_line line.0 (decl b ds section line) h in go o.base o.items o.is o.based o.listed
  where
    go : (c : BaseData) (es : DeclaratorList) → decl b ds section line ≡ decl c es false (record { 0 = line.0 }) → is_written_base line.0 c ≡ true → are_written_declarators line.0 es ≡ true → TopWritten (decl_top (decl b ds section line))
    go c es e k l = subst (λ x. TopWritten (decl_top x)) (sym e) (λ i. settled (decl_on line.0 c es k l i))

top_written : (t : TopData) → is_written_top t ≡ true → TopWritten t
top_written (decl_top d) h = decl_top_written d (both (is_line (line_of d).0) (is_written_decl (line_of d).0 d) h).1
top_written (func_top f) h = func_written f h
top_written (include_top s) h = λ i. settled (made _ here (token (include_token s) refl (λ at. refl) (new_line done)) (λ at. refl))
top_written (directive_top n) h = absurd (false≢true h)
top_written (mark_top b l) h = absurd (false≢true h)

tops_written : (ts : List TopData) → are_written_tops ts ≡ true → (i : ℕ) → Written i (line_behind i (tops_chunks ts)) g.items (tops_chunks ts) ts
tops_written [] h i = made _ here done (λ at. refl)
tops_written (t ∷ ts) h i = let k = both (is_written_top t) (are_written_tops ts) h in
    settled (made _ (next here) (part (top_written t k.0 i) refl (last_part (tops_written ts k.1 (line_behind i (top_chunks t))))) (λ at. refl))

-- ---- programs

pub unit_derived : (ts : List TopData) → are_written_tops ts ≡ true → (at : At) (e : TokenData) → e.tok ≡ end_token
    → Derives g.unit (tokens_from at (tops_chunks ts) ++ record { token = e; section = false } ∷ []) (record { tops = ts; embs = []; last = e.line })
unit_derived ts h at e end =
    let z : Placed = record { token = e; section = false } in
    let w = tokens_from at (tops_chunks ts) ++ z ∷ [] in
    let tree : UnitData = record { tops = ts; embs = []; last = e.line } in
    unlimited_derives g.unit w tree
    (derived_by g.unit w tree
    (inl ((ts, (z, tt)), refl, (tokens_from at (tops_chunks ts), z ∷ [], refl, (tops_written ts h at.line).derived at refl, (z ∷ [], [], refl, (refl, ap (λ t. is g.end_of_text t) end), refl, inl refl), inr refl))))
