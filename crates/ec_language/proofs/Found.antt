-- One pass finds the readings and the front.
use Rattle.std.proofs.Common.{◌≡◌, ℕ, zero, suc, Bool, true, false, List, [], ◌∷◌, refl, ap, ◌∙◌}
use Rattle.ec_language.specs.Productions.{Sym, Element, tok, count, sym as ofs, nest, whole, own, Row, Follows, Production, productions}
use Rattle.ec_language.specs.Grammar.{PlacedTokens, Limits, Counts, in_expression, behind_expression, in_declarator, behind_declarator}
use Rattle.ec_language.specs.ReadSyntax.{Reading, some_of, all_of, joined_where, may_follow, only_where, read_deeper, front_nest, Reader, read_element, read_row, read_productions, read, Fronter, front_element, front_row, is_front, Found, found, or_front, both, found_deeper, found_leaving, found_joined, found_behind, found_rest, found_made, Finder, find_element, find_row, find_productions, find}

same_deeper : {A : Type 0} (f : ℕ → Found A) (g : ℕ → List (Reading A)) (h : ℕ → Bool) → ((fewer : ℕ) → f fewer ≡ found (g fewer) (h fewer)) → (levels : ℕ) (w : PlacedTokens) → found_deeper f levels w ≡ found (read_deeper g levels) (front_nest h levels w)
same_deeper f g h e zero [] = refl
same_deeper f g h e zero (v ∷ w) = refl
same_deeper f g h e (suc fewer) [] = ap (or_front true) (e fewer)
same_deeper f g h e (suc fewer) (v ∷ w) = ap (or_front false) (e fewer)

same_behind : {A B : Type 0} (t : A → Bool) (f : Reading A → Found B) (g : Reading A → List (Reading B)) (h : Reading A → Bool) → ((x : Reading A) → f x ≡ found (g x) (h x)) → (xs : List (Reading A)) → found_behind t f xs ≡ found (all_of (λ x. all_of (joined_where (t x.tree) x) (g x)) xs) (some_of (λ x. only_where (may_follow (t x.tree) x.left) (h x)) xs)
same_behind t f g h e [] = refl
same_behind t f g h e (x ∷ xs) =
    ap (λ d. both (found_joined (t x.tree) x d) (found_behind t f xs)) (e x) ∙ ap (both (found_joined (t x.tree) x (found (g x) (h x)))) (same_behind t f g h e xs)

module _ (limits : Limits) where
  abbrev Agrees : Finder → Reader → Fronter → Type 0
  Agrees X R F = (levels : ℕ) (c : Counts) (s : Sym) (w : PlacedTokens) → X levels c s w ≡ found (R levels c s w) (F levels c s w)

  same_element : (X : Finder) (R : Reader) (F : Fronter) → Agrees X R F → (levels : ℕ) (c : Counts) (i : Element) (w : PlacedTokens) → find_element limits X levels c i w ≡ found (read_element limits R levels c i w) (front_element limits F levels c i w)
  same_element X R F f levels c (tok t) w = refl
  same_element X R F f levels c (count k t) w = refl
  same_element X R F f levels c (ofs s) w = f levels c s w
  same_element X R F f levels c (nest s) w = same_deeper (λ fewer. X fewer c s w) (λ fewer. R fewer c s w) (λ fewer. F fewer c s w) (λ fewer. f fewer c s w) levels w
  same_element X R F f levels c (whole s) w = ap (found_leaving (behind_expression c)) (f levels (in_expression c) s w)
  same_element X R F f levels c (own s) w = ap (found_leaving (behind_declarator c)) (f levels (in_declarator c) s w)

  same_row : (X : Finder) (R : Reader) (F : Fronter) → Agrees X R F → (levels : ℕ) (c : Counts) (follows : Follows) (r : Row) (w : PlacedTokens) → find_row limits X levels c follows r w ≡ found (read_row limits R levels c follows r w) (front_row limits R F levels c follows r w)
  same_row X R F f levels c follows [] w = refl
  same_row X R F f levels c follows (i ∷ r) w =
      ap (found_rest (follows i) (λ x. find_row limits X levels x.behind follows r x.left)) (same_element X R F f levels c i w)
      ∙ ap (or_front (front_element limits F levels c i w))
      (same_behind (follows i) (λ x. find_row limits X levels x.behind follows r x.left) (λ x. read_row limits R levels x.behind follows r x.left) (λ x. front_row limits R F levels x.behind follows r x.left)
      (λ x. same_row X R F f levels x.behind follows r x.left) (read_element limits R levels c i w))

  same_productions : (X : Finder) (R : Reader) (F : Fronter) → Agrees X R F → (levels : ℕ) (c : Counts) {A : Type 0} (ps : List (Production A)) (w : PlacedTokens) → find_productions limits X levels c ps w ≡ found (read_productions limits R levels c ps w) (some_of (λ a. front_row limits R F levels c a.follows a.row w) ps)
  same_productions X R F f levels c [] w = refl
  same_productions X R F f levels c (a ∷ rest) w =
      ap (λ d. both (found_made a d) (find_productions limits X levels c rest w)) (same_row X R F f levels c a.follows a.row w)
      ∙ ap (both (found_made a (found (read_row limits R levels c a.follows a.row w) (front_row limits R F levels c a.follows a.row w)))) (same_productions X R F f levels c rest w)

  pub same : (n : ℕ) → Agrees (find limits n) (read limits n) (is_front limits n)
  same zero levels c s w = refl
  same (suc n) levels c s w = same_productions (find limits n) (read limits n) (is_front limits n) (same n) levels c (productions s) w
