-- Computed tests for the choice of a production by the next two tokens, and for an element and what follows it.
use Rattle.std.proofs.Common.{◌≡◌, ℕ, zero, suc, ◌≤◌, Bool, true, false, List, [], ◌∷◌, ◌++◌, length, refl, ◌⊎◌, inl, inr, ap, sym, ◌∙◌, subst, arith, length-append, Ok, Err}
use Rattle.std.specs.Prelude.{if◌then◌else◌}
use Rattle.std.proofs.lemmas.Bool.{false≢true}
use Rattle.ec_language.specs.Productions.{Placed, Start, start_of, Sym, Value, Element, tok, count, sym as ofs, nest, whole, own, Row, Node, Nodes, Follows, Production, productions}
use Rattle.ec_language.specs.Productions as g
use Rattle.ec_language.specs.Grammar.{PlacedTokens, Limits, Counts, AnyOf, Makes, DerivesBelow, FrontBelow}
use Rattle.ec_ctypes.specs.declared.text.token.Punct.TheVariants as p
use Rattle.ec_grammar.specs.declared.kind.Kind.{Kind}
use Rattle.ec_grammar.specs.declared.kind.Kind.TheVariants as k
use Rattle.ec_grammar.specs.declared.failure.Failure.TheVariants.{OutOfMemory, Dead, TooDeep}
use Rattle.ec_grammar.specs.Input.{State, Outcome, Parser, kind_at, kind_next, refuse}
use Rattle.ec_grammar.specs.Kinds.{same_kind}
use Rattle.ec_grammar.proofs.exact_lemmas.Fits.{kind_is}
use Rattle.ec_grammar.proofs.exact_lemmas.Begins.{deep, null_row, firsts, singles, pairs, ground, leads_row, flats}
use Rattle.ec_grammar.proofs.exact_lemmas.Sound.{kind, GivesRow, OpensRow, whole_row, null_list, first_list, single_list, pair_list, ground_sound, lead_list, level_left}
use Rattle.ec_grammar.proofs.exact_lemmas.Follow.{extends, opens, plain, at_tree, ext, ext_most, ext_sure}
use Rattle.ec_grammar.specs.Starts.{is_else}
use Rattle.ec_grammar.proofs.exact_lemmas.Exact.{Speaks, Goes, GoesRow, Parses, Stops, ParsesRow, StopsRow, Side, ElementOut, RowOut, Reads, ReadsRow}

-- ---- tests at each kind

abbrev pub kinds : List Kind
kinds =
    k.Static ∷ k.Const ∷ k.Struct ∷ k.If ∷ k.Else ∷ k.While ∷ k.Do ∷ k.For ∷ k.Break ∷ k.Continue ∷ k.Return ∷ k.Goto ∷ k.Sizeof ∷ k.TypeWord ∷ k.Varchar ∷ k.Name ∷ k.Integer
    ∷ k.Character ∷ k.Text ∷ k.Include ∷ k.Executable ∷ k.Directive ∷ k.Opening ∷ k.Closing ∷ k.End ∷ k.Mark p.Arrow ∷ k.Mark p.PlusPlus ∷ k.Mark p.MinusMinus ∷ k.Mark p.ShlAssign
    ∷ k.Mark p.ShrAssign ∷ k.Mark p.Shl ∷ k.Mark p.Shr ∷ k.Mark p.LessEqual ∷ k.Mark p.GreaterEqual ∷ k.Mark p.EqualEqual ∷ k.Mark p.NotEqual ∷ k.Mark p.AndAnd ∷ k.Mark p.OrOr
    ∷ k.Mark p.PlusAssign ∷ k.Mark p.MinusAssign ∷ k.Mark p.StarAssign ∷ k.Mark p.SlashAssign ∷ k.Mark p.PercentAssign ∷ k.Mark p.AndAssign ∷ k.Mark p.OrAssign ∷ k.Mark p.CaretAssign
    ∷ k.Mark p.LeftParen ∷ k.Mark p.RightParen ∷ k.Mark p.LeftBracket ∷ k.Mark p.RightBracket ∷ k.Mark p.LeftBrace ∷ k.Mark p.RightBrace ∷ k.Mark p.Semicolon ∷ k.Mark p.Comma ∷ k.Mark p.Dot
    ∷ k.Mark p.And ∷ k.Mark p.Star ∷ k.Mark p.Plus ∷ k.Mark p.Minus ∷ k.Mark p.Tilde ∷ k.Mark p.Not ∷ k.Mark p.Slash ∷ k.Mark p.Percent ∷ k.Mark p.Less ∷ k.Mark p.Greater ∷ k.Mark p.Caret
    ∷ k.Mark p.Or ∷ k.Mark p.Assign ∷ k.Mark p.Colon ∷ []

abbrev pub each : (Kind → Bool) → List Kind → Bool
each f [] = true
each f (j ∷ l) = elim (f j) [ true ↦ each f l | false ↦ false ]

abbrev has : Kind → List Kind → Bool
has j [] = false
has j (i ∷ l) = elim (same_kind i j) [ true ↦ true | false ↦ has j l ]

every : (j : Kind) → has j kinds ≡ true
every (k.Mark p.Arrow) = refl
every (k.Mark _) = refl
every _ = refl

pub yes_first : (a b : Bool) → elim a [ true ↦ b | false ↦ false ] ≡ true → a ≡ true
yes_first true b e = refl
yes_first false b e = e

pub yes_second : (a b : Bool) → elim a [ true ↦ b | false ↦ false ] ≡ true → b ≡ true
yes_second true b e = e
yes_second false b e = absurd (false≢true e)

each_has : (f : Kind → Bool) (l : List Kind) (j : Kind) → each f l ≡ true → has j l ≡ true → f j ≡ true
each_has f [] j e h = absurd (false≢true h)
each_has f (i ∷ l) j e h = go (each_has f l j (yes_second (f i) (each f l) e)) (same_kind i j) refl
  where
    go : (has j l ≡ true → f j ≡ true) → (b : Bool) → same_kind i j ≡ b → f j ≡ true
    go again true s = subst (λ x. f x ≡ true) (kind_is i j s) (yes_first (f i) (each f l) e)
    go again false s = again (subst (λ b. elim b [ true ↦ true | false ↦ has j l ] ≡ true) s h)

pub at_each : (f : Kind → Bool) → each f kinds ≡ true → (j : Kind) → f j ≡ true
at_each f e j = each_has f kinds j e (every j)

-- ---- an element and what follows it

abbrev side_shape : Bool → Bool → Bool → Bool → Bool
side_shape a b c d = elim a [ false ↦ true | true ↦ elim b [ true ↦ false | false ↦ elim c [ false ↦ true | true ↦ d ] ] ]

abbrev pub side_test : Sym → Element → Row → Kind → Bool
side_test s i r j = elim (ext_most i j) [ false ↦ true | true ↦ elim (firsts r j) [ true ↦ false | false ↦ elim (null_row r) [ false ↦ true | true ↦ ext_sure s j ] ] ]

side_apart : (a b c d : Bool) → side_shape a b c d ≡ true → a ≡ true → b ≡ true → ⊥
side_apart false b c d s h1 h2 = false≢true h1
side_apart true true c d s h1 h2 = false≢true s
side_apart true false c d s h1 h2 = false≢true h2

side_last : (a b c d : Bool) → side_shape a b c d ≡ true → a ≡ true → c ≡ true → d ≡ true
side_last false b c d s h1 h2 = absurd (false≢true h1)
side_last true true c d s h1 h2 = absurd (false≢true s)
side_last true false false d s h1 h2 = absurd (false≢true h2)
side_last true false true d s h1 h2 = s

plain_opens : (s : Sym) (v : Value s) → plain s ≡ true → opens s v ≡ true
plain_opens g.statement v e = absurd (false≢true e)
plain_opens g.else_option v e = absurd (false≢true e)
plain_opens _ v e = refl

tree_sure : (a e f o : Bool) → (f ≡ true → o ≡ true) → at_tree a e f ≡ true → at_tree a e o ≡ true
tree_sure true true f o h x = h x
tree_sure true false f o h x = refl
tree_sure false e f o h x = x

pub sure : (s : Sym) (v : Value s) (j : Kind) → ext_sure s j ≡ true → ext (ofs s) v j ≡ true
sure s v j e = tree_sure (extends s j) (is_else j) (plain s) (opens s v) (plain_opens s v) e

pub ext_is : (i : Element) (z : Node i) (j : Kind) → ext i z j ≡ true → ext_most i j ≡ true
ext_is (tok t) z j e = e
ext_is (count n t) z j e = e
ext_is (ofs s) z j e = yes_first (extends s j) (elim (is_else j) [ true ↦ opens s z | false ↦ true ]) e
ext_is (nest s) z j e = yes_first (extends s j) (elim (is_else j) [ true ↦ opens s z | false ↦ true ]) e
ext_is (whole s) z j e = yes_first (extends s j) (elim (is_else j) [ true ↦ opens s z | false ↦ true ]) e
ext_is (own s) z j e = yes_first (extends s j) (elim (is_else j) [ true ↦ opens s z | false ↦ true ]) e

pub side : {most : Limits} {levels : ℕ} {c : Counts} {s : Sym} {follows : Follows} {i : Element} {r : Row} {act : Nodes (i ∷ r) → Value s}
    → each (side_test s i r) kinds ≡ true → ((z : Node i) → follows i z ≡ true) → Side most levels c s follows i r act
side {s = s} {follows = follows} {i = i} {r = r} {act = act} test after = record {
  apart = λ lim n deeper e z t q h f o. side_apart (ext_most i (kind t)) (firsts r (kind t)) (null_row r) (ext_sure s (kind t)) (at_each (side_test s i r) test (kind t)) (ext_is i z (kind t) h) (first_list lim deep n deeper e follows r t q o);
  last = λ lim n deeper c1 e z zs x d h. sure s (act (z, zs)) (kind_at x)
      (side_last (ext_most i (kind_at x)) (firsts r (kind_at x)) (null_row r) (ext_sure s (kind_at x)) (at_each (side_test s i r) test (kind_at x)) (ext_is i z (kind_at x) h) (null_list lim n deeper c1 follows r zs e d));
  stands = λ w v left a lim n deeper q x e o. inr (after v);
}

-- ---- a production that is not chosen

abbrev pub nil_test : {A : Type 0} (r : Row) → (Nodes r → A) → (A → Bool) → Bool
nil_test [] f h = h (f tt)
nil_test (i ∷ r) f h = elim (null_row (i ∷ r)) [ true ↦ false | false ↦ true ]

abbrev pub lead_test : Row → Row → Kind → Bool
lead_test c r j = elim (leads_row false c j) [ true ↦ true | false ↦ elim (flats r j) [ true ↦ false | false ↦ leads_row true c j ] ]

abbrev lost_shape : Bool → Bool → Bool → Bool → Bool → Bool → Bool → Bool
lost_shape a n p u s e f = elim a [ false ↦ n | true ↦ elim p [ true ↦ false | false ↦ elim u [ true ↦ false | false ↦ elim s [ true ↦ elim e [ true ↦ f | false ↦ false ] | false ↦ f ] ] ] ]

-- With these two tokens ahead the production has no whole list that nothing goes on with, and no front that the row c lacks.
abbrev pub lost : (s : Sym) → Row → Kind → Kind → Production (Value s) → Bool
lost s c j l b = elim (firsts b.row j) [
  | false ↦ nil_test b.row (b.make (start_of [])) (λ v. ext (ofs s) v j)
  | true ↦ elim (pairs b.row j l) [
    | true ↦ false
    | false ↦ elim (null_row b.row) [
      | true ↦ false
      | false ↦ elim (singles b.row j) [ true ↦ elim (ext_sure s l) [ true ↦ lead_test c b.row j | false ↦ false ] | false ↦ lead_test c b.row j ]
    ]
  ]
]

lost_pair : (a n p u s e f : Bool) → lost_shape a n p u s e f ≡ true → a ≡ true → p ≡ true → ⊥
lost_pair false n p u s e f h h1 h2 = false≢true h1
lost_pair true n true u s e f h h1 h2 = false≢true h
lost_pair true n false u s e f h h1 h2 = false≢true h2

lost_single : (a n p u s e f : Bool) → lost_shape a n p u s e f ≡ true → a ≡ true → s ≡ true → e ≡ true
lost_single false n p u s e f h h1 h2 = absurd (false≢true h1)
lost_single true n true u s e f h h1 h2 = absurd (false≢true h)
lost_single true n false true s e f h h1 h2 = absurd (false≢true h)
lost_single true n false false true true f h h1 h2 = refl
lost_single true n false false true false f h h1 h2 = h
lost_single true n false false false e f h h1 h2 = absurd (false≢true h2)

lost_null : (a n p u s e f : Bool) → lost_shape a n p u s e f ≡ true → u ≡ true → n ≡ true
lost_null false n p u s e f h h1 = h
lost_null true n true u s e f h h1 = absurd (false≢true h)
lost_null true n false true s e f h h1 = absurd (false≢true h)
lost_null true n false false s e f h h1 = absurd (false≢true h1)

lost_lead : (a n p u s e f : Bool) → lost_shape a n p u s e f ≡ true → a ≡ true → f ≡ true
lost_lead false n p u s e f h h1 = absurd (false≢true h1)
lost_lead true n true u s e f h h1 = absurd (false≢true h)
lost_lead true n false true s e f h h1 = absurd (false≢true h)
lost_lead true n false false true true f h h1 = h
lost_lead true n false false true false f h h1 = absurd (false≢true h)
lost_lead true n false false false e f h h1 = h

nil_ext : {A : Type 0} (lim : Limits) (n levels : ℕ) (c e : Counts) (follows : Follows) (r : Row) (f : Nodes r → A) (h : A → Bool) → nil_test r f h ≡ true → (zs : Nodes r) → GivesRow lim n levels c follows r [] zs e → h (f zs) ≡ true
nil_ext lim n levels c e follows [] f h y zs d = y
nil_ext lim n levels c e follows (i ∷ r) f h y zs d = go (null_row (i ∷ r)) (null_list lim n levels c follows (i ∷ r) zs e d) y
  where
    go : (b : Bool) → b ≡ true → elim b [ true ↦ false | false ↦ true ] ≡ true → h (f zs) ≡ true
    go true m x = absurd (false≢true x)
    go false m x = absurd (false≢true m)

module _ (s : Sym) (c : Row) (b : Production (Value s)) (lim : Limits) (n levels : ℕ) (c0 : Counts) where
  abbrev Lost : Kind → Kind → Type 0
  Lost j l = lost s c j l b ≡ true

  lost_list : (p x : PlacedTokens) (zs : Nodes b.row) (e : Counts) → Lost (kind_at (p ++ x)) (kind_next (p ++ x)) → GivesRow lim n levels c0 b.follows b.row p zs e → ext (ofs s) (b.make (start_of p) zs) (kind_at x) ≡ true
  lost_list [] x zs e h d =
      let j = kind_at x in let l = kind_next x in
      nil_ext lim n levels c0 e b.follows b.row (b.make (start_of [])) (λ v. ext (ofs s) v j)
      (lost_null (firsts b.row j) (nil_test b.row (b.make (start_of [])) (λ v. ext (ofs s) v j)) (pairs b.row j l) (null_row b.row) (singles b.row j) (ext_sure s l) (lead_test c b.row j) h (null_list lim n levels c0 b.follows b.row zs e d)) zs d
  lost_list (t ∷ []) x zs e h d =
      let j = kind t in let l = kind_at x in
      sure s (b.make (start_of (t ∷ [])) zs) l
      (lost_single (firsts b.row j) (nil_test b.row (b.make (start_of [])) (λ v. ext (ofs s) v j)) (pairs b.row j l) (null_row b.row) (singles b.row j) (ext_sure s l) (lead_test c b.row j) h
      (first_list lim deep n levels c0 b.follows b.row t [] (whole_row lim n levels c0 b.follows b.row (t ∷ []) zs e d)) (single_list lim deep n levels c0 b.follows b.row t zs e d))
  lost_list (t ∷ z ∷ q) x zs e h d =
      let j = kind t in let l = kind z in
      absurd (lost_pair (firsts b.row j) (nil_test b.row (b.make (start_of [])) (λ v. ext (ofs s) v j)) (pairs b.row j l) (null_row b.row) (singles b.row j) (ext_sure s l) (lead_test c b.row j) h
      (first_list lim deep n levels c0 b.follows b.row t (z ∷ q) (whole_row lim n levels c0 b.follows b.row (t ∷ z ∷ q) zs e d))
      (pair_list lim deep n levels c0 b.follows b.row t z q (whole_row lim n levels c0 b.follows b.row (t ∷ z ∷ q) zs e d)))

  led : (t : Placed) (fc : Follows) → OpensRow lim n levels c0 b.follows b.row (t ∷ []) → lead_test c b.row (kind t) ≡ true → OpensRow lim deep levels c0 fc c (t ∷ [])
  led t fc o = go (leads_row false c (kind t)) refl (flats b.row (kind t)) refl
    where
      go : (x : Bool) → leads_row false c (kind t) ≡ x → (y : Bool) → flats b.row (kind t) ≡ y → elim x [ true ↦ true | false ↦ elim y [ true ↦ false | false ↦ leads_row true c (kind t) ] ] ≡ true → OpensRow lim deep levels c0 fc c (t ∷ [])
      go true e y f h = lead_list lim deep t false levels tt c0 fc c e
      go false e true f h = absurd (false≢true h)
      go false e false f h = lead_list lim deep t true levels (level_left lim deep n levels c0 b.follows b.row t [] f o) c0 fc c h

  lost_front : (fc : Follows) (u x : PlacedTokens) → Lost (kind_at (u ++ x)) (kind_next (u ++ x)) → OpensRow lim n levels c0 b.follows b.row u → (u ≡ []) ⊎ OpensRow lim deep levels c0 fc c u
  lost_front fc [] x h o = inl refl
  lost_front fc (t ∷ []) x h o =
      let j = kind t in let l = kind_at x in
      inr (led t fc o
      (lost_lead (firsts b.row j) (nil_test b.row (b.make (start_of [])) (λ v. ext (ofs s) v j)) (pairs b.row j l) (null_row b.row) (singles b.row j) (ext_sure s l) (lead_test c b.row j) h (first_list lim deep n levels c0 b.follows b.row t [] o)))
  lost_front fc (t ∷ z ∷ q) x h o =
      let j = kind t in let l = kind z in
      absurd (lost_pair (firsts b.row j) (nil_test b.row (b.make (start_of [])) (λ v. ext (ofs s) v j)) (pairs b.row j l) (null_row b.row) (singles b.row j) (ext_sure s l) (lead_test c b.row j) h
      (first_list lim deep n levels c0 b.follows b.row t (z ∷ q) o) (pair_list lim deep n levels c0 b.follows b.row t z q o))

-- ---- the choice

abbrev pub all_lost : {A : Type 0} → (Production A → Bool) → List (Production A) → Bool
all_lost f [] = true
all_lost f (a ∷ rest) = elim (f a) [ true ↦ all_lost f rest | false ↦ false ]

-- all but the one at n
abbrev pub others : {A : Type 0} → (Production A → Bool) → List (Production A) → ℕ → Bool
others f [] n = true
others f (a ∷ rest) zero = all_lost f rest
others f (a ∷ rest) (suc n) = elim (f a) [ true ↦ others f rest n | false ↦ false ]

abbrev pub row_at : {A : Type 0} → List (Production A) → ℕ → Row
row_at [] n = []
row_at (a ∷ rest) zero = a.row
row_at (a ∷ rest) (suc n) = row_at rest n

abbrev pub At : {A : Type 0} → List (Production A) → ℕ → (Production A → Type 0) → Type 0
At [] n H = ⊥
At (a ∷ rest) zero H = H a
At (a ∷ rest) (suc n) H = At rest n H

-- The tree of a production without elements is the same wherever it stands.
abbrev pub Fixed : {A : Type 0} (r : Row) → (Start → Nodes r → A) → Type 0
Fixed [] make = (x y : Start) → make x tt ≡ make y tt
Fixed (i ∷ r) make = null_row (i ∷ r) ≡ false

alike : {A : Type 0} (lim : Limits) (n levels : ℕ) (c e : Counts) (follows : Follows) (r : Row) (make : Start → Nodes r → A) → Fixed r make → (p x w : PlacedTokens) (zs : Nodes r) → w ≡ p ++ x → GivesRow lim n levels c follows r p zs e → make (start_of p) zs ≡ make (start_of w) zs
alike lim n levels c e follows [] make f [] x w zs h d = f (start_of []) (start_of w)
alike lim n levels c e follows (i ∷ r) make f [] x w zs h d = absurd (false≢true (sym f ∙ null_list lim n levels c follows (i ∷ r) zs e d))
alike lim n levels c e follows r make f (t ∷ p) x w zs h d = ap (λ y. make (start_of y) zs) (sym h)

record Chosen {A : Type 0} (f : Production A → Bool) (l : List (Production A)) (a : Production A) : Type 0 where
  makes : (lim : Limits) (n levels : ℕ) (c : Counts) (p : PlacedTokens) (v : A) (e : Counts) → Makes lim (DerivesBelow lim n) levels c p v e a → AnyOf lim (Makes lim (DerivesBelow lim n) levels c p v e) l
  fronts : (lim : Limits) (n levels : ℕ) (c : Counts) (u : PlacedTokens) → OpensRow lim n levels c a.follows a.row u → AnyOf lim (λ b. OpensRow lim n levels c b.follows b.row u) l
  made : (lim : Limits) (n levels : ℕ) (c : Counts) (p : PlacedTokens) (v : A) (e : Counts) → AnyOf lim (Makes lim (DerivesBelow lim n) levels c p v e) l → Makes lim (DerivesBelow lim n) levels c p v e a ⊎ ((b : Production A) × (f b ≡ true) × Makes lim (DerivesBelow lim n) levels c p v e b)
  fronted : (lim : Limits) (n levels : ℕ) (c : Counts) (u : PlacedTokens) → AnyOf lim (λ b. OpensRow lim n levels c b.follows b.row u) l → OpensRow lim n levels c a.follows a.row u ⊎ ((b : Production A) × (f b ≡ true) × OpensRow lim n levels c b.follows b.row u)

one_lost : {A : Type 0} (lim : Limits) (f : Production A → Bool) (X : Production A → Type 0) (l : List (Production A)) → all_lost f l ≡ true → AnyOf lim X l → (b : Production A) × (f b ≡ true) × X b
one_lost lim f X [] e h = absurd h
one_lost lim f X (a ∷ rest) e (inl h) = (a, yes_first (f a) (all_lost f rest) e, h)
one_lost lim f X (a ∷ rest) e (inr h) = one_lost lim f X rest (yes_second (f a) (all_lost f rest) e) h

locate : {A : Type 0} (f : Production A → Bool) (H : Production A → Type 0) (l : List (Production A)) (n : ℕ) → others f l n ≡ true → At l n H → (a : Production A) × H a × (row_at l n ≡ a.row) × Chosen f l a
locate f H [] n e h = absurd h
locate f H (a ∷ rest) zero e h = (
  a,
  h,
  refl,
  record {
    makes = λ lim n levels c p v b m. inl m;
    fronts = λ lim n levels c u m. inl m;
    made = λ lim n levels c p v b. elim [ inl m ↦ inl m | inr m ↦ inr (one_lost lim f (Makes lim (DerivesBelow lim n) levels c p v b) rest e m) ];
    fronted = λ lim n levels c u. elim [ inl m ↦ inl m | inr m ↦ inr (one_lost lim f (λ b. OpensRow lim n levels c b.follows b.row u) rest e m) ];
  },
)
locate f H (a ∷ rest) (suc m) e h =
    let x = locate f H rest m (yes_second (f a) (others f rest m) e) h in
    let y : f a ≡ true = yes_first (f a) (others f rest m) e in
    let k : Chosen f rest x.0 = x.3 in (
      x.0,
      x.1,
      x.2,
      record {
        makes = λ lim n levels c p v b z. inr (k.makes lim n levels c p v b z);
        fronts = λ lim n levels c u z. inr (k.fronts lim n levels c u z);
        made = λ lim n levels c p v b. elim [ inl z ↦ inr (a, y, z) | inr z ↦ k.made lim n levels c p v b z ];
        fronted = λ lim n levels c u. elim [ inl z ↦ inr (a, y, z) | inr z ↦ k.fronted lim n levels c u z ];
      },
    )

pub open_gives : (lim : Limits) (n levels : ℕ) (c : Counts) (s : Sym) (p : PlacedTokens) (z : Value s) (e : Counts) → DerivesBelow lim n levels c s p z e → (m : ℕ) × AnyOf lim (Makes lim (DerivesBelow lim m) levels c p z e) (productions s)
open_gives lim zero levels c s p z e d = absurd d
open_gives lim (suc n) levels c s p z e d = (n, d)

pub open_front : (lim : Limits) (n levels : ℕ) (c : Counts) (s : Sym) (u : PlacedTokens) → FrontBelow lim n levels c s u → (m : ℕ) × AnyOf lim (λ b. OpensRow lim m levels c b.follows b.row u) (productions s)
open_front lim zero levels c s u d = absurd d
open_front lim (suc n) levels c s u d = (n, d)

-- what is known of the productions that are not chosen
abbrev LostLists : (s : Sym) → (Production (Value s) → Bool) → Counts → PlacedTokens → Type 0
LostLists s f c w = (b : Production (Value s)) (lim : Limits) (n levels : ℕ) (p x : PlacedTokens) (zs : Nodes b.row) (e : Counts) → f b ≡ true → w ≡ p ++ x → GivesRow lim n levels c b.follows b.row p zs e → ext (ofs s) (b.make (start_of p) zs) (kind_at x) ≡ true

abbrev LostFronts : (s : Sym) → (Production (Value s) → Bool) → Counts → PlacedTokens → Follows → Row → Type 0
LostFronts s f c w fc r = (b : Production (Value s)) (lim : Limits) (n levels : ℕ) (u x : PlacedTokens) → f b ≡ true → w ≡ u ++ x → OpensRow lim n levels c b.follows b.row u → (u ≡ []) ⊎ OpensRow lim deep levels c fc r u

module _ (s : Sym) (f : Production (Value s) → Bool) (a : Production (Value s)) (most : Limits) (levels : ℕ) (c : Counts) (w : PlacedTokens) (ch : Chosen f (productions s) a) (fixed : Fixed a.row a.make) (l1 : LostLists s f c w) (l2 : LostFronts s f c w a.follows a.row) where
  sort_ok : {vs : Nodes a.row} {left : State} → ParsesRow most levels c s a.follows a.row (a.make (start_of w)) w vs left → Parses most levels c (ofs s) w ((a.make (start_of w)) vs) left
  sort_ok {vs} {left} r = record {
    part = r.part;
    split = r.split;
    derives = (suc r.derives.0, ch.makes most r.derives.0 levels c r.part ((a.make (start_of w)) vs) left.counts (vs, sym (alike most r.derives.0 levels c left.counts a.follows a.row a.make fixed r.part left.tokens w vs r.split r.derives.1), r.derives.1));
    only = λ lim n deeper p x z e h d. let o = open_gives lim n deeper c s p z e d in only lim o.0 deeper p x z e h (ch.made lim o.0 deeper c p z e o.1);
    bound = λ lim n deeper u x h d. let o = open_front lim n deeper c s u d in bound lim o.0 deeper u x h (ch.fronted lim o.0 deeper c u o.1);
  }
    where
      only : (lim : Limits) (n deeper : ℕ) (p x : PlacedTokens) (z : Value s) (e : Counts) → w ≡ p ++ x → Makes lim (DerivesBelow lim n) deeper c p z e a ⊎ ((b : Production (Value s)) × (f b ≡ true) × Makes lim (DerivesBelow lim n) deeper c p z e b)
          → ((x ≡ left.tokens) × (z ≡ (a.make (start_of w)) vs) × (e ≡ left.counts)) ⊎ (ext (ofs s) z (kind_at x) ≡ true)
      only lim n deeper p x z e h (inl m) = cases (r.only lim n deeper p x m.0 e h m.2)
        where
          same : z ≡ (a.make (start_of w)) m.0
          same = m.1 ∙ alike lim n deeper c e a.follows a.row a.make fixed p x w m.0 h m.2

          cases : ((x ≡ left.tokens) × (m.0 ≡ vs) × (e ≡ left.counts)) ⊎ (ext (ofs s) ((a.make (start_of w)) m.0) (kind_at x) ≡ true) → ((x ≡ left.tokens) × (z ≡ (a.make (start_of w)) vs) × (e ≡ left.counts)) ⊎ (ext (ofs s) z (kind_at x) ≡ true)
          cases (inl y) = inl (y.0, same ∙ ap (a.make (start_of w)) y.1, y.2)
          cases (inr y) = inr (subst (λ v. ext (ofs s) v (kind_at x) ≡ true) (sym same) y)
      only lim n deeper p x z e h (inr m) = inr (subst (λ v. ext (ofs s) v (kind_at x) ≡ true) (sym m.2.1) (l1 m.0 lim n deeper p x m.2.0 e m.1 h m.2.2))

      bound : (lim : Limits) (n deeper : ℕ) (u x : PlacedTokens) → w ≡ u ++ x → OpensRow lim n deeper c a.follows a.row u ⊎ ((b : Production (Value s)) × (f b ≡ true) × OpensRow lim n deeper c b.follows b.row u) → length left.tokens ≤ length x
      bound lim n deeper u x h (inl m) = r.bound lim n deeper u x h m
      bound lim n deeper u x h (inr m) = cases (l2 m.0 lim n deeper u x m.1 h m.2)
        where
          cases : (u ≡ []) ⊎ OpensRow lim deep deeper c a.follows a.row u → length left.tokens ≤ length x
          cases (inl y) = let z : w ≡ x = h ∙ ap (λ q. q ++ x) y in omega (arith, ap length r.split, length-append r.part left.tokens, ap length z)
          cases (inr y) = r.bound lim deep deeper u x h y

  sort_goes : (b : Bool) (part rest : PlacedTokens) → GoesRow b c a.follows a.row part rest → Goes b c (ofs s) part rest
  sort_goes true part rest h = tt
  sort_goes false part rest h = (h.0, h.1, h.2, (h.3.0, λ to deeper le room. let o = h.3.1 to deeper le room in (suc o.0, ch.fronts to o.0 deeper c (part ++ h.0 ∷ []) o.1)))

  sort_stop : {b : Bool} {size : ℕ} → StopsRow b most levels c s a.follows a.row (a.make (start_of w)) w size → Stops b most levels c (ofs s) w size
  sort_stop {b} {size} r = record {
    part = r.part;
    rest = r.rest;
    split = r.split;
    left = r.left;
    front = (suc r.front.0, ch.fronts most r.front.0 levels c r.part r.front.1);
    goes = sort_goes b r.part r.rest r.goes;
    only = λ lim n deeper y p x z e h d. let o = open_gives lim n deeper c s p z e d in only lim o.0 deeper y p x z e h (ch.made lim o.0 deeper c p z e o.1);
    bound = λ lim n deeper y u x h d. let o = open_front lim n deeper c s u d in bound lim o.0 deeper y u x h (ch.fronted lim o.0 deeper c u o.1);
  }
    where
      only : (lim : Limits) (n deeper : ℕ) → Speaks b most levels lim deeper → (p x : PlacedTokens) (z : Value s) (e : Counts) → w ≡ p ++ x → Makes lim (DerivesBelow lim n) deeper c p z e a ⊎ ((k : Production (Value s)) × (f k ≡ true) × Makes lim (DerivesBelow lim n) deeper c p z e k) → ext (ofs s) z (kind_at x) ≡ true
      only lim n deeper y p x z e h (inl m) =
          let same : z ≡ (a.make (start_of w)) m.0 = m.1 ∙ alike lim n deeper c e a.follows a.row a.make fixed p x w m.0 h m.2 in
          subst (λ v. ext (ofs s) v (kind_at x) ≡ true) (sym same) (r.only lim n deeper y p x m.0 e h m.2)
      only lim n deeper y p x z e h (inr m) = subst (λ v. ext (ofs s) v (kind_at x) ≡ true) (sym m.2.1) (l1 m.0 lim n deeper p x m.2.0 e m.1 h m.2.2)

      bound : (lim : Limits) (n deeper : ℕ) → Speaks b most levels lim deeper → (u x : PlacedTokens) → w ≡ u ++ x → OpensRow lim n deeper c a.follows a.row u ⊎ ((k : Production (Value s)) × (f k ≡ true) × OpensRow lim n deeper c k.follows k.row u) → size ≤ length x
      bound lim n deeper y u x h (inl m) = r.bound lim n deeper y u x h m
      bound lim n deeper y u x h (inr m) = cases (l2 m.0 lim n deeper u x m.1 h m.2)
        where
          cases : (u ≡ []) ⊎ OpensRow lim deep deeper c a.follows a.row u → size ≤ length x
          cases (inl z) = let v : w ≡ x = h ∙ ap (λ q. q ++ x) z in omega (arith, ap length r.split, length-append r.part r.rest, ap length v, r.left)
          cases (inr z) = r.bound lim deep deeper y u x h z

  decide : {B : Type 0} (h : Value s → B) (o : Outcome B) → RowOut most levels c s a.follows a.row (a.make (start_of w)) (λ vs. h ((a.make (start_of w)) vs)) w o → ElementOut most levels c (ofs s) h w o
  decide h (Ok p) x = ((a.make (start_of w)) x.0, x.1, sort_ok x.2)
  decide h (Err (Dead n)) x = sort_stop x
  decide h (Err (TooDeep n)) x = sort_stop x
  decide h (Err OutOfMemory) x = absurd x

-- what the chosen production has to show
abbrev pub Row_at : Limits → ℕ → Counts → (s : Sym) → {B : Type 0} → (Value s → B) → PlacedTokens → Outcome B → Production (Value s) → Type 0
Row_at most levels c s {B} h w o a = Fixed a.row a.make × ReadsRow most levels c s a.follows a.row (a.make (start_of w)) B (λ vs. h (a.make (start_of w) vs)) w o

module _ (most : Limits) (levels : ℕ) (c : Counts) (s : Sym) where
  -- The production at n is the one, by the next two tokens.
  choose_at : (n : ℕ) {B : Type 0} (h : Value s → B) (w : PlacedTokens) (o : Outcome B)
      → others (lost s (row_at (productions s) n) (kind_at w) (kind_next w)) (productions s) n ≡ true
      → At (productions s) n (Row_at most levels c s h w o) → ElementOut most levels c (ofs s) h w o
  choose_at n {B} h w o e x =
      let r : Row = row_at (productions s) n in
      let f : Production (Value s) → Bool = lost s r (kind_at w) (kind_next w) in
      let y = locate f (Row_at most levels c s h w o) (productions s) n e x in
      decide s f y.0 most levels c w y.3 y.1.0
      (λ b lim m deeper p z zs v g q d. lost_list s r b lim m deeper c p z zs v (subst (λ t. lost s r (kind_at t) (kind_next t) b ≡ true) q g) d)
      (λ b lim m deeper u z g q d. subst (λ t. (u ≡ []) ⊎ OpensRow lim deep deeper c y.0.follows t u) y.2 (lost_front s r b lim m deeper c y.0.follows u z (subst (λ t. lost s r (kind_at t) (kind_next t) b ≡ true) q g) d))
      h o y.1.1.out

  -- No production begins so.
  none_at : (w : PlacedTokens) → all_lost (lost s [] (kind_at w) (kind_next w)) (productions s) ≡ true → ground deep s ≡ true → Stops true most levels c (ofs s) w (length w)
  none_at w e g = record {
    part = [];
    rest = w;
    split = refl;
    left = refl;
    front = (deep, ground_sound most deep levels c s g);
    goes = tt;
    only = λ lim n deeper y p x z v m d. let o = open_gives lim n deeper c s p z v d in only lim o.0 deeper p x z v m (one_lost lim f (Makes lim (DerivesBelow lim o.0) deeper c p z v) (productions s) e o.1);
    bound = λ lim n deeper y u x m d. let o = open_front lim n deeper c s u d in bound lim o.0 deeper u x m (one_lost lim f (λ b. OpensRow lim o.0 deeper c b.follows b.row u) (productions s) e o.1);
  }
    where
      f : Production (Value s) → Bool
      f = lost s [] (kind_at w) (kind_next w)

      only : (lim : Limits) (n deeper : ℕ) (p x : PlacedTokens) (z : Value s) (v : Counts) → w ≡ p ++ x → (b : Production (Value s)) × (f b ≡ true) × Makes lim (DerivesBelow lim n) deeper c p z v b → ext (ofs s) z (kind_at x) ≡ true
      only lim n deeper p x z v m y = subst (λ q. ext (ofs s) q (kind_at x) ≡ true) (sym y.2.1) (lost_list s [] y.0 lim n deeper c p x y.2.0 v (subst (λ q. lost s [] (kind_at q) (kind_next q) y.0 ≡ true) m y.1) y.2.2)

      bound : (lim : Limits) (n deeper : ℕ) (u x : PlacedTokens) → w ≡ u ++ x → (b : Production (Value s)) × (f b ≡ true) × OpensRow lim n deeper c b.follows b.row u → length w ≤ length x
      bound lim n deeper u x m y = cases (lost_front s [] y.0 lim n deeper c (λ i v. true) u x (subst (λ q. lost s [] (kind_at q) (kind_next q) y.0 ≡ true) m y.1) y.2)
        where
          cases : (u ≡ []) ⊎ (u ≡ []) → length w ≤ length x
          cases (inl h) = let g : w ≡ x = m ∙ ap (λ q. q ++ x) h in omega (arith, ap length g)
          cases (inr h) = let g : w ≡ x = m ∙ ap (λ q. q ++ x) h in omega (arith, ap length g)

module _ {most : Limits} {levels : ℕ} {c : Counts} (s : Sym) where
  pub choose : (n : ℕ) {B : Type 0} (h : Value s → B) (w : PlacedTokens) (o : Outcome B) (j l : Kind)
      → kind_at w ≡ j → kind_next w ≡ l → others (lost s (row_at (productions s) n) j l) (productions s) n ≡ true
      → At (productions s) n (Row_at most levels c s h w o) → Reads most levels c (ofs s) B h w o
  choose n h w o j l e1 e2 t x = record {
    out = choose_at most levels c s n h w o (subst (λ j. others (lost s (row_at (productions s) n) j (kind_next w)) (productions s) n ≡ true) (sym e1)
        (subst (λ l. others (lost s (row_at (productions s) n) j l) (productions s) n ≡ true) (sym e2) t)) x;
  }

  pub none : {B : Type 0} (h : Value s → B) (st : State) (j l : Kind) → kind_at st.tokens ≡ j → kind_next st.tokens ≡ l
      → all_lost (lost s [] j l) (productions s) ≡ true → ground deep s ≡ true → Reads most levels c (ofs s) B h st.tokens (refuse st)
  none h st j l e1 e2 t g = record {
    out = none_at most levels c s st.tokens (subst (λ j. all_lost (lost s [] j (kind_next st.tokens)) (productions s) ≡ true) (sym e1)
        (subst (λ l. all_lost (lost s [] j l) (productions s) ≡ true) (sym e2) t)) g;
  }

-- ---- a choice by a test on the next token

-- The test has the answer b only at kinds at which the production at n is the one.
abbrev pub chooses : Sym → ℕ → Kind → (Kind → Bool) → Bool → Kind → Bool
chooses s n l f true j = elim (f j) [ true ↦ others (lost s (row_at (productions s) n) j l) (productions s) n | false ↦ true ]
chooses s n l f false j = elim (f j) [ false ↦ others (lost s (row_at (productions s) n) j l) (productions s) n | true ↦ true ]

pub when : {most : Limits} {levels : ℕ} {c : Counts} {i : Element} {B : Type 0} {h : Node i → B} {w : PlacedTokens} {st : State} (b : Bool) (p q : Parser B)
    → (b ≡ true → Reads most levels c i B h w (p st)) → (b ≡ false → Reads most levels c i B h w (q st)) → Reads most levels c i B h w ((if b then p else q) st)
when true p q f g = f refl
when false p q f g = g refl

module _ {most : Limits} {levels : ℕ} {c : Counts} (s : Sym) where
  pub choose_if : (n : ℕ) {B : Type 0} (h : Value s → B) (w : PlacedTokens) {o : Outcome B} (f : Kind → Bool) (b : Bool)
      → f (kind_at w) ≡ b → each (chooses s n (kind_next w) f b) kinds ≡ true
      → At (productions s) n (Row_at most levels c s h w o) → Reads most levels c (ofs s) B h w o
  choose_if n h w {o} f true e t x = choose s n h w o (kind_at w) (kind_next w) refl refl
      (let y = at_each (chooses s n (kind_next w) f true) t (kind_at w) in
      subst (λ b. elim b [ true ↦ others (lost s (row_at (productions s) n) (kind_at w) (kind_next w)) (productions s) n | false ↦ true ] ≡ true) e y) x
  choose_if n h w {o} f false e t x = choose s n h w o (kind_at w) (kind_next w) refl refl
      (let y = at_each (chooses s n (kind_next w) f false) t (kind_at w) in
      subst (λ b. elim b [ false ↦ others (lost s (row_at (productions s) n) (kind_at w) (kind_next w)) (productions s) n | true ↦ true ] ≡ true) e y) x
