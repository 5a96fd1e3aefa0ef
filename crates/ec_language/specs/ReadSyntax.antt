-- All readings of a list of tokens, by lists of successes, and whether a list is a front: functions that compute what the grammar derives.
use Rattle.std.specs.Prelude.{◌≡◌, ◌⊎◌, ℕ, zero, suc, ◌*◌, Bool, true, false, ◌&&◌, List, [], ◌∷◌, ◌++◌, length, Option, Some, None}
use Rattle.ec_base.specs.declared.fault.FaultKind.TheVariants.{F7}
use Rattle.ec_base.specs.declared.fault.LimitKind.TheVariants.{L3}
use Rattle.ec_base.specs.declared.stop.Stop.{Stop}
use Rattle.ec_base.specs.declared.stop.Stop.TheVariants.{Refused, Limit}
use Rattle.ec_language.specs.Productions.{Placed, start_of, is, Sym, unit, Value, Element, tok, count, sym, nest, whole, own, Row, Node, Nodes, Follows, Production, productions}
use Rattle.ec_language.specs.Grammar.{PlacedTokens, Limits, Counts, no_counts, behind_counted, is_within, in_expression, behind_expression, in_declarator, behind_declarator}

-- a tree, the tokens that it is made of, those left behind it, and the counts there
pub record Reading (A : Type 0) : Type 0 where
  pub tree : A
  pub taken : PlacedTokens
  pub left : PlacedTokens
  pub behind : Counts

-- ---- lists that stop early: `&&`, `||` and `if` compute both sides

abbrev pub some_of : {A : Type 0} → (A → Bool) → List A → Bool
some_of f [] = false
some_of f (x ∷ xs) = elim (f x) [ true ↦ true | false ↦ some_of f xs ]

abbrev pub each_of : {A B : Type 0} → (A → B) → List A → List B
each_of f [] = []
each_of f (x ∷ xs) = f x ∷ each_of f xs

abbrev pub all_of : {A B : Type 0} → (A → List B) → List A → List B
all_of f [] = []
all_of f (x ∷ xs) = f x ++ all_of f xs

abbrev pub alone_where : {A : Type 0} → Bool → A → List A
alone_where true x = x ∷ []
alone_where false x = []

-- the value is one of the list
abbrev pub IsAmong : {A : Type 0} → A → List A → Type 0
IsAmong x [] = ⊥
IsAmong x (y ∷ ys) = (y ≡ x) ⊎ IsAmong x ys

-- ---- parts of readings

-- a token of which the test holds
abbrev pub read_token : (Placed → Bool) → Counts → PlacedTokens → List (Reading Placed)
read_token f behind [] = []
read_token f behind (v ∷ w) =
    alone_where (f v) (record { tree = v; taken = v ∷ []; left = w; behind = behind })

-- one level deeper, where a level is left
abbrev pub read_deeper : {A : Type 0} → (ℕ → List A) → ℕ → List A
read_deeper f zero = []
read_deeper f (suc fewer) = f fewer

-- with other counts behind it
abbrev pub leaving : {A : Type 0} → (Counts → Counts) → Reading A → Reading A
leaving f x = record { tree = x.tree; taken = x.taken; left = x.left; behind = f x.behind }

-- a reading of an element, and behind it one of the rest of its row
abbrev pub joined : {A B : Type 0} → Reading A → Reading B → Reading (A × B)
joined x y = record {
  tree = (x.tree, y.tree);
  taken = x.taken ++ y.taken;
  left = y.left;
  behind = y.behind;
}

-- where tokens may stand behind an element, and else only no tokens
abbrev pub may_follow : Bool → PlacedTokens → Bool
may_follow b [] = true
may_follow b (v ∷ w) = b

abbrev pub joined_where : {A B : Type 0} → Bool → Reading A → Reading B → List (Reading (A × B))
joined_where b x y = alone_where (may_follow b y.taken) (joined x y)

-- the tree that a production makes of a reading of its row
abbrev pub made : {A : Type 0} (a : Production A) → Reading (Nodes a.row) → Reading A
made a x = record {
  tree = a.make (start_of x.taken) x.tree;
  taken = x.taken;
  left = x.left;
  behind = x.behind;
}

-- ---- parts of fronts

abbrev pub is_empty : PlacedTokens → Bool
is_empty [] = true
is_empty (v ∷ w) = false

-- no token, or one of which the test holds
abbrev pub front_token : (Placed → Bool) → PlacedTokens → Bool
front_token f [] = true
front_token f (v ∷ []) = f v
front_token f (v ∷ _ ∷ w) = false

-- no token, or one level deeper, where a level is left
abbrev pub front_deeper : (ℕ → Bool) → ℕ → Bool
front_deeper f zero = false
front_deeper f (suc fewer) = f fewer

abbrev pub front_nest : (ℕ → Bool) → ℕ → PlacedTokens → Bool
front_nest f levels [] = true
front_nest f levels (v ∷ w) = front_deeper f levels

-- which readings a symbol has, with so many levels left and these counts before it; and whether a list is a front of it
abbrev pub Reader : Type 0
Reader = ℕ → Counts → (s : Sym) → PlacedTokens → List (Reading (Value s))

abbrev pub Fronter : Type 0
Fronter = ℕ → Counts → Sym → PlacedTokens → Bool

-- the second, where the first is true
abbrev pub only_where : Bool → Bool → Bool
only_where a b = elim a [ true ↦ b | false ↦ false ]

module _ (limits : Limits) where
  -- ---- readings

  abbrev pub read_element : Reader → ℕ → Counts → (i : Element) → PlacedTokens
      → List (Reading (Node i))
  read_element R levels c (tok t) w = read_token (λ v. is t v.token.tok) c w
  read_element R levels c (count k t) w =
      read_token (λ v. is t v.token.tok && is_within limits k (behind_counted k c))
      (behind_counted k c) w
  read_element R levels c (sym s) w = R levels c s w
  read_element R levels c (nest s) w = read_deeper (λ fewer. R fewer c s w) levels
  read_element R levels c (whole s) w =
      each_of (leaving (behind_expression c)) (R levels (in_expression c) s w)
  read_element R levels c (own s) w =
      each_of (leaving (behind_declarator c)) (R levels (in_declarator c) s w)

  abbrev pub read_row : Reader → ℕ → Counts → Follows → (r : Row) → PlacedTokens
      → List (Reading (Nodes r))
  read_row R levels c follows [] w = record { tree = tt; taken = []; left = w; behind = c } ∷ []
  read_row R levels c follows (i ∷ r) w =
      all_of
      (λ x. all_of (joined_where (follows i x.tree) x)
      (read_row R levels x.behind follows r x.left))
      (read_element R levels c i w)

  abbrev pub read_productions : Reader → ℕ → Counts → {A : Type 0} → List (Production A)
      → PlacedTokens → List (Reading A)
  read_productions R levels c [] w = []
  read_productions R levels c (a ∷ rest) w =
      each_of (made a) (read_row R levels c a.follows a.row w) ++ read_productions R levels c rest w

  -- all readings by derivations lower than n
  abbrev pub read : ℕ → Reader
  read zero levels c s w = []
  read (suc n) levels c s w = read_productions (read n) levels c (productions s) w

  -- ---- fronts

  abbrev pub front_element : Fronter → ℕ → Counts → Element → PlacedTokens → Bool
  front_element F levels c (tok t) u = front_token (λ v. is t v.token.tok) u
  front_element F levels c (count k t) u =
      front_token (λ v. is t v.token.tok && is_within limits k (behind_counted k c)) u
  front_element F levels c (sym s) u = F levels c s u
  front_element F levels c (nest s) u = front_nest (λ fewer. F fewer c s u) levels u
  front_element F levels c (whole s) u = F levels (in_expression c) s u
  front_element F levels c (own s) u = F levels (in_declarator c) s u

  -- R reads the whole elements before the place where the list ends
  abbrev pub front_row : Reader → Fronter → ℕ → Counts → Follows → Row → PlacedTokens → Bool
  front_row R F levels c follows [] u = is_empty u
  front_row R F levels c follows (i ∷ r) u = elim (front_element F levels c i u) [
    | true ↦ true
    | false ↦ some_of (λ x. elim (may_follow (follows i x.tree) x.left) [
      | true ↦ front_row R F levels x.behind follows r x.left
      | false ↦ false
    ]) (read_element R levels c i u)
  ]

  -- whether the list is a front, by a derivation lower than n
  abbrev pub is_front : ℕ → Fronter
  is_front zero levels c s u = false
  is_front (suc n) levels c s u =
      some_of (λ a. front_row (read n) (is_front n) levels c a.follows a.row u) (productions s)

-- ---- readings and fronts in one pass

-- the readings, and whether all tokens are a front
pub record Found (A : Type 0) : Type 0 where
  pub readings : List (Reading A)
  pub front : Bool

abbrev pub found : {A : Type 0} → List (Reading A) → Bool → Found A
found xs b = record { readings = xs; front = b }

abbrev pub either : Bool → Bool → Bool
either a b = elim a [ true ↦ true | false ↦ b ]

abbrev pub or_front : {A : Type 0} → Bool → Found A → Found A
or_front b e = found e.readings (either b e.front)

abbrev pub both : {A : Type 0} → Found A → Found A → Found A
both d e = found (d.readings ++ e.readings) (either d.front e.front)

abbrev pub found_deeper : {A : Type 0} → (ℕ → Found A) → ℕ → PlacedTokens → Found A
found_deeper f zero w = found [] (is_empty w)
found_deeper f (suc fewer) w = or_front (is_empty w) (f fewer)

abbrev pub found_leaving : {A : Type 0} → (Counts → Counts) → Found A → Found A
found_leaving f e = found (each_of (leaving f) e.readings) e.front

abbrev pub found_joined : {A B : Type 0} → Bool → Reading A → Found B → Found (A × B)
found_joined b x e =
    found (all_of (joined_where b x) e.readings) (only_where (may_follow b x.left) e.front)

abbrev pub found_behind : {A B : Type 0} → (A → Bool) → (Reading A → Found B) → List (Reading A)
    → Found (A × B)
found_behind t f [] = found [] false
found_behind t f (x ∷ xs) = both (found_joined (t x.tree) x (f x)) (found_behind t f xs)

abbrev pub found_rest : {A B : Type 0} → (A → Bool) → (Reading A → Found B) → Found A
    → Found (A × B)
found_rest t f e = or_front e.front (found_behind t f e.readings)

abbrev pub found_made : {A : Type 0} (a : Production A) → Found (Nodes a.row) → Found A
found_made a e = found (each_of (made a) e.readings) e.front

abbrev pub Finder : Type 0
Finder = ℕ → Counts → (s : Sym) → PlacedTokens → Found (Value s)

module _ (limits : Limits) where
  abbrev pub find_element : Finder → ℕ → Counts → (i : Element) → PlacedTokens → Found (Node i)
  find_element X levels c (tok t) w =
      found (read_token (λ v. is t v.token.tok) c w) (front_token (λ v. is t v.token.tok) w)
  find_element X levels c (count k t) w =
      found
      (read_token (λ v. is t v.token.tok && is_within limits k (behind_counted k c))
      (behind_counted k c) w)
      (front_token (λ v. is t v.token.tok && is_within limits k (behind_counted k c)) w)
  find_element X levels c (sym s) w = X levels c s w
  find_element X levels c (nest s) w = found_deeper (λ fewer. X fewer c s w) levels w
  find_element X levels c (whole s) w =
      found_leaving (behind_expression c) (X levels (in_expression c) s w)
  find_element X levels c (own s) w =
      found_leaving (behind_declarator c) (X levels (in_declarator c) s w)

  abbrev pub find_row : Finder → ℕ → Counts → Follows → (r : Row) → PlacedTokens → Found (Nodes r)
  find_row X levels c follows [] w =
      found (record { tree = tt; taken = []; left = w; behind = c } ∷ []) (is_empty w)
  find_row X levels c follows (i ∷ r) w =
      found_rest (follows i) (λ x. find_row X levels x.behind follows r x.left)
      (find_element X levels c i w)

  abbrev pub find_productions : Finder → ℕ → Counts → {A : Type 0} → List (Production A)
      → PlacedTokens → Found A
  find_productions X levels c [] w = found [] false
  find_productions X levels c (a ∷ rest) w =
      both (found_made a (find_row X levels c a.follows a.row w))
      (find_productions X levels c rest w)

  -- what `read` and `is_front` give, without reading an element twice
  abbrev pub find : ℕ → Finder
  find zero levels c s w = found [] false
  find (suc n) levels c s w = find_productions (find n) levels c (productions s) w

-- ---- enough height

-- longer than any chain of symbols that takes no token
abbrev pub chain : ℕ
chain = 32

-- no derivation of a part of the list has to be higher
abbrev pub height : PlacedTokens → ℕ
height w = chain * suc (length w)

-- the tree, where nothing is left
abbrev pub whole_tree : {A : Type 0} → Reading A → List A
whole_tree x = alone_where (is_empty x.left) x.tree

-- the trees of the list within the limits
abbrev pub trees : Limits → (s : Sym) → PlacedTokens → List (Value s)
trees limits s w = all_of whole_tree (read limits (height w) limits.nesting no_counts s w)

abbrev pub fits : Limits → Sym → PlacedTokens → Bool
fits limits s u = (find limits (height u) limits.nesting no_counts s u).front

-- limits that the list can't reach
abbrev pub unreached : PlacedTokens → Limits
unreached u = record { nesting = height u; operations = length u; derivations = length u }

-- ---- the answer

-- the stop at the first token after which the tokens are no front within the limits
abbrev pub stop_at : Limits → PlacedTokens → Placed → Option Stop
stop_at limits u t = elim (fits limits unit u) [
  | true ↦ None
  | false ↦ elim (fits (unreached u) unit u) [
    | true ↦ Some (Limit L3)
    | false ↦ Some (Refused F7 t.token.line)
  ]
]

abbrev pub first_stop : Limits → PlacedTokens → PlacedTokens → Option Stop
first_stop limits before [] = None
first_stop limits before (t ∷ after) = elim (stop_at limits (before ++ t ∷ []) t) [
  | Some stop ↦ Some stop
  | None ↦ first_stop limits (before ++ t ∷ []) after
]
