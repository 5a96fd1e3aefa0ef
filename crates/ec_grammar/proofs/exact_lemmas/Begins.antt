-- What the symbols of the grammar may begin with, computed from the productions. The first number bounds how deep the search goes, and where it ends the answer is yes: so a no is sure.
use Rattle.std.proofs.Common.{ℕ, zero, suc, Bool, true, false, [], ◌∷◌}
use Rattle.ec_language.specs.Productions.{Terminal, Sym, Element, tok, count, sym as ofs, nest, whole, own, Row, productions}
use Rattle.ec_language.proofs.TableTests.{any_row, on_element, may_be_empty}
use Rattle.ec_grammar.specs.declared.kind.Kind.{Kind}
use Rattle.ec_grammar.proofs.exact_lemmas.Fits.{fits, leads}

-- more than the longest chain of symbols that take no token
abbrev pub deep : ℕ
deep = 30

-- by the terminal of an element, or by its symbol
abbrev pub by_element : (Terminal → Bool) → (Sym → Bool) → Element → Bool
by_element f g (tok t) = f t
by_element f g (count k t) = f t
by_element f g (ofs s) = g s
by_element f g (nest s) = g s
by_element f g (whole s) = g s
by_element f g (own s) = g s

-- ---- no token

abbrev pub null : Element → Bool
null = on_element false may_be_empty

abbrev pub null_row : Row → Bool
null_row [] = true
null_row (i ∷ r) = elim (null i) [ true ↦ null_row r | false ↦ false ]

-- Cases of an `elim` are computed only as far as they are needed, which `&&` and `||` are not.

-- ---- a first token of this kind

abbrev pub first_row : (Element → Kind → Bool) → Row → Kind → Bool
first_row F [] j = false
first_row F (i ∷ r) j = elim (F i j) [ true ↦ true | false ↦ elim (null i) [ true ↦ first_row F r j | false ↦ false ] ]

abbrev pub on_first : (Sym → Kind → Bool) → Element → Kind → Bool
on_first F i j = by_element (λ t. fits t j) (λ s. F s j) i

abbrev pub first : ℕ → Sym → Kind → Bool
first zero s j = true
first (suc m) s j = any_row (λ r. first_row (on_first (first m)) r j) (productions s)

abbrev pub firsts : Row → Kind → Bool
firsts = first_row (on_first (first deep))

-- ---- a list of one token

abbrev pub single_row : (Element → Kind → Bool) → Row → Kind → Bool
single_row S [] j = false
single_row S (i ∷ r) j = elim (S i j) [
  | true ↦ elim (null_row r) [ true ↦ true | false ↦ elim (null i) [ true ↦ single_row S r j | false ↦ false ] ]
  | false ↦ elim (null i) [ true ↦ single_row S r j | false ↦ false ]
]

abbrev pub single : ℕ → Sym → Kind → Bool
single zero s j = true
single (suc m) s j = any_row (λ r. single_row (on_first (single m)) r j) (productions s)

abbrev pub singles : Row → Kind → Bool
singles = single_row (on_first (single deep))

-- ---- two first tokens of these kinds

abbrev pub pair_row : (Element → Kind → Kind → Bool) → (Element → Kind → Bool) → (Element → Kind → Bool) → Row → Kind → Kind → Bool
pair_row P S F [] j l = false
pair_row P S F (i ∷ r) j l = elim (P i j l) [
  | true ↦ true
  | false ↦ elim (S i j) [
    | true ↦ elim (first_row F r l) [ true ↦ true | false ↦ elim (null i) [ true ↦ pair_row P S F r j l | false ↦ false ] ]
    | false ↦ elim (null i) [ true ↦ pair_row P S F r j l | false ↦ false ]
  ]
]

abbrev pub on_pair : (Sym → Kind → Kind → Bool) → Element → Kind → Kind → Bool
on_pair P i j l = by_element (λ t. false) (λ s. P s j l) i

abbrev pub pair : ℕ → Sym → Kind → Kind → Bool
pair zero s j l = true
pair (suc m) s j l = any_row (λ r. pair_row (on_pair (pair m)) (on_first (single m)) (on_first (first m)) r j l) (productions s)

abbrev pub pairs : Row → Kind → Kind → Bool
pairs = pair_row (on_pair (pair deep)) (on_first (single deep)) (on_first (first deep))

-- ---- what is a front for sure: nothing, and a token of this kind

abbrev pub ground_row : (Element → Bool) → Row → Bool
ground_row G [] = true
ground_row G (i ∷ r) = G i

abbrev pub on_ground : (Sym → Bool) → Element → Bool
on_ground G (tok t) = true
on_ground G (count k t) = true
on_ground G (ofs s) = G s
on_ground G (nest s) = true
on_ground G (whole s) = G s
on_ground G (own s) = G s

abbrev pub ground : ℕ → Sym → Bool
ground zero s = false
ground (suc m) s = any_row (ground_row (on_ground (ground m))) (productions s)

abbrev pub lead_row : (Element → Kind → Bool) → Row → Kind → Bool
lead_row L [] j = false
lead_row L (i ∷ r) j = L i j

-- within any limits, and where one level is left at least
abbrev pub on_lead : Bool → (Bool → Sym → Kind → Bool) → Element → Kind → Bool
on_lead one L (tok t) j = leads t j
on_lead one L (count k t) j = false
on_lead one L (ofs s) j = L one s j
on_lead one L (nest s) j = elim one [ true ↦ L false s j | false ↦ false ]
on_lead one L (whole s) j = L one s j
on_lead one L (own s) j = L one s j

abbrev pub lead : ℕ → Bool → Sym → Kind → Bool
lead zero one s j = false
lead (suc m) one s j = any_row (λ r. lead_row (on_lead one (lead m)) r j) (productions s)

abbrev pub leads_row : Bool → Row → Kind → Bool
leads_row one = lead_row (on_lead one (lead deep))

-- where all limits are large enough
abbrev pub on_ahead : (Sym → Kind → Bool) → Element → Kind → Bool
on_ahead A i j = by_element (λ t. leads t j) (λ s. A s j) i

abbrev pub ahead : ℕ → Sym → Kind → Bool
ahead zero s j = false
ahead (suc m) s j = any_row (λ r. lead_row (on_ahead (ahead m)) r j) (productions s)

-- a first token that stands no level deeper
abbrev pub on_flat : (Sym → Kind → Bool) → Element → Kind → Bool
on_flat F (tok t) j = fits t j
on_flat F (count k t) j = fits t j
on_flat F (ofs s) j = F s j
on_flat F (nest s) j = false
on_flat F (whole s) j = F s j
on_flat F (own s) j = F s j

abbrev pub flat : ℕ → Sym → Kind → Bool
flat zero s j = true
flat (suc m) s j = any_row (λ r. first_row (on_flat (flat m)) r j) (productions s)

abbrev pub flats : Row → Kind → Bool
flats = first_row (on_flat (flat deep))
