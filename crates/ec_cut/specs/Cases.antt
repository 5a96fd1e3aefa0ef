-- The steps of reading and of the rules, with a test where a definition has a case for each symbol or each number.
use Rattle.std.specs.Prelude.{ℕ, nat_eq, ◌&&◌, Bool, true, false, List, [], ◌∷◌, ◌++◌, Option, Some, None}
use Rattle.ec_ctypes.specs.declared.checked.library.Sym.{Sym}
use Rattle.ec_ctypes.specs.declared.checked.library.Sym.TheVariants as sym
use Rattle.ec_arguments.specs.Arguments.{Arg, TextArg, absent, word, held, Indicator, Member, host, constant, descriptor, ItemMember, Call}
use Rattle.ec_arguments.specs.Reading.{Read, and_then, before, next_symbol, next_member, item_of, ends_inputs, ends_outputs, ends_items}
use Rattle.ec_arguments.specs.Rules.{is_given_text, is_single, fits_place, is_call}
use Rattle.ec_cut.specs.declared.lists.End.{End}
use Rattle.ec_cut.specs.declared.lists.End.TheVariants as ends

abbrev pub is_no_indicator : Sym → Bool
is_no_indicator sym.NoIndicator = true
is_no_indicator _ = false

abbrev pub is_const : Sym → Bool
is_const sym.Const = true
is_const _ = false

abbrev pub is_descriptor : Sym → Bool
is_descriptor sym.Descriptor = true
is_descriptor _ = false

-- the symbols that end a list
abbrev pub ends_by : End → Sym → Bool
ends_by ends.Inputs s = ends_inputs s
ends_by ends.Outputs s = ends_outputs s
ends_by ends.Items s = ends_items s

-- whether three numbers are these
abbrev pub are : ℕ → ℕ → ℕ → ℕ → ℕ → ℕ → Bool
are x y z a b c = nat_eq a x && nat_eq b y && nat_eq c z

-- a value where a test holds
abbrev pub some_if : {B : Type 0} → Bool → B → Option B
some_if true b = Some b
some_if false b = None

abbrev pub is_empty : {B : Type 0} → List B → Bool
is_empty [] = true
is_empty (b ∷ bs) = false

module _ {A : Type 0} where
  abbrev pub no_indicators : TextArg A → ℕ → ℕ → ℕ → Option (Option (Indicator A))
  no_indicators absent a b c = some_if (are 0 0 0 a b c) None
  no_indicators (word bytes) a b c = None
  no_indicators (held p) a b c = None

  abbrev pub indicators : Sym → TextArg A → ℕ → ℕ → ℕ → Option (Option (Indicator A))
  indicators s absent a b c = None
  indicators s (word bytes) a b c = None
  indicators s (held p) a b c =
      some_if (nat_eq a 0) (Some (record { sym = s; value = p; count = b; step = c }))

  abbrev pub indicator_by : Sym → TextArg A → ℕ → ℕ → ℕ → Option (Option (Indicator A))
  indicator_by s value a b c = elim (is_no_indicator s) [
    | true ↦ no_indicators value a b c
    | false ↦ indicators s value a b c
  ]

  abbrev pub is_none : Option (Indicator A) → Bool
  is_none None = true
  is_none (Some i) = false

  abbrev pub constant_by : TextArg A → ℕ → ℕ → ℕ → Option (Indicator A) → Option (Member A)
  constant_by absent a b c ind = None
  constant_by (word bytes) a b c ind = some_if (are 0 1 0 a b c && is_none ind) (constant bytes)
  constant_by (held p) a b c ind = None

  abbrev pub descriptor_by : TextArg A → ℕ → ℕ → ℕ → Option (Indicator A) → Option (Member A)
  descriptor_by name a b c ind = some_if (are 1 1 1 a b c && is_none ind) (descriptor name)

  abbrev pub host_by : Sym → TextArg A → ℕ → ℕ → ℕ → Option (Indicator A) → Option (Member A)
  host_by s absent a b c ind = None
  host_by s (word bytes) a b c ind = None
  host_by s (held p) a b c ind =
      Some (host (record { sym = s; value = p; size = a; count = b; step = c; ind = ind }))

  abbrev pub member_by : Sym → TextArg A → ℕ → ℕ → ℕ → Option (Indicator A) → Option (Member A)
  member_by s value a b c ind =
      elim (is_const s) [
        | true ↦ constant_by value a b c ind
        | false ↦ elim (is_descriptor s) [
          | true ↦ descriptor_by value a b c ind
          | false ↦ host_by s value a b c ind
        ]
      ]

  -- an item with its member
  abbrev pub one_item : List (Arg A) → Read A (ItemMember A)
  one_item args =
      and_then (next_symbol args) (λ s r.
      and_then (before (item_of s) r) (λ i r.
      and_then (next_member r) (λ m r. Some ((i, m), r))))

  -- what is read, behind what was read before
  abbrev pub with_front : {B : Type 0} → List B → Read A (List B) → Read A (List B)
  with_front front None = None
  with_front front (Some read) = Some (front ++ read.0, read.1)

  -- a host that may be stored into
  abbrev pub is_fitting_host : Member A → Bool
  is_fitting_host (host p) = fits_place p
  is_fitting_host (constant bytes) = false
  is_fitting_host (descriptor name) = false

module _ {A : Type 0} (is_text : A → Bool) where
  -- an input, which may be the last one
  abbrev pub is_input : Member A → Bool → Bool
  is_input (host p) last = is_single p
  is_input (constant bytes) last = true
  is_input (descriptor name) last = last && is_given_text is_text name

  -- the only output
  abbrev pub is_only_output : Member A → Bool
  is_only_output (host p) = fits_place p
  is_only_output (constant bytes) = false
  is_only_output (descriptor name) = is_given_text is_text name

  -- a call that keeps the rules, with nothing behind it
  abbrev pub stands_by : Call A → List (Arg A) → Bool
  stands_by call [] = is_call is_text call
  stands_by call (more ∷ rest) = false
