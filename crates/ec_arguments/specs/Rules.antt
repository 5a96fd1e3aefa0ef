-- Which members stand where in a call, and with which numbers. A list that breaks one of these rules is no call.
use Rattle.std.specs.Prelude.{ℕ, zero, suc, ◌+◌, ◌&&◌, nat_eq, nat_le, Bool, true, false, List, [], ◌∷◌, Option, Some, None}
use Rattle.std.specs.Int.{next_multiple_of}
use Rattle.ec_ctypes.specs.declared.checked.library.Sym.{Sym}
use Rattle.ec_ctypes.specs.declared.checked.library.Sym.TheVariants as sym
use Rattle.ec_ctypes.specs.declared.checked.library.LibName.{LibName}
use Rattle.ec_ctypes.specs.declared.embedded.emb.Item.{Item}
use Rattle.ec_ctypes.specs.declared.embedded.emb.Item.TheVariants as item
use Rattle.ec_arguments.specs.Arguments.{Arg, TextArg, absent, word, held, Indicator, Place, Member, host, constant, descriptor, Statement, normal, prepared, immediate, opening, ItemMember, Call, run, connect, disconnect, set_connection, set_autocommit, control, prepare, deallocate, allocate_descriptor, deallocate_descriptor, get_count, set_count, get_items, set_items, Cut}
use Rattle.ec_arguments.specs.Reading.{read}

-- ---- the numbers of a host

-- the size of one element of a symbol and a length: a length that isn't that of a text is 0
abbrev pub without_length : ℕ → ℕ → Option ℕ
without_length zero size = Some size
without_length (suc n) size = None

-- a char array of this length, or a pointer where it is 0
abbrev pub chars_size : ℕ → ℕ
chars_size zero = 8
chars_size (suc n) = suc n

-- a VARCHAR: its length, and at least one byte behind it
abbrev pub varchar_size : ℕ → Option ℕ
varchar_size zero = None
varchar_size (suc n) = Some (next_multiple_of (4 + suc n) 4)

abbrev pub element_size : Sym → ℕ → Option ℕ
element_size sym.Char n = Some (chars_size n)
element_size sym.UnsignedChar n = Some (chars_size n)
element_size sym.Short n = without_length n 2
element_size sym.UnsignedShort n = without_length n 2
element_size sym.Int n = without_length n 4
element_size sym.UnsignedInt n = without_length n 4
element_size sym.Long n = without_length n 8
element_size sym.UnsignedLong n = without_length n 8
element_size sym.LongLong n = without_length n 8
element_size sym.UnsignedLongLong n = without_length n 8
element_size sym.Bool n = without_length n 1
element_size sym.Varchar n = varchar_size n
element_size _ n = None

-- the size of one indicator
abbrev pub indicator_size : Sym → Option ℕ
indicator_size sym.Short = Some 2
indicator_size sym.Int = Some 4
indicator_size sym.Long = Some 8
indicator_size sym.LongLong = Some 8
indicator_size _ = None

-- the greatest number in a call: 2^24
abbrev pub is_small : ℕ → Bool
is_small n = nat_le n 16777216

-- elements of this size, if it is one: one or more, at least their size apart
abbrev pub fits_element : Option ℕ → ℕ → ℕ → ℕ → Bool
fits_element None size count step = false
fits_element (Some element) size count step =
    nat_le 1 count && nat_le element step && is_small size && is_small count && is_small step

-- at least as many indicators as elements, at least their size apart
abbrev pub fits_indicator : Option ℕ → ℕ → ℕ → ℕ → Bool
fits_indicator None count indicators step = false
fits_indicator (Some element) count indicators step =
    nat_le count indicators && nat_le element step && is_small indicators && is_small step

module _ {A : Type 0} where
  abbrev pub fits_indicators : Option (Indicator A) → ℕ → Bool
  fits_indicators None count = true
  fits_indicators (Some i) count = fits_indicator (indicator_size i.sym) count i.count i.step

  abbrev pub fits_place : Place A → Bool
  fits_place p =
      fits_element (element_size p.sym p.size) p.size p.count p.step
      && fits_indicators p.ind p.count

  -- a host of one element
  abbrev pub is_single : Place A → Bool
  is_single p = nat_eq p.count 1 && fits_place p

  -- ---- members

  -- a value that is read once: a host of one element, or a constant
  abbrev pub is_value : Member A → Bool
  is_value (host p) = is_single p
  is_value (constant bytes) = true
  is_value (descriptor name) = false

  -- a place of one element that is stored into
  abbrev pub is_target : Member A → Bool
  is_target (host p) = is_single p
  is_target (constant bytes) = false
  is_target (descriptor name) = false

  -- hosts that rows are stored into
  abbrev pub are_hosts : List (Member A) → Bool
  are_hosts [] = true
  are_hosts (host p ∷ ms) = fits_place p && are_hosts ms
  are_hosts (constant bytes ∷ ms) = false
  are_hosts (descriptor name ∷ ms) = false

  -- items that are stored into a place each
  abbrev pub are_targets : List (ItemMember A) → Bool
  are_targets [] = true
  are_targets (i ∷ is) = is_target i.1 && are_targets is

-- whether an item can be set
abbrev pub is_settable : Item → Bool
is_settable item.Content = true
is_settable item.Indicator = true
is_settable item.Label = false
is_settable item.Code = true
is_settable item.Octets = false

-- items that are set from a value each
abbrev pub are_settings : {A : Type 0} → List (ItemMember A) → Bool
are_settings [] = true
are_settings (i ∷ is) = is_settable i.0 && is_value i.1 && are_settings is

module _ {A : Type 0} (is_text : A → Bool) where
  -- ---- texts

  -- NULL, a literal, or a pointer to chars
  abbrev pub is_optional_text : TextArg A → Bool
  is_optional_text absent = true
  is_optional_text (word bytes) = true
  is_optional_text (held a) = is_text a

  -- a literal, or a pointer to chars
  abbrev pub is_given_text : TextArg A → Bool
  is_given_text absent = false
  is_given_text (word bytes) = true
  is_given_text (held a) = is_text a

  -- ---- lists

  -- inputs: values, and a descriptor as the last one
  abbrev pub are_inputs : List (Member A) → Bool
  are_inputs [] = true
  are_inputs (host p ∷ ms) = is_single p && are_inputs ms
  are_inputs (constant bytes ∷ ms) = are_inputs ms
  are_inputs (descriptor name ∷ []) = is_given_text name
  are_inputs (descriptor name ∷ m ∷ ms) = false

  -- outputs: hosts, or a descriptor alone
  abbrev pub are_outputs : List (Member A) → Bool
  are_outputs (descriptor name ∷ []) = is_given_text name
  are_outputs ms = are_hosts ms

  -- ---- calls

  abbrev pub is_statement : Statement A → Bool
  is_statement (normal text) = true
  is_statement (prepared name) = true
  is_statement (immediate text) = is_given_text text
  is_statement (opening head name) = true

  -- NULL stands for the current connection, and for a user, a password and a name that aren't given
  abbrev pub is_call : Call A → Bool
  is_call (run connection statement ins outs) =
      is_optional_text connection && is_statement statement && are_inputs ins && are_outputs outs
  is_call (connect target user password name) = is_given_text target
      && is_optional_text user && is_optional_text password && is_optional_text name
  is_call (disconnect name) = is_given_text name
  is_call (set_connection name) = is_given_text name
  is_call (set_autocommit on connection) = is_optional_text connection
  is_call (control connection text) = is_optional_text connection
  is_call (prepare connection name text) = is_optional_text connection && is_given_text text
  is_call (deallocate connection name) = is_optional_text connection
  is_call (allocate_descriptor name) = is_given_text name
  is_call (deallocate_descriptor name) = is_given_text name
  is_call (get_count name target) = is_given_text name && is_target target
  is_call (set_count name value) = is_given_text name && is_value value
  is_call (get_items name index items) = is_given_text name && is_value index && are_targets items
  is_call (set_items name index items) = is_given_text name && is_value index && are_settings items

  -- what is read, if it keeps the rules
  abbrev pub ruled : Option (Cut A) → Option (Cut A)
  ruled None = None
  ruled (Some c) = elim (is_call c.call) [ true ↦ Some c | false ↦ None ]

  -- the arguments of a call, cut. Other lists don't cut
  abbrev pub cut : LibName → List (Arg A) → Option (Cut A)
  cut name args = ruled (read name args)
