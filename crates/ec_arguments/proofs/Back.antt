-- What is written as arguments is cut into the same again.
use Rattle.std.proofs.Common.{◌≡◌, ℕ, zero, suc, ◌≤◌, ◌+◌, List, [], ◌∷◌, length, Option, Some, None, Bool, true, false, refl, ◌∙◌, arith}
use Rattle.std.specs.Prelude.{◌&&◌, nat_eq}
use Rattle.ec_ctypes.specs.declared.checked.library.Sym.{Sym}
use Rattle.ec_ctypes.specs.declared.checked.library.Sym.TheVariants as sym
use Rattle.ec_ctypes.specs.declared.embedded.emb.Item.{Item}
use Rattle.ec_ctypes.specs.declared.embedded.emb.Item.TheVariants as item
use Rattle.ec_arguments.specs.Arguments.{Arg, symbol, literal, TextArg, absent, word, held, Indicator, Place, Member, host, constant, descriptor, Statement, normal, prepared, immediate, opening, ItemMember, Call, run, connect, disconnect, set_connection, set_autocommit, control, prepare, deallocate, allocate_descriptor, deallocate_descriptor, get_count, set_count, get_items, set_items, Cut, name_of}
use Rattle.ec_arguments.specs.Writing.{item_symbol, text_argument, indicator_arguments, member_arguments, members_arguments, items_arguments, statement_arguments, call_arguments, arguments}
use Rattle.ec_arguments.specs.Reading.{Read, and_then, before, next_text, next_literal, next_indicator, indicator_of, member_of, next_member, next_members, next_items, next_statement, begins_with, behind_first, ends_inputs, ends_outputs, ends_items, item_of, read_call, read_items, to_end}
use Rattle.ec_arguments.specs.Rules.{element_size, indicator_size, fits_element, fits_indicator, fits_indicators, fits_place, is_single, is_value, is_target, are_inputs, are_hosts, are_outputs, are_targets, are_settings, is_settable, is_call, is_given_text, ruled, cut}
use Rattle.ec_arguments.proofs.Told.{no_clash, left_true, right_true}

-- what a symbol with elements is not
record IsHost (s : Sym) : Type 0 where
  inputs : ends_inputs s ≡ false
  outputs : ends_outputs s ≡ false
  items : ends_items s ≡ false

host_symbol : (s : Sym) (n c d : ℕ) → fits_element (element_size s n) n c d ≡ true → IsHost s
host_symbol sym.Char n c d e = record { inputs = refl; outputs = refl; items = refl }
host_symbol sym.UnsignedChar n c d e = record { inputs = refl; outputs = refl; items = refl }
host_symbol sym.Short n c d e = record { inputs = refl; outputs = refl; items = refl }
host_symbol sym.UnsignedShort n c d e = record { inputs = refl; outputs = refl; items = refl }
host_symbol sym.Int n c d e = record { inputs = refl; outputs = refl; items = refl }
host_symbol sym.UnsignedInt n c d e = record { inputs = refl; outputs = refl; items = refl }
host_symbol sym.Long n c d e = record { inputs = refl; outputs = refl; items = refl }
host_symbol sym.UnsignedLong n c d e = record { inputs = refl; outputs = refl; items = refl }
host_symbol sym.LongLong n c d e = record { inputs = refl; outputs = refl; items = refl }
host_symbol sym.UnsignedLongLong n c d e = record { inputs = refl; outputs = refl; items = refl }
host_symbol sym.Bool n c d e = record { inputs = refl; outputs = refl; items = refl }
host_symbol sym.Varchar n c d e = record { inputs = refl; outputs = refl; items = refl }
host_symbol _ n c d e = no_clash e

-- both of two tests
both : (a b : Bool) → a ≡ true → b ≡ true → (a && b) ≡ true
both true b p q = q
both false b p q = no_clash p

too_few : (k : ℕ) → suc k ≤ 0 → ⊥
too_few k h = omega arith

item_goes_on : (i : Item) → ends_items (item_symbol i) ≡ false
item_goes_on item.Content = refl
item_goes_on item.Indicator = refl
item_goes_on item.Label = refl
item_goes_on item.Code = refl
item_goes_on item.Octets = refl

item_back : (i : Item) → item_of (item_symbol i) ≡ Some i
item_back item.Content = refl
item_back item.Indicator = refl
item_back item.Label = refl
item_back item.Code = refl
item_back item.Octets = refl

-- a number that is not 0
abbrev one_less : ℕ → ℕ
one_less zero = zero
one_less (suc n) = n

more_than : (k n : ℕ) → suc k ≤ n → n ≡ suc (one_less n)
more_than k zero h = absurd (too_few k h)
more_than k (suc n) h = refl

at_least : (k n : ℕ) → suc k ≤ n → k ≤ one_less n
at_least k zero h = absurd (too_few k h)
at_least k (suc n) h = omega arith

-- no member begins with what ends a list
record Ends (ends : Sym → Bool) (end : Sym) : Type 0 where
  is_end : ends end ≡ true
  no_host : (s : Sym) → IsHost s → ends s ≡ false
  no_constant : ends sym.Const ≡ false
  no_descriptor : ends sym.Descriptor ≡ false

inputs_end : Ends ends_inputs sym.EndOfInputs
inputs_end = record { is_end = refl; no_host = λ s it. it.inputs; no_constant = refl; no_descriptor = refl }

outputs_end : Ends ends_outputs sym.EndOfOutputs
outputs_end = record { is_end = refl; no_host = λ s it. it.outputs; no_constant = refl; no_descriptor = refl }

module _ {A : Type 0} where
  text_back : (t : TextArg A) (rest : List (Arg A)) → next_text (text_argument t ∷ rest) ≡ Some (t, rest)
  text_back absent rest = refl
  text_back (word bytes) rest = refl
  text_back (held a) rest = refl

  own_indicator : (s : Sym) (a : A) (count step n : ℕ) → fits_indicator (indicator_size s) n count step ≡ true
      → indicator_of s (held a) 0 count step ≡ Some (Some (record { sym = s; value = a; count = count; step = step }))
  own_indicator sym.Short a count step n e = refl
  own_indicator sym.Int a count step n e = refl
  own_indicator sym.Long a count step n e = refl
  own_indicator sym.LongLong a count step n e = refl
  own_indicator _ a count step n e = no_clash e

  indicator_back : (i : Option (Indicator A)) (n : ℕ) (rest : List (Arg A)) → fits_indicators i n ≡ true → next_indicator (indicator_arguments i rest) ≡ Some (i, rest)
  indicator_back None n rest e = refl
  indicator_back (Some i) n rest e = λ j. before (own_indicator i.sym i.value i.count i.step n e j) rest

  -- a symbol with elements is that of a host
  host_made : (s : Sym) (a : A) (size count step : ℕ) (ind : Option (Indicator A)) → fits_element (element_size s size) size count step ≡ true
      → member_of s (held a) size count step ind ≡ Some (host (record { sym = s; value = a; size = size; count = count; step = step; ind = ind }))
  host_made sym.Char a size count step ind e = refl
  host_made sym.UnsignedChar a size count step ind e = refl
  host_made sym.Short a size count step ind e = refl
  host_made sym.UnsignedShort a size count step ind e = refl
  host_made sym.Int a size count step ind e = refl
  host_made sym.UnsignedInt a size count step ind e = refl
  host_made sym.Long a size count step ind e = refl
  host_made sym.UnsignedLong a size count step ind e = refl
  host_made sym.LongLong a size count step ind e = refl
  host_made sym.UnsignedLongLong a size count step ind e = refl
  host_made sym.Bool a size count step ind e = refl
  host_made sym.Varchar a size count step ind e = refl
  host_made _ a size count step ind e = no_clash e

  -- a member that stands somewhere
  abbrev is_member : Member A → Bool
  is_member (host p) = fits_place p
  is_member (constant bytes) = true
  is_member (descriptor name) = true

  is_host : (p : Place A) → fits_place p ≡ true → IsHost p.sym
  is_host p e = host_symbol p.sym p.size p.count p.step (left_true (fits_element (element_size p.sym p.size) p.size p.count p.step) (fits_indicators p.ind p.count) e)

  member_back : (m : Member A) (rest : List (Arg A)) → is_member m ≡ true → next_member (member_arguments m rest) ≡ Some (m, rest)
  member_back (host p) rest e =
      (λ j. and_then (indicator_back p.ind p.count rest (right_true (fits_element (element_size p.sym p.size) p.size p.count p.step) (fits_indicators p.ind p.count) e) j) (λ ind r. before (member_of p.sym (held p.value) p.size p.count p.step ind) r))
      ∙ (λ j. before (host_made p.sym p.value p.size p.count p.step p.ind (left_true (fits_element (element_size p.sym p.size) p.size p.count p.step) (fits_indicators p.ind p.count) e) j) rest)
  member_back (constant bytes) rest e = refl
  member_back (descriptor absent) rest e = refl
  member_back (descriptor (word bytes)) rest e = refl
  member_back (descriptor (held a)) rest e = refl

  abbrev are_members : List (Member A) → Bool
  are_members [] = true
  are_members (m ∷ ms) = is_member m && are_members ms

  single_member : (p : Place A) → is_single p ≡ true → fits_place p ≡ true
  single_member p e = right_true (nat_eq p.count 1) (fits_place p) e

  inputs_members : (is_text : A → Bool) (ms : List (Member A)) → are_inputs is_text ms ≡ true → are_members ms ≡ true
  inputs_members is_text [] e = refl
  inputs_members is_text (host p ∷ ms) e = both (fits_place p) (are_members ms) (single_member p (left_true (is_single p) (are_inputs is_text ms) e)) (inputs_members is_text ms (right_true (is_single p) (are_inputs is_text ms) e))
  inputs_members is_text (constant bytes ∷ ms) e = inputs_members is_text ms e
  inputs_members is_text (descriptor name ∷ []) e = refl
  inputs_members is_text (descriptor name ∷ m ∷ ms) e = no_clash e

  hosts_members : (ms : List (Member A)) → are_hosts ms ≡ true → are_members ms ≡ true
  hosts_members [] e = refl
  hosts_members (host p ∷ ms) e = both (fits_place p) (are_members ms) (left_true (fits_place p) (are_hosts ms) e) (hosts_members ms (right_true (fits_place p) (are_hosts ms) e))
  hosts_members (constant bytes ∷ ms) e = no_clash e
  hosts_members (descriptor name ∷ ms) e = no_clash e

  outputs_members : (is_text : A → Bool) (ms : List (Member A)) → are_outputs is_text ms ≡ true → are_members ms ≡ true
  outputs_members is_text [] e = refl
  outputs_members is_text (host p ∷ ms) e = hosts_members (host p ∷ ms) e
  outputs_members is_text (constant bytes ∷ ms) e = no_clash e
  outputs_members is_text (descriptor name ∷ []) e = refl
  outputs_members is_text (descriptor name ∷ m ∷ ms) e = no_clash e

  target_member : (m : Member A) → is_target m ≡ true → is_member m ≡ true
  target_member (host p) e = single_member p e
  target_member (constant bytes) e = refl
  target_member (descriptor name) e = refl

  value_member : (m : Member A) → is_value m ≡ true → is_member m ≡ true
  value_member (host p) e = single_member p e
  value_member (constant bytes) e = refl
  value_member (descriptor name) e = refl

  abbrev are_item_members : List (ItemMember A) → Bool
  are_item_members [] = true
  are_item_members (i ∷ is) = is_member i.1 && are_item_members is

  targets_members : (is : List (ItemMember A)) → are_targets is ≡ true → are_item_members is ≡ true
  targets_members [] e = refl
  targets_members (i ∷ is) e = both (is_member i.1) (are_item_members is) (target_member i.1 (left_true (is_target i.1) (are_targets is) e)) (targets_members is (right_true (is_target i.1) (are_targets is) e))

  settings_members : (is : List (ItemMember A)) → are_settings is ≡ true → are_item_members is ≡ true
  settings_members [] e = refl
  settings_members (i ∷ is) e =
      both (is_member i.1) (are_item_members is)
      (value_member i.1 (right_true (is_settable i.0) (is_value i.1) (left_true (is_settable i.0 && is_value i.1) (are_settings is) e)))
      (settings_members is (right_true (is_settable i.0 && is_value i.1) (are_settings is) e))

  goes_on : (ends : Sym → Bool) (end : Sym) → Ends ends end → (m : Member A) (rest : List (Arg A)) → is_member m ≡ true → begins_with ends (member_arguments m rest) ≡ false
  goes_on ends end it (host p) rest e = it.no_host p.sym (is_host p e)
  goes_on ends end it (constant bytes) rest e = it.no_constant
  goes_on ends end it (descriptor name) rest e = it.no_descriptor

  members_back : (ends : Sym → Bool) (end : Sym) → Ends ends end → (ms : List (Member A)) (n : ℕ) (rest : List (Arg A)) → length ms ≤ n → are_members ms ≡ true
      → next_members ends (suc n) (members_arguments ms (symbol end ∷ rest)) ≡ Some (ms, rest)
  members_back ends end it [] n rest h e = λ j. elim (it.is_end j) [
    | true ↦ Some ([], rest)
    | false ↦ and_then (next_member (symbol end ∷ rest)) (λ m r. and_then (next_members ends n r) (λ ms r. Some (m ∷ ms, r)))
  ]
  members_back ends end it (m ∷ ms) zero rest h e = absurd (too_few (length ms) h)
  members_back ends end it (m ∷ ms) (suc n) rest h e =
      (λ j. elim (goes_on ends end it m behind (left_true (is_member m) (are_members ms) e) j) [ true ↦ Some ([], behind_first whole) | false ↦ followed (next_member whole) ])
      ∙ (λ j. followed (member_back m behind (left_true (is_member m) (are_members ms) e) j))
      ∙ (λ j. and_then (members_back ends end it ms n rest (omega arith) (right_true (is_member m) (are_members ms) e) j) (λ xs r. Some (m ∷ xs, r)))
    where
      behind : List (Arg A)
      behind = members_arguments ms (symbol end ∷ rest)

      whole : List (Arg A)
      whole = member_arguments m behind

      followed : Read A (Member A) → Read A (List (Member A))
      followed found = and_then found (λ x r. and_then (next_members ends (suc n) r) (λ xs r. Some (x ∷ xs, r)))

  items_back : (is : List (ItemMember A)) (n : ℕ) (rest : List (Arg A)) → length is ≤ n → are_item_members is ≡ true
      → next_items (suc n) (items_arguments is (symbol sym.EndOfItems ∷ rest)) ≡ Some (is, rest)
  items_back [] n rest h e = refl
  items_back (i ∷ is) zero rest h e = absurd (too_few (length is) h)
  items_back (i ∷ is) (suc n) rest h e =
      (λ j. elim (item_goes_on i.0 j) [ true ↦ Some ([], behind_first whole) | false ↦ followed (item_of (item_symbol i.0)) ])
      ∙ (λ j. followed (item_back i.0 j))
      ∙ (λ j. and_then (member_back i.1 behind (left_true (is_member i.1) (are_item_members is) e) j) (λ m r. and_then (next_items (suc n) r) (λ xs r. Some ((i.0, m) ∷ xs, r))))
      ∙ (λ j. and_then (items_back is n rest (omega arith) (right_true (is_member i.1) (are_item_members is) e) j) (λ xs r. Some (i ∷ xs, r)))
    where
      behind : List (Arg A)
      behind = items_arguments is (symbol sym.EndOfItems ∷ rest)

      whole : List (Arg A)
      whole = symbol (item_symbol i.0) ∷ member_arguments i.1 behind

      followed : Option Item → Read A (List (ItemMember A))
      followed found = and_then (before found (member_arguments i.1 behind)) (λ x r. and_then (next_member r) (λ m r. and_then (next_items (suc n) r) (λ xs r. Some ((x, m) ∷ xs, r))))

  -- there are more arguments than members
  members_grow : (ms : List (Member A)) (rest : List (Arg A)) → length ms + length rest ≤ length (members_arguments ms rest)
  members_grow [] rest = omega arith
  members_grow (host p ∷ ms) rest = go p.ind (members_grow ms rest)
    where
      go : (i : Option (Indicator A)) → length ms + length rest ≤ length (members_arguments ms rest) → suc (length ms) + length rest ≤ suc (suc (suc (suc (suc (length (indicator_arguments i (members_arguments ms rest)))))))
      go None h = omega arith
      go (Some i) h = omega arith
  members_grow (constant bytes ∷ ms) rest = let h : length ms + length rest ≤ length (members_arguments ms rest) = members_grow ms rest in omega arith
  members_grow (descriptor name ∷ ms) rest = let h : length ms + length rest ≤ length (members_arguments ms rest) = members_grow ms rest in omega arith

  member_grows : (m : Member A) (rest : List (Arg A)) → length rest ≤ length (member_arguments m rest)
  member_grows (host p) rest = go p.ind
    where
      go : (i : Option (Indicator A)) → length rest ≤ suc (suc (suc (suc (suc (length (indicator_arguments i rest))))))
      go None = omega arith
      go (Some i) = omega arith
  member_grows (constant bytes) rest = omega arith
  member_grows (descriptor name) rest = omega arith

  items_grow : (is : List (ItemMember A)) (rest : List (Arg A)) → length is + length rest ≤ length (items_arguments is rest)
  items_grow [] rest = omega arith
  items_grow (i ∷ is) rest = omega (arith, items_grow is rest, member_grows i.1 (items_arguments is rest))

  statement_back : (s : Statement A) (rest : List (Arg A)) → next_statement (statement_arguments s rest) ≡ Some (s, rest)
  statement_back (normal text) rest = refl
  statement_back (prepared name) rest = refl
  statement_back (immediate text) rest = λ j. and_then (text_back text rest j) (λ t r. Some (immediate t, r))
  statement_back (opening head name) rest = refl

  statement_grows : (s : Statement A) (rest : List (Arg A)) → suc (length rest) ≤ length (statement_arguments s rest)
  statement_grows (normal text) rest = omega arith
  statement_grows (prepared name) rest = omega arith
  statement_grows (immediate text) rest = omega arith
  statement_grows (opening head name) rest = omega arith

  -- with any number that is large enough
  enough_members : (ends : Sym → Bool) (end : Sym) → Ends ends end → (ms : List (Member A)) (n : ℕ) (rest : List (Arg A)) → suc (length ms) ≤ n → are_members ms ≡ true
      → next_members ends n (members_arguments ms (symbol end ∷ rest)) ≡ Some (ms, rest)
  enough_members ends end it ms n rest h e =
      (λ j. next_members ends (more_than (length ms) n h j) (members_arguments ms (symbol end ∷ rest))) ∙ members_back ends end it ms (one_less n) rest (at_least (length ms) n h) e

  enough_items : (is : List (ItemMember A)) (n : ℕ) (rest : List (Arg A)) → suc (length is) ≤ n → are_item_members is ≡ true
      → next_items n (items_arguments is (symbol sym.EndOfItems ∷ rest)) ≡ Some (is, rest)
  enough_items is n rest h e =
      (λ j. next_items (more_than (length is) n h j) (items_arguments is (symbol sym.EndOfItems ∷ rest))) ∙ items_back is (one_less n) rest (at_least (length is) n h) e

  items_call : (made : TextArg A → Member A → List (ItemMember A) → Call A) (line : ℕ) (name : TextArg A) (index : Member A) (items : List (ItemMember A)) → is_member index ≡ true → are_item_members items ≡ true
      → to_end line (read_items made (text_argument name ∷ member_arguments index (items_arguments items (symbol sym.EndOfItems ∷ [])))) ≡ Some (record { line = line; call = made name index items })
  items_call made line name index items i e =
      (λ j. to_end line (and_then (text_back name behind_name j) (λ x r. and_then (next_member r) (λ m r. and_then (next_items most r) (λ is r. Some (made x m is, r))))))
      ∙ (λ j. to_end line (and_then (member_back index behind_index i j) (λ m r. and_then (next_items most r) (λ is r. Some (made name m is, r)))))
      ∙ (λ j. to_end line (and_then (enough_items items most [] (omega (arith, grow_items, grow_index)) e j) (λ is r. Some (made name index is, r))))
    where
      behind_index : List (Arg A)
      behind_index = items_arguments items (symbol sym.EndOfItems ∷ [])

      behind_name : List (Arg A)
      behind_name = member_arguments index behind_index

      most : ℕ
      most = suc (length behind_name)

      grow_items : length items + 1 ≤ length behind_index
      grow_items = items_grow items (symbol sym.EndOfItems ∷ [])

      grow_index : length behind_index ≤ length behind_name
      grow_index = member_grows index behind_index

  -- the call behind the line
  call_back : (is_text : A → Bool) (line : ℕ) (c : Call A) → is_call is_text c ≡ true → to_end line (read_call (name_of c) (call_arguments c)) ≡ Some (record { line = line; call = c })
  call_back is_text line (run connection statement ins outs) e =
      (λ j. to_end line (and_then (text_back connection behind_connection j) (λ c r. and_then (next_statement r) (λ s r. lists c s r))))
      ∙ (λ j. to_end line (and_then (statement_back statement behind_statement j) (λ s r. lists connection s r)))
      ∙ (λ j. to_end line (and_then (enough_members ends_inputs sym.EndOfInputs inputs_end ins most behind_ins (omega (arith, grow_ins, grow_statement)) (inputs_members is_text ins (right_true _ (are_inputs is_text ins) (left_true _ (are_outputs is_text outs) e))) j)
      (λ is r. and_then (next_members ends_outputs most r) (λ os r. Some (run connection statement is os, r)))))
      ∙ (λ j. to_end line (and_then (enough_members ends_outputs sym.EndOfOutputs outputs_end outs most [] (omega (arith, grow_outs, grow_ins, grow_statement)) (outputs_members is_text outs (right_true _ (are_outputs is_text outs) e)) j)
      (λ os r. Some (run connection statement ins os, r))))
    where
      behind_ins : List (Arg A)
      behind_ins = members_arguments outs (symbol sym.EndOfOutputs ∷ [])

      behind_statement : List (Arg A)
      behind_statement = members_arguments ins (symbol sym.EndOfInputs ∷ behind_ins)

      behind_connection : List (Arg A)
      behind_connection = statement_arguments statement behind_statement

      most : ℕ
      most = suc (length behind_connection)

      lists : TextArg A → Statement A → List (Arg A) → Read A (Call A)
      lists c s r = and_then (next_members ends_inputs most r) (λ is r. and_then (next_members ends_outputs most r) (λ os r. Some (run c s is os, r)))

      grow_outs : length outs + 1 ≤ length behind_ins
      grow_outs = members_grow outs (symbol sym.EndOfOutputs ∷ [])

      grow_ins : length ins + suc (length behind_ins) ≤ length behind_statement
      grow_ins = members_grow ins (symbol sym.EndOfInputs ∷ behind_ins)

      grow_statement : suc (length behind_statement) ≤ length behind_connection
      grow_statement = statement_grows statement behind_statement
  call_back is_text line (connect target user password name) e =
      (λ j. to_end line (and_then (text_back target (text_argument user ∷ text_argument password ∷ text_argument name ∷ []) j) (λ a r. and_then (next_text r) (λ b r. and_then (next_text r) (λ c r. and_then (next_text r) (λ d r. Some (connect a b c d, r)))))))
      ∙ (λ j. to_end line (and_then (text_back user (text_argument password ∷ text_argument name ∷ []) j) (λ b r. and_then (next_text r) (λ c r. and_then (next_text r) (λ d r. Some (connect target b c d, r))))))
      ∙ (λ j. to_end line (and_then (text_back password (text_argument name ∷ []) j) (λ c r. and_then (next_text r) (λ d r. Some (connect target user c d, r)))))
      ∙ (λ j. to_end line (and_then (text_back name [] j) (λ d r. Some (connect target user password d, r))))
  call_back is_text line (disconnect name) e = λ j. to_end line (and_then (text_back name [] j) (λ x r. Some (disconnect x, r)))
  call_back is_text line (set_connection name) e = λ j. to_end line (and_then (text_back name [] j) (λ x r. Some (set_connection x, r)))
  call_back is_text line (set_autocommit true connection) e = λ j. to_end line (and_then (text_back connection [] j) (λ x r. Some (set_autocommit true x, r)))
  call_back is_text line (set_autocommit false connection) e = λ j. to_end line (and_then (text_back connection [] j) (λ x r. Some (set_autocommit false x, r)))
  call_back is_text line (control connection text) e = λ j. to_end line (and_then (text_back connection (literal text ∷ []) j) (λ x r. and_then (next_literal r) (λ t r. Some (control x t, r))))
  call_back is_text line (prepare connection name text) e =
      (λ j. to_end line (and_then (text_back connection (literal name ∷ text_argument text ∷ []) j) (λ x r. and_then (next_literal r) (λ n r. and_then (next_text r) (λ t r. Some (prepare x n t, r))))))
      ∙ (λ j. to_end line (and_then (text_back text [] j) (λ t r. Some (prepare connection name t, r))))
  call_back is_text line (deallocate connection name) e = λ j. to_end line (and_then (text_back connection (literal name ∷ []) j) (λ x r. and_then (next_literal r) (λ t r. Some (deallocate x t, r))))
  call_back is_text line (allocate_descriptor name) e = λ j. to_end line (and_then (text_back name [] j) (λ x r. Some (allocate_descriptor x, r)))
  call_back is_text line (deallocate_descriptor name) e = λ j. to_end line (and_then (text_back name [] j) (λ x r. Some (deallocate_descriptor x, r)))
  call_back is_text line (get_count name target) e =
      (λ j. to_end line (and_then (text_back name (member_arguments target []) j) (λ x r. and_then (next_member r) (λ m r. Some (get_count x m, r)))))
      ∙ (λ j. to_end line (and_then (member_back target [] (target_member target (right_true _ (is_target target) e)) j) (λ m r. Some (get_count name m, r))))
  call_back is_text line (set_count name value) e =
      (λ j. to_end line (and_then (text_back name (member_arguments value []) j) (λ x r. and_then (next_member r) (λ m r. Some (set_count x m, r)))))
      ∙ (λ j. to_end line (and_then (member_back value [] (value_member value (right_true _ (is_value value) e)) j) (λ m r. Some (set_count name m, r))))
  call_back is_text line (get_items name index items) e = items_call get_items line name index items
      (value_member index (right_true (is_given_text is_text name) (is_value index) (left_true (is_given_text is_text name && is_value index) (are_targets items) e)))
      (targets_members items (right_true (is_given_text is_text name && is_value index) (are_targets items) e))
  call_back is_text line (set_items name index items) e = items_call set_items line name index items
      (value_member index (right_true (is_given_text is_text name) (is_value index) (left_true (is_given_text is_text name && is_value index) (are_settings items) e)))
      (settings_members items (right_true (is_given_text is_text name && is_value index) (are_settings items) e))

  -- a call that keeps the rules is cut out of its arguments
  pub cut_back : (is_text : A → Bool) (c : Cut A) → is_call is_text c.call ≡ true → cut is_text (name_of c.call) (arguments c) ≡ Some c
  cut_back is_text c e =
      (λ j. ruled is_text (call_back is_text c.line c.call e j))
      ∙ (λ j. elim (e j) [ true ↦ Some c | false ↦ None ])
