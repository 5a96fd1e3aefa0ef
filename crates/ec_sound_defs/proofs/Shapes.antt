-- What is read of arguments doesn't hang on what their pointers are.
use Rattle.std.proofs.Common.{◌≡◌, ◌∙◌, ℕ, zero, suc, List, [], ◌∷◌, length, Option, Some, None, Bool, true, false, refl, sym, ap, subst}
use Rattle.std.specs.Prelude.{◌&&◌, nat_eq, option_map, is_some}
use Rattle.ec_ctypes.specs.declared.checked.library.Sym.{Sym}
use Rattle.ec_ctypes.specs.declared.checked.library.Sym.TheVariants as sym
use Rattle.ec_ctypes.specs.declared.checked.library.LibName.{LibName}
use Rattle.ec_ctypes.specs.declared.checked.library.LibName.TheVariants as library
use Rattle.ec_arguments.specs.Arguments.{Arg, symbol, literal, null, int_constant, long_constant, pointer, stray, TextArg, absent, word, held, Indicator, Place, Member, host, constant, descriptor, Statement, normal, prepared, immediate, opening, ItemMember, Call, run, connect, disconnect, set_connection, set_autocommit, control, prepare, deallocate, allocate_descriptor, deallocate_descriptor, get_count, set_count, get_items, set_items, Cut}
use Rattle.ec_arguments.specs.Reading.{Read, and_then, before, next_symbol, next_literal, next_int, next_long, next_text, indicator_of, next_indicator, constant_of, descriptor_of, host_of, member_of, next_member, begins_with, behind_first, next_members, ends_inputs, ends_outputs, ends_items, item_of, switch_of, next_items, statement_of, next_statement, read_run, read_connect, read_autocommit, read_prepare, read_call, to_end, read_from, read}
use Rattle.ec_arguments.specs.Rules.{fits_element, element_size, fits_indicators, fits_place, is_single, is_value, is_target, are_hosts, are_targets, are_settings, is_optional_text, is_given_text, are_inputs, are_outputs, is_statement, is_call, ruled, cut}
use Rattle.ec_arguments.proofs.Told.{no_clash}
use Rattle.ec_sound_defs.specs.Written.{shape, any}

abbrev pub itself : {B : Type 0} → B → B
itself b = b

same_option : {B : Type 0} (x : Option B) → x ≡ option_map itself x
same_option None = refl
same_option (Some b) = refl

module _ {A : Type 0} where
  abbrev pub text_shape : TextArg A → TextArg (Unit {0})
  text_shape absent = absent
  text_shape (word bytes) = word bytes
  text_shape (held a) = held tt

  abbrev pub indicator_shape : Indicator A → Indicator (Unit {0})
  indicator_shape i = record { sym = i.sym; value = tt; count = i.count; step = i.step }

  abbrev pub indicators_shape : Option (Indicator A) → Option (Indicator (Unit {0}))
  indicators_shape None = None
  indicators_shape (Some i) = Some (indicator_shape i)

  abbrev pub place_shape : Place A → Place (Unit {0})
  place_shape p = record { sym = p.sym; value = tt; size = p.size; count = p.count; step = p.step; ind = indicators_shape p.ind }

  abbrev pub member_shape : Member A → Member (Unit {0})
  member_shape (host p) = host (place_shape p)
  member_shape (constant bytes) = constant bytes
  member_shape (descriptor name) = descriptor (text_shape name)

  abbrev pub members_shape : List (Member A) → List (Member (Unit {0}))
  members_shape [] = []
  members_shape (m ∷ ms) = member_shape m ∷ members_shape ms

  abbrev pub items_shape : List (ItemMember A) → List (ItemMember (Unit {0}))
  items_shape [] = []
  items_shape (i ∷ is) = (i.0, member_shape i.1) ∷ items_shape is

  abbrev pub statement_shape : Statement A → Statement (Unit {0})
  statement_shape (normal text) = normal text
  statement_shape (prepared name) = prepared name
  statement_shape (immediate text) = immediate (text_shape text)
  statement_shape (opening head name) = opening head name

  abbrev pub call_shape : Call A → Call (Unit {0})
  call_shape (run connection statement ins outs) = run (text_shape connection) (statement_shape statement) (members_shape ins) (members_shape outs)
  call_shape (connect target user password name) = connect (text_shape target) (text_shape user) (text_shape password) (text_shape name)
  call_shape (disconnect name) = disconnect (text_shape name)
  call_shape (set_connection name) = set_connection (text_shape name)
  call_shape (set_autocommit on connection) = set_autocommit on (text_shape connection)
  call_shape (control connection text) = control (text_shape connection) text
  call_shape (prepare connection name text) = prepare (text_shape connection) name (text_shape text)
  call_shape (deallocate connection name) = deallocate (text_shape connection) name
  call_shape (allocate_descriptor name) = allocate_descriptor (text_shape name)
  call_shape (deallocate_descriptor name) = deallocate_descriptor (text_shape name)
  call_shape (get_count name target) = get_count (text_shape name) (member_shape target)
  call_shape (set_count name value) = set_count (text_shape name) (member_shape value)
  call_shape (get_items name index items) = get_items (text_shape name) (member_shape index) (items_shape items)
  call_shape (set_items name index items) = set_items (text_shape name) (member_shape index) (items_shape items)

  abbrev pub cut_shape : Cut A → Cut (Unit {0})
  cut_shape c = record { line = c.line; call = call_shape c.call }

  abbrev shaped : {B C : Type 0} → (B → C) → Read A B → Read (Unit {0}) C
  shaped g None = None
  shaped g (Some x) = Some (g x.0, shape x.1)

  -- what is read of a shape is the shape of what is read
  record Alike {B C : Type 0} (g : B → C) (r' : Read (Unit {0}) C) (r : Read A B) : Type 0 where
    is : r' ≡ shaped g r

  behind_is : {B C B' C' : Type 0} (g : B → B') (h : C → C') (r : Read A B) (r' : Read (Unit {0}) B') (k : B → List (Arg A) → Read A C) (k' : B' → List (Arg (Unit {0})) → Read (Unit {0}) C')
      → r' ≡ shaped g r → ((b : B) (rest : List (Arg A)) → k' (g b) (shape rest) ≡ shaped h (k b rest)) → and_then r' k' ≡ shaped h (and_then r k)
  behind_is g h None r' k k' e go = ap (λ x. and_then x k') e
  behind_is g h (Some x) r' k k' e go = ap (λ y. and_then y k') e ∙ go x.0 x.1

  behind : {B C B' C' : Type 0} {g : B → B'} (h : C → C') {r : Read A B} {r' : Read (Unit {0}) B'} (k : B → List (Arg A) → Read A C) (k' : B' → List (Arg (Unit {0})) → Read (Unit {0}) C')
      → Alike g r' r → ((b : B) (rest : List (Arg A)) → Alike h (k' (g b) (shape rest)) (k b rest)) → Alike h (and_then r' k') (and_then r k)
  behind {g = g} h {r = r} {r' = r'} k k' e go = record { is = behind_is g h r r' k k' e.is (λ b rest. (go b rest).is) }

  before_shape : {B C : Type 0} (g : B → C) (x : Option B) (x' : Option C) → x' ≡ option_map g x → (rest : List (Arg A)) → Alike g (before x' (shape rest)) (before x rest)
  before_shape g None x' e rest = record { is = ap (λ y. before y (shape rest)) e }
  before_shape g (Some b) x' e rest = record { is = ap (λ y. before y (shape rest)) e }

  a_symbol : (args : List (Arg A)) → Alike itself (next_symbol (shape args)) (next_symbol args)
  a_symbol [] = record { is = refl }
  a_symbol (symbol x ∷ rest) = record { is = refl }
  a_symbol (literal x ∷ rest) = record { is = refl }
  a_symbol (null ∷ rest) = record { is = refl }
  a_symbol (int_constant x ∷ rest) = record { is = refl }
  a_symbol (long_constant x ∷ rest) = record { is = refl }
  a_symbol (pointer x ∷ rest) = record { is = refl }
  a_symbol (stray ∷ rest) = record { is = refl }

  a_literal : (args : List (Arg A)) → Alike itself (next_literal (shape args)) (next_literal args)
  a_literal [] = record { is = refl }
  a_literal (symbol x ∷ rest) = record { is = refl }
  a_literal (literal x ∷ rest) = record { is = refl }
  a_literal (null ∷ rest) = record { is = refl }
  a_literal (int_constant x ∷ rest) = record { is = refl }
  a_literal (long_constant x ∷ rest) = record { is = refl }
  a_literal (pointer x ∷ rest) = record { is = refl }
  a_literal (stray ∷ rest) = record { is = refl }

  an_int : (args : List (Arg A)) → Alike itself (next_int (shape args)) (next_int args)
  an_int [] = record { is = refl }
  an_int (symbol x ∷ rest) = record { is = refl }
  an_int (literal x ∷ rest) = record { is = refl }
  an_int (null ∷ rest) = record { is = refl }
  an_int (int_constant x ∷ rest) = record { is = refl }
  an_int (long_constant x ∷ rest) = record { is = refl }
  an_int (pointer x ∷ rest) = record { is = refl }
  an_int (stray ∷ rest) = record { is = refl }

  a_long : (args : List (Arg A)) → Alike itself (next_long (shape args)) (next_long args)
  a_long [] = record { is = refl }
  a_long (symbol x ∷ rest) = record { is = refl }
  a_long (literal x ∷ rest) = record { is = refl }
  a_long (null ∷ rest) = record { is = refl }
  a_long (int_constant x ∷ rest) = record { is = refl }
  a_long (long_constant x ∷ rest) = record { is = refl }
  a_long (pointer x ∷ rest) = record { is = refl }
  a_long (stray ∷ rest) = record { is = refl }

  a_text : (args : List (Arg A)) → Alike text_shape (next_text (shape args)) (next_text args)
  a_text [] = record { is = refl }
  a_text (symbol x ∷ rest) = record { is = refl }
  a_text (literal x ∷ rest) = record { is = refl }
  a_text (null ∷ rest) = record { is = refl }
  a_text (int_constant x ∷ rest) = record { is = refl }
  a_text (long_constant x ∷ rest) = record { is = refl }
  a_text (pointer x ∷ rest) = record { is = refl }
  a_text (stray ∷ rest) = record { is = refl }

  length_shape : (args : List (Arg A)) → length (shape args) ≡ length args
  length_shape [] = refl
  length_shape (a ∷ args) = ap suc (length_shape args)

  begins_shape : (is : Sym → Bool) (args : List (Arg A)) → begins_with is (shape args) ≡ begins_with is args
  begins_shape is [] = refl
  begins_shape is (symbol x ∷ rest) = refl
  begins_shape is (literal x ∷ rest) = refl
  begins_shape is (null ∷ rest) = refl
  begins_shape is (int_constant x ∷ rest) = refl
  begins_shape is (long_constant x ∷ rest) = refl
  begins_shape is (pointer x ∷ rest) = refl
  begins_shape is (stray ∷ rest) = refl

  first_shape : (args : List (Arg A)) → behind_first (shape args) ≡ shape (behind_first args)
  first_shape [] = refl
  first_shape (a ∷ args) = refl

  indicator_by : (s : Sym) (value : TextArg A) (size count step : ℕ) → indicator_of s (text_shape value) size count step ≡ option_map indicators_shape (indicator_of s value size count step)
  indicator_by sym.NoIndicator absent zero zero zero = refl
  indicator_by sym.NoIndicator absent zero zero (suc c) = refl
  indicator_by sym.NoIndicator absent zero (suc b) c = refl
  indicator_by sym.NoIndicator absent (suc a) b c = refl
  indicator_by sym.NoIndicator (word bytes) a b c = refl
  indicator_by sym.NoIndicator (held p) a b c = refl
  indicator_by _ absent a b c = refl
  indicator_by _ (word bytes) a b c = refl
  indicator_by _ (held p) zero b c = refl
  indicator_by _ (held p) (suc a) b c = refl

  an_indicator : (args : List (Arg A)) → Alike indicators_shape (next_indicator (shape args)) (next_indicator args)
  an_indicator args =
      behind _ _ _ (a_symbol args) (λ s r.
      behind _ _ _ (a_text r) (λ value r.
      behind _ _ _ (a_long r) (λ size r.
      behind _ _ _ (a_long r) (λ count r.
      behind _ _ _ (a_long r) (λ step r.
      before_shape indicators_shape (indicator_of s value size count step) (indicator_of s (text_shape value) size count step) (indicator_by s value size count step) r)))))

  constant_by : (value : TextArg A) (size count step : ℕ) (ind : Option (Indicator A)) → constant_of (text_shape value) size count step (indicators_shape ind) ≡ option_map member_shape (constant_of value size count step ind)
  constant_by absent a b c ind = refl
  constant_by (word bytes) zero zero c ind = refl
  constant_by (word bytes) zero (suc zero) zero None = refl
  constant_by (word bytes) zero (suc zero) zero (Some i) = refl
  constant_by (word bytes) zero (suc zero) (suc c) ind = refl
  constant_by (word bytes) zero (suc (suc b)) c ind = refl
  constant_by (word bytes) (suc a) b c ind = refl
  constant_by (held p) a b c ind = refl

  descriptor_by : (value : TextArg A) (size count step : ℕ) (ind : Option (Indicator A)) → descriptor_of (text_shape value) size count step (indicators_shape ind) ≡ option_map member_shape (descriptor_of value size count step ind)
  descriptor_by value zero b c ind = refl
  descriptor_by value (suc zero) zero c ind = refl
  descriptor_by value (suc zero) (suc zero) zero ind = refl
  descriptor_by value (suc zero) (suc zero) (suc zero) None = refl
  descriptor_by value (suc zero) (suc zero) (suc zero) (Some i) = refl
  descriptor_by value (suc zero) (suc zero) (suc (suc c)) ind = refl
  descriptor_by value (suc zero) (suc (suc b)) c ind = refl
  descriptor_by value (suc (suc a)) b c ind = refl

  host_by : (s : Sym) (value : TextArg A) (size count step : ℕ) (ind : Option (Indicator A)) → host_of s (text_shape value) size count step (indicators_shape ind) ≡ option_map member_shape (host_of s value size count step ind)
  host_by s absent a b c ind = refl
  host_by s (word bytes) a b c ind = refl
  host_by s (held p) a b c ind = refl

  member_by : (s : Sym) (value : TextArg A) (size count step : ℕ) (ind : Option (Indicator A)) → member_of s (text_shape value) size count step (indicators_shape ind) ≡ option_map member_shape (member_of s value size count step ind)
  member_by sym.Const value a b c ind = constant_by value a b c ind
  member_by sym.Descriptor value a b c ind = descriptor_by value a b c ind
  member_by s value a b c ind = host_by s value a b c ind

  a_member : (args : List (Arg A)) → Alike member_shape (next_member (shape args)) (next_member args)
  a_member args =
      behind _ _ _ (a_symbol args) (λ s r.
      behind _ _ _ (a_text r) (λ value r.
      behind _ _ _ (a_long r) (λ size r.
      behind _ _ _ (a_long r) (λ count r.
      behind _ _ _ (a_long r) (λ step r.
      behind _ _ _ (an_indicator r) (λ ind r.
      before_shape member_shape (member_of s value size count step ind) (member_of s (text_shape value) size count step (indicators_shape ind)) (member_by s value size count step ind) r))))))

  -- by two tests that are equal
  by_test : {B C : Type 0} (g : B → C) (t t' : Bool) → t' ≡ t → {x y : Read A B} {x' y' : Read (Unit {0}) C} → Alike g x' x → Alike g y' y → Alike g (elim t' [ true ↦ x' | false ↦ y' ]) (elim t [ true ↦ x | false ↦ y ])
  by_test g true true e h k = h
  by_test g true false e h k = cc
  by_test g false true e h k = cc
  by_test g false false e h k = k

  members_by : (ends : Sym → Bool) (n : ℕ) (args : List (Arg A)) → Alike members_shape (next_members ends n (shape args)) (next_members ends n args)
  members_by ends zero args = record { is = refl }
  members_by ends (suc n) args =
      by_test members_shape (begins_with ends args) (begins_with ends (shape args)) (begins_shape ends args)
      (record { is = ap (λ x. Some ([], x)) (first_shape args) })
      (behind _ _ _ (a_member args) (λ m r. behind _ _ _ (members_by ends n r) (λ ms r. record { is = refl })))

  items_by : (n : ℕ) (args : List (Arg A)) → Alike items_shape (next_items n (shape args)) (next_items n args)
  items_by zero args = record { is = refl }
  items_by (suc n) args =
      by_test items_shape (begins_with ends_items args) (begins_with ends_items (shape args)) (begins_shape ends_items args)
      (record { is = ap (λ x. Some ([], x)) (first_shape args) })
      (behind _ _ _ (a_symbol args) (λ s r.
      behind _ _ _ (before_shape itself (item_of s) (item_of s) (same_option (item_of s)) r) (λ i r.
      behind _ _ _ (a_member r) (λ m r.
      behind _ _ _ (items_by n r) (λ is r. record { is = refl })))))

  members_with : (ends : Sym → Bool) (n n' : ℕ) → n' ≡ n → (args : List (Arg A)) → Alike members_shape (next_members ends n' (shape args)) (next_members ends n args)
  members_with ends n n' e args = subst (λ k. Alike members_shape (next_members ends k (shape args)) (next_members ends n args)) (sym e) (members_by ends n args)

  items_with : (n n' : ℕ) → n' ≡ n → (args : List (Arg A)) → Alike items_shape (next_items n' (shape args)) (next_items n args)
  items_with n n' e args = subst (λ k. Alike items_shape (next_items k (shape args)) (next_items n args)) (sym e) (items_by n args)

  statement_by : (s : Sym) (args : List (Arg A)) → Alike statement_shape (statement_of s (shape args)) (statement_of s args)
  statement_by sym.StatementNormal args = behind _ _ _ (a_literal args) (λ text r. record { is = refl })
  statement_by sym.StatementExecute args = behind _ _ _ (a_literal args) (λ name r. record { is = refl })
  statement_by sym.StatementExecImmediate args = behind _ _ _ (a_text args) (λ text r. record { is = refl })
  statement_by sym.StatementOpen args = behind _ _ _ (a_literal args) (λ head r. behind _ _ _ (a_literal r) (λ name r. record { is = refl }))
  statement_by _ args = record { is = refl }

  a_statement : (args : List (Arg A)) → Alike statement_shape (next_statement (shape args)) (next_statement args)
  a_statement args = behind _ _ _ (a_symbol args) (λ s r. statement_by s r)

  run_by : (args : List (Arg A)) → Alike call_shape (read_run (shape args)) (read_run args)
  run_by args =
      behind _ _ _ (a_text args) (λ connection r.
      behind _ _ _ (a_statement r) (λ statement r.
      behind _ _ _ (members_with ends_inputs (length args) (length (shape args)) (length_shape args) r) (λ ins r.
      behind _ _ _ (members_with ends_outputs (length args) (length (shape args)) (length_shape args) r) (λ outs r. record { is = refl }))))

  connect_by : (args : List (Arg A)) → Alike call_shape (read_connect (shape args)) (read_connect args)
  connect_by args =
      behind _ _ _ (a_text args) (λ target r. behind _ _ _ (a_text r) (λ user r. behind _ _ _ (a_text r) (λ password r. behind _ _ _ (a_text r) (λ name r. record { is = refl }))))

  autocommit_by : (args : List (Arg A)) → Alike call_shape (read_autocommit (shape args)) (read_autocommit args)
  autocommit_by args =
      behind _ _ _ (a_literal args) (λ switch r.
      behind _ _ _ (before_shape itself (switch_of switch) (switch_of switch) (same_option (switch_of switch)) r) (λ on r.
      behind _ _ _ (a_text r) (λ connection r. record { is = refl })))

  prepare_by : (args : List (Arg A)) → Alike call_shape (read_prepare (shape args)) (read_prepare args)
  prepare_by args =
      behind _ _ _ (a_text args) (λ connection r. behind _ _ _ (a_literal r) (λ name r. behind _ _ _ (a_text r) (λ text r. record { is = refl })))

  call_by : (name : LibName) (args : List (Arg A)) → Alike call_shape (read_call name (shape args)) (read_call name args)
  call_by library.Do args = run_by args
  call_by library.Connect args = connect_by args
  call_by library.Disconnect args = behind _ _ _ (a_text args) (λ name r. record { is = refl })
  call_by library.SetConn args = behind _ _ _ (a_text args) (λ name r. record { is = refl })
  call_by library.SetCommit args = autocommit_by args
  call_by library.Trans args = behind _ _ _ (a_text args) (λ connection r. behind _ _ _ (a_literal r) (λ text r. record { is = refl }))
  call_by library.Prepare args = prepare_by args
  call_by library.Deallocate args = behind _ _ _ (a_text args) (λ connection r. behind _ _ _ (a_literal r) (λ text r. record { is = refl }))
  call_by library.AllocateDesc args = behind _ _ _ (a_text args) (λ name r. record { is = refl })
  call_by library.DeallocateDesc args = behind _ _ _ (a_text args) (λ name r. record { is = refl })
  call_by library.GetDescHeader args = behind _ _ _ (a_text args) (λ name r. behind _ _ _ (a_member r) (λ m r. record { is = refl }))
  call_by library.SetDescHeader args = behind _ _ _ (a_text args) (λ name r. behind _ _ _ (a_member r) (λ m r. record { is = refl }))
  call_by library.GetDesc args =
      behind _ _ _ (a_text args) (λ name r. behind _ _ _ (a_member r) (λ index r.
      behind _ _ _ (items_with (length args) (length (shape args)) (length_shape args) r) (λ items r. record { is = refl })))
  call_by library.SetDesc args =
      behind _ _ _ (a_text args) (λ name r. behind _ _ _ (a_member r) (λ index r.
      behind _ _ _ (items_with (length args) (length (shape args)) (length_shape args) r) (λ items r. record { is = refl })))

  to_end_by : (line : ℕ) (r : Read A (Call A)) (r' : Read (Unit {0}) (Call (Unit {0}))) → r' ≡ shaped call_shape r → to_end line r' ≡ option_map cut_shape (to_end line r)
  to_end_by line None r' e = ap (λ x. to_end line x) e
  to_end_by line (Some (call, [])) r' e = ap (λ x. to_end line x) e
  to_end_by line (Some (call, a ∷ rest)) r' e = ap (λ x. to_end line x) e

  read_from_by : (name : LibName) (r : Read A ℕ) (r' : Read (Unit {0}) ℕ) → r' ≡ shaped itself r → read_from name r' ≡ option_map cut_shape (read_from name r)
  read_from_by name None r' e = ap (λ x. read_from name x) e
  read_from_by name (Some (line, rest)) r' e =
      ap (λ x. read_from name x) e ∙ to_end_by line (read_call name rest) (read_call name (shape rest)) (call_by name rest).is

  pub read_by : (name : LibName) (args : List (Arg A)) → read name (shape args) ≡ option_map cut_shape (read name args)
  read_by name args = read_from_by name (next_int args) (next_int (shape args)) (an_int args).is

-- ---- rules

both_same : (a b c d : Bool) → a ≡ b → c ≡ d → (a && c) ≡ (b && d)
both_same a b c d e f = cc (e, f)

abbrev pub no_call : Option (Cut (Unit {0}))
no_call = None

module _ {A : Type 0} where
  place_fits : (p : Place A) → fits_place (place_shape p) ≡ fits_place p
  place_fits p = by p.ind
    where
      by : (i : Option (Indicator A)) → (fits_element (element_size p.sym p.size) p.size p.count p.step && fits_indicators (indicators_shape i) p.count) ≡ (fits_element (element_size p.sym p.size) p.size p.count p.step && fits_indicators i p.count)
      by None = refl
      by (Some i) = refl

  single_same : (p : Place A) → is_single (place_shape p) ≡ is_single p
  single_same p = ap (λ x. nat_eq p.count 1 && x) (place_fits p)

  value_same : (m : Member A) → is_value (member_shape m) ≡ is_value m
  value_same (host p) = single_same p
  value_same (constant bytes) = refl
  value_same (descriptor name) = refl

  target_same : (m : Member A) → is_target (member_shape m) ≡ is_target m
  target_same (host p) = single_same p
  target_same (constant bytes) = refl
  target_same (descriptor name) = refl

  hosts_same : (ms : List (Member A)) → are_hosts (members_shape ms) ≡ are_hosts ms
  hosts_same [] = refl
  hosts_same (host p ∷ ms) = both_same _ _ _ _ (place_fits p) (hosts_same ms)
  hosts_same (constant bytes ∷ ms) = refl
  hosts_same (descriptor name ∷ ms) = refl

  targets_same : (is : List (ItemMember A)) → are_targets (items_shape is) ≡ are_targets is
  targets_same [] = refl
  targets_same (i ∷ is) = both_same _ _ _ _ (target_same i.1) (targets_same is)

  settings_same : (is : List (ItemMember A)) → are_settings (items_shape is) ≡ are_settings is
  settings_same [] = refl
  settings_same (i ∷ is) = both_same _ _ _ _ (both_same _ _ _ _ refl (value_same i.1)) (settings_same is)

  optional_same : (t : TextArg A) → is_optional_text any (text_shape t) ≡ is_optional_text any t
  optional_same absent = refl
  optional_same (word bytes) = refl
  optional_same (held a) = refl

  given_same : (t : TextArg A) → is_given_text any (text_shape t) ≡ is_given_text any t
  given_same absent = refl
  given_same (word bytes) = refl
  given_same (held a) = refl

  inputs_same : (ms : List (Member A)) → are_inputs any (members_shape ms) ≡ are_inputs any ms
  inputs_same [] = refl
  inputs_same (host p ∷ ms) = both_same _ _ _ _ (single_same p) (inputs_same ms)
  inputs_same (constant bytes ∷ ms) = inputs_same ms
  inputs_same (descriptor name ∷ []) = given_same name
  inputs_same (descriptor name ∷ m ∷ ms) = refl

  outputs_same : (ms : List (Member A)) → are_outputs any (members_shape ms) ≡ are_outputs any ms
  outputs_same [] = refl
  outputs_same (host p ∷ ms) = hosts_same (host p ∷ ms)
  outputs_same (constant bytes ∷ ms) = refl
  outputs_same (descriptor name ∷ []) = given_same name
  outputs_same (descriptor name ∷ m ∷ ms) = refl

  statement_same : (x : Statement A) → is_statement any (statement_shape x) ≡ is_statement any x
  statement_same (normal text) = refl
  statement_same (prepared name) = refl
  statement_same (immediate text) = given_same text
  statement_same (opening head name) = refl

  pub call_same : (c : Call A) → is_call any (call_shape c) ≡ is_call any c
  call_same (run connection x ins outs) =
      both_same _ _ _ _ (both_same _ _ _ _ (both_same _ _ _ _ (optional_same connection) (statement_same x)) (inputs_same ins)) (outputs_same outs)
  call_same (connect target user password name) =
      both_same _ _ _ _ (both_same _ _ _ _ (both_same _ _ _ _ (given_same target) (optional_same user)) (optional_same password)) (optional_same name)
  call_same (disconnect name) = given_same name
  call_same (set_connection name) = given_same name
  call_same (set_autocommit on connection) = optional_same connection
  call_same (control connection text) = optional_same connection
  call_same (prepare connection name text) = both_same _ _ _ _ (optional_same connection) (given_same text)
  call_same (deallocate connection name) = optional_same connection
  call_same (allocate_descriptor name) = given_same name
  call_same (deallocate_descriptor name) = given_same name
  call_same (get_count name target) = both_same _ _ _ _ (given_same name) (target_same target)
  call_same (set_count name value) = both_same _ _ _ _ (given_same name) (value_same value)
  call_same (get_items name index items) = both_same _ _ _ _ (both_same _ _ _ _ (given_same name) (value_same index)) (targets_same items)
  call_same (set_items name index items) = both_same _ _ _ _ (both_same _ _ _ _ (given_same name) (value_same index)) (settings_same items)

  -- a list whose shape is a call is one, and keeps the rules
  abbrev pub Keeps : Option (Cut A) → Type 0
  Keeps None = ⊥
  Keeps (Some c) = is_call any c.call ≡ true

  kept_by : (c : Cut A) (t : Bool) → is_call any c.call ≡ t → is_some (elim t [ true ↦ Some (cut_shape c) | false ↦ no_call ]) ≡ true → Keeps (elim t [ true ↦ Some c | false ↦ None ])
  kept_by c true e h = e
  kept_by c false e h = no_clash h

  ruled_by : (o : Option (Cut A)) (o' : Option (Cut (Unit {0}))) → o' ≡ option_map cut_shape o → is_some (ruled any o') ≡ true → Keeps (ruled any o)
  ruled_by None o' e h = no_clash (subst (λ x. is_some (ruled any x) ≡ true) e h)
  ruled_by (Some c) o' e h =
      kept_by c (is_call any c.call) refl (subst (λ t. is_some (elim t [ true ↦ Some (cut_shape c) | false ↦ no_call ]) ≡ true) (call_same c.call) (subst (λ x. is_some (ruled any x) ≡ true) e h))

  pub cut_by : (name : LibName) (args : List (Arg A)) → is_some (cut any name (shape args)) ≡ true → Keeps (cut any name args)
  cut_by name args h = ruled_by (read name args) (read name (shape args)) (read_by name args) h
