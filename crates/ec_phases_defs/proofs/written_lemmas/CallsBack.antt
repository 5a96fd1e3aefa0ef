-- A written call is cut back by the checks.
use Rattle.std.proofs.Common.{◌≡◌, ◌∙◌, ℕ, Bool, true, List, [], ◌∷◌, map, Option, Some, None, is_some, refl, sym, ap}
use Rattle.std.specs.Prelude.{◌&&◌, nat_eq, option_map}
use Rattle.ec_ctypes.specs.declared.checked.library.Sym.{Sym}
use Rattle.ec_ctypes.specs.declared.checked.library.Sym.TheVariants as symbols_of
use Rattle.ec_ctypes.specs.trees.Exprs.{ExprData}
use Rattle.ec_ctypes.specs.trees.Types.{TyData}
use Rattle.ec_arguments.specs.Arguments.{Arg, symbol, literal, null, int_constant, long_constant, pointer, stray, TextArg, absent, word, held, Indicator, Place, Member, host, constant, descriptor, Statement, normal, prepared, immediate, opening, ItemMember, Call, run, connect, disconnect, set_connection, set_autocommit, control, prepare, deallocate, allocate_descriptor, deallocate_descriptor, get_count, set_count, get_items, set_items, Cut, name_of}
use Rattle.ec_arguments.specs.Rules.{fits_element, element_size, fits_indicators, fits_place, is_single, is_value, is_target, are_inputs, are_hosts, are_outputs, are_targets, are_settings, is_settable, is_call, is_statement, is_given_text, is_optional_text, cut}
use Rattle.ec_arguments.specs.Writing.{item_symbol, switch_word, text_argument, indicator_arguments, member_arguments, members_arguments, items_arguments, statement_arguments, call_arguments, arguments}
use Rattle.ec_arguments.proofs.Back.{cut_back}
use Rattle.ec_expansion_defs.specs.Calls.{argument_expr, argument_exprs}
use Rattle.ec_typing_defs.specs.Library.{argument_of, arguments_of_call, leads_to_text}
use Rattle.ec_phases_defs.specs.written.Calls.{argument_with, text_with, indicator_with, place_with, member_with, item_with, statement_with, call_with, cut_with, HaveTypes, AreCutBack, AreTaken}

-- ---- arguments as they are written

symbol_seen : (s : Sym) (t : Option TyData) → argument_of (argument_expr (symbol s)) t ≡ symbol s
symbol_seen symbols_of.Char t = refl
symbol_seen symbols_of.UnsignedChar t = refl
symbol_seen symbols_of.Short t = refl
symbol_seen symbols_of.UnsignedShort t = refl
symbol_seen symbols_of.Int t = refl
symbol_seen symbols_of.UnsignedInt t = refl
symbol_seen symbols_of.Long t = refl
symbol_seen symbols_of.UnsignedLong t = refl
symbol_seen symbols_of.LongLong t = refl
symbol_seen symbols_of.UnsignedLongLong t = refl
symbol_seen symbols_of.Bool t = refl
symbol_seen symbols_of.Varchar t = refl
symbol_seen symbols_of.Const t = refl
symbol_seen symbols_of.Descriptor t = refl
symbol_seen symbols_of.NoIndicator t = refl
symbol_seen symbols_of.EndOfInputs t = refl
symbol_seen symbols_of.EndOfOutputs t = refl
symbol_seen symbols_of.StatementNormal t = refl
symbol_seen symbols_of.StatementExecute t = refl
symbol_seen symbols_of.StatementExecImmediate t = refl
symbol_seen symbols_of.StatementOpen t = refl
symbol_seen symbols_of.ItemData t = refl
symbol_seen symbols_of.ItemIndicator t = refl
symbol_seen symbols_of.ItemName t = refl
symbol_seen symbols_of.ItemType t = refl
symbol_seen symbols_of.ItemOctets t = refl
symbol_seen symbols_of.EndOfItems t = refl

all_seen : (is_text : ExprData → Bool) (xs : List (Arg ExprData)) (ts : List (Option TyData)) → HaveTypes is_text xs ts → arguments_of_call (argument_exprs xs) ts ≡ map (argument_with is_text) xs
all_seen is_text [] ts h = refl
all_seen is_text (a ∷ more) [] h = absurd h
all_seen is_text (symbol s ∷ more) (t ∷ ts) h = λ i. symbol_seen s t i ∷ all_seen is_text more ts h i
all_seen is_text (literal bytes ∷ more) (t ∷ ts) h = ap (λ xs. literal bytes ∷ xs) (all_seen is_text more ts h)
all_seen is_text (null ∷ more) (t ∷ ts) h = ap (λ xs. null ∷ xs) (all_seen is_text more ts h)
all_seen is_text (int_constant n ∷ more) (t ∷ ts) h = ap (λ xs. int_constant n ∷ xs) (all_seen is_text more ts h)
all_seen is_text (long_constant n ∷ more) (t ∷ ts) h = ap (λ xs. long_constant n ∷ xs) (all_seen is_text more ts h)
all_seen is_text (pointer e ∷ more) (t ∷ ts) h = λ i. h.0 i ∷ all_seen is_text more ts h.1 i
all_seen is_text (stray ∷ more) (t ∷ ts) h = absurd h

module _ {A B : Type 0} (f : A → B) where
  -- ---- arguments of a call with other pointers

  text_written : (x : TextArg A) → argument_with f (text_argument x) ≡ text_argument (text_with f x)
  text_written absent = refl
  text_written (word bytes) = refl
  text_written (held a) = refl

  indicator_written : (i : Option (Indicator A)) (rest : List (Arg A)) → map (argument_with f) (indicator_arguments i rest) ≡ indicator_arguments (option_map (indicator_with f) i) (map (argument_with f) rest)
  indicator_written None rest = refl
  indicator_written (Some i) rest = refl

  member_written : (m : Member A) (rest : List (Arg A)) → map (argument_with f) (member_arguments m rest) ≡ member_arguments (member_with f m) (map (argument_with f) rest)
  member_written (host p) rest = λ i. symbol p.sym ∷ pointer (f p.value) ∷ long_constant p.size ∷ long_constant p.count ∷ long_constant p.step ∷ indicator_written p.ind rest i
  member_written (constant bytes) rest = refl
  member_written (descriptor name) rest = λ i. symbol symbols_of.Descriptor ∷ text_written name i ∷ long_constant 1 ∷ long_constant 1 ∷ long_constant 1 ∷ symbol symbols_of.NoIndicator ∷ null ∷ long_constant 0 ∷ long_constant 0 ∷ long_constant 0 ∷ map (argument_with f) rest

  members_written : (ms : List (Member A)) (rest : List (Arg A)) → map (argument_with f) (members_arguments ms rest) ≡ members_arguments (map (member_with f) ms) (map (argument_with f) rest)
  members_written [] rest = refl
  members_written (m ∷ ms) rest = member_written m (members_arguments ms rest) ∙ ap (member_arguments (member_with f m)) (members_written ms rest)

  items_written : (is : List (ItemMember A)) (rest : List (Arg A)) → map (argument_with f) (items_arguments is rest) ≡ items_arguments (map (item_with f) is) (map (argument_with f) rest)
  items_written [] rest = refl
  items_written (x ∷ is) rest = ap (λ xs. symbol (item_symbol x.0) ∷ xs) (member_written x.1 (items_arguments is rest) ∙ ap (member_arguments (member_with f x.1)) (items_written is rest))

  statement_written : (s : Statement A) (rest : List (Arg A)) → map (argument_with f) (statement_arguments s rest) ≡ statement_arguments (statement_with f s) (map (argument_with f) rest)
  statement_written (normal text) rest = refl
  statement_written (prepared name) rest = refl
  statement_written (immediate text) rest = λ i. symbol symbols_of.StatementExecImmediate ∷ text_written text i ∷ map (argument_with f) rest
  statement_written (opening head name) rest = refl

  call_written : (c : Call A) → map (argument_with f) (call_arguments c) ≡ call_arguments (call_with f c)
  call_written (run connection statement ins outs) =
      let lists = members_written ins (symbol symbols_of.EndOfInputs ∷ members_arguments outs (symbol symbols_of.EndOfOutputs ∷ []))
      ∙ ap (λ xs. members_arguments (map (member_with f) ins) (symbol symbols_of.EndOfInputs ∷ xs)) (members_written outs (symbol symbols_of.EndOfOutputs ∷ [])) in
      let all = statement_written statement (members_arguments ins (symbol symbols_of.EndOfInputs ∷ members_arguments outs (symbol symbols_of.EndOfOutputs ∷ [])))
      ∙ ap (statement_arguments (statement_with f statement)) lists in
      λ i. text_written connection i ∷ all i
  call_written (connect target user password name) = λ i. text_written target i ∷ text_written user i ∷ text_written password i ∷ text_written name i ∷ []
  call_written (disconnect name) = λ i. text_written name i ∷ []
  call_written (set_connection name) = λ i. text_written name i ∷ []
  call_written (set_autocommit on connection) = λ i. literal (switch_word on) ∷ text_written connection i ∷ []
  call_written (control connection text) = λ i. text_written connection i ∷ literal text ∷ []
  call_written (prepare connection name text) = λ i. text_written connection i ∷ literal name ∷ text_written text i ∷ []
  call_written (deallocate connection name) = λ i. text_written connection i ∷ literal name ∷ []
  call_written (allocate_descriptor name) = λ i. text_written name i ∷ []
  call_written (deallocate_descriptor name) = λ i. text_written name i ∷ []
  call_written (get_count name target) = λ i. text_written name i ∷ member_written target [] i
  call_written (set_count name value) = λ i. text_written name i ∷ member_written value [] i
  call_written (get_items name index items) =
      let all = member_written index (items_arguments items (symbol symbols_of.EndOfItems ∷ []))
      ∙ ap (member_arguments (member_with f index)) (items_written items (symbol symbols_of.EndOfItems ∷ [])) in
      λ i. text_written name i ∷ all i
  call_written (set_items name index items) =
      let all = member_written index (items_arguments items (symbol symbols_of.EndOfItems ∷ []))
      ∙ ap (member_arguments (member_with f index)) (items_written items (symbol symbols_of.EndOfItems ∷ [])) in
      λ i. text_written name i ∷ all i

  same_name : (c : Call A) → name_of (call_with f c) ≡ name_of c
  same_name (run connection statement ins outs) = refl
  same_name (connect target user password name) = refl
  same_name (disconnect name) = refl
  same_name (set_connection name) = refl
  same_name (set_autocommit on connection) = refl
  same_name (control connection text) = refl
  same_name (prepare connection name text) = refl
  same_name (deallocate connection name) = refl
  same_name (allocate_descriptor name) = refl
  same_name (deallocate_descriptor name) = refl
  same_name (get_count name target) = refl
  same_name (set_count name value) = refl
  same_name (get_items name index items) = refl
  same_name (set_items name index items) = refl

  -- ---- the rules don't look at pointers otherwise

  indicators_fit : (i : Option (Indicator A)) (n : ℕ) → fits_indicators (option_map (indicator_with f) i) n ≡ fits_indicators i n
  indicators_fit None n = refl
  indicators_fit (Some i) n = refl

  place_fits : (p : Place A) → fits_place (place_with f p) ≡ fits_place p
  place_fits p = λ i. fits_element (element_size p.sym p.size) p.size p.count p.step && indicators_fit p.ind p.count i

  place_single : (p : Place A) → is_single (place_with f p) ≡ is_single p
  place_single p = λ i. nat_eq p.count 1 && place_fits p i

  value_same : (m : Member A) → is_value (member_with f m) ≡ is_value m
  value_same (host p) = place_single p
  value_same (constant bytes) = refl
  value_same (descriptor name) = refl

  target_same : (m : Member A) → is_target (member_with f m) ≡ is_target m
  target_same (host p) = place_single p
  target_same (constant bytes) = refl
  target_same (descriptor name) = refl

  hosts_same : (ms : List (Member A)) → are_hosts (map (member_with f) ms) ≡ are_hosts ms
  hosts_same [] = refl
  hosts_same (host p ∷ ms) = λ i. place_fits p i && hosts_same ms i
  hosts_same (constant bytes ∷ ms) = refl
  hosts_same (descriptor name ∷ ms) = refl

  targets_same : (is : List (ItemMember A)) → are_targets (map (item_with f) is) ≡ are_targets is
  targets_same [] = refl
  targets_same (x ∷ is) = λ i. target_same x.1 i && targets_same is i

  settings_same : (is : List (ItemMember A)) → are_settings (map (item_with f) is) ≡ are_settings is
  settings_same [] = refl
  settings_same (x ∷ is) = λ i. is_settable x.0 && value_same x.1 i && settings_same is i

-- ---- a call by what is known of its pointers

module _ {A : Type 0} (is_text : A → Bool) where
  optional_same : (x : TextArg A) → is_optional_text leads_to_text (text_with is_text x) ≡ is_optional_text is_text x
  optional_same absent = refl
  optional_same (word bytes) = refl
  optional_same (held a) = refl

  given_same : (x : TextArg A) → is_given_text leads_to_text (text_with is_text x) ≡ is_given_text is_text x
  given_same absent = refl
  given_same (word bytes) = refl
  given_same (held a) = refl

  inputs_same : (ms : List (Member A)) → are_inputs leads_to_text (map (member_with is_text) ms) ≡ are_inputs is_text ms
  inputs_same [] = refl
  inputs_same (host p ∷ ms) = λ i. place_single is_text p i && inputs_same ms i
  inputs_same (constant bytes ∷ ms) = inputs_same ms
  inputs_same (descriptor name ∷ []) = given_same name
  inputs_same (descriptor name ∷ m ∷ ms) = refl

  outputs_same : (ms : List (Member A)) → are_outputs leads_to_text (map (member_with is_text) ms) ≡ are_outputs is_text ms
  outputs_same [] = refl
  outputs_same (host p ∷ ms) = hosts_same is_text (host p ∷ ms)
  outputs_same (constant bytes ∷ ms) = refl
  outputs_same (descriptor name ∷ []) = given_same name
  outputs_same (descriptor name ∷ m ∷ ms) = refl

  statement_same : (s : Statement A) → is_statement leads_to_text (statement_with is_text s) ≡ is_statement is_text s
  statement_same (normal text) = refl
  statement_same (prepared name) = refl
  statement_same (immediate text) = given_same text
  statement_same (opening head name) = refl

  call_same : (c : Call A) → is_call leads_to_text (call_with is_text c) ≡ is_call is_text c
  call_same (run connection statement ins outs) = λ i. optional_same connection i && statement_same statement i && inputs_same ins i && outputs_same outs i
  call_same (connect target user password name) = λ i. given_same target i && optional_same user i && optional_same password i && optional_same name i
  call_same (disconnect name) = given_same name
  call_same (set_connection name) = given_same name
  call_same (set_autocommit on connection) = optional_same connection
  call_same (control connection text) = optional_same connection
  call_same (prepare connection name text) = λ i. optional_same connection i && given_same text i
  call_same (deallocate connection name) = optional_same connection
  call_same (allocate_descriptor name) = given_same name
  call_same (deallocate_descriptor name) = given_same name
  call_same (get_count name target) = λ i. given_same name i && target_same is_text target i
  call_same (set_count name value) = λ i. given_same name i && value_same is_text value i
  call_same (get_items name index items) = λ i. given_same name i && value_same is_text index i && targets_same is_text items i
  call_same (set_items name index items) = λ i. given_same name i && value_same is_text index i && settings_same is_text items i

  pub known_back : (c : Cut A) → is_call is_text c.call ≡ true → cut leads_to_text (name_of c.call) (map (argument_with is_text) (arguments c)) ≡ Some (cut_with is_text c)
  known_back c e =
      (λ i. cut leads_to_text (sym (same_name is_text c.call) i) (int_constant c.line ∷ call_written is_text c.call i))
      ∙ cut_back leads_to_text (cut_with is_text c) (call_same c.call ∙ e)

pub are_cut_back : AreCutBack
are_cut_back is_text c ts e h = ap (cut leads_to_text (name_of c.call)) (all_seen is_text (arguments c) ts h) ∙ known_back is_text c e

pub are_taken : AreTaken
are_taken is_text c ts e h = ap is_some (are_cut_back is_text c ts e h)
