-- A call keeps its rules with other pointers: the rules look at no pointer but for whether it may lead to a text, and any may.
use Rattle.std.proofs.Common.{◌≡◌, ◌∙◌, ℕ, Bool, true, List, [], ◌∷◌, map, Option, Some, None, refl}
use Rattle.std.specs.Prelude.{◌&&◌, nat_eq, option_map}
use Rattle.ec_arguments.specs.Arguments.{TextArg, absent, word, held, Indicator, Place, Member, host, constant, descriptor, Statement, normal, prepared, immediate, opening, ItemMember, Call, run, connect, disconnect, set_connection, set_autocommit, control, prepare, deallocate, allocate_descriptor, deallocate_descriptor, get_count, set_count, get_items, set_items}
use Rattle.ec_arguments.specs.Rules.{element_size, fits_element, fits_indicators, fits_place, is_single, is_value, is_target, are_hosts, are_targets, is_settable, are_settings, is_optional_text, is_given_text, are_inputs, are_outputs, is_statement, is_call}
use Rattle.ec_phases_defs.specs.written.Calls.{text_with, indicator_with, place_with, member_with, item_with, statement_with, call_with}
use Rattle.ec_sim_host_laws.specs.pointer.Pointers.{RulesAreKept}
use Rattle.ec_sim_host_laws.proofs.pointer_lemmas.Basics.{left_true, right_true, both_true, both_kept}

abbrev any : {A : Type 0} → A → Bool
any a = true

-- ---- where any pointer may lead to a text

module _ {A : Type 0} (is_text : A → Bool) where
  optional_weaker : (a : TextArg A) → is_optional_text is_text a ≡ true → is_optional_text any a ≡ true
  optional_weaker absent e = refl
  optional_weaker (word bytes) e = refl
  optional_weaker (held a) e = refl

  given_weaker : (a : TextArg A) → is_given_text is_text a ≡ true → is_given_text any a ≡ true
  given_weaker absent e = e
  given_weaker (word bytes) e = refl
  given_weaker (held a) e = refl

  inputs_weaker : (ms : List (Member A)) → are_inputs is_text ms ≡ true → are_inputs any ms ≡ true
  inputs_weaker [] e = refl
  inputs_weaker (host p ∷ ms) e = both_true (is_single p) (are_inputs any ms) (left_true (is_single p) (are_inputs is_text ms) e) (inputs_weaker ms (right_true (is_single p) (are_inputs is_text ms) e))
  inputs_weaker (constant bytes ∷ ms) e = inputs_weaker ms e
  inputs_weaker (descriptor name ∷ []) e = given_weaker name e
  inputs_weaker (descriptor name ∷ m ∷ ms) e = e

  outputs_weaker : (ms : List (Member A)) → are_outputs is_text ms ≡ true → are_outputs any ms ≡ true
  outputs_weaker [] e = refl
  outputs_weaker (host p ∷ ms) e = e
  outputs_weaker (constant bytes ∷ ms) e = e
  outputs_weaker (descriptor name ∷ []) e = given_weaker name e
  outputs_weaker (descriptor name ∷ m ∷ ms) e = e

  statement_weaker : (s : Statement A) → is_statement is_text s ≡ true → is_statement any s ≡ true
  statement_weaker (normal text) e = refl
  statement_weaker (prepared name) e = refl
  statement_weaker (immediate text) e = given_weaker text e
  statement_weaker (opening head name) e = refl

  -- what else the rule of a text asks stays
  given_and : (a : TextArg A) (b : Bool) → (is_given_text is_text a && b) ≡ true → (is_given_text any a && b) ≡ true
  given_and a b e = both_kept (is_given_text is_text a) b (is_given_text any a) b (given_weaker a) (λ p. p) e

  call_weaker : (c : Call A) → is_call is_text c ≡ true → is_call any c ≡ true
  call_weaker (run connection statement ins outs) e = both_kept
      (is_optional_text is_text connection && is_statement is_text statement && are_inputs is_text ins) (are_outputs is_text outs)
      (is_optional_text any connection && is_statement any statement && are_inputs any ins) (are_outputs any outs)
      (λ p. both_kept (is_optional_text is_text connection && is_statement is_text statement) (are_inputs is_text ins)
      (is_optional_text any connection && is_statement any statement) (are_inputs any ins)
      (λ q. both_kept (is_optional_text is_text connection) (is_statement is_text statement) (is_optional_text any connection) (is_statement any statement)
      (optional_weaker connection) (statement_weaker statement) q) (inputs_weaker ins) p) (outputs_weaker outs) e
  call_weaker (connect target user password name) e = both_kept
      (is_given_text is_text target && is_optional_text is_text user && is_optional_text is_text password) (is_optional_text is_text name)
      (is_given_text any target && is_optional_text any user && is_optional_text any password) (is_optional_text any name)
      (λ p. both_kept (is_given_text is_text target && is_optional_text is_text user) (is_optional_text is_text password)
      (is_given_text any target && is_optional_text any user) (is_optional_text any password)
      (λ q. both_kept (is_given_text is_text target) (is_optional_text is_text user) (is_given_text any target) (is_optional_text any user)
      (given_weaker target) (optional_weaker user) q) (optional_weaker password) p) (optional_weaker name) e
  call_weaker (disconnect name) e = given_weaker name e
  call_weaker (set_connection name) e = given_weaker name e
  call_weaker (set_autocommit on connection) e = optional_weaker connection e
  call_weaker (control connection text) e = optional_weaker connection e
  call_weaker (prepare connection name text) e = both_kept (is_optional_text is_text connection) (is_given_text is_text text) (is_optional_text any connection) (is_given_text any text)
      (optional_weaker connection) (given_weaker text) e
  call_weaker (deallocate connection name) e = optional_weaker connection e
  call_weaker (allocate_descriptor name) e = given_weaker name e
  call_weaker (deallocate_descriptor name) e = given_weaker name e
  call_weaker (get_count name target) e = given_and name (is_target target) e
  call_weaker (set_count name value) e = given_and name (is_value value) e
  call_weaker (get_items name index items) e = both_kept (is_given_text is_text name && is_value index) (are_targets items) (is_given_text any name && is_value index) (are_targets items)
      (given_and name (is_value index)) (λ p. p) e
  call_weaker (set_items name index items) e = both_kept (is_given_text is_text name && is_value index) (are_settings items) (is_given_text any name && is_value index) (are_settings items)
      (given_and name (is_value index)) (λ p. p) e

-- ---- with other pointers

module _ {A B : Type 0} (f : A → B) where
  indicators_fit : (i : Option (Indicator A)) (n : ℕ) → fits_indicators (option_map (indicator_with f) i) n ≡ fits_indicators i n
  indicators_fit None n = refl
  indicators_fit (Some i) n = refl

  place_fits : (p : Place A) → fits_place (place_with f p) ≡ fits_place p
  place_fits p = λ i. fits_element (element_size p.sym p.size) p.size p.count p.step && indicators_fit p.ind p.count i

  place_single : (p : Place A) → is_single (place_with f p) ≡ is_single p
  place_single p = λ i. nat_eq p.count 1 && place_fits p i

  value_same : (m : Member A) → is_value (member_with f m) ≡ is_value m
  value_same (host p) = place_single p
  value_same (constant bytes) = refl
  value_same (descriptor name) = refl

  target_same : (m : Member A) → is_target (member_with f m) ≡ is_target m
  target_same (host p) = place_single p
  target_same (constant bytes) = refl
  target_same (descriptor name) = refl

  hosts_same : (ms : List (Member A)) → are_hosts (map (member_with f) ms) ≡ are_hosts ms
  hosts_same [] = refl
  hosts_same (host p ∷ ms) = λ i. place_fits p i && hosts_same ms i
  hosts_same (constant bytes ∷ ms) = refl
  hosts_same (descriptor name ∷ ms) = refl

  targets_same : (is : List (ItemMember A)) → are_targets (map (item_with f) is) ≡ are_targets is
  targets_same [] = refl
  targets_same (x ∷ is) = λ i. target_same x.1 i && targets_same is i

  settings_same : (is : List (ItemMember A)) → are_settings (map (item_with f) is) ≡ are_settings is
  settings_same [] = refl
  settings_same (x ∷ is) = λ i. is_settable x.0 && value_same x.1 i && settings_same is i

  optional_same : (x : TextArg A) → is_optional_text any (text_with f x) ≡ is_optional_text any x
  optional_same absent = refl
  optional_same (word bytes) = refl
  optional_same (held a) = refl

  given_same : (x : TextArg A) → is_given_text any (text_with f x) ≡ is_given_text any x
  given_same absent = refl
  given_same (word bytes) = refl
  given_same (held a) = refl

  inputs_same : (ms : List (Member A)) → are_inputs any (map (member_with f) ms) ≡ are_inputs any ms
  inputs_same [] = refl
  inputs_same (host p ∷ ms) = λ i. place_single p i && inputs_same ms i
  inputs_same (constant bytes ∷ ms) = inputs_same ms
  inputs_same (descriptor name ∷ []) = given_same name
  inputs_same (descriptor name ∷ m ∷ ms) = refl

  outputs_same : (ms : List (Member A)) → are_outputs any (map (member_with f) ms) ≡ are_outputs any ms
  outputs_same [] = refl
  outputs_same (host p ∷ ms) = hosts_same (host p ∷ ms)
  outputs_same (constant bytes ∷ ms) = refl
  outputs_same (descriptor name ∷ []) = given_same name
  outputs_same (descriptor name ∷ m ∷ ms) = refl

  statement_same : (s : Statement A) → is_statement any (statement_with f s) ≡ is_statement any s
  statement_same (normal text) = refl
  statement_same (prepared name) = refl
  statement_same (immediate text) = given_same text
  statement_same (opening head name) = refl

  call_same : (c : Call A) → is_call any (call_with f c) ≡ is_call any c
  call_same (run connection statement ins outs) = λ i. optional_same connection i && statement_same statement i && inputs_same ins i && outputs_same outs i
  call_same (connect target user password name) = λ i. given_same target i && optional_same user i && optional_same password i && optional_same name i
  call_same (disconnect name) = given_same name
  call_same (set_connection name) = given_same name
  call_same (set_autocommit on connection) = optional_same connection
  call_same (control connection text) = optional_same connection
  call_same (prepare connection name text) = λ i. optional_same connection i && given_same text i
  call_same (deallocate connection name) = optional_same connection
  call_same (allocate_descriptor name) = given_same name
  call_same (deallocate_descriptor name) = given_same name
  call_same (get_count name target) = λ i. given_same name i && target_same target i
  call_same (set_count name value) = λ i. given_same name i && value_same value i
  call_same (get_items name index items) = λ i. given_same name i && value_same index i && targets_same items i
  call_same (set_items name index items) = λ i. given_same name i && value_same index i && settings_same items i

pub rules_kept : RulesAreKept
rules_kept structs is_text g c e = call_same g c ∙ call_weaker is_text c e
