-- A list that is cut is what is written for the call.
use Rattle.std.proofs.Common.{◌≡◌, ◌∙◌, ℕ, zero, suc, Bool, true, false, List, [], ◌∷◌, length, Option, Some, None, refl, sym, ap, codes, arith}
use Rattle.std.specs.Prelude.{nat_eq, ⊤}
use Rattle.std.proofs.lemmas.Bool.Decides.{nat_tests}
use Rattle.ec_ctypes.specs.declared.checked.library.Sym.{Sym}
use Rattle.ec_ctypes.specs.declared.checked.library.Sym.TheVariants as symbols
use Rattle.ec_ctypes.specs.declared.checked.library.LibName.{LibName}
use Rattle.ec_ctypes.specs.declared.checked.library.LibName.TheVariants as library
use Rattle.ec_arguments.specs.Arguments.{Arg, symbol, literal, null, int_constant, long_constant, pointer, TextArg, absent, word, held, Indicator, Member, ItemMember, Call, disconnect, set_connection, control, deallocate, allocate_descriptor, deallocate_descriptor, get_count, set_count, get_items, set_items, Cut, name_of}
use Rattle.ec_arguments.specs.Reading.{Read, and_then, before, next_symbol, next_literal, next_int, next_long, next_text, indicator_of, next_indicator, constant_of, descriptor_of, host_of, member_of, next_member, begins_with, behind_first, next_members, ends_inputs, ends_outputs, ends_items, item_of, same_text, switch_of, next_items, statement_of, next_statement, read_name, read_run, read_connect, read_autocommit, read_literal, read_prepare, read_count, read_items, read_call, to_end, read_from, read}
use Rattle.ec_arguments.specs.Rules.{is_call, ruled}
use Rattle.ec_arguments.specs.Writing.{item_symbol, switch_word, text_argument, indicator_arguments, ten_values, member_arguments, members_arguments, items_arguments, statement_arguments, call_arguments, arguments}
use Rattle.ec_arguments.proofs.Told.{no_clash, left_true, right_true}
use Rattle.ec_cut.specs.written.Laws.{IsWritten, AreWritten}

-- ---- what is said of what was read

module _ {A : Type 0} where
  -- what was read, and what is left, are so; or nothing was read
  abbrev Says : {B : Type 0} → (B → List (Arg A) → Type 0) → Read A B → Type 0
  Says P None = ⊤
  Says P (Some x) = P x.0 x.1

  -- what was read stands at the front, written like this
  record Wrote {B : Type 0} (write : B → List (Arg A) → List (Arg A)) (args : List (Arg A)) (r : Read A B) : Type 0 where
    says : Says (λ b rest. args ≡ write b rest) r

  next : {B C : Type 0} {write : B → List (Arg A) → List (Arg A)} {args more : List (Arg A)} {r : Read A B} (write' : C → List (Arg A) → List (Arg A)) (k : B → List (Arg A) → Read A C)
      → Wrote write args r → ((b : B) (rest : List (Arg A)) → args ≡ write b rest → Wrote write' more (k b rest)) → Wrote write' more (and_then r k)
  next {r = None} write' k h go = record { says = tt }
  next {r = Some x} write' k h go = go x.0 x.1 h.says

  -- the same arguments
  along : {B : Type 0} {write : B → List (Arg A) → List (Arg A)} {args others : List (Arg A)} {r : Read A B} → args ≡ others → Wrote write others r → Wrote write args r
  along {r = None} e h = record { says = tt }
  along {r = Some x} e h = record { says = e ∙ h.says }

  -- ---- one argument

  a_literal : (args : List (Arg A)) → Wrote (λ bytes rest. literal bytes ∷ rest) args (next_literal args)
  a_literal [] = record { says = tt }
  a_literal (literal bytes ∷ rest) = record { says = refl }
  a_literal (_ ∷ rest) = record { says = tt }

  an_int : (args : List (Arg A)) → Wrote (λ n rest. int_constant n ∷ rest) args (next_int args)
  an_int [] = record { says = tt }
  an_int (int_constant n ∷ rest) = record { says = refl }
  an_int (_ ∷ rest) = record { says = tt }

  a_long : (args : List (Arg A)) → Wrote (λ n rest. long_constant n ∷ rest) args (next_long args)
  a_long [] = record { says = tt }
  a_long (long_constant n ∷ rest) = record { says = refl }
  a_long (_ ∷ rest) = record { says = tt }

  a_symbol : (args : List (Arg A)) → Wrote (λ s rest. symbol s ∷ rest) args (next_symbol args)
  a_symbol [] = record { says = tt }
  a_symbol (symbol s ∷ rest) = record { says = refl }
  a_symbol (_ ∷ rest) = record { says = tt }

  a_text : (args : List (Arg A)) → Wrote (λ text rest. text_argument text ∷ rest) args (next_text args)
  a_text [] = record { says = tt }
  a_text (null ∷ rest) = record { says = refl }
  a_text (literal bytes ∷ rest) = record { says = refl }
  a_text (pointer a ∷ rest) = record { says = refl }
  a_text (_ ∷ rest) = record { says = tt }

  -- ---- members

  indicator_by : (s : Sym) (value : TextArg A) (size count step : ℕ) (rest : List (Arg A))
      → Wrote indicator_arguments (symbol s ∷ text_argument value ∷ long_constant size ∷ long_constant count ∷ long_constant step ∷ rest) (before (indicator_of s value size count step) rest)
  indicator_by symbols.NoIndicator absent zero zero zero rest = record { says = refl }
  indicator_by symbols.NoIndicator absent zero zero (suc c) rest = record { says = tt }
  indicator_by symbols.NoIndicator absent zero (suc b) c rest = record { says = tt }
  indicator_by symbols.NoIndicator absent (suc a) b c rest = record { says = tt }
  indicator_by symbols.NoIndicator (word bytes) a b c rest = record { says = tt }
  indicator_by symbols.NoIndicator (held p) a b c rest = record { says = tt }
  indicator_by _ absent a b c rest = record { says = tt }
  indicator_by _ (word bytes) a b c rest = record { says = tt }
  indicator_by _ (held p) zero b c rest = record { says = refl }
  indicator_by _ (held p) (suc a) b c rest = record { says = tt }

  an_indicator : (args : List (Arg A)) → Wrote indicator_arguments args (next_indicator args)
  an_indicator args =
      next _ _ (a_symbol args) (λ s r e.
      next _ _ (a_text r) (λ value r1 e1.
      next _ _ (a_long r1) (λ size r2 e2.
      next _ _ (a_long r2) (λ count r3 e3.
      next _ _ (a_long r3) (λ step r4 e4.
      along (e ∙ ap (λ xs. symbol s ∷ xs) (e1 ∙ ap (λ xs. text_argument value ∷ xs) (e2 ∙ ap (λ xs. long_constant size ∷ xs) (e3 ∙ ap (λ xs. long_constant count ∷ xs) e4))))
      (indicator_by s value size count step r4))))))

  constant_by : (value : TextArg A) (size count step : ℕ) (ind : Option (Indicator A)) (rest : List (Arg A))
      → Wrote member_arguments (ten_values symbols.Const value size count step ind rest) (before (constant_of value size count step ind) rest)
  constant_by absent a b c ind rest = record { says = tt }
  constant_by (word bytes) zero zero c ind rest = record { says = tt }
  constant_by (word bytes) zero (suc zero) zero None rest = record { says = refl }
  constant_by (word bytes) zero (suc zero) zero (Some i) rest = record { says = tt }
  constant_by (word bytes) zero (suc zero) (suc c) ind rest = record { says = tt }
  constant_by (word bytes) zero (suc (suc b)) c ind rest = record { says = tt }
  constant_by (word bytes) (suc a) b c ind rest = record { says = tt }
  constant_by (held p) a b c ind rest = record { says = tt }

  descriptor_by : (value : TextArg A) (size count step : ℕ) (ind : Option (Indicator A)) (rest : List (Arg A))
      → Wrote member_arguments (ten_values symbols.Descriptor value size count step ind rest) (before (descriptor_of value size count step ind) rest)
  descriptor_by value zero b c ind rest = record { says = tt }
  descriptor_by value (suc zero) zero c ind rest = record { says = tt }
  descriptor_by value (suc zero) (suc zero) zero ind rest = record { says = tt }
  descriptor_by value (suc zero) (suc zero) (suc zero) None rest = record { says = refl }
  descriptor_by value (suc zero) (suc zero) (suc zero) (Some i) rest = record { says = tt }
  descriptor_by value (suc zero) (suc zero) (suc (suc c)) ind rest = record { says = tt }
  descriptor_by value (suc zero) (suc (suc b)) c ind rest = record { says = tt }
  descriptor_by value (suc (suc a)) b c ind rest = record { says = tt }

  host_by : (s : Sym) (value : TextArg A) (size count step : ℕ) (ind : Option (Indicator A)) (rest : List (Arg A))
      → Wrote member_arguments (ten_values s value size count step ind rest) (before (host_of s value size count step ind) rest)
  host_by s absent a b c ind rest = record { says = tt }
  host_by s (word bytes) a b c ind rest = record { says = tt }
  host_by s (held p) a b c ind rest = record { says = refl }

  member_by : (s : Sym) (value : TextArg A) (size count step : ℕ) (ind : Option (Indicator A)) (rest : List (Arg A))
      → Wrote member_arguments (ten_values s value size count step ind rest) (before (member_of s value size count step ind) rest)
  member_by symbols.Const value a b c ind rest = constant_by value a b c ind rest
  member_by symbols.Descriptor value a b c ind rest = descriptor_by value a b c ind rest
  member_by s value a b c ind rest = host_by s value a b c ind rest

  a_member : (args : List (Arg A)) → Wrote member_arguments args (next_member args)
  a_member args =
      next _ _ (a_symbol args) (λ s r e.
      next _ _ (a_text r) (λ value r1 e1.
      next _ _ (a_long r1) (λ size r2 e2.
      next _ _ (a_long r2) (λ count r3 e3.
      next _ _ (a_long r3) (λ step r4 e4.
      next _ _ (an_indicator r4) (λ ind r5 e5.
      along (e ∙ ap (λ xs. symbol s ∷ xs) (e1 ∙ ap (λ xs. text_argument value ∷ xs) (e2 ∙ ap (λ xs. long_constant size ∷ xs) (e3 ∙ ap (λ xs. long_constant count ∷ xs) (e4 ∙ ap (λ xs. long_constant step ∷ xs) e5)))))
      (member_by s value size count step ind r5)))))))

  -- ---- lists

  at_end : (ends : Sym → Bool) (end : Sym) → ((s : Sym) → ends s ≡ true → s ≡ end) → (args : List (Arg A)) → begins_with ends args ≡ true → args ≡ symbol end ∷ behind_first args
  at_end ends end one [] t = no_clash t
  at_end ends end one (symbol s ∷ rest) t = λ i. symbol (one s t i) ∷ rest
  at_end ends end one (_ ∷ rest) t = no_clash t

  module _ (ends : Sym → Bool) (end : Sym) (one : (s : Sym) → ends s ≡ true → s ≡ end) where
    members_up_to : (n : ℕ) (args : List (Arg A)) → Wrote (λ ms rest. members_arguments ms (symbol end ∷ rest)) args (next_members ends n args)
    members_up_to zero args = record { says = tt }
    members_up_to (suc n) args = by_test (λ r. members_up_to n r) (begins_with ends args) refl
      where
        by_test : ((r : List (Arg A)) → Wrote (λ ms rest. members_arguments ms (symbol end ∷ rest)) r (next_members ends n r)) → (t : Bool) → begins_with ends args ≡ t → Wrote (λ ms rest. members_arguments ms (symbol end ∷ rest)) args (elim t [
          | true ↦ Some ([], behind_first args)
          | false ↦ and_then (next_member args) (λ m r. and_then (next_members ends n r) (λ ms r. Some (m ∷ ms, r)))
        ])
        by_test behind true t = record { says = at_end ends end one args t }
        by_test behind false t =
            next _ _ (a_member args) (λ m r e.
            next _ _ (behind r) (λ ms r1 e1.
            record { says = e ∙ ap (member_arguments m) e1 }))

  an_item : (s : Sym) (rest : List (Arg A)) → Wrote (λ i rest. symbol (item_symbol i) ∷ rest) (symbol s ∷ rest) (before (item_of s) rest)
  an_item symbols.ItemData rest = record { says = refl }
  an_item symbols.ItemIndicator rest = record { says = refl }
  an_item symbols.ItemName rest = record { says = refl }
  an_item symbols.ItemType rest = record { says = refl }
  an_item symbols.ItemOctets rest = record { says = refl }
  an_item _ rest = record { says = tt }

only_inputs : (s : Sym) → ends_inputs s ≡ true → s ≡ symbols.EndOfInputs
only_inputs symbols.EndOfInputs e = refl
only_inputs _ e = no_clash e

only_outputs : (s : Sym) → ends_outputs s ≡ true → s ≡ symbols.EndOfOutputs
only_outputs symbols.EndOfOutputs e = refl
only_outputs _ e = no_clash e

only_items : (s : Sym) → ends_items s ≡ true → s ≡ symbols.EndOfItems
only_items symbols.EndOfItems e = refl
only_items _ e = no_clash e

same_number : (a b : ℕ) → nat_eq a b ≡ true → a ≡ b
same_number a b e = grind (arith, nat_tests)

same_text_is : (a b : List ℕ) → same_text a b ≡ true → a ≡ b
same_text_is [] [] e = refl
same_text_is [] (c ∷ b) e = no_clash e
same_text_is (c ∷ a) [] e = no_clash e
same_text_is (c ∷ a) (d ∷ b) e = λ i. same_number c d (left_true (nat_eq c d) (same_text a b) e) i ∷ same_text_is a b (right_true (nat_eq c d) (same_text a b) e) i

module _ {A : Type 0} where
  items_up_to : (n : ℕ) (args : List (Arg A)) → Wrote (λ is rest. items_arguments is (symbol symbols.EndOfItems ∷ rest)) args (next_items n args)
  items_up_to zero args = record { says = tt }
  items_up_to (suc n) args = by_test (λ r. items_up_to n r) (begins_with ends_items args) refl
    where
      by_test : ((r : List (Arg A)) → Wrote (λ is rest. items_arguments is (symbol symbols.EndOfItems ∷ rest)) r (next_items n r)) → (t : Bool) → begins_with ends_items args ≡ t → Wrote (λ is rest. items_arguments is (symbol symbols.EndOfItems ∷ rest)) args (elim t [
        | true ↦ Some ([], behind_first args)
        | false ↦
            and_then (next_symbol args) (λ s r.
            and_then (before (item_of s) r) (λ i r.
            and_then (next_member r) (λ m r.
            and_then (next_items n r) (λ is r. Some ((i, m) ∷ is, r)))))
      ])
      by_test behind true t = record { says = at_end ends_items symbols.EndOfItems only_items args t }
      by_test behind false t =
          next _ _ (a_symbol args) (λ s r e.
          next _ _ (an_item s r) (λ i r1 e1.
          next _ _ (a_member r1) (λ m r2 e2.
          next _ _ (behind r2) (λ is r3 e3.
          record { says = e ∙ e1 ∙ ap (λ xs. symbol (item_symbol i) ∷ xs) (e2 ∙ ap (member_arguments m) e3) }))))

  -- ---- statements

  statement_by : (s : Sym) (args : List (Arg A)) → Wrote statement_arguments (symbol s ∷ args) (statement_of s args)
  statement_by symbols.StatementNormal args = next _ _ (a_literal args) (λ text r e. record { says = ap (λ xs. symbol symbols.StatementNormal ∷ xs) e })
  statement_by symbols.StatementExecute args = next _ _ (a_literal args) (λ name r e. record { says = ap (λ xs. symbol symbols.StatementExecute ∷ xs) e })
  statement_by symbols.StatementExecImmediate args = next _ _ (a_text args) (λ text r e. record { says = ap (λ xs. symbol symbols.StatementExecImmediate ∷ xs) e })
  statement_by symbols.StatementOpen args =
      next _ _ (a_literal args) (λ head r e.
      next _ _ (a_literal r) (λ name r1 e1. record { says = ap (λ xs. symbol symbols.StatementOpen ∷ xs) (e ∙ ap (λ xs. literal head ∷ xs) e1) }))
  statement_by _ args = record { says = tt }

  a_statement : (args : List (Arg A)) → Wrote statement_arguments args (next_statement args)
  a_statement args = next _ _ (a_symbol args) (λ s r e. along e (statement_by s r))

  a_switch : (text : List ℕ) (rest : List (Arg A)) → Wrote (λ on rest. literal (switch_word on) ∷ rest) (literal text ∷ rest) (before (switch_of text) rest)
  a_switch text rest = by_on (same_text text (codes "on")) refl
    where
      by_off : (t : Bool) → same_text text (codes "off") ≡ t
          → Wrote (λ on rest. literal (switch_word on) ∷ rest) (literal text ∷ rest) (before (elim t [ true ↦ Some false | false ↦ None ]) rest)
      by_off true e = record { says = ap (λ bytes. literal bytes ∷ rest) (same_text_is text (codes "off") e) }
      by_off false e = record { says = tt }

      by_on : (t : Bool) → same_text text (codes "on") ≡ t
          → Wrote (λ on rest. literal (switch_word on) ∷ rest) (literal text ∷ rest)
          (before (elim t [ true ↦ Some true | false ↦ elim (same_text text (codes "off")) [ true ↦ Some false | false ↦ None ] ]) rest)
      by_on true e = record { says = ap (λ bytes. literal bytes ∷ rest) (same_text_is text (codes "on") e) }
      by_on false e = by_off (same_text text (codes "off")) refl

  -- ---- calls

  -- where nothing is left, the arguments are those of the call that was read, which has this name
  record Calls (name : LibName) (args : List (Arg A)) (r : Read A (Call A)) : Type 0 where
    says : Says (λ c rest. rest ≡ [] → (args ≡ call_arguments c) × (name_of c ≡ name)) r

  then_call : {B : Type 0} {write : B → List (Arg A) → List (Arg A)} {args more : List (Arg A)} {r : Read A B} {name : LibName} (k : B → List (Arg A) → Read A (Call A))
      → Wrote write args r → ((b : B) (rest : List (Arg A)) → args ≡ write b rest → Calls name more (k b rest)) → Calls name more (and_then r k)
  then_call {r = None} k h go = record { says = tt }
  then_call {r = Some x} k h go = go x.0 x.1 h.says

  name_read : (name : LibName) (made : TextArg A → Call A) → ((t : TextArg A) → text_argument t ∷ [] ≡ call_arguments (made t)) → ((t : TextArg A) → name_of (made t) ≡ name)
      → (args : List (Arg A)) → Calls name args (read_name made args)
  name_read name made w n args =
      then_call _ (a_text args) (λ t r e. record { says = λ none. (e ∙ ap (λ xs. text_argument t ∷ xs) none ∙ w t, n t) })

  literal_read : (name : LibName) (made : TextArg A → List ℕ → Call A) → ((t : TextArg A) (text : List ℕ) → text_argument t ∷ literal text ∷ [] ≡ call_arguments (made t text))
      → ((t : TextArg A) (text : List ℕ) → name_of (made t text) ≡ name) → (args : List (Arg A)) → Calls name args (read_literal made args)
  literal_read name made w n args =
      then_call _ (a_text args) (λ t r e.
      then_call _ (a_literal r) (λ text r1 e1.
      record { says = λ none. (e ∙ ap (λ xs. text_argument t ∷ xs) (e1 ∙ ap (λ xs. literal text ∷ xs) none) ∙ w t text, n t text) }))

  count_read : (name : LibName) (made : TextArg A → Member A → Call A) → ((t : TextArg A) (m : Member A) → text_argument t ∷ member_arguments m [] ≡ call_arguments (made t m))
      → ((t : TextArg A) (m : Member A) → name_of (made t m) ≡ name) → (args : List (Arg A)) → Calls name args (read_count made args)
  count_read name made w n args =
      then_call _ (a_text args) (λ t r e.
      then_call _ (a_member r) (λ m r1 e1.
      record { says = λ none. (e ∙ ap (λ xs. text_argument t ∷ xs) (e1 ∙ ap (member_arguments m) none) ∙ w t m, n t m) }))

  items_read : (name : LibName) (made : TextArg A → Member A → List (ItemMember A) → Call A)
      → ((t : TextArg A) (m : Member A) (is : List (ItemMember A)) → text_argument t ∷ member_arguments m (items_arguments is (symbol symbols.EndOfItems ∷ [])) ≡ call_arguments (made t m is))
      → ((t : TextArg A) (m : Member A) (is : List (ItemMember A)) → name_of (made t m is) ≡ name) → (args : List (Arg A)) → Calls name args (read_items made args)
  items_read name made w n args =
      then_call _ (a_text args) (λ t r e.
      then_call _ (a_member r) (λ m r1 e1.
      then_call _ (items_up_to (length args) r1) (λ is r2 e2.
      record { says = λ none. (e ∙ ap (λ xs. text_argument t ∷ xs) (e1 ∙ ap (member_arguments m) (e2 ∙ ap (λ xs. items_arguments is (symbol symbols.EndOfItems ∷ xs)) none)) ∙ w t m is, n t m is) })))

  run_read : (args : List (Arg A)) → Calls library.Do args (read_run args)
  run_read args =
      then_call _ (a_text args) (λ t r e.
      then_call _ (a_statement r) (λ s r1 e1.
      then_call _ (members_up_to ends_inputs symbols.EndOfInputs only_inputs (length args) r1) (λ ins r2 e2.
      then_call _ (members_up_to ends_outputs symbols.EndOfOutputs only_outputs (length args) r2) (λ outs r3 e3.
      record {
        says = λ none. (
          e ∙ ap (λ xs. text_argument t ∷ xs) (e1 ∙ ap (statement_arguments s) (e2 ∙ ap (λ xs. members_arguments ins (symbol symbols.EndOfInputs ∷ xs))
              (e3 ∙ ap (λ xs. members_arguments outs (symbol symbols.EndOfOutputs ∷ xs)) none))),
          refl,
        );
      }))))

  connect_read : (args : List (Arg A)) → Calls library.Connect args (read_connect args)
  connect_read args =
      then_call _ (a_text args) (λ target r e.
      then_call _ (a_text r) (λ user r1 e1.
      then_call _ (a_text r1) (λ password r2 e2.
      then_call _ (a_text r2) (λ name r3 e3.
      record {
        says = λ none. (
          e ∙ ap (λ xs. text_argument target ∷ xs) (e1 ∙ ap (λ xs. text_argument user ∷ xs) (e2 ∙ ap (λ xs. text_argument password ∷ xs) (e3 ∙ ap (λ xs. text_argument name ∷ xs) none))),
          refl,
        );
      }))))

  autocommit_read : (args : List (Arg A)) → Calls library.SetCommit args (read_autocommit args)
  autocommit_read args =
      then_call _ (a_literal args) (λ text r e.
      then_call _ (a_switch text r) (λ on r1 e1.
      then_call _ (a_text r1) (λ connection r2 e2.
      record { says = λ none. (e ∙ e1 ∙ ap (λ xs. literal (switch_word on) ∷ xs) (e2 ∙ ap (λ xs. text_argument connection ∷ xs) none), refl) })))

  prepare_read : (args : List (Arg A)) → Calls library.Prepare args (read_prepare args)
  prepare_read args =
      then_call _ (a_text args) (λ connection r e.
      then_call _ (a_literal r) (λ name r1 e1.
      then_call _ (a_text r1) (λ text r2 e2.
      record { says = λ none. (e ∙ ap (λ xs. text_argument connection ∷ xs) (e1 ∙ ap (λ xs. literal name ∷ xs) (e2 ∙ ap (λ xs. text_argument text ∷ xs) none)), refl) })))

  call_read : (name : LibName) (args : List (Arg A)) → Calls name args (read_call name args)
  call_read library.Do args = run_read args
  call_read library.Connect args = connect_read args
  call_read library.Disconnect args = name_read library.Disconnect disconnect (λ t. refl) (λ t. refl) args
  call_read library.SetConn args = name_read library.SetConn set_connection (λ t. refl) (λ t. refl) args
  call_read library.SetCommit args = autocommit_read args
  call_read library.Trans args = literal_read library.Trans control (λ t text. refl) (λ t text. refl) args
  call_read library.Prepare args = prepare_read args
  call_read library.Deallocate args = literal_read library.Deallocate deallocate (λ t text. refl) (λ t text. refl) args
  call_read library.AllocateDesc args = name_read library.AllocateDesc allocate_descriptor (λ t. refl) (λ t. refl) args
  call_read library.DeallocateDesc args = name_read library.DeallocateDesc deallocate_descriptor (λ t. refl) (λ t. refl) args
  call_read library.GetDescHeader args = count_read library.GetDescHeader get_count (λ t m. refl) (λ t m. refl) args
  call_read library.SetDescHeader args = count_read library.SetDescHeader set_count (λ t m. refl) (λ t m. refl) args
  call_read library.GetDesc args = items_read library.GetDesc get_items (λ t m is. refl) (λ t m is. refl) args
  call_read library.SetDesc args = items_read library.SetDesc set_items (λ t m is. refl) (λ t m is. refl) args

  -- ---- the line, and the end

  of_line : (name : LibName) (args rest : List (Arg A)) (line : ℕ) (r : Read A (Call A)) → args ≡ int_constant line ∷ rest → Calls name rest r
      → (c : Cut A) → to_end line r ≡ Some c → (args ≡ arguments c) × (name_of c.call ≡ name)
  of_line name args rest line None e h c found = absurd (cc (found))
  of_line name args rest line (Some (call, more ∷ others)) e h c found = absurd (cc (found))
  of_line name args rest line (Some (call, [])) e h c found =
      let known : record { line = line; call = call } ≡ c = cc in
      let read = h.says refl in
      (e ∙ ap (λ xs. int_constant line ∷ xs) read.0 ∙ ap arguments known, ap (λ (x : Cut A). name_of x.call) (sym known) ∙ read.1)

  of_int : (name : LibName) (args : List (Arg A)) (r : Read A ℕ) → Wrote (λ n rest. int_constant n ∷ rest) args r
      → (c : Cut A) → read_from name r ≡ Some c → (args ≡ arguments c) × (name_of c.call ≡ name)
  of_int name args None h c found = absurd (cc (found))
  of_int name args (Some (line, rest)) h c found = of_line name args rest line (read_call name rest) h.says (call_read name rest) c found

module _ {A : Type 0} (is_text : A → Bool) where
  -- a call that keeps the rules is what was read
  kept : (d c : Cut A) (t : Bool) → is_call is_text d.call ≡ t → elim t [ true ↦ Some d | false ↦ None ] ≡ Some c → (d ≡ c) × (is_call is_text c.call ≡ true)
  kept d c true rules found =
      let same : d ≡ c = cc in
      (same, ap (λ (x : Cut A). is_call is_text x.call) (sym same) ∙ rules)
  kept d c false rules found = absurd (cc (found))

  of_ruled : (name : LibName) (args : List (Arg A)) (r : Option (Cut A)) → ((c : Cut A) → r ≡ Some c → (args ≡ arguments c) × (name_of c.call ≡ name))
      → (c : Cut A) → ruled is_text r ≡ Some c → IsWritten is_text name args c
  of_ruled name args None are c found = absurd (cc (found))
  of_ruled name args (Some d) are c found =
      let k = kept d c (is_call is_text d.call) refl found in
      let w = are c (ap (λ x. Some x) k.0) in
      record { written = w.0; named = w.1; rules = k.1 }

  pub are_written : AreWritten is_text
  are_written name args c found = of_ruled name args (read name args) (of_int name args (next_int args) (an_int args)) c found
