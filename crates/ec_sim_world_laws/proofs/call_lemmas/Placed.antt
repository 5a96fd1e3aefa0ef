-- A call with other pointers is written with these pointers, each in its place.
use Rattle.std.proofs.Common.{◌≡◌, ◌∙◌, ℕ, List, [], ◌∷◌, map, Option, Some, None, refl, ap}
use Rattle.std.specs.Prelude.{option_map}
use Rattle.ec_ctypes.specs.declared.checked.library.Sym.TheVariants as symbols_of
use Rattle.ec_arguments.specs.Arguments.{Arg, symbol, literal, null, int_constant, long_constant, pointer, TextArg, absent, word, held, Indicator, Member, host, constant, descriptor, Statement, normal, prepared, immediate, opening, ItemMember, Call, run, connect, disconnect, set_connection, set_autocommit, control, prepare, deallocate, allocate_descriptor, deallocate_descriptor, get_count, set_count, get_items, set_items}
use Rattle.ec_arguments.specs.Writing.{item_symbol, switch_word, text_argument, indicator_arguments, member_arguments, members_arguments, items_arguments, statement_arguments, call_arguments, arguments}
use Rattle.ec_phases_defs.specs.written.Calls.{argument_with, text_with, indicator_with, member_with, item_with, statement_with, call_with}
use Rattle.ec_sim_world_laws.specs.call.Calls.{cut_of}

module _ {A B : Type 0} (f : A → B) where
  -- these arguments with other pointers
  abbrev others : List (Arg A) → List (Arg B)
  others xs = map (argument_with f) xs

  text_placed : (x : TextArg A) → argument_with f (text_argument x) ≡ text_argument (text_with f x)
  text_placed absent = refl
  text_placed (word bytes) = refl
  text_placed (held a) = refl

  indicator_placed : (i : Option (Indicator A)) (rest : List (Arg A)) → others (indicator_arguments i rest) ≡ indicator_arguments (option_map (indicator_with f) i) (others rest)
  indicator_placed None rest = refl
  indicator_placed (Some i) rest = refl

  member_placed : (m : Member A) (rest : List (Arg A)) → others (member_arguments m rest) ≡ member_arguments (member_with f m) (others rest)
  member_placed (host p) rest = λ i. symbol p.sym ∷ pointer (f p.value) ∷ long_constant p.size ∷ long_constant p.count ∷ long_constant p.step ∷ indicator_placed p.ind rest i
  member_placed (constant bytes) rest = refl
  member_placed (descriptor name) rest = λ i. symbol symbols_of.Descriptor ∷ text_placed name i ∷ long_constant 1 ∷ long_constant 1 ∷ long_constant 1 ∷ symbol symbols_of.NoIndicator ∷ null ∷ long_constant 0 ∷ long_constant 0 ∷ long_constant 0 ∷ others rest

  members_placed : (ms : List (Member A)) (rest : List (Arg A)) → others (members_arguments ms rest) ≡ members_arguments (map (member_with f) ms) (others rest)
  members_placed [] rest = refl
  members_placed (m ∷ ms) rest = member_placed m (members_arguments ms rest) ∙ ap (member_arguments (member_with f m)) (members_placed ms rest)

  items_placed : (is : List (ItemMember A)) (rest : List (Arg A)) → others (items_arguments is rest) ≡ items_arguments (map (item_with f) is) (others rest)
  items_placed [] rest = refl
  items_placed (x ∷ is) rest = ap (λ xs. symbol (item_symbol x.0) ∷ xs) (member_placed x.1 (items_arguments is rest) ∙ ap (member_arguments (member_with f x.1)) (items_placed is rest))

  statement_placed : (s : Statement A) (rest : List (Arg A)) → others (statement_arguments s rest) ≡ statement_arguments (statement_with f s) (others rest)
  statement_placed (normal text) rest = refl
  statement_placed (prepared name) rest = refl
  statement_placed (immediate text) rest = λ i. symbol symbols_of.StatementExecImmediate ∷ text_placed text i ∷ others rest
  statement_placed (opening head name) rest = refl

  -- the list of items behind the index
  listed_placed : (index : Member A) (items : List (ItemMember A)) → others (member_arguments index (items_arguments items (symbol symbols_of.EndOfItems ∷ [])))
      ≡ member_arguments (member_with f index) (items_arguments (map (item_with f) items) (symbol symbols_of.EndOfItems ∷ []))
  listed_placed index items = member_placed index (items_arguments items (symbol symbols_of.EndOfItems ∷ []))
      ∙ ap (member_arguments (member_with f index)) (items_placed items (symbol symbols_of.EndOfItems ∷ []))

  call_placed : (c : Call A) → others (call_arguments c) ≡ call_arguments (call_with f c)
  call_placed (run connection statement ins outs) =
      let lists = members_placed ins (symbol symbols_of.EndOfInputs ∷ members_arguments outs (symbol symbols_of.EndOfOutputs ∷ []))
      ∙ ap (λ xs. members_arguments (map (member_with f) ins) (symbol symbols_of.EndOfInputs ∷ xs)) (members_placed outs (symbol symbols_of.EndOfOutputs ∷ [])) in
      let all = statement_placed statement (members_arguments ins (symbol symbols_of.EndOfInputs ∷ members_arguments outs (symbol symbols_of.EndOfOutputs ∷ [])))
      ∙ ap (statement_arguments (statement_with f statement)) lists in
      λ i. text_placed connection i ∷ all i
  call_placed (connect target user password name) = λ i. text_placed target i ∷ text_placed user i ∷ text_placed password i ∷ text_placed name i ∷ []
  call_placed (disconnect name) = λ i. text_placed name i ∷ []
  call_placed (set_connection name) = λ i. text_placed name i ∷ []
  call_placed (set_autocommit on connection) = λ i. literal (switch_word on) ∷ text_placed connection i ∷ []
  call_placed (control connection text) = λ i. text_placed connection i ∷ literal text ∷ []
  call_placed (prepare connection name text) = λ i. text_placed connection i ∷ literal name ∷ text_placed text i ∷ []
  call_placed (deallocate connection name) = λ i. text_placed connection i ∷ literal name ∷ []
  call_placed (allocate_descriptor name) = λ i. text_placed name i ∷ []
  call_placed (deallocate_descriptor name) = λ i. text_placed name i ∷ []
  call_placed (get_count name target) = λ i. text_placed name i ∷ member_placed target [] i
  call_placed (set_count name value) = λ i. text_placed name i ∷ member_placed value [] i
  call_placed (get_items name index items) = λ i. text_placed name i ∷ listed_placed index items i
  call_placed (set_items name index items) = λ i. text_placed name i ∷ listed_placed index items i

  pub arguments_placed : (line : ℕ) (c : Call A) → others (arguments (cut_of line c)) ≡ arguments (cut_of line (call_with f c))
  arguments_placed line c = λ i. int_constant line ∷ call_placed c i
