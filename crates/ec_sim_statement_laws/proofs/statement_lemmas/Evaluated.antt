-- The arguments that are written for a statement, evaluated, are those that are written for its places.
use Rattle.std.proofs.Common.{◌≡◌, ◌∙◌, ℕ, List, [], ◌∷◌, ◌++◌, map, Option, Some, None, refl, sym}
use Rattle.std.specs.Prelude.{option_map}
use Rattle.ec_arguments.specs.Arguments.{Arg, symbol, literal, int_constant, TextArg, absent, word, held, Member}
use Rattle.ec_arguments.specs.Writing.{text_argument, member_arguments, members_arguments, items_arguments, statement_arguments, item_symbol, switch_word, arguments}
use Rattle.ec_ctypes.specs.declared.checked.library.Sym.TheVariants as symbols
use Rattle.ec_ctypes.specs.declared.embedded.emb.Item.{Item}
use Rattle.ec_ctypes.specs.trees.Types.{StructData}
use Rattle.ec_host_defs.specs.Leaves.{LeafData}
use Rattle.ec_meaning_defs.specs.resolved.Resolved.{Exp}
use Rattle.ec_meaning_defs.specs.evaluation.State.{State}
use Rattle.ec_meaning_defs.specs.evaluation.Results.{Res}
use Rattle.ec_meaning_defs.specs.evaluation.Evaluate.{World, Context, Step}
use Rattle.ec_call_defs.specs.Steps.{arguments_given}
use Rattle.ec_direct_defs.specs.Leaves.{Leaf}
use Rattle.ec_direct_defs.specs.Statements as direct
use Rattle.ec_direct_defs.specs.Statements.{Input, stored, Sent, Outputs, nowhere, into_leaves, into_area, Asked, sends, executes, reads_text, opens, Statement, runs, connects, disconnects, sets_connection, sets_autocommit, controls, prepares, deallocates, allocates, frees, gets_count, sets_count, gets_items, sets_items}
use Rattle.ec_direct_defs.specs.Places.{address_of, text_placed, indicator_placed, leaf_placed, input_placed, each_placed, area_placed, sent_placed, outputs_placed, asked_placed, item_leaf_placed, item_input_placed, placed}
use Rattle.ec_sim_statement_laws.specs.statement.Calls.{indicator_of, place_of, host_of, input_of, area_of, ins_of, outs_of, asked_of, got_of, given_of, call_of, cut_of}

members_append : {A : Type 0} (xs ys : List (Member A)) (rest : List (Arg A))
    → members_arguments (xs ++ ys) rest ≡ members_arguments xs (members_arguments ys rest)
members_append [] ys rest = refl
members_append (x ∷ xs) ys rest = λ j. member_arguments x (members_append xs ys rest j)

-- a leaf of these parts
abbrev leaf_with : {A : Type 0} → LeafData → A → Option (A × LeafData) → Leaf A
leaf_with l p i = record { place = p; leaf = l; indicator = i }

module _ (step : Step) (w : World) (c : Context) (structs : List StructData) where
  abbrev Go : Type 0
  Go = List (Arg ℕ) → State → Res

  abbrev args : List (Arg Exp) → State → Go → Res
  args = arguments_given step w c

  -- ---- parts

  text_given : (a : TextArg Exp) (rest : List (Arg Exp)) (s : State) (go : Go)
      → args (text_argument a ∷ rest) s go
      ≡ text_placed step w c a s (λ b t. args rest t (λ given u. go (text_argument b ∷ given) u))
  text_given absent rest s go = refl
  text_given (word bytes) rest s go = refl
  text_given (held e) rest s go = refl

  leaf_given : (l : Leaf Exp) (rest : List (Arg Exp)) (s : State) (go : Go)
      → args (member_arguments (host_of structs l) rest) s go
      ≡ leaf_placed step w c l s (λ m t. args rest t (λ given u. go (member_arguments (host_of structs m) given) u))
  leaf_given l rest s go = by_indicator l.indicator
    where
      by_indicator : (i : Option (Exp × LeafData))
          → args (member_arguments (host_of structs (leaf_with l.leaf l.place i)) rest) s go
          ≡ address_of step w c l.place s (λ p t. indicator_placed step w c i t (λ k u.
          args rest u (λ given r. go (member_arguments (host_of structs (leaf_with l.leaf p k)) given) r)))
      by_indicator None = refl
      by_indicator (Some i) = refl

  input_given : (x : Input Exp) (rest : List (Arg Exp)) (s : State) (go : Go)
      → args (member_arguments (input_of structs x) rest) s go
      ≡ input_placed step w c x s (λ y t. args rest t (λ given u. go (member_arguments (input_of structs y) given) u))
  input_given (stored l) rest s go = leaf_given l rest s go
  input_given (direct.constant bytes) rest s go = refl

  values_given : (xs : List (Input Exp)) (ms : List (Member Exp)) (rest : List (Arg Exp)) (s : State) (go : Go)
      → args (members_arguments (map (input_of structs) xs ++ ms) rest) s go
      ≡ each_placed step w c (input_placed step w c) xs s (λ ys t.
      args (members_arguments ms rest) t (λ given u. go (members_arguments (map (input_of structs) ys) given) u))
  values_given [] ms rest s go = refl
  values_given (x ∷ xs) ms rest s go =
      input_given x (members_arguments (map (input_of structs) xs ++ ms) rest) s go
      ∙ (λ j. input_placed step w c x s (λ y t.
      values_given xs ms rest t (λ given u. go (member_arguments (input_of structs y) given) u) j))

  area_given : (a : Option (TextArg Exp)) (rest : List (Arg Exp)) (s : State) (go : Go)
      → args (members_arguments (area_of structs a) rest) s go
      ≡ area_placed step w c a s (λ b t. args rest t (λ given u. go (members_arguments (area_of structs b) given) u))
  area_given None rest s go = refl
  area_given (Some absent) rest s go = refl
  area_given (Some (word bytes)) rest s go = refl
  area_given (Some (held e)) rest s go = refl

  sent_given : (x : Sent Exp) (rest : List (Arg Exp)) (s : State) (go : Go)
      → args (members_arguments (ins_of structs x) rest) s go
      ≡ sent_placed step w c x s (λ y t. args rest t (λ given u. go (members_arguments (ins_of structs y) given) u))
  sent_given x rest s go =
      values_given x.values (area_of structs x.area) rest s go
      ∙ (λ j. each_placed step w c (input_placed step w c) x.values s (λ ys t.
      area_given x.area rest t (λ given u. go (members_arguments (map (input_of structs) ys) given) u) j))
      ∙ (λ j. each_placed step w c (input_placed step w c) x.values s (λ ys t.
      area_placed step w c x.area t (λ b u.
      args rest u (λ given r. go (sym (members_append (map (input_of structs) ys) (area_of structs b) given) j) r))))

  leaves_given : (ls : List (Leaf Exp)) (rest : List (Arg Exp)) (s : State) (go : Go)
      → args (members_arguments (map (host_of structs) ls) rest) s go
      ≡ each_placed step w c (leaf_placed step w c) ls s (λ ms t.
      args rest t (λ given u. go (members_arguments (map (host_of structs) ms) given) u))
  leaves_given [] rest s go = refl
  leaves_given (l ∷ ls) rest s go =
      leaf_given l (members_arguments (map (host_of structs) ls) rest) s go
      ∙ (λ j. leaf_placed step w c l s (λ m t.
      leaves_given ls rest t (λ given u. go (member_arguments (host_of structs m) given) u) j))

  outs_given : (x : Outputs Exp) (rest : List (Arg Exp)) (s : State) (go : Go)
      → args (members_arguments (outs_of structs x) rest) s go
      ≡ outputs_placed step w c x s (λ y t. args rest t (λ given u. go (members_arguments (outs_of structs y) given) u))
  outs_given nowhere rest s go = refl
  outs_given (into_leaves ls) rest s go = leaves_given ls rest s go
  outs_given (into_area absent) rest s go = refl
  outs_given (into_area (word bytes)) rest s go = refl
  outs_given (into_area (held e)) rest s go = refl

  asked_given : (x : Asked Exp) (rest : List (Arg Exp)) (s : State) (go : Go)
      → args (statement_arguments (asked_of structs x) rest) s go
      ≡ asked_placed step w c x s (λ y t. args rest t (λ given u. go (statement_arguments (asked_of structs y) given) u))
  asked_given (sends bytes) rest s go = refl
  asked_given (executes name) rest s go = refl
  asked_given (reads_text absent) rest s go = refl
  asked_given (reads_text (word bytes)) rest s go = refl
  asked_given (reads_text (held e)) rest s go = refl
  asked_given (opens head name) rest s go = refl

  got_given : (is : List (Item × Leaf Exp)) (rest : List (Arg Exp)) (s : State) (go : Go)
      → args (items_arguments (map (got_of structs) is) rest) s go
      ≡ each_placed step w c (item_leaf_placed step w c) is s (λ ks t.
      args rest t (λ given u. go (items_arguments (map (got_of structs) ks) given) u))
  got_given [] rest s go = refl
  got_given (i ∷ is) rest s go =
      leaf_given i.1 (items_arguments (map (got_of structs) is) rest) s (λ given u. go (symbol (item_symbol i.0) ∷ given) u)
      ∙ (λ j. leaf_placed step w c i.1 s (λ m t.
      got_given is rest t (λ given u. go (symbol (item_symbol i.0) ∷ member_arguments (host_of structs m) given) u) j))

  set_given : (is : List (Item × Input Exp)) (rest : List (Arg Exp)) (s : State) (go : Go)
      → args (items_arguments (map (given_of structs) is) rest) s go
      ≡ each_placed step w c (item_input_placed step w c) is s (λ ks t.
      args rest t (λ given u. go (items_arguments (map (given_of structs) ks) given) u))
  set_given [] rest s go = refl
  set_given (i ∷ is) rest s go =
      input_given i.1 (items_arguments (map (given_of structs) is) rest) s (λ given u. go (symbol (item_symbol i.0) ∷ given) u)
      ∙ (λ j. input_placed step w c i.1 s (λ y t.
      set_given is rest t (λ given u. go (symbol (item_symbol i.0) ∷ member_arguments (input_of structs y) given) u) j))

  -- ---- a statement over a connection

  abbrev last_symbol : {A : Type 0} → List (Arg A)
  last_symbol = symbol symbols.EndOfOutputs ∷ []

  abbrev outs_part : {A : Type 0} → Outputs A → List (Arg A)
  outs_part outs = symbol symbols.EndOfInputs ∷ members_arguments (outs_of structs outs) last_symbol

  lists_given : (ins : Sent Exp) (outs : Outputs Exp) (s : State) (go : Go)
      → args (members_arguments (ins_of structs ins) (outs_part outs)) s go
      ≡ sent_placed step w c ins s (λ x t. outputs_placed step w c outs t (λ y u. go (members_arguments (ins_of structs x) (outs_part y)) u))
  lists_given ins outs s go =
      sent_given ins (outs_part outs) s go
      ∙ (λ j. sent_placed step w c ins s (λ x t.
      outs_given outs last_symbol t (λ given u. go (members_arguments (ins_of structs x) (symbol symbols.EndOfInputs ∷ given)) u) j))

  run_given : (at : TextArg Exp) (asked : Asked Exp) (ins : Sent Exp) (outs : Outputs Exp) (s : State) (go : Go)
      → args (text_argument at ∷ statement_arguments (asked_of structs asked) (members_arguments (ins_of structs ins) (outs_part outs))) s go
      ≡ text_placed step w c at s (λ a t. asked_placed step w c asked t (λ q u. sent_placed step w c ins u (λ x r. outputs_placed step w c outs r (λ y v.
      go (text_argument a ∷ statement_arguments (asked_of structs q) (members_arguments (ins_of structs x) (outs_part y))) v))))
  run_given at asked ins outs s go =
      text_given at (statement_arguments (asked_of structs asked) (members_arguments (ins_of structs ins) (outs_part outs))) s go
      ∙ (λ j. text_placed step w c at s (λ a t.
      asked_given asked (members_arguments (ins_of structs ins) (outs_part outs)) t (λ given u. go (text_argument a ∷ given) u) j))
      ∙ (λ j. text_placed step w c at s (λ a t. asked_placed step w c asked t (λ q u.
      lists_given ins outs u (λ given r. go (text_argument a ∷ statement_arguments (asked_of structs q) given) r) j)))

  -- ---- all statements

  module _ (line : ℕ) where
    abbrev for_it : {A : Type 0} → Statement A → List (Arg A)
    for_it x = arguments (cut_of structs line x)

    pub evaluated : (x : Statement Exp) (s : State) (go : Go) → args (for_it x) s go ≡ placed step w c x s (λ y t. go (for_it y) t)
    evaluated (runs at asked ins outs) s go = run_given at asked ins outs s (λ given t. go (int_constant line ∷ given) t)
    evaluated (connects target user password name) s go =
        text_given target (text_argument user ∷ text_argument password ∷ text_argument name ∷ []) s (λ given t. go (int_constant line ∷ given) t)
        ∙ (λ j. text_placed step w c target s (λ a t.
        text_given user (text_argument password ∷ text_argument name ∷ []) t (λ given u. go (int_constant line ∷ text_argument a ∷ given) u) j))
        ∙ (λ j. text_placed step w c target s (λ a t. text_placed step w c user t (λ b u.
        text_given password (text_argument name ∷ []) u (λ given r. go (int_constant line ∷ text_argument a ∷ text_argument b ∷ given) r) j)))
        ∙ (λ j. text_placed step w c target s (λ a t. text_placed step w c user t (λ b u. text_placed step w c password u (λ d r.
        text_given name [] r (λ given v. go (int_constant line ∷ text_argument a ∷ text_argument b ∷ text_argument d ∷ given) v) j))))
    evaluated (disconnects name) s go = text_given name [] s (λ given t. go (int_constant line ∷ given) t)
    evaluated (sets_connection name) s go = text_given name [] s (λ given t. go (int_constant line ∷ given) t)
    evaluated (sets_autocommit on at) s go = text_given at [] s (λ given t. go (int_constant line ∷ literal (switch_word on) ∷ given) t)
    evaluated (controls at bytes) s go = text_given at (literal bytes ∷ []) s (λ given t. go (int_constant line ∷ given) t)
    evaluated (prepares at name text) s go =
        text_given at (literal name ∷ text_argument text ∷ []) s (λ given t. go (int_constant line ∷ given) t)
        ∙ (λ j. text_placed step w c at s (λ a t.
        text_given text [] t (λ given u. go (int_constant line ∷ text_argument a ∷ literal name ∷ given) u) j))
    evaluated (deallocates at name) s go = text_given at (literal name ∷ []) s (λ given t. go (int_constant line ∷ given) t)
    evaluated (allocates name) s go = text_given name [] s (λ given t. go (int_constant line ∷ given) t)
    evaluated (frees name) s go = text_given name [] s (λ given t. go (int_constant line ∷ given) t)
    evaluated (gets_count name l) s go =
        text_given name (member_arguments (host_of structs l) []) s (λ given t. go (int_constant line ∷ given) t)
        ∙ (λ j. text_placed step w c name s (λ a t. leaf_given l [] t (λ given u. go (int_constant line ∷ text_argument a ∷ given) u) j))
    evaluated (sets_count name x) s go =
        text_given name (member_arguments (input_of structs x) []) s (λ given t. go (int_constant line ∷ given) t)
        ∙ (λ j. text_placed step w c name s (λ a t. input_given x [] t (λ given u. go (int_constant line ∷ text_argument a ∷ given) u) j))
    evaluated (gets_items name index items) s go =
        text_given name (member_arguments (input_of structs index) (items_arguments (map (got_of structs) items) (symbol symbols.EndOfItems ∷ []))) s (λ given t. go (int_constant line ∷ given) t)
        ∙ (λ j. text_placed step w c name s (λ a t.
        input_given index (items_arguments (map (got_of structs) items) (symbol symbols.EndOfItems ∷ [])) t (λ given u. go (int_constant line ∷ text_argument a ∷ given) u) j))
        ∙ (λ j. text_placed step w c name s (λ a t. input_placed step w c index t (λ i u.
        got_given items (symbol symbols.EndOfItems ∷ []) u (λ given r. go (int_constant line ∷ text_argument a ∷ member_arguments (input_of structs i) given) r) j)))
    evaluated (sets_items name index items) s go =
        text_given name (member_arguments (input_of structs index) (items_arguments (map (given_of structs) items) (symbol symbols.EndOfItems ∷ []))) s (λ given t. go (int_constant line ∷ given) t)
        ∙ (λ j. text_placed step w c name s (λ a t.
        input_given index (items_arguments (map (given_of structs) items) (symbol symbols.EndOfItems ∷ [])) t (λ given u. go (int_constant line ∷ text_argument a ∷ given) u) j))
        ∙ (λ j. text_placed step w c name s (λ a t. input_placed step w c index t (λ i u.
        set_given items (symbol symbols.EndOfItems ∷ []) u (λ given r. go (int_constant line ∷ text_argument a ∷ member_arguments (input_of structs i) given) r) j)))
