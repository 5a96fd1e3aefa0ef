-- A call whose pointers are arguments and simple: so are those among its arguments.
use Rattle.std.proofs.Common.{List, [], ◌∷◌, Option, Some, None}
use Rattle.ec_arguments.specs.Arguments.{Arg, symbol, literal, null, int_constant, long_constant, pointer, stray, TextArg, absent, word, held, Indicator, Member, host, constant, descriptor, Statement, normal, prepared, immediate, opening, ItemMember, Call, run, connect, disconnect, set_connection, set_autocommit, control, prepare, deallocate, allocate_descriptor, deallocate_descriptor, get_count, set_count, get_items, set_items}
use Rattle.ec_arguments.specs.Writing.{text_argument, indicator_arguments, member_arguments, members_arguments, items_arguments, statement_arguments, call_arguments}
use Rattle.ec_ctypes.specs.declared.checked.library.Sym.TheVariants as symbols_of
use Rattle.ec_ctypes.specs.trees.Exprs.{ExprData}
use Rattle.ec_typing_defs.specs.Worlds.{Place, World}
use Rattle.ec_resolving_defs.specs.Storage.{Storage}
use Rattle.ec_sim_statement_laws.specs.argument.Arguments.{IsArgument, AreArguments}
use Rattle.ec_sim_world_laws.specs.call.Pointers.{IsSimple, AreSimple}
use Rattle.ec_sim_world_laws.specs.place.Statements.{pointer_exp}

module _ (at : Place) (s : Storage) (w : World) where
  pub record IsPointed (e : ExprData) : Type 0 where
    pub argument : IsArgument at s w e (pointer_exp at s w e)
    pub simple : IsSimple e

  -- each pointer among these arguments
  abbrev pub AllPointed : List (Arg ExprData) → Type 0
  AllPointed [] = Unit {0}
  AllPointed (symbol x ∷ more) = AllPointed more
  AllPointed (literal bytes ∷ more) = AllPointed more
  AllPointed (null ∷ more) = AllPointed more
  AllPointed (int_constant n ∷ more) = AllPointed more
  AllPointed (long_constant n ∷ more) = AllPointed more
  AllPointed (pointer e ∷ more) = IsPointed e × AllPointed more
  AllPointed (stray ∷ more) = ⊥

  pub are_arguments : (xs : List (Arg ExprData)) → AllPointed xs → AreArguments at s w (pointer_exp at s w) xs
  are_arguments [] h = tt
  are_arguments (symbol x ∷ more) h = are_arguments more h
  are_arguments (literal bytes ∷ more) h = are_arguments more h
  are_arguments (null ∷ more) h = are_arguments more h
  are_arguments (int_constant n ∷ more) h = are_arguments more h
  are_arguments (long_constant n ∷ more) h = are_arguments more h
  are_arguments (pointer e ∷ more) h = (h.0.argument, are_arguments more h.1)
  are_arguments (stray ∷ more) h = h

  pub are_simple : (xs : List (Arg ExprData)) → AllPointed xs → AreSimple xs
  are_simple [] h = tt
  are_simple (symbol x ∷ more) h = are_simple more h
  are_simple (literal bytes ∷ more) h = are_simple more h
  are_simple (null ∷ more) h = are_simple more h
  are_simple (int_constant n ∷ more) h = are_simple more h
  are_simple (long_constant n ∷ more) h = are_simple more h
  are_simple (pointer e ∷ more) h = (h.0.simple, are_simple more h.1)
  are_simple (stray ∷ more) h = absurd h

  -- ---- the parts of a call

  abbrev pub TextHas : TextArg ExprData → Type 0
  TextHas absent = Unit {0}
  TextHas (word bytes) = Unit {0}
  TextHas (held e) = IsPointed e

  abbrev pub IndicatorHas : Option (Indicator ExprData) → Type 0
  IndicatorHas None = Unit {0}
  IndicatorHas (Some i) = IsPointed i.value

  abbrev pub MemberHas : Member ExprData → Type 0
  MemberHas (host p) = IsPointed p.value × IndicatorHas p.ind
  MemberHas (constant bytes) = Unit {0}
  MemberHas (descriptor name) = TextHas name

  abbrev pub MembersHave : List (Member ExprData) → Type 0
  MembersHave [] = Unit {0}
  MembersHave (m ∷ ms) = MemberHas m × MembersHave ms

  abbrev pub ItemsHave : List (ItemMember ExprData) → Type 0
  ItemsHave [] = Unit {0}
  ItemsHave (i ∷ is) = MemberHas i.1 × ItemsHave is

  abbrev pub StatementHas : Statement ExprData → Type 0
  StatementHas (normal text) = Unit {0}
  StatementHas (prepared name) = Unit {0}
  StatementHas (immediate text) = TextHas text
  StatementHas (opening head name) = Unit {0}

  abbrev pub CallHas : Call ExprData → Type 0
  CallHas (run connection statement ins outs) = TextHas connection × StatementHas statement × MembersHave ins × MembersHave outs
  CallHas (connect target user password name) = TextHas target × TextHas user × TextHas password × TextHas name
  CallHas (disconnect name) = TextHas name
  CallHas (set_connection name) = TextHas name
  CallHas (set_autocommit on connection) = TextHas connection
  CallHas (control connection text) = TextHas connection
  CallHas (prepare connection name text) = TextHas connection × TextHas text
  CallHas (deallocate connection name) = TextHas connection
  CallHas (allocate_descriptor name) = TextHas name
  CallHas (deallocate_descriptor name) = TextHas name
  CallHas (get_count name target) = TextHas name × MemberHas target
  CallHas (set_count name value) = TextHas name × MemberHas value
  CallHas (get_items name index items) = TextHas name × MemberHas index × ItemsHave items
  CallHas (set_items name index items) = TextHas name × MemberHas index × ItemsHave items

  -- ---- its arguments

  text_has : (a : TextArg ExprData) (rest : List (Arg ExprData)) → TextHas a → AllPointed rest → AllPointed (text_argument a ∷ rest)
  text_has absent rest h r = r
  text_has (word bytes) rest h r = r
  text_has (held e) rest h r = (h, r)

  indicator_has : (i : Option (Indicator ExprData)) (rest : List (Arg ExprData)) → IndicatorHas i → AllPointed rest → AllPointed (indicator_arguments i rest)
  indicator_has None rest h r = r
  indicator_has (Some i) rest h r = (h, r)

  member_has : (m : Member ExprData) (rest : List (Arg ExprData)) → MemberHas m → AllPointed rest → AllPointed (member_arguments m rest)
  member_has (host p) rest h r = (h.0, indicator_has p.ind rest h.1 r)
  member_has (constant bytes) rest h r = r
  member_has (descriptor name) rest h r =
      text_has name (long_constant 1 ∷ long_constant 1 ∷ long_constant 1 ∷ symbol symbols_of.NoIndicator ∷ null ∷ long_constant 0 ∷ long_constant 0 ∷ long_constant 0 ∷ rest) h r

  members_have : (ms : List (Member ExprData)) (rest : List (Arg ExprData)) → MembersHave ms → AllPointed rest → AllPointed (members_arguments ms rest)
  members_have [] rest h r = r
  members_have (m ∷ ms) rest h r = member_has m (members_arguments ms rest) h.0 (members_have ms rest h.1 r)

  items_have : (is : List (ItemMember ExprData)) (rest : List (Arg ExprData)) → ItemsHave is → AllPointed rest → AllPointed (items_arguments is rest)
  items_have [] rest h r = r
  items_have (i ∷ is) rest h r = member_has i.1 (items_arguments is rest) h.0 (items_have is rest h.1 r)

  statement_has : (x : Statement ExprData) (rest : List (Arg ExprData)) → StatementHas x → AllPointed rest → AllPointed (statement_arguments x rest)
  statement_has (normal text) rest h r = r
  statement_has (prepared name) rest h r = r
  statement_has (immediate text) rest h r = text_has text rest h r
  statement_has (opening head name) rest h r = r

  -- behind the line
  pub call_has : (c : Call ExprData) → CallHas c → AllPointed (call_arguments c)
  call_has (run connection statement ins outs) h =
      let end = symbol symbols_of.EndOfOutputs ∷ [] in
      let stored = symbol symbols_of.EndOfInputs ∷ members_arguments outs end in
      text_has connection (statement_arguments statement (members_arguments ins stored)) h.0
      (statement_has statement (members_arguments ins stored) h.1 (members_have ins stored h.2 (members_have outs end h.3 tt)))
  call_has (connect target user password name) h =
      text_has target (text_argument user ∷ text_argument password ∷ text_argument name ∷ []) h.0
      (text_has user (text_argument password ∷ text_argument name ∷ []) h.1 (text_has password (text_argument name ∷ []) h.2 (text_has name [] h.3 tt)))
  call_has (disconnect name) h = text_has name [] h tt
  call_has (set_connection name) h = text_has name [] h tt
  call_has (set_autocommit on connection) h = text_has connection [] h tt
  call_has (control connection text) h = text_has connection (literal text ∷ []) h tt
  call_has (prepare connection name text) h = text_has connection (literal name ∷ text_argument text ∷ []) h.0 (text_has text [] h.1 tt)
  call_has (deallocate connection name) h = text_has connection (literal name ∷ []) h tt
  call_has (allocate_descriptor name) h = text_has name [] h tt
  call_has (deallocate_descriptor name) h = text_has name [] h tt
  call_has (get_count name target) h = text_has name (member_arguments target []) h.0 (member_has target [] h.1 tt)
  call_has (set_count name value) h = text_has name (member_arguments value []) h.0 (member_has value [] h.1 tt)
  call_has (get_items name index items) h =
      let rest = items_arguments items (symbol symbols_of.EndOfItems ∷ []) in
      text_has name (member_arguments index rest) h.0 (member_has index rest h.1 (items_have items (symbol symbols_of.EndOfItems ∷ []) h.2 tt))
  call_has (set_items name index items) h =
      let rest = items_arguments items (symbol symbols_of.EndOfItems ∷ []) in
      text_has name (member_arguments index rest) h.0 (member_has index rest h.1 (items_have items (symbol symbols_of.EndOfItems ∷ []) h.2 tt))
