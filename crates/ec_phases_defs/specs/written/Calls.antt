-- A call of the library as it is written for a statement, and what the checks of written C see of it: of a pointer alone whether it may lead to a text.
use Rattle.std.specs.Prelude.{◌≡◌, ⊤, Bool, true, List, [], ◌∷◌, map, Option, Some, option_map}
use Rattle.ec_arguments.specs.Arguments.{Arg, symbol, literal, null, int_constant, long_constant, pointer, stray, TextArg, absent, word, held, Indicator, Place, Member, host, constant, descriptor, Statement, normal, prepared, immediate, opening, ItemMember, Call, run, connect, disconnect, set_connection, set_autocommit, control, prepare, deallocate, allocate_descriptor, deallocate_descriptor, get_count, set_count, get_items, set_items, Cut, name_of}
use Rattle.ec_arguments.specs.Rules.{is_call, cut}
use Rattle.ec_arguments.specs.Writing.{arguments}
use Rattle.ec_ctypes.specs.trees.Exprs.{ExprData}
use Rattle.ec_ctypes.specs.trees.Types.{TyData}
use Rattle.ec_expansion_defs.specs.Calls.{argument_exprs}
use Rattle.ec_typing_defs.specs.Library.{argument_of, arguments_of_call, leads_to_text, cuts}

-- ---- a call with `f` of each of its pointers in the place of the pointer

module _ {A B : Type 0} (f : A → B) where
  abbrev pub argument_with : Arg A → Arg B
  argument_with (symbol s) = symbol s
  argument_with (literal bytes) = literal bytes
  argument_with null = null
  argument_with (int_constant n) = int_constant n
  argument_with (long_constant n) = long_constant n
  argument_with (pointer a) = pointer (f a)
  argument_with stray = stray

  abbrev pub text_with : TextArg A → TextArg B
  text_with absent = absent
  text_with (word bytes) = word bytes
  text_with (held a) = held (f a)

  abbrev pub indicator_with : Indicator A → Indicator B
  indicator_with i = record { sym = i.sym; value = f i.value; count = i.count; step = i.step }

  abbrev pub place_with : Place A → Place B
  place_with p = record {
    sym = p.sym;
    value = f p.value;
    size = p.size;
    count = p.count;
    step = p.step;
    ind = option_map indicator_with p.ind;
  }

  abbrev pub member_with : Member A → Member B
  member_with (host p) = host (place_with p)
  member_with (constant bytes) = constant bytes
  member_with (descriptor name) = descriptor (text_with name)

  abbrev pub item_with : ItemMember A → ItemMember B
  item_with i = (i.0, member_with i.1)

  abbrev pub statement_with : Statement A → Statement B
  statement_with (normal text) = normal text
  statement_with (prepared name) = prepared name
  statement_with (immediate text) = immediate (text_with text)
  statement_with (opening head name) = opening head name

  abbrev pub call_with : Call A → Call B
  call_with (run connection statement ins outs) = run (text_with connection)
      (statement_with statement) (map member_with ins) (map member_with outs)
  call_with (connect target user password name) =
      connect (text_with target) (text_with user) (text_with password) (text_with name)
  call_with (disconnect name) = disconnect (text_with name)
  call_with (set_connection name) = set_connection (text_with name)
  call_with (set_autocommit on connection) = set_autocommit on (text_with connection)
  call_with (control connection text) = control (text_with connection) text
  call_with (prepare connection name text) = prepare (text_with connection) name (text_with text)
  call_with (deallocate connection name) = deallocate (text_with connection) name
  call_with (allocate_descriptor name) = allocate_descriptor (text_with name)
  call_with (deallocate_descriptor name) = deallocate_descriptor (text_with name)
  call_with (get_count name target) = get_count (text_with name) (member_with target)
  call_with (set_count name value) = set_count (text_with name) (member_with value)
  call_with (get_items name index items) =
      get_items (text_with name) (member_with index) (map item_with items)
  call_with (set_items name index items) =
      set_items (text_with name) (member_with index) (map item_with items)

  abbrev pub cut_with : Cut A → Cut B
  cut_with c = record { line = c.line; call = call_with c.call }

-- ---- what is seen of it

-- These are the types of the arguments, as far as they are pointers: what is seen of a pointer is whether it may lead to a text.
abbrev pub HaveTypes : (ExprData → Bool) → List (Arg ExprData) → List (Option TyData) → Type 0
HaveTypes is_text [] ts = ⊤
HaveTypes is_text (a ∷ more) [] = ⊥
HaveTypes is_text (pointer e ∷ more) (t ∷ ts) = (argument_of e t ≡ pointer (is_text e))
    × HaveTypes is_text more ts
HaveTypes is_text (stray ∷ more) (t ∷ ts) = ⊥
HaveTypes is_text (_ ∷ more) (t ∷ ts) = HaveTypes is_text more ts

-- A call that keeps the rules is written so that the checks of written C cut it into itself again, and find no fault in it.
abbrev pub AreCutBack : Type 0
AreCutBack = (is_text : ExprData → Bool) (c : Cut ExprData) (ts : List (Option TyData)) →
    is_call is_text c.call ≡ true → HaveTypes is_text (arguments c) ts
    → cut leads_to_text (name_of c.call) (arguments_of_call (argument_exprs (arguments c)) ts)
    ≡ Some (cut_with is_text c)

abbrev pub AreTaken : Type 0
AreTaken = (is_text : ExprData → Bool) (c : Cut ExprData) (ts : List (Option TyData)) →
    is_call is_text c.call ≡ true → HaveTypes is_text (arguments c) ts
    → cuts (name_of c.call) (argument_exprs (arguments c)) ts ≡ true
