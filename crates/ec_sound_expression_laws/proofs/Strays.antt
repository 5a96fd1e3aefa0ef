-- No list with an argument that no call takes is a call.
use Rattle.std.proofs.Common.{◌≡◌, ℕ, zero, suc, Bool, true, false, List, [], ◌∷◌, length, Option, Some, None, refl, ap}
use Rattle.std.specs.Prelude.{is_some}
use Rattle.ec_arguments.specs.Arguments.{Arg, symbol, literal, null, int_constant, long_constant, pointer, stray, TextArg, Member, ItemMember, Call, Cut}
use Rattle.ec_arguments.specs.Reading.{Read, and_then, next_symbol, next_literal, next_int, next_long, next_text, before, next_indicator, next_member, begins_with, behind_first, next_members, next_items, ends_items, ends_inputs, ends_outputs, statement_of, next_statement, read_name, read_literal, read_count, read_items, read_call, to_end, read_from, read}
use Rattle.ec_arguments.specs.Rules.{ruled}
use Rattle.ec_ctypes.specs.declared.checked.library.LibName.{LibName}
use Rattle.ec_ctypes.specs.declared.checked.library.LibName.TheVariants as library
use Rattle.ec_ctypes.specs.declared.checked.library.Sym.{Sym}
use Rattle.ec_ctypes.specs.declared.checked.library.Sym.TheVariants as sym
use Rattle.ec_sound_defs.specs.Written.{shape, any, IsCall}
use Rattle.ec_sound_expression_laws.proofs.Basics.{clash}

module _ {A : Type 0} where
  abbrev pub NoStray : List (Arg A) → Type 0
  NoStray [] = Unit {0}
  NoStray (symbol s ∷ args) = NoStray args
  NoStray (literal bytes ∷ args) = NoStray args
  NoStray (null ∷ args) = NoStray args
  NoStray (int_constant z ∷ args) = NoStray args
  NoStray (long_constant z ∷ args) = NoStray args
  NoStray (pointer a ∷ args) = NoStray args
  NoStray (stray ∷ args) = ⊥

  -- what is read is none, if what is behind it is none
  abbrev Kept : {B : Type 0} → List (Arg A) → Read A B → Type 0
  Kept args None = Unit {0}
  Kept args (Some read) = NoStray read.1 → NoStray args

  a_symbol : (args : List (Arg A)) → Kept args (next_symbol args)
  a_symbol [] = tt
  a_symbol (symbol s ∷ args) = λ h. h
  a_symbol (literal bytes ∷ args) = tt
  a_symbol (null ∷ args) = tt
  a_symbol (int_constant z ∷ args) = tt
  a_symbol (long_constant z ∷ args) = tt
  a_symbol (pointer a ∷ args) = tt
  a_symbol (stray ∷ args) = tt

  a_literal : (args : List (Arg A)) → Kept args (next_literal args)
  a_literal [] = tt
  a_literal (symbol s ∷ args) = tt
  a_literal (literal bytes ∷ args) = λ h. h
  a_literal (null ∷ args) = tt
  a_literal (int_constant z ∷ args) = tt
  a_literal (long_constant z ∷ args) = tt
  a_literal (pointer a ∷ args) = tt
  a_literal (stray ∷ args) = tt

  an_int : (args : List (Arg A)) → Kept args (next_int args)
  an_int [] = tt
  an_int (symbol s ∷ args) = tt
  an_int (literal bytes ∷ args) = tt
  an_int (null ∷ args) = tt
  an_int (int_constant z ∷ args) = λ h. h
  an_int (long_constant z ∷ args) = tt
  an_int (pointer a ∷ args) = tt
  an_int (stray ∷ args) = tt

  a_long : (args : List (Arg A)) → Kept args (next_long args)
  a_long [] = tt
  a_long (symbol s ∷ args) = tt
  a_long (literal bytes ∷ args) = tt
  a_long (null ∷ args) = tt
  a_long (int_constant z ∷ args) = tt
  a_long (long_constant z ∷ args) = λ h. h
  a_long (pointer a ∷ args) = tt
  a_long (stray ∷ args) = tt

  a_text : (args : List (Arg A)) → Kept args (next_text args)
  a_text [] = tt
  a_text (symbol s ∷ args) = tt
  a_text (literal bytes ∷ args) = λ h. h
  a_text (null ∷ args) = λ h. h
  a_text (int_constant z ∷ args) = tt
  a_text (long_constant z ∷ args) = tt
  a_text (pointer a ∷ args) = λ h. h
  a_text (stray ∷ args) = tt

  then_kept : {B C : Type 0} (args : List (Arg A)) (r : Read A B) (next : B → List (Arg A) → Read A C) → Kept args r → ((b : B) (rest : List (Arg A)) → Kept rest (next b rest)) → Kept args (and_then r next)
  then_kept {C = C} args None next h k = tt
  then_kept {C = C} args (Some p) next h k = go (next p.0 p.1) (k p.0 p.1)
    where
      go : (q : Read A C) → Kept p.1 q → Kept args q
      go None g = tt
      go (Some q) g = λ x. h (g x)

  before_kept : {B : Type 0} (o : Option B) (args : List (Arg A)) → Kept args (before o args)
  before_kept None args = tt
  before_kept (Some b) args = λ h. h

  indicator_kept : (args : List (Arg A)) → Kept args (next_indicator args)
  indicator_kept args =
      then_kept args (next_symbol args) _ (a_symbol args) (λ s r. then_kept r (next_text r) _ (a_text r) (λ value r. then_kept r (next_long r) _ (a_long r) (λ a r. then_kept r (next_long r) _ (a_long r) (λ b r. then_kept r (next_long r) _ (a_long r) (λ c r. before_kept _ r)))))

  member_kept : (args : List (Arg A)) → Kept args (next_member args)
  member_kept args =
      then_kept args (next_symbol args) _ (a_symbol args) (λ s r. then_kept r (next_text r) _ (a_text r) (λ value r. then_kept r (next_long r) _ (a_long r) (λ a r. then_kept r (next_long r) _ (a_long r) (λ b r. then_kept r (next_long r) _ (a_long r) (λ c r.
      then_kept r (next_indicator r) _ (indicator_kept r) (λ ind r. before_kept _ r))))))

  first_kept : (is : Sym → Bool) (args : List (Arg A)) → begins_with is args ≡ true → NoStray (behind_first args) → NoStray args
  first_kept is [] e h = tt
  first_kept is (symbol s ∷ args) e h = h
  first_kept is (literal bytes ∷ args) e h = clash e
  first_kept is (null ∷ args) e h = clash e
  first_kept is (int_constant z ∷ args) e h = clash e
  first_kept is (long_constant z ∷ args) e h = clash e
  first_kept is (pointer a ∷ args) e h = clash e
  first_kept is (stray ∷ args) e h = clash e

  ended : {B : Type 0} (b : Bool) (args : List (Arg A)) (x y : Read A B) → (b ≡ true → Kept args x) → Kept args y → Kept args (elim b [ true ↦ x | false ↦ y ])
  ended true args x y h g = h refl
  ended false args x y h g = g

  members_kept : (ends : Sym → Bool) (k : ℕ) (args : List (Arg A)) → Kept args (next_members ends k args)
  members_kept ends zero args = tt
  members_kept ends (suc k) args =
      ended (begins_with ends args) args (Some ([], behind_first args)) _ (λ e. first_kept ends args e)
      (then_kept args (next_member args) _ (member_kept args) (λ m r. then_kept r (next_members ends k r) _ (members_kept ends k r) (λ ms r h. h)))

  items_kept : (k : ℕ) (args : List (Arg A)) → Kept args (next_items k args)
  items_kept zero args = tt
  items_kept (suc k) args =
      ended (begins_with ends_items args) args (Some ([], behind_first args)) _ (λ e. first_kept ends_items args e)
      (then_kept args (next_symbol args) _ (a_symbol args) (λ s r. then_kept r (before _ r) _ (before_kept _ r) (λ i r. then_kept r (next_member r) _ (member_kept r) (λ m r. then_kept r (next_items k r) _ (items_kept k r) (λ is r h. h)))))

  statement_by : (s : Sym) (args : List (Arg A)) → Kept args (statement_of s args)
  statement_by sym.StatementNormal args = then_kept args (next_literal args) _ (a_literal args) (λ text r h. h)
  statement_by sym.StatementExecute args = then_kept args (next_literal args) _ (a_literal args) (λ text r h. h)
  statement_by sym.StatementExecImmediate args = then_kept args (next_text args) _ (a_text args) (λ text r h. h)
  statement_by sym.StatementOpen args = then_kept args (next_literal args) _ (a_literal args) (λ head r. then_kept r (next_literal r) _ (a_literal r) (λ name r h. h))
  statement_by _ args = tt

  statement_kept : (args : List (Arg A)) → Kept args (next_statement args)
  statement_kept args = then_kept args (next_symbol args) _ (a_symbol args) (λ s r. statement_by s r)

  name_kept : (made : TextArg A → Call A) (args : List (Arg A)) → Kept args (read_name made args)
  name_kept made args = then_kept args (next_text args) _ (a_text args) (λ name r h. h)

  literal_kept : (made : TextArg A → List ℕ → Call A) (args : List (Arg A)) → Kept args (read_literal made args)
  literal_kept made args = then_kept args (next_text args) _ (a_text args) (λ c r. then_kept r (next_literal r) _ (a_literal r) (λ t r h. h))

  count_kept : (made : TextArg A → Member A → Call A) (args : List (Arg A)) → Kept args (read_count made args)
  count_kept made args = then_kept args (next_text args) _ (a_text args) (λ name r. then_kept r (next_member r) _ (member_kept r) (λ m r h. h))

  items_read : (made : TextArg A → Member A → List (ItemMember A) → Call A) (args : List (Arg A)) → Kept args (read_items made args)
  items_read made args =
      then_kept args (next_text args) _ (a_text args) (λ name r. then_kept r (next_member r) _ (member_kept r) (λ m r. then_kept r (next_items (length args) r) _ (items_kept (length args) r) (λ is r h. h)))

  call_kept : (name : LibName) (args : List (Arg A)) → Kept args (read_call name args)
  call_kept library.Do args =
      then_kept args (next_text args) _ (a_text args) (λ c r. then_kept r (next_statement r) _ (statement_kept r) (λ s r. then_kept r (next_members ends_inputs (length args) r) _ (members_kept ends_inputs (length args) r) (λ ins r.
      then_kept r (next_members ends_outputs (length args) r) _ (members_kept ends_outputs (length args) r) (λ outs r h. h))))
  call_kept library.Connect args =
      then_kept args (next_text args) _ (a_text args) (λ a r. then_kept r (next_text r) _ (a_text r) (λ b r. then_kept r (next_text r) _ (a_text r) (λ c r. then_kept r (next_text r) _ (a_text r) (λ d r h. h))))
  call_kept library.Disconnect args = name_kept _ args
  call_kept library.SetConn args = name_kept _ args
  call_kept library.SetCommit args = then_kept args (next_literal args) _ (a_literal args) (λ s r. then_kept r (before _ r) _ (before_kept _ r) (λ on r. then_kept r (next_text r) _ (a_text r) (λ c r h. h)))
  call_kept library.Trans args = literal_kept _ args
  call_kept library.Prepare args = then_kept args (next_text args) _ (a_text args) (λ c r. then_kept r (next_literal r) _ (a_literal r) (λ name r. then_kept r (next_text r) _ (a_text r) (λ t r h. h)))
  call_kept library.Deallocate args = literal_kept _ args
  call_kept library.AllocateDesc args = name_kept _ args
  call_kept library.DeallocateDesc args = name_kept _ args
  call_kept library.GetDescHeader args = count_kept _ args
  call_kept library.SetDescHeader args = count_kept _ args
  call_kept library.GetDesc args = items_read _ args
  call_kept library.SetDesc args = items_read _ args

  ended_call : (line : ℕ) (args : List (Arg A)) (r : Read A (Call A)) → Kept args r → is_some (to_end line r) ≡ true → NoStray args
  ended_call line args None h e = clash e
  ended_call line args (Some (call, [])) h e = h tt
  ended_call line args (Some (call, more ∷ rest)) h e = clash e

  read_none : (name : LibName) (args : List (Arg A)) (r : Read A ℕ) → Kept args r → is_some (read_from name r) ≡ true → NoStray args
  read_none name args None h e = clash e
  read_none name args (Some (line, rest)) h e = h (ended_call line rest (read_call name rest) (call_kept name rest) e)

  cut_none : (is_text : A → Bool) (name : LibName) (args : List (Arg A)) (o : Option (Cut A)) → read name args ≡ o → is_some (ruled is_text o) ≡ true → NoStray args
  cut_none is_text name args None is e = clash e
  cut_none is_text name args (Some c) is e = read_none name args (next_int args) (an_int args) (ap is_some is)

-- as they are where their shape is
shape_none : {A : Type 0} (args : List (Arg A)) → NoStray (shape args) → NoStray args
shape_none [] h = tt
shape_none (symbol s ∷ args) h = shape_none args h
shape_none (literal bytes ∷ args) h = shape_none args h
shape_none (null ∷ args) h = shape_none args h
shape_none (int_constant z ∷ args) h = shape_none args h
shape_none (long_constant z ∷ args) h = shape_none args h
shape_none (pointer a ∷ args) h = shape_none args h
shape_none (stray ∷ args) h = h

pub call_has_none : {A : Type 0} (name : LibName) (args : List (Arg A)) → IsCall name args → NoStray args
call_has_none name args h = shape_none args (cut_none any name (shape args) (read name (shape args)) refl h)
