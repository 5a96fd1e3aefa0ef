-- Calls find the same in what is written. A call of the library's name is a fault in a source, where the name is reserved and nothing is known by it.
use Rattle.std.specs.Prelude.{◌≡◌, ℕ, ◌+◌, Bool, true, false, not, ◌&&◌, ◌||◌, nat_le, List, [], ◌∷◌, length, drop, map, Option, Some, None, is_some, option_and_then, if◌then◌else◌}
use Rattle.std.proofs.Common.{◌∙◌, refl, sym, subst}
use Rattle.std.proofs.lemmas.Bool.{true≢false}
use Rattle.ec_ctypes.specs.Texts.{library_text}
use Rattle.ec_ctypes.specs.declared.checked.library.LibName.{LibName}
use Rattle.ec_ctypes.specs.declared.checked.library.LibName.TheVariants as library
use Rattle.ec_ctypes.specs.trees.Exprs.{ExprList, call}
use Rattle.ec_meaning_defs.specs.functions.Formats.{format_parts}
use Rattle.ec_language.specs.Letters.{Text, same_text}
use Rattle.ec_language.proofs.Marks.{same_text_is}
use Rattle.ec_typing_defs.specs.Tables.{Named, find, is_one_of}
use Rattle.ec_typing_defs.specs.Known.{KnownData, plain, formatted, known_function, is_reserved, calls, library_calls, ArgumentsData, all_expressions, stream_first, with_symbols, arguments_of, takes_stream, has_stream, literal_at}
use Rattle.ec_typing_defs.specs.Formats.{is_format_of}
use Rattle.ec_typing_defs.specs.Library.{named_among, library_call}
use Rattle.ec_typing_defs.specs.Worlds.{Place, EntryData, object, function, ScopeData, World, or_else, look_up, look_up_in, chain as check_chain, ask as check_ask, note}
use Rattle.ec_typing_defs.specs.Operands as checked
use Rattle.ec_typing_defs.specs.Operands.{OperandData, types_of, is_stream_or_typeless, format_rule, known_rule, undeclared_call, call_by}
use Rattle.ec_typing_defs.specs.Expressions as checked_parts
use Rattle.ec_resolving_defs.specs.Agreement.{itself, operand_of}
use Rattle.ec_resolving_defs.specs.Expressions.{expr, args}
use Rattle.ec_resolving_defs.specs.Operands.{Found, as_value, with_form, operands_of, channel_of, printing, known_call, call_exp, library_exp, function_called, call_rule}
use Rattle.ec_resolving_defs.specs.Storage.{chain, ask}
use Rattle.ec_sim_statement_laws.specs.statement.Clean.{CallsNone}
use Rattle.ec_sim_statement_laws.specs.expression.Alike.{FindAlike, IsAlike}
use Rattle.ec_sim_statement_laws.specs.expression.Silent.{Nothing, FoundCallsNone, AllCallNone}
use Rattle.ec_sim_statement_laws.specs.expression.Worlds.{AllKeepReserved, AreAlike}
use Rattle.ec_sim_statement_laws.specs.expression.Known.{look_up_same}
use Rattle.ec_sim_statement_laws.specs.expression.Rules.{some_found, none_before, none_behind, CheckAlike, check_chain_alike, check_pure_alike, check_ask_alike, asked_alike, noted_first, demand_alike, check_either, chain_alike, form_alike, ask_first, stored_first, known_first, faulty_alike, adds_nothing}
use Rattle.ec_sim_statement_laws.specs.expression.Checks.{arguments_alike}
use Rattle.ec_sim_statement_laws.specs.expression.Forms.{call_silent}

-- ---- the names of the library

abbrev AllAre : (Text → Type 0) → List Text → Type 0
AllAre P [] = Unit {0}
AllAre P (t ∷ ts) = P t × AllAre P ts

one_of_them : (P : Text → Type 0) (ts : List Text) → AllAre P ts → (f : Text)
    → is_one_of ts f ≡ true → P f
one_of_them P [] p f e = absurd (true≢false (sym e))
one_of_them P (t ∷ ts) p f e =
    step (λ g. one_of_them P ts p.1 f g) (same_text t f) refl e
  where
    step : (is_one_of ts f ≡ true → P f) → (b : Bool) → same_text t f ≡ b
        → (b || is_one_of ts f) ≡ true → P f
    step more true h g = subst P (same_text_is t f h) p.0
    step more false h g = more g

abbrev IsReservedAndUnknown : Text → Type 0
IsReservedAndUnknown t = (is_reserved t ≡ true) × (known_function t ≡ None)

library_reserved : AllAre IsReservedAndUnknown library_calls
library_reserved = (
  (refl, refl),
  (
    (refl, refl),
    (
      (refl, refl),
      (
        (refl, refl),
        (
          (refl, refl),
          (
            (refl, refl),
            (
              (refl, refl),
              (
                (refl, refl),
                (
                  (refl, refl),
                  (
                    (refl, refl),
                    (
                      (refl, refl),
                      (
                        (refl, refl),
                        ((refl, refl), ((refl, refl), tt)),
                      ),
                    ),
                  ),
                ),
              ),
            ),
          ),
        ),
      ),
    ),
  ),
)

is_its_own : (c : LibName) → is_one_of library_calls (library_text c) ≡ true
is_its_own library.Do = refl
is_its_own library.Connect = refl
is_its_own library.Disconnect = refl
is_its_own library.SetConn = refl
is_its_own library.SetCommit = refl
is_its_own library.Trans = refl
is_its_own library.Prepare = refl
is_its_own library.Deallocate = refl
is_its_own library.AllocateDesc = refl
is_its_own library.DeallocateDesc = refl
is_its_own library.GetDescHeader = refl
is_its_own library.SetDescHeader = refl
is_its_own library.GetDesc = refl
is_its_own library.SetDesc = refl

other_text : (f : Text) → is_one_of library_calls f ≡ false → (c : LibName)
    → same_text f (library_text c) ≡ false
other_text f e c = step (same_text f (library_text c)) refl
  where
    step : (b : Bool) → same_text f (library_text c) ≡ b → same_text f (library_text c) ≡ false
    step false h = h
    step true h = absurd (true≢false (sym (is_its_own c)
        ∙ (sym (λ i. is_one_of library_calls (same_text_is f (library_text c) h i)) ∙ e)))

named_none : (f : Text) → is_one_of library_calls f ≡ false → (cs : List LibName)
    → named_among library_text f cs ≡ None
named_none f e [] = refl
named_none f e (c ∷ cs) = λ i. if other_text f e c i then Some c else named_none f e cs i

-- ---- reserved names

scopes_have_none : (x : Text) → is_reserved x ≡ true → (ss : List ScopeData) → AllKeepReserved ss
    → look_up_in ss x ≡ None
scopes_have_none x e [] p = refl
scopes_have_none x e (s ∷ ss) p = λ i. or_else (p.0 x e i) (scopes_have_none x e ss p.1 i)

module _ (w v : World) (alike : AreAlike w v) where
  pub reserved_unknown : (x : Text) → is_reserved x ≡ true → look_up x w ≡ None
  reserved_unknown x e =
      λ i. or_else (alike.reserved_here x e i) (scopes_have_none x e w.outer alike.reserved_outer i)

  no_library_here : (f : Text) → library_call w.written f ≡ None
  no_library_here f = λ i. library_call (alike.is_source i) f

  no_library_there : (f : Text) → is_one_of library_calls f ≡ false
      → library_call v.written f ≡ None
  no_library_there f e = (λ i. library_call (alike.is_written i) f) ∙ named_none f e calls

  -- in a source the library's name is that of no function
  library_faulty : (at : Place) (f : Text) (es : ExprList) (os : List OperandData)
      → is_one_of library_calls f ≡ true → (checked.call_rule at f es os w).found ≡ [] → ⊥
  unfolding checked.call_rule call_by check_chain check_ask note
  library_faulty at f es os b e = some_found
      (sym (λ i. (known_rule at f es os (names.1 i) w).found)
      ∙ (sym (λ i. (undeclared_call at f es os (no_library_here f i) w).found)
      ∙ (sym (λ i. (call_by at f es os (reserved_unknown f names.0 i) w).found) ∙ e)))
    where
      names : IsReservedAndUnknown f
      names = one_of_them IsReservedAndUnknown library_calls library_reserved f b

-- ---- arguments by their form

-- no symbols of the library among them
abbrev pub NoSymbols : ArgumentsData → Type 0
NoSymbols all_expressions = Unit {0}
NoSymbols stream_first = Unit {0}
NoSymbols with_symbols = ⊥

source_forms : (f : Text) → NoSymbols (arguments_of false f)
source_forms f = step (takes_stream f)
  where
    step : (b : Bool) → NoSymbols (if b then stream_first
        else (if false && is_one_of library_calls f then with_symbols else all_expressions))
    step true = tt
    step false = tt

written_forms : (f : Text) → is_one_of library_calls f ≡ false
    → arguments_of true f ≡ arguments_of false f
written_forms f e = λ i. if takes_stream f then stream_first
    else (if e i then with_symbols else all_expressions)

forms_alike : (f : Text) → is_one_of library_calls f ≡ false → IsAlike NoSymbols itself
    (check_ask (λ w. arguments_of w.written f)) (check_ask (λ w. arguments_of w.written f))
    (ask (λ w. arguments_of w.written f)) (ask (λ w. arguments_of w.written f))
unfolding check_ask ask
forms_alike f e = record {
  finds = λ s t w v same alike g.
      let p : arguments_of v.written f ≡ arguments_of w.written f =
      ((λ i. arguments_of (alike.is_written i) f) ∙ written_forms f e)
      ∙ sym (λ i. arguments_of (alike.is_source i) f)
      in record {
        answer = p;
        silent = subst NoSymbols (sym (λ i. arguments_of (alike.is_source i) f)) (source_forms f);
        worlds = alike;
        storages = same;
        adds_none = adds_nothing s;
        adds_none_there = adds_nothing t;
        checked = refl;
        checked_world = refl;
        checked_there = p;
        checked_world_there = refl;
        without_fault = refl;
      };
}

-- arguments whose literals and streams are the same
pub record SameForms (es es' : ExprList) : Type 0 where
  pub literals : (n : ℕ) → literal_at n es' ≡ literal_at n es
  pub stream : has_stream es' ≡ has_stream es
  pub channel : (n : ℕ) → channel_of n es' ≡ channel_of n es

-- ---- what a call is

module _ (at there : Place) (name : Text) (es es' : ExprList) (same : SameForms es es') where
  typeless_same : (os : List OperandData)
      → is_stream_or_typeless es' os ≡ is_stream_or_typeless es os
  typeless_same [] = refl
  typeless_same (o ∷ os) = λ i. same.stream i || not (is_some o.type)

  format_alike : (n : ℕ) (os : List OperandData)
      → CheckAlike (format_rule at n name es os) (format_rule there n name es' os)
  format_alike n os = check_either (nat_le (n + 1) (length os)) _ _ _ _
      (check_chain_alike _ _ _ _ (demand_alike at there _ _ _
      (λ e. (λ i. not (takes_stream name) || typeless_same os i) ∙ e))
      (λ _. check_chain_alike _ _ _ _ (demand_alike at there _ _ _
      (λ e. (λ i. is_format_of (same.literals n i) (types_of (drop (n + 1) os))) ∙ e))
      (λ _. check_pure_alike _))) (noted_first _ _ _ _)

  known_alike : (os : List OperandData) (k : Option KnownData)
      → CheckAlike (known_rule at name es os k) (known_rule there name es' os k)
  known_alike os None = noted_first _ _ _ _
  known_alike os (Some (plain r ps)) = check_chain_alike _ _ _ _
      (arguments_alike at there (Some (map Some ps)) os) (λ _. check_pure_alike _)
  known_alike os (Some (formatted n)) = format_alike n os

  known_same : (fs : List Found) (k : Option KnownData)
      → known_call name es' fs k ≡ known_call name es fs k
  known_same fs None = refl
  known_same fs (Some (plain r ps)) = refl
  known_same fs (Some (formatted n)) = λ i. printing (same.channel n i)
      (option_and_then format_parts (same.literals n i)) (drop (n + 1) fs)

  call_exp_same : (defined : Named (Unit {0})) (fs : List Found) (entry : Option EntryData)
      → call_exp defined name es' fs entry ≡ call_exp defined name es fs entry
  call_exp_same defined fs (Some (object k global t)) = refl
  call_exp_same defined fs (Some (function k done r ps)) = refl
  call_exp_same defined fs None = known_same fs (known_function name)

  module _ (other : is_one_of library_calls name ≡ false) where
    undeclared_alike : (w v : World) → AreAlike w v → (os : List OperandData)
        → CheckAlike (undeclared_call at name es os (library_call w.written name))
        (undeclared_call there name es' os (library_call v.written name))
    undeclared_alike w v alike os =
        subst (λ x. CheckAlike (undeclared_call at name es os x)
        (undeclared_call there name es' os (library_call v.written name)))
        (sym (no_library_here w v alike name))
        (subst (λ x. CheckAlike (undeclared_call at name es os None)
        (undeclared_call there name es' os x)) (sym (no_library_there w v alike name other))
        (known_alike os (known_function name)))

    call_by_alike : (os : List OperandData) (entry : Option EntryData)
        → CheckAlike (call_by at name es os entry) (call_by there name es' os entry)
    unfolding call_by
    call_by_alike os (Some (object k global t)) = noted_first _ _ _ _
    call_by_alike os (Some (function k done r ps)) = check_chain_alike _ _ _ _
        (check_ask_alike _ _ (λ w v alike. λ i. is_some (find name (alike.defined i))))
        (λ defined. check_chain_alike _ _ _ _ (demand_alike at there _ _ _ (λ e. e))
        (λ _. check_chain_alike _ _ _ _ (arguments_alike at there ps os)
        (λ _. check_pure_alike _)))
    call_by_alike os None = asked_alike _ _ _ _ (λ w v alike. undeclared_alike w v alike os)

    call_alike : (os : List OperandData)
        → CheckAlike (checked.call_rule at name es os) (checked.call_rule there name es' os)
    unfolding checked.call_rule
    call_alike os = check_chain_alike _ _ _ _
        (check_ask_alike _ _ (λ w v alike. look_up_same w v alike name))
        (λ entry. call_by_alike os entry)

    -- the call of a function of the program, or of a known one
    function_alike : (fs : List Found) → AllCallNone fs → IsAlike FoundCallsNone operand_of
        (checked.call_rule at name es (operands_of fs))
        (checked.call_rule there name es' (operands_of fs))
        (chain (function_called name es fs) (λ e. with_form (as_value e)
        (checked.call_rule at name es (operands_of fs))))
        (chain (function_called name es' fs) (λ e. with_form (as_value e)
        (checked.call_rule there name es' (operands_of fs))))
    unfolding chain
    function_alike fs silent = stored_first Nothing (λ s. s.defined) (λ s. s.defined) _ _
        (λ d. chain (ask (λ w. call_exp d name es fs (look_up name w)))
        (λ e. with_form (as_value e) (checked.call_rule at name es (operands_of fs))))
        (λ d. chain (ask (λ w. call_exp d name es' fs (look_up name w)))
        (λ e. with_form (as_value e) (checked.call_rule there name es' (operands_of fs))))
        (λ s t sames. sames.defined) (λ s. tt)
        (λ d _. ask_first CallsNone _ _ _ _ _ _
        (λ w v alike. (λ i. call_exp d name es' fs (look_up_same w v alike name i))
        ∙ call_exp_same d fs (look_up name w))
        (λ w. call_silent d name es fs (look_up name w) silent)
        (λ e quiet. form_alike (as_value e) _ _ (λ o. refl) (λ o. quiet)
        (call_alike (operands_of fs))))

    call_found : (fs : List Found) → AllCallNone fs → IsAlike FoundCallsNone operand_of
        (checked.call_rule at name es (operands_of fs))
        (checked.call_rule there name es' (operands_of fs))
        (call_rule at name es fs) (call_rule there name es' fs)
    unfolding chain
    call_found fs silent = known_first None None
        (λ w. library_call w.written name) (λ w. library_call w.written name) _ _
        (λ o. chain (elim o [
          | Some call_name ↦ library_exp call_name es fs
          | None ↦ function_called name es fs
        ]) (λ e. with_form (as_value e) (checked.call_rule at name es (operands_of fs))))
        (λ o. chain (elim o [
          | Some call_name ↦ library_exp call_name es' fs
          | None ↦ function_called name es' fs
        ]) (λ e. with_form (as_value e) (checked.call_rule there name es' (operands_of fs))))
        (λ w v alike. no_library_here w v alike name)
        (λ w v alike. no_library_there w v alike name other)
        (function_alike fs silent)

  abbrev ArgumentsAlike : Type 0
  ArgumentsAlike = (forms : ArgumentsData) → NoSymbols forms → IsAlike AllCallNone operands_of
      (checked_parts.args at forms es) (checked_parts.args there forms es')
      (args at forms es) (args there forms es')

  -- whatever stands in what is written: the call is a fault of the source
  library_alike : is_one_of library_calls name ≡ true → ArgumentsAlike
      → IsAlike FoundCallsNone operand_of
      (checked_parts.expr at (call name es)) (checked_parts.expr there (call name es'))
      (expr at (call name es)) (expr there (call name es'))
  unfolding check_chain check_ask
  library_alike b p = faulty_alike _ _ _ _ (λ s t w v sames alike e.
      let forms : ArgumentsData = arguments_of false name in
      let e' : (check_chain (checked_parts.args at forms es)
      (λ os. checked.call_rule at name es os) w).found ≡ [] =
      sym (λ i. (check_chain (checked_parts.args at (arguments_of (alike.is_source i) name) es)
      (λ os. checked.call_rule at name es os) w).found) ∙ e in
      let x : FindAlike AllCallNone operands_of s t (checked_parts.args at forms es w)
      (checked_parts.args there forms es' v) (args at forms es s w)
      (args there forms es' t v) =
      (p forms (source_forms name)).finds s t w v sames alike
      (none_before (checked_parts.args at forms es w).found _ e') in
      library_faulty (checked_parts.args at forms es w).world (args there forms es' t v).world
      (subst (λ u. AreAlike u (args there forms es' t v).world) x.checked_world x.worlds)
      at name es (checked_parts.args at forms es w).answer b
      (none_behind (checked_parts.args at forms es w).found _ e'))

  pub calls_alike : ArgumentsAlike → IsAlike FoundCallsNone operand_of
      (checked_parts.expr at (call name es)) (checked_parts.expr there (call name es'))
      (expr at (call name es)) (expr there (call name es'))
  calls_alike p = step (is_one_of library_calls name) refl
    where
      step : (b : Bool) → is_one_of library_calls name ≡ b → IsAlike FoundCallsNone operand_of
          (checked_parts.expr at (call name es)) (checked_parts.expr there (call name es'))
          (expr at (call name es)) (expr there (call name es'))
      step true b = library_alike b p
      step false b = chain_alike _ _ _ _ _ _ _ _ (forms_alike name b)
          (λ forms none. chain_alike _ _ _ _ _ _ _ _ (p forms none)
          (λ fs silent. call_found b fs silent))
