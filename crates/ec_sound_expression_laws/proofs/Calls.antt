-- Calls of functions of the program and of known functions fit, where their arguments serve and nothing is wrong.
use Rattle.std.proofs.Common.{◌≡◌, ◌∙◌, inl, inr, ℕ, zero, suc, ◌+◌, Bool, true, false, not as negation, List, [], ◌∷◌, length, map, drop, replicate, Option, Some, None, refl, sym, ap, subst, slice_get, arith, eqb-true}
use Rattle.std.specs.Prelude.{is_some, option_and_then}
use Rattle.ec_ctypes.specs.trees.Types.{TyData, void, arithmetic, pointer, array, structure}
use Rattle.ec_ctypes.specs.trees.Exprs.{ExprList, no_exprs, exprs}
use Rattle.ec_language.specs.Letters.{Text}
use Rattle.ec_typing_defs.specs.Tables.{find}
use Rattle.ec_typing_defs.specs.Types.{int_type, is_void, is_assignable}
use Rattle.ec_typing_defs.specs.Known.{KnownData, plain, formatted, known_function, takes_stream, literal_at, all_expressions, stream_first, arguments_of}
use Rattle.ec_typing_defs.specs.Library.{library_call}
use Rattle.ec_typing_defs.specs.Formats.{NeedData, exact_int, short_integer, long_integer, text_need, Needs, needs_of, meets, meet_all, is_format_of}
use Rattle.ec_typing_defs.specs.Operands.{OperandData, computed, is_null, fits, all_fit, types_of}
use Rattle.ec_typing_defs.specs.Worlds.{EntryData, object, function, World, look_up}
use Rattle.ec_meaning_defs.specs.functions.Formats.{format_parts}
use Rattle.ec_meaning_defs.specs.functions.Functions.{Channel}
use Rattle.ec_meaning_defs.specs.resolved.Resolved.{call, known}
use Rattle.ec_resolving_defs.specs.Conversions.{promoted_value}
use Rattle.ec_resolving_defs.specs.Operands.{Found, found, place_in, own_call, passed, plain_functions, plain_call, channel_of, exps_of, printing, known_call, call_exp, operands_of}
use Rattle.ec_resolving_defs.specs.Storage.{Storage, LibraryCall}
use Rattle.ec_sim_world_laws.specs.closing.Closing.{IsTyped}
use Rattle.ec_sim_program_laws.specs.types.Types.{AreAllTyped, IsTypedEntry}
use Rattle.ec_sim_program_laws.proofs.types_lemmas.Rules.{EntryIn, name_typed}
use Rattle.ec_sound_defs.specs.Sorts.{Sort, Takes, number_sort, address_sort, any_sort}
use Rattle.ec_sound_defs.specs.Sound.{Signature, Has, HasEach, Called, call_gives, count_of, no_atoms}
use Rattle.ec_sound_defs.specs.Types.{type_sort}
use Rattle.ec_sound_form_laws.specs.Names.{signature_of}
use Rattle.ec_sound_form_laws.specs.Fits.{IsValue, AreValues}
use Rattle.ec_sound_form_laws.specs.Formats.{IsTakenApart}
use Rattle.ec_sound_form_laws.specs.Laws.{IsKnownAs}
use Rattle.ec_sound_form_laws.proofs.Answered.{IsOf, computed_of, AreArguments, IsKnownCall, IsUndeclaredCall, IsCallBy}
use Rattle.ec_sound_form_laws.proofs.Formats.{formats_are_taken_apart}
use Rattle.ec_sound_form_laws.proofs.Known.{known_is}
use Rattle.ec_sound_form_laws.proofs.Found.{AreAllSome, computed_is, passed_any, passed_each, passed_count, operands_count, formatted_each}
use Rattle.ec_sound_expression_laws.specs.Arguments.{ArgumentsServe}
use Rattle.ec_sound_expression_laws.specs.Standing.{Serves, ServesAsValue}
use Rattle.ec_sound_expression_laws.proofs.Basics.{clash, left, right}
use Rattle.ec_sound_expression_laws.proofs.Done.{no_assignable}
use Rattle.ec_sound_expression_laws.proofs.Names.{free_forms, no_symbols, plain_no_stream}
use Rattle.ec_sound_expression_laws.proofs.Walks.{Stands}

-- ---- lists

all_some : (ps : List (Option TyData)) → AreAllTyped ps → AreAllSome ps
all_some [] h = tt
all_some (None ∷ ps) h = absurd h.0
all_some (Some t ∷ ps) h = ((t, refl), all_some ps h.1)

known_some : (ps : List TyData) → AreAllSome (map Some ps)
known_some [] = tt
known_some (t ∷ ps) = ((t, refl), known_some ps)

map_length : (ps : List TyData) → length (map Some ps) ≡ length ps
map_length [] = refl
map_length (t ∷ ps) = ap (λ k. suc k) (map_length ps)

drop_operands : (j : ℕ) (fs : List Found) → drop j (operands_of fs) ≡ operands_of (drop j fs)
drop_operands zero fs = refl
drop_operands (suc j) [] = refl
drop_operands (suc j) (f ∷ fs) = drop_operands j fs

no_need : {C : Type 0} (need : NeedData) → meets need void ≡ true → C
no_need exact_int e = clash e
no_need short_integer e = clash e
no_need long_integer e = clash e
no_need text_need e = clash e

-- the value of a call of a function with a result, or none
call_taken : (t : TyData) (ps : List (Option TyData)) → Takes (type_sort t) (call_gives (negation (is_void t)) (signature_of (Some t) ps))
call_taken void ps = tt
call_taken (arithmetic a) ps = tt
call_taken (pointer t) ps = tt
call_taken (array t k) ps = tt
call_taken (structure k) ps = tt

sort_taken : (k : Sort) → Takes k k
sort_taken number_sort = tt
sort_taken address_sort = tt
sort_taken any_sort = tt

module _ (gs : List Signature) (calls : List LibraryCall) (n : ℕ) where
  abbrev Value : Found → Type 0
  Value f = ServesAsValue gs calls n f

  abbrev AllServe : List Found → Type 0
  AllServe [] = Unit {0}
  AllServe (f ∷ fs) = Value f × AllServe fs

  all_serve : (es : ExprList) (fs : List Found) → ArgumentsServe gs calls n all_expressions es fs → AllServe fs
  all_serve no_exprs [] h = tt
  all_serve no_exprs (f ∷ fs) h = absurd h
  all_serve (exprs e es) [] h = absurd h
  all_serve (exprs e es) (f ∷ fs) h = (h.0, all_serve es fs h.1)

  drop_serve : (j : ℕ) (fs : List Found) → AllServe fs → AllServe (drop j fs)
  drop_serve zero fs h = h
  drop_serve (suc j) [] h = tt
  drop_serve (suc j) (f ∷ fs) h = drop_serve j fs h.1

  -- behind a stream
  behind_serve : (m : ℕ) (es : ExprList) (fs : List Found) → ArgumentsServe gs calls n stream_first es fs → AllServe (drop (suc m) fs)
  behind_serve m no_exprs [] h = tt
  behind_serve m no_exprs (f ∷ fs) h = absurd h
  behind_serve m (exprs e es) [] h = absurd h
  behind_serve m (exprs e es) (f ∷ fs) h = drop_serve m fs (all_serve es fs h.1)

  -- ---- arguments that fit are values

  value_fits : (f : Found) (p : Option TyData) (s : TyData) → p ≡ Some s → Value f → fits p f.operand ≡ true → IsValue gs no_atoms n f
  value_fits f p s is (inl h) e = h
  value_fits f p s is (inr d) e =
      no_assignable s (is_null f.operand) (subst (λ x. (elim x [ None ↦ true | Some t ↦ is_assignable s t (is_null f.operand) ]) ≡ true) d.type (subst (λ x. fits x f.operand ≡ true) is e))

  values_of : (ps : List (Option TyData)) (fs : List Found) → AreAllSome ps → AllServe fs → length fs ≡ length ps → all_fit ps (operands_of fs) ≡ true → AreValues gs no_atoms n fs
  values_of ps [] t h l e = tt
  values_of [] (f ∷ fs) t h l e = absurd (omega (arith, l))
  values_of (p ∷ ps) (f ∷ fs) t h l e =
      (value_fits f p t.0.0 t.0.1 h.0 (left (fits p f.operand) (all_fit ps (operands_of fs)) e), values_of ps fs t.1 h.1 (omega (arith, l)) (right (fits p f.operand) (all_fit ps (operands_of fs)) e))

  value_met : (need : NeedData) (ns : Needs) (f : Found) (ts : List (Option TyData)) → Value f → meet_all (need ∷ ns) (f.operand.type ∷ ts) ≡ true → IsValue gs no_atoms n f × (meet_all ns ts ≡ true)
  value_met need ns f ts (inl h) e = (h, right (meets need h.type) (meet_all ns ts) (subst (λ x. meet_all (need ∷ ns) (x ∷ ts) ≡ true) h.is e))
  value_met need ns f ts (inr d) e = no_need need (left (meets need void) (meet_all ns ts) (subst (λ x. meet_all (need ∷ ns) (x ∷ ts) ≡ true) d.type e))

  values_met : (ns : Needs) (fs : List Found) → AllServe fs → meet_all ns (types_of (operands_of fs)) ≡ true → AreValues gs no_atoms n fs
  values_met ns [] h e = tt
  values_met [] (f ∷ fs) h e = clash e
  values_met (need ∷ ns) (f ∷ fs) h e = let v = value_met need ns f (types_of (operands_of fs)) h.0 e in (v.0, values_met ns fs h.1 v.1)

  -- ---- functions of the program

  own_called : (j : ℕ) (t : TyData) (ps : List (Option TyData)) (fs : List Found) → slice_get gs j ≡ Some (signature_of (Some t) ps) → length fs ≡ length ps
      → HasEach gs no_atoms n (replicate (count_of (passed ps fs)) any_sort) (passed ps fs) → Has gs no_atoms n (type_sort t) (call j (negation (is_void t)) (passed ps fs))
  own_called j t ps fs is l h = (subst (λ g. Called gs no_atoms g (negation (is_void t)) (count_of (passed ps fs)) (type_sort t)) (sym is) (passed_count gs no_atoms n ps fs l, call_taken t ps), h)

  arguments_are : (ps : List (Option TyData)) (fs : List Found) → AreArguments ps (operands_of fs) → length fs ≡ length ps
  arguments_are ps fs a = sym (operands_count gs no_atoms n fs) ∙ eqb-true (length (operands_of fs)) (length ps) a.count

  own_serves : (j : ℕ) (r : Option TyData) (ps : List (Option TyData)) (fs : List Found) (o : OperandData) → IsTyped r → AreAllTyped ps → slice_get gs j ≡ Some (signature_of r ps)
      → AllServe fs → AreArguments ps (operands_of fs) → o ≡ computed r → Serves gs calls n (found o (own_call j r (Some ps) fs) false)
  own_serves j None ps fs o t all is h a e = absurd t
  own_serves j (Some t) ps fs o typed all is h a e =
      let l = arguments_are ps fs a in
      let vs = values_of ps fs (all_some ps all) h l a.fit in
      inl (computed_is gs no_atoms n t o _ (subst (IsOf t) (sym e) (computed_of t)) (own_called j t ps fs is l (passed_any gs no_atoms n ps fs (all_some ps all) vs a.fit)))

  -- ---- known functions

  plain_serves : (name : Text) (r : TyData) (ps : List TyData) (fs : List Found) (o : OperandData) → known_function name ≡ Some (plain r ps) → AllServe fs → AreArguments (map Some ps) (operands_of fs)
      → IsOf r o → Serves gs calls n (found o (plain_call (find name plain_functions) ps fs) false)
  plain_serves name r ps fs o is h a of = by_function (known_is name r ps is)
    where
      by_function : IsKnownAs name r ps → Serves gs calls n (found o (plain_call (find name plain_functions) ps fs) false)
      by_function k =
          let l : length fs ≡ length (map Some ps) = arguments_are (map Some ps) fs a in
          let vs = values_of (map Some ps) fs (known_some ps) h l a.fit in
          let each = passed_each gs no_atoms n ps fs vs (l ∙ map_length ps) a.fit in
          let form : Has gs no_atoms n (type_sort r) (known k.function (passed (map Some ps) fs)) =
          (subst (λ x. Takes (type_sort r) x) (sym k.gives) (sort_taken (type_sort r)), subst (λ ks. HasEach gs no_atoms n ks (passed (map Some ps) fs)) (sym k.takes) each) in
          inl (computed_is gs no_atoms n r o _ of (subst (λ x. Has gs no_atoms n (type_sort r) (plain_call x ps fs)) (sym k.is) form))

  printed_serves : (c : Channel) (format : Option Text) (fs : List Found) (o : OperandData) → AllServe fs → is_format_of format (types_of (operands_of fs)) ≡ true → IsOf int_type o
      → Serves gs calls n (found o (printing c (option_and_then format_parts format) fs) false)
  printed_serves c None fs o h e of = clash e
  printed_serves c (Some format) fs o h e of = by_needs (needs_of format) refl e
    where
      printed : (ns : Needs) → IsTakenApart format ns → meet_all ns (types_of (operands_of fs)) ≡ true → Serves gs calls n (found o (printing c (format_parts format) fs) false)
      printed ns t m =
          let each = formatted_each gs no_atoms n ns fs (values_met ns fs h m) m in
          inl (computed_is gs no_atoms n int_type o _ of (subst (λ x. Has gs no_atoms n number_sort (printing c x fs)) (sym t.are)
          (tt, subst (λ ks. HasEach gs no_atoms n ks (exps_of (map (λ f. promoted_value f.operand.type f.exp) fs))) (sym t.need) each)))

      by_needs : (x : Option Needs) → needs_of format ≡ x → elim x [ None ↦ false | Some ns ↦ meet_all ns (types_of (operands_of fs)) ] ≡ true → Serves gs calls n (found o (printing c (format_parts format) fs) false)
      by_needs None is m = clash m
      by_needs (Some ns) is m = printed ns (formats_are_taken_apart format ns is) m

  known_serves : (name : Text) (es : ExprList) (fs : List Found) (o : OperandData) (written : Bool) → library_call written name ≡ None → ArgumentsServe gs calls n (arguments_of written name) es fs
      → IsKnownCall es (operands_of fs) (known_function name) o → Serves gs calls n (found o (known_call name es fs (known_function name)) false)
  known_serves name es fs o written no_call h t = by_function (known_function name) refl t
    where
      all_of : takes_stream name ≡ false → AllServe fs
      all_of e = all_serve es fs (subst (λ x. ArgumentsServe gs calls n x es fs) ((no_symbols name written no_call).all e) h)

      dropped : (m : ℕ) → (b : Bool) → takes_stream name ≡ b → AllServe (drop (suc m) fs)
      dropped m true e = behind_serve m es fs (subst (λ x. ArgumentsServe gs calls n x es fs) ((no_symbols name written no_call).first e) h)
      dropped m false e = drop_serve (suc m) fs (all_of e)

      one_more : (m : ℕ) → m + 1 ≡ suc m
      one_more m = omega arith

      by_function : (k : Option KnownData) → known_function name ≡ k → IsKnownCall es (operands_of fs) k o → Serves gs calls n (found o (known_call name es fs k) false)
      by_function None is t = absurd t
      by_function (Some (plain r ps)) is t = plain_serves name r ps fs o is (all_of (plain_no_stream name r ps is)) t.0 t.1
      by_function (Some (formatted m)) is t =
          printed_serves (channel_of m es) (literal_at m es) (drop (m + 1) fs) o (subst (λ j. AllServe (drop j fs)) (sym (one_more m)) (dropped m (takes_stream name) refl))
          (subst (λ x. is_format_of (literal_at m es) (types_of x) ≡ true) (drop_operands (m + 1) fs) t.0.format) t.1

  -- ---- both

  pub function_serves : (written : Bool) (s : Storage) (w : World) → Stands gs calls n written s w → (name : Text) (es : ExprList) (fs : List Found) → library_call written name ≡ None
      → ArgumentsServe gs calls n (arguments_of written name) es fs → (o : OperandData) → IsCallBy w name es (operands_of fs) (look_up name w) o
      → Serves gs calls n (found o (call_exp s.defined name es fs (look_up name w)) false)
  function_serves written s w stands name es fs no_call h o t = by_entry (look_up name w) refl t
    where
      typed : (entry : EntryData) → look_up name w ≡ Some entry → IsTypedEntry entry
      typed entry is = subst EntryIn is (name_typed name w stands.sound)

      own : (k : ℕ) (done : Bool) (r : Option TyData) (ps : Option (List (Option TyData))) → look_up name w ≡ Some (function k done r ps) → IsCallBy w name es (operands_of fs) (Some (function k done r ps)) o
          → Serves gs calls n (found o (own_call (place_in name s.defined) r ps fs) false)
      own k done r None is t = absurd (stands.names.stand name (function k done r None) is)
      own k done r (Some ps) is t =
          let e = typed (function k done r (Some ps)) is in
          let g = stands.names.stand name (function k done r (Some ps)) is (subst (λ d. is_some (find name d) ≡ true) stands.names.defined_there t.0) in
          let all = all_serve es fs (subst (λ x. ArgumentsServe gs calls n x es fs) (free_forms name (stands.names.free name (function k done r (Some ps)) is) written) h) in
          own_serves (place_in name s.defined) r ps fs o e.0 e.1 g all t.1 t.2

      by_entry : (entry : Option EntryData) → look_up name w ≡ entry → IsCallBy w name es (operands_of fs) entry o → Serves gs calls n (found o (call_exp s.defined name es fs entry) false)
      by_entry (Some (object k global x)) is t = absurd t
      by_entry (Some (function k done r ps)) is t = own k done r ps is t
      by_entry None is t = known_serves name es fs o written no_call h (subst (λ x. IsUndeclaredCall name es (operands_of fs) x o) (ap (λ b. library_call b name) stands.is_written ∙ no_call) t)
