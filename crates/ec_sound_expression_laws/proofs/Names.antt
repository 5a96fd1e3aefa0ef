-- Names that are not reserved, and names of calls of the library.
use Rattle.std.proofs.Common.{◌≡◌, ◌∙◌, ℕ, Bool, true, false, ◌&&◌, ◌||◌, nat_eq, List, [], ◌∷◌, map, Some, None, refl, sym, ap, subst, arith, codes}
use Rattle.std.specs.Prelude.{if◌then◌else◌}
use Rattle.ec_ctypes.specs.declared.checked.library.LibName.{LibName}
use Rattle.ec_ctypes.specs.declared.checked.library.LibName.TheVariants as library
use Rattle.ec_ctypes.specs.trees.Types.{TyData}
use Rattle.ec_ctypes.specs.Texts.{library_text}
use Rattle.ec_language.specs.Letters.{Text, same_text}
use Rattle.ec_typing_defs.specs.Tables.{is_one_of}
use Rattle.ec_typing_defs.specs.Known.{plain, formatted, known_function, is_reserved, calls, library_calls, takes_stream, ArgumentsData, all_expressions, stream_first, with_symbols, arguments_of}
use Rattle.ec_typing_defs.specs.Library.{named_among, library_call}
use Rattle.ec_sim_host_laws.proofs.reference_lemmas.Parts.{texts_equal}
use Rattle.ec_sound_expression_laws.proofs.Basics.{clash, none_not}

nat_eq_sym : (b c : ℕ) → nat_eq b c ≡ nat_eq c b
nat_eq_sym b c = grind arith

pub same_text_sym : (s t : Text) → same_text s t ≡ same_text t s
same_text_sym [] [] = refl
same_text_sym [] (c ∷ t) = refl
same_text_sym (b ∷ s) [] = refl
same_text_sym (b ∷ s) (c ∷ t) = λ i. nat_eq_sym b c i && same_text_sym s t i

reserved_call : (l : LibName) → is_reserved (library_text l) ≡ true
reserved_call library.Do = refl
reserved_call _ = refl

call_no_stream : (l : LibName) → takes_stream (library_text l) ≡ false
call_no_stream library.Do = refl
call_no_stream _ = refl

pub some_not : {A C : Type 0} {a : A} → Some a ≡ None → C
some_not e = absurd (cc)

module _ (x : Text) where
  -- a name that is none of the library's is no text of them
  none_of : (ls : List LibName) → named_among library_text x ls ≡ None → is_one_of (map library_text ls) x ≡ false
  none_of [] e = refl
  none_of (l ∷ ls) e = go (same_text x (library_text l)) refl e (λ f. none_of ls f)
    where
      go : (b : Bool) → same_text x (library_text l) ≡ b → (if b then Some l else named_among library_text x ls) ≡ None
          → (named_among library_text x ls ≡ None → is_one_of (map library_text ls) x ≡ false) → (same_text (library_text l) x || is_one_of (map library_text ls) x) ≡ false
      go true is e rest = some_not e
      go false is e rest = λ j. (same_text_sym (library_text l) x ∙ is) j || rest e j

  stream_none : (ls : List LibName) (l : LibName) → named_among library_text x ls ≡ Some l → takes_stream x ≡ false
  stream_none [] l e = none_not e
  stream_none (k ∷ ls) l e = go (same_text x (library_text k)) refl e (λ f. stream_none ls l f)
    where
      go : (b : Bool) → same_text x (library_text k) ≡ b → (if b then Some k else named_among library_text x ls) ≡ Some l
          → (named_among library_text x ls ≡ Some l → takes_stream x ≡ false) → takes_stream x ≡ false
      go true is e rest = subst (λ y. takes_stream y ≡ false) (sym (texts_equal x (library_text k) is)) (call_no_stream k)
      go false is e rest = rest e

  -- the call of this name takes no stream
  pub library_no_stream : (b : Bool) (l : LibName) → library_call b x ≡ Some l → takes_stream x ≡ false
  library_no_stream true l e = stream_none calls l e
  library_no_stream false l e = none_not e

  -- arguments without symbols
  pub record NoSymbols (forms : ArgumentsData) : Type 0 where
    pub all : takes_stream x ≡ false → forms ≡ all_expressions
    pub first : takes_stream x ≡ true → forms ≡ stream_first

  forms_by : (t b : Bool) → takes_stream x ≡ t → b ≡ false → NoSymbols (if t then stream_first else (if b then with_symbols else all_expressions))
  forms_by true b e f = record { all = λ g. clash (sym g ∙ e); first = λ g. refl }
  forms_by false b e f = record { all = λ g. ap (λ c. if c then with_symbols else all_expressions) f; first = λ g. clash (sym e ∙ g) }

  no_library_name : (b : Bool) → library_call b x ≡ None → (b && is_one_of library_calls x) ≡ false
  no_library_name true e = none_of calls e
  no_library_name false e = refl

  pub no_symbols : (b : Bool) → library_call b x ≡ None → NoSymbols (arguments_of b x)
  no_symbols b e = forms_by (takes_stream x) (b && is_one_of library_calls x) refl (no_library_name b e)

  -- a name that is not reserved
  module _ (free : is_reserved x ≡ false) where
    other_is : (y : Text) → is_reserved y ≡ true → same_text x y ≡ false
    other_is y r = by_test (same_text x y) refl
      where
        by_test : (b : Bool) → same_text x y ≡ b → b ≡ false
        by_test true e = clash (sym free ∙ (λ j. is_reserved (texts_equal x y e j)) ∙ r)
        by_test false e = refl

    no_call_in : (ls : List LibName) → named_among library_text x ls ≡ None
    no_call_in [] = refl
    no_call_in (l ∷ ls) = (λ j. if other_is (library_text l) (reserved_call l) j then Some l else named_among library_text x ls) ∙ no_call_in ls

    pub free_no_library : (b : Bool) → library_call b x ≡ None
    free_no_library true = no_call_in calls
    free_no_library false = refl

    pub free_forms : (b : Bool) → arguments_of b x ≡ all_expressions
    free_forms b = (no_symbols b (free_no_library b)).all (other_is (codes "fprintf") refl)

-- a known function without a format takes no stream
pub plain_no_stream : (x : Text) (r : TyData) (ps : List TyData) → known_function x ≡ Some (plain r ps) → takes_stream x ≡ false
plain_no_stream x r ps e = go (takes_stream x) refl
  where
    go : (b : Bool) → takes_stream x ≡ b → b ≡ false
    go true is = not_plain (λ i. sym (ap known_function (texts_equal x (codes "fprintf") is)) i) e
      where
        not_plain : {C : Type 0} → Some (formatted 1) ≡ known_function x → known_function x ≡ Some (plain r ps) → C
        not_plain f g = let h = f ∙ g in absurd (cc)
    go false is = refl
