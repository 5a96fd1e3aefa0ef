-- The cases are the definitions.
use Rattle.std.proofs.Common.{◌≡◌, ℕ, zero, suc, List, [], ◌∷◌, Option, Some, None, Bool, true, false, refl, ◌+◌, arith}
use Rattle.std.proofs.lemmas.Bool.Decides.{nat_tests}
use Rattle.std.specs.Prelude.{◌&&◌, nat_eq}
use Rattle.std.specs.Int.{next_multiple_of}
use Rattle.ec_ctypes.specs.declared.checked.library.Sym.{Sym}
use Rattle.ec_ctypes.specs.declared.checked.library.Sym.TheVariants as sym
use Rattle.ec_arguments.specs.Arguments.{Arg, TextArg, absent, word, held, Indicator, Member, host, constant, descriptor, Call, Cut}
use Rattle.ec_arguments.specs.Reading.{indicator_of, constant_of, descriptor_of, member_of, to_end}
use Rattle.ec_arguments.specs.Rules.{are_inputs, are_hosts, are_outputs, fits_place, is_given_text, chars_size, without_length, varchar_size, is_call, ruled}
use Rattle.ec_cut.specs.Cases.{some_if, is_none, indicator_by, constant_by, descriptor_by, member_by, is_input, is_only_output, is_fitting_host, is_empty, stands_by}

not_zero : (n : ℕ) → false ≡ nat_eq (suc n) 0
not_zero n = grind (arith, nat_tests)

not_one : (n : ℕ) → false ≡ nat_eq (suc (suc n)) 1
not_one n = grind (arith, nat_tests)

module _ {A : Type 0} where
  pub indicator_cases : (s : Sym) (value : TextArg A) (a b c : ℕ) → indicator_of s value a b c ≡ indicator_by s value a b c
  indicator_cases sym.NoIndicator absent zero zero zero = refl
  indicator_cases sym.NoIndicator absent zero zero (suc c) = λ i. some_if (not_zero c i) None
  indicator_cases sym.NoIndicator absent zero (suc b) c = λ i. some_if (not_zero b i && nat_eq c 0) None
  indicator_cases sym.NoIndicator absent (suc a) b c = λ i. some_if (not_zero a i && nat_eq b 0 && nat_eq c 0) None
  indicator_cases sym.NoIndicator (word bytes) a b c = refl
  indicator_cases sym.NoIndicator (held p) a b c = refl
  indicator_cases _ absent a b c = refl
  indicator_cases _ (word bytes) a b c = refl
  indicator_cases _ (held p) zero b c = refl
  indicator_cases s (held p) (suc a) b c = λ i. some_if (not_zero a i) (Some (record { sym = s; value = p; count = b; step = c }))

  pub constant_cases : (value : TextArg A) (a b c : ℕ) (ind : Option (Indicator A)) → constant_of value a b c ind ≡ constant_by value a b c ind
  constant_cases absent a b c ind = refl
  constant_cases (word bytes) zero zero c ind = refl
  constant_cases (word bytes) zero (suc zero) zero None = refl
  constant_cases (word bytes) zero (suc zero) zero (Some i) = refl
  constant_cases (word bytes) zero (suc zero) (suc c) ind = λ i. some_if (not_zero c i && is_none ind) (constant bytes)
  constant_cases (word bytes) zero (suc (suc b)) c ind = λ i. some_if (not_one b i && nat_eq c 0 && is_none ind) (constant bytes)
  constant_cases (word bytes) (suc a) b c ind = λ i. some_if (not_zero a i && nat_eq b 1 && nat_eq c 0 && is_none ind) (constant bytes)
  constant_cases (held p) a b c ind = refl

  pub descriptor_cases : (value : TextArg A) (a b c : ℕ) (ind : Option (Indicator A)) → descriptor_of value a b c ind ≡ descriptor_by value a b c ind
  descriptor_cases value zero b c ind = refl
  descriptor_cases value (suc zero) zero c ind = refl
  descriptor_cases value (suc zero) (suc zero) zero ind = refl
  descriptor_cases value (suc zero) (suc zero) (suc zero) None = refl
  descriptor_cases value (suc zero) (suc zero) (suc zero) (Some i) = refl
  descriptor_cases value (suc zero) (suc zero) (suc (suc c)) ind = λ i. some_if (not_one c i && is_none ind) (descriptor value)
  descriptor_cases value (suc zero) (suc (suc b)) c ind = λ i. some_if (not_one b i && nat_eq c 1 && is_none ind) (descriptor value)
  descriptor_cases value (suc (suc a)) b c ind = λ i. some_if (not_one a i && nat_eq b 1 && nat_eq c 1 && is_none ind) (descriptor value)

  pub member_cases : (s : Sym) (value : TextArg A) (a b c : ℕ) (ind : Option (Indicator A)) → member_of s value a b c ind ≡ member_by s value a b c ind
  member_cases sym.Const value a b c ind = constant_cases value a b c ind
  member_cases sym.Descriptor value a b c ind = descriptor_cases value a b c ind
  member_cases _ absent a b c ind = refl
  member_cases _ (word bytes) a b c ind = refl
  member_cases _ (held p) a b c ind = refl

  -- ---- rules

  pub hosts_step : (m : Member A) (ms : List (Member A)) → are_hosts (m ∷ ms) ≡ (is_fitting_host m && are_hosts ms)
  hosts_step (host p) ms = refl
  hosts_step (constant bytes) ms = refl
  hosts_step (descriptor name) ms = refl

and_true : (b : Bool) → b ≡ (b && true)
and_true true = refl
and_true false = refl

true_behind : (b : Bool) → (b && true) ≡ b
true_behind true = refl
true_behind false = refl

module _ {A : Type 0} (is_text : A → Bool) where
  pub inputs_step : (m : Member A) (ms : List (Member A)) → are_inputs is_text (m ∷ ms) ≡ (is_input is_text m (is_empty ms) && are_inputs is_text ms)
  inputs_step (host p) ms = refl
  inputs_step (constant bytes) ms = refl
  inputs_step (descriptor name) [] = and_true (is_given_text is_text name)
  inputs_step (descriptor name) (m ∷ ms) = refl

  pub one_output : (m : Member A) → are_outputs is_text (m ∷ []) ≡ is_only_output is_text m
  one_output (host p) = true_behind (fits_place p)
  one_output (constant bytes) = refl
  one_output (descriptor name) = refl

  pub more_outputs : (m n : Member A) (ms : List (Member A)) → are_outputs is_text (m ∷ n ∷ ms) ≡ are_hosts (m ∷ n ∷ ms)
  more_outputs (host p) n ms = refl
  more_outputs (constant bytes) n ms = refl
  more_outputs (descriptor name) n ms = refl

pub chars_cases : (n : ℕ) → chars_size n ≡ elim (nat_eq n 0) [ true ↦ 8 | false ↦ n ]
chars_cases zero = refl
chars_cases (suc n) = λ i. elim (not_zero n i) [ true ↦ 8 | false ↦ suc n ]

pub without_cases : (n size : ℕ) → without_length n size ≡ some_if (nat_eq n 0) size
without_cases zero size = refl
without_cases (suc n) size = λ i. some_if (not_zero n i) size

pub varchar_cases : (n : ℕ) → varchar_size n ≡ elim (nat_eq n 0) [ true ↦ None | false ↦ Some (next_multiple_of (4 + n) 4) ]
varchar_cases zero = refl
varchar_cases (suc n) = λ i. elim (not_zero n i) [ true ↦ None | false ↦ Some (next_multiple_of (4 + suc n) 4) ]

module _ {A : Type 0} (is_text : A → Bool) where
  pub ruled_cases : (line : ℕ) (call : Call A) (left : List (Arg A)) → ruled is_text (to_end line (Some (call, left))) ≡ some_if (stands_by is_text call left) (record { line = line; call = call })
  ruled_cases line call [] = by_test (is_call is_text call)
    where
      by_test : (t : Bool) → elim t [ true ↦ Some (record { line = line; call = call }) | false ↦ None ] ≡ some_if {B = Cut A} t (record { line = line; call = call })
      by_test true = refl
      by_test false = refl
  ruled_cases line call (more ∷ rest) = refl
