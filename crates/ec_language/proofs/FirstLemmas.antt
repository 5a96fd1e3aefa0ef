-- The first violation of a list, and of the parts of a text.
use Rattle.std.proofs.Common.{◌≡◌, ℕ, suc, ◌<◌, ◌≤◌, Bool, true, false, ◌&&◌, ◌||◌, ◌==◌, List, [], ◌∷◌, ◌++◌, Option, Some, None, nat_lt, if◌then◌else◌, Result, Ok, Err, arith, subst, sym, ap, ◌∙◌}
use mathlib.Core.Logic.{inl, inr}
use Rattle.std.specs.Prelude.{refl}
use Rattle.std.proofs.lemmas.Bool.Decides.{nat_tests}
use Rattle.ec_base.specs.declared.fault.FaultKind.{FaultKind}
use Rattle.ec_base.specs.declared.fault.FaultKind.TheVariants as fault
use Rattle.ec_base.specs.declared.fault.LimitKind.TheVariants.{L2}
use Rattle.ec_base.specs.Numbers.{fault_number}
use Rattle.ec_base.specs.declared.stop.Stop.{Stop}
use Rattle.ec_base.specs.declared.stop.Stop.TheVariants.{Refused, Limit}
use Rattle.ec_ctypes.specs.trees.Tokens.{TokData, TokenData}
use Rattle.ec_language.specs.Tokens.{Part, numbered, numbered_part, with_token, token, max_tokens}
use Rattle.ec_language.specs.First.{Violation, comes_before, IsFirst, IsAmong, first_of, earlier, rank, violations_of, fault_in, limit_at, stop_of, stop_at}

-- the order of pairs of numbers
abbrev less : ℕ → ℕ → ℕ → ℕ → Bool
less a r b s = nat_lt a b || (a == b && nat_lt r s)

not_itself : (a r : ℕ) → less a r a r ≡ false
not_itself a r = grind (arith, nat_tests)

not_back : (a r b s : ℕ) → less a r b s ≡ true → less b s a r ≡ false
not_back a r b s before = grind (arith, nat_tests)

not_through : (a r b s c t : ℕ) → less a r b s ≡ false → less b s c t ≡ false → less a r c t ≡ false
not_through a r b s c t first second = grind (arith, nat_tests)

-- ---- lists

some_is : {v w : Violation} → Some v ≡ Some w → v ≡ w
some_is same = cc

behind_earlier : (v w other : Violation) → comes_before w v ≡ true → (vs : List Violation) → ((x : Violation) → IsAmong vs x → comes_before x w ≡ false)
    → IsAmong (v ∷ vs) other → comes_before other w ≡ false
behind_earlier v w other before vs none (inl is) = subst (λ z. comes_before z w ≡ false) (sym is) (not_back w.place (rank w.stop) v.place (rank v.stop) before)
behind_earlier v w other before vs none (inr is) = none other is

behind_first : (v w other : Violation) → comes_before w v ≡ false → (vs : List Violation) → ((x : Violation) → IsAmong vs x → comes_before x w ≡ false)
    → IsAmong (v ∷ vs) other → comes_before other v ≡ false
behind_first v w other before vs none (inl is) = subst (λ z. comes_before z v ≡ false) (sym is) (not_itself v.place (rank v.stop))
behind_first v w other before vs none (inr is) =
    not_through other.place (rank other.stop) w.place (rank w.stop) v.place (rank v.stop) (none other is) before

first_of_two : (v w x : Violation) (t : Bool) → comes_before w v ≡ t → (if t then Some w else Some v) ≡ Some x
    → (vs : List Violation) → IsFirst (IsAmong vs) w → IsFirst (IsAmong (v ∷ vs)) x
first_of_two v w x true before same vs first =
    subst (λ z. IsFirst (IsAmong (v ∷ vs)) z) (some_is same) (inr first.0, λ other is. behind_earlier v w other before vs first.1 is)
first_of_two v w x false before same vs first =
    subst (λ z. IsFirst (IsAmong (v ∷ vs)) z) (some_is same) (inl refl, λ other is. behind_first v w other before vs first.1 is)

earlier_is_some : (v w : Violation) (t : Bool) → (if t then Some w else Some v) ≡ None → ⊥
earlier_is_some v w true same = cc
earlier_is_some v w false same = cc

first_rest_none : (v : Violation) (o : Option Violation) → earlier v o ≡ None → ⊥
first_rest_none v None same = cc
first_rest_none v (Some w) same = earlier_is_some v w (comes_before w v) same

pub first_is_none : (vs : List Violation) → first_of vs ≡ None → vs ≡ []
first_is_none [] same = refl
first_is_none (v ∷ vs) same = absurd (first_rest_none v (first_of vs) same)

alone : (v x : Violation) → Some v ≡ Some x → (vs : List Violation) → vs ≡ [] → IsFirst (IsAmong (v ∷ vs)) x
alone v x same vs none = subst (λ ws. IsFirst (IsAmong (v ∷ ws)) x) (sym none)
    (subst (λ z. IsFirst (IsAmong (v ∷ [])) z) (some_is same) (inl refl, λ other is. alone_before v other is))
  where
    alone_before : (v other : Violation) → IsAmong (v ∷ []) other → comes_before other v ≡ false
    alone_before v other (inl is) = subst (λ z. comes_before z v ≡ false) (sym is) (not_itself v.place (rank v.stop))
    alone_before v other (inr is) = absurd is

first_behind : (v x : Violation) (vs : List Violation) (o : Option Violation) → first_of vs ≡ o → ((w : Violation) → first_of vs ≡ Some w → IsFirst (IsAmong vs) w)
    → earlier v o ≡ Some x → IsFirst (IsAmong (v ∷ vs)) x
first_behind v x vs None of_rest rest same = alone v x same vs (first_is_none vs of_rest)
first_behind v x vs (Some w) of_rest rest same = first_of_two v w x (comes_before w v) refl same vs (rest w of_rest)

pub first_is : (vs : List Violation) (v : Violation) → first_of vs ≡ Some v → IsFirst (IsAmong vs) v
first_is [] v same = absurd (none_is_some same)
  where
    none_is_some : {v : Violation} → None ≡ Some v → ⊥
    none_is_some same = cc
first_is (u ∷ vs) v same = first_behind u v vs (first_of vs) refl (λ w is. first_is vs w is) same

-- ---- parts

-- no violation stands before a place
abbrev NotBefore : ℕ → Option Violation → Type 0
NotBefore place None = Unit {0}
NotBefore place (Some v) = place ≤ v.place

earlier_not_before : (place : ℕ) (v w : Violation) (t : Bool) → place ≤ v.place → place ≤ w.place → NotBefore place (if t then Some w else Some v)
earlier_not_before place v w true a b = b
earlier_not_before place v w false a b = a

earlier_keeps : (place : ℕ) (v : Violation) (o : Option Violation) → place ≤ v.place → NotBefore place o → NotBefore place (earlier v o)
earlier_keeps place v None a b = a
earlier_keeps place v (Some w) a b = earlier_not_before place v w (comes_before w v) a b

-- a violation at a place that stands before all others is the first
earlier_wins : (v : Violation) (o : Option Violation) → NotBefore (suc v.place) o → earlier v o ≡ Some v
earlier_wins v None behind = refl
earlier_wins v (Some w) behind = chosen v w (comes_before w v) (later w.place (rank w.stop) v.place (rank v.stop) behind)
  where
    later : (a r b s : ℕ) → suc b ≤ a → less a r b s ≡ false
    later a r b s behind = grind (arith, nat_tests)

    chosen : (v w : Violation) (t : Bool) → t ≡ false → (if t then Some w else Some v) ≡ Some v
    chosen v w true is = cc
    chosen v w false is = refl

fault_is_small : (kind : FaultKind) → fault_number kind < 102
fault_is_small fault.F1 = omega arith
fault_is_small fault.F2 = omega arith
fault_is_small fault.F3 = omega arith
fault_is_small fault.F4 = omega arith
fault_is_small fault.F5 = omega arith
fault_is_small fault.F6 = omega arith
fault_is_small fault.F7 = omega arith
fault_is_small fault.F8 = omega arith
fault_is_small fault.F9 = omega arith
fault_is_small fault.F10 = omega arith
fault_is_small fault.F11 = omega arith
fault_is_small fault.F12 = omega arith
fault_is_small fault.F13 = omega arith
fault_is_small fault.F14 = omega arith
fault_is_small fault.F15 = omega arith
fault_is_small fault.F16 = omega arith
fault_is_small fault.F17 = omega arith
fault_is_small fault.F18 = omega arith
fault_is_small fault.F19 = omega arith
fault_is_small fault.F20 = omega arith
fault_is_small fault.F21 = omega arith
fault_is_small fault.F22 = omega arith
fault_is_small fault.F23 = omega arith
fault_is_small fault.F24 = omega arith
fault_is_small fault.F25 = omega arith
fault_is_small fault.F26 = omega arith
fault_is_small fault.F27 = omega arith
fault_is_small fault.F28 = omega arith
fault_is_small fault.F29 = omega arith
fault_is_small fault.F30 = omega arith
fault_is_small fault.F31 = omega arith
fault_is_small fault.F32 = omega arith

-- ---- the violations of parts

abbrev limit_of : Bool → ℕ → List Violation
limit_of at_limit place = if at_limit then record { place = place; stop = Limit L2 } ∷ [] else []

abbrev refusal : ℕ → ℕ → FaultKind → Violation
refusal place line kind = record { place = place; stop = Refused kind (record { 0 = line }) }

weaker : (place : ℕ) (o : Option Violation) → NotBefore (suc place) o → NotBefore place o
weaker place None behind = behind
weaker place (Some v) behind = omega (arith, behind)

limit_first : (at_limit : Bool) (place : ℕ) (vs : List Violation) → NotBefore (suc place) (first_of vs) → NotBefore place (first_of (limit_of at_limit place ++ vs))
limit_first true place vs behind = earlier_keeps place (record { place = place; stop = Limit L2 }) (first_of vs) (omega arith) (weaker place (first_of vs) behind)
limit_first false place vs behind = weaker place (first_of vs) behind

part_first : (place line : ℕ) (tok : Result TokData FaultKind) (vs : List Violation) → NotBefore place (first_of vs) → NotBefore place (first_of (fault_in place line tok ++ vs))
part_first place line (Ok tok) vs behind = behind
part_first place line (Err kind) vs behind = earlier_keeps place (refusal place line kind) (first_of vs) (omega arith) behind

none_before : (place : ℕ) (parts : List Part) → NotBefore place (first_of (violations_of place parts))
none_before place [] = tt
none_before place (p ∷ parts) =
    part_first place p.line p.tok (limit_at place ++ violations_of (suc place) parts)
    (limit_first (place == max_tokens) place (violations_of (suc place) parts) (none_before (suc place) parts))

-- the fault of a part decides at its place
fault_wins : (place line : ℕ) (kind : FaultKind) (at_limit : Bool) (vs : List Violation) → NotBefore (suc place) (first_of vs)
    → earlier (refusal place line kind) (first_of (limit_of at_limit place ++ vs)) ≡ Some (refusal place line kind)
fault_wins place line kind false vs behind = earlier_wins (refusal place line kind) (first_of vs) behind
fault_wins place line kind true vs behind =
    subst (λ o. earlier (refusal place line kind) o ≡ Some (refusal place line kind)) (sym (earlier_wins (record { place = place; stop = Limit L2 }) (first_of vs) behind))
    (kept (refusal place line kind) (record { place = place; stop = Limit L2 }) (comes_before (record { place = place; stop = Limit L2 }) (refusal place line kind))
    (later place 102 (fault_number kind) (fault_is_small kind)))
  where
    later : (a r s : ℕ) → s < r → less a r a s ≡ false
    later a r s small = grind (arith, nat_tests)

    kept : (v w : Violation) (t : Bool) → t ≡ false → (if t then Some w else Some v) ≡ Some v
    kept v w true is = cc
    kept v w false is = refl

with_token_stops : (t : TokenData) (r : Result (List TokenData) Stop) → stop_of (with_token t r) ≡ stop_of r
with_token_stops t (Ok ts) = refl
with_token_stops t (Err stop) = refl

token_stops : (at_limit : Bool) (place : ℕ) (t : TokenData) (r : Result (List TokenData) Stop) (vs : List Violation) → NotBefore (suc place) (first_of vs)
    → stop_of r ≡ stop_at (first_of vs)
    → stop_of (if at_limit then Err (Limit L2) else with_token t r) ≡ stop_at (first_of (limit_of at_limit place ++ vs))
token_stops true place t r vs behind rest = ap stop_at (sym (earlier_wins (record { place = place; stop = Limit L2 }) (first_of vs) behind))
token_stops false place t r vs behind rest = with_token_stops t r ∙ rest

part_stops : (place line : ℕ) (tok : Result TokData FaultKind) (r : Result (List TokenData) Stop) (vs : List Violation) → NotBefore (suc place) (first_of vs)
    → stop_of r ≡ stop_at (first_of vs)
    → stop_of (numbered_part place line tok r) ≡ stop_at (first_of (fault_in place line tok ++ (limit_at place ++ vs)))
part_stops place line (Ok tok) r vs behind rest = token_stops (place == max_tokens) place (token tok line place) r vs behind rest
part_stops place line (Err kind) r vs behind rest = ap stop_at (sym (fault_wins place line kind (place == max_tokens) vs behind))

pub numbered_stops : (place last : ℕ) (parts : List Part) → stop_of (numbered place last parts) ≡ stop_at (first_of (violations_of place parts))
numbered_stops place last [] = refl
numbered_stops place last (p ∷ parts) =
    part_stops place p.line p.tok (numbered (suc place) last parts) (violations_of (suc place) parts) (none_before (suc place) parts) (numbered_stops (suc place) last parts)
