-- What is kept of the places tells the first of their violations.
use Rattle.std.proofs.Common.{◌≡◌, ◌≤◌, ◌<◌, ℕ, zero, suc, ◌+◌, Bool, true, false, not, ◌&&◌, ◌||◌, ◌==◌, nat_lt, nat_le, List, [], ◌∷◌, ◌++◌, map, Option, Some, None, refl, sym, ap, ◌∙◌, arith, add-one}
use Rattle.std.proofs.lemmas.Bool.{and_parts, and_from}
use Rattle.std.proofs.lemmas.Bool.Decides.{nat_tests}
use Rattle.std.specs.List.{list_all}
use Rattle.ec_base.specs.declared.fault.FaultKind.{FaultKind}
use Rattle.ec_base.specs.declared.fault.FaultKind.TheVariants.{F9, F13}
use Rattle.ec_base.specs.declared.line.Line.{Line}
use Rattle.ec_base.specs.declared.stop.Stop.{Stop}
use Rattle.ec_base.specs.declared.stop.Stop.TheVariants.{Refused}
use Rattle.ec_language.specs.First.{Violation, rank, comes_before, earlier, first_of, stop_at}
use Rattle.ec_declare.specs.Scanning.{ScanData, at_start, or_else, fault_of, stop_on, waiting, step, feed, stop_by, stop_of}
use Rattle.ec_host_defs.specs.sections.Answers.{fault_unless, faults_of, is_none_open, is_closed, depth_behind, section_behind, section_at, faults_at, violations_at, violations_from}
use Rattle.ec_host_defs.specs.sections.Places.{PlaceData, holds, mark, Places}
use Rattle.ec_host_defs.specs.sections.Uses.{UsesData}

-- ---- the first of violations whose places rise

-- it stands at this place or behind
abbrev is_from : ℕ → Option Violation → Bool
is_from n None = true
is_from n (Some w) = nat_le n w.place

-- none of these stands before the place
abbrev all_from : ℕ → List Violation → Bool
all_from n vs = list_all (λ v. nat_le n v.place) vs

earlier_by : (n : ℕ) (v w : Violation) → nat_le n v.place ≡ true → nat_le n w.place ≡ true → (t : Bool) → comes_before w v ≡ t → is_from n (earlier v (Some w)) ≡ true
earlier_by n v w h k true t = rw t k
earlier_by n v w h k false t = rw t h

earlier_from : (n : ℕ) (v : Violation) (o : Option Violation) → nat_le n v.place ≡ true → is_from n o ≡ true → is_from n (earlier v o) ≡ true
earlier_from n v None h k = h
earlier_from n v (Some w) h k = earlier_by n v w h k (comes_before w v) refl

first_from : (n : ℕ) (vs : List Violation) → all_from n vs ≡ true → is_from n (first_of vs) ≡ true
first_from n [] h = refl
first_from n (v ∷ vs) h =
    let parts = and_parts (nat_le n v.place) (all_from n vs) h in
    earlier_from n v (first_of vs) parts.0 (first_from n vs parts.1)

not_before : (m n r s : ℕ) → nat_le (n + 1) m ≡ true → (nat_lt m n || (m == n && nat_lt r s)) ≡ false
not_before m n r s h = grind (arith, nat_tests)

stays : (v : Violation) (o : Option Violation) → is_from (v.place + 1) o ≡ true → earlier v o ≡ Some v
stays v None h = refl
stays v (Some w) h = let e : comes_before w v ≡ false = not_before w.place v.place (rank w.stop) (rank v.stop) h in rw e refl

itself : (n : ℕ) → nat_le n n ≡ true
itself n = grind (arith, nat_tests)

weaker : (n m : ℕ) → nat_le (n + 1) m ≡ true → nat_le n m ≡ true
weaker n m h = grind (arith, nat_tests)

all_weaker : (n : ℕ) (vs : List Violation) → all_from (n + 1) vs ≡ true → all_from n vs ≡ true
all_weaker n [] h = refl
all_weaker n (v ∷ vs) h =
    let parts = and_parts (nat_le (n + 1) v.place) (all_from (n + 1) vs) h in
    and_from (nat_le n v.place) (all_from n vs) (weaker n v.place parts.0) (all_weaker n vs parts.1)

kinds_from : (n : ℕ) (p : PlaceData) (kinds : List FaultKind) (vs : List Violation) → all_from n vs ≡ true → all_from n (violations_at n p kinds ++ vs) ≡ true
kinds_from n p [] vs h = h
kinds_from n p (k ∷ ks) vs h = and_from (nat_le n n) (all_from n (violations_at n p ks ++ vs)) (itself n) (kinds_from n p ks vs h)

places_from : (n depth : ℕ) (section : Bool) (ps : Places) → all_from n (violations_from n depth section ps) ≡ true
places_from n depth section [] = refl
places_from n depth section (p ∷ ps) = kinds_from n p (faults_at depth section p ps) (violations_from (n + 1) (depth_behind depth p) (section_behind section p) ps) (all_weaker n (violations_from (n + 1) (depth_behind depth p) (section_behind section p) ps) (places_from (n + 1) (depth_behind depth p) (section_behind section p) ps))

abbrev at_place : ℕ → Line → FaultKind → Violation
at_place n line kind = record { place = n; stop = Refused kind line }

one_told : (n : ℕ) (line : Line) (kind : FaultKind) (vs : List Violation) → all_from (n + 1) vs ≡ true → first_of (at_place n line kind ∷ vs) ≡ Some (at_place n line kind)
one_told n line kind vs h = stays (at_place n line kind) (first_of vs) (first_from (n + 1) vs h)

same_place : (n : ℕ) → (nat_lt n n || (n == n && false)) ≡ false
same_place n = grind (arith, nat_tests)

two_told : (n : ℕ) (line : Line) (vs : List Violation) → all_from (n + 1) vs ≡ true → first_of (at_place n line F9 ∷ at_place n line F13 ∷ vs) ≡ Some (at_place n line F9)
two_told n line vs h = ap (earlier (at_place n line F9)) (one_told n line F13 vs h) ∙ (let e : comes_before (at_place n line F13) (at_place n line F9) ≡ false = same_place n in rw e refl)

-- what uses say: whether one is left out, whether there are any, whether they stand in a section, and whether one has no length
told_by : (n : ℕ) (last : Option Bool) (line : Line) (vs : List Violation) → all_from (n + 1) vs ≡ true → (out any section lacks : Bool) → stop_at (first_of (violations_at n (holds last line (record { any = any; left_out = out; lacks_length = lacks })) (faults_of section (record { any = any; left_out = out; lacks_length = lacks })) ++ vs)) ≡ or_else (stop_on line (fault_of section (record { any = any; left_out = out; lacks_length = lacks }))) (stop_at (first_of vs))
told_by n last line vs h true any true true = ap stop_at (two_told n line vs h)
told_by n last line vs h true any true false = ap stop_at (one_told n line F9 vs h)
told_by n last line vs h true any false lacks = ap stop_at (one_told n line F9 vs h)
told_by n last line vs h false true true true = ap stop_at (one_told n line F13 vs h)
told_by n last line vs h false true true false = refl
told_by n last line vs h false true false lacks = ap stop_at (one_told n line F9 vs h)
told_by n last line vs h false false true true = ap stop_at (one_told n line F13 vs h)
told_by n last line vs h false false true false = refl
told_by n last line vs h false false false lacks = refl

told : (n : ℕ) (last : Option Bool) (line : Line) (uses : UsesData) (section : Bool) (vs : List Violation) → all_from (n + 1) vs ≡ true → stop_at (first_of (violations_at n (holds last line uses) (faults_of section uses) ++ vs)) ≡ or_else (stop_on line (fault_of section uses)) (stop_at (first_of vs))
told n last line uses section vs h = told_by n last line vs h uses.left_out uses.any section uses.lacks_length

-- ---- what is kept

abbrev kept : ℕ → Bool → Option Line → Option Stop → ScanData
kept depth section pending first = record { depth = depth; section = section; pending = pending; first = first }

spoiled : (ps : Places) (depth : ℕ) (section : Bool) (x : Stop) → stop_of (feed ps (kept depth section None (Some x))) ≡ Some x
spoiled [] depth section x = refl
spoiled (holds last line uses ∷ ps) depth section x = spoiled ps depth section x
spoiled (mark true line ∷ ps) zero section x = spoiled ps 1 true x
spoiled (mark true line ∷ ps) (suc depth) section x = spoiled ps (suc (suc depth)) true x
spoiled (mark false line ∷ ps) zero section x = spoiled ps 0 false x
spoiled (mark false line ∷ ps) (suc zero) section x = spoiled ps 0 false x
spoiled (mark false line ∷ ps) (suc (suc depth)) section x = spoiled ps (suc depth) false x

abbrev if_closed : Bool → Option Stop → Line → Option Stop
if_closed true first line = first
if_closed false first line = Some (Refused F9 line)

spoiled_open : (ps : Places) (depth : ℕ) (section : Bool) (p : Line) (x : Stop) → stop_of (feed ps (kept (suc depth) section (Some p) (Some x))) ≡ if_closed (is_closed depth ps) (Some x) p
spoiled_open [] depth section p x = refl
spoiled_open (holds last line uses ∷ ps) depth section p x = spoiled_open ps depth section p x
spoiled_open (mark true line ∷ ps) depth section p x = spoiled_open ps (suc depth) true p x
spoiled_open (mark false line ∷ ps) zero section p x = spoiled ps 0 false x
spoiled_open (mark false line ∷ ps) (suc depth) section p x = spoiled_open ps depth false p x

behind_holds : (ps : Places) (section : Bool) (line : Line) (rest : Option Stop) → stop_of (feed ps (kept 0 section None None)) ≡ rest → (o : Option FaultKind) → stop_of (feed ps (kept 0 section None (stop_on line o))) ≡ or_else (stop_on line o) rest
behind_holds ps section line rest h None = h
behind_holds ps section line rest h (Some kind) = spoiled ps 0 section (Refused kind line)

behind_open_holds : (ps : Places) (depth : ℕ) (section : Bool) (p line : Line) (rest : Option Stop) → stop_of (feed ps (kept (suc depth) section (Some p) None)) ≡ if_closed (is_closed depth ps) rest p → (o : Option FaultKind) → stop_of (feed ps (kept (suc depth) section (Some p) (stop_on line o))) ≡ if_closed (is_closed depth ps) (or_else (stop_on line o) rest) p
behind_open_holds ps depth section p line rest h None = h
behind_open_holds ps depth section p line rest h (Some kind) = spoiled_open ps depth section p (Refused kind line)

opened_mark : (n : ℕ) (line : Line) (vs : List Violation) → all_from (n + 1) vs ≡ true → (closed : Bool) → if_closed closed (stop_at (first_of vs)) line ≡ stop_at (first_of (violations_at n (mark true line) (fault_unless closed F9) ++ vs))
opened_mark n line vs h true = refl
opened_mark n line vs h false = sym (ap stop_at (one_told n line F9 vs h))

mutual
  clean : (ps : Places) (n : ℕ) (section : Bool) → stop_of (feed ps (kept 0 section None None)) ≡ stop_at (first_of (violations_from n 0 section ps))
  clean [] n section = refl
  clean (holds last line uses ∷ ps) n section =
      let vs = violations_from (n + 1) 0 section ps in
      behind_holds ps section line (stop_at (first_of vs)) (clean ps (n + 1) section) (fault_of (section_at last section) uses) ∙ sym (told n last line uses (section_at last section) vs (places_from (n + 1) 0 section ps))
  clean (mark true line ∷ ps) n section =
      let vs = violations_from (n + 1) 1 true ps in
      clean_open ps (n + 1) 0 true line ∙ opened_mark n line vs (places_from (n + 1) 1 true ps) (is_closed 0 ps)
  clean (mark false line ∷ ps) n section =
      let vs = violations_from (n + 1) 0 false ps in
      spoiled ps 0 false (Refused F9 line) ∙ sym (ap stop_at (one_told n line F9 vs (places_from (n + 1) 0 false ps)))

  clean_open : (ps : Places) (n depth : ℕ) (section : Bool) (p : Line) → stop_of (feed ps (kept (suc depth) section (Some p) None)) ≡ if_closed (is_closed depth ps) (stop_at (first_of (violations_from n (suc depth) section ps))) p
  clean_open [] n depth section p = refl
  clean_open (holds last line uses ∷ ps) n depth section p =
      let vs = violations_from (n + 1) (suc depth) section ps in
      behind_open_holds ps depth section p line (stop_at (first_of vs)) (clean_open ps (n + 1) depth section p) (fault_of (section_at last section) uses) ∙ ap (λ first. if_closed (is_closed depth ps) first p) (sym (told n last line uses (section_at last section) vs (places_from (n + 1) (suc depth) section ps)))
  clean_open (mark true line ∷ ps) n depth section p =
      let vs = violations_from (n + 1) (suc (suc depth)) true ps in
      spoiled_open ps (suc depth) true p (Refused F9 line) ∙ ap (λ first. if_closed (is_closed (suc depth) ps) first p) (sym (ap stop_at (one_told n line F9 vs (places_from (n + 1) (suc (suc depth)) true ps))))
  clean_open (mark false line ∷ ps) n zero section p = clean ps (n + 1) false
  clean_open (mark false line ∷ ps) n (suc depth) section p = clean_open ps (n + 1) depth false p

-- What is kept behind all places is the first of their violations.
pub first_is_kept : (ps : Places) → stop_of (feed ps at_start) ≡ stop_at (first_of (violations_from 0 0 false ps))
first_is_kept ps = clean ps 0 false
