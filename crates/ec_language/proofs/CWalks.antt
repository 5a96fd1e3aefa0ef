-- Where C text stops.
use Rattle.std.proofs.Common.{◌≡◌, ℕ, zero, suc, ◌-◌, ◌<◌, ◌⊎◌, inl, inr, Bool, true, false, List, [], ◌∷◌, ◌++◌, length, take, refl, sym, ap, ◌∙◌, subst, arith, length-append, append_assoc}
use Rattle.std.specs.List.{concat}
use Rattle.ec_language.specs.Letters.{Text}
use Rattle.ec_language.specs.CText.{CUnit, CUnits}
use Rattle.ec_language.specs.Pieces.{starts_piece, NoneStarts}
use Rattle.ec_language.specs.ReadPieces.{Behind, passed, cut, endless, c_end, front, Step, on, halt, walk, c_step, c_stop}
use Rattle.ec_language.proofs.CUnits.{c_sound, c_complete, c_some}
use Rattle.ec_language.proofs.Walks.{walk_on, walk_halt, shorter}

-- ---- fronts

front_length : (u r : Text) → take (length u) (u ++ r) ≡ u
front_length [] r = refl
front_length (b ∷ u) r = ap (λ t. b ∷ t) (front_length u r)

pub front_is : (u r : Text) → front (u ++ r) r ≡ u
front_is u r = let n : length (u ++ r) - length r ≡ length u = omega (arith, length-append u r) in ap (λ k. take k (u ++ r)) n ∙ front_length u r

pub front_of : (t u r : Text) → t ≡ u ++ r → front t r ≡ u
front_of t u r e = ap (λ x. front x r) e ∙ front_is u r

pub unit_then : (s u t c r : Text) → s ≡ u ++ t → t ≡ c ++ r → s ≡ (u ++ c) ++ r
unit_then s u t c r p q = p ∙ ap (λ x. u ++ x) q ∙ sym (append_assoc u c r)

-- ---- steps

abbrev pub NoEnd : Text → Type 0
NoEnd text = (rest : Text) → c_end text ≡ passed rest → ⊥

abbrev choice : Text → Bool → Behind → Step Text Text
choice s x y = elim x [ true ↦ halt s | false ↦ elim y [ passed r ↦ on r | cut r ↦ halt s | endless ↦ halt s ] ]

on_is : (s t : Text) (x : Bool) (y : Behind) → x ≡ false → y ≡ passed t → choice s x y ≡ on t
on_is s t x y p q = rw (p, q) refl

on_was : (s t : Text) (x : Bool) (y : Behind) → choice s x y ≡ on t
    → (x ≡ false) × (y ≡ passed t)
on_was s t true y e = absurd (cc)
on_was s t false (passed r) e = (refl, cc)
on_was s t false (cut r) e = absurd (cc)
on_was s t false endless e = absurd (cc)

c_down : (s t : Text) → c_step s ≡ on t → length t < length s
c_down s t e = let h = c_sound s t ((on_was s t (starts_piece s) (c_end s) e).1) in shorter s h.unit t h.whole (c_some h.unit t h.is)

pub c_stop_on : (s t : Text) → starts_piece s ≡ false → c_end s ≡ passed t → c_stop s ≡ c_stop t
c_stop_on s t p q = walk_on c_step [] (λ x. length x) c_down s t (on_is s t (starts_piece s) (c_end s) p q)

pub c_stop_start : (s : Text) → starts_piece s ≡ true → c_stop s ≡ s
c_stop_start s p = walk_halt c_step [] (length s) s s (rw (p, c_step) refl)

halt_is : (s : Text) (x : Bool) (y : Behind) → ((t : Text) → y ≡ passed t → ⊥)
    → choice s x y ≡ halt s
halt_is s true y n = refl
halt_is s false (passed r) n = absurd (n r refl)
halt_is s false (cut r) n = refl
halt_is s false endless n = refl

pub c_stop_stuck : (s : Text) → NoEnd s → c_stop s ≡ s
c_stop_stuck s n = walk_halt c_step [] (length s) s s (halt_is s (starts_piece s) (c_end s) n)

-- ---- C text up to where it stops

pub record CStops (text rest : Text) : Type 0 where
  pub units : List Text
  pub whole : text ≡ concat units ++ rest
  pub are : CUnits units rest
  pub none : NoneStarts units rest
  pub stops : (starts_piece rest ≡ true) ⊎ NoEnd rest

stops_step : (n : ℕ) (s r : Text) (x : Bool) (y : Behind) → starts_piece s ≡ x → c_end s ≡ y
    → ((t : Text) → c_end s ≡ passed t → walk c_step [] n t ≡ r → CStops t r)
    → ◌≡◌ {A = Text} (elim (choice s x y) [ on t ↦ walk c_step [] n t | halt r ↦ r ]) r
    → CStops s r
stops_step n s r true y ex ey ih e = subst (λ t. CStops s t) e (record { units = []; whole = refl; are = tt; none = tt; stops = inl ex })
stops_step n s r false (passed t) ex ey ih e =
    let k = ih t ey e in
    let h = c_sound s t ey in
    let whole = unit_then s h.unit t (concat k.units) r h.whole k.whole in
    record {
      units = h.unit ∷ k.units;
      whole = whole;
      are = (subst (λ x. CUnit h.unit x) k.whole h.is, k.are);
      none = (subst (λ x. starts_piece x ≡ false) whole ex, k.none);
      stops = k.stops;
    }
stops_step n s r false (cut t) ex ey ih e =
    subst (λ t. CStops s t) e (record { units = []; whole = refl; are = tt; none = tt; stops = inr (λ u q. let clash : cut t ≡ passed u = sym ey ∙ q in cc) })
stops_step n s r false endless ex ey ih e =
    subst (λ t. CStops s t) e (record { units = []; whole = refl; are = tt; none = tt; stops = inr (λ u q. let clash : endless ≡ passed u = sym ey ∙ q in cc) })

stops_up_to : (n : ℕ) (s r : Text) → length s < n → walk c_step [] n s ≡ r → CStops s r
stops_up_to zero s r h e = absurd (omega arith)
stops_up_to (suc n) s r h e =
    stops_step n s r (starts_piece s) (c_end s) refl refl
    (λ t q. let k = c_sound s t q in let d : length t < length s = shorter s k.unit t k.whole (c_some k.unit t k.is) in stops_up_to n t r (omega arith)) e

pub c_stops : (s : Text) → CStops s (c_stop s)
c_stops s = stops_up_to (suc (length s)) s (c_stop s) (omega arith) refl

pub c_stop_behind : (us : List Text) (r : Text) → CUnits us r → NoneStarts us r → c_stop (concat us ++ r) ≡ c_stop r
c_stop_behind [] r a n = refl
c_stop_behind (u ∷ us) r a n =
    c_stop_on ((u ++ concat us) ++ r) (concat us ++ r) n.0 (ap c_end (append_assoc u (concat us) r) ∙ c_complete u (concat us ++ r) a.0) ∙ c_stop_behind us r a.1 n.1
