-- Where a declaration after `EXEC SQL` ends.
use Rattle.std.proofs.Common.{◌≡◌, ℕ, zero, suc, pred, ◌<◌, ◌⊎◌, inl, inr, Bool, true, false, ◌&&◌, List, [], ◌∷◌, ◌++◌, length, drop, refl, sym, ap, ◌∙◌, subst, arith, append_assoc, eqb-true}
use Rattle.std.specs.Prelude.{codes, ◌==◌, if◌then◌else◌}
use Rattle.std.specs.List.{concat}
use Rattle.ec_ctypes.specs.declared.text.piece.PieceKind.{PieceKind}
use Rattle.ec_ctypes.specs.declared.text.piece.PieceKind.TheVariants.{InPlace}
use Rattle.ec_language.specs.Letters.{Text, semicolon, is_empty, is_quote, begins, same_text}
use Rattle.ec_language.specs.CText as c
use Rattle.ec_language.specs.CText.{CUnit, CUnits}
use Rattle.ec_language.specs.Pieces.{is_semicolon, braces_after, ends_declaration}
use Rattle.ec_language.specs.PieceFaults.{is_cut_quote, LooseUnits}
use Rattle.ec_language.specs.ReadPieces.{Behind, passed, cut, endless, c_end, Step, on, halt, walk, begins_semicolon, Found, found, cut_at, unended, braces_behind, begins_end, loose_step, has_end, declaration_step}
use Rattle.ec_language.proofs.Ends.{both}
use Rattle.ec_language.proofs.Classes.{apart}
use Rattle.ec_language.proofs.CUnits.{c_sound, c_complete, c_some, c_mark, IsMark, first_other}
use Rattle.ec_language.proofs.Walks.{walk_on, walk_halt, shorter}
use Rattle.ec_language.proofs.CWalks.{unit_then}
use Rattle.ec_language.proofs.CutUnits.{cut_unit_sound, cut_unit_complete, cut_unit_quote}

-- ---- marks of a declaration

semicolon_mark : IsMark 59
semicolon_mark = record { no_word = refl; no_digit = refl; no_quote = refl; no_slash = refl }

open_mark : IsMark 123
open_mark = record { no_word = refl; no_digit = refl; no_quote = refl; no_slash = refl }

close_mark : IsMark 125
close_mark = record { no_word = refl; no_digit = refl; no_quote = refl; no_slash = refl }

-- a unit ends the declaration where a `;` stands outside braces
abbrev pub ends_it : ℕ → Text → Bool
ends_it k u = is_semicolon u && k == 0

pub end_seen : (k : ℕ) (u r : Text) → CUnit u r → begins_end (k, u ++ r) ≡ ends_it k u
end_seen k u r a = ap (λ x. x && k == 0) (sym (c_mark 59 u r semicolon_mark a))

abbrev brace_choice : ℕ → Bool → Bool → ℕ
brace_choice k x y = if x then suc k else if y then pred k else k

braces_seen : (k : ℕ) (u r : Text) → CUnit u r → braces_behind k (u ++ r) ≡ braces_after k u
braces_seen k [] r a = absurd (let n = c_some [] r a in cc (n))
braces_seen k (b ∷ u) r a =
    ap (λ x. brace_choice k x (b == 125)) (sym (c_mark 123 (b ∷ u) r open_mark a)) ∙ ap (λ y. brace_choice k (same_text (b ∷ u) (codes "{")) y) (sym (c_mark 125 (b ∷ u) r close_mark a))

-- a quote is no mark
not_quote : (p : ℕ) (u : Text) → is_quote p ≡ false → begins is_quote u ≡ true → same_text u (p ∷ []) ≡ false
not_quote p [] n e = absurd (cc)
not_quote p (b ∷ u) n e = let k = apart is_quote b p e n in first_other (b == p) _ k ∙ k

cut_stays : (k : ℕ) (u r : Text) → is_cut_quote u r ≡ true → braces_after k u ≡ k
cut_stays k u r e =
    let q = cut_unit_quote u r e in
    ap (λ x. brace_choice k x (same_text u (codes "}"))) (not_quote 123 u refl q) ∙ ap (λ y. brace_choice k false y) (not_quote 125 u refl q)

cut_no_end : (k : ℕ) (u r : Text) → is_cut_quote u r ≡ true → ends_it k u ≡ false
cut_no_end k u r e = ap (λ x. x && k == 0) (not_quote 59 u refl (cut_unit_quote u r e))

cut_not_seen : (k : ℕ) (u r : Text) → is_cut_quote u r ≡ true → begins_end (k, u ++ r) ≡ false
cut_not_seen k [] r e = absurd (cc)
cut_not_seen k (b ∷ u) r e = ap (λ x. x && k == 0) (apart is_quote b 59 (cut_unit_quote (b ∷ u) r e) refl)

-- ---- the list of units of a declaration

text_one : (u : Text) (p : ℕ) → same_text u (p ∷ []) ≡ true → u ≡ p ∷ []
text_one [] p e = absurd (cc)
text_one (b ∷ []) p e = ap (λ x. x ∷ []) (eqb-true b p ((both (b == p) true e).0))
text_one (b ∷ c ∷ u) p e = absurd (cc ((both (b == p) false e).1))

last_unit : (us : List Text) → ◌≡◌ {A = Bool} (elim us [ [] ↦ true | v ∷ vs ↦ false ]) true → us ≡ []
last_unit [] e = refl
last_unit (v ∷ vs) e = absurd (cc)

pub record IsLast (u : Text) (us : List Text) : Type 0 where
  pub unit : u ≡ semicolon ∷ []
  pub alone : us ≡ []

ends_here : (k : ℕ) (u : Text) (us : List Text) → ends_it k u ≡ true → ends_declaration k (u ∷ us) ≡ true → IsLast u us
ends_here k u us x e = record { unit = text_one u 59 ((both (is_semicolon u) (k == 0) x).0); alone = last_unit us (go (ends_it k u) x e) }
  where
    go : (y : Bool) → y ≡ true → ◌≡◌ {A = Bool} (elim y [ true ↦ elim us [ [] ↦ true | v ∷ vs ↦ false ] | false ↦ ends_declaration (braces_after k u) us ]) true → ◌≡◌ {A = Bool} (elim us [ [] ↦ true | v ∷ vs ↦ false ]) true
    go true p q = q
    go false p q = absurd (cc)

ends_later : (k : ℕ) (u : Text) (us : List Text) → ends_it k u ≡ false → ends_declaration k (u ∷ us) ≡ ends_declaration (braces_after k u) us
ends_later k u us x = ap (λ y. pick y) x
  where
    pick : Bool → Bool
    pick y = elim y [ true ↦ elim us [ [] ↦ true | v ∷ vs ↦ false ] | false ↦ ends_declaration (braces_after k u) us ]

-- ---- declarations in which a quote has no end

abbrev State : Type 0
State = ℕ × Text

abbrev size : State → ℕ
size s = length s.1

abbrev loose_choice : State → Bool → Behind → Step State Bool
loose_choice s x y = elim x [ true ↦ halt true | false ↦ elim y [ passed r ↦ on (braces_behind s.0 s.1, r) | cut r ↦ on (s.0, r) | endless ↦ halt false ] ]

passed_shorter : (s r : Text) → c_end s ≡ passed r → length r < length s
passed_shorter s r e = let h = c_sound s r e in shorter s h.unit r h.whole (c_some h.unit r h.is)

cut_shorter : (s r : Text) → c_end s ≡ cut r → length r < length s
cut_shorter s r e = let h = cut_unit_sound s r e in shorter s h.unit r h.whole (go h.unit h.is)
  where
    go : (u : Text) → is_cut_quote u r ≡ true → is_empty u ≡ false
    go [] p = absurd (cc)
    go (b ∷ u) p = refl

on_shorter : (s r : Text) (k : ℕ) (t : State) → length r < length s → (k, r) ≡ t → length t.1 < length s
on_shorter s r k t h e = subst (λ (x : State). length x.1 < length s) e h

loose_falls : (s t : State) (x : Bool) (y : Behind) → c_end s.1 ≡ y → loose_choice s x y ≡ on t → length t.1 < length s.1
loose_falls s t true y ey e = absurd (cc)
loose_falls s t false (passed r) ey e = on_shorter s.1 r (braces_behind s.0 s.1) t (passed_shorter s.1 r ey) (cc)
loose_falls s t false (cut r) ey e = on_shorter s.1 r s.0 t (cut_shorter s.1 r ey) (cc)
loose_falls s t false endless ey e = absurd (cc)

loose_down : (s t : State) → loose_step s ≡ on t → size t < size s
loose_down s t e = loose_falls s t (begins_end s) (c_end s.1) refl e

has_end_on : (k : ℕ) (u r : Text) → CUnit u r → ends_it k u ≡ false → has_end (k, u ++ r) ≡ has_end (braces_after k u, r)
has_end_on k u r a e =
    walk_on loose_step false size loose_down (k, u ++ r) (braces_after k u, r)
    (ap (λ x. loose_choice (k, u ++ r) x (c_end (u ++ r))) (end_seen k u r a ∙ e) ∙ ap (λ y. loose_choice (k, u ++ r) false y) (c_complete u r a) ∙ ap (λ (n : ℕ). on (n, r)) (braces_seen k u r a))

has_end_cut : (k : ℕ) (u r : Text) → is_cut_quote u r ≡ true → has_end (k, u ++ r) ≡ has_end (k, r)
has_end_cut k u r a =
    walk_on loose_step false size loose_down (k, u ++ r) (k, r)
    (ap (λ x. loose_choice (k, u ++ r) x (c_end (u ++ r))) (cut_not_seen k u r a) ∙ ap (λ y. loose_choice (k, u ++ r) false y) (cut_unit_complete u r a))

-- the same in the words of the reading
pub has_end_next : (k : ℕ) (s r : Text) → begins_end (k, s) ≡ false → c_end s ≡ passed r → has_end (k, s) ≡ has_end (braces_behind k s, r)
has_end_next k s r x y =
    walk_on loose_step false size loose_down (k, s) (braces_behind k s, r) (ap (λ z. loose_choice (k, s) z (c_end s)) x ∙ ap (λ z. loose_choice (k, s) false z) y)

pub has_end_skip : (k : ℕ) (s r : Text) → begins_end (k, s) ≡ false → c_end s ≡ cut r → has_end (k, s) ≡ has_end (k, r)
has_end_skip k s r x y = walk_on loose_step false size loose_down (k, s) (k, r) (ap (λ z. loose_choice (k, s) z (c_end s)) x ∙ ap (λ z. loose_choice (k, s) false z) y)

pub has_end_stop : (k : ℕ) (s : Text) → begins_end (k, s) ≡ true → has_end (k, s) ≡ true
has_end_stop k s x = walk_halt loose_step false (length s) (k, s) true (ap (λ z. loose_choice (k, s) z (c_end s)) x)

pub has_end_none : (k : ℕ) (s : Text) → begins_end (k, s) ≡ false → c_end s ≡ endless → has_end (k, s) ≡ false
has_end_none k s x y = walk_halt loose_step false (length s) (k, s) false (ap (λ z. loose_choice (k, s) z (c_end s)) x ∙ ap (λ z. loose_choice (k, s) false z) y)

has_end_here : (k : ℕ) (u r : Text) → CUnit u r → ends_it k u ≡ true → has_end (k, u ++ r) ≡ true
has_end_here k u r a e =
    walk_halt loose_step false (length (u ++ r)) (k, u ++ r) true (ap (λ x. loose_choice (k, u ++ r) x (c_end (u ++ r))) (end_seen k u r a ∙ e))

loose_unit : (x : Bool) (k : ℕ) (u : Text) (us : List Text) (t : Text) → ends_it k u ≡ x → CUnit u t ⊎ (is_cut_quote u t ≡ true)
    → ((k : ℕ) → ends_declaration k us ≡ true → has_end (k, t) ≡ true) → ends_declaration k (u ∷ us) ≡ true → has_end (k, u ++ t) ≡ true
loose_unit true k u us t ex (inl a) ih e = has_end_here k u t a ex
loose_unit false k u us t ex (inl a) ih e = has_end_on k u t a ex ∙ ih (braces_after k u) (sym (ends_later k u us ex) ∙ e)
loose_unit x k u us t ex (inr q) ih e =
    let later = sym (ends_later k u us (cut_no_end k u t q)) ∙ e in has_end_cut k u t q ∙ ih k (subst (λ n. ends_declaration n us ≡ true) (cut_stays k u t q) later)

pub has_end_complete : (us : List Text) (k : ℕ) (r : Text) → LooseUnits us r → ends_declaration k us ≡ true → has_end (k, concat us ++ r) ≡ true
has_end_complete [] k r a e = absurd (cc)
has_end_complete (u ∷ us) k r a e =
    ap (λ t. has_end (k, t)) (append_assoc u (concat us) r) ∙ loose_unit (ends_it k u) k u us (concat us ++ r) refl a.0 (λ n p. has_end_complete us n r a.1 p) e

pub record LooseEnds (k : ℕ) (text : Text) : Type 0 where
  pub units : List Text
  pub rest : Text
  pub whole : text ≡ concat units ++ rest
  pub are : LooseUnits units rest
  pub ends : ends_declaration k units ≡ true

semicolon_first : (s : Text) → begins_semicolon s ≡ true → s ≡ semicolon ∷ drop 1 s
semicolon_first [] e = absurd (cc)
semicolon_first (b ∷ s) e = ap (λ x. x ∷ s) (eqb-true b semicolon e)

ends_alone : (k : ℕ) → (k == 0) ≡ true → ends_declaration k ((semicolon ∷ []) ∷ []) ≡ true
ends_alone k e = ap (λ y. pick y) e
  where
    pick : Bool → Bool
    pick y = elim y [ true ↦ true | false ↦ ends_declaration (braces_after k (semicolon ∷ [])) [] ]

loose_more : (k n : ℕ) (s u t : Text) → s ≡ u ++ t → ends_it k u ≡ false → n ≡ braces_after k u → CUnit u t ⊎ (is_cut_quote u t ≡ true) → LooseEnds n t → LooseEnds k s
loose_more k n s u t w x m a l =
    record {
      units = u ∷ l.units;
      rest = l.rest;
      whole = unit_then s u t (concat l.units) l.rest w l.whole;
      are = (subst (λ z. CUnit u z ⊎ (is_cut_quote u z ≡ true)) l.whole a, l.are);
      ends = ends_later k u l.units x ∙ subst (λ z. ends_declaration z l.units ≡ true) m l.ends;
    }

loose_sound_step : (n k : ℕ) (s : Text) (x : Bool) (y : Behind) → begins_end (k, s) ≡ x → c_end s ≡ y
    → ((m : ℕ) (t : Text) → length t < length s → walk loose_step false n (m, t) ≡ true → LooseEnds m t)
    → ◌≡◌ {A = Bool} (elim (loose_choice (k, s) x y) [ on t ↦ walk loose_step false n t | halt r ↦ r ]) true → LooseEnds k s
loose_sound_step n k s true y ex ey ih e =
    let h = both (begins_semicolon s) (k == 0) ex in
    record { units = (semicolon ∷ []) ∷ []; rest = drop 1 s; whole = semicolon_first s h.0; are = (inl (c.single (semicolon ∷ []) (drop 1 s) refl), tt); ends = ends_alone k h.1 }
loose_sound_step n k s false (passed t) ex ey ih e =
    let h = c_sound s t ey in
    let x = sym (end_seen k h.unit t h.is) ∙ ap (λ z. begins_end (k, z)) (sym h.whole) ∙ ex in
    let m = ap (λ z. braces_behind k z) h.whole ∙ braces_seen k h.unit t h.is in
    loose_more k (braces_behind k s) s h.unit t h.whole x m (inl h.is) (ih (braces_behind k s) t (passed_shorter s t ey) e)
loose_sound_step n k s false (cut t) ex ey ih e =
    let h = cut_unit_sound s t ey in loose_more k k s h.unit t h.whole (cut_no_end k h.unit t h.is) (sym (cut_stays k h.unit t h.is)) (inr h.is) (ih k t (cut_shorter s t ey) e)
loose_sound_step n k s false endless ex ey ih e = absurd (cc)

loose_up_to : (n k : ℕ) (s : Text) → length s < n → walk loose_step false n (k, s) ≡ true → LooseEnds k s
loose_up_to zero k s h e = absurd (omega arith)
loose_up_to (suc n) k s h e = loose_sound_step n k s (begins_end (k, s)) (c_end s) refl refl (λ m t d q. loose_up_to n m t (omega arith) q) e

pub has_end_sound : (k : ℕ) (s : Text) → has_end (k, s) ≡ true → LooseEnds k s
has_end_sound k s e = loose_up_to (suc (length s)) k s (omega arith) e

-- ---- declarations

abbrev cut_choice : State → Bool → Step State Found
cut_choice s z = elim z [ true ↦ halt (cut_at s.1) | false ↦ halt unended ]

abbrev tight_choice : State → Bool → Behind → Step State Found
tight_choice s x y = elim x [
  | true ↦ halt (found InPlace (drop 1 s.1))
  | false ↦ elim y [
    | passed r ↦ on (braces_behind s.0 s.1, r)
    | cut r ↦ elim (has_end (s.0, r)) [ true ↦ halt (cut_at s.1) | false ↦ halt unended ]
    | endless ↦ halt unended
  ]
]

cut_not_on : (s t : State) (z : Bool) → cut_choice s z ≡ on t → ⊥
cut_not_on s t true e = cc
cut_not_on s t false e = cc

tight_falls : (s t : State) (x : Bool) (y : Behind) → c_end s.1 ≡ y → tight_choice s x y ≡ on t → length t.1 < length s.1
tight_falls s t true y ey e = absurd (cc)
tight_falls s t false (passed r) ey e = on_shorter s.1 r (braces_behind s.0 s.1) t (passed_shorter s.1 r ey) (cc)
tight_falls s t false (cut r) ey e = absurd (cut_not_on s t (has_end (s.0, r)) e)
tight_falls s t false endless ey e = absurd (cc)

tight_down : (s t : State) → declaration_step s ≡ on t → size t < size s
tight_down s t e = tight_falls s t (begins_end s) (c_end s.1) refl e

-- what a declaration comes to from some state on
abbrev pub run : State → Found
run s = walk declaration_step unended (suc (length s.1)) s

pub run_on : (k : ℕ) (u r : Text) → CUnit u r → ends_it k u ≡ false → run (k, u ++ r) ≡ run (braces_after k u, r)
run_on k u r a e =
    walk_on declaration_step unended size tight_down (k, u ++ r) (braces_after k u, r)
    (ap (λ x. tight_choice (k, u ++ r) x (c_end (u ++ r))) (end_seen k u r a ∙ e) ∙ ap (λ y. tight_choice (k, u ++ r) false y) (c_complete u r a) ∙ ap (λ (n : ℕ). on (n, r)) (braces_seen k u r a))

-- the same in the words of the reading
pub run_next : (k : ℕ) (s r : Text) → begins_end (k, s) ≡ false → c_end s ≡ passed r → run (k, s) ≡ run (braces_behind k s, r)
run_next k s r x y =
    walk_on declaration_step unended size tight_down (k, s) (braces_behind k s, r) (ap (λ z. tight_choice (k, s) z (c_end s)) x ∙ ap (λ z. tight_choice (k, s) false z) y)

pub run_stop : (k : ℕ) (s : Text) → begins_end (k, s) ≡ true → run (k, s) ≡ found InPlace (drop 1 s)
run_stop k s x = walk_halt declaration_step unended (length s) (k, s) (found InPlace (drop 1 s)) (ap (λ z. tight_choice (k, s) z (c_end s)) x)

pub run_quote : (k : ℕ) (s r : Text) → begins_end (k, s) ≡ false → c_end s ≡ cut r → has_end (k, r) ≡ true → run (k, s) ≡ cut_at s
run_quote k s r x y e =
    walk_halt declaration_step unended (length s) (k, s) (cut_at s) (ap (λ z. tight_choice (k, s) z (c_end s)) x ∙ ap (λ z. tight_choice (k, s) false z) y ∙ ap (cut_choice (k, s)) e)

pub run_no_end : (k : ℕ) (s r : Text) → begins_end (k, s) ≡ false → c_end s ≡ cut r → has_end (k, r) ≡ false → run (k, s) ≡ unended
run_no_end k s r x y e =
    walk_halt declaration_step unended (length s) (k, s) unended (ap (λ z. tight_choice (k, s) z (c_end s)) x ∙ ap (λ z. tight_choice (k, s) false z) y ∙ ap (cut_choice (k, s)) e)

pub run_none : (k : ℕ) (s : Text) → begins_end (k, s) ≡ false → c_end s ≡ endless → run (k, s) ≡ unended
run_none k s x y = walk_halt declaration_step unended (length s) (k, s) unended (ap (λ z. tight_choice (k, s) z (c_end s)) x ∙ ap (λ z. tight_choice (k, s) false z) y)

pub run_here : (k : ℕ) (u r : Text) → CUnit u r → ends_it k u ≡ true → run (k, u ++ r) ≡ found InPlace (drop 1 (u ++ r))
run_here k u r a e =
    walk_halt declaration_step unended (length (u ++ r)) (k, u ++ r) (found InPlace (drop 1 (u ++ r)))
    (ap (λ x. tight_choice (k, u ++ r) x (c_end (u ++ r))) (end_seen k u r a ∙ e))

pub run_cut : (k : ℕ) (u r : Text) → is_cut_quote u r ≡ true → has_end (k, r) ≡ true → run (k, u ++ r) ≡ cut_at (u ++ r)
run_cut k u r a e =
    walk_halt declaration_step unended (length (u ++ r)) (k, u ++ r) (cut_at (u ++ r))
    (ap (λ x. tight_choice (k, u ++ r) x (c_end (u ++ r))) (cut_not_seen k u r a) ∙ ap (λ y. tight_choice (k, u ++ r) false y) (cut_unit_complete u r a) ∙ ap (cut_choice (k, u ++ r)) e)

tight_unit : (x : Bool) (k : ℕ) (u : Text) (us : List Text) (r : Text) → ends_it k u ≡ x → CUnit u (concat us ++ r)
    → ((n : ℕ) → ends_declaration n us ≡ true → run (n, concat us ++ r) ≡ found InPlace r) → ends_declaration k (u ∷ us) ≡ true → run (k, u ++ (concat us ++ r)) ≡ found InPlace r
tight_unit true k u us r ex a ih e =
    let l = ends_here k u us ex e in run_here k u (concat us ++ r) a ex ∙ ap (λ t. found InPlace (drop 1 (t ++ (concat us ++ r)))) l.unit ∙ ap (λ vs. found InPlace (concat vs ++ r)) l.alone
tight_unit false k u us r ex a ih e = run_on k u (concat us ++ r) a ex ∙ ih (braces_after k u) (sym (ends_later k u us ex) ∙ e)

-- a declaration with its end
pub run_complete : (us : List Text) (k : ℕ) (r : Text) → CUnits us r → ends_declaration k us ≡ true → run (k, concat us ++ r) ≡ found InPlace r
run_complete [] k r a e = absurd (cc)
run_complete (u ∷ us) k r a e =
    ap (λ t. run (k, t)) (append_assoc u (concat us) r) ∙ tight_unit (ends_it k u) k u us r refl a.0 (λ n p. run_complete us n r a.1 p) e

run_until_cut : (x : Bool) (k : ℕ) (u : Text) (us : List Text) (quote : Text) (more : List Text) (t q : Text) → ends_it k u ≡ x → CUnit u t
    → ((n : ℕ) → ends_declaration n (us ++ quote ∷ more) ≡ true → run (n, t) ≡ cut_at q) → ends_declaration k (u ∷ us ++ quote ∷ more) ≡ true → run (k, u ++ t) ≡ cut_at q
run_until_cut true k u us quote more t q ex a ih e = absurd (go us ((ends_here k u (us ++ quote ∷ more) ex e).alone))
  where
    go : (us : List Text) → us ++ quote ∷ more ≡ [] → ⊥
    go [] p = cc
    go (v ∷ vs) p = cc
run_until_cut false k u us quote more t q ex a ih e = run_on k u t a ex ∙ ih (braces_after k u) (sym (ends_later k u (us ++ quote ∷ more) ex) ∙ e)

-- a declaration with its end, and in it a quote without its own
pub run_cut_complete : (units : List Text) (k : ℕ) (quote : Text) (more : List Text) (r : Text) → CUnits units (quote ++ (concat more ++ r)) → is_cut_quote quote (concat more ++ r) ≡ true
    → LooseUnits more r → ends_declaration k (units ++ quote ∷ more) ≡ true → run (k, concat units ++ (quote ++ (concat more ++ r))) ≡ cut_at (quote ++ (concat more ++ r))
run_cut_complete [] k quote more r a q l e =
    let later = sym (ends_later k quote more (cut_no_end k quote (concat more ++ r) q)) ∙ e in
    let same = subst (λ n. ends_declaration n more ≡ true) (cut_stays k quote (concat more ++ r) q) later in
    run_cut k quote (concat more ++ r) q (has_end_complete more k r l same)
run_cut_complete (u ∷ us) k quote more r a q l e =
    let t = concat us ++ (quote ++ (concat more ++ r)) in
    ap (λ x. run (k, x)) (append_assoc u (concat us) (quote ++ (concat more ++ r)))
    ∙ run_until_cut (ends_it k u) k u us quote more t (quote ++ (concat more ++ r)) refl a.0 (λ n p. run_cut_complete us n quote more r a.1 q l p) e

pub record TightEnds (k : ℕ) (text : Text) (kind : PieceKind) (rest : Text) : Type 0 where
  pub same : kind ≡ InPlace
  pub units : List Text
  pub whole : text ≡ concat units ++ rest
  pub are : CUnits units rest
  pub ends : ends_declaration k units ≡ true

pub record CutEnds (k : ℕ) (text at : Text) : Type 0 where
  pub units : List Text
  pub quote : Text
  pub more : List Text
  pub rest : Text
  pub whole : text ≡ concat units ++ at
  pub are : CUnits units at
  pub split : at ≡ quote ++ (concat more ++ rest)
  pub is_cut : is_cut_quote quote (concat more ++ rest) ≡ true
  pub loose : LooseUnits more rest
  pub ends : ends_declaration k (units ++ quote ∷ more) ≡ true

abbrev pub RunEnds : ℕ → Text → Found → Type 0
RunEnds k text (found kind rest) = TightEnds k text kind rest
RunEnds k text (cut_at at) = CutEnds k text at
RunEnds k text unended = Unit {0}

run_more : (f : Found) (k n : ℕ) (s u t : Text) → s ≡ u ++ t → ends_it k u ≡ false → n ≡ braces_after k u → CUnit u t → RunEnds n t f → RunEnds k s f
run_more (found kind rest) k n s u t w x m a l =
    record {
      same = l.same;
      units = u ∷ l.units;
      whole = unit_then s u t (concat l.units) rest w l.whole;
      are = (subst (CUnit u) l.whole a, l.are);
      ends = ends_later k u l.units x ∙ subst (λ z. ends_declaration z l.units ≡ true) m l.ends;
    }
run_more (cut_at at) k n s u t w x m a l =
    record {
      units = u ∷ l.units;
      quote = l.quote;
      more = l.more;
      rest = l.rest;
      whole = unit_then s u t (concat l.units) at w l.whole;
      are = (subst (CUnit u) l.whole a, l.are);
      split = l.split;
      is_cut = l.is_cut;
      loose = l.loose;
      ends = ends_later k u (l.units ++ l.quote ∷ l.more) x ∙ subst (λ z. ends_declaration z (l.units ++ l.quote ∷ l.more) ≡ true) m l.ends;
    }
run_more unended k n s u t w x m a l = tt

run_at_cut : (z : Bool) (n k : ℕ) (s r : Text) (f : Found) → c_end s ≡ cut r → has_end (k, r) ≡ z
    → ◌≡◌ {A = Found} (elim (cut_choice (k, s) z) [ on t ↦ walk declaration_step unended n t | halt r ↦ r ]) f → RunEnds k s f
run_at_cut true n k s r f ey ez e =
    let h = cut_unit_sound s r ey in
    let l = has_end_sound k r ez in
    let is_cut = subst (λ t. is_cut_quote h.unit t ≡ true) l.whole h.is in
    let same = sym (cut_stays k h.unit r h.is) in
    let there : CutEnds k s s = record {
      units = [];
      quote = h.unit;
      more = l.units;
      rest = l.rest;
      whole = refl;
      are = tt;
      split = h.whole ∙ ap (λ t. h.unit ++ t) l.whole;
      is_cut = is_cut;
      loose = l.are;
      ends = ends_later k h.unit l.units (cut_no_end k h.unit r h.is) ∙ subst (λ z. ends_declaration z l.units ≡ true) same l.ends;
    } in
    subst (RunEnds k s) e there
run_at_cut false n k s r f ey ez e = subst (RunEnds k s) e tt

run_sound_step : (n k : ℕ) (s : Text) (f : Found) (x : Bool) (y : Behind) → begins_end (k, s) ≡ x → c_end s ≡ y
    → ((m : ℕ) (t : Text) → length t < length s → walk declaration_step unended n (m, t) ≡ f → RunEnds m t f)
    → ◌≡◌ {A = Found} (elim (tight_choice (k, s) x y) [ on t ↦ walk declaration_step unended n t | halt r ↦ r ]) f → RunEnds k s f
run_sound_step n k s f true y ex ey ih e =
    let h = both (begins_semicolon s) (k == 0) ex in
    let there : TightEnds k s InPlace (drop 1 s) = record {
      same = refl;
      units = (semicolon ∷ []) ∷ [];
      whole = semicolon_first s h.0;
      are = (c.single (semicolon ∷ []) (drop 1 s) refl, tt);
      ends = ends_alone k h.1;
    } in
    subst (RunEnds k s) e there
run_sound_step n k s f false (passed t) ex ey ih e =
    let h = c_sound s t ey in
    let x = sym (end_seen k h.unit t h.is) ∙ ap (λ z. begins_end (k, z)) (sym h.whole) ∙ ex in
    let m = ap (λ z. braces_behind k z) h.whole ∙ braces_seen k h.unit t h.is in
    run_more f k (braces_behind k s) s h.unit t h.whole x m h.is (ih (braces_behind k s) t (passed_shorter s t ey) e)
run_sound_step n k s f false (cut t) ex ey ih e = run_at_cut (has_end (k, t)) n k s t f ey refl e
run_sound_step n k s f false endless ex ey ih e = subst (RunEnds k s) e tt

run_up_to : (n k : ℕ) (s : Text) (f : Found) → length s < n → walk declaration_step unended n (k, s) ≡ f → RunEnds k s f
run_up_to zero k s f h e = absurd (omega arith)
run_up_to (suc n) k s f h e = run_sound_step n k s f (begins_end (k, s)) (c_end s) refl refl (λ m t d q. run_up_to n m t f (omega arith) q) e

pub run_sound : (k : ℕ) (s : Text) (f : Found) → run (k, s) ≡ f → RunEnds k s f
run_sound k s f e = run_up_to (suc (length s)) k s f (omega arith) e
