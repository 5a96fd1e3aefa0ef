-- The computed tree and the computed stop are those of the definition.
use Rattle.std.proofs.Common.{◌≡◌, ℕ, zero, suc, ◌+◌, ◌≤◌, Bool, true, false, List, [], ◌∷◌, ◌++◌, length, take, Option, Some, None, Ok, Err, refl, ◌⊎◌, ◌↔◌, inl, inr, ap, sym, ◌∙◌, subst, arith, length-append, append_assoc}
use Rattle.std.proofs.lemmas.List.{append-nil, take-append-le}
use Rattle.std.proofs.Math.Seq.{take-append_seam, take-length}
use Rattle.std.proofs.Math.Dec.{leb}
use Rattle.std.proofs.lemmas.Bool.{leb-true, leb-false}
use Rattle.ec_base.specs.declared.fault.FaultKind.TheVariants.{F7}
use Rattle.ec_base.specs.declared.fault.LimitKind.TheVariants.{L3}
use Rattle.ec_base.specs.declared.stop.Stop.{Stop}
use Rattle.ec_base.specs.declared.stop.Stop.TheVariants.{Refused, Limit}
use Rattle.ec_ctypes.specs.trees.Tokens.{TokenData}
use Rattle.ec_ctypes.specs.trees.Units.{UnitData}
use Rattle.ec_language.specs.Productions.{Placed, placed, unit}
use Rattle.ec_language.specs.Grammar.{PlacedTokens, DerivesWithin, FrontWithin}
use Rattle.ec_language.specs.Syntax.{EndsOnce, limits, AllFit, IsDead, IsTooDeep, TreeOrStop, tree, dead, too_deep}
use Rattle.ec_language.specs.ReadSyntax.{IsAmong, fits, unreached, stop_at, first_stop}
use Rattle.ec_language.specs.SyntaxAnswer.{trees_of, syntax_stop, tree_or_stop, read_syntax}
use Rattle.ec_language.proofs.Decided.{tree_derived, derived_tree, fits_front, front_fits, goes_on_front, front_goes_on}
use Rattle.ec_language.proofs.Prefixes.{front_of_whole}
use Rattle.ec_language.proofs.TokenEnds.{whole_front}

-- ---- at one token

not_true : (b : Bool) → (b ≡ true → ⊥) → b ≡ false
not_true true f = absurd (f refl)
not_true false f = refl

-- the answers of the two tests, and the stop
abbrev pub Stops : PlacedTokens → Placed → Option Stop → Type 0
Stops u t answer =
    ((fits limits unit u ≡ true) × (answer ≡ None))
    ⊎ (((fits limits unit u ≡ false) × (fits (unreached u) unit u ≡ true) × (answer ≡ Some (Limit L3)))
    ⊎ ((fits limits unit u ≡ false) × (fits (unreached u) unit u ≡ false) × (answer ≡ Some (Refused F7 t.token.line))))

stops : (u : PlacedTokens) (t : Placed) → Stops u t (stop_at limits u t)
stops u t = go (fits limits unit u) refl (fits (unreached u) unit u) refl
  where
    go : (a : Bool) → fits limits unit u ≡ a → (b : Bool) → fits (unreached u) unit u ≡ b → Stops u t (elim a [ true ↦ None | false ↦ elim b [ true ↦ Some (Limit L3) | false ↦ Some (Refused F7 t.token.line) ] ])
    go true e b f = inl (e, refl)
    go false e true f = inr (inl (e, f, refl))
    go false e false f = inr (inr (e, f, refl))

-- ---- along the tokens

one_more_fits : (before : PlacedTokens) (t : Placed) → AllFit before → FrontWithin limits unit (before ++ t ∷ []) → AllFit (before ++ t ∷ [])
one_more_fits before t f h n le = go (leb n (length before)) refl
  where
    size : length (before ++ t ∷ []) ≡ length before + 1
    size = length-append before (t ∷ [])

    all : n ≡ length (before ++ t ∷ []) → take n (before ++ t ∷ []) ≡ before ++ t ∷ []
    all e = ap (λ m. take m (before ++ t ∷ [])) e ∙ take-length (before ++ t ∷ [])

    go : (b : Bool) → leb n (length before) ≡ b → FrontWithin limits unit (take n (before ++ t ∷ []))
    go true e = let l = leb-true n (length before) e in subst (FrontWithin limits unit) (sym (take-append-le n before (t ∷ []) l)) (f n l)
    go false e = let l = leb-false n (length before) e in subst (FrontWithin limits unit) (sym (all (omega (arith, size, l, le)))) h

begun_fits : (before after : PlacedTokens) → AllFit (before ++ after) → FrontWithin limits unit before
begun_fits before after f =
    let e = length-append before after in
    subst (FrontWithin limits unit) (take-append_seam before after) (f (length before) (omega (arith, e)))

next : (before : PlacedTokens) (t : Placed) (after : PlacedTokens) → (before ++ t ∷ []) ++ after ≡ before ++ t ∷ after
next before t after = append_assoc before (t ∷ []) after

-- the stop at its token, or none up to the end
abbrev pub Stopped : PlacedTokens → Stop → Type 0
Stopped w stop = ((t : Placed) × IsDead w t × (stop ≡ Refused F7 t.token.line)) ⊎ ((t : Placed) × IsTooDeep w t × (stop ≡ Limit L3))

abbrev Outcome : PlacedTokens → Option Stop → Type 0
Outcome w None = AllFit w
Outcome w (Some stop) = Stopped w stop

outcome : (before after : PlacedTokens) → AllFit before → Outcome (before ++ after) (first_stop limits before after)
outcome before [] f = subst AllFit (sym (append-nil before)) f
outcome before (t ∷ after) f = go (stop_at limits (before ++ t ∷ []) t) (stops (before ++ t ∷ []) t) (outcome (before ++ t ∷ []) after)
  where
    u : PlacedTokens
    u = before ++ t ∷ []

    unfit : fits limits unit u ≡ false → FrontWithin limits unit u → ⊥
    unfit e h = absurd (let k : false ≡ true = sym e ∙ front_fits limits unit u h in cc)

    go : (answer : Option Stop) → Stops u t answer → (AllFit u → Outcome (u ++ after) (first_stop limits u after)) → Outcome (before ++ t ∷ after) (elim answer [ Some stop ↦ Some stop | None ↦ first_stop limits u after ])
    go None (inl h) again = subst (λ w. Outcome w (first_stop limits u after)) (next before t after) (again (one_more_fits before t f (fits_front limits unit u h.0)))
    go None (inr (inl h)) again = absurd (let k = h.2 in cc)
    go None (inr (inr h)) again = absurd (let k = h.2 in cc)
    go (Some stop) (inl h) again = absurd (let k = h.1 in cc)
    go (Some stop) (inr (inl h)) again =
        inr (t, record { before = before; after = after; whole = refl; fit = f; goes_on = goes_on_front unit u h.1; passed = unfit h.0 }, (let k = h.2 in cc))
    go (Some stop) (inr (inr h)) again =
        inl (t, record { before = before; after = after; whole = refl; fit = f; dead = λ g. absurd (let k : false ≡ true = sym h.1 ∙ front_goes_on unit u g in cc) }, (let k = h.2 in cc))

passes : (u : PlacedTokens) (t : Placed) → fits limits unit u ≡ true → stop_at limits u t ≡ None
passes u t e = go (stop_at limits u t) (stops u t)
  where
    go : (answer : Option Stop) → Stops u t answer → answer ≡ None
    go answer (inl h) = h.1
    go answer (inr (inl h)) = absurd (let k : true ≡ false = sym e ∙ h.0 in cc)
    go answer (inr (inr h)) = absurd (let k : true ≡ false = sym e ∙ h.0 in cc)

-- what follows where the token is no stop
goes_on_at : (before : PlacedTokens) (t : Placed) (after : PlacedTokens) (answer : Option Stop) → stop_at limits (before ++ t ∷ []) t ≡ answer → first_stop limits before (t ∷ after) ≡ elim answer [ Some stop ↦ Some stop | None ↦ first_stop limits (before ++ t ∷ []) after ]
goes_on_at before t after answer e = ap (λ a. elim a [ Some stop ↦ Some stop | None ↦ first_stop limits (before ++ t ∷ []) after ]) e

walk : (before middle rest : PlacedTokens) → AllFit (before ++ middle) → first_stop limits before (middle ++ rest) ≡ first_stop limits (before ++ middle) rest
walk before [] rest f = ap (λ q. first_stop limits q rest) (sym (append-nil before))
walk before (t ∷ middle) rest f =
    let u = before ++ t ∷ [] in
    let g : AllFit (u ++ middle) = subst AllFit (sym (next before t middle)) f in
    goes_on_at before t (middle ++ rest) None (passes u t (front_fits limits unit u (begun_fits u middle g)))
    ∙ walk u middle rest g
    ∙ ap (λ q. first_stop limits q rest) (next before t middle)

walked : (w before : PlacedTokens) (t : Placed) (after : PlacedTokens) → w ≡ before ++ t ∷ after → AllFit before → (stop : Stop) → stop_at limits (before ++ t ∷ []) t ≡ Some stop → first_stop limits [] w ≡ Some stop
walked w before t after e f stop s = ap (first_stop limits []) e ∙ walk [] before (t ∷ after) f ∙ goes_on_at before t after (Some stop) s

stop_dead : (w : PlacedTokens) (t : Placed) → IsDead w t → first_stop limits [] w ≡ Some (Refused F7 t.token.line)
stop_dead w t d = walked w d.before t d.after d.whole d.fit (Refused F7 t.token.line) (go (stop_at limits (d.before ++ t ∷ []) t) (stops (d.before ++ t ∷ []) t))
  where
    go : (answer : Option Stop) → Stops (d.before ++ t ∷ []) t answer → answer ≡ Some (Refused F7 t.token.line)
    go answer (inl h) = absurd (d.dead (limits, fits_front limits unit (d.before ++ t ∷ []) h.0))
    go answer (inr (inl h)) = absurd (d.dead (goes_on_front unit (d.before ++ t ∷ []) h.1))
    go answer (inr (inr h)) = h.2

stop_too_deep : (w : PlacedTokens) (t : Placed) → IsTooDeep w t → first_stop limits [] w ≡ Some (Limit L3)
stop_too_deep w t d = walked w d.before t d.after d.whole d.fit (Limit L3) (go (stop_at limits (d.before ++ t ∷ []) t) (stops (d.before ++ t ∷ []) t))
  where
    go : (answer : Option Stop) → Stops (d.before ++ t ∷ []) t answer → answer ≡ Some (Limit L3)
    go answer (inl h) = absurd (d.passed (fits_front limits unit (d.before ++ t ∷ []) h.0))
    go answer (inr (inl h)) = h.2
    go answer (inr (inr h)) = absurd (let k : false ≡ true = sym h.1 ∙ front_goes_on unit (d.before ++ t ∷ []) d.goes_on in cc)

-- ---- the definition

none_fits : AllFit []
none_fits n le = fits_front limits unit (take n []) (go n le)
  where
    go : (n : ℕ) → n ≤ 0 → fits limits unit (take n []) ≡ true
    go zero le = refl
    go (suc n) le = absurd (omega arith)

pub tree_exact : (ts : List TokenData) (u : UnitData) → TreeOrStop ts (Ok u) ↔ IsAmong u (trees_of ts)
tree_exact ts u = (there, λ h. tree u (tree_derived limits unit (placed ts) u h))
  where
    there : TreeOrStop ts (Ok u) → IsAmong u (trees_of ts)
    there (tree v d) = derived_tree limits unit (placed ts) v d

stopped : (ts : List TokenData) (stop : Stop) → Stopped (placed ts) stop → TreeOrStop ts (Err stop)
stopped ts stop (inl h) = subst (λ e. TreeOrStop ts (Err e)) (sym h.2) (dead h.0 h.1)
stopped ts stop (inr h) = subst (λ e. TreeOrStop ts (Err e)) (sym h.2) (too_deep h.0 h.1)

computed : (ts : List TokenData) (stop : Stop) → TreeOrStop ts (Err stop) → syntax_stop ts ≡ Some stop
computed ts stop (dead t d) = stop_dead (placed ts) t d
computed ts stop (too_deep t d) = stop_too_deep (placed ts) t d

pub stop_exact : (ts : List TokenData) (stop : Stop) → TreeOrStop ts (Err stop) ↔ (syntax_stop ts ≡ Some stop)
stop_exact ts stop = (computed ts stop, back)
  where
    back : syntax_stop ts ≡ Some stop → TreeOrStop ts (Err stop)
    back e = stopped ts stop (subst (Outcome (placed ts)) e (outcome [] (placed ts) none_fits))

-- A list with a tree has no stop.
pub tree_or_else : (ts : List TokenData) (u : UnitData) (stop : Stop) → TreeOrStop ts (Ok u) → TreeOrStop ts (Err stop) → ⊥
tree_or_else ts u stop (tree v d) (dead t x) = x.dead (limits, front_of_whole limits unit (x.before ++ t ∷ []) x.after v (subst (λ w. DerivesWithin limits unit w v) (x.whole ∙ sym (next x.before t x.after)) d))
tree_or_else ts u stop (tree v d) (too_deep t x) = x.passed (front_of_whole limits unit (x.before ++ t ∷ []) x.after v (subst (λ w. DerivesWithin limits unit w v) (x.whole ∙ sym (next x.before t x.after)) d))

pub answered : (ts : List TokenData) → EndsOnce ts → TreeOrStop ts (read_syntax ts)
answered ts e = go (trees_of ts) refl (syntax_stop ts) refl
  where
    go : (us : List UnitData) → trees_of ts ≡ us → (stop : Option Stop) → syntax_stop ts ≡ stop → TreeOrStop ts (tree_or_stop us stop)
    go (u ∷ us) t stop s = (tree_exact ts u).1 (subst (IsAmong u) (sym t) (inl refl))
    go [] t (Some stop) s = (stop_exact ts stop).1 s
    go [] t None s =
        let fit : AllFit (placed ts) = subst (Outcome (placed ts)) s (outcome [] (placed ts) none_fits) in
        let whole : FrontWithin limits unit (placed ts) = begun_fits (placed ts) [] (subst AllFit (sym (append-nil (placed ts))) fit) in
        let d = whole_front limits ts e whole in
        absurd (subst (IsAmong d.0) t (derived_tree limits unit (placed ts) d.0 d.1))
