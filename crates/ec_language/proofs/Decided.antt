-- The trees of a list, and whether it is a front, within limits or without, are decided by the functions that compute them.
use Rattle.std.proofs.Common.{◌≡◌, ◌+◌, ◌*◌, true, [], ◌++◌, length, refl, inl, ap, sym, ◌∙◌, subst, arith}
use Rattle.std.proofs.lemmas.List.{append-nil}
use Rattle.ec_language.specs.Productions.{Sym, Value}
use Rattle.ec_language.specs.Grammar.{PlacedTokens, Limits, no_counts, DerivesBelow, DerivesWithin, FrontWithin, Front}
use Rattle.ec_language.specs.ReadSyntax.{chain, height, IsAmong, read, is_front, whole_tree, is_empty, trees, fits, unreached}
use Rattle.ec_language.proofs.Among.{alone_holds, all_holds, among_all}
use Rattle.ec_language.proofs.Readings.{reading, sound, complete}
use Rattle.ec_language.proofs.TableTests.{all_low}
use Rattle.ec_language.proofs.Heights.{lower}
use Rattle.ec_language.proofs.Fronts.{empty_true, LowFront, low_front, lower_front, front_holds, front_passes}
use Rattle.ec_language.proofs.Limits.{widen_front}
use Rattle.ec_language.proofs.Found.{same}

height_is : (w : PlacedTokens) → chain + chain * length w ≡ height w
height_is w = omega arith

pub tree_derived : (limits : Limits) (s : Sym) (w : PlacedTokens) (v : Value s) → IsAmong v (trees limits s w) → DerivesWithin limits s w v
tree_derived limits s w v h =
    all_holds (DerivesWithin limits s w) whole_tree (read limits (height w) limits.nesting no_counts s w)
    (λ x hx y hy. alone_holds (DerivesWithin limits s w) (is_empty x.left) x.tree
    (λ e.
    let d = sound limits (height w) limits.nesting no_counts s w x hx in
    let t : w ≡ x.taken = d.1 ∙ ap (λ q. x.taken ++ q) (empty_true x.left e) ∙ append-nil x.taken in
    (height w, x.behind, subst (λ q. DerivesBelow limits (height w) limits.nesting no_counts s q x.tree x.behind) (sym t) d.0))
    y hy)
    v h

pub derived_tree : (limits : Limits) (s : Sym) (w : PlacedTokens) (v : Value s) → DerivesWithin limits s w v → IsAmong v (trees limits s w)
derived_tree limits s w v h =
    let d = lower limits h.0 chain s (all_low s) w limits.nesting no_counts v h.1 h.2 in
    let e = subst (λ n. DerivesBelow limits n limits.nesting no_counts s w v h.1) (height_is w) d in
    let x = complete limits (height w) limits.nesting no_counts s w [] v h.1 e in
    among_all whole_tree (reading v w [] h.1) (read limits (height w) limits.nesting no_counts s w) v
    (subst (λ q. IsAmong (reading v w [] h.1) (read limits (height w) limits.nesting no_counts s q)) (append-nil w) x) (inl refl)

test_is : (limits : Limits) (s : Sym) (u : PlacedTokens) → fits limits s u ≡ is_front limits (height u) limits.nesting no_counts s u
test_is limits s u = ap (λ e. e.front) (same limits (height u) limits.nesting no_counts s u)

pub fits_front : (limits : Limits) (s : Sym) (u : PlacedTokens) → fits limits s u ≡ true → FrontWithin limits s u
fits_front limits s u e = (height u, low_front limits (height u) s u limits.nesting no_counts (front_holds limits (height u) limits.nesting no_counts s u (sym (test_is limits s u) ∙ e)))

low_fits : (limits : Limits) (s : Sym) (u : PlacedTokens) → LowFront limits (chain + chain * length u) limits.nesting no_counts s u → fits limits s u ≡ true
low_fits limits s u d =
    test_is limits s u ∙ front_passes limits (height u) limits.nesting no_counts s u (subst (λ n. LowFront limits n limits.nesting no_counts s u) (height_is u) d)

pub front_fits : (limits : Limits) (s : Sym) (u : PlacedTokens) → FrontWithin limits s u → fits limits s u ≡ true
front_fits limits s u h = low_fits limits s u (lower_front limits h.0 chain s (all_low s) u limits.nesting no_counts h.1)

-- ---- without limits

pub goes_on_front : (s : Sym) (u : PlacedTokens) → fits (unreached u) s u ≡ true → Front s u
goes_on_front s u e = (unreached u, fits_front (unreached u) s u e)

pub front_goes_on : (s : Sym) (u : PlacedTokens) → Front s u → fits (unreached u) s u ≡ true
front_goes_on s u h =
    let d = lower_front h.0 h.1.0 chain s (all_low s) u h.0.nesting no_counts h.1.1 in
    low_fits (unreached u) s u
    (widen_front h.0 (unreached u) (chain + chain * length u) h.0.nesting no_counts s u d (unreached u).nesting (omega (arith, height_is u)) (omega arith, omega arith))
