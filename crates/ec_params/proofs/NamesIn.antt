-- Names in joined references.
use Rattle.std.proofs.Common.{◌≡◌, ℕ, ◌+◌, List, [], ◌∷◌, ◌++◌, length, map, drop, refl, ap, ◌∙◌, length-append, arith}
use Rattle.ec_typing_defs.specs.statement_parts.References.{ReferenceData, References, all_names, names_in, of_all, of_input}
use Rattle.ec_ctypes.specs.declared.embedded.host.Input.{Input}
use Rattle.ec_ctypes.specs.views.Embedded.{input_view}
use Rattle.ec_params.specs.Naming.{names_among}

pub no_names : names_among [] ≡ 0
unfolding names_among
no_names = refl

pub one_more_name : (r : ReferenceData) (rs : References) → names_among (r ∷ rs) ≡ length (names_in r.value) + names_among rs
unfolding names_among
one_more_name r rs = length-append (names_in r.value) (all_names rs)

pub joined_names : (rs ss : References) → names_among (rs ++ ss) ≡ names_among rs + names_among ss
joined_names [] ss = let z = no_names in omega (arith, z)
joined_names (r ∷ rs) ss =
    let h = joined_names rs ss in
    let a = one_more_name r rs in
    let b = one_more_name r (rs ++ ss) in
    omega (arith, a, b, h)

-- one more value that is sent
pub counted_input : (xs : List Input) (i count more next whole : ℕ) (x : Input)
    → drop i xs ≡ x ∷ drop (i + 1) xs → more ≡ names_among (of_input (input_view x)) → next ≡ count + more
    → count + names_among (of_all of_input (map input_view (drop i xs))) ≡ whole
    → next + names_among (of_all of_input (map input_view (drop (i + 1) xs))) ≡ whole
counted_input xs i count more next whole x e m n h =
    let j : names_among (of_all of_input (map input_view (drop i xs))) ≡ names_among (of_input (input_view x)) + names_among (of_all of_input (map input_view (drop (i + 1) xs))) =
    ap (λ (ys : List Input). names_among (of_all of_input (map input_view ys))) e ∙ joined_names (of_input (input_view x)) (of_all of_input (map input_view (drop (i + 1) xs))) in
    omega (arith, j, m, n, h)

pub counted_all : (xs : List Input) (i count whole : ℕ) → drop i xs ≡ [] → count + names_among (of_all of_input (map input_view (drop i xs))) ≡ whole → count ≡ whole
counted_all xs i count whole e h =
    let j : names_among (of_all of_input (map input_view (drop i xs))) ≡ 0 = ap (λ (ys : List Input). names_among (of_all of_input (map input_view ys))) e ∙ no_names in
    omega (arith, j, h)

pub ruleset names_in_all = (no_names, one_more_name, joined_names)
