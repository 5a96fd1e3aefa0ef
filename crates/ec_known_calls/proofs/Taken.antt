-- Needs are compared with types one after the other.
use Rattle.std.proofs.Common.{◌≡◌, ◌∙◌, ℕ, Bool, true, false, ◌&&◌, [], ◌∷◌, ◌++◌, Option, Some, None, option_map, cond, refl, sym, ap}
use Rattle.std.specs.Option.{option_and_then}
use Rattle.ec_language.specs.Letters.{Text}
use Rattle.ec_typing_defs.specs.Formats.{NeedData, Needs, meets, meet_all, conversion, needs_within}
use Rattle.ec_known_calls.specs.Taking.{Types, taken_one, taken, met_by, conversion_needs}

pub taken-append : (ns ms : Needs) (ts : Types) → taken (ns ++ ms) ts ≡ option_and_then (taken ms) (taken ns ts)
taken-append [] ms ts = refl
taken-append (n ∷ ns) ms ts = step (taken_one n ts) (λ rest. taken-append ns ms rest)
  where
    step : (o : Option Types) → ((rest : Types) → taken (ns ++ ms) rest ≡ option_and_then (taken ms) (taken ns rest)) → option_and_then (taken (ns ++ ms)) o ≡ option_and_then (taken ms) (option_and_then (taken ns) o)
    step None h = refl
    step (Some rest) h = h rest

abbrev pub met_behind : Needs → Option Types → Bool
met_behind ms None = false
met_behind ms (Some ts) = meet_all ms ts

met_one : (n : NeedData) (ms : Needs) (ts : Types) → meet_all (n ∷ ms) ts ≡ met_behind ms (taken_one n ts)
met_one n ms [] = refl
met_one n ms (None ∷ ts) = refl
met_one n ms (Some t ∷ ts) = step (meets n t)
  where
    step : (b : Bool) → (b && meet_all ms ts) ≡ met_behind ms (cond b (Some ts) None)
    step true = refl
    step false = refl

pub meet_all-append : (ns ms : Needs) (ts : Types) → meet_all (ns ++ ms) ts ≡ met_behind ms (taken ns ts)
meet_all-append [] ms ts = refl
meet_all-append (n ∷ ns) ms ts = met_one n (ns ++ ms) ts ∙ step (taken_one n ts) (λ rest. meet_all-append ns ms rest)
  where
    step : (o : Option Types) → ((rest : Types) → meet_all (ns ++ ms) rest ≡ met_behind ms (taken ns rest)) → met_behind (ns ++ ms) o ≡ met_behind ms (option_and_then (taken ns) o)
    step None h = refl
    step (Some rest) h = h rest

-- what comes of a conversion, where this is left of the types behind its arguments
abbrev pub converted_by : ℕ → Text → Option Types → Bool
converted_by n rest None = false
converted_by n rest (Some ts) = met_by ts (needs_within n rest)

pub converted : (n : ℕ) (bs : Text) (ts : Types) (p : Needs × Text) (o : Option Types) → Some p ≡ conversion bs → o ≡ taken p.0 ts → met_by ts (conversion_needs n bs) ≡ converted_by n p.1 o
converted n bs ts p o read left = (λ i. met_by ts (option_and_then (λ q. option_map (λ more. q.0 ++ more) (needs_within n q.1)) (sym read i))) ∙ step (needs_within n p.1) o left
  where
    behind : (needs : Option Needs) → Option Types → Bool
    behind needs None = false
    behind needs (Some rest) = met_by rest needs

    same : (needs : Option Needs) (rest : Text) (o : Option Types) → behind (needs_within n rest) o ≡ converted_by n rest o
    same needs rest None = refl
    same needs rest (Some ts') = refl

    none : (o : Option Types) → false ≡ behind None o
    none None = refl
    none (Some ts') = refl

    some : (more : Needs) (o : Option Types) → met_behind more o ≡ behind (Some more) o
    some more None = refl
    some more (Some ts') = refl

    by : (needs : Option Needs) (o : Option Types) → o ≡ taken p.0 ts → met_by ts (option_map (λ more. p.0 ++ more) needs) ≡ behind needs o
    by None o left = none o
    by (Some more) o left = meet_all-append p.0 more ts ∙ ap (met_behind more) (sym left) ∙ some more o

    step : (needs : Option Needs) (o : Option Types) → o ≡ taken p.0 ts → met_by ts (option_map (λ more. p.0 ++ more) (needs_within n p.1)) ≡ converted_by n p.1 o
    step needs o left = by (needs_within n p.1) o left ∙ same needs p.1 o
