-- How many first types structs have behind written C.
use Rattle.std.proofs.Common.{◌≡◌, ◌≢◌, ◌≤◌, ℕ, zero, suc, ◌+◌, ◌*◌, ◌==◌, Bool, true, false, List, [], ◌∷◌, length, refl, sym, ap, subst, ◌∙◌, Option, Some, None, slice_get, is_some, Result, Ok, Err, arith, if◌then◌else◌}
use Rattle.std.proofs.lemmas.Bool.{eqb-false}
use Rattle.ec_base.specs.declared.fault.FaultKind.{FaultKind}
use Rattle.ec_base.specs.declared.fault.LimitKind.TheVariants.{L2}
use Rattle.ec_base.specs.declared.stop.Stop.{Stop}
use Rattle.ec_base.specs.declared.stop.Stop.TheVariants.{Limit}
use Rattle.ec_ctypes.specs.declared.text.piece.Piece.{Piece}
use Rattle.ec_ctypes.specs.trees.Tokens.{TokData, TokenData, end_token}
use Rattle.ec_ctypes.specs.trees.Types.{TyData}
use Rattle.ec_ctypes.specs.trees.Stmts.{StmtList}
use Rattle.ec_ctypes.specs.trees.Embedded.{EmbData}
use Rattle.ec_ctypes.specs.trees.Units.{ParamData, FuncData, TopData, include_top, directive_top, decl_top, func_top, mark_top, UnitData}
use Rattle.ec_language.specs.Letters.{Text}
use Rattle.ec_language.specs.Tokens.{Part, join_strings, without_head, token, with_token, max_tokens, part_within, numbered_within, Tokens}
use Rattle.ec_language.specs.Syntax.{TreeOrStop}
use Rattle.ec_typing_defs.specs.Answers.{checked}
use Rattle.ec_typing_defs.specs.Worlds.{Place, EntryData}
use Rattle.ec_typing_defs.specs.Programs.{declare_param, param, params, begin_function, know_function, body_rule, function_rule, directive_rule, top_rule, tops_rule, main_rule, unit_rule, start}
use Rattle.ec_sim_world_laws.proofs.closing_lemmas.Lists.{none_not, some_is}
use Rattle.ec_sim_world_laws.proofs.known_lemmas.SitesIdle.{Idle, demand_idle, free_name_idle}
use Rattle.ec_sim_world_laws.proofs.known_lemmas.SitesChecks.{result_idle, param_type_idle}
use Rattle.ec_sim_world_laws.proofs.known_lemmas.SitesOperands.{elements_idle}
use Rattle.ec_sim_program_laws.specs.types.Flat.{ParamsAreFlat, BodyIsFlat, BaseIsFlat, DimsAreFlat, TopIsFlat, TopsAreFlat}
use Rattle.ec_sim_program_laws.specs.types.Types.{max_nesting, StructsAreShallow}
use Rattle.ec_sim_program_laws.proofs.flat_lemmas.Counts.{base_structs, dims_structs, body_structs, param_structs, params_structs, top_structs, tops_structs}
use Rattle.ec_sim_program_laws.proofs.flat_lemmas.CountedTrees.{tree_structs}
use Rattle.ec_sim_program_laws.proofs.flat_lemmas.FirstRules.{AreUpTo, Adds, chained, within, nothing, idle, then_idle, pure_adds, asked, same_adds, place_adds, enter_adds, leave_adds, declare_adds, number_adds}
use Rattle.ec_sim_program_laws.proofs.flat_lemmas.FirstExpressions.{two, base_adds, lengths_add}
use Rattle.ec_sim_program_laws.proofs.flat_lemmas.FirstEmbedded.{AllPlainly, embedded_adds}
use Rattle.ec_sim_program_laws.proofs.flat_lemmas.FirstStatements.{declaration_adds, statements_add}

-- ---- parameters

declare_param_adds : (n : ℕ) (at : Place) (defined : Bool) (name : Option Text) (k : ℕ) (t : Option TyData) → Adds n n (declare_param at defined name k t)
declare_param_adds n at defined None k t = idle (demand_idle _ _ _)
declare_param_adds n at defined (Some name) k t = declare_adds at name _

one_less : (n a b : ℕ) → (n + a) + b ≤ n + suc (a + b)
one_less n a b = omega arith

param_adds : (n : ℕ) (at : Place) (defined : Bool) (q : ParamData) → BaseIsFlat q.base → DimsAreFlat q.dims → Adds n (n + param_structs q) (param at defined q)
param_adds n at defined q f g =
    within
    (chained (base_adds n at q.base f) (λ b. chained (lengths_add (n + base_structs q.base) at q.dims g) (λ sizes. chained (idle (elements_idle at b q.stars sizes)) (λ u. chained (idle (param_type_idle at b q.stars sizes)) (λ t.
    asked _ _ (λ known. chained (declare_param_adds (n + base_structs q.base + dims_structs q.dims) at defined q.name _ t) (λ a. chained (number_adds _) (λ e. pure_adds _))))))))
    (one_less n (base_structs q.base) (dims_structs q.dims))

params_add : (n : ℕ) (at : Place) (defined : Bool) (qs : List ParamData) → ParamsAreFlat qs → Adds n (n + params_structs qs) (params at defined qs)
params_add n at defined [] f = nothing (pure_adds _)
params_add n at defined (q ∷ qs) f =
    within (chained (param_adds n at defined q f.0 f.2) (λ t. chained (params_add (n + param_structs q) at defined qs f.3) (λ ts. pure_adds _))) (two n (param_structs q) (params_structs qs))

-- ---- functions

begin_adds : (n : ℕ) (name : Text) (entry : EntryData) → Adds n n (begin_function name entry)
unfolding begin_function
begin_adds n name entry = same_adds _ (λ w. refl)

know_adds : (n : ℕ) (name : Text) (entry : EntryData) → Adds n n (know_function name entry)
unfolding know_function
know_adds n name entry = same_adds _ (λ w. refl)

body_adds : (n : ℕ) (es : List EmbData) (r : Option TyData) (b : Option StmtList) → AllPlainly es → BodyIsFlat b → Adds n (n + body_structs b) (body_rule es r b)
body_adds n es r None p f = nothing (pure_adds _)
body_adds n es r (Some ss) p f = chained (same_adds _ (λ w. refl)) (λ a. statements_add n _ ss p f)

three : (n a b c : ℕ) → (n + a + b) + c ≤ n + (a + (b + c))
three n a b c = omega arith

function_adds : (n : ℕ) (es : List EmbData) (f : FuncData) → AllPlainly es → TopIsFlat (func_top f) → Adds n (n + top_structs (func_top f)) (function_rule es f)
function_adds n es f p g =
    within
    (chained (place_adds f.line) (λ at. chained (base_adds n at f.base g.0) (λ b. chained (idle (result_idle at _)) (λ r. asked _ _ (λ known. asked _ _ (λ before. chained (begin_adds (n + base_structs f.base) f.name _) (λ a2. chained (idle (free_name_idle at f.name)) (λ a3.
    chained (number_adds _) (λ a4. chained enter_adds (λ a5. chained (params_add (n + base_structs f.base) at (is_some f.body) f.params g.1) (λ ps. chained (know_adds (n + base_structs f.base + params_structs f.params) f.name _) (λ a6. chained (idle (demand_idle _ _ _)) (λ a7.
    chained (body_adds (n + base_structs f.base + params_structs f.params) es r f.body p g.2) (λ a8. leave_adds))))))))))))))
    (three n (base_structs f.base) (params_structs f.params) (body_structs f.body))

-- ---- programs

directive_adds : (n : ℕ) (es : List EmbData) (k : ℕ) (e : Option EmbData) → AllPlainly es → slice_get es k ≡ e → Adds n n (directive_rule es k e)
directive_adds n es k None p is = pure_adds _
directive_adds n es k (Some e) p is = chained (place_adds e.line) (λ at. embedded_adds n es false false [] at k e (p k e is))

top_adds : (n : ℕ) (es : List EmbData) (t : TopData) → AllPlainly es → TopIsFlat t → Adds n (n + top_structs t) (top_rule es t)
top_adds n es (include_top bytes) p f = nothing (pure_adds _)
top_adds n es (directive_top k) p f = nothing (directive_adds n es k (slice_get es k) p refl)
top_adds n es (decl_top d) p f = declaration_adds n true d f
top_adds n es (func_top g) p f = function_adds n es g p f
top_adds n es (mark_top opens line) p f = nothing (pure_adds _)

tops_add : (n : ℕ) (es : List EmbData) (ts : List TopData) → AllPlainly es → TopsAreFlat ts → Adds n (n + tops_structs ts) (tops_rule es ts)
tops_add n es [] p f = nothing (pure_adds _)
tops_add n es (t ∷ ts) p f = within (chained (top_adds n es t p f.0) (λ a. tops_add (n + top_structs t) es ts p f.1)) (two n (top_structs t) (tops_structs ts))

main_idle : (ts : List TopData) (at : Place) → Idle (main_rule ts at)
unfolding main_rule
main_idle ts at = demand_idle _ _ _

unit_adds : (n : ℕ) (u : UnitData) → AllPlainly u.embs → TopsAreFlat u.tops → Adds n (n + tops_structs u.tops) (unit_rule u)
unit_adds n u p f = chained (tops_add n u.embs u.tops p f) (λ a. then_idle (place_adds u.last) (λ at. main_idle u.tops at))

-- the structs of sqlca
start_up : (u : UnitData) → AreUpTo 2 (start true u).structs
start_up u zero info e = subst (λ i. length i.first ≤ 66 * 2) (some_is e) (omega arith)
start_up u (suc zero) info e = subst (λ i. length i.first ≤ 66 * 2) (some_is e) (omega arith)
start_up u (suc (suc k)) info e = none_not e

-- ---- tokens

rest_ok : (t : TokenData) (r : Result (List TokenData) Stop) (ts : List TokenData) → with_token t r ≡ Ok ts → (us : List TokenData) × (r ≡ Ok us) × (ts ≡ t ∷ us)
rest_ok t (Ok us) ts e = let same : t ∷ us ≡ ts = cc in (us, refl, sym same)
rest_ok t (Err stop) ts e = absurd (cc)

not_full : (place most : ℕ) → (place == most) ≡ false → place ≤ most → suc place ≤ most
not_full place most e h = let d : place ≢ most = eqb-false place most e in omega (arith, d, h)

one_more : (t : TokenData) (ts us : List TokenData) (place most : ℕ) → ts ≡ t ∷ us → length us + suc place ≤ suc most → length ts + place ≤ suc most
one_more t ts us place most e h = let l : length ts ≡ suc (length us) = ap length e in omega (arith, l, h)

few_numbered : (most place last : ℕ) (parts : List Part) (ts : List TokenData) → place ≤ most → numbered_within (Some most) place last parts ≡ Ok ts → length ts + place ≤ suc most
few_numbered most place last [] ts h e =
    let same : token end_token last place ∷ [] ≡ ts = cc in one_more (token end_token last place) ts [] place most (sym same) (omega (arith, h))
few_numbered most place last (p ∷ parts) ts h e = on p.tok e (few_numbered most (suc place) last parts)
  where
    on : (k : Result TokData FaultKind) → part_within (Some most) place p.line k (numbered_within (Some most) (suc place) last parts) ≡ Ok ts
        → ((us : List TokenData) → suc place ≤ most → numbered_within (Some most) (suc place) last parts ≡ Ok us → length us + suc place ≤ suc most)
        → length ts + place ≤ suc most
    on (Err kind) e ih = absurd (cc)
    on (Ok k) e ih = test (place == most) refl e
      where
        test : (full : Bool) → (place == most) ≡ full → (if full then Err (Limit L2) else with_token (token k p.line place) (numbered_within (Some most) (suc place) last parts)) ≡ Ok ts → length ts + place ≤ suc most
        test true f e = absurd (cc)
        test false f e =
            let r = rest_ok (token k p.line place) (numbered_within (Some most) (suc place) last parts) ts e in
            one_more (token k p.line place) ts r.0 place most r.2 (ih r.0 (not_full place most f h) r.1)

few_tokens : (pieces : List Piece) (ts : List TokenData) → Tokens true pieces ts → length ts ≤ suc max_tokens
few_tokens pieces ts are =
    let h : length ts + 0 ≤ suc max_tokens = few_numbered max_tokens 0 are.1 (without_head true (join_strings are.0)) ts (omega arith) (sym are.3) in
    omega (arith, h)

-- ---- texts

none_plainly : (es : List EmbData) → es ≡ [] → AllPlainly es
none_plainly es e n x is = none_not (sym (ap (λ l. slice_get l n) e) ∙ is)

below : (n m k : ℕ) → n ≤ 66 * (2 + m) → m ≤ k → k ≤ suc max_tokens → n ≤ max_nesting
below n m k h i j = omega (arith, h, i, j)

-- with nothing embedded, of the items of a tree that is read
pub tree_is_shallow : (pieces : List Piece) (ts : List TokenData) (v u : UnitData) → Tokens true pieces ts → TreeOrStop ts (Ok v) → u.tops ≡ v.tops → u.embs ≡ [] → TopsAreFlat u.tops → StructsAreShallow (checked true u).world
tree_is_shallow pieces ts v u read derived same none flat k info e =
    below (length info.first) (tops_structs u.tops) (length ts) ((unit_adds 2 u (none_plainly u.embs none) flat).adds (start true u) (start_up u) k info e)
    (subst (λ x. tops_structs x ≤ length ts) (sym same) (tree_structs ts v derived)) (few_tokens pieces ts read)
