-- The parts of a function before its body: its result, its own name, and its parameters.
use Rattle.std.proofs.Common.{◌≡◌, ◌∙◌, ℕ, Bool, true, false, List, [], ◌∷◌, ◌++◌, length, Option, Some, None, refl, sym, ap, subst}
use Rattle.std.specs.Prelude.{is_some, ◌||◌}
use Rattle.ec_base.specs.declared.fault.FaultKind.TheVariants.{F10, F12}
use Rattle.ec_ctypes.specs.trees.Types.{TyData}
use Rattle.ec_ctypes.specs.trees.Embedded.{EmbData}
use Rattle.ec_ctypes.specs.trees.Units.{FuncData, func_top}
use Rattle.ec_typing_defs.specs.Expressions.{base}
use Rattle.ec_typing_defs.specs.Known.{is_reserved}
use Rattle.ec_typing_defs.specs.Operands.{declared_type}
use Rattle.ec_typing_defs.specs.Statements.{type_or_void}
use Rattle.ec_typing_defs.specs.Tables.{find}
use Rattle.ec_typing_defs.specs.Programs as checked
use Rattle.ec_typing_defs.specs.Programs.{result_rule, is_done, may_follow, begin_function, put_outside}
use Rattle.ec_typing_defs.specs.Worlds.{Place, place, EntryData, function, World, Out, next_number, number_as, with_name, entered, enter, leave as leave_scope, free_name, demand, change, chain as check_chain, ask as check_ask}
use Rattle.ec_resolving_defs.specs.Expressions.{base as resolved_base}
use Rattle.ec_resolving_defs.specs.Programs.{params, in_function, function_rule}
use Rattle.ec_resolving_defs.specs.Storage.{nowhere, with_site, Storage, Reached, Resolving, LibraryCall, chain, checks, ask, arrange, in_block, inside_block}
use Rattle.ec_resolving_defs.proofs.Agreeing.{base_finds}
use Rattle.ec_sim_world_laws.proofs.growth_lemmas.Rules.{demand_same}
use Rattle.ec_sim_world_laws.proofs.known_lemmas.NamesRules as names
use Rattle.ec_sim_world_laws.proofs.known_lemmas.NamesRules.{NamesStay, Staying, place_stays}
use Rattle.ec_sim_world_laws.proofs.known_lemmas.NamesExpressions.{base_stays}
use Rattle.ec_sim_world_laws.proofs.known_lemmas.NamesStatements.{result_stays}
use Rattle.ec_sim_world_laws.proofs.known_lemmas.WalkFinds.{params_find}
use Rattle.ec_sim_world_laws.specs.closing.Closing.{IsTyped}
use Rattle.ec_sim_program_laws.proofs.types_lemmas.Fits.{FitsTop}
use Rattle.ec_sim_program_laws.proofs.types_lemmas.Rules.{both_none}
use Rattle.ec_sim_program_laws.proofs.types_lemmas.Programs.{result_types}
use Rattle.ec_sim_program_laws.proofs.types_lemmas.Expressions.{atom_typed, plain_base, base_has}
use Rattle.ec_sound_defs.specs.Sound.{Signature}
use Rattle.ec_sound_expression_laws.proofs.Storing.{base_stores}
use Rattle.ec_sound_statement_laws.proofs.Scopes.{demanded}
use Rattle.ec_sound_statement_laws.proofs.Sites.{quiet_base}
use Rattle.ec_sound_program_laws.proofs.Declarations.{not_reserved}
use Rattle.ec_sound_program_laws.proofs.Runs.{Run, chained, from, checked_run, found_run}
use Rattle.ec_sound_program_laws.proofs.Typed.{checked_head, checked_behind, checked_listed, checked_rest}
use Rattle.ec_sim_program_laws.proofs.types_lemmas.Rules.{place_types}

-- ---- up to its result

abbrev pub place_of : FuncData → World → Place
place_of f w = record { number = w.places; line = f.line }

abbrev pub head : FuncData → Resolving (Option TyData)
head f = chain (checks (place f.line)) (λ at. chain (resolved_base at f.base) (λ b. checks (result_rule at (declared_type b f.stars []))))

pub head_run : (gs : List Signature) (calls : List LibraryCall) (written : Bool) (n a : ℕ) (f : FuncData) → FitsTop (func_top f) → Run gs calls written n a a (λ r. r) (λ w. Unit {0}) (λ w r. IsTyped r) (head f) (checked_head f)
head_run gs calls written n a f h =
    chained gs calls written _ (checked_run gs calls written (place_stays f.line) (place_types f.line)) (λ at.
    chained gs calls written _ (found_run gs calls written (quiet_base at f.base) (base_finds at f.base) (base_stores at f.base) (base_stays at f.base) (plain_base f.base h.0 (base_has at f.base h.1))) (λ b.
    from gs calls written (λ w r. atom_typed f.stars b r) (checked_run gs calls written (result_stays at (declared_type b f.stars [])) (result_types at (declared_type b f.stars [])))))

head_stays : (f : FuncData) → Staying (checked_head f)
head_stays f = names.chained (place_stays f.line) (λ at. names.chained (base_stays at f.base) (λ b. result_stays at (declared_type b f.stars [])))

pub head_names : (gs : List Signature) (calls : List LibraryCall) (written : Bool) (f : FuncData) → FitsTop (func_top f) → (s : Storage) (w : World) → NamesStay w (head f s w).world
head_names gs calls written f h s w = subst (λ z. NamesStay w z) (sym ((head_run gs calls written 0 0 f h).steps s w).world) ((head_stays f).stays w)

-- ---- behind it

abbrev pub behind : List EmbData → FuncData → Place → Option TyData → Resolving (Unit {0})
behind es f at r =
    chain (ask next_number) (λ k. chain (ask (λ w. find f.name w.here.names)) (λ before. chain (checks (begin_function f.name (function k (is_done before || is_some f.body) r None))) (λ _. chain (checks (number_as (type_or_void r))) (λ _.
    chain (arrange (with_site nowhere)) (λ _. chain (checks enter) (λ _. chain (in_block (length f.params) (in_function es at f k (is_done before || is_some f.body) r)) (λ _. checks leave_scope)))))))

pub by_parts : (es : List EmbData) (f : FuncData) (s : Storage) (w : World) → function_rule es f s w ≡ behind es f (place_of f w) (head f s w).answer (head f s w).storage (head f s w).world
unfolding chain checks place
by_parts es f s w = refl

pub head_clean : (es : List EmbData) (f : FuncData) (w : World) → (checked.function_rule es f w).found ≡ []
    → ((checked_head f w).found ≡ []) × ((checked_behind es f (place_of f w) (checked_head f w).answer (checked_head f w).world).found ≡ [])
unfolding check_chain place
head_clean es f w found =
    let at = place_of f w in
    let b = base at f.base (place f.line w).world in
    let r = result_rule at (declared_type b.answer f.stars []) b.world in
    let first = both_none b.found _ found in
    let second = both_none r.found _ first.1 in
    (joined b.found r.found first.0 second.0, second.1)
  where
    joined : {A : Type 0} (xs ys : List A) → xs ≡ [] → ys ≡ [] → xs ++ ys ≡ []
    joined xs ys e g = ap (λ zs. zs ++ ys) e ∙ g

-- where it stands
module _ (f : FuncData) (at : Place) (r : Option TyData) (s : Storage) (w : World) where
  -- whether a definition stands so far, or is this one
  abbrev pub done : Bool
  done = is_done (find f.name w.here.names) || is_some f.body

  -- what it is known as while its parameters are read
  abbrev pub unfinished : EntryData
  unfinished = function (next_number w) done r None

  abbrev pub opened : World
  opened = let z = with_name f.name unfinished w in entered (record z { types = z.types ++ type_or_void r ∷ [] })

  abbrev pub placed : Storage
  placed = inside_block (length f.params) (with_site nowhere s)

  abbrev pub listed : Reached (List (Option TyData))
  listed = params at (is_some f.body) f.params placed opened

  -- and what behind them
  abbrev pub entry : EntryData
  entry = function (next_number w) done r (Some listed.answer)

  abbrev pub inside : World
  inside = record listed.world { outer = put_outside f.name entry listed.world.outer }

-- with which nothing is wrong
pub record CleanParts (es : List EmbData) (f : FuncData) (at : Place) (r : Option TyData) (s : Storage) (w : World) : Type 0 where
  pub reserved : is_reserved f.name ≡ false
  pub parameters : (checked.params at (is_some f.body) f.params (opened f at r s w)).found ≡ []
  pub follows : may_follow (is_some f.body) r (listed f at r s w).answer (find f.name w.here.names) ≡ true
  pub body : (checked.body_rule es r f.body (inside f at r s w)).found ≡ []

rest_clean : (es : List EmbData) (f : FuncData) (at : Place) (k : ℕ) (d : Bool) (r : Option TyData) (before : Option EntryData) (ps : List (Option TyData)) (w : World) → (checked_rest es f at k d r before ps w).found ≡ []
    → (may_follow (is_some f.body) r ps before ≡ true) × ((checked.body_rule es r f.body (record w { outer = put_outside f.name (function k d r (Some ps)) w.outer })).found ≡ [])
unfolding check_chain checked.know_function leave_scope change
rest_clean es f at k d r before ps w found =
    let x : World = record w { outer = put_outside f.name (function k d r (Some ps)) w.outer } in
    let o = demand at F10 (may_follow (is_some f.body) r ps before) x in
    let b = checked.body_rule es r f.body o.world in
    let first = both_none o.found (b.found ++ []) found in
    let second = both_none b.found [] first.1 in
    let same : o.world ≡ x = demand_same at F10 (may_follow (is_some f.body) r ps before) x in
    (demanded at F10 (may_follow (is_some f.body) r ps before) x first.0, (λ i. (checked.body_rule es r f.body (sym same i)).found) ∙ second.0)

-- as the checks read them
abbrev parameters_of : FuncData → Place → Option TyData → World → Out (List (Option TyData))
parameters_of f at r w = checked.params at (is_some f.body) f.params (entered (record w { types = w.types ++ type_or_void r ∷ [] }))

listed_clean : (es : List EmbData) (f : FuncData) (at : Place) (k : ℕ) (d : Bool) (r : Option TyData) (before : Option EntryData) (w : World) → (checked_listed es f at k d r before w).found ≡ []
    → ((parameters_of f at r w).found ≡ []) × ((checked_rest es f at k d r before (parameters_of f at r w).answer (parameters_of f at r w).world).found ≡ [])
unfolding check_chain number_as enter change
listed_clean es f at k d r before w found = both_none (parameters_of f at r w).found _ found

pub clean_parts : (es : List EmbData) (f : FuncData) (at : Place) (r : Option TyData) (s : Storage) (w : World) → (checked_behind es f at r w).found ≡ [] → CleanParts es f at r s w
unfolding check_chain check_ask begin_function free_name change
clean_parts es f at r s w found =
    let k = next_number w in
    let before = find f.name w.here.names in
    let d = done f at r s w in
    let x = with_name f.name (unfinished f at r s w) w in
    let o = free_name at f.name x in
    let first = both_none o.found (checked_listed es f at k d r before o.world).found found in
    let same : o.world ≡ x = demand_same at F12 _ x in
    let second = listed_clean es f at k d r before x ((λ i. (checked_listed es f at k d r before (sym same i)).found) ∙ first.1) in
    let p = params_find at (is_some f.body) f.params in
    let answer = p.answer (placed f at r s w) (opened f at r s w) in
    let world = p.world (placed f at r s w) (opened f at r s w) in
    let third = rest_clean es f at k d r before (listed f at r s w).answer (listed f at r s w).world ((λ i. (checked_rest es f at k d r before (answer i) (world i)).found) ∙ second.1) in
    record { reserved = not_reserved at (is_reserved f.name) x first.0; parameters = second.0; follows = third.0; body = third.1 }
