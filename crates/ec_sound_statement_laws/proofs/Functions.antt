-- Of each definition a function is made.
use Rattle.std.proofs.Common.{◌≡◌, ◌∙◌, ℕ, suc, Bool, List, [], ◌∷◌, ◌++◌, length, map, refl, sym, ap, subst, Option, Some, None, append-nil, append_assoc}
use Rattle.std.specs.Prelude.{slice_get, is_some}
use Rattle.ec_ctypes.specs.trees.Types.{TyData}
use Rattle.ec_ctypes.specs.trees.Stmts.{StmtList}
use Rattle.ec_ctypes.specs.trees.Embedded.{EmbData}
use Rattle.ec_ctypes.specs.trees.Units.{ParamData, FuncData, TopData, include_top, directive_top, decl_top, func_top, mark_top, UnitData}
use Rattle.ec_language.specs.Letters.{Text}
use Rattle.ec_typing_defs.specs.Worlds.{Place, function, World, Rule, change}
use Rattle.ec_typing_defs.specs.Programs.{defined_in, know_function, start}
use Rattle.ec_meaning_defs.specs.resolved.Programs.{Function}
use Rattle.ec_resolving_defs.specs.Storage.{Site, nowhere, with_site, Storage, Resolving, chain, pure, checks, ask, stored, arrange, in_block, inside_block}
use Rattle.ec_resolving_defs.specs.Statements.{objects_in_all, statements}
use Rattle.ec_resolving_defs.specs.Programs.{param, params, parameter_kind, body_rule, function_made, in_body, in_function, function_rule, directive_rule, top_rule, tops_rule, no_storage, walked, value_at_end}
use Rattle.ec_sound_statement_laws.specs.Objects.{Makes}
use Rattle.ec_sound_statement_laws.specs.Functions.{if_defined, definitions, objects_of, AreMade}
use Rattle.ec_sound_statement_laws.proofs.Sparing.{base_spares, checks_spare, ask_spares, pure_spares}
use Rattle.ec_sound_statement_laws.proofs.Making as making
use Rattle.ec_sound_statement_laws.proofs.Making.{spared, in_block_makes, in_block_full, global_makes, embedded_makes, statements_make, params_make}

-- behind a rule these functions are made of these definitions
pub record Gives (fs : List FuncData) {A : Type 0} (m : Resolving A) (s : Storage) (w : World) : Type 0 where
  pub functions : List Function
  pub are : (m s w).storage.functions ≡ s.functions ++ functions
  pub made : AreMade fs functions
  pub defined : (m s w).storage.defined ≡ s.defined

pub record Giving (fs : List FuncData) {A : Type 0} (m : Resolving A) : Type 0 where
  pub gives : (s : Storage) (w : World) → Gives fs m s w

made_joined : (fs hs : List FuncData) (gs ks : List Function) → AreMade fs gs → AreMade hs ks → AreMade (fs ++ hs) (gs ++ ks)
made_joined [] hs [] ks p q = q
made_joined [] hs (g ∷ gs) ks p q = absurd p
made_joined (f ∷ fs) hs [] ks p q = absurd p
made_joined (f ∷ fs) hs (g ∷ gs) ks p q = (p.0, made_joined fs hs gs ks p.1 q)

pub both : {A B : Type 0} (fs hs : List FuncData) {m : Resolving A} {f : A → Resolving B} → Giving fs m → ((a : A) → Giving hs (f a)) → Giving (fs ++ hs) (chain m f)
unfolding chain
both fs hs {m = m} {f = f} h k = record {
  gives = λ s w.
      let p = h.gives s w in
      let q = (k (m s w).answer).gives (m s w).storage (m s w).world in
      record {
        functions = p.functions ++ q.functions;
        are = q.are ∙ ap (λ x. x ++ q.functions) p.are ∙ append_assoc s.functions p.functions q.functions;
        made = made_joined fs hs p.functions q.functions p.made q.made;
        defined = q.defined ∙ p.defined;
      };
}

pub none : {A : Type 0} {m : Resolving A} → Makes 0 0 m → Giving [] m
none h = record {
  gives = λ s w. record { functions = []; are = h.functions s w ∙ sym (append-nil s.functions); made = tt; defined = h.defined s w };
}

-- behind a rule that makes none
behind : {A B : Type 0} {fs : List FuncData} {m : Resolving A} {f : A → Resolving B} → Makes 0 0 m → ((x : A) → Giving fs (f x)) → Giving fs (chain m f)
behind {fs = fs} h k = both [] fs (none h) k

before : {A B : Type 0} {fs : List FuncData} {m : Resolving A} {f : A → Resolving B} → Giving fs m → ((x : A) → Makes 0 0 (f x)) → Giving fs (chain m f)
before {fs = fs} {m = m} {f = f} h k = subst (λ x. Giving x (chain m f)) (append-nil fs) (both fs [] h (λ x. none (k x)))

in_block_gives : {A : Type 0} {fs : List FuncData} (n : ℕ) (m : Resolving A) → Giving fs m → Giving fs (in_block n m)
unfolding chain stored arrange pure
in_block_gives n m h = record {
  gives = λ s w. let p = h.gives (inside_block n s) w in record { functions = p.functions; are = p.are; made = p.made; defined = p.defined };
}

-- ---- one function

pub params_count : (at : Place) (defined : Bool) (qs : List ParamData) (s : Storage) (w : World) → length (params at defined qs s w).answer ≡ length qs
unfolding chain pure
params_count at defined [] s w = refl
params_count at defined (q ∷ qs) s w = ap (λ n. suc n) (params_count at defined qs (param at defined q s w).storage (param at defined q s w).world)

pub mapped_count : {A B : Type 0} (g : A → B) (xs : List A) → length (map g xs) ≡ length xs
mapped_count g [] = refl
mapped_count g (x ∷ xs) = ap (λ n. suc n) (mapped_count g xs)

-- behind its parameters
abbrev made_of : List EmbData → Option TyData → Text → List (Option TyData) → Option StmtList → Resolving (Unit {0})
made_of es r name ps b = chain (body_rule es r b) (λ x. function_made name ps x)

made_gives : (es : List EmbData) (r : Option TyData) (f : FuncData) (ps : List (Option TyData)) → length ps ≡ length f.params → (b : Option StmtList) → f.body ≡ b
    → Giving (if_defined b f) (made_of es r f.name ps b)
unfolding chain pure arrange checks stored change
made_gives es r f ps count None is = record {
  gives = λ s w. record { functions = []; are = sym (append-nil s.functions); made = tt; defined = refl };
}
made_gives es r f ps count (Some ss) is = record {
  gives = λ s w.
      let z : World = record w { labels = [] } in
      let m = statements (in_body es r ss) ss in
      let o = in_block (objects_in_all ss) m s z in
      let h = statements_make (in_body es r ss) 0 ss in
      record {
        functions = record { parameters = map parameter_kind ps; objects = o.answer.0; body = o.answer.1; otherwise = value_at_end f.name } ∷ [];
        are = ap (λ x. x ++ record { parameters = map parameter_kind ps; objects = o.answer.0; body = o.answer.1; otherwise = value_at_end f.name } ∷ []) (h.functions (inside_block (objects_in_all ss) s) z);
        made = (
          record {
            takes = mapped_count parameter_kind ps ∙ count;
            objects = in_block_full (objects_in_all ss) m h s z ∙ sym (ap objects_of is);
            at_end = refl;
          },
          tt,
        );
        defined = h.defined (inside_block (objects_in_all ss) s) z;
      };
}

in_function_gives : (es : List EmbData) (at : Place) (f : FuncData) (k : ℕ) (done : Bool) (r : Option TyData) → Giving (if_defined f.body f) (in_function es at f k done r)
unfolding chain checks
in_function_gives es at f k done r = record {
  gives = λ s w.
      let p = params at (is_some f.body) f.params s w in
      let h = params_make 0 at (is_some f.body) f.params in
      let x = (know_function f.name (function k done r (Some p.answer)) p.world).world in
      let q = (made_gives es r f p.answer (params_count at (is_some f.body) f.params s w) f.body refl).gives p.storage x in
      record {
        functions = q.functions;
        are = q.are ∙ ap (λ y. y ++ q.functions) (h.functions s w);
        made = q.made;
        defined = q.defined ∙ h.defined s w;
      };
}

looked : {A : Type 0} (g : World → A) → Makes 0 0 (ask g)
looked g = spared (ask_spares g)

checked : {A : Type 0} (m : Rule A) → Makes 0 0 (checks m)
checked m = spared (checks_spare m)

site_made : (site : Site) → Makes 0 0 (arrange (with_site site))
unfolding arrange
site_made site = record { below = λ s w. refl; count = λ s w. refl; sizes = λ s w. refl; functions = λ s w. refl; defined = λ s w. refl }

pub function_gives : (es : List EmbData) (f : FuncData) → Giving (if_defined f.body f) (function_rule es f)
function_gives es f =
    behind (checked _) (λ at.
    behind (spared (base_spares at f.base)) (λ b.
    behind (checked _) (λ r.
    behind (looked _) (λ k.
    behind (looked _) (λ first.
    behind (checked _) (λ a.
    behind (checked _) (λ c.
    behind (site_made nowhere) (λ d.
    behind (checked _) (λ e.
    before (in_block_gives (length f.params) _ (in_function_gives es at f k _ r)) (λ g. checked _))))))))))

-- ---- programs

directive_makes : (es : List EmbData) (n : ℕ) (e : Option EmbData) → Makes 0 0 (directive_rule es n e)
directive_makes es n None = spared (pure_spares _)
directive_makes es n (Some e) = making.chained (checked _) (λ at. embedded_makes es [] at n e)

abbrev defined_by : TopData → List FuncData
defined_by (func_top f) = if_defined f.body f
defined_by t = []

top_gives : (es : List EmbData) (t : TopData) → Giving (defined_by t) (top_rule es t)
top_gives es (include_top bytes) = none (spared (pure_spares _))
top_gives es (directive_top n) = none (directive_makes es n (slice_get es n))
top_gives es (decl_top d) = none (making.chained (global_makes 0 d) (λ ss. spared (pure_spares _)))
top_gives es (func_top f) = function_gives es f
top_gives es (mark_top opens line) = none (spared (pure_spares _))

defined_first : (t : TopData) (ts : List TopData) → defined_by t ++ definitions ts ≡ definitions (t ∷ ts)
defined_first (include_top bytes) ts = refl
defined_first (directive_top n) ts = refl
defined_first (decl_top d) ts = refl
defined_first (func_top f) ts = refl
defined_first (mark_top opens line) ts = refl

pub tops_give : (es : List EmbData) (ts : List TopData) → Giving (definitions ts) (tops_rule es ts)
tops_give es [] = none (spared (pure_spares _))
tops_give es (t ∷ ts) = subst (λ fs. Giving fs (tops_rule es (t ∷ ts))) (defined_first t ts) (both (defined_by t) (definitions ts) (top_gives es t) (λ a. tops_give es ts))

pub all_made : (written : Bool) (u : UnitData) → AreMade (definitions u.tops) (walked written u).storage.functions
all_made written u = let p = (tops_give u.embs u.tops).gives (no_storage u) (start written u) in subst (λ gs. AreMade (definitions u.tops) gs) (sym p.are) p.made

pub names_stay : (written : Bool) (u : UnitData) → (walked written u).storage.defined ≡ defined_in u.tops []
names_stay written u = ((tops_give u.embs u.tops).gives (no_storage u) (start written u)).defined
