-- Each VARCHAR that is declared is alike, and so is each declaration.
use Rattle.std.proofs.Common.{◌≡◌, ◌∙◌, ℕ, Bool, true, List, [], ◌++◌, Option, None, refl, append-nil}
use Rattle.ec_ctypes.specs.trees.Types.{TyData}
use Rattle.ec_ctypes.specs.trees.Exprs.{words, varchar, tagged, struct_base, DimList, DeclaratorData, declarator, DeclaratorList, no_declarators, declarators, DeclData, decl}
use Rattle.ec_expansion_defs.specs.Declarations.{at_line, outer_dims, written_dims, varchar_object, varchar_objects, written_decl}
use Rattle.ec_typing_defs.specs.Expressions as checked_parts
use Rattle.ec_typing_defs.specs.Operands.{declared_type, elements_rule}
use Rattle.ec_typing_defs.specs.Statements as checked
use Rattle.ec_typing_defs.specs.Worlds.{Place, Rule, chain as check_chain, pure as check_pure}
use Rattle.ec_meaning_defs.specs.resolved.Resolved.{Stm}
use Rattle.ec_resolving_defs.specs.Agreement.{itself, nothing_of}
use Rattle.ec_resolving_defs.specs.Expressions.{lengths, outer_lengths}
use Rattle.ec_resolving_defs.specs.Statements.{object_item, object_items, declaration}
use Rattle.ec_resolving_defs.specs.Storage.{Resolving, chain, pure}
use Rattle.ec_sim_statement_laws.specs.expression.Alike.{FindAlike, IsAlike}
use Rattle.ec_sim_statement_laws.specs.expression.Laws.{InitializersAreAlike}
use Rattle.ec_sim_statement_laws.specs.expression.Lengths.{DimsHaveLengths, ItemHasLengths, ItemsHaveLengths, DeclHasLengths}
use Rattle.ec_sim_statement_laws.specs.expression.Silent.{Nothing}
use Rattle.ec_sim_statement_laws.specs.expression.Varchars.{VarcharObjectsAreAlike, OuterLengthsAreAlike}
use Rattle.ec_sim_statement_laws.specs.expression.Rules.{none_before, none_behind, chain_alike, pure_alike, quiet_first, placed_here, placed_there}
use Rattle.ec_sim_statement_laws.specs.expression.Checks.{elements_quietly}
use Rattle.ec_sim_program_laws.specs.program.Declared.{AllDeclare, DeclaresOne, checked_declarations, declarations, PlainAreAlike, VarcharsAreAlike, DeclarationsAreAlike}
use Rattle.ec_sim_program_laws.proofs.program_lemmas.Conditions.{made_alike}
use Rattle.ec_sim_program_laws.proofs.program_lemmas.Declaring.{typed_alike, one_of_all, all_joined}

-- four rules, of which the middle ones are grouped in another way
grouped_four : {A B C D E F G H : Type 0} {P : H → Type 0} {seen : H → D} (l : Rule A) (v : A → Rule B) (k : B → Rule C) (r : C → Rule D) (d : Rule D)
    (ml : Resolving E) (mv : E → Resolving F) (mk : F → Resolving G) (mr : G → Resolving H) (n : Resolving H)
    → IsAlike P seen (check_chain (check_chain l v) (λ b. check_chain (k b) r)) d (chain (chain ml mv) (λ b. chain (mk b) mr)) n
    → IsAlike P seen (check_chain (check_chain l (λ a. check_chain (v a) k)) r) d (chain (chain ml (λ a. chain (mv a) mk)) mr) n
unfolding check_chain chain
grouped_four {P = P} {seen = seen} l v k r d ml mv mk mr n p = record {
  finds = λ s t w v' same alike e.
      let lo = l w in
      let vo = v lo.answer lo.world in
      let ko = k vo.answer vo.world in
      let ro = r ko.answer ko.world in
      let front : lo.found ++ (vo.found ++ ko.found) ≡ [] = none_before (lo.found ++ (vo.found ++ ko.found)) ro.found e in
      let middle : vo.found ++ ko.found ≡ [] = none_behind lo.found (vo.found ++ ko.found) front in
      let x : FindAlike P seen s t (check_chain (check_chain l v) (λ b. check_chain (k b) r) w) (d v') (chain (chain ml mv) (λ b. chain (mk b) mr) s w) (n t v') =
      p.finds s t w v' same alike (λ i. (none_before lo.found (vo.found ++ ko.found) front i ++ none_before vo.found ko.found middle i)
      ++ (none_behind vo.found ko.found middle i ++ none_behind (lo.found ++ (vo.found ++ ko.found)) ro.found e i))
      in record {
        answer = x.answer;
        silent = x.silent;
        worlds = x.worlds;
        storages = x.storages;
        adds_none = x.adds_none;
        adds_none_there = x.adds_none_there;
        checked = x.checked;
        checked_world = x.checked_world;
        checked_there = x.checked_there;
        checked_world_there = x.checked_world_there;
        without_fault = x.without_fault;
      };
}

-- no more declarators stand in what is written
pub ended_there : {P : List Stm → Type 0} (c d : Rule (Unit {0})) (m n : Resolving (List Stm)) → IsAlike P nothing_of c d m n
    → IsAlike P nothing_of c (check_chain d (λ _. check_pure tt)) m (chain n (λ first. chain (pure []) (λ more. pure (first ++ more))))
unfolding check_chain check_pure chain pure
ended_there {P} c d m n p = record {
  finds = λ s t w v same alike e.
      let x : FindAlike P nothing_of s t (c w) (d v) (m s w) (n t v) = p.finds s t w v same alike e
      in record {
        answer = append-nil (n t v).answer ∙ x.answer;
        silent = x.silent;
        worlds = x.worlds;
        storages = x.storages;
        adds_none = x.adds_none;
        adds_none_there = x.adds_none_there;
        checked = refl;
        checked_world = x.checked_world;
        checked_there = refl;
        checked_world_there = x.checked_world_there;
        without_fault = append-nil (d v).found ∙ x.without_fault;
      };
}

module _ (objects : VarcharObjectsAreAlike) (outer : OuterLengthsAreAlike) (initializers : InitializersAreAlike) (n : ℕ) where
  outer_type_alike : (at there : Place) (own : Option TyData) (stars : ℕ) (ns : DimList) → DimsHaveLengths ns
      → IsAlike Nothing itself
      (check_chain (checked_parts.outer_lengths at ns) (λ sizes. check_chain (elements_rule at own stars sizes) (λ _. check_pure (declared_type own stars sizes))))
      (check_chain (checked_parts.lengths there (outer_dims (written_dims n ns))) (λ sizes. check_chain (elements_rule there own stars sizes) (λ _. check_pure (declared_type own stars sizes))))
      (chain (outer_lengths at ns) (λ sizes. pure (declared_type own stars sizes)))
      (chain (lengths there (outer_dims (written_dims n ns))) (λ sizes. pure (declared_type own stars sizes)))
  outer_type_alike at there own stars ns h = chain_alike _ _ _ _ _ _ _ _ (outer at there n ns h) (λ sizes _.
      quiet_first _ _ _ _ _ _ (elements_quietly at there own stars sizes) (pure_alike itself (declared_type own stars sizes) tt))

  varchar_alike : (at : Place) (global : Bool) (d : DeclaratorData) → ItemHasLengths true d
      → IsAlike (DeclaresOne global) nothing_of (checked.object_item at global true None d) (checked.declaration global (varchar_object n d))
      (object_item at global true None d) (declaration global (varchar_object n d))
  varchar_alike at global (declarator stars name ns init) h =
      placed_there (at_line n) _ _ _ _ (λ there.
      grouped_four _ _ _ _ _ _ _ _ _ _
      (chain_alike _ _ _ _ _ _ _ _ (objects at there n name ns h.0) (λ own _.
      ended_there _ _ _ _
      (chain_alike _ _ _ _ _ _ _ _ (outer_type_alike at there own stars ns h.1) (λ whole _.
      typed_alike n initializers at there global name init h.2 whole)))))

pub varchars_are_alike : VarcharObjectsAreAlike → OuterLengthsAreAlike → InitializersAreAlike → VarcharsAreAlike
varchars_are_alike objects outer initializers = λ at global n d h. varchar_alike objects outer initializers n at global d h

-- ---- declarations

-- no type is looked at
none_first : {A B D : Type 0} {P : A → Type 0} {seen : A → B} (a : D) (f : D → Rule B) (d : Rule B) (k : D → Resolving A) (n : Resolving A)
    → IsAlike P seen (f a) d (k a) n → IsAlike P seen (check_chain (check_pure a) f) d (chain (pure a) k) n
unfolding check_chain check_pure chain pure
none_first {P = P} {seen = seen} a f d k n p = record {
  finds = λ s t w v same alike e.
      let x : FindAlike P seen s t (f a w) (d v) (k a s w) (n t v) = p.finds s t w v same alike e
      in record {
        answer = x.answer;
        silent = x.silent;
        worlds = x.worlds;
        storages = x.storages;
        adds_none = x.adds_none;
        adds_none_there = x.adds_none_there;
        checked = x.checked;
        checked_world = x.checked_world;
        checked_there = x.checked_there;
        checked_world_there = x.checked_world_there;
        without_fault = x.without_fault;
      };
}

module _ (plain : PlainAreAlike) (varchars : VarcharsAreAlike) (global : Bool) (n : ℕ) where
  items_alike : (at : Place) (ds : DeclaratorList) → ItemsHaveLengths true ds
      → IsAlike AllDeclare nothing_of (checked.object_items at global true None ds) (checked_declarations global (varchar_objects n ds))
      (object_items at global true None ds) (declarations global (varchar_objects n ds))
  items_alike at no_declarators h = pure_alike nothing_of [] tt
  items_alike at (declarators d ds) h = chain_alike _ _ _ _ _ _ _ _ (varchars at global n d h.0) (λ first one.
      made_alike (λ more. first ++ more) (λ more all. all_joined first more (one_of_all global first one) all) (items_alike at ds h.1))

  pub declaration_alike : (d : DeclData) → DeclHasLengths d
      → IsAlike AllDeclare nothing_of (checked.declaration global d) (checked_declarations global (written_decl n d)) (declaration global d) (declarations global (written_decl n d))
  declaration_alike (decl varchar ds section line) h = placed_here line _ _ _ _ (λ at. none_first None _ _ _ _ (items_alike at ds h.1))
  declaration_alike (decl (words ws) ds section line) h = ended_there _ _ _ _ (plain global n (words ws) ds section line (at_line n) refl h.0 h.1)
  declaration_alike (decl (tagged tag) ds section line) h = ended_there _ _ _ _ (plain global n (tagged tag) ds section line (at_line n) refl h.0 h.1)
  declaration_alike (decl (struct_base tag ms) ds section line) h = ended_there _ _ _ _ (plain global n (struct_base tag ms) ds section line (at_line n) refl h.0 h.1)

pub declarations_are_alike : PlainAreAlike → VarcharsAreAlike → DeclarationsAreAlike
declarations_are_alike plain varchars = λ global n d h. declaration_alike plain varchars global n d h
