-- What is kept by declarations and statements, embedded ones too.
use Rattle.std.proofs.Common.{◌≡◌, ◌∙◌, ◌⊎◌, inl, inr, ℕ, zero, suc, ◌+◌, Bool, false, not, ◌&&◌, List, [], ◌∷◌, ◌++◌, length, drop, Option, Some, None, refl, sym, ap, subst, slice_get, arith}
use Rattle.std.specs.Prelude.{is_some}
use Rattle.ec_base.specs.declared.fault.FaultKind.TheVariants.{F10, F12, F29}
use Rattle.ec_written_laws.specs.bound.Numbers.{numbers_from, stmt_numbers, kind_numbers, stmts_numbers, else_numbers}
use Rattle.ec_ctypes.specs.trees.Types.{TyData}
use Rattle.ec_ctypes.specs.trees.Exprs.{InitOption, DeclaratorData, declarator, DeclaratorList, no_declarators, declarators, DeclData, decl}
use Rattle.ec_ctypes.specs.trees.Stmts.{StmtData, stmt, StmtKindData, empty_stmt, expr_stmt, block_stmt, if_stmt, while_stmt, do_stmt, for_stmt, break_stmt, continue_stmt, return_stmt, goto_stmt, label_stmt, decl_stmt, emb_stmt, mark_stmt, StmtList, no_stmts, stmts, StmtOption, no_stmt, some_stmt}
use Rattle.ec_ctypes.specs.trees.Embedded.{EmbData}
use Rattle.ec_host_defs.specs.Programs.{Denoted}
use Rattle.ec_language.specs.Letters.{Text}
use Rattle.ec_host_defs.specs.sections.Declared.{Declared, an_object, declared_items, declared_by, declared_in, declared_in_kind, declared_in_all, declared_in_option}
use Rattle.ec_typing_defs.specs.statement_parts.Cursors.{declare_opened}
use Rattle.ec_typing_defs.specs.statement_parts.Handlers.{is_directive}
use Rattle.ec_typing_defs.specs.statement_parts.References.{references, names_of_option}
use Rattle.ec_typing_defs.specs.Embedded.{references_rule, handlers_rule, denoted_in, denote, variables_of, embedded_rule}
use Rattle.ec_typing_defs.specs.Expressions.{is_varchar, has_init}
use Rattle.ec_typing_defs.specs.Known.{is_reserved}
use Rattle.ec_typing_defs.specs.Operands.{within_rule}
use Rattle.ec_typing_defs.specs.Statements.{type_or_void, initial, object_item, object_items, declaration, Around, as_body, looping, as_item, embedded_at, statement, statement_kind, statements, otherwise}
use Rattle.ec_typing_defs.specs.Tables.{Named, find, put}
use Rattle.ec_typing_defs.specs.Worlds.{Place, EntryData, object, World, Rule, chain, pure, ask, change, demand, with_name, free_name, declare, know_better, next_number, number_as}
use Rattle.ec_sim_world_laws.proofs.growth_lemmas.Rules as growth
use Rattle.ec_sim_world_laws.proofs.closing_lemmas.Lists.{get_behind, get_last, some_is}
use Rattle.ec_sim_world_laws.proofs.known_lemmas.EntriesTables.{put_twice}
use Rattle.ec_sim_world_laws.proofs.known_lemmas.NamesRules.{stay_so, stay_further, demand_stays, place_stays, label_stays}
use Rattle.ec_sim_world_laws.proofs.known_lemmas.NamesOperands.{within_stays}
use Rattle.ec_sim_world_laws.proofs.known_lemmas.NamesExpressions.{expr_stays}
use Rattle.ec_sim_world_laws.proofs.known_lemmas.NamesEmbedded.{references_stays, handlers_stays}
use Rattle.ec_sim_world_laws.proofs.known_lemmas.NamesStatements.{object_stays, initial_stays, type_stays, specifier_stays, condition_stays, optional_stays, optional_condition_stays, return_stays}
use Rattle.ec_sim_host_laws.specs.reference.Found.{AreReferences}
use Rattle.ec_sim_program_laws.proofs.program_lemmas.DenotingRules.{demand_denotes, place_denotes, label_denotes}
use Rattle.ec_sim_program_laws.proofs.program_lemmas.DenotingOperands.{within_denotes}
use Rattle.ec_sim_program_laws.proofs.program_lemmas.DenotingExpressions.{expr_denotes}
use Rattle.ec_sim_program_laws.proofs.program_lemmas.DenotingStatements.{object_denotes, initial_denotes, type_denotes, specifier_denotes, condition_denotes, optional_denotes, optional_condition_denotes, return_denotes}
use Rattle.ec_sim_source_laws.proofs.object_lemmas.DenotingEmbedded.{references_denote, handlers_denote}
use Rattle.ec_sim_source_laws.proofs.object_lemmas.Declares.{opens_none}
use Rattle.ec_sim_source_laws.proofs.object_lemmas.Indexes.{AllNoFunctions, references_clean, all_no_functions_stay, row_fine}
use Rattle.ec_sim_source_laws.proofs.object_lemmas.Walking.{one_longer, one_passed, functions_in, is_no_functions_number, AreFine, ScopesAreFine, put_fine, RowOf, RowsAreFine, StillToCome, Known, IsBefore, Walking, both_none, both, behind, before, none, pure_walks, scoped_walks}

-- ---- objects

pub declared_world : (at : Place) (name : Text) (entry : EntryData) (w : World) → (declare at name entry w).world ≡ with_name name entry w
unfolding declare free_name chain ask change
declared_world at name entry w = growth.demand_same at F12 (not (is_reserved name)) (demand at F10 (not (is_some (find name w.here.names))) (with_name name entry w)).world
    ∙ growth.demand_same at F10 (not (is_some (find name w.here.names))) (with_name name entry w)

-- one object more, which is the next declaration
pub object_more : (es : List EmbData) (all rest : Declared) (ns : List ℕ) (w z : World) (section : Bool) (name : Text) (global : Bool) (t : Option TyData) (u : TyData)
    → z.here.names ≡ put name (object (length w.types) global t) w.here.names → z.outer ≡ w.outer → z.types ≡ w.types ++ u ∷ [] → z.denoted ≡ w.denoted
    → IsBefore all (an_object section ∷ rest) w → Known es all ns w → IsBefore all rest z × Known es all ns z
object_more es all rest ns w z section name global t u here outer types rows position known = (
  ap (λ ts. drop (length ts) all) types ∙ ap (λ n. drop n all) (one_longer w.types u) ∙ one_passed (length w.types) all rest (an_object section) position,
  record {
    here = subst (λ xs. AreFine (functions_in 0 all) xs) (sym here)
        (put_fine (functions_in 0 all) name (object (length w.types) global t) w.here.names (is_no_functions_number (length w.types) all rest (an_object section) position refl) known.here);
    outer = subst (λ ss. ScopesAreFine (functions_in 0 all) ss) (sym outer) known.outer;
    rows = subst (λ ds. RowsAreFine (functions_in 0 all) es ds) (sym rows) known.rows;
    to_come = subst (λ ds. StillToCome es ns ds) (sym rows) known.to_come;
  },
)

-- behind the type of a declarator
abbrev item_behind : Place → Bool → Text → InitOption → Option TyData → Rule (Unit {0})
item_behind at global name init before =
    chain (ask next_number) (λ k. chain (declare at name (object k global before)) (λ _. chain (initial at global before init) (λ ty. chain (within_rule at ty) (λ _. chain (know_better name (object k global ty)) (λ _. number_as (type_or_void ty))))))

behind_walks : {es : List EmbData} {all : Declared} {ns : List ℕ} (section : Bool) (at : Place) (global : Bool) (name : Text) (init : InitOption) (before : Option TyData)
    → Walking es all (an_object section ∷ []) ns ns (item_behind at global name init before)
unfolding chain ask change know_better number_as
behind_walks {es} {all} {ns} section at global name init before = record {
  walks = λ rest w position known found.
      let first = object (length w.types) global before in
      let x = (declare at name first w).world in
      let o = initial at global before init x in
      let y = (within_rule at o.answer o.world).world in
      let last = object (length w.types) global o.answer in
      let z = (item_behind at global name init before w).world in
      let d = declared_world at name first w in
      let p = stay_further x o.world y ((initial_stays at global before init).stays x) ((within_stays at o.answer).stays o.world) in
      object_more es all rest ns w z section name global o.answer (type_or_void o.answer)
      (ap (λ ns. put name last ns) (p.here ∙ ap (λ v. v.here.names) d) ∙ put_twice name first last w.here.names)
      (p.outer ∙ ap (λ v. v.outer) d)
      (ap (λ ts. ts ++ type_or_void o.answer ∷ []) (p.types ∙ ap (λ v. v.types) d))
      ((within_denotes at o.answer).kept o.world ∙ (initial_denotes at global before init).kept x ∙ ap (λ v. v.denoted) d)
      position known;
}

module _ {es : List EmbData} {all : Declared} {ns : List ℕ} where
  item_walks : (section : Bool) (at : Place) (global v : Bool) (t : Option TyData) (d : DeclaratorData) → Walking es all (an_object section ∷ []) ns ns (object_item at global v t d)
  item_walks section at global v t (declarator stars name ns init) =
      behind (none (type_stays at v t stars name ns) (type_denotes at v t stars name ns)) (λ whole. behind (none (within_stays at whole) (within_denotes at whole)) (λ a.
      behind (none (object_stays at (has_init init) whole) (object_denotes at (has_init init) whole)) (λ first. behind_walks section at global name init first)))

  items_walk : (section : Bool) (at : Place) (global v : Bool) (t : Option TyData) (ds : DeclaratorList) → Walking es all (declared_items section ds) ns ns (object_items at global v t ds)
  items_walk section at global v t no_declarators = pure_walks _
  items_walk section at global v t (declarators d ds) = both (an_object section ∷ []) (declared_items section ds) (item_walks section at global v t d) (λ a. items_walk section at global v t ds)

  pub declaration_walks : (global : Bool) (d : DeclData) → Walking es all (declared_by d) ns ns (declaration global d)
  declaration_walks global (decl b items section line) =
      behind (none (place_stays line) (place_denotes line)) (λ at. behind (none (specifier_stays at b items) (specifier_denotes at b items)) (λ t. items_walk section at global (is_varchar b) t items))

-- ---- embedded statements

-- the next of these numbers, and those behind it
record Came (n : ℕ) (more : List ℕ) (k whole : ℕ) : Type 0 where
  rest : ℕ
  first : n ≡ k
  are : more ≡ numbers_from (suc k) rest
  all : suc k + rest ≡ whole

came : (n : ℕ) (more : List ℕ) (k count whole : ℕ) → n ∷ more ≡ numbers_from k count → k + count ≡ whole → Came n more k whole
came n more k zero whole e a = absurd (cc)
came n more k (suc c) whole e a = record {
  rest = c;
  first = ap (first_of k) e;
  are = ap behind_of e;
  all = omega (arith, a);
}
  where
    first_of : ℕ → List ℕ → ℕ
    first_of d [] = d
    first_of d (x ∷ xs) = x

    behind_of : List ℕ → List ℕ
    behind_of [] = []
    behind_of (x ∷ xs) = xs

-- each statement's references are names with their suffixes
abbrev pub AllAreReferences : List EmbData → Type 0
AllAreReferences es = (n : ℕ) (e : EmbData) → slice_get es n ≡ Some e → AreReferences (references e)

module _ (es : List EmbData) (all : Declared) where
  -- one row more
  row_more : (n : ℕ) (more : List ℕ) (e : EmbData) → slice_get es n ≡ Some e → (row : Denoted) (w : World) → RowOf (functions_in 0 all) e row → Known es all (n ∷ more) w
      → Known es all more (record w { denoted = w.denoted ++ row ∷ [] })
  row_more n more e is row w fine known =
      let c = came n more (length w.denoted) known.to_come.count (length es) known.to_come.are known.to_come.all in
      record {
        here = known.here;
        outer = known.outer;
        rows = λ k other f get is_emb. go c.first k other f get is_emb (get_behind w.denoted row k);
        to_come = record {
          count = c.rest;
          are = c.are ∙ ap (λ l. numbers_from l c.rest) (sym (one_longer w.denoted row));
          all = ap (λ l. l + c.rest) (one_longer w.denoted row) ∙ c.all;
        };
      }
    where
      go : n ≡ length w.denoted → (k : ℕ) (other : Denoted) (f : EmbData) → slice_get (w.denoted ++ row ∷ []) k ≡ Some other → slice_get es k ≡ Some f
          → (slice_get (w.denoted ++ row ∷ []) k ≡ slice_get w.denoted k) ⊎ (k ≡ length w.denoted) → RowOf (functions_in 0 all) f other
      go first k other f get is_emb (inl same) = known.rows k other f (sym same ∙ get) is_emb
      go first k other f get is_emb (inr last) =
          let same_row : row ≡ other = some_is (sym (get_last w.denoted row) ∙ sym (ap (slice_get (w.denoted ++ row ∷ [])) last) ∙ get) in
          let same_emb : e ≡ f = some_is (sym is ∙ ap (slice_get es) (first ∙ sym last) ∙ is_emb) in
          subst (λ x. RowOf (functions_in 0 all) f x) same_row (subst (λ g. RowOf (functions_in 0 all) g row) same_emb fine)

  -- behind its references, in which nothing is wrong
  denote_known : (n : ℕ) (more : List ℕ) (e : EmbData) → slice_get es n ≡ Some e → AreReferences (references e) → (at : Place) (w z : World) → (references_rule at (references e) w).found ≡ []
      → z ≡ (references_rule at (references e) w).world → Known es all (n ∷ more) z → Known es all more (record z { denoted = z.denoted ++ denoted_in z (variables_of es n e) ∷ [] })
  denote_known n more e is h at w z found same known = row_more n more e is (denoted_in z (variables_of es n e)) z (λ cursor d. row_fine (functions_in 0 all) z (known.here, known.outer) (references e) h
      (subst (λ v. AllNoFunctions v (references e)) (sym same)
      (all_no_functions_stay w (references_rule at (references e) w).world ((references_stays at (references e)).stays w) (references e) (references_clean at (references e) h w w (stay_so w) found)))
      (names_of_option (declare_opened es n e)) (opens_none es n e cursor d)) known

  referred_walks : (n : ℕ) (more : List ℕ) (e : EmbData) → slice_get es n ≡ Some e → AreReferences (references e) → (at : Place) (last : Rule (Unit {0})) → Walking es all [] more more last
      → Walking es all [] (n ∷ more) more (chain (references_rule at (references e)) (λ a. chain (denote (variables_of es n e)) (λ b. last)))
  unfolding chain denote change
  referred_walks n more e is h at last k = record {
    walks = λ rest w position known found.
        let r = references_rule at (references e) w in
        let z : World = record r.world { denoted = r.world.denoted ++ denoted_in r.world (variables_of es n e) ∷ [] } in
        let f = both_none r.found (last z).found found in
        let p = first.walks rest w position known f.0 in
        k.walks rest z p.0 (denote_known n more e is h at w r.world f.0 refl p.1) f.1;
  }
    where
      first : Walking es all [] (n ∷ more) (n ∷ more) (references_rule at (references e))
      first = none (references_stays at (references e)) (references_denote at (references e))

  pub embedded_walks : (is_body in_loop : Bool) (labels : Named (Unit {0})) (at : Place) (n : ℕ) (more : List ℕ) (e : EmbData) → slice_get es n ≡ Some e → AreReferences (references e)
      → Walking es all [] (n ∷ more) more (embedded_rule es is_body in_loop labels at n e)
  embedded_walks is_body in_loop labels at n more e is h =
      behind (none (demand_stays at F29 (not (is_body && is_directive e))) (demand_denotes at F29 (not (is_body && is_directive e)))) (λ a.
      referred_walks n more e is h at (handlers_rule es in_loop labels at e) (none (handlers_stays es in_loop labels at e) (handlers_denote es in_loop labels at e)))

  there_below : {A : Type 0} (xs : List A) (n c : ℕ) → n + suc c ≡ length xs → slice_get xs n ≡ None → ⊥
  there_below [] n c l e = omega (arith, l)
  there_below (x ∷ xs) zero c l e = cc
  there_below (x ∷ xs) (suc n) c l e = there_below xs n c (omega (arith, l)) e

  -- a number of no statement is not among those to come
  pub none_walks : (n : ℕ) (more : List ℕ) → slice_get es n ≡ None → Walking es all [] (n ∷ more) more (pure {A = Unit {0}} tt)
  none_walks n more none = record {
    walks = λ rest w position known found.
        let c = came n more (length w.denoted) known.to_come.count (length es) known.to_come.are known.to_come.all in
        absurd (there_below es n c.rest (let f = c.first in let a = c.all in omega (arith, f, a)) none);
  }

-- ---- statements

module _ (all : Declared) where
  embedded_at_walks : (a : Around) → AllAreReferences a.embs → (at : Place) (n : ℕ) (more : List ℕ) (e : Option EmbData) → slice_get a.embs n ≡ e → Walking a.embs all [] (n ∷ more) more (embedded_at a at n e)
  embedded_at_walks a read at n more None is = none_walks a.embs all n more is
  embedded_at_walks a read at n more (Some e) is = embedded_walks a.embs all a.is_body a.in_loop a.labels at n more e is (read n e is)

  mutual
    pub statement_walks : (a : Around) → AllAreReferences a.embs → (ns : List ℕ) (s : StmtData) → Walking a.embs all (declared_in s) (stmt_numbers s ns) ns (statement a s)
    statement_walks a read ns (stmt line kind) = behind (none (place_stays line) (place_denotes line)) (λ at. kind_walks a read ns at kind)

    kind_walks : (a : Around) → AllAreReferences a.embs → (ns : List ℕ) (at : Place) (kind : StmtKindData) → Walking a.embs all (declared_in_kind kind) (kind_numbers kind ns) ns (statement_kind a at kind)
    kind_walks a read ns at empty_stmt = pure_walks _
    kind_walks a read ns at (expr_stmt e) = behind (none (expr_stays at e) (expr_denotes at e)) (λ o. pure_walks _)
    kind_walks a read ns at (block_stmt ss) = scoped_walks (statements_walk (as_item a) read ns ss)
    kind_walks a read ns at (if_stmt e s other) =
        scoped_walks (behind (none (condition_stays at e) (condition_denotes at e)) (λ x. both (declared_in s) (declared_in_option other) (scoped_walks (statement_walks (as_body a) read (else_numbers other ns) s)) (λ y. otherwise_walks (as_body a) read ns other)))
    kind_walks a read ns at (while_stmt e s) = scoped_walks (behind (none (condition_stays at e) (condition_denotes at e)) (λ x. scoped_walks (statement_walks (looping a) read ns s)))
    kind_walks a read ns at (do_stmt s e) = scoped_walks (before (scoped_walks (statement_walks (looping a) read ns s)) (λ x. none (condition_stays at e) (condition_denotes at e)))
    kind_walks a read ns at (for_stmt x y z s) =
        scoped_walks (behind (none (optional_stays at x) (optional_denotes at x)) (λ b. behind (none (optional_condition_stays at y) (optional_condition_denotes at y)) (λ c. behind (none (optional_stays at z) (optional_denotes at z)) (λ d. scoped_walks (statement_walks (looping a) read ns s)))))
    kind_walks a read ns at break_stmt = none (demand_stays _ _ _) (demand_denotes _ _ _)
    kind_walks a read ns at continue_stmt = none (demand_stays _ _ _) (demand_denotes _ _ _)
    kind_walks a read ns at (return_stmt e) = none (return_stays at a.result e) (return_denotes at a.result e)
    kind_walks a read ns at (goto_stmt l) = none (demand_stays _ _ _) (demand_denotes _ _ _)
    kind_walks a read ns at (label_stmt l s) = behind (none (label_stays at l) (label_denotes at l)) (λ x. statement_walks (as_body a) read ns s)
    kind_walks a read ns at (decl_stmt d) = declaration_walks false d
    kind_walks a read ns at (emb_stmt n) = embedded_at_walks a read at n ns (slice_get a.embs n) refl
    kind_walks a read ns at (mark_stmt opens) = pure_walks _

    pub statements_walk : (a : Around) → AllAreReferences a.embs → (ns : List ℕ) (ss : StmtList) → Walking a.embs all (declared_in_all ss) (stmts_numbers ss ns) ns (statements a ss)
    statements_walk a read ns no_stmts = pure_walks _
    statements_walk a read ns (stmts s ss) = both (declared_in s) (declared_in_all ss) (statement_walks a read (stmts_numbers ss ns) s) (λ x. statements_walk a read ns ss)

    otherwise_walks : (a : Around) → AllAreReferences a.embs → (ns : List ℕ) (o : StmtOption) → Walking a.embs all (declared_in_option o) (else_numbers o ns) ns (otherwise a o)
    otherwise_walks a read ns no_stmt = pure_walks _
    otherwise_walks a read ns (some_stmt s) = scoped_walks (statement_walks a read ns s)
