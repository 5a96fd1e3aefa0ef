-- Statements are sound where nothing is wrong with them, by induction over the trees.
use Rattle.std.proofs.Common.{◌≡◌, ℕ, ◌+◌, Bool, true, false, List, [], ◌∷◌, length, Option, Some, None, refl, sym, subst, arith}
use Rattle.std.specs.Prelude.{is_some}
use Rattle.ec_base.specs.declared.fault.FaultKind.TheVariants.{F18}
use Rattle.ec_ctypes.specs.trees.Exprs.{DeclData}
use Rattle.ec_ctypes.specs.trees.Stmts.{StmtData, stmt, StmtKindData, empty_stmt, expr_stmt, block_stmt, if_stmt, while_stmt, do_stmt, for_stmt, break_stmt, continue_stmt, return_stmt, goto_stmt, label_stmt, decl_stmt, emb_stmt, mark_stmt, StmtList, no_stmts, stmts, StmtOption, no_stmt, some_stmt}
use Rattle.ec_typing_defs.specs.Tables.{find}
use Rattle.ec_typing_defs.specs.Statements as checked
use Rattle.ec_typing_defs.specs.Statements.{as_body, looping, as_item}
use Rattle.ec_typing_defs.specs.Worlds.{Place, World, demand, note, pure as check_pure}
use Rattle.ec_meaning_defs.specs.resolved.Resolved.{Exp, Stm, on_line, nothing, evaluate, choose, loop, leave, next, goto, label, named, Stms, no_stms, stms as two_stms}
use Rattle.ec_resolving_defs.specs.Agreement.{nothing_of, around_of}
use Rattle.ec_resolving_defs.specs.Operands.{place_in}
use Rattle.ec_resolving_defs.specs.Statements.{list_of, together, declaration, objects_of_decl, objects_in, objects_in_kind, objects_in_all, objects_in_option, behind_first_part, with_sizes, statement, statement_kind, statements, otherwise}
use Rattle.ec_resolving_defs.specs.Storage.{LibraryCall}
use Rattle.ec_sim_world_laws.proofs.known_lemmas.NamesRules.{place_stays, label_stays}
use Rattle.ec_sim_world_laws.proofs.known_lemmas.SitesIdle.{demand_idle}
use Rattle.ec_sim_program_laws.proofs.types_lemmas.Fits as tree
use Rattle.ec_sim_program_laws.proofs.types_lemmas.Rules.{place_types, label_types}
use Rattle.ec_sound_defs.specs.Sorts.{Sort, any_sort}
use Rattle.ec_sound_defs.specs.Sound.{Signature, Atoms, Around, Has, HasOption, Sound, SoundAll}
use Rattle.ec_sound_defs.specs.Written.{library_atoms}
use Rattle.ec_sound_statement_laws.proofs.Making.{none_more, both_more}
use Rattle.ec_sound_statement_laws.proofs.Sites.{quiet_pure, quiet_alone, quiet_condition, quiet_optional, quiet_optional_condition, quiet_return}
use Rattle.ec_sound_program_laws.specs.Standing.{here_in, IsInside}
use Rattle.ec_sound_program_laws.specs.Plain.{StmtIsPlain, KindIsPlain, StmtsArePlain, OtherIsPlain, DeclIsPlain}
use Rattle.ec_sound_program_laws.proofs.Runs.{Run, chained, carried, room_is, embed, checked_run, pure_run, answered, scoped_run, block_run}
use Rattle.ec_sound_program_laws.proofs.Sides.{idle_pure}
use Rattle.ec_sound_program_laws.proofs.Values.{condition_walks, alone_walks, optional_walks, optional_condition_walks, return_walks}

demanded : (at : Place) (b : Bool) (w : World) → (demand at F18 b w).found ≡ [] → b ≡ true
unfolding demand note check_pure
demanded at true w e = refl
demanded at false w e = absurd (cc)

module _ (gs : List Signature) (calls : List LibraryCall) (written : Bool) (body : Stms) (gives : Sort) where
  abbrev Library : Atoms
  Library = library_atoms gs calls

  abbrev pub here : ℕ → Bool → Around
  here n loops = here_in body gives n loops

  abbrev IsSound : ℕ → Bool → Stm → Type 0
  IsSound n loops x = Sound gs Library (here n loops) x

  abbrev pub AllSound : ℕ → Bool → List Stm → Type 0
  AllSound n loops [] = Unit {0}
  AllSound n loops (x ∷ xs) = IsSound n loops x × AllSound n loops xs

  abbrev Inside : checked.Around → Type 0
  Inside a = IsInside body gives a

  inside_body : (a : checked.Around) → Inside a → Inside (as_body a)
  inside_body a h = record { typed = h.typed; gives_it = h.gives_it; labels = h.labels }

  inside_loop : (a : checked.Around) → Inside a → Inside (looping a)
  inside_loop a h = record { typed = h.typed; gives_it = h.gives_it; labels = h.labels }

  inside_item : (a : checked.Around) → Inside a → Inside (as_item a)
  inside_item a h = record { typed = h.typed; gives_it = h.gives_it; labels = h.labels }

  -- ---- statements without a block of their own

  none_more_objects : (n : ℕ) → n + 0 ≡ n
  none_more_objects n = omega (arith)

  all_list : (n : ℕ) (loops : Bool) (xs : List Stm) → AllSound n loops xs → SoundAll gs Library (here n loops) (list_of xs)
  all_list n loops [] h = tt
  all_list n loops (x ∷ xs) h = (h.0, all_list n loops xs h.1)

  sound_together : (n : ℕ) (loops : Bool) (xs : List Stm) → AllSound n loops xs → IsSound n loops (together xs)
  sound_together n loops [] h = tt
  sound_together n loops (x ∷ []) h = h.0
  sound_together n loops (x ∷ y ∷ xs) h = subst (λ k. SoundAll gs Library (here k loops) (list_of (x ∷ y ∷ xs))) (sym (none_more_objects n)) (all_list n loops (x ∷ y ∷ xs) h)

  first_sound : (n : ℕ) (loops : Bool) (first : Option Exp) (x : Stm) → HasOption gs Library n first → IsSound n loops x → IsSound n loops (behind_first_part first x)
  first_sound n loops None x f h = h
  first_sound n loops (Some e) x f h = sound_together n loops (evaluate e ∷ x ∷ []) (f, (h, tt))

  block_sound : (n k : ℕ) (loops : Bool) (b : List ℕ × Stms) → length b.0 ≡ k → SoundAll gs Library (here (n + k) loops) b.1 → IsSound n loops (with_sizes b)
  block_sound n k loops b e h = subst (λ j. SoundAll gs Library (here (n + j) loops) b.1) (sym e) h

  -- ---- the parts

  -- by what declarations are
  module _ (declared : (n j : ℕ) (loops : Bool) (d : DeclData) → tree.FitsDecl d → DeclIsPlain d
      → Run gs calls written n (objects_of_decl d + j) j nothing_of (λ w. Unit {0}) (λ w xs. AllSound n loops xs) (declaration false d) (checked.declaration false d)) where
    mutual
      pub statement_run : (a : checked.Around) → Inside a → (n j : ℕ) (x : StmtData) → tree.FitsStmt x → StmtIsPlain x
          → Run gs calls written n (objects_in x + j) j nothing_of (λ w. Unit {0}) (λ w y. IsSound n a.in_loop y) (statement (around_of a) x) (checked.statement a x)
      statement_run a i n j (stmt line kind) h p =
          chained gs calls written _ (checked_run gs calls written (place_stays line) (place_types line)) (λ at. answered gs calls written (λ y. on_line line.0 y) (λ y. refl) (λ w y q. q) (kind_run a i n j at kind h p))

      kind_run : (a : checked.Around) → Inside a → (n j : ℕ) (at : Place) (kind : StmtKindData) → tree.FitsKind kind → KindIsPlain kind
          → Run gs calls written n (objects_in_kind kind + j) j nothing_of (λ w. Unit {0}) (λ w y. IsSound n a.in_loop y) (statement_kind (around_of a) at kind) (checked.statement_kind a at kind)
      kind_run a i n j at empty_stmt h p = room_is gs calls written (none_more j) (pure_run gs calls written nothing (λ w r. tt))
      kind_run a i n j at (expr_stmt e) h p = room_is gs calls written (none_more j) (answered gs calls written (λ x. evaluate x) (λ x. refl) (λ w x q. q) (embed gs calls written (quiet_alone at e) (alone_walks gs calls n written at e h p)))
      kind_run a i n j at (block_stmt ss) h p =
          room_is gs calls written (none_more j) (answered gs calls written (λ b. with_sizes b) (λ b. refl) (λ w b q. block_sound n (objects_in_all ss) a.in_loop b q.0 q.1)
          (block_run gs calls written (objects_in_all ss) (statements_run (as_item a) (inside_item a i) (n + objects_in_all ss) 0 ss h p)))
      kind_run a i n j at (if_stmt e s other) h p =
          room_is gs calls written (both_more (objects_in s) (objects_in_option other) j) (scoped_run gs calls written
          (chained gs calls written _ (embed gs calls written (quiet_condition at e) (condition_walks gs calls n written at e h.0 p.0)) (λ x.
          chained gs calls written _ (carried gs calls written (Has gs Library n any_sort x) (scoped_run gs calls written (statement_run (as_body a) (inside_body a i) n (objects_in_option other + j) s h.1 p.1))) (λ y.
          answered gs calls written (λ z. choose x y z) (λ z. refl) (λ w z q. (q.0.0, q.0.1, q.1)) (carried gs calls written (Has gs Library n any_sort x × IsSound n a.in_loop y) (otherwise_run (as_body a) (inside_body a i) n j other h.2 p.2))))))
      kind_run a i n j at (while_stmt e s) h p =
          scoped_run gs calls written (chained gs calls written _ (embed gs calls written (quiet_condition at e) (condition_walks gs calls n written at e h.0 p.0)) (λ x.
          answered gs calls written (λ y. loop true (Some x) None y) (λ y. refl) (λ w y q. (q.0, tt, q.1)) (carried gs calls written (Has gs Library n any_sort x) (scoped_run gs calls written (statement_run (looping a) (inside_loop a i) n j s h.1 p.1)))))
      kind_run a i n j at (do_stmt s e) h p =
          scoped_run gs calls written (chained gs calls written _ (scoped_run gs calls written (statement_run (looping a) (inside_loop a i) n j s h.0 p.0)) (λ y.
          answered gs calls written (λ x. loop false (Some x) None y) (λ x. refl) (λ w x q. (q.1, tt, q.0)) (carried gs calls written (IsSound n true y) (embed gs calls written (quiet_condition at e) (condition_walks gs calls n written at e h.1 p.1)))))
      kind_run a i n j at (for_stmt x y z s) h p =
          scoped_run gs calls written (chained gs calls written _ (embed gs calls written (quiet_optional at x) (optional_walks gs calls n written at x h.0 p.0)) (λ first.
          chained gs calls written _ (carried gs calls written (HasOption gs Library n first) (embed gs calls written (quiet_optional_condition at y) (optional_condition_walks gs calls n written at y h.1 p.1))) (λ test.
          chained gs calls written _ (carried gs calls written (HasOption gs Library n first × HasOption gs Library n test) (embed gs calls written (quiet_optional at z) (optional_walks gs calls n written at z h.2 p.2))) (λ behind.
          answered gs calls written (λ k. behind_first_part first (loop true test behind k)) (λ k. refl) (λ w k q. first_sound n a.in_loop first (loop true test behind k) q.0.0.0 (q.0.0.1, q.0.1, q.1))
          (carried gs calls written ((HasOption gs Library n first × HasOption gs Library n test) × HasOption gs Library n behind) (scoped_run gs calls written (statement_run (looping a) (inside_loop a i) n j s h.3 p.3)))))))
      kind_run a i n j at break_stmt h p =
          room_is gs calls written (none_more j) (embed gs calls written (quiet_pure leave) (idle_pure gs calls n written leave _ (demand_idle at F18 a.in_loop) (λ w. refl) (λ w r found. demanded at a.in_loop w found)))
      kind_run a i n j at continue_stmt h p =
          room_is gs calls written (none_more j) (embed gs calls written (quiet_pure next) (idle_pure gs calls n written next _ (demand_idle at F18 a.in_loop) (λ w. refl) (λ w r found. demanded at a.in_loop w found)))
      kind_run a i n j at (return_stmt e) h p =
          room_is gs calls written (none_more j) (embed gs calls written (quiet_return at a.result e) (return_walks gs calls written (here n a.in_loop) at a.result e i.typed i.gives_it h p))
      kind_run a i n j at (goto_stmt l) h p =
          room_is gs calls written (none_more j) (embed gs calls written (quiet_pure (goto (place_in l a.labels))) (idle_pure gs calls n written (goto (place_in l a.labels)) _ (demand_idle at F18 (is_some (find l a.labels))) (λ w. refl)
          (λ w r found. i.labels l (demanded at (is_some (find l a.labels)) w found))))
      kind_run a i n j at (label_stmt l s) h p =
          chained gs calls written _ (checked_run gs calls written (label_stays at l) (label_types at l)) (λ u. answered gs calls written (λ x. label (named (place_in l a.labels)) x) (λ x. refl) (λ w x q. q) (statement_run (as_body a) (inside_body a i) n j s h p))
      kind_run a i n j at (decl_stmt d) h p = answered gs calls written (λ xs. together xs) (λ xs. refl) (λ w xs q. sound_together n a.in_loop xs q) (declared n j a.in_loop d h p)
      kind_run a i n j at (emb_stmt k) h p = absurd p
      kind_run a i n j at (mark_stmt opens) h p = room_is gs calls written (none_more j) (pure_run gs calls written nothing (λ w r. tt))

      pub statements_run : (a : checked.Around) → Inside a → (n j : ℕ) (ss : StmtList) → tree.FitStmts ss → StmtsArePlain ss
          → Run gs calls written n (objects_in_all ss + j) j nothing_of (λ w. Unit {0}) (λ w ys. SoundAll gs Library (here n a.in_loop) ys) (statements (around_of a) ss) (checked.statements a ss)
      statements_run a i n j no_stmts h p = room_is gs calls written (none_more j) (pure_run gs calls written no_stms (λ w r. tt))
      statements_run a i n j (stmts s ss) h p =
          room_is gs calls written (both_more (objects_in s) (objects_in_all ss) j) (chained gs calls written _ (statement_run a i n (objects_in_all ss + j) s h.0 p.0) (λ x.
          answered gs calls written (λ xs. two_stms x xs) (λ xs. refl) (λ w xs q. q) (carried gs calls written (IsSound n a.in_loop x) (statements_run a i n j ss h.1 p.1))))

      otherwise_run : (a : checked.Around) → Inside a → (n j : ℕ) (o : StmtOption) → tree.FitsOther o → OtherIsPlain o
          → Run gs calls written n (objects_in_option o + j) j nothing_of (λ w. Unit {0}) (λ w y. IsSound n a.in_loop y) (otherwise (around_of a) o) (checked.otherwise a o)
      otherwise_run a i n j no_stmt h p = room_is gs calls written (none_more j) (pure_run gs calls written nothing (λ w r. tt))
      otherwise_run a i n j (some_stmt s) h p = scoped_run gs calls written (statement_run a i n j s h p)
