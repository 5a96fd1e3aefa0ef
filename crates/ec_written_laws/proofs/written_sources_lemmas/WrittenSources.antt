-- What is written of an accepted source has the written shape.
use Rattle.std.proofs.Common.{◌≡◌, ℕ, zero, suc, ◌≤◌, true, false, ◌&&◌, List, [], ◌∷◌, length, refl, sym, ap, ◌∙◌, subst, Option, Some, None, Result, Ok, Err}
use Rattle.std.specs.Prelude.{◌||◌, slice_get, option_map, option_and_then}
use Rattle.ec_base.specs.declared.stop.Stop.{Stop}
use Rattle.ec_ctypes.specs.declared.text.piece.Piece.{Piece}
use Rattle.ec_ctypes.specs.trees.Checked.{MarkData, BoundData, TypedData}
use Rattle.ec_ctypes.specs.trees.Embedded.{EmbKindData, connect, set_connection, disconnect, autocommit, trans, server_text, declare_cursor, open_cursor, execute_immediate, prepare, execute, deallocate, allocate_area, free_area, get_count, get_items, set_count, set_items, whenever, include_sqlca, EmbData}
use Rattle.ec_ctypes.specs.trees.Stmts.{StmtKindData}
use Rattle.ec_ctypes.specs.trees.Tokens.{TokenData}
use Rattle.ec_ctypes.specs.trees.Units.{TopData, UnitData}
use Rattle.ec_language.specs.First.{max_text}
use Rattle.ec_language.specs.Letters.{Text, each}
use Rattle.ec_language.specs.Pieces.{Pieces}
use Rattle.ec_language.specs.Syntax.{TreeOrStop}
use Rattle.ec_language.specs.Tokens.{Tokens}
use Rattle.ec_language.proofs.Ends.{both}
use Rattle.ec_host_defs.specs.sections.Answers.{hosts_answer}
use Rattle.ec_typing_defs.specs.Worlds.{World}
use Rattle.ec_typing_defs.specs.Answers.{checked, stop_of_unit, answer_by, check_answer}
use Rattle.ec_typing_defs.specs.statement_parts.Handlers.{marks_in, action_among}
use Rattle.ec_whenever.specs.Tables.{table_of}
use Rattle.ec_host_defs.specs.Statements.{with_statements}
use Rattle.ec_phases_defs.specs.Sources.{ReadsTree, statements, checked_with, checked_tree, bound_from, BoundProgram, program_with, bound_program, ReadsSource}
use Rattle.ec_writing_defs.specs.Shapes.{is_byte, is_line, is_written_shape}
use Rattle.ec_written_laws.specs.source.SourceShape.{are_source_tokens, are_source_tops, is_source_shape}
use Rattle.ec_written_laws.specs.source.Kept.{written, is_kept}
use Rattle.ec_expansion_defs.specs.Calls.{prepared_opened, call_by}
use Rattle.ec_expansion_defs.specs.Programs.{block_of, block_for, embedded, unit_of}
use Rattle.ec_expansion_defs.specs.Statements.{written_tops}
use Rattle.ec_written_laws.specs.written.Blocks.{IsBlockOption}
use Rattle.ec_written_laws.specs.written.Bounds.{are_written_actions, is_written_statement, are_written_statements, is_written_bound}
use Rattle.ec_written_laws.specs.bound.Counts.{are_counted}
use Rattle.ec_written_laws.specs.bound.Written.{is_directive, has_written_hosts, have_written_hosts, are_hosts_written}
use Rattle.ec_written_laws.specs.written_sources.Written.{written_of}
use Rattle.ec_written_laws.proofs.written_sources_lemmas.Statements.{AreStatements, statements_written, source_statements}

-- ---- the phases one after the other

-- a program with types, of a tree
record OfTree (u : UnitData) (t : TypedData) : Type 0 where
  hosts : List ℕ
  sections : hosts_answer u ≡ Ok hosts
  checks : check_answer false u hosts (table_of (marks_in u.embs)) ≡ Ok t
  same : t.unit ≡ u

same_unit : (u : UnitData) (hosts : List ℕ) (handlers : List MarkData) (w : World) (t : TypedData) (x : Option Stop) → answer_by u hosts handlers w x ≡ Ok t → t.unit ≡ u
same_unit u hosts handlers w t None e = ap unit_in (sym e)
  where
    unit_in : Result TypedData Stop → UnitData
    unit_in (Ok t) = t.unit
    unit_in (Err stop) = u
same_unit u hosts handlers w t (Some stop) e = absurd (cc)

of_tree : (u : UnitData) (t : TypedData) → checked_tree (Ok u) ≡ Ok t → OfTree u t
of_tree u t e = go (hosts_answer u) refl e
  where
    go : (a : Result (List ℕ) Stop) → hosts_answer u ≡ a → checked_with u a ≡ Ok t → OfTree u t
    go (Ok hosts) h e = record { hosts = hosts; sections = h; checks = e; same = same_unit u hosts (table_of (marks_in u.embs)) (checked false u).world t (stop_of_unit false u) e }
    go (Err stop) h e = absurd (cc)

record OfChecked (a : Result UnitData Stop) (t : TypedData) : Type 0 where
  unit : UnitData
  is : a ≡ Ok unit
  made : OfTree unit t

of_checked : (a : Result UnitData Stop) (t : TypedData) → checked_tree a ≡ Ok t → OfChecked a t
of_checked (Ok u) t e = record { unit = u; is = refl; made = of_tree u t e }
of_checked (Err stop) t e = absurd (cc)

typed_is : (t : TypedData) (bs : Result (List BoundData) Stop) (p : BoundProgram) → program_with t bs ≡ Ok p → p.program ≡ t
typed_is t (Ok bs) p e = sym (ap program_in e)
  where
    program_in : Result BoundProgram Stop → TypedData
    program_in (Ok q) = q.program
    program_in (Err stop) = t
typed_is t (Err stop) p e = absurd (cc)

record OfBoundProgram (a : Result TypedData Stop) (p : BoundProgram) : Type 0 where
  typed : TypedData
  is : a ≡ Ok typed
  same : p.program ≡ typed

of_bound : (a : Result TypedData Stop) (p : BoundProgram) → bound_program a ≡ Ok p → OfBoundProgram a p
of_bound (Ok t) p e = record { typed = t; is = refl; same = typed_is t (bound_from t 0 t.unit.embs) p e }
of_bound (Err stop) p e = absurd (cc)

-- ---- the shape

same_tops : (u v : UnitData) (es : Result (List EmbData) Stop) → Ok v ≡ with_statements u es → u.tops ≡ v.tops
same_tops u v (Ok es) e = sym (ap tops_in e)
  where
    tops_in : Result UnitData Stop → List TopData
    tops_in (Ok x) = x.tops
    tops_in (Err stop) = u.tops
same_tops u v (Err stop) e = absurd (cc)

no_statement : (es : List EmbData) (handlers : List MarkData) (bounds : List BoundData) (n : ℕ) → es ≡ [] → IsBlockOption (embedded handlers es bounds n)
no_statement [] handlers bounds n e = tt
no_statement (x ∷ es) handlers bounds n e = absurd (cc)

-- by the laws of the phases and of what is written
module _
    (tokens_are : (text : Text) (pieces : List Piece) (ts : List TokenData) → each is_byte text ≡ true → length text ≤ max_text → Pieces text pieces → Tokens false pieces ts → are_source_tokens ts ≡ true)
    (derived_shape : (ts : List TokenData) (u : UnitData) → are_source_tokens ts ≡ true → TreeOrStop ts (Ok u) → is_source_shape u ≡ true)
    (phases_kept : (u : UnitData) (hosts : List ℕ) (handlers : List MarkData) (t : TypedData) → hosts_answer u ≡ Ok hosts → check_answer false u hosts handlers ≡ Ok t → is_kept written u ≡ true)
    (program_is : (u : UnitData) (embedded : ℕ → Option StmtKindData) → is_source_shape u ≡ true → is_kept written u ≡ true → ((n : ℕ) → IsBlockOption (embedded n)) → is_written_shape (unit_of (written_tops embedded u.tops)) ≡ true)
    (block_for_is : (handlers : List MarkData) (es : List EmbData) (n : ℕ) (e : EmbData) (b : BoundData) → is_line e.line.0 ≡ true → are_written_actions e.line.0 (action_among handlers e.place) ≡ true → are_written_statements es ≡ true → is_written_statement e.kind ≡ true
    → is_written_bound e.line.0 b ≡ true → IsBlockOption (block_for handlers es n e b))
    (hosts_are : (text : Text) (p : BoundProgram) → each is_byte text ≡ true → ReadsSource text (Ok p) → are_counted p.bounds ≡ true → are_hosts_written p ≡ true)
  where
    tree_shape : (text : Text) (v : UnitData) → each is_byte text ≡ true → ReadsTree text (Ok v) → is_source_shape v ≡ true
    tree_shape text v b (statements pieces ts u es answer l c x is r e) = subst (λ ts. are_source_tops ts ≡ true) (same_tops u v es e) (derived_shape ts u (tokens_are text pieces ts b l c x) is)

    -- of no directive
    block_is : (handlers : List MarkData) (all : List EmbData) (n : ℕ) (e : EmbData) (b : BoundData) → is_line e.line.0 ≡ true → are_written_statements all ≡ true → is_written_statement e.kind ≡ true → has_written_hosts handlers e b ≡ true → IsBlockOption (block_for handlers all n e b)
    block_is handlers all n e b l a s h = go e.kind refl h
      where
        none : is_directive e.kind ≡ false → has_written_hosts handlers e b ≡ true → IsBlockOption (block_for handlers all n e b)
        none d h =
            let p = both (are_written_actions e.line.0 (action_among handlers e.place)) (is_written_bound e.line.0 b) (sym (λ i. d i || (are_written_actions e.line.0 (action_among handlers e.place) && is_written_bound e.line.0 b)) ∙ h) in
            block_for_is handlers all n e b l p.0 a s p.1

        nothing : (kind : EmbKindData) → kind ≡ e.kind → call_by (prepared_opened all n e) kind b ≡ None → IsBlockOption (block_for handlers all n e b)
        nothing kind k c = subst IsBlockOption (sym (ap (λ x. option_map (block_of handlers e) x) (ap (λ x. call_by (prepared_opened all n e) x b) (sym k) ∙ c))) tt

        go : (kind : EmbKindData) → kind ≡ e.kind → has_written_hosts handlers e b ≡ true → IsBlockOption (block_for handlers all n e b)
        go (declare_cursor cursor parts prepared) k h = nothing (declare_cursor cursor parts prepared) k refl
        go (whenever condition action) k h = nothing (whenever condition action) k refl
        go include_sqlca k h = nothing include_sqlca k refl
        go (connect target name user password) k h = none (ap is_directive (sym k)) h
        go (set_connection name) k h = none (ap is_directive (sym k)) h
        go (disconnect name) k h = none (ap is_directive (sym k)) h
        go (autocommit on) k h = none (ap is_directive (sym k)) h
        go (trans text) k h = none (ap is_directive (sym k)) h
        go (server_text parts outs) k h = none (ap is_directive (sym k)) h
        go (open_cursor cursor ins) k h = none (ap is_directive (sym k)) h
        go (execute_immediate text) k h = none (ap is_directive (sym k)) h
        go (prepare name text) k h = none (ap is_directive (sym k)) h
        go (execute name ins outs) k h = none (ap is_directive (sym k)) h
        go (deallocate name) k h = none (ap is_directive (sym k)) h
        go (allocate_area area) k h = none (ap is_directive (sym k)) h
        go (free_area area) k h = none (ap is_directive (sym k)) h
        go (get_count area target) k h = none (ap is_directive (sym k)) h
        go (get_items area index items) k h = none (ap is_directive (sym k)) h
        go (set_count area value) k h = none (ap is_directive (sym k)) h
        go (set_items area index items) k h = none (ap is_directive (sym k)) h

    embedded_is : (handlers : List MarkData) (all es : List EmbData) (bounds : List BoundData) (from n : ℕ) → are_written_statements all ≡ true → AreStatements es → have_written_hosts handlers es bounds ≡ true
        → IsBlockOption (option_and_then (λ e. option_and_then (block_for handlers all from e) (slice_get bounds n)) (slice_get es n))
    embedded_is handlers all [] bounds from n a s h = tt
    embedded_is handlers all (e ∷ es) [] from zero a s h = tt
    embedded_is handlers all (e ∷ es) [] from (suc n) a s h = none (slice_get es n)
      where
        none : (x : Option EmbData) → IsBlockOption (option_and_then (λ e. option_and_then (block_for handlers all from e) None) x)
        none None = tt
        none (Some e) = tt
    embedded_is handlers all (e ∷ es) (b ∷ bs) from zero a s h = block_is handlers all from e b s.0 a s.1 (both (has_written_hosts handlers e b) (have_written_hosts handlers es bs) h).0
    embedded_is handlers all (e ∷ es) (b ∷ bs) from (suc n) a s h = embedded_is handlers all es bs from n a s.2 (both (has_written_hosts handlers e b) (have_written_hosts handlers es bs) h).1

    -- ---- the law

    module _ (text : Text) (p : BoundProgram) (b : each is_byte text ≡ true) (r : ReadsSource text (Ok p)) where
      bound : OfBoundProgram r.0 p
      bound = of_bound r.0 p (sym r.2)

      tree : OfChecked r.1.0 bound.typed
      tree = of_checked r.1.0 bound.typed (sym r.1.2 ∙ bound.is)

      same_program : p.program.unit ≡ tree.unit
      same_program = ap (λ (t : TypedData). t.unit) bound.same ∙ tree.made.same

      shape : is_source_shape p.program.unit ≡ true
      shape = subst (λ u. is_source_shape u ≡ true) (sym same_program) (tree_shape text tree.unit b (subst (ReadsTree text) tree.is r.1.1))

      kept : is_kept written p.program.unit ≡ true
      kept = subst (λ u. is_kept written u ≡ true) (sym same_program)
          (phases_kept tree.unit tree.made.hosts (table_of (marks_in tree.unit.embs)) bound.typed tree.made.sections tree.made.checks)

      statements_are : AreStatements p.program.unit.embs
      statements_are = subst (λ u. AreStatements u.embs) (sym same_program) (source_statements text tree.unit b (subst (ReadsTree text) tree.is r.1.1))

      by_blocks : ((n : ℕ) → IsBlockOption (embedded p.program.handlers p.program.unit.embs p.bounds n)) → is_written_shape (written_of p) ≡ true
      by_blocks blocks = program_is p.program.unit (embedded p.program.handlers p.program.unit.embs p.bounds) shape kept blocks

    pub with_statements_shape : (text : Text) (p : BoundProgram) → each is_byte text ≡ true → ReadsSource text (Ok p) → are_counted p.bounds ≡ true → is_written_shape (written_of p) ≡ true
    with_statements_shape text p b r c =
        let s = statements_are text p b r in
        let h = hosts_are text p b r c in
        by_blocks text p b r (λ n. embedded_is p.program.handlers p.program.unit.embs p.program.unit.embs p.bounds n n (statements_written p.program.unit.embs s) s h)

    pub without_statements_shape : (text : Text) (p : BoundProgram) → each is_byte text ≡ true → ReadsSource text (Ok p) → p.program.unit.embs ≡ [] → is_written_shape (written_of p) ≡ true
    without_statements_shape text p b r h = by_blocks text p b r (λ n. no_statement p.program.unit.embs p.program.handlers p.bounds n h)
