-- The program that is written of an accepted source is flat.
use Rattle.std.proofs.Common.{◌≡◌, ℕ, zero, suc, true, List, [], ◌∷◌, refl, sym, ap, subst, Option, Some, None, Result, Ok, Err}
use Rattle.std.specs.Prelude.{slice_get, option_and_then}
use Rattle.ec_base.specs.declared.stop.Stop.{Stop}
use Rattle.ec_ctypes.specs.declared.embedded.emb.Cond.{Cond}
use Rattle.ec_ctypes.specs.trees.Checked.{MarkData, BoundData, TypedData}
use Rattle.ec_ctypes.specs.trees.Embedded.{PartData, ActionData, EmbKindData, declare_cursor, EmbData}
use Rattle.ec_expansion_defs.specs.Programs.{block_for, embedded, written_program}
use Rattle.ec_host_defs.specs.Bound.{cursor_parts, program_of, statement_bound, violations_at, answer_by, bound_answer}
use Rattle.ec_host_defs.specs.Faults.{row_at}
use Rattle.ec_language.specs.First.{first_of, stop_at}
use Rattle.ec_language.specs.Letters.{Text}
use Rattle.ec_phases_defs.proofs.Order.{stand_in_order}
use Rattle.ec_phases_defs.specs.Sources.{with_bound, bound_from, BoundProgram}
use Rattle.ec_phases_defs.specs.translation.Accepted.{IsAcceptedText}
use Rattle.ec_sim_program_laws.specs.types.Flat.{TopsAreFlat}
use Rattle.ec_sim_program_laws.proofs.flat_lemmas.FlatSources.{source_is_flat}
use Rattle.ec_sim_source_laws.proofs.meaning_lemmas.Accepted.{of_source}
use Rattle.ec_sound_text_laws.proofs.Blocks.{MayBeFlat, IsSimpleOption, block_for_flat}
use Rattle.ec_sound_text_laws.proofs.Bound.{BoundIsFlat, statement_flat}
use Rattle.ec_sound_text_laws.proofs.WrittenTrees.{tops_flat}
use Rattle.ec_typing_defs.specs.statement_parts.Cursors.{declare_opened, declared_above, opened_cursor}
use Rattle.ec_typing_defs.specs.statement_parts.Handlers.{marks_in, action_among, handler}
use Rattle.ec_whenever.specs.Tables.{table_of, AnswersFor}
use Rattle.ec_whenever.proofs.Tables.{table_answers}
use Rattle.ec_written_laws.specs.bound.Names.{is_simple_action}
use Rattle.ec_written_laws.proofs.bound_lemmas.Each.{OfList, OfPart, OfKind}
use Rattle.ec_written_laws.proofs.bound_lemmas.EmbeddedRules.{AreSimple}
use Rattle.ec_written_laws.proofs.bound_lemmas.Forms.{Simple, Bytes, SimpleAction}
use Rattle.ec_written_laws.proofs.bound_lemmas.References.{from_some}
use Rattle.ec_written_laws.proofs.bound_lemmas.StatementTokens.{IsSource, AreSource, source_statements, are_simple_statements}

-- ---- statements by their numbers

source_at : (es : List EmbData) (n : ℕ) (e : EmbData) → AreSource es → slice_get es n ≡ Some e → IsSource e
source_at [] n e h i = absurd (cc)
source_at (x ∷ es) zero e h i = let same : x ≡ e = cc in subst IsSource same h.0
source_at (x ∷ es) (suc n) e h i = source_at es n e h.1 i

bound_at : (bs : List BoundData) (n : ℕ) (b : BoundData) → OfList BoundIsFlat bs → slice_get bs n ≡ Some b → BoundIsFlat b
bound_at [] n b h i = absurd (cc)
bound_at (x ∷ bs) zero b h i = let same : x ≡ b = cc in subst BoundIsFlat same h.0
bound_at (x ∷ bs) (suc n) b h i = bound_at bs n b h.1 i

-- ---- what is bound for them

declared_parts : (k : EmbKindData) → OfKind Simple Bytes SimpleAction k → OfList (OfPart Simple Bytes) (elim k as (λ _. List PartData) [ declare_cursor cursor ps prepared ↦ ps | _ ↦ [] ])
declared_parts (declare_cursor cursor ps prepared) h = h
declared_parts _ h = tt

opened_parts : (es : List EmbData) (m : ℕ) (e : EmbData) → AreSource es → OfList (OfPart Simple Bytes) (cursor_parts (declare_opened es m e))
opened_parts es m e h = go (declare_opened es m e) refl
  where
    go : (d : Option EmbData) → declare_opened es m e ≡ d → OfList (OfPart Simple Bytes) (cursor_parts d)
    go None i = tt
    go (Some d) i =
        let s = from_some (λ cursor. option_and_then (λ k. slice_get es k) (declared_above es m cursor)) (opened_cursor e) d i in
        let r = from_some (λ k. slice_get es k) (declared_above es m s.0) d s.2 in
        declared_parts d.kind (source_at es r.0 d h r.2).1

same_bound : (b c : BoundData) (x : Option Stop) → answer_by b x ≡ Ok c → b ≡ c
same_bound b c None e = cc
same_bound b c (Some stop) e = absurd (cc)

module _ (t : TypedData) (are : AreSource t.unit.embs) where
  answer_flat : (m : ℕ) (e : EmbData) (b : BoundData) → IsSource e → bound_answer t m e ≡ Ok b → BoundIsFlat b
  answer_flat m e b h i =
      subst BoundIsFlat (same_bound (statement_bound (program_of t) e (declare_opened t.unit.embs m e) (row_at t.denoted m)) b (stop_at (first_of (violations_at t m e))) i)
      (statement_flat (program_of t) e (declare_opened t.unit.embs m e) (row_at t.denoted m) h (opened_parts t.unit.embs m e are))

  bounds_flat : (m : ℕ) (es : List EmbData) → AreSource es → (bs : List BoundData) → bound_from t m es ≡ Ok bs → OfList BoundIsFlat bs
  bounds_flat m [] h bs e = let same : [] ≡ bs = cc in subst (OfList BoundIsFlat) same tt
  bounds_flat m (x ∷ es) h bs e = go (bound_answer t m x) refl (bound_from t (suc m) es) (bounds_flat (suc m) es h.1) e
    where
      go : (a : Result BoundData Stop) → bound_answer t m x ≡ a → (r : Result (List BoundData) Stop) → ((cs : List BoundData) → r ≡ Ok cs → OfList BoundIsFlat cs) → with_bound a r ≡ Ok bs → OfList BoundIsFlat bs
      go (Ok b) i (Ok cs) f e = let same : b ∷ cs ≡ bs = cc in subst (OfList BoundIsFlat) same (answer_flat m x b h.0 i, f cs refl)
      go (Ok b) i (Err stop) f e = absurd (cc)
      go (Err stop) i r f e = absurd (cc)

-- ---- what is written for them

module _ (handlers : List MarkData) (es : List EmbData) (bounds : List BoundData) (simple : (place : ℕ) (c : Cond) → IsSimpleOption (action_among handlers place c)) (flat : OfList BoundIsFlat bounds) where
  with_bounds : (n : ℕ) (e : EmbData) (b : Option BoundData) → slice_get bounds n ≡ b → MayBeFlat (option_and_then (block_for handlers es n e) b)
  with_bounds n e None i = tt
  with_bounds n e (Some b) i = block_for_flat handlers es n e b (simple e.place) (bound_at bounds n b flat i)

  of_statement : (n : ℕ) (e : Option EmbData) → MayBeFlat (option_and_then (λ e. option_and_then (block_for handlers es n e) (slice_get bounds n)) e)
  of_statement n None = tt
  of_statement n (Some e) = with_bounds n e (slice_get bounds n) refl

  embedded_flat : (n : ℕ) → MayBeFlat (embedded handlers es bounds n)
  embedded_flat n = of_statement n (slice_get es n)

simple_option : (a : Option ActionData) → ((x : ActionData) → a ≡ Some x → is_simple_action x ≡ true) → IsSimpleOption a
simple_option None h = tt
simple_option (Some a) h = h a refl

actions_simple : (es : List EmbData) (table : List MarkData) → AnswersFor table es → AreSimple es → (place : ℕ) (c : Cond) → IsSimpleOption (action_among table place c)
actions_simple es table answers simple place c = subst IsSimpleOption (sym (answers.actions place c)) (simple_option (handler es place c) (simple.actions place c))

-- ---- the program

pub source_flat : (text : Text) (p : BoundProgram) → IsAcceptedText text p → TopsAreFlat (written_program p.program p.bounds).tops
source_flat text p h =
    let s = of_source text p h.reads in
    let u = p.program.unit in
    let are = source_statements text u h.bytes s.tree in
    let handlers : p.program.handlers ≡ table_of (marks_in u.embs) = ap (λ (t : TypedData). t.handlers) s.made.is in
    let simple = actions_simple u.embs (table_of (marks_in u.embs)) (table_answers u.embs (stand_in_order text u s.tree)) (are_simple_statements u.embs are) in
    tops_flat (embedded p.program.handlers u.embs p.bounds)
    (embedded_flat p.program.handlers u.embs p.bounds (subst (λ t. (place : ℕ) (c : Cond) → IsSimpleOption (action_among t place c)) (sym handlers) simple) (bounds_flat p.program are 0 u.embs are p.bounds s.bound))
    u.tops (source_is_flat text u s.tree)
