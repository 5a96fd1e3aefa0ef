-- An accepted source means what is written of it means.
use Rattle.std.proofs.Common.{◌≡◌, ◌≤◌, ◌∙◌, ℕ, zero, suc, true, false, List, [], ◌∷◌, length, refl, sym, subst, ap, Option, Some, Ok, Result, Err}
use Rattle.std.specs.Prelude.{slice_get}
use Rattle.ec_base.specs.declared.stop.Stop.{Stop}
use Rattle.ec_ctypes.specs.trees.Checked.{TypedData, BoundData}
use Rattle.ec_ctypes.specs.trees.Embedded.{EmbData}
use Rattle.ec_ctypes.specs.trees.Stmts.{StmtKindData}
use Rattle.ec_ctypes.specs.trees.Units.{UnitData}
use Rattle.ec_language.specs.Letters.{Text, each}
use Rattle.ec_written_laws.specs.bound.Numbers.{tops_numbers, numbers_from}
use Rattle.ec_expansion_defs.specs.Programs.{embedded, written_program}
use Rattle.ec_phases_defs.specs.Sources.{ReadsTree, bound_from, BoundProgram, ReadsSource}
use Rattle.ec_host_defs.specs.sections.Answers.{hosts_answer}
use Rattle.ec_written_laws.specs.source.SourceShape.{is_source_shape}
use Rattle.ec_typing_defs.specs.statement_parts.Handlers.{marks_in}
use Rattle.ec_typing_defs.specs.Answers.{checked, violations, typed_of}
use Rattle.ec_typing_defs.specs.Worlds.{StructInfo}
use Rattle.ec_whenever.specs.Tables.{table_of, are_in_order}
use Rattle.ec_writing_defs.specs.Shapes.{is_byte}
use Rattle.ec_meaning_defs.specs.resolved.Programs.{Program}
use Rattle.ec_resolving_defs.specs.Programs.{resolve, embedded_statements_of, library_calls_of}
use Rattle.ec_resolving_defs.specs.Storage.{LibraryCall}
use Rattle.ec_meaning_defs.specs.evaluation.State.{Answer}
use Rattle.ec_meaning_defs.specs.evaluation.Whole.{Observed, program_meaning}
use Rattle.ec_call_defs.specs.Steps.{library_step}
use Rattle.ec_direct_defs.specs.Direct.{direct_meaning}
use Rattle.ec_direct_defs.specs.simulation.Written.{meaning_by, meaning_of_written}
use Rattle.ec_sim_statement_laws.specs.expression.Worlds.{SameStructs}
use Rattle.ec_sim_statement_laws.specs.statement.Copies.{IsProgramCopy}
use Rattle.ec_sim_world_laws.specs.known.Laws.{WalkKeeps}
use Rattle.ec_sim_host_laws.specs.table.Laws.{TablesAreSound}
use Rattle.ec_sim_program_laws.specs.program.Embedded.{EmbeddedAreCopied}
use Rattle.ec_sim_program_laws.specs.program.Laws.{PartsAreAlike}
use Rattle.ec_sim_program_laws.specs.program.Programs.{written_of, whole_of, blocks_of, blocks_in, IsWrittenCopy}
use Rattle.ec_sim_program_laws.specs.program.Shape.{TopsStand}
use Rattle.ec_sim_host_laws.specs.reference.Rows.{IndexesAreTyped}
use Rattle.ec_sim_program_laws.specs.types.Types.{max_nesting, StructsAreShallow, HasAllTypes, SourcesHaveTypes}
use Rattle.ec_sim_source_laws.specs.object.Objects.{CursorsAreOfObjects}
use Rattle.ec_sim_program_laws.specs.flat.Laws.{SourcesAreFlat, SourcesAreShallow}
use Rattle.ec_written_laws.specs.bound.Counts.{are_counted}
use Rattle.ec_sim_source_laws.specs.count.Counted.{StatementsAreCounted, SourcesAreCounted}
use Rattle.ec_sim_program_laws.specs.shape.Shapes.{AllAreRead, StatementsAreRead}
use Rattle.ec_sim_source_laws.specs.block.Accepted.{IsAccepted, StatementLaws, StatementsAreCopied}
use Rattle.ec_phases_defs.specs.translation.Accepted.{IsAcceptedText}
use Rattle.ec_sim_source_laws.specs.meaning.Meanings.{MeanTheSame}
use Rattle.ec_sim_source_laws.proofs.meaning_lemmas.Accepted.{OfTree, OfSource, of_source, no_violation}

same_program : (t : TypedData) (u : UnitData) (hosts : List ℕ) → t ≡ typed_of u hosts (table_of (marks_in u.embs)) (checked false u).world → t ≡ typed_of u t.hosts t.handlers (checked false u).world
same_program t u hosts e = e ∙ (λ i. typed_of u (sym e i).hosts (sym e i).handlers (checked false u).world)

-- structs that are the same begin with as many types
as_shallow : (ss ts : List StructInfo) → SameStructs ss ts → ((k : ℕ) (info : StructInfo) → slice_get ss k ≡ Some info → length info.first ≤ max_nesting)
    → (k : ℕ) (info : StructInfo) → slice_get ts k ≡ Some info → length info.first ≤ max_nesting
as_shallow [] [] same h k info e = absurd (cc)
as_shallow [] (t ∷ ts) same h k info e = absurd same
as_shallow (s ∷ ss) [] same h k info e = absurd same
as_shallow (s ∷ ss) (t ∷ ts) same h zero info e = let is : t ≡ info = cc in subst (λ (i : StructInfo). length i.first ≤ max_nesting) is (subst (λ f. length f ≤ max_nesting) (sym same.0.first) (h 0 s refl))
as_shallow (s ∷ ss) (t ∷ ts) same h (suc k) info e = as_shallow ss ts same.1 (λ j x i. h (suc j) x i) k info e

module _ (numbers_of : (text : Text) (v : UnitData) → ReadsTree text (Ok v) → tops_numbers v.tops [] ≡ numbers_from 0 (length v.embs))
    (shape_of : (text : Text) (v : UnitData) → each is_byte text ≡ true → ReadsTree text (Ok v) → is_source_shape v ≡ true)
    (in_order : (text : Text) (u : UnitData) → ReadsTree text (Ok u) → are_in_order u.embs ≡ true)
    (read : StatementsAreRead) (sound : TablesAreSound) (walk : (u : UnitData) → WalkKeeps u) (parts : PartsAreAlike)
    (stand : (text : Text) (u : UnitData) (hosts : List ℕ) → ReadsTree text (Ok u) → hosts_answer u ≡ Ok hosts → is_source_shape u ≡ true → TopsStand u.embs u.tops)
    (types : SourcesHaveTypes) (flat : SourcesAreFlat) (shallow : SourcesAreShallow) (objects : CursorsAreOfObjects)
    (laws : StatementLaws) (copied : StatementsAreCopied)
    (copies : (t : TypedData) (embedded : ℕ → Option StmtKindData) → TopsStand t.unit.embs t.unit.tops → violations false t.unit ≡ [] → PartsAreAlike → WalkKeeps t.unit
    → EmbeddedAreCopied (whole_of (blocks_in t (written_of embedded t.unit)) t.unit (written_of embedded t.unit)) t.unit.embs embedded
    → IsWrittenCopy (blocks_in t (written_of embedded t.unit)) t.unit (written_of embedded t.unit))
    (mean : (t : TypedData) (calls : List LibraryCall) (q : Program) → IsProgramCopy (blocks_of t (embedded_statements_of false t.unit) calls) (resolve false t.unit) q
    → (turns : ℕ) (ready : Option (ℕ × List ℕ)) (answers : List Answer) → direct_meaning t turns ready answers ≡ program_meaning (library_step calls) q turns ready answers) where
  typed : (text : Text) (p : BoundProgram) (h : IsAcceptedText text p) → HasAllTypes p.program.unit (of_source text p h.reads).made.hosts (table_of (marks_in p.program.unit.embs))
  typed text p h =
      let s = of_source text p h.reads in
      let are = read text p.program.unit s.tree in
      let none = no_violation p.program.unit s.made.without_stop in
      types p.program.unit s.made.hosts (table_of (marks_in p.program.unit.embs)) s.made.sections none (shape_of text p.program.unit h.bytes s.tree) (numbers_of text p.program.unit s.tree)
      (λ n e i. record { are_references = (are n e i).are_references; actions = (are n e i).actions })
      (flat text p.program.unit s.tree) (shallow text p.program.unit s.tree none)

  accepted : (text : Text) (p : BoundProgram) (h : IsAcceptedText text p) → IsAccepted p.program p.bounds
  accepted text p h =
      let s = of_source text p h.reads in
      let none = no_violation p.program.unit s.made.without_stop in
      record {
        is = same_program p.program p.program.unit s.made.hosts s.made.is;
        handlers = ap (λ (t : TypedData). t.handlers) s.made.is;
        without_violation = none;
        bound = s.bound;
        numbers = numbers_of text p.program.unit s.tree;
        read = read text p.program.unit s.tree;
        indexes = subst IndexesAreTyped (sym s.made.is) (typed text p h).indexes;
        cursors = objects p.program p.bounds (same_program p.program p.program.unit s.made.hosts s.made.is) none s.bound (numbers_of text p.program.unit s.tree) (read text p.program.unit s.tree);
        in_order = in_order text p.program.unit s.tree;
        sound = sound p.program.unit (shape_of text p.program.unit h.bytes s.tree) none (typed text p h).structs;
      }

  copy : (text : Text) (p : BoundProgram) (h : IsAcceptedText text p)
      → let v = written_program p.program p.bounds in IsWrittenCopy (blocks_in p.program v) p.program.unit v
  copy text p h =
      let s = of_source text p h.reads in
      let a = accepted text p h in
      copies p.program (embedded p.program.handlers p.program.unit.embs p.bounds)
      (stand text p.program.unit s.made.hosts s.tree s.made.sections (shape_of text p.program.unit h.bytes s.tree))
      a.without_violation parts (walk p.program.unit) (copied laws p.program p.bounds a)

  pub without_violation : (text : Text) (p : BoundProgram) → IsAcceptedText text p → violations true (written_program p.program p.bounds) ≡ []
  without_violation text p h = (copy text p h).without_fault

  pub written_shallow : (text : Text) (p : BoundProgram) → IsAcceptedText text p → StructsAreShallow (checked true (written_program p.program p.bounds)).world
  written_shallow text p h =
      as_shallow (checked false p.program.unit).world.structs (checked true (written_program p.program p.bounds)).world.structs (copy text p h).structs
      (shallow text p.program.unit (of_source text p h.reads).tree (accepted text p h).without_violation)

  by_bounds : (t : TypedData) (bs : Result (List BoundData) Stop) (bounds : List BoundData) → bs ≡ Ok bounds → (turns : ℕ) (ready : Option (ℕ × List ℕ)) (answers : List Answer)
      → meaning_by t turns ready answers bs ≡ meaning_by t turns ready answers (Ok bounds)
  by_bounds t bs bounds e turns ready answers = ap (meaning_by t turns ready answers) e

  pub means : (text : Text) (p : BoundProgram) → IsAcceptedText text p → MeanTheSame p.program
  means text p h = λ turns ready answers.
      mean p.program (library_calls_of true (written_program p.program p.bounds)) (resolve true (written_program p.program p.bounds)) (copy text p h).copy turns ready answers
      ∙ sym (by_bounds p.program (bound_from p.program 0 p.program.unit.embs) p.bounds (accepted text p h).bound turns ready answers)

  pub counted : StatementsAreCounted → SourcesAreCounted → (text : Text) (p : BoundProgram) → IsAcceptedText text p → are_counted p.bounds ≡ true
  counted one all text p h = all laws one p.program p.bounds (accepted text p h) (copy text p h).found
