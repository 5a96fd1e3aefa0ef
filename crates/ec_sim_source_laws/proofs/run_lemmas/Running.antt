-- The text that is written of an accepted source is run as what is written.
use Rattle.std.proofs.Common.{◌≡◌, ◌∙◌, ℕ, true, false, List, [], refl, sym, ap, subst, Option, Some, None, Result, Ok, Err, ◌⊎◌, inl, inr}
use Rattle.ec_base.specs.declared.fault.LimitKind.TheVariants.{L2, L3, L6}
use Rattle.ec_base.specs.declared.fault.LimitKind.{LimitKind}
use Rattle.ec_base.specs.declared.stop.Stop.{Stop}
use Rattle.ec_base.specs.declared.stop.Stop.TheVariants.{Limit}
use Rattle.ec_ctypes.specs.trees.Checked.{BoundData, TypedData}
use Rattle.ec_ctypes.specs.trees.Units.{UnitData}
use Rattle.ec_direct_defs.specs.Direct.{direct_meaning}
use Rattle.ec_meaning_defs.specs.evaluation.State.{Answer}
use Rattle.ec_execution_defs.specs.Programs.{Executable, executable, resolved, IsProgram, left_of, meaning}
use Rattle.ec_expansion_defs.specs.Programs.{written_program}
use Rattle.ec_language.specs.First.{Violation, first_of, stop_at, Reads}
use Rattle.ec_language.specs.Letters.{Text}
use Rattle.ec_phases_defs.specs.Sources.{bound_from, BoundProgram}
use Rattle.ec_readback_laws.specs.ReadBack.{read_back, IsReadBack}
use Rattle.ec_host_defs.specs.sections.Answers.{hosts_answer}
use Rattle.ec_host_defs.specs.sections.Declared.{hosts_of}
use Rattle.ec_direct_defs.specs.simulation.Written.{written_meaning, meaning_by, meaning_of_written}
use Rattle.ec_phases_defs.specs.translation.Translations.{text_of_program}
use Rattle.ec_typing_defs.specs.Answers.{checked, violations, typed_of, answer_by, check_answer}
use Rattle.ec_writing_defs.specs.Programs.{written_text}
use Rattle.ec_writing_defs.specs.Shapes.{is_written_shape}
use Rattle.ec_phases_defs.specs.written.Written.{plain, checked_with, checked_plain, checked_written, ReadsWritten}
use Rattle.ec_sim_source_laws.specs.meaning.Meanings.{MeanTheSame}
use Rattle.ec_sim_source_laws.specs.run.Runs.{IsReadAs, KeepsItsMeaning, MeansSource, IsRunOf}

-- ---- the checks of what is read back

checked_is : (v : UnitData) (hosts : List ℕ) → hosts_answer v ≡ Ok hosts → violations true v ≡ [] → checked_plain v ≡ Ok (typed_of v hosts [] (checked true v).world)
unfolding checked_plain checked_with
checked_is v hosts h none =
    (λ i. checked_with v (h i)) ∙ (λ i. answer_by v hosts [] (checked true v).world (stop_at (first_of (none i))))

read_again : (v : UnitData) (tree : Result UnitData Stop) → v.embs ≡ [] → tree ≡ Ok v → checked_written tree ≡ checked_plain v
unfolding checked_written
read_again v tree none e = ap checked_written e ∙ (λ i. checked_plain (record v { embs = sym none i }))

limited : (limit : LimitKind) → checked_written (Err (Limit limit)) ≡ Err (Limit limit)
unfolding checked_written
limited limit = refl

-- ---- what it is read as

pub read_as : (v : UnitData) → violations true v ≡ [] → hosts_answer v ≡ Ok (hosts_of v) → v.embs ≡ [] → (tree : Result UnitData Stop)
    → (tree ≡ Ok v) ⊎ (tree ≡ Err (Limit L2)) ⊎ (tree ≡ Err (Limit L3)) ⊎ (tree ≡ Err (Limit L6)) → IsReadAs v (checked_written tree)
read_as v none hosts plain tree (inl is) = subst (IsReadAs v) (sym (read_again v tree plain is ∙ checked_is v (hosts_of v) hosts none)) refl
read_as v none hosts plain tree (inr (inl is)) = subst (λ t. IsReadAs v (checked_written t)) (sym is) (subst (IsReadAs v) (sym (limited L2)) (inl refl))
read_as v none hosts plain tree (inr (inr (inl is))) = subst (λ t. IsReadAs v (checked_written t)) (sym is) (subst (IsReadAs v) (sym (limited L3)) (inr (inl refl)))
read_as v none hosts plain tree (inr (inr (inr is))) = subst (λ t. IsReadAs v (checked_written t)) (sym is) (subst (IsReadAs v) (sym (limited L6)) (inr (inr refl)))

-- ---- what it means

pub keeps_its_meaning : (p : BoundProgram) → MeanTheSame p.program → bound_from p.program 0 p.program.unit.embs ≡ Ok p.bounds → KeepsItsMeaning p
keeps_its_meaning p same bound turns ready answers = sym (same turns ready answers ∙ ap (meaning_by p.program turns ready answers) bound)

-- ---- what it is run as

meant : (p : BoundProgram) → MeanTheSame p.program → bound_from p.program 0 p.program.unit.embs ≡ Ok p.bounds → (turns : ℕ) (ready : Option (ℕ × List ℕ)) (answers : List Answer)
    → meaning (executable (written_program p.program p.bounds)) turns ready answers ≡ direct_meaning p.program turns ready answers
unfolding meaning
meant p same bound turns ready answers = keeps_its_meaning p same bound turns ready answers

pub run_of : (p : BoundProgram) → MeanTheSame p.program → bound_from p.program 0 p.program.unit.embs ≡ Ok p.bounds
    → violations true (written_program p.program p.bounds) ≡ [] → hosts_answer (written_program p.program p.bounds) ≡ Ok (hosts_of (written_program p.program p.bounds))
    → ((a : Result UnitData Stop) → Reads true (text_of_program p) a → IsReadBack (written_program p.program p.bounds) a)
    → (x : Result Executable Stop) → IsProgram (text_of_program p) x → IsRunOf p x
run_of p same bound none hosts back x (left_of read reads e) = subst (IsRunOf p) (sym (e ∙ ap resolved reads.is)) (by_tree reads.tree (back reads.tree reads.reads))
  where
    by_tree : (tree : Result UnitData Stop) → IsReadBack (written_program p.program p.bounds) tree → IsRunOf p (resolved (checked_written tree))
    by_tree tree (inl is) =
        subst (λ t. IsRunOf p (resolved t)) (sym (read_again (written_program p.program p.bounds) tree refl is ∙ checked_is (written_program p.program p.bounds) (hosts_of (written_program p.program p.bounds)) hosts none))
        (record { is = refl; means = meant p same bound })
    by_tree tree (inr (inl is)) = subst (λ t. IsRunOf p (resolved (checked_written t))) (sym is) (subst (λ t. IsRunOf p (resolved t)) (sym (limited L2)) (inl refl))
    by_tree tree (inr (inr (inl is))) = subst (λ t. IsRunOf p (resolved (checked_written t))) (sym is) (subst (λ t. IsRunOf p (resolved t)) (sym (limited L3)) (inr (inl refl)))
    by_tree tree (inr (inr (inr is))) = subst (λ t. IsRunOf p (resolved (checked_written t))) (sym is) (subst (λ t. IsRunOf p (resolved t)) (sym (limited L6)) (inr (inr refl)))
