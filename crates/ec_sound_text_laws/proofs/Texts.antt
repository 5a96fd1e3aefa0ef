-- A text that is read as written C and refused by no phase.
use Rattle.std.proofs.Common.{◌≡◌, ℕ, Bool, true, false, List, [], ◌∷◌, refl, sym, ap, subst, Option, Some, None, Result, Ok, Err, if◌then◌else◌}
use Rattle.ec_base.specs.declared.stop.Stop.{Stop}
use Rattle.ec_ctypes.specs.trees.Checked.{TypedData}
use Rattle.ec_ctypes.specs.trees.Units.{UnitData}
use Rattle.ec_host_defs.specs.sections.Answers.{hosts_answer}
use Rattle.ec_language.specs.First.{Violation, comes_before, earlier, first_of, stop_at, Reads, tokens}
use Rattle.ec_language.specs.Letters.{Text}
use Rattle.ec_phases_defs.specs.written.Written.{plain, checked_with, checked_plain, checked_written, ReadsWritten}
use Rattle.ec_typing_defs.specs.Answers.{checked, violations, typed_of, stop_of_unit, answer_by}
use Rattle.ec_sim_program_laws.proofs.flat_lemmas.FlatTrees.{tree_is_flat}
use Rattle.ec_sound_text_laws.specs.Texts.{IsReadProgram}
use Rattle.ec_sound_text_laws.proofs.Fitting.{unit_fits}
use Rattle.ec_sound_text_laws.proofs.Shallow.{tree_is_shallow}
use Rattle.ec_sound_text_laws.proofs.Steps.{derived_read}
use Rattle.ec_sound_text_laws.proofs.Tokens.{tokens_read}

some_earlier : (v : Violation) (x : Option Violation) → stop_at (earlier v x) ≡ None → ⊥
some_earlier v None e = cc
some_earlier v (Some w) e = go (comes_before w v) e
  where
    go : (b : Bool) → stop_at (if b then Some w else Some v) ≡ None → ⊥
    go true e = cc
    go false e = cc

none_first : (vs : List Violation) → stop_at (first_of vs) ≡ None → vs ≡ []
none_first [] e = refl
none_first (v ∷ vs) e = absurd (some_earlier v (first_of vs) e)

abbrev read_as : TypedData → Result TypedData Stop
read_as t = Ok t

ok_is : (a b : TypedData) → read_as a ≡ read_as b → a ≡ b
ok_is a b e = λ i. typed_or (e i)
  where
    typed_or : Result TypedData Stop → TypedData
    typed_or (Ok t) = t
    typed_or (Err stop) = a

-- the phases behind the syntax
record IsAccepted (u : UnitData) (t : TypedData) : Type 0 where
  hosts : List ℕ
  sections : hosts_answer u ≡ Ok hosts
  stops : stop_of_unit true u ≡ None
  unit : t.unit ≡ u

accepted : (u : UnitData) (t : TypedData) → Ok t ≡ checked_plain u → IsAccepted u t
unfolding checked_plain checked_with
accepted u t e = by_hosts (hosts_answer u) refl e
  where
    by_stop : (hosts : List ℕ) → hosts_answer u ≡ Ok hosts → (s : Option Stop) → stop_of_unit true u ≡ s → Ok t ≡ answer_by u hosts [] (checked true u).world s → IsAccepted u t
    by_stop hosts is None none e = record { hosts = hosts; sections = is; stops = none; unit = ap (λ x. x.unit) (ok_is t (typed_of u hosts [] (checked true u).world) e) }
    by_stop hosts is (Some stop) some e = absurd (cc)

    by_hosts : (a : Result (List ℕ) Stop) → hosts_answer u ≡ a → Ok t ≡ checked_with u a → IsAccepted u t
    by_hosts (Ok hosts) is e = by_stop hosts is (stop_of_unit true u) refl e
    by_hosts (Err stop) is e = absurd (cc)

read_so : (text : Text) (tree : Result UnitData Stop) (t : TypedData) → Reads true text tree → Ok t ≡ checked_written tree → IsReadProgram t.unit
unfolding checked_written
read_so text (Err stop) t r e = absurd (cc)
read_so text (Ok v) t (tokens pieces ts answer short cut lexed derived) e =
    let u = plain v in
    let a = accepted u t e in
    let flat = tree_is_flat ts v derived in
    let read = derived_read ts v (tokens_read pieces ts lexed) derived in
    subst (λ x. IsReadProgram x) (sym a.unit) (record {
      embs = refl;
      read = read;
      flat = flat;
      fit = unit_fits u a.hosts a.sections read flat;
      nothing_wrong = none_first (violations true u) a.stops;
      shallow = tree_is_shallow pieces ts v u lexed derived refl refl flat;
    })

pub text_read : (text : Text) (t : TypedData) → ReadsWritten text (Ok t) → IsReadProgram t.unit
text_read text t r = read_so text r.tree t r.reads r.is
