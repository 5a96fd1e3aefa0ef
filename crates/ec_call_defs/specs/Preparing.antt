-- ECPGprepare and ECPGdeallocate. Prepared statements belong to their connection, and their names compare byte for byte. No transaction is begun before them.
use Rattle.std.specs.Prelude.{ℕ, true, false, List, [], ◌∷◌}
use Rattle.ec_arguments.specs.Arguments.{TextArg}
use Rattle.ec_link.specs.declared.request.Request.TheVariants as request
use Rattle.ec_meaning_defs.specs.evaluation.State.{State}
use Rattle.ec_call_defs.specs.Outcomes.{Text, Outcome, gives, next, begun_area}
use Rattle.ec_call_defs.specs.Connections.{same_name, connection_for, changed_at, asked}
use Rattle.ec_call_defs.specs.Inputs.{text_read, given_read}
use Rattle.ec_call_defs.specs.Answers.{taken}
use Rattle.ec_call_defs.specs.Marks.{with_marks}
use Rattle.ec_call_defs.specs.Running.{prepared_text, found_text}

-- with this text under a name: in the place of the one that is there, or behind all others
abbrev pub with_text : Text → Text → List (Text × Text) → List (Text × Text)
with_text name text [] = (name, text) ∷ []
with_text name text (p ∷ ps) =
    elim (same_name p.0 name) [ true ↦ (name, text) ∷ ps | false ↦ p ∷ with_text name text ps ]

abbrev pub without_text : Text → List (Text × Text) → List (Text × Text)
without_text name [] = []
without_text name (p ∷ ps) =
    elim (same_name p.0 name) [ true ↦ ps | false ↦ p ∷ without_text name ps ]

-- the prepared statements of a connection, changed
abbrev pub prepared_anew : ℕ → (List (Text × Text) → List (Text × Text)) → State → State
prepared_anew slot change s =
    record s {
      connections = changed_at slot
          (λ c. record c { prepared = change c.prepared }) s.connections;
    }

-- the text is sent with its marks as parameters, and is there once the server took it
abbrev pub prepare_call : ℕ → TextArg ℕ → Text → TextArg ℕ → State → Outcome (Unit {0})
prepare_call line connection name text s =
    next (text_read connection s) (λ called s.
    next (given_read text s) (λ bytes s.
    next (begun_area s) (λ _ s.
    next (connection_for line called s) (λ c s.
    next (asked c.slot (request.Prepare name (with_marks bytes)) s) (λ reply s.
    next (taken line reply s) (λ _ s.
    gives tt (prepared_anew c.slot (with_text name (with_marks bytes)) s)))))))

-- the name is gone once the server took it. A name that isn't there is a code, and nothing is sent
abbrev pub deallocate_call : ℕ → TextArg ℕ → Text → State → Outcome (Unit {0})
deallocate_call line connection name s =
    next (text_read connection s) (λ called s.
    next (begun_area s) (λ _ s.
    next (connection_for line called s) (λ c s.
    next (found_text line (prepared_text name c.prepared) (λ bytes. bytes) s) (λ _ s.
    next (asked c.slot (request.Deallocate name) s) (λ reply s.
    next (taken line reply s) (λ _ s.
    gives tt (prepared_anew c.slot (without_text name) s)))))))
