-- Nothing is written for a directive.
use Rattle.std.proofs.Common.{◌≡◌, ◌∙◌, ℕ, true, List, refl, Option, Some, None}
use Rattle.std.proofs.lemmas.Bool.{false≢true}
use Rattle.std.specs.Prelude.{slice_get, option_map, option_and_then}
use Rattle.ec_ctypes.specs.trees.Checked.{MarkData, BoundData}
use Rattle.ec_ctypes.specs.trees.Embedded.{EmbData, EmbKindData, declare_cursor, whenever, include_sqlca}
use Rattle.ec_language.specs.Letters.{Text}
use Rattle.ec_typing_defs.specs.statement_parts.Handlers.{is_directive}
use Rattle.ec_expansion_defs.specs.Calls.{call_by, prepared_opened}
use Rattle.ec_expansion_defs.specs.Programs.{block_of, block_for, embedded}

no_call : (name : Option Text) (e : EmbData) (b : BoundData) (k : EmbKindData) → is_directive (record e { kind = k }) ≡ true → call_by name k b ≡ None
no_call name e b (whenever c a) d = refl
no_call name e b include_sqlca d = refl
no_call name e b (declare_cursor c ps p) d = refl
no_call name e b _ d = absurd (false≢true d)

no_block : (handlers : List MarkData) (es : List EmbData) (n : ℕ) (e : EmbData) → is_directive e ≡ true → (b : Option BoundData) → option_and_then (block_for handlers es n e) b ≡ None
no_block handlers es n e d None = refl
no_block handlers es n e d (Some b) = λ i. option_map (block_of handlers e) (no_call (prepared_opened es n e) e b e.kind d i)

pub nothing_written : (handlers : List MarkData) (es : List EmbData) (bounds : List BoundData) (n : ℕ) (e : EmbData) → slice_get es n ≡ Some e → is_directive e ≡ true → embedded handlers es bounds n ≡ None
nothing_written handlers es bounds n e here d =
    (λ i. option_and_then (λ x. option_and_then (block_for handlers es n x) (slice_get bounds n)) (here i))
    ∙ no_block handlers es n e d (slice_get bounds n)
