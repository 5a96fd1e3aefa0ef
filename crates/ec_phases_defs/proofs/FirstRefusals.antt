-- From how a text is read to what it is refused for first.
use Rattle.std.proofs.Common.{◌≡◌, Bool, true, false, Option, Some, None, Result, Ok, Err, refl, sym, ap, ◌∙◌}
use Rattle.ec_base.specs.declared.stop.Stop.{Stop}
use Rattle.ec_ctypes.specs.trees.Checked.{TypedData}
use Rattle.ec_language.specs.Letters.{Text}
use Rattle.ec_phases_defs.specs.First.{First, Accepted, refusal_of}
use Rattle.ec_phases_defs.specs.Sources.{BoundProgram, ReadsSource}
use Rattle.ec_phases_defs.specs.written.Written.{ReadsWritten}

pub one_first : ((text : Text) (a b : Result BoundProgram Stop) → ReadsSource text a → ReadsSource text b → a ≡ b)
    → ((text : Text) (a b : Result TypedData Stop) → ReadsWritten text a → ReadsWritten text b → a ≡ b)
    → (text : Text) (written : Bool) (a b : Option Stop) → First text written a → First text written b → a ≡ b
one_first source written text false a b (x, r, e) (y, q, f) = e ∙ ap refusal_of (source text x y r q) ∙ sym f
one_first source written text true a b (x, r, e) (y, q, f) = e ∙ ap refusal_of (written text x y r q) ∙ sym f

pub there_is_a_first : ((text : Text) → (answer : Result BoundProgram Stop) × ReadsSource text answer)
    → ((text : Text) → (answer : Result TypedData Stop) × ReadsWritten text answer)
    → (text : Text) (written : Bool) → (found : Option Stop) × First text written found
there_is_a_first source written text false = let r = source text in (refusal_of r.0, (r.0, r.1, refl))
there_is_a_first source written text true = let r = written text in (refusal_of r.0, (r.0, r.1, refl))

program_of : (text : Text) (answer : Result BoundProgram Stop) → ReadsSource text answer → None ≡ refusal_of answer → (p : BoundProgram) × ReadsSource text (Ok p)
program_of text (Ok p) r e = (p, r)
program_of text (Err stop) r e = absurd (cc (e))

pub accepted_is_read : (text : Text) → Accepted text → (p : BoundProgram) × ReadsSource text (Ok p)
accepted_is_read text h = program_of text h.0 h.1 h.2

pub read_is_accepted : (text : Text) (p : BoundProgram) → ReadsSource text (Ok p) → Accepted text
read_is_accepted text p r = (Ok p, r, refl)
