-- What is known where a statement stands, and what stands round it.
use Rattle.std.specs.Prelude.{◌≡◌, ℕ, Bool, true, false, List, Some, is_some}
use Rattle.ec_ctypes.specs.trees.Units.{UnitData}
use Rattle.ec_language.specs.Letters.{Text}
use Rattle.ec_resolving_defs.specs.Programs.{no_storage}
use Rattle.ec_typing_defs.specs.Programs.{start}
use Rattle.ec_typing_defs.specs.Known.{is_reserved}
use Rattle.ec_typing_defs.specs.Statements as checked
use Rattle.ec_typing_defs.specs.Tables.{find}
use Rattle.ec_typing_defs.specs.Worlds.{EntryData, World, look_up}
use Rattle.ec_meaning_defs.specs.resolved.Labels.{holds_any}
use Rattle.ec_meaning_defs.specs.resolved.Resolved.{named, Stms}
use Rattle.ec_resolving_defs.specs.Operands.{place_in}
use Rattle.ec_resolving_defs.specs.Storage.{Storage}
use Rattle.ec_sim_program_laws.proofs.types_lemmas.Rules.{Sound}
use Rattle.ec_sim_world_laws.specs.closing.Closing.{IsTyped}
use Rattle.ec_sound_defs.specs.Sorts.{Sort}
use Rattle.ec_sound_defs.specs.Sound.{Signature, Around}
use Rattle.ec_sound_form_laws.specs.Names.{gives_of}
use Rattle.ec_sound_statement_laws.specs.Sites.{Standing}

-- no name that is in scope is reserved
abbrev pub Free : World → Type 0
Free w = (name : Text) (entry : EntryData) → look_up name w ≡ Some entry → is_reserved name ≡ false

-- what names stand for, and members of structs, have types
pub record IsGood (written : Bool) (w : World) : Type 0 where
  pub is_written : w.written ≡ written
  pub sound : Sound w
  pub free : Free w

-- and names stand for objects that are in scope, and for functions with their signatures
pub record IsKnown (gs : List Signature) (written : Bool) (s : Storage) (w : World) : Type 0 where
  pub good : IsGood written w
  pub defined : w.defined ≡ s.defined
  pub standing : Standing gs s w

-- in the body of a function that gives such values, with so many objects in scope
abbrev pub here_in : Stms → Sort → ℕ → Bool → Around
here_in body gives n loops = record { count = n; loops = loops; breaks = loops; body = body; gives = gives }

-- the result has a type, and each label that a jump may name is in the body
pub record IsInside (body : Stms) (gives : Sort) (a : checked.Around) : Type 0 where
  pub typed : IsTyped a.result
  pub gives_it : gives ≡ gives_of a.result
  pub labels : (l : Text) → is_some (find l a.labels) ≡ true
      → holds_any (named (place_in l a.labels)) body ≡ true

-- at the start of a program
abbrev pub StartIsKnown : Type 0
StartIsKnown = (gs : List Signature) (written : Bool) (u : UnitData)
    → IsKnown gs written (no_storage u) (start written u)
