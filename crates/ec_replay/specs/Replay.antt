-- What is made of a transcript that is replayed. `left` and `faults` are the members of the source.
use Rattle.std.specs.Prelude.{◌≡◌, ℕ, ◌+◌, Bool, List, [], ◌∷◌, Option}
use Rattle.ec_base.specs.Reading.{ReadsAll}
use Rattle.ec_link.specs.declared.logged.Logged.{Logged}
use Rattle.ec_link.specs.Logged.{talk_of}
use Rattle.ec_transcript.specs.States.{Slots}
use Rattle.ec_transcript.specs.Text.{Bytes}
use Rattle.ec_transcript.specs.Transcripts.{IsRead}
use Rattle.ec_replay.specs.declared.replaying.Replayed.{Replayed}
use Rattle.ec_replay.specs.Part.{replaying}

-- the most bytes that are read
abbrev pub most : ℕ
most = 16777216

-- a slot of a transcript, with the link over its part of the log
abbrev pub replayed : Bool × Bytes → ℕ → List Logged → Replayed
replayed slot i log = record { ready = slot.0; target = slot.1; link = replaying (talk_of i log) }

-- the slots from number i on, each with its link
abbrev pub links_from : ℕ → Slots → List Logged → List Replayed
links_from i [] log = []
links_from i (slot ∷ slots) log = replayed slot i log ∷ links_from (i + 1) slots log

-- each slot of a transcript, in order, with its link
abbrev pub links_of : Slots → List Logged → List Replayed
links_of slots log = links_from 0 slots log

-- the text is the transcript of some slots and a log, in one of the versions, and these are their links
pub record AreLinks (text : Bytes) (links : List Replayed) : Type 0 where
  pub slots : Slots
  pub log : List Logged
  pub is : IsRead text slots log
  pub links_are : links ≡ links_of slots log

-- the source gave a transcript of at most 2 ^ 24 bytes to its end, and these are its links
pub record Replays {S : Type 0} (left : S → Option (List ℕ))
    (faults : S → ℕ) (old new : S) (links : List Replayed) : Type 0 where
  pub text : Bytes
  pub reads : ReadsAll left faults old new most text
  pub links_are : AreLinks text links
