-- Why a transcript was not replayed. `left` and `faults` are the members of the source.
use Rattle.std.specs.Prelude.{◌≡◌, ℕ, ◌+◌, ◌<◌, ◌≤◌, List, length, Option, Result, Ok, Err, ⊤}
use Rattle.std.specs.Io.KnownBytes.{Consumes, IsAtEnd}
use Rattle.ec_base.specs.declared.stop.InputStop.{InputStop}
use Rattle.ec_base.specs.declared.stop.InputStop.TheVariants as inputs
use Rattle.ec_base.specs.Causes.{Rose}
use Rattle.ec_base.specs.Reading.{block}
use Rattle.ec_transcript.specs.declared.stop.ReadStop.{ReadStop}
use Rattle.ec_transcript.specs.declared.stop.ReadStop.TheVariants as reads
use Rattle.ec_transcript.specs.Text.{Bytes}
use Rattle.ec_transcript.specs.Transcripts.{IsFirstBad}
use Rattle.ec_replay.specs.declared.replaying.Replayed.{Replayed}
use Rattle.ec_replay.specs.declared.stop.ReplayStop.{ReplayStop}
use Rattle.ec_replay.specs.declared.stop.ReplayStop.TheVariants.{ReadFault, TooLong, Bad, OutOfMemory}
use Rattle.ec_replay.specs.Replay.{most, AreLinks}

-- the stop of a source that was not read to its end
abbrev pub of_input : InputStop → ReplayStop
of_input inputs.Fault = ReadFault
of_input inputs.TooLong = TooLong
of_input inputs.OutOfMemory = OutOfMemory

-- the stop of a text that was not read
abbrev pub of_text : ReadStop → ReplayStop
of_text (reads.Bad line) = Bad line
of_text reads.OutOfMemory = OutOfMemory

-- what comes of a whole text: its links, or the first line at which it is no transcript, unless memory ran out
abbrev pub IsReplay : Bytes → Result (List Replayed) ReplayStop → Type 0
IsReplay text (Ok links) = AreLinks text links
IsReplay text (Err (Bad line)) = IsFirstBad text line.0
IsReplay text (Err OutOfMemory) = ⊤
IsReplay text (Err ReadFault) = ⊥
IsReplay text (Err TooLong) = ⊥

-- What is behind each stop, with the bytes that came and those that are left. Where a line is bad, the source was read
-- to its end. The read by which more than 2 ^ 24 bytes came is the last one.
abbrev pub IsCause : ReplayStop → (before now : ℕ) → Option (List ℕ) → Bytes → Type 0
IsCause ReadFault before now left text = Rose before now × (length text ≤ most)
IsCause TooLong before now left text =
    (now ≡ before) × (most < length text) × (length text ≤ most + block)
IsCause (Bad line) before now left text =
    (now ≡ before) × (length text ≤ most) × IsAtEnd left × IsFirstBad text line.0
IsCause OutOfMemory before now left text = (now ≡ before) × (length text ≤ most + block)

-- the source gave some bytes, and nothing was made of them
pub record Stops {S : Type 0} (left : S → Option (List ℕ))
    (faults : S → ℕ) (old new : S) (stop : ReplayStop) : Type 0 where
  pub text : Bytes
  pub taken : Consumes (left old) (left new) text
  pub later : faults old ≤ faults new
  pub cause : IsCause stop (faults old) (faults new) (left new) text
