-- Laws of transcripts.
use Rattle.std.specs.Prelude.{◌≡◌, ◌++◌, List}
use Rattle.ec_link.specs.declared.logged.Logged.{Logged}
use Rattle.ec_transcript.specs.declared.version.Version.{Version}
use Rattle.ec_transcript.specs.declared.version.Version.TheVariants.{One, Two}
use Rattle.ec_transcript.specs.Clean.{clean}
use Rattle.ec_transcript.specs.Fitting.{any_state}
use Rattle.ec_transcript.specs.States.{Slots, FitsTranscript}
use Rattle.ec_transcript.specs.Text.{Bytes, ended, header, text_of}
use Rattle.ec_transcript.specs.Transcripts.{IsTranscript}

-- a text is a transcript of one pair, in one version
abbrev pub OfOnePair : Type 0
OfOnePair = (v w : Version) (text : Bytes) (slots others : Slots) (log other : List Logged)
    → IsTranscript v text slots log → IsTranscript w text others other
    → (v ≡ w) × (slots ≡ others) × (log ≡ other)

-- What is written of at most 64 slots and of a log that names only these is their transcript in version 2, with the
-- log made clean.
abbrev pub IsWrittenSo : Type 0
IsWrittenSo = (slots : Slots) (log : List Logged) → FitsTranscript any_state slots log
    → IsTranscript Two (text_of Two slots (clean log)) slots (clean log)

-- what is read of a text of version 2, written again, is that text
abbrev pub WritesTheSame : Type 0
WritesTheSame = (text : Bytes) (slots : Slots) (log : List Logged) → IsTranscript Two text slots log
    → text_of Two slots (clean log) ≡ text

-- and of one of version 1 that text with the first line of version 2
abbrev pub WritesTheNext : Type 0
WritesTheNext = (text : Bytes) (slots : Slots) (log : List Logged) → IsTranscript One text slots log
    → (body : Bytes) × (text ≡ ended (header One) ++ body)
    × (text_of Two slots (clean log) ≡ ended (header Two) ++ body)
