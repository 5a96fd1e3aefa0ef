-- Runs over the links that the transcript of a run is read as.
use Rattle.std.proofs.Common.{◌≡◌, ℕ, List, Option, sym, subst}
use Rattle.ec_meaning_defs.specs.evaluation.State.{Answer}
use Rattle.ec_transcript.specs.declared.version.Version.TheVariants.{Two}
use Rattle.ec_transcript.specs.Clean.{clean}
use Rattle.ec_transcript.specs.Laws.{OfOnePair, IsWrittenSo}
use Rattle.ec_transcript.specs.Text.{text_of}
use Rattle.ec_transcript.specs.Transcripts.{IsTranscript}
use Rattle.ec_replay.specs.Laws.{IsEquality}
use Rattle.ec_replay_laws.specs.Parts.{RepliesAsRecorded}
use Rattle.ec_replay_laws.specs.Runs.{Meaning, Ran, RanPart}
use Rattle.ec_replay_laws.specs.Taking.{TakesExactly}
use Rattle.ec_replay_laws.specs.Texts.{states_of, IsReplayed, PartIsReplayed, WrittenIsReplayed}
use Rattle.ec_replay_laws.proofs.Parting.{says_the_same, says_a_front}

module _ (same_requests : IsEquality) (one : OfOnePair) (meaning : Meaning) (exact : TakesExactly meaning) where
  pub is_replayed : IsReplayed meaning
  is_replayed version text slots recorded log seen seen' t ran over =
      let same = one version over.read.version text slots over.slots recorded over.recorded t over.read.is in
      says_the_same same_requests meaning exact (states_of slots) recorded log seen seen' ran
      (subst (λ s. Ran meaning (states_of s) log seen') (sym same.1) over.ran)
      (subst (λ l. RepliesAsRecorded l log) (sym same.2) over.replies)

  pub part_is_replayed : PartIsReplayed meaning
  part_is_replayed version text slots recorded log seen printed complained t ran over =
      let same = one version over.read.version text slots over.slots recorded over.recorded t over.read.is in
      says_a_front same_requests meaning exact (states_of slots) recorded log seen printed complained ran
      (subst (λ s. RanPart meaning (states_of s) log printed complained) (sym same.1) over.ran)
      (subst (λ l. RepliesAsRecorded l log) (sym same.2) over.replies)

  pub written_is_replayed : IsWrittenSo → WrittenIsReplayed meaning
  written_is_replayed written slots recorded log seen seen' fits is_clean ran over =
      is_replayed Two (text_of Two slots (clean recorded)) slots recorded log seen seen'
      (subst (λ l. IsTranscript Two (text_of Two slots (clean recorded)) slots l) is_clean (written slots recorded fits)) ran over

-- meanings that are equal take their answers alike
pub takes_alike : (a b : Meaning) → ((ready : Option (ℕ × List ℕ)) (answers : List Answer) → a ready answers ≡ b ready answers) → TakesExactly a → TakesExactly b
takes_alike a b same exact = subst TakesExactly (λ i ready answers. same ready answers i) exact
