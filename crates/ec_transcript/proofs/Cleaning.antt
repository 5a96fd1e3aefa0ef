-- Clean logs: what is made clean has a transcript, and what is clean stays as it is.
use Rattle.std.proofs.Common.{◌≡◌, ◌∷◌, [], ℕ, zero, suc, Bool, true, false, List, refl, ap, ap₂, cond, length, map}
use Rattle.ec_link.specs.declared.reply.Reply.{Reply}
use Rattle.ec_link.specs.declared.reply.Reply.TheVariants.{Connected, NoTarget, Rows, Done, Refused, Broken}
use Rattle.ec_link.specs.declared.logged.Logged.{Logged}
use Rattle.ec_transcript.specs.declared.version.Version.{Version}
use Rattle.ec_transcript.specs.declared.version.Version.TheVariants.{Two}
use Rattle.ec_transcript.specs.Clean.{is_clean, clean_byte, clean_reply, clean}
use Rattle.ec_transcript.specs.Fitting.{CleanState, IsState, fitting, any_state}
use Rattle.ec_transcript.specs.States.{Slots, Each, FitsReply, FitsExchange, FitsTranscript}
use Rattle.ec_transcript.specs.Text.{Bytes}

clean_made : (b : ℕ) → is_clean (clean_byte b) ≡ true
clean_made b = go (is_clean b) refl
  where
    go : (t : Bool) → is_clean b ≡ t → is_clean (cond t b 63) ≡ true
    go true e = e
    go false e = refl

state_made : (n : ℕ) (t : Bytes) → IsState n t → CleanState n (map clean_byte t)
state_made zero [] s = tt
state_made zero (b ∷ t) s = elim s [ ]
state_made (suc n) [] s = elim s [ ]
state_made (suc n) (b ∷ t) s = (clean_made b, state_made n t s.1)

reply_made : (r : Reply) → FitsReply any_state r → FitsReply (fitting Two) (clean_reply r)
reply_made Connected fits = tt
reply_made NoTarget fits = tt
reply_made Broken fits = tt
reply_made (Done n t notice) fits = fits
reply_made (Refused state message t) fits = (state_made 5 state.0 fits.0, fits.1)
reply_made (Rows table t notice) fits = (record { cols = fits.0.cols; rows = fits.0.rows }, fits.1)

log_made : (n : ℕ) (log : List Logged) → Each (FitsExchange any_state n) log → Each (FitsExchange (fitting Two) n) (clean log)
log_made n [] fits = tt
log_made n (x ∷ log) fits = (
  record { named = fits.0.named; request = fits.0.request; reply = reply_made x.reply fits.0.reply },
  log_made n log fits.1,
)

pub transcript_made : (slots : Slots) (log : List Logged) → FitsTranscript any_state slots log → FitsTranscript (fitting Two) slots (clean log)
transcript_made slots log fits = record { few = fits.few; slots = fits.slots; log = log_made (length slots) log fits.log }

state_stays : (n : ℕ) (t : Bytes) → CleanState n t → map clean_byte t ≡ t
state_stays zero [] s = refl
state_stays zero (b ∷ t) s = elim s [ ]
state_stays (suc n) [] s = elim s [ ]
state_stays (suc n) (b ∷ t) s = ap₂ (λ a u. a ∷ u) (ap (λ c. cond c b 63) s.0) (state_stays n t s.1)

reply_stays : (v : Version) (r : Reply) → FitsReply (fitting v) r → clean_reply r ≡ r
reply_stays v Connected fits = refl
reply_stays v NoTarget fits = refl
reply_stays v Broken fits = refl
reply_stays v (Done n t notice) fits = refl
reply_stays v (Refused state message t) fits = ap (λ s. Refused (record { 0 = s }) message t) (state_stays 5 state.0 fits.0)
reply_stays v (Rows table t notice) fits = refl

log_stays : (v : Version) (n : ℕ) (log : List Logged) → Each (FitsExchange (fitting v) n) log → clean log ≡ log
log_stays v n [] fits = refl
log_stays v n (x ∷ log) fits =
    ap₂ (λ r more. record x { reply = r } ∷ more) (reply_stays v x.reply fits.0.reply) (log_stays v n log fits.1)

pub clean_stays : (v : Version) (slots : Slots) (log : List Logged) → FitsTranscript (fitting v) slots log → clean log ≡ log
clean_stays v slots log fits = log_stays v (length slots) log fits.log
