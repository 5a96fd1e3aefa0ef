-- From a text that is translated to what is promised of the call.
use Rattle.std.proofs.Common.{◌≡◌, ℕ, ◌≤◌, ◌^◌, List, length, refl, ap, subst, arith, Option, inl, inr, Ok, Err}
use Rattle.ec_base.specs.declared.stop.Stop.{Stop}
use Rattle.ec_base.specs.declared.stop.Stop.TheVariants as stops
use Rattle.ec_base.specs.Causes.{Rose}
use Rattle.ec_base.specs.Reading.{ReadsAll}
use Rattle.ec_base.proofs.Transfers.{ReadsAll-text}
use Rattle.ec_meaning_defs.specs.observed.Headline.{IsRead}
use Rattle.ec_front.specs.translation.Answers.{TellsTranslation}
use Rattle.ec_cli.specs.declared.ending.Ending.{Ending}
use Rattle.ec_cli.specs.declared.ending.Ending.TheVariants.{Wrote, Exited, Trapped, TurnsSpent, Usage, Refused, Limit, ReadFault, WriteFault, OutOfMemory}
use Rattle.ec_cli.proofs.Unread.{unread_within}
use Rattle.ec_cli.specs.Translating.{refusal_of, IsOfTranslation, TranslatesText, Translates, DecidesTranslation}

-- where a text is refused
pub text_refused : {O : Type 0} (held : O → Option (List ℕ)) (puts : O → ℕ) (text : List ℕ) (out : O) (stop : Stop) → TellsTranslation text (Err stop) → TranslatesText held puts text out out (refusal_of stop)
text_refused held puts text out (stops.Refused kind line) h = (h, refl)
text_refused held puts text out (stops.Limit kind) h = (h, refl)
text_refused held puts text out stops.OutOfMemory h = refl

module _ {I O : Type 0} (left : I → Option (List ℕ)) (reads : I → ℕ) (held : O → Option (List ℕ)) (puts : O → ℕ) where
  read_of : (input input' : I) (text : List ℕ) → ReadsAll left reads input input' (2 ^ 24) text → IsRead (left input) (left input') text
  read_of input input' text r = record { taken = r.reads.taken; ended = r.ended; within = r.within }

  ends_of : (text : List ℕ) (out out' : O) (ending : Ending) → TranslatesText held puts text out out' ending → IsOfTranslation ending
  ends_of text out out' Wrote h = tt
  ends_of text out out' WriteFault h = tt
  ends_of text out out' (Refused kind line) h = tt
  ends_of text out out' (Limit kind) h = tt
  ends_of text out out' OutOfMemory h = tt
  ends_of text out out' (Exited status) h = h
  ends_of text out out' (Trapped trap line) h = h
  ends_of text out out' TurnsSpent h = h
  ends_of text out out' Usage h = h
  ends_of text out out' ReadFault h = absurd h

  untouched_of : (text : List ℕ) (out out' : O) (ending : Ending) → TranslatesText held puts text out out' ending → (ending ≡ Wrote → ⊥) → (ending ≡ WriteFault → ⊥) → out' ≡ out
  untouched_of text out out' Wrote h a b = absurd (a refl)
  untouched_of text out out' WriteFault h a b = absurd (b refl)
  untouched_of text out out' (Refused kind line) h a b = h.1
  untouched_of text out out' (Limit kind) h a b = h.1
  untouched_of text out out' OutOfMemory h a b = h
  untouched_of text out out' (Exited status) h a b = absurd h
  untouched_of text out out' (Trapped trap line) h a b = absurd h
  untouched_of text out out' TurnsSpent h a b = absurd h
  untouched_of text out out' Usage h a b = absurd h
  untouched_of text out out' ReadFault h a b = absurd h

  calm_of : (text : List ℕ) (out out' : O) (ending : Ending) → TranslatesText held puts text out out' ending → (ending ≡ WriteFault → ⊥) → puts out' ≡ puts out
  calm_of text out out' Wrote h b = h.3.steady
  calm_of text out out' WriteFault h b = absurd (b refl)
  calm_of text out out' (Refused kind line) h b = ap puts h.1
  calm_of text out out' (Limit kind) h b = ap puts h.1
  calm_of text out out' OutOfMemory h b = ap puts h
  calm_of text out out' (Exited status) h b = absurd h
  calm_of text out out' (Trapped trap line) h b = absurd h
  calm_of text out out' TurnsSpent h b = absurd h
  calm_of text out out' Usage h b = absurd h
  calm_of text out out' ReadFault h b = absurd h

  decided : (text : List ℕ) (out out' : O) (ending : Ending) → length text ≤ 2 ^ 24 → TranslatesText held puts text out out' ending → (Rose (puts out) (puts out') → ⊥) → DecidesTranslation text ending
  decided text out out' Wrote small h calm = inr (inr (small, (Ok h.0, h.1, refl)))
  decided text out out' WriteFault small h calm = absurd (calm h.2.failed)
  decided text out out' (Refused kind line) small h calm = inr (inr (small, (Err _, h.0, refl)))
  decided text out out' (Limit kind) small h calm = inr (inr (small, (Err _, h.0, refl)))
  decided text out out' OutOfMemory small h calm = inl refl
  decided text out out' (Exited status) small h calm = absurd h
  decided text out out' (Trapped trap line) small h calm = absurd h
  decided text out out' TurnsSpent small h calm = absurd h
  decided text out out' Usage small h calm = absurd h
  decided text out out' ReadFault small h calm = absurd h

  -- the input was read to its end, and its text was translated
  pub translates : (input input' : I) (out out' : O) (ending : Ending) (text : List ℕ) → ReadsAll left reads input input' (2 ^ 24) text → TranslatesText held puts text out out' ending
      → Translates left reads held puts input input' out out' ending
  translates input input' out out' ending text r t = record {
    wrote = λ h. (let w = subst (TranslatesText held puts text out out') h t in record { text = text; read = read_of input input' text r; written = w.0; is = w.1; means = w.2; put = w.3.taken });
    part = λ h. (let w = subst (TranslatesText held puts text out out') h t in record { text = text; read = read_of input input' text r; written = w.0; is = w.1; put = w.2 });
    untouched = untouched_of text out out' ending t;
    ends = ends_of text out out' ending t;
    refused = λ kind line h. (let w = subst (TranslatesText held puts text out out') h t in record { text = text; read = read_of input input' text r; fault = w.0 });
    limit = λ kind h. (let w = subst (TranslatesText held puts text out out') h t in inr (record { text = text; read = read_of input input' text r; limit = w.0 }));
    read_fault = λ h. absurd (subst (TranslatesText held puts text out out') h t);
    write_fault = λ h. (subst (TranslatesText held puts text out out') h t).2.failed;
    within = record { bytes = text; taken = r.reads.taken; bounded = omega (arith, r.within) };
    reads_steady = λ other. r.reads.steady;
    puts_steady = calm_of text out out' ending t;
    decides = λ told e calm calm'. subst (λ w. DecidesTranslation w ending) (ReadsAll-text e r) (decided text out out' ending r.within t calm');
  }

  -- there was no memory to read the words
  pub untranslated : (input : I) (out : O) → Translates left reads held puts input input out out OutOfMemory
  untranslated input out = record {
    wrote = λ h. absurd (cc (h));
    part = λ h. absurd (cc (h));
    untouched = λ a b. refl;
    ends = tt;
    refused = λ kind line h. absurd (cc (h));
    limit = λ kind h. absurd (cc (h));
    read_fault = λ h. absurd (cc (h));
    write_fault = λ h. absurd (cc (h));
    within = unread_within left reads input input refl;
    reads_steady = λ other. refl;
    puts_steady = λ other. refl;
    decides = λ text e calm calm'. inl refl;
  }
