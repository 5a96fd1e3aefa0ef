-- From the run of a machine to what is done of what a program means.
use Rattle.std.proofs.Common.{◌≡◌, ◌⊎◌, inl, inr, ℕ, ◌≤◌, List, [], refl, sym, ◌∙◌, subst, arith, Option, None, Some, append-nil}
use Rattle.std.specs.Io.KnownBytes.{Appends, Keeps}
use Rattle.ec_base.specs.Causes.{Rose}
use Rattle.ec_base.specs.Putting.{Puts, Took}
use Rattle.ec_base.proofs.Transfers.{Puts-none, Took-puts}
use Rattle.ec_meaning_defs.specs.evaluation.State.{Ending}
use Rattle.ec_meaning_defs.specs.evaluation.Whole.{Observed}
use Rattle.ec_link.specs.declared.logged.Logged.{Logged}
use Rattle.ec_link.specs.declared.request.Request.{Request}
use Rattle.ec_memory_defs.specs.Memory.{Memory}
use Rattle.ec_meaning_defs.specs.observed.Run.{IsFront}
use Rattle.ec_interp.specs.declared.end.RunEnd.{RunEnd as MachineEnd}
use Rattle.ec_interp.specs.declared.end.RunEnd.TheVariants as machine
use Rattle.ec_interp.specs.declared.end.Step.TheVariants as step
use Rattle.ec_interp.specs.Stepping.{Shows, ShowsAll}
use Rattle.ec_execution_defs.specs.Runs.{Runs, RunsPart}
use Rattle.ec_execute.specs.declared.running.RunEnd.{RunEnd}
use Rattle.ec_execute.specs.declared.running.RunEnd.TheVariants as ends
use Rattle.ec_execute.specs.Ends.{Performs, end_of}

-- ---- parts

all_of : {A : Type 0} (xs : List A) → IsFront xs xs
all_of xs = record { rest = []; same = sym (append-nil xs) }

pub none_of : {A : Type 0} (xs : List A) → IsFront [] xs
none_of xs = record { rest = xs; same = refl }

-- bytes that were appended stay so where what is known is kept
appends_kept : (a b c : Option (List ℕ)) (bs : List ℕ) → Appends a b bs → Keeps b c → Appends a c bs
appends_kept None b c bs p q = tt
appends_kept (Some x) None c bs p q = absurd p
appends_kept (Some x) (Some y) None bs p q = absurd q
appends_kept (Some x) (Some y) (Some z) bs p q = q ∙ p

puts_kept : {S : Type 0} {held : S → Option (List ℕ)} {faults : S → ℕ} {a b c : S} {bs : List ℕ} → Puts held faults a b bs → Keeps (held b) (held c) → faults c ≡ faults b → Puts held faults a c bs
puts_kept p k e = record { taken = appends_kept _ _ _ _ p.taken k; steady = e ∙ p.steady }

took_kept : {S : Type 0} {held : S → Option (List ℕ)} {faults : S → ℕ} {a b c : S} {bs : List ℕ} → Took held faults a b bs → Keeps (held b) (held c) → faults b ≤ faults c → Took held faults a c bs
took_kept p k later = record { taken = appends_kept _ _ _ _ p.taken k; later = omega (arith, p.later, later) }

rose_before : (a b c : ℕ) → a ≤ b → Rose b c → Rose a c
rose_before a b c p q = omega arith

rose_later : (a b c : ℕ) → Rose a b → b ≤ c → Rose a c
rose_later a b c p q = omega arith

module _ {O E : Type 0} (held : O → Option (List ℕ)) (puts : O → ℕ) (told : E → Option (List ℕ)) (tells : E → ℕ) where
  -- all of it is a part of it
  part_of_whole : {m : Observed} {growth : List Logged} {e : Ending} {out out' : O} {err err' : E} → Runs held puts told tells m growth e out out' err err' → RunsPart held puts told tells m growth out out' err err'
  part_of_whole {m} {growth} r = record {
    printed = m.output;
    complained = m.errors;
    conversation = record { rest = []; same = r.conversation ∙ sym (append-nil growth) };
    output_front = all_of m.output;
    errors_front = all_of m.errors;
    output = Took-puts r.output;
    errors = Took-puts r.errors;
  }

  -- ---- the machine

  left_of : {m : Observed} {growth : List Logged} {out out' : O} {err err' : E} (printed complained : List ℕ) → IsFront growth m.conversation → IsFront printed m.output → IsFront complained m.errors
      → Took held puts out out' printed → Took told tells err err' complained → RunsPart held puts told tells m growth out out' err err'
  left_of printed complained said a b p q = record {
    printed = printed;
    complained = complained;
    conversation = said;
    output_front = a;
    errors_front = b;
    output = p;
    errors = q;
  }

  over_of : {m : Observed} {growth : List Logged} {out out' : O} {err err' : E} {memory : Memory} {e : Ending} → ShowsAll held puts told tells out out' err err' [] [] m growth memory e → Runs held puts told tells m growth e out out' err err'
  over_of {m} {growth} {out} {out'} {err} {err'} o = record {
    ends = o.ends;
    conversation = o.conversation;
    output = subst (Puts held puts out out') (sym o.output_rest) o.prints.output;
    errors = subst (Puts told tells err err') (sym o.errors_rest) o.prints.errors;
  }

  pub performed : (m : Observed) (growth : List Logged) (out out' : O) (err err' : E) (memory : Memory) (asking : Option (Option ℕ × Request)) (end : MachineEnd)
      → Shows held puts told tells out out' err err' [] [] m growth memory asking (step.Ended end) → Performs held puts told tells m growth out out' err err' (end_of end)
  performed m growth out out' err err' memory asking (machine.Exited status) o = over_of o
  performed m growth out out' err err' memory asking (machine.Trapped trap line) o = over_of o
  performed m growth out out' err err' memory asking machine.TurnsSpent o = over_of o
  performed m growth out out' err err' memory asking machine.Stuck o = (part_of_whole (over_of o), o.prints.output.steady, o.prints.errors.steady)
  performed m growth out out' err err' memory asking machine.WriteFault f = (left_of f.printed f.complained f.conversation f.output_front f.errors_front f.prints.output f.prints.errors, f.prints.failed)
  performed m growth out out' err err' memory asking machine.OutOfMemory l =
      (left_of l.printed l.complained l.conversation l.output_front l.errors_front (Took-puts l.prints.output) (Took-puts l.prints.errors), l.prints.output.steady, l.prints.errors.steady)

  -- nothing was done
  pub nothing_done : (m : Observed) (out : O) (err : E) → Performs held puts told tells m [] out out err err ends.OutOfMemory
  nothing_done m out err = (
    record {
      printed = [];
      complained = [];
      conversation = none_of m.conversation;
      output_front = none_of m.output;
      errors_front = none_of m.errors;
      output = Took-puts (Puts-none {held = held} {faults = puts} out);
      errors = Took-puts (Puts-none {held = told} {faults = tells} err);
    },
    refl,
    refl,
  )

  -- ---- both outputs pass on what they kept back

  module _ (m : Observed) (growth : List Logged) (out put flushed : O) (err said passed : E) (output : Keeps (held put) (held flushed)) (errors : Keeps (told said) (told passed)) where
    whole_kept : {e : Ending} → puts flushed ≡ puts put → tells passed ≡ tells said → Runs held puts told tells m growth e out put err said → Runs held puts told tells m growth e out flushed err passed
    whole_kept a b r = record {
      ends = r.ends;
      conversation = r.conversation;
      output = puts_kept r.output output a;
      errors = puts_kept r.errors errors b;
    }

    part_kept : puts put ≤ puts flushed → tells said ≤ tells passed → RunsPart held puts told tells m growth out put err said → RunsPart held puts told tells m growth out flushed err passed
    part_kept a b r = record {
      printed = r.printed;
      complained = r.complained;
      conversation = r.conversation;
      output_front = r.output_front;
      errors_front = r.errors_front;
      output = took_kept r.output output a;
      errors = took_kept r.errors errors b;
    }

    part_of : (end : RunEnd) → Performs held puts told tells m growth out put err said end → RunsPart held puts told tells m growth out put err said
    part_of (ends.Exited status) h = part_of_whole h
    part_of (ends.Trapped trap line) h = part_of_whole h
    part_of ends.TurnsSpent h = part_of_whole h
    part_of ends.WriteFault h = h.0
    part_of ends.OutOfMemory h = h.0

    still_risen : puts put ≤ puts flushed → tells said ≤ tells passed → Rose (puts out) (puts put) ⊎ Rose (tells err) (tells said) → Rose (puts out) (puts flushed) ⊎ Rose (tells err) (tells passed)
    still_risen a b (inl r) = inl (rose_later _ _ _ r a)
    still_risen a b (inr r) = inr (rose_later _ _ _ r b)

    has_risen : puts out ≤ puts put → tells err ≤ tells said → Rose (puts put) (puts flushed) ⊎ Rose (tells said) (tells passed) → Rose (puts out) (puts flushed) ⊎ Rose (tells err) (tells passed)
    has_risen a b (inl r) = inl (rose_before _ _ _ a r)
    has_risen a b (inr r) = inr (rose_before _ _ _ b r)

    -- where both did
    pub flushed_whole : (end : RunEnd) → puts flushed ≡ puts put → tells passed ≡ tells said → Performs held puts told tells m growth out put err said end → Performs held puts told tells m growth out flushed err passed end
    flushed_whole (ends.Exited status) a b h = whole_kept a b h
    flushed_whole (ends.Trapped trap line) a b h = whole_kept a b h
    flushed_whole ends.TurnsSpent a b h = whole_kept a b h
    flushed_whole ends.WriteFault a b h = (part_kept (omega (arith, a)) (omega (arith, b)) h.0, still_risen (omega (arith, a)) (omega (arith, b)) h.1)
    flushed_whole ends.OutOfMemory a b h = (part_kept (omega (arith, a)) (omega (arith, b)) h.0, a ∙ h.1, b ∙ h.2)

    -- where one of them failed
    pub flushed_part : (end : RunEnd) → puts put ≤ puts flushed → tells said ≤ tells passed → Rose (puts put) (puts flushed) ⊎ Rose (tells said) (tells passed)
        → Performs held puts told tells m growth out put err said end → Performs held puts told tells m growth out flushed err passed ends.WriteFault
    flushed_part end a b rose h =
        let part = part_of end h in
        (part_kept a b part, has_risen part.output.later part.errors.later rose)
