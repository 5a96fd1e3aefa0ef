-- Each part of a call only adds to what was said.
use Rattle.std.proofs.Common.{◌≡◌, ℕ, zero, suc, List, [], ◌∷◌, ◌++◌, length, Option, Some, None, Result, Ok, Err, Bool, true, false, refl, ◌∙◌, append_assoc}
use Rattle.std.specs.Prelude.{nat_lt}
use Rattle.ec_base.specs.declared.stop.Trap.{Trap}
use Rattle.ec_arguments.specs.Arguments.{Place}
use Rattle.ec_link.specs.declared.logged.Logged.{Logged}
use Rattle.ec_link.specs.declared.reply.Reply.{Reply}
use Rattle.ec_link.specs.declared.reply.Reply.TheVariants.{Connected, NoTarget, Rows, Done, Refused, Broken}
use Rattle.ec_link.specs.declared.request.Request.{Request}
use Rattle.ec_link.specs.Table.{Sheet}
use Rattle.ec_transfer_defs.specs.declared.finding.Finding.TheVariants as found
use Rattle.ec_transfer_defs.specs.Conversion.{trapped, refused as refused_there, Stored}
use Rattle.ec_transfer_defs.specs.Hosts.{HostData}
use Rattle.ec_meaning_defs.specs.evaluation.State.{Answer, State}
use Rattle.ec_meaning_defs.specs.observed.Run.{IsFront}
use Rattle.ec_call_defs.specs.Growth.{state_of, Grows}
use Rattle.ec_call_defs.specs.Outcomes.{Text, Field, Outcome, gives, finished, over, next, trying, present, with_memory, counted_area, noticed, heard, raised}
use Rattle.ec_call_defs.specs.Connections.{answered, asked, controlled}
use Rattle.ec_call_defs.specs.Inputs.{host_data}
use Rattle.ec_call_defs.specs.Storing.{stored_by, field_kept, in_column, column_kept, targets_kept, any_fewer, measured, counted_rows}
use Rattle.ec_call_defs.specs.Answers.{count_of, done, replied, taken}
use Rattle.ec_call_defs.specs.Running.{Outputs, nowhere, hosts, area, row_into, rows_stored, table_kept}

nil_right : (xs : List Logged) → xs ≡ xs ++ []
nil_right [] = refl
nil_right (x ∷ xs) = λ j. x ∷ nil_right xs j

pub same_front : (xs : List Logged) → IsFront xs xs
same_front xs = record { rest = []; same = nil_right xs }

longer : (xs ys zs : List Logged) → IsFront xs ys → IsFront ys zs → IsFront xs zs
longer xs ys zs p q = record { rest = p.rest ++ q.rest; same = q.same ∙ (λ j. p.same j ++ q.rest) ∙ append_assoc xs p.rest q.rest }

-- what follows adds to what was said
pub front_next : {A B : Type 0} (xs : List Logged) (o : Outcome A) (go : A → State → Outcome B) → IsFront xs (state_of o).conversation → ((a : A) → Grows (go a)) → IsFront xs (state_of (next o go)).conversation
front_next xs (gives a s) go p h = longer xs s.conversation _ p (h a s)
front_next xs (finished s) go p h = p
front_next xs (over halt s) go p h = p

pub next_grows : {A B : Type 0} (first : State → Outcome A) (go : A → State → Outcome B) → Grows first → ((a : A) → Grows (go a)) → Grows (λ s. next (first s) go)
next_grows first go p h s = front_next s.conversation (first s) go (p s) h

pub trying_grows : {A : Type 0} (r : Result A Trap) → Grows (trying r)
trying_grows (Ok a) s = same_front s.conversation
trying_grows (Err trap) s = same_front s.conversation

present_grows : {A : Type 0} (o : Option A) → Grows (present o)
present_grows None s = same_front s.conversation
present_grows (Some a) s = same_front s.conversation

pub asked_grows : (slot : ℕ) (request : Request) → Grows (asked slot request)
asked_grows slot request s = go s.answers
  where
    go : (answers : List Answer) → IsFront s.conversation (state_of (answered slot request answers s)).conversation
    go [] = same_front s.conversation
    go (a ∷ more) = record { rest = record { slot = Some slot; request = request; reply = a.1 } ∷ []; same = refl }

pub controlled_grows : (line : ℕ) (r : Reply) → Grows (controlled line r)
controlled_grows line (Rows table tx notice) s = same_front s.conversation
controlled_grows line (Done count tx notice) s = same_front s.conversation
controlled_grows line (Refused state message tx) s = same_front s.conversation
controlled_grows line Connected s = same_front s.conversation
controlled_grows line NoTarget s = same_front s.conversation
controlled_grows line Broken s = same_front s.conversation

-- ---- what is stored

stored_grows : (line : ℕ) (x : Stored) → Grows (stored_by line x)
stored_grows line (Ok cut, m) s = same_front s.conversation
stored_grows line (Err (refused_there code), m) s = same_front s.conversation
stored_grows line (Err (trapped trap), m) s = same_front s.conversation

column_grows : (line : ℕ) (h : HostData) (column row : ℕ) (rows : List (List Field)) → Grows (column_kept line h column row rows)
column_grows line h column row [] s = same_front s.conversation
column_grows line h column row (fields ∷ rows) s =
    front_next s.conversation (field_kept line h row (in_column column fields) s) (λ _ t. column_kept line h column (suc row) rows t) (stored_grows line _ s) (λ x. column_grows line h column (suc row) rows)

targets_grow : (line column : ℕ) (ps : List (Place ℕ)) (rows : List (List Field)) → Grows (targets_kept line column ps rows)
targets_grow line column [] rows s = same_front s.conversation
targets_grow line column (p ∷ ps) rows s =
    front_next s.conversation (present (host_data p) s) (λ h t. next (column_kept line h column 0 rows t) (λ _ u. targets_kept line (suc column) ps rows u)) (present_grows (host_data p) s) (λ h.
    next_grows (column_kept line h column 0 rows) (λ _ u. targets_kept line (suc column) ps rows u) (column_grows line h column 0 rows) (λ x. targets_grow line (suc column) ps rows))

measured_grows : (line columns n : ℕ) (ps : List (Place ℕ)) → Grows (measured line columns n ps)
measured_grows line columns n ps s = go (nat_lt columns (length ps)) (nat_lt (length ps) columns) (any_fewer n ps)
  where
    go : (a b c : Bool) → IsFront s.conversation (state_of {A = Unit {0}} (elim a [ true ↦ raised line found.TooManyTargets s | false ↦ elim b [ true ↦ raised line found.TooFewTargets s | false ↦ elim c [ true ↦ raised line found.TooManyRows s | false ↦ gives tt s ] ] ])).conversation
    go true b c = same_front s.conversation
    go false true c = same_front s.conversation
    go false false true = same_front s.conversation
    go false false false = same_front s.conversation

row_grows : (line : ℕ) (name : Text) (table : Sheet) (rows : List (List Field)) → Grows (row_into line name table rows)
row_grows line name table [] s = same_front s.conversation
row_grows line name table (fields ∷ []) s = same_front s.conversation
row_grows line name table (fields ∷ more ∷ rows) s = same_front s.conversation

rows_grow : (line : ℕ) (outputs : Outputs) (table : Sheet) → Grows (rows_stored line outputs table)
rows_grow line nowhere table s = same_front s.conversation
rows_grow line (hosts ps) table s =
    next_grows (measured line (length table.cols) (length table.rows) ps) (λ _ t. targets_kept line 0 ps table.rows t) (measured_grows line (length table.cols) (length table.rows) ps) (λ x. targets_grow line 0 ps table.rows) s
rows_grow line (area name) table s = row_grows line name table table.rows s

counted_grows : (line : ℕ) (rows : List (List Field)) (store : State → Outcome (Unit {0})) → Grows store → Grows (counted_rows line rows store)
counted_grows line [] store h s = same_front s.conversation
counted_grows line (fields ∷ rows) store h s = h s

pub table_grows : (line : ℕ) (outputs : Outputs) (table : Sheet) → Grows (table_kept line outputs table)
table_grows line outputs table s = counted_grows line table.rows (rows_stored line outputs table) (rows_grow line outputs table) (with_memory (counted_area (length table.rows) s.memory) s)

done_grows : (line : ℕ) (wanted : Bool) (count : Option ℕ) → Grows (done line wanted count)
done_grows line wanted (Some zero) s = same_front s.conversation
done_grows line true (Some (suc n)) s = same_front s.conversation
done_grows line true None s = same_front s.conversation
done_grows line false (Some (suc n)) s = same_front s.conversation
done_grows line false None s = same_front s.conversation

pub replied_grows : (line : ℕ) (wanted : Bool) (store : Sheet → State → Outcome (Unit {0})) → ((table : Sheet) → Grows (store table)) → (r : Reply) → Grows (replied line wanted store r)
replied_grows line wanted store h (Rows table tx notice) s = h table (heard notice s)
replied_grows line wanted store h (Done count tx notice) s =
    done_grows line wanted count (with_memory (counted_area (count_of count) (noticed notice s.memory)) s)
replied_grows line wanted store h (Refused state message tx) s = same_front s.conversation
replied_grows line wanted store h Connected s = same_front s.conversation
replied_grows line wanted store h NoTarget s = same_front s.conversation
replied_grows line wanted store h Broken s = same_front s.conversation

pub taken_grows : (line : ℕ) (r : Reply) → Grows (taken line r)
taken_grows line (Rows table tx notice) s = same_front s.conversation
taken_grows line (Done count tx notice) s = same_front s.conversation
taken_grows line (Refused state message tx) s = same_front s.conversation
taken_grows line Connected s = same_front s.conversation
taken_grows line NoTarget s = same_front s.conversation
taken_grows line Broken s = same_front s.conversation
