-- The states are exact: the lines up to a state are those of it, and each transcript is read.
use Rattle.std.proofs.Common.{◌≡◌, ◌≢◌, ◌∙◌, ◌++◌, ◌∷◌, [], ◌<◌, ◌≤◌, ◌+◌, ◌==◌, ◌&&◌, ℕ, Bool, true, false, List, Option, Some, None, refl, ap, ap₂, sym, arith, append_assoc, append-nil, subst, cond, length, length-append, map, nat_lt}
use Rattle.std.specs.List.{flat_map}
use Rattle.std.proofs.lemmas.Grind.{flat_map-append}
use Rattle.std.proofs.lemmas.Bool.Decides.{nat_tests, Decides-eqb}
use Rattle.ec_link.specs.declared.request.Request.{Request}
use Rattle.ec_link.specs.declared.reply.Reply.{Reply}
use Rattle.ec_link.specs.declared.reply.Reply.TheVariants.{Rows, Connected, NoTarget, Done, Refused, Broken}
use Rattle.ec_link.specs.declared.reply.Tx.{Tx}
use Rattle.ec_link.specs.declared.table.Col.{Col}
use Rattle.ec_link.specs.declared.logged.Logged.{Logged}
use Rattle.ec_link.specs.Table.{Sheet}
use Rattle.ec_transcript.specs.declared.version.Version.{Version}
use Rattle.ec_transcript.specs.Text.{Bytes, header, slot_line, at_line, request_line, reply, rows_line, col_line, row_line, exchange, lines_of}
use Rattle.ec_transcript.specs.Reading.{◌>>=◌}
use Rattle.ec_transcript.specs.States.{Slots, Row, opens, Readers, Open, State, start, between, said, tabled, table_of, logged, with_table, after_told, step, run, open_lines, lines_to, Each, Fits, FitsTable, FitsReply, FitsExchange, FitsTranscript, Reads, is_rows}

pub map_append : {A B : Type 0} (f : A → B) (xs ys : List A) → map f (xs ++ ys) ≡ map f xs ++ map f ys
map_append f [] ys = refl
map_append f (x ∷ xs) ys = ap (λ t. f x ∷ t) (map_append f xs ys)

pub each_last : {A : Type 0} (P : A → Type 0) (xs : List A) (x : A) → Each P xs → P x → Each P (xs ++ x ∷ [])
each_last P [] x e p = (p, tt)
each_last P (y ∷ xs) x e p = (e.0, each_last P xs x e.1 p)

pub length_last : {A : Type 0} (xs : List A) (x : A) → length (xs ++ x ∷ []) ≡ length xs + 1
length_last xs x = omega (arith, length-append xs (x ∷ []))

-- one more exchange
pub lines_more : (v : Version) (slots : Slots) (log : List Logged) (x : Logged) → lines_of v slots (log ++ x ∷ []) ≡ lines_of v slots log ++ exchange x
lines_more v slots log x =
    ap (λ t. header v ∷ (map slot_line slots ++ t)) (flat_map-append exchange log (x ∷ []) ∙ ap (λ t. flat_map exchange log ++ t) (append-nil (exchange x)))
    ∙ ap (λ t. header v ∷ t) (sym (append_assoc (map slot_line slots) (flat_map exchange log) (exchange x)))

-- one more slot, before any exchange
pub lines_slot : (v : Version) (slots : Slots) (s : Bool × Bytes) → lines_of v (slots ++ s ∷ []) [] ≡ lines_of v slots [] ++ slot_line s ∷ []
lines_slot v slots s =
    ap (λ t. header v ∷ t) (append-nil _ ∙ map_append slot_line slots (s ∷ []) ∙ ap (λ t. t ++ slot_line s ∷ []) (sym (append-nil (map slot_line slots))))

pub bool_and : (a b : Bool) → (a && b) ≡ true → (a ≡ true) × (b ≡ true)
bool_and true b e = (refl, e)
bool_and false b e = cc

-- a table that may be whole stands for its lines
pub table_lines : (v : Version) (slots : Slots) (log : List Logged) (o : Open) → lines_to v (with_table slots log o) ≡ open_lines v slots log o
table_lines v slots log o = go ((length o.cols == o.width) && (length o.rows == o.height)) refl
  where
    go : (b : Bool) → ((length o.cols == o.width) && (length o.rows == o.height)) ≡ b
        → lines_to v (cond b (between slots (log ++ logged o.slot o.request (table_of o) ∷ [])) (tabled slots log o)) ≡ open_lines v slots log o
    go true e =
        let two = bool_and _ _ e in
        let wide : length o.cols ≡ o.width = (Decides-eqb (length o.cols) o.width).0 two.0 in
        let high : length o.rows ≡ o.height = (Decides-eqb (length o.rows) o.height).0 two.1 in
        lines_more v slots log (logged o.slot o.request (table_of o))
        ∙ ap₂ (λ w h. lines_of v slots log ++ (at_line o.slot ∷ request_line o.request ∷ rows_line o.tx w h o.notice ∷ (map col_line o.cols ++ map row_line o.rows))) wide high
    go false e = refl

-- ---- each transcript is read

module _ (v : Version) (r : Readers) (f : Fits) (laws : Reads v r f) where
  pub run_on : (s : State) (xs ys : List Bytes) → run r s (xs ++ ys) ≡ (run r s xs >>= λ next. run r next ys)
  run_on s [] ys = refl
  run_on s (x ∷ xs) ys = go (step r s x) (λ next. run_on next xs ys)
    where
      go : (o : Option State) → ((next : State) → run r next (xs ++ ys) ≡ (run r next xs >>= λ last. run r last ys))
          → (o >>= λ next. run r next (xs ++ ys)) ≡ ((o >>= λ next. run r next xs) >>= λ last. run r last ys)
      go None more = refl
      go (Some next) more = more next

  run_slots : (slots more : Slots) → length (slots ++ more) ≤ 64 → Each f.Slot more → run r (between slots []) (map slot_line more) ≡ Some (between (slots ++ more) [])
  run_slots slots [] few fits = ap (λ t. Some (between t [])) (sym (append-nil slots))
  run_slots slots (s ∷ more) few fits =
      let room : nat_lt (length slots) 64 ≡ true = let n = length-append slots (s ∷ more) in let lt : length slots < 64 = omega arith in grind (arith, nat_tests) in
      rw (laws.slot_again s fits.0, room) (run_slots (slots ++ s ∷ []) more (subst (λ t. length t ≤ 64) (sym (append_assoc slots (s ∷ []) more)) few) fits.1
      ∙ ap (λ t. Some (between t [])) (append_assoc slots (s ∷ []) more))

  -- the columns of a table
  run_cols : (slots : Slots) (log : List Logged) (o : Open) (more : List Col) → length (o.cols ++ more) ≡ o.width → o.rows ≡ [] → Each f.Col more
      → run r (with_table slots log o) (map col_line more) ≡ Some (with_table slots log (record o { cols = o.cols ++ more }))
  run_cols slots log o [] wide none fits = ap (λ t. Some (with_table slots log (record o { cols = t }))) (sym (append-nil o.cols))
  run_cols slots log o (c ∷ more) wide none fits =
      let n = length-append o.cols (c ∷ more) in
      let less : nat_lt (length o.cols) o.width ≡ true = let lt : length o.cols < o.width = omega arith in grind (arith, nat_tests) in
      let not_whole : length o.cols == o.width ≡ false = let lt : length o.cols < o.width = omega arith in grind (arith, nat_tests) in
      let joined : (o.cols ++ c ∷ []) ++ more ≡ o.cols ++ c ∷ more = append_assoc o.cols (c ∷ []) more in
      rw (not_whole, less, laws.col_again c fits.0) (run_cols slots log (record o { cols = o.cols ++ c ∷ [] }) more (ap length joined ∙ wide) none fits.1
      ∙ ap (λ t. Some (with_table slots log (record o { cols = t }))) joined)

  run_rows : (slots : Slots) (log : List Logged) (o : Open) (more : List Row) → length o.cols ≡ o.width → length (o.rows ++ more) ≡ o.height
      → Each (λ row. f.Row row × (length row ≡ o.width)) more
      → run r (with_table slots log o) (map row_line more) ≡ Some (with_table slots log (record o { rows = o.rows ++ more }))
  run_rows slots log o [] wide high fits = ap (λ t. Some (with_table slots log (record o { rows = t }))) (sym (append-nil o.rows))
  run_rows slots log o (row ∷ more) wide high fits =
      let n = length-append o.rows (row ∷ more) in
      let same : length o.cols == o.width ≡ true = (Decides-eqb (length o.cols) o.width).1 wide in
      let past : nat_lt (length o.cols) o.width ≡ false = grind (arith, nat_tests) in
      let not_whole : length o.rows == o.height ≡ false = let lt : length o.rows < o.height = omega arith in grind (arith, nat_tests) in
      let square : length row == o.width ≡ true = (Decides-eqb (length row) o.width).1 fits.0.1 in
      let joined : (o.rows ++ row ∷ []) ++ more ≡ o.rows ++ row ∷ more = append_assoc o.rows (row ∷ []) more in
      let open_yet : ((length o.cols == o.width) && (length o.rows == o.height)) ≡ false = λ i. same i && not_whole i in
      rw (open_yet, past, laws.row_again row fits.0.0, square) (run_rows slots log (record o { rows = o.rows ++ row ∷ [] }) more wide (ap length joined ∙ high) fits.1
      ∙ ap (λ t. Some (with_table slots log (record o { rows = t }))) joined)

  table_starts : (slots : Slots) (log : List Logged) (slot : Option ℕ) (q : Request) (table : Sheet) (t : Tx) (notice : Bool) → FitsTable f table
      → run r (after_told slots log slot q (opens t (length table.cols) (length table.rows) notice)) (map col_line table.cols ++ map row_line table.rows)
      ≡ Some (between slots (log ++ logged slot q (Rows table t notice) ∷ []))
  table_starts slots log slot q table t notice fits =
      let o : List Col → List Row → Open = λ cols rows. record { slot = slot; request = q; tx = t; width = length table.cols; height = length table.rows; notice = notice; cols = cols; rows = rows } in
      let wide : length table.cols == length table.cols ≡ true = (Decides-eqb (length table.cols) (length table.cols)).1 refl in
      let high : length table.rows == length table.rows ≡ true = (Decides-eqb (length table.rows) (length table.rows)).1 refl in
      run_on (with_table slots log (o [] [])) (map col_line table.cols) (map row_line table.rows)
      ∙ ap (λ x. x >>= λ s. run r s (map row_line table.rows)) (run_cols slots log (o [] []) table.cols refl refl fits.cols)
      ∙ run_rows slots log (o table.cols []) table.rows refl refl fits.rows
      ∙ rw (wide, high) refl

  -- an exchange is read
  run_exchange : (slots : Slots) (log : List Logged) (x : Logged) → length slots ≤ 64 → FitsExchange f (length slots) x
      → run r (between slots log) (exchange x) ≡ Some (between slots (log ++ x ∷ []))
  run_exchange slots log x few fits =
      rw (laws.at_apart x.slot, laws.at_again (length slots) x.slot few fits.named, fits.named, laws.request_again x.request fits.request) (told x.reply fits.reply)
    where
      simple : (t : Reply) → is_rows t ≡ false → f.Reply t → run r (said slots log x.slot x.request) (reply t) ≡ Some (between slots (log ++ logged x.slot x.request t ∷ []))
      simple t plain fit =
          let one = laws.one_line t plain in
          rw (one.1, laws.reply_again one.0 t fit one.1 plain) refl

      told : (t : Reply) → FitsReply f t → run r (said slots log x.slot x.request) (reply t) ≡ Some (between slots (log ++ logged x.slot x.request t ∷ []))
      told (Rows table t notice) fit =
          rw (laws.rows_again t (length table.cols) (length table.rows) notice fit.1) (table_starts slots log x.slot x.request table t notice fit.0)
      told Connected fit = simple Connected refl fit
      told NoTarget fit = simple NoTarget refl fit
      told Broken fit = simple Broken refl fit
      told (Done n t notice) fit = simple (Done n t notice) refl fit
      told (Refused state message t) fit = simple (Refused state message t) refl fit

  run_log : (slots : Slots) (log more : List Logged) → length slots ≤ 64 → Each (FitsExchange f (length slots)) more
      → run r (between slots log) (flat_map exchange more) ≡ Some (between slots (log ++ more))
  run_log slots log [] few fits = ap (λ t. Some (between slots t)) (sym (append-nil log))
  run_log slots log (x ∷ more) few fits =
      run_on (between slots log) (exchange x) (flat_map exchange more)
      ∙ ap (λ o. o >>= λ s. run r s (flat_map exchange more)) (run_exchange slots log x few fits.0)
      ∙ run_log slots (log ++ x ∷ []) more few fits.1 ∙ ap (λ t. Some (between slots t)) (append_assoc log (x ∷ []) more)

  -- each transcript is read as its slots and its log
  pub transcript_again : (slots : Slots) (log : List Logged) → FitsTranscript f slots log → run r start (lines_of v slots log) ≡ Some (between slots log)
  transcript_again slots log fits =
      rw laws.header_again (run_on (between [] []) (map slot_line slots) (flat_map exchange log)
      ∙ ap (λ o. o >>= λ s. run r s (flat_map exchange log)) (run_slots [] slots fits.few fits.slots) ∙ run_log slots [] log fits.few fits.log)

  -- so a line that a state has no step for is dead: no transcript has the lines up to it as its first ones
  pub dead_line : (front rest : List Bytes) (line : Bytes) (slots : Slots) (log : List Logged) → run r start (front ++ line ∷ []) ≡ None → FitsTranscript f slots log
      → lines_of v slots log ≢ front ++ line ∷ rest
  dead_line front rest line slots log dead fits same =
      let joined : front ++ line ∷ rest ≡ (front ++ line ∷ []) ++ rest = sym (append_assoc front (line ∷ []) rest) in
      let none : run r start (front ++ line ∷ rest) ≡ None = ap (run r start) joined ∙ run_on start (front ++ line ∷ []) rest ∙ ap (λ o. o >>= λ s. run r s rest) dead in
      let some : Some (between slots log) ≡ None = sym (transcript_again slots log fits) ∙ ap (run r start) same ∙ none in cc
