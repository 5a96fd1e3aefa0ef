-- The lines up to a state are those of it, and each front can be brought to an end.
use Rattle.std.proofs.Common.{◌≡◌, ◌≢◌, ◌∙◌, ◌++◌, ◌∷◌, [], ◌<◌, ◌≤◌, ◌-◌, ◌==◌, ◌&&◌, ◌⊎◌, inl, inr, ℕ, zero, suc, Bool, true, false, List, Option, Some, None, refl, ap, ap₂, sym, arith, append_assoc, append-nil, subst, cond, length, length-append, map, nat_lt}
use Rattle.std.proofs.lemmas.Bool.Decides.{nat_tests, Decides-eqb}
use Rattle.ec_link.specs.declared.request.Request.{Request}
use Rattle.ec_link.specs.declared.reply.Reply.{Reply}
use Rattle.ec_link.specs.declared.reply.Reply.TheVariants.{Rows, Connected, NoTarget, Done, Refused, Broken}
use Rattle.ec_link.specs.declared.table.Col.{Col}
use Rattle.ec_link.specs.declared.logged.Logged.{Logged}
use Rattle.ec_transcript.specs.declared.version.Version.{Version}
use Rattle.ec_transcript.specs.Text.{Bytes, at_line, request_line, reply, rows_line, col_line, row_line, lines_of}
use Rattle.ec_transcript.specs.States.{Slots, Row, Told, whole, opens, Readers, Open, State, start, between, asked, said, tabled, is_named, table_of, logged, with_table, after_told, at_step, slot_step, row_step, col_step, step, run, open_lines, lines_to, Each, Fits, FitsReply, FitsExchange, FitsTranscript, FitsOpen, FitsState, Reads, TellsAs, is_rows}
use Rattle.ec_transcript.proofs.NumberLaws.{bind_some}
use Rattle.ec_transcript.proofs.Machine.{map_append, each_last, length_last, lines_more, lines_slot, bool_and, table_lines}

some_is : {A : Type 0} {x y : A} → Some x ≡ Some y → x ≡ y
some_is e = cc

module _ (v : Version) (r : Readers) (f : Fits) (laws : Reads v r f) where
  log_more : (slots : Slots) (log : List Logged) (x : Logged) → FitsTranscript f slots log → FitsExchange f (length slots) x → FitsTranscript f slots (log ++ x ∷ [])
  log_more slots log x fits more = record { few = fits.few; slots = fits.slots; log = each_last (FitsExchange f (length slots)) log x fits.log more }

  rows_wide : (n m : ℕ) (rows : List Row) → n ≡ m → Each (λ row. f.Row row × (length row ≡ n)) rows → Each (λ row. f.Row row × (length row ≡ m)) rows
  rows_wide n m rows e h = subst (λ k. Each (λ row. f.Row row × (length row ≡ k)) rows) e h

  -- a table that may be whole fits
  table_fits : (slots : Slots) (log : List Logged) (o : Open) → FitsTranscript f slots log → FitsOpen f (length slots) o → FitsState f (with_table slots log o)
  table_fits slots log o fits open_fits = go ((length o.cols == o.width) && (length o.rows == o.height)) refl
    where
      go : (b : Bool) → ((length o.cols == o.width) && (length o.rows == o.height)) ≡ b
          → FitsState f (cond b (between slots (log ++ logged o.slot o.request (table_of o) ∷ [])) (tabled slots log o))
      go true e =
          let two = bool_and _ _ e in
          let wide : length o.cols ≡ o.width = (Decides-eqb (length o.cols) o.width).0 two.0 in
          let high : length o.rows ≡ o.height = (Decides-eqb (length o.rows) o.height).0 two.1 in
          log_more slots log (logged o.slot o.request (table_of o)) fits (record {
            named = open_fits.named;
            request = open_fits.request;
            reply = (
              record {
                cols = open_fits.cols;
                rows = rows_wide o.width (length o.cols) o.rows (sym wide) open_fits.rows;
              },
              open_fits.notice,
            );
          })
      go false e = (fits, open_fits, e)

  pub record Steps (s : State) (line : Bytes) (next : State) : Type 0 where
    pub lines : lines_to v next ≡ lines_to v s ++ line ∷ []
    pub fits : FitsState f next

  at_more : (slots : Slots) (log : List Logged) (line : Bytes) (next : State) → FitsTranscript f slots log → (o : Option (Option ℕ)) → r.at_of line ≡ o
      → at_step slots log o ≡ Some next → Steps (between slots log) line next
  at_more slots log line next fits None is e = cc
  at_more slots log line next fits (Some slot) is e = go (is_named (length slots) slot) refl e
    where
      go : (b : Bool) → is_named (length slots) slot ≡ b → cond b (Some (asked slots log slot)) None ≡ Some next → Steps (between slots log) line next
      go true named e =
          let same : asked slots log slot ≡ next = some_is e in
          subst (Steps (between slots log) line) same
          (record { lines = ap (λ l. lines_of v slots log ++ l ∷ []) (sym (laws.at_found line slot is)); fits = (fits, named) })
      go false named e = cc

  slot_more : (slots : Slots) (log : List Logged) (line : Bytes) (next : State) → FitsTranscript f slots log → (o : Option (Bool × Bytes)) → r.slot_of line ≡ o
      → slot_step slots log o (r.at_of line) ≡ Some next → Steps (between slots log) line next
  slot_more slots log line next fits None is e = at_more slots log line next fits (r.at_of line) refl e
  slot_more slots (x ∷ log) line next fits (Some slot) is e = cc
  slot_more slots [] line next fits (Some slot) is e = go (nat_lt (length slots) 64) refl e
    where
      go : (b : Bool) → nat_lt (length slots) 64 ≡ b → cond b (Some (between (slots ++ slot ∷ []) [])) None ≡ Some next → Steps (between slots []) line next
      go true room e =
          let same : between (slots ++ slot ∷ []) [] ≡ next = some_is e in
          let read = laws.slot_found line slot is in
          let n = length_last slots slot in
          let lt : length slots < 64 = grind (arith, nat_tests) in
          subst (Steps (between slots []) line) same
          (record {
            lines = lines_slot v slots slot ∙ ap (λ l. lines_of v slots [] ++ l ∷ []) (sym read.0);
            fits = record { few = omega arith; slots = each_last f.Slot slots slot fits.slots read.1; log = tt };
          })
      go false room e = cc

  -- one more line of a table
  open_more : (slots : Slots) (log : List Logged) (o o2 : Open) (line : Bytes)
      → o2.slot ≡ o.slot → o2.request ≡ o.request → rows_line o2.tx o2.width o2.height o2.notice ≡ rows_line o.tx o.width o.height o.notice
      → map col_line o2.cols ++ map row_line o2.rows ≡ (map col_line o.cols ++ map row_line o.rows) ++ line ∷ []
      → open_lines v slots log o2 ≡ open_lines v slots log o ++ line ∷ []
  open_more slots log o o2 line s q t e =
      (λ i. lines_of v slots log ++ (at_line (s i) ∷ request_line (q i) ∷ t i ∷ e i))
      ∙ sym (append_assoc (lines_of v slots log) (at_line o.slot ∷ request_line o.request ∷ rows_line o.tx o.width o.height o.notice ∷ (map col_line o.cols ++ map row_line o.rows)) (line ∷ []))

  col_more : (slots : Slots) (log : List Logged) (o : Open) (line : Bytes) (next : State) → FitsTranscript f slots log → FitsOpen f (length slots) o → length o.cols < o.width
      → (c : Option Col) → r.col_of line ≡ c → col_step slots log o c ≡ Some next → Steps (tabled slots log o) line next
  col_more slots log o line next fits open_fits less None is e = cc
  col_more slots log o line next fits open_fits less (Some c) is e =
      let o2 : Open = record o { cols = o.cols ++ c ∷ [] } in
      let same : with_table slots log o2 ≡ next = some_is e in
      let read = laws.col_found line c is in
      let none = open_fits.first less in
      let n = length_last o.cols c in
      let row_lines : map row_line o.rows ≡ [] = ap (map row_line) none in
      subst (Steps (tabled slots log o) line) same
      (record {
        lines = table_lines v slots log o2 ∙ open_more slots log o o2 line refl refl refl
            (ap₂ (λ a b. a ++ b) (map_append col_line o.cols (c ∷ [])) row_lines ∙ append-nil _
            ∙ ap₂ (λ a l. a ++ l ∷ []) (sym (append-nil (map col_line o.cols)) ∙ ap (λ b. map col_line o.cols ++ b) (sym row_lines)) (sym read.0));
        fits = table_fits slots log o2 fits (record {
          named = open_fits.named;
          request = open_fits.request;
          notice = open_fits.notice;
          narrow = omega arith;
          low = open_fits.low;
          first = λ _. none;
          cols = each_last f.Col o.cols c open_fits.cols read.1;
          rows = open_fits.rows;
        });
      })

  row_more : (slots : Slots) (log : List Logged) (o : Open) (line : Bytes) (next : State) → FitsTranscript f slots log → FitsOpen f (length slots) o → o.width ≤ length o.cols
      → length o.rows ≢ o.height → (row : Option Row) → r.row_of line ≡ row → row_step slots log o row ≡ Some next → Steps (tabled slots log o) line next
  row_more slots log o line next fits open_fits past open_yet None is e = cc
  row_more slots log o line next fits open_fits past open_yet (Some row) is e = go (length row == o.width) refl e
    where
      o2 : Open
      o2 = record o { rows = o.rows ++ row ∷ [] }

      go : (b : Bool) → length row == o.width ≡ b → cond b (Some (with_table slots log o2)) None ≡ Some next → Steps (tabled slots log o) line next
      go true square e =
          let same : with_table slots log o2 ≡ next = some_is e in
          let read = laws.row_found line row is in
          let n = length_last o.rows row in
          let low = open_fits.low in
          let wide : length row ≡ o.width = (Decides-eqb (length row) o.width).0 square in
          subst (Steps (tabled slots log o) line) same
          (record {
            lines = table_lines v slots log o2 ∙ open_more slots log o o2 line refl refl refl
                (ap (λ b. map col_line o.cols ++ b) (map_append row_line o.rows (row ∷ [])) ∙ sym (append_assoc (map col_line o.cols) (map row_line o.rows) (row_line row ∷ []))
                ∙ ap (λ l. (map col_line o.cols ++ map row_line o.rows) ++ l ∷ []) (sym read.0));
            fits = table_fits slots log o2 fits (record {
              named = open_fits.named;
              request = open_fits.request;
              notice = open_fits.notice;
              narrow = open_fits.narrow;
              low = omega arith;
              first = λ lt. absurd (omega arith);
              cols = open_fits.cols;
              rows = each_last (λ row. f.Row row × (length row ≡ o.width)) o.rows row open_fits.rows (read.1, wide);
            });
          })
      go false square e = cc

  told_more : (slots : Slots) (log : List Logged) (slot : Option ℕ) (q : Request) (line : Bytes) → FitsTranscript f slots log → is_named (length slots) slot ≡ true → f.Request q
      → (t : Told) → TellsAs f line t → Steps (said slots log slot q) line (after_told slots log slot q t)
  told_more slots log slot q line fits named fit (whole t) tells = record {
    lines = lines_more v slots log (logged slot q t) ∙ ap (λ ls. lines_of v slots log ++ at_line slot ∷ request_line q ∷ ls) tells.0
        ∙ sym (append_assoc (lines_of v slots log) (at_line slot ∷ request_line q ∷ []) (line ∷ []));
    fits = log_more slots log (logged slot q t) fits (record { named = named; request = fit; reply = simple t tells.1 tells.2 });
  }
    where
      simple : (t : Reply) → f.Reply t → is_rows t ≡ false → FitsReply f t
      simple (Rows table t notice) h e = cc
      simple Connected h e = h
      simple NoTarget h e = h
      simple Broken h e = h
      simple (Done n t notice) h e = h
      simple (Refused state message t) h e = h
  told_more slots log slot q line fits named fit (opens t width height notice) tells =
      let o : Open = record { slot = slot; request = q; tx = t; width = width; height = height; notice = notice; cols = []; rows = [] } in
      record {
        lines = table_lines v slots log o ∙ ap (λ l. lines_of v slots log ++ at_line slot ∷ request_line q ∷ l ∷ []) (sym tells.0)
            ∙ sym (append_assoc (lines_of v slots log) (at_line slot ∷ request_line q ∷ []) (line ∷ []));
        fits = table_fits slots log o fits (record {
          named = named;
          request = fit;
          notice = tells.1;
          narrow = omega arith;
          low = omega arith;
          first = λ _. refl;
          cols = tt;
          rows = tt;
        });
      }

  pub step_found : (s : State) (line : Bytes) (next : State) → FitsState f s → step r s line ≡ Some next → Steps s line next
  step_found start line next fits e = go (r.is_header line) refl e
    where
      go : (b : Bool) → r.is_header line ≡ b → cond b (Some (between [] [])) None ≡ Some next → Steps start line next
      go true is e =
          let same : between [] [] ≡ next = some_is e in
          subst (Steps start line) same (record {
            lines = ap (λ l. l ∷ []) (sym (laws.header_found line is));
            fits = record { few = omega arith; slots = tt; log = tt };
          })
      go false is e = cc
  step_found (between slots log) line next fits e = slot_more slots log line next fits (r.slot_of line) refl e
  step_found (asked slots log slot) line next fits e =
      let q = bind_some _ _ _ e in
      let read = laws.request_found line q.0 q.1 in
      subst (Steps (asked slots log slot) line) (some_is q.2) (record {
        lines = ap (λ l. lines_of v slots log ++ at_line slot ∷ l ∷ []) (sym read.0) ∙ sym (append_assoc (lines_of v slots log) (at_line slot ∷ []) (line ∷ []));
        fits = (fits.0, fits.1, read.1);
      })
  step_found (said slots log slot q) line next fits e =
      let t = bind_some _ _ _ e in
      subst (Steps (said slots log slot q) line) (some_is t.2) (told_more slots log slot q line fits.0 fits.1 fits.2 t.0 (laws.reply_found line t.0 t.1))
  step_found (tabled slots log o) line next fits e = go (nat_lt (length o.cols) o.width) refl e
    where
      go : (b : Bool) → nat_lt (length o.cols) o.width ≡ b → cond b (col_step slots log o (r.col_of line)) (row_step slots log o (r.row_of line)) ≡ Some next
          → Steps (tabled slots log o) line next
      go true less e = col_more slots log o line next fits.0 fits.1 (grind (arith, nat_tests)) (r.col_of line) refl e
      go false less e =
          let past : o.width ≤ length o.cols = grind (arith, nat_tests) in
          let narrow = fits.1.narrow in
          let wide : length o.cols ≡ o.width = omega arith in
          row_more slots log o line next fits.0 fits.1 past (λ high. not_whole wide high fits.2) (r.row_of line) refl e
        where
          not_whole : length o.cols ≡ o.width → length o.rows ≡ o.height → ((length o.cols == o.width) && (length o.rows == o.height)) ≡ false → ⊥
          not_whole w h n =
              let a : length o.cols == o.width ≡ true = (Decides-eqb (length o.cols) o.width).1 w in
              let b : length o.rows == o.height ≡ true = (Decides-eqb (length o.rows) o.height).1 h in
              let bad : true ≡ false = (λ i. (sym a) i && (sym b) i) ∙ n in cc

  -- the lines that were run are those up to the state
  pub run_found : (lines : List Bytes) (s last : State) → FitsState f s → run r s lines ≡ Some last → (lines_to v last ≡ lines_to v s ++ lines) × FitsState f last
  run_found [] s last fits e =
      let same : s ≡ last = some_is e in
      subst (λ (t : State). (lines_to v t ≡ lines_to v s ++ []) × FitsState f t) same (sym (append-nil (lines_to v s)), fits)
  run_found (line ∷ lines) s last fits e =
      let next = bind_some _ _ _ e in
      let one = step_found s line next.0 fits next.1 in
      let more = run_found lines next.0 last one.fits next.2 in
      (more.0 ∙ ap (λ t. t ++ lines) one.lines ∙ append_assoc (lines_to v s) (line ∷ []) lines, more.1)

  -- ---- each front can be brought to an end

  -- a transcript whose first lines are these
  pub record Ends (lines : List Bytes) : Type 0 where
    pub slots : Slots
    pub log : List Logged
    pub tail : List Bytes
    pub fits : FitsTranscript f slots log
    pub lines_are : lines_of v slots log ≡ lines ++ tail

  a_reply : (slots : Slots) (log : List Logged) (slot : Option ℕ) (q : Request) → FitsTranscript f slots log → is_named (length slots) slot ≡ true → f.Request q
      → FitsTranscript f slots (log ++ logged slot q laws.some_reply.0 ∷ [])
  a_reply slots log slot q fits named fit =
      log_more slots log (logged slot q laws.some_reply.0) fits (record { named = named; request = fit; reply = simple laws.some_reply.0 laws.some_reply.1 laws.some_reply.2 })
    where
      simple : (t : Reply) → f.Reply t → is_rows t ≡ false → FitsReply f t
      simple (Rows table t notice) h e = cc
      simple Connected h e = h
      simple NoTarget h e = h
      simple Broken h e = h
      simple (Done n t notice) h e = h
      simple (Refused state message t) h e = h

  -- so many more columns, and so many more rows
  more_cols : (n : ℕ) → (cs : List Col) × Each f.Col cs × (length cs ≡ n)
  more_cols zero = ([], tt, refl)
  more_cols (suc n) = let more = more_cols n in (laws.some_col.0 ∷ more.0, (laws.some_col.1, more.1), ap suc more.2)

  more_rows : (n width : ℕ) → (rows : List Row) × Each (λ row. f.Row row × (length row ≡ width)) rows × (length rows ≡ n)
  more_rows zero width = ([], tt, refl)
  more_rows (suc n) width =
      let more = more_rows n width in
      let row = laws.some_row width in
      (row.0 ∷ more.0, ((row.1, row.2), more.1), ap suc more.2)

  each_append : {A : Type 0} (P : A → Type 0) (xs ys : List A) → Each P xs → Each P ys → Each P (xs ++ ys)
  each_append P [] ys a b = b
  each_append P (x ∷ xs) ys a b = (a.0, each_append P xs ys a.1 b)

  -- columns before rows: where columns are missing there are no rows yet
  in_order : (cols ec : List Col) (rows er : List Row) → (ec ≡ []) ⊎ (rows ≡ [])
      → map col_line (cols ++ ec) ++ map row_line (rows ++ er) ≡ (map col_line cols ++ map row_line rows) ++ (map col_line ec ++ map row_line er)
  in_order cols ec rows er (inl none) =
      ap (λ e. map col_line (cols ++ e) ++ map row_line (rows ++ er)) none
      ∙ ap₂ (λ c w. map col_line c ++ w) (append-nil cols) (map_append row_line rows er)
      ∙ sym (append_assoc (map col_line cols) (map row_line rows) (map row_line er))
      ∙ ap (λ e. (map col_line cols ++ map row_line rows) ++ (map col_line e ++ map row_line er)) (sym none)
  in_order cols ec rows er (inr none) =
      ap₂ (λ c w. c ++ map row_line (w ++ er)) (map_append col_line cols ec) none
      ∙ append_assoc (map col_line cols) (map col_line ec) (map row_line er)
      ∙ ap (λ c. c ++ (map col_line ec ++ map row_line er)) (sym (append-nil (map col_line cols)) ∙ ap (λ w. map col_line cols ++ map row_line w) (sym none))

  open_ends : (slots : Slots) (log : List Logged) (o : Open) → FitsTranscript f slots log → FitsOpen f (length slots) o → Ends (open_lines v slots log o)
  open_ends slots log o fits open_fits =
      let ec = more_cols (o.width - length o.cols) in
      let er = more_rows (o.height - length o.rows) o.width in
      let narrow = open_fits.narrow in
      let low = open_fits.low in
      let cols : List Col = o.cols ++ ec.0 in
      let rows : List Row = o.rows ++ er.0 in
      let wide : length cols ≡ o.width = omega (arith, length-append o.cols ec.0, ec.2) in
      let high : length rows ≡ o.height = omega (arith, length-append o.rows er.0, er.2) in
      let x : Logged = logged o.slot o.request (Rows (record { cols = cols; rows = rows }) o.tx o.notice) in
      record {
        slots = slots;
        log = log ++ x ∷ [];
        tail = map col_line ec.0 ++ map row_line er.0;
        fits = log_more slots log x fits (record {
          named = open_fits.named;
          request = open_fits.request;
          reply = (
            record {
              cols = each_append f.Col o.cols ec.0 open_fits.cols ec.1;
              rows = rows_wide o.width (length cols) rows (sym wide) (each_append (λ row. f.Row row × (length row ≡ o.width)) o.rows er.0 open_fits.rows er.1);
            },
            open_fits.notice,
          );
        });
        lines_are = lines_more v slots log x
            ∙ (λ i. lines_of v slots log ++ (at_line o.slot ∷ request_line o.request ∷ rows_line o.tx (wide i) (high i) o.notice ∷ in_order o.cols ec.0 o.rows er.0 (order ec.0 ec.2) i))
            ∙ sym (append_assoc (lines_of v slots log) (at_line o.slot ∷ request_line o.request ∷ rows_line o.tx o.width o.height o.notice ∷ (map col_line o.cols ++ map row_line o.rows))
            (map col_line ec.0 ++ map row_line er.0));
      }
    where
      order : (ec : List Col) → length ec ≡ o.width - length o.cols → (ec ≡ []) ⊎ (o.rows ≡ [])
      order [] e = inl refl
      order (c ∷ ec) e = inr (open_fits.first (omega arith))

  pub ends : (s : State) → FitsState f s → Ends (lines_to v s)
  ends start fits = record { slots = []; log = []; tail = lines_of v [] []; fits = record { few = omega arith; slots = tt; log = tt }; lines_are = refl }
  ends (between slots log) fits = record { slots = slots; log = log; tail = []; fits = fits; lines_are = sym (append-nil (lines_of v slots log)) }
  ends (asked slots log slot) fits =
      let x : Logged = logged slot laws.some_request.0 laws.some_reply.0 in
      record {
        slots = slots;
        log = log ++ x ∷ [];
        tail = request_line laws.some_request.0 ∷ reply laws.some_reply.0;
        fits = a_reply slots log slot laws.some_request.0 fits.0 fits.1 laws.some_request.1;
        lines_are = lines_more v slots log x ∙ sym (append_assoc (lines_of v slots log) (at_line slot ∷ []) (request_line laws.some_request.0 ∷ reply laws.some_reply.0));
      }
  ends (said slots log slot q) fits =
      let x : Logged = logged slot q laws.some_reply.0 in
      record {
        slots = slots;
        log = log ++ x ∷ [];
        tail = reply laws.some_reply.0;
        fits = a_reply slots log slot q fits.0 fits.1 fits.2;
        lines_are = lines_more v slots log x ∙ sym (append_assoc (lines_of v slots log) (at_line slot ∷ request_line q ∷ []) (reply laws.some_reply.0));
      }
  ends (tabled slots log o) fits = open_ends slots log o fits.0 fits.1

  -- lines that are run are the first ones of a transcript
  pub live_lines : (lines : List Bytes) (s : State) → run r start lines ≡ Some s → Ends lines
  live_lines lines s e =
      let found = run_found lines start s tt e in
      subst Ends found.0 (ends s found.1)

  -- and what ends between two exchanges is a transcript
  pub whole_found : (lines : List Bytes) (slots : Slots) (log : List Logged) → run r start lines ≡ Some (between slots log) → (lines ≡ lines_of v slots log) × FitsTranscript f slots log
  whole_found lines slots log e = let found = run_found lines start (between slots log) tt e in (sym found.0, found.1)
