-- What a symbol derives from chunks, wherever they stand on their line, with the line behind them. Each production is one row of elements, in the shape of its chunks.
use Rattle.std.proofs.Common.{◌≡◌, ℕ, suc, true, List, [], ◌∷◌, ◌++◌, refl, ◌⊎◌, inl, inr, ap, sym, ◌∙◌, subst, append_assoc}
use Rattle.std.proofs.lemmas.List.{append-nil}
use Rattle.ec_ctypes.specs.trees.Tokens.{TokData}
use Rattle.ec_language.specs.Productions.{start_of, is, Terminal, Sym, Value, Counted, Element, tok, count, sym as ofs, nest, whole, own, Row, Node, Nodes, Follows, Production, productions}
use Rattle.ec_language.specs.Unlimited.{UnlimitedElement, UnlimitedRow, UnlimitedMakes, OneOf, DerivesUnlimited}
use Rattle.ec_language.proofs.Unlimited.{made as derived_by}
use Rattle.ec_writing_defs.specs.Chunks.{the, blank, line_end, line_mark, Chunks, At, behind, behind_all, place_token, chunk_tokens, tokens_from, line_behind}

-- ---- tokens and lines of chunks that are joined

pub tokens_append : (at : At) (cs ds : Chunks) → tokens_from at (cs ++ ds) ≡ tokens_from at cs ++ tokens_from (behind_all at cs) ds
tokens_append at [] ds = refl
tokens_append at (c ∷ cs) ds = ap (λ w. chunk_tokens at c ++ w) (tokens_append (behind at c) cs ds) ∙ sym (append_assoc (chunk_tokens at c) (tokens_from (behind at c) cs) (tokens_from (behind_all at (c ∷ cs)) ds))

pub line_append : (n : ℕ) (cs ds : Chunks) → line_behind n (cs ++ ds) ≡ line_behind (line_behind n cs) ds
line_append n [] ds = refl
line_append n (the t ∷ cs) ds = line_append n cs ds
line_append n (blank ∷ cs) ds = line_append n cs ds
line_append n (line_end ∷ cs) ds = line_append (suc n) cs ds
line_append n (line_mark m ∷ cs) ds = line_append m cs ds

pub line_is : (at : At) (cs : Chunks) → (behind_all at cs).line ≡ line_behind at.line cs
line_is at [] = refl
line_is at (the t ∷ cs) = line_is (behind at (the t)) cs
line_is at (blank ∷ cs) = line_is at cs
line_is at (line_end ∷ cs) = line_is (behind at line_end) cs
line_is at (line_mark m ∷ cs) = line_is (behind at (line_mark m)) cs

-- ---- symbols and rows

-- From the one line to the other the chunks are written for the symbol, with this tree.
pub record Written (n m : ℕ) (s : Sym) (cs : Chunks) (v : Value s) : Type 0 where
  pub derived : (at : At) → at.line ≡ n → DerivesUnlimited s (tokens_from at cs) v
  pub ends : line_behind n cs ≡ m

-- and for a row of elements
pub record Parts (n m : ℕ) (f : Follows) (r : Row) (cs : Chunks) (vs : At → Nodes r) : Type 0 where
  pub derived : (at : At) → at.line ≡ n → UnlimitedRow DerivesUnlimited f r (tokens_from at cs) (vs at)
  pub ends : line_behind n cs ≡ m

-- on one line
abbrev pub On : ℕ → (s : Sym) → Chunks → Value s → Type 0
On n s cs v = Written n n s cs v

-- to the line that the chunks lead to
pub settled : {n m : ℕ} {s : Sym} {cs : Chunks} {v : Value s} → Written n m s cs v → Written n (line_behind n cs) s cs v
settled d = record { derived = d.derived; ends = refl }

pub done : {n : ℕ} {f : Follows} → Parts n n f [] [] (λ at. tt)
done = record { derived = λ at l. refl; ends = refl }

pub token : {n m : ℕ} {f : Follows} {t : Terminal} {r : Row} {cs : Chunks} {vs : At → Nodes r} (x : TokData) → is t x ≡ true → ((at : At) → f (tok t) (place_token at x) ≡ true) → Parts n m f r cs vs
    → Parts n m f (tok t ∷ r) (the x ∷ cs) (λ at. (place_token at x, vs (behind at (the x))))
token {cs = cs} x e g p = record {
  derived = λ at l. (place_token at x ∷ [], tokens_from (behind at (the x)) cs, refl, (refl, e), p.derived (behind at (the x)) l, inr (g at));
  ends = p.ends;
}

pub counts : {n m : ℕ} {f : Follows} {k : Counted} {t : Terminal} {r : Row} {cs : Chunks} {vs : At → Nodes r} (x : TokData) → is t x ≡ true → ((at : At) → f (count k t) (place_token at x) ≡ true) → Parts n m f r cs vs
    → Parts n m f (count k t ∷ r) (the x ∷ cs) (λ at. (place_token at x, vs (behind at (the x))))
counts {cs = cs} x e g p = record {
  derived = λ at l. (place_token at x ∷ [], tokens_from (behind at (the x)) cs, refl, (refl, e), p.derived (behind at (the x)) l, inr (g at));
  ends = p.ends;
}

pub gap : {n m : ℕ} {f : Follows} {r : Row} {cs : Chunks} {vs : At → Nodes r} → Parts n m f r cs vs → Parts n m f r (blank ∷ cs) vs
gap p = record { derived = λ at l. p.derived at l; ends = p.ends }

pub new_line : {n m : ℕ} {f : Follows} {r : Row} {cs : Chunks} {vs : At → Nodes r} → Parts (suc n) m f r cs vs → Parts n m f r (line_end ∷ cs) (λ at. vs (behind at line_end))
new_line p = record { derived = λ at l. p.derived (behind at line_end) (ap suc l); ends = p.ends }

-- a line with its number, before a row
pub marked : {n m : ℕ} {f : Follows} {r : Row} {cs : Chunks} {vs : At → Nodes r} (k : ℕ) → Parts k m f r cs vs → Parts n m f r (line_mark k ∷ cs) (λ at. vs (behind at (line_mark k)))
marked k p = record { derived = λ at l. p.derived (behind at (line_mark k)) refl; ends = p.ends }

-- ---- elements

-- an element of so many chunks, before a row
joined : (n m k : ℕ) (f : Follows) (i : Element) (r : Row) (cs ds : Chunks) (v : Node i) (vs : At → Nodes r)
    → ((at : At) → at.line ≡ n → UnlimitedElement DerivesUnlimited i (tokens_from at cs) v) → line_behind n cs ≡ m → ((ds ≡ []) ⊎ (f i v ≡ true)) → Parts m k f r ds vs
    → Parts n k f (i ∷ r) (cs ++ ds) (λ at. (v, vs (behind_all at cs)))
joined n m k f i r cs ds v vs d ends e p = record {
  derived = λ at l. (
    tokens_from at cs,
    tokens_from (behind_all at cs) ds,
    tokens_append at cs ds,
    d at l,
    p.derived (behind_all at cs) (line_is at cs ∙ ap (λ x. line_behind x cs) l ∙ ends),
    follows at e,
  );
  ends = line_append n cs ds ∙ ap (λ x. line_behind x ds) ends ∙ p.ends;
}
  where
    follows : (at : At) → ((ds ≡ []) ⊎ (f i v ≡ true)) → ((tokens_from (behind_all at cs) ds ≡ []) ⊎ (f i v ≡ true))
    follows at (inl h) = inl (ap (tokens_from (behind_all at cs)) h)
    follows at (inr h) = inr h

pub part : {n m k : ℕ} {f : Follows} {s : Sym} {r : Row} {cs ds : Chunks} {v : Value s} {vs : At → Nodes r} → Written n m s cs v → f (ofs s) v ≡ true → Parts m k f r ds vs → Parts n k f (ofs s ∷ r) (cs ++ ds) (λ at. (v, vs (behind_all at cs)))
part {n} {m} {k} {f} {s} {r} {cs} {ds} {v} {vs} d e p = joined n m k f (ofs s) r cs ds v vs d.derived d.ends (inr e) p

pub inner : {n m k : ℕ} {f : Follows} {s : Sym} {r : Row} {cs ds : Chunks} {v : Value s} {vs : At → Nodes r} → Written n m s cs v → f (nest s) v ≡ true → Parts m k f r ds vs → Parts n k f (nest s ∷ r) (cs ++ ds) (λ at. (v, vs (behind_all at cs)))
inner {n} {m} {k} {f} {s} {r} {cs} {ds} {v} {vs} d e p = joined n m k f (nest s) r cs ds v vs d.derived d.ends (inr e) p

pub full : {n m k : ℕ} {f : Follows} {s : Sym} {r : Row} {cs ds : Chunks} {v : Value s} {vs : At → Nodes r} → Written n m s cs v → f (whole s) v ≡ true → Parts m k f r ds vs → Parts n k f (whole s ∷ r) (cs ++ ds) (λ at. (v, vs (behind_all at cs)))
full {n} {m} {k} {f} {s} {r} {cs} {ds} {v} {vs} d e p = joined n m k f (whole s) r cs ds v vs d.derived d.ends (inr e) p

pub its_own : {n m k : ℕ} {f : Follows} {s : Sym} {r : Row} {cs ds : Chunks} {v : Value s} {vs : At → Nodes r} → Written n m s cs v → f (own s) v ≡ true → Parts m k f r ds vs → Parts n k f (own s ∷ r) (cs ++ ds) (λ at. (v, vs (behind_all at cs)))
its_own {n} {m} {k} {f} {s} {r} {cs} {ds} {v} {vs} d e p = joined n m k f (own s) r cs ds v vs d.derived d.ends (inr e) p

-- one level deeper, before elements that stand for nothing
pub inner_alone : {n m k : ℕ} {f : Follows} {s : Sym} {r : Row} {cs : Chunks} {v : Value s} {vs : At → Nodes r} → Written n m s cs v → Parts m k f r [] vs → Parts n k f (nest s ∷ r) (cs ++ []) (λ at. (v, vs (behind_all at cs)))
inner_alone {n} {m} {k} {f} {s} {r} {cs} {v} {vs} d p = joined n m k f (nest s) r cs [] v vs d.derived d.ends (inl refl) p

-- ---- the last element of a row

finish : (n m : ℕ) (f : Follows) (i : Element) (cs : Chunks) (v : Node i) → ((at : At) → at.line ≡ n → UnlimitedElement DerivesUnlimited i (tokens_from at cs) v) → line_behind n cs ≡ m → Parts n m f (i ∷ []) cs (λ at. (v, tt))
finish n m f i cs v d ends = record {
  derived = λ at l. (tokens_from at cs, [], sym (append-nil (tokens_from at cs)), d at l, refl, inl refl);
  ends = ends;
}

pub last_part : {n m : ℕ} {f : Follows} {s : Sym} {cs : Chunks} {v : Value s} → Written n m s cs v → Parts n m f (ofs s ∷ []) cs (λ at. (v, tt))
last_part {n} {m} {f} {s} {cs} {v} d = finish n m f (ofs s) cs v d.derived d.ends

pub last_inner : {n m : ℕ} {f : Follows} {s : Sym} {cs : Chunks} {v : Value s} → Written n m s cs v → Parts n m f (nest s ∷ []) cs (λ at. (v, tt))
last_inner {n} {m} {f} {s} {cs} {v} d = finish n m f (nest s) cs v d.derived d.ends

pub last_full : {n m : ℕ} {f : Follows} {s : Sym} {cs : Chunks} {v : Value s} → Written n m s cs v → Parts n m f (whole s ∷ []) cs (λ at. (v, tt))
last_full {n} {m} {f} {s} {cs} {v} d = finish n m f (whole s) cs v d.derived d.ends

pub last_own : {n m : ℕ} {f : Follows} {s : Sym} {cs : Chunks} {v : Value s} → Written n m s cs v → Parts n m f (own s ∷ []) cs (λ at. (v, tt))
last_own {n} {m} {f} {s} {cs} {v} d = finish n m f (own s) cs v d.derived d.ends

-- ---- productions

pub data Among {A : Type 0} : Production A → List (Production A) → Type 0 where
  here : {a : Production A} {l : List (Production A)} → Among a (a ∷ l)
  next : {a b : Production A} {l : List (Production A)} → Among a l → Among a (b ∷ l)

pub any_of : {A : Type 0} (X : Production A → Type 0) (a : Production A) (l : List (Production A)) → Among a l → X a → OneOf X l
any_of X a [] m x = elim m [ ]
any_of X a (_ ∷ _) here x = inl x
any_of X a (b ∷ l) (next m) x = inr (any_of X a l m x)

-- The production makes the tree of its parts, where they stand on this line.
pub made_on : {n m : ℕ} {s : Sym} {cs : Chunks} {v : Value s} (a : Production (Value s)) → Among a (productions s) → {vs : At → Nodes a.row} → Parts n m a.follows a.row cs vs
    → ((at : At) → at.line ≡ n → v ≡ a.make (start_of (tokens_from at cs)) (vs at)) → Written n m s cs v
made_on {s = s} {cs} {v} a i {vs} p e = record {
  derived = λ at l. derived_by s (tokens_from at cs) v (any_of (UnlimitedMakes DerivesUnlimited (tokens_from at cs) v) a (productions s) i (vs at, e at l, p.derived at l));
  ends = p.ends;
}

-- and wherever they stand
pub made : {n m : ℕ} {s : Sym} {cs : Chunks} {v : Value s} (a : Production (Value s)) → Among a (productions s) → {vs : At → Nodes a.row} → Parts n m a.follows a.row cs vs
    → ((at : At) → v ≡ a.make (start_of (tokens_from at cs)) (vs at)) → Written n m s cs v
made a i p e = made_on a i p (λ at l. e at)

pub same_chunks : {n m : ℕ} {s : Sym} {v : Value s} (cs ds : Chunks) → cs ≡ ds → Written n m s cs v → Written n m s ds v
same_chunks {n} {m} {s} {v} cs ds e d = subst (λ c. Written n m s c v) e d

pub same_tree : {n m : ℕ} {s : Sym} {cs : Chunks} (v z : Value s) → v ≡ z → Written n m s cs v → Written n m s cs z
same_tree {n} {m} {s} {cs} v z e d = subst (λ x. Written n m s cs x) e d
