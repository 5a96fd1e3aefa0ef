-- Chunks that are written one after the other.
use Rattle.std.proofs.Common.{◌≡◌, [], ◌∷◌, ◌++◌, refl, ap, sym, ◌∙◌, append_assoc, append-nil}
use Rattle.ec_language.specs.Letters.{Text}
use Rattle.ec_writing_defs.specs.Chunks.{Chunk, Chunks, chunk_text, text_of}
use Rattle.ec_cwrite.specs.Writes.{Writes}

pub text_append : (cs ds : Chunks) → text_of (cs ++ ds) ≡ text_of cs ++ text_of ds
text_append [] ds = refl
text_append (c ∷ cs) ds = ap (λ t. chunk_text c ++ t) (text_append cs ds) ∙ sym (append_assoc (chunk_text c) (text_of cs) (text_of ds))

pub nothing : (a : Text) → Writes a a []
nothing a = record { is = sym (append-nil a) }

pub both : {a b c : Text} {cs ds : Chunks} → Writes a b cs → Writes b c ds → Writes a c (cs ++ ds)
both {a} {b} {c} {cs} {ds} x y = record { is = y.is ∙ ap (λ t. t ++ text_of ds) x.is ∙ append_assoc a (text_of cs) (text_of ds) ∙ ap (λ t. a ++ t) (sym (text_append cs ds)) }

-- one chunk, of this text
pub one : {a b : Text} (c : Chunk) → b ≡ a ++ chunk_text c → Writes a b (c ∷ [])
one {a} {b} c e = record { is = e ∙ ap (λ t. a ++ t) (sym (append-nil (chunk_text c))) }
