-- The text that is sent, part by part.
use Rattle.std.proofs.Common.{◌≡◌, ℕ, zero, suc, ◌+◌, List, [], ◌∷◌, ◌++◌, map, drop, length, refl, sym, ap, ◌∙◌, append_assoc, add-one}
use Rattle.std.proofs.lemmas.List.{append-nil, drop-drop}
use Rattle.std.specs.Prelude.{codes}
use Rattle.std.specs.Fmt.{decimal}
use Rattle.ec_ctypes.specs.trees.Embedded.{HostData, PartData, bytes_part, host_part}
use Rattle.ec_embedded.specs.Parameters.{parameters}
use Rattle.ec_language.specs.Letters.{Text, dollar}
use Rattle.ec_host_defs.specs.Bound.{sent_from, pairs_of}
use Rattle.ec_host_defs.specs.Faults.{host_count}
use Rattle.ec_host_defs.specs.Leaves.{LeafData, paired}
use Rattle.ec_host_defs.specs.Programs.{ProgramData, Denoted}
use Rattle.ec_leaves.specs.declared.parts.Leaf.{Leaf}
use Rattle.ec_leaves.specs.Seen.{leaf_view}
use Rattle.ec_params.specs.declared.sending.Sending.{Sending as SendingText}
use Rattle.ec_params.specs.Sending.{more_parameters, whole, Sends}

pub parameters_are : (n count : ℕ) → dollar ∷ (decimal n ++ more_parameters n count) ≡ parameters n (suc count)
parameters_are n zero = ap (λ (t : Text). dollar ∷ t) (append-nil (decimal n))
parameters_are n (suc count) =
    ap (λ (m : ℕ). dollar ∷ (decimal n ++ (codes ", " ++ (dollar ∷ (decimal m ++ more_parameters m count))))) (add-one n)
    ∙ ap (λ (t : Text). dollar ∷ (decimal n ++ (codes ", " ++ t))) (parameters_are (suc n) count)

-- as many pairs as leaves
pub as_many : (ls is : List LeafData) → length (paired ls is) ≡ length ls
as_many [] is = refl
as_many (l ∷ ls) [] = ap suc (as_many ls [])
as_many (l ∷ ls) (i ∷ is) = ap suc (as_many ls is)

pub as_many_seen : (own : List Leaf) → length (map leaf_view own) ≡ length own
as_many_seen [] = refl
as_many_seen (l ∷ own) = ap suc (as_many_seen own)

pub sent_host : (p : ProgramData) (ds : Denoted) (h : HostData) (old new : SendingText) (count : ℕ)
    → count ≡ length (pairs_of p h (drop old.at ds)) → new.text ≡ old.text ++ parameters old.number count
    → new.number ≡ old.number + count → new.at ≡ old.at + host_count h
    → Sends p ds (host_part h ∷ []) old new
sent_host p ds h old new count e-count e-text e-number e-at = record {
  is = λ qs.
      (λ i. e-text i ++ sent_from p (e-number i) qs ((ap (λ (k : ℕ). drop k ds) e-at ∙ sym (drop-drop (host_count h) old.at ds)) i))
      ∙ append_assoc old.text (parameters old.number count) (sent_from p (old.number + count) qs (drop (host_count h) (drop old.at ds)))
      ∙ ap (λ (k : ℕ). old.text ++ (parameters old.number k ++ sent_from p (old.number + k) qs (drop (host_count h) (drop old.at ds)))) e-count;
}

pub sent_bytes : (p : ProgramData) (ds : Denoted) (b : Text) (old new : SendingText)
    → new.text ≡ old.text ++ b → new.number ≡ old.number → new.at ≡ old.at → Sends p ds (bytes_part b ∷ []) old new
sent_bytes p ds b old new e-text e-number e-at = record {
  is = λ qs. (λ i. e-text i ++ sent_from p (e-number i) qs (drop (e-at i) ds)) ∙ append_assoc old.text b (sent_from p old.number qs (drop old.at ds));
}

-- All these parts were to be put at the end, and those are left.
pub record Onward (p : ProgramData) (ds : Denoted) (all left : List PartData) (old now : SendingText) : Type 0 where
  pub is : (qs : List PartData) → whole p ds (left ++ qs) now ≡ whole p ds (all ++ qs) old

pub onward_start : {p : ProgramData} {ds : Denoted} {ps : List PartData} {s : SendingText} → Onward p ds ps ps s s
onward_start = record { is = λ qs. refl }

pub onward_step : {p : ProgramData} {ds : Denoted} {all left : List PartData} {x : PartData} {a b c : SendingText} → Onward p ds all (x ∷ left) a b → Sends p ds (x ∷ []) b c → Onward p ds all left a c
onward_step {p} {ds} {all} {left} {x} {a} {b} {c} o s = record { is = λ qs. s.is (left ++ qs) ∙ o.is qs }

pub onward_end : {p : ProgramData} {ds : Denoted} {all : List PartData} {a b : SendingText} → Onward p ds all [] a b → Sends p ds all a b
onward_end o = record { is = λ qs. o.is qs }

-- the whole text
pub all_sent : (p : ProgramData) (ds : Denoted) (ps : List PartData) (old new : SendingText) → old.text ≡ [] → old.number ≡ 1 → Sends p ds ps old new → new.text ≡ sent_from p 1 ps (drop old.at ds)
all_sent p ds ps old new e f s =
    sym (append-nil new.text) ∙ s.is []
    ∙ (λ i. e i ++ sent_from p (f i) (append-nil ps i) (drop old.at ds))
