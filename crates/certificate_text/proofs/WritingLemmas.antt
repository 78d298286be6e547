-- What a writer took, one write after another.
use Rattle.std.proofs.Common.{◌≡◌, ℕ, ◌<◌, length, List, [], ◌++◌, take, drop, Option, Some, None, sym, ap}
use Rattle.std.proofs.Common.{◌∙◌, append_assoc}
use Rattle.std.proofs.lemmas.List.{take-append-drop, append-nil}
use Rattle.std.specs.Io.KnownBytes.{Appends, Keeps}
use Rattle.certificate_text.specs.Writing.{AppendsFront}

-- the writer took a front of the bytes, and the rest is still to be written
pub record Put (old new : Option (List ℕ)) (bytes rest : List ℕ) : Type 0 where
  pub front : List ℕ
  pub parts : bytes ≡ front ++ rest
  pub put : Appends old new front

-- two texts taken one after the other are taken as one
pub then_appends : (a b c : Option (List ℕ)) (xs ys : List ℕ) → Appends a b xs → Appends b c ys → Appends a c (xs ++ ys)
then_appends None b c xs ys p q = tt
then_appends (Some x) None c xs ys p q = absurd p
then_appends (Some x) (Some y) None xs ys p q = absurd q
then_appends (Some x) (Some y) (Some z) xs ys p q = q ∙ ap (λ l. l ++ ys) p ∙ append_assoc x xs ys

-- a writer as it was took nothing
pub none_taken : (a : Option (List ℕ)) → Appends a a []
none_taken None = tt
none_taken (Some x) = sym (append-nil x)

-- a write takes the next bytes
pub put_more : (a b c : Option (List ℕ)) (bytes rest : List ℕ) (n : ℕ) → Put a b bytes rest → Appends b c (take n rest)
    → Put a c bytes (drop n rest)
put_more a b c bytes rest n p q = record {
  front = p.front ++ take n rest;
  parts = p.parts ∙ ap (λ l. p.front ++ l) (sym (take-append-drop n rest))
      ∙ sym (append_assoc p.front (take n rest) (drop n rest));
  put = then_appends a b c p.front (take n rest) p.put q;
}

-- a writer that stays as it is where bytes are left has a beginning
pub put_kept : (a b c : Option (List ℕ)) (bytes rest : List ℕ) → Put a b bytes rest → 0 < length rest → Keeps b c
    → AppendsFront a c bytes
put_kept a b c bytes rest p left q = (p.front, rest, left, p.parts, kept a b c p.put q)
  where
    kept : (a b c : Option (List ℕ)) → Appends a b p.front → Keeps b c → Appends a c p.front
    kept None b c p q = tt
    kept (Some x) None c p q = absurd p
    kept (Some x) (Some y) None p q = absurd q
    kept (Some x) (Some y) (Some z) p q = q ∙ p
