-- The texts of items on their way to a writer, one after another.
use Rattle.std.proofs.Common.{◌≡◌, ℕ, ◌+◌, ◌<◌, ◌≤◌, List, ◌++◌, length, drop, get_or, Option, sym}
use Rattle.std.proofs.Common.{ap, subst, ◌∙◌, append_assoc}
use Rattle.std.specs.List.{flat_map}
use Rattle.std.proofs.lemmas.List.{append-nil, drop_all, drop_more}
use Rattle.certificate_text.specs.Sending.{SendsAll, SendsPart}
use Rattle.certificate_text.specs.declared.sink.Sink.{Sink}
use Rattle.certificate_text.proofs.SentLemmas.{sends_then, sends_part, sends_more}

-- those before the index were sent, and the others are to come
pub record SentTo {W X : Type 0} (contents : W → Option (List ℕ)) (text_of : X → List ℕ) (old new : Sink W)
    (items : List X) (index : ℕ) : Type 0 where
  pub text : List ℕ
  pub sent : SendsAll contents old new text
  pub parts : text ++ flat_map text_of (drop index items) ≡ flat_map text_of items

-- the next item's text follows what was sent
next_parts : {W X : Type 0} (contents : W → Option (List ℕ)) (text_of : X → List ℕ) (old new : Sink W)
    (items : List X) (index : ℕ) (item : X) → index < length items → item ≡ get_or items index item
    → (s : SentTo contents text_of old new items index)
    → s.text ++ (text_of item ++ flat_map text_of (drop (index + 1) items)) ≡ flat_map text_of items
next_parts {W} {X} contents text_of old new items index item lt is s =
    ap (λ (x : X). s.text ++ (text_of x ++ flat_map text_of (drop (index + 1) items))) is
    ∙ ap (λ (l : List X). s.text ++ flat_map text_of l) (sym (drop_more items index item lt)) ∙ s.parts

-- where the next text is sent, all up to it are
pub one_more : {W X : Type 0} (contents : W → Option (List ℕ)) (text_of : X → List ℕ) (old new next : Sink W)
    (items : List X) (index : ℕ) (item : X)
    → index < length items → item ≡ get_or items index item → SentTo contents text_of old new items index
    → SendsAll contents new next (text_of item) → SentTo contents text_of old next items (index + 1)
one_more contents text_of old new next items index item lt is s p = record {
  text = s.text ++ text_of item;
  sent = sends_then contents old new next s.text (text_of item) s.sent p;
  parts = append_assoc s.text (text_of item) (flat_map text_of (drop (index + 1) items))
      ∙ next_parts contents text_of old new items index item lt is s;
}

-- where a beginning of the next text was taken, a beginning of all was
pub one_failed : {W X : Type 0} (contents : W → Option (List ℕ)) (text_of : X → List ℕ) (old new next : Sink W)
    (items : List X) (index : ℕ) (item : X)
    → index < length items → item ≡ get_or items index item → SentTo contents text_of old new items index
    → SendsPart contents new next (text_of item) → SendsPart contents old next (flat_map text_of items)
one_failed contents text_of old new next items index item lt is s part =
    let rest = flat_map text_of (drop (index + 1) items) in
    subst (SendsPart contents old next) (next_parts contents text_of old new items index item lt is s)
    (sends_part contents old new next s.text (text_of item ++ rest) s.sent
    (sends_more contents new next (text_of item) rest part))

-- after the last item all texts are sent
pub all_sent : {W X : Type 0} (contents : W → Option (List ℕ)) (text_of : X → List ℕ) (old new : Sink W)
    (items : List X) (index : ℕ) → length items ≤ index → SentTo contents text_of old new items index
    → SendsAll contents old new (flat_map text_of items)
all_sent {W} {X} contents text_of old new items index past s =
    subst (SendsAll contents old new) (sym (append-nil s.text)
    ∙ ap (λ (l : List X). s.text ++ flat_map text_of l) (sym (drop_all index items past)) ∙ s.parts) s.sent
