-- What is on its way to a writer, one text after another.
use Rattle.std.proofs.Common.{◌≡◌, ℕ, List, [], ◌++◌, Option, Result, Ok, Err, refl, sym, ap, subst, ◌∙◌, append_assoc}
use Rattle.std.specs.String.{string_capacity, string_len}
use Rattle.std.specs.declared.string.String.{String}
use Rattle.std.proofs.Common.{◌<◌, ◌+◌, length, length-append, arith, string_bytes}
use Rattle.std.proofs.lemmas.List.{append-nil}
use Rattle.std.specs.Io.KnownBytes.{Appends}
use Rattle.certificate_text.specs.Sending.{IsSameSink, SendsAll, SendsPart, IsSent}
use Rattle.certificate_text.specs.Writing.{AppendsFront, AppendsPart, Passes}
use Rattle.certificate_text.specs.declared.sink.Sink.{Sink}
use Rattle.certificate_text.proofs.WritingLemmas.{then_appends, none_taken}

-- a beginning of a text is one of a longer one
pub front_longer : (a b : Option (List ℕ)) (text more : List ℕ) → AppendsFront a b text
    → AppendsFront a b (text ++ more)
front_longer a b text more (front, rest, left, parts, taken) = (
  front,
  rest ++ more,
  omega (arith, left, length-append rest more),
  ap (λ (l : List ℕ). l ++ more) parts ∙ append_assoc front rest more,
  taken,
)

-- a beginning of what was sent is one of a longer text
pub front_more : (a b : Option (List ℕ)) (had text more : List ℕ) → AppendsFront a b (had ++ text)
    → AppendsFront a b (had ++ (text ++ more))
front_more a b had text more taken = subst (AppendsFront a b) (append_assoc had text more)
    (front_longer a b (had ++ text) more taken)

-- a text passed, and of the next one a beginning was taken
pub front_then : (a b c : Option (List ℕ)) (had has text more : List ℕ) → Passes a had b has text
    → AppendsFront b c (has ++ more) → AppendsFront a c (had ++ (text ++ more))
front_then a b c had has text more p (front, rest, left, parts, taken) = (
  p.front ++ front,
  rest,
  left,
  sym (append_assoc had text more) ∙ ap (λ (l : List ℕ). l ++ more) p.parts ∙ append_assoc p.front has more
      ∙ ap (λ (l : List ℕ). p.front ++ l) parts ∙ sym (append_assoc p.front front rest),
  then_appends a b c p.front front p.taken taken,
)

-- two texts on their way one after the other are one
pub passes_then : (a b c : Option (List ℕ)) (had has holds text more : List ℕ) → Passes a had b has text
    → Passes b has c holds more → Passes a had c holds (text ++ more)
passes_then a b c had has holds text more p q = record {
  front = p.front ++ q.front;
  taken = then_appends a b c p.front q.front p.taken q.taken;
  parts = sym (append_assoc had text more) ∙ ap (λ (l : List ℕ). l ++ more) p.parts ∙ append_assoc p.front has more
      ∙ ap (λ (l : List ℕ). p.front ++ l) q.parts ∙ sym (append_assoc p.front q.front holds);
}

-- nothing was taken yet of a text that isn't empty
pub front_none : (a : Option (List ℕ)) (had text : List ℕ) → 0 < length text → AppendsFront a a (had ++ text)
front_none a had text some = ([], had ++ text, omega (arith, length-append had text), refl, none_taken a)

-- and nothing of any
pub part_none : (a : Option (List ℕ)) (text : List ℕ) → AppendsPart a a text
part_none a text = ([], text, refl, none_taken a)

-- what the buffer had was taken, and nothing of a text that isn't empty
pub front_taken : (a b : Option (List ℕ)) (had text : List ℕ) → 0 < length text → Appends a b had
    → AppendsFront a b (had ++ text)
front_taken a b had text some taken = (had, text, some, refl, taken)

-- an empty text is on its way with nothing done
pub passes_none : (a : Option (List ℕ)) (had : List ℕ) → Passes a had a had []
passes_none a had = record { front = []; taken = none_taken a; parts = append-nil had }

-- ---- to a sink

-- a sink that stays the same twice stays the same
same_then : {W : Type 0} (a b c : Sink W) → IsSameSink a b → IsSameSink b c → IsSameSink a c
same_then a b c p q = record { writer = q.writer ∙ p.writer; buffer = q.buffer ∙ p.buffer }

-- an empty text is on its way with nothing done
pub sends_none : {W : Type 0} (contents : W → Option (List ℕ)) (a : Sink W) → SendsAll contents a a []
sends_none contents a = record {
  same = record { writer = refl; buffer = refl };
  passed = passes_none (contents a.writer.now) (string_bytes a.buffer.now);
}

-- two texts on their way one after the other are one
pub sends_then : {W : Type 0} (contents : W → Option (List ℕ)) (a b c : Sink W) (text more : List ℕ)
    → SendsAll contents a b text → SendsAll contents b c more → SendsAll contents a c (text ++ more)
sends_then contents a b c text more p q = record {
  same = same_then a b c p.same q.same;
  passed = passes_then (contents a.writer.now) (contents b.writer.now) (contents c.writer.now)
      (string_bytes a.buffer.now) (string_bytes b.buffer.now) (string_bytes c.buffer.now) text more p.passed q.passed;
}

-- a text is on its way, and of the next one a beginning was taken
pub sends_part : {W : Type 0} (contents : W → Option (List ℕ)) (a b c : Sink W) (text more : List ℕ)
    → SendsAll contents a b text → SendsPart contents b c more → SendsPart contents a c (text ++ more)
sends_part contents a b c text more p q = record {
  same = same_then a b c p.same q.same;
  taken = front_then (contents a.writer.now) (contents b.writer.now) (contents c.writer.now)
      (string_bytes a.buffer.now) (string_bytes b.buffer.now) text more p.passed q.taken;
}

-- a beginning of a text is one of a longer one
pub sends_more : {W : Type 0} (contents : W → Option (List ℕ)) (a b : Sink W) (text more : List ℕ)
    → SendsPart contents a b text → SendsPart contents a b (text ++ more)
sends_more contents a b text more p = record {
  same = p.same;
  taken = front_more (contents a.writer.now) (contents b.writer.now) (string_bytes a.buffer.now) text more p.taken;
}

-- the first text wasn't sent, and nor was the whole
pub err_sent : {W X F : Type 0} (contents : W → Option (List ℕ)) (r : Result X F) (e : F) (a b : Sink W)
    (text rest whole : List ℕ)
    → r ≡ Err e → text ++ rest ≡ whole → SendsPart contents a b text → IsSent contents r a b whole
err_sent contents r e a b text rest whole failed is part =
    rw failed (subst (SendsPart contents a b) is (sends_more contents a b text rest part))

-- what follows a text on its way settles both
sent_then : {W X E : Type 0} (contents : W → Option (List ℕ)) (r : Result X E) (a b c : Sink W) (text more : List ℕ)
    → SendsAll contents a b text → IsSent contents r b c more → IsSent contents r a c (text ++ more)
sent_then contents (Ok x) a b c text more p q = sends_then contents a b c text more p q
sent_then contents (Err e) a b c text more p q = sends_part contents a b c text more p q

-- the first text was sent, and the second settles it
pub then_sent : {W X E : Type 0} (contents : W → Option (List ℕ)) (r : Result X E) (a b c : Sink W)
    (text rest whole : List ℕ)
    → text ++ rest ≡ whole → SendsAll contents a b text → IsSent contents r b c rest → IsSent contents r a c whole
then_sent contents r a b c text rest whole is p q =
    subst (IsSent contents r a c) is (sent_then contents r a b c text rest p q)

-- nothing was sent of a text that isn't empty
pub failed_before : {W X F : Type 0} (contents : W → Option (List ℕ)) (r : Result X F) (e : F) (a : Sink W)
    (text : List ℕ) → r ≡ Err e → 0 < length text → IsSent contents r a a text
failed_before contents r e a text failed some = rw failed (record {
  same = record { writer = refl; buffer = refl };
  taken = front_none (contents a.writer.now) (string_bytes a.buffer.now) text some;
})

-- a string that has no room for a text more was asked to take some
pub asked_some : {Z : Type 0} (s : String Z) (text : List ℕ) → string_capacity s < string_len s + length text
    → 0 < length text
asked_some s text full = omega (arith, s.bytes.ok.1, full)
