-- What reading the first lines of a plan answers, and that it answers nothing else.
use Rattle.std.proofs.Common.{◌≡◌, ◌≢◌, ℕ, ◌+◌, ◌<◌, ◌⊎◌, inl, inr, List, [], ◌∷◌, ◌++◌, length, map, All, refl, sym}
use Rattle.std.proofs.Common.{ap, subst, arith, ◌∙◌, append_assoc, Option, Some, None, Result, Ok, Err, codes}
use Rattle.std.specs.Prelude.{IfErr, IfOk, IfSome, decimal}
use Rattle.std.proofs.lemmas.List.{length_push, map_push}
use Rattle.std.proofs.lemmas.List.Elements.{All-head, All-nil, All-push, All-tail}
use Rattle.proof_rules.specs.Text.{ended}
use Rattle.cave_base.specs.Answer.{IsAnswer, IsRefusal}
use Rattle.certificate_lines.specs.Cuts.{AreClean, HasNoFeed}
use Rattle.certificate_lines.specs.Numbers.{IsSmall}
use Rattle.certificate_lines.proofs.Digits.{digits_of}
use Rattle.certificate_lines.proofs.Feeds.{clean_append, clean_digits, clean_word}
use Rattle.certificate_lines.proofs.Unique.{GoesOn, clean_front, compare}
use Rattle.cave_model.specs.declared.hang.Hang.{Hang}
use Rattle.cave_model.specs.declared.hang.Hang.TheVariants.{Floor, North, East, South, West}
use Rattle.cave_plan.specs.PlanText.{hang_word}
use Rattle.plan_reading.specs.Fields.{BeginsWithDark, BeginsWithHead, BeginsWithTorch, HasNoCorner, HasNoTorch}
use Rattle.plan_reading.specs.Placed.{IsNoPlan}
use Rattle.plan_reading.specs.PlanLines.{AreFirstLines, IsFirstMisfit, IsInRange, IsNear, TellsTorches, Told}
use Rattle.plan_reading.specs.PlanLines.{corner_line, corner_lines, dark_line, head_line, lines_of, torch_line}
use Rattle.plan_reading.specs.Walked.{Opening, Opens, PassesCorner, Took, opening_lines}
use Rattle.plan_reading.specs.declared.fault.TorchesFault.{TorchesFault}
use Rattle.plan_reading.specs.declared.fault.TorchesFault.TheVariants as faults
use Rattle.plan_reading.specs.declared.torch.ToldTorch.{ToldTorch}
use Rattle.plan_reading.proofs.LineLemmas.{ended-append, ended_first, one_plan}
use Rattle.plan_reading.proofs.MisfitLemmas.{told_by, told_in_range, told_lines, walk_misfit}

-- ---- the opening

-- the bytes begin with the lines of an opening
opening_parts : (bytes after rest : List ℕ) (o : Opening) (middle : List ℕ)
    → bytes ≡ head_line o.count o.floor ++ 10 ∷ middle → middle ≡ dark_line o.dark ++ 10 ∷ after
    → after ≡ ended (corner_lines o.corner) ++ rest → bytes ≡ ended (opening_lines o) ++ rest
opening_parts bytes after rest o middle h d c =
    h ∙ ap (λ (b : List ℕ). head_line o.count o.floor ++ 10 ∷ b) (d ∙ ap (λ (b : List ℕ). dark_line o.dark ++ 10 ∷ b) c)
    ∙ sym (ended_first (head_line o.count o.floor) (dark_line o.dark ∷ corner_lines o.corner) rest
    ∙ ap (λ (b : List ℕ). head_line o.count o.floor ++ 10 ∷ b)
    (ended_first (dark_line o.dark) (corner_lines o.corner) rest))

-- an opening that was read
pub opened : (bytes middle after rest : List ℕ) (count dark lines : ℕ) (floor : Option ℕ)
    → BeginsWithHead bytes count floor middle → BeginsWithDark middle dark after → PassesCorner after lines rest
    → Opens bytes count (2 + lines) rest
opened bytes middle after rest count dark lines floor h d (inl none) =
    let o : Opening = record { count = count; floor = floor; dark = dark; corner = None } in
    record {
      opening = o;
      walks = record {
        is = record { counted = h.small; floored = h.floored; numbered = d.small; clean = tt };
        near = All-nil IsNear;
        parts = opening_parts bytes after rest o middle h.is d.is (sym none.1);
        last = λ same first. subst (λ (b : List ℕ). HasNoCorner b) (sym none.1) none.2;
      };
      told = refl;
      counted = omega (arith, none.0);
    }
opened bytes middle after rest count dark lines floor h d (inr some) =
    let o : Opening = record { count = count; floor = floor; dark = dark; corner = Some some.1.0 } in
    record {
      opening = o;
      walks = record {
        is = record { counted = h.small; floored = h.floored; numbered = d.small; clean = some.1.1.clean };
        near = All-nil IsNear;
        parts = opening_parts bytes after rest o middle h.is d.is
            (some.1.1.is ∙ sym (ended_first (corner_line some.1.0) [] rest));
        last = λ same first. absurd (cc);
      };
      told = refl;
      counted = omega (arith, some.0);
    }

-- ---- torches one after another

-- one more torch
pub takes_torch : (bytes rest after : List ℕ) (count lines : ℕ) (taken : List ToldTorch) (t : ToldTorch)
    → Took bytes count lines taken rest → BeginsWithTorch rest t after
    → Took bytes count lines (taken ++ t ∷ []) after
takes_torch bytes rest after count lines taken t w b = record {
  opening = w.opening;
  walks = record {
    is = w.walks.is;
    near = All-push IsNear taken t w.walks.near b.near;
    parts = w.walks.parts ∙ ap (λ (x : List ℕ). ended (opening_lines w.opening) ++ x)
        (ap (λ (x : List ℕ). ended (map torch_line taken) ++ x) b.is
        ∙ ap (λ (x : List ℕ). ended (map torch_line taken) ++ x) (sym (ended_first (torch_line t) [] after))
        ∙ sym (append_assoc (ended (map torch_line taken)) (ended (torch_line t ∷ [])) after)
        ∙ ap (λ (x : List ℕ). x ++ after) (sym (ended-append (map torch_line taken) (torch_line t ∷ []))
        ∙ ap ended (sym (map_push torch_line taken t))));
    last = λ same none. absurd (omega (arith, ap length none, length_push taken t));
  };
  told = w.told;
  counted = w.counted;
}

-- all torches
pub takes_all : (bytes rest : List ℕ) (count lines : ℕ) (taken : List ToldTorch) → Took bytes count lines taken rest
    → length taken ≡ count → TellsTorches bytes taken
takes_all bytes rest count lines taken w same =
    let whole : length taken ≡ w.opening.count = same ∙ sym w.told in
    record {
      told = told_by w.opening taken;
      in_range = told_in_range w.opening taken w.walks.is w.walks.near whole;
      rest = rest;
      parts = w.walks.parts
          ∙ sym (append_assoc (ended (opening_lines w.opening)) (ended (map torch_line taken)) rest)
          ∙ ap (λ (x : List ℕ). x ++ rest) (sym (ended-append (opening_lines w.opening) (map torch_line taken))
          ∙ ap ended (sym (told_lines w.opening taken whole)));
      are = refl;
    }

-- a line where a torch's was due
pub takes_no_more : (bytes rest : List ℕ) (count lines : ℕ) (taken : List ToldTorch) (number : ℕ)
    → Took bytes count lines taken rest → HasNoTorch rest → length taken < count
    → number ≡ lines + length taken + 1 → IsFirstMisfit bytes number
takes_no_more bytes rest count lines taken number w none few is =
    walk_misfit bytes w.opening taken rest number w.walks none (omega (arith, few, w.told))
    (omega (arith, is, w.counted))

-- ---- one answer

-- a text that tells torches has no misfit
pub told_fits : (bytes : List ℕ) (torches : List ToldTorch) (e : TorchesFault) → TellsTorches bytes torches
    → IsNoPlan bytes e → ⊥
told_fits bytes torches e told fault = fault.1.unfinished torches told

clean_hang : (h : Hang) → HasNoFeed (hang_word h)
clean_hang Floor = clean_word (codes "floor") refl
clean_hang North = clean_word (codes "north") refl
clean_hang East = clean_word (codes "east") refl
clean_hang South = clean_word (codes "south") refl
clean_hang West = clean_word (codes "west") refl

clean_number : (n : ℕ) → IsSmall n → HasNoFeed (decimal n)
clean_number n small = clean_digits (decimal n) (digits_of n small)

clean_space : (text : List ℕ) → HasNoFeed text → HasNoFeed (codes " " ++ text)
clean_space text clean = clean_append (codes " ") text (clean_word (codes " ") refl) clean

clean_torch : (t : ToldTorch) → IsNear t → HasNoFeed (torch_line t)
clean_torch t near = clean_append (codes "T ") _ (clean_word (codes "T ") refl)
    (clean_append (decimal t.x) _ (clean_number t.x near.0) (clean_space _
    (clean_append (decimal t.y) _ (clean_number t.y near.1) (clean_space _
    (clean_append (decimal t.z) _ (clean_number t.z near.2) (clean_space _ (clean_hang t.hang)))))))

clean_torches : (torches : List ToldTorch) → All IsNear torches → AreClean (map torch_line torches)
clean_torches [] near = tt
clean_torches (t ∷ ts) near =
    (clean_torch t (All-head IsNear t ts near), clean_torches ts (All-tail IsNear t ts near))

clean_corners : (corner : Option (List ℕ)) (torches : List ToldTorch) → IfSome corner HasNoFeed → All IsNear torches
    → AreClean (corner_lines corner ++ map torch_line torches)
clean_corners None torches clean near = clean_torches torches near
clean_corners (Some text) torches clean near =
    (clean_append (codes "corner ") text (clean_word (codes "corner ") refl) clean, clean_torches torches near)

clean_head : (count : ℕ) (floor : Option ℕ) → IsSmall count → IfSome floor IsSmall → HasNoFeed (head_line count floor)
clean_head count None small floored =
    clean_append (codes "torches ") _ (clean_word (codes "torches ") refl) (clean_number count small)
clean_head count (Some floor) small floored = clean_append (codes "torches ") _ (clean_word (codes "torches ") refl)
    (clean_append (decimal count) _ (clean_number count small) (clean_append (codes " at-least ") _
    (clean_word (codes " at-least ") refl) (clean_number floor floored)))

-- no line of a plan has a line feed
clean_told : (told : Told) → IsInRange told → AreClean (lines_of told)
clean_told told r = (
  clean_head (length told.torches) told.floor r.counted r.floored,
  (
    clean_append (codes "dark ") (decimal told.dark) (clean_word (codes "dark ") refl)
        (clean_number told.dark r.numbered),
    clean_corners told.corner told.torches r.clean r.near,
  ),
)

first_clean : (lines : List (List ℕ)) → AreFirstLines lines → AreClean lines
first_clean lines f = clean_front lines f.2 (subst AreClean f.3 (clean_told f.0 f.1))

-- no misfit comes before another
no_further : (bytes : List ℕ) (n m : ℕ) (a : IsFirstMisfit bytes n) (b : IsFirstMisfit bytes m)
    → GoesOn a.before b.before a.rest → ⊥
no_further bytes n m a b g =
    let f = b.fits in
    a.breaks g.next g.bytes g.text (
      f.0,
      f.1,
      g.later ++ f.2,
      f.3 ∙ ap (λ (ls : List (List ℕ)). ls ++ f.2) g.is
          ∙ append_assoc a.before (g.next ∷ g.later) f.2 ∙ sym (append_assoc a.before (g.next ∷ []) (g.later ++ f.2)),
    )

-- a text has one first misfit
pub one_misfit : (bytes : List ℕ) (n m : ℕ) → IsFirstMisfit bytes n → IsFirstMisfit bytes m → n ≡ m
one_misfit bytes n m a b = elim (compare a.before b.before a.rest b.rest (first_clean a.before a.fits)
    (first_clean b.before b.fits) (sym a.parts ∙ b.parts)) [
      | inl h ↦ omega (arith, a.counted, b.counted)
      | inr h ↦ elim h [
        | inl g ↦ absurd (no_further bytes n m a b g)
        | inr g ↦ absurd (no_further bytes m n b a g)
      ]
    ]

-- and one fault
pub one_no_plan : (bytes : List ℕ) (e due : TorchesFault) → IsNoPlan bytes e → IsNoPlan bytes due → e ≡ due
one_no_plan bytes e due is is_due = is.2 ∙ ap (λ (n : ℕ). faults.Syntax n)
    (one_misfit bytes is.0 is_due.0 is.1 is_due.1) ∙ sym is_due.2

-- a fault is memory's or another one
memory_or_not : (e : TorchesFault) → (e ≡ faults.OutOfMemory) ⊎ (e ≢ faults.OutOfMemory)
memory_or_not (faults.Syntax line) = inr (λ is. cc)
memory_or_not (faults.Illegal x y z) = inr (λ is. cc)
memory_or_not faults.OutOfMemory = inl refl

-- what a text tells is answered
pub answers_told : {X : Type 0} (items : X → List ToldTorch) (bytes : List ℕ) (r : Result X TorchesFault)
    → IfOk r (λ v. TellsTorches bytes (items v)) → IfErr r (λ e. e ≢ faults.OutOfMemory → IsNoPlan bytes e)
    → (torches : List ToldTorch) → TellsTorches bytes torches
    → IsAnswer faults.OutOfMemory r (λ v. items v ≡ torches)
answers_told items bytes (Ok v) found fault torches told = one_plan bytes (items v) torches found told
answers_told items bytes (Err e) found fault torches told = elim (memory_or_not e) [
  | inl none ↦ none
  | inr other ↦ absurd (told_fits bytes torches e told (fault other))
]

-- and so is its fault
pub answers_fault : {X : Type 0} (items : X → List ToldTorch) (bytes : List ℕ) (r : Result X TorchesFault)
    → IfOk r (λ v. TellsTorches bytes (items v)) → IfErr r (λ e. e ≢ faults.OutOfMemory → IsNoPlan bytes e)
    → (due : TorchesFault) → IsNoPlan bytes due → IsRefusal faults.OutOfMemory r due
answers_fault items bytes (Ok v) found fault due is = told_fits bytes (items v) due found is
answers_fault items bytes (Err e) found fault due is = elim (memory_or_not e) [
  | inl none ↦ inr none
  | inr other ↦ inl (one_no_plan bytes e due (fault other) is)
]
