-- The first line that doesn't fit.
use Rattle.std.proofs.Common.{◌≡◌, ℕ, ◌+◌, ◌-◌, ◌<◌, ◌≤◌, ◌⊎◌, inl, inr, List, [], ◌∷◌, ◌++◌, length, map, All}
use Rattle.std.proofs.Common.{refl, sym, ap, subst, arith, ◌∙◌, append_assoc, Option, Some, None, replicate}
use Rattle.std.specs.Prelude.{IfSome, codes}
use Rattle.std.proofs.lemmas.List.{append_cancel_left, length-append, length-map, length-replicate, map-append}
use Rattle.std.proofs.lemmas.List.Elements.{All-append, All-head, All-nil, All-replicate, All-tail}
use Rattle.proof_rules.specs.Text.{ended}
use Rattle.certificate_lines.specs.Cuts.{HasNoFeed}
use Rattle.certificate_lines.specs.Numbers.{IsSmall}
use Rattle.cave_model.specs.declared.hang.Hang.TheVariants.{Floor}
use Rattle.plan_reading.specs.Fields.{BeginsWithHead, HasNoCorner, HasNoDark, HasNoHead, HasNoTorch}
use Rattle.plan_reading.specs.PlanLines.{AreFirstLines, IsFirstMisfit, IsInRange, IsNear, TellsTorches, Told}
use Rattle.plan_reading.specs.PlanLines.{corner_line, corner_lines, dark_line, head_line, lines_of, torch_line}
use Rattle.plan_reading.specs.Walked.{IsOpening, Opening, Walks, opening_lines}
use Rattle.plan_reading.specs.declared.torch.ToldTorch.{ToldTorch}
use Rattle.plan_reading.proofs.FieldLemmas.{counted, head_opens, one_head}
use Rattle.plan_reading.proofs.LineLemmas.{Meets, NextTorch, corner_next, ended-append, ended_first, more_follow}
use Rattle.plan_reading.proofs.LineLemmas.{opening_in_range, opening_of, openings_meet, told_parts, torch_is_no_corner}

-- ---- plans that begin with some lines

-- a torch on the floor of the first cell
abbrev some_torch : ToldTorch
some_torch = record { x = 0; y = 0; z = 0; hang = Floor }

-- the opening's plan with these torches
abbrev pub told_by : Opening → List ToldTorch → Told
told_by o torches = record { torches = torches; floor = o.floor; dark = o.dark; corner = o.corner }

-- it is in range where there are as many as are told
pub told_in_range : (o : Opening) (torches : List ToldTorch) → IsOpening o → All IsNear torches
    → length torches ≡ o.count → IsInRange (told_by o torches)
told_in_range o torches is near same = record {
  counted = subst IsSmall (sym same) is.counted;
  floored = is.floored;
  numbered = is.numbered;
  clean = is.clean;
  near = near;
}

-- its lines are the opening's and its torches'
pub told_lines : (o : Opening) (torches : List ToldTorch) → length torches ≡ o.count
    → lines_of (told_by o torches) ≡ opening_lines o ++ map torch_line torches
told_lines o torches same = ap (λ (n : ℕ). head_line n o.floor ∷ dark_line o.dark
    ∷ (corner_lines o.corner ++ map torch_line torches)) same

-- an opening and no more torches than it tells are the first lines of a plan
pub walk_fits : (o : Opening) (taken : List ToldTorch) → IsOpening o → All IsNear taken → length taken ≤ o.count
    → AreFirstLines (opening_lines o ++ map torch_line taken)
walk_fits o taken is near few =
    let others = replicate (o.count - length taken) some_torch in
    let same : length (taken ++ others) ≡ o.count = omega (
      arith,
      few,
      length-append taken others,
      length-replicate (o.count - length taken) some_torch,
    ) in (
      told_by o (taken ++ others),
      told_in_range o (taken ++ others) is (All-append IsNear taken others near (All-replicate IsNear
          (o.count - length taken) some_torch (omega arith, omega arith, omega arith))) same,
      map torch_line others,
      told_lines o (taken ++ others) same
          ∙ ap (λ (ls : List (List ℕ)). opening_lines o ++ ls) (map-append torch_line taken others)
          ∙ sym (append_assoc (opening_lines o) (map torch_line taken) (map torch_line others)),
    )

-- ---- a line of a plan behind others

-- a line among those of torches is one
among : (torches : List ToldTorch) (front : List (List ℕ)) (next : List ℕ) (more : List (List ℕ))
    → All IsNear torches → map torch_line torches ≡ (front ++ next ∷ []) ++ more
    → (t : ToldTorch) × IsNear t × (next ≡ torch_line t)
among [] [] next more near e = absurd (cc)
among [] (f ∷ front) next more near e = absurd (cc)
among (t ∷ ts) [] next more near e = (t, All-head IsNear t ts near, cc)
among (t ∷ ts) (f ∷ front) next more near e = among ts front next more (All-tail IsNear t ts near) cc

-- behind a corner, or where none comes, and torches, a plan's line is that of a torch; or of a corner and the first
next_line : (a b : Option (List ℕ)) (torches taken : List ToldTorch) (next : List ℕ) (more : List (List ℕ))
    → All IsNear torches → IfSome a HasNoFeed
    → corner_lines a ++ map torch_line torches ≡ ((corner_lines b ++ map torch_line taken) ++ next ∷ []) ++ more
    → ((t : ToldTorch) × IsNear t × (next ≡ torch_line t))
    ⊎ ((b ≡ None) × (taken ≡ []) × ((text : List ℕ) × HasNoFeed text × (next ≡ corner_line text)))
next_line None None torches taken next more near clean e = inl (among torches (map torch_line taken) next more near e)
next_line (Some a) (Some b) torches taken next more near clean e =
    inl (among torches (map torch_line taken) next more near cc)
next_line None (Some b) [] taken next more near clean e = absurd (cc)
next_line None (Some b) (t ∷ ts) taken next more near clean e =
    absurd (torch_is_no_corner t b cc)
next_line (Some a) None torches [] next more near clean e = inr (refl, refl, (a, clean, cc))
next_line (Some a) None torches (t ∷ ts) next more near clean e =
    absurd (torch_is_no_corner t a cc)

-- a torch's line that comes next
module _ (rest next later : List ℕ) (is : rest ≡ next ++ 10 ∷ later) where
  -- is none
  no_next_torch : HasNoTorch rest → (t : ToldTorch) → IsNear t → next ≡ torch_line t → ⊥
  no_next_torch none t near e =
      none t later (record { near = near; is = is ∙ ap (λ (l : List ℕ). l ++ 10 ∷ later) e })

  -- and no corner's
  no_next_corner : HasNoCorner rest → (text : List ℕ) → HasNoFeed text → next ≡ corner_line text → ⊥
  no_next_corner none text clean e =
      none text later (record { clean = clean; is = is ∙ ap (λ (l : List ℕ). l ++ 10 ∷ later) e })

-- where no torch comes next, no plan goes on with the next line
walk_breaks : (bytes : List ℕ) (o : Opening) (taken : List ToldTorch) (rest next later : List ℕ)
    → Walks bytes o taken rest → HasNoTorch rest → rest ≡ next ++ 10 ∷ later
    → ¬ AreFirstLines ((opening_lines o ++ map torch_line taken) ++ next ∷ [])
walk_breaks bytes o taken rest next later w none is f =
    let told = f.0 in
    let more = f.2 in
    let all : lines_of told ≡ ((opening_lines o ++ map torch_line taken) ++ next ∷ []) ++ more = f.3 in
    let behind : corner_lines told.corner ++ map torch_line told.torches
    ≡ ((corner_lines o.corner ++ map torch_line taken) ++ next ∷ []) ++ more = cc in
    elim (next_line told.corner o.corner told.torches taken next more f.1.near f.1.clean behind) [
      | inl t ↦ no_next_torch rest next later is none t.0 t.1 t.2
      | inr c ↦ no_next_corner rest next later is (w.last c.0 c.1) c.2.0 c.2.1 c.2.2
    ]

-- ---- bytes that end before their torches

-- a torch comes next where the same bytes tell more
next_by_corner : (a b : Option (List ℕ)) (taken torches : List ToldTorch) (x y : List ℕ) → All IsNear taken
    → All IsNear torches → IfSome b HasNoFeed → length taken < length torches
    → Meets a b (ended (map torch_line taken) ++ x) (ended (map torch_line torches) ++ y)
    → NextTorch x ⊎ ((a ≡ None) × (taken ≡ []) × ((text : List ℕ) × HasNoFeed text × (later : List ℕ)
    × (x ≡ corner_line text ++ 10 ∷ later)))
next_by_corner None None taken torches x y near_t near_u clean few e =
    inl (more_follow taken torches x y near_t near_u e few)
next_by_corner (Some a) (Some b) taken torches x y near_t near_u clean few e =
    inl (more_follow taken torches x y near_t near_u e few)
next_by_corner None (Some b) taken torches x y near_t near_u clean few e =
    let later = ended (map torch_line torches) ++ y in
    let none = corner_next taken b x later e in
    inr (
      refl,
      none,
      (
        b,
        clean,
        later,
        subst (λ (ts : List ToldTorch). ended (map torch_line ts) ++ x ≡ corner_line b ++ 10 ∷ later)
            none e,
      ),
    )
next_by_corner (Some a) None taken torches x y near_t near_u clean few e =
    let none = corner_next torches a y (ended (map torch_line taken) ++ x) (sym e) in
    absurd (omega (arith, few, ap length none))

-- where no torch comes next, the bytes tell none
walk_unfinished : (bytes : List ℕ) (o : Opening) (taken : List ToldTorch) (rest : List ℕ) → Walks bytes o taken rest
    → HasNoTorch rest → length taken < o.count → (torches : List ToldTorch) → ¬ TellsTorches bytes torches
walk_unfinished bytes o taken rest w none few torches t =
    let p = opening_of t.told in
    let x = ended (map torch_line taken) ++ rest in
    let y = ended (map torch_line t.told.torches) ++ t.rest in
    let m = openings_meet o p x y w.is (opening_in_range t.told t.in_range)
    (sym w.parts ∙ t.parts ∙ told_parts t.told t.rest) in
    elim (next_by_corner o.corner p.corner taken t.told.torches rest t.rest w.near t.in_range.near t.in_range.clean
    (omega (arith, few, m.0)) m.1) [
      | inl n ↦ none n.torch n.after (record { near = n.near; is = n.is })
      | inr c ↦ w.last c.0 c.1 c.2.0 c.2.2 (record { clean = c.2.1; is = c.2.3 })
    ]

-- so that line is the first that doesn't fit
pub walk_misfit : (bytes : List ℕ) (o : Opening) (taken : List ToldTorch) (rest : List ℕ) (number : ℕ)
    → Walks bytes o taken rest → HasNoTorch rest → length taken < o.count
    → number ≡ length (opening_lines o) + length taken + 1 → IsFirstMisfit bytes number
walk_misfit bytes o taken rest number w none few counted = record {
  before = opening_lines o ++ map torch_line taken;
  rest = rest;
  parts = w.parts ∙ sym (append_assoc (ended (opening_lines o)) (ended (map torch_line taken)) rest)
      ∙ ap (λ (b : List ℕ). b ++ rest) (sym (ended-append (opening_lines o) (map torch_line taken)));
  counted = omega (
    arith,
    counted,
    length-append (opening_lines o) (map torch_line taken),
    length-map taken torch_line,
  );
  fits = walk_fits o taken w.is w.near (omega (arith, few));
  breaks = λ next later is. walk_breaks bytes o taken rest next later w none is;
  unfinished = walk_unfinished bytes o taken rest w none few;
}

-- ---- the first two lines

-- an opening without dark cells and a corner
abbrev bare : ℕ → Option ℕ → Opening
bare count floor = record { count = count; floor = floor; dark = 0; corner = None }

-- the lines of a told plan, from its second line on
after_head : (told : Told) (rest : List ℕ) → ended (lines_of told) ++ rest
    ≡ head_line (length told.torches) told.floor ++ 10 ∷ (dark_line told.dark ++ 10
    ∷ (ended (corner_lines told.corner ++ map torch_line told.torches) ++ rest))
after_head told rest =
    ended_first (head_line (length told.torches) told.floor) (dark_line told.dark
    ∷ (corner_lines told.corner ++ map torch_line told.torches)) rest
    ∙ ap (λ (b : List ℕ). head_line (length told.torches) told.floor ++ 10 ∷ b)
    (ended_first (dark_line told.dark) (corner_lines told.corner ++ map torch_line told.torches) rest)

-- no plan has the first line
pub no_head : (bytes : List ℕ) → HasNoHead bytes → IsFirstMisfit bytes 1
no_head bytes none = record {
  before = [];
  rest = bytes;
  parts = refl;
  counted = omega arith;
  fits = (
    told_by (bare 0 None) [],
    told_in_range (bare 0 None) [] (record { counted = omega arith; floored = tt; numbered = omega arith; clean = tt })
        (All-nil IsNear) refl,
    lines_of (told_by (bare 0 None) []),
    refl,
  );
  breaks = λ next later is f.
      let all : lines_of f.0 ≡ next ∷ f.2 = f.3 in
      let first : head_line (length f.0.torches) f.0.floor ≡ next = cc in
      none (length f.0.torches) f.0.floor later (record {
        small = f.1.counted;
        floored = f.1.floored;
        is = is ∙ ap (λ (l : List ℕ). l ++ 10 ∷ later) (sym first);
      });
  unfinished = λ torches t. none (length t.told.torches) t.told.floor (dark_line t.told.dark ++ 10
      ∷ (ended (corner_lines t.told.corner ++ map torch_line t.told.torches) ++ t.rest)) (record {
        small = t.in_range.counted;
        floored = t.in_range.floored;
        is = t.parts ∙ after_head t.told t.rest;
      });
}

-- none has the second
pub no_dark : (bytes rest : List ℕ) (count : ℕ) (floor : Option ℕ) → BeginsWithHead bytes count floor rest
    → HasNoDark rest → IsFirstMisfit bytes 2
no_dark bytes rest count floor h none = record {
  before = head_line count floor ∷ [];
  rest = rest;
  parts = h.is ∙ sym (ended_first (head_line count floor) [] rest);
  counted = omega arith;
  fits =
      let w = walk_fits (bare count floor) [] (record {
        counted = h.small;
        floored = h.floored;
        numbered = omega arith;
        clean = tt;
      }) (All-nil IsNear) (omega arith) in
      (w.0, w.1, dark_line 0 ∷ w.2, w.3);
  breaks = λ next later is f.
      let all : lines_of f.0 ≡ head_line count floor ∷ next ∷ f.2 = f.3 in
      let second : dark_line f.0.dark ≡ next = cc in
      none f.0.dark later (record {
        small = f.1.numbered;
        is = is ∙ ap (λ (l : List ℕ). l ++ 10 ∷ later) (sym second);
      });
  unfinished = λ torches t.
      let behind = ended (corner_lines t.told.corner ++ map torch_line t.told.torches) ++ t.rest in
      let after = dark_line t.told.dark ++ 10 ∷ behind in
      let all = sym (head_opens count floor rest) ∙ sym h.is ∙ t.parts ∙ after_head t.told t.rest
      ∙ head_opens (length t.told.torches) t.told.floor after in
      let o = one_head count (length t.told.torches) floor t.told.floor rest after h.small t.in_range.counted
      h.floored t.in_range.floored (append_cancel_left (codes "torches ") (counted count floor rest)
      (counted (length t.told.torches) t.told.floor after) all) in
      none t.told.dark behind (record { small = t.in_range.numbered; is = o.1 });
}
