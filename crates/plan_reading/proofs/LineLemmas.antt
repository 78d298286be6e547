-- The lines of plans that the same bytes begin with.
use Rattle.std.proofs.Common.{◌≡◌, ℕ, ◌<◌, List, [], ◌∷◌, ◌++◌, length, map, All, refl, sym, ap}
use Rattle.std.proofs.Common.{arith, ◌∙◌, append_assoc, Option, Some, None, codes}
use Rattle.std.proofs.lemmas.List.{append_cancel_left, nil_from_length}
use Rattle.std.specs.Prelude.{IfSome}
use Rattle.std.proofs.lemmas.List.Elements.{All-head, All-tail}
use Rattle.proof_rules.specs.Text.{ended}
use Rattle.certificate_lines.specs.Cuts.{HasNoFeed}
use Rattle.certificate_lines.proofs.Feeds.{clean_append, clean_word, one_cut}
use Rattle.plan_reading.specs.PlanLines.{IsInRange, IsNear, TellsTorches, Told, corner_line, corner_lines, dark_line}
use Rattle.plan_reading.specs.PlanLines.{head_line, lines_of, torch_line}
use Rattle.plan_reading.specs.Walked.{IsOpening, Opening, opening_lines}
use Rattle.plan_reading.specs.declared.torch.ToldTorch.{ToldTorch}
use Rattle.plan_reading.proofs.FieldLemmas.{apart, head_opens, one_dark, one_head, one_torch, counted}
use Rattle.std.proofs.lemmas.Grind.{flat_map-append}

-- lines, and then others
pub ended-append : (a b : List (List ℕ)) → ended (a ++ b) ≡ ended a ++ ended b
ended-append a b = flat_map-append (λ (text : List ℕ). text ++ 10 ∷ []) a b

-- a line before others, and before what follows them
pub ended_first : (line : List ℕ) (lines : List (List ℕ)) (rest : List ℕ)
    → ended (line ∷ lines) ++ rest ≡ line ++ 10 ∷ (ended lines ++ rest)
ended_first line lines rest = simp append_assoc

-- what comes before the torches of a plan
abbrev pub opening_of : Told → Opening
opening_of told =
    record { count = length told.torches; floor = told.floor; dark = told.dark; corner = told.corner }

-- it is in range where the plan is
pub opening_in_range : (told : Told) → IsInRange told → IsOpening (opening_of told)
opening_in_range told r =
    record { counted = r.counted; floored = r.floored; numbered = r.numbered; clean = r.clean }

-- the bytes of a plan's lines, from those of its torches on
pub told_parts : (told : Told) (rest : List ℕ) → ended (lines_of told) ++ rest
    ≡ ended (opening_lines (opening_of told)) ++ (ended (map torch_line told.torches) ++ rest)
told_parts told rest =
    ap (λ (b : List ℕ). b ++ rest) (ended-append (opening_lines (opening_of told)) (map torch_line told.torches))
    ∙ append_assoc (ended (opening_lines (opening_of told))) (ended (map torch_line told.torches)) rest

-- ---- a torch and a corner

-- the line of a torch is that of no corner
pub no_torch_is_corner : (t : ToldTorch) (text r s : List ℕ) → torch_line t ++ 10 ∷ r ≡ corner_line text ++ 10 ∷ s → ⊥
no_torch_is_corner t text r s e =
    apart (torch_line t ++ 10 ∷ r) (corner_line text ++ 10 ∷ s) refl e

pub torch_is_no_corner : (t : ToldTorch) (text : List ℕ) → torch_line t ≡ corner_line text → ⊥
torch_is_no_corner t text e = apart (torch_line t) (corner_line text) refl e

-- what follows two corners, where there are such
abbrev pub Meets : Option (List ℕ) → Option (List ℕ) → List ℕ → List ℕ → Type 0
Meets None None x y = x ≡ y
Meets (Some a) (Some b) x y = x ≡ y
Meets None (Some b) x y = x ≡ corner_line b ++ 10 ∷ y
Meets (Some a) None x y = corner_line a ++ 10 ∷ x ≡ y

-- a corner is one line with its word
corner_clean : (text : List ℕ) → HasNoFeed text → HasNoFeed (corner_line text)
corner_clean text clean = clean_append (codes "corner ") text (clean_word (codes "corner ") refl) clean

-- what follows the lines of two corners in the same bytes
corners_meet : (a b : Option (List ℕ)) (x y : List ℕ) → IfSome a HasNoFeed → IfSome b HasNoFeed
    → ended (corner_lines a) ++ x ≡ ended (corner_lines b) ++ y → Meets a b x y
corners_meet None None x y clean_a clean_b e = e
corners_meet None (Some b) x y clean_a clean_b e = e ∙ ended_first (corner_line b) [] y
corners_meet (Some a) None x y clean_a clean_b e = sym (ended_first (corner_line a) [] x) ∙ e
corners_meet (Some a) (Some b) x y clean_a clean_b e = (one_cut (corner_line a) (corner_line b) x y
    (corner_clean a clean_a) (corner_clean b clean_b)
    (sym (ended_first (corner_line a) [] x) ∙ e ∙ ended_first (corner_line b) [] y)).1

-- the lines of an opening, one by one
pub opening_opens : (o : Opening) (x : List ℕ) → ended (opening_lines o) ++ x
    ≡ codes "torches " ++ counted o.count o.floor (dark_line o.dark ++ 10 ∷ (ended (corner_lines o.corner) ++ x))
opening_opens o x =
    ended_first (head_line o.count o.floor) (dark_line o.dark ∷ corner_lines o.corner) x
    ∙ ap (λ (b : List ℕ). head_line o.count o.floor ++ 10 ∷ b)
    (ended_first (dark_line o.dark) (corner_lines o.corner) x)
    ∙ head_opens o.count o.floor (dark_line o.dark ++ 10 ∷ (ended (corner_lines o.corner) ++ x))

-- what follows two openings in the same bytes
pub openings_meet : (o p : Opening) (x y : List ℕ) → IsOpening o → IsOpening p
    → ended (opening_lines o) ++ x ≡ ended (opening_lines p) ++ y
    → (o.count ≡ p.count) × Meets o.corner p.corner x y
openings_meet o p x y is_o is_p e =
    let after_o = dark_line o.dark ++ 10 ∷ (ended (corner_lines o.corner) ++ x) in
    let after_p = dark_line p.dark ++ 10 ∷ (ended (corner_lines p.corner) ++ y) in
    let all : codes "torches " ++ counted o.count o.floor after_o ≡ codes "torches "
    ++ counted p.count p.floor after_p = sym (opening_opens o x) ∙ e ∙ opening_opens p y in
    let heads = one_head o.count p.count o.floor p.floor after_o after_p is_o.counted is_p.counted is_o.floored
    is_p.floored (append_cancel_left (codes "torches ") _ _ all) in
    let darks = one_dark o.dark p.dark (ended (corner_lines o.corner) ++ x) (ended (corner_lines p.corner) ++ y)
    is_o.numbered is_p.numbered heads.1 in
    (heads.0, corners_meet o.corner p.corner x y is_o.clean is_p.clean darks.1)

-- ---- torches one after another

-- the torch that comes next in the bytes of more torches
pub record NextTorch (rest : List ℕ) : Type 0 where
  pub torch : ToldTorch
  pub after : List ℕ
  pub near : IsNear torch
  pub is : rest ≡ torch_line torch ++ 10 ∷ after

-- of torches that the same bytes tell the fewer are the first of the others, and one more comes next
pub more_follow : (few many : List ToldTorch) (x y : List ℕ) → All IsNear few → All IsNear many
    → ended (map torch_line few) ++ x ≡ ended (map torch_line many) ++ y → length few < length many → NextTorch x
more_follow [] [] x y near_few near_many e less = absurd (omega arith)
more_follow (t ∷ ts) [] x y near_few near_many e less = absurd (omega arith)
more_follow [] (u ∷ us) x y near_few near_many e less = record {
  torch = u;
  after = ended (map torch_line us) ++ y;
  near = All-head IsNear u us near_many;
  is = e ∙ ended_first (torch_line u) (map torch_line us) y;
}
more_follow (t ∷ ts) (u ∷ us) x y near_few near_many e less =
    let o = one_torch t u (ended (map torch_line ts) ++ x) (ended (map torch_line us) ++ y)
    (All-head IsNear t ts near_few) (All-head IsNear u us near_many)
    (sym (ended_first (torch_line t) (map torch_line ts) x) ∙ e ∙ ended_first (torch_line u) (map torch_line us) y) in
    more_follow ts us x y (All-tail IsNear t ts near_few) (All-tail IsNear u us near_many) o.1 (omega (arith, less))

-- as many torches that the same bytes tell are the same
pub same_torches : (ts us : List ToldTorch) (x y : List ℕ) → All IsNear ts → All IsNear us
    → ended (map torch_line ts) ++ x ≡ ended (map torch_line us) ++ y → length ts ≡ length us → ts ≡ us
same_torches [] [] x y near_t near_u e same = refl
same_torches (t ∷ ts) [] x y near_t near_u e same = absurd (omega (arith, same))
same_torches [] (u ∷ us) x y near_t near_u e same = absurd (omega (arith, same))
same_torches (t ∷ ts) (u ∷ us) x y near_t near_u e same =
    let o = one_torch t u (ended (map torch_line ts) ++ x) (ended (map torch_line us) ++ y)
    (All-head IsNear t ts near_t) (All-head IsNear u us near_u)
    (sym (ended_first (torch_line t) (map torch_line ts) x) ∙ e ∙ ended_first (torch_line u) (map torch_line us) y) in
    let rest = same_torches ts us x y (All-tail IsNear t ts near_t) (All-tail IsNear u us near_u) o.1
    (omega (arith, same)) in
    let first = o.0 in cc

-- no torches are told where a corner comes next
pub corner_next : (ts : List ToldTorch) (text x y : List ℕ)
    → ended (map torch_line ts) ++ x ≡ corner_line text ++ 10 ∷ y → ts ≡ []
corner_next [] text x y e = refl
corner_next (t ∷ ts) text x y e = absurd (no_torch_is_corner t text (ended (map torch_line ts) ++ x) y
    (sym (ended_first (torch_line t) (map torch_line ts) x) ∙ e))

-- ---- one plan

same_by_corner : (a b : Option (List ℕ)) (ts us : List ToldTorch) (x y : List ℕ) → All IsNear ts → All IsNear us
    → length ts ≡ length us → Meets a b (ended (map torch_line ts) ++ x) (ended (map torch_line us) ++ y) → ts ≡ us
same_by_corner None None ts us x y near_t near_u same e = same_torches ts us x y near_t near_u e same
same_by_corner (Some a) (Some b) ts us x y near_t near_u same e = same_torches ts us x y near_t near_u e same
same_by_corner None (Some b) ts us x y near_t near_u same e =
    let none = corner_next ts b x (ended (map torch_line us) ++ y) e in
    none ∙ sym (nil_from_length us (sym same ∙ ap length none))
same_by_corner (Some a) None ts us x y near_t near_u same e =
    let none = corner_next us a y (ended (map torch_line ts) ++ x) (sym e) in
    nil_from_length ts (same ∙ ap length none) ∙ sym none

-- the same bytes tell the same torches
pub one_plan : (bytes : List ℕ) (one other : List ToldTorch) → TellsTorches bytes one → TellsTorches bytes other
    → one ≡ other
one_plan bytes one other a b =
    let x = ended (map torch_line a.told.torches) ++ a.rest in
    let y = ended (map torch_line b.told.torches) ++ b.rest in
    let m = openings_meet (opening_of a.told) (opening_of b.told) x y (opening_in_range a.told a.in_range)
    (opening_in_range b.told b.in_range)
    (sym (told_parts a.told a.rest) ∙ sym a.parts ∙ b.parts ∙ told_parts b.told b.rest) in
    sym a.are ∙ same_by_corner a.told.corner b.told.corner a.told.torches b.told.torches a.rest b.rest
    a.in_range.near b.in_range.near m.0 m.1 ∙ b.are
