-- The parts of a line, told from what follows them.
use Rattle.std.proofs.Common.{◌≡◌, ◌≢◌, ℕ, false, nat_eq, List, [], ◌∷◌, ◌++◌, length, slice_index, codes, refl, sym}
use Rattle.std.proofs.Common.{ap, ◌∙◌, arith, rules, append_assoc, Option, Some, None, inl}
use Rattle.std.specs.Prelude.{decimal, IfSome}
use Rattle.std.proofs.lemmas.List.{append-nil, append_cancel_left, length-append, nil_from_length}
use Rattle.certificate_lines.specs.Cuts.{HasNoFeed}
use Rattle.certificate_lines.specs.Decides.{HasNoFront}
use Rattle.certificate_lines.specs.Numbers.{IsSmall}
use Rattle.certificate_lines.proofs.Digits.{digits_of, longest, read_on, value_of}
use Rattle.certificate_lines.proofs.Feeds.{no_cut}
use Rattle.cave_model.specs.declared.hang.Hang.{Hang}
use Rattle.cave_model.specs.declared.hang.Hang.TheVariants.{Floor, North, East, South, West}
use Rattle.cave_plan.specs.PlanText.{hang_word}
use Rattle.plan_reading.specs.Fields.{BeginsWithHead, BeginsWithNumber, HasNoCorner, HasNoHang}
use Rattle.plan_reading.specs.Fields.{HasNoHead, HasNoNumber, HasNoTorch, IsNoDigit}
use Rattle.plan_reading.specs.PlanLines.{IsNear, dark_line, head_line, torch_line}
use Rattle.plan_reading.specs.declared.torch.ToldTorch.{ToldTorch}

-- a number and a byte that is no digit, at the front of a text, are the only ones
pub one_number : (a b e f : ℕ) (x y : List ℕ) → IsSmall a → IsSmall b → IsNoDigit e → IsNoDigit f
    → decimal a ++ e ∷ x ≡ decimal b ++ f ∷ y → (a ≡ b) × (e ≡ f) × (x ≡ y)
one_number a b e f x y small_a small_b cut_e cut_f same =
    let r = longest (decimal a) (e ∷ x) (decimal b) (f ∷ y) (digits_of a small_a) cut_f same in
    let s = longest (decimal b) (f ∷ y) (decimal a) (e ∷ x) (digits_of b small_b) cut_e (sym same) in
    let none : r.0 ≡ [] = nil_from_length r.0 (omega (
      arith,
      ap length r.1,
      ap length s.1,
      length-append (decimal a) r.0,
      length-append (decimal b) s.0,
    )) in
    let digits : decimal b ≡ decimal a = r.1 ∙ ap (λ (ds : List ℕ). decimal a ++ ds) none ∙ append-nil (decimal a) in
    let tails : e ∷ x ≡ f ∷ y = r.2 ∙ ap (λ (ds : List ℕ). ds ++ f ∷ y) none in
    (sym (value_of a small_a) ∙ ap (read_on 0) (sym digits) ∙ value_of b small_b, cc, cc)

-- neither a space nor a line feed is a digit
pub space_cut : IsNoDigit 32
space_cut = inl (omega arith)

pub feed_cut : IsNoDigit 10
feed_cut = inl (omega arith)

-- texts with different beginnings
pub apart : (s t : List ℕ) → nat_eq (slice_index s 0) (slice_index t 0) ≡ false → s ≢ t
apart s t differ e = let same = ap (λ (x : List ℕ). slice_index x 0) e in search rules

-- words of hangs with different beginnings
words_apart : (h k : Hang) (r s : List ℕ) → nat_eq (slice_index (hang_word h ++ 10 ∷ r) 0)
    (slice_index (hang_word k ++ 10 ∷ s) 0) ≡ false → hang_word h ++ 10 ∷ r ≡ hang_word k ++ 10 ∷ s
    → (h ≡ k) × (r ≡ s)
words_apart h k r s differ e = absurd (apart (hang_word h ++ 10 ∷ r) (hang_word k ++ 10 ∷ s) differ e)

-- the word of a hang on the rest of a line is the only one
pub one_hang : (h k : Hang) (r s : List ℕ) → hang_word h ++ 10 ∷ r ≡ hang_word k ++ 10 ∷ s → (h ≡ k) × (r ≡ s)
one_hang Floor Floor r s e = (refl, append_cancel_left (hang_word Floor ++ 10 ∷ []) r s e)
one_hang Floor North r s e = words_apart Floor North r s refl e
one_hang Floor East r s e = words_apart Floor East r s refl e
one_hang Floor South r s e = words_apart Floor South r s refl e
one_hang Floor West r s e = words_apart Floor West r s refl e
one_hang North Floor r s e = words_apart North Floor r s refl e
one_hang North North r s e = (refl, append_cancel_left (hang_word North ++ 10 ∷ []) r s e)
one_hang North East r s e = words_apart North East r s refl e
one_hang North South r s e = words_apart North South r s refl e
one_hang North West r s e = words_apart North West r s refl e
one_hang East Floor r s e = words_apart East Floor r s refl e
one_hang East North r s e = words_apart East North r s refl e
one_hang East East r s e = (refl, append_cancel_left (hang_word East ++ 10 ∷ []) r s e)
one_hang East South r s e = words_apart East South r s refl e
one_hang East West r s e = words_apart East West r s refl e
one_hang South Floor r s e = words_apart South Floor r s refl e
one_hang South North r s e = words_apart South North r s refl e
one_hang South East r s e = words_apart South East r s refl e
one_hang South South r s e = (refl, append_cancel_left (hang_word South ++ 10 ∷ []) r s e)
one_hang South West r s e = words_apart South West r s refl e
one_hang West Floor r s e = words_apart West Floor r s refl e
one_hang West North r s e = words_apart West North r s refl e
one_hang West East r s e = words_apart West East r s refl e
one_hang West South r s e = words_apart West South r s refl e
one_hang West West r s e = (refl, append_cancel_left (hang_word West ++ 10 ∷ []) r s e)

-- ---- the line of a torch

-- a torch's fields from its second coordinate on, and from its third
abbrev third : ToldTorch → List ℕ → List ℕ
third t r = decimal t.z ++ 32 ∷ (hang_word t.hang ++ 10 ∷ r)

abbrev second : ToldTorch → List ℕ → List ℕ
second t r = decimal t.y ++ 32 ∷ third t r

abbrev first : ToldTorch → List ℕ → List ℕ
first t r = decimal t.x ++ 32 ∷ second t r

-- its line is these after the word
pub torch_opens : (t : ToldTorch) (r : List ℕ) → torch_line t ++ 10 ∷ r ≡ 84 ∷ 32 ∷ first t r
torch_opens t r = simp append_assoc

-- torches with the same fields are the same
abbrev made : ℕ → ℕ → ℕ → Hang → ToldTorch
made x y z hang = record { x = x; y = y; z = z; hang = hang }

same_fields : (t u : ToldTorch) → t.x ≡ u.x → t.y ≡ u.y → t.z ≡ u.z → t.hang ≡ u.hang → t ≡ u
same_fields t u x y z hang = ap (λ (n : ℕ). made n t.y t.z t.hang) x ∙ ap (λ (n : ℕ). made u.x n t.z t.hang) y
    ∙ ap (λ (n : ℕ). made u.x u.y n t.hang) z ∙ ap (λ (h : Hang). made u.x u.y u.z h) hang

-- the line of a torch is the only one
pub one_torch : (t u : ToldTorch) (r s : List ℕ) → IsNear t → IsNear u
    → torch_line t ++ 10 ∷ r ≡ torch_line u ++ 10 ∷ s → (t ≡ u) × (r ≡ s)
one_torch t u r s near_t near_u e =
    let all : 84 ∷ 32 ∷ first t r ≡ 84 ∷ 32 ∷ first u s = sym (torch_opens t r) ∙ e ∙ torch_opens u s in
    let x = one_number t.x u.x 32 32 (second t r) (second u s) near_t.0 near_u.0 space_cut space_cut cc in
    let y = one_number t.y u.y 32 32 (third t r) (third u s) near_t.1 near_u.1 space_cut space_cut x.2 in
    let z = one_number t.z u.z 32 32 (hang_word t.hang ++ 10 ∷ r) (hang_word u.hang ++ 10 ∷ s) near_t.2 near_u.2
    space_cut space_cut y.2 in
    let h = one_hang t.hang u.hang r s z.2 in
    (same_fields t u x.0 y.0 z.0 h.0, h.1)

-- what follows the word of a torch's line
after_word : (text rest : List ℕ) (t : ToldTorch) (r : List ℕ) → text ≡ codes "T " ++ rest
    → text ≡ torch_line t ++ 10 ∷ r → rest ≡ first t r
after_word text rest t r e f =
    let all : 84 ∷ 32 ∷ rest ≡ 84 ∷ 32 ∷ first t r = sym e ∙ f ∙ torch_opens t r in cc

-- no torch is told where its second coordinate is none
pub no_second : (text rest more : List ℕ) (x : ℕ) → text ≡ codes "T " ++ rest → BeginsWithNumber rest 32 x more
    → HasNoNumber more 32 → HasNoTorch text
no_second text rest more x e n none = λ t r b.
    let s = one_number x t.x 32 32 more (second t r) n.small b.near.0 space_cut space_cut
    (sym n.is ∙ after_word text rest t r e b.is) in
    none t.y (third t r) (record { small = b.near.1; is = s.2 })

-- or its third
pub no_third : (text rest more last : List ℕ) (x y : ℕ) → text ≡ codes "T " ++ rest → BeginsWithNumber rest 32 x more
    → BeginsWithNumber more 32 y last → HasNoNumber last 32 → HasNoTorch text
no_third text rest more last x y e n m none = λ t r b.
    let s = one_number x t.x 32 32 more (second t r) n.small b.near.0 space_cut space_cut
    (sym n.is ∙ after_word text rest t r e b.is) in
    let u = one_number y t.y 32 32 last (third t r) m.small b.near.1 space_cut space_cut (sym m.is ∙ s.2) in
    none t.z (hang_word t.hang ++ 10 ∷ r) (record { small = b.near.2; is = u.2 })

-- or how it hangs
pub no_hang : (text rest more last end : List ℕ) (x y z : ℕ) → text ≡ codes "T " ++ rest
    → BeginsWithNumber rest 32 x more → BeginsWithNumber more 32 y last → BeginsWithNumber last 32 z end
    → HasNoHang end → HasNoTorch text
no_hang text rest more last end x y z e n m k none = λ t r b.
    let s = one_number x t.x 32 32 more (second t r) n.small b.near.0 space_cut space_cut
    (sym n.is ∙ after_word text rest t r e b.is) in
    let u = one_number y t.y 32 32 last (third t r) m.small b.near.1 space_cut space_cut (sym m.is ∙ s.2) in
    let v = one_number z t.z 32 32 end (hang_word t.hang ++ 10 ∷ r) k.small b.near.2 space_cut space_cut
    (sym k.is ∙ u.2) in
    none t.hang r v.2

-- ---- the first two lines

-- what follows the word of the first line
abbrev pub counted : ℕ → Option ℕ → List ℕ → List ℕ
counted count None r = decimal count ++ 10 ∷ r
counted count (Some floor) r = decimal count ++ 32 ∷ (codes "at-least " ++ (decimal floor ++ 10 ∷ r))

pub head_opens : (count : ℕ) (floor : Option ℕ) (r : List ℕ)
    → head_line count floor ++ 10 ∷ r ≡ codes "torches " ++ counted count floor r
head_opens count None r = simp append_assoc
head_opens count (Some floor) r = simp append_assoc

-- the first line is the only one
pub one_head : (n m : ℕ) (f g : Option ℕ) (r s : List ℕ) → IsSmall n → IsSmall m → IfSome f IsSmall → IfSome g IsSmall
    → counted n f r ≡ counted m g s → (n ≡ m) × (r ≡ s)
one_head n m None None r s small_n small_m small_f small_g e =
    let o = one_number n m 10 10 r s small_n small_m feed_cut feed_cut e in (o.0, o.2)
one_head n m None (Some g) r s small_n small_m small_f small_g e =
    let o = one_number n m 10 32 r (codes "at-least " ++ (decimal g ++ 10 ∷ s)) small_n small_m feed_cut space_cut e in
    absurd (omega (arith, o.1))
one_head n m (Some f) None r s small_n small_m small_f small_g e =
    let o = one_number n m 32 10 (codes "at-least " ++ (decimal f ++ 10 ∷ r)) s small_n small_m space_cut feed_cut e in
    absurd (omega (arith, o.1))
one_head n m (Some f) (Some g) r s small_n small_m small_f small_g e =
    let o = one_number n m 32 32 (codes "at-least " ++ (decimal f ++ 10 ∷ r)) (codes "at-least "
    ++ (decimal g ++ 10 ∷ s)) small_n small_m space_cut space_cut e in
    let same = o.2 in
    let p = one_number f g 10 10 r s small_f small_g feed_cut feed_cut cc in
    (o.0, p.2)

-- no first line is told where neither its end nor a least number follows how many there are
pub no_floor : (text rest more : List ℕ) (n : ℕ) → text ≡ codes "torches " ++ rest → HasNoNumber rest 10
    → BeginsWithNumber rest 32 n more → HasNoFront more (codes "at-least ") → HasNoHead text
no_floor text rest more n e none b other = λ count floor r h. refused count floor r h where
  refused : (count : ℕ) (floor : Option ℕ) (r : List ℕ) → BeginsWithHead text count floor r → ⊥
  refused count None r h =
      let all : codes "torches " ++ rest ≡ codes "torches " ++ counted count None r =
      sym e ∙ h.is ∙ head_opens count None r in
      none count r (record { small = h.small; is = cc })
  refused count (Some floor) r h =
      let all : codes "torches " ++ rest ≡ codes "torches " ++ counted count (Some floor) r =
      sym e ∙ h.is ∙ head_opens count (Some floor) r in
      let from : rest ≡ counted count (Some floor) r = cc in
      let o = one_number n count 32 32 more (codes "at-least " ++ (decimal floor ++ 10 ∷ r)) b.small h.small
      space_cut space_cut (sym b.is ∙ from) in
      other.none (decimal floor ++ 10 ∷ r) o.2

-- or where that is none
pub no_least : (text rest more last : List ℕ) (n : ℕ) → text ≡ codes "torches " ++ rest → HasNoNumber rest 10
    → BeginsWithNumber rest 32 n more → more ≡ codes "at-least " ++ last → HasNoNumber last 10 → HasNoHead text
no_least text rest more last n e none b f end = λ count floor r h. refused count floor r h where
  refused : (count : ℕ) (floor : Option ℕ) (r : List ℕ) → BeginsWithHead text count floor r → ⊥
  refused count None r h =
      let all : codes "torches " ++ rest ≡ codes "torches " ++ counted count None r =
      sym e ∙ h.is ∙ head_opens count None r in
      none count r (record { small = h.small; is = cc })
  refused count (Some floor) r h =
      let all : codes "torches " ++ rest ≡ codes "torches " ++ counted count (Some floor) r =
      sym e ∙ h.is ∙ head_opens count (Some floor) r in
      let from : rest ≡ counted count (Some floor) r = cc in
      let o = one_number n count 32 32 more (codes "at-least " ++ (decimal floor ++ 10 ∷ r)) b.small h.small
      space_cut space_cut (sym b.is ∙ from) in
      let both : codes "at-least " ++ last ≡ codes "at-least " ++ (decimal floor ++ 10 ∷ r) = sym f ∙ o.2 in
      end floor r (record { small = h.floored; is = cc })

-- the first line with a least number
pub floored : (text rest more last after : List ℕ) (n floor : ℕ) → text ≡ codes "torches " ++ rest
    → BeginsWithNumber rest 32 n more → more ≡ codes "at-least " ++ last → BeginsWithNumber last 10 floor after
    → BeginsWithHead text n (Some floor) after
floored text rest more last after n floor e b f g = record {
  small = b.small;
  floored = g.small;
  is = e ∙ ap (λ (t : List ℕ). codes "torches " ++ t) (b.is ∙ ap (λ (t : List ℕ). decimal n ++ 32 ∷ t)
      (f ∙ ap (λ (t : List ℕ). codes "at-least " ++ t) g.is)) ∙ sym (head_opens n (Some floor) after);
}

-- the second line is the only one
pub one_dark : (n m : ℕ) (r s : List ℕ) → IsSmall n → IsSmall m → dark_line n ++ 10 ∷ r ≡ dark_line m ++ 10 ∷ s
    → (n ≡ m) × (r ≡ s)
one_dark n m r s small_n small_m e =
    let f : dark_line n ++ 10 ∷ r ≡ codes "dark " ++ (decimal n ++ 10 ∷ r) = simp append_assoc in
    let g : dark_line m ++ 10 ∷ s ≡ codes "dark " ++ (decimal m ++ 10 ∷ s) = simp append_assoc in
    let all : codes "dark " ++ (decimal n ++ 10 ∷ r) ≡ codes "dark " ++ (decimal m ++ 10 ∷ s) = sym f ∙ e ∙ g in
    let o = one_number n m 10 10 r s small_n small_m feed_cut feed_cut cc in
    (o.0, o.2)

-- no corner is told where its line doesn't end
pub no_corner : (text rest : List ℕ) → text ≡ codes "corner " ++ rest → HasNoFeed rest → HasNoCorner text
no_corner text rest e clean = λ corner r b.
    let f : (codes "corner " ++ corner) ++ 10 ∷ r ≡ codes "corner " ++ (corner ++ 10 ∷ r) = simp append_assoc in
    let all : codes "corner " ++ rest ≡ codes "corner " ++ (corner ++ 10 ∷ r) = sym e ∙ b.is ∙ f in
    no_cut rest corner r clean cc
