-- Open branches and picks, as they end and begin.
use Rattle.std.proofs.Common.{◌≡◌, ℕ, suc, ◌+◌, ◌-◌, ◌<◌, ◌≤◌, inl, inr, List, [], ◌∷◌, ◌++◌, length, take, drop}
use Rattle.std.proofs.Common.{slice_index, Contains, IsTrue, refl, sym, ap, subst, ◌∙◌, arith, append_assoc}
use Rattle.std.proofs.Common.{length-append, drop-cons}
use Rattle.std.specs.Prelude.{Bool, true, false, if◌then◌else◌}
use Rattle.std.proofs.lemmas.Bool.{true≢false, cases_lt}
use Rattle.std.proofs.lemmas.List.{append-nil, get_or_past, drop_all}
use Rattle.lit_lists.specs.Lists.{LitLists, is_marked}
use Rattle.proof_rules.proofs.ListLemmas.{no_member, cons_cases}
use Rattle.proof_check.specs.Judged.{Frame, Spot, close, enter_or, without_place}
use Rattle.proof_check.specs.Track.{IsFrameOf, Fits, IsAt, ClosesFrames, Enters, EntersPick}
use Rattle.proof_check.specs.declared.track.Frame as held
use Rattle.node_judges.proofs.TestLemmas.{element_of}

-- a list with a last element isn't empty
snoc_nil : {A : Type 0} {B : Type 0} (xs : List A) (x : A) → xs ++ x ∷ [] ≡ [] → B
snoc_nil [] x e = absurd cc
snoc_nil (y ∷ xs) x e = absurd cc

-- lists with a last element are equal by front and last
snoc_same : {A : Type 0} (xs ys : List A) (x y : A) → xs ++ x ∷ [] ≡ ys ++ y ∷ [] → (xs ≡ ys) × (x ≡ y)
snoc_same [] [] x y e = (refl, cc)
snoc_same [] (z ∷ ys) x y e = (let f : [] ≡ ys ++ y ∷ [] = cc in snoc_nil ys y (sym f))
snoc_same (z ∷ xs) [] x y e = (let f : xs ++ x ∷ [] ≡ [] = cc in snoc_nil xs x f)
snoc_same (z ∷ xs) (w ∷ ys) x y e =
    let f : xs ++ x ∷ [] ≡ ys ++ y ∷ [] = cc in
    let g : z ≡ w = cc in
    let r = snoc_same xs ys x y f in
    ((let a = r.0 in cc), r.1)

-- the list without its last element is the front
pub front_of : (xs : List ℕ) (x : ℕ) → take (length (xs ++ x ∷ []) - 1) (xs ++ x ∷ []) ≡ xs
front_of xs x =
    let n : length (xs ++ x ∷ []) - 1 ≡ length xs = omega (arith, length-append xs (x ∷ [])) in
    ap (λ (k : ℕ). take k (xs ++ x ∷ [])) n ∙ front_part xs (x ∷ []) where
      front_part : (xs ys : List ℕ) → take (length xs) (xs ++ ys) ≡ xs
      front_part [] ys = refl
      front_part (x ∷ xs) ys = ap (λ (l : List ℕ). x ∷ l) (front_part xs ys)

-- the front of a joined list is its first part
front_part : (xs ys : List ℕ) → take (length xs) (xs ++ ys) ≡ xs
front_part [] ys = refl
front_part (x ∷ xs) ys = ap (λ (l : List ℕ). x ∷ l) (front_part xs ys)

-- the innermost frame is taken away
pub record Popped (lists : LitLists) (chosen barred omitted : List ℕ) (front : List held.Frame) (last : held.Frame)
    (frames : List Frame) : Type 0 where
  pub frame : Frame
  pub outer : List Frame
  pub are : frames ≡ frame ∷ outer
  pub is : IsFrameOf lists last frame
  pub chosen_is : take (length chosen - 1) chosen ≡ frame.chosen
  pub barred_is : take last.bars barred ≡ frame.barred
  pub omitted_is : take last.omits omitted ≡ frame.omitted
  pub fits : Fits lists frame.chosen frame.barred frame.omitted front outer

-- the last frame kept is the innermost open branch or pick
pub popped : (lists : LitLists) (chosen barred omitted : List ℕ) (kept front : List held.Frame) (last : held.Frame)
    (frames : List Frame) → Fits lists chosen barred omitted kept frames → kept ≡ front ++ last ∷ []
    → Popped lists chosen barred omitted front last frames
popped lists chosen barred omitted kept front last [] f e = snoc_nil front last (sym e ∙ f.0)
popped lists chosen barred omitted kept front last (a ∷ fs) (front2, last2, at, is, c, more, b, gone, o, rest) e =
    let same = snoc_same front2 front last2 last (sym at ∙ e) in
    let here : IsFrameOf lists last a = subst (λ (x : held.Frame). IsFrameOf lists x a) same.1 is in
    record {
      frame = a;
      outer = fs;
      are = refl;
      is = here;
      chosen_is = ap (λ (l : List ℕ). take (length l - 1) l) c ∙ front_of a.chosen a.place;
      barred_is = ap (λ (l : List ℕ). take last.bars l) b ∙ ap (λ (n : ℕ). take n (a.barred ++ more)) here.bars
          ∙ front_part a.barred more;
      omitted_is = ap (λ (l : List ℕ). take last.omits l) o
          ∙ ap (λ (n : ℕ). take n (a.omitted ++ gone)) here.omits ∙ front_part a.omitted gone;
      fits = subst (λ (l : List held.Frame). Fits lists a.chosen a.barred a.omitted l fs) same.0 rest;
    }

-- where no frame is kept no branch or pick is open, and nothing is chosen
pub no_frames : (lists : LitLists) (chosen barred omitted : List ℕ) (kept : List held.Frame) (frames : List Frame)
    → Fits lists chosen barred omitted kept frames → kept ≡ [] → (frames ≡ []) × (chosen ≡ [])
no_frames lists chosen barred omitted kept [] f e = (refl, f.1)
no_frames lists chosen barred omitted kept (a ∷ fs) f e = snoc_nil f.0 f.1 (sym f.2 ∙ e)

-- after a kid of a branch its next place is entered
next_place : (frame : Frame) (frames : List Frame) → frame.picked ≡ false
    → close (frame ∷ frames) ≡ enter_or frame.chosen (frame.barred ++ frame.place ∷ []) frame.omitted frame.later frames
    (close frames)
next_place frame frames branch = ap (λ (b : Bool). if b then without_place frame frames else
    enter_or frame.chosen (frame.barred ++ frame.place ∷ []) frame.omitted frame.later frames (close frames)) branch

-- after the first tree of a pick its place is barred
place_barred : (frame : Frame) (frames : List Frame) → frame.picked ≡ true
    → close (frame ∷ frames) ≡ without_place frame frames
place_barred frame frames pick = ap (λ (b : Bool). if b then without_place frame frames else
    enter_or frame.chosen (frame.barred ++ frame.place ∷ []) frame.omitted frame.later frames (close frames)) pick

-- a branch with no later place
pub ended : (frame : Frame) (frames : List Frame) → frame.picked ≡ false → frame.later ≡ []
    → close (frame ∷ frames) ≡ close frames
ended frame frames branch e = next_place frame frames branch ∙ ap (λ (l : List ℕ). enter_or frame.chosen
    (frame.barred ++ frame.place ∷ []) frame.omitted l frames
    (close frames)) e

-- a marked place lies in the box
pub marked_below : (marks : List Bool) (place limit : ℕ) → length marks ≡ limit → IsTrue (is_marked marks place)
    → place < limit
marked_below marks place limit e m = elim (cases_lt place limit) [
  | inl lt ↦ lt
  | inr le ↦ absurd (true≢false (sym m ∙ get_or_past marks place false (omega arith)))
]

-- the places of a frame lie in the box
pub place_below : (lists : LitLists) (last : held.Frame) (frame : Frame) (limit k : ℕ) → length lists.places ≡ limit
    → IsFrameOf lists last frame → k < length last.places.items → slice_index last.places.items k < limit
place_below lists last frame limit k e is h = marked_below lists.places (slice_index last.places.items k) limit e
    (is.legal (slice_index last.places.items k) (element_of last.places.items k h))

-- more places may be barred
pub fits_wider : (lists : LitLists) (chosen barred omitted more : List ℕ) (kept : List held.Frame)
    (frames : List Frame) → Fits lists chosen barred omitted kept frames
    → Fits lists chosen (barred ++ more) omitted kept frames
fits_wider lists chosen barred omitted more kept [] f = f
fits_wider lists chosen barred omitted more kept (a ∷ fs) (front, last, k, is, c, rest, b, gone, o, outer) = (
  front,
  last,
  k,
  is,
  c,
  rest ++ more,
  ap (λ (l : List ℕ). l ++ more) b ∙ append_assoc a.barred rest more,
  gone,
  o,
  outer,
)

-- more cells may be left out
pub fits_less : (lists : LitLists) (chosen barred omitted more : List ℕ) (kept : List held.Frame)
    (frames : List Frame) → Fits lists chosen barred omitted kept frames
    → Fits lists chosen barred (omitted ++ more) kept frames
fits_less lists chosen barred omitted more kept [] f = f
fits_less lists chosen barred omitted more kept (a ∷ fs) (front, last, k, is, c, rest, b, gone, o, outer) = (
  front,
  last,
  k,
  is,
  c,
  rest,
  b,
  gone ++ more,
  ap (λ (l : List ℕ). l ++ more) o ∙ append_assoc a.omitted gone more,
  outer,
)

-- the same lists fit the same frames
pub moved : (lists : LitLists) (frames : List Frame)
    (chosen now_chosen barred now_barred omitted now_omitted : List ℕ)
    (kept now_kept : List held.Frame) → now_chosen ≡ chosen → now_barred ≡ barred → now_omitted ≡ omitted
    → now_kept ≡ kept → Fits lists chosen barred omitted kept frames
    → Fits lists now_chosen now_barred now_omitted now_kept frames
moved lists frames chosen now_chosen barred now_barred omitted now_omitted kept now_kept c b o k f =
    subst (λ (l : List ℕ). Fits lists l now_barred now_omitted now_kept frames) (sym c)
    (subst (λ (l : List ℕ). Fits lists chosen l now_omitted now_kept frames) (sym b)
    (subst (λ (l : List ℕ). Fits lists chosen barred l now_kept frames) (sym o)
    (subst (λ (l : List held.Frame). Fits lists chosen barred omitted l frames) (sym k) f)))

-- the next place of a frame
next_later : (places : List ℕ) (index : ℕ) → index + 1 < length places
    → drop (index + 1) places ≡ slice_index places (index + 1) ∷ drop (index + 1 + 1) places
next_later places index h =
    let n : suc (index + 1) ≡ index + 1 + 1 = omega arith in
    drop-cons places (index + 1) 0 h ∙ ap (λ (k : ℕ). slice_index places (index + 1) ∷ drop k places) n

-- after the next place of a branch the track is where the tree ends
pub next_fits : (lists : LitLists) (last now : held.Frame) (frame : Frame) (frames : List Frame)
    (front : List held.Frame)
    (chosen barred omitted : List ℕ) (kept : List held.Frame)
    → IsFrameOf lists last frame → Fits lists frame.chosen frame.barred frame.omitted front frames
    → last.is_pick ≡ false → last.index + 1 < length last.places.items
    → now.places.items ≡ last.places.items → now.index ≡ last.index + 1 → now.is_pick ≡ false
    → kept ≡ front ++ now ∷ []
    → chosen ≡ frame.chosen ++ slice_index last.places.items (last.index + 1) ∷ []
    → barred ≡ frame.barred ++ slice_index last.places.items last.index ∷ []
    → omitted ≡ frame.omitted → now.bars ≡ length barred → now.omits ≡ length omitted
    → IsAt lists (close (frame ∷ frames)) chosen barred omitted kept
next_fits lists last now frame frames front chosen barred omitted kept is fits was more same index branch at c b o bars
    omits =
    let later : frame.later ≡ slice_index last.places.items (last.index + 1) ∷ drop
    (last.index + 1 + 1) last.places.items = sym is.later ∙ next_later last.places.items last.index more in
    let next : ℕ = slice_index last.places.items (last.index + 1) in
    let barred_now : barred ≡ frame.barred ++ frame.place ∷ [] = b ∙ ap (λ (p : ℕ). frame.barred ++ p ∷ []) is.place in
    let closed : close (frame ∷ frames) ≡ enter_or frame.chosen (frame.barred ++ frame.place ∷ []) frame.omitted
    (slice_index last.places.items (last.index + 1) ∷ drop (last.index + 1 + 1) last.places.items) frames
    (close frames)
    = next_place frame frames (sym is.picked ∙ was)
    ∙ ap (λ (l : List ℕ). enter_or frame.chosen (frame.barred ++ frame.place ∷ []) frame.omitted l frames
    (close frames))
    later in
    subst (λ (s : Spot). IsAt lists s chosen barred omitted kept) (sym closed) (record {
      chosen_is = c;
      barred_is = barred_now;
      omitted_is = o;
      fits = (
        front,
        now,
        at,
        record {
          bars = bars ∙ ap length barred_now;
          omits = omits ∙ ap length o;
          within = omega (arith, ap length same);
          place = ap (λ (l : List ℕ). slice_index l now.index) same ∙ ap (slice_index last.places.items) index;
          later = ap (λ (l : List ℕ). drop (now.index + 1) l) same
              ∙ ap (λ (n : ℕ). drop (n + 1) last.places.items) index;
          picked = branch;
          legal = λ place has. is.legal place (subst (λ (l : List ℕ). Contains l place) same has);
        },
        c,
        [],
        barred_now ∙ sym (append-nil (frame.barred ++ frame.place ∷ [])),
        [],
        o ∙ sym (append-nil frame.omitted),
        fits_wider lists frame.chosen frame.barred frame.omitted (frame.place ∷ []) front frames fits,
      );
    })

-- ---- the loop

pub record Closing (limit : ℕ) (chosen barred omitted : List ℕ) (kept : List held.Frame)
    (new_chosen new_barred new_omitted : List ℕ) (new_kept : List held.Frame) : Type 0 where
  pub each : (lists : LitLists) (frames : List Frame) → length lists.places ≡ limit
      → Fits lists chosen barred omitted kept frames
      → (left : List Frame) × Fits lists new_chosen new_barred new_omitted new_kept left
      × (close left ≡ close frames)

-- a branch with no place left is closed, its chosen place, its barred ones and the cells left out in it taken back
pub closing_next : (limit : ℕ) (c0 b0 o0 : List ℕ) (k0 : List held.Frame) (chosen barred omitted : List ℕ)
    (kept front : List held.Frame) (last : held.Frame) (new_chosen new_barred new_omitted : List ℕ)
    → Closing limit c0 b0 o0 k0 chosen barred omitted kept → kept ≡ front ++ last ∷ []
    → last.is_pick ≡ false → length last.places.items ≤ last.index + 1
    → new_chosen ≡ take (length chosen - 1) chosen → new_barred ≡ take last.bars barred
    → new_omitted ≡ take last.omits omitted
    → Closing limit c0 b0 o0 k0 new_chosen new_barred new_omitted front
closing_next limit c0 b0 o0 k0 chosen barred omitted kept front last new_chosen new_barred new_omitted s e branch done
    c b o =
    record {
      each = λ lists frames el f.
          (let g = s.each lists frames el f in
          let p = popped lists chosen barred omitted kept front last g.0 g.1 e in
          let none : p.frame.later ≡ [] = sym p.is.later ∙ drop_all (last.index + 1) last.places.items done in (
            p.outer,
            moved lists p.outer p.frame.chosen new_chosen p.frame.barred new_barred p.frame.omitted new_omitted front
                front (c ∙ p.chosen_is) (b ∙ p.barred_is) (o ∙ p.omitted_is) refl p.fits,
            sym (ended p.frame p.outer (sym p.is.picked ∙ branch) none) ∙ sym (ap close p.are) ∙ g.2,
          ));
    }

-- with no frame left all is closed
pub closing_end : (limit : ℕ) (c0 b0 o0 : List ℕ) (k0 : List held.Frame) (chosen barred omitted : List ℕ)
    (kept : List held.Frame) (new_barred new_omitted : List ℕ)
    → Closing limit c0 b0 o0 k0 chosen barred omitted kept → kept ≡ [] → new_barred ≡ [] → new_omitted ≡ []
    → ClosesFrames limit c0 b0 o0 k0 chosen new_barred new_omitted kept
closing_end limit c0 b0 o0 k0 chosen barred omitted kept new_barred new_omitted s e b o = record {
  each = λ lists frames el f.
      (let g = s.each lists frames el f in
      let n = no_frames lists chosen barred omitted kept g.0 g.1 e in
      subst (λ (spot : Spot). IsAt lists spot chosen new_barred new_omitted kept) (sym (ap close n.0) ∙ g.2)
      (record { chosen_is = n.1; barred_is = b; omitted_is = o; fits = (e, n.1) }));
}

-- a branch with a place left goes on to it
pub closing_kid : (limit : ℕ) (c0 b0 o0 : List ℕ) (k0 : List held.Frame) (chosen barred omitted : List ℕ)
    (kept front : List held.Frame) (last now : held.Frame)
    (cut_chosen cut_barred new_chosen new_barred new_omitted : List ℕ) (new_kept : List held.Frame)
    → Closing limit c0 b0 o0 k0 chosen barred omitted kept → kept ≡ front ++ last ∷ []
    → last.is_pick ≡ false → last.index + 1 < length last.places.items
    → cut_chosen ≡ take (length chosen - 1) chosen → cut_barred ≡ take last.bars barred
    → new_omitted ≡ take last.omits omitted
    → (slice_index last.places.items last.index < limit
    → new_barred ≡ cut_barred ++ slice_index last.places.items last.index ∷ [])
    → (slice_index last.places.items (last.index + 1) < limit
    → new_chosen ≡ cut_chosen ++ slice_index last.places.items (last.index + 1) ∷ [])
    → new_kept ≡ front ++ now ∷ [] → now.places.items ≡ last.places.items → now.index ≡ last.index + 1
    → now.is_pick ≡ false → now.bars ≡ length new_barred → now.omits ≡ length new_omitted
    → ClosesFrames limit c0 b0 o0 k0 new_chosen new_barred new_omitted new_kept
closing_kid limit c0 b0 o0 k0 chosen barred omitted kept front last now cut_chosen cut_barred new_chosen new_barred
    new_omitted new_kept s e was more c b o place next k same index branch bars omits = record {
      each = λ lists frames el f.
          (let g = s.each lists frames el f in
          let p = popped lists chosen barred omitted kept front last g.0 g.1 e in
          let low = place_below lists last p.frame limit last.index el p.is (omega arith) in
          let high = place_below lists last p.frame limit (last.index + 1) el p.is more in
          let chosen_now = next high ∙ ap (λ (l : List ℕ). l ++ slice_index last.places.items (last.index + 1) ∷ [])
          (c ∙ p.chosen_is) in
          let barred_now = place low ∙ ap (λ (l : List ℕ). l ++ slice_index last.places.items last.index ∷ [])
          (b ∙ p.barred_is) in
          subst (λ (spot : Spot). IsAt lists spot new_chosen new_barred new_omitted new_kept)
          (sym (ap close p.are) ∙ g.2)
          (next_fits lists last now p.frame p.outer front new_chosen new_barred new_omitted new_kept p.is p.fits was
          more same index branch k chosen_now barred_now (o ∙ p.omitted_is) bars omits));
    }

-- a pick goes on to its second tree
pub closing_pick : (limit : ℕ) (c0 b0 o0 : List ℕ) (k0 : List held.Frame) (chosen barred omitted : List ℕ)
    (kept front : List held.Frame) (last : held.Frame) (cut_barred new_chosen new_barred new_omitted : List ℕ)
    (new_kept : List held.Frame)
    → Closing limit c0 b0 o0 k0 chosen barred omitted kept → kept ≡ front ++ last ∷ [] → last.is_pick ≡ true
    → new_chosen ≡ take (length chosen - 1) chosen → cut_barred ≡ take last.bars barred
    → new_omitted ≡ take last.omits omitted
    → (last.index < length last.places.items → slice_index last.places.items last.index < limit
    → new_barred ≡ cut_barred ++ slice_index last.places.items last.index ∷ [])
    → new_kept ≡ front
    → ClosesFrames limit c0 b0 o0 k0 new_chosen new_barred new_omitted new_kept
closing_pick limit c0 b0 o0 k0 chosen barred omitted kept front last cut_barred new_chosen new_barred new_omitted
    new_kept s e pick c b o place k = record {
      each = λ lists frames el f.
          (let g = s.each lists frames el f in
          let p = popped lists chosen barred omitted kept front last g.0 g.1 e in
          let low = place_below lists last p.frame limit last.index el p.is p.is.within in
          let bars : new_barred ≡ p.frame.barred ++ p.frame.place ∷ [] = place p.is.within low
          ∙ ap (λ (l : List ℕ). l ++ slice_index last.places.items last.index ∷ []) (b ∙ p.barred_is)
          ∙ ap (λ (q : ℕ). p.frame.barred ++ q ∷ []) p.is.place in
          subst (λ (spot : Spot). IsAt lists spot new_chosen new_barred new_omitted new_kept)
          (sym (place_barred p.frame p.outer (sym p.is.picked ∙ pick)) ∙ sym (ap close p.are) ∙ g.2)
          (record {
            chosen_is = c ∙ p.chosen_is;
            barred_is = bars;
            omitted_is = o ∙ p.omitted_is;
            fits = moved lists p.outer p.frame.chosen new_chosen (p.frame.barred ++ p.frame.place ∷ []) new_barred
                p.frame.omitted new_omitted front new_kept (c ∙ p.chosen_is) bars (o ∙ p.omitted_is) k
                (fits_wider lists p.frame.chosen p.frame.barred p.frame.omitted (p.frame.place ∷ []) front p.outer
                p.fits);
          }));
    }

-- ---- a branch or a pick begins

-- the first of a frame's places is chosen
begun : (lists : LitLists) (place : ℕ) (places chosen barred omitted : List ℕ) (kept : List held.Frame)
    (now : held.Frame) (new_chosen : List ℕ) (new_kept : List held.Frame) (frames : List Frame) (picked : Bool)
    → ((other : ℕ) → Contains (place ∷ places) other → IsTrue (is_marked lists.places other))
    → new_chosen ≡ chosen ++ place ∷ [] → new_kept ≡ kept ++ now ∷ []
    → now.places.items ≡ place ∷ places → now.index ≡ 0 → now.bars ≡ length barred → now.omits ≡ length omitted
    → now.is_pick ≡ picked → Fits lists chosen barred omitted kept frames
    → IsAt lists (record {
      chosen = chosen ++ place ∷ [];
      barred = barred;
      omitted = omitted;
      frames = record {
        chosen = chosen;
        barred = barred;
        omitted = omitted;
        place = place;
        later = places;
        picked = picked;
      } ∷ frames;
    }) new_chosen barred omitted new_kept
begun lists place places chosen barred omitted kept now new_chosen new_kept frames picked legal c k same index bars
    omits pick f = record {
      chosen_is = c;
      barred_is = refl;
      omitted_is = refl;
      fits = (
        kept,
        now,
        k,
        record {
          bars = bars;
          omits = omits;
          within = omega (arith, ap length same);
          place = ap (λ (l : List ℕ). slice_index l now.index) same ∙ ap (slice_index (place ∷ places)) index;
          later = ap (λ (l : List ℕ). drop (now.index + 1) l) same
              ∙ ap (λ (n : ℕ). drop (n + 1) (place ∷ places)) index;
          picked = pick;
          legal = λ other has. legal other (subst (λ (l : List ℕ). Contains l other) same has);
        },
        c,
        [],
        sym (append-nil barred),
        [],
        sym (append-nil omitted),
        f,
      );
    }

-- a branch with places enters the first
pub entered : (limit : ℕ) (places chosen barred omitted : List ℕ) (kept : List held.Frame) (now : held.Frame)
    (new_chosen : List ℕ) (new_kept : List held.Frame) → 0 < length places
    → (slice_index places 0 < limit → new_chosen ≡ chosen ++ slice_index places 0 ∷ []) → new_kept ≡ kept ++ now ∷ []
    → now.places.items ≡ places → now.index ≡ 0 → now.bars ≡ length barred → now.omits ≡ length omitted
    → now.is_pick ≡ false
    → Enters limit places chosen barred omitted kept new_chosen barred omitted new_kept
entered limit [] chosen barred omitted kept now new_chosen new_kept some c k same index bars omits branch =
    absurd (omega arith)
entered limit (p ∷ ps) chosen barred omitted kept now new_chosen new_kept some c k same index bars omits branch =
    record {
      each = λ lists frames el legal f.
          (let low : p < limit = marked_below lists.places p limit el (legal p (element_of (p ∷ ps) 0 some)) in
          begun lists p ps chosen barred omitted kept now new_chosen new_kept frames false legal (c low) k same index
          bars omits branch f);
    }

-- a pick chooses its place
pub picked_first : (limit place : ℕ) (chosen barred omitted : List ℕ) (kept : List held.Frame) (now : held.Frame)
    (new_chosen : List ℕ) (new_kept : List held.Frame)
    → (place < limit → new_chosen ≡ chosen ++ place ∷ []) → new_kept ≡ kept ++ now ∷ []
    → now.places.items ≡ place ∷ [] → now.index ≡ 0 → now.bars ≡ length barred → now.omits ≡ length omitted
    → now.is_pick ≡ true
    → EntersPick limit place chosen barred omitted kept new_chosen barred omitted new_kept
picked_first limit place chosen barred omitted kept now new_chosen new_kept c k same index bars omits pick = record {
  each = λ lists frames el legal f. begun lists place [] chosen barred omitted kept now new_chosen new_kept frames true
      (λ other has. elim (cons_cases place [] other has) [
        | inl e ↦ subst (λ (p : ℕ). IsTrue (is_marked lists.places p)) e legal
        | inr none ↦ no_member other none
      ])
      (c (marked_below lists.places place limit el legal)) k same index bars omits pick f;
}
