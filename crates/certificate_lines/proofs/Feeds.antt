-- Line feeds: where lines are cut, and that no line of a certificate has one.
use Rattle.std.proofs.Common.{◌≡◌, ◌≢◌, ℕ, zero, suc, ◌+◌, ◌<◌, ◌≤◌, inl, inr, List, [], ◌∷◌, ◌++◌, length, take}
use Rattle.std.proofs.Common.{drop, get_or, All, refl, sym, subst, ap, arith, append_assoc, add-one, ◌∙◌}
use Rattle.std.specs.Prelude.{Bool, true, not, codes, decimal, nat_eq, ◌&&◌}
use Rattle.std.proofs.lemmas.Bool.{eq-eqb}
use Rattle.std.proofs.lemmas.List.Elements.{All-head, All-tail}
use Rattle.proof_rules.specs.Text.{ended}
use Rattle.certificate_lines.specs.Cuts.{AreClean, HasNoFeed, IsCutLine}
use Rattle.certificate_lines.specs.Numbers.{IsSmall, numbers_text}
use Rattle.certificate_lines.specs.Sound.{IsSoundStage}
use Rattle.certificate_lines.specs.Steps.{Takes, Leads, Says}
use Rattle.certificate_lines.proofs.Digits.{AreDigits, digits_of}
use Rattle.certificate_lines.proofs.Walk.{sound_after}
use Rattle.certificate_lines.proofs.Lift.{AreSmall, and_both, start_small, box_small, headroom_small, need_small}
use Rattle.certificate_lines.proofs.Lift.{regions_small, end_small, region_small, dark_small, torches_small}
use Rattle.certificate_lines.proofs.Lift.{leaf_small, branch_small, bar_small, weighted_small, omit_small, pick_small}
use Rattle.certificate_lines.proofs.Lift.{group_small}
use Rattle.certificate_lines.specs.declared.stage.Stage.{Stage}
use Rattle.certificate_lines.specs.declared.stage.Stage.TheVariants as stage

-- ---- the place of the first one

pub cut_at : (bytes : List ℕ) (i : ℕ) → i < length bytes → get_or bytes i 0 ≡ 10
    → ((k : ℕ) → k < i → get_or bytes k 0 ≢ 10) → IsCutLine bytes (take i bytes) (drop (i + 1) bytes)
cut_at [] i h e f = absurd (omega arith)
cut_at (b ∷ bytes) zero h e f =
    record { parts = (let g : b ≡ 10 = e in let d : drop (0 + 1) (b ∷ bytes) ≡ bytes = refl in cc); clean = tt }
cut_at (b ∷ bytes) (suc i) h e f =
    let r = cut_at bytes i (omega arith) e (λ k l. f (suc k) (omega arith)) in
    let d : drop (suc i + 1) (b ∷ bytes) ≡ drop (i + 1) bytes = rw (add-one, add-one) refl in
    record { parts = (let g = r.parts in cc); clean = (f 0 (omega arith), r.clean) }

pub no_feed_at : (bytes : List ℕ) → ((k : ℕ) → k < length bytes → get_or bytes k 0 ≢ 10) → HasNoFeed bytes
no_feed_at [] f = tt
no_feed_at (b ∷ bytes) f = (f 0 (omega arith), no_feed_at bytes (λ k l. f (suc k) (omega arith)))

-- a cut is the only one
pub one_cut : (a b x y : List ℕ) → HasNoFeed a → HasNoFeed b → a ++ 10 ∷ x ≡ b ++ 10 ∷ y → (a ≡ b) × (x ≡ y)
one_cut [] [] x y n m e = (refl, cc)
one_cut [] (c ∷ b) x y n m e = absurd (let f : c ≡ 10 = cc in m.0 f)
one_cut (c ∷ a) [] x y n m e = absurd (let f : c ≡ 10 = cc in n.0 f)
one_cut (c ∷ a) (d ∷ b) x y n m e =
    let f : a ++ 10 ∷ x ≡ b ++ 10 ∷ y = cc in
    let g : c ≡ d = cc in
    let r = one_cut a b x y n.1 m.1 f in
    let r0 = r.0 in
    (cc, r.1)

pub no_cut : (bytes a x : List ℕ) → HasNoFeed bytes → bytes ≡ a ++ 10 ∷ x → ⊥
no_cut [] [] x n e = cc
no_cut [] (c ∷ a) x n e = cc
no_cut (b ∷ bytes) [] x n e = let f : b ≡ 10 = cc in n.0 f
no_cut (b ∷ bytes) (c ∷ a) x n e = let f : bytes ≡ a ++ 10 ∷ x = cc in no_cut bytes a x n.1 f

-- ---- no line has one

pub clean_append : (a b : List ℕ) → HasNoFeed a → HasNoFeed b → HasNoFeed (a ++ b)
clean_append [] b n m = m
clean_append (c ∷ a) b n m = (n.0, clean_append a b n.1 m)

pub clean_digits : (ds : List ℕ) → AreDigits ds → HasNoFeed ds
clean_digits [] d = tt
clean_digits (c ∷ cs) d = ((λ e. (let f = d.0 in omega arith)), clean_digits cs d.2)

clean_numbers : (numbers : List ℕ) → All IsSmall numbers → HasNoFeed (numbers_text numbers)
clean_numbers [] a = tt
clean_numbers (n ∷ ns) a = (
  (λ e. omega arith),
  clean_append (decimal n) (numbers_text ns)
      (clean_digits (decimal n) (digits_of n (All-head IsSmall n ns a))) (clean_numbers ns (All-tail IsSmall n ns a)),
)

abbrev pub is_clean : List ℕ → Bool
is_clean [] = true
is_clean (c ∷ cs) = not (nat_eq c 10) && is_clean cs

pub clean_word : (word : List ℕ) → is_clean word ≡ true → HasNoFeed word
clean_word [] e = tt
clean_word (c ∷ cs) e =
    let r = and_both (not (nat_eq c 10)) (is_clean cs) e in (
      (λ f. (let g = eq-eqb c 10 f in let h : not (nat_eq c 10) ≡ not true = ap not g in let i = r.0 in cc)),
      clean_word cs r.1,
    )

clean_says : (word text : List ℕ) (Means : List ℕ → Stage → Type 0) (next : Stage) → is_clean word ≡ true
    → AreSmall Means → Says word Means text next → HasNoFeed text
clean_says word text Means next w small s = subst HasNoFeed (sym s.1)
    (clean_append word (numbers_text s.0) (clean_word word w) (clean_numbers s.0 (small.each s.0 next s.2)))

pub clean_takes : (s next : Stage) (text : List ℕ) → IsSoundStage s → Takes s text next → HasNoFeed text
clean_takes stage.Start next text h t = clean_says (codes "torchproof") text _ next refl start_small t
clean_takes (stage.Box version) next text h t = clean_says (codes "box") text _ next refl (box_small version) t
clean_takes (stage.Headroom version count) next text h t = clean_says (codes "headroom") text _ next refl
    (headroom_small version count) t
clean_takes (stage.Need version count) next text h t = clean_says (codes "need") text _ next refl
    (need_small version count) t
clean_takes (stage.Regions version count) next text h t = clean_says (codes "regions") text _ next refl
    (regions_small version count h) t
clean_takes (stage.Region version count to_come) next text h (inl t) = clean_says (codes "end") text _ next refl
    (end_small to_come) t
clean_takes (stage.Region version count to_come) next text h (inr t) = clean_says (codes "region") text _ next refl
    (region_small version count to_come h.0) t
clean_takes (stage.Dark version count to_come n m) next text h t = clean_says (codes "D") text _ next refl
    (dark_small version count to_come n m h.0) t
clean_takes (stage.Torches version count to_come m) next text h t = clean_says (codes "T") text _ next refl
    (torches_small version count to_come m h.0) t
clean_takes (stage.Node version count to_come pending) next text h (inl t) = clean_says (codes "L") text _ next refl
    (leaf_small version count to_come pending h.0) t
clean_takes (stage.Node version count to_come pending) next text h (inr (inl t)) =
    clean_says (codes "B") text _ next refl (branch_small version count to_come pending h.0) t
clean_takes (stage.Node version count to_come pending) next text h (inr (inr (inl t))) =
    clean_says (codes "E") text _ next refl (bar_small version count to_come pending h.0) t
clean_takes (stage.Node version count to_come pending) next text h (inr (inr (inr (inl t)))) =
    clean_says (codes "W") text _ next refl (weighted_small version count to_come pending h.0) t
clean_takes (stage.Node version count to_come pending) next text h (inr (inr (inr (inr (inl t))))) =
    clean_says (codes "D") text _ next refl (omit_small version count to_come pending h.0) t
clean_takes (stage.Node version count to_come pending) next text h (inr (inr (inr (inr (inr t))))) =
    clean_says (codes "P") text _ next refl (pick_small version count to_come pending h.0) t
clean_takes (stage.Group version count to_come pending left from) next text h t =
    clean_says (codes "G") text _ next refl (group_small version count to_come pending left from h.0) t
clean_takes stage.Done next text h t = absurd t

pub clean_leads : (lines : List (List ℕ)) (s u : Stage) → IsSoundStage s → Leads lines s u → AreClean lines
clean_leads [] s u h l = tt
clean_leads (text ∷ lines) s u h (next, t, rest) =
    (clean_takes s next text h t, clean_leads lines next u (sound_after s next text h t) rest)

-- clean lines in front are the front of any clean lines with this text
pub same_front : (before lines : List (List ℕ)) (rest : List ℕ) → AreClean before → AreClean lines
    → ended before ++ rest ≡ ended lines → (later : List (List ℕ)) × (lines ≡ before ++ later) × (rest ≡ ended later)
same_front [] lines rest n m e = (lines, refl, e)
same_front (a ∷ before) [] rest n m e = absurd (empty a (ended before) rest e) where
  empty : (a b rest : List ℕ) → ((a ++ 10 ∷ []) ++ b) ++ rest ≡ [] → ⊥
  empty [] b rest e = cc
  empty (c ∷ a) b rest e = cc
same_front (a ∷ before) (b ∷ lines) rest n m e =
    let f : ((a ++ 10 ∷ []) ++ ended before) ++ rest ≡ a ++ 10 ∷ (ended before ++ rest) = simp append_assoc in
    let g : (b ++ 10 ∷ []) ++ ended lines ≡ b ++ 10 ∷ ended lines = append_assoc b (10 ∷ []) (ended lines) in
    let c = one_cut a b (ended before ++ rest) (ended lines) n.0 m.0 (sym f ∙ e ∙ g) in
    let r = same_front before lines rest n.1 m.1 c.1 in
    let c0 = c.0 in
    let r1 = r.1 in
    (r.0, cc, r.2)

-- a text without a line feed is no longer than the line that it begins
pub clean_length : (front line after later : List ℕ) → HasNoFeed front → front ++ after ≡ line ++ 10 ∷ later
    → length front ≤ length line
clean_length [] line after later n e = omega arith
clean_length (b ∷ front) [] after later n e = absurd (n.0 cc)
clean_length (b ∷ front) (c ∷ line) after later n e =
    (let r = clean_length front line after later n.1 cc in omega arith)
