-- From the lines taken to what the bytes are.
use Rattle.std.proofs.Common.{◌≡◌, ℕ, ◌+◌, ◌<◌, List, [], ◌∷◌, ◌++◌, length, refl, sym, subst, ap, arith}
use Rattle.std.proofs.Common.{append_assoc, length-append, ◌∙◌}
use Rattle.std.proofs.lemmas.List.{append-nil}
use Rattle.proof_rules.specs.Certificate.{Certificate, IsInRange}
use Rattle.proof_rules.specs.Text.{lines_of, ended, IsTextOf, AreFirstLines, IsFirstMisfit}
use Rattle.certificate_lines.specs.Cuts.{AreClean, HasNoFeed, IsCutLine}
use Rattle.certificate_lines.specs.Decides.{IsJust, IsNone}
use Rattle.certificate_lines.specs.Steps.{Takes, Leads}
use Rattle.certificate_lines.proofs.Walk.{leads_append, leads_split, sound_after, pending_after, leads_on}
use Rattle.certificate_lines.proofs.Whole.{certificate_of, leads_whole}
use Rattle.certificate_lines.proofs.Feeds.{clean_leads, clean_takes, one_cut, no_cut, same_front, clean_length}
use Rattle.certificate_lines.proofs.Lengths.{short_line}
use Rattle.certificate_lines.specs.Numbers.{longest_line}
use Rattle.certificate_lines.specs.declared.stage.Stage.{Stage}
use Rattle.certificate_lines.specs.declared.stage.Stage.TheVariants as stage
use Rattle.certificate_lines.specs.Walked.{Walked}

pub walk_start : (bytes : List ℕ) → Walked bytes stage.Start 0 bytes
walk_start bytes = record {
  before = [];
  parts = refl;
  clean = tt;
  counted = refl;
  leads = refl;
  only = λ other h. sym h;
  sound = tt;
  few = omega arith;
  within = omega arith;
}

pub start_before : (bytes : List ℕ) → (walk_start bytes).before ≡ []
unfolding walk_start
start_before bytes = refl

clean_push : (lines : List (List ℕ)) (text : List ℕ) → AreClean lines → HasNoFeed text → AreClean (lines ++ text ∷ [])
clean_push [] text n m = (m, tt)
clean_push (l ∷ lines) text n m = (n.0, clean_push lines text n.1 m)

ended-push : (lines : List (List ℕ)) (text after : List ℕ)
    → ended (lines ++ text ∷ []) ++ after ≡ ended lines ++ (text ++ 10 ∷ after)
ended-push [] text after = simp (append_assoc, append-nil {A = ℕ})
ended-push (l ∷ lines) text after =
    let e = ended-push lines text after in
    let f : ((l ++ 10 ∷ []) ++ ended (lines ++ text ∷ [])) ++ after ≡ (l ++ 10 ∷ [])
    ++ (ended (lines ++ text ∷ []) ++ after) = append_assoc (l ++ 10 ∷ []) (ended (lines ++ text ∷ [])) after in
    let g : ((l ++ 10 ∷ []) ++ ended lines) ++ (text ++ 10 ∷ after) ≡ (l ++ 10 ∷ [])
    ++ (ended lines ++ (text ++ 10 ∷ after)) = append_assoc (l ++ 10 ∷ []) (ended lines) (text ++ 10 ∷ after) in
    cc

pub walk_more : (bytes : List ℕ) (s : Stage) (taken : ℕ) (rest text after : List ℕ) (next : Stage) (now_taken : ℕ)
    → Walked bytes s taken rest → IsCutLine rest text after → IsJust (Takes s text) next → now_taken ≡ taken + 1
    → Walked bytes next now_taken after
walk_more bytes s taken rest text after next now_taken w cut j n = record {
  before = w.before ++ text ∷ [];
  parts = w.parts ∙ ap (λ (r : List ℕ). ended w.before ++ r) cut.parts ∙ sym (ended-push w.before text after);
  clean = clean_push w.before text w.clean cut.clean;
  counted = omega (arith, w.counted, length-append w.before (text ∷ []));
  leads = leads_append w.before (text ∷ []) stage.Start s next w.leads (next, j.is, refl);
  only = λ other h.
      let r = leads_split w.before (text ∷ []) stage.Start other h in
      let t = r.2 in
      sym t.2 ∙ j.only t.0 (subst (λ (x : Stage). Takes x text t.0) (w.only r.0 r.1) t.1);
  sound = sound_after s next text w.sound j.is;
  few = omega (arith, w.few, pending_after s next text w.sound j.is);
  within = omega (arith, w.within, ap length cut.parts, length-append text (10 ∷ after));
}

pub more_before : (bytes : List ℕ) (s : Stage) (taken : ℕ) (rest text after : List ℕ) (next : Stage) (now_taken : ℕ)
    (w : Walked bytes s taken rest) (cut : IsCutLine rest text after) (j : IsJust (Takes s text) next)
    (n : now_taken ≡ taken + 1)
    → (walk_more bytes s taken rest text after next now_taken w cut j n).before ≡ w.before ++ text ∷ []
unfolding walk_more
more_before bytes s taken rest text after next now_taken w cut j n = refl

-- what the lines of a certificate lead to
leads_certificate : (certificate : Certificate) → IsInRange certificate
    → Leads (lines_of certificate) stage.Start stage.Done
leads_certificate c i = leads_whole c.version c.size c.headroom c.sections i

-- a certificate whose lines begin with those taken goes on from the stage
goes_on : (bytes : List ℕ) (s : Stage) (taken : ℕ) (rest : List ℕ) (w : Walked bytes s taken rest)
    (certificate : Certificate) → IsInRange certificate → (later : List (List ℕ))
    → lines_of certificate ≡ w.before ++ later → Leads later s stage.Done
goes_on bytes s taken rest w certificate i later e =
    let r = leads_split w.before later stage.Start stage.Done
    (subst (λ (ls : List (List ℕ)). Leads ls stage.Start stage.Done) e (leads_certificate certificate i)) in
    subst (λ (x : Stage). Leads later x stage.Done) (w.only r.0 r.1) r.2

first_lines : (bytes : List ℕ) (s : Stage) (taken : ℕ) (rest : List ℕ) (w : Walked bytes s taken rest)
    → AreFirstLines w.before
first_lines bytes s taken rest w =
    let m = leads_on s w.sound in
    let c = certificate_of (w.before ++ m.0) (leads_append w.before m.0 stage.Start s stage.Done w.leads m.1) in
    (c.certificate, c.in_range, m.0, sym c.is)

-- a text of a certificate: what is left is the text of what goes on
pub rest_leads : (bytes : List ℕ) (s : Stage) (taken : ℕ) (rest : List ℕ) → Walked bytes s taken rest
    → (certificate : Certificate) → IsTextOf bytes certificate
    → (later : List (List ℕ)) × Leads later s stage.Done × (rest ≡ ended later)
rest_leads bytes s taken rest w certificate t =
    let l = leads_certificate certificate t.in_range in
    let r = same_front w.before (lines_of certificate) rest
    w.clean (clean_leads (lines_of certificate) stage.Start stage.Done tt l) (sym w.parts ∙ t.text) in
    (r.0, goes_on bytes s taken rest w certificate t.in_range r.0 r.1, r.2)

-- a line that doesn't fit
pub misfit : (bytes : List ℕ) (s : Stage) (taken : ℕ) (rest text after : List ℕ) (number : ℕ)
    → Walked bytes s taken rest → IsCutLine rest text after → IsNone (Takes s text) → number ≡ taken + 1
    → IsFirstMisfit bytes number
misfit bytes s taken rest text after number w cut n e = record {
  before = w.before;
  rest = rest;
  parts = w.parts;
  counted = omega (arith, w.counted);
  fits = first_lines bytes s taken rest w;
  breaks = λ next later f g.
      let h : lines_of g.0 ≡ w.before ++ next ∷ g.2 = g.3 ∙ append_assoc w.before (next ∷ []) g.2 in
      let t = goes_on bytes s taken rest w g.0 g.1 (next ∷ g.2) h in
      let same = one_cut next text later after (clean_takes s t.0 next w.sound t.1) cut.clean (sym f ∙ cut.parts) in
      n.none t.0 (subst (λ (x : List ℕ). Takes s x t.0) same.0 t.1);
  unfinished = λ certificate t. let r = rest_leads bytes s taken rest w certificate t in no r.0 r.1 r.2;
} where
  no : (later : List (List ℕ)) → Leads later s stage.Done → rest ≡ ended later → ⊥
  no [] l f = empty text (sym cut.parts ∙ f) where
    empty : (xs : List ℕ) → xs ++ 10 ∷ after ≡ [] → ⊥
    empty [] g = cc
    empty (x ∷ xs) g = cc
  no (next ∷ later) l f =
      let g : (next ++ 10 ∷ []) ++ ended later ≡ next ++ 10 ∷ ended later = append_assoc next (10 ∷ []) (ended later) in
      let same = one_cut next text (ended later) after
      (clean_takes s l.0 next w.sound l.1) cut.clean (sym g ∙ sym f ∙ cut.parts) in
      n.none l.0 (subst (λ (x : List ℕ). Takes s x l.0) same.0 l.1)

-- a line that is longer than any that fits
pub overlong : (bytes : List ℕ) (s : Stage) (taken : ℕ) (rest front after : List ℕ) (number : ℕ)
    → Walked bytes s taken rest → rest ≡ front ++ after → HasNoFeed front → longest_line < length front
    → number ≡ taken + 1 → IsFirstMisfit bytes number
overlong bytes s taken rest front after number w parts clean long e = record {
  before = w.before;
  rest = rest;
  parts = w.parts;
  counted = omega (arith, w.counted);
  fits = first_lines bytes s taken rest w;
  breaks = λ next later f g.
      let h : lines_of g.0 ≡ w.before ++ next ∷ g.2 = g.3 ∙ append_assoc w.before (next ∷ []) g.2 in
      let t = goes_on bytes s taken rest w g.0 g.1 (next ∷ g.2) h in
      too_long next later (sym parts ∙ f) t.0 t.1;
  unfinished = λ certificate t. let r = rest_leads bytes s taken rest w certificate t in no r.0 r.1 r.2;
} where
  too_long : (next later : List ℕ) → front ++ after ≡ next ++ 10 ∷ later → (t : Stage) → ¬ Takes s next t
  too_long next later f t takes =
      absurd (omega (arith, long, clean_length front next after later clean f, short_line s t next w.sound takes))

  no : (later : List (List ℕ)) → Leads later s stage.Done → rest ≡ ended later → ⊥
  no [] l f = absurd (omega (arith, long, ap length (sym parts ∙ f), length-append front after))
  no (next ∷ later) l f =
      let g : (next ++ 10 ∷ []) ++ ended later ≡ next ++ 10 ∷ ended later = append_assoc next (10 ∷ []) (ended later) in
      too_long next (ended later) (sym parts ∙ f ∙ g) l.0 l.1

-- bytes after the last line feed, or a line that is missing
pub unended : (bytes : List ℕ) (s : Stage) (taken : ℕ) (rest : List ℕ) (number : ℕ) → Walked bytes s taken rest
    → HasNoFeed rest → (rest ≡ [] → s ≡ stage.Done → ⊥) → number ≡ taken + 1 → IsFirstMisfit bytes number
unended bytes s taken rest number w clean not_whole e = record {
  before = w.before;
  rest = rest;
  parts = w.parts;
  counted = omega (arith, w.counted);
  fits = first_lines bytes s taken rest w;
  breaks = λ next later f g. no_cut rest next later clean f;
  unfinished = λ certificate t. let r = rest_leads bytes s taken rest w certificate t in no r.0 r.1 r.2;
} where
  no : (later : List (List ℕ)) → Leads later s stage.Done → rest ≡ ended later → ⊥
  no [] l f = not_whole f l
  no (next ∷ later) l f =
      let g : (next ++ 10 ∷ []) ++ ended later ≡ next ++ 10 ∷ ended later = append_assoc next (10 ∷ []) (ended later) in
      no_cut rest next (ended later) clean (f ∙ g)

-- the whole text
pub whole : (bytes : List ℕ) (s : Stage) (taken : ℕ) (rest : List ℕ) → Walked bytes s taken rest → rest ≡ []
    → s ≡ stage.Done → (certificate : Certificate) × IsTextOf bytes certificate
whole bytes s taken rest w e d =
    let c = certificate_of w.before (subst (λ (x : Stage). Leads w.before stage.Start x) d w.leads) in (
      c.certificate,
      record {
        in_range = c.in_range;
        text = w.parts ∙ ap (λ (r : List ℕ). ended w.before ++ r) e ∙ append-nil (ended w.before) ∙ ap ended c.is;
      },
    )

-- the lines of whatever certificate it is the text of are those that were taken
pub whole_lines : (bytes : List ℕ) (s : Stage) (taken : ℕ) (rest : List ℕ) (w : Walked bytes s taken rest) → rest ≡ []
    → (certificate : Certificate) → IsTextOf bytes certificate → lines_of certificate ≡ w.before
whole_lines bytes s taken rest w e certificate t =
    let l = leads_certificate certificate t.in_range in
    let r = same_front w.before (lines_of certificate) rest
    w.clean (clean_leads (lines_of certificate) stage.Start stage.Done tt l) (sym w.parts ∙ t.text) in
    none_left r.0 r.1 (sym r.2 ∙ e)
  where
    snoc : (text : List ℕ) (more : List ℕ) → (text ++ 10 ∷ []) ++ more ≡ [] → ⊥
    snoc [] more g = cc
    snoc (x ∷ xs) more g = cc

    none_left : (later : List (List ℕ)) → lines_of certificate ≡ w.before ++ later → ended later ≡ []
        → lines_of certificate ≡ w.before
    none_left [] g h = g ∙ append-nil w.before
    none_left (text ∷ later) g h = absurd (snoc text (ended later) h)
