-- Lines from pieces of any size.
use Rattle.std.proofs.Common.{◌≡◌, ◌≢◌, ℕ, ◌+◌, ◌⊎◌, inl, inr, List, [], ◌∷◌, ◌++◌, refl, sym, subst, ap, arith}
use Rattle.std.proofs.Common.{append_assoc, length-append, ◌∙◌}
use Rattle.std.specs.Prelude.{Bool, true, false, MatchBool, Option, Some, None}
use Rattle.std.proofs.lemmas.List.{append-nil}
use Rattle.proof_rules.specs.Text.{ended, IsFirstMisfit}
use Rattle.certificate_lines.specs.Cuts.{HasNoFeed, IsCutLine}
use Rattle.certificate_lines.specs.Decides.{IsJust}
use Rattle.certificate_lines.specs.Kinds.{kind_at}
use Rattle.certificate_lines.specs.Moves.{Fits, FitsNot}
use Rattle.certificate_lines.specs.Said.{Said, said, AreSaid}
use Rattle.certificate_lines.specs.Steps.{Takes}
use Rattle.certificate_lines.specs.Walked.{Walked}
use Rattle.certificate_lines.specs.Held.{HeldText, Going, Stuck, Overlong, HoldsOr, Holds, TakesLine, EndsPiece, Tells}
use Rattle.certificate_lines.specs.Keeping.{IsKeptOn, IsOverlong}
use Rattle.certificate_lines.proofs.Feeds.{clean_append}
use Rattle.certificate_lines.proofs.Misfit.{walk_start, start_before, walk_more, more_before, misfit, overlong}
use Rattle.certificate_lines.proofs.Misfit.{unended, whole, whole_lines}
use Rattle.certificate_lines.proofs.OrderLemmas.{order_none, order_push}
use Rattle.certificate_lines.proofs.SaidLemmas.{said_push, said_is}
use Rattle.certificate_lines.specs.declared.kind.LineKind.{LineKind}
use Rattle.certificate_lines.specs.declared.stage.Stage.{Stage}
use Rattle.certificate_lines.specs.declared.stage.Stage.TheVariants as stage

-- ---- more bytes

extend : (bytes : List ℕ) (s : Stage) (taken : ℕ) (rest more : List ℕ) → Walked bytes s taken rest
    → Walked (bytes ++ more) s taken (rest ++ more)
extend bytes s taken rest more w = record {
  before = w.before;
  parts = ap (λ (x : List ℕ). x ++ more) w.parts ∙ append_assoc (ended w.before) rest more;
  clean = w.clean;
  counted = w.counted;
  leads = w.leads;
  only = w.only;
  sound = w.sound;
  few = w.few;
  within = omega (arith, w.within, length-append rest more, length-append bytes more);
}

extend_before : (bytes : List ℕ) (s : Stage) (taken : ℕ) (rest more : List ℕ) (w : Walked bytes s taken rest)
    → (extend bytes s taken rest more w).before ≡ w.before
unfolding extend
extend_before bytes s taken rest more w = refl

stuck_more : (bytes more : List ℕ) (number : ℕ) → Stuck bytes number → Stuck (bytes ++ more) number
stuck_more bytes more number t = record {
  s = t.s;
  taken = t.taken;
  rest = t.rest ++ more;
  text = t.text;
  after = t.after ++ more;
  walked = extend bytes t.s t.taken t.rest more t.walked;
  cut = record {
    parts = ap (λ (x : List ℕ). x ++ more) t.cut.parts ∙ append_assoc t.text (10 ∷ t.after) more;
    clean = t.cut.clean;
  };
  no_next = t.no_next;
  counted = t.counted;
}

overlong_more : (bytes more : List ℕ) (number : ℕ) → Overlong bytes number → Overlong (bytes ++ more) number
overlong_more bytes more number t = record {
  s = t.s;
  taken = t.taken;
  rest = t.rest ++ more;
  front = t.front;
  after = t.after ++ more;
  walked = extend bytes t.s t.taken t.rest more t.walked;
  parts = ap (λ (x : List ℕ). x ++ more) t.parts ∙ append_assoc t.front t.after more;
  clean = t.clean;
  long = t.long;
  counted = t.counted;
}

found_stays : (bytes piece : List ℕ) (all : List Said) (kept : HeldText) (found : Option ℕ) → found ≢ None
    → HoldsOr bytes all kept found → HoldsOr (bytes ++ piece) all kept found
found_stays bytes piece all kept None some h = absurd (some refl)
found_stays bytes piece all kept (Some number) some (inl t) = inl (stuck_more bytes piece number t)
found_stays bytes piece all kept (Some number) some (inr t) = inr (overlong_more bytes piece number t)

pub ends_found : (piece : List ℕ) (kept : HeldText) → kept.misfit ≢ None → EndsPiece piece kept kept
ends_found piece kept some = record { each = λ bytes all h. found_stays bytes piece all kept kept.misfit some h }

-- ---- a piece, where all went well so far

pub going : (bytes : List ℕ) (all : List Said) (kept : HeldText) → kept.misfit ≡ None → Holds bytes all kept
    → Going bytes all kept.stage kept.taken kept.last
going bytes all kept e h = subst (HoldsOr bytes all kept) e h

holds_by : (bytes : List ℕ) (all : List Said) (kept : HeldText) (found : Option ℕ) → kept.misfit ≡ found
    → HoldsOr bytes all kept found → Holds bytes all kept
holds_by bytes all kept found e h = subst (HoldsOr bytes all kept) (sym e) h

-- more of a line
going_on : (bytes text : List ℕ) (all : List Said) (s now_s : Stage) (taken now_taken : ℕ) (last now_last : List ℕ)
    → Going bytes all s taken last → HasNoFeed text → now_s ≡ s → now_taken ≡ taken → now_last ≡ last ++ text
    → Going (bytes ++ text) all now_s now_taken now_last
going_on bytes text all s now_s taken now_taken last now_last g clean es et el =
    let here : Going (bytes ++ text) all s taken (last ++ text) = record {
      walked = extend bytes s taken last text g.walked;
      clean = clean_append last text g.clean clean;
      says = subst (λ (b : List (List ℕ)). AreSaid b all) (sym (extend_before bytes s taken last text g.walked)) g.says;
      order = g.order;
    } in
    subst (λ (x : Stage). Going (bytes ++ text) all x now_taken now_last) (sym es)
    (subst (λ (n : ℕ). Going (bytes ++ text) all s n now_last) (sym et)
    (subst (λ (l : List ℕ). Going (bytes ++ text) all s taken l) (sym el) here))

pub ends_kept : (piece : List ℕ) (old new : HeldText) → old.misfit ≡ None → HasNoFeed piece → IsKeptOn piece old new
    → EndsPiece piece old new
ends_kept piece old new none clean k = record {
  each = λ bytes all h. holds_by (bytes ++ piece) all new None (k.misfit ∙ none)
      (going_on bytes piece all old.stage new.stage old.taken new.taken old.last new.last (going bytes all old none h)
      clean k.stage k.taken k.last);
}

pub ends_overlong : (piece text after : List ℕ) (old new : HeldText) → old.misfit ≡ None → piece ≡ text ++ after
    → HasNoFeed text → IsOverlong text old new → EndsPiece piece old new
ends_overlong piece text after old new none parts clean o = record {
  each = λ bytes all h.
      let g = going bytes all old none h in
      holds_by (bytes ++ piece) all new (Some (old.taken + 1)) o.misfit (inr (record {
        s = old.stage;
        taken = old.taken;
        rest = old.last ++ piece;
        front = old.last ++ text;
        after = after;
        walked = extend bytes old.stage old.taken old.last piece g.walked;
        parts = ap (λ (x : List ℕ). old.last ++ x) parts ∙ sym (append_assoc old.last text after);
        clean = clean_append old.last text g.clean clean;
        long = omega (arith, o.long, length-append old.last text);
        counted = refl;
      }));
}

-- a piece in which no line ends
pub ends_on : (piece : List ℕ) (old new : HeldText) (kept : Bool) → old.misfit ≡ None → HasNoFeed piece
    → MatchBool kept (IsKeptOn piece old new) (IsOverlong piece old new) → EndsPiece piece old new
ends_on piece old new true none clean k = ends_kept piece old new none clean k
ends_on piece old new false none clean o = ends_overlong piece piece [] old new none (sym (append-nil piece)) clean o

-- the line with what was kept of it before
cut_whole : (last piece text after line : List ℕ) → HasNoFeed last → IsCutLine piece text after → line ≡ last ++ text
    → IsCutLine (last ++ piece) line after
cut_whole last piece text after line clean cut is = record {
  parts = ap (λ (r : List ℕ). last ++ r) cut.parts ∙ sym (append_assoc last text (10 ∷ after))
      ∙ ap (λ (l : List ℕ). l ++ 10 ∷ after) (sym is);
  clean = subst HasNoFeed (sym is) (clean_append last text clean cut.clean);
}

pub ends_stuck : (piece text after line : List ℕ) (old mid new : HeldText) (s : Stage) (taken : ℕ) → old.misfit ≡ None
    → IsCutLine piece text after → IsKeptOn text old mid → line ≡ mid.last → FitsNot line mid.stage s mid.taken taken
    → new.misfit ≡ Some (taken + 1) → EndsPiece piece old new
ends_stuck piece text after line old mid new s taken none cut k is n e = record {
  each = λ bytes all h.
      let g = going bytes all old none h in
      holds_by (bytes ++ piece) all new (Some (taken + 1)) e (inl (record {
        s = old.stage;
        taken = old.taken;
        rest = old.last ++ piece;
        text = line;
        after = after;
        walked = extend bytes old.stage old.taken old.last piece g.walked;
        cut = cut_whole old.last piece text after line g.clean cut (is ∙ k.last);
        no_next = record {
          none = λ other t. n.none.none other
              (subst (λ (x : Stage). Takes x line other) (sym k.stage) t);
        };
        counted = ap (λ (m : ℕ). m + 1) (n.counted ∙ k.taken);
      }));
}

pub takes_line : (piece text after line : List ℕ) (k : LineKind) (old mid new : HeldText) → old.misfit ≡ None
    → IsCutLine piece text after → IsKeptOn text old mid → line ≡ mid.last
    → Fits line k new.numbers mid.stage new.stage mid.taken new.taken → new.misfit ≡ mid.misfit → new.last ≡ []
    → TakesLine piece after k old new
takes_line piece text after line k old mid new none cut on is f same out = record {
  front = text ++ 10 ∷ [];
  parts = cut.parts ∙ sym (append_assoc text (10 ∷ []) after);
  some = omega (arith, length-append text (10 ∷ []));
  each = λ bytes all h.
      let g = going bytes all old none h in
      let front : List ℕ = text ++ 10 ∷ [] in
      let x = extend bytes old.stage old.taken old.last (text ++ 10 ∷ []) g.walked in
      let c : IsCutLine (old.last ++ (text ++ 10 ∷ [])) line [] = cut_whole old.last (text ++ 10 ∷ []) text [] line
      g.clean (record { parts = refl; clean = cut.clean }) (is ∙ on.last) in
      let j : IsJust (Takes old.stage line) new.stage = subst (λ (s : Stage). IsJust (Takes s line) new.stage)
      on.stage f.one in
      let n : new.taken ≡ old.taken + 1 = f.counted ∙ ap (λ (m : ℕ). m + 1) on.taken in
      holds_by (bytes ++ (text ++ 10 ∷ [])) (all ++ said k new.numbers ∷ []) new None (same ∙ on.misfit ∙ none)
      (subst (Going (bytes ++ (text ++ 10 ∷ [])) (all ++ said k new.numbers ∷ []) new.stage new.taken)
      (sym out) (record {
        walked = walk_more (bytes ++ (text ++ 10 ∷ [])) old.stage old.taken (old.last ++ (text ++ 10 ∷ [])) line []
            new.stage new.taken x c j n;
        clean = tt;
        says =
            let a : AreSaid x.before all = subst (λ (b : List (List ℕ)). AreSaid b all)
            (sym (extend_before bytes old.stage old.taken old.last (text ++ 10 ∷ []) g.walked)) g.says in
            subst (λ (b : List (List ℕ)). AreSaid b (all ++ said k new.numbers ∷ []))
            (sym (more_before (bytes ++ (text ++ 10 ∷ [])) old.stage old.taken (old.last ++ (text ++ 10 ∷ [])) line
            [] new.stage new.taken x c j n))
            (said_push x.before all line k new.numbers a f.said);
        order = order_push old.stage new.stage all line new.numbers k g.order
            (subst (λ (s : Stage). k ≡ kind_at s line) on.stage f.fits_stage) j.is;
      }));
  going = same ∙ on.misfit ∙ none;
  counted = f.counted ∙ ap (λ (m : ℕ). m + 1) on.taken;
}

-- ---- the start and the end

pub going_none : (s : Stage) (taken : ℕ) (last : List ℕ) → s ≡ stage.Start → taken ≡ 0 → last ≡ []
    → Going [] [] s taken last
going_none s taken last a b c =
    subst (λ (x : Stage). Going [] [] x taken last) (sym a)
    (subst (λ (x : ℕ). Going [] [] stage.Start x last) (sym b)
    (subst (λ (x : List ℕ). Going [] [] stage.Start 0 x) (sym c)
    (record {
      walked = walk_start [];
      clean = tt;
      says = subst (λ (b : List (List ℕ)). AreSaid b [])
          (sym (start_before [])) tt;
      order = order_none;
    })))

told_misfit : (bytes : List ℕ) (number : ℕ) → Stuck bytes number ⊎ Overlong bytes number → IsFirstMisfit bytes number
told_misfit bytes number (inl t) = misfit bytes t.s t.taken t.rest t.text t.after number
    t.walked t.cut t.no_next t.counted
told_misfit bytes number (inr t) = overlong bytes t.s t.taken t.rest t.front t.after number
    t.walked t.parts t.clean t.long t.counted

pub tells_found : (kept : HeldText) (found : Option ℕ) → found ≢ None → kept.misfit ≡ found → Tells kept found
tells_found kept None some e = absurd (some refl)
tells_found kept (Some number) some e =
    record { each = λ bytes all h. told_misfit bytes number (subst (HoldsOr bytes all kept) e h) }

pub tells_missing : (kept : HeldText) (number : ℕ) → kept.misfit ≡ None → (kept.last ≡ [] → kept.stage ≡ stage.Done → ⊥)
    → number ≡ kept.taken + 1 → Tells kept (Some number)
tells_missing kept number e f n =
    record {
      each = λ bytes all h.
          (let g = going bytes all kept e h in
          unended bytes kept.stage kept.taken kept.last number g.walked g.clean f n);
    }

pub tells_whole : (kept : HeldText) → kept.misfit ≡ None → kept.last ≡ [] → kept.stage ≡ stage.Done → Tells kept None
tells_whole kept e f d = record {
  each = λ bytes all h.
      let g = going bytes all kept e h in
      let c = whole bytes kept.stage kept.taken kept.last g.walked f d in
      record {
        certificate = c.0;
        text = c.1;
        says = λ other t. said_is g.walked.before all other g.says g.order.ordered t.in_range
            (sym (whole_lines bytes kept.stage kept.taken kept.last g.walked f other t));
      };
}
