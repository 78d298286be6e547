-- The first misfit is one, and a certificate has none.
use Rattle.std.proofs.Common.{◌≡◌, ℕ, suc, ◌⊎◌, inl, inr, List, [], ◌∷◌, ◌++◌, length, refl, sym, subst, ap, arith}
use Rattle.std.proofs.Common.{append_assoc, ◌∙◌}
use Rattle.std.specs.Prelude.{Option, Some, None, Result, Ok, Err, IfOk, MatchOption}
use Rattle.proof_rules.specs.Certificate.{Certificate}
use Rattle.proof_rules.specs.Text.{lines_of, ended, IsTextOf, AreFirstLines, IsFirstMisfit}
use Rattle.certificate_lines.proofs.Whole.{leads_whole}
use Rattle.certificate_lines.specs.Cuts.{AreClean}
use Rattle.certificate_lines.proofs.Feeds.{clean_leads, one_cut}
use Rattle.certificate_lines.specs.declared.stage.Stage.TheVariants as stage

pub clean_front : (a b : List (List ℕ)) → AreClean (a ++ b) → AreClean a
clean_front [] b h = tt
clean_front (l ∷ a) b h = (h.0, clean_front a b h.1)

first_clean : (lines : List (List ℕ)) → AreFirstLines lines → AreClean lines
first_clean lines f =
    let c = f.0 in
    clean_front lines f.2 (subst AreClean
    f.3 (clean_leads (lines_of c) stage.Start stage.Done tt
    (leads_whole c.version c.size c.headroom c.sections f.1)))

-- lines go on after others
pub record GoesOn (a b : List (List ℕ)) (rest : List ℕ) : Type 0 where
  pub next : List ℕ
  pub later : List (List ℕ)
  pub bytes : List ℕ
  pub is : b ≡ a ++ next ∷ later
  pub text : rest ≡ next ++ 10 ∷ bytes

-- lines that the same bytes begin with are as many, or those of one go on after those of the other
pub compare : (a b : List (List ℕ)) (r s : List ℕ) → AreClean a → AreClean b → ended a ++ r ≡ ended b ++ s
    → (length a ≡ length b) ⊎ (GoesOn a b r ⊎ GoesOn b a s)
compare [] [] r s n m e = inl refl
compare [] (l ∷ b) r s n m e =
    inr (inl (record { next = l; later = b; bytes = ended b ++ s; is = refl; text = e ∙ (simp append_assoc) }))
compare (l ∷ a) [] r s n m e =
    inr (inr (record { next = l; later = a; bytes = ended a ++ r; is = refl; text = sym e ∙ (simp append_assoc) }))
compare (l ∷ a) (k ∷ b) r s n m e =
    let f : ((l ++ 10 ∷ []) ++ ended a) ++ r ≡ l ++ 10 ∷ (ended a ++ r) = simp append_assoc in
    let g : ((k ++ 10 ∷ []) ++ ended b) ++ s ≡ k ++ 10 ∷ (ended b ++ s) = simp append_assoc in
    let c = one_cut l k (ended a ++ r) (ended b ++ s) n.0 m.0 (sym f ∙ e ∙ g) in
    elim (compare a b r s n.1 m.1 c.1) [
      | inl h ↦ inl (ap suc h)
      | inr h ↦ elim h [
        | inl g ↦ inr (inl (record {
          next = g.next;
          later = g.later;
          bytes = g.bytes;
          is = (let x = c.0 in let y = g.is in cc);
          text = g.text;
        }))
        | inr g ↦ inr (inr (record {
          next = g.next;
          later = g.later;
          bytes = g.bytes;
          is = (let x = c.0 in let y = g.is in cc);
          text = g.text;
        }))
      ]
    ]

no_further : (bytes : List ℕ) (n m : ℕ) (a : IsFirstMisfit bytes n) (b : IsFirstMisfit bytes m)
    → GoesOn a.before b.before a.rest → ⊥
no_further bytes n m a b g =
    let f = b.fits in
    a.breaks g.next g.bytes g.text (
      f.0,
      f.1,
      g.later ++ f.2,
      f.3 ∙ ap (λ (ls : List (List ℕ)). ls ++ f.2) g.is
          ∙ append_assoc a.before (g.next ∷ g.later) f.2 ∙ sym (append_assoc a.before (g.next ∷ []) (g.later ++ f.2)),
    )

pub one_misfit : (bytes : List ℕ) (n m : ℕ) → IsFirstMisfit bytes n → IsFirstMisfit bytes m → n ≡ m
one_misfit bytes n m a b = elim (compare a.before b.before a.rest b.rest (first_clean a.before a.fits)
    (first_clean b.before b.fits) (sym a.parts ∙ b.parts)) [
      | inl h ↦ omega (arith, a.counted, b.counted)
      | inr h ↦ elim h [
        | inl g ↦ absurd (no_further bytes n m a b g)
        | inr g ↦ absurd (no_further bytes m n b a g)
      ]
    ]

pub answers_whole : {E : Type 0} (bytes : List ℕ) (result : Result (Option ℕ) E)
    → IfOk result (λ r. MatchOption r ((certificate : Certificate) × IsTextOf bytes certificate)
    (λ line. IsFirstMisfit bytes line))
    → (certificate : Certificate) → IsTextOf bytes certificate → IfOk result (λ r. r ≡ None)
answers_whole bytes (Err e) h c t = tt
answers_whole bytes (Ok None) h c t = refl
answers_whole bytes (Ok (Some n)) h c t = absurd (h.unfinished c t)

pub answers_first : {E : Type 0} (bytes : List ℕ) (result : Result (Option ℕ) E)
    → IfOk result (λ r. MatchOption r ((certificate : Certificate) × IsTextOf bytes certificate)
    (λ line. IsFirstMisfit bytes line))
    → (line : ℕ) → IsFirstMisfit bytes line → IfOk result (λ r. r ≡ Some line)
answers_first bytes (Err e) h n m = tt
answers_first bytes (Ok None) h n m = absurd (m.unfinished h.0 h.1)
answers_first bytes (Ok (Some k)) h n m = ap (λ (l : ℕ). Some l) (one_misfit bytes k n h m)
