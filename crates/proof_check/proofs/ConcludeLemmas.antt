-- The verdict at the end, and that no other is right.
use Rattle.std.proofs.Common.{◌≡◌, ℕ, List, length, sym, ap, subst, ◌∙◌}
use Rattle.std.specs.Prelude.{Bool, true, false, MatchBool, MatchOption, Option, Some, None}
use Rattle.cave_model.specs.Cave.{Cave}
use Rattle.cave_model.specs.Regions.{all_cells}
use Rattle.proof_rules.specs.Certificate.{Certificate, torches_of}
use Rattle.proof_rules.specs.Text.{IsTextOf, IsFirstMisfit}
use Rattle.certificate_lines.specs.Held.{IsWhole, Tells}
use Rattle.certificate_lines.specs.Said.{said_of}
use Rattle.certificate_lines.proofs.Unique.{one_misfit}
use Rattle.proof_check.specs.Accepted.{Proves}
use Rattle.proof_check.specs.Ending.{Ends}
use Rattle.proof_check.specs.Refused.{IsReasonOf, IsRefused}
use Rattle.proof_check.specs.Tried.{Differs, IsHeard, Tried, IsTheVerdict, Concludes}
use Rattle.proof_check.specs.Verdict.{IsVerdictOf}
use Rattle.proof_check.specs.declared.reason.Reason.{Reason}
use Rattle.proof_check.specs.declared.reason.Reason.TheVariants.{Syntax, WrongBox, IllegalPlace, LeftDark, BadRegions}
use Rattle.proof_check.specs.declared.reason.Reason.TheVariants.{BadNode, TooWeak}
use Rattle.proof_check.specs.declared.trial.Trial.{Trial}
use Rattle.proof_check.specs.declared.verdict.Verdict.{Verdict}
use Rattle.proof_check.specs.declared.verdict.Verdict.TheVariants.{Accepted, Rejected}
use Rattle.proof_check.proofs.ReasonLemmas.{one_reason}
use Rattle.proof_check.proofs.RefusalLemmas.{reason_refutes}
use Rattle.proof_check.proofs.SayLemmas.{torches_said, of_agreeing, differing}

-- of a text that is a certificate: a reason against it refuses the bytes
refuses : (cave : Cave) (bytes : List ℕ) (c : Certificate) (reason : Reason) → IsTextOf bytes c
    → IsReasonOf cave c reason → IsRefused cave bytes reason
refuses cave bytes c (Syntax line) t r = absurd r
refuses cave bytes c WrongBox t r = (c, t, r)
refuses cave bytes c (IllegalPlace cell) t r = (c, t, r)
refuses cave bytes c (LeftDark cell) t r = (c, t, r)
refuses cave bytes c (BadRegions cell) t r = (c, t, r)
refuses cave bytes c (BadNode line) t r = (c, t, r)
refuses cave bytes c (TooWeak line) t r = (c, t, r)

-- and bytes that are refused have one, of some certificate
refused_by : (cave : Cave) (bytes : List ℕ) (c : Certificate) (reason : Reason) → IsTextOf bytes c
    → IsRefused cave bytes reason → (other : Certificate) × IsTextOf bytes other × IsReasonOf cave other reason
refused_by cave bytes c (Syntax line) t r = absurd (r.unfinished c t)
refused_by cave bytes c WrongBox t r = r
refused_by cave bytes c (IllegalPlace cell) t r = r
refused_by cave bytes c (LeftDark cell) t r = r
refused_by cave bytes c (BadRegions cell) t r = r
refused_by cave bytes c (BadNode line) t r = r
refused_by cave bytes c (TooWeak line) t r = r

-- equal reasons give equal verdicts
same_reason : (r s : Reason) → r ≡ s → Rejected r ≡ Rejected s
same_reason r s e = ap Rejected e

-- ---- no certificate

-- bytes with a first misfit have no other verdict than that line's
misfit_only : (cave : Cave) (bytes : List ℕ) (line : ℕ) → IsFirstMisfit bytes line → (other : Verdict)
    → IsVerdictOf cave bytes other → Rejected (Syntax line) ≡ other
misfit_only cave bytes line m (Accepted n) v = absurd (m.unfinished v.0 v.1.text)
misfit_only cave bytes line m (Rejected (Syntax k)) v = ap (λ (n : ℕ). Rejected (Syntax n))
    (one_misfit bytes line k m v)
misfit_only cave bytes line m (Rejected WrongBox) v = absurd (m.unfinished v.0 v.1)
misfit_only cave bytes line m (Rejected (IllegalPlace cell)) v = absurd (m.unfinished v.0 v.1)
misfit_only cave bytes line m (Rejected (LeftDark cell)) v = absurd (m.unfinished v.0 v.1)
misfit_only cave bytes line m (Rejected (BadRegions cell)) v = absurd (m.unfinished v.0 v.1)
misfit_only cave bytes line m (Rejected (BadNode k)) v = absurd (m.unfinished v.0 v.1)
misfit_only cave bytes line m (Rejected (TooWeak k)) v = absurd (m.unfinished v.0 v.1)

-- where the pieces tell of a misfit, the verdict is that line's
pub concludes_misfit : (cave : Cave) (t : Trial) (line : ℕ) → Tells t.pieces (Some line)
    → Concludes cave t (Rejected (Syntax line))
concludes_misfit cave t line tells = record {
  each = λ bytes tried. (let m = tells.each bytes tried.all tried.holds in
      record { is = m; only = misfit_only cave bytes line m });
}

-- ---- a certificate

-- each certificate of the bytes has this reason against it
rejects : (cave : Cave) (bytes : List ℕ) (c : Certificate) (reason : Reason) → IsTextOf bytes c
    → ((other : Certificate) → IsTextOf bytes other → IsReasonOf cave other reason)
    → IsTheVerdict cave bytes (Rejected reason)
rejects cave bytes c reason text each =
    record { is = refuses cave bytes c reason text (each c text); only = only } where
      only : (other : Verdict) → IsVerdictOf cave bytes other → Rejected reason ≡ other
      only (Accepted n) v = absurd (reason_refutes cave v.0 reason (each v.0 v.1.text) v.1.proves)
      only (Rejected r) v = (let o = refused_by cave bytes c r text v in
          same_reason reason r (one_reason cave o.0 reason r (each o.0 o.1) o.2))

-- each proves its torches the fewest
accepts : (cave : Cave) (bytes : List ℕ) (c : Certificate) (torches : ℕ) → IsTextOf bytes c
    → ((other : Certificate) → IsTextOf bytes other
    → Proves cave other × (length (torches_of other.sections) ≡ torches))
    → IsTheVerdict cave bytes (Accepted torches)
accepts cave bytes c torches text each =
    record { is = (let e = each c text in (c, record { text = text; proves = e.0 }, e.1)); only = only } where
      only : (other : Verdict) → IsVerdictOf cave bytes other → Accepted torches ≡ other
      only (Accepted n) v = (let e = each v.0 v.1.text in ap Accepted (sym e.1 ∙ v.2))
      only (Rejected r) v = (let o = refused_by cave bytes c r text v in
          absurd (reason_refutes cave o.0 r o.2 (each o.0 o.1).0))

-- a whole certificate of another box or rule is refused for it
pub concludes_box : (cave : Cave) (t : Trial) → Tells t.pieces None → t.differs ≡ true
    → Concludes cave t (Rejected WrongBox)
concludes_box cave t tells same = record {
  each = λ bytes tried.
      let w = tells.each bytes tried.all tried.holds in
      let d = subst (λ (d : Bool). MatchBool d (Differs cave tried.all) (IsHeard cave t.judge t.torches tried.all)) same
      tried.follows in
      rejects cave bytes w.certificate WrongBox
      w.text (λ other text. differing cave other (subst (Differs cave) (w.says other text) d));
}

-- what was heard of a certificate of this cave's box and rule
module _ (cave : Cave) (t : Trial) (bytes : List ℕ) (tried : Tried cave bytes t) (same : t.differs ≡ false)
    (w : IsWhole bytes tried.all) (other : Certificate) (text : IsTextOf bytes other) where
  heard : IsHeard cave t.judge t.torches (said_of other)
  heard = subst (IsHeard cave t.judge t.torches) (w.says other text)
      (subst (λ (d : Bool). MatchBool d (Differs cave tried.all) (IsHeard cave t.judge t.torches tried.all)) same
      tried.follows)

  ended : (result : Option Reason) → Ends cave t.judge result
      → MatchOption result (Proves cave other) (IsReasonOf cave other)
  ended result ends = ends.each other text.in_range (of_agreeing cave other heard.agrees) heard.after

  counted : length (torches_of other.sections) ≡ t.torches
  counted = ap (λ (p : List (List ℕ)). length (all_cells p)) (sym (torches_said other)) ∙ sym heard.counted

-- a reason that the judge ends with is the verdict
pub concludes_reason : (cave : Cave) (t : Trial) (reason : Reason) → Tells t.pieces None → t.differs ≡ false
    → Ends cave t.judge (Some reason) → Concludes cave t (Rejected reason)
concludes_reason cave t reason tells same ends = record {
  each = λ bytes tried.
      let w = tells.each bytes tried.all tried.holds in
      rejects cave bytes w.certificate reason
      w.text (λ other text. ended cave t bytes tried same w other text (Some reason) ends);
}

-- where the judge ends with no reason, the certificate is accepted with its number of torches
pub concludes_none : (cave : Cave) (t : Trial) → Tells t.pieces None → t.differs ≡ false → Ends cave t.judge None
    → Concludes cave t (Accepted t.torches)
concludes_none cave t tells same ends = record {
  each = λ bytes tried.
      let w = tells.each bytes tried.all tried.holds in
      accepts cave bytes w.certificate t.torches w.text
      (λ other text. (
        ended cave t bytes tried same w other text None ends,
        counted cave t bytes tried same w other text,
      ));
}
