-- The lines that lead from the start to the end are those of the certificates in range.
use Rattle.std.proofs.Common.{◌≡◌, ℕ, ◌+◌, ◌<◌, ◌≤◌, ◌⊎◌, inl, inr, List, [], ◌∷◌, ◌++◌, length, All, refl, sym}
use Rattle.std.proofs.Common.{subst, ap, arith, ◌∙◌}
use Rattle.std.specs.Prelude.{zero, suc, IsTrue, codes, flat_map}
use Rattle.std.proofs.lemmas.Fmt.{decimal_digit}
use Rattle.cave_base.specs.Box.{Point, cell_count, is_small}
use Rattle.proof_rules.specs.Certificate.{Section, Certificate, Version, version_number, need_of, IsInRange}
use Rattle.proof_rules.specs.Certificate.{IsSectionIn, IsKnownTo}
use Rattle.proof_rules.specs.Certificate as certificates
use Rattle.proof_rules.specs.Text.{line, section_lines, head_lines, lines_of}
use Rattle.certificate_lines.specs.Steps.{Leads, after_headroom}
use Rattle.certificate_lines.specs.declared.stage.Stage.{Stage}
use Rattle.certificate_lines.specs.declared.stage.Stage.TheVariants as stage
use Rattle.certificate_lines.proofs.Rest.{SectionsRest}
use Rattle.certificate_lines.proofs.Sound.{left}
use Rattle.certificate_lines.proofs.Complete.{leads_sections}

-- ---- the first line
magic : (n : ℕ) → n < 10 → line (codes "torchproof") (n ∷ []) ≡ codes "torchproof " ++ (48 + n) ∷ []
magic n h = rw decimal_digit

pub magic_first : line (codes "torchproof") (1 ∷ []) ≡ codes "torchproof 1"
magic_first = magic 1 (omega arith)

pub magic_second : line (codes "torchproof") (2 ∷ []) ≡ codes "torchproof 2"
magic_second = magic 2 (omega arith)

pub magic_third : line (codes "torchproof") (3 ∷ []) ≡ codes "torchproof 3"
magic_third = magic 3 (omega arith)

pub magic_fourth : line (codes "torchproof") (4 ∷ []) ≡ codes "torchproof 4"
magic_fourth = magic 4 (omega arith)

-- ---- from the lines to a certificate

record RegionsRest (version count : ℕ) (lines : List (List ℕ)) : Type 0 where
  sections : List Section
  few : length sections ≤ count
  each : All (IsSectionIn count) sections
  known : All (λ section. IsKnownTo version section.tree) sections
  is : lines ≡ line (codes "regions") (length sections ∷ []) ∷ (flat_map section_lines sections ++ codes "end" ∷ [])

regions_left : (version : ℕ) (count : ℕ) (lines : List (List ℕ)) → Leads lines (stage.Regions version count) stage.Done
    → RegionsRest version count lines
regions_left version count [] h = absurd (cc)
regions_left version count (text ∷ ls) (next, (numbers, e, (k, ns, few, nx)), rest) =
    let r : SectionsRest version count k ls = left ls (stage.Region version count k)
    (subst (λ (s : Stage). Leads ls s stage.Done) nx rest) in
    record {
      sections = r.sections;
      few = omega (arith, r.many);
      each = r.each;
      known = r.known;
      is = cons_same text ls (line (codes "regions") (length r.sections ∷ []))
          (flat_map section_lines r.sections ++ codes "end" ∷ [])
          (e ∙ ap (λ (ns : List ℕ). line (codes "regions") ns) ns ∙ ap (λ (m : ℕ). line (codes "regions") (m ∷ []))
          (sym r.many)) r.is;
    } where
      cons_same : (text : List ℕ) (ls : List (List ℕ)) (a : List ℕ) (b : List (List ℕ)) → text ≡ a → ls ≡ b
          → text ∷ ls ≡ a ∷ b
      cons_same text ls a b e f = cc

pub record WholeRest (lines : List (List ℕ)) : Type 0 where
  pub certificate : Certificate
  pub in_range : IsInRange certificate
  pub is : lines ≡ lines_of certificate

either : (k : ℕ) (a b : ℕ) (numbers : List ℕ) → (numbers ≡ a ∷ []) ⊎ (numbers ≡ b ∷ [])
    → (n : ℕ) × (numbers ≡ n ∷ []) × ((n ≡ a) ⊎ (n ≡ b))
either k a b numbers (inl e) = (a, e, inl refl)
either k a b numbers (inr e) = (b, e, inr refl)

-- of the first version
with_first : (t1 t2 t3 : List ℕ) (ls : List (List ℕ)) (size : Point) (headroom : ℕ) → t1 ≡ codes "torchproof 1"
    → t2 ≡ line (codes "box") (size.x ∷ size.y ∷ size.z ∷ []) → t3 ≡ line (codes "headroom") (headroom ∷ [])
    → IsTrue (is_small size) → (headroom ≡ 1) ⊎ (headroom ≡ 2) → RegionsRest 1 (cell_count size) ls
    → WholeRest (t1 ∷ t2 ∷ t3 ∷ ls)
with_first t1 t2 t3 ls size headroom e1 e2 e3 small ruled r = record {
  certificate = record { version = certificates.first; size = size; headroom = headroom; sections = r.sections };
  in_range = record {
    small = small;
    ruled = ruled;
    versioned = record { known = r.known; needed = inl refl };
    few = r.few;
    each = r.each;
  };
  is = let f = r.is in cc;
}

-- of a later one, whose lines at the head have a need
with_need : (version : Version) (t1 t2 t3 t4 : List ℕ) (ls : List (List ℕ)) (size : Point) (headroom : ℕ)
    → ((box ruled : List ℕ) → head_lines version box ruled
    ≡ t1 ∷ box ∷ ruled ∷ line (codes "need") (need_of version ∷ []) ∷ [])
    → t2 ≡ line (codes "box") (size.x ∷ size.y ∷ size.z ∷ []) → t3 ≡ line (codes "headroom") (headroom ∷ [])
    → t4 ≡ line (codes "need") (need_of version ∷ [])
    → IsTrue (is_small size) → (headroom ≡ 1) ⊎ (headroom ≡ 2) → (need_of version ≡ 1) ⊎ (need_of version ≡ 8)
    → RegionsRest (version_number version) (cell_count size) ls → WholeRest (t1 ∷ t2 ∷ t3 ∷ t4 ∷ ls)
with_need version t1 t2 t3 t4 ls size headroom head e2 e3 e4 small ruled needed r = record {
  certificate = record { version = version; size = size; headroom = headroom; sections = r.sections };
  in_range = record {
    small = small;
    ruled = ruled;
    versioned = record { known = r.known; needed = needed };
    few = r.few;
    each = r.each;
  };
  is =
      let f = r.is in
      let h = head (line (codes "box") (size.x ∷ size.y ∷ size.z ∷ [])) (line (codes "headroom") (headroom ∷ [])) in
      cc;
}

need_step : (version : ℕ) (t1 t2 t3 : List ℕ) (ls : List (List ℕ)) (size : Point)
    → ((t4 : List ℕ) (ls : List (List ℕ)) (need : ℕ) → t4 ≡ line (codes "need") (need ∷ []) → (need ≡ 1) ⊎ (need ≡ 8)
    → RegionsRest version (cell_count size) ls → WholeRest (t1 ∷ t2 ∷ t3 ∷ t4 ∷ ls))
    → Leads ls (stage.Need version (cell_count size)) stage.Done → WholeRest (t1 ∷ t2 ∷ t3 ∷ ls)
need_step version t1 t2 t3 [] size with h = absurd (cc)
need_step version t1 t2 t3 (t4 ∷ ls) size with (next, (numbers, e, (which, nx)), rest) =
    let n = either 0 1 8 numbers which in
    with t4 ls n.0 (e ∙ ap (λ (ns : List ℕ). line (codes "need") ns) n.1) n.2
    (regions_left version (cell_count size) ls (subst (λ (s : Stage). Leads ls s stage.Done) nx rest))

-- the lines at the head, up to the need
headed : (t1 box ruled : List ℕ) (need : ℕ) (first : List ℕ) → t1 ≡ first
    → first ∷ box ∷ ruled ∷ line (codes "need") (need ∷ []) ∷ []
    ≡ t1 ∷ box ∷ ruled ∷ line (codes "need") (need ∷ []) ∷ []
headed t1 box ruled need first e = ap (λ (t : List ℕ). t ∷ box ∷ ruled ∷ line (codes "need") (need ∷ []) ∷ []) (sym e)

headroom_step : (version : ℕ) (t1 t2 : List ℕ) (ls : List (List ℕ)) (size : Point)
    → t1 ≡ line (codes "torchproof") (version ∷ []) → 0 < version → version ≤ 4
    → t2 ≡ line (codes "box") (size.x ∷ size.y ∷ size.z ∷ [])
    → IsTrue (is_small size) → Leads ls (stage.Headroom version (cell_count size)) stage.Done → WholeRest (t1 ∷ t2 ∷ ls)
headroom_step version t1 t2 [] size e1 some most e2 small h = absurd (cc)
headroom_step zero t1 t2 (t3 ∷ ls) size e1 some most e2 small h = absurd (omega arith)
headroom_step (suc zero) t1 t2 (t3 ∷ ls) size e1 some most e2 small (next, (numbers, e, (which, nx)), rest) =
    let n = either 0 1 2 numbers which in
    with_first t1 t2 t3 ls size n.0 (e1 ∙ magic_first) e2
    (e ∙ ap (λ (ns : List ℕ). line (codes "headroom") ns) n.1) small n.2
    (regions_left 1 (cell_count size) ls (subst (λ (s : Stage). Leads ls s stage.Done) nx rest))
headroom_step (suc (suc zero)) t1 t2 (t3 ∷ ls) size e1 some most e2 small (next, (numbers, e, (which, nx)), rest) =
    let n = either 0 1 2 numbers which in
    need_step 2 t1 t2 t3 ls size
    (λ t4 ls need e4 needed r. with_need (certificates.second need) t1 t2 t3 t4 ls size n.0
    (λ box ruled. headed t1 box ruled need (codes "torchproof 2") (e1 ∙ magic_second)) e2
    (e ∙ ap (λ (ns : List ℕ). line (codes "headroom") ns) n.1) e4 small n.2 needed r)
    (subst (λ (s : Stage). Leads ls s stage.Done) nx rest)
headroom_step (suc (suc (suc zero))) t1 t2 (t3 ∷ ls) size e1 some most e2 small
    (next, (numbers, e, (which, nx)), rest) =
    let n = either 0 1 2 numbers which in
    need_step 3 t1 t2 t3 ls size
    (λ t4 ls need e4 needed r. with_need (certificates.third need) t1 t2 t3 t4 ls size n.0
    (λ box ruled. headed t1 box ruled need (codes "torchproof 3") (e1 ∙ magic_third)) e2
    (e ∙ ap (λ (ns : List ℕ). line (codes "headroom") ns) n.1) e4 small n.2 needed r)
    (subst (λ (s : Stage). Leads ls s stage.Done) nx rest)
headroom_step (suc (suc (suc (suc zero)))) t1 t2 (t3 ∷ ls) size e1 some most e2 small
    (next, (numbers, e, (which, nx)), rest) =
    let n = either 0 1 2 numbers which in
    need_step 4 t1 t2 t3 ls size
    (λ t4 ls need e4 needed r. with_need (certificates.fourth need) t1 t2 t3 t4 ls size n.0
    (λ box ruled. headed t1 box ruled need (codes "torchproof 4") (e1 ∙ magic_fourth)) e2
    (e ∙ ap (λ (ns : List ℕ). line (codes "headroom") ns) n.1) e4 small n.2 needed r)
    (subst (λ (s : Stage). Leads ls s stage.Done) nx rest)
headroom_step (suc (suc (suc (suc (suc k))))) t1 t2 (t3 ∷ ls) size e1 some most e2 small h = absurd (omega arith)

box_step : (version : ℕ) (t1 : List ℕ) (ls : List (List ℕ)) → t1 ≡ line (codes "torchproof") (version ∷ [])
    → 0 < version → version ≤ 4 → Leads ls (stage.Box version) stage.Done → WholeRest (t1 ∷ ls)
box_step version t1 [] e1 some most h = absurd (cc)
box_step version t1 (t2 ∷ ls) e1 some most (next, (numbers, e, (size, ns, small, nx)), rest) =
    headroom_step version t1 t2 ls size e1 some most (e ∙ ap (λ (ns : List ℕ). line (codes "box") ns) ns) small
    (subst (λ (s : Stage). Leads ls s stage.Done) nx rest)

pub certificate_of : (lines : List (List ℕ)) → Leads lines stage.Start stage.Done → WholeRest lines
certificate_of [] h = absurd (cc)
certificate_of (t1 ∷ ls) (next, (numbers, e, (version, ns, some, most, nx)), rest) = box_step version t1 ls
    (e ∙ ap (λ (ns : List ℕ). line (codes "torchproof") ns) ns) some most
    (subst (λ (s : Stage). Leads ls s stage.Done) nx rest)

-- ---- from a certificate to its lines

alone : (a b n : ℕ) → (n ≡ a) ⊎ (n ≡ b) → (n ∷ [] ≡ a ∷ []) ⊎ (n ∷ [] ≡ b ∷ [])
alone a b n (inl e) = inl (ap (λ (m : ℕ). m ∷ []) e)
alone a b n (inr e) = inr (ap (λ (m : ℕ). m ∷ []) e)

leads_regions : (version count : ℕ) (sections : List Section) → length sections ≤ count
    → All (IsSectionIn count) sections → All (λ section. IsKnownTo version section.tree) sections
    → Leads (line (codes "regions") (length sections ∷ []) ∷ (flat_map section_lines sections ++ codes "end" ∷ []))
    (stage.Regions version count) stage.Done
leads_regions version count sections few each known = (
  stage.Region version count (length sections),
  (length sections ∷ [], refl, (length sections, refl, few, refl)),
  leads_sections version count sections each known,
)

-- with a version from the second on, and a need
leads_later : (version need : ℕ) (first : List ℕ) (size : Point) (headroom : ℕ) (sections : List Section)
    → first ≡ line (codes "torchproof") (version ∷ []) → 0 < version → version ≤ 4
    → stage.Need version (cell_count size) ≡ after_headroom version (cell_count size) → IsTrue (is_small size)
    → (headroom ≡ 1) ⊎ (headroom ≡ 2) → (need ≡ 1) ⊎ (need ≡ 8) → length sections ≤ cell_count size
    → All (IsSectionIn (cell_count size)) sections → All (λ section. IsKnownTo version section.tree) sections
    → Leads (first ∷ line (codes "box") (size.x ∷ size.y ∷ size.z ∷ []) ∷ line (codes "headroom") (headroom ∷ [])
    ∷ line (codes "need") (need ∷ []) ∷ line (codes "regions") (length sections ∷ [])
    ∷ (flat_map section_lines sections ++ codes "end" ∷ [])) stage.Start stage.Done
leads_later version need first size headroom sections e some most next small ruled needed few each known = (
  stage.Box version,
  (version ∷ [], e, (version, refl, some, most, refl)),
  (
    stage.Headroom version (cell_count size),
    (size.x ∷ size.y ∷ size.z ∷ [], refl, (size, refl, small, refl)),
    (
      stage.Need version (cell_count size),
      (headroom ∷ [], refl, (alone 1 2 headroom ruled, next)),
      (
        stage.Regions version (cell_count size),
        (need ∷ [], refl, (alone 1 8 need needed, refl)),
        leads_regions version (cell_count size) sections few each known,
      ),
    ),
  ),
)

pub leads_whole : (version : Version) (size : Point) (headroom : ℕ) (sections : List Section)
    → IsInRange (record { version = version; size = size; headroom = headroom; sections = sections })
    → Leads (lines_of (record { version = version; size = size; headroom = headroom; sections = sections }))
    stage.Start stage.Done
leads_whole certificates.first size headroom sections r = (
  stage.Box 1,
  (1 ∷ [], sym magic_first, (1, refl, omega arith, omega arith, refl)),
  (
    stage.Headroom 1 (cell_count size),
    (size.x ∷ size.y ∷ size.z ∷ [], refl, (size, refl, r.small, refl)),
    (
      stage.Regions 1 (cell_count size),
      (headroom ∷ [], refl, (alone 1 2 headroom r.ruled, refl)),
      leads_regions 1 (cell_count size) sections r.few r.each r.versioned.known,
    ),
  ),
)
leads_whole (certificates.second need) size headroom sections r =
    leads_later 2 need (codes "torchproof 2") size headroom sections (sym magic_second) (omega arith) (omega arith)
    refl r.small r.ruled r.versioned.needed r.few r.each r.versioned.known
leads_whole (certificates.third need) size headroom sections r =
    leads_later 3 need (codes "torchproof 3") size headroom sections (sym magic_third) (omega arith) (omega arith)
    refl r.small r.ruled r.versioned.needed r.few r.each r.versioned.known
leads_whole (certificates.fourth need) size headroom sections r =
    leads_later 4 need (codes "torchproof 4") size headroom sections (sym magic_fourth) (omega arith) (omega arith)
    refl r.small r.ruled r.versioned.needed r.few r.each r.versioned.known
