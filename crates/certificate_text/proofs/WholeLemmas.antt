-- The text of a certificate from that of its parts.
use Rattle.std.proofs.Common.{◌≡◌, ℕ, List, [], ◌∷◌, ◌++◌, length, map, Option, Result, Ok, Err, codes, refl, sym, ap}
use Rattle.std.proofs.Common.{◌<◌, subst, ◌∙◌, append_assoc, length-append, arith}
use Rattle.std.specs.Prelude.{OnErr}
use Rattle.std.specs.List.{flat_map}
use Rattle.std.specs.Io.KnownBytes.{Appends}
use Rattle.std.proofs.lemmas.Grind.{flat_map-append}
use Rattle.std.proofs.lemmas.List.{length-map}
use Rattle.std.proofs.lemmas.List.Elements.{All-weaker}
use Rattle.cave_model.specs.Cave.{Cave}
use Rattle.cave_model.specs.Coverage.{Coverage}
use Rattle.set_cover.specs.Instance.{of_instance}
use Rattle.proof_rules.specs.Tree.{Tree, Forest, leaf, weighted, branch, bar, omit, pick, none, more}
use Rattle.proof_rules.specs.Omitted.{left_without}
use Rattle.proof_rules.specs.Good.{Good, AreGood}
use Rattle.proof_rules.specs.Text.{ended, line, head_lines, section_lines}
use Rattle.certificate_text.specs.Heading.{heading_text}
use Rattle.certificate_text.specs.Lines.{HasDistinctCells, HaveDistinctCells}
use Rattle.certificate_text.specs.Planned.{Plan, section_of, version_of, certificate_text, IsBestOf, AreBestOf}
use Rattle.certificate_text.specs.Sections.{IsWritable, AreWritable, section_text, sections_text, body_text}
use Rattle.certificate_text.specs.Writing.{AppendsFront, Passes}
use Rattle.certificate_text.proofs.WritingLemmas.{then_appends}

-- the sections and the last line
pub body_is : (plans : List Plan) → sections_text plans ++ codes "end\n" ≡ body_text plans
unfolding body_text
body_is plans = refl

-- the sections one after another
sections_ended : (plans : List Plan) → ended (flat_map section_lines (map section_of plans)) ≡ sections_text plans
sections_ended [] = refl
sections_ended (plan ∷ plans) =
    flat_map-append (λ text. text ++ 10 ∷ []) (section_lines (section_of plan))
    (flat_map section_lines (map section_of plans))
    ∙ ap (λ (l : List ℕ). section_text plan ++ l) (sections_ended plans)

-- the lines after the heading
rest_ended : (plans : List Plan) → ended (flat_map section_lines (map section_of plans) ++ codes "end" ∷ []) ≡
    body_text plans
rest_ended plans =
    flat_map-append (λ text. text ++ 10 ∷ []) (flat_map section_lines (map section_of plans)) (codes "end" ∷ [])
    ∙ ap (λ (l : List ℕ). l ++ codes "end\n") (sections_ended plans) ∙ body_is plans

-- heading and body make lines
joined : (heads : List (List ℕ)) (regions : List ℕ) (rest : List (List ℕ))
    → ended (heads ++ regions ∷ []) ++ ended rest ≡ ended (heads ++ regions ∷ rest)
joined heads regions rest =
    sym (flat_map-append (λ text. text ++ 10 ∷ []) (heads ++ regions ∷ []) rest)
    ∙ ap ended (append_assoc heads (regions ∷ []) rest)

-- the heading and the body
pub certificate_is : (cave : Cave) (plans : List Plan)
    → heading_text cave (length plans) (version_of cave.rule.need plans) ++ body_text plans
    ≡ certificate_text cave plans
certificate_is cave plans =
    ap (λ (l : List ℕ). heading_text cave (length plans) (version_of cave.rule.need plans) ++ l)
    (sym (rest_ended plans))
    ∙ joined (head_lines (version_of cave.rule.need plans)
    (line (codes "box") (cave.size.x ∷ cave.size.y ∷ cave.size.z ∷ []))
    (line (codes "headroom") (cave.rule.headroom ∷ [])))
    (line (codes "regions") (length plans ∷ [])) (flat_map section_lines (map section_of plans) ++ codes "end" ∷ [])
    ∙ ap (λ (n : ℕ). ended (head_lines (version_of cave.rule.need plans)
    (line (codes "box") (cave.size.x ∷ cave.size.y ∷ cave.size.z ∷ []))
    (line (codes "headroom") (cave.rule.headroom ∷ []))
    ++ line (codes "regions") (n ∷ []) ∷ (flat_map section_lines (map section_of plans) ++ codes "end" ∷ [])))
    (sym (length-map plans section_of))

-- it isn't empty
pub certificate_some : (cave : Cave) (plans : List Plan) → 0 < length (certificate_text cave plans)
certificate_some cave plans =
    let heading = heading_text cave (length plans) (version_of cave.rule.need plans) in
    let body = ap length (body_is plans) in
    let end : 0 < length (codes "end\n") = omega arith in
    omega (
      arith,
      ap length (certificate_is cave plans),
      length-append heading (body_text plans),
      body,
      length-append (sections_text plans) (codes "end\n"),
    )

-- ---- what a good tree keeps

mutual
  pub good_distinct : (coverage : Coverage) (cells chosen barred : List ℕ) (floor : ℕ) (tree : Tree)
      → Good coverage cells chosen barred floor tree → HasDistinctCells tree
  good_distinct coverage cells chosen barred floor (leaf these) g = g.0.distinct
  good_distinct coverage cells chosen barred floor (weighted groups) g = tt
  good_distinct coverage cells chosen barred floor (branch cell kids) g =
      all_distinct coverage cells chosen barred floor g.1 kids g.3
  good_distinct coverage cells chosen barred floor (bar place by kid) g =
      good_distinct coverage cells chosen (barred ++ place ∷ []) floor kid g.1
  good_distinct coverage cells chosen barred floor (omit these kid) g =
      good_distinct coverage (left_without these cells) chosen barred floor kid g.1
  good_distinct coverage cells chosen barred floor (pick place with without) g = (
    good_distinct coverage cells (chosen ++ place ∷ []) barred floor with g.1,
    good_distinct coverage cells chosen (barred ++ place ∷ []) floor without g.2,
  )

  all_distinct : (coverage : Coverage) (cells chosen barred : List ℕ) (floor : ℕ) (places : List ℕ) (trees : Forest)
      → AreGood coverage cells chosen barred floor places trees → HaveDistinctCells trees
  all_distinct coverage cells chosen barred floor [] none g = tt
  all_distinct coverage cells chosen barred floor [] (more t ts) g = absurd g
  all_distinct coverage cells chosen barred floor (p ∷ ps) none g = absurd g
  all_distinct coverage cells chosen barred floor (p ∷ ps)
      (more t ts) g = (
        good_distinct coverage cells (chosen ++ p ∷ []) barred floor t g.0,
        all_distinct coverage cells
            chosen (barred ++ p ∷ []) floor ps ts g.1,
      )

-- a plan of fewest torches can be written
best_writable : (cave : Cave) (plan : Plan) → IsBestOf cave plan → IsWritable plan
best_writable cave plan best = record {
  torches = best.cover.distinct;
  leaves = good_distinct (of_instance plan.region) plan.region.cells [] [] (length plan.torches) plan.tree best.good;
}

-- and so can a list of such plans
pub best_are_writable : (cave : Cave) (plans : List Plan) → AreBestOf cave plans → AreWritable plans
best_are_writable cave plans best = All-weaker (IsBestOf cave) IsWritable (λ plan is. best_writable cave plan is) plans
    best.each

-- ---- the last of the buffer

-- a text on its way whose rest the writer takes at the end is taken whole
pub all_taken : (a b c : Option (List ℕ)) (had has text : List ℕ) → had ≡ [] → Passes a had b has text
    → Appends b c has → Appends a c text
all_taken a b c had has text empty p taken =
    subst (Appends a c) (sym (ap (λ (l : List ℕ). l ++ text) (sym empty) ∙ p.parts))
    (then_appends a b c p.front has p.taken taken)

-- and where a beginning of the rest is taken, a beginning of the text is
pub front_of_rest : (a b c : Option (List ℕ)) (had has text : List ℕ) → had ≡ [] → Passes a had b has text
    → AppendsFront b c has → AppendsFront a c text
front_of_rest a b c had has text empty p (front, rest, left, parts, taken) = (
  p.front ++ front,
  rest,
  left,
  ap (λ (l : List ℕ). l ++ text) (sym empty) ∙ p.parts
      ∙ ap (λ (l : List ℕ). p.front ++ l) parts
      ∙ sym (append_assoc p.front front rest),
  then_appends a b c p.front front p.taken taken,
)

-- with nothing in the buffer before, a beginning of both is one of the text
pub front_of_empty : (a b : Option (List ℕ)) (had text : List ℕ) → had ≡ [] → AppendsFront a b (had ++ text)
    → AppendsFront a b text
front_of_empty a b had text empty part = subst (λ (l : List ℕ). AppendsFront a b (l ++ text)) empty part

-- where the writer fails at the rest, a beginning of the text was taken
pub front_where_failed : {X E : Type 0} (r : Result X E) (a b c : Option (List ℕ)) (had has text : List ℕ) → had ≡ []
    → Passes a had b has text → OnErr r (AppendsFront b c has) → OnErr r (AppendsFront a c text)
front_where_failed (Ok x) a b c had has text empty p failed = tt
front_where_failed (Err e) a b c had has text empty p failed = front_of_rest a b c had has text empty p failed
