-- The version of a certificate of plans is the least that can speak of its sections.
use Rattle.std.proofs.Common.{◌≡◌, ℕ, ◌≤◌, Bool, true, false, List, [], ◌∷◌, map, All, refl, ap, subst, arith, inl}
use Rattle.std.proofs.Common.{inr, nat_eq, nat_le}
use Rattle.std.specs.Prelude.{if◌then◌else◌}
use Rattle.std.proofs.lemmas.Bool.Decides.{nat_tests}
use Rattle.std.proofs.lemmas.List.Elements.{All-head, All-tail}
use Rattle.cave_model.specs.Cave.{Cave}
use Rattle.proof_rules.specs.Tree.{Tree, Forest, leaf, weighted, branch, bar, omit, pick, none, more}
use Rattle.proof_rules.specs.Certificate.{Section, Version, first, second, third, fourth, version_number, need_of}
use Rattle.proof_rules.specs.Certificate.{IsKnownTo, AreKnownTo}
use Rattle.proof_rules.proofs.OmitLemmas.{bool_cases}
use Rattle.proof_tree.specs.Order.{ordered_tree, ordered_trees}
use Rattle.certificate_text.specs.Planned.{Plan, version_for, versions_for, plans_version, need_version, version_needed}
use Rattle.certificate_text.specs.Planned.{section_of, certificate_of}
use Rattle.cave_plan.specs.Best.{IsInLeastVersion}

mutual
  -- a version that knows a tree has the tree's number or a greater one
  tree_within : (version : ℕ) (tree : Tree) → 1 ≤ version → IsKnownTo version (ordered_tree tree)
      → version_for tree ≤ version
  tree_within version (leaf cells) some known = some
  tree_within version (weighted groups) some known = known
  tree_within version (branch cell kids) some known = trees_within version kids some known
  tree_within version (bar place by kid) some known =
      (let below = tree_within version kid some known.1 in let two = known.0 in omega (arith, below, two))
  tree_within version (omit cells kid) some known =
      (let below = tree_within version kid some known.1 in let three = known.0 in omega (arith, below, three))
  tree_within version (pick place with without) some known = known.0

  trees_within : (version : ℕ) (trees : Forest) → 1 ≤ version → AreKnownTo version (ordered_trees trees)
      → versions_for trees ≤ version
  trees_within version none some known = some
  trees_within version (more t ts) some known = (let first = tree_within version t some known.0 in
      let rest = trees_within version ts some known.1 in omega (arith, first, rest))

-- and one that knows the sections of plans has theirs
plans_within : (version : ℕ) (plans : List Plan) → 1 ≤ version
    → All (λ (section : Section). IsKnownTo version section.tree) (map section_of plans)
    → plans_version plans ≤ version
plans_within version [] some known = some
plans_within version (p ∷ ps) some known =
    let first = tree_within version p.tree some (All-head (λ (section : Section). IsKnownTo version section.tree)
    (section_of p) (map section_of ps) known) in
    let rest = plans_within version ps some (All-tail (λ (section : Section). IsKnownTo version section.tree)
    (section_of p) (map section_of ps) known) in
    omega (arith, first, rest)

-- each version has a number
some_version : (version : Version) → 1 ≤ version_number version
some_version first = omega arith
some_version (second need) = omega arith
some_version (third need) = omega arith
some_version (fourth need) = omega arith

-- no need asks for more than the second version
need_most : (need : ℕ) → need_version need ≤ 2
need_most need = elim (bool_cases (nat_eq need 1)) [
  | inl t ↦ (let one : need_version need ≡ 1 = ap (λ (b : Bool). if b then 1 else 2) t in omega (arith, one))
  | inr f ↦ (let two : need_version need ≡ 2 = ap (λ (b : Bool). if b then 1 else 2) f in omega (arith, two))
]

-- a version that says a need has the need's number or a greater one
need_within : (need : ℕ) (version : Version) → need_of version ≡ need → need_version need ≤ version_number version
need_within need first e = subst (λ (n : ℕ). need_version n ≤ 1) e (omega arith)
need_within need (second other) e = need_most need
need_within need (third other) e = (let two = need_most need in omega (arith, two))
need_within need (fourth other) e = (let two = need_most need in omega (arith, two))

-- the first version that can say all
abbrev version_if : ℕ → Bool → Bool → Bool → Version
version_if need four three two =
    if four then fourth need else (if three then third need else (if two then second need else first))

-- the version of a number is within each that says its need and knows the plans
version_within : (need : ℕ) (plans : List Plan) (s t u : Bool) (version : Version)
    → nat_le 4 (version_needed need plans) ≡ s → nat_le 3 (version_needed need plans) ≡ t
    → nat_le 2 (version_needed need plans) ≡ u → plans_version plans ≤ version_number version
    → need_of version ≡ need_of (version_if need s t u)
    → version_number (version_if need s t u) ≤ version_number version
version_within need plans true t u version d e f known says =
    let least : 4 ≤ version_needed need plans = grind (arith, nat_tests, d) in
    let of_need = need_within need version says in omega (arith, least, of_need, known)
version_within need plans false true u version d e f known says =
    let least : 3 ≤ version_needed need plans = grind (arith, nat_tests, e) in
    let of_need = need_within need version says in omega (arith, least, of_need, known)
version_within need plans false false true version d e f known says =
    let least : 2 ≤ version_needed need plans = grind (arith, nat_tests, f) in
    let of_need = need_within need version says in omega (arith, least, of_need, known)
version_within need plans false false false version d e f known says = some_version version

-- no lesser version could speak of the certificate of plans
pub in_least_version : (cave : Cave) (plans : List Plan) → IsInLeastVersion (certificate_of cave plans)
in_least_version cave plans = record {
  least = λ version fits says. version_within cave.rule.need plans (nat_le 4 (version_needed cave.rule.need plans))
      (nat_le 3 (version_needed cave.rule.need plans)) (nat_le 2 (version_needed cave.rule.need plans)) version
      refl refl refl (plans_within (version_number version) plans (some_version version) fits.known) says;
}
