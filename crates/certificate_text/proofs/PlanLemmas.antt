-- Planned regions, one after another.
use Rattle.std.proofs.Common.{◌≡◌, ℕ, ◌+◌, ◌<◌, ◌≤◌, max, List, length, map, drop, get_or, sym, ap, ◌∙◌, arith}
use Rattle.std.proofs.lemmas.List.{drop_more, drop_all, get_or-map}
use Rattle.proof_rules.specs.Tree.{Forest, none, more}
use Rattle.certificate_text.specs.Planned.{Plan, version_for, versions_for, plans_version}

-- the item at an index is planned there
pub at_map : {X : Type 0} (f : X → Plan) (xs : List X) (i : ℕ) (x : X) → i < length xs → x ≡ get_or xs i x
    → f x ≡ get_or (map f xs) i (f x)
at_map f xs i x lt is = ap f is ∙ sym (get_or-map f xs i x (f x) lt)

-- ---- the version

-- the first version has the least number
pub versions_some : (trees : Forest) → 1 ≤ versions_for trees
versions_some none = omega arith
versions_some (more tree trees) = (let rest = versions_some trees in omega (arith, rest))

-- with the version of the plans that are still to come, this is the version of all
pub record IsVersionSoFar (version whole : ℕ) (plans : List Plan) (index : ℕ) : Type 0 where
  pub some : 1 ≤ version
  pub with_rest : max version (plans_version (drop index plans)) ≡ whole

-- one plan more
pub next_version : (version whole : ℕ) (plans : List Plan) (index : ℕ) (plan : Plan) (next : ℕ) → index < length plans
    → plan ≡ get_or plans index plan → IsVersionSoFar version whole plans index
    → next ≡ max (version_for plan.tree) version → IsVersionSoFar next whole plans (index + 1)
next_version version whole plans index plan next lt is s e =
    let parts = ap plans_version (drop_more plans index plan lt) in
    let one = ap (λ (p : Plan). version_for p.tree) is in record {
      some = (let some = s.some in omega arith);
      with_rest = (let rest = s.with_rest in omega arith);
    }

-- after the last plan it is the version of all
pub last_version : (version whole : ℕ) (plans : List Plan) (index : ℕ) → length plans ≤ index
    → IsVersionSoFar version whole plans index → version ≡ whole
last_version version whole plans index past s =
    let none = ap plans_version (drop_all index plans past) in
    let some = s.some in let rest = s.with_rest in omega arith
