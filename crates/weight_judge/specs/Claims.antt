-- The shares of groups, one after another. This is this project's own.
use Rattle.std.specs.Prelude.{◌≡◌, ℕ, ◌+◌, List, [], ◌∷◌, ◌++◌, map, Contains}
use Rattle.proof_rules.specs.declared.groups.Share.{Share}
use Rattle.proof_rules.specs.declared.groups.Group.{Group}
use Rattle.weight_judge.specs.declared.claims.Claim.{Claim}

-- what a share of this group claims
abbrev pub claim_of : ℕ → ℕ → Share → Claim
claim_of group capacity share = record {
  group = group;
  capacity = capacity;
  cell = share.cell;
  weight = share.weight;
}

-- what the shares of this group claim
abbrev pub share_claims : ℕ → ℕ → List Share → List Claim
share_claims group capacity shares = map (claim_of group capacity) shares

-- what all shares of the groups claim, where the first group has this index
abbrev pub claims_from : ℕ → List Group → List Claim
claims_from index [] = []
claims_from index (group ∷ groups) = share_claims index group.capacity group.shares ++ claims_from (index + 1) groups

-- what all shares of the groups claim
abbrev pub claims_of : List Group → List Claim
claims_of groups = claims_from 0 groups

-- claims of one group have one capacity
pub record AreClaims (claims : List Claim) : Type 0 where
  pub same : (a b : Claim) → Contains claims a → Contains claims b → a.group ≡ b.group → a.capacity ≡ b.capacity
