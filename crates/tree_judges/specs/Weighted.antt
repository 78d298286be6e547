-- What the judge of weighted leaves answers for. This is this project's own.
use Rattle.std.specs.Prelude.{◌≡◌, ◌<◌, ◌≤◌, ℕ, List, length, map, All}
use Rattle.std.specs.List.Sorted.{IsStrictlyIncreasing}
use Rattle.set_cover.specs.Bits.{IsRowOf}
use Rattle.set_cover.specs.Instance.{Instance, of_indices}
use Rattle.proof_rules.specs.declared.groups.Share.{Share}
use Rattle.proof_rules.specs.declared.groups.Group.{Group}
use Rattle.proof_rules.specs.Groups.{cells_of, most_weight}
use Rattle.proof_rules.specs.Good.{AreWeighted}
use Rattle.pack_bound.specs.Indices.{cell_indices}
use Rattle.pack_bound.specs.Nodes.{NodeState}
use Rattle.weight_judge.specs.declared.claims.Claim.{Claim}
use Rattle.weight_judge.specs.Held.{AreAllOpen, AreListsBelow}

-- the cells of the claims
abbrev pub claimed : List Claim → List ℕ
claimed claims = map (λ claim. claim.cell) claims

-- ascending cells, each with a weight of at least 1
pub record AreShares (shares : List Share) : Type 0 where
  pub ascending : IsStrictlyIncreasing (cells_of shares)
  pub weights : All (λ share. 0 < share.weight) shares
  pub few : All (λ share. share.weight ≤ most_weight) shares

-- for each claim the places that light its cell and aren't barred
pub record AreOpenLists (region : Instance) (state : NodeState) (claims : List Claim) (lists : List (List ℕ)) : Type 0
  where
    pub whole : length lists ≡ length claims
    pub below : AreListsBelow (length region.places) lists
    pub open_there : (barred : List ℕ) → IsRowOf barred state.barred
        → AreAllOpen (of_indices region) barred claims lists

-- the groups may stand in a weighted leaf
pub record MayBeWeightedAt (region : Instance) (state : NodeState) (groups : List Group) : Type 0 where
  pub weighted_there : (barred : List ℕ) → IsRowOf barred state.barred
      → AreWeighted (of_indices region) (cell_indices region) state.chosen barred groups
