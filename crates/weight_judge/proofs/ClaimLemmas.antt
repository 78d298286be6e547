-- What the shares of groups claim.
use Rattle.std.proofs.Common.{◌≡◌, ℕ, zero, suc, ◌+◌, ◌<◌, List, [], ◌∷◌, ◌++◌, length, take, map, Contains, get_or}
use Rattle.std.proofs.Common.{refl, sym, ap, subst, ◌∙◌, arith, inl, inr, append_assoc, length-take-le}
use Rattle.std.proofs.lemmas.List.{append-nil, map-append, take_more, length-map, get_or-map}
use Rattle.std.proofs.lemmas.List.Elements.{Contains-append_left, Contains-append_right, Contains-append_cases}
use Rattle.std.proofs.lemmas.List.Elements.{Contains-get_or}
use Rattle.proof_rules.specs.declared.groups.Share.{Share}
use Rattle.proof_rules.specs.declared.groups.Group.{Group}
use Rattle.proof_rules.specs.Groups.{cells_of, all_cells_of}
use Rattle.weight_judge.specs.declared.claims.Claim.{Claim}
use Rattle.weight_judge.specs.Claims.{claim_of, share_claims, claims_from, claims_of, AreClaims}

-- ---- one more

-- the claims of one group more
from_push : (index : ℕ) (groups : List Group) (g : Group)
    → claims_from index (groups ++ g ∷ []) ≡ claims_from index groups
    ++ share_claims (index + length groups) g.capacity g.shares
from_push index [] g =
    let n : index ≡ index + 0 = omega arith in
    append-nil (share_claims index g.capacity g.shares)
    ∙ ap (λ (k : ℕ). share_claims k g.capacity g.shares) n
from_push index (h ∷ hs) g =
    let n : index + 1 + length hs ≡ index + length (h ∷ hs) = omega arith in
    ap (λ (l : List Claim). share_claims index h.capacity h.shares ++ l) (from_push (index + 1) hs g)
    ∙ sym (append_assoc (share_claims index h.capacity h.shares) (claims_from (index + 1) hs)
    (share_claims (index + 1 + length hs) g.capacity g.shares))
    ∙ ap (λ (k : ℕ). claims_from index (h ∷ hs) ++ share_claims k g.capacity g.shares) n

-- the claims of the groups up to the next
pub claims_more : (groups : List Group) (index : ℕ) (d : Group) → index < length groups
    → claims_of (take (index + 1) groups) ≡ claims_of (take index groups)
    ++ share_claims index (get_or groups index d).capacity (get_or groups index d).shares
claims_more groups index d h =
    let n : 0 + length (take index groups) ≡ index = omega (arith, length-take-le index groups (omega arith)) in
    ap claims_of (take_more groups index d h)
    ∙ from_push 0 (take index groups) (get_or groups index d)
    ∙ ap (λ (k : ℕ). claims_of (take index groups)
    ++ share_claims k (get_or groups index d).capacity (get_or groups index d).shares) n

-- ---- members

-- an image of a list is the image of one of its elements
pub from_map : {A : Type 0} {B : Type 0} (f : A → B) (xs : List A) (y : B) → Contains (map f xs) y
    → (x : A) × Contains xs x × (f x ≡ y)
from_map {A} {B} f [] y h = absurd (omega (arith, h.1))
from_map {A} {B} f (a ∷ more) y h =
    let lt : h.0 < length (a ∷ more) = omega (arith, h.1, length-map (a ∷ more) f) in
    (get_or (a ∷ more) h.0 a, Contains-get_or (a ∷ more) h.0 a lt, sym (get_or-map f (a ∷ more) h.0 a y lt) ∙ h.2)

-- the image of an element is in the image of the list
pub to_map : {A : Type 0} {B : Type 0} (f : A → B) (xs : List A) (x : A) → Contains xs x → Contains (map f xs) (f x)
to_map {A} {B} f xs x h = (
  h.0,
  omega (arith, h.1, length-map xs f),
  get_or-map f xs h.0 x (f x) h.1 ∙ ap f h.2,
)

-- whose claim it is
pub record IsClaimOf (index : ℕ) (groups : List Group) (claim : Claim) : Type 0 where
  pub at : ℕ
  pub inside : at < length groups
  pub group : claim.group ≡ index + at
  pub share : Share
  pub there : (d : Group) → Contains (get_or groups at d).shares share
  pub capacity : (d : Group) → claim.capacity ≡ (get_or groups at d).capacity
  pub cell : claim.cell ≡ share.cell
  pub weight : claim.weight ≡ share.weight

-- each claim is of a share of a group
pub claim_from : (index : ℕ) (groups : List Group) (claim : Claim) → Contains (claims_from index groups) claim
    → IsClaimOf index groups claim
claim_from index [] claim h = absurd (omega (arith, h.1))
claim_from index (g ∷ gs) claim h =
    elim (Contains-append_cases (share_claims index g.capacity g.shares) (claims_from (index + 1) gs) claim h) [
      | inl one ↦ (let m = from_map (claim_of index g.capacity) g.shares claim one in
          record {
            at = 0;
            inside = omega arith;
            group = ap (λ (c : Claim). c.group) (sym m.2) ∙ plus_zero index;
            share = m.0;
            there = λ d. m.1;
            capacity = λ d. ap (λ (c : Claim). c.capacity) (sym m.2);
            cell = ap (λ (c : Claim). c.cell) (sym m.2);
            weight = ap (λ (c : Claim). c.weight) (sym m.2);
          })
      | inr rest ↦ (let m = claim_from (index + 1) gs claim rest in
          record {
            at = suc m.at;
            inside = omega (arith, m.inside);
            group = omega (arith, m.group);
            share = m.share;
            there = λ d. m.there d;
            capacity = λ d. m.capacity d;
            cell = m.cell;
            weight = m.weight;
          })
    ]
  where
    plus_zero : (n : ℕ) → n ≡ n + 0
    plus_zero n = omega arith

-- and each share of a group has its claim
pub claim_in : (index : ℕ) (groups : List Group) (at : ℕ) (d : Group) (share : Share) → at < length groups
    → Contains (get_or groups at d).shares share
    → Contains (claims_from index groups) (claim_of (index + at) (get_or groups at d).capacity share)
claim_in index [] at d share h c = absurd (omega arith)
claim_in index (g ∷ gs) zero d share h c =
    let n : index ≡ index + 0 = omega arith in
    Contains-append_left (share_claims index g.capacity g.shares) (claims_from (index + 1) gs)
    (claim_of (index + 0) g.capacity share)
    (subst (λ (k : ℕ). Contains (share_claims index g.capacity g.shares) (claim_of k g.capacity share)) n
    (to_map (claim_of index g.capacity) g.shares share c))
claim_in index (g ∷ gs) (suc at) d share h c =
    let n : index + 1 + at ≡ index + suc at = omega arith in
    Contains-append_right (share_claims index g.capacity g.shares) (claims_from (index + 1) gs)
    (claim_of (index + suc at) (get_or gs at d).capacity share)
    (subst (λ (k : ℕ). Contains (claims_from (index + 1) gs) (claim_of k (get_or gs at d).capacity share)) n
    (claim_in (index + 1) gs at d share (omega arith) c))

-- claims of one group have one capacity
pub are_claims : (groups : List Group) → AreClaims (claims_of groups)
are_claims groups = record {
  same = λ a b ha hb e.
      (let x = claim_from 0 groups a ha in let y = claim_from 0 groups b hb in
      let none : Group = record { capacity = 0; shares = [] } in
      let at : x.at ≡ y.at = omega (arith, x.group, y.group, e) in
      x.capacity none ∙ ap (λ (k : ℕ). (get_or groups k none).capacity) at ∙ sym (y.capacity none));
}

-- the cells of the claims are those of the groups
pub claim_cells : (index : ℕ) (groups : List Group) → map (λ (c : Claim). c.cell) (claims_from index groups)
    ≡ all_cells_of groups
claim_cells index [] = refl
claim_cells index (g ∷ gs) = map-append (λ (c : Claim). c.cell) (share_claims index g.capacity g.shares)
    (claims_from (index + 1) gs)
    ∙ ap (λ (l : List ℕ). l ++ map (λ (c : Claim). c.cell) (claims_from (index + 1) gs)) (one g.shares)
    ∙ ap (λ (l : List ℕ). cells_of g.shares ++ l) (claim_cells (index + 1) gs)
  where
    one : (shares : List Share) → map (λ (c : Claim). c.cell) (share_claims index g.capacity shares) ≡ cells_of shares
    one [] = refl
    one (x ∷ xs) = ap (λ (l : List ℕ). x.cell ∷ l) (one xs)

-- the claims of one group more follow those before it
pub next_claims : (groups : List Group) (index : ℕ) (g : Group) (old new : List Claim) (shares : List Share)
    → index < length groups → g ≡ get_or groups index g → shares ≡ g.shares → old ≡ claims_of (take index groups)
    → new ≡ old ++ share_claims index g.capacity shares → new ≡ claims_of (take (index + 1) groups)
next_claims groups index g old new shares h is e was now =
    now ∙ ap (λ (l : List Share). old ++ share_claims index g.capacity l) e
    ∙ ap (λ (l : List Claim). l ++ share_claims index g.capacity g.shares) was
    ∙ ap (λ (k : Group). claims_of (take index groups) ++ share_claims index k.capacity k.shares) is
    ∙ sym (claims_more groups index g h)
