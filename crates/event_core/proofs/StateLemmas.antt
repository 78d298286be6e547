-- Pieces of a state.
use Rattle.std.proofs.Common.{◌≡◌, ◌⊎◌, inl, inr, ℕ, List, [], Option, Some, None, refl, sym, ap, ◌∙◌, subst}
use Rattle.std.proofs.Common.{true≢false, Bool, true, false}
use Rattle.proof_rules.specs.Tree.{Tree, leaf}
use Rattle.event_core.specs.State.{State, Part, Status, Way, waiting, held, opened, closed, HasPart, IsLeft}
use Rattle.proof_tree.specs.declared.branching.Branching.TheVariants.{Cell}

abbrev no_part : Part
no_part = record { chosen = []; barred = []; status = waiting }

abbrev no_way : Way
no_way = record { bars = []; on = Cell 0 }

abbrev part_or : Option Part → Part
part_or None = no_part
part_or (Some part) = part

abbrev is_there : Option Part → Bool
is_there None = false
is_there (Some part) = true

-- parts that are there are equal
pub same_part : (p q : Part) → Some p ≡ Some q → p ≡ q
same_part p q e = ap part_or e

-- a part that is there isn't none
pub not_none : {A : Type 0} (p : Part) → None ≡ Some p → A
not_none p e = absurd (true≢false (sym (ap is_there e)))

-- a name has one piece
pub record AreSame (c b : List ℕ) (s : Status) (c2 b2 : List ℕ) (s2 : Status) : Type 0 where
  pub chosen : c ≡ c2
  pub barred : b ≡ b2
  pub status : s ≡ s2

-- a name leads to one part
pub same_parts : (state : State) (name c b c2 b2 : List ℕ) (s s2 : Status) → HasPart state name c b s
    → HasPart state name c2 b2 s2 → AreSame c b s c2 b2 s2
same_parts state name c b c2 b2 s s2 one two =
    let e = same_part (record { chosen = c; barred = b; status = s }) (record { chosen = c2; barred = b2; status = s2 })
    (sym one ∙ two) in
    record {
      chosen = ap (λ (p : Part). p.chosen) e;
      barred = ap (λ (p : Part). p.barred) e;
      status = ap (λ (p : Part). p.status) e;
    }

-- what waits or is held is neither opened nor closed
pub left_not_opened : {A : Type 0} (s : Status) (way : Way) → IsLeft s → s ≡ opened way → A
left_not_opened s way left e = absurd (subst IsLeft e left)

-- a part is there or not
pub none_or_some : (o : Option Part) → (o ≡ None) ⊎ ((p : Part) × (o ≡ Some p))
none_or_some None = inl refl
none_or_some (Some p) = inr (p, refl)

abbrev is_closed : Status → Bool
is_closed waiting = false
is_closed (held w) = false
is_closed (opened way) = false
is_closed (closed floor tree) = true

abbrev way_of : Status → Way
way_of waiting = no_way
way_of (held w) = no_way
way_of (opened way) = way
way_of (closed floor tree) = no_way

-- what waits isn't closed
pub waiting_not_closed : {A : Type 0} (floor : ℕ) (tree : Tree) → waiting ≡ closed floor tree → A
waiting_not_closed floor tree e = absurd (true≢false (sym (ap is_closed e)))

-- what is opened isn't closed
pub opened_not_closed : {A : Type 0} (way : Way) (floor : ℕ) (tree : Tree) → opened way ≡ closed floor tree → A
opened_not_closed way floor tree e = absurd (true≢false (sym (ap is_closed e)))

-- what is held isn't closed
pub held_not_closed : {A : Type 0} (w floor : ℕ) (tree : Tree) → held w ≡ closed floor tree → A
held_not_closed w floor tree e = absurd (true≢false (sym (ap is_closed e)))

-- opened in a way is opened in no other
pub same_way : (x y : Way) → opened x ≡ opened y → x ≡ y
same_way x y e = ap way_of e

abbrev is_opened : Status → Bool
is_opened waiting = false
is_opened (held w) = false
is_opened (opened way) = true
is_opened (closed floor tree) = false

-- what waits isn't opened
pub waiting_not_opened : {A : Type 0} (way : Way) → waiting ≡ opened way → A
waiting_not_opened way e = absurd (true≢false (sym (ap is_opened e)))

-- what is held isn't opened
pub held_not_opened : {A : Type 0} (w : ℕ) (way : Way) → held w ≡ opened way → A
held_not_opened w way e = absurd (true≢false (sym (ap is_opened e)))

-- what is closed isn't opened
pub closed_not_opened : {A : Type 0} (floor : ℕ) (tree : Tree) (way : Way) → closed floor tree ≡ opened way → A
closed_not_opened floor tree way e = absurd (true≢false (sym (ap is_opened e)))

abbrev floor_in : Status → ℕ
floor_in waiting = 0
floor_in (held w) = 0
floor_in (opened way) = 0
floor_in (closed floor tree) = floor

abbrev tree_in : Status → Tree
tree_in waiting = leaf []
tree_in (held w) = leaf []
tree_in (opened way) = leaf []
tree_in (closed floor tree) = tree

-- closed at a floor by a tree is closed at no other by no other
pub same_closed : (f g : ℕ) (s t : Tree) → closed f s ≡ closed g t → (f ≡ g) × (s ≡ t)
same_closed f g s t e = (ap floor_in e, ap tree_in e)
