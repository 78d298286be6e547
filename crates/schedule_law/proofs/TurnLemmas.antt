-- What a state knows after a piece was taken and opened or closed.
use Rattle.std.proofs.Common.{◌≡◌, ◌≢◌, inl, inr, ℕ, ◌<◌, ◌≤◌, List, [], ◌∷◌, ◌++◌, length}
use Rattle.std.proofs.Common.{refl, sym, ap, ◌∙◌, subst, arith}
use Rattle.set_cover.specs.Instance.{Instance}
use Rattle.proof_tree.specs.Piece.{Subproblem}
use Rattle.proof_tree.specs.Opened.{ArePlacesOn, Split, IsSplit, below_bars, kids_of}
use Rattle.proof_tree.specs.declared.branching.Branching.{Branching}
use Rattle.proof_tree.specs.declared.branching.Branching.TheVariants.{Cell, Place}
use Rattle.proof_tree.specs.Weights.{weigh}
use Rattle.proof_tree.proofs.OrderLemmas.{rises_from, one_order}
use Rattle.event_core.specs.State.{State, Status, Way, waiting, HasPart}
use Rattle.event_core.specs.Events.{Turns, Opens, IsParted}
use Rattle.schedule_law.specs.Names.{is_same_name}
use Rattle.schedule_law.proofs.PieceLemmas.{bit, named, one_named, IsAmong, weigh-append, named_among, among_either}
use Rattle.schedule_law.proofs.KidLemmas.{numbered_kid, numbered_among, among_numbered, steps_of}

-- each of these pieces waits, but those whose names were used
abbrev pub Knows : State → List Subproblem → List Subproblem → Type 0
Knows state made used = (p : Subproblem) → IsAmong p made → weigh (named p.name) used ≡ 0
    → HasPart state p.name p.chosen p.barred waiting

-- all but the pieces stays
pub record Keeps (old new : State) : Type 0 where
  pub same_region : new.region ≡ old.region
  pub same_best : new.best ≡ old.best
  pub same_aim : new.aim ≡ old.aim
  pub same_seen : new.seen ≡ old.seen

-- a state keeps its own region, best cover, aim and what each worker saw
pub keeps_self : (state : State) → Keeps state state
keeps_self state = record { same_region = refl; same_best = refl; same_aim = refl; same_seen = refl }

-- what two steps keep, both together keep
pub keeps_on : (a b c : State) → Keeps a b → Keeps b c → Keeps a c
keeps_on a b c f g = record {
  same_region = g.same_region ∙ f.same_region;
  same_best = g.same_best ∙ f.same_best;
  same_aim = g.same_aim ∙ f.same_aim;
  same_seen = g.same_seen ∙ f.same_seen;
}

-- a turn of a piece keeps all but the pieces
pub turned_keeps : (old : State) (name : List ℕ) (status : Status) (new : State) → Turns old name status new
    → Keeps old new
turned_keeps old name status new t = record {
  same_region = ap (λ (s : State). s.region) t.kept;
  same_best = ap (λ (s : State). s.best) t.kept;
  same_aim = ap (λ (s : State). s.aim) t.kept;
  same_seen = ap (λ (s : State). s.seen) t.kept;
}

-- opening a piece keeps all but the pieces
pub opened_keeps : (old : State) (name : List ℕ) (way : Way) (new : State) → Opens old name way new → Keeps old new
opened_keeps old name way new o = record {
  same_region = ap (λ (s : State). s.region) o.kept;
  same_best = ap (λ (s : State). s.best) o.kept;
  same_aim = ap (λ (s : State). s.aim) o.kept;
  same_seen = ap (λ (s : State). s.seen) o.kept;
}

-- a name that isn't used with this piece's isn't this piece's
pub other_name : (used : List Subproblem) (p : Subproblem) (x : List ℕ) → weigh (named x) (used ++ p ∷ []) ≡ 0
    → x ≢ p.name
other_name used p x none e =
    let one : named x p ≡ 1 = ap (λ y. bit (is_same_name y p.name)) e ∙ one_named p in
    let sum = weigh-append (named x) used (p ∷ []) in
    absurd (omega arith)

-- a name that isn't used after a piece more wasn't used before
pub unused_before : (used : List Subproblem) (p : Subproblem) (x : List ℕ) → weigh (named x) (used ++ p ∷ []) ≡ 0
    → weigh (named x) used ≡ 0
unused_before used p x none = (let sum = weigh-append (named x) used (p ∷ []) in omega arith)

-- in what way the piece is opened
abbrev pub way_of : Split → Way
way_of s = record { bars = s.bars; on = s.on }

-- the kids' places stand in one list alone
one_list : (piece : Subproblem) (on : Branching) (xs ys : List ℕ) → ArePlacesOn piece on xs → ArePlacesOn piece on ys
    → xs ≡ ys
one_list piece (Cell cell) xs ys a b = one_order xs ys (rises_from xs a.ascending) (rises_from ys b.ascending)
    (λ z h. (b.exact z).1 ((a.exact z).0 h)) (λ z h. (a.exact z).1 ((b.exact z).0 h))
one_list piece (Place place) xs ys a b = a ∙ sym b

-- a piece that is opened has the kids of the places that it is to be opened with
pub opened_parted : (mid new : State) (s : Split) (was : Status)
    → HasPart mid s.piece.name s.piece.chosen s.piece.barred was → mid.region ≡ s.piece.region → IsSplit s
    → Opens mid s.piece.name (way_of s) new
    → IsParted mid s.piece.name s.piece.chosen s.piece.barred (way_of s) s.places new
opened_parted mid new s was is of_it split o =
    let p = o.parted s.piece.chosen s.piece.barred was is in
    let at_it : ArePlacesOn (below_bars s.piece s.bars) s.on p.0 =
    subst (λ (r : Instance). ArePlacesOn (below_bars (record s.piece { region = r }) s.bars) s.on p.0) of_it p.1 in
    subst (λ (ps : List ℕ). IsParted mid s.piece.name s.piece.chosen s.piece.barred (way_of s) ps new)
    (one_list (below_bars s.piece s.bars) s.on p.0 s.places at_it split.all) p.2

-- a piece is opened, and its kids wait
module _ (old mid new : State) (s : Split) (was : Status) (made used : List Subproblem)
    (is : HasPart mid s.piece.name s.piece.chosen s.piece.barred was)
    (others_stay : (other : List ℕ) → other ≢ s.piece.name → mid.part_at other ≡ old.part_at other)
    (of_it : mid.region ≡ s.piece.region) (split : IsSplit s) (o : Opens mid s.piece.name (way_of s) new)
    (knows : Knows old made used) (once : (x : List ℕ) → weigh (named x) (made ++ kids_of s) ≤ 1) where
  parted : IsParted mid s.piece.name s.piece.chosen s.piece.barred (way_of s) s.places new
  parted = opened_parted mid new s was is of_it split o

  -- a piece that came to be before is no kid
  no_kid : (q : Subproblem) → IsAmong q made → (number : ℕ) → number < length (steps_of s)
      → q.name ≢ s.piece.name ++ number ∷ []
  no_kid q at number lt e =
      let kid : Subproblem = numbered_kid s number in
      let a = named_among q made at in
      let b = named_among kid (kids_of s) (numbered_among s number lt) in
      let c = ap (λ x. weigh (named x) (kids_of s)) e in
      let sum = weigh-append (named q.name) made (kids_of s) in
      let top = once q.name in
      absurd (omega arith)

  -- after a piece is opened its kids came to be, and it is used
  pub after_opening : Knows new (made ++ kids_of s) (used ++ s.piece ∷ [])
  after_opening q at none = elim (among_either q made (kids_of s) at) [
    | inl before ↦ (let apart = other_name used s.piece q.name none in
        parted.others q.name apart (no_kid q before) ∙ others_stay q.name apart
        ∙ knows q before (unused_before used s.piece q.name none))
    | inr kid ↦ (let k = among_numbered s q kid in
        subst (λ (r : Subproblem). HasPart new r.name r.chosen r.barred waiting) (sym k.2) (parted.kids k.0 k.1))
  ]
