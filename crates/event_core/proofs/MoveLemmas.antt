-- A new shape at a name does what an event does.
use Rattle.std.proofs.Common.{◌≡◌, ◌≢◌, inl, inr, ℕ, zero, suc, ◌<◌, List, [], ◌∷◌, ◌++◌, length, Option, Some, None}
use Rattle.std.proofs.Common.{refl, sym, ap, ◌∙◌, subst, arith, append-nil, ◌↔◌}
use Rattle.std.specs.Prelude.{MatchOption}
use Rattle.std.proofs.lemmas.Bool.{cases_lt}
use Rattle.proof_rules.specs.Tree.{Tree}
use Rattle.proof_tree.specs.Bars.{places_of}
use Rattle.proof_tree.specs.Opened.{ArePlacesOn, MayBeOpened, Step, below_bars, step_at, steps_on}
use Rattle.proof_tree.specs.Piece.{Fathomed, Subproblem}
use Rattle.proof_tree.specs.declared.bars.Bar.{Bar}
use Rattle.proof_tree.specs.declared.branching.Branching.{Branching}
use Rattle.proof_tree.specs.declared.branching.Branching.TheVariants.{Cell, Place}
use Rattle.event_core.specs.State.{State, Part, Status, Way, waiting, held, closed, HasPart, IsLeft, piece_of}
use Rattle.event_core.specs.Events.{Turns, Opens, IsParted, MayTake, MayLeave, MayOpen, MayClose, IsEnabled, Does}
use Rattle.event_core.specs.Events.{opening_on}
use Rattle.event_core.specs.Shape.{Shape, at_rest, in_hand, settled, status_of, part_in, part_below, put_in}
use Rattle.event_core.specs.Shape.{shape_count}
use Rattle.event_core.specs.Finished.{all_at_rest, newly, IsWhole, AreWhole}
use Rattle.event_core.specs.Kept.{Kept, state_of, put_kept}
use Rattle.event_core.specs.Tracing.{IsTracedTo, IsStanding, StandsAs}
use Rattle.event_core.specs.Opening.{IsOpening}
use Rattle.event_core.specs.Moving.{IsLeftPiece, IsMade}
use Rattle.event_core.specs.NodeShape.{shape_of}
use Rattle.event_core.specs.declared.node.PieceNode.{PieceNode}
use Rattle.event_core.specs.declared.tracing.Standing.{Standing}
use Rattle.event_core.specs.declared.tracing.Standing.TheVariants.{Waiting, Held, Past}
use Rattle.event_core.specs.declared.tracing.Traced.{Traced}
use Rattle.event_core.proofs.NameLemmas.{begins_or_not}
use Rattle.event_core.proofs.StateLemmas.{same_part, same_parts}
use Rattle.event_core.proofs.NodeLemmas.{no_step}
use Rattle.event_core.proofs.ShapeLemmas.{put_there, put_apart, nothing_below}

-- ---- a piece gets another status

module _ (kept : Kept) (name c b : List ℕ) (was : Status) (new : Shape) (is : HasPart (state_of kept) name c b was)
    (left : IsLeft was) where
  here : (c2 b2 : List ℕ) (was2 : Status) → HasPart (state_of kept) name c2 b2 was2
      → HasPart (state_of (put_kept kept name new)) name c2 b2 (status_of new)
  here c2 b2 was2 h =
      ap (part_in [] [] (put_in kept.root name new)) (sym (append-nil name)) ∙ put_there [] [] kept.root new name []
      (record { chosen = c2; barred = b2; status = was2 }) h

  apart : (other : List ℕ) → ((rest : List ℕ) → other ≢ name ++ rest)
      → (state_of (put_kept kept name new)).part_at other ≡ (state_of kept).part_at other
  apart other ne = put_apart [] [] kept.root new name other ne

  below : (k : ℕ) (rest : List ℕ) (other : List ℕ) → other ≡ name ++ k ∷ rest → part_in c b new (k ∷ rest) ≡ None
      → (state_of (put_kept kept name new)).part_at other ≡ (state_of kept).part_at other
  below k rest other e none_new =
      ap (part_in [] [] (put_in kept.root name new)) e ∙ put_there [] [] kept.root new name (k ∷ rest)
      (record { chosen = c; barred = b; status = was }) is ∙ none_new
      ∙ sym (ap (part_in [] [] kept.root) e ∙ nothing_below [] [] kept.root name k rest
      (record { chosen = c; barred = b; status = was }) is left)

  elsewhere : ((k : ℕ) (rest : List ℕ) → part_in c b new (k ∷ rest) ≡ None) → (other rest : List ℕ) → other ≢ name
      → other ≡ name ++ rest → (state_of (put_kept kept name new)).part_at other ≡ (state_of kept).part_at other
  elsewhere none_new other [] ne e = absurd (ne (e ∙ append-nil name))
  elsewhere none_new other (k ∷ rest) ne e = below k rest other e (none_new k rest)

  -- a shape without kids, put at a name, turns the piece
  pub turns : ((k : ℕ) (rest : List ℕ) → part_in c b new (k ∷ rest) ≡ None)
      → Turns (state_of kept) name (status_of new) (state_of (put_kept kept name new))
  turns none_new = record {
    kept = refl;
    here = here;
    others = λ other ne. elim (begins_or_not name other) [
      | inl x ↦ elsewhere none_new other x.0 ne x.1
      | inr none_of ↦ apart other none_of
    ];
  }

-- ---- how a piece stands

module _ (state : State) (name : List ℕ) where
  stands : (s : Standing) (p : Part) → state.part_at name ≡ Some p → StandsAs s p.status → IsStanding state name s
  stands Waiting p e s = (
    p.chosen,
    p.barred,
    e
        ∙ ap (λ (x : Status). Some (record { chosen = p.chosen; barred = p.barred; status = x })) s,
  )
  stands (Held w) p e s = (
    p.chosen,
    p.barred,
    e
        ∙ ap (λ (x : Status). Some (record { chosen = p.chosen; barred = p.barred; status = x })) s,
  )
  stands Past p e s = λ c b status h. subst (λ (x : Status). ¬ IsLeft x)
      (ap (λ (q : Part). q.status) (same_part p (record { chosen = c; barred = b; status = status }) (sym e ∙ h))) s

  traced_to : (c b : List ℕ) (s : Standing) (o : Option Part) → state.part_at name ≡ o → IsTracedTo c b s o
      → IsStanding state name s
  traced_to c b s None e t = absurd t
  traced_to c b s (Some p) e t = stands s p e t.2

  -- where a name leads to a piece it stands as that
  pub standing_some : (t : Traced) → IsTracedTo t.chosen.items t.barred.items t.standing (state.part_at name)
      → IsStanding state name t.standing
  standing_some t h = traced_to t.chosen.items t.barred.items t.standing (state.part_at name) refl h

-- a piece put in a worker's hand is held
pub take_turns : (kept : Kept) (w : ℕ) (name : List ℕ) → MayTake (state_of kept) w name
    → Turns (state_of kept) name (held w) (state_of (put_kept kept name (in_hand w)))
take_turns kept w name may = turns kept name may.chosen may.barred waiting (in_hand w) may.waits tt (λ k rest. refl)

-- a piece put at rest waits
pub leave_turns : (kept : Kept) (w : ℕ) (name : List ℕ) → MayLeave (state_of kept) w name
    → Turns (state_of kept) name waiting (state_of (put_kept kept name at_rest))
leave_turns kept w name may = turns kept name may.chosen may.barred (held w) at_rest may.holds tt (λ k rest. refl)

-- a piece settled by a tree is closed by it
pub close_turns : (kept : Kept) (w : ℕ) (k : Fathomed) → MayClose (state_of kept) w k
    → Turns (state_of kept) k.piece.name (closed k.floor k.tree)
    (state_of (put_kept kept k.piece.name (settled k.floor k.tree)))
close_turns kept w k may = turns kept k.piece.name k.piece.chosen k.piece.barred (held w)
    (settled k.floor k.tree) may.holds tt (λ number rest. refl)

-- ---- a piece is opened

-- a kid at rest waits, with the places of its step chosen and barred
rest_here : (c b : List ℕ) (steps : List Step) (count number : ℕ) → number < length steps → number < count
    → part_below c b steps (all_at_rest count) number [] ≡ Some (record {
      chosen = c ++ (step_at steps number).chosen;
      barred = b ++ (step_at steps number).barred;
      status = waiting;
    })
rest_here c b [] count number lt less = absurd (omega arith)
rest_here c b (q ∷ qs) zero number lt less = absurd (omega arith)
rest_here c b (q ∷ qs) (suc count) zero lt less = refl
rest_here c b (q ∷ qs) (suc count) (suc number) lt less = rest_here c b qs count number (omega arith) (omega arith)

-- a kid at rest has no kids of its own
rest_below : (c b : List ℕ) (steps : List Step) (count number k : ℕ) (rest : List ℕ)
    → part_below c b steps (all_at_rest count) number (k ∷ rest) ≡ None
rest_below c b [] count number k rest = refl
rest_below c b (q ∷ qs) zero number k rest = refl
rest_below c b (q ∷ qs) (suc count) zero k rest = refl
rest_below c b (q ∷ qs) (suc count) (suc number) k rest = rest_below c b qs count number k rest

-- there are `count` kids at rest
rest_count : (count : ℕ) → shape_count (all_at_rest count) ≡ count
rest_count zero = refl
rest_count (suc count) = omega (arith, rest_count count)

-- kids at rest are whole
rest_whole : (count : ℕ) → AreWhole (all_at_rest count)
rest_whole zero = tt
rest_whole (suc count) = (tt, rest_whole count)

-- a newly opened piece is whole
pub newly_whole : (shape : Shape) (way : Way) (places : List ℕ) → shape ≡ newly way places → IsWhole shape
newly_whole shape way places e = subst IsWhole (sym e)
    (rest_count (length (steps_on way.on places)), refl, refl, rest_whole (length (steps_on way.on places)))

module _ (kept : Kept) (name : List ℕ) (way : Way) (places c b : List ℕ) (was : Status)
    (is : HasPart (state_of kept) name c b was) (left : IsLeft was) where
  abbrev shape : Shape
  shape = newly way places

  abbrev steps : List Step
  steps = steps_on way.on places

  elsewhere_too : (other rest : List ℕ) → other ≢ name
      → ((number : ℕ) → number < length steps → other ≢ name ++ number ∷ []) → other ≡ name ++ rest
      → (state_of (put_kept kept name shape)).part_at other ≡ (state_of kept).part_at other
  elsewhere_too other [] ne no_kid e = absurd (ne (e ∙ append-nil name))
  elsewhere_too other (k ∷ []) ne no_kid e = elim (cases_lt k (length steps)) [
    | inl lt ↦ absurd (no_kid k lt e)
    | inr le ↦ below kept name c b was shape is left k [] other e
        (no_step c (b ++ places_of way.bars) steps (all_at_rest (length steps)) k [] le)
  ]
  elsewhere_too other (k ∷ j ∷ rest) ne no_kid e = below kept name c b was shape is left k (j ∷ rest) other e
      (rest_below c (b ++ places_of way.bars) steps (length steps) k j rest)

  parted_is : IsParted (state_of kept) name c b way places (state_of (put_kept kept name shape))
  parted_is = record {
    here = here kept name c b was shape is left c b was is;
    kids = λ number lt. put_there [] [] kept.root shape name (number ∷ [])
        (record { chosen = c; barred = b; status = was }) is
        ∙ rest_here c (b ++ places_of way.bars) steps (length steps) number lt lt;
    others = λ other ne no_kid. elim (begins_or_not name other) [
      | inl x ↦ elsewhere_too other x.0 ne no_kid x.1
      | inr none_of ↦ apart kept name c b was shape is left other none_of
    ];
  }

  opens_here : ArePlacesOn (below_bars (piece_of (state_of kept) name c b) way.bars) way.on places
      → Opens (state_of kept) name way (state_of (put_kept kept name shape))
  opens_here all = record {
    kept = refl;
    parted = λ c2 b2 was2 h. (let same = same_parts (state_of kept) name c b c2 b2 was was2 is h in
        let x : c ≡ c2 = same.chosen in let y : b ≡ b2 = same.barred in (
          places,
          subst (λ (l : List ℕ). ArePlacesOn (below_bars (piece_of (state_of kept) name c2 l) way.bars) way.on places) y
              (subst (λ (l : List ℕ). ArePlacesOn
              (below_bars (piece_of (state_of kept) name l b) way.bars) way.on places)
              x all),
          subst (λ (l : List ℕ). IsParted (state_of kept) name c2 l way places (state_of (put_kept kept name shape))) y
              (subst (λ (l : List ℕ). IsParted (state_of kept) name l b way places
              (state_of (put_kept kept name shape)))
              x parted_is),
        ));
  }

-- a piece put as newly opened is opened, with waiting kids
pub opens : (kept : Kept) (name : List ℕ) (way : Way) (node : PieceNode) → MayOpen (state_of kept) name way
    → ((c b : List ℕ) (was : Status) → HasPart (state_of kept) name c b was
    → IsOpening (piece_of (state_of kept) name c b) way node)
    → Opens (state_of kept) name way (state_of (put_kept kept name (shape_of node)))
opens kept name way node may made =
    let o = made may.chosen may.barred may.status may.there in
    subst (λ (s : Shape). Opens (state_of kept) name way (state_of (put_kept kept name s))) (sym o.shape)
    (opens_here kept name way o.places may.chosen may.barred may.status may.there may.left o.all)

-- and it is whole
pub opened_whole : (kept : Kept) (name : List ℕ) (way : Way) (node : PieceNode) → MayOpen (state_of kept) name way
    → ((c b : List ℕ) (was : Status) → HasPart (state_of kept) name c b was
    → IsOpening (piece_of (state_of kept) name c b) way node)
    → IsWhole (shape_of node)
opened_whole kept name way node may made =
    (let o = made may.chosen may.barred may.status may.there in newly_whole (shape_of node) way o.places o.shape)

-- ---- what was asked before

-- what stands elsewhere than past the tree is still to be closed
pub left_where : (s : Standing) (status : Status) → StandsAs s status → (¬ (s ≡ Past)) → IsLeft status
left_where Waiting status e ne = subst IsLeft (sym e) tt
left_where (Held w) status e ne = subst IsLeft (sym e) tt
left_where Past status e ne = absurd (ne refl)

module _ (kept : Kept) (name : List ℕ) (way : Way) where
  -- where no piece of the name waits or is held, none may be opened
  pub none_made : IsLeftPiece (state_of kept) name None → IsMade kept name way None
  none_made none_left may = none_left may.chosen may.barred may.status may.there may.left

  module _ (piece : Subproblem) (left : IsLeftPiece (state_of kept) name (Some piece)) where
    -- each part of the name is this piece
    this_piece : (c b : List ℕ) (was : Status) → HasPart (state_of kept) name c b was
        → piece_of (state_of kept) name c b ≡ piece
    this_piece c b was h =
        let same = same_parts (state_of kept) name piece.chosen piece.barred c b left.1 was left.2 h in
        let x : piece.chosen ≡ c = same.chosen in let y : piece.barred ≡ b = same.barred in
        sym (left.0 ∙ (λ i. piece_of (state_of kept) name (x i) (y i)))

    -- where it may not be opened so, there is no event that does
    pub not_made : (¬ MayBeOpened piece way.bars way.on) → IsMade kept name way None
    not_made not may = not (subst (λ (p : Subproblem). MayBeOpened p way.bars way.on)
        (this_piece may.chosen may.barred may.status may.there) may.opens)

    -- where it may, the node made is the piece opened
    pub made_is : (node : PieceNode) → MayBeOpened piece way.bars way.on → IsOpening piece way node
        → IsMade kept name way (Some node)
    made_is node opens opening = (
      record {
        chosen = piece.chosen;
        barred = piece.barred;
        status = left.1;
        there = left.2;
        left = left.3;
        opens = subst (λ (p : Subproblem). MayBeOpened p way.bars way.on) left.0 opens;
      },
      λ c b was h. subst (λ (p : Subproblem). IsOpening p way node) (sym (this_piece c b was h)) opening,
    )

    -- either way, what was found is made
    pub made_or_not : (found : Option PieceNode) → MatchOption found (¬ MayBeOpened piece way.bars way.on)
        (λ (node : PieceNode). MayBeOpened piece way.bars way.on × IsOpening piece way node)
        → IsMade kept name way found
    made_or_not None not = not_made not
    made_or_not (Some node) found = made_is node found.0 found.1

-- ---- the event that opens a piece

-- it is enabled just where the piece may be opened
pub opening_enabled : (state : State) (name : List ℕ) (bars : List Bar) (on : Branching)
    → MayOpen state name (record { bars = bars; on = on }) ↔ IsEnabled state (opening_on name bars on)
opening_enabled state name bars (Cell cell) = (λ m. m, λ m. m)
opening_enabled state name bars (Place place) = (λ m. m, λ m. m)

-- and opens it
pub opening_does : (old : State) (name : List ℕ) (bars : List Bar) (on : Branching) (new : State)
    → Opens old name (record { bars = bars; on = on }) new ↔ Does old (opening_on name bars on) new
opening_does old name bars (Cell cell) new = (λ o. o, λ o. o)
opening_does old name bars (Place place) new = (λ o. o, λ o. o)

-- settling by an equal name, floor and tree is settling by the piece's own
pub close_same : (kept : Kept) (k : Fathomed) (name : List ℕ) (floor : ℕ) (tree : Tree) → name ≡ k.piece.name
    → floor ≡ k.floor → tree ≡ k.tree
    → put_kept kept name (settled floor tree) ≡ put_kept kept k.piece.name (settled k.floor k.tree)
close_same kept k name floor tree a b c = λ i. put_kept kept (a i) (settled (b i) (c i))
