-- What a name leads to at a node.
use Rattle.std.proofs.Common.{◌≡◌, ◌⊎◌, inl, inr, ℕ, ◌<◌, ◌≤◌, List, ◌∷◌, ◌++◌, length, get_or, set, Option, Some}
use Rattle.std.proofs.Common.{None, Vec, Global, sym, ap, ◌∙◌, subst}
use Rattle.proof_tree.specs.Bars.{places_of}
use Rattle.proof_tree.specs.Opened.{step_at, steps_on}
use Rattle.proof_tree.specs.declared.bars.Bar.{Bar}
use Rattle.proof_tree.specs.declared.branching.Branching.{Branching}
use Rattle.proof_tree.specs.declared.proof.Below.{Below}
use Rattle.proof_tree.specs.declared.proof.Proof.{Proof}
use Rattle.event_core.specs.State.{Way}
use Rattle.event_core.specs.Shape.{Shape, Shapes, parted, part_in, part_below, put_in, put_below}
use Rattle.event_core.specs.NodeShape.{shape_of, shapes_of}
use Rattle.event_core.specs.Tracing.{IsTraced, IsTracedTo}
use Rattle.event_core.specs.declared.node.PieceNode.{PieceNode}
use Rattle.event_core.specs.declared.node.PieceNode.TheVariants.{Opened}
use Rattle.event_core.specs.declared.tracing.Traced.{Traced}
use Rattle.event_core.proofs.NodeLemmas.{kid_here, no_step, no_node, put_kid, put_far, set_twice}

-- what was traced to a part was traced to the same part from another node
pub traced_same : (c b c2 b2 : List ℕ) (s s2 : Shape) (name name2 : List ℕ) (r : Option Traced)
    → part_in c b s name ≡ part_in c2 b2 s2 name2 → IsTraced c2 b2 s2 name2 r → IsTraced c b s name r
traced_same c b c2 b2 s s2 name name2 None e h = e ∙ h
traced_same c b c2 b2 s s2 name name2 (Some t) e h =
    subst (IsTracedTo t.chosen.items t.barred.items t.standing) (sym e) h

-- a name leads through an opened node to below its first number
pub opened_at : (c b : List ℕ) (node : PieceNode) (bars : List Bar) (on : Branching) (places : List ℕ) (kids : Shapes)
    (trees : Vec Proof Global) (boxes : Vec Below Global) (ns : List PieceNode) (name rest : List ℕ) (first : ℕ)
    → node ≡ Opened bars on places kids trees boxes → name ≡ first ∷ rest → kids ≡ shapes_of ns
    → part_in c b (shape_of node) name
    ≡ part_below c (b ++ places_of bars) (steps_on on places) (shapes_of ns) first rest
opened_at c b node bars on places kids trees boxes ns name rest first is named kids_are =
    ap (λ (n : PieceNode). part_in c b (shape_of n) name) is
    ∙ ap (part_in c b (parted (record { bars = bars; on = on }) places (length trees.items) (length boxes.items) kids))
    named
    ∙ ap (λ (k : Shapes). part_below c (b ++ places_of bars) (steps_on on places) k first rest) kids_are

-- where there is no such kid, it leads nowhere
pub at_no_kid : (c b : List ℕ) (node : PieceNode) (bars : List Bar) (on : Branching) (places : List ℕ) (kids : Shapes)
    (trees : Vec Proof Global) (boxes : Vec Below Global) (ns : List PieceNode) (name rest : List ℕ) (first : ℕ)
    → node ≡ Opened bars on places kids trees boxes → name ≡ first ∷ rest → kids ≡ shapes_of ns
    → (length (steps_on on places) ≤ first) ⊎ (length ns ≤ first) → part_in c b (shape_of node) name ≡ None
at_no_kid c b node bars on places kids trees boxes ns name rest first is named kids_are (inl le) =
    opened_at c b node bars on places kids trees boxes ns name rest first is named kids_are
    ∙ no_step c (b ++ places_of bars) (steps_on on places) (shapes_of ns) first rest le
at_no_kid c b node bars on places kids trees boxes ns name rest first is named kids_are (inr le) =
    opened_at c b node bars on places kids trees boxes ns name rest first is named kids_are
    ∙ no_node c (b ++ places_of bars) (steps_on on places) ns first rest le

-- where there is, it leads on in the kid
pub at_kid : (c b : List ℕ) (node kid : PieceNode) (bars : List Bar) (on : Branching) (places : List ℕ) (kids : Shapes)
    (trees : Vec Proof Global) (boxes : Vec Below Global) (ns : List PieceNode) (name rest : List ℕ) (first : ℕ)
    (c2 b2 : List ℕ) → node ≡ Opened bars on places kids trees boxes → name ≡ first ∷ rest → kids ≡ shapes_of ns
    → first < length (steps_on on places) → first < length ns → kid ≡ get_or ns first kid
    → c2 ≡ c ++ (step_at (steps_on on places) first).chosen
    → b2 ≡ (b ++ places_of bars) ++ (step_at (steps_on on places) first).barred
    → part_in c b (shape_of node) name ≡ part_in c2 b2 (shape_of kid) rest
at_kid c b node kid bars on places kids trees boxes ns name rest first c2 b2 is named kids_are lt less got chosen
    barred =
    let step = step_at (steps_on on places) first in
    opened_at c b node bars on places kids trees boxes ns name rest first is named kids_are
    ∙ kid_here c (b ++ places_of bars) (steps_on on places) ns first kid rest lt less
    ∙ sym (ap (λ (x : List ℕ). part_in x b2 (shape_of kid) rest) chosen
    ∙ ap (λ (x : List ℕ). part_in (c ++ step.chosen) x (shape_of kid) rest) barred
    ∙ ap (λ (n : PieceNode). part_in (c ++ step.chosen) ((b ++ places_of bars) ++ step.barred) (shape_of n) rest) got)

-- ---- a new node at a name

-- what is put below an opened node is put in its kids
put_in_opened : (node : PieceNode) (bars : List Bar) (on : Branching) (places : List ℕ) (kids made : Shapes)
    (trees : Vec Proof Global) (boxes : Vec Below Global) (name rest : List ℕ) (first : ℕ) (new : PieceNode)
    → node ≡ Opened bars on places kids trees boxes → name ≡ first ∷ rest
    → made ≡ put_below kids first rest (shape_of new)
    → parted (record { bars = bars; on = on }) places (length trees.items) (length boxes.items) made
    ≡ put_in (shape_of node) name (shape_of new)
put_in_opened node bars on places kids made trees boxes name rest first new is named made_is =
    let way : Way = record { bars = bars; on = on } in
    ap (parted way places (length trees.items) (length boxes.items)) made_is
    ∙ sym (ap (λ (n : PieceNode). put_in (shape_of n) name (shape_of new)) is
    ∙ ap (λ (l : List ℕ). put_in (parted way places (length trees.items) (length boxes.items) kids) l (shape_of new))
    named)

-- a node put in a kid is put in the opened node
pub put_at_kid : (node : PieceNode) (bars : List Bar) (on : Branching) (places : List ℕ) (kids made : Shapes)
    (trees : Vec Proof Global) (boxes : Vec Below Global) (ns now : List PieceNode) (name rest : List ℕ) (first : ℕ)
    (new kid junk d : PieceNode) → node ≡ Opened bars on places kids trees boxes → name ≡ first ∷ rest
    → shapes_of ns ≡ kids → first < length ns
    → shape_of kid ≡ put_in (shape_of (get_or ns first d)) rest (shape_of new)
    → now ≡ set (set ns first junk) first kid → made ≡ shapes_of now
    → parted (record { bars = bars; on = on }) places (length trees.items) (length boxes.items) made
    ≡ put_in (shape_of node) name (shape_of new)
put_at_kid node bars on places kids made trees boxes ns now name rest first new kid junk d is named kids_are lt done
    is_now made_is =
    let step : shapes_of now ≡ put_below (shapes_of ns) first rest (shape_of new) =
    ap shapes_of (is_now ∙ set_twice ns first junk kid) ∙ put_kid ns first rest (shape_of new) kid d lt done in
    put_in_opened node bars on places kids made trees boxes name rest first new is named
    (made_is ∙ step ∙ ap (λ (k : Shapes). put_below k first rest (shape_of new)) kids_are)

-- put below no kid, it changes nothing
pub put_at_none : (node : PieceNode) (bars : List Bar) (on : Branching) (places : List ℕ) (kids made : Shapes)
    (trees : Vec Proof Global) (boxes : Vec Below Global) (ns : List PieceNode) (name rest : List ℕ) (first : ℕ)
    (new : PieceNode) → node ≡ Opened bars on places kids trees boxes → name ≡ first ∷ rest → shapes_of ns ≡ kids
    → length ns ≤ first → made ≡ shapes_of ns
    → parted (record { bars = bars; on = on }) places (length trees.items) (length boxes.items) made
    ≡ put_in (shape_of node) name (shape_of new)
put_at_none node bars on places kids made trees boxes ns name rest first new is named kids_are le made_is =
    put_in_opened node bars on places kids made trees boxes name rest first new is named
    (made_is ∙ put_far ns first rest (shape_of new) le
    ∙ ap (λ (k : Shapes). put_below k first rest (shape_of new)) kids_are)
