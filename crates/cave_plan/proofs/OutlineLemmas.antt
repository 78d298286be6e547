-- The plan of a cave, from those of its regions.
use Rattle.std.proofs.Common.{◌≡◌, ℕ, ◌<◌, ◌≤◌, Bool, true, false, List, [], ◌∷◌, length, map, All, Contains, arith}
use Rattle.std.proofs.Common.{refl, sym, ap, subst, Some, None, inl, inr}
use Rattle.std.specs.Prelude.{flat_map}
use Rattle.std.specs.List.Sorted.{IsStrictlyIncreasing}
use Rattle.std.proofs.lemmas.List.Elements.{All-head, All-tail, All-cons, All-nil, Contains-append_cases}
use Rattle.std.proofs.lemmas.List.Elements.{Contains-append_left, Contains-append_right}
use Rattle.cave_base.specs.Box.{cell_count}
use Rattle.cave_model.specs.Cave.{Cave, IsSound, IsWorld}
use Rattle.cave_model.specs.Plan.{Torch, IsSafe}
use Rattle.cave_model.proofs.TorchLemmas.{safe_covers}
use Rattle.cave_problem.specs.Coverage.{IsUnlightable}
use Rattle.cave_model.specs.Coverage.{of_cave, Agrees}
use Rattle.cave_model.specs.Listing.{ListsAll}
use Rattle.cave_model.specs.Regions.{AreRegions}
use Rattle.set_cover.specs.Instance.{Instance, of_instance}
use Rattle.instance_regions.specs.Region.{IsRegion}
use Rattle.instance_regions.specs.Splitting.{cells_of_each, least_cell}
use Rattle.proof_rules.specs.Certificate.{torches_of}
use Rattle.proof_rules.proofs.ListLemmas.{all_members, here}
use Rattle.proof_rules.proofs.OmitLemmas.{bool_cases}
use Rattle.proof_tree.specs.Order.{in_order}
use Rattle.certificate_text.specs.Planned.{Plan, section_of, IsBestOf, AreBestOf}
use Rattle.proof_tree.proofs.OrderLemmas.{has_ordered, ordered_has}
use Rattle.cave_plan.specs.Best.{AreTorchesOf}
use Rattle.cave_plan.specs.Bounded.{Bounded, IsBoundedIn, AreBoundedIn, AreInOrder, IsPlanWithin, IsEnded, IsSumOf}
use Rattle.search_traits.specs.declared.planner.Allowance.{Allowance}
use Rattle.cave_plan.specs.Bounded.{total_floor}
use Rattle.cave_plan.proofs.PartLemmas.{torches_are, are_apart, plan_within, legal_places}
use Rattle.cave_plan.proofs.AcceptedLemmas.{fewest, place_inside}
use Rattle.cave_plan.specs.Course.{Course, IsBounded, IsProved, IsCourse, floor_if}
use Rattle.cave_plan.specs.Outline.{AreRegionsIn, IsPlanned, IsStoppedAt, Shows, Prints}

abbrev AgreesIn : Cave → Instance → Type 0
AgreesIn cave region = Agrees (of_instance region) (of_cave cave) region.cells

-- ---- regions

-- the cells of regions that are parts of something
cells_by : {X : Type 0} (f : X → Instance) (xs : List X) → cells_of_each (map f xs) ≡ map (λ x. (f x).cells) xs
cells_by f [] = refl
cells_by f (x ∷ xs) = ap (λ (l : List (List ℕ)). (f x).cells ∷ l) (cells_by f xs)

-- the same of the regions of a cave
regions_by : {X : Type 0} (cave : Cave) (regions : List Instance) (f : X → Instance) (xs : List X)
    → map f xs ≡ regions → AreRegions cave (cells_of_each regions)
    → AreRegions cave (map (λ x. (f x).cells) xs)
regions_by cave regions f xs e are = subst (AreRegions cave) (cells_by f xs)
    (subst (λ (l : List Instance). AreRegions cave (cells_of_each l)) (sym e) are)

-- the least cells of regions that are parts of something
leasts_by : {X : Type 0} (f : X → Instance) (xs : List X) → map least_cell (map f xs) ≡ map (λ x. least_cell (f x)) xs
leasts_by f [] = refl
leasts_by f (x ∷ xs) = ap (λ (l : List ℕ). least_cell (f x) ∷ l) (leasts_by f xs)

-- where those of the regions of a cave ascend, those of their parts do
ordered_by : {X : Type 0} (regions : List Instance) (f : X → Instance) (xs : List X) → map f xs ≡ regions
    → IsStrictlyIncreasing (map least_cell regions) → IsStrictlyIncreasing (map (λ x. least_cell (f x)) xs)
ordered_by regions f xs e up = subst IsStrictlyIncreasing (leasts_by f xs)
    (subst (λ (l : List Instance). IsStrictlyIncreasing (map least_cell l)) (sym e) up)

-- bounds of regions that agree with the cave are bounds in it
each_bounded : (cave : Cave) (parts : List Bounded) → All IsBounded parts
    → All (AgreesIn cave) (map (λ part. part.region) parts) → All (IsBoundedIn cave) parts
each_bounded cave [] all agree = All-nil (IsBoundedIn cave)
each_bounded cave (p ∷ ps) all agree =
    let rest = map (λ (part : Bounded). part.region) ps in
    let is = All-head IsBounded p ps all in
    All-cons (IsBoundedIn cave) p ps (record {
      agrees = All-head (AgreesIn cave) p.region rest agree;
      cover =
          is.cover;
      none_below = is.none_below;
    })
    (each_bounded cave ps (All-tail IsBounded p ps all) (All-tail (AgreesIn cave) p.region rest agree))

-- where there is some number there is a first one
first_of : (cells : List ℕ) → 0 < length cells → (c : ℕ) × Contains cells c
first_of [] lt = absurd (omega arith)
first_of (c ∷ cs) lt = (c, here c cs)

-- the floor of a region's part is at least 1
ended : (part : Bounded) → IsBounded part → IsRegion part.region → IsEnded part
ended part is region = record {
  whole = is.whole;
  some = elim (bool_cases part.spent) [
    | inl t ↦ is.some t
    | inr f ↦ (let cell = first_of part.region.cells region.filled in
        let by = is.cover.covers cell.0 cell.1 in let size = is.whole f in omega (arith, by.1.1, size))
  ];
}

-- and so is that of each
each_ended : (parts : List Bounded) → All IsBounded parts → All IsRegion (map (λ part. part.region) parts)
    → All IsEnded parts
each_ended [] all kept = All-nil IsEnded
each_ended (p ∷ ps) all kept =
    let rest = map (λ (part : Bounded). part.region) ps in
    All-cons IsEnded p ps (ended p (All-head IsBounded p ps all) (All-head IsRegion p.region rest kept))
    (each_ended ps (All-tail IsBounded p ps all) (All-tail IsRegion p.region rest kept))

-- and their sum, where there is some part
some_sum : (parts : List Bounded) → All IsEnded parts → Contains (map (λ part. part.spent) parts) true
    → 1 ≤ total_floor parts
some_sum [] all has = absurd (omega (arith, has.1))
some_sum (p ∷ ps) all has = (let one = (All-head IsEnded p ps all).some in omega (arith, one))

-- proved plans of regions that agree with the cave are best in it
each_best : (cave : Cave) (plans : List Plan) → All IsProved plans → All IsRegion (map (λ plan. plan.region) plans)
    → All (AgreesIn cave) (map (λ plan. plan.region) plans) → All (IsBestOf cave) plans
each_best cave [] all kept agree = All-nil (IsBestOf cave)
each_best cave (p ∷ ps) all kept agree =
    let rest = map (λ (plan : Plan). plan.region) ps in
    let is = All-head IsProved p ps all in
    All-cons (IsBestOf cave) p ps (record {
      kept = All-head IsRegion p.region rest kept;
      agrees = All-head
          (AgreesIn cave) p.region rest agree;
      cover = is.cover;
      good = is.good;
    })
    (each_best cave ps (All-tail IsProved p ps all) (All-tail IsRegion p.region rest kept)
    (All-tail (AgreesIn cave) p.region rest agree))

-- ---- torches, in order or not

abbrev loose : List Plan → List ℕ
loose plans = flat_map (λ (plan : Plan). plan.torches) plans

abbrev ordered : List Plan → List ℕ
ordered plans = torches_of (map section_of plans)

-- ordering each plan's torches loses none
to_ordered : (plans : List Plan) (x : ℕ) → Contains (loose plans) x → Contains (ordered plans) x
to_ordered [] x h = h
to_ordered (p ∷ ps) x h = elim (Contains-append_cases p.torches (loose ps) x h) [
  | inl h ↦ Contains-append_left (in_order p.torches) (ordered ps) x (ordered_has p.torches x h)
  | inr h ↦ Contains-append_right (in_order p.torches) (ordered ps) x (to_ordered ps x h)
]

-- and adds none
to_loose : (plans : List Plan) (x : ℕ) → Contains (ordered plans) x → Contains (loose plans) x
to_loose [] x h = h
to_loose (p ∷ ps) x h = elim (Contains-append_cases (in_order p.torches) (ordered ps) x h) [
  | inl h ↦ Contains-append_left p.torches (loose ps) x (has_ordered p.torches x h)
  | inr h ↦ Contains-append_right p.torches (loose ps) x (to_loose ps x h)
]

-- a list of just the torches of all plans is that of the ordered ones
of_plans : (plans : List Plan) (torches cells : List ℕ) → loose plans ≡ torches → ListsAll (Contains torches) cells
    → AreTorchesOf plans cells
of_plans plans torches cells e order = record {
  ascending = order.ascending;
  exact = λ x. (
    (λ h. to_ordered plans x (subst (λ (l : List ℕ). Contains l x) (sym e) ((order.exact x).0 h))),
    (λ h. (order.exact x).1 (subst (λ (l : List ℕ). Contains l x) e (to_loose plans x h))),
  );
}

-- ---- the plan

module _ (cave : Cave) (allowance : Allowance) (regions : List Instance) (c : Course) (world : IsWorld cave)
    (are : AreRegionsIn cave regions) (is : IsCourse regions allowance c)
    (cells : List ℕ) (order : ListsAll (Contains c.torches) cells) where
  bounded : AreBoundedIn cave is.parts
  bounded = record {
    regions = regions_by cave regions (λ (part : Bounded). part.region) is.parts is.of_them are.parts;
    each = each_bounded cave is.parts is.each (subst (All (AgreesIn cave)) (sym is.of_them) are.agree);
  }

  in_parts : AreInOrder is.parts cells
  in_parts = subst (λ (l : List ℕ). ListsAll (Contains l) cells) (sym is.whole) order

  pub inside : All (λ cell. cell < cell_count cave.size) cells
  inside =
      let torches = torches_are cave is.parts bounded.each (are_apart cave is.parts bounded.regions.apart) in
      all_members (λ cell. cell < cell_count cave.size) cells
      (λ p h. place_inside cave p world.sound (torches.legal p ((in_parts.exact p).0 h)))

  summed : c.stopped ≡ true → IsSumOf cave allowance is.parts cells c.floor
  summed e =
      let all = each_ended is.parts is.each (subst (All IsRegion) (sym is.of_them) are.each) in
      record {
        bounded = bounded;
        ordered = ordered_by regions (λ (part : Bounded). part.region) is.parts is.of_them are.ordered;
        of_them = in_parts;
        ended = all;
        granted = is.granted;
        sum = sym is.total;
        some = subst (λ (n : ℕ). 1 ≤ n) is.total (some_sum is.parts all (is.spent e));
        spent = is.spent e;
      }

  within : IsPlanWithin cave cells (total_floor is.parts)
  within = plan_within cave is.parts cells world.sound bounded in_parts

  stopped_at : (text : List ℕ) → c.stopped ≡ true → Prints cave cells (Some c.floor) text
      → IsStoppedAt cave allowance text c.plans
  stopped_at text e prints = record {
    limited = is.limited e;
    torches = cells;
    floor = c.floor;
    within = subst (IsPlanWithin cave cells) is.total within;
    parts = is.parts;
    summed = summed e;
    finished_are = is.finished_are;
    prints = prints;
  }

  planned_to_end : (text : List ℕ) → c.stopped ≡ false → Prints cave cells None text → IsPlanned cave text c.plans
  planned_to_end text e prints =
      let proved = is.proved e in
      let best : AreBestOf cave c.plans = record {
        regions = regions_by cave regions (λ (plan : Plan). plan.region) c.plans proved.of_them are.parts;
        each = each_best cave c.plans proved.each (subst (All IsRegion) (sym proved.of_them) are.each)
            (subst (All (AgreesIn cave)) (sym proved.of_them) are.agree);
      } in
      let of_them = of_plans c.plans c.torches cells proved.whole order in
      record {
        world = world;
        torches = cells;
        safe = within.safe;
        best = fewest cave c.plans world best cells of_them;
        prints = prints;
        plans_are = best;
        ordered = ordered_by regions (λ (plan : Plan). plan.region) c.plans proved.of_them are.ordered;
        of_plans = of_them;
      }

  pub outlines : (stopped : Bool) (text : List ℕ) → c.stopped ≡ stopped
      → Prints cave cells (floor_if stopped c.floor) text → Shows cave allowance text stopped c.plans
  outlines true text e prints = stopped_at text e prints
  outlines false text e prints = planned_to_end text e prints

-- ---- no plan

-- where no torch lights a dark cell, no torches are safe
pub none_safe : (cave : Cave) (cell : ℕ) (torches : List Torch) → IsSound cave → IsUnlightable cave cell
    → IsSafe cave torches → ⊥
none_safe cave cell torches sound is safe =
    let cover = safe_covers cave torches sound safe in
    let by = cover.covered cell is.dark in
    is.alone by.0 (legal_places cave torches cover.legal by.0 by.1) by.2
