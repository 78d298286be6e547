-- The certificate of best plans of all regions is accepted.
use Rattle.std.proofs.Common.{◌≡◌, ℕ, zero, suc, ◌<◌, ◌≤◌, Bool, true, false, ◌||◌, ◌&&◌, nat_eq, nat_le, IsTrue, List}
use Rattle.std.proofs.Common.{[], ◌∷◌, ◌++◌, length, get_or, All, Contains, map, refl, sym, ap, subst, ◌∙◌, arith}
use Rattle.std.proofs.Common.{◌⊎◌, inl, inr, length-append}
use Rattle.std.specs.Prelude.{if◌then◌else◌, slice_index}
use Rattle.std.proofs.lemmas.Bool.{cases_lt, true≢false}
use Rattle.std.proofs.lemmas.Bool.Decides.{nat_tests}
use Rattle.std.proofs.lemmas.List.{get_or_past, length-map}
use Rattle.std.proofs.lemmas.List.Elements.{All-head, All-tail, All-cons, All-nil, All-weaker, All-map}
use Rattle.std.proofs.lemmas.List.Elements.{Contains-append_left, Contains-append_right}
use Rattle.cave_base.specs.Box.{cell_count}
use Rattle.cave_base.specs.declared.class.Class.{Class}
use Rattle.cave_base.specs.Class.{void}
use Rattle.cave_model.specs.Cave.{Cave, class_at, IsSound, IsWorld}
use Rattle.cave_model.specs.Coverage.{of_cave, IsLitBy, IsPlaceOf}
use Rattle.cave_model.specs.Rule.{is_need}
use Rattle.cave_model.specs.Spawn.{IsDark}
use Rattle.cave_model.specs.Torches.{IsPlace}
use Rattle.cave_model.specs.Plan.{AreDistinct, hung}
use Rattle.cave_model.specs.Listing.{ListsAll}
use Rattle.cave_model.specs.Regions.{all_cells, AreRegions}
use Rattle.proof_check.proofs.FewestLemmas.{length-cells}
use Rattle.cave_model.proofs.TorchLemmas.{spawnable_inside}
use Rattle.cave_problem.proofs.CoverLemmas.{cells_hung}
use Rattle.set_cover.specs.Instance.{of_instance}
use Rattle.instance_regions.specs.Splitting.{least_cell}
use Rattle.proof_rules.specs.Tree.{Tree, Forest, leaf, weighted, branch, bar, omit, pick, none, more}
use Rattle.proof_rules.specs.Good.{Good}
use Rattle.proof_rules.specs.Certificate.{Section, Version, first, second, third, fourth, need_of, IsKnownTo}
use Rattle.proof_rules.specs.Certificate.{AreKnownTo, IsVersionOf, IsSectionIn, IsInRange, torches_of}
use Rattle.proof_rules.proofs.ListLemmas.{no_member, all_members, at_member, distinct_nil}
use Rattle.proof_rules.proofs.OmitLemmas.{bool_cases}
use Rattle.proof_rules.proofs.CarryLemmas.{carries}
use Rattle.proof_rules.proofs.BoundLemmas.{bounds, piece_serves}
use Rattle.proof_tree.specs.Order.{in_order, ordered_tree, ordered_trees}
use Rattle.certificate_text.specs.Planned.{Plan, version_for, versions_for, plans_version, need_version, version_needed}
use Rattle.certificate_text.specs.Planned.{version_of, section_of, certificate_of}
use Rattle.certificate_text.specs.Planned.{certificate_text, IsBestOf, AreBestOf}
use Rattle.proof_tree.proofs.OrderLemmas.{has_ordered, ordered_has, length_ordered}
use Rattle.proof_check.specs.Accepted.{AreProved, Proves, Accepts, IsBestPlan}
use Rattle.cave_plan.specs.Best.{AreTorchesOf}
use Rattle.cave_plan.specs.Bounded.{Bounded, IsBoundedIn, AreBoundedIn, AreInOrder, all_torches, total_floor}
use Rattle.cave_plan.proofs.OrderedLemmas.{order_distinct, good_in_order, tree_in_range, listed_in_order, no_more_than}
use Rattle.cave_plan.proofs.PartLemmas.{AreTorches, torches_are, are_apart, cells_in, plan_within, same_number}

-- ---- the plans as bounded parts

-- the same region with its torches in order
abbrev pub part_of : Plan → Bounded
part_of plan = record {
  region = plan.region;
  torches = in_order plan.torches;
  floor = length plan.torches;
  spent = false;
  granted = 0;
}

-- the best plan of a region bounds it from both sides
pub best_bounded : (cave : Cave) (plan : Plan) → IsBestOf cave plan → IsBoundedIn cave (part_of plan)
best_bounded cave plan best = record {
  agrees = best.agrees;
  cover = record {
    distinct = order_distinct plan.torches best.cover.distinct;
    of_it = all_members (IsPlaceOf (of_instance plan.region) plan.region.cells) (in_order plan.torches)
        (λ p h. at_member (IsPlaceOf (of_instance plan.region) plan.region.cells) plan.torches p best.cover.of_it
        (has_ordered plan.torches p h));
    covers = λ c h. (let by = best.cover.covers c h in (by.0, ordered_has plan.torches by.0 by.1, by.2));
  };
  none_below = λ places is. bounds (of_instance plan.region) plan.region.cells [] [] plan.tree (length plan.torches)
      places distinct_nil best.good
      (piece_serves (of_instance plan.region) plan.region.cells [] [] places is);
}

-- the parts of plans have the plans' regions
same_cells : (plans : List Plan)
    → map (λ (part : Bounded). part.region.cells) (map part_of plans) ≡ map (λ (plan : Plan). plan.region.cells) plans
same_cells [] = refl
same_cells (p ∷ ps) = ap (λ (l : List (List ℕ)). p.region.cells ∷ l) (same_cells ps)

-- and so have their sections
section_cells : (plans : List Plan)
    → map (λ (section : Section). section.cells) (map section_of plans) ≡ map (λ (plan : Plan). plan.region.cells) plans
section_cells [] = refl
section_cells (p ∷ ps) = ap (λ (l : List (List ℕ)). p.region.cells ∷ l) (section_cells ps)

-- and the least cells of their regions
pub section_leasts : (plans : List Plan) → map (λ (section : Section). slice_index section.cells 0)
    (map section_of plans) ≡ map (λ (plan : Plan). least_cell plan.region) plans
section_leasts [] = refl
section_leasts (p ∷ ps) = ap (λ (l : List ℕ). least_cell p.region ∷ l) (section_leasts ps)

-- the sections of plans have the torches of the parts
pub section_torches : (plans : List Plan) → all_torches (map part_of plans) ≡ torches_of (map section_of plans)
section_torches [] = refl
section_torches (p ∷ ps) = ap (λ (l : List ℕ). in_order p.torches ++ l) (section_torches ps)

-- the best plans of all regions bound each of them
pub best_are_bounded : (cave : Cave) (plans : List Plan) → AreBestOf cave plans → AreBoundedIn cave (map part_of plans)
best_are_bounded cave plans best = record {
  regions = subst (AreRegions cave) (sym (same_cells plans)) best.regions;
  each = All-map (IsBoundedIn cave) part_of plans
      (All-weaker (IsBestOf cave) (λ plan. IsBoundedIn cave (part_of plan)) (best_bounded cave) plans best.each);
}

-- ---- the version

mutual
  -- no version has a greater number than 4
  version_most : (tree : Tree) → version_for tree ≤ 4
  version_most (leaf cells) = omega arith
  version_most (weighted groups) = omega arith
  version_most (branch cell kids) = versions_most kids
  version_most (bar place by kid) = (let below = version_most kid in omega (arith, below))
  version_most (omit cells kid) = (let below = version_most kid in omega (arith, below))
  version_most (pick place with without) = omega arith

  versions_most : (trees : Forest) → versions_for trees ≤ 4
  versions_most none = omega arith
  versions_most (more t ts) = (let first = version_most t in let rest = versions_most ts in omega (arith, first, rest))

-- nor has one that plans ask for
plans_most : (plans : List Plan) → plans_version plans ≤ 4
plans_most [] = omega arith
plans_most (p ∷ ps) = (let first = version_most p.tree in let rest = plans_most ps in omega (arith, first, rest))

mutual
  -- a version with the number of a tree or a greater one knows the tree
  known_tree : (version : ℕ) (tree : Tree) → version_for tree ≤ version → IsKnownTo version (ordered_tree tree)
  known_tree version (leaf cells) le = tt
  known_tree version (weighted groups) le = le
  known_tree version (branch cell kids) le = known_trees version kids le
  known_tree version (bar place by kid) le = (omega (arith, le), known_tree version kid (omega (arith, le)))
  known_tree version (omit cells kid) le = (omega (arith, le), known_tree version kid (omega (arith, le)))
  known_tree version (pick place with without) le = (
    le,
    known_tree version with (let most = version_most with in omega (arith, le, most)),
    known_tree version without (let most = version_most without in omega (arith, le, most)),
  )

  known_trees : (version : ℕ) (trees : Forest) → versions_for trees ≤ version
      → AreKnownTo version (ordered_trees trees)
  known_trees version none le = tt
  known_trees version (more t ts) le =
      (known_tree version t (omega (arith, le)), known_trees version ts (omega (arith, le)))

-- and those of plans where it has theirs
known_sections : (version : ℕ) (plans : List Plan) → plans_version plans ≤ version
    → All (λ (section : Section). IsKnownTo version section.tree) (map section_of plans)
known_sections version [] le = All-nil (λ (section : Section). IsKnownTo version section.tree)
known_sections version (p ∷ ps) le = All-cons (λ (section : Section). IsKnownTo version section.tree) (section_of p)
    (map section_of ps) (known_tree version p.tree (omega (arith, le))) (known_sections version ps (omega (arith, le)))

-- a number that is one of two is the first or the second
eq_cases : (a b c : ℕ) → IsTrue (nat_eq a b || nat_eq a c) → (a ≡ b) ⊎ (a ≡ c)
eq_cases a b c is = elim (bool_cases (nat_eq a b)) [
  | inl t ↦ inl (grind (arith, nat_tests, t))
  | inr f ↦ inr (let same : nat_eq a c ≡ true = subst (λ (x : Bool). (x || nat_eq a c) ≡ true) f is in
      grind (arith, nat_tests, same))
]

-- a need for which the first version would do is one
need_is_one : (need : ℕ) → need_version need < 2 → need ≡ 1
need_is_one need lt = elim (bool_cases (nat_eq need 1)) [
  | inl t ↦ grind (arith, nat_tests, t)
  | inr f ↦ absurd (let two : need_version need ≡ 2 = ap (λ (b : Bool). if b then 1 else 2) f in omega (arith, lt, two))
]

-- a version that fits sections and a need, and says the need
pub record Fits (sections : List Section) (need : ℕ) (version : Version) : Type 0 where
  pub fits : IsVersionOf sections version
  pub says : need_of version ≡ need

-- the version of a number fits what has that number
version_fits : (need : ℕ) (plans : List Plan) (s t u : Bool) → nat_le 4 (version_needed need plans) ≡ s
    → nat_le 3 (version_needed need plans) ≡ t → nat_le 2 (version_needed need plans) ≡ u → IsTrue (is_need need)
    → Fits (map section_of plans) need
    (if s then fourth need else (if t then third need else (if u then second need else first)))
version_fits need plans true t u d e f is = record {
  fits = record { known = known_sections 4 plans (plans_most plans); needed = eq_cases need 1 8 is };
  says = refl;
}
version_fits need plans false true u d e f is =
    let below : version_needed need plans < 4 = grind (arith, nat_tests, d) in record {
      fits = record { known = known_sections 3 plans (omega (arith, below)); needed = eq_cases need 1 8 is };
      says = refl;
    }
version_fits need plans false false true d e f is =
    let below : version_needed need plans < 3 = grind (arith, nat_tests, e) in record {
      fits = record { known = known_sections 2 plans (omega (arith, below)); needed = eq_cases need 1 8 is };
      says = refl;
    }
version_fits need plans false false false d e f is =
    let below : version_needed need plans < 2 = grind (arith, nat_tests, f) in record {
      fits = record { known = known_sections 1 plans (omega (arith, below)); needed = inl refl };
      says = sym (need_is_one need (omega (arith, below)));
    }

-- ---- in range

-- a place of a sound cave lies in the box
pub place_inside : (cave : Cave) (p : ℕ) → IsSound cave → IsPlace cave p → p < cell_count cave.size
place_inside cave p sound place = subst (λ (n : ℕ). p < n) sound.whole (elim (cases_lt p (length cave.classes)) [
  | inl lt ↦ lt
  | inr le ↦ absurd (true≢false (sym (first_true (class_at cave p).put _ place.1) ∙ ap (λ (class : Class). class.put)
      (get_or_past cave.classes p void le)))
])
  where
    first_true : (a b : Bool) → (a && b) ≡ true → a ≡ true
    first_true true b e = refl
    first_true false b e = e

module _ (cave : Cave) (plans : List Plan) (world : IsWorld cave) (best : AreBestOf cave plans) where
  dark_inside : (cell : ℕ) → IsDark cave cell → cell < cell_count cave.size
  dark_inside cell dark = spawnable_inside cave cell world.sound dark.spawnable

  module _ (plan : Plan) (is : IsBestOf cave plan) (dark : (c : ℕ) → Contains plan.region.cells c → IsDark cave c) where
    good_cave : Good (of_cave cave) plan.region.cells [] [] (length plan.torches) plan.tree
    good_cave = carries (of_instance plan.region) (of_cave cave) plan.region.cells is.agrees [] []
        (length plan.torches) plan.tree (λ p h. no_member p h) is.good

    proved : Good (of_cave cave) plan.region.cells [] [] (length (in_order plan.torches)) (ordered_tree plan.tree)
    proved = subst (λ (n : ℕ). Good (of_cave cave) plan.region.cells [] [] n (ordered_tree plan.tree))
        (sym (length_ordered plan.torches))
        (good_in_order (of_cave cave) plan.region.cells [] [] (length plan.torches) plan.tree good_cave)

    legal : (p : ℕ) → Contains plan.torches p → IsPlace cave p
    legal p h = is.agrees.wider p (at_member (IsPlaceOf (of_instance plan.region) plan.region.cells) plan.torches p
        is.cover.of_it h).0

    some_torch : 0 < length (in_order plan.torches)
    some_torch =
        (let cell = first_cell plan.region.cells is.kept.filled in
        let by = is.cover.covers cell.0 cell.1 in
        omega (arith, by.1.1, length_ordered plan.torches))
      where
        first_cell : (cells : List ℕ) → 0 < length cells → (c : ℕ) × Contains cells c
        first_cell [] lt = absurd (omega arith)
        first_cell (c ∷ cs) lt = (c, Contains-append_left (c ∷ []) cs c (0, omega arith, refl))

    section_in : IsSectionIn (cell_count cave.size) (section_of plan)
    section_in = record {
      dark = record {
        ascending = is.kept.kept.cells_ascend;
        below = all_members (λ cell. cell < cell_count cave.size)
            plan.region.cells (λ c h. dark_inside c (dark c h));
      };
      filled = is.kept.filled;
      lit_by = listed_in_order (cell_count cave.size) plan.torches is.cover.distinct
          (λ p h. place_inside cave p world.sound (legal p h));
      some = some_torch;
      proof = tree_in_range (of_cave cave) (cell_count cave.size) (λ p place. place_inside cave p world.sound place)
          plan.region.cells (λ c h. dark_inside c (dark c h)) [] [] (length plan.torches) plan.tree good_cave;
    }

  dark_of : (i : ℕ) (d : Plan) → i < length plans → (c : ℕ) → Contains (get_or plans i d).region.cells c → IsDark cave c
  dark_of i d lt c h = (best.regions.exact c).0 (in_all plans i d lt c h)
    where
      in_all : (ps : List Plan) (i : ℕ) (d : Plan) → i < length ps → (c : ℕ) → Contains (get_or ps i d).region.cells c
          → Contains (all_cells (map (λ (plan : Plan). plan.region.cells) ps)) c
      in_all [] i d lt c h = absurd (omega arith)
      in_all (p ∷ ps) zero d lt c h =
          Contains-append_left p.region.cells (all_cells (map (λ (plan : Plan). plan.region.cells) ps)) c h
      in_all (p ∷ ps) (suc i) d lt c h =
          Contains-append_right p.region.cells (all_cells (map (λ (plan : Plan). plan.region.cells) ps)) c
          (in_all ps i d (omega arith) c h)

  sections_in : All (IsSectionIn (cell_count cave.size)) (map section_of plans)
  sections_in = All-map (IsSectionIn (cell_count cave.size)) section_of plans
      (λ i d lt. section_in (get_or plans i d) (best.each i d lt) (dark_of i d lt))

  sections_proved : AreProved cave (λ section. length section.torches) (map section_of plans)
  sections_proved = All-map (λ (section : Section). Good (of_cave cave) section.cells [] []
      (length section.torches) section.tree) section_of plans
      (λ i d lt. proved (get_or plans i d) (best.each i d lt) (dark_of i d lt))

  -- no more regions than cells
  few : length (map section_of plans) ≤ cell_count cave.size
  few =
      (let cells = map (λ (plan : Plan). plan.region.cells) plans in
      let regions = each_some cells best.regions.filled in
      let inside = no_more_than (all_cells cells)
      (cell_count cave.size) best.regions.once (λ c h. dark_inside c ((best.regions.exact c).0 h)) in
      omega (
        arith,
        regions,
        inside,
        length-map plans (λ (plan : Plan). plan.region.cells),
        length-map plans section_of,
      ))
    where
      each_some : (lists : List (List ℕ)) → All (λ cells. 0 < length cells) lists
          → length lists ≤ length (all_cells lists)
      each_some [] all = omega arith
      each_some (l ∷ ls) all =
          let rest = each_some ls (All-tail (λ (cells : List ℕ). 0 < length cells) l ls all) in
          let one : 0 < length l = All-head (λ (cells : List ℕ). 0 < length cells) l ls all in
          omega (arith, rest, one, length-append l (all_cells ls))

  version : Fits (map section_of plans) cave.rule.need (version_of cave.rule.need plans)
  version = version_fits cave.rule.need plans (nat_le 4 (version_needed cave.rule.need plans))
      (nat_le 3 (version_needed cave.rule.need plans)) (nat_le 2 (version_needed cave.rule.need plans)) refl refl refl
      world.ruled.needed

  in_range : IsInRange (certificate_of cave plans)
  in_range = record {
    small = world.small;
    ruled = eq_cases cave.rule.headroom 1 2 world.ruled.high;
    versioned = version.fits;
    few = few;
    each = sections_in;
  }

  torches : AreTorches cave (map part_of plans)
  torches = (let bounded = best_are_bounded cave plans best in
      torches_are cave (map part_of plans) bounded.each (are_apart cave (map part_of plans) bounded.regions.apart))

  covered : (cell : ℕ) → IsDark cave cell → Contains (cells_in (map part_of plans)) cell
  covered cell dark = ((best_are_bounded cave plans best).regions.exact cell).1 dark

  proves : Proves cave (certificate_of cave plans)
  proves = record {
    of_cave = record {
      box = refl;
      headroom = refl;
      need = version.says;
    };
    places = record {
      legal = subst (All (IsPlace cave)) (section_torches plans)
          (all_members (IsPlace cave) (all_torches (map part_of plans)) torches.legal);
      distinct = subst AreDistinct (section_torches plans) torches.distinct;
    };
    lit = λ cell dark. subst (λ (places : List ℕ). IsLitBy (of_cave cave) places cell) (section_torches plans)
        (torches.covers cell (covered cell dark));
    regions = subst (AreRegions cave) (sym (section_cells plans)) best.regions;
    trees = sections_proved;
  }

  -- the certificate of best plans is accepted
  pub accepted : Accepts cave (certificate_text cave plans) (certificate_of cave plans)
  accepted = record { text = record { in_range = in_range; text = refl }; proves = proves }

  -- ---- the fewest

  floors_are : total_floor (map part_of plans) ≡ length (all_torches (map part_of plans))
  floors_are = sum plans
    where
      sum : (ps : List Plan) → total_floor (map part_of ps) ≡ length (all_torches (map part_of ps))
      sum [] = refl
      sum (p ∷ ps) = (let rest = sum ps in
          omega (
            arith,
            rest,
            length_ordered p.torches,
            length-append (in_order p.torches)
                (all_torches (map part_of ps)),
          ))

  -- and so their torches are a best plan
  pub fewest : (cells : List ℕ) → AreTorchesOf plans cells → IsBestPlan cave cells
  fewest cells order =
      let bounded = best_are_bounded cave plans best in
      let in_parts : AreInOrder (map part_of plans) cells = subst (λ (l : List ℕ). ListsAll (Contains l) cells)
      (sym (section_torches plans)) order in
      let within = plan_within cave (map part_of plans) cells world.sound bounded in_parts in
      let number = same_number cave (map part_of plans) cells bounded in_parts in
      record {
        hung = (hung cave cells, cells_hung cave cells, within.safe);
        fewest = record {
          enough = (
            hung cave cells,
            within.safe,
            sym (length-cells (hung cave cells)) ∙ ap length (cells_hung cave cells),
          );
          least = λ others safe. (let le = within.floored others safe in omega (arith, le, floors_are, number));
        };
      }
