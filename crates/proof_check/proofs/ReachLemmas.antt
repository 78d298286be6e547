-- The reason against a certificate, from what the judge has kept of it.
use Rattle.std.proofs.Common.{◌≡◌, ℕ, ◌⊎◌, inl, inr, List, All, refl, sym, subst, ◌∙◌}
use Rattle.std.specs.Prelude.{Option, Some, None, MatchOption}
use Rattle.cave_base.specs.Box.{Point, cell_count}
use Rattle.cave_model.specs.Cave.{Cave}
use Rattle.lit_lists.specs.Lists.{LitLists}
use Rattle.proof_rules.specs.Certificate.{Certificate, AreListed, IsSectionIn, IsInRange, regions_of, torch_lists}
use Rattle.certificate_lines.specs.Said.{said_of}
use Rattle.proof_check.specs.Accepted.{IsOfCave, AreProved, Proves}
use Rattle.proof_check.specs.Ending.{Ends, node_reason}
use Rattle.proof_check.specs.Ends.{IsFirst, IsMisplaced, IsUnlitBy, DecidesBad}
use Rattle.proof_check.specs.Heard.{IsAfter}
use Rattle.proof_check.specs.Homes.{AreHomesOf}
use Rattle.proof_check.specs.Judged.{Judged}
use Rattle.proof_check.specs.Kept.{Keeps}
use Rattle.proof_check.specs.Refused.{IsListed, IsBadCell, IsFirstBad, first_weak, start_line, IsReasonOf}
use Rattle.proof_check.specs.Refused.{PassesPlaces, PassesLight, PassesRegions}
use Rattle.proof_check.specs.declared.judge.Judge.{Judge}
use Rattle.proof_check.specs.declared.nodes.NodeJudge.{NodeJudge}
use Rattle.proof_check.specs.declared.reason.Reason.{Reason}
use Rattle.proof_check.specs.declared.reason.Reason.TheVariants.{IllegalPlace, LeftDark, BadRegions}
use Rattle.proof_check.proofs.EndLemmas.{least_of, least_bad, places_of, least_left, none_left, regions_of_none}
use Rattle.proof_check.proofs.JudgedLemmas.{Found, certificate_runs}
use Rattle.proof_check.proofs.RefusalLemmas.{listed, all_strong}
use Rattle.proof_check.proofs.SayLemmas.{torches_said, regions_said, torches_in, regions_in, regions_filled}

-- the judge of nodes at the end: the first bad line; or that there is none, and the first weak one
abbrev NodesSay : Cave → Certificate → NodeJudge → Type 0
NodesSay cave c nodes = ((bad : ℕ) × IsFirstBad cave c.sections (start_line c.version) bad × (nodes.bad ≡ Some bad))
    ⊎ (AreProved cave (λ section. 0) c.sections × (nodes.bad ≡ None)
    × (nodes.weak ≡ first_weak c.sections (start_line c.version)))

-- what was found over all lines is what the judge of nodes says at the end
nodes_say : (cave : Cave) (c : Certificate) (lists : LitLists) (nodes : NodeJudge) (j : Judged)
    → Keeps cave lists nodes j
    → Found cave c.sections (start_line c.version) None j → NodesSay cave c nodes
nodes_say cave c lists nodes j kept (inl (bad, b, e)) = inl (bad, b, subst (Keeps cave lists nodes) e kept)
nodes_say cave c lists nodes j kept (inr (good, last, e, w)) =
    (let k = subst (Keeps cave lists nodes) e kept in inr (good, k.good, k.weak ∙ w))

module _ (cave : Cave) (judge : Judge) (c : Certificate) (range : IsInRange c) (of_it : IsOfCave cave c)
    (after : IsAfter cave judge (said_of c)) where
  sections_in : All (IsSectionIn (cell_count cave.size)) c.sections
  sections_in = subst (λ (p : Point). All (IsSectionIn (cell_count p)) c.sections) of_it.box range.each

  torch_homes : AreHomesOf (torch_lists c.sections) judge.torches
  torch_homes = subst (λ (l : List (List ℕ)). AreHomesOf l judge.torches) (torches_said c) after.torches

  region_homes : AreHomesOf (regions_of c) judge.regions
  region_homes = subst (λ (l : List (List ℕ)). AreHomesOf l judge.regions) (regions_said c) after.regions

  torch_lists_in : All (AreListed (cell_count cave.size)) (torch_lists c.sections)
  torch_lists_in = torches_in (cell_count cave.size) c.sections sections_in

  illegal : (count cell : ℕ) → count ≡ cell_count cave.size
      → IsFirst (IsMisplaced judge.lists.places judge.torches) count (Some cell) → IsReasonOf cave c (IllegalPlace cell)
  illegal count cell e f = (
    of_it,
    least_bad cave judge.lists (torch_lists c.sections) judge.torches after.known torch_homes
        after.torch_cells torch_lists_in count cell e f,
  )

  module _ (count : ℕ) (same : count ≡ cell_count cave.size)
      (placed : IsFirst (IsMisplaced judge.lists.places judge.torches) count None) where
    passes_places : PassesPlaces cave c
    passes_places = record {
      of_cave = of_it;
      places = places_of cave judge.lists (torch_lists c.sections)
          judge.torches after.known torch_homes after.torch_cells torch_lists_in count same placed;
    }

    left : (cell : ℕ) → IsFirst (IsUnlitBy judge.lists judge.torches) count (Some cell)
        → IsReasonOf cave c (LeftDark cell)
    left cell f = (
      passes_places,
      least_left cave judge.lists (torch_lists c.sections)
          judge.torches after.known torch_homes after.torch_cells torch_lists_in count cell same
          passes_places.places f,
    )

    module _ (lit : IsFirst (IsUnlitBy judge.lists judge.torches) count None) where
      passes_light : PassesLight cave c
      passes_light = record {
        before = passes_places;
        lit = none_left cave judge.lists (torch_lists c.sections)
            judge.torches after.known torch_homes after.torch_cells torch_lists_in count same
            passes_places.places lit;
      }

      bad_regions : (cell : ℕ) → DecidesBad cave judge.lists judge.regions (cell_count cave.size) (Some cell)
          → IsReasonOf cave c (BadRegions cell)
      bad_regions cell d = (
        passes_light,
        least_of (IsBadCell cave (regions_of c)) (cell_count cave.size) cell
            (d.each (regions_of c) after.known region_homes after.region_cells),
      )

      module _ (parted : DecidesBad cave judge.lists judge.regions (cell_count cave.size) None) where
        passes_regions : PassesRegions cave c
        passes_regions = record {
          before = passes_light;
          regions = regions_of_none cave judge.lists (regions_of c) judge.regions after.known region_homes
              after.region_cells
              (regions_in (cell_count cave.size) c.sections sections_in)
              (regions_filled (cell_count cave.size) c.sections sections_in)
              (parted.each (regions_of c) after.known region_homes after.region_cells);
        }

        says : NodesSay cave c judge.nodes
        says =
            let led = after.led (λ cell l.
            (let m = subst (λ (p : List (List ℕ)). IsListed p cell) (regions_said c) l in
            (passes_regions.regions.exact cell).0 (listed (regions_of c) m.0 cell m.1))) in
            nodes_say cave c judge.lists judge.nodes led.j led.keeps (certificate_runs cave c led.j range.each led.runs)

        by_nodes : (bad weak : Option ℕ) → judge.nodes.bad ≡ bad → judge.nodes.weak ≡ weak
            → MatchOption (node_reason bad weak) (Proves cave c) (IsReasonOf cave c)
        by_nodes (Some line) weak e w = elim says [
          | inl (bad, first, f) ↦ (let same : bad ≡ line = cc in
              (passes_regions, subst (IsFirstBad cave c.sections (start_line c.version)) same first))
          | inr (good, f, g) ↦ absurd cc
        ]
        by_nodes None (Some line) e w = elim says [
          | inl (bad, first, f) ↦ absurd cc
          | inr (good, f, g) ↦ (record { before = passes_regions; nodes = good }, sym g ∙ w)
        ]
        by_nodes None None e w = elim says [
          | inl (bad, first, f) ↦ absurd cc
          | inr (good, f, g) ↦ record {
            of_cave = of_it;
            places = passes_places.places;
            lit = passes_light.lit;
            regions = passes_regions.regions;
            trees = all_strong cave c.sections (start_line c.version) good (sym g ∙ w);
          }
        ]

module _ (cave : Cave) (judge : Judge) (count : ℕ) (same : count ≡ cell_count cave.size) where
  -- a misplaced cell is the reason
  pub ends_illegal : (cell : ℕ) → IsFirst (IsMisplaced judge.lists.places judge.torches) count (Some cell)
      → Ends cave judge (Some (IllegalPlace cell))
  ends_illegal cell f = record {
    each = λ c range of_it after. illegal cave judge c range of_it after count
        cell same f;
  }

  -- else a cell left dark is
  pub ends_left : (cell : ℕ) → IsFirst (IsMisplaced judge.lists.places judge.torches) count None
      → IsFirst (IsUnlitBy judge.lists judge.torches) count (Some cell) → Ends cave judge (Some (LeftDark cell))
  ends_left cell p f = record { each = λ c range of_it after. left cave judge c range of_it after count same p cell f }

  -- else a bad cell of the regions is
  pub ends_regions : (cell : ℕ) → IsFirst (IsMisplaced judge.lists.places judge.torches) count None
      → IsFirst (IsUnlitBy judge.lists judge.torches) count None
      → DecidesBad cave judge.lists judge.regions (cell_count cave.size) (Some cell)
      → Ends cave judge (Some (BadRegions cell))
  ends_regions cell p l d = record {
    each = λ c range of_it after. bad_regions cave judge c range of_it after count same
        p l cell d;
  }

  -- else what the judge of nodes says is
  pub ends_nodes : (result : Option Reason) → IsFirst (IsMisplaced judge.lists.places judge.torches) count None
      → IsFirst (IsUnlitBy judge.lists judge.torches) count None
      → DecidesBad cave judge.lists judge.regions (cell_count cave.size) None
      → result ≡ node_reason judge.nodes.bad judge.nodes.weak → Ends cave judge result
  ends_nodes result p l d e = record {
    each = λ c range of_it after. subst (λ (r : Option Reason). MatchOption r (Proves cave c) (IsReasonOf cave c))
        (sym e)
        (by_nodes cave judge c range of_it after count same p l d judge.nodes.bad judge.nodes.weak refl refl);
  }
