use Rattle.std.proofs.Common.{◌≡◌, ℕ, List, length, slice_index, sym, ap, subst, ◌∙◌}
use Rattle.std.proofs.lemmas.List.{length-map}
use Rattle.set_cover.specs.Instance.{IsInstance, row_of}
use Rattle.set_cover.specs.Rows.{AreRows, words_of}
use Rattle.instance_regions.specs.Region.{IsRegion}
use Rattle.tree_judges.specs.Thinning.{thinned}
use Rattle.tree_judges.proofs.ThinLemmas.{made_of, words_map, thin_rows, thin_instance, thin_region}
use Rattle.tree_judges.proofs.thinning.with_places.Goals.{After-width}
use Rattle.tree_judges.proofs.thinning.with_places.Goals as goal

-- what is made is the thinned region
same : (c : After-width) → record {
  cells = c.in_ok-cells.cells.items;
  places = c.in_ok-places.places.items;
  width = c.width.result;
  words = words_of c.in_ok-rows.rows.items;
} ≡ thinned c.args.region.now c.args.kept.now
same c = made_of _ _ _ _ _ _ _ _ (c.in_ok-cells.ensures.items ∙ c.cells.ensures.cells) c.in_ok-places.ensures.numbers
    c.width.ensures.width
    (ap words_of c.in_ok-rows.ensures ∙ words_map (row_of c.args.region.now) c.args.kept.now)

pub new-requires-clause-rows : goal.new-requires-clause-rows
new-requires-clause-rows c =
    let region = c.args.region.now in let kept = c.args.kept.now in
    let count = ap (λ (l : List ℕ). length l) c.in_ok-places.ensures.numbers ∙ length-map kept
    (slice_index region.places) in
    subst (λ (n : ℕ). AreRows n c.width.result c.in_ok-rows.rows.items) (sym count)
    (subst (λ (w : ℕ). AreRows (length kept) w c.in_ok-rows.rows.items) (sym c.width.ensures.width)
    (subst (AreRows (length kept) region.width) (sym c.in_ok-rows.ensures)
    (thin_rows region kept c.width.ensures.kept c.requires.ascending c.requires.cover)))

pub new-requires-clause-kept : goal.new-requires-clause-kept
new-requires-clause-kept c =
    let before = (goal.at.new-requires-clause-kept c).After-width in
    subst IsInstance (sym (same before))
    (thin_instance c.args.region.now c.args.kept.now c.width.ensures.kept c.requires.ascending c.requires.cover)

pub new-requires-2 : goal.new-requires-2
new-requires-2 c =
    let before = (goal.at.new-requires-2 c).After-width in
    subst IsRegion (sym (c.new.ensures ∙ same before))
    (thin_region c.args.region.now c.args.kept.now c.width.ensures.kept c.requires.ascending c.requires.cover)

pub returns : goal.returns
returns c =
    let before = (goal.at.returns c).After-width in
    c.in_ok-less.ensures ∙ c.new.ensures ∙ same before
