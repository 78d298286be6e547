use Rattle.std.proofs.Common.{List, ℕ, ◌∙◌, All, Contains, subst, sym}
use Rattle.set_cover.specs.Instance.{Instance}
use Rattle.instance_regions.specs.Region.{IsRegion}
use Rattle.cave_model.specs.Plan.{AreDistinct}
use Rattle.pack_bound.specs.Naming.{AreIndicesOf}
use Rattle.pack_bound.specs.Nodes.{AreInside, IsStateWith}
use Rattle.pack_bound.proofs.NamingLemmas.{distinct_indices}
use Rattle.pack_bound.proofs.pieces.node_of.Goals as goal

pub indices_of-requires : goal.indices_of-requires
indices_of-requires c =
    let same = c.as_ref-region.ensures ∙ c.region.ensures in
    subst (λ (r : Instance). All (Contains r.places) c.chosen.result.now) (sym same)
    (subst (All (Contains c.args.piece.now.region.places))
    (sym c.chosen.ensures.chosen) c.chosen.ensures.kept.chosen_of_it)

pub indices_of-requires-2 : goal.indices_of-requires-2
indices_of-requires-2 c =
    let same = c.as_ref-region.ensures ∙ c.region.ensures in
    subst (λ (r : Instance). All (Contains r.places) c.barred.result.now) (sym same)
    (subst (All (Contains c.args.piece.now.region.places))
    (sym c.barred.ensures.barred) c.barred.ensures.kept.barred_of_it)

pub of-requires-clause-distinct : goal.of-requires-clause-distinct
of-requires-clause-distinct c =
    distinct_indices c.as_ref-region.result.now c.chosen.result.now c.in_ok-chosen.chosen.items
    c.in_ok-chosen.ensures.indices
    (subst AreDistinct (sym c.chosen.ensures.chosen) c.chosen.ensures.kept.distinct)

pub of-requires-clause-barred : goal.of-requires-clause-barred
of-requires-clause-barred c = subst (AreInside c.as_ref-region.result.now)
    (sym c.deref.ensures.value) c.in_ok-barred.ensures.indices.inside

pub returns : goal.returns
returns c =
    let piece = c.args.piece.now in
    let same = c.as_ref-region.ensures ∙ c.region.ensures in
    record {
      region_is = subst IsRegion same c.in_ok-chosen.ensures.kept;
      chosen = c.in_ok-chosen.chosen.items;
      barred = c.in_ok-barred.barred.items;
      chosen_are = subst (λ (r : Instance). AreIndicesOf r piece.chosen c.in_ok-chosen.chosen.items) same
          (subst (λ (l : List ℕ). AreIndicesOf c.as_ref-region.result.now l c.in_ok-chosen.chosen.items)
          c.chosen.ensures.chosen c.in_ok-chosen.ensures.indices);
      barred_are = subst (λ (r : Instance). AreIndicesOf r piece.barred c.in_ok-barred.barred.items) same
          (subst (λ (l : List ℕ). AreIndicesOf c.as_ref-region.result.now l c.in_ok-barred.barred.items)
          c.barred.ensures.barred c.in_ok-barred.ensures.indices);
      state_is = subst (λ (r : Instance). IsStateWith r c.in_ok-chosen.chosen.items c.in_ok-barred.barred.items
          c.in_ok-node.node) same
          (subst (λ (l : List ℕ). IsStateWith c.as_ref-region.result.now c.in_ok-chosen.chosen.items l
          c.in_ok-node.node) c.deref.ensures.value c.in_ok-node.ensures);
    }
