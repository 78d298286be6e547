use Rattle.std.proofs.Common.{◌∙◌, ap, subst, sym}
use Rattle.set_cover.specs.Instance.{Instance}
use Rattle.pack_bound.specs.Naming.{cell_numbers}
use Rattle.pack_bound.specs.Nodes.{IsStateOf}
use Rattle.pack_bound.specs.Judged.{MayBeLeaf}
use Rattle.pack_bound.specs.Pieces.{IsScattered, SomeWhereUnlit}
use Rattle.pack_bound.proofs.NamingLemmas.{node_scattered, node_filled}
use Rattle.pack_bound.proofs.pieces.scattered.Goals as goal

pub packed-requires : goal.packed-requires
packed-requires c =
    let same = c.as_ref-region.ensures ∙ c.region.ensures in
    subst (λ (r : Instance). IsStateOf r c.in_ok-node.node) (sym same) c.in_ok-node.ensures.state_is.state_is

pub returns : goal.returns
returns c =
    let piece = c.args.piece.now in let node = c.in_ok-node.node in let cells = c.in_ok-cells.cells.items in
    let same = c.as_ref-region.ensures ∙ c.region.ensures in
    let numbers = c.numbers_of_cells-numbers.ensures.numbers ∙ ap (λ (r : Instance). cell_numbers r cells) same in
    let leaf = subst (λ (r : Instance). MayBeLeaf r node cells) same c.in_ok-cells.ensures.leaf in
    record {
      scattered = subst (IsScattered piece) (sym numbers) (node_scattered piece node cells c.in_ok-node.ensures leaf);
      some = subst (SomeWhereUnlit piece) (sym numbers)
          (node_filled piece node cells c.in_ok-node.ensures c.in_ok-cells.ensures.filled);
    }
