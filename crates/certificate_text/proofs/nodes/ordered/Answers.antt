use Rattle.certificate_text.proofs.NodeLemmas.{sorted_cells}
use Rattle.certificate_text.proofs.nodes.ordered.Goals as goal

pub returns : goal.returns
returns c = sorted_cells c.args.cells.now c.in_ok-ordered.ordered.items c.sort_unstable.new.self.items c.requires
    c.in_ok-ordered.ensures.items c.sort_unstable.ensures.permutation c.sort_unstable.ensures.sorted
