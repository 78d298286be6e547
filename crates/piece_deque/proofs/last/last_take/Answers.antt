use Rattle.crossbeam_deque.specs.Handles.{worker_view}
use Rattle.piece_deque.specs.Rule.{WasEmpty, AllTaken}
use Rattle.piece_deque.proofs.LastLemmas.{all_taken, sharper}
use Rattle.piece_deque.proofs.last.last_take.Goals as goal

pub returns-clause-done : goal.returns-clause-done
returns-clause-done c =
    let pass = worker_view c.args.owner.now in
    sharper pass c.take.result _ WasEmpty AllTaken (all_taken pass c.requires.1) c.take.ensures.done
