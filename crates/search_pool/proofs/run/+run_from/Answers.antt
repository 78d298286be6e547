use denote.RattleType.{RattleType}
use denote.Param.{param}
use denote.Ref.{NamedLft}
use denote.Param.Send.{IsSend, IsSync, sendable}
use contract.Lifetimes.{Lfts}
use Rattle.std.proofs.Crossing.{crosses}
use Rattle.beacon.proofs.beacon.Beacon.TheSendSync as beacon
use Rattle.beacon.proofs.seat.Seat.TheSendSync as seat
use Rattle.crossbeam_deque.proofs.handles.Stealer.TheSendSync as stealer
use Rattle.cave_base.proofs.sequence.Sequence.TheSendSync as sequence
use Rattle.instance_regions.proofs.cover.Cover.TheSendSync as cover
use Rattle.instance_regions.proofs.region.Region.TheSendSync as region
use Rattle.proof_tree.proofs.opened.Opened.TheSendSync as opened
use Rattle.proof_tree.proofs.piece.Piece.TheSendSync as piece
use Rattle.proof_tree.proofs.proof.Below.TheLaws.TheKnot as ring
use Rattle.proof_tree.specs.contracts.closed.Closed as closed
use Rattle.search_pool.specs.contracts.worker.Common as common
use Rattle.worker_results.specs.declared.naming.Naming.{Ghosts}
use Rattle.worker_results.proofs.own.Own.TheSendSync as own
use Rattle.worker_results.proofs.pass_at.PassAt.TheSendSync as pass_at
use Rattle.worker_results.specs.contracts.done.Done as done
use Rattle.worker_results.specs.contracts.holdings.Holdings as holdings
use Rattle.search_pool.proofs.run.+run_from.Goals as goal
use Rattle.search_pool.proofs.run.+run_from as here

-- what a worker hands over may go to another thread; part by part, since it nests deeper than is searched at once
closed_send : IsSend closed.the_row
closed_send = search (
  sendable,
  crosses,
  ring.send-Proof,
  ring.send-Kids,
  ring.send-Below,
  sequence.the_send,
  piece.the_send,
) depth 40 fits 100000

holdings_send : (B : RattleType) (names : Ghosts B.Denot) → IsSend (holdings.the_row B names)
holdings_send B names = search (
  sendable,
  crosses,
  closed_send,
  piece.the_send,
  opened.the_send,
  pass_at.the_send,
  own.the_send,
) depth 40 fits 100000

done_send : (B : RattleType) (names : Ghosts B.Denot) → IsSend (done.the_row B names)
done_send B names = search (sendable, crosses, holdings_send, cover.the_send, seat.the_send) depth 40 fits 100000

pub spawn_with-child-requires-send-T : goal.spawn_with-child-requires-send-T
spawn_with-child-requires-send-T g t c κs within = search (sendable, crosses, done_send) depth 40

-- what all workers share may be told to each of them
common_send : (κ : NamedLft) (M : RattleType) → IsSend M → IsSync M → IsSend (common.the_row κ M)
common_send κ M send sync =
    search (
      sendable,
      crosses,
      region.the_send,
      region.the_sync,
      piece.the_send,
      beacon.the_sync,
      stealer.the_sync,
    ) depth 40 fits 100000

-- what a worker's thread is started with
work_send : (g : here.Given.Over) (κs : Lfts 11) → IsSync (param 1 g.row.C) → IsSync (param 2 g.row.R)
    → IsSync (param 3 g.row.O) → IsSend (param 5 g.row.C-Memory) → IsSync (param 5 g.row.C-Memory)
    → IsSend (param 2 (here.Lts-run_from.arg-2-2 g.row.B g.row.C g.row.R g.row.O g.row.C-Hand g.row.C-Memory
    g.B.laws g.C.laws g.R.laws g.O.laws g.C.Hand.laws g.C.Memory.laws g.B.Naming g.B.Naming-dict
    g.C.Closer g.C.Closer-dict g.R.Threads g.R.Threads-dict g.R.Wait g.R.Wait-dict
    g.O.Observer g.O.Observer-dict g.C.Destruct-dict g.C.Hand.Destruct-dict g.C.Memory.Destruct-dict κs))
work_send g κs cl r o ms my = search (sendable, crosses, done_send, common_send) depth 40 fits 100000

pub spawn_with-child-requires-send-F : goal.spawn_with-child-requires-send-F
spawn_with-child-requires-send-F g t c κs within =
    let cl : IsSync (param 1 g.row.C) = search c.requires-raw.1.1.1.1.1.1 in
    let r : IsSync (param 2 g.row.R) = search c.requires-raw.1.1.1.1.1.1 in
    let o : IsSync (param 3 g.row.O) = search c.requires-raw.1.1.1.1.1.1 in
    let ms : IsSend (param 5 g.row.C-Memory) = search c.requires-raw.1.1.1.1.1.1 in
    let my : IsSync (param 5 g.row.C-Memory) = search c.requires-raw.1.1.1.1.1.1.1.1.1.1.1.1.1.1 in
    work_send g κs cl r o ms my
