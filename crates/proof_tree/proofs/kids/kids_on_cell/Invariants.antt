use Rattle.std.specs.Prelude.{◌≡◌, [], take}
use Rattle.proof_tree.specs.Opened.{kids_from, steps_from}
use Rattle.proof_tree.proofs.kids.kids_on_cell.Given as goal

-- the kids of the places before this number
abbrev pub invariant-loop-number : goal.invariant-loop-number
invariant-loop-number l = l.kids.items ≡ kids_from l.piece 0 (steps_from [] (take l.number l.places))
