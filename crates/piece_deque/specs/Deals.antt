-- What a pass at a deque of pieces has pushed and taken, and how each call changes it. This is this project's own.
use Rattle.std.specs.Prelude.{ℕ, ◌+◌, ◌-◌, Bool, true, false, List, [], ◌++◌, refl}
use Rattle.std.specs.Coded.{Coded, code_by, coded×, coded_ℕ, coded_bool, coded_list}
use Rattle.proof_tree.specs.Piece.{Subproblem, subproblem_coded}
use Rattle.piece_deque.specs.declared.dealt.Dealt.{Dealt}

-- the owner's pass at a new deque
abbrev pub owner_pass : Dealt
owner_pass = record { first = true; spent = false; out = 0; pushed = []; taken = [] }

-- another thread's, when it is lent
abbrev pub thief_pass : Dealt
thief_pass = record { first = false; spent = false; out = 0; pushed = []; taken = [] }

-- what is left of a pass that was taken back
abbrev pub nobody : Dealt
nobody = record { first = false; spent = true; out = 0; pushed = []; taken = [] }

-- after a pass was lent
abbrev pub one_more_out : Dealt → Dealt
one_more_out pass = record {
  first = pass.first;
  spent = pass.spent;
  out = pass.out + 1;
  pushed = pass.pushed;
  taken = pass.taken;
}

-- after these pieces were pushed
abbrev pub pushed_too : Dealt → List Subproblem → Dealt
pushed_too pass pieces = record {
  first = pass.first;
  spent = pass.spent;
  out = pass.out;
  pushed = pass.pushed ++ pieces;
  taken = pass.taken;
}

-- after these pieces were taken
abbrev pub took_too : Dealt → List Subproblem → Dealt
took_too pass pieces = record {
  first = pass.first;
  spent = pass.spent;
  out = pass.out;
  pushed = pass.pushed;
  taken = pass.taken ++ pieces;
}

-- after another pass was taken back
abbrev pub together_with : Dealt → Dealt → Dealt
together_with pass other = record {
  first = pass.first;
  spent = pass.spent;
  out = pass.out - 1;
  pushed = pass.pushed ++ other.pushed;
  taken = pass.taken ++ other.taken;
}

-- the code by which passes are told apart by what they have done
abbrev pub dealt_coded : Coded Dealt
dealt_coded = code_by (Bool × (Bool × (ℕ × (List Subproblem × List Subproblem))))
    (coded× coded_bool (coded× coded_bool (coded× coded_ℕ
    (coded× (coded_list subproblem_coded) (coded_list subproblem_coded)))))
    (λ d. (d.first, (d.spent, (d.out, (d.pushed, d.taken)))))
    (λ p. record { first = p.0; spent = p.1.0; out = p.1.1.0; pushed = p.1.1.1.0; taken = p.1.1.1.1 })
    (λ _. refl)
