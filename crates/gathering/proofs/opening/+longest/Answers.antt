use Rattle.std.proofs.Common.{◌≡◌, ◌∙◌, ◌++◌, List, [], ◌∷◌, ap, arith}
use Rattle.std.specs.Prelude.{max}
use Rattle.proof_tree.specs.Opened.{Split}
use Rattle.schedule_law.specs.Joined.{all_opened}
use Rattle.schedule_law.specs.Listing.{longest_name}
use Rattle.schedule_law.specs.Worked.{Worked}
use Rattle.gathering.proofs.opening.+longest.Goals as goal

-- the longest name of both is the longer of the two
longest_append : (xs ys : List Split) → longest_name (xs ++ ys) ≡ max (longest_name xs) (longest_name ys)
longest_append [] ys = omega (arith)
longest_append (x ∷ xs) ys = omega (arith, longest_append xs ys)

pub returns : goal.returns
returns t c =
    let work = c.in-Some.work.now in let rest = c.in-Some.rest.now in
    let opened = c.deref.ensures.value ∙ ap (λ (x : Worked). x.opened) c.work.view_is in
    let first = c.longest_of.ensures ∙ ap longest_name opened in
    let works = ap (λ (ws : List Worked). longest_name (all_opened ws)) c.in-Some.ensures.cases.0 in
    omega (arith, c.max.ensures, first, c.longest.ensures, works, longest_append work.opened (all_opened rest))
