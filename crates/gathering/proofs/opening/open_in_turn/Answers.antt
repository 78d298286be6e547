use Rattle.std.proofs.Common.{◌≡◌, ◌+◌, ℕ, List, arith, subst}
use native.Mathlib.Numerals.{unary_clauses}
use Rattle.event_core.specs.State.{State}
use Rattle.event_core.specs.Kept.{state_of}
use Rattle.event_core.specs.Plays.{Plays}
use Rattle.schedule_law.specs.Joined.{all_opened}
use Rattle.schedule_law.specs.Listing.{longest_name}
use Rattle.schedule_law.specs.Worked.{Worked}
use Rattle.gathering.specs.Playing.{tries, tries_below}
use Rattle.gathering.proofs.PlayLemmas.{plays_append}
use Rattle.gathering.proofs.opening.open_in_turn.Goals as goal

-- those whose names are longer by one, too
one_longer : (works : List Worked) (size : ℕ) (old mid new : State) → Plays old (tries_below size works) mid
    → Plays mid (tries size 0 works) new → Plays old (tries_below (size + 1) works) new
one_longer works size old mid new low last =
    let both = plays_append old (tries_below size works) (tries size 0 works) mid new low last in
    simp unary_clauses both

pub loop-size-preserved : goal.loop-size-preserved
loop-size-preserved c = one_longer c.args.works.now c.loop-size.size (state_of c.args.core.now)
    (state_of c.loop-size.core) (state_of c.open_all.new.core) c.loop-size.invariant c.in_ok-open_all.ensures

pub returns : goal.returns
returns c =
    let works = c.args.works.now in let most = longest_name (all_opened works) in
    let s0 = state_of c.args.core.now in let s1 = state_of c.loop-size.core in
    let s2 = state_of c.open_all-2.new.core in
    let last : c.loop-size.size ≡ most = omega (
      arith,
      c.loop-size-test.false,
      c.loop-size.auto.size-end,
      c.longest-longest.ensures,
    ) in
    one_longer works most s0 s1 s2 (subst (λ (n : ℕ). Plays s0 (tries_below n works) s1) last c.loop-size.invariant)
    (subst (λ (n : ℕ). Plays s1 (tries n 0 works) s2) c.longest-longest.ensures c.in_ok-open_all-2.ensures)
