-- Where no other pass is out, an empty deque means that each piece was taken.
use Rattle.std.proofs.Common.{◌≡◌, ◌≢◌, ℕ, ◌+◌, ◌≤◌, [], ap, ◌∙◌, arith}
use mathlib.Core.Option.{some}
use lib.ListN.{get_elem?}
use Rattle.proof_tree.specs.Weights.{weigh}
use Rattle.piece_deque.specs.declared.dealt.Dealt.{Dealt}
use Rattle.piece_deque.specs.declared.answer.Take.{Take}
use Rattle.piece_deque.specs.declared.answer.Take.TheVariants.{Got, Empty, Again}
use Rattle.piece_deque.specs.Rule.{passes_total, one_if_unspent, unspent, WasEmpty, AllTaken, IsAlone, Answers}
use Rattle.piece_deque.proofs.TotalLemmas.{total_two, total_only, pushed_weight, taken_weight, false_of, true_of}
use Rattle.piece_deque.proofs.StepLemmas.{counts}
use Rattle.piece_deque.proofs.LendLemmas.{not_first}

-- a pass that is alone at an empty deque knows that all pushed was taken
pub all_taken : (v : Dealt) → IsAlone v → WasEmpty v → AllTaken v
all_taken v alone was h =
    let passes = was.passes in
    let i = was.number in
    let k = was.rule in
    let at = was.there in
    let mine = k.fit i v at in
    let a : one_if_unspent v.spent ≡ 1 = ap one_if_unspent alone.1 in
    let one : unspent passes ≡ 1 = (mine.2 alone.0).1 ∙ ap (λ n. n + 1) alone.2 in
    let others : (j : ℕ) (u : Dealt) → j ≢ i → get_elem? passes j ≡ some u → (u.taken ≡ []) × (u.pushed ≡ []) =
    λ j u apart e. let theirs = k.fit j u e in (
      theirs.0 (true_of u.spent (λ p.
          let t : counts v + counts u ≤ passes_total counts passes = total_two counts passes i j v u apart at e in
          let b : one_if_unspent u.spent ≡ 1 = ap one_if_unspent p in omega arith)),
      theirs.1 (false_of u.first (not_first k.chief (unspent passes) i j v u alone.0 mine theirs apart)),
    ) in
    let p : passes_total (pushed_weight h) passes ≡ weigh h v.pushed =
    total_only (pushed_weight h) passes i v at (λ j u apart e. ap (weigh h) (others j u apart e).1) in
    let t : passes_total (taken_weight h) passes ≡ weigh h v.taken =
    total_only (taken_weight h) passes i v at (λ j u apart e. ap (weigh h) (others j u apart e).0) in
    let all = k.balance h in
    omega arith

-- a take's answer, where more is known of an empty deque
pub sharper : (old : Dealt) (answer : Take) (new : Dealt) (was all : Dealt → Type 0) → (was old → all old)
    → Answers was old answer new → Answers all old answer new
sharper old (Got piece) new was all f h = h
sharper old Empty new was all f h = (h.0, f h.1)
sharper old Again new was all f h = h
