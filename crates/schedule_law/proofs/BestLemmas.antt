-- The goal after all offers, and what workers see of it.
use Rattle.std.proofs.Common.{◌≡◌, inl, inr, ℕ, suc, ◌+◌, ◌<◌, ◌≤◌, min, List, [], ◌∷◌, ◌++◌}
use Rattle.std.proofs.Common.{length, set, slice_index, All, Option, Some, None, IfSome, refl, sym, ap, ◌∙◌}
use Rattle.std.proofs.Common.{subst, arith, append_assoc, get_or-set_same, get_or-set_other, length-set}
use Rattle.std.proofs.lemmas.Bool.{cases_eq}
use Rattle.std.proofs.lemmas.Bool.Decides.{nat_tests}
use Rattle.std.proofs.lemmas.List.Elements.{All-head, All-tail}
use Rattle.set_cover.specs.Instance.{Instance}
use Rattle.instance_regions.specs.Cover.{Covering}
use Rattle.event_core.specs.State.{State, goal_of}
use Rattle.event_core.specs.Events.{smaller}
use Rattle.event_core.specs.declared.event.Event.{Event}
use Rattle.schedule_law.specs.Worked.{Worked, IsWork, IsCoverFor}
use Rattle.schedule_law.specs.Joined.{less_by, least_size}
use Rattle.schedule_law.specs.Listing.{offer_of, offers, looks, AllEnabled}

-- ---- sizes

-- a cover never raises a size
less_by_low : (n : ℕ) (o : Option Covering) → less_by n o ≤ n
less_by_low n None = omega arith
less_by_low n (Some c) = omega arith

-- a cover lowers the greater of two sizes to no less than the smaller
less_by_keeps : (n m : ℕ) (o : Option Covering) → n ≤ m → less_by n o ≤ less_by m o
less_by_keeps n m None le = le
less_by_keeps n m (Some c) le = omega arith

-- workers' covers never raise a size
least_low : (n : ℕ) (xs : List Worked) → least_size n xs ≤ n
least_low n [] = omega arith
least_low n (x ∷ xs) = (let a = least_low n xs in let b = less_by_low (least_size n xs) x.cover in omega arith)

-- nor do they turn the order of two sizes
least_keeps : (n m : ℕ) (xs : List Worked) → n ≤ m → least_size n xs ≤ least_size m xs
least_keeps n m [] le = le
least_keeps n m (x ∷ xs) le = less_by_keeps (least_size n xs) (least_size m xs) x.cover (least_keeps n m xs le)

-- whether a cover is offered before the others or after them
least_first : (o : Option Covering) (m n : ℕ) (xs : List Worked) → m ≤ less_by n o
    → least_size m xs ≤ less_by (least_size n xs) o
least_first None m n xs le = least_keeps m n xs le
least_first (Some c) m n xs le =
    (let a = least_keeps m n xs (omega arith) in let b = least_low m xs in omega arith)

-- the smaller of two lists is as short as the shorter
length-smaller : (new old : List ℕ) → length (smaller new old) ≤ min (length old) (length new)
length-smaller new old = grind (arith, nat_tests)

-- ---- offers

-- nothing but the best cover changed, and the goal is no larger than this
pub record IsBetter (old new : State) (bound : ℕ) : Type 0 where
  pub same_region : new.region ≡ old.region
  pub same_seen : new.seen ≡ old.seen
  pub same_parts : new.part_at ≡ old.part_at
  pub bounded : goal_of new ≤ bound

-- where a worker knows a cover, its offer is enabled, and what follows may count on it
offer_go : (region : Instance) (w : ℕ) (o : Option Covering) (rest : List Event) (state : State) → w < length state.seen
    → state.region ≡ region → IfSome o (IsCoverFor region)
    → ((next : State) → IsBetter state next (less_by (goal_of state) o) → AllEnabled next rest)
    → AllEnabled state (offer_of w o ++ rest)
offer_go region w None rest state lt of is go =
    go state (record { same_region = refl; same_seen = refl; same_parts = refl; bounded = omega arith })
offer_go region w (Some c) rest state lt of is go = (
  record { known = lt; of_it = is.0 ∙ sym of; covers = is.1 },
  λ next does.
      go next (record {
        same_region = ap (λ (s : State). s.region) does;
        same_seen = ap (λ (s : State). s.seen) does;
        same_parts = ap (λ (s : State). s.part_at) does;
        bounded = (let a = ap goal_of does in let b = length-smaller c.places state.best in omega arith);
      }),
)

-- the same for the offers of all workers
pub offers_go : (region : Instance) (least : ℕ) (w : ℕ) (works : List Worked) (rest : List Event) (state : State)
    → w + length works ≤ length state.seen → state.region ≡ region → All (IsWork region least) works
    → ((next : State) → IsBetter state next (least_size (goal_of state) works) → AllEnabled next rest)
    → AllEnabled state (offers w works ++ rest)
offers_go region least w [] rest state le of all go =
    go state (record { same_region = refl; same_seen = refl; same_parts = refl; bounded = omega arith })
offers_go region least w (x ∷ xs) rest state le of all go =
    let work = All-head (IsWork region least) x xs all in
    subst (AllEnabled state) (sym (append_assoc (offer_of w x.cover) (offers (w + 1) xs) rest))
    (offer_go region w x.cover (offers (w + 1) xs ++ rest) state (omega arith) of work.cover
    (λ next better. offers_go region least (w + 1) xs rest next
    (let l = ap length better.same_seen in omega arith) (better.same_region ∙ of)
    (All-tail (IsWork region least) x xs all)
    (λ last best. go last (record {
      same_region = best.same_region ∙ better.same_region;
      same_seen = best.same_seen ∙ better.same_seen;
      same_parts = best.same_parts ∙ better.same_parts;
      bounded = (let a = best.bounded in
          let b = least_first x.cover (goal_of next) (goal_of state) xs better.bounded in omega arith);
    }))))

-- ---- looks

-- nothing changed but what these workers saw, which is the goal
pub record AreSeeing (old new : State) (w count : ℕ) : Type 0 where
  pub same_region : new.region ≡ old.region
  pub same_goal : goal_of new ≡ goal_of old
  pub same_parts : new.part_at ≡ old.part_at
  pub as_many : length new.seen ≡ length old.seen
  pub before : (v : ℕ) → v < w → slice_index new.seen v ≡ slice_index old.seen v
  pub now : (v : ℕ) → w ≤ v → v < w + count → slice_index new.seen v ≡ goal_of old

-- what the others see later
see_more : (old mid new : State) (w count : ℕ) → w < length old.seen
    → mid ≡ record old { seen = set old.seen w (goal_of old) } → AreSeeing mid new (w + 1) count
    → AreSeeing old new w (suc count)
see_more old mid new w count lt does later = record {
  same_region = later.same_region ∙ ap (λ (s : State). s.region) does;
  same_goal = later.same_goal ∙ ap goal_of does;
  same_parts = later.same_parts ∙ ap (λ (s : State). s.part_at) does;
  as_many = later.as_many ∙ ap (λ (s : State). length s.seen) does ∙ length-set old.seen w (goal_of old);
  before = λ v low. later.before v (omega arith) ∙ ap (λ (s : State). slice_index s.seen v) does
      ∙ get_or-set_other old.seen w v (goal_of old) 0 (λ e. absurd (omega arith));
  now = λ v low high. elim (cases_eq v w) [
    | inl e ↦ (let here : slice_index new.seen w ≡ goal_of old =
        later.before w (omega arith) ∙ ap (λ (s : State). slice_index s.seen w) does
        ∙ get_or-set_same old.seen w (goal_of old) 0 lt in
        ap (slice_index new.seen) e ∙ here)
    | inr ne ↦ later.now v (omega arith) (omega arith) ∙ ap goal_of does
  ];
}

-- the looks of all workers are enabled, and after them each has seen the goal
pub looks_go : (w : ℕ) (works : List Worked) (rest : List Event) (state : State) → w + length works ≤ length state.seen
    → ((next : State) → AreSeeing state next w (length works) → AllEnabled next rest)
    → AllEnabled state (looks w works ++ rest)
looks_go w [] rest state le go = go state (record {
  same_region = refl;
  same_goal = refl;
  same_parts = refl;
  as_many = refl;
  before = λ v low. refl;
  now = λ v low high. absurd (omega arith);
})
looks_go w (x ∷ xs) rest state le go = (
  omega arith,
  λ mid does. looks_go (w + 1) xs rest mid
      (let l = ap (λ (s : State). length s.seen) does ∙ length-set state.seen w (goal_of state) in omega arith)
      (λ next later. go next (see_more state mid next w (length xs) (omega arith) does later)),
)
