-- From joined results alone, each event of their list is enabled.
use Rattle.std.proofs.Common.{◌≡◌, inl, inr, ℕ, zero, suc, ◌+◌, ◌≤◌, Option, List, [], ◌∷◌, ◌++◌}
use Rattle.std.proofs.Common.{length, min, refl, sym, ap, ◌∙◌, subst, arith, append_assoc}
use Rattle.std.proofs.lemmas.Bool.{cases_eq}
use Rattle.std.proofs.lemmas.List.{length-replicate}
use Rattle.set_cover.specs.Instance.{Instance}
use Rattle.proof_tree.specs.Opened.{Split}
use Rattle.proof_tree.specs.Piece.{Subproblem, Fathomed, root_of}
use Rattle.proof_tree.specs.Weights.{weigh}
use Rattle.event_core.specs.State.{State, Part, waiting, Begins, HasPart, goal_of}
use Rattle.event_core.specs.declared.event.Event.{Event}
use Rattle.schedule_law.specs.Names.{count_named}
use Rattle.schedule_law.specs.Worked.{Worked}
use Rattle.schedule_law.specs.Joined.{all_kids, all_pieces, pieces_closed, pieces_opened, all_opened, all_closed}
use Rattle.schedule_law.specs.Joined.{all_back, least_size, AreJoined}
use Rattle.schedule_law.specs.Listing.{opens, opens_below, offers, looks, closes, listing, longest_name, AllEnabled}
use Rattle.schedule_law.proofs.PieceLemmas.{named, IsAmong, weigh-append, named_among, among_others}
use Rattle.schedule_law.proofs.PieceLemmas.{among_left, among_right}
use Rattle.schedule_law.proofs.PieceLemmas.{count_named_is}
use Rattle.schedule_law.proofs.KidLemmas.{nil_all, once}
use Rattle.schedule_law.proofs.LongLemmas.{all_as_long, all_as_long_are, none_of_other_length, sum_below, pieces_to}
use Rattle.schedule_law.proofs.LongLemmas.{kids_all, kids_long, kids_to}
use Rattle.schedule_law.proofs.TurnLemmas.{Knows, Keeps, keeps_on, keeps_self}
use Rattle.schedule_law.proofs.StepLemmas.{AreReady, AreClosable, opens_all, closes_all}
use Rattle.schedule_law.proofs.BestLemmas.{offers_go, looks_go}

-- a name with no number is the root's
nil_named : (x : List ℕ) → length x ≡ 0 → x ≡ []
nil_named [] e = refl
nil_named (x ∷ xs) e = absurd (omega arith)

module _ (region : Instance) (goal : ℕ) (works : List Worked) (left : List Subproblem)
    (j : AreJoined region goal works left) where
  abbrev root : Subproblem
  root = root_of region

  abbrev came : List Subproblem
  came = all_pieces region works

  from : (h : Subproblem → ℕ) → weigh h (pieces_opened (all_opened works)) ≤ weigh h came
  from h = (let a = j.balance h in omega arith)

  closed_from : (h : Subproblem → ℕ)
      → weigh h (pieces_opened (all_opened works)) + weigh h (pieces_closed (all_closed works)) ≤ weigh h came
  closed_from h = (let a = j.balance h in omega arith)

  single : (x : List ℕ) → weigh (named x) came ≤ 1
  single x = once root refl (all_opened works) from x

  -- each name came to be at most once
  pub single_name : (x : List ℕ) → count_named x came ≤ 1
  single_name x = (let a = count_named_is x came in let b = single x in omega arith)

  -- the pieces that came to be once those with names shorter than this are opened
  abbrev made : ℕ → List Subproblem
  made zero = root ∷ []
  made (suc n) = made n ++ all_kids (all_as_long n works)

  -- and those that were opened
  abbrev used : ℕ → List Subproblem
  used zero = []
  used (suc n) = used n ++ pieces_opened (all_as_long n works)

  made_is : (h : Subproblem → ℕ) (n : ℕ)
      → weigh h (made n) ≡ h root + sum_below (λ k. weigh h (all_kids (all_as_long k works))) n
  made_is h zero = omega arith
  made_is h (suc n) =
      omega (arith, made_is h n, weigh-append h (made n) (all_kids (all_as_long n works)))

  used_is : (h : Subproblem → ℕ) (n : ℕ)
      → weigh h (used n) ≡ sum_below (λ k. weigh h (pieces_opened (all_as_long k works))) n
  used_is h zero = refl
  used_is h (suc n) =
      omega (arith, used_is h n, weigh-append h (used n) (pieces_opened (all_as_long n works)))

  made_low : (h : Subproblem → ℕ) (n : ℕ) → weigh h (made n) ≤ weigh h came
  made_low h n = omega (arith, made_is h n, kids_to h works n)

  used_low : (h : Subproblem → ℕ) (n : ℕ) → weigh h (used n) ≤ weigh h (pieces_opened (all_opened works))
  used_low h n = omega (arith, used_is h n, pieces_to h works n)

  is_long : (n : ℕ) (p : Subproblem) → IsAmong p (pieces_opened (all_as_long n works)) → length p.name ≡ n
  is_long n p at = elim (cases_eq (length p.name) n) [
    | inl e ↦ e
    | inr ne ↦ (let a = named_among p (pieces_opened (all_as_long n works)) at in
        let b = none_of_other_length n p.name works ne in absurd (omega arith))
  ]

  -- a kid that is opened is a kid of one that came to be before
  kid_there : (n : ℕ) (p : Subproblem) → length p.name ≡ n → IsAmong p (all_kids (all_opened works))
      → IsAmong p (made n)
  kid_there zero p e at =
      let some = named_among p (all_kids (all_opened works)) at in
      let none : weigh (named p.name) (all_kids (all_opened works)) ≡ 0 =
      ap (λ x. weigh (named x) (all_kids (all_opened works))) (nil_named p.name e) ∙ nil_all (all_opened works) in
      absurd (omega arith)
  kid_there (suc n) p e at = among_right p (made n) (all_kids (all_as_long n works))
      (subst (λ (l : List Split). IsAmong p (all_kids l)) (sym (all_as_long_are n works))
      (kids_long n p (all_opened works) e at))

  root_there : (n : ℕ) (p : Subproblem) → p ≡ root → IsAmong p (made n)
  root_there zero p e = inl e
  root_there (suc n) p e = among_left p (made n) (all_kids (all_as_long n works)) (root_there n p e)

  pieces_low : (h : Subproblem → ℕ) (n : ℕ)
      → weigh h (pieces_opened (all_as_long n works)) ≤ weigh h (pieces_opened (all_opened works))
  pieces_low h n = omega (arith, pieces_to h works (suc n))

  -- those with names of this length may be opened next
  ready : (n : ℕ) → AreReady (made n) (used n) (all_as_long n works)
  ready n = record {
    there = λ p at.
        (let among = among_others p (pieces_opened (all_as_long n works)) came
        (λ h. omega (arith, pieces_low h n, from h)) at in
        elim among [
          | inl e ↦ root_there n p e
          | inr kid ↦ kid_there n p (is_long n p at) kid
        ]);
    once = λ x. omega (
      arith,
      made_low (named x) (suc n),
      single x,
      weigh-append (named x) (made n) (all_kids (all_as_long n works)),
    );
    fresh = λ x. omega (
      arith,
      used_low (named x) (suc n),
      from (named x),
      single x,
      weigh-append (named x) (used n) (pieces_opened (all_as_long n works)),
    );
  }

  abbrev most : ℕ
  most = longest_name (all_opened works) + 1

  made_all : (h : Subproblem → ℕ) → weigh h (made most) ≡ weigh h came
  made_all h = omega (arith, made_is h most, kids_all h works)

  closable : AreClosable (made most) (used most) (all_closed works)
  closable = record {
    there = λ p at. among_others p (pieces_closed (all_closed works)) (made most)
        (λ h. omega (arith, closed_from h, made_all h)) at;
    fresh = λ x. omega (arith, single x, closed_from (named x), used_low (named x) most);
  }

  abbrev least : ℕ
  least = least_size goal works

  -- the workers may open pieces in turn, shorter names first
  opens_go_on : (n : ℕ) (rest : List Event) (state : State) → length works ≤ length state.seen → state.region ≡ region
      → Knows state (made 0) (used 0)
      → ((next : State) → Keeps state next → Knows next (made n) (used n) → AllEnabled next rest)
      → AllEnabled state (opens_below n works ++ rest)
  opens_go_on zero rest state le of knows go = go state (keeps_self state) knows
  opens_go_on (suc n) rest state le of knows go =
      subst (AllEnabled state) (sym (append_assoc (opens_below n works) (opens n 0 works) rest))
      (opens_go_on n (opens n 0 works ++ rest) state le of knows
      (λ next kept known. opens_all n region least 0 works rest next (made n) (used n)
      (let l = ap length kept.same_seen in omega arith) (kept.same_region ∙ of) j.fit known (ready n)
      (λ last more final. go last (keeps_on state next last kept more) final)))

  regroup : (a b c d : List Event) → ((a ++ b) ++ c) ++ d ≡ a ++ (b ++ (c ++ d))
  regroup a b c d = append_assoc (a ++ b) c d ∙ append_assoc a b (c ++ d)

  -- where the root waits, each event of the list is enabled in turn
  go_on : (start : State) → start.region ≡ region → goal_of start ≡ goal → length start.seen ≡ length works + 1
      → Knows start (root ∷ []) [] → AllEnabled start (listing works)
  go_on start of sized workers waits =
      subst (AllEnabled start)
      (sym (regroup (opens_below most works) (offers 0 works) (looks 0 works) (closes 0 works)))
      (opens_go_on most _ start (omega arith) of waits
      (λ s2 k2 known2. offers_go region least 0 works _ s2
      (let m = ap length k2.same_seen in omega arith)
      (k2.same_region ∙ of) j.fit
      (λ s3 better. looks_go 0 works _ s3
      (let m = ap length k2.same_seen in let n = ap length better.same_seen in omega arith)
      (λ s4 seeing. closes_all region least 0 works s4 (made most) (used most)
      (let m = ap length k2.same_seen in let n = ap length better.same_seen in
      let o = seeing.as_many in omega arith)
      (seeing.same_region ∙ better.same_region ∙ k2.same_region ∙ of)
      (λ v low high. (let a = seeing.now v low high in let b = better.bounded in
      let same : goal_of s2 ≡ goal_of start = λ i. min (k2.same_aim i) (length (k2.same_best i)) in
      let size : least_size (goal_of s2) works ≡ least = ap (λ (n : ℕ). least_size n works) (same ∙ sized) in
      omega arith))
      j.fit
      (λ p at none. ap (λ (f : List ℕ → Option Part). f p.name) (seeing.same_parts ∙ better.same_parts)
      ∙ known2 p at none)
      closable))))

-- from the start on each event of the list is enabled in turn
pub law : (region : Instance) (first : List ℕ) (aim : ℕ) (works : List Worked) (left : List Subproblem)
    → AreJoined region (min aim (length first)) works left → (start : State)
    → Begins region first aim (length works + 1) start → AllEnabled start (listing works)
law region first aim works left j start begins =
    go_on region (min aim (length first)) works left j start begins.of_it
    (λ i. min (begins.aimed i) (length (begins.best i)))
    (ap length begins.seen ∙ length-replicate (length works + 1) (min aim (length first)))
    (λ p at none. root_waits p at)
  where
    root_waits : (p : Subproblem) → IsAmong p (root_of region ∷ []) → HasPart start p.name p.chosen p.barred waiting
    root_waits p (inl e) =
        subst (λ (q : Subproblem). HasPart start q.name q.chosen q.barred waiting) (sym e) begins.root
    root_waits p (inr none) = absurd none

-- pieces that weigh one each weigh their number
weigh_one : (ps : List Subproblem) → weigh (λ p. 1) ps ≡ length ps
weigh_one [] = refl
weigh_one (p ∷ ps) = omega (arith, weigh_one ps)

-- each split opened one piece
opened_length : (ss : List Split) → length (pieces_opened ss) ≡ length ss
opened_length [] = refl
opened_length (s ∷ ss) = ap suc (opened_length ss)

-- each closed piece is one
closed_length : (ks : List Fathomed) → length (pieces_closed ks) ≡ length ks
closed_length [] = refl
closed_length (k ∷ ks) = ap suc (closed_length ks)

-- as many pieces came to be as were opened, closed, handed back or left
pub counts : (region : Instance) (goal : ℕ) (works : List Worked) (left : List Subproblem)
    → AreJoined region goal works left → length (all_pieces region works)
    ≡ length (all_opened works) + length (all_closed works) + length (all_back works) + length left
counts region goal works left j =
    let a = j.balance (λ p. 1) in
    omega (
      arith,
      weigh_one (all_pieces region works),
      weigh_one (pieces_opened (all_opened works)),
      weigh_one (pieces_closed (all_closed works)),
      weigh_one (all_back works),
      weigh_one left,
      opened_length (all_opened works),
      closed_length (all_closed works),
    )
