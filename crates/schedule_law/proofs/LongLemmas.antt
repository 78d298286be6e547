-- The opened pieces by the length of their names.
use Rattle.std.proofs.Common.{◌≡◌, ◌≢◌, inl, inr, ℕ, zero, suc, ◌+◌, ◌<◌, ◌≤◌, Bool, true, false, eqb, List, [], ◌∷◌}
use Rattle.std.proofs.Common.{◌++◌}
use Rattle.std.proofs.Common.{if◌then◌else◌, length, filter, flat_map, All, refl, sym, ap, ◌∙◌, subst}
use Rattle.std.proofs.Common.{arith, length-append}
use Rattle.std.proofs.lemmas.Bool.{cases_eq, cases_lt}
use Rattle.std.proofs.lemmas.Grind.{flat_map-append}
use Rattle.std.proofs.lemmas.List.Elements.{filter-append}
use Rattle.std.proofs.lemmas.List.{map-append}
use Rattle.std.proofs.lemmas.List.Elements.{All-head, All-tail, All-cons}
use Rattle.proof_tree.specs.Piece.{Subproblem}
use Rattle.proof_tree.specs.Opened.{Split, kids_of}
use Rattle.proof_tree.specs.Weights.{weigh}
use Rattle.event_core.specs.declared.event.Event.{Event}
use Rattle.event_core.specs.declared.event.Event.TheVariants.{Take}
use Rattle.schedule_law.specs.Names.{is_same_name}
use Rattle.schedule_law.specs.Worked.{Worked}
use Rattle.schedule_law.specs.Joined.{all_kids, all_opened, pieces_opened}
use Rattle.schedule_law.specs.Listing.{opening_of, opens_as_long, longest_name}
use Rattle.schedule_law.proofs.PieceLemmas.{either_way, eqb_true, eqb_is, same_true, bit, named, weigh-append}
use Rattle.schedule_law.proofs.PieceLemmas.{IsAmong, among_either, among_left, among_right}
use Rattle.schedule_law.proofs.KidLemmas.{among_numbered}

-- those whose names are so long
abbrev pub as_long : ℕ → List Split → List Split
as_long n ss = filter (λ s. eqb (length s.piece.name) n) ss

abbrev pub all_as_long : ℕ → List Worked → List Split
all_as_long n works = flat_map (λ work. as_long n work.opened) works

-- the splits with long names of each worker are those of all
pub all_as_long_are : (n : ℕ) (works : List Worked) → all_as_long n works ≡ as_long n (all_opened works)
all_as_long_are n [] = refl
all_as_long_are n (x ∷ xs) =
    ap (λ l. as_long n x.opened ++ l) (all_as_long_are n xs)
    ∙ sym (filter-append (λ s. eqb (length s.piece.name) n) x.opened (all_opened xs))

-- the events that take and open each of these pieces
abbrev pub openings : ℕ → List Split → List Event
openings worker [] = []
openings worker (s ∷ ss) = Take worker s.piece.name ∷ opening_of s ∷ openings worker ss

-- the events that open names of a length are the openings of those splits
pub openings_are : (n worker : ℕ) (ss : List Split) → opens_as_long n worker ss ≡ openings worker (as_long n ss)
openings_are n worker [] = refl
openings_are n worker (s ∷ ss) = opened_first (eqb (length s.piece.name) n) (as_long n ss) (openings_are n worker ss)
  where
    opened_first : (b : Bool) (others : List Split) → opens_as_long n worker ss ≡ openings worker others
        → (if b then Take worker s.piece.name ∷ opening_of s ∷ [] else []) ++ opens_as_long n worker ss
        ≡ openings worker (if b then s ∷ others else others)
    opened_first true others e = ap (λ l. Take worker s.piece.name ∷ opening_of s ∷ l) e
    opened_first false others e = e

-- ---- of two lists

-- the kids of two lists of splits, one list after the other
pub kids-append : (xs ys : List Split) → all_kids (xs ++ ys) ≡ all_kids xs ++ all_kids ys
kids-append xs ys = flat_map-append kids_of xs ys

-- the pieces of two lists of splits, one list after the other
pub pieces-append : (xs ys : List Split) → pieces_opened (xs ++ ys) ≡ pieces_opened xs ++ pieces_opened ys
pieces-append xs ys = map-append (λ s. s.piece) xs ys

-- ---- what they weigh

-- what each of them weighs, added up
abbrev load : (Split → ℕ) → List Split → ℕ
load f [] = 0
load f (s ∷ ss) = f s + load f ss

-- the load of the pieces is what they weigh
load_pieces : (h : Subproblem → ℕ) (ss : List Split) → load (λ s. h s.piece) ss ≡ weigh h (pieces_opened ss)
load_pieces h [] = refl
load_pieces h (s ∷ ss) = omega (arith, load_pieces h ss)

-- the load of the kids is what they weigh
load_kids : (h : Subproblem → ℕ) (ss : List Split) → load (λ s. weigh h (kids_of s)) ss ≡ weigh h (all_kids ss)
load_kids h [] = refl
load_kids h (s ∷ ss) = omega (arith, load_kids h ss, weigh-append h (kids_of s) (all_kids ss))

-- a test finds different numbers different
eqb_not : (n m : ℕ) → n ≢ m → eqb n m ≡ false
eqb_not n m apart = elim (either_way (eqb n m)) [
  | inl e ↦ absurd (apart (eqb_true n m e))
  | inr e ↦ e
]

-- a split with a name of that length adds its load
one_more : (f : Split → ℕ) (n : ℕ) (s : Split) (ss : List Split) → length s.piece.name ≡ n
    → load f (as_long n (s ∷ ss)) ≡ f s + load f (as_long n ss)
one_more f n s ss e =
    ap (λ b. load f (if b then s ∷ as_long n ss else as_long n ss)) (eqb_is (length s.piece.name) n e)

-- a split with another name adds none
none_more : (f : Split → ℕ) (n : ℕ) (s : Split) (ss : List Split) → length s.piece.name ≢ n
    → load f (as_long n (s ∷ ss)) ≡ load f (as_long n ss)
none_more f n s ss e =
    ap (λ b. load f (if b then s ∷ as_long n ss else as_long n ss)) (eqb_not (length s.piece.name) n e)

-- what the lengths below a number weigh together
abbrev pub sum_below : (ℕ → ℕ) → ℕ → ℕ
sum_below f zero = 0
sum_below f (suc n) = sum_below f n + f n

-- sums of what is equal are equal
sum_same : (f g : ℕ → ℕ) → ((k : ℕ) → f k ≡ g k) → (n : ℕ) → sum_below f n ≡ sum_below g n
sum_same f g e zero = refl
sum_same f g e (suc n) = omega (arith, sum_same f g e n, e n)

-- the load of the splits whose names are shorter than this
abbrev short_load : (Split → ℕ) → List Split → ℕ → ℕ
short_load f ss n = sum_below (λ k. load f (as_long k ss)) n

-- without a split, nothing
short_none : (f : Split → ℕ) (n : ℕ) → short_load f [] n ≡ 0
short_none f zero = refl
short_none f (suc n) = omega (arith, short_none f n)

-- a split whose name isn't shorter adds none
short_past : (f : Split → ℕ) (s : Split) (ss : List Split) (n : ℕ) → n ≤ length s.piece.name
    → short_load f (s ∷ ss) n ≡ short_load f ss n
short_past f s ss zero le = refl
short_past f s ss (suc n) le =
    let rest = short_past f s ss n (omega arith) in
    let one = none_more f n s ss (λ e. absurd (omega arith)) in omega arith

-- one whose name is shorter adds its load
short_more : (f : Split → ℕ) (s : Split) (ss : List Split) (n : ℕ) → length s.piece.name < n
    → short_load f (s ∷ ss) n ≡ f s + short_load f ss n
short_more f s ss zero lt = absurd (omega arith)
short_more f s ss (suc n) lt = elim (cases_eq (length s.piece.name) n) [
  | inl e ↦ (let rest = short_past f s ss n (omega arith) in let one = one_more f n s ss e in omega arith)
  | inr ne ↦ (let rest = short_more f s ss n (omega arith) in let one = none_more f n s ss ne in omega arith)
]

-- a split adds at most its load, whatever its name
short_most : (f : Split → ℕ) (s : Split) (ss : List Split) (n : ℕ) → short_load f (s ∷ ss) n ≤ f s + short_load f ss n
short_most f s ss n = elim (cases_lt (length s.piece.name) n) [
  | inl lt ↦ (let a = short_more f s ss n lt in omega arith)
  | inr le ↦ (let a = short_past f s ss n le in omega arith)
]

-- together at most all
short_low : (f : Split → ℕ) (ss : List Split) (n : ℕ) → short_load f ss n ≤ load f ss
short_low f [] n = (let a = short_none f n in omega arith)
short_low f (s ∷ ss) n = (let a = short_most f s ss n in let b = short_low f ss n in omega arith)

-- and past the longest name just all
short_all : (f : Split → ℕ) (ss : List Split) (n : ℕ) → longest_name ss < n → short_load f ss n ≡ load f ss
short_all f [] n lt = short_none f n
short_all f (s ∷ ss) n lt =
    let a = short_more f s ss n (omega arith) in
    let b = short_all f ss n (omega arith) in omega arith

-- what the opened pieces with names of a length weigh
long_pieces : (h : Subproblem → ℕ) (works : List Worked) (k : ℕ)
    → weigh h (pieces_opened (all_as_long k works)) ≡ load (λ s. h s.piece) (as_long k (all_opened works))
long_pieces h works k = ap (λ l. weigh h (pieces_opened l)) (all_as_long_are k works)
    ∙ sym (load_pieces h (as_long k (all_opened works)))

-- and their kids
long_kids : (h : Subproblem → ℕ) (works : List Worked) (k : ℕ)
    → weigh h (all_kids (all_as_long k works)) ≡ load (λ s. weigh h (kids_of s)) (as_long k (all_opened works))
long_kids h works k = ap (λ l. weigh h (all_kids l)) (all_as_long_are k works)
    ∙ sym (load_kids h (as_long k (all_opened works)))

-- those with names shorter than this weigh at most what all opened pieces weigh
pub pieces_to : (h : Subproblem → ℕ) (works : List Worked) (n : ℕ)
    → sum_below (λ k. weigh h (pieces_opened (all_as_long k works))) n ≤ weigh h (pieces_opened (all_opened works))
pieces_to h works n =
    let a = sum_same (λ k. weigh h (pieces_opened (all_as_long k works)))
    (λ k. load (λ s. h s.piece) (as_long k (all_opened works))) (long_pieces h works) n in
    let b = short_low (λ s. h s.piece) (all_opened works) n in
    omega (arith, load_pieces h (all_opened works))

-- and so do their kids
pub kids_to : (h : Subproblem → ℕ) (works : List Worked) (n : ℕ)
    → sum_below (λ k. weigh h (all_kids (all_as_long k works))) n ≤ weigh h (all_kids (all_opened works))
kids_to h works n =
    let a = sum_same (λ k. weigh h (all_kids (all_as_long k works)))
    (λ k. load (λ s. weigh h (kids_of s)) (as_long k (all_opened works))) (long_kids h works) n in
    let b = short_low (λ s. weigh h (kids_of s)) (all_opened works) n in
    omega (arith, load_kids h (all_opened works))

-- past the longest name they are all kids
pub kids_all : (h : Subproblem → ℕ) (works : List Worked)
    → sum_below (λ k. weigh h (all_kids (all_as_long k works))) (longest_name (all_opened works) + 1)
    ≡ weigh h (all_kids (all_opened works))
kids_all h works =
    let n : ℕ = longest_name (all_opened works) + 1 in
    let a = sum_same (λ k. weigh h (all_kids (all_as_long k works)))
    (λ k. load (λ s. weigh h (kids_of s)) (as_long k (all_opened works))) (long_kids h works) n in
    let b = short_all (λ s. weigh h (kids_of s)) (all_opened works) n (omega arith) in
    omega (arith, load_kids h (all_opened works))

-- and just all opened pieces
pub pieces_all : (h : Subproblem → ℕ) (works : List Worked)
    → sum_below (λ k. weigh h (pieces_opened (all_as_long k works))) (longest_name (all_opened works) + 1)
    ≡ weigh h (pieces_opened (all_opened works))
pieces_all h works =
    let n : ℕ = longest_name (all_opened works) + 1 in
    let a = sum_same (λ k. weigh h (pieces_opened (all_as_long k works)))
    (λ k. load (λ s. h s.piece) (as_long k (all_opened works))) (long_pieces h works) n in
    let b = short_all (λ s. h s.piece) (all_opened works) n (omega arith) in
    omega (arith, load_pieces h (all_opened works))

-- the splits whose names are shorter than this, shorter names first
abbrev pub in_turn : ℕ → List Worked → List Split
in_turn zero works = []
in_turn (suc n) works = in_turn n works ++ all_as_long n works

-- what their pieces weigh
pub pieces_in_turn : (h : Subproblem → ℕ) (works : List Worked) (n : ℕ)
    → weigh h (pieces_opened (in_turn n works)) ≡ sum_below (λ k. weigh h (pieces_opened (all_as_long k works))) n
pieces_in_turn h works zero = refl
pieces_in_turn h works (suc n) =
    let a = ap (weigh h) (pieces-append (in_turn n works) (all_as_long n works)) in
    omega (
      arith,
      a,
      pieces_in_turn h works n,
      weigh-append h (pieces_opened (in_turn n works)) (pieces_opened (all_as_long n works)),
    )

-- and their kids
pub kids_in_turn : (h : Subproblem → ℕ) (works : List Worked) (n : ℕ)
    → weigh h (all_kids (in_turn n works)) ≡ sum_below (λ k. weigh h (all_kids (all_as_long k works))) n
kids_in_turn h works zero = refl
kids_in_turn h works (suc n) =
    let a = ap (weigh h) (kids-append (in_turn n works) (all_as_long n works)) in
    omega (
      arith,
      a,
      kids_in_turn h works n,
      weigh-append h (all_kids (in_turn n works)) (all_kids (all_as_long n works)),
    )

-- a kid with a name of one number more is one of a split with a name of that length
pub kids_long : (n : ℕ) (p : Subproblem) (ss : List Split) → length p.name ≡ suc n → IsAmong p (all_kids ss)
    → IsAmong p (all_kids (as_long n ss))
kids_long n p [] e at = absurd at
kids_long n p (s ∷ ss) e at = elim (among_either p (kids_of s) (all_kids ss) at) [
  | inl kid ↦ (let k = among_numbered s p kid in
      let long : length p.name ≡ length (s.piece.name ++ k.0 ∷ []) = ap (λ (q : Subproblem). length q.name) k.2 in
      let is : length s.piece.name ≡ n = omega (arith, long, e, length-append s.piece.name (k.0 ∷ [])) in
      subst (λ (l : List Split). IsAmong p (all_kids l)) (sym (long_first n s ss is))
      (among_left p (kids_of s) (all_kids (as_long n ss)) kid))
  | inr rest ↦ later (eqb (length s.piece.name) n) (as_long n ss) (kids_long n p ss e rest)
]
  where
    later : (b : Bool) (others : List Split) → IsAmong p (all_kids others)
        → IsAmong p (all_kids (if b then s ∷ others else others))
    later true others at = among_right p (kids_of s) (all_kids others) at
    later false others at = at

    long_first : (n : ℕ) (s : Split) (ss : List Split) → length s.piece.name ≡ n
        → as_long n (s ∷ ss) ≡ s ∷ as_long n ss
    long_first n s ss e = ap (λ b. if b then s ∷ as_long n ss else as_long n ss) (eqb_is (length s.piece.name) n e)

-- no name of another length is among them
other_length : (n : ℕ) (y : List ℕ) (ss : List Split) → length y ≢ n
    → weigh (named y) (pieces_opened (as_long n ss)) ≡ 0
other_length n y [] apart = refl
other_length n y (s ∷ ss) apart =
    first (eqb (length s.piece.name) n) refl (as_long n ss) (other_length n y ss apart)
  where
    first : (b : Bool) → eqb (length s.piece.name) n ≡ b → (others : List Split)
        → weigh (named y) (pieces_opened others) ≡ 0
        → weigh (named y) (pieces_opened (if b then s ∷ others else others)) ≡ 0
    first false e others rest = rest
    first true e others rest = elim (either_way (is_same_name y s.piece.name)) [
      | inl t ↦ absurd (apart (ap length (same_true y s.piece.name t) ∙ eqb_true (length s.piece.name) n e))
      | inr f ↦ (let a : named y s.piece ≡ 0 = ap bit f in omega arith)
    ]

-- among splits with names of one length, no other name is opened
pub none_of_other_length : (n : ℕ) (y : List ℕ) (works : List Worked) → length y ≢ n
    → weigh (named y) (pieces_opened (all_as_long n works)) ≡ 0
none_of_other_length n y works apart =
    ap (λ l. weigh (named y) (pieces_opened l)) (all_as_long_are n works) ∙ other_length n y (all_opened works) apart

module _ (P : Split → Type 0) where
  -- what holds of all splits holds of those with long names
  pub all_in_long : (n : ℕ) (ss : List Split) → All P ss → All P (as_long n ss)
  all_in_long n [] all = all
  all_in_long n (s ∷ ss) all =
      first (eqb (length s.piece.name) n) (as_long n ss) (all_in_long n ss (All-tail P s ss all))
    where
      first : (b : Bool) (others : List Split) → All P others → All P (if b then s ∷ others else others)
      first true others rest = All-cons P s others (All-head P s ss all) rest
      first false others rest = rest
