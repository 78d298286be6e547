-- Where a piece that waits is opened, its kids wait in its place.
use Rattle.std.proofs.Common.{◌≡◌, ◌≢◌, inl, inr, ℕ, ◌+◌, ◌≤◌, List, [], ◌∷◌, ◌++◌, length, All}
use Rattle.std.proofs.Common.{refl, sym, ap, ◌∙◌, subst, arith}
use Rattle.std.proofs.lemmas.List.Elements.{All-head, All-tail}
use Rattle.set_cover.specs.Instance.{Instance}
use Rattle.proof_tree.specs.Piece.{Subproblem}
use Rattle.proof_tree.specs.Opened.{Split, IsSplit, kids_of}
use Rattle.proof_tree.specs.Weights.{weigh}
use Rattle.event_core.specs.State.{State, Status, waiting, held, opened, HasPart}
use Rattle.event_core.specs.Events.{Opens, IsParted}
use Rattle.event_core.proofs.NameLemmas.{same_or_not, kid_or_not, kid_other}
use Rattle.event_core.proofs.StateLemmas.{same_parts, waiting_not_opened}
use Rattle.schedule_law.specs.Worked.{IsOpenedIn}
use Rattle.schedule_law.specs.Joined.{all_kids, pieces_opened}
use Rattle.schedule_law.proofs.PieceLemmas.{named, one_named, IsAmong, weigh-append, named_among, among_others}
use Rattle.schedule_law.proofs.PieceLemmas.{among_left, among_right, among_either}
use Rattle.schedule_law.proofs.KidLemmas.{numbered_kid, numbered_among, among_numbered, steps_of}
use Rattle.schedule_law.proofs.TurnLemmas.{Knows, Keeps, turned_keeps, opened_keeps, after_opening, opened_parted}
use Rattle.schedule_law.proofs.TurnLemmas.{way_of}
use Rattle.gathering.proofs.WaitLemmas.{without, many, many-without, weigh-without, named-without, not_named}
use Rattle.gathering.proofs.WaitLemmas.{among-without, AreWaiting}
use Rattle.gathering.proofs.FollowLemmas.{IsOpened, AllOpened}

-- ---- a piece that is opened

-- it waited before, or a worker took it
module _ (old mid new : State) (s : Split) (was : Status) (ps : List Subproblem)
    (is : HasPart mid s.piece.name s.piece.chosen s.piece.barred was)
    (others_stay : (other : List ℕ) → other ≢ s.piece.name → mid.part_at other ≡ old.part_at other)
    (of_it : mid.region ≡ s.piece.region) (split : IsSplit s) (o : Opens mid s.piece.name (way_of s) new)
    (a : AreWaiting old ps) (once : (x : List ℕ) → weigh (named x) (ps ++ kids_of s) ≤ 1) where
  -- its kids are those of the places that the piece is to be opened with
  parted : IsParted mid s.piece.name s.piece.chosen s.piece.barred (way_of s) s.places new
  parted = opened_parted mid new s was is of_it split o

  -- a piece of another name that waited, or a kid, waits
  waits_then : (q : Subproblem) → IsAmong q (ps ++ kids_of s) → q.name ≢ s.piece.name
      → HasPart new q.name q.chosen q.barred waiting
  waits_then q at ne =
      let knows : Knows old ps [] = λ p there none. a.wait p there in
      let other : weigh (named q.name) ([] ++ s.piece ∷ []) ≡ 0 =
      (let none = not_named q.name s.piece ne in omega arith) in
      after_opening old mid new s was ps [] is others_stay of_it split o knows once q at other

  -- a kid has another name
  kid_apart : (q : Subproblem) → IsAmong q (kids_of s) → q.name ≢ s.piece.name
  kid_apart q at = (let k = among_numbered s q at in
      subst (λ (r : Subproblem). r.name ≢ s.piece.name) (sym k.2) (kid_other s.piece.name k.0))

  -- no other piece waits
  none_else : (n c b : List ℕ) → HasPart new n c b waiting
      → 1 ≤ weigh (named n) (without s.piece.name ps ++ kids_of s)
  none_else n c b h =
      let sum = weigh-append (named n) (without s.piece.name ps) (kids_of s) in
      elim (same_or_not n s.piece.name) [
        | inl e ↦ waiting_not_opened (way_of s) (same_parts new s.piece.name c b s.piece.chosen s.piece.barred waiting
            (opened (way_of s)) (ap new.part_at (sym e) ∙ h) parted.here).status
        | inr ne ↦ elim (kid_or_not s.piece.name n (length (steps_of s))) [
          | inl k ↦ (let kid : Subproblem = numbered_kid s k.0 in
              let there = named_among kid (kids_of s) (numbered_among s k.0 k.1) in
              let same = ap (λ x. weigh (named x) (kids_of s)) k.2 in omega arith)
          | inr none_of ↦ (let before = a.only n c b (sym (others_stay n ne) ∙ sym (parted.others n ne none_of) ∙ h) in
              let same = named-without n s.piece.name ps ne in omega arith)
        ]
      ]

  -- the kids wait in its place
  opened_waiting : AreWaiting new (without s.piece.name ps ++ kids_of s)
  opened_waiting = record {
    wait = λ q at. elim (among_either q (without s.piece.name ps) (kids_of s) at) [
      | inl before ↦ (let w = among-without q s.piece.name ps before in
          waits_then q (among_left q ps (kids_of s) w.among) w.apart)
      | inr kid ↦ waits_then q (among_right q ps (kids_of s) kid) (kid_apart q kid)
    ];
    only = none_else;
    once = λ x. (let a = once x in let b = weigh-without (named x) s.piece.name ps in
        omega (
          arith,
          weigh-append (named x) ps (kids_of s),
          weigh-append (named x) (without s.piece.name ps) (kids_of s),
        ));
  }

-- ---- the piece of a name

-- a piece of this name
named_there : (name : List ℕ) (ps : List Subproblem) → 1 ≤ weigh (named name) ps
    → (p : Subproblem) × IsAmong p ps × (p.name ≡ name)
named_there name [] some = absurd (omega arith)
named_there name (p ∷ ps) some = elim (same_or_not name p.name) [
  | inl e ↦ (p, inl refl, sym e)
  | inr ne ↦ (let none = not_named name p ne in let later = named_there name ps (omega arith) in
      (later.0, inr later.1, later.2))
]

-- where no name stands twice, pieces of one name are one
one_of_name : (p q : Subproblem) (ps : List Subproblem) → p.name ≡ q.name → weigh (named p.name) ps ≤ 1
    → IsAmong p ps → IsAmong q ps → p ≡ q
one_of_name p q [] same one at there = absurd at
one_of_name p q (x ∷ xs) same one (inl e) (inl f) = e ∙ sym f
one_of_name p q (x ∷ xs) same one (inl e) (inr g) =
    let here : named p.name x ≡ 1 = ap (named p.name) (sym e) ∙ one_named p in
    let some = named_among q xs g in
    let again = ap (λ n. weigh (named n) xs) same in
    absurd (omega arith)
one_of_name p q (x ∷ xs) same one (inr g) (inl f) =
    let here : named p.name x ≡ 1 = ap (named p.name) (sym f) ∙ ap (λ n. named n q) same ∙ one_named q in
    let some = named_among p xs g in
    absurd (omega arith)
one_of_name p q (x ∷ xs) same one (inr g) (inr h) = one_of_name p q xs same (omega arith) g h

-- ---- pieces that are opened

-- the pieces that wait are no more than those before with the kids, and as many as these but for those opened
pub record AreOpenedFrom (region : Instance) (before : List Subproblem) (splits : List Split) (state : State)
    : Type 0 where
  pub of_it : state.region ≡ region
  pub now : List Subproblem
  pub wait : AreWaiting state now
  pub less : (h : Subproblem → ℕ) → weigh h now ≤ weigh h before + weigh h (all_kids splits)
  pub count : many now + many (pieces_opened splits) ≡ many before + many (all_kids splits)

module _ (region : Instance) (came : List Subproblem) (single : (x : List ℕ) → weigh (named x) came ≤ 1) where
  -- the piece that is taken is among those that wait
  is_waiting : (state : State) (ps : List Subproblem) (p : Subproblem) (c b : List ℕ) → AreWaiting state ps
      → ((h : Subproblem → ℕ) → weigh h ps ≤ weigh h came) → IsAmong p came → HasPart state p.name c b waiting
      → IsAmong p ps
  is_waiting state ps p c b a le at h =
      let q = named_there p.name ps (a.only p.name c b h) in
      let there : IsAmong q.0 came = among_others q.0 ps came le q.1 in
      subst (λ (r : Subproblem). IsAmong r ps) (one_of_name q.0 p came q.2 (single q.0.name) there at) q.1

  -- a worker opens a piece: its kids wait in its place
  opened_one : (old new : State) (s : Split) (ps : List Subproblem) → old.region ≡ region → AreWaiting old ps
      → IsOpenedIn region s → IsAmong s.piece came
      → ((h : Subproblem → ℕ) → weigh h ps + weigh h (kids_of s) ≤ weigh h came) → IsOpened old s new
      → AreOpenedFrom region ps (s ∷ []) new
  opened_one old new s ps of a in_it at le o =
      let p = s.piece in
      let there = is_waiting old ps p o.may.chosen o.may.barred a (λ h. (let b = le h in omega arith)) at o.may.waits in
      let waits : HasPart old p.name p.chosen p.barred waiting = a.wait p there in
      let keeps : Keeps old o.taken = turned_keeps old p.name (held o.worker) o.taken o.takes in
      let same : o.taken.region ≡ region = keeps.same_region ∙ of in
      let some = named_among p ps there in
      let one = a.once p.name in
      record {
        of_it = (opened_keeps o.taken p.name (way_of s) new o.opens).same_region ∙ same;
        now = without p.name ps ++ kids_of s;
        wait = opened_waiting old o.taken new s (held o.worker) ps
            (o.takes.here p.chosen p.barred waiting waits) o.takes.others (same ∙ sym in_it.of_it) in_it.opens o.opens a
            (λ x. (let b = le (named x) in let c = single x in omega (arith, weigh-append (named x) ps (kids_of s))));
        less = λ h. omega (
          arith,
          weigh-without h p.name ps,
          weigh-append h (without p.name ps) (kids_of s),
          weigh-append h (kids_of s) [],
        );
        count = omega (
          arith,
          many-without p.name ps,
          weigh-append (λ q. 1) (without p.name ps) (kids_of s),
          weigh-append (λ q. 1) (kids_of s) [],
        );
      }

  -- pieces are opened in turn
  pub opened_all : (ss : List Split) (old new : State) (ps : List Subproblem) → old.region ≡ region
      → AreWaiting old ps → All (IsOpenedIn region) ss → ((p : Subproblem) → IsAmong p (pieces_opened ss)
      → IsAmong p came)
      → ((h : Subproblem → ℕ) → weigh h ps + weigh h (all_kids ss) ≤ weigh h came) → AllOpened old ss new
      → AreOpenedFrom region ps ss new
  opened_all [] old new ps of a all there le o = record {
    of_it = ap (λ (x : State). x.region) o ∙ of;
    now = ps;
    wait = subst (λ (x : State). AreWaiting x ps) (sym o) a;
    less = λ h. omega arith;
    count = omega arith;
  }
  opened_all (s ∷ ss) old new ps of a all there le (next, one, rest) =
      let kids : (h : Subproblem → ℕ) → weigh h (all_kids (s ∷ ss)) ≡ weigh h (kids_of s) + weigh h (all_kids ss) =
      λ h. weigh-append h (kids_of s) (all_kids ss) in
      let own : (h : Subproblem → ℕ) → weigh h (all_kids (s ∷ [])) ≡ weigh h (kids_of s) =
      λ h. (let b = weigh-append h (kids_of s) [] in omega arith) in
      let here = opened_one old next s ps of a (All-head (IsOpenedIn region) s ss all) (there s.piece (inl refl))
      (λ h. (let b = le h in let c = kids h in omega arith)) one in
      let later = opened_all ss next new here.now here.of_it here.wait (All-tail (IsOpenedIn region) s ss all)
      (λ p at. there p (inr at))
      (λ h. (let b = le h in let c = kids h in let d = here.less h in let e = own h in omega arith)) rest in
      record {
        of_it = later.of_it;
        now = later.now;
        wait = later.wait;
        less = λ h. (let b = later.less h in let c = kids h in let d = here.less h in let e = own h in omega arith);
        count = (let b = later.count in let c = kids (λ q. 1) in let d = here.count in let e = own (λ q. 1) in
            omega arith);
      }
