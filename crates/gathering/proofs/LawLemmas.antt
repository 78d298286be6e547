-- From joined results alone: how many pieces are closed, and by whom.
use Rattle.std.proofs.Common.{◌≡◌, inl, inr, ℕ, zero, suc, ◌+◌, ◌≤◌, List, [], ◌∷◌, ◌++◌, length, All}
use Rattle.std.proofs.Common.{min, refl, sym, ◌∙◌, subst, arith, append_assoc}
use Rattle.std.proofs.lemmas.List.Elements.{All-head, All-tail, All-nil, All-append}
use Rattle.set_cover.specs.Instance.{Instance}
use Rattle.proof_tree.specs.Piece.{Subproblem, Fathomed, root_of}
use Rattle.proof_tree.specs.Opened.{Split}
use Rattle.proof_tree.specs.Weights.{weigh}
use Rattle.event_core.specs.State.{State, waiting, HasPart, Begins}
use Rattle.event_core.specs.Plays.{Plays}
use Rattle.event_core.specs.declared.event.Event.{Event}
use Rattle.event_core.proofs.StateLemmas.{not_none}
use Rattle.schedule_law.specs.Worked.{Worked, IsWork, IsOpenedIn}
use Rattle.schedule_law.specs.Joined.{AreJoined, all_kids, all_pieces, all_opened, all_closed, all_back, least_size}
use Rattle.schedule_law.specs.Joined.{pieces_opened, pieces_closed}
use Rattle.schedule_law.specs.Listing.{longest_name, opens_below, offers, looks, closes, AllEnabled}
use Rattle.schedule_law.proofs.PieceLemmas.{named, one_named, IsAmong, among_others}
use Rattle.schedule_law.proofs.PieceLemmas.{count_named_is}
use Rattle.schedule_law.proofs.LongLemmas.{all_as_long, all_as_long_are, all_in_long, in_turn, pieces_in_turn}
use Rattle.schedule_law.proofs.LongLemmas.{kids_in_turn, pieces_all, kids_all}
use Rattle.schedule_law.proofs.LawLemmas.{law, single_name}
use Rattle.gathering.specs.Playing.{tries_below, tries_before_closes}
use Rattle.gathering.specs.Gathered.{Gathering, IsGathered}
use Rattle.gathering.specs.Counted.{AreCounted}
use Rattle.gathering.proofs.PlayLemmas.{plays_split}
use Rattle.gathering.proofs.WaitLemmas.{many, AreWaiting, same_waiting}
use Rattle.gathering.proofs.WaitLemmas.{all_gone_waiting, none_waiting}
use Rattle.gathering.proofs.FollowLemmas.{enabled_after, follow_tries_below, follow_all_closes}
use Rattle.gathering.proofs.FollowLemmas.{same_offers, same_looks, gleans_gone}
use Rattle.gathering.proofs.OpenedLemmas.{opened_all}

-- many is the length
many_are : (ps : List Subproblem) → many ps ≡ length ps
many_are [] = refl
many_are (p ∷ ps) = omega (arith, many_are ps)

-- as many pieces as were closed
many_closed : (ks : List Fathomed) → many (pieces_closed ks) ≡ length ks
many_closed [] = refl
many_closed (k ∷ ks) = omega (arith, many_closed ks)

-- ---- what workers opened

-- each piece that a worker opened is one of the region with a short name
opened_in_all : (region : Instance) (least : ℕ) (works : List Worked) → All (IsWork region least) works
    → All (IsOpenedIn region) (all_opened works)
opened_in_all region least [] all = All-nil (IsOpenedIn region)
opened_in_all region least (x ∷ xs) all = All-append (IsOpenedIn region) x.opened (all_opened xs)
    (All-head (IsWork region least) x xs all).opened
    (opened_in_all region least xs (All-tail (IsWork region least) x xs all))

module _ (region : Instance) (first : List ℕ) (aim : ℕ) (works : List Worked) (left : List Subproblem)
    (j : AreJoined region (min aim (length first)) works left) where
  abbrev root : Subproblem
  root = root_of region

  abbrev came : List Subproblem
  came = all_pieces region works

  abbrev most : ℕ
  most = longest_name (all_opened works) + 1

  -- those that workers opened, shorter names first
  abbrev turns : List Split
  turns = in_turn most works

  -- no name stands twice among the pieces that came to be
  single : (x : List ℕ) → weigh (named x) came ≤ 1
  single x =
      let a = single_name region (min aim (length first)) works left j x in
      let b = count_named_is x came in
      omega arith

  -- all that workers opened is of the region
  all_in_it : All (IsOpenedIn region) (all_opened works)
  all_in_it = opened_in_all region (least_size (min aim (length first)) works) works j.fit

  -- so are those with names of each length
  in_it : (n : ℕ) → All (IsOpenedIn region) (all_as_long n works)
  in_it n = subst (All (IsOpenedIn region)) (sym (all_as_long_are n works))
      (all_in_long (IsOpenedIn region) n (all_opened works) all_in_it)

  -- so are all whose turn comes
  turns_in_it : (n : ℕ) → All (IsOpenedIn region) (in_turn n works)
  turns_in_it zero = All-nil (IsOpenedIn region)
  turns_in_it (suc n) = All-append (IsOpenedIn region) (in_turn n works) (all_as_long n works)
      (turns_in_it n) (in_it n)

  -- those whose turn comes are all that workers opened
  weigh_pieces : (h : Subproblem → ℕ) → weigh h (pieces_opened turns) ≡ weigh h (pieces_opened (all_opened works))
  weigh_pieces h = pieces_in_turn h works most ∙ pieces_all h works

  -- the root and their kids are all pieces that came to be
  weigh_kids : (h : Subproblem → ℕ) → weigh h (root ∷ all_kids turns) ≡ weigh h came
  weigh_kids h = omega (arith, kids_in_turn h works most, kids_all h works)

  -- each of them came to be
  turns_came : (p : Subproblem) → IsAmong p (pieces_opened turns) → IsAmong p came
  turns_came p at = among_others p (pieces_opened turns) came
      (λ h. (let a = weigh_pieces h in let b = j.balance h in omega arith)) at

  module _ (start : State) (begins : Begins region first aim (length works + 1) start) where
    -- at first the root waits alone
    root_waits : AreWaiting start (root ∷ [])
    root_waits = record {
      wait = λ p at. elim at [
        | inl e ↦ subst (λ (q : Subproblem). HasPart start q.name q.chosen q.barred waiting) (sym e) begins.root
        | inr none ↦ absurd none
      ];
      only = only_root;
      once = λ x. (let a = single x in omega arith);
    }
      where
        only_root : (name chosen barred : List ℕ) → HasPart start name chosen barred waiting
            → 1 ≤ weigh (named name) (root ∷ [])
        only_root [] c b h = omega (arith, one_named root)
        only_root (n ∷ ns) c b h =
            not_none (record { chosen = c; barred = b; status = waiting }) (sym (begins.alone n ns) ∙ h)

    -- ---- the whole play

    -- events of four lists, grouped to the right
    regroup : (a b c d : List Event) → ((a ++ b) ++ c) ++ d ≡ a ++ (b ++ (c ++ d))
    regroup a b c d = append_assoc (a ++ b) c d ∙ append_assoc a b (c ++ d)

    -- once workers opened their pieces, as many wait as the works say, and each that they closed may be closed
    record IsPlayed (state : State) : Type 0 where
      pub now : List Subproblem
      pub wait : AreWaiting state now
      pub count : many now + many (pieces_opened (all_opened works)) ≡ many came
      pub enabled : AllEnabled state (closes 0 works)

    -- the play goes through every event of the list before all closing
    played : (opened : State) → Plays start (tries_before_closes works) opened → IsPlayed opened
    played opened p =
        let looked = plays_split start (tries_below most works ++ offers 0 works) (looks 0 works) opened p in
        let offered = plays_split start (tries_below most works) (offers 0 works) looked.0 looked.1.0 in
        let e = subst (AllEnabled start)
        (regroup (opens_below most works) (offers 0 works) (looks 0 works) (closes 0 works))
        (law region first aim works left j start begins) in
        let f = follow_tries_below most works _ start offered.0 e offered.1.0 in
        let e2 = enabled_after (offers 0 works) _ offered.0 looked.0 f.enabled offered.1.1 in
        let e3 = enabled_after (looks 0 works) (closes 0 works) looked.0 opened e2 looked.1.1 in
        let a = opened_all region came single turns start offered.0 (root ∷ []) begins.of_it root_waits
        (turns_in_it most) turns_came (λ h. (let b = weigh_kids h in omega arith)) f.opened_all in
        let same = same_looks 0 works looked.0 opened looked.1.1 ∙ same_offers 0 works offered.0 looked.0 offered.1.1 in
        record {
          now = a.now;
          wait = same_waiting offered.0 opened a.now same a.wait;
          count = (let b = a.count in let c = weigh_pieces (λ q. 1) in let d = weigh_kids (λ q. 1) in omega arith);
          enabled = e3;
        }

  -- at the end none waits, so that all that waited was closed by a worker or by the caller's thread
  pub counted : (gathered : Gathering) → IsGathered region first aim works gathered → AreCounted works left gathered
  counted gathered g =
      let p = played g.start g.begins g.opened g.opens in
      let ended = follow_all_closes 0 works g.opened gathered.closed_by g.closed p.enabled g.closes in
      let one = all_gone_waiting (length (all_closed works)) g.opened g.closed p.now p.wait ended.are_gone in
      let two = all_gone_waiting (length gathered.gleaned) g.closed g.final one.rest one.wait
      (gleans_gone (length works) gathered.gleaned g.closed g.final g.gleans) in
      let none = none_waiting g.final two.rest two.wait g.done in
      record {
        by_workers = ended.all;
        by_caller = (let a = p.count in let b = one.count in let c = two.count in let d = j.balance (λ q. 1) in
            omega (arith, many_closed (all_closed works), many_are (all_back works), many_are left));
      }
