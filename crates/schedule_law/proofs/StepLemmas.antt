-- The events that open and close pieces, with others after them.
-- Where the others are enabled in each state that these leave, all are.
use Rattle.std.proofs.Common.{◌≡◌, inl, inr, ℕ, ◌+◌, ◌<◌, ◌≤◌, List, [], ◌∷◌, ◌++◌, length, slice_index, All}
use Rattle.std.proofs.Common.{refl, sym, ap, ◌∙◌, subst, subst₂, arith, append_assoc, append-nil, le_trans}
use Rattle.std.proofs.lemmas.List.{map-append}
use Rattle.std.proofs.lemmas.List.Elements.{All-head, All-tail}
use Rattle.set_cover.specs.Instance.{Instance}
use Rattle.proof_tree.specs.Piece.{Subproblem, Fathomed}
use Rattle.proof_tree.specs.Opened.{MayBeOpened, Split, kids_of}
use Rattle.proof_tree.specs.Weights.{weigh}
use Rattle.event_core.specs.State.{State, waiting, held, closed, HasPart}
use Rattle.event_core.specs.Events.{MayTake, Turns}
use Rattle.event_core.specs.declared.event.Event.{Event}
use Rattle.event_core.proofs.MoveLemmas.{opening_does, opening_enabled}
use Rattle.schedule_law.specs.Worked.{Worked, IsWork, IsOpenedIn, IsClosedFrom}
use Rattle.schedule_law.specs.Joined.{all_kids, all_closed, pieces_opened, pieces_closed}
use Rattle.schedule_law.specs.Listing.{opens_as_long, opens, closes_of, closes, AllEnabled}
use Rattle.schedule_law.proofs.PieceLemmas.{named, one_named, IsAmong, weigh-append, among_left, among_right}
use Rattle.schedule_law.proofs.LongLemmas.{as_long, all_as_long, openings, openings_are, all_in_long}
use Rattle.schedule_law.proofs.LongLemmas.{kids-append, pieces-append}
use Rattle.schedule_law.proofs.TurnLemmas.{Knows, Keeps, keeps_self, keeps_on, turned_keeps, opened_keeps}
use Rattle.schedule_law.proofs.TurnLemmas.{other_name, unused_before, after_opening, way_of}

-- ---- one piece is taken

-- a piece that came to be, and isn't used yet, waits
pub waits_unused : (state : State) (made used : List Subproblem) (p : Subproblem) (n : ℕ) → Knows state made used
    → IsAmong p made → weigh (named p.name) used + (named p.name p + n) ≤ 1
    → HasPart state p.name p.chosen p.barred waiting
waits_unused state made used p n knows at le = knows p at (let one = one_named p in omega arith)

-- a worker may take a piece that waits
may_take : (state : State) (w : ℕ) (p : Subproblem) → w < length state.seen
    → HasPart state p.name p.chosen p.barred waiting → MayTake state w p.name
may_take state w p lt waits = record { known = lt; chosen = p.chosen; barred = p.barred; waits = waits }

-- ---- a worker opens pieces

-- each of the pieces to be opened came to be, and no name stands twice
pub record AreReady (made used : List Subproblem) (splits : List Split) : Type 0 where
  pub there : (p : Subproblem) → IsAmong p (pieces_opened splits) → IsAmong p made
  pub once : (x : List ℕ) → weigh (named x) made + weigh (named x) (all_kids splits) ≤ 1
  pub fresh : (x : List ℕ) → weigh (named x) used + weigh (named x) (pieces_opened splits) ≤ 1

-- after a split is opened its kids came to be, and the rest are ready
ready_next : (made used : List Subproblem) (s : Split) (ss : List Split) → AreReady made used (s ∷ ss)
    → AreReady (made ++ kids_of s) (used ++ s.piece ∷ []) ss
ready_next made used s ss r = record {
  there = λ p at. among_left p made (kids_of s) (r.there p (inr at));
  once = λ x. (let a = r.once x in let b = weigh-append (named x) made (kids_of s) in
      let c = weigh-append (named x) (kids_of s) (all_kids ss) in omega arith);
  fresh = λ x. (let a = r.fresh x in let b = weigh-append (named x) used (s.piece ∷ []) in omega arith);
}

-- and each name came to be at most once
once_now : (made used : List Subproblem) (s : Split) (ss : List Split) → AreReady made used (s ∷ ss) → (x : List ℕ)
    → weigh (named x) (made ++ kids_of s) ≤ 1
once_now made used s ss r x =
    let a = r.once x in
    let b = weigh-append (named x) made (kids_of s) in
    let c = weigh-append (named x) (kids_of s) (all_kids ss) in
    omega arith

-- the front of splits that are ready is ready
ready_front : (made used : List Subproblem) (xs ys : List Split) → AreReady made used (xs ++ ys) → AreReady made used xs
ready_front made used xs ys r =
    let kids : (x : List ℕ) → weigh (named x) (all_kids (xs ++ ys))
    ≡ weigh (named x) (all_kids xs) + weigh (named x) (all_kids ys) =
    λ x. ap (weigh (named x)) (kids-append xs ys) ∙ weigh-append (named x) (all_kids xs) (all_kids ys) in
    let pieces : (x : List ℕ) → weigh (named x) (pieces_opened (xs ++ ys))
    ≡ weigh (named x) (pieces_opened xs) + weigh (named x) (pieces_opened ys) =
    λ x. ap (weigh (named x)) (pieces-append xs ys) ∙ weigh-append (named x) (pieces_opened xs) (pieces_opened ys) in
    record {
      there = λ p at. r.there p (subst (IsAmong p) (sym (pieces-append xs ys))
          (among_left p (pieces_opened xs) (pieces_opened ys) at));
      once = λ x. (let a = r.once x in let b = kids x in omega arith);
      fresh = λ x. (let a = r.fresh x in let b = pieces x in omega arith);
    }

-- and the rest is, once the front is opened
ready_rest : (made used : List Subproblem) (xs ys : List Split) → AreReady made used (xs ++ ys)
    → AreReady (made ++ all_kids xs) (used ++ pieces_opened xs) ys
ready_rest made used xs ys r =
    let kids : (x : List ℕ) → weigh (named x) (all_kids (xs ++ ys))
    ≡ weigh (named x) (all_kids xs) + weigh (named x) (all_kids ys) =
    λ x. ap (weigh (named x)) (kids-append xs ys) ∙ weigh-append (named x) (all_kids xs) (all_kids ys) in
    let pieces : (x : List ℕ) → weigh (named x) (pieces_opened (xs ++ ys))
    ≡ weigh (named x) (pieces_opened xs) + weigh (named x) (pieces_opened ys) =
    λ x. ap (weigh (named x)) (pieces-append xs ys) ∙ weigh-append (named x) (pieces_opened xs) (pieces_opened ys) in
    record {
      there = λ p at. among_left p made (all_kids xs) (r.there p (subst (IsAmong p) (sym (pieces-append xs ys))
          (among_right p (pieces_opened xs) (pieces_opened ys) at)));
      once = λ x. (let a = r.once x in let b = kids x in
          let c = weigh-append (named x) made (all_kids xs) in omega arith);
      fresh = λ x. (let a = r.fresh x in let b = pieces x in
          let c = weigh-append (named x) used (pieces_opened xs) in omega arith);
    }

-- with nothing more made or used, the same is known
knows_nil : (state : State) (made used : List Subproblem) → Knows state made used
    → Knows state (made ++ []) (used ++ [])
knows_nil state made used knows = subst₂ (Knows state) (sym (append-nil made)) (sym (append-nil used)) knows

-- ready splits can be opened in turn, and what follows may count on their kids
pub opens_go : (region : Instance) (w : ℕ) (ss : List Split) (rest : List Event) (state : State)
    (made used : List Subproblem) → w < length state.seen → state.region ≡ region → All (IsOpenedIn region) ss
    → Knows state made used → AreReady made used ss
    → ((next : State) → Keeps state next → Knows next (made ++ all_kids ss) (used ++ pieces_opened ss)
    → AllEnabled next rest)
    → AllEnabled state (openings w ss ++ rest)
opens_go region w [] rest state made used lt of all knows ready go =
    go state (keeps_self state) (knows_nil state made used knows)
opens_go region w (s ∷ ss) rest state made used lt of all knows ready go =
    let p = s.piece in
    let in_it = All-head (IsOpenedIn region) s ss all in
    let waits : HasPart state p.name p.chosen p.barred waiting =
    waits_unused state made used p _ knows (ready.there p (inl refl)) (ready.fresh p.name) in (
      may_take state w p lt waits,
      λ mid taken.
          (let keeps : Keeps state mid = turned_keeps state p.name (held w) mid taken in
          let holds : HasPart mid p.name p.chosen p.barred (held w) = taken.here p.chosen p.barred waiting waits in
          let same : mid.region ≡ p.region = keeps.same_region ∙ of ∙ sym in_it.of_it in (
            (opening_enabled mid p.name s.bars s.on).0 (record {
              chosen = p.chosen;
              barred = p.barred;
              status = held w;
              there = holds;
              left = tt;
              opens = subst (λ (r : Instance). MayBeOpened (record p { region = r }) s.bars s.on) (sym same)
                  in_it.opens.opens;
            }),
            λ next does.
                (let opened = (opening_does mid p.name s.bars s.on next).1 does in
                let kept : Keeps state next =
                keeps_on state mid next keeps (opened_keeps mid p.name (way_of s) next opened) in
                opens_go region w ss rest next (made ++ kids_of s) (used ++ p ∷ [])
                (subst (λ (l : List ℕ). w < length l) (sym kept.same_seen) lt) (kept.same_region ∙ of)
                (All-tail (IsOpenedIn region) s ss all)
                (after_opening state mid next s (held w) made used holds taken.others same in_it.opens opened knows
                (once_now made used s ss ready))
                (ready_next made used s ss ready)
                (λ last more known. go last (keeps_on state next last kept more)
                (subst₂ (Knows last) (append_assoc made (kids_of s) (all_kids ss))
                (append_assoc used (p ∷ []) (pieces_opened ss)) known))),
          )),
    )

-- the same for all workers
pub opens_all : (n : ℕ) (region : Instance) (least : ℕ) (w : ℕ) (works : List Worked) (rest : List Event)
    (state : State) (made used : List Subproblem) → w + length works ≤ length state.seen → state.region ≡ region
    → All (IsWork region least) works → Knows state made used → AreReady made used (all_as_long n works)
    → ((next : State) → Keeps state next
    → Knows next (made ++ all_kids (all_as_long n works)) (used ++ pieces_opened (all_as_long n works))
    → AllEnabled next rest)
    → AllEnabled state (opens n w works ++ rest)
opens_all n region least w [] rest state made used le of all knows ready go =
    go state (keeps_self state) (knows_nil state made used knows)
opens_all n region least w (x ∷ xs) rest state made used le of all knows ready go =
    let ss : List Split = as_long n x.opened in
    let others : List Split = all_as_long n xs in
    let work = All-head (IsWork region least) x xs all in
    let regroup : (opens_as_long n w x.opened ++ opens n (w + 1) xs) ++ rest
    ≡ openings w ss ++ (opens n (w + 1) xs ++ rest) =
    append_assoc (opens_as_long n w x.opened) (opens n (w + 1) xs) rest
    ∙ ap (λ l. l ++ (opens n (w + 1) xs ++ rest)) (openings_are n w x.opened) in
    subst (AllEnabled state) (sym regroup)
    (opens_go region w ss (opens n (w + 1) xs ++ rest) state made used (omega arith) of
    (all_in_long (IsOpenedIn region) n x.opened work.opened) knows (ready_front made used ss others ready)
    (λ next kept known. opens_all n region least (w + 1) xs rest next (made ++ all_kids ss) (used ++ pieces_opened ss)
    (let l = ap length kept.same_seen in omega arith) (kept.same_region ∙ of) (All-tail (IsWork region least) x xs all)
    known (ready_rest made used ss others ready)
    (λ last more final. go last (keeps_on state next last kept more)
    (subst₂ (Knows last)
    (append_assoc made (all_kids ss) (all_kids others) ∙ ap (λ l. made ++ l) (sym (kids-append ss others)))
    (append_assoc used (pieces_opened ss) (pieces_opened others) ∙ ap (λ l. used ++ l) (sym (pieces-append ss others)))
    final))))

-- ---- a worker closes pieces

-- each of the pieces to be closed came to be, and no name stands twice
pub record AreClosable (made used : List Subproblem) (ended : List Fathomed) : Type 0 where
  pub there : (p : Subproblem) → IsAmong p (pieces_closed ended) → IsAmong p made
  pub fresh : (x : List ℕ) → weigh (named x) used + weigh (named x) (pieces_closed ended) ≤ 1

-- after a piece is closed the rest can be closed
closable_next : (made used : List Subproblem) (e : Fathomed) (es : List Fathomed) → AreClosable made used (e ∷ es)
    → AreClosable made (used ++ e.piece ∷ []) es
closable_next made used e es r = record {
  there = λ p at. r.there p (inr at);
  fresh = λ x. (let a = r.fresh x in let b = weigh-append (named x) used (e.piece ∷ []) in omega arith);
}

-- the closed pieces of two lists, one list after the other
closed-append : (xs ys : List Fathomed) → pieces_closed (xs ++ ys) ≡ pieces_closed xs ++ pieces_closed ys
closed-append xs ys = map-append (λ f. f.piece) xs ys

-- the front of pieces that can be closed can be closed
closable_front : (made used : List Subproblem) (xs ys : List Fathomed) → AreClosable made used (xs ++ ys)
    → AreClosable made used xs
closable_front made used xs ys r = record {
  there = λ p at. r.there p (subst (IsAmong p) (sym (closed-append xs ys))
      (among_left p (pieces_closed xs) (pieces_closed ys) at));
  fresh = λ x. (let a = r.fresh x in
      let b = ap (weigh (named x)) (closed-append xs ys)
      ∙ weigh-append (named x) (pieces_closed xs) (pieces_closed ys) in
      omega arith);
}

-- and the rest can, once the front is closed
closable_rest : (made used : List Subproblem) (xs ys : List Fathomed) → AreClosable made used (xs ++ ys)
    → AreClosable made (used ++ pieces_closed xs) ys
closable_rest made used xs ys r = record {
  there = λ p at. r.there p (subst (IsAmong p) (sym (closed-append xs ys))
      (among_right p (pieces_closed xs) (pieces_closed ys) at));
  fresh = λ x. (let a = r.fresh x in
      let b = ap (weigh (named x)) (closed-append xs ys)
      ∙ weigh-append (named x) (pieces_closed xs) (pieces_closed ys) in
      let c = weigh-append (named x) used (pieces_closed xs) in omega arith);
}

-- a piece was taken and closed: those of other names wait as before
after_closing : (old mid new : State) (e : Fathomed) (w : ℕ) (made used : List Subproblem)
    → Turns old e.piece.name (held w) mid → Turns mid e.piece.name (closed e.floor e.tree) new → Knows old made used
    → Knows new made (used ++ e.piece ∷ [])
after_closing old mid new e w made used taken done knows q at none =
    let apart = other_name used e.piece q.name none in
    done.others q.name apart ∙ taken.others q.name apart ∙ knows q at (unused_before used e.piece q.name none)

-- pieces that can be closed are closed in turn, and what follows may count on it
pub closes_go : (region : Instance) (least : ℕ) (w : ℕ) (es : List Fathomed) (rest : List Event) (state : State)
    (made used : List Subproblem) → w < length state.seen → state.region ≡ region
    → slice_index state.seen w ≤ least → All (IsClosedFrom region least) es → Knows state made used
    → AreClosable made used es
    → ((next : State) → Keeps state next → Knows next made (used ++ pieces_closed es) → AllEnabled next rest)
    → AllEnabled state (closes_of w es ++ rest)
closes_go region least w [] rest state made used lt of low all knows ready go =
    go state (keeps_self state) (subst (Knows state made) (sym (append-nil used)) knows)
closes_go region least w (e ∷ es) rest state made used lt of low all knows ready go =
    let p = e.piece in
    let in_it = All-head (IsClosedFrom region least) e es all in
    let waits : HasPart state p.name p.chosen p.barred waiting =
    waits_unused state made used p _ knows (ready.there p (inl refl)) (ready.fresh p.name) in (
      may_take state w p lt waits,
      λ mid taken.
          (let keeps : Keeps state mid = turned_keeps state p.name (held w) mid taken in (
            record {
              known = subst (λ (l : List ℕ). w < length l) (sym keeps.same_seen) lt;
              of_it = in_it.of_it ∙ sym (keeps.same_region ∙ of);
              holds = taken.here p.chosen p.barred waiting waits;
              reaches = le_trans (subst (λ (l : List ℕ). slice_index l w ≤ least) (sym keeps.same_seen) low)
                  in_it.reaches;
              proved = in_it.proved;
            },
            λ next done.
                (let kept : Keeps state next =
                keeps_on state mid next keeps (turned_keeps mid p.name (closed e.floor e.tree) next done) in
                closes_go region least w es rest next made (used ++ p ∷ [])
                (subst (λ (l : List ℕ). w < length l) (sym kept.same_seen) lt) (kept.same_region ∙ of)
                (subst (λ (l : List ℕ). slice_index l w ≤ least) (sym kept.same_seen) low)
                (All-tail (IsClosedFrom region least) e es all)
                (after_closing state mid next e w made used taken done knows)
                (closable_next made used e es ready)
                (λ last more known. go last (keeps_on state next last kept more)
                (subst (Knows last made) (append_assoc used (p ∷ []) (pieces_closed es)) known))),
          )),
    )

-- the same for all workers, with nothing after
pub closes_all : (region : Instance) (least : ℕ) (w : ℕ) (works : List Worked) (state : State)
    (made used : List Subproblem)
    → w + length works ≤ length state.seen → state.region ≡ region
    → ((v : ℕ) → w ≤ v → v < w + length works → slice_index state.seen v ≤ least)
    → All (IsWork region least) works → Knows state made used → AreClosable made used (all_closed works)
    → AllEnabled state (closes w works)
closes_all region least w [] state made used le of low all knows ready = tt
closes_all region least w (x ∷ xs) state made used le of low all knows ready =
    let work = All-head (IsWork region least) x xs all in
    closes_go region least w x.closed (closes (w + 1) xs) state made used (omega arith) of
    (low w (omega arith) (omega arith))
    work.closed knows (closable_front made used x.closed (all_closed xs) ready)
    (λ next kept known. closes_all region least (w + 1) xs next made (used ++ pieces_closed x.closed)
    (let l = ap length kept.same_seen in omega arith) (kept.same_region ∙ of)
    (λ v above below. subst (λ (l : List ℕ). slice_index l v ≤ least) (sym kept.same_seen)
    (low v (omega arith) (omega arith)))
    (All-tail (IsWork region least) x xs all) known (closable_rest made used x.closed (all_closed xs) ready))
