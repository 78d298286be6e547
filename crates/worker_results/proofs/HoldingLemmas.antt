-- What a worker holds still adds up after each of its steps.
use Rattle.std.proofs.Common.{◌≡◌, ℕ, ◌+◌, ◌<◌, List, [], ◌∷◌, ◌++◌, length, reverse, remove, take, drop}
use Rattle.std.proofs.Common.{slice_index_or, refl, sym, ap, ◌∙◌, subst, le_refl, arith}
use Rattle.std.proofs.Math.Seq.{drop-append_seam, take-append_seam}
use Rattle.std.proofs.lemmas.Grind.{reverse_onto}
use Rattle.std.proofs.lemmas.List.Elements.{All-push}
use Rattle.set_cover.specs.Instance.{Instance}
use Rattle.proof_tree.specs.Piece.{Subproblem, Fathomed}
use Rattle.proof_tree.specs.Opened.{Split, kids_of}
use Rattle.proof_tree.specs.Weights.{weigh}
use Rattle.piece_deque.specs.declared.dealt.Dealt.{Dealt}
use Rattle.piece_deque.specs.Deals.{pushed_too, took_too}
use Rattle.piece_deque.proofs.TotalLemmas.{weigh_append}
use Rattle.schedule_law.specs.Worked.{IsClosedFrom, IsOpenedIn}
use Rattle.worker_results.specs.Passes.{Owned, KnownPass, all_taken}
use Rattle.worker_results.specs.Holdings.{held_of, HeldSoundly}
use Rattle.worker_results.proofs.HeapLemmas.{closed_snoc, opened_snoc, kids_snoc, all_from_push}

-- the passes took one piece more
pub record TookMore (own own_now : Owned) (rs rs_now : List KnownPass) (p : Subproblem) : Type 0 where
  pub pushed : own_now.knows.pushed ≡ own.knows.pushed
  pub taken : (h : Subproblem → ℕ) → weigh h own_now.knows.taken + weigh h (all_taken rs_now)
      ≡ (weigh h own.knows.taken + weigh h (all_taken rs)) + h p

-- the owner took one piece more from its own deque
pub own_took : (own own_now : Owned) (rs : List KnownPass) (p : Subproblem)
    → own_now.knows ≡ took_too own.knows (p ∷ []) → TookMore own own_now rs rs p
own_took own own_now rs p now = record {
  pushed = ap (λ (d : Dealt). d.pushed) now;
  taken = λ h.
      let a = ap (λ (d : Dealt). weigh h d.taken) now in
      let b = weigh_append h own.knows.taken (p ∷ []) in omega arith;
}

-- in whatever order pieces stand, they weigh the same
weigh_reverse : (h : Subproblem → ℕ) (pieces : List Subproblem) → weigh h (reverse pieces) ≡ weigh h pieces
weigh_reverse h [] = refl
weigh_reverse h (piece ∷ pieces) = (
    let e = ap (weigh h) (reverse_onto pieces piece []) in
    let a = weigh_append h (reverse pieces) (piece ∷ []) in
    let b = weigh_reverse h pieces in omega arith)

-- the first of some pieces, and the others
pub weigh_first : (h : Subproblem → ℕ) (pieces : List Subproblem) (first : Subproblem) → 0 < length pieces
    → first ≡ slice_index_or pieces 0 first → weigh h pieces ≡ h first + weigh h (remove pieces 0)
weigh_first h [] first some is = absurd (omega (arith, some))
weigh_first h (piece ∷ pieces) first some is = (let e = ap h is in omega arith)

-- the first of some pieces is put back behind the others, and then turned to the front
pub put_back : (pieces rest more : List Subproblem) (first back : Subproblem) (last : ℕ) → 0 < length pieces
    → first ≡ slice_index_or pieces 0 first → rest ≡ remove pieces 0 → back ≡ first → more ≡ rest ++ back ∷ []
    → last + 1 ≡ length pieces → drop last more ++ take last more ≡ pieces
put_back [] rest more first back last some is r b m l = absurd (omega (arith, some))
put_back (piece ∷ pieces) rest more first back last some is r b m l =
    let whole : more ≡ pieces ++ piece ∷ [] = m ∙ (λ i. r i ++ (b ∙ is) i ∷ []) in
    let at : last ≡ length pieces = omega (arith, l) in
    (λ i. drop (at i) (whole i) ++ take (at i) (whole i))
    ∙ (λ i. drop-append_seam pieces (piece ∷ []) i ++ take-append_seam pieces (piece ∷ []) i)

-- it is held
took_one : (region : Instance) (start : List Subproblem) (own own_now : Owned) (rs rs_now : List KnownPass)
    (closed : List Fathomed) (opened : List Split) (held kept : List Subproblem) (p : Subproblem)
    → TookMore own own_now rs rs_now p
    → HeldSoundly region start (held_of own rs closed opened held kept)
    → HeldSoundly region start (held_of own_now rs_now closed opened (held ++ p ∷ []) kept)
took_one region start own own_now rs rs_now closed opened held kept p more s = record {
  adds_up = record {
    balance = λ h.
        let a = s.adds_up.balance h in
        let b = more.taken h in
        let c = weigh_append h held (p ∷ []) in
        let d = weigh_append h own.knows.taken (all_taken rs) in
        let e = weigh_append h own_now.knows.taken (all_taken rs_now) in
        let f = ap (weigh h) more.pushed in omega arith;
  };
  all_closed = s.all_closed;
  all_opened = s.all_opened;
}

-- it is held, where the start and the pieces held are known by equations
pub took_now : (region : Instance) (start start_now : List Subproblem) (own own_now : Owned)
    (rs rs_now : List KnownPass)
    (closed : List Fathomed) (opened : List Split) (held mid held_now kept : List Subproblem) (p : Subproblem)
    → start_now ≡ start → mid ≡ held → held_now ≡ mid ++ p ∷ [] → TookMore own own_now rs rs_now p
    → HeldSoundly region start (held_of own rs closed opened held kept)
    → HeldSoundly region start_now (held_of own_now rs_now closed opened held_now kept)
took_now region start start_now own own_now rs rs_now closed opened held mid held_now kept p a m e more s =
    subst (λ (x : List Subproblem × List Subproblem). HeldSoundly region x.0
    (held_of own_now rs_now closed opened x.1 kept))
    (λ i. (sym a i, sym (e ∙ ap (λ l. l ++ p ∷ []) m) i))
    (took_one region start own own_now rs rs_now closed opened held kept p more s)

-- the piece that was held last is closed
closed_one : (region : Instance) (start : List Subproblem) (own : Owned) (rs : List KnownPass) (closed : List Fathomed)
    (opened : List Split) (mid kept : List Subproblem) (p : Subproblem) (e : Fathomed)
    → e.piece ≡ p → IsClosedFrom region 0 e
    → HeldSoundly region start (held_of own rs closed opened (mid ++ p ∷ []) kept)
    → HeldSoundly region start (held_of own rs (closed ++ e ∷ []) opened mid kept)
closed_one region start own rs closed opened mid kept p e is fit s = record {
  adds_up = record {
    balance = λ h.
        let a = s.adds_up.balance h in
        let b = weigh_append h mid (p ∷ []) in
        let c = closed_snoc h closed e in
        let k = ap h is in omega arith;
  };
  all_closed = all_from_push region 0 0 closed e (le_refl 0) fit s.all_closed;
  all_opened = s.all_opened;
}

-- holdings stay sound where a held piece was closed
pub closed_now : (region : Instance) (start : List Subproblem) (own : Owned) (rs : List KnownPass)
    (closed room closed_after : List Fathomed) (opened opened_now : List Split) (held mid kept : List Subproblem)
    (p : Subproblem) (e : Fathomed)
    → room ≡ closed → closed_after ≡ room ++ e ∷ [] → held ≡ mid ++ p ∷ [] → opened_now ≡ opened
    → e.piece ≡ p → IsClosedFrom region 0 e
    → HeldSoundly region start (held_of own rs closed opened held kept)
    → HeldSoundly region start (held_of own rs closed_after opened_now mid kept)
closed_now region start own rs closed room closed_after opened opened_now held mid kept p e a b was o is fit s =
    subst (λ (x : List Fathomed × List Split). HeldSoundly region start (held_of own rs x.0 x.1 mid kept))
    (λ i. (sym (b ∙ ap (λ l. l ++ e ∷ []) a) i, sym o i))
    (closed_one region start own rs closed opened mid kept p e is fit
    (subst (λ l. HeldSoundly region start (held_of own rs closed opened l kept)) was s))

-- the piece that was held last is opened, and its kids are kept
opened_one : (region : Instance) (start : List Subproblem) (own : Owned) (rs : List KnownPass) (closed : List Fathomed)
    (opened : List Split) (mid kept : List Subproblem) (p : Subproblem) (o : Split)
    → o.piece ≡ p → IsOpenedIn region o
    → HeldSoundly region start (held_of own rs closed opened (mid ++ p ∷ []) kept)
    → HeldSoundly region start (held_of own rs closed (opened ++ o ∷ []) mid (kept ++ reverse (kids_of o)))
opened_one region start own rs closed opened mid kept p o is fit s = record {
  adds_up = record {
    balance = λ h.
        let a = s.adds_up.balance h in
        let b = weigh_append h mid (p ∷ []) in
        let c = opened_snoc h opened o in
        let d = kids_snoc h opened o in
        let e = weigh_append h kept (reverse (kids_of o)) in
        let f = weigh_reverse h (kids_of o) in
        let k = ap h is in omega arith;
  };
  all_closed = s.all_closed;
  all_opened = All-push (IsOpenedIn region) opened o s.all_opened fit;
}

-- holdings stay sound where a held piece was opened
pub opened_now : (region : Instance) (start : List Subproblem) (own : Owned) (rs : List KnownPass)
    (closed closed_now : List Fathomed) (opened room opened_after : List Split)
    (held mid kept kept_now : List Subproblem) (p : Subproblem) (o : Split)
    → closed_now ≡ closed → room ≡ opened → opened_after ≡ room ++ o ∷ [] → held ≡ mid ++ p ∷ []
    → kept_now ≡ kept ++ reverse (kids_of o) → o.piece ≡ p → IsOpenedIn region o
    → HeldSoundly region start (held_of own rs closed opened held kept)
    → HeldSoundly region start (held_of own rs closed_now opened_after mid kept_now)
opened_now region start own rs closed closed_now opened room opened_after held mid kept kept_now p o a b c was k is fit
    s =
    subst (λ (x : List Fathomed × (List Split × List Subproblem)).
    HeldSoundly region start (held_of own rs x.0 x.1.0 mid x.1.1))
    (λ i. (sym a i, (sym (c ∙ ap (λ l. l ++ o ∷ []) b) i, sym k i)))
    (opened_one region start own rs closed opened mid kept p o is fit
    (subst (λ l. HeldSoundly region start (held_of own rs closed opened l kept)) was s))

-- a kid that was kept is held
pub holds_kept : (region : Instance) (start : List Subproblem) (own : Owned) (rs : List KnownPass)
    (closed : List Fathomed) (opened : List Split) (held room held_now kept rest : List Subproblem) (p : Subproblem)
    → room ≡ held → held_now ≡ room ++ p ∷ [] → kept ≡ rest ++ p ∷ []
    → HeldSoundly region start (held_of own rs closed opened held kept)
    → HeldSoundly region start (held_of own rs closed opened held_now rest)
holds_kept region start own rs closed opened held room held_now kept rest p a b was s = record {
  adds_up = record {
    balance = λ h.
        let k = s.adds_up.balance h in
        let c = ap (weigh h) was in
        let d = weigh_append h rest (p ∷ []) in
        let e = ap (weigh h) (b ∙ ap (λ l. l ++ p ∷ []) a) in
        let f = weigh_append h held (p ∷ []) in omega arith;
  };
  all_closed = s.all_closed;
  all_opened = s.all_opened;
}

-- a kid that was kept lies on the worker's own deque
pub shows_kept : (region : Instance) (start start_now : List Subproblem) (own own_now : Owned) (rs : List KnownPass)
    (closed : List Fathomed) (opened : List Split) (held kept rest : List Subproblem) (p : Subproblem)
    → start_now ≡ start → own_now.knows ≡ pushed_too own.knows (p ∷ [])
    → ((h : Subproblem → ℕ) → weigh h kept ≡ h p + weigh h rest)
    → HeldSoundly region start (held_of own rs closed opened held kept)
    → HeldSoundly region start_now (held_of own_now rs closed opened held rest)
shows_kept region start start_now own own_now rs closed opened held kept rest p a now was s =
    subst (λ (x : List Subproblem). HeldSoundly region x (held_of own_now rs closed opened held rest)) (sym a) (record {
      adds_up = record {
        balance = λ h.
            let k = s.adds_up.balance h in
            let c = was h in
            let d = ap (λ (d : Dealt). weigh h d.pushed) now in
            let e = weigh_append h own.knows.pushed (p ∷ []) in
            let f = ap (λ (d : Dealt). weigh h (d.taken ++ all_taken rs)) now in omega arith;
      };
      all_closed = s.all_closed;
      all_opened = s.all_opened;
    })
