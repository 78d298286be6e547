-- What the tests by lists say of a cave.
use Rattle.std.proofs.Common.{ℕ, inl, inr, List, Contains}
use Rattle.proof_rules.proofs.ListLemmas.{all_members, at_member}
use Rattle.cave_model.specs.Cave.{Cave}
use Rattle.cave_model.specs.Spawn.{IsDark}
use Rattle.cave_model.specs.Torches.{IsPlace, Lights}
use Rattle.cave_model.specs.Plan.{AreDistinct}
use Rattle.cave_model.specs.Coverage.{of_cave}
use Rattle.proof_rules.specs.Good.{IsUnlit, AreScattered, AreOpen, IsDominated, MayBePicked}
use Rattle.lit_lists.specs.Lists.{LitLists, AreListsOf}
use Rattle.node_judges.specs.Tests.{IsFree, AreApartIn, AreLeft, IsDominatedIn, MayBePickedIn, lit_by}

module _ (cave : Cave) (lists : LitLists) (known : AreListsOf cave lists) (cells : List ℕ)
    (dark : (cell : ℕ) → Contains cells cell → IsDark cave cell) (chosen : List ℕ)
    (legal : (p : ℕ) → Contains chosen p → IsPlace cave p) where
  lit : (place cell : ℕ) → IsPlace cave place → Contains cells cell → Lights cave place cell
      → Contains (lit_by lists cell) place
  lit place cell p c l = (known.lit_by place cell).1 (record { legal = p; dark = dark cell c; lights = l })

  lights : (place cell : ℕ) → Contains (lit_by lists cell) place → Lights cave place cell
  lights place cell h = ((known.lit_by place cell).0 h).lights

  -- a cell that is free by the lists is unlit
  pub free_unlit : (cell : ℕ) → IsFree lists cells chosen cell → IsUnlit (of_cave cave) cells chosen cell
  free_unlit cell f = record {
    of_it = f.of_it;
    unlit = all_members (λ place. ¬ Lights cave place cell) chosen
        (λ p h l. f.unlit (p, lit p cell (legal p h) f.of_it l, h));
  }

  -- and an unlit one is free
  pub unlit_free : (cell : ℕ) → IsUnlit (of_cave cave) cells chosen cell → IsFree lists cells chosen cell
  unlit_free cell u = record {
    of_it = u.of_it;
    unlit = λ m. at_member (λ place. ¬ Lights cave place cell) chosen
        m.0 u.unlit m.2 (lights m.0 cell m.1);
  }

  -- cells apart by the lists are scattered
  pub apart_scattered : (barred these : List ℕ) → AreApartIn lists cells chosen barred these → AreDistinct these
      → AreScattered (of_cave cave) cells chosen barred these
  apart_scattered barred these a once = record {
    distinct = once;
    unlit = all_members (IsUnlit (of_cave cave) cells chosen) these (λ c h. free_unlit c (a.free c h));
    apart = λ place x y p free hx hy lx ly. a.apart place x y hx hy (lit place x p (a.free x hx).of_it lx)
        (lit place y p (a.free y hy).of_it ly) free;
  }

  -- and scattered ones are apart
  pub scattered_apart : (barred these : List ℕ) → AreScattered (of_cave cave) cells chosen barred these
      → AreApartIn lists cells chosen barred these
  scattered_apart barred these s = record {
    free = λ c h. unlit_free c (at_member (IsUnlit (of_cave cave) cells chosen) these c s.unlit h);
    apart = λ place x y hx hy px py free. s.apart place x y ((known.lit_by place x).0 px).legal free hx hy
        (lights place x px) (lights place y py);
  }

  -- the places left by the lists are the open ones
  pub left_open : (barred places : List ℕ) (cell : ℕ) → Contains cells cell → AreLeft (lit_by lists cell) barred places
      → AreOpen (of_cave cave) barred cell places
  left_open barred places cell c l = record {
    ascending = l.ascending;
    exact = λ place. (
      λ h. (let b = (l.exact place).0 h in
          record { legal = ((known.lit_by place cell).0 b.0).legal; lights = lights place cell b.0; free = b.1 }),
      λ o. (l.exact place).1 (lit place cell o.legal c o.lights, o.free),
    );
  }

  -- a place dominated by the lists is dominated
  pub dominated : (barred : List ℕ) (place by : ℕ) → IsDominatedIn lists cells chosen barred place by
      → IsDominated (of_cave cave) cells chosen barred place by
  dominated barred place by d = record {
    legal = (known.places.exact place).0 d.legal;
    by_legal = (known.places.exact by).0 d.by_legal;
    other = d.other;
    free = d.free;
    by_free = d.by_free;
    unchosen = d.unchosen;
    does_as_well = λ cell c l. (elim (d.served cell
        ((known.lights place cell).1
        (record { legal = (known.places.exact place).0 d.legal; dark = dark cell c; lights = l })) c) [
          | inl m ↦ inl (m.0, m.2, lights m.0 cell m.1)
          | inr h ↦ inr (lights by cell h)
        ]);
  }

  -- and a dominated place is so by the lists
  pub dominated_in : (barred : List ℕ) (place by : ℕ) → IsDominated (of_cave cave) cells chosen barred place by
      → IsDominatedIn lists cells chosen barred place by
  dominated_in barred place by d = record {
    legal = (known.places.exact place).1 d.legal;
    by_legal = (known.places.exact by).1 d.by_legal;
    other = d.other;
    free = d.free;
    by_free = d.by_free;
    unchosen = d.unchosen;
    served = λ cell h c. (elim (d.does_as_well cell c ((known.lights place cell).0 h).lights) [
      | inl w ↦ inl (w.0, lit w.0 cell (legal w.0 w.1) c w.2, w.1)
      | inr l ↦ inr (lit by cell d.by_legal c l)
    ]);
  }

module _ (cave : Cave) (lists : LitLists) (known : AreListsOf cave lists) where
  -- a place that may be picked by the lists may be picked
  pub picked : (chosen barred : List ℕ) (place : ℕ) → MayBePickedIn lists chosen barred place
      → MayBePicked (of_cave cave) chosen barred place
  picked chosen barred place may = record {
    legal = (known.places.exact place).0 may.legal;
    unchosen = may.unchosen;
    free = may.free;
  }

  -- and one that may be picked may be so by the lists
  pub picked_in : (chosen barred : List ℕ) (place : ℕ) → MayBePicked (of_cave cave) chosen barred place
      → MayBePickedIn lists chosen barred place
  picked_in chosen barred place may = record {
    legal = (known.places.exact place).1 may.legal;
    unchosen = may.unchosen;
    free = may.free;
  }
