-- Which cells keep lists from being regions.
use Rattle.std.proofs.Common.{◌≡◌, ◌≢◌, ℕ, ◌+◌, ◌<◌, ◌⊎◌, inl, inr, List, length, IsTrue, refl, sym, subst, ◌∙◌, arith}
use Rattle.std.specs.Prelude.{Bool, true, false, ◌↔◌, Some}
use Rattle.std.proofs.lemmas.Bool.{cases_eq, cases_lt, true≢false}
use Rattle.cave_base.specs.Box.{cell_count}
use Rattle.cave_model.specs.Cave.{Cave}
use Rattle.cave_model.specs.Spawn.{IsDark}
use Rattle.cave_model.proofs.LightLemmas.{path_end_inside}
use Rattle.lit_lists.specs.Lists.{LitLists, AreListsOf, AreLitCells, is_marked, row_at}
use Rattle.proof_check.specs.Refused.{IsInTwo, IsListed, LightsTwo, IsBadCell}
use Rattle.proof_check.specs.Homes.{IsHomeOf, Homes, AreHomesOf, DecidesTwo}
use Rattle.proof_check.specs.Ends.{home_of, is_unparted, AreParted, DecidesLights, DecidesBad, NoneBad}
use Rattle.proof_check.specs.declared.homes.Home.{Home}
use Rattle.proof_check.specs.declared.homes.Home.TheVariants as home

-- a place lights two regions just where its lit cells have two homes
pub lights_some : (cave : Cave) (lists : LitLists) (regions : Homes) (place : ℕ) (cells : List ℕ) (result : Bool)
    → is_marked lists.places place ≡ true → AreLitCells cave place cells → DecidesTwo cells regions result
    → DecidesLights cave lists regions place result
lights_some cave lists regions place cells result on lit d = record {
  each = λ parts known a whole.
      (let both = d.each parts a (λ cell h. (let lt = path_end_inside ((lit.exact cell).0 h).1 in omega arith)) in (
        λ t. (let w = both.0 t in (
          (known.places.exact place).0 on,
          w.0,
          w.1,
          w.2,
          w.3,
          w.4,
          w.5,
          w.6,
          (lit.exact w.2).0 w.7,
          (lit.exact w.3).0 w.8,
        )),
        λ two. both.1 (
          two.1,
          two.2,
          two.3,
          two.4,
          two.5,
          two.6,
          two.7,
          (lit.exact two.3).1 two.8,
          (lit.exact two.4).1 two.9,
        ),
      ));
}

-- the first two reasons of a cell
OwnReason : Cave → List (List ℕ) → ℕ → Type 0
OwnReason cave parts cell = (IsDark cave cell × ((¬ IsListed parts cell) ⊎ IsInTwo parts cell))
    ⊎ (IsListed parts cell × (¬ IsDark cave cell))

-- the home of a cell and whether it is dark tell whether it is listed wrongly
unparted : (cave : Cave) (parts : List (List ℕ)) (cell : ℕ) (h : Home) (dark : Bool) → IsHomeOf parts cell h
    → IsTrue dark ↔ IsDark cave cell → IsTrue (is_unparted h dark) ↔ OwnReason cave parts cell
unfolding OwnReason
unparted cave parts cell home.Nowhere dark is d = (
  λ t. inl (d.0 t, inl is),
  λ r. elim r [ inl b ↦ d.1 b.0 | inr b ↦ absurd (is b.0) ],
)
unparted cave parts cell (home.Only i) true is d = (
  λ t. absurd (true≢false (sym t)),
  λ r. absurd (elim r [
    | inl b ↦ elim b.1 [
      | inl out ↦ out (i, is.0)
      | inr two ↦
          (let p = is.1 two.0 two.3 in let q = is.1 two.1 two.4 in let lt : two.0 < two.1 = two.2 in omega arith)
    ]
    | inr b ↦ b.1 (d.0 refl)
  ]),
)
unparted cave parts cell (home.Only i) false is d = (
  λ t. inr ((i, is.0), λ k. true≢false (sym (d.1 k))),
  λ r. refl,
)
unparted cave parts cell home.Several true is d = (λ t. inl (d.0 refl, inr is), λ r. refl)
unparted cave parts cell home.Several false is d = (λ t. inr ((is.0, is.3), λ k. true≢false (sym (d.1 k))), λ r. refl)

-- a cell listed wrongly is bad
bad_of_own : (cave : Cave) (parts : List (List ℕ)) (cell : ℕ) → OwnReason cave parts cell → IsBadCell cave parts cell
unfolding OwnReason
bad_of_own cave parts cell (inl b) = inl b
bad_of_own cave parts cell (inr b) = inr (inl b)

-- a bad cell is listed wrongly, or lights two regions
own_or_lights : (cave : Cave) (parts : List (List ℕ)) (cell : ℕ) → IsBadCell cave parts cell
    → OwnReason cave parts cell ⊎ LightsTwo cave parts cell
unfolding OwnReason
own_or_lights cave parts cell (inl b) = inl (inl b)
own_or_lights cave parts cell (inr (inl b)) = inl (inr b)
own_or_lights cave parts cell (inr (inr b)) = inr b

-- a listed cell that isn't dark is listed wrongly
own_listed : (cave : Cave) (parts : List (List ℕ)) (cell : ℕ) → IsListed parts cell → (¬ IsDark cave cell)
    → OwnReason cave parts cell
unfolding OwnReason
own_listed cave parts cell l n = inr (l, n)

module _ (cave : Cave) (lists : LitLists) (regions : Homes) (cell : ℕ) (inside : cell < cell_count cave.size)
    (s : NoneBad cave lists regions cell) where
  -- with none bad before, a cell listed wrongly is the first
  pub first_own : IsTrue (is_unparted (home_of regions cell) (is_marked lists.dark cell))
      → DecidesBad cave lists regions (cell_count cave.size) (Some cell)
  first_own t = record {
    each = λ parts known a whole. record {
      inside = inside;
      is = bad_of_own cave parts cell
          ((unparted cave parts cell (home_of regions cell) (is_marked lists.dark cell) (a.each cell (omega arith))
          (known.dark.exact cell)).0 t);
      before = s.each parts known a whole;
    };
  }

  -- and so is a place that lights two regions
  pub first_lights : (result : Bool) → DecidesLights cave lists regions cell result → IsTrue result
      → DecidesBad cave lists regions (cell_count cave.size) (Some cell)
  first_lights result d t = record {
    each = λ parts known a whole. record {
      inside = inside;
      is = inr (inr ((d.each parts known a whole).0 t));
      before = s.each parts known a whole;
    };
  }

  -- a cell that is neither is not bad
  pub none_more : (result : Bool) → is_unparted (home_of regions cell) (is_marked lists.dark cell) ≡ false
      → DecidesLights cave lists regions cell result → result ≡ false → NoneBad cave lists regions (cell + 1)
  none_more result off d out = record {
    each = λ parts known a whole. record {
      each = λ other lt bad. (elim (cases_eq other cell) [
        | inl e ↦ (elim (own_or_lights cave parts cell (subst (IsBadCell cave parts) e bad)) [
          | inl own ↦ true≢false (sym ((unparted cave parts cell (home_of regions cell) (is_marked lists.dark cell)
              (a.each cell (omega arith)) (known.dark.exact cell)).1 own) ∙ off)
          | inr two ↦ true≢false (sym ((d.each parts known a whole).1 two) ∙ out)
        ])
        | inr ne ↦ (s.each parts known a whole).each other (less other lt ne) bad
      ]);
    };
  } where
    less : (other : ℕ) → other < cell + 1 → other ≢ cell → other < cell
    less other lt ne = elim (cases_lt other cell) [ inl l ↦ l | inr le ↦ absurd (ne (omega arith)) ]

-- where no cell is listed wrongly
module _ (cave : Cave) (lists : LitLists) (regions : Homes)
    (parted : AreParted lists regions (cell_count cave.size)) where
  -- a listed cell is dark
  listed_dark : (parts : List (List ℕ)) → AreListsOf cave lists → AreHomesOf parts regions
      → length regions.homes ≡ cell_count cave.size → (cell : ℕ) → cell < cell_count cave.size → IsListed parts cell
      → IsDark cave cell
  listed_dark parts known a whole cell inside l = go (is_marked lists.dark cell) refl where
    go : (dark : Bool) → is_marked lists.dark cell ≡ dark → IsDark cave cell
    go true e = (known.dark.exact cell).0 e
    go false e = absurd (true≢false (sym ((unparted cave parts cell (home_of regions cell) (is_marked lists.dark cell)
        (a.each cell (omega (arith, whole))) (known.dark.exact cell)).1
        (own_listed cave parts cell l (λ d. true≢false (sym ((known.dark.exact cell).1 d) ∙ e))))
        ∙ parted.each cell inside))

  -- a place lights two regions just where the dark cells that it lights have two homes
  pub lights_parted : (place : ℕ) (cells : List ℕ) (result : Bool) → cells ≡ row_at lists.pairs.lights place
      → DecidesTwo cells regions result → DecidesLights cave lists regions place result
  lights_parted place cells result e d = record {
    each = λ parts known a whole.
        (let both = (subst (λ (l : List ℕ). DecidesTwo l regions result) e d).each parts a (λ cell h.
        (let lt = path_end_inside ((known.lights place cell).0 h).lights.1 in omega (arith, whole))) in (
          λ t. (let w = both.0 t in let p = (known.lights place w.2).0 w.7 in (
            p.legal,
            w.0,
            w.1,
            w.2,
            w.3,
            w.4,
            w.5,
            w.6,
            p.lights,
            ((known.lights place w.3).0 w.8).lights,
          )),
          λ two. both.1 (
            two.1,
            two.2,
            two.3,
            two.4,
            two.5,
            two.6,
            two.7,
            (known.lights place two.3).1 (record {
              legal = two.0;
              dark = listed_dark parts known a whole two.3 (path_end_inside two.8.1) (two.1, two.6);
              lights = two.8;
            }),
            (known.lights place two.4).1 (record {
              legal = two.0;
              dark = listed_dark parts known a whole two.4 (path_end_inside two.9.1) (two.2, two.7);
              lights = two.9;
            }),
          ),
        ));
  }
