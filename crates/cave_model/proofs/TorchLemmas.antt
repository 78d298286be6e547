-- What new torches change, and what they leave.
use Rattle.std.proofs.Common.{◌≡◌, ℕ, ◌+◌, ◌<◌, ◌≤◌, max, Bool, true, false, ◌&&◌, ◌||◌, nat_eq, IsTrue, Option, Some}
use Rattle.std.proofs.Common.{None, List, [], ◌∷◌, length, Contains, refl, sym, ap, subst, ◌∙◌, arith, ◌⊎◌, inl, inr}
use Rattle.std.proofs.Common.{length-set, get_or-set_same, get_or-set_other, true≢false}
use Rattle.std.proofs.lemmas.Bool.{cases_lt, cases_eq}
use Rattle.std.proofs.lemmas.List.{get_or_past}
use Rattle.std.proofs.lemmas.List.Elements.{All-head, All-tail, Contains-append_cases, Contains-append_left}
use Rattle.std.proofs.lemmas.List.Elements.{Contains-append_right, Contains-push_cases, Contains-push}
use Rattle.cave_base.specs.Box.{cell_count}
use Rattle.cave_model.specs.Cells.{above, below, beyond}
use Rattle.cave_base.specs.declared.class.Class.{Class}
use Rattle.cave_base.specs.Class.{void, new_torch}
use Rattle.cave_model.specs.Cave.{Cave, class_at, class_of_cell, IsSound}
use Rattle.cave_model.specs.Light.{entering_cost, Path}
use Rattle.cave_model.specs.Light.Path.{start, onward}
use Rattle.cave_model.specs.Spawn.{is_spawnable}
use Rattle.cave_model.specs.Torches.{is_legal}
use Rattle.cave_model.specs.Plan.{Torch, cells_of, classes_with, cave_with, AreLegal, IsSafe, LightsDarkness}
use Rattle.cave_model.proofs.LightLemmas.{brings_or_not}

-- ---- lists

-- an element is the first or one of the rest
cons_cases : (x : ℕ) (xs : List ℕ) (y : ℕ) → Contains (x ∷ xs) y → (x ≡ y) ⊎ Contains xs y
cons_cases x xs y h = elim (Contains-append_cases (x ∷ []) xs y h) [
  | inl one ↦ elim (Contains-push_cases [] x y one) [
    | inl none ↦ absurd (omega (arith, none.1))
    | inr e ↦ inl e
  ]
  | inr more ↦ inr more
]

-- an element of the rest is one of the list
cons_later : (x : ℕ) (xs : List ℕ) (y : ℕ) → Contains xs y → Contains (x ∷ xs) y
cons_later x xs y h = Contains-append_right (x ∷ []) xs y h

-- the first is one of the list
cons_here : (x : ℕ) (xs : List ℕ) (y : ℕ) → y ≡ x → Contains (x ∷ xs) y
cons_here x xs y e = subst (Contains (x ∷ xs)) (sym e) (Contains-append_left (x ∷ []) xs x (Contains-push [] x))

-- where both hold the first does
first_true : (a b : Bool) → (a && b) ≡ true → a ≡ true
first_true true b e = refl
first_true false b e = e

-- ---- cells that a torch may take

-- a torch may take the place of each of these cells
pub record ArePut (cave : Cave) (cells : List ℕ) : Type 0 where
  pub at : (cell : ℕ) → Contains cells cell → IsTrue (class_at cave cell).put

-- a legal torch may take the place of what is in its cell
pub legal_put : (cave : Cave) (torches : List Torch) → AreLegal cave torches → ArePut cave (cells_of torches)
legal_put cave [] h = record { at = λ cell c. absurd (omega (arith, c.1)) }
legal_put cave (t ∷ ts) h =
    let rest = legal_put cave ts (All-tail (λ (torch : Torch). IsTrue (is_legal cave torch.cell torch.hang)) t ts h) in
    let here : IsTrue (is_legal cave t.cell t.hang) =
    All-head (λ (torch : Torch). IsTrue (is_legal cave torch.cell torch.hang)) t ts h in
    record {
      at = λ cell c. elim (cons_cases t.cell (cells_of ts) cell c) [
        | inl e ↦ subst (λ (cell : ℕ). IsTrue (class_at cave cell).put) e (first_true _ _ here)
        | inr later ↦ rest.at cell later
      ];
    }

-- such a cell is in the box
put_inside : (cave : Cave) (cell : ℕ) → IsTrue (class_at cave cell).put → cell < length cave.classes
put_inside cave cell h = elim (cases_lt cell (length cave.classes)) [
  | inl lt ↦ lt
  | inr le ↦ absurd (true≢false (sym h ∙ ap (λ (class : Class). class.put) (get_or_past cave.classes cell void le)))
]

-- torches don't change how many cells there are
length_with : (classes : List Class) (cells : List ℕ) → length (classes_with classes cells) ≡ length classes
length_with classes [] = refl
length_with classes (cell ∷ cells) = length-set (classes_with classes cells) cell new_torch ∙ length_with classes cells

-- each class is the new torch's or the old one
pub at_with : (cave : Cave) (cells : List ℕ) → ArePut cave cells → (cell : ℕ)
    → (Contains cells cell × (class_at (cave_with cave cells) cell ≡ new_torch))
    ⊎ (class_at (cave_with cave cells) cell ≡ class_at cave cell)
at_with cave [] puts cell = inr refl
at_with cave (t ∷ ts) puts cell =
    let rest : ArePut cave ts = record { at = λ cell c. puts.at cell (cons_later t ts cell c) } in
    let t_in : t < length (classes_with cave.classes ts) = subst (λ (n : ℕ). t < n) (sym (length_with cave.classes ts))
    (put_inside cave t (puts.at t (cons_here t ts t refl))) in
    elim (cases_eq cell t) [
      | inl e ↦ inl (
        cons_here t ts cell e,
        ap (λ (cell : ℕ). class_at (cave_with cave (t ∷ ts)) cell) e
            ∙ get_or-set_same (classes_with cave.classes ts) t new_torch void t_in,
      )
      | inr ne ↦ (let same : class_at (cave_with cave (t ∷ ts)) cell ≡ class_at (cave_with cave ts) cell =
          get_or-set_other (classes_with cave.classes ts) t cell new_torch void ne in
          elim (at_with cave ts rest cell) [
            | inl new ↦ inl (cons_later t ts cell new.0, same ∙ new.1)
            | inr old ↦ inr (same ∙ old)
          ])
    ]

-- each of the cells holds a new torch
pub torch_at : (cave : Cave) (cells : List ℕ) → ArePut cave cells → (cell : ℕ) → Contains cells cell
    → class_at (cave_with cave cells) cell ≡ new_torch
torch_at cave [] puts cell c = absurd (omega (arith, c.1))
torch_at cave (t ∷ ts) puts cell c =
    let rest : ArePut cave ts = record { at = λ cell c. puts.at cell (cons_later t ts cell c) } in
    let t_in : t < length (classes_with cave.classes ts) = subst (λ (n : ℕ). t < n) (sym (length_with cave.classes ts))
    (put_inside cave t (puts.at t (cons_here t ts t refl))) in
    elim (cases_eq cell t) [
      | inl e ↦ ap (λ (cell : ℕ). class_at (cave_with cave (t ∷ ts)) cell) e
          ∙ get_or-set_same (classes_with cave.classes ts) t new_torch void t_in
      | inr ne ↦ elim (cons_cases t ts cell c) [
        | inl e ↦ absurd (ne (sym e))
        | inr later ↦ get_or-set_other (classes_with cave.classes ts) t cell new_torch void ne
            ∙ torch_at cave ts rest cell later
      ]
    ]

-- ---- what they leave

-- as the old class for light and mobs, and at least as bright
pub record IsLike (old new : Class) : Type 0 where
  pub opacity : new.opacity ≡ old.opacity
  pub free : new.free ≡ old.free
  pub stand : new.stand ≡ old.stand
  pub brighter : old.emission ≤ new.emission

-- with torches put, each cell is like before for light and mobs, and at least as bright
pub like : (cave : Cave) (cells : List ℕ) → IsSound cave → ArePut cave cells → (cell : ℕ)
    → IsLike (class_at cave cell) (class_at (cave_with cave cells) cell)
like cave cells sound puts cell = elim (at_with cave cells puts cell) [
  | inl new ↦ (let is = sound.classed cell in let put = puts.at cell new.0 in
      subst (IsLike (class_at cave cell)) (sym new.1) (record {
        opacity = sym (is.clear put);
        free = sym (is.roomy put);
        stand = sym (is.no_ground put);
        brighter = omega (arith, is.unlit put);
      }))
  | inr old ↦ subst (IsLike (class_at cave cell)) (sym old)
      (record { opacity = refl; free = refl; stand = refl; brighter = omega arith })
]

module _ (cave : Cave) (cells : List ℕ) (sound : IsSound cave) (puts : ArePut cave cells) where
  free_of_cell : (o : Option ℕ) → (class_of_cell (cave_with cave cells) o).free ≡ (class_of_cell cave o).free
  free_of_cell None = refl
  free_of_cell (Some cell) = (like cave cells sound puts cell).free

  stand_of_cell : (o : Option ℕ) → (class_of_cell (cave_with cave cells) o).stand ≡ (class_of_cell cave o).stand
  stand_of_cell None = refl
  stand_of_cell (Some cell) = (like cave cells sound puts cell).stand

  -- torches change no cell's being spawnable
  pub spawn_with : (cell : ℕ) → is_spawnable (cave_with cave cells) cell ≡ is_spawnable cave cell
  spawn_with cell = formula _ _ _ _ _ _ (nat_eq cave.rule.headroom 1) ((like cave cells sound puts cell).free)
      (free_of_cell (beyond cave.size above cell)) (stand_of_cell (beyond cave.size below cell))
    where
      formula : (a a' b b' c c' one : Bool) → a ≡ a' → b ≡ b' → c ≡ c'
          → (a && (one || b) && c) ≡ (a' && (one || b') && c')
      formula a a' b b' c c' one p q r = cc

  cost_with : (cell : ℕ) → entering_cost (cave_with cave cells) cell ≡ entering_cost cave cell
  cost_with cell = ap (max 1) (like cave cells sound puts cell).opacity

  -- a path leads as it did with torches put
  pub path_to : {source cell cost : ℕ} → Path cave source cell cost → Path (cave_with cave cells) source cell cost
  path_to (start h) = start h
  path_to {source = source} (onward {before = b} {cost = c} p to n) =
      subst (λ (e : ℕ). Path (cave_with cave cells) source to (c + e)) (cost_with to) (onward (path_to p) to n)

  -- and led so before
  pub path_from : {source cell cost : ℕ} → Path (cave_with cave cells) source cell cost → Path cave source cell cost
  path_from (start h) = start h
  path_from {source = source} (onward {before = b} {cost = c} p to n) = subst (λ (e : ℕ). Path cave source to (c + e))
      (sym (cost_with to)) (onward (path_from p) to n)

-- ---- safe is cover

-- a spawnable cell is in the box
pub spawnable_inside : (cave : Cave) (cell : ℕ) → IsSound cave → IsTrue (is_spawnable cave cell)
    → cell < cell_count cave.size
spawnable_inside cave cell sound h =
    subst (λ (n : ℕ). cell < n) sound.whole (elim (cases_lt cell (length cave.classes)) [
      | inl lt ↦ lt
      | inr le ↦ (let free : (class_at cave cell).free ≡ true = first_true _ _ (first_true _ _ h) in
          absurd (true≢false (sym free ∙ ap (λ (class : Class). class.free) (get_or_past cave.classes cell void le))))
    ])

-- safe torches light all darkness
pub safe_covers : (cave : Cave) (torches : List Torch) → IsSound cave → IsSafe cave torches
    → LightsDarkness cave torches
safe_covers cave torches sound safe =
    let cells = cells_of torches in
    let puts = legal_put cave torches safe.legal in
    record {
      legal = safe.legal;
      distinct = safe.distinct;
      covered = λ cell dark.
          (let lit = safe.lit cell (spawn_with cave cells sound puts cell ∙ dark.spawnable) in
          elim (at_with cave cells puts lit.0) [
            | inl new ↦ (
              lit.0,
              new.0,
              (
                lit.1.0,
                path_from cave cells sound puts lit.1.1,
                subst (λ (class : Class). cave.rule.need + lit.1.0 ≤ class.emission) new.1 lit.1.2,
              ),
            )
            | inr old ↦ absurd (dark.unlit (
              lit.0,
              (
                lit.1.0,
                path_from cave cells sound puts lit.1.1,
                subst (λ (class : Class). cave.rule.need + lit.1.0 ≤ class.emission) old lit.1.2,
              ),
            ))
          ]);
    }

-- legal torches that light all darkness are safe
pub cover_is_safe : (cave : Cave) (torches : List Torch) → IsSound cave → LightsDarkness cave torches
    → IsSafe cave torches
cover_is_safe cave torches sound cover =
    let cells = cells_of torches in
    let puts = legal_put cave torches cover.legal in
    record {
      legal = cover.legal;
      distinct = cover.distinct;
      lit = λ cell spawnable.
          (let was : IsTrue (is_spawnable cave cell) = sym (spawn_with cave cells sound puts cell) ∙ spawnable in
          elim (brings_or_not cave cell cave.rule.need sound (spawnable_inside cave cell sound was) sound.needed) [
            | inl b ↦ (
              b.0,
              (
                b.1.0,
                path_to cave cells sound puts b.1.1,
                omega (arith, b.1.2, (like cave cells sound puts b.0).brighter),
              ),
            )
            | inr dark ↦
                (let by = cover.covered cell (record { spawnable = was; unlit = dark }) in (
                  by.0,
                  (
                    by.2.0,
                    path_to cave cells sound puts by.2.1,
                    subst (λ (class : Class). cave.rule.need + by.2.0 ≤ class.emission)
                        (sym (torch_at cave cells puts by.0 by.1)) by.2.2,
                  ),
                ))
          ]);
    }
