-- Legal places and their hangs.
use Rattle.std.proofs.Common.{◌≡◌, ℕ, ◌<◌, ◌≤◌, Bool, true, false, ◌&&◌, cond, List, [], ◌∷◌, Option, Some, None}
use Rattle.std.proofs.Common.{length, refl, sym, subst, ◌∙◌, inl, inr}
use Rattle.std.specs.Prelude.{MatchOption, is_some, find, unwrap_or}
use Rattle.std.proofs.lemmas.Bool.{cases_lt, true≢false}
use Rattle.std.proofs.lemmas.List.{get_or_past}
use Rattle.cave_base.specs.Box.{cell_count}
use Rattle.cave_model.specs.Cave.{Cave, IsSound, class_at}
use Rattle.cave_model.specs.Torches.{IsPlace, is_legal, hang_of}
use Rattle.cave_model.specs.declared.hang.Hang.{Hang}
use Rattle.cave_model.specs.declared.hang.Hang.TheVariants.{Floor, North, East, South, West}

-- something is there that passes the test
abbrev Passes : (Hang → Bool) → Option Hang → Type 0
Passes test found = MatchOption found ⊥ (λ hang. test hang ≡ true)

-- where the test holds here, what is found passes it
passes_here : (test : Hang → Bool) (hang : Hang) (rest : Option Hang) (b : Bool) → test hang ≡ b → b ≡ true
    → Passes test (cond b (Some hang) rest)
passes_here test hang rest true e t = e
passes_here test hang rest false e t = absurd (true≢false (sym t))

-- where the rest passes the test, what is found does
passes_later : (test : Hang → Bool) (hang : Hang) (rest : Option Hang) (b : Bool) → test hang ≡ b → Passes test rest
    → Passes test (cond b (Some hang) rest)
passes_later test hang rest true e later = e
passes_later test hang rest false e later = later

-- a first hang that passes the test is found
here : (test : Hang → Bool) (hang : Hang) (hangs : List Hang) → test hang ≡ true
    → Passes test (find test (hang ∷ hangs))
here test hang hangs t = passes_here test hang (find test hangs) (test hang) refl t

-- what is found in the rest is found
later : (test : Hang → Bool) (hang : Hang) (hangs : List Hang) → Passes test (find test hangs)
    → Passes test (find test (hang ∷ hangs))
later test hang hangs p = passes_later test hang (find test hangs) (test hang) refl p

-- a hang that passes is found
pub found : (test : Hang → Bool) (hang : Hang) → test hang ≡ true
    → Passes test (find test (Floor ∷ North ∷ East ∷ South ∷ West ∷ []))
found test Floor t = here test Floor (North ∷ East ∷ South ∷ West ∷ []) t
found test North t = later test Floor (North ∷ East ∷ South ∷ West ∷ []) (here test North (East ∷ South ∷ West ∷ []) t)
found test East t = later test Floor (North ∷ East ∷ South ∷ West ∷ [])
    (later test North (East ∷ South ∷ West ∷ []) (here test East (South ∷ West ∷ []) t))
found test South t = later test Floor (North ∷ East ∷ South ∷ West ∷ [])
    (later test North (East ∷ South ∷ West ∷ []) (later test East (South ∷ West ∷ []) (here test South (West ∷ []) t)))
found test West t = later test Floor (North ∷ East ∷ South ∷ West ∷ [])
    (later test North (East ∷ South ∷ West ∷ [])
    (later test East (South ∷ West ∷ []) (later test South (West ∷ []) (here test West [] t))))

-- what passes the test is there
some_if : (test : Hang → Bool) (o : Option Hang) → Passes test o → is_some o ≡ true
some_if test (Some hang) p = refl
some_if test None p = absurd p

-- the test holds of the hang that is there
holds_at : (test : Hang → Bool) (o : Option Hang) → Passes test o → test (unwrap_or o Floor) ≡ true
holds_at test (Some hang) p = p
holds_at test None p = absurd p

-- what is found at the first hang or in the rest passes the test
passes_first : (test : Hang → Bool) (hang : Hang) (rest : Option Hang) (b : Bool) → test hang ≡ b
    → (is_some rest ≡ true → Passes test rest) → is_some (cond b (Some hang) rest) ≡ true
    → Passes test (cond b (Some hang) rest)
passes_first test hang rest true e later s = e
passes_first test hang rest false e later s = later s

-- what is found passes
passes_if : (test : Hang → Bool) (hangs : List Hang) → is_some (find test hangs) ≡ true → Passes test (find test hangs)
passes_if test [] s = absurd (true≢false (sym s))
passes_if test (hang ∷ hangs) s = passes_first test hang (find test hangs) (test hang) refl
    (λ more. passes_if test hangs more) s

-- at a place a torch can be hung
pub place_some : (cave : Cave) (cell : ℕ) → IsPlace cave cell → is_some (hang_of cave cell) ≡ true
place_some cave cell place = some_if (is_legal cave cell) (hang_of cave cell)
    (found (is_legal cave cell) place.0 place.1)

-- what passes the test is a hang that does
hang_with : (test : Hang → Bool) (o : Option Hang) → Passes test o → (hang : Hang) × (test hang ≡ true)
hang_with test (Some hang) p = (hang, p)
hang_with test None p = absurd p

-- where a torch can be hung is a place
pub some_place : (cave : Cave) (cell : ℕ) → is_some (hang_of cave cell) ≡ true → IsPlace cave cell
some_place cave cell s = hang_with (is_legal cave cell) (hang_of cave cell)
    (passes_if (is_legal cave cell) (Floor ∷ North ∷ East ∷ South ∷ West ∷ []) s)

-- the first legal hang is legal
pub legal_hang : (cave : Cave) (cell : ℕ) → IsPlace cave cell
    → is_legal cave cell (unwrap_or (hang_of cave cell) Floor) ≡ true
legal_hang cave cell place = holds_at (is_legal cave cell) (hang_of cave cell)
    (found (is_legal cave cell) place.0 place.1)

-- where both hold the first does
first_true : (a b : Bool) → (a && b) ≡ true → a ≡ true
first_true true b e = refl
first_true false b e = e

-- nothing may go beyond the box
no_put_past : (cave : Cave) (cell : ℕ) → length cave.classes ≤ cell → (class_at cave cell).put ≡ false
no_put_past cave cell past = rw get_or_past refl

-- places are cells of the box
pub place_inside : (cave : Cave) (cell : ℕ) → IsSound cave → IsPlace cave cell → cell < cell_count cave.size
place_inside cave cell sound place =
    subst (λ (n : ℕ). cell < n) sound.whole (elim (cases_lt cell (length cave.classes)) [
      | inl lt ↦ lt
      | inr past ↦ (let put : (class_at cave cell).put ≡ true = first_true _ _ place.1 in
          absurd (true≢false (sym put ∙ no_put_past cave cell past)))
    ])
