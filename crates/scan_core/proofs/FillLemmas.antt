-- Cells that are filled by one entry after another.
use Rattle.std.proofs.Common.{◌≡◌, ◌≢◌, ℕ, ◌+◌, ◌<◌, ◌==◌, Bool, true, false, List, [], ◌∷◌, ◌++◌, length, get_or}
use Rattle.std.proofs.Common.{set, Option, Some, None, IsTrue, All, refl, sym, ap, subst, ◌∙◌, arith}
use Rattle.std.specs.Prelude.{if◌then◌else◌}
use Rattle.std.proofs.lemmas.Bool.{eqb-true}
use Rattle.std.proofs.lemmas.List.{get_or-set_same, get_or-set_other, length-set}
use Rattle.std.proofs.lemmas.List.Elements.{All-push}
use Rattle.nbt_core.specs.Value.{Nbt}
use Rattle.cave_base.specs.Box.{Point, cell_count, number, is_within}
use Rattle.scan_core.specs.Cells.{IsPlaced}
use Rattle.scan_core.specs.Scan.{Entry, IsEntryOf, or_else, last_state}
use Rattle.scan_core.specs.Faults.{entry_faults}
use Rattle.scan_core.specs.Judging.{first_fault}
use Rattle.cave_base.proofs.CellLemmas.{within_parts, number_below}
use Rattle.scan_core.proofs.EachLemmas.{AreTold, told_more}

-- the cells show the last of the entries below the index
pub record AreFilled (size : Point) (states : ℕ) (ts : List Nbt) (index : ℕ) (rest : List Nbt)
    (cells : List (Option ℕ)) : Type 0 where
  pub entries : List Entry
  pub told : AreTold IsEntryOf (entry_faults size states) ts index rest entries
  pub inside : All (λ entry. IsTrue (is_within size entry.at)) entries
  pub known : All (λ entry. entry.state < states) entries
  pub whole : length cells ≡ cell_count size
  pub last : (cell : ℕ) → cell < cell_count size → get_or cells cell None ≡ last_state size cell entries

-- the state of an entry at the cell, or else another
abbrev state_at : Point → ℕ → Entry → Option ℕ → Option ℕ
state_at size cell entry other = if number size entry.at == cell then Some entry.state else other

-- one more entry gives its cell its own state, and leaves the others
pub last_push : (size : Point) (cell : ℕ) (entries : List Entry) (entry : Entry)
    → last_state size cell (entries ++ entry ∷ []) ≡ state_at size cell entry (last_state size cell entries)
last_push size cell [] entry = refl
last_push size cell (x ∷ xs) entry =
    ap (λ (o : Option ℕ). or_else o (state_at size cell x None)) (last_push size cell xs entry)
    ∙ by_case (number size entry.at == cell) entry.state (last_state size cell xs) (state_at size cell x None)
  where
    by_case : (b : Bool) (n : ℕ) (o p : Option ℕ) → or_else (if b then Some n else o) p ≡ (if b then Some n
        else or_else o p)
    by_case true n o p = refl
    by_case false n o p = refl

-- after one cell is set, that cell shows the new state, and any other what it showed
set_shows : (cells : List (Option ℕ)) (at cell n : ℕ) → at < length cells
    → get_or (set cells at (Some n)) cell None ≡ (if at == cell then Some n else get_or cells cell None)
set_shows cells at cell n h = by_case (at == cell) (λ e. eqb-true at cell e) (λ e. differs at cell e)
  where
    by_case : (b : Bool) → (b ≡ true → at ≡ cell) → (b ≡ false → cell ≢ at)
        → get_or (set cells at (Some n)) cell None ≡ (if b then Some n else get_or cells cell None)
    by_case true p q = subst (λ (k : ℕ). get_or (set cells at (Some n)) k None ≡ Some n) (p refl)
        (get_or-set_same cells at (Some n) None h)
    by_case false p q = get_or-set_other cells at cell (Some n) None (q refl)

    differs : (a b : ℕ) → (a == b) ≡ false → b ≢ a
    differs a b e p = grind arith

-- an entry's cell is one of the cells
pub placed_below : (size : Point) (states : ℕ) (cells : List (Option ℕ)) (t : Nbt) (cell n : ℕ)
    → length cells ≡ cell_count size → IsPlaced t size states cell n → cell < length cells
placed_below size states cells t cell n whole p =
    let inside : number size p.entry.at < cell_count size = number_below size p.entry.at
    (within_parts size p.entry.at p.inside) in
    subst (λ (k : ℕ). k < length cells) (sym p.numbered)
    (subst (λ (k : ℕ). number size p.entry.at < k) (sym whole) inside)

-- where one more entry sets its cell, the cells show the entries up to that one
pub more_filled : (size : Point) (states : ℕ) (ts : List Nbt) (index : ℕ) (rest : List Nbt)
    (cells : List (Option ℕ)) (t : Nbt) (others : List Nbt) (cell n : ℕ) → AreFilled size states ts index rest cells
    → rest ≡ t ∷ others → IsPlaced t size states cell n → first_fault (entry_faults size states index t) ≡ None
    → AreFilled size states ts (index + 1) others (set cells cell (Some n))
more_filled size states ts index rest cells t others cell n f e p clean =
    let below : number size p.entry.at < length cells = subst (λ (k : ℕ). k < length cells) p.numbered
    (placed_below size states cells t cell n f.whole p) in
    subst (λ (k : ℕ). AreFilled size states ts (index + 1) others (set cells k (Some n))) (sym p.numbered)
    (subst (λ (k : ℕ). AreFilled size states ts (index + 1) others (set cells (number size p.entry.at) (Some k)))
    (sym p.indexed)
    (record {
      entries = f.entries ++ p.entry ∷ [];
      told = told_more IsEntryOf (entry_faults size states) ts index rest f.entries f.told t others p.entry e p.told
          clean;
      inside = All-push (λ (entry : Entry). IsTrue (is_within size entry.at)) f.entries p.entry f.inside p.inside;
      known = All-push (λ (entry : Entry). entry.state < states) f.entries p.entry f.known p.known;
      whole = length-set cells (number size p.entry.at) (Some p.entry.state) ∙ f.whole;
      last = λ k l.
          set_shows cells (number size p.entry.at) k p.entry.state below
          ∙ ap (state_at size k p.entry) (f.last k l)
          ∙ sym (last_push size k f.entries p.entry);
    }))
