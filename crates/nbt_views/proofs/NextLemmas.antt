-- What is left of items and entries after the next one.
use Rattle.std.proofs.Common.{◌≡◌, ℕ, ◌-◌, ◌<◌, ◌≤◌, List, ◌∷◌, length, Some, Ok, sym, ap, ◌∙◌}
use Rattle.nbt_core.specs.declared.kind.Kind.{Kind}
use Rattle.nbt_core.specs.Value.{Nbt, list, no_items}
use Rattle.nbt_core.specs.Reading.{text_at, kind_at}
use Rattle.nbt_core.specs.TreeReading.{value_at}
use Rattle.nbt_core.specs.Skipping.{IsRead}
use Rattle.nbt_views.specs.Borrowed.{read_or, payload_value, item_values, entry_values, ArePayloads, AreNamed}
use Rattle.nbt_views.proofs.ItemLemmas.{item_next}
use Rattle.nbt_views.proofs.MemberLemmas.{member_next}

-- the value of a payload that was passed over
pub passed_value : (end room : ℕ) (kind : Kind) (bytes left : List ℕ) → (s : IsRead (value_at end room kind bytes) left)
    → payload_value end room kind bytes ≡ s.value
passed_value end room kind bytes left s = ap (read_or (list no_items)) s.is

module _ (end room : ℕ) (kind : Kind) (count : ℕ) (bytes left : List ℕ) (p : ArePayloads end room kind count bytes)
    (some : 0 < count) (s : IsRead (value_at end room kind bytes) left) where
  -- the items after the first
  pub items_rest : length left ≤ end → ArePayloads end room kind (count - 1) left
  items_rest within = record {
    within = within;
    shallow = p.shallow;
    whole = (item_next (value_at end room kind) count bytes s.value left some s.is p.whole).whole;
  }

  -- the first item and the others are all
  pub items_first : (all : List Nbt) → item_values end room kind count bytes ≡ all → (found : Nbt)
      → found ≡ payload_value end room kind bytes → all ≡ found ∷ item_values end room kind (count - 1) left
  items_first all v found f =
      sym v ∙ (item_next (value_at end room kind) count bytes s.value left some s.is p.whole).is
      ∙ ap (λ (t : Nbt). t ∷ item_values end room kind (count - 1) left)
      (sym (f ∙ passed_value end room kind bytes left s))

module _ (end room : ℕ) (bytes : List ℕ) (p : AreNamed end room bytes) (kind : Kind) (b1 name b2 left : List ℕ)
    (h1 : kind_at end bytes ≡ Ok (Some kind, b1)) (h2 : text_at end b1 ≡ Ok (name, b2))
    (s : IsRead (value_at end room kind b2) left) where
  -- the entries after the first
  pub entries_rest : length left ≤ end → AreNamed end room left
  entries_rest within = record {
    within = within;
    shallow = p.shallow;
    whole = (member_next end (value_at end room) end bytes p.whole kind b1 name b2 s.value left h1 h2 s.is).whole;
  }

  -- the first entry and the others are all
  pub entries_first : (all : List (List ℕ × Nbt)) → entry_values end room bytes ≡ all → (found : Nbt)
      → found ≡ payload_value end room kind b2 → all ≡ (name, found) ∷ entry_values end room left
  entries_first all v found f =
      sym v ∙ (member_next end (value_at end room) end bytes p.whole kind b1 name b2 s.value left h1 h2 s.is).is
      ∙ ap (λ (t : Nbt). (name, t) ∷ entry_values end room left)
      (sym (f ∙ passed_value end room kind b2 left s))
