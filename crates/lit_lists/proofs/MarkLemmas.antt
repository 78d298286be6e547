-- Flags, cell after cell.
use Rattle.std.proofs.Common.{◌≡◌, ℕ, ◌+◌, ◌<◌, ◌≤◌, Bool, false, IsTrue, List, [], ◌∷◌, ◌++◌, length, sym, ap, subst}
use Rattle.std.proofs.Common.{◌∙◌, arith, inl, inr, length-append}
use Rattle.std.specs.Prelude.{◌↔◌}
use Rattle.std.proofs.lemmas.Bool.{cases_lt, true≢false}
use Rattle.std.proofs.lemmas.List.{get_or_past, get_or_push, get_or_append_left}
use Rattle.cave_model.specs.Cave.{Cave}
use Rattle.cave_model.specs.Light.{Brings, IsLevelOf}
use Rattle.cave_model.specs.Spawn.{is_spawnable, IsDark}
use Rattle.cave_model.proofs.LightLemmas.{brings_level}
use Rattle.lit_lists.specs.Lists.{is_marked, AreMarksOf}

-- flags for the cells before this one
pub record Marking (Kind : ℕ → Type 0) (count : ℕ) (marks : List Bool) : Type 0 where
  pub whole : length marks ≡ count
  pub exact : (cell : ℕ) → cell < count → IsTrue (is_marked marks cell) ↔ Kind cell

-- before the first cell there are no flags
pub marking_none : (Kind : ℕ → Type 0) (marks : List Bool) → marks ≡ [] → Marking Kind 0 marks
marking_none Kind marks e = record { whole = ap length e; exact = λ cell h. absurd (omega arith) }

-- the next cell's flag is set where the cell is of the kind
pub marking_push : (Kind : ℕ → Type 0) (count : ℕ) (marks : List Bool) (flag : Bool) → Marking Kind count marks
    → IsTrue flag ↔ Kind count → Marking Kind (count + 1) (marks ++ flag ∷ [])
marking_push Kind count marks flag s is = record {
  whole = omega (arith, s.whole, length-append marks (flag ∷ []));
  exact = λ cell h. (elim (cases_lt cell count) [
    | inl lt ↦ subst (λ (b : Bool). IsTrue b ↔ Kind cell)
        (sym (get_or_append_left marks (flag ∷ []) false cell (omega (arith, s.whole)))) (s.exact cell lt)
    | inr le ↦ (let same : count ≡ cell = omega arith in
        subst (λ (b : Bool). IsTrue b ↔ Kind cell) (sym (get_or_push marks flag false cell (s.whole ∙ same)))
        (subst (λ (c : ℕ). IsTrue flag ↔ Kind c) same is))
  ]);
}

-- after the last cell the flags are those of the whole box
pub marking_all : (Kind : ℕ → Type 0) (count all : ℕ) (marks : List Bool) → count ≡ all
    → ((cell : ℕ) → Kind cell → cell < all) → Marking Kind count marks → AreMarksOf all Kind marks
marking_all Kind count all marks e within s = record {
  whole = s.whole ∙ e;
  exact = λ cell. (elim (cases_lt cell count) [
    | inl lt ↦ s.exact cell lt
    | inr le ↦ (
      λ m. absurd (true≢false (sym m ∙ get_or_past marks cell false (omega (arith, s.whole)))),
      λ k. (let lt = within cell k in absurd (omega arith)),
    )
  ]);
}

-- a spawnable cell with a level below the need is dark
pub dark_where_dim : (cave : Cave) (cell level : ℕ) → IsLevelOf cave cell level → level < cave.rule.need
    → IsTrue (is_spawnable cave cell) → IsDark cave cell
dark_where_dim cave cell level is dim spawn = record {
  spawnable = spawn;
  unlit = λ brings. (let le : cave.rule.need ≤ level = is.most cave.rule.need brings in absurd (omega arith));
}

-- a dark cell has a level below the need
pub dim_where_dark : (cave : Cave) (cell level : ℕ) → 1 ≤ cave.rule.need → IsLevelOf cave cell level → IsDark cave cell
    → level < cave.rule.need
dim_where_dark cave cell level pos is dark = elim (cases_lt level cave.rule.need) [
  | inl lt ↦ lt
  | inr le ↦ (let brings : Brings cave cell cave.rule.need = brings_level cave cell level cave.rule.need is
      (omega arith) le in absurd (dark.unlit brings))
]
