-- Steps of the judge of nodes, by the kind of the line.
use Rattle.std.proofs.Common.{◌≡◌, ◌≢◌, ℕ, ◌-◌, ◌<◌, List, [], ◌∷◌, length, take, drop, refl, sym, ap, subst, ◌∙◌}
use Rattle.std.proofs.Common.{arith}
use Rattle.std.specs.Prelude.{Bool, false, is_some}
use Rattle.std.proofs.lemmas.Bool.{true≢false}
use Rattle.std.proofs.lemmas.List.{take_all}
use Rattle.cave_model.specs.Cave.{Cave}
use Rattle.cave_model.specs.Spawn.{IsDark}
use Rattle.lit_lists.specs.Lists.{LitLists}
use Rattle.lit_lists.proofs.PairLemmas.{marked_inside}
use Rattle.certificate_lines.specs.declared.kind.LineKind.{LineKind}
use Rattle.certificate_lines.specs.declared.kind.LineKind.TheVariants as kind
use Rattle.proof_check.specs.Judged.{JudgeState, at, outset, next_line, NodeSteps}
use Rattle.proof_check.specs.Track.{IsAt}
use Rattle.proof_check.specs.Kept.{IsWide, IsWeighing, JudgesLeaf, Judges, StepsOn, BeginsRegion, Expects}
use Rattle.proof_check.specs.declared.nodes.NodeJudge.{NodeJudge}
use Rattle.proof_check.specs.declared.track.Track.{Track}
use Rattle.proof_check.specs.declared.weighing.Weighing as held
use Rattle.node_judges.specs.Tally.{Tally}

-- a line that says nothing of nodes
abbrev SaysNothing : LineKind → List ℕ → Type 0
SaysNothing k numbers = (cave : Cave) (s : JudgeState) → NodeSteps cave k numbers s (at (next_line s))

-- a line by which no state changes but its number leaves the nodes as they are
pub nothing_said : (lists : LitLists) (k : LineKind) (numbers : List ℕ) (line : ℕ) (nodes : NodeJudge)
    → ((cave : Cave) (s : JudgeState) → NodeSteps cave k numbers s (at (next_line s)))
    → StepsOn lists k numbers line nodes nodes
nothing_said lists k numbers line nodes f = record {
  each = λ cave s known i e d. (
    at (next_line s),
    f cave s,
    record {
      good = i.good;
      cells = i.cells;
      floor = i.floor;
      weak = i.weak;
      spot = i.spot;
      weighing = i.weighing;
      dark = i.dark;
    },
  );
}

-- a leaf with no numbers says nothing
pub leaf_nothing : (lists : LitLists) (numbers : List ℕ) (line : ℕ) (nodes : NodeJudge) → length numbers < 1
    → StepsOn lists kind.Leaf numbers line nodes nodes
leaf_nothing lists [] line nodes h = nothing_said lists kind.Leaf [] line nodes (λ cave s. refl)
leaf_nothing lists (n ∷ ns) line nodes h = absurd (omega arith)

-- nor does a branch with other than two
pub branch_nothing : (lists : LitLists) (numbers : List ℕ) (line : ℕ) (nodes : NodeJudge) → (length numbers ≢ 2)
    → StepsOn lists kind.Branch numbers line nodes nodes
branch_nothing lists [] line nodes h = nothing_said lists kind.Branch [] line nodes (λ cave s. refl)
branch_nothing lists (a ∷ []) line nodes h = nothing_said lists kind.Branch (a ∷ []) line nodes (λ cave s. refl)
branch_nothing lists (a ∷ b ∷ []) line nodes h = absurd (h refl)
branch_nothing lists (a ∷ b ∷ c ∷ ns) line nodes h = nothing_said lists kind.Branch (a ∷ b ∷ c ∷ ns) line nodes
    (λ cave s. refl)

-- nor a bar with other than two
pub bar_nothing : (lists : LitLists) (numbers : List ℕ) (line : ℕ) (nodes : NodeJudge) → (length numbers ≢ 2)
    → StepsOn lists kind.Bar numbers line nodes nodes
bar_nothing lists [] line nodes h = nothing_said lists kind.Bar [] line nodes (λ cave s. refl)
bar_nothing lists (a ∷ []) line nodes h = nothing_said lists kind.Bar (a ∷ []) line nodes (λ cave s. refl)
bar_nothing lists (a ∷ b ∷ []) line nodes h = absurd (h refl)
bar_nothing lists (a ∷ b ∷ c ∷ ns) line nodes h = nothing_said lists kind.Bar (a ∷ b ∷ c ∷ ns) line nodes
    (λ cave s. refl)

-- nor a pick with other than one
pub pick_nothing : (lists : LitLists) (numbers : List ℕ) (line : ℕ) (nodes : NodeJudge) → (length numbers ≢ 1)
    → StepsOn lists kind.Pick numbers line nodes nodes
pick_nothing lists [] line nodes h = nothing_said lists kind.Pick [] line nodes (λ cave s. refl)
pick_nothing lists (a ∷ []) line nodes h = absurd (h refl)
pick_nothing lists (a ∷ b ∷ ns) line nodes h = nothing_said lists kind.Pick (a ∷ b ∷ ns) line nodes (λ cave s. refl)

-- a leaf that is judged by the cells after its count is a step
pub leaf_steps : (lists : LitLists) (numbers : List ℕ) (line : ℕ) (old new : NodeJudge) → 0 < length numbers
    → JudgesLeaf lists (take (length numbers - 1) (drop 1 numbers)) line old new
    → StepsOn lists kind.Leaf numbers line old new
leaf_steps lists [] line old new h j = absurd (omega arith)
leaf_steps lists (n ∷ ns) line old new h j =
    let all : take (length (n ∷ ns) - 1) ns ≡ ns = take_all (length (n ∷ ns) - 1) ns (omega arith) in
    let here : JudgesLeaf lists ns line old new = subst (λ (l : List ℕ). JudgesLeaf lists l line old new) all j in
    record { each = λ cave s known i e d. here.each cave s known i e }

-- a line of no kind of node says nothing of nodes
pub other_nothing : (lists : LitLists) (k : LineKind) (numbers : List ℕ) (line : ℕ) (nodes : NodeJudge)
    → (k ≢ kind.Dark)
    → (k ≢ kind.Torches) → (k ≢ kind.Leaf) → (k ≢ kind.Branch) → (k ≢ kind.Bar)
    → (k ≢ kind.Weighted) → (k ≢ kind.Group) → (k ≢ kind.Omit) → (k ≢ kind.Pick)
    → StepsOn lists k numbers line nodes nodes
other_nothing lists kind.Version numbers line nodes a b c d e f g h i =
    nothing_said lists kind.Version numbers line nodes (λ cave s. refl)
other_nothing lists kind.Size numbers line nodes a b c d e f g h i =
    nothing_said lists kind.Size numbers line nodes (λ cave s. refl)
other_nothing lists kind.Headroom numbers line nodes a b c d e f g h i =
    nothing_said lists kind.Headroom numbers line nodes (λ cave s. refl)
other_nothing lists kind.Need numbers line nodes a b c d e f g h i =
    nothing_said lists kind.Need numbers line nodes (λ cave s. refl)
other_nothing lists kind.Regions numbers line nodes a b c d e f g h i =
    nothing_said lists kind.Regions numbers line nodes (λ cave s. refl)
other_nothing lists kind.Region numbers line nodes a b c d e f g h i =
    nothing_said lists kind.Region numbers line nodes (λ cave s. refl)
other_nothing lists kind.End numbers line nodes a b c d e f g h i =
    nothing_said lists kind.End numbers line nodes (λ cave s. refl)
other_nothing lists kind.Dark numbers line nodes a b c d e f g h i = absurd (a refl)
other_nothing lists kind.Torches numbers line nodes a b c d e f g h i = absurd (b refl)
other_nothing lists kind.Leaf numbers line nodes a b c d e f g h i = absurd (c refl)
other_nothing lists kind.Branch numbers line nodes a b c d e f g h i = absurd (d refl)
other_nothing lists kind.Bar numbers line nodes a b c d e f g h i = absurd (e refl)
other_nothing lists kind.Weighted numbers line nodes a b c d e f g h i = absurd (f refl)
other_nothing lists kind.Group numbers line nodes a b c d e f g h i = absurd (g refl)
other_nothing lists kind.Omit numbers line nodes a b c d e f g h i = absurd (h refl)
other_nothing lists kind.Pick numbers line nodes a b c d e f g h i = absurd (i refl)

-- the same track is at the same spot
spot_kept : (lists : LitLists) (s : JudgeState) (old new : Track) → new ≡ old
    → IsAt lists s.spot old.chosen.items old.barred.items old.omitted.items old.frames.items
    → IsAt lists s.spot new.chosen.items new.barred.items new.omitted.items new.frames.items
spot_kept lists s old new e i =
    subst (λ (t : Track). IsAt lists s.spot t.chosen.items t.barred.items t.omitted.items t.frames.items) (sym e) i

-- and what is told of a weighted leaf stays
weighing_kept : (s : JudgeState) (old new : held.Weighing) → new ≡ old → IsWeighing old s.weighing
    → IsWeighing new s.weighing
weighing_kept s old new e i = subst (λ (w : held.Weighing). IsWeighing w s.weighing) (sym e) i

-- a line of dark cells begins a region
pub dark_steps : (lists : LitLists) (cells : List ℕ) (line : ℕ) (old new : NodeJudge) → IsWide lists old
    → BeginsRegion cells old new
    → StepsOn lists kind.Dark cells line old new
dark_steps lists cells line old new w b = record {
  each = λ cave s known i e d. (
    at (record (next_line s) { cells = cells }),
    refl,
    record {
      good = b.bad ∙ i.good;
      cells = b.region (λ c h. (let lt = marked_inside cave (IsDark cave) lists.dark c known.dark (d refl c h) in
          omega (arith, w.region, known.places.whole)));
      floor = b.floor ∙ i.floor;
      weak = b.weak ∙ i.weak;
      spot = spot_kept lists s old.track new.track b.track i.spot;
      weighing = weighing_kept s old.weighing new.weighing b.weighing i.weighing;
      dark = d refl;
    },
  );
}

-- a line of torches says how many are to be proved
pub torch_steps : (lists : LitLists) (torches : List ℕ) (line : ℕ) (old new : NodeJudge)
    → Expects (length torches) old new
    → StepsOn lists kind.Torches torches line old new
torch_steps lists torches line old new x = record {
  each = λ cave s known i e d. (
    at (record (next_line s) { floor = length torches; spot = outset }),
    refl,
    record {
      good = x.bad ∙ i.good;
      cells = region old.region new.region x.region ∙ i.cells;
      floor = x.floor;
      weak = x.weak ∙ i.weak;
      spot = record {
        chosen_is = x.chosen;
        barred_is = x.barred;
        omitted_is = x.omitted;
        fits = (x.frames, x.chosen);
      };
      weighing = weighing_kept s old.weighing new.weighing x.weighing i.weighing;
      dark = i.dark;
    },
  );
} where
  region : (a b : Tally) → b ≡ a → b.items ≡ a.items
  region a b e = ap (λ (t : Tally). t.items) e

-- a judge with no bad node judges a line as its step says
pub judged : (lists : LitLists) (k : LineKind) (numbers : List ℕ) (line : ℕ) (old new : NodeJudge) (stuck : Bool)
    → stuck ≡ is_some old.bad → stuck ≡ false → StepsOn lists k numbers line old new
    → Judges lists k numbers line old new
judged lists k numbers line old new stuck is off step = record {
  steps = λ none. step;
  still = λ bad e. absurd (true≢false (sym (is ∙ ap is_some e) ∙ off));
}
