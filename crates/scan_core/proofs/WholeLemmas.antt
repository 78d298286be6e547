-- What a root tells has known states, and each property once.
use Rattle.std.proofs.Common.{ℕ, ◌<◌, ◌==◌, Bool, true, false, List, [], ◌∷◌, length, codes, Option, Some, None}
use Rattle.std.proofs.Common.{IfSome, All, sym, subst, ◌∙◌}
use Rattle.std.specs.Prelude.{if◌then◌else◌}
use Rattle.std.proofs.lemmas.List.{get_or_default}
use Rattle.std.proofs.lemmas.List.Elements.{All-nil, All-cons, All-head, All-tail}
use Rattle.nbt_core.specs.Value.{Nbt, field}
use Rattle.cave_base.specs.Box.{Point, number}
use Rattle.scan_core.specs.Properties.{HasEachOnce}
use Rattle.scan_core.specs.Scan.{Structure, Entry, or_else, last_state, IsEntryState, AreEach, IsScanOf, IsWholeScan}
use Rattle.scan_core.specs.declared.state.BlockState.{BlockState}
use Rattle.scan_core.proofs.PropertyLemmas.{props_of_once}

-- an index below this, or none
abbrev pub IsBelow : ℕ → Option ℕ → Type 0
IsBelow states cell = IfSome cell (λ index. index < states)

-- of two states below the count, the first that is there is below it
or_else_below : (states : ℕ) (a b : Option ℕ) → IsBelow states a → IsBelow states b → IsBelow states (or_else a b)
or_else_below states (Some n) b p q = p
or_else_below states None b p q = q

-- a state below the count that may be there or not
chosen_below : (states n : ℕ) (b : Bool) → n < states → IsBelow states (if b then Some n else None)
chosen_below states n true h = h
chosen_below states n false h = tt

-- the last state of a cell is below the count, where all are
pub last_below : (size : Point) (states cell : ℕ) (entries : List Entry) → All (λ entry. entry.state < states) entries
    → IsBelow states (last_state size cell entries)
last_below size states cell [] h = tt
last_below size states cell (entry ∷ entries) h =
    or_else_below states (last_state size cell entries)
    (if number size entry.at == cell then Some entry.state else None)
    (last_below size states cell entries (All-tail (λ (entry : Entry). entry.state < states) entry entries h))
    (chosen_below states entry.state (number size entry.at == cell)
    (All-head (λ (entry : Entry). entry.state < states) entry entries h))

-- each state that compounds tell has each property at most once
each_once : (ts : List Nbt) (states : List BlockState) → AreEach IsEntryState ts states
    → All (λ state. HasEachOnce state.props) states
each_once [] [] e = All-nil (λ (state : BlockState). HasEachOnce state.props)
each_once [] (x ∷ xs) e = absurd e
each_once (t ∷ ts) [] e = absurd e
each_once (t ∷ ts) (state ∷ states) e =
    All-cons (λ (state : BlockState). HasEachOnce state.props) state states
    (subst HasEachOnce (sym (e.0).told) (props_of_once (field (codes "Properties") t)))
    (each_once ts states e.1)

-- a structure that a root tells keeps what its type asks for
pub scan_whole : (root : Nbt) (scan : Structure) → IsScanOf root scan → IsWholeScan scan
scan_whole root scan s = record {
  small = s.small;
  whole = s.whole;
  known = λ k d h.
      subst (IsBelow (length scan.palette))
      (sym (get_or_default scan.cells k d None h ∙ s.last k (subst (λ (n : ℕ). k < n) s.whole h)))
      (last_below scan.size (length scan.palette) k s.entries s.known);
  once = each_once s.states.0 scan.palette s.states.2;
}
