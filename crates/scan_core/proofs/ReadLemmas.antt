-- What the parts of a root tell, put together.
use Rattle.std.proofs.Common.{◌≡◌, ◌≢◌, ℕ, Bool, false, List, [], ◌∷◌, length, codes, Option, Some, None, is_some}
use Rattle.std.proofs.Common.{Result, Ok, Err, IfErr, inl, inr, ⊎_elim, ◌⊎◌, refl, sym, ap, subst, ◌∙◌}
use Rattle.nbt_core.specs.Breaking.{FaultOf}
use Rattle.nbt_core.specs.Spelling.{Root}
use Rattle.nbt_core.proofs.Results.{ok_is}
use Rattle.nbt_core.proofs.RootLaws.{root_again}
use Rattle.nbt_core.specs.Value.{Nbt, field}
use Rattle.nbt_core.specs.declared.fault.NbtFault.{NbtFault}
use Rattle.nbt_core.specs.declared.fault.NbtFault.TheVariants as inner
use Rattle.scan_core.specs.Answer.{TellsInRoom}
use Rattle.cave_base.specs.Answer.{IsAnswer, IsRefusal}
use Rattle.cave_base.specs.Box.{Point}
use Rattle.scan_core.specs.Cells.{AreCellsOf}
use Rattle.scan_core.specs.Faults.{size_fault, palette_fault, blocks_fault, fault_of, told_size, IsFaultOf}
use Rattle.scan_core.specs.Judging.{first_fault, on_field}
use Rattle.scan_core.specs.Mapping.{of_nbt}
use Rattle.scan_core.specs.Scan.{Structure, IsScanOf, Scans}
use Rattle.scan_core.specs.Told.{IsSizeOf, IsPaletteOf}
use Rattle.scan_core.specs.declared.state.BlockState.{BlockState}
use Rattle.scan_core.specs.declared.fault.ScanFault.{ScanFault}
use Rattle.scan_core.specs.declared.fault.ScanFault.TheVariants as faults
use Rattle.scan_core.proofs.One.{one_structure}
use Rattle.scan_core.proofs.ScanLemmas.{structure_clean, size_told, states_told}

-- a field that wasn't found isn't there
pub no_field : (r found : Option Nbt) → r ≡ found → is_some r ≡ false → found ≡ None
no_field None found e h = sym e
no_field (Some t) found e h = absurd (cc)

-- the parts of a structure
is_scan : (root : Nbt) (size : Point) (palette : List BlockState) (cells : List (Option ℕ))
    → IsSizeOf (field (codes "size") root) size → field (codes "palettes") root ≡ None
    → IsPaletteOf (field (codes "palette") root) palette
    → AreCellsOf (field (codes "blocks") root) size (length palette) cells
    → IsScanOf root (record { size = size; palette = palette; cells = cells })
is_scan root size palette cells s single p c = record {
  sized = s.sized;
  small = s.small;
  single = single;
  states = p;
  entries = c.shown.entries;
  listed = (c.values, c.listed, c.shown.each);
  inside = c.shown.inside;
  known = c.shown.known;
  whole = c.shown.whole;
  last = c.shown.last;
}

-- the same, as the code comes by them
pub told_scan : (root : Nbt) (size : Point) (palette : List BlockState) (cells : List (Option ℕ))
    (palettes : Option Nbt) (there : Bool) (states : ℕ) → IsSizeOf (field (codes "size") root) size
    → palettes ≡ field (codes "palettes") root → there ≡ is_some palettes → there ≡ false
    → IsPaletteOf (field (codes "palette") root) palette → states ≡ length palette
    → AreCellsOf (field (codes "blocks") root) size states cells
    → IsScanOf root (record { size = size; palette = palette; cells = cells })
told_scan root size palette cells palettes there states s e h none p count c =
    is_scan root size palette cells s (no_field palettes (field (codes "palettes") root) e (sym h ∙ none)) p
    (subst (λ (n : ℕ). AreCellsOf (field (codes "blocks") root) size n cells) count c)

-- the fault of the last of four judgements, where the three before it find none
fourth : (a b c d : Option ScanFault) (fault : ScanFault) → a ≡ None → b ≡ None → c ≡ None → d ≡ Some fault
    → first_fault (a ∷ b ∷ c ∷ d ∷ []) ≡ Some fault
fourth a b c d fault p q r s =
    ap (λ (a : Option ScanFault). first_fault (a ∷ b ∷ c ∷ d ∷ [])) p
    ∙ ap (λ (b : Option ScanFault). first_fault (None ∷ b ∷ c ∷ d ∷ [])) q
    ∙ ap (λ (c : Option ScanFault). first_fault (None ∷ None ∷ c ∷ d ∷ [])) r
    ∙ ap (λ (d : Option ScanFault). first_fault (None ∷ None ∷ None ∷ d ∷ [])) s

-- a fault of the blocks, where the other parts have none
pub fault_of-blocks : (root : Nbt) (size : Point) (palette : List BlockState) (palettes : Option Nbt) (there : Bool)
    (states : ℕ) (fault : ScanFault) → IsSizeOf (field (codes "size") root) size
    → size_fault (field (codes "size") root) ≡ None
    → palettes ≡ field (codes "palettes") root → there ≡ is_some palettes → there ≡ false
    → IsPaletteOf (field (codes "palette") root) palette → palette_fault (field (codes "palette") root) ≡ None
    → states ≡ length palette
    → blocks_fault size states (field (codes "blocks") root) ≡ Some fault → fault_of root ≡ Some fault
fault_of-blocks root size palette palettes there states fault s clean e h none p q count b =
    let single = no_field palettes (field (codes "palettes") root) e (sym h ∙ none) in
    fourth _ _ _ _ fault clean
    (ap (λ (o : Option Nbt). on_field o None (λ (t : Nbt). Some faults.Palettes)) single)
    q
    (ap (λ (n : ℕ). blocks_fault (told_size root) n (field (codes "blocks") root))
    (states_told root palette p ∙ sym count)
    ∙ ap (λ (at : Point). blocks_fault at states (field (codes "blocks") root)) (size_told root size s.sized)
    ∙ b)

-- ---- bytes with a root

-- they have no other
pub one_root : (bytes : List ℕ) (root : Nbt) → Root bytes root → (t : Nbt) → Root bytes t → root ≡ t
one_root bytes root is t other = ok_is root t (sym (root_again bytes root is) ∙ root_again bytes t other)

-- a root has at most one fault
both_faults : (root : Nbt) (a b : ScanFault) → fault_of root ≡ Some a → fault_of root ≡ Some b → a ≡ b
both_faults root a b p q = same a b (sym p ∙ q)
  where
    same : (a b : ScanFault) → ◌≡◌ {A = Option ScanFault} (Some a) (Some b) → a ≡ b
    same a b e = cc

-- a judgement that finds nothing finds no fault
clean_or : (o : Option ScanFault) (fault : ScanFault) → o ≡ None → o ≡ Some fault → ⊥
clean_or o fault p q = absurd (cc)

-- of a root that is the only one, no other structure is answered than the one that is told
pub root_only : (bytes : List ℕ) (root : Nbt) (r : Result Structure ScanFault)
    → ((t : Nbt) → Root bytes t → root ≡ t) → TellsInRoom r (λ s. IsScanOf root s) (fault_of root) → (s : Structure)
    → Scans bytes s → IsAnswer faults.OutOfMemory r (λ x. x ≡ s)
root_only bytes root (Ok found) only told s (t, is, scan) =
    one_structure root found s told.0 (subst (λ (t : Nbt). IsScanOf t s) (sym (only t is)) scan)
root_only bytes root (Err fault) only told s (t, is, scan) =
    ⊎_elim (λ e. absurd (clean_or (fault_of root) fault
    (structure_clean root s (subst (λ (t : Nbt). IsScanOf t s) (sym (only t is)) scan)) e)) (λ e. e) told

-- a fault other than want of memory is the root's
pub root_fault : (bytes : List ℕ) (root : Nbt) (r : Result Structure ScanFault) → Root bytes root
    → TellsInRoom r (λ s. IsScanOf root s) (fault_of root) → IfErr r (λ e. e ≢ faults.OutOfMemory → IsFaultOf bytes e)
root_fault bytes root (Ok found) is told = tt
root_fault bytes root (Err fault) is told = λ other. ⊎_elim (λ e. inr (root, is, e)) (λ e. absurd (other e)) told

-- where bytes are a root and no other, the root's fault is answered
pub root_refused : (bytes : List ℕ) (root : Nbt) (r : Result Structure ScanFault)
    → ((t : Nbt) → Root bytes t → root ≡ t) → ((e : NbtFault) → FaultOf bytes e → ⊥)
    → TellsInRoom r (λ s. IsScanOf root s) (fault_of root) → (e : ScanFault) → IsFaultOf bytes e
    → IsRefusal faults.OutOfMemory r e
root_refused bytes root r only clean told e (inl (fault, breaks, is)) = absurd (clean fault breaks)
root_refused bytes root (Ok found) only clean told e (inr (t, is, judged)) =
    clean_or (fault_of root) e told.1 (subst (λ (t : Nbt). fault_of t ≡ Some e) (sym (only t is)) judged)
root_refused bytes root (Err fault) only clean told e (inr (t, is, judged)) =
    ⊎_elim (λ f. inl (both_faults root fault e f (subst (λ (t : Nbt). fault_of t ≡ Some e) (sym (only t is))
    judged))) (λ f. inr f) told

-- ---- bytes without a root

-- bytes without a root tell no structure
pub no_root_only : (bytes : List ℕ) (fault : NbtFault) → ((t : Nbt) → Root bytes t → ⊥) → (s : Structure)
    → Scans bytes s → of_nbt fault ≡ faults.OutOfMemory
no_root_only bytes fault only s (t, is, scan) = absurd (only t is)

-- a fault of the bytes stays one, or is out of memory
of_nbt-cases : (fault : NbtFault) → (of_nbt fault ≡ faults.Nbt fault) ⊎ (of_nbt fault ≡ faults.OutOfMemory)
of_nbt-cases inner.OutOfMemory = inr refl
of_nbt-cases fault = inl refl

-- bytes without a root have the fault of the bytes
pub no_root_refused : (bytes : List ℕ) (fault : NbtFault) → ((t : Nbt) → Root bytes t → ⊥)
    → ((e : NbtFault) → FaultOf bytes e → fault ≡ e) → (e : ScanFault) → IsFaultOf bytes e
    → (of_nbt fault ≡ e) ⊎ (of_nbt fault ≡ faults.OutOfMemory)
no_root_refused bytes fault only refused e (inl (other, breaks, is)) =
    ⊎_elim (λ f. inl (f ∙ ap faults.Nbt (refused other breaks) ∙ sym is)) (λ f. inr f) (of_nbt-cases fault)
no_root_refused bytes fault only refused e (inr (t, is, judged)) = absurd (only t is)
