-- One root or one fault: what follows from reading both back.
use Rattle.std.proofs.Common.{◌≡◌, ℕ, List, ◌∷◌, ◌++◌, Result, Ok, Err, refl, sym, ap, ◌∙◌, ◌⊎◌, inl, inr}
use Rattle.std.proofs.lemmas.List.{append_cancel_right}
use Rattle.nbt_core.specs.declared.fault.NbtFault.{NbtFault}
use Rattle.nbt_core.specs.declared.kind.Kind.TheVariants as kinds
use Rattle.nbt_core.specs.Value.{Nbt}
use Rattle.nbt_core.specs.Reading.{Reads, ◌>>=◌, text_at}
use Rattle.nbt_core.specs.TreeReading.{value_at, root_at}
use Rattle.nbt_core.specs.Spelling.{◌▷◌, IsText, Spells, SpellsRoot, Root}
use Rattle.nbt_core.specs.Breaking.{FaultOf}
use Rattle.nbt_core.proofs.Results.{ok_is, err_is, ok_never}
use Rattle.nbt_core.proofs.Fronts.{regroup}
use Rattle.nbt_core.proofs.Pieces.{text_again}
use Rattle.nbt_core.proofs.TreeLaws.{value_again}
use Rattle.nbt_core.proofs.RootLaws.{root_takes, root_again, root_err, root_breaks}

-- a named root, after its id, and the bytes after it
abbrev payload_at : List ℕ → Reads Nbt
payload_at bytes = text_at 0 bytes >>= λ name. value_at 0 512 kinds.Compound name.1

payload_again : (name : List ℕ) (t : Nbt) (front rest : List ℕ)
    → (IsText name ▷ Spells kinds.Compound t 1) front → payload_at (front ++ rest) ≡ Ok (t, rest)
payload_again name t front rest is =
    ap payload_at (regroup rest is)
    ∙ rw (text_again 0 name is.front (is.rest ++ rest) is.first)
    (value_again 0 512 1 refl kinds.Compound t is.rest rest is.second)

tail_is : (b : ℕ) (xs ys : List ℕ) → b ∷ xs ≡ b ∷ ys → xs ≡ ys
tail_is b xs ys e = cc

pub same_root : (t u : Nbt) (front rest other others : List ℕ) → SpellsRoot t front → SpellsRoot u other
    → front ++ rest ≡ other ++ others → (front ≡ other) × (t ≡ u)
same_root t u front rest other others is are same =
    let m = is.1 in
    let n = are.1 in
    let here : front ≡ 10 ∷ m.rest = m.parts ∙ ap (λ (x : List ℕ). x ++ m.rest) m.first in
    let there : other ≡ 10 ∷ n.rest = n.parts ∙ ap (λ (x : List ℕ). x ++ n.rest) n.first in
    let left : m.rest ++ rest ≡ n.rest ++ others = tail_is 10 _ _
    (ap (λ (x : List ℕ). x ++ rest) (sym here) ∙ same ∙ ap (λ (x : List ℕ). x ++ others) there) in
    let read : (t, rest) ≡ (u, others) = ok_is (t, rest) (u, others)
    (sym (payload_again is.0 t m.rest rest m.second) ∙ ap payload_at left ∙ payload_again are.0 u n.rest others
    n.second) in
    let after : rest ≡ others = ap (λ (x : Nbt × List ℕ). x.1) read in
    let fronts : front ≡ other = append_cancel_right front other
    rest (same ∙ ap (λ (x : List ℕ). other ++ x) (sym after)) in
    (fronts, ap (λ (x : Nbt × List ℕ). x.0) read)

pub some_root_or_fault : (bytes : List ℕ) → ((t : Nbt) × Root bytes t) ⊎ ((fault : NbtFault) × FaultOf bytes fault)
some_root_or_fault bytes = by_reading (root_at bytes) refl
  where
    by_reading : (read : Result Nbt NbtFault) → root_at bytes ≡ read → ((t : Nbt) × Root bytes t)
        ⊎ ((fault : NbtFault) × FaultOf bytes fault)
    by_reading (Ok t) e = inl (t, root_takes bytes t e)
    by_reading (Err d) e = inr (d, root_err bytes d e)

pub no_root_with_fault : (bytes : List ℕ) (t : Nbt) (fault : NbtFault) → Root bytes t → FaultOf bytes fault → ⊥
no_root_with_fault bytes t fault root of = ok_never t fault (sym (root_again bytes t root) ∙ root_breaks bytes fault of)

pub same_fault : (bytes : List ℕ) (a b : NbtFault) → FaultOf bytes a → FaultOf bytes b → a ≡ b
same_fault bytes a b of_a of_b = err_is {A = Nbt} a b (sym (root_breaks bytes a of_a) ∙ root_breaks bytes b of_b)
