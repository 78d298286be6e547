-- Lists and compounds: the fault that is met is the first, and the first fault is met.
use Rattle.std.proofs.Common.{◌≡◌, ◌≢◌, ℕ, zero, suc, ◌+◌, ◌-◌, ◌<◌, ◌≤◌, ℤ, false, cond, eqb, List, ◌++◌, length}
use Rattle.std.proofs.Common.{Option, Some, None, Err, refl, sym, ap, subst, ◌∙◌, arith, inl, inr}
use Rattle.std.proofs.lemmas.Bool.{eqb-false, ne_eqb}
use Rattle.std.proofs.lemmas.List.{length-append}
use Rattle.nbt_core.specs.declared.fault.NbtFault.{NbtFault}
use Rattle.nbt_core.specs.declared.fault.NbtFault.TheVariants.{BadLength}
use Rattle.nbt_core.specs.declared.kind.Kind.{Kind}
use Rattle.nbt_core.specs.declared.kind.Kind.TheVariants as kinds
use Rattle.nbt_core.specs.Value.{Nbt, leaf, list, compound, Items, no_items, item, Members, no_members, member}
use Rattle.nbt_core.specs.Value.{count_of, natural}
use Rattle.nbt_core.specs.Reading.{Reads, ◌>>=◌, mapped, text_at, kind_at, count_at}
use Rattle.nbt_core.specs.TreeReading.{by_kind, items_at, members_at, list_at, compound_at, value_at}
use Rattle.nbt_core.specs.Ids.{id_of, id_of_items}
use Rattle.nbt_core.specs.Spelling.{◌▷◌, IsByte, IsInt, IsText, Spells, AreItems, AreMembers}
use Rattle.nbt_core.specs.Breaking.{BreaksMember, BreaksList, BreaksCompound, Breaks}
use Rattle.nbt_core.proofs.Results.{bind_err, mapped_err, chosen, gave, failed, err_is, ok_never}
use Rattle.nbt_core.proofs.Fronts.{Takes, takes_then, takes_one, takes_some, then_at, then_front, first_as, second_as}
use Rattle.nbt_core.proofs.Fronts.{assoc, no_front}
use Rattle.nbt_core.proofs.Pieces.{count_takes, count_again, count_err, count_short, text_takes, text_again, text_err}
use Rattle.nbt_core.proofs.Pieces.{text_breaks, kind_takes, kind_again, kind_err, kind_breaks}
use Rattle.nbt_core.proofs.LeafLaws.{leaf_err, leaf_breaks}
use Rattle.nbt_core.proofs.MembersLoop.{opened, one_member}
use Rattle.nbt_core.proofs.TreeLaws.{Spelled, Reread, value_takes, value_again}

-- ---- the first fault, from what is read

-- each payload at which `inner` stops with this fault breaks so
abbrev pub Broken : (Kind → List ℕ → Reads Nbt) → NbtFault → (Kind → List ℕ → Type 0) → Type 0
Broken inner d Inner = (kind : Kind) (bytes : List ℕ) → inner kind bytes ≡ Err d → Inner kind bytes

items_err : (inner : Kind → List ℕ → Reads Nbt) (depth : ℕ) (d : NbtFault) (Inner : Kind → List ℕ → Type 0)
    → Spelled inner depth → Broken inner d Inner → (kind : Kind) (n : ℕ) (bytes : List ℕ)
    → items_at (inner kind) n bytes ≡ Err d → (done : Items) × (count_of done < n)
    × (AreItems (Some kind) done depth ▷ Inner kind) bytes
unfolding items_at
items_err inner depth d Inner ok broken kind zero bytes e = absurd (ok_never _ d e)
items_err inner depth d Inner ok broken kind (suc n) bytes e =
    elim (bind_err (inner kind bytes) (λ first. mapped (item first.0) (items_at (inner kind) n first.1)) d e) [
      | inl p ↦ (no_items, omega arith, no_front bytes (broken kind bytes p))
      | inr p ↦
          let more = items_err inner depth d Inner ok broken kind n p.0.1
          (mapped_err (item p.0.0) (items_at (inner kind) n p.0.1) d p.2) in
          (item p.0.0 more.0, omega (arith, more.1), then_front (ok kind bytes p.0 p.1) more.2)
    ]

list_err : (end : ℕ) (inner : Kind → List ℕ → Reads Nbt) (depth : ℕ) (d : NbtFault) (Inner : Kind → List ℕ → Type 0)
    → Spelled inner depth → Broken inner d Inner → (bytes : List ℕ)
    → list_at end inner bytes ≡ Err d → BreaksList end d depth Inner bytes
unfolding list_at
list_err end inner depth d Inner ok broken bytes e =
    elim (bind_err (kind_at end bytes) _ d e) [
      | inl p ↦ inl (kind_err end bytes d p)
      | inr a ↦
          let first = kind_takes end bytes a.0 a.1 in
          elim (bind_err (count_at end a.0.1) _ d a.2) [
            | inl p ↦ inr (inl (a.0.0, then_at first (count_err end a.0.1 d p)))
            | inr b ↦ goes_on a.0.0 a.0.1 first b.0 (count_takes end a.0.1 b.0 b.1) b.2
          ]
    ]
  where
    goes_on : (of : Option Kind) (left : List ℕ) → Takes (IsByte (id_of_items of)) bytes left → (m : ℕ × List ℕ)
        → (n : ℤ) × (natural n ≡ m.0) × Takes (IsInt n) left m.1
        → by_kind of (cond (eqb m.0 0) (gave (list no_items) m.1) (Err (BadLength (end - length left))))
        (λ k. mapped list (items_at (inner k) m.0 m.1)) ≡ Err d
        → BreaksList end d depth Inner bytes
    goes_on None left first m count e =
        elim (chosen (eqb m.0 0) _ _ _ e) [
          | inl p ↦ absurd (ok_never _ d p.1)
          | inr p ↦
              let some : m.0 ≢ 0 = eqb-false m.0 0 p.0 in
              inr (inr (inl (then_at first (
                count.0,
                omega (arith, count.1),
                then_at count.2 tt,
                sym (err_is _ d p.1),
              ))))
        ]
    goes_on (Some kind) left first m count e =
        let ts = items_err inner depth d Inner ok broken kind m.0 m.1
        (mapped_err list (items_at (inner kind) m.0 m.1) d e) in
        inr (inr (inr (kind, count.0, ts.0, omega (arith, ts.1, count.1), then_at first (then_at count.2 ts.2))))

members_err : (end : ℕ) (inner : Kind → List ℕ → Reads Nbt) (depth : ℕ) (d : NbtFault)
    (Inner : Kind → List ℕ → Type 0) → Spelled inner depth → Broken inner d Inner → (fuel : ℕ) (bytes : List ℕ)
    → length bytes ≤ fuel
    → members_at end inner fuel bytes ≡ Err d → BreaksCompound end d depth Inner bytes
unfolding members_at
members_err end inner depth d Inner ok broken zero bytes enough e =
    (no_members, no_front bytes (inl (inl (omega arith, sym (err_is _ d e)))))
members_err end inner depth d Inner ok broken (suc fuel) bytes enough e =
    elim (bind_err (kind_at end bytes) _ d e) [
      | inl p ↦ (no_members, no_front bytes (inl (kind_err end bytes d p)))
      | inr a ↦ goes_on a.0.0 a.0.1 (kind_takes end bytes a.0 a.1)
          (λ b le h. members_err end inner depth d Inner ok broken fuel b le h) a.2
    ]
  where
    goes_on : (of : Option Kind) (left : List ℕ) → Takes (IsByte (id_of_items of)) bytes left
        → ((b : List ℕ) → length b ≤ fuel → members_at end inner fuel b ≡ Err d → BreaksCompound end d depth Inner b)
        → by_kind of (gave no_members left) (λ k. text_at end left >>= λ name. inner k name.1 >>=
        λ first. mapped (member name.0 first.0) (members_at end inner fuel first.1)) ≡ Err d
        → BreaksCompound end d depth Inner bytes
    goes_on None left first more e = absurd (ok_never _ d e)
    goes_on (Some kind) left first more e =
        elim (bind_err (text_at end left) _ d e) [
          | inl p ↦ (no_members, no_front bytes (inr (inl (kind, then_at first (text_err end left d p)))))
          | inr b ↦
              let name = text_takes end left b.0 b.1 in
              elim (bind_err (inner kind b.0.1) _ d b.2) [
                | inl p ↦ (
                  no_members,
                  no_front bytes (inr (inr (kind, b.0.0, then_at first (then_at name (broken kind b.0.1 p))))),
                )
                | inr c ↦
                    let payload = ok kind b.0.1 c.0 c.1 in
                    let shorter : length c.0.1 ≤ fuel = omega (
                      arith,
                      takes_one first,
                      takes_some name,
                      takes_some payload,
                    ) in
                    let others = more c.0.1 shorter
                    (mapped_err (member b.0.0 c.0.0) (members_at end inner fuel c.0.1) d c.2) in
                    let before = then_front (takes_then first (takes_then name payload)) others.1 in
                    let whole = first_as before (λ front is. (kind, second_as (assoc is) (λ rest two. assoc two))) in
                    (member b.0.0 c.0.0 others.0, whole)
              ]
        ]

compound_err : (end : ℕ) (inner : Kind → List ℕ → Reads Nbt) (depth : ℕ) (d : NbtFault)
    (Inner : Kind → List ℕ → Type 0) → Spelled inner depth → Broken inner d Inner → (bytes : List ℕ)
    → compound_at end inner bytes ≡ Err d → BreaksCompound end d depth Inner bytes
unfolding compound_at
compound_err end inner depth d Inner ok broken bytes e =
    members_err end inner depth d Inner ok broken (length bytes) bytes (omega arith)
    (mapped_err compound (members_at end inner (length bytes) bytes) d e)

pub value_err : (end : ℕ) (d : NbtFault) (room depth : ℕ) → depth + room ≡ 513
    → Broken (value_at end room) d (Breaks end d room depth)
unfolding value_at Breaks
value_err end d zero depth deep (kinds.Leaf kind) bytes e = leaf_err end bytes kind d (mapped_err leaf _ d e)
value_err end d zero depth deep kinds.List bytes e = sym (err_is _ d e)
value_err end d zero depth deep kinds.Compound bytes e = sym (err_is _ d e)
value_err end d (suc room) depth deep (kinds.Leaf kind) bytes e = leaf_err end bytes kind d (mapped_err leaf _ d e)
value_err end d (suc room) depth deep kinds.List bytes e =
    list_err end (value_at end room) (suc depth) d (Breaks end d room (suc depth))
    (value_takes end room (suc depth) (omega arith)) (value_err end d room (suc depth) (omega arith)) bytes e
value_err end d (suc room) depth deep kinds.Compound bytes e =
    compound_err end (value_at end room) (suc depth) d (Breaks end d room (suc depth))
    (value_takes end room (suc depth) (omega arith)) (value_err end d room (suc depth) (omega arith)) bytes e

-- ---- the first fault is met

-- at each payload that breaks so, `inner` stops with this fault
abbrev pub Stops : (Kind → List ℕ → Reads Nbt) → NbtFault → (Kind → List ℕ → Type 0) → Type 0
Stops inner d Inner = (kind : Kind) (bytes : List ℕ) → Inner kind bytes → inner kind bytes ≡ Err d

items_break : (inner : Kind → List ℕ → Reads Nbt) (depth : ℕ) (d : NbtFault) (Inner : Kind → List ℕ → Type 0)
    → Reread inner depth → Stops inner d Inner → (kind : Kind) (n : ℕ) (read : Items) (bytes : List ℕ)
    → count_of read < n → (AreItems (Some kind) read depth ▷ Inner kind) bytes → items_at (inner kind) n bytes ≡ Err d
unfolding items_at
items_break inner depth d Inner ih stops kind zero read bytes lt q = absurd (omega arith)
items_break inner depth d Inner ih stops kind (suc n) no_items bytes lt q =
    let same : bytes ≡ q.rest = q.parts ∙ ap (λ (x : List ℕ). x ++ q.rest) q.first in
    ap (items_at (inner kind) (suc n)) same ∙ rw (stops kind q.rest q.second) refl
items_break inner depth d Inner ih stops kind (suc n) (item t ts) bytes lt q =
    let a = assoc q in
    ap (items_at (inner kind) (suc n)) a.parts ∙ rw (
      ih kind t a.front a.rest a.first,
      items_break inner depth d Inner ih stops kind n ts a.rest (omega arith) a.second,
    ) refl

-- the first of the members that are left breaks
member_breaks : (end : ℕ) (inner : Kind → List ℕ → Reads Nbt) (d : NbtFault) (Inner : Kind → List ℕ → Type 0)
    → Stops inner d Inner → (less : ℕ) (bytes : List ℕ) → BreaksMember end d Inner bytes
    → one_member end inner less bytes ≡ Err d
member_breaks end inner d Inner stops less bytes (inl b) = rw (kind_breaks end bytes d b) refl
member_breaks end inner d Inner stops less bytes (inr (inl (kind, q))) =
    ap (one_member end inner less) q.parts ∙ rw (
      kind_again end (Some kind) q.front q.rest q.first,
      text_breaks end q.rest d q.second,
    ) refl
member_breaks end inner d Inner stops less bytes (inr (inr (kind, name, q))) =
    let r = q.second in
    let named : text_at end q.rest ≡ gave name r.rest = ap (text_at end) r.parts
    ∙ text_again end name r.front r.rest r.first in
    ap (one_member end inner less) q.parts ∙ rw (
      kind_again end (Some kind) q.front q.rest q.first,
      named,
      stops kind r.rest r.second,
    ) refl

members_break : (end : ℕ) (inner : Kind → List ℕ → Reads Nbt) (depth : ℕ) (d : NbtFault)
    (Inner : Kind → List ℕ → Type 0) → Reread inner depth → Stops inner d Inner
    → (read : Members) (fuel : ℕ) (bytes : List ℕ)
    → length bytes ≤ fuel → (AreMembers read depth ▷ BreaksMember end d Inner) bytes
    → members_at end inner fuel bytes ≡ Err d
members_break end inner depth d Inner ih stops no_members fuel bytes enough q =
    let same : bytes ≡ q.rest = q.parts ∙ ap (λ (x : List ℕ). x ++ q.rest) q.first in
    let o = opened end inner fuel bytes enough in
    o.read ∙ member_breaks end inner d Inner stops o.less bytes (subst (BreaksMember end d Inner) (sym same) q.second)
members_break end inner depth d Inner ih stops (member name t ms) fuel bytes enough q =
    let kind : Kind = q.first.0 in
    let whole : ((IsByte (id_of kind) ▷ IsText name ▷ Spells kind t depth ▷ AreMembers ms depth) ▷ BreaksMember end d
    Inner) bytes = record {
      front = q.front;
      rest = q.rest;
      parts = q.parts;
      first = q.first.1;
      second = q.second;
    } in
    let a1 = assoc whole in
    let a2 = assoc a1.second in
    let a3 = assoc a2.second in
    let o = opened end inner fuel bytes enough in
    let h1 : kind_at end bytes ≡ gave (Some kind) a1.rest = ap (kind_at end) a1.parts
    ∙ kind_again end (Some kind) a1.front a1.rest a1.first in
    let h2 : text_at end a1.rest ≡ gave name a2.rest = ap (text_at end) a2.parts
    ∙ text_again end name a2.front a2.rest a2.first in
    let h3 : inner kind a2.rest ≡ gave t a3.rest = ap (inner kind) a3.parts ∙ ih kind t a3.front a3.rest a3.first in
    let shorter : length a3.rest < length bytes = omega (
      arith,
      ap length a1.parts,
      ap length a2.parts,
      ap length a3.parts,
      ap length a1.first,
      length-append a1.front a1.rest,
      length-append a2.front a2.rest,
      length-append a3.front a3.rest,
    ) in
    o.read ∙ rw (
      h1,
      h2,
      h3,
      members_break end inner depth d Inner ih stops ms o.less a3.rest (o.enough a3.rest shorter) a3.second,
    ) refl

list_breaks : (end : ℕ) (inner : Kind → List ℕ → Reads Nbt) (depth : ℕ) (d : NbtFault)
    (Inner : Kind → List ℕ → Type 0) → Reread inner depth → Stops inner d Inner → (bytes : List ℕ)
    → BreaksList end d depth Inner bytes → list_at end inner bytes ≡ Err d
unfolding list_at
list_breaks end inner depth d Inner ih stops bytes (inl b) = rw (kind_breaks end bytes d b) refl
list_breaks end inner depth d Inner ih stops bytes (inr (inl (of, q))) =
    ap (list_at end inner) q.parts
    ∙ rw (kind_again end of q.front q.rest q.first, count_short end q.rest d q.second) refl
list_breaks end inner depth d Inner ih stops bytes (inr (inr (inl q))) =
    let n : ℤ = q.second.0 in
    let c = q.second.2 in
    let counted : count_at end q.rest ≡ gave (natural n) c.rest = ap (count_at end) c.parts
    ∙ count_again end n c.front c.rest c.first in
    let some : eqb (natural n) 0 ≡ false = ne_eqb (natural n) 0 (λ e. absurd (omega (arith, e, q.second.1))) in
    ap (list_at end inner) q.parts ∙ rw (kind_again end None q.front q.rest q.first, counted, some)
    (ap failed (sym q.second.3))
list_breaks end inner depth d Inner ih stops bytes (inr (inr (inr (kind, n, read, lt, q)))) =
    let c = q.second in
    let counted : count_at end q.rest ≡ gave (natural n) c.rest = ap (count_at end) c.parts
    ∙ count_again end n c.front c.rest c.first in
    ap (list_at end inner) q.parts ∙ rw (
      kind_again end (Some kind) q.front q.rest q.first,
      counted,
      items_break inner depth d Inner ih stops kind (natural n) read c.rest lt c.second,
    ) refl

compound_breaks : (end : ℕ) (inner : Kind → List ℕ → Reads Nbt) (depth : ℕ) (d : NbtFault)
    (Inner : Kind → List ℕ → Type 0) → Reread inner depth → Stops inner d Inner → (bytes : List ℕ)
    → BreaksCompound end d depth Inner bytes → compound_at end inner bytes ≡ Err d
unfolding compound_at
compound_breaks end inner depth d Inner ih stops bytes b = ap (mapped compound)
    (members_break end inner depth d Inner ih stops b.0 (length bytes) bytes (omega arith) b.1)

pub value_breaks : (end : ℕ) (d : NbtFault) (room depth : ℕ) → depth + room ≡ 513
    → Stops (value_at end room) d (Breaks end d room depth)
unfolding value_at Breaks
value_breaks end d zero depth deep (kinds.Leaf kind) bytes b = ap (mapped leaf) (leaf_breaks end bytes kind d b)
value_breaks end d zero depth deep kinds.List bytes b = ap failed (sym b)
value_breaks end d zero depth deep kinds.Compound bytes b = ap failed (sym b)
value_breaks end d (suc room) depth deep (kinds.Leaf kind) bytes b = ap (mapped leaf) (leaf_breaks end bytes kind d b)
value_breaks end d (suc room) depth deep kinds.List bytes b =
    list_breaks end (value_at end room) (suc depth) d (Breaks end d room (suc depth))
    (value_again end room (suc depth) (omega arith)) (value_breaks end d room (suc depth) (omega arith)) bytes b
value_breaks end d (suc room) depth deep kinds.Compound bytes b =
    compound_breaks end (value_at end room) (suc depth) d (Breaks end d room (suc depth))
    (value_again end room (suc depth) (omega arith)) (value_breaks end d room (suc depth) (omega arith)) bytes b
