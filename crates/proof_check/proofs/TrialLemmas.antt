-- What a trial has heard, line after line.
use Rattle.std.proofs.Common.{◌≡◌, ℕ, ◌+◌, ◌^◌, ◌<◌, ◌≤◌, List, [], ◌∷◌, ◌++◌, length, refl, sym, ap, subst, ◌∙◌}
use Rattle.std.proofs.Common.{arith, append_assoc, length-append}
use Rattle.std.specs.Prelude.{Bool, true, false, MatchBool, None, flat_map, decimal}
use Rattle.std.proofs.lemmas.Grind.{flat_map-append}
use Rattle.std.proofs.lemmas.List.{append-nil}
use Rattle.std.proofs.lemmas.List.Elements.{All-nil, All-cons, All-append, Contains-append_left, Contains-push}
use Rattle.proof_rules.specs.Text.{ended}
use Rattle.cave_model.specs.Cave.{Cave}
use Rattle.cave_model.specs.Regions.{all_cells}
use Rattle.certificate_lines.specs.Held as held
use Rattle.certificate_lines.specs.Held.{HeldText, Holds, TakesLine, EndsPiece}
use Rattle.certificate_lines.specs.Kinds.{word_of}
use Rattle.certificate_lines.specs.Numbers.{numbers_text}
use Rattle.certificate_lines.specs.Said.{Said, said, AreSaid}
use Rattle.certificate_lines.proofs.Pushing.{going}
use Rattle.certificate_lines.proofs.SaidLemmas.{said_many}
use Rattle.certificate_lines.specs.declared.kind.LineKind.{LineKind}
use Rattle.certificate_lines.specs.declared.kind.LineKind.TheVariants as kind
use Rattle.proof_check.specs.Heard.{part_if, is_dark_line, is_torch_line, torch_parts, Hears}
use Rattle.proof_check.specs.Kept.{IsWide}
use Rattle.node_judges.specs.Tests.{AreAscending}
use Rattle.proof_check.specs.Tried.{AgreesOn, AgreesWithSaid, Differs, IsHeard, Follows, Tried, HasRoom, IsBehind}
use Rattle.proof_check.specs.Tried.{Catches}
use Rattle.proof_check.specs.Tried.{HearsTo, HearsAll, torches_on}
use Rattle.proof_check.specs.declared.judge.Judge.{Judge}
use Rattle.proof_check.specs.declared.trial.Trial.{Trial}
use Rattle.proof_check.proofs.HearLemmas.{flat_push}

-- ---- how much the lines say

-- numbers are at most as many as the bytes of their text
numbers_long : (numbers : List ℕ) → length numbers ≤ length (numbers_text numbers)
numbers_long [] = omega arith
numbers_long (n ∷ ns) = omega (arith, numbers_long ns, length-append (decimal n) (numbers_text ns))

-- a line adds at most its own numbers to the lists
part_length : (b : Bool) (ns : List ℕ) (more : List (List ℕ))
    → length (all_cells (part_if b ns ++ more)) ≤ length ns + length (all_cells more)
part_length true ns more = omega (arith, length-append ns (all_cells more))
part_length false ns more = omega arith

-- the torches listed so far are at most as many as the bytes of the lines
parts_fit : (lines : List (List ℕ)) (all : List Said) → AreSaid lines all
    → length (all_cells (torch_parts all)) ≤ length (ended lines)
parts_fit [] [] a = omega arith
parts_fit [] (s ∷ all) a = absurd a
parts_fit (t ∷ ts) [] a = absurd a
parts_fit (t ∷ ts) (s ∷ all) a = omega (
  arith,
  parts_fit ts all a.1,
  part_length (is_torch_line s.kind) s.numbers (torch_parts all),
  ap length a.0.is,
  length-append (word_of s.kind) (numbers_text s.numbers),
  numbers_long s.numbers,
  length-append (t ++ 10 ∷ []) (ended ts),
  length-append t (10 ∷ []),
)

-- a line adds at most one list
part_few : (b : Bool) (ns : List ℕ) (more : List (List ℕ)) → length (part_if b ns ++ more) ≤ 1 + length more
part_few true ns more = omega arith
part_few false ns more = omega arith

-- there are at most as many lists as lines
parts_few : (is : LineKind → Bool) (all : List Said)
    → length (flat_map (λ s. part_if (is s.kind) s.numbers) all) ≤ length all
parts_few is [] = omega arith
parts_few is (s ∷ all) = omega
    (arith, parts_few is all, part_few (is s.kind) s.numbers (flat_map (λ s. part_if (is s.kind) s.numbers) all))

-- ---- lines taken

-- with no misfit each line was taken
pub taken_many : (bytes : List ℕ) (all : List Said) (kept : HeldText) → kept.misfit ≡ None → Holds bytes all kept
    → kept.taken ≡ length all
taken_many bytes all kept e h =
    (let g = going bytes all kept e h in g.walked.counted ∙ said_many g.walked.before all g.says)

-- lines taken are at most as many as bytes
taken_few : (bytes : List ℕ) (all : List Said) (kept : HeldText) → kept.misfit ≡ None → Holds bytes all kept
    → kept.taken ≤ length bytes
taken_few bytes all kept e h = (let g = going bytes all kept e h in let w = g.walked.within in omega arith)

-- torches listed are at most as many as bytes
torches_fit : (bytes : List ℕ) (all : List Said) (kept : HeldText) → kept.misfit ≡ None → Holds bytes all kept
    → length (all_cells (torch_parts all)) ≤ length bytes
torches_fit bytes all kept e h =
    let g = going bytes all kept e h in
    omega (
      arith,
      parts_fit g.walked.before all g.says,
      ap length g.walked.parts,
      length-append (ended g.walked.before) kept.last,
    )

-- the torches of a line are those that it is counted with
on_length : (k : LineKind) (ns : List ℕ) → length (all_cells (part_if (is_torch_line k) ns)) ≡ torches_on k ns
on_length kind.Version ns = refl
on_length kind.Size ns = refl
on_length kind.Headroom ns = refl
on_length kind.Need ns = refl
on_length kind.Regions ns = refl
on_length kind.Region ns = refl
on_length kind.Dark ns = refl
on_length kind.Torches ns = ap length (append-nil ns)
on_length kind.Leaf ns = refl
on_length kind.Branch ns = refl
on_length kind.Bar ns = refl
on_length kind.Weighted ns = refl
on_length kind.Group ns = refl
on_length kind.Omit ns = refl
on_length kind.Pick ns = refl
on_length kind.End ns = refl

-- a line more adds its torches to the number
torches_push : (all : List Said) (k : LineKind) (ns : List ℕ)
    → length (all_cells (torch_parts (all ++ said k ns ∷ []))) ≡ length (all_cells (torch_parts all)) + torches_on k ns
torches_push all k ns =
    let e = ap (λ (p : List (List ℕ)). length (all_cells p))
    (flat_push (λ s. part_if (is_torch_line s.kind) s.numbers) all (said k ns)) in
    let f = ap length (flat_map-append (λ (cells : List ℕ). cells) (torch_parts all) (part_if (is_torch_line k) ns)) in
    omega (
      arith,
      e,
      f,
      length-append (all_cells (torch_parts all)) (all_cells (part_if (is_torch_line k) ns)),
      on_length k ns,
    )

-- ---- before a line is heard

module _ (cave : Cave) (t : Trial) (k : LineKind) (b : IsBehind cave t k) (same : t.differs ≡ false) where
  heard : IsHeard cave t.judge t.torches b.all
  heard = subst (λ (d : Bool). MatchBool d (Differs cave b.all) (IsHeard cave t.judge t.torches b.all)) same b.follows

  few : length b.all + 1 < 2 ^ 64
  few = omega (
    arith,
    taken_many b.bytes (b.all ++ said k t.pieces.numbers ∷ []) t.pieces b.going b.holds,
    taken_few b.bytes (b.all ++ said k t.pieces.numbers ∷ []) t.pieces b.going b.holds,
    length-append b.all (said k t.pieces.numbers ∷ []),
    b.fits,
  )

  -- the judge's tallies are as wide as the box
  pub behind_wide : IsWide t.judge.lists t.judge.nodes
  behind_wide = heard.after.wide

  -- the places of each cell ascend
  pub behind_ascending : AreAscending t.judge.lists
  behind_ascending = record { each = heard.after.known.ascending }

  -- there is room for a list of torches more
  pub behind_torches : t.judge.torches.count + 1 < 2 ^ 64
  behind_torches = omega (arith, heard.after.torches.counted, parts_few is_torch_line b.all, few)

  -- and for a region more
  pub behind_regions : t.judge.regions.count + 1 < 2 ^ 64
  behind_regions = omega (arith, heard.after.regions.counted, parts_few is_dark_line b.all, few)

  -- and for the torches of a line more
  pub behind_sum : t.torches + torches_on k t.pieces.numbers < 2 ^ 64
  behind_sum = omega (
    arith,
    heard.counted,
    torches_push b.all k t.pieces.numbers,
    torches_fit b.bytes (b.all ++ said k t.pieces.numbers ∷ []) t.pieces b.going b.holds,
    b.fits,
  )

-- ---- a line is heard

-- what differs from the cave still differs after a line more
differs_more : (cave : Cave) (all : List Said) (s : Said) → Differs cave all → Differs cave (all ++ s ∷ [])
differs_more cave all s d = record {
  line = d.line;
  there = Contains-append_left all (s ∷ []) d.line d.there;
  other = d.other;
}

-- once something differs, nothing more is heard
pub catches_differing : (cave : Cave) (k : LineKind) (t : Trial) → t.differs ≡ true → Catches cave k t t
catches_differing cave k t e = record {
  each = λ all n f.
      let d = subst (λ (d : Bool). MatchBool d (Differs cave all) (IsHeard cave t.judge t.torches all)) e f in
      subst (λ (d : Bool). MatchBool d (Differs cave (all ++ said k t.pieces.numbers ∷ []))
      (IsHeard cave t.judge t.torches (all ++ said k t.pieces.numbers ∷ []))) (sym e)
      (differs_more cave all (said k t.pieces.numbers) d);
}

-- a line that differs from the cave is caught
pub catches_other : (cave : Cave) (k : LineKind) (old new : Trial) → new.differs ≡ true
    → (¬ AgreesOn cave k old.pieces.numbers) → Catches cave k old new
catches_other cave k old new e no_other = record {
  each = λ all n f.
      subst (λ (d : Bool). MatchBool d (Differs cave (all ++ said k old.pieces.numbers ∷ []))
      (IsHeard cave new.judge new.torches (all ++ said k old.pieces.numbers ∷ []))) (sym e)
      (record {
        line = said k old.pieces.numbers;
        there = Contains-push all (said k old.pieces.numbers);
        other = no_other;
      });
}

-- a line that agrees is heard by the judge, and its torches are counted
pub catches_line : (cave : Cave) (k : LineKind) (line : ℕ) (old new : Trial) → old.differs ≡ false → new.differs ≡ false
    → AgreesOn cave k old.pieces.numbers → new.torches ≡ old.torches + torches_on k old.pieces.numbers
    → line ≡ old.pieces.taken
    → Hears k old.pieces.numbers line old.judge new.judge → Catches cave k old new
catches_line cave k line old new e g agrees sum_is at hears = record {
  each = λ all n f.
      let h = subst (λ (d : Bool). MatchBool d (Differs cave all) (IsHeard cave old.judge old.torches all)) e f in
      subst (λ (d : Bool). MatchBool d (Differs cave (all ++ said k old.pieces.numbers ∷ []))
      (IsHeard cave new.judge new.torches (all ++ said k old.pieces.numbers ∷ []))) (sym g)
      (record {
        agrees = All-append (AgreesWithSaid cave) all
            (said k old.pieces.numbers ∷ []) h.agrees
            (All-cons (AgreesWithSaid cave) (said k old.pieces.numbers) [] agrees
            (All-nil (AgreesWithSaid cave)));
        after = hears.each cave all h.after (at ∙ n);
        counted = (let c = h.counted in omega (arith, torches_push all k old.pieces.numbers));
      });
}

-- ---- pieces

-- the same judge, flag and number follow the same lines
follows_same : (cave : Cave) (old new : Trial) (all : List Said) → new.judge ≡ old.judge → new.differs ≡ old.differs
    → new.torches ≡ old.torches → Follows cave old all → Follows cave new all
follows_same cave old new all e f g h =
    subst (λ (d : Bool). MatchBool d (Differs cave all) (IsHeard cave new.judge new.torches all)) (sym f)
    (subst (λ (j : Judge). MatchBool old.differs (Differs cave all) (IsHeard cave j new.torches all)) (sym e)
    (subst (λ (n : ℕ). MatchBool old.differs (Differs cave all) (IsHeard cave old.judge n all)) (sym g) h))

-- a piece in which no line ends changes the pieces alone
pub ends_piece : (cave : Cave) (piece : List ℕ) (old new : Trial) → new.judge ≡ old.judge → new.differs ≡ old.differs
    → new.torches ≡ old.torches → EndsPiece piece old.pieces new.pieces → HearsAll cave piece old new
ends_piece cave piece old new e f g ends = record {
  each = λ bytes t. record {
    all = t.all;
    holds = ends.each bytes t.all t.holds;
    follows = follows_same cave old new t.all e f g t.follows;
  };
}

-- a line that was just taken is one that the judge hasn't heard yet
pub is_behind : (cave : Cave) (piece after : List ℕ) (k : LineKind) (old mid : Trial) → HasRoom cave old (length piece)
    → mid.judge ≡ old.judge → mid.differs ≡ old.differs → mid.torches ≡ old.torches
    → TakesLine piece after k old.pieces mid.pieces → IsBehind cave mid k
is_behind cave piece after k old mid r e f g takes = record {
  bytes = r.bytes ++ takes.front;
  all = r.tried.all;
  holds = takes.each r.bytes r.tried.all r.tried.holds;
  follows = follows_same cave old mid r.tried.all e f g r.tried.follows;
  fits = omega (
    arith,
    r.room,
    ap length takes.parts,
    length-append takes.front after,
    length-append r.bytes takes.front,
  );
  going = takes.going;
}

-- the line taken from a piece was heard
pub hears_to : (cave : Cave) (piece after : List ℕ) (k : LineKind) (old mid new : Trial) → mid.judge ≡ old.judge
    → mid.differs ≡ old.differs → mid.torches ≡ old.torches → TakesLine piece after k old.pieces mid.pieces
    → new.pieces ≡ mid.pieces → Catches cave k mid new → HearsTo cave piece after old new
hears_to cave piece after k old mid new e f g takes same catches = record {
  front = takes.front;
  parts = takes.parts;
  some = takes.some;
  each = λ bytes t.
      let h = takes.each bytes t.all t.holds in
      let n : mid.pieces.taken ≡ length t.all + 1 = taken_many (bytes ++ takes.front)
      (t.all ++ said k mid.pieces.numbers ∷ []) mid.pieces takes.going h
      ∙ length-append t.all (said k mid.pieces.numbers ∷ []) in
      record {
        all = t.all ++ said k mid.pieces.numbers ∷ [];
        holds = subst (Holds (bytes ++ takes.front) (t.all ++ said k mid.pieces.numbers ∷ [])) (sym same) h;
        follows = catches.each t.all n (follows_same cave old mid t.all e f g t.follows);
      };
}

-- where there is room for bytes, the pieces have it too
pub held_room : (cave : Cave) (t : Trial) (more : ℕ) → HasRoom cave t more → held.HasRoom t.pieces more
held_room cave t more r = record {
  bytes = r.bytes;
  all = r.tried.all;
  holds = r.tried.holds;
  room = r.room;
}

-- ---- a whole piece

-- the front of a piece was heard
pub record Hearing (cave : Cave) (piece : List ℕ) (old now : Trial) (rest : List ℕ) : Type 0 where
  pub front : List ℕ
  pub parts : piece ≡ front ++ rest
  pub each : (bytes : List ℕ) → Tried cave bytes old → Tried cave (bytes ++ front) now

-- the room for a piece leaves room for its rest
pub hearing_room : (cave : Cave) (piece : List ℕ) (old now : Trial) (rest : List ℕ) → HasRoom cave old (length piece)
    → Hearing cave piece old now rest → HasRoom cave now (length rest)
hearing_room cave piece old now rest r h = record {
  bytes = r.bytes ++ h.front;
  tried = h.each r.bytes r.tried;
  room = omega (arith, r.room, ap length h.parts, length-append h.front rest, length-append r.bytes h.front);
}

-- the next line of a piece was heard too
pub hearing_more : (cave : Cave) (piece : List ℕ) (old now new : Trial) (rest after : List ℕ)
    → Hearing cave piece old now rest → HearsTo cave rest after now new → Hearing cave piece old new after
hearing_more cave piece old now new rest after h to = record {
  front = h.front ++ to.front;
  parts = h.parts ∙ ap (λ (l : List ℕ). h.front ++ l) to.parts ∙ sym (append_assoc h.front to.front after);
  each = λ bytes t. subst (λ (b : List ℕ). Tried cave b new) (append_assoc bytes h.front to.front)
      (to.each (bytes ++ h.front) (h.each bytes t));
}

-- and so was the whole piece, where no line ends in its rest
pub hearing_all : (cave : Cave) (piece : List ℕ) (old now new : Trial) (rest : List ℕ)
    → Hearing cave piece old now rest → HearsAll cave rest now new → HearsAll cave piece old new
hearing_all cave piece old now new rest h all = record {
  each = λ bytes t. subst (λ (b : List ℕ). Tried cave b new)
      (append_assoc bytes h.front rest ∙ ap (λ (l : List ℕ). bytes ++ l) (sym h.parts))
      (all.each (bytes ++ h.front) (h.each bytes t));
}
