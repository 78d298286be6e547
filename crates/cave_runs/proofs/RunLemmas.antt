-- Why a run is refused, from why its parts are, and a run that writes one text.
use Rattle.std.proofs.Common.{◌≡◌, ◌≢◌, ℕ, ◌<◌, ◌≤◌, List, length, Option, Some, None, Result, Ok, Err, refl, sym, ap}
use Rattle.std.proofs.Common.{subst, ◌∙◌, ◌⊎◌, inl, inr, arith}
use Rattle.std.specs.Prelude.{IfErr, IfSome, OnErr, OnOk}
use Rattle.std.proofs.KnownBytes.{Keeps-refl}
use Rattle.cave_reading.specs.Bytes as caves
use Rattle.cave_reading.specs.declared.cave_fault.CaveFault.{CaveFault}
use Rattle.cave_reading.specs.declared.cave_fault.CaveFault.TheVariants as cave
use Rattle.proof_check.specs.Reading.{GivesAtMost}
use Rattle.cave_runs.specs.Faults.{run_fault_of}
use Rattle.cave_runs.specs.Limits.{structure_limit}
use Rattle.cave_runs.specs.Runs.{IsFaultOfBytes}
use Rattle.cave_runs.specs.Streams.{Stream, Takes, TakesFront, stream}
use Rattle.cave_runs.specs.TextRuns.{BeginsText, IsOfBytes, IsOfInput, IsRunOfText, WritesText}
use Rattle.cave_runs.specs.declared.fault.Input.TheVariants.{StructureInput}
use Rattle.cave_runs.specs.declared.fault.RunFault.{RunFault}
use Rattle.cave_runs.specs.declared.fault.RunFault.TheVariants as faults

-- a fault of the cave is one of the bytes
pub cave_fault : (bytes : List ℕ) (table : Option (List ℕ)) (e : CaveFault)
    → (e ≢ cave.OutOfMemory → caves.IsFaultOfBytes bytes table e) → run_fault_of e ≢ faults.OutOfMemory
    → IsFaultOfBytes bytes table (run_fault_of e)
cave_fault bytes table cave.OutOfMemory told other = absurd (other refl)
cave_fault bytes table (cave.Scan f) told other = (cave.Scan f, told (λ same. cc), refl)
cave_fault bytes table (cave.Table f) told other = (cave.Table f, told (λ same. cc), refl)
cave_fault bytes table (cave.Build f) told other = (cave.Build f, told (λ same. cc), refl)

-- where the cave is refused, a fault that is due is answered, or memory was refused
pub cave_refused : (bytes : List ℕ) (table : Option (List ℕ)) (e : CaveFault)
    → ((f : CaveFault) → caves.IsFaultOfBytes bytes table f → (e ≡ f) ⊎ (e ≡ cave.OutOfMemory))
    → (due : RunFault) → IsFaultOfBytes bytes table due → (run_fault_of e ≡ due) ⊎ (run_fault_of e ≡ faults.OutOfMemory)
cave_refused bytes table e refused due (inner, is, same) = elim (refused inner is) [
  | inl e ↦ inl (ap run_fault_of e ∙ sym same)
  | inr none ↦ inr (ap run_fault_of none)
]

-- where there is a cave, no fault is due
pub cave_clean : (bytes : List ℕ) (table : Option (List ℕ))
    → ((f : CaveFault) → caves.IsFaultOfBytes bytes table f → ⊥) → (due : RunFault) → IsFaultOfBytes bytes table due → ⊥
cave_clean bytes table clean due (inner, is, same) = clean inner is

-- what is said of the bytes that were read, said of those that the reader had
pub input_fault : (Inner : List ℕ → RunFault → Type 0) (known : Option (List ℕ)) (bytes : List ℕ) (e : RunFault)
    → IfSome known (λ b. bytes ≡ b) → length bytes ≤ structure_limit → Inner bytes e
    → IfSome known (λ b. IsOfBytes Inner b e)
input_fault Inner None bytes e same within fault = tt
input_fault Inner (Some b) bytes e same within fault =
    subst (λ (x : List ℕ). IsOfBytes Inner x e) same (inr (within, fault))

-- a fault that is due to an input within the limit is one of its bytes
within_limit : (Inner : List ℕ → RunFault → Type 0) (bytes : List ℕ) (due : RunFault) → length bytes ≤ structure_limit
    → IsOfBytes Inner bytes due → Inner bytes due
within_limit Inner bytes due within (inl long) = absurd (omega (arith, long.0))
within_limit Inner bytes due within (inr fault) = fault.1

-- what the bytes' faults meet, those of the input meet
pub input_refused : (Inner : List ℕ → RunFault → Type 0) (known : Option (List ℕ)) (bytes : List ℕ)
    (Met : RunFault → Type 0) → IfSome known (λ b. bytes ≡ b) → length bytes ≤ structure_limit
    → ((due : RunFault) → Inner bytes due → Met due)
    → IfSome known (λ b. (due : RunFault) → IsOfBytes Inner b due → Met due)
input_refused Inner None bytes Met same within met = tt
input_refused Inner (Some b) bytes Met same within met =
    λ due fault. met due (within_limit Inner bytes due within
    (subst (λ (x : List ℕ). IsOfBytes Inner x due) (sym same) fault))

-- what holds of the bytes that were read holds of those that the reader had
known_too : (Holds : List ℕ → Type 0) (known : Option (List ℕ)) (bytes : List ℕ) → IfSome known (λ b. bytes ≡ b)
    → Holds bytes → IfSome known Holds
known_too Holds None bytes same h = tt
known_too Holds (Some b) bytes same h = subst Holds same h

-- a refusal without streams is one with them
pub widened : (e due : RunFault) → (e ≡ due) ⊎ (e ≡ faults.OutOfMemory)
    → (e ≡ due) ⊎ (e ≡ faults.ReadFailed) ⊎ (e ≡ faults.OutOfMemory)
widened e due (inl same) = inl same
widened e due (inr none) = inr (inr none)

-- ---- an input that wasn't read

-- why it wasn't
abbrev pub IsNotRead : RunFault → Type 0
IsNotRead e = (e ≡ faults.ReadFailed) ⊎ (e ≡ faults.TooLong StructureInput) ⊎ (e ≡ faults.OutOfMemory)

-- too long is what has more bytes than the limit
abbrev pub IsTooLong : Option (List ℕ) → RunFault → Type 0
IsTooLong known e = e ≡ faults.TooLong StructureInput → IfSome known (λ bytes. structure_limit < length bytes)

-- no write failed
pub unwritten : (e : RunFault) → IsNotRead e → e ≡ faults.WriteFailed → ⊥
unwritten e (inl failed) is = (let both : faults.ReadFailed ≡ faults.WriteFailed = sym failed ∙ is in cc)
unwritten e (inr (inl long)) is =
    (let both : faults.TooLong StructureInput ≡ faults.WriteFailed = sym long ∙ is in cc)
unwritten e (inr (inr none)) is = (let both : faults.OutOfMemory ≡ faults.WriteFailed = sym none ∙ is in cc)

-- a fault of the input is that it is too long
pub long_input : (Inner : List ℕ → RunFault → Type 0) (known : Option (List ℕ)) (e : RunFault) → IsNotRead e
    → IsTooLong known e → IsOfInput e → IfSome known (λ bytes. IsOfBytes Inner bytes e)
long_input Inner None e not_read long of = tt
long_input Inner (Some bytes) e (inl failed) long of = absurd (of.0 failed)
long_input Inner (Some bytes) e (inr (inl is)) long of = inl (long is, is)
long_input Inner (Some bytes) e (inr (inr none)) long of = absurd (of.2 none)

-- what is due to an input that is too long is just this
due_long : (Inner : List ℕ → RunFault → Type 0) (bytes : List ℕ) (e due : RunFault)
    → e ≡ faults.TooLong StructureInput → structure_limit < length bytes → IsOfBytes Inner bytes due → e ≡ due
due_long Inner bytes e due is more (inl long) = is ∙ sym long.1
due_long Inner bytes e due is more (inr within) = absurd (omega (arith, within.0))

-- what that, a failed read and refused memory meet, all faults that are due meet
pub long_refused : (Inner : List ℕ → RunFault → Type 0) (Met : RunFault → Type 0) (known : Option (List ℕ))
    (e : RunFault) → IsNotRead e → IsTooLong known e → ((due : RunFault) → e ≡ due → Met due)
    → (e ≡ faults.ReadFailed → (due : RunFault) → Met due) → (e ≡ faults.OutOfMemory → (due : RunFault) → Met due)
    → IfSome known (λ bytes. (due : RunFault) → IsOfBytes Inner bytes due → Met due)
long_refused Inner Met None e not_read long same failed none = tt
long_refused Inner Met (Some bytes) e (inl is) long same failed none = λ due of. failed is due
long_refused Inner Met (Some bytes) e (inr (inl is)) long same failed none =
    λ due of. same due (due_long Inner bytes e due is (long is) of)
long_refused Inner Met (Some bytes) e (inr (inr is)) long same failed none = λ due of. none is due

-- ---- faults of the bytes

-- no fault of a cave is a failed write
pub never_written : (e : CaveFault) → run_fault_of e ≡ faults.WriteFailed → ⊥
never_written (cave.Scan f) is = cc
never_written (cave.Table f) is = cc
never_written (cave.Build f) is = cc
never_written cave.OutOfMemory is = cc

-- nor is one of the bytes
pub bytes_unwritten : (bytes : List ℕ) (table : Option (List ℕ)) (e : RunFault) → IsFaultOfBytes bytes table e
    → e ≡ faults.WriteFailed → ⊥
bytes_unwritten bytes table e (inner, of, same) is = never_written inner (sym same ∙ is)

-- ---- a run that writes one text

module _ (IsText : List ℕ → List ℕ → Type 0) (IsFault : List ℕ → RunFault → Type 0) (structure : Stream) where
  -- a run whose input wasn't read
  pub text_unread : (e : RunFault) (held : Option (List ℕ)) → IsNotRead e → IsTooLong structure.before e
      → (e ≡ faults.ReadFailed → GivesAtMost structure_limit structure.before structure.after)
      → IsRunOfText IsText IsFault structure (Err e) (stream held held)
  text_unread e held not_read long before = record {
    done = tt;
    untouched = λ other. Keeps-refl held;
    begun = λ failed. absurd (unwritten e not_read failed);
    fault = λ of. long_input IsFault structure.before e not_read long of;
    refused = long_refused IsFault (λ due. (e ≡ due) ⊎ (e ≡ faults.ReadFailed) ⊎ (e ≡ faults.OutOfMemory))
        structure.before e not_read long (λ due same. inl same) (λ failed due. inr (inl failed))
        (λ none due. inr (inr none));
    before = before;
  }

  module _ (bytes : List ℕ) (same : IfSome structure.before (λ b. bytes ≡ b)) (within : length bytes ≤ structure_limit)
      (ended : GivesAtMost structure_limit structure.before structure.after) where
    -- one whose input has a fault
    pub text_refused : (e : RunFault) (held : Option (List ℕ)) → (e ≢ faults.OutOfMemory → IsFault bytes e)
        → (IsFault bytes e → e ≡ faults.WriteFailed → ⊥)
        → ((due : RunFault) → IsFault bytes due → (e ≡ due) ⊎ (e ≡ faults.OutOfMemory))
        → IsRunOfText IsText IsFault structure (Err e) (stream held held)
    text_refused e held told other_fault refused = record {
      done = tt;
      untouched = λ other. Keeps-refl held;
      begun = λ failed. absurd (other_fault (told
          (λ none. (let both : faults.WriteFailed ≡ faults.OutOfMemory = sym failed ∙ none in cc))) failed);
      fault = λ of. input_fault IsFault structure.before bytes e same within (told of.2);
      refused = input_refused IsFault structure.before bytes
          (λ due. (e ≡ due) ⊎ (e ≡ faults.ReadFailed) ⊎ (e ≡ faults.OutOfMemory)) same within
          (λ due of. widened e due (refused due of));
      before = λ failed. ended;
    }

    -- one that ends with the write of its text
    pub text_ended : (text : List ℕ) (r : Result (Unit {0}) RunFault) (writer : Stream) → IsText bytes text
        → ((due : RunFault) → IsFault bytes due → ⊥) → OnOk r (Takes writer text)
        → IfErr r (λ e. e ≡ faults.WriteFailed) → OnErr r (TakesFront writer text)
        → IsRunOfText IsText IsFault structure r writer
    text_ended text (Ok u) writer is clean written kind front = record {
      done = known_too (λ b. WritesText (IsText b) writer) structure.before bytes same (text, is, written);
      untouched = tt;
      begun = tt;
      fault = tt;
      refused = input_refused IsFault structure.before bytes (λ due. ⊥) same within clean;
      before = tt;
    }
    text_ended text (Err e) writer is clean written kind front = record {
      done = tt;
      untouched = λ other. absurd (other kind);
      begun = λ failed. known_too (λ b. BeginsText (IsText b) writer) structure.before bytes same (text, is, front);
      fault = λ of. absurd (of.1 kind);
      refused = input_refused IsFault structure.before bytes
          (λ due. (e ≡ due) ⊎ (e ≡ faults.ReadFailed) ⊎ (e ≡ faults.OutOfMemory)) same within
          (λ due of. absurd (clean due of));
      before = λ failed. ended;
    }
