-- What a plan writes, and what its faults leave.
use Rattle.std.proofs.Common.{◌≡◌, ◌≢◌, ℕ, ◌<◌, ◌≤◌, List, [], length, map, Contains, Option}
use Rattle.std.proofs.Common.{Some, None, Result, Ok, Err, refl, sym, ap, subst, ◌∙◌, ◌⊎◌, inl, inr, arith}
use Rattle.std.specs.Prelude.{IfErr, IfOk, IfSome, OnErr, OnOk}
use Rattle.std.specs.List.Sorted.{IsStrictlyIncreasing}
use Rattle.std.proofs.KnownBytes.{Keeps-refl}
use Rattle.std.proofs.lemmas.List.{append-nil}
use Rattle.cave_base.specs.Box.{coordinates}
use Rattle.cave_reading.specs.Bytes as caves
use Rattle.cave_reading.specs.Bytes.{IsCaveOfBytes}
use Rattle.cave_model.specs.Cave.{Cave}
use Rattle.cave_model.specs.Listing.{ListsAll}
use Rattle.cave_model.specs.Rule.{Rule}
use Rattle.cave_reading.specs.declared.cave_fault.CaveFault.{CaveFault}
use Rattle.cave_reading.specs.declared.cave_fault.CaveFault.TheVariants as cave_faults
use Rattle.certificate_text.specs.Planned.{Plan, certificate_of, certificate_text}
use Rattle.certificate_text.specs.declared.fault.WriteFault.{WriteFault}
use Rattle.certificate_text.specs.declared.fault.WriteFault.TheVariants as writing
use Rattle.certificate_text.proofs.SentLemmas.{part_none}
use Rattle.certificate_text.proofs.WritingLemmas.{none_taken}
use Rattle.cave_plan.proofs.AcceptedLemmas.{accepted, best_are_bounded, part_of, section_leasts, section_torches}
use Rattle.cave_plan.proofs.PartLemmas.{same_number}
use Rattle.cave_plan.proofs.VersionLemmas.{in_least_version}
use Rattle.cave_plan.specs.Faults.{NamesUnlightable, unlightable_at}
use Rattle.cave_plan.specs.Outline.{IsPlanned, IsStoppedAt, Prints}
use Rattle.cave_plan.specs.declared.fault.PlanFault.{PlanFault}
use Rattle.cave_plan.specs.declared.fault.PlanFault.TheVariants as plan
use Rattle.proof_check.specs.Reading.{GivesAtMost}
use Rattle.search_traits.specs.declared.planner.Allowance.{Allowance}
use Rattle.cave_runs.specs.Faults.{run_fault_of, of_plan, of_write}
use Rattle.cave_runs.specs.Limits.{structure_limit}
use Rattle.cave_runs.specs.PlanRuns.{WritesBest, EndsIn, Plans, BeginsTexts, BeginsPlan, Leaves}
use Rattle.cave_runs.specs.PlanRuns.{LeavesIn, LeavesProved, NamesUnlit, IsNoPlan, IsNoPlanOfInput}
use Rattle.cave_runs.specs.RunOfPlan.{IsRunOfPlan}
use Rattle.cave_runs.specs.Streams.{Inputs, Outputs, Stream, Takes, TakesFront, TakesPart, outputs, stream}
use Rattle.cave_runs.specs.TextRuns.{IsOfInput}
use Rattle.cave_runs.proofs.RunLemmas.{IsNotRead, IsTooLong, bytes_unwritten, cave_refused, cave_clean, long_input}
use Rattle.cave_runs.proofs.RunLemmas.{long_refused, unwritten, widened}
use Rattle.cave_runs.specs.declared.fault.Input.TheVariants.{StructureInput}
use Rattle.cave_runs.specs.declared.fault.RunFault.{RunFault}
use Rattle.cave_runs.specs.declared.fault.RunFault.TheVariants as faults
use Rattle.cave_runs.specs.declared.plan.Outcome.{Outcome}

-- ---- what is written

pub writes_best : (cave : Cave) (text : List ℕ) (plans : List Plan) (out : Outputs)
    → IsPlanned cave text plans
    → Takes out.text text → Takes out.proof (certificate_text cave plans)
    → WritesBest cave out
writes_best cave text plans out is written proved = record {
  torches = is.torches;
  safe = is.safe;
  best = is.best;
  text = text;
  prints = is.prints;
  written = written;
  proof = certificate_text cave plans;
  certificate = certificate_of cave plans;
  accepted = accepted cave plans is.world is.plans_are;
  ordered = subst IsStrictlyIncreasing (sym (section_leasts plans)) is.ordered;
  versioned = in_least_version cave plans;
  same = is.of_plans.exact;
  number = same_number cave (map part_of plans) is.torches (best_are_bounded cave plans is.plans_are)
      (subst (λ (l : List ℕ). ListsAll (Contains l) is.torches) (sym (section_torches plans)) is.of_plans) ∙ ap length
      (section_torches plans);
  proved = proved;
}

-- ---- what is left

-- the text of a plan isn't empty
pub text_is_some : (cave : Cave) (torches : List ℕ) (floor : Option ℕ) (text : List ℕ) → Prints cave torches floor text
    → 0 < length text
text_is_some cave torches None text prints = rw prints.is (omega arith)
text_is_some cave torches (Some floor) text prints = rw prints.is (omega arith)

-- nothing was taken yet of a text that isn't empty
front_none : (a : Option (List ℕ)) (text : List ℕ) → 0 < length text → TakesFront (stream a a) text
front_none a text some = ([], text, some, refl, none_taken a)

all_is_part : (writer : Stream) (text : List ℕ) → Takes writer text → TakesPart writer text
all_is_part writer text taken = (text, [], sym (append-nil text), taken)

-- the certificate wasn't written whole
pub certificate_failed : (fault : WriteFault) (cave : Cave) (text : List ℕ) (plans : List Plan)
    (held : Option (List ℕ)) (proof : Stream) → IsPlanned cave text plans
    → TakesFront proof (certificate_text cave plans)
    → LeavesProved (of_write fault) cave (outputs (stream held held) proof)
certificate_failed fault cave text plans held proof is front = record
    { each = λ allowance. by fault (begun allowance) }
  where
    begun : (allowance : Allowance) → BeginsTexts cave allowance (outputs (stream held held) proof)
    begun allowance = record {
      text = text;
      proof = certificate_text cave plans;
      are = inl (plans, is, refl);
      written = front_none held text (text_is_some cave is.torches None text is.prints);
      proved = (front.0, front.1, front.3, front.4);
    }

    by : (fault : WriteFault) {allowance : Allowance} → BeginsTexts cave allowance (outputs (stream held held) proof)
        → LeavesIn (of_write fault) cave allowance (outputs (stream held held) proof)
    by writing.WriteFailed b = b
    by writing.OutOfMemory b = (Keeps-refl held, b)

-- the text wasn't written whole
pub text_failed : (fault : RunFault) (cave : Cave) (text : List ℕ) (plans : List Plan)
    (out : Outputs) → fault ≡ faults.WriteFailed → IsPlanned cave text plans
    → TakesFront out.text text → Takes out.proof (certificate_text cave plans)
    → LeavesProved fault cave out
text_failed fault cave text plans out failed is front proved = record {
  each = λ allowance. subst (λ (f : RunFault). LeavesIn f cave allowance out) (sym failed)
      (record {
        text = text;
        proof = certificate_text cave plans;
        are = inl (plans, is, refl);
        written = front;
        proved = all_is_part out.proof (certificate_text cave plans) proved;
      });
}

pub stop_failed : (fault : RunFault) (cave : Cave) (allowance : Allowance) (text : List ℕ) (plans : List Plan)
    (writer : Stream) (proof : Option (List ℕ)) → fault ≡ faults.WriteFailed → IsStoppedAt cave allowance text plans
    → TakesFront writer text → LeavesIn fault cave allowance (outputs writer (stream proof proof))
stop_failed fault cave allowance text plans writer proof failed is front =
    subst (λ (f : RunFault). LeavesIn f cave allowance (outputs writer (stream proof proof))) (sym failed)
    (record {
      text = text;
      proof = [];
      are = inr (plans, is, refl);
      written = front;
      proved = part_none proof [];
    })

-- ---- the whole run

pub leaves : (fault : RunFault) (given : Inputs) (bytes : List ℕ) (allowance : Allowance) (cave : Cave) (out : Outputs)
    → IfSome given.structure.before (λ b. bytes ≡ b) → IsCaveOfBytes bytes given.table given.rule cave
    → LeavesIn fault cave allowance out
    → Leaves fault given allowance out
leaves fault given bytes allowance cave out same told left = by fault left
  where
    begins : (k : Option (List ℕ)) → IfSome k (λ b. bytes ≡ b) → BeginsTexts cave allowance out
        → IfSome k (λ b. BeginsPlan b given.table given.rule allowance out)
    begins None e b = tt
    begins (Some k) e b = record {
      cave = cave;
      told = subst (λ (x : List ℕ). IsCaveOfBytes x given.table given.rule cave) e
          told;
      begins = b;
    }

    by : (f : RunFault) → LeavesIn f cave allowance out
        → Leaves f given allowance out
    by faults.WriteFailed b = begins given.structure.before same b
    by faults.OutOfMemory b = (b.0, inr (begins given.structure.before same b.1))
    by faults.ReadFailed b = absurd b
    by (faults.TooLong i) b = absurd b
    by (faults.Scan f) b = absurd b
    by (faults.Table f) b = absurd b
    by (faults.Build f) b = absurd b
    by (faults.Plan f) b = absurd b
    by (faults.Unlightable x y z) b = absurd b
    by faults.NoThread b = absurd b

pub plans : (known : Option (List ℕ)) (bytes : List ℕ) (table : Option (List ℕ)) (rule : Rule) (allowance : Allowance)
    (cave : Cave) (outcome : Outcome) (out : Outputs)
    → IfSome known (λ b. bytes ≡ b) → IsCaveOfBytes bytes table rule cave
    → EndsIn outcome cave allowance out
    → IfSome known (λ b. Plans b table rule allowance outcome out)
plans None bytes table rule allowance cave outcome out same told ends = tt
plans (Some b) bytes table rule allowance cave outcome out same told ends =
    record { cave = cave; told = subst (λ (x : List ℕ). IsCaveOfBytes x table rule cave) same told; ends = ends }

-- ---- why there is no plan

pub no_plan_input : (known : Option (List ℕ)) (bytes : List ℕ) (table : Option (List ℕ)) (rule : Rule)
    (fault : RunFault) → IfSome known (λ b. bytes ≡ b) → length bytes ≤ structure_limit
    → IsNoPlan bytes table rule fault → IfSome known (λ b. IsNoPlanOfInput b table rule fault)
no_plan_input None bytes table rule fault same within is = tt
no_plan_input (Some b) bytes table rule fault same within is =
    inr (
      subst (λ (x : List ℕ). length x ≤ structure_limit) same within,
      subst
          (λ (x : List ℕ). IsNoPlan x table rule fault) same is,
    )

no_plan_within : (bytes : List ℕ) (table : Option (List ℕ)) (rule : Rule) (due : RunFault)
    → length bytes ≤ structure_limit → IsNoPlanOfInput bytes table rule due → IsNoPlan bytes table rule due
no_plan_within bytes table rule due within (inl long) = absurd (omega (arith, long.0))
no_plan_within bytes table rule due within (inr fault) = fault.1

pub no_plan_refused : (known : Option (List ℕ)) (bytes : List ℕ) (table : Option (List ℕ)) (rule : Rule)
    (Met : RunFault → Type 0) → IfSome known (λ b. bytes ≡ b) → length bytes ≤ structure_limit
    → ((due : RunFault) → IsNoPlan bytes table rule due → Met due)
    → IfSome known (λ b. (due : RunFault) → IsNoPlanOfInput b table rule due → Met due)
no_plan_refused None bytes table rule Met same within met = tt
no_plan_refused (Some b) bytes table rule Met same within met =
    λ due fault. met due (no_plan_within bytes table rule due within
    (subst (λ (x : List ℕ). IsNoPlanOfInput x table rule due) (sym same) fault))

-- a dark cell that no place lights, as it is told by a run
pub unlit_named : (cave : Cave) (e : PlanFault) → NamesUnlightable cave e → NamesUnlit cave (of_plan e)
unlit_named cave e u = record {
  cell = u.cell;
  unlightable = u.unlightable;
  least = u.least;
  named = ap of_plan u.named;
}

-- and as it is told by a plan
pub unlit_fault : (cave : Cave) (due : RunFault) → (u : NamesUnlit cave due)
    → NamesUnlightable cave (unlightable_at (coordinates cave.size u.cell))
unlit_fault cave due u = record {
  cell = u.cell;
  unlightable = u.unlightable;
  least = u.least;
  named = refl;
}

-- where such a fault of the plan is answered, so is that of the run
pub unlit_refused : (cave : Cave) (f : PlanFault)
    → ((e : PlanFault) → NamesUnlightable cave e → (f ≡ e) ⊎ (f ≡ plan.OutOfMemory))
    → (due : RunFault) → NamesUnlit cave due → (of_plan f ≡ due) ⊎ (of_plan f ≡ faults.OutOfMemory)
unlit_refused cave f refused due u =
    told (refused (unlightable_at (coordinates cave.size u.cell)) (unlit_fault cave due u))
  where
    told : (f ≡ unlightable_at (coordinates cave.size u.cell)) ⊎ (f ≡ plan.OutOfMemory)
        → (of_plan f ≡ due) ⊎ (of_plan f ≡ faults.OutOfMemory)
    told (inl same) = inl (ap of_plan same ∙ sym u.named)
    told (inr same) = inr (ap of_plan same)

-- want of threads is told as such alone
pub threads_told : (e : PlanFault) → of_plan e ≡ faults.NoThread → e ≡ plan.NoThread
threads_told (plan.Unlightable x y z) same = cc
threads_told plan.NoThread same = refl
threads_told plan.OutOfMemory same = cc

-- where the cave is refused, a plan is too
pub cave_unplanned : (bytes : List ℕ) (table : Option (List ℕ)) (rule : Rule) (e : CaveFault)
    → ((f : CaveFault) → caves.IsFaultOfBytes bytes table f → (e ≡ f) ⊎ (e ≡ cave_faults.OutOfMemory))
    → ((cave : Cave) → IsCaveOfBytes bytes table rule cave → e ≡ cave_faults.OutOfMemory)
    → (due : RunFault) → IsNoPlan bytes table rule due → (run_fault_of e ≡ due) ⊎ (run_fault_of e ≡ faults.OutOfMemory)
cave_unplanned bytes table rule e refused only due (inl fault) = cave_refused bytes table e refused due fault
cave_unplanned bytes table rule e refused only due (inr (cave, told, unlit)) = inr (ap run_fault_of (only cave told))

-- where there is a cave, only what is unlit in it is a fault
pub unplanned_here : (bytes : List ℕ) (table : Option (List ℕ)) (rule : Rule) (world : Cave)
    → ((f : CaveFault) → caves.IsFaultOfBytes bytes table f → ⊥)
    → ((cave : Cave) → IsCaveOfBytes bytes table rule cave → world ≡ cave)
    → (due : RunFault) → IsNoPlan bytes table rule due → NamesUnlit world due
unplanned_here bytes table rule world clean only due (inl fault) = absurd (cave_clean bytes table clean due fault)
unplanned_here bytes table rule world clean only due (inr (cave, told, unlit)) = subst (λ (w : Cave). NamesUnlit w due)
    (sym (only cave told)) unlit

-- ---- the last write

pub written_in : {X : Type 0} (r : Result X RunFault) (cave : Cave) (text : List ℕ) (plans : List Plan)
    (out : Outputs) → IsPlanned cave text plans
    → OnOk r (Takes out.text text) → Takes out.proof (certificate_text cave plans)
    → OnOk r (WritesBest cave out)
written_in (Ok x) cave text plans out is written proved = writes_best cave text plans out is written proved
written_in (Err e) cave text plans out is written proved = tt

pub text_failed_in : {X : Type 0} (r : Result X RunFault) (cave : Cave) (text : List ℕ) (plans : List Plan)
    (out : Outputs) → IsPlanned cave text plans
    → IfErr r (λ e. e ≡ faults.WriteFailed) → OnErr r (TakesFront out.text text)
    → Takes out.proof (certificate_text cave plans)
    → IfErr r (λ e. LeavesProved e cave out)
text_failed_in (Ok x) cave text plans out is kind front proved = tt
text_failed_in (Err e) cave text plans out is kind front proved = text_failed e cave text
    plans out kind is front proved

-- ---- the run of a plan

-- where no write failed, both writers are as they were
leaves_kept : (fault : RunFault) (given : Inputs) (allowance : Allowance) (held proof : Option (List ℕ))
    → (fault ≡ faults.WriteFailed → ⊥)
    → Leaves fault given allowance (outputs (stream held held) (stream proof proof))
leaves_kept faults.WriteFailed given allowance held proof other = absurd (other refl)
leaves_kept faults.OutOfMemory given allowance held proof other = (Keeps-refl held, inl (Keeps-refl proof))
leaves_kept faults.ReadFailed given allowance held proof other = (Keeps-refl held, Keeps-refl proof)
leaves_kept (faults.TooLong i) given allowance held proof other = (Keeps-refl held, Keeps-refl proof)
leaves_kept (faults.Scan f) given allowance held proof other = (Keeps-refl held, Keeps-refl proof)
leaves_kept (faults.Table f) given allowance held proof other = (Keeps-refl held, Keeps-refl proof)
leaves_kept (faults.Build f) given allowance held proof other = (Keeps-refl held, Keeps-refl proof)
leaves_kept (faults.Plan f) given allowance held proof other = (Keeps-refl held, Keeps-refl proof)
leaves_kept (faults.Unlightable x y z) given allowance held proof other = (Keeps-refl held, Keeps-refl proof)
leaves_kept faults.NoThread given allowance held proof other = (Keeps-refl held, Keeps-refl proof)

-- why there is no plan is no failed write
plan_unwritten : (bytes : List ℕ) (table : Option (List ℕ)) (rule : Rule) (e : RunFault)
    → IsNoPlan bytes table rule e → e ≡ faults.WriteFailed → ⊥
plan_unwritten bytes table rule e (inl fault) is = bytes_unwritten bytes table e fault is
plan_unwritten bytes table rule e (inr (cave, told, unlit)) is = (let both : faults.WriteFailed
    ≡ faults.Unlightable (coordinates cave.size unlit.cell).x (coordinates cave.size unlit.cell).y
    (coordinates cave.size unlit.cell).z = sym is ∙ unlit.named in cc)

-- what a fault of writing leaves, only such a fault and refused memory leave
left_by : (e : RunFault) (cave : Cave) (allowance : Allowance) (out : Outputs)
    → LeavesIn e cave allowance out → (e ≡ faults.WriteFailed) ⊎ (e ≡ faults.OutOfMemory)
left_by faults.WriteFailed cave allowance out b = inl refl
left_by faults.OutOfMemory cave allowance out b = inr refl
left_by faults.ReadFailed cave allowance out b = absurd b
left_by (faults.TooLong i) cave allowance out b = absurd b
left_by (faults.Scan f) cave allowance out b = absurd b
left_by (faults.Table f) cave allowance out b = absurd b
left_by (faults.Build f) cave allowance out b = absurd b
left_by (faults.Plan f) cave allowance out b = absurd b
left_by (faults.Unlightable x y z) cave allowance out b = absurd b
left_by faults.NoThread cave allowance out b = absurd b

-- neither lies in the input, or in a want of threads
none_of_input : (e : RunFault) → (e ≡ faults.WriteFailed) ⊎ (e ≡ faults.OutOfMemory) → IsOfInput e → ⊥
none_of_input e (inl failed) of = of.1 failed
none_of_input e (inr none) of = of.2 none

none_of_threads : (e : RunFault) → (e ≡ faults.WriteFailed) ⊎ (e ≡ faults.OutOfMemory) → e ≡ faults.NoThread → ⊥
none_of_threads e (inl failed) is = (let both : faults.WriteFailed ≡ faults.NoThread = sym failed ∙ is in cc)
none_of_threads e (inr none) is = (let both : faults.OutOfMemory ≡ faults.NoThread = sym none ∙ is in cc)

unread_of_threads : (e : RunFault) → IsNotRead e → e ≡ faults.NoThread → ⊥
unread_of_threads e (inl failed) is = (let both : faults.ReadFailed ≡ faults.NoThread = sym failed ∙ is in cc)
unread_of_threads e (inr (inl long)) is =
    (let both : faults.TooLong StructureInput ≡ faults.NoThread = sym long ∙ is in cc)
unread_of_threads e (inr (inr none)) is = (let both : faults.OutOfMemory ≡ faults.NoThread = sym none ∙ is in cc)

module _ (given : Inputs) (allowance : Allowance) where
  -- a run whose input wasn't read
  pub plan_unread : (e : RunFault) (held proof : Option (List ℕ)) → IsNotRead e → IsTooLong given.structure.before e
      → (e ≡ faults.ReadFailed → GivesAtMost structure_limit given.structure.before given.structure.after)
      → IsRunOfPlan given allowance (Err e) (outputs (stream held held) (stream proof proof))
  plan_unread e held proof not_read long before = record {
    done = tt;
    left = leaves_kept e given allowance held proof (unwritten e not_read);
    fault = λ of thread. long_input (λ bytes f. IsNoPlan bytes given.table given.rule f) given.structure.before e
        not_read long of;
    refused = long_refused (λ bytes f. IsNoPlan bytes given.table given.rule f)
        (λ due. (e ≡ due) ⊎ (e ≡ faults.ReadFailed) ⊎ (e ≡ faults.OutOfMemory)) given.structure.before e not_read long
        (λ due same. inl same) (λ failed due. inr (inl failed)) (λ none due. inr (inr none));
    threads = λ is. absurd (unread_of_threads e not_read is);
    before = before;
  }

  module _ (bytes : List ℕ) (same : IfSome given.structure.before (λ b. bytes ≡ b))
      (within : length bytes ≤ structure_limit)
      (ended : GivesAtMost structure_limit given.structure.before given.structure.after) where
    -- one whose input has no plan, or that gets no thread
    pub plan_refused : (e : RunFault) (held proof : Option (List ℕ))
        → (e ≢ faults.OutOfMemory → e ≢ faults.NoThread → IsNoPlan bytes given.table given.rule e)
        → (e ≡ faults.NoThread → 1 < allowance.workers)
        → ((due : RunFault) → IsNoPlan bytes given.table given.rule due → (e ≡ due) ⊎ (e ≡ faults.OutOfMemory))
        → IsRunOfPlan given allowance (Err e) (outputs (stream held held) (stream proof proof))
    plan_refused e held proof told threads refused = record {
      done = tt;
      left = leaves_kept e given allowance held proof (λ failed. plan_unwritten bytes given.table given.rule e (told
          (λ none. (let both : faults.WriteFailed ≡ faults.OutOfMemory = sym failed ∙ none in cc))
          (λ thread. (let both : faults.WriteFailed ≡ faults.NoThread = sym failed ∙ thread in cc))) failed);
      fault = λ of thread. no_plan_input given.structure.before bytes given.table given.rule e same within
          (told of.2 thread);
      refused = no_plan_refused given.structure.before bytes given.table given.rule
          (λ due. (e ≡ due) ⊎ (e ≡ faults.ReadFailed) ⊎ (e ≡ faults.OutOfMemory)) same within
          (λ due of. widened e due (refused due of));
      threads = threads;
      before = λ failed. ended;
    }

    -- one that ends with the writes of its texts
    pub plan_ended : (cave : Cave) (r : Result Outcome RunFault) (out : Outputs)
        → IsCaveOfBytes bytes given.table given.rule cave
        → ((due : RunFault) → IsNoPlan bytes given.table given.rule due → ⊥)
        → IfOk r (λ outcome. EndsIn outcome cave allowance out)
        → IfErr r (λ e. LeavesIn e cave allowance out)
        → IsRunOfPlan given allowance r out
    plan_ended cave (Ok outcome) out told clean ends left = record {
      done = plans given.structure.before bytes given.table given.rule allowance cave outcome out same told ends;
      left = tt;
      fault = tt;
      refused = no_plan_refused given.structure.before bytes given.table given.rule (λ due. ⊥) same within clean;
      threads = tt;
      before = tt;
    }
    plan_ended cave (Err e) out told clean ends left =
        let by = left_by e cave allowance out left in record {
          done = tt;
          left = leaves e given bytes allowance cave out same told left;
          fault = λ of thread. absurd (none_of_input e by of);
          refused = no_plan_refused given.structure.before bytes given.table given.rule
              (λ due. (e ≡ due) ⊎ (e ≡ faults.ReadFailed) ⊎ (e ≡ faults.OutOfMemory)) same within
              (λ due of. absurd (clean due of));
          threads = λ is. absurd (none_of_threads e by is);
          before = λ failed. ended;
        }
