-- What a run of levels prints of the bytes that it reads, or why it refuses them. This is this project's own.
use Rattle.std.specs.Prelude.{◌≡◌, ◌⊎◌, ℕ, List, [], Option, Some, None}
use Rattle.cave_model.specs.Cave.{Cave}
use Rattle.cave_model.specs.Plan.{cave_with}
use Rattle.cave_model.specs.Rule.{Rule}
use Rattle.cave_reading.specs.Bytes.{IsCaveOfBytes}
use Rattle.plan_reading.specs.Placed.{ArePlacedBy, IsPlanFault}
use Rattle.plan_reading.specs.declared.fault.TorchesFault.{TorchesFault}
use Rattle.cave_runs.specs.Faults.{of_torches}
use Rattle.cave_runs.specs.LevelsText.{IsLevelsText}
use Rattle.cave_runs.specs.Runs.{IsFaultOfBytes}
use Rattle.cave_runs.specs.declared.fault.RunFault.{RunFault}

-- the cells of the torches that a plan tells, where there is one
abbrev pub AreNewTorches : Cave → Option (List ℕ) → List ℕ → Type 0
AreNewTorches cave None cells = cells ≡ []
AreNewTorches cave (Some plan) cells = ArePlacedBy cave plan cells

-- the cave with these torches
abbrev pub IsCaveLitBy : Cave → Option (List ℕ) → Cave → Type 0
IsCaveLitBy cave plan lit = (cells : List ℕ) × AreNewTorches cave plan cells × (lit ≡ cave_with cave cells)

-- the text of the levels of the cave that the bytes tell, with the torches of the plan
abbrev pub IsLevelsTextOf : List ℕ → Option (List ℕ) → Rule → Option (List ℕ) → List ℕ → Type 0
IsLevelsTextOf bytes table rule plan text = (cave : Cave) × IsCaveOfBytes bytes table rule cave
    × ((lit : Cave) × IsCaveLitBy cave plan lit × IsLevelsText lit text)

-- why the plan gives the cave no torches, as a run answers it
abbrev pub IsFaultOfPlan : Cave → Option (List ℕ) → RunFault → Type 0
IsFaultOfPlan cave None fault = ⊥
IsFaultOfPlan cave (Some plan) fault = (inner : TorchesFault) × IsPlanFault cave plan inner × (fault ≡ of_torches inner)

-- why there are no levels: the bytes tell no cave, or the plan gives it no torches
abbrev pub IsFaultOfLevels : List ℕ → Option (List ℕ) → Rule → Option (List ℕ) → RunFault → Type 0
IsFaultOfLevels bytes table rule plan fault = IsFaultOfBytes bytes table fault
    ⊎ ((cave : Cave) × IsCaveOfBytes bytes table rule cave × IsFaultOfPlan cave plan fault)
