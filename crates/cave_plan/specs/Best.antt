-- The torches of best plans, and the order and the version of their certificate. This is this project's own.
use Rattle.std.specs.Prelude.{◌≡◌, ℕ, ◌≤◌, List, map, Contains, slice_index}
use Rattle.std.specs.List.Sorted.{IsStrictlyIncreasing}
use Rattle.cave_model.specs.Listing.{ListsAll}
use Rattle.proof_rules.specs.Certificate.{Section, Version, Certificate, version_number, need_of, IsVersionOf}
use Rattle.proof_rules.specs.Certificate.{torches_of}
use Rattle.certificate_text.specs.Planned.{Plan, section_of}

-- just the torches of the certificate, in the order of their cells
abbrev pub AreTorchesOf : List Plan → List ℕ → Type 0
AreTorchesOf plans cells = ListsAll (Contains (torches_of (map section_of plans))) cells

-- the sections stand by their least cells, which come first in each
abbrev pub AreByLeastCell : List Section → Type 0
AreByLeastCell sections = IsStrictlyIncreasing (map (λ section. slice_index section.cells 0) sections)

-- each version that can speak of the certificate's sections, under its need, has at least the number of its own
pub record IsInLeastVersion (certificate : Certificate) : Type 0 where
  pub least : (version : Version) → IsVersionOf certificate.sections version
      → need_of version ≡ need_of certificate.version → version_number certificate.version ≤ version_number version
