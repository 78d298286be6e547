-- The lines of a certificate before its regions. This is this project's own.
use Rattle.std.specs.Prelude.{ℕ, List, [], ◌∷◌, ◌++◌, codes, decimal}
use Rattle.cave_base.specs.Box.{Point}
use Rattle.cave_model.specs.Cave.{Cave}
use Rattle.proof_rules.specs.Certificate.{Version}
use Rattle.proof_rules.specs.Text.{ended, line, head_lines}

-- the lines of version, box, rule, and how many regions there are
abbrev pub heading_lines : Cave → ℕ → Version → List (List ℕ)
heading_lines cave regions version = head_lines version
    (line (codes "box") (cave.size.x ∷ cave.size.y ∷ cave.size.z ∷ []))
    (line (codes "headroom") (cave.rule.headroom ∷ []))
    ++ line (codes "regions") (regions ∷ []) ∷ []

-- version, box, rule, and how many regions there are
abbrev pub heading_text : Cave → ℕ → Version → List ℕ
heading_text cave regions version = ended (heading_lines cave regions version)

-- version, box and headroom, written out
abbrev pub front_text : List ℕ → Point → ℕ → List ℕ
front_text version size headroom = version ++ (codes "\nbox " ++ (decimal size.x ++ (codes " " ++ (decimal size.y
    ++ (codes " " ++ (decimal size.z ++ (codes "\nheadroom " ++ (decimal headroom ++ codes "\n"))))))))

-- need, and how many regions there are
abbrev pub need_text : ℕ → ℕ → List ℕ
need_text need regions = ended (line (codes "need") (need ∷ []) ∷ line (codes "regions") (regions ∷ []) ∷ [])
