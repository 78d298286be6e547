-- What is gathered.
use Rattle.std.proofs.Common.{◌≡◌, ℕ, ◌+◌, ◌<◌, ◌≤◌, List, [], length, min, sym, ap}
use Rattle.std.proofs.Common.{◌∙◌, subst, arith}
use Rattle.std.proofs.lemmas.List.{length-replicate}
use Rattle.set_cover.specs.Instance.{Instance, of_instance}
use Rattle.instance_regions.specs.Cover.{Covering}
use Rattle.proof_rules.specs.Tree.{Tree, leaf}
use Rattle.proof_rules.proofs.ListLemmas.{all_members, no_member}
use Rattle.instance_regions.specs.Region.{IsRegion}
use Rattle.std.specs.Prelude.{slice_index}
use Rattle.std.proofs.lemmas.List.Elements.{Contains-get_or}
use Rattle.proof_tree.specs.Piece.{Subproblem, root_of}
use Rattle.pack_bound.specs.Pieces.{IsScattered, SomeWhereUnlit}
use Rattle.event_core.specs.State.{State, Begins, IsDone}
use Rattle.event_core.specs.Kept.{Kept, state_of, IsAssembly}
use Rattle.event_core.specs.Plays.{Plays}
use Rattle.schedule_law.specs.Worked.{Worked}
use Rattle.search_traits.specs.Planned.{IsProvedTo, NoneBelow, ProvesAt}
use Rattle.search_traits.proofs.PlannedLemmas.{none_below_tree}
use Rattle.gathering.specs.Playing.{tries_before_closes, TriesAllCloses}
use Rattle.gathering.specs.Gathered.{ArePlayed, IsGathered, Gleans}
use Rattle.gathering.specs.Gleaning.{NoneHeld}
use Rattle.gathering.proofs.HoldLemmas.{free_at_first, free_before_closes, free_all_closes}
use Rattle.gathering.proofs.LikeLemmas.{IsLike, like_plays, like_all_closes, like_then, like_gleans}

-- ---- once the works were played

-- from the start through all that comes before closing, and all closing, the works were played
pub played : (region same : Instance) (first : List ℕ) (aim : ℕ) (works others : List Worked) (counts : List ℕ)
    (caller : ℕ) (start opened closed : State)
    → same ≡ region → caller ≡ length works → others ≡ works → Begins same first aim (caller + 1) start
    → Plays start (tries_before_closes others) opened → TriesAllCloses opened 0 works counts closed
    → ArePlayed region first aim works counts closed
played region same first aim works others counts caller start opened closed e count those begins opens closes = record {
  start = start;
  begins = subst (λ (n : ℕ). Begins region first aim (n + 1) start) count
      (subst (λ (r : Instance). Begins r first aim (caller + 1) start) e begins);
  opened = opened;
  opens = subst (λ (ws : List Worked). Plays start (tries_before_closes ws) opened) those opens;
  closes = closes;
}

module _ (region : Instance) (first : List ℕ) (aim : ℕ) (works : List Worked) (counts : List ℕ) (closed : State)
    (p : ArePlayed region first aim works counts closed) where
  -- after all closing no piece is held
  pub played_none_held : NoneHeld closed
  played_none_held =
      free_all_closes 0 works counts p.opened closed
      (free_before_closes works p.start p.opened (free_at_first region first aim
      (length works + 1) p.start p.begins) p.opens) p.closes

  played_like : IsLike p.start closed
  played_like = like_then p.start p.opened closed (like_plays p.start (tries_before_closes works) p.opened p.opens)
      (like_all_closes p.opened 0 works counts closed p.closes)

  -- the region is the same
  pub played_region : closed.region ≡ region
  played_region = played_like.of_it ∙ p.begins.of_it

  -- so is the aim
  pub played_aim : closed.aim ≡ aim
  played_aim = played_like.aimed ∙ p.begins.aimed

  -- and the caller is known
  pub played_workers : length works < length closed.seen
  played_workers =
      let many = ap length p.begins.seen in
      let count = length-replicate (length works + 1) (min aim (length first)) in
      omega (arith, played_like.workers, many, count)

  -- what is assembled then
  pub gathered : (names : List (List ℕ)) (final : Kept) (cover : Covering) (tree : Tree)
      → Gleans closed (length works) names (state_of final) → IsDone (state_of final)
      → IsAssembly final cover tree → IsGathered region first aim works
      (record { cover = cover; tree = tree; closed_by = counts; gleaned = names })
  gathered names final cover tree gleans done a =
      let same : final.region ≡ region = (like_gleans closed (length works) names (state_of final) gleans).of_it
      ∙ played_region in
      record {
        start = p.start;
        begins = p.begins;
        opened = p.opened;
        opens = p.opens;
        closed = closed;
        closes = p.closes;
        final = state_of final;
        gleans = gleans;
        done = done;
        best = a.best ∙ ap (λ (r : Instance). record { region = r; places = final.best }) same;
        assembled = a.assembled;
      }

  -- with all names gleaned, the best cover is the region's, and its tree is proved to the aim
  pub gathered_to : (names : List (List ℕ)) (final : Kept) (cover : Covering) (tree : Tree)
      → Gleans closed (length works) names (state_of final) → IsAssembly final cover tree
      → IsProvedTo region aim cover tree
  gathered_to names final cover tree gleans a =
      let like = like_gleans closed (length works) names (state_of final) gleans in
      let same : final.region ≡ region = like.of_it ∙ played_region in
      let aimed : final.aim ≡ aim = like.aimed ∙ played_aim in
      let goal : min final.aim (length final.best) ≡ min aim (length cover.places) =
      λ i. min (aimed i) (length (sym a.best i).places) in
      record {
        of_it = ap (λ (x : Covering). x.region) a.best ∙ same;
        proved = subst (λ (r : Instance). ProvesAt r (min aim (length cover.places)) tree) same
            (subst (λ (n : ℕ). ProvesAt final.region n tree) goal a.good);
      }

-- ---- once the turns are spent

-- scattered cells of the root bound every cover of the region from below
pub scattered_floor : (region : Instance) (cells : List ℕ) (size : ℕ) (piece : Subproblem)
    → IsRegion region → piece ≡ root_of region → size ≡ length cells → IsScattered piece cells
    → SomeWhereUnlit piece cells → (1 ≤ size) × NoneBelow region size
scattered_floor region cells size piece kept is e apart some =
    let cell = slice_index region.cells 0 in
    let least : 0 < length cells = subst (λ (p : Subproblem). SomeWhereUnlit p cells) is some cell
    (record {
      of_it = Contains-get_or region.cells 0 0 kept.filled;
      unlit = all_members (λ place. ¬ (of_instance region).Covers place cell) []
          (λ y h. no_member y h);
    }) in
    let scattered = subst (λ (p : Subproblem). IsScattered p cells) is apart in
    (omega (arith, least, e), none_below_tree region size (leaf cells) (scattered, omega (arith, e)))
