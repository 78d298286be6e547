-- The open branches and picks as they are kept: lists of the chosen and the barred places and of the cells left out,
-- cut back as they end.
-- This is this project's own.
use Rattle.std.specs.Prelude.{◌≡◌, ℕ, ◌+◌, ◌<◌, List, [], ◌∷◌, ◌++◌, length, drop, Contains, IsTrue}
use Rattle.std.specs.Prelude.{slice_index, false}
use Rattle.lit_lists.specs.Lists.{LitLists, is_marked}
use Rattle.node_judges.specs.Tally.{Tally}
use Rattle.node_judges.specs.declared.setting.Setting.{Setting}
use Rattle.proof_check.specs.Judged.{Frame, Spot, close, enter, pick_at}
use Rattle.proof_check.specs.declared.track.Frame as held
use Rattle.proof_check.specs.declared.track.Track as kept

-- a frame as it is kept: its places, the index of the one that is chosen, how many places were barred and how many
-- cells left out before it, and whether it is a pick
pub record IsFrameOf (lists : LitLists) (inner : held.Frame) (frame : Frame) : Type 0 where
  pub bars : inner.bars ≡ length frame.barred
  pub omits : inner.omits ≡ length frame.omitted
  pub within : inner.index < length inner.places.items
  pub place : slice_index inner.places.items inner.index ≡ frame.place
  pub later : drop (inner.index + 1) inner.places.items ≡ frame.later
  pub picked : inner.is_pick ≡ frame.picked
  pub legal : (place : ℕ) → Contains inner.places.items place → IsTrue (is_marked lists.places place)

-- the lists and the kept frames, the innermost last, are those of the frames, the innermost first
abbrev pub Fits : LitLists → List ℕ → List ℕ → List ℕ → List held.Frame → List Frame → Type 0
Fits lists chosen barred omitted kept [] = (kept ≡ []) × (chosen ≡ [])
Fits lists chosen barred omitted kept (frame ∷ frames) = (front : List held.Frame) × (last : held.Frame)
    × (kept ≡ front ++ last ∷ [])
    × IsFrameOf lists last frame × (chosen ≡ frame.chosen ++ frame.place ∷ [])
    × (more : List ℕ) × (barred ≡ frame.barred ++ more) × (gone : List ℕ) × (omitted ≡ frame.omitted ++ gone)
    × Fits lists frame.chosen frame.barred frame.omitted front frames

-- the kept lists and frames are those of the spot
pub record IsAt (lists : LitLists) (spot : Spot) (chosen barred omitted : List ℕ)
    (kept : List held.Frame) : Type 0 where
  pub chosen_is : chosen ≡ spot.chosen
  pub barred_is : barred ≡ spot.barred
  pub omitted_is : omitted ≡ spot.omitted
  pub fits : Fits lists chosen barred omitted kept spot.frames

-- the frame has gone on to its next place
pub record IsNextKid (limit bar_limit : ℕ) (frame : held.Frame) (old new : kept.Track) : Type 0 where
  pub place : slice_index frame.places.items frame.index < bar_limit
      → new.barred.items ≡ old.barred.items ++ slice_index frame.places.items frame.index ∷ []
  pub next : slice_index frame.places.items (frame.index + 1) < limit
      → new.chosen.items ≡ old.chosen.items ++ slice_index frame.places.items (frame.index + 1) ∷ []
  pub last : held.Frame
  pub frames : new.frames.items ≡ old.frames.items ++ last ∷ []
  pub same : last.places.items ≡ frame.places.items
  pub index : last.index ≡ frame.index + 1
  pub bars : last.bars ≡ length new.barred.items
  pub omits : last.omits ≡ length old.omitted.items
  pub branch : last.is_pick ≡ false
  pub still : new.omitted ≡ old.omitted

-- the place of the pick is barred, where it has one; its second tree comes
pub record IsSecondTree (bar_limit : ℕ) (frame : held.Frame) (old new : kept.Track) : Type 0 where
  pub place : frame.index < length frame.places.items → slice_index frame.places.items frame.index < bar_limit
      → new.barred.items ≡ old.barred.items ++ slice_index frame.places.items frame.index ∷ []
  pub chosen : new.chosen ≡ old.chosen
  pub omitted : new.omitted ≡ old.omitted
  pub frames : new.frames.items ≡ old.frames.items

-- where a tree ends, what comes after it
pub record ClosesFrames (limit : ℕ) (chosen barred omitted : List ℕ) (kept : List held.Frame)
    (new_chosen new_barred new_omitted : List ℕ) (new_kept : List held.Frame) : Type 0 where
  pub each : (lists : LitLists) (frames : List Frame) → length lists.places ≡ limit
      → Fits lists chosen barred omitted kept frames
      → IsAt lists (close frames) new_chosen new_barred new_omitted new_kept

-- a branch on these places
pub record Enters (limit : ℕ) (places chosen barred omitted : List ℕ) (kept : List held.Frame)
    (new_chosen new_barred new_omitted : List ℕ) (new_kept : List held.Frame) : Type 0 where
  pub each : (lists : LitLists) (frames : List Frame) → length lists.places ≡ limit → ((place : ℕ)
      → Contains places place → IsTrue (is_marked lists.places place))
      → Fits lists chosen barred omitted kept frames → IsAt lists
      (enter chosen barred omitted places frames) new_chosen new_barred new_omitted new_kept

-- a pick of this place
pub record EntersPick (limit place : ℕ) (chosen barred omitted : List ℕ) (kept : List held.Frame)
    (new_chosen new_barred new_omitted : List ℕ) (new_kept : List held.Frame) : Type 0 where
  pub each : (lists : LitLists) (frames : List Frame) → length lists.places ≡ limit
      → IsTrue (is_marked lists.places place)
      → Fits lists chosen barred omitted kept frames → IsAt lists
      (pick_at chosen barred omitted place frames) new_chosen new_barred new_omitted new_kept

-- nothing is chosen, barred or left out, and no frame is kept
pub record IsCleared (old new : kept.Track) : Type 0 where
  pub chosen : new.chosen.items ≡ []
  pub barred : new.barred.items ≡ []
  pub omitted : new.omitted.items ≡ []
  pub frames : new.frames.items ≡ []
  pub whole : length new.chosen.counts ≡ length old.chosen.counts
  pub wide : length new.barred.counts ≡ length old.barred.counts
  pub long : length new.omitted.counts ≡ length old.omitted.counts

-- the setting has these lists, this region, and what the track has left out, chosen and barred
pub record IsSettingOf (lists : LitLists) (region : Tally) (track : kept.Track) (setting : Setting) : Type 0 where
  pub lists_are : setting.lists.now ≡ lists
  pub region_is : setting.region.now ≡ region
  pub omitted_are : setting.omitted.now ≡ track.omitted
  pub chosen_are : setting.chosen.now ≡ track.chosen
  pub barred_are : setting.barred.now ≡ track.barred
