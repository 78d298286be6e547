-- The shipped rows, block by block, in their order. Every entry is this project's own.
use Rattle.std.specs.Prelude.{◌≡◌, ◌≢◌, ℕ, true, false, List, [], ◌∷◌, ◌++◌, map, codes, AllPairs}
use Rattle.block_rows.specs.declared.row.Row.{Row}
use Rattle.cave_base.specs.declared.class.Class.{Class}

-- a row for each name, which stands behind the game's prefix, with the properties that it asks for
abbrev pub rows_named : List (List ℕ) → List (List ℕ × List ℕ) → Class → List Row
rows_named names when class =
    map (λ name. record { name = codes "minecraft:" ++ name; when = when; class = class }) names

-- a class of which no more is said than its opacity and its emission
abbrev pub plain : ℕ → ℕ → Class
plain opacity emission = record {
  opacity = opacity;
  emission = emission;
  free = false;
  stand = false;
  put = false;
  top = false;
  side = false;
}

-- the same class, but room for a mob
abbrev pub with_free : Class → Class
with_free class = record {
  opacity = class.opacity;
  emission = class.emission;
  free = true;
  stand = class.stand;
  put = class.put;
  top = class.top;
  side = class.side;
}

-- the same class, but ground for a mob
abbrev pub with_stand : Class → Class
with_stand class = record {
  opacity = class.opacity;
  emission = class.emission;
  free = class.free;
  stand = true;
  put = class.put;
  top = class.top;
  side = class.side;
}

-- the same class, but a torch may take its place
abbrev pub with_put : Class → Class
with_put class = record {
  opacity = class.opacity;
  emission = class.emission;
  free = class.free;
  stand = class.stand;
  put = true;
  top = class.top;
  side = class.side;
}

-- the same class, but a torch may stand on it
abbrev pub with_top : Class → Class
with_top class = record {
  opacity = class.opacity;
  emission = class.emission;
  free = class.free;
  stand = class.stand;
  put = class.put;
  top = true;
  side = class.side;
}

-- the same class, but a torch may hang on its side
abbrev pub with_side : Class → Class
with_side class = record {
  opacity = class.opacity;
  emission = class.emission;
  free = class.free;
  stand = class.stand;
  put = class.put;
  top = class.top;
  side = true;
}

-- the blocks that fill their cell, give no light, and hold whatever stands on them or hangs on their sides
abbrev pub full_blocks : List (List ℕ)
full_blocks = codes "stone" ∷ codes "granite" ∷ codes "diorite" ∷ codes "andesite" ∷ codes "deepslate" ∷ codes "tuff"
    ∷ codes "calcite" ∷ codes "cobblestone" ∷ codes "mossy_cobblestone" ∷ codes "cobbled_deepslate"
    ∷ codes "polished_deepslate" ∷ codes "deepslate_bricks" ∷ codes "deepslate_tiles" ∷ codes "stone_bricks"
    ∷ codes "mossy_stone_bricks" ∷ codes "cracked_stone_bricks" ∷ codes "chiseled_stone_bricks" ∷ codes "bricks"
    ∷ codes "dirt" ∷ codes "coarse_dirt" ∷ codes "rooted_dirt" ∷ codes "grass_block" ∷ codes "gravel" ∷ codes "sand"
    ∷ codes "red_sand" ∷ codes "sandstone" ∷ codes "red_sandstone" ∷ codes "clay" ∷ codes "terracotta" ∷ codes "basalt"
    ∷ codes "smooth_basalt" ∷ codes "dripstone_block" ∷ codes "moss_block" ∷ codes "obsidian" ∷ codes "amethyst_block"
    ∷ codes "coal_ore" ∷ codes "iron_ore" ∷ codes "copper_ore" ∷ codes "gold_ore" ∷ codes "redstone_ore"
    ∷ codes "emerald_ore" ∷ codes "lapis_ore" ∷ codes "diamond_ore" ∷ codes "deepslate_coal_ore"
    ∷ codes "deepslate_iron_ore" ∷ codes "deepslate_copper_ore" ∷ codes "deepslate_gold_ore"
    ∷ codes "deepslate_redstone_ore" ∷ codes "deepslate_emerald_ore" ∷ codes "deepslate_lapis_ore"
    ∷ codes "deepslate_diamond_ore" ∷ codes "raw_iron_block" ∷ codes "raw_copper_block" ∷ codes "raw_gold_block"
    ∷ codes "oak_planks" ∷ []

-- the rows; a redstone lamp asks for `lit` in the first of its two
unfoldable pub shipped_rows : List Row
shipped_rows =
    rows_named (codes "air" ∷ codes "cave_air" ∷ codes "void_air" ∷ []) [] (with_put (with_free (plain 0 0)))
    ++ rows_named full_blocks [] (with_side (with_top (with_stand (plain 15 0))))
    ++ rows_named (codes "bedrock" ∷ []) [] (with_side (with_top (plain 15 0)))
    ++ rows_named (codes "glass" ∷ []) [] (with_side (with_top (plain 0 0)))
    ++ rows_named (codes "water" ∷ []) [] (plain 1 0)
    ++ rows_named (codes "lava" ∷ []) [] (plain 1 15)
    ++ rows_named (codes "torch" ∷ codes "wall_torch" ∷ []) [] (with_free (plain 0 14))
    ++ rows_named (codes "soul_torch" ∷ codes "soul_wall_torch" ∷ []) [] (with_free (plain 0 10))
    ++ rows_named (codes "lantern" ∷ []) [] (plain 0 15)
    ++ rows_named (codes "soul_lantern" ∷ []) [] (plain 0 10)
    ++ rows_named (codes "glowstone" ∷ codes "sea_lantern" ∷ codes "shroomlight" ∷ []) []
    (with_side (with_top (plain 15 15)))
    ++ rows_named (codes "magma_block" ∷ []) [] (with_side (with_top (plain 15 3)))
    ++ rows_named (codes "jack_o_lantern" ∷ []) [] (with_side (with_top (with_stand (plain 15 15))))
    ++ rows_named (codes "redstone_lamp" ∷ []) ((codes "lit", codes "true") ∷ [])
    (with_side (with_top (with_stand (plain 15 15))))
    ++ rows_named (codes "redstone_lamp" ∷ []) [] (with_side (with_top (with_stand (plain 15 0))))
    ++ rows_named (codes "rail" ∷ codes "powered_rail" ∷ codes "detector_rail" ∷ codes "activator_rail" ∷ []) []
    (plain 0 0)

-- rows of one name differ in what they ask for
abbrev pub AreDistinctRows : List Row → Type 0
AreDistinctRows rows = AllPairs (λ a b. a.name ≡ b.name → a.when ≢ b.when) rows
