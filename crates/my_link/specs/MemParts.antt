-- What a line is a plan of, for a world in memory.
use Rattle.std.specs.Prelude.{◌≡◌, [], ◌∷◌}
use Rattle.my_link.specs.declared.line.WorldLine.{WorldLine}
use Rattle.my_link.specs.declared.line.WorldLine.TheVariants as lines
use Rattle.my_link.specs.declared.mem_world.Part.{Part}
use Rattle.my_link.specs.declared.mem_world.Part.TheVariants.{Links, Dial, Advance, Random}
use Rattle.my_link.specs.Items.{no_items}
use Rattle.my_link.specs.Plan.{link_of, given_by, dials_of, chance_on}
use Rattle.my_link.specs.World.{Chance}

-- it does nothing to the moment and to the random words
abbrev pub LeavesChance : WorldLine → Type 0
LeavesChance line = (c : Chance) → chance_on line c ≡ c

abbrev pub PartIs : WorldLine → Part → Type 0
PartIs line Links = (dials_of line ≡ []) × LeavesChance line
PartIs line (Dial d) = (link_of line ≡ d.number) × (dials_of line ≡ d.item ∷ []) × (given_by line ≡ no_items)
    × LeavesChance line
PartIs line (Advance by) = line ≡ lines.Advance by
PartIs line (Random word) = line ≡ lines.Random word
