-- What clauses see of a world in memory.
use Rattle.std.specs.Prelude.{ℕ, List, Some, None, map, Bool, true, if◌then◌else◌}
use Rattle.my_link.specs.Planned.{PlannedItems, items_at}
use Rattle.my_link.specs.declared.mem_world.dials.PlannedDial.{PlannedDial}
use Rattle.my_link.specs.MemDials.{dials_at}
use Rattle.my_link.specs.declared.mem_world.EndedLink.{EndedLink}
use Rattle.my_link.specs.MemLink.{looks_of}
use Rattle.my_link.specs.World.{Plans, DialCounts, WorldSeen, Back}

abbrev pub plans_of : List PlannedItems → List PlannedDial → Plans
plans_of links dials = record {
  reads = λ n. Some ((items_at n links).reads);
  writes = λ n. Some ((items_at n links).writes);
  dials = λ n. Some (dials_at n dials);
}

abbrev pub back_of : EndedLink → Back
back_of e = record { number = e.number; looks = looks_of e.link }

-- It takes a plan, and tells all that it does; what was handed back it tells as long as none of it was lost for want of memory.
abbrev pub world_of : List PlannedItems → List PlannedDial → DialCounts → ℕ → List ℕ → List EndedLink → Bool → WorldSeen
world_of links dials counts moment randoms ended lost = record {
  takes = true;
  plans = plans_of links dials;
  dials = counts;
  chance = record { moment = Some moment; randoms = Some randoms };
  back = if lost then None else Some (map back_of ended);
}
