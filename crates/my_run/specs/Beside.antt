-- What stands beside the connections of a run, as its map has it.
use Rattle.std.specs.Prelude.{ℕ, Option, Some, None, Bool, true, unwrap_or}
use Rattle.std.specs.Ordering.{nat_cmp}
use Rattle.std.specs.BTreeMap.{get}
use Rattle.my_script.specs.declared.aim.Aim.{Aim}
use Rattle.my_script.specs.declared.aim.Aim.TheVariants as aims
use Rattle.my_script.specs.declared.beside.Beside.{Beside}
use Rattle.my_script.specs.declared.step.Step.{Step}
use Rattle.my_script.specs.Beside.{finds, nothing_beside}
use Rattle.my_run.specs.declared.beside.BesideEach.{BesideEach}

-- at a number that no step named there is nothing
abbrev pub beside_in : BesideEach → ℕ → Beside
beside_in b n = unwrap_or (get nat_cmp b.made n) nothing_beside

abbrev pub is_found_in : BesideEach → Option ℕ → Step → Bool
is_found_in b None step = true
is_found_in b (Some n) step = finds (beside_in b n) step

abbrev pub aim_in : BesideEach → Option ℕ → Aim
aim_in b None = aims.Row
aim_in b (Some n) = (beside_in b n).aim
